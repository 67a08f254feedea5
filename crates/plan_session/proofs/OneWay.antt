-- A session is opened in one way, and it follows an edit in one way.
use Rattle.std.proofs.Common.{◌≡◌, List, ◌++◌, length, ap, sym, ◌∙◌, subst, arith}
use Rattle.std.proofs.lemmas.List.{length-append}
use Rattle.net_model.specs.Network.{Plan}
use Rattle.net_model.specs.declared.edit.Edit.{Edit}
use Rattle.closure_model.specs.Derivations.{Support, base_support}
use Rattle.closure_model.specs.ReferenceRounds.{RoundsEnd, RoundsEndInOneWay}
use Rattle.closure_model.specs.declared.derivation.Node.{Node}
use Rattle.edit_laws.specs.EditNumbers.{new_base_nodes}
use Rattle.support_records.specs.FollowedStores.{IsFollowed}
use Rattle.support_records.specs.declared.store.Withdrawn.{Withdrawn}
use Rattle.plan_session.specs.Laws.{SessionsOpenInOneWay, EditsAreFollowedInOneWay}
use Rattle.plan_session.specs.Sessions.{Opened}

opened_as : (one other : Opened) → one.support ≡ other.support → one.ending ≡ other.ending → one ≡ other
opened_as one other support ending = λ i. record { support = support i; ending = ending i }

pub law_sessions_open_in_one_way : RoundsEndInOneWay → SessionsOpenInOneWay
law_sessions_open_in_one_way end net one other a b =
    let (rounds, support, ending) = end net (base_support net) one.support other.support a.rounds b.rounds one.ending other.ending a.ends b.ends in
    opened_as one other support ending

module _ (old : Plan) (edit : Edit) (new : Plan) (before : Support) where
  start_one : (one other : Support) (answer also : Withdrawn) → IsFollowed old edit new before one answer → IsFollowed old edit new before other also → one ≡ other
  start_one one other answer also a b = a.is ∙ sym b.is

  -- as many are kept
  kept_one : (one other : Support) (answer also : Withdrawn) → IsFollowed old edit new before one answer → IsFollowed old edit new before other also → answer.kept ≡ also.kept
  kept_one one other answer also a b =
      let lists : a.kept ++ new_base_nodes old edit new ≡ b.kept ++ new_base_nodes old edit new = sym a.list ∙ (ap (λ (s : Support). s.nodes) (start_one one other answer also a b) ∙ b.list) in
      let sizes : length (a.kept ++ new_base_nodes old edit new) ≡ length (b.kept ++ new_base_nodes old edit new) = ap (λ (nodes : List Node). length nodes) lists in
      let first = length-append a.kept (new_base_nodes old edit new) in
      let second = length-append b.kept (new_base_nodes old edit new) in
      let count = a.count in
      let also_count = b.count in
      omega (arith, sizes, first, second, count, also_count)

  withdrawn_one : (one other : Support) (answer also : Withdrawn) → IsFollowed old edit new before one answer → IsFollowed old edit new before other also → answer.withdrawn ≡ also.withdrawn
  withdrawn_one one other answer also a b =
      let kept = kept_one one other answer also a b in
      let counts = a.counts in
      let also_counts = b.counts in
      omega (arith, kept, counts, also_counts)

pub law_edits_are_followed_in_one_way : RoundsEndInOneWay → EditsAreFollowedInOneWay
law_edits_are_followed_in_one_way end old edit new before one other report also a b =
    let start = start_one old edit new before.support a.start b.start a.answer b.answer a.followed b.followed in
    let from = subst (λ (s : Support). RoundsEnd new s report.rounds one.support one.ending) start a.ends in
    let (rounds, support, ending) = end new b.start one.support other.support report.rounds also.rounds one.ending other.ending from b.ends in
    let kept : report.kept ≡ also.kept = a.kept ∙ (kept_one old edit new before.support a.start b.start a.answer b.answer a.followed b.followed ∙ sym b.kept) in
    let withdrawn : report.withdrawn ≡ also.withdrawn = a.withdrawn ∙ (withdrawn_one old edit new before.support a.start b.start a.answer b.answer a.followed b.followed ∙ sym b.withdrawn) in
    (opened_as one other support ending, λ i. record { kept = kept i; withdrawn = withdrawn i; rounds = rounds i })
