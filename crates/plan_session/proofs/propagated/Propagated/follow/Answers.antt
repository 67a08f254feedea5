use Rattle.std.proofs.Common.{ℕ, sym, subst}
use Rattle.net_model.specs.Network.{Plan}
use Rattle.net_model.specs.ShownForm.{shown_form}
use Rattle.plan_session.specs.Kept.{opened_of}
use Rattle.plan_session.specs.Sessions.{Accepts, FollowsEdit, open_state}
use Rattle.plan_session.proofs.SessionLemmas.{accepts, follows, opened_by, reported_by}
use Rattle.plan_session.proofs.propagated.Propagated.follow.Goals as goal

pub returns-clause-accepts : goal.returns-clause-accepts
returns-clause-accepts g c =
    let old = c.args.old.now.net in
    let edit = c.args.edit.now in
    let new = c.args.new.now.net in
    let held = opened_of c.args.self in
    let answer = c.in_ok-withdrawn.withdrawn in
    let outcome = c.in_ok-outcome.outcome in
    let opened = opened_by c.propagate.new.store outcome in
    let report = reported_by answer outcome in
    let followed = follows c.law_later_nodes_improve.ensures c.shown.result.now edit c.shown-shown.result.now held c.follow.new.self c.propagate.new.store outcome answer c.in_ok-withdrawn.ensures c.in_ok-outcome.ensures in
    let as_shown : FollowsEdit (shown_form old) edit (shown_form new) held opened report =
    subst (λ (n : Plan). FollowsEdit (shown_form old) edit n held opened report) c.shown-shown.ensures (subst (λ (n : Plan). FollowsEdit n edit c.shown-shown.result.now held opened report) c.shown.ensures followed) in
    subst (λ (n : ℕ). Accepts (open_state old held) edit (record { kept = answer.kept; withdrawn = answer.withdrawn; rounds = n }) (open_state new opened)) (sym c.rounds_of.ensures)
    (accepts c.law_edits_withdraw_nodes.ensures c.law_shown_forms_follow_edits.ensures old edit new c.sound.ensures c.requires.makes held opened report c.requires.kept.sound as_shown)

pub returns-clause-kept : goal.returns-clause-kept
returns-clause-kept g c =
    let old = c.shown.result.now in
    let edit = c.args.edit.now in
    let held = opened_of c.args.self in
    let answer = c.in_ok-withdrawn.withdrawn in
    let outcome = c.in_ok-outcome.outcome in
    let opened = opened_by c.propagate.new.store outcome in
    let report = reported_by answer outcome in
    let followed = follows c.law_later_nodes_improve.ensures old edit c.shown-shown.result.now held c.follow.new.self c.propagate.new.store outcome answer c.in_ok-withdrawn.ensures c.in_ok-outcome.ensures in
    let as_shown = subst (λ (n : Plan). FollowsEdit old edit n held opened report) c.shown-shown.ensures followed in
    record { sound = as_shown.sound; base = λ so. absurd cc }
