-- What is opened of a network, what it decides, and what comes of it.
use Rattle.std.proofs.Common.{◌≡◌, List, length, Result, Ok, Err, inr, refl, subst}
use Rattle.std.specs.Prelude.{IfOk}
use Rattle.std.specs.declared.alloc.AllocError.{AllocError}
use Rattle.net_model.specs.Network.{Plan, IsPlan}
use Rattle.net_model.specs.ShownForm.{shown_form}
use Rattle.net_model.specs.declared.edit.Edit.{Edit}
use Rattle.net_model.specs.declared.ids.PointId.{PointId}
use Rattle.strategy_model.specs.Control.{IsControllable}
use Rattle.strategy_model.specs.Plays.{IsInstant}
use Rattle.closure_model.specs.Closure.{IsClosure}
use Rattle.closure_model.specs.Derivations.{Support, base_support}
use Rattle.closure_model.specs.Orders.{IsOrder, IsCycle, placed_points}
use Rattle.closure_model.specs.ReferenceRounds.{closed, looped, RoundsEnd}
use Rattle.closure_model.specs.Tables.{Graph}
use Rattle.net_model.proofs.ShownLemmas.{shown_sound}
use Rattle.edit_laws.specs.EditEffects.{EditsWithdrawNodes, ShownFormsFollowEdits}
use Rattle.closure_laws.specs.Laws.{OrderedClosuresAreControllable, StandingCyclesExclude}
use Rattle.shared_table_laws.specs.LaterNodes.{LaterNodesImprove}
use Rattle.parallel_rounds.specs.Propagated.{IsPropagated, OutcomeHolds, ending_of, rounds_of}
use Rattle.parallel_rounds.specs.declared.outcome.Outcome.{Outcome}
use Rattle.parallel_rounds.specs.declared.outcome.Outcome.TheVariants.{Closed, Looped}
use Rattle.support_records.specs.FollowedStores.{IsFollowed}
use Rattle.support_records.specs.declared.store.Withdrawn.{Withdrawn}
use Rattle.cert_format.specs.CertificateWords.{HasWeights}
use Rattle.cert_format.specs.declared.certificate.Certificate.{Certificate}
use Rattle.cert_checker.specs.Judgement.{judgement_of}
use Rattle.cert_checker.specs.declared.judgement.Claim.TheVariants.{NotControllable}
use Rattle.cert_checker.specs.declared.judgement.Judgement.TheVariants.{Accepted}
use Rattle.refutation_certificates.specs.Certificates.{IsCertificateBy}
use Rattle.closure_certificates.specs.Certified.{Certifies}
use Rattle.dispatch_net.specs.Dispatchable.{DispatchLists, IsDispatchBy}
use Rattle.dispatch_net.specs.OfClosure.{IsDispatchOfClosure}
use Rattle.network_refutation.specs.PlacedEndings.{IsPlacedBy}
use Rattle.network_refutation.proofs.RoundsLemmas.{ends_placed, refutes}
use Rattle.plan_session.specs.Kept.{IsKept, opened_of}
use Rattle.plan_session.specs.SessionNetworks.{Makes}
use Rattle.plan_session.specs.Sessions.{Accepts, EndsWell, FollowsEdit, IsSoundOpened, Opened, Opens, open_state}
use Rattle.plan_session.specs.declared.answers.Report.{Report}
use Rattle.plan_session.specs.declared.propagated.Propagated.{Propagated}

-- what an outcome says of a table is what its ending does
says_well : (net : Plan) (support : Support) (outcome : Outcome) → OutcomeHolds net support outcome → EndsWell net support (ending_of outcome)
says_well net support (Closed rounds order) says = says
says_well net support (Looped rounds cycle) says = says

-- what was propagated is sound
propagated_sound : (net : Plan) (before after : Support) (outcome : Outcome) → IsPropagated net before after outcome → IsSoundOpened net (record { support = after; ending = ending_of outcome })
propagated_sound net before after outcome propagated = record {
  stands = propagated.stands;
  ends = says_well net after outcome propagated.says;
  placed = ends_placed net before after (rounds_of outcome) (ending_of outcome) propagated.ends;
}

-- what was propagated from the base is what is opened
pub opens : (net : Plan) (start after : Support) (outcome : Outcome) → start ≡ base_support net → IsPropagated net start after outcome → Opens net (record { support = after; ending = ending_of outcome })
opens net start after outcome base propagated = record {
  rounds = rounds_of outcome;
  ends = subst (λ (s : Support). RoundsEnd net s (rounds_of outcome) after (ending_of outcome)) base propagated.ends;
  sound = propagated_sound net start after outcome propagated;
}

-- and may be kept
pub opens_kept : (net : Plan) (kept : Propagated) → Opens (shown_form net) (opened_of kept) → IsKept net kept
opens_kept net kept opened = record { sound = opened.sound; base = λ so. opened }

-- ---- the verdict
-- the shown form of a network has no delay
pub shown_instant : (net : Plan) → IsPlan net → IsInstant (shown_form net)
shown_instant net plan = record { sound = shown_sound net plan; no_delay = refl }

module _ (net : Plan) (opened : Opened) (sound : IsSoundOpened net opened) where
  -- rounds that closed gave the closure, with an order
  pub closed_well : (order : List PointId) → opened.ending ≡ closed order → IsClosure net opened.support.table × IsOrder opened.support.table order
  closed_well order is = subst (EndsWell net opened.support) is sound.ends

  pub closed_placed : (order : List PointId) → opened.ending ≡ closed order → order ≡ placed_points opened.support.table
  closed_placed order is = subst (IsPlacedBy opened.support.table) is sound.placed

  pub looped_well : (cycle : List PointId) → opened.ending ≡ looped cycle → IsCycle opened.support.table cycle
  looped_well cycle is = subst (EndsWell net opened.support) is sound.ends

  pub closed_controls : OrderedClosuresAreControllable → IsInstant net → (order : List PointId) → opened.ending ≡ closed order → IsControllable net
  closed_controls decide instant order is = let well = closed_well order is in decide net opened.support.table order instant well.0 well.1

  pub looped_excludes : StandingCyclesExclude → IsInstant net → (cycle : List PointId) → opened.ending ≡ looped cycle → ¬ IsControllable net
  looped_excludes exclude instant cycle is = exclude net opened.support cycle instant sound.stands (looped_well cycle is)

-- ---- an accepted edit
-- what was propagated, as a session has it, and what is reported of an edit
abbrev pub opened_by : Support → Outcome → Opened
opened_by after outcome = record { support = after; ending = ending_of outcome }

abbrev pub reported_by : Withdrawn → Outcome → Report
reported_by answer outcome = record { kept = answer.kept; withdrawn = answer.withdrawn; rounds = rounds_of outcome }

pub follows : LaterNodesImprove → (old : Plan) (edit : Edit) (new : Plan) (before : Opened) (start after : Support) (outcome : Outcome) (answer : Withdrawn) → IsFollowed old edit new before.support start answer
    → IsPropagated new start after outcome
    → FollowsEdit old edit new before (opened_by after outcome) (reported_by answer outcome)
follows improve old edit new before start after outcome answer followed propagated = record {
  start = start;
  answer = answer;
  followed = followed;
  kept = refl;
  withdrawn = refl;
  ends = propagated.ends;
  few = propagated.few;
  made = propagated.history.nodes;
  list = propagated.history.more;
  improves = improve new start after followed.stands propagated.history;
  sound = propagated_sound new start after outcome propagated;
}

-- what followed an edit from the one shown form to the other is that of a session which accepted it: exactly the nodes are withdrawn that rest on what the edit
-- takes away
pub accepts : EditsWithdrawNodes → ShownFormsFollowEdits → (old : Plan) (edit : Edit) (new : Plan) → IsPlan old → Makes old edit new → (held opened : Opened) (report : Report) → IsSoundOpened (shown_form old) held
    → FollowsEdit (shown_form old) edit (shown_form new) held opened report → Accepts (open_state old held) edit report (open_state new opened)
accepts withdraw follow old edit new plan makes held opened report sound followed =
    let kept = followed.followed in
    record {
      net = new;
      made = makes.made;
      plan = makes.plan;
      numbers = makes.numbers;
      held = held;
      was = refl;
      opened = opened;
      follows = followed;
      withdrawn =
          withdraw (shown_form old) edit (shown_form new) held.support.nodes (record { places = kept.places; kept = kept.kept }) (shown_sound old plan) (shown_sound new makes.plan) (follow old edit new makes.made)
          sound.stands.derived kept.are;
      is = refl;
    }

-- ---- the certificate
-- the certificate by the cycle in which rounds from the base ended decides the network
pub opens_certifies : (net : Plan) (opened : Opened) (cycle : List PointId) (answer : Result Certificate AllocError) → StandingCyclesExclude → IsInstant net → Opens net opened → opened.ending ≡ looped cycle
    → IfOk answer (IsCertificateBy net opened.support.nodes cycle) → IfOk answer (λ (cert : Certificate). judgement_of net cert ≡ Accepted NotControllable) → IfOk answer HasWeights → IfOk answer (Certifies net)
opens_certifies net opened cycle (Ok cert) exclude instant opens is by accepted weights =
    let never = looped_excludes net opened opens.sound exclude instant cycle is in
    let ends = subst (RoundsEnd net (base_support net) opens.rounds opened.support) is opens.ends in
    inr (refutes net opened.support opens.rounds cycle cert ends never by accepted weights)
opens_certifies net opened cycle (Err error) exclude instant opens is by accepted weights = tt

-- ---- the dispatchable network
pub dispatches : (net : Plan) (table : Graph) (order : List PointId) (answer : Result DispatchLists AllocError) → IsClosure net table → IsOrder table order → IfOk answer (IsDispatchBy net table)
    → IfOk answer (λ (dispatch : DispatchLists). length dispatch.made ≡ length net.points) → IfOk answer (IsDispatchOfClosure net)
dispatches net table order (Ok dispatch) closure ordered by whole = record { table = table; order = order; closure = closure; ordered = ordered; by = by; whole = whole }
dispatches net table order (Err error) closure ordered by whole = tt
