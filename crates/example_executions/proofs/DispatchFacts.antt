-- The closure of a network is a table by which it may be dispatched.
use Rattle.std.proofs.Common.{◌≡◌, ℕ, List, sym, subst}
use Rattle.net_model.specs.Network.{Plan, IsPlan}
use Rattle.net_model.specs.declared.ids.PointId.{PointId}
use Rattle.closure_model.specs.Derivations.{Support, StandsOn}
use Rattle.closure_model.specs.Tables.{Graph, IsGraph}
use Rattle.closure_model.proofs.RoundClosure.{standing_sound}
use Rattle.dispatch_net.specs.Dispatchable.{MayDispatch}
use Rattle.dispatch_net.proofs.EarliestLemmas.{law_closures_may_dispatch}
use Rattle.parallel_rounds.specs.Propagated.{OutcomeHolds}
use Rattle.parallel_rounds.specs.declared.outcome.Outcome.{Outcome}
use Rattle.parallel_rounds.specs.declared.outcome.Outcome.TheVariants.{Closed}

pub may_be : (net : Plan) (after : Support) (outcome : Outcome) (rounds : ℕ) (order list : List PointId) (table : Graph) → IsPlan net → OutcomeHolds net after outcome → outcome ≡ Closed rounds order
    → table ≡ after.table → list ≡ order → MayDispatch net table list
may_be net after outcome rounds order list table plan reported is same listed =
    let says : OutcomeHolds net after (Closed rounds order) = subst (OutcomeHolds net after) is reported in
    subst (λ (o : List PointId). MayDispatch net table o) (sym listed) (subst (λ (t : Graph). MayDispatch net t order) (sym same) (law_closures_may_dispatch net after.table order plan says.0 says.1))

pub sound_graph : (net : Plan) (after : Support) (table : Graph) → IsPlan net → StandsOn net after → table ≡ after.table → IsGraph table
sound_graph net after table plan stands same = subst IsGraph (sym same) (standing_sound net plan after stands)
