-- Sessions as data, for the types whose model they are.
use Rattle.std.specs.Prelude.{◌≡◌, ◌⊎◌, ℕ, List, Option, refl}
use Rattle.std.specs.Coded.{Coded, code_by, coded_ℕ, coded_list, coded_option, coded×, coded⊎}
use Rattle.std.proofs.Common.{inl, inr}
use Rattle.net_model.specs.Network.{Plan}
use Rattle.net_model.specs.contracts.network.Network as network
use Rattle.net_model.specs.declared.ids.PointId.{PointId}
use Rattle.closure_model.specs.Codes.{point_code}
use Rattle.closure_model.specs.Derivations.{Support}
use Rattle.closure_model.specs.ReferenceRounds.{Ending, closed, looped}
use Rattle.derivation_dag.specs.SupportCode.{support_code}
use Rattle.plan_session.specs.SessionNetworks.{NetworkView}
use Rattle.plan_session.specs.Sessions.{Opened, State, SessionView}

abbrev pub ending_points : Ending → List PointId ⊎ List PointId
ending_points (closed order) = inl order
ending_points (looped cycle) = inr cycle

abbrev pub ending_by : List PointId ⊎ List PointId → Ending
ending_by (inl order) = closed order
ending_by (inr cycle) = looped cycle

abbrev pub ending_back : (ending : Ending) → ending_by (ending_points ending) ≡ ending
ending_back (closed order) = refl
ending_back (looped cycle) = refl

abbrev pub ending_code : Coded Ending
ending_code = code_by (List PointId ⊎ List PointId) (coded⊎ (coded_list point_code) (coded_list point_code)) ending_points ending_by ending_back

abbrev pub opened_code : Coded Opened
opened_code =
    code_by (Support × Ending) (coded× support_code ending_code) (λ opened. (opened.support, opened.ending))
    (λ parts. record { support = parts.0; ending = parts.1 }) (λ _. refl)

abbrev pub state_code : Coded State
state_code =
    code_by (Plan × Option Opened) (coded× network.the_row.coded (coded_option opened_code)) (λ session. (session.net, session.opened))
    (λ parts. record { net = parts.0; opened = parts.1 }) (λ _. refl)

abbrev pub session_code : Coded SessionView
session_code =
    code_by (State × ℕ) (coded× state_code coded_ℕ) (λ session. (session.state, session.workers)) (λ parts. record { state = parts.0; workers = parts.1 })
    (λ _. refl)

abbrev pub network_code : Coded NetworkView
network_code =
    code_by (Plan × ℕ) (coded× network.the_row.coded coded_ℕ) (λ held. (held.net, held.workers)) (λ parts. record { net = parts.0; workers = parts.1 })
    (λ _. refl)
