-- What decides a network as it stands.
use Rattle.std.proofs.Common.{◌≡◌, true, false, Option, Some, None, subst}
use Rattle.net_model.specs.Network.{Plan, IsPlan}
use Rattle.net_model.specs.ShownForm.{shown_form}
use Rattle.strategy_model.specs.Control.{IsControllable}
use Rattle.strategy_model.specs.ShownLaws.{ControllableIsShown}
use Rattle.dispatch_net.specs.Dispatchable.{DispatchLists, IsDispatchBy}
use Rattle.forward_closure.specs.declared.decision.ForwardClosed.{ForwardClosed}
use Rattle.forward_executor.specs.ForwardExecutions.{IsForwardDispatch}
use Rattle.verdicts.specs.Decisions.{IsDecidedBy, IsOrderedForwardTable}
use Rattle.verdicts.proofs.VerdictLemmas.{shown_decides, shown_excludes}
use Rattle.session_command.specs.EditHistory.{IsVerdict}

pub verdict_yes : (net : Plan) → IsControllable net → IsVerdict net true
verdict_yes net controls = record { yes = λ so. controls; no = λ so. absurd cc }

pub verdict_no : (net : Plan) → (¬ IsControllable net) → IsVerdict net false
verdict_no net never = record { yes = λ so. absurd cc; no = λ so. never }

module _ (law : ControllableIsShown) (net shown : Plan) (plan : IsPlan net) (is : shown ≡ shown_form net) {T : Type 0} (By : Plan → T → Type 0) where
  -- a table that decides the shown form decides the network
  pub table_says : (found : Option T) (closed : T) → IsDecidedBy By shown found → found ≡ Some closed → IsControllable net
  table_says found closed decided so = (shown_decides By law net shown closed plan is (subst (IsDecidedBy By shown) so decided)).controllable

  pub none_says : (found : Option T) → IsDecidedBy By shown found → found ≡ None → ¬ IsControllable net
  none_says found decided so = shown_excludes law net shown plan is (subst (IsDecidedBy By shown) so decided)

-- a dispatchable network of a forward closed table is one of it
pub forward_dispatch : (net : Plan) (closed : ForwardClosed) (lists : DispatchLists) → IsOrderedForwardTable net closed → IsDispatchBy net closed.table lists → IsForwardDispatch net lists
forward_dispatch net closed lists dispatched by = record { table = closed.table; order = closed.order; dispatched = dispatched; links = by.links; made = by.made }
