-- What a session keeps of its accepted edits, and of its verdict.
use Rattle.std.specs.Prelude.{◌≡◌, Bool, true, false, List, [], Option, Some, None, IfSome}
use Rattle.net_model.specs.Network.{Plan}
use Rattle.net_model.specs.ShownForm.{shown_form}
use Rattle.net_model.specs.declared.edit.Edit.{Edit}
use Rattle.strategy_model.specs.Control.{IsControllable}
use Rattle.dispatch_net.specs.Dispatchable.{DispatchLists}
use Rattle.dispatch_net.specs.OfClosure.{IsDispatchOfClosure}
use Rattle.forward_executor.specs.ForwardExecutions.{IsForwardDispatch}
use Rattle.session_command.specs.Followed.{AreAccepted, EditsMake, Past}
use Rattle.session_command.specs.declared.derivations.Derived.{Derived}
use Rattle.session_command.specs.declared.derivations.Derived.TheVariants as derived

-- the network as it was first
abbrev pub first_of : Derived → Plan
first_of (derived.Nothing net) = net
first_of (derived.Followed derivations) = derivations.first

-- the edits that derivations have followed
abbrev pub followed_by : Derived → List Edit
followed_by (derived.Nothing net) = []
followed_by (derived.Followed derivations) = derivations.edits

-- the network as it was first, by what is kept of accepted edits: if there were none, it is the network as it stands
abbrev pub first_in : Plan → Option Past → Plan
first_in net None = net
first_in net (Some past) = past.first

-- the accepted edits, by what is kept of them
abbrev pub edits_in : Option Past → List Edit
edits_in None = []
edits_in (Some past) = past.edits

-- if edits are kept, each is accepted
abbrev pub AreKeptAccepted : Option Past → Type 0
AreKeptAccepted past = IfSome past (λ kept. AreAccepted kept.first kept.edits)

-- the answer says whether the network is controllable
pub record IsVerdict (net : Plan) (answer : Bool) : Type 0 where
  pub yes : answer ≡ true → IsControllable net
  pub no : answer ≡ false → ¬ IsControllable net

-- What a session keeps beside the network as it stands. `made`: the accepted edits made that of the network as it was first. `verdict_so`: if a verdict is kept,
-- it is that of the network as it stands.
pub record IsKept (net : Plan) (verdict : Option Bool) (past : Option Past) : Type 0 where
  pub made : EditsMake (first_in net past) (edits_in past) net
  pub verdict_so : IfSome verdict (IsVerdict net)

-- the shown form of a network with the dispatchable network of a forward closed table of it, exactly if the network is controllable
abbrev pub IsDispatched : Plan → Option (Plan × DispatchLists) → Type 0
IsDispatched net (Some (shown, dispatch)) = IsControllable net × (shown ≡ shown_form net) × IsForwardDispatch shown dispatch
IsDispatched net None = ¬ IsControllable net

-- its shown form with the dispatchable network of the closure of that, exactly if the network is controllable
abbrev pub IsDispatchedByClosure : Plan → Option (Plan × DispatchLists) → Type 0
IsDispatchedByClosure net (Some (shown, dispatch)) = IsControllable net × (shown ≡ shown_form net) × IsDispatchOfClosure shown dispatch
IsDispatchedByClosure net None = ¬ IsControllable net
