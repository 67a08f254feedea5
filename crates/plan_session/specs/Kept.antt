-- What a session keeps of its network.
use Rattle.std.specs.Prelude.{◌≡◌, true, Option, Some, None}
use Rattle.net_model.specs.Network.{Plan}
use Rattle.net_model.specs.ShownForm.{shown_form}
use Rattle.strategy_model.specs.Control.{IsControllable}
use Rattle.parallel_rounds.specs.Propagated.{ending_of}
use Rattle.dispatch_net.specs.Dispatchable.{DispatchLists}
use Rattle.dispatch_net.specs.OfClosure.{IsDispatchOfClosure}
use Rattle.plan_session.specs.Sessions.{Opened, IsSoundOpened, Opens}
use Rattle.plan_session.specs.declared.propagated.Propagated.{Propagated}

-- what is kept, as what is opened
abbrev pub opened_of : Propagated → Opened
opened_of kept = record { support = kept.store; ending = ending_of kept.outcome }

-- what is opened of the shown form is sound, and by rounds from the base if it is said to be so
pub record IsKept (net : Plan) (kept : Propagated) : Type 0 where
  pub sound : IsSoundOpened (shown_form net) (opened_of kept)
  pub base : kept.from_base ≡ true → Opens (shown_form net) (opened_of kept)

-- the dispatchable network of the closure of the shown form, exactly if the network is controllable
abbrev pub IsDispatchIfControllable : Plan → Option DispatchLists → Type 0
IsDispatchIfControllable net (Some dispatch) = IsControllable net × IsDispatchOfClosure (shown_form net) dispatch
IsDispatchIfControllable net None = ¬ IsControllable net
