-- The accepted edits of a network, and sessions that keep derivations and have followed them.
use Rattle.std.specs.Prelude.{◌≡◌, List, [], ◌∷◌, Option, Some, None, Ok}
use Rattle.net_model.specs.EditedNetwork.{edited}
use Rattle.net_model.specs.Network.{Plan}
use Rattle.net_model.specs.declared.edit.Edit.{Edit}
use Rattle.plan_session.specs.Sessions.{State, Accepts, IsOpenedOn}
use Rattle.plan_session.specs.declared.answers.Report.{Report}

-- the edits that were accepted of a network, in their order
pub record Past : Type 0 where
  pub first : Plan
  pub edits : List Edit

-- the edits of a network that derivations have followed, and the report of the last
pub record Followed : Type 0 where
  pub first : Plan
  pub edits : List Edit
  pub report : Option Report

-- each of these edits is accepted, one after another, and together they make this of a network
abbrev pub EditsMake : Plan → List Edit → Plan → Type 0
EditsMake net [] made = net ≡ made
EditsMake net (edit ∷ edits) made = (next : Plan) × (edited net edit ≡ Ok next) × EditsMake next edits made

-- each of these edits is accepted, one after another, of this network
abbrev pub AreAccepted : Plan → List Edit → Type 0
AreAccepted net edits = (made : Plan) × EditsMake net edits made

-- a session that keeps derivations follows these edits one after another, and each is accepted: it stands so after them, with the report of the last, or with
-- the report before them if there are none
abbrev pub FollowsEdits : State → Option Report → List Edit → State → Option Report → Type 0
FollowsEdits before report [] after last = (before ≡ after) × (report ≡ last)
FollowsEdits before report (edit ∷ edits) after last =
    (next : State) × (now : Report) × Accepts before edit now next × FollowsEdits next (Some now) edits after last

-- a session that was opened on this network and followed these edits one after another, with the report of the last
pub record HasFollowed (first : Plan) (edits : List Edit) (session : State) (report : Option Report) : Type 0 where
  pub opened : State
  pub opens : IsOpenedOn first opened
  pub follows : FollowsEdits opened None edits session report

-- The report of these accepted edits of a network: none if there are none, else that of the last, as it is for a session that was opened on the network and
-- followed each of them in order.
abbrev pub IsReport : Plan → List Edit → Option Report → Type 0
IsReport first [] report = report ≡ None
IsReport first (edit ∷ edits) report = (session : State) × HasFollowed first (edit ∷ edits) session report
