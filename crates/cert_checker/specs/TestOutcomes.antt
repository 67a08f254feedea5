-- How a test of a table proof ends: what it finds, or what is refused.
use Rattle.std.specs.Prelude.{◌≡◌, ℕ, ◌+◌, Bool, true, false, List, Result, Ok, Err}
use Rattle.net_model.specs.Network.{Plan}
use Rattle.net_model.specs.declared.ids.PointId.{PointId}
use Rattle.net_model.specs.declared.part.Edge.{Edge}
use Rattle.cert_format.specs.declared.entry.Entry.{Entry}
use Rattle.cert_checker.specs.Walk.{refusal}
use Rattle.cert_checker.specs.Tables.{base_of, is_complete, is_missing, has_open_conclusion, rises}
use Rattle.cert_checker.specs.TableRefusals.{IsFirst, IsFirstFault, IsNone, IsOrdered, IsRefusedTable, stands_before}
use Rattle.cert_checker.specs.declared.base.Base.{Base}
use Rattle.cert_checker.specs.declared.judgement.CertFault.{CertFault}
use Rattle.cert_checker.specs.declared.judgement.CertFault.TheVariants.{OrderBroken}
use Rattle.cert_checker.specs.declared.judgement.Claim.TheVariants.{Controllable}
use Rattle.cert_checker.specs.declared.judgement.Judgement.{Judgement}
use Rattle.cert_checker.specs.declared.judgement.Judgement.TheVariants.{Accepted, Refused}
use Rattle.cert_checker.specs.declared.judgement.RefusedLine.{RefusedLine}
use Rattle.cert_checker.specs.declared.judgement.Failure.{Failure}
use Rattle.cert_checker.specs.declared.judgement.Failure.TheVariants as stop

-- this holds of what is found, or that of the refusal; of want of memory nothing is said
abbrev pub Ends : {A : Type 0} → Result A Failure → (A → Type 0) → (RefusedLine → Type 0) → Type 0
Ends (Ok found) Holds Refuses = Holds found
Ends (Err (stop.Refused refused)) Holds Refuses = Refuses refused
Ends (Err stop.OutOfMemory) Holds Refuses = Unit {0}

-- the refusal of the first of these lines that says nothing of the network; the first of all has this number
pub record RefusesLine {A B : Type 0} (reading : A → Result B CertFault) (first : ℕ) (lines : List A) (refused : RefusedLine) : Type 0 where
  pub place : ℕ
  pub number : refused.line ≡ first + place
  pub fault : IsFirstFault reading lines place refused.why

-- the refusal of the first of these items of which a test holds; the first of all has this line
pub record RefusesItem {A : Type 0} (test : ℕ → A → Bool) (first : ℕ) (why : CertFault) (items : List A) (refused : RefusedLine) : Type 0 where
  pub place : ℕ
  pub item : A
  pub is : refused ≡ refusal (first + place) why
  pub at : IsFirst test items place item

-- the refusal, at no line, of the first bound, else the first link, whose edge does not stand among these
pub record RefusesBase (net : Plan) (edges : List Edge) (refused : RefusedLine) : Type 0 where
  pub place : ℕ
  pub base : Base
  pub is : refused ≡ refusal 0 base.missing
  pub at : IsFirst (λ place. is_missing edges) (base_of net) place base

-- each point of the network stands in an order, once
pub record IsWholeOrder (net : Plan) (order : List PointId) : Type 0 where
  pub once : IsNone (stands_before order) order
  pub complete : is_complete net order ≡ true

-- the refusal of an order: at its first point that stands before in it, or, at no line, since a point is missing in it
pub data RefusesOrder (net : Plan) (order : List PointId) : RefusedLine → Type 0 where
  twice : (refused : RefusedLine) → RefusesItem (stands_before order) 1 OrderBroken order refused → RefusesOrder net order refused
  missing : IsNone (stands_before order) order → is_complete net order ≡ false → RefusesOrder net order (refusal 0 OrderBroken)

-- of no entry does a test hold, or the first of which it does is refused; the first of all has this line
abbrev pub NoneRefused : (Edge → Bool) → ℕ → CertFault → List Edge → Result (Unit {0}) RefusedLine → Type 0
NoneRefused test first why edges (Ok passed) = IsNone (λ place. test) edges
NoneRefused test first why edges (Err refused) = RefusesItem (λ place. test) first why edges refused

-- A table proof is accepted: each line of it names what the network has, each bound and each link stands among its edges, each point stands
-- in its order, once, each negative ordinary edge goes from a later point to an earlier one, and of no edge does a rule give, with the
-- others, one that does not stand among them.
pub record IsAcceptedTable (net : Plan) (order : List (List ℕ)) (entries : List Entry) : Type 0 where
  pub points : List PointId
  pub edges : List Edge
  pub ordered : IsOrdered net order entries points edges
  pub descends : IsNone (λ place. rises points) edges
  pub closed : IsNone (λ place. has_open_conclusion net edges) edges

-- what is said of a table proof
abbrev pub JudgesTable : Plan → List (List ℕ) → List Entry → Judgement → Type 0
JudgesTable net order entries (Accepted claim) = (claim ≡ Controllable) × IsAcceptedTable net order entries
JudgesTable net order entries (Refused line why) = IsRefusedTable net order entries line why
