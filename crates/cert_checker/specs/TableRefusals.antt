-- What a refusal says of a table proof: the first of its lines that does not pass a test, of which the tests before it are passed.
use Rattle.std.specs.Prelude.{◌≡◌, ◌<◌, ◌+◌, ℕ, Bool, true, false, List, map, length, take, Some, Result, Ok, Err, IsOk, slice_get}
use Rattle.std.specs.List.{list_any}
use Rattle.net_model.specs.Network.{Plan}
use Rattle.net_model.specs.declared.ids.PointId.{PointId}
use Rattle.net_model.specs.declared.part.Edge.{Edge}
use Rattle.strategy_model.specs.Plays.{same_point}
use Rattle.cert_format.specs.declared.entry.Entry.{Entry}
use Rattle.cert_checker.specs.Tables.{base_of, entry_passes, is_complete, is_missing, has_open_conclusion, point_passes, rises}
use Rattle.cert_checker.specs.declared.base.Base.{Base}
use Rattle.cert_checker.specs.declared.judgement.CertFault.{CertFault}
use Rattle.cert_checker.specs.declared.judgement.CertFault.TheVariants.{NotClosed, OrderBroken}

-- the first of these items of which a test holds, and its place
pub record IsFirst {A : Type 0} (test : ℕ → A → Bool) (items : List A) (place : ℕ) (item : A) : Type 0 where
  pub here : slice_get items place ≡ Some item
  pub holds : test place item ≡ true
  pub before : (other : ℕ) (one : A) → other < place → slice_get items other ≡ Some one → test other one ≡ false

-- of no item does it hold
abbrev pub IsNone : {A : Type 0} → (ℕ → A → Bool) → List A → Type 0
IsNone {A} test items = (place : ℕ) (item : A) → slice_get items place ≡ Some item → test place item ≡ false

-- the first of these lines that says nothing of the network, its place, and why
pub record IsFirstFault {A B : Type 0} (reading : A → Result B CertFault) (lines : List A) (place : ℕ) (why : CertFault) : Type 0 where
  pub line : A
  pub here : slice_get lines place ≡ Some line
  pub fault : reading line ≡ Err why
  pub before : (other : ℕ) (one : A) → other < place → slice_get lines other ≡ Some one → IsOk (reading one)

-- what each of these lines says
abbrev pub ReadsEach : {A B : Type 0} → (A → Result B CertFault) → List A → List B → Type 0
ReadsEach reading lines said = map reading lines ≡ map Ok said

-- a point stands in an order before a place
abbrev pub stands_before : List PointId → ℕ → PointId → Bool
stands_before points place point = list_any (same_point point) (take place points)

module _ (net : Plan) (order : List (List ℕ)) (entries : List Entry) where
  -- the points of the order and the edges of the entries, if each line names what the network has
  pub record IsRead (points : List PointId) (edges : List Edge) : Type 0 where
    pub order_says : ReadsEach (point_passes net) order points
    pub entries_say : ReadsEach (entry_passes net) entries edges

  -- and each bound and each link of the network stands among these edges
  pub record HasBase (points : List PointId) (edges : List Edge) : Type 0 where
    pub is_read : IsRead points edges
    pub base : IsNone (λ place. is_missing edges) (base_of net)

  -- and each point stands in the order, once
  pub record IsOrdered (points : List PointId) (edges : List Edge) : Type 0 where
    pub has_base : HasBase points edges
    pub once : IsNone (stands_before points) points
    pub complete : is_complete net points ≡ true

  -- A table proof is refused at a line (0 is none) for this cause. `line_of_order`, `line_of_entry`: the first line of the order, or of the entries, that names
  -- what the network has not, or whose weight is beyond the limit. `lacks_base`: the first bound, else the first link, whose edge does not stand among them.
  -- `stands_twice`: the first line of the order whose point stands before it. `lacks_point`: a point of the network stands in none. `edge_rises`: the first
  -- entry that is a negative ordinary edge and does not go from a later point to an earlier one. `not_closed`: the first entry of which, with the others, a
  -- rule gives an edge that does not stand among them. The tests come in this order.
  pub data IsRefusedTable : ℕ → CertFault → Type 0 where
    line_of_order : (place : ℕ) (why : CertFault) → IsFirstFault (point_passes net) order place why → IsRefusedTable (1 + place) why
    line_of_entry : (points : List PointId) (place : ℕ) (why : CertFault) → ReadsEach (point_passes net) order points
        → IsFirstFault (entry_passes net) entries place why → IsRefusedTable (length order + 1 + place) why
    lacks_base : (points : List PointId) (edges : List Edge) (place : ℕ) (base : Base) → IsRead points edges
        → IsFirst (λ place. is_missing edges) (base_of net) place base → IsRefusedTable 0 base.missing
    stands_twice : (points : List PointId) (edges : List Edge) (place : ℕ) (point : PointId) → HasBase points edges
        → IsFirst (stands_before points) points place point → IsRefusedTable (1 + place) OrderBroken
    lacks_point : (points : List PointId) (edges : List Edge) → HasBase points edges → IsNone (stands_before points) points → is_complete net points ≡ false
        → IsRefusedTable 0 OrderBroken
    edge_rises : (points : List PointId) (edges : List Edge) (place : ℕ) (edge : Edge) → IsOrdered points edges
        → IsFirst (λ place. rises points) edges place edge → IsRefusedTable (length order + 1 + place) OrderBroken
    not_closed : (points : List PointId) (edges : List Edge) (place : ℕ) (edge : Edge) → IsOrdered points edges → IsNone (λ place. rises points) edges
        → IsFirst (λ place. has_open_conclusion net edges) edges place edge → IsRefusedTable (length order + 1 + place) NotClosed
