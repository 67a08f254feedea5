-- When a table proof passes, or at which line and why it does not. It goes over the text of the certificate alone: what the rules
-- give from its entries is looked for among them. The rules are those of Morris and Muscettola 2005, in this project's exact form.
use Rattle.std.specs.Prelude.{ℕ, ◌+◌, ◌==◌, ◌&&◌, not, Bool, true, false, ℤ, List, [], ◌∷◌, ◌++◌, map, length, find, Option, Some, None, Result, Ok, Err}
use Rattle.std.specs.Prelude.{int_le, nat_lt, slice_get}
use Rattle.std.specs.List.{position, list_any, list_all, filter_map, enumerate_from}
use Rattle.std.specs.Option.{option_and_then, option_map}
use Rattle.net_model.specs.Network.{Plan, point_named, link_named as link_id}
use Rattle.net_model.specs.NetworkParts.{point_name}
use Rattle.net_model.specs.Rules.{bound_edge, link_edge, is_ordinary, is_negative, no_case, upper_case, lower_case, cross_case, removal}
use Rattle.net_model.specs.declared.ids.PointId.{PointId}
use Rattle.net_model.specs.declared.ids.LinkId.{LinkId}
use Rattle.net_model.specs.declared.part.Bound.{Bound}
use Rattle.net_model.specs.declared.part.Edge.{Edge}
use Rattle.net_model.specs.declared.part.Link.{Link}
use Rattle.strategy_model.specs.Plays.{same_point}
use Rattle.cert_format.specs.declared.entry.Entry.{Entry}
use Rattle.cert_format.specs.JudgementForms.{◌>>=◌, unless, there}
use Rattle.cert_checker.specs.Lines.{in_range}
use Rattle.cert_checker.specs.Walk.{WalkPasses, refusal}
use Rattle.cert_checker.specs.declared.judgement.RefusedLine.{RefusedLine}
use Rattle.cert_checker.specs.declared.judgement.CertFault.{CertFault}
use Rattle.cert_checker.specs.declared.judgement.CertFault.TheVariants.{UnknownItem, WeightRange, MissingBound, MissingLink, OrderBroken, NotClosed}
use Rattle.cert_checker.specs.declared.base.Base.{Base}

-- ---- the lines, each for itself

-- the ordinary edge between the points of two names
abbrev pub ordinary_of : Plan → List ℕ → List ℕ → ℤ → Option Edge
ordinary_of net from to weight =
    option_and_then (λ x. option_map (λ y. record { from = x; to = y; label = None; weight = weight }) (point_named net to)) (point_named net from)

-- the edge from the point of a name that is labelled by the link that ends in the point of another
abbrev pub labelled_by : Option LinkId → PointId → Link → ℤ → Edge
labelled_by label from link weight = record { from = from; to = link.from; label = label; weight = weight }

abbrev pub labelled_of : Plan → List ℕ → List ℕ → ℤ → Option Edge
labelled_of net from label weight =
    option_and_then (λ x. option_and_then (λ name. option_map (λ link. labelled_by (Some name) x link weight) (slice_get net.links name.0))
    (link_id net label)) (point_named net from)

-- the edge that an entry states, if its names are in the network
abbrev pub edge_by : Plan → List ℕ → Option (List ℕ) → Option (List ℕ) → ℤ → Option Edge
edge_by net from (Some to) label weight = ordinary_of net from to weight
edge_by net from None (Some label) weight = labelled_of net from label weight
edge_by net from None None weight = None

abbrev pub edge_of_entry : Plan → Entry → Option Edge
edge_of_entry net entry = edge_by net entry.from entry.to entry.label entry.weight

-- a line of the order: its point is in the network
abbrev pub point_passes : Plan → List ℕ → Result PointId CertFault
point_passes net name = there (point_named net name) UnknownItem

-- an entry: its names are in the network, and its weight is within the limit
abbrev pub entry_passes : Plan → Entry → Result Edge CertFault
entry_passes net entry = do
  edge ← there (edge_of_entry net entry) UnknownItem
  range ← unless (in_range entry.weight) WeightRange
  Ok edge

abbrev pub at_line : {A : Type 0} → ℕ → Result A CertFault → Result A RefusedLine
at_line line (Ok x) = Ok x
at_line line (Err why) = Err (refusal line why)

-- what each of these lines says, of which the first has this number, or the first that is refused
abbrev pub read_each : {A B : Type 0} → (A → Result B CertFault) → ℕ → List A → Result (List B) RefusedLine
read_each read line [] = Ok []
read_each read line (x ∷ xs) = do
  first ← at_line line (read x)
  others ← read_each read (line + 1) xs
  Ok (first ∷ others)

-- ---- the edges of all entries

-- between the same points and with the same label
abbrev pub same_label_id : Option LinkId → Option LinkId → Bool
same_label_id (Some name) (Some other) = name.0 == other.0
same_label_id None None = true
same_label_id label other = false

abbrev pub same_key : Edge → Edge → Bool
same_key edge other =
    (edge.from.0 == other.from.0) && (edge.to.0 == other.to.0) && same_label_id edge.label other.label

-- an edge stands among edges: one of its key is there, with its weight or less
abbrev pub stands_among : List Edge → Edge → Bool
stands_among edges edge = list_any (λ entry. same_key entry edge && int_le entry.weight edge.weight) edges

-- the first of these that is refused, at its place from a line on
abbrev pub refused_at : ℕ → CertFault → Option ℕ → WalkPasses
refused_at line why None = Ok tt
refused_at line why (Some place) = Err (refusal (line + place) why)

abbrev pub none_refused : {A : Type 0} → ℕ → CertFault → (A → Bool) → List A → WalkPasses
none_refused line why refused items = refused_at line why (position refused items)

-- ---- the base: each edge of a bound and of a link stands among them

-- the edge of a bound, and the fault if it is missing
abbrev pub base_of_bound : Bound → Base
base_of_bound bound = record { edge = bound_edge bound; missing = MissingBound bound.name }

-- the edge of a link of a number, and the fault if it is missing, which has the name of its contingent point
abbrev pub base_of_link : Plan → ℕ × Link → Base
base_of_link net link =
    record { edge = link_edge (record { 0 = link.0 }) link.1; missing = MissingLink (point_name net.points link.1.to) }

-- those of bounds, in order, and then those of links
abbrev pub base_of : Plan → List Base
base_of net = map base_of_bound net.bounds ++ map (base_of_link net) (enumerate_from 0 net.links)

abbrev pub is_missing : List Edge → Base → Bool
is_missing edges base = not (stands_among edges base.edge)

abbrev pub none_missing : Option Base → WalkPasses
none_missing None = Ok tt
none_missing (Some base) = Err (refusal 0 base.missing)

-- each of them stands among them, or the first that does not
abbrev pub base_stands : Plan → List Edge → WalkPasses
base_stands net edges = none_missing (find (is_missing edges) (base_of net))

-- ---- the order

-- no point stands twice; `earlier` come before them all
abbrev pub stand_once : List PointId → List PointId → WalkPasses
stand_once earlier [] = Ok tt
stand_once earlier (point ∷ points) = do
  once ← unless (not (list_any (same_point point) earlier)) (refusal (length earlier + 1) OrderBroken)
  stand_once (earlier ++ point ∷ []) points

-- each point of the network stands in it
abbrev pub is_complete : Plan → List PointId → Bool
is_complete net order = list_all (λ point. list_any (same_point (record { 0 = point.0 })) order) (enumerate_from 0 net.points)

-- its place there
abbrev pub place_in : List PointId → PointId → Option ℕ
place_in order point = position (same_point point) order

abbrev pub comes_before : Option ℕ → Option ℕ → Bool
comes_before (Some place) (Some other) = nat_lt place other
comes_before place other = false

-- a negative ordinary edge that does not go from a later point to an earlier one
abbrev pub rises : List PointId → Edge → Bool
rises order edge = is_ordinary edge && is_negative edge && not (comes_before (place_in order edge.to) (place_in order edge.from))

-- no point is missing, and each negative ordinary edge goes from a later point to an earlier one
abbrev pub placed_passes : Plan → List PointId → List Edge → WalkPasses
placed_passes net order edges = do
  complete ← unless (is_complete net order) (refusal 0 OrderBroken)
  none_refused (length order + 1) OrderBroken (rises order) edges

abbrev pub order_passes : Plan → List PointId → List Edge → WalkPasses
order_passes net order edges = do
  once ← stand_once [] order
  placed_passes net order edges

-- ---- the closure

-- the numbers of the links
abbrev pub link_ids : Plan → List LinkId
link_ids net = map (λ (link : ℕ × Link). record { 0 = link.0 }) (enumerate_from 0 net.links)

-- what the rules give with an edge as the second premise, as the edge after the lower-case edge, or as the premise of removal
abbrev pub conclusions : Plan → List Edge → Edge → List Edge
conclusions net edges second =
    filter_map (λ first. no_case first second) edges
    ++ (filter_map (λ first. upper_case first second) edges
    ++ (filter_map (λ name. lower_case net name second) (link_ids net)
    ++ (filter_map (λ name. cross_case net name second) (link_ids net)
    ++ filter_map (removal net) (second ∷ []))))

-- something of that does not stand among the edges
abbrev pub has_open_conclusion : Plan → List Edge → Edge → Bool
has_open_conclusion net edges second = list_any (λ edge. not (stands_among edges edge)) (conclusions net edges second)

-- ---- all together

-- the order of a table, and then its closure; the lines of entries come after those of the order
abbrev pub ordered_passes : Plan → List PointId → List Edge → WalkPasses
ordered_passes net order edges = do
  descends ← order_passes net order edges
  none_refused (length order + 1) NotClosed (has_open_conclusion net edges) edges

-- the base of a table, and then these
abbrev pub edges_pass : Plan → List PointId → List Edge → WalkPasses
edges_pass net order edges = do
  base ← base_stands net edges
  ordered_passes net order edges

-- a table proof passes: its lines, then its base, its order and its closure
unfoldable pub table_passes : Plan → List (List ℕ) → List Entry → WalkPasses
table_passes net order entries = do
  points ← read_each (point_passes net) 1 order
  edges ← read_each (entry_passes net) (length order + 1) entries
  edges_pass net points edges
