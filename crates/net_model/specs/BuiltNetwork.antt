-- What a list of parts builds, or the first part that is refused and why.
use Rattle.std.specs.Prelude.{◌≡◌, ℕ, ℤ, ◌+◌, ◌==◌, ◌||◌, Bool, true, false, List, [], ◌∷◌, ◌++◌, length, Option, Result, Ok, Err, Some, None, is_some, nat_le}
use Rattle.std.specs.Prelude.{pos, int_lt, not, codes}
use Rattle.net_model.specs.Network.{Plan, point_named, bound_named, activation, empty}
use Rattle.net_model.specs.declared.ids.PointId.{PointId}
use Rattle.net_model.specs.declared.part.Part.{Part}
use Rattle.net_model.specs.declared.part.Part.TheVariants.{Point, Bound, Link}
use Rattle.net_model.specs.declared.part.Which.{Which}
use Rattle.net_model.specs.declared.part.Which.TheVariants.{Points, Links, Bounds, Number}
use Rattle.net_model.specs.Limits.{most_points, most_links, most_bounds, within_limit}
use Rattle.net_model.specs.declared.fault.PartFault.{PartFault}
use Rattle.net_model.specs.declared.fault.PartFault.TheVariants.{DuplicateName, UnknownName, TwoLinksOnPoint, LinkToItself, BadInterval, Limit, OutOfMemory}
use Rattle.net_model.specs.declared.fault.BuildFault.{BuildFault}
use Rattle.net_model.specs.declared.fault.BuildFault.TheVariants as build

infixl 10 ◌>>=◌
abbrev pub ◌>>=◌ : {A B : Type 0} → Result A PartFault → (A → Result B PartFault) → Result B PartFault
(Ok x) >>= next = next x
(Err fault) >>= next = Err fault

-- refused for this cause if the test holds
abbrev pub refuse_if : {A F : Type 0} → Bool → F → Result A F → Result A F
refuse_if true fault otherwise = Err fault
refuse_if false fault otherwise = otherwise

-- the point of a name
abbrev pub named : Plan → List ℕ → Result PointId PartFault
named net name = elim (point_named net name) [ Some point ↦ Ok point | None ↦ Err UnknownName ]

-- the network with one more point
unfoldable pub with_point : Plan → List ℕ → Result Plan PartFault
with_point net name =
    refuse_if (is_some (point_named net name)) DuplicateName
    (refuse_if (nat_le most_points (length net.points)) (Limit Points)
    (Ok (record net { points = net.points ++ name ∷ [] })))

-- the network with one more bound `to - from <= most`
unfoldable pub with_bound : Plan → (name from to : List ℕ) → ℤ → Result Plan PartFault
with_bound net name from to most =
    refuse_if (is_some (bound_named net name)) DuplicateName do
      x ← named net from
      y ← named net to
      refuse_if (not (within_limit most)) (Limit Number)
          (refuse_if (nat_le most_bounds (length net.bounds)) (Limit Bounds)
          (Ok (record net { bounds = net.bounds ++ record { name = name; from = x; to = y; most = most } ∷ [] })))

-- the network with one more link between two of its points, whose durations go from low to high
abbrev pub with_link_between : Plan → (from : PointId) → (low high : ℤ) → (to : PointId) → Result Plan PartFault
with_link_between net from low high to =
    refuse_if (from.0 == to.0) LinkToItself
    (refuse_if (is_some (activation net to)) TwoLinksOnPoint
    (refuse_if (int_lt low (pos 1) || int_lt high low) BadInterval
    (refuse_if (not (within_limit high)) (Limit Number)
    (refuse_if (nat_le most_links (length net.links)) (Limit Links)
    (Ok (record net { links = net.links ++ record { from = from; low = low; high = high; to = to } ∷ [] }))))))

-- the same between the points of two names
unfoldable pub with_link : Plan → (from : List ℕ) → (low high : ℤ) → (to : List ℕ) → Result Plan PartFault
with_link net from low high to = do
  a ← named net from
  c ← named net to
  with_link_between net a low high c

-- the network with one more part
abbrev pub with_part : Plan → Part → Result Plan PartFault
with_part net (Point name) = with_point net name
with_part net (Bound name from to most) = with_bound net name from to most
with_part net (Link from low high to) = with_link net from low high to

-- the fault of a refused part, with its place, from 1
abbrev pub at_place : ℕ → PartFault → BuildFault
at_place place DuplicateName = build.DuplicateName place
at_place place UnknownName = build.UnknownName place
at_place place TwoLinksOnPoint = build.TwoLinksOnPoint place
at_place place LinkToItself = build.LinkToItself place
at_place place BadInterval = build.BadInterval place
at_place place (Limit which) = build.Limit which place
at_place place OutOfMemory = build.OutOfMemory

-- the place of the part that is refused
abbrev pub place_of : BuildFault → Option ℕ
place_of (build.DuplicateName place) = Some place
place_of (build.UnknownName place) = Some place
place_of (build.TwoLinksOnPoint place) = Some place
place_of (build.LinkToItself place) = Some place
place_of (build.BadInterval place) = Some place
place_of (build.Limit which place) = Some place
place_of build.OutOfMemory = None

-- the word by which a quantity is printed
abbrev pub which_word : Which → List ℕ
which_word Points = codes "points"
which_word Links = codes "links"
which_word Bounds = codes "bounds"
which_word Number = codes "number"

-- the word by which a fault is printed
abbrev pub build_fault_word : BuildFault → List ℕ
build_fault_word (build.DuplicateName place) = codes "duplicate-name"
build_fault_word (build.UnknownName place) = codes "unknown-name"
build_fault_word (build.TwoLinksOnPoint place) = codes "two-links-on-point"
build_fault_word (build.LinkToItself place) = codes "link-to-itself"
build_fault_word (build.BadInterval place) = codes "bad-interval"
build_fault_word (build.Limit which place) = codes "limit"
build_fault_word build.OutOfMemory = codes "out of memory"

-- a network with more parts, of which `place` came before
abbrev pub with_parts : ℕ → Plan → List Part → Result Plan BuildFault
with_parts place net [] = Ok net
with_parts place net (part ∷ parts) =
    elim (with_part net part) [ Ok more ↦ with_parts (place + 1) more parts | Err fault ↦ Err (at_place (place + 1) fault) ]

-- what a list of parts builds, or the first refusal with its place
abbrev pub built : List Part → Result Plan BuildFault
built parts = with_parts 0 empty parts

-- the same network with a delay
abbrev pub delayed : ℕ → Result Plan BuildFault → Result Plan BuildFault
delayed delay (Ok net) = Ok (record net { delay = delay })
delayed delay (Err fault) = Err fault

-- the network that a plan declares, of which a delay and these parts were read, or the first refusal with its place
abbrev pub declared_net : ℕ → List Part → Result Plan BuildFault
declared_net delay parts = delayed delay (built parts)

-- The answer is what the parts build, unless memory ran out.
abbrev pub Builds : Result Plan BuildFault → Result Plan BuildFault → Type 0
Builds (Ok net) answer = answer ≡ Ok net
Builds (Err build.OutOfMemory) answer = Unit {0}
Builds (Err fault) answer = answer ≡ Err fault

-- A part is taken in, or refused with no change, as the answer says, unless memory ran out, which changes nothing either.
abbrev pub Adds : Plan → Plan → Result (Unit {0}) PartFault → Result Plan PartFault → Type 0
Adds old new (Ok done) answer = answer ≡ Ok new
Adds old new (Err OutOfMemory) answer = new ≡ old
Adds old new (Err fault) answer = (answer ≡ Err fault) × (new ≡ old)

-- The network has become this one, or memory ran out, which changes nothing.
abbrev pub Pushes : {E : Type 0} → Plan → Plan → Result (Unit {0}) E → Plan → Type 0
Pushes old new (Ok done) more = new ≡ more
Pushes old new (Err error) more = new ≡ old
