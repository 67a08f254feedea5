-- What an edit makes of a network, or why it is refused.
use Rattle.std.specs.Prelude.{◌≡◌, ◌==◌, ◌||◌, ◌-◌, ℕ, ℤ, List, map, Option, Some, None, Result, Ok, Err, nat_lt, pos, int_lt, not, if◌then◌else◌, slice_get}
use Rattle.std.specs.Prelude.{codes}
use Rattle.std.specs.List.{position, remove, slice_set}
use Rattle.std.specs.Option.{option_map}
use Rattle.net_model.specs.BuiltNetwork.{refuse_if, with_point, with_bound, with_link}
use Rattle.net_model.specs.Limits.{within_limit}
use Rattle.net_model.specs.Network.{Plan, point_named, bound_named, link_named}
use Rattle.net_model.specs.declared.ids.BoundId.{BoundId}
use Rattle.net_model.specs.declared.ids.LinkId.{LinkId}
use Rattle.net_model.specs.declared.ids.PointId.{PointId}
use Rattle.net_model.specs.declared.part.Bound.{Bound}
use Rattle.net_model.specs.declared.part.Link.{Link}
use Rattle.net_model.specs.declared.part.Which.TheVariants.{Number}
use Rattle.net_model.specs.declared.fault.PartFault.{PartFault}
use Rattle.net_model.specs.declared.fault.PartFault.TheVariants as part
use Rattle.net_model.specs.declared.edit.Edit.{Edit}
use Rattle.net_model.specs.declared.edit.Edit.TheVariants as edits
use Rattle.net_model.specs.declared.edit.EditFault.{EditFault}
use Rattle.net_model.specs.declared.edit.EditFault.TheVariants as fault
use Rattle.net_model.specs.declared.edit.User.{User}
use Rattle.net_model.specs.declared.edit.User.TheVariants as user

-- why an addition is refused, by why the part is
abbrev pub cause_of : PartFault → EditFault
cause_of part.DuplicateName = fault.DuplicateName
cause_of part.UnknownName = fault.UnknownName
cause_of part.TwoLinksOnPoint = fault.TwoLinksOnPoint
cause_of part.LinkToItself = fault.LinkToItself
cause_of part.BadInterval = fault.BadInterval
cause_of (part.Limit which) = fault.Limit which
cause_of part.OutOfMemory = fault.OutOfMemory

-- an addition takes in a part, and is refused as the part is
abbrev pub added : Result Plan PartFault → Result Plan EditFault
added (Ok net) = Ok net
added (Err cause) = Err (cause_of cause)

-- what is made of what was found; if nothing was found, the name is unknown
abbrev pub known : {A B : Type 0} → Option A → (A → Result B EditFault) → Result B EditFault
known (Some found) next = next found
known None next = Err fault.UnknownName

-- the first bound in order that names a point
abbrev pub bound_user : Plan → PointId → Option BoundId
bound_user net point = option_map (λ k. record { 0 = k }) (position (λ (b : Bound). b.from.0 == point.0 || b.to.0 == point.0) net.bounds)

-- the first link in order that names a point
abbrev pub link_user : Plan → PointId → Option LinkId
link_user net point = option_map (λ k. record { 0 = k }) (position (λ (l : Link). l.from.0 == point.0 || l.to.0 == point.0) net.links)

-- a bound before a link
abbrev pub user_by : Option BoundId → Option LinkId → Option User
user_by (Some bound) link = Some (user.Bound bound)
user_by None (Some link) = Some (user.Link link)
user_by None None = None

-- the first bound that names a point, else the first link
abbrev pub user_of : Plan → PointId → Option User
user_of net point = user_by (bound_user net point) (link_user net point)

-- refused if something uses the point
abbrev pub unused : Option User → Result Plan EditFault → Result Plan EditFault
unused (Some user) otherwise = Err (fault.StillUsed user)
unused None otherwise = otherwise

-- the number that a point has after one is dropped
abbrev pub closed_up : PointId → PointId → PointId
closed_up dropped point = if nat_lt dropped.0 point.0 then record { 0 = point.0 - 1 } else point

-- bounds with the numbers that their points have after one is dropped
abbrev pub closed_up_bounds : PointId → List Bound → List Bound
closed_up_bounds dropped bounds = map (λ (b : Bound). record b { from = closed_up dropped b.from; to = closed_up dropped b.to }) bounds

-- links with the numbers that their points have after one is dropped
abbrev pub closed_up_links : PointId → List Link → List Link
closed_up_links dropped links = map (λ (l : Link). record l { from = closed_up dropped l.from; to = closed_up dropped l.to }) links

-- the network without a point
abbrev pub without_point : Plan → PointId → Plan
without_point net dropped = record {
  points = remove net.points dropped.0;
  bounds = closed_up_bounds dropped net.bounds;
  links = closed_up_links dropped net.links;
  delay = net.delay;
}

-- the network in which a bound has this number
abbrev pub with_number : Plan → BoundId → ℤ → Bound → Plan
with_number net id most bound = record net { bounds = slice_set net.bounds id.0 (record bound { most = most }) }

-- the network in which the durations of a link go from low to high
abbrev pub with_interval : Plan → LinkId → (low high : ℤ) → Link → Plan
with_interval net id low high link = record net { links = slice_set net.links id.0 (record link { low = low; high = high }) }

-- The network that an edit makes of a network, or why it is refused. An addition goes to the end of its list, and is refused as its part
-- is. A list closes up over what is dropped, and with it the numbers of points in bounds and links. What is set keeps its place. The delay
-- stays.
abbrev pub edited : Plan → Edit → Result Plan EditFault
edited net (edits.AddPoint name) = added (with_point net name)
edited net (edits.AddBound name from to most) = added (with_bound net name from to most)
edited net (edits.AddLink from low high to) = added (with_link net from low high to)
edited net (edits.DropPoint name) = known (point_named net name) (λ point. unused (user_of net point) (Ok (without_point net point)))
edited net (edits.DropBound name) = known (bound_named net name) (λ id. Ok (record net { bounds = remove net.bounds id.0 }))
edited net (edits.SetBound name most) =
    known (bound_named net name)
    (λ id. known (slice_get net.bounds id.0)
    (λ bound.
    refuse_if (not (within_limit most)) (fault.Limit Number)
    (Ok (with_number net id most bound))))
edited net (edits.DropLink to) = known (link_named net to) (λ id. Ok (record net { links = remove net.links id.0 }))
edited net (edits.SetLink to low high) =
    known (link_named net to)
    (λ id. known (slice_get net.links id.0)
    (λ link.
    refuse_if (int_lt low (pos 1) || int_lt high low) fault.BadInterval
    (refuse_if (not (within_limit high)) (fault.Limit Number)
    (Ok (with_interval net id low high link)))))

-- The answer is what the edit makes, unless memory ran out.
abbrev pub Edits : Result Plan EditFault → Result Plan EditFault → Type 0
Edits (Ok net) answer = answer ≡ Ok net
Edits (Err fault.OutOfMemory) answer = Unit {0}
Edits (Err cause) answer = answer ≡ Err cause

-- the word by which a fault is printed
abbrev pub fault_word : EditFault → List ℕ
fault_word fault.DuplicateName = codes "duplicate-name"
fault_word fault.UnknownName = codes "unknown-name"
fault_word fault.TwoLinksOnPoint = codes "two-links-on-point"
fault_word fault.LinkToItself = codes "link-to-itself"
fault_word fault.BadInterval = codes "bad-interval"
fault_word (fault.Limit which) = codes "limit"
fault_word (fault.StillUsed user) = codes "still-used"
fault_word fault.OutOfMemory = codes "out of memory"
