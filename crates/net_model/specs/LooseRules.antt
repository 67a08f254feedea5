-- What the line of a certificate may state by a rule of the labelled distance graph (Morris and Muscettola 2005, in this project's form): a
-- relation between premises and conclusion that is looser than the exact rules. The weight may lie above what the rule gives, and no-case
-- and upper-case require no sign and give the plain sum. There are two forms since whoever writes a certificate may round up, and join
-- edges in any order, and what is stated is still true; whatever an exact rule gives may be stated (the law `law_exact_may_be_stated`).
use Rattle.std.specs.Prelude.{◌≡◌, ◌≢◌, ℕ, pos, ◌+ℤ◌, ◌-ℤ◌, ◌≤ℤ◌, ◌<ℤ◌, List, Some, None, slice_get, take}
use Rattle.std.specs.List.{Contains}
use Rattle.net_model.specs.Network.{Plan}
use Rattle.net_model.specs.Edges.{IsLinkOf, Meet}
use Rattle.net_model.specs.declared.ids.LinkId.{LinkId}
use Rattle.net_model.specs.declared.part.Bound.{Bound}
use Rattle.net_model.specs.declared.part.Edge.{Edge}
use Rattle.net_model.specs.declared.part.Link.{Link}

-- bound: a bound from X to Y of d gives X to Y of d
pub record IsLooseBound (net : Plan) (edge : Edge) : Type 0 where
  pub place : ℕ
  pub bound : Bound
  pub declared : slice_get net.bounds place ≡ Some bound
  pub from : edge.from ≡ bound.from
  pub to : edge.to ≡ bound.to
  pub ordinary : edge.label ≡ None
  pub looser : bound.most ≤ℤ edge.weight

-- link: a link from A to C of at most y gives C to A of -y, labelled by the link
pub record IsLooseLink (net : Plan) (edge : Edge) : Type 0 where
  pub name : LinkId
  pub link : Link
  pub declared : IsLinkOf net name link
  pub from : edge.from ≡ link.to
  pub to : edge.to ≡ link.from
  pub labelled : edge.label ≡ Some name
  pub looser : (pos 0 -ℤ link.high) ≤ℤ edge.weight

-- no-case: X to Y of v and Y to Z of u give X to Z of v + u
pub record IsLooseNoCase (first second edge : Edge) : Type 0 where
  pub first_ordinary : first.label ≡ None
  pub second_ordinary : second.label ≡ None
  pub meet : Meet first second
  pub from : edge.from ≡ first.from
  pub to : edge.to ≡ second.to
  pub ordinary : edge.label ≡ None
  pub looser : (first.weight +ℤ second.weight) ≤ℤ edge.weight

-- upper-case: X to Y of v and Y to A of u, labelled B, give X to A of v + u, labelled B
pub record IsLooseUpperCase (first second edge : Edge) : Type 0 where
  pub label : LinkId
  pub first_ordinary : first.label ≡ None
  pub second_labelled : second.label ≡ Some label
  pub meet : Meet first second
  pub from : edge.from ≡ first.from
  pub to : edge.to ≡ second.to
  pub labelled : edge.label ≡ Some label
  pub looser : (first.weight +ℤ second.weight) ≤ℤ edge.weight

-- lower-case: a link from A to C of at least x, and C to Z of u < 0, give A to Z of x + u
pub record IsLooseLowerCase (net : Plan) (second edge : Edge) : Type 0 where
  pub name : LinkId
  pub link : Link
  pub declared : IsLinkOf net name link
  pub second_ordinary : second.label ≡ None
  pub begins : second.from ≡ link.to
  pub negative : second.weight <ℤ pos 0
  pub from : edge.from ≡ link.from
  pub to : edge.to ≡ second.to
  pub ordinary : edge.label ≡ None
  pub looser : (link.low +ℤ second.weight) ≤ℤ edge.weight

-- cross-case: a link from A to C of at least x, and C to D of u < 0, labelled by another link B, give A to D of x + u,
-- labelled B
pub record IsLooseCrossCase (net : Plan) (second edge : Edge) : Type 0 where
  pub name : LinkId
  pub link : Link
  pub label : LinkId
  pub declared : IsLinkOf net name link
  pub another : label ≢ name
  pub second_labelled : second.label ≡ Some label
  pub begins : second.from ≡ link.to
  pub negative : second.weight <ℤ pos 0
  pub from : edge.from ≡ link.from
  pub to : edge.to ≡ second.to
  pub labelled : edge.label ≡ Some label
  pub looser : (link.low +ℤ second.weight) ≤ℤ edge.weight

-- removal: X to A of z, labelled by a link from A of at least x, gives X to A of the greater of z and -x
pub record IsLooseRemoval (net : Plan) (premise edge : Edge) : Type 0 where
  pub name : LinkId
  pub link : Link
  pub declared : IsLinkOf net name link
  pub premise_labelled : premise.label ≡ Some name
  pub ends : premise.to ≡ link.from
  pub from : edge.from ≡ premise.from
  pub to : edge.to ≡ premise.to
  pub ordinary : edge.label ≡ None
  pub looser : premise.weight ≤ℤ edge.weight
  pub not_below_shortest : (pos 0 -ℤ link.low) ≤ℤ edge.weight

-- an edge may be stated after edges of a list, by one rule
pub data FollowsLoosely (net : Plan) (earlier : List Edge) (edge : Edge) : Type 0 where
  by_bound : IsLooseBound net edge → FollowsLoosely net earlier edge
  by_link : IsLooseLink net edge → FollowsLoosely net earlier edge
  by_no_case : (first second : Edge) → Contains earlier first → Contains earlier second → IsLooseNoCase first second edge → FollowsLoosely net earlier edge
  by_upper_case : (first second : Edge) → Contains earlier first → Contains earlier second → IsLooseUpperCase first second edge
      → FollowsLoosely net earlier edge
  by_lower_case : (second : Edge) → Contains earlier second → IsLooseLowerCase net second edge → FollowsLoosely net earlier edge
  by_cross_case : (second : Edge) → Contains earlier second → IsLooseCrossCase net second edge → FollowsLoosely net earlier edge
  by_removal : (premise : Edge) → Contains earlier premise → IsLooseRemoval net premise edge → FollowsLoosely net earlier edge

-- a derivation as a certificate states it: each edge may be stated after those before it
abbrev pub IsLooseDerivation : Plan → List Edge → Type 0
IsLooseDerivation net edges = (place : ℕ) (edge : Edge) → slice_get edges place ≡ Some edge → FollowsLoosely net (take place edges) edge
