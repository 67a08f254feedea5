-- The place of a refused part.
use Rattle.std.proofs.Common.{◌≡◌, ℕ, ◌+◌, ◌<◌, ◌≤◌, List, [], ◌∷◌, length, Some, Result, Ok, Err, ap, ◌∙◌, arith}
use Rattle.net_model.specs.Network.{Plan}
use Rattle.net_model.specs.BuiltNetwork.{at_place, place_of, with_part, with_parts, built, Builds}
use Rattle.net_model.specs.declared.part.Part.{Part}
use Rattle.net_model.specs.declared.fault.PartFault.{PartFault}
use Rattle.net_model.specs.declared.fault.PartFault.TheVariants.{DuplicateName, UnknownName, TwoLinksOnPoint, LinkToItself, BadInterval, Limit, OutOfMemory}
use Rattle.net_model.specs.declared.fault.BuildFault.{BuildFault}
use Rattle.net_model.specs.declared.fault.BuildFault.TheVariants as build

place_at : (n : ℕ) (fault : PartFault) (place : ℕ) → place_of (at_place n fault) ≡ Some place → place ≡ n
place_at n DuplicateName place is = cc
place_at n UnknownName place is = cc
place_at n TwoLinksOnPoint place is = cc
place_at n LinkToItself place is = cc
place_at n BadInterval place is = cc
place_at n (Limit which) place is = cc
place_at n OutOfMemory place is = absurd (cc)

-- the place is that of one of the parts
record IsWithin (before place : ℕ) (parts : List Part) : Type 0 where
  after : before < place
  few : place ≤ before + length parts

-- what is built from the answer to a part on
abbrev continued : ℕ → List Part → Result Plan PartFault → Result Plan BuildFault
continued n parts here = elim here [ Ok more ↦ with_parts (n + 1) more parts | Err why ↦ Err (at_place (n + 1) why) ]

within_by : (n : ℕ) (p : Part) (parts : List Part) (fault : BuildFault) (place : ℕ) (here : Result Plan PartFault) → ((net : Plan) → with_parts (n + 1) net parts ≡ Err fault → IsWithin (n + 1) place parts)
    → continued n parts here ≡ Err fault → place_of fault ≡ Some place → IsWithin n place (p ∷ parts)
within_by n p parts fault place (Ok net) further refused is =
    let rest = further net refused in
    record { after = omega (arith, rest.after); few = omega (arith, rest.few) }
within_by n p parts fault place (Err why) further refused is =
    let same : at_place (n + 1) why ≡ fault = cc in
    let at : place ≡ n + 1 = place_at (n + 1) why place (ap place_of same ∙ is) in
    record { after = omega arith; few = omega arith }

place_within : (n : ℕ) (net : Plan) (parts : List Part) (fault : BuildFault) (place : ℕ) → with_parts n net parts ≡ Err fault → place_of fault ≡ Some place → IsWithin n place parts
place_within n net [] fault place refused is = absurd (cc)
place_within n net (p ∷ parts) fault place refused is =
    within_by n p parts fault place (with_part net p) (λ more further. place_within (n + 1) more parts fault place further is) refused is

-- the place of the part that is refused, from 1
pub built_place : (parts : List Part) (fault : BuildFault) (place : ℕ) → built parts ≡ Err fault → place_of fault ≡ Some place → (0 < place) × (place ≤ length parts)
built_place parts fault place refused is =
    let within = place_within 0 _ parts fault place refused is in
    (within.after, omega (arith, within.few))

-- a fault with a place is what the parts build
pub refused_is : (fault : BuildFault) (answer : Result Plan BuildFault) (place : ℕ) → Builds (Err fault) answer → place_of fault ≡ Some place → answer ≡ Err fault
refused_is (build.DuplicateName n) answer place builds is = builds
refused_is (build.UnknownName n) answer place builds is = builds
refused_is (build.TwoLinksOnPoint n) answer place builds is = builds
refused_is (build.LinkToItself n) answer place builds is = builds
refused_is (build.BadInterval n) answer place builds is = builds
refused_is (build.Limit which n) answer place builds is = builds
refused_is build.OutOfMemory answer place builds is = absurd (cc)
