-- The nodes of what is new, one place after another, and base nodes pushed to a list.
use Rattle.std.proofs.Common.{◌≡◌, ℕ, ◌+◌, ◌≤◌, ◌<◌, Bool, true, false, cond, List, [], ◌∷◌, ◌++◌, length, get_or, take, map, refl, ap, sym, ◌∙◌, arith, append_assoc}
use Rattle.std.specs.Prelude.{filter, if◌then◌else◌}
use Rattle.std.specs.List.{enumerate_from, Contains, All}
use Rattle.std.proofs.lemmas.List.{map-append}
use Rattle.std.proofs.lemmas.List.Elements.{filter-append, All-take}
use Rattle.std.proofs.lemmas.List.FromFn.{length-enumerate_from}
use Rattle.std.proofs.Math.Seq.{take-length}
use Rattle.net_model.specs.Network.{Plan}
use Rattle.closure_model.specs.Derivations.{IsGiven, IsDerivationList, base_nodes}
use Rattle.closure_model.specs.declared.derivation.Node.{Node}
use Rattle.closure_model.proofs.NumberedItems.{first_numbered_more}
use Rattle.closure_model.proofs.SupportLemmas.{base_given}
use Rattle.edit_laws.proofs.FollowedSupport.{base_pushed}

one_filtered : {X : Type 0} (p : ℕ × X → Bool) (made : ℕ × X → Node) (e : ℕ × X) → map made (filter p (e ∷ [])) ≡ (if p e then made e ∷ [] else [])
one_filtered p made e = by (p e)
  where
    by : (b : Bool) → map made (cond b (e ∷ []) []) ≡ (if b then made e ∷ [] else [])
    by true = refl
    by false = refl

-- nodes, and after them those of the first of some items that are wanted
module _ {X : Type 0} (p : ℕ × X → Bool) (made : ℕ × X → Node) (start : List Node) where
  abbrev pub with_first : ℕ → List X → List Node
  with_first place xs = start ++ map made (filter p (take place (enumerate_from 0 xs)))

  pub newly_more : (before all : List Node) (listed xs : List X) (place : ℕ) (d : X) (node : Node) (wanted : Bool) → listed ≡ xs → place < length xs
      → before ≡ with_first place xs → node ≡ made (place, get_or listed place d) → wanted ≡ p (place, get_or listed place d) → all ≡ before ++ (if wanted then node ∷ [] else [])
      → all ≡ with_first (place + 1) xs
  newly_more before all listed xs place d node wanted same inside was node_is wanted_is pushed =
      let e : ℕ × X = (place, get_or xs place d) in
      let at : (place, get_or listed place d) ≡ e = ap (λ (ys : List X). (place, get_or ys place d)) same in
      let step : map made (filter p (take (place + 1) (enumerate_from 0 xs))) ≡ map made (filter p (take place (enumerate_from 0 xs))) ++ (if p e then made e ∷ [] else []) =
      ap (λ (es : List (ℕ × X)). map made (filter p es)) (first_numbered_more xs place d inside)
      ∙ (ap (map made) (filter-append p (take place (enumerate_from 0 xs)) (e ∷ []))
      ∙ (map-append made (filter p (take place (enumerate_from 0 xs))) (filter p (e ∷ [])) ∙ ap (λ (ns : List Node). map made (filter p (take place (enumerate_from 0 xs))) ++ ns) (one_filtered p made e))) in
      pushed
      ∙ ((λ i. was i ++ (if (wanted_is ∙ ap p at) i then (node_is ∙ ap made at) i ∷ [] else []))
      ∙ (append_assoc start (map made (filter p (take place (enumerate_from 0 xs)))) (if p e then made e ∷ [] else []) ∙ ap (λ (ns : List Node). start ++ ns) (sym step)))

  pub newly_all : (after : List Node) (xs : List X) (place : ℕ) → length xs ≤ place → place ≤ length xs → after ≡ with_first place xs → after ≡ start ++ map made (filter p (enumerate_from 0 xs))
  newly_all after xs place least most was =
      let size : place ≡ length (enumerate_from 0 xs) = simp length-enumerate_from (omega arith) in
      was ∙ ap (λ (es : List (ℕ × X)). start ++ map made (filter p es)) (ap (λ (n : ℕ). take n (enumerate_from 0 xs)) size ∙ take-length (enumerate_from 0 xs))

-- base nodes after a list
pub first_pushed : (net : Plan) (list nodes : List Node) (n : ℕ) → IsDerivationList net list → All (Contains (base_nodes net)) nodes → IsDerivationList net (list ++ take n nodes)
first_pushed net list nodes n derived base = base_pushed net list (take n nodes) derived (All-take (Contains (base_nodes net)) n nodes base)

pub node_given : (net : Plan) (earlier nodes : List Node) (k : ℕ) (d : Node) → k < length nodes → All (Contains (base_nodes net)) nodes → IsGiven net earlier (get_or nodes k d)
node_given net earlier nodes k d inside base = base_given net earlier (get_or nodes k d) (base k d inside)
