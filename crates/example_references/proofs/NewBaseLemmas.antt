-- The new base nodes are those base nodes that are new.
use Rattle.std.proofs.Common.{◌≡◌, ℕ, Bool, true, false, cond, List, [], ◌∷◌, ◌++◌, map, Option, refl, ap, ◌∙◌}
use Rattle.std.specs.Prelude.{filter}
use Rattle.std.specs.List.{Contains, enumerate_from}
use Rattle.std.specs.Option.{option_map_or}
use Rattle.std.proofs.lemmas.List.Elements.{filter-append}
use Rattle.net_model.specs.declared.part.Bound.{Bound}
use Rattle.net_model.specs.declared.part.Link.{Link}
use Rattle.closure_model.specs.Derivations.{base_nodes, bound_node, link_node}
use Rattle.closure_model.specs.declared.derivation.Node.{Node}
use Rattle.closure_model.proofs.ReachedTables.{numbered_at}
use Rattle.closure_model.proofs.Lists.{Contains-head, Contains-tail}
use Rattle.edit_laws.specs.EditNumbers.{new_bounds, new_links, new_base_nodes, is_new_bound, is_new_link}
use Rattle.example_references.specs.Marks.{is_new_base}
use Rattle.example_references.specs.declared.edited_network.Edited.{Edited}

-- the images that pass one test are those of the items that pass another
filtered : {X Y : Type 0} (made : X → Y) (p : Y → Bool) (q : X → Bool) (xs : List X) → ((x : X) → Contains xs x → p (made x) ≡ q x) → filter p (map made xs) ≡ map made (filter q xs)
filtered made p q [] same = refl
filtered {X = X} {Y = Y} made p q (x ∷ xs) same = by (filtered made p q xs (λ y inside. same y (Contains-tail x xs y inside))) (q x) refl
  where
    by : filter p (map made xs) ≡ map made (filter q xs) → (b : Bool) → q x ≡ b → cond (p (made x)) (made x ∷ filter p (map made xs)) (filter p (map made xs)) ≡ map made (cond (q x) (x ∷ filter q xs) (filter q xs))
    by rest true is =
        let passes : p (made x) ≡ true = same x (Contains-head x xs) ∙ is in
        rw (passes, is) (ap (λ (ys : List Y). made x ∷ ys) rest)
    by rest false is =
        let fails : p (made x) ≡ false = same x (Contains-head x xs) ∙ is in
        rw (fails, is) rest

module _ (edited : Edited) where
  bounds_are : filter (λ (node : Node). is_new_base edited node.rule) (map bound_node (enumerate_from 0 edited.after.now.bounds)) ≡ map bound_node (new_bounds edited.before.now edited.edit.now edited.after.now)
  bounds_are =
      filtered bound_node (λ (node : Node). is_new_base edited node.rule) (λ (e : ℕ × Bound). is_new_bound edited.before.now edited.edit.now edited.after.now e.1) (enumerate_from 0 edited.after.now.bounds)
      (λ e inside. ap (λ (o : Option Bound). option_map_or (is_new_bound edited.before.now edited.edit.now edited.after.now) o false) (numbered_at edited.after.now.bounds e inside))

  links_are : filter (λ (node : Node). is_new_base edited node.rule) (map link_node (enumerate_from 0 edited.after.now.links)) ≡ map link_node (new_links edited.before.now edited.edit.now edited.after.now)
  links_are =
      filtered link_node (λ (node : Node). is_new_base edited node.rule) (λ (e : ℕ × Link). is_new_link edited.before.now edited.edit.now edited.after.now e.1) (enumerate_from 0 edited.after.now.links)
      (λ e inside. ap (λ (o : Option Link). option_map_or (is_new_link edited.before.now edited.edit.now edited.after.now) o false) (numbered_at edited.after.now.links e inside))

  pub new_base_are : filter (λ (node : Node). is_new_base edited node.rule) (base_nodes edited.after.now) ≡ new_base_nodes edited.before.now edited.edit.now edited.after.now
  new_base_are =
      filter-append (λ (node : Node). is_new_base edited node.rule) (map bound_node (enumerate_from 0 edited.after.now.bounds)) (map link_node (enumerate_from 0 edited.after.now.links))
      ∙ λ i. bounds_are i ++ links_are i
