-- What lists and objects of `serde_json` are as lists.
use Rattle.std.proofs.Common.{◌≡◌, ℕ, ◌+◌, ◌==◌, List, [], ◌∷◌, map, length, Option, Some, option_map, refl, ap, ◌∙◌, sym, arith}
use Rattle.std.specs.Prelude.{String}
use Rattle.std.specs.declared.alloc.Global.{Global}
use Rattle.serde_json.specs.Data.{Data, Items, Members}
use Rattle.serde_json.specs.View.{view, items_of, items_view, members_view}
use Rattle.serde_json.specs.declared.value.Value.{Value}
use Rattle.plan_json.specs.Document.{list_of, members_count, are_so_many}

-- the items of a list, as a list
pub list_of_items : (values : List Data) → list_of (items_of values) ≡ values
list_of_items [] = refl
list_of_items (value ∷ values) = ap (λ vs. value ∷ vs) (list_of_items values)

-- how many members there are
pub members_counted : (entries : List (String Global × Value)) → members_count (members_view entries) ≡ length entries
members_counted [] = refl
members_counted (entry ∷ entries) = ap (λ n. n + 1) (members_counted entries) ∙ omega arith

-- a map behind a reference has so many members
pub counted : (count : ℕ) (entries : List (String Global × Value)) (members : Option Members) → Some (members_view entries) ≡ members → (length entries == count) ≡ are_so_many count members
counted count entries members is = ap (λ n. n == count) (sym (members_counted entries)) ∙ ap (are_so_many count) is

-- a list that is there
pub list_found : (values : List Value) (items : Option Items) → Some (items_view values) ≡ items → Some (map view values) ≡ option_map list_of items
list_found values items is = ap Some (sym (list_of_items (map view values))) ∙ ap (option_map list_of) is
