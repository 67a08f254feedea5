-- The parts of the items of a list after those of one item more.
use Rattle.std.proofs.Common.{◌≡◌, ◌∙◌, ℕ, ◌+◌, List, ◌∷◌, ◌++◌, ◌<◌, map, drop, length, get_or, Result, Ok, Err, append_assoc, refl, sym, ap}
use Rattle.std.proofs.lemmas.List.{drop_more}
use Rattle.net_model.specs.declared.part.Part.{Part}
use Rattle.plan_json.specs.Document.{Fault as Wrong, ◌>>=◌, item_parts, items_parts, place_after}
use Rattle.plan_json.specs.DocumentReading.{Fails, with_prefix}
use Rattle.plan_json.specs.declared.fault.JsonFault.{JsonFault}
use Rattle.plan_json.specs.declared.fault.JsonFault.TheVariants.{NotJson, Shape, BadName, NumberLimit, OutOfMemory}
use Rattle.plan_json.specs.declared.place.PartList.{PartList}
use Rattle.serde_json.specs.Data.{Data}

pub seen_from : {X : Type 0} (seen : X → Data) (items : List X) (count : ℕ) (item : X) → count < length items → item ≡ get_or items count item
    → map seen (drop count items) ≡ seen item ∷ map seen (drop (count + 1) items)
seen_from seen items count item within is = ap (λ xs. map seen xs) (drop_more items count item within ∙ ap (λ x. x ∷ drop (count + 1) items) (sym is))

module _ (prefix : List Part) (list : PartList) (count : ℕ) (value : Data) (values : List Data) where
  pub one_read : (parts : List Part) → with_prefix prefix (item_parts (place_after list count) value) ≡ Ok parts
      → with_prefix prefix (items_parts list count (value ∷ values)) ≡ with_prefix parts (items_parts list (count + 1) values)
  one_read parts = by (item_parts (place_after list count) value) (items_parts list (count + 1) values)
    where
      by : (first others : Result (List Part) Wrong) → with_prefix prefix first ≡ Ok parts
          → with_prefix prefix (first >>= λ first. others >>= λ others. Ok (first ++ others)) ≡ with_prefix parts others
      by (Ok first) (Ok others) is = (let same : prefix ++ first ≡ parts = cc in ap Ok (sym (append_assoc prefix first others) ∙ ap (λ (parts : List Part). parts ++ others) same))
      by (Ok first) (Err wrong) is = refl
      by (Err wrong) others is = absurd (cc)

  pub one_refused : (fault : JsonFault) → Fails fault (with_prefix prefix (item_parts (place_after list count) value)) → Fails fault (with_prefix prefix (items_parts list count (value ∷ values)))
  one_refused = by (item_parts (place_after list count) value)
    where
      refused : (first : Result (List Part) Wrong) (wrong : Wrong) → with_prefix prefix first ≡ Err wrong
          → with_prefix prefix (first >>= λ first. items_parts list (count + 1) values >>= λ others. Ok (first ++ others)) ≡ Err wrong
      refused (Ok first) wrong is = absurd (cc)
      refused (Err other) wrong is = is

      by : (first : Result (List Part) Wrong) (fault : JsonFault) → Fails fault (with_prefix prefix first)
          → Fails fault (with_prefix prefix (first >>= λ first. items_parts list (count + 1) values >>= λ others. Ok (first ++ others)))
      by first NotJson is = is
      by first (Shape list place) is = refused first _ is
      by first (BadName list place) is = refused first _ is
      by first (NumberLimit list place) is = refused first _ is
      by first OutOfMemory is = is
