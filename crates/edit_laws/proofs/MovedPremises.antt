-- When a rule has new numbers: exactly if its item is not taken away and each of its premises has a place.
use Rattle.std.proofs.Common.{◌≡◌, ℕ, ◌<◌, Bool, true, false, ◌⊎◌, inl, inr, List, [], ◌∷◌, ◌++◌, length, get_or, Option, Some, None, refl, ap, sym, ◌∙◌, subst, arith}
use Rattle.std.specs.Prelude.{nat_lt}
use Rattle.std.specs.List.{All, Contains}
use Rattle.std.specs.Option.{option_map, option_and_then}
use Rattle.std.proofs.lemmas.List.{get_or_past}
use Rattle.std.proofs.lemmas.List.Elements.{All-head, All-tail}
use Rattle.std.proofs.Math.ListN.{get_or-append}
use borrow.Author.Tests.{ltb-true, ltb-false}
use Rattle.net_model.specs.declared.ids.LinkId.{LinkId}
use Rattle.closure_model.specs.Derivations.{premises_of, item_of}
use Rattle.closure_model.specs.declared.derivation.Item.TheVariants as item
use Rattle.closure_model.specs.declared.derivation.Item.{Item}
use Rattle.closure_model.specs.declared.derivation.NodeId.{NodeId}
use Rattle.closure_model.specs.declared.derivation.Rule.TheVariants as by_rule
use Rattle.closure_model.specs.declared.derivation.Rule.{Rule}
use Rattle.closure_model.proofs.Lists.{Contains-head, Contains-tail, Contains-cases, Contains-none}
use Rattle.edit_laws.specs.KeptLists.{Renumbering, IsTakenAway, place_at, moved_rule}

-- ---- places, after one more
module _ (places : List (Option NodeId)) (last : Option NodeId) where
  pub place_before : (id : NodeId) → id.0 < length places → place_at (places ++ last ∷ []) id ≡ place_at places id
  place_before id inside = get_or-append places (last ∷ []) None id.0 inside

  pub place_last : (id : NodeId) → id.0 ≡ length places → place_at (places ++ last ∷ []) id ≡ last
  place_last id is = ap (λ (n : ℕ). get_or (places ++ last ∷ []) n None) is ∙ at_end places
    where
      at_end : (ps : List (Option NodeId)) → get_or (ps ++ last ∷ []) (length ps) None ≡ last
      at_end [] = refl
      at_end (p ∷ ps) = at_end ps

pub placed_within : (places : List (Option NodeId)) (id place : NodeId) → place_at places id ≡ Some place → id.0 < length places
placed_within places id place is = by (nat_lt id.0 (length places)) refl
  where
    by : (b : Bool) → nat_lt id.0 (length places) ≡ b → id.0 < length places
    by true inside = ltb-true id.0 (length places) inside
    by false past =
        let none : get_or places id.0 None ≡ None = get_or_past places id.0 None (omega (arith, ltb-false id.0 (length places) past)) in
        let both : Some place ≡ None = sym is ∙ none in absurd cc

-- ---- a pair of premises
none_of_two : {X : Type 0} (P : X → NodeId → Rule) (a : Option X) (b : Option NodeId) → option_and_then (λ x. option_map (P x) b) a ≡ None → (a ≡ None) ⊎ (b ≡ None)
none_of_two P None b is = inl refl
none_of_two P (Some x) None is = inr refl
none_of_two P (Some x) (Some y) is = absurd cc

pub both_of_two : {X : Type 0} (P : X → NodeId → Rule) (a : Option X) (b : Option NodeId) (made : Rule) → option_and_then (λ x. option_map (P x) b) a ≡ Some made → (x : X) × (y : NodeId) × (a ≡ Some x) × (b ≡ Some y) × (P x y ≡ made)
both_of_two P None b made is = absurd cc
both_of_two P (Some x) None made is = absurd cc
both_of_two P (Some x) (Some y) made is = (x, y, refl, refl, cc)

none_of_one : {X : Type 0} (P : X → Rule) (a : Option X) → option_map P a ≡ None → a ≡ None
none_of_one P None is = refl
none_of_one P (Some x) is = absurd cc

pub one_of_one : {X : Type 0} (P : X → Rule) (a : Option X) (made : Rule) → option_map P a ≡ Some made → (x : X) × (a ≡ Some x) × (P x ≡ made)
one_of_one P None made is = absurd cc
one_of_one P (Some x) made is = (x, refl, cc)

module _ (moves : Renumbering) (places : List (Option NodeId)) where
  -- what keeps a rule from having new numbers
  abbrev Lacks : Rule → Type 0
  Lacks rule = ((what : Item) × IsTakenAway moves what × (item_of rule ≡ Some what)) ⊎ ((premise : NodeId) × Contains (premises_of rule) premise × (place_at places premise ≡ None))

  two_lack : (first second : NodeId) (rule : Rule) → premises_of rule ≡ first ∷ second ∷ [] → (place_at places first ≡ None) ⊎ (place_at places second ≡ None) → Lacks rule
  two_lack first second rule are (inl none) = inr (first, subst (λ (ps : List NodeId). Contains ps first) (sym are) (Contains-head first (second ∷ [])), none)
  two_lack first second rule are (inr none) = inr (second, subst (λ (ps : List NodeId). Contains ps second) (sym are) (Contains-tail first (second ∷ []) second (Contains-head second [])), none)

  link_lacks : (name : LinkId) (second : NodeId) (rule : Rule) → item_of rule ≡ Some (item.Link name) → premises_of rule ≡ second ∷ [] → (moves.links name ≡ None) ⊎ (place_at places second ≡ None) → Lacks rule
  link_lacks name second rule uses are (inl none) = inl (item.Link name, none, uses)
  link_lacks name second rule uses are (inr none) = inr (second, subst (λ (ps : List NodeId). Contains ps second) (sym are) (Contains-head second []), none)

  pub lacking : (rule : Rule) → moved_rule moves places rule ≡ None → Lacks rule
  lacking (by_rule.Bound name) is = inl (item.Bound name, none_of_one by_rule.Bound (moves.bounds name) is, refl)
  lacking (by_rule.Link name) is = inl (item.Link name, none_of_one by_rule.Link (moves.links name) is, refl)
  lacking (by_rule.No first second) is = two_lack first second (by_rule.No first second) refl (none_of_two by_rule.No (place_at places first) (place_at places second) is)
  lacking (by_rule.Up first second) is = two_lack first second (by_rule.Up first second) refl (none_of_two by_rule.Up (place_at places first) (place_at places second) is)
  lacking (by_rule.Low name second) is = link_lacks name second (by_rule.Low name second) refl refl (none_of_two by_rule.Low (moves.links name) (place_at places second) is)
  lacking (by_rule.Cross name second) is = link_lacks name second (by_rule.Cross name second) refl refl (none_of_two by_rule.Cross (moves.links name) (place_at places second) is)
  lacking (by_rule.Drop premise) is = inr (premise, Contains-head premise [], none_of_one by_rule.Drop (place_at places premise) is)

  -- a premise that has a place
  abbrev HasPlace : NodeId → Type 0
  HasPlace premise = (place : NodeId) × (place_at places premise ≡ Some place)

  one_has : (second premise : NodeId) → HasPlace second → Contains (second ∷ []) premise → HasPlace premise
  one_has second premise has inside = by (Contains-cases second [] premise inside)
    where
      by : (second ≡ premise) ⊎ Contains [] premise → HasPlace premise
      by (inl same) = subst HasPlace same has
      by (inr none) = absurd (Contains-none premise none)

  two_have : (first second premise : NodeId) → HasPlace first → HasPlace second → Contains (first ∷ second ∷ []) premise → HasPlace premise
  two_have first second premise one two inside = by (Contains-cases first (second ∷ []) premise inside)
    where
      by : (first ≡ premise) ⊎ Contains (second ∷ []) premise → HasPlace premise
      by (inl same) = subst HasPlace same one
      by (inr rest) = one_has second premise two rest

  -- if a rule has new numbers, its premises have places and its item is not taken away
  pub premises_have : (rule made : Rule) → moved_rule moves places rule ≡ Some made → (premise : NodeId) → Contains (premises_of rule) premise → HasPlace premise
  premises_have (by_rule.Bound name) made is premise inside = absurd (Contains-none premise inside)
  premises_have (by_rule.Link name) made is premise inside = absurd (Contains-none premise inside)
  premises_have (by_rule.No first second) made is premise inside =
      let (one, two, first_is, second_is, same) = both_of_two by_rule.No (place_at places first) (place_at places second) made is in
      two_have first second premise (one, first_is) (two, second_is) inside
  premises_have (by_rule.Up first second) made is premise inside =
      let (one, two, first_is, second_is, same) = both_of_two by_rule.Up (place_at places first) (place_at places second) made is in
      two_have first second premise (one, first_is) (two, second_is) inside
  premises_have (by_rule.Low name second) made is premise inside =
      let (link, two, link_is, second_is, same) = both_of_two by_rule.Low (moves.links name) (place_at places second) made is in
      one_has second premise (two, second_is) inside
  premises_have (by_rule.Cross name second) made is premise inside =
      let (link, two, link_is, second_is, same) = both_of_two by_rule.Cross (moves.links name) (place_at places second) made is in
      one_has second premise (two, second_is) inside
  premises_have (by_rule.Drop second) made is premise inside =
      let (two, second_is, same) = one_of_one by_rule.Drop (place_at places second) made is in
      one_has second premise (two, second_is) inside

  not_taken : (name other : LinkId) (place : LinkId) → moves.links name ≡ Some place → Some (item.Link name) ≡ Some (item.Link other) → moves.links other ≡ None → ⊥
  not_taken name other place there same none = let is : name ≡ other = cc in let both : Some place ≡ None = sym there ∙ (ap moves.links is ∙ none) in absurd cc

  pub item_kept : (rule made : Rule) → moved_rule moves places rule ≡ Some made → (what : Item) → item_of rule ≡ Some what → IsTakenAway moves what → ⊥
  item_kept (by_rule.Bound name) made is (item.Bound other) uses taken =
      let (place, there, same) = one_of_one by_rule.Bound (moves.bounds name) made is in
      let names : name ≡ other = cc in
      let both : Some place ≡ None = sym there ∙ (ap moves.bounds names ∙ taken) in absurd cc
  item_kept (by_rule.Bound name) made is (item.Link other) uses taken = absurd cc
  item_kept (by_rule.Link name) made is (item.Bound other) uses taken = absurd cc
  item_kept (by_rule.Link name) made is (item.Link other) uses taken =
      let (place, there, same) = one_of_one by_rule.Link (moves.links name) made is in not_taken name other place there uses taken
  item_kept (by_rule.No first second) made is what uses taken = absurd cc
  item_kept (by_rule.Up first second) made is what uses taken = absurd cc
  item_kept (by_rule.Low name second) made is (item.Bound other) uses taken = absurd cc
  item_kept (by_rule.Low name second) made is (item.Link other) uses taken =
      let (place, two, there, second_is, same) = both_of_two by_rule.Low (moves.links name) (place_at places second) made is in not_taken name other place there uses taken
  item_kept (by_rule.Cross name second) made is (item.Bound other) uses taken = absurd cc
  item_kept (by_rule.Cross name second) made is (item.Link other) uses taken =
      let (place, two, there, second_is, same) = both_of_two by_rule.Cross (moves.links name) (place_at places second) made is in not_taken name other place there uses taken
  item_kept (by_rule.Drop premise) made is what uses taken = absurd cc

-- ---- one place more changes nothing for a rule whose premises stand earlier
module _ (moves : Renumbering) (places : List (Option NodeId)) (last : Option NodeId) where
  pub moved_rule_more : (rule : Rule) → All (λ (premise : NodeId). premise.0 < length places) (premises_of rule) → moved_rule moves (places ++ last ∷ []) rule ≡ moved_rule moves places rule
  moved_rule_more (by_rule.Bound name) within = refl
  moved_rule_more (by_rule.Link name) within = refl
  moved_rule_more (by_rule.No first second) within =
      let one : place_at (places ++ last ∷ []) first ≡ place_at places first = place_before places last first (All-head (λ (p : NodeId). p.0 < length places) first (second ∷ []) within) in
      let two : place_at (places ++ last ∷ []) second ≡ place_at places second =
      place_before places last second (All-head (λ (p : NodeId). p.0 < length places) second [] (All-tail (λ (p : NodeId). p.0 < length places) first (second ∷ []) within)) in
      rw (one, two) refl
  moved_rule_more (by_rule.Up first second) within =
      let one : place_at (places ++ last ∷ []) first ≡ place_at places first = place_before places last first (All-head (λ (p : NodeId). p.0 < length places) first (second ∷ []) within) in
      let two : place_at (places ++ last ∷ []) second ≡ place_at places second =
      place_before places last second (All-head (λ (p : NodeId). p.0 < length places) second [] (All-tail (λ (p : NodeId). p.0 < length places) first (second ∷ []) within)) in
      rw (one, two) refl
  moved_rule_more (by_rule.Low name second) within =
      ap (λ o. option_and_then (λ (link : LinkId). option_map (by_rule.Low link) o) (moves.links name)) (place_before places last second (All-head (λ (p : NodeId). p.0 < length places) second [] within))
  moved_rule_more (by_rule.Cross name second) within =
      ap (λ o. option_and_then (λ (link : LinkId). option_map (by_rule.Cross link) o) (moves.links name)) (place_before places last second (All-head (λ (p : NodeId). p.0 < length places) second [] within))
  moved_rule_more (by_rule.Drop premise) within = ap (option_map by_rule.Drop) (place_before places last premise (All-head (λ (p : NodeId). p.0 < length places) premise [] within))
