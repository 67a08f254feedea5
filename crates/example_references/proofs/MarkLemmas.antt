-- Marks and counted places give the places that following gives.
use Rattle.std.proofs.Common.{◌≡◌, ℕ, suc, ◌+◌, ◌≤◌, ◌<◌, Bool, true, false, cond, not, is_none, is_some, ◌⊎◌, inl, inr, List, [], ◌∷◌, ◌++◌, length, get_or, take, map, Option, Some, None, refl, ap, sym, ◌∙◌, subst, arith}
use Rattle.std.specs.Prelude.{slice_get, if◌then◌else◌}
use Rattle.std.specs.List.{count_by}
use Rattle.std.specs.Option.{option_map}
use Rattle.std.proofs.lemmas.Bool.{cases_lt}
use Rattle.std.proofs.lemmas.List.{map-append, get_or-map, get_or_past, length-append, length-map, take-append-le}
use Rattle.std.proofs.lemmas.List.Sums.{sum_by-append}
use Rattle.std.proofs.lemmas.Option.{slice_get-get_or}
use Rattle.std.proofs.Math.ListN.{get_or-append}
use Rattle.std.proofs.Math.Seq.{take-length}
use Rattle.closure_model.specs.declared.derivation.Node.{Node}
use Rattle.closure_model.specs.declared.derivation.NodeId.{NodeId}
use Rattle.closure_model.specs.declared.derivation.Rule.{Rule}
use Rattle.closure_model.specs.declared.derivation.Rule.TheVariants as by_rule
use Rattle.edit_laws.specs.KeptLists.{Renumbering, Following, none_followed, placed, follow_node, place_at, moved_rule, moved_node, followed}
use Rattle.edit_laws.proofs.KeptNodes.{with_rule}
use Rattle.edit_laws.proofs.MovedPremises.{place_before, place_last}
use Rattle.edit_laws.proofs.Prefixes.{one_more}
use Rattle.example_references.specs.Marks.{mark_at, kept_before, kept_place, rule_after, node_after, with_some}

abbrev marks_of : List (Option NodeId) → List Bool
marks_of places = map (λ (o : Option NodeId). is_none o) places

abbrev count : List Bool → ℕ
count marks = count_by (λ (mark : Bool). not mark) marks

-- the places are the counted ones
pub record AreCounted (so_far : Following) : Type 0 where
  pub number : count (marks_of so_far.places) ≡ length so_far.kept
  pub each : (id : NodeId) → kept_place (marks_of so_far.places) id ≡ place_at so_far.places id

-- ---- one more
mark_is : (places : List (Option NodeId)) (id : NodeId) → mark_at (marks_of places) id ≡ is_none (place_at places id)
mark_is places id = by (cases_lt id.0 (length places))
  where
    by : (id.0 < length places) ⊎ (length places ≤ id.0) → mark_at (marks_of places) id ≡ is_none (place_at places id)
    by (inl inside) = get_or-map (λ (o : Option NodeId). is_none o) places id.0 None true inside
    by (inr past) =
        let size : length (marks_of places) ≡ length places = length-map places (λ (o : Option NodeId). is_none o) in
        get_or_past (marks_of places) id.0 true (omega arith) ∙ ap (λ (o : Option NodeId). is_none o) (sym (get_or_past places id.0 None past))

no_place : (marks : List Bool) (id : NodeId) → mark_at marks id ≡ true → kept_place marks id ≡ None
no_place marks id is = ap (λ (b : Bool). if b then None else Some (kept_before marks id)) is

module _ (places : List (Option NodeId)) (last : Option NodeId) (each : (id : NodeId) → kept_place (marks_of places) id ≡ place_at places id)
    (new : (last ≡ None) ⊎ (last ≡ Some (record { 0 = count (marks_of places) }))) where
  marks_more : marks_of (places ++ last ∷ []) ≡ marks_of places ++ is_none last ∷ []
  marks_more = map-append (λ (o : Option NodeId). is_none o) places (last ∷ [])

  size : length (marks_of places) ≡ length places
  size = length-map places (λ (o : Option NodeId). is_none o)

  same_count : (id : NodeId) → id.0 ≤ length places → kept_before (marks_of (places ++ last ∷ [])) id ≡ kept_before (marks_of places) id
  same_count id within =
      ap (λ (ms : List Bool). kept_before ms id) marks_more
      ∙ ap (λ (ms : List Bool). let n : NodeId = record { 0 = count ms } in n) (take-append-le id.0 (marks_of places) (is_none last ∷ []) (let s = size in omega arith))

  pub each_more : (id : NodeId) → kept_place (marks_of (places ++ last ∷ [])) id ≡ place_at (places ++ last ∷ []) id
  each_more id = by (cases_lt id.0 (length places))
    where
      mark : mark_at (marks_of (places ++ last ∷ [])) id ≡ is_none (place_at (places ++ last ∷ []) id)
      mark = mark_is (places ++ last ∷ []) id

      at_end : (id.0 ≡ length places) → (last ≡ None) ⊎ (last ≡ Some (record { 0 = count (marks_of places) })) → kept_place (marks_of (places ++ last ∷ [])) id ≡ place_at (places ++ last ∷ []) id
      at_end is (inl none) =
          let here : place_at (places ++ last ∷ []) id ≡ None = place_last places last id is ∙ none in
          no_place (marks_of (places ++ last ∷ [])) id (mark ∙ ap (λ (o : Option NodeId). is_none o) here) ∙ sym here
      at_end is (inr some) =
          let here : place_at (places ++ last ∷ []) id ≡ Some (record { 0 = count (marks_of places) }) = place_last places last id is ∙ some in
          let unmarked : mark_at (marks_of (places ++ last ∷ [])) id ≡ false = mark ∙ ap (λ (o : Option NodeId). is_none o) here in
          let all : take id.0 (marks_of places) ≡ marks_of places = ap (λ (n : ℕ). take n (marks_of places)) (is ∙ sym size) ∙ take-length (marks_of places) in
          ap (λ (b : Bool). if b then None else Some (kept_before (marks_of (places ++ last ∷ [])) id)) unmarked
          ∙ (ap (λ (n : NodeId). Some n) (same_count id (omega arith)) ∙ (ap (λ (ms : List Bool). Some (let n : NodeId = record { 0 = count ms } in n)) all ∙ sym here))

      past_end : length places < id.0 → kept_place (marks_of (places ++ last ∷ [])) id ≡ place_at (places ++ last ∷ []) id
      past_end past =
          let long : length (places ++ last ∷ []) ≡ length places + 1 = length-append places (last ∷ []) in
          let here : place_at (places ++ last ∷ []) id ≡ None = get_or_past (places ++ last ∷ []) id.0 None (omega arith) in
          no_place (marks_of (places ++ last ∷ [])) id (mark ∙ ap (λ (o : Option NodeId). is_none o) here) ∙ sym here

      inside : id.0 < length places → kept_place (marks_of (places ++ last ∷ [])) id ≡ place_at (places ++ last ∷ []) id
      inside less =
          let same_mark : mark_at (marks_of (places ++ last ∷ [])) id ≡ mark_at (marks_of places) id =
          ap (λ (ms : List Bool). mark_at ms id) marks_more ∙ get_or-append (marks_of places) (is_none last ∷ []) true id.0 (let s = size in omega arith) in
          ap (λ (b : Bool). if b then None else Some (kept_before (marks_of (places ++ last ∷ [])) id)) same_mark
          ∙ (ap (λ (n : NodeId). if mark_at (marks_of places) id then None else Some n) (same_count id (omega arith)) ∙ (each id ∙ sym (place_before places last id less)))

      further : (id.0 < length places + 1) ⊎ (length places + 1 ≤ id.0) → length places ≤ id.0 → kept_place (marks_of (places ++ last ∷ [])) id ≡ place_at (places ++ last ∷ []) id
      further (inl near) least = at_end (omega arith) new
      further (inr far) least = past_end (omega arith)

      by : (id.0 < length places) ⊎ (length places ≤ id.0) → kept_place (marks_of (places ++ last ∷ [])) id ≡ place_at (places ++ last ∷ []) id
      by (inl less) = inside less
      by (inr least) = further (cases_lt id.0 (length places + 1)) least

abbrev none_counted : AreCounted none_followed
none_counted = record { number = refl; each = λ id. refl }

one_counted : (so_far : Following) (made : Option Node) → AreCounted so_far → AreCounted (placed so_far made)
one_counted so_far None was = record {
  number = ap count (map-append (λ (o : Option NodeId). is_none o) so_far.places (None ∷ [])) ∙ (sum_by-append (λ (mark : Bool). cond (not mark) 1 0) (marks_of so_far.places) (true ∷ []) ∙ (let n = was.number in omega arith));
  each = each_more so_far.places None was.each (inl refl);
}
one_counted so_far (Some node) was = record {
  number =
      ap count (map-append (λ (o : Option NodeId). is_none o) so_far.places (Some (record { 0 = length so_far.kept }) ∷ []))
      ∙ (sum_by-append (λ (mark : Bool). cond (not mark) 1 0) (marks_of so_far.places) (false ∷ []) ∙ (let n = was.number in let l : length (so_far.kept ++ node ∷ []) ≡ length so_far.kept + 1 = length-append so_far.kept (node ∷ []) in
      omega arith));
  each = each_more so_far.places (Some (record { 0 = length so_far.kept })) was.each (inr (ap (λ (n : ℕ). Some (let id : NodeId = record { 0 = n } in id)) (sym was.number)));
}

-- ---- rules
same_rule : (moves : Renumbering) (so_far : Following) → AreCounted so_far → (rule : Rule) → rule_after moves (marks_of so_far.places) rule ≡ moved_rule moves so_far.places rule
same_rule moves so_far was (by_rule.Bound name) = refl
same_rule moves so_far was (by_rule.Link name) = refl
same_rule moves so_far was (by_rule.No first second) = let one = was.each first in let two = was.each second in rw (one, two) refl
same_rule moves so_far was (by_rule.Up first second) = let one = was.each first in let two = was.each second in rw (one, two) refl
same_rule moves so_far was (by_rule.Low name second) = let two = was.each second in rw two refl
same_rule moves so_far was (by_rule.Cross name second) = let two = was.each second in rw two refl
same_rule moves so_far was (by_rule.Drop premise) = let one = was.each premise in rw one refl

pub same_node : (moves : Renumbering) (so_far : Following) (node : Node) → AreCounted so_far → node_after moves (marks_of so_far.places) node ≡ moved_node moves so_far.places node
same_node moves so_far node was = ap (option_map (with_rule moves node)) (same_rule moves so_far was node.rule)

-- ---- the loop
-- what the loop has after the first nodes
pub record Holds (moves : Renumbering) (nodes : List Node) (n : ℕ) (marks : List Bool) (kept : List Node) : Type 0 where
  pub marks_are : marks ≡ marks_of (followed moves (take n nodes)).places
  pub kept_are : kept ≡ (followed moves (take n nodes)).kept
  pub counted : AreCounted (followed moves (take n nodes))

pub holds_first : (moves : Renumbering) (nodes : List Node) → Holds moves nodes 0 [] []
holds_first moves nodes = record { marks_are = refl; kept_are = refl; counted = none_counted }

pushed_is : (so_far : Following) (made : Option Node) → (marks_of so_far.places ++ is_none made ∷ [] ≡ marks_of (placed so_far made).places) × (with_some so_far.kept made ≡ (placed so_far made).kept)
pushed_is so_far None = (sym (map-append (λ (o : Option NodeId). is_none o) so_far.places (None ∷ [])), refl)
pushed_is so_far (Some node) = (sym (map-append (λ (o : Option NodeId). is_none o) so_far.places (Some (record { 0 = length so_far.kept }) ∷ [])), refl)

pub holds_more : (moves : Renumbering) (nodes : List Node) (n : ℕ) (node : Node) (marks : List Bool) (kept : List Node) → slice_get nodes n ≡ Some node → Holds moves nodes n marks kept
    → Holds moves nodes (n + 1) (marks ++ is_none (node_after moves marks node) ∷ []) (with_some kept (node_after moves marks node))
holds_more moves nodes n node marks kept here was =
    let so_far = followed moves (take n nodes) in
    let made : node_after moves marks node ≡ moved_node moves so_far.places node = ap (λ (ms : List Bool). node_after moves ms node) was.marks_are ∙ same_node moves so_far node was.counted in
    let next : n + 1 ≡ suc n = omega arith in
    let after : followed moves (take (n + 1) nodes) ≡ placed so_far (moved_node moves so_far.places node) = ap (λ (k : ℕ). followed moves (take k nodes)) next ∙ one_more (follow_node moves) none_followed nodes n node here in
    let (marks_is, kept_is) = pushed_is so_far (moved_node moves so_far.places node) in
    record {
      marks_are = ap (λ (ms : List Bool). ms ++ is_none (node_after moves marks node) ∷ []) was.marks_are
          ∙ (ap (λ (o : Option Node). marks_of so_far.places ++ is_none o ∷ []) made ∙ (marks_is ∙ ap (λ (f : Following). marks_of f.places) (sym after)));
      kept_are = ap (λ (ns : List Node). with_some ns (node_after moves marks node)) was.kept_are
          ∙ (ap (with_some so_far.kept) made ∙ (kept_is ∙ ap (λ (f : Following). f.kept) (sym after)));
      counted = subst AreCounted (sym after) (one_counted so_far (moved_node moves so_far.places node) was.counted);
    }

unmarked_is : (made : Option Node) (mark : Bool) → is_some made ≡ not mark → mark ≡ is_none made
unmarked_is None true is = refl
unmarked_is None false is = absurd cc
unmarked_is (Some node) true is = absurd cc
unmarked_is (Some node) false is = refl

-- what is made of a node, and whether it is marked as gone
abbrev pub IsMadeOf : Renumbering → List Node → ℕ → Node → List Bool → Option Node → Type 0
IsMadeOf moves nodes n d marks made = made ≡ node_after moves marks (get_or nodes n d)

abbrev pub IsMarkOf : Option Node → Bool → Type 0
IsMarkOf made mark = is_some made ≡ not mark

-- the same of what the loop has after an iteration
pub holds_next : (moves : Renumbering) (nodes : List Node) (n : ℕ) (d : Node) (marks now marked : List Bool) (kept pushed : List Node) (made : Option Node) (mark : Bool) → n < length nodes → Holds moves nodes n marks kept → now ≡ marks
    → IsMadeOf moves nodes n d now made → IsMarkOf made mark → marked ≡ marks ++ mark ∷ [] → pushed ≡ with_some kept made → Holds moves nodes (n + 1) marked pushed
holds_next moves nodes n d marks now marked kept pushed made mark inside was same made_is mark_is marked_is pushed_is =
    let node : Node = get_or nodes n d in
    let one : made ≡ node_after moves marks node = made_is ∙ ap (λ (ms : List Bool). node_after moves ms node) same in
    let marks_are : marked ≡ marks ++ is_none (node_after moves marks node) ∷ [] = marked_is ∙ (ap (λ (m : Bool). marks ++ m ∷ []) (unmarked_is made mark mark_is) ∙ ap (λ (o : Option Node). marks ++ is_none o ∷ []) one) in
    let kept_are : pushed ≡ with_some kept (node_after moves marks node) = pushed_is ∙ ap (with_some kept) one in
    subst (λ (ms : List Bool). Holds moves nodes (n + 1) ms pushed) (sym marks_are)
    (subst (Holds moves nodes (n + 1) (marks ++ is_none (node_after moves marks node) ∷ [])) (sym kept_are) (holds_more moves nodes n node marks kept (slice_get-get_or nodes n d inside) was))
