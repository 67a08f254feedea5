use Rattle.std.proofs.Common.{rules, ◌≡◌, ◌<◌, ◌+◌, ◌*◌, ◌/◌, ◌%◌, ◌^◌, ◌∙◌, ℕ, ℤ, Some, length, ap, sym, subst, refl, arith, w32, w64, to_z, of_z}
use Rattle.std.specs.Vec.{vec_len, with_item}
use Rattle.std.specs.Prelude.{slice_set}
use Rattle.back_propagation.specs.SlimSlots.{slot_in, word_place, StandsFor}
use Rattle.back_propagation.specs.declared.slots.Slots.TheInside.{Inside}
use Rattle.back_propagation.proofs.SlimSteps.{nearest_stands, IsLoweredAt, lowered_slim, lowered_view, place_stored, slot_is, word_inside}
use Rattle.back_propagation.proofs.slots.Slots.lower.Goals as goal
use Rattle.back_propagation.proofs.slots.Slots.lower.Goals.{After-nearest_word}

pub index_mut-requires : goal.index_mut-requires
index_mut-requires c =
    let inside = place_stored c.self.inside c.args.self.now c.self.view_is c.args.place c.requires in
    omega (arith, inside, c.self.invariant.marks, c.self.inside.marks.ok.0)

pub index_mut-requires-2 : goal.index_mut-requires-2
index_mut-requires-2 c =
    let inside = place_stored c.self.inside c.args.self.now c.self.view_is c.args.place c.requires in
    omega (arith, inside, c.self.inside.weights.ok.0)

word_is : (s : Inside) (place width source column word : ℕ) → width ≡ vec_len s.labels → source ≡ place / (width + 1) → column ≡ place % (width + 1) → word ≡ column * s.points + source → word ≡ word_place s place
word_is s place width source column word wide from in_column is = is ∙ ((λ i. in_column i * s.points + from i) ∙ ap (λ (n : ℕ). place % (n + 1) * s.points + place / (n + 1)) (wide ∙ s.labels.ok.0))

abbrev after : After-nearest_word → Inside
after c =
    record {
      points = c.self.inside.points;
      labels = c.self.inside.labels;
      weights = with_item c.self.inside.weights c.args.place (to_z w64 (of_z w64 c.args.made.now.edge.weight));
      words = with_item c.self.inside.words c.word_place-word_place.result (to_z w32 (of_z w32 c.nearest_word.result));
      marks = with_item c.self.inside.marks c.args.place c.len.result;
      settled = c.self.inside.settled;
      whys = c.push.new.self;
    }

is_lowered : (c : After-nearest_word) → IsLoweredAt c.self.inside (after c) c.args.place (to_z w64 (of_z w64 c.args.made.now.edge.weight)) c.args.made.now.why
is_lowered c = record {
  points = refl;
  labels = refl;
  weights = refl;
  marks = ap (slice_set c.self.inside.marks.items c.args.place) (c.len.ensures ∙ c.push.new.self.ok.0);
  word = to_z w32 (of_z w32 c.nearest_word.result);
  stands =
      (let kept : to_z w32 (of_z w32 c.nearest_word.result) ≡ c.nearest_word.result = search rules in
      subst (λ (w : ℤ). StandsFor w (Some (to_z w64 (of_z w64 c.args.made.now.edge.weight)))) (sym kept) (nearest_stands _ _ c.nearest_word.ensures));
  words = ap (λ (n : ℕ). slice_set c.self.inside.words.items n (to_z w32 (of_z w32 c.nearest_word.result)))
      (word_is c.self.inside c.args.place c.len-width.result c.source_in.result c.column_in.result c.word_place-word_place.result c.len-width.ensures c.source_in.ensures c.column_in.ensures c.word_place-word_place.ensures);
  settled = refl;
  whys = c.in_ok-push.ensures.items;
}

pub invariant_of-self : goal.invariant_of-self
invariant_of-self c = record {
  few = c.self.invariant.few;
  small = c.self.invariant.small;
  places = c.self.invariant.places;
  marks = c.self.invariant.marks;
  settled = c.self.invariant.settled;
  words = c.self.invariant.words;
  stand = c.self.invariant.stand;
  apart = c.self.invariant.apart;
  whys = λ place. (let old = c.self.invariant.whys place in let same = ap length c.in_err-push.ensures.items in omega (arith, old, same));
}

pub invariant_of-self-2 : goal.invariant_of-self-2
invariant_of-self-2 c =
    let a = (goal.at.invariant_of-self-2 c).After-nearest_word in
    lowered_slim c.self.inside (after a) c.args.place (to_z w64 (of_z w64 c.args.made.now.edge.weight)) c.args.made.now.why (is_lowered a) c.self.invariant (place_stored c.self.inside c.args.self.now c.self.view_is c.args.place c.requires)

pub returns : goal.returns
returns c = λ slot here.
    let a = (goal.at.returns c).After-nearest_word in
    let kept : to_z w64 (of_z w64 c.args.made.now.edge.weight) ≡ c.args.made.now.edge.weight = search rules in
    let slot_same : slot_in c.self.inside c.args.place ≡ slot = slot_is c.self.inside c.args.self.now c.self.view_is c.args.place c.requires slot here in
    lowered_view c.self.inside (after a) c.args.place (to_z w64 (of_z w64 c.args.made.now.edge.weight)) c.args.made.now.why (is_lowered a) c.self.invariant (place_stored c.self.inside c.args.self.now c.self.view_is c.args.place c.requires)
    ∙ (λ i. slice_set (c.self.view_is i) c.args.place (record (slot_same i) { weight = Some (kept i); why = Some c.args.made.now.why }))

pub word_place-word_place-requires : goal.word_place-word_place-requires
word_place-word_place-requires c =
    let width : c.len-width.result ≡ length c.self.inside.labels.items = c.len-width.ensures ∙ c.self.inside.labels.ok.0 in
    let inside = word_inside c.self.inside c.self.invariant c.args.place (place_stored c.self.inside c.args.self.now c.self.view_is c.args.place c.requires) in
    let at : c.column_in.result * c.self.inside.points + c.source_in.result ≡ word_place c.self.inside c.args.place = (λ i. c.column_in.ensures i * c.self.inside.points + c.source_in.ensures i)
    ∙ ap (λ (n : ℕ). c.args.place % (n + 1) * c.self.inside.points + c.args.place / (n + 1)) width in
    subst (λ (n : ℕ). n < 2 ^ 64) (sym at) (omega (arith, inside, c.self.invariant.small, c.self.invariant.words))

pub index_mut-requires-3 : goal.index_mut-requires-3
index_mut-requires-3 c =
    let inside = word_inside c.self.inside c.self.invariant c.args.place (place_stored c.self.inside c.args.self.now c.self.view_is c.args.place c.requires) in
    let place = word_is c.self.inside c.args.place c.len-width.result c.source_in.result c.column_in.result c.word_place-word_place.result c.len-width.ensures c.source_in.ensures c.column_in.ensures c.word_place-word_place.ensures in
    omega (arith, inside, place, c.self.inside.words.ok.0)
