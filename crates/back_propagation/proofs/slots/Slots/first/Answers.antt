-- Nothing is settled yet, and nothing was lowered.
use Rattle.std.proofs.Common.{◌≡◌, ◌<◌, ◌∙◌, subst, ℕ, false, length, replicate, ap}
use Rattle.back_propagation.specs.declared.slots.Slots.TheInside.{Inside}
use Rattle.back_propagation.proofs.FirstSteps.{IsAtStart, start_slim, start_view}
use Rattle.back_propagation.proofs.slots.Slots.first.Goals as goal
use Rattle.back_propagation.proofs.slots.Slots.first.Goals.{After-new}

pub first_weights-requires-clause-labels : goal.first_weights-requires-clause-labels
first_weights-requires-clause-labels c = c.as_slice.ensures.value ∙ c.requires.labels

abbrev made : After-new → Inside
made c = record { points = c.args.points; labels = c.args.labels; weights = c.in_ok-stored.stored.weights; words = c.in_ok-stored.stored.words; marks = c.in_ok-marks.marks; settled = c.in_ok-settled.settled; whys = c.new.result }

at_start : (c : After-new) → IsAtStart c.args.table.now c.args.target (made c)
at_start c =
    let long : c.len-places.result ≡ length c.in_ok-stored.stored.weights.items = c.len-places.ensures ∙ c.in_ok-stored.stored.weights.ok.0 in
    record {
      points = c.requires.points;
      labels = c.requires.labels;
      weights = c.in_ok-stored.ensures.weights;
      words = c.in_ok-stored.ensures.words;
      marks = c.in_ok-marks.ensures.items_if_clones_equal (λ y same. same) ∙ ap (λ (n : ℕ). replicate n 0) long;
      settled = c.in_ok-settled.ensures.items_if_clones_equal (λ y same. same) ∙ ap (λ (n : ℕ). replicate n false) long;
      whys = c.new.ensures.items;
    }

pub invariant_of-result : goal.invariant_of-result
invariant_of-result c = start_slim c.args.table.now c.args.target (made (goal.at.invariant_of-result c).After-new) c.first_weights.ensures.sound (subst (λ (n : ℕ). c.args.target.0 < n) c.requires.points c.requires.target)
    (at_start (goal.at.invariant_of-result c).After-new)

pub returns : goal.returns
returns c = start_view c.args.table.now c.args.target (made (goal.at.returns c).After-new) c.first_weights.ensures.sound (at_start (goal.at.returns c).After-new)
