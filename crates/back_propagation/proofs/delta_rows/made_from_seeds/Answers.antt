-- The row begins as the table has it.
use Rattle.std.proofs.Common.{◌≡◌, ◌∙◌, ◌+◌, ◌<◌, ℕ, ap, sym, subst, length}
use Rattle.closure_model.specs.Keys.{Shape, labels_at}
use Rattle.back_propagation.proofs.SeededSteps.{contains_place, best_begin, best_queued}
use Rattle.back_propagation.proofs.QueuedSteps.{queued_permuted}
use Rattle.back_propagation.proofs.RowPlaces.{links_from_labels}
use Rattle.back_propagation.proofs.SettleSteps.{start_row}
use Rattle.back_propagation.proofs.delta_rows.made_from_seeds.Goals as goal

pub first-requires-clause-labels : goal.first-requires-clause-labels
first-requires-clause-labels c =
    c.in_ok-columns.ensures ∙ (c.as_slice.ensures.value ∙ (c.in_ok-labels.ensures ∙ (links_from_labels c.args.basis.net.now c.args.target ∙ ap (λ (s : Shape). labels_at s c.args.target) (sym c.requires.fits))))

pub seeded-requires : goal.seeded-requires
seeded-requires c =
    let labels : c.in_ok-labels.labels.items ≡ labels_at c.args.basis.table.now.shape c.args.target = c.in_ok-labels.ensures
    ∙ (links_from_labels c.args.basis.net.now c.args.target ∙ ap (λ (s : Shape). labels_at s c.args.target) (sym c.requires.fits)) in
    record {
      recorded = c.requires;
      slots = record {
        sound = c.requires.sound;
        target = subst (λ (n : ℕ). c.args.target.0 < n) (sym (ap (λ (s : Shape). s.points) c.requires.fits)) c.requires.target;
        first = c.in_ok-slots.ensures;
        wide = ap (λ (n : ℕ). n + 1) (c.len-width.ensures ∙ (c.in_ok-labels.labels.ok.0 ∙ ap length labels));
      };
      labels = c.as_slice-2.ensures.value ∙ labels;
    }

pub settle_seeded-requires-clause-row : goal.settle_seeded-requires-clause-row
settle_seeded-requires-clause-row c =
    let labels : c.in_ok-labels.labels.items ≡ labels_at c.args.basis.table.now.shape c.args.target = c.in_ok-labels.ensures
    ∙ (links_from_labels c.args.basis.net.now c.args.target ∙ ap (λ (s : Shape). labels_at s c.args.target) (sym c.requires.fits)) in
    record {
      begins = contains_place c.in_ok-places.places.items;
      best = best_begin c.args.basis.table.now c.args.target c.args.delta.now c.in_ok-places.places.items c.in_ok-places.ensures;
      seeded = record {
        slots =
            start_row c.args.basis.net.now c.args.basis.table.now c.args.target c.in_ok-slots.slots c.len-width.result c.requires.plan c.requires.fits c.requires.sound c.requires.within c.in_ok-slots.ensures
            (c.len-width.ensures ∙ (c.in_ok-labels.labels.ok.0 ∙ ap length labels));
        first = c.in_ok-slots.ensures;
        queue =
            queued_permuted (contains_place c.in_ok-places.places.items) c.in_ok-slots.slots c.in_ok-places.places.items c.of.result c.of.ensures
            (best_queued c.args.basis.table.now c.args.target c.args.delta.now c.in_ok-places.places.items c.in_ok-slots.slots c.in_ok-slots.ensures c.in_ok-places.ensures);
      };
    }
