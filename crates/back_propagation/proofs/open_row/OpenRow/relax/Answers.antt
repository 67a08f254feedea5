-- The slot at the place is the only one that the relaxation changes, and it is queued at its new weight.
use Rattle.std.proofs.Common.{◌≡◌, ℤ, ◌∷◌, IsPermutation, rules, ap, sym, refl, ◌∙◌, subst, w64, to_z, of_z, true, false, cond, Bool, Some}
use Rattle.std.specs.Prelude.{slice_set}
use Rattle.std.proofs.lemmas.Option.{slice_get_within, get_or_from_slice_get}
use Rattle.closure_model.specs.ReferenceRow.{has_above, taken}
use Rattle.closure_model.specs.declared.rows.Slot.{Slot}
use Rattle.back_propagation.specs.QueuedPlaces.{KeepsQueued}
use Rattle.back_propagation.proofs.RelaxSteps.{relax_takes, relax_leaves}
use Rattle.back_propagation.proofs.QueuedSteps.{relax_queued, keeps_itself}
use Rattle.back_propagation.proofs.open_row.OpenRow.relax.Goals as goal

pub has_above-requires : goal.has_above-requires
has_above-requires c = slice_get_within c.args.self.now.slots c.args.place c.requires.slot c.requires.here

pub lower-requires : goal.lower-requires
lower-requires c = slice_get_within c.args.self.now.slots c.args.place c.requires.slot c.requires.here

pub returns-in_ok-lower : goal.returns-in_ok-lower
returns-in_ok-lower c =
    let slots = c.args.self.now.slots in
    let slot = c.requires.slot in
    let kept : to_z w64 (of_z w64 c.args.made.edge.weight) ≡ c.args.made.edge.weight = search rules in
    let put : IsPermutation ((c.args.made.edge.weight, c.args.place) ∷ c.args.self.now.queue) c.push.new.self = subst (λ (w : ℤ). IsPermutation ((w, c.args.place) ∷ c.args.self.now.queue) c.push.new.self) kept c.in_ok-push.ensures in
    let is_above : has_above slot c.args.made.edge.weight ≡ true = subst (λ (w : ℤ). has_above slot w ≡ true) kept (sym (c.has_above.ensures slot c.requires.here) ∙ c.if-has_above.true) in
    let new : c.lower.new.self ≡ slice_set slots c.args.place (taken c.args.made slot) =
    c.in_ok-lower.ensures slot c.requires.here ∙ ap (λ (b : Bool). slice_set slots c.args.place (cond b (record slot { weight = Some c.args.made.edge.weight; why = Some c.args.made.why }) slot)) (sym is_above) in
    record {
      slots = new ∙ relax_takes slots c.args.place c.args.made c.requires;
      queue = subst (λ (list : _). KeepsQueued slots c.args.self.now.queue list c.push.new.self) (sym new) (relax_queued slots c.args.place slot c.args.made c.args.self.now.queue c.push.new.self c.requires.here is_above put);
      width = refl;
    }

pub returns-else-has_above : goal.returns-else-has_above
returns-else-has_above c =
    let slots = c.args.self.now.slots in
    let slot = c.requires.slot in
    let kept : to_z w64 (of_z w64 c.args.made.edge.weight) ≡ c.args.made.edge.weight = search rules in
    let not : has_above slot c.args.made.edge.weight ≡ false = subst (λ (w : ℤ). has_above slot w ≡ false) kept (sym (c.has_above.ensures slot c.requires.here) ∙ c.if-has_above.false) in
    record {
      slots = relax_leaves slots c.args.place c.args.made slot c.requires (ap (λ (s : Slot). has_above s c.args.made.edge.weight) (get_or_from_slice_get slots c.args.place slot slot c.requires.here) ∙ not);
      queue = keeps_itself slots c.args.self.now.queue;
      width = refl;
    }
