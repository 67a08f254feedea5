use Rattle.std.proofs.Common.{◌≡◌, length, refl, sym, ap, ◌∙◌}
use Rattle.std.proofs.lemmas.Option.{slice_get_read}
use Rattle.std.proofs.lemmas.Slice.Eq.{bytes_eq-Decides}
use Rattle.fleet_command.specs.declared.entries.FleetEntry.{FleetEntry}
use Rattle.fleet_command.proofs.FleetPhaseLemmas.{none_more}
use Rattle.fleet_command.proofs.entries.place_of.Goals as goal

pub loop-place-preserved : goal.loop-place-preserved
loop-place-preserved c =
    let bytes_are : c.bytes.result.now ≡ c.index-entries-place.result.name = c.bytes.ensures.text ∙ ap (λ (e : FleetEntry). e.name) (sym c.index-entries-place.is) in
    none_more c.args.entries.now c.args.name.now c.loop-place.place c.index-entries-place.result
    (slice_get_read c.args.entries.now (length c.args.entries.now) c.loop-place.place c.index-entries-place.result refl c.loop-place-test.true c.index-entries-place.is) c.loop-place.invariant
    (λ same. absurd (let is = (bytes_eq-Decides c.bytes.result.now c.args.name.now).1 (bytes_are ∙ same) in cc (is, c.if-eq.ensures)))

pub returns-then-eq : goal.returns-then-eq
returns-then-eq c =
    let bytes_are : c.bytes.result.now ≡ c.index-entries-place.result.name = c.bytes.ensures.text ∙ ap (λ (e : FleetEntry). e.name) (sym c.index-entries-place.is) in (
      c.index-entries-place.result,
      slice_get_read c.args.entries.now (length c.args.entries.now) c.loop-place.place c.index-entries-place.result refl c.loop-place-test.true c.index-entries-place.is,
      sym bytes_are ∙ (bytes_eq-Decides c.bytes.result.now c.args.name.now).0 (sym c.if-eq.ensures),
      c.loop-place.invariant,
    )
