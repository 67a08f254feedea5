-- The edge of the entry is one of the row, in its column.
use Rattle.std.proofs.Common.{rules, ◌≡◌, ◌∙◌, ◌<◌, ℕ, pos, List, length, ap, sym, subst, refl, ◌⊎◌, inl, inr, w64, to_z, of_z}
use Rattle.std.specs.Prelude.{int_le}
use Rattle.net_model.specs.declared.ids.LinkId.{LinkId}
use Rattle.net_model.specs.declared.part.Edge.{Edge}
use Rattle.closure_model.specs.Keys.{labels_at}
use Rattle.labelled_graph.specs.Entries.{edge_into, wide_label}
use Rattle.back_propagation.specs.BestCandidates.{HasTakenOver, IsPutWhole}
use Rattle.back_propagation.specs.SlotPlaces.{HasColumn, IsColumnOf, IsRowAgainst}
use Rattle.back_propagation.specs.OpenRows.{IsInFirstRow, IsRelaxing}
use Rattle.back_propagation.proofs.SeedSteps.{all_of_table, over_firsts, over_heavy, over_many, over_none}
use Rattle.back_propagation.proofs.SeededSteps.{delta_is}
use Rattle.back_propagation.proofs.FirstSteps.{labels_among}
use Rattle.back_propagation.proofs.SettleSteps.{start_row}
use Rattle.back_propagation.proofs.open_row.OpenRow.relax_over_entry.Goals as goal

pub column_of-column-requires : goal.column_of-column-requires
column_of-column-requires c = labels_among c.args.basis.table.now c.args.target c.args.labels.now c.args.entry.now c.requires.row.labels c.requires.row.slots.sound c.requires.entry

pub push_if_seed-requires-clause-row : goal.push_if_seed-requires-clause-row
push_if_seed-requires-clause-row c =
    let recorded = c.requires.row.recorded in
    let row = c.requires.row.slots in
    let has : HasColumn c.args.basis.table.now.shape c.args.target (wide_label c.args.entry.now.label) c.column_of-column.result =
    subst (λ (ls : List LinkId). IsColumnOf ls (wide_label c.args.entry.now.label) c.column_of-column.result) c.requires.row.labels c.column_of-column.ensures in
    subst (λ (edge : Edge). IsRelaxing c.args.basis c.args.self.now edge c.column_of-column.result) (sym c.edge_into-edge.ensures)
    (record {
      slots = subst (λ (w : ℕ). IsRowAgainst c.args.basis.net.now c.args.basis.table.now c.args.target c.args.self.now.slots w) (sym row.wide)
          (start_row c.args.basis.net.now c.args.basis.table.now c.args.target c.args.self.now.slots (length (labels_at c.args.basis.table.now.shape c.args.target)) recorded.plan recorded.fits recorded.sound recorded.within row.first refl);
      of_row = record {
        ends = refl;
        key = row.sound.keys (edge_into c.args.target c.args.entry.now) c.requires.entry;
        within = recorded.within (edge_into c.args.target c.args.entry.now) c.requires.entry;
        in_column = has;
      };
    })

pub relax_candidates_over-requires-clause-firsts : goal.relax_candidates_over-requires-clause-firsts
relax_candidates_over-requires-clause-firsts c =
    let from : c.args.entry.now.from.0 < c.args.basis.table.now.shape.points = (c.requires.row.slots.sound.keys (edge_into c.args.target c.args.entry.now) c.requires.entry).from_point in
    let inside : c.args.entry.now.from.0 < length c.args.delta.now = subst (λ (n : ℕ). c.args.entry.now.from.0 < n) (sym c.requires.row.recorded.delta.count) from in
    all_of_table c.args.basis.table.now c.args.delta.now c.args.entry.now.from c.as_slice-firsts.result.now c.index-delta-entry.result c.requires.row.recorded.delta.edges inside c.index-delta-entry.is c.as_slice-firsts.ensures

pub push_if_seed-requires-clause-firsts : goal.push_if_seed-requires-clause-firsts
push_if_seed-requires-clause-firsts c =
    let from : c.args.entry.now.from.0 < c.args.basis.table.now.shape.points = (c.requires.row.slots.sound.keys (edge_into c.args.target c.args.entry.now) c.requires.entry).from_point in
    let inside : c.args.entry.now.from.0 < length c.args.delta.now = subst (λ (n : ℕ). c.args.entry.now.from.0 < n) (sym c.requires.row.recorded.delta.count) from in
    all_of_table c.args.basis.table.now c.args.delta.now c.args.entry.now.from c.as_slice-firsts.result.now c.index-delta-entry.result c.requires.row.recorded.delta.edges inside c.index-delta-entry.is c.as_slice-firsts.ensures

pub bounds-delta-entry : goal.bounds-delta-entry
bounds-delta-entry c =
    let from : c.args.entry.now.from.0 < c.args.basis.table.now.shape.points = (c.requires.row.slots.sound.keys (edge_into c.args.target c.args.entry.now) c.requires.entry).from_point in
    subst (λ (n : ℕ). c.args.entry.now.from.0 < n) (sym c.requires.row.recorded.delta.count) from

pub relax_candidates_over-requires-clause-edge : goal.relax_candidates_over-requires-clause-edge
relax_candidates_over-requires-clause-edge c =
    let has : HasColumn c.args.basis.table.now.shape c.args.target (wide_label c.args.entry.now.label) c.column_of-column.result =
    subst (λ (ls : List LinkId). IsColumnOf ls (wide_label c.args.entry.now.label) c.column_of-column.result) c.requires.row.labels c.column_of-column.ensures in
    subst (λ (edge : Edge). IsInFirstRow c.args.basis.table.now c.args.self.now edge c.column_of-column.result) (sym c.edge_into-edge.ensures) (record { slots = c.requires.row.slots; held = c.requires.entry; in_column = has })

pub push_if_seed-requires-clause-edge : goal.push_if_seed-requires-clause-edge
push_if_seed-requires-clause-edge c =
    let has : HasColumn c.args.basis.table.now.shape c.args.target (wide_label c.args.entry.now.label) c.column_of-column.result =
    subst (λ (ls : List LinkId). IsColumnOf ls (wide_label c.args.entry.now.label) c.column_of-column.result) c.requires.row.labels c.column_of-column.ensures in
    subst (λ (edge : Edge). IsInFirstRow c.args.basis.table.now c.args.self.now edge c.column_of-column.result) (sym c.edge_into-edge.ensures) (record { slots = c.requires.row.slots; held = c.requires.entry; in_column = has })

pub returns-then-entry-ge0 : goal.returns-then-entry-ge0
returns-then-entry-ge0 c =
    let kept : to_z w64 (of_z w64 c.args.entry.now.weight) ≡ c.args.entry.now.weight = search rules in
    inl (
      over_heavy c.args.basis.table.now c.args.target c.args.delta.now c.args.entry.now c.requires.row.slots.sound c.requires.entry c.args.begin.now.candidates c.requires.apart (ap (int_le (pos 0)) (sym kept)
          ∙ c.if-entry-ge0.true),
      refl,
    )

pub returns-then-is_empty : goal.returns-then-is_empty
returns-then-is_empty c =
    let from : c.args.entry.now.from.0 < c.args.basis.table.now.shape.points = (c.requires.row.slots.sound.keys (edge_into c.args.target c.args.entry.now) c.requires.entry).from_point in
    let inside : c.args.entry.now.from.0 < length c.args.delta.now = subst (λ (n : ℕ). c.args.entry.now.from.0 < n) (sym c.requires.row.recorded.delta.count) from in
    inl (
      over_none c.args.basis.table.now c.args.target c.args.delta.now c.args.entry.now c.requires.row.slots.sound c.requires.entry c.args.begin.now.candidates c.requires.apart c.as_slice-firsts.result.now
          (delta_is c.args.delta.now c.args.entry.now.from c.as_slice-firsts.result.now c.index-delta-entry.result inside c.index-delta-entry.is c.as_slice-firsts.ensures) (sym c.is_empty.ensures ∙ c.if-is_empty.true),
      refl,
    )

pub returns-then-is_many : goal.returns-then-is_many
returns-then-is_many c =
    let kept : to_z w64 (of_z w64 c.args.entry.now.weight) ≡ c.args.entry.now.weight = search rules in
    let from : c.args.entry.now.from.0 < c.args.basis.table.now.shape.points = (c.requires.row.slots.sound.keys (edge_into c.args.target c.args.entry.now) c.requires.entry).from_point in
    let inside : c.args.entry.now.from.0 < length c.args.delta.now = subst (λ (n : ℕ). c.args.entry.now.from.0 < n) (sym c.requires.row.recorded.delta.count) from in
    let has : HasColumn c.args.basis.table.now.shape c.args.target (wide_label c.args.entry.now.label) c.column_of-column.result =
    subst (λ (ls : List LinkId). IsColumnOf ls (wide_label c.args.entry.now.label) c.column_of-column.result) c.requires.row.labels c.column_of-column.ensures in
    left (over_many c.args.basis.table.now c.args.target c.args.delta.now c.args.entry.now c.requires.row.slots.sound c.requires.entry c.args.begin.now.candidates c.requires.apart c.args.self.now.width c.column_of-column.result
    c.edge_into-edge.result
    c.as_slice-firsts.result.now c.args.begin.now.whole.items c.push_if_seed.new.places.items c.requires.row.slots.wide has c.edge_into-edge.ensures
    (delta_is c.args.delta.now c.args.entry.now.from c.as_slice-firsts.result.now c.index-delta-entry.result inside c.index-delta-entry.is c.as_slice-firsts.ensures) (ap (int_le (pos 0)) (sym kept)
    ∙ c.if-entry-ge0.false) c.in_ok-push_if_seed.ensures)
  where
    left : (HasTakenOver c.args.basis.table.now c.args.target c.args.delta.now c.args.entry.now c.args.begin.now.candidates c.args.begin.now.candidates × (c.push_if_seed.new.places.items ≡ c.args.begin.now.whole.items))
        ⊎ IsPutWhole c.args.basis.table.now c.args.target c.args.entry.now c.args.begin.now.whole.items c.push_if_seed.new.places.items
        → (HasTakenOver c.args.basis.table.now c.args.target c.args.delta.now c.args.entry.now c.args.begin.now.candidates c.args.begin.now.candidates × (c.push_if_seed.new.places.items ≡ c.args.begin.now.whole.items))
        ⊎ ((c.args.begin.now.candidates ≡ c.args.begin.now.candidates) × IsPutWhole c.args.basis.table.now c.args.target c.args.entry.now c.args.begin.now.whole.items c.push_if_seed.new.places.items)
    left (inl taken) = inl taken
    left (inr put) = inr (refl, put)

pub returns : goal.returns
returns c =
    let kept : to_z w64 (of_z w64 c.args.entry.now.weight) ≡ c.args.entry.now.weight = search rules in
    let from : c.args.entry.now.from.0 < c.args.basis.table.now.shape.points = (c.requires.row.slots.sound.keys (edge_into c.args.target c.args.entry.now) c.requires.entry).from_point in
    let inside : c.args.entry.now.from.0 < length c.args.delta.now = subst (λ (n : ℕ). c.args.entry.now.from.0 < n) (sym c.requires.row.recorded.delta.count) from in
    let has : HasColumn c.args.basis.table.now.shape c.args.target (wide_label c.args.entry.now.label) c.column_of-column.result =
    subst (λ (ls : List LinkId). IsColumnOf ls (wide_label c.args.entry.now.label) c.column_of-column.result) c.requires.row.labels c.column_of-column.ensures in
    inl (
      over_firsts c.args.basis.table.now c.args.target c.args.delta.now c.args.entry.now c.requires.row.slots.sound c.requires.entry c.args.begin.now.candidates c.requires.apart c.relax_candidates_over.new.candidates c.args.self.now.width
          c.column_of-column.result c.edge_into-edge.result
          c.as_slice-firsts.result.now c.requires.row.slots.wide has c.edge_into-edge.ensures (delta_is c.args.delta.now c.args.entry.now.from c.as_slice-firsts.result.now c.index-delta-entry.result inside c.index-delta-entry.is
          c.as_slice-firsts.ensures) (ap (int_le (pos 0)) (sym kept) ∙ c.if-entry-ge0.false) c.in_ok-relax_candidates_over.ensures,
      refl,
    )
