-- The places of the candidate are those of keys of the row.
use Rattle.std.proofs.Common.{rules, ◌≡◌, ◌∙◌, ◌<◌, ℕ, length, sym, subst, w64, to_z, of_z}
use Rattle.back_propagation.proofs.SeedSteps.{between_fits, between_inside}
use Rattle.back_propagation.proofs.open_row.OpenRow.candidate_over.Goals as goal

pub place_of-requires : goal.place_of-requires
place_of-requires c =
    between_fits c.args.table.now c.args.edge.now.to c.args.self.now.slots c.args.self.now.width c.requires.edge.slots c.args.first.now.from c.args.edge.now.label c.args.column
    (c.requires.edge.slots.sound.keys c.args.first.now c.requires.first).from_point c.requires.edge.in_column

pub place_of-requires-2 : goal.place_of-requires-2
place_of-requires-2 c =
    between_fits c.args.table.now c.args.edge.now.to c.args.self.now.slots c.args.self.now.width c.requires.edge.slots c.args.edge.now.from c.args.edge.now.label c.args.column
    (c.requires.edge.slots.sound.keys c.args.edge.now c.requires.edge.held).from_point c.requires.edge.in_column

pub returns-clause-candidate : goal.returns-clause-candidate
returns-clause-candidate c =
    let total : to_z w64 (of_z w64 c.joined_weight.result) ≡ c.joined_weight.result = search rules in
    let weight : to_z w64 (of_z w64 c.args.edge.now.weight) ≡ c.args.edge.now.weight = search rules in
    λ i. record { to = c.place_of.ensures i; total = (total ∙ c.joined_weight.ensures) i; weight = weight i; place = c.place_of-2.ensures i }

pub returns-clause-inside : goal.returns-clause-inside
returns-clause-inside c =
    subst (λ (place : ℕ). place < length c.args.self.now.slots) (sym c.place_of.ensures)
    (between_inside c.args.table.now c.args.edge.now.to c.args.self.now.slots c.args.self.now.width c.requires.edge.slots c.args.first.now.from c.args.edge.now.label c.args.column
    (c.requires.edge.slots.sound.keys c.args.first.now c.requires.first).from_point c.requires.edge.in_column)
