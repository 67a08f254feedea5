use Rattle.std.proofs.Common.{rules, ◌≡◌, ◌<◌, ◌≤◌, ◌++◌, ℕ, List, Some, true, length, refl, sym, ap, ◌∙◌, subst, arith}
use Rattle.std.specs.Prelude.{slice_get, slice_set}
use Rattle.std.proofs.lemmas.Option.{slice_get_read}
use Rattle.net_model.specs.Names.{is_name}
use Rattle.net_model.proofs.NameLemmas.{length_of_name}
use Rattle.multiplexed_commands.specs.Merged.{Member, own_number}
use Rattle.multiplexed_commands.specs.NamedLines.{named}
use Rattle.event_phase.specs.EventRuns.{EventRun}
use Rattle.fleet_command.specs.FleetStands.{AnswersMember, fleet_capacity, members_of, slot_stands}
use Rattle.fleet_command.proofs.SlotLemmas.{answers_fit, answers_member, members_many, placed_after, capacity_after, capacity_here}
use Rattle.fleet_command.proofs.OwnLemmas.{is_whole, says_whole}
use Rattle.fleet_command.proofs.CapacityLemmas.{fits_named}
use Rattle.fleet_command.proofs.fleet_phase.answer_line.Goals as goal

pub put_named-requires-clause-whole : goal.put_named-requires-clause-whole
put_named-requires-clause-whole c =
    let slot = c.answer.ensures.says in
    is_whole c.bytes-2.result.now c.answer.new.self.said.text c.bytes-2.ensures.value
    (says_whole (slot_stands c.serving.inside.answerer.fleet c.index.result.now.slot) (slot_stands c.answer.new.self.fleet c.index.result.now.slot) c.min-count.result c.args.line.now c.answer.new.self.said.text slot.says)

pub put_named-requires-clause-spare_capacity : goal.put_named-requires-clause-spare_capacity
put_named-requires-clause-spare_capacity c =
    let fleet = c.serving.inside.answerer.fleet in
    let entries = c.serving.inside.entries.items in
    let place = c.args.place in
    let entry = c.index.result.now in
    let count = c.min-count.result in
    let line = c.args.line.now in
    let said = c.answer.new.self.said.text in
    let after = c.answer.new.self.fleet in
    let slot = c.answer.ensures.says in
    let many = members_many fleet entries in
    let viewed = ap length c.serving.view_is in
    let within : place < length entries = omega (arith, c.requires.within, viewed, many) in
    let here : slice_get entries place ≡ Some entry = slice_get_read entries (length entries) place entry refl within c.index.ensures in
    let name_is : is_name c.bytes.result.now ≡ true = search rules in
    let short = length_of_name c.bytes.result.now name_is in
    let size = ap length c.bytes-2.ensures.value in
    let fits = c.answer.ensures.size in
    let spare_capacity : fleet_capacity (members_of fleet entries) ≤ c.args.answer.now.capacity = subst (λ (ms : List (Member EventRun)). fleet_capacity ms ≤ c.args.answer.now.capacity) (sym c.serving.view_is) c.requires.spare_capacity in
    let none = ap length c.clear.ensures.text in
    let most =
    fits_named (slot_stands fleet entry.slot) c.bytes.result.now c.bytes-2.result.now (fleet_capacity (members_of fleet entries)) c.args.answer.now.capacity short (omega (arith, size, fits))
    (capacity_here fleet entries place entry here) spare_capacity
    c.has_capacity.ensures in
    omega (arith, most, none, c.clear.ensures.capacity)

pub invariant_of-result : goal.invariant_of-result
invariant_of-result c =
    let fleet = c.serving.inside.answerer.fleet in
    let entries = c.serving.inside.entries.items in
    let place = c.args.place in
    let entry = c.index.result.now in
    let count = c.min-count.result in
    let line = c.args.line.now in
    let said = c.answer.new.self.said.text in
    let after = c.answer.new.self.fleet in
    let slot = c.answer.ensures.says in
    let many = members_many fleet entries in
    let viewed = ap length c.serving.view_is in
    let within : place < length entries = omega (arith, c.requires.within, viewed, many) in
    let here : slice_get entries place ≡ Some entry = slice_get_read entries (length entries) place entry refl within c.index.ensures in
    let own : count ≡ own_number entry.count c.args.number = omega (arith, c.saturating_add.ensures, c.min-count.ensures, c.ranges.number.fits) in
    let put = c.put_named.new.answer.text in
    let puts : put ≡ named entry.name said =
    c.put_named.ensures.text ∙ (ap (λ (t : List ℕ). t ++ named c.bytes.result.now c.bytes-2.result.now) c.clear.ensures.text
    ∙ (ap (λ (n : List ℕ). named n c.bytes-2.result.now) c.bytes.ensures.text ∙ ap (λ (b : List ℕ). named entry.name b) c.bytes-2.ensures.value)) in
    let grown : c.serving.inside.answerer.said.capacity ≤ c.answer.new.self.said.capacity = c.answer.ensures.capacity in (
      placed_after fleet after entries place c.args.number count line said put entry c.serving.invariant.0 here own slot puts,
      capacity_after fleet after entries place c.args.number count line said put entry c.serving.invariant.0 here own
          slot puts c.serving.inside.answerer.said.capacity c.answer.new.self.said.capacity grown c.serving.invariant.1,
    )

pub returns-clause-answers : goal.returns-clause-answers
returns-clause-answers c =
    let fleet = c.serving.inside.answerer.fleet in
    let entries = c.serving.inside.entries.items in
    let place = c.args.place in
    let entry = c.index.result.now in
    let count = c.min-count.result in
    let line = c.args.line.now in
    let said = c.answer.new.self.said.text in
    let after = c.answer.new.self.fleet in
    let slot = c.answer.ensures.says in
    let many = members_many fleet entries in
    let viewed = ap length c.serving.view_is in
    let within : place < length entries = omega (arith, c.requires.within, viewed, many) in
    let here : slice_get entries place ≡ Some entry = slice_get_read entries (length entries) place entry refl within c.index.ensures in
    let own : count ≡ own_number entry.count c.args.number = omega (arith, c.saturating_add.ensures, c.min-count.ensures, c.ranges.number.fits) in
    let put = c.put_named.new.answer.text in
    let puts : put ≡ named entry.name said =
    c.put_named.ensures.text ∙ (ap (λ (t : List ℕ). t ++ named c.bytes.result.now c.bytes-2.result.now) c.clear.ensures.text
    ∙ (ap (λ (n : List ℕ). named n c.bytes-2.result.now) c.bytes.ensures.text ∙ ap (λ (b : List ℕ). named entry.name b) c.bytes-2.ensures.value)) in
    subst (λ (ms : List (Member EventRun)). AnswersMember ms place c.args.number line put (members_of after (slice_set entries place (record { name = entry.name; slot = entry.slot; count = count })))) c.serving.view_is
    (answers_member fleet after entries place c.args.number count line said put entry c.serving.invariant.0 here own slot puts)

pub returns-clause-spare_capacity : goal.returns-clause-spare_capacity
returns-clause-spare_capacity c =
    let fleet = c.serving.inside.answerer.fleet in
    let entries = c.serving.inside.entries.items in
    let place = c.args.place in
    let entry = c.index.result.now in
    let count = c.min-count.result in
    let line = c.args.line.now in
    let said = c.answer.new.self.said.text in
    let after = c.answer.new.self.fleet in
    let slot = c.answer.ensures.says in
    let many = members_many fleet entries in
    let viewed = ap length c.serving.view_is in
    let within : place < length entries = omega (arith, c.requires.within, viewed, many) in
    let here : slice_get entries place ≡ Some entry = slice_get_read entries (length entries) place entry refl within c.index.ensures in
    let own : count ≡ own_number entry.count c.args.number = omega (arith, c.saturating_add.ensures, c.min-count.ensures, c.ranges.number.fits) in
    let put = c.put_named.new.answer.text in
    let puts : put ≡ named entry.name said =
    c.put_named.ensures.text ∙ (ap (λ (t : List ℕ). t ++ named c.bytes.result.now c.bytes-2.result.now) c.clear.ensures.text
    ∙ (ap (λ (n : List ℕ). named n c.bytes-2.result.now) c.bytes.ensures.text ∙ ap (λ (b : List ℕ). named entry.name b) c.bytes-2.ensures.value)) in
    let spare_capacity : fleet_capacity (members_of fleet entries) ≤ c.args.answer.now.capacity = subst (λ (ms : List (Member EventRun)). fleet_capacity ms ≤ c.args.answer.now.capacity) (sym c.serving.view_is) c.requires.spare_capacity in
    let less = answers_fit fleet after entries place c.args.number count line said put entry c.serving.invariant.0 here own slot puts in
    omega (arith, less, spare_capacity, c.clear.ensures.capacity, c.put_named.ensures.capacity)
