use Rattle.std.proofs.Common.{List, length, sym, ap, ◌∙◌, arith}
use Rattle.std.specs.Prelude.{slice_get}
use Rattle.fleet_command.specs.declared.entries.FleetEntry.{FleetEntry}
use Rattle.fleet_command.proofs.StartLemmas.{start_so, fleet_fits, have_capacity, nets_few, placed_so}
use Rattle.fleet_command.proofs.fleet_question.FleetQuestionBeginTuple2UnitPlans.begin.Goals as goal

pub overflow_cast-count : goal.overflow_cast-count
overflow_cast-count g c =
    let nets = ap length c.in_ok-entries.ensures.nets in
    let few = nets_few c.into_vec.result.items in
    let same = ap length c.into_vec.ensures.plans in
    let most = c.into_vec.ensures.few in
    omega (arith, nets, few, same, most, c.len-count.ensures, c.in_ok-entries.field-0.nets.ok.0)

pub open-requires-after_bounds : goal.open-requires-after_bounds
open-requires-after_bounds g c κs within =
    let nets = ap length c.in_ok-entries.ensures.nets in
    let few = nets_few c.into_vec.result.items in
    let same = ap length c.into_vec.ensures.plans in
    let most = c.into_vec.ensures.few in
    omega (arith, nets, few, same, most)

pub put_starts-requires : goal.put_starts-requires
put_starts-requires g c = record {
  placed = λ at place entry is slot.
      (placed_so c.into_vec.result.items c.in_ok-entries.field-0.nets.items c.in_ok-entries.field-0.entries.items c.in_ok-fleet.fleet c.in_ok-entries.ensures.nets c.in_ok-entries.ensures.entries c.in_ok-fleet.ensures).within
      at place entry (sym (ap (λ (es : List FleetEntry). slice_get es at) c.as_slice.ensures.value) ∙ is) slot;
}

pub invariant_of-result : goal.invariant_of-result
invariant_of-result g c = (
  placed_so c.into_vec.result.items c.in_ok-entries.field-0.nets.items c.in_ok-entries.field-0.entries.items c.in_ok-fleet.fleet c.in_ok-entries.ensures.nets c.in_ok-entries.ensures.entries c.in_ok-fleet.ensures,
  have_capacity c.in_ok-fleet.fleet c.most_points.result c.reserve.new.self.capacity c.most_points.ensures.most (omega (arith, c.in_ok-reserve.ensures.spare_capacity)),
)

pub returns-clause-begins : goal.returns-clause-begins
returns-clause-begins g c =
    start_so c.into_vec.result.items c.args.value.1 c.in_ok-entries.field-0.nets.items c.in_ok-entries.field-0.entries.items c.as_slice.result.now c.in_ok-fleet.fleet c.put_starts.new.answer.text c.reserve-2.new.self.text
    c.into_vec.ensures.plans c.in_ok-entries.ensures.nets c.in_ok-entries.ensures.entries c.as_slice.ensures.value c.reserve-2.ensures.text c.in_ok-fleet.ensures c.in_ok-put_starts.ensures

pub returns-clause-spare_capacity : goal.returns-clause-spare_capacity
returns-clause-spare_capacity g c =
    let fits = fleet_fits c.in_ok-fleet.fleet c.in_ok-entries.field-0.entries.items c.most_points.result c.most_points.ensures.most in
    omega (arith, fits, c.in_ok-reserve-2.ensures.spare_capacity)
