use Rattle.std.proofs.Common.{◌≡◌, ◌++◌, ◌∷◌, [], ℕ, List, length, sym, ap, ◌∙◌, arith}
use Rattle.net_model.specs.Network.{Plan}
use Rattle.fleet_command.specs.PlanDivision.{fleet_entries_of, fleet_entry_of, nets_in}
use Rattle.fleet_command.specs.declared.entries.FleetEntry.{FleetEntry}
use Rattle.fleet_command.specs.declared.entries.FleetSlot.{FleetSlot}
use Rattle.fleet_command.specs.declared.entries.FleetSlot.TheVariants.{Opened}
use Rattle.fleet_command.proofs.StartLemmas.{few_given, opened_more, refused_more}
use Rattle.fleet_command.proofs.plan_division.divide.Goals as goal
use Rattle.fleet_command.proofs.plan_division.divide.Goals.{in-Refused, in-Network+in_ok-push-in-Network}

pub overflow_cast-place : goal.overflow_cast-place
overflow_cast-place c =
    let few = few_given c.into_iter-plan-iterator.result c.loop-plan.yielded c.args.plans.items c.loop-plan.plan-iterator c.into_iter-plan-iterator.ensures.into_iter_gives.0 c.loop-plan.yielded_by in
    let nets = ap length c.loop-plan.invariant.nets in
    let most = c.requires in
    omega (arith, few, nets, most, c.len-place.ensures, c.loop-plan.nets.ok.0)

pub loop-plan-preserved : goal.loop-plan-preserved
loop-plan-preserved c =
    let plans = c.loop-plan.yielded in
    let plan = c.in-Some.plan in
    let pushed : c.push-in-loop-plan.new.self.items ≡ fleet_entries_of 0 plans ++ fleet_entry_of plan.0 c.match-plan_or_refusal.slot ∷ [] =
    c.in_ok-push.ensures.items ∙ ap (λ (es : List FleetEntry). es ++ fleet_entry_of plan.0 c.match-plan_or_refusal.slot ∷ []) c.loop-plan.invariant.entries in
    elim c.match-plan_or_refusal.branch [
      | in-Refused w ↦
          let more = refused_more plans plan w.in-Refused.why w.in-Refused.is in
          record {
            entries = pushed ∙ (ap (λ (h : FleetSlot). fleet_entries_of 0 plans ++ fleet_entry_of plan.0 h ∷ []) w.slot-is ∙ sym more.0);
            nets = ap (λ v. v.items) w.nets-is ∙ (c.loop-plan.invariant.nets ∙ sym more.1);
          }
      | in-Network+in_ok-push-in-Network w ↦
          let more = opened_more plans plan w.in-Network.net w.in-Network.is in
          let place : w.len-place.result ≡ length (nets_in plans) = w.len-place.ensures ∙ (c.loop-plan.nets.ok.0 ∙ ap length c.loop-plan.invariant.nets) in
          record {
            entries = pushed ∙ (ap (λ (h : FleetSlot). fleet_entries_of 0 plans ++ fleet_entry_of plan.0 h ∷ []) w.slot-is ∙ (ap (λ (n : ℕ). fleet_entries_of 0 plans ++ fleet_entry_of plan.0 (Opened n) ∷ []) place ∙ sym more.0));
            nets =
                ap (λ v. v.items) w.nets-is ∙ (w.in_ok-push-in-Network.ensures.items
                ∙ (ap (λ (n : Plan). c.loop-plan.nets.items ++ (plan.0, n) ∷ []) w.into_network.ensures.same ∙ (ap (λ (ns : List (List ℕ × Plan)). ns ++ (plan.0, w.in-Network.net) ∷ []) c.loop-plan.invariant.nets ∙ sym more.1)));
          }
    ]
