-- `fleet` gives at most one answer: its plans begin in one way, and each line is answered in one way.
use Rattle.std.proofs.Common.{◌≡◌, inl, inr, ℕ, List, [], ◌∷◌, refl, sym, ap, ◌∙◌}
use Rattle.net_model.specs.ShownForm.{shown_form}
use Rattle.command_engine.specs.Single.{IsSingleAnswer}
use Rattle.command_engine.specs.declared.machines.Flow.TheVariants.{Continue}
use Rattle.event_phase.specs.EventRuns.{EventRun}
use Rattle.event_phase.proofs.OnceLemmas.{begins_once}
use Rattle.multiplexed_commands.specs.Alone.{MemberState, Runs}
use Rattle.multiplexed_commands.specs.Starts.{Start, starting_members, starts_put}
use Rattle.fleet_command.specs.FleetCommand.{BeginEach, BeginsIdle, BeginsPlan, fleet_begins, refusal_words}
use Rattle.fleet_command.specs.FleetText.{Plans}
use Rattle.fleet_command.specs.declared.plan_or_refusal.PlanOrRefusal.{PlanOrRefusal}
use Rattle.fleet_command.specs.declared.plan_or_refusal.PlanOrRefusal.TheVariants.{Network, Refused}

start_one : (one other : Start EventRun) → one.name ≡ other.name → one.said ≡ other.said → one.stands ≡ other.stands → one ≡ other
start_one one other name said stands =
    ap (λ (n : List ℕ). record { name = n; said = one.said; stands = one.stands }) name
    ∙ (ap (λ (s : List ℕ). record { name = other.name; said = s; stands = one.stands }) said
    ∙ ap (λ (s : MemberState EventRun). record { name = other.name; said = other.said; stands = s }) stands)

idle_one : (words : List (List ℕ)) (one other : Start EventRun) → BeginsIdle words one → BeginsIdle words other → (one.said ≡ other.said) × (one.stands ≡ other.stands)
idle_one words one other is also = (is.said ∙ sym also.said, is.stands ∙ sym also.stands)

begins_one : (plan_or_refusal : PlanOrRefusal) (one other : Start EventRun) → BeginsPlan plan_or_refusal one → BeginsPlan plan_or_refusal other → (one.said ≡ other.said) × (one.stands ≡ other.stands)
begins_one (Network net) one other (inl (controls, is)) (inl (too, also)) =
    let (said, goes) = begins_once (shown_form net) one.said other.said (Continue is.event_run) (Continue also.event_run) is.begins also.begins in
    let same : is.event_run ≡ also.event_run = cc goes in
    (said, is.stands ∙ (ap (λ (c : EventRun). Runs c) same ∙ sym also.stands))
begins_one (Network net) one other (inl (controls, is)) (inr (never, also)) = absurd (never controls)
begins_one (Network net) one other (inr (never, is)) (inl (controls, also)) = absurd (never controls)
begins_one (Network net) one other (inr (never, is)) (inr (too, also)) = idle_one _ one other is also
begins_one (Refused why) one other is also = idle_one (refusal_words why) one other is also

each_one : (plans : Plans) (starts others : List (Start EventRun)) → BeginEach plans starts → BeginEach plans others → starts ≡ others
each_one [] [] [] each also = refl
each_one [] [] (other ∷ others) each also = absurd also
each_one [] (start ∷ starts) others each also = absurd each
each_one (plan ∷ plans) [] others each also = absurd each
each_one (plan ∷ plans) (start ∷ starts) [] each also = absurd also
each_one (plan ∷ plans) (start ∷ starts) (other ∷ others) (name, begins, each) (its_name, its_begins, also) =
    let (said, stands) = begins_one plan.1 start other begins its_begins in
    ap (λ (s : Start EventRun). s ∷ starts) (start_one start other (name ∙ sym its_name) said stands) ∙ ap (λ (ss : List (Start EventRun)). other ∷ ss) (each_one plans starts others each also)

pub fleet_begins_once : IsSingleAnswer fleet_begins
fleet_begins_once query text a b x y one other =
    let same = each_one text.1 one.starts other.starts one.each other.each in (
      one.put ∙ (ap (λ (ss : List (Start EventRun)). starts_put ss) same ∙ sym other.put),
      one.goes ∙ (ap (λ (ss : List (Start EventRun)). Continue (starting_members ss)) same ∙ sym other.goes),
    )
