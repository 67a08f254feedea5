-- Each plan of a fleet is answered as it is alone.
use Rattle.std.proofs.Common.{◌≡◌, inl, inr, ℕ, zero, suc, ◌+◌, ◌≤◌, List, [], ◌∷◌, ◌++◌, length, Some, refl, sym, ap, ◌∙◌, subst, arith, append_assoc, append-nil}
use Rattle.std.specs.Prelude.{codes, slice_get}
use Rattle.std.proofs.lemmas.List.{length-map, map-append}
use Rattle.texts.specs.Lines.{InputLine, whole_line}
use Rattle.texts.specs.PrintedLines.{printed_line}
use Rattle.net_model.specs.Names.{is_name}
use Rattle.net_model.specs.Network.{Plan}
use Rattle.net_model.specs.ShownForm.{shown_form}
use Rattle.net_model.specs.declared.format.FormatKind.TheVariants as kind
use Rattle.strategy_model.specs.Control.{IsControllable}
use Rattle.closure_laws.proofs.OrderLemmas.{law_ordered_closures_are_controllable}
use Rattle.execution_model.specs.Feeds.{started}
use Rattle.execution_model.specs.Laws.{setting_of}
use Rattle.command_engine.specs.Limits.{most_input}
use Rattle.command_engine.specs.Machine.{Machine}
use Rattle.command_engine.specs.Runs.{Here, after_line, Answers, Replies, Run}
use Rattle.command_engine.specs.declared.endings.End.{End}
use Rattle.command_engine.specs.declared.endings.End.TheVariants as ends
use Rattle.command_engine.specs.declared.machines.Flow.TheVariants.{Continue, Finish}
use Rattle.common_answers.specs.Faults.{fault_line}
use Rattle.common_answers.specs.VerdictLines.{controllable_line}
use Rattle.common_answers.specs.declared.faults.Fault.TheVariants.{Format}
use Rattle.multiplexed_commands.specs.Alone.{MemberState, Runs}
use Rattle.multiplexed_commands.specs.Starts.{AreStarts, SaysAlone, Start, starting_members, starts_put}
use Rattle.multiplexed_commands.specs.NamedLines.{IsOfWholeLines, named, of_name}
use Rattle.multiplexed_commands.specs.Projection.{own_lines}
use Rattle.multiplexed_commands.specs.Runs.{as_input, idles, IsAlone as RunIsAlone}
use Rattle.multiplexed_commands.proofs.StartLemmas.{answered_alone}
use Rattle.multiplexed_commands.proofs.NamedLineLemmas.{whole_both}
use Rattle.event_phase.specs.ExecutionStart.{BeginsExecution}
use Rattle.event_phase.specs.EventRuns.{EventRun, event_run_of}
use Rattle.event_phase.specs.EventAnswers.{due_line}
use Rattle.event_phase.specs.EventPhase.{executing_machine}
use Rattle.event_phase.specs.ExecutionPromise.{ExecutionPromise}
use Rattle.event_phase.specs.CompletionOrders.{as_named}
use Rattle.event_phase.proofs.DayLemmas.{ExecutionLaws}
use Rattle.event_phase.proofs.EventLemmas.{at}
use Rattle.event_phase.proofs.ExecutionLemmas.{IsOpened, execution_keeps}
use Rattle.fleet_command.specs.FleetCommand.{BeginEach, BeginsIdle, BeginsPlan, fleet_around, plans_machine, refusal_words}
use Rattle.fleet_command.specs.FleetPromise.{EachAlone, IsAlone, IsRunAlone, RunsOn, own_opens}
use Rattle.fleet_command.specs.FleetStands.{fleet_capacity}
use Rattle.fleet_command.specs.FleetText.{Plans}
use Rattle.fleet_command.specs.PlanNames.{AreNamed}
use Rattle.fleet_command.specs.declared.plan_or_refusal.PlanOrRefusal.{PlanOrRefusal}
use Rattle.fleet_command.specs.declared.plan_or_refusal.PlanOrRefusal.TheVariants.{Network, Refused}
use Rattle.fleet_command.proofs.PlanNameLemmas.{naming}
use Rattle.fleet_command.proofs.LineLemmas.{Members}
use Rattle.fleet_command.proofs.OwnLemmas.{due_whole, executing_fixed, executing_whole, is_whole, printed_whole}

-- ---- how the plans begin
-- one of the plans, and how it begins
pub start_at : (plans : Plans) (starts : List (Start EventRun)) (place : ℕ) (start : Start EventRun) → BeginEach plans starts → slice_get starts place ≡ Some start
    → (plan : List ℕ × PlanOrRefusal) × (slice_get plans place ≡ Some plan) × (start.name ≡ plan.0) × BeginsPlan plan.1 start
start_at [] [] place start each is = absurd (cc is)
start_at [] (one ∷ starts) place start each is = absurd each
start_at (plan ∷ plans) [] place start each is = absurd each
start_at (plan ∷ plans) (one ∷ starts) zero start (name, begins, each) is =
    let same : one ≡ start = cc is in
    (plan, refl, subst (λ (s : Start EventRun). s.name ≡ plan.0) same name, subst (BeginsPlan plan.1) same begins)
start_at (plan ∷ plans) (one ∷ starts) (suc place) start (name, begins, each) is = start_at plans starts place start each is

pub plan_at : (plans : Plans) (starts : List (Start EventRun)) (place : ℕ) (plan : List ℕ × PlanOrRefusal) → BeginEach plans starts → slice_get plans place ≡ Some plan
    → (start : Start EventRun) × (slice_get starts place ≡ Some start) × (start.name ≡ plan.0) × BeginsPlan plan.1 start
plan_at [] [] place plan each is = absurd (cc is)
plan_at [] (one ∷ starts) place plan each is = absurd each
plan_at (one ∷ plans) [] place plan each is = absurd each
plan_at (one ∷ plans) (start ∷ starts) zero plan (name, begins, each) is =
    let same : one ≡ plan = cc is in
    (start, refl, subst (λ (p : List ℕ × PlanOrRefusal). start.name ≡ p.0) same name, subst (λ (p : List ℕ × PlanOrRefusal). BeginsPlan p.1 start) same begins)
plan_at (one ∷ plans) (start ∷ starts) (suc place) plan (name, begins, each) is = plan_at plans starts place plan each is

begins_whole : (plan_or_refusal : PlanOrRefusal) (start : Start EventRun) → BeginsPlan plan_or_refusal start → IsOfWholeLines start.said
begins_whole (Network net) start (inl (controllable, begins)) =
    is_whole start.said _ begins.begins.put (whole_both controllable_line (due_line begins.begins.due) (printed_whole (codes "controllable" ∷ [])) (due_whole begins.begins.due))
begins_whole (Network net) start (inr (never, idle)) = is_whole start.said _ idle.said (printed_whole (codes "not controllable" ∷ []))
begins_whole (Refused why) start idle = is_whole start.said _ idle.said (printed_whole (refusal_words why))

pub are_starts : (plans : Plans) (starts : List (Start EventRun)) → BeginEach plans starts → AreNamed plans → AreStarts starts
are_starts plans starts each are = record {
  names = λ place start is.
      let (plan, here, name, begins) = start_at plans starts place start each is in
      naming start.name (ap is_name name ∙ are.names place plan here);
  whole = λ place start is.
      let (plan, here, name, begins) = start_at plans starts place start each is in
      begins_whole plan.1 start begins;
  different = λ place other start one is also same.
      let (plan, here, name, begins) = start_at plans starts place start each is in
      let (another, there, its_name, its_begins) = start_at plans starts other one each also in
      are.different place other plan another here there (sym name ∙ (same ∙ its_name));
}

-- ---- a run over a plan's own lines
answers_count : {C : Type 0} (machine : Machine C) (lines : List InputLine) (here there : Here C) (said : List ℕ) → Answers machine here lines said there → there.number ≡ here.number + length lines
answers_count machine [] here there said (nothing, same) = let number : here.number ≡ there.number = ap (λ (h : Here _). h.number) same in omega (arith, number)
answers_count machine (line ∷ lines) here there said (answer, more, state, replies, all, later) = let on = answers_count machine lines (after_line here line state) there more later in omega (arith, on)

-- lines of a plan's own that are some of an input and others are some of its own and these others
same_lines : (owns ys : List (List ℕ)) → as_input owns ≡ as_input ys → owns ≡ ys
same_lines [] [] same = refl
same_lines [] (y ∷ ys) same = absurd (cc same)
same_lines (own ∷ owns) [] same = absurd (cc same)
same_lines (own ∷ owns) (y ∷ ys) same =
    let head : whole_line own ≡ whole_line y = cc same in
    let tail : as_input owns ≡ as_input ys = cc same in
    let text : own ≡ y = ap (λ (l : InputLine). l.text) head in
    ap (λ (l : List ℕ). l ∷ owns) text ∙ ap (λ (ls : List (List ℕ)). y ∷ ls) (same_lines owns ys tail)

divide_lines : (owns : List (List ℕ)) (xs : List InputLine) (ys : List (List ℕ)) → as_input owns ≡ xs ++ as_input ys → (front : List (List ℕ)) × (as_input front ≡ xs) × (owns ≡ front ++ ys)
divide_lines owns [] ys same = ([], refl, same_lines owns ys same)
divide_lines [] (x ∷ xs) ys same = absurd (cc same)
divide_lines (own ∷ owns) (x ∷ xs) ys same =
    let head : whole_line own ≡ x = cc same in
    let tail : as_input owns ≡ xs ++ as_input ys = cc same in
    let (front, is, all) = divide_lines owns xs ys tail in
    (own ∷ front, ap (λ (l : InputLine). l ∷ as_input front) head ∙ ap (λ (ls : List InputLine). x ∷ ls) is, ap (λ (ls : List (List ℕ)). own ∷ ls) all)

abbrev first_here : EventRun → Here EventRun
first_here event_run = record { state = event_run; number = 0; spare_capacity = most_input }

module _ (laws : ExecutionLaws) where
  module _ (net : Plan) (controls : IsControllable net) (start : Start EventRun) (event_run : EventRun) (begins : BeginsExecution (shown_form net) start.said (Continue event_run)) where
    abbrev shown : Plan
    shown = shown_form net

    is_event_run : event_run ≡ event_run_of shown (started (setting_of shown begins.table))
    is_event_run = cc (begins.goes)

    module _ (owns : List InputLine) (more put : List ℕ) (end : End) (all : put ≡ start.said ++ more) (run : Run executing_machine (first_here event_run) owns more end) where
      run_so : Run executing_machine (first_here (event_run_of shown (started (setting_of shown begins.table)))) owns more end
      run_so = subst (λ (c : EventRun). Run executing_machine (first_here c) owns more end) is_event_run run

      leads : (used rest : List InputLine) (other : Plan) (before : List ℕ) → owns ≡ used ++ rest → (own_opens net).opens used rest other before → IsControllable other → IsOpened as_named other used rest before put end
      leads [] rest other before divided (none, same, nothing) controls_too =
          subst (λ (n : Plan). IsOpened as_named n [] rest before put end) (sym same)
          (record {
            controllable = law_ordered_closures_are_controllable shown begins.table begins.order begins.by_closure.dispatched.instant begins.by_closure.closure begins.by_closure.dispatched.ordered;
            table = begins.table;
            order = begins.order;
            by_closure = begins.by_closure;
            due = begins.due;
            first = begins.first;
            more = more;
            all =
                all
                ∙ (ap (λ (s : List ℕ). s ++ more) begins.put
                ∙ (append_assoc controllable_line (due_line begins.due) more ∙ ap (λ (b : List ℕ). b ++ (controllable_line ++ (due_line begins.due ++ more))) (sym nothing)));
            later = subst (λ (ls : List InputLine). Run executing_machine (at shown (started (setting_of shown begins.table)) as_named 0 most_input) ls more end) divided run_so;
          })
      leads (line ∷ used) rest other before divided (none, same, nothing) controls_too = absurd (cc none)

      keeps : ExecutionPromise (own_opens net) owns put end
      keeps = execution_keeps laws (own_opens net) owns put end leads

    alone_keeps : (owns : List (List ℕ)) (said : List ℕ) (last : MemberState EventRun) → RunIsAlone executing_machine (first_here event_run) owns said last → IsRunAlone net owns (start.said ++ said)
    alone_keeps owns said last (inl (there, answers, stands)) =
        let here = first_here event_run in
        let on = answers_count executing_machine (as_input owns) here there said answers in
        let size : length (as_input owns) ≡ length owns = length-map owns whole_line in
        let count : there.number ≡ length owns = omega (arith, on, size) in
        let line : List ℕ = fault_line (Format (there.number + 1) kind.NoEnd) in
        let same : line ≡ fault_line (Format (length owns + 1) kind.NoEnd) = ap (λ (n : ℕ). fault_line (Format (n + 1) kind.NoEnd)) count in
        let run : Run executing_machine here (as_input owns) (said ++ line) ends.Fault = record {
          first = as_input owns;
          rest = [];
          said = said;
          there = there;
          last = line;
          divided = sym (append-nil (as_input owns));
          answers = answers;
          ends = (ends.Fault, refl, (refl, refl));
          all = refl;
        } in
        record {
          put = start.said ++ (said ++ line);
          end = ends.Fault;
          answers = inl (sym (append_assoc start.said said line) ∙ ap (λ (l : List ℕ). (start.said ++ said) ++ l) same, refl);
          runs = (start.said, said ++ line, Continue event_run, inl (controls, begins), refl, run);
          promise = keeps (as_input owns) (said ++ line) (start.said ++ (said ++ line)) ends.Fault refl run;
        }
    alone_keeps owns said last (inr ended) =
        let here = first_here event_run in
        let run = ended.run in
        let split : as_input owns ≡ run.first ++ as_input (ended.line ∷ ended.others) = run.divided ∙ ap (λ (ls : List InputLine). run.first ++ ls) ended.rest in
        let (front, front_is, divided) = divide_lines owns run.first (ended.line ∷ ended.others) split in
        let replies : Replies executing_machine run.there (as_input (ended.line ∷ ended.others)) run.last (Finish ended.end) =
        subst (λ (ls : List InputLine). Replies executing_machine run.there ls run.last (Finish ended.end)) ended.rest run.ends in
        let answers : Answers executing_machine here (as_input front) run.said run.there =
        subst (λ (ls : List InputLine). Answers executing_machine here ls run.said run.there) (sym front_is) run.answers in
        let ends_so : (rest : List (List ℕ)) → Run executing_machine here (as_input (front ++ ended.line ∷ rest)) ended.put ended.end = λ rest. record {
          first = as_input front;
          rest = as_input (ended.line ∷ rest);
          said = run.said;
          there = run.there;
          last = run.last;
          divided = map-append whole_line front (ended.line ∷ rest);
          answers = answers;
          ends = replies;
          all = run.all;
        } in
        let on = answers_count executing_machine (as_input front) here run.there run.said answers in
        let size : length (as_input front) ≡ length front = length-map front whole_line in
        let count : run.there.number ≡ length front = omega (arith, on, size) in
        let no_end : List ℕ = fault_line (Format (run.there.number + 1) kind.NoEnd) in
        let same : no_end ≡ fault_line (Format (length front + 1) kind.NoEnd) = ap (λ (n : ℕ). fault_line (Format (n + 1) kind.NoEnd)) count in
        let cut : Run executing_machine here (as_input front) (run.said ++ no_end) ends.Fault = record {
          first = as_input front;
          rest = [];
          said = run.said;
          there = run.there;
          last = no_end;
          divided = sym (append-nil (as_input front));
          answers = answers;
          ends = (ends.Fault, refl, (refl, refl));
          all = refl;
        } in
        let before : List ℕ = start.said ++ run.said in
        let cut_so : RunsOn net front (start.said ++ (run.said ++ no_end)) ends.Fault = (start.said, run.said ++ no_end, Continue event_run, inl (controls, begins), refl, cut) in
        let whole : start.said ++ (run.said ++ no_end) ≡ before ++ fault_line (Format (length front + 1) kind.NoEnd) =
        sym (append_assoc start.said run.said no_end) ∙ ap (λ (l : List ℕ). before ++ l) same in
        record {
          put = start.said ++ ended.put;
          end = ended.end;
          answers = inr (record {
            first = front;
            line = ended.line;
            others = ended.others;
            divided = divided;
            ended = λ rest. (start.said, ended.put, Continue event_run, inl (controls, begins), refl, ends_so rest);
            not_before = (before, subst (λ (b : List ℕ). RunsOn net front b ends.Fault) whole cut_so);
            idle = ap (λ (s : List ℕ). start.said ++ s) ended.all ∙ sym (append_assoc start.said ended.put (idles ended.others));
          });
          runs = (start.said, ended.put, Continue event_run, inl (controls, begins), refl, ended.run);
          promise = keeps (as_input owns) ended.put (start.said ++ ended.put) ended.end refl ended.run;
        }

    pub runs_alone : (owns : List (List ℕ)) (said : List ℕ) → start.stands ≡ Runs event_run → SaysAlone executing_machine start.stands most_input owns said → IsRunAlone net owns (start.said ++ said)
    runs_alone owns said is says =
        let alone = subst (λ (s : MemberState EventRun). SaysAlone executing_machine s most_input owns said) is says in
        alone_keeps owns said alone.0 alone.1

  idle_alone : (words : List (List ℕ)) (start : Start EventRun) (owns : List (List ℕ)) (said : List ℕ) → BeginsIdle words start → SaysAlone executing_machine start.stands most_input owns said
      → start.said ++ said ≡ printed_line words ++ idles owns
  idle_alone words start owns said idle says =
      let nothing : said ≡ idles owns = subst (λ (s : MemberState EventRun). SaysAlone executing_machine s most_input owns said) idle.stands says in
      ap (λ (s : List ℕ). s ++ said) idle.said ∙ ap (λ (s : List ℕ). printed_line words ++ s) nothing

  pub plan_alone : (plan_or_refusal : PlanOrRefusal) (start : Start EventRun) (owns : List (List ℕ)) (said : List ℕ) → BeginsPlan plan_or_refusal start → SaysAlone executing_machine start.stands most_input owns said
      → IsAlone plan_or_refusal owns (start.said ++ said)
  plan_alone (Network net) start owns said (inl (controls, begins)) says = inl (controls, runs_alone net controls start begins.event_run begins.begins owns said begins.stands says)
  plan_alone (Network net) start owns said (inr (never, idle)) says = inr (never, idle_alone (codes "not controllable" ∷ []) start owns said idle says)
  plan_alone (Refused why) start owns said idle says = idle_alone (refusal_words why) start owns said idle says

  -- after any number of lines each was answered as it is alone
  pub each_alone : (plans : Plans) (starts : List (Start EventRun)) (number spare_capacity : ℕ) (lines : List InputLine) (put : List ℕ) (there : Here Members) → BeginEach plans starts → AreNamed plans → spare_capacity ≤ most_input
      → Answers plans_machine (record { state = starting_members starts; number = number; spare_capacity = spare_capacity }) lines put there → EachAlone plans lines (starts_put starts ++ put)
  each_alone plans starts number spare_capacity lines put there each are enough answers place name plan_or_refusal is =
      let (start, here, same, begins) = plan_at plans starts place (name, plan_or_refusal) each is in
      let (said, of, says) = (answered_alone executing_machine executing_fixed executing_whole fleet_around fleet_capacity starts number spare_capacity most_input lines put there enough (are_starts plans starts each are) answers).each
      place start here in (
        start.said ++ said,
        subst (λ (n : List ℕ). of_name n (starts_put starts ++ put) ≡ named n (start.said ++ said)) same of,
        plan_alone plan_or_refusal start (own_lines name lines) said begins (subst (λ (n : List ℕ). SaysAlone executing_machine start.stands most_input (own_lines n lines) said) same says),
      )
