-- A phase within another command, which wraps its states: a run of the command from a wrapped state is a run of the phase.
use Rattle.std.proofs.Common.{◌≡◌, ℕ, ◌+◌, List, [], ◌∷◌, refl, sym, subst}
use Rattle.texts.specs.Lines.{InputLine}
use Rattle.plan_port.specs.Lines.{Coming, Comes, TooLong, TooMuch, coming}
use Rattle.command_engine.specs.Machine.{Machine}
use Rattle.command_engine.specs.Runs.{Here, after_line, RepliesTo, Replies, Answers, Run}
use Rattle.command_engine.specs.Phases.{Within, wrapped}
use Rattle.command_engine.specs.declared.endings.End.{End}
use Rattle.command_engine.specs.declared.machines.Flow.{Flow}
use Rattle.command_engine.specs.declared.machines.Flow.TheVariants as run
use Rattle.command_engine.specs.declared.machines.Stop.{Stop}

-- a wrapped command ends if the inner one does, and goes on by a wrapped state
pub wrapped_ends : {C D : Type 0} (wrap : C → D) (inner : Flow C) (end : End) → run.Finish end ≡ wrapped wrap inner → inner ≡ run.Finish end
wrapped_ends wrap (run.Continue state) end is = absurd (cc is)
wrapped_ends wrap (run.Finish other) end is = cc is

pub wrapped_goes : {C D : Type 0} (wrap : C → D) (inner : Flow C) (state : D) → run.Continue state ≡ wrapped wrap inner → (it : C) × (inner ≡ run.Continue it) × (state ≡ wrap it)
wrapped_goes wrap (run.Continue it) state is = (it, refl, cc is)
wrapped_goes wrap (run.Finish other) state is = absurd (cc is)

-- a command serves a phase within it: if its state wraps one of the phase, it does what the phase does
pub record Wraps {C D : Type 0} (phase : Machine C) (machine : Machine D) (wrap : C → D) : Type 0 where
  pub longest : (state : C) → machine.longest (wrap state) ≡ phase.longest state
  pub takes : (state : C) (number : ℕ) (line answer : List ℕ) (flow : Flow D) → machine.takes (wrap state) number line answer flow → Within wrap (phase.takes state number line) answer flow
  pub stops : (state : C) (number : ℕ) (stop : Stop) (answer : List ℕ) (end : End) → machine.stops (wrap state) number stop answer end → phase.stops state number stop answer end

module _ {C D : Type 0} (phase : Machine C) (machine : Machine D) (wrap : C → D) (wraps : Wraps phase machine wrap) where
  -- the place of the command at that of its phase
  abbrev pub at_phase : Here C → Here D
  at_phase here = record { state = wrap here.state; number = here.number; spare_capacity = here.spare_capacity }

  -- a reply is the phase's, wrapped
  served_by : (how : Coming) (here : Here C) (text answer : List ℕ) (flow : Flow D) → RepliesTo machine how (at_phase here) text answer flow → Within wrap (RepliesTo phase how here text) answer flow
  served_by Comes here text answer flow replies = wraps.takes here.state (here.number + 1) text answer flow replies
  served_by TooLong here text answer flow replies = (run.Finish replies.0, (replies.0, refl, wraps.stops here.state (here.number + 1) _ answer replies.0 replies.2), replies.1)
  served_by TooMuch here text answer flow replies = (run.Finish replies.0, (replies.0, refl, wraps.stops here.state (here.number + 1) _ answer replies.0 replies.2), replies.1)

  pub served : (here : Here C) (lines : List InputLine) (answer : List ℕ) (flow : Flow D) → Replies machine (at_phase here) lines answer flow → Within wrap (Replies phase here lines) answer flow
  served here [] answer flow replies = (run.Finish replies.0, (replies.0, refl, wraps.stops here.state (here.number + 1) _ answer replies.0 replies.2), replies.1)
  served here (line ∷ rest) answer flow replies =
      served_by (coming (phase.longest here.state) here.spare_capacity line) here line.text answer flow
      (subst (λ (longest : ℕ). RepliesTo machine (coming longest here.spare_capacity line) (at_phase here) line.text answer flow) (wraps.longest here.state) replies)

  -- lines are answered as the phase answers them, and it stands where the command stands
  pub served_lines : (here : Here C) (first : List InputLine) (said : List ℕ) (there : Here D) → Answers machine (at_phase here) first said there → (inner : Here C) × (there ≡ at_phase inner) × Answers phase here first said inner
  served_lines here [] said there so_far = (here, sym so_far.1, (so_far.0, refl))
  served_lines here (line ∷ first) said there so_far =
      let inner = served here (line ∷ first) so_far.0 (run.Continue so_far.2) so_far.3 in
      let goes = wrapped_goes wrap inner.0 so_far.2 inner.2 in
      let later : Answers machine (at_phase (after_line here line goes.0)) first so_far.1 there = subst (λ (s : D). Answers machine (after_line (at_phase here) line s) first so_far.1 there) goes.2 so_far.5 in
      let on = served_lines (after_line here line goes.0) first so_far.1 there later in
      let reply : Replies phase here (line ∷ first) so_far.0 (run.Continue goes.0) = subst (λ (o : Flow C). Replies phase here (line ∷ first) so_far.0 o) goes.1 inner.1 in
      (on.0, on.1, (so_far.0, so_far.1, goes.0, reply, so_far.4, on.2))

  -- so a run from a wrapped state is a run of the phase
  pub served_run : (here : Here C) (lines : List InputLine) (put : List ℕ) (end : End) → Run machine (at_phase here) lines put end → Run phase here lines put end
  served_run here lines put end one =
      let served_first = served_lines here one.first one.said one.there one.answers in
      let p : Replies machine (at_phase served_first.0) one.rest one.last (run.Finish end) = subst (λ (h : Here D). Replies machine h one.rest one.last (run.Finish end)) served_first.1 one.ends in
      let inner = served served_first.0 one.rest one.last (run.Finish end) p in
      let ends : Replies phase served_first.0 one.rest one.last (run.Finish end) = subst (λ (o : Flow C). Replies phase served_first.0 one.rest one.last o) (wrapped_ends wrap inner.0 end inner.2) inner.1 in
      record { first = one.first; rest = one.rest; said = one.said; there = served_first.0; last = one.last; divided = one.divided; answers = served_first.2; ends = ends; all = one.all }
