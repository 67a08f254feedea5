-- A run of a text and then a phase is the reading of the text, and then a run of the phase over the lines that are left.
use Rattle.std.proofs.Common.{◌≡◌, ◌⊎◌, inl, inr, ℕ, ◌+◌, ◌-◌, List, [], ◌∷◌, ◌++◌, refl, sym, ap, subst, ◌∙◌, append_assoc, append-nil}
use Rattle.texts.specs.Lines.{InputLine, line_size}
use Rattle.plan_port.specs.Lines.{Coming, Comes, TooLong, TooMuch, coming}
use Rattle.plan_port.specs.Talk.{Piece}
use Rattle.command_engine.specs.Machine.{Machine}
use Rattle.command_engine.specs.Runs.{Here, begins, after_line, Stops, RepliesTo, Replies, Answers, Run}
use Rattle.command_engine.specs.Breaks.{BreaksForMemory}
use Rattle.command_engine.specs.Readers.{Reader, Refusing, Outcome, Given, Faulty, outcome_by, reading}
use Rattle.command_engine.specs.Single.{IsSingle, IsSingleAnswer}
use Rattle.command_engine.specs.Phases.{Within, wrapped, WantsNone, RepliesToStep, text_then_phase_machine, FollowsOutcome}
use Rattle.command_engine.specs.declared.endings.End.{End}
use Rattle.command_engine.specs.declared.machines.Flow.{Flow}
use Rattle.command_engine.specs.declared.machines.Flow.TheVariants as run
use Rattle.command_engine.specs.declared.machines.Stop.{Stop}
use Rattle.command_engine.specs.declared.machines.Stop.TheVariants.{LineTooLong, InputTooMuch, InputEnded}
use Rattle.command_engine.specs.declared.line_texts.Parse.{Parse}
use Rattle.command_engine.specs.declared.line_texts.Parse.TheVariants.{Continue, Parsed, Refused}
use Rattle.command_engine.specs.declared.phases.TextThenPhase.{TextThenPhase}
use Rattle.command_engine.specs.declared.phases.TextThenPhase.TheVariants.{Reading, Serving}
use Rattle.command_engine.proofs.WrapLemmas.{Wraps, wrapped_ends, wrapped_goes, at_phase, served_lines, served_run}

-- a reply within another is single if the inner one is
pub within_same : {C D : Type 0} (wrap : C → D) (Inner : List ℕ → Flow C → Type 0) → ((a b : List ℕ) (x y : Flow C) → Inner a x → Inner b y → (a ≡ b) × (x ≡ y)) →
    (a b : List ℕ) (x y : Flow D) → Within wrap Inner a x → Within wrap Inner b y → (a ≡ b) × (x ≡ y)
within_same wrap Inner single a b x y one other =
    let same = single a b one.0 other.0 one.1 other.1 in (same.0, one.2 ∙ ap (wrapped wrap) same.1 ∙ sym other.2)

module _ {B S V F P : Type 0} (begin : B → V → List ℕ → Flow P → Type 0) (reader : Reader S V F) (refusing : Refusing F) (phase : Machine P) where
  abbrev machine : Machine (TextThenPhase B S P)
  machine = text_then_phase_machine begin reader refusing phase

  -- the places of the command at those of its text and of its phase
  abbrev pub at_text : B → Here S → Here (TextThenPhase B S P)
  at_text start here = record { state = Reading start here.state; number = here.number; spare_capacity = here.spare_capacity }

  abbrev Follows : B → Outcome V F → List ℕ → End → Type 0
  Follows start outcome put end = FollowsOutcome begin reader refusing phase start outcome put end

  -- the phase, once it serves
  pub wraps_phase : Wraps phase machine Serving
  wraps_phase = record {
    longest = λ state. refl;
    takes = λ state number line answer flow replies. replies;
    stops = λ state number stop answer end stops. stops;
  }

  -- the last reply while the text is read
  stops_by : (start : B) (here : Here S) (stop : Stop) (last : List ℕ) (end : End) → Stops machine (at_text start here) stop last (run.Finish end) → Follows start (Faulty (reader.stops here.state (here.number + 1) stop)) last end
  stops_by start here stop last end ends = (ends.2.0, let same : end ≡ ends.0 = cc (ends.1) in same ∙ ends.2.1)

  ends_by_step : (start : B) (here : Here S) (line : InputLine) (lines : List InputLine) (step : Parse S V F) (others : S → Outcome V F) (last : List ℕ) (end : End)
      → RepliesToStep begin reader refusing phase start step last (run.Finish end) → Follows start (outcome_by reader Comes step here line lines others) last end
  ends_by_step start here line lines (Continue text) others last end ends = absurd (cc (ends.1))
  ends_by_step start here line lines (Parsed value) others last end ends =
      let inner = wrapped_ends Serving ends.0 end ends.2 in
      (last, [], run.Finish end, subst (λ (o : Flow P). begin start value last o) inner ends.1, sym (append-nil last), (refl, refl))
  ends_by_step start here line lines (Refused fault) others last end ends = (ends.0, cc (ends.1))

  ends_by : (how : Coming) (start : B) (here : Here S) (line : InputLine) (lines : List InputLine) (others : S → Outcome V F) (last : List ℕ) (end : End) → RepliesTo machine how (at_text start here) line.text last (run.Finish end)
      → Follows start (outcome_by reader how (reader.reads here.state (here.number + 1) line.text) here line lines others) last end
  ends_by Comes start here line lines others last end ends =
      ends_by_step start here line lines (reader.reads here.state (here.number + 1) line.text) others last end ends
  ends_by TooLong start here line lines others last end ends = stops_by start here LineTooLong last end ends
  ends_by TooMuch start here line lines others last end ends = stops_by start here InputTooMuch last end ends

  ends : (start : B) (here : Here S) (rest : List InputLine) (last : List ℕ) (end : End) → Replies machine (at_text start here) rest last (run.Finish end) → Follows start (reading reader here rest) last end
  ends start here [] last end replies = stops_by start here InputEnded last end replies
  ends start here (line ∷ rest) last end replies =
      ends_by (coming (reader.longest here.state) here.spare_capacity line) start here line rest (λ state. reading reader (after_line here line state) rest) last end replies

  -- the outcome by a line that stands in the input
  abbrev pub outcome_here : Here S → InputLine → List InputLine → (S → Outcome V F) → Outcome V F
  outcome_here here line lines others = outcome_by reader (coming (reader.longest here.state) here.spare_capacity line) (reader.reads here.state (here.number + 1) line.text) here line lines others

  -- a reply after which the run goes on: the text goes on, or its value begins the phase
  pub record ReadsOn (start : B) (here : Here S) (line : InputLine) (answer : List ℕ) (state : TextThenPhase B S P) : Type 0 where
    pub text : S
    pub nothing : answer ≡ []
    pub so : state ≡ Reading start text
    pub reads : (lines : List InputLine) (others : S → Outcome V F) → outcome_here here line lines others ≡ others text

  pub record BeginsPhase (start : B) (here : Here S) (line : InputLine) (answer : List ℕ) (state : TextThenPhase B S P) : Type 0 where
    pub value : V
    pub served : P
    pub begins : begin start value answer (run.Continue served)
    pub so : state ≡ Serving served
    pub reads : (lines : List InputLine) (others : S → Outcome V F) → outcome_here here line lines others ≡ Given value (here.number + 1) (here.spare_capacity - line_size line) lines

  -- either of the two
  abbrev GoesWith : B → Here S → InputLine → List ℕ → TextThenPhase B S P → Type 0
  GoesWith start here line answer state = ReadsOn start here line answer state ⊎ BeginsPhase start here line answer state

  -- what a line that comes and brings this makes of a reading
  outcome_is : (here : Here S) (line : InputLine) (step : Parse S V F) → coming (reader.longest here.state) here.spare_capacity line ≡ Comes → reader.reads here.state (here.number + 1) line.text ≡ step →
      (lines : List InputLine) (others : S → Outcome V F) → outcome_here here line lines others ≡ outcome_by reader Comes step here line lines others
  outcome_is here line step comes reads lines others =
      subst (λ (how : Coming). outcome_by reader how (reader.reads here.state (here.number + 1) line.text) here line lines others ≡ outcome_by reader Comes step here line lines others) (sym comes)
      (subst (λ (one : Parse S V F). outcome_by reader Comes one here line lines others ≡ outcome_by reader Comes step here line lines others) (sym reads) refl)

  goes_by_step : (step : Parse S V F) (start : B) (here : Here S) (line : InputLine) (answer : List ℕ) (state : TextThenPhase B S P) → coming (reader.longest here.state) here.spare_capacity line ≡ Comes →
      reader.reads here.state (here.number + 1) line.text ≡ step → RepliesToStep begin reader refusing phase start step answer (run.Continue state) →
      GoesWith start here line answer state
  goes_by_step (Continue text) start here line answer state comes reads replies =
      inl (record { text = text; nothing = replies.0; so = cc (replies.1); reads = outcome_is here line (Continue text) comes reads })
  goes_by_step (Parsed value) start here line answer state comes reads replies =
      let goes = wrapped_goes Serving replies.0 state replies.2 in
      inr (record { value = value; served = goes.0; begins = subst (λ (o : Flow P). begin start value answer o) goes.1 replies.1; so = goes.2; reads = outcome_is here line (Parsed value) comes reads })
  goes_by_step (Refused fault) start here line answer state comes reads replies = absurd (cc (replies.1))

  goes_by : (how : Coming) (start : B) (here : Here S) (line : InputLine) (answer : List ℕ) (state : TextThenPhase B S P) → coming (reader.longest here.state) here.spare_capacity line ≡ how
      → RepliesTo machine how (at_text start here) line.text answer (run.Continue state) → GoesWith start here line answer state
  goes_by Comes start here line answer state is replies = goes_by_step (reader.reads here.state (here.number + 1) line.text) start here line answer state is refl replies
  goes_by TooLong start here line answer state is replies = absurd (cc (replies.1))
  goes_by TooMuch start here line answer state is replies = absurd (cc (replies.1))

  goes : (start : B) (here : Here S) (line : InputLine) (rest : List InputLine) (answer : List ℕ) (state : TextThenPhase B S P) → Replies machine (at_text start here) (line ∷ rest) answer (run.Continue state)
      → GoesWith start here line answer state
  goes start here line rest answer state replies = goes_by (coming (reader.longest here.state) here.spare_capacity line) start here line answer state refl replies

  -- ---- the lines that were answered so far
  -- the text is still read, and nothing was said
  pub record StillReads (start : B) (said : List ℕ) (there : Here (TextThenPhase B S P)) : Type 0 where
    pub text : Here S
    pub stands : there ≡ at_text start text
    pub nothing : said ≡ []

  -- or the text was read in the first of them, and the phase that began from its value has answered the others
  pub record StillServes (start : B) (here : Here S) (first rest : List InputLine) (said : List ℕ) (there : Here (TextThenPhase B S P)) : Type 0 where
    pub value : V
    pub number : ℕ
    pub spare_capacity : ℕ
    pub others : List InputLine
    pub reads : reading reader here (first ++ rest) ≡ Given value number spare_capacity (others ++ rest)
    pub answer : List ℕ
    pub served : P
    pub begins : begin start value answer (run.Continue served)
    pub more : List ℕ
    pub inner : Here P
    pub answers : Answers phase (record { state = served; number = number; spare_capacity = spare_capacity }) others more inner
    pub stands : there ≡ at_phase phase machine Serving wraps_phase inner
    pub all : said ≡ answer ++ more

  -- a run from a place is the reading from there
  abbrev RunsOn : B → Here S → List InputLine → List InputLine → List ℕ → List ℕ → Here (TextThenPhase B S P) → End → Type 0
  RunsOn start here first rest said last there end = Answers machine (at_text start here) first said there → Follows start (reading reader here (first ++ rest)) (said ++ last) end

  -- after one line that was answered, and more
  module _ (start : B) (here : Here S) (line : InputLine) (first : List InputLine) (said : List ℕ) (there : Here (TextThenPhase B S P)) (so_far : Answers machine (at_text start here) (line ∷ first) said there) where
    runs_by : (rest : List InputLine) (last : List ℕ) (end : End) → Replies machine there rest last (run.Finish end) → GoesWith start here line so_far.0 so_far.2 →
        ((text : S) → RunsOn start (after_line here line text) first rest so_far.1 last there end) →
        Follows start (reading reader here ((line ∷ first) ++ rest)) (said ++ last) end
    runs_by rest last end replies (inl on) later =
        let next = after_line here line on.text in
        let follows = later on.text (subst (λ (s : TextThenPhase B S P). Answers machine (after_line (at_text start here) line s) first so_far.1 there) on.so so_far.5) in
        let said_is : said ≡ so_far.1 = so_far.4 ∙ ap (λ (s : List ℕ). s ++ so_far.1) on.nothing in
        subst (λ (o : Outcome V F). Follows start o (said ++ last) end) (sym (on.reads (first ++ rest) (λ state. reading reader (after_line here line state) (first ++ rest))))
        (subst (λ (s : List ℕ). Follows start (reading reader next (first ++ rest)) (s ++ last) end) (sym said_is) follows)
    runs_by rest last end replies (inr on) later =
        let next : Here P = record { state = on.served; number = here.number + 1; spare_capacity = here.spare_capacity - line_size line } in
        let served : Answers machine (at_phase phase machine Serving wraps_phase next) first so_far.1 there =
        subst (λ (s : TextThenPhase B S P). Answers machine (after_line (at_text start here) line s) first so_far.1 there) on.so so_far.5 in
        let follows : Follows start (Given on.value (here.number + 1) (here.spare_capacity - line_size line) (first ++ rest)) (said ++ last) end = (
          so_far.0,
          so_far.1 ++ last,
          run.Continue on.served,
          on.begins,
          ap (λ (s : List ℕ). s ++ last) so_far.4 ∙ append_assoc so_far.0 so_far.1 last,
          served_run phase machine Serving wraps_phase next (first ++ rest) (so_far.1 ++ last) end
              (record { first = first; rest = rest; said = so_far.1; there = there; last = last; divided = refl; answers = served; ends = replies; all = refl }),
        ) in
        subst (λ (o : Outcome V F). Follows start o (said ++ last) end) (sym (on.reads (first ++ rest) (λ state. reading reader (after_line here line state) (first ++ rest)))) follows

    answered_by : (rest : List InputLine) → GoesWith start here line so_far.0 so_far.2
        → ((text : S) → Answers machine (at_text start (after_line here line text)) first so_far.1 there → StillReads start so_far.1 there ⊎ StillServes start (after_line here line text) first rest so_far.1 there)
        → StillReads start said there ⊎ StillServes start here (line ∷ first) rest said there
    answered_by rest (inl on) later = by (later on.text (subst (λ (s : TextThenPhase B S P). Answers machine (after_line (at_text start here) line s) first so_far.1 there) on.so so_far.5))
      where
        all : said ≡ so_far.1
        all = so_far.4 ∙ ap (λ (s : List ℕ). s ++ so_far.1) on.nothing

        by : StillReads start so_far.1 there ⊎ StillServes start (after_line here line on.text) first rest so_far.1 there → StillReads start said there ⊎ StillServes start here (line ∷ first) rest said there
        by (inl one) = inl (record { text = one.text; stands = one.stands; nothing = all ∙ one.nothing })
        by (inr one) = inr (record {
          value = one.value;
          number = one.number;
          spare_capacity = one.spare_capacity;
          others = one.others;
          reads = on.reads (first ++ rest) (λ state. reading reader (after_line here line state) (first ++ rest)) ∙ one.reads;
          answer = one.answer;
          served = one.served;
          begins = one.begins;
          more = one.more;
          inner = one.inner;
          answers = one.answers;
          stands = one.stands;
          all = all ∙ one.all;
        })
    answered_by rest (inr on) later =
        let next : Here P = record { state = on.served; number = here.number + 1; spare_capacity = here.spare_capacity - line_size line } in
        let served = served_lines phase machine Serving wraps_phase next first so_far.1 there (subst (λ (s : TextThenPhase B S P). Answers machine (after_line (at_text start here) line s) first so_far.1 there) on.so so_far.5) in
        inr (record {
          value = on.value;
          number = here.number + 1;
          spare_capacity = here.spare_capacity - line_size line;
          others = first;
          reads = on.reads (first ++ rest) (λ state. reading reader (after_line here line state) (first ++ rest));
          answer = so_far.0;
          served = on.served;
          begins = on.begins;
          more = so_far.1;
          inner = served.0;
          answers = served.2;
          stands = served.1;
          all = so_far.4;
        })

    quiet_by : WantsNone phase → machine.may_want there.state → GoesWith start here line so_far.0 so_far.2 →
        ((text : S) → Answers machine (at_text start (after_line here line text)) first so_far.1 there → so_far.1 ≡ []) → said ≡ []
    quiet_by none wants (inl on) later =
        let nothing : so_far.1 ≡ [] = later on.text (subst (λ (s : TextThenPhase B S P). Answers machine (after_line (at_text start here) line s) first so_far.1 there) on.so so_far.5) in
        so_far.4 ∙ ap (λ (s : List ℕ). s ++ so_far.1) on.nothing ∙ nothing
    quiet_by none wants (inr on) later =
        let next : Here P = record { state = on.served; number = here.number + 1; spare_capacity = here.spare_capacity - line_size line } in
        let served = served_lines phase machine Serving wraps_phase next first so_far.1 there (subst (λ (s : TextThenPhase B S P). Answers machine (after_line (at_text start here) line s) first so_far.1 there) on.so so_far.5) in
        absurd (none served.0.state (subst (λ (h : Here (TextThenPhase B S P)). machine.may_want h.state) served.1 wants))

  runs_on : (start : B) (here : Here S) (first rest : List InputLine) (said last : List ℕ) (there : Here (TextThenPhase B S P)) (end : End) → Answers machine (at_text start here) first said there
      → Replies machine there rest last (run.Finish end) → Follows start (reading reader here (first ++ rest)) (said ++ last) end
  runs_on start here [] rest said last there end so_far replies =
      let p : Replies machine (at_text start here) rest last (run.Finish end) = subst (λ (h : Here (TextThenPhase B S P)). Replies machine h rest last (run.Finish end)) (sym so_far.1) replies in
      subst (λ (s : List ℕ). Follows start (reading reader here rest) (s ++ last) end) (sym so_far.0) (ends start here rest last end p)
  runs_on start here (line ∷ first) rest said last there end so_far replies =
      runs_by start here line first said there so_far rest last end replies (goes start here line first so_far.0 so_far.2 so_far.3)
      (λ text later. runs_on start (after_line here line text) first rest so_far.1 last there end later replies)

  -- a run is the reading of the text, and then the phase that begins from what it says
  pub run_is : (start : B) (here : Here S) (lines : List InputLine) (put : List ℕ) (end : End) → Run machine (at_text start here) lines put end → FollowsOutcome begin reader refusing phase start (reading reader here lines) put end
  run_is start here lines put end one =
      subst (λ (ls : List InputLine). Follows start (reading reader here ls) put end) (sym one.divided)
      (subst (λ (p : List ℕ). Follows start (reading reader here (one.first ++ one.rest)) p end) (sym one.all)
      (runs_on start here one.first one.rest one.said one.last one.there end one.answers one.ends))

  -- where a run stands after lines that were answered
  pub answered_so : (start : B) (here : Here S) (first rest : List InputLine) (said : List ℕ) (there : Here (TextThenPhase B S P)) → Answers machine (at_text start here) first said there
      → StillReads start said there ⊎ StillServes start here first rest said there
  answered_so start here [] rest said there so_far = inl (record { text = here; stands = sym so_far.1; nothing = so_far.0 })
  answered_so start here (line ∷ first) rest said there so_far =
      answered_by start here line first said there so_far rest (goes start here line first so_far.0 so_far.2 so_far.3)
      (λ text later. answered_so start (after_line here line text) first rest so_far.1 there later)

  -- while memory may be wanted nothing is said, if the phase wants none
  quiet : (start : B) (here : Here S) (first : List InputLine) (said : List ℕ) (there : Here (TextThenPhase B S P)) → WantsNone phase → machine.may_want there.state → Answers machine (at_text start here) first said there → said ≡ []
  quiet start here [] said there none wants so_far = so_far.0
  quiet start here (line ∷ first) said there none wants so_far =
      quiet_by start here line first said there so_far none wants (goes start here line first so_far.0 so_far.2 so_far.3)
      (λ text later. quiet start (after_line here line text) first so_far.1 there none wants later)

  -- if the phase wants no memory, a run that breaks off for want of it has put nothing
  pub wants_while_reading : WantsNone phase → (start : B) (text : S) (input untaken put : List ℕ) (pieces : List Piece) → BreaksForMemory machine (Reading start text) input untaken put pieces → put ≡ []
  wants_while_reading none start text input untaken put pieces (inl wants) = quiet start (begins text) wants.first put wants.there none wants.may_want wants.answers
  wants_while_reading none start text input untaken put pieces (inr nothing) = nothing.1

  -- at most one reply
  takes_same : (start : B) (step : Parse S V F) (a b : List ℕ) (x y : Flow (TextThenPhase B S P)) → IsSingleAnswer begin → RepliesToStep begin reader refusing phase start step a x → RepliesToStep begin reader refusing phase start step b y
      → (a ≡ b) × (x ≡ y)
  takes_same start (Continue text) a b x y single one other = (cc, cc)
  takes_same start (Parsed value) a b x y single one other = within_same Serving (begin start value) (single start value) a b x y one other
  takes_same start (Refused fault) a b x y single one other = (cc, cc)

  state_takes_same : (state : TextThenPhase B S P) (number : ℕ) (line a b : List ℕ) (x y : Flow (TextThenPhase B S P)) → IsSingleAnswer begin → IsSingle phase → machine.takes state number line a x → machine.takes state number line b y
      → (a ≡ b) × (x ≡ y)
  state_takes_same (Reading start text) number line a b x y begins single one other = takes_same start (reader.reads text number line) a b x y begins one other
  state_takes_same (Serving state) number line a b x y begins single one other = within_same Serving (phase.takes state number line) (single.takes state number line) a b x y one other

  state_stops_same : (state : TextThenPhase B S P) (number : ℕ) (stop : Stop) (a b : List ℕ) (x y : End) → IsSingle phase → machine.stops state number stop a x → machine.stops state number stop b y → (a ≡ b) × (x ≡ y)
  state_stops_same (Reading start text) number stop a b x y single one other = (one.0 ∙ sym other.0, one.1 ∙ sym other.1)
  state_stops_same (Serving state) number stop a b x y single one other = single.stops state number stop a b x y one other

  pub text_then_phase_single : IsSingleAnswer begin → IsSingle phase → IsSingle machine
  text_then_phase_single begins single = record {
    takes = λ state number line a b x y one other. state_takes_same state number line a b x y begins single one other;
    stops = λ state number stop a b x y one other. state_stops_same state number stop a b x y single one other;
  }
