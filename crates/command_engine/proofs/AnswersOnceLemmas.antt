-- A run of a command that reads a text puts the answer to what the reading came to.
use Rattle.std.proofs.Common.{◌≡◌, inl, inr, ℕ, ◌+◌, List, [], ◌∷◌, ◌++◌, refl, sym, ap, subst, ◌∙◌}
use Rattle.texts.specs.Lines.{InputLine, input_lines}
use Rattle.plan_port.specs.Lines.{Coming, Comes, TooLong, TooMuch, coming}
use Rattle.plan_port.specs.Talk.{Piece}
use Rattle.command_engine.specs.Breaks.{BreaksForMemory}
use Rattle.command_engine.specs.Machine.{Machine}
use Rattle.command_engine.specs.Runs.{Here, begins, after_line, Stops, RepliesTo, Replies, Answers, Run, Runs}
use Rattle.command_engine.specs.Readers.{Reader, Refusing, Outcome, Faulty, outcome_by, reading}
use Rattle.command_engine.specs.AnswersOnce.{RepliesToStep, answers_once_machine, AnswersOutcome}
use Rattle.command_engine.specs.Single.{IsSingle, IsSingleAtLine}
use Rattle.command_engine.specs.declared.endings.End.{End}
use Rattle.command_engine.specs.declared.machines.Flow.{Flow}
use Rattle.command_engine.specs.declared.machines.Flow.TheVariants as run
use Rattle.command_engine.specs.declared.machines.Stop.{Stop}
use Rattle.command_engine.specs.declared.machines.Stop.TheVariants.{LineTooLong, InputTooMuch, InputEnded}
use Rattle.command_engine.specs.declared.line_texts.Parse.{Parse}
use Rattle.command_engine.specs.declared.line_texts.Parse.TheVariants.{Continue, Parsed, Refused}
use Rattle.command_engine.specs.declared.questions.AnswersOnce.{AnswersOnce}

module _ {Q S V F : Type 0} (answers : Q → V → ℕ → List ℕ → End → Type 0) (reader : Reader S V F) (refusing : Refusing F) where
  abbrev machine : Machine (AnswersOnce Q S)
  machine = answers_once_machine answers reader refusing

  -- the place of a command at that of its text
  abbrev pub at : Q → Here S → Here (AnswersOnce Q S)
  at question here = record { state = record { question = question; text = here.state }; number = here.number; spare_capacity = here.spare_capacity }

  -- the last reply
  stops_by : (question : Q) (here : Here S) (stop : Stop) (last : List ℕ) (end : End) → Stops machine (at question here) stop last (run.Finish end)
      → AnswersOutcome answers reader refusing question (Faulty (reader.stops here.state (here.number + 1) stop)) last end
  stops_by question here stop last end ends = (ends.2.0, let same : end ≡ ends.0 = cc (ends.1) in same ∙ ends.2.1)

  ends_by_step : (question : Q) (here : Here S) (line : InputLine) (lines : List InputLine) (step : Parse S V F) (others : S → Outcome V F) (last : List ℕ) (end : End)
      → RepliesToStep answers reader refusing question (here.number + 1) step last (run.Finish end) → AnswersOutcome answers reader refusing question (outcome_by reader Comes step here line lines others) last end
  ends_by_step question here line lines (Continue text) others last end ends = absurd (cc (ends.1))
  ends_by_step question here line lines (Parsed value) others last end ends =
      let same : ends.0 ≡ end = cc (ends.1) in subst (λ (e : End). answers question value (here.number + 1) last e) same ends.2
  ends_by_step question here line lines (Refused fault) others last end ends = (ends.0, cc (ends.1))

  ends_by : (how : Coming) (question : Q) (here : Here S) (line : InputLine) (lines : List InputLine) (others : S → Outcome V F) (last : List ℕ) (end : End) → RepliesTo machine how (at question here) line.text last (run.Finish end)
      → AnswersOutcome answers reader refusing question (outcome_by reader how (reader.reads here.state (here.number + 1) line.text) here line lines others) last end
  ends_by Comes question here line lines others last end ends =
      ends_by_step question here line lines (reader.reads here.state (here.number + 1) line.text) others last end ends
  ends_by TooLong question here line lines others last end ends = stops_by question here LineTooLong last end ends
  ends_by TooMuch question here line lines others last end ends = stops_by question here InputTooMuch last end ends

  ends : (question : Q) (here : Here S) (rest : List InputLine) (last : List ℕ) (end : End) → Replies machine (at question here) rest last (run.Finish end)
      → AnswersOutcome answers reader refusing question (reading reader here rest) last end
  ends question here [] last end replies = stops_by question here InputEnded last end replies
  ends question here (line ∷ rest) last end replies =
      ends_by (coming (reader.longest here.state) here.spare_capacity line) question here line rest (λ state. reading reader (after_line here line state) rest) last end replies

  -- a reply after which the run goes on: the text goes on
  pub record GoesBy (question : Q) (here : Here S) (line : InputLine) (answer : List ℕ) (state : AnswersOnce Q S) : Type 0 where
    pub text : S
    pub nothing : answer ≡ []
    pub so : state ≡ record { question = question; text = text }
    pub reads : (lines : List InputLine) (others : S → Outcome V F) → outcome_by reader (coming (reader.longest here.state) here.spare_capacity line) (reader.reads here.state (here.number + 1) line.text) here line lines others ≡ others text

  goes_by_step : (step : Parse S V F) (question : Q) (here : Here S) (line : InputLine) (answer : List ℕ) (state : AnswersOnce Q S) → coming (reader.longest here.state) here.spare_capacity line ≡ Comes
      → reader.reads here.state (here.number + 1) line.text ≡ step → RepliesToStep answers reader refusing question (here.number + 1) step answer (run.Continue state) → GoesBy question here line answer state
  goes_by_step (Continue text) question here line answer state comes reads replies = record {
    text = text;
    nothing = replies.0;
    so = cc (replies.1);
    reads = λ lines others. subst (λ (how : Coming). outcome_by reader how (reader.reads here.state (here.number + 1) line.text) here line lines others ≡ others text) (sym comes)
        (subst (λ (step : Parse S V F). outcome_by reader Comes step here line lines others ≡ others text) (sym reads) refl);
  }
  goes_by_step (Parsed value) question here line answer state comes reads replies = absurd (cc (replies.1))
  goes_by_step (Refused fault) question here line answer state comes reads replies = absurd (cc (replies.1))

  goes_by : (how : Coming) (question : Q) (here : Here S) (line : InputLine) (answer : List ℕ) (state : AnswersOnce Q S) → coming (reader.longest here.state) here.spare_capacity line ≡ how
      → RepliesTo machine how (at question here) line.text answer (run.Continue state) → GoesBy question here line answer state
  goes_by Comes question here line answer state is replies = goes_by_step (reader.reads here.state (here.number + 1) line.text) question here line answer state is refl replies
  goes_by TooLong question here line answer state is replies = absurd (cc (replies.1))
  goes_by TooMuch question here line answer state is replies = absurd (cc (replies.1))

  runs_on : (question : Q) (here : Here S) (first rest : List InputLine) (said last : List ℕ) (there : Here (AnswersOnce Q S)) (end : End) → Answers machine (at question here) first said there
      → Replies machine there rest last (run.Finish end) → AnswersOutcome answers reader refusing question (reading reader here (first ++ rest)) (said ++ last) end
  runs_on question here [] rest said last there end so_far replies =
      let p : Replies machine (at question here) rest last (run.Finish end) = subst (λ (h : Here (AnswersOnce Q S)). Replies machine h rest last (run.Finish end)) (sym so_far.1) replies in
      subst (λ (s : List ℕ). AnswersOutcome answers reader refusing question (reading reader here rest) (s ++ last) end) (sym so_far.0) (ends question here rest last end p)
  runs_on question here (line ∷ first) rest said last there end so_far replies =
      let goes = goes_by (coming (reader.longest here.state) here.spare_capacity line) question here line so_far.0 so_far.2 refl so_far.3 in
      let next = after_line here line goes.text in
      let later : Answers machine (at question next) first so_far.1 there = subst (λ (s : AnswersOnce Q S). Answers machine (after_line (at question here) line s) first so_far.1 there) goes.so so_far.5 in
      let on = runs_on question next first rest so_far.1 last there end later replies in
      let said_is : said ≡ so_far.1 = so_far.4 ∙ ap (λ (s : List ℕ). s ++ so_far.1) goes.nothing in
      subst (λ (o : Outcome V F). AnswersOutcome answers reader refusing question o (said ++ last) end) (sym (goes.reads (first ++ rest) (λ state. reading reader (after_line here line state) (first ++ rest))))
      (subst (λ (s : List ℕ). AnswersOutcome answers reader refusing question (reading reader next (first ++ rest)) (s ++ last) end) (sym said_is) on)

  -- a run puts the answer to what the reading of the lines came to
  pub run_is : (question : Q) (here : Here S) (lines : List InputLine) (put : List ℕ) (end : End) → Run machine (at question here) lines put end → AnswersOutcome answers reader refusing question (reading reader here lines) put end
  run_is question here lines put end one =
      subst (λ (ls : List InputLine). AnswersOutcome answers reader refusing question (reading reader here ls) put end) (sym one.divided)
      (subst (λ (p : List ℕ). AnswersOutcome answers reader refusing question (reading reader here (one.first ++ one.rest)) p end) (sym one.all)
      (runs_on question here one.first one.rest one.said one.last one.there end one.answers one.ends))

  pub runs_are : (question : Q) (text : S) (input put : List ℕ) (end : End) → Runs machine (record { question = question; text = text }) input put end
      → AnswersOutcome answers reader refusing question (reading reader (begins text) (input_lines input)) put end
  runs_are question text input put end one = run_is question (begins text) (input_lines input) put end one

  -- nothing is said before the answer
  quiet : (question : Q) (here : Here S) (first : List InputLine) (said : List ℕ) (there : Here (AnswersOnce Q S)) → Answers machine (at question here) first said there → said ≡ []
  quiet question here [] said there so_far = so_far.0
  quiet question here (line ∷ first) said there so_far =
      let goes = goes_by (coming (reader.longest here.state) here.spare_capacity line) question here line so_far.0 so_far.2 refl so_far.3 in
      let next = after_line here line goes.text in
      let later : Answers machine (at question next) first so_far.1 there = subst (λ (s : AnswersOnce Q S). Answers machine (after_line (at question here) line s) first so_far.1 there) goes.so so_far.5 in
      so_far.4 ∙ (ap (λ (s : List ℕ). s ++ so_far.1) goes.nothing ∙ quiet question next first so_far.1 there later)

  -- a run that breaks off for want of memory has put nothing
  pub wants_before_answer : (question : Q) (text : S) (input untaken put : List ℕ) (pieces : List Piece) → BreaksForMemory machine (record { question = question; text = text }) input untaken put pieces → put ≡ []
  wants_before_answer question text input untaken put pieces (inl wants) = quiet question (begins text) wants.first put wants.there wants.answers
  wants_before_answer question text input untaken put pieces (inr nothing) = nothing.1

  -- a command that answers once has at most one reply if its question has at most one answer
  takes_same : (question : Q) (number : ℕ) (step : Parse S V F) (a b : List ℕ) (x y : Flow (AnswersOnce Q S))
      → ((value : V) (number : ℕ) (a b : List ℕ) (x y : End) → answers question value number a x → answers question value number b y → (a ≡ b) × (x ≡ y)) → RepliesToStep answers reader refusing question number step a x
      → RepliesToStep answers reader refusing question number step b y → (a ≡ b) × (x ≡ y)
  takes_same question number (Continue text) a b x y single one other = (cc, cc)
  takes_same question number (Parsed value) a b x y single one other =
      let same = single value number a b one.0 other.0 one.2 other.2 in (same.0, one.1 ∙ ap (λ (e : End). run.Finish e) same.1 ∙ sym other.1)
  takes_same question number (Refused fault) a b x y single one other = (cc, cc)

  pub answers_once_single : IsSingleAtLine answers → IsSingle machine
  answers_once_single single = record {
    takes = λ state number line a b x y one other. takes_same state.question number (reader.reads state.text number line) a b x y (single state.question) one other;
    stops = λ state number stop a b x y one other. (one.0 ∙ sym other.0, one.1 ∙ sym other.1);
  }
