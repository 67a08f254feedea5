-- A run of a command that reads a text and answers once, from what its reading comes to; and the reading of a text with a test of its value.
use Rattle.std.proofs.Common.{◌≡◌, ℕ, ◌+◌, ◌-◌, List, [], ◌∷◌, Result, Ok, Err, refl, sym, ap, subst}
use Rattle.texts.specs.Lines.{InputLine, input_lines, line_size}
use Rattle.plan_port.specs.Lines.{Coming, Comes, TooLong, TooMuch, coming}
use Rattle.command_engine.specs.AnswersOnce.{AnswersOutcome, RepliesToStep, answers_once_machine}
use Rattle.command_engine.specs.Machine.{Machine}
use Rattle.command_engine.specs.Readers.{Reader, Refusing, Outcome, Given, Faulty, outcome_by, reading}
use Rattle.command_engine.specs.Runs.{Here, begins, after_line, Replies, RepliesTo, Run, Runs}
use Rattle.command_engine.specs.TestedTexts.{step_by, step_tested, tested_reader}
use Rattle.command_engine.specs.declared.questions.AnswersOnce.{AnswersOnce}
use Rattle.command_engine.specs.declared.endings.End.{End}
use Rattle.command_engine.specs.declared.machines.Flow.{Flow}
use Rattle.command_engine.specs.declared.machines.Flow.TheVariants as run
use Rattle.command_engine.specs.declared.line_texts.Parse.{Parse}
use Rattle.command_engine.specs.declared.line_texts.Parse.TheVariants.{Continue, Parsed, Refused}
use Rattle.command_engine.specs.declared.tested_texts.Tested.{Tested}
use Rattle.command_engine.proofs.AnswersOnceLemmas.{at}

-- ---- runs
module _ {Q S V F : Type 0} (answers : Q → V → ℕ → List ℕ → End → Type 0) (reader : Reader S V F) (refusing : Refusing F) where
  abbrev machine : Machine (AnswersOnce Q S)
  machine = answers_once_machine answers reader refusing

  abbrev place : Q → Here S → Here (AnswersOnce Q S)
  place question here = at answers reader refusing question here

  -- the reply to what comes ends the run
  last_alone : (question : Q) (here : Here S) (lines : List InputLine) (put : List ℕ) (end : End) → Replies machine (place question here) lines put (run.Finish end) → Run machine (place question here) lines put end
  last_alone question here lines put end ends =
      record { first = []; rest = lines; said = []; there = place question here; last = put; divided = refl; answers = (refl, refl); ends = ends; all = refl }

  module _ (question : Q) (here : Here S) (line : InputLine) (lines : List InputLine) (put : List ℕ) (end : End) where
    -- the reply to the next line, by what comes of it and what it brings
    reply : (step : Parse S V F) (answer : List ℕ) (flow : Flow (AnswersOnce Q S)) → coming (reader.longest here.state) here.spare_capacity line ≡ Comes → reader.reads here.state (here.number + 1) line.text ≡ step
        → RepliesToStep answers reader refusing question (here.number + 1) step answer flow → Replies machine (place question here) (line ∷ lines) answer flow
    reply step answer flow comes reads replies =
        subst (λ (how : Coming). RepliesTo machine how (place question here) line.text answer flow) (sym comes)
        (subst (λ (s : Parse S V F). RepliesToStep answers reader refusing question (here.number + 1) s answer flow) (sym reads) replies)

    -- a line of the text, after which the run goes on
    one_more : (text : S) → coming (reader.longest here.state) here.spare_capacity line ≡ Comes → reader.reads here.state (here.number + 1) line.text ≡ Continue text
        → Run machine (place question (after_line here line text)) lines put end → Run machine (place question here) (line ∷ lines) put end
    one_more text comes reads on = record {
      first = line ∷ on.first;
      rest = on.rest;
      said = on.said;
      there = on.there;
      last = on.last;
      divided = ap (λ (ls : List InputLine). line ∷ ls) on.divided;
      answers = ([], on.said, record { question = question; text = text }, reply (Continue text) [] (run.Continue (record { question = question; text = text })) comes reads (refl, refl), refl, on.answers);
      ends = on.ends;
      all = on.all;
    }

    abbrev others : S → Outcome V F
    others state = reading reader (after_line here line state) lines

    step_run : (step : Parse S V F) → coming (reader.longest here.state) here.spare_capacity line ≡ Comes → reader.reads here.state (here.number + 1) line.text ≡ step
        → ((text : S) → AnswersOutcome answers reader refusing question (others text) put end → Run machine (place question (after_line here line text)) lines put end)
        → AnswersOutcome answers reader refusing question (outcome_by reader Comes step here line lines others) put end → Run machine (place question here) (line ∷ lines) put end
    step_run (Continue text) comes reads on answered = one_more text comes reads (on text answered)
    step_run (Parsed value) comes reads on answered =
        last_alone question here (line ∷ lines) put end (reply (Parsed value) put (run.Finish end) comes reads (end, refl, answered))
    step_run (Refused fault) comes reads on answered =
        last_alone question here (line ∷ lines) put end (reply (Refused fault) put (run.Finish end) comes reads (answered.0, ap (λ (e : End). run.Finish e) answered.1))

    line_run : (how : Coming) → coming (reader.longest here.state) here.spare_capacity line ≡ how
        → ((text : S) → AnswersOutcome answers reader refusing question (others text) put end → Run machine (place question (after_line here line text)) lines put end)
        → AnswersOutcome answers reader refusing question (outcome_by reader how (reader.reads here.state (here.number + 1) line.text) here line lines others) put end → Run machine (place question here) (line ∷ lines) put end
    line_run Comes comes on answered = step_run (reader.reads here.state (here.number + 1) line.text) comes refl on answered
    line_run TooLong comes on answered =
        last_alone question here (line ∷ lines) put end (subst (λ (how : Coming). RepliesTo machine how (place question here) line.text put (run.Finish end)) (sym comes) (end, refl, answered))
    line_run TooMuch comes on answered =
        last_alone question here (line ∷ lines) put end (subst (λ (how : Coming). RepliesTo machine how (place question here) line.text put (run.Finish end)) (sym comes) (end, refl, answered))

  -- what answers what the reading of the lines comes to is put by a run over them
  run_by : (question : Q) (here : Here S) (lines : List InputLine) (put : List ℕ) (end : End) → AnswersOutcome answers reader refusing question (reading reader here lines) put end → Run machine (place question here) lines put end
  run_by question here [] put end answered = last_alone question here [] put end (end, refl, answered)
  run_by question here (line ∷ lines) put end answered =
      line_run question here line lines put end (coming (reader.longest here.state) here.spare_capacity line) refl (λ text said. run_by question (after_line here line text) lines put end said) answered

  pub run_answers : (question : Q) (text : S) (input put : List ℕ) (end : End) → AnswersOutcome answers reader refusing question (reading reader (begins text) (input_lines input)) put end
      → Runs machine (record { question = question; text = text }) input put end
  run_answers question text input put end answered = run_by question (begins text) (input_lines input) put end answered

-- ---- a text with a test

-- what comes of a value that was given, by its test
abbrev pub given_by : {W F : Type 0} → Result W F → (number spare_capacity : ℕ) → List InputLine → Outcome W F
given_by (Ok other) number spare_capacity rest = Given other number spare_capacity rest
given_by (Err fault) number spare_capacity rest = Faulty fault

module _ {S Q V W F : Type 0} (reader : Reader S V F) (tests : Q → V → ℕ → Result W F) (test : Q) where
  -- what the reading comes to, by what that of the text does
  abbrev pub outcome_tested : Outcome V F → Outcome W F
  outcome_tested (Given value number spare_capacity rest) = given_by (tests test value number) number spare_capacity rest
  outcome_tested (Faulty fault) = Faulty fault

  abbrev with_test : Here S → Here (Tested S Q)
  with_test here = record { state = record { text = here.state; test = test }; number = here.number; spare_capacity = here.spare_capacity }

  abbrev tested : Reader (Tested S Q) W F
  tested = tested_reader reader tests

  module _ (here : Here S) (line : InputLine) (lines : List InputLine) where
    abbrev after : Tested S Q → Outcome W F
    after state = reading tested (after_line (with_test here) line state) lines

    abbrev plainly : S → Outcome V F
    plainly state = reading reader (after_line here line state) lines

    given_so : (made : Result W F) → outcome_by tested Comes (step_by reader tests made) (with_test here) line lines after ≡ given_by made (here.number + 1) (here.spare_capacity - line_size line) lines
    given_so (Ok other) = refl
    given_so (Err fault) = refl

    step_so : (step : Parse S V F) → ((text : S) → after (record { text = text; test = test }) ≡ outcome_tested (plainly text))
        → outcome_by tested Comes (step_tested reader tests test (here.number + 1) step) (with_test here) line lines after ≡ outcome_tested (outcome_by reader Comes step here line lines plainly)
    step_so (Continue text) on = on text
    step_so (Parsed value) on = given_so (tests test value (here.number + 1))
    step_so (Refused fault) on = refl

    line_so : (how : Coming) → ((text : S) → after (record { text = text; test = test }) ≡ outcome_tested (plainly text))
        → outcome_by tested how (step_tested reader tests test (here.number + 1) (reader.reads here.state (here.number + 1) line.text)) (with_test here) line lines after
        ≡ outcome_tested (outcome_by reader how (reader.reads here.state (here.number + 1) line.text) here line lines plainly)
    line_so Comes on = step_so (reader.reads here.state (here.number + 1) line.text) on
    line_so TooLong on = refl
    line_so TooMuch on = refl

  pub reading_tested : (here : Here S) (lines : List InputLine) → reading tested (with_test here) lines ≡ outcome_tested (reading reader here lines)
  reading_tested here [] = refl
  reading_tested here (line ∷ lines) =
      line_so here line lines (coming (reader.longest here.state) here.spare_capacity line) (λ text. reading_tested (after_line here line text) lines)
