-- A run of a command that reads a text and then serves a phase, from what the reading comes to and a run of the phase.
use Rattle.std.proofs.Common.{◌≡◌, ℕ, ◌+◌, ◌-◌, ◌<◌, List, [], ◌∷◌, ◌++◌, length, refl, sym, ap, ◌∙◌, subst, arith, append_assoc, append-nil}
use Rattle.std.proofs.lemmas.List.{length-append}
use Rattle.texts.specs.Lines.{InputLine, line_size}
use Rattle.plan_port.specs.Lines.{Coming, Comes, TooLong, TooMuch, coming}
use Rattle.command_engine.specs.Machine.{Machine}
use Rattle.command_engine.specs.Phases.{FollowsOutcome, RepliesToStep, text_then_phase_machine, wrapped}
use Rattle.command_engine.specs.Readers.{Outcome, Given, Faulty, Reader, Refusing, outcome_by, reading}
use Rattle.command_engine.specs.Runs.{Answers, Here, Replies, RepliesTo, Run, Stops, after_line}
use Rattle.command_engine.specs.declared.endings.End.{End}
use Rattle.command_engine.specs.declared.machines.Flow.{Flow}
use Rattle.command_engine.specs.declared.machines.Flow.TheVariants as run
use Rattle.command_engine.specs.declared.machines.Stop.{Stop}
use Rattle.command_engine.specs.declared.machines.Stop.TheVariants.{InputTooMuch, LineTooLong}
use Rattle.command_engine.specs.declared.phases.TextThenPhase.{TextThenPhase}
use Rattle.command_engine.specs.declared.phases.TextThenPhase.TheVariants.{Reading, Serving}
use Rattle.command_engine.specs.declared.line_texts.Parse.{Parse}
use Rattle.command_engine.specs.declared.line_texts.Parse.TheVariants.{Continue, Parsed, Refused}
use Rattle.event_phase.proofs.ReplyLemmas.{Continues}

-- ---- a run from its first reply
module _ {C : Type 0} (machine : Machine C) where
  pub run_ends : (here : Here C) (lines : List InputLine) (last : List ℕ) (end : End) → Replies machine here lines last (run.Finish end) → Run machine here lines last end
  run_ends here lines last end replies =
      record { first = []; rest = lines; said = []; there = here; last = last; divided = refl; answers = (refl, refl); ends = replies; all = refl }

  pub run_goes : (here : Here C) (line : InputLine) (lines : List InputLine) (answer more : List ℕ) (state : C) (end : End) → Replies machine here (line ∷ lines) answer (run.Continue state)
      → Run machine (after_line here line state) lines more end → Run machine here (line ∷ lines) (answer ++ more) end
  run_goes here line lines answer more state end replies on = record {
    first = line ∷ on.first;
    rest = on.rest;
    said = answer ++ on.said;
    there = on.there;
    last = on.last;
    divided = ap (λ (ls : List InputLine). line ∷ ls) on.divided;
    answers = (answer, on.said, state, replies, refl, on.answers);
    ends = on.ends;
    all = ap (λ (m : List ℕ). answer ++ m) on.all ∙ sym (append_assoc answer on.said on.last);
  }

  pub run_on : (here : Here C) (line : InputLine) (lines : List InputLine) (put answer : List ℕ) (flow : Flow C) (end : End) → Replies machine here (line ∷ lines) answer flow
      → Continues machine here line lines put end flow answer → Run machine here (line ∷ lines) put end
  run_on here line lines put answer (run.Finish other) end replies (puts, ended) =
      let as_end : End → Flow C = λ e. run.Finish e in
      let so = subst (Replies machine here (line ∷ lines) answer) (ap as_end (sym ended)) replies in
      subst (λ (p : List ℕ). Run machine here (line ∷ lines) p end) (sym puts) (run_ends here (line ∷ lines) answer end so)
  run_on here line lines put answer (run.Continue state) end replies (more, puts, later) =
      subst (λ (p : List ℕ). Run machine here (line ∷ lines) p end) (sym puts) (run_goes here line lines answer more state end replies later)

module _ {B S V F P : Type 0} (begin : B → V → List ℕ → Flow P → Type 0) (reader : Reader S V F) (refusing : Refusing F) (phase : Machine P) where
  abbrev machine : Machine (TextThenPhase B S P)
  machine = text_then_phase_machine begin reader refusing phase

  abbrev Follows : B → Outcome V F → List ℕ → End → Type 0
  Follows start outcome put end = FollowsOutcome begin reader refusing phase start outcome put end

  abbrev text_at : B → Here S → Here (TextThenPhase B S P)
  text_at start here = record { state = Reading start here.state; number = here.number; spare_capacity = here.spare_capacity }

  -- ---- a run of the phase is one of the command
  abbrev serving : Here P → Here (TextThenPhase B S P)
  serving here = record { state = Serving here.state; number = here.number; spare_capacity = here.spare_capacity }

  served_reply : (how : Coming) (here : Here P) (text answer : List ℕ) (flow : Flow P) → RepliesTo phase how here text answer flow
      → RepliesTo machine how (serving here) text answer (wrapped Serving flow)
  served_reply Comes here text answer flow replies = (flow, replies, refl)
  served_reply TooLong here text answer flow (end, is, stops) = (end, ap (wrapped Serving) is, stops)
  served_reply TooMuch here text answer flow (end, is, stops) = (end, ap (wrapped Serving) is, stops)

  served_replies : (here : Here P) (lines : List InputLine) (answer : List ℕ) (flow : Flow P) → Replies phase here lines answer flow
      → Replies machine (serving here) lines answer (wrapped Serving flow)
  served_replies here [] answer flow (end, is, stops) = (end, ap (wrapped Serving) is, stops)
  served_replies here (line ∷ lines) answer flow replies = served_reply (coming (phase.longest here.state) here.spare_capacity line) here line.text answer flow replies

  served_answers : (here : Here P) (first : List InputLine) (said : List ℕ) (there : Here P) → Answers phase here first said there → Answers machine (serving here) first said (serving there)
  served_answers here [] said there (nothing, stays) = (nothing, ap serving stays)
  served_answers here (line ∷ first) said there (answer, more, state, replies, all, later) =
      (answer, more, Serving state, served_replies here (line ∷ first) answer (run.Continue state) replies, all, served_answers (after_line here line state) first more there later)

  served : (here : Here P) (lines : List InputLine) (put : List ℕ) (end : End) → Run phase here lines put end → Run machine (serving here) lines put end
  served here lines put end one = record {
    first = one.first;
    rest = one.rest;
    said = one.said;
    there = serving one.there;
    last = one.last;
    divided = one.divided;
    answers = served_answers here one.first one.said one.there one.answers;
    ends = served_replies one.there one.rest one.last (run.Finish end) one.ends;
    all = one.all;
  }

  -- ---- while the text is read
  module _ (start : B) (here : Here S) (line : InputLine) (lines : List InputLine) (put : List ℕ) (end : End) where
    -- the reply to a line, by what comes of it
    replies_as : (how : Coming) → coming (reader.longest here.state) here.spare_capacity line ≡ how → (answer : List ℕ) (flow : Flow (TextThenPhase B S P))
        → RepliesTo machine how (text_at start here) line.text answer flow → Replies machine (text_at start here) (line ∷ lines) answer flow
    replies_as how comes answer flow replies = subst (λ (h : Coming). RepliesTo machine h (text_at start here) line.text answer flow) (sym comes) replies

    replies_step : (step : Parse S V F) → coming (reader.longest here.state) here.spare_capacity line ≡ Comes → reader.reads here.state (here.number + 1) line.text ≡ step
        → (answer : List ℕ) (flow : Flow (TextThenPhase B S P)) → RepliesToStep begin reader refusing phase start step answer flow
        → Replies machine (text_at start here) (line ∷ lines) answer flow
    replies_step step comes reads answer flow replies =
        replies_as Comes comes answer flow (subst (λ (s : Parse S V F). RepliesToStep begin reader refusing phase start s answer flow) (sym reads) replies)

    stopped : (how : Coming) (stop : Stop) → coming (reader.longest here.state) here.spare_capacity line ≡ how
        → (Stops machine (text_at start here) stop put (run.Finish end) → RepliesTo machine how (text_at start here) line.text put (run.Finish end))
        → (put ≡ refusing.line (reader.stops here.state (here.number + 1) stop)) × (end ≡ refusing.end (reader.stops here.state (here.number + 1) stop))
        → Run machine (text_at start here) (line ∷ lines) put end
    stopped how stop comes so is = run_ends machine (text_at start here) (line ∷ lines) put end (replies_as how comes put (run.Finish end) (so (end, refl, is)))

    -- the value begins the phase
    initial : (value : V) (answer more : List ℕ) (flow : Flow P) → coming (reader.longest here.state) here.spare_capacity line ≡ Comes → reader.reads here.state (here.number + 1) line.text ≡ Parsed value
        → begin start value answer flow → put ≡ answer ++ more
        → Continues machine (text_at start here) line lines put end (wrapped Serving flow) answer
        → Run machine (text_at start here) (line ∷ lines) put end
    initial value answer more flow comes reads begins puts continues =
        run_on machine (text_at start here) line lines put answer (wrapped Serving flow) end (replies_step (Parsed value) comes reads answer (wrapped Serving flow) (flow, begins, refl)) continues

    by_line : (how : Coming) (step : Parse S V F) → coming (reader.longest here.state) here.spare_capacity line ≡ how → reader.reads here.state (here.number + 1) line.text ≡ step
        → (others : S → Outcome V F) → Follows start (outcome_by reader how step here line lines others) put end
        → ((state : S) → Follows start (others state) put end → Run machine (text_at start (after_line here line state)) lines put end)
        → Run machine (text_at start here) (line ∷ lines) put end
    by_line Comes (Continue state) comes reads others follows later =
        run_goes machine (text_at start here) line lines [] put (Reading start state) end (replies_step (Continue state) comes reads [] (run.Continue (Reading start state)) (refl, refl)) (later state follows)
    by_line Comes (Parsed value) comes reads others (answer, more, run.Continue state, begins, puts, on) later =
        initial value answer more (run.Continue state) comes reads begins puts (more, puts, served (after_line (record { state = state; number = here.number; spare_capacity = here.spare_capacity }) line state) lines more end on)
    by_line Comes (Parsed value) comes reads others (answer, more, run.Finish other, begins, puts, (nothing, ended)) later =
        initial value answer more (run.Finish other) comes reads begins puts (puts ∙ (ap (λ (m : List ℕ). answer ++ m) nothing ∙ append-nil answer), ended)
    by_line Comes (Refused fault) comes reads others (puts, ended) later =
        let as_end : End → Flow (TextThenPhase B S P) = λ e. run.Finish e in
        run_ends machine (text_at start here) (line ∷ lines) put end (replies_step (Refused fault) comes reads put (run.Finish end) (puts, ap as_end ended))
    by_line TooLong step comes reads others is later = stopped TooLong LineTooLong comes (λ stops. stops) is
    by_line TooMuch step comes reads others is later = stopped TooMuch InputTooMuch comes (λ stops. stops) is

  pub follows_run : (start : B) (here : Here S) (lines : List InputLine) (put : List ℕ) (end : End) → Follows start (reading reader here lines) put end → Run machine (text_at start here) lines put end
  follows_run start here [] put end is = run_ends machine (text_at start here) [] put end (end, refl, is)
  follows_run start here (line ∷ lines) put end follows =
      by_line start here line lines put end (coming (reader.longest here.state) here.spare_capacity line) (reader.reads here.state (here.number + 1) line.text) refl refl
      (λ state. reading reader (after_line here line state) lines) follows (λ state later. follows_run start (after_line here line state) lines put end later)

-- ---- a text that gives a value gives it whatever stands after it
no_more : (used rest : List InputLine) → used ++ rest ≡ rest → used ≡ []
no_more [] rest same = refl
no_more (line ∷ used) rest same =
    let counted : length ((line ∷ used) ++ rest) ≡ length rest = ap length same in
    let both = length-append (line ∷ used) rest in
    absurd (omega (arith, counted, both))

module _ {S V F : Type 0} (reader : Reader S V F) (value : V) (number spare_capacity : ℕ) where
  -- the same outcome, with other lines still to come
  abbrev with_rest : Outcome V F → List InputLine → Outcome V F
  with_rest (Given given n r rest) others = Given given n r others
  with_rest (Faulty fault) others = Faulty fault

  abbrev rest_of : Outcome V F → List InputLine
  rest_of (Given given n r rest) = rest
  rest_of (Faulty fault) = []

  abbrev GivesAt : Outcome V F → List InputLine → Type 0
  GivesAt outcome rest = outcome ≡ Given value number spare_capacity rest

  shorter_by : (how : Coming) (step : Parse S V F) (here : Here S) (line : InputLine) (lines rest : List InputLine) (others : S → Outcome V F)
      → GivesAt (outcome_by reader how step here line lines others) rest → ((state : S) → GivesAt (others state) rest → length rest < length lines) → length rest < length (line ∷ lines)
  shorter_by Comes (Continue state) here line lines rest others is later = let less = later state is in omega (arith, less)
  shorter_by Comes (Parsed given) here line lines rest others is later =
      let same : length lines ≡ length rest = ap (λ (o : Outcome V F). length (rest_of o)) is in omega (arith, same)
  shorter_by Comes (Refused fault) here line lines rest others is later = absurd (cc (is))
  shorter_by TooLong step here line lines rest others is later = absurd (cc (is))
  shorter_by TooMuch step here line lines rest others is later = absurd (cc (is))

  shorter : (here : Here S) (lines rest : List InputLine) → GivesAt (reading reader here lines) rest → length rest < length lines
  shorter here [] rest is = absurd (cc (is))
  shorter here (line ∷ lines) rest is =
      shorter_by (coming (reader.longest here.state) here.spare_capacity line) (reader.reads here.state (here.number + 1) line.text) here line lines rest
      (λ state. reading reader (after_line here line state) lines) is (λ state more. shorter (after_line here line state) lines rest more)

  over_by : (how : Coming) (step : Parse S V F) (here : Here S) (line : InputLine) (used rest others : List InputLine)
      → GivesAt (outcome_by reader how step here line (used ++ rest) (λ state. reading reader (after_line here line state) (used ++ rest))) rest
      → ((state : S) → GivesAt (reading reader (after_line here line state) (used ++ rest)) rest → GivesAt (reading reader (after_line here line state) (used ++ others)) others)
      → GivesAt (outcome_by reader how step here line (used ++ others) (λ state. reading reader (after_line here line state) (used ++ others))) others
  over_by Comes (Continue state) here line used rest others is later = later state is
  over_by Comes (Parsed given) here line used rest others is later =
      let nothing = no_more used rest (ap rest_of is) in
      ap (λ (u : List InputLine). Given given (here.number + 1) (here.spare_capacity - line_size line) (u ++ others)) nothing ∙ ap (λ (o : Outcome V F). with_rest o others) is
  over_by Comes (Refused fault) here line used rest others is later = absurd (cc (is))
  over_by TooLong step here line used rest others is later = absurd (cc (is))
  over_by TooMuch step here line used rest others is later = absurd (cc (is))

  pub given_over : (here : Here S) (used rest others : List InputLine) → GivesAt (reading reader here (used ++ rest)) rest → GivesAt (reading reader here (used ++ others)) others
  given_over here [] rest others is = let less = shorter here rest rest is in absurd (omega (arith, less))
  given_over here (line ∷ used) rest others is =
      over_by (coming (reader.longest here.state) here.spare_capacity line) (reader.reads here.state (here.number + 1) line.text) here line used rest others is
      (λ state more. given_over (after_line here line state) used rest others more)
