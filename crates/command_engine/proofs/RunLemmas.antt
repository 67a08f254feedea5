-- Replies and answers of a run.
use Rattle.std.proofs.Common.{◌≡◌, ℕ, ◌+◌, List, [], ◌∷◌, ◌++◌, refl, sym, ap, subst, ◌∙◌, append-nil, append_assoc}
use Rattle.texts.specs.Lines.{InputLine}
use Rattle.plan_port.specs.Lines.{Coming, Comes, TooLong, TooMuch}
use Rattle.command_engine.specs.Machine.{Machine}
use Rattle.command_engine.specs.Runs.{Here, after_line, coming_at, RepliesTo, Replies, Answers}
use Rattle.command_engine.specs.declared.machines.Flow.{Flow}
use Rattle.command_engine.specs.declared.machines.Flow.TheVariants.{Continue}

module _ {C : Type 0} (machine : Machine C) where
  -- a line after which the run goes on has come whole, within its limits
  pub record ComesAndTakes (here : Here C) (line : InputLine) (answer : List ℕ) (flow : Flow C) : Type 0 where
    pub comes : coming_at machine here line ≡ Comes
    pub takes : machine.takes here.state (here.number + 1) line.text answer flow

  comes_by : (how : Coming) (here : Here C) (line : InputLine) (answer : List ℕ) (state : C) → coming_at machine here line ≡ how → RepliesTo machine how here line.text answer (Continue state)
      → ComesAndTakes here line answer (Continue state)
  comes_by Comes here line answer state is replies = record { comes = is; takes = replies }
  comes_by TooLong here line answer state is replies = absurd (cc (replies.1))
  comes_by TooMuch here line answer state is replies = absurd (cc (replies.1))

  pub goes_only_on_lines : (here : Here C) (line : InputLine) (rest : List InputLine) (answer : List ℕ) (state : C) → Replies machine here (line ∷ rest) answer (Continue state) → ComesAndTakes here line answer (Continue state)
  goes_only_on_lines here line rest answer state replies = comes_by (coming_at machine here line) here line answer state refl replies

  -- what a line that comes is answered by is a reply
  pub replies_to_line : (here : Here C) (line : InputLine) (rest : List InputLine) (answer : List ℕ) (flow : Flow C) → coming_at machine here line ≡ Comes → machine.takes here.state (here.number + 1) line.text answer flow
      → Replies machine here (line ∷ rest) answer flow
  replies_to_line here line rest answer flow comes takes = subst (λ (how : Coming). RepliesTo machine how here line.text answer flow) (sym comes) takes

  -- one more line is answered
  pub Answers-more : (here : Here C) (lines : List InputLine) (said : List ℕ) (there : Here C) (line : InputLine) (answer : List ℕ) (state : C) → Answers machine here lines said there
      → Replies machine there (line ∷ []) answer (Continue state) → Answers machine here (lines ++ line ∷ []) (said ++ answer) (after_line there line state)
  Answers-more here [] said there line answer state answers replies =
      let now : Replies machine here (line ∷ []) answer (Continue state) = subst (λ (h : Here C). Replies machine h (line ∷ []) answer (Continue state)) (sym answers.1) replies in
      (answer, [], state, now, ap (λ (s : List ℕ). s ++ answer) answers.0 ∙ sym (append-nil answer), (refl, ap (λ (h : Here C). after_line h line state) answers.1))
  Answers-more here (first ∷ lines) said there line answer state answers replies =
      let later = Answers-more (after_line here first answers.2) lines answers.1 there line answer state answers.5 replies in
      (answers.0, answers.1 ++ answer, answers.2, answers.3, ap (λ (s : List ℕ). s ++ answer) answers.4 ∙ append_assoc answers.0 answers.1 answer, later)
