-- A run over lines, by what comes first; and lines that come.
use Rattle.std.proofs.Common.{◌≡◌, ◌⊎◌, ℕ, ◌-◌, List, [], ◌∷◌, ◌++◌, refl, sym, ap, ◌∙◌, subst, inl, inr, append_assoc}
use Rattle.texts.specs.Lines.{InputLine, line_size}
use Rattle.plan_port.specs.Lines.{Coming, coming}
use Rattle.command_engine.specs.Inputs.{capacity_after}
use Rattle.command_engine.specs.Machine.{Machine}
use Rattle.command_engine.specs.Runs.{Here, after_line, RepliesTo, Replies, Answers, Run}
use Rattle.command_engine.specs.declared.endings.End.{End}
use Rattle.command_engine.specs.declared.machines.Flow.{Flow}
use Rattle.command_engine.specs.declared.machines.Flow.TheVariants.{Continue, Finish}
use Rattle.common_answers.specs.FormatRefusals.{Come}

module _ {C : Type 0} (machine : Machine C) where
  -- the first line is answered, and the run continues over the others
  pub record GoesOver (here : Here C) (line : InputLine) (lines : List InputLine) (put : List ℕ) (end : End) : Type 0 where
    pub answer : List ℕ
    pub more : List ℕ
    pub state : C
    pub replies : Replies machine here (line ∷ lines) answer (Continue state)
    pub all : put ≡ answer ++ more
    pub later : Run machine (after_line here line state) lines more end

  ended_there : (here : Here C) (lines : List InputLine) (put : List ℕ) (end : End) (rest : List InputLine) (said : List ℕ) (there : Here C) (last : List ℕ) → lines ≡ rest
      → said ≡ [] → here ≡ there → put ≡ said ++ last
      → Replies machine there rest last (Finish end) → Replies machine here lines put (Finish end)
  ended_there here lines put end rest said there last same nothing stays all replies =
      let whole : last ≡ put = sym (all ∙ ap (λ (s : List ℕ). s ++ last) nothing) in
      subst (λ (p : List ℕ). Replies machine here lines p (Finish end)) whole
      (subst (λ (ls : List InputLine). Replies machine here ls last (Finish end)) (sym same)
      (subst (λ (h : Here C). Replies machine h rest last (Finish end)) (sym stays) replies))

  -- a run over no lines is its last reply
  pub last_reply : (here : Here C) (put : List ℕ) (end : End) → Run machine here [] put end → Replies machine here [] put (Finish end)
  last_reply here put end one = by one.first one.rest one.said one.there one.last one.divided one.answers one.ends one.all
    where
      by : (first rest : List InputLine) (said : List ℕ) (there : Here C) (last : List ℕ) → [] ≡ first ++ rest → Answers machine here first said there
          → Replies machine there rest last (Finish end) → put ≡ said ++ last → Replies machine here [] put (Finish end)
      by [] rest said there last divided answers ends all = ended_there here [] put end rest said there last divided answers.0 answers.1 all ends
      by (line ∷ first) rest said there last divided answers ends all = absurd cc

  -- the reply to the first line ends a run, or the run continues
  pub first_reply : (here : Here C) (line : InputLine) (lines : List InputLine) (put : List ℕ) (end : End) → Run machine here (line ∷ lines) put end
      → Replies machine here (line ∷ lines) put (Finish end) ⊎ GoesOver here line lines put end
  first_reply here line lines put end one = by one.first one.rest one.said one.there one.last one.divided one.answers one.ends one.all
    where
      by : (first rest : List InputLine) (said : List ℕ) (there : Here C) (last : List ℕ) → line ∷ lines ≡ first ++ rest → Answers machine here first said there
          → Replies machine there rest last (Finish end) → put ≡ said ++ last
          → Replies machine here (line ∷ lines) put (Finish end) ⊎ GoesOver here line lines put end
      by [] rest said there last divided answers ends all = inl (ended_there here (line ∷ lines) put end rest said there last divided answers.0 answers.1 all ends)
      by (other ∷ first) rest said there last divided answers ends all =
          let head : other ≡ line = cc in
          let tail : lines ≡ first ++ rest = cc in
          let replies : Replies machine here (line ∷ lines) answers.0 (Continue answers.2) = subst (λ (l : InputLine). Replies machine here (l ∷ lines) answers.0 (Continue answers.2)) head answers.3 in
          let later : Answers machine (after_line here line answers.2) first answers.1 there =
          subst (λ (l : InputLine). Answers machine (after_line here l answers.2) first answers.1 there) head answers.5 in
          inr (record {
            answer = answers.0;
            more = answers.1 ++ last;
            state = answers.2;
            replies = replies;
            all = all ∙ (ap (λ (s : List ℕ). s ++ last) answers.4 ∙ append_assoc answers.0 answers.1 last);
            later = record { first = first; rest = rest; said = answers.1; there = there; last = last; divided = tail; answers = later; ends = ends; all = refl };
          })

  -- how a run continues after the answer to a line
  abbrev pub Continues : Here C → InputLine → List InputLine → List ℕ → End → Flow C → List ℕ → Type 0
  Continues here line lines put end (Finish other) answer = (put ≡ answer) × (end ≡ other)
  Continues here line lines put end (Continue state) answer = (more : List ℕ) × (put ≡ answer ++ more) × Run machine (after_line here line state) lines more end

  -- the reply to the first line, by what comes of it
  pub record Replied (here : Here C) (line : InputLine) (lines : List InputLine) (put : List ℕ) (end : End) (how : Coming) : Type 0 where
    pub answer : List ℕ
    pub flow : Flow C
    pub replies : RepliesTo machine how here line.text answer flow
    pub on : Continues here line lines put end flow answer

  pub replied : (here : Here C) (line : InputLine) (lines : List InputLine) (put : List ℕ) (end : End) (how : Coming) → coming (machine.longest here.state) here.spare_capacity line ≡ how
      → Run machine here (line ∷ lines) put end → Replied here line lines put end how
  replied here line lines put end how comes run = by (first_reply here line lines put end run)
    where
      so : (answer : List ℕ) (flow : Flow C) → Replies machine here (line ∷ lines) answer flow → RepliesTo machine how here line.text answer flow
      so answer flow replies = subst (λ (h : Coming). RepliesTo machine h here line.text answer flow) comes replies

      by : Replies machine here (line ∷ lines) put (Finish end) ⊎ GoesOver here line lines put end → Replied here line lines put end how
      by (inl replies) = record { answer = put; flow = Finish end; replies = so put (Finish end) replies; on = (refl, refl) }
      by (inr goes) = record { answer = goes.answer; flow = Continue goes.state; replies = so goes.answer (Continue goes.state) goes.replies; on = (goes.more, goes.all, goes.later) }

-- ---- lines that come
pub come_first : (spare_capacity : ℕ) (before after : List InputLine) → Come spare_capacity (before ++ after) → Come spare_capacity before
come_first spare_capacity [] after come = tt
come_first spare_capacity (line ∷ before) after come = (come.0, come_first (spare_capacity - line_size line) before after come.1)

pub come_then : (spare_capacity : ℕ) (before after : List InputLine) → Come spare_capacity (before ++ after) → Come (capacity_after spare_capacity before) after
come_then spare_capacity [] after come = come
come_then spare_capacity (line ∷ before) after come = come_then (spare_capacity - line_size line) before after come.1

pub come_both : (spare_capacity : ℕ) (before after : List InputLine) → Come spare_capacity before → Come (capacity_after spare_capacity before) after → Come spare_capacity (before ++ after)
come_both spare_capacity [] after first then = then
come_both spare_capacity (line ∷ before) after first then = (first.0, come_both (spare_capacity - line_size line) before after first.1 then)

pub capacity_both : (spare_capacity : ℕ) (before after : List InputLine) → capacity_after spare_capacity (before ++ after) ≡ capacity_after (capacity_after spare_capacity before) after
capacity_both spare_capacity [] after = refl
capacity_both spare_capacity (line ∷ before) after = capacity_both (spare_capacity - line_size line) before after
