-- A command that gives at most one reply has at most one run over an input.
use Rattle.std.proofs.Common.{◌≡◌, ℕ, ◌+◌, List, [], ◌∷◌, ◌++◌, sym, ap, subst, ◌∙◌, append_assoc}
use Rattle.texts.specs.Lines.{InputLine, input_lines}
use Rattle.plan_port.specs.Lines.{Coming, Comes, TooLong, TooMuch}
use Rattle.command_engine.specs.Machine.{Machine}
use Rattle.command_engine.specs.Runs.{Here, begins, after_line, coming_at, Stops, RepliesTo, Replies, Answers, Run, Runs}
use Rattle.command_engine.specs.Single.{IsSingle}
use Rattle.command_engine.specs.declared.endings.End.{End}
use Rattle.command_engine.specs.declared.machines.Flow.{Flow}
use Rattle.command_engine.specs.declared.machines.Flow.TheVariants.{Continue, Finish}
use Rattle.command_engine.specs.declared.machines.Stop.{Stop}
use Rattle.command_engine.specs.declared.machines.Stop.TheVariants.{InputEnded, LineTooLong, InputTooMuch}

module _ {C : Type 0} (machine : Machine C) (single : IsSingle machine) where
  stops_same : (here : Here C) (stop : Stop) (a b : List ℕ) (x y : Flow C) → Stops machine here stop a x → Stops machine here stop b y → (a ≡ b) × (x ≡ y)
  stops_same here stop a b x y one other =
      let same = single.stops here.state (here.number + 1) stop a b one.0 other.0 one.2 other.2 in
      (same.0, one.1 ∙ ap (λ (e : End). Finish e) same.1 ∙ sym other.1)

  replies_by : (how : Coming) (here : Here C) (text a b : List ℕ) (x y : Flow C) → RepliesTo machine how here text a x → RepliesTo machine how here text b y → (a ≡ b) × (x ≡ y)
  replies_by Comes here text a b x y one other = single.takes here.state (here.number + 1) text a b x y one other
  replies_by TooLong here text a b x y one other = stops_same here LineTooLong a b x y one other
  replies_by TooMuch here text a b x y one other = stops_same here InputTooMuch a b x y one other

  pub replies_same : (here : Here C) (lines : List InputLine) (a b : List ℕ) (x y : Flow C) → Replies machine here lines a x → Replies machine here lines b y → (a ≡ b) × (x ≡ y)
  replies_same here [] a b x y one other = stops_same here InputEnded a b x y one other
  replies_same here (line ∷ rest) a b x y one other = replies_by (coming_at machine here line) here line.text a b x y one other

  -- over lines that are left, the run ends with this reply
  abbrev EndsWith : Here C → List InputLine → List ℕ → End → Type 0
  EndsWith here lines last end = Replies machine here lines last (Finish end)

  runs_on : (here : Here C) (first rest first' rest' : List InputLine) (said said' : List ℕ) (there there' : Here C) (last last' : List ℕ) (end end' : End) → first ++ rest ≡ first' ++ rest' →
      Answers machine here first said there → Answers machine here first' said' there' → EndsWith there rest last end → EndsWith there' rest' last' end' →
      (said ++ last ≡ said' ++ last') × (end ≡ end')
  runs_on here [] rest [] rest' said said' there there' last last' end end' lines one other ends ends' =
      let p : Replies machine here rest last (Finish end) = subst (λ (h : Here C). Replies machine h rest last (Finish end)) (sym one.1) ends in
      let q : Replies machine here rest' last' (Finish end') = subst (λ (h : Here C). Replies machine h rest' last' (Finish end')) (sym other.1) ends' in
      let r : Replies machine here rest last' (Finish end') = subst (λ (ls : List InputLine). Replies machine here ls last' (Finish end')) (sym lines) q in
      let same : (last ≡ last') × (Finish end ≡ Finish end') = replies_same here rest last last' (Finish end) (Finish end') p r in
      (cc, cc)
  runs_on here [] rest (line ∷ first') rest' said said' there there' last last' end end' lines one other ends ends' =
      let p : Replies machine here rest last (Finish end) = subst (λ (h : Here C). Replies machine h rest last (Finish end)) (sym one.1) ends in
      let q : Replies machine here (line ∷ (first' ++ rest')) last (Finish end) = subst (λ (ls : List InputLine). Replies machine here ls last (Finish end)) lines p in
      let same : (last ≡ other.0) × (Finish end ≡ Continue other.2) = replies_same here (line ∷ (first' ++ rest')) last other.0 (Finish end) (Continue other.2) q other.3 in
      absurd (cc)
  runs_on here (line ∷ first) rest [] rest' said said' there there' last last' end end' lines one other ends ends' =
      let p : Replies machine here rest' last' (Finish end') = subst (λ (h : Here C). Replies machine h rest' last' (Finish end')) (sym other.1) ends' in
      let q : Replies machine here (line ∷ (first ++ rest)) last' (Finish end') = subst (λ (ls : List InputLine). Replies machine here ls last' (Finish end')) (sym lines) p in
      let same : (last' ≡ one.0) × (Finish end' ≡ Continue one.2) = replies_same here (line ∷ (first ++ rest)) last' one.0 (Finish end') (Continue one.2) q one.3 in
      absurd (cc)
  runs_on here (line ∷ first) rest (line' ∷ first') rest' said said' there there' last last' end end' lines one other ends ends' =
      let head : line' ≡ line = cc in
      let tail : first ++ rest ≡ first' ++ rest' = cc in
      let q : Answers machine here (line ∷ first') said' there' = subst (λ (l : InputLine). Answers machine here (l ∷ first') said' there') head other in
      let same : (one.0 ≡ q.0) × (Continue one.2 ≡ Continue q.2) = replies_same here (line ∷ first) one.0 q.0 (Continue one.2) (Continue q.2) one.3 q.3 in
      let state : q.2 ≡ one.2 = cc in
      let later : Answers machine (after_line here line one.2) first' q.1 there' = subst (λ (s : C). Answers machine (after_line here line s) first' q.1 there') state q.5 in
      let on = runs_on (after_line here line one.2) first rest first' rest' one.1 q.1 there there' last last' end end' tail one.5 later ends ends' in (
        ap (λ (s : List ℕ). s ++ last) one.4 ∙ append_assoc one.0 one.1 last ∙ ap (λ (s : List ℕ). one.0 ++ s) on.0 ∙ ap (λ (s : List ℕ). s ++ (q.1 ++ last')) same.0 ∙ sym (append_assoc q.0 q.1 last')
            ∙ ap (λ (s : List ℕ). s ++ last') (sym q.4),
        on.1,
      )

  -- over the same lines, from the same place, two runs put the same and end so
  pub run_same : (here : Here C) (lines : List InputLine) (a b : List ℕ) (x y : End) → Run machine here lines a x → Run machine here lines b y → (a ≡ b) × (x ≡ y)
  run_same here lines a b x y one other =
      let same = runs_on here one.first one.rest other.first other.rest one.said other.said one.there other.there one.last other.last x y (sym one.divided ∙ other.divided) one.answers other.answers one.ends other.ends in
      (one.all ∙ same.0 ∙ sym other.all, same.1)

  -- a run over an input is a function of it
  pub runs_same : (start : C) (input a b : List ℕ) (x y : End) → Runs machine start input a x → Runs machine start input b y → (a ≡ b) × (x ≡ y)
  runs_same start input a b x y one other = run_same (begins start) (input_lines input) a b x y one other
