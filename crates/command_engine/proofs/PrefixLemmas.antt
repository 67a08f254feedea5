-- What a run that broke off has put is a prefix of what the whole run puts, if the command gives at most one reply.
use Rattle.std.proofs.Common.{◌≡◌, ℕ, List, [], ◌∷◌, ◌++◌, refl, sym, ap, subst, ◌∙◌, append_assoc, append-nil}
use Rattle.texts.specs.Lines.{InputLine}
use Rattle.plan_port.specs.Talk.{Piece}
use Rattle.command_engine.specs.Machine.{Machine}
use Rattle.command_engine.specs.Runs.{Here, begins, after_line, Replies, Answers, Run, Runs}
use Rattle.command_engine.specs.Breaks.{WithinReply, WantsMemory}
use Rattle.command_engine.specs.Single.{IsSingle, IsPrefix}
use Rattle.command_engine.proofs.SingleLemmas.{replies_same}
use Rattle.command_engine.specs.declared.endings.End.{End}
use Rattle.command_engine.specs.declared.machines.Flow.{Flow}
use Rattle.command_engine.specs.declared.machines.Flow.TheVariants.{Continue, Finish}

module _ {C : Type 0} (machine : Machine C) (single : IsSingle machine) where
  -- a run begins with the reply to what comes first
  begins_with : (here : Here C) (lines : List InputLine) (answer : List ℕ) (flow : Flow C) (first rest : List InputLine) (said last : List ℕ) (there : Here C) (end : End) → lines ≡ first ++ rest →
      Replies machine here lines answer flow → Answers machine here first said there → Replies machine there rest last (Finish end) → IsPrefix answer (said ++ last)
  begins_with here lines answer flow [] rest said last there end divided replies answers ends =
      let p : Replies machine here rest last (Finish end) = subst (λ (h : Here C). Replies machine h rest last (Finish end)) (sym answers.1) ends in
      let q : Replies machine here rest answer flow = subst (λ (ls : List InputLine). Replies machine here ls answer flow) divided replies in
      let same : (answer ≡ last) × (flow ≡ Finish end) = replies_same machine single here rest answer last flow (Finish end) q p in
      ([], ap (λ (s : List ℕ). s ++ last) answers.0 ∙ (sym same.0 ∙ sym (append-nil answer)))
  begins_with here lines answer flow (line ∷ first) rest said last there end divided replies answers ends =
      let q : Replies machine here (line ∷ (first ++ rest)) answer flow = subst (λ (ls : List InputLine). Replies machine here ls answer flow) divided replies in
      let same = replies_same machine single here (line ∷ (first ++ rest)) answer answers.0 flow (Continue answers.2) q answers.3 in
      (answers.1 ++ last, ap (λ (s : List ℕ). s ++ last) answers.4 ∙ (append_assoc answers.0 answers.1 last ∙ ap (λ (s : List ℕ). s ++ (answers.1 ++ last)) (sym same.0)))

  -- a run goes on after the lines that were answered
  pub record RunsOn (there : Here C) (rest : List InputLine) (said put : List ℕ) (end : End) : Type 0 where
    pub later : List ℕ
    pub put_is : put ≡ said ++ later
    pub run : Run machine there rest later end

  tail_runs : (here : Here C) (line : InputLine) (lines : List InputLine) (put : List ℕ) (end : End) (answer : List ℕ) (state : C) → Replies machine here (line ∷ lines) answer (Continue state) → Run machine here (line ∷ lines) put end
      → RunsOn (after_line here line state) lines answer put end
  tail_runs here line lines put end answer state replies one = by_first one.first one.rest one.said one.last one.there one.divided one.answers one.ends one.all
    where
      by_first : (first rest : List InputLine) (said last : List ℕ) (there : Here C) → line ∷ lines ≡ first ++ rest → Answers machine here first said there → Replies machine there rest last (Finish end) → put ≡ said ++ last
          → RunsOn (after_line here line state) lines answer put end
      by_first [] rest said last there divided answers ends all =
          let p : Replies machine here rest last (Finish end) = subst (λ (h : Here C). Replies machine h rest last (Finish end)) (sym answers.1) ends in
          let q : Replies machine here (line ∷ lines) last (Finish end) = subst (λ (ls : List InputLine). Replies machine here ls last (Finish end)) (sym divided) p in
          let same : (answer ≡ last) × (Continue state ≡ Finish end) = replies_same machine single here (line ∷ lines) answer last (Continue state) (Finish end) replies q in
          absurd (cc)
      by_first (other ∷ first) rest said last there divided answers ends all =
          let head : other ≡ line = cc in
          let tail : lines ≡ first ++ rest = cc in
          let p : Answers machine here (line ∷ first) said there = subst (λ (l : InputLine). Answers machine here (l ∷ first) said there) head answers in
          let same : (answer ≡ p.0) × (Continue state ≡ Continue p.2) = replies_same machine single here (line ∷ lines) answer p.0 (Continue state) (Continue p.2) replies p.3 in
          let states : p.2 ≡ state = cc in
          record {
            later = p.1 ++ last;
            put_is = all ∙ (ap (λ (s : List ℕ). s ++ last) p.4 ∙ (append_assoc p.0 p.1 last ∙ ap (λ (s : List ℕ). s ++ (p.1 ++ last)) (sym same.0)));
            run = record { first = first; rest = rest; said = p.1; there = there; last = last; divided = tail; answers = subst (λ (s : C). Answers machine (after_line here line s) first p.1 there) states p.5; ends = ends; all = refl };
          }

  pub runs_on : (here : Here C) (first rest : List InputLine) (said put : List ℕ) (there : Here C) (end : End) → Answers machine here first said there → Run machine here (first ++ rest) put end → RunsOn there rest said put end
  runs_on here [] rest said put there end answers one =
      record { later = put; put_is = ap (λ (s : List ℕ). s ++ put) (sym answers.0); run = subst (λ (h : Here C). Run machine h rest put end) answers.1 one }
  runs_on here (line ∷ first) rest said put there end answers one =
      let tail = tail_runs here line (first ++ rest) put end answers.0 answers.2 answers.3 one in
      let on = runs_on (after_line here line answers.2) first rest answers.1 tail.later there end answers.5 tail.run in
      record { later = on.later; put_is = tail.put_is ∙ (ap (λ (s : List ℕ). answers.0 ++ s) on.put_is ∙ (sym (append_assoc answers.0 answers.1 on.later) ∙ ap (λ (s : List ℕ). s ++ on.later) (sym answers.4))); run = on.run }

  -- if a put failed at a reply
  pub reply_prefixes : (start : C) (input put whole : List ℕ) (end : End) → Runs machine start input whole end → WithinReply machine start input put → IsPrefix put whole
  reply_prefixes start input put whole end runs within =
      let on = runs_on (begins start) within.first within.rest within.said whole within.there end within.answers (subst (λ (ls : List InputLine). Run machine (begins start) ls whole end) within.divided runs) in
      let one = on.run in
      let prefix = begins_with within.there within.rest within.answer within.flow one.first one.rest one.said one.last one.there end one.divided within.replies one.answers one.ends in
      let later : on.later ≡ within.last ++ (within.part.0 ++ prefix.0) = one.all ∙ (prefix.1 ∙ (ap (λ (s : List ℕ). s ++ prefix.0) within.part.1 ∙ append_assoc within.last within.part.0 prefix.0)) in
      (within.part.0 ++ prefix.0, on.put_is ∙ (ap (λ (s : List ℕ). within.said ++ s) later ∙ (sym (append_assoc within.said within.last (within.part.0 ++ prefix.0)) ∙ ap (λ (s : List ℕ). s ++ (within.part.0 ++ prefix.0)) (sym within.all))))

  -- if there was no memory at a line
  pub memory_prefixes : (start : C) (input put whole : List ℕ) (pieces : List Piece) (end : End) → Runs machine start input whole end → WantsMemory machine start input put pieces → IsPrefix put whole
  memory_prefixes start input put whole pieces end runs wants =
      let on = runs_on (begins start) wants.first (wants.line ∷ wants.rest) put whole wants.there end wants.answers (subst (λ (ls : List InputLine). Run machine (begins start) ls whole end) wants.divided runs) in
      (on.later, on.put_is)
