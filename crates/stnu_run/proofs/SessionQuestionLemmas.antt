-- A question of a session, and its answer: of the network as it stands after the lines before it.
use Rattle.std.proofs.Common.{◌≡◌, ℕ, ◌-◌, List, [], ◌∷◌, ◌++◌, Result, Ok, Err, IfOk, refl, sym, ap, ◌∙◌, subst, append_assoc}
use Rattle.std.proofs.lemmas.List.{append-nil}
use Rattle.texts.specs.Limits.{most_line}
use Rattle.texts.specs.Lines.{InputLine, input_lines, line_size}
use Rattle.net_model.specs.EditedNetwork.{edited}
use Rattle.net_model.specs.Network.{Plan, HasPlanNumbers, IsPlan}
use Rattle.net_model.specs.declared.edit.EditFault.{EditFault}
use Rattle.net_model.proofs.EditSoundness.{edited_numbers}
use Rattle.plan_port.specs.Lines.{Comes, coming}
use Rattle.edit_script.specs.EditText.{IsEditLine}
use Rattle.edit_script.specs.declared.step.Step.{Step}
use Rattle.edit_script.specs.declared.step.Step.TheVariants as step
use Rattle.command_engine.specs.Inputs.{DeclaresBy, capacity_after, texts}
use Rattle.command_engine.specs.Limits.{most_input}
use Rattle.command_engine.proofs.InputLemmas.{capacity_both, texts_both}
use Rattle.common_answers.specs.FormatRefusals.{Come}
use Rattle.input_texts.specs.PlanInput.{plan_in}
use Rattle.input_texts.specs.declared.plan_input.PlanForm.{PlanForm}
use Rattle.input_texts.proofs.PlanInputLemmas.{input_sound}
use Rattle.session_command.specs.SessionAnswers.{ready_line}
use Rattle.session_command.specs.SessionPromise.{IsEdited, IsNext, SaysAll, SaysFirst, SaysSteps, StateSteps, StillEdits, accepted_or, net_after}
use Rattle.session_command.specs.Sessions.{SaysStep, net_of}
use Rattle.session_command.specs.Standing.{Standing}
use Rattle.session_command.proofs.SessionLines.{sound_then, stands_net}
use Rattle.stnu_run.proofs.PlanNumberLemmas.{declared_numbers}

come_more : (spare_capacity : ℕ) (edits : List InputLine) (last : InputLine) → Come spare_capacity edits → coming most_line (capacity_after spare_capacity edits) last ≡ Comes → Come spare_capacity (edits ++ last ∷ [])
come_more spare_capacity [] last come comes = (comes, tt)
come_more spare_capacity (line ∷ edits) last come comes = (come.0, come_more (spare_capacity - line_size line) edits last come.1 comes)

-- ---- the network as it stands
-- it is the one that the lines state
stands_so : (first : Standing) (before : Plan) (text : List (List ℕ)) (steps : List Step) (said : List ℕ) (there : Standing) (net : Plan) → net_of first ≡ before → SaysSteps first steps said there → StateSteps before text steps net
    → net_of there ≡ net
stands_so first before [] [] said there net same (nothing, is) (none, at) = ap (λ (s : Standing). net_of s) (sym is) ∙ (same ∙ at)
stands_so first before [] (one ∷ steps) said there net same says (none, at) = absurd (cc)
stands_so first before (line ∷ text) [] said there net same says (stated, others, is, still, all, later) = absurd (cc)
stands_so first before (line ∷ text) (one ∷ steps) said there net same (answer, more, next, says, stands, whole, on) (stated, others, is, still, all, later) =
    let head : one ≡ stated = cc in
    let tail : others ≡ steps = cc in
    let after : net_of next ≡ net_after before stated = stands_net first next one stands ∙ (ap (λ (n : Plan). net_after n one) same ∙ ap (λ (s : Step). net_after before s) head) in
    stands_so next (net_after before stated) text steps more there net after on (subst (λ (ts : List Step). StateSteps (net_after before stated) text ts net) tail later)

accepted_numbers : (net : Plan) (made : Result Plan EditFault) → HasPlanNumbers net → IfOk made HasPlanNumbers → HasPlanNumbers (accepted_or net made)
accepted_numbers net (Ok more) numbers made = made
accepted_numbers net (Err cause) numbers made = numbers

step_numbers : (net : Plan) (stated : Step) → HasPlanNumbers net → HasPlanNumbers (net_after net stated)
step_numbers net (step.Edit edit) numbers = accepted_numbers net (edited net edit) numbers (edited_numbers net edit numbers)
step_numbers net step.Blank numbers = numbers
step_numbers net step.Verdict numbers = numbers
step_numbers net step.Proof numbers = numbers
step_numbers net step.Table numbers = numbers
step_numbers net step.Plan numbers = numbers
step_numbers net step.Report numbers = numbers
step_numbers net step.Go numbers = numbers
step_numbers net step.End numbers = numbers

numbers_then : (first : Plan) (text : List (List ℕ)) (steps : List Step) (net : Plan) → StateSteps first text steps net → HasPlanNumbers first → HasPlanNumbers net
numbers_then first [] steps net (none, same) numbers = subst HasPlanNumbers same numbers
numbers_then first (line ∷ text) steps net (stated, others, is, still, all, later) numbers = numbers_then (net_after first stated) text others net later (step_numbers first stated numbers)

-- what is put for a question after steps: the answers to them, and then its own, of a network that is a plan
pub record AnswersLast (asked : Step) (first net : Plan) (steps : List Step) (put : List ℕ) : Type 0 where
  pub before : List ℕ
  pub answer : List ℕ
  pub more : List ℕ
  pub says : SaysAll first steps before
  pub all : put ≡ before ++ (answer ++ more)
  pub sound : IsPlan net
  pub numbers : HasPlanNumbers net
  pub there : Standing
  pub stands : net_of there ≡ net
  pub answered : SaysStep there asked answer

-- a question: after it the network is edited further, and it changes nothing
module _ (asked : Step) (on_after : (net : Plan) → StillEdits net asked) (unchanged : (net : Plan) → net_after net asked ≡ net) where
  state_more : (first : Plan) (text : List (List ℕ)) (steps : List Step) (net : Plan) (line : List ℕ) → StateSteps first text steps net → IsEditLine asked line → StateSteps first (text ++ line ∷ []) (steps ++ asked ∷ []) net
  state_more first [] steps net line (none, same) states =
      (asked, [], states, on_after first, ap (λ (ts : List Step). ts ++ asked ∷ []) none, (refl, unchanged first ∙ same))
  state_more first (one ∷ text) steps net line (stated, others, is, still, all, later) states = (
    stated,
    others ++ asked ∷ [],
    is,
    still,
    ap (λ (ts : List Step). ts ++ asked ∷ []) all,
    state_more (net_after first stated) text others net line later states,
  )

  -- what is put for steps and the question after them
  record SaysLast (first : Standing) (steps : List Step) (said : List ℕ) : Type 0 where
    before : List ℕ
    answer : List ℕ
    there : Standing
    says : SaysSteps first steps before there
    answered : SaysStep there asked answer
    all : said ≡ before ++ answer

  split : (first : Standing) (steps : List Step) (said : List ℕ) (last : Standing) → SaysSteps first (steps ++ asked ∷ []) said last → SaysLast first steps said
  split first [] said last (answer, more, next, says, stands, all, later) = record {
    before = [];
    answer = answer;
    there = first;
    says = (refl, refl);
    answered = says;
    all = all ∙ (ap (λ (m : List ℕ). answer ++ m) later.0 ∙ append-nil answer);
  }
  split first (one ∷ steps) said last (answer, more, next, says, stands, all, later) =
      let on = split next steps more last later in
      record {
        before = answer ++ on.before;
        answer = on.answer;
        there = on.there;
        says = (answer, on.before, next, says, stands, refl, on.says);
        answered = on.answered;
        all = all ∙ (ap (λ (m : List ℕ). answer ++ m) on.all ∙ sym (append_assoc answer on.before on.answer));
      }

  module _ (form : PlanForm) (input : List ℕ) (first net : Plan) (steps : List Step) (next : IsNext form (input_lines input) first net steps asked) where
    pub with_question : IsEdited form (input_lines input) first net (steps ++ asked ∷ [])
    with_question =
        let so = next.so_far in
        let joined : so.edits ++ so.rest ≡ (so.edits ++ next.last ∷ []) ++ next.others = ap (λ (ls : List InputLine). so.edits ++ ls) next.next ∙ sym (append_assoc so.edits (next.last ∷ []) next.others) in
        record {
          plan = so.plan;
          edits = so.edits ++ next.last ∷ [];
          rest = next.others;
          divided = so.divided ∙ ap (λ (ls : List InputLine). so.plan ++ ls) joined;
          declares = subst (λ (ls : List InputLine). DeclaresBy (plan_in form) so.plan ls first) joined so.declares;
          come = come_more (capacity_after most_input so.plan) so.edits next.last so.come (subst (λ (n : ℕ). coming most_line n next.last ≡ Comes) (capacity_both most_input so.plan so.edits) next.comes);
          in_steps = subst (λ (ls : List (List ℕ)). StateSteps first ls (steps ++ asked ∷ []) net) (sym (texts_both so.edits (next.last ∷ []))) (state_more first (texts so.edits) steps net next.last.text so.in_steps next.statement);
        }

    pub answers_last : (put : List ℕ) → SaysFirst first (steps ++ asked ∷ []) put → AnswersLast asked first net steps put
    answers_last put (said, more, says, all) =
        let so = next.so_far in
        let parts = split says.opened steps says.said says.last says.says in
        let opened : net_of says.opened ≡ first = ap net_of says.opens in
        let stands = stands_so says.opened first (texts so.edits) steps parts.before parts.there net opened parts.says so.in_steps in
        let declared = so.declares.declared in
        let first_sound = input_sound form (texts (so.plan ++ (so.edits ++ so.rest))) first (texts (so.edits ++ so.rest)) declared in
        let first_numbers = declared_numbers form (texts (so.plan ++ (so.edits ++ so.rest))) first (texts (so.edits ++ so.rest)) declared in
        record {
          before = ready_line ++ parts.before;
          answer = parts.answer;
          more = more;
          says = record { opened = says.opened; opens = says.opens; said = parts.before; last = parts.there; says = parts.says; all = refl };
          all = all ∙ (ap (λ (s : List ℕ). s ++ more) (says.all ∙ (ap (λ (s : List ℕ). ready_line ++ s) parts.all ∙ sym (append_assoc ready_line parts.before parts.answer)))
              ∙ append_assoc (ready_line ++ parts.before) parts.answer more);
          sound = subst IsPlan stands (sound_then says.opened steps parts.before parts.there parts.says (subst IsPlan (sym opened) first_sound));
          numbers = numbers_then first (texts so.edits) steps net so.in_steps first_numbers;
          there = parts.there;
          stands = stands;
          answered = parts.answered;
        }
