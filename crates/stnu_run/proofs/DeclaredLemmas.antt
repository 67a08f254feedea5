-- An input that declares a network as a plan of a form: if it is not refused, and with another delay.
use Rattle.std.proofs.Common.{◌≡◌, ℕ, List, [], ◌++◌, refl, sym, ap, ◌∙◌, subst}
use Rattle.texts.specs.Lines.{InputLine, input_lines}
use Rattle.net_model.specs.Network.{Plan}
use Rattle.command_engine.specs.Inputs.{DeclaresBy, IsFirstRefusal, texts}
use Rattle.command_engine.specs.Readers.{Outcome, Given, Faulty, reading}
use Rattle.command_engine.specs.Runs.{begins}
use Rattle.command_engine.proofs.InputLemmas.{OutcomeIs, outcome_is}
use Rattle.common_answers.specs.declared.faults.Fault.{Fault}
use Rattle.input_texts.specs.PlanInput.{delayed, in_notation, initial_input, input_reader, plan_in, texts_in}
use Rattle.input_texts.specs.declared.delay.Delay.{Delay}
use Rattle.input_texts.specs.declared.delay.Delay.TheVariants.{Own}
use Rattle.input_texts.specs.declared.plan_input.Notation.{Notation}
use Rattle.input_texts.specs.declared.plan_input.PlanForm.{PlanForm}
use Rattle.input_texts.proofs.PlanInputLemmas.{input_by, plans_have_the_delay}
use Rattle.stnu_run.proofs.ComingLemmas.{come_by}

-- an input, by lines that come and the rest, declares a network as a plan of a form
pub record Declares (form : PlanForm) (input : List ℕ) (net : Plan) : Type 0 where
  pub used : List InputLine
  pub rest : List InputLine
  pub divided : input_lines input ≡ used ++ rest
  pub declares : DeclaresBy (plan_in form) used rest net

-- ---- an input that is not refused declares a network
pub declares_one : (form : PlanForm) (input : List ℕ) → ((fault : Fault) → ¬ IsFirstRefusal (plan_in form) (input_lines input) fault) → (net : Plan) × Declares form input net
declares_one form input none = by (reading input_reader (begins (initial_input form)) (input_lines input)) (outcome_is input_reader (initial_input form) (plan_in form) (input_by form 0) (input_lines input))
  where
    by : (outcome : Outcome Plan Fault) → OutcomeIs input_reader (initial_input form) (plan_in form) (input_by form 0) (input_lines input) outcome → (net : Plan) × Declares form input net
    by (Given net number spare_capacity rest) is = (net, record { used = is.used; rest = rest; divided = is.divided; declares = is.declares })
    by (Faulty fault) is = absurd (none fault is)

-- ---- the same plan with another delay
abbrev form_with : Notation → Delay → PlanForm
form_with notation delay = record { notation = notation; delay = delay }

with_delay : (notation : Notation) (delay : Delay) (used rest : List InputLine) (net : Plan) → DeclaresBy (plan_in (form_with notation Own)) used rest net
    → DeclaresBy (plan_in (form_with notation delay)) used rest (delayed delay net)
with_delay notation delay used rest net declares =
    let (plain, stated, same) = (plans_have_the_delay (form_with notation Own) 0 (texts (used ++ rest)) net (texts rest)).0 declares.declared in
    record {
      come = come_by (plan_in (form_with notation Own)) (plan_in (form_with notation delay)) (λ seen longest wanted. wanted) used [] _ declares.come;
      declared = (plans_have_the_delay (form_with notation delay) 0 (texts (used ++ rest)) (delayed delay net) (texts rest)).1
          (net, subst (λ (n : Plan). (texts_in notation 0).declares (texts (used ++ rest)) n (texts rest)) (sym same) stated, refl);
    }

-- a form of a notation with its own delay is the one of that notation
own_form : (form : PlanForm) (notation : Notation) → in_notation notation ≡ form → in_notation form.notation ≡ form
own_form form notation is = ap (λ (f : PlanForm). in_notation f.notation) (sym is) ∙ is

-- what an input declares as a plan with its own delay, it declares with that of another form of the same notation
pub in_form : (own form : PlanForm) (notation : Notation) → in_notation notation ≡ own → form.notation ≡ own.notation → (input : List ℕ) (net : Plan) → Declares own input net → Declares form input (delayed form.delay net)
in_form own form notation is same input net declares =
    let plain : DeclaresBy (plan_in (in_notation own.notation)) declares.used declares.rest net =
    subst (λ (f : PlanForm). DeclaresBy (plan_in f) declares.used declares.rest net) (sym (own_form own notation is)) declares.declares in
    record {
      used = declares.used;
      rest = declares.rest;
      divided = declares.divided;
      declares = subst (λ (f : PlanForm). DeclaresBy (plan_in f) declares.used declares.rest (delayed form.delay net)) (ap (λ (n : Notation). form_with n form.delay) (sym same))
          (with_delay own.notation form.delay declares.used declares.rest net plain);
    }
