-- Plans of either form are read by their grammar.
use Rattle.std.proofs.Common.{◌≡◌, ℕ, ◌≤◌, List, Result, Ok, [], ◌∷◌, ◌++◌, append_assoc, refl, sym, ap, ◌∙◌, subst, arith}
use Rattle.std.specs.Prelude.{min}
use Rattle.net_model.specs.Limits.{most_delay}
use Rattle.net_model.specs.Network.{Plan, IsPlan}
use Rattle.net_model.proofs.DelayLemmas.{sound_with_delay}
use Rattle.plan_json.proofs.PartsLemmas.{said_declarable}
use Rattle.command_engine.specs.Grammars.{ReadsBy}
use Rattle.command_engine.proofs.AlternativeLemmas.{left_by, right_by}
use Rattle.command_engine.proofs.InputLemmas.{value_one}
use Rattle.command_engine.proofs.TestedTextLemmas.{tested_by}
use Rattle.common_answers.specs.declared.faults.Fault.{Fault}
use Rattle.input_texts.specs.DocumentTexts.{document_texts}
use Rattle.input_texts.specs.PlanDocument.{initial_document}
use Rattle.input_texts.specs.PlanInput.{PlansHaveTheRequestedDelay, initial_in, delay_tests, delayed, document_reader, in_notation, initial_input, input_reader, noted_reader, plan_in, plan_reader, plans_in, texts_in}
use Rattle.input_texts.specs.PlanText.{initial_plan}
use Rattle.input_texts.specs.PlanTexts.{plan_texts}
use Rattle.input_texts.specs.declared.delay.Delay.{Delay}
use Rattle.input_texts.specs.declared.delay.Delay.TheVariants.{Own, Moments}
use Rattle.input_texts.specs.declared.plan_input.Notation.{Notation}
use Rattle.input_texts.specs.declared.plan_input.Notation.TheVariants.{Text, Json}
use Rattle.input_texts.specs.declared.plan_input.PlanForm.{PlanForm}
use Rattle.input_texts.proofs.DocumentLemmas.{document_by, made_of}
use Rattle.input_texts.proofs.NetworkLemmas.{IsGiven, declared_given, lines_given}
use Rattle.input_texts.proofs.PlanLemmas.{declares_network, plan_by}

noted_by : (notation : Notation) (past : ℕ) → ReadsBy noted_reader (initial_in notation) past (texts_in notation past)
noted_by Text past = left_by plan_reader document_reader past (plan_texts past) (record { text = initial_plan; test = record {} }) (plan_by past)
noted_by Json past = right_by plan_reader document_reader past (document_texts past) (record { text = initial_document; test = record {} }) (document_by past)

pub input_by : (form : PlanForm) (past : ℕ) → ReadsBy input_reader (initial_input form) past (plans_in form past)
input_by form past = tested_by noted_reader delay_tests form.delay (initial_in form.notation) past (texts_in form.notation past) (noted_by form.notation past)

-- lines declare one network at most
pub input_one : (form : PlanForm) (lines : List (List ℕ)) (net other : Plan) (rest after : List (List ℕ)) → (plan_in form).declares lines net rest → (plan_in form).declares lines other after → net ≡ other
input_one form lines net other rest after is also = (value_one input_reader (initial_input form) 0 (plan_in form) (input_by form 0) lines net other rest after is also).0

same_made : (net other : Plan) → ◌≡◌ {A = Result Plan Fault} (Ok net) (Ok other) → net ≡ other
same_made net other is = cc

made_there : (net other : Plan) → net ≡ other → ◌≡◌ {A = Result Plan Fault} (Ok other) (Ok net)
made_there net other is = ap Ok (sym is)

-- lines declare just what they declare in the notation, with the requested delay
pub plans_have_the_delay : PlansHaveTheRequestedDelay
plans_have_the_delay form past lines net rest = (to, from)
  where
    to : (plans_in form past).declares lines net rest → (plain : Plan) × (texts_in form.notation past).declares lines plain rest × (net ≡ delayed form.delay plain)
    to passes =
        (passes.value, passes.declared, sym (same_made (delayed form.delay passes.value) net passes.passes))

    from : ((plain : Plan) × (texts_in form.notation past).declares lines plain rest × (net ≡ delayed form.delay plain)) → (plans_in form past).declares lines net rest
    from (plain, declares, same) =
        let text = ((noted_by form.notation past).declares lines plain rest).0 declares in
        record {
          value = plain;
          text = text.prefix ++ text.last ∷ [];
          whole = text.whole ∙ sym (append_assoc text.prefix (text.last ∷ []) rest);
          declared = declares;
          passes = made_there net (delayed form.delay plain) same;
        }

-- what is declared in a notation is declared in it with its own delay
pub declared_own : (notation : Notation) (lines : List (List ℕ)) (net : Plan) (rest : List (List ℕ)) → (texts_in notation 0).declares lines net rest → (plan_in (in_notation notation)).declares lines net rest
declared_own notation lines net rest is = (plans_have_the_delay (in_notation notation) 0 lines net rest).1 (net, is, refl)

-- ---- the network that lines declare is sound
noted_given : (notation : Notation) (lines : List (List ℕ)) (net : Plan) (rest : List (List ℕ)) → (texts_in notation 0).declares lines net rest → IsGiven net
noted_given Text lines net rest is = lines_given lines net rest ((declares_network 0 lines net rest).0 is)
noted_given Json lines net rest is =
    let made = made_of is.value net is.passes in
    let said = said_declarable is.value made.plan made.says in
    declared_given made.plan.delay made.plan.parts net said.1 said.0 made.builds

delayed_sound : (delay : Delay) (net : Plan) → IsGiven net → IsPlan (delayed delay net)
delayed_sound Own net given = given.plan
delayed_sound (Moments moments) net given = sound_with_delay net (min moments most_delay) given.plan given.numbers (omega arith)

pub input_sound : (form : PlanForm) (lines : List (List ℕ)) (net : Plan) (rest : List (List ℕ)) → (plan_in form).declares lines net rest → IsPlan net
input_sound form lines net rest is =
    let (plain, declares, same) = (plans_have_the_delay form 0 lines net rest).0 is in
    subst IsPlan (sym same) (delayed_sound form.delay plain (noted_given form.notation lines plain rest declares))
