-- If `strong` puts that the plan of an input is strongly controllable, `check` says that it is controllable.
use Rattle.std.proofs.Common.{◌≡◌, ◌↔◌, ℕ, List, ◌++◌, Some, get_or, sym, ap, ◌∙◌, subst, arith}
use Rattle.net_model.specs.Network.{IsPlan, Plan}
use Rattle.strong_plan.specs.Laws.{StrongIsControllable}
use Rattle.strong_plan.specs.Strong.{IsStronglyControllable}
use Rattle.net_model.specs.Limits.{most_delay}
use Rattle.std.specs.Prelude.{min}
use Rattle.command_words.specs.Arguments.{is_given}
use Rattle.command_engine.specs.Inputs.{texts}
use Rattle.common_answers.specs.Faults.{fault_line}
use Rattle.common_answers.specs.declared.faults.Fault.{Fault}
use Rattle.input_texts.specs.PlanInput.{delayed, json_name, notation_by}
use Rattle.input_texts.specs.declared.delay.Delay.{Delay}
use Rattle.input_texts.specs.declared.delay.Delay.TheVariants.{Own, Moments}
use Rattle.input_texts.proofs.PlanInputLemmas.{input_sound}
use Rattle.command_contracts.specs.Programs.{Defines, Program, PromiseHolds}
use Rattle.command_contracts.specs.Requests.{program_of_request, requested_by}
use Rattle.check_command.specs.CheckAnswers.{check_request, check_syntax}
use Rattle.check_command.specs.Words.{SayCheckFlags}
use Rattle.check_command.specs.declared.check_question.CheckFlags.{CheckFlags}
use Rattle.strong_command.specs.StrongAnswers.{SayStrong, strong_line, strong_program, strong_request, strong_syntax}
use Rattle.strong_command.specs.declared.strong_question.StrongQuestion.{StrongQuestion}
use Rattle.stnu_run.specs.AcrossCommands.{ChecksAs, SaysControllable, StrongMeansControllable}
use Rattle.stnu_run.proofs.DeclaredLemmas.{declares_one, in_form}
use Rattle.stnu_run.proofs.JudgedInputLemmas.{plan_declared}
use Rattle.stnu_run.specs.DefinedRuns.{DefinedRun}
use Rattle.stnu_run.specs.RunClaims.{HoldsOfDefinedRuns}
use Rattle.stnu_run.proofs.VerdictLemmas.{checked_controllable, checking_is}

-- the first byte
abbrev first_byte : List ℕ → ℕ
first_byte bytes = get_or bytes 0 0

no_refusal : (fault : Fault) (more : List ℕ) → fault_line fault ≡ strong_line ++ more → ⊥
no_refusal fault more same = let byte : ◌≡◌ {A = ℕ} 101 115 = ap first_byte same in omega arith

-- ---- a delay decides nothing of strong controllability
with_moments : (net : Plan) (delay : ℕ) → IsStronglyControllable net → IsStronglyControllable (record net { delay = delay })
with_moments net delay (times, strong) = (
  times,
  record {
    right = λ situation is. let (schedule, right) = strong.right situation is in (
      schedule,
      record {
        has = right.has;
        lasts = right.lasts;
        satisfies = record { complete = right.satisfies.complete; keeps = right.satisfies.keeps };
      },
    );
  },
)

strongly_delayed : (delay : Delay) (net : Plan) → IsStronglyControllable net → IsStronglyControllable (delayed delay net)
strongly_delayed Own net strongly = strongly
strongly_delayed (Moments moments) net strongly = with_moments net (min moments most_delay) strongly

-- ---- by the words
pub strong_means_controllable : ((query : StrongQuestion) → PromiseHolds (strong_program query)) → StrongIsControllable
    → ((words : List (List ℕ)) (query : StrongQuestion) → requested_by strong_syntax strong_request words ≡ Some query ↔ SayStrong query words)
    → ((words : List (List ℕ)) (flags : CheckFlags) → requested_by check_syntax check_request words ≡ Some flags ↔ SayCheckFlags check_syntax flags words)
    → HoldsOfDefinedRuns StrongMeansControllable
strong_means_controllable keeps law strong_words check_words words input put status defines program other asked checked query flags named say too notation more same =
    let (end, is, runs) = subst (λ (one : Program). Defines one input put status) (ap (program_of_request strong_program) ((strong_words asked query).1 say)) (subst (λ (ws : List (List ℕ)). DefinedRun ws input put status) named defines) in
    let promise = keeps query input put end runs in
    let (net, declares) = declares_one query.form input (λ fault first. no_refusal fault more (sym (promise.answers.refuses fault first).0 ∙ same)) in
    let strongly = (promise.strongly more same net (texts declares.rest) (plan_declared query.form input net declares.used declares.rest declares.divided declares.declares)).0 in
    let also = in_form query.form flags.form (notation_by (is_given json_name say.uses)) say.read notation input net declares in
    let delayed_net : Plan = delayed flags.form.delay net in
    let sound : IsPlan delayed_net = input_sound flags.form (texts (also.used ++ also.rest)) delayed_net (texts also.rest) also.declares.declared in
    subst (λ (p : Program). ChecksAs flags p SaysControllable input) (checking_is check_words other checked flags too)
    (checked_controllable flags input delayed_net also.used also.rest also.divided also.declares (law delayed_net sound (strongly_delayed flags.form.delay net strongly)))
