-- By the words: what `show` puts has the same answers as the plan of the input.
use Rattle.std.proofs.Common.{◌≡◌, ◌↔◌, ◌⊎◌, ℕ, ◌≤◌, List, [], ◌∷◌, length, Some, codes, inl, inr, refl, sym, ap, ◌∙◌, subst, arith}
use Rattle.texts.specs.Lines.{lines}
use Rattle.net_model.specs.Network.{Plan}
use Rattle.command_words.specs.Arguments.{is_given}
use Rattle.command_engine.specs.Inputs.{texts}
use Rattle.command_engine.specs.Endings.{end_number}
use Rattle.command_engine.specs.declared.endings.End.{End}
use Rattle.command_engine.specs.declared.endings.End.TheVariants as ends
use Rattle.common_answers.specs.Faults.{fault_end}
use Rattle.common_answers.specs.declared.faults.Fault.{Fault}
use Rattle.input_texts.specs.DocumentSoFar.{most_document}
use Rattle.input_texts.specs.PlanInput.{delayed, in_notation, json_name, notation_by, plan_in}
use Rattle.input_texts.specs.declared.delay.Delay.{Delay}
use Rattle.input_texts.specs.declared.plan_input.Notation.{Notation}
use Rattle.input_texts.specs.declared.plan_input.PlanForm.{PlanForm}
use Rattle.input_texts.proofs.PlanInputLemmas.{input_sound}
use Rattle.command_contracts.specs.Programs.{Defines, Program, PromiseHolds}
use Rattle.command_contracts.specs.Requests.{program_of_request, requested_by}
use Rattle.command_contracts.specs.declared.status.Status.{Status}
use Rattle.check_command.specs.CheckAnswers.{check_request, check_syntax}
use Rattle.check_command.specs.CheckPromise.{check_program}
use Rattle.check_command.specs.Words.{SayCheckFlags}
use Rattle.check_command.specs.declared.check_question.CheckFlags.{CheckFlags}
use Rattle.play_command.specs.PlayCommand.{play_answers, play_request, play_syntax}
use Rattle.play_command.specs.PlayPromise.{PlayPromise, play_program}
use Rattle.play_command.specs.Words.{SayPlay}
use Rattle.play_command.specs.declared.plan_day.PlayWords.{PlayWords}
use Rattle.play_command.specs.declared.which_situation.WhichSituation.{WhichSituation}
use Rattle.show_command.specs.ShowAnswers.{PutsPlan, ShowPromise, show_answers, show_program, show_request, show_syntax}
use Rattle.show_command.specs.Words.{SayForms}
use Rattle.show_command.specs.declared.show_question.Show.{Show}
use Rattle.strong_command.specs.StrongAnswers.{PutsStrong, SayStrong, StrongPromise, strong_program, strong_request, strong_syntax}
use Rattle.strong_command.specs.declared.strong_question.StrongQuestion.{StrongQuestion}
use Rattle.event_phase.proofs.ExecutionLemmas.{fault_ends_so}
use Rattle.stnu_run.specs.DefinedRuns.{DefinedRun, program_of, strong_word}
use Rattle.stnu_run.specs.RunClaims.{HoldsOfDefinedRuns}
use Rattle.stnu_run.specs.ShownPlans.{AreFormsOf, DefineAlike, HasSameAnswers, ShownPlanHasSameAnswers}
use Rattle.stnu_run.proofs.DeclaredLemmas.{Declares, declares_one, in_form}
use Rattle.stnu_run.proofs.JudgedInputLemmas.{plan_declared}
use Rattle.stnu_run.proofs.PlanNumberLemmas.{declared_numbers}
use Rattle.stnu_run.proofs.SamePlanLemmas.{check_alike, plan_alike}
use Rattle.stnu_run.proofs.ShownPlanLemmas.{shown_declares}

-- an answer with status 0 is none of a fault
no_fault : (fault : Fault) (end : End) (status : Status) → status ≡ record { 0 = 0 } → status ≡ record { 0 = end_number end } → end ≡ fault_end fault → ⊥
no_fault fault end status zero is so = by (fault_ends_so fault)
  where
    number : ◌≡◌ {A = ℕ} 0 (end_number end)
    number = ap (λ (s : Status). s.0) (sym zero ∙ is)

    by : (fault_end fault ≡ ends.Limit) ⊎ (fault_end fault ≡ ends.Fault) → ⊥
    by (inl limit) = let four : end_number end ≡ 4 = ap end_number (so ∙ limit) in omega (arith, number, four)
    by (inr wrong) = let three : end_number end ≡ 3 = ap end_number (so ∙ wrong) in omega (arith, number, three)

module _ (show : Show) (notation : Notation) (own : in_notation notation ≡ show.form) (input put : List ℕ) (net : Plan) (is : Declares show.form input net) (also : Declares (in_notation show.print) put net) where
  -- by a form of the same notation and another delay both declare the same
  input_in : (form : PlanForm) → form.notation ≡ show.form.notation → Declares form input (delayed form.delay net)
  input_in form same = in_form show.form form notation own same input net is

  put_in : (form : PlanForm) → form.notation ≡ show.print → Declares form put (delayed form.delay net)
  put_in form same = in_form (in_notation show.print) form show.print refl same put net also

  put_as : (one other : PlanForm) → AreFormsOf show one other → Declares other put (delayed one.delay net)
  put_as one other forms = subst (λ (d : Delay). Declares other put (delayed d net)) (sym forms.delay) (put_in other forms.put)

  module _ (check_words : (words : List (List ℕ)) (flags : CheckFlags) → requested_by check_syntax check_request words ≡ Some flags ↔ SayCheckFlags check_syntax flags words)
      (strong_words : (words : List (List ℕ)) (query : StrongQuestion) → requested_by strong_syntax strong_request words ≡ Some query ↔ SayStrong query words)
      (play_words : (words : List (List ℕ)) (said : PlayWords) → requested_by play_syntax play_request words ≡ Some said ↔ SayPlay play_syntax said words)
      (show_words : (words : List (List ℕ)) (query : Show) → requested_by show_syntax show_request words ≡ Some query ↔ SayForms show_syntax query words) where
    -- two programs that define the same, and words of which they are the programs
    alike : (words others : List (List ℕ)) (one other : Program) → program_of words ≡ one → program_of others ≡ other → ((text : List ℕ) (status : Status) → Defines one input text status ↔ Defines other put text status) → DefineAlike words others input put
    alike words others one other first second same =
        subst (λ (p : Program). (text : List ℕ) (status : Status) → Defines p input text status ↔ Defines (program_of others) put text status) (sym first)
        (subst (λ (p : Program). (text : List ℕ) (status : Status) → Defines one input text status ↔ Defines p put text status) (sym second) same)

    same_answers : HasSameAnswers show input put
    same_answers = record {
      check = λ program other asked again flags others say too forms proof rounds engine.
          alike (program ∷ codes "check" ∷ asked) (other ∷ codes "check" ∷ again) (check_program flags) (check_program others) (ap (program_of_request check_program) ((check_words asked flags).1 say))
          (ap (program_of_request check_program) ((check_words again others).1 too))
          (check_alike flags others rounds engine proof input put (delayed flags.form.delay net) (input_in flags.form forms.read) (put_as flags.form others.form forms));
      strong = λ program other asked again query others say too forms.
          alike (program ∷ strong_word ∷ asked) (other ∷ strong_word ∷ again) (strong_program query) (strong_program others) (ap (program_of_request strong_program) ((strong_words asked query).1 say))
          (ap (program_of_request strong_program) ((strong_words again others).1 too))
          (plan_alike (λ (q : StrongQuestion). q.form) (λ (q : StrongQuestion) (n : Plan). PutsStrong n) StrongPromise query others input put (delayed query.form.delay net) (input_in query.form forms.read)
          (put_as query.form others.form forms) (λ text end. (λ answer. answer, λ answer. answer)));
      play = λ program other asked again said others say too forms which.
          alike (program ∷ codes "play" ∷ asked) (other ∷ codes "play" ∷ again) (play_program said) (play_program others) (ap (program_of_request play_program) ((play_words asked said).1 say))
          (ap (program_of_request play_program) ((play_words again others).1 too))
          (plan_alike (λ (w : PlayWords). w.form) play_answers PlayPromise said others input put (delayed said.form.delay net) (input_in said.form forms.read) (put_as said.form others.form forms)
          (λ text end. (
            subst (λ (w : WhichSituation). play_answers (record { form = said.form; which = w }) (delayed said.form.delay net) text end) which,
            subst (λ (w : WhichSituation). play_answers (record { form = said.form; which = w }) (delayed said.form.delay net) text end) (sym which),
          )));
      show_again = λ program other asked again query others say too forms print.
          alike (program ∷ codes "show" ∷ asked) (other ∷ codes "show" ∷ again) (show_program query) (show_program others) (ap (program_of_request show_program) ((show_words asked query).1 say))
          (ap (program_of_request show_program) ((show_words again others).1 too))
          (plan_alike (λ (s : Show). s.form) show_answers ShowPromise query others input put (delayed query.form.delay net) (input_in query.form forms.read) (put_as query.form others.form forms)
          (λ text end. (
            subst (λ (n : Notation). PutsPlan n (delayed query.form.delay net) text end) print,
            subst (λ (n : Notation). PutsPlan n (delayed query.form.delay net) text end) (sym print),
          )));
    }

pub shown_plan_has_same_answers : ((show : Show) → PromiseHolds (show_program show))
    → ((words : List (List ℕ)) (flags : CheckFlags) → requested_by check_syntax check_request words ≡ Some flags ↔ SayCheckFlags check_syntax flags words)
    → ((words : List (List ℕ)) (query : StrongQuestion) → requested_by strong_syntax strong_request words ≡ Some query ↔ SayStrong query words)
    → ((words : List (List ℕ)) (said : PlayWords) → requested_by play_syntax play_request words ≡ Some said ↔ SayPlay play_syntax said words)
    → ((words : List (List ℕ)) (query : Show) → requested_by show_syntax show_request words ≡ Some query ↔ SayForms show_syntax query words)
    → HoldsOfDefinedRuns ShownPlanHasSameAnswers
shown_plan_has_same_answers keeps check_words strong_words play_words show_words words input put status defines program asked show named say zero fits =
    let (end, is, runs) = subst (λ (one : Program). Defines one input put status) (ap (program_of_request show_program) ((show_words asked show).1 say)) (subst (λ (ws : List (List ℕ)). DefinedRun ws input put status) named defines) in
    let promise = keeps show input put end runs in
    let (net, declares) = declares_one show.form input (λ fault first. no_fault fault end status zero is (promise.refuses fault first).1) in
    let stated = plan_declared show.form input net declares.used declares.rest declares.divided declares.declares in
    let sound = input_sound show.form (lines input) net (texts declares.rest) stated in
    let numbers = declared_numbers show.form (lines input) net (texts declares.rest) stated in
    let puts = promise.declared net (record { used = declares.used; rest = declares.rest; divided = declares.divided; declares = declares.declares }) in
    let again = shown_declares net sound numbers show.print (subst (λ (t : List ℕ). (plan_in (in_notation show.print)).declares (lines t) net []) puts.is puts.again) (subst (λ (t : List ℕ). length t ≤ most_document) puts.is fits) in
    same_answers show (notation_by (is_given json_name say.uses)) say.read input put net declares (subst (λ (t : List ℕ). Declares (in_notation show.print) t net) (sym puts.is) again) check_words strong_words play_words show_words
