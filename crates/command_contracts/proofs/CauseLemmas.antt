-- Runs end by the causes in their input: of a command that reads one text, and of one that executes lines of events.
use Rattle.std.proofs.Common.{◌≡◌, ◌⊎◌, inl, inr, ℕ, List, [], length, refl, sym, ◌∙◌, subst}
use Rattle.texts.specs.Lines.{input_lines, lines}
use Rattle.net_model.specs.Network.{Plan}
use Rattle.execution_model.specs.Streams.{Listing}
use Rattle.command_engine.specs.Grammars.{Grammar}
use Rattle.command_engine.specs.Inputs.{AnswersLine, AnswersLineOrRefuses, last_before}
use Rattle.command_engine.specs.declared.endings.End.{End}
use Rattle.command_engine.specs.declared.endings.End.TheVariants as ends
use Rattle.command_contracts.specs.Causes.{EndsByCause, IsAnswer, IsDayRefused, IsTextRefused, text_causes}
use Rattle.event_phase.specs.Day.{Preamble, IsRefusedDay, IsWholeDay, refused_line_number}
use Rattle.event_phase.specs.EventAnswers.{event_refusal_line}
use Rattle.event_phase.specs.EventFaults.{HasEventFault, event_refusal}
use Rattle.event_phase.specs.ExecutionPromise.{ExecutionPromise, PutsLast}
use Rattle.common_answers.specs.Faults.{fault_line, refusing}
use Rattle.common_answers.specs.declared.faults.Fault.{Fault}

-- a run that is done, or whose answer is a refusal, ends by an answer
pub answers_as : (end other : End) → end ≡ other → IsAnswer other → IsAnswer end
answers_as end other is answer = subst (λ (e : End). IsAnswer e) (sym is) answer

-- ---- one text
module _ {V : Type 0} (grammar : Grammar V Fault) (answering : V → ℕ → List ℕ → End → Type 0) (answer : (value : V) (number : ℕ) (put : List ℕ) (end : End) → answering value number put end → IsAnswer end)
    (input put : List ℕ) (end : End) (text : AnswersLine grammar refusing answering input put end) where
  only_text : AnswersLineOrRefuses grammar refusing answering input put end → IsAnswer end ⊎ ((line : List ℕ) × IsTextRefused grammar input end line × PutsLast line put)
  only_text (inl (value, after, is, answered)) = inl (answer value (last_before after (lines input)) put end answered)
  only_text (inr (fault, first, puts)) = inr (fault_line fault, record { fault = fault; first = first; ends_so = puts.1; reported = refl }, ([], puts.0))

  pub text_ends : EndsByCause (text_causes grammar) input put end
  text_ends = record {
    refused = λ other line is. (text.refuses is.fault is.first).1 ∙ sym is.ends_so;
    only = only_text text.answers;
    whole = λ within. answer within.0 (length within.1.used) put end (text.declared within.0 within.1);
  }

-- ---- lines of events
-- a run ends by an answer, or what leads to each other end is so
pub only_by : {Cause : Type 0} (end : End) → (end ≡ ends.EventRefused → Cause) → ((end ≡ ends.Fault) ⊎ (end ≡ ends.Limit) → Cause) → IsAnswer end ⊎ Cause
only_by ends.Done event fault = inl tt
only_by ends.Refused event fault = inl tt
only_by ends.Fault event fault = inr (fault (inl refl))
only_by ends.Limit event fault = inr (fault (inr refl))
only_by ends.EventRefused event fault = inr (event refl)

module _ (opens : Preamble) (input put : List ℕ) (end : End) (execution : ExecutionPromise opens (input_lines input) put end) where
  abbrev pub DayCause : Type 0
  DayCause = (line : List ℕ) × IsDayRefused opens input end line × PutsLast line put

  pub day_ends : (other : End) (line : List ℕ) → IsDayRefused opens input other line → end ≡ other
  day_ends other line (inl is) = (execution.faulty is.fault is.has).1 ∙ sym is.ends_so
  day_ends other line (inr is) = (execution.refuses is.refused).ends_so ∙ sym is.ends_so

  pub fault_caused : (fault : Fault) → HasEventFault opens (input_lines input) fault → DayCause
  fault_caused fault has =
      let puts = execution.faulty fault has in
      (event_refusal fault, inl (record { fault = fault; has = has; ends_so = puts.1; reported = refl }), puts.0)

  pub refused_caused : IsRefusedDay opens (input_lines input) → DayCause
  refused_caused refused =
      let so = execution.refuses refused in (
        event_refusal_line (refused_line_number refused) so.words,
        inr (record { refused = refused; execution = so.execution; words = so.words; fed = so.fed; why = so.why; ends_so = so.ends_so; reported = refl }),
        so.last,
      )

  pub whole_answers : (net : Plan) (listings : List Listing) → IsWholeDay opens (input_lines input) net listings → IsAnswer end
  whole_answers net listings whole =
      let puts = (execution.executes net listings whole.faithful.0 whole whole.faithful.1).1 in
      answers_as end ends.Done puts.ends tt
