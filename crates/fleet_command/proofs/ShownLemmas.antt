-- What a line states, and what is answered to it, is by the points of a network alone, so it is the same of its shown form.
use Rattle.std.proofs.Common.{◌≡◌, inl, inr, ℕ, List, [], ◌∷◌, Option, refl, ap, ◌∙◌}
use Rattle.texts.specs.Words.{words}
use Rattle.net_model.specs.Network.{Plan}
use Rattle.net_model.specs.ShownForm.{shown_form}
use Rattle.net_model.specs.declared.format.FormatKind.{FormatKind}
use Rattle.net_model.specs.declared.ids.PointId.{PointId}
use Rattle.event_stream.specs.EventText.{EventLine, blank, completed, done, FirstMisfitsPoint, IsFaultAfterAt, IsEventFault, IsEventFaultOfWords, IsEventLine, NamePoints, unknown_word, after_at, after_done}
use Rattle.execution_model.specs.declared.feed_answers.Act.{Act}
use Rattle.execution_model.specs.declared.feed_answers.Fed.{Fed}
use Rattle.execution_model.specs.declared.feed_answers.Fed.TheVariants as fed
use Rattle.execution_model.specs.declared.feed_answers.Finished.{Finished}
use Rattle.execution_model.specs.declared.feed_answers.Finished.TheVariants as finished
use Rattle.execution_model.specs.declared.feed_answers.Why.{Why}
use Rattle.execution_model.specs.declared.feed_answers.Why.TheVariants as why
use Rattle.command_engine.specs.declared.endings.End.{End}
use Rattle.command_engine.specs.declared.machines.Flow.{Flow}
use Rattle.event_phase.specs.EventRuns.{EventRun}
use Rattle.event_phase.specs.EventAnswers.{event_refusal_line, why_words}
use Rattle.event_phase.specs.EventPhase.{AnswersEnd, PutsFed}

-- ---- lines
points_shown : (net : Plan) (words : List (List ℕ)) (points : List PointId) → NamePoints net words points → NamePoints (shown_form net) words points
points_shown net [] [] named = tt
points_shown net [] (point ∷ points) named = absurd named
points_shown net (word ∷ words) [] named = absurd named
points_shown net (word ∷ words) (point ∷ points) (one, named) = (one, points_shown net words points named)

pub line_shown : (net : Plan) (reported : EventLine) (line : List ℕ) → IsEventLine net reported line → IsEventLine (shown_form net) reported line
line_shown net blank line is = is
line_shown net (completed moment points) line is = record { names = is.names; spelled = is.spelled; within = is.within; named = points_shown net is.names points is.named }
line_shown net done line is = is

misfits_shown : (net : Plan) (words : List (List ℕ)) (kind : FormatKind) → FirstMisfitsPoint net words kind → FirstMisfitsPoint (shown_form net) words kind
misfits_shown net [] kind misfits = absurd misfits
misfits_shown net (word ∷ others) kind (inl misfits) = inl misfits
misfits_shown net (word ∷ others) kind (inr (point, names, misfits)) = inr (point, names, misfits_shown net others kind misfits)

after_shown : (net : Plan) (words : List (List ℕ)) (kind : FormatKind) → IsFaultAfterAt net words kind → IsFaultAfterAt (shown_form net) words kind
after_shown net [] kind is = is
after_shown net (moment ∷ names) kind (inl misfits) = inl misfits
after_shown net (moment ∷ names) kind (inr (fits, misfits)) = inr (fits, misfits_shown net names kind misfits)

words_shown : (net : Plan) (words : List (List ℕ)) (kind : FormatKind) → IsEventFaultOfWords net words kind → IsEventFaultOfWords (shown_form net) words kind
words_shown net words kind (unknown_word filled other no_end is) = unknown_word filled other no_end is
words_shown net words kind (after_at others spelled fault) = after_at others spelled (after_shown net others kind fault)
words_shown net words kind (after_done next others spelled is) = after_done next others spelled is

pub fault_shown : (net : Plan) (line : List ℕ) (kind : FormatKind) → IsEventFault net line kind → IsEventFault (shown_form net) line kind
fault_shown net line kind is = words_shown net (words line) kind is

-- ---- answers
why_shown : (net : Plan) (cause : Why) → why_words net cause ≡ why_words (shown_form net) cause
why_shown net (why.NotLater last) = refl
why_shown net (why.NotContingent point) = refl
why_shown net (why.Twice point moment) = refl
why_shown net (why.NotActive point) = refl
why_shown net (why.TooSoon point earliest) = refl
why_shown net (why.Overdue point latest) = refl
why_shown net why.MomentLimit = refl

pub puts_shown : (net : Plan) (number : ℕ) (answer : Fed) (acts : List Act) (due : Option ℕ) (put : List ℕ) (ended : Option End) → PutsFed net number answer acts due put ended → PutsFed (shown_form net) number answer acts due put ended
puts_shown net number fed.Acts acts due put ended puts = puts
puts_shown net number (fed.Refused cause) acts due put ended (puts, ends) = (puts ∙ ap (event_refusal_line number) (why_shown net cause), ends)
puts_shown net number (fed.Ended cause) acts due put ended (puts, ends) = (puts ∙ ap (event_refusal_line number) (why_shown net cause), ends)

pub ends_shown : (net : Plan) (number : ℕ) (answer : Finished) (acts : List Act) (put : List ℕ) (flow : Flow EventRun) → AnswersEnd net number answer acts put flow → AnswersEnd (shown_form net) number answer acts put flow
ends_shown net number finished.Complete acts put flow puts = puts
ends_shown net number (finished.Unfinished point) acts put flow puts = puts
ends_shown net number (finished.Ended cause) acts put flow (puts, ends) = (puts ∙ ap (event_refusal_line number) (why_shown net cause), ends)
