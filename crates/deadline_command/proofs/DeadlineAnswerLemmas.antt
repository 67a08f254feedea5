-- `deadline` keeps its promise, ends by the causes in its input, and answers a network in one way.
use Rattle.std.proofs.Common.{◌≡◌, ◌⊎◌, inl, inr, ℕ, List, [], length, Result, Ok, Err, refl, sym, ap, ◌∙◌, subst}
use Rattle.texts.specs.Lines.{input_lines}
use Rattle.command_engine.specs.AnswersOnce.{AnswersOutcome}
use Rattle.command_engine.specs.Readers.{Outcome, Given, Faulty, reading}
use Rattle.command_engine.specs.Runs.{Runs, begins}
use Rattle.command_engine.specs.Single.{IsSingleAtLine}
use Rattle.command_engine.specs.declared.endings.End.{End}
use Rattle.command_engine.proofs.AnswersOnceLemmas.{runs_are}
use Rattle.command_engine.proofs.InputLemmas.{OutcomeIs, answers_text, outcome_is}
use Rattle.common_answers.specs.Faults.{fault_end, fault_line, refusing}
use Rattle.common_answers.specs.declared.faults.Fault.{Fault}
use Rattle.event_phase.specs.ExecutionPromise.{PutsLast}
use Rattle.command_contracts.specs.Causes.{EndsByCause, IsAnswer}
use Rattle.command_contracts.proofs.CauseLemmas.{answers_as}
use Rattle.net_model.specs.Network.{Plan}
use Rattle.net_model.specs.declared.ids.PointId.{PointId}
use Rattle.deadline_search.specs.Answers.{Answers, IsAnswerOf}
use Rattle.deadline_search.specs.Deadlines.{IsFull}
use Rattle.deadline_search.specs.declared.answer.DeadlineFault.{DeadlineFault}
use Rattle.deadline_search.specs.declared.answer.DeadlineFault.TheVariants.{Full}
use Rattle.deadline_search.specs.declared.answer.Deadline.{Deadline}
use Rattle.deadline_search.specs.declared.answer.Deadline.TheVariants.{NotControllable, Never, Least, Floor}
use Rattle.deadline_command.specs.DeadlineAnswers.{CanBePrinted, PutsDeadline, deadline_answers, deadline_end, deadline_machine, deadline_start, deadline_text}
use Rattle.deadline_command.specs.DeadlinePromise.{DeadlinePromise, IsFullRefused, IsWholeInput, deadline_causes}
use Rattle.deadline_command.specs.Points.{PlanPoints, goal_number, bounds_limit_fault, points_in, points_reader}
use Rattle.deadline_command.specs.declared.points.DeadlineWords.{DeadlineWords}
use Rattle.deadline_command.proofs.GrammarLemmas.{points_by_grammar}
use Rattle.deadline_command.proofs.OneAnswerLemmas.{answer_one}
use Rattle.deadline_command.proofs.SaidLemmas.{at_lowest_by, no_by, none_by, promised_by, yes_by}

pub deadline_keeps : (words : DeadlineWords) (input put : List ℕ) (end : End) → Runs deadline_machine (deadline_start words) input put end → DeadlinePromise words input put end
deadline_keeps words input put end runs =
    let text = answers_text points_reader (deadline_start words).text (points_in words) (points_by_grammar words) deadline_answers refusing words input put end runs in
    record {
      answers = text;
      controllable = yes_by words input put end text.answers;
      tightest = promised_by words input put end text.answers;
      at_most = at_lowest_by words input put end text.answers;
      none = none_by words input put end text.answers;
      refutes = no_by words input put end text.answers;
    }

-- ---- the causes
deadline_answer : (deadline : Deadline) → IsAnswer (deadline_end deadline)
deadline_answer (NotControllable refutation) = tt
deadline_answer (Never goal refutation) = tt
deadline_answer (Least goal most proof refutation) = tt
deadline_answer (Floor goal proof) = tt

module _ (words : DeadlineWords) (input put : List ℕ) (end : End) where
  abbrev Cause : Type 0
  Cause = (line : List ℕ) × (deadline_causes words).refused input end line × PutsLast line put

  put_answer : (query : PlanPoints) → PutsDeadline words query put end → IsAnswer end
  put_answer query puts = answers_as end (deadline_end puts.deadline) puts.done (deadline_answer puts.deadline)

  -- a run ends by what the reading of its input came to
  only : (outcome : Outcome PlanPoints Fault) → OutcomeIs points_reader (deadline_start words).text (points_in words) (points_by_grammar words) (input_lines input) outcome
      → AnswersOutcome deadline_answers points_reader refusing words outcome put end → IsAnswer end ⊎ Cause
  only (Given query number spare_capacity rest) is (inl puts) = inl (put_answer query puts)
  only (Given query number spare_capacity rest) is (inr puts) =
      let reported : ℕ → Fault = λ n. bounds_limit_fault (goal_number words.notation n) in
      inr (
        fault_line (reported (length is.used)),
        inr (record {
          query = query;
          declared = record { used = is.used; rest = rest; divided = is.divided; declares = is.declares };
          full = puts.full;
          ends_so = puts.done ∙ ap (λ n. fault_end (reported n)) is.counted;
          reported = refl;
        }),
        ([], puts.line ∙ ap (λ n. fault_line (reported n)) is.counted),
      )
  only (Faulty fault) first puts = inr (fault_line fault, inl (record { fault = fault; first = first; ends_so = puts.1; reported = refl }), ([], puts.0))

  -- if there is no capacity for it, the run ends by that
  full_ends : (other : End) (line : List ℕ) (is : IsFullRefused words input other line) → deadline_answers words is.query (length is.declared.used) put end → end ≡ other
  full_ends other line is (inl puts) = absurd (puts.spare_capacity is.full)
  full_ends other line is (inr puts) = puts.done ∙ sym is.ends_so

  -- if there is capacity, it ends by an answer
  whole_ends : (is : IsWholeInput words input) → deadline_answers words is.query (length is.declared.used) put end → IsAnswer end
  whole_ends is (inl puts) = put_answer is.query puts
  whole_ends is (inr puts) = absurd (is.spare_capacity puts.full)

  refused_ends : DeadlinePromise words input put end → (other : End) (line : List ℕ) → (deadline_causes words).refused input other line → end ≡ other
  refused_ends kept other line (inl is) = (kept.answers.refuses is.fault is.first).1 ∙ sym is.ends_so
  refused_ends kept other line (inr is) = full_ends other line is (kept.answers.declared is.query is.declared)

  pub deadline_ends : Runs deadline_machine (deadline_start words) input put end → EndsByCause (deadline_causes words) input put end
  deadline_ends runs =
      let kept = deadline_keeps words input put end runs in
      let start = (deadline_start words).text in
      record {
        refused = refused_ends kept;
        only = only (reading points_reader (begins start) (input_lines input)) (outcome_is points_reader start (points_in words) (points_by_grammar words) (input_lines input))
            (runs_are deadline_answers points_reader refusing words start input put end runs);
        whole = λ is. whole_ends is (kept.answers.declared is.query is.declared);
      }

-- ---- what is put
can_be_printed : (net : Plan) (from to : PointId) (deadline : Deadline) → IsAnswerOf net from to deadline → CanBePrinted deadline
can_be_printed net from to (NotControllable refutation) is = is.1.weights
can_be_printed net from to (Never goal refutation) is = is.says.refuted.weights
can_be_printed net from to (Least goal most proof refutation) is = (is.says.proved.weights, is.says.refuted.weights)
can_be_printed net from to (Floor goal proof) is = is.says.proved.weights

pub printable : (net : Plan) (from to : PointId) (deadline : Deadline) (found : Result Deadline DeadlineFault) → found ≡ Ok deadline → Answers net from to found → CanBePrinted deadline
printable net from to deadline found same is = can_be_printed net from to deadline (subst (Answers net from to) same is).1

pub deadline_put : (words : DeadlineWords) (query : PlanPoints) (number : ℕ) (net : Plan) (from to : PointId) → net ≡ query.net → from ≡ query.from → to ≡ query.to
    → (found : Result Deadline DeadlineFault) (deadline : Deadline) → found ≡ Ok deadline → Answers net from to found
    → (put : List ℕ) (end : End) → (put ≡ deadline_text words deadline) × (end ≡ deadline_end deadline) → deadline_answers words query number put end
deadline_put words query number net from to same_net same_from same_to found deadline same is put end puts =
    let answers : Answers query.net query.from query.to (Ok deadline) =
    subst (λ (n : Plan). Answers n query.from query.to (Ok deadline)) same_net
    (subst (λ (p : PointId). Answers net p query.to (Ok deadline)) same_from
    (subst (λ (p : PointId). Answers net from p (Ok deadline)) same_to (subst (Answers net from to) same is))) in
    inl (record { deadline = deadline; spare_capacity = answers.0; is = answers.1; text = puts.0; done = puts.1 })

pub full_put : (words : DeadlineWords) (query : PlanPoints) (number : ℕ) (net : Plan) (from to : PointId) → net ≡ query.net → (found : Result Deadline DeadlineFault) → found ≡ Err Full → Answers net from to found
    → (put : List ℕ) (end : End) → put ≡ fault_line (bounds_limit_fault (goal_number words.notation number)) → end ≡ fault_end (bounds_limit_fault (goal_number words.notation number)) → deadline_answers words query number put end
full_put words query number net from to same_net found same is put end line done =
    let full : IsFull net = subst (Answers net from to) same is in
    inr (record { full = subst IsFull same_net full; line = line; done = done })

-- ---- one answer
pub deadline_answers_once : IsSingleAtLine deadline_answers
deadline_answers_once words query number a b x y (inl puts) (inl also) =
    let same = answer_one query.net query.from query.to puts.deadline also.deadline puts.is also.is in
    (puts.text ∙ (ap (deadline_text words) same ∙ sym also.text), puts.done ∙ (ap deadline_end same ∙ sym also.done))
deadline_answers_once words query number a b x y (inl puts) (inr also) = absurd (puts.spare_capacity also.full)
deadline_answers_once words query number a b x y (inr puts) (inl also) = absurd (also.spare_capacity puts.full)
deadline_answers_once words query number a b x y (inr puts) (inr also) = (puts.line ∙ sym also.line, puts.done ∙ sym also.done)
