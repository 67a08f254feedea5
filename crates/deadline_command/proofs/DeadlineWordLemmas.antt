-- What the words of `deadline` say: two names, the notation of the plan, and a number of workers.
use Rattle.std.proofs.Common.{◌≡◌, ◌↔◌, Bool, true, false, List, [], ◌∷◌, Option, Some, None, codes, IsTrue, refl, sym, ap, ◌∙◌, subst, if◌then◌else◌}
use Rattle.std.specs.Prelude.{slice_get}
use Rattle.net_model.specs.Names.{is_name}
use Rattle.command_words.specs.Arguments.{is_given, operand_texts}
use Rattle.command_words.specs.SpelledWords.{Use}
use Rattle.command_words.specs.Syntax.{Text}
use Rattle.input_texts.specs.PlanInput.{json_name, notation_by}
use Rattle.input_texts.specs.declared.plan_input.Notation.{Notation}
use Rattle.command_contracts.specs.Requests.{requested_by}
use Rattle.command_contracts.specs.WorkerCounts.{WorkersDecideNothing}
use Rattle.command_contracts.proofs.OperandLemmas.{two_texts}
use Rattle.command_contracts.proofs.WorkersLemmas.{decide_nothing_said, said_by_uses}
use Rattle.deadline_command.specs.DeadlineAnswers.{deadline_request, deadline_syntax, deadline_words, name_given}
use Rattle.deadline_command.specs.Words.{SayDeadline}
use Rattle.deadline_command.specs.declared.points.DeadlineWords.{DeadlineWords}

abbrev words_given : Bool → List Text → Option DeadlineWords
words_given json texts = deadline_words (notation_by json) (name_given (slice_get texts 0)) (name_given (slice_get texts 1))

abbrev said_words : List Use → Option DeadlineWords
said_words uses = words_given (is_given json_name uses) (operand_texts uses)

-- the number of workers decides nothing of the request
pub workers_decide_no_deadline : WorkersDecideNothing deadline_syntax deadline_request
workers_decide_no_deadline =
    decide_nothing_said deadline_syntax refl deadline_request said_words (λ uses. refl) refl
    (λ uses others differ. ap (λ (json : Bool). words_given json (operand_texts uses)) (differ.flags json_name refl) ∙ ap (words_given (is_given json_name others)) differ.operands)

-- ---- a word that is a name
given_by : (word name : Text) (so : Bool) → is_name word ≡ so → ◌≡◌ {A = Option Text} (if so then Some word else None) (Some name) → (word ≡ name) × IsTrue (is_name name)
given_by word name true is made =
    let same : word ≡ name = cc in (same, subst (λ (w : Text). IsTrue (is_name w)) same is)
given_by word name false is made = absurd (cc)

given_is : (word name : Text) → name_given (Some word) ≡ Some name → (word ≡ name) × IsTrue (is_name name)
given_is word name made = given_by word name (is_name word) refl made

name_is_given : (name : Text) → IsTrue (is_name name) → name_given (Some name) ≡ Some name
name_is_given name is = ap (λ (so : Bool). if so then Some name else None) is

-- ---- what is said of two words
record AreSaid (json : Bool) (first second : Text) (said : DeadlineWords) : Type 0 where
  notation : notation_by json ≡ said.notation
  from : (first ≡ said.from) × IsTrue (is_name said.from)
  to : (second ≡ said.to) × IsTrue (is_name said.to)

are_said : (json : Bool) (first second : Text) (from to : Option Text) (said : DeadlineWords) → name_given (Some first) ≡ from → name_given (Some second) ≡ to → deadline_words (notation_by json) from to ≡ Some said
    → AreSaid json first second said
are_said json first second None to said one other is = absurd (cc)
are_said json first second (Some from) None said one other is = absurd (cc)
are_said json first second (Some from) (Some to) said one other is =
    let words : record { notation = notation_by json; from = from; to = to } ≡ said = cc in
    subst (AreSaid json first second) words (record { notation = refl; from = given_is first from one; to = given_is second to other })

pub deadline_exactly : (words : List Text) (said : DeadlineWords) → requested_by deadline_syntax deadline_request words ≡ Some said ↔ SayDeadline deadline_syntax said words
deadline_exactly words said = (to, from)
  where
    to : requested_by deadline_syntax deadline_request words ≡ Some said → SayDeadline deadline_syntax said words
    to is =
        let found = (said_by_uses deadline_syntax refl deadline_request said_words (λ uses. refl) words said).0 is in
        let uses = found.0.uses in
        let texts = two_texts uses (codes "FROM") (codes "TO") found.0.says.operands in
        let all = are_said (is_given json_name uses) texts.0 texts.1 (name_given (Some texts.0)) (name_given (Some texts.1)) said refl refl (ap (words_given (is_given json_name uses)) (sym texts.2) ∙ found.1) in
        record {
          say = found.0;
          notation = all.notation;
          operands = texts.2 ∙ (ap (λ (t : Text). t ∷ texts.1 ∷ []) all.from.0 ∙ ap (λ (t : Text). said.from ∷ t ∷ []) all.to.0);
          from = all.from.1;
          to = all.to.1;
        }

    from : SayDeadline deadline_syntax said words → requested_by deadline_syntax deadline_request words ≡ Some said
    from say =
        let uses = say.say.uses in
        let in_it : Notation → Option DeadlineWords = λ n. Some (record { notation = n; from = said.from; to = said.to }) in
        let given : said_words uses ≡ Some said =
        ap (words_given (is_given json_name uses)) say.operands
        ∙ (ap (λ (f : Option Text). deadline_words (notation_by (is_given json_name uses)) f (name_given (Some said.to))) (name_is_given said.from say.from)
        ∙ (ap (deadline_words (notation_by (is_given json_name uses)) (Some said.from)) (name_is_given said.to say.to)
        ∙ ap in_it say.notation)) in
        (said_by_uses deadline_syntax refl deadline_request said_words (λ u. refl) words said).1 (say.say, given)
