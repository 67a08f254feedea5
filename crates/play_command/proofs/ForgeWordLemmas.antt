-- What the words of `forge` say.
use Rattle.std.proofs.Common.{◌≡◌, ◌↔◌, ℕ, ◌<◌, ◌≤◌, ◌^◌, List, [], ◌∷◌, Option, Some, None, codes, refl, sym, ap, ◌∙◌, subst, lit<}
use Rattle.std.specs.Prelude.{slice_get}
use Rattle.std.specs.Fmt.{decimal}
use Rattle.situation_player.specs.ForgedParts.{most_tasks}
use Rattle.command_words.specs.Arguments.{operand_texts}
use Rattle.command_words.specs.SpelledWords.{Use}
use Rattle.command_words.specs.Syntax.{Text}
use Rattle.command_contracts.specs.Counts.{count_within, number_within}
use Rattle.play_command.specs.ForgeCommand.{forge_request, forge_syntax, forge_words, most_forge_number, number_given, tasks_given}
use Rattle.command_contracts.specs.Requests.{requested_by}
use Rattle.play_command.specs.Words.{SayForge}
use Rattle.command_contracts.specs.WorkerCounts.{WorkersDecideNothing}
use Rattle.play_command.specs.declared.forged_network.ForgeWords.{ForgeWords}
use Rattle.command_contracts.proofs.CountLemmas.{count_is, count_read, number_is, number_read}
use Rattle.command_contracts.proofs.OperandLemmas.{two_texts}
use Rattle.command_contracts.proofs.WorkersLemmas.{decide_nothing_said, said_by_uses}

small_number : most_forge_number < 2 ^ 64
small_number = lit< tt

few_tasks : most_tasks < 2 ^ 64
few_tasks = lit< tt

abbrev words_given : List Text → Option ForgeWords
words_given texts = forge_words (number_given (slice_get texts 0)) (tasks_given (slice_get texts 1))

-- the number of workers decides nothing of what is forged
pub workers_decide_no_forging : WorkersDecideNothing forge_syntax forge_request
workers_decide_no_forging =
    decide_nothing_said forge_syntax refl forge_request (λ (uses : List Use). words_given (operand_texts uses)) (λ uses. refl) refl (λ uses others differ. ap words_given differ.operands)

-- what is said of two words
record AreSaid (first second : Text) (said : ForgeWords) : Type 0 where
  number : first ≡ decimal said.number
  within : said.number ≤ most_forge_number
  tasks : second ≡ decimal said.tasks
  some : 1 ≤ said.tasks
  few : said.tasks ≤ most_tasks

said_words : (first second : Text) (number tasks : Option ℕ) (said : ForgeWords) → number_within most_forge_number first ≡ number → count_within most_tasks second ≡ tasks → forge_words number tasks ≡ Some said → AreSaid first second said
said_words first second None tasks said one other is = absurd cc
said_words first second (Some number) None said one other is = absurd cc
said_words first second (Some number) (Some tasks) said one other is =
    let words : record { number = number; tasks = tasks } ≡ said = cc in
    let spelled = number_is most_forge_number small_number first number one in
    let counted = count_is most_tasks few_tasks second tasks other in
    subst (AreSaid first second) words (record { number = spelled.0; within = spelled.1; tasks = counted.0; some = counted.1; few = counted.2 })

pub forge_exactly : (words : List Text) (said : ForgeWords) → requested_by forge_syntax forge_request words ≡ Some said ↔ SayForge forge_syntax said words
forge_exactly words said = (to, from)
  where
    to : requested_by forge_syntax forge_request words ≡ Some said → SayForge forge_syntax said words
    to is =
        let found = (said_by_uses forge_syntax refl forge_request (λ (uses : List Use). words_given (operand_texts uses)) (λ uses. refl) words said).0 is in
        let texts = two_texts found.0.uses (codes "N") (codes "TASKS") found.0.says.operands in
        let all = said_words texts.0 texts.1 (number_within most_forge_number texts.0) (count_within most_tasks texts.1) said refl refl (ap words_given (sym texts.2) ∙ found.1) in
        record {
          say = found.0;
          operands = texts.2 ∙ (ap (λ (t : Text). t ∷ texts.1 ∷ []) all.number ∙ ap (λ (t : Text). decimal said.number ∷ t ∷ []) all.tasks);
          number = all.within;
          tasks = (all.some, all.few);
        }

    from : SayForge forge_syntax said words → requested_by forge_syntax forge_request words ≡ Some said
    from say =
        let number = number_read most_forge_number small_number said.number say.number in
        let tasks = count_read most_tasks few_tasks said.tasks say.tasks.0 say.tasks.1 in
        let given : words_given (operand_texts say.say.uses) ≡ Some said =
        ap words_given say.operands ∙ (ap (λ (n : Option ℕ). forge_words n (count_within most_tasks (decimal said.tasks))) number ∙ ap (forge_words (Some said.number)) tasks) in
        (said_by_uses forge_syntax refl forge_request (λ (uses : List Use). words_given (operand_texts uses)) (λ uses. refl) words said).1 (say.say, given)
