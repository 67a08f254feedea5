-- The command `forge`: a network that is forged out of a number, its verdict, and what the judge says of the certificate of it.
use Rattle.std.specs.Prelude.{◌≡◌, ◌⊎◌, ℕ, List, [], ◌∷◌, ◌++◌, codes, fold, length, max, Option, Some, None, Ok}
use Rattle.std.specs.Fmt.{decimal}
use Rattle.std.specs.Option.{option_and_then}
use Rattle.texts.specs.PrintedLines.{printed_line}
use Rattle.net_model.specs.BuiltNetwork.{built}
use Rattle.net_model.specs.Network.{Plan}
use Rattle.closure_model.specs.Tables.{edges_of}
use Rattle.strategy_model.specs.Control.{IsEarliest}
use Rattle.cert_format.specs.declared.certificate.Certificate.{Certificate}
use Rattle.cert_format.specs.declared.certificate.Certificate.TheVariants.{Refutation, TableProof}
use Rattle.cert_checker.specs.Judgement.{judgement_of}
use Rattle.cert_checker.specs.declared.judgement.Judgement.{Judgement}
use Rattle.cert_checker.specs.declared.judgement.Judgement.TheVariants.{Accepted, Refused}
use Rattle.refutation_certificates.specs.Refutations.{Refutes}
use Rattle.closure_certificates.specs.Certified.{Proves}
use Rattle.situation_player.specs.ForgedParts.{forged_parts, most_tasks}
use Rattle.command_words.specs.Arguments.{Arguments, operand_at, option_at}
use Rattle.command_words.specs.Syntax.{Syntax, Text}
use Rattle.command_contracts.specs.Counts.{count_within, number_within}
use Rattle.command_contracts.specs.Programs.{Program, prints}
use Rattle.common_answers.specs.VerdictLines.{controllable_line, refuted_line}
use Rattle.play_command.specs.PlayedSituation.{situation_of}
use Rattle.command_contracts.specs.WorkerCounts.{workers_of, workers_name}
use Rattle.play_command.specs.declared.forged_network.ForgeWords.{ForgeWords}
use Rattle.command_contracts.specs.declared.no_input.NoInputEnd.{NoInputEnd}
use Rattle.command_contracts.specs.declared.no_input.NoInputEnd.TheVariants as ends
use Rattle.play_command.specs.declared.which_situation.WhichSituation.TheVariants.{Longest}

-- ---- the words

-- the greatest number out of which a network is forged
abbrev pub most_forge_number : ℕ
most_forge_number = 2147483647

-- the number, if a word is given
abbrev pub number_given : Option Text → Option ℕ
number_given None = None
number_given (Some word) = number_within most_forge_number word

-- the count of tasks, if a word is given
abbrev pub tasks_given : Option Text → Option ℕ
tasks_given None = None
tasks_given (Some word) = count_within most_tasks word

-- what is forged by a number and a count of tasks, if both are given
abbrev pub forge_words : Option ℕ → Option ℕ → Option ForgeWords
forge_words (Some number) (Some tasks) = Some (record { number = number; tasks = tasks })
forge_words number tasks = None

-- `forge` takes the number, the count of tasks, and a number of workers, which decides nothing of the request
abbrev pub forge_syntax : Syntax
forge_syntax = record { flags = []; options = workers_name ∷ []; operands = codes "N" ∷ codes "TASKS" ∷ [] }

abbrev pub forge_request : Arguments → Option ForgeWords
forge_request arguments =
    option_and_then (λ workers. forge_words (number_given (operand_at 0 arguments)) (tasks_given (operand_at 1 arguments))) (workers_of (option_at 0 arguments))

-- ---- what is printed

-- the line of a word and a number
abbrev pub count_line : (what : List ℕ) → ℕ → List ℕ
count_line what count = printed_line (what ∷ decimal count ∷ [])

-- how many points, links and bounds a network has
abbrev pub counts_text : Plan → List ℕ
counts_text net = count_line (codes "points") (length net.points) ++
    (count_line (codes "links") (length net.links) ++ count_line (codes "bounds") (length net.bounds))

-- what is put of a controllable network: how many entries its table proof has, and the last moment of its longest day
abbrev pub controllable_text : (entries last : ℕ) → List ℕ
controllable_text entries last = controllable_line ++ (count_line (codes "entries") entries ++ count_line (codes "last") last)

-- what is put of another: how many lines its refutation has
abbrev pub refuted_text : (lines : ℕ) → List ℕ
refuted_text lines = refuted_line ++ count_line (codes "lines") lines

-- how many rule lines or entries a certificate has
abbrev pub size_of : Certificate → ℕ
size_of (Refutation lines walk) = length lines
size_of (TableProof order entries) = length entries

-- the greatest of these moments, or 0 if there are none
abbrev pub greatest_of : List ℕ → ℕ
greatest_of moments = fold max 0 moments

-- a moment is the last one of the longest day of a network: the greatest of the earliest schedule if each link lasts its longest duration
pub record IsLastMoment (net : Plan) (last : ℕ) : Type 0 where
  pub schedule : List ℕ
  pub earliest : IsEarliest net (situation_of Longest net) schedule
  pub is : last ≡ greatest_of schedule

-- what is printed of a judgement
abbrev pub judged_line : Judgement → List ℕ
judged_line (Accepted claim) = printed_line (codes "accepted" ∷ [])
judged_line (Refused line why) = printed_line (codes "refused" ∷ [])

-- what is put after a text is so
abbrev pub PutsAfter : (List ℕ → Type 0) → (before after : List ℕ) → Type 0
PutsAfter Is before after = (more : List ℕ) × (after ≡ before ++ more) × Is more

-- It is printed that a network is controllable, and it is: how many edges its closure has, the last moment of its longest day, and what the judge says of its
-- table proof, which it accepts.
pub record PrintsControllable (net : Plan) (more : List ℕ) (end : NoInputEnd) : Type 0 where
  pub cert : Certificate
  pub proves : Proves net cert
  pub last : ℕ
  pub is_last : IsLastMoment net last
  pub is : more ≡ controllable_text (length (edges_of proves.of.table)) last ++ judged_line (judgement_of net cert)
  pub reported : end ≡ ends.Printed

-- It is printed that a network is not controllable, and it is not: how many lines its refutation has, and what the judge says of that, which it accepts.
pub record PrintsRefuted (net : Plan) (more : List ℕ) (end : NoInputEnd) : Type 0 where
  pub cert : Certificate
  pub refutes : Refutes net cert
  pub is : more ≡ refuted_text (size_of cert) ++ judged_line (judgement_of net cert)
  pub reported : end ≡ ends.Refuted

-- the verdict of a network is printed
abbrev pub PrintsVerdict : Plan → List ℕ → NoInputEnd → Type 0
PrintsVerdict net more end = PrintsControllable net more end ⊎ PrintsRefuted net more end

-- What `forge` prints: of the network that is built of the parts that are forged, how many points, links and bounds it has, and then its verdict.
pub record PrintsForged (words : ForgeWords) (put : List ℕ) (end : NoInputEnd) : Type 0 where
  pub net : Plan
  pub forged : built (forged_parts words.number words.tasks) ≡ Ok net
  pub verdict : PutsAfter (λ more. PrintsVerdict net more end) (counts_text net) put

-- the program of `forge`
abbrev pub forge_program : ForgeWords → Program
forge_program words = prints (PrintsForged words)
