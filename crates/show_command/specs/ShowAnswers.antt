-- The command `show`: a plan, and then the same plan, as a plan text or as a JSON document.
use Rattle.std.specs.Prelude.{◌≡◌, ℕ, List, [], ◌∷◌, ◌++◌, codes, Option, Some}
use Rattle.texts.specs.Lines.{lines}
use Rattle.texts.specs.PrintedLines.{printed_line}
use Rattle.net_model.specs.Network.{Plan}
use Rattle.plan_format.specs.PlanParts.{end_words}
use Rattle.plan_format.specs.PlanPrinting.{printed_plan}
use Rattle.plan_json.specs.DocumentText.{document_of, document_text}
use Rattle.command_words.specs.Arguments.{Arguments, flag_at}
use Rattle.command_words.specs.Syntax.{Syntax}
use Rattle.command_engine.specs.Inputs.{AnswersText}
use Rattle.command_engine.specs.declared.endings.End.{End}
use Rattle.command_engine.specs.declared.endings.End.TheVariants as ends
use Rattle.common_answers.specs.Faults.{refusing}
use Rattle.command_contracts.specs.PlanQuestions.{plan_program}
use Rattle.input_texts.specs.PlanInput.{in_notation, json_name, notation_by, plan_in}
use Rattle.command_contracts.specs.Programs.{Program}
use Rattle.input_texts.specs.declared.plan_input.Notation.{Notation}
use Rattle.input_texts.specs.declared.plan_input.Notation.TheVariants.{Text, Json}
use Rattle.show_command.specs.declared.show_question.Show.{Show}

-- what is put of a network in this notation: the plan text, or the document, a line end and a line `end`
abbrev pub shown_plan : Notation → Plan → List ℕ
shown_plan Text net = printed_plan net
shown_plan Json net = document_text (document_of net) ++ 10 ∷ printed_line end_words

-- The plan of a network is put in this notation, and the run is done. `again`: what is put, read as an input in this notation, declares
-- the same network, and nothing stands after it.
pub record PutsPlan (notation : Notation) (net : Plan) (put : List ℕ) (end : End) : Type 0 where
  pub is : put ≡ shown_plan notation net
  pub again : (plan_in (in_notation notation)).declares (lines put) net []
  pub done : end ≡ ends.Done

-- the answer to a network
abbrev pub show_answers : Show → Plan → List ℕ → End → Type 0
show_answers show net put end = PutsPlan show.print net put end

-- What `show` promises: it puts the plan of the network that the input declares, and that is read again as the same network; or the
-- first refusal of the input.
abbrev pub ShowPromise : Show → (input put : List ℕ) → End → Type 0
ShowPromise show input put end = AnswersText (plan_in show.form) refusing (PutsPlan show.print) input put end

-- `show` takes the form of the plan, and the notation in which it is put
abbrev pub show_syntax : Syntax
show_syntax = record { flags = json_name ∷ codes "print-json" ∷ []; options = []; operands = [] }

abbrev pub show_request : Arguments → Option Show
show_request arguments = Some (record { form = in_notation (notation_by (flag_at 0 arguments)); print = notation_by (flag_at 1 arguments) })

-- the program of `show`
abbrev pub show_program : Show → Program
show_program = plan_program (λ show. show.form) (λ show net number. show_answers show net) ShowPromise
