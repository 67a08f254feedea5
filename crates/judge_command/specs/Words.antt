-- Which words say uses of `judge`.
use Rattle.std.specs.Prelude.{◌≡◌, List, None}
use Rattle.command_words.specs.Arguments.{is_given, text_given}
use Rattle.command_words.specs.SpelledWords.{Use, Says}
use Rattle.command_words.specs.Syntax.{Syntax, Text}
use Rattle.input_texts.specs.ProofInputs.{kind_by, strong_name}
use Rattle.input_texts.specs.declared.proof_input.ProofKind.TheVariants.{Strong}
use Rattle.command_contracts.specs.PlanWords.{SaysForm, delay_name}
use Rattle.judge_command.specs.declared.judge_question.Judge.{Judge}

-- the words say uses of this command: this form of the plan, and this kind of certificate; of a strong one no delay is given
pub record SayJudge (command : Syntax) (judge : Judge) (words : List Text) : Type 0 where
  pub uses : List Use
  pub says : Says command words uses
  pub given : SaysForm uses judge.form
  pub kind : kind_by (is_given strong_name uses) ≡ judge.kind
  pub alone : judge.kind ≡ Strong → text_given delay_name uses ≡ None
