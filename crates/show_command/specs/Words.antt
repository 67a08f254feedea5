-- Which words say uses of `show`.
use Rattle.std.specs.Prelude.{◌≡◌, List, codes}
use Rattle.command_words.specs.Arguments.{is_given}
use Rattle.command_words.specs.SpelledWords.{Use, Says}
use Rattle.command_words.specs.Syntax.{Syntax, Text}
use Rattle.input_texts.specs.PlanInput.{in_notation, json_name, notation_by}
use Rattle.show_command.specs.declared.show_question.Show.{Show}

-- the words say uses of this command: this form of the plan that is read, which has its own delay, and this notation of the one
-- that is put
pub record SayForms (command : Syntax) (show : Show) (words : List Text) : Type 0 where
  pub uses : List Use
  pub says : Says command words uses
  pub read : in_notation (notation_by (is_given json_name uses)) ≡ show.form
  pub put : notation_by (is_given (codes "print-json") uses) ≡ show.print
