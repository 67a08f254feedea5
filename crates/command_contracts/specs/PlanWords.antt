-- The words of a command that takes the form of a plan, which is its notation and the requested delay, or that and a number of workers, which decides nothing
-- of the request.
use Rattle.std.specs.Prelude.{◌≡◌, ◌≤◌, ℕ, Bool, [], ◌∷◌, List, codes, Option, Some, None}
use Rattle.std.specs.Fmt.{decimal}
use Rattle.std.specs.Option.{option_and_then, option_map}
use Rattle.net_model.specs.Limits.{most_delay}
use Rattle.command_words.specs.Arguments.{Arguments, flag_at, is_given, option_at, text_given}
use Rattle.command_words.specs.SpelledWords.{Use, Says}
use Rattle.command_words.specs.Syntax.{Syntax, Text}
use Rattle.input_texts.specs.PlanInput.{form_by, json_name, notation_by}
use Rattle.command_contracts.specs.Counts.{number_within}
use Rattle.command_contracts.specs.WorkerCounts.{SayWithWorkers, workers_of, workers_name}
use Rattle.input_texts.specs.declared.delay.Delay.{Delay}
use Rattle.input_texts.specs.declared.delay.Delay.TheVariants.{Own, Moments}
use Rattle.input_texts.specs.declared.plan_input.PlanForm.{PlanForm}

-- the name of the option
abbrev pub delay_name : Text
delay_name = codes "delay"

-- the requested delay, by the value of the option: the plan's own if it is not given
abbrev pub delay_given : Option Text → Option Delay
delay_given None = Some Own
delay_given (Some word) = option_map (λ moments. Moments moments) (number_within most_delay word)

-- the form of the plan, by whether the flag `--json` is given, and the value of the option `--delay`
abbrev pub form_given : Bool → Option Text → Option PlanForm
form_given json value = option_map (form_by json) (delay_given value)

-- the value of the option, if it is given, is a number up to the most, as its decimal, and so much is requested
abbrev pub SaysDelay : Option Text → Delay → Type 0
SaysDelay None delay = delay ≡ Own
SaysDelay (Some text) delay = (moments : ℕ) × (text ≡ decimal moments) × (moments ≤ most_delay) × (delay ≡ Moments moments)

-- these uses say this form of the plan
abbrev pub SaysForm : List Use → PlanForm → Type 0
SaysForm uses form = (notation_by (is_given json_name uses) ≡ form.notation) × SaysDelay (text_given delay_name uses) form.delay

-- the form of the plan alone
abbrev pub form_syntax : Syntax
form_syntax = record { flags = json_name ∷ []; options = delay_name ∷ []; operands = [] }

-- what arguments ask of a command that takes it: the request that is made of the form
abbrev pub form_request : {A : Type 0} → (PlanForm → A) → Arguments → Option A
form_request make arguments = option_map make (form_given (flag_at 0 arguments) (option_at 0 arguments))

-- the form of the plan and a number of workers
abbrev pub plan_syntax : Syntax
plan_syntax = record { flags = json_name ∷ []; options = workers_name ∷ delay_name ∷ []; operands = [] }

abbrev pub requested_form : Arguments → Option PlanForm
requested_form arguments = option_and_then (λ workers. form_given (flag_at 0 arguments) (option_at 1 arguments)) (workers_of (option_at 0 arguments))

-- the words say uses of this command: this form of the plan
pub record SayForm (command : Syntax) (form : PlanForm) (words : List Text) : Type 0 where
  pub uses : List Use
  pub says : Says command words uses
  pub given : SaysForm uses form

-- the words say uses of this command: this form of the plan, and a number of workers or none
pub record SayFormAndWorkers (command : Syntax) (form : PlanForm) (words : List Text) : Type 0 where
  pub say : SayWithWorkers command words
  pub given : SaysForm say.uses form
