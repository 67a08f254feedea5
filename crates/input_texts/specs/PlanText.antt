-- A plan text as a text that is read line by line, which says the delay and the parts that it declares.
use Rattle.std.specs.Prelude.{ℕ, Result, Ok, Err}
use Rattle.texts.specs.Words.{words}
use Rattle.net_model.specs.declared.format.FormatKind.{FormatKind}
use Rattle.plan_format.specs.PlanReading.{initial, plan_line_in, advanced_plan, missing}
use Rattle.plan_format.specs.declared.plan_line.PlanLine.{PlanLine}
use Rattle.plan_format.specs.declared.plan_line.PlanLine.TheVariants as line
use Rattle.texts.specs.Limits.{most_line}
use Rattle.command_engine.specs.Readers.{Reader}
use Rattle.command_engine.specs.declared.line_texts.Parse.{Parse}
use Rattle.command_engine.specs.declared.line_texts.Parse.TheVariants.{Continue, Parsed, Refused}
use Rattle.common_answers.specs.Faults.{stop_fault}
use Rattle.common_answers.specs.declared.faults.Fault.{Fault}
use Rattle.common_answers.specs.declared.faults.Fault.TheVariants.{Format}
use Rattle.input_texts.specs.BuiltPlans.{DeclaredParts}
use Rattle.input_texts.specs.declared.plan_text.PlanText.{PlanText}

-- before the first line
abbrev pub initial_plan : PlanText
initial_plan = record { reader = initial }

-- what a line brings, by what it says in its place
abbrev pub parts_step : PlanText → ℕ → Result PlanLine FormatKind → Parse PlanText DeclaredParts Fault
parts_step text number (Ok line.End) = Parsed (record { delay = text.reader.delay; parts = text.reader.parts; lines = text.reader.lines })
parts_step text number (Ok said) = Continue (record { reader = advanced_plan text.reader number said })
parts_step text number (Err kind) = Refused (Format number kind)

-- the reader of plan texts
abbrev pub parts_reader : Reader PlanText DeclaredParts Fault
parts_reader = record {
  longest = λ text. most_line;
  reads = λ text number bytes. parts_step text number (plan_line_in text.reader.section (words bytes));
  stops = λ text number stop. stop_fault number stop (missing text.reader.section);
}
