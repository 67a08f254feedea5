-- The input of `judge`, by the grammars: a plan, and after it a certificate.
use Rattle.std.specs.Prelude.{ℕ}
use Rattle.net_model.specs.Network.{Plan}
use Rattle.command_engine.specs.Grammars.{Grammar}
use Rattle.command_engine.specs.Pairs.{then_grammar}
use Rattle.input_texts.specs.ProofInputs.{proof_texts}
use Rattle.input_texts.specs.declared.proof_input.Proof.{Proof}
use Rattle.input_texts.specs.PlanInput.{plan_in}
use Rattle.common_answers.specs.declared.faults.Fault.{Fault}
use Rattle.judge_command.specs.declared.judge_question.Judge.{Judge}

-- the grammar of what `judge` judges by its words, if so many lines stand before it in the input: a certificate of the kind that they say
abbrev pub judged_texts : Judge → ℕ → Grammar Proof Fault
judged_texts judge = proof_texts judge.kind

-- the grammar of a plan of the form that the words of `judge` say, with which the input begins, and what it judges after it
abbrev pub judge_grammar : Judge → Grammar (Plan × Proof) Fault
judge_grammar judge = then_grammar (plan_in judge.form) (judged_texts judge) 0
