-- What `judge` puts ends a run by an answer.
use Rattle.std.proofs.Common.{ℕ, List}
use Rattle.net_model.specs.Network.{Plan}
use Rattle.net_model.specs.ShownForm.{shown_form}
use Rattle.cert_checker.specs.Judgement.{judgement_of}
use Rattle.cert_checker.specs.declared.judgement.Judgement.{Judgement}
use Rattle.cert_checker.specs.declared.judgement.Judgement.TheVariants.{Accepted, Refused as Rejected}
use Rattle.command_engine.specs.declared.endings.End.{End}
use Rattle.command_contracts.specs.Causes.{IsAnswer}
use Rattle.judge_command.specs.JudgePromise.{PutsJudgement}
use Rattle.judge_command.specs.JudgeAnswers.{PutsProof, judgement_end, strong_judgement_end}
use Rattle.strong_plan.specs.Judgement.{judgement_of as strong_judgement_of}
use Rattle.strong_plan.specs.declared.judgement.StrongJudgement.{StrongJudgement}
use Rattle.strong_plan.specs.declared.judgement.StrongJudgement.TheVariants as strong
use Rattle.input_texts.specs.declared.proof_input.Proof.{Proof}
use Rattle.input_texts.specs.declared.proof_input.Proof.TheVariants.{Control, Strong}
use Rattle.command_contracts.proofs.CauseLemmas.{answers_as}

judgement_answers : (judgement : Judgement) → IsAnswer (judgement_end judgement)
judgement_answers (Accepted claim) = tt
judgement_answers (Rejected line why) = tt

strong_judgement_answers : (judgement : StrongJudgement) → IsAnswer (strong_judgement_end judgement)
strong_judgement_answers strong.Accepted = tt
strong_judgement_answers (strong.Refused line why) = tt

proof_answers : (net : Plan) (proof : Proof) (put : List ℕ) (end : End) → PutsProof net proof put end → IsAnswer end
proof_answers net (Control cert) put end puts = answers_as end (judgement_end (judgement_of (shown_form net) cert)) puts.1 (judgement_answers (judgement_of (shown_form net) cert))
proof_answers net (Strong cert) put end puts = answers_as end (strong_judgement_end (strong_judgement_of net cert)) puts.1 (strong_judgement_answers (strong_judgement_of net cert))

pub judged_answers : (value : Plan × Proof) (number : ℕ) (put : List ℕ) (end : End) → PutsJudgement value put end → IsAnswer end
judged_answers value number put end puts = proof_answers value.0 value.1 put end puts
