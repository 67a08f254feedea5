use Rattle.cert_checker.proofs.RefusalLemmas.{one_refusal}
use Rattle.cert_checker.proofs.laws.law_refusals_are_of_one_line.Goals as goal

pub returns : goal.returns
returns c = one_refusal
