use Rattle.network_closure.proofs.VerdictLemmas.{law_closing_decides as proof}
use Rattle.network_closure.proofs.laws.law_closing_decides.Goals as goal

pub returns : goal.returns
returns c = proof
