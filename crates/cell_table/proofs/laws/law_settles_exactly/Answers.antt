use Rattle.cell_table.proofs.LawLemmas.{law_settles_exactly as proof}
use Rattle.cell_table.proofs.laws.law_settles_exactly.Goals as goal

pub returns : goal.returns
returns c = proof
