use Rattle.cell_table.proofs.LawLemmas.{law_settles_as_it_closes as proof}
use Rattle.cell_table.proofs.laws.law_settles_as_it_closes.Goals as goal

pub returns : goal.returns
returns c = proof
