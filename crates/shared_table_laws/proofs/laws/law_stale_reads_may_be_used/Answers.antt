use Rattle.shared_table_laws.proofs.StaleReads.{law_stale_reads_may_be_used}
use Rattle.shared_table_laws.proofs.laws.law_stale_reads_may_be_used.Goals as goal

pub returns : goal.returns
returns c = law_stale_reads_may_be_used
