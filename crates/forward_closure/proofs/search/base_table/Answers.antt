use Rattle.network_closure.proofs.PartialClosureLemmas.{base_is_partial_closure}
use Rattle.forward_closure.proofs.search.base_table.Goals as goal

pub returns : goal.returns
returns c = base_is_partial_closure c.args.net.now c.in_ok-table.table c.sound.ensures c.in_ok-table.ensures.base c.in_ok-table.ensures.shape
