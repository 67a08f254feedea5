-- What the task says of the delta edges is so.
use Rattle.std.proofs.Common.{sym, subst}
use Rattle.net_model.specs.Network.{IsPoint}
use Rattle.parallel_rounds.proofs.worker_rows.row_of.Goals as goal

pub row_after-requires : goal.row_after-requires
row_after-requires g c =
    let informed = c.requires.informed c.if-task.true in record {
      fits = c.requires.fits;
      target = subst (IsPoint c.args.task.now.net.now) (sym c.target-target.ensures) c.requires.target;
      within = c.requires.within;
      count = informed.count;
      delta = informed.of_table;
      met = informed.met c.target-target.result;
    }
