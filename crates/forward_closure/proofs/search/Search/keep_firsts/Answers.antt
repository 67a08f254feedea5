use Rattle.std.proofs.Common.{sym, subst, ◌∙◌}
use Rattle.std.specs.List.{All}
use Rattle.net_model.specs.Network.{Plan}
use Rattle.forward_closure.specs.Rows.{IsFirstInto}
use Rattle.forward_closure.proofs.search.Search.keep_firsts.Goals as goal

pub set-requires : goal.set-requires
set-requires c = subst (λ (net : Plan). All (IsFirstInto net c.args.target) c.in_ok-firsts.firsts.items) (sym (c.self.invariant.firsts ∙ c.self.view_is)) (c.in_ok-firsts.ensures c.args.self.now c.args.target c.requires)
