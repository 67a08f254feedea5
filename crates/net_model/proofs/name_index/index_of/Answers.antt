use Rattle.std.proofs.Common.{map, rules}
use Rattle.std.specs.Ordering.{is_lt}
use Rattle.std.proofs.lemmas.Fn.{always_returns_same}
use Rattle.std.proofs.lemmas.List.MinMax.{ranks_by}
use Rattle.net_model.specs.NameIndex.{entry, entry_cmp}
use Rattle.net_model.proofs.IndexLemmas.{reordered, entry_cmp_total}
use Rattle.net_model.proofs.name_index.index_of.Goals as goal

pub returns : goal.returns
returns g c =
    let names = map g.T.Named.name_of c.args.items.now in
    record {
      places = reordered names c.in_ok-index.index.items c.sort_unstable_by.new.self.items c.sort_unstable_by.ensures.permutation c.in_ok-index.ensures;
      sorted = c.sort_unstable_by.ensures.sorted (λ one other. is_lt (entry_cmp (entry names one) (entry names other))) (ranks_by entry_cmp_total (entry names))
          (always_returns_same _ _ _ (λ a r f called. search rules));
    }
