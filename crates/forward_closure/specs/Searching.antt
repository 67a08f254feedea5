-- A search as contracts see it: its network.
use Rattle.std.specs.Prelude.{◌≡◌}
use Rattle.std.specs.List.{All}
use Rattle.forward_closure.specs.declared.search.Search.TheInside.{Inside}
use Rattle.network_closure.specs.Saturation.{IsPartialClosure}

-- the table of a search is a partial closure of its network, for which the first edges and all rows in progress are
pub record IsSearching (search : Inside) : Type 0 where
  pub table : IsPartialClosure search.net.now search.table
  pub firsts : search.firsts ≡ search.net.now
  pub rows : All (λ row. row.net ≡ search.net.now) search.stack.items
