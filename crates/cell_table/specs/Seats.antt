-- What callers see of cells, and as data.
use Rattle.std.specs.Prelude.{◌≡◌, ℕ, List, length, [], refl}
use Rattle.std.specs.Coded.{Coded, code_by, coded×}
use Rattle.atomic_table.specs.Seated.{TableId, table_id_coded}
use Rattle.net_model.specs.Network.{IsPlan}
use Rattle.net_model.specs.declared.ids.PointId.{PointId}
use Rattle.closure_model.specs.Closure.{HoldsDerivable}
use Rattle.closure_model.specs.Keys.{shape_of}
use Rattle.closure_model.specs.Tables.{Graph, IsFor, no_edges}
use Rattle.cell_table.specs.Places.{word_count}
use Rattle.cell_table.specs.Shared.{CellsSeen}
use Rattle.cell_table.specs.contracts.view.About as about
use Rattle.cell_table.specs.declared.view.About.{About}

-- cells as data
abbrev pub cells_code : Coded CellsSeen
cells_code = code_by (TableId × About) (coded× table_id_coded about.the_row.coded) (λ cells. (cells.id, cells.about))
    (λ parts. record { id = parts.0; about = parts.1 }) (λ _. refl)

-- what no cells are about
abbrev pub any_about : About
any_about = record {
  net = record { marker = record {}; value = record { points = []; bounds = []; links = []; delay = 0 } };
  first = record { marker = record {}; value = no_edges record { points = 0; activations = [] } };
  seats = 0;
}

-- the table of words is that of the network, which is sound; and the first table is for it and has derivable edges alone
pub record IsCells (id : TableId) (about : About) (first : Graph) (ends : List PointId) (points : ℕ) : Type 0 where
  pub plan : IsPlan about.net.value
  pub words : id.words ≡ word_count (shape_of about.net.value)
  pub points_are : points ≡ length about.net.value.points
  pub first_is : first ≡ about.first.value
  pub ends_are : ends ≡ first.shape.activations
  pub fits : IsFor about.net.value first
  pub derivable : HoldsDerivable about.net.value first
