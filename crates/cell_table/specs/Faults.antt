-- When there are no cells.
use Rattle.std.specs.Prelude.{◌≡◌, ◌<◌}
use Rattle.net_model.specs.Network.{Plan}
use Rattle.cell_table.specs.Limits.{key_count, most_keys}
use Rattle.cell_table.specs.declared.fault.CellFault.{CellFault}
use Rattle.cell_table.specs.declared.fault.CellFault.TheVariants.{TooMany, OutOfMemory}

-- `TooMany` has the number of keys, which is more than the most; there may be no memory at any time
abbrev pub IsCellFault : Plan → CellFault → Type 0
IsCellFault net (TooMany keys) = (most_keys < key_count net) × (keys ≡ key_count net)
IsCellFault net OutOfMemory = Unit {0}
