-- How many keys and seats cells may have. This project's own choice.
use Rattle.std.specs.Prelude.{ℕ, ◌+◌, ◌*◌, length}
use Rattle.net_model.specs.Network.{Plan}

-- how many keys a network has: from each point one to each point, and one with each link as its label
abbrev pub key_count : Plan → ℕ
key_count net = (length net.points + length net.links) * length net.points

-- the most keys of cells
abbrev pub most_keys : ℕ
most_keys = 1000000

-- the most seats of cells, and so the most workers of a sweep
abbrev pub most_cell_seats : ℕ
most_cell_seats = 64
