-- What callers see of a seat and of a desk, as data.
use Rattle.std.specs.Prelude.{◌≡◌, ◌+◌, length, [], refl}
use Rattle.std.specs.Coded.{Coded, code_by, coded×}
use Rattle.atomic_table.specs.Seated.{TableId, table_id_coded}
use Rattle.sensor_desk.specs.Desks.{DeskSeen, DeskSeatSeen}
use Rattle.shared_seats.specs.Seats as shared
use Rattle.shared_seats.specs.contracts.noted.Noted as noted
use Rattle.sensor_desk.specs.contracts.view.About as about
use Rattle.sensor_desk.specs.contracts.view.Look as look
use Rattle.sensor_desk.specs.contracts.view.Note as note
use Rattle.sensor_desk.specs.declared.view.About.{About}

abbrev pub desk_code : Coded DeskSeen
desk_code = code_by (TableId × About) (coded× table_id_coded about.the_row.coded) (λ desk. (desk.id, desk.about))
    (λ parts. record { id = parts.0; about = parts.1 }) (λ _. refl)

abbrev pub seat_code : Coded DeskSeatSeen
seat_code = shared.seat_code (noted.the_row about.the_row note.the_row look.the_row).coded

-- what no desk is about
abbrev pub any_about : About
any_about = record { net = record { marker = record {}; value = record { points = []; bounds = []; links = []; delay = 0 } }; seats = 0 }

-- the table has a word more than the network has links
pub record IsDesk (id : TableId) (about : About) : Type 0 where
  pub words : id.words ≡ length about.net.value.links + 1
