-- What callers see of shared words and of a seat, and as data.
use Rattle.std.specs.Prelude.{◌≡◌, ℕ, [], refl}
use Rattle.std.specs.Coded.{Coded, code_by, coded×}
use Rattle.atomic_table.specs.Seated.{TableId, table_id_coded}
use Rattle.atomic_table.specs.declared.shared.Seat.{Seat as Place}
use Rattle.shared_seats.specs.declared.standing.Standing.{Standing}
use Rattle.shared_seats.specs.declared.standing.Standing.TheVariants.{Live, Spent}

-- which words they are, and what they were told when they were made
pub record WordsSeen (K : Type 0) : Type 0 where
  pub id : TableId
  pub key : K

-- the words to which a seat belongs, and what the seat knows
pub record SeatSeen (V : Type 0) : Type 0 where
  pub table : TableId
  pub view : V

-- words as data
abbrev pub words_code : {K : Type 0} → Coded K → Coded (WordsSeen K)
words_code {K} code = code_by (TableId × K) (coded× table_id_coded code) (λ words. (words.id, words.key)) (λ parts. record { id = parts.0; key = parts.1 }) (λ _. refl)

-- a seat as data
abbrev pub seat_code : {V : Type 0} → Coded V → Coded (SeatSeen V)
seat_code {V} code = code_by (TableId × V) (coded× table_id_coded code) (λ seat. (seat.table, seat.view)) (λ parts. record { table = parts.0; view = parts.1 }) (λ _. refl)

module _ {V : Type 0} (nothing : V) where
  -- what a seat with this standing knows
  abbrev pub view_of : Standing V → V
  view_of (Live view) = view
  view_of Spent = nothing

  -- what callers see of a seat of the table
  abbrev pub seen_at : Place (Unit {0}) (Standing V) → SeatSeen V
  seen_at place = record { table = place.table_id; view = view_of place.me.0 }

  -- a seat is live and holds no slot, and its count is the one that it knows
  pub record IsSeated (count : V → ℕ) (place : Place (Unit {0}) (Standing V)) (to_split : ℕ) : Type 0 where
    pub live : place.me ≡ (Live (view_of place.me.0), [])
    pub to_split_is : to_split ≡ count (view_of place.me.0)
