-- A desk and a seat at it, as callers see them, and the answers to a post, a read and a look. This project's own choice.
use Rattle.std.specs.Prelude.{◌≡◌, ℕ, ◌<◌, length, Option, Some, None}
use Rattle.atomic_table.specs.Seated.{TableId}
use Rattle.shared_seats.specs.Seats.{SeatSeen}
use Rattle.net_model.specs.declared.ids.LinkId.{LinkId}
use Rattle.sensor_desk.specs.Steps.{IsFoundMoment}
use Rattle.sensor_desk.specs.Views.{View, posted, read, looked}
use Rattle.sensor_desk.specs.Words.{held}
use Rattle.sensor_desk.specs.declared.post_result.Posted.{Posted}
use Rattle.sensor_desk.specs.declared.post_result.Posted.TheVariants.{First, Before}
use Rattle.sensor_desk.specs.declared.view.About.{About}

-- which desk it is, and what it is about
pub record DeskSeen : Type 0 where
  pub id : TableId
  pub about : About

-- the words of the desk to which a seat belongs, and what the seat knows
abbrev pub DeskSeatSeen : Type 0
DeskSeatSeen = SeatSeen View

-- a seat comes from a desk
pub record IsSeatOfDesk (desk : DeskSeen) (seat : DeskSeatSeen) : Type 0 where
  pub desk_is : seat.table ≡ desk.id
  pub about_is : seat.view.about ≡ desk.about

-- a link has a word at a desk
abbrev pub HasLink : DeskSeen → LinkId → Type 0
HasLink desk link = link.0 < length desk.about.net.value.links

-- the answer to a post, by what stood
abbrev pub posted_answer : Option ℕ → Posted
posted_answer None = First
posted_answer (Some moment) = Before moment

-- a step of a seat at a link: its answer, and what the seat knows afterwards, follow from the word that it found
pub record Steps {X : Type 0} (answer_of : ℕ → X) (view_after : View → LinkId → ℕ → View) (before after : DeskSeatSeen) (link : LinkId)
    (result : X) : Type 0 where
  pub word : ℕ
  pub found : IsFoundMoment before.view link word
  pub given : result ≡ answer_of word
  pub after_is : after ≡ record { table = before.table; view = view_after before.view link word }

-- a seat posted a moment for a link: it was the first exactly if nothing stood
abbrev pub Posts : DeskSeatSeen → DeskSeatSeen → LinkId → (moment : ℕ) → Posted → Type 0
Posts before after link moment result =
    Steps (λ word. posted_answer (held word)) (λ view at word. posted view at word moment) before after link result

-- a seat read what stands for a link
abbrev pub ReadsLink : DeskSeatSeen → DeskSeatSeen → LinkId → Option ℕ → Type 0
ReadsLink before after link result = Steps held read before after link result

-- a seat looked at what stands for a link, and noted nothing
abbrev pub Looks : DeskSeatSeen → DeskSeatSeen → LinkId → Option ℕ → Type 0
Looks before after link result = Steps held looked before after link result
