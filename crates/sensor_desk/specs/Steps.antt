-- What the seats of a desk learn from their steps. This project's own choice.
use Rattle.std.specs.Prelude.{◌≡◌, ℕ, ◌-◌}
use Rattle.net_model.specs.declared.ids.LinkId.{LinkId}
use Rattle.sensor_desk.specs.DeskHistory.{Entries, moment_at}
use Rattle.sensor_desk.specs.DeskRule.{IsPastOfDesk}
use Rattle.sensor_desk.specs.Views.{View, posted, read, looked}
use Rattle.sensor_desk.specs.Words.{held, place_of_word}

-- what a seat learns from the word of a link: the word says what stands for the link after a history in which all that the seat has noted stands
pub record IsFoundMoment (view : View) (link : LinkId) (word : ℕ) : Type 0 where
  pub entries : Entries
  pub past : IsPastOfDesk view entries
  pub is : held word ≡ moment_at entries link

-- a seat learned from a step at the word of a link what it found; it has another view afterwards
pub record StepFound (after_of : View → LinkId → View) (place : ℕ) (view : View) (word : ℕ) (after : View) : Type 0 where
  pub link : LinkId
  pub at : place_of_word link ≡ place
  pub found : IsFoundMoment view link word
  pub is : after ≡ after_of view link

abbrev pub posting : (place first second : ℕ) → View → (word : ℕ) → View → Type 0
posting place first second view word after = StepFound (λ view link. posted view link word (second - 1)) place view word after

abbrev pub reading : (place first second : ℕ) → View → (word : ℕ) → View → Type 0
reading place first second view word after = StepFound (λ view link. read view link word) place view word after

abbrev pub looking : (place first second : ℕ) → View → (word : ℕ) → View → Type 0
looking place first second view word after = StepFound (λ view link. looked view link word) place view word after
