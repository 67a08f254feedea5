-- The grammar of any number of texts, each after a line that opens it, up to a line that closes them; it knows no reader. This project's
-- own choice.
use Rattle.std.specs.Prelude.{◌≡◌, ◌⊎◌, ℕ, ◌+◌, List, [], ◌∷◌, ◌++◌}
use Rattle.texts.specs.Limits.{most_line}
use Rattle.command_engine.specs.Grammars.{Grammar, Next, Line, NoLine, number_after}
use Rattle.text_sequence.specs.Between.{Between}
use Rattle.text_sequence.specs.declared.separators.Separator.TheVariants.{Passes, Opens, Closes, Refuses}

-- Where lines lead: to these texts, each under its key; or to these and the lines of one more, before which so many lines stand in the
-- input.
pub data Reached (K V : Type 0) : Type 0 where
  Past : List (K × V) → Reached K V
  Inside : List (K × V) → K → ℕ → List (List ℕ) → Reached K V

module _ {K V F : Type 0} (between : Between K V F) (texts : ℕ → Grammar V F) where
  -- one line more leads on: it is passed over, or opens a text; or it goes on with a text, or ends it
  abbrev pub LeadsOn : Reached K V → ℕ → List ℕ → Reached K V → Type 0
  LeadsOn (Past done) number line next =
      ((between.opens done number line ≡ Passes) × (next ≡ Past done))
      ⊎ ((key : K) × (between.opens done number line ≡ Opens key) × (next ≡ Inside done key number []))
  LeadsOn (Inside done key past text) number line next =
      ((longest : ℕ) × (texts past).longest (text ++ line ∷ []) longest × (next ≡ Inside done key past (text ++ line ∷ [])))
      ⊎ ((value : V) × (texts past).declares (text ++ line ∷ []) value [] × (next ≡ Past (done ++ (key, value) ∷ [])))

  -- these lines do, one after another, after so many
  abbrev pub LinesLead : Reached K V → ℕ → List (List ℕ) → Reached K V → Type 0
  LinesLead here past [] there = here ≡ there
  LinesLead here past (line ∷ lines) there = (next : Reached K V) × LeadsOn here (past + 1) line next × LinesLead next (past + 1) lines there

  -- how long the next line may be
  abbrev pub MayHave : Reached K V → ℕ → Type 0
  MayHave (Past done) longest = longest ≡ most_line
  MayHave (Inside done key past text) longest = (texts past).longest text longest

  -- what comes next has a fault
  abbrev pub IsFaulty : Reached K V → ℕ → Next → F → Type 0
  IsFaulty (Past done) number (Line line) fault = between.opens done number line ≡ Refuses fault
  IsFaulty (Past done) number (NoLine stop) fault = between.stops done number stop ≡ fault
  IsFaulty (Inside done key past text) number next fault = (texts past).refuses text next fault

  -- the lines are a series up to the line that closes it, and the rest
  pub record IsSeries (past : ℕ) (lines : List (List ℕ)) (done : List (K × V)) (rest : List (List ℕ)) : Type 0 where
    pub prefix : List (List ℕ)
    pub last : List ℕ
    pub whole : lines ≡ prefix ++ last ∷ rest
    pub lead : LinesLead (Past []) past prefix (Past done)
    pub closes : between.opens done (number_after past prefix) last ≡ Closes

  -- the grammar, if so many lines stand before it in the input
  abbrev pub series_texts : ℕ → Grammar (List (K × V)) F
  series_texts past = record {
    declares = IsSeries past;
    longest = λ lines longest. (there : Reached K V) × LinesLead (Past []) past lines there × MayHave there longest;
    refuses = λ lines next fault.
        (there : Reached K V) × LinesLead (Past []) past lines there × IsFaulty there (number_after past lines) next fault;
  }
