-- Any number of texts, each after a line that opens it under a key, up to a line that closes them: what a reader of them does.
use Rattle.std.specs.Prelude.{ℕ, List, [], ◌∷◌, ◌++◌}
use Rattle.texts.specs.Limits.{most_line}
use Rattle.command_engine.specs.Readers.{Reader}
use Rattle.command_engine.specs.declared.machines.Stop.{Stop}
use Rattle.command_engine.specs.declared.line_texts.Parse.{Parse}
use Rattle.command_engine.specs.declared.line_texts.Parse.TheVariants.{Continue, Parsed, Refused}
use Rattle.text_sequence.specs.Between.{Between}
use Rattle.text_sequence.specs.declared.separators.Separator.{Separator}
use Rattle.text_sequence.specs.declared.separators.Separator.TheVariants.{Passes, Opens, Closes, Refuses}
use Rattle.text_sequence.specs.declared.series.Series.{Series}
use Rattle.text_sequence.specs.declared.series.Series.TheVariants as at

-- before the first line
abbrev pub initial_series : {O K V S : Type 0} → O → Series O K V S
initial_series separators = at.Between separators []

module _ {O K S V F : Type 0} (between : Between K V F) (inner : Reader S V F) (start : S) where
  abbrev pub opened : O → List (K × V) → Separator K F → Parse (Series O K V S) (List (K × V)) F
  opened separators done Passes = Continue (at.Between separators done)
  opened separators done (Opens key) = Continue (at.Within separators done key start)
  opened separators done Closes = Parsed done
  opened separators done (Refuses fault) = Refused fault

  abbrev pub read_within : O → List (K × V) → K → Parse S V F → Parse (Series O K V S) (List (K × V)) F
  read_within separators done key (Continue text) = Continue (at.Within separators done key text)
  read_within separators done key (Parsed value) = Continue (at.Between separators (done ++ (key, value) ∷ []))
  read_within separators done key (Refused fault) = Refused fault

  abbrev pub longest_of : Series O K V S → ℕ
  longest_of (at.Between separators done) = most_line
  longest_of (at.Within separators done key text) = inner.longest text

  abbrev pub reads_of : Series O K V S → ℕ → List ℕ → Parse (Series O K V S) (List (K × V)) F
  reads_of (at.Between separators done) number line = opened separators done (between.opens done number line)
  reads_of (at.Within separators done key text) number line = read_within separators done key (inner.reads text number line)

  abbrev pub stops_of : Series O K V S → ℕ → Stop → F
  stops_of (at.Between separators done) number stop = between.stops done number stop
  stops_of (at.Within separators done key text) number stop = inner.stops text number stop

  abbrev pub series_reader : Reader (Series O K V S) (List (K × V)) F
  series_reader = record { longest = longest_of; reads = reads_of; stops = stops_of }
