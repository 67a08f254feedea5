-- What is read of words: that it is spelled by them, and that the matches of `clap` say it.
use Rattle.std.proofs.Common.{◌≡◌, suc, Bool, true, false, not, List, [], ◌∷◌, ◌++◌, map, length, take, Option, Some, None, inl, inr, refl, sym, ap, ap₂, ◌∙◌, subst, if◌then◌else◌, append-nil, append_assoc}
use Rattle.std.specs.Prelude.{slice_get}
use Rattle.std.proofs.lemmas.Bool.{or_parts}
use Rattle.std.proofs.lemmas.List.{map-append}
use Rattle.std.specs.List.{list_any}
use Rattle.std.specs.Option.{option_and_then}
use Rattle.clap.specs.Words.{first_value, fault_of, rows_of}
use Rattle.clap.specs.Faults.{is_simple_and_free}
use Rattle.clap.specs.Simple.{is_simple, matches_of}
use Rattle.clap.specs.Walk.{first_of}
use Rattle.clap.specs.declared.parser.matches.Found.{Found}
use Rattle.clap.proofs.WalkLemmas.{first_value-rows}
use Rattle.command_words.specs.ClapRules.{app_for, arguments_found}
use Rattle.command_words.specs.Syntax.{Text, Syntax, is_in, asks, is_sound, dashed, are_apart}
use Rattle.command_words.specs.SpelledWords.{Use, flag, valued, operand, name_of, is_plain, Spells, SpellsAll, IsOf, AreOf, operand_names}
use Rattle.command_words.specs.Arguments.{is_given}
use Rattle.command_words.specs.ArgumentReading.{is_stray, is_refused, count_operands, long_of, with_use, Reads, uses_from, with_next, after_plain, after_word, after_value, complete_by, arguments_of}
use Rattle.command_words.proofs.RuleLemmas.{app_is}
use Rattle.command_words.proofs.SoundLemmas.{option_apart, operand_not, slice_in}
use Rattle.command_words.proofs.DefaultLemmas.{Fits}
use Rattle.command_words.proofs.WalkLemmas.{Plain, after_long}
use Rattle.command_words.proofs.UseLemmas.{operand_count, operands_append}
use Rattle.command_words.proofs.FaultLemmas.{simple, simple_and_free, matches_say, refusals_say}
use Rattle.command_words.proofs.SpelledLemmas.{long_is, plain_is, of_more, given_in, apart_more, take_more}

pub plain_words : (words : List Text) → list_any is_refused words ≡ false → Plain words
plain_words [] none = tt
plain_words (word ∷ words) none =
    let each = or_parts (is_refused word) (list_any is_refused words) none in
    ((or_parts (is_stray word) (asks word) each.0).0, plain_words words each.1)

-- what holds of the uses that are read so far
pub record Fine (command : Syntax) (uses : List Use) : Type 0 where
  pub known : AreOf command uses
  pub once : are_apart (map name_of uses) ≡ true
  pub turn : operand_names uses ≡ take (count_operands uses) command.operands

-- the words say the uses by which these grew
pub record Grew (words : List Text) (uses more : List Use) : Type 0 where
  pub added : List Use
  pub same : more ≡ uses ++ added
  pub spelled : SpellsAll added words

module _ (command : Syntax) (sound : is_sound command ≡ true) where
  abbrev Read : List Text → List Use → List Use → Type 0
  Read words uses more = Grew words uses more × Fine command more

  abbrev Goes : Reads → List Text → Type 0
  Goes go words = (uses more : List Use) → Fine command uses → go uses ≡ Some more → Read words uses more

  one_more : (uses : List Use) (u : Use) → Fine command uses → IsOf command u → is_given (name_of u) uses ≡ false
      → operand_names (uses ++ u ∷ []) ≡ take (count_operands (uses ++ u ∷ [])) command.operands → Fine command (uses ++ u ∷ [])
  one_more uses u fine is not_given turn = record {
    known = of_more command uses u fine.known is;
    once = ap are_apart (map-append name_of uses (u ∷ [])) ∙ apart_more (map name_of uses) (name_of u) fine.once (sym (given_in (name_of u) uses) ∙ not_given);
    turn = turn;
  }

  -- a use that is no operand leaves the operands
  same_turn : (uses : List Use) (u : Use) → Fine command uses → operand_names (u ∷ []) ≡ [] → operand_names (uses ++ u ∷ []) ≡ take (count_operands (uses ++ u ∷ [])) command.operands
  same_turn uses u fine none =
      let same : operand_names (uses ++ u ∷ []) ≡ operand_names uses = operands_append uses (u ∷ []) ∙ ap (λ l. operand_names uses ++ l) none ∙ append-nil (operand_names uses) in
      same ∙ fine.turn ∙ ap (λ l. take (length l) command.operands) (sym same)

  next_turn : (uses : List Use) (name text : Text) → Fine command uses → slice_get command.operands (count_operands uses) ≡ Some name
      → operand_names (uses ++ operand name text ∷ []) ≡ take (count_operands (uses ++ operand name text ∷ [])) command.operands
  next_turn uses name text fine is =
      let grown : operand_names (uses ++ operand name text ∷ []) ≡ take (suc (count_operands uses)) command.operands =
      operands_append uses (operand name text ∷ []) ∙ ap (λ l. l ++ name ∷ []) fine.turn ∙ take_more command.operands (count_operands uses) name is in
      grown ∙ ap (λ n. take n command.operands) (sym (operand_count uses name text))

  -- the words of one use, and those after it
  took : (go : Reads) (first rest : List Text) (uses more : List Use) (u : Use) → Goes go rest → (is_given (name_of u) uses ≡ false → Fine command (uses ++ u ∷ [])) → Spells u first
      → option_and_then go (with_use uses u) ≡ Some more → Read (first ++ rest) uses more
  took go first rest uses more u goes fine spells is = by (is_given (name_of u) uses) fine is
    where
      by : (given : Bool) → (given ≡ false → Fine command (uses ++ u ∷ [])) → option_and_then go (if given then None else Some (uses ++ u ∷ [])) ≡ Some more → Read (first ++ rest) uses more
      by true f i = absurd cc
      by false f i =
          let done = goes (uses ++ u ∷ []) more (f refl) i in (
            record {
              added = u ∷ done.0.added;
              same = done.0.same ∙ append_assoc uses (u ∷ []) done.0.added;
              spelled = (first, rest, refl, spells, done.0.spelled);
            },
            done.1,
          )

  -- the value of an option, and what is read after it
  abbrev Waited : List Text → Text → List Use → List Use → Type 0
  Waited words name uses more = (value : Text) × (rest : List Text) × (words ≡ value ∷ rest) × (is_plain value ≡ true) × ((first : List Text) → Spells (valued name value) first → Read (first ++ rest) uses more)

  -- after an option that still needs its value, the next word is the value
  abbrev GoesNext : List Text → Type 0
  GoesNext words = (name : Text) (uses more : List Use) → Fine command uses → is_in name command.options ≡ true → with_next command words name uses ≡ Some more → Waited words name uses more

  read_value : (words : List Text) → Goes (uses_from command words) words → (word name : Text) (uses more : List Use) → Fine command uses → is_in name command.options ≡ true → is_stray word ≡ false
      → (long : Option (Text × Option Text)) → long_of word ≡ long → after_value long word name uses (uses_from command words) ≡ Some more → Waited (word ∷ words) name uses more
  read_value words goes word name uses more fine known plain (Some said) e is = absurd cc
  read_value words goes word name uses more fine known plain None e is = (
    word,
    words,
    refl,
    plain_is word plain e,
    λ first spells. took (uses_from command words) first words uses more (valued name word) goes
        (λ not_given. one_more uses (valued name word) fine known not_given (same_turn uses (valued name word) fine refl)) spells is,
  )

  -- a word is a name with its dashes, and a text if there is one
  abbrev IsLong : Text → Text → Option Text → Type 0
  IsLong word name v = word ≡ dashed (Rattle.command_words.proofs.SpelledLemmas.spelled (name, v))

  read_long : (words : List Text) → Goes (uses_from command words) words → GoesNext words
      → (word name : Text) (v : Option Text) (uses more : List Use) → Fine command uses → IsLong word name v
      → (f o : Bool) → is_in name command.flags ≡ f → is_in name command.options ≡ o
      → after_long command words name v uses f o ≡ Some more
      → Read (word ∷ words) uses more
  read_long words goes waits word name None uses more fine spelt true o is_f is_o is =
      took (uses_from command words) (word ∷ []) words uses more (flag name) goes (λ not_given. one_more uses (flag name) fine is_f not_given (same_turn uses (flag name) fine refl)) (ap (λ w. w ∷ []) spelt) is
  read_long words goes waits word name (Some text) uses more fine spelt true o is_f is_o is = absurd cc
  read_long words goes waits word name (Some text) uses more fine spelt false true is_f is_o is =
      took (uses_from command words) (word ∷ []) words uses more (valued name text) goes (λ not_given. one_more uses (valued name text) fine is_o not_given (same_turn uses (valued name text) fine refl))
      (inr (ap (λ w. w ∷ []) spelt)) is
  read_long words goes waits word name None uses more fine spelt false true is_f is_o is =
      let w = waits name uses more fine is_o is in
      subst (λ ws. Read (word ∷ ws) uses more) (sym w.2) (w.4 (word ∷ w.0 ∷ []) (inl (ap (λ x. x ∷ w.0 ∷ []) spelt, w.3)))
  read_long words goes waits word name v uses more fine spelt false false is_f is_o is = absurd cc

  read_plain : (words : List Text) → Goes (uses_from command words) words → (word : Text) (uses more : List Use) → Fine command uses → is_plain word ≡ true
      → (name : Option Text) → slice_get command.operands (count_operands uses) ≡ name → after_plain name word uses (uses_from command words) ≡ Some more → Read (word ∷ words) uses more
  read_plain words goes word uses more fine plain None at is = absurd cc
  read_plain words goes word uses more fine plain (Some name) at is =
      took (uses_from command words) (word ∷ []) words uses more (operand name word) goes
      (λ not_given. one_more uses (operand name word) fine (slice_in command.operands (count_operands uses) name at) not_given (next_turn uses name word fine at)) (refl, plain) is

  read_word : (words : List Text) → Goes (uses_from command words) words → GoesNext words
      → (word : Text) (uses more : List Use) → Fine command uses → is_stray word ≡ false
      → (long : Option (Text × Option Text)) → long_of word ≡ long → after_word command long word uses (uses_from command words) (with_next command words) ≡ Some more → Read (word ∷ words) uses more
  read_word words goes waits word uses more fine plain (Some said) e is =
      read_long words goes waits word said.0 said.1 uses more fine (long_is word said e) (is_in said.0 command.flags) (is_in said.0 command.options) refl refl is
  read_word words goes waits word uses more fine plain None e is =
      read_plain words goes word uses more fine (plain_is word plain e) (slice_get command.operands (count_operands uses)) refl is

  mutual
    reads : (words : List Text) → Plain words → Goes (uses_from command words) words
    reads [] plain uses more fine is =
        let same : uses ≡ more = cc in
        (record { added = []; same = sym same ∙ sym (append-nil uses); spelled = refl }, subst (Fine command) same fine)
    reads (word ∷ words) plain uses more fine is = read_word words (reads words plain.1) (reads_next words plain.1) word uses more fine plain.0 (long_of word) refl is

    reads_next : (words : List Text) → Plain words → GoesNext words
    reads_next [] plain name uses more fine known is = absurd cc
    reads_next (word ∷ words) plain name uses more fine known is = read_value words (reads words plain.1) word name uses more fine known plain.0 (long_of word) refl is

  -- what is read of words alone
  pub read_all : (words : List Text) → list_any is_refused words ≡ false → (uses : List Use) → uses_from command words [] ≡ Some uses → SpellsAll uses words × Fine command uses
  read_all words none uses is =
      let done = reads words (plain_words words none) [] uses (record { known = tt; once = refl; turn = refl }) is in
      (subst (λ us. SpellsAll us words) (sym done.0.same) done.0.spelled, done.1)

  pub of_fit : (uses : List Use) → AreOf command uses → Fits command.flags uses
  of_fit [] are = tt
  of_fit (flag n ∷ uses) are = (sym (ap not are.0), of_fit uses are.1)
  of_fit (valued n t ∷ uses) are = (sym (ap not (option_apart command sound n are.0)), of_fit uses are.1)
  of_fit (operand n t ∷ uses) are = (sym (ap not (operand_not command sound n are.0).0), of_fit uses are.1)

  pub app_is_simple : is_simple (app_for command) ≡ true
  app_is_simple = ap is_simple (app_is command) ∙ simple command sound

  pub app_is_free : is_simple_and_free (app_for command) ≡ true
  app_is_free = ap is_simple_and_free (app_is command) ∙ simple_and_free command sound

  -- if a parse may succeed, what is found in its matches is what the words say
  pub words_say : (words : List Text) (found : Found) → rows_of found ≡ matches_of (app_for command) words → list_any is_refused words ≡ false → fault_of (app_for command) words ≡ []
      → arguments_found command (first_value found) ≡ arguments_of command words
  words_say words found rows none free =
      let each : first_value found ≡ (λ name. first_of name (matches_of (app_for command) words)) = λ i name. (first_value-rows found name ∙ ap (first_of name) rows) i in
      ap (arguments_found command) each
      ∙ matches_say command sound words (plain_words words none) (λ uses is. of_fit uses (read_all words none uses is).1.known) free
      ∙ ap (λ b. if b then None else option_and_then (complete_by command) (uses_from command words [])) (sym none)

  -- if it may be refused, they say nothing
  pub words_say_nothing : (words : List Text) → list_any is_refused words ≡ false → (fault_of (app_for command) words ≡ [] → ⊥) → arguments_of command words ≡ None
  words_say_nothing words none faulty =
      ap₂ (λ b u. if b then None else option_and_then (complete_by command) u) none (refusals_say command sound words (plain_words words none) faulty)
