-- The number of workers changes nothing in what the words ask, and what words of commands that take it say.
use Rattle.std.proofs.Common.{◌≡◌, ◌↔◌, ◌⊎◌, ◌||◌, map, codes, not, ℕ, ◌<◌, ◌≤◌, ◌^◌, ◌==◌, Bool, true, false, List, [], ◌∷◌, ◌++◌, Option, Some, None, Ok, inl, inr, refl, sym, ap, ◌∙◌, subst, true≢false, rules}
use Rattle.std.specs.Fmt.{decimal}
use Rattle.std.specs.Option.{option_and_then, option_map}
use Rattle.std.specs.Str.{bytes_eq}
use Rattle.std.proofs.lemmas.Slice.Eq.{bytes_eq-Decides}
use Rattle.std.proofs.lemmas.Bool.{eqb-true}
use Rattle.net_model.specs.Numbers.{natural_of}
use Rattle.net_model.proofs.DecimalSpellingLemmas.{natural_spelled}
use Rattle.command_words.specs.Arguments.{Arguments, arguments_by, flag_at, is_given, text_given, option_at}
use Rattle.command_words.specs.ArgumentReading.{arguments_of}
use Rattle.command_words.specs.SpelledWords.{Use, name_of, valued, flag, operand, is_plain, Spells, SpellsAll, AreOf, Says}
use Rattle.command_words.specs.Syntax.{Syntax, Text, are_apart, is_in, is_sound}
use Rattle.command_words.proofs.LawLemmas.{read_exactly}
use Rattle.command_contracts.specs.Counts.{count_within}
use Rattle.command_contracts.specs.Requests.{requested_by}
use Rattle.command_contracts.specs.WorkerCounts.{most_workers, workers_name, workers_of, SpellsWorkers, SayWithWorkers, SaysCount, HasWorkers, DifferInWorkers, WorkersDecideNothing}
use Rattle.command_contracts.proofs.CountLemmas.{count_is, count_read}
use Rattle.command_contracts.proofs.PlaceLemmas.{Placed, placed}
use Rattle.command_contracts.proofs.UseLemmas.{given_without, text_without, text_absent, text_there, operands_without, alone, says_without, says_other}

-- ---- the number

few_workers : most_workers < 2 ^ 64
few_workers = search rules

says_count : (value : Option Text) (count : ℕ) → workers_of value ≡ Some count → SaysCount value
says_count None count is = tt
says_count (Some word) count is = let all = count_is most_workers few_workers word count is in (count, all.0, all.1, all.2)

count_said : (value : Option Text) → SaysCount value → (count : ℕ) × (workers_of value ≡ Some count)
count_said None says = (1, refl)
count_said (Some word) (count, is, least, most) = (count, ap (λ (w : Text). workers_of (Some w)) is ∙ count_read most_workers few_workers count least most)

-- a number does not begin with a hyphen
no_hyphen : (bytes : Text) (number : ℕ) → natural_of most_workers (45 ∷ bytes) ≡ Ok number → ⊥
unfolding natural_of
no_hyphen bytes number is = absurd cc

pub plain_number : (number : ℕ) (word : Text) → natural_of most_workers word ≡ Ok number → is_plain word ≡ true
plain_number number [] is = refl
plain_number number (b ∷ bytes) is = by (b == 45) refl
  where
    by : (e : Bool) → (b == 45) ≡ e → not e ≡ true
    by false e = refl
    by true e = absurd (no_hyphen bytes number (sym (ap (λ x. natural_of most_workers (x ∷ bytes)) (eqb-true b 45 e)) ∙ is))

-- the words spell the option with that value
spelled_workers : (count : ℕ) (words : List Text) → SpellsWorkers count words → Spells (valued workers_name (decimal count)) words
spelled_workers count words (least, most, inl is) =
    inl (is, plain_number count (decimal count) (natural_spelled most_workers count most few_workers))
spelled_workers count words (least, most, inr is) = inr is

-- ---- uses that differ in it

module _ (before after : List Use) (none : is_given workers_name (before ++ after) ≡ false) where
  has_count : (count : ℕ) → 1 ≤ count → count ≤ most_workers → HasWorkers (before ++ valued workers_name (decimal count) ∷ after)
  has_count count least most = (count, ap workers_of (text_there workers_name (decimal count) before after none) ∙ count_read most_workers few_workers count least most)

  differ_without : (count : ℕ) → 1 ≤ count → count ≤ most_workers → DifferInWorkers (before ++ valued workers_name (decimal count) ∷ after) (before ++ after)
  differ_without count least most = record {
    one = has_count count least most;
    other = (1, ap workers_of (text_absent workers_name (before ++ after) none));
    flags = λ name other. given_without (valued workers_name (decimal count)) name other before after;
    options = λ name other. text_without (valued workers_name (decimal count)) name other before after;
    operands = operands_without workers_name (decimal count) before after;
  }

  differ_other : (count number : ℕ) → 1 ≤ count → count ≤ most_workers → 1 ≤ number → number ≤ most_workers
      → DifferInWorkers (before ++ valued workers_name (decimal count) ∷ after) (before ++ valued workers_name (decimal number) ∷ after)
  differ_other count number least most from to =
      let one = differ_without count least most in
      let two = differ_without number from to in
      record {
        one = one.one;
        other = two.one;
        flags = λ name other. one.flags name other ∙ sym (two.flags name other);
        options = λ name other. one.options name other ∙ sym (two.options name other);
        operands = one.operands ∙ sym two.operands;
      }

-- ---- what the words ask

module _ {A : Type 0} (command : Syntax) (sound : is_sound command ≡ true) (query : Arguments → Option A) where
  pub asks : (words : List Text) (uses : List Use) → Says command words uses → requested_by command query words ≡ query (arguments_by command uses)
  asks words uses says = ap (option_and_then query) ((read_exactly command sound words (arguments_by command uses)).1 (uses, says, refl))

  pub meant : (words : List Text) (request : A) → requested_by command query words ≡ Some request → (uses : List Use) × Says command words uses × (query (arguments_by command uses) ≡ Some request)
  meant words request is = by (arguments_of command words) refl is
    where
      by : (found : Option Arguments) → arguments_of command words ≡ found → option_and_then query found ≡ Some request → (uses : List Use) × Says command words uses × (query (arguments_by command uses) ≡ Some request)
      by None same i = absurd cc
      by (Some arguments) same i =
          let means = (read_exactly command sound words arguments).0 same in
          (means.0, means.1, ap query (sym means.2) ∙ i)

module _ {A : Type 0} (command : Syntax) (query : Arguments → Option A) (law : WorkersDecideNothing command query) (request : A) (prefix spelled back : List Text) (count : ℕ)
    (spells : SpellsWorkers count spelled) (is : requested_by command query (prefix ++ (spelled ++ back)) ≡ Some request) where
  uses_meant : (uses : List Use) × Says command (prefix ++ (spelled ++ back)) uses × (query (arguments_by command uses) ≡ Some request)
  uses_meant = meant command law.sound query (prefix ++ (spelled ++ back)) request is

  place : Placed uses_meant.0 workers_name (decimal count) prefix back
  place = placed command law.sound workers_name (decimal count) refl law.no_flag uses_meant.0 prefix spelled back uses_meant.1.spelled uses_meant.1.known (spelled_workers count spelled spells)

  says_placed : Says command (prefix ++ (spelled ++ back)) (place.before ++ valued workers_name (decimal count) ∷ place.after)
  says_placed = subst (Says command (prefix ++ (spelled ++ back))) place.is uses_meant.1

  request_placed : query (arguments_by command (place.before ++ valued workers_name (decimal count) ∷ place.after)) ≡ Some request
  request_placed = ap (λ (uses : List Use). query (arguments_by command uses)) (sym place.is) ∙ uses_meant.2

  none : is_given workers_name (place.before ++ place.after) ≡ false
  none = alone command workers_name (decimal count) place.before place.after (prefix ++ (spelled ++ back)) says_placed

  -- the words without it ask the same
  pub request_without : requested_by command query (prefix ++ back) ≡ Some request
  request_without =
      let says = says_without command workers_name (decimal count) place.before place.after (prefix ++ (spelled ++ back)) says_placed prefix back place.spells_before place.spells_after in
      asks command law.sound query (prefix ++ back) (place.before ++ place.after) says
      ∙ (sym (law.same _ _ (differ_without place.before place.after none count spells.0 spells.1)) ∙ request_placed)

  -- and so do those with another number
  pub request_other : (number : ℕ) (others : List Text) → SpellsWorkers number others → requested_by command query (prefix ++ (others ++ back)) ≡ Some request
  request_other number others spells_other =
      let says = says_other command workers_name (decimal count) place.before place.after (prefix ++ (spelled ++ back)) says_placed (decimal number) prefix others back place.spells_before
      (spelled_workers number others spells_other) place.spells_after in
      asks command law.sound query (prefix ++ (others ++ back)) (place.before ++ valued workers_name (decimal number) ∷ place.after) says
      ∙ (sym (law.same _ _ (differ_other place.before place.after none count number spells.0 spells.1 spells_other.0 spells_other.1)) ∙ request_placed)

-- ---- a command that takes a number of workers, and asks what its other words say, if they say anything
abbrev pub where_workers : {A : Type 0} → Option A → Option ℕ → Option A
where_workers request workers = option_and_then (λ w. request) workers

module _ {A : Type 0} (command : Syntax) (sound : is_sound command ≡ true) (query : Arguments → Option A) (said : List Use → Option A)
    (is_said : (uses : List Use) → query (arguments_by command uses) ≡ where_workers (said uses) (workers_of (text_given workers_name uses))) where
  said_where : (uses : List Use) → HasWorkers uses → query (arguments_by command uses) ≡ said uses
  said_where uses (count, is) = is_said uses ∙ ap (where_workers (said uses)) is

  -- the number of workers decides nothing, if the other words decide what is said
  pub decide_nothing_said : is_in workers_name command.flags ≡ false → ((uses others : List Use) → DifferInWorkers uses others → said uses ≡ said others) → WorkersDecideNothing command query
  decide_nothing_said no_flag kept = record {
    sound = sound;
    no_flag = no_flag;
    same = λ uses others differ. said_where uses differ.one ∙ (kept uses others differ ∙ sym (said_where others differ.other));
  }

  -- the request is what uses say that give a number of workers or none
  pub said_by_uses : (words : List Text) (request : A) → requested_by command query words ≡ Some request ↔ ((say : SayWithWorkers command words) × (said say.uses ≡ Some request))
  said_by_uses words request = (to, from)
    where
      by : (uses : List Use) → Says command words uses → (found : Option ℕ) → workers_of (text_given workers_name uses) ≡ found → where_workers (said uses) found ≡ Some request
          → (say : SayWithWorkers command words) × (said say.uses ≡ Some request)
      by uses says None same is = absurd cc
      by uses says (Some count) same is = (record { uses = uses; says = says; workers = says_count (text_given workers_name uses) count same }, is)

      to : requested_by command query words ≡ Some request → (say : SayWithWorkers command words) × (said say.uses ≡ Some request)
      to is =
          let means = meant command sound query words request is in
          by means.0 means.1 (workers_of (text_given workers_name means.0)) refl (sym (is_said means.0) ∙ means.2)

      from : (say : SayWithWorkers command words) × (said say.uses ≡ Some request) → requested_by command query words ≡ Some request
      from (say, given) =
          asks command sound query words say.uses say.says
          ∙ (is_said say.uses ∙ (ap (where_workers (said say.uses)) (count_said (text_given workers_name say.uses) say.workers).1 ∙ given))

-- ---- a command that takes a number of workers, and asks what its flags say
abbrev pub with_workers : {A : Type 0} → A → Option ℕ → Option A
with_workers request workers = option_map (λ w. request) workers

said_always : {A : Type 0} (request : A) (workers : Option ℕ) → with_workers request workers ≡ where_workers (Some request) workers
said_always request None = refl
said_always request (Some w) = refl

module _ {A : Type 0} (command : Syntax) (sound : is_sound command ≡ true) (query : Arguments → Option A) (reported : List Use → A)
    (is_stated : (uses : List Use) → query (arguments_by command uses) ≡ with_workers (reported uses) (workers_of (text_given workers_name uses))) where
  is_said : (uses : List Use) → query (arguments_by command uses) ≡ where_workers (Some (reported uses)) (workers_of (text_given workers_name uses))
  is_said uses = is_stated uses ∙ said_always (reported uses) (workers_of (text_given workers_name uses))

  -- the number of workers decides nothing, if the flags decide what is said
  pub decide_nothing : is_in workers_name command.flags ≡ false → ((uses others : List Use) → DifferInWorkers uses others → reported uses ≡ reported others) → WorkersDecideNothing command query
  decide_nothing no_flag kept = decide_nothing_said command sound query (λ uses. Some (reported uses)) is_said no_flag (λ uses others differ. ap Some (kept uses others differ))

  -- the request is what uses say that give a number of workers or none
  pub said_exactly : (words : List Text) (request : A) → requested_by command query words ≡ Some request ↔ ((say : SayWithWorkers command words) × (reported say.uses ≡ request))
  said_exactly words request =
      let exactly = said_by_uses command sound query (λ uses. Some (reported uses)) is_said words request in
      (λ is. let said = exactly.0 is in (said.0, let some = said.1 in let one : reported said.0.uses ≡ request = cc in one), λ say. exactly.1 (say.0, ap Some say.1))
