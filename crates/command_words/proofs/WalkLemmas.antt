-- The walk of `clap` over words, and the uses that they say.
use Rattle.std.proofs.Common.{◌≡◌, ℕ, suc, Bool, true, false, List, [], ◌∷◌, ◌++◌, map, Option, Some, None, refl, sym, ap, ◌∙◌, if◌then◌else◌, ◌&&◌}
use Rattle.std.specs.Bool.{⊤}
use Rattle.std.specs.Prelude.{slice_get}
use Rattle.std.specs.Option.{option_and_then, option_map}
use Rattle.clap.specs.Faults.{settle_fault}
use Rattle.clap.specs.Kinds.{Kinds}
use Rattle.clap.specs.declared.error.kind.ErrorKind.{ErrorKind}
use Rattle.clap.specs.declared.error.kind.ErrorKind.TheVariants as kind
use Rattle.clap.specs.Lexer.{short_of}
use Rattle.clap.specs.Walk.{Held, Row, Rule, Waiting, idle, option, arg_by_id, arg_by_index, settled, reacted, is_pending, has_row, nothing_held}
use Rattle.command_words.specs.Syntax.{Text, Syntax, is_in}
use Rattle.command_words.specs.SpelledWords.{Use, flag, valued, operand, name_of, text_of}
use Rattle.command_words.specs.Arguments.{is_given}
use Rattle.command_words.specs.ArgumentReading.{is_stray, long_of, with_use, count_operands, uses_from, with_next, after_flag, after_option, after_plain, after_value, after_word}
use Rattle.command_words.proofs.RuleLemmas.{flag_arg, text_arg, option_arg, operand_arg}
use Rattle.command_words.proofs.LookupLemmas.{Finds}
use Rattle.command_words.proofs.SoundLemmas.{bytes_same}
use Rattle.command_words.proofs.UseLemmas.{flag_count, valued_count, operand_count}
use Rattle.command_words.proofs.RowLemmas.{row_for, row_of_text, used_flag, used_text, rows_given, rows_more}
use Rattle.command_words.proofs.TurnLemmas.{at, Long, outcome, turned, turned_arg, turned_is, turned_waits, outcome_nil, stray_dashes, stray_short}

-- no word is stray
abbrev pub Plain : List Text → Type 0
Plain [] = ⊤
Plain (word ∷ words) = (is_stray word ≡ false) × Plain words

abbrev pub rows_in : Option (List Use) → Option (List Row)
rows_in found = option_map (map row_for) found

-- what is read after a name with its dashes, by whether it is one of a flag, or of an option
abbrev pub after_long : Syntax → List Text → Text → Option Text → List Use → Bool → Bool → Option (List Use)
after_long command words name v uses f o = if f then after_flag name v uses (uses_from command words) else (if o then after_option name v uses (uses_from command words) (with_next command words) else None)

-- the rule of a name, by whether it is one of a flag, or of an option
abbrev rule_named : Text → Bool → Bool → Option Rule
rule_named name f o = if f then Some (flag_arg name) else (if o then Some (option_arg name) else None)

and_false : (b : Bool) → (b && false) ≡ false
and_false true = refl
and_false false = refl

module _ (command : Syntax) (rules : List Rule) (finds : Finds command rules) where
  -- what holds between words: nothing is refused so far, and these uses are given
  record Rests (h : Held) (uses : List Use) : Type 0 where
    fine : settle_fault rules false h ≡ []
    rows : (settled rules h).rows ≡ map row_for uses

  -- what is read of the words that are left
  abbrev Go : List Text → Type 0
  Go words = (h : Held) (uses : List Use) → Rests h uses → outcome rules words (at h idle (suc (count_operands uses))) ≡ rows_in (uses_from command words uses)

  -- an option still needs its text
  record Waits (h : Held) (name : Text) (uses : List Use) : Type 0 where
    pending : h.pending ≡ Some (name, [])
    rows : h.rows ≡ map row_for uses
    found : arg_by_id rules name ≡ Some (option_arg name)

  abbrev Next : List Text → Type 0
  Next words = (h : Held) (name : Text) (uses : List Use) → Waits h name uses
      → outcome rules words (at h (option name) (suc (count_operands uses))) ≡ rows_in (with_next command words name uses)

  abbrev uses_after : List Text → List Use → Use → Option (List Row)
  uses_after words uses u = rows_in (option_and_then (uses_from command words) (with_use uses u))

  go_on : (words : List Text) → Go words → (h : Held) (uses : List Use) (u : Use) (place : ℕ) → Rests h (uses ++ u ∷ []) → suc (count_operands (uses ++ u ∷ [])) ≡ place
      → is_given (name_of u) uses ≡ false → outcome rules words (at h idle place) ≡ uses_after words uses u
  go_on words go h uses u place rests is not_given = rw not_given (ap (λ n. outcome rules words (at h idle n)) (sym is) ∙ go h (uses ++ u ∷ []) rests)

  -- if the option that still needs its text cannot be used, any option is refused
  spoiled_arg : (words : List Text) (h : Held) (waiting : Waiting) (place : ℕ) (k : ErrorKind) (ks : Kinds) → settle_fault rules false h ≡ k ∷ ks
      → (name : Text) (f o : Bool) (v : Option Text) (word : Text)
      → turned_arg rules words h waiting place (rule_named name f o) v word ≡ None
  spoiled_arg words h waiting place k ks bad name true o None word = rw bad refl
  spoiled_arg words h waiting place k ks bad name true o (Some value) word = refl
  spoiled_arg words h waiting place k ks bad name false true None word = rw bad refl
  spoiled_arg words h waiting place k ks bad name false true (Some value) word = rw bad refl
  spoiled_arg words h waiting place k ks bad name false false v word = refl

  -- a word that is no option is the next operand
  abbrev turned_plain : List Text → Held → ℕ → Text → Option (List Row)
  turned_plain words h place word = turned rules words h idle place None word

  no_operand : (words : List Text) (h : Held) (place : ℕ) (word : Text) → short_of word ≡ None → arg_by_index rules place ≡ None → turned_plain words h place word ≡ None
  no_operand words h place word short none = rw (short, none) refl

  spoiled_operand : (words : List Text) (h : Held) (place : ℕ) (word : Text) (k : ErrorKind) (ks : Kinds) → settle_fault rules false h ≡ k ∷ ks → short_of word ≡ None
      → (index : ℕ) (name : Text) → arg_by_index rules place ≡ Some (operand_arg index name) → turned_plain words h place word ≡ None
  spoiled_operand words h place word k ks bad short index name is = rw (short, is, and_false (is_pending (operand_arg index name) h.pending), bad) refl

  spoiled : (words : List Text) (h : Held) (n : ℕ) (k : ErrorKind) (ks : Kinds) → settle_fault rules false h ≡ k ∷ ks → Plain words → outcome rules words (at h idle (suc n)) ≡ None
  spoiled [] h n k ks bad plain = outcome_nil rules (at h idle (suc n)) ∙ rw bad refl
  spoiled (word ∷ words) h n k ks bad plain = turned_is rules words h (suc n) word (stray_dashes word plain.0) ∙ by (long_of word) (slice_get command.operands n) (finds.by_index n)
    where
      by : (long : Long) (name : Option Text) → arg_by_index rules (suc n) ≡ option_map (operand_arg (suc n)) name → turned rules words h idle (suc n) long word ≡ None
      by None None is = no_operand words h (suc n) word (stray_short word plain.0) is
      by None (Some name) is = spoiled_operand words h (suc n) word k ks bad (stray_short word plain.0) (suc n) name is
      by (Some said) name is =
          ap (λ arg. turned_arg rules words h idle (suc n) arg said.1 word) (finds.by_long said.0)
          ∙ spoiled_arg words h idle (suc n) k ks bad said.0 (is_in said.0 command.flags) (is_in said.0 command.options) said.1 word

  -- a use with a text of its own, and so many operands with it; the rows are those of the uses before it
  record IsTextUse (h : Held) (uses : List Use) (u : Use) (text : Text) (long : Option Text) (index : Option ℕ) (n : ℕ) : Type 0 where
    is : text_of u ≡ Some text
    rows : h.rows ≡ map row_for uses
    found : arg_by_id rules (name_of u) ≡ Some (text_arg (name_of u) long index)
    count : count_operands (uses ++ u ∷ []) ≡ n

  -- the text of an option or an operand, which is a word of its own
  text_says : (words : List Text) → Go words → Plain words → (h : Held) (uses : List Use) (u : Use) (text : Text) (long : Option Text) (index : Option ℕ) (n : ℕ) → IsTextUse h uses u text long index n
      → (given : Bool) → is_given (name_of u) uses ≡ given
      → outcome rules words (at (record h { pending = Some (name_of u, text ∷ []) }) idle (suc n)) ≡ uses_after words uses u
  text_says words go plain h uses u text long index n of true given =
      let record { is = is; rows = rows; found = found; count = count } = of in
      let bad : settle_fault rules false (record h { pending = Some (name_of u, text ∷ []) }) ≡ kind.ArgumentConflict ∷ [] = rw (found, rows, rows_given (name_of u) uses, given) refl in
      spoiled words _ n _ _ bad plain ∙ rw given refl
  text_says words go plain h uses u text long index n of false given =
      let record { is = is; rows = rows; found = found; count = count } = of in
      let absent : has_row (name_of u) (map row_for uses) ≡ false = rows_given (name_of u) uses ∙ given in
      let fine : settle_fault rules false (record h { pending = Some (name_of u, text ∷ []) }) ≡ [] = rw (found, rows, absent) refl in
      let same : (settled rules (record h { pending = Some (name_of u, text ∷ []) })).rows ≡ map row_for (uses ++ u ∷ []) =
      rw (found, rows) (used_text (name_of u) long index text (map row_for uses) absent
      ∙ ap (λ t. map row_for uses ++ row_of_text (name_of u) t ∷ []) (sym is) ∙ rows_more uses u) in
      go_on words go _ uses u (suc n) (record { fine = fine; rows = same }) (ap suc count) given

  flag_says : (words : List Text) → Go words → (h : Held) (uses : List Use) (name word : Text) → Rests h uses → (given : Bool) → is_given name uses ≡ given
      → turned_arg rules words h idle (suc (count_operands uses)) (Some (flag_arg name)) None word ≡ uses_after words uses (flag name)
  flag_says words go h uses name word rests true given = rw (rests.fine, rests.rows, rows_given name uses, given) refl
  flag_says words go h uses name word rests false given =
      let absent : has_row name (map row_for uses) ≡ false = rows_given name uses ∙ given in
      let same : (settled rules (reacted rules (flag_arg name) [] h)).rows ≡ map row_for (uses ++ flag name ∷ []) =
      rw rests.rows (used_flag name (map row_for uses) absent ∙ rows_more uses (flag name)) in
      let not_given : has_row name (settled rules h).rows ≡ false = ap (has_row name) rests.rows ∙ absent in
      rw (rests.fine, not_given) (go_on words go (reacted rules (flag_arg name) [] h) uses (flag name) (suc (count_operands uses)) (record { fine = refl; rows = same }) (ap suc (flag_count uses name)) given)

  attached_says : (words : List Text) → Go words → (h : Held) (uses : List Use) (name text word : Text) → Rests h uses → (given : Bool) → is_given name uses ≡ given
      → turned_arg rules words h idle (suc (count_operands uses)) (Some (option_arg name)) (Some text) word ≡ uses_after words uses (valued name text)
  attached_says words go h uses name text word rests true given = rw (rests.fine, rests.rows, rows_given name uses, given) refl
  attached_says words go h uses name text word rests false given =
      let absent : has_row name (map row_for uses) ≡ false = rows_given name uses ∙ given in
      let same : (settled rules (reacted rules (option_arg name) (text ∷ []) h)).rows ≡ map row_for (uses ++ valued name text ∷ []) =
      rw rests.rows (used_text name (Some name) None text (map row_for uses) absent ∙ rows_more uses (valued name text)) in
      let not_given : has_row name (settled rules h).rows ≡ false = ap (has_row name) rests.rows ∙ absent in
      rw (rests.fine, not_given) (go_on words go (reacted rules (option_arg name) (text ∷ []) h) uses (valued name text) (suc (count_operands uses)) (record { fine = refl; rows = same }) (ap suc (valued_count uses name text)) given)

  idle_arg : (words : List Text) → Go words → Next words → (h : Held) (uses : List Use) (name : Text) (v : Option Text) (word : Text) → Rests h uses
      → (f o : Bool) → is_in name command.flags ≡ f → is_in name command.options ≡ o
      → turned_arg rules words h idle (suc (count_operands uses)) (rule_named name f o) v word ≡ rows_in (after_long command words name v uses f o)
  idle_arg words go next h uses name None word rests true o is_f is_o = flag_says words go h uses name word rests (is_given name uses) refl
  idle_arg words go next h uses name (Some text) word rests true o is_f is_o = refl
  idle_arg words go next h uses name (Some text) word rests false true is_f is_o = attached_says words go h uses name text word rests (is_given name uses) refl
  idle_arg words go next h uses name None word rests false true is_f is_o =
      rw rests.fine (next (record (settled rules h) { pending = Some (name, []) }) name uses (record { pending = refl; rows = rests.rows; found = finds.option_by_id name is_f is_o }))
  idle_arg words go next h uses name v word rests false false is_f is_o = refl

  operand_says : (words : List Text) → Go words → Plain words → (h : Held) (uses : List Use) (word : Text) → Rests h uses → short_of word ≡ None
      → (name : Option Text) → slice_get command.operands (count_operands uses) ≡ name
      → turned rules words h idle (suc (count_operands uses)) None word ≡ rows_in (after_plain name word uses (uses_from command words))
  operand_says words go plain h uses word rests short None is =
      no_operand words h _ word short (finds.by_index (count_operands uses) ∙ ap (option_map (operand_arg (suc (count_operands uses)))) is)
  operand_says words go plain h uses word rests short (Some name) is =
      let n = count_operands uses in
      let found : arg_by_index rules (suc n) ≡ Some (operand_arg (suc n) name) = finds.by_index n ∙ ap (option_map (operand_arg (suc n))) is in
      let id = finds.operand_by_id n name is in
      rw (short, found, and_false (is_pending (operand_arg (suc n) name) h.pending), rests.fine, finds.next_place n name is)
      (text_says words go plain (settled rules h) uses (operand name word) word None (Some id.0) (suc n) (record { is = refl; rows = rests.rows; found = id.1; count = operand_count uses name word }) (is_given name uses) refl)

  idle_word : (words : List Text) → Go words → Next words → Plain words → (h : Held) (uses : List Use) (word : Text) → Rests h uses → short_of word ≡ None → (long : Long)
      → turned rules words h idle (suc (count_operands uses)) long word ≡ rows_in (after_word command long word uses (uses_from command words) (with_next command words))
  idle_word words go next plain h uses word rests short None = operand_says words go plain h uses word rests short (slice_get command.operands (count_operands uses)) refl
  idle_word words go next plain h uses word rests short (Some said) =
      ap (λ arg. turned_arg rules words h idle (suc (count_operands uses)) arg said.1 word) (finds.by_long said.0)
      ∙ idle_arg words go next h uses said.0 said.1 word rests (is_in said.0 command.flags) (is_in said.0 command.options) refl refl

  -- an option without its text cannot be used
  lacks : (h : Held) (name : Text) (uses : List Use) → Waits h name uses → settle_fault rules false h ≡ kind.InvalidValue ∷ []
  lacks h name uses waits = rw (waits.pending, waits.found) refl

  waits_word : (words : List Text) → Go words → Plain words → (h : Held) (name : Text) (uses : List Use) (word : Text) → Waits h name uses → short_of word ≡ None → (long : Long)
      → turned rules words h (option name) (suc (count_operands uses)) long word ≡ rows_in (after_value long word name uses (uses_from command words))
  waits_word words go plain h name uses word waits short None =
      rw (short, waits.found, waits.pending, bytes_same name)
      (text_says words go plain h uses (valued name word) word (Some name) None (count_operands uses) (record { is = refl; rows = waits.rows; found = waits.found; count = valued_count uses name word }) (is_given name uses) refl)
  waits_word words go plain h name uses word waits short (Some said) =
      ap (λ arg. turned_arg rules words h (option name) (suc (count_operands uses)) arg said.1 word) (finds.by_long said.0)
      ∙ spoiled_arg words h (option name) (suc (count_operands uses)) _ _ (lacks h name uses waits) said.0 (is_in said.0 command.flags) (is_in said.0 command.options) said.1 word

  mutual
    idle_says : (words : List Text) → Plain words → Go words
    idle_says [] plain h uses rests = outcome_nil rules (at h idle _) ∙ rw rests.fine (ap Some rests.rows)
    idle_says (word ∷ words) plain h uses rests =
        turned_is rules words h _ word (stray_dashes word plain.0)
        ∙ idle_word words (idle_says words plain.1) (waits_says words plain.1) plain.1 h uses word rests (stray_short word plain.0) (long_of word)

    waits_says : (words : List Text) → Plain words → Next words
    waits_says [] plain h name uses waits = outcome_nil rules (at h (option name) _) ∙ rw (lacks h name uses waits) refl
    waits_says (word ∷ words) plain h name uses waits =
        turned_waits rules words h _ name word (stray_dashes word plain.0)
        ∙ waits_word words (idle_says words plain.1) plain.1 h name uses word waits (stray_short word plain.0) (long_of word)

  -- before the words
  nothing_rests : Rests nothing_held []
  nothing_rests = record { fine = refl; rows = refl }

  -- the rows of a parse of the words are those of the uses that they say
  pub parse_says : (words : List Text) → Plain words → outcome rules words (at nothing_held idle 1) ≡ rows_in (uses_from command words [])
  parse_says words plain = idle_says words plain nothing_held [] nothing_rests
