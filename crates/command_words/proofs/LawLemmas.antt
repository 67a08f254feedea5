-- Words are read exactly if they spell uses.
use Rattle.std.proofs.Common.{codes, ◌≡◌, ℕ, suc, zero, ◌==◌, Bool, true, false, not, List, [], ◌∷◌, ◌++◌, map, length, take, Option, Some, None, inl, inr, refl, sym, ap, ap₂, ◌∙◌, arith, if◌then◌else◌, ◌||◌, true≢false, append-nil}
use Rattle.std.proofs.Common.{append_assoc, cond, find}
use Rattle.std.specs.Prelude.{◌⊎◌, ◌↔◌, slice_get}
use Rattle.std.specs.List.{list_any}
use Rattle.std.specs.Option.{option_and_then, option_map}
use Rattle.std.specs.Str.{bytes_eq}
use Rattle.std.proofs.lemmas.Bool.{and_parts, not-true, or_from, or_left, or_parts, or_right}
use Rattle.std.proofs.lemmas.Bool.Decides.{nat_tests}
use Rattle.std.proofs.lemmas.List.{map-append}
use Rattle.std.proofs.lemmas.List.Folds.{list_any-append}
use Rattle.std.proofs.lemmas.Slice.Eq.{bytes_eq-Decides}
use Rattle.clap.specs.Words.{fault_of}
use Rattle.clap.proofs.CutLemmas.{Lacks, list_any-at}
use Rattle.clap.proofs.LexerLemmas.{name_and_value-at, name_and_value-without}
use Rattle.command_words.specs.ClapRules.{app_for}
use Rattle.command_words.specs.Syntax.{Text, Syntax, is_in, asks, is_option_name, is_sound, dashed, are_apart}
use Rattle.command_words.specs.SpelledWords.{Use, flag, valued, operand, name_of, text_of, is_plain, Spells, SpellsAll, IsOf, AreOf, operand_names}
use Rattle.command_words.specs.Arguments.{IsMeaning, Arguments, is_given, operand_texts, text_given, arguments_by, Means}
use Rattle.command_words.specs.ArgumentReading.{is_refused, count_operands, long_of, with_use, uses_from, with_next, after_word, after_value, all_texts, with_first_text, complete_by, arguments_of}
use Rattle.command_words.proofs.DefaultLemmas.{map_on}
use Rattle.command_words.proofs.UseLemmas.{operands_append}
use Rattle.command_words.proofs.SoundLemmas.{found_nowhere, apart_back, bytes_same, differs, flags_named, operand_not, operands_apart, or_later, option_apart, options_named, slice_in}
use Rattle.command_words.proofs.SpelledLemmas.{given_in, lacks_more, lacks_nothing}
use Rattle.command_words.proofs.ReadLemmas.{Fine, read_all, plain_words}
use Rattle.command_words.proofs.FaultLemmas.{accepted}

lacks_name : (xs : Text) → list_any (λ x. x == 61) xs ≡ false → Lacks 61 xs
lacks_name [] none = lacks_nothing 61
lacks_name (x ∷ xs) none =
    let each = or_parts _ _ none in
    let first : (x == 61) ≡ false = each.0 in
    lacks_more 61 x xs (grind (arith, nat_tests)) (lacks_name xs each.1)

no_equals : (x : ℕ) (xs : Text) → is_option_name (x ∷ xs) ≡ true → Lacks 61 (x ∷ xs)
no_equals x xs is = lacks_name (x ∷ xs) (not-true _ (and_parts (not (list_any (λ y. y == 61) (x ∷ xs))) (not (asks (dashed (x ∷ xs)))) is).0)

pub name_long : (name : Text) → is_option_name name ≡ true → long_of (dashed name) ≡ Some (name, None)
name_long [] is = absurd (true≢false (sym is))
name_long (x ∷ xs) is = ap Some (name_and_value-without (x ∷ xs) (no_equals x xs is))

pub attached_long : (name text : Text) → is_option_name name ≡ true → long_of (dashed (name ++ 61 ∷ text)) ≡ Some (name, Some text)
attached_long [] text is = absurd (true≢false (sym is))
attached_long (x ∷ xs) text is = ap Some (name_and_value-at (x ∷ xs) text (no_equals x xs is))

pub plain_long : (word : Text) → is_plain word ≡ true → long_of word ≡ None
plain_long [] is = refl
plain_long (b ∷ bs) is = rw (not-true (b == 45) is) refl

asks_not : (test : Text → Bool) (word : Text) → test word ≡ true → test (codes "--help") ≡ false → test (codes "--version") ≡ false → asks word ≡ false
asks_not test word is a b = rw (differs test word (codes "--help") is a, differs test word (codes "--version") is b) refl

plain_unrefused : (word : Text) → is_plain word ≡ true → is_refused word ≡ false
plain_unrefused [] is = refl
plain_unrefused (b ∷ bs) is =
    let none : asks (b ∷ bs) ≡ false = asks_not is_plain (b ∷ bs) is refl refl in
    rw (not-true (b == 45) is, none) refl

name_unrefused : (name : Text) → is_option_name name ≡ true → is_refused (dashed name) ≡ false
name_unrefused [] is = absurd (true≢false (sym is))
name_unrefused (x ∷ xs) is = not-true (asks (dashed (x ∷ xs))) (and_parts (not (list_any (λ y. y == 61) (x ∷ xs))) _ is).1

attached_unrefused : (name text : Text) → is_option_name name ≡ true → is_refused (dashed (name ++ 61 ∷ text)) ≡ false
attached_unrefused [] text is = absurd (true≢false (sym is))
attached_unrefused (x ∷ xs) text is = asks_not (list_any (λ y. y == 61)) (dashed ((x ∷ xs) ++ 61 ∷ text)) (list_any-at 61 (45 ∷ 45 ∷ x ∷ xs) text) refl refl

not_given : (uses : List Use) (u : Use) (added : List Use) → are_apart (map name_of (uses ++ u ∷ added)) ≡ true → is_given (name_of u) uses ≡ false
not_given uses u added apart =
    given_in (name_of u) uses ∙ apart_back (map name_of uses) (name_of u ∷ map name_of added) (name_of u)
    (sym (ap are_apart (map-append name_of uses (u ∷ added))) ∙ apart) (or_left _ _ (bytes_same (name_of u)))

slice_after : (xs : List Text) (n : Text) (ys : List Text) → slice_get (xs ++ n ∷ ys) (length xs) ≡ Some n
slice_after [] n ys = refl
slice_after (x ∷ xs) n ys = slice_after xs n ys

pub refused_words : (command : Syntax) (words : List Text) → list_any is_refused words ≡ true → None ≡ arguments_of command words
refused_words command words refused = ap (λ b. if b then None else option_and_then (complete_by command) (uses_from command words [])) (sym refused)

module _ (command : Syntax) (sound : is_sound command ≡ true) where
  -- ---- what is spelled is read

  one_on : (uses : List Use) (u : Use) (added : List Use) (rest : List Text) → is_given (name_of u) uses ≡ false
      → uses_from command rest (uses ++ u ∷ []) ≡ Some ((uses ++ u ∷ []) ++ added) → option_and_then (uses_from command rest) (with_use uses u) ≡ Some (uses ++ u ∷ added)
  one_on uses u added rest new is = rw new (is ∙ ap Some (append_assoc uses (u ∷ []) added))

  read_use : (uses : List Use) (u : Use) (added : List Use) (first rest : List Text) → Spells u first → IsOf command u → is_given (name_of u) uses ≡ false
      → operand_names (uses ++ u ∷ added) ≡ command.operands
      → uses_from command rest (uses ++ u ∷ []) ≡ Some ((uses ++ u ∷ []) ++ added) → uses_from command (first ++ rest) uses ≡ Some (uses ++ u ∷ added)
  read_use uses (flag name) added first rest spells known new all is =
      ap (λ ws. uses_from command (ws ++ rest) uses) spells
      ∙ ap (λ long. after_word command long (dashed name) uses (uses_from command rest) (with_next command rest)) (name_long name (flags_named command sound name known))
      ∙ rw known (one_on uses (flag name) added rest new is)
  read_use uses (valued name text) added first rest (inl spells) known new all is =
      ap (λ ws. uses_from command (ws ++ rest) uses) spells.0
      ∙ ap (λ long. after_word command long (dashed name) uses (uses_from command (text ∷ rest)) (with_next command (text ∷ rest))) (name_long name (options_named command sound name known))
      ∙ rw (option_apart command sound name known, known) (ap (λ long. after_value long text name uses (uses_from command rest)) (plain_long text spells.1)
      ∙ one_on uses (valued name text) added rest new is)
  read_use uses (valued name text) added first rest (inr spells) known new all is =
      ap (λ ws. uses_from command (ws ++ rest) uses) spells
      ∙ ap (λ long. after_word command long (dashed (name ++ 61 ∷ text)) uses (uses_from command rest) (with_next command rest)) (attached_long name text (options_named command sound name known))
      ∙ rw (option_apart command sound name known, known) (one_on uses (valued name text) added rest new is)
  read_use uses (operand name text) added first rest spells known new all is =
      let place : slice_get command.operands (count_operands uses) ≡ Some name =
      ap (λ l. slice_get l (count_operands uses)) (sym all ∙ operands_append uses (operand name text ∷ added)) ∙ slice_after (operand_names uses) name (operand_names added) in
      ap (λ ws. uses_from command (ws ++ rest) uses) spells.0
      ∙ ap (λ long. after_word command long text uses (uses_from command rest) (with_next command rest)) (plain_long text spells.1)
      ∙ rw place (one_on uses (operand name text) added rest new is)

  says_read : (added uses : List Use) (words : List Text) → SpellsAll added words → AreOf command added → are_apart (map name_of (uses ++ added)) ≡ true
      → operand_names (uses ++ added) ≡ command.operands → uses_from command words uses ≡ Some (uses ++ added)
  says_read [] uses words spelled known apart all = ap (λ ws. uses_from command ws uses) spelled ∙ ap Some (sym (append-nil uses))
  says_read (u ∷ added) uses words spelled known apart all =
      let shift = append_assoc uses (u ∷ []) added in
      ap (λ ws. uses_from command ws uses) spelled.2
      ∙ read_use uses u added spelled.0 spelled.1 spelled.3 known.0 (not_given uses u added apart) all
      (says_read added (uses ++ u ∷ []) spelled.1 spelled.4 known.1 (ap (λ l. are_apart (map name_of l)) shift ∙ apart) (ap operand_names shift ∙ all))

  use_unrefused : (u : Use) (first : List Text) → Spells u first → IsOf command u → list_any is_refused first ≡ false
  use_unrefused (flag name) first spells known = ap (list_any is_refused) spells ∙ rw (name_unrefused name (flags_named command sound name known)) refl
  use_unrefused (valued name text) first (inl spells) known = ap (list_any is_refused) spells.0 ∙ rw (name_unrefused name (options_named command sound name known), plain_unrefused text spells.1) refl
  use_unrefused (valued name text) first (inr spells) known = ap (list_any is_refused) spells ∙ rw (attached_unrefused name text (options_named command sound name known)) refl
  use_unrefused (operand name text) first spells known = ap (list_any is_refused) spells.0 ∙ rw (plain_unrefused text spells.1) refl

  unrefused : (uses : List Use) (words : List Text) → SpellsAll uses words → AreOf command uses → list_any is_refused words ≡ false
  unrefused [] words spelled known = ap (list_any is_refused) spelled
  unrefused (u ∷ uses) words spelled known =
      ap (list_any is_refused) spelled.2 ∙ list_any-append is_refused spelled.0 spelled.1
      ∙ or_from _ _ (use_unrefused u spelled.0 spelled.3 known.0) (unrefused uses spelled.1 spelled.4 known.1)

-- ---- the texts of the operands

operand_given : (n : Text) (uses : List Use) → is_in n (operand_names uses) ≡ true → is_in n (map name_of uses) ≡ true
operand_given n [] is = absurd (true≢false (sym is))
operand_given n (flag m ∷ uses) is = or_right _ _ (operand_given n uses is)
operand_given n (valued m t ∷ uses) is = or_right _ _ (operand_given n uses is)
operand_given n (operand m t ∷ uses) is = or_later (bytes_eq m n) _ _ (operand_given n uses) is

-- a use of another name says nothing of this one
not_first : (u : Use) (uses : List Use) (n : Text) → is_in (name_of u) (map name_of uses) ≡ false → is_in n (operand_names uses) ≡ true → text_given n (u ∷ uses) ≡ text_given n uses
not_first u uses n apart is = by (bytes_eq (name_of u) n) refl
  where
    by : (b : Bool) → bytes_eq (name_of u) n ≡ b → option_and_then text_of (cond b (Some u) (find (λ x. bytes_eq (name_of x) n) uses)) ≡ text_given n uses
    by true e = absurd (true≢false (sym (operand_given n uses is) ∙ sym (ap (λ m. is_in m (map name_of uses)) ((bytes_eq-Decides (name_of u) n).0 e)) ∙ apart))
    by false e = refl

operands_said : (uses : List Use) → are_apart (map name_of uses) ≡ true → all_texts (map (λ n. text_given n uses) (operand_names uses)) ≡ Some (operand_texts uses)
operands_said [] apart = refl
operands_said (flag m ∷ uses) apart =
    ap all_texts (map_on (λ n. text_given n (flag m ∷ uses)) (λ n. text_given n uses) (operand_names uses) (λ n is. not_first (flag m) uses n (not-true _ (and_parts _ _ apart).0) is)) ∙ operands_said uses (and_parts _ _ apart).1
operands_said (valued m t ∷ uses) apart =
    ap all_texts (map_on (λ n. text_given n (valued m t ∷ uses)) (λ n. text_given n uses) (operand_names uses) (λ n is. not_first (valued m t) uses n (not-true _ (and_parts _ _ apart).0) is)) ∙ operands_said uses (and_parts _ _ apart).1
operands_said (operand m t ∷ uses) apart =
    let here : text_given m (operand m t ∷ uses) ≡ Some t = rw (bytes_same m) refl in
    ap₂ with_first_text here (ap all_texts (map_on (λ n. text_given n (operand m t ∷ uses)) (λ n. text_given n uses) (operand_names uses) (λ n is. not_first (operand m t) uses n (not-true _ (and_parts _ _ apart).0) is))
    ∙ operands_said uses (and_parts _ _ apart).1)

complete_is : (command : Syntax) (uses : List Use) → are_apart (map name_of uses) ≡ true → operand_names uses ≡ command.operands → complete_by command uses ≡ Some (arguments_by command uses)
complete_is command uses apart all =
    ap (λ texts. option_map (λ ts. record { flags = map (λ name. is_given name uses) command.flags; options = map (λ name. text_given name uses) command.options; operands = ts }) texts)
    (ap (λ names. all_texts (map (λ n. text_given n uses) names)) (sym all) ∙ operands_said uses apart)

-- ---- each operand is given

all_given : (f : Text → Option Text) (names texts : List Text) → all_texts (map f names) ≡ Some texts → (n : Text) → is_in n names ≡ true → f n ≡ None → ⊥
all_given f [] texts all n is none = true≢false (sym is)
all_given f (m ∷ names) texts all n is none = by (bytes_eq m n) refl (f m) refl is all (all_given f names)
  where
    by : (b : Bool) → bytes_eq m n ≡ b → (text : Option Text) → f m ≡ text → (b || is_in n names) ≡ true → with_first_text text (all_texts (map f names)) ≡ Some texts
        → ((texts : List Text) → all_texts (map f names) ≡ Some texts → (n : Text) → is_in n names ≡ true → f n ≡ None → ⊥) → ⊥
    by b e None t i a go = absurd cc
    by true e (Some text) t i a go =
        let same : ◌≡◌ {A = Option Text} (Some text) None = sym t ∙ ap f ((bytes_eq-Decides m n).0 e) ∙ none in
        absurd cc
    by false e (Some text) t i a go = rest (all_texts (map f names)) refl a
      where
        rest : (r : Option (List Text)) → all_texts (map f names) ≡ r → option_map (λ ts. text ∷ ts) r ≡ Some texts → ⊥
        rest None q a = absurd cc
        rest (Some ts) q a = go ts q n i none

none_given : (n : Text) (uses : List Use) → is_given n uses ≡ false → text_given n uses ≡ None
none_given n uses absent = ap (option_and_then text_of) (found_nowhere (λ u. bytes_eq (name_of u) n) uses absent)

-- a name among these is not one that is not
not_among : (names : List Text) (m n : Text) → is_in m names ≡ true → is_in n names ≡ false → bytes_eq m n ≡ false
not_among names m n is none = differs (λ x. not (is_in x names)) n m (ap not none) (ap not is)

given_operand : (command : Syntax) (n : Text) (uses : List Use) → AreOf command uses → is_in n command.flags ≡ false → is_in n command.options ≡ false → is_given n uses ≡ true → is_in n (operand_names uses) ≡ true
given_operand command n [] are no_flag no_option given = absurd (true≢false (sym given))
given_operand command n (flag m ∷ uses) are no_flag no_option given =
    given_operand command n uses are.1 no_flag no_option (ap (λ b. b || is_given n uses) (sym (not_among command.flags m n are.0 no_flag)) ∙ given)
given_operand command n (valued m t ∷ uses) are no_flag no_option given =
    given_operand command n uses are.1 no_flag no_option (ap (λ b. b || is_given n uses) (sym (not_among command.options m n are.0 no_option)) ∙ given)
given_operand command n (operand m t ∷ uses) are no_flag no_option given = or_later (bytes_eq m n) _ _ (given_operand command n uses are.1 no_flag no_option) given

apart_take : (xs : List Text) (k : ℕ) (n : Text) → are_apart xs ≡ true → slice_get xs k ≡ Some n → is_in n (take k xs) ≡ false
apart_take [] k n apart is = absurd cc
apart_take (x ∷ xs) zero n apart is = refl
apart_take (x ∷ xs) (suc k) n apart is = by (bytes_eq x n) refl (apart_take xs k n (and_parts _ _ apart).1 is)
  where
    by : (b : Bool) → bytes_eq x n ≡ b → is_in n (take k xs) ≡ false → (b || is_in n (take k xs)) ≡ false
    by true e go = absurd (true≢false (sym (slice_in xs k n is) ∙ sym (ap (λ m. is_in m xs) ((bytes_eq-Decides x n).0 e)) ∙ not-true _ (and_parts _ _ apart).0))
    by false e go = go

take_or_next : (xs : List Text) (k : ℕ) → (take k xs ≡ xs) ⊎ ((n : Text) × (slice_get xs k ≡ Some n))
take_or_next [] zero = inl refl
take_or_next [] (suc k) = inl refl
take_or_next (x ∷ xs) zero = inr (x, refl)
take_or_next (x ∷ xs) (suc k) = by (take_or_next xs k)
  where
    by : (take k xs ≡ xs) ⊎ ((n : Text) × (slice_get xs k ≡ Some n)) → (x ∷ take k xs ≡ x ∷ xs) ⊎ ((n : Text) × (slice_get xs k ≡ Some n))
    by (inl e) = inl (ap (λ l. x ∷ l) e)
    by (inr p) = inr p

module _ (command : Syntax) (sound : is_sound command ≡ true) where
  complete : (uses : List Use) (texts : List Text) → Fine command uses → all_texts (map (λ n. text_given n uses) command.operands) ≡ Some texts → operand_names uses ≡ command.operands
  complete uses texts fine all = fine.turn ∙ by (take_or_next command.operands (count_operands uses))
    where
      by : (take (count_operands uses) command.operands ≡ command.operands) ⊎ ((n : Text) × (slice_get command.operands (count_operands uses) ≡ Some n)) → take (count_operands uses) command.operands ≡ command.operands
      by (inl e) = e
      by (inr p) =
          let known = slice_in command.operands (count_operands uses) p.0 p.1 in
          let apart = operand_not command sound p.0 known in
          absurd (given (is_given p.0 uses) refl known apart)
        where
          given : (g : Bool) → is_given p.0 uses ≡ g → is_in p.0 command.operands ≡ true → (is_in p.0 command.flags ≡ false) × (is_in p.0 command.options ≡ false) → ⊥
          given true g known apart =
              let among = given_operand command p.0 uses fine.known apart.0 apart.1 g in
              true≢false (sym among ∙ ap (is_in p.0) fine.turn ∙ apart_take command.operands (count_operands uses) p.0 (operands_apart command sound) p.1)
          given false g known apart = all_given (λ n. text_given n uses) command.operands texts all p.0 known (none_given p.0 uses g)

  means : (words : List Text) (said : Arguments) → arguments_of command words ≡ Some said → Means command words said
  means words said is = by (list_any is_refused words) refl (uses_from command words []) refl is
    where
      one : (uses : List Use) → SpellsAll uses words × Fine command uses → (texts : Option (List Text)) → all_texts (map (λ n. text_given n uses) command.operands) ≡ texts
          → complete_by command uses ≡ Some said → Means command words said
      one uses done None e i =
          let bad : ◌≡◌ {A = Option Arguments} None (Some said) = sym (ap (λ t. option_map (λ ts. record {
            flags = map (λ name. is_given name uses) command.flags;
            options = map (λ name. text_given name uses) command.options;
            operands = ts;
          }) t) e) ∙ i in
          absurd cc
      one uses done (Some texts) e i =
          let all = complete uses texts done.1 e in
          let same : ◌≡◌ {A = Option Arguments} (Some said) (Some (arguments_by command uses)) = sym i ∙ complete_is command uses done.1.once all in
          (uses, record { spelled = done.0; known = done.1.known; once = done.1.once; operands = all }, cc)

      by : (stray : Bool) → list_any is_refused words ≡ stray → (found : Option (List Use)) → uses_from command words [] ≡ found
          → (if stray then None else option_and_then (complete_by command) found) ≡ Some said → Means command words said
      by true s found f i = absurd cc
      by false s None f i = absurd cc
      by false s (Some uses) f i = one uses (read_all command sound words s uses f) (all_texts (map (λ n. text_given n uses) command.operands)) refl i

  meant : (words : List Text) (said : Arguments) → Means command words said → arguments_of command words ≡ Some said
  meant words said m =
      let none = unrefused command sound m.0 words m.1.spelled m.1.known in
      let read : uses_from command words [] ≡ Some m.0 = says_read command sound m.0 [] words m.1.spelled m.1.known m.1.once m.1.operands in
      ap₂ (λ b u. if b then None else option_and_then (complete_by command) u) none read
      ∙ complete_is command m.0 m.1.once m.1.operands ∙ ap Some (sym m.2)

  pub read_exactly : (words : List Text) (said : Arguments) → arguments_of command words ≡ Some said ↔ Means command words said
  read_exactly words said = (means words said, meant words said)

  -- what is read is what the words mean, if they mean anything
  pub read_means : (words : List Text) (found : Option Arguments) → found ≡ arguments_of command words → IsMeaning command words found
  read_means words (Some arguments) is = means words arguments (sym is)
  read_means words None is = λ arguments m.
      let bad : ◌≡◌ {A = Option Arguments} None (Some arguments) = is ∙ meant words arguments m in
      absurd cc

  -- `clap` accepts what is said, by its own contract
  pub clap_accepts : (words : List Text) (said : Arguments) → Means command words said → fault_of (app_for command) words ≡ []
  clap_accepts words said m =
      let none = unrefused command sound m.0 words m.1.spelled m.1.known in
      accepted command sound words (plain_words words none) m.0 (says_read command sound m.0 [] words m.1.spelled m.1.known m.1.once m.1.operands)
