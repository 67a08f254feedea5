-- Where the words of an option stand among the words of a command, whatever stands before and after them.
use Rattle.std.proofs.Common.{◌≡◌, ◌⊎◌, true, false, List, [], ◌∷◌, ◌++◌, Option, Some, None, inl, inr, refl, sym, ap, ◌∙◌, subst, true≢false}
use Rattle.command_words.specs.ArgumentReading.{long_of}
use Rattle.command_words.specs.SpelledWords.{Use, flag, valued, operand, Spells, SpellsAll, IsOf, AreOf}
use Rattle.command_words.specs.Syntax.{Syntax, Text, dashed, is_in, is_option_name, is_sound}
use Rattle.command_words.proofs.LawLemmas.{name_long, attached_long, plain_long}
use Rattle.command_words.proofs.SoundLemmas.{flags_named, options_named}

heads : (x y : Text) (xs ys : List Text) → x ∷ xs ≡ y ∷ ys → x ≡ y
heads x y xs ys same = cc

tails : (x y : Text) (xs ys : List Text) → x ∷ xs ≡ y ∷ ys → xs ≡ ys
tails x y xs ys same = cc

-- the uses before and after one of this value, and the words of both
pub record Placed (uses : List Use) (name text : Text) (prefix back : List Text) : Type 0 where
  pub before : List Use
  pub after : List Use
  pub is : uses ≡ before ++ valued name text ∷ after
  pub spells_before : SpellsAll before prefix
  pub spells_after : SpellsAll after back

-- what a word says of a name and a value
abbrev Long : Type 0
Long = Option (Text × Option Text)

abbrev value_of : Long → Option Text
value_of None = None
value_of (Some long) = long.1

abbrev name_said : Long → Option Text
name_said None = None
name_said (Some long) = Some long.0

-- a word with a value is none without
no_value : (name n text : Text) → ◌≡◌ {A = Long} (Some (name, Some text)) (Some (n, None)) → ⊥
no_value name n text same = let value : ◌≡◌ {A = Option Text} (Some text) None = ap value_of same in absurd cc

module _ (command : Syntax) (sound : is_sound command ≡ true) (name text : Text) (named : is_option_name name ≡ true) (no_flag : is_in name command.flags ≡ false) where
  -- the first of the words that spell the option, and those after it
  first_of : (spelled : List Text) → Spells (valued name text) spelled → (word : Text) × (others : List Text) × (value : Option Text) × (spelled ≡ word ∷ others) × (long_of word ≡ Some (name, value))
  first_of spelled (inl two) = (dashed name, text ∷ [], None, two.0, name_long name named)
  first_of spelled (inr one) = (dashed (name ++ 61 ∷ text), [], Some text, one, attached_long name text named)

  -- no use but that one begins with the words of the option
  begins : (u : Use) (first rest spelled back : List Text) → spelled ++ back ≡ first ++ rest → Spells u first → IsOf command u → Spells (valued name text) spelled
      → (u ≡ valued name text) × (back ≡ rest)
  begins (flag n) first rest spelled back same spells known (inl two) =
      let all : dashed name ∷ text ∷ back ≡ dashed n ∷ rest = ap (λ (ws : List Text). ws ++ back) (sym two.0) ∙ (same ∙ ap (λ (ws : List Text). ws ++ rest) spells) in
      let long : ◌≡◌ {A = Long} (Some (name, None)) (Some (n, None)) = sym (name_long name named) ∙ (ap long_of (heads (dashed name) (dashed n) (text ∷ back) rest all) ∙ name_long n (flags_named command sound n known)) in
      let one : name ≡ n = cc in
      absurd (true≢false (sym known ∙ (ap (λ m. is_in m command.flags) (sym one) ∙ no_flag)))
  begins (flag n) first rest spelled back same spells known (inr attached) =
      let all : dashed (name ++ 61 ∷ text) ∷ back ≡ dashed n ∷ rest = ap (λ (ws : List Text). ws ++ back) (sym attached) ∙ (same ∙ ap (λ (ws : List Text). ws ++ rest) spells) in
      let long : ◌≡◌ {A = Long} (Some (name, Some text)) (Some (n, None)) = sym (attached_long name text named)
      ∙ (ap long_of (heads (dashed (name ++ 61 ∷ text)) (dashed n) back rest all) ∙ name_long n (flags_named command sound n known)) in
      absurd (no_value name n text long)
  begins (operand n t) first rest spelled back same spells known is =
      let one = first_of spelled is in
      let all : one.0 ∷ (one.1 ++ back) ≡ t ∷ rest = ap (λ (ws : List Text). ws ++ back) (sym one.3) ∙ (same ∙ ap (λ (ws : List Text). ws ++ rest) spells.0) in
      let long : ◌≡◌ {A = Long} (Some (name, one.2)) None = sym one.4 ∙ (ap long_of (heads one.0 t (one.1 ++ back) rest all) ∙ plain_long t spells.1) in
      absurd cc
  begins (valued n t) first rest spelled back same (inl two) known (inl is) =
      let all : dashed name ∷ text ∷ back ≡ dashed n ∷ t ∷ rest = ap (λ (ws : List Text). ws ++ back) (sym is.0) ∙ (same ∙ ap (λ (ws : List Text). ws ++ rest) two.0) in
      let long : ◌≡◌ {A = Long} (Some (name, None)) (Some (n, None)) = sym (name_long name named) ∙ (ap long_of (heads (dashed name) (dashed n) (text ∷ back) (t ∷ rest) all) ∙ name_long n (options_named command sound n known)) in
      let one : n ≡ name = cc in
      let others = tails (dashed name) (dashed n) (text ∷ back) (t ∷ rest) all in
      let value : t ≡ text = sym (heads text t back rest others) in
      (rw (one, value) refl, tails text t back rest others)
  begins (valued n t) first rest spelled back same (inl two) known (inr is) =
      let all : dashed (name ++ 61 ∷ text) ∷ back ≡ dashed n ∷ t ∷ rest = ap (λ (ws : List Text). ws ++ back) (sym is) ∙ (same ∙ ap (λ (ws : List Text). ws ++ rest) two.0) in
      let long : ◌≡◌ {A = Long} (Some (name, Some text)) (Some (n, None)) = sym (attached_long name text named)
      ∙ (ap long_of (heads (dashed (name ++ 61 ∷ text)) (dashed n) back (t ∷ rest) all) ∙ name_long n (options_named command sound n known)) in
      absurd (no_value name n text long)
  begins (valued n t) first rest spelled back same (inr attached) known (inl is) =
      let all : dashed name ∷ text ∷ back ≡ dashed (n ++ 61 ∷ t) ∷ rest = ap (λ (ws : List Text). ws ++ back) (sym is.0) ∙ (same ∙ ap (λ (ws : List Text). ws ++ rest) attached) in
      let long : ◌≡◌ {A = Long} (Some (name, None)) (Some (n, Some t)) = sym (name_long name named) ∙ (ap long_of (heads (dashed name) (dashed (n ++ 61 ∷ t)) (text ∷ back) rest all)
      ∙ attached_long n t (options_named command sound n known)) in
      absurd (no_value n name t (sym long))
  begins (valued n t) first rest spelled back same (inr attached) known (inr is) =
      let all : dashed (name ++ 61 ∷ text) ∷ back ≡ dashed (n ++ 61 ∷ t) ∷ rest = ap (λ (ws : List Text). ws ++ back) (sym is) ∙ (same ∙ ap (λ (ws : List Text). ws ++ rest) attached) in
      let long : ◌≡◌ {A = Long} (Some (name, Some text)) (Some (n, Some t)) = sym (attached_long name text named)
      ∙ (ap long_of (heads (dashed (name ++ 61 ∷ text)) (dashed (n ++ 61 ∷ t)) back rest all) ∙ attached_long n t (options_named command sound n known)) in
      let names : ◌≡◌ {A = Option Text} (Some name) (Some n) = ap name_said long in
      let one : n ≡ name = cc in
      let values : ◌≡◌ {A = Option Text} (Some text) (Some t) = ap value_of long in
      let value : t ≡ text = cc in
      (rw (one, value) refl, tails (dashed (name ++ 61 ∷ text)) (dashed (n ++ 61 ∷ t)) back rest all)

  -- one use more stands before
  with_first : (u : Use) (uses : List Use) (first prefix back : List Text) → Spells u first → Placed uses name text prefix back → Placed (u ∷ uses) name text (first ++ prefix) back
  with_first u uses first prefix back spells placed = record {
    before = u ∷ placed.before;
    after = placed.after;
    is = ap (λ (us : List Use). u ∷ us) placed.is;
    spells_before = (first, prefix, refl, spells, placed.spells_before);
    spells_after = placed.spells_after;
  }

  -- one word spells a use, or two of which the second is no option
  words_of_use : (u : Use) (first : List Text) → Spells u first → ((w : Text) × (first ≡ w ∷ [])) ⊎ ((w : Text) × (t : Text) × (first ≡ w ∷ t ∷ []) × (long_of t ≡ None))
  words_of_use (flag n) first spells = inl (dashed n, spells)
  words_of_use (operand n t) first spells = inl (t, spells.0)
  words_of_use (valued n t) first (inl two) = inr (dashed n, t, two.0, plain_long t two.1)
  words_of_use (valued n t) first (inr one) = inl (dashed (n ++ 61 ∷ t), one)

  module _ (u : Use) (uses : List Use) (first rest spelled back : List Text) (spells : Spells u first) (others : SpellsAll uses rest) (is : Spells (valued name text) spelled)
      (later : (prefix : List Text) → SpellsAll uses (prefix ++ (spelled ++ back)) → Placed uses name text prefix back) where
    after_two : (w v t : Text) (prefix : List Text) → first ≡ w ∷ t ∷ [] → long_of t ≡ None → prefix ++ (spelled ++ back) ≡ t ∷ rest → Placed (u ∷ uses) name text (w ∷ prefix) back
    after_two w v t [] two none now =
        let one = first_of spelled is in
        let all : one.0 ∷ (one.1 ++ back) ≡ t ∷ rest = ap (λ (ws : List Text). ws ++ back) (sym one.3) ∙ now in
        let long : ◌≡◌ {A = Long} (Some (name, one.2)) None = sym one.4 ∙ (ap long_of (heads one.0 t (one.1 ++ back) rest all) ∙ none) in
        absurd cc
    after_two w v t (x ∷ prefix) two none now =
        let same : prefix ++ (spelled ++ back) ≡ rest = tails x t (prefix ++ (spelled ++ back)) rest now in
        let words : first ++ prefix ≡ w ∷ x ∷ prefix = ap (λ (ws : List Text). ws ++ prefix) two ∙ ap (λ (y : Text). w ∷ y ∷ prefix) (sym (heads x t (prefix ++ (spelled ++ back)) rest now)) in
        subst (λ (ws : List Text). Placed (u ∷ uses) name text ws back) words (with_first u uses first prefix back spells (later prefix (subst (SpellsAll uses) (sym same) others)))

    pub after_first : (w : Text) (prefix : List Text) → w ∷ (prefix ++ (spelled ++ back)) ≡ first ++ rest → Placed (u ∷ uses) name text (w ∷ prefix) back
    after_first w prefix now = by (words_of_use u first spells)
      where
        by : ((w : Text) × (first ≡ w ∷ [])) ⊎ ((w : Text) × (t : Text) × (first ≡ w ∷ t ∷ []) × (long_of t ≡ None)) → Placed (u ∷ uses) name text (w ∷ prefix) back
        by (inl (v, one)) =
            let all : w ∷ (prefix ++ (spelled ++ back)) ≡ v ∷ rest = now ∙ ap (λ (ws : List Text). ws ++ rest) one in
            let words : first ++ prefix ≡ w ∷ prefix = ap (λ (ws : List Text). ws ++ prefix) one ∙ ap (λ (y : Text). y ∷ prefix) (sym (heads w v (prefix ++ (spelled ++ back)) rest all)) in
            subst (λ (ws : List Text). Placed (u ∷ uses) name text ws back) words
            (with_first u uses first prefix back spells (later prefix (subst (SpellsAll uses) (sym (tails w v (prefix ++ (spelled ++ back)) rest all)) others)))
        by (inr (v, t, two, none)) =
            let all : w ∷ (prefix ++ (spelled ++ back)) ≡ v ∷ t ∷ rest = now ∙ ap (λ (ws : List Text). ws ++ rest) two in
            let first_is : first ≡ w ∷ t ∷ [] = two ∙ ap (λ (y : Text). y ∷ t ∷ []) (sym (heads w v (prefix ++ (spelled ++ back)) (t ∷ rest) all)) in
            after_two w v t prefix first_is none (tails w v (prefix ++ (spelled ++ back)) (t ∷ rest) all)

  initial : (u : Use) (uses : List Use) (prefix first rest spelled back : List Text) → prefix ++ (spelled ++ back) ≡ first ++ rest → Spells u first → SpellsAll uses rest → IsOf command u
      → Spells (valued name text) spelled → ((ws : List Text) → SpellsAll uses (ws ++ (spelled ++ back)) → Placed uses name text ws back) → Placed (u ∷ uses) name text prefix back
  initial u uses [] first rest spelled back same spells others known is later =
      let one = begins u first rest spelled back same spells known is in
      record { before = []; after = uses; is = ap (λ (v : Use). v ∷ uses) one.0; spells_before = refl; spells_after = subst (SpellsAll uses) (sym one.1) others }
  initial u uses (w ∷ prefix) first rest spelled back same spells others known is later = after_first u uses first rest spelled back spells others is later w prefix same

  nothing_left : (prefix spelled back : List Text) → prefix ++ (spelled ++ back) ≡ [] → Spells (valued name text) spelled → ⊥
  nothing_left [] spelled back same is =
      let one = first_of spelled is in
      let all : one.0 ∷ (one.1 ++ back) ≡ [] = ap (λ (ws : List Text). ws ++ back) (sym one.3) ∙ same in
      absurd cc
  nothing_left (w ∷ prefix) spelled back same is = absurd cc

  -- the option is one of the uses, and the words before and after it spell the others
  pub placed : (uses : List Use) (prefix spelled back : List Text) → SpellsAll uses (prefix ++ (spelled ++ back)) → AreOf command uses → Spells (valued name text) spelled → Placed uses name text prefix back
  placed [] prefix spelled back spells known is = absurd (nothing_left prefix spelled back spells is)
  placed (u ∷ uses) prefix spelled back (first, rest, same, spells, others) known is =
      initial u uses prefix first rest spelled back same spells others known.0 is (λ ws all. placed uses ws spelled back all known.1 is)
