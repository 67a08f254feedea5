-- What follows the first word of a line: of a header one word, the version, and of another line the words of its form.
use Rattle.std.proofs.Common.{◌≡◌, ◌==◌, ℕ, Bool, true, false, cond, List, [], ◌∷◌, length, Option, None, Some, Ok, Err, refl, sym, ap, ◌∙◌, subst, inl, inr, codes}
use Rattle.std.specs.Str.{bytes_eq}
use Rattle.net_model.specs.LineReading.{counted, read_by}
use Rattle.net_model.specs.Places.{Form}
use Rattle.net_model.specs.declared.format.FormatKind.{FormatKind}
use Rattle.net_model.specs.declared.format.FormatKind.TheVariants.{UnknownWord, WordCount}
use Rattle.net_model.proofs.LineLemmas.{HaveLimits, Values, spellings, AreSpelled, made_of, stated_by}
use Rattle.net_model.proofs.ReadWordLemmas.{choice, word_is}
use Rattle.sectioned_texts.specs.Reading.{header_or_unknown, version_one, header_line}

-- if there is one word it is this one
one_is : (others : List (List ℕ)) (version : List ℕ) → counted 1 others ≡ Ok (version ∷ []) → others ≡ version ∷ []
one_is [] version one = absurd (cc)
one_is (word ∷ []) version one = cc
one_is (word ∷ next ∷ others) version one = absurd (more (length (word ∷ next ∷ others) == 1) one)
  where
    more : (counts : Bool) → cond counts (Ok (word ∷ next ∷ others)) (Err WordCount) ≡ Ok (version ∷ []) → ⊥
    more true one = absurd (cc)
    more false one = absurd (cc)

pub header_of : {L : Type 0} (says : List ℕ → Option L) (others : List (List ℕ)) (version : List ℕ) → counted 1 others ≡ Ok (version ∷ []) → header_line says others ≡ header_or_unknown (says version)
header_of says others version one = ap (header_line says) (one_is others version one)

pub no_header : {L : Type 0} (says : List ℕ → Option L) (others : List (List ℕ)) (kind : FormatKind) → counted 1 others ≡ Err kind → header_line says others ≡ Err UnknownWord
no_header says [] kind none = refl
no_header says (word ∷ []) kind none = absurd (cc)
no_header says (word ∷ next ∷ others) kind none = refl

-- a header of version 1 is read of this word alone
pub one_said : {L : Type 0} (header said : L) (others : List (List ℕ)) → header_line (version_one header) others ≡ Ok said → (others ≡ codes "1" ∷ []) × (header ≡ said)
one_said header said [] read = absurd (cc)
one_said header said (version ∷ []) read =
    elim (choice (bytes_eq version (codes "1")) (Some header) None (version_one header version) refl) [
      | inl one ↦ (ap (λ (w : List ℕ). w ∷ []) (word_is version (codes "1") one.0), let both : Ok header ≡ Ok said = ap header_or_unknown one.1 ∙ read in let same : header ≡ said = cc in same)
      | inr other ↦ absurd (let wrong : Err UnknownWord ≡ Ok said = ap header_or_unknown other.1 ∙ read in cc)
    ]
one_said header said (version ∷ next ∷ others) read = absurd (cc)

-- what is read by a form is what its words spell
pub said_by : {A : Type 0} (form : Form A) (Said : A → List (List ℕ) → Type 0) (others : List (List ℕ)) (said : A) → HaveLimits form.places
    → ((values : Values form.places) → AreSpelled form.places values → Said (made_of form.places form.make values) (spellings form.places values)) → read_by form others ≡ Ok said → Said said others
said_by form Said others said limits spells read =
    let stated = stated_by form others said limits read in
    subst (λ t. Said t others) stated.made (subst (λ (ws : List (List ℕ)). Said (made_of form.places form.make stated.values) ws) (sym stated.words) (spells stated.values stated.spelled))
