-- What words that are read are.
use Rattle.std.proofs.Common.{◌≡◌, ◌⊎◌, ℕ, Bool, true, false, cond, List, Result, Ok, Err, refl, ap, subst, rules, inl, inr, IsTrue}
use Rattle.std.specs.Str.{bytes_eq}
use Rattle.std.proofs.lemmas.Slice.Eq.{bytes_eq-Decides}
use Rattle.net_model.specs.Names.{is_name, is_short_name}
use Rattle.net_model.specs.Numbers.{name_of, short_name_of}
use Rattle.net_model.specs.WordReading.{◌>>=◌}
use Rattle.net_model.specs.declared.format.FormatKind.{FormatKind}
use Rattle.net_model.specs.declared.format.FormatKind.TheVariants.{BadName}

-- a choice by a test
pub choice : {A : Type 0} (test : Bool) (x y z : A) → cond test x y ≡ z → ((test ≡ true) × (x ≡ z)) ⊎ ((test ≡ false) × (y ≡ z))
choice true x y z chosen = inl (refl, chosen)
choice false x y z chosen = inr (refl, chosen)

-- if all words are read, the first one is
pub bind_ok : {A B : Type 0} (read : Result A FormatKind) (next : A → Result B FormatKind) (y : B) → (read >>= next) ≡ Ok y → (x : A) × (read ≡ Ok x) × (next x ≡ Ok y)
bind_ok (Ok x) next y said = (x, refl, said)
bind_ok (Err kind) next y said = absurd (cc)

-- if a word is refused, it is the first one or a later one
pub bind_err : {A B : Type 0} (read : Result A FormatKind) (next : A → Result B FormatKind) (kind : FormatKind) → (read >>= next) ≡ Err kind → (read ≡ Err kind) ⊎ ((x : A) × (read ≡ Ok x) × (next x ≡ Err kind))
bind_err (Ok x) next kind said = inr (x, refl, said)
bind_err (Err k) next kind said = inl (let same : k ≡ kind = cc in ap (λ (e : FormatKind). Err e) same)

-- a word that is read as no name is none
pub name_err : (word : List ℕ) (kind : FormatKind) → name_of word ≡ Err kind → (is_name word ≡ false) × (kind ≡ BadName)
name_err word kind read =
    elim (choice (is_name word) (Ok word) (Err BadName) (Err kind) read) [
      | inl named ↦ absurd (let wrong : Ok word ≡ Err kind = named.1 in cc)
      | inr other ↦ (other.0, let same : Err BadName ≡ Err kind = other.1 in cc)
    ]

-- a name is read as it is
pub name_ok : (word name : List ℕ) → name_of word ≡ Ok name → (word ≡ name) × IsTrue (is_name name)
name_ok word name read =
    elim (choice (is_name word) (Ok word) (Err BadName) (Ok name) read) [
      | inl named ↦ let same : word ≡ name = cc in (same, subst (λ (w : List ℕ). IsTrue (is_name w)) same named.0)
      | inr other ↦ absurd (cc)
    ]

pub name_read : (name : List ℕ) → IsTrue (is_name name) → name_of name ≡ Ok name
name_read name named = rw named refl

-- the same of a name that is short
pub short_name_err : (word : List ℕ) (kind : FormatKind) → short_name_of word ≡ Err kind → (is_short_name word ≡ false) × (kind ≡ BadName)
short_name_err word kind read =
    elim (choice (is_short_name word) (Ok word) (Err BadName) (Err kind) read) [
      | inl named ↦ absurd (let wrong : Ok word ≡ Err kind = named.1 in cc)
      | inr other ↦ (other.0, let same : Err BadName ≡ Err kind = other.1 in cc)
    ]

pub short_name_ok : (word name : List ℕ) → short_name_of word ≡ Ok name → (word ≡ name) × IsTrue (is_short_name name)
short_name_ok word name read =
    elim (choice (is_short_name word) (Ok word) (Err BadName) (Ok name) read) [
      | inl named ↦ let same : word ≡ name = cc in (same, subst (λ (w : List ℕ). IsTrue (is_short_name w)) same named.0)
      | inr other ↦ absurd (cc)
    ]

pub short_name_read : (name : List ℕ) → IsTrue (is_short_name name) → short_name_of name ≡ Ok name
short_name_read name named = rw named refl

-- a word that is spelled so
pub word_is : (word spelling : List ℕ) → bytes_eq word spelling ≡ true → word ≡ spelling
word_is word spelling same = search (rules, same, bytes_eq-Decides)
