-- What is required of a text of lines in sections, for each of its first words, its values and its prefixes.
use Rattle.std.specs.Prelude.{◌≡◌, ℕ, true, false, List, ◌∷◌, ◌++◌, Some, Ok}
use Rattle.texts.specs.Words.{is_remark, are_passed_over, words}
use Rattle.sectioned_texts.specs.SectionedTexts.{SectionedText, IsLineIn, IsPrefixOf, CanBecomeText}
use Rattle.sectioned_texts.specs.Reading.{word_of, line_after}

-- lines after a prefix end a text, which has this value
pub record IsEndedBy {S K L P V : Type 0} (text : SectionedText S K L P V) (all : List (List ℕ)) (value : V) (after : List (List ℕ)) : Type 0 where
  pub prefix : List (List ℕ)
  pub last : List ℕ
  pub read : P
  pub said : L
  pub whole : all ≡ prefix ++ last ∷ after
  pub leads : IsPrefixOf text prefix read
  pub comes : IsLineIn text (text.section read) said (words last)
  pub ends : text.is_last said ≡ true
  pub value_is : text.value (text.advanced read said) ≡ value

-- First words are found as they are spelled, and are no remarks; what is read after a first word is what the line says; and a header may come where it must.
pub record HasLawfulLines {S K L P V : Type 0} (text : SectionedText S K L P V) : Type 0 where
  pub found : (first : K) → word_of text (text.spelled first) ≡ Some first
  pub filled : (first : K) → is_remark (text.spelled first) ≡ false
  pub said : (first : K) (others : List (List ℕ)) (said : L) → line_after text first others ≡ Ok said → text.says said (text.spelled first ∷ others)
  pub read : (first : K) (others : List (List ℕ)) (said : L) → text.says said (text.spelled first ∷ others) → line_after text first others ≡ Ok said
  pub blank : (line : List (List ℕ)) → are_passed_over line ≡ true → text.says text.blank line
  pub header : (section : S) (line : List (List ℕ)) → text.opens section ≡ true → text.IsHeader line → (said : L) × IsLineIn text section said line

-- Its lines are lawful, the values that lines declare are those that their prefixes end in, and each prefix can be continued.
pub record IsLawful {S K L P V : Type 0} (text : SectionedText S K L P V) : Type 0 where
  pub lines : HasLawfulLines text
  pub ended : (all : List (List ℕ)) (value : V) (after : List (List ℕ)) → text.declares all value after → IsEndedBy text all value after
  pub declared : (all : List (List ℕ)) (value : V) (after : List (List ℕ)) → IsEndedBy text all value after → text.declares all value after
  pub continued : (prefix : List (List ℕ)) (read : P) → IsPrefixOf text prefix read → CanBecomeText text prefix
