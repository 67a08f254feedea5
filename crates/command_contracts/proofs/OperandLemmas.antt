-- The texts of operands: as many as there are names.
use Rattle.std.proofs.Common.{◌≡◌, suc, List, [], ◌∷◌, length, refl, ap, ◌∙◌}
use Rattle.command_words.specs.Arguments.{operand_texts}
use Rattle.command_words.specs.SpelledWords.{Use, flag, valued, operand, operand_names}
use Rattle.command_words.specs.Syntax.{Text}

as_many : (uses : List Use) → length (operand_texts uses) ≡ length (operand_names uses)
as_many [] = refl
as_many (flag name ∷ uses) = as_many uses
as_many (valued name text ∷ uses) = as_many uses
as_many (operand name text ∷ uses) = ap (λ n. suc n) (as_many uses)

one_of : (texts : List Text) → length texts ≡ 1 → (text : Text) × (texts ≡ text ∷ [])
one_of [] is = absurd cc
one_of (text ∷ []) is = (text, refl)
one_of (text ∷ other ∷ texts) is = absurd cc

two_of : (texts : List Text) → length texts ≡ 2 → (first : Text) × (second : Text) × (texts ≡ first ∷ second ∷ [])
two_of [] is = absurd cc
two_of (text ∷ []) is = absurd cc
two_of (first ∷ second ∷ []) is = (first, second, refl)
two_of (first ∷ second ∷ third ∷ texts) is = absurd cc

-- if a command has one operand, one text is given
pub one_text : (uses : List Use) (name : Text) → operand_names uses ≡ name ∷ [] → (text : Text) × (operand_texts uses ≡ text ∷ [])
one_text uses name is = one_of (operand_texts uses) (as_many uses ∙ ap length is)

-- and if it has two, two are
pub two_texts : (uses : List Use) (name other : Text) → operand_names uses ≡ name ∷ other ∷ [] → (first : Text) × (second : Text) × (operand_texts uses ≡ first ∷ second ∷ [])
two_texts uses name other is = two_of (operand_texts uses) (as_many uses ∙ ap length is)
