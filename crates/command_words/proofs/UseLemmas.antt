-- The operands of uses that are put together.
use Rattle.std.proofs.Common.{◌≡◌, suc, List, [], ◌∷◌, ◌++◌, length, refl, ap, ◌∙◌, arith, append-nil}
use Rattle.std.proofs.lemmas.List.{length-append}
use Rattle.command_words.specs.Syntax.{Text}
use Rattle.command_words.specs.SpelledWords.{Use, flag, valued, operand, operand_names}
use Rattle.command_words.specs.ArgumentReading.{count_operands}

pub operands_append : (uses more : List Use) → operand_names (uses ++ more) ≡ operand_names uses ++ operand_names more
operands_append [] more = refl
operands_append (flag n ∷ uses) more = operands_append uses more
operands_append (valued n t ∷ uses) more = operands_append uses more
operands_append (operand n t ∷ uses) more = ap (λ l. n ∷ l) (operands_append uses more)

pub flag_count : (uses : List Use) (name : Text) → count_operands (uses ++ flag name ∷ []) ≡ count_operands uses
flag_count uses name = ap length (operands_append uses (flag name ∷ []) ∙ append-nil (operand_names uses))

pub valued_count : (uses : List Use) (name text : Text) → count_operands (uses ++ valued name text ∷ []) ≡ count_operands uses
valued_count uses name text = ap length (operands_append uses (valued name text ∷ []) ∙ append-nil (operand_names uses))

pub operand_count : (uses : List Use) (name text : Text) → count_operands (uses ++ operand name text ∷ []) ≡ suc (count_operands uses)
operand_count uses name text =
    let longer = length-append (operand_names uses) (name ∷ []) in
    ap length (operands_append uses (operand name text ∷ [])) ∙ omega (arith, longer)
