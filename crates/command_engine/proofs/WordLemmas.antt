-- A line is written word by word, and there is capacity for each.
use Rattle.std.proofs.Common.{◌≡◌, ℕ, ◌+◌, ◌<◌, suc, List, length, drop, get_or, ap, ◌∙◌, arith, drop-cons}
use Rattle.command_engine.specs.Words.{most_word, most_bytes}
use Rattle.command_engine.specs.declared.words.Word.{Word}

-- the most that the words from a place on take is that of the word there and of the others
pub most_bytes-at : (words : List Word) (i : ℕ) (d : Word) → i < length words → most_bytes (drop i words) ≡ most_word (get_or words i d) + 1 + most_bytes (drop (i + 1) words)
most_bytes-at words i d within =
    let next : suc i ≡ i + 1 = omega arith in
    ap most_bytes (drop-cons words i d within) ∙ ap (λ (k : ℕ). most_word (get_or words i d) + 1 + most_bytes (drop k words)) next
