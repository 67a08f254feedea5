-- How many words a line can have.
use Rattle.std.proofs.Common.{◌≡◌, ℕ, ◌+◌, ◌*◌, ◌≤◌, Bool, true, false, List, [], ◌∷◌, ◌++◌, length, length-append, ap, arith, cond, suc}
use Rattle.texts.specs.Words.{is_blank, if_filled, words_after, words}
use Rattle.texts.specs.Limits.{most_line}
use Rattle.event_stream.specs.Limits.{most_completions}

-- words that with the blanks after them fit into so many bytes, of which the last word needs none
abbrev IsFew : List (List ℕ) → ℕ → Type 0
IsFew found bytes = 2 * length found ≤ bytes + 1

one_word : (word : List ℕ) → IsFew (if_filled word) (length word)
one_word [] = omega arith
one_word (byte ∷ bytes) = omega arith

longer : (word : List ℕ) (byte : ℕ) → length (word ++ byte ∷ []) ≡ length word + 1
longer word byte = omega (arith, length-append word (byte ∷ []))

word_before : (word : List ℕ) (others : List (List ℕ)) (n : ℕ) → IsFew others n → IsFew (if_filled word ++ others) (length word + suc n)
word_before [] others n few = omega arith
word_before (byte ∷ bytes) others n few = omega arith

by_blank : (blank : Bool) (word : List ℕ) (ended goes : List (List ℕ)) (n : ℕ) → IsFew ended n → IsFew goes (length word + suc n) → IsFew (cond blank (if_filled word ++ ended) goes) (length word + suc n)
by_blank true word ended goes n few more = word_before word ended n few
by_blank false word ended goes n few more = more

few_after : (word bytes : List ℕ) → IsFew (words_after word bytes) (length word + length bytes)
few_after word [] = omega (arith, one_word word)
few_after word (byte ∷ bytes) =
    let ended : IsFew (words_after [] bytes) (length bytes) = omega (arith, few_after [] bytes) in
    let goes : IsFew (words_after (word ++ byte ∷ []) bytes) (length word + suc (length bytes)) = omega (arith, few_after (word ++ byte ∷ []) bytes, longer word byte) in
    by_blank (is_blank byte) word (words_after [] bytes) (words_after (word ++ byte ∷ []) bytes) (length bytes) ended goes

-- each word but the last takes two bytes, with a blank
pub few_words : (line : List ℕ) → 2 * length (words line) ≤ length line + 1
unfolding words
few_words line = omega (arith, few_after [] line)

-- there is capacity for the words after the first of a line that is not too long
pub capacity_after : (line : List ℕ) (first : List ℕ) (others : List (List ℕ)) → words line ≡ first ∷ others → length line ≤ most_line → length others ≤ most_completions
capacity_after line first others split short =
    let count : length (words line) ≡ suc (length others) = ap length split in
    omega (arith, few_words line)
