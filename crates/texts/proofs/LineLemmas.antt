-- Lines of texts: where a line ends, and how many bytes it takes.
use Rattle.std.proofs.Common.{◌≡◌, ℕ, ◌<◌, ◌≤◌, ◌+◌, ◌-◌, ◌==◌, false, cond, List, [], ◌∷◌, ◌++◌, length, take, drop, get_or, refl, sym, ap, ◌∙◌, arith}
use Rattle.std.proofs.lemmas.List.{drop_more, drop_all, take_all, take_rest, take_more, length-drop}
use Rattle.std.proofs.lemmas.Bool.{cond-false, cond_both, ne_eqb}
use Rattle.texts.specs.Words.{if_filled}
use Rattle.texts.specs.Lines.{lines_after, lines, size_of_lines}

pub lines-nil : lines [] ≡ []
unfolding lines
lines-nil = refl

pub lines_is : (bytes : List ℕ) → lines_after [] bytes ≡ lines bytes
unfolding lines
lines_is bytes = refl

-- a byte that ends no line continues it
pub lines_after-more : (bytes : List ℕ) (place : ℕ) → place < length bytes → (get_or bytes place 0 == 10) ≡ false → lines_after (take place bytes) (drop place bytes) ≡ lines_after (take (place + 1) bytes) (drop (place + 1) bytes)
lines_after-more bytes place within other =
    let rest : drop place bytes ≡ get_or bytes place 0 ∷ drop (place + 1) bytes = drop_more bytes place 0 within in
    let prefix : take (place + 1) bytes ≡ take place bytes ++ get_or bytes place 0 ∷ [] = take_more bytes place 0 within in
    ap (lines_after (take place bytes)) rest
    ∙ (cond-false (get_or bytes place 0 == 10) (take place bytes ∷ lines_after [] (drop (place + 1) bytes)) (lines_after (take place bytes ++ get_or bytes place 0 ∷ []) (drop (place + 1) bytes)) other
    ∙ ap (λ (line : List ℕ). lines_after line (drop (place + 1) bytes)) (sym prefix))

-- a line end ends the line before it
pub lines_after-end : (line : List ℕ) (bytes : List ℕ) → lines_after line (10 ∷ bytes) ≡ line ∷ lines bytes
lines_after-end line bytes = ap (λ (rest : List (List ℕ)). line ∷ rest) (lines_is bytes)

some_lines : (count : ℕ) → (count + 1 == 0) ≡ false
some_lines count = ne_eqb (count + 1) 0 (λ same. omega arith)

pub size_of_lines-other : (count byte : ℕ) (bytes : List ℕ) → (byte == 10) ≡ false → size_of_lines (count + 1) (byte ∷ bytes) ≡ 1 + size_of_lines (count + 1) bytes
unfolding size_of_lines
size_of_lines-other count byte bytes other =
    cond-false (count + 1 == 0) 0 (1 + size_of_lines (cond (byte == 10) (count + 1 - 1) (count + 1)) bytes) (some_lines count)
    ∙ ap (λ (n : ℕ). 1 + size_of_lines n bytes) (cond-false (byte == 10) (count + 1 - 1) (count + 1) other)

pub size_of_lines-end : (count : ℕ) (bytes : List ℕ) → size_of_lines (count + 1) (10 ∷ bytes) ≡ 1 + size_of_lines count bytes
unfolding size_of_lines
size_of_lines-end count bytes =
    let same : count + 1 - 1 ≡ count = omega arith in
    cond-false (count + 1 == 0) 0 (1 + size_of_lines (count + 1 - 1) bytes) (some_lines count)
    ∙ ap (λ (n : ℕ). 1 + size_of_lines n bytes) same

pub size_of_lines-nil : (count : ℕ) → size_of_lines count [] ≡ 0
unfolding size_of_lines
size_of_lines-nil count = refl

-- what is left of a text after the bytes of its first line
pub at_line_end : (bytes : List ℕ) (end : ℕ) → end < length bytes → get_or bytes end 0 ≡ 10 → drop end bytes ≡ 10 ∷ drop (end + 1) bytes
at_line_end bytes end within found =
    drop_more bytes end 0 within ∙ ap (λ (byte : ℕ). byte ∷ drop (end + 1) bytes) found

-- the first line of a text, if it has a line end
pub first_line : (bytes : List ℕ) (end : ℕ) → end < length bytes → get_or bytes end 0 ≡ 10 → lines bytes ≡ lines_after (take end bytes) (drop end bytes)
    → lines bytes ≡ take end bytes ∷ lines (take (length bytes - (end + 1)) (drop (end + 1) bytes))
first_line bytes end within found cut =
    cut
    ∙ (ap (lines_after (take end bytes)) (at_line_end bytes end within found)
    ∙ (lines_after-end (take end bytes) (drop (end + 1) bytes)
    ∙ ap (λ (rest : List ℕ). take end bytes ∷ lines rest) (sym (take_rest bytes (end + 1)))))

-- the only line of a text without a line end
pub only_line : (bytes : List ℕ) (end : ℕ) → end ≡ length bytes → (length bytes ≡ 0 → ⊥) → lines bytes ≡ lines_after (take end bytes) (drop end bytes) → lines bytes ≡ bytes ∷ lines []
only_line [] end whole filled cut = absurd (filled refl)
only_line (byte ∷ bytes) end whole filled cut =
    let text : List ℕ = byte ∷ bytes in
    let prefix : take end text ≡ text = take_all end text (omega arith) in
    let rest : drop end text ≡ [] = drop_all end text (omega arith) in
    cut
    ∙ (ap (lines_after (take end text)) rest
    ∙ (ap if_filled prefix
    ∙ ap (λ (more : List (List ℕ)). text ∷ more) (sym lines-nil)))

-- the bytes of the first lines, the first of which has a line end
pub first_size : (bytes : List ℕ) (end count : ℕ) → end < length bytes → get_or bytes end 0 ≡ 10 → size_of_lines (count + 1) bytes ≡ end + size_of_lines (count + 1) (drop end bytes)
    → size_of_lines (count + 1) bytes ≡ size_of_lines count (take (length bytes - (end + 1)) (drop (end + 1) bytes)) + (length bytes - length (take (length bytes - (end + 1)) (drop (end + 1) bytes)))
first_size bytes end count within found so_far =
    let rest : take (length bytes - (end + 1)) (drop (end + 1) bytes) ≡ drop (end + 1) bytes = take_rest bytes (end + 1) in
    let here : size_of_lines (count + 1) (drop end bytes) ≡ 1 + size_of_lines count (drop (end + 1) bytes) = ap (size_of_lines (count + 1)) (at_line_end bytes end within found) ∙ size_of_lines-end count (drop (end + 1) bytes) in
    let size : length (drop (end + 1) bytes) ≡ length bytes - (end + 1) = length-drop (end + 1) bytes in
    rw rest (omega arith)

-- the bytes of a text without a line end
pub only_size : (bytes : List ℕ) (end count : ℕ) → end ≡ length bytes → size_of_lines (count + 1) bytes ≡ end + size_of_lines (count + 1) (drop end bytes) → size_of_lines (count + 1) bytes ≡ size_of_lines count [] + (length bytes - 0)
only_size bytes end count whole so_far =
    let rest : size_of_lines (count + 1) (drop end bytes) ≡ 0 = ap (size_of_lines (count + 1)) (drop_all end bytes (omega arith)) ∙ size_of_lines-nil (count + 1) in
    omega (arith, size_of_lines-nil count)

-- one byte more that ends no line
pub more_size : (bytes : List ℕ) (place count : ℕ) → place < length bytes → (get_or bytes place 0 == 10) ≡ false → size_of_lines (count + 1) bytes ≡ place + size_of_lines (count + 1) (drop place bytes)
    → size_of_lines (count + 1) bytes ≡ (place + 1) + size_of_lines (count + 1) (drop (place + 1) bytes)
more_size bytes place count within other so_far =
    let here : size_of_lines (count + 1) (drop place bytes) ≡ 1 + size_of_lines (count + 1) (drop (place + 1) bytes) = ap (size_of_lines (count + 1)) (drop_more bytes place 0 within)
    ∙ size_of_lines-other count (get_or bytes place 0) (drop (place + 1) bytes) other in
    omega arith

-- a text without bytes has no lines
pub no_lines : (bytes : List ℕ) → length bytes ≡ 0 → lines bytes ≡ []
no_lines [] none = lines-nil
no_lines (byte ∷ bytes) none = absurd (omega arith)

one_word : (word : List ℕ) → length (if_filled word) ≤ 1
one_word [] = omega arith
one_word (b ∷ bs) = omega arith

lines_after-few : (line bytes : List ℕ) → length (lines_after line bytes) ≤ length bytes + length (if_filled line)
lines_after-few line [] = omega arith
lines_after-few line (byte ∷ bytes) =
    cond_both (byte == 10) (line ∷ lines_after [] bytes) (lines_after (line ++ byte ∷ []) bytes) (λ (ls : List (List ℕ)). length ls ≤ length (byte ∷ bytes) + length (if_filled line))
    (λ ends. omega (arith, lines_after-few [] bytes))
    (λ other. omega (arith, lines_after-few (line ++ byte ∷ []) bytes, one_word (line ++ byte ∷ [])))

-- a text has at most as many lines as bytes
pub lines-few : (bytes : List ℕ) → length (lines bytes) ≤ length bytes
lines-few bytes =
    let few : length (lines_after [] bytes) ≤ length bytes + 0 = lines_after-few [] bytes in
    let same : length (lines_after [] bytes) ≡ length (lines bytes) = ap length (lines_is bytes) in
    omega arith

-- lines take at most all bytes
pub size_of_lines-le : (count : ℕ) (bytes : List ℕ) → size_of_lines count bytes ≤ length bytes
unfolding size_of_lines
size_of_lines-le count [] = omega arith
size_of_lines-le count (byte ∷ bytes) =
    cond_both (count == 0) 0 (1 + size_of_lines (cond (byte == 10) (count - 1) count) bytes) (λ (n : ℕ). n ≤ length (byte ∷ bytes))
    (λ none. omega arith)
    (λ some. omega (arith, size_of_lines-le (cond (byte == 10) (count - 1) count) bytes))
