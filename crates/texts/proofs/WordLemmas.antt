-- Words of lines: leading blanks, and where a word ends.
use Rattle.std.proofs.Common.{◌≡◌, ℕ, ◌<◌, ◌≤◌, ◌+◌, ◌-◌, true, false, List, [], ◌∷◌, ◌++◌, length, take, drop, get_or, zero, suc, refl, sym, ap, ◌∙◌, arith}
use Rattle.std.proofs.lemmas.List.{drop_more, drop_all, take_all, take_rest, append-nil}
use Rattle.std.proofs.lemmas.Bool.{cond-true}
use Rattle.std.specs.Option.{IfSome}
use Rattle.std.specs.List.{slice_get}
use Rattle.texts.specs.Words.{is_blank, if_filled, words_after, words}

pub words-nil : words [] ≡ []
unfolding words
words-nil = refl

pub words_is : (line : List ℕ) → words_after [] line ≡ words line
unfolding words
words_is line = refl

-- a blank after a word ends it
pub words_after-blank : (word : List ℕ) (byte : ℕ) (bytes : List ℕ) → is_blank byte ≡ true → words_after word (byte ∷ bytes) ≡ if_filled word ++ words bytes
unfolding words
words_after-blank word byte bytes blank =
    cond-true (is_blank byte) (if_filled word ++ words_after [] bytes) (words_after (word ++ byte ∷ []) bytes) blank

-- a leading blank changes no word
pub words-blank : (byte : ℕ) (bytes : List ℕ) → is_blank byte ≡ true → words (byte ∷ bytes) ≡ words bytes
words-blank byte bytes blank = sym (words_is (byte ∷ bytes)) ∙ words_after-blank [] byte bytes blank

-- what follows a blank at a place has the same words
pub words_past_blank : (line : List ℕ) (place : ℕ) → place < length line → is_blank (get_or line place 0) ≡ true → words (drop (place + 1) line) ≡ words (drop place line)
words_past_blank line place within here =
    sym (words-blank (get_or line place 0) (drop (place + 1) line) here) ∙ ap words (sym (drop_more line place 0 within))

-- the words of a line that is cut before a blank
pub words_cut_at_blank : (line : List ℕ) (place : ℕ) → place < length line → is_blank (get_or line place 0) ≡ true → words_after (take place line) (drop place line) ≡ words line
    → words line ≡ if_filled (take place line) ++ words (drop place line)
words_cut_at_blank line place within here so_far =
    let more = drop_more line place 0 within in
    sym so_far
    ∙ (ap (words_after (take place line)) more
    ∙ (words_after-blank (take place line) (get_or line place 0) (drop (place + 1) line) here
    ∙ ap (λ (ws : List (List ℕ)). if_filled (take place line) ++ ws) (sym (words-blank (get_or line place 0) (drop (place + 1) line) here) ∙ ap words (sym more))))

-- the words of a line without a blank
pub words_uncut : (line : List ℕ) (place : ℕ) → length line ≤ place → words_after (take place line) (drop place line) ≡ words line → words line ≡ if_filled (take (length line) line) ++ words (drop (length line) line)
words_uncut line place past so_far =
    let prefix : take place line ≡ line = take_all place line past in
    let whole : take (length line) line ≡ line = take_all (length line) line (omega arith) in
    let nothing : drop (length line) line ≡ [] = drop_all (length line) line (omega arith) in
    let rest : drop place line ≡ [] = drop_all place line past in
    let left : words_after (take place line) (drop place line) ≡ if_filled line = ap (λ (xs : List ℕ). words_after xs (drop place line)) prefix ∙ ap (words_after line) rest in
    let right : if_filled (take (length line) line) ++ words (drop (length line) line) ≡ if_filled line ++ words [] = ap (λ (xs : List ℕ). if_filled xs ++ words (drop (length line) line)) whole
    ∙ ap (λ (xs : List ℕ). if_filled line ++ words xs) nothing in
    sym so_far ∙ (left ∙ (sym (append-nil (if_filled line)) ∙ (ap (λ (ws : List (List ℕ)). if_filled line ++ ws) (sym words-nil) ∙ sym right)))

-- a prefix that is not empty is one word
pub if_filled-take : (n : ℕ) (line : List ℕ) → 0 < n → 0 < length line → if_filled (take n line) ≡ take n line ∷ []
if_filled-take zero line some filled = absurd (omega arith)
if_filled-take (suc n) [] some filled = absurd (omega arith)
if_filled-take (suc n) (byte ∷ bytes) some filled = refl

-- a line whose words are none
pub words_of_none : (line left : List ℕ) → words left ≡ words line → length left ≡ 0 → words line ≡ []
words_of_none line [] same none = sym same ∙ words-nil
words_of_none line (byte ∷ bytes) same none = absurd (omega arith)

-- the first word of a line, found after its blanks, and the words of what is left
pub first_word : (line left : List ℕ) (end : ℕ) → words left ≡ words line → (length left ≡ 0 → ⊥) → IfSome (slice_get left 0) (λ byte. is_blank byte ≡ false) → IfSome (slice_get left 0) (λ byte. is_blank byte ≡ false → 0 < end)
    → words left ≡ if_filled (take end left) ++ words (drop end left) → words line ≡ take end left ∷ words (take (length left - end) (drop end left))
first_word line [] end same filled starts found cut = absurd (filled refl)
first_word line (byte ∷ bytes) end same filled starts found cut =
    let left : List ℕ = byte ∷ bytes in
    let one : if_filled (take end left) ≡ take end left ∷ [] = if_filled-take end left (found starts) (omega arith) in
    let rest : take (length left - end) (drop end left) ≡ drop end left = take_rest left end in
    sym same ∙ (cut ∙ (ap (λ (ws : List (List ℕ)). ws ++ words (drop end left)) one ∙ ap (λ (xs : List ℕ). take end left ∷ words xs) (sym rest)))
