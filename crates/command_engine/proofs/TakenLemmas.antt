-- The bytes taken of an input, and their whole lines.
use Rattle.std.proofs.Common.{◌≡◌, ◌⊎◌, inl, inr, ℕ, ◌+◌, ◌<◌, suc, true, false, List, [], ◌∷◌, ◌++◌, length, take, map, refl, sym, ap, ◌∙◌, arith}
use Rattle.std.specs.List.{concat}
use Rattle.std.proofs.lemmas.Grind.{flat_map-append}
use Rattle.texts.specs.Lines.{InputLine, input_lines, whole_lines, unfinished, whole_line, open_line, last_line, line_size}
use Rattle.texts.proofs.InputLemmas.{whole_lines_is, unfinished_is, input_lines_by, whole_lines-append, unfinished-append, first_cut}
use Rattle.plan_port.specs.Talk.{Piece}
use Rattle.command_engine.specs.Prompt.{bytes_of}

-- pieces of these bytes, taken when so many bytes had been put
abbrev pub piece_at : ℕ → List ℕ → Piece
piece_at put bytes = record { bytes = bytes; put_before = put }

pub bytes_of-append : (xs ys : List Piece) → bytes_of (xs ++ ys) ≡ bytes_of xs ++ bytes_of ys
bytes_of-append xs ys = flat_map-append (λ (piece : Piece). piece.bytes) xs ys

pub bytes_of-map : (put : ℕ) (bytes : List (List ℕ)) → bytes_of (map (piece_at put) bytes) ≡ concat bytes
bytes_of-map put [] = refl
bytes_of-map put (first ∷ others) = ap (λ (l : List ℕ). first ++ l) (bytes_of-map put others)

-- a piece among two lists of them stands in the first or in the second
pub split_append : (xs ys seen later : List Piece) (piece : Piece) → xs ++ ys ≡ seen ++ piece ∷ later → ((more : List Piece) × (xs ≡ seen ++ piece ∷ more)) ⊎ ((more : List Piece) × (seen ≡ xs ++ more) × (ys ≡ more ++ piece ∷ later))
split_append [] ys seen later piece is = inr (seen, refl, is)
split_append (x ∷ xs) ys [] later piece is =
    let head : x ≡ piece = cc in inl (xs, ap (λ (p : Piece). p ∷ xs) head)
split_append (x ∷ xs) ys (s ∷ seen) later piece is =
    let head : x ≡ s = cc in
    let tail : xs ++ ys ≡ seen ++ piece ∷ later = cc in
    split_cons x s xs ys seen later piece head (split_append xs ys seen later piece tail)
  where
    split_cons : (x s : Piece) (xs ys seen later : List Piece) (piece : Piece) → x ≡ s → ((more : List Piece) × (xs ≡ seen ++ piece ∷ more)) ⊎ ((more : List Piece) × (seen ≡ xs ++ more) × (ys ≡ more ++ piece ∷ later))
        → ((more : List Piece) × (x ∷ xs ≡ (s ∷ seen) ++ piece ∷ more)) ⊎ ((more : List Piece) × (s ∷ seen ≡ (x ∷ xs) ++ more) × (ys ≡ more ++ piece ∷ later))
    split_cons x s xs ys seen later piece head (inl one) = inl (one.0, cc)
    split_cons x s xs ys seen later piece head (inr other) = inr (other.0, cc, other.2)

-- a piece among those that were taken at one moment
pub record OneOf (put : ℕ) (bytes : List (List ℕ)) (seen : List Piece) (piece : Piece) : Type 0 where
  pub place : ℕ
  pub within : place < length bytes
  pub before : seen ≡ map (piece_at put) (take place bytes)
  pub at : piece.put_before ≡ put

pub one_of : (put : ℕ) (bytes : List (List ℕ)) (seen later : List Piece) (piece : Piece) → map (piece_at put) bytes ≡ seen ++ piece ∷ later → OneOf put bytes seen piece
one_of put [] [] later piece is = absurd (cc)
one_of put [] (s ∷ seen) later piece is = absurd (cc)
one_of put (first ∷ others) [] later piece is =
    let head : piece_at put first ≡ piece = cc in
    record { place = 0; within = omega arith; before = refl; at = sym (ap (λ (p : Piece). p.put_before) head) }
one_of put (first ∷ others) (s ∷ seen) later piece is =
    let head : piece_at put first ≡ s = cc in
    let tail : map (piece_at put) others ≡ seen ++ piece ∷ later = cc in
    let one = one_of put others seen later piece tail in
    record { place = suc one.place; within = omega (arith, one.within); before = ap (λ (p : Piece). p ∷ seen) (sym head) ∙ ap (λ (l : List Piece). piece_at put first ∷ l) one.before; at = one.at }

-- bytes that come after whole lines
pub whole_lines-closed : (given more : List ℕ) → unfinished given ≡ [] → whole_lines (given ++ more) ≡ whole_lines given ++ whole_lines more
whole_lines-closed given more closed = whole_lines-append given more ∙ ap (λ (l : List ℕ). whole_lines given ++ whole_lines (l ++ more)) closed

pub unfinished-closed : (given more : List ℕ) → unfinished given ≡ [] → unfinished (given ++ more) ≡ unfinished more
unfinished-closed given more closed = unfinished-append given more ∙ ap (λ (l : List ℕ). unfinished (l ++ more)) closed

-- the bytes of a first line whose end has come
pub record FirstWhole (bytes : List ℕ) (line : InputLine) : Type 0 where
  pub whole : whole_lines (take (line_size line) bytes) ≡ line.text ∷ []
  pub closed : unfinished (take (line_size line) bytes) ≡ []

take_past : (text rest : List ℕ) → take (suc (length text)) (text ++ 10 ∷ rest) ≡ text ++ 10 ∷ []
take_past [] rest = refl
take_past (byte ∷ text) rest = ap (λ (l : List ℕ). byte ∷ l) (take_past text rest)

first_is : (bytes : List ℕ) (line : InputLine) (text : List ℕ) (others : List (List ℕ)) → line ≡ whole_line text → whole_lines bytes ≡ text ∷ others → FirstWhole bytes line
first_is bytes line text others is lines =
    let cut = first_cut bytes text others lines in
    let size : length text + 1 ≡ suc (length text) = omega arith in
    let prefix : take (line_size line) bytes ≡ text ++ 10 ∷ [] =
    ap (λ (l : InputLine). take (line_size l) bytes) is ∙ (ap (λ (n : ℕ). take n bytes) size ∙ (ap (λ (l : List ℕ). take (suc (length text)) l) cut.bytes_are ∙ take_past text cut.rest)) in
    record {
      whole = ap whole_lines prefix ∙ (whole_lines_is (text ++ 10 ∷ []) ∙ (cut.begins.whole (10 ∷ []) ∙ ap (λ (l : InputLine). l.text ∷ []) (sym is)));
      closed = ap unfinished prefix ∙ (unfinished_is (text ++ 10 ∷ []) ∙ cut.begins.rest (10 ∷ []));
    }

first_by : (bytes : List ℕ) (line : InputLine) (others : List InputLine) (wholes : List (List ℕ)) (last : List ℕ) → whole_lines bytes ≡ wholes → map whole_line wholes ++ last_line last ≡ line ∷ others → line.ended ≡ true
    → FirstWhole bytes line
first_by bytes line others [] [] lines is ended = absurd (cc)
first_by bytes line others [] (byte ∷ more) lines is ended =
    let head : open_line (byte ∷ more) ≡ line = cc in
    let not : false ≡ true = ap (λ (l : InputLine). l.ended) head ∙ ended in
    absurd (cc)
first_by bytes line others (text ∷ wholes) last lines is ended =
    let head : whole_line text ≡ line = cc in
    first_is bytes line text wholes (sym head) lines

pub first_whole : (bytes : List ℕ) (line : InputLine) (others : List InputLine) → input_lines bytes ≡ line ∷ others → line.ended ≡ true → FirstWhole bytes line
first_whole bytes line others is ended =
    first_by bytes line others (whole_lines bytes) (unfinished bytes) refl (sym (input_lines_by bytes) ∙ is) ended
