-- Each line of a document of a network, in the pretty layout, has a mark, so none is the line `end`.
use Rattle.std.proofs.Common.{◌≡◌, ◌≢◌, ℕ, suc, zero, ◌*◌, ◌<◌, ◌≤◌, ◌^◌, ◌==◌, ◌&&◌, ◌||◌, Bool, true, false, not, nat_lt, List, [], ◌∷◌, ◌++◌, map, length, replicate, ℤ, pos, negsuc, refl, sym, ap, ◌∙◌, subst, true≢false, arith}
use Rattle.std.proofs.Common.{append_assoc, codes, if◌then◌else◌, IsTrue}
use Rattle.std.specs.Fmt.{decimal}
use Rattle.std.specs.List.{All, AllByRecursion, list_all, slice_index_or}
use Rattle.std.specs.Str.Parse.{AllDigits}
use Rattle.std.specs.Char.{digit_value}
use Rattle.std.proofs.lemmas.Bool.{and_parts, le-leb, leb-true}
use Rattle.std.proofs.lemmas.Bool.Decides.{nat_tests}
use Rattle.std.proofs.lemmas.Fmt.{decimal_is_IsNumeral}
use Rattle.std.proofs.lemmas.List.Elements.{All-head, All-tail}
use Rattle.std.proofs.lemmas.List.Folds.{list_all-append}
use Rattle.net_model.specs.Limits.{within_limit, most_delay, most_number}
use Rattle.net_model.specs.Names.{is_name, is_name_byte, is_letter}
use Rattle.net_model.specs.Network.{Plan, IsPlan, IsBound, IsLink, HasPlanNumbers}
use Rattle.net_model.specs.NetworkParts.{point_name}
use Rattle.net_model.specs.declared.part.Bound.{Bound}
use Rattle.net_model.specs.declared.part.Link.{Link}
use Rattle.json.specs.Layout.{Last, nothing, bracket, name, value, pretty_from, piece, step, gap, line, depth_at, is_value}
use Rattle.json.specs.Print.{token_text, begins, escape, escape_byte}
use Rattle.json.specs.Token.{Token}
use Rattle.json.specs.Token as token
use Rattle.json.specs.Tree.{json_tokens, items_tokens, members_tokens}
use Rattle.serde_json.specs.Data.{string}
use Rattle.serde_json.specs.Find.{of_integer}
use Rattle.serde_json.specs.View.{items_of}
use Rattle.serde_json.specs.Written.{outline, items_outline, members_outline, number_text}
use Rattle.plan_json.specs.DocumentText.{bound_data, document_of, document_text, link_data, members_of_document}
use Rattle.plan_json.proofs.BackLemmas.{low_within}
use Rattle.plan_json.proofs.CutLemmas.{has_mark, is_mark, marked}

-- ---- tokens with a mark and without a line end
abbrev pub is_other : ℕ → Bool
is_other byte = not (byte == 10)

abbrev pub IsOther : List ℕ → Type 0
IsOther text = list_all is_other text ≡ true

pub record IsMarked (t : Token) : Type 0 where
  pub other : IsOther (token_text t)
  pub mark : has_mark (token_text t) ≡ true

not_ten : (byte : ℕ) → is_other byte ≡ true → (byte == 10) ≡ false
not_ten byte = by (byte == 10)
  where
    by : (ten : Bool) → not ten ≡ true → ten ≡ false
    by true is = absurd (true≢false (sym is))
    by false is = refl

-- bytes without a line end stay in a line that has a mark
marked_on : (text rest : List ℕ) → IsOther text → marked true (text ++ rest) ≡ marked true rest
marked_on [] rest other = refl
marked_on (byte ∷ bytes) rest other =
    let parts = and_parts (is_other byte) (list_all is_other bytes) other in
    rw (not_ten byte parts.0) (marked_on bytes rest parts.1)

-- and bytes with a mark give it one
marked_in : (seen : Bool) (text rest : List ℕ) → IsOther text → has_mark text ≡ true → marked seen (text ++ rest) ≡ marked true rest
marked_in seen [] rest other mark = absurd (true≢false (sym mark))
marked_in seen (byte ∷ bytes) rest other mark =
    let parts = and_parts (is_other byte) (list_all is_other bytes) other in
    rw (not_ten byte parts.0) (by parts.1 (is_mark byte) refl seen (λ before has. marked_in before bytes rest parts.1 has))
  where
    by : IsOther bytes → (m : Bool) → is_mark byte ≡ m → (seen : Bool) → ((before : Bool) → has_mark bytes ≡ true → marked before (bytes ++ rest) ≡ marked true rest) → marked (seen || is_mark byte) (bytes ++ rest) ≡ marked true rest
    by others true is true later = marked_on bytes rest others
    by others true is false later = rw is (marked_on bytes rest others)
    by others false is seen later = later (seen || is_mark byte) (ap (λ (m : Bool). m || has_mark bytes) (sym is) ∙ mark)

marked_blanks : (count : ℕ) (rest : List ℕ) → marked false (replicate count 32 ++ rest) ≡ marked false rest
marked_blanks zero rest = refl
marked_blanks (suc count) rest = marked_blanks count rest

-- ---- the pieces of the layout
marked_line : (depth : ℕ) (text rest : List ℕ) → IsOther text → has_mark text ≡ true → marked true ((line depth ++ text) ++ rest) ≡ marked true rest
marked_line depth text rest other mark =
    ap (λ (bs : List ℕ). marked false bs) (append_assoc (replicate (2 * depth) 32) text rest) ∙ (marked_blanks (2 * depth) (text ++ rest) ∙ marked_in false text rest other mark)

marked_gap : (last : Last) (opens : Bool) (depth : ℕ) (text rest : List ℕ) → IsOther text → has_mark text ≡ true → marked true ((gap last opens depth ++ text) ++ rest) ≡ marked true rest
marked_gap nothing opens depth text rest other mark = marked_on text rest other
marked_gap bracket true depth text rest other mark = marked_line depth text rest other mark
marked_gap bracket false depth text rest other mark = marked_on text rest other
marked_gap name opens depth text rest other mark = marked_on text rest other
marked_gap value opens depth text rest other mark = marked_line depth text rest other mark

marked_comma : (later : Bool) (text rest : List ℕ) → marked true (((if later then 44 ∷ [] else []) ++ text) ++ rest) ≡ marked true (text ++ rest)
marked_comma true text rest = refl
marked_comma false text rest = refl

marked_piece : (s : Last × ℕ) (t : Token) (rest : List ℕ) → IsMarked t → marked true (piece s t ++ rest) ≡ marked true rest
marked_piece s t rest is =
    let text : List ℕ = gap s.0 (begins t) (depth_at s.1 t) ++ token_text t in
    marked_comma (is_value s.0 && begins t) (gap s.0 (begins t) (depth_at s.1 t) ++ token_text t) rest ∙ marked_gap s.0 (begins t) (depth_at s.1 t) (token_text t) rest is.other is.mark

marked_pretty : (s : Last × ℕ) (tokens : List Token) → AllByRecursion IsMarked tokens → marked true (pretty_from s tokens) ≡ true
unfolding pretty_from
marked_pretty s [] all = refl
marked_pretty s (t ∷ tokens) all =
    marked_piece s t (pretty_from (step s t) tokens) all.0 ∙ marked_pretty (step s t) tokens all.1

-- ---- the texts of names and of numbers
name_byte_plain : (byte : ℕ) → is_name_byte byte ≡ true → escape_byte byte ≡ byte ∷ []
unfolding escape_byte
name_byte_plain byte is =
    let above : 34 < byte = grind (arith, nat_tests) in
    let other : byte ≢ 92 = λ same. absurd (true≢false (sym (subst (λ (b : ℕ). is_name_byte b ≡ true) same is))) in
    grind (arith, nat_tests)

name_byte_other : (byte : ℕ) → is_name_byte byte ≡ true → is_other byte ≡ true
name_byte_other byte is = grind (arith, nat_tests)

escape_plain : (text : List ℕ) → list_all is_name_byte text ≡ true → escape text ≡ text
escape_plain [] all = refl
escape_plain (byte ∷ bytes) all =
    let parts = and_parts (is_name_byte byte) (list_all is_name_byte bytes) all in
    rw (name_byte_plain byte parts.0) (ap (λ (bs : List ℕ). byte ∷ bs) (escape_plain bytes parts.1))

others_all : (text : List ℕ) → list_all is_name_byte text ≡ true → IsOther text
others_all [] all = refl
others_all (byte ∷ bytes) all =
    let parts = and_parts (is_name_byte byte) (list_all is_name_byte bytes) all in
    rw (name_byte_other byte parts.0) (others_all bytes parts.1)

quoted_other : (text back : List ℕ) → list_all is_name_byte text ≡ true → IsOther back → IsOther (34 ∷ (escape text ++ back))
quoted_other text back all other =
    ap (λ (t : List ℕ). list_all is_other (t ++ back)) (escape_plain text all) ∙ (list_all-append is_other text back ∙ (ap (λ (b : Bool). b && list_all is_other back) (others_all text all) ∙ other))

pub text_marked : (text : List ℕ) → list_all is_name_byte text ≡ true → IsMarked (token.string text)
text_marked text all = record { other = quoted_other text (34 ∷ []) all refl; mark = refl }

key_marked : (text : List ℕ) → list_all is_name_byte text ≡ true → IsMarked (token.key text)
key_marked text all = record {
  other = ap (λ (bs : List ℕ). list_all is_other (34 ∷ bs)) (append_assoc (escape text) (34 ∷ []) (58 ∷ [])) ∙ quoted_other text (34 ∷ 58 ∷ []) all refl;
  mark = refl;
}

letters_all : (text : List ℕ) → is_name text ≡ true → list_all is_name_byte text ≡ true
unfolding is_name
letters_all [] named = refl
letters_all (byte ∷ bytes) named =
    let parts = and_parts (is_letter byte && list_all is_name_byte bytes) (nat_lt (length bytes) 32) named in
    let both = and_parts (is_letter byte) (list_all is_name_byte bytes) parts.0 in
    rw both.0 both.1

digit_other : (byte : ℕ) → digit_value byte < 10 → is_other byte ≡ true
digit_other byte small = grind (arith, nat_tests)

digit_mark : (byte : ℕ) → digit_value byte < 10 → is_mark byte ≡ true
digit_mark byte small = grind (arith, nat_tests)

digits_other : (digits : List ℕ) → AllDigits 10 digits → IsOther digits
digits_other [] all = refl
digits_other (byte ∷ digits) all = rw (digit_other byte all.0) (digits_other digits all.1)

digits_mark : (digits : List ℕ) → 0 < length digits → AllDigits 10 digits → has_mark digits ≡ true
digits_mark [] some all = absurd (omega arith)
digits_mark (byte ∷ digits) some all = rw (digit_mark byte all.0) refl

number_marked : (n : ℤ) → within_limit n ≡ true → IsMarked (token.number (number_text (of_integer n)))
number_marked (pos n) within =
    let few : n ≤ most_number = leb-true n most_number within in
    let small : n < 2 ^ 64 = omega arith in
    let numeral = (decimal_is_IsNumeral n small).0 in
    record { other = digits_other (decimal n) numeral.1; mark = digits_mark (decimal n) numeral.0 numeral.1 }
number_marked (negsuc n) within =
    let few : suc n ≤ most_number = leb-true (suc n) most_number within in
    let small : suc n < 2 ^ 64 = omega arith in
    let numeral = (decimal_is_IsNumeral (suc n) small).0 in
    record { other = digits_other (decimal (suc n)) numeral.1; mark = refl }

-- ---- the tokens of the document of a network
bracket_marked : (t : Token) → IsOther (token_text t) → has_mark (token_text t) ≡ true → IsMarked t
bracket_marked t other mark = record { other = other; mark = mark }

both : (tokens more : List Token) → AllByRecursion IsMarked tokens → AllByRecursion IsMarked more → AllByRecursion IsMarked (tokens ++ more)
both [] more all others = others
both (t ∷ tokens) more all others = (all.0, both tokens more all.1 others)

named_at : (net : Plan) → IsPlan net → (place : ℕ) → place < length net.points → list_all is_name_byte (slice_index_or net.points place []) ≡ true
named_at net plan place within = letters_all (slice_index_or net.points place []) (plan.points_named place [] within)

points_marked : (points : List (List ℕ)) → All (λ name. IsTrue (is_name name)) points → AllByRecursion IsMarked (items_tokens (items_outline (items_of (map string points))))
points_marked [] named = (bracket_marked token.end_array refl refl, tt)
points_marked (point ∷ points) named =
    (text_marked point (letters_all point (All-head (λ n. IsTrue (is_name n)) point points named)), points_marked points (All-tail (λ n. IsTrue (is_name n)) point points named))

bound_marked : (net : Plan) → IsPlan net → (bound : Bound) → IsBound net bound → within_limit bound.most ≡ true → AllByRecursion IsMarked (json_tokens (outline (bound_data net.points bound)))
bound_marked net plan bound sound within =
    let from = text_marked (point_name net.points bound.from) (named_at net plan bound.from.0 sound.from_point) in
    let to = text_marked (point_name net.points bound.to) (named_at net plan bound.to.0 sound.to_point) in
    let most = number_marked bound.most within in
    let named = text_marked bound.name (letters_all bound.name sound.named) in (
      bracket_marked token.begin_object refl refl,
      (
        key_marked (codes "from") refl,
        (
          from,
          (
            key_marked (codes "most") refl,
            (
              most,
              (
                key_marked (codes "name") refl,
                (
                  named,
                  (
                    key_marked (codes "to") refl,
                    (
                      to,
                      (bracket_marked token.end_object refl refl, tt),
                    ),
                  ),
                ),
              ),
            ),
          ),
        ),
      ),
    )

bounds_marked : (net : Plan) → IsPlan net → (bounds : List Bound) → All (IsBound net) bounds → All (λ (b : Bound). within_limit b.most ≡ true) bounds
    → AllByRecursion IsMarked (items_tokens (items_outline (items_of (map (bound_data net.points) bounds))))
bounds_marked net plan [] sound limited = (bracket_marked token.end_array refl refl, tt)
bounds_marked net plan (bound ∷ bounds) sound limited =
    both (json_tokens (outline (bound_data net.points bound))) (items_tokens (items_outline (items_of (map (bound_data net.points) bounds))))
    (bound_marked net plan bound (All-head (IsBound net) bound bounds sound) (All-head (λ (b : Bound). within_limit b.most ≡ true) bound bounds limited))
    (bounds_marked net plan bounds (All-tail (IsBound net) bound bounds sound) (All-tail (λ (b : Bound). within_limit b.most ≡ true) bound bounds limited))

link_marked : (net : Plan) → IsPlan net → (link : Link) → IsLink net link → within_limit link.high ≡ true → AllByRecursion IsMarked (json_tokens (outline (link_data net.points link)))
link_marked net plan link sound within =
    let from = text_marked (point_name net.points link.from) (named_at net plan link.from.0 sound.from_point) in
    let to = text_marked (point_name net.points link.to) (named_at net plan link.to.0 sound.to_point) in
    let high = number_marked link.high within in
    let low = number_marked link.low (low_within link.low link.high sound.positive sound.interval within) in (
      bracket_marked token.begin_object refl refl,
      (
        key_marked (codes "from") refl,
        (
          from,
          (
            key_marked (codes "high") refl,
            (
              high,
              (
                key_marked (codes "low") refl,
                (
                  low,
                  (
                    key_marked (codes "to") refl,
                    (
                      to,
                      (bracket_marked token.end_object refl refl, tt),
                    ),
                  ),
                ),
              ),
            ),
          ),
        ),
      ),
    )

links_marked : (net : Plan) → IsPlan net → (links : List Link) → All (IsLink net) links → All (λ (l : Link). within_limit l.high ≡ true) links
    → AllByRecursion IsMarked (items_tokens (items_outline (items_of (map (link_data net.points) links))))
links_marked net plan [] sound limited = (bracket_marked token.end_array refl refl, tt)
links_marked net plan (link ∷ links) sound limited =
    both (json_tokens (outline (link_data net.points link))) (items_tokens (items_outline (items_of (map (link_data net.points) links))))
    (link_marked net plan link (All-head (IsLink net) link links sound) (All-head (λ (l : Link). within_limit l.high ≡ true) link links limited))
    (links_marked net plan links (All-tail (IsLink net) link links sound) (All-tail (λ (l : Link). within_limit l.high ≡ true) link links limited))

-- a delay within its limit is within the limit of numbers
short_within : (delay : ℕ) → delay ≤ most_delay → within_limit (pos delay) ≡ true
short_within delay short = le-leb delay most_number (omega (arith, short))

-- after the first bracket
members_marked : (net : Plan) → IsPlan net → HasPlanNumbers net → AllByRecursion IsMarked (members_tokens (members_outline (members_of_document net)))
members_marked net plan numbers =
    let last : List Token = token.key (codes "stnu") ∷ token.number (number_text (of_integer (pos 2))) ∷ token.end_object ∷ [] in
    let points : List Token = items_tokens (items_outline (items_of (map string net.points))) ++ last in
    let links : List Token = items_tokens (items_outline (items_of (map (link_data net.points) net.links))) ++ token.key (codes "points") ∷ token.begin_array ∷ points in
    let all_last : AllByRecursion IsMarked last = (key_marked (codes "stnu") refl, (number_marked (pos 2) refl, (bracket_marked token.end_object refl refl, tt))) in
    let all_points : AllByRecursion IsMarked points = both (items_tokens (items_outline (items_of (map string net.points)))) last (points_marked net.points plan.points_named) all_last in
    let all_links : AllByRecursion IsMarked links =
    both (items_tokens (items_outline (items_of (map (link_data net.points) net.links)))) (token.key (codes "points") ∷ token.begin_array ∷ points) (links_marked net plan net.links plan.links_sound numbers.links)
    (key_marked (codes "points") refl, (bracket_marked token.begin_array refl refl, all_points)) in
    let delay : List Token = token.key (codes "delay") ∷ token.number (number_text (of_integer (pos net.delay))) ∷ token.key (codes "links") ∷ token.begin_array ∷ links in (
      key_marked (codes "bounds") refl,
      (
        bracket_marked token.begin_array refl refl,
        both (items_tokens (items_outline (items_of (map (bound_data net.points) net.bounds)))) delay (bounds_marked net plan net.bounds plan.bounds_sound numbers.bounds)
            (key_marked (codes "delay") refl, (number_marked (pos net.delay) (short_within net.delay plan.short_delay), (key_marked (codes "links") refl, (bracket_marked token.begin_array refl refl, all_links)))),
      ),
    )

-- each line of the document of a network has a mark
pub document_marked : (net : Plan) → IsPlan net → HasPlanNumbers net → marked false (document_text (document_of net)) ≡ true
unfolding pretty_from
document_marked net plan numbers = marked_pretty (bracket, 1) (members_tokens (members_outline (members_of_document net))) (members_marked net plan numbers)
