-- A line of a refutation and an entry are known by their words: there is one proof of which of their parts are there.
use Rattle.std.proofs.Common.{◌≡◌, ℕ, ℤ, true, false, List, [], ◌∷◌, Option, Some, None, refl, ap, ◌∙◌}
use Rattle.std.specs.Option.{is_some, is_none}
use Rattle.std.specs.Prelude.{Result, Ok}
use mathlib.Core.Bool.{Bool-set}
use Rattle.net_model.specs.LineReading.{words_at}
use Rattle.net_model.specs.Numbers.{name_of, integer_of}
use Rattle.net_model.specs.declared.format.FormatKind.{FormatKind}
use Rattle.cert_format.specs.Limits.{most_written_weight}
use Rattle.cert_format.specs.LineForms.{edge_places, edge_form, upper_form}
use Rattle.cert_format.specs.Kind.{has_label}
use Rattle.cert_format.specs.declared.kind.LineKind.{LineKind}
use Rattle.cert_format.specs.declared.entry.Entry.{Entry}
use Rattle.cert_format.specs.declared.line.CertLine.{CertLine}
use Rattle.cert_format.specs.declared.read.CertText.{CertText}
use Rattle.cert_format.specs.declared.read.CertText.TheVariants as text

-- a rule line, however its label is known to be there
abbrev pub edge : (kind : LineKind) (from to : List ℕ) (label : Option (List ℕ)) (weight : ℤ) → is_some label ≡ has_label kind → CertLine
edge kind from to label weight fits = record { kind = kind; from = from; to = to; label = label; weight = weight; labelled = fits }

-- two lines of the same words are one
pub same_line : (kind : LineKind) (from to : List ℕ) (label : Option (List ℕ)) (weight : ℤ) (p q : is_some label ≡ has_label kind)
    → (let l : CertLine = record { kind = kind; from = from; to = to; label = label; weight = weight; labelled = p } in l) ≡ record { kind = kind; from = from; to = to; label = label; weight = weight; labelled = q }
same_line kind from to label weight p q =
    ap (edge kind from to label weight) (Bool-set _ _ p q)

-- what reading gives, however its label is known to be there
pub read_line : (kind : LineKind) (from to : List ℕ) (label : Option (List ℕ)) (weight : ℤ) (p q : is_some label ≡ has_label kind) (read : Result CertText FormatKind) → Ok (text.Line (edge kind from to label weight q)) ≡ read
    → Ok (text.Line (edge kind from to label weight p)) ≡ read
read_line kind from to label weight p q read same =
    let ok : CertLine → Result CertText FormatKind = λ line. Ok (text.Line line) in
    ap ok (same_line kind from to label weight p q) ∙ same

-- a line that was put together again from its words
pub same_again : (line : CertLine) (weight : ℤ) (p : is_some line.label ≡ has_label line.kind) → weight ≡ line.weight → edge line.kind line.from line.to line.label weight p ≡ line
same_again line weight p same =
    let at : ℤ → CertLine = λ w. edge line.kind line.from line.to line.label w p in
    ap at same ∙ same_line line.kind line.from line.to line.label line.weight p line.labelled

-- an entry, however it is known that one end is there
abbrev pub entry_of : (from : List ℕ) (to label : Option (List ℕ)) (weight : ℤ) → is_none to ≡ is_some label → Entry
entry_of from to label weight fits = record { from = from; to = to; label = label; weight = weight; one_end = fits }

-- two entries of the same words are one
pub same_entry : (from : List ℕ) (to label : Option (List ℕ)) (weight : ℤ) (p q : is_none to ≡ is_some label)
    → (let e : Entry = record { from = from; to = to; label = label; weight = weight; one_end = p } in e) ≡ record { from = from; to = to; label = label; weight = weight; one_end = q }
same_entry from to label weight p q =
    ap (entry_of from to label weight) (Bool-set _ _ p q)

-- what reading gives, however it is known that one end is there
pub edge_made : (a b c x y : List ℕ) (w : ℤ) (p : false ≡ false) → Ok x ≡ name_of a → Ok y ≡ name_of b → Ok w ≡ integer_of most_written_weight c
    → Ok (text.Entry (entry_of x (Some y) None w p)) ≡ words_at edge_places edge_form.make (a ∷ b ∷ c ∷ [])
edge_made a b c x y w p from to weight =
    let ok : Entry → Result CertText FormatKind = λ entry. Ok (text.Entry entry) in
    rw (← from, ← to, ← weight) (ap ok (same_entry x (Some y) None w p refl))

pub upper_made : (a b c x y : List ℕ) (w : ℤ) (p : true ≡ true) → Ok x ≡ name_of a → Ok y ≡ name_of b → Ok w ≡ integer_of most_written_weight c
    → Ok (text.Entry (entry_of x None (Some y) w p)) ≡ words_at edge_places upper_form.make (a ∷ b ∷ c ∷ [])
upper_made a b c x y w p from label weight =
    let ok : Entry → Result CertText FormatKind = λ entry. Ok (text.Entry entry) in
    rw (← from, ← label, ← weight) (ap ok (same_entry x None (Some y) w p refl))

-- an entry that was put together again from its words
pub same_entry_again : (entry : Entry) (weight : ℤ) (p : is_none entry.to ≡ is_some entry.label) → weight ≡ entry.weight → entry_of entry.from entry.to entry.label weight p ≡ entry
same_entry_again entry weight p same =
    let at : ℤ → Entry = λ w. entry_of entry.from entry.to entry.label w p in
    ap at same ∙ same_entry entry.from entry.to entry.label entry.weight p entry.one_end
