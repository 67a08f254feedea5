-- Documents are read by their grammar.
use Rattle.std.proofs.Common.{◌≡◌, ℕ, ◌-◌, Bool, true, false, List, [], ◌∷◌, ◌++◌, length, codes, IsTrue, refl, sym, ap, ◌∙◌, subst, arith}
use Rattle.std.specs.List.{All, concat}
use Rattle.std.specs.Str.{bytes_eq}
use Rattle.std.specs.Prelude.{if◌then◌else◌}
use Rattle.std.proofs.lemmas.List.{append-nil, length-append}
use Rattle.std.proofs.lemmas.List.Elements.{All-nil, All-cons, All-append, All-head, All-tail}
use Rattle.std.proofs.lemmas.List.Folds.{concat-append}
use Rattle.command_engine.specs.Grammars.{Next, Line, NoLine, Leads, ReadsBy, number_after}
use Rattle.command_engine.specs.declared.machines.Stop.{Stop}
use Rattle.command_engine.specs.declared.machines.Stop.TheVariants.{LineTooLong, InputTooMuch, InputEnded}
use Rattle.command_engine.specs.declared.line_texts.Parse.{Parse}
use Rattle.command_engine.specs.declared.line_texts.Parse.TheVariants.{Continue, Parsed, Refused}
use Rattle.command_engine.proofs.GrammarLemmas.{IsOnce, KeepsTo, reads_by}
use Rattle.command_engine.proofs.LeadLemmas.{stands_by}
use Rattle.example_commands.specs.Document.{DeclaresDocument, DocumentGoesOn, IsExampleFault, document_grammar, example_document_reader, empty_document, bytes_left_after, stops}
use Rattle.example_commands.specs.declared.document.Document.{Document}
use Rattle.example_commands.specs.declared.document.DocumentFault.{DocumentFault}

-- ---- what is read keeps to the grammar
abbrev Stands : List (List ℕ) → Document → Type 0
Stands lines document = All DocumentGoesOn lines × (document ≡ record { left = bytes_left_after lines })

step_by : Bool → Document → List ℕ → Parse Document ℕ DocumentFault
step_by ends document line = if ends then Parsed document.left else Continue (record { left = document.left - length line })

-- one line more
left_more : (lines : List (List ℕ)) (line : List ℕ) → bytes_left_after lines - length line ≡ bytes_left_after (lines ++ line ∷ [])
left_more lines line =
    let joined = ap length (concat-append lines (line ∷ [])) in
    let both = length-append (concat lines) (concat (line ∷ [])) in
    let one = ap length (append-nil line) in
    omega (arith, joined, both, one)

goes_by : (ends : Bool) (lines : List (List ℕ)) (from to : Document) (line : List ℕ) → bytes_eq line (codes "end") ≡ ends → Stands lines from → step_by ends from line ≡ Continue to → Stands (lines ++ line ∷ []) to
unfolding step_by
goes_by true lines from to line is stands goes = absurd (cc)
goes_by false lines from to line is stands goes =
    let same : record { left = from.left - length line } ≡ to = cc in (
      All-append DocumentGoesOn lines (line ∷ []) stands.0 (All-cons DocumentGoesOn line [] is (All-nil DocumentGoesOn)),
      sym same ∙ (ap (λ (d : Document). record { left = d.left - length line }) stands.1 ∙ ap (λ (n : ℕ). record { left = n }) (left_more lines line)),
    )

gives_by : (ends : Bool) (lines : List (List ℕ)) (from : Document) (line : List ℕ) (left : ℕ) (others : List (List ℕ)) → bytes_eq line (codes "end") ≡ ends → Stands lines from → step_by ends from line ≡ Parsed left
    → DeclaresDocument (lines ++ line ∷ others) left others
unfolding step_by
gives_by false lines from line left others is stands gives = absurd (cc)
gives_by true lines from line left others is stands gives =
    let same : from.left ≡ left = cc in
    record {
      document = lines;
      last = line;
      whole = refl;
      goes_on = stands.0;
      ends = is;
      leaves = sym same ∙ ap (λ (d : Document). d.left) stands.1;
    }

never_refused : (ends : Bool) (from : Document) (line : List ℕ) (fault : DocumentFault) → step_by ends from line ≡ Refused fault → ⊥
unfolding step_by
never_refused true from line fault refuses = cc
never_refused false from line fault refuses = cc

fault_is : (document : Document) (number : ℕ) (stop : Stop) → IsExampleFault (NoLine stop) (stops document number stop)
fault_is document number InputEnded = refl
fault_is document number LineTooLong = refl
fault_is document number InputTooMuch = refl

-- ---- the grammar says one thing
not_both : (line : List ℕ) → DocumentGoesOn line → IsTrue (bytes_eq line (codes "end")) → ⊥
not_both line goes ends = let both : false ≡ true = sym goes ∙ ends in absurd (cc both)

-- no line of lines that go on ends a document
none_ends : (lines prefix : List (List ℕ)) (last : List ℕ) (rest : List (List ℕ)) → All DocumentGoesOn lines → lines ≡ prefix ++ last ∷ rest → IsTrue (bytes_eq last (codes "end")) → ⊥
none_ends [] [] last rest all whole ends = absurd (cc)
none_ends [] (line ∷ prefix) last rest all whole ends = absurd (cc)
none_ends (line ∷ lines) [] last rest all whole ends =
    let head : line ≡ last = cc in
    not_both last (subst DocumentGoesOn head (All-head DocumentGoesOn line lines all)) ends
none_ends (line ∷ lines) (other ∷ prefix) last rest all whole ends =
    let tail : lines ≡ prefix ++ last ∷ rest = cc in
    none_ends lines prefix last rest (All-tail DocumentGoesOn line lines all) tail ends

-- lines divide in one place
one_place : (prefix other : List (List ℕ)) (last end : List ℕ) (rest after : List (List ℕ)) → All DocumentGoesOn prefix → All DocumentGoesOn other → IsTrue (bytes_eq last (codes "end")) → IsTrue (bytes_eq end (codes "end"))
    → prefix ++ last ∷ rest ≡ other ++ end ∷ after → (prefix ≡ other) × (rest ≡ after)
one_place [] [] last end rest after all also ends too whole = let tail : rest ≡ after = cc in (refl, tail)
one_place [] (line ∷ other) last end rest after all also ends too whole =
    let head : line ≡ last = cc in
    absurd (not_both last (subst DocumentGoesOn head (All-head DocumentGoesOn line other also)) ends)
one_place (line ∷ prefix) [] last end rest after all also ends too whole =
    let head : line ≡ end = cc in
    absurd (not_both end (subst DocumentGoesOn head (All-head DocumentGoesOn line prefix all)) too)
one_place (line ∷ prefix) (next ∷ other) last end rest after all also ends too whole =
    let head : line ≡ next = cc in
    let tail : prefix ++ last ∷ rest ≡ other ++ end ∷ after = cc in
    let same = one_place prefix other last end rest after (All-tail DocumentGoesOn line prefix all) (All-tail DocumentGoesOn next other also) ends too tail in
    let one = same.0 in
    (cc, same.1)

one_value : (lines : List (List ℕ)) (left other : ℕ) (rest after : List (List ℕ)) → DeclaresDocument lines left rest → DeclaresDocument lines other after → (left ≡ other) × (rest ≡ after)
one_value lines left other rest after is also =
    let same = one_place is.document also.document is.last also.last rest after is.goes_on also.goes_on is.ends also.ends (sym is.whole ∙ also.whole) in
    (is.leaves ∙ (ap bytes_left_after same.0 ∙ sym also.leaves), same.1)

stop_once : (stop : Stop) (a b : DocumentFault) → IsExampleFault (NoLine stop) a → IsExampleFault (NoLine stop) b → a ≡ b
stop_once InputEnded a b is also = is ∙ sym also
stop_once LineTooLong a b is also = is ∙ sym also
stop_once InputTooMuch a b is also = is ∙ sym also

fault_once : (next : Next) (a b : DocumentFault) → IsExampleFault next a → IsExampleFault next b → a ≡ b
fault_once (Line line) a b is also = absurd is
fault_once (NoLine stop) a b is also = stop_once stop a b is also

module _ (past : ℕ) where
  stands : (lines : List (List ℕ)) (state : Document) → Leads example_document_reader empty_document past lines state → Stands lines state
  unfolding step_by
  stands lines state leads =
      stands_by example_document_reader empty_document past Stands (All-nil DocumentGoesOn, refl)
      (λ before from to next there goes. goes_by (bytes_eq next (codes "end")) before from to next refl there goes) lines state leads

  keeps_to : KeepsTo example_document_reader empty_document past (document_grammar past)
  unfolding step_by
  keeps_to = record {
    longest = λ lines state leads. let there = stands lines state leads in (there.0, ap (λ (d : Document). d.left) there.1);
    stopped = λ lines state stop leads. ((stands lines state leads).0, fault_is state (number_after past lines) stop);
    refused = λ lines state line fault leads refuses. absurd (never_refused (bytes_eq line (codes "end")) state line fault refuses);
    gives = λ lines state line left others leads gives. gives_by (bytes_eq line (codes "end")) lines state line left others refl (stands lines state leads) gives;
  }

  once : IsOnce (document_grammar past)
  once = record {
    one_value = one_value;
    one_longest = λ lines a b is also. is.1 ∙ sym also.1;
    one_fault = λ lines next a b is also. fault_once next a b is.1 also.1;
    refused_wanted = λ lines next fault refuses. (bytes_left_after lines, (refuses.0, refl));
    value_not_wanted = λ lines left rest longest is wanted. none_ends lines is.document is.last rest wanted.0 is.whole is.ends;
    value_not_refused = λ prefix line others left rest fault is refuses. refuses.1;
    wanted_not_refused = λ prefix line others longest fault wanted refuses. refuses.1;
  }

  pub document_by : ReadsBy example_document_reader empty_document past (document_grammar past)
  document_by = reads_by example_document_reader empty_document past (document_grammar past) keeps_to once
