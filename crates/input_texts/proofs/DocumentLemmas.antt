-- Documents are read by their grammar, whatever stands before them in the input.
use Rattle.std.proofs.Common.{◌≡◌, ℕ, ◌-◌, Bool, true, false, List, [], ◌∷◌, ◌++◌, length, Option, Some, None, Result, Ok, Err, refl, sym, ap, ◌∙◌, subst, true≢false, append_assoc, codes, if◌then◌else◌}
use Rattle.std.specs.Prelude.{unwrap_or}
use Rattle.std.specs.List.{All}
use Rattle.std.proofs.lemmas.List.Elements.{All-nil, All-head, All-tail, All-push}
use Rattle.std.proofs.lemmas.Slice.Eq.{bytes_eq-Decides}
use Rattle.texts.specs.Words.{words}
use Rattle.net_model.specs.BuiltNetwork.{built, declared_net, delayed, place_of}
use Rattle.net_model.specs.Network.{Plan}
use Rattle.net_model.specs.declared.fault.BuildFault.{BuildFault}
use Rattle.plan_format.specs.PlanParts.{end_words}
use Rattle.plan_json.specs.Document.{Fault as Wrong, PlanParts}
use Rattle.plan_json.specs.DocumentReading.{declared}
use Rattle.plan_json.specs.declared.fault.JsonFault.TheVariants as json
use Rattle.command_engine.specs.Grammars.{Next, Line, NoLine, Leads, ReadsBy, number_after}
use Rattle.command_engine.specs.declared.machines.Stop.{Stop}
use Rattle.command_engine.specs.declared.machines.Stop.TheVariants.{LineTooLong as LongStop, InputTooMuch as MuchStop, InputEnded}
use Rattle.command_engine.specs.declared.line_texts.Parse.{Parse}
use Rattle.command_engine.specs.declared.line_texts.Parse.TheVariants.{Continue, Parsed, Refused}
use Rattle.command_engine.proofs.GrammarLemmas.{IsOnce, KeepsTo, reads_by}
use Rattle.command_engine.proofs.LeadLemmas.{stands_by}
use Rattle.command_engine.proofs.TestedTextLemmas.{tested_by}
use Rattle.common_answers.specs.declared.faults.Fault.{Fault}
use Rattle.common_answers.specs.declared.faults.Fault.TheVariants.{Part as PartFault, Document}
use Rattle.input_texts.specs.DocumentSoFar.{DocumentSoFar, most_document}
use Rattle.input_texts.specs.DocumentTexts.{DeclaresBytes, IsEndLine, IsInside, StopsDocument, document_bytes, bytes_tests, bytes_texts, document_texts, left_after}
use Rattle.input_texts.specs.BuiltPlans.{IsDocumentFault, document_by as made_by, network_of_document, placed_by, reported}
use Rattle.input_texts.specs.PlanDocument.{are_end, bytes_reader, initial_document, document_stop, with_line}
use Rattle.input_texts.specs.PlanInput.{document_reader}
use Rattle.input_texts.proofs.NetworkLemmas.{no_memory}

-- ---- the line that ends a document
end_is : (ws : List (List ℕ)) → are_end ws ≡ true → ws ≡ end_words
end_is [] is = absurd (true≢false (sym is))
end_is (word ∷ []) is = ap (λ (w : List ℕ). w ∷ []) ((bytes_eq-Decides word (codes "end")).0 is)
end_is (word ∷ other ∷ more) is = absurd (true≢false (sym is))

is_end : (ws : List (List ℕ)) → ws ≡ end_words → are_end ws ≡ true
is_end ws is = ap are_end is

no_end : (ws : List (List ℕ)) → are_end ws ≡ false → ws ≡ end_words → ⊥
no_end ws inside is = true≢false (sym (is_end ws is) ∙ inside)

-- ---- where the reading stands: no line ends the document, and these are its bytes
has_lines : List (List ℕ) → Bool
has_lines [] = false
has_lines (line ∷ lines) = true

so_far : List (List ℕ) → DocumentSoFar
so_far lines = record { bytes = document_bytes lines; started = has_lines lines; left = left_after most_document lines }

abbrev Stands : List (List ℕ) → DocumentSoFar → Type 0
Stands lines document = All IsInside lines × (document ≡ so_far lines)

left_next : (most : ℕ) (lines : List (List ℕ)) (line : List ℕ) → left_after most lines - length line ≡ left_after most (lines ++ line ∷ [])
left_next most [] line = refl
left_next most (first ∷ lines) line = left_next (most - length first) lines line

bytes_next : (first : List ℕ) (lines : List (List ℕ)) (line : List ℕ) → document_bytes (first ∷ lines) ++ 10 ∷ line ≡ document_bytes (first ∷ (lines ++ line ∷ []))
bytes_next first [] line = refl
bytes_next first (second ∷ lines) line =
    append_assoc first (10 ∷ document_bytes (second ∷ lines)) (10 ∷ line) ∙ ap (λ (bs : List ℕ). first ++ 10 ∷ bs) (bytes_next second lines line)

next_is : (lines : List (List ℕ)) (line : List ℕ) → with_line (so_far lines) line ≡ so_far (lines ++ line ∷ [])
unfolding so_far has_lines
next_is [] line = refl
next_is (first ∷ lines) line =
    ap (λ (n : ℕ). record { bytes = document_bytes (first ∷ lines) ++ 10 ∷ line; started = true; left = n }) (left_next most_document (first ∷ lines) line)
    ∙ ap (λ (bs : List ℕ). record { bytes = bs; started = true; left = left_after most_document (first ∷ (lines ++ line ∷ [])) }) (bytes_next first lines line)

-- what a line brings, by whether it ends the document
abbrev by_end : DocumentSoFar → List ℕ → Bool → Parse DocumentSoFar (List ℕ) Fault
by_end document line ends = if ends then Parsed document.bytes else Continue (with_line document line)

module _ (past : ℕ) where
  stands_step : (lines : List (List ℕ)) (from to : DocumentSoFar) (next : List ℕ) → Stands lines from → bytes_reader.reads from (number_after past lines) next ≡ Continue to → Stands (lines ++ next ∷ []) to
  stands_step lines from to next (inside, is) goes = by (are_end (words next)) refl goes
    where
      by : (ends : Bool) → are_end (words next) ≡ ends → by_end from next ends ≡ Continue to → Stands (lines ++ next ∷ []) to
      by true ends made = absurd (cc)
      by false ends made =
          let same : with_line from next ≡ to = cc in
          (All-push IsInside lines next inside (no_end (words next) ends), sym same ∙ (ap (λ (d : DocumentSoFar). with_line d next) is ∙ next_is lines next))

  stands : (lines : List (List ℕ)) (state : DocumentSoFar) → Leads bytes_reader initial_document past lines state → Stands lines state
  unfolding so_far has_lines
  stands lines state leads = stands_by bytes_reader initial_document past Stands (All-nil IsInside, refl) stands_step lines state leads

  -- ---- no line is refused, and the line that ends the document gives its bytes
  refused_by : (lines : List (List ℕ)) (state : DocumentSoFar) (next : List ℕ) (fault : Fault) → Stands lines state → bytes_reader.reads state (number_after past lines) next ≡ Refused fault
      → (bytes_texts past).refuses lines (Line next) fault
  refused_by lines state next fault (inside, is) refuses = by (are_end (words next)) refuses
    where
      by : (ends : Bool) → by_end state next ends ≡ Refused fault → (bytes_texts past).refuses lines (Line next) fault
      by true made = absurd (cc)
      by false made = absurd (cc)

  gives_by : (lines : List (List ℕ)) (state : DocumentSoFar) (next : List ℕ) (others : List (List ℕ)) (bytes : List ℕ) → Stands lines state → bytes_reader.reads state (number_after past lines) next ≡ Parsed bytes
      → DeclaresBytes (lines ++ next ∷ others) bytes others
  unfolding so_far has_lines
  gives_by lines state next others bytes (inside, is) gives = by (are_end (words next)) refl gives
    where
      by : (ends : Bool) → are_end (words next) ≡ ends → by_end state next ends ≡ Parsed bytes → DeclaresBytes (lines ++ next ∷ others) bytes others
      by true ends made =
          let same : state.bytes ≡ bytes = cc in
          record {
            document = lines;
            last = next;
            whole = refl;
            inside = inside;
            ends = end_is (words next) ends;
            says = sym same ∙ ap (λ (d : DocumentSoFar). d.bytes) is;
          }
      by false ends made = absurd (cc)

  stops_by : (lines : List (List ℕ)) (stop : Stop) → StopsDocument past lines (NoLine stop) (document_stop (number_after past lines) stop)
  stops_by lines LongStop = refl
  stops_by lines MuchStop = refl
  stops_by lines InputEnded = refl

  keeps_to : KeepsTo bytes_reader initial_document past (bytes_texts past)
  unfolding so_far has_lines
  keeps_to = record {
    longest = λ lines state leads. let there = stands lines state leads in (there.0, ap (λ (d : DocumentSoFar). d.left) there.1);
    stopped = λ lines state stop leads. ((stands lines state leads).0, stops_by lines stop);
    refused = λ lines state next fault leads refuses. refused_by lines state next fault (stands lines state leads) refuses;
    gives = λ lines state next bytes others leads gives. gives_by lines state next others bytes (stands lines state leads) gives;
  }

  -- ---- the grammar says one thing
  one_fault : (lines : List (List ℕ)) (next : Next) (a b : Fault) → StopsDocument past lines next a → StopsDocument past lines next b → a ≡ b
  one_fault lines (Line next) a b is also = absurd is
  one_fault lines (NoLine LongStop) a b is also = is ∙ sym also
  one_fault lines (NoLine MuchStop) a b is also = is ∙ sym also
  one_fault lines (NoLine InputEnded) a b is also = is ∙ sym also

  -- the first line that ends a document is one
  pub first_end : (document other : List (List ℕ)) (last end : List ℕ) (rest after : List (List ℕ)) → document ++ last ∷ rest ≡ other ++ end ∷ after → All IsInside document → All IsInside other → IsEndLine last → IsEndLine end
      → (document ≡ other) × (rest ≡ after)
  first_end [] [] last end rest after same inside also ends too = (refl, (let tail : rest ≡ after = cc in tail))
  first_end [] (line ∷ other) last end rest after same inside also ends too =
      let head : last ≡ line = cc in
      absurd (All-head IsInside line other also (subst IsEndLine head ends))
  first_end (line ∷ document) [] last end rest after same inside also ends too =
      let head : end ≡ line = cc in
      absurd (All-head IsInside line document inside (subst IsEndLine head too))
  first_end (line ∷ document) (first ∷ other) last end rest after same inside also ends too =
      let tail : document ++ last ∷ rest ≡ other ++ end ∷ after = cc in
      let head : line ≡ first = cc in
      let on = first_end document other last end rest after tail (All-tail IsInside line document inside) (All-tail IsInside first other also) ends too in
      (rw (head, on.0) refl, on.1)

  not_inside : (document : List (List ℕ)) (last : List ℕ) (rest lines : List (List ℕ)) → lines ≡ document ++ last ∷ rest → All IsInside lines → IsEndLine last → ⊥
  not_inside [] last rest lines same inside ends = All-head IsInside last rest (subst (All IsInside) same inside) ends
  not_inside (line ∷ document) last rest lines same inside ends =
      not_inside document last rest (document ++ last ∷ rest) refl (All-tail IsInside line (document ++ last ∷ rest) (subst (All IsInside) same inside)) ends

  same_value : (lines : List (List ℕ)) (bytes other : List ℕ) (rest after : List (List ℕ)) → DeclaresBytes lines bytes rest → DeclaresBytes lines other after → (bytes ≡ other) × (rest ≡ after)
  same_value lines bytes other rest after is also =
      let one = first_end is.document also.document is.last also.last rest after (sym is.whole ∙ also.whole) is.inside also.inside is.ends also.ends in
      (is.says ∙ (ap document_bytes one.0 ∙ sym also.says), one.1)

  once : IsOnce (bytes_texts past)
  once = record {
    one_value = same_value;
    one_longest = λ lines a b is also. is.1 ∙ sym also.1;
    one_fault = λ lines next a b is also. one_fault lines next a b is.1 also.1;
    refused_wanted = λ lines next fault refuses. (left_after most_document lines, (refuses.0, refl));
    value_not_wanted = λ lines bytes rest longest is wanted. not_inside is.document is.last rest lines is.whole wanted.0 is.ends;
    value_not_refused = λ prefix next others bytes rest fault is refuses. refuses.1;
    wanted_not_refused = λ prefix next others longest fault wanted refuses. refuses.1;
  }

  -- the bytes of documents are read by their grammar
  pub bytes_by : ReadsBy bytes_reader initial_document past (bytes_texts past)
  bytes_by = reads_by bytes_reader initial_document past (bytes_texts past) keeps_to once

  -- and plans as documents by that with the test of the bytes
  pub document_by : ReadsBy document_reader (record { text = initial_document; test = record {} }) past (document_texts past)
  document_by = tested_by bytes_reader bytes_tests (record {}) initial_document past (bytes_texts past) bytes_by

  -- lines that are a document declare the network of its delay and its parts
  pub document_declares : (document : List (List ℕ)) (last : List ℕ) (rest : List (List ℕ)) (plan : PlanParts) (net : Plan) → All IsInside document → IsEndLine last → declared (document_bytes document) ≡ Some (Ok plan)
      → declared_net plan.delay plan.parts ≡ Ok net
      → (document_texts past).declares (document ++ last ∷ rest) net rest
  document_declares document last rest plan net inside ends says builds = record {
    value = document_bytes document;
    text = document ++ last ∷ [];
    whole = sym (append_assoc document (last ∷ []) rest);
    declared = record { document = document; last = last; whole = refl; inside = inside; ends = ends; says = refl };
    passes = ap made_by says ∙ ap placed_by builds;
  }

-- ---- the delay and the parts of a document of which the network is made
pub record Made (bytes : List ℕ) (net : Plan) : Type 0 where
  pub plan : PlanParts
  pub says : declared bytes ≡ Some (Ok plan)
  pub builds : declared_net plan.delay plan.parts ≡ Ok net

made_by_parts : (bytes : List ℕ) (net : Plan) (plan : PlanParts) (answer : Result Plan BuildFault) → declared bytes ≡ Some (Ok plan) → declared_net plan.delay plan.parts ≡ answer → placed_by answer ≡ Ok net → Made bytes net
made_by_parts bytes net plan (Ok other) says builds is = let same : other ≡ net = cc in record { plan = plan; says = says; builds = builds ∙ ap Ok same }
made_by_parts bytes net plan (Err why) says builds is = absurd (cc)

pub made_of : (bytes : List ℕ) (net : Plan) → network_of_document bytes ≡ Ok net → Made bytes net
made_of bytes net made = by (declared bytes) refl made
  where
    by : (said : Option (Result PlanParts Wrong)) → declared bytes ≡ said → made_by said ≡ Ok net → Made bytes net
    by None says is = absurd (cc)
    by (Some (Err wrong)) says is = absurd (cc)
    by (Some (Ok plan)) says is = made_by_parts bytes net plan (declared_net plan.delay plan.parts) says refl is

-- ---- a document is refused by its fault
part_fault : (plan : PlanParts) (why : BuildFault) (place : Option ℕ) (fault : Fault) → built plan.parts ≡ Err why → place_of why ≡ place → PartFault (unwrap_or place 0) why ≡ fault
    → IsDocumentFault (Some (Ok plan)) fault
part_fault plan why None fault refuses is same = absurd (no_memory plan.parts why refuses is)
part_fault plan why (Some place) fault refuses is same = (why, place, refuses, is, sym same)

refused_is : (said : Option (Result PlanParts Wrong)) (fault : Fault) → made_by said ≡ Err fault → IsDocumentFault said fault
refused_is None fault refuses = let same : Document json.NotJson ≡ fault = cc in sym same
refused_is (Some (Err wrong)) fault refuses = let same : Document (reported wrong) ≡ fault = cc in sym same
refused_is (Some (Ok plan)) fault refuses = by (built plan.parts) refl refuses
  where
    by : (answer : Result Plan BuildFault) → built plan.parts ≡ answer → placed_by (delayed plan.delay answer) ≡ Err fault → IsDocumentFault (Some (Ok plan)) fault
    by (Ok net) builds made = absurd (cc)
    by (Err why) builds made =
        let same : PartFault (unwrap_or (place_of why) 0) why ≡ fault = cc in
        part_fault plan why (place_of why) fault builds refl same

pub refused_so : (bytes : List ℕ) (fault : Fault) → network_of_document bytes ≡ Err fault → IsDocumentFault (declared bytes) fault
refused_so bytes fault refuses = refused_is (declared bytes) fault refuses
