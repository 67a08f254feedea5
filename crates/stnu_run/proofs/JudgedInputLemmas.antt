-- A plan that an input declares, and lines of a certificate after it, are read as both.
use Rattle.std.proofs.Common.{◌≡◌, ℕ, ◌≤◌, ◌+◌, List, [], ◌∷◌, ◌++◌, length, map, refl, sym, ap, ◌∙◌, subst, arith, append_assoc, inl}
use Rattle.std.specs.List.{flat_map, AllByRecursion}
use Rattle.std.proofs.lemmas.List.{append-nil, map-append}
use Rattle.texts.specs.Limits.{most_line}
use Rattle.texts.specs.Lines.{InputLine, input_lines, lines, whole_line}
use Rattle.texts.proofs.InputLemmas.{Begins, lines-texts}
use Rattle.net_model.specs.Network.{Plan}
use Rattle.command_engine.specs.Grammars.{Grammar, ReadsBy}
use Rattle.command_engine.specs.Inputs.{ComeAfter, DeclaresBy, capacity_after, texts}
use Rattle.command_engine.specs.Limits.{most_input}
use Rattle.command_engine.specs.Pairs.{then_grammar, then_reader}
use Rattle.command_engine.specs.Readers.{Given, reading}
use Rattle.command_engine.specs.Runs.{begins}
use Rattle.command_engine.specs.declared.alternatives.Either.TheVariants.{Left, Right}
use Rattle.command_engine.specs.declared.pairs.Then.{Then}
use Rattle.command_engine.specs.declared.pairs.Then.TheVariants.{First}
use Rattle.command_engine.proofs.InputLemmas.{declared_read, texts_both}
use Rattle.command_engine.proofs.PairGrammarLemmas.{pair_by}
use Rattle.common_answers.specs.declared.faults.Fault.{Fault}
use Rattle.input_texts.specs.PlanInput.{PlanInput, initial_input, input_reader, plan_in}
use Rattle.input_texts.specs.ProofInputs.{ProofInput, initial_proof, proof_reader, proof_texts}
use Rattle.input_texts.specs.declared.plan_input.PlanForm.{PlanForm}
use Rattle.input_texts.specs.declared.proof_input.Proof.{Proof}
use Rattle.input_texts.specs.declared.proof_input.ProofKind.{ProofKind}
use Rattle.input_texts.specs.declared.proof_input.ProofKind.TheVariants.{Control, Strong}
use Rattle.input_texts.proofs.PlanInputLemmas.{input_by}
use Rattle.input_texts.proofs.ProofLemmas.{proof_by}
use Rattle.stnu_run.specs.PrintedCertificates.{with_end}
use Rattle.stnu_run.proofs.ClosedTextLemmas.{IsClosed, closed_both, closed_text, input_lines_whole, lines_begin, lines_both, lines_text, texts_whole, total_both, total_is, total_size}
use Rattle.stnu_run.proofs.ComingLemmas.{come_both, come_by, come_second, come_text, come_whole, declares_first, left_over}

-- every line of a certificate may have as many bytes
fixed : (state : ProofInput) → proof_reader.longest state ≡ most_line
fixed (Left text) = refl
fixed (Right text) = refl

-- which lines are wanted of a certificate does not depend on the lines before it
wanted_past : (kind : ProofKind) (past : ℕ) (seen : List (List ℕ)) (longest : ℕ) → (proof_texts kind 0).longest seen longest → (proof_texts kind past).longest seen longest
wanted_past Control past seen longest wanted = wanted
wanted_past Strong past seen longest wanted = wanted

begin_first : (one other : List (List ℕ)) → AllByRecursion Begins (one ++ other) → AllByRecursion Begins one
begin_first [] other begin = tt
begin_first (line ∷ one) other begin = (begin.0, begin_first one other begin.1)

-- the state in which both are read, and the grammar of both
abbrev pub initial_pair : PlanForm → ProofKind → Then PlanInput Plan ProofInput
initial_pair form kind = First (initial_input form) (initial_proof kind)

abbrev pub pair_texts : PlanForm → ProofKind → Grammar (Plan × Proof) Fault
pair_texts form kind = then_grammar (plan_in form) (proof_texts kind) 0

pair_texts_by : (form : PlanForm) (kind : ProofKind) → ReadsBy (then_reader input_reader proof_reader) (initial_pair form kind) 0 (pair_texts form kind)
pair_texts_by form kind = pair_by input_reader proof_reader (initial_proof kind) (initial_input form) 0 (plan_in form) (proof_texts kind) (input_by form 0) (proof_by kind)

module _ (form : PlanForm) (input : List ℕ) (net : Plan) (used rest : List InputLine) (divided : input_lines input ≡ used ++ rest) (declares : DeclaresBy (plan_in form) used rest net) where
  pub plan_and_rest : lines input ≡ texts used ++ texts rest
  plan_and_rest = lines-texts input ∙ (ap (λ (ls : List InputLine). texts ls) divided ∙ texts_both used rest)

  pub plan_declared : (plan_in form).declares (lines input) net (texts rest)
  plan_declared = subst (λ (ls : List (List ℕ)). (plan_in form).declares ls net (texts rest)) (texts_both used rest ∙ sym plan_and_rest) declares.declared

  declared_before : (others : List (List ℕ)) → (plan_in form).declares (texts used ++ others) net others
  declared_before others = declares_first input_reader (initial_input form) (plan_in form) (input_by form 0) used rest net declares.declared others

  -- the text of the plan
  abbrev plan_text : List ℕ
  plan_text = flat_map with_end (texts used)

  plan_lines : lines plan_text ≡ texts used
  plan_lines = lines_text (texts used) (begin_first (texts used) (texts rest) (subst (AllByRecursion Begins) plan_and_rest (lines_begin input)))

  module _ (kind : ProofKind) (proof : Proof) (printed : List ℕ) (after : List (List ℕ)) (closed : IsClosed printed) (says : (past : ℕ) → (proof_texts kind past).declares (lines printed) proof after)
      (short : AllByRecursion (λ line. length line ≤ most_line) (lines printed)) (fits : length (flat_map with_end (texts used) ++ printed) ≤ most_input) where
    -- the text of both
    abbrev both_text : List ℕ
    both_text = plan_text ++ printed

    both_closed : IsClosed both_text
    both_closed = closed_both plan_text printed (closed_text (texts used)) closed

    both_lines : lines both_text ≡ texts used ++ lines printed
    both_lines = lines_both plan_text printed (closed_text (texts used)) closed ∙ ap (λ (ls : List (List ℕ)). ls ++ lines printed) plan_lines

    sizes : total_size (texts used) + total_size (lines printed) ≤ most_input
    sizes =
        let all = total_is both_text both_closed in
        let split : total_size (lines both_text) ≡ total_size (texts used) + total_size (lines printed) = ap (λ (ls : List (List ℕ)). total_size ls) both_lines ∙ total_both (texts used) (lines printed) in
        omega (arith, all, split, fits)

    -- what the input may have after the plan
    abbrev spare : ℕ
    spare = capacity_after most_input (map whole_line (texts used))

    come_proof : (read : List (List ℕ)) × (lines printed ≡ read ++ after) × ComeAfter (proof_texts kind 0) [] spare (map whole_line read)
    come_proof =
        come_text proof_reader (initial_proof kind) (proof_texts kind 0) (proof_by kind 0) most_line fixed (lines printed) proof after spare (says 0) short (left_over (texts used) most_input (total_size (lines printed)) sizes)

    abbrev both_used : List InputLine
    both_used = map whole_line (texts used) ++ map whole_line come_proof.0

    abbrev both_rest : List InputLine
    both_rest = map whole_line after

    come_plan : ComeAfter (pair_texts form kind) [] most_input (map whole_line (texts used))
    come_plan =
        let total = sizes in
        come_by (plan_in form) (pair_texts form kind) (λ seen longest wanted. inl wanted) (map whole_line (texts used)) [] most_input (come_whole (plan_in form) used [] most_input most_input declares.come (omega (arith, total)))

    come_after_plan : ComeAfter (pair_texts form kind) (texts used ++ []) spare (map whole_line come_proof.0)
    come_after_plan =
        come_second (plan_in form) (proof_texts kind) 0 (texts used) net declared_before (map whole_line come_proof.0) [] spare
        (come_by (proof_texts kind 0) (proof_texts kind (0 + length (texts used))) (wanted_past kind (0 + length (texts used))) (map whole_line come_proof.0) [] spare come_proof.2)

    come_all : ComeAfter (pair_texts form kind) [] most_input both_used
    come_all =
        come_both (pair_texts form kind) (map whole_line (texts used)) (map whole_line come_proof.0) [] most_input come_plan
        (subst (λ (ls : List (List ℕ)). ComeAfter (pair_texts form kind) ls spare (map whole_line come_proof.0)) (append-nil (texts used) ∙ sym (texts_whole (texts used))) come_after_plan)

    both_divided : input_lines both_text ≡ both_used ++ both_rest
    both_divided =
        input_lines_whole both_text both_closed
        ∙ (ap (λ (ls : List (List ℕ)). map whole_line ls) (both_lines ∙ ap (λ (ls : List (List ℕ)). texts used ++ ls) come_proof.1)
        ∙ (map-append whole_line (texts used) (come_proof.0 ++ after)
        ∙ (ap (λ (ls : List InputLine). map whole_line (texts used) ++ ls) (map-append whole_line come_proof.0 after)
        ∙ sym (append_assoc (map whole_line (texts used)) (map whole_line come_proof.0) (map whole_line after)))))

    both_texts : texts (both_used ++ both_rest) ≡ texts used ++ lines printed
    both_texts = ap (λ (ls : List InputLine). texts ls) (sym both_divided) ∙ (sym (lines-texts both_text) ∙ both_lines)

    both_declared : (pair_texts form kind).declares (texts used ++ lines printed) (net, proof) after
    both_declared = (record { text = texts used; rest = lines printed; whole = refl; declared = declared_before (lines printed) }, says (0 + length (texts used)))

    both_declares : DeclaresBy (pair_texts form kind) both_used both_rest (net, proof)
    both_declares = record {
      come = come_all;
      declared = subst (λ (ls : List (List ℕ)). (pair_texts form kind).declares ls (net, proof) (texts both_rest)) (sym both_texts)
          (subst (λ (ls : List (List ℕ)). (pair_texts form kind).declares (texts used ++ lines printed) (net, proof) ls) (sym (texts_whole after)) both_declared);
    }

    -- the plan and the certificate are read, one after the other
    pub both_read : (number : ℕ) × (spare_capacity : ℕ) × (left : List InputLine)
        × (reading (then_reader input_reader proof_reader) (begins (initial_pair form kind)) (input_lines (flat_map with_end (texts used) ++ printed)) ≡ Given (net, proof) number spare_capacity left)
    both_read = (
      length both_used,
      capacity_after most_input both_used,
      both_rest,
      declared_read (then_reader input_reader proof_reader) (initial_pair form kind) (pair_texts form kind) (pair_texts_by form kind) (input_lines both_text) both_used both_rest (net, proof) both_divided both_declares,
    )
