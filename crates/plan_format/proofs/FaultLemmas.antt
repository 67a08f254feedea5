-- The first fault of a text that is read line by line.
use Rattle.std.proofs.Common.{◌≡◌, ℕ, ◌+◌, List, [], ◌∷◌, ◌++◌, length, Result, Ok, Err, refl, sym, ap, ◌∙◌, subst, inl, inr, append_assoc}
use Rattle.std.specs.Result.{IsErr, IsErrAnd}
use Rattle.std.proofs.lemmas.List.{append-nil}
use Rattle.texts.specs.Words.{words}
use Rattle.texts.specs.Lines.{lines}
use Rattle.net_model.specs.declared.format.FormatKind.{FormatKind}
use Rattle.net_model.specs.declared.format.FormatKind.TheVariants.{UnknownWord, NoHeader, NoEnd}
use Rattle.net_model.specs.declared.format.FormatFault.{FormatFault}
use Rattle.net_model.specs.declared.format.WordFault.{WordFault}
use Rattle.net_model.specs.declared.format.WordFault.TheVariants as word
use Rattle.net_model.specs.declared.part.Part.{Part}
use Rattle.plan_format.specs.declared.plan_line.PlanLine.{PlanLine}
use Rattle.plan_format.specs.declared.plan_line.PlanLine.TheVariants as line
use Rattle.plan_format.specs.declared.section.PlanSection.{PlanSection}
use Rattle.plan_format.specs.declared.section.PlanSection.TheVariants as section
use Rattle.plan_format.specs.declared.read.Parts.{Parts}
use Rattle.plan_format.specs.PlanLines.{plan_line}
use Rattle.plan_format.specs.declared.version.PlanStage.{PlanStage}
use Rattle.plan_format.specs.declared.version.PlanStage.TheVariants.{Opened}
use Rattle.plan_format.specs.declared.version.PlanVersion.{PlanVersion}
use Rattle.plan_format.specs.declared.version.PlanVersion.TheVariants.{One}
use Rattle.plan_format.specs.PlanGrammar.{ReadsPlan}
use Rattle.plan_format.specs.PlanFaults.{Departs, CanBecomePlan, ExcludesPlan, Stops, IsFirstPlanFault}
use Rattle.plan_format.specs.PlanReading.{PlanProgress, initial, in_section, plan_line_in, advanced_plan, missing, IsPlanReached, IsPrefix, PlanLineBrings, fault_after}
use Rattle.plan_format.proofs.PartLemmas.{read_is}
use Rattle.plan_format.proofs.DepartureLemmas.{departs, departs_one, header_unknown}
use Rattle.plan_format.proofs.StepLemmas.{reached, advance, goes_on, may_begin}
use Rattle.plan_format.proofs.GrammarLemmas.{Declared, read_from, step, has_read, plan_read, says_read}

-- no plan text begins with lines that were read and a line that is refused
no_plan : (before : List (List ℕ)) (read : PlanProgress) (next : List ℕ) (kind : FormatKind) → IsPrefix before read → plan_line_in read.section (words next) ≡ Err kind → CanBecomePlan (before ++ next ∷ []) → ⊥
no_plan before read next kind has refused (more, delay, parts, numbers, plan) =
    let text : List (List ℕ) = (before ++ next ∷ []) ++ more in
    let good = plan_read text text [] delay parts numbers (sym (append-nil text)) plan in
    let bad : read_from initial 1 text ≡ Err (fault_after before kind) = ap (read_from initial 1) (append_assoc before (next ∷ []) more)
    ∙ (has_read before (next ∷ more) read has ∙ step read (length before + 1) next more (Err kind) refused) in
    absurd (cc)

headless : (read : Result PlanLine FormatKind) (kind : FormatKind) → in_section section.Header read ≡ Err kind → kind ≡ NoHeader
headless (Ok line.Blank) kind refused = absurd (cc)
headless (Ok (line.Header number)) kind refused = absurd (cc)
headless (Ok (line.Part part)) kind refused = cc
headless (Ok (line.Delay moments)) kind refused = cc
headless (Ok (line.Between name from low high to)) kind refused = cc
headless (Ok line.End) kind refused = cc
headless (Err k) kind refused = cc

departs_by : (version : PlanVersion) (stage : PlanStage) (next : List ℕ) (read : Result PlanLine FormatKind) (kind : FormatKind) → plan_line version stage (words next) ≡ read → in_section (section.Started version stage) read ≡ Err kind
    → Departs version stage (words next) kind
departs_by version stage next (Ok line.Blank) kind is refused = absurd (cc)
departs_by version stage next (Ok (line.Header number)) kind is refused =
    let unknown : UnknownWord ≡ kind = cc in
    let said = read_is version stage (words next) (line.Header number) is in
    subst (λ (k : FormatKind). Departs version stage (words next) k) unknown (header_unknown version stage said.0 (words next) said.2)
departs_by version stage next (Ok (line.Part part)) kind is refused = absurd (cc)
departs_by version stage next (Ok (line.Delay moments)) kind is refused = absurd (cc)
departs_by version stage next (Ok (line.Between name from low high to)) kind is refused = absurd (cc)
departs_by version stage next (Ok line.End) kind is refused = absurd (cc)
departs_by version stage next (Err k) kind is refused = departs version stage (words next) kind (is ∙ refused)

stops_by : (s : PlanSection) (before : List (List ℕ)) (delay : ℕ) (parts : List Part) (numbers : List ℕ) (next : List ℕ) (more : List (List ℕ)) (kind : FormatKind) → IsPlanReached s before delay parts numbers
    → plan_line_in s (words next) ≡ Err kind → Stops before (next ∷ more) kind
stops_by section.Header before delay parts numbers next more kind are refused = inl (are.0, headless (plan_line One Opened (words next)) kind refused)
stops_by (section.Started version stage) before delay parts numbers next more kind begins refused =
    inr (version, stage, delay, parts, numbers, begins, departs_by version stage next (plan_line version stage (words next)) kind refl refused)

-- a line that is refused has the first fault of its text
pub fault_in_line : (before : List (List ℕ)) (read : PlanProgress) (next : List ℕ) (kind : FormatKind) → IsPrefix before read → plan_line_in read.section (words next) ≡ Err kind → (more : List (List ℕ))
    → IsFirstPlanFault (before ++ next ∷ more) (fault_after before kind)
fault_in_line before read next kind has refused more = record {
  before = before;
  rest = next ∷ more;
  whole = refl;
  at_line = refl;
  possible = goes_on before read has;
  refused = no_plan before read next kind has refused;
  stops = stops_by read.section before read.delay read.parts read.lines next more kind has refused;
}

-- the answer to a line that is refused
pub refused_brings : (before : List (List ℕ)) (next : List ℕ) (read more : PlanProgress) (kind : FormatKind) (answer : Result PlanLine WordFault) → plan_line_in read.section (words next) ≡ Err kind → IsErr answer
    → IsErrAnd answer (λ (fault : WordFault). fault ≡ word.Kind kind) → IsPrefix before read → PlanLineBrings before next answer more
refused_brings before next read more kind (Ok said) refused err is has = absurd (cc)
refused_brings before next read more kind (Err (word.Kind k)) refused err is has = λ others.
    let same : k ≡ kind = cc in
    subst (λ (f : FormatKind). IsFirstPlanFault (before ++ next ∷ others) (fault_after before f)) (sym same) (fault_in_line before read next kind has refused others)
refused_brings before next read more kind (Err word.OutOfMemory) refused err is has = tt

ends_by : (s : PlanSection) (before : List (List ℕ)) (delay : ℕ) (parts : List Part) (numbers : List ℕ) → IsPlanReached s before delay parts numbers → Stops before [] (missing s)
ends_by section.Header before delay parts numbers are = inl (are.0, refl)
ends_by (section.Started version stage) before delay parts numbers begins = inr (version, stage, delay, parts, numbers, begins, refl)

-- a text that ends too soon has its first fault after its last line
pub ends_too_soon : (before : List (List ℕ)) (read : PlanProgress) → IsPrefix before read → IsFirstPlanFault before (fault_after before (missing read.section))
ends_too_soon before read has = record {
  before = before;
  rest = [];
  whole = sym (append-nil before);
  at_line = refl;
  possible = goes_on before read has;
  refused = tt;
  stops = ends_by read.section before read.delay read.parts read.lines has;
}

-- lines before a fault were read
abbrev read_before : (before rest : List (List ℕ)) (kind : FormatKind) → Stops before rest kind → (read : PlanProgress) × IsPrefix before read
read_before before rest kind (inl none) = (initial, (none.0, refl, refl, refl))
read_before before rest kind (inr (version, stage, delay, parts, numbers, begins, stops)) = (reached (section.Started version stage) delay parts numbers, begins)

stated_at : (answer : Result Declared FormatFault) (line : ℕ) (kind : FormatKind) (fault : FormatFault) → answer ≡ Err (record { line = line; kind = kind }) → fault.line ≡ line → fault.kind ≡ kind → answer ≡ Err fault
stated_at answer line kind fault stated at is =
    stated ∙ (ap (λ (n : ℕ). Err (record { line = n; kind = kind })) (sym at) ∙ ap (λ (k : FormatKind). Err (record { line = fault.line; kind = k })) (sym is))

-- the fault of a line: it is there, and has the kind of what is read of it
record IsFaultOfLine (before : List (List ℕ)) (next : List ℕ) (read : PlanProgress) (fault : FormatFault) : Type 0 where
  line : fault.line ≡ length before + 1
  kind : (kind : FormatKind) → plan_line_in read.section (words next) ≡ Err kind → fault.kind ≡ kind

-- what is read of a line that cannot come is its fault
refused_line : (before : List (List ℕ)) (next : List ℕ) (others : List (List ℕ)) (read : PlanProgress) (said : Result PlanLine FormatKind) (fault : FormatFault) → IsPrefix before read → plan_line_in read.section (words next) ≡ said
    → (CanBecomePlan (before ++ next ∷ []) → ⊥) → IsFaultOfLine before next read fault → read_from read (length before + 1) (next ∷ others) ≡ Err fault
refused_line before next others read (Ok said) fault has is refused of =
    absurd (refused (may_begin before next said (advanced_plan read (length before + 1) said) (advance before next (length before + 1) said read refl is has)))
refused_line before next others read (Err k) fault has is refused of =
    stated_at (read_from read (length before + 1) (next ∷ others)) (length before + 1) k fault (step read (length before + 1) next others (Err k) is) of.line (of.kind k is)

fault_of_rest : (before rest : List (List ℕ)) (fault : FormatFault) → fault.line ≡ length before + 1 → ExcludesPlan before rest → (stops : Stops before rest fault.kind)
    → read_from (read_before before rest fault.kind stops).0 (length before + 1) rest ≡ Err fault
fault_of_rest before [] fault at refused (inl none) = stated_at _ (length before + 1) NoHeader fault refl at none.1
fault_of_rest before (next ∷ others) fault at refused (inl none) =
    let prefix = read_before before (next ∷ others) fault.kind (inl none) in
    refused_line before next others prefix.0 (plan_line_in prefix.0.section (words next)) fault prefix.1 refl refused (record { line = at; kind = λ kind is. none.1 ∙ sym (headless (plan_line One Opened (words next)) kind is) })
fault_of_rest before [] fault at refused (inr (version, stage, delay, parts, numbers, begins, stops)) = stated_at _ (length before + 1) NoEnd fault refl at stops
fault_of_rest before (next ∷ others) fault at refused (inr (version, stage, delay, parts, numbers, begins, stops)) =
    let prefix = read_before before (next ∷ others) fault.kind (inr (version, stage, delay, parts, numbers, begins, stops)) in
    refused_line before next others prefix.0 (plan_line_in prefix.0.section (words next)) fault prefix.1 refl refused
    (record { line = at; kind = λ kind is. departs_one version stage (words next) fault.kind kind stops (departs_by version stage next (plan_line version stage (words next)) kind refl is) })

-- the first fault of a text is what is read of it
pub fault_is : (text : List (List ℕ)) (fault : FormatFault) → IsFirstPlanFault text fault → read_from initial 1 text ≡ Err fault
fault_is text fault first =
    let prefix = read_before first.before first.rest fault.kind first.stops in
    ap (read_from initial 1) first.whole ∙ (has_read first.before first.rest prefix.0 prefix.1 ∙ fault_of_rest first.before first.rest fault first.at_line first.refused first.stops)

-- a text has one first fault at most
pub fault_one : (text : List (List ℕ)) (fault other : FormatFault) → IsFirstPlanFault text fault → IsFirstPlanFault text other → fault ≡ other
fault_one text fault other first also =
    let one = fault_is text fault first in
    let two = fault_is text other also in
    cc

-- a text with a fault is no plan text
pub fault_is_none : (bytes : List ℕ) (fault : FormatFault) (read : Parts) → IsFirstPlanFault (lines bytes) fault → ReadsPlan bytes read → ⊥
fault_is_none bytes fault read first says =
    let good = says_read bytes read says in
    let bad = fault_is (lines bytes) fault first in
    absurd (cc)
