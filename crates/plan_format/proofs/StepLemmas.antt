-- Lines of a plan text that are read one after another, by the grammar.
use Rattle.std.proofs.Common.{◌≡◌, ℕ, ◌+◌, List, [], ◌∷◌, ◌++◌, length, Result, Ok, Err, refl, sym, ap, ◌∙◌, subst, codes, inl, inr, nat_le, append_assoc, length-append}
use Rattle.std.proofs.lemmas.Bool.{and_parts, leb-true}
use Rattle.std.proofs.lemmas.List.{append-nil}
use Rattle.net_model.specs.Names.{is_name, most_short}
use Rattle.std.proofs.lemmas.List.Elements.{All-nil, All-cons, All-append}
use Rattle.texts.specs.Words.{words}
use Rattle.net_model.specs.declared.format.FormatKind.{FormatKind}
use Rattle.net_model.specs.declared.part.Part.{Part}
use Rattle.plan_format.specs.declared.plan_line.PlanLine.{PlanLine}
use Rattle.plan_format.specs.declared.plan_line.PlanLine.TheVariants as line
use Rattle.plan_format.specs.declared.section.PlanSection.{PlanSection}
use Rattle.plan_format.specs.declared.section.PlanSection.TheVariants as section
use Rattle.plan_format.specs.PlanLines.{plan_line}
use Rattle.plan_format.specs.declared.version.PlanStage.{PlanStage}
use Rattle.plan_format.specs.declared.version.PlanStage.TheVariants.{Opened}
use Rattle.plan_format.specs.declared.version.PlanVersion.{PlanVersion}
use Rattle.plan_format.specs.declared.version.PlanVersion.TheVariants.{One, Two}
use Rattle.net_model.specs.Between.{between_parts}
use Rattle.plan_format.specs.PlanParts.{version_number, version_numbered, plan_header_words, end_words}
use Rattle.plan_format.specs.PlanGrammar.{IsBlank, IsPlanLine, AreWordsOfPlanLine, IsPartialPlan, header, blank, delays, declares, IsPlanText}
use Rattle.plan_format.specs.PlanFaults.{CanBecomePlan, PlanGoesOn}
use Rattle.plan_format.specs.PlanReading.{PlanProgress, in_section, plan_line_in, version_in, stage_in, advanced_plan, IsPlanReached, IsPrefix, IsLineWithin, PlanLineBrings}
use Rattle.plan_format.proofs.PartLemmas.{MayStand, read_is, stands}

-- which lines come in a section
abbrev MayCome : PlanSection → PlanLine → Type 0
MayCome section.Header line.Blank = Unit {0}
MayCome section.Header (line.Header number) = Unit {0}
MayCome section.Header (line.Part part) = ⊥
MayCome section.Header (line.Delay moments) = ⊥
MayCome section.Header (line.Between name from low high to) = ⊥
MayCome section.Header line.End = ⊥
MayCome (section.Started version stage) (line.Header number) = ⊥
MayCome (section.Started version stage) line.Blank = Unit {0}
MayCome (section.Started version stage) (line.Part part) = Unit {0}
MayCome (section.Started version stage) (line.Delay moments) = stage ≡ Opened
MayCome (section.Started version stage) (line.Between name from low high to) = Unit {0}
MayCome (section.Started version stage) line.End = Unit {0}

same_line : (s : PlanSection) (l said : PlanLine) (read : Result PlanLine FormatKind) → read ≡ Ok l → read ≡ Ok said → MayCome s l → (read ≡ Ok said) × MayCome s said
same_line s l said read here is may =
    let same : l ≡ said = cc in
    (is, subst (λ (k : PlanLine). MayCome s k) same may)

came : (s : PlanSection) (read : Result PlanLine FormatKind) (said : PlanLine) → ((l : PlanLine) → read ≡ Ok l → MayStand (stage_in s) l) → in_section s read ≡ Ok said → (read ≡ Ok said) × MayCome s said
came section.Header (Ok line.Blank) said may is = same_line section.Header line.Blank said (Ok line.Blank) refl is tt
came section.Header (Ok (line.Header number)) said may is = same_line section.Header (line.Header number) said (Ok (line.Header number)) refl is tt
came section.Header (Ok (line.Part part)) said may is = absurd (cc)
came section.Header (Ok (line.Delay moments)) said may is = absurd (cc)
came section.Header (Ok (line.Between name from low high to)) said may is = absurd (cc)
came section.Header (Ok line.End) said may is = absurd (cc)
came section.Header (Err kind) said may is = absurd (cc)
came (section.Started version stage) (Ok line.Blank) said may is = same_line (section.Started version stage) line.Blank said (Ok line.Blank) refl is tt
came (section.Started version stage) (Ok (line.Header number)) said may is = absurd (cc)
came (section.Started version stage) (Ok (line.Part part)) said may is = same_line (section.Started version stage) (line.Part part) said (Ok (line.Part part)) refl is tt
came (section.Started version stage) (Ok (line.Delay moments)) said may is =
    same_line (section.Started version stage) (line.Delay moments) said (Ok (line.Delay moments)) refl is (may (line.Delay moments) refl)
came (section.Started version stage) (Ok (line.Between name from low high to)) said may is =
    same_line (section.Started version stage) (line.Between name from low high to) said (Ok (line.Between name from low high to)) refl is tt
came (section.Started version stage) (Ok line.End) said may is = same_line (section.Started version stage) line.End said (Ok line.End) refl is tt
came (section.Started version stage) (Err kind) said may is = absurd (cc)

-- what was read, by its parts
abbrev pub reached : PlanSection → ℕ → List Part → List ℕ → PlanProgress
reached s delay parts numbers = record { section = s; delay = delay; parts = parts; lines = numbers }

pub one_more : (before : List (List ℕ)) (text : List ℕ) → length before + 1 ≡ length (before ++ text ∷ [])
one_more before text = sym (length-append before (text ∷ []))

-- the number in a header is that of its version
pub numbered_of : (version : PlanVersion) → version_numbered (version_number version) ≡ version
numbered_of One = refl
numbered_of Two = refl

advance_by : (s : PlanSection) (delay : ℕ) (parts : List Part) (numbers : List ℕ) (number : ℕ) (before : List (List ℕ)) (text : List ℕ) (said : PlanLine) → number ≡ length before + 1 → MayCome s said → IsPlanLine (version_in s) said text
    → IsPlanReached s before delay parts numbers → PlanLineBrings before text (Ok said) (advanced_plan (reached s delay parts numbers) number said)
advance_by section.Header delay parts numbers number before text line.Blank at may is read =
    (All-append IsBlank before (text ∷ []) read.0 (All-cons IsBlank text [] is (All-nil IsBlank)), read.1, read.2, read.3)
advance_by section.Header delay parts numbers number before text (line.Header version) at may is read =
    let named : version_numbered version ≡ is.0 = ap version_numbered is.1 ∙ numbered_of is.0 in
    rw (read.1, read.2, read.3, named) (header before text read.0 is.2)
advance_by section.Header delay parts numbers number before text (line.Part part) at may is read = absurd may
advance_by section.Header delay parts numbers number before text (line.Delay moments) at may is read = absurd may
advance_by section.Header delay parts numbers number before text (line.Between name from low high to) at may is read = absurd may
advance_by section.Header delay parts numbers number before text line.End at may is read = absurd may
advance_by (section.Started version stage) delay parts numbers number before text (line.Header n) at may is read = absurd may
advance_by (section.Started version stage) delay parts numbers number before text line.Blank at may is read = blank stage before text delay parts numbers read is
advance_by (section.Started version stage) delay parts numbers number before text (line.Part part) at may is read =
    rw at (declares stage before text delay parts (part ∷ []) numbers read (inl (part, refl, is)))
advance_by (section.Started version stage) delay parts numbers number before text (line.Delay moments) at may is read =
    let initial : IsPartialPlan version Opened before delay parts numbers = subst (λ (s : PlanStage). IsPartialPlan version s before delay parts numbers) may read in
    rw is.2 (delays before text delay is.1 parts numbers initial (is.0, is.1, refl, is.3, is.4))
advance_by (section.Started version stage) delay parts numbers number before text (line.Between name from low high to) at may is read =
    rw at (declares stage before text delay parts (between_parts name from low high to) numbers read (inr (name, from, low, high, to, refl, is)))
advance_by (section.Started version stage) delay parts numbers number before text line.End at may is read = record {
  version = version;
  stage = stage;
  initial = before;
  last = text;
  whole = refl;
  begins = read;
  ends = is;
}

-- a line that comes in its section brings what it says
pub advance : (before : List (List ℕ)) (text : List ℕ) (number : ℕ) (said : PlanLine) (read : PlanProgress) → number ≡ length before + 1 → plan_line_in read.section (words text) ≡ Ok said → IsPrefix before read
    → PlanLineBrings before text (Ok said) (advanced_plan read number said)
advance before text number said read at is has =
    let v = version_in read.section in
    let stage = stage_in read.section in
    let may = came read.section (plan_line v stage (words text)) said (λ l here. stands v stage (words text) l here) is in
    advance_by read.section read.delay read.parts read.lines number before text said at may.1 (read_is v stage (words text) said may.0) has

-- the numbers of a line that comes are within their limits
within_words : (version : PlanVersion) (words : List (List ℕ)) (l : PlanLine) → AreWordsOfPlanLine version l words → IsLineWithin l
within_words version words line.Blank is = tt
within_words version words (line.Header number) is = tt
within_words version words (line.Part part) is = tt
within_words version words (line.Delay moments) is = rw is.2 is.4
within_words version words (line.Between name from low high to) is =
    let short = and_parts (is_name name) (nat_le (length name) most_short) is.2.0 in
    (leb-true (length name) most_short short.1, is.2.2)
within_words version words line.End is = tt

pub is_within : (s : PlanSection) (words : List (List ℕ)) (said : PlanLine) → plan_line_in s words ≡ Ok said → IsLineWithin said
is_within s words said is =
    let version = version_in s in
    let stage = stage_in s in
    let may = came s (plan_line version stage words) said (λ l here. stands version stage words l here) is in
    within_words version words said (read_is version stage words said may.0)

-- lines with which a header and other lines are a plan text
plan_header_line : List ℕ
plan_header_line = codes "stnu 1"

end_line : List ℕ
end_line = codes "end"

header_is : words plan_header_line ≡ plan_header_words One
unfolding plan_header_line words
header_is = refl

end_is : words end_line ≡ end_words
unfolding end_line words
end_is = refl

goes_on_by : (s : PlanSection) (before : List (List ℕ)) (delay : ℕ) (parts : List Part) (numbers : List ℕ) → IsPlanReached s before delay parts numbers → PlanGoesOn before
goes_on_by section.Header before delay parts numbers are = (
  plan_header_line,
  (
    end_line ∷ [],
    0,
    [],
    [],
    record {
      version = One;
      stage = Opened;
      initial = before ++ plan_header_line ∷ [];
      last = end_line;
      whole = refl;
      begins = header before plan_header_line are.0 header_is;
      ends = end_is;
    },
  ),
)
goes_on_by (section.Started version stage) before delay parts numbers initial = (
  end_line,
  (
    [],
    delay,
    parts,
    numbers,
    record {
      version = version;
      stage = stage;
      initial = before;
      last = end_line;
      whole = append-nil (before ++ end_line ∷ []);
      begins = initial;
      ends = end_is;
    },
  ),
)

-- a plan text may continue after lines that were read
pub goes_on : (before : List (List ℕ)) (read : PlanProgress) → IsPrefix before read → PlanGoesOn before
goes_on before read has = goes_on_by read.section before read.delay read.parts read.lines has

shorter : (text : List (List ℕ)) (next : List ℕ) → CanBecomePlan (text ++ next ∷ []) → CanBecomePlan text
shorter text next (more, delay, parts, numbers, plan) =
    (next ∷ more, delay, parts, numbers, subst (λ (ls : List (List ℕ)). IsPlanText ls delay parts numbers) (append_assoc text (next ∷ []) more) plan)

may_go_on : (text : List (List ℕ)) (read : PlanProgress) → IsPrefix text read → CanBecomePlan text
may_go_on text read prefix = let on = goes_on text read prefix in shorter text on.0 on.1

-- a plan text may begin with lines that may be read
pub may_begin : (before : List (List ℕ)) (text : List ℕ) (said : PlanLine) (read : PlanProgress) → PlanLineBrings before text (Ok said) read → CanBecomePlan (before ++ text ∷ [])
may_begin before text line.Blank read brings = may_go_on (before ++ text ∷ []) read brings
may_begin before text (line.Header version) read brings = may_go_on (before ++ text ∷ []) read brings
may_begin before text (line.Part part) read brings = may_go_on (before ++ text ∷ []) read brings
may_begin before text (line.Delay moments) read brings = may_go_on (before ++ text ∷ []) read brings
may_begin before text (line.Between name from low high to) read brings = may_go_on (before ++ text ∷ []) read brings
may_begin before text line.End read brings =
    ([], read.delay, read.parts, read.lines, subst (λ (ls : List (List ℕ)). IsPlanText ls read.delay read.parts read.lines) (sym (append-nil (before ++ text ∷ []))) brings)
