-- Reading the lines of bytes one after another.
use Rattle.std.proofs.Common.{◌≡◌, ◌≢◌, ℕ, ◌<◌, ◌≤◌, ◌+◌, ◌-◌, ◌*◌, inl, inr, List, [], ◌∷◌, ◌++◌, length, map, Result, Ok, Err, refl, sym, ap, ◌∙◌, subst, arith, append_assoc, length-append}
use Rattle.std.specs.Result.{IfOk, IfErr}
use Rattle.std.proofs.lemmas.List.{length-map, append-nil}
use Rattle.texts.specs.Lines.{lines, size_of_lines}
use Rattle.texts.proofs.LineLemmas.{lines-few, size_of_lines-le}
use Rattle.net_model.specs.declared.format.FormatFault.{FormatFault}
use Rattle.net_model.specs.declared.format.FormatKind.{FormatKind}
use Rattle.net_model.specs.declared.format.TextFault.{TextFault}
use Rattle.net_model.specs.declared.format.TextFault.TheVariants as text
use Rattle.net_model.specs.declared.format.WordFault.{WordFault}
use Rattle.net_model.specs.declared.format.WordFault.TheVariants as word
use Rattle.net_model.specs.declared.part.Part.{Part}
use Rattle.plan_format.specs.declared.plan_line.PlanLine.{PlanLine}
use Rattle.plan_format.specs.declared.plan_line.PlanLine.TheVariants as line
use Rattle.plan_format.specs.declared.read.Parts.{Parts}
use Rattle.plan_format.specs.PlanGrammar.{IsPartialPlan, header, blank, delays, declares, Declares, IsPlanText, ReadsPlan}
use Rattle.plan_format.specs.declared.version.PlanStage.{PlanStage}
use Rattle.plan_format.specs.declared.version.PlanStage.TheVariants.{Opened}
use Rattle.plan_format.specs.declared.version.PlanVersion.{PlanVersion}
use Rattle.plan_format.specs.PlanFaults.{IsFirstPlanFault, IsPlanTextFault}
use Rattle.plan_format.specs.PlanReading.{PlanProgress, initial, plan_fault_at_line, IsPrefix, PlanLineBrings, ReadsParts, RefusesText, ReadsLines, HasSizes, fault_after}
use Rattle.plan_format.proofs.StepLemmas.{one_more}
use Rattle.plan_format.proofs.GrammarLemmas.{says_one}
use Rattle.plan_format.proofs.FaultLemmas.{fault_is_none, fault_one}

-- what is left of a text after its first lines, as many as `count`
pub record IsLeftAfter (bytes : List ℕ) (count : ℕ) (rest : List ℕ) : Type 0 where
  pub within : count + length rest ≤ length bytes
  pub sizes : (more : ℕ) → size_of_lines (more + count) bytes ≡ size_of_lines more rest + (length bytes - length rest)

pub after_nothing : (bytes : List ℕ) → IsLeftAfter bytes 0 bytes
after_nothing bytes = record {
  within = omega arith;
  sizes = λ more. let same : more + 0 ≡ more = omega arith in rw same (omega arith);
}

-- one line more is after
pub after_more : (bytes : List ℕ) (count : ℕ) (rest after : List ℕ) → IsLeftAfter bytes count rest → length after < length rest → ((more : ℕ) → size_of_lines (more + 1) rest ≡ size_of_lines more after + (length rest - length after))
    → IsLeftAfter bytes (count + 1) after
after_more bytes count rest after so_far shorter sizes = record {
  within = omega (arith, so_far.within);
  sizes = λ more.
      let same : (more + 1) + count ≡ more + (count + 1) = omega arith in
      let before : size_of_lines (more + (count + 1)) bytes ≡ size_of_lines (more + 1) rest + (length bytes - length rest) =
      subst (λ (n : ℕ). size_of_lines n bytes ≡ size_of_lines (more + 1) rest + (length bytes - length rest)) same (so_far.sizes (more + 1)) in
      omega (arith, sizes more, so_far.within);
}

size_of_none : (bytes : List ℕ) → size_of_lines 0 bytes ≡ 0
unfolding size_of_lines
size_of_none [] = refl
size_of_none (byte ∷ bytes) = refl

-- the bytes of all lines up to what is after
pub size_before : (bytes : List ℕ) (count : ℕ) (rest : List ℕ) → IsLeftAfter bytes count rest → size_of_lines count bytes ≡ length bytes - length rest
size_before bytes count rest after =
    let same : 0 + count ≡ count = omega arith in
    let whole : size_of_lines count bytes ≡ size_of_lines 0 rest + (length bytes - length rest) = subst (λ (n : ℕ). size_of_lines n bytes ≡ size_of_lines 0 rest + (length bytes - length rest)) same (after.sizes 0) in
    omega (arith, size_of_none rest)

-- lines of the bytes were read, and this is left of them; the next line has this number
pub record AtLine (bytes rest : List ℕ) (number : ℕ) (read : PlanProgress) : Type 0 where
  pub before : List (List ℕ)
  pub counted : number ≡ length before + 1
  pub split : lines bytes ≡ before ++ lines rest
  pub has : IsPrefix before read
  pub left : IsLeftAfter bytes (length before) rest

pub at_first : (bytes : List ℕ) → IsPrefix [] initial → AtLine bytes bytes 1 initial
at_first bytes has = record { before = []; counted = refl; split = refl; has = has; left = after_nothing bytes }

split_more : (bytes : List ℕ) (before : List (List ℕ)) (text : List ℕ) (rest others : List ℕ) → lines bytes ≡ before ++ lines rest → lines rest ≡ text ∷ lines others → lines bytes ≡ (before ++ text ∷ []) ++ lines others
split_more bytes before text rest others split here =
    split ∙ (ap (λ (ls : List (List ℕ)). before ++ ls) here ∙ sym (append_assoc before (text ∷ []) (lines others)))

-- the first line of what is left
pub record IsNextLine (rest text others : List ℕ) : Type 0 where
  pub here : lines rest ≡ text ∷ lines others
  pub shorter : length others < length rest
  pub sizes : (count : ℕ) → size_of_lines (count + 1) rest ≡ size_of_lines count others + (length rest - length others)

-- a line that is not the last one makes the prefix longer
pub goes_on : (before : List (List ℕ)) (text : List ℕ) (said : PlanLine) (more : PlanProgress) → said ≢ line.End → PlanLineBrings before text (Ok said) more → IsPrefix (before ++ text ∷ []) more
goes_on before text line.Blank more not_last brings = brings
goes_on before text (line.Header version) more not_last brings = brings
goes_on before text (line.Part part) more not_last brings = brings
goes_on before text (line.Delay moments) more not_last brings = brings
goes_on before text (line.Between name from low high to) more not_last brings = brings
goes_on before text line.End more not_last brings = absurd (not_last refl)

-- one line more was read
pub at_next : (bytes rest text others : List ℕ) (number : ℕ) (read more : PlanProgress) (at : AtLine bytes rest number read) → IsNextLine rest text others → IsPrefix (at.before ++ text ∷ []) more → AtLine bytes others (number + 1) more
at_next bytes rest text others number read more at next has = record {
  before = at.before ++ text ∷ [];
  counted = ap (λ (n : ℕ). n + 1) (at.counted ∙ one_more at.before text);
  split = split_more bytes at.before text rest others at.split next.here;
  has = has;
  left = subst (λ (n : ℕ). IsLeftAfter bytes n others) (one_more at.before text) (after_more bytes (length at.before) rest others at.left next.shorter next.sizes);
}

-- the `end` line was read
pub at_end_line : (bytes rest text others : List ℕ) (number : ℕ) (read more : PlanProgress) (at : AtLine bytes rest number read) → IsNextLine rest text others → IsPlanText (at.before ++ text ∷ []) more.delay more.parts more.lines
    → ReadsLines bytes more (Ok (length bytes - length others))
at_end_line bytes rest text others number read more at next plan =
    let left : IsLeftAfter bytes (length (at.before ++ text ∷ [])) others = subst (λ (n : ℕ). IsLeftAfter bytes n others) (one_more at.before text) (after_more bytes (length at.before) rest others at.left next.shorter next.sizes) in
    record {
      text = at.before ++ text ∷ [];
      after = lines others;
      delay = more.delay;
      split = split_more bytes at.before text rest others at.split next.here;
      plan = plan;
      used = sym (size_before bytes (length (at.before ++ text ∷ [])) others left);
      stated = refl;
    }

-- a line was refused
pub at_refused : (bytes rest text others : List ℕ) (read more : PlanProgress) (fault : WordFault) (number : ℕ) (at : AtLine bytes rest number read) → IsNextLine rest text others → PlanLineBrings at.before text (Err fault) more
    → ReadsLines bytes more (Err (plan_fault_at_line number fault))
at_refused bytes rest text others read more (word.Kind kind) number at next brings =
    let whole : lines bytes ≡ at.before ++ text ∷ lines others = at.split ∙ ap (λ (ls : List (List ℕ)). at.before ++ ls) next.here in
    subst (λ (n : ℕ). IsFirstPlanFault (lines bytes) (record { line = n; kind = kind })) (sym at.counted) (subst (λ (ls : List (List ℕ)). IsFirstPlanFault ls (fault_after at.before kind)) (sym whole) (brings (lines others)))
at_refused bytes rest text others read more word.OutOfMemory number at next brings = tt

-- the input ends
pub at_last : (bytes rest : List ℕ) (number : ℕ) (kind : FormatKind) (read : PlanProgress) (at : AtLine bytes rest number read) → lines rest ≡ [] → IsFirstPlanFault at.before (fault_after at.before kind)
    → IsFirstPlanFault (lines bytes) (record { line = number; kind = kind })
at_last bytes rest number kind read at none first =
    let whole : lines bytes ≡ at.before = at.split ∙ (ap (λ (ls : List (List ℕ)). at.before ++ ls) none ∙ append-nil at.before) in
    subst (λ (n : ℕ). IsFirstPlanFault (lines bytes) (record { line = n; kind = kind })) (sym at.counted) (subst (λ (ls : List (List ℕ)). IsFirstPlanFault ls (fault_after at.before kind)) (sym whole) first)

-- the answer to a text that says something
pub answer_every : (bytes : List ℕ) (answer : Result Parts TextFault) (read : Parts) → IfOk answer (ReadsPlan bytes) → IfErr answer (IsPlanTextFault bytes) → ReadsPlan bytes read → ReadsParts answer read
answer_every bytes (Ok one) read says faults also = says_one bytes one read says also
answer_every bytes (Err (text.Format fault)) read says faults also = fault_is_none bytes fault read faults also
answer_every bytes (Err text.OutOfMemory) read says faults also = tt

-- the answer to a text that has a fault
pub answer_fault : (bytes : List ℕ) (answer : Result Parts TextFault) (fault : FormatFault) → IfOk answer (ReadsPlan bytes) → IfErr answer (IsPlanTextFault bytes) → IsFirstPlanFault (lines bytes) fault → RefusesText answer fault
answer_fault bytes (Ok read) fault says faults first = fault_is_none bytes fault read first says
answer_fault bytes (Err (text.Format stated)) fault says faults first = fault_one (lines bytes) stated fault faults first
answer_fault bytes (Err text.OutOfMemory) fault says faults first = tt

record PartialPlanSizes (text : List (List ℕ)) (parts : List Part) (numbers : List ℕ) : Type 0 where
  numbered : length numbers ≡ length parts
  few : length parts + 2 ≤ 2 * length text

declared_few : (version : PlanVersion) (text : List ℕ) (parts : List Part) → Declares version text parts → length parts ≤ 2
declared_few version text parts (inl one) = let so : length parts ≡ 1 = ap length one.1 in omega (arith, so)
declared_few version text parts (inr (name, from, low, high, to, two, is)) = let so : length parts ≡ 2 = ap length two in omega (arith, so)

partial_plan_sizes : (version : PlanVersion) (stage : PlanStage) (text : List (List ℕ)) (delay : ℕ) (parts : List Part) (numbers : List ℕ) → IsPartialPlan version stage text delay parts numbers → PartialPlanSizes text parts numbers
partial_plan_sizes version stage text delay parts numbers (header blanks first all is) = record { numbered = refl; few = omega (arith, one_more blanks first) }
partial_plan_sizes version stage text delay parts numbers (blank same before next d ps ns begins is) =
    let sizes = partial_plan_sizes version stage before delay parts numbers begins in
    record { numbered = sizes.numbered; few = omega (arith, one_more before next, sizes.few) }
partial_plan_sizes version stage text delay parts numbers (delays before next was d ps ns begins is) =
    let sizes = partial_plan_sizes version Opened before was parts numbers begins in
    record { numbered = sizes.numbered; few = omega (arith, one_more before next, sizes.few) }
partial_plan_sizes version stage text delay parts numbers (declares was before next d ps more ns begins declared) =
    let sizes = partial_plan_sizes version was before delay ps ns begins in
    let two = declared_few version next more declared in
    let marks : length (map (λ (part : Part). length before + 1) more) ≡ length more = length-map more (λ (part : Part). length before + 1) in
    let a = length-append ps more in
    let b = length-append ns (map (λ (part : Part). length before + 1) more) in
    record { numbered = omega (arith, sizes.numbered, marks, a, b); few = omega (arith, one_more before next, sizes.few, a, two) }

pub says_sizes : (bytes : List ℕ) (read : Parts) → ReadsPlan bytes read → HasSizes bytes read
says_sizes bytes read says =
    let sizes = partial_plan_sizes says.plan.version says.plan.stage says.plan.initial says.delay read.parts read.lines says.plan.begins in
    let whole : length says.text ≡ length (says.plan.initial ++ says.plan.last ∷ []) = ap length says.plan.whole in
    let all : length (lines bytes) ≡ length (says.text ++ says.after) = ap length says.split in
    let both : length (says.text ++ says.after) ≡ length says.text + length says.after = length-append says.text says.after in
    let lines_few : length (lines bytes) ≤ length bytes = lines-few bytes in
    let size : size_of_lines (length says.text) bytes ≤ length bytes = size_of_lines-le (length says.text) bytes in
    record {
      numbered = sizes.numbered;
      few = omega (arith, sizes.few, whole, one_more says.plan.initial says.plan.last, all, both, lines_few);
      within = omega (arith, says.used, size);
    }

pub answer_sizes : (bytes : List ℕ) (answer : Result Parts TextFault) → IfOk answer (ReadsPlan bytes) → IfOk answer (HasSizes bytes)
answer_sizes bytes (Ok read) says = says_sizes bytes read says
answer_sizes bytes (Err fault) says = tt
