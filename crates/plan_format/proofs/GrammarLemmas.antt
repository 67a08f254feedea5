-- A text has one reading as a plan text at most.
use Rattle.std.proofs.Common.{◌≡◌, ℕ, pos, inl, inr, ◌+◌, List, [], ◌∷◌, ◌++◌, length, Result, Ok, Err, refl, sym, ap, ◌∙◌, arith, append_assoc}
use Rattle.std.specs.List.{All}
use Rattle.std.proofs.lemmas.List.Elements.{All-head, All-tail}
use Rattle.texts.specs.Words.{words}
use Rattle.texts.specs.Lines.{lines, size_of_lines}
use Rattle.net_model.specs.declared.format.FormatKind.{FormatKind}
use Rattle.net_model.specs.declared.format.FormatFault.{FormatFault}
use Rattle.net_model.specs.declared.part.Part.{Part}
use Rattle.plan_format.specs.declared.plan_line.PlanLine.{PlanLine}
use Rattle.plan_format.specs.declared.plan_line.PlanLine.TheVariants as line
use Rattle.plan_format.specs.declared.section.PlanSection.{PlanSection}
use Rattle.plan_format.specs.declared.section.PlanSection.TheVariants as section
use Rattle.plan_format.specs.declared.read.Parts.{Parts}
use Rattle.plan_format.specs.PlanGrammar.{IsBlank, IsPlanLine, IsPartialPlan, header, blank, delays, declares, IsPlanText, ReadsPlan}
use Rattle.plan_format.specs.declared.version.PlanStage.{PlanStage}
use Rattle.plan_format.specs.declared.version.PlanStage.TheVariants.{Opened, PastDelay}
use Rattle.plan_format.specs.declared.version.PlanVersion.{PlanVersion}
use Rattle.net_model.specs.Between.{between_parts}
use Rattle.plan_format.specs.PlanParts.{version_number, version_numbered}
use Rattle.plan_format.specs.PlanReading.{PlanProgress, initial, in_section, plan_line_in, version_in, stage_in, with_more, advanced_plan, missing, IsPrefix}
use Rattle.plan_format.proofs.PartLemmas.{MayStand, is_read}
use Rattle.plan_format.proofs.StepLemmas.{reached, one_more, numbered_of}

-- what a text declares, and how many lines it has
pub record Declared : Type 0 where
  pub delay : ℕ
  pub parts : List Part
  pub lines : List ℕ
  pub end : ℕ

-- what the lines of a text declare, or their fault, by what the first of them says
abbrev pub said_from : PlanProgress → ℕ → Result PlanLine FormatKind → (PlanProgress → Result Declared FormatFault) → Result Declared FormatFault
said_from read number (Ok line.End) after = Ok (record { delay = read.delay; parts = read.parts; lines = read.lines; end = number })
said_from read number (Ok said) after = after (advanced_plan read number said)
said_from read number (Err kind) after = Err (record { line = number; kind = kind })

-- what is read of lines, of which the first has a number, after what was read
abbrev pub read_from : PlanProgress → ℕ → List (List ℕ) → Result Declared FormatFault
read_from read number [] = Err (record { line = number; kind = missing read.section })
read_from read number (text ∷ others) = said_from read number (plan_line_in read.section (words text)) (λ more. read_from more (number + 1) others)

-- by what the first line says
pub step : (read : PlanProgress) (number : ℕ) (text : List ℕ) (others : List (List ℕ)) (said : Result PlanLine FormatKind) → plan_line_in read.section (words text) ≡ said
    → read_from read number (text ∷ others) ≡ said_from read number said (λ more. read_from more (number + 1) others)
step read number text others said is = ap (λ (r : Result PlanLine FormatKind). said_from read number r (λ more. read_from more (number + 1) others)) is

-- a line of the grammar, in its section
pub line_is : (s : PlanSection) (text : List ℕ) (said : PlanLine) → MayStand (stage_in s) said → IsPlanLine (version_in s) said text → in_section s (Ok said) ≡ Ok said → plan_line_in s (words text) ≡ Ok said
line_is s text said may is comes = ap (in_section s) (is_read (version_in s) (stage_in s) (words text) said may is) ∙ comes

blanks_read : (before more : List (List ℕ)) (number n : ℕ) → All IsBlank before → n ≡ number + length before → read_from initial number (before ++ more) ≡ read_from initial n more
blanks_read [] more number n all same =
    let at : number ≡ n = omega arith in
    ap (λ (k : ℕ). read_from initial k more) at
blanks_read (text ∷ before) more number n all same =
    step initial number text (before ++ more) (Ok line.Blank) (line_is section.Header text line.Blank tt (All-head IsBlank text before all) refl)
    ∙ blanks_read before more (number + 1) n (All-tail IsBlank text before all) (omega arith)

-- the number of the line after these lines and one more
next_number : (prefix : List (List ℕ)) (text : List ℕ) → length prefix + 1 + 1 ≡ length (prefix ++ text ∷ []) + 1
next_number prefix text = ap (λ (n : ℕ). n + 1) (one_more prefix text)

-- after lines that were read, and one that says something, the others are read
then_read : (prefix : List (List ℕ)) (text : List ℕ) (others : List (List ℕ)) (read more : PlanProgress) (said : PlanLine) → read_from initial 1 (prefix ++ text ∷ others) ≡ read_from read (length prefix + 1) (text ∷ others)
    → plan_line_in read.section (words text) ≡ Ok said → said_from read (length prefix + 1) (Ok said) (λ after. read_from after (length prefix + 1 + 1) others) ≡ read_from more (length prefix + 1 + 1) others
    → read_from initial 1 ((prefix ++ text ∷ []) ++ others) ≡ read_from more (length (prefix ++ text ∷ []) + 1) others
then_read prefix text others read more said before is goes =
    ap (read_from initial 1) (append_assoc prefix (text ∷ []) others)
    ∙ (before
    ∙ (step read (length prefix + 1) text others (Ok said) is
    ∙ (goes ∙ ap (λ (n : ℕ). read_from more n others) (next_number prefix text))))

-- after a header and other lines, the rest is read
partial_plan_read : (version : PlanVersion) (stage : PlanStage) (before : List (List ℕ)) (delay : ℕ) (parts : List Part) (numbers : List ℕ) (others : List (List ℕ)) → IsPartialPlan version stage before delay parts numbers
    → read_from initial 1 (before ++ others) ≡ read_from (reached (section.Started version stage) delay parts numbers) (length before + 1) others
partial_plan_read version stage before delay parts numbers others (header blanks text all is) =
    let said : PlanLine = line.Header (version_number version) in
    let named : section.Started (version_numbered (version_number version)) Opened ≡ section.Started version Opened = ap (λ (v : PlanVersion). section.Started v Opened) (numbered_of version) in
    then_read blanks text others initial (reached (section.Started version Opened) 0 [] []) said (blanks_read blanks (text ∷ others) 1 (length blanks + 1) all (omega arith)) (line_is section.Header text said tt (version, refl, is) refl)
    (ap (λ (s : PlanSection). read_from (reached s 0 [] []) (length blanks + 1 + 1) others) named)
partial_plan_read version stage before delay parts numbers others (blank same prefix text d ps ns begins is) =
    let read : PlanProgress = reached (section.Started version stage) delay parts numbers in
    then_read prefix text others read read line.Blank (partial_plan_read version stage prefix delay parts numbers (text ∷ others) begins) (line_is read.section text line.Blank tt is refl) refl
partial_plan_read version stage before delay parts numbers others (delays prefix text was d ps ns begins is) =
    let read : PlanProgress = reached (section.Started version Opened) was parts numbers in
    let said : PlanLine = line.Delay (pos delay) in
    then_read prefix text others read (reached (section.Started version PastDelay) delay parts numbers) said (partial_plan_read version Opened prefix was parts numbers (text ∷ others) begins)
    (line_is read.section text said refl is refl) refl
partial_plan_read version stage before delay parts numbers others (declares was prefix text d ps more ns begins (inl one)) =
    let read : PlanProgress = reached (section.Started version was) delay ps ns in
    let part : Part = one.0 in
    rw one.1 (then_read prefix text others read (reached (section.Started version PastDelay) delay (ps ++ part ∷ []) (ns ++ (length prefix + 1) ∷ [])) (line.Part part)
    (partial_plan_read version was prefix delay ps ns (text ∷ others) begins)
    (line_is read.section text (line.Part part) tt one.2 refl) refl)
partial_plan_read version stage before delay parts numbers others (declares was prefix text d ps more ns begins (inr (name, from, low, high, to, two, is))) =
    let read : PlanProgress = reached (section.Started version was) delay ps ns in
    let said : PlanLine = line.Between name from low high to in
    rw two (then_read prefix text others read (with_more read (length prefix + 1) (between_parts name from low high to)) said (partial_plan_read version was prefix delay ps ns (text ∷ others) begins)
    (line_is read.section text said tt is refl) refl)

has_read_by : (s : PlanSection) (delay : ℕ) (parts : List Part) (numbers : List ℕ) (before others : List (List ℕ)) → IsPrefix before (reached s delay parts numbers)
    → read_from initial 1 (before ++ others) ≡ read_from (reached s delay parts numbers) (length before + 1) others
has_read_by section.Header delay parts numbers before others has =
    rw (has.1, has.2, has.3) (blanks_read before others 1 (length before + 1) has.0 (omega arith))
has_read_by (section.Started version stage) delay parts numbers before others has = partial_plan_read version stage before delay parts numbers others has

-- after lines that were read, the others are read
pub has_read : (before others : List (List ℕ)) (read : PlanProgress) → IsPrefix before read → read_from initial 1 (before ++ others) ≡ read_from read (length before + 1) others
has_read before others read has = has_read_by read.section read.delay read.parts read.lines before others has

-- a plan text is read
pub plan_read : (all text after : List (List ℕ)) (delay : ℕ) (parts : List Part) (numbers : List ℕ) → all ≡ text ++ after → IsPlanText text delay parts numbers
    → read_from initial 1 all ≡ Ok (record { delay = delay; parts = parts; lines = numbers; end = length text })
plan_read all text after delay parts numbers whole plan =
    let split : all ≡ plan.initial ++ plan.last ∷ after = whole ∙ (ap (λ (ls : List (List ℕ)). ls ++ after) plan.whole ∙ append_assoc plan.initial (plan.last ∷ []) after) in
    let size : length plan.initial + 1 ≡ length text = one_more plan.initial plan.last ∙ ap length (sym plan.whole) in
    let read : PlanProgress = reached (section.Started plan.version plan.stage) delay parts numbers in
    ap (read_from initial 1) split
    ∙ (partial_plan_read plan.version plan.stage plan.initial delay parts numbers (plan.last ∷ after) plan.begins
    ∙ (step read (length plan.initial + 1) plan.last after (Ok line.End) (line_is read.section plan.last line.End tt plan.ends refl)
    ∙ ap (λ (n : ℕ). Ok (record { delay = delay; parts = parts; lines = numbers; end = n })) size))

-- what is read of bytes whose lines declare this
abbrev read_of : List ℕ → Declared → Parts
read_of bytes declared = record { parts = declared.parts; lines = declared.lines; used = size_of_lines declared.end bytes; delay = pos declared.delay }

pub says_read : (bytes : List ℕ) (read : Parts) → ReadsPlan bytes read → (declared : Declared) × (read_from initial 1 (lines bytes) ≡ Ok declared) × (read_of bytes declared ≡ read)
says_read bytes read says =
    (record { delay = says.delay; parts = read.parts; lines = read.lines; end = length says.text }, plan_read (lines bytes) says.text says.after says.delay read.parts read.lines says.split says.plan, rw (says.used, says.stated) refl)

-- bytes say one thing at most
pub says_one : (bytes : List ℕ) (read other : Parts) → ReadsPlan bytes read → ReadsPlan bytes other → read ≡ other
says_one bytes read other says also =
    let a = says_read bytes read says in
    let b = says_read bytes other also in
    let same : a.0 ≡ b.0 = cc in
    sym a.2 ∙ (ap (read_of bytes) same ∙ b.2)
