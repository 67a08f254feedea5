-- A printed plan text is read back.
use Rattle.std.proofs.Common.{◌≡◌, ℕ, ℤ, ◌<◌, ◌≤◌, ◌≤ℤ◌, pos, ◌+◌, ◌==◌, Bool, true, false, cond, inl, List, [], ◌∷◌, ◌++◌, length, map, get_or, refl, sym, ap, subst, ◌∙◌, arith, codes, IsTrue, unsigned_abs, append_assoc, length-append}
use Rattle.std.specs.List.{All, AllByRecursion}
use Rattle.std.specs.Fmt.{signed_decimal}
use Rattle.std.proofs.lemmas.Bool.{leb-true, le-leb, eqb-true, ne_eqb}
use Rattle.std.proofs.lemmas.List.{length-map, append-nil, map-append}
use Rattle.std.proofs.lemmas.List.Elements.{recursion_from_All, All-nil, All-append, All-map}
use Rattle.net_model.specs.Names.{is_name}
use Rattle.net_model.specs.Limits.{within_limit, most_delay, most_number}
use Rattle.net_model.specs.Network.{Plan, IsPlan, HasPlanNumbers}
use Rattle.net_model.specs.NetworkParts.{bound_part, link_part, parts_of, IsDeclarable}
use Rattle.texts.specs.Words.{words}
use Rattle.texts.specs.Lines.{lines}
use Rattle.texts.specs.Lines.{size_of_lines}
use Rattle.texts.specs.PrintedLines.{joined, printed}
use Rattle.net_model.specs.declared.part.Part.{Part}
use Rattle.net_model.specs.declared.part.Part.TheVariants as part
use Rattle.texts.proofs.LineLemmas.{size_of_lines-other, size_of_lines-end, size_of_lines-nil}
use Rattle.texts.proofs.PrintedLineLemmas.{IsPrintable, IsPrintableLine, words-joined, plain-joined, lines-printed}
use Rattle.net_model.proofs.DecimalSpellingLemmas.{printable_name, printable_natural, printable_integer}
use Rattle.plan_format.specs.declared.plan_line.PlanLine.TheVariants as line
use Rattle.plan_format.specs.PlanGrammar.{IsBlank, IsPlanLine, IsPartialPlan, header, delays, declares, IsPlanText}
use Rattle.plan_format.specs.PlanNetwork.{DeclaresNetwork}
use Rattle.plan_format.specs.declared.version.PlanStage.{PlanStage}
use Rattle.plan_format.specs.declared.version.PlanStage.TheVariants.{Opened, PastDelay}
use Rattle.plan_format.specs.declared.version.PlanVersion.{PlanVersion}
use Rattle.plan_format.specs.declared.version.PlanVersion.TheVariants.{Two}
use Rattle.plan_format.specs.PlanParts.{part_words, delay_words, plan_header_words, end_words}
use Rattle.plan_format.specs.PlanPrinting.{delay_lines, plan_words, printed_plan, ReadsBack}
use Rattle.net_model.proofs.PartsLemmas.{parts_declare}
use Rattle.plan_format.proofs.StepLemmas.{one_more}

printable_number : (n : ℤ) → within_limit n ≡ true → IsPrintable (signed_decimal n)
printable_number n within =
    let few : unsigned_abs n ≤ most_number = leb-true (unsigned_abs n) most_number within in
    printable_integer n (omega arith)

literal_stnu : IsPrintable (codes "stnu")
literal_stnu = record { filled = omega arith; plain = (omega arith, (omega arith, (omega arith, (omega arith, tt)))) }

literal_delay : IsPrintable (codes "delay")
literal_delay = record { filled = omega arith; plain = (omega arith, (omega arith, (omega arith, (omega arith, (omega arith, tt))))) }

literal_two : IsPrintable (codes "2")
literal_two = record { filled = omega arith; plain = (omega arith, tt) }

literal_end : IsPrintable (codes "end")
literal_end = record { filled = omega arith; plain = (omega arith, (omega arith, (omega arith, tt))) }

literal_point : IsPrintable (codes "point")
literal_point = record { filled = omega arith; plain = (omega arith, (omega arith, (omega arith, (omega arith, (omega arith, tt))))) }

literal_bound : IsPrintable (codes "bound")
literal_bound = record { filled = omega arith; plain = (omega arith, (omega arith, (omega arith, (omega arith, (omega arith, tt))))) }

literal_link : IsPrintable (codes "link")
literal_link = record { filled = omega arith; plain = (omega arith, (omega arith, (omega arith, (omega arith, tt)))) }

printable_part : (p : Part) → IsDeclarable p → IsPrintableLine (part_words p)
printable_part (part.Point name) spelled = (literal_point, (printable_name name spelled, tt))
printable_part (part.Bound name from to most) spelled =
    (literal_bound, (printable_name name spelled.0, (printable_name from spelled.1, (printable_name to spelled.2, (printable_number most spelled.3, tt)))))
printable_part (part.Link from low high to) spelled =
    (literal_link, (printable_name from spelled.0, (printable_number low spelled.1, (printable_number high spelled.2, (printable_name to spelled.3, tt)))))

printable_end : IsPrintableLine end_words
printable_end = (literal_end, tt)

printable_parts : (parts : List Part) → AllByRecursion IsDeclarable parts → AllByRecursion IsPrintableLine (map part_words parts ++ end_words ∷ [])
printable_parts [] spelled = (printable_end, tt)
printable_parts (p ∷ parts) spelled = (printable_part p spelled.0, printable_parts parts spelled.1)

printable_delay : (delay : ℕ) → delay ≤ most_delay → IsPrintableLine (delay_words delay)
printable_delay delay short = (literal_delay, (printable_natural delay (omega arith), tt))

printable_delay_lines : (none : Bool) (delay : ℕ) (others : List (List (List ℕ))) → delay ≤ most_delay → AllByRecursion IsPrintableLine others → AllByRecursion IsPrintableLine (cond none [] (delay_words delay ∷ []) ++ others)
printable_delay_lines true delay others short printable = printable
printable_delay_lines false delay others short printable = (printable_delay delay short, printable)

printable_plan : (delay : ℕ) (parts : List Part) → delay ≤ most_delay → AllByRecursion IsDeclarable parts → AllByRecursion IsPrintableLine (plan_words delay parts)
printable_plan delay parts short spelled =
    ((literal_stnu, (literal_two, tt)), printable_delay_lines (delay == 0) delay (map part_words parts ++ end_words ∷ []) short (printable_parts parts spelled))

-- the numbers of the lines of parts that follow one another
abbrev pub numbers_from : ℕ → List Part → List ℕ
numbers_from number [] = []
numbers_from number (p ∷ parts) = number ∷ numbers_from (number + 1) parts

line_back : (l : List (List ℕ)) → IsPrintableLine l → words (joined l) ≡ l
line_back l printable = words-joined l printable

partial_plan_is : (version : PlanVersion) (stage : PlanStage) (lines text : List (List ℕ)) (delay : ℕ) (parts ps : List Part) (numbers ns : List ℕ) → lines ≡ text → parts ≡ ps → numbers ≡ ns
    → IsPartialPlan version stage lines delay parts numbers → IsPartialPlan version stage text delay ps ns
partial_plan_is version stage lines text delay parts ps numbers ns e p n initial =
    subst (λ (ls : List (List ℕ)). IsPartialPlan version stage ls delay ps ns) e (subst (λ (qs : List Part). IsPartialPlan version stage lines delay qs ns) p
    (subst (λ (ms : List ℕ). IsPartialPlan version stage lines delay parts ms) n initial))

-- a header and other lines, however far they are
HasPartialPlan : PlanVersion → List (List ℕ) → ℕ → List Part → List ℕ → Type 0
HasPartialPlan version lines delay parts numbers = (stage : PlanStage) × IsPartialPlan version stage lines delay parts numbers

-- printed lines of parts after a header and other lines
partial_plan_with : (version : PlanVersion) (stage : PlanStage) (before : List (List ℕ)) (delay : ℕ) (ps : List Part) (ns : List ℕ) (parts : List Part) → AllByRecursion IsDeclarable parts → IsPartialPlan version stage before delay ps ns
    → HasPartialPlan version (before ++ map joined (map part_words parts)) delay (ps ++ parts) (ns ++ numbers_from (length before + 1) parts)
unfolding HasPartialPlan
partial_plan_with version stage before delay ps ns [] spelled initial = (stage, rw (append-nil before, append-nil ps, append-nil ns) initial)
partial_plan_with version stage before delay ps ns (p ∷ parts) spelled initial =
    let text : List ℕ = joined (part_words p) in
    let others : List (List ℕ) = map joined (map part_words parts) in
    let number : ℕ = length before + 1 in
    let is : IsPlanLine version (line.Part p) text = (line_back (part_words p) (printable_part p spelled.0), spelled.0) in
    let one : IsPartialPlan version PastDelay (before ++ text ∷ []) delay (ps ++ p ∷ []) (ns ++ number ∷ []) = declares stage before text delay ps (p ∷ []) ns initial (inl (p, refl, is)) in
    let all = partial_plan_with version PastDelay (before ++ text ∷ []) delay (ps ++ p ∷ []) (ns ++ number ∷ []) parts spelled.1 one in
    let size : length (before ++ text ∷ []) + 1 ≡ number + 1 = ap (λ (n : ℕ). n + 1) (sym (one_more before text)) in (
      all.0,
      partial_plan_is version all.0 _ _ delay _ _ _ _ (append_assoc before (text ∷ []) others) (append_assoc ps (p ∷ []) parts) (append_assoc ns (number ∷ []) (numbers_from (length (before ++ text ∷ []) + 1) parts)
          ∙ ap (λ (n : ℕ). ns ++ number ∷ numbers_from n parts) size) all.1,
    )

-- the bytes of a line and its line end
size_of_line : (count : ℕ) (bytes rest : List ℕ) → AllByRecursion (λ byte. 31 < byte) bytes → size_of_lines (count + 1) (bytes ++ 10 ∷ rest) ≡ length bytes + 1 + size_of_lines count rest
size_of_line count [] rest plain = size_of_lines-end count rest ∙ (let same : 1 + size_of_lines count rest ≡ 0 + 1 + size_of_lines count rest = omega arith in same)
size_of_line count (byte ∷ bytes) rest plain =
    let above : 31 < byte = plain.0 in
    let first : size_of_lines (count + 1) (byte ∷ (bytes ++ 10 ∷ rest)) ≡ 1 + size_of_lines (count + 1) (bytes ++ 10 ∷ rest) = size_of_lines-other count byte (bytes ++ 10 ∷ rest) (ne_eqb byte 10 (λ same. omega arith)) in
    omega (arith, first, size_of_line count bytes rest plain.1)

-- printed lines are all the bytes of their text
size_of_printed : (text : List (List (List ℕ))) → AllByRecursion IsPrintableLine text → size_of_lines (length text) (printed text) ≡ length (printed text)
size_of_printed [] printable = size_of_lines-nil 0
size_of_printed (l ∷ text) printable =
    let split : printed (l ∷ text) ≡ joined l ++ 10 ∷ printed text = append_assoc (joined l) (10 ∷ []) (printed text) in
    let count : length (l ∷ text) ≡ length text + 1 = omega arith in
    let size : length (joined l ++ 10 ∷ printed text) ≡ length (joined l) + length (10 ∷ printed text) = length-append (joined l) (10 ∷ printed text) in
    let here : size_of_lines (length text + 1) (joined l ++ 10 ∷ printed text) ≡ length (joined l) + 1 + size_of_lines (length text) (printed text) = size_of_line (length text) (joined l) (printed text) (plain-joined l printable.0) in
    rw (count, split) (omega (arith, here, size, size_of_printed text printable.1))

-- the number of the first part in a printed text
pub first_number : ℕ → ℕ
first_number delay = length (delay_lines delay) + 2

-- the header and the line of the delay
prefix_lines : ℕ → List (List ℕ)
prefix_lines delay = joined (plan_header_words Two) ∷ map joined (delay_lines delay)

prefix_stated : (none : Bool) (delay : ℕ) → (delay == 0) ≡ none → delay ≤ most_delay → HasPartialPlan Two (joined (plan_header_words Two) ∷ map joined (cond none [] (delay_words delay ∷ []))) delay [] []
unfolding HasPartialPlan
prefix_stated none delay is short =
    let first : List ℕ = joined (plan_header_words Two) in
    let heads : words first ≡ plan_header_words Two = line_back (plan_header_words Two) (literal_stnu, (literal_two, tt)) in
    let initial : IsPartialPlan Two Opened (first ∷ []) 0 [] [] = header [] first (All-nil IsBlank) heads in
    stated none is first initial
  where
    stated : (none : Bool) → (delay == 0) ≡ none → (first : List ℕ) → IsPartialPlan Two Opened (first ∷ []) 0 [] [] → (stage : PlanStage) × IsPartialPlan Two stage (first ∷ map joined (cond none [] (delay_words delay ∷ []))) delay [] []
    stated true is first initial =
        let zero_delay : delay ≡ 0 = eqb-true delay 0 is in
        (Opened, rw zero_delay initial)
    stated false is first initial =
        let text : List ℕ = joined (delay_words delay) in
        (PastDelay, delays (first ∷ []) text 0 delay [] [] initial (refl, delay, refl, line_back (delay_words delay) (printable_delay delay short), short))

initial_prefix : (delay : ℕ) → delay ≤ most_delay → HasPartialPlan Two (prefix_lines delay) delay [] []
unfolding prefix_lines
initial_prefix delay short = prefix_stated (delay == 0) delay refl short

prefix_size : (delay : ℕ) → length (prefix_lines delay) + 1 ≡ first_number delay
unfolding prefix_lines first_number
prefix_size delay = omega (arith, length-map (delay_lines delay) joined)

-- the printed lines of a delay and of parts that can be spelled are a plan text
plan_printed : (delay : ℕ) (parts : List Part) → delay ≤ most_delay → AllByRecursion IsDeclarable parts → IsPlanText (map joined (plan_words delay parts)) delay parts (numbers_from (first_number delay) parts)
unfolding HasPartialPlan prefix_lines
plan_printed delay parts short spelled =
    let stated : List (List ℕ) = map joined (delay_lines delay) in
    let first : List ℕ = joined (plan_header_words Two) in
    let middle : List (List ℕ) = map joined (map part_words parts) in
    let prefix = initial_prefix delay short in
    let all = partial_plan_with Two prefix.0 (first ∷ stated) delay [] [] parts spelled prefix.1 in
    let lines : map joined (delay_lines delay ++ (map part_words parts ++ end_words ∷ [])) ≡ stated ++ (middle ++ joined end_words ∷ []) = map-append joined (delay_lines delay) (map part_words parts ++ end_words ∷ [])
    ∙ ap (λ (ls : List (List ℕ)). stated ++ ls) (map-append joined (map part_words parts) (end_words ∷ [])) in
    record {
      version = Two;
      stage = all.0;
      initial = first ∷ (stated ++ middle);
      last = joined end_words;
      whole = ap (λ (ls : List (List ℕ)). first ∷ ls) (lines ∙ sym (append_assoc stated middle (joined end_words ∷ [])));
      begins = subst (λ (n : ℕ). IsPartialPlan Two all.0 (first ∷ (stated ++ middle)) delay parts (numbers_from n parts)) (prefix_size delay) all.1;
      ends = line_back end_words printable_end;
    }

-- the parts of a network can be spelled
spelled_name : (net : Plan) → IsPlan net → (k : ℕ) → k < length net.points → IsTrue (is_name (get_or net.points k []))
spelled_name net plan k inside = plan.points_named k [] inside

size_below : (low high : ℤ) → pos 1 ≤ℤ low → low ≤ℤ high → unsigned_abs low ≤ unsigned_abs high
size_below low high positive interval = grind arith

spelled_parts : (net : Plan) → IsPlan net → HasPlanNumbers net → AllByRecursion IsDeclarable (parts_of net)
spelled_parts net plan numbers =
    let points : All IsDeclarable (map part.Point net.points) = All-map IsDeclarable part.Point net.points plan.points_named in
    let bounds : All IsDeclarable (map (bound_part net.points) net.bounds) = All-map IsDeclarable (bound_part net.points) net.bounds (λ k d inside.
    (let b = plan.bounds_sound k d inside in
    (b.named, spelled_name net plan _ b.from_point, spelled_name net plan _ b.to_point, numbers.bounds k d inside))) in
    let links : All IsDeclarable (map (link_part net.points) net.links) = All-map IsDeclarable (link_part net.points) net.links (λ k d inside.
    (let l = plan.links_sound k d inside in
    let few = leb-true (unsigned_abs (get_or net.links k d).high) most_number (numbers.links k d inside) in
    let smaller = size_below (get_or net.links k d).low (get_or net.links k d).high l.positive l.interval in
    (spelled_name net plan _ l.from_point, le-leb (unsigned_abs (get_or net.links k d).low) most_number (omega (arith, few, smaller)), numbers.links k d inside, spelled_name net plan _ l.to_point))) in
    recursion_from_All IsDeclarable (parts_of net) (All-append IsDeclarable (map part.Point net.points) (map (bound_part net.points) net.bounds ++ map (link_part net.points) net.links) points
    (All-append IsDeclarable (map (bound_part net.points) net.bounds) (map (link_part net.points) net.links) bounds links))

-- the printed text of a network is read back
pub reads_back : (net : Plan) → IsPlan net → HasPlanNumbers net → ReadsBack (printed_plan net) net
unfolding printed_plan
reads_back net plan numbers =
    let parts : List Part = parts_of net in
    let spelled = spelled_parts net plan numbers in
    let all_words : List (List (List ℕ)) = plan_words net.delay parts in
    let printable = printable_plan net.delay parts plan.short_delay spelled in
    let text : List ℕ = printed all_words in
    let all : List (List ℕ) = map joined all_words in
    let size : size_of_lines (length all_words) text ≡ length text = size_of_printed all_words printable in
    let count : length all ≡ length all_words = length-map all_words joined in
    record {
      read = record { parts = parts; lines = numbers_from (first_number net.delay) parts; used = length text; delay = pos net.delay };
      said = record {
        text = all;
        after = [];
        delay = net.delay;
        split = lines-printed all_words printable ∙ sym (append-nil all);
        plan = plan_printed net.delay parts plan.short_delay spelled;
        used = sym size ∙ ap (λ (n : ℕ). size_of_lines n text) (sym count);
        stated = refl;
      };
      whole = refl;
      stated = refl;
      same = parts_declare net plan numbers;
    }

-- and its lines declare the network, whole
pub declares_back : (net : Plan) → IsPlan net → HasPlanNumbers net → DeclaresNetwork (lines (printed_plan net)) net []
unfolding printed_plan
declares_back net plan numbers =
    let parts : List Part = parts_of net in
    let spelled = spelled_parts net plan numbers in
    let all_words : List (List (List ℕ)) = plan_words net.delay parts in
    let all : List (List ℕ) = map joined all_words in
    record {
      plan = all;
      delay = net.delay;
      parts = parts;
      numbers = numbers_from (first_number net.delay) parts;
      whole = lines-printed all_words (printable_plan net.delay parts plan.short_delay spelled) ∙ sym (append-nil all);
      is_plan = plan_printed net.delay parts plan.short_delay spelled;
      builds = parts_declare net plan numbers;
    }
