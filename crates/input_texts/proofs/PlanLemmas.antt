-- Plan texts are read by their grammar, whatever stands before them in the input.
use Rattle.std.proofs.Common.{◌≡◌, ◌↔◌, ℕ, ◌+◌, ◌-◌, List, [], ◌∷◌, ◌++◌, length, map, get_or, Option, Some, None, Result, Ok, Err, refl, sym, ap, ◌∙◌, subst, arith, append_assoc, append-nil, length-append, drop}
use Rattle.std.specs.Prelude.{unwrap_or, slice_get}
use Rattle.std.specs.Option.{option_and_then, option_map}
use Rattle.std.proofs.Math.Seq.{drop-append_seam}
use Rattle.std.proofs.lemmas.List.{length-map, map-append}
use Rattle.std.proofs.lemmas.List.Elements.{All-nil}
use Rattle.std.proofs.lemmas.Option.{slice_get-get_or, slice_get-map}
use Rattle.texts.specs.Words.{words}
use Rattle.net_model.specs.Network.{Plan}
use Rattle.net_model.specs.BuiltNetwork.{built, declared_net, delayed, place_of}
use Rattle.net_model.specs.declared.fault.BuildFault.{BuildFault}
use Rattle.net_model.specs.declared.format.FormatFault.{FormatFault}
use Rattle.net_model.specs.declared.format.FormatKind.{FormatKind}
use Rattle.net_model.specs.declared.part.Part.{Part}
use Rattle.net_model.proofs.PlaceLemmas.{built_place}
use Rattle.plan_format.specs.PlanFaults.{IsFirstPlanFault}
use Rattle.plan_format.specs.PlanGrammar.{IsBlank, IsPartialPlan, header, blank, delays, declares}
use Rattle.plan_format.specs.PlanNetwork.{DeclaresNetwork, IsRefusedPart}
use Rattle.net_model.specs.Between.{between_parts}
use Rattle.plan_format.specs.declared.version.PlanStage.{PlanStage}
use Rattle.plan_format.specs.declared.version.PlanStage.TheVariants.{Opened}
use Rattle.plan_format.specs.declared.version.PlanVersion.{PlanVersion}
use Rattle.plan_format.specs.PlanReading.{PlanProgress, IsPrefix, with_more, past_delay, advanced_plan, initial, fault_after, plan_line_in, missing}
use Rattle.plan_format.specs.declared.plan_line.PlanLine.{PlanLine}
use Rattle.plan_format.specs.declared.plan_line.PlanLine.TheVariants as line
use Rattle.plan_format.proofs.FaultLemmas.{fault_in_line, fault_is, fault_one, ends_too_soon}
use Rattle.plan_format.proofs.GrammarLemmas.{Declared, read_from, plan_read}
use Rattle.plan_format.proofs.StepLemmas.{advance, one_more}
use Rattle.texts.specs.Limits.{most_line}
use Rattle.command_engine.specs.Grammars.{Next, Line, NoLine, Leads, ReadsBy, number_after}
use Rattle.command_engine.specs.TestedTexts.{PassesTest, FailsTest}
use Rattle.command_engine.specs.declared.machines.Stop.{Stop}
use Rattle.command_engine.specs.declared.machines.Stop.TheVariants.{LineTooLong as LongStop, InputTooMuch as MuchStop, InputEnded}
use Rattle.command_engine.specs.declared.line_texts.Parse.TheVariants.{Continue, Parsed, Refused}
use Rattle.command_engine.proofs.GrammarLemmas.{IsOnce, KeepsTo, reads_by}
use Rattle.command_engine.proofs.LeadLemmas.{stands_by}
use Rattle.command_engine.proofs.TestedTextLemmas.{tested_by}
use Rattle.common_answers.specs.FormatRefusals.{RefusesFormat}
use Rattle.common_answers.specs.declared.faults.Fault.{Fault}
use Rattle.common_answers.specs.declared.faults.Fault.TheVariants.{Format, Part as PartFault}
use Rattle.input_texts.specs.BuiltPlans.{DeclaredParts, built_by, line_of_part, network_of_parts}
use Rattle.input_texts.specs.PlanInput.{plan_reader}
use Rattle.input_texts.specs.PlanText.{parts_reader, parts_step, initial_plan}
use Rattle.input_texts.specs.PlanTexts.{DeclaresParts, IsPlanFault, RefusesPlan, parts_tests, parts_texts, plan_texts}
use Rattle.input_texts.specs.declared.plan_text.PlanText.{PlanText}
use Rattle.input_texts.proofs.NetworkLemmas.{no_memory}

-- ---- what the lines of a plan declare, they declare once
read_of : (past : ℕ) (lines : List (List ℕ)) (declared : DeclaredParts) (rest : List (List ℕ)) (is : DeclaresParts past lines declared rest)
    → read_from initial 1 lines ≡ Ok (record { delay = declared.delay; parts = declared.parts; lines = is.numbers; end = length is.plan })
read_of past lines declared rest is = plan_read lines is.plan rest declared.delay declared.parts is.numbers is.whole is.is_plan

same_read : (lines : List (List ℕ)) (a b : Declared) → read_from initial 1 lines ≡ Ok a → read_from initial 1 lines ≡ Ok b → a ≡ b
same_read lines a b x y = cc

rest_is : (lines plan rest : List (List ℕ)) → lines ≡ plan ++ rest → drop (length plan) lines ≡ rest
rest_is lines plan rest whole = ap (drop (length plan)) whole ∙ drop-append_seam plan rest

abbrev declared_of : ℕ → List Part → List ℕ → DeclaredParts
declared_of delay parts lines = record { delay = delay; parts = parts; lines = lines }

same_parts : (past : ℕ) (lines : List (List ℕ)) (declared other : DeclaredParts) (rest after : List (List ℕ)) → DeclaresParts past lines declared rest → DeclaresParts past lines other after → (declared ≡ other) × (rest ≡ after)
same_parts past lines declared other rest after is also =
    let same = same_read lines _ _ (read_of past lines declared rest is) (read_of past lines other after also) in
    let delay : declared.delay ≡ other.delay = ap (λ (d : Declared). d.delay) same in
    let parts : declared.parts ≡ other.parts = ap (λ (d : Declared). d.parts) same in
    let numbers : is.numbers ≡ also.numbers = ap (λ (d : Declared). d.lines) same in
    let reported : declared.lines ≡ other.lines = is.numbered ∙ (ap (λ (ns : List ℕ). map (λ (n : ℕ). past + n) ns) numbers ∙ sym also.numbered) in
    let cut : drop (length is.plan) lines ≡ drop (length also.plan) lines = ap (λ (d : Declared). drop d.end lines) same in (
      λ i. declared_of (delay i) (parts i) (reported i),
      sym (rest_is lines is.plan rest is.whole) ∙ (cut ∙ rest_is lines also.plan after also.whole),
    )

no_fault : (past : ℕ) (lines : List (List ℕ)) (declared : DeclaredParts) (rest : List (List ℕ)) (fault : FormatFault) → DeclaresParts past lines declared rest → IsFirstPlanFault lines fault → ⊥
no_fault past lines declared rest fault is first =
    let good = read_of past lines declared rest is in
    let bad = fault_is lines fault first in
    absurd (cc)

fault_kind : (lines : List (List ℕ)) (number : ℕ) (k l : FormatKind) → IsPlanFault lines number k → IsPlanFault lines number l → k ≡ l
fault_kind lines number k l is also = ap (λ (f : FormatFault). f.kind) (fault_one lines (record { line = number; kind = k }) (record { line = number; kind = l }) is also)

fault_line : (lines : List (List ℕ)) (fault other : FormatFault) → IsFirstPlanFault lines fault → IsFirstPlanFault lines other → fault.line ≡ other.line
fault_line lines fault other is also = ap (λ (f : FormatFault). f.line) (fault_one lines fault other is also)

module _ (past : ℕ) where
  -- ---- where the reading stands
  -- what was read of the text, with the numbers that its lines have in the input
  abbrev in_input : PlanProgress → PlanText
  in_input read = record { reader = record { section = read.section; delay = read.delay; parts = read.parts; lines = map (λ number. past + number) read.lines } }

  -- the lines are a prefix of a plan
  abbrev Stands : List (List ℕ) → PlanText → Type 0
  Stands lines text = (read : PlanProgress) × IsPrefix lines read × (text ≡ in_input read)

  -- the numbers of parts of one line in the input
  same_number : (number : ℕ) (more : List Part) → map (λ (part : Part). past + number) more ≡ map (λ (n : ℕ). past + n) (map (λ (part : Part). number) more)
  same_number number [] = refl
  same_number number (part ∷ more) = ap (λ (ns : List ℕ). (past + number) ∷ ns) (same_number number more)

  part_numbers : (lines : List (List ℕ)) (numbers : List ℕ) (more : List Part) → map (λ (n : ℕ). past + n) numbers ++ map (λ (part : Part). number_after past lines) more ≡ map (λ (n : ℕ). past + n)
      (numbers ++ map (λ (part : Part). length lines + 1) more)
  part_numbers lines numbers more =
      let at : number_after past lines ≡ past + (length lines + 1) = omega arith in
      ap (λ (n : ℕ). map (λ (k : ℕ). past + k) numbers ++ map (λ (part : Part). n) more) at
      ∙ (ap (λ (ns : List ℕ). map (λ (k : ℕ). past + k) numbers ++ ns) (same_number (length lines + 1) more)
      ∙ sym (map-append (λ (k : ℕ). past + k) numbers (map (λ (part : Part). length lines + 1) more)))

  goes_with : (lines : List (List ℕ)) (next : List ℕ) (read : PlanProgress) (more : List Part) (to : PlanText) → IsPrefix (lines ++ next ∷ []) (with_more read (length lines + 1) more)
      → record { reader = with_more (in_input read).reader (number_after past lines) more } ≡ to → Stands (lines ++ next ∷ []) to
  goes_with lines next read more to prefix same = (
    with_more read (length lines + 1) more,
    prefix,
    sym same ∙ ap (λ (ns : List ℕ). record { reader = record { section = past_delay read.section; delay = read.delay; parts = read.parts ++ more; lines = ns } }) (part_numbers lines read.lines more),
  )

  goes_by : (lines : List (List ℕ)) (next : List ℕ) (read : PlanProgress) (said : Result PlanLine FormatKind) (to : PlanText) → plan_line_in read.section (words next) ≡ said → IsPrefix lines read
      → parts_step (in_input read) (number_after past lines) said ≡ Continue to → Stands (lines ++ next ∷ []) to
  goes_by lines next read (Ok line.Blank) to is prefix goes = (read, advance lines next (length lines + 1) line.Blank read refl is prefix, (let same : in_input read ≡ to = cc in sym same))
  goes_by lines next read (Ok (line.Header version)) to is prefix goes =
      let more = advanced_plan read (length lines + 1) (line.Header version) in
      (more, advance lines next (length lines + 1) (line.Header version) read refl is prefix, (let same : in_input more ≡ to = cc in sym same))
  goes_by lines next read (Ok (line.Part part)) to is prefix goes =
      let same : record { reader = with_more (in_input read).reader (number_after past lines) (part ∷ []) } ≡ to = cc in
      goes_with lines next read (part ∷ []) to (advance lines next (length lines + 1) (line.Part part) read refl is prefix) same
  goes_by lines next read (Ok (line.Delay moments)) to is prefix goes =
      let more = advanced_plan read (length lines + 1) (line.Delay moments) in
      (more, advance lines next (length lines + 1) (line.Delay moments) read refl is prefix, (let same : in_input more ≡ to = cc in sym same))
  goes_by lines next read (Ok (line.Between name from low high end)) to is prefix goes =
      let two = between_parts name from low high end in
      let same : record { reader = with_more (in_input read).reader (number_after past lines) two } ≡ to = cc in
      goes_with lines next read two to (advance lines next (length lines + 1) (line.Between name from low high end) read refl is prefix) same
  goes_by lines next read (Ok line.End) to is prefix goes = absurd (cc)
  goes_by lines next read (Err kind) to is prefix goes = absurd (cc)

  stands_step : (lines : List (List ℕ)) (from to : PlanText) (next : List ℕ) → Stands lines from → parts_reader.reads from (number_after past lines) next ≡ Continue to → Stands (lines ++ next ∷ []) to
  stands_step lines from to next (read, prefix, same) goes =
      goes_by lines next read (plan_line_in read.section (words next)) to refl prefix (subst (λ (text : PlanText). parts_reader.reads text (number_after past lines) next ≡ Continue to) same goes)

  stands : (lines : List (List ℕ)) (state : PlanText) → Leads parts_reader initial_plan past lines state → Stands lines state
  stands lines state leads = stands_by parts_reader initial_plan past Stands (initial, (All-nil IsBlank, refl, refl, refl), refl) stands_step lines state leads

  -- ---- a line is refused
  refused_by : (lines : List (List ℕ)) (next : List ℕ) (read : PlanProgress) (said : Result PlanLine FormatKind) (fault : Fault) → plan_line_in read.section (words next) ≡ said → IsPrefix lines read
      → parts_step (in_input read) (number_after past lines) said ≡ Refused fault → (parts_texts past).refuses lines (Line next) fault
  refused_by lines next read (Ok line.Blank) fault is prefix refuses = absurd (cc)
  refused_by lines next read (Ok (line.Header version)) fault is prefix refuses = absurd (cc)
  refused_by lines next read (Ok (line.Part part)) fault is prefix refuses = absurd (cc)
  refused_by lines next read (Ok (line.Delay moments)) fault is prefix refuses = absurd (cc)
  refused_by lines next read (Ok (line.Between name from low high to)) fault is prefix refuses = absurd (cc)
  refused_by lines next read (Ok line.End) fault is prefix refuses = absurd (cc)
  refused_by lines next read (Err kind) fault is prefix refuses =
      let same : Format (number_after past lines) kind ≡ fault = cc in
      ((read, prefix), (kind, sym same, fault_in_line lines read next kind prefix is))

  -- ---- the plan ends
  gives_by : (lines : List (List ℕ)) (next : List ℕ) (others : List (List ℕ)) (read : PlanProgress) (said : Result PlanLine FormatKind) (declared : DeclaredParts) → plan_line_in read.section (words next) ≡ said → IsPrefix lines read
      → parts_step (in_input read) (number_after past lines) said ≡ Parsed declared → DeclaresParts past (lines ++ next ∷ others) declared others
  gives_by lines next others read (Ok line.Blank) declared is prefix gives = absurd (cc)
  gives_by lines next others read (Ok (line.Header version)) declared is prefix gives = absurd (cc)
  gives_by lines next others read (Ok (line.Part part)) declared is prefix gives = absurd (cc)
  gives_by lines next others read (Ok (line.Delay moments)) declared is prefix gives = absurd (cc)
  gives_by lines next others read (Ok (line.Between name from low high to)) declared is prefix gives = absurd (cc)
  gives_by lines next others read (Ok line.End) declared is prefix gives =
      let same : record { delay = read.delay; parts = read.parts; lines = map (λ (n : ℕ). past + n) read.lines } ≡ declared = cc in
      subst (λ (d : DeclaredParts). DeclaresParts past (lines ++ next ∷ others) d others) same (record {
        plan = lines ++ next ∷ [];
        numbers = read.lines;
        whole = sym (append_assoc lines (next ∷ []) others);
        is_plan = advance lines next (length lines + 1) line.End read refl is prefix;
        numbered = refl;
      })
  gives_by lines next others read (Err kind) declared is prefix gives = absurd (cc)

  -- ---- no line comes
  stops_by : (lines : List (List ℕ)) (read : PlanProgress) (stop : Stop) → IsPrefix lines read → RefusesFormat IsPlanFault past lines (NoLine stop) (parts_reader.stops (in_input read) (number_after past lines) stop)
  stops_by lines read InputEnded prefix = (missing read.section, refl, ends_too_soon lines read prefix)
  stops_by lines read LongStop prefix = refl
  stops_by lines read MuchStop prefix = refl

  keeps_to : KeepsTo parts_reader initial_plan past (parts_texts past)
  keeps_to = record {
    longest = λ lines state leads. let there = stands lines state leads in ((there.0, there.1), refl);
    stopped = λ lines state stop leads.
        let there = stands lines state leads in
        ((there.0, there.1), subst (λ (text : PlanText). RefusesFormat IsPlanFault past lines (NoLine stop) (parts_reader.stops text (number_after past lines) stop)) (sym there.2) (stops_by lines there.0 stop there.1));
    refused = λ lines state next fault leads refuses.
        let there = stands lines state leads in
        refused_by lines next there.0 (plan_line_in there.0.section (words next)) fault refl there.1 (subst (λ (text : PlanText). parts_reader.reads text (number_after past lines) next ≡ Refused fault) there.2 refuses);
    gives = λ lines state next declared others leads gives.
        let there = stands lines state leads in
        gives_by lines next others there.0 (plan_line_in there.0.section (words next)) declared refl there.1 (subst (λ (text : PlanText). parts_reader.reads text (number_after past lines) next ≡ Parsed declared) there.2 gives);
  }

  -- ---- the grammar says one thing
  one_fault : (lines : List (List ℕ)) (next : Next) (a b : Fault) → RefusesFormat IsPlanFault past lines next a → RefusesFormat IsPlanFault past lines next b → a ≡ b
  one_fault lines (Line next) a b (k, at, is) (l, also, too) =
      at ∙ (ap (λ (kind : FormatKind). Format (number_after past lines) kind) (fault_kind (lines ++ next ∷ []) (length lines + 1) k l (is []) (too [])) ∙ sym also)
  one_fault lines (NoLine InputEnded) a b (k, at, is) (l, also, too) =
      at ∙ (ap (λ (kind : FormatKind). Format (number_after past lines) kind) (fault_kind lines (length lines + 1) k l is too) ∙ sym also)
  one_fault lines (NoLine LongStop) a b is also = is ∙ sym also
  one_fault lines (NoLine MuchStop) a b is also = is ∙ sym also

  wanted_not_refused : (prefix : List (List ℕ)) (next : List ℕ) (others : List (List ℕ)) (longest : ℕ) (fault : Fault) → (parts_texts past).longest (prefix ++ next ∷ others) longest → (parts_texts past).refuses prefix (Line next) fault → ⊥
  wanted_not_refused prefix next others longest fault ((read, is), size) (wanted, (kind, at, has)) =
      let same = fault_line (prefix ++ next ∷ others) (fault_after prefix kind) (fault_after (prefix ++ next ∷ others) (missing read.section)) (has others) (ends_too_soon (prefix ++ next ∷ others) read is) in
      let long = length-append prefix (next ∷ others) in
      omega (arith, same, long)

  once : IsOnce (parts_texts past)
  once = record {
    one_value = same_parts past;
    one_longest = λ lines a b is also. is.1 ∙ sym also.1;
    one_fault = λ lines next a b is also. one_fault lines next a b is.1 also.1;
    refused_wanted = λ lines next fault refuses. (most_line, (refuses.0, refl));
    value_not_wanted = λ lines declared rest longest is wanted. no_fault past lines declared rest (fault_after lines (missing wanted.0.0.section)) is (ends_too_soon lines wanted.0.0 wanted.0.1);
    value_not_refused = λ prefix next others declared rest fault is refuses. no_fault past (prefix ++ next ∷ others) declared rest (fault_after prefix refuses.1.0) is (refuses.1.2 others);
    wanted_not_refused = wanted_not_refused;
  }

  -- the parts of plan texts are read by their grammar
  pub parts_by : ReadsBy parts_reader initial_plan past (parts_texts past)
  parts_by = reads_by parts_reader initial_plan past (parts_texts past) keeps_to once

  -- and plan texts by that with the test of the parts
  pub plan_by : ReadsBy plan_reader (record { text = initial_plan; test = record {} }) past (plan_texts past)
  plan_by = tested_by parts_reader parts_tests (record {}) initial_plan past (parts_texts past) parts_by

  -- ---- a plan text declares the network that its parts build
  made_of : (lines : List ℕ) (answer : Result Plan BuildFault) (net : Plan) → built_by lines answer ≡ Ok net → answer ≡ Ok net
  made_of lines (Ok made) net is = let same : made ≡ net = cc in ap Ok same
  made_of lines (Err why) net is = absurd (cc)

  pub declares_network : (lines : List (List ℕ)) (net : Plan) (rest : List (List ℕ)) → (plan_texts past).declares lines net rest ↔ DeclaresNetwork lines net rest
  declares_network lines net rest = (to, from)
    where
      to : (plan_texts past).declares lines net rest → DeclaresNetwork lines net rest
      to passes = record {
        plan = passes.declared.plan;
        delay = passes.value.delay;
        parts = passes.value.parts;
        numbers = passes.declared.numbers;
        whole = passes.declared.whole;
        is_plan = passes.declared.is_plan;
        builds = made_of passes.value.lines (declared_net passes.value.delay passes.value.parts) net passes.passes;
      }

      from : DeclaresNetwork lines net rest → (plan_texts past).declares lines net rest
      from is = record {
        value = record { delay = is.delay; parts = is.parts; lines = map (λ (n : ℕ). past + n) is.numbers };
        text = is.plan;
        whole = is.whole;
        declared = record { plan = is.plan; numbers = is.numbers; whole = is.whole; is_plan = is.is_plan; numbered = refl };
        passes = ap (built_by (map (λ (n : ℕ). past + n) is.numbers)) is.builds;
      }

  -- ---- a plan text is refused at its end by its first part that is refused, in the line of that
  numbered : (version : PlanVersion) (stage : PlanStage) (lines : List (List ℕ)) (delay : ℕ) (parts : List Part) (numbers : List ℕ) → IsPartialPlan version stage lines delay parts numbers → length numbers ≡ length parts
  numbered version stage lines delay parts numbers (header blanks first all is) = refl
  numbered version stage lines delay parts numbers (blank same before next d ps ns begins is) = numbered version stage before delay parts numbers begins
  numbered version stage lines delay parts numbers (delays before next was d ps ns begins is) = numbered version Opened before was parts numbers begins
  numbered version stage lines delay parts numbers (declares was before next d ps more ns begins declared) =
      let so_far = numbered version was before delay ps ns begins in
      let marks : length (map (λ (part : Part). length before + 1) more) ≡ length more = length-map more (λ (part : Part). length before + 1) in
      let a = length-append ps more in
      let b = length-append ns (map (λ (part : Part). length before + 1) more) in
      omega (arith, so_far, marks, a, b)

  -- a part that is refused, and the number of its line in the input
  record RefusedAt (parts : List Part) (numbers : List ℕ) (why : BuildFault) : Type 0 where
    number : ℕ
    part : IsRefusedPart parts numbers number why
    reported : line_of_part (map (λ (n : ℕ). past + n) numbers) why ≡ past + number

  refused_at : (parts : List Part) (numbers : List ℕ) (why : BuildFault) (place : Option ℕ) → built parts ≡ Err why → length numbers ≡ length parts → place_of why ≡ place → RefusedAt parts numbers why
  refused_at parts numbers why None refuses count is = absurd (no_memory parts why refuses is)
  refused_at parts numbers why (Some place) refuses count is =
      let within = built_place parts why place refuses is in
      let number : ℕ = get_or numbers (place - 1) 0 in
      let found : slice_get numbers (place - 1) ≡ Some (get_or numbers (place - 1) 0) = slice_get-get_or numbers (place - 1) 0 (omega (arith, within.0, within.1, count)) in
      let shifted : slice_get (map (λ (n : ℕ). past + n) numbers) (place - 1) ≡ Some (past + get_or numbers (place - 1) 0) = slice_get-map (λ (n : ℕ). past + n) numbers (place - 1) ∙ ap (option_map (λ (n : ℕ). past + n)) found in
      let reported : line_of_part (map (λ (n : ℕ). past + n) numbers) why ≡ past + get_or numbers (place - 1) 0 = ap (λ (p : Option ℕ). unwrap_or (option_and_then (λ at. slice_get (map (λ (n : ℕ). past + n) numbers) (at - 1)) p) 0) is
      ∙ ap (λ (l : Option ℕ). unwrap_or l 0) shifted in
      let next : place ≡ place - 1 + 1 = omega (arith, within.0) in
      record {
        number = number;
        part = record { index = place - 1; refused = refuses; place = is ∙ ap Some next; at_line = found };
        reported = reported;
      }

  -- what is refused of parts
  record RefusedBy (lines : List ℕ) (parts : List Part) (fault : Fault) : Type 0 where
    why : BuildFault
    refused : built parts ≡ Err why
    reported : PartFault (line_of_part lines why) why ≡ fault

  refused_by_parts : (lines : List ℕ) (delay : ℕ) (parts : List Part) (answer : Result Plan BuildFault) (fault : Fault) → built parts ≡ answer → built_by lines (delayed delay answer) ≡ Err fault → RefusedBy lines parts fault
  refused_by_parts lines delay parts (Ok net) fault is refuses = absurd (cc)
  refused_by_parts lines delay parts (Err why) fault is refuses = record { why = why; refused = is; reported = (let same : PartFault (line_of_part lines why) why ≡ fault = cc in same) }

  pub refuses_plan : (lines : List (List ℕ)) (next : List ℕ) (fault : Fault) → FailsTest (parts_texts past) parts_tests (record {}) past lines (Line next) fault → RefusesPlan past lines (Line next) fault
  refuses_plan lines next fault fails =
      let is = fails.declared in
      let same : next ≡ fails.line = (let comes = fails.comes in cc) in
      let by = refused_by_parts fails.value.lines fails.value.delay fails.value.parts (built fails.value.parts) fault refl fails.fails in
      let at = refused_at fails.value.parts is.numbers by.why (place_of by.why) by.refused (numbered is.is_plan.version is.is_plan.stage is.is_plan.initial fails.value.delay fails.value.parts is.numbers is.is_plan.begins) refl in
      let plan : is.plan ≡ lines ++ next ∷ [] = sym (append-nil is.plan) ∙ (sym is.whole ∙ ap (λ (l : List ℕ). lines ++ l ∷ []) (sym same)) in
      let reported : line_of_part fails.value.lines by.why ≡ past + at.number = ap (λ (ns : List ℕ). line_of_part ns by.why) is.numbered ∙ at.reported in (
        at.number,
        by.why,
        sym by.reported ∙ ap (λ (n : ℕ). PartFault n by.why) reported,
        λ others. (
          record {
            plan = is.plan;
            rest = others;
            delay = fails.value.delay;
            parts = fails.value.parts;
            numbers = is.numbers;
            whole = sym (append_assoc lines (next ∷ []) others) ∙ ap (λ (ls : List (List ℕ)). ls ++ others) (sym plan);
            is_plan = is.is_plan;
            part = at.part;
          },
          ap length plan ∙ sym (one_more lines next),
        ),
      )
