-- A text and another after it are read as their grammars say.
use Rattle.std.proofs.Common.{◌≡◌, ℕ, ◌+◌, List, [], ◌∷◌, ◌++◌, length, refl, sym, ap, ◌∙◌, subst, arith, inl, inr, append_assoc}
use Rattle.std.proofs.lemmas.List.{length-append}
use Rattle.command_engine.specs.Grammars.{Grammar, Next, Line, NoLine, Leads, FaultOf, ReadsText, ReadsBy, language, number_after}
use Rattle.command_engine.specs.Pairs.{first_step, second_step, then_reader, Divides, then_grammar}
use Rattle.command_engine.specs.Readers.{Reader}
use Rattle.command_engine.specs.declared.pairs.Then.{Then}
use Rattle.command_engine.specs.declared.pairs.Then.TheVariants.{First, Second}
use Rattle.command_engine.specs.declared.line_texts.Parse.{Parse}
use Rattle.command_engine.specs.declared.line_texts.Parse.TheVariants.{Continue, Parsed, Refused}

module _ {A V B W F : Type 0} (first : Reader A V F) (second : Reader B W F) (b : B) where
  abbrev pair : Reader (Then A V B) (V × W) F
  pair = then_reader first second

  -- ---- the second text
  abbrev StandsSecond : V → B → ℕ → List (List ℕ) → Then A V B → Type 0
  StandsSecond value from past lines to = (there : B) × (to ≡ Second value there) × Leads second from past lines there

  -- and it does if the lines lead to it
  abbrev IfLeadsStands : V → B → ℕ → List (List ℕ) → Then A V B → Type 0
  IfLeadsStands value from past lines to = Leads pair (Second value from) past lines to → StandsSecond value from past lines to

  second_on : (value : V) (from : B) (past : ℕ) (line : List ℕ) (lines : List (List ℕ)) (step : Parse B W F) (next to : Then A V B) → second.reads from (past + 1) line ≡ step → second_step {A = A} value step ≡ Continue next
      → Leads pair next (past + 1) lines to
      → ((on : B) → IfLeadsStands value on (past + 1) lines to) → StandsSecond value from past (line ∷ lines) to
  second_on value from past line lines (Continue on) next to reads goes leads more =
      let same : next ≡ Second value on = cc in
      let there = more on (subst (λ (s : Then A V B). Leads pair s (past + 1) lines to) same leads) in
      (there.0, there.1, (on, reads, there.2))
  second_on value from past line lines (Parsed other) next to reads goes leads more = absurd (cc)
  second_on value from past line lines (Refused fault) next to reads goes leads more = absurd (cc)

  stands_second : (lines : List (List ℕ)) (value : V) (from : B) (past : ℕ) (to : Then A V B) → Leads pair (Second value from) past lines to → StandsSecond value from past lines to
  stands_second [] value from past to leads = (from, sym leads, refl)
  stands_second (line ∷ lines) value from past to leads =
      second_on value from past line lines (second.reads from (past + 1) line) leads.0 to refl leads.1 leads.2 (λ on more. stands_second lines value on (past + 1) to more)

  leads_second : (lines : List (List ℕ)) (value : V) (from : B) (past : ℕ) (to : B) → Leads second from past lines to → Leads pair (Second value from) past lines (Second value to)
  leads_second [] value from past to leads = ap (Second value) leads
  leads_second (line ∷ lines) value from past to leads = (Second value leads.0, ap (second_step {A = A} value) leads.1, leads_second lines value leads.0 (past + 1) to leads.2)

  -- ---- the first text, and the second after it
  -- the lines lead to the second text: they are the first text and lines that lead on in the second
  pub record Through (from : A) (past : ℕ) (lines : List (List ℕ)) (value : V) (to : B) : Type 0 where
    pub prefix : List (List ℕ)
    pub last : List ℕ
    pub rest : List (List ℕ)
    pub state : A
    pub whole : lines ≡ prefix ++ last ∷ rest
    pub leads : Leads first from past prefix state
    pub gives : first.reads state (number_after past prefix) last ≡ Parsed value
    pub after : Leads second b (number_after past prefix) rest to

  data Stands (from : A) (past : ℕ) (lines : List (List ℕ)) (to : Then A V B) : Type 0 where
    in_first : (there : A) → to ≡ First there b → Leads first from past lines there → Stands from past lines to
    in_second : (value : V) (there : B) → to ≡ Second value there → Through from past lines value there → Stands from past lines to

  -- one line more before
  through_on : (from on : A) (past : ℕ) (line : List ℕ) (lines : List (List ℕ)) (value : V) (to : B) → first.reads from (past + 1) line ≡ Continue on → Through on (past + 1) lines value to → Through from past (line ∷ lines) value to
  through_on from on past line lines value to reads through =
      let number : number_after (past + 1) through.prefix ≡ number_after past (line ∷ through.prefix) = omega arith in
      record {
        prefix = line ∷ through.prefix;
        last = through.last;
        rest = through.rest;
        state = through.state;
        whole = ap (λ (ls : List (List ℕ)). line ∷ ls) through.whole;
        leads = (on, reads, through.leads);
        gives = subst (λ (n : ℕ). first.reads through.state n through.last ≡ Parsed value) number through.gives;
        after = subst (λ (n : ℕ). Leads second b n through.rest to) number through.after;
      }

  stands_on : (from on : A) (past : ℕ) (line : List ℕ) (lines : List (List ℕ)) (to : Then A V B) → first.reads from (past + 1) line ≡ Continue on → Stands on (past + 1) lines to → Stands from past (line ∷ lines) to
  stands_on from on past line lines to reads (in_first there same leads) = in_first there same (on, reads, leads)
  stands_on from on past line lines to reads (in_second value there same through) = in_second value there same (through_on from on past line lines value there reads through)

  first_number : (past : ℕ) → past + 1 ≡ number_after past []
  first_number past = omega arith

  first_on : (from : A) (past : ℕ) (line : List ℕ) (lines : List (List ℕ)) (step : Parse A V F) (next to : Then A V B) → first.reads from (past + 1) line ≡ step → first_step {W = W} b step ≡ Continue next
      → Leads pair next (past + 1) lines to
      → ((on : A) → Leads pair (First on b) (past + 1) lines to → Stands on (past + 1) lines to) → Stands from past (line ∷ lines) to
  first_on from past line lines (Continue on) next to reads goes leads more =
      let same : next ≡ First on b = cc in
      stands_on from on past line lines to reads (more on (subst (λ (s : Then A V B). Leads pair s (past + 1) lines to) same leads))
  first_on from past line lines (Parsed value) next to reads goes leads more =
      let same : next ≡ Second value b = cc in
      let there = stands_second lines value b (past + 1) to (subst (λ (s : Then A V B). Leads pair s (past + 1) lines to) same leads) in
      in_second value there.0 there.1 (record {
        prefix = [];
        last = line;
        rest = lines;
        state = from;
        whole = refl;
        leads = refl;
        gives = subst (λ (n : ℕ). first.reads from n line ≡ Parsed value) (first_number past) reads;
        after = subst (λ (n : ℕ). Leads second b n lines there.0) (first_number past) there.2;
      })
  first_on from past line lines (Refused fault) next to reads goes leads more = absurd (cc)

  stands : (lines : List (List ℕ)) (from : A) (past : ℕ) (to : Then A V B) → Leads pair (First from b) past lines to → Stands from past lines to
  stands [] from past to leads = in_first from (sym leads) refl
  stands (line ∷ lines) from past to leads =
      first_on from past line lines (first.reads from (past + 1) line) leads.0 to refl leads.1 leads.2 (λ on more. stands lines on (past + 1) to more)

  leads_first : (lines : List (List ℕ)) (from : A) (past : ℕ) (to : A) → Leads first from past lines to → Leads pair (First from b) past lines (First to b)
  leads_first [] from past to leads = ap (λ (s : A). First s b) leads
  leads_first (line ∷ lines) from past to leads = (First leads.0 b, ap (first_step b) leads.1, leads_first lines leads.0 (past + 1) to leads.2)

  leads_through : (prefix : List (List ℕ)) (from state : A) (past : ℕ) (last : List ℕ) (rest : List (List ℕ)) (value : V) (to : B) → Leads first from past prefix state → first.reads state (number_after past prefix) last ≡ Parsed value
      → Leads second b (number_after past prefix) rest to
      → Leads pair (First from b) past (prefix ++ last ∷ rest) (Second value to)
  leads_through [] from state past last rest value to leads gives after =
      let reads : first.reads from (past + 1) last ≡ Parsed value = subst (λ (s : A). first.reads s (past + 1) last ≡ Parsed value) (sym leads) (subst (λ (n : ℕ). first.reads state n last ≡ Parsed value) (sym (first_number past)) gives) in
      (Second value b, ap (first_step b) reads, leads_second rest value b (past + 1) to (subst (λ (n : ℕ). Leads second b n rest to) (sym (first_number past)) after))
  leads_through (line ∷ prefix) from state past last rest value to leads gives after =
      let number : number_after past (line ∷ prefix) ≡ number_after (past + 1) prefix = omega arith in (
        First leads.0 b,
        ap (first_step b) leads.1,
        leads_through prefix leads.0 state (past + 1) last rest value to leads.2 (subst (λ (n : ℕ). first.reads state n last ≡ Parsed value) number gives)
            (subst (λ (n : ℕ). Leads second b n rest to) number after),
      )

  -- ---- what a state of the pair brings
  first_gives : (step : Parse A V F) (value : V × W) → first_step b step ≡ Parsed value → ⊥
  first_gives (Continue text) value gives = absurd (cc)
  first_gives (Parsed other) value gives = absurd (cc)
  first_gives (Refused fault) value gives = absurd (cc)

  first_refuses : (step : Parse A V F) (fault : F) → first_step {W = W} b step ≡ Refused fault → step ≡ Refused fault
  first_refuses (Continue text) fault refused = absurd (cc)
  first_refuses (Parsed value) fault refused = absurd (cc)
  first_refuses (Refused other) fault refused = let same : other ≡ fault = cc in ap Refused same

  second_gives : (known : V) (step : Parse B W F) (value : V × W) → second_step {A = A} known step ≡ Parsed value → (known ≡ value.0) × (step ≡ Parsed value.1)
  second_gives known (Continue text) value gives = absurd (cc)
  second_gives known (Parsed other) value gives =
      let same : (known, other) ≡ value = cc in
      (ap (λ (v : V × W). v.0) same, ap Parsed (ap (λ (v : V × W). v.1) same))
  second_gives known (Refused fault) value gives = absurd (cc)

  second_refuses : (known : V) (step : Parse B W F) (fault : F) → second_step {A = A} known step ≡ Refused fault → step ≡ Refused fault
  second_refuses known (Continue text) fault refused = absurd (cc)
  second_refuses known (Parsed value) fault refused = absurd (cc)
  second_refuses known (Refused other) fault refused = let same : other ≡ fault = cc in ap Refused same

  first_fault : (state : A) (number : ℕ) (next : Next) (fault : F) → FaultOf pair (First state b) number next fault → FaultOf first state number next fault
  first_fault state number (Line line) fault is = first_refuses (first.reads state number line) fault is
  first_fault state number (NoLine stop) fault is = is

  fault_first : (state : A) (number : ℕ) (next : Next) (fault : F) → FaultOf first state number next fault → FaultOf pair (First state b) number next fault
  fault_first state number (Line line) fault is = ap (first_step b) is
  fault_first state number (NoLine stop) fault is = is

  second_fault : (value : V) (state : B) (number : ℕ) (next : Next) (fault : F) → FaultOf pair (Second value state) number next fault → FaultOf second state number next fault
  second_fault value state number (Line line) fault is = second_refuses value (second.reads state number line) fault is
  second_fault value state number (NoLine stop) fault is = is

  fault_second : (value : V) (state : B) (number : ℕ) (next : Next) (fault : F) → FaultOf second state number next fault → FaultOf pair (Second value state) number next fault
  fault_second value state number (Line line) fault is = ap (second_step {A = A} value) is
  fault_second value state number (NoLine stop) fault is = is

  -- ---- the grammars
  module _ (a : A) (past : ℕ) (one : Grammar V F) (two : ℕ → Grammar W F) (by : ReadsBy first a past one) (other : (count : ℕ) → ReadsBy second b count (two count)) where
    abbrev both : Grammar (V × W) F
    both = then_grammar one two past

    abbrev DividesBy : List (List ℕ) → V → Type 0
    DividesBy lines value = Divides one two past lines value

    -- how many lines stand before the second text
    before_second : (lines : List (List ℕ)) (value : V) (divided : DividesBy lines value) (text : ReadsText first a past lines value divided.rest) → past + length divided.text ≡ number_after past text.prefix
    before_second lines value divided text =
        let sizes = ap length (sym divided.whole ∙ text.whole) in
        let x = length-append divided.text divided.rest in
        let y = length-append text.prefix (text.last ∷ divided.rest) in
        omega (arith, sizes, x, y)

    -- if the second text is read
    leads_divided : (lines : List (List ℕ)) (value : V) (divided : DividesBy lines value) (to : B) → Leads second b (past + length divided.text) divided.rest to → Leads pair (First a b) past lines (Second value to)
    leads_divided lines value divided to leads =
        let text = (by.declares lines value divided.rest).0 divided.declared in
        let number = before_second lines value divided text in
        subst (λ (ls : List (List ℕ)). Leads pair (First a b) past ls (Second value to)) (sym text.whole)
        (leads_through text.prefix a text.state past text.last divided.rest value to text.leads text.gives (subst (λ (n : ℕ). Leads second b n divided.rest to) number leads))

    -- lines that lead to the second text divide
    abbrev divides : (lines more : List (List ℕ)) (value : V) (to : B) → Through a past lines value to → DividesBy (lines ++ more) value
    divides lines more value to through =
        let text : List (List ℕ) = through.prefix ++ through.last ∷ [] in
        let join : (through.prefix ++ through.last ∷ []) ++ (through.rest ++ more) ≡ through.prefix ++ through.last ∷ (through.rest ++ more) = append_assoc through.prefix (through.last ∷ []) (through.rest ++ more) in
        let all : lines ++ more ≡ through.prefix ++ through.last ∷ (through.rest ++ more) = ap (λ (ls : List (List ℕ)). ls ++ more) through.whole ∙ append_assoc through.prefix (through.last ∷ through.rest) more in
        record {
          text = text;
          rest = through.rest ++ more;
          whole = all ∙ sym join;
          declared = (by.declares (lines ++ more) value (through.rest ++ more)).1 (record {
            prefix = through.prefix;
            last = through.last;
            state = through.state;
            whole = all;
            leads = through.leads;
            gives = through.gives;
          });
        }

    after_divided : (lines more : List (List ℕ)) (value : V) (to : B) (through : Through a past lines value to) → number_after past through.prefix ≡ past + length (divides lines more value to through).text
    after_divided lines more value to through = let long = length-append through.prefix (through.last ∷ []) in omega (arith, long)

    -- the number of the line after lines that lead to the second text
    after_through : (lines : List (List ℕ)) (value : V) (to : B) (through : Through a past lines value to) → number_after past lines ≡ number_after (number_after past through.prefix) through.rest
    after_through lines value to through =
        let sizes = ap length through.whole in
        let x = length-append through.prefix (through.last ∷ through.rest) in
        omega (arith, sizes, x)

    after_divides : (lines : List (List ℕ)) (value : V) (divided : DividesBy lines value) → number_after (past + length divided.text) divided.rest ≡ number_after past lines
    after_divides lines value divided =
        let sizes = ap length divided.whole in
        let x = length-append divided.text divided.rest in
        omega (arith, sizes, x)

    -- ---- values
    declares_to : (lines : List (List ℕ)) (value : V × W) (rest : List (List ℕ)) → both.declares lines value rest → ReadsText pair (First a b) past lines value rest
    declares_to lines value rest (divided, is) =
        let text = (by.declares lines value.0 divided.rest).0 divided.declared in
        let next = ((other (past + length divided.text)).declares divided.rest value.1 rest).0 is in
        let number = before_second lines value.0 divided text in
        let prefix : List (List ℕ) = text.prefix ++ text.last ∷ next.prefix in
        let long = length-append text.prefix (text.last ∷ next.prefix) in
        let at : number_after (past + length divided.text) next.prefix ≡ number_after past (text.prefix ++ text.last ∷ next.prefix) = omega (arith, number, long) in
        record {
          prefix = prefix;
          last = next.last;
          state = Second value.0 next.state;
          whole = text.whole ∙ (ap (λ (ls : List (List ℕ)). text.prefix ++ text.last ∷ ls) next.whole ∙ sym (append_assoc text.prefix (text.last ∷ next.prefix) (next.last ∷ rest)));
          leads = leads_through text.prefix a text.state past text.last next.prefix value.0 next.state text.leads text.gives (subst (λ (n : ℕ). Leads second b n next.prefix next.state) number next.leads);
          gives = ap (second_step {A = A} value.0) (subst (λ (n : ℕ). second.reads next.state n next.last ≡ Parsed value.1) at next.gives);
        }

    declares_by : (lines : List (List ℕ)) (value : V × W) (rest : List (List ℕ)) (text : ReadsText pair (First a b) past lines value rest) → Stands a past text.prefix text.state → both.declares lines value rest
    declares_by lines value rest text (in_first there same leads) =
        absurd (first_gives (first.reads there (number_after past text.prefix) text.last) value (subst (λ (s : Then A V B). pair.reads s (number_after past text.prefix) text.last ≡ Parsed value) same text.gives))
    declares_by lines value rest text (in_second known there same through) =
        let gives = second_gives known (second.reads there (number_after past text.prefix) text.last) value (subst (λ (s : Then A V B). pair.reads s (number_after past text.prefix) text.last ≡ Parsed value) same text.gives) in
        let divided = divides text.prefix (text.last ∷ rest) known there through in
        let number = after_divided text.prefix (text.last ∷ rest) known there through in
        let at : number_after past text.prefix ≡ number_after (past + length divided.text) through.rest = after_through text.prefix known there through ∙ ap (λ (n : ℕ). number_after n through.rest) number in
        let read : ReadsText second b (past + length divided.text) (through.rest ++ text.last ∷ rest) value.1 rest = record {
          prefix = through.rest;
          last = text.last;
          state = there;
          whole = refl;
          leads = subst (λ (n : ℕ). Leads second b n through.rest there) number through.after;
          gives = subst (λ (n : ℕ). second.reads there n text.last ≡ Parsed value.1) at gives.1;
        } in
        let is : both.declares (text.prefix ++ text.last ∷ rest) (known, value.1) rest = (divided, ((other (past + length divided.text)).declares divided.rest value.1 rest).1 read) in
        subst (λ (ls : List (List ℕ)). both.declares ls value rest) (sym text.whole) (subst (λ (v : V). both.declares (text.prefix ++ text.last ∷ rest) (v, value.1) rest) gives.0 is)

    -- ---- lines that are wanted
    longest_to : (lines : List (List ℕ)) (longest : ℕ) → both.longest lines longest → (language pair (First a b) past).longest lines longest
    longest_to lines longest (inl wanted) =
        let there = (by.longest lines longest).0 wanted in
        (First there.0 b, leads_first lines a past there.0 there.1, there.2)
    longest_to lines longest (inr (value, divided, wanted)) =
        let there = ((other (past + length divided.text)).longest divided.rest longest).0 wanted in
        (Second value there.0, leads_divided lines value divided there.0 there.1, there.2)

    -- lines that lead to the second text, as they stand
    divided_here : (lines : List (List ℕ)) (value : V) (to : B) → Through a past lines value to → (divided : DividesBy lines value) × Leads second b (past + length divided.text) divided.rest to
    divided_here lines value to through =
        let long = length-append through.prefix (through.last ∷ []) in
        let number : number_after past through.prefix ≡ past + length (through.prefix ++ through.last ∷ []) = omega (arith, long) in
        let join : (through.prefix ++ through.last ∷ []) ++ through.rest ≡ through.prefix ++ through.last ∷ through.rest = append_assoc through.prefix (through.last ∷ []) through.rest in
        let divided : DividesBy lines value = record {
          text = through.prefix ++ through.last ∷ [];
          rest = through.rest;
          whole = through.whole ∙ sym join;
          declared = (by.declares lines value through.rest).1 (record {
            prefix = through.prefix;
            last = through.last;
            state = through.state;
            whole = through.whole;
            leads = through.leads;
            gives = through.gives;
          });
        } in
        (divided, subst (λ (n : ℕ). Leads second b n through.rest to) number through.after)

    longest_by : (lines : List (List ℕ)) (longest : ℕ) (state : Then A V B) → Stands a past lines state → pair.longest state ≡ longest → both.longest lines longest
    longest_by lines longest state (in_first there same leads) is =
        inl ((by.longest lines longest).1 (there, leads, subst (λ (s : Then A V B). pair.longest s ≡ longest) same is))
    longest_by lines longest state (in_second value there same through) is =
        let here = divided_here lines value there through in
        inr (value, here.0, ((other (past + length here.0.text)).longest here.0.rest longest).1 (there, here.1, subst (λ (s : Then A V B). pair.longest s ≡ longest) same is))

    -- ---- faults
    refuses_to : (lines : List (List ℕ)) (next : Next) (fault : F) → both.refuses lines next fault → (language pair (First a b) past).refuses lines next fault
    refuses_to lines next fault (inl refuses) =
        let there = (by.refuses lines next fault).0 refuses in
        (First there.0 b, leads_first lines a past there.0 there.1, fault_first there.0 (number_after past lines) next fault there.2)
    refuses_to lines next fault (inr (value, divided, refuses)) =
        let there = ((other (past + length divided.text)).refuses divided.rest next fault).0 refuses in
        let number = after_divides lines value divided in
        (Second value there.0, leads_divided lines value divided there.0 there.1, fault_second value there.0 (number_after past lines) next fault (subst (λ (n : ℕ). FaultOf second there.0 n next fault) number there.2))

    refuses_by : (lines : List (List ℕ)) (next : Next) (fault : F) (state : Then A V B) → Stands a past lines state → FaultOf pair state (number_after past lines) next fault → both.refuses lines next fault
    refuses_by lines next fault state (in_first there same leads) is =
        inl ((by.refuses lines next fault).1 (there, leads, first_fault there (number_after past lines) next fault (subst (λ (s : Then A V B). FaultOf pair s (number_after past lines) next fault) same is)))
    refuses_by lines next fault state (in_second value there same through) is =
        let here = divided_here lines value there through in
        let number = after_divides lines value here.0 in
        let fails = second_fault value there (number_after past lines) next fault (subst (λ (s : Then A V B). FaultOf pair s (number_after past lines) next fault) same is) in
        inr (value, here.0, ((other (past + length here.0.text)).refuses here.0.rest next fault).1 (there, here.1, subst (λ (n : ℕ). FaultOf second there n next fault) (sym number) fails))

    pub pair_by : ReadsBy pair (First a b) past both
    pair_by = record {
      declares = λ lines value rest. (declares_to lines value rest, λ text. declares_by lines value rest text (stands text.prefix a past text.state text.leads));
      longest = λ lines longest. (longest_to lines longest, λ there. longest_by lines longest there.0 (stands lines a past there.0 there.1) there.2);
      refuses = λ lines next fault. (refuses_to lines next fault, λ there. refuses_by lines next fault there.0 (stands lines a past there.0 there.1) there.2);
    }
