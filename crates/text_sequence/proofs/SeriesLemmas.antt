-- A series of texts is read by its grammar.
use Rattle.std.proofs.Common.{◌≡◌, inl, inr, ℕ, ◌+◌, List, [], ◌∷◌, ◌++◌, length, refl, sym, ap, ◌∙◌, subst, arith}
use Rattle.std.proofs.lemmas.List.{length-append}
use Rattle.command_engine.specs.Grammars.{Grammar, Next, Line, NoLine, Leads, FaultOf, ReadsText, ReadsBy, number_after}
use Rattle.command_engine.specs.Readers.{Reader}
use Rattle.command_engine.specs.declared.line_texts.Parse.{Parse}
use Rattle.command_engine.specs.declared.line_texts.Parse.TheVariants.{Continue, Parsed, Refused}
use Rattle.command_engine.proofs.LeadLemmas.{leads_next, leads_one}
use Rattle.text_sequence.specs.Between.{Between as Lines}
use Rattle.text_sequence.specs.Series.{opened, read_within, initial_series, series_reader}
use Rattle.text_sequence.specs.declared.separators.Separator.{Separator}
use Rattle.text_sequence.specs.declared.separators.Separator.TheVariants.{Passes, Opens, Closes, Refuses}
use Rattle.text_sequence.specs.declared.series.Series.{Series}
use Rattle.text_sequence.specs.declared.series.Series.TheVariants.{Between, Within}
use Rattle.text_sequence.specs.SeriesGrammar.{Reached, Past, Inside, LeadsOn, LinesLead, MayHave, IsFaulty, IsSeries, series_texts}

-- the number of the line after those of the text that is read
number_within : (number past : ℕ) (text : List (List ℕ)) → number ≡ past + length text → number + 1 ≡ number_after past text
number_within number past text is = ap (λ (n : ℕ). n + 1) is

number_more : (number past : ℕ) (text : List (List ℕ)) (line : List ℕ) → number ≡ past + length text → number + 1 ≡ past + length (text ++ line ∷ [])
number_more number past text line is = let long = length-append text (line ∷ []) in omega (arith, is, long)

end_same : (a b : List (List ℕ)) (x y : List ℕ) → a ++ x ∷ [] ≡ b ++ y ∷ [] → (a ≡ b) × (x ≡ y)
end_same [] [] x y same = (refl, cc same)
end_same [] (other ∷ []) x y same = absurd (cc same)
end_same [] (other ∷ one ∷ b) x y same = absurd (cc same)
end_same (line ∷ []) [] x y same = absurd (cc same)
end_same (line ∷ one ∷ a) [] x y same = absurd (cc same)
end_same (line ∷ a) (other ∷ b) x y same =
    let head : line ≡ other = cc same in
    let tail : a ++ x ∷ [] ≡ b ++ y ∷ [] = cc same in
    let on = end_same a b x y tail in
    (ap (λ (ls : List (List ℕ)). line ∷ ls) on.0 ∙ ap (λ (l : List ℕ). l ∷ b) head, on.1)

module _ {S V F : Type 0} (inner : Reader S V F) where
  leads_last : (text : List (List ℕ)) (from to : S) (past : ℕ) (line : List ℕ) → Leads inner from past (text ++ line ∷ []) to
      → (middle : S) × Leads inner from past text middle × (inner.reads middle (number_after past text) line ≡ Continue to)
  leads_last [] from to past line (next, reads, same) =
      let first : past + 1 ≡ number_after past [] = omega arith in
      (from, refl, subst (λ (s : S). inner.reads from (number_after past []) line ≡ Continue s) same (subst (λ (n : ℕ). inner.reads from n line ≡ Continue next) first reads))
  leads_last (other ∷ text) from to past line (next, reads, leads) =
      let on = leads_last text next to (past + 1) line leads in
      let count : number_after (past + 1) text ≡ number_after past (other ∷ text) = omega arith in
      (on.0, (next, reads, on.1), subst (λ (n : ℕ). inner.reads on.0 n line ≡ Continue to) count on.2)

module _ {O K S V F : Type 0} (between : Lines K V F) (inner : Reader S V F) (start : S) (texts : ℕ → Grammar V F) (by : (past : ℕ) → ReadsBy inner start past (texts past)) where
  abbrev series : Reader (Series O K V S) (List (K × V)) F
  series = series_reader between inner start

  -- a state stands where lines lead: within a text, the lines of that lead to it; the number is that of the lines that came
  abbrev StandsFor : ℕ → Series O K V S → Reached K V → Type 0
  StandsFor number (Between held done) (Past other) = done ≡ other
  StandsFor number (Between held done) (Inside other key past text) = ⊥
  StandsFor number (Within held done key state) (Past other) = ⊥
  StandsFor number (Within held done key state) (Inside other name past text) = (done ≡ other) × (key ≡ name) × (number ≡ past + length text) × Leads inner start past text state

  -- ---- one line
  -- if a line leads on, it stands for where that leads
  abbrev StandsNext : ℕ → Reached K V → List ℕ → Series O K V S → Type 0
  StandsNext number here line next = (there : Reached K V) × LeadsOn between texts here (number + 1) line there × StandsFor (number + 1) next there

  opened_on : (held : O) (separator : Separator K F) (done : List (K × V)) (number : ℕ) (line : List ℕ) (next : Series O K V S) → between.opens done (number + 1) line ≡ separator
      → opened between inner start held done separator ≡ Continue next → StandsNext number (Past done) line next
  opened_on held Passes done number line next is goes =
      let same : Between held done ≡ next = cc goes in
      (Past done, inl (is, refl), subst (λ (s : Series O K V S). StandsFor (number + 1) s (Past done)) same refl)
  opened_on held (Opens key) done number line next is goes =
      let same : Within held done key start ≡ next = cc goes in
      let none : number + 1 ≡ number + 1 + 0 = omega arith in
      (Inside done key (number + 1) [], inr (key, is, refl), subst (λ (s : Series O K V S). StandsFor (number + 1) s (Inside done key (number + 1) [])) same (refl, refl, none, refl))
  opened_on held Closes done number line next is goes = absurd (cc goes)
  opened_on held (Refuses fault) done number line next is goes = absurd (cc goes)

  within_on : (held : O) (step : Parse S V F) (done : List (K × V)) (key : K) (past number : ℕ) (text : List (List ℕ)) (state : S) (line : List ℕ) (next : Series O K V S) → inner.reads state (number + 1) line ≡ step
      → number ≡ past + length text → Leads inner start past text state
      → read_within between inner start held done key step ≡ Continue next → StandsNext number (Inside done key past text) line next
  within_on held (Continue on) done key past number text state line next reads is leads goes =
      let same : Within held done key on ≡ next = cc goes in
      let more = leads_next inner start state on past text line leads (subst (λ (n : ℕ). inner.reads state n line ≡ Continue on) (number_within number past text is) reads) in
      let wanted : (texts past).longest (text ++ line ∷ []) (inner.longest on) = ((by past).longest (text ++ line ∷ []) (inner.longest on)).1 (on, more, refl) in (
        Inside done key past (text ++ line ∷ []),
        inl (inner.longest on, wanted, refl),
        subst (λ (s : Series O K V S). StandsFor (number + 1) s (Inside done key past (text ++ line ∷ []))) same (refl, refl, number_more number past text line is, more),
      )
  within_on held (Parsed value) done key past number text state line next reads is leads goes =
      let same : Between held (done ++ (key, value) ∷ []) ≡ next = cc goes in
      let gives : inner.reads state (number_after past text) line ≡ Parsed value = subst (λ (n : ℕ). inner.reads state n line ≡ Parsed value) (number_within number past text is) reads in
      let declared : (texts past).declares (text ++ line ∷ []) value [] = ((by past).declares (text ++ line ∷ []) value []).1 (record { prefix = text; last = line; state = state; whole = refl; leads = leads; gives = gives }) in (
        Past (done ++ (key, value) ∷ []),
        inr (value, declared, refl),
        subst (λ (s : Series O K V S). StandsFor (number + 1) s (Past (done ++ (key, value) ∷ []))) same refl,
      )
  within_on held (Refused fault) done key past number text state line next reads is leads goes = absurd (cc goes)

  one_on : (number : ℕ) (from : Series O K V S) (here : Reached K V) (line : List ℕ) (next : Series O K V S) → StandsFor number from here → series.reads from (number + 1) line ≡ Continue next → StandsNext number here line next
  one_on number (Between held done) (Past other) line next stands reads =
      subst (λ (d : List (K × V)). StandsNext number (Past d) line next) stands (opened_on held (between.opens done (number + 1) line) done number line next refl reads)
  one_on number (Between held done) (Inside other key past text) line next stands reads = absurd stands
  one_on number (Within held done key state) (Past other) line next stands reads = absurd stands
  one_on number (Within held done key state) (Inside other name past text) line next (dones, keys, count, leads) reads =
      subst (λ (d : List (K × V)). StandsNext number (Inside d name past text) line next) dones
      (subst (λ (k : K). StandsNext number (Inside done k past text) line next) keys
      (within_on held (inner.reads state (number + 1) line) done key past number text state line next refl count leads reads))

  -- ---- the lines that lead from the beginning
  lead_to : (lines : List (List ℕ)) (number : ℕ) (from to : Series O K V S) (here : Reached K V) → StandsFor number from here → Leads series from number lines to
      → (there : Reached K V) × LinesLead between texts here number lines there × StandsFor (number + length lines) to there
  lead_to [] number from to here stands leads =
      let none : number ≡ number + 0 = omega arith in
      (here, refl, subst (λ (n : ℕ). StandsFor n to here) none (subst (λ (s : Series O K V S). StandsFor number s here) leads stands))
  lead_to (line ∷ lines) number from to here stands (next, reads, leads) =
      let one = one_on number from here line next stands reads in
      let on = lead_to lines (number + 1) next to one.0 one.2 leads in
      let count : number + 1 + length lines ≡ number + length (line ∷ lines) = omega arith in
      (on.0, (one.0, one.1, on.1), subst (λ (n : ℕ). StandsFor n to on.0) count on.2)

  -- ---- and back
  -- if lines lead on, the state goes on to one that stands there
  abbrev GoesTo : ℕ → Series O K V S → List ℕ → Reached K V → Type 0
  GoesTo number from line there = (next : Series O K V S) × (series.reads from (number + 1) line ≡ Continue next) × StandsFor (number + 1) next there

  past_back : (held : O) (number : ℕ) (done : List (K × V)) (line : List ℕ) (there : Reached K V) → LeadsOn between texts (Past done) (number + 1) line there → GoesTo number (Between held done) line there
  past_back held number done line there (inl (is, same)) = (Between held done, ap (opened between inner start held done) is, subst (λ (r : Reached K V). StandsFor (number + 1) (Between held done) r) (sym same) refl)
  past_back held number done line there (inr (key, is, same)) =
      let none : number + 1 ≡ number + 1 + 0 = omega arith in
      (Within held done key start, ap (opened between inner start held done) is, subst (λ (r : Reached K V). StandsFor (number + 1) (Within held done key start) r) (sym same) (refl, refl, none, refl))

  inside_back : (held : O) (number past : ℕ) (done : List (K × V)) (key : K) (state : S) (text : List (List ℕ)) (line : List ℕ) (there : Reached K V) → number ≡ past + length text → Leads inner start past text state
      → LeadsOn between texts (Inside done key past text) (number + 1) line there
      → GoesTo number (Within held done key state) line there
  inside_back held number past done key state text line there count leads (inl (longest, wanted, same)) =
      let (on, more, is) = ((by past).longest (text ++ line ∷ []) longest).0 wanted in
      let last = leads_last inner text start on past line more in
      let one : last.0 ≡ state = leads_one inner start last.0 state past text last.1 leads in
      let reads : inner.reads state (number + 1) line ≡ Continue on = subst (λ (s : S). inner.reads s (number + 1) line ≡ Continue on) one
      (subst (λ (n : ℕ). inner.reads last.0 n line ≡ Continue on) (sym (number_within number past text count)) last.2) in (
        Within held done key on,
        ap (read_within between inner start held done key) reads,
        subst (λ (r : Reached K V). StandsFor (number + 1) (Within held done key on) r) (sym same) (refl, refl, number_more number past text line count, more),
      )
  inside_back held number past done key state text line there count leads (inr (value, declared, same)) =
      let read = ((by past).declares (text ++ line ∷ []) value []).0 declared in
      let ends = end_same text read.prefix line read.last read.whole in
      let to : Leads inner start past text read.state = subst (λ (ls : List (List ℕ)). Leads inner start past ls read.state) (sym ends.0) read.leads in
      let one : read.state ≡ state = leads_one inner start read.state state past text to leads in
      let numbers : number_after past read.prefix ≡ number + 1 = ap (number_after past) (sym ends.0) ∙ sym (number_within number past text count) in
      let reads : inner.reads state (number + 1) line ≡ Parsed value =
      subst (λ (s : S). inner.reads s (number + 1) line ≡ Parsed value) one
      (subst (λ (l : List ℕ). inner.reads read.state (number + 1) l ≡ Parsed value) (sym ends.1) (subst (λ (n : ℕ). inner.reads read.state n read.last ≡ Parsed value) numbers read.gives)) in
      (Between held (done ++ (key, value) ∷ []), ap (read_within between inner start held done key) reads, subst (λ (r : Reached K V). StandsFor (number + 1) (Between held (done ++ (key, value) ∷ [])) r) (sym same) refl)

  one_back : (number : ℕ) (from : Series O K V S) (here there : Reached K V) (line : List ℕ) → StandsFor number from here → LeadsOn between texts here (number + 1) line there → GoesTo number from line there
  one_back number (Between held done) (Past other) there line stands on = past_back held number done line there (subst (λ (d : List (K × V)). LeadsOn between texts (Past d) (number + 1) line there) (sym stands) on)
  one_back number (Between held done) (Inside other key past text) there line stands on = absurd stands
  one_back number (Within held done key state) (Past other) there line stands on = absurd stands
  one_back number (Within held done key state) (Inside other name past text) there line (dones, keys, count, leads) on =
      inside_back held number past done key state text line there count leads
      (subst (λ (d : List (K × V)). LeadsOn between texts (Inside d key past text) (number + 1) line there) (sym dones)
      (subst (λ (k : K). LeadsOn between texts (Inside other k past text) (number + 1) line there) (sym keys) on))

  lead_back : (lines : List (List ℕ)) (number : ℕ) (from : Series O K V S) (here there : Reached K V) → StandsFor number from here → LinesLead between texts here number lines there
      → (to : Series O K V S) × Leads series from number lines to × StandsFor (number + length lines) to there
  lead_back [] number from here there stands same =
      let none : number ≡ number + 0 = omega arith in
      (from, refl, subst (λ (n : ℕ). StandsFor n from there) none (subst (λ (r : Reached K V). StandsFor number from r) same stands))
  lead_back (line ∷ lines) number from here there stands (next, on, more) =
      let one = one_back number from here next line stands on in
      let later = lead_back lines (number + 1) one.0 next there one.2 more in
      let count : number + 1 + length lines ≡ number + length (line ∷ lines) = omega arith in
      (later.0, (one.0, one.1, later.1), subst (λ (n : ℕ). StandsFor n later.0 there) count later.2)

  -- ---- what a state brings
  opened_gives : (held : O) (separator : Separator K F) (done value : List (K × V)) → opened between inner start held done separator ≡ Parsed value → (separator ≡ Closes) × (done ≡ value)
  opened_gives held Passes done value gives = absurd (cc gives)
  opened_gives held (Opens key) done value gives = absurd (cc gives)
  opened_gives held Closes done value gives = (refl, cc gives)
  opened_gives held (Refuses fault) done value gives = absurd (cc gives)

  within_gives : (held : O) (step : Parse S V F) (done value : List (K × V)) (key : K) → read_within between inner start held done key step ≡ Parsed value → ⊥
  within_gives held (Continue text) done value key gives = absurd (cc gives)
  within_gives held (Parsed other) done value key gives = absurd (cc gives)
  within_gives held (Refused fault) done value key gives = absurd (cc gives)

  opened_refuses : (held : O) (separator : Separator K F) (done : List (K × V)) (fault : F) → opened between inner start held done separator ≡ Refused fault → separator ≡ Refuses fault
  opened_refuses held Passes done fault refused = absurd (cc refused)
  opened_refuses held (Opens key) done fault refused = absurd (cc refused)
  opened_refuses held Closes done fault refused = absurd (cc refused)
  opened_refuses held (Refuses other) done fault refused = let same : other ≡ fault = cc refused in ap Refuses same

  within_refuses : (held : O) (step : Parse S V F) (done : List (K × V)) (key : K) (fault : F) → read_within between inner start held done key step ≡ Refused fault → step ≡ Refused fault
  within_refuses held (Continue text) done key fault refused = absurd (cc refused)
  within_refuses held (Parsed value) done key fault refused = absurd (cc refused)
  within_refuses held (Refused other) done key fault refused = let same : other ≡ fault = cc refused in ap Refused same

  -- ---- the grammar and what is read
  series_to : (separators : O) (past : ℕ) (lines : List (List ℕ)) (done : List (K × V)) (rest : List (List ℕ)) → IsSeries between texts past lines done rest → ReadsText series (initial_series separators) past lines done rest
  series_to separators past lines done rest is =
      let there = lead_back is.prefix past (initial_series separators) (Past []) (Past done) refl is.lead in
      closed there.0 there.1 there.2
    where
      closed : (to : Series O K V S) → Leads series (initial_series separators) past is.prefix to → StandsFor (past + length is.prefix) to (Past done) → ReadsText series (initial_series separators) past lines done rest
      closed (Between held other) leads same = record {
        prefix = is.prefix;
        last = is.last;
        state = Between held other;
        whole = is.whole;
        leads = leads;
        gives = subst (λ (d : List (K × V)). opened between inner start held d (between.opens d (number_after past is.prefix) is.last) ≡ Parsed done) (sym same) (ap (opened between inner start held done) is.closes);
      }
      closed (Within held other key state) leads same = absurd same

  series_from : (separators : O) (past : ℕ) (lines : List (List ℕ)) (done : List (K × V)) (rest : List (List ℕ)) → ReadsText series (initial_series separators) past lines done rest → IsSeries between texts past lines done rest
  series_from separators past lines done rest text = by_state text.state text.leads text.gives
    where
      found : (held : O) (there : Reached K V) (other : List (K × V)) → LinesLead between texts (Past []) past text.prefix there → StandsFor (past + length text.prefix) (Between held other) there
          → (between.opens other (number_after past text.prefix) text.last ≡ Closes) × (other ≡ done) → IsSeries between texts past lines done rest
      found held (Past one) other lead same (closes, is) =
          let to : one ≡ done = sym same ∙ is in
          record {
            prefix = text.prefix;
            last = text.last;
            whole = text.whole;
            lead = subst (λ (d : List (K × V)). LinesLead between texts (Past []) past text.prefix (Past d)) to lead;
            closes = subst (λ (d : List (K × V)). between.opens d (number_after past text.prefix) text.last ≡ Closes) is closes;
          }
      found held (Inside one key before lines) other lead same closes = absurd same

      by_state : (state : Series O K V S) → Leads series (initial_series separators) past text.prefix state → series.reads state (number_after past text.prefix) text.last ≡ Parsed done → IsSeries between texts past lines done rest
      by_state (Between held other) leads gives =
          let to = lead_to text.prefix past (initial_series separators) (Between held other) (Past []) refl leads in
          found held to.0 other to.1 to.2 (opened_gives held (between.opens other (number_after past text.prefix) text.last) other done gives)
      by_state (Within held other key state) leads gives = absurd (within_gives held (inner.reads state (number_after past text.prefix) text.last) other done key gives)

  longest_at : (number : ℕ) (state : Series O K V S) (there : Reached K V) (longest : ℕ) → StandsFor number state there → MayHave between texts there longest → series.longest state ≡ longest
  longest_at number (Between held done) (Past other) longest stands may = sym may
  longest_at number (Between held done) (Inside other key past text) longest stands may = absurd stands
  longest_at number (Within held done key state) (Past other) longest stands may = absurd stands
  longest_at number (Within held done key state) (Inside other name past text) longest (dones, keys, count, leads) may =
      let (one, lead, is) = ((by past).longest text longest).0 may in
      ap inner.longest (leads_one inner start state one past text leads lead) ∙ is

  longest_of_at : (number : ℕ) (state : Series O K V S) (there : Reached K V) (longest : ℕ) → StandsFor number state there → series.longest state ≡ longest → MayHave between texts there longest
  longest_of_at number (Between held done) (Past other) longest stands is = sym is
  longest_of_at number (Between held done) (Inside other key past text) longest stands is = absurd stands
  longest_of_at number (Within held done key state) (Past other) longest stands is = absurd stands
  longest_of_at number (Within held done key state) (Inside other name past text) longest (dones, keys, count, leads) is = ((by past).longest text longest).1 (state, leads, is)

  fault_at : (number : ℕ) (state : Series O K V S) (there : Reached K V) (next : Next) (fault : F) → StandsFor number state there → IsFaulty between texts there (number + 1) next fault → FaultOf series state (number + 1) next fault
  fault_at number (Between held done) (Past other) (Line line) fault stands is =
      ap (opened between inner start held done) (ap (λ (d : List (K × V)). between.opens d (number + 1) line) stands ∙ is)
  fault_at number (Between held done) (Past other) (NoLine stop) fault stands is = ap (λ (d : List (K × V)). between.stops d (number + 1) stop) stands ∙ is
  fault_at number (Between held done) (Inside other key past text) next fault stands is = absurd stands
  fault_at number (Within held done key state) (Past other) next fault stands is = absurd stands
  fault_at number (Within held done key state) (Inside other name past text) next fault (dones, keys, count, leads) is =
      let (one, lead, faulty) = ((by past).refuses text next fault).0 is in
      let same : one ≡ state = leads_one inner start one state past text lead leads in
      within next (subst (λ (n : ℕ). FaultOf inner state n next fault) (sym (number_within number past text count)) (subst (λ (s : S). FaultOf inner s (number_after past text) next fault) same faulty))
    where
      within : (next : Next) → FaultOf inner state (number + 1) next fault → FaultOf series (Within held done key state) (number + 1) next fault
      within (Line line) faulty = ap (read_within between inner start held done key) faulty
      within (NoLine stop) faulty = faulty

  fault_of_at : (number : ℕ) (state : Series O K V S) (there : Reached K V) (next : Next) (fault : F) → StandsFor number state there → FaultOf series state (number + 1) next fault → IsFaulty between texts there (number + 1) next fault
  fault_of_at number (Between held done) (Past other) (Line line) fault stands is =
      ap (λ (d : List (K × V)). between.opens d (number + 1) line) (sym stands) ∙ opened_refuses held (between.opens done (number + 1) line) done fault is
  fault_of_at number (Between held done) (Past other) (NoLine stop) fault stands is = ap (λ (d : List (K × V)). between.stops d (number + 1) stop) (sym stands) ∙ is
  fault_of_at number (Between held done) (Inside other key past text) next fault stands is = absurd stands
  fault_of_at number (Within held done key state) (Past other) next fault stands is = absurd stands
  fault_of_at number (Within held done key state) (Inside other name past text) next fault (dones, keys, count, leads) is =
      ((by past).refuses text next fault).1 (state, leads, subst (λ (n : ℕ). FaultOf inner state n next fault) (number_within number past text count) (within next is))
    where
      within : (next : Next) → FaultOf series (Within held done key state) (number + 1) next fault → FaultOf inner state (number + 1) next fault
      within (Line line) faulty = within_refuses held (inner.reads state (number + 1) line) done key fault faulty
      within (NoLine stop) faulty = faulty

  pub series_by : (separators : O) (past : ℕ) → ReadsBy series (initial_series separators) past (series_texts between texts past)
  series_by separators past = record {
    declares = λ lines done rest. (series_to separators past lines done rest, series_from separators past lines done rest);
    longest = λ lines longest. (
      λ wanted.
          let there = lead_back lines past (initial_series separators) (Past []) wanted.0 refl wanted.1 in
          (there.0, there.1, longest_at (past + length lines) there.0 wanted.0 longest there.2 wanted.2),
      λ state.
          let there = lead_to lines past (initial_series separators) state.0 (Past []) refl state.1 in
          (there.0, there.1, longest_of_at (past + length lines) state.0 there.0 longest there.2 state.2),
    );
    refuses = λ lines next fault. (
      λ refused.
          let there = lead_back lines past (initial_series separators) (Past []) refused.0 refl refused.1 in
          (there.0, there.1, fault_at (past + length lines) there.0 refused.0 next fault there.2 refused.2),
      λ state.
          let there = lead_to lines past (initial_series separators) state.0 (Past []) refl state.1 in
          (there.0, there.1, fault_of_at (past + length lines) state.0 there.0 next fault there.2 state.2),
    );
  }
