-- Texts of lines in sections are read by their grammar, whatever stands before them in the input.
use Rattle.std.proofs.Common.{◌≡◌, ℕ, Bool, true, false, List, [], ◌∷◌, ◌++◌, Result, Ok, Err, refl, sym, ap, ◌∙◌, subst, arith, length-append}
use Rattle.texts.specs.Limits.{most_line}
use Rattle.texts.specs.Words.{words}
use Rattle.net_model.specs.declared.format.FormatFault.{FormatFault}
use Rattle.net_model.specs.declared.format.FormatKind.{FormatKind}
use Rattle.sectioned_texts.specs.SectionedTexts.{SectionedText, IsPrefixOf, BringsBy, missing_in, fault_after}
use Rattle.sectioned_texts.specs.LawfulTexts.{IsLawful}
use Rattle.sectioned_texts.specs.Reading.{line_in}
use Rattle.sectioned_texts.proofs.ReadingLemmas.{said_brings, prefix_refused, prefix_stops, one_reading}
use Rattle.command_engine.specs.Grammars.{Next, Line, NoLine, Leads, ReadsBy, number_after}
use Rattle.command_engine.specs.declared.machines.Stop.{Stop}
use Rattle.command_engine.specs.declared.machines.Stop.TheVariants.{LineTooLong as LongStop, InputTooMuch as MuchStop, InputEnded}
use Rattle.command_engine.specs.declared.line_texts.Parse.TheVariants.{Continue, Parsed, Refused}
use Rattle.command_engine.proofs.GrammarLemmas.{IsOnce, KeepsTo, reads_by}
use Rattle.command_engine.proofs.LeadLemmas.{stands_by}
use Rattle.common_answers.specs.FormatRefusals.{RefusesFormat}
use Rattle.common_answers.specs.declared.faults.Fault.{Fault}
use Rattle.common_answers.specs.declared.faults.Fault.TheVariants.{Format}
use Rattle.input_texts.specs.SectionInputs.{initial_input, step_by, section_step, section_reader, IsTextFault, section_texts}
use Rattle.input_texts.specs.declared.section_input.SectionInput.{SectionInput}

module _ {S K L P V : Type 0} (text : SectionedText S K L P V) (lawful : IsLawful text) where
  -- ---- where the reading stands: the lines are a prefix of a text
  abbrev Stands : List (List ℕ) → SectionInput P → Type 0
  Stands lines state = IsPrefixOf text lines state.reader

  goes_on : (is_last : Bool) (lines : List (List ℕ)) (next : List ℕ) (said : L) (read : P) (to : SectionInput P) → BringsBy text is_last lines next said read
      → step_by text is_last read ≡ Continue to → Stands (lines ++ next ∷ []) to
  goes_on true lines next said read to brings goes = absurd (cc)
  goes_on false lines next said read to brings goes =
      let same : record { reader = read } ≡ to = cc in
      subst (Stands (lines ++ next ∷ [])) same brings.1

  goes_by : (lines : List (List ℕ)) (next : List ℕ) (read : P) (said : Result L FormatKind) (number : ℕ) (to : SectionInput P) → line_in text (text.section read) (words next) ≡ said
      → IsPrefixOf text lines read
      → section_step text read number said ≡ Continue to → Stands (lines ++ next ∷ []) to
  goes_by lines next read (Ok said) number to is prefix goes =
      goes_on (text.is_last said) lines next said (text.advanced read said) to (said_brings text lawful lines next read said prefix is) goes
  goes_by lines next read (Err kind) number to is prefix goes = absurd (cc)

  ends_with : (is_last : Bool) (lines : List (List ℕ)) (next : List ℕ) (others : List (List ℕ)) (said : L) (read : P) (value : V) → BringsBy text is_last lines next said read
      → step_by text is_last read ≡ Parsed value
      → text.declares (lines ++ next ∷ others) value others
  ends_with true lines next others said read value brings gives =
      let same : text.value read ≡ value = cc in
      subst (λ (v : V). text.declares (lines ++ next ∷ others) v others) same (brings others)
  ends_with false lines next others said read value brings gives = absurd (cc)

  no_fault : (is_last : Bool) (read : P) (fault : Fault) → step_by text is_last read ≡ Refused fault → ⊥
  no_fault true read fault refuses = cc
  no_fault false read fault refuses = cc

  module _ (past : ℕ) where
    stands : (lines : List (List ℕ)) (state : SectionInput P) → Leads (section_reader text) (initial_input text) past lines state → Stands lines state
    stands lines state leads =
        stands_by (section_reader text) (initial_input text) past Stands refl
        (λ before from to next prefix goes. goes_by before next from.reader (line_in text (text.section from.reader) (words next)) (number_after past before) to refl prefix goes) lines state leads

    refused_by : (lines : List (List ℕ)) (next : List ℕ) (read : P) (said : Result L FormatKind) (fault : Fault) → line_in text (text.section read) (words next) ≡ said → IsPrefixOf text lines read
        → section_step text read (number_after past lines) said ≡ Refused fault → (section_texts text past).refuses lines (Line next) fault
    refused_by lines next read (Ok said) fault is prefix refuses = absurd (no_fault (text.is_last said) (text.advanced read said) fault refuses)
    refused_by lines next read (Err kind) fault is prefix refuses =
        let same : Format (number_after past lines) kind ≡ fault = cc in
        ((read, prefix), (kind, sym same, λ others. prefix_refused text lawful lines next read kind others prefix is))

    gives_by : (lines : List (List ℕ)) (next : List ℕ) (others : List (List ℕ)) (read : P) (said : Result L FormatKind) (number : ℕ) (value : V) → line_in text (text.section read) (words next) ≡ said
        → IsPrefixOf text lines read → section_step text read number said ≡ Parsed value → text.declares (lines ++ next ∷ others) value others
    gives_by lines next others read (Ok said) number value is prefix gives =
        ends_with (text.is_last said) lines next others said (text.advanced read said) value (said_brings text lawful lines next read said prefix is) gives
    gives_by lines next others read (Err kind) number value is prefix gives = absurd (cc)

    stops_by : (lines : List (List ℕ)) (read : P) (stop : Stop) → IsPrefixOf text lines read → RefusesFormat (IsTextFault text) past lines (NoLine stop)
        ((section_reader text).stops (record { reader = read }) (number_after past lines) stop)
    stops_by lines read InputEnded prefix = (missing_in text (text.section read), refl, prefix_stops text lawful lines read prefix)
    stops_by lines read LongStop prefix = refl
    stops_by lines read MuchStop prefix = refl

    keeps_to : KeepsTo (section_reader text) (initial_input text) past (section_texts text past)
    keeps_to = record {
      longest = λ lines state leads. ((state.reader, stands lines state leads), refl);
      stopped = λ lines state stop leads. let prefix = stands lines state leads in ((state.reader, prefix), stops_by lines state.reader stop prefix);
      refused = λ lines state next fault leads refuses.
          refused_by lines next state.reader (line_in text (text.section state.reader) (words next)) fault refl (stands lines state leads) refuses;
      gives = λ lines state next value others leads gives.
          gives_by lines next others state.reader (line_in text (text.section state.reader) (words next)) (number_after past lines) value refl (stands lines state leads) gives;
    }

    one_fault : (lines : List (List ℕ)) (next : Next) (a b : Fault) → (section_texts text past).refuses lines next a → (section_texts text past).refuses lines next b → a ≡ b
    one_fault lines (Line next) a b (prefix, (k, at, is)) (other, (l, also, too)) =
        let same = ap (λ (f : FormatFault). f.kind) ((one_reading text lawful (lines ++ next ∷ [])).one_fault (fault_after lines k) (fault_after lines l) (is []) (too [])) in
        at ∙ (ap (λ (kind : FormatKind). Format (number_after past lines) kind) same ∙ sym also)
    one_fault lines (NoLine InputEnded) a b (prefix, (k, at, is)) (other, (l, also, too)) =
        let same = ap (λ (f : FormatFault). f.kind) ((one_reading text lawful lines).one_fault (fault_after lines k) (fault_after lines l) is too) in
        at ∙ (ap (λ (kind : FormatKind). Format (number_after past lines) kind) same ∙ sym also)
    one_fault lines (NoLine LongStop) a b (prefix, is) (other, also) = is ∙ sym also
    one_fault lines (NoLine MuchStop) a b (prefix, is) (other, also) = is ∙ sym also

    wanted_not_refused : (prefix : List (List ℕ)) (next : List ℕ) (others : List (List ℕ)) (longest : ℕ) (fault : Fault) → (section_texts text past).longest (prefix ++ next ∷ others) longest
        → (section_texts text past).refuses prefix (Line next) fault → ⊥
    wanted_not_refused prefix next others longest fault ((read, is), size) (wanted, (kind, at, has)) =
        let same = ap (λ (f : FormatFault). f.line) ((one_reading text lawful (prefix ++ next ∷ others)).one_fault (fault_after prefix kind) (fault_after (prefix ++ next ∷ others) (missing_in text (text.section read))) (has others)
        (prefix_stops text lawful (prefix ++ next ∷ others) read is)) in
        let long = length-append prefix (next ∷ others) in
        omega (arith, same, long)

    once : IsOnce (section_texts text past)
    once = record {
      one_value = λ lines value other rest after is also. (one_reading text lawful lines).one_value value other rest after is also;
      one_longest = λ lines a b is also. is.1 ∙ sym also.1;
      one_fault = one_fault;
      refused_wanted = λ lines next fault refuses. (most_line, (refuses.0, refl));
      value_not_wanted = λ lines value rest longest is wanted.
          (one_reading text lawful lines).not_both value rest (fault_after lines (missing_in text (text.section wanted.0.0))) is (prefix_stops text lawful lines wanted.0.0 wanted.0.1);
      value_not_refused = λ prefix next others value rest fault is refuses.
          (one_reading text lawful (prefix ++ next ∷ others)).not_both value rest (fault_after prefix refuses.1.0) is (refuses.1.2 others);
      wanted_not_refused = wanted_not_refused;
    }

    pub section_by : ReadsBy (section_reader text) (initial_input text) past (section_texts text past)
    section_by = reads_by (section_reader text) (initial_input text) past (section_texts text past) keeps_to once
