-- Lines are read as the grammar of their text says: they declare what is read of them, or have the first fault that is answered, and never both.
use Rattle.std.proofs.Common.{◌≡◌, ◌⊎◌, ℕ, ◌+◌, Bool, true, false, List, [], ◌∷◌, ◌++◌, length, Result, Ok, Err, refl, sym, ap, ◌∙◌, subst, append_assoc, arith, inl, inr}
use Rattle.std.specs.Result.{IfOk, IfErr}
use Rattle.std.proofs.lemmas.List.{append-nil, length_push}
use Rattle.texts.specs.Words.{words}
use Rattle.texts.specs.Lines.{lines}
use Rattle.net_model.specs.declared.format.FormatKind.{FormatKind}
use Rattle.net_model.specs.declared.format.FormatFault.{FormatFault}
use Rattle.net_model.specs.declared.format.WordFault.{WordFault}
use Rattle.net_model.specs.declared.format.WordFault.TheVariants as word
use Rattle.net_model.specs.declared.format.TextFault.{TextFault}
use Rattle.net_model.specs.declared.format.TextFault.TheVariants as whole
use Rattle.sectioned_texts.specs.SectionedTexts.{SectionedText, IsLineIn, Lead, IsPrefixOf, AreTextOf, CanBecomeText, ExcludesText, IsFaultIn, missing_in, IsFaultOfRest, IsFirstFaultOf, HasFirstFault, BringsBy, LineBrings}
use Rattle.sectioned_texts.specs.SectionedTexts.{HaveOneReading, fault_after}
use Rattle.sectioned_texts.specs.Reading.{ReadValue, SaysLine, SaysText, value_part, line_in, read_on, said_from, read_from, read_text}
use Rattle.sectioned_texts.specs.LawfulTexts.{IsLawful, IsEndedBy}
use Rattle.sectioned_texts.proofs.LineLemmas.{line_read, line_said, line_says, line_err, one_line_fault}

pub fault_is : (line other : ℕ) (kind : FormatKind) (fault : FormatFault) → fault.line ≡ other + 1 → line ≡ 1 + other → fault.kind ≡ kind
    → (let f : FormatFault = record { line = line; kind = kind } in f) ≡ fault
fault_is line other kind fault place at same =
    let number : line ≡ fault.line = omega (arith, place, at) in
    ap (λ (n : ℕ). let f : FormatFault = record { line = n; kind = kind } in f) number ∙ ap (λ (k : FormatKind). let f : FormatFault = record { line = fault.line; kind = k } in f) (sym same)

module _ {S K L P V : Type 0} (text : SectionedText S K L P V) where
  abbrev Read : Type 0
  Read = Result (ReadValue V) FormatFault

  read_at : (read : P) (a b : ℕ) (more : List (List ℕ)) → a ≡ b → read_from text read a more ≡ read_from text read b more
  read_at read a b more same = ap (λ n. read_from text read n more) same

  -- one more line
  pub lead_more : (before : List (List ℕ)) (line : List ℕ) (from to : P) (said : L) → Lead text from before to → IsLineIn text (text.section to) said (words line) → text.is_last said ≡ false
      → Lead text from (before ++ line ∷ []) (text.advanced to said)
  lead_more [] line from to said leads comes goes =
      subst (λ (p : P). Lead text p (line ∷ []) (text.advanced to said)) (sym leads) (said, comes, goes, refl)
  lead_more (next ∷ before) line from to said leads comes goes =
      (leads.0, leads.1, leads.2, lead_more before line (text.advanced from leads.0) to said leads.3 comes goes)

  -- lines after lines
  pub lead_on : (before after : List (List ℕ)) (from by to : P) → Lead text from before by → Lead text by after to → Lead text from (before ++ after) to
  lead_on [] after from by to leads on = subst (λ (p : P). Lead text p after to) (sym leads) on
  lead_on (line ∷ before) after from by to leads on = (leads.0, leads.1, leads.2, lead_on before after (text.advanced from leads.0) by to leads.3 on)

  module _ (lawful : IsLawful text) where
    -- lines that lead on are read
    lead_read : (prefix more : List (List ℕ)) (from to : P) (number : ℕ) → Lead text from prefix to → read_from text from number (prefix ++ more) ≡ read_from text to (number + length prefix) more
    lead_read [] more from to number leads =
        ap (λ (p : P). read_from text p number more) leads ∙ read_at to number (number + 0) more (omega arith)
    lead_read (line ∷ prefix) more from to number leads =
        rw (line_read text lawful.lines (text.section from) leads.0 (words line) leads.1, leads.2)
        (lead_read prefix more (text.advanced from leads.0) to (number + 1) leads.3 ∙ read_at to (number + 1 + length prefix) (number + length (line ∷ prefix)) more (omega arith))

    -- a prefix is read as what it says
    pub prefix_read : (prefix : List (List ℕ)) (read : P) → IsPrefixOf text prefix read → (more : List (List ℕ))
        → read_from text text.initial 1 (prefix ++ more) ≡ read_from text read (1 + length prefix) more
    prefix_read prefix read is more = lead_read prefix more text.initial read 1 is

    ended_read : (all : List (List ℕ)) (value : V) (after : List (List ℕ)) → IsEndedBy text all value after → read_from text text.initial 1 all ≡ Ok (record { value = value; after = after })
    ended_read all value after e =
        let ok : V → Read = λ v. Ok (record { value = v; after = after }) in
        ap (read_from text text.initial 1) e.whole ∙ prefix_read e.prefix e.read e.leads (e.last ∷ after)
        ∙ rw (line_read text lawful.lines (text.section e.read) e.said (words e.last) e.comes, e.ends) (ap ok e.value_is)

    -- lines that declare a value are read as it
    pub declared_read : (all : List (List ℕ)) (value : V) (after : List (List ℕ)) → text.declares all value after → read_from text text.initial 1 all ≡ Ok (record { value = value; after = after })
    declared_read all value after declares = ended_read all value after (lawful.ended all value after declares)

    -- every text of the grammar is read
    pub grammar_read : (bytes : List ℕ) (value : V) → AreTextOf text bytes value → read_text text bytes ≡ Ok value
    grammar_read bytes value (after, declares) = ap value_part (declared_read (lines bytes) value after declares)

    -- lines that are read with a fault declare no value
    no_value : (all : List (List ℕ)) (value : V) (after : List (List ℕ)) (fault : FormatFault) → read_from text text.initial 1 all ≡ Err fault → text.declares all value after → ⊥
    no_value all value after fault read declares =
        let ok : Read = Ok (record { value = value; after = after }) in
        let wrong : Err fault ≡ ok = sym read ∙ declared_read all value after declares in
        absurd (cc)

    -- the fault of lines that end before their text does
    pub prefix_stops : (prefix : List (List ℕ)) (read : P) → IsPrefixOf text prefix read → IsFirstFaultOf text prefix (fault_after prefix (missing_in text (text.section read)))
    prefix_stops prefix read is =
        let at : ℕ = 1 + length prefix in
        record {
          prefix = prefix;
          rest = [];
          read = read;
          whole = sym (append-nil prefix);
          place = refl;
          possible = lawful.continued prefix read is;
          refused = λ value after declares. no_value prefix value after (record { line = at; kind = missing_in text (text.section read) })
              (ap (read_from text text.initial 1) (sym (append-nil prefix)) ∙ prefix_read prefix read is []) declares;
          reached = is;
          departs = refl;
        }

    refused_after : (prefix : List (List ℕ)) (line : List ℕ) (read : P) (kind : FormatKind) → IsPrefixOf text prefix read → line_in text (text.section read) (words line) ≡ Err kind
        → CanBecomeText text (prefix ++ line ∷ []) → ⊥
    refused_after prefix line read kind is refused (more, value, after, declares) =
        let at : ℕ = 1 + length prefix in
        no_value (prefix ++ line ∷ [] ++ more) value after (record { line = at; kind = kind }) (ap (read_from text text.initial 1) (append_assoc prefix (line ∷ []) more) ∙ prefix_read prefix read is (line ∷ more)
        ∙ ap (λ (said : Result L FormatKind). said_from text read at said more (λ next. read_from text next (at + 1) more)) refused) declares

    -- the fault of a line that is refused after a prefix
    pub prefix_refused : (prefix : List (List ℕ)) (line : List ℕ) (read : P) (kind : FormatKind) (after : List (List ℕ)) → IsPrefixOf text prefix read
        → line_in text (text.section read) (words line) ≡ Err kind
        → IsFirstFaultOf text (prefix ++ line ∷ after) (fault_after prefix kind)
    prefix_refused prefix line read kind after is refused = record {
      prefix = prefix;
      rest = line ∷ after;
      read = read;
      whole = refl;
      place = refl;
      possible = lawful.continued prefix read is;
      refused = refused_after prefix line read kind is refused;
      reached = is;
      departs = line_err text lawful.lines (text.section read) (words line) kind refused;
    }

    -- what a line brings that may come after a prefix
    brings_by : (is_last : Bool) (prefix : List (List ℕ)) (line : List ℕ) (read : P) (said : L) → text.is_last said ≡ is_last → IsPrefixOf text prefix read
        → IsLineIn text (text.section read) said (words line)
        → BringsBy text is_last prefix line said (text.advanced read said)
    brings_by true prefix line read said last is comes =
        λ after. lawful.declared (prefix ++ line ∷ after) (text.value (text.advanced read said)) after
        (record { prefix = prefix; last = line; read = read; said = said; whole = refl; leads = is; comes = comes; ends = last; value_is = refl })
    brings_by false prefix line read said goes is comes = (line_says text lawful.lines (text.section read) said (words line) comes, lead_more prefix line text.initial read said is comes goes)

    pub said_brings : (prefix : List (List ℕ)) (line : List ℕ) (read : P) (said : L) → IsPrefixOf text prefix read → line_in text (text.section read) (words line) ≡ Ok said
        → LineBrings text prefix line (Ok said) (text.advanced read said)
    said_brings prefix line read said is ok = brings_by (text.is_last said) prefix line read said refl is (line_said text lawful.lines (text.section read) (words line) said ok)

    -- what an answer brings that is what the line says
    pub answer_brings : (prefix : List (List ℕ)) (line : List ℕ) (from to : P) (answer : Result L WordFault) → SaysLine answer (line_in text (text.section from) (words line))
        → IfOk answer (λ said. to ≡ text.advanced from said)
        → IsPrefixOf text prefix from → LineBrings text prefix line answer to
    answer_brings prefix line from to (Ok said) says kept is =
        subst (λ (p : P). LineBrings text prefix line (Ok said) p) (sym kept) (said_brings prefix line from said is says)
    answer_brings prefix line from to (Err (word.Kind kind)) says kept is = λ after. prefix_refused prefix line from kind after is says
    answer_brings prefix line from to (Err word.OutOfMemory) says kept is = tt

    -- lines are what is read of them
    abbrev pub ReadsSo : List (List ℕ) → Read → Type 0
    ReadsSo all (Ok read) = text.declares all read.value read.after
    ReadsSo all (Err fault) = IsFirstFaultOf text all fault

    -- the same lines and the same number
    moved : (prefix others : List (List ℕ)) (line : List ℕ) (read : P) → ReadsSo (prefix ++ line ∷ [] ++ others) (read_from text read (length (prefix ++ line ∷ []) + 1) others)
        → ReadsSo (prefix ++ line ∷ others) (read_from text read (length prefix + 1 + 1) others)
    moved prefix others line read reads =
        let count : length (prefix ++ line ∷ []) ≡ length prefix + 1 = length_push prefix line in
        subst (λ (n : ℕ). ReadsSo (prefix ++ line ∷ others) (read_from text read (n + 1) others)) count
        (subst (λ (all : List (List ℕ)). ReadsSo all (read_from text read (length (prefix ++ line ∷ []) + 1) others)) (append_assoc prefix (line ∷ []) others) reads)

    -- lines are what is read of them, after whatever prefix
    abbrev ReadSoAfter : List (List ℕ) → Type 0
    ReadSoAfter others = (longer : List (List ℕ)) (read : P) → IsPrefixOf text longer read → ReadsSo (longer ++ others) (read_from text read (length longer + 1) others)

    goes_by : (is_last : Bool) (prefix others : List (List ℕ)) (line : List ℕ) (said : L) (read : P) → BringsBy text is_last prefix line said read → ReadSoAfter others
        → ReadsSo (prefix ++ line ∷ others) (read_on text is_last read others (λ next. read_from text next (length prefix + 1 + 1) others))
    goes_by true prefix others line said read brings later = brings others
    goes_by false prefix others line said read brings later = moved prefix others line read (later (prefix ++ line ∷ []) read brings.1)

    reads_by : (said : Result L FormatKind) (prefix others : List (List ℕ)) (line : List ℕ) (read : P) → line_in text (text.section read) (words line) ≡ said → IsPrefixOf text prefix read
        → ReadSoAfter others
        → ReadsSo (prefix ++ line ∷ others) (said_from text read (length prefix + 1) said others (λ next. read_from text next (length prefix + 1 + 1) others))
    reads_by (Err kind) prefix others line read refused is later = prefix_refused prefix line read kind others is refused
    reads_by (Ok said) prefix others line read ok is later = goes_by (text.is_last said) prefix others line said (text.advanced read said) (said_brings prefix line read said is ok) later

    reads_after : (rest prefix : List (List ℕ)) (read : P) → IsPrefixOf text prefix read → ReadsSo (prefix ++ rest) (read_from text read (length prefix + 1) rest)
    reads_after [] prefix read is =
        subst (λ (all : List (List ℕ)). IsFirstFaultOf text all (fault_after prefix (missing_in text (text.section read)))) (sym (append-nil prefix)) (prefix_stops prefix read is)
    reads_after (line ∷ rest) prefix read is =
        reads_by (line_in text (text.section read) (words line)) prefix rest line read refl is (λ longer next on. reads_after rest longer next on)

    -- lines are what is read of them
    pub lines_read : (all : List (List ℕ)) → ReadsSo all (read_from text text.initial 1 all)
    lines_read all = reads_after all [] text.initial refl

    reads_text : (bytes : List ℕ) (answer : Result V TextFault) (read : Read) → ReadsSo (lines bytes) read → SaysText answer (value_part read)
        → IfOk answer (λ value. AreTextOf text bytes value) × IfErr answer (HasFirstFault text bytes)
    reads_text bytes (Ok value) (Ok read) reads says =
        let same : read.value ≡ value = cc in
        ((read.after, subst (λ (v : V). text.declares (lines bytes) v read.after) same reads), tt)
    reads_text bytes (Ok value) (Err fault) reads says = absurd (cc)
    reads_text bytes (Err (whole.Format fault)) (Ok read) reads says = absurd (cc)
    reads_text bytes (Err (whole.Format fault)) (Err first) reads says =
        let same : first ≡ fault = cc in
        (tt, subst (IsFirstFaultOf text (lines bytes)) same reads)
    reads_text bytes (Err whole.OutOfMemory) read reads says = (tt, tt)

    -- an answer that is what is read of a text is in the grammar, or its first fault
    pub answer_reads : (bytes : List ℕ) (answer : Result V TextFault) → SaysText answer (read_text text bytes)
        → IfOk answer (λ value. AreTextOf text bytes value) × IfErr answer (HasFirstFault text bytes)
    answer_reads bytes answer says = reads_text bytes answer (read_from text text.initial 1 (lines bytes)) (lines_read (lines bytes)) says

    brought_by : (is_last : Bool) (prefix : List (List ℕ)) (line : List ℕ) (said : L) (read : P) → BringsBy text is_last prefix line said read → CanBecomeText text (prefix ++ line ∷ [])
    brought_by true prefix line said read brings =
        ([], text.value read, [], subst (λ (all : List (List ℕ)). text.declares all (text.value read) []) (sym (append-nil (prefix ++ line ∷ []))) (brings []))
    brought_by false prefix line said read brings = lawful.continued (prefix ++ line ∷ []) read brings.1

    -- a line that a prefix excludes is read with its fault
    refused_read : (prefix : List (List ℕ)) (line : List ℕ) (read : P) (kind : FormatKind) (said : Result L FormatKind) → IsPrefixOf text prefix read → (CanBecomeText text (prefix ++ line ∷ []) → ⊥)
        → IsFaultIn text (text.section read) (words line) kind → line_in text (text.section read) (words line) ≡ said → said ≡ Err kind
    refused_read prefix line read kind (Ok said) is excludes departs ok =
        absurd (excludes (brought_by (text.is_last said) prefix line said (text.advanced read said) (said_brings prefix line read said is ok)))
    refused_read prefix line read kind (Err other) is excludes departs refused =
        ap (λ (k : FormatKind). Err k) (one_line_fault text lawful.lines (text.section read) (words line) other kind (line_err text lawful.lines (text.section read) (words line) other refused) departs)

    rest_read : (prefix rest : List (List ℕ)) (read : P) (fault : FormatFault) → fault.line ≡ length prefix + 1 → IsPrefixOf text prefix read → ExcludesText text prefix rest
        → IsFaultOfRest text (text.section read) rest fault.kind → read_from text read (1 + length prefix) rest ≡ Err fault
    rest_read prefix [] read fault place is excludes departs =
        ap (λ (f : FormatFault). Err f) (fault_is (1 + length prefix) (length prefix) (missing_in text (text.section read)) fault place refl departs)
    rest_read prefix (line ∷ others) read fault place is excludes departs =
        let at : ℕ = 1 + length prefix in
        let refused : line_in text (text.section read) (words line) ≡ Err fault.kind = refused_read prefix line read fault.kind (line_in text (text.section read) (words line)) is excludes departs refl in
        ap (λ (said : Result L FormatKind). said_from text read at said others (λ next. read_from text next (at + 1) others)) refused
        ∙ ap (λ (f : FormatFault). Err f) (fault_is at (length prefix) fault.kind fault place refl refl)

    -- the first fault of lines is what is read of them
    fault_read : (all : List (List ℕ)) (fault : FormatFault) → IsFirstFaultOf text all fault → read_from text text.initial 1 all ≡ Err fault
    fault_read all fault f =
        ap (read_from text text.initial 1) f.whole ∙ prefix_read f.prefix f.read f.reached f.rest ∙ rest_read f.prefix f.rest f.read fault f.place f.reached f.refused f.departs

    either_by : (all : List (List ℕ)) (read : Read) → ReadsSo all read
        → ((value : V) × (after : List (List ℕ)) × text.declares all value after) ⊎ ((fault : FormatFault) × IsFirstFaultOf text all fault)
    either_by all (Ok read) reads = inl (read.value, read.after, reads)
    either_by all (Err fault) reads = inr (fault, reads)

    pub one_reading : (all : List (List ℕ)) → HaveOneReading text all
    one_reading all = record {
      either = either_by all (read_from text text.initial 1 all) (lines_read all);
      one_value = λ v w after later first second.
          let one : ReadValue V = record { value = v; after = after } in
          let other : ReadValue V = record { value = w; after = later } in
          let read : Read = Ok one in
          let same : read ≡ Ok other = sym (declared_read all v after first) ∙ declared_read all w later second in
          let is : one ≡ other = cc in
          (ap (λ (x : ReadValue V). x.value) is, ap (λ (x : ReadValue V). x.after) is);
      one_fault = λ f g first second. let read : Read = Err f in let same : read ≡ Err g = sym (fault_read all f first) ∙ fault_read all g second in cc;
      not_both = λ value after fault declares faults.
          let ok : Read = Ok (record { value = value; after = after }) in
          let wrong : ok ≡ Err fault = sym (declared_read all value after declares) ∙ fault_read all fault faults in
          absurd (cc);
    }

    -- a text with a first fault is answered by it, unless memory ran out
    pub answer_every_fault : (bytes : List ℕ) (answer : Result V TextFault) (fault : FormatFault) → SaysText answer (read_text text bytes) → IsFirstFaultOf text (lines bytes) fault
        → SaysText answer (Err fault)
    answer_every_fault bytes answer fault says first =
        subst (SaysText answer) (ap value_part (fault_read (lines bytes) fault first)) says
