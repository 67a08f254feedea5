-- Headers are read by their grammar, whatever stands before them in the input.
use Rattle.std.proofs.Common.{◌≡◌, ℕ, ◌+◌, Bool, true, false, List, [], ◌∷◌, refl, sym, ap, ◌∙◌, cond}
use Rattle.texts.specs.Words.{words, are_passed_over}
use Rattle.net_model.specs.declared.format.FormatKind.TheVariants.{NoHeader}
use Rattle.command_engine.specs.Grammars.{Next, Line, NoLine, FaultOf, Leads, ReadsBy, ReadsText, number_after}
use Rattle.command_engine.specs.declared.line_texts.Parse.{Parse}
use Rattle.command_engine.specs.declared.line_texts.Parse.TheVariants.{Continue, Parsed, Refused}
use Rattle.common_answers.specs.declared.faults.Fault.{Fault}
use Rattle.common_answers.specs.declared.faults.Fault.TheVariants.{Format}
use Rattle.fleet_command.specs.FleetHeader.{Nothing, are_header, initial_header, header_reader, header_texts, IsHeader, IsHeaderFault, PassOver}
use Rattle.fleet_command.specs.declared.header.FleetHeader.{FleetHeader}

-- ---- what a line brings, by its words
abbrev by_tests : FleetHeader → ℕ → (passed is : Bool) → Parse FleetHeader Nothing Fault
by_tests header number passed is = cond passed (Continue header) (cond is (Parsed tt) (Refused (Format number NoHeader)))

passed_by : (header next : FleetHeader) (number : ℕ) (passed is : Bool) → by_tests header number passed is ≡ Continue next → passed ≡ true
passed_by header next number true is goes = refl
passed_by header next number false true goes = absurd cc
passed_by header next number false false goes = absurd cc

given_by : (header : FleetHeader) (number : ℕ) (passed is : Bool) (value : Nothing) → by_tests header number passed is ≡ Parsed value → (passed ≡ false) × (is ≡ true)
given_by header number true is value gives = absurd cc
given_by header number false true value gives = (refl, refl)
given_by header number false false value gives = absurd cc

refused_by : (header : FleetHeader) (number : ℕ) (passed is : Bool) (fault : Fault) → by_tests header number passed is ≡ Refused fault → (passed ≡ false) × (is ≡ false) × (Format number NoHeader ≡ fault)
refused_by header number true is fault refuses = absurd cc
refused_by header number false true fault refuses = absurd cc
refused_by header number false false fault refuses = let same : Format number NoHeader ≡ fault = cc in (refl, refl, same)

-- ---- lines that are passed over lead on
over_leads : (past : ℕ) (lines : List (List ℕ)) → PassOver lines → Leads header_reader initial_header past lines initial_header
over_leads past [] over = refl
over_leads past (line ∷ lines) (is, over) =
    (initial_header, ap (λ (b : Bool). by_tests initial_header (past + 1) b (are_header (words line))) is, over_leads (past + 1) lines over)

leads_over : (past : ℕ) (lines : List (List ℕ)) (from to : FleetHeader) → Leads header_reader from past lines to → PassOver lines
leads_over past [] from to leads = tt
leads_over past (line ∷ lines) from to (next, reads, leads) =
    (passed_by from next (past + 1) (are_passed_over (words line)) (are_header (words line)) reads, leads_over (past + 1) lines next to leads)

module _ (past : ℕ) where
  declares_to : (lines : List (List ℕ)) (value : Nothing) (rest : List (List ℕ)) → IsHeader lines rest → ReadsText header_reader initial_header past lines value rest
  declares_to lines value rest is = record {
    prefix = is.prefix;
    last = is.last;
    state = initial_header;
    whole = is.whole;
    leads = over_leads past is.prefix is.over;
    gives =
        ap (λ (b : Bool). by_tests initial_header (number_after past is.prefix) b (are_header (words is.last))) is.no_remark
        ∙ ap (λ (b : Bool). by_tests initial_header (number_after past is.prefix) false b) is.is;
  }

  declares_from : (lines : List (List ℕ)) (value : Nothing) (rest : List (List ℕ)) → ReadsText header_reader initial_header past lines value rest → IsHeader lines rest
  declares_from lines value rest is =
      let by = given_by is.state (number_after past is.prefix) (are_passed_over (words is.last)) (are_header (words is.last)) value is.gives in
      record { prefix = is.prefix; last = is.last; whole = is.whole; over = leads_over past is.prefix initial_header is.state is.leads; no_remark = by.0; is = by.1 }

  refuses_to : (lines : List (List ℕ)) (next : Next) (fault : Fault) → IsHeaderFault (number_after past lines) next fault → FaultOf header_reader initial_header (number_after past lines) next fault
  refuses_to lines (Line line) fault (passed, is, same) =
      ap (λ (b : Bool). by_tests initial_header (number_after past lines) b (are_header (words line))) passed
      ∙ (ap (λ (b : Bool). by_tests initial_header (number_after past lines) false b) is ∙ ap (λ (f : Fault). Refused f) same)
  refuses_to lines (NoLine stop) fault same = same

  refuses_from : (lines : List (List ℕ)) (state : FleetHeader) (next : Next) (fault : Fault) → FaultOf header_reader state (number_after past lines) next fault → IsHeaderFault (number_after past lines) next fault
  refuses_from lines state (Line line) fault refuses = refused_by state (number_after past lines) (are_passed_over (words line)) (are_header (words line)) fault refuses
  refuses_from lines state (NoLine stop) fault refuses = refuses

  -- headers are read by their grammar
  pub header_by : ReadsBy header_reader initial_header past (header_texts past)
  header_by = record {
    declares = λ lines value rest. (declares_to lines value rest, declares_from lines value rest);
    longest = λ lines longest. (λ is. (initial_header, over_leads past lines is.0, sym is.1), λ is. (leads_over past lines initial_header is.0 is.1, sym is.2));
    refuses = λ lines next fault.
        (λ is. (initial_header, over_leads past lines is.0, refuses_to lines next fault is.1), λ is. (leads_over past lines initial_header is.0 is.1, refuses_from lines is.0 next fault is.2));
  }
