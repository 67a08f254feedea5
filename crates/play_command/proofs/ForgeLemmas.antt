-- `forge` prints one answer.
use Rattle.std.proofs.Common.{◌≡◌, ℕ, List, ◌++◌, length, Result, Ok, IfOk, inl, inr, refl, sym, append_assoc, ap, ◌∙◌, subst}
use Rattle.std.proofs.lemmas.List.{length-map}
use Rattle.net_model.specs.BuiltNetwork.{built}
use Rattle.net_model.specs.Network.{Plan}
use Rattle.net_model.specs.ShownForm.{shown_form}
use Rattle.net_model.specs.declared.fault.BuildFault.{BuildFault}
use Rattle.net_model.proofs.DelayLemmas.{built_delay}
use Rattle.net_model.proofs.ShownLemmas.{shown_same}
use Rattle.closure_model.specs.Tables.{edges_of}
use Rattle.strategy_model.specs.Laws.{AtMostOneEarliest}
use Rattle.cert_format.specs.declared.certificate.Certificate.{Certificate}
use Rattle.cert_checker.specs.Judgement.{judgement_of}
use Rattle.closure_certificates.specs.Certified.{Proves}
use Rattle.closure_certificates.specs.TableProofs.{entry_of}
use Rattle.closure_certificates.proofs.LawProofs.{law_certificates_are_one}
use Rattle.situation_player.specs.ForgedParts.{forged_parts}
use Rattle.play_command.specs.ForgeCommand.{PutsAfter, IsLastMoment, PrintsControllable, PrintsForged, PrintsRefuted, PrintsVerdict, controllable_text, counts_text, forge_program, greatest_of, judged_line, refuted_text, size_of}
use Rattle.command_contracts.specs.Programs.{EachDefinesOne}
use Rattle.play_command.specs.PlayedSituation.{situation_of}
use Rattle.play_command.specs.declared.forged_network.ForgeWords.{ForgeWords}
use Rattle.command_contracts.specs.declared.no_input.NoInputEnd.{NoInputEnd}
use Rattle.command_contracts.specs.declared.no_input.NoInputEnd.TheVariants.{Printed}
use Rattle.play_command.specs.declared.which_situation.WhichSituation.TheVariants.{Longest}
use Rattle.command_contracts.proofs.ProgramLemmas.{no_input_defines_one}

-- ---- what is put, text after text

-- two texts that are put one after the other, and three
pub puts_both : (before first second middle after : List ℕ) → middle ≡ before ++ first → after ≡ middle ++ second → after ≡ before ++ (first ++ second)
puts_both before first second middle after one other = other ∙ (ap (λ (text : List ℕ). text ++ second) one ∙ append_assoc before first second)

pub puts_three : (before first second third middle later after : List ℕ) → middle ≡ before ++ first → later ≡ middle ++ second → after ≡ later ++ third → after ≡ before ++ (first ++ (second ++ third))
puts_three before first second third middle later after one two three =
    puts_both before first (second ++ third) middle after one (puts_both middle second third later after two three)

-- ---- what is printed is so

-- a table proof has an entry for each edge of the closure
pub entries_are : (net : Plan) (cert : Certificate) (proves : Proves net cert) → size_of cert ≡ length (edges_of proves.of.table)
entries_are net cert proves = ap size_of proves.of.is ∙ length-map (edges_of proves.of.table) (entry_of net)

-- if this is put of a network that a certificate proves controllable, that is printed
pub printed_controllable : (net : Plan) (cert : Certificate) (last : ℕ) (before after : List ℕ) → Proves net cert → IsLastMoment net last
    → after ≡ before ++ (controllable_text (size_of cert) last ++ judged_line (judgement_of net cert)) → PutsAfter (λ more. PrintsControllable net more Printed) before after
printed_controllable net cert last before after proves is_last puts =
    let text : ℕ → List ℕ = λ entries. controllable_text entries last ++ judged_line (judgement_of net cert) in
    (text (size_of cert), puts, record { cert = cert; proves = proves; last = last; is_last = is_last; is = ap text (entries_are net cert proves); reported = refl })

-- a network that is forged has no delay
no_delay : (words : ForgeWords) (net : Plan) → built (forged_parts words.number words.tasks) ≡ Ok net → net.delay ≡ 0
no_delay words net forged = subst (λ (made : Result Plan BuildFault). IfOk made (λ n. n.delay ≡ 0)) forged (built_delay (forged_parts words.number words.tasks))

-- if the verdict of the shown form of a network that is forged, which is the network itself, is put after what it has, that is printed
pub printed_forged : (words : ForgeWords) (net same : Plan) (counted put : List ℕ) (end : NoInputEnd) → built (forged_parts words.number words.tasks) ≡ Ok net → same ≡ net → counted ≡ counts_text net
    → PutsAfter (λ more. PrintsVerdict (shown_form same) more end) counted put → PrintsForged words put end
printed_forged words net same counted put end forged is counts puts = record {
  net = net;
  forged = forged;
  verdict =
      subst (λ (n : Plan). PutsAfter (λ more. PrintsVerdict n more end) (counts_text net) put) (ap shown_form is ∙ shown_same net (no_delay words net forged))
      (subst (λ (text : List ℕ). PutsAfter (λ more. PrintsVerdict (shown_form same) more end) text put) counts puts);
}

-- ---- what is printed is one

last_once : AtMostOneEarliest → (net : Plan) (last other : ℕ) → IsLastMoment net last → IsLastMoment net other → last ≡ other
last_once one net last other is also =
    is.is ∙ (ap greatest_of (one net (situation_of Longest net) is.schedule also.schedule is.earliest also.earliest) ∙ sym also.is)

controllable_once : AtMostOneEarliest → (net : Plan) (a b : List ℕ) (x y : NoInputEnd) → PrintsControllable net a x → PrintsControllable net b y → (a ≡ b) × (x ≡ y)
controllable_once one net a b x y reported also =
    let cert : reported.cert ≡ also.cert = law_certificates_are_one net reported.cert also.cert (inl reported.proves) (inl also.proves) in
    let last : reported.last ≡ also.last = last_once one net reported.last also.last reported.is_last also.is_last in
    let text : Certificate → ℕ → List ℕ = λ c l. controllable_text (size_of c) l ++ judged_line (judgement_of net c) in
    let first : a ≡ text reported.cert reported.last = reported.is ∙ ap (λ (n : ℕ). controllable_text n reported.last ++ judged_line (judgement_of net reported.cert)) (sym (entries_are net reported.cert reported.proves)) in
    let second : b ≡ text also.cert also.last = also.is ∙ ap (λ (n : ℕ). controllable_text n also.last ++ judged_line (judgement_of net also.cert)) (sym (entries_are net also.cert also.proves)) in
    (first ∙ (ap (λ (c : Certificate). text c reported.last) cert ∙ (ap (text also.cert) last ∙ sym second)), reported.reported ∙ sym also.reported)

refuted_once : (net : Plan) (a b : List ℕ) (x y : NoInputEnd) → PrintsRefuted net a x → PrintsRefuted net b y → (a ≡ b) × (x ≡ y)
refuted_once net a b x y reported also =
    let cert : reported.cert ≡ also.cert = law_certificates_are_one net reported.cert also.cert (inr reported.refutes) (inr also.refutes) in
    (reported.is ∙ (ap (λ (c : Certificate). refuted_text (size_of c) ++ judged_line (judgement_of net c)) cert ∙ sym also.is), reported.reported ∙ sym also.reported)

verdict_once : AtMostOneEarliest → (net : Plan) (a b : List ℕ) (x y : NoInputEnd) → PrintsVerdict net a x → PrintsVerdict net b y → (a ≡ b) × (x ≡ y)
verdict_once one net a b x y (inl kept) (inl also) = controllable_once one net a b x y kept also
verdict_once one net a b x y (inl kept) (inr broken) = absurd (broken.refutes.never kept.proves.some)
verdict_once one net a b x y (inr broken) (inl kept) = absurd (broken.refutes.never kept.proves.some)
verdict_once one net a b x y (inr broken) (inr also) = refuted_once net a b x y broken also

forged_once : AtMostOneEarliest → (words : ForgeWords) (a b : List ℕ) (x y : NoInputEnd) → PrintsForged words a x → PrintsForged words b y → (a ≡ b) × (x ≡ y)
forged_once one words a b x y reported also =
    let net : reported.net ≡ also.net = (let both = sym reported.forged ∙ also.forged in cc) in
    let other : PutsAfter (λ more. PrintsVerdict reported.net more y) (counts_text reported.net) b = subst (λ (n : Plan). PutsAfter (λ more. PrintsVerdict n more y) (counts_text n) b) (sym net) also.verdict in
    let same = verdict_once one reported.net reported.verdict.0 other.0 x y reported.verdict.2 other.2 in
    (reported.verdict.1 ∙ (ap (λ (more : List ℕ). counts_text reported.net ++ more) same.0 ∙ sym other.1), same.1)

-- for given words one text is printed, and the run ends in one way
pub forge_defines_one : AtMostOneEarliest → EachDefinesOne forge_program
forge_defines_one one = record { each = λ words. no_input_defines_one (PrintsForged words) (forged_once one words) }
