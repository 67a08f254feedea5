-- A certificate of either kind in an input.
use Rattle.std.specs.Prelude.{ℕ, Bool, true, false, List, Result, Ok, codes}
use Rattle.cert_format.specs.CertificateGrammar.{CertificateProgress, certificate_lines}
use Rattle.cert_format.specs.StrongGrammar.{StrongProgress, strong_lines}
use Rattle.cert_format.specs.declared.certificate.Certificate.{Certificate}
use Rattle.cert_format.specs.declared.strong_cert.StrongCert.{StrongCert}
use Rattle.command_engine.specs.Alternatives.{either_reader}
use Rattle.command_engine.specs.Grammars.{Grammar}
use Rattle.command_engine.specs.Readers.{Reader}
use Rattle.command_engine.specs.TestedTexts.{tested_grammar, tested_reader}
use Rattle.command_engine.specs.declared.alternatives.Either.{Either}
use Rattle.command_engine.specs.declared.alternatives.Either.TheVariants.{Left, Right}
use Rattle.command_engine.specs.declared.tested_texts.Tested.{Tested}
use Rattle.common_answers.specs.declared.faults.Fault.{Fault}
use Rattle.input_texts.specs.SectionInputs.{initial_input, section_reader, section_texts}
use Rattle.input_texts.specs.declared.section_input.SectionInput.{SectionInput}
use Rattle.input_texts.specs.declared.proof_input.AsControl.{AsControl}
use Rattle.input_texts.specs.declared.proof_input.AsStrong.{AsStrong}
use Rattle.input_texts.specs.declared.proof_input.Proof.{Proof}
use Rattle.input_texts.specs.declared.proof_input.Proof.TheVariants as proof
use Rattle.input_texts.specs.declared.proof_input.ProofKind.{ProofKind}
use Rattle.input_texts.specs.declared.proof_input.ProofKind.TheVariants.{Control, Strong}

-- the name of the flag
abbrev pub strong_name : List ℕ
strong_name = codes "strong"

-- the kind by whether the flag `--strong` is given
abbrev pub kind_by : Bool → ProofKind
kind_by true = Strong
kind_by false = Control

-- what a certificate is taken for
abbrev pub control_tests : AsControl → Certificate → ℕ → Result Proof Fault
control_tests test cert number = Ok (proof.Control cert)

abbrev pub strong_tests : AsStrong → StrongCert → ℕ → Result Proof Fault
strong_tests test cert number = Ok (proof.Strong cert)

-- how far a certificate of either kind was read
abbrev pub ProofInput : Type 0
ProofInput = Either (Tested (SectionInput CertificateProgress) AsControl) (Tested (SectionInput StrongProgress) AsStrong)

-- before the first line
abbrev pub initial_proof : ProofKind → ProofInput
initial_proof Control = Left (record { text = initial_input certificate_lines; test = record {} })
initial_proof Strong = Right (record { text = initial_input strong_lines; test = record {} })

-- the readers of the two kinds
abbrev pub control_reader : Reader (Tested (SectionInput CertificateProgress) AsControl) Proof Fault
control_reader = tested_reader (section_reader certificate_lines) control_tests

abbrev pub strong_cert_reader : Reader (Tested (SectionInput StrongProgress) AsStrong) Proof Fault
strong_cert_reader = tested_reader (section_reader strong_lines) strong_tests

-- the reader of certificates of either kind
abbrev pub proof_reader : Reader ProofInput Proof Fault
proof_reader = either_reader control_reader strong_cert_reader

-- the grammar of a certificate of this kind, if so many lines stand before it in the input
abbrev pub proof_texts : ProofKind → ℕ → Grammar Proof Fault
proof_texts Control past = tested_grammar (section_texts certificate_lines past) control_tests (record {}) past
proof_texts Strong past = tested_grammar (section_texts strong_lines past) strong_tests (record {}) past
