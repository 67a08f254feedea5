-- Certificates of either kind are read by their grammar.
use Rattle.std.proofs.Common.{ℕ}
use Rattle.cert_format.specs.CertificateGrammar.{certificate_lines}
use Rattle.cert_format.specs.StrongGrammar.{strong_lines}
use Rattle.cert_format.proofs.TextLemmas.{certificate_lawful}
use Rattle.cert_format.proofs.StrongTextLemmas.{strong_lawful}
use Rattle.command_engine.specs.Grammars.{ReadsBy}
use Rattle.command_engine.proofs.AlternativeLemmas.{left_by, right_by}
use Rattle.command_engine.proofs.TestedTextLemmas.{tested_by}
use Rattle.input_texts.specs.ProofInputs.{control_reader, control_tests, initial_proof, proof_reader, proof_texts, strong_cert_reader, strong_tests}
use Rattle.input_texts.specs.SectionInputs.{initial_input, section_reader, section_texts}
use Rattle.input_texts.specs.declared.proof_input.ProofKind.{ProofKind}
use Rattle.input_texts.specs.declared.proof_input.ProofKind.TheVariants.{Control, Strong}
use Rattle.input_texts.proofs.SectionLemmas.{section_by}

pub proof_by : (kind : ProofKind) (past : ℕ) → ReadsBy proof_reader (initial_proof kind) past (proof_texts kind past)
proof_by Control past =
    left_by control_reader strong_cert_reader past (proof_texts Control past) (record { text = initial_input certificate_lines; test = record {} })
    (tested_by (section_reader certificate_lines) control_tests (record {}) (initial_input certificate_lines) past (section_texts certificate_lines past) (section_by certificate_lines certificate_lawful past))
proof_by Strong past =
    right_by control_reader strong_cert_reader past (proof_texts Strong past) (record { text = initial_input strong_lines; test = record {} })
    (tested_by (section_reader strong_lines) strong_tests (record {}) (initial_input strong_lines) past (section_texts strong_lines past) (section_by strong_lines strong_lawful past))
