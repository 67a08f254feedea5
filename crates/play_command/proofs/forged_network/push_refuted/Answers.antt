use Rattle.std.proofs.Common.{ℕ, ◌++◌, codes, ap, ◌∙◌}
use Rattle.std.proofs.lemmas.Result.{on_ok_weaker}
use Rattle.play_command.specs.ForgeCommand.{count_line, size_of}
use Rattle.common_answers.specs.VerdictLines.{refuted_line}
use Rattle.play_command.proofs.ForgeLemmas.{puts_both}
use Rattle.play_command.proofs.forged_network.push_refuted.Goals as goal

pub returns : goal.returns
returns c =
    let before = c.args.answer.now.text in
    let middle = c.push_line.new.self.text in
    on_ok_weaker c.push_count.result
    (λ puts. puts_both before refuted_line (count_line (codes "lines") (size_of c.args.certificate.now)) middle c.push_count.new.answer.text c.in_ok-push_line.ensures.text
    (puts ∙ ap (λ (n : ℕ). middle ++ count_line (codes "lines") n) c.size_of.ensures))
    c.push_count.ensures
