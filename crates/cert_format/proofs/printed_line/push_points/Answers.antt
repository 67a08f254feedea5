use Rattle.std.proofs.Common.{rules, List, [], ◌∷◌, ℕ, IsTrue}
use Rattle.std.proofs.lemmas.List.Elements.{All-more}
use Rattle.net_model.specs.Names.{is_name}
use Rattle.texts.specs.PrintedLines.{printed_line}
use Rattle.cert_format.proofs.PrintLemmas.{written_more}
use Rattle.cert_format.proofs.printed_line.push_points.Goals as goal

pub loop-point-preserved : goal.loop-point-preserved
loop-point-preserved c =
    let print : List ℕ → List ℕ = λ point. printed_line (c.args.first.now ∷ point ∷ []) in
    record {
      text = rw (c.in_ok-push_line.ensures, c.bytes.ensures.text, c.loop-point.invariant.text) (written_more print c.args.out.now.items c.args.points.now c.loop-point.point-index c.point-item.result c.loop-point-test.true (search rules));
      spelled = All-more (λ point. IsTrue (is_name point)) c.args.points.now c.loop-point.point-index c.point-item.result c.loop-point-test.true c.loop-point.invariant.spelled (search rules);
    }
