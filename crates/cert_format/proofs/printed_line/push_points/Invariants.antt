use Rattle.std.proofs.Common.{◌≡◌, ◌++◌, ◌∷◌, [], take, All, IsTrue}
use Rattle.std.specs.List.{flat_map}
use Rattle.texts.specs.PrintedLines.{printed_line}
use Rattle.net_model.specs.Names.{is_name}
use Rattle.cert_format.proofs.printed_line.push_points.Given as goal

abbrev pub invariant-loop-point : goal.invariant-loop-point
invariant-loop-point l = record {
  text : l.out.items ≡ l.fn.out.items ++ flat_map (λ point. printed_line (l.first ∷ point ∷ [])) (take l.point-index l.points);
  spelled : All (λ point. IsTrue (is_name point)) (take l.point-index l.points);
}
