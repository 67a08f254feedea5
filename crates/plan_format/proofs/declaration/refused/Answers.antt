use Rattle.std.proofs.Common.{◌≡◌, Some, sym, ◌∙◌}
use Rattle.net_model.specs.BuiltNetwork.{place_of}
use Rattle.plan_format.proofs.DeclarationLemmas.{states_line}
use Rattle.plan_format.proofs.declaration.refused.Goals as goal

pub returns-in-Some : goal.returns-in-Some
returns-in-Some c =
    let is : place_of c.args.fault ≡ Some c.in-Some.place = sym c.place.ensures ∙ c.in-Some.is in
    let within = c.requires c.in-Some.place is in
    states_line c.args.lines.now c.args.fault c.in-Some.place is within.0 within.1
