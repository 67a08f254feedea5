use Rattle.std.proofs.Common.{arith}
use Rattle.net_model.specs.BuiltNetwork.{built}
use Rattle.net_model.proofs.PlaceLemmas.{built_place, refused_is}
use Rattle.plan_format.proofs.declaration.build.Goals as goal

pub refused-requires : goal.refused-requires
refused-requires c = λ place is.
    let parts = c.args.parts.now in
    let within = built_place parts c.in-Err.fault place (refused_is c.in-Err.fault (built parts) place c.in-Err.ensures.built is) is in
    (within.0, omega (arith, within.1, c.requires.numbered))
