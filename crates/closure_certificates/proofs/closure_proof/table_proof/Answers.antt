use Rattle.std.proofs.Common.{◌∙◌}
use Rattle.closure_certificates.proofs.LawProofs.{points_inside, made_accepted, made_weights}
use Rattle.closure_certificates.proofs.closure_proof.table_proof.Goals as goal

pub point_names-requires : goal.point_names-requires
point_names-requires c = points_inside c.args.net.now c.args.table.now c.args.order.now c.sound.ensures c.requires.closure c.requires.order

pub returns-clause-accepted : goal.returns-clause-accepted
returns-clause-accepted c =
    made_accepted c.args.net.now c.args.table.now c.args.order.now c.sound.ensures c.requires.closure c.new.result c.new-2.result (c.new.ensures ∙ c.in_ok-names.ensures) (c.new-2.ensures ∙ c.in_ok-entries.ensures) c.requires.order

pub returns-clause-weights : goal.returns-clause-weights
returns-clause-weights c =
    made_weights c.args.net.now c.args.table.now c.args.order.now c.sound.ensures c.requires.closure c.new.result c.new-2.result (c.new.ensures ∙ c.in_ok-names.ensures) (c.new-2.ensures ∙ c.in_ok-entries.ensures)
