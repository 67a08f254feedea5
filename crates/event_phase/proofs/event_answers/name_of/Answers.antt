use Rattle.std.proofs.Common.{rules, ◌≡◌, true}
use Rattle.net_model.specs.Names.{is_name}
use Rattle.net_model.proofs.NameLemmas.{length_of_name}
use Rattle.event_phase.proofs.event_answers.name_of.Goals as goal

pub returns-clause-size : goal.returns-clause-size
returns-clause-size c =
    let named : is_name c.bytes.result.now ≡ true = search rules in
    length_of_name c.bytes.result.now named
