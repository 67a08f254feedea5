use Rattle.net_model.proofs.NameLemmas.{padded_over}
use Rattle.net_model.proofs.name.padded.Goals as goal

pub returns-clause-bytes : goal.returns-clause-bytes
returns-clause-bytes c =
    padded_over c.args.text.now c.copy_from_slice.new.self c.copy_from_slice.ensures.after c.requires
