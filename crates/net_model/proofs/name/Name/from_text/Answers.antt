use Rattle.std.proofs.Common.{rules}
use Rattle.net_model.proofs.NameLemmas.{length_of_name}
use Rattle.net_model.proofs.name.Name.from_text.Goals as goal

pub padded-requires : goal.padded-requires
padded-requires c = search (rules, length_of_name)
