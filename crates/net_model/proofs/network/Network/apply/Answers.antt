use Rattle.net_model.specs.EditedNetwork.{edited}
use Rattle.net_model.proofs.EditSoundness.{edited_numbers, numbers_of}
use Rattle.net_model.proofs.network.Network.apply.Goals as goal

pub returns-clause-numbers : goal.returns-clause-numbers
returns-clause-numbers c numbers = numbers_of (edited c.args.self.now c.args.edit.now) (edited_numbers c.args.self.now c.args.edit.now numbers) _ c.changed.ensures
