use Rattle.std.proofs.Common.{◌∙◌, ap, sym, length}
use Rattle.back_propagation.proofs.SlimSteps.{slots_many}
use Rattle.back_propagation.proofs.slots.Slots.len.Goals as goal

pub returns : goal.returns
returns c = c.len.ensures ∙ (c.self.inside.weights.ok.0 ∙ (sym (slots_many c.self.inside) ∙ ap length c.self.view_is))
