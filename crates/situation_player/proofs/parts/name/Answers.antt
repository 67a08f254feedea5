use Rattle.std.proofs.Common.{◌∙◌, ap, arith}
use Rattle.net_model.specs.Names.{is_name}
use Rattle.situation_player.proofs.NameLemmas.{numbered_is_name}
use Rattle.situation_player.proofs.parts.name.Goals as goal

pub named-requires : goal.named-requires
named-requires c = ap is_name (c.as_bytes.ensures.value ∙ c.in_ok-text.ensures.ok) ∙ numbered_is_name c.args.letter.now c.args.number c.requires (omega (arith, c.ranges.number.fits))
