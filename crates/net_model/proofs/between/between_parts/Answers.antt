use Rattle.std.proofs.Common.{refl, arith}
use Rattle.net_model.proofs.NameLemmas.{short_named}
use Rattle.net_model.proofs.between.between_parts.Goals as goal

pub with_end-requires : goal.with_end-requires
with_end-requires c = record {
  named = short_named c.args.name.now _ c.sound.ensures c.requires.short refl (omega arith);
  fits = omega (arith, c.requires.short);
}

pub with_end-requires-2 : goal.with_end-requires-2
with_end-requires-2 c = record {
  named = short_named c.args.name.now _ c.sound.ensures c.requires.short refl (omega arith);
  fits = omega (arith, c.requires.short);
}
