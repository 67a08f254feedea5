-- The base table stands on the network.
use Rattle.std.proofs.Common.{sym, subst}
use Rattle.closure_model.specs.Derivations.{base_support}
use Rattle.closure_model.specs.ReferenceRow.{HasWeightsWithin}
use Rattle.closure_model.proofs.RoundClosure.{standing_within}
use Rattle.closure_model.proofs.SupportLemmas.{law_base_stands}
use Rattle.example_rounds.proofs.workers.base.Goals as goal

pub returns-clause-within : goal.returns-clause-within
returns-clause-within c =
    subst (HasWeightsWithin c.args.net.now) (sym c.in_ok-of.ensures.base) (standing_within c.args.net.now c.sound.ensures (base_support c.args.net.now) (law_base_stands c.args.net.now))
