-- Edits that relax a network.
use Rattle.std.proofs.Common.{◌≡◌, ℕ, ◌||◌, zero, suc, List, [], ◌∷◌, Some, Result, Ok, IfOk, not, int_lt, pos, refl, sym, subst, arith}
use Rattle.std.specs.Prelude.{slice_get}
use Rattle.std.specs.List.{AllZip, slice_set}
use Rattle.std.proofs.lemmas.Int.{ints}
use Rattle.std.proofs.lemmas.Option.{get_or_from_slice_get, none-some, same_Some, slice_get_within}
use Rattle.std.proofs.lemmas.List.Elements.{All-set}
use Rattle.net_model.specs.BuiltNetwork.{refuse_if}
use Rattle.net_model.specs.EditedNetwork.{edited, with_interval, with_number}
use Rattle.net_model.specs.Limits.{within_limit}
use Rattle.net_model.specs.Network.{Plan, bound_named, link_named}
use Rattle.net_model.specs.declared.edit.Edit.{Edit}
use Rattle.net_model.specs.declared.edit.Edit.TheVariants as edits
use Rattle.net_model.specs.declared.edit.EditFault.{EditFault}
use Rattle.net_model.specs.declared.edit.EditFault.TheVariants as fault
use Rattle.net_model.specs.declared.part.Link.{Link}
use Rattle.net_model.specs.declared.part.Which.TheVariants.{Number}
use Rattle.net_model.proofs.EditLemmas.{All-remove}
use Rattle.net_model.proofs.EditSoundness.{if_known, if_passed}
use Rattle.relaxation_laws.specs.Laws.{EditsRelax}
use Rattle.relaxation_laws.specs.Relaxations.{IsImplied, IsNarrowed, IsRelaxed, Relaxes}
use Rattle.relaxation_laws.proofs.RelaxationLemmas.{implied_itself, narrowed_itself}

-- links of which one is narrowed
narrowed_at : (links : List Link) (k : ℕ) (link other : Link) → slice_get links k ≡ Some link → IsNarrowed link other → AllZip IsNarrowed links (slice_set links k other)
narrowed_at [] k link other at narrowed = absurd (none-some link at)
narrowed_at (l ∷ links) zero link other at narrowed = (subst (λ (x : Link). IsNarrowed x other) (sym (same_Some l link at)) narrowed, narrowed_itself links)
narrowed_at (l ∷ links) (suc k) link other at narrowed = ((refl, refl, omega (arith, ints), omega (arith, ints)), narrowed_at links k link other at narrowed)

relaxed_by : (net : Plan) (edit : Edit) → Relaxes net edit → IfOk (edited net edit) (IsRelaxed net)
relaxed_by net (edits.AddPoint name) relaxes = absurd relaxes
relaxed_by net (edits.AddBound name from to most) relaxes = absurd relaxes
relaxed_by net (edits.AddLink from low high to) relaxes = absurd relaxes
relaxed_by net (edits.DropPoint name) relaxes = absurd relaxes
relaxed_by net (edits.DropLink to) relaxes = absurd relaxes
relaxed_by net (edits.DropBound name) relaxes =
    if_known (IsRelaxed net) (bound_named net name) _ (λ id named.
    record { points = refl; bounds = All-remove (IsImplied net.bounds) net.bounds id.0 (implied_itself net.bounds); links = narrowed_itself net.links; delay = omega arith })
relaxed_by net (edits.SetBound name most) relaxes =
    if_known (IsRelaxed net) (bound_named net name) _ (λ id named.
    if_known (IsRelaxed net) (slice_get net.bounds id.0) _ (λ bound at.
    if_passed (IsRelaxed net) (not (within_limit most)) (fault.Limit Number) (Ok (with_number net id most bound)) (λ small.
    let less = relaxes id bound named at in
    record {
      points = refl;
      bounds = All-set (IsImplied net.bounds) net.bounds id.0 (record bound { most = most })
          (record { implying = bound; among = (id.0, slice_get_within net.bounds id.0 bound at, get_or_from_slice_get net.bounds id.0 bound bound at); loosened = (refl, refl, less) }) (implied_itself net.bounds);
      links = narrowed_itself net.links;
      delay = omega arith;
    })))
relaxed_by net (edits.SetLink to low high) relaxes =
    if_known (IsRelaxed net) (link_named net to) _ (λ id named.
    if_known (IsRelaxed net) (slice_get net.links id.0) _ (λ link at.
    if_passed (IsRelaxed net) (int_lt low (pos 1) || int_lt high low) fault.BadInterval (refuse_if (not (within_limit high)) (fault.Limit Number) (Ok (with_interval net id low high link))) (λ good.
    if_passed (IsRelaxed net) (not (within_limit high)) (fault.Limit Number) (Ok (with_interval net id low high link)) (λ small.
    let within = relaxes id link named at in
    record {
      points = refl;
      bounds = implied_itself net.bounds;
      links = narrowed_at net.links id.0 link (record link { low = low; high = high }) at (refl, refl, within.0, within.1);
      delay = omega arith;
    }))))

pub law_edits_relax : EditsRelax
law_edits_relax net edit new relaxes is = subst (λ (answer : Result Plan EditFault). IfOk answer (IsRelaxed net)) is (relaxed_by net edit relaxes)
