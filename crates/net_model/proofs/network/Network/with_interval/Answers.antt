use Rattle.std.proofs.Common.{◌≡◌, ◌||◌, Bool, true, sym, ap, ◌∙◌, ℤ, pos, w64, List, Ok, set, get_or}
use Rattle.std.specs.Prelude.{int_lt}
use Rattle.std.proofs.lemmas.Int.{to_z-of_z}
use Rattle.net_model.specs.Limits.{within_limit}
use Rattle.net_model.specs.Network.{Plan, IsPlan}
use Rattle.net_model.specs.EditedNetwork.{edited, with_interval}
use Rattle.net_model.specs.declared.part.Link.{Link}
use Rattle.net_model.specs.declared.edit.Edit.TheVariants as edits
use Rattle.net_model.proofs.EditLemmas.{interval_made, interval_refused, longest_refused, made_sound, made_of}
use Rattle.net_model.proofs.network.Network.with_interval.Goals as goal
use Rattle.net_model.proofs.network.Network.with_interval.Goals.{After-as_slice, then-low-lt1-via-then-low-lt1, then-low-lt1-via-else-low-lt1+then-high-low}

-- the default if there is no link
nothing : Link
nothing = record { from = record { 0 = 0 }; low = pos 0; high = pos 0; to = record { 0 = 0 } }

pub returns-then-low-lt1 : goal.returns-then-low-lt1
returns-then-low-lt1 c =
    let low = to_z-of_z w64 c.args.low c.ranges.low in
    let high = to_z-of_z w64 c.args.high c.ranges.high in
    let bad : (int_lt c.args.low (pos 1) || int_lt c.args.high c.args.low) ≡ true = elim c.then-low-lt1.branch [
      | then-low-lt1-via-then-low-lt1 w ↦ ap (λ (t : Bool). t || int_lt c.args.high c.args.low) (ap (λ (n : ℤ). int_lt n (pos 1)) (sym low) ∙ w.if-low-lt1.true)
      | then-low-lt1-via-else-low-lt1+then-high-low w ↦
          let above = ap (λ (n : ℤ). int_lt n (pos 1)) (sym low) ∙ w.if-low-lt1.false in
          let below = (λ i. int_lt (sym high i) (sym low i)) ∙ w.if-high-low.true in
          (λ i. above i || below i)
    ] in
    interval_refused c.args.self.now c.args.to.now c.in_ok-id.id c.args.low c.args.high nothing (sym c.named_link.ensures ∙ c.in_ok-id.ensures.ok_part) bad

pub returns-then-not-is_within_limit : goal.returns-then-not-is_within_limit
returns-then-not-is_within_limit c =
    let low = to_z-of_z w64 c.args.low c.ranges.low in
    let high = to_z-of_z w64 c.args.high c.ranges.high in
    longest_refused c.args.self.now c.args.to.now c.in_ok-id.id c.args.low c.args.high nothing (sym c.named_link.ensures ∙ c.in_ok-id.ensures.ok_part)
    (ap (λ (n : ℤ). int_lt n (pos 1)) (sym low) ∙ c.if-low-lt1.false) ((λ i. int_lt (sym high i) (sym low i)) ∙ c.if-high-low.false)
    (ap within_limit (sym high) ∙ sym c.is_within_limit.ensures ∙ c.if-not-is_within_limit.true)

-- the network that is wanted
wanted : After-as_slice → Plan
wanted c = with_interval c.args.self.now c.in_ok-id.id c.args.low c.args.high (get_or c.args.self.now.links c.in_ok-id.id.0 nothing)

made : (c : After-as_slice) → IsPlan (wanted c) × (edited c.args.self.now (edits.SetLink c.args.to.now c.args.low c.args.high) ≡ Ok (wanted c))
unfolding wanted
made c =
    let low = to_z-of_z w64 c.args.low c.ranges.low in
    let high = to_z-of_z w64 c.args.high c.ranges.high in
    interval_made c.args.self.now c.links.ensures.sound c.args.to.now c.in_ok-id.id c.args.low c.args.high nothing (sym c.named_link.ensures ∙ c.in_ok-id.ensures.ok_part)
    (ap (λ (n : ℤ). int_lt n (pos 1)) (sym low) ∙ c.if-low-lt1.false) ((λ i. int_lt (sym high i) (sym low i)) ∙ c.if-high-low.false)
    (ap within_limit (sym high) ∙ sym c.is_within_limit.ensures ∙ c.if-not-is_within_limit.false)

links_are : (c : After-as_slice) → c.as_slice.result.now ≡ (wanted c).links
unfolding wanted nothing
links_are c =
    let low = to_z-of_z w64 c.args.low c.ranges.low in
    let high = to_z-of_z w64 c.args.high c.ranges.high in
    c.as_slice.ensures.value ∙ c.in_ok-links.ensures ∙ ap (λ (links : List Link). set links c.in_ok-id.id.0 c.with_interval-link.result) c.links-2.ensures.links
    ∙ ap (set c.args.self.now.links c.in_ok-id.id.0) c.with_interval-link.ensures
    ∙ (λ i. set c.args.self.now.links c.in_ok-id.id.0 (record (get_or (c.links.ensures.links i) c.in_ok-id.id.0 nothing) { low = low i; high = high i }))

pub of_lists-requires : goal.of_lists-requires
unfolding wanted
of_lists-requires c = made_sound (wanted c) c.points.result.now c.bounds.result.now c.as_slice.result.now c.points.ensures.points c.bounds.ensures.bounds (links_are c) (made c).0

pub returns : goal.returns
unfolding wanted
returns c =
    let before = (goal.at.returns c).After-as_slice in
    let is = made_of (wanted before) c.points.result.now c.bounds.result.now c.as_slice.result.now c.points.ensures.points c.bounds.ensures.bounds (links_are before) in
    (made before).1 ∙ ap Ok (sym (c.in_ok-of_lists.ensures ∙ is))
