use Rattle.std.proofs.Common.{rules, ◌≡◌, ◌∙◌, ◌+◌, ℕ, ℤ, Option, w64, to_z, of_z, ap, sym, leb, arith}
use Rattle.std.specs.Prelude.{is_some, pos, unsigned_abs}
use Rattle.std.proofs.lemmas.Bool.{le-leb}
use Rattle.net_model.specs.declared.part.Link.{Link}
use Rattle.live_executor.specs.Due.{holds_from}
use Rattle.live_executor.proofs.DueLemmas.{wait_not_active, wait_ended, wait_goes_by}
use Rattle.live_executor.proofs.condition_moments.wait_met.Goals as goal

pub bounds-links-wait : goal.bounds-links-wait
bounds-links-wait c = c.requires.wait.within

pub of-requires : goal.of-requires
of-requires c =
    let d : Link = record { from = record { 0 = 0 }; low = pos 0; high = pos 0; to = record { 0 = 0 } } in
    (c.requires.links c.args.wait.0.0 d c.requires.wait.within).from_point

pub returns-in_err-activated : goal.returns-in_err-activated
returns-in_err-activated c = λ t.
    let d : Link = record { from = record { 0 = 0 }; low = pos 0; high = pos 0; to = record { 0 = 0 } } in
    wait_not_active c.args.links.now c.args.moments.now c.args.wait d c.requires.wait.within t (sym c.of.ensures.moment ∙ c.in_err-activated.was) ∙ sym (ap (λ (o : Option ℕ). holds_from o t) c.from_residual.ensures)

pub of-requires-2 : goal.of-requires-2
of-requires-2 c =
    let d : Link = record { from = record { 0 = 0 }; low = pos 0; high = pos 0; to = record { 0 = 0 } } in
    (c.requires.links c.args.wait.0.0 d c.requires.wait.within).to_point

pub returns-then-is_some : goal.returns-then-is_some
returns-then-is_some c = λ t.
    let d : Link = record { from = record { 0 = 0 }; low = pos 0; high = pos 0; to = record { 0 = 0 } } in
    wait_ended c.args.links.now c.args.moments.now c.args.wait d c.requires.wait.within t c.in_ok-activated.activated (sym c.of.ensures.moment ∙ c.in_ok-activated.was) (ap is_some (sym c.of-2.ensures.moment) ∙ sym c.if-is_some.ensures) ∙ sym (le-leb 0 t (omega arith))

pub returns : goal.returns
returns c = λ t.
    let d : Link = record { from = record { 0 = 0 }; low = pos 0; high = pos 0; to = record { 0 = 0 } } in
    let kept : to_z w64 (of_z w64 c.args.wait.1) ≡ c.args.wait.1 = search rules in
    wait_goes_by c.args.links.now c.args.moments.now c.args.wait d c.requires.wait.within t c.in_ok-activated.activated (sym c.of.ensures.moment ∙ c.in_ok-activated.was) (ap is_some (sym c.of-2.ensures.moment) ∙ sym c.if-is_some.ensures)
    ∙ ap (λ (n : ℕ). leb (c.in_ok-activated.activated + n) t) (ap (λ (w : ℤ). unsigned_abs w) (sym kept) ∙ sym c.unsigned_abs.ensures.value)
