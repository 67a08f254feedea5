use Rattle.std.proofs.Common.{◌≡◌, ◌+◌, suc, Option, ℕ, pos, get_or, ap, sym, subst, ◌∙◌, arith}
use Rattle.std.specs.Mem.Slots.{slots_items}
use Rattle.std.proofs.lemmas.Option.{get_or_from_slice_get}
use Rattle.net_model.specs.Moments.{moment_of}
use Rattle.net_model.specs.declared.part.Link.{Link}
use Rattle.sensor_desk.specs.Comparison.{IsSame}
use Rattle.sensor_desk.specs.Words.{held}
use Rattle.sensor_desk.proofs.ComparisonLemmas.{read_at}
use Rattle.sensor_desk.proofs.comparison.agrees.Goals as goal

pub returns : goal.returns
returns c link at =
    let words = slots_items c.args.words.now.words in
    let reached : c.moment_of_word-posted.result ≡ held (get_or words (suc c.args.number) 0) =
    c.moment_of_word-posted.ensures ∙ ap held (sym (read_at words (c.args.number + 1) (suc c.args.number) c.word.result (omega arith) c.word.ensures)) in
    let there : c.moment_of.result ≡ moment_of c.args.executor.now.moments link.to =
    c.moment_of.ensures
    ∙ ap (λ (l : Link). moment_of c.args.executor.now.moments l.to) (get_or_from_slice_get c.links.result.now c.args.number link (record { from = record { 0 = 0 }; low = pos 0; high = pos 0; to = record { 0 = 0 } })
    (ap (λ ls. Rattle.std.specs.Prelude.slice_get ls c.args.number) c.links.ensures.links ∙ at)) in
    subst (λ (p : Option ℕ × Option ℕ). IsSame p.0 p.1 c.is_same.result) (λ i. (reached i, there i)) c.is_same.ensures
