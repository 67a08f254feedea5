use Rattle.std.proofs.Common.{◌≡◌, List, ℕ, ◌<◌, ◌≤◌, ◌++◌, length, get_or, ap, sym, subst, ◌∙◌}
use Rattle.std.specs.List.{flat_map}
use Rattle.std.proofs.lemmas.List.{take_all}
use Rattle.texts.specs.PrintedLines.{printed_line}
use Rattle.net_model.specs.Network.{IsBound}
use Rattle.net_model.specs.NetworkParts.{bound_part}
use Rattle.net_model.specs.declared.part.Bound.{Bound}
use Rattle.plan_format.specs.PlanParts.{part_words}
use Rattle.plan_format.proofs.PrintLemmas.{written_more}
use Rattle.plan_format.proofs.print.push_bounds.Goals as goal

pub push_bound-requires : goal.push_bound-requires
push_bound-requires c =
    let net = c.args.net.now in
    let place = c.loop-bound.bound-index in
    let bound = c.bound-item.result in
    let within : place < length net.bounds = subst (λ (bounds : List Bound). place < length bounds) c.bounds-bound-items.ensures.bounds c.loop-bound-test.true in
    let same : bound ≡ get_or net.bounds place bound = c.bound-item.is ∙ ap (λ (bounds : List Bound). get_or bounds place bound) c.bounds-bound-items.ensures.bounds in
    subst (IsBound net) (sym same) (c.bounds-bound-items.ensures.sound.bounds_sound place bound within)

pub loop-bound-preserved : goal.loop-bound-preserved
loop-bound-preserved c =
    let net = c.args.net.now in
    let place = c.loop-bound.bound-index in
    let bound = c.bound-item.result in
    let print : Bound → List ℕ = λ bound. printed_line (part_words (bound_part net.points bound)) in
    let within : place < length net.bounds = subst (λ (bounds : List Bound). place < length bounds) c.bounds-bound-items.ensures.bounds c.loop-bound-test.true in
    let same : bound ≡ get_or net.bounds place bound = c.bound-item.is ∙ ap (λ (bounds : List Bound). get_or bounds place bound) c.bounds-bound-items.ensures.bounds in
    rw (c.in_ok-push_bound.ensures, c.loop-bound.invariant) (written_more print c.args.out.now.items net.bounds place bound within same)

pub returns : goal.returns
returns c =
    let net = c.args.net.now in
    let place = c.loop-bound.bound-index in
    let all : List Bound → List ℕ = λ bounds. c.args.out.now.items ++ flat_map (λ bound. printed_line (part_words (bound_part net.points bound))) bounds in
    let past : length net.bounds ≤ place = subst (λ (bounds : List Bound). length bounds ≤ place) c.bounds-bound-items.ensures.bounds c.loop-bound-test.false in
    c.loop-bound.invariant ∙ ap all (take_all place net.bounds past)
