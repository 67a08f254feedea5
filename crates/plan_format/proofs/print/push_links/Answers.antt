use Rattle.std.proofs.Common.{◌≡◌, List, ℕ, ◌<◌, ◌≤◌, ◌++◌, length, get_or, pos, ap, sym, subst, ◌∙◌}
use Rattle.std.specs.List.{flat_map}
use Rattle.std.proofs.lemmas.List.{take_all, get_or_default}
use Rattle.texts.specs.PrintedLines.{printed_line}
use Rattle.net_model.specs.Network.{IsLink}
use Rattle.net_model.specs.NetworkParts.{link_part}
use Rattle.net_model.specs.declared.part.Link.{Link}
use Rattle.plan_format.specs.PlanParts.{part_words}
use Rattle.plan_format.proofs.PrintLemmas.{written_more}
use Rattle.plan_format.proofs.print.push_links.Goals as goal

-- the default if a list has no link
abbrev none : Link
none = record { from = record { 0 = 0 }; low = pos 0; high = pos 0; to = record { 0 = 0 } }

pub push_link-requires : goal.push_link-requires
push_link-requires c =
    let net = c.args.net.now in
    let place = c.loop-link.link-index in
    let within : place < length net.links = subst (λ (links : List Link). place < length links) c.links-link-items.ensures.links c.loop-link-test.true in
    subst (λ (links : List Link). IsLink net (get_or links place none)) (sym c.links-link-items.ensures.links) (c.links-link-items.ensures.sound.links_sound place none within)

pub loop-link-preserved : goal.loop-link-preserved
loop-link-preserved c =
    let net = c.args.net.now in
    let place = c.loop-link.link-index in
    let link = get_or c.links-link-items.result.now place none in
    let print : Link → List ℕ = λ link. printed_line (part_words (link_part net.points link)) in
    let within : place < length net.links = subst (λ (links : List Link). place < length links) c.links-link-items.ensures.links c.loop-link-test.true in
    let same : link ≡ get_or net.links place link = ap (λ (links : List Link). get_or links place none) c.links-link-items.ensures.links ∙ get_or_default net.links place none link within in
    rw (c.in_ok-push_link.ensures, c.loop-link.invariant) (written_more print c.args.out.now.items net.links place link within same)

pub returns : goal.returns
returns c =
    let net = c.args.net.now in
    let place = c.loop-link.link-index in
    let all : List Link → List ℕ = λ links. c.args.out.now.items ++ flat_map (λ link. printed_line (part_words (link_part net.points link))) links in
    let past : length net.links ≤ place = subst (λ (links : List Link). length links ≤ place) c.links-link-items.ensures.links c.loop-link-test.false in
    c.loop-link.invariant ∙ ap all (take_all place net.links past)
