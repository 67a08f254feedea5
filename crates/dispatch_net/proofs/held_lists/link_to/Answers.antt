use Rattle.std.proofs.Common.{◌∙◌, ap, pos, sym, Option, Some}
use Rattle.std.specs.Prelude.{slice_index_or}
use Rattle.net_model.specs.declared.part.Link.{Link}
use Rattle.dispatch_net.proofs.EndLemmas.{link_found, no_link_found}
use Rattle.dispatch_net.proofs.held_lists.link_to.Goals as goal

abbrev none : Link
none = record { from = record { 0 = 0 }; low = pos 0; high = pos 0; to = record { 0 = 0 } }

pub returns-in_err-link : goal.returns-in_err-link
returns-in_err-link c = c.from_residual.ensures ∙ sym (no_link_found c.args.net.now c.args.point (sym c.activation.ensures ∙ c.in_err-link.was))

pub returns : goal.returns
returns c =
    let found = link_found c.args.net.now c.args.point c.in_ok-link.link none (sym c.activation.ensures ∙ c.in_ok-link.was) in
    ap (λ links. let o : Option Link = Some (slice_index_or links c.in_ok-link.link.0 none) in o) c.links.ensures.links ∙ sym found.1
