use Rattle.std.proofs.Common.{◌∙◌, sym, subst, length, List}
use Rattle.net_model.specs.declared.part.Link.{Link}
use Rattle.dispatch_net.specs.Held.{AreEnds, AreHeldLists}
use Rattle.dispatch_net.proofs.EndLemmas.{all_ends}
use Rattle.dispatch_net.proofs.held_lists.Held.new.Goals as goal

pub invariant_of-result : goal.invariant_of-result
invariant_of-result c =
    let net = c.args.net.now in
    let ends = c.in_ok-ends.ends.items in
    let are : AreEnds net.links (length net.points) ends = c.in_ok-ends.ensures in
    let made : AreHeldLists net.links ends c.args.lists.items = record {
      in_order = c.requires.in_order;
      ends_are = subst (λ n. AreEnds net.links n ends) (sym c.requires.whole) are;
      all_ends = all_ends net ends c.links.ensures.sound are;
    } in
    subst (λ (links : List Link). AreHeldLists links ends c.args.lists.items) (sym (c.in_ok-links.ensures.items ∙ c.links.ensures.links)) made
