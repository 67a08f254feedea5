use Rattle.std.proofs.Common.{◌∙◌, ap, sym, Bool, List, Option, None, false}
use Rattle.std.specs.Prelude.{int_le, ◌+ℤ◌, ◌==◌, ◌&&◌}
use Rattle.std.specs.List.{slice_index_or}
use Rattle.std.specs.Option.{option_map_or}
use Rattle.net_model.specs.declared.part.Link.{Link}
use Rattle.dispatch_net.specs.Held.{HeldLists}
use Rattle.dispatch_net.specs.Slim.{implied_over_link}
use Rattle.dispatch_net.proofs.held_lists.Held.is_over_link.Goals as goal

pub returns-in-Some : goal.returns-in-Some
returns-in-Some c =
    let test : Link → Bool = λ link. link.from.0 == c.args.bound.0.0 && int_le c.args.bound.1 (c.args.other.1 +ℤ link.low) in
    c.is_through_link.ensures
    ∙ ap (λ (o : Option Link). option_map_or test o false) (c.in-Some.ensures ∙ ap (λ (ends : List (Option Link)). slice_index_or ends c.args.other.0.0 None) c.as_slice.ensures.value)
    ∙ sym (c.self.invariant.all_ends test c.args.other.0.0)
    ∙ ap (λ (made : HeldLists). implied_over_link made.links c.args.bound c.args.other) c.self.view_is

pub returns-in-None : goal.returns-in-None
returns-in-None c =
    let test : Link → Bool = λ link. link.from.0 == c.args.bound.0.0 && int_le c.args.bound.1 (c.args.other.1 +ℤ link.low) in
    ap (λ (o : Option Link). option_map_or test o false) (c.in-None.ensures ∙ ap (λ (ends : List (Option Link)). slice_index_or ends c.args.other.0.0 None) c.as_slice.ensures.value)
    ∙ sym (c.self.invariant.all_ends test c.args.other.0.0)
    ∙ ap (λ (made : HeldLists). implied_over_link made.links c.args.bound c.args.other) c.self.view_is
