use Rattle.std.proofs.Common.{◌≡◌, ℕ, List, true, ◌∙◌, sym, subst, arith}
use Rattle.net_model.specs.Names.{is_name}
use Rattle.deadline_search.proofs.NameLemmas.{goal_named}
use Rattle.deadline_search.proofs.goal_names.goal_name.Goals as goal

pub unreachable-requires : goal.unreachable-requires
unreachable-requires c =
    let small = c.requires in
    let same = c.as_bytes.ensures.value ∙ c.in_ok-text.ensures in
    let named : is_name c.as_bytes.result.now ≡ true = subst (λ (n : List ℕ). is_name n ≡ true) (sym same) (goal_named c.args.place (omega (arith, small))) in
    let answered = c.new.ensures in
    let refused = c.in-Err.is in
    absurd (grind (arith, named, answered, refused))
