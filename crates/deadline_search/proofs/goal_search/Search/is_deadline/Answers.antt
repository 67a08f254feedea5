use Rattle.std.proofs.Common.{◌≡◌, ◌∙◌, ap, rules, w64, to_z, of_z}
use Rattle.net_model.specs.Network.{Plan}
use Rattle.verdicts.specs.Decisions.{IsOrderedForwardTable}
use Rattle.deadline_search.specs.Goals.{with_goal}
use Rattle.deadline_search.proofs.SearchLemmas.{deadline_by}
use Rattle.deadline_search.proofs.goal_search.Search.is_deadline.Goals as goal

pub forward_table_if_controllable-requires-clause-no_delay : goal.forward_table_if_controllable-requires-clause-no_delay
forward_table_if_controllable-requires-clause-no_delay g c = λ lifetimes lives. ap (λ (net : Plan). net.delay) c.in_ok-shown.ensures

pub returns : goal.returns
returns g c =
    let net = c.args.self.now.net in
    let number : to_z w64 (of_z w64 c.args.most) ≡ c.args.most = search rules in
    let is : c.in_ok-net.net ≡ with_goal net c.args.self.now.goal c.args.most = c.in_ok-net.ensures ∙ ap (with_goal net c.args.self.now.goal) number in
    deadline_by IsOrderedForwardTable c.law_controllable_is_shown.ensures net c.args.self.now.goal c.args.most c.in_ok-net.net c.in_ok-shown.shown c.sound.ensures is c.in_ok-shown.ensures
    c.requires.low c.requires.high c.in_ok-found.found c.in_ok-found.ensures c.is_some.result c.is_some.ensures
