use Rattle.std.proofs.Common.{◌≡◌, rules, w64, to_z, of_z}
use Rattle.deadline_search.proofs.GoalLemmas.{makes_goal, refuses_none}
use Rattle.deadline_search.proofs.goal_search.Search.at.Goals as goal

pub unreachable-requires : goal.unreachable-requires
unreachable-requires c =
    let net = c.args.self.now.net in
    let number : to_z w64 (of_z w64 c.args.most) ≡ c.args.most = search rules in
    refuses_none net c.args.self.now.goal c.args.most c.sound.ensures c.requires.goal c.requires.low c.requires.high c.point_name-from.result.now c.point_name-to.result.now _
    c.point_name-from.ensures c.point_name-to.ensures number c.in-Err.fault c.in_default.not-OutOfMemory c.in-Err.ensures.edited

pub returns-in-Ok : goal.returns-in-Ok
returns-in-Ok c =
    let net = c.args.self.now.net in
    let number : to_z w64 (of_z w64 c.args.most) ≡ c.args.most = search rules in
    makes_goal net c.args.self.now.goal c.args.most c.sound.ensures c.requires.goal c.requires.low c.requires.high c.point_name-from.result.now c.point_name-to.result.now _
    c.point_name-from.ensures c.point_name-to.ensures number c.in-Ok.net c.in-Ok.ensures.edited
