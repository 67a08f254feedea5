use Rattle.std.proofs.Common.{◌≡◌, ◌<◌, ◌^◌, List, length, Ok, IfOk, IsOk, ◌∙◌, ap, sym, subst, arith}
use Rattle.std.specs.List.{All}
use Rattle.net_model.specs.BuiltNetwork.{built}
use Rattle.net_model.specs.declared.part.Part.{Part}
use Rattle.situation_player.specs.Tasks.{IsSmall}
use Rattle.situation_player.specs.declared.tasks.Task.{Task}
use Rattle.situation_player.proofs.TaskLemmas.{tasks_small, tasks_count}
use Rattle.situation_player.proofs.ForgeLemmas.{forged_parts_build, forged_parts_are}
use Rattle.situation_player.proofs.forged_network.forge.Goals as goal

pub parts_of_tasks-requires-clause-some : goal.parts_of_tasks-requires-clause-some
parts_of_tasks-requires-clause-some c =
    let same = ap (length {A = Task}) (c.as_slice.ensures.value ∙ c.in_ok-drawn.ensures.tasks) ∙ tasks_count c.new-generator.result.state c.args.tasks in
    let some = c.requires.some in
    omega (arith, same, some)

pub parts_of_tasks-requires-clause-few : goal.parts_of_tasks-requires-clause-few
parts_of_tasks-requires-clause-few c =
    let same = ap (length {A = Task}) (c.as_slice.ensures.value ∙ c.in_ok-drawn.ensures.tasks) ∙ tasks_count c.new-generator.result.state c.args.tasks in
    let few = c.requires.few in
    omega (arith, same, few)

pub parts_of_tasks-requires-clause-small : goal.parts_of_tasks-requires-clause-small
parts_of_tasks-requires-clause-small c =
    subst (λ (tasks : List Task). All IsSmall tasks) (sym (c.as_slice.ensures.value ∙ c.in_ok-drawn.ensures.tasks)) (tasks_small c.new-generator.result.state c.args.tasks)

pub build-requires-clause-count : goal.build-requires-clause-count
build-requires-clause-count c =
    subst (λ (parts : List Part). length parts < 2 ^ 32)
    (sym (forged_parts_are c.args.number c.args.tasks c.new-generator.result.state c.new-generator.ensures c.in_ok-drawn.drawn.items c.as_slice.result.now c.in_ok-drawn.ensures.tasks c.as_slice.ensures.value
    c.draw_tasks.new.generator.state c.draw-cut.result c.in_ok-drawn.ensures.state c.draw-cut.ensures.drawn c.in_ok-parts.parts.items c.as_slice-2.result.now c.in_ok-parts.ensures c.as_slice-2.ensures.value))
    (forged_parts_build c.args.number c.args.tasks c.requires.some c.requires.few).1

pub build-requires-clause-builds : goal.build-requires-clause-builds
build-requires-clause-builds c =
    subst (λ (parts : List Part). IsOk (built parts))
    (sym (forged_parts_are c.args.number c.args.tasks c.new-generator.result.state c.new-generator.ensures c.in_ok-drawn.drawn.items c.as_slice.result.now c.in_ok-drawn.ensures.tasks c.as_slice.ensures.value
    c.draw_tasks.new.generator.state c.draw-cut.result c.in_ok-drawn.ensures.state c.draw-cut.ensures.drawn c.in_ok-parts.parts.items c.as_slice-2.result.now c.in_ok-parts.ensures c.as_slice-2.ensures.value))
    (forged_parts_build c.args.number c.args.tasks c.requires.some c.requires.few).0

pub returns-clause-forged : goal.returns-clause-forged
returns-clause-forged c =
    subst (λ (parts : List Part). IfOk c.build.result (λ net. built parts ≡ Ok net))
    (forged_parts_are c.args.number c.args.tasks c.new-generator.result.state c.new-generator.ensures c.in_ok-drawn.drawn.items c.as_slice.result.now c.in_ok-drawn.ensures.tasks c.as_slice.ensures.value
    c.draw_tasks.new.generator.state c.draw-cut.result c.in_ok-drawn.ensures.state c.draw-cut.ensures.drawn c.in_ok-parts.parts.items c.as_slice-2.result.now c.in_ok-parts.ensures c.as_slice-2.ensures.value)
    c.build.ensures.built
