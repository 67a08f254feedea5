use Rattle.std.proofs.Common.{ap, subst, sym}
use Rattle.command_contracts.specs.Programs.{Defines, Program}
use Rattle.command_contracts.specs.Requests.{program_of_request}
use Rattle.run_command.specs.RunPromise.{run_program}
use Rattle.stnu_run.proofs.laws.law_feeders_change_nothing.Goals as goal

pub returns : goal.returns
returns c = λ program prefix spelled others back count number spells also input put status.
    let same = ap (program_of_request run_program) (c.law_feeders_decide_nothing.ensures prefix spelled others back count number spells also) in
    (subst (λ (one : Program). Defines one input put status) same, subst (λ (one : Program). Defines one input put status) (sym same))
