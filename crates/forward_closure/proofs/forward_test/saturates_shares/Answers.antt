use Rattle.std.proofs.Common.{rules, ◌≡◌, Bool, true}
use Rattle.std.specs.Prelude.{Result, Ok}
use Rattle.std.specs.List.{All}
use Rattle.std.specs.declared.alloc.AllocError.{AllocError}
use Rattle.std.proofs.lemmas.Result.{IfOk-weaker}
use Rattle.closure_model.specs.Tables.{IsForwardClosed}
use Rattle.forward_closure.proofs.SaturationLemmas.{all_shares_saturated}
use Rattle.forward_closure.proofs.forward_test.saturates_shares.Goals as goal

pub returns : goal.returns
returns g c =
    IfOk-weaker c.all_saturated.result (λ (all : Bool). all ≡ true → All (λ (one : Result Bool AllocError). one ≡ Ok true) c.as_slice.result.now) (λ (closed : Bool). closed ≡ true → IsForwardClosed c.args.net.now c.args.table.now)
    (λ closed each said.
    all_shares_saturated c.args.net.now c.args.table.now c.requires.partial_closure c.args.shares c.requires.shares c.in_ok-saturated.saturated.items c.as_slice.result.now (search rules) (search rules)
    (λ share d below. (c.in_ok-saturated.ensures.each share d below).1.met) (each said))
    c.all_saturated.ensures
