use Rattle.std.proofs.Common.{◌≡◌, List, ℕ, sym, ◌∙◌, subst}
use Rattle.plan_format.specs.PlanPrinting.{printed_plan, ReadsBack}
use Rattle.plan_format.proofs.PrintLemmas.{printed_pieces}
use Rattle.plan_format.proofs.RoundTripLemmas.{reads_back}
use Rattle.plan_format.proofs.print.print_plan.Goals as goal

pub returns : goal.returns
returns c =
    let net = c.args.net.now in
    let text : c.push_line-2.new.out.items ≡ printed_plan net = c.in_ok-push_line-2.ensures
    ∙ rw (
      c.in_ok-push_links.ensures,
      c.in_ok-push_bounds.ensures,
      c.in_ok-push_points.ensures,
      c.in_ok-push_delay.ensures,
      c.in_ok-push_line.ensures,
      c.new-out.ensures.items,
      c.points.ensures.points,
      c.as_slice.ensures,
    ) (printed_pieces net) in
    record {
      text = text;
      read_back = λ numbers. subst (λ (bytes : List ℕ). ReadsBack bytes net) (sym text) (reads_back net c.points.ensures.sound numbers);
    }
