use Rattle.std.proofs.Common.{true, false, Vec, Global, ap, sym, ◌∙◌, append-nil}
use Rattle.net_model.specs.declared.ids.PointId.{PointId}
use Rattle.situation_player.specs.declared.played_day.Lasting.{Lasting}
use Rattle.situation_player.proofs.CompletionLemmas.{completing_more}
use Rattle.situation_player.proofs.played_day.completing_at.Goals.{then-completes_at+in_ok-push, else-completes_at}
use Rattle.situation_player.proofs.played_day.completing_at.Goals as goal

-- the link read past the end of a list
abbrev none : Lasting
none = record { from = record { 0 = 0 }; to = record { 0 = 0 }; duration = 0 }

pub loop-lasting-preserved : goal.loop-lasting-preserved
loop-lasting-preserved c =
    let more = completing_more c.args.executor.now.moments c.args.moment c.args.lastings.now c.loop-lasting.lasting-index none in
    elim c.if-completes_at.branch [
      | then-completes_at+in_ok-push w ↦
          more true c.loop-lasting.points.items c.if-completes_at.points.items c.loop-lasting-test.true (sym w.if-completes_at.true ∙ c.completes_at.ensures)
          c.loop-lasting.invariant (ap (λ (v : Vec PointId Global). v.items) w.points-is ∙ w.in_ok-push.ensures.items)
      | else-completes_at w ↦
          more false c.loop-lasting.points.items c.if-completes_at.points.items c.loop-lasting-test.true (sym w.if-completes_at.false ∙ c.completes_at.ensures)
          c.loop-lasting.invariant (ap (λ (v : Vec PointId Global). v.items) w.points-is ∙ sym (append-nil c.loop-lasting.points.items))
    ]
