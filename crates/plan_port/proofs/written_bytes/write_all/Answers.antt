use Rattle.std.proofs.Common.{◌≡◌, ◌∙◌, ◌+◌, ◌-◌, ◌++◌, ℕ, List, length, take, drop, sym, ap, arith, length-drop}
use Rattle.std.proofs.lemmas.List.{take_rest}
use Rattle.std.proofs.Math.Seq.{take-add}
use Rattle.plan_port.specs.Talk.{Talk, with_put}
use Rattle.plan_port.proofs.Talks.{changed_twice, with_put-with_put}
use Rattle.plan_port.proofs.written_bytes.write_all.Goals as goal

pub loop-sent-preserved : goal.loop-sent-preserved
loop-sent-preserved g c =
    let s = c.args.bytes.now in
    let i = c.loop-sent.sent in
    let n = c.in-Wrote.count in
    let inv = c.loop-sent.invariant in
    let e = c.in-Wrote.ensures.once in
    let rest : take n (take (length s - i) (drop i s)) ≡ take n (drop i s) = ap (λ (l : List ℕ). take n l) (take_rest s i) in
    let parts : take i s ++ take n (take (length s - i) (drop i s)) ≡ take (i + n) s = ap (λ (l : List ℕ). take i s ++ l) rest ∙ sym (take-add i n s) in
    let joined : (t : Talk) → with_put (with_put t (take i s)) (take n (take (length s - i) (drop i s))) ≡ with_put t (take (i + n) s) = λ t. with_put-with_put t (take i s) (take n (take (length s - i) (drop i s)))
    ∙ ap (λ (l : List ℕ). with_put t l) parts in
    record {
      within = omega (arith, e.within, ap length (take_rest s i), length-drop i s);
      talk = changed_twice (g.P.Port.seen c.args.port.now).talk (g.P.Port.seen c.loop-sent.port).talk (g.P.Port.seen c.put.new.self).talk (λ t. with_put t (take i s)) (λ t. with_put t (take n (take (length s - i) (drop i s))))
          (λ t. with_put t (take (i + n) s)) joined inv.talk e.talk;
      left = e.left ∙ inv.left;
      reads = e.read_faults ∙ inv.reads;
      writes = e.write_faults ∙ inv.writes;
    }
