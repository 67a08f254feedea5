use Rattle.std.proofs.Common.{◌≡◌, ◌<◌, ◌≤◌, ◌++◌, List, [], ◌∷◌, length, map, take, get_or, sym, ap, ◌∙◌, arith}
use Rattle.std.proofs.lemmas.List.{append_assoc, map_more, take_all}
use Rattle.net_model.specs.declared.part.Bound.{Bound}
use Rattle.cert_checker.specs.Tables.{base_of_bound}
use Rattle.cert_checker.specs.declared.base.Base.{Base}
use Rattle.cert_checker.specs.declared.judgement.CertFault.TheVariants.{MissingBound}
use Rattle.cert_checker.proofs.base.push_bounds.Goals as goal

pub loop-index-preserved : goal.loop-index-preserved
loop-index-preserved c =
    let bounds = c.args.net.now.bounds in
    let i = c.loop-index.index in
    let bound = c.bound_numbered-bound.result in
    let within : i < length bounds = omega (arith, c.loop-index-test.true, c.loop-index.auto.index-end, c.bound_count-index-end.ensures) in
    let one : Base = record { edge = c.bound_edge-edge.result; missing = MissingBound bound.name } in
    let own : one ≡ base_of_bound bound = λ j. record { edge = c.bound_edge-edge.ensures j; missing = MissingBound bound.name } in
    let made : one ≡ base_of_bound (get_or bounds i bound) = own ∙ ap base_of_bound c.bound_numbered-bound.ensures in
    c.in_ok-push.ensures.items ∙ ((λ j. c.loop-index.invariant j ++ made j ∷ [])
    ∙ (append_assoc c.args.base.now.items (map base_of_bound (take i bounds)) _ ∙ ap (λ (more : List Base). c.args.base.now.items ++ more) (sym (map_more base_of_bound bounds i bound within))))

pub returns : goal.returns
returns c =
    let bounds = c.args.net.now.bounds in
    let past : length bounds ≤ c.loop-index.index = omega (arith, c.loop-index-test.false, c.bound_count-index-end.ensures) in
    c.loop-index.invariant ∙ ap (λ (all : List Bound). c.args.base.now.items ++ map base_of_bound all) (take_all c.loop-index.index bounds past)

pub bound_numbered-bound-requires : goal.bound_numbered-bound-requires
bound_numbered-bound-requires c = omega (arith, c.loop-index-test.true, c.bound_count-index-end.ensures)
