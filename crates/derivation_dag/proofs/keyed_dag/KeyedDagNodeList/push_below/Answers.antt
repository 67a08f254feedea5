use Rattle.std.proofs.Common.{◌≡◌, ◌∙◌, ◌++◌, ◌∷◌, [], List, suc, length, ap, sym, subst, arith}
use Rattle.std.proofs.lemmas.Grind.{common_steps}
use Rattle.std.proofs.lemmas.List.{length_push}
use Rattle.closure_model.specs.Derivations.{IsGiven, IsNewest}
use Rattle.closure_model.specs.declared.derivation.Node.{Node}
use Rattle.derivation_dag.specs.Places.{recorded}
use Rattle.derivation_dag.specs.Numbers.{number_of, IsBelowAll, HasNodeAtMost}
use Rattle.derivation_dag.proofs.NumberLemmas.{numbers_below, numbers_held}
use Rattle.derivation_dag.proofs.keyed_dag.KeyedDagNodeList.push_below.Goals as goal

pub invariant_of-self-then-below : goal.invariant_of-self-then-below
invariant_of-self-then-below c =
    let below = subst (λ nodes. IsBelowAll nodes c.args.node.edge) (sym c.self.view_is) c.if-below.ensures in
    let count : c.len.result ≡ suc (length c.self.inside.dag) = c.len.ensures ∙ ap length c.in_ok-id.ensures.pushed.1 ∙ grind (arith, common_steps) in
    numbers_below c.self.inside.dag c.args.node c.self.inside.numbers c.self.invariant c.put.new.self (c.put.ensures.here ∙ ap recorded count)
    (λ key apart. c.put.ensures.others key apart ∙ c.in_ok-reserve.ensures.same key) below c.push.new.self c.in_ok-id.ensures.pushed.1

pub invariant_of-self-else-below : goal.invariant_of-self-else-below
invariant_of-self-else-below c =
    let held = subst (λ nodes. HasNodeAtMost nodes c.args.node.edge) (sym c.self.view_is) c.if-below.ensures in
    numbers_held c.self.inside.dag c.args.node c.self.inside.numbers c.self.invariant c.reserve.new.self c.in_ok-reserve.ensures.same held c.push.new.self c.in_ok-id.ensures.pushed.1

pub push-requires : goal.push-requires
push-requires c = subst (λ (nodes : List Node). IsGiven c.args.net.now nodes c.args.node) (sym c.self.view_is) c.requires.given

pub put-requires-clause-spare_capacity : goal.put-requires-clause-spare_capacity
put-requires-clause-spare_capacity c = c.in_ok-reserve.ensures.spare_capacity

pub put-requires-clause-some : goal.put-requires-clause-some
put-requires-clause-some c = omega (arith, c.len.ensures, ap length c.in_ok-id.ensures.pushed.1, length_push c.self.inside.dag c.args.node)

pub invariant_of-self : goal.invariant_of-self
invariant_of-self c = λ key. subst (IsNewest c.self.inside.dag key) (sym (c.reserve.ensures.same key)) (c.self.invariant key)

pub invariant_of-self-in_err-id : goal.invariant_of-self-in_err-id
invariant_of-self-in_err-id c = λ key.
    let number = number_of c.reserve.new.self key in
    subst (λ (nodes : List Node). IsNewest nodes key number) (sym c.in_err-id.ensures.refused) (subst (IsNewest c.self.inside.dag key) (sym (c.reserve.ensures.same key)) (c.self.invariant key))

pub returns-then-below : goal.returns-then-below
returns-then-below c = subst (λ (nodes : List Node). (c.in_ok-id.id.0 ≡ length nodes) × (c.push.new.self ≡ nodes ++ c.args.node ∷ [])) c.self.view_is c.in_ok-id.ensures.pushed

pub returns-else-below : goal.returns-else-below
returns-else-below c = subst (λ (nodes : List Node). (c.in_ok-id.id.0 ≡ length nodes) × (c.push.new.self ≡ nodes ++ c.args.node ∷ [])) c.self.view_is c.in_ok-id.ensures.pushed
