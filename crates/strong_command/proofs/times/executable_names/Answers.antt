use Rattle.std.proofs.Common.{◌≡◌, ◌<◌, ◌++◌, ◌∷◌, [], ℕ, Bool, List, Option, Some, None, map, take, length, is_none, true, false, refl, sym, ap, ◌∙◌, arith}
use Rattle.std.specs.List.{filter}
use Rattle.std.specs.Option.{IsSome}
use Rattle.std.proofs.lemmas.Bool.{true≢false}
use Rattle.std.proofs.lemmas.List.{map-append, take_all}
use Rattle.net_model.specs.Network.{activation}
use Rattle.net_model.specs.NetworkParts.{point_name}
use Rattle.net_model.specs.declared.ids.PointId.{PointId}
use Rattle.strategy_model.specs.Plays.{points_of}
use Rattle.strategy_model.proofs.StepLemmas.{completed_with, completed_without, points_length}
use Rattle.strong_command.proofs.times.executable_names.Goals.{then-not-is_contingent+in_ok-push, else-not-is_contingent}
use Rattle.strong_command.proofs.times.executable_names.Goals as goal

not_some : {A : Type 0} (o : Option A) → (IsSome o → ⊥) → is_none o ≡ true
not_some None none = refl
not_some (Some x) none = absurd (none refl)

is_some_test : {A : Type 0} (o : Option A) → IsSome o → is_none o ≡ false
is_some_test None some = absurd (true≢false (sym some))
is_some_test (Some x) some = refl

pub loop-k-preserved : goal.loop-k-preserved
loop-k-preserved c =
    let net = c.args.net.now in
    let k = c.loop-k.k in
    let point : PointId = record { 0 = k } in
    let points : length c.points-k-end.result.now ≡ length net.points = ap length c.points-k-end.ensures.points in
    let inside : k < length net.points = omega (arith, points) in
    let test : PointId → Bool = λ p. is_none (activation net p) in
    let name : PointId → List ℕ = point_name net.points in
    elim c.if-not-is_contingent.branch [
      | then-not-is_contingent+in_ok-push w ↦
          let free : test point ≡ true = not_some (activation net point) (λ some. absurd (true≢false (sym (c.is_contingent.ensures.1 some) ∙ w.if-not-is_contingent.true))) in
          let kept = completed_with test net k inside point refl free in
          let items : c.if-not-is_contingent.names.items ≡ c.loop-k.names.items ++ name point ∷ [] = ap (λ v. v.items) w.names-is ∙ w.in_ok-push.ensures.items ∙ ap (λ (n : List ℕ). c.loop-k.names.items ++ n ∷ []) w.name_of.ensures in
          items ∙ ap (λ (xs : List (List ℕ)). xs ++ name point ∷ []) c.loop-k.invariant ∙ sym (map-append name (filter test (take k (points_of net))) (point ∷ [])) ∙ ap (map name) (sym kept)
      | else-not-is_contingent w ↦
          let some : test point ≡ false = is_some_test (activation net point) (c.is_contingent.ensures.0 w.if-not-is_contingent.false) in
          let left = completed_without test net k inside point refl some in
          ap (λ v. v.items) w.names-is ∙ c.loop-k.invariant ∙ ap (map name) (sym left)
    ]

pub returns : goal.returns
returns c =
    let net = c.args.net.now in
    let points : length c.points-k-end.result.now ≡ length net.points = ap length c.points-k-end.ensures.points in
    let size = points_length net in
    c.loop-k.invariant ∙ ap (λ (ps : List PointId). map (point_name net.points) (filter (λ p. is_none (activation net p)) ps)) (take_all c.loop-k.k (points_of net) (omega (arith, points, size)))
