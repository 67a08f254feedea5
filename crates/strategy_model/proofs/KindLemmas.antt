-- A point of a network is executable or the contingent point of a link.
use Rattle.std.proofs.Common.{◌≡◌, ◌⊎◌, ℕ, Bool, true, false, cond, Option, Some, None, length, get_or, is_some, is_none, refl, ap, sym, ◌∙◌, subst, inl, inr, arith}
use Rattle.std.specs.Prelude.{◌==◌, nat_lt}
use Rattle.std.specs.Option.{option_map}
use Rattle.std.specs.List.{position_or_len}
use Rattle.std.proofs.lemmas.Bool.{cases_lt, le-ltb, eqb-true, true≢false}
use Rattle.std.proofs.lemmas.List.Sums.{passes_at_first}
use Rattle.std.proofs.lemmas.Option.{slice_get_cases}
use Rattle.net_model.specs.Network.{Plan, IsPoint, IsExecutable, activation}
use Rattle.net_model.specs.Edges.{IsLinkOf}
use Rattle.net_model.specs.declared.ids.PointId.{PointId}
use Rattle.net_model.specs.declared.ids.LinkId.{LinkId}
use Rattle.net_model.specs.declared.part.Link.{Link}
use Rattle.strategy_model.proofs.MomentLemmas.{same_from_number, contingent}

-- the link of a contingent point
pub record Ending (net : Plan) (point : PointId) : Type 0 where
  pub name : LinkId
  pub link : Link
  pub declared : IsLinkOf net name link
  pub ends : link.to ≡ point

pub kind_of_any : (net : Plan) (point : PointId) → (activation net point ≡ None) ⊎ Ending net point
kind_of_any net point =
    elim (cases_lt place (length net.links)) [
      | inl inside ↦ elim (slice_get_cases net.links place).1 [
        | inl (link, there, found, here) ↦
            let passes : ends (get_or net.links place link) ≡ true = passes_at_first ends net.links link inside in
            let its : ends link ≡ true = subst (λ (l : Link). ends l ≡ true) here passes in
            inr (record { name = record { 0 = place }; link = link; declared = found; ends = same_from_number link.to point (eqb-true link.to.0 point.0 its) })
        | inr (past, missing) ↦ absurd (omega arith)
      ]
      | inr past ↦
          let outside : nat_lt place (length net.links) ≡ false = le-ltb place (length net.links) past in
          inl (ap (λ (b : Bool). option_map (λ k. let name : LinkId = record { 0 = k } in name) (cond b (Some place) None)) outside)
    ]
  where
    ends : Link → Bool
    ends link = link.to.0 == point.0

    place : ℕ
    place = position_or_len ends net.links

pub kind : (net : Plan) (point : PointId) → IsPoint net point → IsExecutable net point ⊎ Ending net point
kind net point within =
    elim (kind_of_any net point) [ inl none ↦ inl (within, ap is_some none) | inr ending ↦ inr ending ]

pub none_from_test : {A : Type 0} (o : Option A) → is_some o ≡ false → is_none o ≡ true
none_from_test None none = refl
none_from_test (Some x) none = absurd (true≢false none)

-- a point in which a link ends has its number
pub ending_known : (net : Plan) (point : PointId) → Ending net point → is_none (activation net point) ≡ false
ending_known net point ending =
    subst (λ (p : PointId). is_none (activation net p) ≡ false) ending.ends (contingent net ending.name.0 ending.link ending.declared)

-- no link ends in an executable point
pub not_ending : (net : Plan) (point : PointId) → IsExecutable net point → Ending net point → ⊥
not_ending net point executable ending =
    true≢false (sym (none_from_test (activation net point) executable.1) ∙ ending_known net point ending)
