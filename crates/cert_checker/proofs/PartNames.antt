-- The names of points and bounds stand for them.
use Rattle.std.proofs.Common.{◌≡◌, ◌≢◌, ℕ, ◌<◌, ◌==◌, true, false, List, [], length, map, get_or, Option, Some, refl, ap, sym, ◌∙◌, arith}
use Rattle.std.specs.Prelude.{slice_get}
use Rattle.std.specs.Option.{option_map, option_map_or}
use Rattle.std.specs.Str.{bytes_eq}
use Rattle.std.proofs.lemmas.Bool.{false_from_ne_true}
use Rattle.std.proofs.lemmas.Bool.Decides.{nat_tests}
use Rattle.std.proofs.lemmas.Slice.Eq.{bytes_eq-Decides}
use Rattle.std.proofs.lemmas.Map.Made.{AllPairs-from_IsDistinct}
use Rattle.std.proofs.lemmas.Option.{slice_get-get_or, slice_get_within, get_or_from_slice_get, slice_get-map}
use Rattle.net_model.specs.Network.{Plan, IsPlan, IsPoint, point_named, bound_named}
use Rattle.net_model.specs.NetworkParts.{point_name}
use Rattle.net_model.specs.declared.ids.PointId.{PointId}
use Rattle.net_model.specs.declared.ids.BoundId.{BoundId}
use Rattle.net_model.specs.declared.part.Bound.{Bound}
use Rattle.net_model.proofs.Positions.{position_first}
use Rattle.cert_checker.specs.Lines.{names_point}
use Rattle.cert_checker.proofs.CertificateNames.{same_bytes, bytes_same}

pub bytes_differ : (x y : List ℕ) → x ≢ y → bytes_eq x y ≡ false
bytes_differ x y apart = false_from_ne_true (bytes_eq x y) (λ same. apart (same_bytes x y same))

module _ (net : Plan) (plan : IsPlan net) where
  -- a point is found by its name
  pub named_point : (point : PointId) → IsPoint net point → point_named net (point_name net.points point) ≡ Some point
  named_point point inside =
      let name : List ℕ = point_name net.points point in
      let apart = AllPairs-from_IsDistinct bytes_eq-Decides net.points plan.points_apart in
      let fails : (j : ℕ) → j < point.0 → bytes_eq name (get_or net.points j []) ≡ false = λ j below. bytes_differ name (get_or net.points j []) (λ same. apart j point.0 [] below inside (sym same)) in
      ap (option_map (λ (k : ℕ). record { 0 = k })) (position_first (bytes_eq name) net.points point.0 [] inside (bytes_same name name refl) fails)

  -- a point has its name
  pub has_name : (point : PointId) → IsPoint net point → names_point net (point_name net.points point) point ≡ true
  has_name point inside =
      let same : (point.0 == point.0) ≡ true = grind (arith, nat_tests) in
      ap (λ (o : Option PointId). option_map_or (λ (p : PointId). p.0 == point.0) o false) (named_point point inside) ∙ same

  -- a bound has its name
  pub named_bound : (id : BoundId) (bound : Bound) → slice_get net.bounds id.0 ≡ Some bound → bound_named net bound.name ≡ Some id
  named_bound id bound here =
      let names : List (List ℕ) = map (λ (b : Bound). b.name) net.bounds in
      let apart = AllPairs-from_IsDistinct bytes_eq-Decides names plan.bounds_apart in
      let at : get_or net.bounds id.0 bound ≡ bound = get_or_from_slice_get net.bounds id.0 bound bound here in
      let inside : id.0 < length net.bounds = slice_get_within net.bounds id.0 bound here in
      let named : slice_get names id.0 ≡ Some bound.name = slice_get-map (λ (b : Bound). b.name) net.bounds id.0 ∙ ap (option_map (λ (b : Bound). b.name)) here in
      let own : get_or names id.0 [] ≡ bound.name = get_or_from_slice_get names id.0 bound.name [] named in
      let within : id.0 < length names = slice_get_within names id.0 bound.name named in
      let fails : (j : ℕ) → j < id.0 → bytes_eq bound.name (get_or net.bounds j bound).name ≡ false = λ j below. bytes_differ bound.name (get_or net.bounds j bound).name
      (λ same. apart j id.0 [] below within (other_name j bound (omega arith) ∙ sym same ∙ sym own)) in
      ap (option_map (λ (k : ℕ). record { 0 = k })) (position_first (λ (b : Bound). bytes_eq bound.name b.name) net.bounds id.0 bound inside (bytes_same bound.name (get_or net.bounds id.0 bound).name (ap (λ (b : Bound). b.name) (sym at)))
      fails)
    where
      other_name : (j : ℕ) (d : Bound) → j < length net.bounds → get_or (map (λ (b : Bound). b.name) net.bounds) j [] ≡ (get_or net.bounds j d).name
      other_name j d below =
          let there : slice_get net.bounds j ≡ Some (get_or net.bounds j d) = slice_get-get_or net.bounds j d below in
          get_or_from_slice_get (map (λ (b : Bound). b.name) net.bounds) j (get_or net.bounds j d).name [] (slice_get-map (λ (b : Bound). b.name) net.bounds j ∙ ap (option_map (λ (b : Bound). b.name)) there)
