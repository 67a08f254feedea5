-- The links that end in the points of a network.
use Rattle.std.proofs.Common.{◌≡◌, ◌≢◌, ℕ, zero, suc, ◌<◌, ◌≤◌, Bool, true, false, List, [], ◌∷◌, length, get_or, Option, Some, None, refl, ap, sym, ◌∙◌, inl, inr, arith}
use Rattle.std.specs.Prelude.{◌&&◌, ◌||◌, ◌==◌, find, if◌then◌else◌}
use Rattle.std.specs.List.{All, AllPairs, list_any, position}
use Rattle.std.specs.Option.{option_map, option_map_or}
use Rattle.std.proofs.lemmas.Bool.{cases_lt, eqb-true, ne_eqb}
use Rattle.std.proofs.lemmas.List.{get_or_past}
use Rattle.std.proofs.lemmas.List.Folds.{list_any_none}
use Rattle.std.proofs.lemmas.List.Quantifiers.{position-Some}
use Rattle.std.proofs.lemmas.Option.{same_Some}
use Rattle.std.proofs.Math.Bool.{or-false}
use Rattle.net_model.specs.Network.{Plan, IsPlan, activation}
use Rattle.net_model.specs.declared.ids.PointId.{PointId}
use Rattle.net_model.specs.declared.ids.LinkId.{LinkId}
use Rattle.net_model.specs.declared.part.Link.{Link}
use Rattle.net_model.proofs.Positions.{None_from_option_map, fails_from_None}
use Rattle.dispatch_net.specs.Held.{AreEnds, AreAllEnds, link_ending}

-- of links that end apart, those that end in a point are the first that does
one_ends : (links : List Link) → AllPairs (λ (l m : Link). l.to.0 ≢ m.to.0) links → (test : Link → Bool) (point : ℕ)
    → list_any (λ (link : Link). link.to.0 == point && test link) links ≡ option_map_or test (find (λ (link : Link). link.to.0 == point) links) false
one_ends [] apart test point = refl
one_ends (link ∷ links) apart test point = by (link.to.0 == point) refl (one_ends links (λ i j d less inside. apart (suc i) (suc j) d (omega (arith, less)) (omega (arith, inside))) test point)
  where
    by : (b : Bool) → link.to.0 == point ≡ b → list_any (λ (l : Link). l.to.0 == point && test l) links ≡ option_map_or test (find (λ (l : Link). l.to.0 == point) links) false
        → (b && test link || list_any (λ (l : Link). l.to.0 == point && test l) links) ≡ option_map_or test (if b then Some link else find (λ (l : Link). l.to.0 == point) links) false
    by false differs rest = rest
    by true same rest =
        let at : link.to.0 ≡ point = eqb-true link.to.0 point same in
        ap (λ (b : Bool). test link || b)
        (list_any_none (λ (l : Link). l.to.0 == point && test l) links (λ k d inside.
        ap (λ (b : Bool). b && test (get_or links k d)) (ne_eqb (get_or links k d).to.0 point (λ equal. apart 0 (suc k) d (omega arith) (omega (arith, inside)) (at ∙ sym equal)))))
        ∙ or-false (test link)

-- past the points none ends
none_ends : (net : Plan) → IsPlan net → (test : Link → Bool) (point : ℕ) → length net.points ≤ point → list_any (λ (link : Link). link.to.0 == point && test link) net.links ≡ false
none_ends net plan test point past =
    list_any_none (λ (link : Link). link.to.0 == point && test link) net.links (λ k d inside.
    let within = (plan.links_sound k d inside).to_point in
    ap (λ (b : Bool). b && test (get_or net.links k d)) (ne_eqb (get_or net.links k d).to.0 point (λ equal. omega (arith, within, equal, past))))

pub all_ends : (net : Plan) (ends : List (Option Link)) → IsPlan net → AreEnds net.links (length net.points) ends → AreAllEnds net.links ends
all_ends net ends plan are test point =
    elim (cases_lt point (length net.points)) [
      | inl inside ↦ one_ends net.links plan.links_apart test point ∙ sym (ap (λ (o : Option Link). option_map_or test o false) (are.each point inside))
      | inr past ↦
          none_ends net plan test point past
          ∙ sym (ap (λ (o : Option Link). option_map_or test o false) (get_or_past ends point None (omega (arith, past, are.count))))
    ]

-- ---- the first link that ends in a point
module _ {X : Type 0} (p : X → Bool) where
  find_first : (xs : List X) (i : ℕ) (d : X) → i < length xs → p (get_or xs i d) ≡ true → ((k : ℕ) → k < i → p (get_or xs k d) ≡ false) → find p xs ≡ Some (get_or xs i d)
  find_first [] i d inside passes before = absurd (omega (arith, inside))
  find_first (x ∷ xs) zero d inside passes before = ap (λ (b : Bool). if b then Some x else find p xs) passes
  find_first (x ∷ xs) (suc i) d inside passes before =
      ap (λ (b : Bool). if b then Some x else find p xs) (before 0 (omega arith)) ∙ find_first xs i d (omega (arith, inside)) passes (λ k less. before (suc k) (omega (arith, less)))

  find_none : (xs : List X) → All (λ x. p x ≡ false) xs → find p xs ≡ None
  find_none [] fails = refl
  find_none (x ∷ xs) fails = ap (λ (b : Bool). if b then Some x else find p xs) (fails 0 x (omega arith)) ∙ find_none xs (λ k d inside. fails (suc k) d (omega (arith, inside)))

pub link_found : (net : Plan) (point : PointId) (link : LinkId) (d : Link) → activation net point ≡ Some link → (link.0 < length net.links) × (link_ending net.links point ≡ Some (get_or net.links link.0 d))
link_found net point link d found = by (position (λ (l : Link). l.to.0 == point.0) net.links) refl found
  where
    by : (o : Option ℕ) → position (λ (l : Link). l.to.0 == point.0) net.links ≡ o → option_map (λ (k : ℕ). let l : LinkId = record { 0 = k } in l) o ≡ Some link
        → (link.0 < length net.links) × (link_ending net.links point ≡ Some (get_or net.links link.0 d))
    by None none is = absurd cc
    by (Some k) some is =
        let same : k ≡ link.0 = ap (λ (l : LinkId). l.0) (same_Some (record { 0 = k }) link is) in
        let (inside, passes, before) = position-Some (λ (l : Link). l.to.0 == point.0) net.links k d some in
        (omega (arith, inside, same), find_first (λ (l : Link). l.to.0 == point.0) net.links k d inside passes before ∙ ap (λ (n : ℕ). let o : Option Link = Some (get_or net.links n d) in o) same)

pub no_link_found : (net : Plan) (point : PointId) → activation net point ≡ None → link_ending net.links point ≡ None
no_link_found net point none =
    find_none (λ (l : Link). l.to.0 == point.0) net.links (fails_from_None (λ (l : Link). l.to.0 == point.0) net.links (None_from_option_map (λ (k : ℕ). let l : LinkId = record { 0 = k } in l) (position (λ (l : Link). l.to.0 == point.0) net.links) none))
