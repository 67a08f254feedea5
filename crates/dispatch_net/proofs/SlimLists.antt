-- What a slim list keeps and drops, as lists.
use Rattle.std.proofs.Common.{◌≡◌, ℕ, ◌+◌, ◌≤◌, ℤ, pos, Bool, true, List, length, Some, ap, sym, ◌∙◌, inl, inr, arith}
use Rattle.std.specs.Prelude.{◌==◌, ◌+ℤ◌, ◌<ℤ◌, ◌≤ℤ◌, int_le, slice_get, unsigned_abs}
use Rattle.std.specs.List.{Contains, list_all}
use Rattle.std.proofs.lemmas.Bool.{cases_lt, eqb-true}
use Rattle.std.proofs.lemmas.Int.{ints}
use Rattle.std.proofs.lemmas.List.Elements.{All-contains, All-weaker, All-contains_itself}
use Rattle.std.proofs.lemmas.List.Sums.{AllPass-from_list_all, list_all-from_AllPass}
use Rattle.std.proofs.lemmas.Option.{slice_get_within, get_or_from_slice_get}
use Rattle.std.proofs.lemmas.List.{get_or-map, get_or_past, length-map}
use Rattle.net_model.specs.declared.ids.PointId.{PointId}
use Rattle.net_model.specs.declared.part.Link.{Link}
use Rattle.dispatch_net.specs.declared.dispatch.Conditions.{Conditions}
use Rattle.dispatch_net.specs.Dispatchable.{conditions_at, no_conditions}
use Rattle.dispatch_net.specs.Slim.{slim_conditions, slimmed}

-- ---- lists
pub list_passes : {X : Type 0} (test : X → Bool) (xs : List X) → ((x : X) → Contains xs x → test x ≡ true) → list_all test xs ≡ true
list_passes test xs each = list_all-from_AllPass test xs (All-weaker (Contains xs) (λ x. test x ≡ true) each xs (All-contains_itself xs))

pub passes_each : {X : Type 0} (test : X → Bool) (xs : List X) (x : X) → list_all test xs ≡ true → Contains xs x → test x ≡ true
passes_each test xs x all among = All-contains (λ y. test y ≡ true) xs x (AllPass-from_list_all test xs all) among

pub same_point : (p q : PointId) → p.0 == q.0 ≡ true → p ≡ q
same_point p q same = ap (λ (k : ℕ). record { 0 = k }) (eqb-true p.0 q.0 same)

pub at_least : (a b : ℤ) → int_le a b ≡ true → a ≤ℤ b
at_least a b holds = grind (arith, ints)

-- ---- numbers
pub adds_up : (n m k : ℤ) → int_le n (m +ℤ k) ≡ true → pos 0 <ℤ n → pos 0 <ℤ m → pos 0 <ℤ k → unsigned_abs n ≤ unsigned_abs m + unsigned_abs k
adds_up n m k below n_above m_above k_above = let at = at_least n (m +ℤ k) below in grind (arith, ints)

pub no_less : (n m : ℤ) → int_le n m ≡ true → pos 0 <ℤ n → pos 0 <ℤ m → unsigned_abs n ≤ unsigned_abs m
no_less n m below n_above m_above = let at = at_least n m below in grind (arith, ints)

pub some_low : (n : ℤ) → pos 1 ≤ℤ n → pos 0 <ℤ n
some_low n above = grind (arith, ints)

pub link_there : (links : List Link) (k : ℕ) (link : Link) → slice_get links k ≡ Some link → Contains links link
link_there links k link declared = (k, slice_get_within links k link declared, get_or_from_slice_get links k link link declared)

-- ---- the lists of a point in what is kept
pub slim_at : (links : List Link) (made : List Conditions) (point : PointId) → conditions_at (slimmed links made) point ≡ slim_conditions links made (conditions_at made point)
slim_at links made point =
    elim (cases_lt point.0 (length made)) [
      | inl inside ↦ get_or-map (slim_conditions links made) made point.0 no_conditions no_conditions inside
      | inr past ↦
          (let long = length-map made (slim_conditions links made) in
          get_or_past (slimmed links made) point.0 no_conditions (omega (arith, long, past))
          ∙ ap (slim_conditions links made) (sym (get_or_past made point.0 no_conditions past)))
    ]
