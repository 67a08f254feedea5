-- A tree in a list that contains at each place what comes first below it (Knuth, The Art of Computer Programming 3, 5.4.1).
use Rattle.std.specs.Prelude.{◌≡◌, ◌≢◌, ◌⊎◌, ℕ, ◌+◌, ◌*◌, ◌<◌, ◌≤◌, List, length, Option, Some, None}
use Rattle.std.specs.List.{slice_index_or}
use Rattle.std.specs.Option.{option_map}
use Rattle.net_model.specs.declared.ids.PointId.{PointId}
use Rattle.net_model.specs.Moments.{Moments, moment_of}
use Rattle.tournament_queue.specs.First.{IsDueNotAfter}

-- what a place contains
abbrev pub at : List (Option (ℕ × PointId)) → (place : ℕ) → Option (ℕ × PointId)
at firsts place = slice_index_or firsts place None

-- a point at the moment from which on it is due
abbrev pub entry : PointId → Option ℕ → Option (ℕ × PointId)
entry point moment = option_map (λ m. (m, point)) moment

-- nothing comes after what is due at no moment
abbrev pub IsNoLater : Option (ℕ × PointId) → Option (ℕ × PointId) → Type 0
IsNoLater one other = (second : ℕ × PointId) → other ≡ Some second → ((first : ℕ × PointId) × (one ≡ Some first) × IsDueNotAfter first second)

-- one of two, and no later than either
pub record IsFirstOf (one other first : Option (ℕ × PointId)) : Type 0 where
  pub either : (first ≡ one) ⊎ (first ≡ other)
  pub before_one : IsNoLater first one
  pub before_other : IsNoLater first other

-- each place that has two below it contains what comes first of these
abbrev pub AreFirst : List (Option (ℕ × PointId)) → Type 0
AreFirst firsts = (place : ℕ) → 1 ≤ place → 2 * place + 1 < length firsts → IsFirstOf (at firsts (2 * place)) (at firsts (2 * place + 1)) (at firsts place)

-- the same but for the place right above one
abbrev pub AreFirstBut : (below : ℕ) → List (Option (ℕ × PointId)) → Type 0
AreFirstBut below firsts =
    (place : ℕ) → 1 ≤ place → 2 * place + 1 < length firsts → 2 * place ≢ below → 2 * place + 1 ≢ below
    → IsFirstOf (at firsts (2 * place)) (at firsts (2 * place + 1)) (at firsts place)

-- the tree of some points: the last places are the points
pub record IsTournament (due : Moments) (firsts : List (Option (ℕ × PointId))) : Type 0 where
  pub size : length firsts ≡ 2 * length due
  pub points : (point : PointId) → point.0 < length due → at firsts (length due + point.0) ≡ entry point (moment_of due point)
  pub first : AreFirst firsts
