-- The names of a line, one after another.
use Rattle.std.proofs.Common.{◌≡◌, ℕ, List, [], ◌∷◌, ◌++◌, Result, Ok, Err, IsOk, refl, ap, ◌∙◌, append_assoc, sym}
use Rattle.std.proofs.lemmas.List.{append-nil}
use Rattle.net_model.specs.Network.{Plan}
use Rattle.net_model.specs.declared.ids.PointId.{PointId}
use Rattle.net_model.specs.declared.format.FormatKind.{FormatKind}
use Rattle.event_stream.specs.EventLines.{point_of, points_by_names}

-- the words that are left decide whether all words are names of points, and why not
pub record Decides (net : Plan) (left all : List (List ℕ)) : Type 0 where
  pub named : IsOk (points_by_names net left) → IsOk (points_by_names net all)
  pub refused : (kind : FormatKind) → points_by_names net left ≡ Err kind → points_by_names net all ≡ Err kind

-- the points of all words are those of the words that were read, and then those of the words that are left
pub record GoesOn (net : Plan) (left all : List (List ℕ)) (points : List PointId) : Type 0 where
  pub named : IsOk (points_by_names net left)
  pub whole : (more : List PointId) → points_by_names net left ≡ Ok more → points_by_names net all ≡ Ok (points ++ more)

-- a word, and the words after it
module _ (net : Plan) (word : List ℕ) (others : List (List ℕ)) where
  one_more : (point : PointId) (points : List PointId) → point_of net word ≡ Ok point → points_by_names net others ≡ Ok points → points_by_names net (word ∷ others) ≡ Ok (point ∷ points)
  one_more point points here later = rw (here, later) refl

  more_refused : (point : PointId) (kind : FormatKind) → point_of net word ≡ Ok point → points_by_names net others ≡ Err kind → points_by_names net (word ∷ others) ≡ Err kind
  more_refused point kind here later = rw (here, later) refl

  more_named : (point : PointId) (later : Result (List PointId) FormatKind) → point_of net word ≡ Ok point → points_by_names net others ≡ later → IsOk later → IsOk (points_by_names net (word ∷ others))
  more_named point (Ok points) here is named = rw (one_more point points here is) refl
  more_named point (Err kind) here is named = absurd (cc)

  -- if the words name points, the first does and so do the others
  pub first_named : (here : Result PointId FormatKind) → point_of net word ≡ here → IsOk (points_by_names net (word ∷ others)) → IsOk here
  first_named (Ok point) is named = refl
  first_named (Err kind) is named = rw is at named

  others_named : (point : PointId) (later : Result (List PointId) FormatKind) → point_of net word ≡ Ok point → points_by_names net others ≡ later → IsOk (points_by_names net (word ∷ others)) → IsOk later
  others_named point (Ok points) here is named = refl
  others_named point (Err kind) here is named = rw (here, is) at named

-- the first of the words that are left
module _ (net : Plan) (left all : List (List ℕ)) (word : List ℕ) (others : List (List ℕ)) (split : left ≡ word ∷ others) where
  pub decides_next : (point : PointId) → Decides net left all → point_of net word ≡ Ok point → Decides net others all
  decides_next point at here = record {
    named = λ later. at.named (rw split (more_named net word others point (points_by_names net others) here refl later));
    refused = λ kind later. at.refused kind (rw split (more_refused net word others point kind here later));
  }

  pub refused_here : (kind : FormatKind) → Decides net left all → point_of net word ≡ Err kind → points_by_names net all ≡ Err kind
  refused_here kind at here = at.refused kind (rw (split, here) refl)

  pub goes_on : (points : List PointId) (point : PointId) → GoesOn net left all points → point_of net word ≡ Ok point → GoesOn net others all (points ++ point ∷ [])
  goes_on points point at here = record {
    named = others_named net word others point (points_by_names net others) here refl (rw split at at.named);
    whole = λ more later.
        let all_are : points_by_names net all ≡ Ok (points ++ point ∷ more) = at.whole (point ∷ more) (rw split (one_more net word others point more here later)) in
        all_are ∙ ap (λ (ps : List PointId). Ok ps) (sym (append_assoc points (point ∷ []) more));
  }

pub at_end : (net : Plan) (left all : List (List ℕ)) (points : List PointId) → GoesOn net left all points → left ≡ [] → points_by_names net all ≡ Ok points
at_end net left all points at split =
    let none : points_by_names net left ≡ Ok [] = rw split refl in
    at.whole [] none ∙ ap (λ (ps : List PointId). Ok ps) (append-nil points)
