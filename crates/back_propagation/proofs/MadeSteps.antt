-- The edges that are stored, with one more, and what is read of them.
use Rattle.std.proofs.Common.{◌≡◌, ◌+◌, ◌∙◌, ℕ, Some, List, [], ◌∷◌, ◌++◌, length, map, take, refl, ap}
use Rattle.std.specs.List.{All}
use Rattle.std.specs.Prelude.{slice_get}
use Rattle.std.proofs.Math.Seq.{get_or-append_seam}
use Rattle.std.proofs.lemmas.List.{get_or_append_left, map-append, take_more}
use Rattle.std.proofs.lemmas.List.Elements.{All-head, All-tail}
use Rattle.std.proofs.lemmas.Option.{slice_get_within, get_or_from_slice_get}
use Rattle.net_model.specs.declared.ids.PointId.{PointId}
use Rattle.closure_model.specs.declared.rows.Made.{Made}
use Rattle.back_propagation.specs.MadeEdges.{no_made, held_made, made_edges, IsHeld, AreHeld}
use Rattle.back_propagation.specs.declared.made_edges.Held.{Held}
use Rattle.back_propagation.specs.declared.made_edges.Held.TheVariants.{Short, Whole}
use Rattle.back_propagation.specs.declared.made_edges.MadeEdges.TheInside.{Inside}

-- one more edge that is stored whole changes none that is stored
kept : (target : PointId) (whole : List Made) (one : Made) (held : Held) → IsHeld (length whole) held → held_made target (whole ++ one ∷ []) held ≡ held_made target whole held
kept target whole one (Short short) here = refl
kept target whole one (Whole place) here = get_or_append_left whole (one ∷ []) no_made place here

all_kept : (target : PointId) (whole : List Made) (one : Made) (held : List Held) → All (IsHeld (length whole)) held → map (held_made target (whole ++ one ∷ [])) held ≡ map (held_made target whole) held
all_kept target whole one [] here = refl
all_kept target whole one (x ∷ held) here =
    λ i. kept target whole one x (All-head (IsHeld (length whole)) x held here) i ∷ all_kept target whole one held (All-tail (IsHeld (length whole)) x held here) i

-- one more edge, by the fields after it
pub pushed_short : (before after : Inside) (held : Held) (one : Made) → after.target ≡ before.target → after.whole.items ≡ before.whole.items → after.held.items ≡ before.held.items ++ held ∷ []
    → held_made before.target before.whole.items held ≡ one
    → made_edges after ≡ made_edges before ++ one ∷ []
pushed_short before after held one target whole more is =
    (λ i. map (held_made (target i) (whole i)) (more i))
    ∙ (map-append (held_made before.target before.whole.items) before.held.items (held ∷ []) ∙ ap (λ (m : Made). made_edges before ++ m ∷ []) is)

pub pushed_whole : (before after : Inside) (one : Made) → AreHeld before → after.target ≡ before.target → after.whole.items ≡ before.whole.items ++ one ∷ [] → after.held.items ≡ before.held.items ++ Whole (length before.whole.items) ∷ []
    → made_edges after ≡ made_edges before ++ one ∷ []
pushed_whole before after one here target whole more =
    let to = before.target in
    let held = before.held.items in
    let kept_whole = before.whole.items in
    (λ i. map (held_made (target i) (whole i)) (more i))
    ∙ (map-append (held_made to (kept_whole ++ one ∷ [])) held (Whole (length kept_whole) ∷ [])
    ∙ (λ i. all_kept to kept_whole one held here i ++ get_or-append_seam kept_whole one [] no_made i ∷ []))

-- what is taken with one edge more
pub taken_more : (made : List Made) (place : ℕ) (one : Made) → slice_get made place ≡ Some one → take (place + 1) made ≡ take place made ++ one ∷ []
taken_more made place one here =
    take_more made place one (slice_get_within made place one here) ∙ ap (λ (m : Made). take place made ++ m ∷ []) (get_or_from_slice_get made place one one here)
