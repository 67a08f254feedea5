-- The numbers by names as they are stored.
use Rattle.std.proofs.Common.{◌≡◌, ℕ, zero, suc, ◌+◌, ◌<◌, List, [], ◌∷◌, ◌++◌, length, take, map, get_or, Option, None, refl, ap, sym, ◌∙◌}
use Rattle.std.specs.Prelude.{slice_get}
use Rattle.std.specs.Option.{option_and_then}
use Rattle.std.proofs.lemmas.List.{map_more}
use Rattle.net_model.specs.Network.{Plan}
use Rattle.net_model.specs.declared.ids.BoundId.{BoundId}
use Rattle.net_model.specs.declared.ids.LinkId.{LinkId}
use Rattle.edit_laws.specs.EditNumbers.{bound_in, link_in, renumbering}
use Rattle.net_model.specs.declared.edit.Edit.{Edit}
use Rattle.support_records.specs.Moves.{moves_of, AreMoves}
use Rattle.support_records.specs.declared.moves.Moves.{Moves}

at_map : {X Y : Type 0} (f : X → Option Y) (xs : List X) (k : ℕ) → get_or (map f xs) k None ≡ option_and_then f (slice_get xs k)
at_map f [] k = refl
at_map f (x ∷ xs) zero = refl
at_map f (x ∷ xs) (suc k) = at_map f xs k

pub are_moves : (old : Plan) (edit : Edit) (new : Plan) (moves : Moves) → moves.points.old.now ≡ old → moves.points.new.now ≡ new
    → moves.bounds.items ≡ map (bound_in moves.points.old.now edit moves.points.new.now) moves.points.old.now.bounds
    → moves.links.items ≡ map (link_in moves.points.old.now edit moves.points.new.now) moves.points.old.now.links → AreMoves old edit new moves
are_moves old edit new moves old_is new_is bounds links = record {
  old_is = old_is;
  new_is = new_is;
  numbers = held ∙ (λ i. renumbering (old_is i) edit (new_is i));
}
  where
    from : Plan
    from = moves.points.old.now

    to : Plan
    to = moves.points.new.now

    held : moves_of moves ≡ renumbering moves.points.old.now edit moves.points.new.now
    held =
        let bound : (id : BoundId) → (moves_of moves).bounds id ≡ (renumbering moves.points.old.now edit moves.points.new.now).bounds id =
        λ id. ap (λ (xs : List (Option BoundId)). get_or xs id.0 None) bounds ∙ at_map (bound_in moves.points.old.now edit moves.points.new.now) moves.points.old.now.bounds id.0 in
        let link : (id : LinkId) → (moves_of moves).links id ≡ (renumbering moves.points.old.now edit moves.points.new.now).links id =
        λ id. ap (λ (xs : List (Option LinkId)). get_or xs id.0 None) links ∙ at_map (link_in moves.points.old.now edit moves.points.new.now) moves.points.old.now.links id.0 in
        λ i. record { points = (moves_of moves).points; bounds = λ id. bound id i; links = λ id. link id i }

-- what was found for each item of a list, one item more
pub mapped_more : {X Y : Type 0} (f : X → Y) (listed xs : List X) (i : ℕ) (d : X) (items new : List Y) (found : Y) → listed ≡ xs → i < length listed → items ≡ map f (take i xs) → found ≡ f (get_or listed i d) → new ≡ items ++ found ∷ []
    → new ≡ map f (take (i + 1) xs)
mapped_more {X} f listed xs i d items new found same inside was is pushed =
    pushed
    ∙ ((λ t. (was ∙ ap (λ (l : List X). map f (take i l)) (sym same)) t ++ is t ∷ [])
    ∙ (sym (map_more f listed i d inside) ∙ ap (λ (l : List X). map f (take (i + 1) l)) same))
