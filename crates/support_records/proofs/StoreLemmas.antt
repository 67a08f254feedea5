-- A store that has followed an edit.
use Rattle.std.proofs.Common.{◌≡◌, ℕ, suc, ◌+◌, ◌≤◌, List, [], ◌∷◌, ◌++◌, length, Option, Some, None, ap, sym, ◌∙◌, subst, arith}
use Rattle.std.proofs.lemmas.List.{length-append}
use Rattle.net_model.specs.Network.{Plan, IsPlan}
use Rattle.closure_model.specs.Derivations.{Support, StandsOn, IsDerivationList, edges_of_nodes}
use Rattle.closure_model.specs.Keys.{shape_of}
use Rattle.closure_model.specs.Tables.{table_of}
use Rattle.closure_model.specs.declared.derivation.Node.{Node}
use Rattle.closure_model.proofs.DerivedNodes.{premises_earlier}
use Rattle.edit_laws.specs.KeptLists.{Renumbering, Following, none_followed, placed, follow_node, followed, moved_node, followed_support}
use Rattle.edit_laws.specs.EditNumbers.{renumbering, new_base_nodes}
use Rattle.net_model.specs.declared.edit.Edit.{Edit}
use Rattle.edit_laws.proofs.ByNames.{names_renumber_all}
use Rattle.edit_laws.proofs.FollowedSupport.{law_followed_stands}
use Rattle.edit_laws.proofs.KeptNodes.{kept_is_what_rests_on_nothing_taken}
use Rattle.edit_laws.proofs.NewBase.{new_base_is_whole_all}
use Rattle.edit_laws.proofs.Prefixes.{over_all}
use Rattle.support_records.specs.FollowedStores.{IsDerivedOn, HasFollowed, IsFollowed}
use Rattle.support_records.specs.Moves.{moves_of, AreMoves, CanFollow}
use Rattle.support_records.specs.NewNodes.{new_nodes}
use Rattle.support_records.specs.declared.moves.Moves.{Moves}
use Rattle.support_records.specs.declared.store.Withdrawn.{Withdrawn}

-- no more are kept than there were
pub kept_fewer : (moves : Renumbering) (nodes : List Node) → length (followed moves nodes).kept ≤ length nodes
kept_fewer moves nodes = over_all (follow_node moves) none_followed nodes (λ (n : ℕ) (f : Following). length f.kept ≤ n) (omega arith) (λ n node f here few. one_more n f few (moved_node moves f.places node))
  where
    one_more : (n : ℕ) (f : Following) → length f.kept ≤ n → (o : Option Node) → length (placed f o).kept ≤ suc n
    one_more n f few None = omega arith
    one_more n f few (Some made) = let size : length (f.kept ++ made ∷ []) ≡ length f.kept + 1 = length-append f.kept (made ∷ []) in omega arith

-- ---- what has followed an edit
followed_by_names : (old : Plan) (edit : Edit) (new : Plan) (before after : Support) (answer : Withdrawn) → IsPlan old → IsPlan new → StandsOn old before → HasFollowed old new (renumbering old edit new) before.nodes after answer.kept
    → answer.kept + answer.withdrawn ≡ length before.nodes → IsFollowed old edit new before after answer
followed_by_names old edit new before after answer old_plan new_plan stands has counts =
    record {
      places = (followed (renumbering old edit new) before.nodes).places;
      kept = (followed (renumbering old edit new) before.nodes).kept;
      are = kept_is_what_rests_on_nothing_taken (renumbering old edit new) before.nodes (premises_earlier old before.nodes stands.derived);
      list = has.list;
      count = has.kept;
      counts = counts;
      is = is;
      stands = subst (StandsOn new) (sym is) (law_followed_stands old new (renumbering old edit new) (new_base_nodes old edit new) before (names_renumber_all old edit new old_plan new_plan)
          (new_base_is_whole_all old edit new old_plan new_plan) stands);
    }
  where
    is : after ≡ followed_support new (renumbering old edit new) (new_base_nodes old edit new) before
    is =
        let table_is : after.table ≡ table_of (shape_of new) (edges_of_nodes ((followed (renumbering old edit new) before.nodes).kept ++ new_base_nodes old edit new)) = has.derived.table
        ∙ ap (λ (ns : List Node). table_of (shape_of new) (edges_of_nodes ns)) has.list in
        λ i. record { nodes = has.list i; table = table_is i }

-- ---- what holds of the numbers as they are stored, and of those by names
module _ (old : Plan) (edit : Edit) (new : Plan) (moves : Moves) (are : AreMoves old edit new moves) where
  by_names : (P : Plan → Plan → Renumbering → Type 0) → P moves.points.old.now moves.points.new.now (moves_of moves) → P old new (renumbering old edit new)
  by_names P held = subst (λ (net : Plan). P net new (renumbering old edit new)) are.old_is (subst (λ (net : Plan). P moves.points.old.now net (renumbering old edit new)) are.new_is
      (subst (P moves.points.old.now moves.points.new.now) are.numbers held))

  as_held : (P : Plan → Plan → Renumbering → Type 0) → P old new (renumbering old edit new) → P moves.points.old.now moves.points.new.now (moves_of moves)
  as_held P named = subst (P moves.points.old.now moves.points.new.now) (sym are.numbers) (subst (λ (net : Plan). P moves.points.old.now net (renumbering old edit new)) (sym are.new_is)
      (subst (λ (net : Plan). P net new (renumbering old edit new)) (sym are.old_is) named))

  pub can_follow : (nodes : List Node) → IsPlan old → IsPlan new → IsDerivationList old nodes → CanFollow moves.points.old.now moves.points.new.now (moves_of moves) nodes
  can_follow nodes before after derived =
      as_held (λ o n m. CanFollow o n m nodes) (record { is = names_renumber_all old edit new before after; derived = derived; news = (new_base_is_whole_all old edit new before after).of_base })

  has_by_names : (before : List Node) (after : Support) (count : ℕ) → HasFollowed moves.points.old.now moves.points.new.now (moves_of moves) before after count → HasFollowed old new (renumbering old edit new) before after count
  has_by_names before after count has = by_names (λ o n m. HasFollowed o n m before after count) has

  pub is_followed : (before after : Support) (answer : Withdrawn) → IsPlan old → IsPlan new → StandsOn old before → HasFollowed moves.points.old.now moves.points.new.now (moves_of moves) before.nodes after answer.kept
      → answer.kept + answer.withdrawn ≡ length before.nodes → IsFollowed old edit new before after answer
  is_followed before after answer old_plan new_plan stands held counts = followed_by_names old edit new before after answer old_plan new_plan stands (has_by_names before.nodes after answer.kept held) counts

-- ---- what was put into a store
pub has_followed : (old new : Plan) (moves : Renumbering) (before kept : List Node) (after : Support) (count : ℕ) → kept ≡ (followed moves before).kept → after.nodes ≡ kept ++ new_nodes moves old new → count ≡ length kept
    → IsDerivedOn new after
    → HasFollowed old new moves before after count
has_followed old new moves before kept after count is list size derived =
    let same = size ∙ ap length is in
    record { list = list ∙ ap (λ (ns : List Node). ns ++ new_nodes moves old new) is; kept = same; few = subst (λ n. n ≤ length before) (sym same) (kept_fewer moves before); derived = derived }
