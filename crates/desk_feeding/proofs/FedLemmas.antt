-- What is fed in order, and what is done at the desk.
use Rattle.std.proofs.Common.{◌≡◌, ℕ, suc, ◌+◌, ◌<◌, ◌&&◌, Bool, true, false, List, [], ◌∷◌, ◌++◌, length, take, get_or, refl, ap, sym, subst, ◌∙◌, arith}
use Rattle.std.specs.List.{All, cons_option, list_all}
use Rattle.std.specs.Option.{is_some}
use Rattle.std.proofs.lemmas.List.Folds.{list_all-append}
use Rattle.std.proofs.lemmas.List.{take_more}
use Rattle.std.proofs.lemmas.List.Elements.{filter_map-append}
use Rattle.std.proofs.lemmas.List.Sorted.{All-permutation}
use Rattle.net_model.specs.Network.{Plan, IsPoint, activation}
use Rattle.net_model.specs.declared.ids.LinkId.{LinkId}
use Rattle.net_model.specs.declared.ids.PointId.{PointId}
use Rattle.execution_model.specs.Feeds.{Execution, IsFed}
use Rattle.execution_model.specs.declared.feed_answers.Fed.{Fed}
use Rattle.net_model.specs.Moments.{Moments}
use Rattle.sensor_desk.specs.Desks.{DeskSeen, DeskSeatSeen, IsSeatOfDesk}
use Rattle.desk_feeding.specs.Fed.{IsFedInOrder}
use Rattle.desk_feeding.specs.Feedings.{FeedingSeen, FeedsAtDesk, HasReadOpen, IsFeedingOf, ReadsIfOpen, further, have_links, links_to, passes, reads}
use Rattle.desk_feeding.specs.Ordered.{IsInOrder}

module _ (listed ordered : List PointId) (is : IsInOrder listed ordered) where
  pub ordered_points : (net : Plan) → All (IsPoint net) listed → All (IsPoint net) ordered
  ordered_points net all = All-permutation (IsPoint net) listed ordered is.same all

  pub may_feed : (net : Plan) (execution : Execution) → length execution.setting.dispatch ≡ length net.points → All (IsPoint net) listed → (list : List PointId) → list ≡ ordered
      → All (λ (point : PointId). point.0 < length execution.setting.dispatch) list
  may_feed net execution points all list same =
      subst (λ (n : ℕ). All (λ (point : PointId). point.0 < n) list) (sym points) (subst (All (IsPoint net)) (sym same) (ordered_points net all))

  pub fed_in_order : (before : Execution) (moment : ℕ) (list : List PointId) → list ≡ ordered → (answer : Fed) (after : Execution) → IsFed before moment list answer after
      → IsFedInOrder before moment listed answer after
  fed_in_order before moment list same answer after fed = record {
    ordered = ordered;
    order = is;
    fed = subst (λ (l : List PointId). IsFed before moment l answer after) same fed;
  }

-- the desk is still that of the network
pub network_stays : (net : Plan) (moments : Moments) (moment : ℕ) (named : List PointId) (before after : FeedingSeen) → IsFeedingOf net before → FeedsAtDesk net moments moment named before after → IsFeedingOf net after
network_stays net moments moment named before after is feeds = ap (λ (desk : DeskSeen). desk.about.net.value) feeds.same ∙ is

-- one point more
pub one_more : (net : Plan) (moments : Moments) (moment : ℕ) (before : DeskSeatSeen) (number : ℕ) (between after : DeskSeatSeen) (stands : Bool) → HasReadOpen net moments moment before number between
    → ReadsIfOpen net moments moment (record { 0 = number }) between after stands → HasReadOpen net moments moment before (number + 1) after
one_more net moments moment before number between after stands so_far here =
    let next : suc number ≡ number + 1 = omega arith in
    subst (λ (n : ℕ). HasReadOpen net moments moment before n after) next (further number between after stands so_far here)

-- a seat that read is of the same desk
pub reads_of : (net : Plan) (moments : Moments) (moment : ℕ) (point : PointId) (desk : DeskSeen) (before after : DeskSeatSeen) (stands : Bool) → IsSeatOfDesk desk before
    → ReadsIfOpen net moments moment point before after stands → IsSeatOfDesk desk after
reads_of net moments moment point desk before after stands of (passes none same not) = subst (IsSeatOfDesk desk) (sym same) of
reads_of net moments moment point desk before after stands of (reads link found at step is) = subst (IsSeatOfDesk desk) (sym step.after_is) (record { desk_is = of.desk_is; about_is = of.about_is })

-- the link of one point more
pub links_more : (net : Plan) (points : List PointId) (i : ℕ) (none : PointId) (before after : List LinkId) → i < length points → before ≡ links_to net (take i points)
    → after ≡ before ++ cons_option (activation net (get_or points i none)) [] → after ≡ links_to net (take (i + 1) points)
links_more net points i none before after within so_far is =
    let point = get_or points i none in
    let more : links_to net (take (i + 1) points) ≡ links_to net (take i points) ++ cons_option (activation net point) [] =
    ap (links_to net) (take_more points i none within) ∙ filter_map-append (activation net) (take i points) (point ∷ []) in
    is ∙ (ap (λ (links : List LinkId). links ++ cons_option (activation net point) []) so_far ∙ sym more)

and_true : (b : Bool) → (b && true) ≡ b
and_true true = refl
and_true false = refl

-- whether a link ends in each of one point more
pub all_more : (net : Plan) (points : List PointId) (i : ℕ) (none : PointId) (before ends : Bool) → i < length points → before ≡ have_links net (take i points)
    → ends ≡ is_some (activation net (get_or points i none)) → (before && ends) ≡ have_links net (take (i + 1) points)
all_more net points i none before ends within so_far is =
    let point = get_or points i none in
    let test : PointId → Bool = λ p. is_some (activation net p) in
    let last : have_links net (point ∷ []) ≡ test point = and_true (test point) in
    let more : have_links net (take (i + 1) points) ≡ (have_links net (take i points) && test point) =
    ap (have_links net) (take_more points i none within) ∙ (list_all-append test (take i points) (point ∷ []) ∙ ap (λ (b : Bool). have_links net (take i points) && b) last) in
    (λ k. so_far k && is k) ∙ sym more
