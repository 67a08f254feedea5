-- By what is kept a network is executed as by what was made.
use Rattle.std.proofs.Common.{◌≡◌, ℕ, List, length, replicate, get_or, Option, None, Ok, refl, ap, sym, subst, ◌∙◌, inl, inr, arith}
use Rattle.std.proofs.lemmas.Bool.{cases_lt}
use Rattle.std.proofs.lemmas.List.{length-map, get_or-replicate, length-replicate, get_or_past}
use Rattle.std.proofs.lemmas.Option.{none-some}
use Rattle.net_model.specs.Network.{Plan}
use Rattle.net_model.specs.declared.ids.PointId.{PointId}
use Rattle.net_model.specs.declared.part.Link.{Link}
use Rattle.strategy_model.proofs.OrderLemmas.{rank}
use Rattle.dispatch_net.specs.declared.dispatch.Conditions.{Conditions}
use Rattle.dispatch_net.specs.Dispatchable.{DispatchLists}
use Rattle.dispatch_net.specs.Ranked.{IsDispatchTable}
use Rattle.dispatch_net.specs.Slim.{slim_conditions}
use Rattle.net_model.specs.Moments.{Moments}
use Rattle.execution_model.specs.Execution.{Setting, is_due, points_of, time_runs}
use Rattle.execution_model.specs.Laws.{setting_of}
use Rattle.execution_model.specs.Paced.{IsRankedNetwork, ArePaced, slim_setting}
use Rattle.execution_model.proofs.RankedLemmas.{made_is_ranked}
use Rattle.execution_model.proofs.SameLemmas.{completions_paced, same_points, same_time}
use Rattle.execution_model.proofs.SlimLemmas.{law_slim_is_due_the_same}
use Rattle.live_executor.specs.Sound.{IsDispatchOf, KeptNetwork, kept_network, made_setting, IsKeptNetwork, ExecutesTheSame}
use Rattle.live_executor.specs.FeedParts.{completed}
use Rattle.live_executor.specs.Wakes.{WakeLists}

-- ---- which network it is
pub made_of : (net : Plan) (lists : DispatchLists) (wakes : WakeLists) → (of : IsDispatchOf net lists) → made_setting (kept_network lists wakes) ≡ setting_of net of.table
made_of net lists wakes of =
    ap (λ (links : List Link). let s : Setting = record { links = links; dispatch = lists.made } in s) of.links
    ∙ ap (λ (dispatch : List Conditions). let s : Setting = record { links = net.links; dispatch = dispatch } in s) of.made

pub executes_the_same : (lists : DispatchLists) (points : ℕ) (wakes : WakeLists) → IsKeptNetwork lists points → ExecutesTheSame (kept_network lists wakes)
executes_the_same lists points wakes kept =
    let of = kept.dispatched in
    let is : IsDispatchTable kept.net of.table of.order = record { sound = of.instant.sound; for_network = of.may.for_network; graph = of.graph; closed = of.may.closed; ordered = of.may.ordered } in
    record {
      rank = rank of.order;
      ranked = subst (λ (s : Setting). IsRankedNetwork s (rank of.order)) (sym (made_of kept.net lists wakes of)) (made_is_ranked kept.net of.table of.order is);
      slim_or_whole = kept.slim_or_whole;
    }

-- before the first feed
pub none_paced : (setting : Setting) (count : ℕ) (moments : Moments) → moments ≡ replicate count None → ArePaced setting moments
none_paced setting count moments is = record {
  executed = λ point moment come. absurd (none-some moment (sym (never point.0) ∙ come));
  completed = λ link moment among come. absurd (none-some moment (sym (never link.to.0) ∙ come));
}
  where
    never : (k : ℕ) → get_or moments k None ≡ None
    never k = ap (λ (m : Moments). get_or m k None) is ∙ elim (cases_lt k count) [
      | inl inside ↦ get_or-replicate count k None None inside
      | inr past ↦ get_or_past (replicate count None) k None (let long = length-replicate count (let none : Option ℕ = None in none) in omega (arith, past, long))
    ]

-- ---- what is the same
module _ (network : KeptNetwork) (same : ExecutesTheSame network) where
  abbrev made : Setting
  made = made_setting network

  abbrev by_lists : List Conditions → Setting
  by_lists lists = record { links = network.setting.links; dispatch = lists }

  either : (P : Setting → Type 0) → P made → P (slim_setting made) → P network.setting
  either P whole slim =
      elim same.slim_or_whole [
        | inl is ↦ subst (λ (lists : List Conditions). P (by_lists lists)) (sym is) whole
        | inr is ↦ subst (λ (lists : List Conditions). P (by_lists lists)) (sym is) slim
      ]

  pub count_same : length network.setting.dispatch ≡ length network.made
  count_same = either (λ s. length s.dispatch ≡ length network.made) refl (length-map network.made (slim_conditions network.setting.links network.made))

  pub points_same : points_of network.setting ≡ points_of made
  points_same = either (λ s. points_of s ≡ points_of made) refl (same_points made same.rank same.ranked)

  module _ (moments : Moments) (paced : ArePaced made moments) where
    pub due_same : (t : ℕ) (point : PointId) → is_due network.setting moments t point ≡ is_due made moments t point
    due_same t point = either (λ s. is_due s moments t point ≡ is_due made moments t point) refl (law_slim_is_due_the_same made same.rank moments same.ranked paced t point)

    pub time_same : (t count : ℕ) → length moments ≡ length network.made → time_runs network.setting moments t count ≡ time_runs made moments t count
    time_same t count long = either (λ s. time_runs s moments t count ≡ time_runs made moments t count) refl (same_time made same.rank same.ranked count moments t paced long)

  -- completions that are taken keep to what was made
  pub completed_paced : (moments taken : Moments) (moment : ℕ) (listed : List PointId) → ArePaced made moments → length moments ≡ length network.made → completed made moments moment listed ≡ Ok taken
      → ArePaced made taken × (length taken ≡ length network.made)
  completed_paced = completions_paced made same.rank same.ranked
