-- Each rule keeps truth of a strategy that controls the network.
use Rattle.std.proofs.Common.{◌≡◌, ◌≢◌, ℕ, zero, suc, pos, length, take, get_or, add-one, ◌<◌, ◌≤◌, ◌+ℤ◌, ◌≤ℤ◌, ◌<ℤ◌, List, Option, Some, None, inl, inr, sym, ap, subst, ◌∙◌, arith, nat_abs}
use Rattle.std.specs.Prelude.{slice_get}
use Rattle.std.specs.List.{All, AllByRecursion, Contains}
use Rattle.std.proofs.Math.Seq.{take-length}
use Rattle.std.proofs.lemmas.Bool.{cases_lt}
use Rattle.std.proofs.lemmas.Int.{ints}
use Rattle.std.proofs.lemmas.List.Elements.{All-from_recursion, recursion_from_All, All-contains, All-nil, All-more}
use Rattle.std.proofs.lemmas.Option.{same_Some, slice_get_cases}
use Rattle.net_model.specs.Network.{Plan, IsLink}
use Rattle.net_model.specs.Edges.{IsLinkOf}
use Rattle.net_model.specs.LooseRules.{IsLooseDerivation, by_bound, by_link, by_no_case, by_upper_case, by_lower_case, by_cross_case, by_removal}
use Rattle.net_model.specs.declared.ids.LinkId.{LinkId}
use Rattle.net_model.specs.declared.part.Edge.{Edge}
use Rattle.net_model.specs.declared.part.Link.{Link}
use Rattle.strategy_model.specs.Situations.{IsSituation, IsDuration, DifferOnlyIn, Satisfies, moment_in}
use Rattle.strategy_model.specs.Plays.{IsInstant, play}
use Rattle.strategy_model.specs.Control.{Controls}
use Rattle.strategy_model.specs.Edges.{HoldsIn, HoldsOf, TakesLongest}
use Rattle.strategy_model.specs.Laws.{BoundKeepsTruth, LinkKeepsTruth, NoCaseKeepsTruth, UpperCaseKeepsTruth, LowerCaseKeepsTruth, CrossCaseKeepsTruth, RemovalKeepsTruth, RulesKeepTruth, DerivationsAreTrue}
use Rattle.strategy_model.specs.declared.tree.Tree.{Tree}
use Rattle.strategy_model.proofs.BoundLemmas.{edge_of_bound_holds}
use Rattle.strategy_model.proofs.PlayLemmas.{link_sound}
use Rattle.strategy_model.proofs.CompareLemmas.{law_completion_follows_activation, own_size, duration_of, Compared, compared}

-- the play of a controlling strategy satisfies the network
satisfied : (net : Plan) (strategy : Tree) (situation schedule : List ℕ) → Controls strategy net → IsSituation net situation → play strategy net situation ≡ Some schedule → Satisfies net schedule
satisfied net strategy situation schedule controls is_situation played =
    let (made, made_played, satisfies) = controls situation is_situation in
    subst (Satisfies net) (same_Some made schedule (sym made_played ∙ played)) satisfies

pub law_bound_keeps_truth : BoundKeepsTruth
law_bound_keeps_truth net strategy edge instant controls rule situation schedule is_situation longest played =
    edge_of_bound_holds net schedule (satisfied net strategy situation schedule controls is_situation played) edge rule

pub law_link_keeps_truth : LinkKeepsTruth
law_link_keeps_truth net strategy edge instant controls rule situation schedule is_situation longest played =
    let (duration, lasts, fits) = duration_of net.links situation rule.name.0 rule.link is_situation rule.declared in
    let is_longest : pos duration ≡ rule.link.high = (subst (TakesLongest net situation) rule.labelled longest) rule.link duration rule.declared lasts in
    let completes = law_completion_follows_activation net strategy situation schedule rule.name rule.link duration instant played rule.declared lasts in
    let from : moment_in schedule edge.from ≡ moment_in schedule rule.link.to = ap (moment_in schedule) rule.from in
    let to : moment_in schedule edge.to ≡ moment_in schedule rule.link.from = ap (moment_in schedule) rule.to in
    let looser = rule.looser in
    omega (arith, ints, is_longest, completes, from, to, looser)

-- two consecutive edges, and a looser one over both
joined : (schedule : List ℕ) (first second edge : Edge) → HoldsIn schedule first → HoldsIn schedule second → first.to ≡ second.from → edge.from ≡ first.from → edge.to ≡ second.to → (first.weight +ℤ second.weight) ≤ℤ edge.weight
    → HoldsIn schedule edge
joined schedule first second edge holds_first holds_second meet from to looser =
    let same_meet : moment_in schedule first.to ≡ moment_in schedule second.from = ap (moment_in schedule) meet in
    let same_from : moment_in schedule edge.from ≡ moment_in schedule first.from = ap (moment_in schedule) from in
    let same_to : moment_in schedule edge.to ≡ moment_in schedule second.to = ap (moment_in schedule) to in
    omega (arith, ints, holds_first, holds_second, same_meet, same_from, same_to, looser)

-- an ordinary edge asks for no longest duration
pub free : (net : Plan) (situation : List ℕ) (label : Option LinkId) → label ≡ None → TakesLongest net situation label
free net situation label ordinary = subst (TakesLongest net situation) (sym ordinary) tt

-- labels that are one ask for one longest duration
same_label : (net : Plan) (situation : List ℕ) (label other : Option LinkId) → label ≡ other → TakesLongest net situation label → TakesLongest net situation other
same_label net situation label other same longest = subst (TakesLongest net situation) same longest

pub law_no_case_keeps_truth : NoCaseKeepsTruth
law_no_case_keeps_truth net strategy first second edge instant controls holds_first holds_second rule situation schedule is_situation longest played =
    joined schedule first second edge (holds_first situation schedule is_situation (free net situation first.label rule.first_ordinary) played)
    (holds_second situation schedule is_situation (free net situation second.label rule.second_ordinary) played) rule.meet rule.from rule.to rule.looser

pub law_upper_case_keeps_truth : UpperCaseKeepsTruth
law_upper_case_keeps_truth net strategy first second edge instant controls holds_first holds_second rule situation schedule is_situation longest played =
    joined schedule first second edge (holds_first situation schedule is_situation (free net situation first.label rule.first_ordinary) played)
    (holds_second situation schedule is_situation (same_label net situation edge.label second.label (rule.labelled ∙ sym rule.second_labelled) longest) played) rule.meet rule.from rule.to rule.looser

-- the shortest duration of a link, as a number
shortest_is_duration : (net : Plan) (link : Link) → IsLink net link → IsDuration link (nat_abs link.low)
shortest_is_duration net link sound =
    let same : pos (nat_abs link.low) ≡ link.low = own_size link.low sound.positive in
    let interval = sound.interval in
    (omega (arith, ints, same), omega (arith, ints, same, interval))

longest_is_duration : (net : Plan) (link : Link) → IsLink net link → IsDuration link (nat_abs link.high)
longest_is_duration net link sound =
    let positive = sound.positive in
    let interval = sound.interval in
    let same : pos (nat_abs link.high) ≡ link.high = own_size link.high (omega (arith, ints, positive, interval)) in
    (omega (arith, ints, same, interval), omega (arith, ints, same))

-- in the situation in which the link is longest, it takes its longest duration
longest_there : (net : Plan) (other : List ℕ) (name : LinkId) (link : Link) → IsLinkOf net name link → slice_get other name.0 ≡ Some (nat_abs link.high) → pos (nat_abs link.high) ≡ link.high → TakesLongest net other (Some name)
longest_there net other name link declared lasts longest its duration its_declared its_lasts =
    let same_link : link ≡ its = same_Some link its (sym declared ∙ its_declared) in
    let same_duration : duration ≡ nat_abs link.high = same_Some duration (nat_abs link.high) (sym its_lasts ∙ lasts) in
    ap pos same_duration ∙ longest ∙ ap (λ (l : Link). l.high) same_link

module _ (net : Plan) (strategy : Tree) (name : LinkId) (link : Link) where
  -- A point that comes before a link's completion when the link is shortest comes at the same moment when it isn't.
  after_shortest : (situation schedule : List ℕ) → IsLink net link
      → (both : Compared net strategy name link situation schedule (nat_abs link.low)) → (second edge : Edge) → HoldsIn both.other_schedule second → second.from ≡ link.to → second.weight <ℤ pos 0
      → edge.from ≡ link.from → edge.to ≡ second.to → (link.low +ℤ second.weight) ≤ℤ edge.weight → HoldsIn schedule edge
  after_shortest situation schedule sound both second edge holds begins negative from to looser =
      let begins_in : moment_in both.other_schedule second.from ≡ moment_in both.other_schedule link.to = ap (moment_in both.other_schedule) begins in
      let from_in : moment_in schedule edge.from ≡ moment_in schedule link.from = ap (moment_in schedule) from in
      let to_in : moment_in schedule edge.to ≡ moment_in schedule second.to = ap (moment_in schedule) to in
      let same_activation = both.same_activation in
      let completes = both.completes in
      let other_completes = both.other_completes in
      let low = both.is_duration.0 in
      let shortest : pos (nat_abs link.low) ≡ link.low = own_size link.low sound.positive in
      let same_end : moment_in schedule second.to ≡ moment_in both.other_schedule second.to = both.agree_back second.to (omega (arith, ints, holds, begins_in, negative, same_activation, completes, other_completes, low, shortest)) in
      omega (arith, ints, holds, begins_in, from_in, to_in, same_activation, other_completes, shortest, same_end, looser)

  -- a point that comes before a link's completion comes at the same moment when the link is longest
  beside_longest : (situation schedule : List ℕ) → IsLink net link
      → (both : Compared net strategy name link situation schedule (nat_abs link.high)) → (premise : Edge) → HoldsIn both.other_schedule premise → premise.to ≡ link.from
      → moment_in schedule premise.from < moment_in schedule link.to → HoldsIn schedule premise
  beside_longest situation schedule sound both premise holds ends before =
      let ends_in : moment_in schedule premise.to ≡ moment_in schedule link.from = ap (moment_in schedule) ends in
      let ends_there : moment_in both.other_schedule premise.to ≡ moment_in both.other_schedule link.from = ap (moment_in both.other_schedule) ends in
      let same_activation = both.same_activation in
      let completes = both.completes in
      let other_completes = both.other_completes in
      let high = both.is_duration.1 in
      let positive = sound.positive in
      let interval = sound.interval in
      let longest : pos (nat_abs link.high) ≡ link.high = own_size link.high (omega (arith, ints, positive, interval)) in
      let same : moment_in schedule premise.from ≡ moment_in both.other_schedule premise.from = both.agree premise.from (omega (arith, ints, before, same_activation, completes, other_completes, high, longest)) in
      omega (arith, ints, holds, ends_in, ends_there, same_activation, same)

  -- a labelled edge that is true holds whenever its first point comes before its label's completion
  pub wait_kept : (premise : Edge) (situation schedule : List ℕ) → IsInstant net → Controls strategy net → HoldsOf net strategy premise
      → premise.label ≡ Some name → IsLinkOf net name link → premise.to ≡ link.from → IsSituation net situation → play strategy net situation ≡ Some schedule
      → moment_in schedule premise.from < moment_in schedule link.to → HoldsIn schedule premise
  wait_kept premise situation schedule instant controls holds labelled declared ends is_situation played before =
      let sound = link_sound net instant.sound name.0 link declared in
      let positive = sound.positive in
      let interval = sound.interval in
      let both = compared net strategy name link situation schedule (nat_abs link.high) instant controls declared is_situation played (longest_is_duration net link sound) in
      let is_longest = longest_there net both.other name link declared both.lasts (own_size link.high (omega (arith, ints, positive, interval))) in
      let holds_there = holds both.other both.other_schedule both.is_situation (same_label net both.other (Some name) premise.label (sym labelled) is_longest) both.played in
      beside_longest situation schedule sound both premise holds_there ends before

pub law_lower_case_keeps_truth : LowerCaseKeepsTruth
law_lower_case_keeps_truth net strategy second edge instant controls holds rule situation schedule is_situation longest played =
    let sound = link_sound net instant.sound rule.name.0 rule.link rule.declared in
    let both = compared net strategy rule.name rule.link situation schedule (nat_abs rule.link.low) instant controls rule.declared is_situation played (shortest_is_duration net rule.link sound) in
    let holds_there = holds both.other both.other_schedule both.is_situation (free net both.other second.label rule.second_ordinary) both.played in
    after_shortest net strategy rule.name rule.link situation schedule sound both second edge holds_there rule.begins rule.negative rule.from rule.to rule.looser

-- if situations differ only in one link, another link that takes its longest duration in one does in the other
longest_stays : (net : Plan) (situation other : List ℕ) (name label : LinkId) → label ≢ name → DifferOnlyIn name situation other → TakesLongest net situation (Some label) → TakesLongest net other (Some label)
longest_stays net situation other name label another differ longest link duration declared lasts =
    longest link duration declared (differ label.0 (λ same. another (λ i. record { 0 = same i })) ∙ lasts)

pub law_cross_case_keeps_truth : CrossCaseKeepsTruth
law_cross_case_keeps_truth net strategy second edge instant controls holds rule situation schedule is_situation longest played =
    let sound = link_sound net instant.sound rule.name.0 rule.link rule.declared in
    let both = compared net strategy rule.name rule.link situation schedule (nat_abs rule.link.low) instant controls rule.declared is_situation played (shortest_is_duration net rule.link sound) in
    let longest_here : TakesLongest net situation (Some rule.label) = same_label net situation edge.label (Some rule.label) rule.labelled longest in
    let longest_there : TakesLongest net both.other (Some rule.label) = longest_stays net situation both.other rule.name rule.label rule.another both.elsewhere longest_here in
    let holds_there = holds both.other both.other_schedule both.is_situation (same_label net both.other (Some rule.label) second.label (sym rule.second_labelled) longest_there) both.played in
    after_shortest net strategy rule.name rule.link situation schedule sound both second edge holds_there rule.begins rule.negative rule.from rule.to rule.looser

pub law_removal_keeps_truth : RemovalKeepsTruth
law_removal_keeps_truth net strategy premise edge instant controls holds rule situation schedule is_situation longest played =
    let (duration, lasts, fits) = duration_of net.links situation rule.name.0 rule.link is_situation rule.declared in
    let completes = law_completion_follows_activation net strategy situation schedule rule.name rule.link duration instant played rule.declared lasts in
    let shortest = fits.0 in
    let ends : moment_in schedule premise.to ≡ moment_in schedule rule.link.from = ap (moment_in schedule) rule.ends in
    let from : moment_in schedule edge.from ≡ moment_in schedule premise.from = ap (moment_in schedule) rule.from in
    let to : moment_in schedule edge.to ≡ moment_in schedule premise.to = ap (moment_in schedule) rule.to in
    let looser = rule.looser in
    let not_below = rule.not_below_shortest in
    elim (cases_lt (moment_in schedule premise.from) (moment_in schedule rule.link.to)) [
      | inl before ↦
          let kept = wait_kept net strategy rule.name rule.link premise situation schedule instant controls holds rule.premise_labelled rule.declared rule.ends is_situation played before in
          omega (arith, ints, kept, from, to, looser)
      | inr after ↦ omega (arith, ints, after, ends, from, to, completes, shortest, not_below)
    ]

-- an edge of a list whose edges are all true is true
true_of : (net : Plan) (strategy : Tree) (edges : List Edge) (edge : Edge) → AllByRecursion (HoldsOf net strategy) edges → Contains edges edge → HoldsOf net strategy edge
true_of net strategy edges edge all among =
    All-contains (HoldsOf net strategy) edges edge (All-from_recursion (HoldsOf net strategy) edges all) among

pub law_rules_keep_truth : RulesKeepTruth
law_rules_keep_truth net strategy earlier edge instant controls all (by_bound rule) = law_bound_keeps_truth net strategy edge instant controls rule
law_rules_keep_truth net strategy earlier edge instant controls all (by_link rule) = law_link_keeps_truth net strategy edge instant controls rule
law_rules_keep_truth net strategy earlier edge instant controls all (by_no_case first second first_among second_among rule) =
    law_no_case_keeps_truth net strategy first second edge instant controls (true_of net strategy earlier first all first_among) (true_of net strategy earlier second all second_among) rule
law_rules_keep_truth net strategy earlier edge instant controls all (by_upper_case first second first_among second_among rule) =
    law_upper_case_keeps_truth net strategy first second edge instant controls (true_of net strategy earlier first all first_among) (true_of net strategy earlier second all second_among) rule
law_rules_keep_truth net strategy earlier edge instant controls all (by_lower_case second among rule) =
    law_lower_case_keeps_truth net strategy second edge instant controls (true_of net strategy earlier second all among) rule
law_rules_keep_truth net strategy earlier edge instant controls all (by_cross_case second among rule) =
    law_cross_case_keeps_truth net strategy second edge instant controls (true_of net strategy earlier second all among) rule
law_rules_keep_truth net strategy earlier edge instant controls all (by_removal premise among rule) =
    law_removal_keeps_truth net strategy premise edge instant controls (true_of net strategy earlier premise all among) rule

-- the edges of a derivation up to a place are true
true_up_to : (net : Plan) (strategy : Tree) (edges : List Edge) → IsInstant net → Controls strategy net → IsLooseDerivation net edges → (k : ℕ) → k ≤ length edges → All (HoldsOf net strategy) (take k edges)
true_up_to net strategy edges instant controls derivation zero within = All-nil (HoldsOf net strategy)
true_up_to net strategy edges instant controls derivation (suc k) within =
    let before = true_up_to net strategy edges instant controls derivation k (omega arith) in
    elim (slice_get_cases edges k).1 [
      | inl (edge, inside, found, here) ↦
          let earlier = recursion_from_All (HoldsOf net strategy) (take k edges) before in
          let holds = law_rules_keep_truth net strategy (take k edges) edge instant controls earlier (derivation k edge found) in
          let holds_here : HoldsOf net strategy (get_or edges k edge) = subst (HoldsOf net strategy) (sym here) holds in
          subst (λ (n : ℕ). All (HoldsOf net strategy) (take n edges)) (add-one k) (All-more (HoldsOf net strategy) edges k edge inside before holds_here)
      | inr (past, missing) ↦ absurd (omega arith)
    ]

pub law_derivations_are_true : DerivationsAreTrue
law_derivations_are_true net strategy edges instant controls derivation =
    let whole : take (length edges) edges ≡ edges = take-length edges in
    subst (All (HoldsOf net strategy)) whole (true_up_to net strategy edges instant controls derivation (length edges) (omega arith))
