-- Exactly the nodes that rest on nothing taken away are kept, in their order, and each has the new numbers.
use Rattle.std.proofs.Common.{◌≡◌, ◌≢◌, ◌==◌, ℕ, zero, suc, ◌+◌, ◌<◌, Bool, true, false, ◌⊎◌, inl, inr, List, [], ◌∷◌, ◌++◌, length, Option, Some, None, refl, ap, sym, ◌∙◌, subst, arith}
use Rattle.std.specs.Prelude.{slice_get}
use Rattle.std.specs.List.{All, Contains}
use Rattle.std.specs.Option.{option_map}
use Rattle.std.proofs.lemmas.Bool.{eqb-true, eqb-false}
use Rattle.std.proofs.lemmas.List.{length-append}
use Rattle.std.proofs.lemmas.List.Elements.{All-contains, All-weaker}
use Rattle.std.proofs.lemmas.Option.{slice_get_within}
use Rattle.closure_model.specs.Derivations.{node_at, premises_of, item_of, PremisesStandEarlier, RestsOn}
use Rattle.closure_model.specs.declared.derivation.Item.{Item}
use Rattle.closure_model.specs.declared.derivation.Node.{Node}
use Rattle.closure_model.specs.declared.derivation.NodeId.{NodeId}
use Rattle.closure_model.specs.declared.derivation.Rule.{Rule}
use Rattle.closure_model.proofs.DerivedNodes.{rests_cases, rests_by, rests_itself}
use Rattle.closure_model.proofs.Nodes.{before_push, at_push}
use Rattle.edit_laws.specs.KeptLists.{Renumbering, RestsOnTaken, IsTakenAway, Following, none_followed, placed, follow_node, place_at, moved_rule, moved_node, moved_edge, followed, IsKeptAt, IsKeptOrTaken}
use Rattle.edit_laws.specs.KeptListLaws.{KeptIsWhatRestsOnNothingTaken}
use Rattle.edit_laws.proofs.MovedPremises.{place_before, place_last, placed_within, lacking, premises_have, item_kept, moved_rule_more}
use Rattle.edit_laws.proofs.Prefixes.{over_all}

-- the first nodes have their places or rest on something taken away
pub record KeptSoFar (moves : Renumbering) (nodes : List Node) (n : ℕ) (so_far : Following) : Type 0 where
  pub size : length so_far.places ≡ n
  pub each : (id : NodeId) (node : Node) → id.0 < n → node_at nodes id ≡ Some node → IsKeptOrTaken moves nodes so_far.places so_far.kept id node (place_at so_far.places id)
  pub rising : (one two place other : NodeId) → one.0 < two.0 → place_at so_far.places one ≡ Some place → place_at so_far.places two ≡ Some other → place.0 < other.0
  pub inside : (id place : NodeId) → place_at so_far.places id ≡ Some place → place.0 < length so_far.kept
  pub whole : (place : NodeId) → place.0 < length so_far.kept → (id : NodeId) × (place_at so_far.places id ≡ Some place)

abbrev pub with_rule : Renumbering → Node → Rule → Node
with_rule moves node rule = record { rule = rule; edge = moved_edge moves node.edge }

mapped_node : (moves : Renumbering) (node : Node) (o : Option Rule) → option_map (with_rule moves node) o ≡ None → o ≡ None
mapped_node moves node None is = refl
mapped_node moves node (Some rule) is = absurd cc

-- a node with new numbers has its rule with them, and its edge
pub made_of : (moves : Renumbering) (node made : Node) (o : Option Rule) → option_map (with_rule moves node) o ≡ Some made → (rule : Rule) × (o ≡ Some rule) × (with_rule moves node rule ≡ made)
made_of moves node made None is = absurd cc
made_of moves node made (Some rule) is = (rule, refl, cc)

module _ (moves : Renumbering) (nodes : List Node) (earlier : PremisesStandEarlier nodes) where
  module _ (n : ℕ) (node : Node) (so_far : Following) (here : slice_get nodes n ≡ Some node) (was : KeptSoFar moves nodes n so_far) where
    abbrev this : NodeId
    this = record { 0 = n }

    below : (premise : NodeId) → Contains (premises_of node.rule) premise → premise.0 < n
    below premise among = All-contains (λ (p : NodeId). p.0 < n) (premises_of node.rule) premise (earlier this node here) among

    -- a premise stands in the list
    premise_node : (premise : NodeId) → premise.0 < n → (other : Node) × (node_at nodes premise ≡ Some other)
    premise_node premise before = at nodes premise.0 (let inside : n < length nodes = slice_get_within nodes n node here in omega arith)
      where
        at : (xs : List Node) (k : ℕ) → k < length xs → (other : Node) × (slice_get xs k ≡ Some other)
        at [] k inside = absurd (omega arith)
        at (x ∷ xs) zero inside = (x, refl)
        at (x ∷ xs) (suc k) inside = at xs k (omega arith)

    -- if the rule has no new numbers, the node rests on something taken away
    rests : moved_rule moves so_far.places node.rule ≡ None → RestsOnTaken moves nodes this
    rests none = by (lacking moves so_far.places node.rule none)
      where
        by : ((what : Item) × IsTakenAway moves what × (item_of node.rule ≡ Some what)) ⊎ ((premise : NodeId) × Contains (premises_of node.rule) premise × (place_at so_far.places premise ≡ None)) → RestsOnTaken moves nodes this
        by (inl (what, taken, uses)) = (what, taken, rests_itself nodes this node what here uses)
        by (inr (premise, among, lacks)) =
            let (other, there) = premise_node premise (below premise among) in
            let (what, taken, rests_on) : RestsOnTaken moves nodes premise =
            subst (IsKeptOrTaken moves nodes so_far.places so_far.kept premise other) lacks (was.each premise other (below premise among) there) in
            (what, taken, rests_by nodes this premise node what here among rests_on)

    -- if it has, the node rests on nothing taken away
    free : (rule : Rule) → moved_rule moves so_far.places node.rule ≡ Some rule → ¬ RestsOnTaken moves nodes this
    free rule some (what, taken, rests_on) = by (rests_cases nodes this node what here rests_on)
      where
        by : (item_of node.rule ≡ Some what) ⊎ ((premise : NodeId) × Contains (premises_of node.rule) premise × RestsOn nodes premise what) → ⊥
        by (inl uses) = item_kept moves so_far.places node.rule rule some what uses taken
        by (inr (premise, among, under)) =
            let (place, has) = premises_have moves so_far.places node.rule rule some premise among in
            let (other, there) = premise_node premise (below premise among) in
            let kept : IsKeptAt moves nodes so_far.places so_far.kept premise other place =
            subst (IsKeptOrTaken moves nodes so_far.places so_far.kept premise other) has (was.each premise other (below premise among) there) in
            kept.free (what, taken, under)

    premises_placed : (other : Node) (id : NodeId) → id.0 < suc n → node_at nodes id ≡ Some other → All (λ (premise : NodeId). premise.0 < length so_far.places) (premises_of other.rule)
    premises_placed other id before there =
        All-weaker (λ (p : NodeId). p.0 < id.0) (λ (p : NodeId). p.0 < length so_far.places) (λ p less. let size : length so_far.places ≡ n = was.size in omega arith) (premises_of other.rule) (earlier id other there)

    moved_more : (last : Option NodeId) (other : Node) (id : NodeId) → id.0 < suc n → node_at nodes id ≡ Some other → moved_node moves (so_far.places ++ last ∷ []) other ≡ moved_node moves so_far.places other
    moved_more last other id before there =
        ap (option_map (with_rule moves other)) (moved_rule_more moves so_far.places last other.rule (premises_placed other id before there))

    -- what was kept stays kept
    stays : (last : Option NodeId) (kept : List Node) → ((k : ℕ) (m : Node) → slice_get so_far.kept k ≡ Some m → slice_get kept k ≡ Some m) → (id : NodeId) (other : Node) → id.0 < n → node_at nodes id ≡ Some other
        → IsKeptOrTaken moves nodes (so_far.places ++ last ∷ []) kept id other (place_at (so_far.places ++ last ∷ []) id)
    stays last kept more id other before there =
        subst (IsKeptOrTaken moves nodes (so_far.places ++ last ∷ []) kept id other) (sym (place_before so_far.places last id (let size : length so_far.places ≡ n = was.size in omega arith)))
        (by (place_at so_far.places id) (was.each id other before there))
      where
        by : (o : Option NodeId) → IsKeptOrTaken moves nodes so_far.places so_far.kept id other o → IsKeptOrTaken moves nodes (so_far.places ++ last ∷ []) kept id other o
        by None rests_on = rests_on
        by (Some place) is = record { free = is.free; made = is.made; moved = moved_more last other id (omega arith) there ∙ is.moved; here = more place.0 is.made is.here }

    -- a place after one more is one before, or the last
    placed_cases : (last : Option NodeId) (id place : NodeId) → place_at (so_far.places ++ last ∷ []) id ≡ Some place → (place_at so_far.places id ≡ Some place) ⊎ ((id.0 ≡ n) × (last ≡ Some place))
    placed_cases last id place is = by (id.0 == n) refl
      where
        by : (b : Bool) → (id.0 == n) ≡ b → (place_at so_far.places id ≡ Some place) ⊎ ((id.0 ≡ n) × (last ≡ Some place))
        by true same =
            let end : id.0 ≡ n = eqb-true id.0 n same in
            inr (end, sym (place_last so_far.places last id (end ∙ sym was.size)) ∙ is)
        by false apart =
            let differ : id.0 ≢ n = eqb-false id.0 n apart in
            let size : length (so_far.places ++ last ∷ []) ≡ length so_far.places + 1 = length-append so_far.places (last ∷ []) in
            let among : id.0 < length (so_far.places ++ last ∷ []) = placed_within (so_far.places ++ last ∷ []) id place is in
            let old : length so_far.places ≡ n = was.size in
            inl (sym (place_before so_far.places last id (omega arith)) ∙ is)

    -- one node more that is not kept
    one_dropped : moved_node moves so_far.places node ≡ None → KeptSoFar moves nodes (suc n) (placed so_far None)
    one_dropped none = record {
      size = let size : length so_far.places ≡ n = was.size in omega (arith, length-append so_far.places (None ∷ []));
      each = each;
      rising = rising;
      inside = λ id place is. inside id place (placed_cases None id place is);
      whole = whole;
    }
      where
        each : (id : NodeId) (other : Node) → id.0 < suc n → node_at nodes id ≡ Some other → IsKeptOrTaken moves nodes (so_far.places ++ None ∷ []) so_far.kept id other (place_at (so_far.places ++ None ∷ []) id)
        each id other before there = by (id.0 == n) refl
          where
            by : (b : Bool) → (id.0 == n) ≡ b → IsKeptOrTaken moves nodes (so_far.places ++ None ∷ []) so_far.kept id other (place_at (so_far.places ++ None ∷ []) id)
            by true same =
                let end : id.0 ≡ n = eqb-true id.0 n same in
                let is : this ≡ id = ap (λ (k : ℕ). record { 0 = k }) (sym end) in
                subst (IsKeptOrTaken moves nodes (so_far.places ++ None ∷ []) so_far.kept id other) (sym (place_last so_far.places None id (end ∙ sym was.size)))
                (subst (RestsOnTaken moves nodes) is (rests (mapped_node moves node (moved_rule moves so_far.places node.rule) none)))
            by false apart = stays None so_far.kept (λ k m is. is) id other (let differ : id.0 ≢ n = eqb-false id.0 n apart in omega arith) there

        rising : (one two place other : NodeId) → one.0 < two.0 → place_at (so_far.places ++ None ∷ []) one ≡ Some place → place_at (so_far.places ++ None ∷ []) two ≡ Some other → place.0 < other.0
        rising one two place other less first second = by (placed_cases None one place first) (placed_cases None two other second)
          where
            by : (place_at so_far.places one ≡ Some place) ⊎ ((one.0 ≡ n) × (None ≡ Some place)) → (place_at so_far.places two ≡ Some other) ⊎ ((two.0 ≡ n) × (None ≡ Some other)) → place.0 < other.0
            by (inl a) (inl b) = was.rising one two place other less a b
            by (inl a) (inr (end, is)) = absurd cc
            by (inr (end, is)) b = absurd cc

        inside : (id place : NodeId) → (place_at so_far.places id ≡ Some place) ⊎ ((id.0 ≡ n) × (None ≡ Some place)) → place.0 < length so_far.kept
        inside id place (inl is) = was.inside id place is
        inside id place (inr (end, is)) = absurd cc

        whole : (place : NodeId) → place.0 < length so_far.kept → (id : NodeId) × (place_at (so_far.places ++ None ∷ []) id ≡ Some place)
        whole place within =
            let (id, is) = was.whole place within in
            (id, place_before so_far.places None id (placed_within so_far.places id place is) ∙ is)

    -- one node more that is kept
    one_kept : (made : Node) → moved_node moves so_far.places node ≡ Some made → KeptSoFar moves nodes (suc n) (placed so_far (Some made))
    one_kept made some = record {
      size = let size : length so_far.places ≡ n = was.size in omega (arith, length-append so_far.places (Some new ∷ []));
      each = each;
      rising = rising;
      inside = λ id place is. inside id place (placed_cases (Some new) id place is);
      whole = whole;
    }
      where
        new : NodeId
        new = record { 0 = length so_far.kept }

        more : List Node
        more = so_far.kept ++ made ∷ []

        longer : length more ≡ length so_far.kept + 1
        longer = length-append so_far.kept (made ∷ [])

        each : (id : NodeId) (other : Node) → id.0 < suc n → node_at nodes id ≡ Some other → IsKeptOrTaken moves nodes (so_far.places ++ Some new ∷ []) more id other (place_at (so_far.places ++ Some new ∷ []) id)
        each id other before there = by (id.0 == n) refl
          where
            by : (b : Bool) → (id.0 == n) ≡ b → IsKeptOrTaken moves nodes (so_far.places ++ Some new ∷ []) more id other (place_at (so_far.places ++ Some new ∷ []) id)
            by true same =
                let end : id.0 ≡ n = eqb-true id.0 n same in
                let is : this ≡ id = ap (λ (k : ℕ). record { 0 = k }) (sym end) in
                let both : Some node ≡ Some other = sym here ∙ (ap (node_at nodes) is ∙ there) in
                let one : node ≡ other = cc in
                let (rule, rule_is, made_is) = made_of moves node made (moved_rule moves so_far.places node.rule) some in
                subst (IsKeptOrTaken moves nodes (so_far.places ++ Some new ∷ []) more id other) (sym (place_last so_far.places (Some new) id (end ∙ sym was.size)))
                (record {
                  free = subst (λ (i : NodeId). ¬ RestsOnTaken moves nodes i) is (free rule rule_is);
                  made = made;
                  moved = moved_more (Some new) other id before there ∙ (ap (moved_node moves so_far.places) (sym one) ∙ some);
                  here = at_push so_far.kept made;
                })
            by false apart = stays (Some new) more (λ k m is. before_push so_far.kept made k m is) id other (let differ : id.0 ≢ n = eqb-false id.0 n apart in omega arith) there

        rising : (one two place other : NodeId) → one.0 < two.0 → place_at (so_far.places ++ Some new ∷ []) one ≡ Some place → place_at (so_far.places ++ Some new ∷ []) two ≡ Some other → place.0 < other.0
        rising one two place other less first second = by (placed_cases (Some new) one place first) (placed_cases (Some new) two other second)
          where
            by : (place_at so_far.places one ≡ Some place) ⊎ ((one.0 ≡ n) × (Some new ≡ Some place)) → (place_at so_far.places two ≡ Some other) ⊎ ((two.0 ≡ n) × (Some new ≡ Some other)) → place.0 < other.0
            by (inl a) (inl b) = was.rising one two place other less a b
            by (inl a) (inr (end, is)) =
                let least : place.0 < length so_far.kept = was.inside one place a in
                let same : new ≡ other = cc in
                let number : length so_far.kept ≡ other.0 = ap (λ (i : NodeId). i.0) same in omega arith
            by (inr (end, is)) (inl b) =
                let within : two.0 < length so_far.places = placed_within so_far.places two other b in
                let size : length so_far.places ≡ n = was.size in absurd (omega arith)
            by (inr (end, is)) (inr (last, is')) = absurd (omega arith)

        inside : (id place : NodeId) → (place_at so_far.places id ≡ Some place) ⊎ ((id.0 ≡ n) × (Some new ≡ Some place)) → place.0 < length more
        inside id place (inl is) = let less : place.0 < length so_far.kept = was.inside id place is in let l = longer in omega arith
        inside id place (inr (end, is)) =
            let same : new ≡ place = cc in
            let number : length so_far.kept ≡ place.0 = ap (λ (i : NodeId). i.0) same in let l = longer in omega arith

        whole : (place : NodeId) → place.0 < length more → (id : NodeId) × (place_at (so_far.places ++ Some new ∷ []) id ≡ Some place)
        whole place within = by (place.0 == length so_far.kept) refl
          where
            by : (b : Bool) → (place.0 == length so_far.kept) ≡ b → (id : NodeId) × (place_at (so_far.places ++ Some new ∷ []) id ≡ Some place)
            by true same =
                let is : new ≡ place = ap (λ (k : ℕ). record { 0 = k }) (sym (eqb-true place.0 (length so_far.kept) same)) in
                (this, place_last so_far.places (Some new) this (sym was.size) ∙ ap Some is)
            by false apart =
                let differ : place.0 ≢ length so_far.kept = eqb-false place.0 (length so_far.kept) apart in
                let (id, is) = was.whole place (let l = longer in omega arith) in
                (id, place_before so_far.places (Some new) id (placed_within so_far.places id place is) ∙ is)

    pub one_followed : KeptSoFar moves nodes (suc n) (follow_node moves so_far node)
    one_followed = by (moved_node moves so_far.places node) refl
      where
        by : (o : Option Node) → moved_node moves so_far.places node ≡ o → KeptSoFar moves nodes (suc n) (placed so_far o)
        by None is = one_dropped is
        by (Some made) is = one_kept made is

  pub none_kept : KeptSoFar moves nodes 0 none_followed
  none_kept = record {
    size = refl;
    each = λ id node before here. absurd (omega arith);
    rising = λ one two place other less first second. absurd (nothing one place first);
    inside = λ id place is. absurd (nothing id place is);
    whole = λ place within. absurd (omega arith);
  }
    where
      nothing : (id place : NodeId) → place_at [] id ≡ Some place → ⊥
      nothing id place is = let within : id.0 < 0 = placed_within [] id place is in omega arith

pub kept_is_what_rests_on_nothing_taken : KeptIsWhatRestsOnNothingTaken
kept_is_what_rests_on_nothing_taken moves nodes earlier =
    let all : KeptSoFar moves nodes (length nodes) (followed moves nodes) =
    over_all (follow_node moves) none_followed nodes (KeptSoFar moves nodes) (none_kept moves nodes earlier) (λ n node so_far here was. one_followed moves nodes earlier n node so_far here was) in
    record {
      size = all.size;
      each = λ id node here. all.each id node (slice_get_within nodes id.0 node here) here;
      rising = all.rising;
      whole = all.whole;
    }
