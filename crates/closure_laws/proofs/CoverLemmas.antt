-- Every derivable edge is covered by a forward closed list.
use Rattle.std.proofs.Common.{◌≡◌, ℤ, pos, ◌+ℤ◌, ◌-ℤ◌, ◌≤ℤ◌, ◌<ℤ◌, ◌⊎◌, inl, inr, Bool, true, false, List, Option, Some, None, refl, ap, sym, subst, ◌∙◌, arith}
use Rattle.std.specs.Prelude.{int_lt}
use Rattle.std.specs.Int.{int_max}
use Rattle.std.specs.List.{Contains}
use Rattle.std.proofs.lemmas.Int.{ints, int_max_is}
use Rattle.net_model.specs.Network.{Plan, IsPlan}
use Rattle.net_model.specs.Edges.{IsLinkOf}
use Rattle.net_model.specs.Rules.{moved_to_activation}
use Rattle.net_model.specs.declared.ids.LinkId.{LinkId}
use Rattle.net_model.specs.declared.part.Edge.{Edge}
use Rattle.net_model.specs.declared.part.Link.{Link}
use Rattle.net_model.proofs.RuleLemmas.{no_case_gives, upper_case_gives, lower_case_gives, cross_case_gives, removal_gives}
use Rattle.closure_model.specs.Derivable.{IsDerivable, by_bound, by_link, by_no_case, by_upper_case, by_lower_case, by_cross_case, by_removal}
use Rattle.closure_model.proofs.Weights.{le_then, le_refl}
use Rattle.closure_model.proofs.RuleSteps.{joined_not_less}
use Rattle.closure_model.proofs.RuleMonotonicity.{below_zero}
use Rattle.strategy_model.specs.Dispatch.{Stands, IsForwardClosedList}
use Rattle.strategy_model.proofs.PlayLemmas.{link_sound}
use Rattle.strategy_model.proofs.ClosedLemmas.{stands_bound, stands_link, stands_no_case, stands_upper_case, stands_lower_case, stands_cross_case, stands_removal}
use Rattle.closure_laws.specs.Forward.{IsCovered, stands, goes_by}
use Rattle.closure_laws.specs.ForwardLaws.{DerivableAreCovered}

-- ---- weights
sum_le : (a b c d : ℤ) → a ≤ℤ b → c ≤ℤ d → (a +ℤ c) ≤ℤ (b +ℤ d)
sum_le a b c d one two = grind (arith, ints)

over_from_zero : (v u : ℤ) → pos 0 ≤ℤ v → u ≤ℤ (v +ℤ u)
over_from_zero v u from = grind (arith, ints)

max_most : (a v : ℤ) → a ≤ℤ v → a ≤ℤ int_max v (pos 0)
max_most a v below = grind (arith, ints, int_max_is)

max_rises : (a v c : ℤ) → a ≤ℤ v → int_max a c ≤ℤ int_max v c
max_rises a v c below = grind (arith, ints, int_max_is)

sign_of : (w : ℤ) → (w <ℤ pos 0) ⊎ (pos 0 ≤ℤ w)
sign_of w = by (int_lt w (pos 0)) refl
  where
    by : (b : Bool) → int_lt w (pos 0) ≡ b → (w <ℤ pos 0) ⊎ (pos 0 ≤ℤ w)
    by true is = inl (grind (arith, ints))
    by false is = inr (grind (arith, ints))

module _ (net : Plan) (edges : List Edge) (plan : IsPlan net) (closed : IsForwardClosedList net edges) where
  stands_as : (one other : Edge) → Stands edges one → one.from ≡ other.from → one.to ≡ other.to → one.label ≡ other.label → one.weight ≤ℤ other.weight → Stands edges other
  stands_as one other there from to label below = record {
    entry = there.entry;
    among = there.among;
    from = there.from ∙ from;
    to = there.to ∙ to;
    label = there.label ∙ label;
    at_most = le_then there.entry.weight one.weight other.weight there.at_most below;
  }

  covered_as : (one other : Edge) → IsCovered edges one → one.from ≡ other.from → one.to ≡ other.to → one.label ≡ other.label → one.weight ≤ℤ other.weight → IsCovered edges other
  covered_as one other (stands _ there) from to label below = stands other (stands_as one other there from to label below)
  covered_as one other (goes_by first next _ among ordinary negative begins meets ends labels least rest) from to label below =
      goes_by first next other among ordinary negative (begins ∙ from) meets (ends ∙ to) (labels ∙ label) (le_then next.weight one.weight other.weight least below) rest

  -- an edge of the list that is not negative, and one after it
  stands_joined : (first second : Edge) → Contains edges first → Contains edges second → first.label ≡ None → first.to ≡ second.from → second.weight <ℤ pos 0 → pos 0 ≤ℤ first.weight
      → Stands edges (record { from = first.from; to = second.to; label = second.label; weight = first.weight +ℤ second.weight })
  stands_joined first second one two ordinary meets negative from_zero = by second.label refl
    where
      by : (label : Option LinkId) → second.label ≡ label → Stands edges (record { from = first.from; to = second.to; label = second.label; weight = first.weight +ℤ second.weight })
      by None none =
          stands_as (record { from = first.from; to = second.to; label = None; weight = first.weight +ℤ second.weight }) (record { from = first.from; to = second.to; label = second.label; weight = first.weight +ℤ second.weight })
          (stands_no_case net edges closed first second one two ordinary none meets negative from_zero) refl refl (sym none) (le_refl (first.weight +ℤ second.weight))
      by (Some label) some = stands_upper_case net edges closed first second label one two ordinary some meets negative from_zero

  -- an edge of the list that is not negative, and a covered one after it
  joined : (first : Edge) → Contains edges first → first.label ≡ None → pos 0 ≤ℤ first.weight → (next : Edge) → IsCovered edges next → first.to ≡ next.from → next.weight <ℤ pos 0
      → IsCovered edges (record { from = first.from; to = next.to; label = next.label; weight = first.weight +ℤ next.weight })
  joined first one ordinary from_zero next (stands _ there) meets negative =
      stands (record { from = first.from; to = next.to; label = next.label; weight = first.weight +ℤ next.weight })
      (stands_as (record { from = first.from; to = there.entry.to; label = there.entry.label; weight = first.weight +ℤ there.entry.weight }) (record { from = first.from; to = next.to; label = next.label; weight = first.weight +ℤ next.weight })
      (stands_joined first there.entry one there.among ordinary (meets ∙ sym there.from) (below_zero there.entry.weight next.weight there.at_most negative) from_zero) refl there.to there.label
      (sum_le first.weight first.weight there.entry.weight next.weight (le_refl first.weight) there.at_most))
  joined first one ordinary from_zero next (goes_by middle last _ among plain below begins on ends labels least rest) meets negative =
      by (sign_of there.entry.weight) (λ rises. joined there.entry there.among there.label rises last rest (there.to ∙ on) last_negative)
    where
      there : Stands edges (record { from = first.from; to = middle.to; label = None; weight = first.weight +ℤ middle.weight })
      there = stands_no_case net edges closed first middle one among ordinary plain (meets ∙ sym begins) below from_zero

      whole : Edge
      whole = record { from = first.from; to = next.to; label = next.label; weight = first.weight +ℤ next.weight }

      last_negative : last.weight <ℤ pos 0
      last_negative = below_zero last.weight next.weight least negative

      sum_below : (e f m l n : ℤ) → e ≤ℤ (f +ℤ m) → m <ℤ pos 0 → l ≤ℤ n → (e +ℤ l) ≤ℤ (f +ℤ n)
      sum_below e f m l n sum negative below = grind (arith, ints)

      after : Edge
      after = record { from = there.entry.from; to = last.to; label = last.label; weight = there.entry.weight +ℤ last.weight }

      by : (there.entry.weight <ℤ pos 0) ⊎ (pos 0 ≤ℤ there.entry.weight) → (pos 0 ≤ℤ there.entry.weight → IsCovered edges after) → IsCovered edges whole
      by (inl falls) still =
          goes_by there.entry last whole there.among there.label falls there.from (there.to ∙ on) ends labels
          (le_then last.weight next.weight (first.weight +ℤ next.weight) least (over_from_zero first.weight next.weight from_zero)) rest
      by (inr rises) still =
          covered_as after whole (still rises) there.from ends labels
          (sum_below there.entry.weight first.weight middle.weight last.weight next.weight there.at_most below least)

  -- a covered ordinary edge, and a covered one after it
  joins : (first : Edge) → IsCovered edges first → first.label ≡ None → (second : Edge) → IsCovered edges second → first.to ≡ second.from → second.weight <ℤ pos 0
      → IsCovered edges (record { from = first.from; to = second.to; label = second.label; weight = int_max first.weight (pos 0) +ℤ second.weight })
  joins first (stands _ there) ordinary second two meets negative = by (sign_of there.entry.weight)
    where
      whole : Edge
      whole = record { from = first.from; to = second.to; label = second.label; weight = int_max first.weight (pos 0) +ℤ second.weight }

      by : (there.entry.weight <ℤ pos 0) ⊎ (pos 0 ≤ℤ there.entry.weight) → IsCovered edges whole
      by (inl falls) = goes_by there.entry second whole there.among (there.label ∙ ordinary) falls there.from (there.to ∙ meets) refl refl (joined_not_less first.weight second.weight) two
      by (inr rises) =
          covered_as (record { from = there.entry.from; to = second.to; label = second.label; weight = there.entry.weight +ℤ second.weight }) whole
          (joined there.entry there.among (there.label ∙ ordinary) rises second two (there.to ∙ meets) negative) there.from refl refl
          (sum_le there.entry.weight (int_max first.weight (pos 0)) second.weight second.weight (max_most there.entry.weight first.weight there.at_most) (le_refl second.weight))
  joins first (goes_by middle last _ among plain below begins on ends labels least rest) ordinary second two meets negative =
      goes_by middle (record { from = last.from; to = second.to; label = second.label; weight = int_max last.weight (pos 0) +ℤ second.weight })
      (record { from = first.from; to = second.to; label = second.label; weight = int_max first.weight (pos 0) +ℤ second.weight }) among plain below begins on refl refl
      (sum_le (int_max last.weight (pos 0)) (int_max first.weight (pos 0)) second.weight second.weight (max_rises last.weight first.weight (pos 0) least) (le_refl second.weight))
      (joins last rest (labels ∙ ordinary) second two (ends ∙ meets) negative)

  -- a covered negative edge, over a link
  over_link : (name : LinkId) (link : Link) → IsLinkOf net name link → (second : Edge) → second.from ≡ link.to → second.weight <ℤ pos 0
      → ((entry : Edge) → Contains edges entry → entry.label ≡ second.label → entry.from ≡ link.to → entry.weight <ℤ pos 0 → Stands edges (moved_to_activation link entry))
      → IsCovered edges second → IsCovered edges (moved_to_activation link second)
  over_link name link declared second begins negative straight (stands _ there) =
      stands (moved_to_activation link second)
      (stands_as (moved_to_activation link there.entry) (moved_to_activation link second)
      (straight there.entry there.among there.label (there.from ∙ begins) (below_zero there.entry.weight second.weight there.at_most negative)) refl there.to there.label
      (sum_le link.low link.low there.entry.weight second.weight (le_refl link.low) there.at_most))
  over_link name link declared second begins negative straight (goes_by middle last _ among plain below from on ends labels least rest) = by (sign_of there.entry.weight)
    where
      there : Stands edges (moved_to_activation link middle)
      there = stands_lower_case net edges closed name link middle declared among plain (from ∙ begins) below

      sum_under : (e x m l n : ℤ) → e ≤ℤ (x +ℤ m) → m <ℤ pos 0 → l ≤ℤ n → (e +ℤ l) ≤ℤ (x +ℤ n)
      sum_under e x m l n sum negative below = grind (arith, ints)

      low : pos 0 ≤ℤ link.low
      low = (let positive = (link_sound net plan name.0 link declared).positive in grind (arith, ints))

      by : (there.entry.weight <ℤ pos 0) ⊎ (pos 0 ≤ℤ there.entry.weight) → IsCovered edges (moved_to_activation link second)
      by (inl falls) =
          goes_by there.entry last (moved_to_activation link second) there.among (there.label ∙ plain) falls there.from (there.to ∙ on) ends labels
          (le_then last.weight second.weight (link.low +ℤ second.weight) least (over_from_zero link.low second.weight low)) rest
      by (inr rises) =
          covered_as (record { from = there.entry.from; to = last.to; label = last.label; weight = there.entry.weight +ℤ last.weight }) (moved_to_activation link second)
          (joined there.entry there.among (there.label ∙ plain) rises last rest (there.to ∙ on) (below_zero last.weight second.weight least negative)) there.from ends labels
          (sum_under there.entry.weight link.low middle.weight last.weight second.weight there.at_most below least)

  -- a covered edge without its label
  freed : (name : LinkId) (link : Link) → IsLinkOf net name link → (premise : Edge) → premise.label ≡ Some name → IsCovered edges premise → IsCovered edges (record premise { label = None; weight = int_max premise.weight (pos 0 -ℤ link.low) })
  freed name link declared premise labelled (stands _ there) =
      stands (record premise { label = None; weight = int_max premise.weight (pos 0 -ℤ link.low) })
      (stands_as (record there.entry { label = None; weight = int_max there.entry.weight (pos 0 -ℤ link.low) }) (record premise { label = None; weight = int_max premise.weight (pos 0 -ℤ link.low) })
      (stands_removal net edges closed name link there.entry declared there.among (there.label ∙ labelled)) there.from there.to refl (max_rises there.entry.weight premise.weight (pos 0 -ℤ link.low) there.at_most))
  freed name link declared premise labelled (goes_by middle last _ among plain below from on ends labels least rest) =
      goes_by middle (record last { label = None; weight = int_max last.weight (pos 0 -ℤ link.low) }) (record premise { label = None; weight = int_max premise.weight (pos 0 -ℤ link.low) }) among plain below from on ends refl
      (max_rises last.weight premise.weight (pos 0 -ℤ link.low) least) (freed name link declared last (labels ∙ labelled) rest)

  covered : (edge : Edge) → IsDerivable net edge → IsCovered edges edge
  covered edge (by_bound place bound e declared is) = subst (IsCovered edges) is (stands _ (stands_bound net edges closed place bound declared))
  covered edge (by_link name link e declared is) = subst (IsCovered edges) is (stands _ (stands_link net edges closed name link declared))
  covered edge (by_no_case first second e one two gave) =
      let g = no_case_gives first second edge gave in
      subst (IsCovered edges) (ap (λ (label : Option LinkId). record { from = first.from; to = second.to; label = label; weight = int_max first.weight (pos 0) +ℤ second.weight }) g.second_ordinary ∙ g.is)
      (joins first (covered first one) g.first_ordinary second (covered second two) g.meeting g.negative)
  covered edge (by_upper_case first second e one two gave) =
      let g = upper_case_gives first second edge gave in
      subst (IsCovered edges) g.is (joins first (covered first one) g.first_ordinary second (covered second two) g.meeting g.negative)
  covered edge (by_lower_case name second e one gave) =
      let g = lower_case_gives net name second edge gave in
      subst (IsCovered edges) g.is (over_link name g.link g.declared second g.begins g.negative
      (λ entry among same begins negative. stands_lower_case net edges closed name g.link entry g.declared among (same ∙ g.second_ordinary) begins negative) (covered second one))
  covered edge (by_cross_case name second e one gave) =
      let g = cross_case_gives net name second edge gave in
      subst (IsCovered edges) g.is (over_link name g.link g.declared second g.begins g.negative
      (λ entry among same begins negative. stands_cross_case net edges closed name g.label g.link entry g.declared among (same ∙ g.second_labelled) g.another begins negative) (covered second one))
  covered edge (by_removal premise e one gave) =
      let g = removal_gives net premise edge gave in
      subst (IsCovered edges) g.is (freed g.name g.link g.declared premise g.labelled (covered premise one))

pub law_derivable_are_covered : DerivableAreCovered
law_derivable_are_covered net edges edge plan closed derived = covered net edges plan closed edge derived
