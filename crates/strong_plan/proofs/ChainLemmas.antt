-- Chains of links: a point has one, and two of them meet.
use Rattle.std.proofs.Common.{◌≡◌, ◌≢◌, ◌⊎◌, ℕ, zero, suc, ◌+◌, ◌<◌, ◌≤◌, true, false, List, [], ◌∷◌, length, slice_get, refl, ap, sym, subst, ◌∙◌, inl, inr, arith}
use Rattle.std.specs.List.{list_any}
use Rattle.std.proofs.lemmas.Bool.{cases_eq, cases_lt, cases_Bool, or_cases, eqb-true, false≢true}
use Rattle.std.proofs.lemmas.Option.{same_Some}
use Rattle.net_model.specs.Network.{Plan, IsPlan}
use Rattle.net_model.specs.Edges.{IsLinkOf}
use Rattle.net_model.specs.declared.ids.PointId.{PointId}
use Rattle.net_model.specs.declared.ids.LinkId.{LinkId}
use Rattle.net_model.specs.declared.part.Link.{Link}
use Rattle.strategy_model.proofs.MomentLemmas.{same_from_number}
use Rattle.strategy_model.proofs.PlayLemmas.{one_link}
use Rattle.strategy_model.proofs.KindLemmas.{not_ending}
use Rattle.strong_plan.specs.Chains.{IsChain, ends, goes_on, same_end}

-- no two links end in one point
pub same_link : (net : Plan) → IsPlan net → (n m : LinkId) (l k : Link) (point : PointId) → IsLinkOf net n l → IsLinkOf net m k → l.to ≡ point → k.to ≡ point → l ≡ k
same_link net plan n m l k point first second ends_l ends_k =
    let place : n.0 ≡ m.0 = one_link net plan n.0 m.0 l k first second (ap (λ (p : PointId). p.0) (ends_l ∙ sym ends_k)) in
    same_Some l k (sym first ∙ ap (λ (i : ℕ). slice_get net.links i) place ∙ second)

-- a point has one chain
pub one_chain : (net : Plan) → IsPlan net → (point : PointId) (c d : List Link) (r s : PointId) → IsChain net point c r → IsChain net point d s → (c ≡ d) × (r ≡ s)
one_chain net plan _ _ _ _ _ (ends point executable) (ends _ _) = (refl, refl)
one_chain net plan _ _ _ _ _ (ends point executable) (goes_on name link chain _ root declared to rest) =
    absurd (not_ending net point executable (record { name = name; link = link; declared = declared; ends = to }))
one_chain net plan _ _ _ _ _ (goes_on name link chain point root declared to rest) (ends _ executable) =
    absurd (not_ending net point executable (record { name = name; link = link; declared = declared; ends = to }))
one_chain net plan _ _ _ _ _ (goes_on n l c point r declared to rest) (goes_on m k d _ s declared' to' rest') =
    let same : l ≡ k = same_link net plan n m l k point declared declared' to to' in
    let tail = one_chain net plan l.from c d r s rest (subst (λ (x : Link). IsChain net x.from d s) (sym same) rest') in
    ((λ i. same i ∷ tail.0 i), tail.1)

-- what a link of a chain says: the rest of the chain from it on is the chain of its contingent point
pub record Within (net : Plan) (point : PointId) (chain : List Link) (link : Link) : Type 0 where
  pub rest : List Link
  pub root : PointId
  pub is : IsChain net link.to rest root
  pub short : length rest ≤ length chain
  pub later : (link.to ≡ point) ⊎ (length rest < length chain)

pub within : (net : Plan) (point : PointId) (chain : List Link) (root : PointId) (link : Link) → IsChain net point chain root → list_any (same_end link) chain ≡ true → Within net point chain link
within net _ _ _ link (ends point executable) among = absurd (false≢true among)
within net _ _ _ link (goes_on name first chain point root declared to rest) among =
    elim (or_cases (same_end link first) (list_any (same_end link) chain) among) [
      | inl here ↦
          let same : link.to ≡ point = same_from_number link.to first.to (eqb-true link.to.0 first.to.0 here) ∙ to in
          record { rest = first ∷ chain; root = root; is = subst (λ (p : PointId). IsChain net p (first ∷ chain) root) (sym same) (goes_on name first chain point root declared to rest); short = omega arith; later = inl same }
      | inr there ↦
          let inner = within net first.from chain root link rest there in
          let short = inner.short in
          record { rest = inner.rest; root = inner.root; is = inner.is; short = omega arith; later = inr (omega arith) }
    ]

-- the link of a point isn't in a chain of another point that is no longer
pub not_within : (net : Plan) → IsPlan net → (x y : PointId) (link : Link) (c d : List Link) (r s : PointId) → link.to ≡ x → IsChain net x (link ∷ c) r → IsChain net y d s → length d ≤ length (link ∷ c) → x.0 ≢ y.0
    → list_any (same_end link) d ≡ false
not_within net plan x y link c d r s to one other short different =
    elim (cases_Bool (list_any (same_end link) d)) [
      | inr none ↦ none
      | inl among ↦
          let inner = within net y d s link other among in
          let same = one_chain net plan x inner.rest (link ∷ c) inner.root r (subst (λ (p : PointId). IsChain net p inner.rest inner.root) to inner.is) one in
          let long : length inner.rest ≡ length (link ∷ c) = ap length same.0 in
          elim inner.later [
            | inl here ↦ absurd (different (ap (λ (p : PointId). p.0) (sym to ∙ here)))
            | inr less ↦ absurd (omega (arith, long, less, short))
          ]
    ]

-- two chains meet: each has links that the other hasn't, and then they are the same
pub data AreMet : List Link → List Link → Type 0 where
  same : (chain : List Link) → AreMet chain chain
  from : (link : Link) (one other : List Link) → list_any (same_end link) other ≡ false → AreMet one other → AreMet (link ∷ one) other
  to : (link : Link) (one other : List Link) → list_any (same_end link) one ≡ false → AreMet one other → AreMet one (link ∷ other)

met_left : (d : List Link) → AreMet [] d
met_left [] = same []
met_left (link ∷ d) = to link [] d refl (met_left d)

met_right : (c : List Link) → AreMet c []
met_right [] = same []
met_right (link ∷ c) = from link c [] refl (met_right c)

meet : (n : ℕ) (net : Plan) → IsPlan net → (x y : PointId) (c d : List Link) (r s : PointId) → length c + length d ≤ n → IsChain net x c r → IsChain net y d s → AreMet c d
meet n net plan _ y _ d _ s few (ends x executable) other = met_left d
meet n net plan x _ c _ r _ few one (ends y executable) = met_right c
meet zero net plan _ _ _ _ _ _ few (goes_on _ l c x r _ _ _) (goes_on _ k d y s _ _ _) = absurd (omega (arith, few))
meet (suc n) net plan _ _ _ _ _ _ few (goes_on name l c x r declared l_to rest) (goes_on name' k d y s declared' k_to rest') =
    let one = goes_on name l c x r declared l_to rest in
    let other = goes_on name' k d y s declared' k_to rest' in
    elim (cases_eq x.0 y.0) [
      | inl equal ↦
          let here : x ≡ y = same_from_number x y equal in
          let whole = one_chain net plan x (l ∷ c) (k ∷ d) r s one (subst (λ (p : PointId). IsChain net p (k ∷ d) s) (sym here) other) in
          subst (AreMet (l ∷ c)) whole.0 (same (l ∷ c))
      | inr different ↦ elim (cases_lt (length (l ∷ c)) (length (k ∷ d))) [
        | inl less ↦
            to k (l ∷ c) d (not_within net plan y x k d (l ∷ c) s r k_to other one (omega (arith, less)) (λ (e : y.0 ≡ x.0). different (sym e)))
            (meet n net plan x k.from (l ∷ c) d r s (omega (arith, few)) one rest')
        | inr most ↦
            from l c (k ∷ d) (not_within net plan x y l c (k ∷ d) r s l_to one other most different)
            (meet n net plan l.from y c (k ∷ d) r s (omega (arith, few)) rest other)
      ]
    ]

pub chains_meet : (net : Plan) → IsPlan net → (x y : PointId) (c d : List Link) (r s : PointId) → IsChain net x c r → IsChain net y d s → AreMet c d
chains_meet net plan x y c d r s one other = meet (length c + length d) net plan x y c d r s (omega arith) one other
