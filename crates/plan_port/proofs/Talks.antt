-- Talks and what is left, over several calls.
use Rattle.std.proofs.Common.{◌≡◌, ℕ, List, [], ◌∷◌, ◌++◌, length, map, Option, Some, None, refl, sym, ap, ◌∙◌}
use Rattle.std.specs.Option.{option_map}
use Rattle.std.specs.List.{concat}
use Rattle.std.proofs.lemmas.List.{append-nil, append_assoc, map-append}
use Rattle.plan_port.specs.Talk.{Talk, Piece, with_pieces, with_put, WhereShown, LosesPrefix}

pub with_put-nil : (t : Talk) → t ≡ with_put t []
with_put-nil t = ap (λ (p : List ℕ). record t { put = p }) (sym (append-nil t.put))

pub with_put-with_put : (t : Talk) (xs ys : List ℕ) → with_put (with_put t xs) ys ≡ with_put t (xs ++ ys)
with_put-with_put t xs ys = ap (λ (p : List ℕ). record t { put = p }) (append_assoc t.put xs ys)

pub with_pieces-nil : (t : Talk) → t ≡ with_pieces t []
with_pieces-nil t = ap (λ (p : List Piece). record t { taken = p }) (sym (append-nil t.taken))

pub with_pieces-with_pieces : (t : Talk) (ps qs : List (List ℕ)) → with_pieces (with_pieces t ps) qs ≡ with_pieces t (ps ++ qs)
with_pieces-with_pieces t ps qs =
    let f : List ℕ → Piece = λ bytes. record { bytes = bytes; put_before = length t.put } in
    ap (λ (p : List Piece). record t { taken = p }) (append_assoc t.taken (map f ps) (map f qs) ∙ ap (λ l. t.taken ++ l) (sym (map-append f ps qs)))

-- what is shown and stays
pub WhereShown-same : {A : Type 0} (a : Option A) (P : A → A → Type 0) → ((x : A) → P x x) → WhereShown a a P
WhereShown-same None P same = tt
WhereShown-same (Some x) P same = same x

-- one call after another
pub WhereShown-twice : {A : Type 0} (a b c : Option A) (P Q R : A → A → Type 0) → ((x y z : A) → P x y → Q y z → R x z) → WhereShown a b P → WhereShown b c Q → WhereShown a c R
WhereShown-twice a b None P Q R twice p q = tt
WhereShown-twice a None (Some z) P Q R twice p q = absurd q
WhereShown-twice None (Some y) (Some z) P Q R twice p q = absurd p
WhereShown-twice (Some x) (Some y) (Some z) P Q R twice p q = twice x y z p q

-- a consequence
pub WhereShown-so : {A : Type 0} (a b : Option A) (P Q : A → A → Type 0) → ((x y : A) → P x y → Q x y) → WhereShown a b P → WhereShown a b Q
WhereShown-so a None P Q so p = tt
WhereShown-so None (Some y) P Q so p = absurd p
WhereShown-so (Some x) (Some y) P Q so p = so x y p

-- a talk that changed by one function, and then by another
pub changed_twice : (a b c : Option Talk) (f g h : Talk → Talk) → ((t : Talk) → g (f t) ≡ h t) → WhereShown a b (λ before after. after ≡ f before) → WhereShown b c (λ before after. after ≡ g before)
    → WhereShown a c (λ before after. after ≡ h before)
changed_twice a b c f g h is p q =
    WhereShown-twice a b c (λ x y. y ≡ f x) (λ y z. z ≡ g y) (λ x z. z ≡ h x) (λ x y z e e'. e' ∙ (ap g e ∙ is x)) p q

pub LosesPrefix-nil : (a : Option (List ℕ)) → LosesPrefix a a []
LosesPrefix-nil None = refl
LosesPrefix-nil (Some x) = refl

pub LosesPrefix-twice : (a b c : Option (List ℕ)) (xs ys : List ℕ) → LosesPrefix a b xs → LosesPrefix b c ys → LosesPrefix a c (xs ++ ys)
LosesPrefix-twice a b None xs ys p q = p ∙ ap (λ o. option_map (λ rest. xs ++ rest) o) q
LosesPrefix-twice a b (Some z) xs ys p q = p ∙ ap (λ o. option_map (λ rest. xs ++ rest) o) q ∙ ap (λ l. Some l) (sym (append_assoc xs ys z))

pub concat-append : (ps qs : List (List ℕ)) → concat (ps ++ qs) ≡ concat ps ++ concat qs
concat-append [] qs = refl
concat-append (p ∷ ps) qs = ap (λ l. p ++ l) (concat-append ps qs) ∙ sym (append_assoc p (concat ps) (concat qs))
