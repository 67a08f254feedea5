-- What is declared after one more point, bound or link is stored as it should be.
use Rattle.std.proofs.Common.{◌≡◌, ℕ, zero, suc, ◌<◌, ◌==◌, Bool, true, false, List, [], ◌∷◌, ◌++◌, length, map, get_or, set, ◌≢◌, get_or-set_same, get_or-set_other, Option, Some, None, position, IsTrue, refl, ap, sym, subst, ⊎_elim, ◌∙◌}
use Rattle.std.proofs.Common.{arith}
use Rattle.std.specs.Option.{option_map}
use Rattle.std.specs.Str.{bytes_eq}
use Rattle.std.proofs.lemmas.Grind.{common_steps}
use Rattle.std.proofs.lemmas.Bool.Decides.{nat_tests}
use Rattle.std.proofs.lemmas.Bool.{cases_lt}
use Rattle.std.proofs.lemmas.List.{get_or_past}
use Rattle.indexmap.specs.IndexSet.{insert_key}
use Rattle.net_model.proofs.Positions.{None_from_option_map, list_any_from_None, position-push_fails, position-push_passes}
use Rattle.net_model.proofs.NetworkLemmas.{names_of, more_points, more_bounds, more_links, IsPlan-more_points, IsPlan-more_bounds, IsPlan-more_links, activation-past, names_of-push, free_name}
use Rattle.net_model.specs.Names.{is_name}
use Rattle.net_model.specs.NameIndex.{IsNameIndex}
use Rattle.net_model.specs.Network.{Plan, IsPlan, IsBound, IsLink, point_named, bound_named, activation}
use Rattle.net_model.specs.Limits.{most_points, most_links, most_bounds}
use Rattle.net_model.specs.Declarations.{plan_declared, IsDeclared}
use Rattle.net_model.specs.StoredNetwork.{plan_of, IsStored}
use Rattle.net_model.specs.declared.ids.LinkId.{LinkId}
use Rattle.net_model.specs.declared.part.Bound.{Bound}
use Rattle.net_model.specs.declared.part.Link.{Link}
use Rattle.net_model.specs.declared.declarations.Declared.TheInside.{Inside}
use Rattle.net_model.specs.declared.network.Network.TheInside.{Inside as Made}

-- a new key comes last
pub insert_key-new : (keys : List (List ℕ)) (key : List ℕ) → position (bytes_eq key) keys ≡ None → insert_key bytes_eq keys key ≡ keys ++ key ∷ []
insert_key-new keys key none = rw (list_any_from_None (bytes_eq key) keys none)

-- the first of some links that ends in a point
abbrev ending_in : List Link → ℕ → Option LinkId
ending_in links p = option_map (λ k. record { 0 = k }) (position (λ (l : Link). l.to.0 == p) links)

-- the links that end in the points, before and after one more link
ending-more_links : (links : List Link) (link : Link) (ending : List (Option LinkId)) (p : ℕ) → link.to.0 < length ending
    → position (λ (l : Link). l.to.0 == link.to.0) links ≡ None
    → get_or ending p None ≡ ending_in links p
    → get_or (set ending link.to.0 (Some (record { 0 = length links }))) p None ≡ ending_in (links ++ link ∷ []) p
ending-more_links links link ending p inside none before = by (p == link.to.0) refl
  where
    by : (b : Bool) → p == link.to.0 ≡ b
        → get_or (set ending link.to.0 (Some (record { 0 = length links }))) p None ≡ ending_in (links ++ link ∷ []) p
    by true same =
        let at : p ≡ link.to.0 = grind (arith, nat_tests) in
        let here = position-push_passes (λ (l : Link). l.to.0 == link.to.0) links link none (grind (arith, nat_tests)) in
        rw at (rw here (get_or-set_same ending link.to.0 (Some (record { 0 = length links })) None inside))
    by false other =
        let apart : p ≢ link.to.0 = grind (arith, nat_tests) in
        let gone = position-push_fails (λ (l : Link). l.to.0 == p) links link (grind (arith, nat_tests)) in
        rw (gone, get_or-set_other) before

-- a pushed default changes no reading
get_or-push_default : {X : Type 0} (xs : List X) (d : X) (k : ℕ) → get_or (xs ++ d ∷ []) k d ≡ get_or xs k d
get_or-push_default [] d zero = refl
get_or-push_default [] d (suc k) = refl
get_or-push_default (x ∷ xs) d zero = refl
get_or-push_default (x ∷ xs) d (suc k) = get_or-push_default xs d k

module _ (old new : Inside) where
  -- one more point, bound or link, and the rest as it was
  pub record HasMorePoints (name : List ℕ) : Type 0 where
    pub bounds : new.bounds ≡ old.bounds
    pub links : new.links ≡ old.links
    pub bound_names : new.bound_names ≡ old.bound_names
    pub points : new.points.keys ≡ insert_key bytes_eq old.points.keys name
    pub ending : new.ending.items ≡ old.ending.items ++ None ∷ []
    pub delay : new.delay ≡ old.delay

  pub record HasMoreBounds (bound : Bound) : Type 0 where
    pub points : new.points ≡ old.points
    pub links : new.links ≡ old.links
    pub ending : new.ending ≡ old.ending
    pub bounds : new.bounds.items ≡ old.bounds.items ++ bound ∷ []
    pub bound_names : new.bound_names.keys ≡ insert_key bytes_eq old.bound_names.keys bound.name
    pub delay : new.delay ≡ old.delay

  pub record HasMoreLinks (link : Link) : Type 0 where
    pub points : new.points ≡ old.points
    pub bounds : new.bounds ≡ old.bounds
    pub bound_names : new.bound_names ≡ old.bound_names
    pub links : new.links.items ≡ old.links.items ++ link ∷ []
    pub ending : new.ending.items ≡ set old.ending.items link.to.0 (Some (record { 0 = length old.links.items }))
    pub delay : new.delay ≡ old.delay

module _ (old new : Inside) (stored : IsDeclared old) where
  pub declared-more_points : (name : List ℕ) → IsTrue (is_name name) → point_named (plan_declared old) name ≡ None → length old.points.keys < most_points
      → HasMorePoints old new name → IsDeclared new
  declared-more_points name named not_taken spare_capacity more =
      let record { bounds = bounds; links = links; bound_names = bound_names; points = points; ending = ending; delay = delay } = more in
      let none = None_from_option_map _ (position (bytes_eq name) old.points.keys) not_taken in
      let grown : new.points.keys ≡ old.points.keys ++ name ∷ [] = points ∙ insert_key-new old.points.keys name none in
      let same : plan_declared new ≡ more_points (plan_declared old) name = cc in
      record {
        plan = subst IsPlan (sym same) (IsPlan-more_points (plan_declared old) name stored.plan named not_taken spare_capacity);
        bound_names = rw (bound_names, bounds) stored.bound_names;
        ending_count = grind (arith, common_steps);
        ending = λ p inside. rw (ending, links) (no_link p);
      }
    where
      no_link : (p : ℕ) → get_or (old.ending.items ++ None ∷ []) p None ≡ activation (plan_declared old) (record { 0 = p })
      no_link p = get_or-push_default old.ending.items None p ∙ ⊎_elim
          (stored.ending p)
          (λ past. get_or_past old.ending.items p None (omega (arith, stored.ending_count)) ∙ sym (activation-past (plan_declared old) stored.plan p past))
          (cases_lt p (length old.points.keys))

  pub declared-more_bounds : (bound : Bound) → IsBound (plan_declared old) bound → bound_named (plan_declared old) bound.name ≡ None → length old.bounds.items < most_bounds
      → HasMoreBounds old new bound → IsDeclared new
  declared-more_bounds bound sound not_taken spare_capacity more =
      let record { points = points; links = links; ending = ending; bounds = bounds; bound_names = bound_names; delay = delay } = more in
      let same : plan_declared new ≡ more_bounds (plan_declared old) bound = cc in
      let last = insert_key-new (names_of old.bounds.items) bound.name (free_name (plan_declared old) bound.name not_taken) in
      record {
        plan = subst IsPlan (sym same) (IsPlan-more_bounds (plan_declared old) bound stored.plan sound not_taken spare_capacity);
        bound_names = bound_names ∙ ap (λ keys. insert_key bytes_eq keys bound.name) stored.bound_names ∙ last ∙ sym (names_of-push old.bounds.items bound) ∙ ap names_of (sym bounds);
        ending_count = grind (arith, common_steps);
        ending = λ p inside. rw (ending, links) (stored.ending p (rw points at inside));
      }

  pub declared-more_links : (link : Link) → IsLink (plan_declared old) link → activation (plan_declared old) link.to ≡ None → length old.links.items < most_links
      → HasMoreLinks old new link → IsDeclared new
  declared-more_links link sound not_taken spare_capacity more =
      let record { points = points; bounds = bounds; bound_names = bound_names; links = links; ending = ending; delay = delay } = more in
      let same : plan_declared new ≡ more_links (plan_declared old) link = cc in
      let none = None_from_option_map _ (position (λ (l : Link). l.to.0 == link.to.0) old.links.items) not_taken in
      record {
        plan = subst IsPlan (sym same) (IsPlan-more_links (plan_declared old) link stored.plan sound not_taken spare_capacity);
        bound_names = rw (bound_names, bounds) stored.bound_names;
        ending_count = grind (arith, common_steps);
        ending = λ p inside. rw (links, ending) (ending-more_links old.links.items link old.ending.items p (omega (arith, sound.to_point, stored.ending_count)) none (stored.ending p (rw points at inside)));
      }

-- a network whose lists and numbers are those that were declared is stored as it should be
module _ (made : Made) (net : Inside) (declared : IsDeclared net) where
  pub stored-declared : made.points.items ≡ net.points.keys → made.bounds.items ≡ net.bounds.items → made.links.items ≡ net.links.items → made.ending.items ≡ net.ending.items
      → made.delay ≡ net.delay
      → IsNameIndex net.points.keys made.point_index.items
      → IsNameIndex (map (λ (b : Bound). b.name) net.bounds.items) made.bound_index.items
      → IsStored made
  stored-declared points bounds links ending delay point_index bound_index =
      let same : plan_of made ≡ plan_declared net = λ i. record { points = points i; bounds = bounds i; links = links i; delay = delay i } in
      record {
        plan = subst IsPlan (sym same) declared.plan;
        point_index = subst (λ (names : List (List ℕ)). IsNameIndex names made.point_index.items) (sym points) point_index;
        bound_index = subst (λ (items : List Bound). IsNameIndex (map (λ (b : Bound). b.name) items) made.bound_index.items) (sym bounds) bound_index;
        ending_count = ap length ending ∙ declared.ending_count ∙ ap length (sym points);
        ending = λ p inside. ap (λ (links : List (Option LinkId)). get_or links p None) ending
            ∙ declared.ending p (subst (λ (names : List (List ℕ)). p < length names) points inside) ∙ ap (λ (plan : Plan). activation plan (record { 0 = p })) (sym same);
      }
