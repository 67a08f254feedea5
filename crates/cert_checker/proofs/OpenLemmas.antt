-- What is looked up in the least weights of entries is what the definition requires: an edge stands among the entries exactly if its key has at most its weight, and of the first premises of a key only the least matters.
use Rattle.std.proofs.Common.{◌≡◌, ℕ, ◌==◌, ℤ, ◌<ℤ◌, Bool, true, false, cond, ◌&&◌, ◌||◌, List, [], ◌∷◌, ◌++◌, length, get_or, replicate, Option, Some, None, zero, suc, refl, sym, ap, ◌∙◌, subst, arith}
use Rattle.std.specs.Prelude.{int_le, fold}
use Rattle.std.specs.Int.{int_min}
use Rattle.std.specs.List.{All, AllByRecursion}
use Rattle.std.proofs.lemmas.Int.{ints}
use Rattle.std.proofs.lemmas.Bool.Decides.{nat_tests}
use Rattle.std.proofs.lemmas.List.{append-nil, append_assoc}
use Rattle.std.proofs.lemmas.List.Elements.{recursion_from_All}
use Rattle.std.proofs.lemmas.List.Folds.{list_any-append}
use Rattle.std.proofs.lemmas.Option.{same_Some}
use Rattle.std.proofs.Math.Bool.{or-false}
use Rattle.net_model.specs.Network.{Plan}
use Rattle.net_model.specs.Edges.{IsEdge, IsLabelled}
use Rattle.net_model.specs.declared.ids.PointId.{PointId}
use Rattle.net_model.specs.declared.ids.LinkId.{LinkId}
use Rattle.net_model.specs.declared.part.Edge.{Edge}
use Rattle.net_model.specs.declared.part.Link.{Link}
use Rattle.cert_checker.specs.Tables.{same_label_id, same_key, stands_among}
use Rattle.cert_checker.specs.Sound.{IsSoundEdge}
use Rattle.cert_checker.specs.Least.{absent, Weights, row_by, weight_in, IsPlacedIn, HasPlaceInTable, IsSizedFor, no_weights, with_entry_by, with_entry, least_of, has_word_at_most}
use Rattle.cert_checker.proofs.LeastLemmas.{for_none, for_entry, placed, word_after}

-- ---- the words of a table with one entry more
no_word : (points count i j : ℕ) → get_or (get_or (replicate count (replicate points absent)) i []) j absent ≡ absent
no_word points zero i j = refl
no_word points (suc count) zero j = none points j
  where
    none : (points j : ℕ) → get_or (replicate points absent) j absent ≡ absent
    none zero j = refl
    none (suc points) zero = refl
    none (suc points) (suc j) = none points j
no_word points (suc count) (suc i) j = no_word points count i j

none_by : (points links : ℕ) (to : PointId) (label : Option LinkId) (from : ℕ) → get_or (row_by (no_weights points links) to label) from absent ≡ absent
none_by points links to None from = no_word points points to.0 from
none_by points links to (Some name) from = no_word points links name.0 from

-- labels of one link end in one point
one_end : (net : Plan) (edge other : Edge) (name : LinkId) → IsLabelled net edge (Some name) → IsLabelled net other (Some name) → edge.to ≡ other.to
one_end net edge other name (link, declared, ends) (another, also, end) =
    let same : link ≡ another = same_Some link another (sym declared ∙ also) in
    ends ∙ ap (λ (l : Link). l.from) same ∙ sym end

and_comm3 : (a b : Bool) → (a && b) ≡ ((a && true) && b)
and_comm3 true b = refl
and_comm3 false b = refl

last_true : (a b : Bool) → (a && b) ≡ ((a && b) && true)
last_true true true = refl
last_true true false = refl
last_true false b = refl

none_true : (a : Bool) → false ≡ (a && false)
none_true true = refl
none_true false = refl

point_test : (p q : PointId) → p ≡ q → (p.0 == q.0) ≡ true
point_test p q same =
    let number : p.0 ≡ q.0 = ap (λ (x : PointId). x.0) same in
    grind (arith, nat_tests)

id_same : (x y : LinkId) → (x.0 == y.0) ≡ true → x ≡ y
id_same x y is =
    let number : x.0 ≡ y.0 = grind (arith, nat_tests) in
    ap (λ (n : ℕ). let l : LinkId = record { 0 = n } in l) number

-- the word of a key, after an entry
abbrev Lowers : Weights → Edge → Edge → Option LinkId → Option LinkId → Type 0
Lowers table x e xl el =
    get_or (row_by (with_entry_by table x.to xl x.from.0 x.weight) e.to el) e.from.0 absent
    ≡ cond ((x.from.0 == e.from.0) && (x.to.0 == e.to.0) && same_label_id xl el) (int_min (get_or (row_by table e.to el) e.from.0 absent) x.weight) (get_or (row_by table e.to el) e.from.0 absent)

chosen : (b c : Bool) (x y : ℤ) → b ≡ c → cond b x y ≡ cond c x y
chosen b c x y same = ap (λ (d : Bool). cond d x y) same

lowers_by : (net : Plan) (table : Weights) (x e : Edge) (xl el : Option LinkId) → IsPlacedIn table x.to xl x.from.0 → IsLabelled net x xl → IsLabelled net e el → Lowers table x e xl el
lowers_by net table x e None None placed xs es =
    word_after table.ordinary x.to.0 x.from.0 x.weight placed.0 placed.1 e.to.0 e.from.0 ∙ chosen _ _ _ _ (last_true (x.from.0 == e.from.0) (x.to.0 == e.to.0))
lowers_by net table x e None (Some m) placed xs es = chosen _ _ _ _ (none_true ((x.from.0 == e.from.0) && (x.to.0 == e.to.0)))
lowers_by net table x e (Some n) None placed xs es = chosen _ _ _ _ (none_true ((x.from.0 == e.from.0) && (x.to.0 == e.to.0)))
lowers_by net table x e (Some n) (Some m) placed xs es =
    word_after table.labelled n.0 x.from.0 x.weight placed.0 placed.1 m.0 e.from.0 ∙ chosen _ _ _ _ (by (n.0 == m.0) refl)
  where
    by : (b : Bool) → (n.0 == m.0) ≡ b → ((x.from.0 == e.from.0) && (n.0 == m.0)) ≡ ((x.from.0 == e.from.0) && (x.to.0 == e.to.0) && (n.0 == m.0))
    by true is =
        let same : x.to ≡ e.to = one_end net x e n xs (subst (λ (l : LinkId). IsLabelled net e (Some l)) (sym (id_same n m is)) es) in
        rw (is, point_test x.to e.to same) (last_true_of (x.from.0 == e.from.0))
      where
        last_true_of : (a : Bool) → (a && true) ≡ ((a && true) && true)
        last_true_of true = refl
        last_true_of false = refl
    by false is = rw is (none_of (x.from.0 == e.from.0) (x.to.0 == e.to.0))
      where
        none_of : (a b : Bool) → (a && false) ≡ ((a && b) && false)
        none_of true true = refl
        none_of true false = refl
        none_of false b = refl

-- ---- an edge stands among entries exactly if its key has at most its weight
abbrev pub IsLeast : Plan → List Edge → Weights → Type 0
IsLeast net edges table = (edge : Edge) → IsEdge net edge → edge.weight <ℤ absent → has_word_at_most table edge ≡ stands_among edges edge

least_none : (net : Plan) → IsLeast net [] (no_weights (length net.points) (length net.links))
least_none net edge sound small =
    ap (λ (w : ℤ). int_le w edge.weight) (none_by (length net.points) (length net.links) edge.to edge.label edge.from.0) ∙ above edge.weight small
  where
    above : (w : ℤ) → w <ℤ absent → int_le absent w ≡ false
    above w small = grind (arith, ints)

least_more : (net : Plan) (prefix : List Edge) (table : Weights) (x : Edge) → HasPlaceInTable table x → IsEdge net x → IsLeast net prefix table → IsLeast net (prefix ++ x ∷ []) (with_entry table x)
least_more net prefix table x is_placed sound least edge is small =
    ap (λ (w : ℤ). int_le w edge.weight) (lowers_by net table x edge x.label edge.label is_placed sound.labelled is.labelled)
    ∙ by (same_key x edge) refl
    ∙ sym (list_any-append (λ entry. same_key entry edge && int_le entry.weight edge.weight) prefix (x ∷ []))
  where
    lower : (a b w : ℤ) → int_le (int_min a b) w ≡ (int_le a w || (int_le b w || false))
    lower a b w = grind (arith, ints)

    old : int_le (weight_in table edge) edge.weight ≡ stands_among prefix edge
    old = least edge is small

    by : (b : Bool) → same_key x edge ≡ b → int_le (cond (same_key x edge) (int_min (weight_in table edge) x.weight) (weight_in table edge)) edge.weight ≡
        (stands_among prefix edge || ((same_key x edge && int_le x.weight edge.weight) || false))
    by true same = rw same (lower (weight_in table edge) x.weight edge.weight ∙ ap (λ (b : Bool). b || (int_le x.weight edge.weight || false)) old)
    by false same = rw same (old ∙ sym (or-false (stands_among prefix edge)))

-- the table of entries
least_from : (net : Plan) (prefix edges : List Edge) (table : Weights) → AllByRecursion (IsSoundEdge net) edges → IsSizedFor (length net.points) (length net.links) table → IsLeast net prefix table
    → IsLeast net (prefix ++ edges) (fold with_entry table edges)
least_from net prefix [] table sound shape least = subst (λ (all : List Edge). IsLeast net all table) (sym (append-nil prefix)) least
least_from net prefix (x ∷ edges) table sound shape least =
    let is_placed = placed net table x shape sound.0.is_edge in
    subst (λ (all : List Edge). IsLeast net all (fold with_entry (with_entry table x) edges)) (append_assoc prefix (x ∷ []) edges)
    (least_from net (prefix ++ x ∷ []) edges (with_entry table x) sound.1 (for_entry (length net.points) (length net.links) table x shape is_placed) (least_more net prefix table x is_placed sound.0.is_edge least))

pub is_least : (net : Plan) (edges : List Edge) → All (IsSoundEdge net) edges → IsLeast net edges (least_of net edges)
is_least net edges sound =
    least_from net [] edges (no_weights (length net.points) (length net.links)) (recursion_from_All (IsSoundEdge net) edges sound) (for_none (length net.points) (length net.links)) (least_none net)
