-- The lines of a refutation that pass are a derivation, and state true edges.
use Rattle.std.proofs.Common.{◌≡◌, ℕ, true, ◌+◌, zero, suc, List, [], ◌∷◌, ◌++◌, length, Option, Some, None, is_some, ◌&&◌, Ok, Err, take, refl, ap, sym, ◌∙◌, subst}
use Rattle.std.specs.Prelude.{slice_get}
use Rattle.std.specs.List.{AllByRecursion}
use Rattle.std.specs.Option.{option_and_then}
use Rattle.std.proofs.lemmas.Bool.{and_parts}
use Rattle.std.proofs.lemmas.List.{append-nil, map-append, append_assoc}
use Rattle.std.proofs.lemmas.List.Elements.{All-from_recursion, recursion_from_All, All-push}
use Rattle.std.proofs.lemmas.Option.{same_Some}
use Rattle.net_model.specs.Network.{Plan, IsPlan, point_named, link_named as link_id}
use Rattle.net_model.specs.Edges.{IsEdge}
use Rattle.net_model.specs.LooseRules.{FollowsLoosely, IsLooseDerivation}
use Rattle.net_model.specs.declared.part.Edge.{Edge}
use Rattle.net_model.proofs.RuleLemmas.{some_is}
use Rattle.strategy_model.specs.Plays.{IsInstant}
use Rattle.strategy_model.specs.Edges.{HoldsOf}
use Rattle.strategy_model.specs.declared.tree.Tree.{Tree}
use Rattle.strategy_model.specs.Laws.{RulesKeepEdges, DerivationsAreTrue}
use Rattle.cert_format.specs.declared.line.CertLine.{CertLine}
use Rattle.cert_format.specs.declared.kind.LineKind.{LineKind}
use Rattle.cert_format.specs.declared.kind.LineKind.TheVariants as kind
use Rattle.cert_checker.specs.Lines.{Passes, line_passes, names_known, item_known, label_known, label_of, label_by, link_named}
use Rattle.cert_checker.specs.Truth.{IsLabel, States, IsTrueOf, AreTrueLines}
use Rattle.cert_checker.specs.Judgement.{at_number, lines_pass}
use Rattle.cert_format.proofs.PassedStepLemmas.{bind_ok}
use Rattle.cert_checker.proofs.CertificateNames.{edge_of, point_of, point_of_known, link_known}
use Rattle.cert_checker.proofs.LineConsequences.{edges_of, line_follows, names_ok}

number_ok : (number : ℕ) (passes : Passes) → at_number number passes ≡ Ok tt → passes ≡ Ok tt
number_ok number (Ok passed) e = refl
number_ok number (Err why) e = absurd (cc)

-- the first line passes, and then the others
pub first_passes : (net : Plan) (earlier : List CertLine) (line : CertLine) (lines : List CertLine) → lines_pass net earlier (line ∷ lines) ≡ Ok tt
    → (line_passes net earlier line ≡ Ok tt) × (lines_pass net (earlier ++ line ∷ []) lines ≡ Ok tt)
first_passes net earlier line lines pass =
    let (_, first, others) = bind_ok (at_number (length earlier + 1) (line_passes net earlier line)) _ tt pass in
    (number_ok (length earlier + 1) (line_passes net earlier line) first, others)

module _ (net : Plan) (plan : IsPlan net) (law_rules_keep_edges : RulesKeepEdges) where
  edges_push : (earlier : List CertLine) (line : CertLine) → edges_of net (earlier ++ line ∷ []) ≡ edges_of net earlier ++ edge_of net line ∷ []
  edges_push earlier line = map-append (edge_of net) earlier (line ∷ [])

  -- one more edge of the network
  edges_more : (earlier : List CertLine) (line : CertLine) → AllByRecursion (IsEdge net) (edges_of net earlier) → IsEdge net (edge_of net line) → AllByRecursion (IsEdge net) (edges_of net (earlier ++ line ∷ []))
  edges_more earlier line edges edge =
      let all = All-push (IsEdge net) (edges_of net earlier) (edge_of net line) (All-from_recursion (IsEdge net) (edges_of net earlier) edges) edge in
      subst (AllByRecursion (IsEdge net)) (sym (edges_push earlier line)) (recursion_from_All (IsEdge net) (edges_of net earlier ++ edge_of net line ∷ []) all)

  -- the edges of lines that pass follow from those before them
  pub edges_follow : (earlier lines : List CertLine) → AllByRecursion (IsEdge net) (edges_of net earlier) → lines_pass net earlier lines ≡ Ok tt → (place : ℕ) (edge : Edge) → slice_get (edges_of net lines) place ≡ Some edge
      → FollowsLoosely net (edges_of net earlier ++ take place (edges_of net lines)) edge
  edges_follow earlier [] edges pass place edge here = absurd (cc)
  edges_follow earlier (line ∷ lines) edges pass zero edge here =
      let (passes, others) = first_passes net earlier line lines pass in
      let follows = line_follows net earlier line edges passes in
      let same : edge_of net line ≡ edge = same_Some (edge_of net line) edge here in
      subst (λ (prefix : List Edge). FollowsLoosely net prefix edge) (sym (append-nil (edges_of net earlier))) (subst (λ (e : Edge). FollowsLoosely net (edges_of net earlier) e) same follows)
  edges_follow earlier (line ∷ lines) edges pass (suc place) edge here =
      let (passes, others) = first_passes net earlier line lines pass in
      let follows = line_follows net earlier line edges passes in
      let sound = law_rules_keep_edges net (edges_of net earlier) (edge_of net line) plan edges follows in
      let rest = edges_follow (earlier ++ line ∷ []) lines (edges_more earlier line edges sound) others place edge here in
      let shift : edges_of net (earlier ++ line ∷ []) ++ take place (edges_of net lines) ≡ edges_of net earlier ++ (edge_of net line ∷ take place (edges_of net lines)) =
      ap (λ (prefix : List Edge). prefix ++ take place (edges_of net lines)) (edges_push earlier line) ∙ append_assoc (edges_of net earlier) (edge_of net line ∷ []) (take place (edges_of net lines)) in
      subst (λ (prefix : List Edge). FollowsLoosely net prefix edge) shift rest

  pub derivation : (lines : List CertLine) → lines_pass net [] lines ≡ Ok tt → IsLooseDerivation net (edges_of net lines)
  derivation lines pass = edges_follow [] lines tt pass

  -- a line whose names are known states an edge
  label_stated : (label : Option (List ℕ)) → label_known net label ≡ true → IsLabel net label (option_and_then (link_id net) label)
  label_stated None known = refl
  label_stated (Some name) known =
      let (link, is) = some_is (link_named net name) known in
      let (id, named, declared) = link_known net name link is in
      (id, named, named)

  own_label : (kind : LineKind) (label : Option (List ℕ)) → item_known net kind ≡ true → label_known net label ≡ true → label_known net (label_by kind label) ≡ true
  own_label (kind.Link name) label item known = item
  own_label (kind.Up i j) label item known = known
  own_label (kind.Cross name j) label item known = known
  own_label (kind.Bound name) label item known = refl
  own_label (kind.No i j) label item known = refl
  own_label (kind.Low name j) label item known = refl
  own_label (kind.Drop j) label item known = refl

  point_stated : (name : List ℕ) → is_some (point_named net name) ≡ true → point_named net name ≡ Some (point_of net name)
  point_stated name known =
      let (point, is) = some_is (point_named net name) known in
      is ∙ ap Some (sym (point_of_known net name point is))

  states : (line : CertLine) → names_known net line ≡ true → States net line (edge_of net line)
  unfolding names_known
  states line names =
      let (ends_and_item, label) = and_parts (is_some (point_named net line.from) && is_some (point_named net line.to) && item_known net line.kind) (label_known net line.label) names in
      let (ends, item) = and_parts (is_some (point_named net line.from) && is_some (point_named net line.to)) (item_known net line.kind) ends_and_item in
      let (from, to) = and_parts (is_some (point_named net line.from)) (is_some (point_named net line.to)) ends in
      record {
        from = point_stated line.from from;
        to = point_stated line.to to;
        label = label_stated (label_of line) (own_label line.kind line.label item label);
        weight = refl;
      }

  -- each line that passes states a true edge
  stated_true : (strategy : Tree) (earlier lines : List CertLine) → lines_pass net earlier lines ≡ Ok tt → AllByRecursion (HoldsOf net strategy) (edges_of net lines) → AllByRecursion (IsTrueOf net strategy) lines
  stated_true strategy earlier [] pass all = tt
  stated_true strategy earlier (line ∷ lines) pass all =
      let (passes, others) = first_passes net earlier line lines pass in
      ((edge_of net line, states line (names_ok net earlier line passes), all.0), stated_true strategy (earlier ++ line ∷ []) lines others all.1)

  pub lines_are_true : IsInstant net → DerivationsAreTrue → (lines : List CertLine) → lines_pass net [] lines ≡ Ok tt → AreTrueLines net lines
  lines_are_true instant law_derivations_are_true lines pass = record {
    of_each = λ strategy controls.
        let true_edges = law_derivations_are_true net strategy (edges_of net lines) instant controls (derivation lines pass) in
        All-from_recursion (IsTrueOf net strategy) lines (stated_true strategy [] lines pass (recursion_from_All (HoldsOf net strategy) (edges_of net lines) true_edges));
  }
