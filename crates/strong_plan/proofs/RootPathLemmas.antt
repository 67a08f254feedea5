-- The path up from a point, step by step.
use Rattle.std.proofs.Common.{◌≡◌, ℕ, suc, ◌+◌, ◌-◌, ◌<◌, List, [], ◌∷◌, Option, Some, None, length, refl, ap, sym, ◌∙◌, arith}
use Rattle.std.specs.Option.{option_map}
use Rattle.net_model.specs.Network.{Plan}
use Rattle.net_model.specs.declared.ids.PointId.{PointId}
use Rattle.net_model.specs.declared.part.Link.{Link}
use Rattle.strong_plan.specs.ReducedEdges.{link_into, chain_within, root_of}
use Rattle.strong_plan.specs.declared.chain.RootPath.{RootPath}

-- a path that goes on up a chain after so many links
abbrev pub root_path_after : ℕ → PointId → List Link → RootPath
root_path_after before point chain = record { links = before + length chain; root = root_of point chain }

pub one_up : (net : Plan) (fuel before : ℕ) (point : PointId) (link : Link) → link_into net point ≡ Some link
    → option_map (root_path_after before point) (chain_within net (suc fuel) point) ≡ option_map (root_path_after (before + 1) link.from) (chain_within net fuel link.from)
one_up net fuel before point link into =
    ap (λ (o : Option Link). option_map (root_path_after before point) (elim o [ None ↦ Some [] | Some l ↦ option_map (λ (rest : List Link). l ∷ rest) (chain_within net fuel l.from) ])) into ∙ by (chain_within net fuel link.from)
  where
    by : (o : Option (List Link)) → option_map (root_path_after before point) (option_map (λ (rest : List Link). link ∷ rest) o) ≡ option_map (root_path_after (before + 1) link.from) o
    by None = refl
    by (Some rest) = let count : before + length (link ∷ rest) ≡ before + 1 + length rest = omega arith in λ i. Some (record { links = count i; root = root_of link.from rest })

pub at_top : (net : Plan) (fuel before : ℕ) (point : PointId) → link_into net point ≡ None → option_map (root_path_after before point) (chain_within net (suc fuel) point) ≡ Some (record { links = before; root = point })
at_top net fuel before point none =
    ap (λ (o : Option Link). option_map (root_path_after before point) (elim o [ None ↦ Some [] | Some l ↦ option_map (λ (rest : List Link). l ∷ rest) (chain_within net fuel l.from) ])) none
    ∙ (λ i. Some (record { links = count i; root = point }))
  where
    count : before + 0 ≡ before
    count = omega arith

pub step_up : (net : Plan) (n k : ℕ) (point : PointId) (link : Link) → k < suc n → link_into net point ≡ Some link
    → option_map (root_path_after k point) (chain_within net (suc n - k) point) ≡ option_map (root_path_after (k + 1) link.from) (chain_within net (suc n - (k + 1)) link.from)
step_up net n k point link below into =
    let before : suc n - k ≡ suc (n - k) = omega (arith, below) in
    let after : suc n - (k + 1) ≡ n - k = omega (arith, below) in
    ap (λ (r : ℕ). option_map (root_path_after k point) (chain_within net r point)) before ∙ one_up net (n - k) k point link into ∙ ap (λ (r : ℕ). option_map (root_path_after (k + 1) link.from) (chain_within net r link.from)) (sym after)
