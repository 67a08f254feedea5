-- What is put of the verdict of a network, and that it is put in one way.
use Rattle.std.proofs.Common.{◌≡◌, ℕ, List, inl, inr, sym, ◌∙◌}
use Rattle.net_model.specs.Network.{Plan}
use Rattle.command_engine.specs.declared.endings.End.{End}
use Rattle.common_answers.specs.VerdictLines.{PutsRefuted}
use Rattle.verdicts.specs.Verdict.{Decides}
use Rattle.verdicts.proofs.RefutationLemmas.{decided_once}
use Rattle.command_contracts.specs.PutVerdicts.{PutsDecided}

-- the answer to a network is its verdict
pub verdict_put : (net : Plan) (Yes : Type 0) (put : List ℕ) (end : End) → Decides net Yes (λ cert. PutsRefuted cert put end) → PutsDecided net Yes put end
verdict_put net Yes put end (inl controllable) = inl controllable
verdict_put net Yes put end (inr (never, (cert, refutes, puts))) = inr (never, (cert, refutes.accepted, puts))

-- if it is put that a network is refuted, the answer is one if that to a controllable network is
pub answers_once : (net : Plan) (Yes : List ℕ → End → Type 0) → ((a b : List ℕ) (x y : End) → Yes a x → Yes b y → (a ≡ b) × (x ≡ y))
    → (a b : List ℕ) (x y : End) → Decides net (Yes a x) (λ cert. PutsRefuted cert a x) → Decides net (Yes b y) (λ cert. PutsRefuted cert b y) → (a ≡ b) × (x ≡ y)
answers_once net Yes once a b x y =
    decided_once {A = List ℕ × End} net (λ one. Yes one.0 one.1) (λ one cert. PutsRefuted cert one.0 one.1) (λ one other. (one.0 ≡ other.0) × (one.1 ≡ other.1))
    (λ one other puts also. once one.0 other.0 one.1 other.1 puts also) (λ one other cert puts also. (puts.0 ∙ sym also.0, puts.1 ∙ sym also.1)) (a, x) (b, y)
