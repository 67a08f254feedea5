-- When a command takes and puts.
use Rattle.std.specs.Prelude.{◌≡◌, ℕ, List, ◌∷◌, ◌++◌, length}
use Rattle.std.specs.List.{flat_map}
use Rattle.plan_port.specs.Talk.{Piece, Talk}
use Rattle.command_engine.specs.Machine.{Machine}
use Rattle.command_engine.specs.Runs.{Answered}

-- the bytes of these pieces
abbrev pub bytes_of : List Piece → List ℕ
bytes_of pieces = flat_map (λ piece. piece.bytes) pieces

module _ {C : Type 0} (machine : Machine C) (start : C) where
  -- When this piece was taken, after those, exactly the answers to their whole lines had been put.
  pub record IsTakenPromptly (before after : Talk) (seen : List Piece) (piece : Piece) : Type 0 where
    pub said : List ℕ
    pub later : List ℕ
    pub answered : Answered machine start (bytes_of seen) said
    pub put_before : piece.put_before ≡ length (before.put ++ said)
    pub put_after : after.put ≡ (before.put ++ said) ++ later

  -- Between these two moments of a talk these pieces were taken, each promptly.
  pub record IsPrompt (before after : Talk) : Type 0 where
    pub pieces : List Piece
    pub taken : after.taken ≡ before.taken ++ pieces
    pub promptly : (seen later : List Piece) (piece : Piece) → pieces ≡ seen ++ piece ∷ later → IsTakenPromptly before after seen piece
