-- What a writing of some bytes did.
use Rattle.std.specs.Prelude.{◌≡◌, ℕ, ◌<◌, List, length, take}
use Rattle.plan_port.specs.Talk.{Seen, Talk, WhereShown, with_put, with_failed_put, raised}
use Rattle.plan_port.specs.declared.written_bytes.Written.{Written}
use Rattle.plan_port.specs.declared.written_bytes.Written.TheVariants.{All, Part}

-- a part is less than the whole
abbrev pub IsPartOfSize : Written → ℕ → Type 0
IsPartOfSize All size = Unit {0}
IsPartOfSize (Part count) size = count < size

-- the talk after a writing: it gained the bytes put, and if not all were put, the last thing in it is a put that failed
abbrev pub after_writing : Written → List ℕ → Talk → Talk
after_writing All bytes talk = with_put talk bytes
after_writing (Part count) bytes talk = with_failed_put (with_put talk (take count bytes))

-- the count of failed puts after a writing
abbrev pub counted_writing : Written → ℕ → ℕ
counted_writing All count = count
counted_writing (Part _) count = raised count

-- what a writing did: it put all bytes, or the first ones until one put failed, which was not tried again
pub record Writes (old new : Seen) (written : Written) (bytes : List ℕ) : Type 0 where
  pub part : IsPartOfSize written (length bytes)
  pub talk : WhereShown old.talk new.talk (λ before after. after ≡ after_writing written bytes before)
  pub left : new.left ≡ old.left
  pub read_faults : new.read_faults ≡ old.read_faults
  pub write_faults : new.write_faults ≡ counted_writing written old.write_faults
