-- What is said over a port, and how contracts see a port.
use Rattle.std.specs.Prelude.{◌≡◌, ℕ, ◌+◌, ◌<◌, ◌≤◌, min, List, [], ◌∷◌, ◌++◌, length, take, map, Option, Some, None, IfSome, IsSomeAnd}
use Rattle.std.specs.Option.{option_map}
use Rattle.plan_port.specs.Limits.{last_count}
use Rattle.plan_port.specs.declared.ports.Took.{Took}
use Rattle.plan_port.specs.declared.ports.Took.TheVariants.{Bytes, End, Failed}
use Rattle.plan_port.specs.declared.ports.Sent.{Sent}
use Rattle.plan_port.specs.declared.ports.Sent.TheVariants.{Wrote}
use Rattle.plan_port.specs.declared.ports.Sent.TheVariants.{Failed as NotSent}

-- bytes that one take gave, and how many bytes had been put before it
pub record Piece : Type 0 where
  pub bytes : List ℕ
  pub put_before : ℕ

-- how far a talk has come: how many pieces were taken, and how many bytes were put
pub record TalkPlace : Type 0 where
  pub taken : ℕ
  pub put : ℕ

-- the pieces taken so far and all bytes put so far, and how far the talk had come when a take, and when a put, last failed
pub record Talk : Type 0 where
  pub taken : List Piece
  pub put : List ℕ
  pub failed_take : Option TalkPlace
  pub failed_put : Option TalkPlace

-- what contracts see of a port: the talk and the bytes still to come, each if the port shows it, and how often a take and how often a put has failed
pub record Seen : Type 0 where
  pub talk : Option Talk
  pub left : Option (List ℕ)
  pub read_faults : ℕ
  pub write_faults : ℕ

-- a talk in which nothing was said
abbrev pub silence : Talk
silence = record { taken = []; put = []; failed_take = None; failed_put = None }

-- a port that shows nothing but its two counts
abbrev pub counts_only : (read_faults write_faults : ℕ) → Seen
counts_only reads writes = record { talk = None; left = None; read_faults = reads; write_faults = writes }

-- a count with one more, up to its last value
abbrev pub raised : ℕ → ℕ
raised count = min (count + 1) last_count

-- how far a talk has come
abbrev pub place_in_talk : Talk → TalkPlace
place_in_talk talk = record { taken = length talk.taken; put = length talk.put }

-- a talk in which pieces of these bytes were then taken
abbrev pub with_pieces : Talk → List (List ℕ) → Talk
with_pieces talk pieces =
    record talk { taken = talk.taken ++ map (λ bytes. record { bytes = bytes; put_before = length talk.put }) pieces }

-- a talk in which these bytes were then put
abbrev pub with_put : Talk → List ℕ → Talk
with_put talk bytes = record talk { put = talk.put ++ bytes }

-- a talk in which a take then failed
abbrev pub with_failed_take : Talk → Talk
with_failed_take talk = record talk { failed_take = Some (place_in_talk talk) }

-- a talk in which a put then failed
abbrev pub with_failed_put : Talk → Talk
with_failed_put talk = record talk { failed_put = Some (place_in_talk talk) }

-- what is shown after a call was shown before it, and the two are so related
abbrev pub WhereShown : {A : Type 0} → (old new : Option A) → (A → A → Type 0) → Type 0
WhereShown old new Related = IfSome new (λ after. IsSomeAnd old (λ before. Related before after))

-- what is left is shown after a call exactly if it was shown before it, and lost these bytes from its start
abbrev pub LosesPrefix : Option (List ℕ) → Option (List ℕ) → List ℕ → Type 0
LosesPrefix old new bytes = old ≡ option_map (λ rest. bytes ++ rest) new

-- a take that gives bytes gives at least one and no more than there is place for
abbrev pub TakesWithin : Took → ℕ → Type 0
TakesWithin (Bytes n) place = (0 < n) × (n ≤ place)
TakesWithin _ place = Unit {0}

-- the bytes that a take gave into a slice
abbrev pub bytes_given : Took → List ℕ → List ℕ
bytes_given (Bytes n) into = take n into
bytes_given _ into = []

-- the talk after a take
abbrev pub after_take : Took → List ℕ → Talk → Talk
after_take (Bytes n) into talk = with_pieces talk (take n into ∷ [])
after_take End into talk = talk
after_take Failed into talk = with_failed_take talk

-- the count of failed takes after a take
abbrev pub counted_take : Took → ℕ → ℕ
counted_take Failed count = raised count
counted_take _ count = count

-- what one take did: its bytes are within bounds, the talk changed by this call alone, what is left lost just the bytes given, the input ended only if nothing
-- is left, and a failed take is counted once
pub record TakesOnce (old new : Seen) (took : Took) (into : List ℕ) : Type 0 where
  pub within : TakesWithin took (length into)
  pub talk : WhereShown old.talk new.talk (λ before after. after ≡ after_take took into before)
  pub left : LosesPrefix old.left new.left (bytes_given took into)
  pub at_end : took ≡ End → IfSome new.left (λ bytes. bytes ≡ [])
  pub read_faults : new.read_faults ≡ counted_take took old.read_faults
  pub write_faults : new.write_faults ≡ old.write_faults

-- a put that writes bytes writes at least one and no more than the piece has
abbrev pub WritesWithin : Sent → ℕ → Type 0
WritesWithin (Wrote n) size = (0 < n) × (n ≤ size)
WritesWithin _ size = Unit {0}

-- the talk after a put
abbrev pub after_put : Sent → List ℕ → Talk → Talk
after_put (Wrote n) piece talk = with_put talk (take n piece)
after_put NotSent piece talk = with_failed_put talk

-- the count of failed puts after a put
abbrev pub counted_put : Sent → ℕ → ℕ
counted_put NotSent count = raised count
counted_put _ count = count

-- what one put did: its bytes are within bounds, the talk changed by this call alone, what is left stays, and a failed put
-- is counted once
pub record PutsOnce (old new : Seen) (sent : Sent) (piece : List ℕ) : Type 0 where
  pub within : WritesWithin sent (length piece)
  pub talk : WhereShown old.talk new.talk (λ before after. after ≡ after_put sent piece before)
  pub left : new.left ≡ old.left
  pub read_faults : new.read_faults ≡ old.read_faults
  pub write_faults : new.write_faults ≡ counted_put sent old.write_faults
