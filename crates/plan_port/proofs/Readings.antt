-- What a reader took, over several takes, and what its answer says of the bytes that are left.
use Rattle.std.proofs.Common.{◌≡◌, ◌⊎◌, inl, inr, ℕ, ◌+◌, ◌-◌, ◌*◌, ◌<◌, ◌≤◌, Bool, true, false, cond, List, [], ◌∷◌, ◌++◌, length, take, All, Option, Some, IfSome, refl, sym, ap, subst, ◌∙◌, arith, append_assoc}
use Rattle.std.specs.List.{concat}
use Rattle.std.specs.Option.{option_map}
use Rattle.std.proofs.lemmas.Bool.{false≢true, cases_lt}
use Rattle.std.proofs.lemmas.List.{append-nil, take-append-le, take_at, length-append, length-take-le}
use Rattle.std.proofs.lemmas.List.Elements.{All-append, All-nil, All-cons}
use Rattle.plan_port.specs.Talk.{Talk, Seen, TakesOnce, bytes_given, after_take, counted_take, with_pieces, with_failed_take}
use Rattle.plan_port.specs.Lines.{DecideNothing}
use Rattle.plan_port.specs.Reader.{Reader, Takes, with_pieces_kept, spare_capacity, remaining, after_takes, counted_takes}
use Rattle.plan_port.specs.ReaderSteps.{with_bytes_kept, ended_after, has_failed, pieces_given}
use Rattle.plan_port.specs.declared.ports.Took.{Took}
use Rattle.plan_port.specs.declared.ports.Took.TheVariants.{Bytes, End, Failed}
use Rattle.plan_port.proofs.Talks.{WhereShown-same, changed_twice, with_pieces-nil, with_pieces-with_pieces, LosesPrefix-nil, LosesPrefix-twice, concat-append}

-- each take that doesn't fail brings the reader nearer to a decision
abbrev pub distance : ℕ → Reader → ℕ
distance longest r = 2 * (longest + 1 - length r.kept) + cond r.ended 0 1

pub Takes-none : (longest : ℕ) (old : Reader) (seen : Seen) → Takes longest old (with_pieces_kept old [] old.ended) [] false seen seen
Takes-none longest old seen = record {
  reader = refl;
  talk = WhereShown-same seen.talk (λ was is. is ≡ with_pieces was []) with_pieces-nil;
  left = LosesPrefix-nil seen.left;
  filled = All-nil (λ (piece : List ℕ). 0 < length piece);
  undecided = λ k h. absurd (omega arith);
  none_after_end = λ e. (refl, e);
  all_at_end = λ e e'. absurd (false≢true (sym e ∙ e'));
  none_at_end = λ e e'. absurd (false≢true (sym e ∙ e'));
  read_faults = refl;
  write_faults = refl;
}

-- the bytes of a take are its pieces
pub given_bytes : (took : Took) (into : List ℕ) → concat (pieces_given took into) ≡ bytes_given took into
given_bytes (Bytes n) into = append-nil (take n into)
given_bytes End into = refl
given_bytes Failed into = refl

at_most_one : (took : Took) (into : List ℕ) → length (pieces_given took into) ≤ 1
at_most_one (Bytes n) into = omega arith
at_most_one End into = omega arith
at_most_one Failed into = omega arith

given_filled : (took : Took) (into : List ℕ) (old new : Seen) → TakesOnce old new took into → All (λ (piece : List ℕ). 0 < length piece) (pieces_given took into)
given_filled (Bytes n) into old new once =
    let within = once.within in
    All-cons (λ (piece : List ℕ). 0 < length piece) (take n into) [] (omega (arith, within.0, within.1, length-take-le n into within.1)) (All-nil (λ (piece : List ℕ). 0 < length piece))
given_filled End into old new once = All-nil (λ (piece : List ℕ). 0 < length piece)
given_filled Failed into old new once = All-nil (λ (piece : List ℕ). 0 < length piece)

-- pieces kept, and then more
kept_twice : (r : Reader) (pieces more : List (List ℕ)) (ended ended' : Bool) → with_bytes_kept (with_pieces_kept r pieces ended) (concat more) ended' ≡ with_pieces_kept r (pieces ++ more) ended'
kept_twice r pieces more ended ended' =
    ap (λ (l : List ℕ). record r { text = []; kept = l; ended = ended' }) (append_assoc r.kept (concat pieces) (concat more) ∙ ap (λ (l : List ℕ). r.kept ++ l) (sym (concat-append pieces more)))

undecided_at : (longest spare_capacity : ℕ) (kept : List ℕ) (pieces more : List (List ℕ)) (k : ℕ) → length more ≤ 1 → k < length (pieces ++ more) → (k < length pieces) ⊎ (length pieces ≤ k) →
    ((k : ℕ) → k < length pieces → DecideNothing longest spare_capacity (kept ++ concat (take k pieces))) → DecideNothing longest spare_capacity (kept ++ concat pieces) →
    DecideNothing longest spare_capacity (kept ++ concat (take k (pieces ++ more)))
undecided_at longest spare_capacity kept pieces more k one within (inl lt) earlier now =
    subst (λ (l : List (List ℕ)). DecideNothing longest spare_capacity (kept ++ concat l)) (sym (take-append-le k pieces more (omega arith))) (earlier k lt)
undecided_at longest spare_capacity kept pieces more k one within (inr le) earlier now =
    let last : length pieces ≡ k = omega (arith, length-append pieces more) in
    subst (λ (l : List (List ℕ)). DecideNothing longest spare_capacity (kept ++ concat l)) (sym (take_at pieces more k last)) now

was_end : (took : Took) (ended : Bool) → ended ≡ false → ended_after took ended ≡ true → took ≡ End
was_end (Bytes n) ended e e' = absurd (false≢true (sym e ∙ e'))
was_end End ended e e' = refl
was_end Failed ended e e' = absurd (false≢true (sym e ∙ e'))

-- the talk after some pieces and one take more
talk_twice : (took : Took) (into : List ℕ) (pieces : List (List ℕ)) (t : Talk) → after_take took into (with_pieces t pieces) ≡ after_takes (pieces ++ pieces_given took into) (has_failed took) t
talk_twice (Bytes n) into pieces t = with_pieces-with_pieces t pieces (take n into ∷ [])
talk_twice End into pieces t = ap (λ (l : List (List ℕ)). with_pieces t l) (sym (append-nil pieces))
talk_twice Failed into pieces t = ap (λ (l : List (List ℕ)). with_failed_take (with_pieces t l)) (sym (append-nil pieces))

counted_is : (took : Took) (count : ℕ) → counted_take took count ≡ counted_takes (has_failed took) count
counted_is (Bytes n) count = refl
counted_is End count = refl
counted_is Failed count = refl

-- a reader after one take: it keeps the bytes that the take gave, and knows whether the input has ended
abbrev IsReaderAfter : Reader → Reader → Took → List ℕ → Type 0
IsReaderAfter mid new took into = new ≡ with_bytes_kept mid (bytes_given took into) (ended_after took mid.ended)

-- if a take found the end, the reader keeps what it kept before
none_at : (longest : ℕ) (mid new : Reader) (took : Took) (into : List ℕ) → took ≡ End → DecideNothing longest (spare_capacity mid) mid.kept → IsReaderAfter mid new took into → DecideNothing longest (spare_capacity new) new.kept
none_at longest mid new took into end decides is =
    let kept : mid.kept ++ bytes_given took into ≡ mid.kept = ap (λ (t : Took). mid.kept ++ bytes_given t into) end ∙ append-nil mid.kept in
    subst (λ (r : Reader). DecideNothing longest (spare_capacity r) r.kept) (sym is) (subst (λ (l : List ℕ). DecideNothing longest (spare_capacity mid) l) (sym kept) decides)

-- one take more
pub Takes-more : (longest : ℕ) (old mid new : Reader) (took : Took) (into : List ℕ) (pieces : List (List ℕ)) (a b c : Seen) → Takes longest old mid pieces false a b →
    TakesOnce b c took into → mid.ended ≡ false → DecideNothing longest (spare_capacity mid) mid.kept → IsReaderAfter mid new took into →
    Takes longest old new (pieces ++ pieces_given took into) (has_failed took) a c
Takes-more longest old mid new took into pieces a b c before once unended decides is =
    let more = pieces_given took into in
    let ended : new.ended ≡ ended_after took mid.ended = ap (λ (r : Reader). r.ended) is in
    let same : mid ≡ with_pieces_kept old pieces mid.ended = before.reader in
    let at : DecideNothing longest (spare_capacity old) (old.kept ++ concat pieces) = subst (λ (r : Reader). DecideNothing longest (spare_capacity r) r.kept) same decides in
    let bytes : bytes_given took into ≡ concat more = sym (given_bytes took into) in
    record {
      reader = is ∙ ap (λ (l : List ℕ). with_bytes_kept mid l (ended_after took mid.ended)) bytes ∙ ap (λ (r : Reader). with_bytes_kept r (concat more) (ended_after took mid.ended)) same
          ∙ kept_twice old pieces more mid.ended (ended_after took mid.ended) ∙ ap (λ e. with_pieces_kept old (pieces ++ more) e) (sym ended);
      talk = changed_twice a.talk b.talk c.talk (λ t. with_pieces t pieces) (λ t. after_take took into t) (λ t. after_takes (pieces ++ more) (has_failed took) t) (talk_twice took into pieces) before.talk once.talk;
      left = LosesPrefix-twice a.left b.left c.left (concat pieces) (bytes_given took into) before.left once.left
          ∙ ap (λ (l : List ℕ). option_map (λ rest. l ++ rest) c.left) (ap (λ (l : List ℕ). concat pieces ++ l) bytes ∙ sym (concat-append pieces more));
      filled = All-append (λ (piece : List ℕ). 0 < length piece) pieces more before.filled (given_filled took into b c once);
      undecided = λ k h. undecided_at longest (spare_capacity old) old.kept pieces more k (at_most_one took into) h (cases_lt k (length pieces)) before.undecided at;
      none_after_end = λ e. absurd (false≢true (sym unended ∙ (before.none_after_end e).1));
      all_at_end = λ e e'. once.at_end (was_end took mid.ended unended (sym ended ∙ e'));
      none_at_end = λ e e'. none_at longest mid new took into (was_end took mid.ended unended (sym ended ∙ e')) decides is;
      read_faults = once.read_faults ∙ (counted_is took b.read_faults ∙ ap (λ (n : ℕ). counted_takes (has_failed took) n) before.read_faults);
      write_faults = once.write_faults ∙ before.write_faults;
    }

pub nearer : (longest : ℕ) (mid new : Reader) (took : Took) (into : List ℕ) (a b : Seen) → (took ≡ Failed → ⊥) → TakesOnce a b took into → mid.ended ≡ false → length mid.kept ≤ longest → IsReaderAfter mid new took into
    → distance longest new < distance longest mid
nearer longest mid new (Bytes n) into a b h once e small is =
    let within = once.within in
    let kept = ap (λ (r : Reader). length r.kept) is ∙ length-append mid.kept (take n into) in
    let last : cond new.ended 0 1 ≡ cond mid.ended 0 1 = ap {B = ℕ} (λ (r : Reader). cond r.ended 0 1) is in
    omega (arith, kept, last, within.0, within.1, length-take-le n into within.1)
nearer longest mid new End into a b h once e small is =
    let kept = ap (λ (r : Reader). length r.kept) is ∙ length-append mid.kept [] in
    let last : cond new.ended 0 1 ≡ 0 = ap {B = ℕ} (λ (r : Reader). cond r.ended 0 1) is in
    let was : cond mid.ended 0 1 ≡ 1 = ap {B = ℕ} (λ b. cond b 0 1) e in
    omega (arith, kept, last, was)
nearer longest mid new Failed into a b h once e small is = absurd (h refl)

pub not_failed : (took : Took) → ((x : ℕ) × (took ≡ Bytes x)) ⊎ (took ≡ End) → took ≡ Failed → ⊥
not_failed (Bytes n) h e = cc
not_failed End h e = cc
not_failed Failed (inl (x, e')) e = cc
not_failed Failed (inr e') e = cc

pub not_has_failed : (took : Took) → (took ≡ Failed → ⊥) → has_failed took ≡ false
not_has_failed (Bytes n) h = refl
not_has_failed End h = refl
not_has_failed Failed h = absurd (h refl)

-- what the reader can still give is the same before and after its takes
same_some : (x y : List ℕ) → Some x ≡ Some y → x ≡ y
same_some x y e = cc

remaining_by : (ended ended' : Bool) (kept given before after : List ℕ) → before ≡ given ++ after → (ended ≡ true → (given ≡ []) × (ended' ≡ true)) → (ended ≡ false → ended' ≡ true → after ≡ [])
    → kept ++ cond ended [] before ≡ (kept ++ given) ++ cond ended' [] after
remaining_by true true kept given before after left none all = sym (ap (λ (l : List ℕ). (kept ++ l) ++ []) (none refl).0 ∙ append-nil (kept ++ []))
remaining_by true false kept given before after left none all = absurd (false≢true (none refl).1)
remaining_by false true kept given before after left none all =
    ap (λ (l : List ℕ). kept ++ l) (left ∙ ap (λ (l : List ℕ). given ++ l) (all refl refl)) ∙ sym (append_assoc kept given [])
remaining_by false false kept given before after left none all =
    ap (λ (l : List ℕ). kept ++ l) left ∙ sym (append_assoc kept given after)

-- the bytes that are left are shown before the takes and after them
pub record LeftShown (a b : Seen) (before after : List ℕ) : Type 0 where
  pub then : a.left ≡ Some before
  pub now : b.left ≡ Some after

pub remaining_same : (longest : ℕ) (old full : Reader) (pieces : List (List ℕ)) (failed : Bool) (a b : Seen) (before after : List ℕ) → LeftShown a b before after → Takes longest old full pieces failed a b
    → remaining old before ≡ remaining full after
remaining_same longest old full pieces failed a b before after shown t =
    let left : before ≡ concat pieces ++ after = same_some before (concat pieces ++ after) (sym shown.then ∙ (t.left ∙ ap (λ (o : Option (List ℕ)). option_map (λ rest. concat pieces ++ rest) o) shown.now)) in
    let all : old.ended ≡ false → full.ended ≡ true → after ≡ [] = λ e e'. subst (λ (o : Option (List ℕ)). IfSome o (λ bytes. bytes ≡ [])) shown.now (t.all_at_end e e') in
    remaining_by old.ended full.ended old.kept (concat pieces) before after left (λ e. (ap (λ (l : List (List ℕ)). concat l) (t.none_after_end e).0, (t.none_after_end e).1)) all
    ∙ ap (λ (l : List ℕ). l ++ cond full.ended [] after) (sym (ap (λ (r : Reader). r.kept) t.reader))
