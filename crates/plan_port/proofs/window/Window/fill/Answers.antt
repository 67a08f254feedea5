use Rattle.std.proofs.Common.{◌≡◌, ◌-◌, ◌+◌, ◌≤◌, ◌++◌, ℕ, List, length, take, drop, sym, ap, ◌∙◌, arith, length-take, length-drop}
use Rattle.std.specs.List.{position_or_len, slice_range}
use Rattle.std.proofs.lemmas.List.{append-nil}
use Rattle.plan_port.specs.ReaderSteps.{ends_line}
use Rattle.plan_port.specs.WindowContents.{WindowContents}
use Rattle.plan_port.proofs.Windows.{lent, below, grown, gives_nothing, empty_range}
use Rattle.plan_port.proofs.window.Window.fill.Goals as goal

pub invariant_of-self : goal.invariant_of-self
invariant_of-self g c =
    let w = c.self.inside in
    let d = c.deref_mut.result.now in
    let into = c.take-took.new.into in
    let fits : length into ≡ length d - w.end = omega (arith, c.take-took.auto.into, length-take (length d - w.end) (drop w.end d), length-drop w.end d) in
    let len : w.bytes.len ≡ length w.bytes.items = omega arith in
    let inside : w.end ≤ w.bytes.len = omega arith in
    let count : w.end + c.in-Bytes.count ≤ w.bytes.len = omega (arith, c.in-Bytes.ensures.once.within) in
    let whole = lent w.bytes.items d into w.bytes.len w.end c.deref_mut.ensures.value len inside fits in
    let same = below w.bytes.items into w.start w.searched w.end (length d - w.end) (omega arith) (omega arith) in (
      omega arith,
      omega arith,
      omega arith,
      omega arith,
      omega arith,
      count,
      ap (λ (l : List ℕ). position_or_len ends_line (slice_range l w.start w.searched)) whole ∙ ap (λ (l : List ℕ). position_or_len ends_line l) same ∙ c.self.invariant.6,
    )

pub invariant_of-self-in_default : goal.invariant_of-self-in_default
invariant_of-self-in_default g c =
    let w = c.self.inside in
    let d = c.deref_mut.result.now in
    let into = c.take-took.new.into in
    let fits : length into ≡ length d - w.end = omega (arith, c.take-took.auto.into, length-take (length d - w.end) (drop w.end d), length-drop w.end d) in
    let len : w.bytes.len ≡ length w.bytes.items = omega arith in
    let inside : w.end ≤ w.bytes.len = omega arith in
    let whole = lent w.bytes.items d into w.bytes.len w.end c.deref_mut.ensures.value len inside fits in
    let same = below w.bytes.items into w.start w.searched w.end (length d - w.end) (omega arith) (omega arith) in (
      omega arith,
      omega arith,
      omega arith,
      omega arith,
      omega arith,
      omega arith,
      ap (λ (l : List ℕ). position_or_len ends_line (slice_range l w.start w.searched)) whole ∙ ap (λ (l : List ℕ). position_or_len ends_line l) same ∙ c.self.invariant.6,
    )

pub returns-in-Bytes-clause-took : goal.returns-in-Bytes-clause-took
returns-in-Bytes-clause-took g c =
    let w = c.self.inside in
    let d = c.deref_mut.result.now in
    let into = c.take-took.new.into in
    let n = c.in-Bytes.count in
    let fits : length into ≡ length d - w.end = omega (arith, c.take-took.auto.into, length-take (length d - w.end) (drop w.end d), length-drop w.end d) in
    let len : w.bytes.len ≡ length w.bytes.items = omega arith in
    let inside : w.end ≤ w.bytes.len = omega arith in
    let whole = lent w.bytes.items d into w.bytes.len w.end c.deref_mut.ensures.value len inside fits in
    let kept = ap (λ (h : WindowContents). h.kept) c.self.view_is in (
      into,
      c.in-Bytes.ensures.once,
      ap (λ (l : List ℕ). slice_range l w.start (w.end + n)) whole
          ∙ grown w.bytes.items into w.start w.end (length d - w.end) n (omega arith) (omega arith) c.in-Bytes.ensures.once.within.1
          ∙ ap (λ (l : List ℕ). l ++ take n into) kept,
    )

pub returns-in_default-clause-took : goal.returns-in_default-clause-took
returns-in_default-clause-took g c =
    let w = c.self.inside in
    let d = c.deref_mut.result.now in
    let into = c.take-took.new.into in
    let fits : length into ≡ length d - w.end = omega (arith, c.take-took.auto.into, length-take (length d - w.end) (drop w.end d), length-drop w.end d) in
    let len : w.bytes.len ≡ length w.bytes.items = omega arith in
    let inside : w.end ≤ w.bytes.len = omega arith in
    let whole = lent w.bytes.items d into w.bytes.len w.end c.deref_mut.ensures.value len inside fits in
    let same = below w.bytes.items into w.start w.end w.end (length d - w.end) (omega arith) (omega arith) in
    let none = gives_nothing c.take-took.result into c.in_default.not-Bytes in
    let kept = ap (λ (h : WindowContents). h.kept) c.self.view_is in (
      into,
      c.take-took.ensures.once,
      ap (λ (l : List ℕ). slice_range l w.start w.end) whole ∙ same ∙ kept ∙ sym (append-nil _) ∙ ap (λ (l : List ℕ). c.args.self.now.kept ++ l) (sym none),
    )

pub returns-in_default-clause-text : goal.returns-in_default-clause-text
returns-in_default-clause-text g c =
    λ none.
    let w = c.self.inside in
    empty_range w.bytes.items _ w.text_start w.text_end (omega arith) (omega arith) (ap (λ (h : WindowContents). h.text) c.self.view_is ∙ none)
