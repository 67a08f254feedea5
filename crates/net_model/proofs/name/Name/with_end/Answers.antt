use Rattle.std.proofs.Common.{◌≡◌, ◌∙◌, ◌≤◌, ◌+◌, ◌-◌, ◌++◌, ℕ, List, length, take, sym, ap, subst, arith, IsTrue}
use Rattle.std.proofs.lemmas.List.{length-take-le}
use Rattle.net_model.specs.Names.{is_name}
use Rattle.net_model.proofs.NameLemmas.{prefix, written_is}
use Rattle.net_model.proofs.name.Name.with_end.Goals as goal

pub invariant_of-result : goal.invariant_of-result
invariant_of-result c =
    let len = c.self.inside.len in
    let bytes = c.self.inside.bytes in
    let end = c.args.end.now in
    let text : List ℕ = take len bytes in
    let same : c.copy_from_slice.new.self ≡ end = c.copy_from_slice.ensures.after in
    let at : c.from-len.result ≡ len = c.from-len.ensures in
    let counted : len ≡ length text = sym (length-take-le len bytes (omega (arith, c.self.invariant.0, c.self.invariant.1))) in
    let named : IsTrue (is_name (text ++ end)) = subst (λ (name : List ℕ). IsTrue (is_name (name ++ end))) (sym c.self.view_is) c.requires.named in
    let fits : length text + length end ≤ 32 = subst (λ (name : List ℕ). length name + length end ≤ 32) (sym c.self.view_is) c.requires.fits in
    rw (same, at) (written_is bytes text end len (len + length end - len) c.self.invariant.2 counted (omega arith) (omega (arith, counted, fits)) named)

pub returns : goal.returns
returns c =
    let len = c.self.inside.len in
    let bytes = c.self.inside.bytes in
    let end = c.args.end.now in
    let text : List ℕ = take len bytes in
    let same : c.copy_from_slice.new.self ≡ end = c.copy_from_slice.ensures.after in
    let at : c.from-len.result ≡ len = c.from-len.ensures in
    let counted : len ≡ length text = sym (length-take-le len bytes (omega (arith, c.self.invariant.0, c.self.invariant.1))) in
    let fits : length text + length end ≤ 32 = subst (λ (name : List ℕ). length name + length end ≤ 32) (sym c.self.view_is) c.requires.fits in
    rw (same, at) (prefix bytes text end len (len + length end - len) c.self.invariant.2 counted (omega arith) (omega (arith, counted, fits)) ∙ ap (λ (name : List ℕ). name ++ end) c.self.view_is)
