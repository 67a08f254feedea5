use Rattle.std.proofs.Common.{◌≡◌, List, Some, None, position, get_or, sym, ap, ◌∙◌, subst}
use Rattle.std.specs.List.{All}
use Rattle.std.proofs.lemmas.Option.{get_or_from_slice_get}
use Rattle.cert_checker.specs.Least.{IsSmallEdge}
use Rattle.cert_checker.specs.Tables.{base_of, is_missing}
use Rattle.cert_checker.specs.Walk.{refusal}
use Rattle.cert_checker.specs.declared.base.Base.{Base}
use Rattle.cert_checker.proofs.ScanLemmas.{base_small}
use Rattle.cert_checker.proofs.TableRefusalLemmas.{first_holds, none_holds}
use Rattle.cert_checker.proofs.table.ProofTable.has_base.Goals as goal

pub missing-requires-after_bounds : goal.missing-requires-after_bounds
missing-requires-after_bounds g c κs within =
    let net = c.args.self.now.net in
    let base : c.as_slice.result.now ≡ base_of net = c.as_slice.ensures.value ∙ (c.in_ok-base.ensures ∙ ap base_of c.net.ensures.net) in
    subst (All (λ (b : Base). IsSmallEdge net b.edge)) (sym base) (base_small net c.net.ensures.sound)

pub returns-in-None : goal.returns-in-None
returns-in-None g c =
    let net = c.args.self.now.net in
    let edges = c.args.self.now.edges in
    let base : c.as_slice.result.now ≡ base_of net = c.as_slice.ensures.value ∙ (c.in_ok-base.ensures ∙ ap base_of c.net.ensures.net) in
    let found : position (is_missing edges) (base_of net) ≡ None = sym (ap (position (is_missing edges)) base) ∙ (sym c.missing.ensures ∙ c.in-None.is) in
    none_holds (is_missing edges) (base_of net) found

pub returns : goal.returns
returns g c =
    let net = c.args.self.now.net in
    let edges = c.args.self.now.edges in
    let place = c.in-Some.place in
    let items : c.in_ok-base.base.items ≡ base_of net = c.in_ok-base.ensures ∙ ap base_of c.net.ensures.net in
    let base : c.as_slice.result.now ≡ base_of net = c.as_slice.ensures.value ∙ items in
    let found : position (is_missing edges) (base_of net) ≡ Some place = sym (ap (position (is_missing edges)) base) ∙ (sym c.missing.ensures ∙ c.in-Some.is) in
    let (item, first) = first_holds (is_missing edges) (base_of net) place found in
    let here : c.index.result.now ≡ item = c.index.ensures ∙ (ap (λ (all : List Base). get_or all place c.index.result.now) items ∙ get_or_from_slice_get (base_of net) place item c.index.result.now first.here) in
    record { place = place; base = item; is = ap (λ (b : Base). refusal 0 b.missing) here; at = first }
