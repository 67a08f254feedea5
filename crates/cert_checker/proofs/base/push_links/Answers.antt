use Rattle.std.proofs.Common.{◌≡◌, ◌<◌, ◌≤◌, ◌+◌, ◌++◌, pos, List, [], ◌∷◌, length, map, drop, drop_of_length-le, append-nil, get_or, sym, ap, ◌∙◌, refl, arith}
use Rattle.std.specs.List.{enumerate_from}
use Rattle.std.proofs.lemmas.List.{get_or_default}
use Rattle.net_model.specs.declared.part.Edge.{Edge}
use Rattle.net_model.specs.declared.part.Link.{Link}
use Rattle.cert_checker.specs.Tables.{base_of_link}
use Rattle.cert_checker.specs.declared.base.Base.{Base}
use Rattle.cert_checker.specs.declared.judgement.CertFault.TheVariants.{MissingLink}
use Rattle.cert_checker.proofs.ScanLemmas.{link_pushed}
use Rattle.cert_checker.proofs.base.push_links.Goals as goal

none : Link
none = record { from = record { 0 = 0 }; low = pos 0; high = pos 0; to = record { 0 = 0 } }

pub loop-index-preserved : goal.loop-index-preserved
unfolding none
loop-index-preserved c =
    let net = c.args.net.now in
    let i = c.loop-index.index in
    let link = c.link_numbered-link.result in
    let within : i < length net.links = omega (arith, c.loop-index-test.true, c.loop-index.auto.index-end, c.link_count-index-end.ensures) in
    let is : link ≡ get_or net.links i none = c.link_numbered-link.ensures.link ∙ get_or_default net.links i link none within in
    let edge : Edge = c.link_edge-edge.result in
    let one : Base = record { edge = edge; missing = MissingLink c.point_name.result.now } in
    let own : one ≡ base_of_link net (i, link) = λ j. record { edge = c.link_edge-edge.ensures j; missing = MissingLink (c.point_name.ensures j) } in
    let made : one ≡ base_of_link net (i, get_or net.links i none) = own ∙ ap (λ (l : Link). base_of_link net (i, l)) is in
    let pushed : c.push.new.self.items ≡ c.loop-index.base.items ++ base_of_link net (i, get_or net.links i none) ∷ [] = c.in_ok-push.ensures.items ∙ ap (λ (b : Base). c.loop-index.base.items ++ b ∷ []) made in
    ap (λ (items : List Base). items ++ map (base_of_link net) (enumerate_from (i + 1) (drop (i + 1) net.links))) pushed
    ∙ link_pushed net c.loop-index.base.items i (get_or net.links i none) none within refl
    ∙ c.loop-index.invariant

pub link_numbered-link-requires : goal.link_numbered-link-requires
link_numbered-link-requires c = omega (arith, c.loop-index-test.true, c.link_count-index-end.ensures)

pub point_name-requires : goal.point_name-requires
point_name-requires c = c.link_numbered-link.ensures.sound.to_point

pub returns : goal.returns
returns c =
    let items = c.loop-index.base.items in
    let numbered = λ (links : List Link). map (base_of_link c.args.net.now) (enumerate_from c.loop-index.index links) in
    let past : length c.args.net.now.links ≤ c.loop-index.index = omega (arith, c.loop-index-test.false, c.link_count-index-end.ensures) in
    sym (append-nil items) ∙ (ap (λ (links : List Link). items ++ numbered links) (sym (drop_of_length-le c.args.net.now.links past)) ∙ c.loop-index.invariant)
