-- Accepted edits: what they make of a network, what derivations that follow them come to, and how a session stands then.
use Rattle.std.proofs.Common.{◌≡◌, ℕ, ◌+◌, ◌<◌, List, [], ◌∷◌, ◌++◌, length, get_or, take, drop, map, Option, Some, None, Result, Ok, Err, inl, refl, sym, ap, ◌∙◌, subst, append_assoc}
use Rattle.std.proofs.lemmas.List.{map_push, take-append-drop, take_more}
use Rattle.net_model.specs.EditedNetwork.{edited}
use Rattle.net_model.specs.Network.{Plan, IsPlan}
use Rattle.net_model.specs.ShownForm.{shown_form}
use Rattle.net_model.specs.declared.edit.Edit.{Edit}
use Rattle.net_model.specs.declared.edit.EditFault.{EditFault}
use Rattle.strategy_model.specs.Control.{IsControllable}
use Rattle.dispatch_net.specs.Dispatchable.{DispatchLists}
use Rattle.edit_script.specs.declared.step.Step.TheVariants as step
use Rattle.dispatch_net.specs.OfClosure.{IsDispatchOfClosure}
use Rattle.plan_session.specs.Sessions.{State, Accepts, IsOpenedOn}
use Rattle.plan_session.specs.declared.answers.Report.{Report}
use Rattle.session_command.specs.EditHistory.{IsDispatchedByClosure}
use Rattle.session_command.specs.Followed.{EditsMake, FollowsEdits, HasFollowed, IsReport}
use Rattle.session_command.specs.SessionAnswers.{table_text, ok_line, refused_line}
use Rattle.session_command.specs.Sessions.{net_of, SaysEdit, SaysTable, StandsAfterEdit, StandsAfter}
use Rattle.session_command.specs.Standing.{Standing}

-- ---- what edits make of a network
-- one more edit after others
pub make_more : (edits : List Edit) (first net next : Plan) (edit : Edit) → EditsMake first edits net → edited net edit ≡ Ok next → EditsMake first (edits ++ edit ∷ []) next
make_more [] first net next edit same made = (next, subst (λ (n : Plan). edited n edit ≡ Ok next) (sym same) made, refl)
make_more (one ∷ edits) first net next edit (after, is, makes) made = (after, is, make_more edits after net next edit makes made)

-- what edits and others make: the others make it of what the first make
pub record MakesBoth (first made : Plan) (edits others : List Edit) : Type 0 where
  pub net : Plan
  pub before : EditsMake first edits net
  pub after : EditsMake net others made

pub make_both : (edits others : List Edit) (first made : Plan) → EditsMake first (edits ++ others) made → MakesBoth first made edits others
make_both [] others first made makes = record { net = first; before = refl; after = makes }
make_both (edit ∷ edits) others first made (next, is, makes) =
    let both = make_both edits others next made makes in
    record { net = both.net; before = (next, is, both.before); after = both.after }

-- it is one
pub make_one : (edits : List Edit) (first a b : Plan) → EditsMake first edits a → EditsMake first edits b → a ≡ b
make_one [] first a b one other = sym one ∙ other
make_one (edit ∷ edits) first a b (next, is, one) (also, so, other) =
    let same : next ≡ also = cc (sym is ∙ so) in
    make_one edits also a b (subst (λ (n : Plan). EditsMake n edits a) same one) other

-- ---- derivations that follow edits
follows_make : (edits : List Edit) (before after : State) (report last : Option Report) → FollowsEdits before report edits after last → EditsMake before.net edits after.net
follows_make [] before after report last follows = ap (λ (s : State). s.net) follows.0
follows_make (edit ∷ edits) before after report last (next, now, accepts, follows) =
    let net : next.net ≡ accepts.net = ap (λ (s : State). s.net) accepts.is in
    (accepts.net, accepts.made, subst (λ (n : Plan). EditsMake n edits after.net) net (follows_make edits next after (Some now) last follows))

followed_make : (first : Plan) (edits : List Edit) (session : State) (report : Option Report) → HasFollowed first edits session report → EditsMake first edits session.net
followed_make first edits session report has =
    subst (λ (n : Plan). EditsMake n edits session.net) (ap (λ (s : State). s.net) has.opens.2) (follows_make edits has.opened session None report has.follows)

follows_more : (edits : List Edit) (before after next : State) (report last : Option Report) (edit : Edit) (now : Report) → FollowsEdits before report edits after last → Accepts after edit now next
    → FollowsEdits before report (edits ++ edit ∷ []) next (Some now)
follows_more [] before after next report last edit now follows accepts =
    (next, now, subst (λ (s : State). Accepts s edit now next) (sym follows.0) accepts, (refl, refl))
follows_more (one ∷ edits) before after next report last edit now (there, was, first, follows) accepts =
    (there, was, first, follows_more edits there after next (Some was) last edit now follows accepts)

pub followed_more : (first : Plan) (edits : List Edit) (session next : State) (report : Option Report) (edit : Edit) (now : Report) → HasFollowed first edits session report → Accepts session edit now next
    → HasFollowed first (edits ++ edit ∷ []) next (Some now)
followed_more first edits session next report edit now has accepts =
    record { opened = has.opened; opens = has.opens; follows = follows_more edits has.opened session next None report edit now has.follows accepts }

-- of edits that make something the next is accepted by a session that has followed those before it
pub next_is_accepted : (first made : Plan) (edits : List Edit) (session : State) (report : Option Report) (edit : Edit) → HasFollowed first edits session report → EditsMake first (edits ++ edit ∷ []) made
    → (net : Plan) × (edited session.net edit ≡ Ok net)
next_is_accepted first made edits session report edit has makes =
    let both = make_both edits (edit ∷ []) first made makes in
    let same : both.net ≡ session.net = make_one edits first both.net session.net both.before (followed_make first edits session report has) in
    (both.after.0, subst (λ (n : Plan). edited n edit ≡ Ok both.after.0) same both.after.1)

-- the report of a session that has followed them
pub is_report : (first : Plan) (edits : List Edit) (session : State) (report : Option Report) → HasFollowed first edits session report → IsReport first edits report
is_report first [] session report has = sym has.follows.1
is_report first (edit ∷ edits) session report has = (session, has)

-- before any edit, where what is kept of edits is an empty list
pub none_followed : {A : Type 0} (edit_of : A → Edit) (items : List A) (first net : Plan) (session : State) → first ≡ net → items ≡ [] → IsOpenedOn net session → HasFollowed first (map edit_of items) session None
none_followed edit_of items first net session same none opened =
    subst (λ (n : Plan). HasFollowed n (map edit_of items) session None) (sym same)
    (subst (λ (edits : List Edit). HasFollowed net edits session None) (sym (ap (map edit_of) none)) (record { opened = session; opens = opened; follows = (refl, refl) }))

-- what is kept of one more edit
pub kept_more : {A : Type 0} (edit_of : A → Edit) (items more : List A) (item : A) (edit : Edit) → more ≡ items ++ item ∷ [] → edit_of item ≡ edit → map edit_of more ≡ map edit_of items ++ edit ∷ []
kept_more edit_of items more item edit grown is = ap (map edit_of) grown ∙ (map_push edit_of items item ∙ ap (λ (e : Edit). map edit_of items ++ e ∷ []) is)

-- so a session that has followed one more has followed what is kept then
pub followed_kept : {A : Type 0} (edit_of : A → Edit) (items more : List A) (item : A) (first : Plan) (edit : Edit) (before after : State) (report : Option Report) (now : Report) → more ≡ items ++ item ∷ [] → edit_of item ≡ edit
    → HasFollowed first (map edit_of items) before report → Accepts before edit now after → HasFollowed first (map edit_of more) after (Some now)
followed_kept edit_of items more item first edit before after report now grown is has accepts =
    subst (λ (edits : List Edit). HasFollowed first edits after (Some now)) (sym (kept_more edit_of items more item edit grown is))
    (followed_more first (map edit_of items) before after report edit now has accepts)

-- of edits that follow others and make something, those up to one more make something
pub next_makes : (first made : Plan) (before edits : List Edit) (index : ℕ) (edit : Edit) → index < length edits → edit ≡ get_or edits index edit → EditsMake first (before ++ edits) made
    → (net : Plan) × EditsMake first ((before ++ take index edits) ++ edit ∷ []) net
next_makes first made before edits index edit within is makes =
    let head : take (index + 1) edits ≡ take index edits ++ edit ∷ [] = take_more edits index edit within ∙ ap (λ (e : Edit). take index edits ++ e ∷ []) (sym is) in
    let whole : before ++ edits ≡ (before ++ take (index + 1) edits) ++ drop (index + 1) edits =
    ap (λ (es : List Edit). before ++ es) (sym (take-append-drop (index + 1) edits)) ∙ sym (append_assoc before (take (index + 1) edits) (drop (index + 1) edits)) in
    let both = make_both (before ++ take (index + 1) edits) (drop (index + 1) edits) first made (subst (λ (es : List Edit). EditsMake first es made) whole makes) in
    let same : before ++ take (index + 1) edits ≡ (before ++ take index edits) ++ edit ∷ [] =
    ap (λ (es : List Edit). before ++ es) head ∙ sym (append_assoc before (take index edits) (edit ∷ [])) in
    (both.net, subst (λ (es : List Edit). EditsMake first es both.net) same both.before)

pub taken_more : (before edits after : List Edit) (index : ℕ) (edit : Edit) → index < length edits → edit ≡ get_or edits index edit → after ≡ (before ++ take index edits) ++ edit ∷ [] → after ≡ before ++ take (index + 1) edits
taken_more before edits after index edit within is grown =
    let head : take (index + 1) edits ≡ take index edits ++ edit ∷ [] = take_more edits index edit within ∙ ap (λ (e : Edit). take index edits ++ e ∷ []) (sym is) in
    grown ∙ (append_assoc before (take index edits) (edit ∷ []) ∙ ap (λ (es : List Edit). before ++ es) (sym head))

-- ---- what is put, and how a session stands then
-- what is put of an edit that is accepted, and of one that is refused
pub accepted_says : (net new : Plan) (edit : Edit) (put : List ℕ) → edited net edit ≡ Ok new → put ≡ ok_line → SaysEdit net (edited net edit) put
accepted_says net new edit put made puts = subst (λ (r : Result Plan EditFault). SaysEdit net r put) (sym made) puts

pub refused_says : (net : Plan) (edit : Edit) (cause : EditFault) (put : List ℕ) → edited net edit ≡ Err cause → put ≡ refused_line net cause → SaysEdit net (edited net edit) put
refused_says net edit cause put refused puts = subst (λ (r : Result Plan EditFault). SaysEdit net r put) (sym refused) puts

-- after an edit that is accepted, and after one that is refused
pub accepted_stands : (standing after : Standing) (edit : Edit) (net : Plan) → edited (net_of standing) edit ≡ Ok net → IsPlan net
    → after ≡ record { first = standing.first; edits = standing.edits ++ edit ∷ []; net = net } → StandsAfter standing (step.Edit edit) after
accepted_stands standing after edit net made plan is = subst (λ (r : Result Plan EditFault). StandsAfterEdit standing edit r after) (sym made) (record { is = is; plan = plan })

pub refused_stands : (standing : Standing) (edit : Edit) (cause : EditFault) → edited (net_of standing) edit ≡ Err cause → StandsAfter standing (step.Edit edit) standing
refused_stands standing edit cause refused = subst (λ (r : Result Plan EditFault). StandsAfterEdit standing edit r standing) (sym refused) refl

-- the table that is put
pub table_said : (net shown : Plan) (dispatch : DispatchLists) (put : List ℕ) → IsDispatchedByClosure net (Some (shown, dispatch)) → put ≡ table_text shown dispatch.kept → SaysTable net put
table_said net shown dispatch put (controls, same, is) puts =
    let by : IsDispatchOfClosure (shown_form net) dispatch = subst (λ (n : Plan). IsDispatchOfClosure n dispatch) same is in
    inl (controls, (by.table, by.closure, puts ∙ (ap (λ (n : Plan). table_text n dispatch.kept) same ∙ ap (table_text (shown_form net)) (by.by.kept ∙ by.by.made))))
