-- What is read of a line is what its words state, and the fault that is answered is its first.
use Rattle.std.proofs.Common.{◌≡◌, ℕ, ◌≤◌, Bool, true, false, cond, List, [], ◌∷◌, Option, None, Some, Result, Ok, Err, refl, sym, ap, ◌∙◌, subst, arith, inl, inr, IsTrue, codes, nat_lt}
use Rattle.std.specs.Str.{bytes_eq}
use Rattle.std.specs.Fmt.{decimal}
use Rattle.std.proofs.lemmas.Bool.{ltb-true, ltb-false}
use Rattle.texts.specs.Words.{is_remark, are_passed_over}
use Rattle.net_model.specs.Names.{is_name}
use Rattle.net_model.specs.Numbers.{is_zero, is_positive, spells_natural, value_of, limited, name_of, natural_of}
use Rattle.net_model.specs.Network.{Plan, point_named}
use Rattle.net_model.specs.declared.ids.PointId.{PointId}
use Rattle.net_model.specs.declared.format.FormatKind.{FormatKind}
use Rattle.net_model.specs.declared.format.FormatKind.TheVariants.{UnknownWord, WordCount, BadNumber, NumberLimit, UnknownName}
use Rattle.net_model.proofs.ReadWordLemmas.{choice, bind_ok, bind_err, name_ok, name_err, name_read, word_is}
use Rattle.net_model.proofs.DecimalSpellingLemmas.{natural_spelled, spelled_natural}
use Rattle.net_model.specs.Limits.{most_moment}
use Rattle.event_stream.specs.EventText.{EventLine, blank, completed, done, NamesPoint, NamePoints, AreWordsOfEventLine, FitsMoment, MisfitsMoment, MisfitsPoint, FirstMisfitsPoint, IsFaultAfterAt, BeginsOtherwise}
use Rattle.event_stream.specs.EventText.{IsEventFaultOfWords, unknown_word, after_at, after_done}
use Rattle.event_stream.specs.EventLines.{known, point_of, points_by_names, completions_line, done_line, event_line_by_word, event_line}

-- a point that is known, or not
known_ok : (found : Option PointId) (point : PointId) → known found ≡ Ok point → found ≡ Some point
known_ok None point read = absurd (cc)
known_ok (Some p) point read = let same : p ≡ point = cc in ap (λ (q : PointId). Some q) same

known_err : (found : Option PointId) (kind : FormatKind) → known found ≡ Err kind → (found ≡ None) × (kind ≡ UnknownName)
known_err None kind read = (refl, cc)
known_err (Some p) kind read = absurd (cc)

named_ok : (net : Plan) (word : List ℕ) (point : PointId) → point_of net word ≡ Ok point → NamesPoint net word point
named_ok net word point read =
    let parts = bind_ok (name_of word) (λ name. known (point_named net name)) point read in
    let name = name_ok word parts.0 parts.1 in
    let found : point_named net parts.0 ≡ Some point = known_ok (point_named net parts.0) point parts.2 in
    (subst (λ (w : List ℕ). IsTrue (is_name w)) (sym name.0) name.1, ap (point_named net) name.0 ∙ found)

named_read : (net : Plan) (word : List ℕ) (point : PointId) → NamesPoint net word point → point_of net word ≡ Ok point
named_read net word point is = rw (name_read word is.0, is.1) refl

misfit_err : (net : Plan) (word : List ℕ) (kind : FormatKind) → point_of net word ≡ Err kind → MisfitsPoint net word kind
misfit_err net word kind read =
    elim (bind_err (name_of word) (λ name. known (point_named net name)) kind read) [
      | inl bad ↦ inl (name_err word kind bad)
      | inr unknown ↦
          let name = name_ok word unknown.0 unknown.1 in
          let none = known_err (point_named net unknown.0) kind unknown.2 in
          inr (subst (λ (w : List ℕ). IsTrue (is_name w)) (sym name.0) name.1, ap (point_named net) name.0 ∙ none.0, none.1)
    ]

misfit_read : (net : Plan) (word : List ℕ) (kind : FormatKind) → MisfitsPoint net word kind → point_of net word ≡ Err kind
misfit_read net word kind (inl bad) = rw (bad.0, bad.1) refl
misfit_read net word kind (inr unknown) = rw (name_read word unknown.0, unknown.1, unknown.2) refl

pub points_ok : (net : Plan) (words : List (List ℕ)) (points : List PointId) → points_by_names net words ≡ Ok points → NamePoints net words points
points_ok net [] [] read = tt
points_ok net [] (p ∷ ps) read = absurd (cc)
points_ok net (word ∷ words) points read =
    let here = bind_ok (point_of net word) _ points read in
    let later = bind_ok (points_by_names net words) _ points here.2 in
    let same : here.0 ∷ later.0 ≡ points = (let last : Ok (here.0 ∷ later.0) ≡ Ok points = later.2 in cc) in
    subst (λ (ps : List PointId). NamePoints net (word ∷ words) ps) same (named_ok net word here.0 here.1, points_ok net words later.0 later.1)

points_read : (net : Plan) (words : List (List ℕ)) (points : List PointId) → NamePoints net words points → points_by_names net words ≡ Ok points
points_read net [] [] is = refl
points_read net [] (p ∷ ps) is = absurd is
points_read net (word ∷ words) [] is = absurd is
points_read net (word ∷ words) (p ∷ ps) is = rw (named_read net word p is.0, points_read net words ps is.1) refl

misfits_err : (net : Plan) (words : List (List ℕ)) (kind : FormatKind) → points_by_names net words ≡ Err kind → FirstMisfitsPoint net words kind
misfits_err net [] kind read = absurd (cc)
misfits_err net (word ∷ words) kind read =
    elim (bind_err (point_of net word) _ kind read) [
      | inl here ↦ inl (misfit_err net word kind here)
      | inr further ↦ elim (bind_err (points_by_names net words) _ kind further.2) [
        | inl later ↦ inr (further.0, named_ok net word further.0 further.1, misfits_err net words kind later)
        | inr all ↦ absurd (let wrong : Ok (further.0 ∷ all.0) ≡ Err kind = all.2 in cc)
      ]
    ]

misfits_read : (net : Plan) (words : List (List ℕ)) (kind : FormatKind) → FirstMisfitsPoint net words kind → points_by_names net words ≡ Err kind
misfits_read net [] kind is = absurd is
misfits_read net (word ∷ words) kind (inl here) = rw (misfit_read net word kind here) refl
misfits_read net (word ∷ words) kind (inr later) = rw (named_read net word later.0 later.1, misfits_read net words kind later.2) refl

-- what a word in the place of a moment is, by the answer to it
abbrev IsJudged : List ℕ → Result ℕ FormatKind → Type 0
IsJudged word (Ok moment) = FitsMoment word
IsJudged word (Err kind) = MisfitsMoment word kind

judged_limit : (word : List ℕ) (beyond : Bool) → spells_natural word ≡ true → nat_lt most_moment (value_of word) ≡ beyond → IsJudged word (cond beyond (Err NumberLimit) (Ok (value_of word)))
judged_limit word true spells is = inr (spells, ltb-true most_moment (value_of word) is, refl)
judged_limit word false spells is = (spells, ltb-false most_moment (value_of word) is)

zero_fits : (word : List ℕ) → is_zero word ≡ true → FitsMoment word
zero_fits word nil =
    let size : value_of word ≡ 0 = ap value_of (word_is word (codes "0") nil) in
    (rw nil refl, omega arith)

judged_by : (word : List ℕ) (none positive : Bool) → is_zero word ≡ none → is_positive word ≡ positive → IsJudged word (cond none (Ok 0) (cond positive (limited most_moment (value_of word) (value_of word)) (Err BadNumber)))
judged_by word true positive nil is = zero_fits word nil
judged_by word false true nil is = judged_limit word (nat_lt most_moment (value_of word)) (rw (nil, is) refl) refl
judged_by word false false nil is = inl (rw (nil, is) refl, refl)

judged : (word : List ℕ) → IsJudged word (natural_of most_moment word)
unfolding natural_of
judged word = judged_by word (is_zero word) (is_positive word) refl refl

moment_ok : (word : List ℕ) (moment : ℕ) → natural_of most_moment word ≡ Ok moment → FitsMoment word
moment_ok word moment read = subst (IsJudged word) read (judged word)

moment_err : (word : List ℕ) (kind : FormatKind) → natural_of most_moment word ≡ Err kind → MisfitsMoment word kind
moment_err word kind read = subst (IsJudged word) read (judged word)

fits_or_not : (word : List ℕ) (kind : FormatKind) → FitsMoment word → MisfitsMoment word kind → ⊥
fits_or_not word kind fits (inl bad) = let some = fits.0 in let none = bad.0 in absurd (cc)
fits_or_not word kind fits (inr beyond) = absurd (omega (arith, fits.1, beyond.1))

misfit_one : (word : List ℕ) (a b : FormatKind) → MisfitsMoment word a → MisfitsMoment word b → a ≡ b
misfit_one word a b (inl x) (inl y) = x.1 ∙ sym y.1
misfit_one word a b (inl x) (inr y) = absurd (let none = x.0 in let some = y.0 in cc)
misfit_one word a b (inr x) (inl y) = absurd (let some = x.0 in let none = y.0 in cc)
misfit_one word a b (inr x) (inr y) = x.2 ∙ sym y.2

fits_by : (word : List ℕ) (answer : Result ℕ FormatKind) → natural_of most_moment word ≡ answer → FitsMoment word → (moment : ℕ) × (natural_of most_moment word ≡ Ok moment)
fits_by word (Ok moment) is fits = (moment, is)
fits_by word (Err kind) is fits = absurd (fits_or_not word kind fits (moment_err word kind is))

misfits_by : (word : List ℕ) (kind : FormatKind) (answer : Result ℕ FormatKind) → natural_of most_moment word ≡ answer → MisfitsMoment word kind → natural_of most_moment word ≡ Err kind
misfits_by word kind (Ok moment) is misfits = absurd (fits_or_not word kind (moment_ok word moment is) misfits)
misfits_by word kind (Err k) is misfits = is ∙ ap (λ (e : FormatKind). Err e) (misfit_one word k kind (moment_err word k is) misfits)

-- what follows `at`
at_ok : (net : Plan) (others : List (List ℕ)) (stated : EventLine) → completions_line net others ≡ Ok stated → AreWordsOfEventLine net stated (codes "at" ∷ others)
at_ok net [] stated read = absurd (cc)
at_ok net (word ∷ names) stated read =
    let here = bind_ok (natural_of most_moment word) _ stated read in
    let later = bind_ok (points_by_names net names) _ stated here.2 in
    let same : completed here.0 later.0 ≡ stated = (let last : Ok (completed here.0 later.0) ≡ Ok stated = later.2 in cc) in
    let spelling = spelled_natural most_moment here.0 word here.1 (omega arith) in
    subst (λ (t : EventLine). AreWordsOfEventLine net t (codes "at" ∷ word ∷ names)) same (record {
      names = names;
      spelled = ap (λ (w : List ℕ). codes "at" ∷ w ∷ names) spelling.0;
      within = spelling.1;
      named = points_ok net names later.0 later.1;
    })

at_err : (net : Plan) (others : List (List ℕ)) (kind : FormatKind) → completions_line net others ≡ Err kind → IsFaultAfterAt net others kind
at_err net [] kind read = cc
at_err net (word ∷ names) kind read =
    elim (bind_err (natural_of most_moment word) _ kind read) [
      | inl here ↦ inl (moment_err word kind here)
      | inr further ↦ elim (bind_err (points_by_names net names) _ kind further.2) [
        | inl later ↦ inr (moment_ok word further.0 further.1, misfits_err net names kind later)
        | inr all ↦ absurd (let wrong : Ok (completed further.0 all.0) ≡ Err kind = all.2 in cc)
      ]
    ]

fault_at : (net : Plan) (others : List (List ℕ)) (kind : FormatKind) → IsFaultAfterAt net others kind → completions_line net others ≡ Err kind
fault_at net [] kind is = ap (λ (e : FormatKind). Err e) (sym is)
fault_at net (word ∷ names) kind (inl here) = rw (misfits_by word kind (natural_of most_moment word) refl here) refl
fault_at net (word ∷ names) kind (inr later) =
    let moment = fits_by word (natural_of most_moment word) refl later.0 in
    rw (moment.1, misfits_read net names kind later.1) refl

-- what follows `done`
done_ok : (net : Plan) (others : List (List ℕ)) (stated : EventLine) → done_line others ≡ Ok stated → AreWordsOfEventLine net stated (codes "done" ∷ others)
done_ok net [] stated read = let same : done ≡ stated = cc in subst (λ (t : EventLine). AreWordsOfEventLine net t (codes "done" ∷ [])) same refl
done_ok net (next ∷ others) stated read = absurd (cc)

done_err : (net : Plan) (others : List (List ℕ)) (kind : FormatKind) → done_line others ≡ Err kind → IsEventFaultOfWords net (codes "done" ∷ others) kind
done_err net [] kind read = absurd (cc)
done_err net (next ∷ others) kind read = after_done next others refl (cc)

-- a line by its first word
begins_otherwise : (first spelling : List ℕ) (others : List (List ℕ)) → bytes_eq first spelling ≡ false → bytes_eq spelling spelling ≡ true → BeginsOtherwise spelling (first ∷ others)
begins_otherwise first spelling others differs itself rest same =
    let first_is : first ≡ spelling = cc in
    let wrong : false ≡ true = sym differs ∙ (ap (λ (w : List ℕ). bytes_eq w spelling) first_is ∙ itself) in cc

line_ok : (net : Plan) (first : List ℕ) (others : List (List ℕ)) (stated : EventLine) → event_line_by_word net first others ≡ Ok stated → AreWordsOfEventLine net stated (first ∷ others)
line_ok net first others stated read =
    elim (choice (bytes_eq first (codes "at")) _ _ (Ok stated) read) [
      | inl at ↦ subst (λ (w : List ℕ). AreWordsOfEventLine net stated (w ∷ others)) (sym (word_is first (codes "at") at.0)) (at_ok net others stated at.1)
      | inr not_at ↦ elim (choice (bytes_eq first (codes "done")) _ _ (Ok stated) not_at.1) [
        | inl end ↦ subst (λ (w : List ℕ). AreWordsOfEventLine net stated (w ∷ others)) (sym (word_is first (codes "done") end.0)) (done_ok net others stated end.1)
        | inr unknown ↦ absurd (let wrong : Err UnknownWord ≡ Ok stated = unknown.1 in cc)
      ]
    ]

line_err : (net : Plan) (first : List ℕ) (others : List (List ℕ)) (kind : FormatKind) → is_remark first ≡ false → event_line_by_word net first others ≡ Err kind → IsEventFaultOfWords net (first ∷ others) kind
line_err net first others kind plain read =
    elim (choice (bytes_eq first (codes "at")) _ _ (Err kind) read) [
      | inl at ↦ after_at others (ap (λ (w : List ℕ). w ∷ others) (word_is first (codes "at") at.0)) (at_err net others kind at.1)
      | inr not_at ↦ elim (choice (bytes_eq first (codes "done")) _ _ (Err kind) not_at.1) [
        | inl end ↦ subst (λ (w : List ℕ). IsEventFaultOfWords net (w ∷ others) kind) (sym (word_is first (codes "done") end.0)) (done_err net others kind end.1)
        | inr unknown ↦ unknown_word plain (begins_otherwise first (codes "at") others not_at.0 refl) (begins_otherwise first (codes "done") others unknown.0 refl) (let same : Err UnknownWord ≡ Err kind = unknown.1 in cc)
      ]
    ]

-- what is read of a line is what its words state
pub event_ok : (net : Plan) (words : List (List ℕ)) (stated : EventLine) → event_line net words ≡ Ok stated → AreWordsOfEventLine net stated words
unfolding event_line
event_ok net [] stated read = let same : blank ≡ stated = cc in subst (λ (t : EventLine). AreWordsOfEventLine net t []) same refl
event_ok net (first ∷ others) stated read =
    elim (choice (is_remark first) (Ok blank) (event_line_by_word net first others) (Ok stated) read) [
      | inl remark ↦ let same : blank ≡ stated = (let last : Ok blank ≡ Ok stated = remark.1 in cc) in subst (λ (t : EventLine). AreWordsOfEventLine net t (first ∷ others)) same remark.0
      | inr other ↦ line_ok net first others stated other.1
    ]

-- the fault that is answered to a line is its first
pub event_err : (net : Plan) (words : List (List ℕ)) (kind : FormatKind) → event_line net words ≡ Err kind → IsEventFaultOfWords net words kind
unfolding event_line
event_err net [] kind read = absurd (cc)
event_err net (first ∷ others) kind read =
    elim (choice (is_remark first) (Ok blank) (event_line_by_word net first others) (Err kind) read) [
      | inl remark ↦ absurd (let wrong : Ok blank ≡ Err kind = remark.1 in cc)
      | inr other ↦ line_err net first others kind other.0 other.1
    ]

-- a line is read as what its words state
blank_read : (net : Plan) (words : List (List ℕ)) → are_passed_over words ≡ true → event_line net words ≡ Ok blank
unfolding event_line
blank_read net [] passed = refl
blank_read net (first ∷ others) passed = rw passed refl

completed_read : (net : Plan) (moment : ℕ) (points : List PointId) (names : List (List ℕ)) → moment ≤ most_moment → NamePoints net names points → event_line net (codes "at" ∷ decimal moment ∷ names) ≡ Ok (completed moment points)
unfolding event_line
completed_read net moment points names within named = rw (natural_spelled most_moment moment within (omega arith), points_read net names points named) refl

done_read : (net : Plan) → event_line net (codes "done" ∷ []) ≡ Ok done
unfolding event_line
done_read net = refl

pub stated_read : (net : Plan) (stated : EventLine) (words : List (List ℕ)) → AreWordsOfEventLine net stated words → event_line net words ≡ Ok stated
stated_read net blank words is = blank_read net words is
stated_read net (completed moment points) words is = ap (event_line net) is.spelled ∙ completed_read net moment points is.names is.within is.named
stated_read net done words is = ap (event_line net) is ∙ done_read net

-- a line is refused for its first fault
module _ (net : Plan) (first : List ℕ) (others : List (List ℕ)) (no_at : BeginsOtherwise (codes "at") (first ∷ others)) (no_done : BeginsOtherwise (codes "done") (first ∷ others)) where
  other_by : (at end : Bool) → bytes_eq first (codes "at") ≡ at → bytes_eq first (codes "done") ≡ end → event_line_by_word net first others ≡ Err UnknownWord
  other_by true end is_at is_done = absurd (no_at others (ap (λ (w : List ℕ). w ∷ others) (word_is first (codes "at") is_at)))
  other_by false true is_at is_done = absurd (no_done others (ap (λ (w : List ℕ). w ∷ others) (word_is first (codes "done") is_done)))
  other_by false false is_at is_done = rw (is_at, is_done) refl

  other_word : event_line_by_word net first others ≡ Err UnknownWord
  other_word = other_by (bytes_eq first (codes "at")) (bytes_eq first (codes "done")) refl refl

unknown_read : (net : Plan) (words : List (List ℕ)) → are_passed_over words ≡ false → BeginsOtherwise (codes "at") words → BeginsOtherwise (codes "done") words → event_line net words ≡ Err UnknownWord
unfolding event_line
unknown_read net [] filled no_at no_done = absurd (cc)
unknown_read net (first ∷ others) filled no_at no_done = rw (filled, other_word net first others no_at no_done) refl

at_read : (net : Plan) (others : List (List ℕ)) (kind : FormatKind) → completions_line net others ≡ Err kind → event_line net (codes "at" ∷ others) ≡ Err kind
unfolding event_line
at_read net others kind read = read

more_read : (net : Plan) (next : List ℕ) (others : List (List ℕ)) → event_line net (codes "done" ∷ next ∷ others) ≡ Err WordCount
unfolding event_line
more_read net next others = refl

pub fault_read : (net : Plan) (words : List (List ℕ)) (kind : FormatKind) → IsEventFaultOfWords net words kind → event_line net words ≡ Err kind
fault_read net words kind (unknown_word filled no_at no_done is) = unknown_read net words filled no_at no_done ∙ ap (λ (e : FormatKind). Err e) (sym is)
fault_read net words kind (after_at others split is) = ap (event_line net) split ∙ at_read net others kind (fault_at net others kind is)
fault_read net words kind (after_done next others split is) = ap (event_line net) split ∙ (more_read net next others ∙ ap (λ (e : FormatKind). Err e) (sym is))
