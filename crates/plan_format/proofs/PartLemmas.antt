-- The line of a part is read as that part, and no other line is.
use Rattle.std.proofs.Common.{◌≡◌, ◌≤◌, ℕ, ℤ, pos, true, List, [], ◌∷◌, Ok, Err, refl, sym, ap, ◌∙◌, subst, arith, inl, inr, codes}
use Rattle.std.specs.Str.{bytes_eq}
use Rattle.net_model.specs.LineReading.{read_by, read_as}
use Rattle.net_model.specs.Limits.{most_delay}
use Rattle.texts.specs.Words.{is_remark, are_passed_over}
use Rattle.net_model.specs.declared.format.FormatKind.TheVariants.{UnknownWord}
use Rattle.net_model.specs.declared.part.Part.{Part}
use Rattle.net_model.specs.declared.part.Part.TheVariants as part
use Rattle.net_model.proofs.LineLemmas.{stated_by, form_choice, number_read, number_within, delay_read}
use Rattle.net_model.proofs.ReadWordLemmas.{choice, name_read, short_name_read, word_is}
use Rattle.plan_format.specs.declared.plan_line.PlanLine.{PlanLine}
use Rattle.plan_format.specs.declared.plan_line.PlanLine.TheVariants as line
use Rattle.plan_format.specs.PlanForms.{form_of_delay, form_of_second, point_form, plan_bound_form, plan_link_form, plan_end_form, between_form, delay_form}
use Rattle.plan_format.specs.PlanLines.{plan_line, plan_line_by_word, plan_header_line}
use Rattle.plan_format.specs.PlanGrammar.{AreWordsOfPlanLine, AreDeclarable}
use Rattle.net_model.specs.NetworkParts.{IsDeclarable}
use Rattle.plan_format.specs.declared.version.PlanStage.{PlanStage}
use Rattle.plan_format.specs.declared.version.PlanStage.TheVariants.{Opened, PastDelay}
use Rattle.plan_format.specs.declared.version.PlanVersion.{PlanVersion}
use Rattle.plan_format.specs.declared.version.PlanVersion.TheVariants.{One, Two}
use Rattle.plan_format.specs.PlanParts.{version_number, version_word, part_words, between_words, delay_words, plan_header_words, end_words}

-- the line of a part is read as that part
pub spelled_read : (version : PlanVersion) (stage : PlanStage) (p : Part) → IsDeclarable p → plan_line version stage (part_words p) ≡ Ok (line.Part p)
unfolding plan_line
spelled_read version stage (part.Point name) spelled = rw (name_read name spelled) refl
spelled_read version stage (part.Bound name from to most) spelled =
    rw (name_read name spelled.0, name_read from spelled.1, name_read to spelled.2, number_read most spelled.3) refl
spelled_read version stage (part.Link from low high to) spelled =
    rw (name_read from spelled.0, number_read low spelled.1, number_read high spelled.2, name_read to spelled.3) refl

-- the line of two bounds is read as them, and the line of a delay if it may come
pub between_read : (stage : PlanStage) (name from : List ℕ) (low high : ℤ) (to : List ℕ) → AreDeclarable name from low high to → plan_line Two stage (between_words name from low high to) ≡ Ok (line.Between name from low high to)
unfolding plan_line
between_read stage name from low high to spelled =
    rw (short_name_read name spelled.0, name_read from spelled.1, number_read low spelled.2, number_read high spelled.3, name_read to spelled.4) refl

pub delay_line_read : (delay : ℕ) → delay ≤ most_delay → plan_line Two Opened (delay_words delay) ≡ Ok (line.Delay (pos delay))
unfolding plan_line
delay_line_read delay short = rw (delay_read delay short) refl

pub header_read : (version : PlanVersion) (stage : PlanStage) (said : PlanVersion) → plan_line version stage (plan_header_words said) ≡ Ok (line.Header (version_number said))
unfolding plan_line
header_read version stage One = refl
header_read version stage Two = refl

pub end_read : (version : PlanVersion) (stage : PlanStage) → plan_line version stage end_words ≡ Ok line.End
unfolding plan_line
end_read version stage = refl

pub blank_read : (version : PlanVersion) (stage : PlanStage) (words : List (List ℕ)) → are_passed_over words ≡ true → plan_line version stage words ≡ Ok line.Blank
unfolding plan_line
blank_read version stage [] blank = refl
blank_read version stage (first ∷ others) blank = rw blank refl

-- what follows the first word of a line of each form
after : (first : List ℕ) {words others : List (List ℕ)} → words ≡ others → first ∷ words ≡ first ∷ others
after first same = ap (λ (ws : List (List ℕ)). first ∷ ws) same

point_ok : (version : PlanVersion) (others : List (List ℕ)) (l : PlanLine) → read_by point_form others ≡ Ok l → AreWordsOfPlanLine version l (codes "point" ∷ others)
point_ok version others l read =
    let stated = stated_by point_form others l (tt, tt) read in
    subst (λ (k : PlanLine). AreWordsOfPlanLine version k (codes "point" ∷ others)) stated.made (after (codes "point") stated.words, stated.spelled.0)

bound_ok : (version : PlanVersion) (others : List (List ℕ)) (l : PlanLine) → read_by plan_bound_form others ≡ Ok l → AreWordsOfPlanLine version l (codes "bound" ∷ others)
bound_ok version others l read =
    let stated = stated_by plan_bound_form others l (tt, (tt, (tt, (omega arith, tt)))) read in
    let declarable : IsDeclarable (part.Bound stated.values.0 stated.values.1.0 stated.values.1.1.0 stated.values.1.1.1.0) =
    (stated.spelled.0, stated.spelled.1.0, stated.spelled.1.1.0, number_within stated.values.1.1.1.0 stated.spelled.1.1.1.0) in
    subst (λ (k : PlanLine). AreWordsOfPlanLine version k (codes "bound" ∷ others)) stated.made (after (codes "bound") stated.words, declarable)

link_ok : (version : PlanVersion) (others : List (List ℕ)) (l : PlanLine) → read_by plan_link_form others ≡ Ok l → AreWordsOfPlanLine version l (codes "link" ∷ others)
link_ok version others l read =
    let stated = stated_by plan_link_form others l (tt, (omega arith, (omega arith, (tt, tt)))) read in
    let declarable : IsDeclarable (part.Link stated.values.0 stated.values.1.0 stated.values.1.1.0 stated.values.1.1.1.0) =
    (stated.spelled.0, number_within stated.values.1.0 stated.spelled.1.0, number_within stated.values.1.1.0 stated.spelled.1.1.0, stated.spelled.1.1.1.0) in
    subst (λ (k : PlanLine). AreWordsOfPlanLine version k (codes "link" ∷ others)) stated.made (after (codes "link") stated.words, declarable)

between_ok : (others : List (List ℕ)) (l : PlanLine) → read_by between_form others ≡ Ok l → AreWordsOfPlanLine Two l (codes "between" ∷ others)
between_ok others l read =
    let stated = stated_by between_form others l (tt, (tt, (omega arith, (omega arith, (tt, tt))))) read in
    let declarable : AreDeclarable stated.values.0 stated.values.1.0 stated.values.1.1.0 stated.values.1.1.1.0 stated.values.1.1.1.1.0 =
    (stated.spelled.0, stated.spelled.1.0, number_within stated.values.1.1.0 stated.spelled.1.1.0, number_within stated.values.1.1.1.0 stated.spelled.1.1.1.0, stated.spelled.1.1.1.1.0) in
    subst (λ (k : PlanLine). AreWordsOfPlanLine Two k (codes "between" ∷ others)) stated.made (refl, after (codes "between") stated.words, declarable)

delay_line_ok : (others : List (List ℕ)) (l : PlanLine) → read_by delay_form others ≡ Ok l → AreWordsOfPlanLine Two l (codes "delay" ∷ others)
delay_line_ok others l read =
    let stated = stated_by delay_form others l (omega arith, tt) read in
    subst (λ (k : PlanLine). AreWordsOfPlanLine Two k (codes "delay" ∷ others)) stated.made (refl, stated.values.0, refl, after (codes "delay") stated.words, stated.spelled.0)

end_ok : (version : PlanVersion) (others : List (List ℕ)) (l : PlanLine) → read_by plan_end_form others ≡ Ok l → AreWordsOfPlanLine version l (codes "end" ∷ others)
end_ok version others l read =
    let stated = stated_by plan_end_form others l tt read in
    subst (λ (k : PlanLine). AreWordsOfPlanLine version k (codes "end" ∷ others)) stated.made (after (codes "end") stated.words)

header_is : (version said : PlanVersion) (word : List ℕ) (number : ℕ) (l : PlanLine) → number ≡ version_number said → bytes_eq word (version_word said) ≡ true → line.Header number ≡ l
    → AreWordsOfPlanLine version l (codes "stnu" ∷ word ∷ [])
header_is version said word number l numbered spelled same =
    subst (λ (k : PlanLine). AreWordsOfPlanLine version k (codes "stnu" ∷ word ∷ [])) same (said, numbered, ap (λ (w : List ℕ). codes "stnu" ∷ w ∷ []) (word_is word (version_word said) spelled))

header_ok : (version : PlanVersion) (others : List (List ℕ)) (l : PlanLine) → plan_header_line others ≡ Ok l → AreWordsOfPlanLine version l (codes "stnu" ∷ others)
header_ok version [] l read = absurd (cc)
header_ok version (word ∷ []) l read =
    elim (choice (bytes_eq word (version_word One)) _ _ (Ok l) read) [
      | inl one ↦ let read_one : Ok (line.Header 1) ≡ Ok l = one.1 in header_is version One word 1 l refl one.0 (cc)
      | inr other ↦ elim (choice (bytes_eq word (version_word Two)) _ _ (Ok l) other.1) [
        | inl two ↦ let read_two : Ok (line.Header 2) ≡ Ok l = two.1 in header_is version Two word 2 l refl two.0 (cc)
        | inr none ↦ absurd (let wrong : Err UnknownWord ≡ Ok l = none.1 in cc)
      ]
    ]
header_ok version (word ∷ next ∷ others) l read = absurd (cc)

begins_so : (version : PlanVersion) (l : PlanLine) (first spelling : List ℕ) (others : List (List ℕ)) → bytes_eq first spelling ≡ true → AreWordsOfPlanLine version l (spelling ∷ others) → AreWordsOfPlanLine version l (first ∷ others)
begins_so version l first spelling others same is =
    subst (λ (w : List ℕ). AreWordsOfPlanLine version l (w ∷ others)) (sym (word_is first spelling same)) is

-- which lines are read at a stage: that of the delay if only blank lines have followed the header
abbrev pub MayStand : PlanStage → PlanLine → Type 0
MayStand stage line.Blank = Unit {0}
MayStand stage (line.Header number) = Unit {0}
MayStand stage (line.Part part) = Unit {0}
MayStand stage (line.Delay moments) = stage ≡ Opened
MayStand stage (line.Between name from low high to) = Unit {0}
MayStand stage line.End = Unit {0}

delay_in_ok : (stage : PlanStage) (first : List ℕ) (others : List (List ℕ)) (l : PlanLine) → read_as (form_of_delay stage first) others ≡ Ok l → AreWordsOfPlanLine Two l (first ∷ others)
delay_in_ok Opened first others l read =
    elim (form_choice (bytes_eq first (codes "delay")) _ _ others l read) [
      | inl delay ↦ begins_so Two l first (codes "delay") others delay.0 (delay_line_ok others l delay.1)
      | inr unknown ↦ absurd (let none : Err UnknownWord ≡ Ok l = unknown.1 in cc)
    ]
delay_in_ok PastDelay first others l read = absurd (let none : Err UnknownWord ≡ Ok l = read in cc)

second_ok : (version : PlanVersion) (stage : PlanStage) (first : List ℕ) (others : List (List ℕ)) (l : PlanLine) → read_as (form_of_second version stage first) others ≡ Ok l → AreWordsOfPlanLine version l (first ∷ others)
second_ok One stage first others l read = absurd (let none : Err UnknownWord ≡ Ok l = read in cc)
second_ok Two stage first others l read =
    elim (form_choice (bytes_eq first (codes "between")) _ _ others l read) [
      | inl between ↦ begins_so Two l first (codes "between") others between.0 (between_ok others l between.1)
      | inr other ↦ delay_in_ok stage first others l other.1
    ]

-- a line that begins with a word of the grammar
line_ok : (version : PlanVersion) (stage : PlanStage) (first : List ℕ) (others : List (List ℕ)) (l : PlanLine) → plan_line_by_word version stage first others ≡ Ok l → AreWordsOfPlanLine version l (first ∷ others)
line_ok version stage first others l read =
    let begins : (spelling : List ℕ) → bytes_eq first spelling ≡ true → AreWordsOfPlanLine version l (spelling ∷ others)
    → AreWordsOfPlanLine version l (first ∷ others) = λ spelling same is. begins_so version l first spelling others same is in
    elim (choice (bytes_eq first (codes "stnu")) _ _ (Ok l) read) [
      | inl stnu ↦ begins (codes "stnu") stnu.0 (header_ok version others l stnu.1)
      | inr not_stnu ↦ elim (form_choice (bytes_eq first (codes "point")) _ _ others l not_stnu.1) [
        | inl point ↦ begins (codes "point") point.0 (point_ok version others l point.1)
        | inr not_point ↦ elim (form_choice (bytes_eq first (codes "bound")) _ _ others l not_point.1) [
          | inl bound ↦ begins (codes "bound") bound.0 (bound_ok version others l bound.1)
          | inr not_bound ↦ elim (form_choice (bytes_eq first (codes "link")) _ _ others l not_bound.1) [
            | inl link ↦ begins (codes "link") link.0 (link_ok version others l link.1)
            | inr not_link ↦ elim (form_choice (bytes_eq first (codes "end")) _ _ others l not_link.1) [
              | inl end ↦ begins (codes "end") end.0 (end_ok version others l end.1)
              | inr second ↦ second_ok version stage first others l second.1
            ]
          ]
        ]
      ]
    ]

-- what is read of a line is what it is
pub read_is : (version : PlanVersion) (stage : PlanStage) (words : List (List ℕ)) (l : PlanLine) → plan_line version stage words ≡ Ok l → AreWordsOfPlanLine version l words
unfolding plan_line
read_is version stage [] l read =
    let same : line.Blank ≡ l = cc in
    subst (λ (k : PlanLine). AreWordsOfPlanLine version k []) same refl
read_is version stage (first ∷ others) l read =
    elim (choice (is_remark first) (Ok line.Blank) (plan_line_by_word version stage first others) (Ok l) read) [
      | inl remark ↦
          let same : line.Blank ≡ l = cc in
          subst (λ (k : PlanLine). AreWordsOfPlanLine version k (first ∷ others)) same remark.0
      | inr other ↦ line_ok version stage first others l other.1
    ]

-- only a line that may come here is read
past_delay_line : (delay : ℕ) → plan_line Two PastDelay (delay_words delay) ≡ Err UnknownWord
unfolding plan_line
past_delay_line delay = refl

delay_stands : (version : PlanVersion) (stage : PlanStage) (words : List (List ℕ)) (moments : ℤ) → plan_line version stage words ≡ Ok (line.Delay moments) → stage ≡ Opened
delay_stands version Opened words moments here = refl
delay_stands version PastDelay words moments here =
    let is = read_is version PastDelay words (line.Delay moments) here in
    let none : plan_line version PastDelay words ≡ Err UnknownWord = rw is.0 (ap (plan_line Two PastDelay) is.3 ∙ past_delay_line is.1) in
    absurd (cc)

pub stands : (version : PlanVersion) (stage : PlanStage) (words : List (List ℕ)) (l : PlanLine) → plan_line version stage words ≡ Ok l → MayStand stage l
stands version stage words line.Blank here = tt
stands version stage words (line.Header number) here = tt
stands version stage words (line.Part part) here = tt
stands version stage words (line.Delay moments) here = delay_stands version stage words moments here
stands version stage words (line.Between name from low high to) here = tt
stands version stage words line.End here = tt

-- a line of the grammar that may come here is read as what it is
pub is_read : (version : PlanVersion) (stage : PlanStage) (words : List (List ℕ)) (l : PlanLine) → MayStand stage l → AreWordsOfPlanLine version l words → plan_line version stage words ≡ Ok l
is_read version stage words line.Blank may is = blank_read version stage words is
is_read version stage words (line.Header number) may is =
    ap (plan_line version stage) is.2 ∙ (header_read version stage is.0 ∙ ap (λ (n : ℕ). Ok (line.Header n)) (sym is.1))
is_read version stage words (line.Part p) may is = ap (plan_line version stage) is.0 ∙ spelled_read version stage p is.1
is_read version stage words (line.Delay moments) may is =
    rw (is.0, may) (ap (plan_line Two Opened) is.3 ∙ (delay_line_read is.1 is.4 ∙ ap (λ (n : ℤ). Ok (line.Delay n)) (sym is.2)))
is_read version stage words (line.Between name from low high to) may is =
    rw is.0 (ap (plan_line Two stage) is.1 ∙ between_read stage name from low high to is.2)
is_read version stage words line.End may is = ap (plan_line version stage) is ∙ end_read version stage

-- read alone, each line may come
opened_may : (l : PlanLine) → MayStand Opened l
opened_may line.Blank = tt
opened_may (line.Header number) = tt
opened_may (line.Part part) = tt
opened_may (line.Delay moments) = refl
opened_may (line.Between name from low high to) = tt
opened_may line.End = tt

pub alone_read : (version : PlanVersion) (words : List (List ℕ)) (l : PlanLine) → AreWordsOfPlanLine version l words → plan_line version Opened words ≡ Ok l
alone_read version words l is = is_read version Opened words l (opened_may l) is
