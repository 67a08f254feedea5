-- What is read of a line is what its words state.
use Rattle.std.proofs.Common.{◌≡◌, ◌⊎◌, ℕ, Bool, true, false, cond, List, [], ◌∷◌, Option, None, Some, Ok, Err, refl, sym, ap, ◌∙◌, subst, arith, inl, inr, IsTrue, codes}
use Rattle.std.specs.Str.{bytes_eq}
use Rattle.texts.specs.Words.{is_remark, are_passed_over}
use Rattle.net_model.specs.EditLaws.{HasNames}
use Rattle.net_model.specs.LineReading.{read_by, read_as}
use Rattle.net_model.specs.Names.{is_name}
use Rattle.net_model.specs.Places.{Form}
use Rattle.net_model.specs.declared.edit.Edit.{Edit}
use Rattle.net_model.specs.declared.edit.Edit.TheVariants as edits
use Rattle.net_model.specs.declared.format.FormatKind.TheVariants.{UnknownWord}
use Rattle.net_model.proofs.LineLemmas.{stated_by, form_choice, number_read, number_within}
use Rattle.net_model.proofs.ReadWordLemmas.{choice, bind_ok, name_read, word_is}
use Rattle.edit_script.specs.EditLines.{step_of, step_by, edit_line}
use Rattle.edit_script.specs.EditText.{edit_words, HasNumbers, StatesEdit, AreWordsOfEditLine, name_form, add_bound_form, add_link_form, number_form, interval_form, add_form, drop_edit_form, set_form, edit_form, question_of, alone}
use Rattle.edit_script.specs.declared.step.Step.{Step}
use Rattle.edit_script.specs.declared.step.Step.TheVariants as step

-- ---- what states a step is read as it
edit_read : (edit : Edit) → HasNames edit → HasNumbers edit → step_of (edit_words edit) ≡ Ok (step.Edit edit)
unfolding step_of
edit_read (edits.AddPoint name) names numbers = rw (name_read name names) refl
edit_read (edits.AddBound name from to most) names numbers = rw (name_read name names.0, name_read from names.1, name_read to names.2, number_read most numbers) refl
edit_read (edits.AddLink from low high to) names numbers = rw (name_read from names.0, number_read low numbers.0, number_read high numbers.1, name_read to names.1) refl
edit_read (edits.DropPoint name) names numbers = rw (name_read name names) refl
edit_read (edits.DropBound name) names numbers = rw (name_read name names) refl
edit_read (edits.DropLink to) names numbers = rw (name_read to names) refl
edit_read (edits.SetBound name most) names numbers = rw (name_read name names, number_read most numbers) refl
edit_read (edits.SetLink to low high) names numbers = rw (name_read to names, number_read low numbers.0, number_read high numbers.1) refl

blank_read : (words : List (List ℕ)) → are_passed_over words ≡ true → step_of words ≡ Ok step.Blank
unfolding step_of
blank_read [] blank = refl
blank_read (first ∷ others) blank = rw blank refl

pub stated_read : (stated : Step) (words : List (List ℕ)) → AreWordsOfEditLine stated words → step_of words ≡ Ok stated
unfolding step_of
stated_read step.Blank words is = blank_read words is
stated_read (step.Edit edit) words is = ap step_of is.spelled ∙ edit_read edit is.names is.numbers
stated_read step.Verdict words is = ap step_of is
stated_read step.Proof words is = ap step_of is
stated_read step.Table words is = ap step_of is
stated_read step.Plan words is = ap step_of is
stated_read step.Report words is = ap step_of is
stated_read step.Go words is = ap step_of is
stated_read step.End words is = ap step_of is

-- ---- what is read as a step states it
-- an edit that says no more than a name
name_states : (first second : List ℕ) (make : List ℕ → Edit) (others : List (List ℕ)) (edit : Edit) → ((name : List ℕ) → IsTrue (is_name name) → StatesEdit (make name) (first ∷ second ∷ name ∷ []))
    → read_by (name_form make) others ≡ Ok edit → StatesEdit edit (first ∷ second ∷ others)
name_states first second make others edit statement read =
    let stated = stated_by (name_form make) others edit (tt, tt) read in
    subst (λ (e : Edit). StatesEdit e (first ∷ second ∷ others)) stated.made (subst (λ (words : List (List ℕ)). StatesEdit (make stated.values.0) (first ∷ second ∷ words)) (sym stated.words) (statement stated.values.0 stated.spelled.0))

bound_ok : (others : List (List ℕ)) (edit : Edit) → read_by add_bound_form others ≡ Ok edit → StatesEdit edit (codes "add" ∷ codes "bound" ∷ others)
bound_ok others edit read =
    let stated = stated_by add_bound_form others edit (tt, (tt, (tt, (omega arith, tt)))) read in
    subst (λ (e : Edit). StatesEdit e (codes "add" ∷ codes "bound" ∷ others)) stated.made (record {
      spelled = ap (λ (words : List (List ℕ)). codes "add" ∷ codes "bound" ∷ words) stated.words;
      names = (stated.spelled.0, stated.spelled.1.0, stated.spelled.1.1.0);
      numbers = number_within stated.values.1.1.1.0 stated.spelled.1.1.1.0;
    })

link_ok : (others : List (List ℕ)) (edit : Edit) → read_by add_link_form others ≡ Ok edit → StatesEdit edit (codes "add" ∷ codes "link" ∷ others)
link_ok others edit read =
    let stated = stated_by add_link_form others edit (tt, (omega arith, (omega arith, (tt, tt)))) read in
    subst (λ (e : Edit). StatesEdit e (codes "add" ∷ codes "link" ∷ others)) stated.made (record {
      spelled = ap (λ (words : List (List ℕ)). codes "add" ∷ codes "link" ∷ words) stated.words;
      names = (stated.spelled.0, stated.spelled.1.1.1.0);
      numbers = (number_within stated.values.1.0 stated.spelled.1.0, number_within stated.values.1.1.0 stated.spelled.1.1.0);
    })

number_line_ok : (others : List (List ℕ)) (edit : Edit) → read_by number_form others ≡ Ok edit → StatesEdit edit (codes "set" ∷ codes "bound" ∷ others)
number_line_ok others edit read =
    let stated = stated_by number_form others edit (tt, (omega arith, tt)) read in
    subst (λ (e : Edit). StatesEdit e (codes "set" ∷ codes "bound" ∷ others)) stated.made (record {
      spelled = ap (λ (words : List (List ℕ)). codes "set" ∷ codes "bound" ∷ words) stated.words;
      names = stated.spelled.0;
      numbers = number_within stated.values.1.0 stated.spelled.1.0;
    })

interval_ok : (others : List (List ℕ)) (edit : Edit) → read_by interval_form others ≡ Ok edit → StatesEdit edit (codes "set" ∷ codes "link" ∷ others)
interval_ok others edit read =
    let stated = stated_by interval_form others edit (tt, (omega arith, (omega arith, tt))) read in
    subst (λ (e : Edit). StatesEdit e (codes "set" ∷ codes "link" ∷ others)) stated.made (record {
      spelled = ap (λ (words : List (List ℕ)). codes "set" ∷ codes "link" ∷ words) stated.words;
      names = stated.spelled.0;
      numbers = (number_within stated.values.1.0 stated.spelled.1.0, number_within stated.values.1.1.0 stated.spelled.1.1.0);
    })

add_ok : (others : List (List ℕ)) (edit : Edit) → edit_line add_form others ≡ Ok edit → StatesEdit edit (codes "add" ∷ others)
add_ok [] edit read = absurd (cc)
add_ok (second ∷ others) edit read =
    let by : (spelling : List ℕ) → bytes_eq second spelling ≡ true → StatesEdit edit (codes "add" ∷ spelling ∷ others) → StatesEdit edit (codes "add" ∷ second ∷ others) =
    λ spelling same statement. subst (λ (w : List ℕ). StatesEdit edit (codes "add" ∷ w ∷ others)) (sym (word_is second spelling same)) statement in
    elim (form_choice (bytes_eq second (codes "point")) _ _ others edit read) [
      | inl point ↦ by (codes "point") point.0 (name_states (codes "add") (codes "point") edits.AddPoint others edit (λ name named. record { spelled = refl; names = named; numbers = tt }) point.1)
      | inr not_point ↦ elim (form_choice (bytes_eq second (codes "bound")) _ _ others edit not_point.1) [
        | inl bound ↦ by (codes "bound") bound.0 (bound_ok others edit bound.1)
        | inr not_bound ↦ elim (form_choice (bytes_eq second (codes "link")) _ _ others edit not_bound.1) [
          | inl link ↦ by (codes "link") link.0 (link_ok others edit link.1)
          | inr unknown ↦ absurd (let none : Err UnknownWord ≡ Ok edit = unknown.1 in cc)
        ]
      ]
    ]

drop_ok : (others : List (List ℕ)) (edit : Edit) → edit_line drop_edit_form others ≡ Ok edit → StatesEdit edit (codes "drop" ∷ others)
drop_ok [] edit read = absurd (cc)
drop_ok (second ∷ others) edit read =
    let by : (spelling : List ℕ) → bytes_eq second spelling ≡ true → StatesEdit edit (codes "drop" ∷ spelling ∷ others) → StatesEdit edit (codes "drop" ∷ second ∷ others) =
    λ spelling same statement. subst (λ (w : List ℕ). StatesEdit edit (codes "drop" ∷ w ∷ others)) (sym (word_is second spelling same)) statement in
    elim (form_choice (bytes_eq second (codes "point")) _ _ others edit read) [
      | inl point ↦ by (codes "point") point.0 (name_states (codes "drop") (codes "point") edits.DropPoint others edit (λ name named. record { spelled = refl; names = named; numbers = tt }) point.1)
      | inr not_point ↦ elim (form_choice (bytes_eq second (codes "bound")) _ _ others edit not_point.1) [
        | inl bound ↦ by (codes "bound") bound.0 (name_states (codes "drop") (codes "bound") edits.DropBound others edit (λ name named. record { spelled = refl; names = named; numbers = tt }) bound.1)
        | inr not_bound ↦ elim (form_choice (bytes_eq second (codes "link")) _ _ others edit not_bound.1) [
          | inl link ↦ by (codes "link") link.0 (name_states (codes "drop") (codes "link") edits.DropLink others edit (λ name named. record { spelled = refl; names = named; numbers = tt }) link.1)
          | inr unknown ↦ absurd (let none : Err UnknownWord ≡ Ok edit = unknown.1 in cc)
        ]
      ]
    ]

set_ok : (others : List (List ℕ)) (edit : Edit) → edit_line set_form others ≡ Ok edit → StatesEdit edit (codes "set" ∷ others)
set_ok [] edit read = absurd (cc)
set_ok (second ∷ others) edit read =
    let by : (spelling : List ℕ) → bytes_eq second spelling ≡ true → StatesEdit edit (codes "set" ∷ spelling ∷ others) → StatesEdit edit (codes "set" ∷ second ∷ others) =
    λ spelling same statement. subst (λ (w : List ℕ). StatesEdit edit (codes "set" ∷ w ∷ others)) (sym (word_is second spelling same)) statement in
    elim (form_choice (bytes_eq second (codes "bound")) _ _ others edit read) [
      | inl bound ↦ by (codes "bound") bound.0 (number_line_ok others edit bound.1)
      | inr not_bound ↦ elim (form_choice (bytes_eq second (codes "link")) _ _ others edit not_bound.1) [
        | inl link ↦ by (codes "link") link.0 (interval_ok others edit link.1)
        | inr unknown ↦ absurd (let none : Err UnknownWord ≡ Ok edit = unknown.1 in cc)
      ]
    ]

-- an edit that is read is stated as a step
stated_edit : (form : List ℕ → Option (Form Edit)) (first : List ℕ) (others : List (List ℕ)) (stated : Step) → ((edit : Edit) → edit_line form others ≡ Ok edit → StatesEdit edit (first ∷ others))
    → step_by (Some form) first others ≡ Ok stated → AreWordsOfEditLine stated (first ∷ others)
stated_edit form first others stated statement read =
    let edit = bind_ok (edit_line form others) _ stated read in
    let last : Ok (step.Edit edit.0) ≡ Ok stated = edit.2 in
    let same : step.Edit edit.0 ≡ stated = cc in
    subst (λ (t : Step). AreWordsOfEditLine t (first ∷ others)) same (statement edit.0 edit.1)

question_stated : (first : List ℕ) (stated : Step) → question_of first ≡ Some stated → AreWordsOfEditLine stated (first ∷ [])
question_stated first stated question_step =
    let by : (spelling : List ℕ) (it : Step) → bytes_eq first spelling ≡ true → Some it ≡ Some stated → AreWordsOfEditLine it (spelling ∷ []) → AreWordsOfEditLine stated (first ∷ []) =
    λ spelling it same is statement.
    let one : it ≡ stated = cc in
    subst (λ (t : Step). AreWordsOfEditLine t (first ∷ [])) one (subst (λ (w : List ℕ). AreWordsOfEditLine it (w ∷ [])) (sym (word_is first spelling same)) statement) in
    elim (choice (bytes_eq first (codes "verdict")) _ _ (Some stated) question_step) [
      | inl here ↦ by (codes "verdict") step.Verdict here.0 here.1 refl
      | inr a ↦ elim (choice (bytes_eq first (codes "proof")) _ _ (Some stated) a.1) [
        | inl here ↦ by (codes "proof") step.Proof here.0 here.1 refl
        | inr b ↦ elim (choice (bytes_eq first (codes "table")) _ _ (Some stated) b.1) [
          | inl here ↦ by (codes "table") step.Table here.0 here.1 refl
          | inr c ↦ elim (choice (bytes_eq first (codes "plan")) _ _ (Some stated) c.1) [
            | inl here ↦ by (codes "plan") step.Plan here.0 here.1 refl
            | inr d ↦ elim (choice (bytes_eq first (codes "report")) _ _ (Some stated) d.1) [
              | inl here ↦ by (codes "report") step.Report here.0 here.1 refl
              | inr e ↦ elim (choice (bytes_eq first (codes "go")) _ _ (Some stated) e.1) [
                | inl here ↦ by (codes "go") step.Go here.0 here.1 refl
                | inr f ↦ elim (choice (bytes_eq first (codes "end")) _ _ (Some stated) f.1) [
                  | inl here ↦ by (codes "end") step.End here.0 here.1 refl
                  | inr none ↦ absurd (let wrong : None ≡ Some stated = none.1 in cc)
                ]
              ]
            ]
          ]
        ]
      ]
    ]

question_ok : (first : List ℕ) (question_step : Option Step) (others : List (List ℕ)) (stated : Step) → question_of first ≡ question_step → read_as (alone question_step) others ≡ Ok stated → AreWordsOfEditLine stated (first ∷ others)
question_ok first None others stated is read = absurd (let none : Err UnknownWord ≡ Ok stated = read in cc)
question_ok first (Some it) others stated is read =
    let lone : Form Step = record { places = []; make = it } in
    let all = stated_by lone others stated tt read in
    subst (λ (words : List (List ℕ)). AreWordsOfEditLine stated (first ∷ words)) (sym all.words) (question_stated first stated (is ∙ ap (λ (t : Step). Some t) all.made))

step_choice : (test : Bool) (x y : Option (List ℕ → Option (Form Edit))) (first : List ℕ) (others : List (List ℕ)) (stated : Step) → step_by (cond test x y) first others ≡ Ok stated
    → ((test ≡ true) × (step_by x first others ≡ Ok stated)) ⊎ ((test ≡ false) × (step_by y first others ≡ Ok stated))
step_choice true x y first others stated read = inl (refl, read)
step_choice false x y first others stated read = inr (refl, read)

step_ok : (first : List ℕ) (others : List (List ℕ)) (stated : Step) → step_by (edit_form first) first others ≡ Ok stated → AreWordsOfEditLine stated (first ∷ others)
step_ok first others stated read =
    let by : (spelling : List ℕ) → bytes_eq first spelling ≡ true → AreWordsOfEditLine stated (spelling ∷ others) → AreWordsOfEditLine stated (first ∷ others) =
    λ spelling same statement. subst (λ (w : List ℕ). AreWordsOfEditLine stated (w ∷ others)) (sym (word_is first spelling same)) statement in
    elim (step_choice (bytes_eq first (codes "add")) _ _ first others stated read) [
      | inl add ↦ by (codes "add") add.0 (stated_edit add_form (codes "add") others stated (add_ok others) add.1)
      | inr not_add ↦ elim (step_choice (bytes_eq first (codes "drop")) _ _ first others stated not_add.1) [
        | inl dropped ↦ by (codes "drop") dropped.0 (stated_edit drop_edit_form (codes "drop") others stated (drop_ok others) dropped.1)
        | inr not_drop ↦ elim (step_choice (bytes_eq first (codes "set")) _ _ first others stated not_drop.1) [
          | inl set ↦ by (codes "set") set.0 (stated_edit set_form (codes "set") others stated (set_ok others) set.1)
          | inr question_step ↦ question_ok first (question_of first) others stated refl question_step.1
        ]
      ]
    ]

pub read_stated : (words : List (List ℕ)) (stated : Step) → step_of words ≡ Ok stated → AreWordsOfEditLine stated words
unfolding step_of
read_stated [] stated read = let same : step.Blank ≡ stated = cc in subst (λ (t : Step). AreWordsOfEditLine t []) same refl
read_stated (first ∷ others) stated read =
    elim (choice (is_remark first) (Ok step.Blank) (step_by (edit_form first) first others) (Ok stated) read) [
      | inl remark ↦ let both : Ok step.Blank ≡ Ok stated = remark.1 in let same : step.Blank ≡ stated = cc in subst (λ (t : Step). AreWordsOfEditLine t (first ∷ others)) same remark.0
      | inr other ↦ step_ok first others stated other.1
    ]

pub stated_names : (words : List (List ℕ)) (edit : Edit) → step_of words ≡ Ok (step.Edit edit) → HasNames edit
stated_names words edit read = (read_stated words (step.Edit edit) read).names
