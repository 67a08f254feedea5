-- The names of the plans of a fleet are names, and different.
use Rattle.std.proofs.Common.{◌≡◌, ◌≢◌, ◌⊎◌, inl, inr, ℕ, ◌+◌, ◌&&◌, ◌||◌, nat_le, nat_lt, Bool, true, false, cond, zero, suc, List, [], ◌∷◌, ◌++◌, length, Some, refl, sym, ap, ◌∙◌, subst}
use Rattle.std.specs.Prelude.{slice_get, codes}
use Rattle.std.specs.List.{list_all}
use Rattle.std.specs.Str.{bytes_eq}
use Rattle.std.proofs.lemmas.Bool.{ne_eqb}
use Rattle.texts.specs.Words.{words, is_remark}
use Rattle.net_model.specs.Names.{is_letter, is_name, is_name_byte}
use Rattle.net_model.proofs.DecimalSpellingLemmas.{printable_name}
use Rattle.command_engine.specs.Grammars.{Grammar}
use Rattle.text_sequence.specs.SeriesGrammar.{Reached, Past, Inside, LeadsOn, LinesLead}
use Rattle.text_sequence.specs.declared.separators.Separator.{Separator}
use Rattle.text_sequence.specs.declared.separators.Separator.TheVariants.{Passes, Opens}
use Rattle.multiplexed_commands.specs.NamedLines.{IsNaming}
use Rattle.multiplexed_commands.proofs.NamedLineLemmas.{same_name}
use Rattle.plan_fleet.specs.Limits.{most_plans}
use Rattle.fleet_command.specs.FleetText.{between_line, fleet_between, go_line, is_taken, opened_by, plan_name_line}
use Rattle.fleet_command.specs.PlanNames.{AreNamed, PrefixesNamePlans}
use Rattle.common_answers.specs.declared.faults.Fault.{Fault}

-- ---- a name is one after which lines are put
no_sign : (name : List ℕ) → is_name name ≡ true → is_remark name ≡ false
unfolding is_name
no_sign [] is = refl
no_sign (byte ∷ bytes) is =
    ne_eqb byte 35
    (λ same.
    let at : (is_letter 35 && list_all is_name_byte bytes && nat_lt (length bytes) 32) ≡ true = subst (λ (b : ℕ). (is_letter b && list_all is_name_byte bytes && nat_lt (length bytes) 32) ≡ true) same is in
    absurd (cc at))

pub naming : (name : List ℕ) → is_name name ≡ true → IsNaming name
naming name is = let printable = printable_name name is in record { filled = printable.filled; no_remark = no_sign name is; plain = printable.plain }

-- ---- one more in a list
push_cases : {A : Type 0} (xs : List A) (x y : A) (place : ℕ) → slice_get (xs ++ x ∷ []) place ≡ Some y → (slice_get xs place ≡ Some y) ⊎ ((x ≡ y) × (place ≡ length xs))
push_cases [] x y zero is = inr (cc is, refl)
push_cases [] x y (suc place) is = absurd (cc is)
push_cases (z ∷ xs) x y zero is = inl is
push_cases (z ∷ xs) x y (suc place) is = by (push_cases xs x y place is)
  where
    by : (slice_get xs place ≡ Some y) ⊎ ((x ≡ y) × (place ≡ length xs)) → (slice_get (z ∷ xs) (suc place) ≡ Some y) ⊎ ((x ≡ y) × (suc place ≡ length (z ∷ xs)))
    by (inl there) = inl there
    by (inr (same, last)) = inr (same, ap suc last)

or_false : (a b : Bool) → (a || b) ≡ false → (a ≡ false) × (b ≡ false)
or_false true b is = absurd (cc is)
or_false false b is = (refl, is)

no_go : (number : ℕ) (others : List (List ℕ)) (key : List ℕ) → go_line number others ≡ Opens key → ⊥
no_go number [] key opens = absurd (cc opens)
no_go number (next ∷ others) key opens = absurd (cc opens)

module _ {V : Type 0} where
  not_taken : (done : List (List ℕ × V)) (name : List ℕ) → is_taken done name ≡ false → (place : ℕ) (plan : List ℕ × V) → slice_get done place ≡ Some plan → plan.0 ≢ name
  not_taken [] name free place plan is = absurd (cc is)
  not_taken (one ∷ done) name free zero plan is =
      let parts = or_false (bytes_eq name one.0) (is_taken done name) free in
      λ same. let its : one.0 ≡ plan.0 = ap (λ (p : List ℕ × V). p.0) (let p : one ≡ plan = cc is in p) in absurd (cc (parts.0, same_name name one.0 (sym same ∙ sym its)))
  not_taken (one ∷ done) name free (suc place) plan is = not_taken done name (or_false (bytes_eq name one.0) (is_taken done name) free).1 place plan is

  named_push : (done : List (List ℕ × V)) (key : List ℕ) (value : V) → AreNamed done → is_name key ≡ true → is_taken done key ≡ false → AreNamed (done ++ (key, value) ∷ [])
  named_push done key value are is free = record { names = names; different = different }
    where
      names_by : (place : ℕ) (plan : List ℕ × V) → (slice_get done place ≡ Some plan) ⊎ (((key, value) ≡ plan) × (place ≡ length done)) → is_name plan.0 ≡ true
      names_by place plan (inl there) = are.names place plan there
      names_by place plan (inr (same, last)) = ap (λ (p : List ℕ × V). is_name p.0) (sym same) ∙ is

      names : (place : ℕ) (plan : List ℕ × V) → slice_get (done ++ (key, value) ∷ []) place ≡ Some plan → is_name plan.0 ≡ true
      names place plan there = names_by place plan (push_cases done (key, value) plan place there)

      by : (place other : ℕ) (plan one : List ℕ × V) → plan.0 ≡ one.0 → (slice_get done place ≡ Some plan) ⊎ (((key, value) ≡ plan) × (place ≡ length done))
          → (slice_get done other ≡ Some one) ⊎ (((key, value) ≡ one) × (other ≡ length done)) → place ≡ other
      by place other plan one same (inl there) (inl here) = are.different place other plan one there here same
      by place other plan one same (inl there) (inr (is_one, last)) = absurd (not_taken done key free place plan there (same ∙ sym (ap (λ (p : List ℕ × V). p.0) is_one)))
      by place other plan one same (inr (is_plan, last)) (inl here) = absurd (not_taken done key free other one here (sym same ∙ sym (ap (λ (p : List ℕ × V). p.0) is_plan)))
      by place other plan one same (inr (is_plan, last)) (inr (is_one, also)) = last ∙ sym also

      different : (place other : ℕ) (plan one : List ℕ × V) → slice_get (done ++ (key, value) ∷ []) place ≡ Some plan → slice_get (done ++ (key, value) ∷ []) other ≡ Some one → plan.0 ≡ one.0 → place ≡ other
      different place other plan one there here same = by place other plan one same (push_cases done (key, value) plan place there) (push_cases done (key, value) one other here)

  -- ---- what opens a plan
  abbrev pub IsFree : List (List ℕ × V) → List ℕ → Type 0
  IsFree done key = (is_name key ≡ true) × (is_taken done key ≡ false) × (nat_le most_plans (length done) ≡ false)

  free_by : (done : List (List ℕ × V)) (is_one taken full : Bool) (number : ℕ) (name key : List ℕ) → is_name name ≡ is_one → is_taken done name ≡ taken → nat_le most_plans (length done) ≡ full
      → opened_by is_one taken full number name ≡ Opens key → IsFree done key
  free_by done false taken full number name key is free few opens = absurd (cc opens)
  free_by done true true full number name key is free few opens = absurd (cc opens)
  free_by done true false true number name key is free few opens = absurd (cc opens)
  free_by done true false false number name key is free few opens =
      let same : name ≡ key = cc opens in
      (ap is_name (sym same) ∙ is, ap (is_taken done) (sym same) ∙ free, few)

  free_plan : (done : List (List ℕ × V)) (number : ℕ) (others : List (List ℕ)) (key : List ℕ) → plan_name_line done number others ≡ Opens key → IsFree done key
  free_plan done number [] key opens = absurd (cc opens)
  free_plan done number (name ∷ []) key opens = free_by done (is_name name) (is_taken done name) (nat_le most_plans (length done)) number name key refl refl refl opens
  free_plan done number (name ∷ second ∷ others) key opens = absurd (cc opens)

  free_line : (remark plan go : Bool) (done : List (List ℕ × V)) (number : ℕ) (others : List (List ℕ)) (unknown : Separator (List ℕ) Fault) (key : List ℕ) → (unknown ≡ Opens key → ⊥)
      → cond remark Passes (cond plan (plan_name_line done number others) (cond go (go_line number others) unknown)) ≡ Opens key → IsFree done key
  free_line true plan go done number others unknown key never opens = absurd (cc opens)
  free_line false true go done number others unknown key never opens = free_plan done number others key opens
  free_line false false true done number others unknown key never opens = absurd (no_go number others key opens)
  free_line false false false done number others unknown key never opens = absurd (never opens)

  pub free_words : (spelled : List (List ℕ)) (done : List (List ℕ × V)) (number : ℕ) (key : List ℕ) → between_line done number spelled ≡ Opens key → IsFree done key
  free_words [] done number key opens = absurd (cc opens)
  free_words (first ∷ others) done number key opens =
      free_line (is_remark first) (bytes_eq first (codes "plan")) (bytes_eq first (codes "go")) done number others _ key (λ is. absurd (cc is)) opens

  -- ---- along the lines
  module _ (texts : ℕ → Grammar V Fault) where
    abbrev AreNamedAt : Reached (List ℕ) V → Type 0
    AreNamedAt (Past done) = AreNamed done
    AreNamedAt (Inside done key past text) = AreNamed done × IsFree done key

    named_on : (here next : Reached (List ℕ) V) (number : ℕ) (line : List ℕ) → AreNamedAt here → LeadsOn fleet_between texts here number line next → AreNamedAt next
    named_on (Past done) next number line are (inl (is, same)) = subst AreNamedAt (sym same) are
    named_on (Past done) next number line are (inr (key, is, same)) = subst AreNamedAt (sym same) (are, free_words (words line) done number key is)
    named_on (Inside done key past text) next number line (are, free) (inl (longest, wanted, same)) = subst AreNamedAt (sym same) (are, free)
    named_on (Inside done key past text) next number line (are, free) (inr (value, declared, same)) = subst AreNamedAt (sym same) (named_push done key value are free.0 free.1)

    named_along : (lines : List (List ℕ)) (past : ℕ) (here there : Reached (List ℕ) V) → AreNamedAt here → LinesLead fleet_between texts here past lines there → AreNamedAt there
    named_along [] past here there are same = subst AreNamedAt same are
    named_along (line ∷ lines) past here there are (next, on, more) = named_along lines (past + 1) next there (named_on here next (past + 1) line are on) more

    pub prefixes_name : PrefixesNamePlans texts
    prefixes_name past lines done rest is =
        named_along is.prefix past (Past []) (Past done) (record { names = λ place plan there. absurd (cc there); different = λ place other plan one there here same. absurd (cc there) }) is.lead
