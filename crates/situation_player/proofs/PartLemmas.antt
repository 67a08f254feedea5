-- The parts of tasks, added task by task.
use Rattle.std.proofs.Common.{◌≡◌, ℕ, suc, ◌+◌, ◌*◌, ◌<◌, ◌≤◌, List, [], ◌∷◌, ◌++◌, length, drop, get_or, ap, sym, ◌∙◌, arith, append_assoc, length-append}
use Rattle.std.proofs.Math.ListN.{drop_of_length-le}
use Rattle.std.proofs.Math.Nat.{mul-suc}
use Rattle.std.proofs.Math.Seq.{drop-cons}
use Rattle.std.proofs.lemmas.List.{append-nil}
use Rattle.net_model.specs.declared.part.Part.{Part}
use Rattle.situation_player.specs.ForgedParts.{parts_from}
use Rattle.situation_player.specs.declared.tasks.Task.{Task}

module _ (parts : ℕ → Task → List Part) where
  -- what is left after one more task
  pub one_more : (tasks : List Task) (k : ℕ) (d : Task) (before so_far after : List Part) → k < length tasks → after ≡ so_far ++ parts (k + 1) (get_or tasks k d)
      → so_far ++ parts_from parts (k + 1) (drop k tasks) ≡ before ++ parts_from parts 1 tasks
      → after ++ parts_from parts (k + 1 + 1) (drop (k + 1) tasks) ≡ before ++ parts_from parts 1 tasks
  one_more tasks k d before so_far after inside added whole =
      let next : suc k ≡ k + 1 = omega arith in
      let split : drop k tasks ≡ get_or tasks k d ∷ drop (k + 1) tasks = drop-cons tasks k d inside ∙ ap (λ (n : ℕ). get_or tasks k d ∷ drop n tasks) next in
      let here : parts_from parts (k + 1) (drop k tasks) ≡ parts (k + 1) (get_or tasks k d) ++ parts_from parts (k + 1 + 1) (drop (k + 1) tasks) = ap (parts_from parts (k + 1)) split in
      ap (λ (ps : List Part). ps ++ parts_from parts (k + 1 + 1) (drop (k + 1) tasks)) added
      ∙ append_assoc so_far (parts (k + 1) (get_or tasks k d)) (parts_from parts (k + 1 + 1) (drop (k + 1) tasks))
      ∙ ap (λ (ps : List Part). so_far ++ ps) (sym here) ∙ whole

  -- nothing is left at the end
  pub none_left : (tasks : List Task) (k : ℕ) (before so_far : List Part) → length tasks ≤ k → so_far ++ parts_from parts (k + 1) (drop k tasks) ≡ before ++ parts_from parts 1 tasks
      → so_far ≡ before ++ parts_from parts 1 tasks
  none_left tasks k before so_far past whole =
      let none : drop k tasks ≡ [] = drop_of_length-le tasks past in
      sym (append-nil so_far) ∙ ap (λ (ts : List Task). so_far ++ parts_from parts (k + 1) ts) (sym none) ∙ whole

  -- so many parts for each task
  pub count_of : (each : ℕ) → ((i : ℕ) (task : Task) → length (parts i task) ≡ each) → (i : ℕ) (tasks : List Task) → length (parts_from parts i tasks) ≡ each * length tasks
  count_of each is i [] = omega arith
  count_of each is i (task ∷ tasks) =
      let here = is i task in
      let rest = count_of each is (i + 1) tasks in
      let long = length-append (parts i task) (parts_from parts (i + 1) tasks) in
      let more = mul-suc each (length tasks) in
      omega (arith, here, rest, long, more)

-- two parts are added, and three
pub two_added : (before one two : List Part) (a b : Part) → one ≡ before ++ a ∷ [] → two ≡ one ++ b ∷ [] → two ≡ before ++ a ∷ b ∷ []
two_added before one two a b first second = second ∙ ap (λ (ps : List Part). ps ++ b ∷ []) first ∙ append_assoc before (a ∷ []) (b ∷ [])

pub three_added : (before one two three : List Part) (a b c : Part) → one ≡ before ++ a ∷ [] → two ≡ one ++ b ∷ [] → three ≡ two ++ c ∷ []
    → three ≡ before ++ a ∷ b ∷ c ∷ []
three_added before one two three a b c first second third =
    third ∙ ap (λ (ps : List Part). ps ++ c ∷ []) (two_added before one two a b first second) ∙ append_assoc before (a ∷ b ∷ []) (c ∷ [])

-- four lists of parts are added to none
pub all_added : (none one two three all ps qs rs ss : List Part) → none ≡ [] → one ≡ none ++ ps → two ≡ one ++ qs → three ≡ two ++ rs → all ≡ three ++ ss
    → all ≡ ps ++ (qs ++ (rs ++ ss))
all_added none one two three all ps qs rs ss empty first second third fourth =
    let from_start : one ≡ ps = first ∙ ap (λ (xs : List Part). xs ++ ps) empty in
    let next : three ≡ ps ++ (qs ++ rs) = third ∙ ap (λ (xs : List Part). xs ++ rs) (second ∙ ap (λ (xs : List Part). xs ++ qs) from_start) ∙ append_assoc ps qs rs in
    fourth ∙ ap (λ (xs : List Part). xs ++ ss) next ∙ append_assoc ps (qs ++ rs) ss ∙ ap (λ (xs : List Part). ps ++ xs) (append_assoc qs rs ss)
