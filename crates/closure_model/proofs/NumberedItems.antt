-- The first of a list by their numbers, and one more of them.
use Rattle.std.proofs.Common.{◌≡◌, ℕ, ◌+◌, ◌<◌, List, [], ◌∷◌, ◌++◌, length, get_or, take, map, ap, sym, ◌∙◌, zero-add, append_assoc}
use Rattle.std.specs.List.{enumerate_from}
use Rattle.std.proofs.Math.Seq.{take-length}
use Rattle.std.proofs.lemmas.List.{take_more, map-append}
use Rattle.std.proofs.lemmas.List.FromFn.{length-enumerate_from, get_or-enumerate_from}

pub first_numbered_more : {X : Type 0} (xs : List X) (place : ℕ) (d : X) → place < length xs → take (place + 1) (enumerate_from 0 xs) ≡ take place (enumerate_from 0 xs) ++ (place, get_or xs place d) ∷ []
first_numbered_more {X = X} xs place d within =
    let inside : place < length (enumerate_from 0 xs) = simp length-enumerate_from within in
    let item : get_or (enumerate_from 0 xs) place (place, d) ≡ (place, get_or xs place d) = get_or-enumerate_from 0 xs place (place, d) within ∙ ap (λ (n : ℕ). (n, get_or xs place d)) (zero-add place) in
    take_more (enumerate_from 0 xs) place (place, d) inside ∙ ap (λ (e : ℕ × X). take place (enumerate_from 0 xs) ++ e ∷ []) item

-- what is made of them
module _ {X Y : Type 0} (f : ℕ × X → Y) where
  made_more : (xs : List X) (place : ℕ) (d : X) → place < length xs → map f (take (place + 1) (enumerate_from 0 xs)) ≡ map f (take place (enumerate_from 0 xs)) ++ f (place, get_or xs place d) ∷ []
  made_more xs place d within =
      ap (map f) (first_numbered_more xs place d within) ∙ map-append f (take place (enumerate_from 0 xs)) ((place, get_or xs place d) ∷ [])

  -- one more of them at the end of a list
  pub pushed_more : (start before after : List Y) (items xs : List X) (place : ℕ) (d : X) (y : Y) → items ≡ xs → place < length xs → before ≡ start ++ map f (take place (enumerate_from 0 xs))
      → y ≡ f (place, get_or items place d) → after ≡ before ++ y ∷ [] → after ≡ start ++ map f (take (place + 1) (enumerate_from 0 xs))
  pushed_more start before after items xs place d y same within so_far is pushed =
      let item : y ≡ f (place, get_or xs place d) = is ∙ ap (λ (zs : List X). f (place, get_or zs place d)) same in
      pushed ∙ (ap (λ (ys : List Y). ys ++ y ∷ []) so_far ∙ (append_assoc start (map f (take place (enumerate_from 0 xs))) (y ∷ [])
      ∙ ap (λ (ys : List Y). start ++ ys) (ap (λ (z : Y). map f (take place (enumerate_from 0 xs)) ++ z ∷ []) item ∙ sym (made_more xs place d within))))

  -- all of them
  pub pushed_all : (start whole : List Y) (xs : List X) (place : ℕ) → place ≡ length xs → whole ≡ start ++ map f (take place (enumerate_from 0 xs)) → whole ≡ start ++ map f (enumerate_from 0 xs)
  pushed_all start whole xs place all so_far =
      let size : place ≡ length (enumerate_from 0 xs) = all ∙ sym (length-enumerate_from 0 xs) in
      let every : take place (enumerate_from 0 xs) ≡ enumerate_from 0 xs = ap (λ n. take n (enumerate_from 0 xs)) size ∙ take-length (enumerate_from 0 xs) in
      so_far ∙ ap (λ es. start ++ map f es) every
