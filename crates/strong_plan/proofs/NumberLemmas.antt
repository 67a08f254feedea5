-- The numbers of a plan, and those of its shown form, are numbers that the shown form of a plan may have.
use Rattle.std.proofs.Common.{◌≡◌, ℕ, ℤ, pos, ◌≤◌, ◌+ℤ◌, ◌-ℤ◌, true, arith, get_or}
use Rattle.std.specs.Prelude.{unsigned_abs, is_some}
use Rattle.std.proofs.lemmas.Bool.{leb-true}
use Rattle.std.proofs.lemmas.Int.{ints}
use Rattle.std.proofs.lemmas.List.Elements.{All-map}
use Rattle.net_model.specs.Limits.{within_limit}
use Rattle.net_model.specs.Network.{activation}
use Rattle.net_model.specs.ShownForm.{lag, gain, shown_bound, shown_link}
use Rattle.net_model.specs.declared.part.Bound.{Bound}
use Rattle.net_model.specs.declared.part.Link.{Link}
use Rattle.net_model.proofs.ShownLemmas.{at_most_delay, at_most_gain}
use Rattle.strong_plan.specs.Numbers.{PlanNumbersAreShown, ShownFormsHaveShownNumbers, most_shown}

small : (n : ℤ) → within_limit n ≡ true → unsigned_abs n ≤ 1000000000
small n fits = leb-true (unsigned_abs n) 1000000000 fits

pub law_plan_numbers_are_shown : PlanNumbersAreShown
law_plan_numbers_are_shown net numbers = record {
  bounds = λ k b inside. let fits = small (get_or net.bounds k b).most (numbers.bounds k b inside) in omega (arith, fits);
  links = λ k l inside. let fits = small (get_or net.links k l).high (numbers.links k l inside) in omega (arith, fits);
}

both_fit : (n : ℤ) (a b : ℕ) → a ≤ 1000000 → b ≤ 1000000 → unsigned_abs n ≤ 1000000000 → unsigned_abs ((n +ℤ pos a) -ℤ pos b) ≤ most_shown
both_fit n a b least more within = grind (arith, ints)

one_fits : (n : ℤ) (a : ℕ) → a ≤ 1000000 → unsigned_abs n ≤ 1000000000 → unsigned_abs (n +ℤ pos a) ≤ most_shown
one_fits n a least within = grind (arith, ints)

pub law_shown_forms_have_shown_numbers : ShownFormsHaveShownNumbers
law_shown_forms_have_shown_numbers net plan numbers = record {
  bounds = All-map (λ (b : Bound). unsigned_abs b.most ≤ most_shown) (shown_bound net) net.bounds (λ k b inside. bound_fits (get_or net.bounds k b) (numbers.bounds k b inside));
  links = All-map (λ (l : Link). unsigned_abs l.high ≤ most_shown) (shown_link net) net.links (λ k l inside. link_fits (get_or net.links k l) (numbers.links k l inside));
}
  where
    short : net.delay ≤ 1000000
    short = plan.short_delay

    bound_fits : (b : Bound) → within_limit b.most ≡ true → unsigned_abs (shown_bound net b).most ≤ most_shown
    bound_fits b fits =
        let to = at_most_delay (is_some (activation net b.to)) net.delay in
        let from = at_most_delay (is_some (activation net b.from)) net.delay in
        both_fit b.most (lag net b.to) (lag net b.from) (omega (arith, short, to)) (omega (arith, short, from)) (small b.most fits)

    link_fits : (l : Link) → within_limit l.high ≡ true → unsigned_abs (shown_link net l).high ≤ most_shown
    link_fits l fits =
        let more = at_most_gain (is_some (activation net l.from)) net.delay in
        one_fits l.high (gain net l) (omega (arith, short, more)) (small l.high fits)
