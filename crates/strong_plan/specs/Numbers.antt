-- The numbers of a network of which the least strong schedule is searched.
use Rattle.std.specs.Prelude.{ℕ, ◌+◌, ◌≤◌, unsigned_abs}
use Rattle.std.specs.List.{All}
use Rattle.net_model.specs.Limits.{most_delay, most_number}
use Rattle.net_model.specs.Network.{Plan, IsPlan, HasPlanNumbers}
use Rattle.net_model.specs.ShownForm.{shown_form}
use Rattle.net_model.specs.declared.part.Bound.{Bound}
use Rattle.net_model.specs.declared.part.Link.{Link}

-- the greatest size of a number in the shown form of a plan: that of a plan, and the greatest delay (this project's own choice)
abbrev pub most_shown : ℕ
most_shown = most_number + most_delay

-- the numbers of a network are those that the shown form of a plan may have
pub record HasShownNumbers (net : Plan) : Type 0 where
  pub bounds : All (λ (b : Bound). unsigned_abs b.most ≤ most_shown) net.bounds
  pub links : All (λ (l : Link). unsigned_abs l.high ≤ most_shown) net.links

-- the numbers of a plan are such
abbrev pub PlanNumbersAreShown : Type 0
PlanNumbersAreShown = (net : Plan) → HasPlanNumbers net → HasShownNumbers net

-- and so are those of its shown form, whatever its delay
abbrev pub ShownFormsHaveShownNumbers : Type 0
ShownFormsHaveShownNumbers = (net : Plan) → IsPlan net → HasPlanNumbers net → HasShownNumbers (shown_form net)
