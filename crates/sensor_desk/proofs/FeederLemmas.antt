-- The posts of one feeder, place by place.
use Rattle.std.proofs.Common.{ℕ, suc, ◌+◌, List, None, refl, sym, subst, suc-mul, arith}
use Rattle.net_model.specs.declared.ids.LinkId.{LinkId}
use Rattle.sensor_desk.specs.Feeders.{IsPostedAt, none, further, IsInTurn}
use Rattle.sensor_desk.specs.Desks.{DeskSeen, DeskSeatSeen, IsSeatOfDesk, Posts}
use Rattle.sensor_desk.specs.declared.feeder.Feeder.{Feeder}
use Rattle.sensor_desk.specs.declared.post_result.Posted.{Posted}

module _ (links : List LinkId) (moment first step : ℕ) (before : Feeder) where
  pub begins : IsInTurn links moment first step before first record { seat = before.seat; met = None }
  begins = record { count = 0; at = omega arith; places = none record { seat = before.seat; met = None } refl }

  pub goes_on : (place : ℕ) (now after : Feeder) → IsInTurn links moment first step before place now → IsPostedAt links moment place now after → IsInTurn links moment first step before (place + step) after
  goes_on place now after turn here =
      let more = suc-mul turn.count step in
      let at = turn.at in record {
        count = suc turn.count;
        at = omega (arith, more, at);
        places = further turn.count now after turn.places (subst (λ (p : ℕ). IsPostedAt links moment p now after) turn.at here);
      }

-- a seat that posted is of the same desk
pub posts_of : (desk : DeskSeen) (before after : DeskSeatSeen) (link : LinkId) (moment : ℕ) (answer : Posted) → IsSeatOfDesk desk before → Posts before after link moment answer → IsSeatOfDesk desk after
posts_of desk before after link moment answer of posts =
    subst (IsSeatOfDesk desk) (sym posts.after_is) (record { desk_is = of.desk_is; about_is = of.about_is })
