-- The shown form of a network with a delay: the network without a delay in which each contingent point stands for the moment at which its
-- completion is shown. This project's own choice.
use Rattle.std.specs.Prelude.{ℕ, ◌+◌, List, [], ◌∷◌, map, pos, ◌+ℤ◌, ◌-ℤ◌, is_some, if◌then◌else◌}
use Rattle.net_model.specs.Network.{Plan, activation}
use Rattle.net_model.specs.declared.ids.PointId.{PointId}
use Rattle.net_model.specs.declared.part.Bound.{Bound}
use Rattle.net_model.specs.declared.part.Link.{Link}

-- how long after its moment a point is shown: a contingent point the delay, an executable point at once
abbrev pub lag : Plan → PointId → ℕ
lag net point = if is_some (activation net point) then net.delay else 0

-- what a link's durations gain: the delay if its activation is executable
abbrev pub gain : Plan → Link → ℕ
gain net link = if is_some (activation net link.from) then 0 else net.delay

-- A bound in the shown form: looser by what its end lags, tighter by what its start lags. So it has the delay more if its end alone is
-- contingent, the delay less if its start alone is, and else stays.
abbrev pub shown_bound : Plan → Bound → Bound
shown_bound net bound = record bound { most = (bound.most +ℤ pos (lag net bound.to)) -ℤ pos (lag net bound.from) }

-- a link in the shown form: it lasts by the delay longer if its activation point is executable, and as long if that is contingent
abbrev pub shown_link : Plan → Link → Link
shown_link net link = record link { low = link.low +ℤ pos (gain net link); high = link.high +ℤ pos (gain net link) }

-- the shown form: the same points, the bounds and links as they are shown, and the delay 0
abbrev pub shown_form : Plan → Plan
shown_form net = record {
  points = net.points;
  bounds = map (shown_bound net) net.bounds;
  links = map (shown_link net) net.links;
  delay = 0;
}

-- durations in the shown form, of links and as many durations
abbrev pub shown_durations : Plan → List Link → List ℕ → List ℕ
shown_durations net (link ∷ links) (duration ∷ durations) = (duration + gain net link) ∷ shown_durations net links durations
shown_durations net links durations = []

-- a situation in the shown form: each duration as that of its link
abbrev pub shown_situation : Plan → List ℕ → List ℕ
shown_situation net situation = shown_durations net net.links situation
