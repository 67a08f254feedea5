-- What the rules give with an edge and does not stand among others, rule by rule.
use Rattle.std.specs.Prelude.{Bool, false, ◌||◌, not, List, Option}
use Rattle.std.specs.List.{list_any}
use Rattle.std.specs.Option.{option_map_or}
use Rattle.net_model.specs.Network.{Plan}
use Rattle.net_model.specs.Rules.{no_case, upper_case, lower_case, cross_case}
use Rattle.net_model.specs.declared.part.Edge.{Edge}
use Rattle.cert_checker.specs.Tables.{link_ids, stands_among}

-- an edge is given that does not stand among these
abbrev pub is_unsaturated : List Edge → Option Edge → Bool
is_unsaturated edges given = option_map_or (λ edge. not (stands_among edges edge)) given false

-- with one of them before it, by no-case or upper-case
abbrev pub is_open_before : List Edge → Edge → Bool
is_open_before edges second = list_any (λ first. is_unsaturated edges (no_case first second) || is_unsaturated edges (upper_case first second)) edges

-- with a link before it, by lower-case or cross-case
abbrev pub is_open_after : Plan → List Edge → Edge → Bool
is_open_after net edges second = list_any (λ name. is_unsaturated edges (lower_case net name second) || is_unsaturated edges (cross_case net name second))
    (link_ids net)
