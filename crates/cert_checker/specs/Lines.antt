-- When a rule line of a refutation passes, or why it does not. It goes over the text of the certificate alone and derives
-- no edge. The rules are those of Morris and Muscettola 2005, in this project's form.
use Rattle.std.specs.Prelude.{ℕ, ℤ, pos, ◌-ℤ◌, ◌+ℤ◌, ◌==◌, ◌&&◌, not, Bool, true, false, List, Option, Some, None, is_some, is_none, Result, slice_get, nat_le}
use Rattle.std.specs.Prelude.{int_lt, int_le, unsigned_abs, zero, suc}
use Rattle.std.specs.Int.{int_max}
use Rattle.std.specs.Option.{option_and_then, option_map_or}
use Rattle.std.specs.Str.{bytes_eq}
use Rattle.net_model.specs.Limits.{most_weight}
use Rattle.net_model.specs.Network.{Plan, point_named, bound_named, activation}
use Rattle.net_model.specs.declared.ids.PointId.{PointId}
use Rattle.net_model.specs.declared.part.Bound.{Bound}
use Rattle.net_model.specs.declared.part.Link.{Link}
use Rattle.cert_format.specs.JudgementForms.{◌>>=◌, unless, there}
use Rattle.cert_format.specs.declared.line.CertLine.{CertLine}
use Rattle.cert_format.specs.declared.kind.LineKind.{LineKind}
use Rattle.cert_format.specs.declared.kind.LineKind.TheVariants as kind
use Rattle.cert_checker.specs.declared.judgement.CertFault.{CertFault}
use Rattle.cert_checker.specs.declared.judgement.CertFault.TheVariants.{UnknownItem, Premise, RuleCondition, Ends, Label, TooLow, WeightRange}

-- a line passes, or does not for this cause
abbrev pub Passes : Type 0
Passes = Result (Unit {0}) CertFault

-- the link that ends in the point of a name
abbrev pub link_named : Plan → List ℕ → Option Link
link_named net name = option_and_then (λ point. option_and_then (λ link. slice_get net.links link.0) (activation net point)) (point_named net name)

-- the bound of a name
abbrev pub bound_of : Plan → List ℕ → Option Bound
bound_of net name = option_and_then (λ bound. slice_get net.bounds bound.0) (bound_named net name)

-- the point of a name is this one
abbrev pub names_point : Plan → List ℕ → PointId → Bool
names_point net name point = option_map_or (λ p. p.0 == point.0) (point_named net name) false

-- the label of the edge that a line states
abbrev pub label_by : LineKind → Option (List ℕ) → Option (List ℕ)
label_by (kind.Link name) label = Some name
label_by (kind.Up first second) label = label
label_by (kind.Cross name second) label = label
label_by (kind.Bound name) label = None
label_by (kind.No first second) label = None
label_by (kind.Low name second) label = None
label_by (kind.Drop premise) label = None

abbrev pub label_of : CertLine → Option (List ℕ)
label_of line = label_by line.kind line.label

-- two labels are the same
abbrev pub same_label_names : Option (List ℕ) → Option (List ℕ) → Bool
same_label_names (Some x) (Some y) = bytes_eq x y
same_label_names None None = true
same_label_names (Some x) None = false
same_label_names None (Some y) = false

-- the item that a rule names is in the network
abbrev pub item_known : Plan → LineKind → Bool
item_known net (kind.Bound name) = is_some (bound_named net name)
item_known net (kind.Link name) = is_some (link_named net name)
item_known net (kind.Low name second) = is_some (link_named net name)
item_known net (kind.Cross name second) = is_some (link_named net name)
item_known net (kind.No first second) = true
item_known net (kind.Up first second) = true
item_known net (kind.Drop premise) = true

-- the label of a line is a link's
abbrev pub label_known : Plan → Option (List ℕ) → Bool
label_known net label = option_map_or (λ name. is_some (link_named net name)) label true

-- each name of a line is in the network
unfoldable pub names_known : Plan → CertLine → Bool
names_known net line =
    is_some (point_named net line.from) && is_some (point_named net line.to) && item_known net line.kind && label_known net line.label

-- a weight within the limit of those that are judged
abbrev pub in_range : ℤ → Bool
in_range weight = nat_le (unsigned_abs weight) most_weight

-- the line of a number from 1
abbrev pub line_at : {A : Type 0} → List A → ℕ → Option A
line_at lines zero = None
line_at lines (suc k) = slice_get lines k

-- a line's weight is at least the least that its rule gives
abbrev pub at_least : CertLine → ℤ → Passes
at_least line least = unless (int_le least line.weight) (TooLow line.weight least)

-- the label of a line is the one of its premise, which has one
abbrev pub has_label_of : CertLine → CertLine → Bool
has_label_of line premise = is_some (label_of premise) && same_label_names line.label (label_of premise)

-- a line goes from where its premise begins to where it ends
abbrev pub has_ends_of : CertLine → CertLine → Bool
has_ends_of line premise = bytes_eq premise.from line.from && bytes_eq premise.to line.to

-- two premises without labels
abbrev pub are_ordinary : CertLine → CertLine → Bool
are_ordinary first second = is_none (label_of first) && is_none (label_of second)

-- a first premise without a label, and the label of a line that of its second premise
abbrev pub takes_label : CertLine → CertLine → CertLine → Bool
takes_label line first second = is_none (label_of first) && has_label_of line second

-- a weight below 0
abbrev pub is_negative : ℤ → Bool
is_negative weight = int_lt weight (pos 0)

-- a premise of negative weight, and a line whose label is not this link's
abbrev pub may_cross : CertLine → CertLine → List ℕ → Bool
may_cross line second name = is_negative second.weight && not (same_label_names line.label (Some name))

-- the edge of a line goes from a point to a point
abbrev pub goes : Plan → CertLine → PointId → PointId → Bool
goes net line from to = names_point net line.from from && names_point net line.to to

-- the edges of two lines meet, and the edge of a third goes from where the first begins to where the second ends
abbrev pub joins : CertLine → CertLine → CertLine → Bool
joins first second line =
    bytes_eq first.from line.from && bytes_eq first.to second.from && bytes_eq second.to line.to

-- the edge of a line begins where a link ends, and that of another goes from where the link begins to where it ends
abbrev pub reaches_back : Plan → Link → CertLine → CertLine → Bool
reaches_back net link second line =
    names_point net second.from link.to && names_point net line.from link.from && bytes_eq second.to line.to

-- one rule each: the premises, their labels, the condition, the ends, the least weight
unfoldable pub bound_passes : Plan → CertLine → List ℕ → Passes
bound_passes net line name = do
  bound ← there (bound_of net name) UnknownItem
  ends ← unless (goes net line bound.from bound.to) Ends
  at_least line bound.most

unfoldable pub link_passes : Plan → CertLine → List ℕ → Passes
link_passes net line name = do
  link ← there (link_named net name) UnknownItem
  ends ← unless (goes net line link.to link.from) Ends
  at_least line (pos 0 -ℤ link.high)

unfoldable pub sum_passes : CertLine → CertLine → CertLine → Passes
sum_passes first second line = do
  ends ← unless (joins first second line) Ends
  at_least line (first.weight +ℤ second.weight)

unfoldable pub no_passes : List CertLine → CertLine → ℕ → ℕ → Passes
no_passes earlier line i j = do
  first ← there (line_at earlier i) Premise
  second ← there (line_at earlier j) Premise
  labels ← unless (are_ordinary first second) Label
  sum_passes first second line

unfoldable pub up_passes : List CertLine → CertLine → ℕ → ℕ → Passes
up_passes earlier line i j = do
  first ← there (line_at earlier i) Premise
  second ← there (line_at earlier j) Premise
  labels ← unless (takes_label line first second) Label
  sum_passes first second line

unfoldable pub back_passes : Plan → Link → CertLine → CertLine → Passes
back_passes net link second line = do
  ends ← unless (reaches_back net link second line) Ends
  at_least line (link.low +ℤ second.weight)

unfoldable pub low_passes : Plan → List CertLine → CertLine → List ℕ → ℕ → Passes
low_passes net earlier line name j = do
  second ← there (line_at earlier j) Premise
  labels ← unless (is_none (label_of second)) Label
  condition ← unless (is_negative second.weight) RuleCondition
  link ← there (link_named net name) UnknownItem
  back_passes net link second line

unfoldable pub cross_passes : Plan → List CertLine → CertLine → List ℕ → ℕ → Passes
cross_passes net earlier line name j = do
  second ← there (line_at earlier j) Premise
  labels ← unless (has_label_of line second) Label
  condition ← unless (may_cross line second name) RuleCondition
  link ← there (link_named net name) UnknownItem
  back_passes net link second line

unfoldable pub drop_passes : Plan → List CertLine → CertLine → ℕ → Passes
drop_passes net earlier line j = do
  labelled ← there (line_at earlier j) Premise
  label ← there (label_of labelled) Label
  ends ← unless (has_ends_of line labelled) Ends
  link ← there (link_named net label) UnknownItem
  at_least line (int_max labelled.weight (pos 0 -ℤ link.low))

abbrev pub rule_passes : Plan → List CertLine → CertLine → LineKind → Passes
rule_passes net earlier line (kind.Bound name) = bound_passes net line name
rule_passes net earlier line (kind.Link name) = link_passes net line name
rule_passes net earlier line (kind.No first second) = no_passes earlier line first second
rule_passes net earlier line (kind.Up first second) = up_passes earlier line first second
rule_passes net earlier line (kind.Low name second) = low_passes net earlier line name second
rule_passes net earlier line (kind.Cross name second) = cross_passes net earlier line name second
rule_passes net earlier line (kind.Drop premise) = drop_passes net earlier line premise

-- a rule line, by the lines before it
unfoldable pub line_passes : Plan → List CertLine → CertLine → Passes
line_passes net earlier line = do
  names ← unless (names_known net line) UnknownItem
  weight ← unless (in_range line.weight) WeightRange
  rule_passes net earlier line line.kind
