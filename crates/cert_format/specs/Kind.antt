-- The kinds of the lines of a refutation.
use Rattle.std.specs.Prelude.{Bool, true, false}
use Rattle.cert_format.specs.declared.kind.LineKind.{LineKind}
use Rattle.cert_format.specs.declared.kind.LineKind.TheVariants.{Up, Cross}

-- the kinds of which a line names the label of its edge
abbrev pub has_label : LineKind → Bool
has_label (Up i j) = true
has_label (Cross name j) = true
has_label others = false
