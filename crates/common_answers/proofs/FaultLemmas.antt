-- The words of a refusal are short.
use Rattle.std.proofs.Common.{◌≡◌, ◌≤◌, ℕ, List, length, lit≤, sym, subst}
use Rattle.net_model.specs.Formats.{format_word}
use Rattle.net_model.specs.BuiltNetwork.{which_word, build_fault_word}
use Rattle.net_model.specs.declared.format.FormatKind.{FormatKind}
use Rattle.net_model.specs.declared.format.FormatKind.TheVariants as kind
use Rattle.net_model.specs.declared.fault.BuildFault.{BuildFault}
use Rattle.net_model.specs.declared.fault.BuildFault.TheVariants as part
use Rattle.net_model.specs.declared.part.Which.{Which}
use Rattle.net_model.specs.declared.part.Which.TheVariants as which
use Rattle.plan_json.specs.Words.{member_word}
use Rattle.plan_json.specs.declared.fault.Member.{Member}
use Rattle.plan_json.specs.declared.fault.Member.TheVariants as member

format_word_short : (k : FormatKind) → length (format_word k) ≤ 18
format_word_short kind.UnknownWord = lit≤ tt
format_word_short kind.WordCount = lit≤ tt
format_word_short kind.BadName = lit≤ tt
format_word_short kind.BadNumber = lit≤ tt
format_word_short kind.NumberLimit = lit≤ tt
format_word_short kind.NoHeader = lit≤ tt
format_word_short kind.NoEnd = lit≤ tt
format_word_short kind.UnknownName = lit≤ tt

which_word_short : (w : Which) → length (which_word w) ≤ 18
which_word_short which.Points = lit≤ tt
which_word_short which.Links = lit≤ tt
which_word_short which.Bounds = lit≤ tt
which_word_short which.Number = lit≤ tt

part_word_short : (fault : BuildFault) → length (build_fault_word fault) ≤ 18
part_word_short (part.DuplicateName place) = lit≤ tt
part_word_short (part.UnknownName place) = lit≤ tt
part_word_short (part.TwoLinksOnPoint place) = lit≤ tt
part_word_short (part.LinkToItself place) = lit≤ tt
part_word_short (part.BadInterval place) = lit≤ tt
part_word_short (part.Limit w place) = lit≤ tt
part_word_short part.OutOfMemory = lit≤ tt

member_word_short : (member : Member) → length (member_word member) ≤ 7
member_word_short member.Top = lit≤ tt
member_word_short member.Points = lit≤ tt
member_word_short member.Bounds = lit≤ tt
member_word_short member.Between = lit≤ tt
member_word_short member.Links = lit≤ tt

-- words that are given so are short
pub format_words : (word : List ℕ) (k : FormatKind) → word ≡ format_word k → length word ≤ 18
format_words word k is = subst (λ (w : List ℕ). length w ≤ 18) (sym is) (format_word_short k)

pub which_words : (word : List ℕ) (w : Which) → word ≡ which_word w → length word ≤ 18
which_words word w is = subst (λ (w : List ℕ). length w ≤ 18) (sym is) (which_word_short w)

pub part_words : (word : List ℕ) (fault : BuildFault) → word ≡ build_fault_word fault → length word ≤ 18
part_words word fault is = subst (λ (w : List ℕ). length w ≤ 18) (sym is) (part_word_short fault)

pub member_words : (word : List ℕ) (member : Member) → word ≡ member_word member → length word ≤ 7
member_words word member is = subst (λ (w : List ℕ). length w ≤ 7) (sym is) (member_word_short member)
