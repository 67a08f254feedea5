-- Reading the words of a line from left to right: the first word that is refused decides.
use Rattle.std.specs.Prelude.{Result, Ok, Err}
use Rattle.net_model.specs.declared.format.FormatKind.{FormatKind}

infixl 10 ◌>>=◌
abbrev pub ◌>>=◌ : {A B : Type 0} → Result A FormatKind → (A → Result B FormatKind) → Result B FormatKind
(Ok x) >>= next = next x
(Err kind) >>= next = Err kind
