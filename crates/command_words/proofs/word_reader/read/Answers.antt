use Rattle.std.proofs.Common.{◌≡◌, ap, refl, sym, ◌∙◌, map, true, true≢false, subst, string_bytes, inl, inr, IfOk}
use Rattle.clap.specs.Words.{app_of, found_of, is_simple, fault_of, kind_of, HasKind, IsAmong}
use Rattle.clap.specs.Faults.{is_simple_and_free}
use Rattle.clap.specs.declared.error.kind.ErrorKind.TheVariants.{OutOfMemory}
use Rattle.clap.specs.Simple.{matches_of}
use Rattle.command_words.specs.ClapRules.{app_for}
use Rattle.command_words.proofs.ReadLemmas.{words_say, words_say_nothing, app_is_simple, app_is_free}
use Rattle.std.proofs.Common.{None}
use Rattle.std.proofs.lemmas.Result.{IfOk-weaker}
use Rattle.command_words.specs.Arguments.{IsMeaning}
use Rattle.command_words.specs.ArgumentReading.{arguments_of}
use Rattle.command_words.proofs.LawLemmas.{read_means, refused_words}
use Rattle.command_words.proofs.word_reader.read.Goals as goal

pub returns-in-Ok-clause-reading : goal.returns-in-Ok-clause-reading
returns-in-Ok-clause-reading c =
    let app = c.in_ok-command.ensures in
    let syntax = c.args.syntax.now in
    let words = map string_bytes c.args.words.now in
    let found = found_of c.in-Ok.matches in
    let simple : is_simple (app_of c.in_ok-command.command) ≡ true = ap is_simple app ∙ app_is_simple syntax c.requires in
    let free : is_simple_and_free (app_of c.in_ok-command.command) ≡ true = ap is_simple_and_free app ∙ app_is_free syntax c.requires in
    let rows = (c.in-Ok.ensures.matches simple).0 ∙ ap (λ a. matches_of a words) app in
    let none = sym (ap (λ a. fault_of a words) app) ∙ c.in-Ok.ensures.kinds free in
    let plain = sym c.has_refused.ensures ∙ c.if-has_refused.false in
    subst (λ s. IfOk c.arguments_in.result (λ arguments. arguments ≡ s)) (words_say syntax c.requires words found rows plain none) c.arguments_in.ensures

pub returns-else-eq-clause-reading : goal.returns-else-eq-clause-reading
returns-else-eq-clause-reading c =
    let app = c.in_ok-command.ensures in
    let syntax = c.args.syntax.now in
    let words = map string_bytes c.args.words.now in
    let free : is_simple_and_free (app_of c.in_ok-command.command) ≡ true = ap is_simple_and_free app ∙ app_is_free syntax c.requires in
    let kinds : HasKind (fault_of (app_for syntax) words) c.in-Err.error = subst (λ a. HasKind (fault_of a words) c.in-Err.error) app (c.in-Err.ensures.kinds free) in
    sym (words_say_nothing syntax c.requires words (sym c.has_refused.ensures ∙ c.if-has_refused.false) (λ none. elim kinds [
      | inl memory ↦
          let is : c.kind.result ≡ OutOfMemory = c.kind.ensures ∙ memory in
          let same : c.eq.result ≡ true = rw (c.eq.ensures, is) refl in
          absurd (true≢false (sym same ∙ c.if-eq.false))
      | inr among ↦ subst (IsAmong (kind_of c.in-Err.error)) none among
    ]))

pub returns-then-has_refused-clause-meaning : goal.returns-then-has_refused-clause-meaning
returns-then-has_refused-clause-meaning c =
    let words = map string_bytes c.args.words.now in
    read_means c.args.syntax.now c.requires words None (refused_words c.args.syntax.now words (sym c.has_refused.ensures ∙ c.if-has_refused.true))

pub returns-in-Ok-clause-meaning : goal.returns-in-Ok-clause-meaning
returns-in-Ok-clause-meaning c =
    let syntax = c.args.syntax.now in
    let words = map string_bytes c.args.words.now in
    IfOk-weaker c.arguments_in.result (λ found. found ≡ arguments_of syntax words) (IsMeaning syntax words) (read_means syntax c.requires words) (returns-in-Ok-clause-reading c)

pub returns-else-eq-clause-meaning : goal.returns-else-eq-clause-meaning
returns-else-eq-clause-meaning c = read_means c.args.syntax.now c.requires (map string_bytes c.args.words.now) None (returns-else-eq-clause-reading c)
