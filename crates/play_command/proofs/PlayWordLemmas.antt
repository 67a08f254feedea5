-- What the words of `play` say.
use Rattle.std.proofs.Common.{◌≡◌, ◌↔◌, ℕ, ◌<◌, ◌≤◌, ◌^◌, Bool, true, false, List, [], ◌∷◌, Option, Some, None, codes, refl, sym, ap, ◌∙◌, subst, if◌then◌else◌}
use Rattle.std.specs.Prelude.{slice_get}
use Rattle.std.specs.Fmt.{decimal}
use Rattle.std.specs.Option.{option_map}
use Rattle.std.specs.Str.{bytes_eq}
use Rattle.std.proofs.Common.{lit<}
use Rattle.std.proofs.lemmas.Slice.Eq.{bytes_eq-Decides}
use Rattle.net_model.specs.Numbers.{natural_of}
use Rattle.command_words.specs.Arguments.{operand_texts}
use Rattle.command_words.specs.SpelledWords.{Use}
use Rattle.command_words.specs.Syntax.{Text}
use Rattle.command_contracts.specs.Counts.{number_within}
use Rattle.play_command.specs.PlayCommand.{play_request, play_syntax, play_words}
use Rattle.command_contracts.specs.Requests.{requested_by}
use Rattle.play_command.specs.PlayedSituation.{CanBeNamed, most_situation, which_given, which_of, situation_word}
use Rattle.play_command.specs.Words.{SayPlay}
use Rattle.command_contracts.specs.WorkerCounts.{WorkersDecideNothing}
use Rattle.input_texts.specs.declared.plan_input.PlanForm.{PlanForm}
use Rattle.play_command.specs.declared.plan_day.PlayWords.{PlayWords}
use Rattle.play_command.specs.declared.which_situation.WhichSituation.{WhichSituation}
use Rattle.play_command.specs.declared.which_situation.WhichSituation.TheVariants.{Longest, Shortest, Numbered}
use Rattle.command_contracts.proofs.CountLemmas.{number_is, number_read}
use Rattle.command_contracts.proofs.FormWordLemmas.{form_said, said_form, same_form, says_form}
use Rattle.command_contracts.proofs.OperandLemmas.{one_text}
use Rattle.command_contracts.proofs.WorkersLemmas.{decide_nothing_said, said_by_uses}

small : most_situation < 2 ^ 64
small = lit< tt

-- ---- the word that names a situation

from_number : (word : Text) (which : WhichSituation) (found : Option ℕ) → number_within most_situation word ≡ found → option_map (λ number. Numbered number) found ≡ Some which → (word ≡ situation_word which) × CanBeNamed which
from_number word which None same is = absurd cc
from_number word which (Some number) same is =
    let one : Numbered number ≡ which = cc in
    let spelled = number_is most_situation small word number same in
    subst (λ (w : WhichSituation). (word ≡ situation_word w) × CanBeNamed w) one spelled

-- what a word names is spelled so
named_is : (word : Text) (which : WhichSituation) → which_of word ≡ Some which → (word ≡ situation_word which) × CanBeNamed which
named_is word which = by (bytes_eq word (codes "longest")) refl (bytes_eq word (codes "shortest")) refl
  where
    by : (long : Bool) → bytes_eq word (codes "longest") ≡ long → (short : Bool) → bytes_eq word (codes "shortest") ≡ short
        → (if long then Some Longest else (if short then Some Shortest else option_map (λ number. Numbered number) (number_within most_situation word))) ≡ Some which
        → (word ≡ situation_word which) × CanBeNamed which
    by true long short also is =
        let one : Longest ≡ which = cc in
        subst (λ (w : WhichSituation). (word ≡ situation_word w) × CanBeNamed w) one ((bytes_eq-Decides word (codes "longest")).0 long, tt)
    by false long true also is =
        let one : Shortest ≡ which = cc in
        subst (λ (w : WhichSituation). (word ≡ situation_word w) × CanBeNamed w) one ((bytes_eq-Decides word (codes "shortest")).0 also, tt)
    by false long false also is = from_number word which (number_within most_situation word) refl is

-- a number is no such word
no_number : (number : ℕ) (word : Text) → number_within most_situation word ≡ None → number ≤ most_situation → bytes_eq (decimal number) word ≡ false
no_number number word none within = by (bytes_eq (decimal number) word) refl
  where
    by : (b : Bool) → bytes_eq (decimal number) word ≡ b → b ≡ false
    by false is = refl
    by true is =
        let read = number_read most_situation small number within in
        let same : number_within most_situation (decimal number) ≡ None = ap (number_within most_situation) ((bytes_eq-Decides (decimal number) word).0 is) ∙ none in
        absurd cc

no_longest : number_within most_situation (codes "longest") ≡ None
unfolding natural_of
no_longest = refl

no_shortest : number_within most_situation (codes "shortest") ≡ None
unfolding natural_of
no_shortest = refl

-- and what is spelled so names it
is_named : (which : WhichSituation) → CanBeNamed which → which_of (situation_word which) ≡ Some which
is_named Longest can = refl
is_named Shortest can = refl
is_named (Numbered number) can =
    let long = no_number number (codes "longest") no_longest can in
    let short = no_number number (codes "shortest") no_shortest can in
    rw (long, short) (ap (option_map (λ n. Numbered n)) (number_read most_situation small number can))

-- ---- the words of `play`

abbrev said_words : List Use → Option PlayWords
said_words uses = play_words (said_form uses) (which_given (slice_get (operand_texts uses) 0))

-- the number of workers decides nothing of the day
pub workers_decide_no_day : WorkersDecideNothing play_syntax play_request
workers_decide_no_day =
    decide_nothing_said play_syntax refl play_request said_words (λ uses. refl) refl
    (λ uses others differ. ap (λ (form : Option PlanForm). play_words form (which_given (slice_get (operand_texts uses) 0))) (same_form uses others differ)
    ∙ ap (λ (texts : List Text). play_words (said_form others) (which_given (slice_get texts 0))) differ.operands)

said_day : (given : Option PlanForm) (word : Text) (found : Option WhichSituation) (said : PlayWords) → which_of word ≡ found → play_words given found ≡ Some said
    → (given ≡ Some said.form) × (word ≡ situation_word said.which) × CanBeNamed said.which
said_day None word found said same is = absurd cc
said_day (Some form) word None said same is = absurd cc
said_day (Some form) word (Some which) said same is =
    let one : record { form = form; which = which } ≡ said = cc in
    let named = named_is word which same in
    (ap (λ (s : PlayWords). Some s.form) one, named.0 ∙ ap (λ (s : PlayWords). situation_word s.which) one, subst (λ (s : PlayWords). CanBeNamed s.which) one named.1)

pub play_exactly : (words : List Text) (said : PlayWords) → requested_by play_syntax play_request words ≡ Some said ↔ SayPlay play_syntax said words
play_exactly words said = (to, from)
  where
    to : requested_by play_syntax play_request words ≡ Some said → SayPlay play_syntax said words
    to is =
        let found = (said_by_uses play_syntax refl play_request said_words (λ uses. refl) words said).0 is in
        let uses = found.0.uses in
        let text = one_text uses (codes "WHICH") found.0.says.operands in
        let given : play_words (said_form uses) (which_of text.0) ≡ Some said = ap (λ (texts : List Text). play_words (said_form uses) (which_given (slice_get texts 0))) (sym text.1) ∙ found.1 in
        let day = said_day (said_form uses) text.0 (which_of text.0) said refl given in
        record { say = record { say = found.0; given = says_form uses said.form day.0 }; operands = text.1 ∙ ap (λ (t : Text). t ∷ []) day.1; named = day.2 }

    from : SayPlay play_syntax said words → requested_by play_syntax play_request words ≡ Some said
    from say =
        let uses = say.say.say.uses in
        let given : said_words uses ≡ Some said =
        ap (λ (form : Option PlanForm). play_words form (which_given (slice_get (operand_texts uses) 0))) (form_said uses said.form say.say.given)
        ∙ (ap (λ (texts : List Text). play_words (Some said.form) (which_given (slice_get texts 0))) say.operands
        ∙ ap (play_words (Some said.form)) (is_named said.which say.named)) in
        (said_by_uses play_syntax refl play_request said_words (λ u. refl) words said).1 (say.say.say, given)
