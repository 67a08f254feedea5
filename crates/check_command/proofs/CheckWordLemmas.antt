-- What the words of `check` say: its flags, the form of the plan, an engine, and a number of workers.
use Rattle.std.proofs.Common.{◌≡◌, ◌↔◌, Bool, true, false, List, Option, Some, None, codes, refl, sym, ap, ◌∙◌, if◌then◌else◌}
use Rattle.std.specs.Option.{option_and_then, option_map}
use Rattle.std.specs.Str.{bytes_eq}
use Rattle.std.proofs.lemmas.Slice.Eq.{bytes_eq-Decides}
use Rattle.command_words.specs.Arguments.{is_given, text_given}
use Rattle.command_words.specs.SpelledWords.{Use}
use Rattle.command_words.specs.Syntax.{Text}
use Rattle.check_command.specs.CheckAnswers.{check_request, check_syntax, proof_name}
use Rattle.check_command.specs.Engines.{SaysEngine, engine_given, engine_name, engine_of, engine_word}
use Rattle.command_contracts.specs.Requests.{requested_by}
use Rattle.check_command.specs.Words.{SayCheckFlags}
use Rattle.command_contracts.specs.WorkerCounts.{WorkersDecideNothing}
use Rattle.input_texts.specs.declared.plan_input.PlanForm.{PlanForm}
use Rattle.check_command.specs.declared.check_question.CheckFlags.{CheckFlags}
use Rattle.check_command.specs.declared.engine.Engine.{Engine}
use Rattle.check_command.specs.declared.engine.Engine.TheVariants.{Rounds, Cells}
use Rattle.command_contracts.proofs.WorkersLemmas.{decide_nothing_said, said_by_uses}
use Rattle.command_contracts.proofs.FormWordLemmas.{form_said, said_form, same_form, says_form}

-- ---- the word that names an engine

-- a word that names one is its word
named_is : (word : Text) (engine : Engine) → engine_of word ≡ Some engine → word ≡ engine_word engine
named_is word engine = by (bytes_eq word (codes "rounds")) refl (bytes_eq word (codes "cells")) refl
  where
    by : (rounds : Bool) → bytes_eq word (codes "rounds") ≡ rounds → (cells : Bool) → bytes_eq word (codes "cells") ≡ cells
        → (if rounds then Some Rounds else (if cells then Some Cells else None)) ≡ Some engine → word ≡ engine_word engine
    by true same cells also is =
        let one : Rounds ≡ engine = cc in
        (bytes_eq-Decides word (codes "rounds")).0 same ∙ ap engine_word one
    by false same true also is =
        let one : Cells ≡ engine = cc in
        (bytes_eq-Decides word (codes "cells")).0 also ∙ ap engine_word one
    by false same false also is = absurd cc

-- and it names that
pub is_named : (engine : Engine) → engine_of (engine_word engine) ≡ Some engine
is_named Rounds = refl
is_named Cells = refl

pub says_engine : (value : Option Text) (engine : Engine) → engine_given value ≡ Some engine → SaysEngine value engine
says_engine None engine is = let one : Rounds ≡ engine = cc in sym one
says_engine (Some word) engine is = named_is word engine is

engine_said : (value : Option Text) (engine : Engine) → SaysEngine value engine → engine_given value ≡ Some engine
engine_said None engine says = ap (λ (e : Engine). Some e) (sym says)
engine_said (Some word) engine says = ap engine_of says ∙ is_named engine

-- ---- the words of `check`

abbrev with_engine : Bool → Option Engine → PlanForm → Option CheckFlags
with_engine proof engine form = option_map (λ e. record { form = form; proof = proof; engine = e }) engine

abbrev pub flags_given : Bool → Option Engine → Option PlanForm → Option CheckFlags
flags_given proof engine form = option_and_then (with_engine proof engine) form

abbrev pub said_flags : List Use → Option CheckFlags
said_flags uses = flags_given (is_given proof_name uses) (engine_given (text_given engine_name uses)) (said_form uses)

pub workers_decide_no_flag : WorkersDecideNothing check_syntax check_request
workers_decide_no_flag =
    decide_nothing_said check_syntax refl check_request said_flags (λ uses. refl) refl
    (λ uses others differ. ap (flags_given (is_given proof_name uses) (engine_given (text_given engine_name uses))) (same_form uses others differ)
    ∙ (ap (λ (proof : Bool). flags_given proof (engine_given (text_given engine_name uses)) (said_form others)) (differ.flags proof_name refl)
    ∙ ap (λ (value : Option Text). flags_given (is_given proof_name others) (engine_given value) (said_form others)) (differ.options engine_name refl)))

-- the flags that are given so
pub record AreGiven (given : Bool) (named : Option Engine) (said : Option PlanForm) (flags : CheckFlags) : Type 0 where
  pub form : said ≡ Some flags.form
  pub proof : given ≡ flags.proof
  pub engine : named ≡ Some flags.engine

pub flags_are : (proof : Bool) (engine : Option Engine) (form : Option PlanForm) (flags : CheckFlags) → flags_given proof engine form ≡ Some flags → AreGiven proof engine form flags
flags_are proof engine None flags made = absurd cc
flags_are proof None (Some form) flags made = absurd cc
flags_are proof (Some engine) (Some form) flags made =
    let one : record { form = form; proof = proof; engine = engine } ≡ flags = cc in
    record { form = ap (λ (f : CheckFlags). Some f.form) one; proof = ap (λ (f : CheckFlags). f.proof) one; engine = ap (λ (f : CheckFlags). Some f.engine) one }

pub given_flags : (proof : Bool) (engine : Option Engine) (form : Option PlanForm) (flags : CheckFlags) → AreGiven proof engine form flags → flags_given proof engine form ≡ Some flags
given_flags proof engine form flags are =
    ap (flags_given proof engine) are.form
    ∙ (ap (λ (e : Option Engine). flags_given proof e (Some flags.form)) are.engine ∙ ap (λ (p : Bool). flags_given p (Some flags.engine) (Some flags.form)) are.proof)

pub check_exactly : (words : List Text) (flags : CheckFlags) → requested_by check_syntax check_request words ≡ Some flags ↔ SayCheckFlags check_syntax flags words
check_exactly words flags = (to, from)
  where
    to : requested_by check_syntax check_request words ≡ Some flags → SayCheckFlags check_syntax flags words
    to is =
        let found = (said_by_uses check_syntax refl check_request said_flags (λ uses. refl) words flags).0 is in
        let uses = found.0.uses in
        let are = flags_are (is_given proof_name uses) (engine_given (text_given engine_name uses)) (said_form uses) flags found.1 in
        record {
          say = record { say = found.0; given = says_form uses flags.form are.form };
          proof = are.proof;
          engine = says_engine (text_given engine_name uses) flags.engine are.engine;
        }

    from : SayCheckFlags check_syntax flags words → requested_by check_syntax check_request words ≡ Some flags
    from say =
        let uses = say.say.say.uses in
        let given = given_flags (is_given proof_name uses) (engine_given (text_given engine_name uses)) (said_form uses) flags
        (record { form = form_said uses flags.form say.say.given; proof = say.proof; engine = engine_said (text_given engine_name uses) flags.engine say.engine }) in
        (said_by_uses check_syntax refl check_request said_flags (λ u. refl) words flags).1 (say.say.say, given)
