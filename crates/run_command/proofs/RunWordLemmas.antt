-- What the words of `run` say: the form of the plan, a number of workers, and a number of feeders, of which nothing is seen.
use Rattle.std.proofs.Common.{◌≡◌, ◌↔◌, ℕ, ◌<◌, ◌≤◌, ◌^◌, Bool, false, List, ◌∷◌, ◌++◌, Option, Some, None, inl, inr, refl, sym, ap, ◌∙◌, subst, lit<}
use Rattle.std.specs.Fmt.{decimal}
use Rattle.std.specs.Option.{option_and_then, option_map}
use Rattle.net_model.proofs.DecimalSpellingLemmas.{natural_spelled}
use Rattle.desk_feeding.specs.Fed.{most_feeders}
use Rattle.command_words.specs.Arguments.{arguments_by, is_given, text_given}
use Rattle.command_words.specs.SpelledWords.{Use, valued, Spells, Says}
use Rattle.command_words.specs.Syntax.{Text}
use Rattle.input_texts.specs.PlanInput.{json_name}
use Rattle.command_contracts.specs.Counts.{count_within}
use Rattle.command_contracts.specs.PlanWords.{delay_name, form_given}
use Rattle.command_contracts.specs.Requests.{requested_by}
use Rattle.command_contracts.specs.WorkerCounts.{WorkersDecideNothing, workers_name, workers_of}
use Rattle.command_contracts.proofs.CountLemmas.{count_is, count_read}
use Rattle.command_contracts.proofs.FormWordLemmas.{form_said, said_form, same_form, says_form}
use Rattle.command_contracts.proofs.PlaceLemmas.{placed}
use Rattle.command_contracts.proofs.UseLemmas.{alone, given_without, says_other, text_there, text_without}
use Rattle.command_contracts.proofs.WorkersLemmas.{asks, decide_nothing_said, meant, plain_number, said_by_uses}
use Rattle.event_phase.specs.CompletionOrders.{CompletionOrder, as_named, in_order}
use Rattle.input_texts.specs.declared.plan_input.PlanForm.{PlanForm}
use Rattle.run_command.specs.RunCommand.{RunForm, asks_both, feeders_name, completion_order_given, run_request, run_syntax}
use Rattle.run_command.specs.Words.{SayRun, SaysFeeders, SpellsFeeders}

-- ---- the number of workers
abbrev said_run : List Use → Option RunForm
said_run uses = asks_both (said_form uses) (completion_order_given (text_given feeders_name uses))

pub workers_decide_no_run : WorkersDecideNothing run_syntax run_request
workers_decide_no_run =
    decide_nothing_said run_syntax refl run_request said_run (λ uses. refl) refl
    (λ uses others differ. ap (λ (form : Option PlanForm). asks_both form (completion_order_given (text_given feeders_name uses))) (same_form uses others differ)
    ∙ ap (λ (value : Option Text). asks_both (said_form others) (completion_order_given value)) (differ.options feeders_name refl))

-- ---- the number of feeders
few_feeders : most_feeders < 2 ^ 64
few_feeders = lit< tt

says_feeders : (value : Option Text) (completion_order : CompletionOrder) → completion_order_given value ≡ Some completion_order → SaysFeeders value completion_order
says_feeders None completion_order is = let same : as_named ≡ completion_order = cc in sym same
says_feeders (Some word) completion_order is = by (count_within most_feeders word) refl is
  where
    by : (found : Option ℕ) → count_within most_feeders word ≡ found → option_map (λ count. in_order) found ≡ Some completion_order → SaysFeeders (Some word) completion_order
    by None same made = absurd cc
    by (Some count) same made =
        let spelled = count_is most_feeders few_feeders word count same in
        let one : in_order ≡ completion_order = cc in
        (count, spelled.0, spelled.1, spelled.2, sym one)

count_said : (count : ℕ) → 1 ≤ count → count ≤ most_feeders → completion_order_given (Some (decimal count)) ≡ Some in_order
count_said count least most = ap (option_map (λ c. in_order)) (count_read most_feeders few_feeders count least most)

feeders_said : (value : Option Text) (completion_order : CompletionOrder) → SaysFeeders value completion_order → completion_order_given value ≡ Some completion_order
feeders_said None completion_order says = ap (λ (h : CompletionOrder). Some h) (sym says)
feeders_said (Some word) completion_order (count, is, least, most, same) =
    ap (λ (w : Text). completion_order_given (Some w)) is ∙ (count_said count least most ∙ ap (λ (h : CompletionOrder). Some h) (sym same))

-- ---- both
both_requested : (form : Option PlanForm) (completion_order : Option CompletionOrder) (query : RunForm) → asks_both form completion_order ≡ Some query → (form ≡ Some query.form) × (completion_order ≡ Some query.completion_order)
both_requested None None query is = absurd cc
both_requested (Some form) None query is = absurd cc
both_requested None (Some completion_order) query is = absurd cc
both_requested (Some form) (Some completion_order) query is =
    let one : record { form = form; completion_order = completion_order } ≡ query = cc in (ap (λ (a : RunForm). Some a.form) one, ap (λ (a : RunForm). Some a.completion_order) one)

pub run_exactly : (words : List Text) (query : RunForm) → requested_by run_syntax run_request words ≡ Some query ↔ SayRun run_syntax query words
run_exactly words query = (to, from)
  where
    to : requested_by run_syntax run_request words ≡ Some query → SayRun run_syntax query words
    to is =
        let found = (said_by_uses run_syntax refl run_request said_run (λ uses. refl) words query).0 is in
        let uses = found.0.uses in
        let both = both_requested (said_form uses) (completion_order_given (text_given feeders_name uses)) query found.1 in
        record { say = record { say = found.0; given = says_form uses query.form both.0 }; feeders = says_feeders (text_given feeders_name uses) query.completion_order both.1 }

    from : SayRun run_syntax query words → requested_by run_syntax run_request words ≡ Some query
    from say =
        let uses = say.say.say.uses in
        let given : said_run uses ≡ Some query =
        ap (λ (form : Option PlanForm). asks_both form (completion_order_given (text_given feeders_name uses))) (form_said uses query.form say.say.given)
        ∙ ap (asks_both (Some query.form)) (feeders_said (text_given feeders_name uses) query.completion_order say.feeders) in
        (said_by_uses run_syntax refl run_request said_run (λ u. refl) words query).1 (say.say.say, given)

-- ---- how many feeders there are decides nothing
-- what uses ask, by what they give
abbrev given_run : (workers : Option Text) (json : Bool) (delay : Option Text) → Option CompletionOrder → Option RunForm
given_run workers json delay completion_order = option_and_then (λ w. asks_both (form_given json delay) completion_order) (workers_of workers)

module _ (before after : List Use) (none : is_given feeders_name (before ++ after) ≡ false) (count : ℕ) (least : 1 ≤ count) (most : count ≤ most_feeders) where
  abbrev there : List Use
  there = before ++ valued feeders_name (decimal count) ∷ after

  abbrev left : List Use
  left = before ++ after

  asks_there : run_request (arguments_by run_syntax there) ≡ given_run (text_given workers_name left) (is_given json_name left) (text_given delay_name left) (Some in_order)
  asks_there =
      let one = valued feeders_name (decimal count) in
      ap (λ (w : Option Text). given_run w (is_given json_name there) (text_given delay_name there) (completion_order_given (text_given feeders_name there))) (text_without one workers_name refl before after)
      ∙ (ap (λ (j : Bool). given_run (text_given workers_name left) j (text_given delay_name there) (completion_order_given (text_given feeders_name there))) (given_without one json_name refl before after)
      ∙ (ap (λ (d : Option Text). given_run (text_given workers_name left) (is_given json_name left) d (completion_order_given (text_given feeders_name there))) (text_without one delay_name refl before after)
      ∙ ap (given_run (text_given workers_name left) (is_given json_name left) (text_given delay_name left)) (ap completion_order_given (text_there feeders_name (decimal count) before after none) ∙ count_said count least most)))

spelled_feeders : (count : ℕ) (words : List Text) → SpellsFeeders count words → Spells (valued feeders_name (decimal count)) words
spelled_feeders count words (least, most, inl is) = inl (is, plain_number count (decimal count) (natural_spelled most_feeders count most few_feeders))
spelled_feeders count words (least, most, inr is) = inr is

module _ (prefix spelled others back : List Text) (count number : ℕ) (spells : SpellsFeeders count spelled) (also : SpellsFeeders number others) where
  asks_other : (query : RunForm) → requested_by run_syntax run_request (prefix ++ (spelled ++ back)) ≡ Some query → requested_by run_syntax run_request (prefix ++ (others ++ back)) ≡ Some query
  asks_other query is =
      let all = prefix ++ (spelled ++ back) in
      let means = meant run_syntax refl run_request all query is in
      let place = placed run_syntax refl feeders_name (decimal count) refl refl means.0 prefix spelled back means.1.spelled means.1.known (spelled_feeders count spelled spells) in
      let says = subst (Says run_syntax all) place.is means.1 in
      let none = alone run_syntax feeders_name (decimal count) place.before place.after all says in
      let other = says_other run_syntax feeders_name (decimal count) place.before place.after all says (decimal number) prefix others back place.spells_before (spelled_feeders number others also) place.spells_after in
      asks run_syntax refl run_request (prefix ++ (others ++ back)) (place.before ++ valued feeders_name (decimal number) ∷ place.after) other
      ∙ (asks_there place.before place.after none number also.0 also.1
      ∙ (sym (asks_there place.before place.after none count spells.0 spells.1)
      ∙ (ap (λ (uses : List Use). run_request (arguments_by run_syntax uses)) (sym place.is) ∙ means.2)))

pub feeders_ask_same : (prefix spelled others back : List Text) (count number : ℕ) → SpellsFeeders count spelled → SpellsFeeders number others
    → requested_by run_syntax run_request (prefix ++ (spelled ++ back)) ≡ requested_by run_syntax run_request (prefix ++ (others ++ back))
feeders_ask_same prefix spelled others back count number spells also =
    by (requested_by run_syntax run_request (prefix ++ (spelled ++ back))) (requested_by run_syntax run_request (prefix ++ (others ++ back)))
    (asks_other prefix spelled others back count number spells also) (asks_other prefix others spelled back number count also spells)
  where
    by : (one other : Option RunForm) → ((query : RunForm) → one ≡ Some query → other ≡ Some query) → ((query : RunForm) → other ≡ Some query → one ≡ Some query) → one ≡ other
    by None None to from = refl
    by (Some query) other to from = sym (to query refl)
    by None (Some query) to from = from query refl
