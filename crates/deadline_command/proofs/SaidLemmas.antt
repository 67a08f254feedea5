-- What the bytes that are put say of the network of an input: by their first line, and by the number in the second.
use Rattle.std.proofs.Common.{◌≡◌, inl, inr, ℕ, ◌<◌, ◌≤◌, ◌^◌, ℤ, ◌≤ℤ◌, unsigned_abs, List, [], ◌∷◌, ◌++◌, Result, Ok, Err, codes, drop, get_or, refl, sym, ap, ◌∙◌, subst, arith, append_assoc, append-nil, lit<}
use Rattle.std.specs.Fmt.{signed_decimal}
use Rattle.std.specs.List.{AllByRecursion}
use Rattle.std.proofs.lemmas.Int.{ints}
use Rattle.std.proofs.lemmas.List.{append_cancel_left}
use Rattle.texts.specs.Lines.{lines}
use Rattle.net_model.specs.Limits.{most_number}
use Rattle.net_model.specs.Numbers.{integer_of, natural_of}
use Rattle.net_model.specs.declared.format.FormatKind.{FormatKind}
use Rattle.net_model.specs.declared.format.FormatKind.TheVariants.{BadNumber}
use Rattle.net_model.proofs.DecimalSpellingLemmas.{integer_spelled, printable_integer}
use Rattle.strategy_model.specs.Control.{IsControllable}
use Rattle.cert_format.specs.CertificateWords.{printed_certificate}
use Rattle.cert_format.specs.declared.certificate.Certificate.{Certificate}
use Rattle.command_engine.specs.Inputs.{AnswersLineOrRefuses, last_before}
use Rattle.command_engine.specs.declared.endings.End.{End}
use Rattle.command_engine.proofs.InputLemmas.{value_one}
use Rattle.common_answers.specs.Faults.{fault_line, refusing}
use Rattle.common_answers.specs.VerdictLines.{controllable_line, refuted_line}
use Rattle.common_answers.specs.declared.faults.Fault.{Fault}
use Rattle.deadline_search.specs.Answers.{IsAnswerOf}
use Rattle.deadline_search.specs.Deadlines.{highest, lowest}
use Rattle.deadline_search.specs.declared.answer.Deadline.{Deadline}
use Rattle.deadline_search.specs.declared.answer.Deadline.TheVariants.{NotControllable, Never, Least, Floor}
use Rattle.deadline_command.specs.DeadlineAnswers.{at_lowest, deadline_answers, deadline_line, deadline_start, deadline_text, kept_text, no_deadline}
use Rattle.deadline_command.specs.DeadlinePromise.{HasNoDeadline, IsPromised}
use Rattle.deadline_command.specs.Points.{PlanPoints, goal_number, bounds_limit_fault, points_in, points_reader}
use Rattle.deadline_command.specs.declared.points.DeadlineWords.{DeadlineWords}
use Rattle.deadline_command.proofs.GrammarLemmas.{points_by_grammar}

abbrev first_byte : List ℕ → ℕ
first_byte bytes = get_or bytes 0 0

-- ---- the first line
no_refusal_is_controllable : (fault : Fault) (more : List ℕ) → fault_line fault ≡ controllable_line ++ more → ⊥
no_refusal_is_controllable fault more same = let byte : ◌≡◌ {A = ℕ} 101 99 = ap first_byte same in omega arith

no_refusal_is_refuted : (fault : Fault) (more : List ℕ) → fault_line fault ≡ refuted_line ++ more → ⊥
no_refusal_is_refuted fault more same = let byte : ◌≡◌ {A = ℕ} 101 110 = ap first_byte same in omega arith

refuted_is_none : (more others : List ℕ) → refuted_line ++ more ≡ controllable_line ++ others → ⊥
refuted_is_none more others same = let byte : ◌≡◌ {A = ℕ} 110 99 = ap first_byte same in omega arith

-- what is put of a network begins with that line exactly if it is controllable
yes : (words : DeadlineWords) (query : PlanPoints) (deadline : Deadline) → IsAnswerOf query.net query.from query.to deadline → (more : List ℕ) → deadline_text words deadline ≡ controllable_line ++ more → IsControllable query.net
yes words query (NotControllable cert) is more same = absurd (refuted_is_none (printed_certificate cert) more same)
yes words query (Never name cert) is more same = is.controllable
yes words query (Least name most proof cert) is more same = is.controllable
yes words query (Floor name proof) is more same = is.controllable

no : (words : DeadlineWords) (query : PlanPoints) (deadline : Deadline) → IsAnswerOf query.net query.from query.to deadline → (more : List ℕ) → deadline_text words deadline ≡ refuted_line ++ more → IsControllable query.net → ⊥
no words query (NotControllable cert) is more same = is.0
no words query (Never name cert) is more same = absurd (refuted_is_none more _ (sym same))
no words query (Least name most proof cert) is more same = absurd (refuted_is_none more _ (sym same))
no words query (Floor name proof) is more same = absurd (refuted_is_none more _ (sym same))

-- ---- the second line
abbrev after_names : DeadlineWords → List ℕ → List ℕ
after_names words rest = codes "deadline" ++ ((32 ∷ words.from) ++ ((32 ∷ words.to) ++ (32 ∷ [] ++ rest)))

line_is : (words : DeadlineWords) (said rest : List ℕ) → deadline_line words said ++ rest ≡ after_names words (said ++ 10 ∷ rest)
line_is words said rest =
    let from : List ℕ = 32 ∷ words.from in
    let to : List ℕ = 32 ∷ words.to in
    let last : List ℕ = 32 ∷ said in
    let end : List ℕ = 10 ∷ rest in
    append_assoc (codes "deadline" ++ (from ++ (to ++ (last ++ [])))) (10 ∷ []) rest
    ∙ (append_assoc (codes "deadline") (from ++ (to ++ (last ++ []))) end
    ∙ ap (λ (bytes : List ℕ). codes "deadline" ++ bytes)
    (append_assoc from (to ++ (last ++ [])) end
    ∙ ap (λ (bytes : List ℕ). from ++ bytes) (append_assoc to (last ++ []) end ∙ ap (λ (bytes : List ℕ). to ++ (bytes ++ end)) (append-nil last))))

names_one : (words : DeadlineWords) (rest other : List ℕ) → after_names words rest ≡ after_names words other → rest ≡ other
names_one words rest other same =
    append_cancel_left (32 ∷ []) rest other
    (append_cancel_left (32 ∷ words.to) (32 ∷ [] ++ rest) (32 ∷ [] ++ other)
    (append_cancel_left (32 ∷ words.from) ((32 ∷ words.to) ++ (32 ∷ [] ++ rest)) ((32 ∷ words.to) ++ (32 ∷ [] ++ other))
    (append_cancel_left (codes "deadline") ((32 ∷ words.from) ++ ((32 ∷ words.to) ++ (32 ∷ [] ++ rest))) ((32 ∷ words.from) ++ ((32 ∷ words.to) ++ (32 ∷ [] ++ other))) same)))

-- what stands before a line end
abbrev IsPlain : List ℕ → Type 0
IsPlain bytes = AllByRecursion (λ byte. 31 < byte) bytes

plain_of : (bytes : List ℕ) → AllByRecursion (λ byte. 32 < byte) bytes → IsPlain bytes
plain_of [] above = tt
plain_of (byte ∷ bytes) above = let first : 32 < byte = above.0 in (omega arith, plain_of bytes above.1)

before_end : (said other rest more : List ℕ) → IsPlain said → IsPlain other → said ++ 10 ∷ rest ≡ other ++ 10 ∷ more → said ≡ other
before_end [] [] rest more plain also same = refl
before_end [] (byte ∷ other) rest more plain also same = let here : 10 ≡ byte = ap first_byte same in let above : 31 < byte = also.0 in absurd (omega arith)
before_end (byte ∷ said) [] rest more plain also same = let here : byte ≡ 10 = ap first_byte same in let above : 31 < byte = plain.0 in absurd (omega arith)
before_end (byte ∷ said) (next ∷ other) rest more plain also same =
    let here : byte ≡ next = ap first_byte same in
    let later : said ++ 10 ∷ rest ≡ other ++ 10 ∷ more = ap (drop 1) same in
    ap (λ (b : ℕ). b ∷ said) here ∙ ap (λ (bs : List ℕ). next ∷ bs) (before_end said other rest more plain.1 also.1 later)

said_one : (words : DeadlineWords) (said other rest more : List ℕ) → IsPlain said → IsPlain other → kept_text words said rest ≡ kept_text words other more → said ≡ other
said_one words said other rest more plain also same =
    before_end said other rest more plain also
    (names_one words (said ++ 10 ∷ rest) (other ++ 10 ∷ more)
    (sym (line_is words said rest) ∙ (append_cancel_left controllable_line (deadline_line words said ++ rest) (deadline_line words other ++ more) same ∙ line_is words other more)))

-- a number of a plan is spelled in one way
small_number : most_number < 2 ^ 63
small_number = lit< tt

plain_number : (n : ℤ) → unsigned_abs n ≤ most_number → IsPlain (signed_decimal n)
plain_number n within = plain_of (signed_decimal n) (printable_integer n (omega (arith, within))).plain

read_number : (n : ℤ) → unsigned_abs n ≤ most_number → integer_of most_number (signed_decimal n) ≡ Ok n
read_number n within = integer_spelled most_number n within small_number

number_one : (n m : ℤ) → unsigned_abs n ≤ most_number → unsigned_abs m ≤ most_number → signed_decimal n ≡ signed_decimal m → n ≡ m
number_one n m within also same =
    let both : ◌≡◌ {A = Result ℤ FormatKind} (Ok n) (Ok m) = sym (read_number n within) ∙ (ap (integer_of most_number) same ∙ read_number m also) in cc

none_is_no_number : integer_of most_number no_deadline ≡ Err BadNumber
unfolding integer_of natural_of
none_is_no_number = refl

floor_is_no_number : integer_of most_number at_lowest ≡ Err BadNumber
unfolding integer_of natural_of
floor_is_no_number = refl

no_number : (word : List ℕ) (n : ℤ) → integer_of most_number word ≡ Err BadNumber → unsigned_abs n ≤ most_number → word ≡ signed_decimal n → ⊥
no_number word n bad within same =
    let both : ◌≡◌ {A = Result ℤ FormatKind} (Err BadNumber) (Ok n) = sym bad ∙ (ap (integer_of most_number) same ∙ read_number n within) in absurd cc

within_plan : (n : ℤ) → lowest ≤ℤ n → n ≤ℤ highest → unsigned_abs n ≤ most_number
within_plan n low high = omega (arith, ints, low, high)

none_plain : IsPlain no_deadline
none_plain = (omega arith, (omega arith, (omega arith, (omega arith, tt))))

lowest_plain : IsPlain at_lowest
lowest_plain = (omega arith, (omega arith, (omega arith, (omega arith, (omega arith, (omega arith, (omega arith, (omega arith, plain_number lowest (omega arith)))))))))

lowest_is_no_none : at_lowest ≡ no_deadline → ⊥
lowest_is_no_none same = let byte : ◌≡◌ {A = ℕ} 97 110 = ap first_byte same in omega arith

promised : (words : DeadlineWords) (query : PlanPoints) (deadline : Deadline) → IsAnswerOf query.net query.from query.to deadline → (most : ℤ) (more : List ℕ) → unsigned_abs most ≤ most_number
    → deadline_text words deadline ≡ kept_text words (signed_decimal most) more → IsPromised query most
promised words query (NotControllable cert) is most more within same = absurd (refuted_is_none (printed_certificate cert) (deadline_line words (signed_decimal most) ++ more) same)
promised words query (Never name cert) is most more within same =
    absurd (no_number no_deadline most none_is_no_number within (said_one words no_deadline (signed_decimal most) (printed_certificate cert) more none_plain (plain_number most within) same))
promised words query (Least name other proof cert) is most more within same =
    let deadline = is.says.tightest.deadline in
    let small = within_plan other deadline.from_lowest deadline.to_highest in
    let one = number_one other most small within (said_one words (signed_decimal other) (signed_decimal most) (printed_certificate proof ++ printed_certificate cert) more (plain_number other small) (plain_number most within) same) in
    subst (IsPromised query) one (record { name = name; named = is.named; tightest = is.says.tightest })
promised words query (Floor name proof) is most more within same =
    absurd (no_number at_lowest most floor_is_no_number within (said_one words at_lowest (signed_decimal most) (printed_certificate proof) more lowest_plain (plain_number most within) same))

-- no number is said if there is none, or if it is the least
no_number_said : (words : DeadlineWords) (said : List ℕ) (name : List ℕ) (query : PlanPoints) (most : ℤ) (proof cert : Certificate) → IsAnswerOf query.net query.from query.to (Least name most proof cert) → IsPlain said
    → integer_of most_number said ≡ Err BadNumber → (more : List ℕ) → deadline_text words (Least name most proof cert) ≡ kept_text words said more → ⊥
no_number_said words said name query most proof cert is plain bad more same =
    let deadline = is.says.tightest.deadline in
    let small = within_plan most deadline.from_lowest deadline.to_highest in
    no_number said most bad small (sym (said_one words (signed_decimal most) said (printed_certificate proof ++ printed_certificate cert) more (plain_number most small) plain same))

at_lowest_promised : (words : DeadlineWords) (query : PlanPoints) (deadline : Deadline) → IsAnswerOf query.net query.from query.to deadline → (more : List ℕ) → deadline_text words deadline ≡ kept_text words at_lowest more
    → IsPromised query lowest
at_lowest_promised words query (NotControllable cert) is more same = absurd (refuted_is_none (printed_certificate cert) (deadline_line words at_lowest ++ more) same)
at_lowest_promised words query (Never name cert) is more same = absurd (lowest_is_no_none (sym (said_one words no_deadline at_lowest (printed_certificate cert) more none_plain lowest_plain same)))
at_lowest_promised words query (Least name most proof cert) is more same = absurd (no_number_said words at_lowest name query most proof cert is lowest_plain floor_is_no_number more same)
at_lowest_promised words query (Floor name proof) is more same = record { name = name; named = is.named; tightest = is.says.tightest }

none_promised : (words : DeadlineWords) (query : PlanPoints) (deadline : Deadline) → IsAnswerOf query.net query.from query.to deadline → (more : List ℕ) → deadline_text words deadline ≡ kept_text words no_deadline more
    → HasNoDeadline query
none_promised words query (NotControllable cert) is more same = absurd (refuted_is_none (printed_certificate cert) (deadline_line words no_deadline ++ more) same)
none_promised words query (Never name cert) is more same = record { name = name; named = is.named; none = is.says.none }
none_promised words query (Least name most proof cert) is more same = absurd (no_number_said words no_deadline name query most proof cert is none_plain none_is_no_number more same)
none_promised words query (Floor name proof) is more same = absurd (lowest_is_no_none (said_one words at_lowest no_deadline (printed_certificate proof) more lowest_plain none_plain same))

-- ---- of an input
module _ (words : DeadlineWords) (input put : List ℕ) (end : End) (answers : AnswersLineOrRefuses (points_in words) refusing (deadline_answers words) input put end) where
  -- what is put first of the network that the input declares says this of it
  says_by : {Says : PlanPoints → Type 0} (before : List ℕ) → ((fault : Fault) → fault_line fault ≡ before → ⊥)
      → ((query : PlanPoints) (deadline : Deadline) → IsAnswerOf query.net query.from query.to deadline → deadline_text words deadline ≡ before → Says query)
      → put ≡ before → (query : PlanPoints) (rest : List (List ℕ)) → (points_in words).declares (lines input) query rest → Says query
  says_by {Says} before none so same query rest declared = by answers
    where
      by : AnswersLineOrRefuses (points_in words) refusing (deadline_answers words) input put end → Says query
      by (inl (other, after, is, inl puts)) =
          let one = (value_one points_reader (deadline_start words).text 0 (points_in words) (points_by_grammar words) (lines input) other query after rest is declared).0 in
          subst Says one (so other puts.deadline puts.is (sym puts.text ∙ same))
      by (inl (other, after, is, inr puts)) = absurd (none (bounds_limit_fault (goal_number words.notation (last_before after (lines input)))) (sym puts.line ∙ same))
      by (inr (fault, first, puts)) = absurd (none fault (sym puts.0 ∙ same))

  pub yes_by : (more : List ℕ) → put ≡ controllable_line ++ more → (query : PlanPoints) (rest : List (List ℕ)) → (points_in words).declares (lines input) query rest → IsControllable query.net
  yes_by more = says_by (controllable_line ++ more) (λ fault. no_refusal_is_controllable fault more) (λ query deadline is. yes words query deadline is more)

  pub no_by : (more : List ℕ) → put ≡ refuted_line ++ more → (query : PlanPoints) (rest : List (List ℕ)) → (points_in words).declares (lines input) query rest → IsControllable query.net → ⊥
  no_by more = says_by (refuted_line ++ more) (λ fault. no_refusal_is_refuted fault more) (λ query deadline is. no words query deadline is more)

  pub promised_by : (most : ℤ) (more : List ℕ) → unsigned_abs most ≤ most_number → put ≡ kept_text words (signed_decimal most) more → (query : PlanPoints) (rest : List (List ℕ)) → (points_in words).declares (lines input) query rest
      → IsPromised query most
  promised_by most more within =
      says_by (kept_text words (signed_decimal most) more) (λ fault. no_refusal_is_controllable fault (deadline_line words (signed_decimal most) ++ more)) (λ query deadline is. promised words query deadline is most more within)

  pub at_lowest_by : (more : List ℕ) → put ≡ kept_text words at_lowest more → (query : PlanPoints) (rest : List (List ℕ)) → (points_in words).declares (lines input) query rest → IsPromised query lowest
  at_lowest_by more =
      says_by (kept_text words at_lowest more) (λ fault. no_refusal_is_controllable fault (deadline_line words at_lowest ++ more)) (λ query deadline is. at_lowest_promised words query deadline is more)

  pub none_by : (more : List ℕ) → put ≡ kept_text words no_deadline more → (query : PlanPoints) (rest : List (List ℕ)) → (points_in words).declares (lines input) query rest → HasNoDeadline query
  none_by more =
      says_by (kept_text words no_deadline more) (λ fault. no_refusal_is_controllable fault (deadline_line words no_deadline ++ more)) (λ query deadline is. none_promised words query deadline is more)
