-- What `show` puts declares the network of the input, by lines that come, and so has the same answers.
use Rattle.std.proofs.Common.{◌≡◌, ℕ, ◌-◌, ◌≤◌, List, [], ◌∷◌, ◌++◌, length, map, refl, sym, ap, ◌∙◌, subst, arith, codes, append_assoc}
use Rattle.std.specs.List.{All}
use Rattle.std.proofs.lemmas.List.{append-nil}
use Rattle.std.proofs.lemmas.List.Elements.{All-head, All-nil, All-push, All-tail}
use Rattle.texts.specs.Lines.{InputLine, line_size, lines, whole_line}
use Rattle.texts.specs.PrintedLines.{printed_line}
use Rattle.net_model.specs.Network.{HasPlanNumbers, IsPlan, Plan}
use Rattle.plan_format.specs.PlanParts.{end_words}
use Rattle.plan_format.specs.PlanPrinting.{printed_plan}
use Rattle.plan_json.specs.DocumentText.{document_of, document_text}
use Rattle.command_engine.specs.Inputs.{ComeAfter, texts}
use Rattle.command_engine.specs.Limits.{most_input}
use Rattle.input_texts.specs.DocumentSoFar.{most_document}
use Rattle.input_texts.specs.DocumentTexts.{IsInside, bytes_texts, left_after}
use Rattle.input_texts.specs.PlanInput.{in_notation, plan_in}
use Rattle.input_texts.specs.declared.plan_input.Notation.{Notation}
use Rattle.input_texts.specs.declared.plan_input.Notation.TheVariants.{Text, Json}
use Rattle.input_texts.proofs.PlanInputLemmas.{plans_have_the_delay}
use Rattle.multiplexed_commands.proofs.AloneLemmas.{whole_comes}
use Rattle.show_command.specs.ShowAnswers.{shown_plan}
use Rattle.stnu_run.proofs.ClosedTextLemmas.{IsClosed, closed_both, closed_line, input_lines_whole, texts_whole, total_is, total_size}
use Rattle.stnu_run.proofs.ComingLemmas.{come_by}
use Rattle.stnu_run.proofs.PrintedPlanLemmas.{plan_declares, plan_divided, used}
use Rattle.stnu_run.proofs.DeclaredLemmas.{Declares}

-- ---- the lines of a document come
left_more : (most : ℕ) (before : List (List ℕ)) (line : List ℕ) → left_after most (before ++ line ∷ []) ≡ left_after most before - length line
left_more most [] line = refl
left_more most (first ∷ before) line = left_more (most - length first) before line

come_document : (document : List (List ℕ)) (last : List ℕ) (before : List (List ℕ)) (spare_capacity : ℕ) → All IsInside before → All IsInside document → total_size (document ++ last ∷ []) ≤ left_after most_document before
    → total_size (document ++ last ∷ []) ≤ spare_capacity → ComeAfter (bytes_texts 0) before spare_capacity (map whole_line (document ++ last ∷ []))
come_document [] last before spare_capacity seen inside short fits =
    (left_after most_document before, (seen, refl), whole_comes (left_after most_document before) spare_capacity last (omega (arith, short)) (omega (arith, fits)), tt)
come_document (line ∷ document) last before spare_capacity seen inside short fits =
    let more = left_more most_document before line in (
      left_after most_document before,
      (seen, refl),
      whole_comes (left_after most_document before) spare_capacity line (omega (arith, short)) (omega (arith, fits)),
      come_document document last (before ++ line ∷ []) (spare_capacity - line_size (whole_line line)) (All-push IsInside before line seen (All-head IsInside line document inside)) (All-tail IsInside line document inside)
          (omega (arith, short, more)) (omega (arith, fits)),
    )

-- ---- what is put declares the network
closed_document : (net : Plan) → IsClosed (shown_plan Json net)
closed_document net =
    let text = document_text (document_of net) in
    subst IsClosed (append_assoc text (10 ∷ []) (printed_line end_words)) (closed_both (text ++ 10 ∷ []) (printed_line end_words) (closed_line text) (closed_line (codes "end")))

module _ (net : Plan) (plan : IsPlan net) (numbers : HasPlanNumbers net) where
  text_declares : length (printed_plan net) ≤ most_document → Declares (in_notation Text) (printed_plan net) net
  text_declares fits = record { used = used net plan numbers; rest = []; divided = plan_divided net plan numbers; declares = plan_declares net plan numbers (omega (arith, fits)) }

  document_declares : (plan_in (in_notation Json)).declares (lines (shown_plan Json net)) net [] → length (shown_plan Json net) ≤ most_document → Declares (in_notation Json) (shown_plan Json net) net
  document_declares again fits =
      let put : List ℕ = shown_plan Json net in
      let (plain, stated, same) = (plans_have_the_delay (in_notation Json) 0 (lines put) net []).0 again in
      let document = stated.declared in
      let size = total_is put (closed_document net) in
      let whole : lines put ≡ document.document ++ document.last ∷ [] = document.whole in
      let sized : total_size (document.document ++ document.last ∷ []) ≡ length put = ap (λ (ls : List (List ℕ)). total_size ls) (sym whole) ∙ size in
      let come = come_document document.document document.last [] most_input (All-nil IsInside) document.inside (omega (arith, sized, fits)) (omega (arith, sized, fits)) in
      let all : lines put ≡ texts (map whole_line (lines put) ++ []) = sym (ap (λ (ls : List InputLine). texts ls) (append-nil (map whole_line (lines put))) ∙ texts_whole (lines put)) in
      record {
        used = map whole_line (lines put);
        rest = [];
        divided = input_lines_whole put (closed_document net) ∙ sym (append-nil (map whole_line (lines put)));
        declares = record {
          come = come_by (bytes_texts 0) (plan_in (in_notation Json)) (λ seen longest wanted. wanted) (map whole_line (lines put)) [] most_input
              (subst (λ (ls : List (List ℕ)). ComeAfter (bytes_texts 0) [] most_input (map whole_line ls)) (sym whole) come);
          declared = subst (λ (ls : List (List ℕ)). (plan_in (in_notation Json)).declares ls net []) all again;
        };
      }

  pub shown_declares : (notation : Notation) → (plan_in (in_notation notation)).declares (lines (shown_plan notation net)) net [] → length (shown_plan notation net) ≤ most_document → Declares (in_notation notation) (shown_plan notation net) net
  shown_declares Text again fits = text_declares fits
  shown_declares Json again fits = document_declares again fits
