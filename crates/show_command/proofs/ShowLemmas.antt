-- What `show` puts is read again.
use Rattle.std.proofs.Common.{◌≡◌, ℕ, List, [], ◌∷◌, ◌++◌, refl, sym, ap, ◌∙◌, subst, append_assoc, codes}
use Rattle.texts.specs.Lines.{lines}
use Rattle.texts.specs.PrintedLines.{printed_line}
use Rattle.texts.specs.Words.{words}
use Rattle.texts.proofs.LineLemmas.{lines_is}
use Rattle.texts.proofs.WordLemmas.{words_is}
use Rattle.net_model.specs.Network.{Plan, IsPlan, HasPlanNumbers}
use Rattle.plan_format.specs.PlanParts.{end_words}
use Rattle.plan_format.specs.PlanPrinting.{printed_plan}
use Rattle.plan_format.proofs.RoundTripLemmas.{declares_back}
use Rattle.plan_json.specs.DocumentReading.{declared}
use Rattle.plan_json.specs.DocumentText.{DocumentsStandInInputs, DocumentReadsBack, document_of, document_text}
use Rattle.command_engine.specs.declared.endings.End.{End}
use Rattle.command_engine.specs.declared.endings.End.TheVariants as ends
use Rattle.input_texts.specs.PlanInput.{in_notation, plan_in}
use Rattle.show_command.specs.ShowAnswers.{PutsPlan, show_answers, shown_plan}
use Rattle.input_texts.specs.declared.plan_input.Notation.TheVariants.{Text, Json}
use Rattle.show_command.specs.declared.show_question.Show.{Show}
use Rattle.input_texts.proofs.DocumentLemmas.{document_declares as declares_so}
use Rattle.input_texts.proofs.PlanInputLemmas.{declared_own}
use Rattle.input_texts.proofs.PlanLemmas.{declares_network}

-- the printed plan declares its network
pub text_put : (net : Plan) (put : List ℕ) → IsPlan net → HasPlanNumbers net → put ≡ printed_plan net → PutsPlan Text net put ends.Done
text_put net put plan numbers is = record {
  is = is;
  again = subst (λ (text : List ℕ). (plan_in (in_notation Text)).declares (lines text) net []) (sym is)
      (declared_own Text (lines (printed_plan net)) net [] ((declares_network 0 (lines (printed_plan net)) net []).1 (declares_back net plan numbers)));
  done = refl;
}

-- the line after a document ends it
end_line : lines (printed_line end_words) ≡ codes "end" ∷ []
end_line = sym (lines_is (printed_line end_words))

end_ends : words (codes "end") ≡ end_words
end_ends = sym (words_is (codes "end"))

document_declares : DocumentsStandInInputs → (net : Plan) → IsPlan net → HasPlanNumbers net → DocumentReadsBack (document_text (document_of net)) net
    → (plan_in (in_notation Json)).declares (lines (document_text (document_of net) ++ 10 ∷ printed_line end_words)) net []
document_declares law net plan numbers back =
    let stands = law net plan numbers in
    let whole = stands.lines_are (printed_line end_words) ∙ ap (λ (ls : List (List ℕ)). stands.pieces ++ ls) end_line in
    subst (λ (ls : List (List ℕ)). (plan_in (in_notation Json)).declares ls net []) (sym whole)
    (declared_own Json (stands.pieces ++ codes "end" ∷ []) net [] (declares_so 0 stands.pieces (codes "end") [] back.plan net stands.inside end_ends (ap declared (sym stands.text_is) ∙ back.said) back.same))

-- the document and the line after it declare the network
pub document_put : DocumentsStandInInputs → (net : Plan) (text put : List ℕ) → IsPlan net → HasPlanNumbers net → text ≡ document_text (document_of net) → DocumentReadsBack text net
    → put ≡ (text ++ 10 ∷ []) ++ printed_line end_words → PutsPlan Json net put ends.Done
document_put law net text put plan numbers is back puts =
    let all : put ≡ shown_plan Json net = puts ∙ (append_assoc text (10 ∷ []) (printed_line end_words) ∙ ap (λ (t : List ℕ). t ++ 10 ∷ printed_line end_words) is) in
    let read : DocumentReadsBack (document_text (document_of net)) net = subst (λ (t : List ℕ). DocumentReadsBack t net) is back in
    record {
      is = all;
      again = subst (λ (t : List ℕ). (plan_in (in_notation Json)).declares (lines t) net []) (sym all) (document_declares law net plan numbers read);
      done = refl;
    }

pub show_answers_once : (show : Show) (net : Plan) (a b : List ℕ) (x y : End) → show_answers show net a x → show_answers show net b y → (a ≡ b) × (x ≡ y)
show_answers_once show net a b x y one other = (one.is ∙ sym other.is, one.done ∙ sym other.done)
