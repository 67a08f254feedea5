-- The text of the document of a network can come before a line `end`.
use Rattle.net_model.specs.Network.{Plan, IsPlan, HasPlanNumbers}
use Rattle.plan_json.specs.DocumentText.{StandsBeforeEnd, document_of, document_text}
use Rattle.plan_json.proofs.CutLemmas.{cut, cut_joined, lines_cut, marked_inside}
use Rattle.plan_json.proofs.LayoutLemmas.{document_marked}

pub document_stands : (net : Plan) → IsPlan net → HasPlanNumbers net → StandsBeforeEnd (document_text (document_of net))
document_stands net plan numbers = record {
  pieces = cut (document_text (document_of net));
  text_is = cut_joined (document_text (document_of net));
  inside = marked_inside (document_text (document_of net)) (document_marked net plan numbers);
  lines_are = lines_cut (document_text (document_of net));
}
