-- The document of a network, and its text.
use Rattle.std.specs.Prelude.{◌≡◌, ℕ, pos, List, [], ◌∷◌, ◌++◌, map, codes, Some, Ok}
use Rattle.std.specs.List.{All, join_with_byte}
use Rattle.texts.specs.Lines.{lines}
use Rattle.texts.specs.Words.{words}
use Rattle.json.specs.Layout.{pretty}
use Rattle.json.specs.Tree.{json_tokens}
use Rattle.net_model.specs.Network.{Plan, IsPlan, HasPlanNumbers}
use Rattle.net_model.specs.NetworkParts.{point_name, parts_of}
use Rattle.net_model.specs.BuiltNetwork.{declared_net}
use Rattle.net_model.specs.declared.part.Bound.{Bound}
use Rattle.net_model.specs.declared.part.Link.{Link}
use Rattle.plan_json.specs.Document.{PlanParts, document_plan}
use Rattle.plan_json.specs.DocumentReading.{declared}
use Rattle.serde_json.specs.Data.{Data, Members, number, unsigned, string, array, object, no_members, member}
use Rattle.serde_json.specs.Find.{of_integer}
use Rattle.serde_json.specs.View.{items_of}
use Rattle.serde_json.specs.Written.{outline}

-- the object of a bound between points, its members in alphabetical order
abbrev pub bound_data : List (List ℕ) → Bound → Data
bound_data points bound =
    object (member (codes "from") (string (point_name points bound.from))
    (member (codes "most") (number (of_integer bound.most))
    (member (codes "name") (string bound.name)
    (member (codes "to") (string (point_name points bound.to)) no_members))))

-- the object of a link between points, its members in alphabetical order
abbrev pub link_data : List (List ℕ) → Link → Data
link_data points link =
    object (member (codes "from") (string (point_name points link.from))
    (member (codes "high") (number (of_integer link.high))
    (member (codes "low") (number (of_integer link.low))
    (member (codes "to") (string (point_name points link.to)) no_members))))

-- the document of a network, in version 2, its members in alphabetical order
abbrev pub members_of_document : Plan → Members
members_of_document net =
    member (codes "bounds") (array (items_of (map (bound_data net.points) net.bounds)))
    (member (codes "delay") (number (of_integer (pos net.delay)))
    (member (codes "links") (array (items_of (map (link_data net.points) net.links)))
    (member (codes "points") (array (items_of (map string net.points)))
    (member (codes "stnu") (number (unsigned 2)) no_members))))

-- the document of a network: an object of its bounds, its delay, its links and its points, with `stnu` 2
abbrev pub document_of : Plan → Data
document_of net = object (members_of_document net)

-- the text of a document, in the pretty layout of `serde_json`: its tokens, and a line for each item and member, two blanks deeper for
-- each bracket
abbrev pub document_text : Data → List ℕ
document_text document = pretty (json_tokens (outline document))

-- a text that is read back as the delay and the parts of the network
pub record DocumentReadsBack (text : List ℕ) (net : Plan) : Type 0 where
  pub plan : PlanParts
  pub said : declared text ≡ Some (Ok plan)
  pub same : declared_net plan.delay plan.parts ≡ Ok net

-- A text that can come before a line `end` in an input, and is read there whole: its lines, none of which has `end` as its only word, with byte 10 between.
pub record StandsBeforeEnd (text : List ℕ) : Type 0 where
  pub pieces : List (List ℕ)
  pub text_is : text ≡ join_with_byte 10 pieces
  pub inside : All (λ piece. ¬ (words piece ≡ codes "end" ∷ [])) pieces
  pub lines_are : (rest : List ℕ) → lines (text ++ 10 ∷ rest) ≡ pieces ++ lines rest

-- the text of the document of a network does
abbrev pub DocumentsStandInInputs : Type 0
DocumentsStandInInputs = (net : Plan) → IsPlan net → HasPlanNumbers net → StandsBeforeEnd (document_text (document_of net))

-- the document of a network declares its delay and its parts
abbrev pub DocumentsReadBack : Type 0
DocumentsReadBack = (net : Plan) → IsPlan net → HasPlanNumbers net → document_plan (document_of net) ≡ Ok (record { delay = net.delay; parts = parts_of net })
