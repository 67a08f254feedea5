-- The forms of the lines of a certificate, after the first word of each.
use Rattle.std.specs.Prelude.{◌≡◌, ℕ, ℤ, true, false, List, [], ◌∷◌, Option, None, Some, refl}
use Rattle.net_model.specs.Places.{Place, of_name, of_natural, of_integer, Form}
use Rattle.cert_format.specs.Kind.{has_label}
use Rattle.cert_format.specs.Limits.{most_written_weight, most_line_number}
use Rattle.cert_format.specs.declared.keyword.Keyword.{Keyword}
use Rattle.cert_format.specs.declared.keyword.Keyword.TheVariants as keyword
use Rattle.cert_format.specs.declared.kind.LineKind.{LineKind}
use Rattle.cert_format.specs.declared.kind.LineKind.TheVariants as kind
use Rattle.cert_format.specs.declared.read.CertText.{CertText}
use Rattle.cert_format.specs.declared.read.CertText.TheVariants as text

-- the places of the number of a line, and of the weight of an edge
abbrev pub of_line_number : Place
of_line_number = of_natural most_line_number

abbrev pub of_weight : Place
of_weight = of_integer most_written_weight

-- an edge is given by three words, FROM TO W: where it begins, where it ends, and its weight; an `upper` line has its label in the place of its end
abbrev pub edge_places : List Place
edge_places = of_name ∷ of_name ∷ of_weight ∷ []

abbrev pub unlabelled : (kind : LineKind) → false ≡ has_label kind → (from to : List ℕ) → ℤ → CertText
unlabelled kind none from to weight = text.Line (record { kind = kind; from = from; to = to; label = None; weight = weight; labelled = none })

-- FROM TO LABEL W, of a rule whose edge has a label
abbrev pub labelled_places : List Place
labelled_places = of_name ∷ edge_places

abbrev pub labelled : (kind : LineKind) → true ≡ has_label kind → (from to label : List ℕ) → ℤ → CertText
labelled kind one from to label weight = text.Line (record { kind = kind; from = from; to = to; label = Some label; weight = weight; labelled = one })

-- the rule lines
abbrev pub bound_form : Form CertText
bound_form = record { places = of_name ∷ edge_places; make = λ name. unlabelled (kind.Bound name) refl }

abbrev pub link_form : Form CertText
link_form = record { places = of_name ∷ edge_places; make = λ name. unlabelled (kind.Link name) refl }

abbrev pub no_form : Form CertText
no_form = record { places = of_line_number ∷ of_line_number ∷ edge_places; make = λ i j. unlabelled (kind.No i j) refl }

abbrev pub up_form : Form CertText
up_form = record { places = of_line_number ∷ of_line_number ∷ labelled_places; make = λ i j. labelled (kind.Up i j) refl }

abbrev pub low_form : Form CertText
low_form = record { places = of_name ∷ of_line_number ∷ edge_places; make = λ name j. unlabelled (kind.Low name j) refl }

abbrev pub cross_form : Form CertText
cross_form = record { places = of_name ∷ of_line_number ∷ labelled_places; make = λ name j. labelled (kind.Cross name j) refl }

abbrev pub drop_form : Form CertText
drop_form = record { places = of_line_number ∷ edge_places; make = λ j. unlabelled (kind.Drop j) refl }

-- the other lines: of a walk, of an order, entries, and a word by itself
abbrev pub walk_form : Form CertText
walk_form = record { places = of_line_number ∷ []; make = text.Walk }

abbrev pub order_form : Form CertText
order_form = record { places = of_name ∷ []; make = text.Order }

abbrev pub edge_form : Form CertText
edge_form = record {
  places = edge_places;
  make = λ from to weight. text.Entry
      (record { from = from; to = Some to; label = None; weight = weight; one_end = refl });
}

abbrev pub upper_form : Form CertText
upper_form = record {
  places = edge_places;
  make = λ from label weight. text.Entry
      (record { from = from; to = None; label = Some label; weight = weight; one_end = refl });
}

abbrev pub lone_form : CertText → Form CertText
lone_form said = record { places = []; make = said }

-- the form of a line by its first word; a line that begins with `certificate` is the header or none
abbrev pub form_of : Keyword → Option (Form CertText)
form_of keyword.Certificate = None
form_of keyword.Refutation = Some (lone_form text.Refutation)
form_of keyword.Table = Some (lone_form text.Table)
form_of keyword.Bound = Some bound_form
form_of keyword.Link = Some link_form
form_of keyword.No = Some no_form
form_of keyword.Up = Some up_form
form_of keyword.Low = Some low_form
form_of keyword.Cross = Some cross_form
form_of keyword.Drop = Some drop_form
form_of keyword.Walk = Some walk_form
form_of keyword.Order = Some order_form
form_of keyword.Edge = Some edge_form
form_of keyword.Upper = Some upper_form
form_of keyword.End = Some (lone_form text.End)
