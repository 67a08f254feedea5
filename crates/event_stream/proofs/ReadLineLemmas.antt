-- What the answer to a line says of it, and that a line has one reading.
use Rattle.std.proofs.Common.{◌≡◌, ◌⊎◌, ℕ, ◌<◌, List, [], ◌∷◌, length, Option, None, Some, Result, Ok, Err, refl, sym, ◌∙◌, subst, inl, inr, position}
use Rattle.std.specs.List.{All}
use Rattle.std.specs.Option.{option_map}
use Rattle.std.specs.Str.{bytes_eq}
use Rattle.std.specs.Result.{IfOk, IfErr}
use Rattle.std.proofs.lemmas.List.Elements.{All-cons, All-nil}
use Rattle.std.proofs.lemmas.List.Quantifiers.{position-Some}
use Rattle.texts.specs.Words.{words}
use Rattle.net_model.specs.Network.{Plan, IsPoint}
use Rattle.net_model.specs.declared.ids.PointId.{PointId}
use Rattle.net_model.specs.declared.format.FormatKind.{FormatKind}
use Rattle.event_stream.specs.EventText.{EventLine, blank, completed, done, NamePoints, AreWordsOfEventLine, IsEventLine, IsEventFault, IsEventFaultOfWords, event_of, said, kept, HasPoints}
use Rattle.event_stream.specs.EventLines.{AnswersEventLine, event_line}
use Rattle.event_stream.specs.Laws.{OneReading}
use Rattle.event_stream.specs.declared.event.Event.{Event}
use Rattle.event_stream.proofs.GrammarLemmas.{event_ok, event_err, stated_read, fault_read}

-- the point of a name is one of the network
point_of_place : (names : List (List ℕ)) (name : List ℕ) (point : PointId) (place : Option ℕ) → position (bytes_eq name) names ≡ place → option_map (λ k. record { 0 = k }) place ≡ Some point → point.0 < length names
point_of_place names name point None is found = absurd (cc)
point_of_place names name point (Some k) is found =
    let same : record { 0 = k } ≡ point = cc in
    let inside : k < length names = (position-Some (bytes_eq name) names k [] is).0 in
    subst (λ (p : PointId). p.0 < length names) same inside

named_points : (net : Plan) (words : List (List ℕ)) (points : List PointId) → NamePoints net words points → All (IsPoint net) points
named_points net [] [] is = All-nil (IsPoint net)
named_points net [] (p ∷ ps) is = absurd is
named_points net (word ∷ words) [] is = absurd is
named_points net (word ∷ words) (p ∷ ps) is =
    All-cons (IsPoint net) p ps (point_of_place net.points word p (position (bytes_eq word) net.points) refl is.0.1) (named_points net words ps is.1)

-- what a line stated is in the grammar, by its event and what is kept after it
stated_as_said : (net : Plan) (stated : EventLine) (before : List PointId) (line : List (List ℕ)) → AreWordsOfEventLine net stated line → AreWordsOfEventLine net (said (event_of stated) (kept stated before)) line
stated_as_said net blank before line is = is
stated_as_said net (completed moment points) before line is = is
stated_as_said net done before line is = is

stated_points : (net : Plan) (stated : EventLine) (before : List PointId) (line : List (List ℕ)) → AreWordsOfEventLine net stated line → HasPoints net (event_of stated) (kept stated before)
stated_points net blank before line is = tt
stated_points net (completed moment points) before line is = named_points net is.names points is.named
stated_points net done before line is = tt

-- a line, the answer to it, and the completions that were kept before it and are kept after it
module _ (net : Plan) (line : List ℕ) (before : List PointId) (answer : Result Event FormatKind) (after : List PointId) where
  -- what the answer says if this is read of the line
  abbrev IsStatedBy : Result EventLine FormatKind → Type 0
  IsStatedBy read = (event_line net (words line) ≡ read) × AnswersEventLine read before answer after

  grammar_by : (read : Result EventLine FormatKind) → IsStatedBy read → IfOk answer (λ event. IsEventLine net (said event after) line)
  grammar_by (Ok stated) by = rw (by.1.0, by.1.1) (stated_as_said net stated before (words line) (event_ok net (words line) stated by.0))
  grammar_by (Err kind) by = rw by.1.0 tt

  points_by : (read : Result EventLine FormatKind) → IsStatedBy read → IfOk answer (λ event. HasPoints net event after)
  points_by (Ok stated) by = rw (by.1.0, by.1.1) (stated_points net stated before (words line) (event_ok net (words line) stated by.0))
  points_by (Err kind) by = rw by.1.0 tt

  fault_by : (read : Result EventLine FormatKind) → IsStatedBy read → IfErr answer (IsEventFault net line)
  fault_by (Ok stated) by = rw by.1.0 tt
  fault_by (Err kind) by = rw by.1.0 (event_err net (words line) kind by.0)

  module _ (answers : AnswersEventLine (event_line net (words line)) before answer after) where
    pub grammar : IfOk answer (λ event. IsEventLine net (said event after) line)
    grammar = grammar_by (event_line net (words line)) (refl, answers)

    pub points : IfOk answer (λ event. HasPoints net event after)
    points = points_by (event_line net (words line)) (refl, answers)

    pub fault : IfErr answer (IsEventFault net line)
    fault = fault_by (event_line net (words line)) (refl, answers)

    pub every : (stated : EventLine) → IsEventLine net stated line → (answer ≡ Ok (event_of stated)) × (after ≡ kept stated before)
    every stated is = subst (λ (read : Result EventLine FormatKind). AnswersEventLine read before answer after) (stated_read net stated (words line) is) answers

-- a line has one reading
either_by : (net : Plan) (line : List (List ℕ)) (read : Result EventLine FormatKind) → event_line net line ≡ read → ((stated : EventLine) × AreWordsOfEventLine net stated line) ⊎ ((kind : FormatKind) × IsEventFaultOfWords net line kind)
either_by net line (Ok stated) is = inl (stated, event_ok net line stated is)
either_by net line (Err kind) is = inr (kind, event_err net line kind is)

pub one_reading : (net : Plan) (line : List (List ℕ)) → OneReading net line
one_reading net line = record {
  either = either_by net line (event_line net line) refl;
  one_statement = λ stated other is also.
      let both : Ok stated ≡ Ok other = sym (stated_read net stated line is) ∙ stated_read net other line also in cc;
  one_fault = λ kind other is also.
      let both : Err kind ≡ Err other = sym (fault_read net line kind is) ∙ fault_read net line other also in cc;
  not_both = λ stated kind is also.
      let wrong : Ok stated ≡ Err kind = sym (stated_read net stated line is) ∙ fault_read net line kind also in cc;
}
