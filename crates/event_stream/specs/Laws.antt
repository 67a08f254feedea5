-- A law about the lines of events.
use Rattle.std.specs.Prelude.{◌≡◌, ◌⊎◌, ℕ, List}
use Rattle.net_model.specs.Network.{Plan}
use Rattle.net_model.specs.declared.format.FormatKind.{FormatKind}
use Rattle.event_stream.specs.EventText.{EventLine, AreWordsOfEventLine, IsEventFaultOfWords}

-- the words of a line state one thing, or have one first fault, and not both
pub record OneReading (net : Plan) (line : List (List ℕ)) : Type 0 where
  pub either : ((stated : EventLine) × AreWordsOfEventLine net stated line) ⊎ ((kind : FormatKind) × IsEventFaultOfWords net line kind)
  pub one_statement : (stated other : EventLine) → AreWordsOfEventLine net stated line → AreWordsOfEventLine net other line → stated ≡ other
  pub one_fault : (kind other : FormatKind) → IsEventFaultOfWords net line kind → IsEventFaultOfWords net line other → kind ≡ other
  pub not_both : (stated : EventLine) (kind : FormatKind) → AreWordsOfEventLine net stated line → IsEventFaultOfWords net line kind → ⊥
