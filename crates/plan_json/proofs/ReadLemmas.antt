-- Whether bytes have a reading.
use Rattle.std.proofs.Common.{◌≡◌, ℕ, List, Bool, true, false, Some, None, refl}
use Rattle.std.specs.Str.{IsUtf8, is_utf8}
use Rattle.std.proofs.lemmas.Str.{IsUtf8-from_is_utf8, is_utf8-from_IsUtf8}
use Rattle.serde_json.specs.Data.{Data}
use Rattle.serde_json.specs.Read.{read}
use Rattle.plan_json.specs.DocumentReading.{json_value}

pub value_read : (bytes : List ℕ) (document : Data) → IsUtf8 bytes → read bytes ≡ Some document → json_value bytes ≡ Some document
value_read bytes document utf8 is = rw (is_utf8-from_IsUtf8 bytes utf8) is

pub value_none : (bytes : List ℕ) → (IsUtf8 bytes → read bytes ≡ None) → json_value bytes ≡ None
value_none bytes none = by (is_utf8 bytes) refl
  where
    by : (test : Bool) → is_utf8 bytes ≡ test → json_value bytes ≡ None
    by true is = rw is (none (IsUtf8-from_is_utf8 bytes is))
    by false is = rw is refl
