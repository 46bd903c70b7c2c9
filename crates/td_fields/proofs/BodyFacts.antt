-- What a body is, by what `serde_json` reads of it.
use Rattle.std.proofs.Common.{◌≡◌, ℕ, List, Some, None, Err, Bool, true, false, refl}
use Rattle.std.proofs.lemmas.Str.{IsUtf8-from_is_utf8, is_utf8-from_IsUtf8}
use Rattle.std.specs.Str.{IsUtf8, is_utf8}
use Rattle.serde_json.specs.Data.{Data}
use Rattle.serde_json.specs.Read.{read}
use Rattle.td_fields.specs.Bodies.{object_in, object_of}
use Rattle.td_fields.specs.declared.fault.WebFault.TheVariants.{BadBody}

-- a text that is read is the object in what is read
pub object_read : (body : List ℕ) (d : Data) → IsUtf8 body → read body ≡ Some d → object_of body ≡ object_in d
object_read body d text reads = rw (is_utf8-from_IsUtf8 body text, reads) refl

-- bytes that aren't read are no object
pub object_unread : (body : List ℕ) → (IsUtf8 body → read body ≡ None) → object_of body ≡ Err BadBody
object_unread body none = by (is_utf8 body) refl
  where
    by : (v : Bool) → is_utf8 body ≡ v → object_of body ≡ Err BadBody
    by true e = rw (e, none (IsUtf8-from_is_utf8 body e)) refl
    by false e = rw e refl
