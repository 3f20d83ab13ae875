-- What is read of a body is the object that it is.
use Rattle.std.proofs.Common.{◌≡◌, ℕ, Bool, true, false, List, None, Some, refl, ap, sym, ◌∙◌, IsUtf8, is_some}
use Rattle.std.specs.Prelude.{if◌then◌else◌}
use Rattle.std.specs.Str.{is_utf8}
use Rattle.std.proofs.lemmas.Str.{IsUtf8-from_is_utf8, is_utf8-from_IsUtf8}
use Rattle.serde_json.specs.Data.{Data}
use Rattle.serde_json.specs.Find.{as_object}
use Rattle.serde_json.specs.Read.{read}
use Rattle.sect_words.specs.Reading.{◌>>=◌}
use Rattle.sect_wire.specs.Bodies.{object_in, object_of}

pub object_found : (body : List ℕ) (d : Data) → IsUtf8 body → read body ≡ Some d → is_some (as_object d) ≡ true → Some d ≡ object_in body
object_found body d utf8 is object =
    sym (ap (λ b. (if b then read body else None) >>= object_of) (is_utf8-from_IsUtf8 body utf8)
    ∙ ap (λ o. o >>= object_of) is ∙ ap (λ b. if b then Some d else None) object)

pub object_none : (body : List ℕ) → (IsUtf8 body → read body ≡ None) → None ≡ object_in body
object_none body none = by (is_utf8 body) refl
  where
    by : (b : Bool) → is_utf8 body ≡ b → None ≡ object_in body
    by true e = sym (ap (λ b. (if b then read body else None) >>= object_of) e ∙ ap (λ o. o >>= object_of) (none (IsUtf8-from_is_utf8 body e)))
    by false e = sym (ap (λ b. (if b then read body else None) >>= object_of) e)
