-- The names of an object's members are its keys.
use Rattle.std.proofs.Common.{◌≡◌, ◌&&◌, ℕ, Bool, true, List, [], ◌∷◌, Some, refl, ap, ◌∙◌, string_bytes, String, Global}
use Rattle.std.specs.List.{list_any}
use Rattle.std.specs.Str.{bytes_eq}
use Rattle.std_collections.specs.Map.{keys_of}
use Rattle.serde_json.specs.Data.{Data}
use Rattle.serde_json.specs.Find.{as_object}
use Rattle.serde_json.specs.View.{members_view}
use Rattle.serde_json.specs.declared.value.Value.{Value}
use Rattle.sect_wire.specs.Values.{are_named, has_only, only_named}

-- each key is one of these names
abbrev pub known : List (List ℕ) → List (String Global) → Bool
known names [] = true
known names (k ∷ ks) = list_any (bytes_eq (string_bytes k)) names && known names ks

known_is : (names : List (List ℕ)) (es : List (String Global × Value)) → known names (keys_of es) ≡ are_named names (members_view es)
known_is names [] = refl
known_is names (e ∷ es) = ap (λ b. list_any (bytes_eq (string_bytes e.0)) names && b) (known_is names es)

-- what is known of the keys of an object
pub known_object : (names : List (List ℕ)) (es : List (String Global × Value)) (d : Data) → Some (members_view es) ≡ as_object d → known names (keys_of es) ≡ has_only names d
known_object names es d is = known_is names es ∙ ap (only_named names) is
