-- What a JSON value says, where it is of the form.
use Rattle.std.specs.Prelude.{ℕ, nat_le, ◌&&◌, Bool, true, false, if◌then◌else◌, List, [], ◌∷◌, Option, None, Some, option_map, option_and_then, is_some}
use Rattle.std.specs.List.{list_any}
use Rattle.std.specs.Str.{bytes_eq}
use Rattle.serde_json.specs.Data.{Data, Items, no_items, item, Members, no_members, member}
use Rattle.serde_json.specs.Find.{as_null, as_number, as_u64, as_array, as_object, get}
use Rattle.sect_base.specs.declared.ids.CourseId.{CourseId}
use Rattle.sect_base.specs.declared.ids.SectionId.{SectionId}
use Rattle.sect_base.specs.declared.ids.StudentId.{StudentId}
use Rattle.sect_words.specs.Reading.{◌>>=◌}
use Rattle.sect_words.specs.ReadingWords.{course_id, section_id, student_id}

-- a number of at most `most`, written with digits alone
unfoldable pub small : ℕ → Data → Option ℕ
small most d = option_and_then as_u64 (as_number d) >>= λ n. if nat_le n most then Some n else None

-- a number from 1 to `most`
unfoldable pub ranged : ℕ → Data → Option ℕ
ranged most d = small most d >>= λ n. if nat_le 1 n then Some n else None

-- a number of 32 bits
abbrev pub u32_in : Data → Option ℕ
u32_in = small 4294967295

-- a number of 64 bits
abbrev pub u64_in : Data → Option ℕ
u64_in = small 18446744073709551615

-- the id of a course
abbrev pub course_in : Data → Option CourseId
course_in d = option_map course_id (u32_in d)

-- the id of a section
abbrev pub section_in : Data → Option SectionId
section_in d = option_map section_id (u32_in d)

-- the id of a student
abbrev pub student_in : Data → Option StudentId
student_in d = option_map student_id (u32_in d)

-- the values of all items, where each is of the form
abbrev pub each_in : {X : Type 0} → (Data → Option X) → Items → Option (List X)
each_in of no_items = Some []
each_in of (item d ds) = of d >>= λ x. each_in of ds >>= λ xs. Some (x ∷ xs)

-- the values of an array
unfoldable pub list_in : {X : Type 0} → (Data → Option X) → Data → Option (List X)
list_in of d = as_array d >>= each_in of

-- none at null
unfoldable pub optional_in : {X : Type 0} → (Data → Option X) → Data → Option (Option X)
optional_in of d = if is_some (as_null d) then Some None else option_map Some (of d)

-- the value of a member that is there
abbrev pub required : {X : Type 0} → (Data → Option X) → List ℕ → Data → Option X
required of name d = get name d >>= of

-- the value, or the default where there is none
abbrev pub or_default : {X : Type 0} → X → (Data → Option X) → Option Data → Option X
or_default default of None = Some default
or_default default of (Some d) = of d

-- the value of a member, or the default where it isn't there
abbrev pub optional : {X : Type 0} → X → (Data → Option X) → List ℕ → Data → Option X
optional default of name d = or_default default of (get name d)

-- each member has one of these names
abbrev pub are_named : List (List ℕ) → Members → Bool
are_named names no_members = true
are_named names (member name d ms) = list_any (bytes_eq name) names && are_named names ms

-- the members are there, and each has one of these names
abbrev pub only_named : List (List ℕ) → Option Members → Bool
only_named names None = false
only_named names (Some ms) = are_named names ms

-- an object all of whose members have one of these names
abbrev pub has_only : List (List ℕ) → Data → Bool
has_only names d = only_named names (as_object d)
