-- The words of a row's fields are read back.
use Rattle.std.proofs.Common.{◌≡◌, ◌==◌, ℕ, Bool, true, false, List, [], ◌∷◌, map, append_assoc, Option, Some, refl, ap, ◌∙◌, decimal, lit<, inr}
use Rattle.std.specs.Prelude.{if◌then◌else◌}
use Rattle.std.specs.Str.{bytes_eq}
use Rattle.sect_base.specs.declared.choice.Curriculum.{Curriculum}
use Rattle.sect_base.specs.declared.ids.ConfigId.{ConfigId}
use Rattle.sect_base.specs.declared.ids.GroupId.{GroupId}
use Rattle.sect_read.proofs.Bytes.{NoDash, all_joined, each_text, lacks_decimal, no_dash_decimal}
use Rattle.sect_read.proofs.PartLaws.{exact_curriculum, lacks_list}
use Rattle.sect_read.proofs.ValueLaws.{exact_config, exact_group, plain_id, start_id}
use Rattle.sect_read.proofs.WordLaws.{small32}
use Rattle.sect_read.specs.Fits.{Fits32, FitsConfig, FitsCurriculum, FitsGroup, FitsList}
use Rattle.sect_words.proofs.Pieces.{Lacks, pieces_joined}
use Rattle.sect_words.specs.Parts.{behind, joined, pieces}
use Rattle.sect_words.specs.Reading.{◌>>=◌, all_of}
use Rattle.sect_words.specs.ReadingWords.{config_of, curriculum_of, flag_of, group_of, list_of}
use Rattle.sect_words.specs.Words.{curriculum_text, dash, flag_text, list_text, major_text}

-- a flag is read back
pub flag_back : (flag : Bool) → flag_of (flag_text flag) ≡ Some flag
flag_back true = refl
flag_back false = refl

-- ---- lists, whatever mark is between their elements

module _ {X : Type 0} (mark : ℕ) (of : List ℕ → Option X) (text : X → List ℕ) (Fits : X → Type 0) (back : (x : X) → Fits x → of (text x) ≡ Some x) where
  -- the elements from their texts
  all_back : (xs : List X) → FitsList Fits xs → all_of of (map text xs) ≡ Some xs
  all_back [] fits = refl
  all_back (x ∷ xs) fits =
      ap (λ o. o >>= λ y. all_of of (map text xs) >>= λ ys. Some (y ∷ ys)) (back x fits.0)
      ∙ ap (λ o. o >>= λ ys. Some (x ∷ ys)) (all_back xs fits.1)

  -- the elements from their texts in a row
  pub joined_back : ((x : X) → Fits x → Lacks mark (text x)) → (x : X) (xs : List X) → FitsList Fits (x ∷ xs) → all_of of (pieces mark (joined mark (map text (x ∷ xs)))) ≡ Some (x ∷ xs)
  joined_back plain x xs fits =
      ap (all_of of) (pieces_joined mark (text x) (map text xs) (plain x fits.0) (each_text (λ byte. (byte == mark) ≡ false) text plain xs fits.1))
      ∙ all_back (x ∷ xs) fits

  -- a list from its text
  pub list_back : ((x : X) → Fits x → Lacks mark (text x)) → ((x : X) → Fits x → NoDash (text x)) → (xs : List X) → FitsList Fits xs → list_of mark of (list_text mark text xs) ≡ Some xs
  unfolding list_of
  list_back plain start [] fits = refl
  list_back plain start (x ∷ xs) fits =
      ap (λ b. if b then Some [] else all_of of (pieces mark (joined mark (map text (x ∷ xs))))) (start x fits.0 _)
      ∙ joined_back plain x xs fits

-- groups are read back
pub groups_back : (ids : List GroupId) → FitsList FitsGroup ids → list_of 43 group_of (list_text 43 (λ id. decimal id.0) ids) ≡ Some ids
groups_back ids fits = list_back 43 group_of (λ id. decimal id.0) FitsGroup exact_group.again (λ id its. plain_id id.0 its) (λ id its. start_id id.0 its) ids fits

-- configurations are read back
pub configs_back : (ids : List ConfigId) → FitsList FitsConfig ids → list_of 43 config_of (list_text 43 (λ id. decimal id.0) ids) ≡ Some ids
configs_back ids fits = list_back 43 config_of (λ id. decimal id.0) FitsConfig exact_config.again (λ id its. plain_id id.0 its) (λ id its. start_id id.0 its) ids fits

-- ---- curricula, between which is a semicolon

no_semicolon : (c : Curriculum) → FitsCurriculum c → Lacks 59 (curriculum_text c)
no_semicolon c fits = all_joined (λ byte. (byte == 59) ≡ false) 58 refl (decimal c.area.0 ∷ decimal c.class.0 ∷ list_text 43 major_text c.majors ∷ []) (
  number c.area.0 fits.0,
  (number c.class.0 fits.1, (lacks_list 59 major_text refl refl (λ major its. number major.0 its) c.majors fits.2, tt)),
)
  where
    number : (n : ℕ) → Fits32 n → Lacks 59 (decimal n)
    number n its = lacks_decimal 59 n (inr (lit< tt)) (small32 n its)

curriculum_start : (c : Curriculum) → FitsCurriculum c → NoDash (curriculum_text c)
curriculum_start c fits rest =
    ap (λ (t : List ℕ). bytes_eq t dash) (append_assoc (decimal c.area.0) (behind 58 (decimal c.class.0 ∷ list_text 43 major_text c.majors ∷ [])) rest)
    ∙ no_dash_decimal c.area.0 (small32 c.area.0 fits.0) _

-- curricula are read back
pub curricula_back : (cs : List Curriculum) → FitsList FitsCurriculum cs → list_of 59 curriculum_of (list_text 59 curriculum_text cs) ≡ Some cs
curricula_back cs fits = list_back 59 curriculum_of curriculum_text FitsCurriculum exact_curriculum.again no_semicolon curriculum_start cs fits
