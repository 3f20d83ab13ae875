-- Lists of sections in six cells, those behind the last being 0.
use Rattle.std.specs.Prelude.{◌≡◌, ℕ, ◌-◌, ◌≤◌, List, ◌++◌, length, take, replicate}
use Rattle.sect_base.specs.declared.ids.SectionId.{SectionId}

abbrev pub no_section : SectionId
no_section = record { 0 = 0 }

-- the list, made up to six cells
abbrev pub padded : List SectionId → List SectionId
padded xs = xs ++ replicate (6 - length xs) no_section

-- the cells are so many first ones, made up
pub record IsPadded (cells : List SectionId) (len : ℕ) : Type 0 where
  pub few : len ≤ 6
  pub first : length (take len cells) ≡ len
  pub rest : padded (take len cells) ≡ cells
