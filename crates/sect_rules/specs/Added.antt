-- A path with one section more.
use Rattle.std.specs.Prelude.{ℕ, nat_le, cond, [], ◌∷◌, ◌++◌, length}
use Rattle.sect_model.specs.Data.{SectionId}
use Rattle.sect_model.specs.Path.{Path, close}

-- the path with a section more, where so many are due
abbrev pub with_section : ℕ → Path → SectionId → Path
with_section due p section =
    let q : Path = record p { sections = p.sections ++ section ∷ [] } in
    cond (nat_le due (length q.sections)) (close q q.course q.reservation q.config) q
