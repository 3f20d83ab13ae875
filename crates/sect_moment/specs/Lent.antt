-- The wants of a move that is borrowed.
use Rattle.std.specs.Prelude.{List, [], ◌∷◌}
use Rattle.sect_model.specs.Data.{Want}
use Rattle.sect_moment.specs.declared.lent.Wants.{Wants}
use Rattle.sect_moment.specs.declared.lent.Wants.TheVariants.{One, All}

-- the wants: the one, or those of the list
abbrev pub wants_of : Wants → List Want
wants_of (One want) = want ∷ []
wants_of (All wants) = wants.now
