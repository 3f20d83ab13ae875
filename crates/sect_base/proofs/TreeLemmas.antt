-- Lists of trees that are one tree's options are one list.
use Rattle.std.proofs.Common.{◌≡◌, List, [], ◌∷◌, refl, sym, ap, ◌∙◌}
use Rattle.sect_base.specs.Tree.{Tree, Trees, broken, split, none, more, trees_of}

list_of : Trees → List Tree
list_of none = []
list_of (more t ts) = t ∷ list_of ts

list_of-trees_of : (ts : List Tree) → list_of (trees_of ts) ≡ ts
unfolding list_of
list_of-trees_of [] = refl
list_of-trees_of (t ∷ ts) = ap (λ us. t ∷ us) (list_of-trees_of ts)

options_of : Tree → List Tree
options_of (broken rule number) = []
options_of (split ts) = list_of ts

pub split_inj : (ts us : List Tree) → split (trees_of ts) ≡ split (trees_of us) → ts ≡ us
unfolding options_of
split_inj ts us e = sym (list_of-trees_of ts) ∙ ap options_of e ∙ list_of-trees_of us
