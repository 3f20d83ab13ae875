-- One change taken back, and how far the undoing of several has come.
use Rattle.std.specs.Prelude.{◌≡◌, ℕ, ◌≤◌, [], ◌∷◌, ◌++◌, length, take, drop}
use Rattle.sect_model.specs.declared.change.Change.{Change}
use Rattle.sect_model.specs.World.{World}
use Rattle.sect_model.specs.Kept.{KeptWorld}
use Rattle.sect_model.specs.Fits.{Fits, changed}
use Rattle.sect_space.specs.declared.back.Back.{Back}
use Rattle.sect_space.specs.Back.{back_of, taken_back}
use Rattle.sect_space.specs.Recorded.{Recorded}
use Rattle.sect_space.specs.Roomed.{Roomed}
use Rattle.sect_space.specs.Room.{HasRoom, KeepsRoom}
use Rattle.sect_space.specs.Undo.{undone, Undoable}

-- a change made the world of a kept one, for which there is room, and this is kept of the change
pub record MadeBy (r : Roomed) (back : Back) : Type 0 where
  pub before : World
  pub change : Change
  pub kept : KeptWorld before
  pub fits : Fits before change
  pub led : changed before change ≡ r.world
  pub recorded : back_of before change ≡ back
  pub room : HasRoom r before

-- the last recorded change was taken back
pub record UndoneLast (r : Roomed) (u : Recorded) (s : Roomed) (v : Recorded) : Type 0 where
  pub last : Back
  pub recorded : u.backs ≡ v.backs ++ last ∷ []
  pub world : s.world ≡ taken_back r.world last
  pub room : KeepsRoom r s
  pub undo_room : u.spare ≤ v.spare
  pub undoable : Undoable s v.backs

-- some of the changes behind the first of them are taken back, and to take back the others is to take back all
pub record Undoing (r : Roomed) (u : Recorded) (len : ℕ) (s : Roomed) (v : Recorded) : Type 0 where
  pub within : len ≤ length v.backs
  pub world : undone s.world (drop len v.backs) ≡ undone r.world (drop len u.backs)
  pub recorded : take len v.backs ≡ take len u.backs
  pub room : KeepsRoom r s
  pub undo_room : u.spare ≤ v.spare
  pub undoable : Undoable s v.backs
