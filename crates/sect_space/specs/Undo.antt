-- What an undo keeps, when it can be taken back, and the world after that.
use Rattle.std.specs.Prelude.{◌≡◌, Bool, true, false, List, [], ◌∷◌, ◌++◌}
use Rattle.sect_model.specs.declared.change.Change.{Change}
use Rattle.sect_model.specs.declared.change.Change.TheVariants.{Offering, Student, Requests, Reserve, Unreserve, Expiry, Restrict, Unrestrict, Cap as new_cap, Cancelled, Day, Enrol, Leave}
use Rattle.sect_model.specs.World.{World}
use Rattle.sect_model.specs.Kept.{KeptWorld}
use Rattle.sect_model.specs.Fits.{Fits, changed}
use Rattle.sect_space.specs.declared.back.Back.{Back}
use Rattle.sect_space.specs.Back.{back_of, taken_back}
use Rattle.sect_space.specs.Roomed.{Roomed}
use Rattle.sect_space.specs.Room.{HasRoom}

-- the world in which all of these are taken back, the last one first
abbrev pub undone : World → List Back → World
undone w [] = w
undone w (b ∷ bs) = taken_back (undone w bs) b

-- the world after each of the changes in turn
abbrev pub all_changed : World → List Change → World
all_changed w [] = w
all_changed w (c ∷ cs) = all_changed (changed w c) cs

-- what is kept of each
abbrev pub backs_of : World → List Change → List Back
backs_of w [] = []
backs_of w (c ∷ cs) = back_of w c ∷ backs_of (changed w c) cs

-- each fits the world that it changes
abbrev pub AllFit : World → List Change → Type 0
AllFit w [] = Unit {0}
AllFit w (c ∷ cs) = Fits w c × AllFit (changed w c) cs

-- the lists have room for the world, and for the world after each change
abbrev pub RoomFor : Roomed → World → List Change → Type 0
RoomFor r w [] = HasRoom r w
RoomFor r w (c ∷ cs) = HasRoom r w × RoomFor r (changed w c) cs

-- the world is as the recorded changes left a kept world, and its lists have room to take them back
pub record Undoable (r : Roomed) (backs : List Back) : Type 0 where
  pub before : World
  pub changes : List Change
  pub kept : KeptWorld before
  pub fit : AllFit before changes
  pub led : all_changed before changes ≡ r.world
  pub recorded : backs_of before changes ≡ backs
  pub room : RoomFor r before changes

-- changes that fit led from the one world to the other, and were recorded behind what was recorded before
pub record Since (w : World) (backs : List Back) (w_now : World) (backs_now : List Back) : Type 0 where
  pub changes : List Change
  pub fit : AllFit w changes
  pub led : all_changed w changes ≡ w_now
  pub recorded : backs_now ≡ backs ++ backs_of w changes

-- the change takes no memory where there is room for it
abbrev pub takes_none : Change → Bool
takes_none (Offering row) = false
takes_none (Student row) = false
takes_none (Requests student asks) = true
takes_none (Reserve r) = false
takes_none (Unreserve id) = true
takes_none (Expiry id day) = true
takes_none (Restrict r) = false
takes_none (Unrestrict id) = true
takes_none (new_cap cap limit) = true
takes_none (Cancelled id) = false
takes_none (Day day) = true
takes_none (Enrol e) = true
takes_none (Leave student course) = true
