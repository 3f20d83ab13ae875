-- One command more, and commands behind others.
use Rattle.std.proofs.Common.{◌≡◌, ℕ, suc, ◌+◌, List, [], ◌∷◌, ◌++◌, refl, sym, ap, ◌∙◌, arith}
use Rattle.sect_command.specs.declared.command.Command.{Command}
use Rattle.sect_app.specs.Generated.{made_of}
use Rattle.sect_model.specs.World.{State, empty_state}
use Rattle.sect_app.specs.Made.{Tally, empty_tally, tallied, tally_from}

-- the commands behind others are asked of what these lead to
pub tally-join : (day : ℕ) (t : Tally) (xs ys : List Command) → tally_from day t (xs ++ ys) ≡ tally_from day (tally_from day t xs) ys
tally-join day t [] ys = refl
tally-join day t (x ∷ xs) ys = tally-join day (tallied day t x) xs ys

-- one more number
pub made-more : {A : Type 0} (make : ℕ → A) (n : ℕ) → made_of make (n + 1) ≡ made_of make n ++ make n ∷ []
made-more make n = let e : n + 1 ≡ suc n = omega arith in ap (made_of make) e

-- one more command
pub tally-more : (day : ℕ) (t : Tally) (make : ℕ → Command) (n : ℕ) (now new : Tally) (command : Command) → now ≡ tally_from day t (made_of make n)
    → command ≡ make n → new ≡ tallied day now command → new ≡ tally_from day t (made_of make (n + 1))
tally-more day t make n now new command before is asks =
    asks
    ∙ ap (λ (c : Command). tallied day now c) is
    ∙ ap (λ (u : Tally). tallied day u (make n)) before
    ∙ sym (tally-join day t (made_of make n) (make n ∷ []))
    ∙ ap (λ (cs : List Command). tally_from day t cs) (sym (made-more make n))

abbrev nothing_counted : State → Tally
nothing_counted s = record { state = s; met = 0; blocked = 0; spent = 0 }

-- four lists of commands, one behind another
pub all-made : (day : ℕ) (s : State) (t u v w : Tally) (xs bs cs ds : List Command) → s ≡ empty_state
    → t ≡ tally_from day (record { state = s; met = 0; blocked = 0; spent = 0 }) xs → u ≡ tally_from day t bs → v ≡ tally_from day u cs
    → w ≡ tally_from day v ds → w ≡ tally_from day empty_tally (xs ++ (bs ++ (cs ++ ds)))
all-made day s t u v w xs bs cs ds start first second third fourth =
    let first' : t ≡ tally_from day empty_tally xs = first ∙ ap (λ (z : State). tally_from day (nothing_counted z) xs) start in
    fourth
    ∙ ap (λ (x : Tally). tally_from day x ds) third
    ∙ sym (tally-join day u cs ds)
    ∙ ap (λ (x : Tally). tally_from day x (cs ++ ds)) second
    ∙ sym (tally-join day t bs (cs ++ ds))
    ∙ ap (λ (x : Tally). tally_from day x (bs ++ (cs ++ ds))) first'
    ∙ sym (tally-join day empty_tally xs (bs ++ (cs ++ ds)))
