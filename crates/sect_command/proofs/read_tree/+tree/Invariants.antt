-- The options so far and the rest stand for what the text stands for.
use Rattle.std.proofs.Common.{◌≡◌, [], ◌+◌, ◌-◌, ◌*◌, length}
use Rattle.sect_command.specs.Reading.{tree_in, options_in}
use Rattle.sect_command.proofs.read_tree.+tree.Given as goal

abbrev pub decreases-read_options : goal.decreases-read_options
decreases-read_options l = 2 * l.deep + 1

abbrev pub decreases-read_tree : goal.decreases-read_tree
decreases-read_tree l = 2 * l.deep

abbrev pub invariant-read_options-loop-turn : goal.invariant-read_options-loop-turn
invariant-read_options-loop-turn l = options_in (tree_in l.deep) (l._turn-end - l._turn) l.options.items l.rest ≡ options_in (tree_in l.deep) (length l.fn.text) [] l.fn.text
