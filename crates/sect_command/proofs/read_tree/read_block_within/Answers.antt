-- The text of a block is read as that block alone.
use Rattle.std.proofs.Common.{◌≡◌, Some, None, sym}
use Rattle.sect_command.specs.Reading.{tree_in}
use Rattle.sect_command.proofs.TreeLaws.{found_whole, none_found, one_found, more_found}
use Rattle.sect_command.proofs.read_tree.read_block_within.Goals as goal

pub returns-in_default-clause-only : goal.returns-in_default-clause-only
returns-in_default-clause-only c =
    let read : tree_in c.args.deep c.args.text.now ≡ None = sym (rw c.in_default.is at c.in_ok-block.ensures) in
    none_found c.args.deep c.args.text.now read

pub returns-then-is_empty-clause-found : goal.returns-then-is_empty-clause-found
returns-then-is_empty-clause-found c =
    let read : tree_in c.args.deep c.args.text.now ≡ Some (c.in-Some.block, c.in-Some.rest.now) = sym (rw c.in-Some.is at c.in_ok-block.ensures) in
    found_whole c.args.deep c.args.text.now c.in-Some.block c.in-Some.rest.now read c.if-is_empty.ensures

pub returns-then-is_empty-clause-only : goal.returns-then-is_empty-clause-only
returns-then-is_empty-clause-only c =
    let read : tree_in c.args.deep c.args.text.now ≡ Some (c.in-Some.block, c.in-Some.rest.now) = sym (rw c.in-Some.is at c.in_ok-block.ensures) in
    one_found c.args.deep c.args.text.now c.in-Some.block c.in-Some.rest.now read

pub returns-else-is_empty-clause-only : goal.returns-else-is_empty-clause-only
returns-else-is_empty-clause-only c =
    let read : tree_in c.args.deep c.args.text.now ≡ Some (c.in-Some.block, c.in-Some.rest.now) = sym (rw c.in-Some.is at c.in_ok-block.ensures) in
    more_found c.args.deep c.args.text.now c.in-Some.block c.in-Some.rest.now read c.if-is_empty.ensures
