-- The words of the request, one behind another.
use Rattle.std.proofs.Common.{◌∷◌, decimal}
use Rattle.sect_words.specs.Days.{day_text}
use Rattle.sect_words.specs.Parts.{behind}
use Rattle.sect_words.specs.Words.{caller_text}
use Rattle.sect_text.specs.Commands.{command_text, command_words}
use Rattle.sect_text.proofs.Sentences.{spaced_command}
use Rattle.sect_clerk.proofs.Cuts.{put_request}
use Rattle.sect_clerk.proofs.lines.print_request.Goals as goal

pub returns : goal.returns
returns c =
    let e = c.args.entry.now in
    put_request c.args.into.now.items (64 ∷ day_text e.day) (32 ∷ caller_text e.id.caller) (32 ∷ decimal e.id.number) (command_text e.command) (behind 32 (command_words e.command))
    c.print_marked.new.into.items c.print_marked-2.new.into.items c.print_marked-3.new.into.items c.print_bytes.new.into.items c.print_command.new.into.items
    c.print_bytes-2.new.into.items c.in_ok-print_marked.ensures.text c.in_ok-print_marked-2.ensures.text c.in_ok-print_marked-3.ensures.text
    c.in_ok-print_bytes.ensures.text c.in_ok-print_command.ensures.text c.in_ok-print_bytes-2.ensures.text (spaced_command e.command)
