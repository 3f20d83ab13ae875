-- Each piece stands before those that were written, and nothing behind the last.
use Rattle.std.proofs.Common.{◌≡◌, ◌++◌, ◌∷◌, [], List, ℕ, ap, arith, codes, decimal, drop, map}
use Rattle.std.proofs.lemmas.List.{drop_all}
use Rattle.sect_words.specs.Parts.{behind}
use Rattle.sect_words.specs.Words.{course_text}
use Rattle.sect_text.specs.Commands.{mark_words}
use Rattle.sect_text.proofs.Sentences.{ask_rest}
use Rattle.sect_text.proofs.row_words.put_course_ask.Goals as goal

pub returns-clause-written : goal.returns-clause-written
returns-clause-written c =
    let none : drop 72 c.args.bytes.now ≡ [] = drop_all 72 c.args.bytes.now (omega (arith, c.told-bytes)) in
    rw (c.put_bytes.ensures.written, c.put_marked-start.ensures.written, c.put_courses-start.ensures.written, c.put_mark-start-2.ensures.written, c.put_mark-start.ensures.written, none, c.requires.all)
    (ap (λ (rest : List ℕ). codes " course" ++ (32 ∷ rest))
    (ask_rest (decimal c.args.first.0) (behind 43 (map course_text c.args.others.now)) (mark_words (codes "wait") c.args.ask.now.wait) (mark_words (codes "substitute") c.args.ask.now.substitute)))
