-- Each piece stands before those that were written, and nothing behind the last.
use Rattle.std.proofs.Common.{◌≡◌, ◌++◌, ◌∷◌, [], List, ℕ, false, ap, arith, codes, decimal, drop, map}
use Rattle.std.proofs.lemmas.List.{drop_all}
use Rattle.sect_words.specs.Parts.{behind}
use Rattle.sect_words.specs.Words.{course_text}
use Rattle.sect_text.specs.Commands.{stated_words}
use Rattle.sect_text.proofs.Sentences.{list_rest}
use Rattle.sect_text.proofs.want_text.put_few.Goals as goal

pub returns-clause-written : goal.returns-clause-written
returns-clause-written c =
    let none : drop 72 c.args.bytes.now ≡ [] = drop_all 72 c.args.bytes.now (omega (arith, c.told-bytes)) in
    rw (c.put_bytes.ensures.written, c.put_marked-start-2.ensures.written, c.put_marked-start.ensures.written, c.put_courses-start.ensures.written, c.put_stated-start.ensures.written, c.from.ensures, none)
    (ap (λ (rest : List ℕ). c.args.verb.now ++ (32 ∷ decimal c.args.student.0 ++ (32 ∷ rest)))
    (list_rest (decimal c.args.first.0) (behind 43 (map course_text c.args.others.now)) (behind 32 (stated_words (codes "rank") 21 false c.args.rank))))
