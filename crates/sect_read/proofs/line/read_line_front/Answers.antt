-- What is left begins with the verb.
use Rattle.std.proofs.Common.{◌∷◌, Some, ap, sym, ◌∙◌}
use Rattle.sect_read.proofs.CommandLaws.{verb_found}
use Rattle.sect_read.proofs.Plain.{taken_apart}
use Rattle.sect_read.proofs.line.read_line_front.Goals as goal

pub returns-clause-front : goal.returns-clause-front
returns-clause-front c =
    let parts = taken_apart c.read_front.new.words c.in-Some.verb.now c.next.new.self c.in-Some.ensures.part c.in-Some.ensures.rest in
    c.in_ok-day.ensures ∙ ap (λ ws. Some ((c.in_ok-day.day, c.in_ok-day.id), ws)) (parts ∙ ap (λ word. word ∷ c.next.new.self) (verb_found c.in-Some.verb.now c.in-Some-verb_of.verb (sym c.in-Some-verb_of.ensures)))
