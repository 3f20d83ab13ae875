-- What is left behind a part of which the length is known.
use Rattle.std.proofs.Common.{arith, ap, ◌∙◌, length}
use Rattle.std.specs.Option.{option_map}
use Rattle.sect_words.specs.Reading.{first_part}
use Rattle.sect_words.proofs.Fronts.{pass_some, pass_none, pass_within}
use Rattle.sect_words.proofs.parts.Parts.pass.Goals as goal

pub returns-then-len-self : goal.returns-then-len-self
returns-then-len-self c =
    let long = ap (λ parts. option_map length (first_part parts)) c.self.view_is ∙ c.requires in
    rw (← c.self.view_is) (pass_none c.self.inside.done c.self.inside.mark c.self.inside.text.now c.args.len long (omega (arith, c.if-len-self.true)))

pub behind-self-inside-requires : goal.behind-self-inside-requires
behind-self-inside-requires c =
    let long = ap (λ parts. option_map length (first_part parts)) c.self.view_is ∙ c.requires in
    pass_within c.self.inside.done c.self.inside.mark c.self.inside.text.now c.args.len long c.if-len-self.false

pub returns-else-len-self : goal.returns-else-len-self
returns-else-len-self c =
    let long = ap (λ parts. option_map length (first_part parts)) c.self.view_is ∙ c.requires in
    rw (← c.self.view_is) (pass_some c.self.inside.done c.self.inside.mark c.self.inside.text.now c.behind-self-inside.result.now c.args.len long c.if-len-self.false c.behind-self-inside.ensures)
