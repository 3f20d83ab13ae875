-- the first free time has the least position
use Rattle.std.proofs.Common.{ap, sym, ◌∙◌, ◌∷◌, []}
use Rattle.std.specs.Prelude.{map, filter}
use Rattle.std.specs.Option.{option_map}
use Rattle.sect_people.specs.Student.{find_student}
use Rattle.sect_base.specs.Pattern.{lists_overlap}
use Rattle.sect_model.specs.World.{meetings_of}
use Rattle.sect_model.specs.Rules.{least}
use Rattle.sect_moment.specs.FreeTimes.{first_free}
use Rattle.sect_moment.proofs.LeastLemmas.{least-free, asks-free}
use Rattle.sect_moment.proofs.moment.Moment.least_free.Goals as goal

pub returns : goal.returns
returns c =
    let v = c.args.self.now.at in
    let asks = c.person.result.now.asks in
    let e = ap (option_map (λ s. s.asks)) c.person.ensures in
    c.free_before.ensures
    ∙ (λ i. first_free (c.requires i) (c.from.ensures i) 1 asks)
    ∙ sym (least-free (meetings_of v c.args.section) c.args.rank 1 asks)
    ∙ (λ i. least (map (λ f. f.0) (filter (λ f. lists_overlap (meetings_of v c.args.section) (f.1 ∷ [])) (asks-free c.args.rank (find_student v.students c.args.self.now.student) asks e i))))
