-- Each request's line, read through the closure and rewritten at the end.
use Rattle.std.proofs.Common.{◌≡◌, ◌∙◌, ap, IfOk, map}
use Rattle.rayon.proofs.ToStd.{slice-AllZip}
use Rattle.sect_base.specs.declared.duplicate.Memory.{Memory}
use Rattle.sect_survey.specs.Survey.{line_of}
use Rattle.sect_survey.proofs.Pieces.{all_came, each-itself, got}
use Rattle.sect_survey.proofs.searching.lines_of.Goals as goal

pub returns-in-Ok-Ok : goal.returns-in-Ok-Ok
returns-in-Ok-Ok g c =
    let slice = ap (λ it. it.slice.now) c.with_min_len.ensures.base ∙ c.par_iter.ensures in
    let source = ap (λ it. it.base.slice.now) c.map.ensures.base ∙ slice in
    let made = got _ c.collect-made.result _ c.in-Ok-Ok.lines c.in-Ok-Ok.is c.in-Ok-Ok.field-0-is c.collect-made.ensures in
    let chain = made.1 in
    let world = ap (λ f. f.1.now.world) c.map.ensures.f in
    let lines = all_came Memory (line_of c.map.result.f.1.now.world) (λ l. l) c.args.views.now made.0 made.2.0 made.2.1
    (slice-AllZip chain.0 c.args.views.now (chain.1 ∙ source) (λ x r. IfOk r (λ l. l ≡ line_of c.map.result.f.1.now.world x)) _ chain.2) in
    each-itself _ _ made.2.2 ∙ (lines ∙ (λ i. map (line_of (world i)) c.args.views.now))
