use Rattle.std.proofs.Common.{refl, ◌∙◌}
use Rattle.httparse.specs.Spans.{span_bytes}
use Rattle.sect_talk.specs.Asked.{Head}
use Rattle.sect_http.proofs.Heads.{heard_crowded, is_head_at}
use Rattle.sect_http.proofs.hear.crowded.Goals as goal

pub returns : goal.returns
returns c =
    let h = c.requires.crowded.0 in (
      Head h,
      heard_crowded c.args.bytes.now _ c.args.head.now h c.requires.crowded.1 refl
          (c.is_head.ensures ∙ is_head_at c.of.result.now (span_bytes c.args.bytes.now c.args.head.now.method) c.of.ensures) refl,
    )
