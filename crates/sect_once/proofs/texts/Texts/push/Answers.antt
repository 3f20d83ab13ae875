use Rattle.std.proofs.Common.{◌≤◌, ◌<◌, ◌-◌, ◌∙◌, ◌++◌, [], ◌∷◌, ap, arith, length, subst, sym, vec_capacity}
use Rattle.sect_once.specs.Cuts.{cut}
use Rattle.sect_once.proofs.Cuts.{cut-length, pushed}
use Rattle.sect_once.proofs.texts.Texts.push.Goals as goal

pub push_reserved-requires : goal.push_reserved-requires
push_reserved-requires c =
    let room : length (cut 0 c.self.inside.bytes.items c.self.inside.ends.items) < vec_capacity c.self.inside.ends = subst (λ s. length s.texts < s.capacity) (sym c.self.view_is) c.requires.room in
    omega (arith, room, cut-length 0 c.self.inside.bytes.items c.self.inside.ends.items, c.self.inside.ends.ok.0)

pub unreachable-requires : goal.unreachable-requires
unreachable-requires c =
    let room : length c.args.text.now ≤ vec_capacity c.self.inside.bytes - length c.self.inside.bytes.items = subst (λ s. length c.args.text.now ≤ s.spare) (sym c.self.view_is) c.requires.bytes in
    omega (arith, room, c.in_default.ensures.full, c.self.inside.bytes.ok.0, c.self.inside.bytes.ok.1)

pub invariant_of-self : goal.invariant_of-self
invariant_of-self c = (pushed c.self.inside.bytes.items c.extend_from_slice.new.self.items c.self.inside.ends.items c.push_reserved.new.self.items c.args.text.now c.len.result c.self.invariant
    c.in-Ok.ensures.items c.push_reserved.ensures.items (omega (arith, c.len.ensures, c.extend_from_slice.new.self.ok.0))).0

pub returns : goal.returns
returns c = (pushed c.self.inside.bytes.items c.extend_from_slice.new.self.items c.self.inside.ends.items c.push_reserved.new.self.items c.args.text.now c.len.result c.self.invariant
    c.in-Ok.ensures.items c.push_reserved.ensures.items (omega (arith, c.len.ensures, c.extend_from_slice.new.self.ok.0))).1
    ∙ ap (λ s. s.texts ++ c.args.text.now ∷ []) c.self.view_is
