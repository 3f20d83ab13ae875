use Rattle.std.proofs.Common.{◌≡◌, ◌<◌, length, slice_get, Some, subst, refl, arith}
use Rattle.std.proofs.lemmas.Bool.Decides.{nat_tests}
use Rattle.std.proofs.lemmas.Option.{slice_get_read}
use Rattle.sect_journal.proofs.Found.{row_found}
use Rattle.sect_journal.proofs.journal.Journal.find.Goals as goal

pub returns-clause-found : goal.returns-clause-found
returns-clause-found g c =
    let spans = c.self.inside.spans.items in
    let span = c.in-Some.field-0.now in
    let look = c.in-Some.ensures.lookup in
    let lt : c.args.at < length c.deref.result.now = grind (arith, nat_tests, look.0) in
    let here : slice_get c.deref.result.now c.args.at ≡ Some c.in-Some.field-0.now = slice_get_read c.deref.result.now (length c.deref.result.now) c.args.at c.in-Some.field-0.now refl lt look.1 in
    let is : slice_get c.self.inside.spans.items c.args.at ≡ Some c.in-Some.field-0.now = subst (λ l. slice_get l c.args.at ≡ Some c.in-Some.field-0.now) c.deref.ensures.value here in
    let sized = c.in_ok-resize.ensures.len in
    let long : length c.read_at.new.into ≡ c.in-Some.field-0.now.length = omega (arith, sized) in
    let size : c.len.result ≡ c.in-Some.field-0.now.length = omega (arith, sized) in
    let same : c.resize.new.self.len ≡ c.len.result = omega arith in
    rw (← c.self.view_is) (row_found (g.D.Disk.told c.self.inside.disk) c.self.inside.spans.items c.self.inside.gate c.self.inside.torn c.args.at c.in_ok-count.count c.len.result c.resize.new.self.len c.in-Some.field-0.now c.read_at.new.into c.resize.new.self.items
    c.self.invariant.1 is long size same c.in_ok-count.ensures.bytes)
