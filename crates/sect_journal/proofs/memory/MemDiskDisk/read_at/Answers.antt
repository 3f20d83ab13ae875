use Rattle.std.proofs.Common.{◌≡◌, ◌∙◌, [], length, ap, subst, Option, Some}
use Rattle.sect_journal.specs.Disk.{Told, Reads}
use Rattle.sect_journal.specs.Memory.{told_by}
use Rattle.sect_edge.specs.Memory.{after_success, after_fault}
use Rattle.sect_journal.proofs.Replays.{look_same}
use Rattle.sect_journal.proofs.memory.MemDiskDisk.read_at.Goals as goal

pub returns-in_err-look-clause-same : goal.returns-in_err-look-clause-same
returns-in_err-look-clause-same c =
    look_same c.look.result c.args.self.now c.look.new.self (after_success c.args.self.now.calls) (after_fault c.args.self.now.calls) c.look.ensures.ok c.look.ensures.failed c.look.ensures.memory

pub returns-clause-same : goal.returns-clause-same
returns-clause-same c =
    look_same c.look.result c.args.self.now c.look.new.self (after_success c.args.self.now.calls) (after_fault c.args.self.now.calls) c.look.ensures.ok c.look.ensures.failed c.look.ensures.memory

pub returns-clause-bytes : goal.returns-clause-bytes
returns-clause-bytes c =
    let same : ◌≡◌ {A = Option Told} (Some (told_by c.look.new.self)) (Some (told_by c.args.self.now)) = returns-clause-same c in
    let told : told_by c.look.new.self ≡ told_by c.args.self.now = cc in
    let seen : c.seen.result.now ≡ (told_by c.args.self.now).now.seen = c.seen.ensures ∙ ap (λ t. t.now.seen) told in
    subst (λ l. Reads (Some (record { now = record { durable = []; seen = l; pending = [] }; past = [] })) c.args.at (length c.copy_out.new.into) c.copy_out.result c.copy_out.new.into) seen (c.copy_out.ensures.count, c.copy_out.ensures.bytes)
