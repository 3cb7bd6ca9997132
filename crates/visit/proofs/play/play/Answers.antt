-- `visit::play::play`: what is still to come after a call is what was still to come before it, less what it gave.
-- Assumes nothing.
use Rattle.std.proofs.Common.{◌<◌, ◌≤◌, length, arith, sym, refl, ap}
use lib.Seq.{length-take-le}
use Rattle.std.proofs.lemmas.List.{take_rest}
use Rattle.std.proofs.lemmas.Bool.Decides.{nat_tests}
use Rattle.memory.specs.Memories.{memories}
use Rattle.visit.proofs.Playing.{begins, sent-fits, taken-fits, never-refused, turned, goes_on, code_runs, all-played, begun-lies, still-lies, room-less, taken-less}
use Rattle.machine.specs.Stop.{standing_number}
use Rattle.machine.specs.Told.{refusal_number, told}
use Rattle.uartboot.specs.Session.{given_back}
use Rattle.std.specs.Prelude.{Ok, Err}
use Rattle.visit.proofs.play.play.Goals as goal

pub loop-done-init : goal.loop-done-init
loop-done-init c =
    begins c.args.file.now (memories c.args.ram.now c.args.flash.now c.args.work.now) c.fresh-session.result c.first-host.result c.first.result _ c.requires c.fresh-session.ensures
    _ (take_rest c.args.file.now 5) c.first-host.ensures.leaves c.first.ensures.leaves refl (omega arith)

pub unreachable-requires : goal.unreachable-requires
unreachable-requires c =
    let k = c.call in
    never-refused c.loop-done.invariant (given_back c.loop-done.session (Err c.in_default.field-0) k.new.reply (memories k.new.ram k.new.flash k.new.work)) c.in_default.ensures k.auto.reply refl

pub slice_bounds-room-end : goal.slice_bounds-room-end
slice_bounds-room-end c =
    let k = c.call in
    sent-fits c.loop-done.invariant (given_back c.loop-done.session (Ok c.in-Ok.done) k.new.reply (memories k.new.ram k.new.flash k.new.work)) c.in-Ok.ensures k.auto.reply

pub slice_bounds-hold-end : goal.slice_bounds-hold-end
slice_bounds-hold-end c =
    let k = c.call in
    let fits = sent-fits c.loop-done.invariant (given_back c.loop-done.session (Ok c.in-Ok.done) k.new.reply (memories k.new.ram k.new.flash k.new.work)) c.in-Ok.ensures k.auto.reply in
    sym (length-take-le _ _ fits)

pub past-host-requires-clause-count_bound : goal.past-host-requires-clause-count_bound
past-host-requires-clause-count_bound c =
    let k = c.call in
    taken-fits c.loop-done.invariant (given_back c.loop-done.session (Ok c.in-Ok.done) k.new.reply (memories k.new.ram k.new.flash k.new.work)) c.in-Ok.ensures k.auto.reply

pub returns-in-Ended-clause-played : goal.returns-in-Ended-clause-played
returns-in-Ended-clause-played c =
    let k = c.call in
    let turn = turned c.loop-done.invariant (told refusal_number c.loop-done.session (Ok c.in-Ok.done)) k.new.reply k.new.ram k.new.flash k.new.work c.in-Ok.ensures _ c.hold-held.ensures _ c.past-host.ensures.leaves k.auto.ram k.auto.flash k.auto.work k.auto.reply in
    code_runs turn (ap standing_number c.in-Ended.is)

pub returns-in-NeedsByte-clause-played : goal.returns-in-NeedsByte-clause-played
returns-in-NeedsByte-clause-played c =
    let k = c.call in
    let turn = turned c.loop-done.invariant (told refusal_number c.loop-done.session (Ok c.in-Ok.done)) k.new.reply k.new.ram k.new.flash k.new.work c.in-Ok.ensures _ c.hold-held.ensures _ c.past-host.ensures.leaves k.auto.ram k.auto.flash k.auto.work k.auto.reply in
    let none : length c.past-host.result.bytes.now ≤ 0 = grind (arith, nat_tests) in
    all-played turn (ap standing_number c.in-NeedsByte.is) none

pub returns-in-Ended-clause-lies : goal.returns-in-Ended-clause-lies
returns-in-Ended-clause-lies c =
    let k = c.call in
    let turn = turned c.loop-done.invariant (told refusal_number c.loop-done.session (Ok c.in-Ok.done)) k.new.reply k.new.ram k.new.flash k.new.work c.in-Ok.ensures _ c.hold-held.ensures _ c.past-host.ensures.leaves k.auto.ram k.auto.flash k.auto.work k.auto.reply in
    still-lies turn c.args.file 5 (begun-lies c.args.file c.first.result c.requires.inside c.first.ensures.lies)

pub returns-in-NeedsByte-clause-lies : goal.returns-in-NeedsByte-clause-lies
returns-in-NeedsByte-clause-lies c =
    let k = c.call in
    let turn = turned c.loop-done.invariant (told refusal_number c.loop-done.session (Ok c.in-Ok.done)) k.new.reply k.new.ram k.new.flash k.new.work c.in-Ok.ensures _ c.hold-held.ensures _ c.past-host.ensures.leaves k.auto.ram k.auto.flash k.auto.work k.auto.reply in
    still-lies turn c.args.file 5 (begun-lies c.args.file c.first.result c.requires.inside c.first.ensures.lies)

pub loop-done-smaller-else-is_empty : goal.loop-done-smaller-else-is_empty
loop-done-smaller-else-is_empty c =
    let k = c.call in
    let turn = turned c.loop-done.invariant (told refusal_number c.loop-done.session (Ok c.in-Ok.done)) k.new.reply k.new.ram k.new.flash k.new.work c.in-Ok.ensures _ c.hold-held.ensures _ c.past-host.ensures.leaves k.auto.ram k.auto.flash k.auto.work k.auto.reply in
    let some : 0 < length c.past-host.result.bytes.now = grind (arith, nat_tests) in
    taken-less turn (ap standing_number c.in-NeedsByte.is) some

pub loop-done-preserved-else-is_empty : goal.loop-done-preserved-else-is_empty
loop-done-preserved-else-is_empty c =
    let k = c.call in
    let turn = turned c.loop-done.invariant (told refusal_number c.loop-done.session (Ok c.in-Ok.done)) k.new.reply k.new.ram k.new.flash k.new.work c.in-Ok.ensures _ c.hold-held.ensures _ c.past-host.ensures.leaves k.auto.ram k.auto.flash k.auto.work k.auto.reply in
    goes_on turn

pub loop-done-smaller : goal.loop-done-smaller
loop-done-smaller c =
    let k = c.call in
    let turn = turned c.loop-done.invariant (told refusal_number c.loop-done.session (Ok c.in-Ok.done)) k.new.reply k.new.ram k.new.flash k.new.work c.in-Ok.ensures _ c.hold-held.ensures _ c.past-host.ensures.leaves k.auto.ram k.auto.flash k.auto.work k.auto.reply in
    let choked = ap standing_number c.in-NeedsRoom.is in
    room-less turn (λ z. omega (arith, choked, z)) (λ z. omega (arith, choked, z))

pub loop-done-preserved : goal.loop-done-preserved
loop-done-preserved c =
    let k = c.call in
    let turn = turned c.loop-done.invariant (told refusal_number c.loop-done.session (Ok c.in-Ok.done)) k.new.reply k.new.ram k.new.flash k.new.work c.in-Ok.ensures _ c.hold-held.ensures _ c.past-host.ensures.leaves k.auto.ram k.auto.flash k.auto.work k.auto.reply in
    goes_on turn
