-- `uartboot::session::act`: each turn of the loop is takes or sends of the machine, and where it returns the machine has stopped.
-- Assumes nothing.
use Rattle.uartboot.proofs.Turns.{begins, taken, hungry, sent, choked, halts}
use Rattle.machine.proofs.Turns.{turn-took, turn-sent, turn-sent-fits, turn-sent-less}
use Rattle.uartboot.proofs.session.act.Goals as goal

pub loop-taking-init : goal.loop-taking-init
loop-taking-init c = rw c.start-at.ensures (begins c.requires)

pub returns-then-at-input : goal.returns-then-at-input
returns-then-at-input c = rw c.stop.ensures (hungry c.loop-taking.invariant _ c.ask_of.ensures _ c.in-Take.is c.if-at-input.true)

pub loop-taking-preserved-in-Take : goal.loop-taking-preserved-in-Take
loop-taking-preserved-in-Take c = rw c.add_taken.ensures (turn-took c.loop-taking.invariant (taken c.loop-taking.invariant _ c.ask_of.ensures _ c.in-Take.is c.take-moved.ensures))

pub returns-then-at-reply : goal.returns-then-at-reply
returns-then-at-reply c = rw c.stop-then-at-reply.ensures (choked c.loop-taking.invariant _ c.ask_of.ensures _ c.in-Send.is c.if-at-reply.true)

pub add_sent-requires : goal.add_sent-requires
add_sent-requires c = turn-sent-fits c.loop-taking.invariant (sent c.loop-taking.invariant _ c.ask_of.ensures _ c.in-Send.is c.send-moved.ensures)

pub loop-taking-smaller : goal.loop-taking-smaller
loop-taking-smaller c = rw c.add_sent.ensures (turn-sent-less c.loop-taking.invariant (sent c.loop-taking.invariant _ c.ask_of.ensures _ c.in-Send.is c.send-moved.ensures))

pub loop-taking-preserved : goal.loop-taking-preserved
loop-taking-preserved c = rw c.add_sent.ensures (turn-sent c.loop-taking.invariant (sent c.loop-taking.invariant _ c.ask_of.ensures _ c.in-Send.is c.send-moved.ensures))

pub returns-in-Halt : goal.returns-in-Halt
returns-in-Halt c = rw c.stop-in-Halt.ensures (halts c.loop-taking.invariant _ c.ask_of.ensures c.in-Halt.is)
