-- `host::session::act`: each turn of the loop is takes, sends or a look of the machine, and where it returns the machine has stopped.
-- Assumes nothing.
use Rattle.host.proofs.Turns.{begins, ready-to-take, took, took-fits, took-less, hungry, ready-to-send, sent, sent-fits, sent-less, choked, look-hungry, looked, halts}
use Rattle.host.proofs.session.act.Goals as goal

pub loop-taking-init : goal.loop-taking-init
loop-taking-init c = rw c.start-at.ensures (begins c.requires.payload_value c.requires.ready)

pub returns-then-at-input : goal.returns-then-at-input
returns-then-at-input c = rw c.stop.ensures (hungry c.loop-taking.invariant _ c.ask_of.ensures _ c.in-Take.is c.if-at-input.true)

pub take-moved-requires-clause-fits_taking : goal.take-moved-requires-clause-fits_taking
take-moved-requires-clause-fits_taking c = ready-to-take c.loop-taking.invariant _ c.ask_of.ensures _ c.in-Take.is

pub add_taken-requires : goal.add_taken-requires
add_taken-requires c = took-fits c.loop-taking.invariant _ c.ask_of.ensures _ c.in-Take.is c.take-moved.ensures

pub loop-taking-smaller-in-Take : goal.loop-taking-smaller-in-Take
loop-taking-smaller-in-Take c = rw c.add_taken.ensures (took-less c.loop-taking.invariant _ c.ask_of.ensures _ c.in-Take.is c.take-moved.ensures)

pub loop-taking-preserved-in-Take : goal.loop-taking-preserved-in-Take
loop-taking-preserved-in-Take c = rw c.add_taken.ensures (took c.loop-taking.invariant _ c.ask_of.ensures _ c.in-Take.is c.take-moved.ensures)

pub returns-then-at-output : goal.returns-then-at-output
returns-then-at-output c = rw c.stop-then-at-output.ensures (choked c.loop-taking.invariant _ c.ask_of.ensures _ c.in-Send.is c.if-at-output.true)

pub send-moved-requires-clause-fits_sending : goal.send-moved-requires-clause-fits_sending
send-moved-requires-clause-fits_sending c = ready-to-send c.loop-taking.invariant _ c.ask_of.ensures _ c.in-Send.is

pub add_sent-requires : goal.add_sent-requires
add_sent-requires c = sent-fits c.loop-taking.invariant _ c.ask_of.ensures _ c.in-Send.is c.send-moved.ensures

pub loop-taking-smaller : goal.loop-taking-smaller
loop-taking-smaller c = rw c.add_sent.ensures (sent-less c.loop-taking.invariant _ c.ask_of.ensures _ c.in-Send.is c.send-moved.ensures)

pub loop-taking-preserved : goal.loop-taking-preserved
loop-taking-preserved c = rw c.add_sent.ensures (sent c.loop-taking.invariant _ c.ask_of.ensures _ c.in-Send.is c.send-moved.ensures)

pub returns-then-at-input-2 : goal.returns-then-at-input-2
returns-then-at-input-2 c = rw c.stop-then-at-input-2.ensures (look-hungry c.loop-taking.invariant _ c.ask_of.ensures c.in-Look.is c.if-at-input-2.true)

pub returns-in-Look : goal.returns-in-Look
returns-in-Look c = rw (c.stop-in-Look.ensures, c.add_taken-in-Look.ensures) (looked c.loop-taking.invariant _ c.ask_of.ensures c.in-Look.is c.if-at-input-2.false _ c.look-moved.ensures)

pub returns-in-Halt : goal.returns-in-Halt
returns-in-Halt c = rw c.stop-in-Halt.ensures (halts c.loop-taking.invariant _ c.ask_of.ensures c.in-Halt.is)
