-- Demand 3, the claim about a whole list of calls (rules, 3.5): one statement for all kinds, all memories, every stream of bytes and every
-- list of calls, the refused ones among them. Its lines are stated in machine's Reach and SessionClaim, over any session:
--   reach             a session starts at the record that is handed out for it; this and every record that calls can reach are accepted
--   definition_ends   the definition stops when a take finds the stream empty, or when code runs
--   refused_lengths   where the lengths are refused, all calls are, and nothing changes
--   no_refusal        else none is: every record on the way is sound
--   replies_begin, taken_within, sent_within   always: joined replies are a beginning of the definition's, counts within
--   all_taken, code_runs   all taken and waiting for a byte, or code running: replies, counts, memories and record are the definition's
--   too_few_left      the same where what is left is less than the next action needs
--   enough_room, takes_all   a call with room for the replies waits for a byte, unless code runs; it then has taken all it was shown
--   reached, reached_is, reads_as, history   the state that the list has come to, by actions of the flow; its record is read as that state
--   told              what is told below holds where the list has come, and at every state on the way
-- Assumes nothing.
use Rattle.std.specs.Prelude.{ℕ, List}
use Rattle.wire.specs.Bytes.{Byte}
use Rattle.machine.specs.History.{Event}
use Rattle.machine.specs.Acknowledged.{RunsExactly}
use Rattle.machine.specs.Reach.{Reach}
use Rattle.machine.specs.SessionClaim.{TakesAll, DefinitionEnds, Claim, MadeClaim}
use Rattle.sessions.specs.Kind.{Kind, StateOf, session_of, SameOf, fresh_of, fresh_record_of, awaits_of, NakUnchanged}

-- code runs exactly when the host has acknowledged a checksum, and a command NAKed before execution has changed no RAM or flash
-- (rules, 3.6 and 3.7)
abbrev pub Told : (kind : Kind) → List (Event ℕ (StateOf kind)) → StateOf kind → Type 0
Told kind events s = RunsExactly (awaits_of kind) (session_of kind).machine events s × NakUnchanged kind events s

pub record ForKind (kind : Kind) : Type 0 where
  pub reach : Reach (session_of kind) (SameOf kind) (fresh_of kind) (fresh_record_of kind)
  pub definition_ends : DefinitionEnds (session_of kind) Byte (fresh_of kind)
  -- of lists of the definition's own calls
  pub defined : Claim (session_of kind) Byte (Told kind) (fresh_of kind)
  -- of what a program's calls gave back, each as its routine promises
  pub made : MadeClaim (session_of kind) Byte (Told kind) (fresh_of kind)
  -- a call that waits for a byte has taken all it was shown
  pub takes_all : TakesAll (session_of kind)

abbrev pub Demand3 : Type 0
Demand3 = (kind : Kind) → ForKind kind
