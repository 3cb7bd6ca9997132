-- Cuts of the device's bytes change no outcome of a host (rules, 15.7): the claim about a whole list of calls, for every command, every
-- stream of bytes and every list of calls, the refused ones among them. Its lines are those of demand 3, stated in machine's Reach and
-- SessionClaim over any session. For a host, "memories" there are the command and the answer buffer, "refused lengths" that these are
-- refused with 71 or 72, and "code runs" that the command is over.
-- Assumes nothing.
use Rattle.wire.specs.Bytes.{Byte}
use Rattle.machine.specs.Reach.{Reach}
use Rattle.machine.specs.SessionClaim.{TakesAll, DefinitionEnds, Claim, MadeClaim}
use Rattle.host_command.specs.Exchange.{SameLent}
use Rattle.host_flow.specs.Fresh.{fresh_record, fresh}
use Rattle.host_flow.specs.Stays.{AnswerCame}
use Rattle.host.specs.Session.{host_session}

pub record HostCuts : Type 0 where
  -- a host starts at the record that is handed out for it; this and every record that calls can reach are accepted
  pub reach : Reach host_session SameLent fresh fresh_record
  -- the definition stops when a take finds the stream empty, or when the command is over
  pub definition_ends : DefinitionEnds host_session Byte fresh
  -- of lists of the definition's own calls, and of what a program's calls gave back; told of the way is which answer bytes came
  pub defined : Claim host_session Byte AnswerCame fresh
  pub made : MadeClaim host_session Byte AnswerCame fresh
  -- a call that waits for a byte has taken all it was shown
  pub takes_all : TakesAll host_session
