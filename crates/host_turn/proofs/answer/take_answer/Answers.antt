-- `host_turn::answer::take_answer`: one copy is as many single takes.
-- Assumes nothing.
use Rattle.host_turn.proofs.Answers.{answer-taken}
use Rattle.host_turn.proofs.answer.take_answer.Goals as goal

pub returns : goal.returns
returns c =
    record { is = λ opcode payload is. answer-taken opcode _ payload _ _ is _ _ _ _ _ c.requires.0 c.requires.1 c.requires.2 c.copy_up_to-count.ensures _ c.collected_step.ensures }
