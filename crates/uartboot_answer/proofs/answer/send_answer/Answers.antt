-- `uartboot_answer::answer::send_answer`: one copy is as many sends.
-- Assumes nothing.
use lib.Seq.{length-take-le}
use native.Mathlib.Omega.{arith}
use mathlib.Core.Path.{sym}
use Rattle.uartboot_answer.proofs.Answers.{shown-few, answer-sent}
use Rattle.uartboot_answer.proofs.answer.send_answer.Goals as goal

pub slice_bounds-copy_up_to-end : goal.slice_bounds-copy_up_to-end
slice_bounds-copy_up_to-end c = sym (length-take-le _ _ c.requires.1)

pub copy_up_to-count-requires : goal.copy_up_to-count-requires
copy_up_to-count-requires c =
    let size = length-take-le c.args.size c.args.work.now c.requires.1 in
    (omega (arith, c.requires.0, size), omega (arith, c.requires.2), omega arith)

pub overflow_cast-count : goal.overflow_cast-count
overflow_cast-count c = omega (arith, shown-few _ _ _ _ _ _ _ _ c.copy_up_to-count.ensures c.requires.1, c.requires.0)

pub overflow_add-place : goal.overflow_add-place
overflow_add-place c = omega (arith, shown-few _ _ _ _ _ _ _ _ c.copy_up_to-count.ensures c.requires.1, c.requires.0)

pub returns : goal.returns
returns c =
    record {
      is = λ ram flash.
          answer-sent _ _ _ ram flash _ _ _ _ _ _ c.requires.0 c.requires.1 c.requires.2 c.copy_up_to-count.ensures _ c.showed.ensures;
    }
