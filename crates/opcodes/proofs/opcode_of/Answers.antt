-- `opcodes::opcode_of`: the first opcode of the list that has the number.
-- Assumes nothing.
use borrow.Author.Rules.{rules}
use lib.Dec.{eqb}
use mathlib.Core.Path.{◌∙◌}
use Rattle.std.proofs.Common.{tests}
use Rattle.std.proofs.lemmas.Iterator.Consumers.{YieldsList-from_copied}
use Rattle.std.proofs.lemmas.Iterator.{YieldsList-from_slice}
use Rattle.std.proofs.lemmas.Iterator.Search.{find_from_yields_List}
use Rattle.opcodes.specs.declared.Opcode.{Opcode}
use Rattle.opcodes.specs.Opcode.{opcodes, opcode_number}
use Rattle.opcodes.proofs.Opcodes.{find_opcode, same-option}
use Rattle.opcodes.proofs.opcode_of.Goals as goal

pub returns : goal.returns
returns c =
    let found = find_from_yields_List (λ (o : Opcode). eqb (opcode_number o) c.args.number) _ _ c.find.result c.find.ensures.ran (YieldsList-from_copied (YieldsList-from_slice opcodes cc)) (λ x b q k. search (rules, tests)) in
    same-option c.find.result ∙ found ∙ find_opcode c.args.number
