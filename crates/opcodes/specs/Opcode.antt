-- The opcodes, a row for each (rules, 6.6).
-- Assumes nothing.
use Rattle.std.specs.Prelude.{ℕ, Bool, true, false, cond, List, [], ◌∷◌, eqb, ltb, Option, Some, None}
use Rattle.opcodes.specs.declared.Opcode.{Opcode}
use Rattle.opcodes.specs.declared.Opcode.TheVariants.{Write, Read, Copy, Erase, Run, ReadQspi, Version, ChipErase, DirectWrite}
use Rattle.opcodes.specs.declared.Shape.{Shape}

-- the reasons: unknown opcode; a length that the opcode doesn't have
abbrev pub unknown_opcode : ℕ
unknown_opcode = 11

abbrev pub bad_length : ℕ
bad_length = 12

abbrev pub shape : (number fixed : ℕ) (has_data has_answer : Bool) → Shape
shape number fixed has_data has_answer = record { number = number; fixed = fixed; has_data = has_data; has_answer = has_answer }

-- an opcode's number, how many bytes its payload's numbers take, whether data, of 1 byte or more, follow them, and whether it has an answer
abbrev pub shape_of : Opcode → Shape
shape_of Write = shape 0x01 4 true false
shape_of Read = shape 0x02 6 false true
shape_of Copy = shape 0x03 10 false false
shape_of Erase = shape 0x04 8 false false
shape_of Run = shape 0x05 4 false false
shape_of ReadQspi = shape 0x08 6 false true
shape_of Version = shape 0x0B 0 false true
shape_of ChipErase = shape 0x0C 0 false false
shape_of DirectWrite = shape 0x12 5 true false

-- all of them
abbrev pub opcodes : List Opcode
opcodes = Write ∷ Read ∷ Copy ∷ Erase ∷ Run ∷ ReadQspi ∷ Version ∷ ChipErase ∷ DirectWrite ∷ []

abbrev pub opcode_number : Opcode → ℕ
opcode_number opcode = (shape_of opcode).number

-- the first of these opcodes that has the number
abbrev pub among_these : List Opcode → (number : ℕ) → Option Opcode
among_these [] number = None
among_these (opcode ∷ others) number = cond (eqb (opcode_number opcode) number) (Some opcode) (among_these others number)

unfoldable pub opcode_of : (number : ℕ) → Option Opcode
opcode_of number = among_these opcodes number

-- the payload lengths that an opcode has
abbrev pub has_length : Opcode → (size : ℕ) → Bool
has_length opcode size = let s = shape_of opcode in cond s.has_data (ltb s.fixed size) (eqb size s.fixed)

abbrev pub has_answer : Opcode → Bool
has_answer opcode = (shape_of opcode).has_answer

-- where an opcode's data begin in a payload (rules, 6.7)
abbrev pub data_place : Opcode → ℕ
data_place opcode = (shape_of opcode).fixed

abbrev pub is_run : Opcode → Bool
is_run opcode = eqb (opcode_number opcode) (opcode_number Run)
