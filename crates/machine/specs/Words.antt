-- A record as eight words, for C (rules, 3.1).
-- Assumes nothing.
use Rattle.std.specs.Prelude.{ℕ, List, [], ◌∷◌, get_or}
use Rattle.machine.specs.declared.Record.{Record}

abbrev pub record_of : (words : List ℕ) → Record
record_of words =
    record {
      kind = get_or words 0 0;
      phase = get_or words 1 0;
      opcode = get_or words 2 0;
      length = get_or words 3 0;
      place = get_or words 4 0;
      held = get_or words 5 0;
      reason = get_or words 6 0;
      spare = get_or words 7 0;
    }

abbrev pub words_of : Record → List ℕ
words_of r = r.kind ∷ r.phase ∷ r.opcode ∷ r.length ∷ r.place ∷ r.held ∷ r.reason ∷ r.spare ∷ []
