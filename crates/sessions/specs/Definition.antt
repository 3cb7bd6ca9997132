-- The definition of a session (rules, 3.4): fed the kind, the memories as first lent and the uncut stream, it gives its replies, its
-- memories, how many bytes it took and sent, and a record.
-- Assumes nothing.
use Rattle.std.specs.Prelude.{ℕ, List}
use Rattle.machine.specs.Listing.{Given, definition_of}
use Rattle.sessions.specs.Kind.{Kind, MemoriesOf, session_of, fresh_of}

abbrev pub definition : (kind : Kind) → MemoriesOf kind → (stream : List ℕ) → Given (MemoriesOf kind)
definition kind mem stream = definition_of (session_of kind) (fresh_of kind mem) stream
