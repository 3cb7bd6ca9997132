-- The parts of a replay put together.
-- Assumes nothing.
use Prim.Native.Nat.{ℕ}
use mathlib.Core.Path.{◌≡◌, refl, sym, ap, ◌∙◌}
use mathlib.Core.List.{List}
use lib.ListN.{drop}
use Rattle.std.specs.Prelude.{Result}
use borrow.Author.Tests.{eq-eqb, ne_eqb}
use Rattle.memory.specs.Memories.{Memories}
use Rattle.uartboot.specs.Session as device
use Rattle.sessions.specs.Kind.{uartboot}
use Rattle.sessions.specs.Definition.{definition}
use Rattle.recording.specs.Form.{host_kind, device_kind, head_length}
use Rattle.recording.specs.Recording.{Recording, recording_of, fault_of, joined_in}
use Rattle.recording.specs.Left.{left_from}
use Rattle.recording.proofs.Files.{fault-refused, file-entries, file-inside, readable-file, file-reads}
use Rattle.visit.specs.Compared.{compared}
use Rattle.visit.specs.Replay.{Replay, answer_of, refused_answer, replayed, played, replay_of}
use Rattle.visit.specs.Played.{Playable, Played, Answers}
use Rattle.visit.specs.declared.held.Held.{Held}
use Rattle.visit.specs.declared.Replayed.{Replayed}

-- what is read, played and compared
abbrev compared_with : Memories → Recording → Replay
compared_with m x =
    let d = definition uartboot m (joined_in host_kind x) in
    replayed (answer_of (compared (joined_in device_kind x) d.replies)) d.memories

pub playable : (file : List ℕ) (m : Memories) → (device.uartboot).refusal m ≡ 0 → fault_of (recording_of file) ≡ 0 → Playable file m
playable file m fits e = record { inside = file-inside file e; readable = readable-file file e; fits = fits }

module _ (file : List ℕ) (m : Memories) (r : Replayed) where
  pub bad-lengths : (number : ℕ) → number ≡ (device.uartboot).refusal m → (number ≡ 0 → ⊥) → r ≡ refused_answer number → replayed r m ≡ replay_of file m
  unfolding replay_of
  bad-lengths number e n q = rw (q, ← e, ne_eqb number 0 n) refl

  module _ (fits : (device.uartboot).refusal m ≡ 0) where
    pub bad-file : (number : ℕ) → number ≡ fault_of (recording_of file) → (number ≡ 0 → ⊥) → r ≡ refused_answer number → replayed r m ≡ replay_of file m
    unfolding replay_of
    bad-file number e n q =
        let refusal = fault-refused (recording_of file) (λ z. n (e ∙ z)) in
        rw (q, eq-eqb _ _ fits) (sym (ap (λ x. played x m) refusal ∙ ap (λ k. replayed (refused_answer k) m) (sym e)))

    pub good-file : fault_of (recording_of file) ≡ 0 → (held : Result Held ℕ) (left : Memories) → Played file m held left → Answers held r → replayed r left ≡ replay_of file m
    unfolding replay_of
    good-file e held left p answers =
        let entries = file-reads file e in
        let same = file-entries file e ∙ entries.is in
        let answer = answers p.is_held ∙ ap answer_of (sym p.verdict) in
        rw (eq-eqb _ _ fits)
        (ap (λ x. replayed x left) answer
        ∙ ap (λ x. replayed (answer_of (compared (left_from device_kind (drop head_length file)) (definition uartboot m (left_from host_kind (drop head_length file))).replies)) x) p.memories_are
        ∙ ap (compared_with m) entries.is
        ∙ ap (λ x. played x m) (sym same))
