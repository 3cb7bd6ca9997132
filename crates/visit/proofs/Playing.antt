-- A recording played call by call: what is still to come, and what the comparison makes of it.
-- Assumes nothing.
use Prim.Native.Nat.{ℕ, ◌+◌, ◌-◌, ◌^◌, ◌≤◌, ◌<◌}
use native.Mathlib.Omega.{arith}
use mathlib.Core.Path.{◌≡◌, refl, sym, ap, subst, ◌∙◌}
use mathlib.Core.List.{List, ◌++◌}
use lib.Dec.{ltb}
use lib.ListN.{length, take, drop, length-append, length-drop}
use lib.Seq.{length-take-le}
use denote.Bor.{Bor}
use borrow.Rule.Slice.PartAt.{sl_partˢ}
use borrow.Author.Tests.{ltb-true, ltb-false}
use borrow.Table.Steps.{cases}
use Rattle.std.specs.Prelude.{Result, Ok, IfOk}
use Rattle.memory.specs.Memories.{Memories, memories, SameLengths}
use Rattle.machine.specs.Session as machine
use Rattle.machine.specs.Session.{result_of}
use Rattle.machine.specs.Listing.{Given}
use Rattle.machine.specs.declared.Record.{Record}
use Rattle.machine.specs.declared.Report.{Report}
use Rattle.uartboot.specs.Session as device
use Rattle.uartboot_flow.specs.Fresh.{fresh_record}
use Rattle.sessions.specs.Kind.{uartboot}
use Rattle.sessions.specs.Definition.{definition}
use Rattle.sessions.specs.Onward.{Reached, fresh, called, nothing, onward, Call}
use Rattle.sessions.proofs.Onward.{piece-by-piece}
use Rattle.recording.specs.Form.{host_kind, device_kind, head_length}
use Rattle.recording.specs.Left.{left_from, left_in, IsRun, Leaves, LiesIn}
use Rattle.recording.specs.declared.run.Run.{Run}
use Rattle.recording.proofs.Entries.{joined-short}
use Rattle.recording.proofs.Runs.{empty, first-left, none_left, run-shown}
use Rattle.recording.proofs.Parts.{lies-past}
use Rattle.visit.specs.Compared.{compared_from, compared}
use Rattle.visit.specs.Held.{verdict_of, IsHeld, HeldIn, Holds}
use Rattle.visit.specs.Played.{Playable, Played}
use Rattle.visit.specs.declared.held.Held.{Held}
use Rattle.visit.proofs.Holding.{held_of}

-- the replies that are still to come
abbrev pub to_come : Record → Memories → (host : Run) → List ℕ
to_come session mem host = (onward device.uartboot session mem (left_in host)).replies

-- falls with every call
abbrev pub effort : Record → Memories → (host : Run) → ℕ
effort session mem host = length (to_come session mem host) + length (left_in host)

-- what the definition gives for a file
abbrev pub given_for : (file : List ℕ) → Memories → Given Memories
given_for file m₀ = definition uartboot m₀ (left_from host_kind (drop head_length file))

abbrev pub recorded : (file : List ℕ) → List ℕ
recorded file = left_from device_kind (drop head_length file)

-- `begun` is the comparison at the beginning
pub record Playing (file : List ℕ) (m₀ : Memories) (begun : Result Held ℕ) (session : Record) (mem : Memories) (host : Run) (held : Result Held ℕ) (room : List ℕ) : Type 0 where
  pub reached : Reached uartboot session mem
  pub same : SameLengths mem m₀
  pub is-host : IsRun host
  pub is_held : IfOk held IsHeld
  pub long : length room ≡ 1024
  pub verdict : compared (recorded file) (given_for file m₀).replies ≡ verdict_of held (to_come session mem host)
  pub memories_are : (onward device.uartboot session mem (left_in host)).memories ≡ (given_for file m₀).memories
  pub lies : (whole : Bor (List ℕ)) (from : ℕ) → IfOk begun (HeldIn whole from) → IfOk held (HeldIn whole from)

-- before the first call
pub begins : (file : List ℕ) (m₀ : Memories) (session : Record) (host run : Run) (room : List ℕ) → Playable file m₀ → session ≡ fresh_record →
    (entries : List ℕ) → entries ≡ drop head_length file →
    Leaves host_kind (left_from host_kind entries) host →
    Leaves device_kind (left_from device_kind entries) run →
    length room ≡ 1024 → length file < 2 ^ 64 → Playing file m₀ (Ok (held_of run 0)) session m₀ host (Ok (held_of run 0)) room
unfolding compared
begins file m₀ session host run room p e entries all h₀ d₀ long fits =
    let h : Leaves host_kind (left_from host_kind (drop head_length file)) host = rw all at h₀ in
    let d : Leaves device_kind (recorded file) run = rw all at d₀ in
    let starts = (piece-by-piece uartboot).starts m₀ (left_from host_kind (drop head_length file)) p.fits in
    let still : onward device.uartboot session m₀ (left_in host) ≡ given_for file m₀ =
    ap (λ r. onward device.uartboot r m₀ (left_in host)) e ∙ ap (λ stream. onward device.uartboot fresh_record m₀ stream) h.left_is ∙ starts in
    record {
      reached = rw e (fresh p.fits);
      same = record { same_ram = refl; same_flash = refl; same_work = refl };
      is-host = h.is_run;
      is_held = record {
        is_run = d.is_run;
        of_device = d.same_kind;
        counted = omega (arith, ap length d.left_is, joined-short device_kind (drop head_length file), length-drop head_length file, fits);
      };
      long = long;
      verdict =
          ap (λ (d : Given Memories). compared (recorded file) d.replies) (sym still)
          ∙ ap (λ left. compared_from 0 left (to_come session m₀ host)) (sym d.left_is);
      memories_are = ap (λ (d : Given Memories). d.memories) still;
      lies = λ whole from l. l;
    }

pub begun-lies : (file : Bor (List ℕ)) (run : Run) → head_length ≤ length file.now →
    LiesIn (sl_partˢ file (head_length + file.ref_ptr.1) head_length (length file.now)) 0 run → HeldIn file head_length (held_of run 0)
begun-lies file run inside l = lies-past file head_length inside l

-- a call that is shown the run
module _ {file : List ℕ} {m₀ : Memories} {begun : Result Held ℕ} {session : Record} {mem : Memories} {host : Run} {held : Result Held ℕ} {room : List ℕ}
    (g : Playing file m₀ begun session mem host held room)
    (a : machine.GivenBack Memories) (is : a ≡ result_of device.uartboot session mem host.bytes.now room)
    (long : length a.reply ≡ length room) where
  by-definition : result_of device.uartboot session mem (take (length host.bytes.now) (left_in host)) room ≡ a
  by-definition = rw (run-shown host) (sym is)

  -- cuts never matter: it is one of the calls that demand 3 speaks of
  one-call : Call uartboot session mem (left_in host) (length host.bytes.now) room a
  one-call = rw by-definition at ((piece-by-piece uartboot).calls session mem g.reached (left_in host) (length host.bytes.now) room)

  pub sent-fits : a.report.sent ≤ length a.reply
  sent-fits = omega (arith, one-call.sent_within, long)

  pub taken-fits : a.report.taken ≤ length host.bytes.now
  taken-fits = omega (arith, one-call.taken_within, ap length (run-shown host))

  pub never-refused : a.report.standing ≡ 0 → ⊥
  never-refused e = omega (arith, one-call.stands, e)

-- what the call gave, and what was then done
pub record Turn (file : List ℕ) (m₀ : Memories) (begun : Result Held ℕ) (session : Record) (mem : Memories) (host : Run) (held : Result Held ℕ) (room : List ℕ) (a : machine.GivenBack Memories) (held' : Result Held ℕ) (host' : Run) : Type 0 where
  pub going : Playing file m₀ begun session mem host held room
  pub is : a ≡ result_of device.uartboot session mem host.bytes.now room
  pub holds : Holds held (take a.report.sent a.reply) held'
  pub leaves : Leaves host.kind (drop a.report.taken (left_in host)) host'
  pub keeps : SameLengths a.memories mem
  pub long : length a.reply ≡ length room

-- from what the program's calls say of their values
pub turned : {file : List ℕ} {m₀ : Memories} {begun : Result Held ℕ} {session : Record} {mem : Memories} {host : Run} {held : Result Held ℕ} {room : List ℕ}
    → Playing file m₀ begun session mem host held room
    → (report : Report) (reply ram flash work : List ℕ)
    → record { report = report; reply = reply; memories = memories ram flash work } ≡ result_of device.uartboot session mem host.bytes.now room
    → (held' : Result Held ℕ) → Holds held (take report.sent reply) held'
    → (host' : Run) → Leaves host.kind (drop report.taken (left_in host)) host'
    → length ram ≡ length mem.ram → length flash ≡ length mem.flash → length work ≡ length mem.work → length reply ≡ length room
    → Turn file m₀ begun session mem host held room (record { report = report; reply = reply; memories = memories ram flash work }) held' host'
turned p report reply ram flash work is held' holds host' leaves same_ram same_flash same_work long =
    record { going = p; is = is; holds = holds; leaves = leaves; keeps = record { same_ram = same_ram; same_flash = same_flash; same_work = same_work }; long = long }

module _ {file : List ℕ} {m₀ : Memories} {begun : Result Held ℕ} {session : Record} {mem : Memories} {host : Run} {held : Result Held ℕ} {room : List ℕ} {a : machine.GivenBack Memories} {held' : Result Held ℕ} {host' : Run}
    (t : Turn file m₀ begun session mem host held room a held' host') where
  abbrev g : Playing file m₀ begun session mem host held room
  g = t.going

  abbrev h : Holds held (take a.report.sent a.reply) held'
  h = t.holds

  abbrev l : Leaves host.kind (drop a.report.taken (left_in host)) host'
  l = t.leaves

  abbrev stream : List ℕ
  stream = left_in host

  called-so : Call uartboot session mem stream (length host.bytes.now) room a
  called-so = one-call g a t.is t.long

  after : onward device.uartboot a.report.session a.memories (drop a.report.taken stream)
      ≡ onward device.uartboot a.report.session a.memories (left_in host')
  after = ap (λ left. onward device.uartboot a.report.session a.memories left) (sym l.left_is)

  replies-are : to_come session mem host ≡ take a.report.sent a.reply ++ to_come a.report.session a.memories host'
  replies-are =
      ap (λ (d : Given Memories). d.replies) called-so.goes_on
      ∙ ap (λ (d : Given Memories). take a.report.sent a.reply ++ d.replies) after

  verdict-after : compared (recorded file) (given_for file m₀).replies
      ≡ verdict_of held' (to_come a.report.session a.memories host')
  verdict-after = g.verdict ∙ ap (verdict_of held) replies-are ∙ h.verdict (to_come a.report.session a.memories host')

  memories-after : (onward device.uartboot a.report.session a.memories (left_in host')).memories
      ≡ (given_for file m₀).memories
  memories-after =
      ap (λ (d : Given Memories). d.memories) (sym after)
      ∙ ap (λ (d : Given Memories). d.memories) (sym called-so.goes_on)
      ∙ g.memories_are

  reached-after : Reached uartboot a.report.session a.memories
  reached-after =
      subst (λ (x : machine.GivenBack Memories). Reached uartboot x.report.session x.memories) (sym t.is)
      (called g.reached host.bytes.now room)

  -- it lies where it lay
  pub still-lies : (whole : Bor (List ℕ)) (from : ℕ) → IfOk begun (HeldIn whole from) → IfOk held' (HeldIn whole from)
  still-lies whole from l = h.lies whole from (g.lies whole from l)

  pub goes_on : Playing file m₀ begun a.report.session a.memories host' held' a.reply
  goes_on =
      record {
        reached = reached-after;
        same = record {
          same_ram = t.keeps.same_ram ∙ g.same.same_ram;
          same_flash = t.keeps.same_flash ∙ g.same.same_flash;
          same_work = t.keeps.same_work ∙ g.same.same_work;
        };
        is-host = l.is_run;
        is_held = h.is_held;
        long = t.long ∙ g.long;
        verdict = verdict-after;
        memories_are = memories-after;
        lies = still-lies;
      }

  -- nothing is still to come
  ended : onward device.uartboot a.report.session a.memories (left_in host') ≡ nothing a.report.session a.memories →
      Played file m₀ held' a.memories
  ended none =
      record {
        is_held = h.is_held;
        verdict = verdict-after ∙ ap (λ (d : Given Memories). verdict_of held' d.replies) none;
        memories_are = sym (sym memories-after ∙ ap (λ (d : Given Memories). d.memories) none);
      }

  pub code_runs : a.report.standing ≡ 3 → Played file m₀ held' a.memories
  code_runs e = ended (called-so.runs (left_in host') e)

  pub all-played : a.report.standing ≡ 1 → length host'.bytes.now ≤ 0 → Played file m₀ held' a.memories
  all-played e none =
      let over = none_left host' l.is_run (empty host'.bytes.now none) in
      ended (ap (λ left. onward device.uartboot a.report.session a.memories left) over ∙ (called-so.waits e).1)

  -- the work that is left
  count : length (to_come session mem host) ≡ a.report.sent + length (to_come a.report.session a.memories host')
  count =
      let sent : length (take a.report.sent a.reply) ≡ a.report.sent = length-take-le a.report.sent a.reply (sent-fits g a t.is t.long) in
      ap length replies-are ∙ length-append (take a.report.sent a.reply) (to_come a.report.session a.memories host')
      ∙ ap (λ n. n + length (to_come a.report.session a.memories host')) sent

  less : length (left_in host') ≡ length (left_in host) - a.report.taken
  less = ap length l.left_is ∙ length-drop a.report.taken (left_in host)

  pub room-less : (a.report.standing ≡ 1 → ⊥) → (a.report.standing ≡ 3 → ⊥) →
      effort a.report.session a.memories host' < effort session mem host
  room-less n m =
      let choked : a.report.standing ≡ 2 = omega (arith, called-so.stands, n, m) in
      omega (arith, count, called-so.full choked, g.long, less)

  pub taken-less : a.report.standing ≡ 1 → 0 < length host'.bytes.now → effort a.report.session a.memories host' < effort session mem host
  taken-less e some =
      omega (arith, count, less, taken, left-some, nonempty)
    where
      taken : a.report.taken ≡ length host.bytes.now
      taken = (called-so.waits e).0 ∙ ap length (run-shown host)

      left-some : 0 < length (left_in host')
      left-some = omega (arith, ap length (first-left host' some))

      nonempty : 0 < length host.bytes.now
      nonempty =
          cases (ltb 0 (length host.bytes.now)) (λ t. ltb-true _ _ t)
          (λ f.
          let none = none_left host g.is-host (empty host.bytes.now (ltb-false _ _ f)) in
          absurd (let z : ⊥ = omega (arith, less, left-some, ap length none) in z))
