-- Two sessions joined by a clean line, as their callers see them: each call is given the record and the memories that the one before it
-- left, is shown some of what the other side has sent and it has not yet taken, and is lent a reply slice (rules, 15.9).
-- Assumes nothing.
use Rattle.std.specs.Prelude.{ℕ, ◌+◌, take, drop}
use mathlib.Core.List.{List, ◌++◌, foldl}
use Rattle.machine.specs.Outcome.{Outcome}
use Rattle.machine.specs.Session.{Session, GivenBack, result_of}
use Rattle.machine.specs.declared.Record.{Record}
use Rattle.joining.specs.Joint.{Both}

-- one side: its record and memories, all that it has sent, and how many of the other's bytes it has taken
pub record Side (M : Type 0) : Type 0 where
  pub session : Record
  pub memories : M
  pub sent : List ℕ
  pub taken : ℕ

pub record Sides (M N : Type 0) : Type 0 where
  pub left : Side M
  pub right : Side N

-- what the other has sent and is not yet taken
abbrev pub waits : {M N : Type 0} → Side M → Side N → List ℕ
waits mine other = drop mine.taken other.sent

-- what a call with this input and this reply slice gives back
abbrev pub answered : {M S : Type 0} → Session ℕ M S → Side M → (input reply : List ℕ) → GivenBack M
answered σ side input reply = result_of σ side.session side.memories input reply

-- the side after it
abbrev pub having : {M : Type 0} → Side M → GivenBack M → Side M
having side a =
    record {
      session = a.report.session;
      memories = a.memories;
      sent = side.sent ++ take a.report.sent a.reply;
      taken = side.taken + a.report.taken;
    }

-- a call on one side, shown so many of the bytes that wait for it, with a reply slice
pub data Lending : Type 0 where
  on_left : (shown : ℕ) (reply : List ℕ) → Lending
  on_right : (shown : ℕ) (reply : List ℕ) → Lending

module _ {M N S K : Type 0} (σ : Session ℕ M S) (τ : Session ℕ N K) where
  abbrev pub lending : Sides M N → Lending → Sides M N
  lending b (on_left shown reply) =
      record { left = having b.left (answered σ b.left (take shown (waits b.left b.right)) reply); right = b.right }
  lending b (on_right shown reply) =
      record { left = b.left; right = having b.right (answered τ b.right (take shown (waits b.right b.left)) reply) }

  -- a list of calls
  abbrev pub lendings : Sides M N → List Lending → Sides M N
  lendings b xs = foldl lending b xs

-- what a machine has done, as the caller sees it
abbrev pub side_of : {M S : Type 0} → Session ℕ M S → Outcome S → Side M
side_of σ o = record { session = σ.write o.final; memories = σ.memories o.final; sent = o.replies; taken = o.taken }

abbrev pub sides_of : {M N S K : Type 0} → Session ℕ M S → Session ℕ N K → Both S K → Sides M N
sides_of σ τ b = record { left = side_of σ b.left; right = side_of τ b.right }
