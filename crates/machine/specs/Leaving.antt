-- A look: a symbol that the last action leaves in the stream (rules, 15.4: the next greeting's 02 is shown and left untaken).
-- Assumes nothing.
use Rattle.std.specs.Prelude.{ℕ, ◌≡◌, Bool, true, cond, List, [], ◌∷◌}
use Rattle.machine.specs.Machine.{runs, Machine}

module _ {A S : Type 0} (leaves : S → A → Bool) (m : Machine A S) where
  abbrev pub leaving_takes : S → List A → ℕ
  leaving_takes s [] = m.takes s []
  leaving_takes s (a ∷ view) = cond (leaves s a) 0 (m.takes s (a ∷ view))

  -- the same machine, but some symbols stay
  abbrev pub leaving : Machine A S
  leaving = record { need = m.need; after = m.after; says = m.says; takes = leaving_takes; due = m.due }

  -- after a symbol that stays no action follows
  abbrev pub LeavesLast : Type 0
  LeavesLast = (s : S) (a : A) (view : List A) → leaves s a ≡ true → m.need (m.after s (a ∷ view)) ≡ runs
