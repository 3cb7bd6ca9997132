-- Recorded bytes compared with replies (rules, 16.4): they agree, or the place from 0 at which they differ first. Where one of both ends
-- first, they differ at its end.
-- Assumes nothing.
use Rattle.std.specs.Prelude.{ℕ, suc, cond, List, [], ◌∷◌, eqb}

pub data Verdict : Type 0 where
  agrees : Verdict
  differs : (place : ℕ) → Verdict

-- from a place on
abbrev pub compared_from : (place : ℕ) (recorded replies : List ℕ) → Verdict
compared_from place [] [] = agrees
compared_from place [] (reply ∷ replies) = differs place
compared_from place (byte ∷ recorded) [] = differs place
compared_from place (byte ∷ recorded) (reply ∷ replies) = cond (eqb byte reply) (compared_from (suc place) recorded replies) (differs place)

unfoldable pub compared : (recorded replies : List ℕ) → Verdict
compared recorded replies = compared_from 0 recorded replies
