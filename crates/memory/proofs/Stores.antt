-- Laws of stores: a loop that goes through a part, a part that was changed and put back, and bytes laid after others.
-- Assumes nothing.
use Prim.Native.Nat.{ℕ, suc, ◌+◌, ◌-◌, ◌<◌, ◌≤◌}
use mathlib.Core.Path.{◌≡◌, refl, sym, ◌∙◌}
use mathlib.Core.List.{List, [], ◌∷◌, ◌++◌, append_assoc, append-nil}
use native.Mathlib.Nat.{zero-add}
use native.Mathlib.Numerals.{add-one}
use native.Mathlib.Omega.{arith}
use lib.ListN.{length, drop, set, get_or, length-append, length-drop, take-append-drop, drop_of_length-le}
use lib.Seq.{length-take-le, take_all, take-length, take-append_seam, take-suc-set, drop-drop, drop-set-lt, drop-append-add, drop-cons}
use lib.Seq.{set-append_seam, sets, sets-eq, paste}
use borrow.Rule.Slice.PartMut.{mid_of, put_mid}
use Rattle.memory.specs.Store.{laid, changed_from, part_of}

-- a loop that stores bytes at the front of a part, each joined with the one that it finds there
module _ (change : List ℕ → List ℕ → List ℕ) (bytes part whole : List ℕ) (i : ℕ) (so_far : changed_from i (change (drop i bytes)) part ≡ whole) where
  pub stored_more : (join : ℕ → ℕ → ℕ) → ((old new : ℕ) (olds news : List ℕ) → change (new ∷ news) (old ∷ olds) ≡ join old new ∷ change news olds)
      → i < length bytes → i < length part
      → changed_from (i + 1) (change (drop (i + 1) bytes)) (set part i (join (get_or part i 0) (get_or bytes i 0))) ≡ whole
  stored_more join one more room =
      let past : i < suc i = omega arith in
      rw (add-one, take-suc-set part i _ room, drop-set-lt (suc i) part i _ past, append_assoc)
      (rw (drop-cons bytes i 0 more, drop-cons part i 0 room, one _ _ _ _) at so_far)

  pub stored-all : ((olds : List ℕ) → change [] olds ≡ olds) → length bytes ≤ i → part ≡ whole
  stored-all none past = sym (take-append-drop i part) ∙ (rw (drop_of_length-le bytes past, none _) at so_far)

-- a byte laid after those before it
pub lays : (bytes part whole : List ℕ) (i : ℕ) → changed_from i (laid (drop i bytes)) part ≡ whole → i < length bytes → i < length part
    → changed_from (i + 1) (laid (drop (i + 1) bytes)) (set part i (get_or bytes i 0)) ≡ whole
lays bytes part whole i so_far more room = stored_more laid bytes part whole i so_far (λ old new. new) (λ _ _ _ _. refl) more room

-- a part that lies in a memory
pub part_length : (place count : ℕ) (memory : List ℕ) → place + count ≤ length memory → length (part_of place count memory) ≡ count
part_length place count memory fits = length-take-le count (drop place memory) (rw length-drop (omega arith))

-- the part from a place to the end
pub to_end : (memory : List ℕ) (place : ℕ) → mid_of place (length memory - place) memory ≡ drop place memory
to_end memory place = take_all (length memory - place) (drop place memory) (simp length-drop (omega arith))

-- a part that was changed, put back
module _ (memory : List ℕ) (place : ℕ) (change : List ℕ → List ℕ) where
  pub changed-part : place ≤ length memory
      → put_mid place (length memory - place) memory (change (mid_of place (length memory - place) memory)) ≡ changed_from place change memory
  changed-part h =
      let all : length (drop place memory) ≤ length memory - place = simp length-drop (omega arith) in
      simp (to_end memory place, drop_of_length-le (drop place memory) all, append-nil)

  pub changed-length : length (change (drop place memory)) ≡ length (drop place memory) → length (changed_from place change memory) ≡ length memory
  changed-length e = rw (length-append, e, ← length-append, take-append-drop)

-- bytes laid into the part from a place on, with the part put back
pub laid-part : (memory bytes : List ℕ) (place : ℕ) → place + length bytes ≤ length memory
    → put_mid place (length memory - place) memory (laid bytes (mid_of place (length memory - place) memory)) ≡ paste memory place bytes (length bytes)
laid-part memory bytes place fits = changed-part memory place (laid bytes) (omega arith) ∙ simp (drop-drop, take-length, append_assoc)

-- bytes stored one by one from the front on
pub laid-sets : (bytes part : List ℕ) → length bytes ≤ length part → sets part 0 bytes ≡ laid bytes part
laid-sets bytes part fits =
    let h : 0 + length bytes ≤ length part = omega arith in
    sets-eq bytes part 0 h ∙ rw zero-add

pub laid-length : (bytes part : List ℕ) → length bytes ≤ length part → length (laid bytes part) ≡ length part
laid-length bytes part fits = simp (length-append, length-drop) (omega arith)

-- after bytes that were laid first: more bytes, laid into the part from there on, and a single byte
module _ (first memory : List ℕ) where
  pub laid-behind : (bytes : List ℕ) → length first + length bytes ≤ length memory → (place : ℕ) (before part : List ℕ)
      → place ≡ length first → before ≡ laid first memory → part ≡ laid bytes (mid_of place (length before - place) before)
      → put_mid place (length before - place) before part ≡ laid (first ++ bytes) memory
  laid-behind bytes fits place before part at one two =
      let h : length first + length bytes ≤ length (laid first memory) = rw (laid-length first memory (omega arith)) fits in
      rw (two, one, at)
      (laid-part (laid first memory) bytes (length first) h ∙ simp (take-append_seam, take-length, drop-append-add, drop-drop, length-append))

  pub laid_next : (byte : ℕ) → length first < length memory → set (laid first memory) (length first) byte ≡ laid (first ++ byte ∷ []) memory
  laid_next byte h = simp (drop-cons memory (length first) 0 h, set-append_seam, length-append, append_assoc, add-one)
