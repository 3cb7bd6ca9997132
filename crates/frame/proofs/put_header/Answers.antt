-- `frame::put_header`: the stores one after the other, by whether the length is extended.
-- Assumes nothing.
use Prim.Native.Nat.{ℕ, ◌-◌, ◌≤◌}
use mathlib.Core.Path.{◌≡◌, sym, ap, ◌∙◌}
use mathlib.Core.List.{List, ◌∷◌}
use mathlib.Core.Bool.{true, false}
use native.Mathlib.Omega.{arith}
use lib.ListN.{length, length-set}
use Rattle.numbers.specs.Number.{bytes_of}
use Rattle.memory.specs.Store.{laid}
use Rattle.memory.proofs.Stores.{laid-sets}
use Rattle.frame.specs.Frame.{is_extended}
use Rattle.frame.proofs.Frames.{longest-most, extended-from, plain-below, extended-header, plain-header}
use Rattle.frame.proofs.put_header.Goals as goal

pub bounds-out-1 : goal.bounds-out-1
bounds-out-1 c =
    let extended : is_extended c.args.kind c.args.count ≡ true = sym c.is_extended.ensures ∙ c.if-is_extended.true in
    let extended-room : 5 ≤ length c.args.out.now = omega (arith, c.requires.1, ap length (extended-header c.args.kind c.args.count extended)) in
    simp length-set (omega (arith, extended-room))

pub bounds-out-2 : goal.bounds-out-2
bounds-out-2 c =
    let extended : is_extended c.args.kind c.args.count ≡ true = sym c.is_extended.ensures ∙ c.if-is_extended.true in
    let extended-room : 5 ≤ length c.args.out.now = omega (arith, c.requires.1, ap length (extended-header c.args.kind c.args.count extended)) in
    simp length-set (omega (arith, extended-room))

pub overflow_sub-count : goal.overflow_sub-count
overflow_sub-count c =
    let extended : is_extended c.args.kind c.args.count ≡ true = sym c.is_extended.ensures ∙ c.if-is_extended.true in
    omega (arith, extended-from c.args.kind c.args.count extended)

pub overflow_cast-count : goal.overflow_cast-count
overflow_cast-count c = omega (arith, longest-most c.args.kind)

pub put-requires-clause-room : goal.put-requires-clause-room
put-requires-clause-room c =
    let extended : is_extended c.args.kind c.args.count ≡ true = sym c.is_extended.ensures ∙ c.if-is_extended.true in
    let extended-room : 5 ≤ length c.args.out.now = omega (arith, c.requires.1, ap length (extended-header c.args.kind c.args.count extended)) in
    simp length-set extended-room

pub shape_of-out-then-is_extended : goal.shape_of-out-then-is_extended
shape_of-out-then-is_extended c = simp (c.put.ensures, length-set)

pub returns-then-is_extended : goal.returns-then-is_extended
returns-then-is_extended c =
    let extended : is_extended c.args.kind c.args.count ≡ true = sym c.is_extended.ensures ∙ c.if-is_extended.true in
    let extended-room : 5 ≤ length c.args.out.now = omega (arith, c.requires.1, ap length (extended-header c.args.kind c.args.count extended)) in
    c.put.ensures
    ∙ laid-sets (0x01 ∷ 0 ∷ 0 ∷ bytes_of 2 (c.args.count - 65536)) c.args.out.now extended-room
    ∙ ap (λ (header : List ℕ). laid header c.args.out.now) (sym (extended-header c.args.kind c.args.count extended))

pub overflow_cast-count-2 : goal.overflow_cast-count-2
overflow_cast-count-2 c =
    let plain : is_extended c.args.kind c.args.count ≡ false = sym c.is_extended.ensures ∙ c.if-is_extended.false in
    omega (arith, plain-below c.args.kind c.args.count plain c.requires.0)

pub put-requires-2-clause-room : goal.put-requires-2-clause-room
put-requires-2-clause-room c =
    let plain : is_extended c.args.kind c.args.count ≡ false = sym c.is_extended.ensures ∙ c.if-is_extended.false in
    let plain-room : 3 ≤ length c.args.out.now = omega (arith, c.requires.1, ap length (plain-header c.args.kind c.args.count plain)) in
    simp length-set plain-room

pub shape_of-out : goal.shape_of-out
shape_of-out c = simp (c.put-2.ensures, length-set)

pub returns : goal.returns
returns c =
    let plain : is_extended c.args.kind c.args.count ≡ false = sym c.is_extended.ensures ∙ c.if-is_extended.false in
    let plain-room : 3 ≤ length c.args.out.now = omega (arith, c.requires.1, ap length (plain-header c.args.kind c.args.count plain)) in
    c.put-2.ensures
    ∙ laid-sets (0x01 ∷ bytes_of 2 c.args.count) c.args.out.now plain-room
    ∙ ap (λ (header : List ℕ). laid header c.args.out.now) (sym (plain-header c.args.kind c.args.count plain))
