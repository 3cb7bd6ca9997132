-- `frame::write_frame`: each refusal by the test that led there, else the frame as it was written.
-- Assumes nothing.
use Prim.Native.Nat.{◌+◌, ◌<◌, ◌≤◌}
use mathlib.Core.Path.{◌≡◌}
use native.Mathlib.Omega.{arith}
use lib.ListN.{length}
use borrow.Author.Tests.{lt-ltb, le-ltb, ne_eqb}
use Rattle.frame.specs.Frame.{longest, frame_of, framed_of}
use Rattle.frame.proofs.Frames.{longest-most, header-most, frame-length}
use Rattle.frame.proofs.write_frame.Goals as goal

pub returns-then-longest-count : goal.returns-then-longest-count
unfolding framed_of
returns-then-longest-count c =
    let long : longest c.args.kind < length c.args.code.now = omega (arith, c.longest.ensures, c.if-longest-count.true) in
    simp (ne_eqb (length c.args.code.now) 0 (λ e. absurd (omega arith)), lt-ltb _ _ long)

pub overflow_add-length : goal.overflow_add-length
overflow_add-length c =
    let short : let a = c.args in length a.code.now ≤ longest a.kind = omega (arith, c.longest.ensures, c.if-longest-count.false) in
    let small : c.header_length.result + length c.args.code.now ≤ 131076 = omega (arith, short, longest-most c.args.kind, c.header_length.ensures, header-most c.args.kind (length c.args.code.now)) in
    omega (arith, small)

pub overflow_add-length-2 : goal.overflow_add-length-2
overflow_add-length-2 c =
    let short : let a = c.args in length a.code.now ≤ longest a.kind = omega (arith, c.longest.ensures, c.if-longest-count.false) in
    let small : c.header_length.result + length c.args.code.now ≤ 131076 = omega (arith, short, longest-most c.args.kind, c.header_length.ensures, header-most c.args.kind (length c.args.code.now)) in
    omega (arith, small)

pub returns-then-out-length : goal.returns-then-out-length
unfolding framed_of
returns-then-out-length c =
    let short : let a = c.args in length a.code.now ≤ longest a.kind = omega (arith, c.longest.ensures, c.if-longest-count.false) in
    let whole : let a = c.args in
    c.header_length.result + length a.code.now + 1 ≡ length (frame_of a.kind a.code.now) = rw c.header_length.ensures (frame-length c.args.kind c.args.code.now) in
    let over : length c.args.out.now < length (frame_of c.args.kind c.args.code.now) = omega (arith, whole, c.if-out-length.true) in
    simp (ne_eqb (length c.args.code.now) 0 (λ e. absurd (omega arith)), le-ltb _ _ short, lt-ltb _ _ over)

pub put_frame-requires : goal.put_frame-requires
put_frame-requires c =
    let short : let a = c.args in length a.code.now ≤ longest a.kind = omega (arith, c.longest.ensures, c.if-longest-count.false) in
    let whole : let a = c.args in
    c.header_length.result + length a.code.now + 1 ≡ length (frame_of a.kind a.code.now) = rw c.header_length.ensures (frame-length c.args.kind c.args.code.now) in
    (short, omega (arith, whole, c.if-out-length.false))

pub returns : goal.returns
unfolding framed_of
returns c =
    let short : let a = c.args in length a.code.now ≤ longest a.kind = omega (arith, c.longest.ensures, c.if-longest-count.false) in
    let whole : let a = c.args in
    c.header_length.result + length a.code.now + 1 ≡ length (frame_of a.kind a.code.now) = rw c.header_length.ensures (frame-length c.args.kind c.args.code.now) in
    let under : length (frame_of c.args.kind c.args.code.now) ≤ length c.args.out.now = omega (arith, whole, c.if-out-length.false) in
    let some = ne_eqb (length c.args.code.now) 0 (λ e. absurd (omega arith)) in
    simp (some, le-ltb _ _ short, le-ltb _ _ under, whole, c.put_frame.ensures)
