-- `frame::put_frame`: the header, the code after it, the last byte after both.
-- Assumes nothing.
use Prim.Native.Nat.{◌+◌, ◌-◌, ◌≤◌, ◌<◌}
use mathlib.Core.Path.{◌≡◌, ap, ◌∙◌}
use mathlib.Core.List.{◌++◌}
use native.Mathlib.Omega.{arith}
use lib.ListN.{length, length-append, length-set, length-take, length-drop}
use borrow.Rule.Slice.PartMut.{put_mid}
use Rattle.memory.specs.Store.{laid}
use Rattle.memory.proofs.Stores.{laid-length, laid-behind, laid_next}
use Rattle.frame.specs.Frame.{header_of}
use Rattle.frame.proofs.Frames.{frame-length}
use Rattle.frame.proofs.put_frame.Goals as goal

pub put_header-requires : goal.put_header-requires
put_header-requires c =
    let room : let a = c.args in length (header_of a.kind (length a.code.now)) + length a.code.now + 1 ≤ length a.out.now = rw (frame-length c.args.kind c.args.code.now) c.requires.1 in
    (c.requires.0, omega (arith, room))

pub slice_bounds-lay-count : goal.slice_bounds-lay-count
slice_bounds-lay-count c =
    let room : let a = c.args in length (header_of a.kind (length a.code.now)) + length a.code.now + 1 ≤ length a.out.now = rw (frame-length c.args.kind c.args.code.now) c.requires.1 in
    let headed : length c.put_header.new.out ≡ length c.args.out.now = ap length c.put_header.ensures
    ∙ laid-length (header_of c.args.kind (length c.args.code.now)) c.args.out.now (omega (arith, room)) in
    omega (arith, headed, room)

pub slice_bounds-lay-start : goal.slice_bounds-lay-start
slice_bounds-lay-start c =
    let room : let a = c.args in length (header_of a.kind (length a.code.now)) + length a.code.now + 1 ≤ length a.out.now = rw (frame-length c.args.kind c.args.code.now) c.requires.1 in
    let headed : length c.put_header.new.out ≡ length c.args.out.now = ap length c.put_header.ensures
    ∙ laid-length (header_of c.args.kind (length c.args.code.now)) c.args.out.now (omega (arith, room)) in
    omega (arith, headed, room)

pub lay-requires : goal.lay-requires
lay-requires c =
    let room : let a = c.args in length (header_of a.kind (length a.code.now)) + length a.code.now + 1 ≤ length a.out.now = rw (frame-length c.args.kind c.args.code.now) c.requires.1 in
    let headed : length c.put_header.new.out ≡ length c.args.out.now = ap length c.put_header.ensures
    ∙ laid-length (header_of c.args.kind (length c.args.code.now)) c.args.out.now (omega (arith, room)) in
    simp (length-take, length-drop) (omega (arith, headed, room))

pub overflow_add-out : goal.overflow_add-out
overflow_add-out c =
    let room : let a = c.args in length (header_of a.kind (length a.code.now)) + length a.code.now + 1 ≤ length a.out.now = rw (frame-length c.args.kind c.args.code.now) c.requires.1 in
    omega (arith, room)

pub bounds-out-place : goal.bounds-out-place
bounds-out-place c =
    let room : let a = c.args in length (header_of a.kind (length a.code.now)) + length a.code.now + 1 ≤ length a.out.now = rw (frame-length c.args.kind c.args.code.now) c.requires.1 in
    let coded : let a = c.args in
    let place = c.header_length-place.result in
    let before = c.put_header.new.out in
    put_mid place (length before - place) before c.lay.new.part
    ≡ laid (header_of a.kind (length a.code.now) ++ a.code.now) a.out.now = laid-behind (header_of c.args.kind (length c.args.code.now)) c.args.out.now c.args.code.now (omega (arith, room)) _ _ _
    c.header_length-place.ensures c.put_header.ensures c.lay.ensures in
    let coded-length : let a = c.args in
    length (laid (header_of a.kind (length a.code.now) ++ a.code.now) a.out.now) ≡ length a.out.now = laid-length (header_of c.args.kind (length c.args.code.now) ++ c.args.code.now) c.args.out.now (simp length-append (omega (arith, room))) in
    rw coded (omega (arith, coded-length, room))

pub shape_of-out : goal.shape_of-out
shape_of-out c =
    let room : let a = c.args in length (header_of a.kind (length a.code.now)) + length a.code.now + 1 ≤ length a.out.now = rw (frame-length c.args.kind c.args.code.now) c.requires.1 in
    let coded : let a = c.args in
    let place = c.header_length-place.result in
    let before = c.put_header.new.out in
    put_mid place (length before - place) before c.lay.new.part
    ≡ laid (header_of a.kind (length a.code.now) ++ a.code.now) a.out.now = laid-behind (header_of c.args.kind (length c.args.code.now)) c.args.out.now c.args.code.now (omega (arith, room)) _ _ _
    c.header_length-place.ensures c.put_header.ensures c.lay.ensures in
    let coded-length : let a = c.args in
    length (laid (header_of a.kind (length a.code.now) ++ a.code.now) a.out.now) ≡ length a.out.now = laid-length (header_of c.args.kind (length c.args.code.now) ++ c.args.code.now) c.args.out.now (simp length-append (omega (arith, room))) in
    simp length-set (rw coded coded-length)

pub returns : goal.returns
returns c =
    let room : let a = c.args in length (header_of a.kind (length a.code.now)) + length a.code.now + 1 ≤ length a.out.now = rw (frame-length c.args.kind c.args.code.now) c.requires.1 in
    let coded : let a = c.args in
    let place = c.header_length-place.result in
    let before = c.put_header.new.out in
    put_mid place (length before - place) before c.lay.new.part
    ≡ laid (header_of a.kind (length a.code.now) ++ a.code.now) a.out.now = laid-behind (header_of c.args.kind (length c.args.code.now)) c.args.out.now c.args.code.now (omega (arith, room)) _ _ _
    c.header_length-place.ensures c.put_header.ensures c.lay.ensures in
    let header = header_of c.args.kind (length c.args.code.now) in
    let h : length (header ++ c.args.code.now) < length c.args.out.now = simp length-append (omega (arith, room)) in
    rw (coded, c.header_length-place.ensures, ← length-append header c.args.code.now)
    (laid_next (header ++ c.args.code.now) c.args.out.now 0x06 h)
