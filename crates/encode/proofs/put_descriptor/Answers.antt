-- `encode::put_descriptor` meets its contract.
use mathlib.Core.Path.{◌≡◌, ◌∙◌, sym}
use mathlib.Core.List.{◌∷◌}
use Prim.Native.Nat.{◌+◌, ◌%◌, ◌<◌, ◌≤◌}
use native.Mathlib.Omega.{arith}
use lib.ListN.{length}
use borrow.Author.Tests.{lt-ltb, le-ltb}
use Rattle.stores.proofs.Room.{fits_short, fits_room, filled_short, filled_room, room_short, room_there, fits_on, filled_on}
use Rattle.encode.specs.Encode.{descriptor_bytes, integer_bytes}
use Rattle.encode.proofs.Lengths.{length_descriptor_bytes, length_descriptor_any}
use Rattle.encode.proofs.put_descriptor.Goals as goal

pub returns-then-not-has_room : goal.returns-then-not-has_room
returns-then-not-has_room c =
    let a = c.args in
    let n : c.descriptor_size.result ≡ length (descriptor_bytes a.code a.n) = c.descriptor_size.ensures.value ∙ length_descriptor_any 0 a.code a.n in
    let q = room_short _ _ _ (sym c.has_room.ensures ∙ c.if-not-has_room.true) in
    let s : length a.buf.now < a.at + length (descriptor_bytes a.code a.n) = omega (arith, q) in
    record { told = sym (fits_short _ _ _ s); written = sym (filled_short _ _ _ s) }

pub bounds-buf-at : goal.bounds-buf-at
bounds-buf-at c =
    let a = c.args in
    let n : c.descriptor_size.result ≡ length (descriptor_bytes a.code a.n) = c.descriptor_size.ensures.value ∙ length_descriptor_any 0 a.code a.n in
    let q : a.at + c.descriptor_size.result ≤ length a.buf.now = room_there _ _ _ (sym c.has_room.ensures ∙ c.if-not-has_room.false) in
    let t = le-ltb _ _ c.if-n-ge15.true in
    let m : length (descriptor_bytes a.code a.n) ≡ 1 + length (integer_bytes a.n) = length_descriptor_bytes a.code a.n ∙ rw t in
    omega (arith, q, n, m)

pub overflow_add-at : goal.overflow_add-at
overflow_add-at c =
    let a = c.args in
    let n : c.descriptor_size.result ≡ length (descriptor_bytes a.code a.n) = c.descriptor_size.ensures.value ∙ length_descriptor_any 0 a.code a.n in
    let q : a.at + c.descriptor_size.result ≤ length a.buf.now = room_there _ _ _ (sym c.has_room.ensures ∙ c.if-not-has_room.false) in
    let t = le-ltb _ _ c.if-n-ge15.true in
    let m : length (descriptor_bytes a.code a.n) ≡ 1 + length (integer_bytes a.n) = length_descriptor_bytes a.code a.n ∙ rw t in
    omega (arith, q, n, m)

pub returns-then-n-ge15 : goal.returns-then-n-ge15
unfolding descriptor_bytes
returns-then-n-ge15 c =
    let a = c.args in
    let n : c.descriptor_size.result ≡ length (descriptor_bytes a.code a.n) = c.descriptor_size.ensures.value ∙ length_descriptor_any 0 a.code a.n in
    let q : a.at + c.descriptor_size.result ≤ length a.buf.now = room_there _ _ _ (sym c.has_room.ensures ∙ c.if-not-has_room.false) in
    let t = le-ltb _ _ c.if-n-ge15.true in
    let m : length (descriptor_bytes a.code a.n) ≡ 1 + length (integer_bytes a.n) = length_descriptor_bytes a.code a.n ∙ rw t in
    let p = c.put_integer.ensures in
    let e : descriptor_bytes a.code a.n ≡ (0xF0 + a.code % 16) ∷ integer_bytes a.n = rw t in record {
      told = p.told ∙ rw m (fits_on a.buf.now a.at _ _);
      written = p.written ∙ rw e (filled_on a.buf.now a.at (0xF0 + a.code % 16) (integer_bytes a.n) (omega (arith, q, n, m)));
    }

pub bounds-buf-at-2 : goal.bounds-buf-at-2
bounds-buf-at-2 c =
    let a = c.args in
    let n : c.descriptor_size.result ≡ length (descriptor_bytes a.code a.n) = c.descriptor_size.ensures.value ∙ length_descriptor_any 0 a.code a.n in
    let q : a.at + c.descriptor_size.result ≤ length a.buf.now = room_there _ _ _ (sym c.has_room.ensures ∙ c.if-not-has_room.false) in
    let m : length (descriptor_bytes a.code a.n) ≡ 1 = length_descriptor_bytes a.code a.n ∙ rw (lt-ltb _ _ c.if-n-ge15.false) in
    omega (arith, q, n, m)

pub returns : goal.returns
unfolding descriptor_bytes
returns c =
    let a = c.args in
    let n : c.descriptor_size.result ≡ length (descriptor_bytes a.code a.n) = c.descriptor_size.ensures.value ∙ length_descriptor_any 0 a.code a.n in
    let q : a.at + c.descriptor_size.result ≤ length a.buf.now = room_there _ _ _ (sym c.has_room.ensures ∙ c.if-not-has_room.false) in
    let m : length (descriptor_bytes a.code a.n) ≡ 1 = length_descriptor_bytes a.code a.n ∙ rw (lt-ltb _ _ c.if-n-ge15.false) in
    let r : a.at + length (descriptor_bytes a.code a.n) ≤ length a.buf.now = omega (arith, q, n) in
    record { told = sym (fits_room _ _ _ r); written = sym (filled_room _ _ _ r ∙ rw (lt-ltb _ _ c.if-n-ge15.false)) }
