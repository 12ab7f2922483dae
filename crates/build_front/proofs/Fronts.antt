-- The first bytes, stored number by number, and the four fields that are filled in last. Rests on specs/Front and on stores.
use mathlib.Core.Path.{◌≡◌, ◌∙◌, refl}
use mathlib.Core.List.{List}
use Prim.Native.Nat.{ℕ, ◌+◌, ◌-◌, ◌*◌, ◌/◌, ◌%◌, ◌<◌, ◌≤◌}
use native.Mathlib.Omega.{arith}
use lib.Arith.{mod-mul}
use lib.ListN.{length, replicate}
use lib.Seq.{sets, length-sets}
use Rattle.words.specs.Words.{bytes}
use Rattle.words.proofs.Words.{length_bytes}
use Rattle.stores.specs.Stores.{filled}
use Rattle.stores.proofs.Inside.{filled_inside}
use Rattle.stores.proofs.Room.{filled_room, filled_short}
use Rattle.fixed.specs.Layout.{indiv_at, chrom_at, pos_at, rlen_at, counts_at, people_at, qual_at, id_at, filled_to, counts_of, members_of}
use Rattle.shown.specs.Front.{front_bytes, fields_filled}

-- a number stored in the first bytes, which stand at the buffer's start
number_inside : (buf front : List ℕ) (i v : ℕ) → length front ≡ id_at → id_at ≤ length buf → i + 4 ≤ id_at
    → filled (sets buf 0 front) i (bytes 4 v) ≡ sets buf 0 (sets front i (bytes 4 v))
number_inside buf front i v e h r = filled_inside buf front i (bytes 4 v) (rw e h) (rw (e, length_bytes 4 v) r)

pub front_stored : (buf : List ℕ) (chrom pos rlen qual : ℕ) → id_at ≤ length buf
    → filled (filled (filled (filled (filled buf 0 (replicate {A = ℕ} id_at 0)) chrom_at (bytes 4 chrom)) pos_at (bytes 4 pos)) rlen_at (bytes 4 rlen)) qual_at (bytes 4 qual)
    ≡ sets buf 0 (front_bytes chrom pos rlen qual)
unfolding front_bytes
front_stored buf chrom pos rlen qual h =
    let zeros = replicate {A = ℕ} id_at 0 in
    let one = sets zeros chrom_at (bytes 4 chrom) in
    let two = sets one pos_at (bytes 4 pos) in
    let three = sets two rlen_at (bytes 4 rlen) in
    let l₁ : length one ≡ id_at = length-sets zeros chrom_at (bytes 4 chrom) in
    let l₂ : length two ≡ id_at = length-sets one pos_at (bytes 4 pos) ∙ l₁ in
    let l₃ : length three ≡ id_at = length-sets two rlen_at (bytes 4 rlen) ∙ l₂ in
    let e₀ : filled buf 0 zeros ≡ sets buf 0 zeros = filled_room buf 0 zeros h in
    rw (
      e₀,
      number_inside buf zeros chrom_at chrom refl h (omega arith),
      number_inside buf one pos_at pos l₁ h (omega arith),
      number_inside buf two rlen_at rlen l₂ h (omega arith),
      number_inside buf three qual_at qual l₃ h (omega arith),
    )

length_front : (chrom pos rlen qual : ℕ) → length (front_bytes chrom pos rlen qual) ≡ id_at
unfolding front_bytes
length_front chrom pos rlen qual = rw (length-sets, length-sets, length-sets, length-sets)

pub front_room : (buf : List ℕ) (chrom pos rlen qual : ℕ) → id_at ≤ length buf
    → filled buf 0 (front_bytes chrom pos rlen qual) ≡ sets buf 0 (front_bytes chrom pos rlen qual)
front_room buf chrom pos rlen qual h = filled_room buf 0 (front_bytes chrom pos rlen qual) (rw (length_front chrom pos rlen qual) h)

pub front_short : (buf : List ℕ) (chrom pos rlen qual : ℕ) → length buf < id_at → filled buf 0 (front_bytes chrom pos rlen qual) ≡ buf
front_short buf chrom pos rlen qual h = filled_short buf 0 (front_bytes chrom pos rlen qual) (rw (length_front chrom pos rlen qual) h)

-- the low bytes of a number are those of its remainder
pub bytes_low : (v : ℕ) → bytes 4 (v % 4294967296) ≡ bytes 4 v
unfolding bytes
bytes_low v =
    let x = v / 256 in
    let y = x / 256 in
    let p : v % 4294967296 ≡ (x % 16777216) * 256 + v % 256 = mod-mul v {m = 16777216} {c = 256} (omega arith) (omega arith) in
    let q : x % 16777216 ≡ (y % 65536) * 256 + x % 256 = mod-mul x {m = 65536} {c = 256} (omega arith) (omega arith) in
    let r : y % 65536 ≡ (y / 256 % 256) * 256 + y % 256 = mod-mul y {m = 256} {c = 256} (omega arith) (omega arith) in
    let a : v % 4294967296 % 256 ≡ v % 256 = rw p (omega arith) in
    let b : v % 4294967296 / 256 ≡ x % 16777216 = rw p (omega arith) in
    let d : x % 16777216 % 256 ≡ x % 256 = rw q (omega arith) in
    let e : x % 16777216 / 256 ≡ y % 65536 = rw q (omega arith) in
    let f : y % 65536 % 256 ≡ y % 256 = rw r (omega arith) in
    let g : y % 65536 / 256 ≡ y / 256 % 256 = rw r (omega arith) in
    let h : y / 256 % 256 % 256 ≡ y / 256 % 256 = omega arith in
    rw (a, b, d, e, f, g, h)

number_room : (buf : List ℕ) (i v : ℕ) → i + 4 ≤ length buf → filled buf i (bytes 4 v) ≡ sets buf i (bytes 4 v)
number_room buf i v h = filled_room buf i (bytes 4 v) (rw (length_bytes 4 v) h)

pub fields_stored : (buf : List ℕ) (border at alleles infos formats people : ℕ) → filled_to ≤ length buf
    → filled (filled (filled (filled buf 0 (bytes 4 (border - 8))) indiv_at (bytes 4 (at - border))) counts_at (bytes 4 (counts_of alleles infos)))
    people_at (bytes 4 ((members_of formats people) % 4294967296))
    ≡ fields_filled border at alleles infos formats people buf
unfolding fields_filled
fields_stored buf border at alleles infos formats people h =
    let shared = border - 8 in
    let indiv = at - border in
    let counts = counts_of alleles infos in
    let one = sets buf 0 (bytes 4 shared) in
    let two = sets one indiv_at (bytes 4 indiv) in
    let three = sets two counts_at (bytes 4 counts) in
    let l₁ : length one ≡ length buf = length-sets buf 0 (bytes 4 shared) in
    let l₂ : length two ≡ length buf = length-sets one indiv_at (bytes 4 indiv) ∙ l₁ in
    let l₃ : length three ≡ length buf = length-sets two counts_at (bytes 4 counts) ∙ l₂ in
    rw (
      bytes_low (members_of formats people),
      number_room buf 0 shared (omega arith),
      number_room one indiv_at indiv (omega arith),
      number_room two counts_at counts (omega arith),
      number_room three people_at (members_of formats people) (omega arith),
    )
