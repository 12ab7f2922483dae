-- `calls::count_calls` meets its contract.
use mathlib.Core.List.{List, []}
use mathlib.Core.Path.{◌≡◌, ap, refl, sym, ◌∙◌}
use Prim.Native.Nat.{ℕ, ◌+◌, ◌-◌, ◌*◌, ◌/◌, ◌%◌, ◌<◌, ◌≤◌, ◌^◌}
use native.Mathlib.Omega.{arith}
use native.Mathlib.Nat.{add-zero, mul-mod_left, zero-add}
use lib.ListN.{length, length-append, length-take, replicate, take}
use Rattle.std.specs.Slice.Iter.{chunks_rest}
use Rattle.types.specs.Rows.{width_of}
use Rattle.calls.specs.Calls as spec
use Rattle.calls.specs.Engine.{everyone, raised, folded}
use Rattle.calls.proofs.Chunks.{block_fits, block_whole, everyone_of, people_fit, rest_whole}
use Rattle.calls.proofs.Counters.{raised_none, raised_zeros, wider, zeros}
use Rattle.calls.proofs.Halves.{block_within}
use Rattle.calls.proofs.Turns.{block_turn, people_end, some_size, some_width}
use Rattle.calls.proofs.count_calls.Goals as goal

-- nobody's tally
nobody : (t len : ℕ) (l : List ℕ) → length l / width_of t / len ≡ 0 → record { without = 0; counts = replicate 65 0 } ≡ spec.counted t len l
unfolding spec.counted spec.people_tally spec.people_of spec.people spec.without spec.called
nobody t len l h = rw (h, ← raised_zeros 65 0 [], raised_none)

-- a tally as it starts
tally_start : (t w len n : ℕ) (l rest : List ℕ) → rest ≡ take (n * (len * w)) l → w ≡ width_of t → n ≡ length l / w / len
    → 0 < len * w → n * (len * w) ≤ length l
    → (spec.without t (spec.people_of t len l) ≡ 0 + spec.without t (everyone w len rest))
    × (spec.counters 65 0 (spec.called t (spec.people_of t len l)) ≡ raised 0 (folded (replicate 130 0)) (spec.called t (everyone w len rest)))
    × spec.AtMost (2 ^ 64 - 1 - length rest) (folded (replicate 130 0))
    × (0 + length rest ≤ length l) × (length rest % (len * w) ≡ 0)
unfolding folded
tally_start t w len n l rest e a b p h =
    let f : everyone w len rest ≡ spec.people_of t len l = rw e (everyone_of t w len n l a b p h) in
    let k : length rest ≡ n * (len * w) = rw (e, length-take) (omega arith) in
    (rw f (sym (zero-add _)), rw f (sym (raised_zeros 65 0 _)), zeros 65 _, omega arith, rw k (mul-mod_left n (len * w)))

pub returns-then-people-eq0 : goal.returns-then-people-eq0
returns-then-people-eq0 c =
    nobody c.args.code c.args.len c.args.part.now
    (rw (← c.row_of.ensures.width_value.0, ← c.from-w.ensures, ← c.over.ensures.value, ← c.over-people.ensures.value) c.if-people-eq0.true)

pub overflow_mul-people : goal.overflow_mul-people
overflow_mul-people c =
    let p = people_fit c.over-people.result _ c.args.len c.from-w.result _ (omega arith) c.over-people.ensures.b_bound c.over.ensures.b_bound in
    omega arith

pub slice_bounds-chunks-end : goal.slice_bounds-chunks-end
slice_bounds-chunks-end c =
    let p = people_fit c.over-people.result _ c.args.len c.from-w.result _ (omega arith) c.over-people.ensures.b_bound c.over.ensures.b_bound in
    rw length-take (omega arith)

pub overflow_mul-size-2 : goal.overflow_mul-size-2
overflow_mul-size-2 c =
    let p = people_fit c.over-people.result _ c.args.len c.from-w.result _ (omega arith) c.over-people.ensures.b_bound c.over.ensures.b_bound in
    let w = c.row_of.ensures.width_value in
    let b = block_fits c.args.len c.from-w.result (2 ^ 63) (omega arith) (omega arith) (omega arith) in
    let e : c.args.len * c.from-w.result * c.max.result ≤ 2 ^ 63 = rw c.max.ensures b in
    omega arith

pub loop-block-init : goal.loop-block-init
loop-block-init c =
    let w = c.from-w.result in
    let n = c.over-people.result in
    let l = c.args.part.now in
    let p = people_fit n _ c.args.len w _ (omega arith) c.over-people.ensures.b_bound c.over.ensures.b_bound in
    let q = rw c.over.ensures.value at c.over-people.ensures.value in
    let s = some_size (length l) w c.args.len (omega arith) in
    let e : chunks_rest c.into_iter-block-iterator.result ≡ take (n * (c.args.len * w)) l = cc in
    let f = tally_start c.args.code w c.args.len n l _ e (c.from-w.ensures ∙ c.row_of.ensures.width_value.0) q s p.0 in
    (f.0, f.1, f.2, refl, f.3, f.4, cc)

pub count_block-without-requires-clause-w_in_bounds : goal.count_block-without-requires-clause-w_in_bounds
count_block-without-requires-clause-w_in_bounds c =
    let w = c.from-w.result in
    let l = c.args.part.now in
    let p = people_fit c.over-people.result _ c.args.len w _ (omega arith) c.over-people.ensures.b_bound c.over.ensures.b_bound in
    let q = rw c.over.ensures.value at c.over-people.ensures.value in
    (some_width (length l) w c.args.len c.over-people.result (omega arith) (omega arith), omega arith, some_size (length l) w c.args.len (omega arith), omega arith)

pub count_block-without-requires-clause-whole : goal.count_block-without-requires-clause-whole
count_block-without-requires-clause-whole c =
    let l = c.loop-block in
    let h = c.in-Some.ensures.steps in
    (c.from-w.ensures ∙ c.row_of.ensures.width_value.0, rw (h.1.1, l.invariant.6) (block_whole (c.args.len * c.from-w.result) _ _ l.invariant.5))

pub loop-block-preserved : goal.loop-block-preserved
loop-block-preserved c =
    let t = c.args.code in
    let w = c.from-w.result in
    let len = c.args.len in
    let l = c.loop-block in
    let h = c.in-Some.ensures.steps in
    let r = c.count_block-without.ensures in
    let b = c.in-Some.block.now in
    let q = rw c.over.ensures.value at c.over-people.ensures.value in
    let o : 0 < w = some_width (length c.args.part.now) w len c.over-people.result (omega arith) (omega arith) in
    let s : 0 < len * w = some_size (length c.args.part.now) w len (omega arith) in
    let z : length b % (len * w) ≡ 0 = rw (h.1.1, l.invariant.6) (block_whole (len * w) _ _ l.invariant.5) in
    let g = block_turn t w len _ _ _ (folded l.pairs) s h.1.0 z in
    let n = simp length-append at (ap length h.1.0) in
    let u = r.upper_bound.0 in (
      omega (arith, g.0, r.value),
      l.invariant.1 ∙ rw (g.1, ← r.pairs_after),
      rw r.pairs_after (wider _ _ _ (omega arith) (block_within _ t w len (folded l.pairs) b o l.invariant.2)),
      r.upper_bound.1,
      omega arith,
      rest_whole (len * w) (length b) _ (rw n at l.invariant.5) z,
      h.0 ∙ l.invariant.6,
    )

pub returns : goal.returns
unfolding spec.counted spec.people_tally
returns c =
    let t = c.args.code in
    let w = c.from-w.result in
    let len = c.args.len in
    let l = c.loop-block in
    let h = c.in-None.ensures.steps in
    let q = rw c.over.ensures.value at c.over-people.ensures.value in
    let s : 0 < len * w = some_size (length c.args.part.now) w len (omega arith) in
    let e = people_end t w len (chunks_rest l.block-iterator) (folded l.pairs) (omega arith) in
    sym (rw (l.invariant.0, l.invariant.1, e.0, e.1, add-zero, c.sum_pairs.ensures))
