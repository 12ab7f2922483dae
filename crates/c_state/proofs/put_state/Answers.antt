-- `c_state::put_state` meets its contract: ten numbers, and the keys right behind them.
use mathlib.Core.Path.{◌≡◌, ◌∙◌, sym, refl}
use mathlib.Core.List.{List, ◌∷◌, ◌++◌, []}
use Prim.Native.Nat.{ℕ, ◌+◌, ◌≤◌}
use native.Mathlib.Omega.{arith}
use lib.ListN.{length}
use Rattle.stores.proofs.Room.{filled_short, filled_room, filled_append}
use Rattle.c_answers.proofs.Room.{stored_numbers}
use Rattle.build.specs.Order.{rank}
use borrow.Author.Rules.{rules}
use Rattle.c_state.proofs.put_state.Goals as goal

pub returns-then-numbers-lt266 : goal.returns-then-numbers-lt266
returns-then-numbers-lt266 c =
    let k : length c.args.state.keys ≡ 256 = c.well_formed.1.0.1.1.1.1.1.1.1.1.1.0.1.0.1 in
    sym (filled_short _ 0 _ (omega (arith, k, c.if-numbers-lt266.true)))

pub slice_bounds-put_all-end-2 : goal.slice_bounds-put_all-end-2
slice_bounds-put_all-end-2 c =
    let k : length c.args.state.keys ≡ 256 = c.well_formed.1.0.1.1.1.1.1.1.1.1.1.0.1.0.1 in
    search (rules, k)

pub returns : goal.returns
returns c =
    let a = c.args in
    let st = a.state in
    let k : length st.keys ≡ 256 = c.well_formed.1.0.1.1.1.1.1.1.1.1.1.0.1.0.1 in
    let f = st.facts in
    let ten : ℕ → List ℕ = λ r. f.strings ∷ f.contigs ∷ f.people ∷ f.gt ∷ st.at ∷ st.border ∷ st.alleles ∷ st.infos ∷ st.formats ∷ r ∷ [] in
    let first = ten (rank st.stage) in
    let h : 0 + length (first ++ st.keys) ≤ length a.numbers.now = omega (arith, k, c.if-numbers-lt266.false) in
    let both = filled_append a.numbers.now 0 10 first st.keys refl h ∙ sym (filled_room a.numbers.now 0 (first ++ st.keys) h) in
    rw (c.put_all-2.ensures, c.put_all.ensures, c.from.ensures, c.from-2.ensures, c.from-3.ensures, c.from-4.ensures, c.rank_of.ensures, stored_numbers, stored_numbers) both
