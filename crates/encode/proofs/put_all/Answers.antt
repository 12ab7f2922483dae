-- `encode::put_all` meets its contract. The loop's invariant: the elements before the place are stored.
use Rattle.std.proofs.Common.{◌∙◌, refl, arith}
use Rattle.std.proofs.lemmas.List.{take_all}
use Rattle.types.proofs.Table.{widths}
use Rattle.encode.specs.Encode.{elements_bytes}
use Rattle.encode.proofs.Turns.{element_room, elements_more}
use Rattle.encode.proofs.put_all.Goals as goal

pub loop-v-init : goal.loop-v-init
unfolding elements_bytes
loop-v-init g c = (omega arith, refl)

pub store-requires : goal.store-requires
store-requires g c =
    let q = element_room c.args.at c.loop-v.v-index _ g.row.WIDTH _ c.loop-v-test.true c.requires.1 in
    (omega (arith, q), omega (arith, widths g.row.CODE))

pub overflow_add-o : goal.overflow_add-o
overflow_add-o g c =
    omega (arith, element_room c.args.at c.loop-v.v-index _ g.row.WIDTH _ c.loop-v-test.true c.requires.1)

pub loop-v-preserved : goal.loop-v-preserved
loop-v-preserved g c =
    let l = c.loop-v in
    let q = elements_more g.T.Given.shown c.args.buf.now c.args.at g.row.CODE g.row.WIDTH l.v-index c.args.values.now c.v-item.result c.narrow.result c.requires.0 c.loop-v-test.true c.v-item.is (rw (← c.bits.ensures) c.narrow.ensures) in
    (omega arith, c.store.ensures ∙ rw (l.invariant.1, l.invariant.0) q)

pub returns : goal.returns
returns g c =
    let e = take_all c.loop-v.v-index c.args.values.now c.loop-v-test.false in
    c.loop-v.invariant.1 ∙ rw e
