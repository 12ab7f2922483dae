-- `build_append::put_value` meets its contract.
use Rattle.std.proofs.Common.{◌∙◌, map}
use Rattle.build_append.proofs.Values.{value_stored}
use Rattle.build_append.proofs.put_value.Goals as goal

pub returns : goal.returns
returns g c =
    let a = c.args in
    c.put.ensures
    ∙ rw (c.put_descriptor.ensures.written, c.descriptor_size.ensures.value)
    (value_stored a.buf.now a.at a.code a.len (map g.T.Element.shown a.values.now) c.requires.room)
