-- `build_append::U8Element::put` meets its contract: text is stored as it is.
use Rattle.std.proofs.lemmas.List.{map-id}
use Rattle.build_append.proofs.Values.{text_as_is}
use Rattle.build_append.proofs.U8Element.put.Goals as goal

pub returns : goal.returns
returns c = rw (c.requires, map-id, text_as_is c.args.values.now c.type_inv.values) c.put.ensures.written
