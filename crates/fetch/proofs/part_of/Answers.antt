-- `fetch::part_of` meets its contract.
use Rattle.fetch.proofs.part_of.Goals as goal

pub returns : goal.returns
returns c = record {
  result_value = rw (← c.field_of.ensures.value) c.part.ensures.result_value;
  ref_ptr_value = rw (← c.field_of.ensures.value) c.part.ensures.ref_ptr_value;
}
