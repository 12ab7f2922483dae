-- `fetch::field_at` meets its contract.
use Rattle.fetch.proofs.field_at.Goals as goal

pub returns-in-Id : goal.returns-in-Id
returns-in-Id c = rw c.in-Id.is (record {
  value = c.value_alone.ensures.value;
  found_inside = c.value_alone.ensures.found_inside;
})

pub returns-in-Allele : goal.returns-in-Allele
returns-in-Allele c = rw c.in-Allele.is (record {
  value = c.value_alone-in-Allele.ensures.value;
  found_inside = c.value_alone-in-Allele.ensures.found_inside;
})

pub returns-in-Filter : goal.returns-in-Filter
returns-in-Filter c = rw c.in-Filter.is (record {
  value = c.value_alone-in-Filter.ensures.value;
  found_inside = c.value_alone-in-Filter.ensures.found_inside;
})

pub returns-in-Info : goal.returns-in-Info
returns-in-Info c = rw c.in-Info.is (record {
  value = c.key_and_value.ensures.value;
  found_inside = c.key_and_value.ensures.found_inside;
})

pub returns-in-Format : goal.returns-in-Format
returns-in-Format c = rw c.in-Format.is (record {
  value = c.key_and_value-in-Format.ensures.value;
  found_inside = c.key_and_value-in-Format.ensures.found_inside;
})
