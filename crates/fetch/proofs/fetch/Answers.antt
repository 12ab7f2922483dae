-- `fetch::fetch` meets its contract.
use Rattle.fetch.specs.Fetch.{fetched, fetched_at}
use Rattle.fetch.proofs.fetch.Goals as goal

pub returns : goal.returns
unfolding fetched fetched_at
returns c = record {
  result_value = rw (← c.find.ensures.value) c.part.ensures.result_value;
  ref_ptr_value = rw (← c.find.ensures.value) c.part.ensures.ref_ptr_value;
}
