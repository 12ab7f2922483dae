-- `c_answers::empty_site` meets its contract.
use Rattle.c_answers.proofs.empty_site.Goals as goal

pub returns : goal.returns
returns c = simp c.from_bits.ensures
