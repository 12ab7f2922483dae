-- `c_api::sikalumdo_fetch` meets its contract.
use mathlib.Core.Path.{◌∙◌, ap}
use Prim.Native.Nat.{ℕ}
use Rattle.fetch.specs.Fetch.{found}
use Rattle.fetch.specs.declared.Kind.{Kind}
use Rattle.c_answers.specs.Told.{found_answer, found_numbers}
use Rattle.c_api.specs.Given.{facts_given, kind_given}
use Rattle.c_api.proofs.sikalumdo_fetch.Goals as goal

pub returns : goal.returns
returns c =
    let a = c.args in
    let f = facts_given a.strings a.contigs a.people a.gt in
    let e =
    c.find-f.ensures.value ∙ ap (λ (k : Kind). found f k c.number_given.result a.s.now) c.kind_given.ensures
    ∙ ap (λ (n : ℕ). found f (kind_given a.kind) n a.s.now) c.number_given.ensures in
    record {
      told = c.tell_found.ensures.told ∙ ap (found_answer _) e;
      written = c.tell_found.ensures.written ∙ ap (found_numbers _) e;
    }
