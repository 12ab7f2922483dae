-- `c_api::sikalumdo_field_of` meets its contract.
use mathlib.Core.Path.{◌∙◌, ap}
use Prim.Native.Nat.{ℕ}
use Rattle.fixed.specs.declared.Site.{Site}
use Rattle.fetch.specs.Fetch.{field_of}
use Rattle.fetch.specs.declared.Kind.{Kind}
use Rattle.c_answers.specs.Told.{site_told, found_answer, found_numbers}
use Rattle.c_api.specs.Given.{kind_given}
use Rattle.c_api.proofs.sikalumdo_field_of.Goals as goal

pub returns : goal.returns
returns c =
    let a = c.args in
    let n = c.number_given.result in
    let k = c.kind_given.result in
    let e =
    c.field_of-f.ensures.value ∙ ap (λ (t : Site). field_of k n t a.s.now) c.site_told.ensures
    ∙ ap (λ (x : Kind). field_of x n (site_told a.site.now) a.s.now) c.kind_given.ensures
    ∙ ap (λ (m : ℕ). field_of (kind_given a.kind) m (site_told a.site.now) a.s.now) c.number_given.ensures in
    record {
      told = c.tell_found.ensures.told ∙ ap (found_answer _) e;
      written = c.tell_found.ensures.written ∙ ap (found_numbers _) e;
    }
