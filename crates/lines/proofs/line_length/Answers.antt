-- `lines::line_length` meets its contract: the first feed found, or none, decides it. Rests on proofs/Lines.
use Rattle.std.proofs.Common.{◌≡◌, ◌≢◌, ◌∙◌, sym, refl, rules, tests}
use Rattle.std.proofs.lemmas.Iterator.{YieldsList-from_slice, IsFirst-from_position, index_from_first}
use Rattle.lines.specs.Lines.{line_length}
use Rattle.lines.proofs.Lines.{line_here, line_later}
use Rattle.lines.proofs.line_length.Goals as goal

pub returns-clause-told : goal.returns-clause-told
unfolding line_length
returns-clause-told c =
    let first =
    IsFirst-from_position _ _ c.position.result (λ x. x ≡ 0x0A) (λ x. x ≢ 0x0A) c.position.ensures.ran (YieldsList-from_slice c.args.rest.now cc)
    (λ x q k. search (rules, tests)) (λ x q k. search (rules, tests)) in
    c.unwrap_or.ensures ∙ sym (index_from_first line_length (λ x. x ≡ 0x0A) (λ x. x ≢ 0x0A) refl line_here line_later c.args.rest.now _ first)
