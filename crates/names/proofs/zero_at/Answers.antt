-- `names::zero_at` meets its contract: the first zero byte found, or none, decides it. Rests on proofs/Names.
use lib.ListN.{length}
use Rattle.std.proofs.Common.{◌≡◌, ◌≢◌, ◌∙◌, sym, refl, rules, tests}
use Rattle.std.proofs.lemmas.Iterator.{YieldsList-from_slice, IsFirst-from_position, index_from_first}
use Rattle.names.specs.Names.{before_zero}
use Rattle.names.proofs.Names.{zero_here, zero_later}
use Rattle.names.proofs.zero_at.Goals as goal

pub returns : goal.returns
unfolding before_zero
returns c =
    let first =
    IsFirst-from_position _ _ c.position.result (λ x. x ≡ 0) (λ x. x ≢ 0) c.position.ensures.ran (YieldsList-from_slice c.args.text.now cc)
    (λ x q k. search (rules, tests)) (λ x q k. search (rules, tests)) in
    c.unwrap_or.ensures ∙ sym (index_from_first (λ l. length (before_zero l)) (λ x. x ≡ 0) (λ x. x ≢ 0) refl zero_here zero_later c.args.text.now _ first)
