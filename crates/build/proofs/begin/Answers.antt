-- `build::begin` meets its contract.
use Rattle.std.proofs.Common.{◌∙◌, sym, arith}
use Rattle.std.proofs.lemmas.Bool.Decides.{nat_tests}
use Rattle.build_front.proofs.Fronts.{front_room}
use Rattle.build_rules.proofs.Numbers.{begin_room}
use Rattle.build.specs.Turns.{begin_number, after_begin}
use Rattle.build.proofs.begin.Goals as goal

pub returns-then-number-eq0-clause-written : goal.returns-then-number-eq0-clause-written
unfolding begin_number after_begin
returns-then-number-eq0-clause-written c =
    let room = begin_room _ _ _ _ _ _ _ (sym c.begin_number-number.ensures ∙ c.if-number-eq0.true) in
    let front = c.put_front.ensures ∙ front_room _ _ _ _ _ room in
    grind (arith, nat_tests)
