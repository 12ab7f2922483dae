-- `read_choice`: each answer is that of the line as it was counted. Rests on proofs/Choices and proofs/Frames.
use native.Mathlib.Omega.{arith}
use lib.ListN.{length, take}
use Rattle.std.proofs.Common.{rules, ◌≡◌, ◌∙◌, ◌/◌}
use Rattle.std.proofs.lemmas.Grind.{common_steps}
use Rattle.hexadecimal.proofs.Choices.{choice_counted, choice_says}
use Rattle.hexadecimal.proofs.Frames.{kept, filled}
use Rattle.hexadecimal.proofs.read_choice.Goals as goal

pub returns-in_err-n-clause-told : goal.returns-in_err-n-clause-told
returns-in_err-n-clause-told c = rw (← choice_counted) (search rules)

pub returns-in_err-n-clause-written : goal.returns-in_err-n-clause-written
returns-in_err-n-clause-written c = kept _ _ _ (c.in_err-n.ensures.value ∙ choice_counted _ _)

pub returns-clause-told : goal.returns-clause-told
returns-clause-told c = rw (← choice_counted) (search rules)

pub returns-clause-written : goal.returns-clause-written
returns-clause-written c =
    let l = c.args.line.now in
    let n : length (take c.in_ok-n.n c.args.choice.now) ≡ length l / 8 = grind (arith, common_steps) in
    rw (c.store_people.ensures, n) (filled _ _ _ _ (c.in_ok-n.ensures.value ∙ choice_counted _ _) (choice_says l))
