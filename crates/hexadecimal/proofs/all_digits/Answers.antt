-- `all_digits`: the chain's answer is that of `digits`. Rests on proofs/Digits.
use lib.Dec.{ltb}
use Rattle.std.proofs.Common.{rules, tests}
use Rattle.std.proofs.lemmas.Iterator.{YieldsList-from_slice}
use Rattle.std.proofs.lemmas.Iterator.Search.{all_from_yields_List}
use Rattle.hexadecimal.specs.Hexadecimal.{digit}
use Rattle.hexadecimal.proofs.Digits.{digits_all}
use Rattle.hexadecimal.proofs.all_digits.Goals as goal

pub returns : goal.returns
returns c =
    rw digits_all
    (all_from_yields_List (λ x. ltb (digit x) 16) _ _ _ c.all.ensures.ran (YieldsList-from_slice c.args.line.now cc) (λ x b q k. search (rules, tests)))
