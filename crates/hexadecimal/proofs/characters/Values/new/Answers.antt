-- `Values::new` holds the values of all characters in order: the whole table is compared with the definition by computing it. Rests on
-- specs/Hexadecimal.
use mathlib.Core.Path.{refl}
use Rattle.hexadecimal.specs.Hexadecimal.{digit, values_from}
use Rattle.hexadecimal.proofs.characters.Values.new.Goals as goal

pub invariant_of-result : goal.invariant_of-result
unfolding values_from digit
invariant_of-result c = record { all = refl }
