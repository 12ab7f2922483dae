-- Demand 2, building, proved: each law cites the file of `built` that did the work. Rests on specs/Building.
use mathlib.Core.Path.{◌≡◌}
use mathlib.Core.List.{List, [], ◌∷◌}
use Prim.Native.Nat.{ℕ}
use Rattle.shown.specs.Values.{written_as}
use Rattle.build_rules.specs.Values.{given_as}
use Rattle.build_laws.specs.Records.{All}
use Rattle.build_laws.specs.Widths.{shown_again}
use Rattle.build_laws.proofs.Builds.{wrote_record, drop_wrote, finished_reads, keeps_builds, keeps_tight, tight_reads, tight_again, wrote_tight}
use Rattle.build_laws.proofs.Kept.{turns_keep, turns_room}
use Rattle.build_laws.proofs.Ordered.{turns_ordered}
use Rattle.build_laws.proofs.Widths.{Held, narrowest_one, narrowest_two, narrowest_types, held_integer, held_written, shown_held}
use Rattle.laws.specs.Building.{Building}

-- each element of a value
each_shown : (t g : ℕ) (xs rest : List ℕ) → All (Held t g) xs → All (λ x. shown_again t x rest ≡ x) xs
each_shown t g [] rest h = tt
each_shown t g (x ∷ xs) rest h = (shown_held t g x rest h.0, each_shown t g xs rest h.1)

pub building : Building
building =
    record {
      back = finished_reads;
      rest = drop_wrote;
      wrote_record = wrote_record;
      fits = keeps_builds;
      ordered = turns_ordered;
      keeps = turns_keep;
      room = turns_room;
      tight = wrote_tight;
      tight_keeps = keeps_tight;
      tight_accepted = tight_reads;
      tight_again = tight_again;
      one = narrowest_one;
      two = narrowest_two;
      three = narrowest_types;
      integer = λ t x rest b h k. shown_held t 3 x rest (held_integer t x b h k);
      element = λ k xs rest h. each_shown (written_as k xs) (given_as k) xs rest (held_written k xs h);
    }
