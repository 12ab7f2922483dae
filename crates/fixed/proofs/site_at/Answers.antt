-- `fixed::site_at` meets its contract.
use Rattle.fixed.specs.Fixed.{site_at}
use Rattle.fixed.proofs.site_at.Goals as goal

pub returns : goal.returns
unfolding site_at
returns c =
    simp (
      ← c.field_at-counts.ensures,
      ← c.field_at-members.ensures,
      ← c.field_at.ensures,
      ← c.field_at-2.ensures,
      ← c.from_bits.ensures,
      ← c.field_at-3.ensures,
      c.field_at-4.ensures,
    )
