-- The rules of the fixed fields that a builder is given. Rests on the layout.
use Rattle.std.specs.Prelude.{ℕ, ltb}
use Rattle.words.specs.Pick.{pick}
use Rattle.words.specs.Words.{outside}
use Rattle.fixed.specs.Layout.{pos_wrong, rlen_wrong, qual_wrong}
use Rattle.facts.specs.declared.Facts.{Facts}

-- 5 for a fixed field that breaks its rule, or more people than a record can hold
unfoldable pub fields_number : Facts → ℕ → ℕ → ℕ → ℕ → ℕ
fields_number f chrom pos rlen qual =
    pick (outside f.contigs chrom) 5
    (pick (pos_wrong pos) 5
    (pick (rlen_wrong rlen) 5
    (pick (qual_wrong qual) 5
    (pick (ltb 16777215 f.people) 5
    0))))
