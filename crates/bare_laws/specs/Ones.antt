-- A record with 01 in place of each bare 00, the bytes that it gets where it is built again. No other byte moves, so every place stays.
-- Rests on values, on the layout and on the kinds of fields in each block.
use Rattle.std.specs.Prelude.{ℕ, ◌-◌, List, [], ◌∷◌, ◌++◌, Bool, true, eqb, take, drop, replicate, Err, Ok}
use Rattle.words.specs.Pick.{pick}
use Rattle.types.specs.declared.Use.{Use}
use Rattle.types.specs.declared.Use.TheVariants.{Id as IdUse, Allele as AlleleUse, Filter as FilterUse, Info as InfoUse, Format as FormatUse}
use Rattle.values.specs.Values.{integer, present}
use Rattle.fixed.specs.Layout.{id_at}
use Rattle.fixed.specs.declared.Site.{Site}
use Rattle.fetch.specs.Account.{site_kinds}
use Rattle.fetch.specs.declared.Kind.{Kind}
use Rattle.values.specs.declared.Value.{Value}
use Rattle.values.specs.declared.Integer.{Integer}
use Rattle.values.specs.Answers.{Answer}
use Rattle.fetch.specs.declared.Kind.TheVariants.{Id, Allele, Filter, Info, Format}

-- what becomes of a block from a place on
abbrev pub Onward : Type 0
Onward = ℕ → List ℕ → List ℕ

-- it stays
abbrev pub as_it_is : Onward
as_it_is at l = l

-- a value's bytes, with 01 for the descriptor 00
abbrev pub one_for : List ℕ → List ℕ
one_for [] = []
one_for (d ∷ rest) = pick (eqb d 0) 0x01 d ∷ rest

-- a byte as it was, or 01 for 00
abbrev pub same_or_one : ℕ → ℕ → Bool
same_or_one x y = pick (eqb x 0) (pick (eqb y 0) true (eqb y 1)) (eqb y x)

-- a value, for so many vectors of a use, and then what follows it; where there is none, the block stays
abbrev pub past_value : Onward → ℕ → List ℕ → Answer Value → List ℕ
past_value rest at l (Err r) = l
past_value rest at l (Ok v) = one_for (take (v.stop - at) l) ++ rest v.stop (drop (v.stop - at) l)

unfoldable pub value_one : ℕ → Use → Onward → Onward
value_one vectors role rest at l = past_value rest at l (present vectors role at l)

-- a key as it is, then its value and what follows them
abbrev pub past_key : Onward → ℕ → List ℕ → Answer Integer → List ℕ
past_key rest at l (Err r) = l
past_key rest at l (Ok i) = take (i.next - at) l ++ rest i.next (drop (i.next - at) l)

unfoldable pub pair_one : ℕ → Use → Onward → Onward
pair_one vectors role rest at l = past_key (value_one vectors role rest) at l (integer at l)

-- a field of a kind, and then what follows it
abbrev pub one_of : Kind → ℕ → Onward → Onward
one_of Id people = value_one 1 IdUse
one_of Allele people = value_one 1 AlleleUse
one_of Filter people = value_one 1 FilterUse
one_of Info people = pair_one 1 InfoUse
one_of Format people = pair_one people FormatUse

-- fields of these kinds, one after the other
unfoldable pub ones_of : ℕ → List Kind → Onward
ones_of people [] = as_it_is
ones_of people (kind ∷ kinds) = one_of kind people (ones_of people kinds)

-- the whole record whose site is t, and the bytes after it
unfoldable pub with_ones : Site → List ℕ → List ℕ
with_ones t s =
    take id_at s
    ++ (ones_of t.people (site_kinds t.alleles t.infos) id_at (drop id_at (take t.border s))
    ++ (ones_of t.people (replicate t.formats Format) t.border (drop t.border (take t.length s)) ++ drop t.length s))
