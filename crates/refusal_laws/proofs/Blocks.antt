-- The fields of a block, judged in turn: accepted, each ends later and inside the block; refused, it is told by reading's numbers, at a place up to
-- the end of the block. Rests on proofs/Values, on the steps of site, and on fetch_laws for the judgement of a block as that of its fields in turn.
use mathlib.Core.Path.{◌≡◌, refl}
use mathlib.Core.List.{List, [], ◌∷◌, ◌++◌}
use mathlib.Core.Bool.{true}
use Prim.Native.Nat.{ℕ, zero, suc, ◌+◌, ◌-◌, ◌*◌, ◌/◌, ◌<◌, ◌≤◌}
use native.Mathlib.Nat.{suc-mul, div-mul-le_self}
use native.Mathlib.Omega.{arith}
use lib.Dec.{ltb, eqb}
use lib.ListN.{length, take, drop, replicate, length-drop}
use Rattle.words.specs.Lists.{among}
use Rattle.words.specs.Words.{outside}
use Rattle.types.specs.Rows.{width_of}
use Rattle.types.specs.declared.Use.TheVariants.{Id as IdUse, Allele as AlleleUse, Filter as FilterUse, Info as InfoUse}
use Rattle.values.specs.Values.{keyed, present}
use Rattle.vectors.specs.Vectors.{shown_numbers, Sound}
use Rattle.vectors.specs.Sound.{sound}
use Rattle.facts.specs.declared.Facts.{Facts}
use Rattle.fixed.specs.declared.Site.{Site}
use Rattle.site.specs.Steps.{then, value_step, judged_step, ended}
use Rattle.site.specs.Alleles.{allele_bytes, allele_value, allele}
use Rattle.site.specs.Filters.{filters, filtered, filter_value, filter}
use Rattle.site.specs.Site.{info_value, info, site}
use Rattle.genotypes.specs.Formats.{role_of, no_gt, formats}
use Rattle.genotypes.specs.declared.Gt.{Gt}
use Rattle.fetch.specs.Account.{fields_of, site_kinds}
use Rattle.fetch.specs.declared.Kind.{Kind}
use Rattle.fetch.specs.declared.Kind.TheVariants.{Id, Allele, Filter, Info, Format}
use Rattle.fetch_laws.specs.InTurn.{format_value, format, judging, in_turn, keys_of, gt_in, unless_earlier, formats_in_turn, with_gt}
use Rattle.fetch_laws.proofs.Turns.{site_in_turn}
use Rattle.fetch_laws.proofs.FormatsInTurn.{format_in_turn}
use Rattle.refusal_laws.specs.Numbers.{reading_gives}
use Rattle.refusal_laws.specs.Refused.{Told}
use Rattle.refusal_laws.proofs.Among.{either, all_among, among_wider}
use Rattle.values.specs.declared.Value.{Value}
use Rattle.std.specs.Prelude.{Err, Ok}
use Rattle.values.specs.declared.Integer.{Integer}
use Rattle.values.specs.Answers.{Answer}
use Rattle.refusal_laws.proofs.Values.{IntegerTold, ValueTold, JudgedTold, keyed_told, present_told, part_short, sound_told}

-- what is said of a step from a place of a block that ends at a place
abbrev pub step_told : ℕ → ℕ → Answer ℕ → Type 0
step_told at end (Err r) = Told reading_gives end r
step_told at end (Ok q) = (at ≤ q) × (q ≤ end)

-- from an earlier place, up to a later end
step_wider : (at q end stop : ℕ) (p : Answer ℕ) → at ≤ q → end ≤ stop → step_told q end p → step_told at stop p
step_wider at q end stop (Err r) a e h = record { number = h.number; place = omega arith }
step_wider at q end stop (Ok p) a e h = (omega arith, omega arith)

-- past a place inside the block its end stays where it is
rest_end : (at q : ℕ) (l : List ℕ) → at ≤ q → q ≤ at + length l → q + length (drop (q - at) l) ≤ at + length l
rest_end at q l a e = rw (length-drop (q - at) l) (omega arith)

then_told : (at : ℕ) (l : List ℕ) (p : Answer ℕ) (next : ℕ → List ℕ → Answer ℕ) → step_told at (at + length l) p
    → ((q : ℕ) (m : List ℕ) → step_told q (q + length m) (next q m)) → step_told at (at + length l) (then at l p next)
then_told at l (Err r) next h on = h
then_told at l (Ok q) next h on =
    let m = drop (q - at) l in
    step_wider at q (q + length m) (at + length l) (next q m) h.0 (rest_end at q l h.0 h.1) (on q m)

-- past a value, also where it stands behind a key
value_step_lem : (at next end : ℕ) (v : Answer Value) → at ≤ next → ValueTold next end v → step_told at end (value_step v)
value_step_lem at next end (Err r) a h = h
value_step_lem at next end (Ok v) a h = (omega arith, omega arith)

behind_key : (at next : ℕ) (l : List ℕ) (v : Answer Value) → at < next → next ≤ at + length l → ValueTold next (next + length (drop (next - at) l)) v
    → step_told at (at + length l) (value_step v)
behind_key at next l v a e h =
    let m = drop (next - at) l in
    step_wider at next (next + length m) (at + length l) (value_step v) (omega arith) (rest_end at next l (omega arith) e)
    (value_step_lem next next (next + length m) v (omega arith) h)

-- past elements that are judged from a place on
judged_step_lem : (ns : List ℕ) (at first stop end m : ℕ) (j : Answer (Unit {0})) → all_among ns reading_gives ≡ true → at ≤ first → first + m ≤ stop → stop ≤ end
    → JudgedTold ns m j → step_told at end (judged_step first stop j)
judged_step_lem ns at first stop end m Sound w a b c h = (omega arith, c)
judged_step_lem ns at first stop end m (Err r) w a b c h =
    record { number = among_wider r.number ns reading_gives w h.number; place = omega (arith, h.place) }

-- an allele: 9 by byte
pub bytes_told : (at end : ℕ) (bs : List ℕ) → at + length bs ≤ end → JudgedTold (9 ∷ []) end (allele_bytes at bs)
unfolding allele_bytes among
bytes_told at end [] h = tt
bytes_told at end (b ∷ bs) h =
    let P = JudgedTold (9 ∷ []) end in
    either P (ltb b 0x21) _ _ (record { number = refl; place = omega arith })
    (either P (ltb 0x7E b) _ _ (record { number = refl; place = omega arith }) (bytes_told (at + 1) end bs (omega arith)))

allele_value_lem : (at end : ℕ) (l : List ℕ) (v : Answer Value) → at ≤ end → ValueTold at end v → step_told at end (allele_value at l v)
unfolding among
allele_value_lem at end l (Err r) a h = h
allele_value_lem at end l (Ok v) a h =
    let part = take (v.stop - v.first) (drop (v.first - at) l) in
    let short = part_short v.first v.stop (v.first - at) l in
    either (step_told at end) (eqb v.len 0) _ _ (record { number = refl; place = a })
    (judged_step_lem (9 ∷ []) at v.first v.stop end (length part) (allele_bytes 0 part) refl (omega arith) (omega (arith, short)) h.2
    (bytes_told 0 (length part) part (omega arith)))

-- FILTER: by element 8, then 11
pub filters_told : (strings w at end : ℕ) (earlier xs : List ℕ) → at + length xs * w ≤ end
    → JudgedTold (8 ∷ 11 ∷ []) end (filters strings w at earlier xs)
unfolding filters among
filters_told strings w at end earlier [] h = tt
filters_told strings w at end earlier (x ∷ xs) h =
    let P = JudgedTold (8 ∷ 11 ∷ []) end in
    let more = suc-mul (length xs) w in
    either P (outside strings x) _ _ (record { number = refl; place = omega arith })
    (either P (among x earlier) _ _ (record { number = refl; place = omega arith })
    (filters_told strings w (at + w) end (x ∷ earlier) xs (omega arith)))

length_shown : (t w n : ℕ) (l : List ℕ) → length (shown_numbers t w n l) ≡ n
unfolding shown_numbers
length_shown t w zero l = refl
length_shown t w (suc n) l = rw (length_shown t w n (drop w l))

filtered_told : (strings t : ℕ) (l : List ℕ) → JudgedTold (8 ∷ 11 ∷ []) (length l) (filtered strings t l)
unfolding filtered
filtered_told strings t l =
    let w = width_of t in
    let n = length l / w in
    filters_told strings w 0 (length l) [] (shown_numbers t w n l) (rw (length_shown t w n l) (omega (arith, div-mul-le_self (length l) w)))

filter_value_lem : (strings at end : ℕ) (l : List ℕ) (v : Answer Value) → ValueTold at end v → step_told at end (filter_value strings at l v)
unfolding among
filter_value_lem strings at end l (Err r) h = h
filter_value_lem strings at end l (Ok v) h =
    let part = take (v.stop - v.first) (drop (v.first - at) l) in
    let short = part_short v.first v.stop (v.first - at) l in
    judged_step_lem (8 ∷ 11 ∷ []) at v.first v.stop end (length part) (filtered strings v.code part) refl (omega arith) (omega (arith, short)) h.2
    (filtered_told strings v.code part)

-- an INFO pair; a FORMAT field, but for keys that stand twice
info_value_lem : (at : ℕ) (l : List ℕ) (i : Answer Integer) → IntegerTold at (at + length l) i → step_told at (at + length l) (info_value at l i)
info_value_lem at l (Err r) h = h
info_value_lem at l (Ok i) h =
    let m = drop (i.next - at) l in
    behind_key at i.next l (sound 1 0 InfoUse i.next m) h.0 h.1 (sound_told 1 0 InfoUse i.next m)

format_value_lem : (people gt alleles at : ℕ) (l : List ℕ) (i : Answer Integer) → IntegerTold at (at + length l) i
    → step_told at (at + length l) (format_value people gt alleles at l i)
format_value_lem people gt alleles at l (Err r) h = h
format_value_lem people gt alleles at l (Ok i) h =
    let m = drop (i.next - at) l in
    behind_key at i.next l (sound people alleles (role_of i.bits gt) i.next m) h.0 h.1 (sound_told people alleles (role_of i.bits gt) i.next m)

-- a field of each kind
judging_told : (f : Facts) (t : Site) (kind : Kind) (at : ℕ) (l : List ℕ) → step_told at (at + length l) (judging f t kind at l)
unfolding allele filter info format
judging_told f t Id at l = value_step_lem at at (at + length l) (sound 1 0 IdUse at l) (omega arith) (sound_told 1 0 IdUse at l)
judging_told f t Allele at l = allele_value_lem at (at + length l) l (present 1 AlleleUse at l) (omega arith) (present_told 1 AlleleUse at l)
judging_told f t Filter at l = filter_value_lem f.strings at (at + length l) l (present 1 FilterUse at l) (present_told 1 FilterUse at l)
judging_told f t Info at l = info_value_lem at l (keyed f.strings at l) (keyed_told f.strings at l)
judging_told f t Format at l =
    format_value_lem f.people f.gt t.alleles at l (keyed f.strings at l) (keyed_told f.strings at l)

-- fields in turn, and then the end of the block
turns_told : (f : Facts) (t : Site) (kinds : List Kind) (at : ℕ) (l : List ℕ) → step_told at (at + length l) (in_turn (judging f t) kinds at l)
unfolding in_turn
turns_told f t [] at l = (omega arith, omega arith)
turns_told f t (kind ∷ kinds) at l =
    then_told at l (judging f t kind at l) (in_turn (judging f t) kinds) (judging_told f t kind at l) (turns_told f t kinds)

ended_told : (at : ℕ) (l : List ℕ) → step_told at (at + length l) (ended at l)
unfolding among
ended_told at [] = (omega arith, omega arith)
ended_told at (b ∷ rest) = record { number = refl; place = omega arith }

pub site_told_lem : (f : Facts) (t : Site) (at : ℕ) (l : List ℕ) → step_told at (at + length l) (site f.strings t.alleles t.infos at l)
site_told_lem f t at l =
    let kinds = site_kinds t.alleles t.infos in
    rw (site_in_turn f t at l) (then_told at l (in_turn (judging f t) kinds at l) ended (turns_told f t kinds at l) ended_told)

-- FORMAT fields in turn: 11 at the element of a key that stood earlier
earlier_told : (earlier : List ℕ) (at end : ℕ) (p : Answer ℕ) (i : Answer Integer) → IntegerTold at end i → step_told at end p
    → step_told at end (unless_earlier earlier at p i)
unfolding among
earlier_told earlier at end p (Err r) h k = k
earlier_told earlier at end p (Ok i) h k =
    either (step_told at end) (among i.bits earlier) _ _ (record { number = refl; place = omega arith }) k

formats_told : (f : Facts) (t : Site) (n : ℕ) (earlier : List ℕ) (at : ℕ) (l : List ℕ)
    → step_told at (at + length l) (formats_in_turn f t n earlier at l)
unfolding formats_in_turn
formats_told f t zero earlier at l = (omega arith, omega arith)
formats_told f t (suc n) earlier at l =
    let keys = earlier ++ keys_of (fields_of f.people (Format ∷ []) at l) in
    then_told at l (unless_earlier earlier at (judging f t Format at l) (keyed f.strings at l)) (formats_in_turn f t n keys)
    (earlier_told earlier at (at + length l) (judging f t Format at l) (keyed f.strings at l) (keyed_told f.strings at l)
    (judging_told f t Format at l))
    (formats_told f t n keys)

abbrev pub GenotypesTold : ℕ → Answer Gt → Type 0
GenotypesTold end (Err r) = Told reading_gives end r
GenotypesTold end (Ok g) = Unit {0}

with_told : (g : Gt) (at end : ℕ) (p : Answer ℕ) → step_told at end p → GenotypesTold end (with_gt g p)
with_told g at end (Err r) h = h
with_told g at end (Ok q) h = tt

pub genotypes_told : (f : Facts) (t : Site) (n at : ℕ) (l : List ℕ)
    → GenotypesTold (at + length l) (formats f.strings f.people f.gt t.alleles n [] no_gt at l)
genotypes_told f t n at l =
    let p = then at l (formats_in_turn f t n [] at l) ended in
    rw (format_in_turn f t n at l)
    (with_told (gt_in f.gt (fields_of f.people (replicate n Format) at l)) at (at + length l) p
    (then_told at l (formats_in_turn f t n [] at l) ended (formats_told f t n [] at l) ended_told))
