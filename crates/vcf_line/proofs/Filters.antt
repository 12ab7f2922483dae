-- FILTER: the elements of its bytes are those that a record shows. Rests on specs/Line and vcf_site's columns, and on the laws of what is fetched.
use mathlib.Core.Path.{◌≡◌}
use mathlib.Core.List.{List, [], ◌∷◌, map, append-nil, flatten}
use Prim.Native.Nat.{ℕ, ◌+◌, ◌-◌, ◌≤◌}
use native.Mathlib.Omega.{arith}
use lib.ListN.{length, take, drop, length-take, length-drop}
use lib.Seq.{take-take, length-take-le}
use Rattle.facts.specs.declared.Facts.{Facts}
use Rattle.fixed.specs.declared.Site.{Site}
use Rattle.genotypes.specs.declared.Gt.{Gt}
use Rattle.record.specs.Reading.{reading, accepted_as}
use Rattle.fetch.specs.Fields.{FoundInside}
use Rattle.fetch.specs.Account.{Entry, account, of_kind, numbered}
use Rattle.fetch.specs.Fetch.{field_of, found}
use Rattle.fetch.specs.declared.Kind.TheVariants.{Filter}
use Rattle.fetch.proofs.Inside.{field_inside}
use Rattle.fetch_laws.proofs.Bytes.{fetches}
use Rattle.contents.specs.Contents.{elements_at, shown_of}
use Rattle.contents.proofs.Elements.{elements_of_take}
use Rattle.contents.proofs.Fetched.{count_there}
use Rattle.vcf_site.specs.Columns.{names_text, filters_from, filters_text}
use Rattle.vcf_line.specs.Line.{filter_text}

-- of the one field that stands in its block
one_field : (string : ℕ → List ℕ) (s : List ℕ) (at end : ℕ) (es : List Entry) → length es ≡ 1
    → FoundInside at (at + length (drop at (take end s))) (numbered 0 es)
    → filters_from string s (numbered 0 es) ≡ 0x09 ∷ filter_text string (flatten (map (elements_at s) es))
unfolding numbered names_text filter_text elements_at flatten
one_field string s at end [] h i = absurd (omega arith)
one_field string s at end (e ∷ x ∷ es) h i = absurd (omega arith)
one_field string s at end (e ∷ []) h i =
    let size = e.stop - e.place in
    let l = drop e.place s in
    let j = rw (length-drop at (take end s), length-take end s) at i.2 in
    let r : size ≤ length l = rw (length-drop e.place s) (omega arith) in
    rw (append-nil (elements_at s e), length-take-le size l r, elements_of_take e.code size (take size l) l (take-take size size l (omega arith)))

-- the law
pub filters_shown : (f : Facts) (s : List ℕ) (t : Site) (g : Gt) (string : ℕ → List ℕ) → reading f s ≡ accepted_as t g
    → filters_text string t s ≡ 0x09 ∷ filter_text string (shown_of t s).filters
unfolding filters_text field_of found shown_of
filters_shown f s t g string h =
    let r = fetches f Filter 0 s t g h (omega arith) in
    let l = drop r.place (take t.border s) in
    let e = rw h at r.field in
    one_field string s r.place t.border (of_kind Filter (account t s)) (count_there f s t g Filter h)
    (rw e (field_inside Filter f.people r.place l))
