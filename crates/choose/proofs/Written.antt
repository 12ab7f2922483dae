-- What is stored piece by piece is the chosen fields, and the chosen record, stored. Rests on specs/Chosen and on stores.
use Rattle.std.specs.Prelude.{Ok}
use mathlib.Core.Path.{◌≡◌, ◌∙◌, refl, sym, ap}
use mathlib.Core.List.{List, [], ◌∷◌, ◌++◌, append_assoc}
use mathlib.Core.Bool.{true}
use Prim.Native.Nat.{ℕ, ◌+◌, ◌-◌, ◌*◌, ◌<◌, ◌≤◌}
use native.Mathlib.Omega.{arith}
use native.Mathlib.Nat.{mul_assoc, zero-add}
use lib.ListN.{length, take, drop, length-append, length-drop}
use lib.Seq.{sets, length-sets, length-take-le}
use borrow.Author.Tests.{le-ltb}
use Rattle.words.specs.Words.{bytes}
use Rattle.words.proofs.Words.{length_bytes}
use Rattle.words.proofs.Places.{length_part}
use Rattle.words.proofs.Stores.{sets_append}
use Rattle.types.specs.Rows.{width_of}
use Rattle.types.specs.declared.Use.TheVariants.{Format}
use Rattle.fixed.specs.Layout.{indiv_at, people_at, id_at, members_of}
use Rattle.fixed.specs.declared.Site.{Site}
use Rattle.fetch.specs.declared.Found.{Found}
use Rattle.fetch.specs.Fields.{paired}
use Rattle.fetch_laws.proofs.Present.{paired_stop}
use Rattle.stores.specs.Stores.{filled}
use Rattle.stores.proofs.Inside.{sets_inside}
use Rattle.stores.proofs.Room.{filled_room}
use Rattle.choice.specs.Choice.{ascending, chosen_parts}
use Rattle.choose.specs.Chosen.{kept_formats, chosen_fields, chosen_block, chosen_site, chosen_record}
use Rattle.choice.specs.Sizes.{fields_size, kept_size}
use Rattle.choice.proofs.Choice.{length_ascending, length_chosen_parts}
use Rattle.choose.proofs.Fields.{fields_turn, length_chosen_fields}

-- of nobody no field is kept, of somebody all are
pub kept_none : (cs : List ℕ) (formats : ℕ) → length cs ≡ 0 → kept_formats cs formats ≡ 0
kept_none [] formats h = refl
kept_none (c ∷ cs) formats h = absurd (omega arith)

pub kept_some : (cs : List ℕ) (formats : ℕ) → (length cs ≡ 0 → ⊥) → kept_formats cs formats ≡ formats
kept_some [] formats h = absurd (h refl)
kept_some (c ∷ cs) formats h = refl

-- a field's key and descriptor, and then the parts
pub head_stored : (buf head parts : List ℕ) (o : ℕ) → o + length head ≤ length buf
    → sets (filled buf o head) (o + length head) parts ≡ sets buf o (head ++ parts)
head_stored buf head parts o r = rw (filled_room buf o head r, sets_append head parts buf o)

-- everybody's parts end where the field does
pub parts_stop : (people at : ℕ) (l : List ℕ) {x : Found} → paired people Format at l ≡ Ok x
    → x.place + people * (x.len * width_of x.code) ≡ x.stop
parts_stop people at l {x = x} h =
    let e = paired_stop people Format at l h in
    let q = mul_assoc people x.len (width_of x.code) in
    omega arith

-- the next field stored, and then the others
pub field_stored : (buf : List ℕ) (o people : ℕ) (cs : List ℕ) (n at : ℕ) (s : List ℕ) {x : Found} → ascending people cs ≡ true → 0 < n
    → paired people Format at (drop at s) ≡ Ok x → at ≤ x.place → x.place ≤ x.stop → x.stop ≤ length s
    → sets buf o (chosen_fields people cs n at (drop at s))
    ≡ sets (sets buf o (take (x.place - at) (drop at s) ++ chosen_parts (x.len * width_of x.code) cs (drop x.place s)))
    (o + (x.place - at + length cs * (x.len * width_of x.code))) (chosen_fields people cs (n - 1) x.stop (drop x.stop s))
field_stored buf o people cs n at s {x = x} asc z h e r q =
    let size = x.len * width_of x.code in
    let head = take (x.place - at) (drop at s) in
    let parts = chosen_parts size cs (drop x.place s) in
    let rest = chosen_fields people cs (n - 1) x.stop (drop x.stop s) in
    let st = parts_stop people at (drop at s) h in
    let room : people * size ≤ length (drop x.place s) = rw length-drop (omega arith) in
    let long : length (head ++ parts) ≡ x.place - at + length cs * size =
    length-append head parts ∙ rw (length_part s at x.place e (omega arith), length_chosen_parts size 0 people cs (drop x.place s) asc room) in
    let turn = fields_turn people cs n at s z h e r in
    ap (sets buf o) (turn ∙ sym (append_assoc head parts rest)) ∙ sets_append (head ++ parts) rest buf o
    ∙ ap (λ (k : ℕ). sets (sets buf o (head ++ parts)) (o + k) rest) long

-- the site block, the two numbers in it and the genotype block, stored one after the other, are the chosen record stored
pub record_stored : (buf s : List ℕ) (t : Site) (cs : List ℕ) → id_at ≤ t.border → t.border ≤ length s
    → t.border + length (chosen_block t cs s) ≤ length buf
    → sets (filled (filled (filled buf 0 (take t.border s)) indiv_at (bytes 4 (length (chosen_block t cs s)))) people_at (bytes 4 (members_of (kept_formats cs t.formats) (length cs))))
    t.border (chosen_block t cs s)
    ≡ sets buf 0 (chosen_record t cs s)
unfolding chosen_record chosen_site
record_stored buf s t cs h e r =
    let front = take t.border s in
    let block = chosen_block t cs s in
    let indiv = bytes 4 (length block) in
    let people = bytes 4 (members_of (kept_formats cs t.formats) (length cs)) in
    let one = sets front indiv_at indiv in
    let two = sets one people_at people in
    let len : length front ≡ t.border = length-take-le t.border s e in
    let len-one : length one ≡ t.border = length-sets front indiv_at indiv ∙ len in
    let len-two : length two ≡ t.border = length-sets one people_at people ∙ len-one in
    let b₁ : filled buf 0 front ≡ sets buf 0 front = filled_room buf 0 front (rw len (omega arith)) in
    let b₂ : filled (sets buf 0 front) indiv_at indiv ≡ sets buf 0 one =
    filled_room (sets buf 0 front) indiv_at indiv (rw (length-sets, length_bytes) (omega arith))
    ∙ sets_inside buf front indiv_at indiv (rw len (omega arith)) (rw (len, length_bytes) (omega arith)) in
    let b₃ : filled (sets buf 0 one) people_at people ≡ sets buf 0 two =
    filled_room (sets buf 0 one) people_at people (rw (length-sets, length_bytes) (omega arith))
    ∙ sets_inside buf one people_at people (rw len-one (omega arith)) (rw (len-one, length_bytes) (omega arith)) in
    let last = sets_append two block buf 0 in
    ap (λ (b : List ℕ). sets (filled (filled b indiv_at indiv) people_at people) t.border block) b₁
    ∙ ap (λ (b : List ℕ). sets (filled b people_at people) t.border block) b₂
    ∙ ap (λ (b : List ℕ). sets b t.border block) b₃
    ∙ sym (last ∙ ap (λ (k : ℕ). sets (sets buf 0 two) k block) (zero-add (length two) ∙ len-two))

-- the size that is known before is that of the genotype block
pub size_block : (t : Site) (cs s : List ℕ) → ascending t.people cs ≡ true
    → length (chosen_block t cs s)
    ≡ fields_size t.people (length cs) (kept_formats cs t.formats) t.border (drop t.border (take t.length s))
unfolding chosen_block
size_block t cs s h = length_chosen_fields t.people cs (kept_formats cs t.formats) t.border (drop t.border (take t.length s)) h

pub kept_block : (t : Site) (cs s : List ℕ) → ascending t.people cs ≡ true
    → kept_size t.people (length cs) (kept_formats cs t.formats) t.border (drop t.border (take t.length s))
    ≡ length (chosen_block t cs s)
unfolding kept_size
kept_block t cs s h =
    let few = length_ascending 0 t.people cs h in
    rw (le-ltb t.people (length cs) (omega arith)) (sym (size_block t cs s h))

pub length_chosen_site : (t : Site) (cs : List ℕ) (n : ℕ) (s : List ℕ) → t.border ≤ length s → length (chosen_site t cs n s) ≡ t.border
unfolding chosen_site
length_chosen_site t cs n s e = rw (length-sets, length-sets, length-take-le t.border s e)

pub length_chosen_record : (t : Site) (cs s : List ℕ) → t.border ≤ length s
    → length (chosen_record t cs s) ≡ t.border + length (chosen_block t cs s)
unfolding chosen_record
length_chosen_record t cs s e = rw (length-append, length_chosen_site t cs (length (chosen_block t cs s)) s e)
