-- The refusals of building: a turn's answer, its state and its buffer are made of one number, and each turn's number is one of 01's list for it.
-- Rests on the definitions of the turns and of their rules, and on proofs/Values and proofs/Blocks for what is given.
use mathlib.Core.Path.{◌≡◌, refl, sym}
use mathlib.Core.List.{List, [], ◌∷◌, ◌++◌}
use mathlib.Core.Bool.{Bool, true, false}
use Prim.Native.Nat.{ℕ, zero, suc, ◌+◌, ◌*◌, ◌/◌, ◌<◌}
use native.Mathlib.Nat.{mul-zero}
use native.Mathlib.Omega.{arith}
use lib.Dec.{ltb, leb, eqb}
use lib.ListN.{length, take, drop}
use lib.Seq.{sets}
use borrow.Author.Tests.{ltb-true, eqb-true, eqb-false, eq-eqb, ne_eqb}
use Rattle.words.specs.Lists.{among}
use Rattle.words.specs.Pick.{pick}
use Rattle.words.specs.Words.{outside}
use Rattle.types.specs.Elements.{kind}
use Rattle.values.specs.Answers.{refusal, Answer}
use Rattle.vectors.specs.Vectors.{vector, Sound}
use Rattle.vectors.specs.Sound.{most_of}
use Rattle.fixed.specs.Layout.{id_at, filled_to, most_bytes, pos_wrong, rlen_wrong, qual_wrong}
use Rattle.facts.specs.declared.Facts.{Facts}
use Rattle.shown.specs.Shown.{Kind, integers, floats, text, is_integers}
use Rattle.site.specs.Alleles.{allele_bytes}
use Rattle.site.specs.Filters.{filters}
use Rattle.genotypes.specs.Formats.{role_of}
use Rattle.build_front.specs.Front.{fields_number}
use Rattle.build_append.specs.Append.{first_of, room_number, written_to}
use Rattle.build_given.specs.Given.{number_of, vectors_given, elements_number, filters_number, allele_number}
use Rattle.build_rules.specs.Values.{given_as, any, given_number}
use Rattle.build_rules.specs.Rules.{ordered, count_number, reach_number, key_number, people_number, repeat_number, gt_number, list_number, wrong_begin, wrong_id, wrong_allele, wrong_filter, wrong_info, wrong_end, format_order, format_key, format_shape}
use Rattle.build.specs.Order.{rank, turned, appended, afterwards}
use Rattle.build.specs.Turns.{begin_number, begun, after_begin, id_number, id_given, after_id, allele_rules, allele_given, after_allele, filter_rules, filter_given, after_filter, info_key, info_rules, info_given, after_info, format_count, format_rules, format_given, after_format, end_number, built, after_end}
use Rattle.build.specs.declared.Builder.{Builder}
use Rattle.build.specs.declared.Turned.{Turned}
use Rattle.build_laws.specs.Records.{All, Fit}
use Rattle.refusal_laws.specs.Numbers.{begin_gives, id_gives, allele_gives, filter_gives, info_gives, format_gives, end_gives}
use Rattle.refusal_laws.specs.Refused.{MadeOf, Kept, Refuses}
use Rattle.refusal_laws.proofs.Among.{either, all_among, among_wider, among_behind, first_among}
use Rattle.refusal_laws.proofs.Values.{JudgedTold, element_gives, turn_told, vector_told, and_told}
use Rattle.std.specs.Prelude.{Err}
use Rattle.refusal_laws.proofs.Blocks.{bytes_told, filters_told}

-- the law of a turn: its answer, its state and its buffer are made of one number
pub made_of : (st next : Builder) (n : ℕ) (buf new : List ℕ) → MadeOf n st next buf new (turned st n next) (pick (eqb n 0) new buf)
unfolding turned
made_of st next n buf new =
    record {
      taken = λ e. (rw (eq-eqb n 0 e), rw (eq-eqb n 0 e), rw (eq-eqb n 0 e));
      refused = λ e. (rw (ne_eqb n 0 e), rw (ne_eqb n 0 e), rw (ne_eqb n 0 e));
    }

-- so it is refused with the numbers that this one may be
made_refuses : (numbers : List ℕ) (n : ℕ) (st next : Builder) (buf new : List ℕ) (t : Turned) (after : List ℕ) → MadeOf n st next buf new t after
    → among n (0 ∷ numbers) ≡ true → Refuses numbers st buf t after
unfolding among
made_refuses numbers n st next buf new t after m h r k = by-test (eqb n 0) refl
  where
    by-test : (b : Bool) → eqb n 0 ≡ b → Kept numbers st buf t after r
    by-test true e =
        let d = m.taken (eqb-true n 0 e) in
        let z : ◌≡◌ {A = ℕ} 0 1 = cc (d.0, k) in
        absurd (omega arith)
    by-test false e =
        let d = m.refused (eqb-false n 0 e) in
        let same : refusal n 0 ≡ r = cc (d.0, k) in
        let one = rw (ne_eqb 0 n (λ z. eqb-false n 0 e (sym z))) at h in
        record { told = rw (← same) (record { number = one; place = refl }); state = d.1; buffer = d.2 }

made_of_one : (numbers : List ℕ) (st next : Builder) (n : ℕ) (buf new : List ℕ) → among n (0 ∷ numbers) ≡ true
    → Refuses numbers st buf (turned st n next) (pick (eqb n 0) new buf)
made_of_one numbers st next n buf new h =
    made_refuses numbers n st next buf new (turned st n next) (pick (eqb n 0) new buf) (made_of st next n buf new) h

-- 0, or one of these numbers
abbrev NoneOr : List ℕ → ℕ → Type 0
NoneOr numbers n = among n (0 ∷ numbers) ≡ true

none_wider : (n : ℕ) (xs ys : List ℕ) → all_among xs ys ≡ true → NoneOr xs n → NoneOr ys n
unfolding among
none_wider n xs ys a h = by-test (eqb 0 n) h
  where
    by-test : (b : Bool) → pick b true (among n xs) ≡ true → pick b true (among n ys) ≡ true
    by-test true k = refl
    by-test false k = among_wider n xs ys a k

-- each rule has its number
ordered_gives : (low high rank : ℕ) → NoneOr (12 ∷ []) (ordered low high rank)
unfolding ordered among
ordered_gives low high rank =
    let P = NoneOr (12 ∷ []) in
    either P (leb low rank) _ _ (either P (leb rank high) 0 12 refl refl) refl

count_gives : (count most : ℕ) → NoneOr (5 ∷ []) (count_number count most)
unfolding count_number among
count_gives count most = either (NoneOr (5 ∷ [])) (ltb count most) 0 5 refl refl

reach_gives : (room stop : ℕ) → NoneOr (13 ∷ []) (reach_number room stop)
unfolding reach_number among
reach_gives room stop = either (NoneOr (13 ∷ [])) (ltb room stop) 13 0 refl refl

room_gives : (at size room : ℕ) → NoneOr (2 ∷ 13 ∷ []) (room_number at size room)
unfolding room_number among
room_gives at size room =
    let P = NoneOr (2 ∷ 13 ∷ []) in
    either P (ltb most_bytes (at + size)) _ _ refl (either P (ltb room (at + size)) 13 0 refl refl)

key_gives : (strings key : ℕ) → NoneOr (8 ∷ []) (key_number strings key)
unfolding key_number among
key_gives strings key = either (NoneOr (8 ∷ [])) (outside strings key) 8 0 refl refl

people_gives : (people : ℕ) → NoneOr (5 ∷ []) (people_number people)
unfolding people_number among
people_gives people = either (NoneOr (5 ∷ [])) (eqb people 0) 5 0 refl refl

repeat_gives : (earlier : List ℕ) (key : ℕ) → NoneOr (11 ∷ []) (repeat_number earlier key)
unfolding repeat_number among
repeat_gives earlier key = either (NoneOr (11 ∷ [])) (among key earlier) 11 0 refl refl

gt_gives : (gt key : ℕ) (whole : Bool) → NoneOr (6 ∷ []) (gt_number gt key whole)
unfolding gt_number among
gt_gives gt key whole =
    let P = NoneOr (6 ∷ []) in
    either P (eqb key gt) _ _ (either P whole 0 6 refl refl) refl

list_gives : (people len count : ℕ) → NoneOr (7 ∷ []) (list_number people len count)
unfolding list_number among
list_gives people len count = either (NoneOr (7 ∷ [])) (eqb (people * len) count) 0 7 refl refl

fields_give : (f : Facts) (chrom pos rlen qual : ℕ) → NoneOr (5 ∷ []) (fields_number f chrom pos rlen qual)
unfolding fields_number among
fields_give f chrom pos rlen qual =
    let P = NoneOr (5 ∷ []) in
    either P (outside f.contigs chrom) _ _ refl
    (either P (pos_wrong pos) _ _ refl
    (either P (rlen_wrong rlen) _ _ refl
    (either P (qual_wrong qual) _ _ refl
    (either P (ltb 16777215 f.people) 5 0 refl refl))))

-- and so have elements that are given
number_gives : (ns : List ℕ) (end : ℕ) (j : Answer (Unit {0})) → JudgedTold ns end j → NoneOr ns (number_of j)
unfolding among
number_gives ns end Sound h = refl
number_gives ns end (Err r) h = among_behind r.number (0 ∷ []) ns h.number

filters_give : (strings : ℕ) (xs : List ℕ) → NoneOr (8 ∷ 11 ∷ []) (filters_number strings xs)
unfolding filters_number
filters_give strings xs =
    number_gives (8 ∷ 11 ∷ []) 0 (filters strings 0 0 [] xs) (filters_told strings 0 0 0 [] xs (omega (arith, mul-zero (length xs))))

allele_gives_lem : (xs : List ℕ) → NoneOr (9 ∷ []) (allele_number xs)
unfolding allele_number
allele_gives_lem xs = number_gives (9 ∷ []) (length xs) (allele_bytes 0 xs) (bytes_told 0 (length xs) xs (omega arith))

vectors_told : (most t len n : ℕ) (xs : List ℕ) → JudgedTold element_gives 0 (vectors_given most t len n xs)
unfolding vectors_given
vectors_told most t len zero xs = tt
vectors_told most t len (suc n) xs =
    let part = take len xs in
    and_told element_gives 0 (vector most t 0 0 false part) (vectors_given most t len n (drop len xs))
    (vector_told most t 0 0 0 false part (omega (arith, mul-zero (length part)))) (vectors_told most t len n (drop len xs))

given_gives : (most : ℕ) (k : Kind) (len : ℕ) (xs : List ℕ) → NoneOr (9 ∷ 10 ∷ []) (given_number most k len xs)
unfolding given_number elements_number
given_gives most k len xs =
    number_gives element_gives 0 (vectors_given most (given_as k) len (length xs / len) xs) (vectors_told most (given_as k) len (length xs / len) xs)

-- where any plain element may stand, and each is at most 32 bits, 10 is not given
abbrev Bits : List ℕ → Type 0
Bits xs = All (λ x. x < 4294967296) xs

fit_bits : (k : Kind) (xs : List ℕ) → Fit k xs → Bits xs
fit_bits k [] h = tt
fit_bits integers (x ∷ xs) h = (h.0, fit_bits integers xs h.1)
fit_bits floats (x ∷ xs) h = (h.0, fit_bits floats xs h.1)
fit_bits text (x ∷ xs) h = (omega (arith, h.0), fit_bits text xs h.1)

bits_take : (n : ℕ) (xs : List ℕ) → Bits xs → Bits (take n xs)
bits_take zero xs h = tt
bits_take (suc n) [] h = tt
bits_take (suc n) (x ∷ xs) h = (h.0, bits_take n xs h.1)

bits_drop : (n : ℕ) (xs : List ℕ) → Bits xs → Bits (drop n xs)
bits_drop zero xs h = h
bits_drop (suc n) [] h = tt
bits_drop (suc n) (x ∷ xs) h = bits_drop n xs h.1

any_vector : (t : ℕ) (ended : Bool) (xs : List ℕ) → Bits xs → JudgedTold (9 ∷ []) 0 (vector any t 0 0 ended xs)
unfolding vector among
any_vector t ended [] h = tt
any_vector t ended (x ∷ xs) h =
    turn_told (9 ∷ []) any 0 0 ended (kind t x) x _ refl (λ e. absurd (omega (arith, ltb-true any x e, h.0))) (omega arith)
    (λ b. any_vector t b xs h.1)

any_vectors : (t len n : ℕ) (xs : List ℕ) → Bits xs → JudgedTold (9 ∷ []) 0 (vectors_given any t len n xs)
unfolding vectors_given
any_vectors t len zero xs h = tt
any_vectors t len (suc n) xs h =
    and_told (9 ∷ []) 0 (vector any t 0 0 false (take len xs)) (vectors_given any t len n (drop len xs))
    (any_vector t false (take len xs) (bits_take len xs h)) (any_vectors t len n (drop len xs) (bits_drop len xs h))

any_gives : (k : Kind) (len : ℕ) (xs : List ℕ) → Fit k xs → NoneOr (9 ∷ []) (given_number any k len xs)
unfolding given_number elements_number
any_gives k len xs h =
    number_gives (9 ∷ []) 0 (vectors_given any (given_as k) len (length xs / len) xs)
    (any_vectors (given_as k) len (length xs / len) xs (fit_bits k xs h))

-- a turn that appends: the rules' number, and then the room's
pub appends : (rules numbers : List ℕ) (st next : Builder) (number : ℕ) (buf bs : List ℕ) → NoneOr rules number
    → all_among (rules ++ (2 ∷ 13 ∷ [])) numbers ≡ true
    → Refuses numbers st buf (appended st (length buf) number bs next) (afterwards st buf number bs)
unfolding appended afterwards written_to
appends rules numbers st next number buf bs h w =
    let n = first_of number (room_number st.at (length bs) (length buf)) in
    made_of_one numbers st next n buf (sets buf st.at bs)
    (none_wider n (rules ++ (2 ∷ 13 ∷ [])) numbers w (first_among number (room_number st.at (length bs) (length buf)) rules (2 ∷ 13 ∷ []) h
    (room_gives st.at (length bs) (length buf))))

-- each turn
pub begun_refuses : (st : Builder) (buf : List ℕ) (f : Facts) (chrom pos rlen qual : ℕ)
    → Refuses begin_gives st buf (begun st (length buf) f chrom pos rlen qual) (after_begin st buf f chrom pos rlen qual)
unfolding begun after_begin begin_number wrong_begin
begun_refuses st buf f chrom pos rlen qual =
    let fixed = fields_number f chrom pos rlen qual in
    let reach = reach_number (length buf) id_at in
    made_of_one begin_gives st _ (begin_number st.stage (length buf) f chrom pos rlen qual) buf _
    (first_among (ordered 0 0 (rank st.stage)) (first_of fixed reach) (12 ∷ []) (5 ∷ 13 ∷ []) (ordered_gives 0 0 (rank st.stage))
    (first_among fixed reach (5 ∷ []) (13 ∷ []) (fields_give f chrom pos rlen qual) (reach_gives (length buf) id_at)))

pub id_refuses : (st : Builder) (buf xs : List ℕ) → Fit text xs → Refuses id_gives st buf (id_given st (length buf) xs) (after_id st buf xs)
unfolding id_given after_id id_number wrong_id among
id_refuses st buf xs h =
    appends (12 ∷ 9 ∷ []) id_gives st _ (id_number st xs) buf _
    (first_among (ordered 1 1 (rank st.stage)) (given_number any text (length xs) xs) (12 ∷ []) (9 ∷ [])
    (ordered_gives 1 1 (rank st.stage)) (any_gives text (length xs) xs h)) refl

pub allele_refuses : (st : Builder) (buf xs : List ℕ) → Refuses allele_gives st buf (allele_given st (length buf) xs) (after_allele st buf xs)
unfolding allele_given after_allele allele_rules wrong_allele among
allele_refuses st buf xs =
    let count = count_number st.alleles 65535 in
    let empty : ℕ = pick (eqb (length xs) 0) 7 0 in
    appends (12 ∷ 5 ∷ 7 ∷ 9 ∷ []) allele_gives st _ (allele_rules st xs) buf _
    (first_among (ordered 2 3 (rank st.stage)) (first_of count (first_of empty (allele_number xs))) (12 ∷ []) (5 ∷ 7 ∷ 9 ∷ [])
    (ordered_gives 2 3 (rank st.stage))
    (first_among count (first_of empty (allele_number xs)) (5 ∷ []) (7 ∷ 9 ∷ []) (count_gives st.alleles 65535)
    (first_among empty (allele_number xs) (7 ∷ []) (9 ∷ []) (either (NoneOr (7 ∷ [])) (eqb (length xs) 0) 7 0 refl refl) (allele_gives_lem xs)))) refl

pub filter_refuses : (st : Builder) (buf xs : List ℕ) → Refuses filter_gives st buf (filter_given st (length buf) xs) (after_filter st buf xs)
unfolding filter_given after_filter filter_rules wrong_filter among
filter_refuses st buf xs =
    appends (12 ∷ 8 ∷ 11 ∷ []) filter_gives st _ (filter_rules st xs) buf _
    (first_among (ordered 3 3 (rank st.stage)) (filters_number st.facts.strings xs) (12 ∷ []) (8 ∷ 11 ∷ [])
    (ordered_gives 3 3 (rank st.stage)) (filters_give st.facts.strings xs)) refl

pub info_refuses : (st : Builder) (buf : List ℕ) (key : ℕ) (k : Kind) (xs : List ℕ) → Fit k xs
    → Refuses info_gives st buf (info_given st (length buf) key k xs) (after_info st buf key k xs)
unfolding info_given after_info info_rules info_key wrong_info among
info_refuses st buf key k xs h =
    let count = count_number st.infos 65535 in
    let known = key_number st.facts.strings key in
    let front = info_key st.stage st.infos st.facts.strings key in
    appends (12 ∷ 5 ∷ 8 ∷ 9 ∷ []) info_gives st _ (info_rules st key k xs) buf _
    (first_among front (given_number any k (length xs) xs) (12 ∷ 5 ∷ 8 ∷ []) (9 ∷ [])
    (first_among (ordered 4 5 (rank st.stage)) (first_of count known) (12 ∷ []) (5 ∷ 8 ∷ []) (ordered_gives 4 5 (rank st.stage))
    (first_among count known (5 ∷ []) (8 ∷ []) (count_gives st.infos 65535) (key_gives st.facts.strings key)))
    (any_gives k (length xs) xs h)) refl

count_gives_format : (rank people formats : ℕ) → NoneOr (12 ∷ 5 ∷ 5 ∷ []) (format_order rank people formats)
unfolding format_order
count_gives_format rank people formats =
    first_among (ordered 4 6 rank) (first_of (people_number people) (count_number formats 255)) (12 ∷ []) (5 ∷ 5 ∷ []) (ordered_gives 4 6 rank)
    (first_among (people_number people) (count_number formats 255) (5 ∷ []) (5 ∷ []) (people_gives people) (count_gives formats 255))

key_gives_format : (strings : ℕ) (earlier : List ℕ) (key : ℕ) → NoneOr (8 ∷ 11 ∷ []) (format_key strings earlier key)
unfolding format_key
key_gives_format strings earlier key =
    first_among (key_number strings key) (repeat_number earlier key) (8 ∷ []) (11 ∷ []) (key_gives strings key) (repeat_gives earlier key)

shape_gives_format : (gt key : ℕ) (whole : Bool) (people len count : ℕ) → NoneOr (6 ∷ 7 ∷ []) (format_shape gt key whole people len count)
unfolding format_shape
shape_gives_format gt key whole people len count =
    first_among (gt_number gt key whole) (list_number people len count) (6 ∷ []) (7 ∷ []) (gt_gives gt key whole) (list_gives people len count)

pub format_refuses : (st : Builder) (buf : List ℕ) (key : ℕ) (k : Kind) (len : ℕ) (xs : List ℕ)
    → Refuses format_gives st buf (format_given st (length buf) key k len xs) (after_format st buf key k len xs)
unfolding format_given after_format format_rules format_count among
format_refuses st buf key k len xs =
    let f = st.facts in
    let earlier = take st.formats st.keys in
    let count = format_count st.stage f.people st.formats in
    let known = format_key f.strings earlier key in
    let shape = format_shape f.gt key (is_integers k) f.people len (length xs) in
    let most = most_of (role_of key f.gt) st.alleles (given_as k) in
    let given = given_number most k len xs in
    appends (12 ∷ 5 ∷ 5 ∷ 8 ∷ 11 ∷ 6 ∷ 7 ∷ 9 ∷ 10 ∷ []) format_gives st _ (format_rules st key k len xs) buf _
    (first_among count (first_of known (first_of shape given)) (12 ∷ 5 ∷ 5 ∷ []) (8 ∷ 11 ∷ 6 ∷ 7 ∷ 9 ∷ 10 ∷ [])
    (count_gives_format (rank st.stage) f.people st.formats)
    (first_among known (first_of shape given) (8 ∷ 11 ∷ []) (6 ∷ 7 ∷ 9 ∷ 10 ∷ []) (key_gives_format f.strings earlier key)
    (first_among shape given (6 ∷ 7 ∷ []) (9 ∷ 10 ∷ []) (shape_gives_format f.gt key (is_integers k) f.people len (length xs))
    (given_gives most k len xs)))) refl

pub end_refuses : (st : Builder) (buf : List ℕ) → Refuses end_gives st buf (built st (length buf)) (after_end st buf)
unfolding built after_end end_number wrong_end
end_refuses st buf =
    made_of_one end_gives st _ (end_number st.stage (length buf)) buf _
    (first_among (ordered 4 6 (rank st.stage)) (reach_number (length buf) filled_to) (12 ∷ []) (13 ∷ [])
    (ordered_gives 4 6 (rank st.stage)) (reach_gives (length buf) filled_to))
