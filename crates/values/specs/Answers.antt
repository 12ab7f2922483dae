-- The answers of this crate in 01's terms: for each case its number and its values. Rests on nothing.
use Rattle.std.specs.Prelude.{ℕ, ◌<◌, ◌≤◌, List, [], ◌∷◌, Result, Ok, Err}
use Rattle.values.specs.declared.Value.{Value}
use Rattle.values.specs.declared.Descriptor.{Descriptor}
use Rattle.values.specs.declared.Integer.{Integer}
use Rattle.values.specs.declared.Refusal.{Refusal}

-- a refusal: its number, its place
abbrev pub refusal : ℕ → ℕ → Refusal
refusal n p = record { number = n; place = p }

-- an answer: what was asked for, or why it is refused
abbrev pub Answer : Type 0 → Type 0
Answer A = Result A Refusal

-- the refusal that an answer says, whatever was asked for; number 0 where it says none
abbrev pub refusal_of : {A : Type 0} → Answer A → Refusal
refusal_of (Ok x) = refusal 0 0
refusal_of (Err r) = r

-- one integer: refused; or its 32 bits and the place after it
abbrev pub no_integer : ℕ → ℕ → Answer Integer
no_integer n p = Err (refusal n p)

abbrev pub one : ℕ → ℕ → Answer Integer
one x next = Ok (record { bits = x; next = next })

-- a descriptor: refused; or the type, the length and the place of the first element. A bare 00 is type 0, a kind of its own, with length 0 and
-- the place just after it
abbrev pub no_descriptor : ℕ → ℕ → Answer Descriptor
no_descriptor n p = Err (refusal n p)

abbrev pub typed : ℕ → ℕ → ℕ → Answer Descriptor
typed t n first = Ok (record { code = t; len = n; first = first })

-- a value: refused; or the type, the length, and the places of the first element and after the last
abbrev pub no_value : ℕ → ℕ → Answer Value
no_value n p = Err (refusal n p)

abbrev pub whole : ℕ → ℕ → ℕ → ℕ → Answer Value
whole t n first stop = Ok (record { code = t; len = n; first = first; stop = stop })

-- an answer in 01's terms: the number of its refusal, 0 where there is none, and its place; and where it is none, the values that it holds
pub record Says : Type 0 where
  pub number : ℕ
  pub place : ℕ
  pub values : List ℕ

abbrev pub refuses : Refusal → Says
refuses r = record { number = r.number; place = r.place; values = [] }

abbrev pub holds : List ℕ → Says
holds vs = record { number = 0; place = 0; values = vs }

-- the refusal that an answer says
abbrev pub refusal_in : Says → Refusal
refusal_in a = refusal a.number a.place

-- what each answer says: the integer's bits and the place after it; type, length and the place of the first element; and the place after the last
abbrev pub integer_says : Answer Integer → Says
integer_says (Err r) = refuses r
integer_says (Ok i) = holds (i.bits ∷ i.next ∷ [])

abbrev pub descriptor_says : Answer Descriptor → Says
descriptor_says (Err r) = refuses r
descriptor_says (Ok d) = holds (d.code ∷ d.len ∷ d.first ∷ [])

abbrev pub value_says : Answer Value → Says
value_says (Err r) = refuses r
value_says (Ok v) = holds (v.code ∷ v.len ∷ v.first ∷ v.stop ∷ [])

-- an answer at a place moves on, and its places lie in the block, which has so many bytes
abbrev pub IntegerInside : ℕ → ℕ → Answer Integer → Type 0
IntegerInside at end (Err r) = Unit {0}
IntegerInside at end (Ok i) = (at < i.next) × (i.next ≤ end)

abbrev pub DescriptorInside : ℕ → ℕ → Answer Descriptor → Type 0
DescriptorInside at end (Err r) = Unit {0}
DescriptorInside at end (Ok d) = (at < d.first) × (d.first ≤ end)

abbrev pub ValueInside : ℕ → ℕ → Answer Value → Type 0
ValueInside at end (Err r) = Unit {0}
ValueInside at end (Ok v) = (at < v.first) × (v.first ≤ v.stop) × (v.stop ≤ end)
