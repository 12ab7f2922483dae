-- The chosen record byte by byte, for a reader who knows the layout and nothing of what a record shows. Rests on the account of a record's fields and
-- on the choice.
use Rattle.std.specs.Prelude.{ℕ, ◌+◌, ◌-◌, ◌*◌, ◌<◌, ◌≤◌, ◌≡◌, ◌⊎◌, List, [], ◌∷◌, ◌++◌, length, take, drop, get_or}
use Rattle.words.specs.Words.{bytes}
use Rattle.types.specs.Rows.{width_of}
use Rattle.fixed.specs.Layout.{indiv_at, people_at, members_of}
use Rattle.fixed.specs.declared.Site.{Site}
use Rattle.fetch.specs.Account.{Entry, account, of_kind}
use Rattle.fetch.specs.declared.Kind.TheVariants.{Format}
use Rattle.choice.specs.Choice.{chosen_parts}
use Rattle.choose.specs.Chosen.{kept_formats}

-- the bytes from one place up to another
abbrev pub stretch : ℕ → ℕ → List ℕ → List ℕ
stretch from to s = take (to - from) (drop from s)

-- FORMAT fields one after the other, the first from a place on: of each the bytes of its key and its descriptor as they stand, and of its elements
-- those of the chosen people, length times width bytes a person, in order
unfoldable pub chosen_stretches : List ℕ → List ℕ → ℕ → List Entry → List ℕ
chosen_stretches cs s at [] = []
chosen_stretches cs s at (e ∷ es) =
    stretch at e.place s
    ++ (chosen_parts (e.len * width_of e.code) cs (stretch e.place e.stop s) ++ chosen_stretches cs s e.stop es)

-- of nobody there are no fields
abbrev pub kept_fields : List ℕ → List Entry → List Entry
kept_fields [] es = []
kept_fields (c ∷ cs) es = es

-- a byte is none of the four at a place
abbrev pub Apart : ℕ → ℕ → Type 0
Apart place i = (i < place) ⊎ (place + 4 ≤ i)

-- c is what a choice makes of a record whose site is t. Up to the border every byte is as it was, but for l_indiv and the four bytes of the FORMAT and
-- the people counts, which say how many bytes follow the border, how many FORMAT fields are kept, and how many people; the FORMAT fields of the
-- record's own bytes follow, each for the chosen people, and nothing else
pub record ChosenBytes (t : Site) (cs s c : List ℕ) : Type 0 where
  pub border : t.border ≤ length c
  pub site : (i : ℕ) → i < t.border → Apart indiv_at i → Apart people_at i → get_or c i 0 ≡ get_or s i 0
  pub indiv : stretch indiv_at (indiv_at + 4) c ≡ bytes 4 (length c - t.border)
  pub members : stretch people_at (people_at + 4) c ≡ bytes 4 (members_of (kept_formats cs t.formats) (length cs))
  pub fields : drop t.border c ≡ chosen_stretches cs (take t.length s) t.border (kept_fields cs (of_kind Format (account t s)))
