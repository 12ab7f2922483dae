-- An engine's own words, which no public promise cites: how fetching comes to a field, past those before it, each by its descriptor and not judged
-- again. Rests on specs/Fields and on site's steps.
use Rattle.std.specs.Prelude.{ℕ, ◌-◌, List, Bool, true, false, take, drop, Ok, Err}
use Rattle.std.specs.Result.{result_or}
use Rattle.words.specs.Pick.{pick}
use Rattle.values.specs.Answers.{refusal, Answer}
use Rattle.fixed.specs.Layout.{id_at}
use Rattle.fixed.specs.declared.Site.{Site}
use Rattle.site.specs.Steps.{then, times}
use Rattle.fetch.specs.Fields.{field_at}
use Rattle.fetch.specs.declared.Kind.{Kind}
use Rattle.fetch.specs.declared.Found.{Found}
use Rattle.fetch.specs.declared.Kind.TheVariants.{Id, Allele, Filter, Info, Format}

-- past a field
abbrev pub field_step : Answer Found → Answer ℕ
field_step (Err r) = Err r
field_step (Ok x) = Ok x.stop

unfoldable pub passing : Kind → ℕ → ℕ → List ℕ → Answer ℕ
passing kind people at l = field_step (field_at kind people at l)

-- past so many fields of a kind
unfoldable pub past : Kind → ℕ → ℕ → ℕ → List ℕ → Answer ℕ
past kind people = times (passing kind people)

-- in the site block: past ID and the alleles; and past FILTER too
unfoldable pub to_filter : ℕ → ℕ → List ℕ → Answer ℕ
to_filter alleles at l = then at l (past Id 1 1 at l) (past Allele 1 alleles)

unfoldable pub to_info : ℕ → ℕ → List ℕ → Answer ℕ
to_info alleles at l = then at l (to_filter alleles at l) (past Filter 1 1)

-- from the front of its block to the first field of a kind
abbrev pub to_first : Kind → ℕ → ℕ → List ℕ → Answer ℕ
to_first Id alleles at l = Ok at
to_first Allele alleles at l = past Id 1 1 at l
to_first Filter alleles at l = to_filter alleles at l
to_first Info alleles at l = to_info alleles at l
to_first Format alleles at l = Ok at

-- and on to the field of a number
unfoldable pub to_field : Kind → ℕ → ℕ → ℕ → ℕ → List ℕ → Answer ℕ
to_field kind people alleles number at l = then at l (to_first kind alleles at l) (past kind people number)

-- a step, and then the field that it came to
abbrev pub then_field : ℕ → List ℕ → Answer ℕ → (ℕ → List ℕ → Answer Found) → Answer Found
then_field at l (Err r) next = Err r
then_field at l (Ok q) next = next q (drop (q - at) l)

-- the field of a kind and a number in its block
unfoldable pub field_in : Kind → ℕ → ℕ → ℕ → ℕ → List ℕ → Answer Found
field_in kind people alleles number at l = then_field at l (to_field kind people alleles number at l) (field_at kind people)

-- FORMAT fields stand in the genotype block, all others in the site block
abbrev pub is_format : Kind → Bool
is_format Id = false
is_format Allele = false
is_format Filter = false
is_format Info = false
is_format Format = true

-- where the block of a kind's fields begins and ends, and what is lent of it
abbrev pub block_from : Kind → Site → ℕ
block_from kind t = pick (is_format kind) t.border id_at

abbrev pub block_end : Kind → Site → ℕ
block_end kind t = pick (is_format kind) t.length t.border

abbrev pub block_of : Kind → Site → List ℕ → List ℕ
block_of kind t s = drop (block_from kind t) (take (block_end kind t) s)

-- 16 where there is no whole field
abbrev pub or_none : Answer Found → Answer Found
or_none x = result_or x (Err (refusal 16 0))
