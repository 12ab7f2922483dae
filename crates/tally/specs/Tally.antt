-- The tally: of a record that is read, and of at most 64 alleles, the calls of its people. Rests on reading and on calls.
use Rattle.std.specs.Prelude.{ℕ, List, ◌∷◌, ltb, eqb, replicate, Err, Ok}
use Rattle.words.specs.Pick.{pick}
use Rattle.values.specs.Answers.{refusal, Says, refuses, holds, Answer}
use Rattle.values.specs.declared.Refusal.{Refusal}
use Rattle.facts.specs.declared.Facts.{Facts}
use Rattle.genotypes.specs.Formats.{gt_part}
use Rattle.genotypes.specs.declared.Gt.{Gt}
use Rattle.record.specs.Reading.{reading}
use Rattle.calls.specs.Calls.{counted}
use Rattle.calls.specs.declared.Calls.{Calls}
use Rattle.fixed.specs.declared.Site.{Site}
use Rattle.record.specs.declared.Reading.{Reading}
use Rattle.tally.specs.declared.Tallied.{Tallied}

-- so many people without a genotype, and no call
abbrev pub nobody : ℕ → Calls
nobody people = record { without = people; counts = replicate 65 0 }

-- where GT has no length, or there is none, everybody is without a genotype; else its elements are counted
unfoldable pub calls_of : Gt → ℕ → List ℕ → Calls
calls_of g people s =
    pick (eqb g.len 0) (nobody people) (counted g.code g.len (gt_part people g s))

-- 01's number and values for each case, of a tally with these calls: the refusal; or alleles and people, people without a genotype, missing alleles,
-- and the calls of each of 64 alleles
abbrev pub counting_says : Calls → Answer Site → Says
counting_says k (Err r) = refuses r
counting_says k (Ok t) = holds (t.alleles ∷ t.people ∷ k.without ∷ k.counts)

-- a refusal, with every counter 0
abbrev pub refused_tally : Refusal → Tallied
refused_tally r = record { answer = Err r; calls = nobody 0 }

-- reading's refusals, then 15 for more than 64 alleles, then the calls
abbrev pub tally_of : List ℕ → Answer Reading → Tallied
tally_of s (Err r) = refused_tally r
tally_of s (Ok a) =
    pick (ltb 64 a.site.alleles) (refused_tally (refusal 15 0)) (record { answer = Ok a.site; calls = calls_of a.gt a.site.people s })

unfoldable pub tallied : Facts → List ℕ → Tallied
tallied f s = tally_of s (reading f s)
