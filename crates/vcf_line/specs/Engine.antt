-- An engine's own words, which no public promise cites: the line as it is put, column by column, with the tabs between them. Rests on the columns of
-- vcf_site, on QUAL's text and on the words of calls.
use Rattle.std.specs.Prelude.{ℕ, List, [], ◌∷◌, ◌++◌, eqb, replicate}
use Rattle.words.specs.Pick.{pick}
use Rattle.fixed.specs.declared.Site.{Site}
use Rattle.genotypes.specs.Formats.{gt_part}
use Rattle.genotypes.specs.declared.Gt.{Gt}
use Rattle.pieces.specs.Pieces.{followed, dot}
use Rattle.vcf_qual.specs.Qual.{qual_text}
use Rattle.vcf_calls.specs.Words.{part_words}
use Rattle.vcf_site.specs.Columns.{front_text, alleles_text, filters_text}

-- FORMAT and the calls, each with a tab before it; nothing where there is no GT
unfoldable pub genotypes_text : ℕ → Gt → List ℕ → List ℕ
genotypes_text people g s =
    pick (eqb g.first 0) []
    (0x09 ∷ 0x47 ∷ 0x54 ∷
    pick (eqb g.len 0) (followed 0x09 (replicate people dot)) (followed 0x09 (part_words g.code g.len (gt_part people g s))))

-- INFO as a dot, FORMAT and the calls, and the line feed
unfoldable pub end_text : ℕ → Gt → List ℕ → List ℕ
end_text people g s = 0x09 ∷ (0x2E ∷ (genotypes_text people g s ++ (0x0A ∷ [])))

-- the whole line
unfoldable pub line_text : (ℕ → List ℕ) → (ℕ → List ℕ) → Site → Gt → List ℕ → List ℕ
line_text string contig t g s =
    front_text contig t s ++ (alleles_text t s ++ ((0x09 ∷ qual_text t.qual) ++ (filters_text string t s ++ end_text t.people g s)))
