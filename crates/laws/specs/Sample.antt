-- 01's sample record, the input of the line program's example: how it is read, what it
-- shows, its tally, the line that the program prints of it, and its VCF line. Rests on the definitions of record, tally, frames and vcf_line.
use Rattle.std.specs.Prelude.{◌≡◌, List, [], ◌∷◌, ◌++◌, ℕ, replicate, Ok}
use Rattle.facts.specs.declared.Facts.{Facts}
use Rattle.positions.specs.Positions.{pos_of}
use Rattle.fixed.specs.declared.Site.{Site}
use Rattle.genotypes.specs.Formats.{gt_at}
use Rattle.record.specs.Reading.{reading, accepted_as}
use Rattle.shown.specs.Shown.{Shown, Pair, Field, integers}
use Rattle.contents.specs.Contents.{shown_of}
use Rattle.tally.specs.Tally.{tallied}
use Rattle.frames.specs.Frames.{record_line}
use Rattle.shown.specs.Records.{record_bytes}
use Rattle.build_laws.specs.Builds.{Tight}
use Rattle.vcf_line.specs.Line.{Names, names_in, line as text, printed}

-- four strings, one contig, two people, GT at offset 3
abbrev pub facts : Facts
facts = record { strings = 4; contigs = 1; people = 2; gt = 3 }

-- the first 32 bytes, with given block lengths, FORMAT fields and people; then ID, alleles, FILTER and INFO
abbrev pub sample_front : ℕ → ℕ → ℕ → ℕ → List ℕ
sample_front shared indiv formats people =
    shared ∷ 0 ∷ 0 ∷ 0 ∷ indiv ∷ 0 ∷ 0 ∷ 0 ∷ 0 ∷ 0 ∷ 0 ∷ 0 ∷ 0x21 ∷ 0x38 ∷ 0 ∷ 0 ∷ 0x01 ∷ 0 ∷ 0 ∷ 0 ∷
    0 ∷ 0 ∷ 0xE8 ∷ 0x41 ∷ 0x01 ∷ 0 ∷ 0x02 ∷ 0 ∷ people ∷ 0 ∷ 0 ∷ formats ∷ []

abbrev pub sample_fields : List ℕ
sample_fields = 0x07 ∷ 0x17 ∷ 0x47 ∷ 0x17 ∷ 0x41 ∷ 0x11 ∷ 0 ∷ 0x11 ∷ 0x02 ∷ 0x11 ∷ 0x0E ∷ []

-- and GT of two people
unfoldable pub sample : List ℕ
sample = sample_front 0x23 7 1 2 ++ (sample_fields ++ (0x11 ∷ 0x03 ∷ 0x21 ∷ 0x02 ∷ 0x03 ∷ 0x04 ∷ 0x81 ∷ []))

-- its site, for a border and a length
abbrev pub site_to : ℕ → ℕ → Site
site_to border length =
    record {
      length = length;
      border = border;
      chrom = 0;
      pos = pos_of 0x3821;
      rlen = 1;
      qual = 0x41E80000;
      alleles = 2;
      infos = 1;
      formats = 1;
      people = 2;
    }

abbrev pub sample_site : Site
sample_site = site_to 43 50

-- no ID, alleles G and A, and the filters, INFO pairs and FORMAT fields that are given
abbrev pub showing : List ℕ → List Pair → List Field → Shown
showing filters infos formats =
    record {
      chrom = 0;
      pos = 0x3821;
      rlen = 1;
      qual = 0x41E80000;
      id = [];
      alleles = (0x47 ∷ []) ∷ (0x41 ∷ []) ∷ [];
      filters = filters;
      infos = infos;
      formats = formats;
    }

-- the filter at offset 0, INFO 2 is 14, and GT is 02 03 and 04 with an end of vector
abbrev pub sample_shown : Shown
sample_shown =
    showing (0 ∷ []) (record { key = 2; value = record { kind = integers; elements = 14 ∷ [] } } ∷ [])
    (record { key = 3; len = 2; value = record { kind = integers; elements = 2 ∷ 3 ∷ 4 ∷ 0x80000001 ∷ [] } } ∷ [])

-- names: the filter at offset 0 is PASS, the contig is 20
abbrev pub sample_strings : Names
sample_strings = names_in (0x50 ∷ 0x41 ∷ 0x53 ∷ 0x53 ∷ 0x71 ∷ 0x44 ∷ 0x50 ∷ 0x47 ∷ 0x54 ∷ []) (4 ∷ 5 ∷ 7 ∷ 9 ∷ [])

abbrev pub sample_contigs : Names
sample_contigs = names_in (0x32 ∷ 0x30 ∷ []) (2 ∷ [])

pub record Sample : Type 0 where
  -- accepted: 50 bytes, two alleles, one INFO pair, one FORMAT field, two people; GT is of type 1, two slots a person, from byte 46 on
  pub read : reading facts sample ≡ accepted_as sample_site (gt_at 1 2 46)
  pub shows : shown_of sample_site sample ≡ sample_shown
  -- built from what it shows it is the same bytes, and so it is tight
  pub built : record_bytes facts.people sample_shown ≡ sample
  pub tight : Tight facts sample
  -- tallied: nobody without a genotype, no missing allele, two calls of allele 0 and one of allele 1; the padding is no call
  pub tally : tallied facts sample ≡ record { answer = Ok sample_site; calls = record { without = 0; counts = 0 ∷ 2 ∷ 1 ∷ replicate 62 0 } }
  -- and so the line program says `ok 50 2 1 1 2 0 0 2 1`
  pub line : record_line facts sample
      ≡ 0x6F ∷ 0x6B ∷ 0x20 ∷ 0x35 ∷ 0x30 ∷ 0x20 ∷ 0x32 ∷ 0x20 ∷ 0x31 ∷ 0x20 ∷ 0x31 ∷ 0x20 ∷ 0x32 ∷ 0x20 ∷ 0x30 ∷ 0x20 ∷ 0x30 ∷ 0x20 ∷ 0x32 ∷ 0x20 ∷ 0x31 ∷ 0x0A ∷ []
  -- as VCF text it is 20, 14370, a dot, G, A, 29, PASS, a dot, GT, `0|0` and `1`: the phase is that of the later slot, and the padding is no slot
  pub vcf : printed facts sample_strings sample_contigs sample
      ≡ text
      (0x32 ∷ 0x30 ∷ 0x09 ∷ 0x31 ∷ 0x34 ∷ 0x33 ∷ 0x37 ∷ 0x30 ∷ 0x09 ∷ 0x2E ∷ 0x09 ∷ 0x47 ∷ 0x09 ∷ 0x41 ∷ 0x09 ∷ 0x32 ∷ 0x39 ∷ 0x09 ∷ 0x50 ∷ 0x41 ∷ 0x53 ∷ 0x53 ∷ 0x09 ∷ 0x2E ∷ 0x09 ∷ 0x47 ∷
      0x54 ∷ 0x09 ∷ 0x30 ∷ 0x7C ∷ 0x30 ∷ 0x09 ∷ 0x31 ∷ 0x0A ∷ [])
