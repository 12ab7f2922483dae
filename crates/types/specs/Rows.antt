-- The sixteen type codes: for each the width of its elements and the uses that 01 allows it. Rests on nothing.
use Rattle.std.specs.Prelude.{ℕ, List, [], ◌∷◌, Bool, true, false, get_or}
use Rattle.types.specs.declared.Row.{Row}
use Rattle.types.specs.declared.Use.{Use}
use Rattle.types.specs.declared.Use.TheVariants.{Id, Allele, Filter, Integer, Info, Format, Gt}

-- integers of w bytes: FILTER, keys, true lengths, INFO and FORMAT values, GT
abbrev pub integer_row : ℕ → Row
integer_row w =
    record {
      width = w;
      id = false;
      allele = false;
      filter = true;
      integer = true;
      info = true;
      format = true;
      gt = true;
    }

-- floats: INFO and FORMAT values
abbrev pub float_row : Row
float_row =
    record {
      width = 4;
      id = false;
      allele = false;
      filter = false;
      integer = false;
      info = true;
      format = true;
      gt = false;
    }

-- text: ID, alleles, INFO and FORMAT values
abbrev pub text_row : Row
text_row =
    record {
      width = 1;
      id = true;
      allele = true;
      filter = false;
      integer = false;
      info = true;
      format = true;
      gt = false;
    }

-- type 0, a bare 00: missing, where a FILTER, an INFO or a FORMAT value stands, GT included; it has no elements and no width
abbrev pub bare : Row
bare =
    record {
      width = 0;
      id = false;
      allele = false;
      filter = true;
      integer = false;
      info = true;
      format = true;
      gt = true;
    }

-- a code that is not used has no width and no use
abbrev pub unused : Row
unused =
    record {
      width = 0;
      id = false;
      allele = false;
      filter = false;
      integer = false;
      info = false;
      format = false;
      gt = false;
    }

-- the table, by low half
abbrev pub rows : List Row
rows =
    bare ∷
    integer_row 1 ∷
    integer_row 2 ∷
    integer_row 4 ∷
    unused ∷
    float_row ∷
    unused ∷
    text_row ∷
    unused ∷
    unused ∷
    unused ∷
    unused ∷
    unused ∷
    unused ∷
    unused ∷
    unused ∷
    []

-- the row of a type code
unfoldable pub row_of : ℕ → Row
row_of t = get_or rows t unused

-- the bytes of an element
unfoldable pub width_of : ℕ → ℕ
width_of t = (row_of t).width

-- whether a row allows a use
abbrev pub allowed : Row → Use → Bool
allowed r Id = r.id
allowed r Allele = r.allele
allowed r Filter = r.filter
allowed r Integer = r.integer
allowed r Info = r.info
allowed r Format = r.format
allowed r Gt = r.gt
