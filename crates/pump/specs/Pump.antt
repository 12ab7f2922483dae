-- What can be said of bytes that are read and written outside: how many they are; and of a reader or a writer that tells its bytes, which ones.
-- Rests on nothing.
use Rattle.std.specs.Prelude.{◌≡◌, ℕ, ◌≤◌, ◌<◌, Bool, true, false, List, [], ◌∷◌, length, take, ◌⊎◌, None, Some}
use Rattle.std.specs.Io.KnownBytes.{Keeps, Appends, Consumes, IsAtEnd}
use Rattle.std.specs.declared.option.Option.{Option}
use Rattle.pump.specs.declared.Piece.{Piece}
use Rattle.pump.specs.declared.Piece.TheVariants.{Bytes, End, Failed}

-- the bytes of a piece lie in its buffer
abbrev pub PieceInside : ℕ → Piece → Type 0
PieceInside room (Bytes n) = n ≤ room
PieceInside room End = Unit {0}
PieceInside room Failed = Unit {0}

-- where the buffer has less than what waits, that is not written
abbrev pub WroteInside : Bool → Bool → Type 0
WroteInside true wrote = wrote ≡ false
WroteInside false wrote = Unit {0}

-- where there is room, as much waits as did; else nothing does, or the write failed
abbrev pub RoomMade : Bool → ℕ → Option ℕ → Type 0
RoomMade true waiting (Some n) = n ≡ waiting
RoomMade true waiting None = ⊥
RoomMade false waiting (Some n) = n ≡ 0
RoomMade false waiting None = Unit {0}

-- what reading a piece did to the bytes that the reader has left, where they are known: the piece has the first of them, one at least, and they are gone; or none are left,
-- and the piece has one line feed for a line of which bytes are held. At the end, where the piece has room, none are left and no line is held; a read that
-- failed took none
abbrev pub PieceTaken : Option (List ℕ) → Option (List ℕ) → ℕ → List ℕ → Piece → Type 0
PieceTaken old new held piece (Bytes n) =
    (0 < n) × (Consumes old new (take n piece) ⊎ (IsAtEnd old × Keeps old new × (0 < held) × (take n piece ≡ 10 ∷ [])))
PieceTaken old new held piece End = Keeps old new × (0 < length piece → IsAtEnd old × (held ≡ 0))
PieceTaken old new held piece Failed = Keeps old new

-- what writing did to the bytes that the writer holds, where they are known: those that wait came behind them; nothing was written where the buffer has less
abbrev pub WaitingWritten : Option (List ℕ) → Option (List ℕ) → List ℕ → ℕ → Bool → Type 0
WaitingWritten old new out waiting true = Appends old new (take waiting out)
WaitingWritten old new out waiting false = length out < waiting → Keeps old new

-- what making room did to them: nothing where there was room; else those that waited came behind them, or the write failed
abbrev pub RoomWritten : Bool → Option (List ℕ) → Option (List ℕ) → List ℕ → ℕ → Option ℕ → Type 0
RoomWritten true old new out waiting w = Keeps old new
RoomWritten false old new out waiting (Some n) = Appends old new (take waiting out)
RoomWritten false old new out waiting None = Unit {0}
