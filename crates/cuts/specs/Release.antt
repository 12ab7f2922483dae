-- The first line of a release: the header's facts with the people that were chosen. Rests on capitals.
use Rattle.std.specs.Prelude.{ℕ, List, [], ◌∷◌, ◌++◌, ltb, length, Option as StdOption, None, Some}
use Rattle.std.proofs.lemmas.List.Edits.{sets}
use Rattle.words.specs.Pick.{pick}
use Rattle.capitals.specs.Capitals.{eight}
use Rattle.facts.specs.declared.Facts.{Facts}

-- strings, contigs, the people chosen and the GT offset, eight digits each, and a line feed
unfoldable pub release_line : Facts → ℕ → List ℕ
release_line f people = eight f.strings ++ (eight f.contigs ++ (eight people ++ (eight f.gt ++ (0x0A ∷ []))))

-- what is answered, and the buffer afterwards: the line at its start, where it has room
unfoldable pub release_said : ℕ → Facts → ℕ → StdOption ℕ
release_said room f people = pick (ltb room 33) None (Some (length (release_line f people)))

unfoldable pub release_said_in : List ℕ → Facts → ℕ → List ℕ
release_said_in out f people = pick (ltb (length out) 33) out (sets out 0 (release_line f people))
