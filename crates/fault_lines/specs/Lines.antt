-- Lines, the pieces in which they are written, and what a sink took of them.
use Rattle.std.specs.Prelude.{◌≤◌, ℕ, List, [], ◌∷◌, ◌++◌, Option, length, map, take, codes, decimal}
use Rattle.std.specs.Io.KnownBytes.{Appends}
use Rattle.launch_file.specs.Line.{pair_text}
use Rattle.fault_lines.specs.declared.lines.Piece.{Piece}
use Rattle.fault_lines.specs.declared.lines.Piece.TheVariants.{Text, Number, Pair, Place}

-- numbers, each behind `.`
abbrev pub dotted : List ℕ → List ℕ
dotted [] = []
dotted (i ∷ is) = (46 ∷ decimal i) ++ dotted is

-- a place: `.` for the root, or the numbers of the children on the way with `.` between
abbrev pub place_text : List ℕ → List ℕ
place_text [] = codes "."
place_text (i ∷ is) = decimal i ++ dotted is

-- texts, one after another, and an end of line
abbrev pub line_of_texts : List (List ℕ) → List ℕ
line_of_texts [] = codes "\n"
line_of_texts (text ∷ texts) = text ++ line_of_texts texts

-- a piece of a line: a text, a number, two of them or a place
abbrev pub piece_text : Piece → List ℕ
piece_text (Text text) = text.now
piece_text (Number n) = decimal n
piece_text (Pair first second) = pair_text first second
piece_text (Place numbers) = place_text numbers.now

-- the line that pieces make, with its end
abbrev pub line_in_pieces : List Piece → List ℕ
line_in_pieces pieces = line_of_texts (map piece_text pieces)

-- ---- what a sink took

-- a prefix of the bytes was taken
abbrev pub TakesPrefix : Option (List ℕ) → Option (List ℕ) → List ℕ → Type 0
TakesPrefix before after bytes = (k : ℕ) × (k ≤ length bytes) × Appends before after (take k bytes)

-- a prefix of the bytes was taken, and the whole where no write failed
pub record TakesLine (before after : Option (List ℕ)) (rose : Type 0)
    (bytes : List ℕ) : Type 0 where
  pub prefix : TakesPrefix before after bytes
  pub whole : ¬ rose → Appends before after bytes
