-- What files hold, and why one isn't read.
use Rattle.std.specs.Prelude.{◌≡◌, ◌⊎◌, ◌+◌, ◌<◌, ◌≤◌, ℕ, List, [], ◌∷◌, length, take, Option, Some, IfSome}
use Rattle.lift_io.specs.Asked.{Asks}
use Rattle.fault_lines.specs.Failure.{Failure, Memory, Read, TooLong}

-- the text of a name, where it is told
abbrev pub Told : Type 0
Told = List ℕ → Option (List ℕ)

-- a file: its name, and how many bytes it may have
abbrev pub File : Type 0
File = List ℕ × ℕ

-- a file may have this text: the one that is told, where one is, and no longer than it may be
abbrev pub HasText : Told → File → List ℕ → Type 0
HasText told file text =
    IfSome (told file.0) (λ told_text. text ≡ told_text) × (length text ≤ file.1)

-- files may have these texts
abbrev pub AreTexts : Told → List File → List (List ℕ) → Type 0
AreTexts told [] [] = Unit {0}
AreTexts told (file ∷ files) (text ∷ texts) = HasText told file text × AreTexts told files texts
AreTexts told _ _ = ⊥

-- Why a file isn't read, where `rose` says of a name that a read of it failed: it did, or the text
-- is too long, as it shows where it is told.
abbrev pub IsUnread : Told → (List ℕ → Type 0) → File → Failure → Type 0
IsUnread told rose file (Read name) = (name ≡ file.0) × rose file.0
IsUnread told rose file (TooLong count) =
    (count ≡ file.1 + 1) × IfSome (told file.0) (λ text. file.1 < length text)
IsUnread told rose file _ = ⊥

-- the first of the files that isn't read, and why
abbrev pub StopsAtFile : Told → (List ℕ → Type 0) → List File → Failure → Type 0
StopsAtFile told rose [] failure = ⊥
StopsAtFile told rose (file ∷ files) failure =
    IsUnread told rose file failure
    ⊎ ((text : List ℕ) × HasText told file text × StopsAtFile told rose files failure)

-- or for want of memory
abbrev pub AreUnreadFor : Told → (List ℕ → Type 0) → List File → Failure → Type 0
AreUnreadFor told rose files failure = (failure ≡ Memory) ⊎ StopsAtFile told rose files failure

-- these files are told
abbrev pub AllTold : Told → List File → Type 0
AllTold told [] = Unit {0}
AllTold told (file ∷ files) = ((text : List ℕ) × (told file.0 ≡ Some text)) × AllTold told files

-- no read of these files failed
abbrev pub NoneRose : (List ℕ → Type 0) → List File → Type 0
NoneRose rose [] = Unit {0}
NoneRose rose (file ∷ files) = (¬ rose file.0) × NoneRose rose files

-- ---- which files are asked for

-- between two moments just these files were asked for, in order, each once and with its limit
abbrev pub AsksAll : Option (List File) → Option (List File) → List File → Type 0
AsksAll before after files = Asks before after files

-- or just the first of them
abbrev pub AsksFirst : Option (List File) → Option (List File) → List File → Type 0
AsksFirst before after files = (count : ℕ) × Asks before after (take count files)
