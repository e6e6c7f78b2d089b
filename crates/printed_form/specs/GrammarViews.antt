-- What stands for values within the kernel grammar: it reads and fills declared arrays, at indices
-- that name what is declared and aren't too high; and vectors lie in no private array.
use Rattle.std.specs.Prelude.{◌≡◌, ℕ, ◌+◌, ◌*◌, ◌<◌, ◌≤◌, Bool, true, List, [], ◌∷◌}
use Rattle.kernel_tree.specs.Formula.{Formula}
use Rattle.kernel_tree.specs.Code.{Kernel}
use Rattle.kernel_tree.specs.Grammar.{is_readable, is_writable, is_shared}
use Rattle.lift_ir.specs.Fours as fours
use Rattle.lift_ir.specs.Fours.{Lie, Loose}
use Rattle.printed_form.specs.Counts.{Count}
use Rattle.printed_form.specs.Views.{Sign, Blank, Held, HeldFour, Read, View}
use Rattle.printed_form.specs.Sound.{IsGood, variables_of}

-- a scalar in no private array
abbrev pub IsSharedSign : Sign → Type 0
IsSharedSign (Read a i) = is_shared a ≡ true
IsSharedSign _ = Unit {0}

-- what lies whole or in fours is in no private array
abbrev pub LiesShared : Lie → View → Type 0
LiesShared fours.Held x = Unit {0}
LiesShared Loose x = Unit {0}
LiesShared _ x = (cs : List Bool) (is : List Formula) → IsSharedSign (x cs is)

-- so does what stands for each binder
abbrev pub AllLieShared : (ℕ → Lie) → (ℕ → View) → Type 0
AllLieShared lies env = (v : ℕ) → LiesShared (lies v) (env v)

module _ (k : Kernel) where
  -- within so many loops, at most so high
  abbrev pub AllGood : (loops high : ℕ) → List Formula → Type 0
  AllGood l h [] = Unit {0}
  AllGood l h (i ∷ is) = IsGood k l h i × AllGood l h is

  -- an expression that may stand for a turn, in so many loops and more
  abbrev pub IsTurnFormula : (loops : ℕ) → Formula → Type 0
  IsTurnFormula l e = (m : ℕ) → l ≤ m → IsGood k m 1 e

  -- one of so many variables, or a cell that is read
  abbrev pub IsGoodSign : (variables : Count) → (loops high : ℕ) → Sign → Type 0
  IsGoodSign n l h Blank = Unit {0}
  IsGoodSign n l h (Held v) = v < n.words
  IsGoodSign n l h (HeldFour v) = v < n.fours
  IsGoodSign n l h (Read a i) = (is_readable k a ≡ true) × IsGood k l h i

  -- a cell that is written
  abbrev pub IsTargetSign : (loops high : ℕ) → Sign → Type 0
  IsTargetSign l h Blank = ⊥
  IsTargetSign l h (Held v) = ⊥
  IsTargetSign l h (HeldFour v) = ⊥
  IsTargetSign l h (Read a i) = (is_writable k a ≡ true) × IsGood k l h i

  -- where lengths are at most S high
  module _ (S : ℕ) where
    -- a view adds at most so much to the height of its indices, from so many loops on
    abbrev pub IsGoodView : (variables : Count) → (loops more : ℕ) → View → Type 0
    IsGoodView n L H v =
        (l h : ℕ) (cs : List Bool) (is : List Formula) → L ≤ l → S ≤ h → AllGood l h is
        → IsGoodSign n l (h + H) (v cs is)

    -- so does a view that tells where to write
    abbrev pub IsTarget : (loops more : ℕ) → View → Type 0
    IsTarget L H v =
        (l h : ℕ) (cs : List Bool) (is : List Formula) → L ≤ l → S ≤ h → AllGood l h is
        → IsTargetSign l (h + H) (v cs is)

    -- a view reads within the grammar, in so many loops and through so many layouts
    abbrev pub ReadsWithin : (loops layouts : ℕ) → View → Type 0
    ReadsWithin l h x = IsGoodView (variables_of k) l (10 + 3 * h) x

    -- or tells where to write
    abbrev pub FillsWithin : (loops layouts : ℕ) → View → Type 0
    FillsWithin l h w = IsTarget l (10 + 3 * h) w

    -- what stands for each binder reads so
    abbrev pub AllReadWithin : (loops : ℕ) → (layouts : ℕ → ℕ) → (ℕ → View) → Type 0
    AllReadWithin l g env = (v : ℕ) → ReadsWithin l (g v) (env v)
