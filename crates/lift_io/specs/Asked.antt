-- The reads that files were asked for.
use Rattle.std.specs.Prelude.{◌≡◌, ◌++◌, ℕ, List, Option, Some, None}
use Rattle.std.proofs.Common.{◌∙◌, ap, append_assoc}

-- a read that was asked for: the name, and the most bytes that its text may have
abbrev pub Asked : Type 0
Asked = List ℕ × ℕ

-- between two moments just these reads were asked for, in order, where what was asked is told
abbrev pub Asks : Option (List Asked) → Option (List Asked) → List Asked → Type 0
Asks before None asked = Unit {0}
Asks None (Some after) asked = ⊥
Asks (Some before) (Some after) asked = after ≡ before ++ asked

-- what was asked in one span of time and in the next was asked in both
pub asks-append : (a b c : Option (List Asked)) (first second : List Asked) → Asks a b first
    → Asks b c second → Asks a c (first ++ second)
asks-append a b None first second p q = tt
asks-append a None (Some later) first second p q = absurd q
asks-append None (Some middle) (Some later) first second p q = absurd p
asks-append (Some before) (Some middle) (Some later) first second p q =
    q ∙ ap (λ (asked : List Asked). asked ++ second) p ∙ append_assoc before first second
