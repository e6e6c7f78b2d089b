-- The names of sizes, and their values.
use Rattle.std.specs.Prelude.{ℕ, ◌≡◌, ◌≤◌, ◌*◌, ◌/◌, ◌%◌, List, [], ◌∷◌}
use Rattle.size_arith.specs.declared.names.Name.{Name}

-- a divisor, and a range of its multiples, from 1 to 1048576
pub record IsName (n : Name) : Type 0 where
  pub positive : 1 ≤ n.multiple
  pub multiple_limit : n.multiple ≤ 1048576
  pub from_positive : 1 ≤ n.from
  pub ordered : n.from ≤ n.to
  pub limit : n.to ≤ 1048576
  pub from_divides : n.from % n.multiple ≡ 0
  pub to_divides : n.to % n.multiple ≡ 0

-- each name is such a one
abbrev pub AreNames : List Name → Type 0
AreNames [] = Unit {0}
AreNames (n ∷ ns) = IsName n × AreNames ns

-- the size of this name, which is its divisor times its base name's value, lies in its range
abbrev pub IsAdmissible : Name → ℕ → Type 0
IsAdmissible n y = (n.from ≤ n.multiple * y) × (n.multiple * y ≤ n.to)

-- each base name has a value at which its size is admissible
abbrev pub Admissible : List Name → List ℕ → Type 0
Admissible [] [] = Unit {0}
Admissible [] (y ∷ ys) = ⊥
Admissible (n ∷ ns) [] = ⊥
Admissible (n ∷ ns) (y ∷ ys) = IsAdmissible n y × Admissible ns ys

-- the sizes, where the base names have these values
abbrev pub sizes_at : List Name → List ℕ → List ℕ
sizes_at [] ys = []
sizes_at (n ∷ ns) [] = []
sizes_at (n ∷ ns) (y ∷ ys) = n.multiple * y ∷ sizes_at ns ys

-- the base names' least values
abbrev pub leasts : List Name → List ℕ
leasts [] = []
leasts (n ∷ ns) = n.from / n.multiple ∷ leasts ns

-- the base names' greatest values
abbrev pub greatests : List Name → List ℕ
greatests [] = []
greatests (n ∷ ns) = n.to / n.multiple ∷ greatests ns

-- each of them is at most b
abbrev pub AllUpTo : ℕ → List ℕ → Type 0
AllUpTo b [] = Unit {0}
AllUpTo b (y ∷ ys) = (y ≤ b) × AllUpTo b ys
