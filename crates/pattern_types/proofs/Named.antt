-- Names of factors.
use Rattle.std.proofs.Common.{ℕ, zero, suc, ◌<◌, List, [], ◌∷◌, length, get_or, arith}
use Rattle.lift_tree.specs.declared.length.Factor.{Factor}
use Rattle.lift_tree.specs.declared.length.Factor.TheVariants as factor
use Rattle.lift_tree.specs.declared.length.Part.{Part}
use Rattle.lift_tree.specs.Belonging.{AreNamed, IsNamed, PartsAreNamed}

pub named_any : (s : ℕ) (fs : List Factor) → AreNamed s 1 fs → AreNamed s 0 fs
named_any s [] h = tt
named_any s (factor.Number n ∷ fs) h = (omega arith, named_any s fs h.1)
named_any s (factor.Size i ∷ fs) h = (h.0, named_any s fs h.1)

-- one factor of them, by its index
pub named_at : (s k : ℕ) (fs : List Factor) (i : ℕ) (d : Factor) → i < length fs → AreNamed s k fs → IsNamed s k (get_or fs i d)
named_at s k [] i d l h = absurd (omega arith)
named_at s k (f ∷ fs) zero d l h = h.0
named_at s k (f ∷ fs) (suc i) d l h = named_at s k fs i d (omega arith) h.1

-- the factors of one part of them, by its index
pub part_named_at : (s : ℕ) (ps : List Part) (i : ℕ) (d : Part) → i < length ps → PartsAreNamed s ps → AreNamed s 0 (get_or ps i d).product
part_named_at s [] i d l h = absurd (omega arith)
part_named_at s (p ∷ ps) zero d l h = h.0
part_named_at s (p ∷ ps) (suc i) d l h = part_named_at s ps i d (omega arith) h.1
