-- Counts that stand still.
use Rattle.std.proofs.Common.{◌≡◌, ℕ, zero, suc, ap, sym, get_or, ◌<◌, ◌+◌, List, [], ◌∷◌, ◌++◌, length, arith, length-append}
use Rattle.std.specs.Prelude.{map}
use Rattle.lift_tree.specs.declared.ty.Ty.{Ty}
use Rattle.lift_tree.specs.Types.{ty_of}
use Rattle.pattern_types.specs.Scopes.{nth_type}
use Rattle.lift_tree.specs.Types.{PlainTy}
use Rattle.lift_tree.specs.Limits.{components}
use Rattle.lift_tree.proofs.Members.{length-map}
use Rattle.lift_tree.specs.Values.{Left, Right}

pub component_counts : (a b : PlainTy) → length (map (λ c. Left ∷ c) (components a) ++ map (λ c. Right ∷ c) (components b)) ≡ length (components a) + length (components b)
component_counts a b = simp (length-append, length-map)

pub nth_is : (types : List Ty) (n : ℕ) (t : Ty) → n < length (map ty_of types) → t ≡ get_or types n t → nth_type (map ty_of types) n ≡ ty_of t
nth_is [] n t l h = absurd (omega arith)
nth_is (u ∷ types) zero t l h = ap ty_of (sym h)
nth_is (u ∷ types) (suc n) t l h = nth_is types n t (omega arith) h
