-- A node that is put below a child: the forms of as many children do alike.
use Rattle.std.proofs.Common.{◌≡◌, ℕ, zero, suc, List, ◌∷◌, Option, Some, None}
use Rattle.std.specs.Prelude.{option_map}
use Rattle.lift_tree.specs.declared.term.BinaryForm.{BinaryForm}
use Rattle.lift_tree.specs.declared.term.MapKind.{MapKind}
use Rattle.lift_tree.specs.declared.term.FoldKind.{FoldKind}
use Rattle.lift_tree.specs.Tree.{Tree, Binary, Select, Let, Map, Fold}
use Rattle.lift_tree.specs.Places.{with_at}

-- in place of the first child, or of the second, of a binding, and so of another form
let_first : (o : Option Tree) (b a' b' : Tree) (g : Tree → Tree → Tree) → option_map (λ x. Let x b) o ≡ Some (Let a' b') → option_map (λ x. g x b) o ≡ Some (g a' b')
let_first None b a' b' g h = cc
let_first (Some x) b a' b' g h = cc

let_second : (o : Option Tree) (a a' b' : Tree) (g : Tree → Tree → Tree) → option_map (Let a) o ≡ Some (Let a' b') → option_map (g a) o ≡ Some (g a' b')
let_second None a a' b' g h = cc
let_second (Some x) a a' b' g h = cc

-- and of the three of a selection
select_first : (o : Option Tree) (b c a' b' c' : Tree) (g : Tree → Tree → Tree → Tree) → option_map (λ x. Select x b c) o ≡ Some (Select a' b' c') → option_map (λ x. g x b c) o ≡ Some (g a' b' c')
select_first None b c a' b' c' g h = cc
select_first (Some x) b c a' b' c' g h = cc

select_second : (o : Option Tree) (a c a' b' c' : Tree) (g : Tree → Tree → Tree → Tree) → option_map (λ x. Select a x c) o ≡ Some (Select a' b' c') → option_map (λ x. g a x c) o ≡ Some (g a' b' c')
select_second None a c a' b' c' g h = cc
select_second (Some x) a c a' b' c' g h = cc

select_third : (o : Option Tree) (a b a' b' c' : Tree) (g : Tree → Tree → Tree → Tree) → option_map (Select a b) o ≡ Some (Select a' b' c') → option_map (g a b) o ≡ Some (g a' b' c')
select_third None a b a' b' c' g h = cc
select_third (Some x) a b a' b' c' g h = cc

pub in_binary : (f : BinaryForm) (a b a' b' : Tree) (n : ℕ) (is : List ℕ) (s : Tree) → with_at (Let a b) (n ∷ is) s ≡ Some (Let a' b') → with_at (Binary f a b) (n ∷ is) s ≡ Some (Binary f a' b')
in_binary f a b a' b' zero is s h = let_first (with_at a is s) b a' b' (Binary f) h
in_binary f a b a' b' (suc zero) is s h = let_second (with_at b is s) a a' b' (Binary f) h
in_binary f a b a' b' (suc (suc n)) is s h = cc

pub in_map : (k : MapKind) (a b a' b' : Tree) (n : ℕ) (is : List ℕ) (s : Tree) → with_at (Let a b) (n ∷ is) s ≡ Some (Let a' b') → with_at (Map k a b) (n ∷ is) s ≡ Some (Map k a' b')
in_map k a b a' b' zero is s h = let_first (with_at a is s) b a' b' (Map k) h
in_map k a b a' b' (suc zero) is s h = let_second (with_at b is s) a a' b' (Map k) h
in_map k a b a' b' (suc (suc n)) is s h = cc

pub in_fold : (k : FoldKind) (a b c a' b' c' : Tree) (n : ℕ) (is : List ℕ) (s : Tree) → with_at (Select a b c) (n ∷ is) s ≡ Some (Select a' b' c') → with_at (Fold k a b c) (n ∷ is) s ≡ Some (Fold k a' b' c')
in_fold k a b c a' b' c' zero is s h = select_first (with_at a is s) b c a' b' c' (Fold k) h
in_fold k a b c a' b' c' (suc zero) is s h = select_second (with_at b is s) a c a' b' c' (Fold k) h
in_fold k a b c a' b' c' (suc (suc zero)) is s h = select_third (with_at c is s) a b a' b' c' (Fold k) h
in_fold k a b c a' b' c' (suc (suc (suc n))) is s h = cc

-- the forms beside a binding and a selection
pub ruleset other_forms = (in_binary, in_map, in_fold)
