-- The kernels of a term that is cut by `then`.
use Rattle.std.specs.Prelude.{ℕ, ◌+◌, List, [], ◌∷◌, ◌++◌, length}
use Rattle.lift_tree.specs.declared.term.UnaryForm.TheVariants.{Then}
use Rattle.lift_tree.specs.Tree.{Tree, Input, Unary, Binary, Select, Let, Map, Fold}
use Rattle.lift_tree.specs.Types.{PlainTy}
use Rattle.lift_tree.specs.Annotations.{Annotation, Leaf, One, Two, Three}

-- a term with the types of its nodes
pub record Part : Type 0 where
  pub tree : Tree
  pub types : Annotation

-- the part of this term, whose nodes have these types
abbrev pub part : Tree → Annotation → Part
part t n = record { tree = t; types = n }

-- the terms of the kernels so far, in order, and what is left of a term
pub record Cutting : Type 0 where
  pub made : List Part
  pub left : Part

-- how many `then`s have no binder around
abbrev pub cuts : Tree → Annotation → ℕ
cuts (Unary Then t) (One a n) = cuts t n + 1
cuts (Unary f t) (One a n) = cuts t n
cuts (Binary f t u) (Two a n m) = cuts t n + cuts u m
cuts (Select t u v) (Three a n m k) = cuts t n + cuts u m + cuts v k
cuts (Let v b) (Two a n m) = cuts v n
cuts (Map h xs b) (Two a n m) = cuts xs n
cuts (Fold h xs s b) (Three a n m k) = cuts xs n + cuts s m
cuts t n = 0

-- what is left is the term of the next kernel, and is read as the input that this kernel makes
abbrev pub made_next : (inputs : ℕ) → Cutting → PlainTy → Cutting
made_next i c a =
    record { made = c.made ++ (c.left ∷ []); left = part (Input (i + length c.made)) (Leaf a) }

-- each outermost `then` with no binder around is cut off, in postorder: its operand is the
-- term of the next kernel, and it is the input that this kernel makes, behind the
-- program's and those made before
abbrev pub cut_off : (inputs : ℕ) → (made : List Part) → Tree → Annotation → Cutting
cut_off i made (Unary Then t) (One a n) = made_next i (cut_off i made t n) a
cut_off i made (Unary f t) (One a n) =
    let c = cut_off i made t n in
    record { made = c.made; left = part (Unary f c.left.tree) (One a c.left.types) }
cut_off i made (Binary f t u) (Two a n m) =
    let c = cut_off i made t n in
    let d = cut_off i c.made u m in
    record {
      made = d.made;
      left = part (Binary f c.left.tree d.left.tree)
          (Two a c.left.types d.left.types);
    }
cut_off i made (Select t u v) (Three a n m k) =
    let c = cut_off i made t n in
    let d = cut_off i c.made u m in
    let e = cut_off i d.made v k in
    record {
      made = e.made;
      left = part (Select c.left.tree d.left.tree e.left.tree)
          (Three a c.left.types d.left.types e.left.types);
    }
cut_off i made (Let v b) (Two a n m) =
    let c = cut_off i made v n in
    record { made = c.made; left = part (Let c.left.tree b) (Two a c.left.types m) }
cut_off i made (Map h xs b) (Two a n m) =
    let c = cut_off i made xs n in
    record { made = c.made; left = part (Map h c.left.tree b) (Two a c.left.types m) }
cut_off i made (Fold h xs s b) (Three a n m k) =
    let c = cut_off i made xs n in
    let d = cut_off i c.made s m in
    record {
      made = d.made;
      left = part (Fold h c.left.tree d.left.tree b)
          (Three a c.left.types d.left.types k);
    }
cut_off i made t n = record { made = made; left = part t n }

-- the kernels' terms in order, last what is left of the whole
abbrev pub kernel_parts : (inputs : ℕ) → Tree → Annotation → List Part
kernel_parts i t n = let c = cut_off i [] t n in c.made ++ (c.left ∷ [])
