-- The kernel that is emitted for a term.
use Rattle.std.proofs.Common.{◌≡◌, ◌∙◌, ◌+◌, ◌*◌, ◌<◌, ◌≤◌, ◌^◌, ℕ, List, [], refl, sym, ap, ap₂, subst, arith, Option, pos, negsuc, ℤ, ◌≤ℤ◌}
use Rattle.std.specs.Prelude.{nat_abs}
use Rattle.std.proofs.lemmas.Int.{ints}
use Rattle.std.proofs.lemmas.Nat.{mul-le}
use Rattle.size_arith.specs.declared.names.Name.{Name}
use Rattle.size_arith.specs.Polynomial.{value_at}
use Rattle.size_arith.specs.Ranges.{Admissible, AreNames}
use Rattle.size_arith.proofs.Soundness.{shown_at_least}
use Rattle.lift_tree.specs.Annotations.{Annotation, type_in}
use Rattle.lift_tree.specs.Tree.{Tree}
use Rattle.lift_tree.specs.Types.{PlainTy, U32, U32x4, PairOf, ArrayOf, AreNumbers, HoldsElements, IsFormed, IsOutput}
use Rattle.lift_tree.specs.Typing.{Declared, constant}
use Rattle.lift_tree.proofs.Annotated.{annotated_is_typed}
use Rattle.lift_tree.proofs.Formed.{formed}
use Rattle.lift_tree.proofs.Sizes.{value-constant}
use Rattle.kernel_tree.specs.Code.{Kernel}
use Rattle.lift_ir.specs.AtLaunch.{length_at, natural, shape_of}
use Rattle.lift_ir.specs.Types as ir
use Rattle.lift_ir.specs.Types.{IsShort, measured, size}
use Rattle.lowered_tree.specs.declared.lowered.Lowered.{Lowered}
use Rattle.lowered_tree.specs.declared.lowered.Spaced.{Spaced}
use Rattle.nest_premises.specs.Legal.{IsLegalTerm}
use Rattle.nest_premises.specs.Printable.{CanBeLowered}
use Rattle.value_lists.specs.Lists as lists
use Rattle.value_lists.specs.Lists.{IsSmall}
use Rattle.phase_plan.specs.Plans.{IsTold, declared_in, local_in, tree_in, types_in}
use Rattle.phase_plan.specs.declared.planned.Plan.{Plan}
use Rattle.kernel_emit.specs.Kernels.{IsKernelFor}
use Rattle.kernel_emit.specs.Laws.{PlansGiveKernels}
use Rattle.kernel_emit.specs.Plans.{tidied_for}
use Rattle.compilation.specs.Legal.{IsKernelOf, IsSoundLowered}
use Rattle.compilation.specs.Meets.{CanBeLaidOut}

-- ---- a plan gives its term's kernel

-- what is kept with a term's spaces is the term, and the local size
pub kernel_of_same : (l : Lowered) (local : Option (ℕ × ℕ)) (s : Spaced) → s.mapped.lowered ≡ l → s.mapped.local ≡ local → (k : Kernel) → IsKernelOf s.mapped.lowered s.mapped.local k → IsKernelOf l local k
kernel_of_same l local s same fixed k h =
    subst (λ (o : Option (ℕ × ℕ)). IsKernelOf l o k) fixed (subst (λ (m : Lowered). IsKernelOf m s.mapped.local k) same h)

pub kernel_of_plan : (l : Lowered) → IsSoundLowered l → (local : Option (ℕ × ℕ)) (plan : Plan) → local_in plan ≡ local → plan.spaced.now.mapped.lowered ≡ l → PlansGiveKernels → IsTold plan
    → (k : Kernel) → k ≡ tidied_for plan → IsKernelOf l local k
kernel_of_plan l sound local plan fixed same law told k is =
    kernel_of_same l local plan.spaced.now same fixed k
    (subst (λ (x : Kernel). IsKernelFor (declared_in plan) (local_in plan) (tree_in plan) (types_in plan) x) (sym is)
    (law plan (subst (λ (m : Lowered). IsSoundLowered m) (sym same) sound) told))

-- ---- its output can be laid out

same_width : (a : PlainTy) → lists.width a ≡ ir.width (shape_of a)
same_width U32 = refl
same_width U32x4 = refl
same_width (PairOf a b) = ap₂ (λ m n. m + n) (same_width a) (same_width b)
same_width (ArrayOf a n) = same_width a

same_length : (z : ℤ) → natural z < 2 ^ 32 → nat_abs z ≡ natural z
same_length (pos n) h = refl
same_length (negsuc n) h = absurd (omega (arith, h))

module _ (names : List Name) (ys : List ℕ) (are : AreNames names) (ok : Admissible names ys) where
  abbrev Sized : PlainTy → ir.Ty
  Sized a = measured (length_at ys) (shape_of a)

  not_empty : (z : ℤ) → pos 1 ≤ℤ z → 1 ≤ natural z
  not_empty (pos n) h = omega (arith, ints, h)
  not_empty (negsuc n) h = omega arith

  -- a vector has four scalars
  four_long : length_at ys (constant 4) ≡ 4
  four_long = ap natural (value-constant ys 4)

  some : (a : PlainTy) → IsFormed names a → 1 ≤ size (Sized a)
  some U32 h = omega arith
  some U32x4 h = let four = four_long in omega (arith, four)
  some (PairOf a b) h = omega arith
  some (ArrayOf a n) h = mul-le 1 1 (length_at ys n) (size (Sized a)) (not_empty (value_at ys n) (shown_at_least names ys are ok 1 n h.0)) (some a h.1)

  numbers_small : (count : ℕ) (a : PlainTy) → AreNumbers a → count ≤ 2 ^ 32 → IsSmall ys count a
  numbers_small count U32 e h = h
  numbers_small count U32x4 e h = absurd e
  numbers_small count (PairOf a b) e h = (numbers_small count a e.0 h, numbers_small count b e.1 h)
  numbers_small count (ArrayOf a n) e h = absurd e

  small_of : (count : ℕ) (a : PlainTy) → HoldsElements a → IsFormed names a → IsShort (Sized a) → count * size (Sized a) < 2 ^ 31 → IsSmall ys count a
  small_of count U32 elements formed short small = omega (arith, small)
  small_of count U32x4 elements formed short small =
      let all : count * size (Sized U32x4) ≡ count * 4 = ap (λ n. count * (n * 1)) four_long in
      omega (arith, all, small)
  small_of count (PairOf a b) elements formed short small =
      let few : count ≤ 2 ^ 32 = omega (arith, small) in
      (numbers_small count a elements.0 few, numbers_small count b elements.1 few)
  small_of count (ArrayOf a n) elements formed short small =
      let long = length_at ys n in
      let low : long < 2 ^ 32 = (let h = short.0 in omega (arith, h)) in
      let all : count * (long * size (Sized a)) ≡ count * long * size (Sized a) = omega arith in
      let more : count * long * 1 ≤ count * long * size (Sized a) = mul-le (count * long) 1 (count * long) (size (Sized a)) (omega arith) (some a formed.1) in
      subst (λ m. (m < 2 ^ 32) × (count * m ≤ 2 ^ 32) × IsSmall ys (count * m) a) (sym (same_length (value_at ys n) low))
      (low, omega (arith, all, more, small), small_of (count * long) a elements formed.1 short.1 (omega (arith, all, small)))

holds_elements : (a : PlainTy) → IsOutput a → HoldsElements a
holds_elements U32 h = absurd h
holds_elements U32x4 h = absurd h
holds_elements (PairOf a b) h = absurd h
holds_elements (ArrayOf a n) h = h

pub laid_out : (d : Declared) (t : Tree) (n : Annotation) (k : Kernel) → IsLegalTerm d t n → CanBeLowered d t n → k.outputs ≡ ir.width (shape_of (type_in n)) → k.outputs < 2 ^ 32 → CanBeLaidOut d.names (type_in n)
laid_out d t n k legal lowered told few =
    let own = formed d legal.declared.inputs [] t (type_in n) tt (annotated_is_typed d [] t n legal.nodes) in
    record {
      elements = holds_elements (type_in n) legal.output;
      few = subst (λ w. w < 2 ^ 32) (told ∙ sym (same_width (type_in n))) few;
      small = λ bases ok.
          let fits = (lowered.fits bases ok).0 in
          let room = fits.small in
          small_of d.names bases legal.declared.names ok 1 (type_in n) (holds_elements (type_in n) legal.output) own fits.short (omega (arith, room));
    }
