-- Layouts, case by case: their lengths are within the limits of polynomials, and what is a length by
-- one measure is one by a wider.
use Rattle.std.proofs.Common.{ℕ, subst}
use Rattle.lift_tree.specs.declared.layout.Layout as tree_layout
use Rattle.lift_tree.specs.declared.layout.Layout.TheVariants as layouts
use Rattle.lift_tree.specs.declared.term.UnaryForm.TheVariants as unary
use Rattle.lift_tree.specs.Types as types
use Rattle.lift_tree.specs.Types.{PlainTy}
use Rattle.lift_tree.specs.Typing.{Declared, LayoutRow, constant}
use Rattle.lift_tree.specs.WorkedOut.{product_of}
use Rattle.lift_tree.proofs.LengthsFit.{constant_fits, divisor_fits, quotient_fits}
use Rattle.lift_tree.proofs.WithinLimits.{IsWithin}
use Rattle.lift_ir.specs.AtLaunch.{outer_of}
use Rattle.lift_ir.specs.Layouts.{Layout, Split, Join, Transpose, Reverse, Slide, Pad}
use Rattle.lift_ir.specs.Lowering.{Lowered, Place, lower_unary}
use Rattle.printed_form.specs.Sound.{IsSound, IsSoundLayout}
use Rattle.kernel_premises.specs.Sound.{IsHeld}
use Rattle.kernel_premises.proofs.Types.{held, inner_held, outer_fits, outer_held}

module _ {A : Type 0} (P R : A → Type 0) (wider : (n : A) → P n → R n) where
  pub layout_wider : (l : Layout A) → IsSoundLayout P l → IsSoundLayout R l
  layout_wider (Split m) h = wider m h
  layout_wider (Join m) h = wider m h
  layout_wider Transpose h = tt
  layout_wider (Reverse n) h = wider n h
  layout_wider (Slide s t) h = h
  layout_wider (Pad l r n) h = (h.0, wider n h.1)

-- what a layout is lowered to
module _ (d : Declared) (Declares : ℕ → Type 0) where
  abbrev Sound : Lowered → Type 0
  Sound t = IsSound IsHeld Declares t

  pub sound_layout : (p : Place) (y : tree_layout.Layout) (b a : PlainTy) (t : Lowered) → LayoutRow d.names y b a → IsWithin d.names b → IsWithin d.names a → Sound t → Sound (lower_unary d.names p (unary.Layout y) a b t)
  sound_layout p layouts.Join b a t r x z h = (inner_held b x.lengths, h)
  sound_layout p layouts.Transpose b a t r x z h = (tt, h)
  sound_layout p (layouts.Split fs) b a t r x z h = (inner_held a z.lengths, h)
  sound_layout p layouts.Reverse b a t r x z h = (outer_held b x.lengths, h)
  sound_layout p layouts.AsVector b a t r x z h = (held (constant 4) (constant_fits 4), h)
  sound_layout p layouts.AsScalar b a t r x z h = (held (constant 4) (constant_fits 4), h)
  sound_layout p (layouts.Stride fs) b a t r x z h =
      let step = product_of d.names fs in
      let g = subst (IsWithin d.names) r.2 x in
      let row = divisor_fits d.names step r.1 g.formed.0 r.3 (outer_fits (types.ArrayOf r.0 r.1) g.lengths) in
      (held _ (quotient_fits step (outer_of b) (outer_fits b x.lengths)), (tt, (held _ row, h)))
