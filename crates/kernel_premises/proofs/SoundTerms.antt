-- The parts of a term of sound parts are spelled in every kernel that has the program's sizes.
use Rattle.std.proofs.Common.{◌≡◌, ℕ, zero, suc, ◌<◌, List, [], ◌∷◌, length, refl, arith}
use Rattle.size_arith.specs.declared.poly.Monomial.{Monomial}
use Rattle.lift_tree.specs.Lists.{Every}
use Rattle.lift_tree.specs.Types.{PlainTy}
use Rattle.lift_tree.specs.Typing.{Declared}
use Rattle.lift_tree.specs.Annotations.{type_in}
use Rattle.kernel_tree.specs.Code.{Kernel}
use Rattle.lift_ir.specs.Types.{Shape, Scalar, PairOf, ArrayOf}
use Rattle.lift_ir.specs.Terms.{Term, Literal, Bound, Source, Apply, ApplyNumber, ApplyLanes, DivideLanes, Select, Both, Project, Reshape, LetArray, LetElement, Map, Fold, Store, Copy}
use Rattle.lift_ir.specs.AtLaunch.{shape_of}
use Rattle.printed_form.specs.Programs.{input_shape, lowered_root}
use Rattle.printed_form.specs.Sound.{AllLengths, IsSound}
use Rattle.printed_form.specs.KernelGrammar.{IsSourceIn}
use Rattle.length_spelling.specs.Formulas.{length_formula}
use Rattle.length_spelling.specs.Laws.{LengthsAreBounds, length_height}
use Rattle.kernel_premises.specs.Sound.{IsHeld, IsHeldType, IsLengthIn}
use Rattle.kernel_premises.specs.Terms.{SoundPartsAreSpelled}
use Rattle.kernel_premises.proofs.SoundLayouts.{layout_wider}

-- ---- sound by one measure, sound by a wider one
module _ {A : Type 0} (P R : A → Type 0) (wider : (n : A) → P n → R n) where
  lengths_wider : (s : Shape A) → AllLengths P s → AllLengths R s
  lengths_wider Scalar h = tt
  lengths_wider (PairOf a b) h = (lengths_wider a h.0, lengths_wider b h.1)
  lengths_wider (ArrayOf n a) h = (wider n h.0, lengths_wider a h.1)

  module _ (Q S : ℕ → Type 0) (sources : (s : ℕ) → Q s → S s) where
    sound_wider : (t : Term A) → IsSound P Q t → IsSound R S t
    sound_wider (Literal c) h = h
    sound_wider (Bound v) h = tt
    sound_wider (Source s) h = sources s h
    sound_wider (Apply o a b) h = (sound_wider a h.0, sound_wider b h.1)
    sound_wider (ApplyNumber o m a) h = (h.0, h.1, sound_wider a h.2)
    sound_wider (ApplyLanes o l r a b) h = (h.0, sound_wider a h.1, sound_wider b h.2)
    sound_wider (DivideLanes o m a) h = (h.0, h.1, sound_wider a h.2)
    sound_wider (Select c a b) h = (sound_wider c h.0, sound_wider a h.1, sound_wider b h.2)
    sound_wider (Both zips a b) h = (sound_wider a h.0, sound_wider b h.1)
    sound_wider (Project s a) h = sound_wider a h
    sound_wider (Reshape l a) h = (layout_wider P R wider l h.0, sound_wider a h.1)
    sound_wider (LetArray v b) h = (sound_wider v h.0, sound_wider b h.1)
    sound_wider (LetElement ty v b) h = (sound_wider v h.0, sound_wider b h.1)
    sound_wider (Map kind n loads xs b) h = (wider n h.0, sound_wider xs h.1, sound_wider b h.2)
    sound_wider (Fold n loads ty xs s b) h = (wider n h.0, h.1, sound_wider xs h.2, sound_wider s h.3, sound_wider b h.4)
    sound_wider (Store ty a) h = (h.0, sound_wider a h.1)
    sound_wider (Copy space ty a) h = (h.0, h.1, sound_wider a h.2, h.3, h.4)

-- ---- inputs
input_is_held : (tys : List PlainTy) (s : ℕ) → Every IsHeldType tys → s < length tys → (a : PlainTy) × (input_shape tys s ≡ shape_of a) × IsHeldType a
input_is_held [] s h lt = absurd (omega arith)
input_is_held (a ∷ tys) zero h lt = (a, refl, h.0)
input_is_held (a ∷ tys) (suc s) h lt = input_is_held tys s h.1 (omega arith)

-- ---- the whole
module _ (bounds : LengthsAreBounds) (k : Kernel) (d : Declared) (sizes : k.sizes ≡ length d.names) where
  spelled : (p : List Monomial) → IsHeld p → IsLengthIn k d p
  spelled p h = let b = bounds d.names k p sizes h.terms h.degree in record { constant = b.constant; declared = b.declared; low = b.low }

  lengths_are_spelled : (s : Shape (List Monomial)) → AllLengths IsHeld s → AllLengths (IsLengthIn k d) s
  lengths_are_spelled s h = lengths_wider IsHeld (IsLengthIn k d) spelled s h

  source : Every IsHeldType d.inputs → (s : ℕ) → s < length d.inputs → IsSourceIn k (length_formula d.names) length_height d s
  source all s lt =
      let i = input_is_held d.inputs s all lt in
      record {
        declared = lt;
        lengths = rw i.1 (lengths_are_spelled (shape_of i.0) i.2.lengths);
        few = rw i.1 i.2.few;
      }

pub sound_parts_are_spelled : LengthsAreBounds → SoundPartsAreSpelled
sound_parts_are_spelled bounds k d t n sizes sound = record {
  parts = sound_wider IsHeld (IsLengthIn k d) (spelled bounds k d sizes) (λ s. s < length d.inputs) (IsSourceIn k (length_formula d.names) length_height d) (source bounds k d sizes sound.inputs) (lowered_root d.names t n) sound.parts;
  output = lengths_are_spelled bounds k d sizes (shape_of (type_in n)) sound.output.lengths;
  few = sound.output.few;
}
