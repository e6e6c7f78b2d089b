-- Where a map over groups goes: the outputs, laid row-major, seen through layouts.
use Rattle.std.proofs.Common.{◌≡◌, ℕ, ◌+◌, ◌*◌, ◌%◌, ◌<◌, List, ◌∷◌, length, Bool, refl, sym, ap, ◌∙◌, arith}
use Rattle.std.specs.Prelude.{map, replicate, slice_index}
use Rattle.kernel_tree.specs.Code.{Array, Input, Output, Local as LocalArray, Private, Kernel}
use Rattle.kernel_tree.specs.Launch.{Launch, Cells, item_count, groups_across}
use Rattle.kernel_tree.specs.Device.{row}
use Rattle.lift_ir.specs.Types.{Ty, ArrayOf, IsPosition, IsFlat, width, size, component, flat, unflat}
use Rattle.lift_ir.specs.Layouts.{Layout, operand_position, result_position, Reshapes, IsInvertible}
use Rattle.lift_ir.specs.Scalars.{Scalars, AreLists}
use Rattle.lift_ir.proofs.Numbers.{component_below, flat_below, component_same, flat_same, unflat_flat}
use Rattle.lift_ir.proofs.Positions.{operand_in, result_in, result_operand}
use Rattle.printed_form.specs.Marks.{Mark, Spot, Marks, laid_in}
use Rattle.printed_form.proofs.Lengths.{row_long}
use Rattle.group_form.proofs.Phased.{GoesOut}

-- positions of what goes out and of the outputs' value
pub record IsLaid (whole result : Ty) (outer path : List ℕ → List ℕ) : Type 0 where
  pub inside : (cs : List Bool) (p : List ℕ) → IsPosition result cs p → IsPosition whole cs (outer p)
  pub returns : (cs : List Bool) (p : List ℕ) → IsPosition result cs p → path (outer p) ≡ p
  pub covers : (cs : List Bool) (p : List ℕ) → IsPosition whole cs p → IsPosition result cs (path p) × (outer (path p) ≡ p)

pub laid_under : {A : Type 0} (num : A → ℕ) (y : Layout A) (u ty whole : Ty) (outer path : List ℕ → List ℕ) → IsInvertible y → Reshapes num y u ty → IsLaid whole ty outer path → IsLaid whole u (λ p. outer (result_position num y p)) (λ p. operand_position num y (path p))
laid_under num y u ty whole outer path t r a = record {
  inside = λ cs p x. a.inside cs (result_position num y p) (result_in num y u ty cs p t r x).0;
  returns = λ cs p x. let e = result_in num y u ty cs p t r x in ap (operand_position num y) (a.returns cs (result_position num y p) e.0) ∙ e.1;
  covers = λ cs p x. let e = a.covers cs p x in (operand_in num y u ty cs (path p) r e.0, ap outer (result_operand num y u ty cs (path p) t r e.0) ∙ e.1);
}

pub laid_itself : (ty : Ty) → IsLaid ty ty (λ p. p) (λ p. p)
laid_itself ty = record { inside = λ cs p x. x; returns = λ cs p x. refl; covers = λ cs p x. (x, refl) }

abbrev pub array_number : Array → ℕ
array_number (Input n) = n
array_number (Output n) = n
array_number (LocalArray n) = n
array_number (Private n) = n

abbrev pub spot_array : Mark → ℕ
spot_array (Spot a n) = array_number a
spot_array _ = 0

abbrev pub spot_index : Mark → ℕ
spot_index (Spot a n) = n
spot_index _ = 0

module _ (k : Kernel) (l : Launch) (c : Cells) (lists : List (List ℕ)) (turns : ℕ) (result whole : Ty) (outer path : List ℕ → List ℕ) (value : Scalars) (owner_at : List ℕ → ℕ) (row_at : List ℕ → ℕ) (scalars : (turn : ℕ) → Scalars) where
  abbrev pub out : Marks
  out = λ cs p. laid_in Output 0 whole cs (outer p)

  pub record IsGivenOut : Type 0 where
    pub flat_type : IsFlat whole
    pub laid : IsLaid whole (ArrayOf turns result) outer path
    pub outputs : map length c.outs ≡ replicate (width whole) (size whole)
    pub shape : map length lists ≡ map length c.outs
    pub listed : AreLists whole value lists
    pub values : (cs : List Bool) (i : ℕ) (p : List ℕ) → IsPosition (ArrayOf turns result) cs (i ∷ p) → value cs (outer (i ∷ p)) ≡ scalars i cs p
    pub owned : (i : ℕ) (p : List ℕ) → owner_at (i ∷ p) ≡ (i % groups_across l) * l.local.0 + row_at p % l.local.0
    pub within : (p : List ℕ) → owner_at p < item_count l

  module _ (h : IsGivenOut) where
    same_arrays : (cs ds : List Bool) (p r : List ℕ) → out cs p ≡ out ds r → (component whole cs ≡ component whole ds) × (flat whole (outer p) ≡ flat whole (outer r))
    same_arrays cs ds p r e = (let z : 0 + component whole cs ≡ 0 + component whole ds = ap spot_array e in omega arith, ap spot_index e)

    pub goes_out : GoesOut k l c (λ a n. owner_at (path (unflat whole n))) lists turns out result row_at scalars
    goes_out = record {
      outs = λ cs p x.
          let w = h.laid.inside cs p x in
          let b = component_below whole cs (outer p) w in
          let e : 0 + component whole cs ≡ component whole cs = omega arith in
          let lt = flat_below whole cs (outer p) h.flat_type w in
          let room = row_long c.outs (width whole) (size whole) (component whole cs) h.outputs b in
          (component whole cs, flat whole (outer p), ap (λ z. Spot (Output z) (flat whole (outer p))) e, omega arith);
      choices = λ cs ds p r x y e. component_same whole cs ds (outer p) (outer r) (h.laid.inside cs p x) (h.laid.inside ds r y) (same_arrays cs ds p r e).0;
      places = λ cs ds p r x y e. sym (h.laid.returns cs p x) ∙ ap path (flat_same whole cs ds (outer p) (outer r) h.flat_type (h.laid.inside cs p x) (h.laid.inside ds r y) (same_arrays cs ds p r e).1) ∙ h.laid.returns ds r y;
      owned = λ cs i p a n x e.
          let w = h.laid.inside cs (i ∷ p) x in
          ap (λ z. owner_at (path (unflat whole z))) (sym (ap spot_index e)) ∙ ap (λ z. owner_at (path z)) (unflat_flat whole cs (outer (i ∷ p)) h.flat_type w) ∙ ap owner_at (h.laid.returns cs (i ∷ p) x) ∙ h.owned i p;
      values = λ cs i p a n x e.
          let w = h.laid.inside cs (i ∷ p) x in
          let array : a ≡ component whole cs = (let z : 0 + component whole cs ≡ a = ap spot_array e in omega arith) in
          let index : n ≡ flat whole (outer (i ∷ p)) = sym (ap spot_index e) in
          let b = component_below whole cs (outer (i ∷ p)) w in
          let lt = flat_below whole cs (outer (i ∷ p)) h.flat_type w in
          let room = row_long lists (width whole) (size whole) (component whole cs) (h.shape ∙ h.outputs) b in
          let v = h.listed (component whole cs) (flat whole (outer (i ∷ p))) (omega arith) in
          let ce : v.0 ≡ cs = component_same whole v.0 cs v.1 (outer (i ∷ p)) v.2 w v.3 in
          let pe : v.1 ≡ outer (i ∷ p) = flat_same whole v.0 cs v.1 (outer (i ∷ p)) h.flat_type v.2 w v.4 in
          ap (λ z. slice_index (row lists z) n) array ∙ ap (slice_index (row lists (component whole cs))) index ∙ v.5 ∙ ap (λ z. value z v.1) ce ∙ ap (value cs) pe ∙ h.values cs i p x;
      all = λ a n lt.
          let v = h.listed a n lt in
          let b = h.laid.covers v.0 v.1 v.2 in
          let e : 0 + component whole v.0 ≡ a = (let z = v.3 in omega arith) in
          (v.0, path v.1, b.0, ap (λ z. laid_in Output 0 whole v.0 z) b.1 ∙ ap (λ z. Spot (Output z) (flat whole v.1)) e ∙ ap (Spot (Output a)) v.4);
      owners_within = λ a n. h.within (path (unflat whole n));
      shape = h.shape;
    }
