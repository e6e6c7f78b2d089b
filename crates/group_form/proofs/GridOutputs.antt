-- Where a map over a grid of groups goes: the outputs, laid row-major, seen through layouts.
use Rattle.std.proofs.Common.{◌≡◌, ℕ, ◌+◌, ◌*◌, ◌/◌, ◌%◌, ◌<◌, List, [], ◌∷◌, length, Bool, sym, ap, ◌∙◌, arith}
use Rattle.std.specs.Prelude.{map, replicate, slice_index}
use Rattle.std.proofs.lemmas.Nat.{div-mul-add, mod-mul-add, div-add-mod'}
use Rattle.std.proofs.Math.Nat.{mod-lt}
use Rattle.kernel_tree.specs.Code.{Output, Kernel}
use Rattle.kernel_tree.specs.Launch.{Launch, Cells, IsWhole, item_at, item_count, group_at, groups_across}
use Rattle.kernel_tree.specs.Device.{row}
use Rattle.lift_ir.specs.Types.{Ty, ArrayOf, IsPosition, IsFlat, width, size, component, flat, unflat}
use Rattle.lift_ir.specs.Layouts.{Layout, operand_position, result_position, Reshapes, IsInvertible}
use Rattle.lift_ir.specs.Scalars.{Scalars, AreLists}
use Rattle.lift_ir.proofs.Numbers.{component_below, flat_below, component_same, flat_same, unflat_flat}
use Rattle.lift_ir.proofs.Positions.{operand_in, result_in, result_operand}
use Rattle.printed_form.specs.Marks.{Spot, Marks, laid_in}
use Rattle.printed_form.proofs.Lengths.{row_long}
use Rattle.group_phases.specs.Grids.{Grid, places}
use Rattle.group_phases.proofs.Grids.{pair_below, some_factor}
use Rattle.group_phases.proofs.TurnForms.{below}
use Rattle.group_form.proofs.GridPhased.{GoesOut, group_for}
use Rattle.group_form.proofs.GridStages.{item_in, under, split_up, joined_up}
use Rattle.group_form.proofs.Outputs.{IsLaid, spot_array, spot_index}

-- behind a row
pub laid_in_row : {A : Type 0} (num : A → ℕ) (y : Layout A) (n : ℕ) (u ty whole : Ty) (outer path : List ℕ → List ℕ) → IsInvertible y → Reshapes num y u ty → IsLaid whole (ArrayOf n ty) outer path → IsLaid whole (ArrayOf n u) (λ p. outer (under (result_position num y) p)) (λ p. under (operand_position num y) (path p))
laid_in_row num y n u ty whole outer path t r a = record { inside = inside; returns = returns; covers = covers }
  where
    inside : (cs : List Bool) (p : List ℕ) → IsPosition (ArrayOf n u) cs p → IsPosition whole cs (outer (under (result_position num y) p))
    inside cs [] x = absurd x
    inside cs (i ∷ p) x = a.inside cs (i ∷ result_position num y p) (x.0, (result_in num y u ty cs p t r x.1).0)

    returns : (cs : List Bool) (p : List ℕ) → IsPosition (ArrayOf n u) cs p → under (operand_position num y) (path (outer (under (result_position num y) p))) ≡ p
    returns cs [] x = absurd x
    returns cs (i ∷ p) x = let e = result_in num y u ty cs p t r x.1 in ap (under (operand_position num y)) (a.returns cs (i ∷ result_position num y p) (x.0, e.0)) ∙ ap (λ z. i ∷ z) e.1

    back : (cs : List Bool) (q : List ℕ) → IsPosition (ArrayOf n ty) cs q → IsPosition (ArrayOf n u) cs (under (operand_position num y) q) × (under (result_position num y) (under (operand_position num y) q) ≡ q)
    back cs [] x = absurd x
    back cs (i ∷ q) x = ((x.0, operand_in num y u ty cs q r x.1), ap (λ z. i ∷ z) (result_operand num y u ty cs q t r x.1))

    covers : (cs : List Bool) (p : List ℕ) → IsPosition whole cs p → IsPosition (ArrayOf n u) cs (under (operand_position num y) (path p)) × (outer (under (result_position num y) (under (operand_position num y) (path p))) ≡ p)
    covers cs p x = let e = a.covers cs p x in let z = back cs (path p) e.0 in (z.0, ap outer z.1 ∙ e.1)

-- rows one after another
pub laid_flat : (n m : ℕ) (u whole : Ty) (outer path : List ℕ → List ℕ) → IsLaid whole (ArrayOf n (ArrayOf m u)) outer path → IsLaid whole (ArrayOf (n * m) u) (λ p. outer (split_up m p)) (λ p. joined_up m (path p))
laid_flat n m u whole outer path a = record { inside = λ cs p x. a.inside cs (split_up m p) (apart cs p x).0; returns = λ cs p x. ap (joined_up m) (a.returns cs (split_up m p) (apart cs p x).0) ∙ (apart cs p x).1; covers = λ cs p x. (let e = a.covers cs p x in let z = together cs (path p) e.0 in (z.0, ap outer z.1 ∙ e.1)) }
  where
    apart : (cs : List Bool) (p : List ℕ) → IsPosition (ArrayOf (n * m) u) cs p → IsPosition (ArrayOf n (ArrayOf m u)) cs (split_up m p) × (joined_up m (split_up m p) ≡ p)
    apart cs [] x = absurd x
    apart cs (i ∷ p) x = ((below i (i / m) (i % m) n m (div-add-mod' i m) x.0, (mod-lt i (some_factor i n m x.0), x.1)), ap (λ z. z ∷ p) (div-add-mod' i m))

    together : (cs : List Bool) (q : List ℕ) → IsPosition (ArrayOf n (ArrayOf m u)) cs q → IsPosition (ArrayOf (n * m) u) cs (joined_up m q) × (split_up m (joined_up m q) ≡ q)
    together cs [] x = absurd x
    together cs (r ∷ []) x = absurd x.1
    together cs (r ∷ i ∷ p) x = ((pair_below r i n m x.0 x.1.0, x.1.1), ap (λ z. z ∷ (r * m + i) % m ∷ p) (div-mul-add r m i x.1.0) ∙ ap (λ z. r ∷ z ∷ p) (mod-mul-add r m i x.1.0))

-- the item of a group, by its column and its row
pub item_is : (l : Launch) (whole : IsWhole l) (x y n i : ℕ) → x < groups_across l → item_in l (group_at l x y) n i ≡ item_at l (x * l.local.0 + (i % n) % l.local.0) (y * l.local.1 + (i / n) % l.local.1)
item_is l whole x y n i lt =
    let N = groups_across l in
    let v = (i % n) % l.local.0 in
    let u = (i / n) % l.local.1 in
    let vl : v < l.local.0 = mod-lt (i % n) whole.x.positive in
    let g : group_at l x y ≡ y * N + x = omega arith in
    let gx : group_at l x y % N ≡ x = ap (λ z. z % N) g ∙ mod-mul-add y N x lt in
    let gy : group_at l x y / N ≡ y = ap (λ z. z / N) g ∙ div-mul-add y N x lt in
    let at = λ (a b c d : ℕ). item_at l (a * l.local.0) (b * l.local.1) + item_at l c d in
    ap (λ z. at z (group_at l x y / N) ((u * l.local.0 + v) % l.local.0) ((u * l.local.0 + v) / l.local.0)) gx
    ∙ ap (λ z. at x z ((u * l.local.0 + v) % l.local.0) ((u * l.local.0 + v) / l.local.0)) gy
    ∙ ap (λ z. at x y z ((u * l.local.0 + v) / l.local.0)) (mod-mul-add u l.local.0 v vl)
    ∙ ap (λ z. at x y v z) (div-mul-add u l.local.0 v vl)
    ∙ sums (x * l.local.0) (y * l.local.1) v u l.global.0
  where
    sums : (a b c d g : ℕ) → (a + b * g) + (c + d * g) ≡ (a + c) + (b + d) * g
    sums a b c d g = omega arith

module _ (k : Kernel) (l : Launch) (c : Cells) (lists : List (List ℕ)) (grid : Grid) (result whole : Ty) (outer path : List ℕ → List ℕ) (value : Scalars) (owner_at : List ℕ → ℕ) (columns : ℕ) (place_in : List ℕ → ℕ) (scalars : (turn : ℕ) → Scalars) where
  abbrev pub out : Marks
  out = λ cs p. laid_in Output 0 whole cs (outer p)

  pub record IsGivenOut : Type 0 where
    pub flat_type : IsFlat whole
    pub laid : IsLaid whole (ArrayOf (places grid) result) outer path
    pub outputs : map length c.outs ≡ replicate (width whole) (size whole)
    pub shape : map length lists ≡ map length c.outs
    pub listed : AreLists whole value lists
    pub values : (cs : List Bool) (i : ℕ) (p : List ℕ) → IsPosition (ArrayOf (places grid) result) cs (i ∷ p) → value cs (outer (i ∷ p)) ≡ scalars i cs p
    pub owned : (cs : List Bool) (i : ℕ) (p : List ℕ) → IsPosition (ArrayOf (places grid) result) cs (i ∷ p) → owner_at (outer (i ∷ p)) ≡ item_in l (group_for l grid.columns i) columns (place_in p)
    pub within : (p : List ℕ) → owner_at p < item_count l

  module _ (h : IsGivenOut) where
    same_arrays : (cs ds : List Bool) (p r : List ℕ) → out cs p ≡ out ds r → (component whole cs ≡ component whole ds) × (flat whole (outer p) ≡ flat whole (outer r))
    same_arrays cs ds p r e = (let z : 0 + component whole cs ≡ 0 + component whole ds = ap spot_array e in omega arith, ap spot_index e)

    pub goes_out : GoesOut k l c (λ a n. owner_at (unflat whole n)) lists grid out result columns place_in scalars
    goes_out = record {
      outs = λ cs p x.
          let w = h.laid.inside cs p x in
          let b = component_below whole cs (outer p) w in
          let e : 0 + component whole cs ≡ component whole cs = omega arith in
          let lt = flat_below whole cs (outer p) h.flat_type w in
          let room = row_long c.outs (width whole) (size whole) (component whole cs) h.outputs b in
          (component whole cs, flat whole (outer p), ap (λ z. Spot (Output z) (flat whole (outer p))) e, omega arith);
      choices = λ cs ds p r x y e. component_same whole cs ds (outer p) (outer r) (h.laid.inside cs p x) (h.laid.inside ds r y) (same_arrays cs ds p r e).0;
      places_differ = λ cs ds p r x y e. sym (h.laid.returns cs p x) ∙ ap path (flat_same whole cs ds (outer p) (outer r) h.flat_type (h.laid.inside cs p x) (h.laid.inside ds r y) (same_arrays cs ds p r e).1) ∙ h.laid.returns ds r y;
      owned = λ cs i p a n x e.
          let w = h.laid.inside cs (i ∷ p) x in
          ap (λ z. owner_at (unflat whole z)) (sym (ap spot_index e)) ∙ ap owner_at (unflat_flat whole cs (outer (i ∷ p)) h.flat_type w) ∙ h.owned cs i p x;
      values = λ cs i p a n x e.
          let w = h.laid.inside cs (i ∷ p) x in
          let array : a ≡ component whole cs = (let z : 0 + component whole cs ≡ a = ap spot_array e in omega arith) in
          let index : n ≡ flat whole (outer (i ∷ p)) = sym (ap spot_index e) in
          let b = component_below whole cs (outer (i ∷ p)) w in
          let lt = flat_below whole cs (outer (i ∷ p)) h.flat_type w in
          let room = row_long lists (width whole) (size whole) (component whole cs) (h.shape ∙ h.outputs) b in
          let v = h.listed (component whole cs) (flat whole (outer (i ∷ p))) (omega arith) in
          let ce : v.0 ≡ cs = component_same whole v.0 cs v.1 (outer (i ∷ p)) v.2 w v.3 in
          let pe : v.1 ≡ outer (i ∷ p) = flat_same whole v.0 cs v.1 (outer (i ∷ p)) h.flat_type v.2 w v.4 in
          ap (λ z. slice_index (row lists z) n) array ∙ ap (slice_index (row lists (component whole cs))) index ∙ v.5 ∙ ap (λ z. value z v.1) ce ∙ ap (value cs) pe ∙ h.values cs i p x;
      all = λ a n lt.
          let v = h.listed a n lt in
          let b = h.laid.covers v.0 v.1 v.2 in
          let e : 0 + component whole v.0 ≡ a = (let z = v.3 in omega arith) in
          (v.0, path v.1, b.0, ap (λ z. laid_in Output 0 whole v.0 z) b.1 ∙ ap (λ z. Spot (Output z) (flat whole v.1)) e ∙ ap (Spot (Output a)) v.4);
      owners_within = λ a n. h.within (unflat whole n);
      shape = h.shape;
    }
