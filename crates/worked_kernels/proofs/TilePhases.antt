-- The worked tile kernel is printed for its phases, and they have what phases need.
use Rattle.std.proofs.Common.{◌≡◌, ℕ, zero, suc, ◌+◌, ◌*◌, ◌-◌, ◌/◌, ◌%◌, ◌<◌, ◌≤◌, ◌⊎◌, ◌^◌, List, [], ◌∷◌, length, Some, Bool, true, false, true≢false, refl, sym, ap, ◌∙◌, subst, inl, inr, arith}
use Rattle.std.specs.Prelude.{slice_index, not, ◌&&◌, if◌then◌else◌}
use Rattle.std.proofs.Math.Nat.{div-le_self, mod-lt, mod-eq_of_lt, div-eq_of_lt, mul-add-div_right, mul-add-mod_self_right}
use Rattle.std.proofs.lemmas.List.{length-map, get_or-map}
use Rattle.scalar_ops.specs.declared.op.Op.TheVariants.{Add, Sub, Div}
use Rattle.kernel_tree.specs.Formula.{Number, Variable, LoopVariable, Binary, Size, Vars, operate, value, bound_value}
use Rattle.kernel_tree.specs.Code.{Input, Output, Local, Code, End, Performs, Stores}
use Rattle.kernel_tree.specs.Launch.{Launch, Cells, ids_of, item_count, groups_across, group_of, group_count}
use Rattle.kernel_tree.specs.Device.{Cell, GlobalFence, LocalFence, fence_of, row}
use Rattle.kernel_tree.proofs.Grouping.{group_in_launch, in_launch, flat_items, flat_groups, flat_group}
use Rattle.kernel_tree.specs.Strides.{turns_of}
use Rattle.kernel_tree.proofs.Stride.{turn_below, turn_owner, owner_turn, owner_has}
use Rattle.barrier_placement.specs.Fencing.{Fencing}
use Rattle.lift_ir.specs.Types.{Scalar, ArrayOf, IsPosition}
use Rattle.group_phases.specs.Cells.{input_cell, output_cell, local_cell, IsGivenInput, IsOwnOutput}
use Rattle.group_phases.specs.Work.{IsOwnLocal, IsFilledEarlier}
use Rattle.group_phases.specs.Epochs.{fenced}
use Rattle.group_phases.specs.Groups.{GroupOutputs, loop_turns}
use Rattle.group_phases.specs.Phased.{IsGroupKernel}
use Rattle.group_phases.specs.Phases.{PhaseList, turn_of, row_of, cell_of, targets, phase_scalars, work_of, IsPhaseMap, IsPhase, AreRead, IsFillable}
use Rattle.group_phases.specs.Printed.{IsPhased}
use Rattle.worked_kernels.specs.Tiles.{tile_index, copy_turn, read_index, read_place, add_turn, phase_code, tile_body, tile_kernel, writer, reader, tile_cells, exchanged, added, tile_owner, tile_filler, AreTiles, first_index, tile_phases, tile_places, tile_value, tile_list}

-- lengths are numbers
abbrev pub itself : ℕ → ℕ
itself n = n

pub read_below : (nb : Bool) (j : ℕ) → j < 2 → read_place nb j < 2
read_below true j lt = omega arith
read_below false j lt = lt

subtracts : (j : ℕ) → j < 2 → operate Sub 1 j ≡ Some (1 - j)
subtracts zero lt = refl
subtracts (suc zero) lt = refl
subtracts (suc (suc j)) lt = absurd (omega arith)

-- lists

exchanged_long : (xs : List ℕ) → length (exchanged xs) ≡ length xs
exchanged_long [] = refl
exchanged_long (x ∷ []) = refl
exchanged_long (x ∷ y ∷ xs) = ap (λ n. suc (suc n)) (exchanged_long xs)

exchanged_at : (xs : List ℕ) (t j : ℕ) → j < 2 → t * 2 + 1 < length xs → slice_index (exchanged xs) (t * 2 + j) ≡ slice_index xs (t * 2 + (1 - j))
exchanged_at [] t j jl lt = absurd (omega arith)
exchanged_at (x ∷ []) t j jl lt = let z : t * 2 + 1 < 1 = lt in absurd (omega arith)
exchanged_at (x ∷ y ∷ xs) zero zero jl lt = refl
exchanged_at (x ∷ y ∷ xs) zero (suc zero) jl lt = refl
exchanged_at (x ∷ y ∷ xs) zero (suc (suc j)) jl lt = absurd (omega arith)
exchanged_at (x ∷ y ∷ xs) (suc t) j jl lt =
    let a : suc t * 2 + j ≡ suc (suc (t * 2 + j)) = omega arith in
    let b : suc t * 2 + (1 - j) ≡ suc (suc (t * 2 + (1 - j))) = omega arith in
    let low : suc t * 2 + 1 < suc (suc (length xs)) = lt in
    ap (slice_index (y ∷ x ∷ exchanged xs)) a ∙ exchanged_at xs t j jl (omega arith) ∙ sym (ap (slice_index (x ∷ y ∷ xs)) b)

chosen_long : (nb : Bool) (xs : List ℕ) → length (if nb then exchanged xs else xs) ≡ length xs
chosen_long true xs = exchanged_long xs
chosen_long false xs = refl

chosen_at : (nb : Bool) (xs : List ℕ) (t j : ℕ) → j < 2 → t * 2 + 1 < length xs → slice_index (if nb then exchanged xs else xs) (t * 2 + j) ≡ slice_index xs (t * 2 + read_place nb j)
chosen_at true xs t j jl lt = exchanged_at xs t j jl lt
chosen_at false xs t j jl lt = refl

pub added_long : (nb : Bool) (xs : List ℕ) → length (added nb xs) ≡ length xs
added_long nb xs = length-map (if nb then exchanged xs else xs) (λ x. (x + 1) % 2 ^ 32) ∙ chosen_long nb xs

added_at : (nb : Bool) (xs : List ℕ) (t j : ℕ) → j < 2 → t * 2 + 1 < length xs → slice_index (added nb xs) (t * 2 + j) ≡ (slice_index xs (t * 2 + read_place nb j) + 1) % 2 ^ 32
added_at nb xs t j jl lt =
    let n = chosen_long nb xs in
    get_or-map (λ x. (x + 1) % 2 ^ 32) (if nb then exchanged xs else xs) (t * 2 + j) 0 0 (omega arith) ∙ ap (λ x. (x + 1) % 2 ^ 32) (chosen_at nb xs t j jl lt)

-- positions of rows and elements

in_array : (cs : List Bool) (r : List ℕ) → IsPosition (ArrayOf 2 Scalar) cs r → (i : ℕ) × (i < 2) × (cs ≡ []) × (r ≡ i ∷ [])
in_array cs [] x = absurd x
in_array [] (i ∷ []) x = (i, x.0, refl, refl)
in_array [] (i ∷ k ∷ r) x = absurd x.1
in_array (b ∷ cs) (i ∷ r) x = absurd x.1

same_choice : (cs ds : List Bool) (r s : List ℕ) → IsPosition (ArrayOf 2 Scalar) cs r → IsPosition (ArrayOf 2 Scalar) ds s → cs ≡ ds
same_choice cs ds r s x y = (in_array cs r x).2 ∙ sym (in_array ds s y).2

same_place : (cs ds : List Bool) (r s : List ℕ) → IsPosition (ArrayOf 2 Scalar) cs r → IsPosition (ArrayOf 2 Scalar) ds s → first_index r ≡ first_index s → r ≡ s
same_place cs ds r s x y e =
    let a = in_array cs r x in
    let b = in_array ds s y in
    a.3 ∙ ap (λ z. z ∷ []) (sym (ap first_index a.3) ∙ e ∙ ap first_index b.3) ∙ sym b.3

in_none : {P : Type 0} → (cs : List Bool) (r : List ℕ) → IsPosition (ArrayOf 0 Scalar) cs r → P
in_none cs [] x = absurd x
in_none cs (i ∷ r) x = absurd (let lt = x.0 in omega arith)

module _ (l : Launch) (tiles : ℕ) (xs out : List ℕ) (rest : ℕ) (nb : Bool) (h : AreTiles l tiles xs out) (fence : ℕ → Fencing) where
  abbrev c : Cells
  c = tile_cells xs out rest

  abbrev p : PhaseList ℕ
  p = tile_list l nb tiles xs

  abbrev L : ℕ
  L = l.local.0

  abbrev G : ℕ
  G = groups_across l

  positive : 0 < l.local.0
  positive = h.whole.x.positive

  all_groups : group_count l ≡ G
  all_groups = flat_groups l h.flat

  group_below : (j : ℕ) → j < item_count l → group_of l j < G
  group_below j lt = subst (λ z. group_of l j < z) all_groups (group_in_launch l h.whole j lt)

  groups_positive : 0 < G
  groups_positive = let e = group_below 0 h.some_items in omega arith

  groups_small : G ≤ 65536
  groups_small = let e = div-le_self l.global.0 l.local.0 in let f = h.few_items in let g = flat_items l h.flat in omega arith

  local_small : l.local.0 ≤ 256
  local_small = let e : l.local.0 * l.local.1 ≡ l.local.0 * 1 = ap (λ x. l.local.0 * x) h.flat.one_local_row in let s = h.small_groups in omega arith

  group_is : (g r : ℕ) → r < l.local.0 → group_of l (g * l.local.0 + r) ≡ g
  group_is g r lt = flat_group l h.flat h.whole (g * l.local.0 + r) ∙ mul-add-div_right positive g r ∙ (let e : r / l.local.0 ≡ 0 = div-eq_of_lt lt in let q : g + r / l.local.0 ≡ g = omega arith in q)

  local_is : (g r : ℕ) → r < l.local.0 → (g * l.local.0 + r) % l.local.0 ≡ r
  local_is g r lt = mul-add-mod_self_right g l.local.0 r ∙ mod-eq_of_lt lt

  item_is : (j : ℕ) → group_of l j * l.local.0 + j % l.local.0 ≡ j
  item_is j = ap (λ g. g * l.local.0 + j % l.local.0) (flat_group l h.flat h.whole j) ∙ (let e = owner_turn l.local.0 j positive in omega arith)

  turn_is : (g t : ℕ) → g < G → (g + t * G) / G ≡ t
  turn_is g t lt = let q : g + t * G ≡ t * G + g = omega arith in let e : g / G ≡ 0 = div-eq_of_lt lt in ap (λ z. z / G) q ∙ mul-add-div_right groups_positive t g ∙ (let z : t + g / G ≡ t = omega arith in z)

  -- rows

  row_below : (j u : ℕ) → u < turns_of 2 l.local.0 (j % l.local.0) → row_of l j u < 2
  row_below j u lt = turn_below 2 l.local.0 (j % l.local.0) u (mod-lt j positive) lt

  row_owner : (j u : ℕ) → row_of l j u % l.local.0 ≡ j % l.local.0
  row_owner j u = turn_owner l.local.0 (j % l.local.0) u (mod-lt j positive)

  row_is : (j i : ℕ) → i % l.local.0 ≡ j % l.local.0 → i ≡ row_of l j (i / l.local.0)
  row_is j i e = owner_turn l.local.0 i positive ∙ ap (λ z. z + (i / l.local.0) * l.local.0) e

  row_turn : (j i : ℕ) → i < 2 → i % l.local.0 ≡ j % l.local.0 → i / l.local.0 < turns_of 2 l.local.0 (j % l.local.0)
  row_turn j i lt e = subst (λ z. i / l.local.0 < turns_of 2 l.local.0 z) e (owner_has 2 l.local.0 i positive lt)

  -- the cell of element i of a tile, in each phase
  abbrev fills : (t q j i : ℕ) → Cell
  fills t zero j i = local_cell (group_of l j) 0 i
  fills t (suc q) j i = output_cell 0 (turn_of l t j * 2 + i)

  abbrev mine : (t q j : ℕ) → Cell → Type 0
  mine = targets itself l p

  as_row : (t q j : ℕ) (b : Cell) → mine t q j b → (i : ℕ) × (i < 2) × (i % l.local.0 ≡ j % l.local.0) × (b ≡ fills t q j i)
  as_row t zero j b x = (row_of l j x.1, row_below j x.1 x.2, row_owner j x.1, x.6)
  as_row t (suc q) j b x = (row_of l j x.1, row_below j x.1 x.2, row_owner j x.1, x.6)

  of_row : (t q j i : ℕ) → turn_of l t j < tiles → i < 2 → i % l.local.0 ≡ j % l.local.0 → mine t q j (fills t q j i)
  of_row t zero j i il lt e = (il, i / l.local.0, row_turn j i lt e, [], [], tt, ap (λ z. local_cell (group_of l j) 0 z) (row_is j i e))
  of_row t (suc q) j i il lt e = (il, i / l.local.0, row_turn j i lt e, [], [], tt, ap (λ z. output_cell 0 (turn_of l t j * 2 + z)) (row_is j i e))

  -- index expressions

  index_is : (k i j : ℕ) (vars : Vars) → i < tiles → j < 2 → value (ids_of l k) (i ∷ j ∷ []) vars tile_index ≡ Some (i * 2 + j)
  index_is k i j vars il jl =
      let s = h.short in
      let small : (i * 2) % 2 ^ 32 ≡ i * 2 = mod-eq_of_lt (omega arith) in
      let all_small : (i * 2 + j) % 2 ^ 32 ≡ i * 2 + j = mod-eq_of_lt (omega arith) in
      ap (λ z. Some ((z + j) % 2 ^ 32)) small ∙ ap Some all_small

  read_is : (n : Bool) (k i j : ℕ) (vars : Vars) → j < 2 → value (ids_of l k) (i ∷ j ∷ []) vars (read_index n) ≡ Some (read_place n j)
  read_is true k i j vars jl = subtracts j jl
  read_is false k i j vars jl = refl

  -- what is read

  in_xs : (n : ℕ) → n < tiles * 2 → n < length xs
  in_xs n lt = let e = h.long in omega arith

  given : (g t n : ℕ) → n < tiles * 2 → IsGivenInput c (tile_value l nb xs g t) (input_cell 0 n)
  given g t n lt = record { array = 0; index = n; is = refl; within = in_xs n lt; has = refl }

  straight : (n : Bool) (j : ℕ) → (true && not n) ≡ true → read_place n j ≡ j
  straight true j e = absurd (true≢false (sym e))
  straight false j e = refl

  -- the place that the second phase reads was filled in the first
  kept : (t j i : ℕ) → turn_of l t j < tiles → i < 2 → i % l.local.0 ≡ j % l.local.0 → IsFilledEarlier l (work_of itself l p) t 1 j (local_cell (group_of l j) 0 (read_place nb i))
  kept t j i il lt at =
      let r = read_place nb i in
      let q = r % l.local.0 in
      let ql : q < l.local.0 = mod-lt r positive in
      let by = group_of l j * l.local.0 + q in
      let same : group_of l by ≡ group_of l j = group_is (group_of l j) q ql in
      record {
        array = 0;
        index = r;
        is = refl;
        earlier = omega arith;
        by = by;
        by_group = same;
        filled = subst (λ z. mine t 0 by (local_cell z 0 r)) same (of_row t 0 by r (subst (λ z. z + t * G < tiles) (sym same) il) (read_below nb i lt) (sym (local_is (group_of l j) q ql)));
        writer = writer;
        reader = reader nb;
        writer_told = (0, omega arith, refl);
        reader_told = (1, omega arith, refl);
        writer_phase = refl;
        reader_phase = refl;
        one_buffer = refl;
        writer_local = refl;
        reader_local = refl;
        writes = refl;
        aligned = λ a. ap (λ z. group_of l j * l.local.0 + z % l.local.0) (straight nb i a) ∙ ap (λ z. group_of l j * l.local.0 + z) at ∙ item_is j;
      }

  elements : (t q j u : ℕ) → turn_of l t j < tiles → q < 2 → j < item_count l → u < turns_of (tile_phases q).len l.local.0 (j % l.local.0) → AreRead itself (tile_kernel nb fence) l c p t q j (tile_phases q).element (λ cs r. (tile_places nb xs (turn_of l t j) q).marks cs (row_of l j u ∷ r)) (λ cs r. (tile_places nb xs (turn_of l t j) q).scalars cs (row_of l j u ∷ r))
  elements t zero j u il ql jl lt cs r x =
      let b = row_below j u lt in
      let n = turn_of l t j * 2 + row_of l j u in
      let nl : n < tiles * 2 = omega arith in
      (in_xs n nl, tt, inl (given (group_of l j) t n nl), refl)
  elements t (suc zero) j u il ql jl lt cs r x =
      let i = row_of l j u in
      let b = row_below j u lt in
      (read_below nb i b, omega arith, inr (kept t j i il b (row_owner j u)), refl)
  elements t (suc (suc q)) j u il ql jl lt cs r x = absurd (omega arith)

  envs : (t q j v : ℕ) → turn_of l t j < tiles → q < 2 → j < item_count l → AreRead itself (tile_kernel nb fence) l c p t q j ((tile_phases q).types v) ((tile_places nb xs (turn_of l t j) q).env v) ((tile_places nb xs (turn_of l t j) q).sems v)
  envs t zero j v il ql jl cs r x = in_none cs r x
  envs t (suc q) j v il ql jl cs r x = in_none cs r x

  -- what is written

  fillable : (i q : ℕ) → i < tiles → q < 2 → (cs : List Bool) (r : List ℕ) → IsPosition (ArrayOf (tile_phases q).len (tile_phases q).result) cs r → IsFillable (tile_kernel nb fence) c p q ((tile_places nb xs i q).to cs r)
  fillable i zero il ql cs [] x = absurd x
  fillable i zero il ql cs (j ∷ r) x = (x.0, omega arith)
  fillable i (suc q) il ql cs [] x = absurd x
  fillable i (suc q) il ql cs (j ∷ r) x = let jl = x.0 in let e = h.out_long in let nl : i * 2 + j < length out = omega arith in (nl, tt)

  choices : (i q j : ℕ) → i < tiles → q < 2 → (cs ds : List Bool) (r s : List ℕ) → IsPosition (ArrayOf (tile_phases q).len (tile_phases q).result) cs r → IsPosition (ArrayOf (tile_phases q).len (tile_phases q).result) ds s → cell_of l j ((tile_places nb xs i q).to cs r) ≡ cell_of l j ((tile_places nb xs i q).to ds s) → cs ≡ ds
  choices i zero j il ql cs ds r s x y e = same_choice cs ds r s x y
  choices i (suc q) j il ql cs ds r s x y e = same_choice cs ds r s x y

  places : (i q j : ℕ) → i < tiles → q < 2 → (cs ds : List Bool) (r s : List ℕ) → IsPosition (ArrayOf (tile_phases q).len (tile_phases q).result) cs r → IsPosition (ArrayOf (tile_phases q).len (tile_phases q).result) ds s → cell_of l j ((tile_places nb xs i q).to cs r) ≡ cell_of l j ((tile_places nb xs i q).to ds s) → r ≡ s
  places i zero j il ql cs ds r s x y e = same_place cs ds r s x y (ap (λ z. z.index) e)
  places i (suc q) j il ql cs ds r s x y e = same_place cs ds r s x y (let z : i * 2 + first_index r ≡ i * 2 + first_index s = ap (λ z. z.index) e in omega arith)

  valued : (t q j : ℕ) → turn_of l t j < tiles → q < 2 → j < item_count l → (cs : List Bool) (r : List ℕ) → IsPosition (ArrayOf (tile_phases q).len (tile_phases q).result) cs r → tile_value l nb xs (group_of l j) t (cell_of l j ((tile_places nb xs (turn_of l t j) q).to cs r)) ≡ phase_scalars itself l p (turn_of l t j) q cs r
  valued t zero j il ql jl cs [] x = absurd x
  valued t zero j il ql jl cs (i ∷ r) x = refl
  valued t (suc q) j il ql jl cs [] x = absurd x
  valued t (suc q) j il ql jl cs (i ∷ r) x = let e = h.long in added_at nb xs (turn_of l t j) i x.0 (omega arith)

  due : (t q j : ℕ) (b : Cell) → q < 2 → j < item_count l → mine t q j b → IsOwnOutput (tile_owner l) j b ⊎ IsOwnLocal l (work_of itself l p) q j b
  due t zero j b ql lt x =
      let r = as_row t 0 j b x in
      inr (record { array = 0; index = r.0; is = r.3; in_phase = refl; owned = ap (tile_filler l) r.3 ∙ ap (λ z. group_of l j * l.local.0 + z) r.2 ∙ item_is j })
  due t (suc zero) j b ql lt x =
      let r = as_row t 1 j b x in
      let i = r.0 in
      let il = r.1 in
      let n = turn_of l t j * 2 + i in
      let n1 : n / 2 ≡ turn_of l t j = omega arith in
      let n2 : n % 2 ≡ i = omega arith in
      inl (record { array = 0; index = n; is = r.3; owned = ap (λ z. (z % G) * l.local.0 + (n % 2) % l.local.0) n1 ∙ ap (λ z. z * l.local.0 + (n % 2) % l.local.0) (turn_owner G (group_of l j) t (group_below j lt)) ∙ ap (λ z. group_of l j * l.local.0 + z % l.local.0) n2 ∙ ap (λ z. group_of l j * l.local.0 + z) r.2 ∙ item_is j })
  due t (suc (suc q)) j b ql lt x = absurd (omega arith)

  not_local : (a i g m j : ℕ) → output_cell a i ≡ local_cell g m j → ⊥
  not_local a i g m j e = fences_differ (ap (λ z. fence_of z) e)
    where
      fences_differ : GlobalFence ≡ LocalFence → ⊥
      fences_differ q = cc

  differ : (a i t q j u r m : ℕ) → q < 2 → r < 2 → j < item_count l → m < item_count l → mine t q j (output_cell a i) → mine u r m (output_cell a i) → (t ≡ u) × (q ≡ r)
  differ a i t zero j u r m ql rl jl ml x y = absurd (let z = as_row t 0 j (output_cell a i) x in not_local a i (group_of l j) 0 z.0 z.3)
  differ a i t (suc q) j u zero m ql rl jl ml x y = absurd (let z = as_row u 0 m (output_cell a i) y in not_local a i (group_of l m) 0 z.0 z.3)
  differ a i t (suc q) j u (suc r) m ql rl jl ml x y =
      let v = as_row t (suc q) j (output_cell a i) x in
      let w = as_row u (suc r) m (output_cell a i) y in
      let e : i ≡ turn_of l t j * 2 + v.0 = ap (λ z. z.index) v.3 in
      let f : i ≡ turn_of l u m * 2 + w.0 = ap (λ z. z.index) w.3 in
      let vl = v.1 in
      let wl = w.1 in
      let same_tile : turn_of l t j ≡ turn_of l u m = omega arith in
      (sym (turn_is (group_of l j) t (group_below j jl)) ∙ ap (λ z. z / G) same_tile ∙ turn_is (group_of l m) u (group_below m ml), omega arith)

  all : (a i : ℕ) → i < length (row (added nb xs ∷ []) a)
      → (t q : ℕ) × (t < loop_turns l tiles (group_of l (tile_owner l a i))) × (q < 2) × mine t q (tile_owner l a i) (output_cell a i) × (tile_value l nb xs (group_of l (tile_owner l a i)) t (output_cell a i) ≡ slice_index (row (added nb xs ∷ []) a) i)
  all zero i lt =
      let le = h.long in
      let al = added_long nb xs in
      let low : i < length (added nb xs) = lt in
      let il : i / 2 < tiles = omega arith in
      let r = (i % 2) % l.local.0 in
      let rl : r < l.local.0 = mod-lt (i % 2) positive in
      let j = tile_owner l 0 i in
      let g : group_of l j ≡ (i / 2) % G = group_is ((i / 2) % G) r rl in
      let t = (i / 2) / G in
      let e : turn_of l t j ≡ i / 2 = ap (λ z. z + t * G) g ∙ sym (owner_turn G (i / 2) groups_positive) in
      let whole : (i / 2) * 2 + i % 2 ≡ i = omega arith in
      let at : turn_of l t j * 2 + i % 2 ≡ i = ap (λ w. w * 2 + i % 2) e ∙ whole in (
        t,
        1,
        subst (λ z. t < turns_of tiles G z) (sym g) (owner_has tiles G (i / 2) groups_positive il),
        omega arith,
        subst (λ n. mine t 1 j (output_cell 0 n)) at (of_row t 1 j (i % 2) (subst (λ z. z < tiles) (sym e) il) (mod-lt i (omega arith)) (sym (local_is ((i / 2) % G) r rl))),
        refl,
      )
  all (suc a) i lt = absurd (omega arith)

  outputs : GroupOutputs l (tile_owner l) (added nb xs ∷ []) 2 (loop_turns l tiles) (work_of itself l p)
  outputs = record {
    owners_within = λ a i. in_launch l h.whole ((i / 2) % G) (tile_owner l a i) (subst (λ z. (i / 2) % G < z) (sym all_groups) (mod-lt (i / 2) groups_positive)) (group_is ((i / 2) % G) ((i % 2) % l.local.0) (mod-lt (i % 2) positive));
    all = all;
  }

  top_given : (i : ℕ) → i < tiles → (cs : List Bool) (r : List ℕ) → IsPosition (ArrayOf 2 Scalar) cs r → (i * 2 + first_index r < length xs) × (slice_index xs (i * 2 + first_index r) ≡ slice_index xs (i * 2 + first_index r))
  top_given i il cs r x = let a = in_array cs r x in let b : first_index r ≡ a.0 = ap first_index a.3 in let le = h.long in let lt = a.1 in (omega arith, refl)

  rows_fit : (q : ℕ) → q < 2 → (tile_phases q).len + l.local.0 ≤ 2 ^ 32
  rows_fit zero lt = let s = local_small in omega arith
  rows_fit (suc q) lt = let s = local_small in omega arith

  pub phased : IsPhased p itself (tile_kernel nb fence) l c (tile_owner l) (added nb xs ∷ [])
  phased = record {
    room = record {
      whole = h.whole;
      flat = h.flat;
      some = omega arith;
      turns = let g = groups_small in let s = h.short in omega arith;
      once = λ e. absurd (true≢false (sym e));
      rows = rows_fit;
      forms = by_phase (λ q. _) tt tt;
      variables = omega arith;
      fits = by_phase (λ q. _) (omega arith) (omega arith);
      after_top = by_phase (λ q. _) (omega arith) (omega arith);
    };
    types = record {
      top_loads = tt;
      loads = by_phase (λ q. _) tt tt;
      typed = by_phase (λ q. _) (refl, tt, refl) (refl, tt, (refl, refl, refl, refl));
      declares = by_phase (λ q. _) tt tt;
    };
    reads = record {
      given = λ g t a i. refl;
      top = top_given;
      inputs = λ t q j v il ql jl cs r x. in_none cs r x;
      envs = envs;
      elements = elements;
    };
    fills = record { fillable = fillable; choices = choices; places = places; valued = valued };
    writes = record { due = due; differ = differ };
    shape = ap (λ n. n ∷ []) (added_long nb xs ∙ h.long ∙ sym h.out_long);
    outputs = outputs;
  }
    where
      by_phase : (P : ℕ → Type 0) → P 0 → P 1 → (q : ℕ) → q < 2 → P q
      by_phase P a b zero lt = a
      by_phase P a b (suc zero) lt = b
      by_phase P a b (suc (suc q)) lt = absurd (omega arith)

  pub printed : IsGroupKernel (tile_kernel nb fence) l false tiles 2 fence (IsPhase itself l p)
  printed = record {
    bound = Binary Div (Size 0) (Number 2);
    body = tile_body nb fence;
    code = refl;
    bound_is = halved;
    phases = (
      phase_code nb 0 after_first,
      after_first,
      refl,
      (phase_code nb 0 after_first, (λ k i here il own. refl), first),
      (phase_code nb 1 (fenced (fence 2) End), fenced (fence 2) End, refl, second, refl),
    );
  }
    where
      after_first : Code
      after_first = fenced (fence 1) (phase_code nb 1 (fenced (fence 2) End))

      halved : bound_value l.sizes (Binary Div (Size 0) (Number 2)) ≡ Some tiles
      halved = ap (λ ns. Some (slice_index ns 0 / 2)) h.sizes ∙ ap Some (let z : tiles * 2 / 2 ≡ tiles = omega arith in z)

      first : IsPhaseMap itself l p 0 (phase_code nb 0 (fenced (fence 1) (phase_code nb 1 (fenced (fence 2) End)))) (fenced (fence 1) (phase_code nb 1 (fenced (fence 2) End)))
      first k i here il own = (
        Number 2,
        copy_turn,
        refl,
        refl,
        λ j jl mine. (
          Performs (Stores (Local 0) (LoopVariable 1) (Variable 0)) End,
          (Input 0, tile_index, (refl, λ vs. index_is k i j vs il jl), refl),
          (Performs (Stores (Local 0) (LoopVariable 1) (Variable 0)) End, refl, (Local 0, LoopVariable 1, Variable 0, refl, (refl, λ vs. refl), refl)),
        ),
      )

      second : IsPhaseMap itself l p 1 (phase_code nb 1 (fenced (fence 2) End)) (fenced (fence 2) End)
      second k i here il own = (
        Number 2,
        add_turn nb,
        refl,
        refl,
        λ j jl mine. (
          Performs (Stores (Output 0) tile_index (Binary Add (Variable 1) (Number 1))) End,
          (Local 0, read_index nb, (refl, λ vs. read_is nb k i j vs jl), refl),
          (Performs (Stores (Output 0) tile_index (Binary Add (Variable 1) (Number 1))) End, (Performs (Stores (Output 0) tile_index (Binary Add (Variable 1) (Number 1))) End, refl, refl), (Output 0, tile_index, Binary Add (Variable 1) (Number 1), refl, (refl, λ vs. index_is k i j vs il jl), refl)),
        ),
      )
