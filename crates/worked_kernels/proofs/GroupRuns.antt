-- Worked terms.
use Rattle.std.proofs.Common.{◌≡◌, ℕ, zero, suc, ◌+◌, ◌-◌, ◌*◌, ◌/◌, ◌%◌, ◌<◌, ◌≤◌, ◌^◌, List, [], ◌∷◌, length, Some, Bool, true, false, true≢false, refl, sym, ap, ◌∙◌, arith}
use Rattle.std.specs.Prelude.{slice_index, min, max, map, All, Contains}
use Rattle.std.proofs.Math.Nat.{mod-eq_of_lt, le-max_right, max-le}
use Rattle.std.proofs.lemmas.List.{length-map, get_or-map}
use Rattle.scalar_ops.specs.declared.op.Op.TheVariants.{Add, Sub, Div}
use Rattle.scalar_ops.specs.Operators.{apply_op}
use Rattle.kernel_tree.specs.Formula.{Number, Size, Variable, LoopVariable, Binary, Vars, value, bound_value}
use Rattle.kernel_tree.specs.Code.{Input, Output, Local as LocalArray, Assigns, Stores, End, Performs}
use Rattle.kernel_tree.specs.Launch.{Launch, in_a_row, Cells, item_count, ids_of}
use Rattle.kernel_tree.proofs.Grouping.{whole_in_a_row, flat_in_a_row}
use Rattle.barrier_placement.specs.declared.touches.Touch.{Touch}
use Rattle.barrier_placement.specs.Fencing.{Fencing}
use Rattle.barrier_placement.specs.Needed.{Needed}
use Rattle.lift_ir.specs.Types.{Scalar, ArrayOf, IsPosition}
use Rattle.lift_ir.specs.Terms.{HasType, no_type}
use Rattle.lift_ir.specs.Scalars.{scalars_of, no_scalars, AreLists}
use Rattle.printed_form.specs.MapForms.{all_loops, MakeTurns}
use Rattle.printed_form.specs.Marks.{Spot}
use Rattle.printed_form.specs.Whole.{IsGiven, no_marks, output_marks}
use Rattle.worked_kernels.specs.Tiles.{tile_index, copy_turn, add_turn, phase_code, tile_body, tile_kernel, tile_cells, AreTiles, added, no_barriers, tile_touches, two_barriers}
use Rattle.group_phases.specs.Epochs.{fenced}
use Rattle.group_form.specs.Uses.{phase_count, group_touches}
use Rattle.group_form.specs.Form.{IsOverGroups}
use Rattle.group_form.specs.Theorem.{AlignedNeedNone, IsPrintedOverGroups, NeededKeepApart, SeparatedGroupsKeep, UsesTellBarriers}
use Rattle.worked_kernels.specs.Groups as worked
use Rattle.worked_kernels.specs.Groups.{itself, numbers, input_types, input_marks, input_scalars, use_of, added_tiles, AddedTilesKeep, summed_tiles, tile_place, padded_place, in_window, sum_turn, sum_store, sum_loop, window_turn, windows, sums_body, sums_kernel, AreSums, SummedTilesKeep, SixKeep, half_named_tiles, UnnamedCopiesAreUnused}

loops_make_turns : (l : Launch) → MakeTurns all_loops itself l
loops_make_turns l = record { local = λ n short. tt; once = λ n e. absurd (true≢false (sym e)) }

none : {P : Type 0} → (cs : List Bool) (p : List ℕ) → IsPosition (ArrayOf 0 Scalar) cs p → P
none cs [] x = absurd x
none cs (i ∷ p) x = absurd (let lt = x.0 in omega arith)

module _ (l : Launch) (tiles : ℕ) (xs out : List ℕ) (rest : ℕ) (h : AreTiles l tiles xs out) where
  abbrev n : ℕ
  n = tiles * 2

  abbrev c : Cells
  c = tile_cells xs out rest

  given_at : (m i : ℕ) → m ≡ i → i < n → IsGiven c (Spot (Input 0) m) (slice_index xs i)
  given_at m i e lt = let long = h.long in (omega arith, ap (slice_index xs) e)

  -- the input, by position
  given : (v : ℕ) (cs : List Bool) (p : List ℕ) → IsPosition (input_types n v) cs p → IsGiven c (input_marks n v cs p) (input_scalars xs v cs p)
  given (suc v) cs p x = none cs p x
  given zero cs [] x = absurd x
  given zero (s ∷ cs) (i ∷ p) x = absurd x.1
  given zero [] (i ∷ j ∷ p) x = absurd x.1
  given zero [] (i ∷ []) x = given_at (i * 1 + 0) i (let e : i * 1 + 0 ≡ i = omega arith in e) x.0

  place_is : (k i u : ℕ) (more : List ℕ) (vars : Vars) → i < tiles → u < 4 → value (ids_of l k) (i ∷ u ∷ more) vars tile_place ≡ Some (i * 2 + u)
  place_is k i u more vars il ul =
      let short = h.short in
      let small : (i * 2) % 2 ^ 32 ≡ i * 2 = mod-eq_of_lt (omega arith) in
      let all_small : (i * 2 + u) % 2 ^ 32 ≡ i * 2 + u = mod-eq_of_lt (omega arith) in
      ap (λ z. Some ((z + u) % 2 ^ 32)) small ∙ ap Some all_small

  halved : bound_value l.sizes (Binary Div (Size 0) (Number 2)) ≡ Some tiles
  halved = ap (λ z. Some (slice_index z 0 / 2)) h.sizes ∙ (let e : tiles * 2 / 2 ≡ tiles = omega arith in ap Some e)

  few : item_count l < 2 ^ 31
  few = let e = h.few_items in omega arith

  -- one is added to each

  added_typed : HasType itself (input_types n) no_type (added_tiles tiles) (numbers n)
  added_typed =
      let short = h.short in
      let rows : tiles * 2 / 2 ≡ tiles = omega arith in (
        ArrayOf tiles (numbers 2),
        (
          numbers 2,
          numbers 2,
          omega arith,
          tt,
          (numbers n, refl, (omega arith, omega arith, ap (λ z. ArrayOf z (numbers 2)) (sym rows)), (omega arith, tt), (omega arith, (omega arith, tt)), tt),
          (Scalar, Scalar, omega arith, tt, (refl, tt, (Scalar, Scalar, omega arith, tt, refl, (refl, tt, refl), refl)), (refl, tt, (refl, refl, refl, refl)), refl),
          refl,
        ),
        (omega arith, refl, refl),
        (omega arith, (omega arith, tt)),
        (omega arith, tt),
        tt,
      )

  added_code : IsOverGroups itself all_loops l (input_marks n) no_barriers no_marks (added_tiles tiles) (output_marks (numbers n)) (tile_kernel false no_barriers).code
  added_code = (
    tt,
    (
      Binary Div (Size 0) (Number 2),
      tile_body false no_barriers,
      refl,
      halved,
      (
        tile_body false no_barriers,
        End,
        (λ k i here il own. refl),
        (
          phase_code false 1 End,
          phase_code false 1 End,
          (
            tile_body false no_barriers,
            tile_body false no_barriers,
            refl,
            refl,
            λ k i here il own. (
              Number 2,
              copy_turn,
              refl,
              refl,
              λ u ul mine. (
                Performs (Stores (LocalArray 0) (LoopVariable 1) (Variable 0)) End,
                (Input 0, tile_index, (refl, λ vs. place_is k i u [] vs il (omega arith) ∙ (let e : i * 2 + u ≡ (i * 2 + u) * 1 + 0 = omega arith in ap Some e)), refl),
                (Performs (Stores (LocalArray 0) (LoopVariable 1) (Variable 0)) End, refl, (LocalArray 0, LoopVariable 1, Variable 0, refl, (refl, λ vs. let e : u ≡ u * 1 + 0 = omega arith in ap Some e), refl)),
              ),
            ),
          ),
          refl,
          λ k i here il own. (
            Number 2,
            add_turn false,
            refl,
            refl,
            λ u ul mine. (
              Performs (Stores (Output 0) tile_index (Binary Add (Variable 1) (Number 1))) End,
              (LocalArray 0, LoopVariable 1, (refl, λ vs. let e : u ≡ u * 1 + 0 = omega arith in ap Some e), refl),
              (
                Performs (Stores (Output 0) tile_index (Binary Add (Variable 1) (Number 1))) End,
                (Performs (Stores (Output 0) tile_index (Binary Add (Variable 1) (Number 1))) End, refl, refl),
                (Output 0, tile_index, Binary Add (Variable 1) (Number 1), refl, (refl, λ vs. place_is k i u [] vs il (omega arith) ∙ (let e : i * 2 + u ≡ (i * 2 + u) * 1 + 0 = omega arith in ap Some e)), refl),
              ),
            ),
          ),
        ),
        refl,
      ),
    ),
  )

  added_printed : IsPrintedOverGroups l itself all_loops (input_types n) (input_marks n) (input_scalars xs) no_barriers (added_tiles tiles) (numbers n) (tile_kernel false no_barriers) c
  added_printed = record {
    made = record {
      whole = h.whole;
      flat = λ e. h.flat;
      some = h.some_items;
      few = few;
      typed = added_typed;
      flat_type = tt;
      variables = refl;
      vectors = refl;
      privates = refl;
      outputs = ap (λ z. z ∷ []) (h.out_long ∙ (let e : n ≡ n * 1 = omega arith in e));
      inputs = given;
    };
    makes = loops_make_turns l;
    stands = (tt, (tt, ((tt, tt), tt)));
    code = added_code;
    locals = refl;
  }

  added_listed : AreLists (numbers n) (scalars_of itself (input_scalars xs) no_scalars (added_tiles tiles)) (added false xs ∷ [])
  added_listed zero i lt =
      let all = length-map xs (λ x. (x + 1) % 2 ^ 32) in
      let long = h.long in
      let small : i < length (map (λ x. (x + 1) % 2 ^ 32) xs) = lt in
      let il : i < n = omega arith in
      let e : i ≡ i / 2 * 2 + i % 2 = omega arith in
      ([], i ∷ [], (il, tt), refl, (let z : i * 1 + 0 ≡ i = omega arith in z), get_or-map (λ x. (x + 1) % 2 ^ 32) xs i 0 0 (omega arith) ∙ ap (λ z. (slice_index xs z + 1) % 2 ^ 32) e)
  added_listed (suc a) i lt = absurd (omega arith)

added_needed : AlignedNeedNone → (tiles : ℕ) → Needed (group_touches (added_tiles tiles)) false (phase_count (added_tiles tiles)) no_barriers
added_needed none_needed tiles = none_needed (group_touches (added_tiles tiles)) false 2 all
  where
    all : All (λ x. x.aligned ≡ true) (group_touches (added_tiles tiles))
    all zero d lt = refl
    all (suc zero) d lt = refl
    all (suc (suc zero)) d lt = refl
    all (suc (suc (suc i))) d lt = absurd (omega arith)

pub added_tiles_keep : AlignedNeedNone → SeparatedGroupsKeep ℕ → NeededKeepApart ℕ → AddedTilesKeep
added_tiles_keep none_needed keep apart = record {
  phases = λ tiles. refl;
  touches = λ tiles. refl;
  needed = added_needed none_needed;
  code = refl;
  keeps = λ l tiles xs out rest h.
      let p = added_printed l tiles xs out rest h in
      keep itself all_loops l (input_types (tiles * 2)) (input_marks (tiles * 2)) (input_scalars xs) no_barriers (added_tiles tiles) (numbers (tiles * 2)) (tile_kernel false no_barriers) (tile_cells xs out rest) (added false xs ∷ []) p
      (apart all_loops (added_tiles tiles) no_barriers p.stands (added_needed none_needed tiles)) (ap (λ z. z ∷ []) (length-map xs (λ x. (x + 1) % 2 ^ 32) ∙ h.long ∙ sym h.out_long)) (added_listed l tiles xs out rest h);
}

pub unnamed_copies_are_unused : AlignedNeedNone → UnnamedCopiesAreUnused
unnamed_copies_are_unused none_needed = record { touches = λ tiles. refl; needed = λ tiles. none_needed (group_touches (half_named_tiles tiles)) false 3 (all tiles) }
  where
    all : (tiles : ℕ) → All (λ x. x.aligned ≡ true) (group_touches (half_named_tiles tiles))
    all tiles zero d lt = refl
    all tiles (suc zero) d lt = refl
    all tiles (suc (suc zero)) d lt = refl
    all tiles (suc (suc (suc zero))) d lt = refl
    all tiles (suc (suc (suc (suc i)))) d lt = absurd (omega arith)

-- three are summed

difference : (a b : ℕ) → b ≤ a → a < 2 ^ 32 → apply_op Sub a b ≡ a - b
difference a b le small = omega arith

module _ (l : Launch) (tiles : ℕ) (xs out : List ℕ) (rest : ℕ) (h : AreTiles l tiles xs out) (some : 0 < tiles) (short : tiles < 2 ^ 29) where
  padded_is : (k i u : ℕ) (vars : Vars) → i < tiles → u < 4 → value (ids_of l k) (i ∷ u ∷ []) vars padded_place ≡ Some (min (max (i * 2 + u) 1 - 1) (tiles * 2 - 1) * 1 + 0)
  padded_is k i u vars il ul =
      let m = i * 2 + u in
      let small : (i * 2) % 2 ^ 32 ≡ i * 2 = mod-eq_of_lt (omega arith) in
      let all_small : (i * 2 + u) % 2 ^ 32 ≡ i * 2 + u = mod-eq_of_lt (omega arith) in
      let low : 1 ≤ max m 1 = le-max_right m 1 in
      let high : max m 1 ≤ m + 1 = max-le (omega arith) (omega arith) in
      let lower : apply_op Sub (max m 1) 1 ≡ max m 1 - 1 = difference (max m 1) 1 low (omega arith) in
      let upper : apply_op Sub (tiles * 2) 1 ≡ tiles * 2 - 1 = difference (tiles * 2) 1 (omega arith) (omega arith) in
      let same : min (max m 1 - 1) (tiles * 2 - 1) ≡ min (max m 1 - 1) (tiles * 2 - 1) * 1 + 0 = omega arith in
      ap (λ z. Some (min (apply_op Sub (max ((z + u) % 2 ^ 32) 1) 1) (apply_op Sub (slice_index l.sizes 0) 1))) small
      ∙ ap (λ z. Some (min (apply_op Sub (max z 1) 1) (apply_op Sub (slice_index l.sizes 0) 1))) all_small
      ∙ ap (λ z. Some (min (apply_op Sub (max m 1) 1) (apply_op Sub (slice_index z 0) 1))) h.sizes
      ∙ ap (λ z. Some (min z (apply_op Sub (tiles * 2) 1))) lower
      ∙ ap (λ z. Some (min (max m 1 - 1) z)) upper
      ∙ ap Some same

  window_is : (u t : ℕ) → u < 2 → t < 3 → Some ((u + t) % 2 ^ 32) ≡ Some ((u * 1 + t) * 1 + 0)
  window_is u t ul tl = let e : (u + t) % 2 ^ 32 ≡ u + t = mod-eq_of_lt (omega arith) in let same : u + t ≡ (u * 1 + t) * 1 + 0 = omega arith in ap Some e ∙ ap Some same

  abbrev m : ℕ
  m = tiles * 2

  sums_typed : HasType itself (input_types m) no_type (summed_tiles tiles) (numbers (m * 1))
  sums_typed =
      let rows : (1 + m + 1 - 4) / 2 + 1 ≡ tiles = omega arith in (
        ArrayOf m (numbers 1),
        (
          ArrayOf tiles (ArrayOf 2 (numbers 1)),
          (
            numbers 4,
            ArrayOf 2 (numbers 1),
            omega arith,
            tt,
            (numbers (1 + m + 1), (numbers m, refl, (omega arith, refl, refl), (omega arith, tt), (omega arith, tt), tt), (omega arith, omega arith, omega arith, ap (λ z. ArrayOf z (numbers 4)) (sym rows)), (omega arith, tt), (omega arith, (omega arith, tt)), omega arith),
            (
              numbers 3,
              numbers 1,
              omega arith,
              tt,
              (numbers 4, (refl, tt, (Scalar, Scalar, omega arith, tt, refl, (refl, tt, refl), refl)), (omega arith, omega arith, refl, refl), (omega arith, tt), (omega arith, (omega arith, tt)), omega arith),
              (Scalar, omega arith, tt, tt, refl, refl, (refl, refl, refl, refl), refl),
              refl,
            ),
            refl,
          ),
          (omega arith, refl, refl),
          (omega arith, (omega arith, (omega arith, tt))),
          (omega arith, (omega arith, tt)),
          tt,
        ),
        (omega arith, refl, refl),
        (omega arith, (omega arith, tt)),
        (omega arith, tt),
        tt,
      )

  sums_code : IsOverGroups itself all_loops l (input_marks m) two_barriers no_marks (summed_tiles tiles) (output_marks (numbers (m * 1))) sums_kernel.code
  sums_code = (
    tt,
    (
      tt,
      (
        Binary Div (Size 0) (Number 2),
        sums_body,
        refl,
        halved l tiles xs out rest h,
        (
          sums_body,
          fenced (two_barriers 2) End,
          (λ k i here il own. refl),
          (
            fenced (two_barriers 1) windows,
            windows,
            (
              sums_body,
              sums_body,
              refl,
              refl,
              λ k i here il own. (
                Number 4,
                worked.copy_turn,
                refl,
                refl,
                λ u ul mine. (
                  Performs (Stores (LocalArray 0) (LoopVariable 1) (Variable 0)) End,
                  (Input 0, padded_place, (refl, λ vs. padded_is k i u vs il ul), refl),
                  (Performs (Stores (LocalArray 0) (LoopVariable 1) (Variable 0)) End, refl, (LocalArray 0, LoopVariable 1, Variable 0, refl, (refl, λ vs. let e : u ≡ u * 1 + 0 = omega arith in ap Some e), refl)),
                ),
              ),
            ),
            refl,
            λ k i here il own. (
              Number 2,
              window_turn,
              refl,
              refl,
              λ u ul mine. (
                window_turn,
                refl,
                (
                  window_turn,
                  window_turn,
                  sum_loop,
                  sum_store,
                  refl,
                  refl,
                  (Number 0, refl, refl),
                  (
                    Number 3,
                    sum_turn,
                    refl,
                    refl,
                    λ t tl turn. (
                      Performs (Assigns 1 (Binary Add (Variable 1) (Variable 2))) End,
                      Performs (Assigns 1 (Binary Add (Variable 1) (Variable 2))) End,
                      (LocalArray 0, in_window, (refl, λ vs. window_is u t ul tl), refl),
                      (Performs (Assigns 1 (Binary Add (Variable 1) (Variable 2))) End, refl, refl),
                      (Binary Add (Variable 1) (Variable 2), refl, refl),
                    ),
                  ),
                  (Output 0, tile_place, Variable 1, refl, (refl, λ vs. place_is l tiles xs out rest h k i u [] vs il (omega arith) ∙ (let e : i * 2 + u ≡ ((i * 2 + u) * 1 + 0) * 1 + 0 = omega arith in ap Some e)), refl),
                ),
              ),
            ),
          ),
          refl,
        ),
      ),
    ),
  )

  sums_printed : IsPrintedOverGroups l itself all_loops (input_types m) (input_marks m) (input_scalars xs) two_barriers (summed_tiles tiles) (numbers (m * 1)) sums_kernel (tile_cells xs out rest)
  sums_printed = record {
    made = record {
      whole = h.whole;
      flat = λ e. h.flat;
      some = h.some_items;
      few = few l tiles xs out rest h;
      typed = sums_typed;
      flat_type = tt;
      variables = refl;
      vectors = refl;
      privates = refl;
      outputs = ap (λ z. z ∷ []) (h.out_long ∙ (let e : m ≡ m * 1 * 1 = omega arith in e));
      inputs = given l tiles xs out rest h;
    };
    makes = loops_make_turns l;
    stands = (tt, (tt, (tt, ((tt, tt), tt))));
    code = sums_code;
    locals = refl;
  }

  sums_listed : (sums : List ℕ) → AreSums tiles xs sums → AreLists (numbers (m * 1)) (scalars_of itself (input_scalars xs) no_scalars (summed_tiles tiles)) (sums ∷ [])
  sums_listed sums a zero i lt =
      let long = a.long in
      let il : i < m = omega arith in
      ([], i ∷ [], (omega arith, tt), refl, (let z : i * 1 + 0 ≡ i = omega arith in z), a.each i il)
  sums_listed sums a (suc b) i lt = absurd (omega arith)

-- the last use told again
needed_again : UsesTellBarriers → (x y : Touch) (n : ℕ) (fence : ℕ → Fencing) → Needed (x ∷ y ∷ []) false n fence → Needed (x ∷ y ∷ y ∷ []) false n fence
needed_again told x y n fence h = told (x ∷ y ∷ []) (x ∷ y ∷ y ∷ []) false n fence more less h
  where
    more : (z : Touch) → Contains (x ∷ y ∷ []) z → Contains (x ∷ y ∷ y ∷ []) z
    more z (zero, lt, e) = (0, omega arith, e)
    more z (suc zero, lt, e) = (1, omega arith, e)
    more z (suc (suc i), lt, e) = absurd (omega arith)

    less : (z : Touch) → Contains (x ∷ y ∷ y ∷ []) z → Contains (x ∷ y ∷ []) z
    less z (zero, lt, e) = (0, omega arith, e)
    less z (suc zero, lt, e) = (1, omega arith, e)
    less z (suc (suc zero), lt, e) = (1, omega arith, e)
    less z (suc (suc (suc i)), lt, e) = absurd (omega arith)

summed_needed : UsesTellBarriers → Needed (tile_touches true) false 2 two_barriers → (tiles : ℕ) → Needed (group_touches (summed_tiles tiles)) false (phase_count (summed_tiles tiles)) two_barriers
summed_needed told exchanged tiles = needed_again told (use_of 0 true true 0) (use_of 0 false false 1) 2 two_barriers exchanged

pub summed_tiles_keep : UsesTellBarriers → Needed (tile_touches true) false 2 two_barriers → SeparatedGroupsKeep ℕ → NeededKeepApart ℕ → SummedTilesKeep
summed_tiles_keep told exchanged keep apart = record {
  phases = λ tiles. refl;
  touches = λ tiles. refl;
  needed = summed_needed told exchanged;
  keeps = λ l tiles xs out sums rest h some short a.
      let p = sums_printed l tiles xs out rest h some short in
      keep itself all_loops l (input_types (tiles * 2)) (input_marks (tiles * 2)) (input_scalars xs) two_barriers (summed_tiles tiles) (numbers (tiles * 2 * 1)) sums_kernel (tile_cells xs out rest) (sums ∷ []) p
      (apart all_loops (summed_tiles tiles) two_barriers p.stands (summed_needed told exchanged tiles)) (ap (λ z. z ∷ []) (a.long ∙ sym h.out_long)) (sums_listed l tiles xs out rest h some short sums a);
}

pub six_keep : SummedTilesKeep → SixKeep
six_keep summed out rest long = summed.keeps (in_a_row 2 2 (6 ∷ [])) 3 (1 ∷ 2 ∷ 3 ∷ 4 ∷ 5 ∷ 6 ∷ []) out (4 ∷ 6 ∷ 9 ∷ 12 ∷ 15 ∷ 17 ∷ []) rest
    (record { whole = whole_in_a_row 2 2 (6 ∷ []) (record { positive = omega arith; divides = refl }); flat = flat_in_a_row 2 2 (6 ∷ []); some_items = omega arith; small_groups = omega arith; few_items = omega arith; short = omega arith; sizes = refl; long = refl; out_long = long }) (omega arith) (omega arith)
    (record { long = refl; each = sum_at })
  where
    sum_at : (n : ℕ) → n < 6 → slice_index (4 ∷ 6 ∷ 9 ∷ 12 ∷ 15 ∷ 17 ∷ []) n ≡ scalars_of itself (input_scalars (1 ∷ 2 ∷ 3 ∷ 4 ∷ 5 ∷ 6 ∷ [])) no_scalars (summed_tiles 3) [] (n ∷ [])
    sum_at zero lt = refl
    sum_at (suc zero) lt = refl
    sum_at (suc (suc zero)) lt = refl
    sum_at (suc (suc (suc zero))) lt = refl
    sum_at (suc (suc (suc (suc zero)))) lt = refl
    sum_at (suc (suc (suc (suc (suc zero))))) lt = refl
    sum_at (suc (suc (suc (suc (suc (suc n)))))) lt = absurd (omega arith)
