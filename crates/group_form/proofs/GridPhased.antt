-- Stages of two dimensions that read what they may are phases of a map over a grid of groups.
use Rattle.std.proofs.Common.{◌≡◌, ℕ, zero, suc, ◌+◌, ◌-◌, ◌*◌, ◌/◌, ◌%◌, ◌<◌, ◌≤◌, ◌⊎◌, ◌^◌, List, [], ◌∷◌, length, Bool, true, false, refl, sym, ap, ◌∙◌, subst, ⊎_elim, inl, inr, arith}
use Rattle.std.specs.Prelude.{map, slice_index, Contains}
use Rattle.std.proofs.Math.Nat.{mod-lt, mod-add-div', mul-le-mul_right}
use Rattle.std.proofs.lemmas.Nat.{div-mul-add, mod-mul-add}
use Rattle.std.proofs.lemmas.Bool.{cases_lt}
use Rattle.kernel_tree.specs.Code.{Array, Input, Output, Local as LocalArray, Private, Kernel}
use Rattle.kernel_tree.specs.Launch.{Launch, Cells, IsWhole, item_count, group_count, group_size, group_at, groups_across, groups_down, group_of, ids_of}
use Rattle.kernel_tree.specs.Device.{Cell, LocalFence, GlobalFence, fence_of, length_in, row}
use Rattle.kernel_tree.specs.Faults.{Among}
use Rattle.kernel_tree.specs.Numbering.{Members, member_at, number_in_group}
use Rattle.kernel_tree.proofs.Grouping.{group_in_launch, members}
use Rattle.kernel_tree.specs.Strides.{turns_of}
use Rattle.kernel_tree.proofs.Stride.{turn_below}
use Rattle.lift_ir.specs.Types.{Ty, ArrayOf, IsPosition, IsFlat, width, component, flat, unflat}
use Rattle.lift_ir.specs.Terms.{LoadsScalars}
use Rattle.lift_ir.specs.Scalars.{Scalars}
use Rattle.lift_ir.proofs.Numbers.{component_below, flat_below, component_same, flat_same, unflat_flat}
use Rattle.printed_form.specs.Counts.{AtMost}
use Rattle.printed_form.specs.Marks.{Mark, Nowhere, Register, Lane, Spot, Marks}
use Rattle.printed_form.specs.Whole.{IsGiven}
use Rattle.printed_form.proofs.Loops.{rest_is}
use Rattle.group_phases.specs.Cells.{output_cell, local_cell, IsOwnOutput}
use Rattle.group_phases.specs.GridPhases.{GridList, group_turns, turn_at, places_of, place_at, grid_scalars, targets, work_of, IsHeldScalar, IsRead, NothingHeld, IsHeldInRow, IsFillable}
use Rattle.group_phases.specs.GridPrinted.{IsGridPhased}
use Rattle.group_phases.specs.Grids.{Grid, IsWalk, IsOn, places, rows_taken, columns_taken, place_taken, group_walk, local_walk}
use Rattle.group_phases.specs.Groups.{declared}
use Rattle.group_phases.specs.Phases.{cell_of}
use Rattle.group_phases.specs.Strides.{MakesTurnsBy}
use Rattle.group_phases.specs.Work.{IsOwnLocal}
use Rattle.group_phases.proofs.GridKernel.{group_walks}
use Rattle.group_phases.proofs.Grids.{pair_below, some_factor, place_below, place_row, taken_on, taken_once, on_taken}
use Rattle.group_form.specs.Body.{destination_marks, locals_end, choices_at, first_index, held_choices}
use Rattle.group_form.specs.GridTheorem.{MakeGridTurns}
use Rattle.group_form.specs.Uses.{Use, Destination, Locals, Outputs, touch_of, numbered}
use Rattle.group_form.specs.Whole.{destination_type}
use Rattle.group_form.proofs.GridCounters.{Chained, first_is, home_at, in_order, among_numbered}
use Rattle.group_form.proofs.GridSight as sight
use Rattle.group_form.proofs.GridSight.{ReadAt}
use Rattle.group_form.proofs.GridStages as stages
use Rattle.group_form.proofs.GridStages.{Stage, GridBody, stage_at, place_of, result_type, value_in, home_in, held_position, item_in, uses_of, grid_list}
use Rattle.group_form.proofs.Lists.{contained}
use Rattle.group_form.proofs.Phased.{choices_component}
use Rattle.group_form.proofs.Seen.{IsTurnScalar}
use Rattle.group_form.proofs.Uses.{reading}

-- of a map of one turn at most a group has one at most
turns_few : (n g i : ℕ) → n ≤ 1 → turns_of n g i ≤ 1
turns_few n zero i le = omega arith
turns_few n (suc g) i le = ⊎_elim (λ more. absurd (let two = mul-le-mul_right {m = 2} {n = turns_of n (suc g) i} (suc g) more in omega arith)) (λ few. few) (cases_lt 1 (turns_of n (suc g) i))

both_few : (a b : ℕ) → a ≤ 1 → b ≤ 1 → a * b ≤ 1
both_few a b le le2 = let e = mul-le-mul_right {m = a} {n = 1} b le in omega arith

-- the item of a group that takes a place

module _ (l : Launch) (whole : IsWhole l) (g : ℕ) (here : g < group_count l) where
  abbrev ms : Members l g
  ms = members l whole g here

  module _ (n i : ℕ) where
    abbrev number : ℕ
    number = ((i / n) % l.local.1) * l.local.0 + (i % n) % l.local.0

    number_in : number < group_size l
    number_in = let z = pair_below ((i / n) % l.local.1) ((i % n) % l.local.0) l.local.1 l.local.0 (mod-lt (i / n) whole.y.positive) (mod-lt (i % n) whole.x.positive) in omega arith

    item_group : group_of l (item_in l g n i) ≡ g
    item_group = ms.inside number number_in

    item_number : number ≡ number_in_group l (item_in l g n i)
    item_number = let e = ms.every (item_in l g n i) item_group in ms.differ number (number_in_group l (item_in l g n i)) number_in e.0 e.1

    abbrev lx : ℕ
    lx = (ids_of l (item_in l g n i)).x.local_id

    abbrev ly : ℕ
    ly = (ids_of l (item_in l g n i)).y.local_id

    parts : number ≡ ly * l.local.0 + lx
    parts = let e = item_number in omega arith

    item_column : (i % n) % l.local.0 ≡ lx
    item_column = sym (mod-mul-add ((i / n) % l.local.1) l.local.0 ((i % n) % l.local.0) (mod-lt (i % n) whole.x.positive)) ∙ ap (λ z. z % l.local.0) parts ∙ mod-mul-add ly l.local.0 lx (mod-lt (ids_of l (item_in l g n i)).x.global_id whole.x.positive)

    item_row : (i / n) % l.local.1 ≡ ly
    item_row = sym (div-mul-add ((i / n) % l.local.1) l.local.0 ((i % n) % l.local.0) (mod-lt (i % n) whole.x.positive)) ∙ ap (λ z. z / l.local.0) parts ∙ div-mul-add ly l.local.0 lx (mod-lt (ids_of l (item_in l g n i)).x.global_id whole.x.positive)

    -- it is the only one
    item_same : (j : ℕ) → group_of l j ≡ g → (i / n) % l.local.1 ≡ (ids_of l j).y.local_id → (i % n) % l.local.0 ≡ (ids_of l j).x.local_id → item_in l g n i ≡ j
    item_same j q r c =
        let e : number ≡ number_in_group l j = ap (λ z. z * l.local.0 + (i % n) % l.local.0) r ∙ ap (λ z. (ids_of l j).y.local_id * l.local.0 + z) c ∙ (let z : (ids_of l j).y.local_id * l.local.0 + (ids_of l j).x.local_id ≡ number_in_group l j = omega arith in z) in
        ap (member_at l g) e ∙ sym (ms.every j q).1

-- the group that takes a turn
abbrev pub group_for : Launch → (columns turn : ℕ) → ℕ
group_for l n i = group_at l ((i % n) % groups_across l) ((i / n) % groups_down l)

abbrev array_number : Array → ℕ
array_number (Input n) = n
array_number (Output n) = n
array_number (LocalArray n) = n
array_number (Private n) = n

not_local : (a i g m j : ℕ) → output_cell a i ≡ local_cell g m j → ⊥
not_local a i g m j e = fences_differ (ap (λ z. fence_of z) e)
  where
    fences_differ : GlobalFence ≡ LocalFence → ⊥
    fences_differ q = cc

by_destination : {P : Type 0} → (d : Destination) → ((f : ℕ) (ty : Ty) → d ≡ Locals f ty → P) → (d ≡ Outputs → P) → P
by_destination (Locals f ty) local output = local f ty refl
by_destination Outputs local output = output refl

-- where a map over a grid of groups goes: each scalar has an output cell of its own, which is to
-- hold it, and its owner is the item that computes it
pub record GoesOut (k : Kernel) (l : Launch) (c : Cells) (owner : (array index : ℕ) → ℕ) (wanted : List (List ℕ)) (grid : Grid) (out : Marks) (result : Ty) (columns : ℕ) (place_in : List ℕ → ℕ) (scalars : (turn : ℕ) → Scalars) : Type 0 where
  pub outs : (cs : List Bool) (p : List ℕ) → IsPosition (ArrayOf (places grid) result) cs p → (a n : ℕ) × (out cs p ≡ Spot (Output a) n) × (n < length_in k c (Output a))
  pub choices : (cs ds : List Bool) (p r : List ℕ) → IsPosition (ArrayOf (places grid) result) cs p → IsPosition (ArrayOf (places grid) result) ds r → out cs p ≡ out ds r → cs ≡ ds
  pub places_differ : (cs ds : List Bool) (p r : List ℕ) → IsPosition (ArrayOf (places grid) result) cs p → IsPosition (ArrayOf (places grid) result) ds r → out cs p ≡ out ds r → p ≡ r
  pub owned : (cs : List Bool) (i : ℕ) (p : List ℕ) (a n : ℕ) → IsPosition (ArrayOf (places grid) result) cs (i ∷ p) → out cs (i ∷ p) ≡ Spot (Output a) n → owner a n ≡ item_in l (group_for l grid.columns i) columns (place_in p)
  pub values : (cs : List Bool) (i : ℕ) (p : List ℕ) (a n : ℕ) → IsPosition (ArrayOf (places grid) result) cs (i ∷ p) → out cs (i ∷ p) ≡ Spot (Output a) n → slice_index (row wanted a) n ≡ scalars i cs p
  pub all : (a n : ℕ) → n < length (row wanted a) → (cs : List Bool) × (p : List ℕ) × IsPosition (ArrayOf (places grid) result) cs p × (out cs p ≡ Spot (Output a) n)
  pub owners_within : (a n : ℕ) → owner a n < item_count l
  pub shape : map length wanted ≡ map length c.outs

module _ {A : Type 0} (num : A → ℕ) (k : Kernel) (l : Launch) (c : Cells) (owner : (array index : ℕ) → ℕ) (wanted : List (List ℕ)) (b : GridBody A) where
  -- what stages need
  pub record AreStages (few_rows : l.local.1 ≤ 2 ^ 31) (few : l.local.0 ≤ 2 ^ 31) (makes : MakeGridTurns b.forms num l) (given : (v : ℕ) (cs : List Bool) (p : List ℕ) → IsPosition (b.src v) cs p → IsGiven c (b.ins v cs p) (b.sources v cs p)) : Type 0 where
    pub whole : IsWhole l
    pub rows : b.grid.rows + groups_down l ≤ 2 ^ 32
    pub columns : b.grid.columns + groups_across l ≤ 2 ^ 32
    pub rows_made : MakesTurnsBy b.rows_form b.grid.rows (groups_down l)
    pub columns_made : MakesTurnsBy b.columns_form b.grid.columns (groups_across l)
    pub once : b.once ≡ true → (b.grid.rows ≤ 1) × (b.grid.columns ≤ 1)
    pub room : AtMost b.variables (declared k)
    pub row_top_loads : LoadsScalars b.row_top.loads b.row_top.type
    pub top_loads : LoadsScalars b.top.loads b.top.type
    pub row_top_given : (r : ℕ) → r < b.grid.rows → (cs : List Bool) (p : List ℕ) → IsPosition b.row_top.type cs p → IsGiven c (b.row_top.marks r cs p) (b.row_top.scalars r cs p)
    pub top_given : (i : ℕ) → i < places b.grid → (cs : List Bool) (p : List ℕ) → IsPosition b.top.type cs p → IsGiven c (b.top.marks i cs p) (b.top.scalars i cs p) ⊎ IsTurnScalar b.row_top (i / b.grid.columns) (b.top.marks i cs p) (b.top.scalars i cs p)
    pub stages : (q : ℕ) → q < length b.stages → sight.IsStage num (length_in k c) l few_rows few c b makes given q (stage_at b.stages q)
    pub chained : Chained 0 b.stages
    pub last : ℕ
    pub last_is : suc last ≡ length b.stages
    pub gives : (stage_at b.stages last).destination ≡ Outputs
    pub out : GoesOut k l c owner wanted b.grid b.out b.result (stage_at b.stages last).nest.grid.columns (λ p. first_index ((stage_at b.stages last).path p)) (λ i cs p. value_in num b.sources b.out i (stage_at b.stages last) cs ((stage_at b.stages last).path p))

  abbrev pub p : GridList A
  p = grid_list num l c wanted b

  abbrev n : ℕ
  n = length b.stages

  abbrev stage : ℕ → Stage A
  stage q = stage_at b.stages q

  abbrev home : ℕ → ℕ
  home a = home_in b.stages a

  abbrev content : (g t : ℕ) → Array → ℕ → ℕ
  content = stages.content num l c wanted b

  abbrev filler : Cell → ℕ
  filler = stages.filler num l c wanted b

  abbrev mine : (t q j : ℕ) → Cell → Type 0
  mine = targets num l p

  abbrev to : (i q : ℕ) → Marks
  to i q = (place_of b.out i (stage q)).to

  abbrev at_turn : (t j : ℕ) → ℕ
  at_turn t j = turn_at l p t j

  abbrev turns : ℕ → ℕ
  turns j = group_turns l p (group_of l j)

  module _ (few_rows : l.local.1 ≤ 2 ^ 31) (few : l.local.0 ≤ 2 ^ 31) (makes : MakeGridTurns b.forms num l) (given : (v : ℕ) (cs : List Bool) (p : List ℕ) → IsPosition (b.src v) cs p → IsGiven c (b.ins v cs p) (b.sources v cs p)) (h : AreStages few_rows few makes given) where
    walks : (j : ℕ) → IsWalk (local_walk l j)
    walks j = record { row = mod-lt (ids_of l j).y.global_id h.whole.y.positive; column = mod-lt (ids_of l j).x.global_id h.whole.x.positive }

    in_launch : (j : ℕ) → j < item_count l → group_of l j < group_count l
    in_launch j jl = group_in_launch l h.whole j jl

    turn_in : (t j : ℕ) → j < item_count l → t < turns j → at_turn t j < places b.grid
    turn_in t j jl tl = place_below b.grid (group_walk l (group_of l j)) (group_walks l h.whole j jl) t tl

    place_in : (q j u : ℕ) → u < places_of l p q j → place_at l p q j u < places (stage q).nest.grid
    place_in q j u ul = place_below (stage q).nest.grid (local_walk l j) (walks j) u ul

    -- the item of its group that takes a place is the one that lies on it
    taker : (q j i : ℕ) → j < item_count l → IsOn (stage q).nest.grid (local_walk l j) i → item_in l (group_of l j) (stage q).nest.grid.columns i ≡ j
    taker q j i jl on = item_same l h.whole (group_of l j) (in_launch j jl) (stage q).nest.grid.columns i j refl on.row on.column

    -- an item that takes it lies on it
    taker_on : (q g i : ℕ) → g < group_count l → IsOn (stage q).nest.grid (local_walk l (item_in l g (stage q).nest.grid.columns i)) i
    taker_on q g i gl = record { row = item_row l h.whole g gl (stage q).nest.grid.columns i; column = item_column l h.whole g gl (stage q).nest.grid.columns i }

    -- the group of an item at its turn
    group_at_turn : (t j : ℕ) → j < item_count l → t < turns j → group_for l b.grid.columns (at_turn t j) ≡ group_of l j
    group_at_turn t j jl tl =
        let on = taken_on b.grid (group_walk l (group_of l j)) (group_walks l h.whole j jl) t tl in
        ap (λ z. z + ((at_turn t j / b.grid.columns) % groups_down l) * groups_across l) on.column ∙ ap (λ z. group_of l j % groups_across l + z * groups_across l) on.row ∙ mod-add-div' (group_of l j) (groups_across l)

    -- the cells of a phase that fills local arrays
    copy_cell : (q j i f : ℕ) (ty : Ty) (cs : List Bool) (r : List ℕ) → (stage q).destination ≡ Locals f ty → cell_of l j (to i q cs r) ≡ local_cell (group_of l j) (f + component ty cs) (flat ty ((stage q).outer r))
    copy_cell q j i f ty cs r e = ap (λ z. cell_of l j (destination_marks b.out i z cs ((stage q).outer r))) e

    out_cell : (q j i : ℕ) (cs : List Bool) (r : List ℕ) → (stage q).destination ≡ Outputs → cell_of l j (to i q cs r) ≡ cell_of l j (b.out cs (i ∷ (stage q).outer r))
    out_cell q j i cs r e = ap (λ z. cell_of l j (destination_marks b.out i z cs ((stage q).outer r))) e

    copy_inside : (q f : ℕ) (ty : Ty) (cs : List Bool) (r : List ℕ) → q < n → (stage q).destination ≡ Locals f ty → IsPosition (result_type (stage q)) cs r → IsPosition ty cs ((stage q).outer r)
    copy_inside q f ty cs r ql e x = subst (λ z. IsPosition (destination_type b.result z) cs ((stage q).outer r)) e ((h.stages q ql).aimed.inside cs r x)

    out_inside : (q : ℕ) (cs : List Bool) (r : List ℕ) → q < n → (stage q).destination ≡ Outputs → IsPosition (result_type (stage q)) cs r → IsPosition b.result cs ((stage q).outer r)
    out_inside q cs r ql e x = subst (λ z. IsPosition (destination_type b.result z) cs ((stage q).outer r)) e ((h.stages q ql).aimed.inside cs r x)

    flat_type : (q f : ℕ) (ty : Ty) → q < n → (stage q).destination ≡ Locals f ty → IsFlat ty
    flat_type q f ty ql e = ((h.stages q ql).holds f ty e).0

    home_is : (q f a : ℕ) (ty : Ty) → q < n → (stage q).destination ≡ Locals f ty → a < width ty → home (f + a) ≡ q
    home_is q f a ty ql e al = home_at 0 q f a ty b.stages h.chained ql e al

    -- the position that a cell holds
    copy_decodes : (q f : ℕ) (ty : Ty) (cs : List Bool) (r : List ℕ) (P : Stage A → List Bool → List ℕ → Type 0) → q < n → (stage q).destination ≡ Locals f ty → IsPosition (result_type (stage q)) cs r → P (stage q) cs r
        → P (stage (home (f + component ty cs))) (held_choices (stage (home (f + component ty cs))).destination (f + component ty cs)) (held_position (stage (home (f + component ty cs))) (stage (home (f + component ty cs))).destination (flat ty ((stage q).outer r)))
    copy_decodes q f ty cs r P ql e x y =
        let a = f + component ty cs in
        let i = flat ty ((stage q).outer r) in
        let w = copy_inside q f ty cs r ql e x in
        let hb : home a ≡ q = home_is q f (component ty cs) ty ql e (component_below ty cs ((stage q).outer r) w) in
        let first : a - f ≡ component ty cs = omega arith in
        let ce : choices_at ty (a - f) ≡ cs = ap (choices_at ty) first ∙ choices_component ty cs ((stage q).outer r) w in
        let pe : (stage q).path (unflat ty i) ≡ r = ap (stage q).path (unflat_flat ty cs ((stage q).outer r) (flat_type q f ty ql e) w) ∙ (h.stages q ql).aimed.returns cs r x in
        subst (λ z. P (stage z) (held_choices (stage z).destination a) (held_position (stage z) (stage z).destination i)) (sym hb)
        (subst (λ d. P (stage q) (held_choices d a) (held_position (stage q) d i)) (sym e)
        (subst (λ z. P (stage q) z ((stage q).path (unflat ty i))) (sym ce)
        (subst (λ z. P (stage q) cs z) (sym pe) y)))

    copy_value : (q f g t : ℕ) (ty : Ty) (cs : List Bool) (r : List ℕ) → q < n → (stage q).destination ≡ Locals f ty → IsPosition (result_type (stage q)) cs r
        → content g t (LocalArray (f + component ty cs)) (flat ty ((stage q).outer r)) ≡ value_in num b.sources b.out (place_taken b.grid (group_walk l g) t) (stage q) cs r
    copy_value q f g t ty cs r ql e x = copy_decodes q f ty cs r (λ s ds u. value_in num b.sources b.out (place_taken b.grid (group_walk l g) t) s ds u ≡ value_in num b.sources b.out (place_taken b.grid (group_walk l g) t) (stage q) cs r) ql e x refl

    copy_filler : (q f g : ℕ) (ty : Ty) (cs : List Bool) (r : List ℕ) → q < n → (stage q).destination ≡ Locals f ty → IsPosition (result_type (stage q)) cs r
        → filler (local_cell g (f + component ty cs) (flat ty ((stage q).outer r))) ≡ item_in l g (stage q).nest.grid.columns (first_index r)
    copy_filler q f g ty cs r ql e x = copy_decodes q f ty cs r (λ s ds u. item_in l g s.nest.grid.columns (first_index u) ≡ item_in l g (stage q).nest.grid.columns (first_index r)) ql e x refl

    target_of_place : (t q j : ℕ) (cs : List Bool) (r : List ℕ) (x : Cell) → t < turns j → IsPosition (result_type (stage q)) cs r → IsOn (stage q).nest.grid (local_walk l j) (first_index r) → x ≡ cell_of l j (to (at_turn t j) q cs r) → mine t q j x
    target_of_place t q j cs [] x tl w on is = absurd w
    target_of_place t q j cs (i ∷ r) x tl w on is =
        let a = on_taken (stage q).nest.grid (local_walk l j) (walks j) i w.0 on in
        (tl, a.turn, a.within, cs, r, w.1, is ∙ ap (λ z. cell_of l j (to (at_turn t j) q cs (z ∷ r))) (sym a.is))

    told : (q : ℕ) (u : Use) → q < n → Among u (stage q).uses → Contains (numbered 0 (uses_of b.stages)) (touch_of q u)
    told q u ql a = let e : 0 + q ≡ q = omega arith in contained (touch_of q u) (numbered 0 (uses_of b.stages)) (subst (λ z. Among (touch_of z u) (numbered 0 (uses_of b.stages))) e (among_numbered 0 q b.stages u ql a))

    -- a cell that an earlier phase fills
    read_earlier : (Held : Mark → ℕ → Type 0) (t q j : ℕ) (plainly : Bool) (w f : ℕ) (ty : Ty) (ds : List Bool) (r : List ℕ) → t < turns j → q < n → j < item_count l
        → w < q → (stage w).destination ≡ Locals f ty → IsPosition (result_type (stage w)) ds r → Among (reading (f + component ty ds) plainly) (stage q).uses
        → IsRead num k l c p t q j Held (Spot (LocalArray (f + component ty ds)) (flat ty ((stage w).outer r))) (value_in num b.sources b.out (at_turn t j) (stage w) ds r)
    read_earlier Held t q j plainly w f ty ds r tl ql jl before e x used =
        let wl : w < n = omega arith in
        let inside = copy_inside w f ty ds r wl e x in
        let comp = component_below ty ds ((stage w).outer r) inside in
        let index = flat_below ty ds ((stage w).outer r) (flat_type w f ty wl e) inside in
        let room = ((h.stages w wl).holds f ty e).1 (component ty ds) comp in
        let stop = in_order 0 w q b.stages h.chained before ql in
        let stop_is : locals_end (stage w).destination ≡ f + width ty = ap locals_end e in
        let here = home_is w f (component ty ds) ty wl e comp in
        let g = group_of l j in
        let by = item_in l g (stage w).nest.grid.columns (first_index r) in
        let by_group : group_of l by ≡ g = item_group l h.whole g (in_launch j jl) (stage w).nest.grid.columns (first_index r) in (
          omega arith,
          omega arith,
          inr (record {
            array = f + component ty ds;
            index = flat ty ((stage w).outer r);
            is = refl;
            earlier = subst (λ z. z < q) (sym here) before;
            by = by;
            by_group = by_group;
            filled = subst (λ z. mine t z by (local_cell g (f + component ty ds) (flat ty ((stage w).outer r)))) (sym here)
                (target_of_place t w by ds r (local_cell g (f + component ty ds) (flat ty ((stage w).outer r))) (subst (λ z. t < group_turns l p z) (sym by_group) tl) x (taker_on w g (first_index r) (in_launch j jl))
                (ap (λ z. local_cell z (f + component ty ds) (flat ty ((stage w).outer r))) (sym by_group) ∙ sym (copy_cell w by (at_turn t by) f ty ds r e)));
            reader = touch_of q (reading (f + component ty ds) plainly);
            writer = touch_of w (record { array = f + component ty ds; writes = true; aligned = false });
            reader_told = told q (reading (f + component ty ds) plainly) ql used;
            writer_told = told w (record { array = f + component ty ds; writes = true; aligned = false }) wl ((h.stages w wl).tells f (component ty ds) ty e comp);
            reader_phase = refl;
            writer_phase = sym here;
            one_buffer = refl;
            reader_local = refl;
            writer_local = refl;
            writes = refl;
            aligned = λ a. never a;
          }),
          copy_value w f g t ty ds r wl e x,
        )
      where
        never : {P : Type 0} → false ≡ true → P
        never e = absurd (cc)

    -- a scalar in a variable, of the row, of the turn, or held
    held_scalar : (Held More : Mark → ℕ → Type 0) (t j : ℕ) (m : Mark) (v : ℕ) → t < turns j → j < item_count l → ((r : Mark) (a : ℕ) → Held r a → More r a) → sight.IsTopScalar num (length_in k c) l few_rows few c b makes given (at_turn t j) m v ⊎ Held m v → IsHeldScalar num l p t j More m v
    held_scalar Held More t j m v tl jl more (inl (inl y)) = inl (subst (λ r. IsTurnScalar b.row_top r m v) (place_row b.grid (group_walk l (group_of l j)) (group_walks l h.whole j jl) t tl) y)
    held_scalar Held More t j m v tl jl more (inl (inr y)) = inr (inl y)
    held_scalar Held More t j m v tl jl more (inr y) = inr (inr (more m v y))

    reads : (Held More : Mark → ℕ → Type 0) (t q j : ℕ) (m : Mark) (v : ℕ) → t < turns j → q < n → j < item_count l → ((r : Mark) (a : ℕ) → Held r a → More r a) → ReadAt num (length_in k c) l few_rows few c b makes given Held (stage q).uses q (at_turn t j) m v → IsRead num k l c p t q j More m v
    reads Held More t q j (Spot (Input a) i) v tl ql jl more s = (s.0, tt, inl (record { array = a; index = i; is = refl; within = s.0; has = refl }), s.1)
    reads Held More t q j (Spot (LocalArray a) i) v tl ql jl more s =
        let e = s.0 in
        let spot = e.is ∙ ap (λ z. destination_marks b.out (at_turn t j) z e.choices ((stage e.phase).outer e.position)) e.destination in
        let array : a ≡ e.first + component e.ty e.choices = spot_array spot in
        let z = read_earlier More t q j s.1 e.phase e.first e.ty e.choices e.position tl ql jl e.earlier e.destination e.inside (subst (λ y. Among (reading y s.1) (stage q).uses) array s.2) in
        subst (λ y. IsRead num k l c p t q j More y v) (sym spot) (subst (IsRead num k l c p t q j More (Spot (LocalArray (e.first + component e.ty e.choices)) (flat e.ty ((stage e.phase).outer e.position)))) (sym e.has) z)
      where
        spot_array : {m n i u : ℕ} → Spot (LocalArray m) i ≡ Spot (LocalArray n) u → m ≡ n
        spot_array e = ap number_of e
          where
            number_of : Mark → ℕ
            number_of (Spot x y) = array_number x
            number_of _ = 0
    reads Held More t q j (Spot (Output a) i) v tl ql jl more s = absurd s
    reads Held More t q j (Spot (Private a) i) v tl ql jl more s = absurd s
    reads Held More t q j (Register x) v tl ql jl more s = held_scalar Held More t j (Register x) v tl jl more s
    reads Held More t q j (Lane x e) v tl ql jl more s = held_scalar Held More t j (Lane x e) v tl jl more s
    reads Held More t q j Nowhere v tl ql jl more s = absurd s

    fillable : (i q : ℕ) → i < places b.grid → q < n → (cs : List Bool) (r : List ℕ) → IsPosition (result_type (stage q)) cs r → IsFillable k c p q (to i q cs r)
    fillable i q il ql cs r x = by_destination (stage q).destination
        (λ f ty e.
        let w = copy_inside q f ty cs r ql e x in
        let comp = component_below ty cs ((stage q).outer r) w in
        let index = flat_below ty cs ((stage q).outer r) (flat_type q f ty ql e) w in
        let room = ((h.stages q ql).holds f ty e).1 (component ty cs) comp in
        let low = first_is 0 q f ty b.stages h.chained ql e in
        subst (λ a. IsFillable k c p q (destination_marks b.out i a cs ((stage q).outer r))) (sym e) (omega arith, omega arith))
        (λ e.
        let o = h.out.outs cs (i ∷ (stage q).outer r) (il, out_inside q cs r ql e x) in
        subst (λ a. IsFillable k c p q (destination_marks b.out i a cs ((stage q).outer r))) (sym e) (subst (IsFillable k c p q) (sym o.2) (o.3, tt)))

    same : (i q j : ℕ) → i < places b.grid → q < n → (cs ds : List Bool) (r s : List ℕ) → IsPosition (result_type (stage q)) cs r → IsPosition (result_type (stage q)) ds s → cell_of l j (to i q cs r) ≡ cell_of l j (to i q ds s) → (cs ≡ ds) × (r ≡ s)
    same i q j il ql cs ds r s x y e = by_destination (stage q).destination
        (λ f ty a.
        let w = copy_inside q f ty cs r ql a x in
        let z = copy_inside q f ty ds s ql a y in
        let cells = sym (copy_cell q j i f ty cs r a) ∙ e ∙ copy_cell q j i f ty ds s a in
        let arrays : f + component ty cs ≡ f + component ty ds = ap (λ m. array_number m.array) cells in
        (component_same ty cs ds ((stage q).outer r) ((stage q).outer s) w z (omega arith), from_outer r s x y (flat_same ty cs ds ((stage q).outer r) ((stage q).outer s) (flat_type q f ty ql a) w z (ap (λ m. m.index) cells))))
        (λ a.
        let w : IsPosition (ArrayOf (places b.grid) b.result) cs (i ∷ (stage q).outer r) = (il, out_inside q cs r ql a x) in
        let z : IsPosition (ArrayOf (places b.grid) b.result) ds (i ∷ (stage q).outer s) = (il, out_inside q ds s ql a y) in
        let o = h.out.outs cs (i ∷ (stage q).outer r) w in
        let u = h.out.outs ds (i ∷ (stage q).outer s) z in
        let cells = sym (ap (cell_of l j) o.2) ∙ sym (out_cell q j i cs r a) ∙ e ∙ out_cell q j i ds s a ∙ ap (cell_of l j) u.2 in
        let marks = o.2 ∙ ap (λ m. Spot (Output (array_number m.array)) m.index) cells ∙ sym u.2 in
        (h.out.choices cs ds (i ∷ (stage q).outer r) (i ∷ (stage q).outer s) w z marks, from_outer r s x y (rest_is i i ((stage q).outer r) ((stage q).outer s) (h.out.places_differ cs ds (i ∷ (stage q).outer r) (i ∷ (stage q).outer s) w z marks))))
      where
        from_outer : (r s : List ℕ) → IsPosition (result_type (stage q)) cs r → IsPosition (result_type (stage q)) ds s → (stage q).outer r ≡ (stage q).outer s → r ≡ s
        from_outer r s x y e = sym ((h.stages q ql).aimed.returns cs r x) ∙ ap (stage q).path e ∙ (h.stages q ql).aimed.returns ds s y

    last_below : h.last < n
    last_below = let e = h.last_is in omega arith

    only_last : (q : ℕ) → q < n → (stage q).destination ≡ Outputs → q ≡ h.last
    only_last q ql e = let a = (h.stages q ql).gives e in let z = h.last_is in omega arith

    valued : (t q j : ℕ) → t < turns j → q < n → j < item_count l → (cs : List Bool) (r : List ℕ) → IsPosition (result_type (stage q)) cs r → p.value (group_of l j) t (cell_of l j (to (at_turn t j) q cs r)) ≡ grid_scalars num l p (at_turn t j) q cs r
    valued t q j tl ql jl cs r x = by_destination (stage q).destination
        (λ f ty e. ap (p.value (group_of l j) t) (copy_cell q j (at_turn t j) f ty cs r e) ∙ copy_value q f (group_of l j) t ty cs r ql e x)
        (λ e.
        let w : IsPosition (ArrayOf (places b.grid) b.result) cs (at_turn t j ∷ (stage q).outer r) = (turn_in t j jl tl, out_inside q cs r ql e x) in
        let o = h.out.outs cs (at_turn t j ∷ (stage q).outer r) w in
        let v = h.out.values cs (at_turn t j) ((stage q).outer r) o.0 o.1 w o.2 in
        ap (p.value (group_of l j) t) (out_cell q j (at_turn t j) cs r e ∙ ap (cell_of l j) o.2) ∙ v
        ∙ ap (λ z. value_in num b.sources b.out (at_turn t j) (stage z) cs ((stage z).path ((stage q).outer r))) (sym (only_last q ql e)) ∙ ap (value_in num b.sources b.out (at_turn t j) (stage q) cs) ((h.stages q ql).aimed.returns cs r x))

    -- the owner of an output's cell that is a target
    owner_takes : (t q j : ℕ) (cs : List Bool) (r : List ℕ) → t < turns j → q < n → j < item_count l → (stage q).destination ≡ Outputs → IsPosition (result_type (stage q)) cs r → IsOn (stage q).nest.grid (local_walk l j) (first_index r)
        → item_in l (group_for l b.grid.columns (at_turn t j)) (stage h.last).nest.grid.columns (first_index ((stage h.last).path ((stage q).outer r))) ≡ j
    owner_takes t q j cs r tl ql jl e x on =
        ap (λ z. item_in l z (stage h.last).nest.grid.columns (first_index ((stage h.last).path ((stage q).outer r)))) (group_at_turn t j jl tl)
        ∙ ap (λ z. item_in l (group_of l j) (stage z).nest.grid.columns (first_index ((stage z).path ((stage q).outer r)))) (sym (only_last q ql e))
        ∙ ap (λ z. item_in l (group_of l j) (stage q).nest.grid.columns (first_index z)) ((h.stages q ql).aimed.returns cs r x)
        ∙ taker q j (first_index r) jl on

    due : (t q j : ℕ) (x : Cell) → q < n → j < item_count l → mine t q j x → IsOwnOutput owner j x ⊎ IsOwnLocal l (work_of num l p) q j x
    due t q j y ql jl x =
        let place = place_at l p q j x.1 in
        let cs = x.3 in
        let r = place ∷ x.4 in
        let inside : IsPosition (result_type (stage q)) cs r = (place_in q j x.1 x.2, x.5) in
        let on = taken_on (stage q).nest.grid (local_walk l j) (walks j) x.1 x.2 in
        by_destination (stage q).destination
        (λ f ty e.
        let is = x.6 ∙ copy_cell q j (at_turn t j) f ty cs r e in
        inr (record {
          array = f + component ty cs;
          index = flat ty ((stage q).outer r);
          is = is;
          in_phase = home_is q f (component ty cs) ty ql e (component_below ty cs ((stage q).outer r) (copy_inside q f ty cs r ql e inside));
          owned = ap filler is ∙ copy_filler q f (group_of l j) ty cs r ql e inside ∙ taker q j place jl on;
        }))
        (λ e.
        let w : IsPosition (ArrayOf (places b.grid) b.result) cs (at_turn t j ∷ (stage q).outer r) = (turn_in t j jl x.0, out_inside q cs r ql e inside) in
        let o = h.out.outs cs (at_turn t j ∷ (stage q).outer r) w in
        inl (record {
          array = o.0;
          index = o.1;
          is = x.6 ∙ out_cell q j (at_turn t j) cs r e ∙ ap (cell_of l j) o.2;
          owned = h.out.owned cs (at_turn t j) ((stage q).outer r) o.0 o.1 w o.2 ∙ owner_takes t q j cs r x.0 ql jl e inside on;
        }))

    -- an output's cell that is a target
    given_out : (t q j a i : ℕ) → q < n → j < item_count l → mine t q j (output_cell a i) → (q ≡ h.last) × (cs : List Bool) × (r : List ℕ) × IsPosition (ArrayOf (places b.grid) b.result) cs (at_turn t j ∷ r) × (b.out cs (at_turn t j ∷ r) ≡ Spot (Output a) i)
    given_out t q j a i ql jl x =
        let place = place_at l p q j x.1 in
        let cs = x.3 in
        let r = place ∷ x.4 in
        let inside : IsPosition (result_type (stage q)) cs r = (place_in q j x.1 x.2, x.5) in
        by_destination (stage q).destination
        (λ f ty e. absurd (not_local a i (group_of l j) (f + component ty cs) (flat ty ((stage q).outer r)) (x.6 ∙ copy_cell q j (at_turn t j) f ty cs r e)))
        (λ e.
        let w : IsPosition (ArrayOf (places b.grid) b.result) cs (at_turn t j ∷ (stage q).outer r) = (turn_in t j jl x.0, out_inside q cs r ql e inside) in
        let o = h.out.outs cs (at_turn t j ∷ (stage q).outer r) w in
        let cells : output_cell a i ≡ output_cell o.0 o.1 = x.6 ∙ out_cell q j (at_turn t j) cs r e ∙ ap (cell_of l j) o.2 in
        (only_last q ql e, cs, (stage q).outer r, w, o.2 ∙ ap (λ m. Spot (Output (array_number m.array)) m.index) (sym cells)))

    differ : (a i t q j u r m : ℕ) → q < n → r < n → j < item_count l → m < item_count l → mine t q j (output_cell a i) → mine u r m (output_cell a i) → (t ≡ u) × (q ≡ r)
    differ a i t q j u r m ql rl jl ml x y =
        let o = given_out t q j a i ql jl x in
        let v = given_out u r m a i rl ml y in
        let turn_is : at_turn t j ≡ at_turn u m = ap first_index (h.out.places_differ o.1 v.1 (at_turn t j ∷ o.2) (at_turn u m ∷ v.2) o.3 v.3 (o.4 ∙ sym v.4)) in
        let groups : group_of l j ≡ group_of l m = sym (group_at_turn t j jl x.0) ∙ ap (group_for l b.grid.columns) turn_is ∙ group_at_turn u m ml y.0 in
        (taken_once b.grid (group_walk l (group_of l m)) (group_walks l h.whole m ml) t u (subst (λ z. t < group_turns l p z) groups x.0) y.0 (ap (λ z. place_taken b.grid (group_walk l z) t) (sym groups) ∙ turn_is), o.0 ∙ sym v.0)

    all : (a i : ℕ) → i < length (row wanted a) → (t q : ℕ) × (t < group_turns l p (group_of l (owner a i))) × (q < n) × mine t q (owner a i) (output_cell a i) × (p.value (group_of l (owner a i)) t (output_cell a i) ≡ slice_index (row wanted a) i)
    all a i lt = let o = h.out.all a i lt in from o.0 o.1 o.2 o.3
      where
        from : (cs : List Bool) (r : List ℕ) → IsPosition (ArrayOf (places b.grid) b.result) cs r → b.out cs r ≡ Spot (Output a) i
            → (t q : ℕ) × (t < group_turns l p (group_of l (owner a i))) × (q < n) × mine t q (owner a i) (output_cell a i) × (p.value (group_of l (owner a i)) t (output_cell a i) ≡ slice_index (row wanted a) i)
        from cs [] x e = absurd x
        from cs (m ∷ r) x e =
            let s = stage h.last in
            let j : ℕ = owner a i in
            let jl : j < item_count l = h.out.owners_within a i in
            let u = s.path r in
            let g = group_for l b.grid.columns m in
            let gl : g < group_count l = group_in m j jl in
            let j_is : j ≡ item_in l g s.nest.grid.columns (first_index u) = h.out.owned cs m r a i x e in
            let at_group : group_of l j ≡ g = ap (group_of l) j_is ∙ item_group l h.whole g gl s.nest.grid.columns (first_index u) in
            let on_turn : IsOn b.grid (group_walk l (group_of l j)) m = subst (λ z. IsOn b.grid (group_walk l z) m) (sym at_group) (on_its_group m j jl) in
            let taken = on_taken b.grid (group_walk l (group_of l j)) (group_walks l h.whole j jl) m x.0 on_turn in
            let t = taken.turn in
            let te : at_turn t j ≡ m = taken.is in
            let v = (h.stages h.last last_below).aimed.covers cs r (subst (λ z. IsPosition (destination_type b.result z) cs r) (sym h.gives) x.1) in
            let on : IsOn s.nest.grid (local_walk l j) (first_index u) = subst (λ z. IsOn s.nest.grid (local_walk l z) (first_index u)) (sym j_is) (taker_on h.last g (first_index u) gl) in
            let cell : output_cell a i ≡ cell_of l j (to (at_turn t j) h.last cs u) = ap (cell_of l j) (sym e) ∙ ap (λ z. cell_of l j (b.out cs (z ∷ r))) (sym te) ∙ ap (λ z. cell_of l j (b.out cs (at_turn t j ∷ z))) (sym v.1) ∙ sym (out_cell h.last j (at_turn t j) cs u h.gives) in
            (t, h.last, taken.within, last_below, target_of_place t h.last j cs u (output_cell a i) taken.within v.0 on cell, refl)
          where
            some_group : (j : ℕ) → j < item_count l → group_of l j < groups_down l * groups_across l
            some_group j jl = let z = in_launch j jl in omega arith

            some_across : (j : ℕ) → j < item_count l → 0 < groups_across l
            some_across j jl = some_factor (group_of l j) (groups_down l) (groups_across l) (some_group j jl)

            some_down : (j : ℕ) → j < item_count l → 0 < groups_down l
            some_down j jl = let z = (group_walks l h.whole j jl).row in omega arith

            group_in : (m j : ℕ) → j < item_count l → group_for l b.grid.columns m < group_count l
            group_in m j jl =
                let z = pair_below ((m / b.grid.columns) % groups_down l) ((m % b.grid.columns) % groups_across l) (groups_down l) (groups_across l) (mod-lt (m / b.grid.columns) (some_down j jl)) (mod-lt (m % b.grid.columns) (some_across j jl)) in
                omega arith

            on_its_group : (m j : ℕ) → j < item_count l → IsOn b.grid (group_walk l (group_for l b.grid.columns m)) m
            on_its_group m j jl =
                let x = (m % b.grid.columns) % groups_across l in
                let y = (m / b.grid.columns) % groups_down l in
                let xl : x < groups_across l = mod-lt (m % b.grid.columns) (some_across j jl) in
                let e : y * groups_across l + x ≡ group_for l b.grid.columns m = omega arith in
                record {
                  row = sym (div-mul-add y (groups_across l) x xl) ∙ ap (λ z. z / groups_across l) e;
                  column = sym (mod-mul-add y (groups_across l) x xl) ∙ ap (λ z. z % groups_across l) e;
                }

    pub phased : IsGridPhased p num k l c owner wanted
    phased = record {
      room = record {
        whole = h.whole;
        some = let e = h.last_is in omega arith;
        rows = h.rows;
        columns = h.columns;
        rows_made = h.rows_made;
        columns_made = h.columns_made;
        once = λ e g. let o = h.once e in both_few (rows_taken b.grid (group_walk l g)) (columns_taken b.grid (group_walk l g)) (turns_few b.grid.rows (groups_down l) (g / groups_across l) o.0) (turns_few b.grid.columns (groups_across l) (g % groups_across l) o.1);
        phase_rows = λ q ql. (h.stages q ql).rows_short;
        phase_columns = λ q ql. (h.stages q ql).columns_short;
        phase_rows_made = λ q ql. (h.stages q ql).rows_made;
        phase_columns_made = λ q ql. (h.stages q ql).columns_made;
        variables = h.room;
        after_row = λ q ql. (h.stages q ql).after_row;
        fits = λ q ql. (h.stages q ql).fits;
        after_top = λ q ql. (h.stages q ql).after_top;
      };
      types = record {
        row_top_loads = h.row_top_loads;
        top_loads = h.top_loads;
        row_loads = λ q ql. (h.stages q ql).row_loads;
        loads = λ q ql. (h.stages q ql).loads;
        typed = λ q ql. (h.stages q ql).typed;
        declares = λ q ql. (h.stages q ql).declares;
      };
      reads = record {
        given = λ g t a i. refl;
        row_top = h.row_top_given;
        top = h.top_given;
        inputs = λ t q j v tl ql jl cs r x. reads_input t q j (b.ins v cs r) (b.sources v cs r) (given v cs r x);
        rows = λ t q j u tl ql jl ul cs r x. reads (sight.NoneHeld num (length_in k c) l few_rows few c b makes given) NothingHeld t q j _ _ tl ql jl (λ y a z. z) ((h.stages q ql).rows (at_turn t j) ((local_walk l j).row + u * l.local.1) (turn_in t j jl tl) (row_in q j u ul) cs r x);
        envs = λ t q j u v tl ql jl ul cs r x. reads (sight.HeldIn num (length_in k c) l few_rows few c b makes given (stage q) (at_turn t j) ((local_walk l j).row + u * l.local.1)) (IsHeldInRow (p.phase q) (p.place (at_turn t j) q) ((local_walk l j).row + u * l.local.1)) t q j _ _ tl ql jl (λ y a z. z) ((h.stages q ql).envs v (at_turn t j) ((local_walk l j).row + u * l.local.1) (turn_in t j jl tl) (row_in q j u ul) cs r x);
        elements = λ t q j u v tl ql jl ul vl cs r x. reads (sight.HeldIn num (length_in k c) l few_rows few c b makes given (stage q) (at_turn t j) ((local_walk l j).row + u * l.local.1)) (IsHeldInRow (p.phase q) (p.place (at_turn t j) q) ((local_walk l j).row + u * l.local.1)) t q j _ _ tl ql jl (λ y a z. z) ((h.stages q ql).elements (at_turn t j) ((local_walk l j).row + u * l.local.1) ((local_walk l j).column + v * l.local.0) (turn_in t j jl tl) (row_in q j u ul) (column_in q j v vl) cs r x);
      };
      fills = record {
        fillable = fillable;
        choices = λ i q j il ql cs ds r s x y e. (same i q j il ql cs ds r s x y e).0;
        places_differ = λ i q j il ql cs ds r s x y e. (same i q j il ql cs ds r s x y e).1;
        valued = valued;
      };
      writes = record { due = due; differ = differ };
      shape = h.out.shape;
      outputs = record { owners_within = h.out.owners_within; all = all };
    }
      where
        reads_input : (t q j : ℕ) (m : Mark) (v : ℕ) → IsGiven c m v → IsRead num k l c p t q j NothingHeld m v
        reads_input t q j (Spot (Input a) i) v s = (s.0, tt, inl (record { array = a; index = i; is = refl; within = s.0; has = refl }), s.1)
        reads_input t q j (Spot (Output a) i) v s = absurd s
        reads_input t q j (Spot (LocalArray a) i) v s = absurd s
        reads_input t q j (Spot (Private a) i) v s = absurd s
        reads_input t q j (Register x) v s = absurd s
        reads_input t q j (Lane x e) v s = absurd s
        reads_input t q j Nowhere v s = absurd s

        row_in : (q j u : ℕ) → u < rows_taken (stage q).nest.grid (local_walk l j) → (local_walk l j).row + u * l.local.1 < (stage q).nest.grid.rows
        row_in q j u ul = turn_below (stage q).nest.grid.rows l.local.1 (local_walk l j).row u (walks j).row ul

        column_in : (q j v : ℕ) → v < columns_taken (stage q).nest.grid (local_walk l j) → (local_walk l j).column + v * l.local.0 < (stage q).nest.grid.columns
        column_in q j v vl = turn_below (stage q).nest.grid.columns l.local.0 (local_walk l j).column v (walks j).column vl
