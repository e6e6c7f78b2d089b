-- Stages that see what they read are phases of a map over work-groups.
use Rattle.std.proofs.Common.{◌≡◌, ℕ, suc, ◌+◌, ◌-◌, ◌*◌, ◌/◌, ◌%◌, ◌<◌, ◌≤◌, ◌⊎◌, ◌^◌, List, [], ◌∷◌, ◌++◌, length, Bool, true, false, refl, sym, ap, ◌∙◌, subst, inl, inr, arith}
use Rattle.std.specs.Prelude.{map, slice_index, Contains}
use Rattle.std.proofs.Math.Nat.{mod-lt, mod-eq_of_lt, div-eq_of_lt, mul-add-div_right, mul-add-mod_self_right}
use Rattle.std.proofs.lemmas.Bool.{and_parts, lt-ltb, le-ltb}
use Rattle.kernel_tree.specs.Code.{Array, Input, Output, Local as LocalArray, Private, Kernel}
use Rattle.kernel_tree.specs.Launch as launch
use Rattle.kernel_tree.specs.Launch.{Launch, Cells, IsWhole, item_count, groups_across, group_of}
use Rattle.kernel_tree.specs.Device.{Cell, LocalFence, GlobalFence, fence_of, length_in, row}
use Rattle.kernel_tree.specs.Faults.{Among}
use Rattle.kernel_tree.proofs.Grouping.{group_in_launch, flat_groups, flat_group}
use Rattle.kernel_tree.specs.Strides.{turns_of}
use Rattle.kernel_tree.proofs.Stride.{turn_below, turn_owner, owner_turn, owner_has}
use Rattle.lift_ir.specs.Types.{Ty, Scalar, PairOf, ArrayOf, IsPosition, IsFlat, width, component, flat, unflat}
use Rattle.lift_ir.specs.Terms.{LoadsScalars}
use Rattle.lift_ir.specs.Scalars.{Scalars, at_index}
use Rattle.lift_ir.proofs.Numbers.{component_below, flat_below, component_same, flat_same, unflat_flat}
use Rattle.printed_form.specs.MapForms.{MakeTurns}
use Rattle.printed_form.specs.Counts.{AtMost}
use Rattle.printed_form.specs.Marks.{Mark, Nowhere, Register, Lane, Spot, Marks}
use Rattle.printed_form.specs.Whole.{IsGiven}
use Rattle.printed_form.proofs.Loops.{rest_is}
use Rattle.group_phases.specs.Cells.{output_cell, local_cell, IsOwnOutput}
use Rattle.group_phases.specs.Work.{IsOwnLocal}
use Rattle.group_phases.specs.Groups.{declared, loop_turns}
use Rattle.group_phases.specs.Phases.{PhaseList, turn_of, row_of, cell_of, phase_scalars, targets, work_of, IsRead, AreRead, IsFillable}
use Rattle.group_phases.specs.Printed.{IsPhased}
use Rattle.group_form.specs.Named.{element_ways, named_outside}
use Rattle.group_form.specs.Origins.{Origin, Within, at_way, bent}
use Rattle.group_form.specs.Uses.{Use, Destination, Locals, Outputs, element_reads, variable_reads, writes_to, touch_of, numbered}
use Rattle.group_form.specs.Stages.{Stage, stage_at, uses_in, uses_of, result_type, value_in}
use Rattle.group_form.specs.Body as body
use Rattle.group_form.specs.Body.{GroupBody, destination_marks, goes_to, locals_end, home_in, choices_at, first_index, held_choices, held_position, phase_list}
use Rattle.group_form.specs.Whole.{destination_type}
use Rattle.group_form.proofs.Lists.{among_left, among_right, contained}
use Rattle.group_form.proofs.Seen.{SeenAt}
use Rattle.group_form.proofs.Sight as sight
use Rattle.group_form.proofs.Counters.{Chained, first_is, home_at, in_order}
use Rattle.group_form.proofs.Uses.{reading, writing, element_told, variable_told, bent_not_plain, write_told, among_numbered}

pub choices_component : (t : Ty) (cs : List Bool) (p : List ℕ) → IsPosition t cs p → choices_at t (component t cs) ≡ cs
choices_component Scalar [] p w = refl
choices_component Scalar (c ∷ cs) p w = absurd w
choices_component (PairOf a b) [] p w = absurd w
choices_component (PairOf a b) (false ∷ cs) p w =
    let lt = component_below a cs p w in
    rw (lt-ltb (component a cs) (width a) lt) (ap (λ z. false ∷ z) (choices_component a cs p w))
choices_component (PairOf a b) (true ∷ cs) p w =
    let e : width a + component b cs - width a ≡ component b cs = omega arith in
    rw (le-ltb (width a + component b cs) (width a) (omega arith)) (ap (λ z. true ∷ choices_at b z) e ∙ ap (λ z. true ∷ z) (choices_component b cs p w))
choices_component (ArrayOf n t) cs [] w = absurd w
choices_component (ArrayOf n t) cs (i ∷ p) w = choices_component t cs p w.1

abbrev array_number : Array → ℕ
array_number (Input n) = n
array_number (Output n) = n
array_number (LocalArray n) = n
array_number (Private n) = n

not_local : (a i g m j : ℕ) → output_cell a i ≡ local_cell g m j → ⊥
not_local a i g m j e = fences_differ (ap (λ z. fence_of z) e)
  where
    fences_differ : GlobalFence ≡ LocalFence → ⊥
    fences_differ q = cc

by_destination : {P : Type 0} → (d : Destination) → ((f : ℕ) (ty : Ty) → d ≡ Locals f ty → P) → (d ≡ Outputs → P) → P
by_destination (Locals f ty) local output = local f ty refl
by_destination Outputs local output = output refl

-- where a map over groups goes: each scalar has an output cell of its own, which is to hold it, and
-- its owner is the item that computes it
pub record GoesOut (k : Kernel) (l : Launch) (c : Cells) (owner : (array index : ℕ) → ℕ) (wanted : List (List ℕ)) (turns : ℕ) (out : Marks) (result : Ty) (row_at : List ℕ → ℕ) (scalars : (turn : ℕ) → Scalars) : Type 0 where
  pub outs : (cs : List Bool) (p : List ℕ) → IsPosition (ArrayOf turns result) cs p → (a n : ℕ) × (out cs p ≡ Spot (Output a) n) × (n < length_in k c (Output a))
  pub choices : (cs ds : List Bool) (p r : List ℕ) → IsPosition (ArrayOf turns result) cs p → IsPosition (ArrayOf turns result) ds r → out cs p ≡ out ds r → cs ≡ ds
  pub places : (cs ds : List Bool) (p r : List ℕ) → IsPosition (ArrayOf turns result) cs p → IsPosition (ArrayOf turns result) ds r → out cs p ≡ out ds r → p ≡ r
  pub owned : (cs : List Bool) (i : ℕ) (p : List ℕ) (a n : ℕ) → IsPosition (ArrayOf turns result) cs (i ∷ p) → out cs (i ∷ p) ≡ Spot (Output a) n → owner a n ≡ (i % groups_across l) * l.local.0 + row_at p % l.local.0
  pub values : (cs : List Bool) (i : ℕ) (p : List ℕ) (a n : ℕ) → IsPosition (ArrayOf turns result) cs (i ∷ p) → out cs (i ∷ p) ≡ Spot (Output a) n → slice_index (row wanted a) n ≡ scalars i cs p
  pub all : (a n : ℕ) → n < length (row wanted a) → (cs : List Bool) × (p : List ℕ) × IsPosition (ArrayOf turns result) cs p × (out cs p ≡ Spot (Output a) n)
  pub owners_within : (a n : ℕ) → owner a n < item_count l
  pub shape : map length wanted ≡ map length c.outs

module _ {A : Type 0} (num : A → ℕ) (k : Kernel) (l : Launch) (c : Cells) (owner : (array index : ℕ) → ℕ) (wanted : List (List ℕ)) (b : GroupBody A) where
  -- what stages need
  pub record AreStages (few : l.local.0 ≤ 2 ^ 31) (makes : MakeTurns b.forms num l) (given : (v : ℕ) (cs : List Bool) (p : List ℕ) → IsPosition (b.src v) cs p → IsGiven c (b.ins v cs p) (b.sources v cs p)) : Type 0 where
    pub whole : IsWhole l
    pub flat : launch.IsFlat l
    pub turns : b.turns + groups_across l ≤ 2 ^ 32
    pub once : b.once ≡ true → b.turns ≤ 1
    pub room : AtMost b.variables (declared k)
    pub top_loads : LoadsScalars b.top.loads b.top.type
    pub top_given : (i : ℕ) → i < b.turns → (cs : List Bool) (p : List ℕ) → IsPosition b.top.type cs p → IsGiven c (b.top.marks i cs p) (b.top.scalars i cs p)
    pub stages : (q : ℕ) → q < length b.stages → sight.IsStage num (length_in k c) l few c b makes given q (stage_at b.stages q)
    pub chained : Chained 0 b.stages
    pub last : ℕ
    pub last_is : suc last ≡ length b.stages
    pub gives : (stage_at b.stages last).destination ≡ Outputs
    pub out : GoesOut k l c owner wanted b.turns b.out b.result (λ p. first_index ((stage_at b.stages last).path p)) (λ i cs p. value_in num b.sources i (stage_at b.stages last) cs ((stage_at b.stages last).path p))

  abbrev pub p : PhaseList A
  p = phase_list num l c wanted b

  abbrev n : ℕ
  n = length b.stages

  abbrev stage : ℕ → Stage A
  stage q = stage_at b.stages q

  abbrev home : ℕ → ℕ
  home a = home_in b.stages a

  abbrev G : ℕ
  G = groups_across l

  abbrev content : (g t : ℕ) → Array → ℕ → ℕ
  content = body.content num l c wanted b

  abbrev filler : Cell → ℕ
  filler = body.filler num l c wanted b

  abbrev mine : (t q j : ℕ) → Cell → Type 0
  mine = targets num l p

  abbrev CanRead : (t q j : ℕ) → Mark → ℕ → Type 0
  CanRead = IsRead num k l c p

  module _ (few : l.local.0 ≤ 2 ^ 31) (makes : MakeTurns b.forms num l) (given : (v : ℕ) (cs : List Bool) (p : List ℕ) → IsPosition (b.src v) cs p → IsGiven c (b.ins v cs p) (b.sources v cs p)) (h : AreStages few makes given) where
    group_is : (g r : ℕ) → r < l.local.0 → group_of l (g * l.local.0 + r) ≡ g
    group_is g r lt = flat_group l h.flat h.whole (g * l.local.0 + r) ∙ mul-add-div_right h.whole.x.positive g r ∙ (let e : r / l.local.0 ≡ 0 = div-eq_of_lt lt in let q : g + r / l.local.0 ≡ g = omega arith in q)

    local_is : (g r : ℕ) → r < l.local.0 → (g * l.local.0 + r) % l.local.0 ≡ r
    local_is g r lt = mul-add-mod_self_right g l.local.0 r ∙ mod-eq_of_lt lt

    item_is : (j : ℕ) → group_of l j * l.local.0 + j % l.local.0 ≡ j
    item_is j = ap (λ z. z * l.local.0 + j % l.local.0) (flat_group l h.flat h.whole j) ∙ (let e = owner_turn l.local.0 j h.whole.x.positive in omega arith)

    across : (j : ℕ) → j < item_count l → group_of l j < G
    across j lt = subst (λ z. group_of l j < z) (flat_groups l h.flat) (group_in_launch l h.whole j lt)

    row_below : (q j u : ℕ) → u < turns_of (stage q).phase.len l.local.0 (j % l.local.0) → row_of l j u < (stage q).phase.len
    row_below q j u lt = turn_below (stage q).phase.len l.local.0 (j % l.local.0) u (mod-lt j h.whole.x.positive) lt

    row_owner : (j u : ℕ) → row_of l j u % l.local.0 ≡ j % l.local.0
    row_owner j u = turn_owner l.local.0 (j % l.local.0) u (mod-lt j h.whole.x.positive)

    row_is : (j i : ℕ) → i % l.local.0 ≡ j % l.local.0 → i ≡ row_of l j (i / l.local.0)
    row_is j i e = owner_turn l.local.0 i h.whole.x.positive ∙ ap (λ z. z + (i / l.local.0) * l.local.0) e

    row_turn : (q j i : ℕ) → i < (stage q).phase.len → i % l.local.0 ≡ j % l.local.0 → i / l.local.0 < turns_of (stage q).phase.len l.local.0 (j % l.local.0)
    row_turn q j i lt e = subst (λ z. i / l.local.0 < turns_of (stage q).phase.len l.local.0 z) e (owner_has (stage q).phase.len l.local.0 i h.whole.x.positive lt)

    -- the cells of a phase that fills local arrays
    copy_cell : (q j i f : ℕ) (ty : Ty) (cs : List Bool) (r : List ℕ) → (stage q).destination ≡ Locals f ty → cell_of l j (goes_to b.out i (stage q) cs r) ≡ local_cell (group_of l j) (f + component ty cs) (flat ty ((stage q).outer r))
    copy_cell q j i f ty cs r e = ap (λ z. cell_of l j (destination_marks b.out i z cs ((stage q).outer r))) e

    out_cell : (q j i : ℕ) (cs : List Bool) (r : List ℕ) → (stage q).destination ≡ Outputs → cell_of l j (goes_to b.out i (stage q) cs r) ≡ cell_of l j (b.out cs (i ∷ (stage q).outer r))
    out_cell q j i cs r e = ap (λ z. cell_of l j (destination_marks b.out i z cs ((stage q).outer r))) e

    copy_inside : (q f : ℕ) (ty : Ty) (cs : List Bool) (r : List ℕ) → q < n → (stage q).destination ≡ Locals f ty → IsPosition (result_type (stage q)) cs r → IsPosition ty cs ((stage q).outer r)
    copy_inside q f ty cs r ql e x = subst (λ z. IsPosition (destination_type b.result z) cs ((stage q).outer r)) e ((h.stages q ql).inside cs r x)

    out_inside : (q : ℕ) (cs : List Bool) (r : List ℕ) → q < n → (stage q).destination ≡ Outputs → IsPosition (result_type (stage q)) cs r → IsPosition b.result cs ((stage q).outer r)
    out_inside q cs r ql e x = subst (λ z. IsPosition (destination_type b.result z) cs ((stage q).outer r)) e ((h.stages q ql).inside cs r x)

    flat_type : (q f : ℕ) (ty : Ty) → q < n → (stage q).destination ≡ Locals f ty → IsFlat ty
    flat_type q f ty ql e = ((h.stages q ql).holds f ty e).0

    home_is : (q f a : ℕ) (ty : Ty) → q < n → (stage q).destination ≡ Locals f ty → a < width ty → home (f + a) ≡ q
    home_is q f a ty ql e al = home_at 0 q f a ty b.stages h.chained ql e al

    -- the position that a cell holds
    copy_decodes : (q f : ℕ) (ty : Ty) (cs : List Bool) (r : List ℕ) (P : Stage A → List Bool → List ℕ → Type 0) → q < n → (stage q).destination ≡ Locals f ty → IsPosition (result_type (stage q)) cs r → P (stage q) cs r
        → P (stage (home (f + component ty cs))) (held_choices (stage (home (f + component ty cs))).destination (f + component ty cs)) (held_position (stage (home (f + component ty cs))) (stage (home (f + component ty cs))).destination (flat ty ((stage q).outer r)))
    copy_decodes q f ty cs r P ql e x y =
        let a = f + component ty cs in
        let i = flat ty ((stage q).outer r) in
        let w = copy_inside q f ty cs r ql e x in
        let hb : home a ≡ q = home_is q f (component ty cs) ty ql e (component_below ty cs ((stage q).outer r) w) in
        let first : a - f ≡ component ty cs = omega arith in
        let ce : choices_at ty (a - f) ≡ cs = ap (choices_at ty) first ∙ choices_component ty cs ((stage q).outer r) w in
        let pe : (stage q).path (unflat ty i) ≡ r = ap (stage q).path (unflat_flat ty cs ((stage q).outer r) (flat_type q f ty ql e) w) ∙ (h.stages q ql).returns cs r x in
        subst (λ z. P (stage z) (held_choices (stage z).destination a) (held_position (stage z) (stage z).destination i)) (sym hb)
        (subst (λ d. P (stage q) (held_choices d a) (held_position (stage q) d i)) (sym e)
        (subst (λ z. P (stage q) z ((stage q).path (unflat ty i))) (sym ce)
        (subst (λ z. P (stage q) cs z) (sym pe) y)))

    copy_value : (q f g t w : ℕ) (ty : Ty) (cs : List Bool) (r : List ℕ) → q < n → (stage q).destination ≡ Locals f ty → IsPosition (result_type (stage q)) cs r
        → content g t (LocalArray (f + component ty cs)) (flat ty ((stage q).outer r)) ≡ value_in num b.sources (g + t * G) (stage q) cs r
    copy_value q f g t w ty cs r ql e x = copy_decodes q f ty cs r (λ s ds u. value_in num b.sources (g + t * G) s ds u ≡ value_in num b.sources (g + t * G) (stage q) cs r) ql e x refl

    copy_filler : (q f g : ℕ) (ty : Ty) (cs : List Bool) (r : List ℕ) → q < n → (stage q).destination ≡ Locals f ty → IsPosition (result_type (stage q)) cs r
        → filler (local_cell g (f + component ty cs) (flat ty ((stage q).outer r))) ≡ g * l.local.0 + first_index r % l.local.0
    copy_filler q f g ty cs r ql e x = copy_decodes q f ty cs r (λ s ds u. g * l.local.0 + first_index u % l.local.0 ≡ g * l.local.0 + first_index r % l.local.0) ql e x refl

    target_of_row : (t q j : ℕ) (cs : List Bool) (r : List ℕ) (x : Cell) → turn_of l t j < b.turns → IsPosition (result_type (stage q)) cs r → first_index r % l.local.0 ≡ j % l.local.0 → x ≡ cell_of l j (goes_to b.out (turn_of l t j) (stage q) cs r) → mine t q j x
    target_of_row t q j cs [] x il w e is = absurd w
    target_of_row t q j cs (i ∷ r) x il w e is = (il, i / l.local.0, row_turn q j i w.0 e, cs, r, w.1, is ∙ ap (λ z. cell_of l j (goes_to b.out (turn_of l t j) (stage q) cs (z ∷ r))) (row_is j i e))

    told : (q : ℕ) (u : Use) → q < n → Among u (uses_in (stage q)) → Contains (numbered 0 (uses_of b.stages)) (touch_of q u)
    told q u ql a = let e : 0 + q ≡ q = omega arith in contained (touch_of q u) (numbered 0 (uses_of b.stages)) (subst (λ z. Among (touch_of z u) (numbered 0 (uses_of b.stages))) e (among_numbered 0 q b.stages u ql a))

    write_is_told : (q f a : ℕ) (ty : Ty) → (stage q).destination ≡ Locals f ty → a < width ty → Among (writing (f + a) (stage q).direct) (uses_in (stage q))
    write_is_told q f a ty e al =
        let s = stage q in
        among_left (writing (f + a) s.direct) (writes_to s.destination s.direct) (element_reads s.origin (element_ways s.phase.loads s.phase.body) ++ variable_reads s.origins (named_outside s.phase.body)) (write_told s.destination s.direct f ty a e al)

    -- a cell that an earlier phase fills
    read_earlier : (t q j : ℕ) (plainly : Bool) (row : ℕ) (w f : ℕ) (ty : Ty) (ds : List Bool) (r : List ℕ) → turn_of l t j < b.turns → q < n → j < item_count l → (plainly ≡ true → row % l.local.0 ≡ j % l.local.0)
        → w < q → (stage w).destination ≡ Locals f ty → IsPosition (result_type (stage w)) ds r → (plainly ≡ true → (stage w).direct ≡ true → first_index r ≡ row) → Among (reading (f + component ty ds) plainly) (uses_in (stage q))
        → CanRead t q j (Spot (LocalArray (f + component ty ds)) (flat ty ((stage w).outer r))) (value_in num b.sources (turn_of l t j) (stage w) ds r)
    read_earlier t q j plainly row w f ty ds r il ql jl own before e x rows used =
        let wl : w < n = omega arith in
        let inside = copy_inside w f ty ds r wl e x in
        let comp = component_below ty ds ((stage w).outer r) inside in
        let index = flat_below ty ds ((stage w).outer r) (flat_type w f ty wl e) inside in
        let room = ((h.stages w wl).holds f ty e).1 (component ty ds) comp in
        let stop = in_order 0 w q b.stages h.chained before ql in
        let stop_is : locals_end (stage w).destination ≡ f + width ty = ap locals_end e in
        let here = home_is w f (component ty ds) ty wl e comp in
        let by = group_of l j * l.local.0 + first_index r % l.local.0 in
        let rl : first_index r % l.local.0 < l.local.0 = mod-lt (first_index r) h.whole.x.positive in
        let by_group : group_of l by ≡ group_of l j = group_is (group_of l j) (first_index r % l.local.0) rl in (
          omega arith,
          omega arith,
          inr (record {
            array = f + component ty ds;
            index = flat ty ((stage w).outer r);
            is = refl;
            earlier = subst (λ z. z < q) (sym here) before;
            by = by;
            by_group = by_group;
            filled = subst (λ z. mine t z by (local_cell (group_of l j) (f + component ty ds) (flat ty ((stage w).outer r)))) (sym here)
                (target_of_row t w by ds r (local_cell (group_of l j) (f + component ty ds) (flat ty ((stage w).outer r))) (subst (λ z. z + t * G < b.turns) (sym by_group) il) x (sym (local_is (group_of l j) (first_index r % l.local.0) rl))
                (ap (λ z. local_cell z (f + component ty ds) (flat ty ((stage w).outer r))) (sym by_group) ∙ sym (copy_cell w by (turn_of l t by) f ty ds r e)));
            reader = touch_of q (reading (f + component ty ds) plainly);
            writer = touch_of w (writing (f + component ty ds) (stage w).direct);
            reader_told = told q (reading (f + component ty ds) plainly) ql used;
            writer_told = told w (writing (f + component ty ds) (stage w).direct) wl (write_is_told w f (component ty ds) ty e comp);
            reader_phase = refl;
            writer_phase = sym here;
            one_buffer = refl;
            reader_local = refl;
            writer_local = refl;
            writes = refl;
            aligned = λ a.
                let both = and_parts (stage w).direct plainly a in
                copy_filler w f (group_of l j) ty ds r wl e x ∙ ap (λ z. group_of l j * l.local.0 + z % l.local.0) (rows both.1 both.0) ∙ ap (λ z. group_of l j * l.local.0 + z) (own both.1) ∙ item_is j;
          }),
          copy_value w f (group_of l j) t (group_of l j) ty ds r wl e x,
        )

    reads : (t q j : ℕ) (o : Origin) (r : List ℕ) (m : Mark) (v : ℕ) → turn_of l t j < b.turns → q < n → j < item_count l → ((a : ℕ) → o ≡ Within a true → first_index r % l.local.0 ≡ j % l.local.0) → ((a : ℕ) (plainly : Bool) → o ≡ Within a plainly → Among (reading a plainly) (uses_in (stage q)))
        → SeenAt num c b o q (turn_of l t j) r m v → CanRead t q j m v
    reads t q j o r (Spot (Input a) i) v il ql jl own used s = (s.0, tt, inl (record { array = a; index = i; is = refl; within = s.0; has = refl }), s.1)
    reads t q j o r (Spot (LocalArray a) i) v il ql jl own used s =
        let spot = s.is ∙ ap (λ z. destination_marks b.out (turn_of l t j) z s.choices ((stage s.phase).outer s.position)) s.destination in
        let array : a ≡ s.first + component s.ty s.choices = spot_array spot in
        let z = read_earlier t q j s.plainly (first_index r) s.phase s.first s.ty s.choices s.position il ql jl (λ e. own a (s.reached ∙ ap (Within a) e)) s.earlier s.destination s.inside s.rows (subst (λ y. Among (reading y s.plainly) (uses_in (stage q))) array (used a s.plainly s.reached)) in
        subst (λ y. CanRead t q j y v) (sym spot) (subst (CanRead t q j (Spot (LocalArray (s.first + component s.ty s.choices)) (flat s.ty ((stage s.phase).outer s.position)))) (sym s.has) z)
      where
        spot_array : {m n i u : ℕ} → Spot (LocalArray m) i ≡ Spot (LocalArray n) u → m ≡ n
        spot_array e = ap number e
          where
            number : Mark → ℕ
            number (Spot x y) = array_number x
            number _ = 0
    reads t q j o r (Spot (Output a) i) v il ql jl own used s = absurd s
    reads t q j o r (Spot (Private a) i) v il ql jl own used s = absurd s
    reads t q j o r (Register x) v il ql jl own used s = s
    reads t q j o r (Lane x e) v il ql jl own used s = s
    reads t q j o r Nowhere v il ql jl own used s = absurd s

    reads_input : (t q j : ℕ) (m : Mark) (v : ℕ) → IsGiven c m v → CanRead t q j m v
    reads_input t q j (Spot (Input a) i) v s = (s.0, tt, inl (record { array = a; index = i; is = refl; within = s.0; has = refl }), s.1)
    reads_input t q j (Spot (Output a) i) v s = absurd s
    reads_input t q j (Spot (LocalArray a) i) v s = absurd s
    reads_input t q j (Spot (Private a) i) v s = absurd s
    reads_input t q j (Register x) v s = absurd s
    reads_input t q j (Lane x e) v s = absurd s
    reads_input t q j Nowhere v s = absurd s

    envs : (t q j v : ℕ) → turn_of l t j < b.turns → q < n → j < item_count l → AreRead num k l c p t q j ((stage q).phase.types v) ((stage q).env (turn_of l t j) v) ((stage q).sems (turn_of l t j) v)
    envs t q j v il ql jl cs r x =
        let s = stage q in
        let under = (h.stages q ql).variable_under v cs r x in
        reads t q j (at_way (bent (s.origins v)) cs) r (s.env (turn_of l t j) v cs r) (s.sems (turn_of l t j) v cs r) il ql jl (λ a e. bent_not_plain (s.origins v) cs a e)
        (λ a plainly e. among_right (reading a plainly) (writes_to s.destination s.direct) (element_reads s.origin (element_ways s.phase.loads s.phase.body) ++ variable_reads s.origins (named_outside s.phase.body))
        (among_right (reading a plainly) (element_reads s.origin (element_ways s.phase.loads s.phase.body)) (variable_reads s.origins (named_outside s.phase.body)) (variable_told s.origins (named_outside s.phase.body) v cs a plainly under e)))
        ((h.stages q ql).envs v (turn_of l t j) il cs r x)

    elements : (t q j u : ℕ) → turn_of l t j < b.turns → q < n → j < item_count l → u < turns_of (stage q).phase.len l.local.0 (j % l.local.0)
        → AreRead num k l c p t q j (stage q).phase.element (at_index (row_of l j u) ((stage q).marks (turn_of l t j))) (at_index (row_of l j u) ((stage q).scalars (turn_of l t j)))
    elements t q j u il ql jl lt cs r x =
        let s = stage q in
        let i = row_of l j u in
        let w : IsPosition (ArrayOf s.phase.len s.phase.element) cs (i ∷ r) = (row_below q j u lt, x) in
        let under = (h.stages q ql).element_under cs (i ∷ r) w in
        reads t q j (at_way s.origin cs) (i ∷ r) (s.marks (turn_of l t j) cs (i ∷ r)) (s.scalars (turn_of l t j) cs (i ∷ r)) il ql jl (λ a e. row_owner j u)
        (λ a plainly e. among_right (reading a plainly) (writes_to s.destination s.direct) (element_reads s.origin (element_ways s.phase.loads s.phase.body) ++ variable_reads s.origins (named_outside s.phase.body))
        (among_left (reading a plainly) (element_reads s.origin (element_ways s.phase.loads s.phase.body)) (variable_reads s.origins (named_outside s.phase.body)) (element_told s.origin (element_ways s.phase.loads s.phase.body) cs a plainly under e)))
        ((h.stages q ql).elements (turn_of l t j) il cs (i ∷ r) w)

    fillable : (i q : ℕ) → i < b.turns → q < n → (cs : List Bool) (r : List ℕ) → IsPosition (result_type (stage q)) cs r → IsFillable k c p q (goes_to b.out i (stage q) cs r)
    fillable i q il ql cs r x = by_destination (stage q).destination
        (λ f ty e.
        let w = copy_inside q f ty cs r ql e x in
        let comp = component_below ty cs ((stage q).outer r) w in
        let index = flat_below ty cs ((stage q).outer r) (flat_type q f ty ql e) w in
        let room = ((h.stages q ql).holds f ty e).1 (component ty cs) comp in
        let low = first_is 0 q f ty b.stages h.chained ql e in
        subst (λ a. IsFillable k c p q (destination_marks b.out i a cs ((stage q).outer r))) (sym e) (omega arith, omega arith))
        (λ e.
        let o = h.out.outs cs (i ∷ (stage q).outer r) (il, out_inside q cs r ql e x) in
        subst (λ a. IsFillable k c p q (destination_marks b.out i a cs ((stage q).outer r))) (sym e) (subst (IsFillable k c p q) (sym o.2) (o.3, tt)))

    same : (i q j : ℕ) → i < b.turns → q < n → (cs ds : List Bool) (r s : List ℕ) → IsPosition (result_type (stage q)) cs r → IsPosition (result_type (stage q)) ds s → cell_of l j (goes_to b.out i (stage q) cs r) ≡ cell_of l j (goes_to b.out i (stage q) ds s) → (cs ≡ ds) × (r ≡ s)
    same i q j il ql cs ds r s x y e = by_destination (stage q).destination
        (λ f ty a.
        let w = copy_inside q f ty cs r ql a x in
        let z = copy_inside q f ty ds s ql a y in
        let cells = sym (copy_cell q j i f ty cs r a) ∙ e ∙ copy_cell q j i f ty ds s a in
        let arrays : f + component ty cs ≡ f + component ty ds = ap (λ m. array_number m.array) cells in
        (component_same ty cs ds ((stage q).outer r) ((stage q).outer s) w z (omega arith), from_outer r s x y (flat_same ty cs ds ((stage q).outer r) ((stage q).outer s) (flat_type q f ty ql a) w z (ap (λ m. m.index) cells))))
        (λ a.
        let w : IsPosition (ArrayOf b.turns b.result) cs (i ∷ (stage q).outer r) = (il, out_inside q cs r ql a x) in
        let z : IsPosition (ArrayOf b.turns b.result) ds (i ∷ (stage q).outer s) = (il, out_inside q ds s ql a y) in
        let o = h.out.outs cs (i ∷ (stage q).outer r) w in
        let u = h.out.outs ds (i ∷ (stage q).outer s) z in
        let cells = sym (ap (cell_of l j) o.2) ∙ sym (out_cell q j i cs r a) ∙ e ∙ out_cell q j i ds s a ∙ ap (cell_of l j) u.2 in
        let marks = o.2 ∙ ap (λ m. Spot (Output (array_number m.array)) m.index) cells ∙ sym u.2 in
        (h.out.choices cs ds (i ∷ (stage q).outer r) (i ∷ (stage q).outer s) w z marks, from_outer r s x y (rest_is i i ((stage q).outer r) ((stage q).outer s) (h.out.places cs ds (i ∷ (stage q).outer r) (i ∷ (stage q).outer s) w z marks))))
      where
        from_outer : (r s : List ℕ) → IsPosition (result_type (stage q)) cs r → IsPosition (result_type (stage q)) ds s → (stage q).outer r ≡ (stage q).outer s → r ≡ s
        from_outer r s x y e = sym ((h.stages q ql).returns cs r x) ∙ ap (stage q).path e ∙ (h.stages q ql).returns ds s y

    groups_positive : (i : ℕ) → i < item_count l → 0 < G
    groups_positive i il = some (group_of l i) G (across i il)
      where
        some : (a b : ℕ) → a < b → 0 < b
        some a b lt = omega arith

    last_below : h.last < n
    last_below = let e = h.last_is in omega arith

    only_last : (q : ℕ) → q < n → (stage q).destination ≡ Outputs → q ≡ h.last
    only_last q ql e = let a = (h.stages q ql).gives e in let z = h.last_is in omega arith

    valued : (t q j : ℕ) → turn_of l t j < b.turns → q < n → j < item_count l → (cs : List Bool) (r : List ℕ) → IsPosition (result_type (stage q)) cs r → p.value (group_of l j) t (cell_of l j (goes_to b.out (turn_of l t j) (stage q) cs r)) ≡ phase_scalars num l p (turn_of l t j) q cs r
    valued t q j il ql jl cs r x = by_destination (stage q).destination
        (λ f ty e. ap (p.value (group_of l j) t) (copy_cell q j (turn_of l t j) f ty cs r e) ∙ copy_value q f (group_of l j) t (group_of l j) ty cs r ql e x)
        (λ e.
        let w : IsPosition (ArrayOf b.turns b.result) cs (turn_of l t j ∷ (stage q).outer r) = (il, out_inside q cs r ql e x) in
        let o = h.out.outs cs (turn_of l t j ∷ (stage q).outer r) w in
        let v = h.out.values cs (turn_of l t j) ((stage q).outer r) o.0 o.1 w o.2 in
        ap (p.value (group_of l j) t) (out_cell q j (turn_of l t j) cs r e ∙ ap (cell_of l j) o.2) ∙ v
        ∙ ap (λ z. value_in num b.sources (turn_of l t j) (stage z) cs ((stage z).path ((stage q).outer r))) (sym (only_last q ql e)) ∙ ap (value_in num b.sources (turn_of l t j) (stage q) cs) ((h.stages q ql).returns cs r x))

    due : (t q j : ℕ) (x : Cell) → q < n → j < item_count l → mine t q j x → IsOwnOutput owner j x ⊎ IsOwnLocal l (work_of num l p) q j x
    due t q j y ql jl x =
        let row = row_of l j x.1 in
        let cs = x.3 in
        let r = row ∷ x.4 in
        let inside : IsPosition (result_type (stage q)) cs r = (row_below q j x.1 x.2, x.5) in
        by_destination (stage q).destination
        (λ f ty e.
        let is = x.6 ∙ copy_cell q j (turn_of l t j) f ty cs r e in
        inr (record {
          array = f + component ty cs;
          index = flat ty ((stage q).outer r);
          is = is;
          in_phase = home_is q f (component ty cs) ty ql e (component_below ty cs ((stage q).outer r) (copy_inside q f ty cs r ql e inside));
          owned = ap filler is ∙ copy_filler q f (group_of l j) ty cs r ql e inside ∙ ap (λ z. group_of l j * l.local.0 + z) (row_owner j x.1) ∙ item_is j;
        }))
        (λ e.
        let w : IsPosition (ArrayOf b.turns b.result) cs (turn_of l t j ∷ (stage q).outer r) = (x.0, out_inside q cs r ql e inside) in
        let o = h.out.outs cs (turn_of l t j ∷ (stage q).outer r) w in
        inl (record {
          array = o.0;
          index = o.1;
          is = x.6 ∙ out_cell q j (turn_of l t j) cs r e ∙ ap (cell_of l j) o.2;
          owned = h.out.owned cs (turn_of l t j) ((stage q).outer r) o.0 o.1 w o.2
              ∙ ap (λ z. (turn_of l t j % G) * l.local.0 + first_index ((stage z).path ((stage q).outer r)) % l.local.0) (sym (only_last q ql e))
              ∙ ap (λ z. (turn_of l t j % G) * l.local.0 + first_index z % l.local.0) ((h.stages q ql).returns cs r inside)
              ∙ ap (λ z. z * l.local.0 + row % l.local.0) (turn_owner G (group_of l j) t (across j jl))
              ∙ ap (λ z. group_of l j * l.local.0 + z) (row_owner j x.1) ∙ item_is j;
        }))

    turn_is : (g t : ℕ) → g < G → (g + t * G) / G ≡ t
    turn_is g t lt =
        let q : g + t * G ≡ t * G + g = omega arith in
        let e : g / G ≡ 0 = div-eq_of_lt lt in
        ap (λ z. z / G) q ∙ mul-add-div_right (let z : 0 < G = omega arith in z) t g ∙ (let z : t + g / G ≡ t = omega arith in z)

    -- an output's cell that is a target
    given_out : (t q j a i : ℕ) → q < n → mine t q j (output_cell a i) → (q ≡ h.last) × (cs : List Bool) × (r : List ℕ) × IsPosition (ArrayOf b.turns b.result) cs (turn_of l t j ∷ r) × (b.out cs (turn_of l t j ∷ r) ≡ Spot (Output a) i)
    given_out t q j a i ql x =
        let row = row_of l j x.1 in
        let cs = x.3 in
        let r = row ∷ x.4 in
        let inside : IsPosition (result_type (stage q)) cs r = (row_below q j x.1 x.2, x.5) in
        by_destination (stage q).destination
        (λ f ty e. absurd (not_local a i (group_of l j) (f + component ty cs) (flat ty ((stage q).outer r)) (x.6 ∙ copy_cell q j (turn_of l t j) f ty cs r e)))
        (λ e.
        let w : IsPosition (ArrayOf b.turns b.result) cs (turn_of l t j ∷ (stage q).outer r) = (x.0, out_inside q cs r ql e inside) in
        let o = h.out.outs cs (turn_of l t j ∷ (stage q).outer r) w in
        let cells : output_cell a i ≡ output_cell o.0 o.1 = x.6 ∙ out_cell q j (turn_of l t j) cs r e ∙ ap (cell_of l j) o.2 in
        (only_last q ql e, cs, (stage q).outer r, w, o.2 ∙ ap (λ m. Spot (Output (array_number m.array)) m.index) (sym cells)))

    differ : (a i t q j u r m : ℕ) → q < n → r < n → j < item_count l → m < item_count l → mine t q j (output_cell a i) → mine u r m (output_cell a i) → (t ≡ u) × (q ≡ r)
    differ a i t q j u r m ql rl jl ml x y =
        let o = given_out t q j a i ql x in
        let v = given_out u r m a i rl y in
        let turns : turn_of l t j ≡ turn_of l u m = ap first_index (h.out.places o.1 v.1 (turn_of l t j ∷ o.2) (turn_of l u m ∷ v.2) o.3 v.3 (o.4 ∙ sym v.4)) in
        (sym (turn_is (group_of l j) t (across j jl)) ∙ ap (λ z. z / G) turns ∙ turn_is (group_of l m) u (across m ml), o.0 ∙ sym v.0)

    all : (a i : ℕ) → i < length (row wanted a) → (t q : ℕ) × (t < loop_turns l b.turns (group_of l (owner a i))) × (q < n) × mine t q (owner a i) (output_cell a i) × (p.value (group_of l (owner a i)) t (output_cell a i) ≡ slice_index (row wanted a) i)
    all a i lt = let o = h.out.all a i lt in from o.0 o.1 o.2 o.3
      where
        from : (cs : List Bool) (r : List ℕ) → IsPosition (ArrayOf b.turns b.result) cs r → b.out cs r ≡ Spot (Output a) i
            → (t q : ℕ) × (t < loop_turns l b.turns (group_of l (owner a i))) × (q < n) × mine t q (owner a i) (output_cell a i) × (p.value (group_of l (owner a i)) t (output_cell a i) ≡ slice_index (row wanted a) i)
        from cs [] x e = absurd x
        from cs (m ∷ r) x e =
            let s = stage h.last in
            let j : ℕ = owner a i in
            let jl : j < item_count l = h.out.owners_within a i in
            let pos = groups_positive j jl in
            let u = s.path r in
            let rl : first_index u % l.local.0 < l.local.0 = mod-lt (first_index u) h.whole.x.positive in
            let j_is : j ≡ (m % G) * l.local.0 + first_index u % l.local.0 = h.out.owned cs m r a i x e in
            let g : group_of l j ≡ m % G = ap (group_of l) j_is ∙ group_is (m % G) (first_index u % l.local.0) rl in
            let at : j % l.local.0 ≡ first_index u % l.local.0 = ap (λ z. z % l.local.0) j_is ∙ local_is (m % G) (first_index u % l.local.0) rl in
            let t = m / G in
            let te : turn_of l t j ≡ m = ap (λ z. z + t * G) g ∙ sym (owner_turn G m pos) in
            let v = (h.stages h.last last_below).covers cs r (subst (λ z. IsPosition (destination_type b.result z) cs r) (sym h.gives) x.1) in
            let cell : output_cell a i ≡ cell_of l j (goes_to b.out (turn_of l t j) s cs u) = ap (cell_of l j) (sym e) ∙ ap (λ z. cell_of l j (b.out cs (z ∷ r))) (sym te) ∙ ap (λ z. cell_of l j (b.out cs (turn_of l t j ∷ z))) (sym v.1) ∙ sym (out_cell h.last j (turn_of l t j) cs u h.gives) in
            (t, h.last, subst (λ z. t < turns_of b.turns G z) (sym g) (owner_has b.turns G m pos x.0), last_below, target_of_row t h.last j cs u (output_cell a i) (subst (λ z. z < b.turns) (sym te) x.0) v.0 (sym at) cell, refl)

    pub phased : IsPhased p num k l c owner wanted
    phased = record {
      room = record {
        whole = h.whole;
        flat = h.flat;
        some = let e = h.last_is in omega arith;
        turns = h.turns;
        once = h.once;
        forms = λ q ql. (h.stages q ql).turns;
        rows = λ q ql. (h.stages q ql).short;
        variables = h.room;
        fits = λ q ql. (h.stages q ql).fits;
        after_top = λ q ql. (h.stages q ql).after_top;
      };
      types = record {
        top_loads = h.top_loads;
        loads = λ q ql. (h.stages q ql).loads;
        typed = λ q ql. (h.stages q ql).typed;
        declares = λ q ql. (h.stages q ql).declares;
      };
      reads = record {
        given = λ g t a i. refl;
        top = h.top_given;
        inputs = λ t q j v il ql jl cs r x. reads_input t q j (b.ins v cs r) (b.sources v cs r) (given v cs r x);
        envs = envs;
        elements = elements;
      };
      fills = record {
        fillable = fillable;
        choices = λ i q j il ql cs ds r s x y e. (same i q j il ql cs ds r s x y e).0;
        places = λ i q j il ql cs ds r s x y e. (same i q j il ql cs ds r s x y e).1;
        valued = valued;
      };
      writes = record { due = due; differ = differ };
      shape = h.out.shape;
      outputs = record { owners_within = h.out.owners_within; all = all };
    }
