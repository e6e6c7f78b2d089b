-- Kernels printed for a program's typed term: they keep what they owe, they may be started, and the
-- printer's kernel is one.
use Rattle.std.proofs.Common.{◌≡◌, ℕ, zero, suc, ◌+◌, ◌*◌, ◌/◌, ◌%◌, ◌-◌, ◌<◌, ◌≤◌, Bool, true, false, ◌⊎◌, ⊎_elim, List, [], ◌∷◌, ◌++◌, length, get_or, Option, Some, None, refl, sym, ap, ◌∙◌, subst, pos, ◌≤ℤ◌, arith, length-append}
use Rattle.std.specs.Prelude.{map, replicate, slice_get, slice_index}
use Rattle.std.proofs.Math.ListN.{get_or-append}
use Rattle.std.proofs.Math.Seq.{get_or-append_right}
use Rattle.std.proofs.Math.Nat.{mod-eq_of_lt, mul-le-mul_right}
use Rattle.size_arith.specs.declared.names.Name.{Name}
use Rattle.size_arith.specs.declared.poly.Monomial.{Monomial}
use Rattle.size_arith.specs.Polynomial.{value_at}
use Rattle.size_arith.specs.Ranges.{Admissible, sizes_at}
use Rattle.size_arith.specs.Shown.{ShownAtLeast}
use Rattle.size_arith.proofs.Soundness.{shown_at_least}
use Rattle.lift_tree.specs.Lists.{Every}
use Rattle.lift_tree.specs.Tree.{Tree}
use Rattle.lift_tree.specs.Types as types
use Rattle.lift_tree.specs.Types.{PlainTy, IsInput, HaveTypes}
use Rattle.lift_tree.specs.Typing.{Declared, IsDeclared, IsAdmissible}
use Rattle.lift_tree.specs.Values.{Value, Word, array, nth}
use Rattle.lift_tree.specs.Annotations.{Annotation, type_in}
use Rattle.lift_tree.specs.Meaning.{World, meaning}
use Rattle.lift_tree.specs.Launches as launches
use Rattle.lift_tree.specs.Launches.{Asks, IsAdmissibleLaunch, IsFixedSize, buffers_of}
use Rattle.lift_tree.proofs.Members.{length-map}
use Rattle.kernel_tree.specs.Code.{Code, Kernel}
use Rattle.kernel_tree.specs.Launch as kernel_launch
use Rattle.kernel_tree.specs.Launch.{Launch, Cells, IsWhole, HasLocal, MayStart}
use Rattle.kernel_tree.specs.Device.{State, IsStart, row, device_of}
use Rattle.kernel_tree.specs.Alike.{GoesAlike}
use Rattle.lift_ir.specs.Types.{Ty, Scalar, ArrayOf, IsPosition, IsPlaced, component, flat, width, size, measured, IsFlat}
use Rattle.lift_ir.specs.Terms.{HasType, no_type}
use Rattle.lift_ir.specs.Scalars.{Scalars, HasScalars, scalars_in, scalars_of, no_scalars, lists_of}
use Rattle.lift_ir.specs.AtLaunch.{length_at, ty_at, shape_of}
use Rattle.lift_ir.specs.Lowering.{Written, Lowered}
use Rattle.lift_ir.specs.Sources.{Lowers}
use Rattle.lift_ir.proofs.Lists.{lists_long, lists_count, list_holds}
use Rattle.lift_ir.proofs.Lowering.{lowers_is}
use Rattle.lift_ir.proofs.Meaning.{means}
use Rattle.lift_ir.proofs.Named.{names_suffice}
use Rattle.lift_ir.proofs.Numbers.{component_below}
use Rattle.lift_ir.proofs.Typed.{has_is, output_flat}
use Rattle.lift_ir.proofs.Values.{shape_is, has_scalars, same_lists}
use Rattle.printed_form.specs.Headline.{EveryRunKeeps}
use Rattle.printed_form.specs.Whole.{IsCode, IsMadeFor, IsPrinted}
use Rattle.printed_form.specs.Printer.{input_marks, kernel_code}
use Rattle.printed_form.specs.Programs.{input_shape, first_buffer, buffer_count, lowered_root, cell_owner, IsLaunchOf, SameContents, DeclaresFor, declared_kernel, PrintedProgramsKeep, PrintedProgramsStart, ProgramsArePrinted, PrintedProgramsGoAlike, Prints, AreBuffersOf, IsLowerableProgram}
use Rattle.printed_form.proofs.Printed.{code_is}
use Rattle.printed_form.proofs.Whole.{completed}
use Rattle.printed_form.proofs.SameRuns.{codes_alike, nothing_to_meet}
use Rattle.printed_form.proofs.GoAlike.{go_alike}
use Rattle.printed_form.proofs.Theorem.{printed_kernels_keep}

width_is : (ys : List ℕ) (a : PlainTy) → width (ty_at ys a) ≡ width (shape_of a)
width_is ys types.U32 = refl
width_is ys types.U32x4 = refl
width_is ys (types.PairOf a b) = let x = width_is ys a in let y = width_is ys b in omega arith
width_is ys (types.ArrayOf a n) = width_is ys a

-- a declared input has the shape of its type
shape_at : (tys : List PlainTy) (i : ℕ) (a : PlainTy) → slice_get tys i ≡ Some a → input_shape tys i ≡ shape_of a
shape_at [] i a e = absurd (cc)
shape_at (b ∷ tys) zero a e = ap shape_of (same b a e)
  where
    same : (b a : PlainTy) → Some b ≡ Some a → b ≡ a
    same b a e = cc
shape_at (b ∷ tys) (suc i) a e = shape_at tys i a e

-- an input that is declared, or none
pub data Which (tys : List PlainTy) (i : ℕ) : Type 0 where
  Declared' : (a : PlainTy) → slice_get tys i ≡ Some a → Which tys i
  Absent : length tys ≤ i → input_shape tys i ≡ ArrayOf [] Scalar → Which tys i

which : (tys : List PlainTy) (i : ℕ) → Which tys i
which [] i = Absent (omega arith) refl
which (a ∷ tys) zero = Declared' a refl
which (a ∷ tys) (suc i) = go (which tys i)
  where
    go : Which tys i → Which (a ∷ tys) (suc i)
    go (Declared' b e) = Declared' b e
    go (Absent le e) = Absent (omega arith) e

at_some : (P : PlainTy → Type 0) (tys : List PlainTy) (i : ℕ) (a : PlainTy) → Every P tys → slice_get tys i ≡ Some a → P a
at_some P [] i a h e = absurd (cc)
at_some P (b ∷ tys) zero a h e = subst P (same b a e) h.0
  where
    same : (b a : PlainTy) → Some b ≡ Some a → b ≡ a
    same b a e = cc
at_some P (b ∷ tys) (suc i) a h e = at_some P tys i a h.1 e

-- buffers

no_word : (xs : List Value) → Word 0 ≡ array xs → ⊥
no_word [] e = cc
no_word (x ∷ xs) e = cc

input_is_array : (ys : List ℕ) (a : PlainTy) → IsInput a → types.HasType ys a (Word 0) → ⊥
input_is_array ys types.U32 i h = i
input_is_array ys types.U32x4 i h = i
input_is_array ys (types.PairOf a b) i h = i
input_is_array ys (types.ArrayOf a n) i h = no_word h.0 h.1

pub lists_length : (ys : List ℕ) (a : PlainTy) (v : Value) → length (launches.lists_of a v) ≡ width (shape_of a)
lists_length ys a v = ap length (same_lists ys a v) ∙ lists_count (ty_at ys a) v ∙ width_is ys a

-- an input's buffers are its value's lists
row_is : (ys : List ℕ) (tys : List PlainTy) (vs : List Value) (i : ℕ) (a : PlainTy) (c : ℕ) → Every IsInput tys → HaveTypes ys tys vs → slice_get tys i ≡ Some a → c < width (shape_of a) → row (buffers_of tys vs) (first_buffer tys i + c) ≡ row (launches.lists_of a (nth vs i)) c
row_is ys [] vs i a c all h e lt = absurd (cc)
row_is ys (b ∷ tys) [] i a c all h e lt = absurd (input_is_array ys b all.0 (h 0 b refl))
row_is ys (b ∷ tys) (v ∷ vs) zero a c all h e lt =
    let s = same b a e in
    let n = lists_length ys b v in
    ap (λ k. get_or (launches.lists_of b v ++ buffers_of tys vs) k []) (let z : 0 + c ≡ c = omega arith in z)
    ∙ get_or-append (launches.lists_of b v) (buffers_of tys vs) [] c (subst (λ k. c < k) (sym (n ∙ ap (λ z. width (shape_of z)) s)) lt)
    ∙ ap (λ z. get_or (launches.lists_of z v) c []) s
  where
    same : (b a : PlainTy) → Some b ≡ Some a → b ≡ a
    same b a e = cc
row_is ys (b ∷ tys) (v ∷ vs) (suc i) a c all h e lt =
    let n = lists_length ys b v in
    get_or-append_right (launches.lists_of b v) (buffers_of tys vs) (width (shape_of b) + first_buffer tys i + c) [] (omega arith)
    ∙ ap (λ k. get_or (buffers_of tys vs) k []) (let z : width (shape_of b) + first_buffer tys i + c - length (launches.lists_of b v) ≡ first_buffer tys i + c = omega arith in z)
    ∙ row_is ys tys vs i a c all.1 (λ n x y. h (suc n) x y) e lt

pub buffers_count : (ys : List ℕ) (tys : List PlainTy) (vs : List Value) → Every IsInput tys → HaveTypes ys tys vs → length (buffers_of tys vs) ≡ buffer_count tys
buffers_count ys [] vs all h = refl
buffers_count ys (b ∷ tys) [] all h = absurd (input_is_array ys b all.0 (h 0 b refl))
buffers_count ys (b ∷ tys) (v ∷ vs) all h =
    let x = length-append (launches.lists_of b v) (buffers_of tys vs) in
    let y = lists_length ys b v in
    let z = buffers_count ys tys vs all.1 (λ n x y. h (suc n) x y) in
    omega arith

-- launches

pub whole : (l : Launch) (asks : Asks) (names : List Name) (bases : List ℕ) → IsAdmissibleLaunch names asks bases l.global l.local → IsWhole l
whole l asks names bases h = record {
  x = record { positive = (let a = h.local_least.0 in omega arith); divides = parts l.global.0 l.local.0 h.divides.0 (let a = h.local_least.0 in omega arith) };
  y = record { positive = (let a = h.local_least.1 in omega arith); divides = parts l.global.1 l.local.1 h.divides.1 (let a = h.local_least.1 in omega arith) };
}
  where
    parts : (g n : ℕ) → g % n ≡ 0 → 0 < n → g ≡ g / n * n
    parts g n e h = omega arith

-- some items
pub some_items : (g h : ℕ) → 1 ≤ g → 1 ≤ h → 0 < g * h
some_items g h a b = let c = mul-le-mul_right {m = 1} {n = g} h a in omega arith

-- one row, where it is asked for or there is one item
pub one_row : (l : Launch) (asks : Asks) (names : List Name) (bases : List ℕ) → IsAdmissibleLaunch names asks bases l.global l.local → (asks.alone ≡ true) ⊎ (asks.flat ≡ true) → kernel_launch.IsFlat l
one_row l asks names bases h asked = record { one_row = rows; one_local_row = divisor l.global.1 l.local.1 rows h.local_least.1 h.divides.1 }
  where
    rows : l.global.1 ≡ 1
    rows = ⊎_elim (λ e. second l.global.0 l.global.1 h.global_least.0 h.global_least.1 (h.alone e)) h.flat asked
      where
        second : (g k : ℕ) → 1 ≤ g → 1 ≤ k → g * k ≡ 1 → k ≡ 1
        second g k a b e = let c = mul-le-mul_right {m = 1} {n = g} k a in omega arith

    divisor : (g n : ℕ) → g ≡ 1 → 1 ≤ n → g % n ≡ 0 → n ≡ 1
    divisor g zero e a h = absurd (omega arith)
    divisor g (suc zero) e a h = refl
    divisor g (suc (suc n)) e a h = let z : 1 % suc (suc n) ≡ 1 = mod-eq_of_lt {m = suc (suc n)} (omega arith) in let y = ap (λ k. k % suc (suc n)) e in absurd (omega (arith, z, y, h))

pub sizes_count : (names : List Name) (ys : List ℕ) → Admissible names ys → length (sizes_at names ys) ≡ length names
sizes_count [] ys h = refl
sizes_count (n ∷ names) [] h = absurd h
sizes_count (n ∷ names) (y ∷ ys) h = let e = sizes_count names ys h.1 in omega arith

-- lengths that are shown at least a number are so
shown : (d : Declared) (asks : Asks) (bases : List ℕ) (l : Launch) → IsDeclared d → Admissible d.names bases → (j : ℕ) (p : List Monomial) → ShownAtLeast j d.names p → pos j ≤ℤ value_at bases p
shown d asks bases l declared sizes j p s = shown_at_least d.names bases declared.names sizes j p s

abbrev sources_at : Declared → List ℕ → ℕ → Ty
sources_at d bases v = measured (length_at bases) (input_shape d.inputs v)

source_is : (d : Declared) (bases : List ℕ) (i : ℕ) (a : PlainTy) → slice_get d.inputs i ≡ Some a → sources_at d bases i ≡ ty_at bases a
source_is d bases i a e = ap (measured (length_at bases)) (shape_at d.inputs i a e) ∙ shape_is bases a

-- what a program's typed term is lowered to has the type of the output
pub lowered_has : (d : Declared) (asks : Asks) (bases : List ℕ) (t : Tree) (a : Annotation) (l : Launch) → IsLowerableProgram d bases t a → IsLaunchOf d asks bases t a l → HasType (length_at bases) (sources_at d bases) no_type (lowered_root d.names t a) (ty_at bases (type_in a))
lowered_has d asks bases t a l program launch =
    has_is d bases (shown d asks bases l program.declared launch.admissible.sizes) program.declared.inputs (sources_at d bases) (λ i b e. sym (source_is d bases i b e)) t Written [] a tt program.nodes program.lowerable

module _ (d : Declared) (w : World) (declared : IsDeclared d) (ok : IsAdmissible d w) (c : Cells) (held : c.ins ≡ buffers_of d.inputs w.inputs) where
  abbrev source : ℕ → Scalars
  source v = scalars_in (sources_at d w.bases v) (nth w.inputs v)

  pub input_has : (v : ℕ) → v < length d.inputs → HasScalars (sources_at d w.bases v) (nth w.inputs v) (source v)
  input_has v lt = go (which d.inputs v)
    where
      go : Which d.inputs v → HasScalars (sources_at d w.bases v) (nth w.inputs v) (source v)
      go (Declared' a e) = subst (λ z. HasScalars z (nth w.inputs v) (scalars_in z (nth w.inputs v))) (sym (source_is d w.bases v a e)) (has_scalars w.bases a (nth w.inputs v) (ok.inputs v a e))
      go (Absent le e) = absurd (omega arith)

  abbrev Given : ℕ → Ty → Type 0
  Given v ty = (cs : List Bool) (q : List ℕ) → IsPosition ty cs q
      → (flat ty q < length (row c.ins (first_buffer d.inputs v + component ty cs))) × (slice_index (row c.ins (first_buffer d.inputs v + component ty cs)) (flat ty q) ≡ scalars_in ty (nth w.inputs v) cs q)

  given_typed : (v : ℕ) (a : PlainTy) → slice_get d.inputs v ≡ Some a → Given v (ty_at w.bases a)
  given_typed v a e cs q p =
      let ty = ty_at w.bases a in
      let u = nth w.inputs v in
      let i = at_some IsInput d.inputs v a declared.arrays e in
      let below : component ty cs < width (shape_of a) = subst (λ k. component ty cs < k) (width_is w.bases a) (component_below ty cs q p) in
      let here : row c.ins (first_buffer d.inputs v + component ty cs) ≡ row (lists_of ty u) (component ty cs) =
      ap (λ z. row z (first_buffer d.inputs v + component ty cs)) held ∙ row_is w.bases d.inputs w.inputs v a (component ty cs) declared.arrays ok.inputs e below
      ∙ ap (λ z. row z (component ty cs)) (same_lists w.bases a u) in
      let h = list_holds ty u (scalars_in ty u) cs q (output_flat w.bases a i) p (has_scalars w.bases a u (ok.inputs v a e)) in
      (subst (λ z. flat ty q < length z) (sym here) h.0, ap (λ z. slice_index z (flat ty q)) here ∙ h.1)

  pub input_given : (v : ℕ) → Given v (sources_at d w.bases v)
  input_given v = go (which d.inputs v)
    where
      go : Which d.inputs v → Given v (sources_at d w.bases v)
      go (Declared' a e) = subst (Given v) (sym (source_is d w.bases v a e)) (given_typed v a e)
      go (Absent le e) = subst (Given v) (sym (ap (measured (length_at w.bases)) e)) none
        where
          none : Given v (ArrayOf 0 Scalar)
          none cs [] p = absurd p
          none cs (i ∷ q) p = let z = p.0 in absurd (omega arith)

-- a program's printed kernel is one for its term in the intermediate representation
module _ (d : Declared) (asks : Asks) (w : World) (t : Tree) (a : Annotation) (l : Launch) (c : Cells) (program : IsLowerableProgram d w.bases t a) (ok : IsAdmissible d w) (launch : IsLaunchOf d asks w.bases t a l) (buffers : AreBuffersOf d w t a c) where
  abbrev num : List Monomial → ℕ
  num = length_at w.bases

  abbrev result : Ty
  result = ty_at w.bases (type_in a)

  abbrev src : ℕ → Ty
  src = sources_at d w.bases

  abbrev sources : ℕ → Scalars
  sources = source d w program.declared ok c buffers.inputs

  abbrev low : Lowered
  low = lowered_root d.names t a

  pub lowers : Lowers num w 0 (length d.inputs) t low
  lowers = lowers_is d w ok program.declared.few t Written [] a 0 refl program.nodes program.lowerable

  has : HasType num src no_type low result
  has = lowered_has d asks w.bases t a l program launch

  pub flat_type : IsFlat result
  flat_type = output_flat w.bases (type_in a) program.output

  pub given : (v : ℕ) → v < length d.inputs → HasScalars (src v) (nth w.inputs v) (sources v)
  given = input_has d w program.declared ok c buffers.inputs

  -- the source value has the term's scalars
  pub valued : HasScalars result (meaning w [] t) (scalars_of num sources no_scalars low)
  valued = means num w src sources (length d.inputs) given low 0 t no_type [] no_scalars result lowers has (λ i lt. absurd (omega arith))

  pub outputs_long : map length c.outs ≡ replicate (width result) (size result)
  outputs_long = buffers.outputs ∙ ap (map length) (same_lists w.bases (type_in a) (meaning w [] t)) ∙ lists_long result (meaning w [] t) (scalars_of num sources no_scalars low) flat_type valued

  -- the kernel is one for it, whatever its code
  pub made : (k : Kernel) → DeclaresFor d asks.local t a k → IsMadeFor l num src (input_marks num (first_buffer d.inputs) (input_shape d.inputs)) sources low result k c
  made k declares = record {
    whole = whole l asks d.names w.bases launch.admissible;
    flat = λ e. one_row l asks d.names w.bases launch.admissible (launch.asked e);
    some = some_items l.global.0 l.global.1 launch.admissible.global_least.0 launch.admissible.global_least.1;
    few = let z = launch.admissible.global_most in omega arith;
    typed = has;
    flat_type = flat_type;
    variables = declares.variables;
    vectors = declares.vectors;
    privates = declares.privates;
    outputs = outputs_long;
    inputs = input_given d w program.declared ok c buffers.inputs;
  }

  is_printed : (k : Kernel) → Prints d asks.local w.bases t a l k → IsPrinted l num src (input_marks num (first_buffer d.inputs) (input_shape d.inputs)) sources low result k c
  is_printed k printed = record { made = made k printed.declares; code = printed.code }

  keeps : (k : Kernel) → Prints d asks.local w.bases t a l k → EveryRunKeeps k l c (cell_owner d.names w.bases l t a) (launches.lists_of (type_in a) (meaning w [] t))
  keeps k printed =
      subst (EveryRunKeeps k l c (cell_owner d.names w.bases l t a)) (sym (same_lists w.bases (type_in a) (meaning w [] t)))
      (printed_kernels_keep (List Monomial) num l w t (length d.inputs) src (input_marks num (first_buffer d.inputs) (input_shape d.inputs)) sources low result k c lowers given (is_printed k printed))

  programs_go_alike : (k m : Kernel) (s r : State) → Prints d asks.local w.bases t a l k → Prints d asks.local w.bases t a l m → IsStart k l c s → IsStart m l c r → SameContents l s r → GoesAlike (device_of k l c) s (device_of m l c) r
  programs_go_alike k m s r one two start begin same =
      let ins = input_marks num (first_buffer d.inputs) (input_shape d.inputs) in
      let full = completed num l src ins sources low result k c (is_printed k one) s start in
      go_alike false k m l c (whole l asks d.names w.bases launch.admissible) (one.declares.locals ∙ sym two.declares.locals) (one.declares.privates ∙ sym two.declares.privates)
      (codes_alike num l ins low result k.code m.code one.code two.code) s r start begin same full.0 full.1 (nothing_to_meet (device_of m l c) r)

pub printed_programs_keep : PrintedProgramsKeep
printed_programs_keep d asks w t a l k c program ok launch buffers printed = keeps d asks w t a l c program ok launch buffers k printed

-- groups are of the size that is fixed
pub has_local : (local : Option (ℕ × ℕ)) (l : Launch) → IsFixedSize local l.local → HasLocal local l
has_local None l h = tt
has_local (Some size) l h = h

-- a kernel that declares what the term needs may be started at each admissible launch
pub may_start : (d : Declared) (asks : Asks) (w : World) (t : Tree) (a : Annotation) (l : Launch) (k : Kernel) (c : Cells) → IsLowerableProgram d w.bases t a → IsAdmissible d w → IsLaunchOf d asks w.bases t a l → AreBuffersOf d w t a c → DeclaresFor d asks.local t a k → MayStart k l c
may_start d asks w t a l k c program ok launch buffers declares = record {
  whole = whole l asks d.names w.bases launch.admissible;
  small_groups = launch.admissible.local_most;
  few_items = launch.admissible.global_most;
  local = subst (λ size. HasLocal size l) (sym declares.local) (has_local asks.local l launch.admissible.fixed);
  sizes = ap length launch.sizes ∙ sizes_count d.names w.bases launch.admissible.sizes ∙ sym declares.sizes;
  ins = ap length buffers.inputs ∙ buffers_count w.bases d.inputs w.inputs program.declared.arrays ok.inputs ∙ sym declares.inputs;
  outs = sym (length-map length c.outs) ∙ ap length buffers.outputs ∙ length-map length (launches.lists_of (type_in a) (meaning w [] t)) ∙ lists_length w.bases (type_in a) (meaning w [] t) ∙ sym declares.outputs;
}

pub printed_programs_start : PrintedProgramsStart
printed_programs_start d asks w t a l k c program ok launch buffers printed = may_start d asks w t a l k c program ok launch buffers printed.declares

-- a kernel that is made so declares what the term needs
pub declares_so : (d : Declared) (size : Option (ℕ × ℕ)) (t : Tree) (a : Annotation) (code : Code) → DeclaresFor d size t a (declared_kernel d size t a code)
declares_so d size t a code = record { inputs = refl; outputs = refl; sizes = refl; locals = refl; privates = refl; variables = refl; vectors = refl; local = refl }

-- and so does a kernel with another code
pub declares_too : (d : Declared) (size : Option (ℕ × ℕ)) (t : Tree) (a : Annotation) (k : Kernel) (code : Code) → DeclaresFor d size t a k → DeclaresFor d size t a (record k { code = code })
declares_too d size t a k code h = record { inputs = h.inputs; outputs = h.outputs; sizes = h.sizes; locals = h.locals; privates = h.privates; variables = h.variables; vectors = h.vectors; local = h.local }

pub inputs_placed : (bases : List ℕ) (tys : List PlainTy) → Every (λ b. IsPlaced (length_at bases) (shape_of b)) tys → (v : ℕ) → IsPlaced (length_at bases) (input_shape tys v)
inputs_placed bases tys all v = go (which tys v)
  where
    go : Which tys v → IsPlaced (length_at bases) (input_shape tys v)
    go (Declared' b e) = subst (IsPlaced (length_at bases)) (sym (shape_at tys v b e)) (at_some (λ b. IsPlaced (length_at bases) (shape_of b)) tys v b all e)
    go (Absent le e) = subst (IsPlaced (length_at bases)) (sym e) (record { flat = tt; short = (omega arith, tt); small = omega arith })

pub programs_are_printed : ProgramsArePrinted
programs_are_printed d asks bases t a l spell program launch staged stands fours placed spelled =
    let num = length_at bases in
    let low = lowered_root d.names t a in
    let src = sources_at d bases in
    let same = shape_is bases (type_in a) in
    let has = lowered_has d asks bases t a l program launch in
    record {
      declares = declares_so d asks.local t a (kernel_code spell (first_buffer d.inputs) (input_shape d.inputs) low (shape_of (type_in a)));
      code =
          subst (λ z. IsCode l (input_marks num (first_buffer d.inputs) (input_shape d.inputs)) num low z (kernel_code spell (first_buffer d.inputs) (input_shape d.inputs) low (shape_of (type_in a)))) same
          (code_is (List Monomial) l num spell spelled (first_buffer d.inputs) (input_shape d.inputs) low (shape_of (type_in a)) stands fours (subst (λ z. HasType num src no_type low z) (sym same) has) (names_suffice d bases t a program.nodes program.lowerable staged) placed.0 (inputs_placed bases d.inputs placed.1));
    }

pub printed_programs_go_alike : PrintedProgramsGoAlike
printed_programs_go_alike d asks w t a l k m c s r program ok launch buffers one two start begin same = programs_go_alike d asks w t a l c program ok launch buffers k m s r one two start begin same
