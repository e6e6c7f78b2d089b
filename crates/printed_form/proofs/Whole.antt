-- Every run of a printed kernel keeps the headline.
use Rattle.std.proofs.Common.{◌≡◌, ℕ, ◌+◌, ◌*◌, ◌/◌, ◌%◌, ◌<◌, ◌≤◌, ◌^◌, Bool, false, List, [], ◌∷◌, ◌++◌, length, suc, Option, Some, None, refl, sym, ap, ◌∙◌, subst, ⊎_elim, inl, inr, arith}
use Rattle.std.specs.Prelude.{map, slice_index}
use Rattle.std.proofs.lemmas.Bool.{cases_lt, and_parts}
use Rattle.std.proofs.Math.Nat.{mul-div_cancel, mul-le-mul_right, mod-lt}
use Rattle.lift_tree.specs.declared.term.Level.TheVariants as level
use Rattle.lift_tree.specs.declared.term.Dimension.TheVariants.{X, Y}
use Rattle.kernel_tree.specs.declared.events.Event.{Event}
use Rattle.kernel_tree.specs.Formula.{Formula, bound_value}
use Rattle.kernel_tree.specs.Code.{Array, Input, Output, Local, Private, Code, End, Kernel}
use Rattle.kernel_tree.specs.Launch.{Launch, Cells, IsWhole, item_count, column_of, row_of, ids_of}
use Rattle.kernel_tree.specs.Item.{Frame, Item, item, loop_variables, next, Ends}
use Rattle.kernel_tree.specs.Device.{Device, Cell, same_cell, Memory, State, device_of, length_in, row, IsStart, IsRun, AllEnded}
use Rattle.kernel_tree.specs.Deeds.{Deed, Goes, Every}
use Rattle.kernel_tree.specs.Independent.{is_write, Owners, IsAllowed, Agrees, Independent, one_by_one, write_count, AsAllowed}
use Rattle.kernel_tree.specs.Rounds.{Loop, frame_of, Counts}
use Rattle.kernel_tree.specs.EveryRun.{Completes}
use Rattle.kernel_tree.proofs.Bound.{within_bound}
use Rattle.kernel_tree.proofs.Confluence.{same_cell-true}
use Rattle.kernel_tree.proofs.Grouping.{some_items, row_below}
use Rattle.kernel_tree.proofs.Independent.{as_allowed}
use Rattle.kernel_tree.specs.Strides.{turns_of}
use Rattle.kernel_tree.proofs.Stride.{turn_below, turn_past, turn_owner, owner_turn, owner_has}
use Rattle.printed_form.specs.Headline.{output_cell, KeepsHeadline, EveryRunKeeps}
use Rattle.lift_ir.specs.Types.{Ty, ArrayOf, IsPosition, width, size, component, flat, unflat}
use Rattle.lift_ir.specs.Terms.{LoadSet, LoadsScalars, Over, Term, LetArray, Reshape, Map, push, HasType, no_type}
use Rattle.lift_ir.specs.Layouts.{Layout, operand_position, Reshapes, result_position, IsInvertible}
use Rattle.lift_ir.specs.Scalars.{Scalars, at_index, mapped, scalars_of, no_scalars, AreLists}
use Rattle.printed_form.specs.Marks.{Mark, Nowhere, Register, Lane, Spot, Marks, loaded_marks}
use Rattle.printed_form.specs.Counts.{Count, AtMost, more, no_variables, variable_count, private_count, load_count}
use Rattle.printed_form.specs.Form.{argument_marks, IsLoop, IsLoaded, IsWritten, Declares}
use Rattle.printed_form.specs.Runs.{Setting, Known, Fits, Scratch, spot_cell, mark_cell, HoldsAt, Holds, AllHold, DueAt, Due, Wrote, known_after, Ran, Apart}
use Rattle.lift_ir.specs.Owner.{owner_along, owner, is_in_rows}
use Rattle.printed_form.specs.Whole.{IsAlongRow, IsOverLaunch, no_marks, output_marks, IsGiven, IsPrinted}
use Rattle.lift_ir.proofs.Positions.{operand_in, result_in, result_operand}
use Rattle.printed_form.proofs.Cells.{loads_run}
use Rattle.printed_form.proofs.Runs.{at_most, many_more, more_more, fewer, fits_later, fewer_later, later_on, holds_later, all_hold_later, ran_on, after_silence}
use Rattle.printed_form.proofs.Elements.{all_hold_push}
use Rattle.printed_form.proofs.Loops.{at, TurnRuns, looped, Rows, due_unscratched, rest_is}
use Rattle.lift_ir.proofs.Numbers.{component_below, flat_below, component_same, flat_same, unflat_flat, position_at}
use Rattle.lift_ir.proofs.Owner.{owner_below, owner_is, owner_column, owner_row}
use Rattle.printed_form.proofs.Laid.{output_same}
use Rattle.printed_form.proofs.Lengths.{declares, row_long}
use Rattle.printed_form.proofs.Writes.{ran_as, ran_eq, scratch_then, loop_of, in_turn, map_run, gathers, writes}

-- one item's part

module _ {A : Type 0} (num : A → ℕ) (ins : ℕ → Marks) (src : ℕ → Ty) (sources : ℕ → Scalars) (st : Setting) (own : (p i : ℕ) → st.owners (spot_cell st (Private p) i) ≡ Some st.item) (here : st.item < item_count st.device.launch) (whole : IsWhole st.device.launch) (few : item_count st.device.launch < 2 ^ 31) where
  abbrev l : Launch
  l = st.device.launch

  -- so many items in a row, and rows; and the item's column and row
  abbrev across : ℕ
  across = l.global.0

  abbrev down : ℕ
  down = l.global.1

  abbrev column : ℕ
  column = column_of l st.item

  abbrev line : ℕ
  line = row_of l st.item

  column_in : column < across
  column_in = mod-lt st.item (some_items l whole st.item here)

  line_in : line < down
  line_in = row_below l whole st.item here

  few_across : across < 2 ^ 31
  few_across =
      let some : 0 < down = (let z = line_in in omega arith) in
      let wide : 1 * across ≤ down * across = mul-le-mul_right across (let le : 1 ≤ down = omega arith in le) in
      omega arith

  few_down : down < 2 ^ 31
  few_down =
      let some : 0 < across = (let z = column_in in omega arith) in
      let wide : 1 * down ≤ across * down = mul-le-mul_right down (let le : 1 ≤ across = omega arith in le) in
      omega arith

  -- those of a value's scalars of whose positions this holds
  abbrev PartTargets : (List ℕ → Type 0) → Ty → Marks → Scalars → Cell → ℕ → Type 0
  PartTargets P ty w s c v = (cs : List Bool) × (q : List ℕ) × IsPosition ty cs q × P q × (c ≡ mark_cell st (w cs q)) × (v ≡ s cs q)

  -- the item is to write these
  record DuePart (P : List ℕ → Type 0) (a : ℕ) (ty : Ty) (w : Marks) : Type 0 where
    at : (cs : List Bool) (q : List ℕ) → IsPosition ty cs q → P q → DueAt st a (w cs q)
    choices : (cs ds : List Bool) (q p : List ℕ) → IsPosition ty cs q → IsPosition ty ds p → mark_cell st (w cs q) ≡ mark_cell st (w ds p) → cs ≡ ds
    places : (cs ds : List Bool) (q p : List ℕ) → IsPosition ty cs q → IsPosition ty ds p → mark_cell st (w cs q) ≡ mark_cell st (w ds p) → q ≡ p

  abbrev FillsPart : (P : List ℕ → Type 0) → (x : Known) → List Frame → (code rest : Code) → Term A → (ty : Ty) → Marks → Scalars → Type 0
  FillsPart P x fs code rest t ty w s = Ran st x fs code rest (more x.count (variable_count t)) (x.arrays + private_count t) (Scratch x.arrays (x.arrays + private_count t)) (PartTargets P ty w s) (λ y. Unit {0})

  part_unscratched : (P : List ℕ → Type 0) (b a : ℕ) (ty : Ty) (w : Marks) (s : Scalars) → DuePart P a ty w → (c : Cell) (v : ℕ) → PartTargets P ty w s c v → Scratch b a c → ⊥
  part_unscratched P b a ty w s due c v z h = due_unscratched st (λ u. u) ty w s b a (w z.0 z.1) (due.at z.0 z.1 z.2 z.3) (subst (Scratch b a) z.4 h)

  part_at : (P : List ℕ → Type 0) (a b : ℕ) (ty : Ty) (w : Marks) → a ≡ b → DuePart P a ty w → DuePart P b ty w
  part_at P a b ty w e h = subst (λ z. DuePart P z ty w) e h

  part_back : (P : List ℕ → Type 0) (y : Layout A) (u ty : Ty) (w : Marks) (a : ℕ) → IsInvertible y → Reshapes num y u ty → DuePart (λ q. P (operand_position num y q)) a ty w → DuePart P a u (λ cs q. w cs (result_position num y q))
  part_back P y u ty w a turn rel due = record {
    at = λ cs q i o. let b = result_in num y u ty cs q turn rel i in due.at cs (result_position num y q) b.0 (subst P (sym b.1) o);
    choices = λ cs ds q p i j e. due.choices cs ds (result_position num y q) (result_position num y p) (result_in num y u ty cs q turn rel i).0 (result_in num y u ty ds p turn rel j).0 e;
    places = λ cs ds q p i j e.
        let b = result_in num y u ty cs q turn rel i in
        let c = result_in num y u ty ds p turn rel j in
        sym b.1 ∙ ap (operand_position num y) (due.places cs ds (result_position num y q) (result_position num y p) b.0 c.0 e) ∙ c.1;
  }

  -- seen through a layout
  fills_back : (P : List ℕ → Type 0) (y : Layout A) (a : Term A) (u ty : Ty) (w : Marks) (D : Scalars) (x : Known) (fs : List Frame) (code rest : Code) → IsInvertible y → Reshapes num y u ty → FillsPart P x fs code rest a u (λ cs q. w cs (result_position num y q)) D
      → FillsPart (λ q. P (operand_position num y q)) x fs code rest (Reshape y a) ty w (λ cs q. D cs (operand_position num y q))
  fills_back P y a u ty w D x fs code rest turn rel r =
      ran_as st x fs code rest (more x.count (variable_count a)) (x.arrays + private_count a) (more x.count (variable_count a)) (x.arrays + private_count a) (λ k. Unit {0}) (many_more x.count (variable_count a)) (omega arith) (λ m vars z. z) (λ c s. s)
      (λ c v t. let b = result_in num y u ty t.0 t.1 turn rel t.2 in inl (t.0, result_position num y t.1, b.0, subst P (sym b.1) t.3, t.4, t.5 ∙ ap (D t.0) (sym b.1)))
      (λ c v t. (t.0, operand_position num y t.1, operand_in num y u ty t.0 t.1 rel t.2, t.3, t.4 ∙ ap (λ q. mark_cell st (w t.0 q)) (sym (result_operand num y u ty t.0 t.1 turn rel t.2)), t.5)) r

  -- the item's places of a row, and its rows
  abbrev own_place : ℕ → ℕ
  own_place t = column + t * across

  abbrev own_line : ℕ → ℕ
  own_line t = line + t * down

  strides_differ : (first size t u : ℕ) → 0 < size → first + t * size ≡ first + u * size → t ≡ u
  strides_differ first size t u pos e =
      let z : t * size ≡ u * size = omega arith in
      sym (mul-div_cancel t pos) ∙ ap (λ v. v / size) z ∙ mul-div_cancel u pos

  glb_counts : (len : ℕ) (f : Formula) (body rest : Code) → len < 2 ^ 31 → bound_value l.sizes f ≡ Some len → Counts st.device st.item (loop_of st num ins src sources own (Over level.Launch X) f body rest) (turns_of len across column)
  glb_counts len f body rest small h = record {
    bound = len;
    bound_is = h;
    below = λ t lt. turn_below len across column t column_in lt;
    past = turn_past len across column column_in;
    fits = λ t lt. let a = turn_below len across column t column_in lt in let b = few_across in omega arith;
  }

  rows_counts : (len : ℕ) (f : Formula) (body rest : Code) → len < 2 ^ 31 → bound_value l.sizes f ≡ Some len → Counts st.device st.item (loop_of st num ins src sources own (Over level.Launch Y) f body rest) (turns_of len down line)
  rows_counts len f body rest small h = record {
    bound = len;
    bound_is = h;
    below = λ t lt. turn_below len down line t line_in lt;
    past = turn_past len down line line_in;
    fits = λ t lt. let a = turn_below len down line t line_in lt in let b = few_down in omega arith;
  }

  -- the scalars of the item's column
  abbrev InColumn : Term A → List ℕ → Type 0
  InColumn t q = owner_along X num l t q ≡ column

  due_place : (a : ℕ) (n : A) (i : ℕ) (loads : LoadSet) (xs b : Term A) (y : Ty) (w : Marks) → i < num n → i % across ≡ column → DuePart (InColumn (Map (Over level.Launch X) n loads xs b)) a (ArrayOf (num n) y) w → Due st a y (at_index i w)
  due_place a n i loads xs b y w lt o h = record {
    at = λ cs q k. h.at cs (i ∷ q) (lt, k) o;
    choices = λ cs ds q p k j e. h.choices cs ds (i ∷ q) (i ∷ p) (lt, k) (lt, j) e;
    places = λ cs ds q p k j e. rest_is i i q p (h.places cs ds (i ∷ q) (i ∷ p) (lt, k) (lt, j) e);
  }

  places_of : (n : A) (loads : LoadSet) (xs b : Term A) (y : Ty) (w : Marks) (s : Scalars) (c : Cell) (v : ℕ) → PartTargets (InColumn (Map (Over level.Launch X) n loads xs b)) (ArrayOf (num n) y) w s c v → Rows st own_place y w s (turns_of (num n) across column) c v
  places_of n loads xs b y w s c v z = go z.0 z.1 z.2 z.3 z.4 z.5
    where
      go : (cs : List Bool) (q : List ℕ) → IsPosition (ArrayOf (num n) y) cs q → owner_along X num l (Map (Over level.Launch X) n loads xs b) q ≡ column → c ≡ mark_cell st (w cs q) → v ≡ s cs q → Rows st (λ t. column + t * across) y w s (turns_of (num n) across column) c v
      go cs [] i o e z = absurd i
      go cs (j ∷ q) i o e z =
          let pos : 0 < across = (let z = column_in in omega arith) in
          let is : j ≡ column + j / across * across = owner_turn across j pos ∙ ap (λ x. x + j / across * across) o in
          let lt : j / across < turns_of (num n) across column = subst (λ x. j / across < turns_of (num n) across x) o (owner_has (num n) across j pos i.0) in
          (j / across, lt, (cs, q, i.1, e ∙ ap (λ x. mark_cell st (w cs (x ∷ q))) is, z ∙ ap (λ x. s cs (x ∷ q)) is))

  of_places : (n : A) (loads : LoadSet) (xs b : Term A) (y : Ty) (w : Marks) (s : Scalars) (c : Cell) (v : ℕ) → Rows st own_place y w s (turns_of (num n) across column) c v → PartTargets (InColumn (Map (Over level.Launch X) n loads xs b)) (ArrayOf (num n) y) w s c v
  of_places n loads xs b y w s c v r = let t = r.2 in (t.0, own_place r.0 ∷ t.1, (turn_below (num n) across column r.0 column_in r.1, t.2), turn_owner across column r.0 column_in, t.3, t.4)

  -- a map along a row fills the scalars of the item's column
  along : (t : Term A) (ts : List ℕ) (fs : List Frame) → loop_variables fs ≡ ts → (gt : ℕ → Ty) (env : ℕ → Marks) (sems : ℕ → Scalars) (ty : Ty) (w : Marks) (x : Known) (code rest : Code) → HasType num src gt t ty → IsAlongRow l st.item ins num ts env x.arrays x.count t w code rest
      → Fits (more x.count (variable_count t)) x.vars → Declares st.device.lengths x.arrays t → DuePart (InColumn t) (x.arrays + private_count t) ty w → AllHold st x gt env sems → AllHold st x src ins sources → FillsPart (InColumn t) x fs code rest t ty w (scalars_of num sources sems t)
  along (Reshape y a) ts fs at_ts gt env sems ty w x code rest ok h room long due es gs =
      let r = along a ts fs at_ts gt env sems ok.0 (λ cs q. w cs (result_position num y q)) x code rest ok.1 h.1 room long (part_back (InColumn a) y ok.0 ty w (x.arrays + private_count a) h.0 ok.2 due) es gs in
      fills_back (InColumn a) y a ok.0 ty w (scalars_of num sources sems a) x fs code rest h.0 ok.2 r
  along (Map (Over level.Launch X) n loads xs b) ts fs at_ts gt env sems ty w x code rest ok h room long due es gs =
      let len = num n in
      let xt = ok.0 in
      let yt = ok.1 in
      let r = gathers st num ins src sources own xs ts fs at_ts gt env sems (ArrayOf len xt) x code h.0 ok.4 h.1 (fewer room (omega arith) (omega arith)) long.0 es gs in
      let n1 = more x.count (variable_count xs) in
      let a1 = x.arrays + private_count xs in
      let y = known_after x r.deeds r.after n1 a1 in
      let e = argument_marks l ins num env x.arrays xs in
      let D = scalars_of num sources sems xs in
      let s = mapped (λ z. scalars_of num sources (push z sems) b) D in
      let count = turns_of len across column in
      let room2 : Fits (more (more (more x.count (variable_count xs)) (load_count loads)) (variable_count b)) r.after = fewer_later room r.later.kept (omega arith) (omega arith) in
      let M = Map (Over level.Launch X) n loads xs b in
      let due1 : DuePart (InColumn M) (x.arrays + (private_count xs + private_count b)) (ArrayOf len yt) w = subst (λ t. DuePart (InColumn M) (x.arrays + (private_count xs + private_count b)) t w) ok.6 due in
      let a2 = a1 + private_count b in
      let n2 = more x.count (more (variable_count xs) (more (load_count loads) (variable_count b))) in
      let due2 = part_at (InColumn M) (x.arrays + (private_count xs + private_count b)) a2 (ArrayOf len yt) w (omega arith) due1 in
      let es2 = all_hold_later st x y gt env sems r.later es in
      let gs2 = all_hold_later st x y src ins sources r.later gs in
      let T = PartTargets (InColumn M) (ArrayOf len yt) w s in
      let some : 0 < across = (let z = column_in in omega arith) in
      let r2 = map_run st num ins src sources own (Over level.Launch X) own_place count len loads b ts fs gt env sems xt yt e w D y h.0 rest n2 a2 at_ts (λ f body q. glb_counts len f body rest ok.2 q) (λ f body t. refl) (λ t lt. turn_below len across column t column_in lt) (λ t u q. strides_differ column across t u some q) ok.3 due2.places
      (λ t lt. due_place a2 n (own_place t) loads xs b yt w (turn_below len across column t column_in lt) (turn_owner across column t column_in) due2) h.2 room2 r.good es2 gs2
      (λ i lt m vars fs2 inner at2 h2 room3 due3 es3 gs3. writes st num ins src sources own b (ts ++ i ∷ []) fs2 at2 (push xt gt) (push (loaded_marks loads (at_index i e) n1) env) (push (at_index i D) sems) yt (at_index i w) (in_turn st num ins src sources own y loads m vars) inner End ok.5 h2 room3 long.1 due3 es3 gs3)
      (at_most (omega arith) (omega arith)) (omega arith) in
      let r3 = ran_as st y fs h.0 rest n2 a2 n2 a2 (λ k. Unit {0}) (at_most (omega arith) (omega arith)) (omega arith) (λ m vars z. z) (λ c q. q)
      (λ c v q. inl (of_places n loads xs b yt w s c v q)) (λ c v q. places_of n loads xs b yt w s c v q) r2 in
      let r4 = ran_on st x fs code h.0 rest n1 a1 n2 a2 (scratch_then st x.arrays a1 a2 T (omega arith) (omega arith) (part_unscratched (InColumn M) x.arrays a2 (ArrayOf len yt) w s due2)) r r3 in
      subst (λ t. Ran st x fs code rest n2 (x.arrays + (private_count xs + private_count b)) (Scratch x.arrays (x.arrays + (private_count xs + private_count b))) (PartTargets (InColumn M) t w s) (λ k. Unit {0})) (sym ok.6)
      (ran_eq st x fs code rest n2 a2 n2 (x.arrays + (private_count xs + private_count b)) x.arrays refl (omega arith) r4)
  along _ ts fs at_ts gt env sems ty w x code rest ok h room long due es gs = absurd h

  -- the item's own scalars: of its column and its row
  abbrev Own : Term A → List ℕ → Type 0
  Own t q = (owner_along X num l t q ≡ column) × (owner_along Y num l t q ≡ line)

  -- rows of the launch, each filled along

  module _ (n : A) (loads : LoadSet) (xs b : Term A) (gt : ℕ → Ty) (env : ℕ → Marks) (sems : ℕ → Scalars) (xt yt : Ty) (e w : Marks) (D : Scalars) (x : Known) (rest : Code) (small : num n < 2 ^ 31) (suits : LoadsScalars loads xt) (typed : HasType num src (push xt gt) b yt) (long : Declares st.device.lengths x.arrays b)
      (due : DuePart (Own (Map (Over level.Launch Y) n loads xs b)) (x.arrays + private_count b) (ArrayOf (num n) yt) w) (room : Fits (more (more x.count (load_count loads)) (variable_count b)) x.vars) (holds : Holds st x (ArrayOf (num n) xt) e D) (es : AllHold st x gt env sems) (gs : AllHold st x src ins sources) where
    abbrev row_values : Scalars
    row_values = mapped (λ z. scalars_of num sources (push z sems) b) D

    abbrev M : Term A
    M = Map (Over level.Launch Y) n loads xs b

    abbrev count : ℕ
    count = turns_of (num n) down line

    abbrev last : ℕ
    last = x.arrays + private_count b

    line_below : (t : ℕ) → t < count → own_line t < num n
    line_below t lt = turn_below (num n) down line t line_in lt

    line_mine : (t : ℕ) → own_line t % down ≡ line
    line_mine t = turn_owner down line t line_in

    abbrev Line : ℕ → Cell → ℕ → Type 0
    Line t = PartTargets (InColumn b) yt (at_index (own_line t) w) (at_index (own_line t) row_values)

    abbrev Lines : ℕ → Cell → ℕ → Type 0
    Lines t c v = (u : ℕ) × (u < t) × Line u c v

    no_lines : (c : Cell) (v : ℕ) → Lines 0 c v → ⊥
    no_lines c v h = let z = h.1 in omega arith

    line_unscratched : (t : ℕ) → t < count → (c : Cell) (v : ℕ) → Line t c v → Scratch x.arrays last c → ⊥
    line_unscratched t lt c v z h = part_unscratched (Own M) x.arrays last (ArrayOf (num n) yt) w row_values due c v (z.0, own_line t ∷ z.1, (line_below t lt, z.2), (z.3, line_mine t), z.4, z.5) h

    first_is : (i j : ℕ) (q p : List ℕ) → i ∷ q ≡ j ∷ p → i ≡ j
    first_is i j q p r = ap head r
      where
        head : List ℕ → ℕ
        head [] = i
        head (m ∷ q) = m

    lines_apart : (t : ℕ) → t < count → Apart (Scratch x.arrays last) (Lines t) (Scratch x.arrays last) (Line t) (Scratch x.arrays last) (Lines (suc t))
    lines_apart t lt = record {
      targets = λ c v u a b.
          let g = a.2 in
          let al : a.0 < count = (let z = a.1 in omega arith) in
          let same = due.places g.0 b.0 (own_line a.0 ∷ g.1) (own_line t ∷ b.1) (line_below a.0 al, g.2) (line_below t lt, b.2) (sym g.4 ∙ b.4) in
          let some : 0 < down = (let z = line_in in omega arith) in
          never a.0 t a.1 (strides_differ line down a.0 t some (first_is (own_line a.0) (own_line t) g.1 b.1 same));
      first_kept = λ c v a s. line_unscratched a.0 (let z = a.1 in omega arith) c v a.2 s;
      second_free = λ c v b s. line_unscratched t lt c v b s;
      scratch_first = λ c s. s;
      scratch_second = λ c s. s;
      target_first = λ c v a. (a.0, (let z = a.1 in omega arith), a.2);
      target_second = λ c v b. (t, omega arith, b);
      parts = λ c v a. ⊎_elim (λ low. inl (a.0, low, a.2)) (λ high. let z = a.1 in let q : a.0 ≡ t = omega arith in inr (subst (λ i. Line i c v) q a.2)) (cases_lt a.0 t);
    }
      where
        never : (i j : ℕ) → i < j → i ≡ j → ⊥
        never i j lt e = omega arith

    due_line : (t : ℕ) → t < count → DuePart (InColumn b) last yt (at_index (own_line t) w)
    due_line t lt = record {
      at = λ cs q k o. due.at cs (own_line t ∷ q) (line_below t lt, k) (o, line_mine t);
      choices = λ cs ds q p k j r. due.choices cs ds (own_line t ∷ q) (own_line t ∷ p) (line_below t lt, k) (line_below t lt, j) r;
      places = λ cs ds q p k j r. rest_is (own_line t) (own_line t) q p (due.places cs ds (own_line t ∷ q) (own_line t ∷ p) (line_below t lt, k) (line_below t lt, j) r);
    }

    lines_run : (n2 : Count) (a2 : ℕ) → AtMost x.count n2 → x.arrays ≤ a2 → (code : Code)
        → IsLoop l st.item ins (Over level.Launch Y) (num n)
        (λ i body. (inner : Code) × IsLoaded l st.item ins ([] ++ i ∷ []) loads (at_index i e) x.count body inner
        × IsAlongRow l st.item ins num ([] ++ i ∷ []) (push (loaded_marks loads (at_index i e) x.count) env) x.arrays (more x.count (load_count loads)) b (at_index i w) inner End)
        code rest
        → Ran st x [] code rest n2 a2 (Scratch x.arrays last) (Lines count) (λ y. Unit {0})
    lines_run n2 a2 le le2 code h =
        subst (λ c. Ran st x [] c rest n2 a2 (Scratch x.arrays last) (Lines count) (λ y. Unit {0})) (sym h.2)
        (looped st [] p count counted x (Scratch x.arrays last) Lines Line (λ t m vars. Unit {0}) no_lines lines_apart (more (more x.count (load_count loads)) (variable_count b)) last tt turn n2 a2 le le2)
      where
        p : Loop
        p = loop_of st num ins src sources own (Over level.Launch Y) h.0 h.1 rest

        counted : Counts st.device st.item (loop_of st num ins src sources own (Over level.Launch Y) h.0 h.1 rest) count
        counted = rows_counts (num n) h.0 h.1 rest small h.3

        turn : TurnRuns st [] (loop_of st num ins src sources own (Over level.Launch Y) h.0 h.1 rest) count (rows_counts (num n) h.0 h.1 rest small h.3) x (Scratch x.arrays last) Lines Line (λ t m vars. Unit {0}) no_lines lines_apart (more (more x.count (load_count loads)) (variable_count b)) last
        turn t lt m vars later inv =
            let i = own_line t in
            let lt2 : i < num n = line_below t lt in
            let z = at x m vars in
            let fs2 = frame_of st.device st.item (loop_of st num ins src sources own (Over level.Launch Y) h.0 h.1 rest) t ∷ [] in
            let k = h.4 i lt2 (t, refl) in
            let el : Holds st z xt (at_index i e) (at_index i D) = λ cs q a. holds_later st x z (ArrayOf (num n) xt) e D later holds cs (i ∷ q) (lt2, a) in
            let long1 = fits_later room later.kept in
            let r = loads_run st ([] ++ i ∷ []) fs2 refl ins loads xt (at_index i e) (at_index i D) z h.1 k.0 suits k.1 (fewer long1 (omega arith) (omega arith)) el in
            let z2 = known_after z r.deeds r.after (more x.count (load_count loads)) x.arrays in
            let later2 = later_on st x z z2 later r.later in
            let long2 = fits_later long1 r.later.kept in
            let es2 = all_hold_push st z2 xt (loaded_marks loads (at_index i e) x.count) (at_index i D) gt env sems r.good (all_hold_later st x z2 gt env sems later2 es) in
            let r2 = along b ([] ++ i ∷ []) fs2 refl (push xt gt) (push (loaded_marks loads (at_index i e) x.count) env) (push (at_index i D) sems) yt (at_index i w) z2 k.0 End typed k.2 long2 long (due_line t lt) es2 (all_hold_later st x z2 src ins sources later2 gs) in
            ran_on st z fs2 h.1 k.0 End (more x.count (load_count loads)) x.arrays (more (more x.count (load_count loads)) (variable_count b)) last after_silence r r2

    lines_own : (c : Cell) (v : ℕ) → Lines count c v → PartTargets (Own M) (ArrayOf (num n) yt) w row_values c v
    lines_own c v h = let z = h.2 in (z.0, own_line h.0 ∷ z.1, (line_below h.0 h.1, z.2), (z.3, line_mine h.0), z.4, z.5)

    own_lines : (c : Cell) (v : ℕ) → PartTargets (Own M) (ArrayOf (num n) yt) w row_values c v → Lines count c v
    own_lines c v z = go z.0 z.1 z.2 z.3 z.4 z.5
      where
        go : (cs : List Bool) (q : List ℕ) → IsPosition (ArrayOf (num n) yt) cs q → Own M q → c ≡ mark_cell st (w cs q) → v ≡ row_values cs q → Lines count c v
        go cs [] i o r z = absurd i
        go cs (j ∷ q) i o r z =
            let pos : 0 < down = (let z = line_in in omega arith) in
            let is : j ≡ line + j / down * down = owner_turn down j pos ∙ ap (λ y. y + j / down * down) o.1 in
            let lt : j / down < count = subst (λ y. j / down < turns_of (num n) down y) o.1 (owner_has (num n) down j pos i.0) in
            (j / down, lt, (cs, q, i.1, o.0, r ∙ ap (λ y. mark_cell st (w cs (y ∷ q))) is, z ∙ ap (λ y. row_values cs (y ∷ q)) is))

  -- of a term whose launch is one row, or which has a map over rows on top
  tops : (t : Term A) (gt : ℕ → Ty) (env : ℕ → Marks) (sems : ℕ → Scalars) (ty : Ty) (w : Marks) (x : Known) (code rest : Code) → (is_in_rows t ≡ false → line ≡ 0) → HasType num src gt t ty → IsOverLaunch l st.item ins num env x.arrays x.count t w code rest
      → Fits (more x.count (variable_count t)) x.vars → Declares st.device.lengths x.arrays t → DuePart (Own t) (x.arrays + private_count t) ty w → AllHold st x gt env sems → AllHold st x src ins sources → FillsPart (Own t) x [] code rest t ty w (scalars_of num sources sems t)
  tops (Reshape y a) gt env sems ty w x code rest first ok h room long due es gs =
      let r = tops a gt env sems ok.0 (λ cs q. w cs (result_position num y q)) x code rest first ok.1 h.1 room long (part_back (Own a) y ok.0 ty w (x.arrays + private_count a) h.0 ok.2 due) es gs in
      fills_back (Own a) y a ok.0 ty w (scalars_of num sources sems a) x [] code rest h.0 ok.2 r
  tops (LetArray v b) gt env sems ty w x code rest first ok h room long due es gs =
      let r = gathers st num ins src sources own v [] [] refl gt env sems ok.0 x code h.0 ok.1 h.1 (fewer room (omega arith) (omega arith)) long.0 es gs in
      let y = known_after x r.deeds r.after (more x.count (variable_count v)) (x.arrays + private_count v) in
      let room2 : Fits (more (more x.count (variable_count v)) (variable_count b)) r.after = fewer_later room r.later.kept (omega arith) (omega arith) in
      let e = argument_marks l ins num env x.arrays v in
      let D = scalars_of num sources sems v in
      let a2 = x.arrays + private_count v + private_count b in
      let n2 = more (more x.count (variable_count v)) (variable_count b) in
      let due2 = part_at (Own b) (x.arrays + (private_count v + private_count b)) a2 ty w (omega arith) (record { at = due.at; choices = due.choices; places = due.places }) in
      let es2 = all_hold_push st y ok.0 e D gt env sems r.good (all_hold_later st x y gt env sems r.later es) in
      let s = scalars_of num sources (push D sems) b in
      let T = PartTargets (Own b) ty w s in
      let r2 = tops b (push ok.0 gt) (push e env) (push D sems) ty w y h.0 rest first ok.2 h.2 room2 long.1 due2 es2 (all_hold_later st x y src ins sources r.later gs) in
      ran_eq st x [] code rest n2 a2 (more x.count (more (variable_count v) (variable_count b))) (x.arrays + (private_count v + private_count b)) x.arrays (more_more x.count (variable_count v) (variable_count b)) (omega arith)
      (ran_on st x [] code h.0 rest (more x.count (variable_count v)) (x.arrays + private_count v) n2 a2 (scratch_then st x.arrays (x.arrays + private_count v) a2 T (omega arith) (omega arith) (part_unscratched (Own b) x.arrays a2 ty w s due2)) r r2)
  tops (Map (Over level.Launch X) n loads xs b) gt env sems ty w x code rest first ok h room long due es gs =
      let M = Map (Over level.Launch X) n loads xs b in
      let zero_is : line ≡ 0 = first refl in
      let column_due : DuePart (InColumn M) (x.arrays + private_count M) ty w = record { at = λ cs q k o. due.at cs q k (o, none q ∙ sym zero_is); choices = due.choices; places = due.places } in
      let r = along M [] [] refl gt env sems ty w x code rest ok h room long column_due es gs in
      ran_as st x [] code rest (more x.count (variable_count M)) (x.arrays + private_count M) (more x.count (variable_count M)) (x.arrays + private_count M) (λ k. Unit {0}) (many_more x.count (variable_count M)) (omega arith) (λ m vars z. z) (λ c s. s)
      (λ c v t. inl (t.0, t.1, t.2, (t.3, none t.1 ∙ sym zero_is), t.4, t.5)) (λ c v t. (t.0, t.1, t.2, t.3.0, t.4, t.5)) r
    where
      none : (q : List ℕ) → owner_along Y num l (Map (Over level.Launch X) n loads xs b) q ≡ 0
      none q = refl
  tops (Map (Over level.Launch Y) n loads xs b) gt env sems ty w x code rest first ok h room long due es gs =
      let len = num n in
      let xt = ok.0 in
      let yt = ok.1 in
      let r = gathers st num ins src sources own xs [] [] refl gt env sems (ArrayOf len xt) x code h.0 ok.4 h.1 (fewer room (omega arith) (omega arith)) long.0 es gs in
      let n1 = more x.count (variable_count xs) in
      let a1 = x.arrays + private_count xs in
      let y = known_after x r.deeds r.after n1 a1 in
      let e = argument_marks l ins num env x.arrays xs in
      let D = scalars_of num sources sems xs in
      let s = mapped (λ z. scalars_of num sources (push z sems) b) D in
      let room2 : Fits (more (more (more x.count (variable_count xs)) (load_count loads)) (variable_count b)) r.after = fewer_later room r.later.kept (omega arith) (omega arith) in
      let M = Map (Over level.Launch Y) n loads xs b in
      let due1 : DuePart (Own M) (x.arrays + (private_count xs + private_count b)) (ArrayOf len yt) w = subst (λ t. DuePart (Own M) (x.arrays + (private_count xs + private_count b)) t w) ok.6 due in
      let a2 = a1 + private_count b in
      let n2 = more x.count (more (variable_count xs) (more (load_count loads) (variable_count b))) in
      let due2 = part_at (Own M) (x.arrays + (private_count xs + private_count b)) a2 (ArrayOf len yt) w (omega arith) due1 in
      let es2 = all_hold_later st x y gt env sems r.later es in
      let gs2 = all_hold_later st x y src ins sources r.later gs in
      let T = PartTargets (Own M) (ArrayOf len yt) w s in
      let r2 = lines_run n loads xs b gt env sems xt yt e w D y rest ok.2 ok.3 ok.5 long.1 due2 room2 r.good es2 gs2 n2 a2 (at_most (omega arith) (omega arith)) (omega arith) h.0 h.2 in
      let r3 = ran_as st y [] h.0 rest n2 a2 n2 a2 (λ k. Unit {0}) (at_most (omega arith) (omega arith)) (omega arith) (λ m vars z. z) (λ c q. q)
      (λ c v q. inl (lines_own n loads xs b gt env sems xt yt e w D y rest ok.2 ok.3 ok.5 long.1 due2 room2 r.good es2 gs2 c v q)) (λ c v q. own_lines n loads xs b gt env sems xt yt e w D y rest ok.2 ok.3 ok.5 long.1 due2 room2 r.good es2 gs2 c v q) r2 in
      let r4 = ran_on st x [] code h.0 rest n1 a1 n2 a2 (scratch_then st x.arrays a1 a2 T (omega arith) (omega arith) (part_unscratched (Own M) x.arrays a2 (ArrayOf len yt) w s due2)) r r3 in
      subst (λ t. Ran st x [] code rest n2 (x.arrays + (private_count xs + private_count b)) (Scratch x.arrays (x.arrays + (private_count xs + private_count b))) (PartTargets (Own M) t w s) (λ k. Unit {0})) (sym ok.6)
      (ran_eq st x [] code rest n2 a2 n2 (x.arrays + (private_count xs + private_count b)) x.arrays refl (omega arith) r4)
  tops _ gt env sems ty w x code rest first ok h room long due es gs = absurd h

-- the launch

module _ {A : Type 0} (num : A → ℕ) (l : Launch) (src : ℕ → Ty) (ins : ℕ → Marks) (sources : ℕ → Scalars) (t : Term A) (ty : Ty) (k : Kernel) (c : Cells) (h : IsPrinted l num src ins sources t ty k c) (s : State) (start : IsStart k l c s) where
  abbrev d : Device
  d = device_of k l c

  abbrev value : Scalars
  value = scalars_of num sources no_scalars t

  abbrev owner_of : ℕ → ℕ
  owner_of i = owner num l t (unflat ty i)

  abbrev owned : Array → (home index : ℕ) → Option ℕ
  owned (Input a) home i = None
  owned (Output a) home i = Some (owner_of i)
  owned (Local a) home i = None
  owned (Private a) home i = Some home

  abbrev owners : Owners
  owners b = owned b.array b.home b.index

  abbrev setting : ℕ → Setting
  setting j = record { device = d; item = j; owners = owners; locals = 0 }

  abbrev known : ℕ → Known
  known j = record { memory = s.memory; vars = start.vars j; count = no_variables; arrays = 0 }

  given_holds : (j : ℕ) (m : Mark) (v : ℕ) → IsGiven c m v → HoldsAt (setting j) (known j) m v
  given_holds j Nowhere v g = g
  given_holds j (Register r) v g = absurd g
  given_holds j (Lane r i) v g = absurd g
  given_holds j (Spot (Output a) i) v g = absurd g
  given_holds j (Spot (Local a) i) v g = absurd g
  given_holds j (Spot (Private a) i) v g = absurd g
  given_holds j (Spot (Input a) i) v g = record { within = g.0; may = inl refl; filled = tt; holds = start.inputs a i g.0 ∙ g.1 }

  nothing_bound : (j : ℕ) → AllHold (setting j) (known j) no_type no_marks no_scalars
  nothing_bound j v cs [] w = absurd w
  nothing_bound j v cs (i ∷ q) w = let z = w.0 in absurd (omega arith)

  all_given : (j : ℕ) → AllHold (setting j) (known j) src ins sources
  all_given j v cs q w = given_holds j (ins v cs q) (sources v cs q) (h.made.inputs v cs q w)

  -- an output's cell
  here_is : (cs : List Bool) (q : List ℕ) → IsPosition ty cs q → owner_of (flat ty q) ≡ owner num l t q
  here_is cs q w = ap (owner num l t) (unflat_flat ty cs q h.made.flat_type w)

  due_at : (j : ℕ) (cs : List Bool) (q : List ℕ) → IsPosition ty cs q → owner num l t q ≡ j → DueAt (setting j) (0 + private_count t) (output_marks ty cs q)
  due_at j cs q w o =
      let a = component_below ty cs q w in
      let b = flat_below ty cs q h.made.flat_type w in
      let long = row_long c.outs (width ty) (size ty) (0 + component ty cs) h.made.outputs (omega arith) in
      (omega arith, ap Some (here_is cs q w ∙ o), tt)

  same_choices : (j : ℕ) (cs ds : List Bool) (q p : List ℕ) → IsPosition ty cs q → IsPosition ty ds p → mark_cell (setting j) (output_marks ty cs q) ≡ mark_cell (setting j) (output_marks ty ds p) → cs ≡ ds
  same_choices j cs ds q p w z e = let x = output_same (0 + component ty cs) (0 + component ty ds) (ap Cell.array e) in component_same ty cs ds q p w z (omega arith)

  same_places : (j : ℕ) (cs ds : List Bool) (q p : List ℕ) → IsPosition ty cs q → IsPosition ty ds p → mark_cell (setting j) (output_marks ty cs q) ≡ mark_cell (setting j) (output_marks ty ds p) → q ≡ p
  same_places j cs ds q p w z e = flat_same ty cs ds q p h.made.flat_type w z (ap Cell.index e)

  -- private arrays are as long as the term wants them
  declared : Declares (length_in k c) 0 t
  declared = declares (length_in k c) 0 t (λ i lt. let z : 0 + i ≡ i = omega arith in ap (λ j. slice_index k.privates j) z ∙ ap (λ ns. slice_index ns i) h.made.privates)

  own : (j p i : ℕ) → (setting j).owners (spot_cell (setting j) (Private p) i) ≡ Some (setting j).item
  own j p i = refl

  abbrev Mine : ℕ → Cell → ℕ → Type 0
  Mine j b v = (cs : List Bool) × (q : List ℕ) × IsPosition ty cs q × (owner num l t q ≡ j) × (b ≡ mark_cell (setting j) (output_marks ty cs q)) × (v ≡ value cs q)

  abbrev Runs : ℕ → Type 0
  Runs j = Ran (setting j) (known j) [] k.code End (more no_variables (variable_count t)) (0 + private_count t) (Scratch 0 (0 + private_count t)) (Mine j) (λ y. Unit {0})

  -- of a term with no map over rows on top all items lie in one row
  first_line : (j : ℕ) → j < item_count l → is_in_rows t ≡ false → row_of l j ≡ 0
  first_line j lt e = let z = subst (λ n. row_of l j < n) (h.made.flat e).one_row (row_below l h.made.whole j lt) in omega arith

  owner_parts : (j : ℕ) → j < item_count l → (q : List ℕ) → owner num l t q ≡ j → (owner_along X num l t q ≡ column_of l j) × (owner_along Y num l t q ≡ row_of l j)
  owner_parts j lt q o = (owner_column num l t q j h.made.whole lt o, owner_row num l t q j h.made.whole lt o)

  item_runs : (j : ℕ) → j < item_count l → Runs j
  item_runs j lt =
      let room : Fits (more no_variables (variable_count t)) (start.vars j) = (let a = h.made.variables in let b = start.long j lt in let c = h.made.vectors in let e = start.wide j lt in record { words = omega arith; fours = omega arith }) in
      ⊎_elim
      (λ z.
      let only = λ (q : List ℕ). (let a = owner_below num l t q h.made.whole h.made.some in let b = z.0 in let e : owner num l t q ≡ j = omega arith in e) in
      ran_as (setting j) (known j) [] k.code End (more no_variables (variable_count t)) (0 + private_count t) (more no_variables (variable_count t)) (0 + private_count t) (λ y. Unit {0}) (many_more no_variables (variable_count t)) (omega arith) (λ m vars u. u) (λ b u. u)
      (λ b v u. inl (u.0, u.1, u.2, only u.1, u.3, u.4)) (λ b v u. (u.0, u.1, u.2, u.4, u.5))
      (writes (setting j) num ins src sources (own j) t [] [] refl no_type no_marks no_scalars ty (output_marks ty) (known j) k.code End h.made.typed (subst (λ i. IsWritten l i ins num [] no_marks 0 no_variables t (output_marks ty) k.code End) (let b = z.0 in omega arith) z.1) room declared
      (record { at = λ cs q w. due_at j cs q w (only q); choices = same_choices j; places = same_places j }) (nothing_bound j) (all_given j)))
      (λ z.
      ran_as (setting j) (known j) [] k.code End (more no_variables (variable_count t)) (0 + private_count t) (more no_variables (variable_count t)) (0 + private_count t) (λ y. Unit {0}) (many_more no_variables (variable_count t)) (omega arith) (λ m vars u. u) (λ b u. u)
      (λ b v u. inl (u.0, u.1, u.2, owner_is num l t u.1 j u.3.0 u.3.1, u.4, u.5)) (λ b v u. (u.0, u.1, u.2, owner_parts j lt u.1 u.3, u.4, u.5))
      (tops num ins src sources (setting j) (own j) lt h.made.whole h.made.few t no_type no_marks no_scalars ty (output_marks ty) (known j) k.code End (first_line j lt) h.made.typed (z j lt) room declared
      (record { at = λ cs q w o. due_at j cs q w (owner_is num l t q j o.0 o.1); choices = same_choices j; places = same_places j }) (nothing_bound j) (all_given j)))
      h.code

  -- an item's deeds and its end, whatever the number
  record OneItem (j : ℕ) : Type 0 where
    deeds : List Deed
    end : Item
    goes : j < item_count l → (m : Memory) → Agrees owners j s.memory m → Goes d j (s.items j) m deeds end
    allowed : j < item_count l → Every (IsAllowed owners j) deeds
    over : j < item_count l → next (ids_of l j) end ≡ Ends
    wrote : j < item_count l → Wrote (Scratch 0 (0 + private_count t)) (Mine j) s.memory deeds

  one_item : (j : ℕ) → OneItem j
  unfolding next
  one_item j =
      ⊎_elim
      (λ lt. let r = item_runs j lt in record {
        deeds = r.deeds;
        end = item End [] r.after;
        goes = λ below m ag. subst (λ x. Goes d j x m r.deeds (item End [] r.after)) (sym (start.items j lt)) (r.goes m ag);
        allowed = λ below. r.allowed;
        over = λ below. refl;
        wrote = λ below. r.wrote;
      })
      (λ ge. record { deeds = []; end = s.items j; goes = λ lt. absurd (omega arith); allowed = λ lt. absurd (omega arith); over = λ lt. absurd (omega arith); wrote = λ lt. absurd (omega arith) })
      (cases_lt j (item_count l))

  deeds_of : ℕ → List Deed
  deeds_of j = (one_item j).deeds

  ends_of : ℕ → Item
  ends_of j = (one_item j).end

  independent : Independent d s owners deeds_of ends_of
  unfolding deeds_of ends_of
  independent = record { goes = λ j lt. (one_item j).goes lt; allowed = λ j lt. (one_item j).allowed lt; ended = λ j lt. (one_item j).over lt }

  the_run : List Event
  the_run = one_by_one deeds_of (item_count l)

  all : AsAllowed d s owners deeds_of ends_of the_run
  unfolding the_run
  all = as_allowed d s owners deeds_of ends_of independent h.made.whole

  -- the items one after another run to their ends
  pub completed : (es : List Event) × Completes d s es
  completed = (the_run, all.completes)

  -- an output's cell is written once, or it is none of the value's
  few_writes : (j a i : ℕ) → j < item_count l → owner_of i ≡ j → write_count (output_cell a i) (deeds_of j) ≤ 1
  unfolding deeds_of
  few_writes j a i lt o =
      let w = (one_item j).wrote lt in
      let none = λ (n : (v : ℕ) → Mine j (output_cell a i) v → ⊥). (let e = w.quiet (output_cell a i) (λ z. z) n in let r : write_count (output_cell a i) (one_item j).deeds ≤ 1 = omega arith in r) in
      ⊎_elim
      (λ la. ⊎_elim
      (λ li.
      let p = position_at ty a i h.made.flat_type la li in
      let cell : output_cell a i ≡ output_cell (0 + component ty p.0) (flat ty (unflat ty i)) = ap (λ x. output_cell x i) (let z = p.2 in let e : a ≡ 0 + component ty p.0 = omega arith in e) ∙ ap (output_cell (0 + component ty p.0)) (sym p.3) in
      let e = w.once (output_cell a i) (value p.0 (unflat ty i)) (p.0, unflat ty i, p.1, o, cell, refl) in
      omega arith)
      (λ gi. none (λ v m. let b = flat_below ty m.0 m.1 h.made.flat_type m.2 in let e = ap Cell.index m.4 in absurd (omega arith)))
      (cases_lt i (size ty)))
      (λ ga. none (λ v m. let b = component_below ty m.0 m.1 m.2 in let e = output_same a (0 + component ty m.0) (ap Cell.array m.4) in absurd (omega arith)))
      (cases_lt a (width ty))

  owner_named : (a i j : ℕ) (b : Cell) → b ≡ output_cell a i → owners b ≡ Some j → j ≡ owner_of i
  owner_named a i j b e o = let p : Some (owner_of i) ≡ Some j = ap owners (sym e) ∙ o in cc

  module _ (lists : List (List ℕ)) (shape : map length lists ≡ map length c.outs) (listed : AreLists ty value lists) where
    in_range : (i : ℕ) → owner_of i < item_count l
    in_range i = owner_below num l t (unflat ty i) h.made.whole h.made.some

    -- a scalar of the lists is its owner's
    listed_mine : (a i : ℕ) → i < length (row lists a) → Mine (owner_of i) (output_cell a i) (slice_index (row lists a) i)
    listed_mine a i lt =
        let p = listed a i lt in
        let cell : output_cell a i ≡ output_cell (0 + component ty p.0) (flat ty p.1) = ap (λ x. output_cell x i) (let z = p.3 in let e : a ≡ 0 + component ty p.0 = omega arith in e) ∙ ap (output_cell (0 + component ty p.0)) (sym p.4) in
        (p.0, p.1, p.2, sym (here_is p.0 p.1 p.2) ∙ ap owner_of p.4, cell, p.5)

    keeps : (es : List Event) → IsRun d s es → KeepsHeadline k l c (λ a i. owner_of i) lists s es
    unfolding deeds_of ends_of
    keeps es r = record {
      leaves = record {
        shape = shape;
        faultless = all.every.faultless es r;
        bounded = within_bound k l c s es h.made.whole start r (all.every.faultless es r).no_failure;
        at_most_once = λ a i.
            let x = all.every.count es r (is_write (output_cell a i)) in
            let y = all.counted (owner_of i) (in_range i) (output_cell a i) refl in
            let z = few_writes (owner_of i) a i (in_range i) refl in
            omega arith;
        ended = λ stuck. subst (AllEnded d) (sym (all.every.ends es r stuck)) (λ j lt. ap (next (ids_of l j)) (all.ended j lt) ∙ independent.ended j lt);
        once = λ stuck a i lt.
            all.every.end_count es r stuck (is_write (output_cell a i)) ∙ all.counted (owner_of i) (in_range i) (output_cell a i) refl
            ∙ ((one_item (owner_of i)).wrote (in_range i)).once (output_cell a i) (slice_index (row lists a) i) (listed_mine a i lt);
        left = λ stuck a i lt.
            ap (λ z. z.memory (output_cell a i)) (all.every.ends es r stuck) ∙ all.owned (owner_of i) (in_range i) (output_cell a i) refl
            ∙ ((one_item (owner_of i)).wrote (in_range i)).holds (output_cell a i) (slice_index (row lists a) i) (listed_mine a i lt);
      };
      by_owner = λ x among a i w.
          let parts = and_parts x.writes (same_cell x.cell (output_cell a i)) w in
          owner_named a i x.item x.cell (same_cell-true x.cell (output_cell a i) parts.1) ((all.proper x (all.every.among es r x among)).writes parts.0);
    }

pub every_run_keeps : {A : Type 0} (num : A → ℕ) (l : Launch) (src : ℕ → Ty) (ins : ℕ → Marks) (sources : ℕ → Scalars) (t : Term A) (ty : Ty) (k : Kernel) (c : Cells) (lists : List (List ℕ)) → IsPrinted l num src ins sources t ty k c → map length lists ≡ map length c.outs → AreLists ty (scalars_of num sources no_scalars t) lists
    → EveryRunKeeps k l c (λ a i. owner num l t (unflat ty i)) lists
every_run_keeps num l src ins sources t ty k c lists h shape listed s es start r = keeps num l src ins sources t ty k c h s start lists shape listed es r
