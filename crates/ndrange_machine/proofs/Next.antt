-- What the machine's lines want is what the work-item does next.
use Rattle.std.proofs.Common.{◌≡◌, ℕ, ◌+◌, ◌-◌, ◌%◌, ◌<◌, ◌≤◌, ◌^◌, zero, suc, List, [], ◌∷◌, ◌++◌, length, take, Option, Some, None, Bool, true, false, refl, sym, ap, ◌∙◌, subst, arith, add-one, length-append}
use Rattle.std.proofs.lemmas.Option.{slice_get_past}
use Rattle.std.specs.Prelude.{map, slice_get, slice_set, nat_lt, if◌then◌else◌}
use Rattle.std.proofs.lemmas.List.{length-map, map-append, take_at, set_at}
use Rattle.std.proofs.lemmas.Bool.{lt-ltb, ltb-true}
use Rattle.kernel_tree.specs.declared.tree.Expr.{Expr}
use Rattle.kernel_tree.specs.declared.tree.Array as held_array
use Rattle.kernel_tree.specs.declared.tree.Start as held_start
use Rattle.kernel_tree.specs.declared.tree.Stride as held_stride
use Rattle.kernel_tree.specs.declared.events.FaultKind.{FaultKind}
use Rattle.kernel_tree.specs.declared.events.FaultKind.TheVariants.{Race, OutOfRange, ZeroDivisor, Divergent, LoopWrap}
use Rattle.kernel_tree.specs.Formula.{Formula, Ids, Four, Vars, set_word, set_vector, value, bound_value, lanes_value}
use Rattle.kernel_tree.specs.Code.{Start, Stride, start_value, stride_value, Statement, Code, End, Performs, Loops, Guards, then_rest}
use Rattle.kernel_tree.specs.Tree.{formula_of, lanes_of, array_of, start_of, stride_of}
use Rattle.kernel_tree.specs.Item as kernel_item
use Rattle.kernel_tree.specs.Item.{Frame, Item, item, loop_variables, Wants, with_value, tested, next_turn, perform, next_at}
use Rattle.ndrange_machine.specs.declared.line.Line as held
use Rattle.ndrange_machine.specs.declared.line.Line.TheVariants as held_line
use Rattle.ndrange_machine.specs.declared.change.Change.TheVariants.{Sets, SetsFour, Begins, Repeats, Leaves, Keeps}
use Rattle.ndrange_machine.specs.declared.turn.Turn.{Turn}
use Rattle.ndrange_machine.specs.declared.four.Four as held_words
use Rattle.ndrange_machine.specs.declared.want.Want.{Want}
use Rattle.ndrange_machine.specs.declared.want.Want.TheVariants.{Ends, Waits, Fails, Changes, Reads, Writes, ReadsFour, WritesFour}
use Rattle.ndrange_machine.specs.Changes.{changed}
use Rattle.ndrange_machine.specs.ItemView.{ItemView}
use Rattle.ndrange_machine.specs.Known.{four_of, held_four, turn_of, turns_of, variables}
use Rattle.ndrange_machine.specs.Lines.{Line, Does, Test, Head, Tail, depth, exit_of, past_if, head_of, IsAt, HaveRoom, AreNumbered}
use Rattle.ndrange_machine.specs.Stands.{HoldsItem}
use Rattle.ndrange_machine.specs.Wants.{text_of, last_of, want_if, turn_after, want_head, want_test, want_turn, want_last, want_back, want_in, wanted}
use Rattle.ndrange_machine.proofs.Places.{drop_within, drop_beyond, frame, depth-then}
use Rattle.ndrange_machine.proofs.Places as places

-- the machine holds a work-item whole
pub record Stands (lines : List Line) (it : ItemView) (x : Item) : Type 0 where
  pub holds : HoldsItem lines it x
  pub vars : it.vars ≡ x.vars

-- a fault that an item has by itself, wherever it stands
abbrev pub IsOwnFault : FaultKind → Type 0
IsOwnFault ZeroDivisor = Unit {0}
IsOwnFault LoopWrap = Unit {0}
IsOwnFault Race = ⊥
IsOwnFault OutOfRange = ⊥
IsOwnFault Divergent = ⊥

-- what the lines want of a work-item is what it does next
abbrev pub IsNext : (lines : List Line) → ItemView → Want → Wants → Type 0
IsNext lines it Ends w = (w ≡ kernel_item.Ends) × (length lines ≤ it.line)
IsNext lines it (Waits p q to) w = (x : Item) × (w ≡ kernel_item.Waits p q x) × Stands lines (changed it Keeps to) x × (it.line < length lines)
IsNext lines it (Fails kind) w = (w ≡ kernel_item.Fails kind) × (it.line < length lines) × IsOwnFault kind
IsNext lines it (Changes c to) w = (x : Item) × (w ≡ kernel_item.Moves x) × Stands lines (changed it c to) x × (it.line < length lines)
IsNext lines it (Reads v a i to) w = (f : ℕ → Item) × (w ≡ kernel_item.Reads (array_of a) i f) × ((y : ℕ) → Stands lines (changed it (Sets v y) to) (f y)) × (it.line < length lines)
IsNext lines it (Writes a i y to) w = (x : Item) × (w ≡ kernel_item.Writes (array_of a) i y x) × Stands lines (changed it Keeps to) x × (it.line < length lines)
IsNext lines it (ReadsFour v a n to) w = (f : Four → Item) × (w ≡ kernel_item.ReadsFour (array_of a) n f) × ((u : held_words.Four) → Stands lines (changed it (SetsFour v u) to) (f (four_of u))) × (it.line < length lines)
IsNext lines it (WritesFour a n u to) w = (x : Item) × (w ≡ kernel_item.WritesFour (array_of a) n (four_of u) x) × Stands lines (changed it Keeps to) x × (it.line < length lines)

pub variables_of : (fs : List Frame) → variables (turns_of fs) ≡ loop_variables fs
variables_of [] = refl
variables_of (f ∷ fs) = map-append (λ t. t.variable) (turns_of fs) (turn_of f ∷ []) ∙ ap (λ vs. vs ++ f.variable ∷ []) (variables_of fs)

length_turns : (fs : List Frame) → length (turns_of fs) ≡ length fs
length_turns [] = refl
length_turns (f ∷ fs) = length-append (turns_of fs) (turn_of f ∷ []) ∙ (let a = length_turns fs in omega arith)

-- a line by its text
is_test : (l : held.Line) (s : Start) (b : Formula) (n : ℕ) → text_of l ≡ Test s b n → (t : held_start.Start) × (d : Expr) × (l ≡ held_line.Test t d n) × (start_of t ≡ s) × (formula_of d ≡ b)
is_test (held_line.Test t d m) s b n h = (t, d, ap (λ u. held_line.Test t d u) cc, cc, cc)
is_test _ s b n h = cc

is_head : (l : held.Line) (s : Start) (b : Formula) (c : Stride) (n : ℕ) → text_of l ≡ Head s b c n → (t : held_start.Start) × (d : Expr) × (k : held_stride.Stride) × (l ≡ held_line.Head t d k n) × (start_of t ≡ s) × (formula_of d ≡ b) × (stride_of k ≡ c)
is_head (held_line.Head t d k m) s b c n h = (t, d, k, ap (λ u. held_line.Head t d k u) cc, cc, cc, cc)
is_head _ s b c n h = cc

is_tail : (l : held.Line) (n : ℕ) → text_of l ≡ Tail n → l ≡ held_line.Tail n
is_tail (held_line.Tail m) n h = ap held_line.Tail cc
is_tail _ n h = cc

same_statement : (s u : Statement) → Does s ≡ Does u → s ≡ u
same_statement s u h = cc

held_at : (ls : List held.Line) (n : ℕ) (t : Line) → slice_get (map text_of ls) n ≡ Some t → (l : held.Line) × (slice_get ls n ≡ Some l) × (text_of l ≡ t)
held_at [] zero t h = cc
held_at [] (suc n) t h = cc
held_at (l ∷ ls) zero t h = (l, refl, cc)
held_at (l ∷ ls) (suc n) t h = held_at ls n t h

last_push : {A : Type 0} (xs : List A) (x : A) → length (xs ++ x ∷ []) - 1 ≡ length xs
last_push xs x = let a = length-append xs (x ∷ []) in omega arith

get_push : {A : Type 0} (xs : List A) (x : A) → slice_get (xs ++ x ∷ []) (length xs) ≡ Some x
get_push [] x = refl
get_push (y ∷ xs) x = get_push xs x

last_of_push : (xs : List Turn) (x : Turn) → last_of (xs ++ x ∷ []) ≡ Some x
last_of_push xs x = ap (slice_get (xs ++ x ∷ [])) (last_push xs x) ∙ get_push xs x

module _ (ls : List held.Line) (ids : Ids) (room : ℕ) (strides : (c : Stride) → 0 < stride_value ids c) where
  abbrev view : ℕ → List Frame → Vars → ItemView
  view n fs vars = record { line = n; turns = turns_of fs; room = room; vars = vars }

  -- an item at the line n in these loops, which has room for those to come
  abbrev Fits : List Frame → Code → Type 0
  Fits fs code = AreNumbered fs × (length fs + depth code ≤ room) × HaveRoom room fs

  on : (n : ℕ) (code : Code) (fs : List Frame) (vars : Vars) → Fits fs code → IsAt (map text_of ls) (suc n) (item code fs vars) → Stands (map text_of ls) (view (n + 1) fs vars) (item code fs vars)
  on n code fs vars fits at = record {
    holds = record {
      place = subst (λ m. IsAt (map text_of ls) m (item code fs vars)) (sym (add-one n)) at;
      turns = refl;
      numbered = fits.0;
      room = fits.1;
      rooms = fits.2;
    };
    vars = refl;
  }

  at_line : (n : ℕ) (code : Code) (fs : List Frame) (vars : Vars) → Fits fs code → IsAt (map text_of ls) n (item code fs vars) → Stands (map text_of ls) (view n fs vars) (item code fs vars)
  at_line n code fs vars fits at = record {
    holds = record { place = at; turns = refl; numbered = fits.0; room = fits.1; rooms = fits.2 };
    vars = refl;
  }

  module _ (n : ℕ) (fs : List Frame) (vars : Vars) (within : n < length (map text_of ls)) where
    -- at a line that is a statement without a block, whatever holds it
    module _ (after : Code) (fits : Fits fs after) (at : (new : Vars) → IsAt (map text_of ls) (suc n) (item after fs new)) where
      onward : (new : Vars) → Stands (map text_of ls) (view (n + 1) fs new) (item after fs new)
      onward new = on n after fs new fits (at new)

      if_sets : (v : ℕ) (o : Option ℕ) → IsNext (map text_of ls) (view n fs vars) (want_if o (λ x. Changes (Sets v x) (n + 1))) (with_value o (λ x. kernel_item.Moves (item after fs (set_word vars v x))))
      if_sets v None = (refl, within, tt)
      if_sets v (Some x) = (item after fs (set_word vars v x), refl, onward (set_word vars v x), within)

      if_reads : (v : ℕ) (a : held_array.Array) (o : Option ℕ) → IsNext (map text_of ls) (view n fs vars) (want_if o (λ i. Reads v a i (n + 1))) (with_value o (λ i. kernel_item.Reads (array_of a) i (λ x. item after fs (set_word vars v x))))
      if_reads v a None = (refl, within, tt)
      if_reads v a (Some i) = ((λ x. item after fs (set_word vars v x)), refl, λ x. onward (set_word vars v x), within)

      if_writes : (a : held_array.Array) (o p : Option ℕ) → IsNext (map text_of ls) (view n fs vars) (want_if o (λ i. want_if p (λ x. Writes a i x (n + 1)))) (with_value o (λ i. with_value p (λ x. kernel_item.Writes (array_of a) i x (item after fs vars))))
      if_writes a None p = (refl, within, tt)
      if_writes a (Some i) None = (refl, within, tt)
      if_writes a (Some i) (Some x) = (item after fs vars, refl, onward vars, within)

      if_sets_four : (v : ℕ) (o : Option Four) → IsNext (map text_of ls) (view n fs vars) (want_if o (λ u. Changes (SetsFour v (held_four u)) (n + 1))) (with_value o (λ u. kernel_item.Moves (item after fs (set_vector vars v u))))
      if_sets_four v None = (refl, within, tt)
      if_sets_four v (Some u) = (item after fs (set_vector vars v u), refl, onward (set_vector vars v u), within)

      if_reads_four : (v : ℕ) (a : held_array.Array) (o : Option ℕ) → IsNext (map text_of ls) (view n fs vars) (want_if o (λ i. ReadsFour v a i (n + 1))) (with_value o (λ i. kernel_item.ReadsFour (array_of a) i (λ u. item after fs (set_vector vars v u))))
      if_reads_four v a None = (refl, within, tt)
      if_reads_four v a (Some i) = ((λ u. item after fs (set_vector vars v u)), refl, λ u. onward (set_vector vars v (four_of u)), within)

      if_writes_four : (a : held_array.Array) (o : Option ℕ) (p : Option Four) → IsNext (map text_of ls) (view n fs vars) (want_if o (λ i. want_if p (λ u. WritesFour a i (held_four u) (n + 1)))) (with_value o (λ i. with_value p (λ u. kernel_item.WritesFour (array_of a) i u (item after fs vars))))
      if_writes_four a None p = (refl, within, tt)
      if_writes_four a (Some i) None = (refl, within, tt)
      if_writes_four a (Some i) (Some u) = (item after fs vars, refl, onward vars, within)

      -- what the line wants is what the statement does, by the values that the machine's turns tell
      abbrev IsPerformed : held.Line → Statement → Type 0
      IsPerformed l s = IsNext (map text_of ls) (view n fs vars) (want_in ls ids n (turns_of fs) vars (Some l)) (perform ids (variables (turns_of fs)) vars s (λ new. item after fs new))

      performed : (l : held.Line) (s : Statement) → text_of l ≡ Does s → IsPerformed l s
      performed (held_line.Assign v e) s h = subst (IsPerformed (held_line.Assign v e)) (same_statement _ s h) (if_sets v (value ids (variables (turns_of fs)) vars (formula_of e)))
      performed (held_line.Load v a i) s h = subst (IsPerformed (held_line.Load v a i)) (same_statement _ s h) (if_reads v a (value ids (variables (turns_of fs)) vars (formula_of i)))
      performed (held_line.Store a i e) s h = subst (IsPerformed (held_line.Store a i e)) (same_statement _ s h) (if_writes a (value ids (variables (turns_of fs)) vars (formula_of i)) (value ids (variables (turns_of fs)) vars (formula_of e)))
      performed (held_line.AssignFour v e) s h = subst (IsPerformed (held_line.AssignFour v e)) (same_statement _ s h) (if_sets_four v (lanes_value ids (variables (turns_of fs)) vars (lanes_of e)))
      performed (held_line.LoadFour v a i) s h = subst (IsPerformed (held_line.LoadFour v a i)) (same_statement _ s h) (if_reads_four v a (value ids (variables (turns_of fs)) vars (formula_of i)))
      performed (held_line.StoreFour a i e) s h = subst (IsPerformed (held_line.StoreFour a i e)) (same_statement _ s h) (if_writes_four a (value ids (variables (turns_of fs)) vars (formula_of i)) (lanes_value ids (variables (turns_of fs)) vars (lanes_of e)))
      performed (held_line.Barrier p q) s h = subst (IsPerformed (held_line.Barrier p q)) (same_statement _ s h) (item after fs vars, refl, onward vars, within)
      performed _ s h = cc

    if_tests : (x exit : ℕ) (inside after : Code) → Fits fs inside → Fits fs after → IsAt (map text_of ls) (suc n) (item inside fs vars) → IsAt (map text_of ls) exit (item after fs vars) → (o : Option ℕ)
        → IsNext (map text_of ls) (view n fs vars) (want_if o (λ k. if nat_lt x k then Changes Keeps (n + 1) else Changes Keeps exit)) (with_value o (λ k. kernel_item.Moves (if nat_lt x k then item inside fs vars else item after fs vars)))
    if_tests x exit inside after fits fit in_ past None = (refl, within, tt)
    if_tests x exit inside after fits fit in_ past (Some k) = by_test (nat_lt x k)
      where
        by_test : (t : Bool) → IsNext (map text_of ls) (view n fs vars) (if t then Changes Keeps (n + 1) else Changes Keeps exit) (kernel_item.Moves (if t then item inside fs vars else item after fs vars))
        by_test true = (item inside fs vars, refl, on n inside fs vars fits in_, within)
        by_test false = (item after fs vars, refl, at_line exit after fs vars fit past, within)

    if_begins : (x exit : ℕ) (b : Formula) (c : Stride) (body after : Code) → Fits (frame 0 x b c body after ∷ fs) body → Fits fs after → IsAt (map text_of ls) (suc n) (item body (frame 0 x b c body after ∷ fs) vars) → IsAt (map text_of ls) exit (item after fs vars) → (o : Option ℕ)
        → IsNext (map text_of ls) (view n fs vars) (want_if o (λ k. if nat_lt x k then Changes (Begins (record { number = 0; variable = x })) (n + 1) else Changes Keeps exit)) (with_value o (λ k. tested k (frame 0 x b c body after) fs vars))
    if_begins x exit b c body after fits fit in_ past None = (refl, within, tt)
    if_begins x exit b c body after fits fit in_ past (Some k) = by_test (nat_lt x k)
      where
        f : Frame
        f = frame 0 x b c body after

        low : length (turns_of fs) < room
        low = let a = length_turns fs in let r = fits.1 in omega arith

        pushed : turns_of fs ++ turn_of (frame 0 x b c body after) ∷ [] ≡ (if nat_lt (length (turns_of fs)) room then turns_of fs ++ record { number = 0; variable = x } ∷ [] else turns_of fs)
        pushed = ap (λ t. if t then turns_of fs ++ record { number = 0; variable = x } ∷ [] else turns_of fs) (sym (lt-ltb (length (turns_of fs)) room low))

        by_test : (t : Bool) → IsNext (map text_of ls) (view n fs vars) (if t then Changes (Begins (record { number = 0; variable = x })) (n + 1) else Changes Keeps exit) (kernel_item.Moves (if t then item body (frame 0 x b c body after ∷ fs) vars else item after fs vars))
        by_test true =
            let s = on n body (frame 0 x b c body after ∷ fs) vars fits in_ in
            (item body (frame 0 x b c body after ∷ fs) vars, refl, record { holds = record { place = s.holds.place; turns = sym pushed; numbered = s.holds.numbered; room = s.holds.room; rooms = s.holds.rooms }; vars = refl }, within)
        by_test false = (item after fs vars, refl, at_line exit after fs vars fit past, within)

    if_turns : (f : Frame) (y head : ℕ) → (next_turn ids f).variable ≡ y → f.turn ≤ f.variable → f.variable < y → Fits (next_turn ids f ∷ fs) f.body → Fits fs f.after → IsAt (map text_of ls) (suc head) (item f.body (next_turn ids f ∷ fs) vars) → IsAt (map text_of ls) (suc n) (item f.after fs vars) → (o : Option ℕ)
        → IsNext (map text_of ls) (view n (f ∷ fs) vars) (want_if o (λ k. if nat_lt y (2 ^ 32) then (if nat_lt y k then Changes (Repeats (turn_after (turn_of f) y)) (head + 1) else Changes Leaves (suc n)) else Fails LoopWrap))
        (with_value o (λ k. if nat_lt (next_turn ids f).variable (2 ^ 32) then tested k (next_turn ids f) fs vars else kernel_item.Fails LoopWrap))
    if_turns f y head e numbered more fits fit again past None = (refl, within, tt)
    if_turns f y head e numbered more fits fit again past (Some k) =
        subst
        (λ z. IsNext (map text_of ls) (view n (f ∷ fs) vars) (if nat_lt y (2 ^ 32) then (if nat_lt y k then Changes (Repeats (turn_after (turn_of f) y)) (head + 1) else Changes Leaves (suc n)) else Fails LoopWrap) (if nat_lt z (2 ^ 32) then kernel_item.Moves (if nat_lt z k then item f.body (next_turn ids f ∷ fs) vars else item f.after fs vars) else kernel_item.Fails LoopWrap))
        (sym e)
        (by_tests (nat_lt y (2 ^ 32)) (nat_lt y k) refl)
      where
        same_turn : nat_lt y (2 ^ 32) ≡ true → turn_of (next_turn ids f) ≡ turn_after (turn_of f) y
        same_turn low =
            let lt = ltb-true y (2 ^ 32) low in
            let number : suc f.turn ≡ (f.turn + 1) % 2 ^ 32 = omega arith in
            ap (λ v. record { number = suc f.turn; variable = v }) e ∙ ap (λ m. record { number = m; variable = y }) number

        set_last : (t : Turn) → slice_set (turns_of fs ++ turn_of f ∷ []) (length (turns_of fs ++ turn_of f ∷ []) - 1) t ≡ turns_of fs ++ t ∷ []
        set_last t = ap (λ m. slice_set (turns_of fs ++ turn_of f ∷ []) m t) (last_push (turns_of fs) (turn_of f)) ∙ set_at (turns_of fs) (turn_of f) [] t (length (turns_of fs)) refl

        but_last : take (length (turns_of fs ++ turn_of f ∷ []) - 1) (turns_of fs ++ turn_of f ∷ []) ≡ turns_of fs
        but_last = ap (λ m. take m (turns_of fs ++ turn_of f ∷ [])) (last_push (turns_of fs) (turn_of f)) ∙ take_at (turns_of fs) (turn_of f ∷ []) (length (turns_of fs)) refl

        by_tests : (t u : Bool) → nat_lt y (2 ^ 32) ≡ t → IsNext (map text_of ls) (view n (f ∷ fs) vars) (if t then (if u then Changes (Repeats (turn_after (turn_of f) y)) (head + 1) else Changes Leaves (suc n)) else Fails LoopWrap) (if t then kernel_item.Moves (if u then item f.body (next_turn ids f ∷ fs) vars else item f.after fs vars) else kernel_item.Fails LoopWrap)
        by_tests true true q =
            let s = on head f.body (next_turn ids f ∷ fs) vars fits again in
            (item f.body (next_turn ids f ∷ fs) vars, refl, record { holds = record { place = s.holds.place; turns = set_last (turn_after (turn_of f) y) ∙ ap (λ t. turns_of fs ++ t ∷ []) (sym (same_turn q)); numbered = s.holds.numbered; room = s.holds.room; rooms = s.holds.rooms }; vars = refl }, within)
        by_tests true false q =
            let s = at_line (suc n) f.after fs vars fit past in
            (item f.after fs vars, refl, record { holds = record { place = past; turns = but_last; numbered = fit.0; room = fit.1; rooms = fit.2 }; vars = refl }, within)
        by_tests false u q = (refl, within, tt)

  is_next : (n : ℕ) (code : Code) (fs : List Frame) (vars : Vars) → HoldsItem (map text_of ls) (view n fs vars) (item code fs vars) → IsNext (map text_of ls) (view n fs vars) (wanted ls ids (view n fs vars)) (next_at ids code fs vars)
  is_next n End [] vars h =
      let le : length (map text_of ls) ≤ n = drop_beyond (map text_of ls) n h.place.from in
      let same = length-map ls text_of in
      let e : wanted ls ids (view n [] vars) ≡ Ends = ap (want_in ls ids n [] vars) (slice_get_past ls n (omega arith)) in
      subst (λ z. IsNext (map text_of ls) (view n [] vars) z kernel_item.Ends) (sym e) (refl, le)
  is_next n End (f ∷ fs) vars h =
      let at = h.place in
      let turns = turns_of (f ∷ fs) in
      let head = head_of n f in
      let y = f.variable + stride_value ids f.stride in
      let t = held_at ls n (Tail head) (places.tail_here (map text_of ls) n f fs vars at) in
      let around = places.around (map text_of ls) n f fs vars at in
      let hh = held_at ls head (Head around.0.start f.bound f.stride (suc n)) (places.head_here (map text_of ls) n f fs vars at) in
      let ii = is_head hh.0 around.0.start f.bound f.stride (suc n) hh.2 in
      let e : wanted ls ids (view n (f ∷ fs) vars) ≡ want_turn ids.sizes f.bound (turn_of f) y head (suc n) =
      ap (want_in ls ids n turns vars) (t.1 ∙ ap Some (is_tail t.0 head t.2))
      ∙ ap (want_back ids turns head) (hh.1 ∙ ap Some ii.3)
      ∙ ap (want_last ids (formula_of ii.1) ii.2 head (suc n)) (last_of_push (turns_of fs) (turn_of f))
      ∙ ap (λ z. want_turn ids.sizes z (turn_of f) (f.variable + stride_value ids (stride_of ii.2)) head (suc n)) ii.5
      ∙ ap (λ z. want_turn ids.sizes f.bound (turn_of f) (f.variable + stride_value ids z) head (suc n)) ii.6 in
      let more = strides f.stride in
      let low = h.numbered.0 in
      let r = h.rooms in
      subst (λ z. IsNext (map text_of ls) (view n (f ∷ fs) vars) z (next_at ids End (f ∷ fs) vars)) (sym e)
      (if_turns n fs vars (places.tail_within (map text_of ls) n f fs vars at) f y head refl low (omega arith)
      ((omega arith, h.numbered.1), r.0, (r.0, r.1, r.2))
      (h.numbered.1, r.1, r.2)
      (places.repeats (map text_of ls) n f fs vars at (suc f.turn) y) (places.leaves (map text_of ls) n f fs vars at) (bound_value ids.sizes f.bound))
  is_next n (Performs s after) fs vars h =
      let at = h.place in
      let l = held_at ls n (Does s) (places.done_here (map text_of ls) n s after fs vars at) in
      let is = performed n fs vars (places.done_within (map text_of ls) n s after fs vars at) after (h.numbered, h.room, h.rooms) (places.goes_on (map text_of ls) n s after fs vars at) l.0 s l.2 in
      subst (λ o. IsNext (map text_of ls) (view n fs vars) (want_in ls ids n (turns_of fs) vars o) (next_at ids (Performs s after) fs vars)) (sym l.1)
      (subst (λ z. IsNext (map text_of ls) (view n fs vars) (want_in ls ids n (turns_of fs) vars (Some l.0)) (perform ids z vars s (λ new. item after fs new))) (variables_of fs) is)
  is_next n (Guards s b body after) fs vars h =
      let at = h.place in
      let exit = past_if n body in
      let l = held_at ls n (Test s b exit) (places.test_here (map text_of ls) n s b body after fs vars at) in
      let i = is_test l.0 s b exit l.2 in
      let x = start_value ids s in
      let w : wanted ls ids (view n fs vars) ≡ want_test ids s b n exit =
      ap (want_in ls ids n (turns_of fs) vars) (l.1 ∙ ap Some i.2)
      ∙ ap (λ z. want_test ids (start_of i.0) z n exit) i.4
      ∙ ap (λ z. want_test ids z b n exit) i.3 in
      let r = h.room in
      let deep = depth-then body after in
      let inner : length fs + depth (then_rest body after) ≤ room = omega arith in
      let outer : length fs + depth after ≤ room = omega arith in
      subst (λ z. IsNext (map text_of ls) (view n fs vars) z (next_at ids (Guards s b body after) fs vars)) (sym w)
      (if_tests n fs vars (drop_within (map text_of ls) n (Test s b exit) _ at.from) x exit (then_rest body after) after
      (h.numbered, inner, h.rooms) (h.numbered, outer, h.rooms)
      (places.goes_in (map text_of ls) n s b body after fs vars at) (places.goes_past (map text_of ls) n s b body after fs vars at) (bound_value ids.sizes b))
  is_next n (Loops s b c body after) fs vars h =
      let at = h.place in
      let exit = exit_of n body in
      let l = held_at ls n (Head s b c exit) (places.here (map text_of ls) n s b c body after fs vars at) in
      let i = is_head l.0 s b c exit l.2 in
      let x = start_value ids s in
      let w : wanted ls ids (view n fs vars) ≡ want_head ids s b n exit =
      ap (want_in ls ids n (turns_of fs) vars) (l.1 ∙ ap Some i.3)
      ∙ ap (λ z. want_head ids (start_of i.0) z n exit) i.5
      ∙ ap (λ z. want_head ids z b n exit) i.4 in
      let r = h.room in
      let inner : suc (length fs) + depth body ≤ room = omega arith in
      let outer : length fs + depth after ≤ room = omega arith in
      subst (λ z. IsNext (map text_of ls) (view n fs vars) z (next_at ids (Loops s b c body after) fs vars)) (sym w)
      (if_begins n fs vars (drop_within (map text_of ls) n (Head s b c exit) _ at.from) x exit b c body after
      ((omega arith, h.numbered), inner, (inner, outer, h.rooms))
      (h.numbered, outer, h.rooms)
      (places.enters (map text_of ls) n s b c body after fs vars at 0 x) (places.passes (map text_of ls) n s b c body after fs vars at) (bound_value ids.sizes b))

-- whatever the work-item, and whatever holds the text
pub next_is : (ls : List held.Line) (ids : Ids) → ((c : Stride) → 0 < stride_value ids c) → (it : ItemView) (x : Item) → Stands (map text_of ls) it x → IsNext (map text_of ls) it (wanted ls ids it) (next_at ids x.code x.frames x.vars)
next_is ls ids strides it x s =
    let same : record { line = it.line; turns = turns_of x.frames; room = it.room; vars = x.vars } ≡ it =
    ap (λ (ts : List Turn). record { line = it.line; turns = ts; room = it.room; vars = x.vars }) (sym s.holds.turns)
    ∙ ap (λ (vs : Vars). record { line = it.line; turns = it.turns; room = it.room; vars = vs }) (sym s.vars) in
    subst (λ v. IsNext (map text_of ls) v (wanted ls ids v) (next_at ids x.code x.frames x.vars)) same
    (is_next ls ids it.room strides it.line x.code x.frames x.vars
    (record { place = s.holds.place; turns = refl; numbered = s.holds.numbered; room = s.holds.room; rooms = s.holds.rooms }))
