-- An item runs the code of a term in writing position: each of its scalars is written once, and
-- nothing else but private copies.
use Rattle.std.proofs.Common.{◌≡◌, ℕ, suc, ◌+◌, ◌*◌, ◌<◌, ◌≤◌, ◌^◌, Bool, true, false, List, [], ◌∷◌, ◌++◌, Some, refl, sym, ap, ◌∙◌, subst, ◌⊎◌, ⊎_elim, inl, inr, arith}
use Rattle.kernel_tree.specs.Formula.{Formula, Vars, bound_value}
use Rattle.kernel_tree.specs.Code.{Array, Input, Output, Local, Private, FromZero, ByOne, Code, End}
use Rattle.kernel_tree.specs.Item.{Frame, loop_variables}
use Rattle.kernel_tree.specs.Device.{Cell, Memory}
use Rattle.kernel_tree.specs.Rounds.{Loop, variable_at, frame_of, Counts}
use Rattle.lift_ir.specs.Types.{Ty, PairOf, ArrayOf, IsPosition, IsFlat, width, size}
use Rattle.lift_ir.specs.Terms.{PrivateMemory, LoadSet, Kind, Sequential, Term, Bound, Source, Both, Project, Reshape, LetArray, LetElement, Map, Fold, Store, Copy, push, HasType, LoadsScalars}
use Rattle.lift_ir.specs.Layouts.{Layout, operand_position, Reshapes, result_position, IsInvertible}
use Rattle.lift_ir.specs.Scalars.{Scalars, by_side, at_index, mapped, folded, single, scalars_of}
use Rattle.printed_form.specs.Marks.{Nowhere, Marks, laid_in, held_marks, loaded_marks}
use Rattle.printed_form.specs.Form.{start_of, stride_of, IsLoop, IsLoaded, IsStored, IsElementWork, IsAssigned, IsFoldTurn, argument_marks, IsArgumentWork, IsWritten, Declares}
use Rattle.printed_form.specs.Counts.{Count, AtMost, more, no_variables, held_count, let_variables, load_count, temporaries, variable_count, private_count}
use Rattle.printed_form.specs.Expressions.{held, exprs}
use Rattle.printed_form.specs.Runs.{Setting, Known, Fits, IsBetween, Scratch, spot_cell, mark_cell, Later, Holds, AllHold, Values, Due, Targets, nothing, no_target, known_after, Ran, Apart}
use Rattle.lift_ir.proofs.Positions.{operand_in, result_in, result_operand}
use Rattle.printed_form.proofs.Runs.{at_most, as_many, many_more, count_same, more_none, more_more, fewer, fits_later, fewer_later, later_on, holds_later, all_hold_later, ran_on, after_silence, ran_at_once, ran_so}
use Rattle.printed_form.proofs.Elements.{all_hold_push, assigned, elements, values_held}
use Rattle.printed_form.proofs.Cells.{loads_run, stores_run}
use Rattle.printed_form.proofs.Loops.{at, from, ran_from, TurnRuns, looped, Rows, Row, due_unscratched, PlacesDiffer, rows_apart, no_rows, due_row}
use Rattle.lift_ir.proofs.Numbers.{component_below}
use Rattle.printed_form.proofs.Laid.{private_same, laid_due}
use Rattle.printed_form.proofs.Folds.{again_run}

between_more : (a b c d : ℕ) (x : Array) → c ≤ a → b ≤ d → IsBetween a b x → IsBetween c d x
between_more a b c d (Input n) p q h = h
between_more a b c d (Output n) p q h = h
between_more a b c d (Local n) p q h = h
between_more a b c d (Private n) p q h = (let z = h.0 in omega arith, let z = h.1 in omega arith)

module _ (st : Setting) where
  -- the same stretch, otherwise described
  pub ran_as : {S S2 : Cell → Type 0} {T T2 : Cell → ℕ → Type 0} {G : Known → Type 0} (x : Known) (fs : List Frame) (code rest : Code) (n1 : Count) (a1 : ℕ) (n2 : Count) (a2 : ℕ) (H : Known → Type 0) → AtMost x.count n2 → x.arrays ≤ a2
      → ((m : Memory) (vars : Vars) → G (record { memory = m; vars = vars; count = n1; arrays = a1 }) → H (record { memory = m; vars = vars; count = n2; arrays = a2 }))
      → ((c : Cell) → S c → S2 c) → ((c : Cell) (v : ℕ) → T c v → T2 c v ⊎ S2 c) → ((c : Cell) (v : ℕ) → T2 c v → T c v)
      → Ran st x fs code rest n1 a1 S T G → Ran st x fs code rest n2 a2 S2 T2 H
  ran_as x fs code rest n1 a1 n2 a2 H le le2 up scratch fwd bwd h =
      let r = ran_from st x fs code rest x.count x.arrays n1 a1 n2 a2 H (as_many x.count) (omega arith) le le2 up h in
      record {
        after = r.after;
        deeds = r.deeds;
        goes = r.goes;
        later = r.later;
        allowed = r.allowed;
        good = r.good;
        wrote = record {
          once = λ c v t. r.wrote.once c v (bwd c v t);
          holds = λ c v t. r.wrote.holds c v (bwd c v t);
          quiet = λ c s t. r.wrote.quiet c (λ z. s (scratch c z)) (λ v z. ⊎_elim (λ a. t v a) (λ b. s b) (fwd c v z));
        };
      }

  pub ran_eq : {T : Cell → ℕ → Type 0} {G : Known → Type 0} (x : Known) (fs : List Frame) (code rest : Code) (n1 : Count) (a1 : ℕ) (n2 : Count) (a2 b : ℕ) → n1 ≡ n2 → a1 ≡ a2 → Ran st x fs code rest n1 a1 (Scratch b a1) T G → Ran st x fs code rest n2 a2 (Scratch b a2) T G
  ran_eq {T = T} {G = G} x fs code rest n1 a1 n2 a2 b p q h = subst (λ n. Ran st x fs code rest n a2 (Scratch b a2) T G) p (subst (λ a. Ran st x fs code rest n1 a (Scratch b a) T G) q h)

  -- with no scratch cells yet
  ran_plain : {T : Cell → ℕ → Type 0} {G : Known → Type 0} (x : Known) (fs : List Frame) (code rest : Code) (n : Count) (a : ℕ) → AtMost x.count n → x.arrays ≤ a → Ran st x fs code rest n a nothing T G → Ran st x fs code rest n a (Scratch x.arrays a) T G
  ran_plain {G = G} x fs code rest n a le le2 h = ran_as x fs code rest n a n a G le le2 (λ m vars g. g) (λ c s. absurd s) (λ c v t. inl t) (λ c v t. t) h

  pub scratch_then : (a b c : ℕ) (T : Cell → ℕ → Type 0) → a ≤ b → b ≤ c → ((d : Cell) (v : ℕ) → T d v → Scratch a c d → ⊥) → Apart (Scratch a b) no_target (Scratch b c) T (Scratch a c) T
  scratch_then a b c T p q free = record {
    targets = λ d v u l r. absurd l;
    first_kept = λ d v l h. absurd l;
    second_free = λ d v t h. free d v t (between_more a b a c d.array (omega arith) q h);
    scratch_first = λ d h. between_more a b a c d.array (omega arith) q h;
    scratch_second = λ d h. between_more b c a c d.array p (omega arith) h;
    target_first = λ d v l. absurd l;
    target_second = λ d v t. t;
    parts = λ d v t. inr t;
  }

  targets_unscratched : (b a : ℕ) (ty : Ty) (w : Marks) (s : Scalars) → Due st a ty w → (c : Cell) (v : ℕ) → Targets st ty w s c v → Scratch b a c → ⊥
  targets_unscratched b a ty w s due c v t h = due_unscratched st (λ u. u) ty w s b a (w t.0 t.1) (due.at t.0 t.1 t.2) (subst (Scratch b a) t.3 h)

  due_at : (a b : ℕ) (ty : Ty) (w : Marks) → a ≡ b → Due st a ty w → Due st b ty w
  due_at a b ty w e h = subst (λ z. Due st z ty w) e h

  due_back : {A : Type 0} (num : A → ℕ) (y : Layout A) (u ty : Ty) (w : Marks) (a : ℕ) → IsInvertible y → Reshapes num y u ty → Due st a ty w → Due st a u (λ cs q. w cs (result_position num y q))
  due_back num y u ty w a turn rel due = record {
    at = λ cs q i. due.at cs (result_position num y q) (result_in num y u ty cs q turn rel i).0;
    choices = λ cs ds q p i j e. due.choices cs ds (result_position num y q) (result_position num y p) (result_in num y u ty cs q turn rel i).0 (result_in num y u ty ds p turn rel j).0 e;
    places = λ cs ds q p i j e.
        let b = result_in num y u ty cs q turn rel i in
        let c = result_in num y u ty ds p turn rel j in
        sym b.1 ∙ ap (operand_position num y) (due.places cs ds (result_position num y q) (result_position num y p) b.0 c.0 e) ∙ c.1;
  }

  holds_zip : (x : Known) (n : ℕ) (a b : Ty) (e f : Marks) (s t : Scalars) → Holds st x (ArrayOf n a) e s → Holds st x (ArrayOf n b) f t → Holds st x (ArrayOf n (PairOf a b)) (by_side (λ q. Nowhere) e f) (by_side (λ q. 0) s t)
  holds_zip x n a b e f s t h r cs [] w = absurd w
  holds_zip x n a b e f s t h r [] (i ∷ q) w = absurd w.1
  holds_zip x n a b e f s t h r (false ∷ cs) (i ∷ q) w = h cs (i ∷ q) w
  holds_zip x n a b e f s t h r (true ∷ cs) (i ∷ q) w = r cs (i ∷ q) w

  holds_pair : (x : Known) (a b : Ty) (e f : Marks) (s t : Scalars) → Holds st x a e s → Holds st x b f t → Holds st x (PairOf a b) (by_side (λ q. Nowhere) e f) (by_side (λ q. 0) s t)
  holds_pair x a b e f s t h r [] q w = absurd w
  holds_pair x a b e f s t h r (false ∷ cs) q w = h cs q w
  holds_pair x a b e f s t h r (true ∷ cs) q w = r cs q w

  holds_as : (x : Known) (t u : Ty) (e : Marks) (s : Scalars) → u ≡ t → Holds st x t e s → Holds st x u e s
  holds_as x t u e s q h = subst (λ z. Holds st x z e s) (sym q) h

  both_hold : {A : Type 0} (num : A → ℕ) (zips : Bool) (src g : ℕ → Ty) (a b : Term A) (ty : Ty) → HasType num src g (Both zips a b) ty → (u v : Ty) × HasType num src g a u × HasType num src g b v
      × ((x : Known) (e f : Marks) (s t : Scalars) → Holds st x u e s → Holds st x v f t → Holds st x ty (by_side (λ q. Nowhere) e f) (by_side (λ q. 0) s t))
  both_hold num false src g a b ty ok = (ok.0, ok.1, ok.5, ok.6, λ x e f s t m n. holds_as x (PairOf ok.0 ok.1) ty _ _ ok.2 (holds_pair x ok.0 ok.1 e f s t m n))
  both_hold num true src g a b ty ok = (ArrayOf ok.0 ok.1, ArrayOf ok.0 ok.2, ok.4, ok.5, λ x e f s t m n. holds_as x (ArrayOf ok.0 (PairOf ok.1 ok.2)) ty _ _ ok.3 (holds_zip x ok.0 ok.1 ok.2 e f s t m n))

  pub seq_counts : (len : ℕ) (b : Formula) (body rest : Code) → len < 2 ^ 31 → bound_value st.device.launch.sizes b ≡ Some len → Counts st.device st.item (record { start = FromZero; bound = b; stride = ByOne; body = body; after = rest }) len
  seq_counts len b body rest small h = record { bound = len; bound_is = h; below = λ t lt. omega arith; past = omega arith; fits = λ t lt. omega arith }

  all_rows : (len : ℕ) (y : Ty) (w : Marks) (s : Scalars) (c : Cell) (v : ℕ) → Targets st (ArrayOf len y) w s c v → Rows st (λ u. u) y w s len c v
  all_rows len y w s c v t = go t.0 t.1 t.2 t.3 t.4
    where
      go : (cs : List Bool) (q : List ℕ) → IsPosition (ArrayOf len y) cs q → c ≡ mark_cell st (w cs q) → v ≡ s cs q → Rows st (λ u. u) y w s len c v
      go cs [] i e z = absurd i
      go cs (j ∷ q) i e z = (j, i.0, (cs, q, i.1, e, z))

  one_row : (y : Ty) (w : Marks) (s : Scalars) (c : Cell) (v : ℕ) → Targets st (ArrayOf 1 y) w (single s) c v → Targets st y (at_index 0 w) s c v
  one_row y w s c v t = go t.0 t.1 t.2 t.3 t.4
    where
      first : (j : ℕ) (cs : List Bool) (q : List ℕ) → 0 ≡ j → c ≡ mark_cell st (w cs (j ∷ q)) → c ≡ mark_cell st (w cs (0 ∷ q))
      first j cs q e h = subst (λ i. c ≡ mark_cell st (w cs (i ∷ q))) (sym e) h

      go : (cs : List Bool) (q : List ℕ) → IsPosition (ArrayOf 1 y) cs q → c ≡ mark_cell st (w cs q) → v ≡ single s cs q → Targets st y (at_index 0 w) s c v
      go cs [] i e z = absurd i
      go cs (j ∷ q) i e z = (cs, q, i.1, first j cs q (let l = i.0 in omega arith) e, z)

module _ (st : Setting) {A : Type 0} (num : A → ℕ) (ins : ℕ → Marks) (src : ℕ → Ty) (sources : ℕ → Scalars) (own : (p i : ℕ) → st.owners (spot_cell st (Private p) i) ≡ Some st.item) where
  -- what an argument's work leaves
  abbrev pub Gathers : (x : Known) → List Frame → (code rest : Code) → Term A → (ty : Ty) → Marks → Scalars → Type 0
  Gathers x fs code rest t ty e s = Ran st x fs code rest (more x.count (variable_count t)) (x.arrays + private_count t) (Scratch x.arrays (x.arrays + private_count t)) no_target (λ y. Holds st y ty e s)

  -- what the work of a term in writing position leaves
  abbrev pub Fills : (x : Known) → List Frame → (code rest : Code) → Term A → (ty : Ty) → Marks → Scalars → Type 0
  Fills x fs code rest t ty w s = Ran st x fs code rest (more x.count (variable_count t)) (x.arrays + private_count t) (Scratch x.arrays (x.arrays + private_count t)) (Targets st ty w s) (λ y. Unit {0})

  at_once : (x : Known) (fs : List Frame) (code rest : Code) (ty : Ty) (e : Marks) (s : Scalars) → code ≡ rest → Holds st x ty e s → Ran st x fs code rest (more x.count no_variables) (x.arrays + 0) (Scratch x.arrays (x.arrays + 0)) no_target (λ y. Holds st y ty e s)
  at_once x fs code rest ty e s h good =
      ran_eq st x fs code rest x.count x.arrays (more x.count no_variables) (x.arrays + 0) x.arrays (more_none x.count) (omega arith)
      (ran_plain st x fs code rest x.count x.arrays (as_many x.count) (omega arith) (ran_at_once st x fs code rest (λ y. Holds st y ty e s) h good))

  -- a copy in private arrays can be read
  kept_reads : (y : Known) (first : ℕ) (ty : Ty) (s : Scalars) → ((c : ℕ) → c < width ty → size ty ≤ st.device.lengths (Private (first + c))) → first + width ty ≤ y.arrays → Due st first ty (laid_in Private first ty)
      → ((c : Cell) (v : ℕ) → Targets st ty (laid_in Private first ty) s c v → y.memory c ≡ v) → Holds st y ty (laid_in Private first ty) s
  kept_reads y first ty s long le due holds cs q w =
      let d = due.at cs q w in
      let c = component_below ty cs q w in
      record { within = d.0; may = inr d.1; filled = omega arith; holds = holds (mark_cell st (laid_in Private first ty cs q)) (s cs q) (cs, q, w, refl, refl) }

  private_due : (first : ℕ) (ty : Ty) → IsFlat ty → ((c : ℕ) → c < width ty → size ty ≤ st.device.lengths (Private (first + c))) → Due st first ty (laid_in Private first ty)
  private_due first ty f long = laid_due st Private private_same first first ty f long (λ c i p q. own (first + c) i) (λ c p. omega arith)

  laid_scratch : (a first b : ℕ) (ty : Ty) (s : Scalars) → a ≤ first → first + width ty ≤ b → (c : Cell) (v : ℕ) → Targets st ty (laid_in Private first ty) s c v → Scratch a b c
  laid_scratch a first b ty s p q c v t =
      let h = component_below ty t.0 t.1 t.2 in
      subst (Scratch a b) (sym t.3) (omega arith, omega arith)

  abbrev pub loop_of : Kind → Formula → (body rest : Code) → Loop
  loop_of kind e body rest = record { start = start_of kind; bound = e; stride = stride_of kind; body = body; after = rest }

  -- what is known at a turn, once its element is loaded
  abbrev pub in_turn : Known → LoadSet → Memory → Vars → Known
  in_turn x loads m vars = record { memory = m; vars = vars; count = more x.count (load_count loads); arrays = x.arrays }

  -- a map, of any kind, by what its body does: its turns fill the rows `row 0`, `row 1` ..
  pub map_run : (kind : Kind) (row : ℕ → ℕ) (count len : ℕ) (loads : LoadSet) (b : Term A) (ts : List ℕ) (fs : List Frame) (g : ℕ → Ty) (env : ℕ → Marks) (sems : ℕ → Scalars) (xt y : Ty) (e w : Marks) (D : Scalars) (x : Known) (code rest : Code) (n2 : Count) (a2 : ℕ)
      → loop_variables fs ≡ ts
      → ((f : Formula) (body : Code) → bound_value st.device.launch.sizes f ≡ Some len → Counts st.device st.item (loop_of kind f body rest) count)
      → ((f : Formula) (body : Code) (t : ℕ) → variable_at st.device st.item (loop_of kind f body rest) t ≡ row t) → ((t : ℕ) → t < count → row t < len) → ((t u : ℕ) → row t ≡ row u → t ≡ u)
      → LoadsScalars loads xt → PlacesDiffer st row y w D (ArrayOf len y) → ((t : ℕ) → t < count → Due st (x.arrays + private_count b) y (at_index (row t) w))
      → IsLoop st.device.launch st.item ins kind len
      (λ i body. (inner : Code) × IsLoaded st.device.launch st.item ins (ts ++ i ∷ []) loads (at_index i e) x.count body inner
      × IsWritten st.device.launch st.item ins num (ts ++ i ∷ []) (push (loaded_marks loads (at_index i e) x.count) env) x.arrays (more x.count (load_count loads)) b (at_index i w) inner End)
      code rest
      → Fits (more (more x.count (load_count loads)) (variable_count b)) x.vars → Holds st x (ArrayOf len xt) e D → AllHold st x g env sems → AllHold st x src ins sources
      → ((i : ℕ) → i < len → (m : Memory) (vars : Vars) (fs2 : List Frame) (inner : Code) → loop_variables fs2 ≡ ts ++ i ∷ []
      → IsWritten st.device.launch st.item ins num (ts ++ i ∷ []) (push (loaded_marks loads (at_index i e) x.count) env) x.arrays (more x.count (load_count loads)) b (at_index i w) inner End
      → Fits (more (more x.count (load_count loads)) (variable_count b)) vars → Due st (x.arrays + private_count b) y (at_index i w)
      → AllHold st (in_turn x loads m vars) (push xt g) (push (loaded_marks loads (at_index i e) x.count) env) (push (at_index i D) sems) → AllHold st (in_turn x loads m vars) src ins sources
      → Fills (in_turn x loads m vars) fs2 inner End b y (at_index i w) (scalars_of num sources (push (at_index i D) sems) b))
      → AtMost x.count n2 → x.arrays ≤ a2
      → Ran st x fs code rest n2 a2 (Scratch x.arrays (x.arrays + private_count b)) (Rows st row y w (mapped (λ z. scalars_of num sources (push z sems) b) D) count) (λ y. Unit {0})
  map_run kind row count len loads b ts fs g env sems xt y e w D x code rest n2 a2 at_ts counts row_is below differ suits places dues h room holds es gs rec le le2 =
      subst (λ c. Ran st x fs c rest n2 a2 (Scratch x.arrays (x.arrays + private_count b)) (Rows st row y w s count) (λ y. Unit {0})) (sym h.2)
      (looped st fs p count (counts f body h.3) x S (Rows st row y w s) (Row st row y w s) (λ t m vars. Unit {0}) (no_rows st row y w s) (rows_apart st row y w s x.arrays (x.arrays + private_count b) len count places dues below differ) (more (more x.count (load_count loads)) (variable_count b)) (x.arrays + private_count b) tt turn n2 a2 le le2)
    where
      f : Formula
      f = h.0

      body : Code
      body = h.1

      p : Loop
      p = loop_of kind h.0 h.1 rest

      s : Scalars
      s = mapped (λ z. scalars_of num sources (push z sems) b) D

      S : Cell → Type 0
      S = Scratch x.arrays (x.arrays + private_count b)

      turn : TurnRuns st fs (loop_of kind h.0 h.1 rest) count (counts h.0 h.1 h.3) x (Scratch x.arrays (x.arrays + private_count b)) (Rows st row y w (mapped (λ z. scalars_of num sources (push z sems) b) D)) (Row st row y w (mapped (λ z. scalars_of num sources (push z sems) b) D)) (λ t m vars. Unit {0}) (no_rows st row y w (mapped (λ z. scalars_of num sources (push z sems) b) D)) (rows_apart st row y w (mapped (λ z. scalars_of num sources (push z sems) b) D) x.arrays (x.arrays + private_count b) len count places dues below differ) (more (more x.count (load_count loads)) (variable_count b)) (x.arrays + private_count b)
      turn t lt m vars later inv =
          let i = row t in
          let lt2 : i < len = below t lt in
          let z = at x m vars in
          let fs2 = frame_of st.device st.item (loop_of kind h.0 h.1 rest) t ∷ fs in
          let at2 : loop_variables fs2 ≡ ts ++ i ∷ [] = ap (λ q. q ++ variable_at st.device st.item (loop_of kind h.0 h.1 rest) t ∷ []) at_ts ∙ ap (λ q. ts ++ q ∷ []) (row_is h.0 h.1 t) in
          let k = h.4 i lt2 (t, sym (row_is h.0 h.1 t)) in
          let el : Holds st z xt (at_index i e) (at_index i D) = λ cs q a. holds_later st x z (ArrayOf len xt) e D later holds cs (i ∷ q) (lt2, a) in
          let long = fits_later room later.kept in
          let r = loads_run st (ts ++ i ∷ []) fs2 at2 ins loads xt (at_index i e) (at_index i D) z h.1 k.0 suits k.1 (fewer long (omega arith) (omega arith)) el in
          let z2 = known_after z r.deeds r.after (more x.count (load_count loads)) x.arrays in
          let later2 = later_on st x z z2 later r.later in
          let long2 = fits_later long r.later.kept in
          let es2 = all_hold_push st z2 xt (loaded_marks loads (at_index i e) x.count) (at_index i D) g env sems r.good (all_hold_later st x z2 g env sems later2 es) in
          let r2 = rec i lt2 z2.memory z2.vars fs2 k.0 at2 k.2 long2 (dues t lt) es2 (all_hold_later st x z2 src ins sources later2 gs) in
          ran_on st z fs2 h.1 k.0 End (more x.count (load_count loads)) x.arrays (more (more x.count (load_count loads)) (variable_count b)) (x.arrays + private_count b) after_silence r r2

  -- a fold, whose accumulator is held from the first free variable on, once its start is there
  module _ (len : ℕ) (loads : LoadSet) (ty : Ty) (b : Term A) (ts : List ℕ) (fs : List Frame) (at_ts : loop_variables fs ≡ ts) (g : ℕ → Ty) (env : ℕ → Marks) (sems : ℕ → Scalars) (xt : Ty) (e : Marks) (D S0 : Scalars) (x : Known) (code rest : Code) where
    abbrev pub step : ℕ → Scalars → Scalars
    step t acc = scalars_of num sources (push (at_index t D) (push acc sems)) b

    abbrev pub Accumulates : ℕ → Memory → Vars → Type 0
    Accumulates t m vars = Holds st (record { memory = m; vars = vars; count = more x.count (held_count ty); arrays = x.arrays }) ty (held_marks ty x.count) (folded step S0 t)

    pub fold_run : len < 2 ^ 31 → LoadsScalars loads xt → HasType num src (push xt (push ty g)) b ty
        → IsLoop st.device.launch st.item ins Sequential len (λ i body. IsFoldTurn st.device.launch st.item ins (ts ++ i ∷ []) env loads ty (at_index i e) x.count b body) code rest
        → Fits (more (more (more (more x.count (held_count ty)) (load_count loads)) (let_variables b)) (temporaries ty)) x.vars → Holds st x (ArrayOf len xt) e D → AllHold st x g env sems → Accumulates 0 x.memory x.vars
        → Ran st x fs code rest (more x.count (held_count ty)) x.arrays nothing no_target (λ y. Accumulates len y.memory y.vars)
    fold_run small suits ok h room holds es start =
        subst (λ c. Ran st x fs c rest (more x.count (held_count ty)) x.arrays nothing no_target (λ y. Accumulates len y.memory y.vars)) (sym h.2)
        (looped st fs (loop_of Sequential h.0 h.1 rest) len (seq_counts st len h.0 h.1 rest small h.3) x nothing (λ t. no_target) (λ t. no_target) Accumulates (λ c v t. t) (λ t lt. after_silence) (more x.count (held_count ty)) x.arrays start turn (more x.count (held_count ty)) x.arrays (many_more x.count (held_count ty)) (omega arith))
      where
        turn : TurnRuns st fs (loop_of Sequential h.0 h.1 rest) len (seq_counts st len h.0 h.1 rest small h.3) x nothing (λ t. no_target) (λ t. no_target) Accumulates (λ c v t. t) (λ t lt. after_silence) (more x.count (held_count ty)) x.arrays
        turn t lt m vars later inv =
            let z = at x m vars in
            let n1 = more x.count (held_count ty) in
            let z1 : Known = record { memory = m; vars = vars; count = n1; arrays = x.arrays } in
            let up : Later st x z1 = record { more = omega arith; more_fours = omega arith; more_arrays = omega arith; kept = later.kept; same = later.same } in
            let fs2 = frame_of st.device st.item (loop_of Sequential h.0 h.1 rest) t ∷ fs in
            let eq : 0 + t * 1 ≡ t = omega arith in
            let ts2 = ts ++ t ∷ [] in
            let at2 : loop_variables fs2 ≡ ts2 = ap (λ q. q ++ (0 + t * 1) ∷ []) at_ts ∙ ap (λ q. ts ++ q ∷ []) eq in
            let k = h.4 t lt (t, sym eq) in
            let acc = folded step S0 t in
            let el : Holds st z1 xt (at_index t e) (at_index t D) = λ cs q a. holds_later st x z1 (ArrayOf len xt) e D up holds cs (t ∷ q) (lt, a) in
            let long : Fits (more (more (more (more x.count (held_count ty)) (load_count loads)) (let_variables b)) (temporaries ty)) vars = fits_later room later.kept in
            let r = loads_run st ts2 fs2 at2 ins loads xt (at_index t e) (at_index t D) z1 h.1 k.0 suits k.2 (fewer long (omega arith) (omega arith)) el in
            let n2 = more n1 (load_count loads) in
            let z2 = known_after z1 r.deeds r.after n2 x.arrays in
            let long2 : Fits (more (more (more (more x.count (held_count ty)) (load_count loads)) (let_variables b)) (temporaries ty)) r.after = fits_later long r.later.kept in
            let es2 = all_hold_push st z2 ty (held_marks ty x.count) acc g env sems (holds_later st z1 z2 ty (held_marks ty x.count) acc r.later inv) (all_hold_later st x z2 g env sems (later_on st x z1 z2 up r.later) es) in
            let es3 = all_hold_push st z2 xt (loaded_marks loads (at_index t e) n1) (at_index t D) (push ty g) (push (held_marks ty x.count) env) (push acc sems) r.good es2 in
            let env3 = push (loaded_marks loads (at_index t e) n1) (push (held_marks ty x.count) env) in
            let r2 = elements st ts2 fs2 at2 num src sources b (push xt (push ty g)) env3 (push (at_index t D) (push acc sems)) ty z2 k.0 k.1 ok k.3 (fewer long2 (omega arith) (omega arith)) es3 in
            let n3 = more n2 (let_variables b) in
            let r12 = ran_on st z1 fs2 h.1 k.0 k.1 n2 x.arrays n3 x.arrays after_silence r r2 in
            let V = λ (y : Known). Values st ts2 (from y n3 x.arrays) ty (exprs env3 n2 b) (step t acc) in
            let ra = ran_from st z1 fs2 h.1 k.1 x.count x.arrays n3 x.arrays x.count x.arrays V (many_more x.count (held_count ty)) (omega arith) (as_many x.count) (omega arith) (λ m2 vars2 v. v) r12 in
            let y = known_after z ra.deeds ra.after x.count x.arrays in
            let long3 : Fits (more n3 (temporaries ty)) ra.after = fits_later long ra.later.kept in
            let rc = again_run st ts2 fs2 at2 ty (exprs env3 n2 b) (step t acc) x.count (from y n3 x.arrays) k.1 End (at_most (omega arith) (omega arith)) k.4 long3 ra.good in
            ran_from st z fs2 h.1 End x.count x.arrays (more x.count (held_count ty)) x.arrays (more x.count (held_count ty)) x.arrays (λ q. Accumulates (suc t) q.memory q.vars) (as_many x.count) (omega arith) (many_more x.count (held_count ty)) (omega arith) (λ m2 vars2 v. v)
            (ran_on st z fs2 h.1 k.1 End x.count x.arrays (more x.count (held_count ty)) x.arrays after_silence ra rc)

  -- a fold once its argument is there
  abbrev FoldAfter : ℕ → LoadSet → Ty → (s b : Term A) → List ℕ → (ℕ → Marks) → Marks → Marks → (n : Count) → (code rest : Code) → Type 0
  FoldAfter len loads yt s b ts env e w n code rest =
      (mid2 mid3 mid4 : Code) × IsElementWork env n s code mid2 × IsAssigned yt (exprs env n s) (more n (let_variables s)) mid2 mid3
      × IsLoop st.device.launch st.item ins Sequential len (λ i body. IsFoldTurn st.device.launch st.item ins (ts ++ i ∷ []) env loads yt (at_index i e) (more n (let_variables s)) b body) mid3 mid4
      × IsStored st.device.launch st.item ins ts yt (λ cs. held (held_marks yt (more n (let_variables s)) cs)) (at_index 0 w) mid4 rest

  fold_after : (len : ℕ) (loads : LoadSet) (yt : Ty) (s b : Term A) (ts : List ℕ) (fs : List Frame) → loop_variables fs ≡ ts → (g : ℕ → Ty) (env : ℕ → Marks) (sems : ℕ → Scalars) (xt : Ty) (e w : Marks) (D : Scalars) (x : Known) (code rest : Code)
      → len < 2 ^ 31 → LoadsScalars loads xt → HasType num src g s yt → HasType num src (push xt (push yt g)) b yt → FoldAfter len loads yt s b ts env e w x.count code rest
      → Fits (more x.count (more (let_variables s) (more (held_count yt) (more (load_count loads) (more (let_variables b) (temporaries yt)))))) x.vars → Holds st x (ArrayOf len xt) e D → AllHold st x g env sems → Due st x.arrays (ArrayOf 1 yt) w
      → Ran st x fs code rest (more (more x.count (let_variables s)) (held_count yt)) x.arrays nothing (Targets st yt (at_index 0 w) (folded (λ t acc. scalars_of num sources (push (at_index t D) (push acc sems)) b) (scalars_of num sources sems s) len)) (λ k. Unit {0})
  fold_after len loads yt s b ts fs at_ts g env sems xt e w D x code rest small suits has_s has_b h room holds es due =
      let S0 = scalars_of num sources sems s in
      let n2 = more x.count (let_variables s) in
      let n3 = more n2 (held_count yt) in
      let F = folded (λ t acc. scalars_of num sources (push (at_index t D) (push acc sems)) b) S0 len in
      let due2 = due_row st (λ u. u) yt w F x.arrays 1 0 (omega arith) due in
      let r2 = elements st ts fs at_ts num src sources s g env sems yt x code h.0 has_s h.3 (fewer room (omega arith) (omega arith)) es in
      let y2 = known_after x r2.deeds r2.after n2 x.arrays in
      let room2 : Fits (more (more (more n3 (load_count loads)) (let_variables b)) (temporaries yt)) r2.after = fewer_later room r2.later.kept (omega arith) (omega arith) in
      let r3 = ran_from st y2 fs h.0 h.1 n2 x.arrays n3 x.arrays n2 x.arrays (λ k. Holds st (from k n3 x.arrays) yt (held_marks yt n2) S0) (as_many n2) (omega arith) (as_many n2) (omega arith) (λ m vars z. z)
      (assigned st ts fs at_ts yt (exprs env x.count s) S0 y2 h.0 h.1 h.4 (fewer room2 (omega arith) (omega arith)) r2.good) in
      let y3 = known_after y2 r3.deeds r3.after n2 x.arrays in
      let room3 : Fits (more (more (more n3 (load_count loads)) (let_variables b)) (temporaries yt)) r3.after = fits_later room2 r3.later.kept in
      let later = later_on st x y2 y3 r2.later r3.later in
      let r4 = fold_run len loads yt b ts fs at_ts g env sems xt e D S0 y3 h.1 h.2 small suits has_b h.5 room3 (holds_later st x y3 (ArrayOf len xt) e D later holds) (all_hold_later st x y3 g env sems later es) r3.good in
      let y4 = known_after y3 r4.deeds r4.after n3 x.arrays in
      let r5 = stores_run st ts fs at_ts ins yt (λ cs. held (held_marks yt n2 cs)) F (at_index 0 w) y4 h.2 rest h.6 (values_held st ts fs at_ts y4 yt (held_marks yt n2) F r4.good) due2 in
      ran_on st x fs code h.0 rest n2 x.arrays n3 x.arrays after_silence r2 (ran_on st y2 fs h.0 h.1 rest n2 x.arrays n3 x.arrays after_silence r3 (ran_on st y3 fs h.1 h.2 rest n3 x.arrays n3 x.arrays after_silence r4 r5))

  fold_whole : (n : A) (loads : LoadSet) (yt : Ty) (xs s b : Term A) (ts : List ℕ) (fs : List Frame) → loop_variables fs ≡ ts → (g : ℕ → Ty) (env : ℕ → Marks) (sems : ℕ → Scalars) (xt ty : Ty) (w : Marks) (x : Known) (code mid rest : Code)
      → ty ≡ ArrayOf 1 yt → Fits (more x.count (variable_count (Fold n loads yt xs s b))) x.vars → Due st (x.arrays + private_count xs) ty w
      → (r : Gathers x fs code mid xs (ArrayOf (num n) xt) (argument_marks st.device.launch ins num env x.arrays xs) (scalars_of num sources sems xs))
      → Ran st (known_after x r.deeds r.after (more x.count (variable_count xs)) (x.arrays + private_count xs)) fs mid rest (more (more (more x.count (variable_count xs)) (let_variables s)) (held_count yt)) (x.arrays + private_count xs) nothing (Targets st yt (at_index 0 w) (folded (λ t acc. scalars_of num sources (push (at_index t (scalars_of num sources sems xs)) (push acc sems)) b) (scalars_of num sources sems s) (num n))) (λ k. Unit {0})
      → Fills x fs code rest (Fold n loads yt xs s b) ty w (scalars_of num sources sems (Fold n loads yt xs s b))
  fold_whole n loads yt xs s b ts fs at_ts g env sems xt ty w x code mid rest is room due r tail =
      let a1 = x.arrays + private_count xs in
      let n1 = more x.count (variable_count xs) in
      let n3 = more (more n1 (let_variables s)) (held_count yt) in
      let total = more x.count (more (variable_count xs) (more (let_variables s) (more (held_count yt) (more (load_count loads) (more (let_variables b) (temporaries yt)))))) in
      let F = folded (λ t acc. scalars_of num sources (push (at_index t (scalars_of num sources sems xs)) (push acc sems)) b) (scalars_of num sources sems s) (num n) in
      let due1 : Due st a1 (ArrayOf 1 yt) w = subst (λ t. Due st a1 t w) is due in
      let due2 = due_row st (λ u. u) yt w F a1 1 0 (omega arith) due1 in
      let T = Targets st yt (at_index 0 w) F in
      let y1 = known_after x r.deeds r.after n1 a1 in
      let r6 = ran_on st x fs code mid rest n1 a1 n3 a1 (scratch_then st x.arrays a1 a1 T (omega arith) (omega arith) (targets_unscratched st x.arrays a1 yt (at_index 0 w) F due2)) r (ran_plain st y1 fs mid rest n3 a1 (at_most (omega arith) (omega arith)) (omega arith) tail) in
      ran_as st x fs code rest n3 a1 total a1 (λ k. Unit {0}) (at_most (omega arith) (omega arith)) (omega arith) (λ m vars z. z) (λ c q. q)
      (λ c v t. inl (subst (λ u. Targets st u w (single F) c v) (sym is) (t.0, 0 ∷ t.1, (omega arith, t.2), t.3, t.4)))
      (λ c v t. one_row st yt w F c v (subst (λ u. Targets st u w (single F) c v) is t)) r6

  mutual
    -- what stands for an argument, once its work is done
    pub gathers : (t : Term A) (ts : List ℕ) (fs : List Frame) → loop_variables fs ≡ ts → (g : ℕ → Ty) (env : ℕ → Marks) (sems : ℕ → Scalars) (ty : Ty) (x : Known) (code rest : Code) → HasType num src g t ty → IsArgumentWork st.device.launch st.item ins num ts env x.arrays x.count t code rest
        → Fits (more x.count (variable_count t)) x.vars → Declares st.device.lengths x.arrays t → AllHold st x g env sems → AllHold st x src ins sources → Gathers x fs code rest t ty (argument_marks st.device.launch ins num env x.arrays t) (scalars_of num sources sems t)
    gathers (Bound v) ts fs at_ts g env sems ty x code rest ok h room long es gs = at_once x fs code rest ty (env v) (sems v) h (holds_as st x (g v) ty (env v) (sems v) ok (es v))
    gathers (Source v) ts fs at_ts g env sems ty x code rest ok h room long es gs = at_once x fs code rest ty (ins v) (sources v) h (holds_as st x (src v) ty (ins v) (sources v) ok (gs v))
    gathers (Both zips a b) ts fs at_ts g env sems ty x code rest ok h room long es gs =
        let p = both_hold st num zips src g a b ty ok in
        let r = gathers a ts fs at_ts g env sems p.0 x code h.0 p.2 h.1 (fewer room (omega arith) (omega arith)) long.0 es gs in
        let y = known_after x r.deeds r.after (more x.count (variable_count a)) (x.arrays + private_count a) in
        let room2 : Fits (more (more x.count (variable_count a)) (variable_count b)) r.after = fewer_later room r.later.kept (omega arith) (omega arith) in
        let r2 = gathers b ts fs at_ts g env sems p.1 y h.0 rest p.3 h.2 room2 long.1 (all_hold_later st x y g env sems r.later es) (all_hold_later st x y src ins sources r.later gs) in
        let n2 = more (more x.count (variable_count a)) (variable_count b) in
        let a2 = x.arrays + private_count a + private_count b in
        let z = known_after y r2.deeds r2.after n2 a2 in
        let e = argument_marks st.device.launch ins num env x.arrays a in
        let f = argument_marks st.device.launch ins num env (x.arrays + private_count a) b in
        let H = λ (k : Known). Holds st k ty (by_side (λ q. Nowhere) e f) (by_side (λ q. 0) (scalars_of num sources sems a) (scalars_of num sources sems b)) in
        let r3 : Ran st y fs h.0 rest n2 a2 (Scratch (x.arrays + private_count a) a2) no_target H = ran_so r2 (p.4 z e f (scalars_of num sources sems a) (scalars_of num sources sems b) (holds_later st y z p.0 e (scalars_of num sources sems a) r2.later r.good) r2.good) in
        ran_eq st x fs code rest n2 a2 (more x.count (more (variable_count a) (variable_count b))) (x.arrays + (private_count a + private_count b)) x.arrays (more_more x.count (variable_count a) (variable_count b)) (omega arith)
        (ran_on st x fs code h.0 rest (more x.count (variable_count a)) (x.arrays + private_count a) n2 a2 (scratch_then st x.arrays (x.arrays + private_count a) a2 no_target (omega arith) (omega arith) (λ d v t q. t)) r r3)
    gathers (Project false a) ts fs at_ts g env sems ty x code rest ok h room long es gs =
        let r = gathers a ts fs at_ts g env sems (PairOf ty ok.0) x code rest ok.1 h room long es gs in
        ran_so r (λ cs. r.good (false ∷ cs))
    gathers (Project true a) ts fs at_ts g env sems ty x code rest ok h room long es gs =
        let r = gathers a ts fs at_ts g env sems (PairOf ok.0 ty) x code rest ok.1 h room long es gs in
        ran_so r (λ cs. r.good (true ∷ cs))
    gathers (Reshape y a) ts fs at_ts g env sems ty x code rest ok h room long es gs =
        let r = gathers a ts fs at_ts g env sems ok.0 x code rest ok.1 h room long es gs in
        ran_so r (λ cs q w. r.good cs (operand_position num y q) (operand_in num y ok.0 ty cs q ok.2 w))
    gathers (LetArray v b) ts fs at_ts g env sems ty x code rest ok h room long es gs =
        let r = gathers v ts fs at_ts g env sems ok.0 x code h.0 ok.1 h.1 (fewer room (omega arith) (omega arith)) long.0 es gs in
        let y = known_after x r.deeds r.after (more x.count (variable_count v)) (x.arrays + private_count v) in
        let room2 : Fits (more (more x.count (variable_count v)) (variable_count b)) r.after = fewer_later room r.later.kept (omega arith) (omega arith) in
        let e = argument_marks st.device.launch ins num env x.arrays v in
        let D = scalars_of num sources sems v in
        let es2 = all_hold_push st y ok.0 e D g env sems r.good (all_hold_later st x y g env sems r.later es) in
        let r2 = gathers b ts fs at_ts (push ok.0 g) (push e env) (push D sems) ty y h.0 rest ok.2 h.2 room2 long.1 es2 (all_hold_later st x y src ins sources r.later gs) in
        let n2 = more (more x.count (variable_count v)) (variable_count b) in
        let a2 = x.arrays + private_count v + private_count b in
        ran_eq st x fs code rest n2 a2 (more x.count (more (variable_count v) (variable_count b))) (x.arrays + (private_count v + private_count b)) x.arrays (more_more x.count (variable_count v) (variable_count b)) (omega arith)
        (ran_on st x fs code h.0 rest (more x.count (variable_count v)) (x.arrays + private_count v) n2 a2 (scratch_then st x.arrays (x.arrays + private_count v) a2 no_target (omega arith) (omega arith) (λ d v t q. t)) r r2)
    gathers (Copy PrivateMemory ty2 a) ts fs at_ts g env sems ty x code rest ok h room long es gs =
        let first = x.arrays + private_count a in
        let w = laid_in Private first ty2 in
        let D = scalars_of num sources sems a in
        let due = private_due first ty2 ok.1 (λ c lt. let e = long.1 c lt in omega arith) in
        let r = writes a ts fs at_ts g env sems ty2 w x code rest (subst (HasType num src g a) ok.0 ok.2) h room long.0 due es gs in
        let n2 = more x.count (variable_count a) in
        let a2 = x.arrays + (private_count a + width ty2) in
        let y = known_after x r.deeds r.after n2 a2 in
        let r2 : Ran st x fs code rest n2 first (Scratch x.arrays first) (Targets st ty2 w D) (λ k. Holds st (from k n2 a2) ty w D) = ran_so r (holds_as st y ty2 ty w D ok.0 (kept_reads y first ty2 D (λ c lt. let e = long.1 c lt in omega arith) (omega arith) due r.wrote.holds)) in
        ran_as st x fs code rest n2 first n2 a2 (λ k. Holds st k ty w D) (many_more x.count (variable_count a)) (omega arith) (λ m vars z. z)
        (λ c s. between_more x.arrays first x.arrays a2 c.array (omega arith) (omega arith) s)
        (λ c v t. inr (laid_scratch x.arrays first a2 ty2 D (omega arith) (omega arith) c v t))
        (λ c v t. absurd t) r2
    gathers _ ts fs at_ts g env sems ty x code rest ok h room long es gs = absurd h

    -- a term in writing position fills its place
    pub writes : (t : Term A) (ts : List ℕ) (fs : List Frame) → loop_variables fs ≡ ts → (g : ℕ → Ty) (env : ℕ → Marks) (sems : ℕ → Scalars) (ty : Ty) (w : Marks) (x : Known) (code rest : Code) → HasType num src g t ty → IsWritten st.device.launch st.item ins num ts env x.arrays x.count t w code rest
        → Fits (more x.count (variable_count t)) x.vars → Declares st.device.lengths x.arrays t → Due st (x.arrays + private_count t) ty w → AllHold st x g env sems → AllHold st x src ins sources → Fills x fs code rest t ty w (scalars_of num sources sems t)
    writes (Store u a) ts fs at_ts g env sems ty w x code rest ok h room long due es gs =
        let D = scalars_of num sources sems a in
        let r = elements st ts fs at_ts num src sources a g env sems ty x code h.0 ok.2 h.1 room es in
        let y = known_after x r.deeds r.after (more x.count (let_variables a)) x.arrays in
        let h2 = subst (λ t. IsStored st.device.launch st.item ins ts t (exprs env x.count a) w h.0 rest) (sym ok.0) h.2 in
        let due2 = due_at st (x.arrays + 0) x.arrays ty w (omega arith) due in
        let r2 = stores_run st ts fs at_ts ins ty (exprs env x.count a) D w y h.0 rest h2 r.good due2 in
        let r3 = ran_on st x fs code h.0 rest (more x.count (let_variables a)) x.arrays (more x.count (let_variables a)) x.arrays after_silence r r2 in
        ran_eq st x fs code rest (more x.count (let_variables a)) x.arrays (more x.count (let_variables a)) (x.arrays + 0) x.arrays refl (omega arith)
        (ran_plain st x fs code rest (more x.count (let_variables a)) x.arrays (many_more x.count (let_variables a)) (omega arith) r3)
    writes (Reshape y a) ts fs at_ts g env sems ty w x code rest ok h room long due es gs =
        let u = ok.0 in
        let w2 = λ (cs : List Bool) (q : List ℕ). w cs (result_position num y q) in
        let D = scalars_of num sources sems a in
        let r = writes a ts fs at_ts g env sems u w2 x code rest ok.1 h.1 room long (due_back st num y u ty w (x.arrays + private_count a) h.0 ok.2 due) es gs in
        ran_as st x fs code rest (more x.count (variable_count a)) (x.arrays + private_count a) (more x.count (variable_count a)) (x.arrays + private_count a) (λ k. Unit {0}) (many_more x.count (variable_count a)) (omega arith) (λ m vars z. z) (λ c s. s)
        (λ c v t. let b = result_in num y u ty t.0 t.1 h.0 ok.2 t.2 in inl (t.0, result_position num y t.1, b.0, t.3, t.4 ∙ ap (D t.0) (sym b.1)))
        (λ c v t. (t.0, operand_position num y t.1, operand_in num y u ty t.0 t.1 ok.2 t.2, t.3 ∙ ap (λ q. mark_cell st (w t.0 q)) (sym (result_operand num y u ty t.0 t.1 h.0 ok.2 t.2)), t.4)) r
    writes (LetArray v b) ts fs at_ts g env sems ty w x code rest ok h room long due es gs =
        let r = gathers v ts fs at_ts g env sems ok.0 x code h.0 ok.1 h.1 (fewer room (omega arith) (omega arith)) long.0 es gs in
        let y = known_after x r.deeds r.after (more x.count (variable_count v)) (x.arrays + private_count v) in
        let room2 : Fits (more (more x.count (variable_count v)) (variable_count b)) r.after = fewer_later room r.later.kept (omega arith) (omega arith) in
        let e = argument_marks st.device.launch ins num env x.arrays v in
        let D = scalars_of num sources sems v in
        let a2 = x.arrays + private_count v + private_count b in
        let n2 = more (more x.count (variable_count v)) (variable_count b) in
        let due2 = due_at st (x.arrays + (private_count v + private_count b)) a2 ty w (omega arith) due in
        let es2 = all_hold_push st y ok.0 e D g env sems r.good (all_hold_later st x y g env sems r.later es) in
        let T = Targets st ty w (scalars_of num sources (push D sems) b) in
        let r2 = writes b ts fs at_ts (push ok.0 g) (push e env) (push D sems) ty w y h.0 rest ok.2 h.2 room2 long.1 due2 es2 (all_hold_later st x y src ins sources r.later gs) in
        ran_eq st x fs code rest n2 a2 (more x.count (more (variable_count v) (variable_count b))) (x.arrays + (private_count v + private_count b)) x.arrays (more_more x.count (variable_count v) (variable_count b)) (omega arith)
        (ran_on st x fs code h.0 rest (more x.count (variable_count v)) (x.arrays + private_count v) n2 a2 (scratch_then st x.arrays (x.arrays + private_count v) a2 T (omega arith) (omega arith) (targets_unscratched st x.arrays a2 ty w (scalars_of num sources (push D sems) b) due2)) r r2)
    writes (LetElement u v b) ts fs at_ts g env sems ty w x code rest ok h room long due es gs =
        let D = scalars_of num sources sems v in
        let n1 = more x.count (let_variables v) in
        let n2 = more n1 (held_count u) in
        let r = elements st ts fs at_ts num src sources v g env sems u x code h.0 ok.1 h.2 (fewer room (omega arith) (omega arith)) es in
        let y = known_after x r.deeds r.after n1 x.arrays in
        let room2 : Fits (more (more (more x.count (let_variables v)) (held_count u)) (variable_count b)) r.after = fewer_later room r.later.kept (omega arith) (omega arith) in
        let r2 = assigned st ts fs at_ts u (exprs env x.count v) D y h.0 h.1 h.3 (fewer room2 (omega arith) (omega arith)) r.good in
        let z = known_after y r2.deeds r2.after n2 x.arrays in
        let room3 : Fits (more (more (more x.count (let_variables v)) (held_count u)) (variable_count b)) r2.after = fits_later room2 r2.later.kept in
        let later = later_on st x y z r.later r2.later in
        let es2 = all_hold_push st z u (held_marks u n1) D g env sems r2.good (all_hold_later st x z g env sems later es) in
        let r3 = writes b ts fs at_ts (push u g) (push (held_marks u n1) env) (push D sems) ty w z h.1 rest ok.2 h.4 room3 long due es2 (all_hold_later st x z src ins sources later gs) in
        ran_eq st x fs code rest (more n2 (variable_count b)) (x.arrays + private_count b) (more x.count (more (let_variables v) (more (held_count u) (variable_count b)))) (x.arrays + private_count b) x.arrays (count_same _ _ (omega arith) (omega arith)) refl
        (ran_on st x fs code h.0 rest n1 x.arrays (more n2 (variable_count b)) (x.arrays + private_count b) after_silence r
        (ran_on st y fs h.0 h.1 rest n2 x.arrays (more n2 (variable_count b)) (x.arrays + private_count b) after_silence r2 r3))
    writes (Map Sequential n loads xs b) ts fs at_ts g env sems ty w x code rest ok h room long due es gs =
        let len = num n in
        let xt = ok.0 in
        let yt = ok.1 in
        let r = gathers xs ts fs at_ts g env sems (ArrayOf len xt) x code h.0 ok.4 h.1 (fewer room (omega arith) (omega arith)) long.0 es gs in
        let n1 = more x.count (variable_count xs) in
        let a1 = x.arrays + private_count xs in
        let y = known_after x r.deeds r.after n1 a1 in
        let e = argument_marks st.device.launch ins num env x.arrays xs in
        let D = scalars_of num sources sems xs in
        let s = mapped (λ z. scalars_of num sources (push z sems) b) D in
        let room2 : Fits (more (more (more x.count (variable_count xs)) (load_count loads)) (variable_count b)) r.after = fewer_later room r.later.kept (omega arith) (omega arith) in
        let due1 : Due st (x.arrays + (private_count xs + private_count b)) (ArrayOf len yt) w = subst (λ t. Due st (x.arrays + (private_count xs + private_count b)) t w) ok.6 due in
        let a2 = a1 + private_count b in
        let n2 = more x.count (more (variable_count xs) (more (load_count loads) (variable_count b))) in
        let due2 : Due st a2 (ArrayOf len yt) w = due_at st (x.arrays + (private_count xs + private_count b)) a2 (ArrayOf len yt) w (omega arith) due1 in
        let es2 = all_hold_later st x y g env sems r.later es in
        let gs2 = all_hold_later st x y src ins sources r.later gs in
        let T = Targets st (ArrayOf len yt) w s in
        let r2 = map_run Sequential (λ u. u) len len loads b ts fs g env sems xt yt e w D y h.0 rest n2 a2 at_ts (λ f body q. seq_counts st len f body rest ok.2 q) (λ f body t. omega arith) (λ t lt. lt) (λ t u q. q) ok.3 due2.places (λ t lt. due_row st (λ u. u) yt w s a2 len t lt due2) h.2 room2 r.good es2 gs2
        (λ i lt m vars fs2 inner at2 h2 room3 due3 es3 gs3. writes b (ts ++ i ∷ []) fs2 at2 (push xt g) (push (loaded_marks loads (at_index i e) n1) env) (push (at_index i D) sems) yt (at_index i w) (in_turn y loads m vars) inner End ok.5 h2 room3 long.1 due3 es3 gs3)
        (at_most (omega arith) (omega arith)) (omega arith) in
        let r3 = ran_as st y fs h.0 rest n2 a2 n2 a2 (λ k. Unit {0}) (at_most (omega arith) (omega arith)) (omega arith) (λ m vars z. z) (λ c q. q)
        (λ c v q. inl (let t = q.2 in (t.0, q.0 ∷ t.1, (q.1, t.2), t.3, t.4))) (λ c v q. all_rows st len yt w s c v q) r2 in
        let r4 = ran_on st x fs code h.0 rest n1 a1 n2 a2 (scratch_then st x.arrays a1 a2 T (omega arith) (omega arith) (targets_unscratched st x.arrays a2 (ArrayOf len yt) w s due2)) r r3 in
        subst (λ t. Ran st x fs code rest n2 (x.arrays + (private_count xs + private_count b)) (Scratch x.arrays (x.arrays + (private_count xs + private_count b))) (Targets st t w s) (λ k. Unit {0})) (sym ok.6)
        (ran_eq st x fs code rest n2 a2 n2 (x.arrays + (private_count xs + private_count b)) x.arrays refl (omega arith) r4)
    writes (Fold n loads yt xs s b) ts fs at_ts g env sems ty w x code rest ok h room long due es gs =
        let r = gathers xs ts fs at_ts g env sems (ArrayOf (num n) ok.0) x code h.0 ok.4 h.4 (fewer room (omega arith) (omega arith)) long es gs in
        fold_whole n loads yt xs s b ts fs at_ts g env sems ok.0 ty w x code h.0 rest ok.7 room due r
        (fold_after (num n) loads yt s b ts fs at_ts g env sems ok.0 (argument_marks st.device.launch ins num env x.arrays xs) w (scalars_of num sources sems xs) (known_after x r.deeds r.after (more x.count (variable_count xs)) (x.arrays + private_count xs)) h.0 rest ok.1 ok.2 ok.5 ok.6 (h.1, h.2, h.3, h.5, h.6, h.7, h.8)
        (fewer_later room r.later.kept (omega arith) (omega arith))
        r.good (all_hold_later st x (known_after x r.deeds r.after (more x.count (variable_count xs)) (x.arrays + private_count xs)) g env sems r.later es) (subst (λ t. Due st (x.arrays + private_count xs) t w) ok.7 due))
    writes _ ts fs at_ts g env sems ty w x code rest ok h room long due es gs = absurd h
