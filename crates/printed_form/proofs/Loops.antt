-- Loops of one item, whose turns change what it knows.
use Rattle.std.proofs.Common.{◌≡◌, ℕ, zero, suc, ◌<◌, ◌≤◌, Bool, List, [], ◌∷◌, ◌++◌, refl, sym, ap, ◌∙◌, subst, ⊎_elim, inl, inr, arith}
use Rattle.std.proofs.lemmas.Bool.{cases_lt}
use Rattle.kernel_tree.specs.Formula.{Vars}
use Rattle.kernel_tree.specs.Code.{Array, Private, Code, End}
use Rattle.kernel_tree.specs.Item.{Frame, item}
use Rattle.kernel_tree.specs.Device.{Cell, Memory}
use Rattle.kernel_tree.specs.Deeds.{Deed, Moved, Goes, Every, written}
use Rattle.kernel_tree.specs.Independent.{IsAllowed, Agrees}
use Rattle.kernel_tree.specs.Rounds.{Loop, loop_code, frame_of, Counts}
use Rattle.kernel_tree.proofs.Deeds.{goes_on, goes_moved, tested_at, next_enter, next_again, inside, outside}
use Rattle.kernel_tree.proofs.Independent.{written-append}
use Rattle.kernel_tree.proofs.Turns.{every-append}
use Rattle.lift_ir.specs.Types.{Ty, ArrayOf, IsPosition}
use Rattle.lift_ir.specs.Scalars.{Scalars, at_index}
use Rattle.printed_form.specs.Counts.{Count, AtMost}
use Rattle.printed_form.specs.Marks.{Mark, Spot, Register, Lane, Nowhere, Marks}
use Rattle.printed_form.specs.Runs.{Setting, Known, IsOpen, IsBetween, Scratch, mark_cell, Later, DueAt, Due, Targets, Wrote, known_after, Ran, Apart}
use Rattle.printed_form.proofs.Runs.{as_many, kept_less, filled_more, later_same, later_on, silent, wrote_on, agrees_on, before_silence}

-- what is known, with another memory and other variables
abbrev pub at : Known → Memory → Vars → Known
at x m vars = record { memory = m; vars = vars; count = x.count; arrays = x.arrays }

-- counted from fewer variables and arrays
abbrev pub from : Known → (count : Count) → (arrays : ℕ) → Known
from x n a = record { memory = x.memory; vars = x.vars; count = n; arrays = a }

-- lists that are the same go on the same way
pub rest_is : (i j : ℕ) (p r : List ℕ) → i ∷ p ≡ j ∷ r → p ≡ r
rest_is i j p r e = cc

module _ (st : Setting) where
  pub later_from : (x y : Known) (n : Count) (a : ℕ) (n2 : Count) (a2 : ℕ) → AtMost n x.count → a ≤ x.arrays → AtMost n n2 → a ≤ a2 → Later st x y → Later st (from x n a) (from y n2 a2)
  later_from x y n a n2 a2 p q r s h = record {
    more = r.words;
    more_fours = r.fours;
    more_arrays = s;
    kept = kept_less n x.count x.vars y.vars p.words p.fours h.kept;
    same = λ c f. h.same c (filled_more st.locals a x.arrays c.array q f);
  }

  pub ran_from : {S : Cell → Type 0} {T : Cell → ℕ → Type 0} {G : Known → Type 0} (x : Known) (fs : List Frame) (code rest : Code) (n : Count) (a : ℕ) (n1 : Count) (a1 : ℕ) (n2 : Count) (a2 : ℕ) (H : Known → Type 0) → AtMost n x.count → a ≤ x.arrays → AtMost n n2 → a ≤ a2
      → ((m : Memory) (vars : Vars) → G (record { memory = m; vars = vars; count = n1; arrays = a1 }) → H (record { memory = m; vars = vars; count = n2; arrays = a2 })) → Ran st x fs code rest n1 a1 S T G → Ran st (from x n a) fs code rest n2 a2 S T H
  ran_from x fs code rest n a n1 a1 n2 a2 H p q r s up h = record {
    after = h.after;
    deeds = h.deeds;
    goes = h.goes;
    later = later_from x (known_after x h.deeds h.after n1 a1) n a n2 a2 p q r s h.later;
    allowed = h.allowed;
    wrote = h.wrote;
    good = up (written h.deeds x.memory) h.after h.good;
  }

  module _ (fs : List Frame) (p : Loop) (count : ℕ) (r : Counts st.device st.item p count) (x : Known) (S : Cell → Type 0) (T T1 : ℕ → Cell → ℕ → Type 0) (Inv : ℕ → Memory → Vars → Type 0)
      (none : (c : Cell) (v : ℕ) → T 0 c v → ⊥) (apart : (t : ℕ) → t < count → Apart S (T t) S (T1 t) S (T (suc t))) where
    frame : ℕ → Frame
    frame t = frame_of st.device st.item p t

    record Reached (t : ℕ) : Type 0 where
      vars : Vars
      deeds : List Deed
      goes : (m : Memory) → Agrees st.owners st.item x.memory m → Goes st.device st.item (item (loop_code p) fs x.vars) m deeds (tested_at st.device st.item fs r.bound p.start p.bound p.stride p.body p.after t vars)
      later : Later st x (at x (written deeds x.memory) vars)
      allowed : Every (IsAllowed st.owners st.item) deeds
      wrote : Wrote S (T t) x.memory deeds
      inv : Inv t (written deeds x.memory) vars

    -- a turn, from what is known at its beginning
    abbrev pub TurnRuns : (n : Count) → (a : ℕ) → Type 0
    TurnRuns n a = (t : ℕ) → t < count → (m : Memory) (vars : Vars) → Later st x (at x m vars) → Inv t m vars → Ran st (at x m vars) (frame_of st.device st.item p t ∷ fs) p.body End n a S (T1 t) (λ y. Inv (suc t) y.memory y.vars)

    module _ (n : Count) (a : ℕ) (begin : Inv 0 x.memory x.vars) (turn : TurnRuns n a) where
      reach : (t : ℕ) → t ≤ count → Reached t
      reach zero le = record {
        vars = x.vars;
        deeds = Moved ∷ [];
        goes = λ m ag. goes_moved st.device st.item _ _ m (next_enter st.device st.item fs r.bound p.start p.bound p.stride p.body p.after x.vars r.bound_is);
        later = later_same st x;
        allowed = (tt, tt);
        wrote = record { once = λ c v t. absurd (none c v t); holds = λ c v t. absurd (none c v t); quiet = λ c s t. refl };
        inv = begin;
      }
      reach (suc t) le =
          let lt : t < count = omega arith in
          let h = reach t (omega arith) in
          let m = written h.deeds x.memory in
          let y = at x m h.vars in
          let u = turn t lt m h.vars h.later h.inv in
          let more = u.deeds ++ Moved ∷ [] in
          let is : written u.deeds m ≡ written (h.deeds ++ more) x.memory = sym (written-append h.deeds more x.memory ∙ written-append u.deeds (Moved ∷ []) m) in
          record {
            vars = u.after;
            deeds = h.deeds ++ more;
            goes = λ k ag.
                let ag2 = agrees_on st.owners st.item x.memory k h.deeds ag in
                goes_on st.device st.item _ _ _ k h.deeds more (subst (λ z. Goes st.device st.item (item (loop_code p) fs x.vars) k h.deeds z) (inside st.device st.item fs r.bound p.start p.bound p.stride p.body p.after t h.vars (r.below t lt)) (h.goes k ag))
                (goes_on st.device st.item _ _ _ _ u.deeds (Moved ∷ []) (u.goes (written h.deeds k) ag2) (goes_moved st.device st.item _ _ _ (next_again st.device st.item fs r.bound p.start p.bound p.stride p.body p.after t u.after r.bound_is (r.fits t lt))));
            later = subst (λ z. Later st x (at x z u.after)) is (later_on st x y (at x (written u.deeds m) u.after) h.later (later_from y (known_after y u.deeds u.after n a) x.count x.arrays x.count x.arrays (as_many x.count) (omega arith) (as_many x.count) (omega arith) u.later));
            allowed = every-append (IsAllowed st.owners st.item) h.deeds more h.allowed (every-append (IsAllowed st.owners st.item) u.deeds (Moved ∷ []) u.allowed (tt, tt));
            wrote = wrote_on x.memory h.deeds more (apart t lt) h.wrote (wrote_on m u.deeds (Moved ∷ []) before_silence u.wrote (silent (written u.deeds m) (Moved ∷ []) (λ c. refl)));
            inv = subst (λ z. Inv (suc t) z u.after) is u.good;
          }

      pub looped : (n2 : Count) (a2 : ℕ) → AtMost x.count n2 → x.arrays ≤ a2 → Ran st x fs (loop_code p) p.after n2 a2 S (T count) (λ y. Inv count y.memory y.vars)
      looped n2 a2 le le2 =
          let h = reach count (omega arith) in
          record {
            after = h.vars;
            deeds = h.deeds;
            goes = λ m ag. subst (λ z. Goes st.device st.item (item (loop_code p) fs x.vars) m h.deeds z) (outside st.device st.item fs r.bound p.start p.bound p.stride p.body p.after count h.vars r.past) (h.goes m ag);
            later = later_from x (at x (written h.deeds x.memory) h.vars) x.count x.arrays n2 a2 (as_many x.count) (omega arith) le le2 h.later;
            allowed = h.allowed;
            wrote = h.wrote;
            good = h.inv;
          }

-- rows of an array, as a loop fills them: turn u fills row `row u`

module _ (st : Setting) (row : ℕ → ℕ) (y : Ty) (w : Marks) (s : Scalars) where
  abbrev pub Rows : ℕ → Cell → ℕ → Type 0
  Rows t c v = (u : ℕ) × (u < t) × Targets st y (at_index (row u) w) (at_index (row u) s) c v

  abbrev pub Row : ℕ → Cell → ℕ → Type 0
  Row t = Targets st y (at_index (row t) w) (at_index (row t) s)

  -- scratch cells are no targets
  pub due_unscratched : (b a : ℕ) (m : Mark) → DueAt st a m → Scratch b a (mark_cell st m) → ⊥
  due_unscratched b a Nowhere d h = d
  due_unscratched b a (Register r) d h = d
  due_unscratched b a (Lane r j) d h = d
  due_unscratched b a (Spot e i) d h = go e d.2 h
    where
      go : (e : Array) → IsOpen st.locals a e → IsBetween b a e → ⊥
      go (Private n) o h = let z : a < a = omega arith in let f : (a < a) → ⊥ = λ q. omega arith in f z
      go _ o h = h

  head_is : (i j : ℕ) (q p : List ℕ) → i ∷ q ≡ j ∷ p → i ≡ j
  head_is i j q p e = ap head e
    where
      head : List ℕ → ℕ
      head [] = i
      head (n ∷ q) = n

  -- positions have cells of their own
  abbrev pub PlacesDiffer : Ty → Type 0
  PlacesDiffer ty = (cs ds : List Bool) (q p : List ℕ) → IsPosition ty cs q → IsPosition ty ds p → mark_cell st (w cs q) ≡ mark_cell st (w ds p) → q ≡ p

  pub rows_apart : (b a len count : ℕ) → PlacesDiffer (ArrayOf len y) → ((t : ℕ) → t < count → Due st a y (at_index (row t) w)) → ((t : ℕ) → t < count → row t < len) → ((t u : ℕ) → row t ≡ row u → t ≡ u)
      → (t : ℕ) → t < count → Apart (Scratch b a) (Rows t) (Scratch b a) (Row t) (Scratch b a) (Rows (suc t))
  rows_apart b a len count places dues below differ t lt = record {
    targets = λ c v u l r.
        let g = l.2 in
        let e = places g.0 r.0 (row l.0 ∷ g.1) (row t ∷ r.1) (below l.0 (let z = l.1 in omega arith), g.2) (below t lt, r.2) (sym g.3 ∙ r.3) in
        apart l.0 l.1 (differ l.0 t (head_is (row l.0) (row t) g.1 r.1 e));
    first_kept = λ c v l h. let g = l.2 in due_unscratched b a (w g.0 (row l.0 ∷ g.1)) ((dues l.0 (let z = l.1 in omega arith)).at g.0 g.1 g.2) (subst (Scratch b a) g.3 h);
    second_free = λ c v g h. due_unscratched b a (w g.0 (row t ∷ g.1)) ((dues t lt).at g.0 g.1 g.2) (subst (Scratch b a) g.3 h);
    scratch_first = λ c h. h;
    scratch_second = λ c h. h;
    target_first = λ c v l. (l.0, (let z = l.1 in omega arith), l.2);
    target_second = λ c v g. (t, (omega arith), g);
    parts = λ c v l. ⊎_elim (λ m. inl (l.0, m, l.2)) (λ m. let e : l.0 ≡ t = (let z = l.1 in omega arith) in inr (subst (λ n. Row n c v) e l.2)) (cases_lt l.0 t);
  }
    where
      apart : (i : ℕ) → i < t → i ≡ t → ⊥
      apart i m e = omega arith

  pub no_rows : (c : Cell) (v : ℕ) → Rows 0 c v → ⊥
  no_rows c v h = let z = h.1 in omega arith

  -- the place of one row
  pub due_row : (a len i : ℕ) → i < len → Due st a (ArrayOf len y) w → Due st a y (at_index i w)
  due_row a len i lt h = record {
    at = λ cs q k. h.at cs (i ∷ q) (lt, k);
    choices = λ cs ds q p k j e. h.choices cs ds (i ∷ q) (i ∷ p) (lt, k) (lt, j) e;
    places = λ cs ds q p k j e. rest_is i i q p (h.places cs ds (i ∷ q) (i ∷ p) (lt, k) (lt, j) e);
  }
