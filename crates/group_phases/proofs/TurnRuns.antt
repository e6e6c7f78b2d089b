-- Code of one item that is taken turn by turn, whose turns change what it knows.
use Rattle.std.proofs.Common.{◌≡◌, ℕ, zero, suc, ◌<◌, ◌≤◌, List, ◌++◌, refl, sym, ◌∙◌, subst, ⊎_elim, inl, inr, arith}
use Rattle.std.proofs.lemmas.Bool.{cases_lt}
use Rattle.kernel_tree.specs.Formula.{Vars}
use Rattle.kernel_tree.specs.Code.{Code}
use Rattle.kernel_tree.specs.Item.{Frame, item}
use Rattle.kernel_tree.specs.Device.{Cell, Memory}
use Rattle.kernel_tree.specs.Deeds.{Deed, Goes, Every, written}
use Rattle.kernel_tree.specs.Independent.{Owners, IsAllowed, Agrees, write_count}
use Rattle.kernel_tree.proofs.Deeds.{goes_on}
use Rattle.kernel_tree.proofs.Independent.{written-append}
use Rattle.kernel_tree.proofs.Turns.{every-append}
use Rattle.printed_form.specs.Counts.{Count, AtMost}
use Rattle.printed_form.specs.Runs.{Setting, Known, Later, Wrote, known_after, Ran, Apart}
use Rattle.printed_form.proofs.Loops.{at, later_from}
use Rattle.printed_form.proofs.Runs.{as_many, later_same, later_on, silent, wrote_on, agrees_on, before_silence}
use Rattle.group_phases.specs.TurnForms.{moves, Form, place, TakesTurns}
use Rattle.group_phases.specs.Written.{DoneBy}
use Rattle.group_phases.proofs.TurnForms.{written-moves, place_in, place_past}

pub moves_allowed : (o : Owners) (k n : ℕ) → Every (IsAllowed o k) (moves n)
moves_allowed o k zero = tt
moves_allowed o k (suc n) = (tt, moves_allowed o k n)

pub moves_quiet : (c : Cell) (n : ℕ) → write_count c (moves n) ≡ 0
moves_quiet c zero = refl
moves_quiet c (suc n) = moves_quiet c n

module _ (st : Setting) (fs : List Frame) (code rest : Code) (f : Form) (takes : TakesTurns st.device st.item fs code rest f) (x : Known) (S : Cell → Type 0) (T T1 : ℕ → Cell → ℕ → Type 0) (Inv : ℕ → Memory → Vars → Type 0)
    (none : (c : Cell) (v : ℕ) → T 0 c v → ⊥) (apart : (t : ℕ) → t < f.count → Apart S (T t) S (T1 t) S (T (suc t))) where
  record Reached (t : ℕ) : Type 0 where
    vars : Vars
    deeds : List Deed
    goes : (m : Memory) → Agrees st.owners st.item x.memory m → Goes st.device st.item (item code fs x.vars) m deeds (place f fs rest t vars)
    later : Later st x (at x (written deeds x.memory) vars)
    allowed : Every (IsAllowed st.owners st.item) deeds
    wrote : Wrote S (T t) x.memory deeds
    inv : Inv t (written deeds x.memory) vars

  -- a turn, from what is known at its beginning
  abbrev pub EachTurnRuns : (n : Count) → (a : ℕ) → Type 0
  EachTurnRuns n a = (t : ℕ) → t < f.count → (m : Memory) (vars : Vars) → Later st x (at x m vars) → Inv t m vars → Ran st (at x m vars) (f.frames t) f.first f.last n a S (T1 t) (λ y. Inv (suc t) y.memory y.vars)

  module _ (n : Count) (a : ℕ) (begin : Inv 0 x.memory x.vars) (turn : EachTurnRuns n a) where
    reach : (t : ℕ) → t ≤ f.count → Reached t
    reach zero le =
        let e = takes.enters x.vars in
        let same : x.memory ≡ written (moves e.0) x.memory = sym (written-moves e.0 x.memory) in
        record {
          vars = x.vars;
          deeds = moves e.0;
          goes = λ m ag. e.1 m;
          later = subst (λ m. Later st x (at x m x.vars)) same (later_same st x);
          allowed = moves_allowed st.owners st.item e.0;
          wrote = record { once = λ c v t. absurd (none c v t); holds = λ c v t. absurd (none c v t); quiet = λ c s t. moves_quiet c e.0 };
          inv = subst (λ m. Inv 0 m x.vars) same begin;
        }
    reach (suc t) le =
        let lt : t < f.count = omega arith in
        let h = reach t (omega arith) in
        let m = written h.deeds x.memory in
        let y = at x m h.vars in
        let u = turn t lt m h.vars h.later h.inv in
        let e = takes.again t u.after lt in
        let more = u.deeds ++ moves e.0 in
        let is : written u.deeds m ≡ written (h.deeds ++ more) x.memory = sym (written-append h.deeds more x.memory ∙ written-append u.deeds (moves e.0) m ∙ written-moves e.0 (written u.deeds m)) in
        record {
          vars = u.after;
          deeds = h.deeds ++ more;
          goes = λ k ag.
              let ag2 = agrees_on st.owners st.item x.memory k h.deeds ag in
              goes_on st.device st.item _ _ _ k h.deeds more (subst (λ z. Goes st.device st.item (item code fs x.vars) k h.deeds z) (place_in st.device st.item fs rest f t h.vars lt) (h.goes k ag))
              (goes_on st.device st.item _ _ _ _ u.deeds (moves e.0) (u.goes (written h.deeds k) ag2) (e.1 (written u.deeds (written h.deeds k))));
          later = subst (λ z. Later st x (at x z u.after)) is (later_on st x y (at x (written u.deeds m) u.after) h.later (later_from st y (known_after y u.deeds u.after n a) x.count x.arrays x.count x.arrays (as_many x.count) (omega arith) (as_many x.count) (omega arith) u.later));
          allowed = every-append (IsAllowed st.owners st.item) h.deeds more h.allowed (every-append (IsAllowed st.owners st.item) u.deeds (moves e.0) u.allowed (moves_allowed st.owners st.item e.0));
          wrote = wrote_on x.memory h.deeds more (apart t lt) h.wrote (wrote_on m u.deeds (moves e.0) before_silence u.wrote (silent (written u.deeds m) (moves e.0) (λ c. moves_quiet c e.0)));
          inv = subst (λ z. Inv (suc t) z u.after) is u.good;
        }

    -- all turns, from the code to the rest
    pub turned : (n2 : Count) (a2 : ℕ) → AtMost x.count n2 → x.arrays ≤ a2 → Ran st x fs code rest n2 a2 S (T f.count) (λ y. Inv f.count y.memory y.vars)
    turned n2 a2 le le2 =
        let h = reach f.count (omega arith) in
        record {
          after = h.vars;
          deeds = h.deeds;
          goes = λ m ag. subst (λ z. Goes st.device st.item (item code fs x.vars) m h.deeds z) (place_past st.device st.item fs rest f f.count h.vars (omega arith)) (h.goes m ag);
          later = later_from st x (at x (written h.deeds x.memory) h.vars) x.count x.arrays n2 a2 (as_many x.count) (omega arith) le le2 h.later;
          allowed = h.allowed;
          wrote = h.wrote;
          good = h.inv;
        }

-- each turn has cells of its own, whatever they are
module _ (st : Setting) (fs : List Frame) (code rest : Code) (f : Form) (takes : TakesTurns st.device st.item fs code rest f) (x : Known) (S : Cell → Type 0) (T : ℕ → Cell → ℕ → Type 0) (Inv : ℕ → Memory → Vars → Type 0)
    (own : (i j : ℕ) (c : Cell) (v w : ℕ) → i < j → j < f.count → T i c v → T j c w → ⊥) (kept : (i : ℕ) (c : Cell) (v : ℕ) → i < f.count → T i c v → S c → ⊥) where
  pub no_turns : (c : Cell) (v : ℕ) → DoneBy T 0 c v → ⊥
  no_turns c v x = let lt = x.1 in omega arith

  pub turns_apart : (t : ℕ) → t < f.count → Apart S (DoneBy T t) S (T t) S (DoneBy T (suc t))
  turns_apart t lt = record {
    targets = λ c v w a b. own a.0 t c v w a.1 lt a.2 b;
    first_kept = λ c v a s. kept a.0 c v (let z = a.1 in omega arith) a.2 s;
    second_free = λ c v b s. kept t c v lt b s;
    scratch_first = λ c s. s;
    scratch_second = λ c s. s;
    target_first = λ c v a. (a.0, (let z = a.1 in omega arith), a.2);
    target_second = λ c v b. (t, omega arith, b);
    parts = λ c v a. ⊎_elim (λ low. inl (a.0, low, a.2)) (λ high. let z = a.1 in let e : a.0 ≡ t = omega arith in inr (subst (λ i. T i c v) e a.2)) (cases_lt a.0 t);
  }

  -- so it is with what each turn writes, also where a turn is itself a form of turns
  pub turned_by : (n : Count) (a : ℕ) → AtMost x.count n → x.arrays ≤ a → Inv 0 x.memory x.vars → EachTurnRuns st fs code rest f takes x S (DoneBy T) T Inv no_turns turns_apart n a → Ran st x fs code rest n a S (DoneBy T f.count) (λ y. Inv f.count y.memory y.vars)
  turned_by n a le le2 begin turn = turned st fs code rest f takes x S (DoneBy T) T Inv no_turns turns_apart n a begin turn n a le le2
