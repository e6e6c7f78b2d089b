-- A loop of one item, by what holds after each of its turns.
use Rattle.std.proofs.Common.{ℕ, zero, suc, ◌<◌, ◌≤◌, List, [], ◌∷◌, ◌++◌, subst, arith}
use Rattle.kernel_tree.specs.Formula.{Vars}
use Rattle.kernel_tree.specs.Item.{item, Frame}
use Rattle.kernel_tree.specs.Device.{Device, Memory}
use Rattle.kernel_tree.specs.Deeds.{Deed, Moved, Goes, all_turns}
use Rattle.kernel_tree.specs.Rounds.{Loop, loop_code, Counts, Turns, Turn, Through}
use Rattle.kernel_tree.proofs.Deeds.{goes_on, goes_moved, tested_at, next_enter, next_again, inside, outside, goes_loop}

module _ (d : Device) (k : ℕ) (fs : List Frame) (p : Loop) (count : ℕ) (r : Counts d k p count) (first : Vars) (Ok : Memory → Type 0) (Inv : ℕ → Vars → List Deed → Type 0) where
  record Reached (t : ℕ) : Type 0 where
    vars : Vars
    deeds : List Deed
    goes : (m : Memory) → Ok m → Goes d k (item (loop_code p) fs first) m deeds (tested_at d k fs r.bound p.start p.bound p.stride p.body p.after t vars)
    inv : Inv t vars deeds

  module _ (begin : Inv 0 first (Moved ∷ [])) (turn : (t : ℕ) (vars : Vars) (ds : List Deed) → t < count → Inv t vars ds → Turn d k fs p Ok Inv t vars ds) where
    reach : (t : ℕ) → t ≤ count → Reached t
    reach zero le = record { vars = first; deeds = Moved ∷ []; goes = λ m ok. goes_moved d k _ _ m (next_enter d k fs r.bound p.start p.bound p.stride p.body p.after first r.bound_is); inv = begin }
    reach (suc t) le =
        let lt : t < count = omega arith in
        let h = reach t (omega arith) in
        let u = turn t h.vars h.deeds lt h.inv in
        record {
          vars = u.after;
          deeds = h.deeds ++ (u.deeds ++ Moved ∷ []);
          goes = λ m ok. goes_on d k _ _ _ m h.deeds (u.deeds ++ Moved ∷ []) (subst (λ z. Goes d k (item (loop_code p) fs first) m h.deeds z) (inside d k fs r.bound p.start p.bound p.stride p.body p.after t h.vars (r.below t lt)) (h.goes m ok)) (goes_on d k _ _ _ _ u.deeds (Moved ∷ []) (u.goes m ok) (goes_moved d k _ _ _ (next_again d k fs r.bound p.start p.bound p.stride p.body p.after t u.after r.bound_is (r.fits t lt))));
          inv = u.inv;
        }

    pub through : Through d k fs p Ok Inv count first
    through =
        let h = reach count (omega arith) in
        record { after = h.vars; deeds = h.deeds; goes = λ m ok. subst (λ z. Goes d k (item (loop_code p) fs first) m h.deeds z) (outside d k fs r.bound p.start p.bound p.stride p.body p.after count h.vars r.past) (h.goes m ok); inv = h.inv }

pub by_turns : (d : Device) (k : ℕ) (fs : List Frame) (p : Loop) (n : ℕ) (vs : ℕ → Vars) (m : Memory) (ds : ℕ → List Deed) → Turns d k fs p n vs m ds → Goes d k (item (loop_code p) fs (vs 0)) m (Moved ∷ all_turns ds n) (item p.after fs (vs n))
by_turns d k fs p n vs m ds h =
    let c = h.counts in
    goes_loop d k fs c.bound p.start p.bound p.stride p.body p.after n vs m ds (record { bound_is = c.bound_is; below = c.below; past = c.past; fits = c.fits; turn = h.turn })
