-- Which barriers the two phases of the worked tiles need, and which don't separate them.
use Rattle.std.proofs.Common.{◌≡◌, ◌↔◌, ℕ, zero, suc, ◌<◌, ◌≤◌, ◌⊎◌, Bool, true, false, true≢false, refl, sym, ap, ◌∙◌, ⊎_elim, inl, inr, arith}
use Rattle.std.specs.Prelude.{◌&&◌, All, Contains, get_or}
use Rattle.std.proofs.lemmas.Bool.{both_ways, and_from}
use Rattle.std.proofs.lemmas.List.Elements.{All-contains}
use Rattle.barrier_placement.specs.declared.touches.Touch.{Touch}
use Rattle.barrier_placement.specs.Conflicts.{Space, Local, Global, space_of, Conflict}
use Rattle.barrier_placement.specs.Fencing.{stands, orders}
use Rattle.barrier_placement.specs.Needed.{NeedsBefore, NeedsClosing, Needed}
use Rattle.barrier_placement.specs.Separates.{Separates}
use Rattle.worked_kernels.specs.Tiles.{writer, reader, tile_touches, no_barriers, two_barriers, open_end, wrong_flag}

pub all_local : (nb : Bool) → All (λ x. space_of x.local ≡ Local) (tile_touches nb)
all_local nb zero d lt = refl
all_local nb (suc zero) d lt = refl
all_local nb (suc (suc k)) d lt = absurd (omega arith)

either : (nb : Bool) (x : Touch) (i : ℕ) → i < 2 → get_or (tile_touches nb) i x ≡ x → (x ≡ writer) ⊎ (x ≡ reader nb)
either nb x zero lt e = inl (sym e)
either nb x (suc zero) lt e = inr (sym e)
either nb x (suc (suc i)) lt e = absurd (omega arith)

all_aligned : (x : Touch) → Contains (tile_touches false) x → x.aligned ≡ true
all_aligned x h = ⊎_elim (λ e. ap (λ z. z.aligned) e) (λ e. ap (λ z. z.aligned) e) (either false x h.0 h.1 h.2)

-- where each item reads what it copied, nothing is in conflict
no_conflict : (space : Space) (p q : ℕ) → Conflict (tile_touches false) space p q → ⊥
no_conflict space p q c = both_ways (c.first.aligned && c.second.aligned) c.clash.not_aligned (and_from c.first.aligned c.second.aligned (all_aligned c.first c.first_used) (all_aligned c.second c.second_used))

on_local : (nb : Bool) (space : Space) (p q : ℕ) → Conflict (tile_touches nb) space p q → Local ≡ space
on_local nb space p q c = sym (All-contains (λ x. space_of x.local ≡ Local) (tile_touches nb) c.first (all_local nb) c.first_used) ∙ c.lies_in

local_global : Local ≡ Global → ⊥
local_global e = cc

-- the writer conflicts with the neighbour's reader
conflict : Conflict (tile_touches true) Local 0 1
conflict = record {
  first = writer;
  second = reader true;
  first_used = (0, omega arith, refl);
  second_used = (1, omega arith, refl);
  first_phase = refl;
  second_phase = refl;
  lies_in = refl;
  clash = record { one_space = refl; one_buffer = refl; one_writes = inl refl; not_aligned = refl };
}

conflict_back : Conflict (tile_touches true) Local 1 0
conflict_back = record {
  first = reader true;
  second = writer;
  first_used = (1, omega arith, refl);
  second_used = (0, omega arith, refl);
  first_phase = refl;
  second_phase = refl;
  lies_in = refl;
  clash = record { one_space = refl; one_buffer = refl; one_writes = inr refl; not_aligned = refl };
}

pub aligned_need : Needed (tile_touches false) false 2 no_barriers
aligned_need = record {
  before = λ space q lt. (λ e. absurd (true≢false (sym e)), λ z. absurd (no_conflict space z.0 q z.1.conflict));
  closing = λ space. (λ e. absurd (true≢false (sym e)), λ z. absurd (no_conflict space z.0 z.1 z.2.conflict));
  flagged = λ q le e. absurd (true≢false (sym e));
}

exchanged_before : (space : Space) (q : ℕ) → q < 2 → (orders space (two_barriers q) ≡ true) ↔ ((p : ℕ) × NeedsBefore (tile_touches true) two_barriers space p q)
exchanged_before space zero lt = (λ e. absurd (true≢false (sym e)), λ z. let n = z.1.earlier in absurd (omega arith))
exchanged_before Local (suc zero) lt = (λ e. (0, record { earlier = omega arith; since_barrier = λ r low high. absurd (omega arith); conflict = conflict }), λ z. refl)
exchanged_before Global (suc zero) lt = (λ e. absurd (true≢false (sym e)), λ z. absurd (local_global (on_local true Global z.0 1 z.1.conflict)))
exchanged_before space (suc (suc q)) lt = absurd (omega arith)

exchanged_closing : (space : Space) → (orders space (two_barriers 2) ≡ true) ↔ ((p q : ℕ) × NeedsClosing (tile_touches true) false 2 two_barriers space p q)
exchanged_closing Local = (
  λ e. (1, 0, record { again = refl; first_within = omega arith; second_within = omega arith; after_last = λ r low high. absurd (omega arith); before_first = λ r le. ap (λ z. stands (two_barriers z)) (let z : r ≡ 0 = omega arith in z); conflict = conflict_back }),
  λ z. refl,
)
exchanged_closing Global = (λ e. absurd (true≢false (sym e)), λ z. absurd (local_global (on_local true Global z.0 z.1 z.2.conflict)))

exchanged_flagged : (q : ℕ) → q ≤ 2 → stands (two_barriers q) ≡ true → (space : Space) × (orders space (two_barriers q) ≡ true)
exchanged_flagged zero le e = absurd (true≢false (sym e))
exchanged_flagged (suc q) le e = (Local, refl)

pub exchanged_need : Needed (tile_touches true) false 2 two_barriers
exchanged_need = record { before = exchanged_before; closing = exchanged_closing; flagged = exchanged_flagged }

pub open_end_fails : Separates (tile_touches true) Local false 2 open_end → ⊥
open_end_fails s = ⊎_elim (λ z. later z.0 z.1 z.2 z.3) (λ z. early z.0 z.1 z.2) (s.around refl 1 0 (omega arith) (omega arith) conflict_back)
  where
    later : (r : ℕ) → 1 < r → r ≤ 2 → orders Local (open_end r) ≡ true → ⊥
    later zero a b e = omega arith
    later (suc zero) a b e = omega arith
    later (suc (suc r)) a b e = true≢false (sym e)

    early : (r : ℕ) → r ≤ 0 → orders Local (open_end r) ≡ true → ⊥
    early zero b e = true≢false (sym e)
    early (suc r) b e = omega arith

pub wrong_flag_fails : Separates (tile_touches true) Local false 2 wrong_flag → ⊥
wrong_flag_fails s = let z = s.within 0 1 (omega arith) (omega arith) conflict in none z.0 z.3
  where
    none : (r : ℕ) → orders Local (wrong_flag r) ≡ true → ⊥
    none zero e = true≢false (sym e)
    none (suc r) e = true≢false (sym e)
