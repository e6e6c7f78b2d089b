-- As many barriers stand as are listed.
use Rattle.std.proofs.Common.{◌≡◌, ℕ, zero, suc, ◌<◌, ◌≤◌, true, false, List, [], ◌∷◌, Option, Some, None, refl, ap, ◌∙◌, subst, ⊎_elim, arith, length}
use Rattle.std.specs.Prelude.{◌==◌, if◌then◌else◌, IfSome, unwrap_or, slice_index_or}
use Rattle.std.proofs.lemmas.Bool.{cases_lt, eq-eqb, ne_eqb}
use Rattle.barrier_placement.specs.Fencing.{Fencing, Open, stands, fencing_of, place_of, fence, InOrder}
use Rattle.barrier_placement.specs.Separates.{bit}
use Rattle.barrier_placement.specs.declared.placing.Barrier.{Barrier}
use Rattle.term_traffic.specs.Traffic.{barriers_to}

-- nothing changes before the place
before : (x : Fencing) (p : ℕ) (f : ℕ → Fencing) (n : ℕ) → n ≤ p → barriers_to (λ q. if p == q then x else f q) n ≡ barriers_to f n
before x p f zero le = refl
before x p f (suc n) le =
    let e = before x p f n (omega arith) in
    let d : (p == n) ≡ false = ne_eqb p n (λ q. let z = q in omega arith) in
    rw d (omega arith)

-- one more barrier, at a place where none stands
one_more : (x : Fencing) (p : ℕ) (f : ℕ → Fencing) → stands x ≡ true → stands (f p) ≡ false → (m : ℕ) → p < m → barriers_to (λ q. if p == q then x else f q) m ≡ suc (barriers_to f m)
one_more x p f is none zero h = absurd (omega arith)
one_more x p f is none (suc m) h = ⊎_elim (λ lt. later lt (one_more x p f is none m lt)) here (cases_lt p m)
  where
    later : p < m → barriers_to (λ q. if p == q then x else f q) m ≡ suc (barriers_to f m) → barriers_to (λ q. if p == q then x else f q) (suc m) ≡ suc (barriers_to f (suc m))
    later lt e = let n : (p == m) ≡ false = ne_eqb p m (λ q. let z = q in omega arith) in rw n (omega arith)

    here : m ≤ p → barriers_to (λ q. if p == q then x else f q) (suc m) ≡ suc (barriers_to f (suc m))
    here le =
        let same : p ≡ m = omega arith in
        let e = before x p f m (omega arith) in
        let y : (p == m) ≡ true = eq-eqb p m same in
        let one : bit (stands x) ≡ 1 = ap bit is in
        let free : bit (stands (f m)) ≡ 0 = ap bit (subst (λ z. stands (f z) ≡ false) same none) in
        rw y (omega arith)

-- no barrier of the list stands there
abbrev Misses : ℕ → ℕ → List Barrier → Type 0
Misses n p bs = (k : ℕ) (d : Barrier) → k < length bs → place_of n (slice_index_or bs k d) ≡ p → ⊥

open_there : (n p : ℕ) (bs : List Barrier) → Misses n p bs → stands (fence n bs p) ≡ false
open_there n p [] h = refl
open_there n p (b ∷ bs) h = rw (ne_eqb (place_of n b) p (h 0 b (omega arith))) (open_there n p bs (λ k d lt. h (suc k) d (omega arith)))

placed : (n : ℕ) (b : Barrier) → IfSome b.before (λ q. q < n) → place_of n b < suc n
placed n b h = go b.before h
  where
    go : (o : Option ℕ) → IfSome o (λ q. q < n) → unwrap_or o n < suc n
    go None h = omega arith
    go (Some q) h = omega arith

-- none counts where none stands
pub none_open : (m : ℕ) → barriers_to (λ q. Open) m ≡ 0
none_open zero = refl
none_open (suc m) = let e = none_open m in omega arith

counted : (n : ℕ) (bs : List Barrier) → ((k : ℕ) (d : Barrier) → k < length bs → IfSome (slice_index_or bs k d).before (λ q. q < n)) → ((i j : ℕ) (d : Barrier) → i < j → j < length bs → place_of n (slice_index_or bs i d) < place_of n (slice_index_or bs j d))
    → barriers_to (fence n bs) (suc n) ≡ length bs
counted n [] within sorted = none_open (suc n)
counted n (b ∷ bs) within sorted =
    let rest = counted n bs (λ k d lt. within (suc k) d (omega arith)) (λ i j d lt below. sorted (suc i) (suc j) d (omega arith) (omega arith)) in
    let miss : Misses n (place_of n b) bs = λ k d lt e. (let s = sorted 0 (suc k) d (omega arith) (omega arith) in let z = e in omega arith) in
    let one = one_more (fencing_of b) (place_of n b) (fence n bs) refl (open_there n (place_of n b) bs miss) (suc n) (placed n b (within 0 b (omega arith))) in
    one ∙ ap suc rest

pub as_listed : (n : ℕ) (bs : List Barrier) → InOrder n bs → barriers_to (fence n bs) (suc n) ≡ length bs
as_listed n bs h = counted n bs h.before_phases h.in_order
