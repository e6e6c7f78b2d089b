-- What a list of barriers puts before each phase.
use Rattle.std.proofs.Common.{◌≡◌, ℕ, zero, suc, ◌-◌, ◌<◌, ◌≤◌, Bool, true, false, Option, Some, None, IfSome, List, [], ◌∷◌, ◌++◌, length, get_or, filter, is_some, All, refl, sym, ap, ◌∙◌, ⊎_elim, arith}
use Rattle.std.specs.Prelude.{◌==◌, if◌then◌else◌, unwrap_or, cond}
use Rattle.std.proofs.lemmas.Bool.{cases_lt, cases_Bool, true≢false, eq-eqb, ne_eqb}
use Rattle.std.proofs.lemmas.List.Elements.{All-head, All-tail}
use Rattle.barrier_placement.specs.declared.placing.Barrier.{Barrier}
use Rattle.barrier_placement.specs.Fencing.{Open, stands, fencing_of, place_of, fence, InOrder}
use Rattle.barrier_placement.specs.Separates.{bit, count_of}

pub fence_here : (n : ℕ) (b : Barrier) (bs : List Barrier) (r : ℕ) → place_of n b ≡ r → fence n (b ∷ bs) r ≡ fencing_of b
fence_here n b bs r e = ap (λ x. if x then fencing_of b else fence n bs r) (eq-eqb _ _ e)

pub fence_there : (n : ℕ) (b : Barrier) (bs : List Barrier) (r : ℕ) → (place_of n b ≡ r → ⊥) → fence n (b ∷ bs) r ≡ fence n bs r
fence_there n b bs r e = ap (λ x. if x then fencing_of b else fence n bs r) (ne_eqb _ _ e)

-- no barrier of the list stands here
abbrev pub Elsewhere : ℕ → ℕ → Barrier → Type 0
Elsewhere n r b = place_of n b ≡ r → ⊥

abbrev pub NoneAt : ℕ → List Barrier → ℕ → Type 0
NoneAt n bs r = All (Elsewhere n r) bs

abbrev pub BeforePhase : ℕ → Barrier → Type 0
BeforePhase n b = IfSome b.before (λ q. q < n)

pub fence_none : (n : ℕ) (bs : List Barrier) (r : ℕ) → NoneAt n bs r → fence n bs r ≡ Open
fence_none n [] r none = refl
fence_none n (b ∷ bs) r none = fence_there n b bs r (All-head (Elsewhere n r) b bs none) ∙ fence_none n bs r (All-tail (Elsewhere n r) b bs none)

-- one more barrier at the end of the list changes its own place alone
pub fence_besides : (n : ℕ) (bs : List Barrier) (b : Barrier) (r : ℕ) → (place_of n b ≡ r → ⊥) → fence n (bs ++ b ∷ []) r ≡ fence n bs r
fence_besides n [] b r other = fence_there n b [] r other
fence_besides n (x ∷ bs) b r other = ap (λ y. if place_of n x == r then fencing_of x else y) (fence_besides n bs b r other)

pub fence_added : (n : ℕ) (bs : List Barrier) (b : Barrier) (r : ℕ) → NoneAt n bs r → place_of n b ≡ r → fence n (bs ++ b ∷ []) r ≡ fencing_of b
fence_added n [] b r none e = fence_here n b [] r e
fence_added n (x ∷ bs) b r none e = fence_there n x (bs ++ b ∷ []) r (All-head (Elsewhere n r) x bs none) ∙ fence_added n bs b r (All-tail (Elsewhere n r) x bs none) e

-- how many places have a barrier

count_same : (f g : ℕ → Bool) (m : ℕ) → ((r : ℕ) → 0 < r → r ≤ m → f r ≡ g r) → count_of g m ≡ count_of f m
count_same f g zero same = refl
count_same f g (suc m) same =
    let h = count_same f g m (λ r a b. same r a (omega arith)) in
    let e : bit (f (suc m)) ≡ bit (g (suc m)) = ap bit (same (suc m) (omega arith) (omega arith)) in
    omega arith

count_more : (f g : ℕ → Bool) (q m : ℕ) → 0 < q → q ≤ m → f q ≡ true → g q ≡ false → ((r : ℕ) → (r ≡ q → ⊥) → f r ≡ g r) → suc (count_of g m) ≤ count_of f m
count_more f g q zero low le here away same = absurd (omega arith)
count_more f g q (suc m) low le here away same =
    ⊎_elim
    (λ lt.
    let h = count_more f g q m low (omega arith) here away same in
    let e : bit (f (suc m)) ≡ bit (g (suc m)) = ap bit (same (suc m) (λ x. omega arith)) in
    omega arith)
    (λ ge.
    let at : q ≡ suc m = omega arith in
    let a : bit (f (suc m)) ≡ 1 = ap bit (ap f (sym at) ∙ here) in
    let b : bit (g (suc m)) ≡ 0 = ap bit (ap g (sym at) ∙ away) in
    let h = count_same f g m (λ r x y. same r (λ z. omega arith)) in
    omega arith)
    (cases_lt q (suc m))

inside : (n : ℕ) (o : Option ℕ) → is_some o ≡ true → IfSome o (λ q. q < n) → unwrap_or o n < n
inside n None e h = absurd (true≢false (sym e))
inside n (Some q) e h = h

closing : (n : ℕ) (o : Option ℕ) → is_some o ≡ false → unwrap_or o n ≡ n
closing n None e = refl
closing n (Some q) e = absurd (true≢false e)

later : (n : ℕ) (b : Barrier) (bs : List Barrier) → InOrder n (b ∷ bs) → InOrder n bs
later n b bs o = record {
  before_phases = All-tail (BeforePhase n) b bs o.before_phases;
  in_order = λ i j d lt within. o.in_order (suc i) (suc j) d (omega arith) (omega arith);
}

-- the list has no more barriers before phases than there are places with one
pub listed : (n : ℕ) (bs : List Barrier) → InOrder n bs → (0 < n → stands (fence n bs 0) ≡ false) → length (filter (λ b. is_some b.before) bs) ≤ count_of (λ r. stands (fence n bs r)) (n - 1)
listed n [] o none = omega arith
listed n (b ∷ bs) o none = ⊎_elim (some_phase (listed n bs (later n b bs o))) (at_end (listed n bs (later n b bs o))) (cases_Bool (is_some b.before))
  where
    none_here : NoneAt n bs (place_of n b)
    none_here k d within e = let l : place_of n b < place_of n (get_or bs k d) = o.in_order 0 (suc k) d (omega arith) (omega arith) in omega arith

    not_first : 0 < n → place_of n b ≡ 0 → ⊥
    not_first more e = true≢false (sym (ap stands (fence_here n b bs 0 e)) ∙ none more)

    none_first : 0 < n → stands (fence n bs 0) ≡ false
    none_first more = ap stands (sym (fence_there n b bs 0 (not_first more))) ∙ none more

    known : (t : Bool) → is_some b.before ≡ t → length (filter (λ x. is_some x.before) (b ∷ bs)) ≡ length (cond t (b ∷ filter (λ x. is_some x.before) bs) (filter (λ x. is_some x.before) bs))
    known t e = ap (λ x. length (cond x (b ∷ filter (λ x. is_some x.before) bs) (filter (λ x. is_some x.before) bs))) e

    some_phase : ((0 < n → stands (fence n bs 0) ≡ false) → length (filter (λ x. is_some x.before) bs) ≤ count_of (λ r. stands (fence n bs r)) (n - 1)) → is_some b.before ≡ true → length (filter (λ x. is_some x.before) (b ∷ bs)) ≤ count_of (λ r. stands (fence n (b ∷ bs) r)) (n - 1)
    some_phase front e =
        let below = inside n b.before e (All-head (BeforePhase n) b bs o.before_phases) in
        let more : 0 < n = omega arith in
        let zero_not = not_first more in
        let h = front none_first in
        let c = count_more (λ r. stands (fence n (b ∷ bs) r)) (λ r. stands (fence n bs r)) (place_of n b) (n - 1) (positive (place_of n b) zero_not) (omega arith) (ap stands (fence_here n b bs _ refl)) (ap stands (fence_none n bs _ none_here)) (λ r ne. ap stands (fence_there n b bs r (λ x. ne (sym x)))) in
        let k = known true e in
        omega arith
      where
        positive : (x : ℕ) → (x ≡ 0 → ⊥) → 0 < x
        positive zero away = absurd (away refl)
        positive (suc x) away = omega arith

    at_end : ((0 < n → stands (fence n bs 0) ≡ false) → length (filter (λ x. is_some x.before) bs) ≤ count_of (λ r. stands (fence n bs r)) (n - 1)) → is_some b.before ≡ false → length (filter (λ x. is_some x.before) (b ∷ bs)) ≤ count_of (λ r. stands (fence n (b ∷ bs) r)) (n - 1)
    at_end front e =
        let at = closing n b.before e in
        let h = front none_first in
        let c = count_same (λ r. stands (fence n (b ∷ bs) r)) (λ r. stands (fence n bs r)) (n - 1) (λ r low high. ap stands (fence_there n b bs r (λ x. omega arith))) in
        let k = known false e in
        omega arith
