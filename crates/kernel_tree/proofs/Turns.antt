-- The deeds of a loop, by what holds of each turn.
use Rattle.std.proofs.Common.{◌≡◌, ◌≢◌, ℕ, zero, suc, ◌+◌, ◌*◌, ◌<◌, List, [], ◌∷◌, ◌++◌, length, refl, sym, ap, ◌∙◌, subst, ⊎_elim, inl, inr, arith, length-append}
use Rattle.std.specs.Prelude.{if◌then◌else◌}
use Rattle.std.proofs.lemmas.Bool.{cases_lt}
use Rattle.kernel_tree.specs.Device.{Cell, behind, same_cell}
use Rattle.kernel_tree.specs.Deeds.{Deed, Moved, Got, Gave, GotFour, GaveFour, Every, WritesTo, steps_of, all_turns}
use Rattle.kernel_tree.specs.Independent.{one_by_one, one_if_same, write_count}

-- what holds of each deed

pub every-append : (P : Deed → Type 0) (ds es : List Deed) → Every P ds → Every P es → Every P (ds ++ es)
every-append P [] es a b = b
every-append P (d ∷ ds) es a b = (a.0, every-append P ds es a.1 b)

pub every-turns : (P : Deed → Type 0) (ds : ℕ → List Deed) (n : ℕ) → P Moved → ((t : ℕ) → t < n → Every P (ds t)) → Every P (all_turns ds n)
every-turns P ds zero m h = tt
every-turns P ds (suc n) m h =
    every-append P (all_turns ds n) (ds n ++ Moved ∷ []) (every-turns P ds n m (λ t lt. h t (omega arith))) (every-append P (ds n) (Moved ∷ []) (h n (omega arith)) (m, tt))

pub every-map : (P Q : Deed → Type 0) (ds : List Deed) → ((a : Deed) → P a → Q a) → Every P ds → Every Q ds
every-map P Q [] f h = tt
every-map P Q (d ∷ ds) f h = (f d h.0, every-map P Q ds f h.1)

-- which cells are written

pub writes-left : (c : Cell) (ds es : List Deed) → WritesTo c ds → WritesTo c (ds ++ es)
writes-left c [] es h = absurd h
writes-left c (Moved ∷ ds) es h = writes-left c ds es h
writes-left c (Got d ∷ ds) es h = writes-left c ds es h
writes-left c (GotFour d ∷ ds) es h = writes-left c ds es h
writes-left c (GaveFour d u ∷ ds) es h = ⊎_elim (λ e. inl e) (λ r. inr (writes-left c ds es r)) h
writes-left c (Gave d v ∷ ds) es h = ⊎_elim (λ e. inl e) (λ r. inr (writes-left c ds es r)) h

pub writes-right : (c : Cell) (ds es : List Deed) → WritesTo c es → WritesTo c (ds ++ es)
writes-right c [] es h = h
writes-right c (Moved ∷ ds) es h = writes-right c ds es h
writes-right c (Got d ∷ ds) es h = writes-right c ds es h
writes-right c (GotFour d ∷ ds) es h = writes-right c ds es h
writes-right c (GaveFour d u ∷ ds) es h = inr (writes-right c ds es h)
writes-right c (Gave d v ∷ ds) es h = inr (writes-right c ds es h)

pub writes-turn : (c : Cell) (ds : ℕ → List Deed) (n t : ℕ) → t < n → WritesTo c (ds t) → WritesTo c (all_turns ds n)
writes-turn c ds zero t lt h = absurd (omega arith)
writes-turn c ds (suc n) t lt h =
    ⊎_elim
    (λ a. writes-left c (all_turns ds n) (ds n ++ Moved ∷ []) (writes-turn c ds n t a h))
    (λ b. let e : t ≡ n = omega arith in writes-right c (all_turns ds n) (ds n ++ Moved ∷ []) (writes-left c (ds n) (Moved ∷ []) (subst (λ x. WritesTo c (ds x)) e h)))
    (cases_lt t n)

-- how often

pub write_count-append : (c : Cell) (ds es : List Deed) → write_count c (ds ++ es) ≡ write_count c ds + write_count c es
write_count-append c [] es = omega arith
write_count-append c (Moved ∷ ds) es = write_count-append c ds es
write_count-append c (Got d ∷ ds) es = write_count-append c ds es
write_count-append c (GotFour d ∷ ds) es = write_count-append c ds es
write_count-append c (GaveFour d u ∷ ds) es =
    let a = write_count-append c ds es in
    let n : ℕ = one_if_same d c + (one_if_same (behind 1 d) c + (one_if_same (behind 2 d) c + one_if_same (behind 3 d) c)) in
    omega arith
write_count-append c (Gave d v ∷ ds) es = let a = write_count-append c ds es in let n : ℕ = if same_cell d c then 1 else 0 in omega arith

-- a turn and its test
count-turn : (c : Cell) (ds : List Deed) → write_count c (ds ++ Moved ∷ []) ≡ write_count c ds
count-turn c ds = let a = write_count-append c ds (Moved ∷ []) in omega arith

pub write_count-none : (c : Cell) (ds : ℕ → List Deed) (n : ℕ) → ((t : ℕ) → t < n → write_count c (ds t) ≡ 0) → write_count c (all_turns ds n) ≡ 0
write_count-none c ds zero h = refl
write_count-none c ds (suc n) h =
    let a = write_count-append c (all_turns ds n) (ds n ++ Moved ∷ []) in
    let b = count-turn c (ds n) in
    let e = h n (omega arith) in
    let f = write_count-none c ds n (λ t lt. h t (omega arith)) in
    omega arith

-- where no other turn writes the cell
pub write_count-turn : (c : Cell) (ds : ℕ → List Deed) (n t : ℕ) → t < n → ((u : ℕ) → u < n → u ≢ t → write_count c (ds u) ≡ 0) → write_count c (all_turns ds n) ≡ write_count c (ds t)
write_count-turn c ds zero t lt h = absurd (omega arith)
write_count-turn c ds (suc n) t lt h =
    let a = write_count-append c (all_turns ds n) (ds n ++ Moved ∷ []) in
    let b = count-turn c (ds n) in
    ⊎_elim
    (λ low. let e = h n (omega arith) (λ q. absurd (below n t low q)) in let f = write_count-turn c ds n t low (λ u v. h u (omega arith)) in omega arith)
    (λ high. let q : n ≡ t = omega arith in let e = ap (λ x. write_count c (ds x)) q in let f = write_count-none c ds n (λ u v. h u (omega arith) (λ p. absurd (below t u (subst (λ x. u < x) q v) (sym p)))) in omega arith)
    (cases_lt t n)
  where
    below : (n t : ℕ) → t < n → n ≡ t → ⊥
    below n t lt q = omega arith

-- how many events

pub length-turns : (ds : ℕ → List Deed) (n each : ℕ) → ((t : ℕ) → t < n → length (ds t) ≡ each) → length (all_turns ds n) ≡ n * (1 + each)
length-turns ds zero each h = omega arith
length-turns ds (suc n) each h =
    let a = length-append (all_turns ds n) (ds n ++ Moved ∷ []) in
    let b = length-append (ds n) (Moved ∷ []) in
    let e = length-turns ds n each (λ t lt. h t (omega arith)) in
    let f = h n (omega arith) in
    omega arith

pub length-steps : (k : ℕ) (ds : List Deed) → length (steps_of k ds) ≡ length ds
length-steps k [] = refl
length-steps k (d ∷ ds) = ap suc (length-steps k ds)

pub length-one_by_one : (deeds : ℕ → List Deed) (n : ℕ) → length (one_by_one deeds (suc n)) ≡ length (one_by_one deeds n) + length (deeds n)
length-one_by_one deeds n = length-append (one_by_one deeds n) (steps_of n (deeds n)) ∙ ap (λ x. length (one_by_one deeds n) + x) (length-steps n (deeds n))
