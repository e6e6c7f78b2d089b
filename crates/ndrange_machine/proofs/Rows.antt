-- Rows of cells, and lists of them.
use Rattle.std.proofs.Common.{◌≡◌, ◌≢◌, ℕ, ◌<◌, zero, suc, List, [], ◌∷◌, length, Option, Some, None, true, false, refl, sym, ap, ◌∙◌, ⊎_elim, arith}
use Rattle.std.proofs.lemmas.Option.{slice_get_past}
use Rattle.std.specs.Global.{Global}
use Rattle.std.specs.Prelude.{Vec, is_some, nat_lt, replicate, slice_get, slice_index, slice_index_or, slice_set, ◌==◌, if◌then◌else◌}
use Rattle.std.proofs.lemmas.Bool.{cases_lt, lt-ltb, le-ltb}
use Rattle.std.proofs.lemmas.Bool.Decides.{eqb_tells}
use Rattle.kernel_tree.specs.Device.{row}
use Rattle.ndrange_machine.specs.Memory.{cell_in, rows_of}

pub get_there : {A : Type 0} (xs : List A) (n : ℕ) → n < length xs → (x : A) × (slice_get xs n ≡ Some x)
get_there [] n h = absurd (omega arith)
get_there (x ∷ xs) zero h = (x, refl)
get_there (x ∷ xs) (suc n) h = get_there xs n (omega arith)

pub get_within : {A : Type 0} (xs : List A) (n : ℕ) (x : A) → slice_get xs n ≡ Some x → n < length xs
get_within [] zero x h = cc
get_within [] (suc n) x h = cc
get_within (y ∷ xs) zero x h = omega arith
get_within (y ∷ xs) (suc n) x h = let lt = get_within xs n x h in omega arith

pub get_or_is : {A : Type 0} (xs : List A) (n : ℕ) (x : A) → n < length xs → x ≡ slice_index_or xs n x → slice_get xs n ≡ Some x
get_or_is [] n x h e = absurd (omega arith)
get_or_is (y ∷ xs) zero x h e = ap Some (sym e)
get_or_is (y ∷ xs) (suc n) x h e = get_or_is xs n x (omega arith) e

pub some_is : {A : Type 0} (x y : A) → Some x ≡ Some y → x ≡ y
some_is {A = A} x y e = ap (out x) e
  where
    out : A → Option A → A
    out z (Some a) = a
    out z None = z

pub set_same : {A : Type 0} (xs : List A) (n : ℕ) (x : A) → n < length xs → slice_get (slice_set xs n x) n ≡ Some x
set_same [] n x h = absurd (omega arith)
set_same (y ∷ xs) zero x h = refl
set_same (y ∷ xs) (suc n) x h = set_same xs n x (omega arith)

pub set_other : {A : Type 0} (xs : List A) (n : ℕ) (x : A) (i : ℕ) → i ≢ n → slice_get (slice_set xs n x) i ≡ slice_get xs i
set_other [] zero x i ne = refl
set_other [] (suc n) x i ne = refl
set_other (y ∷ xs) zero x zero ne = absurd (ne refl)
set_other (y ∷ xs) zero x (suc i) ne = refl
set_other (y ∷ xs) (suc n) x zero ne = refl
set_other (y ∷ xs) (suc n) x (suc i) ne = set_other xs n x i (λ e. ne (ap suc e))

pub get_set : {A : Type 0} (xs : List A) (n : ℕ) (x : A) (i : ℕ) → n < length xs → slice_get (slice_set xs n x) i ≡ (if i == n then Some x else slice_get xs i)
get_set xs n x i h =
    ⊎_elim
    (λ e. ap (slice_get (slice_set xs n x)) e.1 ∙ set_same xs n x h ∙ ap (λ b. if b then Some x else slice_get xs i) (sym e.0))
    (λ e. set_other xs n x i e.1 ∙ ap (λ b. if b then Some x else slice_get xs i) (sym e.0))
    (eqb_tells i n)

pub get_replicate : {A : Type 0} (n i : ℕ) (x y : A) → slice_get (replicate n x) i ≡ Some y → x ≡ y
get_replicate zero zero x y h = cc
get_replicate zero (suc i) x y h = cc
get_replicate (suc n) zero x y h = cc
get_replicate (suc n) (suc i) x y h = get_replicate n i x y h

pub get_is : (xs : List ℕ) (i : ℕ) → i < length xs → slice_get xs i ≡ Some (slice_index xs i)
get_is [] i h = absurd (omega arith)
get_is (x ∷ xs) zero h = refl
get_is (x ∷ xs) (suc i) h = get_is xs i (omega arith)

pub is_some-get : (xs : List ℕ) (i : ℕ) → is_some (slice_get xs i) ≡ nat_lt i (length xs)
is_some-get xs i =
    ⊎_elim
    (λ lt. ap is_some (get_is xs i lt) ∙ sym (lt-ltb i (length xs) lt))
    (λ le. ap is_some (slice_get_past xs i le) ∙ sym (le-ltb i (length xs) le))
    (cases_lt i (length xs))

pub index_is : (xs : List ℕ) (i x : ℕ) → slice_get xs i ≡ Some x → slice_index xs i ≡ x
index_is [] zero x h = cc
index_is [] (suc i) x h = cc
index_is (y ∷ xs) zero x h = cc
index_is (y ∷ xs) (suc i) x h = index_is xs i x h

pub cell_is : (rows : List (Vec ℕ Global)) (a i : ℕ) → cell_in rows a i ≡ slice_get (row (rows_of rows) a) i
cell_is [] zero zero = refl
cell_is [] zero (suc i) = refl
cell_is [] (suc a) zero = refl
cell_is [] (suc a) (suc i) = refl
cell_is (r ∷ rows) zero i = refl
cell_is (r ∷ rows) (suc a) i = cell_is rows a i

pub same_bound : (m n : ℕ) → ((i : ℕ) → nat_lt i m ≡ nat_lt i n) → m ≡ n
same_bound m n h =
    ⊎_elim
    (λ lt. let e : false ≡ true = sym (le-ltb m m (omega arith)) ∙ h m ∙ lt-ltb m n lt in cc)
    (λ le. ⊎_elim
    (λ lt. let e : true ≡ false = sym (lt-ltb n m lt) ∙ h n ∙ le-ltb n n (omega arith) in cc)
    (λ ge. omega arith)
    (cases_lt n m))
    (cases_lt m n)
