-- How long the lists of a value are.
use Rattle.std.proofs.Common.{◌≡◌, ℕ, zero, suc, ◌+◌, ◌-◌, ◌*◌, ◌<◌, List, [], ◌∷◌, ◌++◌, length, get_or, refl, sym, ap, ◌∙◌, arith, length-append}
use Rattle.std.specs.Prelude.{map, nat_abs}
use Rattle.std.proofs.Math.ListN.{get_or-append}
use Rattle.std.proofs.Math.Seq.{get_or-append_right}
use Rattle.lift_tree.specs.Launches.{lists_of}
use Rattle.lift_tree.specs.Limits.{components}
use Rattle.lift_tree.specs.Lists.{Every}
use Rattle.lift_tree.specs.Types.{PlainTy, U32, U32x4, PairOf, ArrayOf, IsNumber, HoldsElements, HasType}
use Rattle.lift_tree.specs.Values.{Value, Word, Side, Left, Right, array, list_of}
use Rattle.value_lists.specs.Lists.{length_at, scalars_at, list_lengths}

-- a way to a component
abbrev pub Leads : PlainTy → List Side → Type 0
Leads U32 [] = Unit {0}
Leads U32 (c ∷ cs) = ⊥
Leads U32x4 [] = Unit {0}
Leads U32x4 (c ∷ cs) = ⊥
Leads (PairOf a b) [] = ⊥
Leads (PairOf a b) (Left ∷ cs) = Leads a cs
Leads (PairOf a b) (Right ∷ cs) = Leads b cs
Leads (ArrayOf a n) cs = Leads a cs

-- ---- rows one after another
pub rows_long : (xs : List Value) (sides : List Side) (m : ℕ) → ((i : ℕ) → i < length xs → length (list_of (get_or xs i (Word 0)) sides) ≡ m) → length (list_of (array xs) sides) ≡ length xs * m
rows_long [] sides m h = let z : 0 * m ≡ 0 = omega arith in omega arith
rows_long (x ∷ xs) sides m h =
    let e : length (list_of x sides) ≡ m = h 0 (omega arith) in
    let a = length-append (list_of x sides) (list_of (array xs) sides) in
    let b = rows_long xs sides m (λ i lt. h (suc i) (omega arith)) in
    omega arith

pub rows_at : (xs : List Value) (sides : List Side) (m i j : ℕ) → ((i : ℕ) → i < length xs → length (list_of (get_or xs i (Word 0)) sides) ≡ m) → i < length xs → j < m → get_or (list_of (array xs) sides) (i * m + j) 0 ≡ get_or (list_of (get_or xs i (Word 0)) sides) j 0
rows_at [] sides m i j h lt below = absurd (omega arith)
rows_at (x ∷ xs) sides m zero j h lt below =
    ap (λ n. get_or (list_of x sides ++ list_of (array xs) sides) n 0) (let z : 0 * m + j ≡ j = omega arith in z)
    ∙ get_or-append (list_of x sides) (list_of (array xs) sides) 0 j (let e : length (list_of x sides) ≡ m = h 0 (omega arith) in omega arith)
rows_at (x ∷ xs) sides m (suc i) j h lt below =
    let e : length (list_of x sides) ≡ m = h 0 (omega arith) in
    let z : suc i * m + j ≡ m + (i * m + j) = omega arith in
    get_or-append_right (list_of x sides) (list_of (array xs) sides) (suc i * m + j) 0 (omega arith)
    ∙ ap (λ n. get_or (list_of (array xs) sides) n 0) (let y : suc i * m + j - length (list_of x sides) ≡ i * m + j = omega arith in y)
    ∙ rows_at xs sides m i j (λ k l. h (suc k) (omega arith)) (omega arith) below

pub every_at : (P : Value → Type 0) (xs : List Value) → Every P xs → (i : ℕ) → i < length xs → P (get_or xs i (Word 0))
every_at P [] h i lt = absurd (omega arith)
every_at P (x ∷ xs) h zero lt = h.0
every_at P (x ∷ xs) h (suc i) lt = every_at P xs h.1 i (omega arith)

-- the length of an array is that of its type
pub as_long : (ys : List ℕ) (a : PlainTy) (n : _) (v : Value) (h : HasType ys (ArrayOf a n) v) → length_at ys n ≡ length h.0
as_long ys a n v h = ap nat_abs (sym h.2)

-- ---- one list
-- a number is one scalar
pub one_long : (xs : List Value) → Every IsNumber xs → (i : ℕ) → i < length xs → length (list_of (get_or xs i (Word 0)) []) ≡ 1
one_long xs all i lt = ap (λ x. length (list_of x [])) (every_at IsNumber xs all i lt).1

pub list_long : (ys : List ℕ) (a : PlainTy) (v : Value) (cs : List Side) → Leads a cs → HasType ys a v → length (list_of v cs) ≡ scalars_at ys a cs
list_long ys U32 v [] l h = ap (λ x. length (list_of x [])) h.1
list_long ys U32 v (c ∷ cs) l h = absurd l
list_long ys U32x4 v [] l h = ap (λ x. length (list_of x [])) h.1 ∙ rows_long h.0 [] 1 (one_long h.0 h.3) ∙ ap (λ n. n * 1) h.2
list_long ys U32x4 v (c ∷ cs) l h = absurd l
list_long ys (PairOf a b) v [] l h = absurd l
list_long ys (PairOf a b) v (Left ∷ cs) l h = ap (λ x. length (list_of x (Left ∷ cs))) h.2 ∙ list_long ys a h.0 cs l h.3
list_long ys (PairOf a b) v (Right ∷ cs) l h = ap (λ x. length (list_of x (Right ∷ cs))) h.2 ∙ list_long ys b h.1 cs l h.4
list_long ys (ArrayOf a n) v cs l h =
    ap (λ x. length (list_of x cs)) h.1
    ∙ rows_long h.0 cs (scalars_at ys a cs) (λ i lt. list_long ys a (get_or h.0 i (Word 0)) cs l (every_at (HasType ys a) h.0 h.3 i lt))
    ∙ ap (λ x. x * scalars_at ys a cs) (sym (as_long ys a n v h))

-- ---- all of them
pub leads_left : (a b : PlainTy) (cs : List (List Side)) → Every (Leads a) cs → Every (Leads (PairOf a b)) (map (λ c. Left ∷ c) cs)
leads_left a b [] h = tt
leads_left a b (c ∷ cs) h = (h.0, leads_left a b cs h.1)

pub leads_right : (a b : PlainTy) (cs : List (List Side)) → Every (Leads b) cs → Every (Leads (PairOf a b)) (map (λ c. Right ∷ c) cs)
leads_right a b [] h = tt
leads_right a b (c ∷ cs) h = (h.0, leads_right a b cs h.1)

every_append : {A : Type 0} (P : A → Type 0) (xs zs : List A) → Every P xs → Every P zs → Every P (xs ++ zs)
every_append P [] zs h k = k
every_append P (x ∷ xs) zs h k = (h.0, every_append P xs zs h.1 k)

array_leads : (a : PlainTy) (n : _) (cs : List (List Side)) → Every (Leads a) cs → Every (Leads (ArrayOf a n)) cs
array_leads a n [] h = tt
array_leads a n (c ∷ cs) h = (h.0, array_leads a n cs h.1)

pub all_lead : (a : PlainTy) → Every (Leads a) (components a)
all_lead U32 = (tt, tt)
all_lead U32x4 = (tt, tt)
all_lead (PairOf a b) = every_append (Leads (PairOf a b)) (map (λ c. Left ∷ c) (components a)) (map (λ c. Right ∷ c) (components b)) (leads_left a b (components a) (all_lead a)) (leads_right a b (components b) (all_lead b))
all_lead (ArrayOf a n) = array_leads a n (components a) (all_lead a)

each_long : (ys : List ℕ) (a : PlainTy) (v : Value) → HasType ys a v → (cs : List (List Side)) → Every (Leads a) cs → map length (map (list_of v) cs) ≡ map (scalars_at ys a) cs
each_long ys a v h [] l = refl
each_long ys a v h (c ∷ cs) l =
    ap (λ n. n ∷ map length (map (list_of v) cs)) (list_long ys a v c l.0 h)
    ∙ ap (λ ns. scalars_at ys a c ∷ ns) (each_long ys a v h cs l.1)

pub lists_have_lengths : (ys : List ℕ) (a : PlainTy) (v : Value) → HoldsElements a → HasType ys a v → map length (lists_of a v) ≡ list_lengths ys a
lists_have_lengths ys a v f h = each_long ys a v h (components a) (all_lead a)
