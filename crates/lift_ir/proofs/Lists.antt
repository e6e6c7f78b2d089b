-- A value's lists hold its scalars in row-major order.
use Rattle.std.proofs.Common.{◌≡◌, ℕ, zero, suc, ◌+◌, ◌-◌, ◌*◌, ◌<◌, ◌≤◌, Bool, true, false, List, [], ◌∷◌, ◌++◌, length, get_or, refl, sym, ap, ◌∙◌, ⊎_elim, arith, length-append}
use Rattle.std.specs.Prelude.{map, replicate}
use Rattle.std.proofs.lemmas.Bool.{cases_lt}
use Rattle.std.proofs.Math.ListN.{get_or-append}
use Rattle.std.proofs.Math.Seq.{get_or-append_right}
use Rattle.std.proofs.lemmas.List.{get_or-map}
use Rattle.lift_tree.specs.Values.{Value, Word, array, list_of}
use Rattle.lift_tree.specs.Values as value
use Rattle.lift_tree.proofs.Members.{length-map}
use Rattle.lift_ir.specs.Types.{Ty, Scalar, PairOf, ArrayOf, choices_of, IsPosition, IsWords, IsFlat, width, component, size, flat, unflat}
use Rattle.lift_ir.specs.Scalars.{at_index, Scalars, AreLists, HasScalars, side_of, lists_of}
use Rattle.lift_ir.proofs.Numbers.{flat_below, position_at}

-- a way to a component
abbrev Leads : Ty → List Bool → Type 0
Leads Scalar [] = Unit {0}
Leads Scalar (c ∷ cs) = ⊥
Leads (PairOf a b) [] = ⊥
Leads (PairOf a b) (false ∷ cs) = Leads a cs
Leads (PairOf a b) (true ∷ cs) = Leads b cs
Leads (ArrayOf n t) cs = Leads t cs

flat_element : (t : Ty) → IsWords t → IsFlat t
flat_element Scalar e = tt
flat_element (PairOf a b) e = e
flat_element (ArrayOf n t) e = absurd e

-- the rows of an array one after another
rows_long : (t : Ty) (xs : List Value) (sides : List value.Side) (m : ℕ) → ((i : ℕ) → i < length xs → length (list_of (get_or xs i (Word 0)) sides) ≡ m) → length (list_of (array xs) sides) ≡ length xs * m
rows_long t [] sides m h = let z : 0 * m ≡ 0 = omega arith in omega arith
rows_long t (x ∷ xs) sides m h =
    let e : length (list_of x sides) ≡ m = h 0 (omega arith) in
    let a = length-append (list_of x sides) (list_of (array xs) sides) in
    let b = rows_long t xs sides m (λ i lt. h (suc i) (omega arith)) in
    omega arith

rows_at : (xs : List Value) (sides : List value.Side) (m i j : ℕ) → ((i : ℕ) → i < length xs → length (list_of (get_or xs i (Word 0)) sides) ≡ m) → i < length xs → j < m → get_or (list_of (array xs) sides) (i * m + j) 0 ≡ get_or (list_of (get_or xs i (Word 0)) sides) j 0
rows_at [] sides m i j h lt below = absurd (omega arith)
rows_at (x ∷ xs) sides m zero j h lt below =
    ap (λ n. get_or (list_of x sides ++ list_of (array xs) sides) n 0) (let z : 0 * m + j ≡ j = omega arith in z)
    ∙ get_or-append (list_of x sides) (list_of (array xs) sides) 0 j (let e : length (list_of x sides) ≡ m = h 0 (omega arith) in omega arith)
rows_at (x ∷ xs) sides m (suc i) j h lt below =
    let e : length (list_of x sides) ≡ m = h 0 (omega arith) in
    let z : suc i * m + j ≡ m + (i * m + j) = omega arith in
    get_or-append_right (list_of x sides) (list_of (array xs) sides) (suc i * m + j) 0 (omega arith)
    ∙ ap (λ n. get_or (list_of (array xs) sides) n 0) (let y : suc i * m + j - length (list_of x sides) ≡ i * m + j = omega arith in y)
    ∙ rows_at xs sides m i j (λ k l. h (suc k) (omega arith)) (omega arith) below

list_long : (t : Ty) (v : Value) (s : Scalars) (cs : List Bool) → IsFlat t → Leads t cs → HasScalars t v s → length (list_of v (map side_of cs)) ≡ size t
list_long Scalar v s [] f l h = ap (λ x. length (list_of x [])) h
list_long Scalar v s (c ∷ cs) f l h = absurd l
list_long (PairOf a b) v s [] f l h = absurd l
list_long (PairOf a b) v s (false ∷ cs) f l h = ap (λ x. length (list_of x (map side_of (false ∷ cs)))) h.2 ∙ list_long a h.0 (λ ds. s (false ∷ ds)) cs (flat_element a f.0) l h.3 ∙ one a f.0
  where
    one : (t : Ty) → IsWords t → size t ≡ 1
    one Scalar e = refl
    one (PairOf a b) e = refl
    one (ArrayOf n t) e = absurd e
list_long (PairOf a b) v s (true ∷ cs) f l h = ap (λ x. length (list_of x (map side_of (true ∷ cs)))) h.2 ∙ list_long b h.1 (λ ds. s (true ∷ ds)) cs (flat_element b f.1) l h.4 ∙ one b f.1
  where
    one : (t : Ty) → IsWords t → size t ≡ 1
    one Scalar e = refl
    one (PairOf a b) e = refl
    one (ArrayOf n t) e = absurd e
list_long (ArrayOf n t) v s cs f l h =
    ap (λ x. length (list_of x (map side_of cs))) h.1
    ∙ rows_long t h.0 (map side_of cs) (size t) (λ i lt. list_long t (get_or h.0 i (Word 0)) (at_index i s) cs f l (h.3 i (let z = h.2 in omega arith)))
    ∙ ap (λ x. x * size t) h.2

leads : (t : Ty) (cs : List Bool) (q : List ℕ) → IsPosition t cs q → Leads t cs
leads Scalar [] q w = tt
leads Scalar (c ∷ cs) q w = absurd w
leads (PairOf a b) [] q w = absurd w
leads (PairOf a b) (false ∷ cs) q w = leads a cs q w
leads (PairOf a b) (true ∷ cs) q w = leads b cs q w
leads (ArrayOf n t) cs [] w = absurd w
leads (ArrayOf n t) cs (i ∷ q) w = leads t cs q w.1

list_at : (t : Ty) (v : Value) (s : Scalars) (cs : List Bool) (q : List ℕ) → IsFlat t → IsPosition t cs q → HasScalars t v s → get_or (list_of v (map side_of cs)) (flat t q) 0 ≡ s cs q
list_at Scalar v s [] [] f w h = ap (λ x. get_or (list_of x []) 0 0) h
list_at Scalar v s [] (i ∷ q) f w h = absurd w
list_at Scalar v s (c ∷ cs) q f w h = absurd w
list_at (PairOf a b) v s [] q f w h = absurd w
list_at (PairOf a b) v s (false ∷ cs) q f w h = ap (λ x. get_or (list_of x (map side_of (false ∷ cs))) 0 0) h.2 ∙ ap (λ k. get_or (list_of h.0 (map side_of cs)) k 0) (first a cs q f.0 w) ∙ list_at a h.0 (λ ds. s (false ∷ ds)) cs q (flat_element a f.0) w h.3
  where
    first : (t : Ty) (cs : List Bool) (q : List ℕ) → IsWords t → IsPosition t cs q → 0 ≡ flat t q
    first Scalar cs q e w = refl
    first (PairOf a b) cs q e w = refl
    first (ArrayOf n t) cs q e w = absurd e
list_at (PairOf a b) v s (true ∷ cs) q f w h = ap (λ x. get_or (list_of x (map side_of (true ∷ cs))) 0 0) h.2 ∙ ap (λ k. get_or (list_of h.1 (map side_of cs)) k 0) (first b cs q f.1 w) ∙ list_at b h.1 (λ ds. s (true ∷ ds)) cs q (flat_element b f.1) w h.4
  where
    first : (t : Ty) (cs : List Bool) (q : List ℕ) → IsWords t → IsPosition t cs q → 0 ≡ flat t q
    first Scalar cs q e w = refl
    first (PairOf a b) cs q e w = refl
    first (ArrayOf n t) cs q e w = absurd e
list_at (ArrayOf n t) v s cs [] f w h = absurd w
list_at (ArrayOf n t) v s cs (i ∷ q) f w h =
    ap (λ x. get_or (list_of x (map side_of cs)) (i * size t + flat t q) 0) h.1
    ∙ rows_at h.0 (map side_of cs) (size t) i (flat t q) (λ k lt. list_long t (get_or h.0 k (Word 0)) (at_index k s) cs f (leads t cs q w.1) (h.3 k (let z = h.2 in omega arith))) (let z = h.2 in let y = w.0 in omega arith) (flat_below t cs q f w.1)
    ∙ list_at t (get_or h.0 i (Word 0)) (at_index i s) cs q f w.1 (h.3 i w.0)

-- the component with a number
choices_long : (t : Ty) → length (choices_of t) ≡ width t
choices_long Scalar = refl
choices_long (PairOf a b) =
    let x = length-append (map (λ cs. false ∷ cs) (choices_of a)) (map (λ cs. true ∷ cs) (choices_of b)) in
    let y = length-map (λ cs. false ∷ cs) (choices_of a) in
    let z = length-map (λ cs. true ∷ cs) (choices_of b) in
    let p = choices_long a in
    let q = choices_long b in
    omega arith
choices_long (ArrayOf n t) = choices_long t

choice_at : (t : Ty) (cs : List Bool) → Leads t cs → (component t cs < width t) × (get_or (choices_of t) (component t cs) [] ≡ cs)
choice_at Scalar [] l = (omega arith, refl)
choice_at Scalar (c ∷ cs) l = absurd l
choice_at (PairOf a b) [] l = absurd l
choice_at (PairOf a b) (false ∷ cs) l =
    let r = choice_at a cs l in
    let n = choices_long a in
    let m = length-map (λ ds. false ∷ ds) (choices_of a) in (
      let z = r.0 in omega arith,
      get_or-append (map (λ ds. false ∷ ds) (choices_of a)) (map (λ ds. true ∷ ds) (choices_of b)) [] (component a cs) (let z = r.0 in omega arith)
          ∙ get_or-map (λ ds. false ∷ ds) (choices_of a) (component a cs) [] [] (let z = r.0 in omega arith) ∙ ap (λ ds. false ∷ ds) r.1,
    )
choice_at (PairOf a b) (true ∷ cs) l =
    let r = choice_at b cs l in
    let n = choices_long a in
    let k = choices_long b in
    let m = length-map (λ ds. false ∷ ds) (choices_of a) in
    let c = width a + component b cs in (
      let z = r.0 in omega arith,
      get_or-append_right (map (λ ds. false ∷ ds) (choices_of a)) (map (λ ds. true ∷ ds) (choices_of b)) c [] (omega arith)
          ∙ ap (λ j. get_or (map (λ ds. true ∷ ds) (choices_of b)) j []) (let z : c - length (map (λ ds. false ∷ ds) (choices_of a)) ≡ component b cs = omega arith in z)
          ∙ get_or-map (λ ds. true ∷ ds) (choices_of b) (component b cs) [] [] (let z = r.0 in omega arith) ∙ ap (λ ds. true ∷ ds) r.1,
    )
choice_at (ArrayOf n t) cs l = choice_at t cs l

leads_at : (t : Ty) (a : ℕ) → a < width t → (cs : List Bool) × Leads t cs × (component t cs ≡ a)
leads_at Scalar a lt = ([], tt, omega arith)
leads_at (PairOf x y) a lt =
    ⊎_elim
    (λ l. let r = leads_at x a l in (false ∷ r.0, r.1, r.2))
    (λ m. let r = leads_at y (a - width x) (omega arith) in (true ∷ r.0, r.1, let z = r.2 in omega arith))
    (cases_lt a (width x))
leads_at (ArrayOf n t) a lt = leads_at t a lt

no_row : {A : Type 0} (rows : List (List A)) (a i : ℕ) → length rows ≤ a → i < length (get_or rows a []) → ⊥
no_row [] a i le lt = omega arith
no_row (r ∷ rows) zero i le lt = omega arith
no_row (r ∷ rows) (suc a) i le lt = no_row rows a i (omega arith) lt

pub are_lists : (t : Ty) (v : Value) (s : Scalars) → IsFlat t → HasScalars t v s → AreLists t s (lists_of t v)
are_lists t v s f h a i lt =
    ⊎_elim
    (λ la.
    let c = leads_at t a la in
    let k = choice_at t c.0 c.1 in
    let here : get_or (lists_of t v) a [] ≡ list_of v (map side_of c.0) =
    get_or-map (λ cs. list_of v (map side_of cs)) (choices_of t) a [] [] (let z = choices_long t in omega arith) ∙ ap (λ cs. list_of v (map side_of cs)) (ap (λ j. get_or (choices_of t) j []) (sym c.2) ∙ k.1) in
    let long = list_long t v s c.0 f c.1 h in
    let li : i < size t = (let z = ap length here in omega arith) in
    let p = position_at t a i f la li in
    let same : get_or (lists_of t v) a [] ≡ list_of v (map side_of p.0) =
    get_or-map (λ cs. list_of v (map side_of cs)) (choices_of t) a [] [] (let z = choices_long t in omega arith) ∙ ap (λ cs. list_of v (map side_of cs)) (ap (λ j. get_or (choices_of t) j []) (sym p.2) ∙ (choice_at t p.0 (leads t p.0 (unflat t i) p.1)).1) in
    (p.0, unflat t i, p.1, p.2, p.3, ap (λ xs. get_or xs i 0) same ∙ ap (λ j. get_or (list_of v (map side_of p.0)) j 0) (sym p.3) ∙ list_at t v s p.0 (unflat t i) f p.1 h))
    (λ ge. absurd (no_row (lists_of t v) a i (let z = choices_long t in let y = length-map (λ cs. list_of v (map side_of cs)) (choices_of t) in omega arith) lt))
    (cases_lt a (width t))

rows_of_length : {A : Type 0} (f : A → List ℕ) (xs : List A) (d : A) (n : ℕ) → ((i : ℕ) → i < length xs → length (f (get_or xs i d)) ≡ n) → map length (map f xs) ≡ replicate (length xs) n
rows_of_length f [] d n h = refl
rows_of_length f (x ∷ xs) d n h = ap (λ k. k ∷ map length (map f xs)) (h 0 (omega arith)) ∙ ap (λ ks. n ∷ ks) (rows_of_length f xs d n (λ i lt. h (suc i) (omega arith)))

-- each list is as long as a component
pub lists_long : (t : Ty) (v : Value) (s : Scalars) → IsFlat t → HasScalars t v s → map length (lists_of t v) ≡ replicate (width t) (size t)
lists_long t v s f h = rows_of_length (λ cs. list_of v (map side_of cs)) (choices_of t) [] (size t) long ∙ ap (λ k. replicate k (size t)) (choices_long t)
  where
    long : (i : ℕ) → i < length (choices_of t) → length (list_of v (map side_of (get_or (choices_of t) i []))) ≡ size t
    long i lt =
        let w = choices_long t in
        let c = leads_at t i (omega arith) in
        let k = choice_at t c.0 c.1 in
        ap (λ j. length (list_of v (map side_of (get_or (choices_of t) j [])))) (sym c.2) ∙ ap (λ cs. length (list_of v (map side_of cs))) k.1 ∙ list_long t v s c.0 f c.1 h

pub lists_count : (t : Ty) (v : Value) → length (lists_of t v) ≡ width t
lists_count t v = length-map (λ cs. list_of v (map side_of cs)) (choices_of t) ∙ choices_long t

-- a scalar stands at its number in its component's list
pub list_holds : (t : Ty) (v : Value) (s : Scalars) (cs : List Bool) (q : List ℕ) → IsFlat t → IsPosition t cs q → HasScalars t v s → (flat t q < length (get_or (lists_of t v) (component t cs) [])) × (get_or (get_or (lists_of t v) (component t cs) []) (flat t q) 0 ≡ s cs q)
list_holds t v s cs q f w h =
    let l = leads t cs q w in
    let k = choice_at t cs l in
    let here : get_or (lists_of t v) (component t cs) [] ≡ list_of v (map side_of cs) =
    get_or-map (λ cs. list_of v (map side_of cs)) (choices_of t) (component t cs) [] [] (let z = k.0 in let y = choices_long t in omega arith) ∙ ap (λ cs. list_of v (map side_of cs)) k.1 in
    let long = ap length here ∙ list_long t v s cs f l h in
    let below = flat_below t cs q f w in
    (omega arith, ap (λ xs. get_or xs (flat t q) 0) here ∙ list_at t v s cs q f w h)
