-- Scalars by number: the components of a type from left to right, and each
-- one's scalars in row-major order.
use Rattle.std.proofs.Common.{◌≡◌, ℕ, zero, suc, ◌+◌, ◌-◌, ◌*◌, ◌/◌, ◌%◌, ◌<◌, Bool, true, false, List, [], ◌∷◌, refl, sym, ap, ◌∙◌, ⊎_elim, arith}
use Rattle.std.proofs.lemmas.Bool.{cases_lt}
use Rattle.std.proofs.Math.Nat.{mul-le-mul_right, mod-lt, div-lt_iff_lt-mul}
use Rattle.lift_ir.specs.Types.{Ty, Scalar, PairOf, ArrayOf, IsPosition, IsWords, IsFlat, width, component, size, flat, unflat}
use Rattle.lift_ir.proofs.Positions.{quotient, remainder, element_position, whole}

pub component_below : (t : Ty) (cs : List Bool) (q : List ℕ) → IsPosition t cs q → component t cs < width t
component_below Scalar cs q w = omega arith
component_below (PairOf a b) [] q w = absurd w
component_below (PairOf a b) (false ∷ cs) q w = let h = component_below a cs q w in omega arith
component_below (PairOf a b) (true ∷ cs) q w = let h = component_below b cs q w in omega arith
component_below (ArrayOf n t) cs [] w = absurd w
component_below (ArrayOf n t) cs (i ∷ q) w = component_below t cs q w.1

row_below : (i j n s : ℕ) → i < n → j < s → i * s + j < n * s
row_below i j n s a b = let h = mul-le-mul_right {m = suc i} {n = n} s a in omega arith

pub flat_below : (t : Ty) (cs : List Bool) (q : List ℕ) → IsFlat t → IsPosition t cs q → flat t q < size t
flat_below Scalar cs q e w = omega arith
flat_below (PairOf a b) cs q e w = omega arith
flat_below (ArrayOf n t) cs [] e w = absurd w
flat_below (ArrayOf n t) cs (i ∷ q) e w = row_below i (flat t q) n (size t) w.0 (flat_below t cs q e w.1)

pub component_same : (t : Ty) (cs ds : List Bool) (q p : List ℕ) → IsPosition t cs q → IsPosition t ds p → component t cs ≡ component t ds → cs ≡ ds
component_same Scalar [] [] q p w z e = refl
component_same Scalar [] (d ∷ ds) q p w z e = absurd z
component_same Scalar (c ∷ cs) ds q p w z e = absurd w
component_same (PairOf a b) [] ds q p w z e = absurd w
component_same (PairOf a b) (c ∷ cs) [] q p w z e = absurd z
component_same (PairOf a b) (false ∷ cs) (false ∷ ds) q p w z e = ap (λ x. false ∷ x) (component_same a cs ds q p w z e)
component_same (PairOf a b) (true ∷ cs) (true ∷ ds) q p w z e = ap (λ x. true ∷ x) (component_same b cs ds q p w z (omega arith))
component_same (PairOf a b) (false ∷ cs) (true ∷ ds) q p w z e = let h = component_below a cs q w in absurd (omega arith)
component_same (PairOf a b) (true ∷ cs) (false ∷ ds) q p w z e = let h = component_below a ds p z in absurd (omega arith)
component_same (ArrayOf n t) cs ds [] p w z e = absurd w
component_same (ArrayOf n t) cs ds (i ∷ q) [] w z e = absurd z
component_same (ArrayOf n t) cs ds (i ∷ q) (j ∷ p) w z e = component_same t cs ds q p w.1 z.1 e

pub flat_same : (t : Ty) (cs ds : List Bool) (q p : List ℕ) → IsFlat t → IsPosition t cs q → IsPosition t ds p → flat t q ≡ flat t p → q ≡ p
flat_same Scalar cs ds q p f w z e = element_position Scalar cs q tt w ∙ sym (element_position Scalar ds p tt z)
flat_same (PairOf a b) cs ds q p f w z e = element_position (PairOf a b) cs q f w ∙ sym (element_position (PairOf a b) ds p f z)
flat_same (ArrayOf n t) cs ds [] p f w z e = absurd w
flat_same (ArrayOf n t) cs ds (i ∷ q) [] f w z e = absurd z
flat_same (ArrayOf n t) cs ds (i ∷ q) (j ∷ p) f w z e =
    let a = flat_below t cs q f w.1 in
    let b = flat_below t ds p f z.1 in
    let rows : i ≡ j = sym (quotient i (flat t q) (size t) a) ∙ ap (λ x. x / size t) e ∙ quotient j (flat t p) (size t) b in
    let rest : flat t q ≡ flat t p = sym (remainder i (flat t q) (size t) a) ∙ ap (λ x. x % size t) e ∙ remainder j (flat t p) (size t) b in
    ap (λ x. x ∷ q) rows ∙ ap (λ x. j ∷ x) (flat_same t cs ds q p f w.1 z.1 rest)

pub unflat_flat : (t : Ty) (cs : List Bool) (q : List ℕ) → IsFlat t → IsPosition t cs q → unflat t (flat t q) ≡ q
unflat_flat Scalar cs q f w = sym (element_position Scalar cs q tt w)
unflat_flat (PairOf a b) cs q f w = sym (element_position (PairOf a b) cs q f w)
unflat_flat (ArrayOf n t) cs [] f w = absurd w
unflat_flat (ArrayOf n t) cs (i ∷ q) f w =
    let lt = flat_below t cs q f w.1 in
    ap (λ x. x ∷ unflat t ((i * size t + flat t q) % size t)) (quotient i (flat t q) (size t) lt)
    ∙ ap (λ x. i ∷ unflat t x) (remainder i (flat t q) (size t) lt)
    ∙ ap (λ x. i ∷ x) (unflat_flat t cs q f w.1)

choose_at : (t : Ty) (a : ℕ) → IsWords t → a < width t → (cs : List Bool) × IsPosition t cs [] × (component t cs ≡ a)
choose_at Scalar a e lt = ([], tt, omega arith)
choose_at (PairOf x y) a e lt =
    ⊎_elim
    (λ l. let r = choose_at x a e.0 l in (false ∷ r.0, r.1, r.2))
    (λ m. let r = choose_at y (a - width x) e.1 (omega arith) in (true ∷ r.0, r.1, let z = r.2 in omega arith))
    (cases_lt a (width x))
choose_at (ArrayOf n t) a e lt = absurd e

positive : (i n s : ℕ) → i < n * s → 0 < s
positive i n zero h = let e : n * 0 ≡ 0 = omega arith in absurd (omega arith)
positive i n (suc s) h = omega arith

pub position_at : (t : Ty) (a i : ℕ) → IsFlat t → a < width t → i < size t → (cs : List Bool) × IsPosition t cs (unflat t i) × (component t cs ≡ a) × (flat t (unflat t i) ≡ i)
position_at Scalar a i f la li = ([], tt, omega arith, omega arith)
position_at (PairOf x y) a i f la li = let r = choose_at (PairOf x y) a f la in (r.0, r.1, r.2, omega arith)
position_at (ArrayOf n t) a i f la li =
    let pos = positive i n (size t) li in
    let r = position_at t a (i % size t) f la (mod-lt i pos) in
    (r.0, ((div-lt_iff_lt-mul {k = size t} {x = i} {y = n} pos).1 li, r.1), r.2, ap (λ x. i / size t * size t + x) r.3 ∙ whole i (size t) pos)
