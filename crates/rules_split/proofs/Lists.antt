-- Lists in rows: maps, pieces, tiles and columns.
use Rattle.std.proofs.Common.{◌≡◌, ℕ, zero, suc, ◌+◌, ◌*◌, ◌-◌, ◌≤◌, List, [], ◌∷◌, ◌++◌, length, take, drop, refl, sym, ap, ◌∙◌, arith, length-drop, zero-add, zero-mul}
use Rattle.std.proofs.lemmas.List.{take-append-drop, take-take, drop-drop, drop-take, take-map, drop-map}
use Rattle.std.specs.Prelude.{map}
use Rattle.lift_tree.specs.Values.{Value, array, members}
use Rattle.lift_tree.specs.Meaning.{rows, array_of_rows}
use Rattle.lift_tree.specs.Lists.{Every, concat, pieces}
use Rattle.lift_tree.proofs.Members.{members-array}

pub map_same : {A B : Type 0} (f g : A → B) (xs : List A) → ((x : A) → f x ≡ g x) → map f xs ≡ map g xs
map_same {A} {B} f g xs h = ap (λ (k : A → B). map k xs) (λ i x. h x i)

pub map_every : {A B : Type 0} (p : A → Type 0) (f g : A → B) (xs : List A) → ((x : A) → p x → f x ≡ g x) → Every p xs → map f xs ≡ map g xs
map_every p f g [] e a = refl
map_every p f g (x ∷ xs) e a = let b = e x a.0 in let c = map_every p f g xs e a.1 in cc

pub map-append : {A B : Type 0} (f : A → B) (xs ys : List A) → map f (xs ++ ys) ≡ map f xs ++ map f ys
map-append f [] ys = refl
map-append f (x ∷ xs) ys = ap (λ zs. f x ∷ zs) (map-append f xs ys)

pub map-map : {A B C : Type 0} (g : B → C) (f : A → B) (xs : List A) → map g (map f xs) ≡ map (λ x. g (f x)) xs
map-map g f [] = refl
map-map g f (x ∷ xs) = ap (λ zs. g (f x) ∷ zs) (map-map g f xs)

pub map-concat : {A B : Type 0} (f : A → B) (xss : List (List A)) → map f (concat xss) ≡ concat (map (map f) xss)
map-concat f [] = refl
map-concat f (r ∷ rs) = map-append f r (concat rs) ∙ ap (λ zs. map f r ++ zs) (map-concat f rs)

pub rows-array : (rs : List (List Value)) → rows (array_of_rows rs) ≡ rs
rows-array rs = ap (map members) (members-array (map array rs)) ∙ each rs
  where
    each : (rs : List (List Value)) → map members (map array rs) ≡ rs
    each [] = refl
    each (r ∷ rs) = let a = members-array r in let b = each rs in cc

-- rows mapped one by one
pub rows_mapped : (f : Value → Value) (xs : List Value) → concat (rows (array (map (λ r. array (map f (members r))) xs))) ≡ map f (concat (map members xs))
rows_mapped f xs =
    ap (λ l. concat (map members l)) (members-array (map (λ r. array (map f (members r))) xs))
    ∙ ap concat (map-map members (λ r. array (map f (members r))) xs ∙ map_same _ _ xs (λ r. members-array (map f (members r))) ∙ sym (map-map (map f) members xs))
    ∙ sym (map-concat f (map members xs))

-- ---- pieces
-- pieces put together again
pub concat-pieces : {A : Type 0} (c k : ℕ) (xs : List A) → length xs ≡ c * k → concat (pieces c k k xs) ≡ xs
concat-pieces zero k [] h = refl
concat-pieces zero k (x ∷ xs) h = absurd (omega arith)
concat-pieces (suc c) k xs h =
    ap (λ ys. take k xs ++ ys) (concat-pieces c k (drop k xs) (omega (arith, length-drop k xs)))
    ∙ take-append-drop k xs

pub pieces-map : {A B : Type 0} (f : A → B) (c s t : ℕ) (xs : List A) → pieces c s t (map f xs) ≡ map (map f) (pieces c s t xs)
pieces-map f zero s t xs = refl
pieces-map f (suc c) s t xs =
    let a = take-map f s xs in
    let b = ap (pieces c s t) (drop-map f t xs) ∙ pieces-map f c s t (drop t xs) in
    cc

-- pieces in two parts
pub pieces-add : {A : Type 0} (a b s t : ℕ) (xs : List A) → pieces (a + b) s t xs ≡ pieces a s t xs ++ pieces b s t (drop (a * t) xs)
pieces-add zero b s t xs = rw (zero-add, zero-mul) refl
pieces-add (suc a) b s t xs =
    let d : suc a + b ≡ suc (a + b) = omega arith in
    let e : t + a * t ≡ suc a * t = omega arith in
    ap (λ n. pieces n s t xs) d
    ∙ ap (λ ys. take s xs ∷ ys) (pieces-add a b s t (drop t xs) ∙ ap (λ ys. pieces a s t (drop t xs) ++ pieces b s t ys) (drop-drop (a * t) t xs ∙ ap (λ n. drop n xs) e))

-- pieces of a part that holds them
pub pieces_take : {A : Type 0} (q s t u : ℕ) (xs : List A) → q * t + s ≤ u + t → pieces q s t (take u xs) ≡ pieces q s t xs
pieces_take zero s t u xs h = refl
pieces_take (suc zero) s t u xs h = ap (λ ys. ys ∷ []) (take-take s u xs (omega arith))
pieces_take (suc (suc q)) s t u xs h =
    let v = u - t in
    let e : u ≡ t + v = omega arith in
    let a = take-take s u xs (omega arith) in
    let b = ap (λ n. drop t (take n xs)) e ∙ drop-take t v xs in
    let d = pieces_take (suc q) s t v (drop t xs) (omega arith) in
    ap (λ ys. ys ∷ pieces (suc q) s t (drop t (take u xs))) a ∙ ap (λ ys. take s xs ∷ pieces (suc q) s t ys) b ∙ ap (λ ys. take s xs ∷ ys) d

-- the pieces of tiles, each of which holds q of them
pub tiles : {A : Type 0} (p q s t u : ℕ) (xs : List A) → u + t ≡ q * t + s → concat (map (pieces q s t) (pieces p u (q * t) xs)) ≡ pieces (p * q) s t xs
tiles zero q s t u xs h = rw zero-mul refl
tiles (suc p) q s t u xs h =
    let e : suc p * q ≡ q + p * q = omega arith in
    ap (λ ys. ys ++ concat (map (pieces q s t) (pieces p u (q * t) (drop (q * t) xs)))) (pieces_take q s t u xs (omega arith))
    ∙ ap (λ ys. pieces q s t xs ++ ys) (tiles p q s t u (drop (q * t) xs) h)
    ∙ sym (pieces-add q (p * q) s t xs)
    ∙ ap (λ n. pieces n s t xs) (sym e)
