-- Values laid out in lists.
use Rattle.std.proofs.Common.{◌≡◌, ◌∙◌, ◌<◌, ◌≤◌, ◌*◌, ℕ, zero, suc, List, [], ◌∷◌, length, map, replicate, refl, sym, ap, ap₂, arith}
use Rattle.std.specs.Prelude.{slice_index}
use Rattle.std.proofs.Props.{props}
use Rattle.std.proofs.lemmas.List.{length-map, length-replicate}
use Rattle.std.proofs.lemmas.Grind.{same_number_lists}
use Rattle.kernel_tree.specs.Device.{row}
use Rattle.lift_tree.specs.Launches.{lists_of}
use Rattle.lift_tree.specs.Types.{PlainTy, U32, U32x4, PairOf, ArrayOf}
use Rattle.lift_tree.specs.Limits.{components}
use Rattle.lift_tree.specs.Values.{Value, list_of}
use Rattle.value_lists.specs.Laws.{ComponentsAreCounted}
use Rattle.value_lists.specs.Lists.{IsSmall, length_at, width}

-- ---- facts that a truncated fact gives

pub small_once : (ys : List ℕ) (count : ℕ) (a : PlainTy) → IsProp (IsSmall ys count a)
small_once ys count U32 = Prim.hlevel props
small_once ys count U32x4 = Prim.hlevel props
small_once ys count (PairOf a b) = let x = small_once ys count a in let y = small_once ys count b in Prim.hlevel (x, y, props)
small_once ys count (ArrayOf a n) = let x = small_once ys (count * length_at ys n) a in Prim.hlevel (x, props)

-- ---- rows

-- lists of zeros are as long as they are made
pub blank_lengths : (ns : List ℕ) → map (length {A = ℕ}) (map (λ (n : ℕ). replicate {A = ℕ} n 0) ns) ≡ ns
blank_lengths [] = refl
blank_lengths (n ∷ ns) = ap₂ (λ m ms. m ∷ ms) (length-replicate n 0) (blank_lengths ns)

pub row_lengths : (rows outs : List (List ℕ)) → map length rows ≡ map length outs → (a : ℕ) → length (row rows a) ≡ length (row outs a)
row_lengths [] [] e a = refl
row_lengths [] (o ∷ os) e a = absurd (cc (e))
row_lengths (r ∷ rs) [] e a = absurd (cc (e))
row_lengths (r ∷ rs) (o ∷ os) e zero = cc (e)
row_lengths (r ∷ rs) (o ∷ os) e (suc a) = row_lengths rs os (cc (e)) a

-- rows that are as long as these outputs, and have the words of rows that are too, are those
pub rows_are : (rows outs want : List (List ℕ)) → length rows ≡ length outs → ((a : ℕ) → length (row rows a) ≡ length (row outs a)) → map length want ≡ map length outs
    → ((a i : ℕ) → i < length (row want a) → slice_index (row rows a) i ≡ slice_index (row want a) i) → rows ≡ want
rows_are [] [] [] count long shape same = refl
rows_are [] [] (w ∷ ws) count long shape same = absurd (cc (shape))
rows_are [] (o ∷ os) want count long shape same = absurd (omega (arith, count))
rows_are (r ∷ rs) [] want count long shape same = absurd (omega (arith, count))
rows_are (r ∷ rs) (o ∷ os) [] count long shape same = absurd (cc (shape))
rows_are (r ∷ rs) (o ∷ os) (w ∷ ws) count long shape same =
    let first : length w ≡ length o = cc (shape) in
    let later : map length ws ≡ map length os = cc (shape) in
    ap₂ (λ x xs. x ∷ xs) (same_number_lists r w (long 0 ∙ sym first) (λ i lt. same 0 i (let e = long 0 in omega (arith, lt, e, first))))
    (rows_are rs os ws (omega (arith, count)) (λ a. long (suc a)) later (λ a i lt. same (suc a) i lt))

-- there are as many lists as components
pub wide : {X : Type 0} → ComponentsAreCounted → (a : PlainTy) (v : Value) (f : X → List ℕ) (outs : List X) → map f outs ≡ lists_of a v → width a ≤ length outs
wide counted a v f outs left =
    let here : length (map f outs) ≡ length outs = length-map outs f in
    let there : length (map (list_of v) (components a)) ≡ length (components a) = length-map (components a) (list_of v) in
    let same : length (map f outs) ≡ length (map (list_of v) (components a)) = ap length left in
    let all = counted a in
    omega (arith, here, there, same, all)
