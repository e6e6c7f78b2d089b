-- The private arrays of a term are as long as their values, where a kernel has them by their
-- lengths.
use Rattle.std.proofs.Common.{◌≡◌, ℕ, zero, suc, ◌+◌, ◌-◌, ◌<◌, List, [], ◌∷◌, ◌++◌, length, get_or, refl, sym, ap, ◌∙◌, arith, length-append}
use Rattle.std.specs.Prelude.{map, replicate, slice_index}
use Rattle.std.proofs.lemmas.List.{length-replicate, get_or-replicate}
use Rattle.std.proofs.Math.ListN.{get_or-append}
use Rattle.std.proofs.Math.Seq.{get_or-append_right}
use Rattle.lift_tree.proofs.Members.{length-map}
use Rattle.kernel_tree.specs.Code.{Array, Private}
use Rattle.kernel_tree.specs.Device.{row}
use Rattle.lift_ir.specs.Types.{width, size}
use Rattle.lift_ir.specs.Terms.{LocalMemory, PrivateMemory, Term, Literal, Bound, Source, Apply, ApplyNumber, ApplyLanes, DivideLanes, Select, Both, Project, Reshape, LetArray, LetElement, Map, Fold, Store, Copy}
use Rattle.printed_form.specs.Counts.{private_count, copy_lengths}
use Rattle.printed_form.specs.Form.{Declares}

-- two lists of lengths together
pub joined : (n m : ℕ) (xs ys : List ℕ) → length xs ≡ n → length ys ≡ m → length (xs ++ ys) ≡ n + m
joined n m xs ys e f = let a = length-append xs ys in omega arith

pub counted : {A : Type 0} (t : Term A) → length (copy_lengths PrivateMemory t) ≡ private_count t
counted (Literal n) = refl
counted (Bound v) = refl
counted (Source v) = refl
counted (Apply o a b) = refl
counted (ApplyNumber o n a) = refl
counted (ApplyLanes o l r a b) = refl
counted (DivideLanes o n a) = refl
counted (Select c a b) = refl
counted (Both zips a b) = joined (private_count a) (private_count b) (copy_lengths PrivateMemory a) (copy_lengths PrivateMemory b) (counted a) (counted b)
counted (Project s a) = counted a
counted (Reshape l a) = counted a
counted (LetArray v b) = joined (private_count v) (private_count b) (copy_lengths PrivateMemory v) (copy_lengths PrivateMemory b) (counted v) (counted b)
counted (LetElement ty v b) = counted b
counted (Map k n loads xs b) = joined (private_count xs) (private_count b) (copy_lengths PrivateMemory xs) (copy_lengths PrivateMemory b) (counted xs) (counted b)
counted (Fold n loads ty xs s b) = counted xs
counted (Store ty a) = refl
counted (Copy LocalMemory ty a) = let e = joined (private_count a) 0 (copy_lengths PrivateMemory a) [] (counted a) refl in omega arith
counted (Copy PrivateMemory ty a) = joined (private_count a) (width ty) (copy_lengths PrivateMemory a) (replicate (width ty) (size ty)) (counted a) (length-replicate (width ty) (size ty))

-- arrays from a on have these lengths
abbrev pub AreLong : (form : ℕ → Array) → (Array → ℕ) → ℕ → List ℕ → Type 0
AreLong form long a ns = (i : ℕ) → i < length ns → long (form (a + i)) ≡ slice_index ns i

pub long_left : (form : ℕ → Array) (long : Array → ℕ) (a : ℕ) (xs ys : List ℕ) → AreLong form long a (xs ++ ys) → AreLong form long a xs
long_left form long a xs ys h i lt = let e = length-append xs ys in h i (omega arith) ∙ get_or-append xs ys 0 i lt

pub long_right : (form : ℕ → Array) (long : Array → ℕ) (a n : ℕ) (xs ys : List ℕ) → length xs ≡ n → AreLong form long a (xs ++ ys) → AreLong form long (a + n) ys
long_right form long a n xs ys same h i lt =
    let e = length-append xs ys in
    let z : a + n + i ≡ a + (n + i) = omega arith in
    let y : n + i - length xs ≡ i = omega arith in
    ap (λ k. long (form k)) z ∙ h (n + i) (omega arith) ∙ get_or-append_right xs ys (n + i) 0 (omega arith) ∙ ap (λ k. slice_index ys k) y

pub declares : {A : Type 0} (long : Array → ℕ) (a : ℕ) (t : Term A) → AreLong Private long a (copy_lengths PrivateMemory t) → Declares long a t
declares long a (Literal n) h = tt
declares long a (Bound v) h = tt
declares long a (Source v) h = tt
declares long a (Apply o x y) h = tt
declares long a (ApplyNumber o n x) h = tt
declares long a (ApplyLanes o l r x y) h = tt
declares long a (DivideLanes o n x) h = tt
declares long a (Select c x y) h = tt
declares long a (Both zips x y) h = (declares long a x (long_left Private long a (copy_lengths PrivateMemory x) (copy_lengths PrivateMemory y) h), declares long (a + private_count x) y (long_right Private long a (private_count x) (copy_lengths PrivateMemory x) (copy_lengths PrivateMemory y) (counted x) h))
declares long a (Project s x) h = declares long a x h
declares long a (Reshape l x) h = declares long a x h
declares long a (LetArray v b) h = (declares long a v (long_left Private long a (copy_lengths PrivateMemory v) (copy_lengths PrivateMemory b) h), declares long (a + private_count v) b (long_right Private long a (private_count v) (copy_lengths PrivateMemory v) (copy_lengths PrivateMemory b) (counted v) h))
declares long a (LetElement ty v b) h = declares long a b h
declares long a (Map k n loads xs b) h = (declares long a xs (long_left Private long a (copy_lengths PrivateMemory xs) (copy_lengths PrivateMemory b) h), declares long (a + private_count xs) b (long_right Private long a (private_count xs) (copy_lengths PrivateMemory xs) (copy_lengths PrivateMemory b) (counted xs) h))
declares long a (Fold n loads ty xs s b) h = declares long a xs h
declares long a (Store ty x) h = tt
declares long a (Copy LocalMemory ty x) h = declares long a x (long_left Private long a (copy_lengths PrivateMemory x) [] h)
declares long a (Copy PrivateMemory ty x) h =
    let own = long_right Private long a (private_count x) (copy_lengths PrivateMemory x) (replicate (width ty) (size ty)) (counted x) h in
    let n = length-replicate (width ty) (size ty) in
    (declares long a x (long_left Private long a (copy_lengths PrivateMemory x) (replicate (width ty) (size ty)) h), λ c lt. own c (omega arith) ∙ get_or-replicate (width ty) c (size ty) 0 lt)

-- an output's row is as long as a component
pub row_long : (rows : List (List ℕ)) (w n a : ℕ) → map length rows ≡ replicate w n → a < w → length (row rows a) ≡ n
row_long rows w n a e lt =
    let k : length rows ≡ w = sym (length-map length rows) ∙ ap length e ∙ length-replicate w n in
    sym (nth_map rows a (omega arith)) ∙ ap (λ ns. get_or ns a 0) e ∙ get_or-replicate w a n 0 lt
  where
    nth_map : (rows : List (List ℕ)) (a : ℕ) → a < length rows → get_or (map length rows) a 0 ≡ length (row rows a)
    nth_map [] a lt = absurd (omega arith)
    nth_map (r ∷ rows) zero lt = refl
    nth_map (r ∷ rows) (suc a) lt = nth_map rows a (omega arith)
