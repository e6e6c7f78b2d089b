-- One entry of a list changed.
use Rattle.std.proofs.Common.{◌≡◌, ℕ, zero, suc, ◌<◌, ◌≤◌, List, [], ◌∷◌, length, map, refl, ap, ◌∙◌, arith}
use Rattle.std.proofs.Math.ListN.{get_or, set}
use Rattle.tidy_indices.specs.Places.{changed_at}

-- seen as something else, it is written anew
pub changed_seen : {A B : Type 0} (e : A → B) (f : B → B) (xs : List A) (k : ℕ) (x y : A) → k < length xs → x ≡ get_or xs k x → e y ≡ f (e x) → map e (set xs k y) ≡ changed_at k f (map e xs)
changed_seen e f [] k x y lt at is = absurd (omega arith)
changed_seen e f (z ∷ xs) zero x y lt at is = ap (λ w. w ∷ map e xs) (is ∙ ap (λ w. f (e w)) at)
changed_seen e f (z ∷ xs) (suc k) x y lt at is = ap (λ w. e z ∷ w) (changed_seen e f xs k x y (omega arith) at is)

pub changed : {A : Type 0} (f : A → A) (xs : List A) (k : ℕ) (x y : A) → k < length xs → x ≡ get_or xs k x → y ≡ f x → set xs k y ≡ changed_at k f xs
changed f [] k x y lt at is = absurd (omega arith)
changed f (z ∷ xs) zero x y lt at is = ap (λ w. w ∷ xs) (is ∙ ap f at)
changed f (z ∷ xs) (suc k) x y lt at is = ap (λ w. z ∷ w) (changed f xs k x y (omega arith) at is)

-- there is none of this number
pub unchanged : {A : Type 0} (f : A → A) (xs : List A) (k : ℕ) → length xs ≤ k → xs ≡ changed_at k f xs
unchanged f [] zero h = refl
unchanged f [] (suc k) h = refl
unchanged f (x ∷ xs) zero h = absurd (omega arith)
unchanged f (x ∷ xs) (suc k) h = ap (λ w. x ∷ w) (unchanged f xs k (omega arith))
