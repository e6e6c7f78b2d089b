-- What a name means, among names as the code holds them.
use Rattle.std.proofs.Common.{◌≡◌, ◌+◌, ℕ, List, [], ◌∷◌, Bool, Bor, Option, refl, ap, sym, ◌∙◌, map, cond, suc, not, Some, None, nat_lt, length}
use Rattle.std.specs.Prelude.{position, bytes_eq}
use Rattle.std.specs.List.{prefix_len}
use Rattle.std.specs.Global.{Vec}
use Rattle.std.proofs.lemmas.Cmp.{nat_list_eq_equiv}
use Rattle.lift_tree.specs.declared.input_type.InputType.{InputType}
use Rattle.lift_reader.specs.declared.reader.Range.{Range}
use Rattle.lift_tree.specs.Programs.{input_of}
use Rattle.lift_reader.specs.Noted.{declared_size, declared_input}

prefix_len-map : {A B : Type 0} (p : B → Bool) (f : A → B) (xs : List A) → prefix_len p (map f xs) ≡ prefix_len (λ x. p (f x)) xs
prefix_len-map p f [] = refl
prefix_len-map p f (x ∷ xs) = ap (λ n. cond (p (f x)) (1 + n) 0) (prefix_len-map p f xs)

length-mapped : {A B : Type 0} (f : A → B) (xs : List A) → length (map f xs) ≡ length xs
length-mapped f [] = refl
length-mapped f (x ∷ xs) = ap suc (length-mapped f xs)

position-map : {A B : Type 0} (p : B → Bool) (f : A → B) (xs : List A) → position p (map f xs) ≡ position (λ x. p (f x)) xs
position-map p f xs =
    let within : ℕ → ℕ → Option ℕ = λ k n. cond (nat_lt k n) (Some k) None in
    ap (λ k. within k (length (map f xs))) (prefix_len-map (λ y. not (p y)) f xs) ∙ ap (within (prefix_len (λ x. not (p (f x))) xs)) (length-mapped f xs)

pub binder_is : (scope : List (Bor (List ℕ))) (x : List ℕ) → position (λ y. bytes_eq y x) (map (λ y. y.now) scope) ≡ position (λ y. bytes_eq y.now x) scope
binder_is scope x = position-map (λ y. bytes_eq y x) (λ y. y.now) scope

-- The first of the things declared that has the name stands where the map has the name.
keyed : {K X Y : Type 0} (bytes : K → List ℕ) (name : Y → List ℕ) (declared : K × X → Y) → ((e : K × X) → name (declared e) ≡ bytes e.0)
    → (es : List (K × X)) (x : List ℕ) → position (λ y. bytes_eq (name y) x) (map declared es) ≡ position (λ k. bytes_eq x (bytes k)) (map (λ e. e.0) es)
keyed bytes name declared named es x =
    position-map (λ y. bytes_eq (name y) x) declared es
    ∙ ap (λ p. position p es) (λ i e. (ap (λ y. bytes_eq y x) (named e) ∙ nat_list_eq_equiv.symm (bytes e.0) x) i)
    ∙ sym (position-map (λ k. bytes_eq x (bytes k)) (λ e. e.0) es)

pub size_is : (es : List (Vec ℕ × Range)) (x : List ℕ) → position (λ s. bytes_eq s.name x) (map declared_size es) ≡ position (λ k. bytes_eq x k.items) (map (λ e. e.0) es)
size_is = keyed (λ k. k.items) (λ s. s.name) declared_size (λ e. refl)

pub input_is : (es : List (Vec ℕ × InputType)) (x : List ℕ) → position (λ i. bytes_eq i.name x) (map input_of (map declared_input es)) ≡ position (λ k. bytes_eq x k.items) (map (λ e. e.0) es)
input_is es x =
    position-map (λ i. bytes_eq i.name x) input_of (map declared_input es)
    ∙ keyed (λ k. k.items) (λ i. i.name) declared_input (λ e. refl) es x
