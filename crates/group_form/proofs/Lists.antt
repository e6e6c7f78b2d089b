-- Lists, their members, and lists of stages.
use Rattle.std.proofs.Common.{◌≡◌, ℕ, zero, suc, ◌+◌, ◌<◌, ◌⊎◌, ⊎_elim, inl, inr, List, [], ◌∷◌, ◌++◌, length, refl, sym, ap, subst, arith}
use Rattle.std.specs.Prelude.{map, Contains}
use Rattle.kernel_tree.specs.Faults.{Among}
use Rattle.group_form.specs.Stages.{Stage, stage_at}

module _ {A : Type 0} where
  pub among_left : (x : A) (xs ys : List A) → Among x xs → Among x (xs ++ ys)
  among_left x [] ys h = absurd h
  among_left x (y ∷ xs) ys h = ⊎_elim (λ e. inl e) (λ r. inr (among_left x xs ys r)) h

  pub among_right : (x : A) (xs ys : List A) → Among x ys → Among x (xs ++ ys)
  among_right x [] ys h = h
  among_right x (y ∷ xs) ys h = inr (among_right x xs ys h)

  pub among_cases : (x : A) (xs ys : List A) → Among x (xs ++ ys) → Among x xs ⊎ Among x ys
  among_cases x [] ys h = inr h
  among_cases x (y ∷ xs) ys h = ⊎_elim (λ e. inl (inl e)) (λ r. ⊎_elim (λ z. inl (inr z)) (λ z. inr z) (among_cases x xs ys r)) h

  pub contained : (x : A) (xs : List A) → Among x xs → Contains xs x
  contained x [] h = absurd h
  contained x (y ∷ xs) h = ⊎_elim (λ e. (0, omega arith, sym e)) (λ r. let z = contained x xs r in let lt = z.1 in (suc z.0, omega arith, z.2)) h

  pub long_append : (xs ys : List A) → length (xs ++ ys) ≡ length xs + length ys
  long_append [] ys = omega arith
  long_append (x ∷ xs) ys = let e = long_append xs ys in omega arith

  pub append_again : (xs ys zs : List A) → (xs ++ ys) ++ zs ≡ xs ++ (ys ++ zs)
  append_again [] ys zs = refl
  append_again (x ∷ xs) ys zs = ap (λ z. x ∷ z) (append_again xs ys zs)

pub among_map : {A B : Type 0} (f : A → B) (x : A) (xs : List A) → Among x xs → Among (f x) (map f xs)
among_map f x [] h = absurd h
among_map f x (y ∷ xs) h = ⊎_elim (λ e. inl (ap f e)) (λ r. inr (among_map f x xs r)) h

pub map_append : {A B : Type 0} (f : A → B) (xs ys : List A) → map f (xs ++ ys) ≡ map f xs ++ map f ys
map_append f [] ys = refl
map_append f (x ∷ xs) ys = ap (λ z. f x ∷ z) (map_append f xs ys)

pub map_long : {A B : Type 0} (f : A → B) (xs : List A) → length (map f xs) ≡ length xs
map_long f [] = refl
map_long f (x ∷ xs) = ap suc (map_long f xs)

-- each of the stages, the first of which has this number
abbrev pub Each : {A : Type 0} → (ℕ → Stage A → Type 0) → ℕ → List (Stage A) → Type 0
Each P q [] = Unit {0}
Each P q (s ∷ ss) = P q s × Each P (suc q) ss

module _ {A : Type 0} (P : ℕ → Stage A → Type 0) where
  pub each_append : (q : ℕ) (xs ys : List (Stage A)) → Each P q xs → Each P (q + length xs) ys → Each P q (xs ++ ys)
  each_append q [] ys a b = let e : q + 0 ≡ q = omega arith in subst (λ z. Each P z ys) e b
  each_append q (x ∷ xs) ys a b = let e : q + suc (length xs) ≡ suc q + length xs = omega arith in (a.0, each_append (suc q) xs ys a.1 (subst (λ z. Each P z ys) e b))

  pub each_left : (q : ℕ) (xs ys : List (Stage A)) → Each P q (xs ++ ys) → Each P q xs
  each_left q [] ys a = tt
  each_left q (x ∷ xs) ys a = (a.0, each_left (suc q) xs ys a.1)

  pub each_right : (q : ℕ) (xs ys : List (Stage A)) → Each P q (xs ++ ys) → Each P (q + length xs) ys
  each_right q [] ys a = let e : q ≡ q + 0 = omega arith in subst (λ z. Each P z ys) e a
  each_right q (x ∷ xs) ys a = let e : suc q + length xs ≡ q + suc (length xs) = omega arith in subst (λ z. Each P z ys) e (each_right (suc q) xs ys a.1)

  pub each_at : (q i : ℕ) (xs : List (Stage A)) → Each P q xs → i < length xs → P (q + i) (stage_at xs i)
  each_at q i [] a lt = absurd (omega arith)
  each_at q zero (x ∷ xs) a lt = let e : q ≡ q + 0 = omega arith in subst (λ z. P z x) e a.0
  each_at q (suc i) (x ∷ xs) a lt = let e : suc q + i ≡ q + suc i = omega arith in subst (λ z. P z (stage_at xs i)) e (each_at (suc q) i xs a.1 (omega arith))

  pub each_from : (q : ℕ) (xs : List (Stage A)) → ((i : ℕ) → i < length xs → P (q + i) (stage_at xs i)) → Each P q xs
  each_from q [] f = tt
  each_from q (x ∷ xs) f =
      let e : q + 0 ≡ q = omega arith in
      (subst (λ z. P z x) e (f 0 (omega arith)), each_from (suc q) xs (λ i lt. let e2 : q + suc i ≡ suc q + i = omega arith in subst (λ z. P z (stage_at xs i)) e2 (f (suc i) (omega arith))))
