-- Where an entry stands in a list.
use Rattle.std.proofs.Common.{◌≡◌, ℕ, zero, suc, ◌<◌, List, [], ◌∷◌, ◌++◌, length, get_or, take, drop, ℤ, pos, negsuc, ◌+ℤ◌, ◌≤◌, refl, sym, ap, ◌∙◌, subst, arith, Bool, true, false}
use Rattle.std.specs.Prelude.{slice_set, unsigned_abs}
use Rattle.size_arith.specs.declared.poly.Monomial.{Monomial}
use Rattle.size_arith.specs.Polynomial.{After, place, on, put, is_zero, AllSmall}
use Rattle.size_arith.specs.Code.{put_there}

pub place_ended : (a b : List ℕ) → 0 < length a → length b ≡ 0 → After ≡ place a b
place_ended [] b h e = absurd (omega arith)
place_ended (x ∷ a) [] h e = refl
place_ended (x ∷ a) (y ∷ b) h e = absurd (omega arith)

pub small_get : (b : ℕ) (es : List Monomial) (i : ℕ) (d : Monomial) → i < length es → AllSmall b es → unsigned_abs (get_or es i d).coefficient ≤ b
small_get b [] i d h s = absurd (omega arith)
small_get b (e ∷ es) zero d h s = s.0
small_get b (e ∷ es) (suc i) d h s = small_get b es i d (omega arith) s.1

pub on_some : (c : ℤ) (ms : List ℕ) (es : List Monomial) → is_zero c ≡ false → on c ms es ≡ record { coefficient = c; powers = ms } ∷ es
on_some (pos zero) ms es h = cc
on_some (pos (suc c)) ms es h = refl
on_some (negsuc c) ms es h = refl

pub set_there : (c z : ℤ) (ms : List ℕ) (es : List Monomial) (i : ℕ) (d : Monomial) → i < length es → z ≡ c +ℤ (get_or es i d).coefficient → is_zero z ≡ false → slice_set es i (record { coefficient = z; powers = ms }) ≡ take i es ++ put_there true c ms (drop i es)
set_there c z ms [] i d h e q = absurd (omega arith)
set_there c z ms (x ∷ es) zero d h e q = sym (on_some z ms es q) ∙ ap (λ y. on y ms es) e
set_there c z ms (x ∷ es) (suc i) d h e q = ap (λ ys. x ∷ ys) (set_there c z ms es i d (omega arith) e q)

pub not_zero : (z : ℤ) → (z ≡ pos 0 → ⊥) → is_zero z ≡ false
not_zero (pos zero) h = absurd (h refl)
not_zero (pos (suc n)) h = refl
not_zero (negsuc n) h = refl

pub small_at : (b : ℕ) (xs es : List Monomial) (i : ℕ) (d : Monomial) → xs ≡ es → i < length xs → d ≡ get_or es i d → AllSmall b es → unsigned_abs d.coefficient ≤ b
small_at b xs es i d q h e s = subst (λ (z : Monomial). unsigned_abs z.coefficient ≤ b) (sym e) (small_get b es i d (subst (λ ys. i < length ys) q h) s)

pub set_put : (c z : ℤ) (ms : List ℕ) (xs es : List Monomial) (i : ℕ) (here : Bool) (d : Monomial) → xs ≡ es → put c ms xs ≡ take i xs ++ put_there here c ms (drop i xs) → here ≡ true → i < length xs → d ≡ get_or es i d → z ≡ c +ℤ d.coefficient → false ≡ is_zero z → slice_set es i (record { coefficient = z; powers = ms }) ≡ put c ms es
set_put c z ms xs es i here d q p t h e f n =
    let g : z ≡ c +ℤ (get_or es i d).coefficient = f ∙ ap (λ (y : Monomial). c +ℤ y.coefficient) e in
    set_there c z ms es i d (subst (λ ys. i < length ys) q h) g (sym n)
    ∙ sym (subst (λ ys. put c ms ys ≡ take i ys ++ put_there true c ms (drop i ys)) q (subst (λ b. put c ms xs ≡ take i xs ++ put_there b c ms (drop i xs)) t p))
