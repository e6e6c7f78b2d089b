-- What the loop over the tokens tells.
use Rattle.std.proofs.Common.{◌≡◌, ℕ, ◌<◌, ◌≤◌, suc, zero, List, [], ◌∷◌, ◌++◌, None, Result, Ok, Err, refl, ap, sym, ◌∙◌, subst, length, get_or, take, drop, map, drop-cons, IfOk, IfErr, arith}
use Rattle.std.proofs.lemmas.List.{length-append, length-drop}
use Rattle.std.proofs.Math.Seq.{take-append_seam}
use Rattle.readings.specs.declared.error.ReadError.{ReadError}
use Rattle.readings.specs.declared.error.ReadError.TheVariants.{Memory, Refused}
use Rattle.readings.specs.Readings.{Owed, Grammar, Reads, GoesOn, Stops}
use Rattle.readings.specs.Running.{Table, Decides, next, run, or_refuse}
use Rattle.readings.specs.Exactly.{StopsAt, Answers, Refuses}
use Rattle.readings.specs.Told.{Tells}
use Rattle.readings.proofs.Exact.{run-sound, run-only, run-refused}

map_drop : {A B : Type 0} (f : A → B) (i : ℕ) (xs : List A) → map f (drop i xs) ≡ drop i (map f xs)
map_drop f zero xs = refl
map_drop f (suc i) [] = refl
map_drop f (suc i) (x ∷ xs) = map_drop f i xs

-- the loop ends at a token that isn't taken
pub token_refused : {A T F M N : Type 0} (f : A → T) (b : Table T F M N) (ts : List A) (i : ℕ) (x : A) (o : List (Owed T F M)) (n : N) (all : Result N (List T)) → i < length ts → x ≡ get_or ts i x → None ≡ next b o n (f x) → run b o n (map f (drop i ts)) ≡ all → all ≡ Err (drop i (map f ts))
token_refused f b ts i x o n all less is e k =
    let rest = map f (drop (suc i) ts) in
    let here : map f (drop i ts) ≡ f x ∷ rest = ap (map f) (drop-cons ts i x less) ∙ ap (λ y. f y ∷ rest) (sym is) in
    sym k ∙ ap (run b o n) here
    ∙ ap (or_refuse (f x ∷ rest) (λ p. run b p.0 p.1 rest)) (sym e)
    ∙ ap Err (sym here ∙ map_drop f i ts)

-- back, as the text from its token i on, has i tokens before it
fronts : {T : Type 0} (ts front back : List T) → ts ≡ front ++ back → (i : ℕ) → i ≤ length ts → back ≡ drop i ts → front ≡ take i ts
fronts ts front back whole i less e =
    let n : length front ≡ i = omega (arith, ap length whole, length-append front back, ap length e, length-drop i ts) in
    sym (subst (λ z. take i z ≡ front) (sym whole) (subst (λ z. take z (front ++ back) ≡ front) n (take-append_seam front back)))

module _ {A T F M N : Type 0} (noted : A → N) (g : Grammar T F M N) (b : Table T F M N) (d : Decides g b) (o : List (Owed T F M)) (n : N) (ts : List T) where
  pub told_found : (r : Result A ReadError) → Tells noted b o n ts r → IfOk r (λ x. Reads g o n ts [] (noted x))
  told_found (Ok x) h = run-sound g b d ts o n (noted x) h
  told_found (Err e) h = tt

  pub told_only : (r : Result A ReadError) → Tells noted b o n ts r → (n2 : N) → Reads g o n ts [] n2 → Answers noted n2 r
  told_only (Ok x) h n2 k = let w = sym h ∙ run-only g b d ts o n n2 k in cc (w)
  told_only (Err Memory) h n2 k = tt
  told_only (Err (Refused i)) h n2 k = absurd (let w : Err (drop i ts) ≡ Ok n2 = sym h.1 ∙ run-only g b d ts o n n2 k in cc (w))

  stops_at : (i : ℕ) → i ≤ length ts → run b o n ts ≡ Err (drop i ts) → StopsAt g o n ts i
  stops_at i less h =
      let r = run-refused g b d ts o n (drop i ts) h in
      let f : r.front ≡ take i ts = fronts ts r.front (drop i ts) r.whole i less refl in
      record { inside = less; before = subst (λ z. GoesOn g o n z) f r.before; there = subst (λ z. Stops g o n z (drop i ts)) f r.there }

  pub told_refused : (r : Result A ReadError) → Tells noted b o n ts r → IfErr r (Refuses g o n ts)
  told_refused (Ok x) h = tt
  told_refused (Err Memory) h = tt
  told_refused (Err (Refused i)) h = stops_at i h.0 h.1

-- an error tells the same, whatever would have been answered
pub told_error : {A B T F M N : Type 0} (noted : A → N) (other : B → N) (b : Table T F M N) (o : List (Owed T F M)) (n : N) (ts : List T) (e : ReadError) → Tells noted b o n ts (Err e) → Tells other b o n ts (Err e)
told_error noted other b o n ts Memory h = h
told_error noted other b o n ts (Refused i) h = h
