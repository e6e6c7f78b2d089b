-- A walk that goes on and on.
use Rattle.std.proofs.Common.{◌≡◌, ℕ, suc, ◌+◌, List, [], ◌∷◌, ◌++◌, length, length-append, ap, sym, ◌∙◌, subst, subst₂, arith}
use Rattle.std.specs.Prelude.{Result, Ok, Err, OnOk}
use Rattle.std.proofs.lemmas.List.{append_assoc, append-nil}
use Rattle.group_form.specs.Uses.{Use, touches_in, numbered}
use Rattle.phase_plan.specs.declared.walk.Walk.{Walk}
use Rattle.phase_plan.specs.Walks.{GoesOn}

numbered_append : (q : ℕ) (us vs : List (List Use)) → numbered q (us ++ vs) ≡ numbered q us ++ numbered (q + length us) vs
numbered_append q [] vs = ap (λ z. numbered z vs) (let e : q ≡ q + 0 = omega arith in e)
numbered_append q (u ∷ us) vs =
    let e : suc q + length us ≡ q + suc (length us) = omega arith in
    ap (λ xs. touches_in q u ++ xs) (numbered_append (suc q) us vs ∙ ap (λ z. numbered (suc q) us ++ numbered z vs) e) ∙ sym (append_assoc (touches_in q u) (numbered (suc q) us) (numbered (q + suc (length us)) vs))

pub stays : (w : Walk) → GoesOn w w [] 0
stays w = record { touches = sym (append-nil w.touches.items); phases = omega arith; arrays = omega arith }

-- first by these phases, then by those, which go by the number of local arrays before them
pub goes_further : (a b c : Walk) (us : List (List Use)) (vs : ℕ → List (List Use)) (m n : ℕ) → GoesOn a b us m → GoesOn b c (vs b.arrays) n → GoesOn a c (us ++ vs (a.arrays + m)) (m + n)
goes_further a b c us vs m n first second =
    subst (λ z. GoesOn a c (us ++ vs z) (m + n)) first.arrays
    (record {
      touches =
          let by_phase = numbered_append a.phases us (vs b.arrays) in
          second.touches ∙ ap (λ xs. xs ++ numbered b.phases (vs b.arrays)) first.touches ∙ append_assoc a.touches.items (numbered a.phases us) (numbered b.phases (vs b.arrays)) ∙ ap (λ z. a.touches.items ++ (numbered a.phases us ++ numbered z (vs b.arrays))) first.phases ∙ ap (λ xs. a.touches.items ++ xs) (sym by_phase);
      phases = let l = length-append us (vs b.arrays) in let x = first.phases in let y = second.phases in omega arith;
      arrays = let x = first.arrays in let y = second.arrays in omega arith;
    })

-- the same where the second walk writes: it lays so many arrays, and then those of its value
pub goes_further_to : (a b c : Walk) (us : List (List Use)) (vs : (from to : ℕ) → List (List Use)) (m n w : ℕ) → GoesOn a b us m → GoesOn b c (vs b.arrays (b.arrays + n)) (n + w) → GoesOn a c (us ++ vs (a.arrays + m) (a.arrays + (m + n))) (m + n + w)
goes_further_to a b c us vs m n w first second =
    let to : a.arrays + m + n ≡ a.arrays + (m + n) = omega arith in
    let laid : m + (n + w) ≡ m + n + w = omega arith in
    subst₂ (λ (z y : ℕ). GoesOn a c (us ++ vs (a.arrays + m) z) y) to laid (goes_further a b c us (λ k. vs k (k + n)) m (n + w) first second)

pub granted : {T E P : Type 0} (r : Result T E) → P → OnOk r P
granted (Ok x) p = p
granted (Err e) p = tt
