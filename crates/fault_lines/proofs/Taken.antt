-- What sinks took, piece by piece.
use Rattle.std.proofs.Common.{◌≡◌, ◌∙◌, refl, Bool, true, false, [], ◌∷◌, ◌+◌, ◌-◌, ◌≤◌, ◌++◌, ℕ, List, sym, ap, subst, take, drop, get_or, length, length-append, append_assoc, arith, Result, Ok, Err, OnOk, Option, Some, None}
use Rattle.std.specs.Prelude.{◌==◌, IsTrue, codes, decimal, if◌then◌else◌}
use Rattle.std.specs.Io.KnownBytes.{Appends}
use Rattle.std.proofs.lemmas.Bool.Decides.{nat_tests}
use Rattle.std.proofs.lemmas.List.{take-append-le, take_rest}
use Rattle.std.proofs.Math.Seq.{take-append-add}
use Rattle.launch_file.specs.Line.{pair_text}
use Rattle.lift_io.specs.Causes.{HasCause, Rose}
use Rattle.fault_lines.specs.Lines.{TakesPrefix, TakesLine}

pub appends_both : (a b c : Option (List ℕ)) (xs ys : List ℕ) → Appends a b xs → Appends b c ys → Appends a c (xs ++ ys)
appends_both None b c xs ys p q = tt
appends_both (Some us) None c xs ys p q = absurd p
appends_both (Some us) (Some bs) None xs ys p q = absurd q
appends_both (Some us) (Some bs) (Some cs) xs ys p q = q ∙ ap (λ (w : List ℕ). w ++ ys) p ∙ append_assoc us xs ys

-- a prefix of the first is one of both
pub prefix_of_first : (a b : Option (List ℕ)) (xs ys : List ℕ) → TakesPrefix a b xs → TakesPrefix a b (xs ++ ys)
prefix_of_first a b xs ys p =
    (p.0, omega (arith, p.1, length-append xs ys), subst (λ (w : List ℕ). Appends a b w) (sym (take-append-le p.0 xs ys p.1)) p.2)

-- all of the first and a prefix of the second are one of both
pub prefix_of_both : (a b c : Option (List ℕ)) (xs ys : List ℕ) → Appends a b xs → TakesPrefix b c ys → TakesPrefix a c (xs ++ ys)
prefix_of_both a b c xs ys p q =
    (length xs + q.0, omega (arith, q.1, length-append xs ys), subst (λ (w : List ℕ). Appends a c w) (sym (take-append-add xs ys q.0)) (appends_both a b c xs (take q.0 ys) p q.2))

pub on_ok : {T E : Type 0} (r : Result T E) (P Q : Type 0) → (P → Q) → OnOk r P → OnOk r Q
on_ok (Ok v) P Q f h = f h
on_ok (Err e) P Q f h = tt

untaken : (b : Bool) (xs ys : List ℕ) → (IsTrue b → ⊥) → (if b then xs else ys) ≡ ys
untaken true xs ys h = absurd (h refl)
untaken false xs ys h = refl

-- two numbers, where the second isn't 1
pub both_numbers : (m n : ℕ) → (n ≡ 1 → ⊥) → pair_text m n ≡ codes "[" ++ (decimal m ++ (codes "," ++ (decimal n ++ codes "]")))
both_numbers m n other =
    untaken (n == 1) _ _ (λ h. other (grind (arith, nat_tests)))
    ∙ append_assoc (codes "[" ++ decimal m ++ codes ",") (decimal n) (codes "]")
    ∙ append_assoc (codes "[" ++ decimal m) (codes ",") (decimal n ++ codes "]")
    ∙ append_assoc (codes "[") (decimal m) (codes "," ++ (decimal n ++ codes "]"))

-- what a write of a whole line leaves
pub takes_line : {T E : Type 0} (a b : Option (List ℕ)) (f g : ℕ) (xs : List ℕ) (r : Result T E)
    → OnOk r (Appends a b xs) → TakesPrefix a b xs → HasCause f g r → TakesLine a b (Rose f g) xs
takes_line a b f g xs (Ok v) all prefix cause = record { prefix = prefix; whole = λ _. all }
takes_line a b f g xs (Err e) all prefix cause = record { prefix = prefix; whole = λ no. absurd (no cause.failed) }

-- a list that isn't empty is its first element and the rest
cut : {X : Type 0} (xs : List X) (d : X) → 1 ≤ length xs → xs ≡ get_or xs 0 d ∷ take (length xs - 1) (drop 1 xs)
cut [] d some = absurd (omega (arith, some))
cut (x ∷ xs) d some = ap (λ (ys : List _). x ∷ ys) (sym (take_rest (x ∷ xs) 1))

-- what is shown of the first element and the rest holds of the list
pub of_first : {X : Type 0} (text : List X → List ℕ) (a b : Option (List ℕ)) (xs : List X) (d : X) → 1 ≤ length xs
    → TakesPrefix a b (text (get_or xs 0 d ∷ take (length xs - 1) (drop 1 xs))) → TakesPrefix a b (text xs)
of_first text a b xs d some prefix = subst (λ (ys : List _). TakesPrefix a b (text ys)) (sym (cut xs d some)) prefix
