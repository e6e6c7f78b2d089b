-- The pieces of a text, what was read of them, and the kernel.
use Rattle.std.proofs.Common.{◌≡◌, ℕ, ◌+◌, List, [], ◌∷◌, refl, ap, sym, ◌∙◌, subst, arith, length, map, drop, Bor, Err}
use Rattle.std.specs.List.{sum_by}
use Rattle.std.proofs.lemmas.List.Sums.{sum_by-cons}
use Rattle.std.proofs.lemmas.List.{length-append}
use Rattle.readings.specs.Exactly.{StopsAt, Answers, Refuses}
use Rattle.readings.specs.declared.error.ReadError.{ReadError}
use Rattle.readings.specs.declared.error.ReadError.TheVariants.{Refused}
use Rattle.kernel_tree.specs.Pieces.{joined}
use Rattle.kernel_tree.specs.KernelText.{Piece, Notes, kernels, start, nothing}
use Rattle.kernel_reader.specs.Views.{bytes_of}

pub no_rest : {A : Type 0} (xs : List A) → xs ≡ drop 1 xs → xs ≡ []
no_rest [] e = refl
no_rest (x ∷ xs) e = absurd (let w = ap length e in omega (arith, w))

-- ---- lengths

pub lengths : (ps : List (Bor (List ℕ))) → sum_by (λ (p : Bor (List ℕ)). length (bytes_of p)) ps ≡ length (joined (map bytes_of ps))
lengths [] = refl
lengths (p ∷ ps) =
    sum_by-cons (λ (p : Bor (List ℕ)). length (bytes_of p)) p ps
    ∙ ap (λ n. length p.now + n) (lengths ps)
    ∙ sym (length-append p.now (joined (map bytes_of ps)))

pub whole_length : (bytes : List ℕ) (ps : List (Bor (List ℕ))) → bytes ≡ joined (map bytes_of ps) → sum_by (λ (p : Bor (List ℕ)). length (bytes_of p)) ps ≡ length bytes
whole_length bytes ps h = lengths ps ∙ sym (ap length h)

-- ---- readings
stops_from_nothing : (name : Piece) (n : Notes) (ps qs : List (Bor (List ℕ))) (i : ℕ) → n ≡ nothing → ps ≡ qs → StopsAt kernels (start name) n (map bytes_of ps) i → StopsAt kernels (start name) nothing (map bytes_of qs) i
stops_from_nothing name n ps qs i e f r = subst (λ z. StopsAt kernels (start name) nothing (map bytes_of z) i) f (subst (λ z. StopsAt kernels (start name) z (map bytes_of ps) i) e r)

pub not_answered : {A N : Type 0} (noted : A → N) (n : N) (e : ReadError) (i : ℕ) → e ≡ Refused i → Answers noted n (Err e) → ⊥
not_answered noted n e i w a = subst (λ z. Answers noted n (Err z)) w a

pub stops_at : (name : Piece) (n : Notes) (ps qs : List (Bor (List ℕ))) (e : ReadError) (i : ℕ) → e ≡ Refused i → n ≡ nothing → ps ≡ qs → Refuses kernels (start name) n (map bytes_of ps) e → StopsAt kernels (start name) nothing (map bytes_of qs) i
stops_at name n ps qs e i w a f r = stops_from_nothing name n ps qs i a f (subst (λ z. Refuses kernels (start name) n (map bytes_of ps) z) w r)
