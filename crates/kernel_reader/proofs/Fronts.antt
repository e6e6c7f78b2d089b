-- The kernel at the front of pieces.
use Rattle.std.proofs.Common.{◌≡◌, ℕ, zero, suc, ◌<◌, List, [], ◌∷◌, ◌++◌, length, take, drop, refl, ap, sym, ◌∙◌, subst, arith}
use Rattle.std.specs.Prelude.{◌≢◌, IfErr, Result, Ok, Err}
use Rattle.std.proofs.Math.Seq.{take-length}
use Rattle.std.proofs.lemmas.List.{append-nil, length-take-le, take-append-drop}
use Rattle.readings.specs.Readings.{Reads}
use Rattle.readings.specs.Exactly.{StopsAt}
use Rattle.readings.proofs.Exact.{last-only}
use Rattle.kernel_tree.specs.Code.{Kernel}
use Rattle.kernel_tree.specs.KernelText.{Piece, all_of, kernels, nothing, start}
use Rattle.kernel_spelling.specs.Rows.{table}
use Rattle.kernel_spelling.specs.Decided.{decided}
use Rattle.kernel_spelling.specs.SequenceText.{FrontsAreOfOneKernel, FrontsAreRefusedBehind}
use Rattle.readings.specs.declared.error.ReadError.{ReadError}
use Rattle.readings.specs.declared.error.ReadError.TheVariants.{Memory, Refused}
use Rattle.kernel_reader.specs.declared.sequence.Front.{Front}
use Rattle.kernel_reader.specs.Sequences.{FrontIs, IsFront, StopsIn}

-- these pieces are all of this kernel's
abbrev Is : Piece → List Piece → Kernel → Type 0
Is name own k = Reads kernels (start name) nothing own [] (all_of k)

pub one_front : FrontsAreOfOneKernel → (name : Piece) (ps : List Piece) (i j : ℕ) (x y : Kernel) → IsFront name ps i x → IsFront name ps j y → (i ≡ j) × (x ≡ y)
one_front law name ps i j x y f g =
    let w = law name (take i ps) (take j ps) (drop i ps) (drop j ps) x y f.reads g.reads (take-append-drop i ps ∙ sym (take-append-drop j ps)) in
    (sym (length-take-le i ps f.inside) ∙ ap length w.0 ∙ length-take-le j ps g.inside, w.1)

pub whole_front : (name : Piece) (ps : List Piece) (n : ℕ) (k : Kernel) → n ≡ length ps → Is name ps k → IsFront name ps n k
whole_front name ps n k e r = record {
  inside = omega arith;
  reads = subst (λ z. Is name z k) (sym (ap (λ m. take m ps) e ∙ take-length ps)) r;
}

-- a kernel has a piece
pub some_own : (name : Piece) (ps : List Piece) (own : ℕ) (k : Kernel) → IsFront name ps own k → 0 < own
some_own name ps own k f = at_own own refl
  where
    none : (qs : List Piece) → qs ≡ [] → Is name qs k → ⊥
    none qs e r = (let w = last-only kernels table decided r e refl in cc (w))

    at_own : (n : ℕ) → own ≡ n → 0 < own
    at_own zero e = absurd (none (take own ps) (ap (λ m. take m ps) e) f.reads)
    at_own (suc n) e = omega arith

-- where not all pieces are a kernel's, it ends before the first that is refused
pub only_before : FrontsAreRefusedBehind → (name : Piece) (ps : List Piece) (i : ℕ) → StopsAt kernels (start name) nothing ps i
    → ((k : Kernel) → Is name ps k → ⊥) → (own : ℕ) (k : Kernel) → IsFront name ps own k → own ≡ i
only_before law name ps i s all own k f = at_rest (drop own ps) refl
  where
    at_rest : (rest : List Piece) → drop own ps ≡ rest → own ≡ i
    at_rest [] e =
        let same : take own ps ≡ ps = sym (append-nil (take own ps)) ∙ ap (λ z. take own ps ++ z) (sym e) ∙ take-append-drop own ps in
        absurd (all k (subst (λ z. Is name z k) same f.reads))
    at_rest (p ∷ rest) e =
        let some : 0 < length (drop own ps) = (let w : length (drop own ps) ≡ suc (length rest) = ap length e in omega (arith, w)) in
        let stops : StopsAt kernels (start name) nothing (take own ps ++ drop own ps) i = subst (λ z. StopsAt kernels (start name) nothing z i) (sym (take-append-drop own ps)) s in
        sym (length-take-le own ps f.inside) ∙ sym (law name (take own ps) (drop own ps) k i f.reads some stops)

-- a refusal where it is the one place at which a kernel may end
pub refused_front : (name : Piece) (ps : List Piece) (i : ℕ) (r : Result Front ReadError) → StopsAt kernels (start name) nothing ps i
    → IfErr r (λ e. e ≢ Memory → e ≡ Refused i) → ((own : ℕ) (k : Kernel) → IsFront name ps own k → FrontIs own k r) → IfErr r (StopsIn name ps)
refused_front name ps i (Ok f) s h only = tt
refused_front name ps i (Err Memory) s h only = tt
refused_front name ps i (Err (Refused j)) s h only =
    let e : Refused j ≡ Refused i = h (λ w. cc (w)) in
    let same : j ≡ i = cc (e) in
    (subst (λ z. StopsAt kernels (start name) nothing ps z) (sym same) s, only)
