-- The text of kernels in order, one kernel at a time.
use Rattle.std.proofs.Common.{◌≡◌, ℕ, suc, ◌+◌, ◌<◌, List, [], ◌∷◌, ◌++◌, length, map, drop, get_or, refl, ap, sym, ◌∙◌, subst, arith}
use Rattle.std.proofs.lemmas.List.{append_assoc, append-nil, drop_more}
use Rattle.kernel_tree.specs.declared.tree.Kernel.{Kernel}
use Rattle.kernel_tree.specs.Kernels.{kernel_of}
use Rattle.kernel_tree.specs.KernelText.{IsKernelText}
use Rattle.kernel_spelling.specs.SequenceText.{AreTexts, name_of}

-- what is left to come behind the text of the kernels before the i-th
abbrev pub Behind : (ks : List Kernel) (text : List ℕ) (i : ℕ) → Type 0
Behind ks text i =
    (rest : List ℕ) → AreTexts i rest (map kernel_of (drop i ks)) → AreTexts 0 (text ++ rest) (map kernel_of ks)

pub one_more : (ks : List Kernel) (text own new name : List ℕ) (i : ℕ) (k : Kernel) → i < length ks → k ≡ get_or ks i k → new ≡ text ++ own → name ≡ name_of i → IsKernelText name own (kernel_of k) → Behind ks text i → Behind ks new (i + 1)
one_more ks text own new name i k inside at put named own_text held = λ rest h.
    let here : drop i ks ≡ k ∷ drop (i + 1) ks = drop_more ks i k inside ∙ ap (λ z. z ∷ drop (i + 1) ks) (sym at) in
    let named_text : IsKernelText (name_of i) own (kernel_of k) = subst (λ z. IsKernelText z own (kernel_of k)) named own_text in
    let later : AreTexts (suc i) rest (map kernel_of (drop (i + 1) ks)) = subst (λ z. AreTexts z rest (map kernel_of (drop (i + 1) ks))) (let w : i + 1 ≡ suc i = omega arith in w) h in
    let both : AreTexts i (own ++ rest) (map kernel_of (drop i ks)) = subst (λ (z : List Kernel). AreTexts i (own ++ rest) (map kernel_of z)) (sym here) (own, rest, refl, named_text, later) in
    subst (λ z. AreTexts 0 z (map kernel_of ks)) (sym (ap (λ z. z ++ rest) put ∙ append_assoc text own rest)) (held (own ++ rest) both)

none_left : (ks : List Kernel) (i : ℕ) → length ks ≡ i → drop i ks ≡ []
none_left [] i e = ap (λ n. drop n []) (sym e)
none_left (k ∷ ks) i e = ap (λ n. drop n (k ∷ ks)) (sym e) ∙ none_left ks (length ks) refl

pub all_put : (ks : List Kernel) (text : List ℕ) (i : ℕ) → length ks ≡ i → Behind ks text i → AreTexts 0 text (map kernel_of ks)
all_put ks text i e held =
    let none : AreTexts i [] (map kernel_of (drop i ks)) = subst (λ (z : List Kernel). AreTexts i [] (map kernel_of z)) (sym (none_left ks i e)) refl in
    subst (λ z. AreTexts 0 z (map kernel_of ks)) (append-nil text) (held [] none)
