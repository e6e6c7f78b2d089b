-- Binders beyond the nearest, and what stands for a let of an array.
use Rattle.std.proofs.Common.{◌≡◌, ℕ, zero, suc, ◌+◌, ◌-◌, ◌<◌, ap, ◌∙◌, arith}
use Rattle.kernel_tree.specs.Formula.{Formula}
use Rattle.lift_ir.specs.Terms.{Term, LetArray, push}
use Rattle.printed_form.specs.Arguments.{CopyArrays, argument_view}
use Rattle.printed_form.specs.Views.{View}

pub past : {A : Type 0} → (x : A) (env : ℕ → A) (n : ℕ) → 0 < n → push x env n ≡ env (n - 1)
past x env zero h = absurd (omega arith)
past x env (suc n) h = ap env (let e : n ≡ suc n - 1 = omega arith in e)

pub let_stands : {A : Type 0} → (arrays : CopyArrays A) (spell : A → Formula) (ins env : ℕ → View) (k m n : ℕ) (v b : Term A) (x y : View)
    → m ≡ arrays.count v → n ≡ k + m → x ≡ argument_view arrays spell ins env k v
    → y ≡ argument_view arrays spell ins (push x env) n b
    → y ≡ argument_view arrays spell ins env k (LetArray v b)
let_stands arrays spell ins env k m n v b x y e f g h =
    h
    ∙ ap (λ z. argument_view arrays spell ins (push z env) n b) g
    ∙ ap (λ z. argument_view arrays spell ins (push (argument_view arrays spell ins env k v) env) z b) (f ∙ ap (λ z. k + z) e)
