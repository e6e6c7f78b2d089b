-- Stages that each come to one end come to one end together.
use Rattle.std.proofs.Common.{◌≡◌, ◌∙◌, ap, sym, subst, refl, Result, Ok, Err, inl, inr}
use Rattle.stages.specs.Stages.{As, Gives, IsOne, Then}

pub ok_same : {A E : Type 0} (r : Result A E) (a b : A) → r ≡ Ok a → r ≡ Ok b → a ≡ b
ok_same r a b h k = cc (h, k)

pub err_same : {A E : Type 0} (r : Result A E) (e f : E) → r ≡ Err e → r ≡ Err f → e ≡ f
err_same r e f h k = cc (h, k)

pub then_one : {A B E : Type 0} (R : Result A E → Type 0) (S : A → Result B E → Type 0) → IsOne R → ((a : A) → R (Ok a) → IsOne (S a)) → IsOne (Then R S)
then_one R S one next (Ok b) (Ok c) h k =
    let same = ok_same _ h.0 k.0 refl (one (Ok h.0) (Ok k.0) h.1 k.1) in
    next k.0 k.1 (Ok b) (Ok c) (subst (λ a. S a (Ok b)) same h.2) k.2
then_one R S one next (Ok b) (Err e) h (inl k) = absurd (cc (one (Ok h.0) (Err e) h.1 k))
then_one R S one next (Ok b) (Err e) h (inr k) =
    let same = ok_same _ h.0 k.0 refl (one (Ok h.0) (Ok k.0) h.1 k.1) in
    next k.0 k.1 (Ok b) (Err e) (subst (λ a. S a (Ok b)) same h.2) k.2
then_one R S one next (Err e) (Ok c) (inl h) k = absurd (cc (one (Err e) (Ok k.0) h k.1))
then_one R S one next (Err e) (Ok c) (inr h) k =
    let same = ok_same _ h.0 k.0 refl (one (Ok h.0) (Ok k.0) h.1 k.1) in
    next k.0 k.1 (Err e) (Ok c) (subst (λ a. S a (Err e)) same h.2) k.2
then_one R S one next (Err e) (Err f) (inl h) (inl k) = ap Err (err_same _ e f refl (one (Err e) (Err f) h k))
then_one R S one next (Err e) (Err f) (inl h) (inr k) = absurd (cc (one (Err e) (Ok k.0) h k.1))
then_one R S one next (Err e) (Err f) (inr h) (inl k) = absurd (cc (one (Ok h.0) (Err f) h.1 k))
then_one R S one next (Err e) (Err f) (inr h) (inr k) =
    let same = ok_same _ h.0 k.0 refl (one (Ok h.0) (Ok k.0) h.1 k.1) in
    next k.0 k.1 (Err e) (Err f) (subst (λ a. S a (Err e)) same h.2) k.2

pub as_one : {A E F : Type 0} (tell : E → F) (R : Result A E → Type 0) → IsOne R → IsOne (As tell R)
as_one tell R one (Ok a) (Ok b) h k = ap Ok (ok_same _ a b refl (one (Ok a) (Ok b) h k))
as_one tell R one (Ok a) (Err f) h k = absurd (cc (one (Ok a) (Err k.0) h k.1))
as_one tell R one (Err e) (Ok b) h k = absurd (cc (one (Err h.0) (Ok b) h.1 k))
as_one tell R one (Err e) (Err f) h k = ap Err (h.2 ∙ ap tell (err_same _ h.0 k.0 refl (one (Err h.0) (Err k.0) h.1 k.1)) ∙ sym k.2)

pub gives_one : {A E : Type 0} (a : A) → IsOne (Gives {A = A} {E = E} a)
gives_one a r s h k = h ∙ sym k

pub equal_one : {A : Type 0} (x : A) → IsOne (λ (r : A). x ≡ r)
equal_one x r s h k = sym h ∙ k
