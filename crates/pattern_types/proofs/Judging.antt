-- How the judgement of what is known comes out: the answer, where a fact
-- holds, or a limit, where it doesn't.
use Rattle.std.proofs.Common.{◌≡◌, ℕ, ◌≤◌, ◌<◌, List, length, refl, sym, ap, ◌∙◌, subst, arith, Bool, true, false}
use Rattle.std.specs.Prelude.{IsTrue, Result, Ok, Err, if◌then◌else◌, nat_lt}
use Rattle.std.proofs.lemmas.Bool.Decides.{nat_tests}
use Rattle.size_arith.specs.declared.poly.Monomial.{Monomial}
use Rattle.size_arith.specs.declared.poly.PolyNo.TheVariants as no
use Rattle.size_arith.specs.Polynomial.{degree, greatest, AllLow}
use Rattle.lift_tree.specs.Limits.{IsSmall}
use Rattle.pattern_types.specs.declared.refusal.Rule.{Rule}
use Rattle.pattern_types.specs.declared.refusal.TypeLimit.{TypeLimit}
use Rattle.pattern_types.specs.declared.fault.Fault.{Fault}
use Rattle.pattern_types.specs.declared.fault.Fault.TheVariants.{Breaks, Passes, Memory}
use Rattle.pattern_types.specs.declared.fault.NodeFault.{NodeFault}
use Rattle.pattern_types.specs.Judged.{and_then, demand, at_most, counted, faulty, within, here, under}
use Rattle.pattern_types.proofs.Results.{low_upto}

abbrev pub done : Unit {0}
done = tt

abbrev pub itself : Fault → Fault
itself f = f

abbrev pub of_node : NodeFault → Fault
of_node f = f.fault

-- a limit is passed, where the fact doesn't hold
abbrev pub Refuses : Type 0 → Fault → Type 0
Refuses w (Breaks r) = ⊥
Refuses w (Passes l n) = ¬ w
Refuses w Memory = ⊥

abbrev pub Comes : {A E : Type 0} → (E → Fault) → Type 0 → A → Result A E → Type 0
Comes of w a (Ok b) = (b ≡ a) × w
Comes of w a (Err e) = Refuses w (of e)

-- the answer is this one, and the fact holds; or a limit is passed, and it doesn't
pub record Judges {A E : Type 0} (of : E → Fault) (w : Type 0) (a : A) (r : Result A E) : Type 0 where
  pub comes : Comes of w a r

refuses_less : {w v : Type 0} → (v → w) → (f : Fault) → Refuses w f → Refuses v f
refuses_less g (Breaks r) h = h
refuses_less g (Passes l n) h = λ v. h (g v)
refuses_less g Memory h = h

comes_same : {A E : Type 0} (of : E → Fault) (w v : Type 0) (a : A) (r : Result A E) → Comes of w a r → (w → v) → (v → w) → Comes of v a r
comes_same of w v a (Ok b) h f g = (h.0, f h.1)
comes_same of w v a (Err e) h f g = refuses_less g (of e) h

-- the same of an equivalent fact
pub judges_same : {A E : Type 0} {of : E → Fault} {w v : Type 0} {a : A} {r : Result A E} → Judges of w a r → (w → v) → (v → w) → Judges of v a r
judges_same {of = of} {w = w} {v = v} {a = a} {r = r} h f g = record { comes = comes_same of w v a r h.comes f g }

comes_as : {A E : Type 0} (of : E → Fault) (w : Type 0) (a c : A) (r : Result A E) → Comes of w a r → (r ≡ Ok a → a ≡ c) → Comes of w c r
comes_as of w a c (Ok b) h f = (h.0 ∙ f (ap Ok h.0), h.1)
comes_as of w a c (Err e) h f = h

-- the same of an equal answer
pub judges_as : {A E : Type 0} {of : E → Fault} {w : Type 0} {a c : A} {r : Result A E} → Judges of w a r → (r ≡ Ok a → a ≡ c) → Judges of w c r
judges_as {of = of} {w = w} {a = a} {c = c} {r = r} h f = record { comes = comes_as of w a c r h.comes f }

pub answers : {A E : Type 0} {of : E → Fault} {a c : A} → a ≡ c → Judges of (Unit {0}) c (Ok a)
answers e = record { comes = (e, tt) }

comes_known : {B E : Type 0} (of : E → Fault) (w v : Type 0) (b : B) (r : Result B E) → w → Comes of v b r → Comes of (w × v) b r
comes_known of w v b (Ok c) x h = (h.0, (x, h.1))
comes_known of w v b (Err e) x h = refuses_less (λ (p : w × v). p.1) (of e) h

comes_then : {A B E : Type 0} (of : E → Fault) (w v : Type 0) (a : A) (b : B) (r : Result A E) (f : A → Result B E) → Comes of w a r → (r ≡ Ok a → w → Judges of v b (f a)) → Comes of (w × v) b (and_then r f)
comes_then of w v a b (Ok c) f h k = comes_known of w v b (f c) h.1 (subst (λ z. Comes of v b (f z)) (sym h.0) (k (ap Ok h.0) h.1).comes)
comes_then of w v a b (Err e) f h k = refuses_less (λ (p : w × v). p.0) (of e) h

-- one judgement after another
pub judges_then : {A B E : Type 0} {of : E → Fault} {w v : Type 0} {a : A} {b : B} {r : Result A E} (f : A → Result B E) → Judges of w a r → (r ≡ Ok a → w → Judges of v b (f a)) → Judges of (w × v) b (and_then r f)
judges_then {of = of} {w = w} {v = v} {a = a} {b = b} {r = r} f h k = record { comes = comes_then of w v a b r f h.comes k }

-- ---- three and four facts in a row
pub judges_alone : {A E : Type 0} {of : E → Fault} {w : Type 0} {a : A} {r : Result A E} → Judges of (w × Unit {0}) a r → Judges of w a r
judges_alone h = judges_same h (λ x. x.0) (λ x. (x, tt))

pub judges_three : {A E : Type 0} {of : E → Fault} {u v w : Type 0} {a : A} {r : Result A E} → Judges of (u × (v × w)) a r → Judges of (u × v × w) a r
judges_three h = judges_same h (λ x. (x.0, x.1.0, x.1.1)) (λ x. (x.0, (x.1, x.2)))

pub judges_four : {A E : Type 0} {of : E → Fault} {t u v w : Type 0} {a : A} {r : Result A E} → Judges of (t × (u × (v × w))) a r → Judges of (t × u × v × w) a r
judges_four h = judges_same h (λ x. (x.0, x.1.0, x.1.1.0, x.1.1.1)) (λ x. (x.0, (x.1, (x.2, x.3))))

-- ---- single steps
pub judges_here : {A : Type 0} {w : Type 0} {a : A} {r : Result A Fault} → Judges itself w a r → Judges of_node w a (here r)
judges_here {A = A} {w = w} {a = a} {r = r} h = record { comes = go r h.comes }
  where
    go : (r : Result A Fault) → Comes itself w a r → Comes of_node w a (here r)
    go (Ok b) c = c
    go (Err e) c = c

pub judges_under : {A : Type 0} {w : Type 0} {a : A} {r : Result A NodeFault} (i : ℕ) → Judges of_node w a r → Judges of_node w a (under i r)
judges_under {A = A} {w = w} {a = a} {r = r} i h = record { comes = go r h.comes }
  where
    go : (r : Result A NodeFault) → Comes of_node w a r → Comes of_node w a (under i r)
    go (Ok b) c = c
    go (Err e) c = c

pub judges_demand : {B : Type 0} {v : Type 0} {b : B} (t : Bool) (r : Rule) (f : Unit {0} → Result B Fault) → IsTrue t → Judges itself v b (f tt) → Judges itself v b (and_then (demand t r) f)
judges_demand true r f h k = k
judges_demand false r f h k = absurd (cc)

pub judges_at_most : (most : ℕ) (l : TypeLimit) (n : ℕ) → Judges itself (n ≤ most) done (at_most most l n)
judges_at_most most l n = record { comes = go (nat_lt most n) refl }
  where
    go : (b : Bool) → nat_lt most n ≡ b → Comes itself (n ≤ most) done (if b then Err (Passes l n) else Ok done)
    go true e = λ h. let k : most < n = grind (arith, nat_tests) in omega arith
    go false e = (refl, grind (arith, nat_tests))

pub judges_counted : (l : TypeLimit) (n : ℕ) → Judges itself (n ≤ 4) done (at_most 4 l (counted n))
judges_counted l n = judges_same (judges_at_most 4 l (counted n)) (λ h. omega arith) (λ h. omega arith)

pub judges_within : (p : List Monomial) → Judges itself (IsSmall p) p (within p)
judges_within p = record { comes = go (nat_lt 32 (length p)) (nat_lt 4 (degree p)) (nat_lt 4294967296 (greatest p)) refl refl refl }
  where
    go : (a b c : Bool) → nat_lt 32 (length p) ≡ a → nat_lt 4 (degree p) ≡ b → nat_lt 4294967296 (greatest p) ≡ c
        → Comes itself (IsSmall p) p (faulty (if a then Err (no.Terms (length p)) else (if b then Err (no.Degree (degree p)) else (if c then Err (no.Coefficient (greatest p)) else Ok p))))
    go true b c e f g = λ h. let i = h.terms in let k : 32 < length p = grind (arith, nat_tests) in omega arith
    go false true c e f g = λ h. let i = h.degree in let k : 4 < degree p = grind (arith, nat_tests) in omega arith
    go false false true e f g = λ h. let i = h.coefficients in let k : 4294967296 < greatest p = grind (arith, nat_tests) in omega arith
    go false false false e f g = (refl, record { terms = grind (arith, nat_tests); degree = grind (arith, nat_tests); coefficients = grind (arith, nat_tests) })

pub low_small : (p : List Monomial) → IsSmall p → AllLow 4 p
low_small p h = low_upto 4 p h.degree
