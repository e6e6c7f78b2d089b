-- What holds of each fault that judging a row of the table answers.
use Rattle.std.proofs.Common.{◌≡◌, ℕ, ◌*◌, ◌<◌, List, [], ◌∷◌, length, refl, sym, ap, ◌∙◌, subst, arith, Bool, true, false, Some, None, inl, inr}
use Rattle.std.specs.Prelude.{IsTrue, ◌&&◌, Result, Ok, Err, Option, if◌then◌else◌, nat_lt}
use Rattle.std.proofs.lemmas.Bool.{and_from}
use Rattle.std.proofs.lemmas.Bool.Decides.{nat_tests}
use Rattle.size_arith.specs.declared.names.Name.{Name}
use Rattle.size_arith.specs.declared.poly.Monomial.{Monomial}
use Rattle.size_arith.specs.declared.poly.PolyNo.TheVariants as no
use Rattle.size_arith.specs.Polynomial.{of_monomial, times, degree, greatest, AllLow}
use Rattle.size_arith.specs.Shown.{ShownAtLeast, largest}
use Rattle.size_arith.specs.Decisions.{is_shown, is_same}
use Rattle.size_arith.proofs.Decisions.{decides_shown, decides_same}
use Rattle.lift_tree.specs.declared.length.Factor.{Factor}
use Rattle.lift_tree.specs.declared.term.Operator.{Operator}
use Rattle.lift_tree.specs.declared.term.UnaryForm.{UnaryForm}
use Rattle.lift_tree.specs.declared.term.BinaryForm.{BinaryForm}
use Rattle.lift_tree.specs.declared.term.BinaryForm.TheVariants as binary
use Rattle.scalar_ops.specs.declared.op.Reducer.{Reducer}
use Rattle.lift_tree.specs.Limits.{arrays, components}
use Rattle.lift_tree.specs.Types.{PlainTy, U32, U32x4, PairOf, ArrayOf, IsElement, is_element}
use Rattle.lift_tree.specs.Typing.{constant, IsNumeric, is_lane_operator}
use Rattle.lift_tree.specs.WorkedOut.{factor_monomial}
use Rattle.pattern_types.specs.declared.refusal.Rule.{Rule}
use Rattle.pattern_types.specs.declared.refusal.Rule.TheVariants as rule
use Rattle.pattern_types.specs.declared.refusal.TypeLimit.{TypeLimit}
use Rattle.pattern_types.specs.declared.refusal.TypeLimit.TheVariants as limit
use Rattle.pattern_types.specs.declared.fault.Fault.{Fault}
use Rattle.pattern_types.specs.declared.fault.Fault.TheVariants.{Breaks, Passes}
use Rattle.pattern_types.specs.Judged as judged
use Rattle.pattern_types.specs.Judged.{and_then, demand, at_most, counted, faulty, within, product_judged, scalars_judged, number_row, numeric_row, lanes_row, operator_row, zip_row, reduce_row, binary_row, select_row, element_in, map_end, fold_start, fold_end}
use Rattle.pattern_types.specs.Refusals.{Any, most, CountsLength, CountsInside, CountsArray, Formed, formed, IsFault, products_along, IsArray, unary_rule, UnaryDemand, unary_formed, unary_lengths, UnaryFault, OperatorDemand, binary_rule, BinaryDemand, binary_formed, BinaryFault, RuleFault}
use Rattle.pattern_types.specs.Tests.{is_same_element}
use Rattle.pattern_types.proofs.Results.{within_ok, demand_ok}
use Rattle.pattern_types.proofs.Judging.{done}
use Rattle.pattern_types.proofs.Table.{IsGood, constant_low, same_element}
use Rattle.pattern_types.proofs.Forms.{same_array, element_is}

-- it holds of the error, if there is one
pub record Faults {A E : Type 0} (Q : E → Type 0) (r : Result A E) : Type 0 where
  pub faults : (e : E) → r ≡ Err e → Q e

abbrev no_ : {E : Type 0} (A : Type 0) → E → Result A E
no_ A e = Err e

same_err : {E : Type 0} (A : Type 0) (e f : E) → no_ A e ≡ Err f → e ≡ f
same_err A e f h = cc

pub none : {A E : Type 0} {Q : E → Type 0} (a : A) → Faults Q (Ok a)
none a = record { faults = λ e h. absurd (cc) }

pub one : {A E : Type 0} {Q : E → Type 0} (e : E) → Q e → Faults {A = A} Q (Err e)
one {A = A} {Q = Q} e q = record { faults = λ f h. subst Q (same_err A e f h) q }

pub faults_then : {A B E : Type 0} {Q : E → Type 0} {r : Result A E} (f : A → Result B E) → Faults Q r → ((a : A) → r ≡ Ok a → Faults Q (f a)) → Faults Q (and_then r f)
faults_then {A = A} {B = B} {E = E} {Q = Q} {r = r} f h k = go r h k
  where
    go : (r : Result A E) → Faults Q r → ((a : A) → r ≡ Ok a → Faults Q (f a)) → Faults Q (and_then r f)
    go (Ok a) h k = k a refl
    go (Err e) h k = one e (h.faults e refl)

pub not_false : (b : Bool) → IsTrue b → b ≡ false → ⊥
not_false true h e = absurd (cc)
not_false false h e = absurd (cc)

pub demand_faults : {Q : Fault → Type 0} (b : Bool) (s : Rule) → (b ≡ false → Q (Breaks s)) → Faults Q (demand b s)
demand_faults true s h = none tt
demand_faults false s h = one (Breaks s) (h refl)

at_most_faults : {Q : Fault → Type 0} (m : ℕ) (l : TypeLimit) (n : ℕ) → (m < n → Q (Passes l n)) → Faults Q (at_most m l n)
at_most_faults {Q = Q} m l n h = go (nat_lt m n) refl
  where
    go : (b : Bool) → nat_lt m n ≡ b → Faults Q (if b then Err (Passes l n) else Ok done)
    go true e = one (Passes l n) (h (grind (arith, nat_tests)))
    go false e = none done

pub within_faults : {Q : Fault → Type 0} (p : List Monomial) → ((l : TypeLimit) (c : ℕ) → most l < c → CountsLength l c p → Q (Passes l c)) → Faults Q (within p)
within_faults {Q = Q} p k = go (nat_lt 32 (length p)) (nat_lt 4 (degree p)) (nat_lt 4294967296 (greatest p)) refl refl refl
  where
    go : (a b c : Bool) → nat_lt 32 (length p) ≡ a → nat_lt 4 (degree p) ≡ b → nat_lt 4294967296 (greatest p) ≡ c
        → Faults Q (faulty (if a then Err (no.Terms (length p)) else (if b then Err (no.Degree (degree p)) else (if c then Err (no.Coefficient (greatest p)) else Ok p))))
    go true b c e f g = one (Passes limit.Terms (length p)) (k limit.Terms (length p) (grind (arith, nat_tests)) refl)
    go false true c e f g = one (Passes limit.Degree (degree p)) (k limit.Degree (degree p) (grind (arith, nat_tests)) refl)
    go false false true e f g = one (Passes limit.Coefficient (greatest p)) (k limit.Coefficient (greatest p) (grind (arith, nat_tests)) refl)
    go false false false e f g = none p

scalars_faults : {Q : Fault → Type 0} (names : List Name) (p : List Monomial) (a : PlainTy) → ((l : TypeLimit) (c : ℕ) → most l < c → CountsInside names l c p a → Q (Passes l c)) → Faults Q (scalars_judged names p a)
scalars_faults names p U32 k = at_most_faults 2147483647 limit.Scalars (largest names p) (λ m. k limit.Scalars (largest names p) m (refl, refl))
scalars_faults names p U32x4 k = at_most_faults 2147483647 limit.Scalars (4 * largest names p) (λ m. k limit.Scalars (4 * largest names p) m (refl, refl))
scalars_faults names p (PairOf a b) k =
    faults_then _ (scalars_faults names p a (λ l c m h. k l c m (inl h))) (λ u e. scalars_faults names p b (λ l c m h. k l c m (inr h)))
scalars_faults {Q = Q} names p (ArrayOf a n) k =
    faults_then _ (within_faults (times p n) (λ l c m h. k l c m (inl h))) (λ q e.
    subst (λ z. Faults Q (scalars_judged names z a)) (within_ok (times p n) q e).0 (scalars_faults names (times p n) a (λ l c m h. k l c m (inr h))))

formed_faults : {Q : Fault → Type 0} (names : List Name) (a : PlainTy) (n : List Monomial) → AllLow 4 n
    → (¬ ShownAtLeast 1 names n → Q (Breaks rule.Length)) → ((l : TypeLimit) (c : ℕ) → most l < c → CountsArray names l c (formed a n) → Q (Passes l c))
    → Faults Q (judged.formed names a n)
formed_faults names a n low short k =
    faults_then _ (demand_faults (is_shown 1 names n) rule.Length (λ e. short (λ s. not_false _ ((decides_shown 1 names n low).1 s) e))) (λ u x.
    faults_then _ (at_most_faults 4 limit.Arrays (counted (arrays (ArrayOf a n))) (λ m. k limit.Arrays _ m (inl refl))) (λ v y.
    faults_then _ (at_most_faults 4 limit.Components (counted (length (components a))) (λ m. k limit.Components _ m (inl refl))) (λ w z.
    faults_then _ (scalars_faults names n a (λ l c m h. k l c m (inr h))) (λ t o. none (ArrayOf a n)))))

-- ---- what is among the arrays and lengths of a row
pub array_faults : (names : List Name) (r : Option Rule) (D : Type 0) (made : List Formed) (ps : List (List Monomial)) (a : PlainTy) (n : List Monomial) → AllLow 4 n → D
    → ((P : Formed → Type 0) → P (formed a n) → Any P made) → Faults (IsFault names r D made ps) (judged.formed names a n)
array_faults names r D made ps a n low d there =
    formed_faults names a n low (λ s. inr (refl, d, there (λ (x : Formed). ¬ ShownAtLeast 1 names x.length) s)) (λ l c m h. (m, inl (there (CountsArray names l c) h)))

pub length_faults : (names : List Name) (r : Option Rule) (D : Type 0) (made : List Formed) (ps : List (List Monomial)) (p : List Monomial)
    → ((P : List Monomial → Type 0) → P p → Any P ps) → Faults (IsFault names r D made ps) (within p)
length_faults names r D made ps p there = within_faults p (λ l c m h. (m, inr (there (CountsLength l c) h)))

pub product_faults : {Q : Fault → Type 0} (names : List Name) (p : List Monomial) (fs : List Factor)
    → ((l : TypeLimit) (c : ℕ) → most l < c → Any (CountsLength l c) (products_along names p fs) → Q (Passes l c)) → Faults Q (product_judged names p fs)
product_faults names p [] k = none p
product_faults {Q = Q} names p (f ∷ fs) k =
    let q = times p (of_monomial (factor_monomial names f)) in
    faults_then _ (within_faults q (λ l c m h. k l c m (inl h))) (λ r e.
    subst (λ z. Faults Q (product_judged names z fs)) (within_ok q r e).0 (product_faults names q fs (λ l c m h. k l c m (inr h))))

pub unary_array : (names : List Name) (f : UnaryForm) (b a : PlainTy) (n : List Monomial) → AllLow 4 n → UnaryDemand names f b
    → ((P : Formed → Type 0) → P (formed a n) → Any P (unary_formed names f b)) → Faults (UnaryFault names f b) (judged.formed names a n)
unary_array names f b a n low d there = array_faults names (unary_rule f) (UnaryDemand names f b) (unary_formed names f b) (unary_lengths names f b) a n low d there

pub unary_length : (names : List Name) (f : UnaryForm) (b : PlainTy) (p : List Monomial) → ((P : List Monomial → Type 0) → P p → Any P (unary_lengths names f b)) → Faults (UnaryFault names f b) (within p)
unary_length names f b p there = length_faults names (unary_rule f) (UnaryDemand names f b) (unary_formed names f b) (unary_lengths names f b) p there

binary_array : (names : List Name) (f : BinaryForm) (b c a : PlainTy) (n : List Monomial) → AllLow 4 n → BinaryDemand f b c
    → ((P : Formed → Type 0) → P (formed a n) → Any P (binary_formed f b c)) → Faults (BinaryFault names f b c) (judged.formed names a n)
binary_array names f b c a n low d there = array_faults names (Some (binary_rule f)) (BinaryDemand f b c) (binary_formed f b c) [] a n low d there

-- ---- forms with one child
pub number_faults : {Q : Fault → Type 0} (b : PlainTy) → (¬ (b ≡ U32) → Q (Breaks rule.Operator)) → Faults Q (number_row b)
number_faults U32 k = none U32
number_faults _ k = one (Breaks rule.Operator) (k (λ e. absurd (cc)))

pub numeric_faults : {Q : Fault → Type 0} (b : PlainTy) → (¬ IsNumeric b → Q (Breaks rule.Operator)) → Faults Q (numeric_row b)
numeric_faults U32 k = none U32
numeric_faults U32x4 k = none U32x4
numeric_faults (PairOf a b) k = one (Breaks rule.Operator) (k (λ h. h))
numeric_faults (ArrayOf a n) k = one (Breaks rule.Operator) (k (λ h. h))

-- ---- forms with two children, and select
no_demand : (o : Operator) (b c : PlainTy) → ¬ ((b ≡ U32) × (c ≡ U32)) → ¬ ((is_lane_operator o ≡ true) × IsNumeric b × IsNumeric c) → ¬ OperatorDemand o b c
no_demand o b c h k (inl d) = h d
no_demand o b c h k (inr d) = k d

lanes_faults : (names : List Name) (o : Operator) (b c : PlainTy) → ¬ ((b ≡ U32) × (c ≡ U32)) → Faults (BinaryFault names (binary.Operator o) b c) (lanes_row o)
lanes_faults names o b c h =
    faults_then _ (demand_faults (is_lane_operator o) rule.Operator (λ e. inl (refl, no_demand o b c h (λ d. not_false _ d.0 e)))) (λ u e. none U32x4)

operator_faults : (names : List Name) (o : Operator) (b c : PlainTy) → Faults (BinaryFault names (binary.Operator o) b c) (operator_row o b c)
operator_faults names o U32 U32 = none U32
operator_faults names o U32 U32x4 = lanes_faults names o U32 U32x4 (λ d. let e = d.1 in cc)
operator_faults names o U32x4 U32 = lanes_faults names o U32x4 U32 (λ d. let e = d.0 in cc)
operator_faults names o U32x4 U32x4 = lanes_faults names o U32x4 U32x4 (λ d. let e = d.0 in cc)
operator_faults names o U32 (PairOf c d) = one (Breaks rule.Operator) (inl (refl, no_demand o _ _ (λ e. let f = e.1 in cc) (λ e. e.2)))
operator_faults names o U32 (ArrayOf c n) = one (Breaks rule.Operator) (inl (refl, no_demand o _ _ (λ e. let f = e.1 in cc) (λ e. e.2)))
operator_faults names o U32x4 (PairOf c d) = one (Breaks rule.Operator) (inl (refl, no_demand o _ _ (λ e. let f = e.1 in cc) (λ e. e.2)))
operator_faults names o U32x4 (ArrayOf c n) = one (Breaks rule.Operator) (inl (refl, no_demand o _ _ (λ e. let f = e.1 in cc) (λ e. e.2)))
operator_faults names o (PairOf a b) c = one (Breaks rule.Operator) (inl (refl, no_demand o _ _ (λ e. let f = e.0 in cc) (λ e. e.1)))
operator_faults names o (ArrayOf a n) c = one (Breaks rule.Operator) (inl (refl, no_demand o _ _ (λ e. let f = e.0 in cc) (λ e. e.1)))

zip_faults : (names : List Name) (b c : PlainTy) → IsGood names b → Faults (BinaryFault names binary.Zip b c) (zip_row names b c)
zip_faults names (ArrayOf x n) (ArrayOf y m) g =
    faults_then _ (demand_faults (is_same n m) rule.Zip (λ e. inl (
      refl,
      λ d.
          let i = same_array x d.0 n d.2 d.3 in
          let j = same_array y d.1 m d.2 d.4 in
          not_false _ ((decides_same n m).1 (i.1 ∙ sym j.1)) e,
    ))) (λ u o.
    let e = (decides_same n m).0 (demand_ok _ _ u o) in
    binary_array names binary.Zip (ArrayOf x n) (ArrayOf y m) (PairOf x y) n g.1 (x, y, n, refl, ap (λ z. ArrayOf y z) (sym e)) (λ P h. inl h))
zip_faults names _ _ g = one (Breaks rule.Zip) (inl (refl, λ d. let e = d.3 in let f = d.4 in absurd (cc)))

reduce_faults : (names : List Name) (o : Reducer) (b c : PlainTy) → Faults (BinaryFault names (binary.Reduce o) b c) (reduce_row names b c)
reduce_faults names o (ArrayOf U32 n) U32 = binary_array names (binary.Reduce o) (ArrayOf U32 n) U32 U32 (constant 1) (constant_low 1) (n, refl, refl) (λ P h. inl h)
reduce_faults names o _ _ = one (Breaks rule.Reduce) (inl (refl, λ d. let e = d.1 in let f = d.2 in absurd (cc)))

pub binary_faults : (names : List Name) (f : BinaryForm) (b c : PlainTy) → IsGood names b → Faults (BinaryFault names f b c) (binary_row names f b c)
binary_faults names (binary.Operator o) b c g = operator_faults names o b c
binary_faults names binary.Pair b c g =
    faults_then _ (demand_faults (is_element b && is_element c) rule.Pair (λ e. inl (refl, λ d. not_false _ (and_from (is_element b) (is_element c) (element_is b d.0) (element_is c d.1)) e))) (λ u o. none (PairOf b c))
binary_faults names binary.Zip b c g = zip_faults names b c g
binary_faults names (binary.Reduce o) b c g = reduce_faults names o b c

pub select_faults : (names : List Name) (a b c : PlainTy) → Faults (RuleFault names rule.Operator ((a ≡ U32) × (b ≡ U32) × (c ≡ U32))) (select_row a b c)
select_faults names a b c =
    faults_then _ (number_faults a (λ h. inl (refl, λ d. h d.0))) (λ u e.
    faults_then _ (number_faults b (λ h. inl (refl, λ d. h d.1))) (λ v f. number_faults c (λ h. inl (refl, λ d. h d.2))))

-- ---- forms with binders
element_faults : {Q : Fault → Type 0} (r : Rule) (a : PlainTy) → (¬ IsArray a → Q (Breaks r)) → Faults Q (element_in r a)
element_faults r (ArrayOf a n) k = none a
element_faults r _ k = one (Breaks r) (k (λ d. let e = d.2 in absurd (cc)))

pub map_start_faults : (names : List Name) (a : PlainTy) → Faults (RuleFault names rule.Map (IsArray a)) (element_in rule.Map a)
map_start_faults names a = element_faults rule.Map a (λ h. inl (refl, h))

pub map_end_faults : (names : List Name) (a x b : PlainTy) (l : List Monomial) → a ≡ ArrayOf x l → IsGood names a → Faults (IsFault names None (Unit {0}) (formed b l ∷ []) []) (map_end names a b)
map_end_faults names a x b l e g =
    subst (λ y. Faults (IsFault names None (Unit {0}) (formed b l ∷ []) []) (map_end names y b)) (sym e)
    (array_faults names None (Unit {0}) (formed b l ∷ []) [] b l (subst (IsGood names) e g).1 tt (λ P h. inl h))

pub fold_start_faults : (names : List Name) (a s : PlainTy) → Faults (RuleFault names rule.Fold (IsArray a × IsElement s)) (fold_start a s)
fold_start_faults names a s =
    faults_then _ (element_faults rule.Fold a (λ h. inl (refl, λ d. h d.0))) (λ x e.
    faults_then _ (demand_faults (is_element s) rule.Fold (λ f. inl (refl, λ d. not_false _ (element_is s d.1) f))) (λ u o. none x))

same_is : (a : PlainTy) → IsElement a → IsTrue (is_same_element a a)
same_is U32 h = refl
same_is U32x4 h = refl
same_is (PairOf a b) h = and_from (is_same_element a a) (is_same_element b b) (same_is a h.0) (same_is b h.1)
same_is (ArrayOf a n) h = absurd h

pub fold_end_faults : (names : List Name) (s b : PlainTy) → IsElement s → Faults (IsFault names (Some rule.Fold) (s ≡ b) (formed s (constant 1) ∷ []) []) (fold_end names s b)
fold_end_faults names s b h =
    faults_then _ (demand_faults (is_same_element s b) rule.Fold (λ e. inl (refl, λ d. not_false _ (subst (λ z. IsTrue (is_same_element s z)) d (same_is s h)) e))) (λ u o.
    array_faults names (Some rule.Fold) (s ≡ b) (formed s (constant 1) ∷ []) [] s (constant 1) (constant_low 1) (same_element s b (demand_ok _ _ u o)) (λ P k. inl k))
