-- The forms that a fixed local size gives make the turns of their maps, at every admissible launch.
use Rattle.std.proofs.Common.{◌≡◌, ℕ, ◌*◌, ◌^◌, ◌<◌, ◌≤◌, Bool, true, false, true≢false, List, [], ◌∷◌, ℤ, pos, negsuc, ◌+ℤ◌, ◌*ℤ◌, ◌≤ℤ◌, refl, sym, ap, ◌∙◌, arith}
use Rattle.std.specs.Prelude.{Option, Some, None, ◌==◌, nat_le, if◌then◌else◌}
use Rattle.std.specs.List.{list_all}
use Rattle.std.specs.Ordering.{int_eq}
use Rattle.std.proofs.lemmas.Bool.{and_parts, eqb-true, leb-true}
use Rattle.std.proofs.lemmas.Bool.Decides.{Decides-int_eq}
use Rattle.std.proofs.lemmas.Int.{ints}
use Rattle.std.proofs.Math.Nat.{pow-zero}
use Rattle.size_arith.specs.declared.names.Name.{Name}
use Rattle.size_arith.specs.declared.poly.Monomial.{Monomial}
use Rattle.size_arith.specs.Polynomial.{product, value_at}
use Rattle.size_arith.specs.Ranges.{AreNames, Admissible}
use Rattle.size_arith.specs.Shown.{largest}
use Rattle.size_arith.proofs.Soundness.{sound_largest}
use Rattle.lift_ir.specs.AtLaunch.{natural, length_at}
use Rattle.lift_tree.specs.Launches.{IsFixedSize}
use Rattle.kernel_tree.specs.Launch.{Launch}
use Rattle.printed_form.specs.MapForms.{Looped, Guarded, Alone, MakesTurns, MakeTurns}
use Rattle.group_form.specs.ChosenForms.{is_literal, local_form, forms_of}

no_power : (ys ms : List ℕ) → list_all (λ power. power == 0) ms ≡ true → product ys ms ≡ 1
no_power [] ms h = refl
no_power (y ∷ ys) [] h = refl
no_power (y ∷ ys) (m ∷ ms) h =
    let parts = and_parts (m == 0) (list_all (λ power. power == 0) ms) h in
    let none : m ≡ 0 = eqb-true m 0 parts.0 in
    let e = no_power ys ms parts.1 in
    ap (λ z. y ^ z * product ys ms) none ∙ ap (λ z. z * product ys ms) (pow-zero y) ∙ omega arith

one_of : (k : ℕ) → (pos k *ℤ pos 1) +ℤ pos 0 ≡ pos k
one_of k = omega (arith, ints)

-- a literal is so long at every launch
pub literal_is : (ys : List ℕ) (k : ℕ) (n : List Monomial) → is_literal k n ≡ true → length_at ys n ≡ k
literal_is ys k [] h = absurd (true≢false (sym h))
literal_is ys k (m ∷ p ∷ ps) h = absurd (true≢false (sym h))
literal_is ys k (m ∷ []) h =
    let parts = and_parts (int_eq m.coefficient (pos k)) (list_all (λ power. power == 0) m.powers) h in
    ap (λ z. natural ((z *ℤ pos (product ys m.powers)) +ℤ pos 0)) ((Decides-int_eq m.coefficient (pos k)).0 parts.0)
    ∙ ap (λ z. natural ((pos k *ℤ pos z) +ℤ pos 0)) (no_power ys m.powers parts.1) ∙ ap natural (one_of k)

pub natural_most : (z : ℤ) (m : ℕ) → z ≤ℤ pos m → natural z < 2 ^ 31 → natural z ≤ m
natural_most (pos n) m h s = omega (arith, ints)
natural_most (negsuc n) m h s = absurd (omega arith)

module _ (names : List Name) (ys : List ℕ) (named : AreNames names) (admissible : Admissible names ys) (l : Launch) where
  local_makes : (size : ℕ) → l.local.0 ≡ size → (n : List Monomial) → length_at ys n < 2 ^ 31 → MakesTurns (local_form names size n) (length_at ys n) l
  local_makes size fixed n short = by_tests (is_literal size n) (nat_le (largest names n) size) refl refl
    where
      by_tests : (a b : Bool) → is_literal size n ≡ a → nat_le (largest names n) size ≡ b → MakesTurns (if a then Alone else (if b then Guarded else Looped)) (length_at ys n) l
      by_tests true b p q = literal_is ys size n p ∙ sym fixed
      by_tests false true p q =
          let most = natural_most (value_at ys n) (largest names n) (sound_largest names n ys named admissible) short in
          let shown = leb-true (largest names n) size q in
          omega arith
      by_tests false false p q = tt

  pub forms_make_turns : (size : Option (ℕ × ℕ)) → IsFixedSize size l.local → MakeTurns (forms_of names size) (length_at ys) l
  forms_make_turns None fixed = record { local = λ n short. tt; once = λ n e. absurd (true≢false (sym e)) }
  forms_make_turns (Some size) fixed = record { local = local_makes size.0 (ap (λ z. z.0) fixed); once = literal_is ys 1 }

-- the turn alone is of just the size
pub alone_is : (names : List Name) (ys : List ℕ) (l : Launch) (size : Option (ℕ × ℕ)) → IsFixedSize size l.local → (n : List Monomial) → (forms_of names size).local n ≡ Alone → length_at ys n ≡ l.local.0
alone_is names ys l None fixed n h = absurd (cc)
alone_is names ys l (Some size) fixed n h = by_tests (is_literal size.0 n) (nat_le (largest names n) size.0) refl h
  where
    by_tests : (a b : Bool) → is_literal size.0 n ≡ a → (if a then Alone else (if b then Guarded else Looped)) ≡ Alone → length_at ys n ≡ l.local.0
    by_tests true b p e = literal_is ys size.0 n p ∙ sym (ap (λ z. z.0) fixed)
    by_tests false true p e = absurd (cc)
    by_tests false false p e = absurd (cc)
