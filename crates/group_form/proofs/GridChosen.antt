-- The forms that a fixed local size of two dimensions gives make the turns of their maps.
use Rattle.std.proofs.Common.{◌≡◌, ℕ, ◌^◌, ◌<◌, Bool, true, false, true≢false, List, refl, sym, ap, ◌∙◌, arith}
use Rattle.std.specs.Prelude.{Some, None, nat_le, if◌then◌else◌}
use Rattle.std.proofs.lemmas.Bool.{leb-true}
use Rattle.size_arith.specs.declared.names.Name.{Name}
use Rattle.size_arith.specs.declared.poly.Monomial.{Monomial}
use Rattle.size_arith.specs.Polynomial.{value_at}
use Rattle.size_arith.specs.Ranges.{AreNames, Admissible}
use Rattle.size_arith.specs.Shown.{largest}
use Rattle.size_arith.proofs.Soundness.{sound_largest}
use Rattle.lift_ir.specs.AtLaunch.{length_at}
use Rattle.printed_form.specs.MapForms.{Looped, Guarded, Alone}
use Rattle.group_phases.specs.Strides.{MakesTurnsBy}
use Rattle.group_form.specs.ChosenForms.{is_literal, local_form}
use Rattle.group_form.specs.GridChosen.{GridFormsMakeTurns}
use Rattle.group_form.proofs.ChosenForms.{literal_is, natural_most}

module _ (names : List Name) (ys : List ℕ) (named : AreNames names) (admissible : Admissible names ys) (stride size : ℕ) (fixed : stride ≡ size) (n : List Monomial) where
  makes_by : length_at ys n < 2 ^ 31 → MakesTurnsBy (local_form names size n) (length_at ys n) stride
  makes_by short = by_tests (is_literal size n) (nat_le (largest names n) size) refl refl
    where
      by_tests : (a b : Bool) → is_literal size n ≡ a → nat_le (largest names n) size ≡ b → MakesTurnsBy (if a then Alone else (if b then Guarded else Looped)) (length_at ys n) stride
      by_tests true b p q = literal_is ys size n p ∙ sym fixed
      by_tests false true p q =
          let most = natural_most (value_at ys n) (largest names n) (sound_largest names n ys named admissible) short in
          let shown = leb-true (largest names n) size q in
          omega arith
      by_tests false false p q = tt

  one_by : local_form names size n ≡ Alone → length_at ys n ≡ stride
  one_by h = by_tests (is_literal size n) (nat_le (largest names n) size) refl h
    where
      by_tests : (a b : Bool) → is_literal size n ≡ a → (if a then Alone else (if b then Guarded else Looped)) ≡ Alone → length_at ys n ≡ stride
      by_tests true b p e = literal_is ys size n p ∙ sym fixed
      by_tests false true p e = absurd (cc)
      by_tests false false p e = absurd (cc)

pub grid_forms_make_turns : GridFormsMakeTurns
grid_forms_make_turns names ys l None named admissible fixed = (
  record { rows = λ n short. tt; columns = λ n short. tt; one_row = λ n e. absurd (true≢false (sym e)); one_column = λ n e. absurd (true≢false (sym e)) },
  record { rows = λ n h. absurd (cc); columns = λ n h. absurd (cc) },
)
grid_forms_make_turns names ys l (Some size) named admissible fixed = (
  record {
    rows = makes_by names ys named admissible l.local.1 size.1 (ap (λ z. z.1) fixed);
    columns = makes_by names ys named admissible l.local.0 size.0 (ap (λ z. z.0) fixed);
    one_row = literal_is ys 1;
    one_column = literal_is ys 1;
  },
  record {
    rows = one_by names ys named admissible l.local.1 size.1 (ap (λ z. z.1) fixed);
    columns = one_by names ys named admissible l.local.0 size.0 (ap (λ z. z.0) fixed);
  },
)
