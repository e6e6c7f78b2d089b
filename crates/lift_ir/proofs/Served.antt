-- The laws, from their lemmas.
use Rattle.std.proofs.Common.{ℕ, List, [], refl, arith, pos, ◌≤ℤ◌}
use Rattle.size_arith.specs.declared.poly.Monomial.{Monomial}
use Rattle.size_arith.specs.Polynomial.{value_at}
use Rattle.size_arith.specs.Ranges.{Admissible}
use Rattle.size_arith.specs.Shown.{ShownAtLeast}
use Rattle.size_arith.proofs.Soundness.{shown_at_least}
use Rattle.lift_tree.specs.Typing.{Declared, IsDeclared}
use Rattle.lift_ir.specs.Terms.{no_type}
use Rattle.lift_ir.specs.Scalars.{no_scalars}
use Rattle.lift_ir.specs.Lowering.{Written}
use Rattle.lift_ir.specs.Promises.{LayoutsLeadPositions, LayoutsAreByPosition, TermsHaveTheSourceValue, ValuesAreByPosition, LoweredTermsServe, OwnersAreOfTheLaunch}
use Rattle.lift_ir.proofs.Meaning.{means}
use Rattle.lift_ir.proofs.Positions.{laid_is, operand_in, result_in, result_operand}
use Rattle.lift_ir.proofs.Lists.{are_lists, list_holds}
use Rattle.lift_ir.proofs.Values.{has_scalars, same_lists}
use Rattle.lift_ir.proofs.Lowering.{lowers_is}
use Rattle.lift_ir.proofs.Typed.{has_is}
use Rattle.lift_ir.proofs.Named.{names_suffice}
use Rattle.lift_ir.proofs.Owner.{owner_below}

pub layouts_lead_positions : LayoutsLeadPositions
layouts_lead_positions = record { forth = operand_in; back = result_in; again = result_operand }

pub layouts_are_by_position : LayoutsAreByPosition
layouts_are_by_position num w vs whole part l t u s is r h = laid_is num w vs l whole part t u s is r h

pub terms_have_the_source_value : TermsHaveTheSourceValue
terms_have_the_source_value num w inputs src sources source t ty lowers typed given = means num w src sources inputs given t 0 source no_type [] no_scalars ty lowers typed (λ i lt. absurd (omega arith))

pub values_are_by_position : ValuesAreByPosition
values_are_by_position = record { scalars = has_scalars; lists = same_lists; at_each = are_lists; each_at = list_holds }

-- lengths that are shown at least a number are so
shown : (d : Declared) (bases : List ℕ) → IsDeclared d → Admissible d.names bases → (j : ℕ) (p : List Monomial) → ShownAtLeast j d.names p → pos j ≤ℤ value_at bases p
shown d bases declared ok j p s = shown_at_least d.names bases declared.names ok j p s

pub lowered_terms_serve : LoweredTermsServe
lowered_terms_serve = record {
  source = λ d w t a declared ok nodes lowerable. lowers_is d w ok declared.few t Written [] a 0 refl nodes lowerable;
  typed = λ d bases src t a declared ok sourced nodes lowerable. has_is d bases (shown d bases declared ok) declared.inputs src sourced t Written [] a tt nodes lowerable;
  loads = λ d bases t a nodes lowerable staged. names_suffice d bases t a nodes lowerable staged;
}

pub owners_are_of_the_launch : OwnersAreOfTheLaunch
owners_are_of_the_launch num l t q whole some = owner_below num l t q whole some
