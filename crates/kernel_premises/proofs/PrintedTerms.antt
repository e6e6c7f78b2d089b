-- The kernel of a printable term is printed for it at each admissible launch.
use Rattle.std.proofs.Common.{◌≡◌, ℤ, pos, negsuc, ◌<◌, ◌^◌, [], refl, arith}
use Rattle.size_arith.specs.Polynomial.{value_at}
use Rattle.kernel_tree.specs.Formula.{no_vars, sizes_alone}
use Rattle.kernel_tree.specs.Launch.{ids_of}
use Rattle.lift_ir.specs.AtLaunch.{natural, length_at}
use Rattle.group_form.specs.Kernels.{KernelsArePrinted}
use Rattle.length_spelling.specs.Formulas.{length_formula}
use Rattle.length_spelling.specs.Laws.{LengthsAreSpelled}
use Rattle.kernel_premises.specs.Terms.{FormulasSpellLengths, TermsArePrinted}

-- a length that is short is no number below zero
natural_length : (z : ℤ) → natural z < 2 ^ 31 → z ≡ pos (natural z)
natural_length (pos m) h = refl
natural_length (negsuc m) h = absurd (omega arith)

pub formulas_spell_lengths : LengthsAreSpelled → FormulasSpellLengths
formulas_spell_lengths spelled names bases l are ok sizes n short =
    let at = natural_length (value_at bases n) short in
    let word : length_at bases n < 2 ^ 32 = omega arith in (
      spelled names bases (sizes_alone l.sizes) [] no_vars n (length_at bases n) are ok sizes at word,
      λ k ts vs. spelled names bases (ids_of l k) ts vs n (length_at bases n) are ok sizes at word,
    )

pub terms_are_printed : FormulasSpellLengths → KernelsArePrinted → TermsArePrinted
terms_are_printed spelled printed p d local bases fence t n l printable launch needed =
    let ok = launch.admissible.sizes in
    let program = printable.can.lowerable bases ok in
    printed p d _ bases t n l (length_formula d.names) fence program launch printable.can.staged (printable.at_launch local bases l launch) printable.fours (printable.can.fits bases ok)
    (spelled d.names bases l program.declared.names ok launch.sizes) needed
