-- The kernel that the printer makes of a typed term is of the kernel grammar.
use Rattle.std.proofs.Common.{◌≡◌, ℕ, ◌+◌, ◌*◌, true, Option, Some, None, nat_lt, refl, arith}
use Rattle.std.proofs.lemmas.Bool.{lt-ltb, le-leb, and_from}
use Rattle.kernel_tree.specs.Code.{Output, End}
use Rattle.kernel_tree.specs.Grammar.{is_group_size, largest_group}
use Rattle.lift_tree.specs.Annotations.{type_in}
use Rattle.lift_tree.specs.LocalSizes.{IsLocalSize}
use Rattle.lift_ir.specs.AtLaunch.{shape_of}
use Rattle.lift_ir.specs.Fours.{Whole, no_lie}
use Rattle.printed_form.specs.Counts.{no_variables}
use Rattle.printed_form.specs.Views.{placed_view}
use Rattle.printed_form.specs.Sound.{variables_of}
use Rattle.printed_form.specs.Printer.{no_view}
use Rattle.printed_form.specs.Programs.{lowered_root, printed_kernel}
use Rattle.printed_form.proofs.Runs.{at_most}
use Rattle.printed_form.proofs.Lengths.{counted}
use Rattle.printed_form.specs.KernelGrammar.{KernelsAreOfTheGrammar}
use Rattle.printed_form.specs.GrammarPieces.{CanBePrinted}
use Rattle.printed_form.proofs.GrammarViews.{blank_good}
use Rattle.printed_form.proofs.GrammarPieces.{terms_printed}

-- groups of a size that can be fixed are such as the grammar has
pub is_size : (local : Option (ℕ × ℕ)) → IsLocalSize local → is_group_size local ≡ true
is_size None h = refl
is_size (Some size) h =
    and_from (nat_lt 0 size.0) _ (lt-ltb 0 size.0 h.0) (and_from (nat_lt 0 size.1) _ (lt-ltb 0 size.1 h.1) (le-leb (size.0 * size.1) largest_group h.2))

pub of_the_grammar : KernelsAreOfTheGrammar
of_the_grammar spell S M d local t a h =
    let k = printed_kernel spell d local t a in
    let r = lowered_root d.names t a in
    let ty = shape_of (type_in a) in
    let w = placed_view spell Output 0 ty in
    let terms = terms_printed k spell S M d (record { some = h.some; fits = h.fits; inputs = refl }) in
    let deep = h.loops in
    let privates = counted r in
    let can : CanBePrinted k spell S M d (λ v. 0) no_lie Whole 0 0 no_variables 0 r = record { written = h.written; sound = h.sound; layouts = h.layouts; low = h.low; fours = h.fours; deep = omega arith; variables = at_most (omega arith) (omega arith); privates = omega arith } in
    let out = terms.output ty refl h.lengths h.few in
    terms.kernel ty r refl refl refl h.sound (is_size local h.size) (terms.statements 0 0 0 no_variables 0 (λ v. 0) no_lie Whole no_view r w End out can)
    (terms.codes 0 0 0 no_variables 0 (λ v. 0) no_lie Whole no_view r w End (λ v. blank_good k S h.some (variables_of k) 0 (10 + 3 * 0)) out (λ v. tt) (λ cs is. refl) can refl)
