-- The kernel that is printed for a map over rows of work-groups is of the kernel grammar.
use Rattle.std.proofs.Common.{◌≤◌, true, length, refl, arith}
use Rattle.std.proofs.lemmas.List.{length-append}
use Rattle.kernel_tree.specs.Code.{Output}
use Rattle.lift_tree.specs.Annotations.{type_in}
use Rattle.lift_tree.specs.declared.term.Level.TheVariants.{Groups}
use Rattle.lift_tree.specs.declared.term.Dimension.TheVariants.{X, Y}
use Rattle.lift_ir.specs.Terms.{Over, LocalMemory, Term, Reshape, LetArray, Map}
use Rattle.lift_ir.specs.AtLaunch.{shape_of}
use Rattle.lift_ir.specs.Fours.{Whole, no_lie}
use Rattle.printed_form.specs.Counts.{copy_lengths}
use Rattle.printed_form.specs.Views.{placed_view}
use Rattle.printed_form.specs.Printer.{no_view}
use Rattle.printed_form.specs.Programs.{lowered_root}
use Rattle.printed_form.proofs.Lengths as privates
use Rattle.printed_form.proofs.GrammarKernels.{is_size}
use Rattle.printed_form.proofs.Runs.{at_most}
use Rattle.printed_form.specs.GrammarPieces.{ViewsStayWithin, MapsAreOfTheGrammar, HasRoomFor, TermsArePrintedWithin}
use Rattle.group_form.specs.GridChosen.{grid_forms_of}
use Rattle.group_form.specs.GridPrinter.{printed_grid_kernel}
use Rattle.group_form.specs.GridTerms.{StandsAlongGroups, StandsOverGrid}
use Rattle.group_form.specs.GridTheorem.{grid_phase_count}
use Rattle.group_form.proofs.GridCopies.{counted}
use Rattle.kernel_premises.specs.GroupGrammar.{GridKernelsAreOfTheGrammar}
use Rattle.kernel_premises.proofs.MapCodes.{Pieces}
use Rattle.kernel_premises.proofs.GridCodes.{locals_along, locals_over, grid_comes, grid_fine}

-- as many local arrays are declared as a turn has
enough_along : {A : Type 0} (t : Term A) → StandsAlongGroups t → locals_along t ≤ length (copy_lengths LocalMemory t)
enough_along (Reshape y t) st = enough_along t st.1
enough_along (Map (Over Groups X) n loads xs b) st = let e = length-append (copy_lengths LocalMemory xs) (copy_lengths LocalMemory b) in let c = counted true b st.1 in omega arith
enough_along _ st = absurd st

enough_over : {A : Type 0} (t : Term A) → StandsOverGrid t → locals_over t ≤ length (copy_lengths LocalMemory t)
enough_over (Reshape y t) st = enough_over t st.1
enough_over (LetArray v b) st = let e = length-append (copy_lengths LocalMemory v) (copy_lengths LocalMemory b) in let r = enough_over b st.1 in omega arith
enough_over (Map (Over Groups Y) n loads xs b) st = let e = length-append (copy_lengths LocalMemory xs) (copy_lengths LocalMemory b) in let r = enough_along b st.1 in omega arith
enough_over _ st = absurd st

pub grid_kernels_are_of_the_grammar : ViewsStayWithin → MapsAreOfTheGrammar → TermsArePrintedWithin → GridKernelsAreOfTheGrammar
grid_kernels_are_of_the_grammar stay maps printed spell fence S M d local t a stands =
    let h = stands.1 in
    let k = printed_grid_kernel spell fence d local t a in
    let forms = grid_forms_of d.names local in
    let r = lowered_root d.names t a in
    let ty = shape_of (type_in a) in
    let w = placed_view spell Output 0 ty in
    let room : HasRoomFor k S M d = record { some = h.some; fits = h.fits; inputs = refl } in
    let known : Pieces k spell S M d = record { room = room; views = stay k S h.some; maps = maps k S h.some (let f = h.fits in omega arith); terms = printed k spell S M d room } in
    let private = privates.counted r in
    let loops = h.loops in
    known.terms.kernel ty r refl refl refl h.sound (is_size local h.size) (grid_comes k spell forms S M d known fence (grid_phase_count r) h.flagged no_view r w stands.0)
    (grid_fine k spell forms S M d known fence (grid_phase_count r) h.flagged (λ v. 0) no_lie Whole no_view r w 0 ((λ v. known.views.blank 0 0), (λ v. tt)) (known.terms.output ty refl h.lengths h.few, (λ cs is. refl)) stands.0
    (record { written = h.written; sound = h.sound; layouts = h.layouts; low = h.low; fours = h.fours; deep = omega arith; variables = at_most (omega arith) (omega arith); privates = omega arith })
    (enough_over r stands.0) (omega arith))
