-- What holds of the kernels of a program's typed term, by either printer.
use Rattle.std.proofs.Common.{List}
use Rattle.size_arith.specs.declared.poly.Monomial.{Monomial}
use Rattle.printed_form.specs.Programs.{PrintedProgramsGoAlike, PrintedProgramsKeep, PrintedProgramsStart, ProgramsArePrinted}
use Rattle.printed_form.proofs.Programs.{may_start}
use Rattle.group_form.specs.Kernels.{OfItems, OfGroups, OfGrids, KernelsArePrinted, KernelsGoAlike, KernelsKeep, KernelsServe, KernelsStart}
use Rattle.group_form.specs.Printer.{GroupPrinterPrints}
use Rattle.group_form.specs.Theorem.{NeededGroupsKeep, NeededKeepApart, SeparatedGroupsServe}
use Rattle.group_form.proofs.AlikeTheorem.{BarriersAreDetermined, groups_go_alike}
use Rattle.group_form.proofs.BarrierFree as items
use Rattle.group_form.proofs.Programs as groups
use Rattle.group_form.specs.GridPrinter.{GridPrinterPrints}
use Rattle.group_form.specs.GridTheorem.{NeededGridsKeep, NeededKeepGridsApart, SeparatedGridsServe}
use Rattle.group_form.proofs.GridAlikeTheorem.{grids_go_alike}
use Rattle.group_form.proofs.GridPrograms as grids

pub kernels_are_printed : ProgramsArePrinted → GroupPrinterPrints (List Monomial) → GridPrinterPrints (List Monomial) → KernelsArePrinted
kernels_are_printed single prints over OfItems d asks bases t a l spell fence program launch staged stands fours placed spelled needed = single d asks bases t a l spell program launch staged stands fours placed spelled
kernels_are_printed single prints over OfGroups d asks bases t a l spell fence program launch staged stands fours placed spelled needed = groups.groups_are_printed prints d asks bases t a l spell fence program launch staged stands fours placed spelled needed
kernels_are_printed single prints over OfGrids d asks bases t a l spell fence program launch staged stands fours placed spelled needed = grids.grids_are_printed over d asks bases t a l spell fence program launch staged stands fours placed spelled needed

pub kernels_start : PrintedProgramsStart → KernelsStart
kernels_start start OfItems d asks w t a l k c program stands ok launch buffers printed = start d asks w t a l k c program ok launch buffers printed
kernels_start start OfGroups d asks w t a l k c program stands ok launch buffers printed = may_start d asks w t a l k c program ok launch buffers printed.declares
kernels_start start OfGrids d asks w t a l k c program stands ok launch buffers printed = may_start d asks w t a l k c program ok launch buffers printed.declares

pub kernels_keep : PrintedProgramsKeep → NeededGroupsKeep (List Monomial) → NeededGridsKeep (List Monomial) → KernelsKeep
kernels_keep single keep over OfItems d asks w t a l k c program stands ok launch buffers printed = single d asks w t a l k c program ok launch buffers printed
kernels_keep single keep over OfGroups d asks w t a l k c program stands ok launch buffers printed = groups.keeps d asks w t a l k c program stands ok launch buffers printed keep
kernels_keep single keep over OfGrids d asks w t a l k c program stands ok launch buffers printed = grids.keeps d asks w t a l k c program stands ok launch buffers printed over

pub kernels_serve : PrintedProgramsKeep → PrintedProgramsStart → SeparatedGroupsServe (List Monomial) → NeededKeepApart (List Monomial) → SeparatedGridsServe (List Monomial) → NeededKeepGridsApart (List Monomial) → KernelsServe
kernels_serve single start serve apart over clear OfItems d asks w t a l k c program stands ok launch buffers printed = items.serves_all single start d asks w t a l k c program stands ok launch buffers printed
kernels_serve single start serve apart over clear OfGroups d asks w t a l k c program stands ok launch buffers printed = groups.serves d asks w t a l k c program stands ok launch buffers printed serve apart
kernels_serve single start serve apart over clear OfGrids d asks w t a l k c program stands ok launch buffers printed = grids.serves d asks w t a l k c program stands ok launch buffers printed over clear

pub kernels_go_alike : PrintedProgramsGoAlike → BarriersAreDetermined → KernelsKeep → KernelsServe → KernelsStart → KernelsGoAlike
kernels_go_alike single determined keep serve begins OfItems d asks w t a l k m c s r program stands ok launch buffers one two start begin same = single d asks w t a l k m c s r program ok launch buffers one two start begin same
kernels_go_alike single determined keep serve begins OfGroups d asks w t a l k m c s r program stands ok launch buffers one two start begin same = groups_go_alike determined keep serve begins d asks w t a l c program stands ok launch buffers k m s r one two start begin same
kernels_go_alike single determined keep serve begins OfGrids d asks w t a l k m c s r program stands ok launch buffers one two start begin same = grids_go_alike determined keep serve begins d asks w t a l c program stands ok launch buffers k m s r one two start begin same
