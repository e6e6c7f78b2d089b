use Rattle.std.proofs.Common.{◌+◌, ◌*◌, ◌%◌, ◌∙◌, ap}
use Rattle.kernel_tree.specs.Launch.{Launch}
use Rattle.lift_tree.specs.declared.term.Dimension.TheVariants.{X, Y}
use Rattle.output_owner.proofs.Roots.{item_is, of_names, place}
use Rattle.output_owner.proofs.cells.owner.Goals as goal

pub returns : goal.returns
returns c d local bases is here array below =
    let back = c.bases_come_back.ensures in
    let lowered = c.legal_terms_can_be_lowered.ensures in
    let nests = c.legal_nests_are_unbroken.ensures in
    let l = c.args.lowered.now in
    let launch = c.args.launch.now in
    let cell = c.args.cell in
    let names = c.as_slice-names.result.now in
    let same = c.as_slice-names.ensures.same in
    let column = c.owner_along-column.result in
    let row = c.owner_along-row.result in
    let item =
    item_is back lowered nests d l launch bases cell is local here column row c.requires.whole c.requires.some.0 c.requires.some.1
    (place back lowered nests d l launch bases cell is local here X names column same c.owner_along-column.ensures below)
    (place back lowered nests d l launch bases cell is local here Y names row same c.owner_along-row.ensures below) in
    of_names d l bases launch array cell _ is (ap (λ (x : Launch). (column + row * x.global.0 % 4294967296) % 4294967296) c.launch.view_is ∙ item)
