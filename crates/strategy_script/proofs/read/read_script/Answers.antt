use Rattle.lift_tree.specs.FixedSizes.{size_fixed}
use Rattle.strategy_script.specs.ScriptText.{IsScript}
use Rattle.strategy_script.proofs.Once.{counted_once, handed_once}
use Rattle.strategy_script.proofs.Openings.{many_told, refused_on, refused_opened, script_opened, script_told}
use Rattle.strategy_script.proofs.read.read_script.Goals as goal

pub returns-in_err-steps_in-clause-exact : goal.returns-in_err-steps_in-clause-exact
returns-in_err-steps_in-clause-exact c =
    let o = c.opening_of-opening.ensures in
    λ why cause. handed_once c.args.text.now _ _ why c.from_residual.ensures.1
    (refused_opened c.args.text.now c.opening_of-opening.result.rest.now (size_fixed c.opening_of-opening.result.local) c.opening_of-opening.result.lines _ (record { size = o.size; good = o.good; all = o.all; steps = o.steps }) c.in_err-steps_in.ensures.refused) cause

pub returns-in_err-steps_in-clause-refused : goal.returns-in_err-steps_in-clause-refused
returns-in_err-steps_in-clause-refused c =
    let o = c.opening_of-opening.ensures in
    refused_on c.args.text.now _ _ c.from_residual.ensures.1
    (refused_opened c.args.text.now c.opening_of-opening.result.rest.now (size_fixed c.opening_of-opening.result.local) c.opening_of-opening.result.lines _ (record { size = o.size; good = o.good; all = o.all; steps = o.steps }) c.in_err-steps_in.ensures.refused)

-- what is read is a script
is : (c : goal.After-script_of) → IsScript c.args.text.now (record { local = size_fixed c.opening_of-opening.result.local; steps = c.in_ok-steps_in.field-0.items })
is c =
    let o = c.opening_of-opening.ensures in
    script_opened c.args.text.now c.opening_of-opening.result.rest.now (size_fixed c.opening_of-opening.result.local) c.opening_of-opening.result.lines c.in_ok-steps_in.field-0.items (record { size = o.size; good = o.good; all = o.all; steps = o.steps }) c.in_ok-steps_in.ensures.script

pub returns-clause-exact : goal.returns-clause-exact
returns-clause-exact c = λ why cause.
    counted_once c.args.text.now (record { local = size_fixed c.opening_of-opening.result.local; steps = c.in_ok-steps_in.field-0.items }) _ (is c) c.script_of.ensures.script c.script_of.ensures.refused why cause

pub returns-clause-script : goal.returns-clause-script
returns-clause-script c = script_told c.args.text.now (size_fixed c.opening_of-opening.result.local) c.in_ok-steps_in.field-0.items _ (is c) c.script_of.ensures.script

pub returns-clause-refused : goal.returns-clause-refused
returns-clause-refused c = many_told c.args.text.now (size_fixed c.opening_of-opening.result.local) c.in_ok-steps_in.field-0.items _ (is c) c.script_of.ensures.refused
