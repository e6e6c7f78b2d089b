use Rattle.std.proofs.Common.{◌≡◌, ◌∙◌, ◌++◌, ℕ, List, ap, arith, length, map, refl, rules, subst, sym, Vec}
use Rattle.std.proofs.lemmas.List.{length-map, length_push, map-append}
use Rattle.std.proofs.lemmas.Iterator.Adapters.{YieldsList-from_vec}
use Rattle.std.proofs.lemmas.Iterator.Consumers.{YieldsList-end, YieldsList-from_enumerate, YieldsList-turn}
use Rattle.std.specs.Global.{Global}
use Rattle.kernel_tree.specs.Kernels.{kernel_of}
use Rattle.kernel_tree.specs.Launch.{Cells, MayStart}
use Rattle.kernel_tree.specs.Schedule.{schedule_of}
use Rattle.ndrange_device.specs.Outcomes.{EndsUnder, FaultsUnder}
use Rattle.launch_file.specs.StagesShown.{count_of, shared_of}
use Rattle.lift_tree.specs.Types.{ty_of}
use Rattle.program_runs.specs.Sequences.{begun_from, launch_at}
use Rattle.program_runs.proofs.NextKernel.{count_at, has_count, has_outline, next_kernel}
use Rattle.program_runs.proofs.Turns.{all_so_far, none_so_far, numbered_length, so_far_as}
use Rattle.program_runs.proofs.sequence.run_in_turn.Goals as goal

pub loop-number-init : goal.loop-number-init
loop-number-init c =
    so_far_as _ _ _ _ _ _ _ _ _ _ _ _ _ _ _ _ _ refl refl (ap (map (λ (l : Vec ℕ Global). l.items)) (sym c.new.ensures.items)) refl refl
    (none_so_far _ _ _ _ _ _ _ c.texts_are_of_one_sequence.ensures c.requires.read c.requires.admissible c.args.compiled.now.text_for c.requires.inputs)

pub bounds-counts-number : goal.bounds-counts-number
bounds-counts-number c =
    let at = c.loop-number in
    let all = c.args.kernels.items in
    let road = YieldsList-from_enumerate {s = c.into_iter-number-iterator.result} (YieldsList-from_vec {s = c.into_iter-number-iterator.result.iter} all (search rules) (search rules)) (search rules) in
    let turn = YieldsList-turn road at.yielded at.number-iterator at.yielded_by c.next.result c.next.new.self (c.in-Some.number, c.in-Some.kernel) c.in-Some.is c.next.ensures.steps in
    has_count _ _ _ _ _ _ _ (map (λ (l : Vec ℕ Global). l.items) c.args.inputs.items) c.texts_are_of_one_sequence.ensures c.requires.read c.requires.admissible c.args.compiled.now.text_for (length at.yielded) c.in-Some.number c.in-Some.kernel turn.0 turn.1

pub index-requires : goal.index-requires
index-requires c =
    let at = c.loop-number in
    let all = c.args.kernels.items in
    let road = YieldsList-from_enumerate {s = c.into_iter-number-iterator.result} (YieldsList-from_vec {s = c.into_iter-number-iterator.result.iter} all (search rules) (search rules)) (search rules) in
    let turn = YieldsList-turn road at.yielded at.number-iterator at.yielded_by c.next.result c.next.new.self (c.in-Some.number, c.in-Some.kernel) c.in-Some.is c.next.ensures.steps in
    let within = has_outline _ _ _ _ _ _ _ (map (λ (l : Vec ℕ Global). l.items) c.args.inputs.items) c.texts_are_of_one_sequence.ensures c.requires.read c.requires.admissible c.args.compiled.now.text_for (length at.yielded) c.in-Some.number c.in-Some.kernel turn.0 turn.1 in
    let len = c.args.compiled.now.outlines.ok.0 in
    omega (arith, within, len)

pub begun_from-requires : goal.begun_from-requires
begun_from-requires c =
    let at = c.loop-number in
    let all = c.args.kernels.items in
    let road = YieldsList-from_enumerate {s = c.into_iter-number-iterator.result} (YieldsList-from_vec {s = c.into_iter-number-iterator.result.iter} all (search rules) (search rules)) (search rules) in
    let turn = YieldsList-turn road at.yielded at.number-iterator at.yielded_by c.next.result c.next.new.self (c.in-Some.number, c.in-Some.kernel) c.in-Some.is c.next.ensures.steps in
    (next_kernel _ _ _ _ _ _ _ (map (λ (l : Vec ℕ Global). l.items) c.args.inputs.items) c.texts_are_of_one_sequence.ensures c.requires.read c.requires.admissible c.args.compiled.now.text_for (length at.yielded) c.in-Some.number c.in-Some.kernel turn.0 turn.1 c.index.result.now c.index.ensures _ _ _ _ at.invariant).small

pub run_kernel-requires-clause-may_start : goal.run_kernel-requires-clause-may_start
run_kernel-requires-clause-may_start c =
    let at = c.loop-number in
    let all = c.args.kernels.items in
    let road = YieldsList-from_enumerate {s = c.into_iter-number-iterator.result} (YieldsList-from_vec {s = c.into_iter-number-iterator.result.iter} all (search rules) (search rules)) (search rules) in
    let turn = YieldsList-turn road at.yielded at.number-iterator at.yielded_by c.next.result c.next.new.self (c.in-Some.number, c.in-Some.kernel) c.in-Some.is c.next.ensures.steps in
    let x = c.in-Some.kernel in
    let o = c.index.result.now in
    let s = c.args.shared.now in
    let l = launch_at (shared_of s).sizes (count_of (count_at c.args.counts.now c.in-Some.number)) in
    let joined = ap (map (λ (l : Vec ℕ Global). l.items)) c.in_ok-append.ensures.items ∙ map-append (λ (l : Vec ℕ Global). l.items) at.inputs.items at.ran.outputs.items in
    let cells_are : c.in_ok-cells.cells ≡ begun_from (map (λ (l : Vec ℕ Global). l.items) at.inputs.items ++ map (λ (l : Vec ℕ Global). l.items) at.ran.outputs.items) s.bases (ty_of o.output) =
    c.in_ok-cells.ensures ∙ ap (λ (z : List (List ℕ)). begun_from z s.bases (ty_of o.output)) (ap (map (λ (l : Vec ℕ Global). l.items)) c.deref.ensures.value ∙ joined) in
    subst (λ (z : Cells). MayStart (kernel_of x) l z) (sym cells_are)
    (next_kernel _ _ _ _ _ _ _ (map (λ (l : Vec ℕ Global). l.items) c.args.inputs.items) c.texts_are_of_one_sequence.ensures c.requires.read c.requires.admissible c.args.compiled.now.text_for (length at.yielded) c.in-Some.number c.in-Some.kernel turn.0 turn.1 c.index.result.now c.index.ensures _ _ _ _ at.invariant).starts

pub run_kernel-requires-clause-clean : goal.run_kernel-requires-clause-clean
run_kernel-requires-clause-clean c = λ kind event item cell fault.
    let at = c.loop-number in
    let all = c.args.kernels.items in
    let road = YieldsList-from_enumerate {s = c.into_iter-number-iterator.result} (YieldsList-from_vec {s = c.into_iter-number-iterator.result.iter} all (search rules) (search rules)) (search rules) in
    let turn = YieldsList-turn road at.yielded at.number-iterator at.yielded_by c.next.result c.next.new.self (c.in-Some.number, c.in-Some.kernel) c.in-Some.is c.next.ensures.steps in
    let x = c.in-Some.kernel in
    let o = c.index.result.now in
    let s = c.args.shared.now in
    let l = launch_at (shared_of s).sizes (count_of (count_at c.args.counts.now c.in-Some.number)) in
    let joined = ap (map (λ (l : Vec ℕ Global). l.items)) c.in_ok-append.ensures.items ∙ map-append (λ (l : Vec ℕ Global). l.items) at.inputs.items at.ran.outputs.items in
    let cells_are : c.in_ok-cells.cells ≡ begun_from (map (λ (l : Vec ℕ Global). l.items) at.inputs.items ++ map (λ (l : Vec ℕ Global). l.items) at.ran.outputs.items) s.bases (ty_of o.output) =
    c.in_ok-cells.ensures ∙ ap (λ (z : List (List ℕ)). begun_from z s.bases (ty_of o.output)) (ap (map (λ (l : Vec ℕ Global). l.items)) c.deref.ensures.value ∙ joined) in
    (next_kernel _ _ _ _ _ _ _ (map (λ (l : Vec ℕ Global). l.items) c.args.inputs.items) c.texts_are_of_one_sequence.ensures c.requires.read c.requires.admissible c.args.compiled.now.text_for (length at.yielded) c.in-Some.number c.in-Some.kernel turn.0 turn.1 c.index.result.now c.index.ensures _ _ _ _ at.invariant).clean
    kind event item cell (subst (λ (z : Cells). FaultsUnder (schedule_of s.schedule) (kernel_of x) l z kind event item cell) cells_are fault)

pub loop-number-preserved : goal.loop-number-preserved
loop-number-preserved c =
    let at = c.loop-number in
    let all = c.args.kernels.items in
    let road = YieldsList-from_enumerate {s = c.into_iter-number-iterator.result} (YieldsList-from_vec {s = c.into_iter-number-iterator.result.iter} all (search rules) (search rules)) (search rules) in
    let turn = YieldsList-turn road at.yielded at.number-iterator at.yielded_by c.next.result c.next.new.self (c.in-Some.number, c.in-Some.kernel) c.in-Some.is c.next.ensures.steps in
    let x = c.in-Some.kernel in
    let o = c.index.result.now in
    let s = c.args.shared.now in
    let l = launch_at (shared_of s).sizes (count_of (count_at c.args.counts.now c.in-Some.number)) in
    let joined = ap (map (λ (l : Vec ℕ Global). l.items)) c.in_ok-append.ensures.items ∙ map-append (λ (l : Vec ℕ Global). l.items) at.inputs.items at.ran.outputs.items in
    let cells_are : c.in_ok-cells.cells ≡ begun_from (map (λ (l : Vec ℕ Global). l.items) at.inputs.items ++ map (λ (l : Vec ℕ Global). l.items) at.ran.outputs.items) s.bases (ty_of o.output) =
    c.in_ok-cells.ensures ∙ ap (λ (z : List (List ℕ)). begun_from z s.bases (ty_of o.output)) (ap (map (λ (l : Vec ℕ Global). l.items)) c.deref.ensures.value ∙ joined) in
    let one = next_kernel _ _ _ _ _ _ _ (map (λ (l : Vec ℕ Global). l.items) c.args.inputs.items) c.texts_are_of_one_sequence.ensures c.requires.read c.requires.admissible c.args.compiled.now.text_for (length at.yielded) c.in-Some.number c.in-Some.kernel turn.0 turn.1 c.index.result.now c.index.ensures _ _ _ _ at.invariant in
    let ran = c.in_ok-run_kernel.field-0 in
    let ends = subst (λ (z : Cells). EndsUnder (schedule_of s.schedule) (kernel_of x) l z (map (λ (l : Vec ℕ Global). l.items) ran.outputs.items) ran.events ran.releases) cells_are c.in_ok-run_kernel.ensures in
    let more = length_push at.yielded (c.in-Some.number, x) in
    so_far_as _ _ _ _ _ _ _ _ _ _ _ _ _ _ _ _ _ (omega (arith, more)) (sym joined) (ap (λ (v : Vec (Vec ℕ Global) Global). map (λ (l : Vec ℕ Global). l.items) v.items) (sym c.followed-ran.ensures.outputs)) (sym c.followed-ran.ensures.events) (sym c.followed-ran.ensures.releases)
    (one.then c.inputs_stay.ensures x.in_grammar (map (λ (l : Vec ℕ Global). l.items) ran.outputs.items) ran.events ran.releases ends)

pub returns-clause-run : goal.returns-clause-run
returns-clause-run c =
    let at = c.loop-number in
    let all = c.args.kernels.items in
    let road = YieldsList-from_enumerate {s = c.into_iter-number-iterator.result} (YieldsList-from_vec {s = c.into_iter-number-iterator.result.iter} all (search rules) (search rules)) (search rules) in
    let end = YieldsList-end road at.yielded at.number-iterator at.yielded_by c.next.result c.next.new.self c.in-None.is c.next.ensures.steps in
    let many = end.1 in
    let count = numbered_length 0 all in
    let b = length-map all kernel_of in
    all_so_far _ _ _ _ _ _ _ c.texts_are_of_one_sequence.ensures c.requires.read c.requires.admissible c.args.compiled.now.text_for _ _ _ _ _ (omega (arith, many, count, b)) at.invariant
