use Rattle.std.proofs.Common.{◌≡◌, ◌∙◌, ℕ, List, [], ap, map, subst, sym, Option, Some, Vec}
use Rattle.std.specs.Global.{Global}
use Rattle.std.proofs.lemmas.Result.{IfOk-weaker}
use Rattle.kernel_tree.specs.Kernels.{kernel_of}
use Rattle.lift_tree.specs.Launches.{buffers_of, lists_of}
use Rattle.lift_tree.specs.declared.value.Val.{Val}
use Rattle.lift_tree.specs.Values.{value_of}
use Rattle.lift_tree.specs.Programs.{program_of}
use Rattle.lift_tree.specs.Types.{ty_of}
use Rattle.lift_tree.specs.Typing.{declared_by}
use Rattle.value_lists.specs.Lists.{value_in}
use Rattle.launch_file.specs.ResultLine.{result_line}
use Rattle.program_source.specs.Program.{source_value}
use Rattle.compilation.specs.Sequence.{outline_of}
use Rattle.launch_file.specs.StagesShown.{count_of, given_in_order, shared_of}
use Rattle.launch_file.specs.declared.stages.Count as held
use Rattle.program_runs.specs.Sequences.{AreAdmissibleFor, AreRunInTurn, IsSequenceLine, world_in}
use Rattle.program_runs.proofs.LaidOut.{wide}
use Rattle.program_runs.proofs.Turns.{output_small, value_told}
use Rattle.program_runs.proofs.sequence.run_sequence.Goals as goal

-- the values and the work-items that are lent are the file's
pub run_in_turn-requires-clause-admissible : goal.run_in_turn-requires-clause-admissible
run_in_turn-requires-clause-admissible c =
    let compiled = c.args.compiled.now in
    let s = shared_of c.args.file.now.shared in
    subst (λ (cs : List held.Count). AreAdmissibleFor (program_of compiled.program) (map outline_of compiled.outlines.items) (record { shared = s; counts = map count_of cs })) (sym c.deref-2.ensures.value) c.requires

pub run_in_turn-requires-clause-inputs : goal.run_in_turn-requires-clause-inputs
run_in_turn-requires-clause-inputs c =
    let p = program_of c.args.compiled.now.program in
    c.in_ok-inputs.ensures ∙ ap (λ (vs : List Val). buffers_of (declared_by p).inputs (map value_of vs)) c.deref.ensures.value

pub listed_text-requires-clause-small : goal.listed_text-requires-clause-small
listed_text-requires-clause-small c =
    let compiled = c.args.compiled.now in
    let p = program_of compiled.program in
    let output = ty_of compiled.output in
    output_small p output (map outline_of compiled.outlines.items) compiled.text.items (given_in_order c.args.file.now) (map kernel_of c.in_ok-kernels.kernels.items) [] c.texts_are_of_one_sequence.ensures c.in_ok-kernels.ensures c.requires compiled.text_for

pub listed_text-requires-clause-within : goal.listed_text-requires-clause-within
listed_text-requires-clause-within c =
    let p = program_of c.args.compiled.now.program in
    let output = ty_of c.args.compiled.now.output in
    wide c.components_are_counted.ensures output (source_value p (world_in (shared_of c.args.file.now.shared))) (λ (l : Vec ℕ Global). l.items) c.deref-3.result.now
    (ap (map (λ (l : Vec ℕ Global). l.items)) c.deref-3.ensures.value ∙ c.in_ok-ran.ensures.left)

pub returns : goal.returns
returns c =
    let compiled = c.args.compiled.now in
    let p = program_of compiled.program in
    let output = ty_of compiled.output in
    let g = given_in_order c.args.file.now in
    let ks = c.in_ok-kernels.kernels.items in
    let counts : Option (ℕ × ℕ) = Some (c.in_ok-ran.ran.events, c.in_ok-ran.ran.releases) in
    let rows = map (λ (l : Vec ℕ Global). l.items) c.deref-3.result.now in
    let left : rows ≡ lists_of output (source_value p (world_in g.shared)) = ap (map (λ (l : Vec ℕ Global). l.items)) c.deref-3.ensures.value ∙ c.in_ok-ran.ensures.left in
    let inputs = c.in_ok-inputs.ensures ∙ ap (λ (vs : List Val). buffers_of (declared_by p).inputs (map value_of vs)) c.deref.ensures.value in
    let ran = subst (λ (cs : List held.Count). AreRunInTurn g.shared (map (λ (l : Vec ℕ Global). l.items) c.in_ok-inputs.inputs.items) (map kernel_of ks) (map outline_of compiled.outlines.items) (map count_of cs) c.in_ok-ran.ran.events c.in_ok-ran.ran.releases) c.deref-2.ensures.value c.in_ok-ran.ensures.run in
    IfOk-weaker c.listed_text.result
    (λ (line : Vec ℕ Global). line.items ≡ result_line (value_in g.shared.bases output rows 0 0) counts)
    (λ (line : Vec ℕ Global). IsSequenceLine p (map outline_of compiled.outlines.items) compiled.text.items g line.items)
    (λ line h. record {
      kernels = map kernel_of ks;
      read = c.in_ok-kernels.ensures;
      events = c.in_ok-ran.ran.events;
      releases = c.in_ok-ran.ran.releases;
      run = subst (λ (ins : List (List ℕ)). AreRunInTurn g.shared ins (map kernel_of ks) (map outline_of compiled.outlines.items) g.counts c.in_ok-ran.ran.events c.in_ok-ran.ran.releases) inputs ran;
      written =
          h ∙ value_told p output (map outline_of compiled.outlines.items) compiled.text.items g (map kernel_of ks) [] c.texts_are_of_one_sequence.ensures c.in_ok-kernels.ensures c.requires compiled.text_for
          c.lists_hold_one_value.ensures c.values_have_their_types.ensures rows counts left;
    }) c.listed_text.ensures
