use Rattle.std.proofs.Common.{◌≡◌, ◌∙◌, ◌++◌, ap, ap₂, map, ℕ, List, Some, Vec}
use Rattle.std.specs.Global.{Global}
use Rattle.kernel_tree.specs.declared.events.Seen.{Seen}
use Rattle.launch_file.specs.TraceLines.{trace_lines}
use Rattle.lift_tree.specs.FixedSizes.{asked}
use Rattle.program_runs.specs.Runs.{AreLinesOfText}
use Rattle.value_lists.specs.Lists.{value_in}
use Rattle.std.proofs.Props.{props}
use Rattle.std.proofs.Math.Logic.{∥∥₁_elim}
use Rattle.std.proofs.lemmas.Result.{IfOk-weaker}
use Rattle.launch_file.specs.LaunchFile.{given_by}
use Rattle.lift_tree.specs.Programs.{program_of}
use Rattle.lift_tree.specs.Types.{ty_of}
use Rattle.program_runs.proofs.Running.{value_told}
use Rattle.program_runs.proofs.run.run_launch.Goals as goal

pub returns : goal.returns
returns c =
    let compiled = c.args.compiled.now in
    let p = program_of compiled.program in
    let g = given_by c.args.file.now in
    let counts : ℕ × ℕ = (c.in_ok-outcome.outcome.events, c.in_ok-outcome.outcome.releases) in
    IfOk-weaker c.lines_of.result
    (λ (lines : Vec ℕ Global). lines.items ≡ trace_lines c.deref-2.result.now ++ c.in_ok-line.line.items)
    (λ (lines : Vec ℕ Global). AreLinesOfText p (ty_of compiled.output) compiled.text.items g c.args.trace lines.items)
    (λ lines h. record {
      events = c.in_ok-outcome.outcome.events;
      releases = c.in_ok-outcome.outcome.releases;
      seen = c.in_ok-outcome.seen.items;
      run = c.in_ok-outcome.ensures.run;
      written = h ∙ ap₂ (λ (shown : List Seen) (line : List ℕ). trace_lines shown ++ line) c.deref-2.ensures.value (c.in_ok-line.ensures ∙ ∥∥₁_elim compiled.text_for (Prim.hlevel props) (λ t.
          value_told p (ty_of compiled.output) (asked compiled.asks) compiled.text.items g c.values_have_their_types.ensures c.requires t
          c.lists_hold_one_value.ensures _ _ (Some counts) c.in_ok-outcome.ensures.left (ap (λ ls. value_in g.bases (ty_of compiled.output) (map (λ l. l.items) ls) 0 0) c.deref.ensures.value)));
    }) c.lines_of.ensures
