use Rattle.std.proofs.Common.{◌≡◌, ◌∙◌, ◌++◌, ap, ap₂, subst, false, ℕ, List, Vec, map}
use Rattle.std.specs.Global.{Global}
use Rattle.std.proofs.lemmas.Result.{IfOk-weaker}
use Rattle.demo_program.specs.Data.{demo_given}
use Rattle.demo_program.specs.Line.{demo_line}
use Rattle.demo_program.specs.Sum.{wrapped_sum}
use Rattle.kernel_tree.specs.declared.events.Seen.{Seen}
use Rattle.launch_file.specs.LaunchFile.{Given}
use Rattle.launch_file.specs.TraceLines.{trace_lines}
use Rattle.lift_tree.specs.Launches.{lists_of}
use Rattle.lift_tree.specs.Programs.{program_of}
use Rattle.lift_tree.specs.Types.{ty_of}
use Rattle.program_source.specs.Program.{source_value}
use Rattle.program_runs.specs.Demo.{IsLineOfDemo}
use Rattle.program_runs.specs.Runs.{RunsText, world_given}
use Rattle.program_runs.proofs.demo.seeded_line.Goals as goal

pub returns : goal.returns
returns c =
    let compiled = c.args.compiled.now in
    let p = program_of compiled.program in
    let output = ty_of compiled.output in
    let seed : ℕ = c.args.seed in
    let events : ℕ = c.in_ok-outcome.outcome.events in
    let releases : ℕ = c.in_ok-outcome.outcome.releases in
    let counts : ℕ × ℕ = (events, releases) in
    let ran : RunsText p output compiled.text.items (demo_given seed) false events releases c.in_ok-outcome.seen.items =
    subst (λ (g : Given). RunsText p output compiled.text.items g false events releases c.in_ok-outcome.seen.items) c.in_ok-file.ensures c.in_ok-outcome.ensures.run in
    let left =
    subst (λ (g : Given). map (λ (l : Vec ℕ Global). l.items) c.in_ok-outcome.outcome.outputs.items ≡ lists_of output (source_value p (world_given g))) c.in_ok-file.ensures c.in_ok-outcome.ensures.left in
    let sum = c.wrapped_sum-sum.ensures ∙ ap (λ (rows : List (Vec ℕ Global)). wrapped_sum (map (λ (l : Vec ℕ Global). l.items) rows)) c.deref.ensures.value ∙ ap wrapped_sum left in
    let last : c.in_ok-line.line.items ≡ demo_line seed counts (wrapped_sum (lists_of output (source_value p (world_given (demo_given seed))))) =
    c.in_ok-line.ensures ∙ ap (demo_line seed counts) sum in
    IfOk-weaker c.lines_of.result
    (λ (lines : Vec ℕ Global). lines.items ≡ trace_lines c.deref-2.result.now ++ c.in_ok-line.line.items)
    (λ (lines : Vec ℕ Global). IsLineOfDemo p output compiled.text.items seed lines.items)
    (λ lines h. record {
      kernel = ran.kernel;
      read = ran.read;
      events = events;
      releases = releases;
      run = ran.run;
      written = h ∙ ap₂ (λ (shown : List Seen) (line : List ℕ). trace_lines shown ++ line) (c.deref-2.ensures.value ∙ ran.seen_of_it) last;
    }) c.lines_of.ensures
