-- Why a launch file stops a call.
use Rattle.std.proofs.Common.{◌≢◌, ℕ, List, refl, inl, inr, Result, Ok}
use Rattle.lift_tree.specs.Programs.{PlainProgram}
use Rattle.launch_file.specs.Judged as launches
use Rattle.launch_file.specs.Stages as in_order
use Rattle.launch_file.specs.LaunchFile.{PlainAsk}
use Rattle.launch_file.specs.declared.refusal.LaunchNo.{LaunchNo}
use Rattle.launch_file.specs.declared.refusal.LaunchNo.TheVariants as no
use Rattle.fault_lines.specs.Failure.{launch_failed, source_failed}
use Rattle.fault_lines.specs.declared.refusal.Refusal.{Refusal}
use Rattle.program_source.specs.Ends.{FailsFor, OnSource}
use Rattle.program_source.specs.Program.{IsRead}
use Rattle.stages.specs.Stages.{As, Then}
use Rattle.program_runs.specs.Started.{LaunchOf, LaunchesOf}

pub launch_fails : {A : Type 0} (text : List ℕ) (p : PlainProgram) (ask : A → PlainAsk) (launch : List ℕ) (S : PlainProgram → Result A Refusal → Type 0) (a : A) (why : LaunchNo)
    → IsRead text p → S p (Ok a) → (why ≢ no.Memory → launches.Refuses p (ask a) launch why)
    → FailsFor (OnSource text (λ q. Then (As source_failed (S q)) (λ b. As (launch_failed q) (LaunchOf q (ask b) launch)))) (launch_failed p why)
launch_fails text p ask launch S a no.Memory read is h = inl refl
launch_fails text p ask launch S a why read is h = inr (inr (p, read, inr (a, is, (why, h (λ e. cc (e)), refl))))

pub stages_fail : {A : Type 0} (text : List ℕ) (p : PlainProgram) (asks : A → List PlainAsk) (launch : List ℕ) (S : PlainProgram → Result A Refusal → Type 0) (a : A) (why : LaunchNo)
    → IsRead text p → S p (Ok a) → (why ≢ no.Memory → in_order.RefusesStages p (asks a) launch why)
    → FailsFor (OnSource text (λ q. Then (As source_failed (S q)) (λ b. As (launch_failed q) (LaunchesOf q (asks b) launch)))) (launch_failed p why)
stages_fail text p asks launch S a no.Memory read is h = inl refl
stages_fail text p asks launch S a why read is h = inr (inr (p, read, inr (a, is, (why, h (λ e. cc (e)), refl))))
