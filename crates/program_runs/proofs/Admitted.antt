-- What a launch file gives is admissible for its program.
use Rattle.std.proofs.Common.{◌≡◌, ◌⊎◌, true, false, List, [], ◌∷◌, ℕ, map, subst}
use Rattle.serde_json.specs.Data.{Data}
use Rattle.launch_file.specs.LaunchFile.{Given, IsLaunchFile, PlainAsk, asked_inputs, asks_in}
use Rattle.launch_file.specs.Stages.{Count, GiveCounts, GivenInOrder, IsStagesFile, Shared, members}
use Rattle.lift_tree.specs.Programs.{PlainInput, PlainProgram}
use Rattle.lift_tree.specs.Types.{HaveTypes}
use Rattle.lift_tree.specs.Typing.{declared_by}
use Rattle.lift_tree.specs.WorkedOut.{worked_out}
use Rattle.lift_tree.specs.Annotations.{Annotation}
use Rattle.lift_tree.specs.Tree.{Tree}
use Rattle.lift_ir.specs.Owner.{is_in_rows}
use Rattle.printed_form.specs.Programs.{IsLaunchOf, lowered_root}
use Rattle.compilation.specs.Sequence.{Outline}
use Rattle.program_runs.specs.Runs.{IsAdmissibleFor}
use Rattle.program_runs.specs.Sequences.{AreAdmissibleFor, AreAdmissibleLaunches}
use Rattle.program_runs.specs.Started.{asks_in_order}

-- the launch, whatever it is read for
pub launch_is_admissible : (p : PlainProgram) (ask : PlainAsk) (bytes : List ℕ) (g : Given) (t : Tree) (n : Annotation)
    → (is_in_rows (lowered_root (declared_by p).names t n) ≡ false → ((asks_in ask).alone ≡ true) ⊎ ((asks_in ask).flat ≡ true))
    → IsLaunchFile p ask bytes g → IsLaunchOf (declared_by p) (asks_in ask) g.bases t n g.launch
launch_is_admissible p ask bytes g t n asked is = let gives = is.2 in record { admissible = gives.admissible; sizes = gives.bases; asked = asked }

-- and all of it, where all inputs are read
pub given_is_admissible : (p : PlainProgram) (ask : PlainAsk) (bytes : List ℕ) (g : Given) → asked_inputs ask p.inputs ≡ p.inputs → IsLaunchFile p ask bytes g → IsAdmissibleFor p (asks_in ask) g
given_is_admissible p ask bytes g all is =
    let gives = is.2 in
    record {
      world = record {
        bases = gives.admissible.sizes;
        sizes = gives.bases;
        inputs = subst (λ (xs : List PlainInput). HaveTypes g.bases (map (λ (x : PlainInput). worked_out (declared_by p).names x.ty) xs) g.inputs) all gives.typed;
      };
      launch = gives.admissible;
    }

-- ---- of kernels in order

launches_are_admissible : (p : PlainProgram) (s : Shared) (os : List Outline) (owns : List Data) (cs : List Count) → GiveCounts p s (asks_in_order os) owns cs → AreAdmissibleLaunches p s.bases os cs
launches_are_admissible p s [] [] [] h = tt
launches_are_admissible p s [] [] (c ∷ cs) h = absurd h
launches_are_admissible p s [] (own ∷ owns) cs h = absurd h
launches_are_admissible p s (o ∷ os) [] cs h = absurd h
launches_are_admissible p s (o ∷ os) (own ∷ owns) [] h = absurd h
launches_are_admissible p s (o ∷ os) (own ∷ owns) (c ∷ cs) h = (h.0.admissible, launches_are_admissible p s os owns cs h.1)

pub stages_are_admissible : (p : PlainProgram) (os : List Outline) (bytes : List ℕ) (g : GivenInOrder) → IsStagesFile p (asks_in_order os) bytes g → AreAdmissibleFor p os g
stages_are_admissible p os bytes g is =
    let all = is.2 in
    record {
      world = record { bases = all.shared.admissible; sizes = all.shared.bases; inputs = all.shared.typed };
      launches = launches_are_admissible p g.shared os (members all.launches.0) g.counts all.launches.2;
    }
