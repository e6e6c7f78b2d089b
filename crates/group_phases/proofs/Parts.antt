-- A stretch of one item that is told by what it knows is a part of a phase.
use Rattle.std.proofs.Common.{ℕ, List, true≢false, refl}
use Rattle.std.specs.Prelude.{◌≡◌, false}
use Rattle.kernel_tree.specs.Formula.{Vars}
use Rattle.kernel_tree.specs.Code.{Array, Input, Output, Local, Private, Code}
use Rattle.kernel_tree.specs.Item.{Frame}
use Rattle.kernel_tree.specs.Device.{Device, Cell, Memory}
use Rattle.kernel_tree.specs.Independent.{Owners}
use Rattle.printed_form.specs.Counts.{Count}
use Rattle.printed_form.specs.Runs.{Known, IsBetween, Scratch, Ran}
use Rattle.group_phases.specs.Bodies.{is_private, IsShared, Part}

-- where its targets are those of the phase, with the phase's values, and
-- only private arrays are scratch
pub part_of_run : (d : Device) (k locals : ℕ) (o : Owners) (m : Memory) (vars : Vars) (count : Count) (arrays : ℕ) (fs : List Frame) (code rest : Code) (n : Count) (a : ℕ) (S : Cell → Type 0) (T : Cell → ℕ → Type 0) (G : Known → Type 0) (target : Cell → Type 0) (value : Cell → ℕ) (Then : Vars → Type 0)
    → ((c : Cell) → target c → T c (value c)) → ((c : Cell) (v : ℕ) → T c v → target c) → ((c : Cell) → S c → IsShared c → ⊥)
    → (r : Ran (record { device = d; item = k; owners = o; locals = locals }) (record { memory = m; vars = vars; count = count; arrays = arrays }) fs code rest n a S T G) → Then r.after
    → Part d k o m target value fs code vars rest Then
part_of_run d k locals o m vars count arrays fs code rest n a S T G target value Then to from private r so = record {
  after = r.after;
  deeds = r.deeds;
  goes = r.goes m (λ c may. refl);
  so = so;
  allowed = r.allowed;
  once = λ c x. r.wrote.once c (value c) (to c x);
  holds = λ c x. r.wrote.holds c (value c) (to c x);
  quiet = λ c s n. r.wrote.quiet c (λ x. private c x s) (λ v x. n (from c v x));
}

pub scratch_private : (a b : ℕ) (c : Cell) → Scratch a b c → IsShared c → ⊥
scratch_private a b c h s = go c.array h s
  where
    go : (x : Array) → IsBetween a b x → is_private x ≡ false → ⊥
    go (Private n) i e = true≢false e
    go (Input n) i e = i
    go (Output n) i e = i
    go (Local n) i e = i
