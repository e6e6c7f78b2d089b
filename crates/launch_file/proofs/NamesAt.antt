-- The declared names by their numbers.
use Rattle.std.proofs.Common.{◌≡◌, ℕ, zero, suc, ◌<◌, ◌≤◌, List, [], ◌∷◌, length, get_or, refl, arith}
use Rattle.std.specs.Prelude.{map}
use Rattle.lift_tree.specs.declared.program.Size.{Size}
use Rattle.lift_tree.specs.declared.program.Input.{Input}
use Rattle.lift_tree.specs.Programs.{PlainInput, input_of}
use Rattle.launch_file.specs.Line.{nth_name}

pub size_named : (ss : List Size) (i : ℕ) (d : Size) → i < length ss → nth_name (map (λ (s : Size). s.name) ss) i ≡ (get_or ss i d).name
size_named [] i d h = absurd (omega arith)
size_named (s ∷ ss) zero d h = refl
size_named (s ∷ ss) (suc i) d h = size_named ss i d (omega arith)

pub size_unnamed : (ss : List Size) (i : ℕ) → length ss ≤ i → nth_name (map (λ (s : Size). s.name) ss) i ≡ []
size_unnamed [] i h = refl
size_unnamed (s ∷ ss) zero h = absurd (omega arith)
size_unnamed (s ∷ ss) (suc i) h = size_unnamed ss i (omega arith)

pub input_named : (is : List Input) (i : ℕ) (d : Input) → i < length is → nth_name (map (λ (x : PlainInput). x.name) (map input_of is)) i ≡ (get_or is i d).name
input_named [] i d h = absurd (omega arith)
input_named (x ∷ is) zero d h = refl
input_named (x ∷ is) (suc i) d h = input_named is i d (omega arith)

pub input_unnamed : (is : List Input) (i : ℕ) → length is ≤ i → nth_name (map (λ (x : PlainInput). x.name) (map input_of is)) i ≡ []
input_unnamed [] i h = refl
input_unnamed (x ∷ is) zero h = absurd (omega arith)
input_unnamed (x ∷ is) (suc i) h = input_unnamed is i (omega arith)

pub ruleset names_at = (size_named, size_unnamed, input_named, input_unnamed)
