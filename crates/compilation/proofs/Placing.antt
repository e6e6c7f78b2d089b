-- The last term of a program along a script, placed.
use Rattle.std.proofs.Common.{◌≡◌, ◌∙◌, List, ℕ, Ok, Option, ap, subst, sym}
use Rattle.lift_tree.specs.Annotations.{annotation_of}
use Rattle.lift_tree.specs.Launches.{Asks}
use Rattle.lift_tree.specs.Programs.{program_of}
use Rattle.lift_tree.specs.Tree.{tree_of}
use Rattle.lift_tree.specs.Typing.{declared_by}
use Rattle.lift_tree.specs.declared.typed.Typed.{Typed}
use Rattle.lowered_tree.specs.Kinds.{asks_of}
use Rattle.strategy_script.specs.LocalSize.{local_fixed}
use Rattle.strategy_script.specs.Steps.{state_of}
use Rattle.program_source.specs.SourceTerms.{IsLastTerm}
use Rattle.compilation.specs.Legal.{CompilesTerm, IsAccepted}
use Rattle.compilation.specs.Placed.{AreOfLast, IsPlaced}
use Rattle.compilation.specs.declared.kernel.Placed.{Placed}

pub placed_found : (program script : List ℕ) (t : Typed) (asks : Asks) (local : Option (ℕ × ℕ)) (x : Placed) → asks ≡ asks_of local (tree_of t.term) → IsLastTerm program script t → local ≡ local_fixed script
    → CompilesTerm local (state_of t) (Ok (state_of t)) → IsAccepted (program_of t.program) (tree_of t.term) (annotation_of t.types) → AreOfLast (declared_by (program_of t.program)) local (state_of t) x
    → IsPlaced program script (program_of t.program) asks x
placed_found program script t asks local x asked last fixed compiles accepted of_last = record {
  read = last.read;
  last = state_of t;
  legal = (last.terms, last.made, (state_of t, last.is_last, subst (λ (o : Option (ℕ × ℕ)). CompilesTerm o (state_of t) (Ok (state_of t))) fixed compiles));
  accepted = accepted;
  asked = ap (λ (o : Option (ℕ × ℕ)). asks_of o (tree_of t.term)) (sym fixed) ∙ sym asked;
  term = subst (λ (o : Option (ℕ × ℕ)). AreOfLast (declared_by (program_of t.program)) o (state_of t) x) fixed of_last;
}
