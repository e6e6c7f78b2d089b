-- What a judgement says.
use Rattle.std.specs.Prelude.{◌≡◌, ◌≤◌, length, map, [], Result, Ok, Err}
use Rattle.size_arith.specs.Ranges.{AreNames}
use Rattle.lift_tree.specs.Lists.{Every}
use Rattle.lift_tree.specs.Tree.{Tree}
use Rattle.lift_tree.specs.Types.{PlainTy, IsOutput}
use Rattle.lift_tree.specs.Typing.{declared_by, IsDeclared, HasOutput}
use Rattle.lift_tree.specs.WorkedOut.{range_of}
use Rattle.lift_tree.specs.Programs.{PlainInput, PlainProgram}
use Rattle.lift_tree.specs.Annotations.{Annotation, Annotates, type_in}
use Rattle.pattern_types.specs.declared.refusal.TypeRefusal.{TypeRefusal}
use Rattle.pattern_types.specs.declared.refusal.TypeRefusal.TheVariants.{IllTyped, Limit, Memory}
use Rattle.lift_tree.specs.Belonging.{IsInputType, IsTermOf}
use Rattle.lift_tree.specs.Limits.{IsWithinLimits, HasProperInputs}
use Rattle.pattern_types.specs.Numbers.{NumbersFit}
use Rattle.pattern_types.specs.Judged.{program_judged}

-- the sizes and inputs are proper, each node of the term has its type, and the whole an output's
pub record HasTypes (p : PlainProgram) (t : Tree) (n : Annotation) : Type 0 where
  pub declared : IsDeclared (declared_by p)
  pub nodes : Annotates (declared_by p) [] t n
  pub output : IsOutput (type_in n)

-- the types that a program's term is judged to have are its types
abbrev pub JudgedTypesAreRight : Type 0
JudgedTypesAreRight =
    (p : PlainProgram) (t : Tree) (n : Annotation)
    → length p.sizes ≤ 8 → AreNames (map range_of p.sizes)
    → Every (λ (i : PlainInput). IsInputType i.ty) p.inputs → NumbersFit t → IsTermOf p t
    → program_judged p t ≡ Ok n → HasTypes p t n

-- a program whose inputs and term are judged to have types has proper inputs
abbrev pub JudgedInputsAreProper : Type 0
JudgedInputsAreProper =
    (p : PlainProgram) (t : Tree) (n : Annotation)
    → length p.sizes ≤ 8 → AreNames (map range_of p.sizes)
    → Every (λ (i : PlainInput). IsInputType i.ty) p.inputs
    → program_judged p t ≡ Ok n → HasProperInputs p

-- the judgement of a term that has these types: just these, where they pass no limit, else a limit
abbrev pub IsJudgement : PlainProgram → Tree → Annotation → Result Annotation TypeRefusal → Type 0
IsJudgement p t n (Ok m) = (m ≡ n) × IsWithinLimits p t n
IsJudgement p t n (Err (IllTyped s r)) = ⊥
IsJudgement p t n (Err (Limit l s c)) = ¬ IsWithinLimits p t n
IsJudgement p t n (Err Memory) = ⊥

-- where a program's term has types, it is judged to have them, or a limit is passed
abbrev pub TypesAreJudged : Type 0
TypesAreJudged =
    (p : PlainProgram) (t : Tree) (n : Annotation) → HasTypes p t n
    → IsJudgement p t n (program_judged p t)

-- a program's term that has an output's type has one for each node
abbrev pub OutputsHaveTypes : Type 0
OutputsHaveTypes =
    (p : PlainProgram) (t : Tree) (a : PlainTy) → HasOutput p t a
    → (n : Annotation) × HasTypes p t n × (type_in n ≡ a)

-- it names what the program declares, and its numbers are below 2^32
abbrev pub OutputsBelong : Type 0
OutputsBelong =
    (p : PlainProgram) (t : Tree) (a : PlainTy) → HasOutput p t a → IsTermOf p t × NumbersFit t

-- what a refusal says: the term has no type, or its types pass a limit
abbrev pub Explains : TypeRefusal → PlainProgram → Tree → Type 0
Explains (IllTyped s r) p t = (a : PlainTy) → ¬ HasOutput p t a
Explains (Limit l s c) p t = (n : Annotation) → HasTypes p t n → ¬ IsWithinLimits p t n
Explains Memory p t = Unit {0}
