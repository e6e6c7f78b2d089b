-- The phases of a map over work-groups whose body is one term, each with what stands for its
-- variables, its argument and its value at every turn.
use Rattle.std.specs.Prelude.{ℕ, zero, suc, ◌+◌, Bool, true, false, List, [], ◌∷◌, ◌++◌, map}
use Rattle.lift_ir.specs.Types.{Ty, Scalar, PairOf, ArrayOf}
use Rattle.lift_ir.specs.Layouts.{operand_position, result_position}
use Rattle.lift_ir.specs.Terms.{LoadSet, Skip, Term, Literal, Both, Project, Reshape, LetArray, Map, Copy, push, HasType, no_type}
use Rattle.lift_ir.specs.Scalars.{Scalars, mapped, scalars_of}
use Rattle.printed_form.specs.Arguments.{marks_in, local_arrays}
use Rattle.printed_form.specs.Counts.{Count, more, no_variables, variable_count, private_count, local_count}
use Rattle.printed_form.specs.MapForms.{Looped, MapForms}
use Rattle.printed_form.specs.Marks.{Nowhere, Marks}
use Rattle.group_phases.specs.Phases.{Phase}
use Rattle.group_form.specs.Named.{cut, ways, element_ways, named_outside}
use Rattle.group_form.specs.Origins.{Origin, Elsewhere, origin_of}
use Rattle.group_form.specs.Uses.{Use, Destination, Locals, Outputs, loop_uses}

-- a phase at every turn. A position of its value goes to `outer` of it where the value lies, and
-- `path` leads back
pub record Stage (A : Type 0) : Type 0 where
  pub phase : Phase A
  pub env : (turn var : ℕ) → Marks
  pub sems : (turn var : ℕ) → Scalars
  pub marks : (turn : ℕ) → Marks
  pub scalars : (turn : ℕ) → Scalars
  pub destination : Destination
  pub outer : List ℕ → List ℕ
  pub path : List ℕ → List ℕ
  pub direct : Bool  -- the map stands directly under the copy, or in the body of lets there
  pub origins : (var : ℕ) → Origin
  pub origin : Origin

-- what stands for variables at each turn, their scalars, types and origins, and how many private
-- variables, private and local arrays there are before
pub record Scope : Type 0 where
  pub env : (turn var : ℕ) → Marks
  pub sems : (turn var : ℕ) → Scalars
  pub types : ℕ → Ty
  pub origins : ℕ → Origin
  pub variables : Count
  pub privates : ℕ
  pub locals : ℕ

-- after a term's phases
abbrev pub later : {A : Type 0} → Scope → Term A → Scope
later s t = record {
  env = s.env;
  sems = s.sems;
  types = s.types;
  origins = s.origins;
  variables = more s.variables (variable_count t);
  privates = s.privates + private_count t;
  locals = s.locals + local_count t;
}

module _ {A : Type 0} (num : A → ℕ) (ins : ℕ → Marks) where
  -- what stands for an argument at a turn, whose first local array is this
  abbrev pub marks_of : ((turn var : ℕ) → Marks) → ℕ → Term A → (turn : ℕ) → Marks
  marks_of env k t i = marks_in local_arrays num ins (env i) k t

module _ {A : Type 0} (num : A → ℕ) (ins : ℕ → Marks) (src : ℕ → Ty) (sources : ℕ → Scalars) where
  -- in the body of a let
  abbrev pub bind : Scope → Term A → Ty → Scope
  bind s v u = record {
    env = λ i. push (marks_of num ins s.env s.locals v i) (s.env i);
    sems = λ i. push (scalars_of num sources (s.sems i) v) (s.sems i);
    types = push u s.types;
    origins = push (origin_of s.origins s.locals v) s.origins;
    variables = more s.variables (variable_count v);
    privates = s.privates + private_count v;
    locals = s.locals + local_count v;
  }

module _ {A : Type 0} (num : A → ℕ) (forms : MapForms A) (ins : ℕ → Marks) (src : ℕ → Ty)
    (sources : ℕ → Scalars) where
  -- the phase of a local map over elements of type x, whose body is of type y
  abbrev pub stage_of : Scope → (n : A) → LoadSet → (xs b : Term A) → (x y : Ty) → Destination
      → (outer path : List ℕ → List ℕ) → (direct : Bool) → Stage A
  stage_of s n loads xs b x y d outer path direct = record {
    phase = record {
      form = forms.local n;
      len = num n;
      loads = loads;
      body = b;
      element = cut x (element_ways loads b);
      result = y;
      types = λ v. cut (s.types v) (ways v (named_outside b));
      variables = more s.variables (variable_count xs);
      privates = s.privates + private_count xs;
      locals = s.locals + local_count xs;
    };
    env = s.env;
    sems = s.sems;
    marks = marks_of num ins s.env s.locals xs;
    scalars = λ i. scalars_of num sources (s.sems i) xs;
    destination = d;
    outer = outer;
    path = path;
    direct = direct;
    origins = s.origins;
    origin = origin_of s.origins s.locals xs;
  }

  abbrev mutual
    -- of an argument that has a type
    pub argument_stages : (s : Scope) (t : Term A) (ty : Ty) → HasType num src s.types t ty
        → List (Stage A)
    argument_stages s (Both true a b) ty h =
        argument_stages s a (ArrayOf h.0 h.1) h.4
        ++ argument_stages (later s a) b (ArrayOf h.0 h.2) h.5
    argument_stages s (Project false a) ty h = argument_stages s a (PairOf ty h.0) h.1
    argument_stages s (Project true a) ty h = argument_stages s a (PairOf h.0 ty) h.1
    argument_stages s (Reshape l a) ty h = argument_stages s a h.0 h.1
    argument_stages s (LetArray v b) ty h =
        argument_stages s v h.0 h.1
        ++ argument_stages (bind num ins src sources s v h.0) b ty h.2
    argument_stages s (Copy space u a) ty h =
        written_stages s a ty h.2 (Locals (s.locals + local_count a) u) (λ p. p) (λ p. p) true
    argument_stages s _ ty h = []

    -- and of a term in writing position
    pub written_stages : (s : Scope) (t : Term A) (ty : Ty) → HasType num src s.types t ty
        → Destination → (outer path : List ℕ → List ℕ) → (direct : Bool) → List (Stage A)
    written_stages s (Reshape y a) ty h d outer path direct =
        written_stages s a h.0 h.1 d (λ p. outer (result_position num y p))
        (λ p. operand_position num y (path p)) false
    written_stages s (LetArray v b) ty h d outer path direct =
        argument_stages s v h.0 h.1
        ++ written_stages (bind num ins src sources s v h.0) b ty h.2 d outer path direct
    written_stages s (Map kind n loads xs b) ty h d outer path direct =
        argument_stages s xs (ArrayOf (num n) h.0) h.4
        ++ stage_of s n loads xs b h.0 h.1 d outer path direct ∷ []
    written_stages s _ ty h d outer path direct = []

-- a list of phases

-- the uses of local arrays by a phase
abbrev pub uses_in : {A : Type 0} → Stage A → List Use
uses_in s = loop_uses s.origins s.origin s.phase.loads s.phase.body s.destination s.direct

-- a phase that does nothing
abbrev pub no_stage : {A : Type 0} → Stage A
no_stage = record {
  phase =
      record {
        form = Looped;
        len = 0;
        loads = Skip;
        body = Literal 0;
        element = Scalar;
        result = Scalar;
        types = no_type;
        variables = no_variables;
        privates = 0;
        locals = 0;
      };
  env = λ i v cs p. Nowhere;
  sems = λ i v cs p. 0;
  marks = λ i cs p. Nowhere;
  scalars = λ i cs p. 0;
  destination = Outputs;
  outer = λ p. p;
  path = λ p. p;
  direct = false;
  origins = λ v. Elsewhere;
  origin = Elsewhere;
}

-- the phase with this number; behind the last it does nothing
abbrev pub stage_at : {A : Type 0} → List (Stage A) → ℕ → Stage A
stage_at [] q = no_stage
stage_at (s ∷ ss) zero = s
stage_at (s ∷ ss) (suc q) = stage_at ss q

-- the uses of local arrays by each
abbrev pub uses_of : {A : Type 0} → List (Stage A) → List (List Use)
uses_of stages = map uses_in stages

-- the positions of a phase's value
abbrev pub result_type : {A : Type 0} → Stage A → Ty
result_type s = ArrayOf s.phase.len s.phase.result

-- the scalars of its value at a turn
abbrev pub value_in : {A : Type 0} → (A → ℕ) → (ℕ → Scalars) → (turn : ℕ) → Stage A → Scalars
value_in num sources i s =
    mapped (λ x. scalars_of num sources (push x (s.sems i)) s.phase.body) (s.scalars i)
