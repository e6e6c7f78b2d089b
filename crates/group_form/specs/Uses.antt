-- The uses of local arrays by the phases of a map over work-groups, as functions of the term alone.
use Rattle.std.specs.Prelude.{ℕ, zero, suc, ◌+◌, Bool, true, false, List, [], ◌∷◌, ◌++◌}
use Rattle.barrier_placement.specs.declared.touches.Touch.{Touch}
use Rattle.lift_ir.specs.Types.{Ty, width}
use Rattle.lift_ir.specs.Terms.{LoadSet, Term, Both, Project, Reshape, LetArray, Map, Copy, push}
use Rattle.printed_form.specs.Counts.{local_count}
use Rattle.group_form.specs.Named.{Component, element_ways, named_outside}
use Rattle.group_form.specs.Origins.{Origin, Elsewhere, Within, BySide, at_way, bent, origin_of}

-- a phase's use of a local array
pub record Use : Type 0 where
  pub array : ℕ
  pub writes : Bool
  pub aligned : Bool

-- where a phase's value goes: to local arrays, one for each component of a type, the first of which
-- is this; or to the outputs
pub data Destination : Type 0 where
  Locals : (first : ℕ) → Ty → Destination
  Outputs : Destination

-- reads of all that lies there
abbrev pub reads_of : Origin → List Use
reads_of Elsewhere = []
reads_of (Within a plainly) = record { array = a; writes = false; aligned = plainly } ∷ []
reads_of (BySide a b) = reads_of a ++ reads_of b

-- of an argument's components
abbrev pub element_reads : Origin → List (List Bool) → List Use
element_reads o [] = []
element_reads o (w ∷ ws) = reads_of (at_way o w) ++ element_reads o ws

-- of variables' components: none of these is aligned
abbrev pub variable_reads : (ℕ → Origin) → List Component → List Use
variable_reads env [] = []
variable_reads env (c ∷ cs) = reads_of (at_way (bent (env c.var)) c.way) ++ variable_reads env cs

-- writes of so many arrays; they are aligned where the local map stands directly under the copy, or
-- in the body of lets there
abbrev pub writes_from : (first : ℕ) → (direct : Bool) → (count : ℕ) → List Use
writes_from f direct zero = []
writes_from f direct (suc n) =
    record { array = f + n; writes = true; aligned = direct } ∷ writes_from f direct n

-- of the arrays of a destination; an output isn't local
abbrev pub writes_to : Destination → (direct : Bool) → List Use
writes_to (Locals f ty) direct = writes_from f direct (width ty)
writes_to Outputs direct = []

-- the uses by the loop of a local map
abbrev pub loop_uses : {A : Type 0} → (ℕ → Origin) → (argument : Origin) → LoadSet → (body : Term A)
    → Destination → (direct : Bool) → List Use
loop_uses env o loads b d direct =
    writes_to d direct
    ++ (element_reads o (element_ways loads b) ++ variable_reads env (named_outside b))

abbrev mutual
  -- the uses by each of an argument's phases, where variables have these origins and its first
  -- local array is this
  pub argument_uses : {A : Type 0} → (ℕ → Origin) → ℕ → Term A → List (List Use)
  argument_uses env k (Both zips a b) =
      argument_uses env k a ++ argument_uses env (k + local_count a) b
  argument_uses env k (Project s a) = argument_uses env k a
  argument_uses env k (Reshape l a) = argument_uses env k a
  argument_uses env k (LetArray v b) =
      argument_uses env k v ++ argument_uses (push (origin_of env k v) env) (k + local_count v) b
  argument_uses env k (Copy space ty a) = written_uses env k a (Locals (k + local_count a) ty) true
  argument_uses env k _ = []

  -- and by those of a term in writing position
  pub written_uses : {A : Type 0} → (ℕ → Origin) → ℕ → Term A → Destination → (direct : Bool)
      → List (List Use)
  written_uses env k (Reshape l a) d direct = written_uses env k a d false
  written_uses env k (LetArray v b) d direct =
      argument_uses env k v
      ++ written_uses (push (origin_of env k v) env) (k + local_count v) b d direct
  written_uses env k (Map kind n loads xs b) d direct =
      argument_uses env k xs ++ loop_uses env (origin_of env k xs) loads b d direct ∷ []
  written_uses env k _ d direct = []

-- a use of a local array by the phase with this number
abbrev pub touch_of : (phase : ℕ) → Use → Touch
touch_of q u = record {
  phase = q;
  buffer = u.array;
  writes = u.writes;
  aligned = u.aligned;
  local = true;
}

-- and all of that phase
abbrev pub touches_in : (phase : ℕ) → List Use → List Touch
touches_in q [] = []
touches_in q (u ∷ us) = touch_of q u ∷ touches_in q us

-- the phases numbered from this on
abbrev pub numbered : (phase : ℕ) → List (List Use) → List Touch
numbered q [] = []
numbered q (us ∷ uss) = touches_in q us ++ numbered (suc q) uss

-- of the body of a map over work-groups
abbrev pub body_uses : {A : Type 0} → Term A → List (List Use)
body_uses b = written_uses (λ v. Elsewhere) 0 b Outputs false

-- of a whole term
abbrev pub group_uses : {A : Type 0} → Term A → List (List Use)
group_uses (Reshape l t) = group_uses t
group_uses (LetArray v b) = group_uses b
group_uses (Map k n loads xs b) = body_uses b
group_uses _ = []

-- how many local maps a term outside local maps has: each is a phase
abbrev pub phases_in : {A : Type 0} → Term A → ℕ
phases_in (Both zips a b) = phases_in a + phases_in b
phases_in (Project s a) = phases_in a
phases_in (Reshape l a) = phases_in a
phases_in (LetArray v b) = phases_in v + phases_in b
phases_in (Map kind n loads xs b) = phases_in xs + 1
phases_in (Copy space ty a) = phases_in a
phases_in _ = 0

-- how many phases a whole term has
abbrev pub phase_count : {A : Type 0} → Term A → ℕ
phase_count (Reshape l t) = phase_count t
phase_count (LetArray v b) = phase_count b
phase_count (Map kind n loads xs b) = phases_in b
phase_count _ = 0

-- the uses by all its phases
abbrev pub group_touches : {A : Type 0} → Term A → List Touch
group_touches t = numbered 0 (group_uses t)
