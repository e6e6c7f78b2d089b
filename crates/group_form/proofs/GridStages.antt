-- The phases of a map over groups in two dimensions, and lists of them.
use Rattle.std.proofs.Common.{◌≡◌, ℕ, zero, suc, ◌+◌, ◌*◌, ◌/◌, ◌%◌, ◌<◌, List, [], ◌∷◌, ◌++◌, length, Bool, true, false, subst, arith}
use Rattle.std.specs.Prelude.{map, if◌then◌else◌, nat_lt, slice_index}
use Rattle.kernel_tree.specs.Code.{Array, Input, Output, Local as LocalArray, Private}
use Rattle.kernel_tree.specs.Device.{Cell, row}
use Rattle.kernel_tree.specs.Launch.{Launch, Cells}
use Rattle.kernel_tree.specs.Numbering.{member_at}
use Rattle.lift_ir.specs.Types.{Ty, Scalar, PairOf, ArrayOf, unflat}
use Rattle.lift_ir.specs.Layouts.{operand_position, result_position}
use Rattle.lift_ir.specs.Terms.{LoadSet, Skip, Term, Literal, Both, Project, Reshape, LetArray, Map, Copy, push, HasType, no_type}
use Rattle.lift_ir.specs.Scalars.{Scalars, at_index, scalars_of}
use Rattle.printed_form.specs.Arguments.{marks_in, local_arrays}
use Rattle.printed_form.specs.Counts.{Count, more, no_variables, load_count, variable_count, private_count, local_count}
use Rattle.printed_form.specs.MapForms.{MapForm, Looped}
use Rattle.printed_form.specs.Marks.{Nowhere, Marks, loaded_marks}
use Rattle.group_phases.specs.GridPhases.{GridList}
use Rattle.group_phases.specs.Grids.{Grid, place_taken, group_walk}
use Rattle.group_phases.specs.NestRows.{Nest, NestPlace, nest_scalars}
use Rattle.group_phases.specs.Phases.{TurnElement}
use Rattle.group_form.specs.Body.{destination_marks, locals_end, first_index, held_choices}
use Rattle.group_form.specs.GridTerms.{GridForms}
use Rattle.group_form.specs.Named.{cut, ways, element_ways, named_outside}
use Rattle.group_form.specs.Origins.{bent, origin_of}
use Rattle.group_form.specs.Stages.{Scope, later, bind, marks_of}
use Rattle.group_form.specs.Uses.{Use, Destination, Locals, Outputs, loop_uses, numbered}
use Rattle.group_form.proofs.Named.{body_typed}

-- a phase at every turn. A place of its value goes to `outer` of its position where the value lies,
-- and `path` leads back
pub record Stage (A : Type 0) : Type 0 where
  pub nest : Nest A
  pub locals : ℕ
  pub row_marks : (turn : ℕ) → Marks
  pub row_scalars : (turn : ℕ) → Scalars
  pub env : (turn row var : ℕ) → Marks
  pub sems : (turn row var : ℕ) → Scalars
  pub marks : (turn row : ℕ) → Marks
  pub scalars : (turn row : ℕ) → Scalars
  pub destination : Destination
  pub outer : List ℕ → List ℕ
  pub path : List ℕ → List ℕ
  pub uses : List Use

-- behind a row
abbrev pub under : (List ℕ → List ℕ) → List ℕ → List ℕ
under f [] = []
under f (r ∷ p) = r ∷ f p

-- a place's number, as a row and a place in it, and back
abbrev pub split_up : ℕ → List ℕ → List ℕ
split_up n [] = []
split_up n (i ∷ p) = i / n ∷ i % n ∷ p

abbrev pub joined_up : ℕ → List ℕ → List ℕ
joined_up n [] = []
joined_up n (r ∷ []) = r ∷ []
joined_up n (r ∷ i ∷ p) = (r * n + i) ∷ p

-- a phase that does nothing
abbrev pub no_stage : {A : Type 0} → Stage A
no_stage = record {
  nest = record {
    grid = record { rows = 0; columns = 0 };
    rows_form = Looped;
    columns_form = Looped;
    row_loads = Skip;
    loads = Skip;
    body = Literal 0;
    row_element = Scalar;
    element = Scalar;
    result = Scalar;
    types = no_type;
    variables = no_variables;
    inner = no_variables;
    privates = 0;
  };
  locals = 0;
  row_marks = λ i cs p. Nowhere;
  row_scalars = λ i cs p. 0;
  env = λ i r v cs p. Nowhere;
  sems = λ i r v cs p. 0;
  marks = λ i r cs p. Nowhere;
  scalars = λ i r cs p. 0;
  destination = Outputs;
  outer = λ p. p;
  path = λ p. p;
  uses = [];
}

-- the phase with this number; behind the last it does nothing
abbrev pub stage_at : {A : Type 0} → List (Stage A) → ℕ → Stage A
stage_at [] q = no_stage
stage_at (s ∷ ss) zero = s
stage_at (s ∷ ss) (suc q) = stage_at ss q

-- what stands for a phase's values in a turn, and where they go
abbrev pub place_of : {A : Type 0} → (out : Marks) → (turn : ℕ) → Stage A → NestPlace
place_of out i s = record {
  row_marks = s.row_marks i;
  row_scalars = s.row_scalars i;
  env = s.env i;
  sems = s.sems i;
  marks = s.marks i;
  scalars = s.scalars i;
  to = λ cs p. destination_marks out i s.destination cs (s.outer p);
}

module _ {A : Type 0} (num : A → ℕ) (forms : GridForms A) (ins : ℕ → Marks) (src : ℕ → Ty) (sources : ℕ → Scalars) where
  -- of a map along a row, in a scope of rows, where the rows' scalars are in variables from this on
  abbrev pub along_stage : (n : A) → LoadSet → (row_element : Ty) → (types : ℕ → Ty) → (row_marks : ℕ → Marks) → (row_scalars : ℕ → Scalars) → (env : (turn row var : ℕ) → Marks) → (sems : (turn row var : ℕ) → Scalars) → (locals privates : ℕ) → (variables : Count) → List Use → Destination
      → (t : Term A) (ty : Ty) → HasType num src types t ty → (outer path : List ℕ → List ℕ) → Stage A
  along_stage n loads x types rm rs env sems k a m us d (Reshape y t) ty h outer path =
      along_stage n loads x types rm rs env sems k a m us d t h.0 h.1 (λ p. outer (under (result_position num y) p)) (λ p. under (operand_position num y) (path p))
  along_stage n loads x types rm rs env sems k a m us d (Map kind n2 loads2 ys b) ty h outer path = record {
    nest = record {
      grid = record { rows = num n; columns = num n2 };
      rows_form = forms.rows.local n;
      columns_form = forms.columns.local n2;
      row_loads = loads;
      loads = loads2;
      body = b;
      row_element = x;
      element = h.0;
      result = h.1;
      types = types;
      variables = m;
      inner = more (more m (load_count loads)) (variable_count ys);
      privates = a + private_count ys;
    };
    locals = k;
    row_marks = rm;
    row_scalars = rs;
    env = env;
    sems = sems;
    marks = λ i r. marks_in local_arrays num ins (env i r) k ys;
    scalars = λ i r. scalars_of num sources (sems i r) ys;
    destination = d;
    outer = λ p. outer (split_up (num n2) p);
    path = λ p. joined_up (num n2) (path p);
    uses = us;
  }
  along_stage n loads x types rm rs env sems k a m us d _ ty h outer path = no_stage

  abbrev mutual
    -- of an argument that has a type
    pub argument_stages : (s : Scope) (t : Term A) (ty : Ty) → HasType num src s.types t ty → List (Stage A)
    argument_stages s (Both true a b) ty h = argument_stages s a (ArrayOf h.0 h.1) h.4 ++ argument_stages (later s a) b (ArrayOf h.0 h.2) h.5
    argument_stages s (Project false a) ty h = argument_stages s a (PairOf ty h.0) h.1
    argument_stages s (Project true a) ty h = argument_stages s a (PairOf h.0 ty) h.1
    argument_stages s (Reshape l a) ty h = argument_stages s a h.0 h.1
    argument_stages s (LetArray v b) ty h = argument_stages s v h.0 h.1 ++ argument_stages (bind num ins src sources s v h.0) b ty h.2
    argument_stages s (Copy space u a) ty h = written_stages s a ty h.2 (Locals (s.locals + local_count a) u) (λ p. p) (λ p. p)
    argument_stages s _ ty h = []

    -- and of a term in writing position
    pub written_stages : (s : Scope) (t : Term A) (ty : Ty) → HasType num src s.types t ty → Destination → (outer path : List ℕ → List ℕ) → List (Stage A)
    written_stages s (Reshape y a) ty h d outer path = written_stages s a h.0 h.1 d (λ p. outer (result_position num y p)) (λ p. operand_position num y (path p))
    written_stages s (LetArray v b) ty h d outer path = argument_stages s v h.0 h.1 ++ written_stages (bind num ins src sources s v h.0) b ty h.2 d outer path
    written_stages s (Map kind n loads xs b) ty h d outer path =
        argument_stages s xs (ArrayOf (num n) h.0) h.4
        ++ along_stage n loads (cut h.0 (element_ways loads b)) (push (cut h.0 (element_ways loads b)) (λ v. cut (s.types v) (ways v (named_outside b)))) (marks_of num ins s.env s.locals xs) (λ i. scalars_of num sources (s.sems i) xs)
        (λ i r. push (loaded_marks loads (at_index r (marks_of num ins s.env s.locals xs i)) (more s.variables (variable_count xs))) (s.env i)) (λ i r. push (at_index r (scalars_of num sources (s.sems i) xs)) (s.sems i))
        (s.locals + local_count xs) (s.privates + private_count xs) (more s.variables (variable_count xs)) (loop_uses s.origins (bent (origin_of s.origins s.locals xs)) loads b d false) d
        b h.1 (body_typed num src s.types loads b h.0 h.1 h.5) outer path ∷ []
    written_stages s _ ty h d outer path = []

-- the uses of local arrays by each
abbrev pub uses_of : {A : Type 0} → List (Stage A) → List (List Use)
uses_of ss = map Stage.uses ss

-- how many places a phase has, and the type of its value, whose rows lie one after another
abbrev pub result_type : {A : Type 0} → Stage A → Ty
result_type s = ArrayOf (s.nest.grid.rows * s.nest.grid.columns) s.nest.result

-- the scalars of its value at a turn
abbrev pub value_in : {A : Type 0} → (A → ℕ) → (ℕ → Scalars) → Marks → (turn : ℕ) → Stage A → Scalars
value_in num sources out i s = nest_scalars num sources s.nest (place_of out i s)

-- the number of the phase that fills a local array
abbrev pub home_in : {A : Type 0} → List (Stage A) → ℕ → ℕ
home_in [] a = 0
home_in (s ∷ ss) a = if nat_lt a (locals_end s.destination) then 0 else suc (home_in ss a)

-- the position of a phase's value that a cell holds
abbrev pub held_position : {A : Type 0} → Stage A → Destination → (index : ℕ) → List ℕ
held_position s (Locals first ty) n = s.path (unflat ty n)
held_position s Outputs n = []

-- the item of a group that takes this place of a map with so many places in a row
abbrev pub item_in : Launch → (group columns place : ℕ) → ℕ
item_in l g n i = member_at l g (((i / n) % l.local.1) * l.local.0 + (i % n) % l.local.0)

-- a map over a grid of groups, with its stages
pub record GridBody (A : Type 0) : Type 0 where
  pub once : Bool
  pub grid : Grid
  pub rows_form : MapForm
  pub columns_form : MapForm
  pub variables : Count
  pub forms : GridForms A
  pub ins : ℕ → Marks
  pub src : ℕ → Ty
  pub sources : ℕ → Scalars
  pub row_top : TurnElement
  pub top : TurnElement
  pub out : Marks
  pub result : Ty
  pub stages : List (Stage A)

module _ {A : Type 0} (num : A → ℕ) (l : Launch) (c : Cells) (wanted : List (List ℕ)) (b : GridBody A) where
  -- the phase that fills a local array, of which component, and which position a cell of it holds
  abbrev pub filling : (array : ℕ) → Stage A
  filling a = stage_at b.stages (home_in b.stages a)

  abbrev pub position_in : (array index : ℕ) → List ℕ
  position_in a n = held_position (filling a) (filling a).destination n

  -- what a group's turn is to leave in the arrays
  abbrev pub content : (group turn : ℕ) → Array → ℕ → ℕ
  content g t (Input a) n = slice_index (row c.ins a) n
  content g t (Output a) n = slice_index (row wanted a) n
  content g t (LocalArray a) n = value_in num b.sources b.out (place_taken b.grid (group_walk l g) t) (filling a) (held_choices (filling a).destination a) (position_in a n)
  content g t (Private a) n = 0

  -- a local cell is filled by the item that computes its place
  abbrev pub filler_of : (group : ℕ) → Array → ℕ → ℕ
  filler_of g (LocalArray a) n = item_in l g (filling a).nest.grid.columns (first_index (position_in a n))
  filler_of g _ n = 0

  abbrev pub filler : Cell → ℕ
  filler x = filler_of x.home x.array x.index

  -- the phases, with their cells and contents
  abbrev pub grid_list : GridList A
  grid_list = record {
    grid = b.grid;
    rows_form = b.rows_form;
    columns_form = b.columns_form;
    once = b.once;
    count = length b.stages;
    variables = b.variables;
    ins = b.ins;
    src = b.src;
    sources = b.sources;
    row_top = b.row_top;
    top = b.top;
    phase = λ q. (stage_at b.stages q).nest;
    locals = λ q. (stage_at b.stages q).locals;
    place = λ i q. place_of b.out i (stage_at b.stages q);
    touches = numbered 0 (uses_of b.stages);
    filled_in = home_in b.stages;
    filler = filler;
    value = λ g t x. content g t x.array x.index;
  }

-- lists of stages

-- each of the stages, the first of which has this number
abbrev pub Each : {A : Type 0} → (ℕ → Stage A → Type 0) → ℕ → List (Stage A) → Type 0
Each P q [] = Unit {0}
Each P q (s ∷ ss) = P q s × Each P (suc q) ss

module _ {A : Type 0} (P : ℕ → Stage A → Type 0) where
  pub each_append : (q : ℕ) (xs ys : List (Stage A)) → Each P q xs → Each P (q + length xs) ys → Each P q (xs ++ ys)
  each_append q [] ys a b = let e : q + 0 ≡ q = omega arith in subst (λ z. Each P z ys) e b
  each_append q (x ∷ xs) ys a b = let e : q + suc (length xs) ≡ suc q + length xs = omega arith in (a.0, each_append (suc q) xs ys a.1 (subst (λ z. Each P z ys) e b))

  pub each_left : (q : ℕ) (xs ys : List (Stage A)) → Each P q (xs ++ ys) → Each P q xs
  each_left q [] ys a = tt
  each_left q (x ∷ xs) ys a = (a.0, each_left (suc q) xs ys a.1)

  pub each_right : (q : ℕ) (xs ys : List (Stage A)) → Each P q (xs ++ ys) → Each P (q + length xs) ys
  each_right q [] ys a = let e : q ≡ q + 0 = omega arith in subst (λ z. Each P z ys) e a
  each_right q (x ∷ xs) ys a = let e : suc q + length xs ≡ q + suc (length xs) = omega arith in subst (λ z. Each P z ys) e (each_right (suc q) xs ys a.1)

  pub each_at : (q i : ℕ) (xs : List (Stage A)) → Each P q xs → i < length xs → P (q + i) (stage_at xs i)
  each_at q i [] a lt = absurd (omega arith)
  each_at q zero (x ∷ xs) a lt = let e : q ≡ q + 0 = omega arith in subst (λ z. P z x) e a.0
  each_at q (suc i) (x ∷ xs) a lt = let e : suc q + i ≡ q + suc i = omega arith in subst (λ z. P z (stage_at xs i)) e (each_at (suc q) i xs a.1 (omega arith))

  pub each_from : (q : ℕ) (xs : List (Stage A)) → ((i : ℕ) → i < length xs → P (q + i) (stage_at xs i)) → Each P q xs
  each_from q [] f = tt
  each_from q (x ∷ xs) f =
      let e : q + 0 ≡ q = omega arith in
      (subst (λ z. P z x) e (f 0 (omega arith)), each_from (suc q) xs (λ i lt. let e2 : q + suc i ≡ suc q + i = omega arith in subst (λ z. P z (stage_at xs i)) e2 (f (suc i) (omega arith))))
