-- Code that is printed for a map over work-groups is printed for its phases.
use Rattle.std.proofs.Common.{◌≡◌, ℕ, zero, suc, ◌+◌, ◌<◌, List, [], ◌∷◌, length, Bool, true, false, refl, sym, subst, arith}
use Rattle.lift_tree.specs.declared.term.Level.TheVariants.{Groups, Items}
use Rattle.lift_tree.specs.declared.term.Dimension.TheVariants.{X}
use Rattle.kernel_tree.specs.Code.{Code, End}
use Rattle.kernel_tree.specs.Launch.{Launch, Cells, item_count}
use Rattle.barrier_placement.specs.declared.touches.Touch.{Touch}
use Rattle.barrier_placement.specs.Fencing.{Fencing, Open, Fenced, stands}
use Rattle.barrier_placement.specs.Needed.{Needed}
use Rattle.lift_ir.specs.Types.{Ty, PairOf, ArrayOf}
use Rattle.lift_ir.specs.Layouts.{operand_position, result_position}
use Rattle.lift_ir.specs.Terms.{Over, LocalMemory, Term, Bound, Source, Both, Project, Reshape, LetArray, Map, Copy, push, HasType}
use Rattle.lift_ir.specs.Scalars.{at_index}
use Rattle.printed_form.specs.Counts.{more, no_variables, load_count, local_count}
use Rattle.printed_form.specs.Marks.{Marks, loaded_marks}
use Rattle.printed_form.specs.Form.{IsTurnOf, IsLoaded, IsWritten}
use Rattle.printed_form.specs.MapForms.{form_over_groups, variables_in, AreTurns}
use Rattle.group_phases.specs.Epochs.{IsPast}
use Rattle.group_phases.specs.Phased.{ArePhases}
use Rattle.group_phases.specs.Phases.{PhaseList, IsPhaseMap, IsPhase}
use Rattle.group_form.specs.Forms.{StandsInGroup}
use Rattle.group_form.specs.Uses.{Destination, Locals, phases_in}
use Rattle.group_form.specs.Stages as stages
use Rattle.group_form.specs.Stages.{Stage, Scope, later, stage_at}
use Rattle.group_form.specs.Body.{GroupBody, destination_marks, goes_to, phase_list}
use Rattle.group_form.specs.Form as form
use Rattle.group_form.specs.Form.{Used}
use Rattle.group_form.proofs.Lists.{Each, long_append, each_left, each_right}

-- nothing stands before the first phase
pub open_first : (touches : List Touch) (once : Bool) (n : ℕ) (fence : ℕ → Fencing) → 0 < n → Needed touches once n fence → fence 0 ≡ Open
open_first touches once n fence some h = is_open (fence 0) (λ e. let z = h.flagged 0 (omega arith) e in let w = (h.before z.0 0 some).0 z.1 in let lt = w.1.earlier in omega arith)
  where
    is_open : (f : Fencing) → (stands f ≡ true → ⊥) → f ≡ Open
    is_open Open n = refl
    is_open (Fenced a b) n = absurd (n refl)

module _ {A : Type 0} (num : A → ℕ) (l : Launch) (c : Cells) (wanted : List (List ℕ)) (b : GroupBody A) (fence : ℕ → Fencing) where
  abbrev p : PhaseList A
  p = phase_list num l c wanted b

  -- m phases from phase q on, each after what stands before it
  abbrev pub Between : (q m : ℕ) → (code rest : Code) → Type 0
  Between q zero code rest = code ≡ rest
  Between q (suc m) code rest = (mid mid2 : Code) × IsPast (fence q) code mid × IsPhaseMap num l p q mid mid2 × Between (suc q) m mid2 rest

  between_append : (q m n : ℕ) (code mid rest : Code) → Between q m code mid → Between (q + m) n mid rest → Between q (m + n) code rest
  between_append q zero n code mid rest x y =
      let e : q + 0 ≡ q = omega arith in
      let z : n ≡ 0 + n = omega arith in
      subst (λ w. Between q w code rest) z (subst (λ w. Between q n w rest) (sym x) (subst (λ w. Between w n mid rest) e y))
  between_append q (suc m) n code mid rest x y =
      let e : q + suc m ≡ suc q + m = omega arith in
      let z : suc (m + n) ≡ suc m + n = omega arith in
      let all : Between q (suc (m + n)) code rest = (x.0, x.1, x.2, x.3, between_append (suc q) m n x.1 mid rest x.4 (subst (λ w. Between w n mid rest) e y)) in
      subst (λ w. Between q w code rest) z all

  abbrev Stand : ℕ → List (Stage A) → Type 0
  Stand = Each (λ q s. stage_at b.stages q ≡ s)

  abbrev argument_stages : (s : Scope) (t : Term A) (ty : Ty) → HasType num b.src s.types t ty → List (Stage A)
  argument_stages = stages.argument_stages num b.forms b.ins b.src b.sources

  abbrev written_stages : (s : Scope) (t : Term A) (ty : Ty) → HasType num b.src s.types t ty → Destination → (outer path : List ℕ → List ℕ) → Bool → List (Stage A)
  written_stages = stages.written_stages num b.forms b.ins b.src b.sources

  abbrev bind : Scope → Term A → Ty → Scope
  bind = stages.bind num b.ins b.src b.sources

  abbrev used : Scope → ℕ → Used
  used s n = record { locals = s.locals; privates = s.privates; variables = s.variables; phases = n }

  abbrev IsArgument : Scope → (n : ℕ) → Term A → (code rest : Code) → Type 0
  IsArgument s n t code rest = form.IsGroupArgument num b.forms l b.ins fence (form_over_groups b.once) b.turns s.env (used s n) t code rest

  abbrev goes : Destination → (outer : List ℕ → List ℕ) → (turn : ℕ) → Marks
  goes d outer i = λ cs r. destination_marks b.out i d cs (outer r)

  abbrev IsWrittenAt : Scope → (n : ℕ) → Term A → Destination → (outer : List ℕ → List ℕ) → (code rest : Code) → Type 0
  IsWrittenAt s n t d outer code rest = form.IsGroupWritten num b.forms l b.ins fence (form_over_groups b.once) b.turns s.env (used s n) t (goes d outer) code rest

  -- the map of a stage, at every turn
  abbrev MapOf : Stage A → Code → Code → Type 0
  MapOf s code rest =
      (item i : ℕ) → item < item_count l → i < b.turns → IsTurnOf l item (Over Groups X) i
      → AreTurns l item b.ins s.phase.form (Over Items X) (variables_in (form_over_groups b.once) [] i) s.phase.len
      (λ ts j body last. (inner : Code) × IsLoaded l item b.ins ts s.phase.loads (at_index j (s.marks i)) s.phase.variables body inner
      × IsWritten l item b.ins num ts (push (loaded_marks s.phase.loads (at_index j (s.marks i)) s.phase.variables) (s.env i)) s.phase.privates (more s.phase.variables (load_count s.phase.loads)) s.phase.body (at_index j (goes_to b.out i s)) inner last)
      code rest

  mutual
    argument_count : (t : Term A) (s : Scope) (ty : Ty) (h : HasType num b.src s.types t ty) → StandsInGroup false t → length (argument_stages s t ty h) ≡ phases_in t
    argument_count (Bound v) s ty h f = refl
    argument_count (Source a) s ty h f = refl
    argument_count (Both true x y) s ty h f =
        let one = argument_count x s (ArrayOf h.0 h.1) h.4 f.0 in
        let two = argument_count y (later s x) (ArrayOf h.0 h.2) h.5 f.1 in
        let sum = long_append (argument_stages s x (ArrayOf h.0 h.1) h.4) (argument_stages (later s x) y (ArrayOf h.0 h.2) h.5) in
        omega arith
    argument_count (Project false a) s ty h f = argument_count a s (PairOf ty h.0) h.1 f
    argument_count (Project true a) s ty h f = argument_count a s (PairOf h.0 ty) h.1 f
    argument_count (Reshape y a) s ty h f = argument_count a s h.0 h.1 f
    argument_count (LetArray v x) s ty h f =
        let one = argument_count v s h.0 h.1 f.0 in
        let two = argument_count x (bind s v h.0) ty h.2 f.1 in
        let sum = long_append (argument_stages s v h.0 h.1) (argument_stages (bind s v h.0) x ty h.2) in
        omega arith
    argument_count (Copy LocalMemory u x) s ty h f = written_count x s ty h.2 (Locals (s.locals + local_count x) u) (λ r. r) (λ r. r) true f
    argument_count _ s ty h f = absurd (assumption)

    pub written_count : (t : Term A) (s : Scope) (ty : Ty) (h : HasType num b.src s.types t ty) (d : Destination) (outer path : List ℕ → List ℕ) (direct : Bool) → StandsInGroup true t → length (written_stages s t ty h d outer path direct) ≡ phases_in t
    written_count (Reshape y a) s ty h d outer path direct f = written_count a s h.0 h.1 d (λ r. outer (result_position num y r)) (λ r. operand_position num y (path r)) false f.1
    written_count (LetArray v x) s ty h d outer path direct f =
        let one = argument_count v s h.0 h.1 f.0 in
        let two = written_count x (bind s v h.0) ty h.2 d outer path direct f.1 in
        let sum = long_append (argument_stages s v h.0 h.1) (written_stages (bind s v h.0) x ty h.2 d outer path direct) in
        omega arith
    written_count (Map (Over Items X) n loads xs body) s ty h d outer path direct f =
        let one = argument_count xs s (ArrayOf (num n) h.0) h.4 f.0 in
        let sum = long_append (argument_stages s xs (ArrayOf (num n) h.0) h.4) (stages.stage_of num b.forms b.ins b.src b.sources s n loads xs body h.0 h.1 d outer path direct ∷ []) in
        omega arith
    written_count _ s ty h d outer path direct f = absurd (assumption)

  mutual
    argument_phases : (t : Term A) (s : Scope) (ty : Ty) (h : HasType num b.src s.types t ty) (q n : ℕ) (code rest : Code) → n ≡ q → StandsInGroup false t → Stand q (argument_stages s t ty h) → IsArgument s n t code rest → Between q (length (argument_stages s t ty h)) code rest
    argument_phases (Bound v) s ty h q n code rest e f is x = x
    argument_phases (Source a) s ty h q n code rest e f is x = x
    argument_phases (Both true a y) s ty h q n code rest e f is x =
        let xs = argument_stages s a (ArrayOf h.0 h.1) h.4 in
        let ys = argument_stages (later s a) y (ArrayOf h.0 h.2) h.5 in
        let count = argument_count a s (ArrayOf h.0 h.1) h.4 f.0 in
        let one = argument_phases a s (ArrayOf h.0 h.1) h.4 q n code x.0 e f.0 (each_left (λ r t. stage_at b.stages r ≡ t) q xs ys is) x.1 in
        let two = argument_phases y (later s a) (ArrayOf h.0 h.2) h.5 (q + length xs) (n + phases_in a) x.0 rest (omega arith) f.1 (each_right (λ r t. stage_at b.stages r ≡ t) q xs ys is) x.2 in
        subst (λ z. Between q z code rest) (sym (long_append xs ys)) (between_append q (length xs) (length ys) code x.0 rest one two)
    argument_phases (Project false a) s ty h q n code rest e f is x = argument_phases a s (PairOf ty h.0) h.1 q n code rest e f is x
    argument_phases (Project true a) s ty h q n code rest e f is x = argument_phases a s (PairOf h.0 ty) h.1 q n code rest e f is x
    argument_phases (Reshape y a) s ty h q n code rest e f is x = argument_phases a s h.0 h.1 q n code rest e f is x
    argument_phases (LetArray v y) s ty h q n code rest e f is x =
        let t = bind s v h.0 in
        let xs = argument_stages s v h.0 h.1 in
        let ys = argument_stages t y ty h.2 in
        let count = argument_count v s h.0 h.1 f.0 in
        let one = argument_phases v s h.0 h.1 q n code x.0 e f.0 (each_left (λ r t. stage_at b.stages r ≡ t) q xs ys is) x.1 in
        let two = argument_phases y t ty h.2 (q + length xs) (n + phases_in v) x.0 rest (omega arith) f.1 (each_right (λ r t. stage_at b.stages r ≡ t) q xs ys is) x.2 in
        subst (λ z. Between q z code rest) (sym (long_append xs ys)) (between_append q (length xs) (length ys) code x.0 rest one two)
    argument_phases (Copy LocalMemory u a) s ty h q n code rest e f is x = written_phases a s ty h.2 (Locals (s.locals + local_count a) u) (λ r. r) (λ r. r) true q n code rest e f is x
    argument_phases _ s ty h q n code rest e f is x = absurd (assumption)

    pub written_phases : (t : Term A) (s : Scope) (ty : Ty) (h : HasType num b.src s.types t ty) (d : Destination) (outer path : List ℕ → List ℕ) (direct : Bool) (q n : ℕ) (code rest : Code) → n ≡ q → StandsInGroup true t → Stand q (written_stages s t ty h d outer path direct) → IsWrittenAt s n t d outer code rest
        → Between q (length (written_stages s t ty h d outer path direct)) code rest
    written_phases (Reshape y a) s ty h d outer path direct q n code rest e f is x = written_phases a s h.0 h.1 d (λ r. outer (result_position num y r)) (λ r. operand_position num y (path r)) false q n code rest e f.1 is x.1
    written_phases (LetArray v y) s ty h d outer path direct q n code rest e f is x =
        let t = bind s v h.0 in
        let xs = argument_stages s v h.0 h.1 in
        let ys = written_stages t y ty h.2 d outer path direct in
        let count = argument_count v s h.0 h.1 f.0 in
        let one = argument_phases v s h.0 h.1 q n code x.0 e f.0 (each_left (λ r t. stage_at b.stages r ≡ t) q xs ys is) x.1 in
        let two = written_phases y t ty h.2 d outer path direct (q + length xs) (n + phases_in v) x.0 rest (omega arith) f.1 (each_right (λ r t. stage_at b.stages r ≡ t) q xs ys is) x.2 in
        subst (λ z. Between q z code rest) (sym (long_append xs ys)) (between_append q (length xs) (length ys) code x.0 rest one two)
    written_phases (Map (Over Items X) m loads xs body) s ty h d outer path direct q n code rest e f is x =
        let ss = argument_stages s xs (ArrayOf (num m) h.0) h.4 in
        let t = stages.stage_of num b.forms b.ins b.src b.sources s m loads xs body h.0 h.1 d outer path direct in
        let r = q + length ss in
        let count = argument_count xs s (ArrayOf (num m) h.0) h.4 f.0 in
        let at : n + phases_in xs ≡ r = omega arith in
        let here : stage_at b.stages r ≡ t = (each_right (λ r t. stage_at b.stages r ≡ t) q ss (t ∷ []) is).0 in
        let one = argument_phases xs s (ArrayOf (num m) h.0) h.4 q n code x.0 e f.0 (each_left (λ r t. stage_at b.stages r ≡ t) q ss (t ∷ []) is) x.2 in
        let this : Between r 1 x.0 rest = (x.1, rest, subst (λ z. IsPast (fence z) x.0 x.1) at x.3, subst (λ z. MapOf z x.1 rest) (sym here) x.4, refl) in
        subst (λ z. Between q z code rest) (sym (long_append ss (t ∷ []))) (between_append q (length ss) 1 code x.0 rest one this)
    written_phases _ s ty h d outer path direct q n code rest e f is x = absurd (assumption)

  from_between : (q m : ℕ) (code last : Code) → Between (suc q) m code last → IsPast (fence (suc q + m)) last End → ArePhases fence (IsPhase num l p) (suc q) m code
  from_between q zero code last x y = let e : suc q + 0 ≡ suc q = omega arith in subst (λ z. IsPast (fence (suc q)) z End) (sym x) (subst (λ z. IsPast (fence z) last End) e y)
  from_between q (suc m) code last x y = let e : suc q + suc m ≡ suc (suc q) + m = omega arith in (x.0, x.1, x.2, x.3, from_between (suc q) m x.1 last x.4 (subst (λ z. IsPast (fence z) last End) e y))

  -- with the loads of the turn's scalars
  pub are_phases : (m : ℕ) (body first last : Code) → fence 0 ≡ Open → 0 < m → ((item i : ℕ) → item < item_count l → i < b.turns → IsTurnOf l item (Over Groups X) i → IsLoaded l item b.ins (variables_in (form_over_groups b.once) [] i) b.top.loads (b.top.marks i) no_variables body first) → Between 0 m first last → IsPast (fence m) last End → ArePhases fence (IsPhase num l p) 0 m body
  are_phases zero body first last none some loads x y = absurd (omega arith)
  are_phases (suc m) body first last none some loads x y =
      let same : first ≡ x.0 = subst (λ z. IsPast z first x.0) none x.2 in
      (body, x.1, subst (λ z. IsPast z body body) (sym none) refl, (x.0, (λ item i jl il own. subst (λ z. IsLoaded l item b.ins (variables_in (form_over_groups b.once) [] i) b.top.loads (b.top.marks i) no_variables body z) same (loads item i jl il own)), x.3), from_between 0 m x.1 last x.4 (let e : suc m ≡ 1 + m = omega arith in subst (λ z. IsPast (fence z) last End) e y))
