-- The phases of a term see what they read, by induction on it.
use Rattle.std.proofs.Common.{◌≡◌, ℕ, zero, suc, ◌+◌, ◌<◌, ◌≤◌, ◌^◌, List, [], ◌∷◌, ◌++◌, length, Bool, true, false, true≢false, refl, sym, ap, ◌∙◌, subst, arith}
use Rattle.lift_tree.specs.declared.term.Level.TheVariants.{Items}
use Rattle.lift_tree.specs.declared.term.Dimension.TheVariants.{X}
use Rattle.kernel_tree.specs.Code.{Array, Local as LocalArray}
use Rattle.kernel_tree.specs.Launch.{Launch, Cells}
use Rattle.lift_ir.specs.Types.{Ty, PairOf, ArrayOf, IsPosition, IsFlat, width, size}
use Rattle.lift_ir.specs.Layouts.{Layout, operand_position, result_position, Reshapes, IsInvertible}
use Rattle.lift_ir.specs.Terms.{LoadSet, Over, LocalMemory, Term, Bound, Source, Both, Project, Reshape, LetArray, Map, Copy, LoadsScalars, push, HasType}
use Rattle.lift_ir.specs.Scalars.{Scalars, scalars_of}
use Rattle.lift_ir.proofs.Positions.{operand_in, result_in, result_operand}
use Rattle.printed_form.specs.Counts.{more, AtMost, load_count, variable_count, private_count, local_count}
use Rattle.printed_form.specs.MapForms.{MakesTurns, MakeTurns}
use Rattle.printed_form.specs.Marks.{Mark, Marks, laid_in}
use Rattle.printed_form.specs.Form.{Declares}
use Rattle.printed_form.specs.Whole.{IsGiven}
use Rattle.group_form.specs.Named as named
use Rattle.group_form.specs.Named.{element_ways, named_outside, ways, cut}
use Rattle.group_form.specs.Origins.{Origin, Elsewhere, at_way, bent, laid_from, origin_of}
use Rattle.group_form.specs.Forms.{StandsInGroup}
use Rattle.group_form.specs.Uses.{Destination, Locals, Outputs}
use Rattle.group_form.specs.Stages as stages
use Rattle.group_form.specs.Stages.{Stage, Scope, later, stage_at, result_type, value_in}
use Rattle.group_form.specs.Body.{GroupBody, destination_marks, first_index}
use Rattle.group_form.specs.Whole.{DeclaresLocals, destination_type, row_of}
use Rattle.group_form.proofs.Lists.{Each, long_append, each_append, each_left, each_right}
use Rattle.group_form.proofs.Named.{IsUnder, cut_position, body_typed, element_loads}
use Rattle.group_form.proofs.Most.{most_first, most_rest, most_later}
use Rattle.group_form.proofs.Seen.{way_bent, laid_at, SeenAt, Sees, seen_later, seen_bent, seen_input}

module _ {A : Type 0} (num : A → ℕ) (long : Array → ℕ) (l : Launch) (few : l.local.0 ≤ 2 ^ 31) (c : Cells) (b : GroupBody A) (makes : MakeTurns b.forms num l) (given : (v : ℕ) (cs : List Bool) (p : List ℕ) → IsPosition (b.src v) cs p → IsGiven c (b.ins v cs p) (b.sources v cs p)) where
  abbrev At : Origin → (q i : ℕ) → List ℕ → Mark → ℕ → Type 0
  At = SeenAt num c b

  abbrev pub Seen : Origin → (q : ℕ) → Ty → (marks : (turn : ℕ) → Marks) → (scalars : (turn : ℕ) → Scalars) → Type 0
  Seen = Sees num c b

  -- what a phase with this number has
  pub record IsStage (q : ℕ) (s : Stage A) : Type 0 where
    pub turns : MakesTurns s.phase.form s.phase.len l
    pub short : s.phase.len + l.local.0 ≤ 2 ^ 32
    pub loads : LoadsScalars s.phase.loads s.phase.element
    pub typed : HasType num b.src (push s.phase.element s.phase.types) s.phase.body s.phase.result
    pub declares : Declares long s.phase.privates s.phase.body
    pub after_top : AtMost (load_count b.top.loads) s.phase.variables
    pub fits : AtMost (more (more s.phase.variables (load_count s.phase.loads)) (variable_count s.phase.body)) b.variables
    pub inside : (cs : List Bool) (p : List ℕ) → IsPosition (result_type s) cs p → IsPosition (destination_type b.result s.destination) cs (s.outer p)
    pub returns : (cs : List Bool) (p : List ℕ) → IsPosition (result_type s) cs p → s.path (s.outer p) ≡ p
    pub covers : (cs : List Bool) (p : List ℕ) → IsPosition (destination_type b.result s.destination) cs p → IsPosition (result_type s) cs (s.path p) × (s.outer (s.path p) ≡ p)
    pub straight : s.direct ≡ true → (p : List ℕ) → s.path p ≡ p
    pub holds : (f : ℕ) (ty : Ty) → s.destination ≡ Locals f ty → IsFlat ty × ((a : ℕ) → a < width ty → long (LocalArray (f + a)) ≡ size ty)
    pub gives : s.destination ≡ Outputs → suc q ≡ length b.stages
    pub envs : (v : ℕ) → Seen (bent (s.origins v)) q (s.phase.types v) (λ i. s.env i v) (λ i. s.sems i v)
    pub elements : Seen s.origin q (ArrayOf s.phase.len s.phase.element) s.marks s.scalars
    pub variable_under : (v : ℕ) (cs : List Bool) (p : List ℕ) → IsPosition (s.phase.types v) cs p → IsUnder cs (ways v (named_outside s.phase.body))
    pub element_under : (cs : List Bool) (p : List ℕ) → IsPosition (ArrayOf s.phase.len s.phase.element) cs p → IsUnder cs (element_ways s.phase.loads s.phase.body)

  -- these stages stand from this number on
  abbrev pub Stand : ℕ → List (Stage A) → Type 0
  Stand = Each (λ q s. stage_at b.stages q ≡ s)

  abbrev pub Scoped : ℕ → Scope → Type 0
  Scoped q s = (v : ℕ) → Seen (s.origins v) q (s.types v) (λ i. s.env i v) (λ i. s.sems i v)

  abbrev argument_stages : (s : Scope) (t : Term A) (ty : Ty) → HasType num b.src s.types t ty → List (Stage A)
  argument_stages = stages.argument_stages num b.forms b.ins b.src b.sources

  abbrev written_stages : (s : Scope) (t : Term A) (ty : Ty) → HasType num b.src s.types t ty → Destination → (outer path : List ℕ → List ℕ) → Bool → List (Stage A)
  written_stages = stages.written_stages num b.forms b.ins b.src b.sources

  abbrev marks_of : ((turn var : ℕ) → Marks) → ℕ → Term A → (turn : ℕ) → Marks
  marks_of = stages.marks_of num b.ins

  abbrev bind : Scope → Term A → Ty → Scope
  bind = stages.bind num b.ins b.src b.sources

  abbrev value_of : Scope → Term A → (turn : ℕ) → Scalars
  value_of s t i = scalars_of num b.sources (s.sems i) t

  -- what stands for an argument
  abbrev pub SeenArgument : (q : ℕ) → Scope → Term A → Ty → Type 0
  SeenArgument q s t ty = Seen (origin_of s.origins s.locals t) q ty (marks_of s.env s.locals t) (value_of s t)

  -- a destination's type holds what a term of a type gives
  pub record IsAimed (target ty : Ty) (outer path : List ℕ → List ℕ) (direct : Bool) : Type 0 where
    pub inside : (cs : List Bool) (p : List ℕ) → IsPosition ty cs p → IsPosition target cs (outer p)
    pub returns : (cs : List Bool) (p : List ℕ) → IsPosition ty cs p → path (outer p) ≡ p
    pub covers : (cs : List Bool) (p : List ℕ) → IsPosition target cs p → IsPosition ty cs (path p) × (outer (path p) ≡ p)
    pub straight : direct ≡ true → (p : List ℕ) → path p ≡ p

  -- the last of a term's phases, whose value is the term's
  pub record IsLast (after : ℕ) (s : Scope) (t : Term A) (d : Destination) (path : List ℕ → List ℕ) : Type 0 where
    pub at : ℕ
    pub ends : suc at ≡ after
    pub goes : (stage_at b.stages at).destination ≡ d
    pub stage : IsStage at (stage_at b.stages at)
    pub value : (i : ℕ) (cs : List Bool) (p : List ℕ) → value_in num b.sources i (stage_at b.stages at) cs ((stage_at b.stages at).path p) ≡ value_of s t i cs (path p)
    pub rows : (p : List ℕ) → first_index ((stage_at b.stages at).path p) ≡ row_of num t (path p)

  scoped_later : (q r : ℕ) (s : Scope) → q ≤ r → Scoped q s → Scoped r s
  scoped_later q r s le h v i il cs p x = seen_later num c b (at_way (s.origins v) cs) q r i p (s.env i v cs p) (s.sems i v cs p) le (h v i il cs p x)

  later_seen : (o : Origin) (q r : ℕ) (ty : Ty) (e : ℕ → Marks) (s : ℕ → Scalars) → q ≤ r → Seen o q ty e s → Seen o r ty e s
  later_seen o q r ty e s le h i il cs p x = seen_later num c b (at_way o cs) q r i p (e i cs p) (s i cs p) le (h i il cs p x)

  bound_in : (q : ℕ) (s : Scope) (v : Term A) (u : Ty) → Scoped q s → SeenArgument q s v u → Scoped q (bind s v u)
  bound_in q s v u h x zero = x
  bound_in q s v u h x (suc n) = h n

  zipped : (q n : ℕ) (x y : Term A) (s : Scope) (t u : Ty) → Seen (origin_of s.origins s.locals x) q (ArrayOf n t) (marks_of s.env s.locals x) (value_of s x)
      → Seen (origin_of s.origins (s.locals + local_count x) y) q (ArrayOf n u) (marks_of s.env (s.locals + local_count x) y) (value_of s y) → SeenArgument q s (Both true x y) (ArrayOf n (PairOf t u))
  zipped q n x y s t u f g i il cs [] z = absurd z
  zipped q n x y s t u f g i il [] (j ∷ p) z = absurd z.1
  zipped q n x y s t u f g i il (false ∷ cs) (j ∷ p) z = f i il cs (j ∷ p) z
  zipped q n x y s t u f g i il (true ∷ cs) (j ∷ p) z = g i il cs (j ∷ p) z

  -- a copy that the last phase fills
  copied : (q f : ℕ) (x : Term A) (s : Scope) (u : Ty) → IsLast q s x (Locals f u) (λ p. p) → Seen (laid_from f u) q u (λ i. laid_in LocalArray f u) (value_of s x)
  copied q f x s u w i il cs p z =
      let ends = w.ends in
      let t = stage_at b.stages w.at in
      let covered = w.stage.covers cs p (subst (λ a. IsPosition (destination_type b.result a) cs p) (sym w.goes) z) in
      record {
        plainly = true;
        reached = laid_at f u cs p z;
        phase = w.at;
        earlier = omega arith;
        first = f;
        ty = u;
        destination = w.goes;
        choices = cs;
        position = t.path p;
        inside = covered.0;
        is = sym (ap (λ a. destination_marks b.out i a cs (t.outer (t.path p))) w.goes ∙ ap (laid_in LocalArray f u cs) covered.1);
        has = sym (w.value i cs p);
        rows = λ a d. ap first_index (w.stage.straight d p);
      }

  aimed_under : (y : Layout A) (u ty target : Ty) (outer path : List ℕ → List ℕ) (direct : Bool) → IsInvertible y → Reshapes num y u ty → IsAimed target ty outer path direct → IsAimed target u (λ p. outer (result_position num y p)) (λ p. operand_position num y (path p)) false
  aimed_under y u ty target outer path direct t r a = record {
    inside = λ cs p x. a.inside cs (result_position num y p) (result_in num y u ty cs p t r x).0;
    returns = λ cs p x. let e = result_in num y u ty cs p t r x in ap (operand_position num y) (a.returns cs (result_position num y p) e.0) ∙ e.1;
    covers = λ cs p x. let e = a.covers cs p x in (operand_in num y u ty cs (path p) r e.0, ap outer (result_operand num y u ty cs (path p) t r e.0) ∙ e.1);
    straight = λ z. absurd (true≢false (sym z));
  }

  abbrev pub Result : (t : Term A) (s : Scope) (ty : Ty) (h : HasType num b.src s.types t ty) (q : ℕ) → Type 0
  Result t s ty h q = Each IsStage q (argument_stages s t ty h) × SeenArgument (q + length (argument_stages s t ty h)) s t ty

  -- a destination's arrays are as long as their values
  abbrev pub Fits : Destination → Type 0
  Fits d = (f : ℕ) (ty : Ty) → d ≡ Locals f ty → IsFlat ty × ((a : ℕ) → a < width ty → long (LocalArray (f + a)) ≡ size ty)

  abbrev FitsAt : Destination → Type 0
  FitsAt (Locals f ty) = IsFlat ty × ((a : ℕ) → a < width ty → long (LocalArray (f + a)) ≡ size ty)
  FitsAt Outputs = Unit {0}

  locals_fit : (f : ℕ) (u : Ty) → IsFlat u → ((a : ℕ) → a < width u → long (LocalArray (f + a)) ≡ size u) → Fits (Locals f u)
  locals_fit f u flat room g ty e = let x : FitsAt (Locals f u) = (flat, room) in subst FitsAt e x

  not_outputs : {P : Type 0} → (f : ℕ) (u : Ty) → Locals f u ≡ Outputs → P
  not_outputs f u e = absurd (cc)

  this_stage : (q r : ℕ) (n : A) (s : Scope) (loads : LoadSet) (xs body : Term A) (x y : Ty) (d : Destination) (outer path : List ℕ → List ℕ) (direct : Bool) → num n < 2 ^ 31 → LoadsScalars loads x → HasType num b.src (push x s.types) body y → q ≤ r → Scoped q s
      → SeenArgument r s xs (ArrayOf (num n) x) → IsAimed (destination_type b.result d) (ArrayOf (num n) y) outer path direct → Fits d → (d ≡ Outputs → suc r ≡ length b.stages)
      → Declares long (s.privates + private_count xs) body → AtMost (more s.variables (more (variable_count xs) (more (load_count loads) (variable_count body)))) b.variables → AtMost (load_count b.top.loads) s.variables
      → IsStage r (stages.stage_of num b.forms b.ins b.src b.sources s n loads xs body x y d outer path direct)
  this_stage q r n s loads xs body x y d outer path direct small scalars typed le scoped seen aimed fit ends declared room low = record {
    turns = makes.local n small;
    short = omega arith;
    loads = element_loads loads x (ways 0 (named.named body named.whole)) scalars;
    typed = body_typed num b.src s.types loads body x y typed;
    declares = declared;
    after_top = most_later (load_count b.top.loads) s.variables (variable_count xs) low;
    fits = most_rest (more s.variables (variable_count xs)) (load_count loads) (variable_count body) b.variables (most_rest s.variables (variable_count xs) (more (load_count loads) (variable_count body)) b.variables room);
    inside = aimed.inside;
    returns = aimed.returns;
    covers = aimed.covers;
    straight = aimed.straight;
    holds = fit;
    gives = ends;
    envs = λ v i il cs p z. let w = cut_position (s.types v) (ways v (named_outside body)) cs p z in
        subst (λ o. At o r i p (s.env i v cs p) (s.sems i v cs p)) (sym (way_bent (s.origins v) cs)) (seen_bent num c b (at_way (s.origins v) cs) r i p p (s.env i v cs p) (s.sems i v cs p) (scoped_later q r s le scoped v i il cs p w.0));
    elements = elements;
    variable_under = λ v cs p z. (cut_position (s.types v) (ways v (named_outside body)) cs p z).1;
    element_under = under;
  }
    where
      elements : Seen (origin_of s.origins s.locals xs) r (ArrayOf (num n) (cut x (element_ways loads body))) (marks_of s.env s.locals xs) (value_of s xs)
      elements i il cs [] z = absurd z
      elements i il cs (j ∷ p) z = seen i il cs (j ∷ p) (z.0, (cut_position x (element_ways loads body) cs p z.1).0)

      under : (cs : List Bool) (p : List ℕ) → IsPosition (ArrayOf (num n) (cut x (element_ways loads body))) cs p → IsUnder cs (element_ways loads body)
      under cs [] z = absurd z
      under cs (j ∷ p) z = (cut_position x (element_ways loads body) cs p z.1).1

  mutual
    pub sees : (t : Term A) (s : Scope) (ty : Ty) (h : HasType num b.src s.types t ty) (q : ℕ) → StandsInGroup false t → Scoped q s → Stand q (argument_stages s t ty h) → Declares long s.privates t → DeclaresLocals long s.locals t → AtMost (more s.variables (variable_count t)) b.variables
        → AtMost (load_count b.top.loads) s.variables → Result t s ty h q
    sees (Bound v) s ty h q f scoped is private local room low =
        (tt, later_seen (s.origins v) q (q + 0) ty (λ i. s.env i v) (λ i. s.sems i v) (omega arith) (subst (λ z. Seen (s.origins v) q z (λ i. s.env i v) (λ i. s.sems i v)) (sym h) (scoped v)))
    sees (Source a) s ty h q f scoped is private local room low = (tt, λ i il cs p z. seen_input num c b (at_way Elsewhere cs) (q + 0) i p (b.ins a cs p) (b.sources a cs p) (given a cs p (subst (λ w. IsPosition w cs p) h z)))
    sees (Both true x y) s ty h q f scoped is private local room low =
        let xs = argument_stages s x (ArrayOf h.0 h.1) h.4 in
        let ys = argument_stages (later s x) y (ArrayOf h.0 h.2) h.5 in
        let one = sees x s (ArrayOf h.0 h.1) h.4 q f.0 scoped (each_left (λ r t. stage_at b.stages r ≡ t) q xs ys is) private.0 local.0 (most_first s.variables (variable_count x) (variable_count y) b.variables room) low in
        let two = sees y (later s x) (ArrayOf h.0 h.2) h.5 (q + length xs) f.1 (scoped_later q (q + length xs) s (omega arith) scoped) (each_right (λ r t. stage_at b.stages r ≡ t) q xs ys is) private.1 local.1 (most_rest s.variables (variable_count x) (variable_count y) b.variables room) (most_later (load_count b.top.loads) s.variables (variable_count x) low) in
        let sum = long_append xs ys in
        let end = q + length xs + length ys in (
          each_append IsStage q xs ys one.0 two.0,
          subst (λ z. SeenArgument (q + length (xs ++ ys)) s (Both true x y) z) (sym h.3)
              (later_seen (origin_of s.origins s.locals (Both true x y)) end (q + length (xs ++ ys)) (ArrayOf h.0 (PairOf h.1 h.2)) (marks_of s.env s.locals (Both true x y)) (value_of s (Both true x y)) (omega arith)
              (zipped end h.0 x y s h.1 h.2 (later_seen (origin_of s.origins s.locals x) (q + length xs) end (ArrayOf h.0 h.1) (marks_of s.env s.locals x) (value_of s x) (omega arith) one.1) two.1)),
        )
    sees (Project false a) s ty h q f scoped is private local room low =
        let r = sees a s (PairOf ty h.0) h.1 q f scoped is private local room low in
        (r.0, λ i il cs p z. r.1 i il (false ∷ cs) p z)
    sees (Project true a) s ty h q f scoped is private local room low =
        let r = sees a s (PairOf h.0 ty) h.1 q f scoped is private local room low in
        (r.0, λ i il cs p z. r.1 i il (true ∷ cs) p z)
    sees (Reshape l a) s ty h q f scoped is private local room low =
        let r = sees a s h.0 h.1 q f scoped is private local room low in
        let e = q + length (argument_stages s a h.0 h.1) in
        let o = origin_of s.origins s.locals a in (
          r.0,
          λ i il cs p z. subst (λ w. At w e i p (marks_of s.env s.locals a i cs (operand_position num l p)) (value_of s a i cs (operand_position num l p))) (sym (way_bent o cs))
              (seen_bent num c b (at_way o cs) e i (operand_position num l p) p (marks_of s.env s.locals a i cs (operand_position num l p)) (value_of s a i cs (operand_position num l p)) (r.1 i il cs (operand_position num l p) (operand_in num l h.0 ty cs p h.2 z))),
        )
    sees (LetArray v x) s ty h q f scoped is private local room low =
        let t = bind s v h.0 in
        let xs = argument_stages s v h.0 h.1 in
        let ys = argument_stages t x ty h.2 in
        let one = sees v s h.0 h.1 q f.0 scoped (each_left (λ r t. stage_at b.stages r ≡ t) q xs ys is) private.0 local.0 (most_first s.variables (variable_count v) (variable_count x) b.variables room) low in
        let two = sees x t ty h.2 (q + length xs) f.1 (bound_in (q + length xs) s v h.0 (scoped_later q (q + length xs) s (omega arith) scoped) one.1) (each_right (λ r t. stage_at b.stages r ≡ t) q xs ys is) private.1 local.1 (most_rest s.variables (variable_count v) (variable_count x) b.variables room) (most_later (load_count b.top.loads) s.variables (variable_count v) low) in
        let sum = long_append xs ys in
        let end = q + length xs + length ys in
        let o = origin_of t.origins t.locals x in (
          each_append IsStage q xs ys one.0 two.0,
          λ i il cs p z.
              subst (λ w. At w (q + length (xs ++ ys)) i p (marks_of t.env t.locals x i cs p) (value_of t x i cs p)) (sym (way_bent o cs))
              (seen_bent num c b (at_way o cs) (q + length (xs ++ ys)) i p p (marks_of t.env t.locals x i cs p) (value_of t x i cs p)
              (seen_later num c b (at_way o cs) end (q + length (xs ++ ys)) i p (marks_of t.env t.locals x i cs p) (value_of t x i cs p) (omega arith) (two.1 i il cs p z))),
        )
    sees (Copy LocalMemory u x) s ty h q f scoped is private local room low =
        let k = s.locals + local_count x in
        let w = works x s ty h.2 q (Locals k u) (λ p. p) (λ p. p) true f scoped is
        (subst (λ z. IsAimed u z (λ p. p) (λ p. p) true) (sym h.0) (record { inside = λ cs p z. z; returns = λ cs p z. refl; covers = λ cs p z. (z, refl); straight = λ a p. refl })) (locals_fit k u h.1 local.1) (λ e. not_outputs k u e) private local.0 room low in
        let end = q + length (argument_stages s (Copy LocalMemory u x) ty h) in
        (w.0, subst (λ z. Seen (laid_from k u) end z (λ i. laid_in LocalArray k u) (value_of s x)) (sym h.0) (copied end k x s u w.1))
    sees _ s ty h q f scoped is private local room low = absurd (assumption)

    pub works : (t : Term A) (s : Scope) (ty : Ty) (h : HasType num b.src s.types t ty) (q : ℕ) (d : Destination) (outer path : List ℕ → List ℕ) (direct : Bool) → StandsInGroup true t → Scoped q s → Stand q (written_stages s t ty h d outer path direct)
        → IsAimed (destination_type b.result d) ty outer path direct → Fits d → (d ≡ Outputs → q + length (written_stages s t ty h d outer path direct) ≡ length b.stages) → Declares long s.privates t → DeclaresLocals long s.locals t → AtMost (more s.variables (variable_count t)) b.variables → AtMost (load_count b.top.loads) s.variables
        → Each IsStage q (written_stages s t ty h d outer path direct) × IsLast (q + length (written_stages s t ty h d outer path direct)) s t d path
    works (Reshape y a) s ty h q d outer path direct f scoped is aimed fit ends private local room low =
        let r = works a s h.0 h.1 q d (λ p. outer (result_position num y p)) (λ p. operand_position num y (path p)) false f.1 scoped is (aimed_under y h.0 ty (destination_type b.result d) outer path direct f.0 h.2 aimed) fit ends private local room low in
        (r.0, record { at = r.1.at; ends = r.1.ends; goes = r.1.goes; stage = r.1.stage; value = λ i cs p. r.1.value i cs p; rows = λ p. r.1.rows p })
    works (LetArray v x) s ty h q d outer path direct f scoped is aimed fit ends private local room low =
        let t = bind s v h.0 in
        let xs = argument_stages s v h.0 h.1 in
        let ys = written_stages t x ty h.2 d outer path direct in
        let one = sees v s h.0 h.1 q f.0 scoped (each_left (λ r t. stage_at b.stages r ≡ t) q xs ys is) private.0 local.0 (most_first s.variables (variable_count v) (variable_count x) b.variables room) low in
        let sum = long_append xs ys in
        let two = works x t ty h.2 (q + length xs) d outer path direct f.1 (bound_in (q + length xs) s v h.0 (scoped_later q (q + length xs) s (omega arith) scoped) one.1) (each_right (λ r t. stage_at b.stages r ≡ t) q xs ys is) aimed fit (λ e. let z = ends e in omega arith) private.1 local.1 (most_rest s.variables (variable_count v) (variable_count x) b.variables room) (most_later (load_count b.top.loads) s.variables (variable_count v) low) in
        let final = two.1.ends in
        (each_append IsStage q xs ys one.0 two.0, record { at = two.1.at; ends = omega arith; goes = two.1.goes; stage = two.1.stage; value = λ i cs p. two.1.value i cs p; rows = λ p. two.1.rows p })
    works (Map (Over Items X) n loads xs body) s ty h q d outer path direct f scoped is aimed fit ends private local room low =
        let ss = argument_stages s xs (ArrayOf (num n) h.0) h.4 in
        let t = stages.stage_of num b.forms b.ins b.src b.sources s n loads xs body h.0 h.1 d outer path direct in
        let r = q + length ss in
        let one = sees xs s (ArrayOf (num n) h.0) h.4 q f.0 scoped (each_left (λ r t. stage_at b.stages r ≡ t) q ss (t ∷ []) is) private.0 local (most_first s.variables (variable_count xs) (more (load_count loads) (variable_count body)) b.variables room) low in
        let sum = long_append ss (t ∷ []) in
        let here : stage_at b.stages r ≡ t = (each_right (λ r t. stage_at b.stages r ≡ t) q ss (t ∷ []) is).0 in
        let this = this_stage q r n s loads xs body h.0 h.1 d outer path direct h.2 h.3 h.5 (omega arith) scoped one.1 (subst (λ z. IsAimed (destination_type b.result d) z outer path direct) h.6 aimed) fit (λ e. let z = ends e in omega arith) private.1 room low in
        (each_append IsStage q ss (t ∷ []) one.0 (this, tt), record { at = r; ends = omega arith; goes = ap Stage.destination here; stage = subst (IsStage r) (sym here) this; value = λ i cs p. ap (λ z. value_in num b.sources i z cs (z.path p)) here; rows = λ p. ap (λ z. first_index (z.path p)) here })
    works _ s ty h q d outer path direct f scoped is aimed fit ends private local room low = absurd (assumption)
