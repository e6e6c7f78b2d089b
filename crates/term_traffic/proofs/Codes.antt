-- What pieces of printed code count: assignments nothing, loads and stores by where scalars lie.
use Rattle.std.proofs.Common.{◌≡◌, ℕ, zero, suc, ◌+◌, ◌*◌, ◌<◌, ◌≤◌, Bool, true, false, List, [], ◌∷◌, Option, refl, sym, ap, ◌∙◌, ⊎_elim, arith}
use Rattle.std.proofs.lemmas.Bool.{cases_lt}
use Rattle.lift_tree.specs.declared.term.Level.TheVariants as level
use Rattle.kernel_tree.specs.Bound.{or_zero}
use Rattle.kernel_tree.specs.Code.{Array, Input, Output, Local as LocalArray, Private, Statement, Assigns, AssignsFour, Loads, LoadsFour, Stores, StoresFour, Syncs, start_value, stride_value, Code}
use Rattle.kernel_tree.specs.Formula.{Formula, Lanes, Ids}
use Rattle.kernel_tree.specs.Launch.{Launch, ids_of}
use Rattle.lift_ir.specs.Types.{Ty, Scalar, PairOf, ArrayOf}
use Rattle.lift_ir.specs.Terms.{LoadSet, Skip, Take, TakeFour, Each, Kind, Over, Sequential, Term, Literal, Bound, Apply, ApplyNumber, ApplyLanes, DivideLanes, Select, Both, Project, LetElement, push}
use Rattle.lift_ir.specs.Scalars.{by_side}
use Rattle.printed_form.specs.Counts.{Count, more, held_count, let_variables, load_count}
use Rattle.printed_form.specs.Expressions.{Expr, held, exprs}
use Rattle.printed_form.specs.Form.{start_of, stride_of, IsTurnOf, IsAssigned, IsReassigned, IsElementWork, IsSpot, IsFourSpot, IsStored, IsLoaded, IsLoop}
use Rattle.printed_form.specs.Marks.{Mark, Nowhere, Register, Lane, Spot, Marks, in_lanes, held_marks, loaded_marks}
use Rattle.kernel_traffic.specs.Traffic.{turns_below, total_in}
use Rattle.kernel_traffic.specs.Laws.{TurnsGoOneByOne}
use Rattle.term_traffic.specs.Regions.{Region, NoMemory, InGlobal, InLocal, InPrivate, Regions, all_in, regions_left}
use Rattle.term_traffic.specs.Traffic.{turns_of, loads_in, stores_in}

-- an array's memory: inputs and outputs lie in global memory
abbrev pub region_of : Array → Region
region_of (Input n) = InGlobal
region_of (Output n) = InGlobal
region_of (LocalArray n) = InLocal
region_of (Private n) = InPrivate

-- a statement counts by the memory of its array, one of four cells four times; so much does a barrier
pub record Counts (weight : Statement → ℕ) (load store : Region → ℕ) (sync : ℕ) : Type 0 where
  pub assigns : (v : ℕ) (e : Formula) → weight (Assigns v e) ≡ 0
  pub assigns_four : (v : ℕ) (e : Lanes) → weight (AssignsFour v e) ≡ 0
  pub loads : (v : ℕ) (a : Array) (i : Formula) → weight (Loads v a i) ≡ load (region_of a)
  pub loads_four : (v : ℕ) (a : Array) (i : Formula) → weight (LoadsFour v a i) ≡ 4 * load (region_of a)
  pub stores : (a : Array) (i e : Formula) → weight (Stores a i e) ≡ store (region_of a)
  pub stores_four : (a : Array) (i : Formula) (e : Lanes) → weight (StoresFour a i e) ≡ 4 * store (region_of a)
  pub syncs : (a b : Bool) → weight (Syncs a b) ≡ sync

-- where a mark's scalar lies
abbrev pub mark_region : Mark → Region
mark_region Nowhere = NoMemory
mark_region (Register v) = NoMemory
mark_region (Lane v j) = NoMemory
mark_region (Spot a i) = region_of a

-- marks that lie so
abbrev pub LieIn : Marks → Regions → Type 0
LieIn x r = (cs : List Bool) (q : List ℕ) → mark_region (x cs q) ≡ r cs

-- the turns of a map are those of its loop
turns_are : (ids : Ids) (k : Kind) (n : ℕ) → turns_below (start_value ids (start_of k)) n (stride_value ids (stride_of k)) ≡ turns_of ids k n
turns_are ids (Over level.Launch _) n = refl
turns_are ids (Over level.Groups _) n = refl
turns_are ids (Over level.Items _) n = refl
turns_are ids Sequential n = refl

-- what stands for each binder
abbrev pub AllLieIn : (ℕ → Marks) → (ℕ → Regions) → Type 0
AllLieIn env regions = (v : ℕ) → LieIn (env v) (regions v)

pub pushed : (x : Marks) (r : Regions) (env : ℕ → Marks) (regions : ℕ → Regions) → LieIn x r → AllLieIn env regions → AllLieIn (push x env) (push r regions)
pushed x r env regions h all zero = h
pushed x r env regions h all (suc v) = all v

pub side_lies : (x y : Marks) (r s : Regions) → LieIn x r → LieIn y s → LieIn (by_side (λ q. Nowhere) x y) (by_side NoMemory r s)
side_lies x y r s h g [] q = refl
side_lies x y r s h g (false ∷ cs) q = h cs q
side_lies x y r s h g (true ∷ cs) q = g cs q

lanes_lie : (v : ℕ) (q : List ℕ) → mark_region (in_lanes v q) ≡ NoMemory
lanes_lie v [] = refl
lanes_lie v (j ∷ []) = refl
lanes_lie v (i ∷ j ∷ q) = refl

pub held_lies : (ty : Ty) (n : Count) → LieIn (held_marks ty n) (all_in NoMemory)
held_lies Scalar n cs q = refl
held_lies (PairOf a b) n [] q = refl
held_lies (PairOf a b) n (false ∷ cs) q = held_lies a n cs q
held_lies (PairOf a b) n (true ∷ cs) q = held_lies b (more n (held_count a)) cs q
held_lies (ArrayOf m t) n cs q = lanes_lie n.fours q

pub loaded_lies : (loads : LoadSet) (x : Marks) (r : Regions) (n : Count) → LieIn x r → LieIn (loaded_marks loads x n) (regions_left loads r)
loaded_lies Skip x r n h = h
loaded_lies Take x r n h = λ cs q. refl
loaded_lies TakeFour x r n h = λ cs q. lanes_lie n.fours q
loaded_lies (Each a b) x r n h =
    side_lies (loaded_marks a (λ cs. x (false ∷ cs)) n) (loaded_marks b (λ cs. x (true ∷ cs)) (more n (load_count a))) (regions_left a (λ cs. r (false ∷ cs))) (regions_left b (λ cs. r (true ∷ cs)))
    (loaded_lies a (λ cs. x (false ∷ cs)) (λ cs. r (false ∷ cs)) n (λ cs q. h (false ∷ cs) q))
    (loaded_lies b (λ cs. x (true ∷ cs)) (λ cs. r (true ∷ cs)) (more n (load_count a)) (λ cs q. h (true ∷ cs) q))

module _ (weight : Statement → ℕ) (load store : Region → ℕ) (sync : ℕ) (counts : Counts weight load store sync) (l : Launch) (item : ℕ) where
  abbrev pub total : Code → ℕ
  total code = total_in weight (ids_of l item) code

  -- code that counts nothing
  abbrev pub Free : (code rest : Code) → Type 0
  Free code rest = total code ≡ total rest

  pub assigned : (ty : Ty) (f : List Bool → Option Expr) (n : Count) (code rest : Code) → IsAssigned ty f n code rest → Free code rest
  assigned Scalar f n code rest h = ap total h.2 ∙ ap (λ m. m + total rest) (counts.assigns n.words h.0) ∙ (let m = total rest in omega arith)
  assigned (PairOf a b) f n code rest h = assigned a (λ cs. f (false ∷ cs)) n code h.0 h.1 ∙ assigned b (λ cs. f (true ∷ cs)) (more n (held_count a)) h.0 rest h.2
  assigned (ArrayOf m t) f n code rest h = ap total h.3 ∙ ap (λ m. m + total rest) (counts.assigns_four n.fours h.1) ∙ (let m = total rest in omega arith)

  pub reassigned : (ty : Ty) (f : List Bool → Option Expr) (acc n : Count) (code rest : Code) → IsReassigned ty f acc n code rest → Free code rest
  reassigned Scalar f acc n code rest h = assigned Scalar f acc code rest h
  reassigned (PairOf a b) f acc n code rest h = assigned (PairOf a b) f n code h.0 h.1 ∙ assigned (PairOf a b) (λ cs. held (held_marks (PairOf a b) n cs)) acc h.0 rest h.2
  reassigned (ArrayOf m t) f acc n code rest h = assigned (ArrayOf m t) f acc code rest h

  pub element_work : {A : Type 0} (env : ℕ → Marks) (n : Count) (t : Term A) (code rest : Code) → IsElementWork env n t code rest → Free code rest
  element_work env n (Literal c) code rest h = ap total h
  element_work env n (Bound v) code rest h = ap total h
  element_work env n (Apply o a b) code rest h = element_work env n a code h.0 h.1 ∙ element_work env (more n (let_variables a)) b h.0 rest h.2
  element_work env n (ApplyNumber o m a) code rest h = element_work env n a code rest h
  element_work env n (ApplyLanes o l r a b) code rest h = element_work env n a code h.0 h.1 ∙ element_work env (more n (let_variables a)) b h.0 rest h.2
  element_work env n (DivideLanes o m a) code rest h = element_work env n a code rest h
  element_work env n (Select c a b) code rest h =
      element_work env n c code h.0 h.2 ∙ element_work env (more n (let_variables c)) a h.0 h.1 h.3 ∙ element_work env (more (more n (let_variables c)) (let_variables a)) b h.1 rest h.4
  element_work env n (Both zips a b) code rest h = element_work env n a code h.0 h.1 ∙ element_work env (more n (let_variables a)) b h.0 rest h.2
  element_work env n (Project s a) code rest h = element_work env n a code rest h
  element_work env n (LetElement ty v b) code rest h =
      element_work env n v code h.0 h.2 ∙ assigned ty (exprs env n v) (more n (let_variables v)) h.0 h.1 h.3
      ∙ element_work (push (held_marks ty (more n (let_variables v))) env) (more (more n (let_variables v)) (held_count ty)) b h.1 rest h.4
  element_work env n _ code rest h = absurd h

  module _ (ins : ℕ → Marks) where
    -- an index stands in the array of its mark
    spot_of : (ts : List ℕ) (m : Mark) (b : Array) (i : Formula) → IsSpot l item ins ts m b i → region_of b ≡ mark_region m
    spot_of ts (Spot a n) b i h = ap region_of h.0
    spot_of ts _ b i h = absurd h

    -- and the offset of four cells
    four_spot_of : (ts : List ℕ) (x : List ℕ → Mark) (b : Array) (i : Formula) → IsFourSpot l item ins ts x b i → region_of b ≡ mark_region (x (0 ∷ []))
    four_spot_of ts x b i h = sym (ap mark_region (h.1.at 0 (omega arith)))

    pub stored : (ts : List ℕ) (ty : Ty) (f : List Bool → Option Expr) (w : Marks) (r : Regions) (code rest : Code) → LieIn w r → IsStored l item ins ts ty f w code rest → total code ≡ stores_in store ty r + total rest
    stored ts Scalar f w r code rest lie h =
        ap total h.5 ∙ ap (λ m. m + total rest) (counts.stores h.0 h.1 h.2 ∙ ap store (spot_of ts (w [] []) h.0 h.1 h.4 ∙ lie [] []))
    stored ts (PairOf a b) f w r code rest lie h =
        let first = stored ts a (λ cs. f (false ∷ cs)) (λ cs. w (false ∷ cs)) (λ cs. r (false ∷ cs)) code h.0 (λ cs q. lie (false ∷ cs) q) h.1 in
        let second = stored ts b (λ cs. f (true ∷ cs)) (λ cs. w (true ∷ cs)) (λ cs. r (true ∷ cs)) h.0 rest (λ cs q. lie (true ∷ cs) q) h.2 in
        omega arith
    stored ts (ArrayOf m t) f w r code rest lie h =
        ap total h.6 ∙ ap (λ m. m + total rest) (counts.stores_four h.1 h.2 h.3 ∙ ap (λ s. 4 * store s) (four_spot_of ts (w []) h.1 h.2 h.5 ∙ lie [] (0 ∷ [])))

    pub loaded : (ts : List ℕ) (loads : LoadSet) (x : Marks) (r : Regions) (n : Count) (code rest : Code) → LieIn x r → IsLoaded l item ins ts loads x n code rest → total code ≡ loads_in load loads r + total rest
    loaded ts Skip x r n code rest lie h = ap total h ∙ (let m = total rest in omega arith)
    loaded ts Take x r n code rest lie h =
        ap total h.3 ∙ ap (λ m. m + total rest) (counts.loads n.words h.0 h.1 ∙ ap load (spot_of ts (x [] []) h.0 h.1 h.2 ∙ lie [] []))
    loaded ts TakeFour x r n code rest lie h =
        ap total h.3 ∙ ap (λ m. m + total rest) (counts.loads_four n.fours h.0 h.1 ∙ ap (λ s. 4 * load s) (four_spot_of ts (x []) h.0 h.1 h.2 ∙ lie [] (0 ∷ [])))
    loaded ts (Each a b) x r n code rest lie h =
        let first = loaded ts a (λ cs. x (false ∷ cs)) (λ cs. r (false ∷ cs)) n code h.0 (λ cs q. lie (false ∷ cs) q) h.1 in
        let second = loaded ts b (λ cs. x (true ∷ cs)) (λ cs. r (true ∷ cs)) (more n (load_count a)) h.0 rest (λ cs q. lie (true ∷ cs) q) h.2 in
        omega arith

    -- a loop counts its turns times what each counts that the item takes
    pub looped : (turning : TurnsGoOneByOne) → (k : Kind) (n : ℕ) (B : ℕ → Code → Type 0) (m : ℕ) (code rest : Code) → ((i : ℕ) → i < n → IsTurnOf l item k i → (body : Code) → B i body → total body ≡ m) → IsLoop l item ins k n B code rest
        → total code ≡ turns_of (ids_of l item) k n * m + total rest
    looped turning k n B m code rest each h =
        ap total h.2 ∙ ap (λ z. turns_below start (or_zero z) stride * total h.1 + total rest) h.3 ∙ ap (λ z. z + total rest) (⊎_elim some none (cases_lt start n) ∙ ap (λ z. z * m) (turns_are (ids_of l item) k n))
      where
        start : ℕ
        start = start_value (ids_of l item) (start_of k)

        stride : ℕ
        stride = stride_value (ids_of l item) (stride_of k)

        some : start < n → turns_below start n stride * total h.1 ≡ turns_below start n stride * m
        some lt = ap (λ z. turns_below start n stride * z) (each start lt (0, (let z : start + 0 * stride ≡ start = omega arith in sym z)) h.1 (h.4 start lt (0, (let z : start + 0 * stride ≡ start = omega arith in sym z))))

        none : n ≤ start → turns_below start n stride * total h.1 ≡ turns_below start n stride * m
        none le = ap (λ z. z * total h.1) (turning.past start n stride le) ∙ (let a = total h.1 in let z : 0 * a ≡ 0 * m = omega arith in z) ∙ ap (λ z. z * m) (sym (turning.past start n stride le))
