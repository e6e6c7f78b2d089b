-- What one item does, whatever the others do to cells that it does not look at.
use Rattle.std.specs.Prelude.{◌≡◌, ℕ, zero, suc, ◌<◌, ◌≤◌, Bool, List, [], length, Option, Some, ◌⊎◌, true, false, ◌∷◌}
use Rattle.kernel_tree.specs.Formula.{Formula, Lanes, Four, Vars, word, vector, value, lanes_value}
use Rattle.kernel_tree.specs.Code.{Array, Input, Output, Local, Private, Code}
use Rattle.kernel_tree.specs.Launch.{ids_of}
use Rattle.kernel_tree.specs.Item.{Frame, item}
use Rattle.kernel_tree.specs.Device.{Device, Cell, cell_at, Memory}
use Rattle.kernel_tree.specs.Deeds.{Deed, Goes, Every, written}
use Rattle.kernel_tree.specs.Independent.{Owners, MayRead, IsAllowed, Agrees, write_count}
use Rattle.lift_ir.specs.Types.{Ty, Scalar, PairOf, ArrayOf, IsFour, IsPosition}
use Rattle.printed_form.specs.Expressions.{Expr, OneWord, FourWords}
use Rattle.lift_ir.specs.Scalars.{Scalars}
use Rattle.printed_form.specs.Counts.{Count}
use Rattle.printed_form.specs.Marks.{Mark, Nowhere, Register, Lane, Spot, Marks}

-- a component of an element that is a vector
abbrev pub IsFourAt : Ty → List Bool → Type 0
IsFourAt Scalar cs = ⊥
IsFourAt (PairOf a b) [] = ⊥
IsFourAt (PairOf a b) (false ∷ cs) = IsFourAt a cs
IsFourAt (PairOf a b) (true ∷ cs) = IsFourAt b cs
IsFourAt (ArrayOf n t) [] = IsFour n t
IsFourAt (ArrayOf n t) (c ∷ cs) = ⊥

-- so many variables are there
pub record Fits (n : Count) (vars : Vars) : Type 0 where
  pub words : n.words ≤ length vars.words
  pub fours : n.fours ≤ length vars.vectors

-- an item of a stretch: whose the cells are, and how many local arrays were filled before
pub record Setting : Type 0 where
  pub device : Device
  pub item : ℕ
  pub owners : Owners
  pub locals : ℕ

-- what it knows: memory where it may read, its variables, and how many variables and private arrays
-- are in use
pub record Known : Type 0 where
  pub memory : Memory
  pub vars : Vars
  pub count : Count
  pub arrays : ℕ

-- the word in a lane of four
abbrev pub lane : Four → ℕ → ℕ
lane u zero = u.x
lane u (suc zero) = u.y
lane u (suc (suc zero)) = u.z
lane u (suc (suc (suc n))) = u.w

-- four words, lane by lane
abbrev pub four_of : (ℕ → ℕ) → Four
four_of f = record { x = f 0; y = f 1; z = f 2; w = f 3 }

-- variables below n are as they were, those of a word and those of four
pub record Kept (n : Count) (vars later : Vars) : Type 0 where
  pub long : length later.words ≡ length vars.words
  pub wide : length later.vectors ≡ length vars.vectors
  pub same : (v : ℕ) → v < n.words → word later v ≡ word vars v
  pub same_four : (v : ℕ) → v < n.fours → vector later v ≡ vector vars v

-- an array that is filled already: an input, or one numbered below
abbrev pub IsFilled : (locals privates : ℕ) → Array → Type 0
IsFilled l a (Input n) = Unit {0}
IsFilled l a (Output n) = ⊥
IsFilled l a (Local n) = n < l
IsFilled l a (Private n) = n < a

-- an array that is still to be filled
abbrev pub IsOpen : (locals privates : ℕ) → Array → Type 0
IsOpen l a (Input n) = ⊥
IsOpen l a (Output n) = Unit {0}
IsOpen l a (Local n) = l ≤ n
IsOpen l a (Private n) = a ≤ n

-- a private array from a on, below b
abbrev pub IsBetween : (a b : ℕ) → Array → Type 0
IsBetween a b (Private n) = (a ≤ n) × (n < b)
IsBetween a b _ = ⊥

-- a cell of one of these
abbrev pub Scratch : (a b : ℕ) → Cell → Type 0
Scratch a b c = IsBetween a b c.array

module _ (st : Setting) where
  -- the item's cell of an array, by its index
  abbrev pub spot_cell : Array → ℕ → Cell
  spot_cell b i = cell_at st.device.launch st.item b i

  -- the cell of a mark; where it has none, the first of input 0
  abbrev pub mark_cell : Mark → Cell
  mark_cell (Spot b i) = spot_cell b i
  mark_cell (Register v) = spot_cell (Input 0) 0
  mark_cell (Lane v j) = spot_cell (Input 0) 0
  mark_cell Nowhere = spot_cell (Input 0) 0

  -- all that was in use before is as it was
  pub record Later (x y : Known) : Type 0 where
    pub more : x.count.words ≤ y.count.words
    pub more_fours : x.count.fours ≤ y.count.fours
    pub more_arrays : x.arrays ≤ y.arrays
    pub kept : Kept x.count x.vars y.vars
    pub same : (c : Cell) → IsFilled st.locals x.arrays c.array → y.memory c ≡ x.memory c

  -- a cell that may be read, and holds v
  pub record Readable (x : Known) (b : Array) (i v : ℕ) : Type 0 where
    pub within : i < st.device.lengths b
    pub may : MayRead st.owners st.item (spot_cell b i)
    pub filled : IsFilled st.locals x.arrays b
    pub holds : x.memory (spot_cell b i) ≡ v

  -- what a mark stands for is v
  abbrev pub HoldsAt : Known → Mark → ℕ → Type 0
  HoldsAt x Nowhere v = ⊥
  HoldsAt x (Register r) v = (r < x.count.words) × (word x.vars r ≡ v)
  HoldsAt x (Lane r j) v = (r < x.count.fours) × (lane (vector x.vars r) j ≡ v)
  HoldsAt x (Spot b i) v = Readable x b i v

  -- what stands for a value of a type has its scalars
  abbrev pub Holds : Known → Ty → Marks → Scalars → Type 0
  Holds x ty e s = (cs : List Bool) (q : List ℕ) → IsPosition ty cs q → HoldsAt x (e cs q) (s cs q)

  -- what stands for each binder has its scalars
  abbrev pub AllHold : Known → (ℕ → Ty) → (ℕ → Marks) → (ℕ → Scalars) → Type 0
  AllHold x g env sems = (v : ℕ) → Holds x (g v) (env v) (sems v)

  -- an expression has this value, now and as long as the variables in use are kept
  abbrev pub HasValue : List ℕ → Known → Formula → ℕ → Type 0
  HasValue ts x e n =
      (later : Vars) → Kept x.count x.vars later
      → value (ids_of st.device.launch st.item) ts later e ≡ Some n

  -- and one of four words these
  abbrev pub HasLanes : List ℕ → Known → Lanes → (ℕ → ℕ) → Type 0
  HasLanes ts x e s =
      (later : Vars) → Kept x.count x.vars later
      → lanes_value (ids_of st.device.launch st.item) ts later e ≡ Some (four_of s)

  -- expressions have an element's scalars, word by word and vector by vector
  abbrev pub Values : List ℕ → Known → Ty → (List Bool → Option Expr) → Scalars → Type 0
  Values ts x ty f s =
      ((cs : List Bool) (e : Formula) → IsPosition ty cs [] → f cs ≡ Some (OneWord e)
      → HasValue ts x e (s cs []))
      ×
      ((cs : List Bool) (e : Lanes) → IsFourAt ty cs → f cs ≡ Some (FourWords e)
      → HasLanes ts x e (λ j. s cs (j ∷ [])))

  -- a cell that the item is to write
  abbrev pub DueAt : ℕ → Mark → Type 0
  DueAt a (Spot b i) =
      (i < st.device.lengths b) × (st.owners (spot_cell b i) ≡ Some st.item) × IsOpen st.locals a b
  DueAt a _ = ⊥

  -- where a value of a type goes, private arrays below a being in use: each scalar has a cell of
  -- its own
  pub record Due (a : ℕ) (ty : Ty) (w : Marks) : Type 0 where
    pub at : (cs : List Bool) (q : List ℕ) → IsPosition ty cs q → DueAt a (w cs q)
    pub choices : (cs ds : List Bool) (q p : List ℕ) → IsPosition ty cs q → IsPosition ty ds p
        → mark_cell (w cs q) ≡ mark_cell (w ds p) → cs ≡ ds
    pub places : (cs ds : List Bool) (q p : List ℕ) → IsPosition ty cs q → IsPosition ty ds p
        → mark_cell (w cs q) ≡ mark_cell (w ds p) → q ≡ p

  -- the cells of a value, and what they are to hold
  abbrev pub Targets : Ty → Marks → Scalars → Cell → ℕ → Type 0
  Targets ty w s c v =
      (cs : List Bool) × (q : List ℕ) × IsPosition ty cs q × (c ≡ mark_cell (w cs q)) × (v ≡ s cs q)

-- deeds that write each target once, with its value, and besides scratch cells alone
pub record Wrote (S : Cell → Type 0) (T : Cell → ℕ → Type 0) (m : Memory)
    (ds : List Deed) : Type 0 where
  pub once : (c : Cell) (v : ℕ) → T c v → write_count c ds ≡ 1
  pub holds : (c : Cell) (v : ℕ) → T c v → written ds m c ≡ v
  pub quiet : (c : Cell) → (S c → ⊥) → ((v : ℕ) → T c v → ⊥) → write_count c ds ≡ 0

-- no cell
abbrev pub nothing : Cell → Type 0
nothing c = ⊥

-- no cell is to be written
abbrev pub no_target : Cell → ℕ → Type 0
no_target c v = ⊥

-- what it knows after such deeds, with so many variables and private arrays in use
abbrev pub known_after : Known → List Deed → Vars → (count : Count) → (arrays : ℕ) → Known
known_after x ds vars n a = record {
  memory = written ds x.memory;
  vars = vars;
  count = n;
  arrays = a;
}

-- the item goes through the code up to the rest, in whatever memory agrees with what it knows
pub record Ran (st : Setting) (x : Known) (fs : List Frame) (code rest : Code) (n : Count) (a : ℕ)
    (S : Cell → Type 0) (T : Cell → ℕ → Type 0) (G : Known → Type 0) : Type 0 where
  pub after : Vars
  pub deeds : List Deed
  pub goes : (m : Memory) → Agrees st.owners st.item x.memory m
      → Goes st.device st.item (item code fs x.vars) m deeds (item rest fs after)
  pub later : Later st x (known_after x deeds after n a)
  pub allowed : Every (IsAllowed st.owners st.item) deeds
  pub wrote : Wrote S T x.memory deeds
  pub good : G (known_after x deeds after n a)

-- targets and scratch cells of two stretches one after another
pub record Apart (S1 : Cell → Type 0) (T1 : Cell → ℕ → Type 0) (S2 : Cell → Type 0)
    (T2 : Cell → ℕ → Type 0) (S : Cell → Type 0) (T : Cell → ℕ → Type 0) : Type 0 where
  pub targets : (c : Cell) (v u : ℕ) → T1 c v → T2 c u → ⊥
  pub first_kept : (c : Cell) (v : ℕ) → T1 c v → S2 c → ⊥
  pub second_free : (c : Cell) (v : ℕ) → T2 c v → S1 c → ⊥
  pub scratch_first : (c : Cell) → S1 c → S c
  pub scratch_second : (c : Cell) → S2 c → S c
  pub target_first : (c : Cell) (v : ℕ) → T1 c v → T c v
  pub target_second : (c : Cell) (v : ℕ) → T2 c v → T c v
  pub parts : (c : Cell) (v : ℕ) → T c v → T1 c v ⊎ T2 c v
