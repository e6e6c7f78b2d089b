-- Where the scalars of vectors lie: what has to be so, that a vector is loaded and stored as one.
-- A vector is an array of four words here, so how many arrays are around it is told beside.
use Rattle.std.specs.Prelude.{◌≡◌, ℕ, zero, suc}
use Rattle.lift_ir.specs.Types.{Ty, Scalar, PairOf, ArrayOf}
use Rattle.lift_ir.specs.Layouts.{Layout, Split, Join, Transpose, Reverse, Slide, Pad}
use Rattle.lift_ir.specs.Terms.{LoadSet, Skip, Take, TakeFour, Each, LocalMemory, PrivateMemory, Term, Bound, Source, Both, Project, Reshape, LetArray, LetElement, Map, Fold, Store, Copy, push}

-- where a value lies: some of it in variables, so that it is no argument; in cells anywhere; in one
-- array of global or local memory, row by row, so many values of its size before it; or its
-- vectors, in so many arrays, do
pub data Lie : Type 0 where
  Held : Lie
  Loose : Lie
  Whole : Lie
  InFours : (outer : ℕ) → Lie

-- what lies whole lies so in every sense
abbrev pub Serves : (has wanted : Lie) → Type 0
Serves Held z = ⊥
Serves y Loose = Unit {0}
Serves Whole Whole = Unit {0}
Serves Whole (InFours k) = Unit {0}
Serves (InFours j) (InFours k) = j ≡ k
Serves _ _ = ⊥

-- an element of an array
abbrev pub element_lie : Lie → Lie
element_lie Held = Held
element_lie Loose = Loose
element_lie Whole = Whole
element_lie (InFours zero) = Loose
element_lie (InFours (suc k)) = InFours k

-- what is read through a layout: split and join leave an array whole, every layout around vectors
-- leaves them in fours
abbrev pub read_lie : {A : Type 0} → Layout A → Lie → Lie
read_lie (Split m) Whole = Whole
read_lie (Join m) Whole = Whole
read_lie (Split m) (InFours (suc k)) = InFours (suc (suc k))
read_lie (Join m) (InFours (suc (suc k))) = InFours (suc k)
read_lie Transpose (InFours (suc (suc k))) = InFours (suc (suc k))
read_lie (Reverse n) (InFours (suc k)) = InFours (suc k)
read_lie (Slide s t) (InFours (suc k)) = InFours (suc (suc k))
read_lie (Pad l r n) (InFours (suc k)) = InFours (suc k)
read_lie _ y = Loose

-- where the operand of a layout goes, when the result goes there
abbrev pub written_lie : {A : Type 0} → Layout A → Lie → Lie
written_lie (Split m) w = read_lie (Join m) w
written_lie (Join m) w = read_lie (Split m) w
written_lie {A = A} Transpose w = read_lie {A = A} Transpose w
written_lie (Reverse n) w = read_lie (Reverse n) w
written_lie _ w = Loose

-- an element once it is loaded: a vector is held, and of a pair all arrays are in cells
abbrev pub bound_lie : LoadSet → Lie → Lie
bound_lie Skip y = y
bound_lie Take y = Loose
bound_lie TakeFour y = Held
bound_lie (Each a b) y = Loose

-- of two that are a pair
abbrev pub both_lie : Lie → Lie → Lie
both_lie Held z = Held
both_lie y Held = Held
both_lie y z = Loose

-- an element that is held in variables
abbrev pub held_lie : Ty → Lie
held_lie Scalar = Loose
held_lie (PairOf a b) = both_lie (held_lie a) (held_lie b)
held_lie (ArrayOf n t) = Held

-- what is loaded of an element that lies so
abbrev pub LoadsFours : Lie → LoadSet → Type 0
LoadsFours y Skip = Unit {0}
LoadsFours y Take = Unit {0}
LoadsFours y TakeFour = Serves y (InFours 0)
LoadsFours y (Each a b) = LoadsFours Loose a × LoadsFours Loose b

-- an element of this type that is stored there
abbrev pub StoresFours : Lie → Ty → Type 0
StoresFours w Scalar = Unit {0}
StoresFours w (PairOf a b) = StoresFours Loose a × StoresFours Loose b
StoresFours w (ArrayOf n t) = Serves w (InFours 0)

-- an argument lies so, where binders lie so: inputs and local copies lie whole
abbrev pub Lies : {A : Type 0} → (ℕ → Lie) → Term A → Lie → Type 0
Lies g (Bound v) z = Serves (g v) z
Lies g (Source s) z = Serves Whole z
Lies g (Both zips a b) z = Lies g a Loose × Lies g b Loose × Serves Loose z
Lies g (Project s a) z = Lies g a Loose × Serves Loose z
Lies g (Reshape l a) z = (y : Lie) × Lies g a y × Serves (read_lie l y) z
Lies g (LetArray v b) z = (y : Lie) × Lies g v y × Lies (push y g) b z
Lies g (Copy LocalMemory ty a) z = Serves Whole z
Lies g _ z = Serves Loose z

abbrev mutual
  -- the vectors that an argument's copies load and store lie in fours
  pub ReadsFours : {A : Type 0} → (ℕ → Lie) → Term A → Type 0
  ReadsFours g (Both zips a b) = ReadsFours g a × ReadsFours g b
  ReadsFours g (Project s a) = ReadsFours g a
  ReadsFours g (Reshape l a) = ReadsFours g a
  ReadsFours g (LetArray v b) = (y : Lie) × Lies g v y × ReadsFours g v × ReadsFours (push y g) b
  ReadsFours g (Copy LocalMemory ty a) = WritesFours g Whole a
  ReadsFours g (Copy PrivateMemory ty a) = WritesFours g Loose a
  ReadsFours g _ = Unit {0}

  -- and those that a term in writing position does, which goes there
  pub WritesFours : {A : Type 0} → (ℕ → Lie) → Lie → Term A → Type 0
  WritesFours g w (Store ty t) = StoresFours w ty
  WritesFours g w (Reshape l t) = (v : Lie) × Serves w v × WritesFours g (written_lie l v) t
  WritesFours g w (LetArray v b) =
      (y : Lie) × Lies g v y × ReadsFours g v × WritesFours (push y g) w b
  WritesFours g w (LetElement ty v b) = WritesFours (push (held_lie ty) g) w b
  WritesFours g w (Map k n loads xs b) =
      (y : Lie) × Lies g xs y × ReadsFours g xs × LoadsFours (element_lie y) loads
      × WritesFours (push (bound_lie loads (element_lie y)) g) (element_lie w) b
  WritesFours g w (Fold n loads ty xs s b) =
      (y : Lie) × Lies g xs y × ReadsFours g xs × LoadsFours (element_lie y) loads
      × StoresFours (element_lie w) ty
  WritesFours g w _ = Unit {0}

-- nothing is known of binders that aren't there
abbrev pub no_lie : ℕ → Lie
no_lie v = Loose

-- a whole term, whose value goes to the outputs, loads and stores each vector as one
abbrev pub KeepsFours : {A : Type 0} → Term A → Type 0
KeepsFours t = WritesFours no_lie Whole t
