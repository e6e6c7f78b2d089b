-- Kernels that differ in the spelling of indices and bounds alone.
use Rattle.std.specs.Prelude.{◌≡◌, ℕ, ◌+◌, ◌*◌, ◌<◌, Bool, true, false, List, [], ◌∷◌, ◌++◌, Some}
use Rattle.kernel_tree.specs.declared.events.Event.{Event}
use Rattle.kernel_tree.specs.Formula.{Formula, Four, Vars, value, bound_value}
use Rattle.kernel_tree.specs.Code.{Array, Statement, Assigns, Loads, Stores, AssignsFour, LoadsFour, StoresFour, Syncs, Code, End, Performs, Loops, Guards, Kernel, start_value, stride_value}
use Rattle.kernel_tree.specs.Launch.{Launch, Cells, IsWhole, item_count, ids_of}
use Rattle.kernel_tree.specs.Item.{Frame, Item, item, loop_variables, Wants, Ends, Waits, Moves, Reads, Writes, ReadsFour, WritesFour, Fails}
use Rattle.kernel_tree.specs.Device.{Device, State, Fence, device_of, length_in, run, IsRun}
use Rattle.kernel_tree.specs.Faults.{accesses, NoFailure}
use Rattle.kernel_tree.specs.Histories.{history}
use Rattle.lift_ir.specs.Types.{Ty}
use Rattle.lift_ir.specs.Terms.{Term}
use Rattle.printed_form.specs.Form.{IsTurn}
use Rattle.printed_form.specs.Marks.{Marks}
use Rattle.printed_form.specs.Whole.{IsCode}

-- as this item runs them
module _ (l : Launch) (item : ℕ) where
  -- two indices of one value, whatever the variables hold
  abbrev pub SameIndex : List ℕ → Formula → Formula → Type 0
  SameIndex ts i j = (vs : Vars) → value (ids_of l item) ts vs i ≡ value (ids_of l item) ts vs j

  -- a value of the loop's variable from this turn on
  abbrev pub IsAhead : Frame → ℕ → Type 0
  IsAhead f i = (t : ℕ) × (i ≡ f.variable + t * stride_value (ids_of l item) f.stride)

-- and, where `grouped`, with the ifs and barriers of a map over groups
module _ (grouped : Bool) (l : Launch) (item : ℕ) where
  -- statements of one kind, at these turns of the loops around them
  abbrev pub AlikeStatement : List ℕ → Statement → Statement → Type 0
  AlikeStatement ts (Assigns v e) (Assigns u f) = (v ≡ u) × (e ≡ f)
  AlikeStatement ts (Loads v a i) (Loads u b j) = (v ≡ u) × (a ≡ b) × SameIndex l item ts i j
  AlikeStatement ts (Stores a i e) (Stores b j f) = (a ≡ b) × SameIndex l item ts i j × (e ≡ f)
  AlikeStatement ts (AssignsFour v e) (AssignsFour u f) = (v ≡ u) × (e ≡ f)
  AlikeStatement ts (LoadsFour v a i) (LoadsFour u b j) =
      (v ≡ u) × (a ≡ b) × SameIndex l item ts i j
  AlikeStatement ts (StoresFour a i e) (StoresFour b j f) =
      (a ≡ b) × SameIndex l item ts i j × (e ≡ f)
  AlikeStatement ts (Syncs a b) (Syncs c d) = (grouped ≡ true) × (a ≡ c) × (b ≡ d)
  AlikeStatement ts _ _ = ⊥

  -- codes so, at the turns that the item takes of the loops within
  abbrev pub Alike : List ℕ → Code → Code → Type 0
  Alike ts End End = Unit {0}
  Alike ts (Performs s r) (Performs t q) = AlikeStatement ts s t × Alike ts r q
  Alike ts (Loops s b c body r) (Loops t d e other q) =
      (s ≡ t) × (c ≡ e) × (n : ℕ) × (bound_value l.sizes b ≡ Some n)
      × (bound_value l.sizes d ≡ Some n)
      × ((i : ℕ) → i < n → IsTurn l item s c i → Alike (ts ++ i ∷ []) body other) × Alike ts r q
  Alike ts (Guards s b body r) (Guards t d other q) =
      (grouped ≡ true) × (s ≡ t) × (n : ℕ) × (bound_value l.sizes b ≡ Some n)
      × (bound_value l.sizes d ≡ Some n)
      × (start_value (ids_of l item) s < n → Alike ts body other) × Alike ts r q
  Alike ts _ _ = ⊥

  -- loops that are under way, in the same turns
  abbrev pub AlikeFrames : List Frame → List Frame → Type 0
  AlikeFrames [] [] = Unit {0}
  AlikeFrames (f ∷ fs) (h ∷ hs) =
      (f.turn ≡ h.turn) × (f.variable ≡ h.variable) × (f.stride ≡ h.stride) × (n : ℕ)
      × (bound_value l.sizes f.bound ≡ Some n) × (bound_value l.sizes h.bound ≡ Some n)
      × ((i : ℕ) → i < n → IsAhead l item f i → Alike (loop_variables fs ++ i ∷ []) f.body h.body)
      × Alike (loop_variables fs) f.after h.after × AlikeFrames fs hs
  AlikeFrames _ _ = ⊥

  -- items that stand at alike codes in alike loops, with the same variables
  pub record AlikeItems (x y : Item) : Type 0 where
    pub code : Alike (loop_variables x.frames) x.code y.code
    pub frames : AlikeFrames x.frames y.frames
    pub vars : x.vars ≡ y.vars

  -- what they do next is alike
  abbrev pub AlikeWants : Wants → Wants → Type 0
  AlikeWants Ends Ends = Unit {0}
  AlikeWants (Waits a b x) (Waits c d y) = (grouped ≡ true) × (a ≡ c) × (b ≡ d) × AlikeItems x y
  AlikeWants (Moves x) (Moves y) = AlikeItems x y
  AlikeWants (Reads a n f) (Reads b m g) = (a ≡ b) × (n ≡ m) × ((v : ℕ) → AlikeItems (f v) (g v))
  AlikeWants (Writes a n v x) (Writes b m u y) = (a ≡ b) × (n ≡ m) × (v ≡ u) × AlikeItems x y
  AlikeWants (ReadsFour a n f) (ReadsFour b m g) =
      (a ≡ b) × (n ≡ m) × ((u : Four) → AlikeItems (f u) (g u))
  AlikeWants (WritesFour a n v x) (WritesFour b m u y) =
      (a ≡ b) × (n ≡ m) × (v ≡ u) × AlikeItems x y
  AlikeWants (Fails f) (Fails g) = f ≡ g
  AlikeWants _ _ = ⊥

-- alike items, over the same memory and in the same epochs
pub record AlikeStates (grouped : Bool) (l : Launch) (s t : State) : Type 0 where
  pub items : (j : ℕ) → j < item_count l → AlikeItems grouped l j (s.items j) (t.items j)
  pub memory : s.memory ≡ t.memory
  pub epochs : (g : ℕ) (f : Fence) → s.epochs g f ≡ t.epochs g f

-- the same run, on a device with the same launch whose arrays are as long: the same events can
-- come, with the same accesses, deeds and failures
pub record SameRun (grouped : Bool) (d e : Device) (s t : State) (es : List Event) : Type 0 where
  pub is_run : IsRun e t es
  pub accesses : accesses d s es ≡ accesses e t es
  pub histories : (j : ℕ) → j < item_count d.launch → history d s es j ≡ history e t es j
  pub no_failure : NoFailure d s es → NoFailure e t es
  pub ends : AlikeStates grouped d.launch (run d s es) (run e t es)

-- both begin with these variables and the same memory
pub record BeginAlike (l : Launch) (k k2 : Kernel) (s t : State) : Type 0 where
  pub vars : ℕ → Vars
  pub first : (j : ℕ) → j < item_count l → s.items j ≡ item k.code [] (vars j)
  pub second : (j : ℕ) → j < item_count l → t.items j ≡ item k2.code [] (vars j)
  pub memory : s.memory ≡ t.memory
  pub epochs : (g : ℕ) (f : Fence) → s.epochs g f ≡ t.epochs g f

-- any two kernels that are printed for one term have, at one launch and from the same contents, the
-- same events with the same accesses
abbrev pub PrintedKernelsAreAlike : Type 0 → Type 0
PrintedKernelsAreAlike A =
    (num : A → ℕ) (l : Launch) (ins : ℕ → Marks) (t : Term A) (ty : Ty) (k k2 : Kernel) (c : Cells)
    (s s2 : State) (es : List Event)
    → IsWhole l → IsCode l ins num t ty k.code → IsCode l ins num t ty k2.code
    → ((a : Array) → length_in k c a ≡ length_in k2 c a) → BeginAlike l k k2 s s2
    → IsRun (device_of k l c) s es
    → SameRun false (device_of k l c) (device_of k2 l c) s s2 es
