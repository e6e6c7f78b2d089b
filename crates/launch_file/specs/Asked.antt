-- What of JSON a launch file is read for, and values that are alike to it.
use Rattle.std.specs.Prelude.{◌≡◌, ◌||◌, ℕ, List, [], ◌∷◌, Bool, false, IsTrue, Option, None, codes, bytes_eq}
use Rattle.std.specs.Option.{IsSomeAnd}
use Rattle.std.specs.Ordering.{nat_cmp}
use Rattle.std.specs.declared.cmp.Ordering.{Ordering}
use Rattle.std.specs.declared.cmp.Ordering.TheVariants.{Less, Equal, Greater}
use Rattle.std.specs.Cmp.Lexicographic.{slice_cmp}
use Rattle.serde_json.specs.Data.{Data, null, boolean, number, string, array, object, Items, no_items, item, Members, no_members, member}
use Rattle.serde_json.specs.Find.{get_member}
use Rattle.lift_tree.specs.declared.program.Size.{Size}
use Rattle.lift_tree.specs.Programs.{PlainInput, PlainProgram}

-- a launch file's own keys
abbrev pub is_key : List ℕ → Bool
is_key k =
    bytes_eq k (codes "global") || (bytes_eq k (codes "local") || (bytes_eq k (codes "sizes")
    || (bytes_eq k (codes "inputs") || (bytes_eq k (codes "schedule")
    || (bytes_eq k (codes "seed") || bytes_eq k (codes "launches"))))))

-- the name of a declared size
abbrev pub names_size : List Size → List ℕ → Bool
names_size [] k = false
names_size (s ∷ ss) k = bytes_eq s.name k || names_size ss k

-- the name of an input
abbrev pub names_input : List PlainInput → List ℕ → Bool
names_input [] k = false
names_input (x ∷ xs) k = bytes_eq x.name k || names_input xs k

-- a key that launch files of the program are asked for
abbrev pub is_asked : PlainProgram → List ℕ → Bool
is_asked p k = is_key k || (names_size p.sizes k || names_input p.inputs k)

-- what is found at a key, as the order of the key sought and the one that is there tells: at equal
-- keys this, else that
abbrev pub AtOrder : Ordering → (same other : Type 0) → Type 0
AtOrder Less same other = other
AtOrder Equal same other = same
AtOrder Greater same other = other

-- Values that are the same to those who ask for these keys alone: of two objects, what the first
-- has at each of them is so to what the second has there.
abbrev mutual
  pub Agree : PlainProgram → Data → Data → Type 0
  Agree p null d = d ≡ null
  Agree p (boolean b) d = d ≡ boolean b
  Agree p (number n) d = d ≡ number n
  Agree p (string s) d = d ≡ string s
  Agree p (array vs) d = (ds : Items) × (d ≡ array ds) × AgreeItems p vs ds
  Agree p (object ms) d = (ns : Members) × (d ≡ object ns)
      × ((k : List ℕ) → IsTrue (is_asked p k) → HoldsAt p ms k (get_member k ns))

  pub AgreeItems : PlainProgram → Items → Items → Type 0
  AgreeItems p no_items ds = ds ≡ no_items
  AgreeItems p (item v vs) ds =
      (d : Data) × (es : Items) × (ds ≡ item d es) × Agree p v d × AgreeItems p vs es

  pub HoldsAt : PlainProgram → Members → List ℕ → Option Data → Type 0
  HoldsAt p no_members k o = o ≡ None
  HoldsAt p (member l v ms) k o =
      AtOrder (slice_cmp nat_cmp k l) (IsSomeAnd o (Agree p v)) (HoldsAt p ms k o)

abbrev pub AgreeMembers : PlainProgram → Members → Members → Type 0
AgreeMembers p ms ns = (k : List ℕ) → IsTrue (is_asked p k) → HoldsAt p ms k (get_member k ns)
