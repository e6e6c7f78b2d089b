-- The inputs of a program, and the values that JSON gives for them.
use Rattle.std.specs.Prelude.{◌≤◌, ◌<◌, ◌^◌, ℕ, ◌+◌, ◌-◌, ◌==◌, List, [], ◌∷◌, Option, Some, None, option_map, option_and_then, if◌then◌else◌}
use Rattle.serde_json.specs.Data.{Data, Items, no_items, item}
use Rattle.serde_json.specs.Events.{items_len}
use Rattle.serde_json.specs.Find.{as_array}
use Rattle.lift_tree.specs.declared.length.Sign.{Sign}
use Rattle.lift_tree.specs.declared.length.Sign.TheVariants.{Plus, Minus}
use Rattle.lift_tree.specs.declared.length.Part.{Part}
use Rattle.lift_tree.specs.InputTypes.{Written, Number, Pair, Array}
use Rattle.lift_tree.specs.Meaning.{product_at}
use Rattle.lift_tree.specs.Programs.{PlainInput}
use Rattle.lift_tree.specs.Values.{Value, Word, Both, array}
use Rattle.launch_file.specs.Json.{word_in}

-- ---- lengths, where the declared sizes have these values

-- the number, where the sign adds it, or nothing
abbrev pub if_added : Sign → ℕ → ℕ
if_added Plus n = n
if_added Minus n = 0

-- the number, where the sign takes it away, or nothing
abbrev pub if_taken : Sign → ℕ → ℕ
if_taken Plus n = 0
if_taken Minus n = n

-- what all parts of a length add
abbrev pub added_at : List ℕ → List Part → ℕ
added_at sizes [] = 0
added_at sizes (p ∷ ps) = if_added p.sign (product_at sizes p.product) + added_at sizes ps

-- what all parts of a length take away
abbrev pub taken_at : List ℕ → List Part → ℕ
taken_at sizes [] = 0
taken_at sizes (p ∷ ps) = if_taken p.sign (product_at sizes p.product) + taken_at sizes ps

-- a length: what its parts add, less what they take away
abbrev pub length_at : List ℕ → List Part → ℕ
length_at sizes parts = added_at sizes parts - taken_at sizes parts

-- no more is taken away than added, and the length has 64 bits
pub record LengthFits (sizes : List ℕ) (parts : List Part) : Type 0 where
  pub positive : taken_at sizes parts ≤ added_at sizes parts
  pub small : length_at sizes parts < 2 ^ 64

-- each length in a type fits
abbrev pub LengthsFit : List ℕ → Written → Type 0
LengthsFit sizes Number = Unit {0}
LengthsFit sizes (Pair a b) = LengthsFit sizes a × LengthsFit sizes b
LengthsFit sizes (Array a parts) = LengthFits sizes parts × LengthsFit sizes a

-- the type of an input whose lengths fit
pub record TypeFits (sizes : List ℕ) (ty : Written) : Type 0 where
  pub lengths : LengthsFit sizes ty

-- the type of each input fits
abbrev pub InputsFit : List ℕ → List PlainInput → Type 0
InputsFit sizes [] = Unit {0}
InputsFit sizes (i ∷ is) = TypeFits sizes i.ty × InputsFit sizes is

-- ---- values

-- the values that a list gives, where each item gives one
abbrev pub read_all : (Data → Option Value) → Items → Option (List Value)
read_all f no_items = Some []
read_all f (item d ds) = option_and_then (λ v. option_map (λ vs. v ∷ vs) (read_all f ds)) (f d)

-- a list of two, each read its own way
abbrev pub read_two : (Data → Option Value) → (Data → Option Value) → Items → Option Value
read_two f g (item d (item e no_items)) = option_and_then (λ v. option_map (Both v) (g e)) (f d)
read_two f g _ = None

-- as many as the length says
abbrev pub read_many : (Data → Option Value) → ℕ → Items → Option Value
read_many f n ds = if items_len ds == n then option_map array (read_all f ds) else None

-- the value of a type that JSON gives, where the declared sizes have these values
abbrev pub read_value : List ℕ → Written → Data → Option Value
read_value sizes Number d = option_map Word (word_in d)
read_value sizes (Pair a b) d =
    option_and_then (read_two (read_value sizes a) (read_value sizes b)) (as_array d)
read_value sizes (Array a parts) d =
    option_and_then (read_many (read_value sizes a) (length_at sizes parts)) (as_array d)
