-- JSON, and how numbers, lists and values are written in it.
use Rattle.std.specs.Prelude.{◌≡◌, ◌^◌, ℕ, List, [], ◌∷◌, IsUtf8, nat_lt, if◌then◌else◌, Bool, Option, Some, None, option_map, option_and_then, is_some}
use Rattle.serde_json.specs.Data.{Data, number, array, Items, no_items, item, unsigned}
use Rattle.serde_json.specs.Read.{read}
use Rattle.serde_json.specs.Find.{get, as_array, as_number, as_object, as_u64}
use Rattle.lift_tree.specs.Values.{Value, Word, Both, Nil, More}

-- the bytes are JSON with this value
abbrev pub IsJson : List ℕ → Data → Type 0
IsJson bytes d = IsUtf8 bytes × (read bytes ≡ Some d)

-- a value is an object
abbrev pub is_object : Data → Bool
is_object d = is_some (as_object d)

-- the whole number that a value is: one that is given as 64 bits without a sign
abbrev pub whole : Data → Option ℕ
whole d = option_and_then as_u64 (as_number d)

-- the whole number at a key
abbrev pub whole_at : List ℕ → Data → Option ℕ
whole_at key d = option_and_then whole (get key d)

-- the two whole numbers that a list is, where it is one of two
abbrev pub two_in : Items → Option (ℕ × ℕ)
two_in (item d (item e no_items)) =
    option_and_then (λ n. option_map (λ m. (n, m)) (whole e)) (whole d)
two_in _ = None

-- two whole numbers: those of a list, or a number and 1
abbrev pub pair_from : Option Items → Option ℕ → Option (ℕ × ℕ)
pair_from (Some ds) n = two_in ds
pair_from None n = option_map (λ m. (m, 1)) n

-- the two whole numbers that a value is: a number with 1, or a list of two
abbrev pub pair_in : Data → Option (ℕ × ℕ)
pair_in d = pair_from (as_array d) (whole d)

-- the two whole numbers at a key
abbrev pub pair_at : List ℕ → Data → Option (ℕ × ℕ)
pair_at key d = option_and_then pair_in (get key d)

-- the object at a key
abbrev pub object_at : List ℕ → Data → Option Data
object_at key d = option_and_then (λ e. if is_object e then Some e else None) (get key d)

-- the whole number below 2^32 that a value is
abbrev pub word_in : Data → Option ℕ
word_in d = option_and_then (λ n. if nat_lt n (2 ^ 32) then Some n else None) (whole d)

-- the numbers of a list, where all are whole and below 2^32
abbrev pub words_in : Items → Option (List ℕ)
words_in no_items = Some []
words_in (item d ds) = option_and_then (λ n. option_map (λ ns. n ∷ ns) (words_in ds)) (word_in d)

-- ---- written

-- a whole number
abbrev pub number_data : ℕ → Data
number_data n = number (unsigned n)

-- numbers as the items of a list
abbrev pub items_data : List ℕ → Items
items_data [] = no_items
items_data (n ∷ ns) = item (number_data n) (items_data ns)

-- a list with one item more at its front
abbrev pub with_first : Data → Data → Data
with_first d (array ds) = array (item d ds)
with_first d _ = array (item d no_items)

-- a value: a pair is a list of its two parts
abbrev pub data_of : Value → Data
data_of (Word n) = number_data n
data_of (Both v w) = array (item (data_of v) (item (data_of w) no_items))
data_of Nil = array no_items
data_of (More v rest) = with_first (data_of v) (data_of rest)
