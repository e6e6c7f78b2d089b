-- What JSON the tokens of a text begin with.
use Rattle.std.specs.Prelude.{ℕ, List, Option, length}
use Rattle.json.specs.Token.{Token}
use Rattle.json.specs.Json as json
use Rattle.serde_json.specs.Data.{Data, Items, Members, no_members}
use Rattle.serde_json.specs.Read.{of_json, of_items, of_members, converted}

-- the value that they begin with, nested so deep at most, and the tokens after it
abbrev pub value_at : (depth : ℕ) → List Token → Option (Data × List Token)
value_at depth ts = converted of_json (json.value depth ts)

-- the items of a list up to its end, and the tokens after it
abbrev pub items_at : (depth : ℕ) → List Token → Option (Items × List Token)
items_at depth ts = converted of_items (json.items (json.value depth) (length ts) ts)

-- the members of an object up to its end, and the tokens after it
abbrev pub members_at : (depth : ℕ) → List Token → Option (Members × List Token)
members_at depth ts =
    converted (λ ms. of_members ms no_members) (json.members (json.value depth) (length ts) ts)
