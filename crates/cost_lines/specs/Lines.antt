-- The lines of a cost.
use Rattle.std.specs.Prelude.{ℕ, zero, suc, ◌+◌, ◌*◌, Bool, List, [], ◌++◌, codes, decimal, if◌then◌else◌}
use Rattle.term_traffic.specs.Traffic.{ItemTraffic}
use Rattle.item_traffic.specs.Counts.{held}

-- words, and a number behind them
unfoldable pub piece : (words : List ℕ) → ℕ → List ℕ
piece words n = words ++ decimal n

-- the numbers of loads and stores, the first behind these words
abbrev pub traffic_text : (words : List ℕ) → ItemTraffic → List ℕ
traffic_text words n =
    piece words n.global_loads
    ++ (piece (codes ", global stores ") n.global_stores
    ++ (piece (codes ", local loads ") n.local_loads
    ++ piece (codes ", local stores ") n.local_stores))

-- of one item
abbrev pub item_line : ℕ → ItemTraffic → List ℕ
item_line k n = piece (codes "item ") k ++ (traffic_text (codes ": global loads ") n ++ codes "\n")

-- of all, with the releases
abbrev pub cost_line : ItemTraffic → ℕ → List ℕ
cost_line n r =
    traffic_text (codes "cost: global loads ") n ++ (piece (codes ", releases ") r ++ codes "\n")

-- the numbers, each held at the greatest of 64 bits
abbrev pub held_traffic : ItemTraffic → ItemTraffic
held_traffic n = record {
  global_loads = held n.global_loads;
  global_stores = held n.global_stores;
  local_loads = held n.local_loads;
  local_stores = held n.local_stores;
}

-- none
abbrev pub no_traffic : ItemTraffic
no_traffic = record { global_loads = 0; global_stores = 0; local_loads = 0; local_stores = 0 }

-- of two together
abbrev pub both_traffic : ItemTraffic → ItemTraffic → ItemTraffic
both_traffic m n = record {
  global_loads = m.global_loads + n.global_loads;
  global_stores = m.global_stores + n.global_stores;
  local_loads = m.local_loads + n.local_loads;
  local_stores = m.local_stores + n.local_stores;
}

-- of so many that are alike
abbrev pub times_traffic : ItemTraffic → ℕ → ItemTraffic
times_traffic n count = record {
  global_loads = n.global_loads * count;
  global_stores = n.global_stores * count;
  local_loads = n.local_loads * count;
  local_stores = n.local_stores * count;
}

-- of the first n together
abbrev pub sum_traffic : (ℕ → ItemTraffic) → ℕ → ItemTraffic
sum_traffic f zero = no_traffic
sum_traffic f (suc n) = both_traffic (sum_traffic f n) (f n)

-- the sum of the first n numbers
abbrev pub sum_to : (ℕ → ℕ) → ℕ → ℕ
sum_to f zero = 0
sum_to f (suc n) = sum_to f n + f n

-- a line for each of the first n items
abbrev pub item_lines : (ℕ → ItemTraffic) → ℕ → List ℕ
item_lines f zero = []
item_lines f (suc n) = item_lines f n ++ item_line n (held_traffic (f n))

-- a line for each of so many items from this one on that are alike
abbrev pub lines_from : (item count : ℕ) → ItemTraffic → List ℕ
lines_from item zero n = []
lines_from item (suc count) n = lines_from item count n ++ item_line (item + count) n

-- or none, where they aren't asked for
abbrev pub lines_if : (items : Bool) → (ℕ → ItemTraffic) → ℕ → List ℕ
lines_if items f n = if items then item_lines f n else []

-- the lines of a cost, with those of the items where they are asked for
abbrev pub cost_lines : (items : Bool) → (traffic : ℕ → ItemTraffic) → (count : ℕ)
    → (releases : ℕ → ℕ) → (groups : ℕ) → List ℕ
cost_lines items f n r g =
    lines_if items f n ++ cost_line (held_traffic (sum_traffic f n)) (held (sum_to r g))
