-- Which loads or stores are counted, and how far.
use Rattle.std.specs.Prelude.{ℕ, ◌-◌, ◌^◌, min}
use Rattle.term_traffic.specs.Regions as regions
use Rattle.term_traffic.specs.Traffic.{in_global, in_local, uncounted}
use Rattle.item_traffic.specs.declared.access.Access.{Access}
use Rattle.item_traffic.specs.declared.access.Access.TheVariants as access

-- how much a load counts by where its scalar lies
abbrev pub load_of : Access → regions.Region → ℕ
load_of access.GlobalLoad = in_global
load_of access.LocalLoad = in_local
load_of access.GlobalStore = uncounted
load_of access.LocalStore = uncounted

-- and a store by where it goes
abbrev pub store_of : Access → regions.Region → ℕ
store_of access.GlobalStore = in_global
store_of access.LocalStore = in_local
store_of access.GlobalLoad = uncounted
store_of access.LocalLoad = uncounted

-- a count, held at the greatest number of 64 bits
abbrev pub held : ℕ → ℕ
held n = min n (2 ^ 64 - 1)
