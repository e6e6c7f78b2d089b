-- What the items of a group run together.
use Rattle.std.specs.Prelude.{Bool, true, false}
use Rattle.barrier_placement.specs.declared.touches.Touch.{Touch}
use Rattle.lift_ir.specs.Terms.{Term, Bound, Source, Both, Project, Reshape, LetArray, Map, Copy}

-- a map, seen through layouts and lets (true), or an argument (false), whose copies are such
abbrev pub IsOfPhases : {A : Type 0} → (written : Bool) → Term A → Type 0
IsOfPhases true (Reshape y t) = IsOfPhases true t
IsOfPhases true (LetArray v b) = IsOfPhases false v × IsOfPhases true b
IsOfPhases true (Map k n loads xs b) = IsOfPhases false xs
IsOfPhases true _ = ⊥
IsOfPhases false (Bound v) = Unit {0}
IsOfPhases false (Source a) = Unit {0}
IsOfPhases false (Both true a b) = IsOfPhases false a × IsOfPhases false b
IsOfPhases false (Project s a) = IsOfPhases false a
IsOfPhases false (Reshape y a) = IsOfPhases false a
IsOfPhases false (LetArray v b) = IsOfPhases false v × IsOfPhases false b
IsOfPhases false (Copy space ty a) = IsOfPhases true a
IsOfPhases false _ = ⊥

-- the use, told as one of any cell
abbrev pub unaligned : Touch → Touch
unaligned u = record {
  phase = u.phase;
  buffer = u.buffer;
  writes = u.writes;
  aligned = false;
  local = u.local;
}
