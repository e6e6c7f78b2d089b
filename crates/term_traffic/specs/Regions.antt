-- In which memory the scalars of a term lie.
use Rattle.std.specs.Prelude.{ℕ, Bool, true, false, List, ◌∷◌}
use Rattle.lift_ir.specs.Scalars.{by_side}
use Rattle.lift_ir.specs.Terms.{LoadSet, Skip, Take, TakeFour, Each, Space, LocalMemory, PrivateMemory, Term, Bound, Source, Both, Project, Reshape, LetArray, Copy, push}

-- a memory; no memory holds what is in private variables
pub data Region : Type 0 where
  NoMemory InGlobal InLocal InPrivate : Region

-- a copy's memory
abbrev pub region_in : Space → Region
region_in LocalMemory = InLocal
region_in PrivateMemory = InPrivate

-- where each component of a value lies, by its pair choices
abbrev pub Regions : Type 0
Regions = List Bool → Region

-- all in one memory
abbrev pub all_in : Region → Regions
all_in r cs = r

-- of an argument, where those of binders lie so
abbrev pub regions_of : {A : Type 0} → (ℕ → Regions) → Term A → Regions
regions_of env (Bound v) = env v
regions_of env (Source s) = all_in InGlobal
regions_of env (Both zips a b) = by_side NoMemory (regions_of env a) (regions_of env b)
regions_of env (Project s a) = λ cs. regions_of env a (s ∷ cs)
regions_of env (Reshape y a) = regions_of env a
regions_of env (LetArray v b) = regions_of (push (regions_of env v) env) b
regions_of env (Copy space ty a) = all_in (region_in space)
regions_of env _ = all_in NoMemory

-- of an element, once these of its scalars are loaded
abbrev pub regions_left : LoadSet → Regions → Regions
regions_left Skip x = x
regions_left Take x = all_in NoMemory
regions_left TakeFour x = all_in NoMemory
regions_left (Each a b) x =
    by_side NoMemory (regions_left a (λ cs. x (false ∷ cs))) (regions_left b (λ cs. x (true ∷ cs)))
