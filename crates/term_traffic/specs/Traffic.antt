-- The traffic of a lowered term: what each work-item loads and stores, as a sum over the turns that
-- it takes of the term's maps and folds, and how often each group is released.
use Rattle.std.specs.Int.{div_ceil}
use Rattle.std.specs.Prelude.{ℕ, zero, suc, ◌+◌, ◌-◌, ◌*◌, true, false, [], ◌∷◌, if◌then◌else◌}
use Rattle.lift_tree.specs.declared.term.Level.TheVariants.{Launch, Groups, Items}
use Rattle.lift_tree.specs.declared.term.Dimension.TheVariants.{X, Y}
use Rattle.kernel_tree.specs.Formula.{Ids, along}
use Rattle.barrier_placement.specs.Fencing.{Fencing, stands}
use Rattle.barrier_placement.specs.Separates.{bit}
use Rattle.lift_ir.specs.Owner.{is_in_rows}
use Rattle.lift_ir.specs.Types.{Ty, Scalar, PairOf, ArrayOf}
use Rattle.lift_ir.specs.Terms.{LoadSet, Skip, Take, TakeFour, Each, Kind, Over, Sequential, Term, Both, Project, Reshape, LetArray, LetElement, Map, Fold, Store, Copy, push}
use Rattle.printed_form.specs.Form.{dimension_of}
use Rattle.group_form.specs.GridTheorem.{grid_phase_count}
use Rattle.group_form.specs.Uses.{phase_count}
use Rattle.term_traffic.specs.Regions.{Region, NoMemory, InGlobal, InLocal, InPrivate, Regions, region_in, all_in, regions_of, regions_left}

-- the first index that an item with these ids takes of a map of a kind
abbrev pub first_turn : Ids → Kind → ℕ
first_turn ids (Over Launch d) = (along ids (dimension_of d)).global_id
first_turn ids (Over Groups d) = (along ids (dimension_of d)).group_id
first_turn ids (Over Items d) = (along ids (dimension_of d)).local_id
first_turn ids Sequential = 0

-- and how far it is from one to the next
abbrev pub turn_stride : Ids → Kind → ℕ
turn_stride ids (Over Launch d) = (along ids (dimension_of d)).global_size
turn_stride ids (Over Groups d) = (along ids (dimension_of d)).group_count
turn_stride ids (Over Items d) = (along ids (dimension_of d)).local_size
turn_stride ids Sequential = 1

-- how many turns it takes of a map of a kind over n
abbrev pub turns_of : Ids → Kind → ℕ → ℕ
turns_of ids kind n = div_ceil (n - first_turn ids kind) (turn_stride ids kind)

-- how many of an element's scalars are loaded, each as it counts by where it lies; four of a vector
abbrev pub loads_in : (load : Region → ℕ) → LoadSet → Regions → ℕ
loads_in load Skip x = 0
loads_in load Take x = load (x [])
loads_in load TakeFour x = 4 * load (x [])
loads_in load (Each a b) x =
    loads_in load a (λ cs. x (false ∷ cs)) + loads_in load b (λ cs. x (true ∷ cs))

-- how many of an element's scalars are stored, each as it counts by where it goes; an array among
-- elements is a vector
abbrev pub stores_in : (store : Region → ℕ) → Ty → Regions → ℕ
stores_in store Scalar w = store (w [])
stores_in store (PairOf a b) w =
    stores_in store a (λ cs. w (false ∷ cs)) + stores_in store b (λ cs. w (true ∷ cs))
stores_in store (ArrayOf n t) w = 4 * store (w [])

-- of loads and stores, each as it counts by its memory, at a launch where lengths are these numbers
module _ {A : Type 0} (load store : Region → ℕ) (num : A → ℕ) (ids : Ids) where
  abbrev mutual
    -- what an item does for an argument: it fills the copies in it
    pub argument_traffic : (ℕ → Regions) → Term A → ℕ
    argument_traffic env (Both zips a b) = argument_traffic env a + argument_traffic env b
    argument_traffic env (Project s a) = argument_traffic env a
    argument_traffic env (Reshape y a) = argument_traffic env a
    argument_traffic env (LetArray v b) =
        argument_traffic env v + argument_traffic (push (regions_of env v) env) b
    argument_traffic env (Copy space ty a) = written_traffic env a (all_in (region_in space))
    argument_traffic env _ = 0

    -- and for a term in writing position, which goes there
    pub written_traffic : (ℕ → Regions) → Term A → (to : Regions) → ℕ
    written_traffic env (Store ty a) w = stores_in store ty w
    written_traffic env (Reshape y a) w = written_traffic env a w
    written_traffic env (LetArray v b) w =
        argument_traffic env v + written_traffic (push (regions_of env v) env) b w
    written_traffic env (LetElement ty v b) w = written_traffic (push (all_in NoMemory) env) b w
    written_traffic env (Map kind n loads xs b) w =
        argument_traffic env xs
        + turns_of ids kind (num n)
        * (loads_in load loads (regions_of env xs)
        + written_traffic (push (regions_left loads (regions_of env xs)) env) b w)
    written_traffic env (Fold n loads ty xs s b) w =
        argument_traffic env xs
        + (turns_of ids Sequential (num n) * loads_in load loads (regions_of env xs)
        + stores_in store ty w)
    written_traffic env _ w = 0

-- one in global memory, none elsewhere
abbrev pub in_global : Region → ℕ
in_global InGlobal = 1
in_global InLocal = 0
in_global InPrivate = 0
in_global NoMemory = 0

-- one in local memory, none elsewhere
abbrev pub in_local : Region → ℕ
in_local InLocal = 1
in_local InGlobal = 0
in_local InPrivate = 0
in_local NoMemory = 0

-- nowhere
abbrev pub uncounted : Region → ℕ
uncounted r = 0

-- the loads and stores of an item
pub record ItemTraffic : Type 0 where
  pub global_loads : ℕ
  pub global_stores : ℕ
  pub local_loads : ℕ
  pub local_stores : ℕ

-- what an item counts that runs the whole term, whose value goes to global memory
abbrev pub whole_traffic : {A : Type 0} → (load store : Region → ℕ) → (A → ℕ) → Ids → Term A → ℕ
whole_traffic load store num ids t =
    written_traffic load store num ids (λ v. all_in NoMemory) t (all_in InGlobal)

-- its loads and stores
abbrev pub traffic_of : {A : Type 0} → (A → ℕ) → Ids → Term A → ItemTraffic
traffic_of num ids t = record {
  global_loads = whole_traffic in_global uncounted num ids t;
  global_stores = whole_traffic uncounted in_global num ids t;
  local_loads = whole_traffic in_local uncounted num ids t;
  local_stores = whole_traffic uncounted in_local num ids t;
}

-- how many of what stands at the first n places are barriers
abbrev pub barriers_to : (ℕ → Fencing) → ℕ → ℕ
barriers_to fence zero = 0
barriers_to fence (suc n) = barriers_to fence n + bit (stands (fence n))

-- how many turns an item takes of the map over the groups of a row
abbrev pub row_turns : {A : Type 0} → (A → ℕ) → Ids → Term A → ℕ
row_turns num ids (Reshape y t) = row_turns num ids t
row_turns num ids (Map (Over Groups X) n loads xs b) = turns_of ids (Over Groups X) (num n)
row_turns num ids _ = 0

-- and of the maps over work-groups in all: over rows of groups, in each row those along it
abbrev pub group_turns : {A : Type 0} → (A → ℕ) → Ids → Term A → ℕ
group_turns num ids (Reshape y t) = group_turns num ids t
group_turns num ids (LetArray v b) = group_turns num ids b
group_turns num ids (Map (Over Groups X) n loads xs b) = turns_of ids (Over Groups X) (num n)
group_turns num ids (Map (Over Groups Y) n loads xs b) =
    turns_of ids (Over Groups Y) (num n) * row_turns num ids b
group_turns num ids _ = 0

-- how many phases each of these turns has
abbrev pub turn_phases : {A : Type 0} → Term A → ℕ
turn_phases t = if is_in_rows t then grid_phase_count t else phase_count t

-- how often its group is released: its turns, times the barriers of the body, the closing one among
-- them
abbrev pub releases_of : {A : Type 0} → (A → ℕ) → Ids → (ℕ → Fencing) → Term A → ℕ
releases_of num ids fence t = group_turns num ids t * barriers_to fence (suc (turn_phases t))
