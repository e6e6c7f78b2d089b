-- Items that take as many turns of each map load and store as much.
use Rattle.std.proofs.Common.{◌≡◌, ℕ, ◌+◌, ◌*◌, ◌<◌, ◌≤◌, refl, arith}
use Rattle.kernel_tree.specs.Formula.{Ids}
use Rattle.kernel_tree.specs.Launch.{Launch, ids_of}
use Rattle.lift_ir.specs.Terms.{Sequential, Term, Both, Project, Reshape, LetArray, LetElement, Map, Fold, Store, Copy, push}
use Rattle.term_traffic.specs.Regions.{Region, NoMemory, InGlobal, Regions, region_in, all_in, regions_of, regions_left}
use Rattle.term_traffic.specs.Traffic.{turns_of, loads_in, stores_in, argument_traffic, written_traffic, in_global, in_local, uncounted, ItemTraffic, traffic_of}
use Rattle.item_traffic.specs.TakeAlike.{TakeAlike}

module _ {A : Type 0} (load store : Region → ℕ) (num : A → ℕ) (i j : Ids) where
  mutual
    same_argument : (env : ℕ → Regions) (t : Term A) → TakeAlike num i j t → argument_traffic load store num i env t ≡ argument_traffic load store num j env t
    same_argument env (Both zips a b) h = λ x. same_argument env a h.0 x + same_argument env b h.1 x
    same_argument env (Project s a) h = same_argument env a h
    same_argument env (Reshape y a) h = same_argument env a h
    same_argument env (LetArray v b) h = λ x. same_argument env v h.0 x + same_argument (push (regions_of env v) env) b h.1 x
    same_argument env (Copy space ty a) h = same_written env a (all_in (region_in space)) h
    same_argument env _ h = refl

    same_written : (env : ℕ → Regions) (t : Term A) (w : Regions) → TakeAlike num i j t → written_traffic load store num i env t w ≡ written_traffic load store num j env t w
    same_written env (Store ty a) w h = refl
    same_written env (Reshape y a) w h = same_written env a w h
    same_written env (LetArray v b) w h = λ x. same_argument env v h.0 x + same_written (push (regions_of env v) env) b w h.1 x
    same_written env (LetElement ty v b) w h = same_written (push (all_in NoMemory) env) b w h
    same_written env (Map kind n loads xs b) w h =
        λ x. same_argument env xs h.1 x + h.0 x * (loads_in load loads (regions_of env xs) + same_written (push (regions_left loads (regions_of env xs)) env) b w h.2 x)
    same_written env (Fold n loads ty xs s b) w h =
        λ x. same_argument env xs h x + (turns_of i Sequential (num n) * loads_in load loads (regions_of env xs) + stores_in store ty w)
    same_written env _ w h = refl

abbrev numbers : (a b c d : ℕ) → ItemTraffic
numbers a b c d = record { global_loads = a; global_stores = b; local_loads = c; local_stores = d }

pub same_traffic : {A : Type 0} (num : A → ℕ) (i j : Ids) (t : Term A) → TakeAlike num i j t → traffic_of num i t ≡ traffic_of num j t
same_traffic num i j t h =
    let env = λ (v : ℕ). all_in NoMemory in
    λ x. numbers (same_written in_global uncounted num i j (λ v. all_in NoMemory) t (all_in InGlobal) h x) (same_written uncounted in_global num i j (λ v. all_in NoMemory) t (all_in InGlobal) h x)
    (same_written in_local uncounted num i j (λ v. all_in NoMemory) t (all_in InGlobal) h x) (same_written uncounted in_local num i j (λ v. all_in NoMemory) t (all_in InGlobal) h x)

-- so many items from this one on take as many turns of each map of a term
abbrev pub ManyAlike : {A : Type 0} → (A → ℕ) → Launch → (item count : ℕ) → Term A → Type 0
ManyAlike num l item count t = (k : ℕ) → k < count → TakeAlike num (ids_of l item) (ids_of l (item + k)) t

pub fewer : {A : Type 0} (num : A → ℕ) (l : Launch) (item m n : ℕ) (t : Term A) → n ≤ m → ManyAlike num l item m t → ManyAlike num l item n t
fewer num l item m n t le h k lt = h k (omega arith)
