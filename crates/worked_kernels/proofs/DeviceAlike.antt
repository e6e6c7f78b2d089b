-- Every spelling of the swap has the same histories.
use Rattle.std.proofs.Common.{◌≡◌, ℕ, zero, suc, ◌+◌, ◌^◌, ◌*◌, ◌/◌, ◌%◌, ◌-◌, ◌<◌, ◌≤◌, List, [], ◌∷◌, ◌++◌, Option, Some, None, refl, sym, ap, ◌∙◌, subst, ⊎_elim, inl, arith, Bool, true, false}
use Rattle.std.specs.Prelude.{◌==◌, nat_eq, not, ◌&&◌, if◌then◌else◌}
use Rattle.std.proofs.Math.Path.{fun_ext}
use Rattle.std.proofs.lemmas.Bool.{cases_lt, eq-eqb, ne_eqb}
use Rattle.scalar_ops.specs.declared.op.Op.TheVariants.{Add, Sub}
use Rattle.kernel_tree.specs.declared.events.Event.TheVariants.{Release}
use Rattle.kernel_tree.specs.declared.tree.Dimension.TheVariants.{X}
use Rattle.kernel_tree.specs.Formula.{Formula, Number, Id, LocalId, Binary, Choose, Equal, set_word}
use Rattle.kernel_tree.specs.Code.{Array, Input, Output, Local, Private, Code, End, Performs, Loads, Stores}
use Rattle.kernel_tree.specs.Launch.{group_count, group_of, item_count, Cells, IsWhole, IsFlat, ids_of}
use Rattle.kernel_tree.specs.Item.{Item, item, Ends, next}
use Rattle.kernel_tree.specs.Device.{Device, device_of, Fence, GlobalFence, fence_of, is_flagged, State, IsStart, wants, after}
use Rattle.kernel_tree.specs.Deeds.{Deed, Got, Gave, Goes}
use Rattle.kernel_tree.specs.Histories.{Act, Did}
use Rattle.kernel_tree.specs.Alike.{Enacts, KernelsAlike}
use Rattle.kernel_tree.specs.Chunks.{Phases, Rel, Leads, release_acts, InTurn, Stretch, in_turn, Passed, LeadsTo, of_group}
use Rattle.kernel_tree.specs.Releases.{AtBarrier, Released}
use Rattle.worked_kernels.specs.DeviceKernels.{meets}
use Rattle.worked_kernels.specs.DeviceAlike.{swap_kernel, AreIndices, pairs, word_of, swap_histories, is_local, plain_kernel, SwapsCount}
use Rattle.kernel_tree.proofs.Grouping.{whole_in_a_row, flat_in_a_row, flat_group, flat_local, flat_items}
use Rattle.kernel_tree.proofs.Deeds.{goes_load, goes_store}
use Rattle.kernel_tree.proofs.Releases.{released}
use Rattle.kernel_tree.proofs.Leading.{leads_join, leads_same, leads_release, leads_stretch, leads_groups}
use Rattle.kernel_tree.proofs.Alike.{kernels_alike, counts_as}

-- before the barrier a word is its item's, after it nobody's
owner_of : Array → (epoch home index : ℕ) → Option ℕ
owner_of (Local n) zero g i = Some (g * 2 + i)
owner_of _ e g i = None

phases : Phases
unfolding owner_of
phases = record { owner = λ e c. owner_of c.array e c.home c.index; steady = λ e f c. steady e f c.array c.home c.index }
  where
    steady : (e f : ℕ) (a : Array) (g i : ℕ) → fence_of (record { array = a; home = g; index = i }) ≡ GlobalFence → owner_of a e g i ≡ owner_of a f g i
    steady e f (Input n) g i q = refl
    steady e f (Output n) g i q = refl
    steady e f (Private n) g i q = refl
    steady e f (Local n) g i q = cc

first_epochs : Fence → ℕ
first_epochs f = 0

second_epochs : Fence → ℕ
second_epochs f = if is_flagged true false f then 1 else 0

whole_pairs : (m : ℕ) → IsWhole (pairs m)
whole_pairs m = whole_in_a_row (m * 2) 2 [] (record { positive = omega arith; divides = omega arith })

-- in a row of pairs an item's group is its half
module _ (m : ℕ) where
  flat : IsFlat (pairs m)
  flat = flat_in_a_row (m * 2) 2 []

  group_is : (j : ℕ) → group_of (pairs m) j ≡ j / 2
  group_is j = flat_group (pairs m) flat (whole_pairs m) j

  local_is : (j : ℕ) → (ids_of (pairs m) j).x.local_id ≡ j % 2
  local_is j = flat_local (pairs m) flat (whole_pairs m) j

  items_are : item_count (pairs m) ≡ m * 2
  items_are = flat_items (pairs m) flat

module _ (own other : Formula) (indices : AreIndices own other) (m : ℕ) (c : Cells) (s : State) (start : IsStart (swap_kernel own other) (pairs m) c s) where
  d : Device
  d = device_of (swap_kernel own other) (pairs m) c

  loading : Code
  loading = Performs (Loads 0 (Local 0) other) End

  -- the groups before the g-th are done, and the others have not begun
  record Before (g : ℕ) (t : State) : Type 0 where
    items : (j : ℕ) → g ≤ j / 2 → t.items j ≡ s.items j
    ended : (j : ℕ) → j / 2 < g → wants d t j ≡ Ends
    epochs : (h : ℕ) → g ≤ h → t.epochs h ≡ first_epochs

  module _ (g : ℕ) (t : State) (lt : g < m) (b : Before g t) where
    abbrev at : ℕ → ℕ
    at i = g * 2 + i

    at_group : (i : ℕ) → i < 2 → at i / 2 ≡ g
    at_group i low = omega arith

    at_local : (i : ℕ) → i < 2 → at i % 2 ≡ i
    at_local i low = omega arith

    is_at : (j : ℕ) → j / 2 ≡ g → (i : ℕ) × (i < 2) × (j ≡ at i)
    is_at j q = (j % 2, omega arith, omega arith)

    in_pairs : (j : ℕ) → j / 2 ≡ g → j < item_count (pairs m)
    in_pairs j q = omega arith

    apart : (j : ℕ) → (j / 2 ≡ g → ⊥) → (i : ℕ) → i < 2 → j ≡ at i → ⊥
    apart j n i low e = n (ap (λ x. x / 2) e ∙ at_group i low)

    waiting : ℕ → Item
    waiting j = item (meets loading) [] (start.vars j)

    begins : (j : ℕ) → j / 2 ≡ g → t.items j ≡ item (Performs (Stores (Local 0) own (Number 1)) (meets loading)) [] (start.vars j)
    unfolding loading
    begins j q = b.items j (omega arith) ∙ start.items j (in_pairs j q)

    -- to the barrier

    first_deeds : ℕ → List Deed
    first_deeds i = Gave (word_of g i) 1 ∷ []

    first_acts : ℕ → List Act
    first_acts j = if j / 2 == g then Did (Gave (word_of (j / 2) (j % 2)) 1) ∷ [] else []

    first : Stretch phases d t first_epochs 2 at first_deeds (λ i. waiting (at i))
    unfolding d first_deeds waiting phases owner_of first_epochs
    first = record {
      within = λ i low. in_pairs (at i) (at_group i low);
      differ = λ i j x y e. omega arith;
      epoch = λ i low. ap t.epochs (group_is m (at i) ∙ at_group i low) ∙ b.epochs g (omega arith);
      goes = λ i low mem agrees. subst (λ x. Goes d (at i) x mem (first_deeds i) (waiting (at i))) (sym (begins (at i) (at_group i low)))
          (goes_store d (at i) [] (start.vars (at i)) mem (Local 0) own (Number 1) (meets loading) (word_of g i) i 1
          (indices.own_is (ids_of (pairs m) (at i)) (start.vars (at i)) (omega arith) ∙ ap Some (local_is m (at i) ∙ at_local i low)) refl (ap (λ h. word_of h i) (group_is m (at i) ∙ at_group i low)) low);
      allowed = λ i low. (refl, tt);
    }

    first_turn : InTurn 2 at first_deeds first_acts
    unfolding first_deeds first_acts
    first_turn = record {
      of_each = λ i low. rw (eq-eqb (at i / 2) g (at_group i low)) (ap (λ h. Did (Gave (word_of h (at i % 2)) 1) ∷ []) (at_group i low) ∙ ap (λ x. Did (Gave (word_of g x) 1) ∷ []) (at_local i low));
      of_others = λ j none. rw (ne_eqb (j / 2) g (λ q. none (is_at j q).0 (is_at j q).1 (is_at j q).2)) refl;
    }

    to_barrier : (u : State) × Passed phases d t first_epochs 2 at first_deeds (λ i. waiting (at i)) u × Leads phases d t (in_turn at first_deeds (λ i. waiting (at i)) 2) u first_acts
    to_barrier = leads_stretch phases d t first_epochs 2 at first_deeds (λ i. waiting (at i)) first_acts first first_turn

    before : State
    before = to_barrier.0

    stands : AtBarrier d before g true false loading (λ j. []) start.vars
    unfolding before d waiting
    stands = record {
      within = omega arith;
      stands = λ j q. let a = is_at j (sym (group_is m j) ∙ q) in ap to_barrier.0.items a.2 ∙ to_barrier.1.done a.0 a.1 ∙ ap waiting (sym a.2);
      same_turns = λ j q. refl;
    }

    past : State
    past = after d before (Release g)

    over : Released d before g true false loading (λ j. []) start.vars
    unfolding d
    over = released d (whole_pairs m) before g true false loading (λ j. []) start.vars stands

    -- past it

    second_deeds : ℕ → List Deed
    second_deeds i = Got (word_of g (1 - i)) ∷ []

    second_acts : ℕ → List Act
    second_acts j = if j / 2 == g then Did (Got (word_of (j / 2) (1 - j % 2))) ∷ [] else []

    done : ℕ → Item
    done i = item End [] (set_word (start.vars (at i)) 0 (past.memory (word_of g (1 - i))))

    epochs_past : past.epochs g ≡ second_epochs
    unfolding past before first_epochs second_epochs
    epochs_past = fun_ext (λ f.
        over.epochs f
        ∙ ap (λ e. if is_flagged true false f then suc (e g f) else e g f) to_barrier.1.epochs_kept
        ∙ ap (λ e. if is_flagged true false f then suc (e f) else e f) (b.epochs g (omega arith)))

    second : Stretch phases d past second_epochs 2 at second_deeds done
    unfolding d second_deeds done past loading phases owner_of second_epochs
    second = record {
      within = λ i low. in_pairs (at i) (at_group i low);
      differ = λ i j x y e. omega arith;
      epoch = λ i low. ap past.epochs (group_is m (at i) ∙ at_group i low) ∙ epochs_past;
      goes = λ i low mem agrees. subst (λ x. Goes d (at i) x mem (second_deeds i) (done i)) (sym (over.past (at i) (group_is m (at i) ∙ at_group i low)))
          (goes_load d (at i) [] (start.vars (at i)) mem 0 (Local 0) other End (word_of g (1 - i)) (1 - i) (past.memory (word_of g (1 - i)))
          (indices.other_is (ids_of (pairs m) (at i)) (start.vars (at i)) (omega arith) ∙ ap (λ x. Some (1 - x)) (local_is m (at i) ∙ at_local i low)) (ap (λ h. word_of h (1 - i)) (group_is m (at i) ∙ at_group i low)) (omega arith) (agrees (word_of g (1 - i)) (inl refl)));
      allowed = λ i low. (inl refl, tt);
    }

    second_turn : InTurn 2 at second_deeds second_acts
    unfolding second_deeds second_acts
    second_turn = record {
      of_each = λ i low. rw (eq-eqb (at i / 2) g (at_group i low)) (ap (λ h. Did (Got (word_of h (1 - at i % 2))) ∷ []) (at_group i low) ∙ ap (λ x. Did (Got (word_of g (1 - x))) ∷ []) (at_local i low));
      of_others = λ j none. rw (ne_eqb (j / 2) g (λ q. none (is_at j q).0 (is_at j q).1 (is_at j q).2)) refl;
    }

    to_end : (u : State) × Passed phases d past second_epochs 2 at second_deeds done u × Leads phases d past (in_turn at second_deeds done 2) u second_acts
    to_end = leads_stretch phases d past second_epochs 2 at second_deeds done second_acts second second_turn

    acts_are : (j : ℕ) → (first_acts j ++ release_acts d.launch g true false j) ++ second_acts j ≡ of_group d.launch swap_histories g j
    unfolding first_acts second_acts d
    acts_are j = go (j / 2 == g) refl
      where
        go : (x : Bool) → (j / 2 == g) ≡ x → (first_acts j ++ release_acts d.launch g true false j) ++ second_acts j ≡ of_group d.launch swap_histories g j
        go true q = rw (q, ap (λ x. x == g) (group_is m j) ∙ q) refl
        go false q = rw (q, ap (λ x. x == g) (group_is m j) ∙ q) refl

    kept : (j : ℕ) → (j / 2 ≡ g → ⊥) → to_end.0.items j ≡ t.items j
    unfolding past before d
    kept j n =
        to_end.1.others j (apart j n) ∙ over.others j (λ q. n (sym (group_is m j) ∙ q)) ∙ to_barrier.1.others j (apart j n)

    is_done : (j i : ℕ) → i < 2 → j ≡ at i → wants d to_end.0 j ≡ Ends
    unfolding next d done
    is_done j i low e = ap (λ x. next (ids_of d.launch j) (to_end.0.items x)) e ∙ ap (next (ids_of d.launch j)) (to_end.1.done i low)

    one_group : LeadsTo phases d t (of_group d.launch swap_histories g) (Before (suc g))
    unfolding past before d
    one_group = record {
      chunks = (in_turn at first_deeds (λ i. waiting (at i)) 2 ++ Rel g ∷ []) ++ in_turn at second_deeds done 2;
      end = to_end.0;
      leads = leads_same phases d t to_end.0 _ (λ j. (first_acts j ++ release_acts d.launch g true false j) ++ second_acts j) (of_group d.launch swap_histories g) acts_are
          (leads_join phases d t past to_end.0 _ _ (λ j. first_acts j ++ release_acts d.launch g true false j) second_acts
          (leads_join phases d t before past _ _ first_acts (release_acts d.launch g true false) to_barrier.2 (leads_release phases d before g true false loading (λ j. []) start.vars (whole_pairs m) stands))
          to_end.2);
      holds = record {
        items = λ j le. kept j (λ q. omega arith) ∙ b.items j (omega arith);
        ended = λ j low. ⊎_elim (λ x. ap (next (ids_of d.launch j)) (kept j (λ q. absurd (omega arith))) ∙ b.ended j x) (λ y. is_done j (j % 2) (omega arith) (omega arith)) (cases_lt (j / 2) g);
        epochs = λ h le. ap (λ e. e h) to_end.1.epochs_kept ∙ fun_ext (λ f. over.other_epochs h (λ q. omega arith) f) ∙ ap (λ e. e h) to_barrier.1.epochs_kept ∙ b.epochs h (omega arith);
      };
    }

  groups_are : group_count (pairs m) ≡ m
  groups_are = omega arith

  enacts : Enacts d s swap_histories
  unfolding d first_epochs
  enacts =
      leads_groups phases d Before swap_histories (whole_pairs m) (λ g t lt b. one_group g t (subst (λ n. g < n) groups_are lt) b) s
      (record { items = λ j q. refl; ended = λ j low. absurd (omega arith); epochs = λ h q. fun_ext (λ f. start.epochs h f) })
      (λ t b k lt. b.ended k (let q = groups_are in omega arith))

one_less : (x : ℕ) → x < 2 → (1 + (2 ^ 32 - x)) % 2 ^ 32 ≡ 1 - x
one_less x low = omega arith

plus_none : (x : ℕ) → x < 2 → (x + 0) % 2 ^ 32 ≡ x
plus_none x low = omega arith

pub plain_indices : AreIndices (Id X LocalId) (Binary Sub (Number 1) (Id X LocalId))
plain_indices = record { own_is = λ ids vars low. refl; other_is = λ ids vars low. ap Some (one_less ids.x.local_id low) }

pub choosing_indices : AreIndices (Binary Add (Id X LocalId) (Number 0)) (Choose Equal (Id X LocalId) (Number 0) (Number 1) (Number 0))
choosing_indices = record { own_is = λ ids vars low. ap Some (plus_none ids.x.local_id low); other_is = λ ids vars low. chosen ids.x.local_id low }
  where
    chosen : (x : ℕ) → x < 2 → (if nat_eq x 0 then Some 1 else Some 0) ≡ Some (1 - x)
    chosen zero low = refl
    chosen (suc zero) low = refl
    chosen (suc (suc x)) low = absurd (omega arith)

pub swaps_alike : (own other spelled_own spelled_other : Formula) → AreIndices own other → AreIndices spelled_own spelled_other → (m : ℕ) (c : Cells) → KernelsAlike (swap_kernel own other) (swap_kernel spelled_own spelled_other) (pairs m) c
unfolding d
swaps_alike own other p q a b m c =
    kernels_alike (swap_kernel own other) (swap_kernel p q) (pairs m) c swap_histories (whole_pairs m) (λ s start. enacts own other a m c s start) (λ s start. enacts p q b m c s start)

pub swaps_count : SwapsCount
unfolding d
swaps_count m c s es start r stuck =
    let counts = counts_as (device_of plain_kernel (pairs m) c) (whole_pairs m) s swap_histories (enacts _ _ plain_indices m c s start) in
    record {
      stores = λ k lt. counts.in_all es r stuck k (subst (λ n. k < n) (sym (items_are m)) lt) (λ b w. w && is_local b.array);
      loads = λ k lt. counts.in_all es r stuck k (subst (λ n. k < n) (sym (items_are m)) lt) (λ b w. not w && is_local b.array);
      released = λ g lt. counts.releases_in_all es r stuck g (omega arith);
    }
