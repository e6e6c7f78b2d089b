-- A map over work-groups, from its start to where all items have ended.
use Rattle.std.proofs.Common.{◌≡◌, ℕ, zero, suc, ◌+◌, ◌*◌, ◌<◌, ◌≤◌, List, [], ◌∷◌, ◌++◌, length, Some, None, Bool, true, false, true≢false, refl, sym, ap, ◌∙◌, subst, ⊎_elim, inl, inr, arith}
use Rattle.std.specs.Prelude.{slice_index, if◌then◌else◌, ◌&&◌}
use Rattle.std.proofs.Math.Path.{fun_ext}
use Rattle.std.proofs.lemmas.Bool.{cases_lt, both_ways}
use Rattle.kernel_tree.specs.declared.events.Event.{Event}
use Rattle.kernel_tree.specs.declared.events.Event.TheVariants.{Release}
use Rattle.kernel_tree.specs.Formula.{Vars, no_vars}
use Rattle.kernel_tree.specs.Code.{Array, Input, Output, Local, Private, Code, Kernel}
use Rattle.kernel_tree.specs.Launch.{Launch, Cells, ids_of, group_of, group_count, first_item, item_count}
use Rattle.kernel_tree.specs.Item.{Item, item, next, Ends}
use Rattle.kernel_tree.specs.Device.{Device, Cell, Memory, Fence, LocalFence, GlobalFence, fence_of, State, device_of, IsStart, row, IsRun, AllEnded, after}
use Rattle.kernel_tree.specs.Independent.{Owners, MayRead}
use Rattle.kernel_tree.specs.Chunks.{Chunk, Rel, Phases, owners_at, AsChunked, chunk_writes, events_of}
use Rattle.kernel_tree.proofs.Grouping.{in_launch, group_in_launch, first_of_group}
use Rattle.kernel_tree.proofs.Releases.{released}
use Rattle.kernel_tree.proofs.Chunks.{as_chunked}
use Rattle.kernel_tree.proofs.Histories.{group_tells}
use Rattle.kernel_tree.proofs.Meets.{every_run_meets}
use Rattle.barrier_placement.specs.Conflicts as placed
use Rattle.barrier_placement.specs.Conflicts.{Conflict, space_of}
use Rattle.barrier_placement.specs.Fencing.{Fencing, Open, Fenced, orders}
use Rattle.barrier_placement.specs.Separates.{bit}
use Rattle.printed_form.specs.Runs.{Fits}
use Rattle.group_phases.specs.Bodies.{is_private, IsShared, IsOwnPrivate, Part, Hop, CanHop}
use Rattle.group_phases.specs.Cells.{input_cell, output_cell, local_cell, IsOwnOutput}
use Rattle.group_phases.specs.Written.{is_global, IsGlobal, is_input, Writes, Nothing, DoneBy, LeavesOtherGroups}
use Rattle.group_phases.specs.Epochs.{IsPast, passed, each_turn, epoch_in}
use Rattle.group_phases.specs.Work.{Work, IsOwnLocal, IsFilledEarlier, owners_in, IsKnown}
use Rattle.group_phases.specs.Groups.{Body, GroupPhases, declared, GroupOutputs, IsBefore, GroupTurns}
use Rattle.group_phases.specs.Outcome.{LeavesOutputs, SomeRunLeaves, BarriersServe, BarriersServeAll}
use Rattle.group_phases.proofs.Written.{untouched, input_shared, writes_as, writes_more, writes_then, writes_first, writes_nothing, writes_release, writes_hop, writes_item, leaves_on}
use Rattle.group_phases.proofs.Laps.{Members, members, Step, Lap, lapped}

-- a choice for each j, with what holds of it below n
total_of : {A : Type 0} (P : A → Type 0) (j n : ℕ) → (j < n → (a : A) × P a) → A → (a : A) × (j < n → P a)
total_of P j n f d = ⊎_elim (λ lt. let r = f lt in (r.0, λ x. r.1)) (λ ge. (d, λ lt. absurd (omega arith))) (cases_lt j n)

some_is : (i k : ℕ) → Some i ≡ Some k → i ≡ k
some_is i k e = cc

none_is : (k : ℕ) → None ≡ Some k → ⊥
none_is k e = cc

fences_differ : LocalFence ≡ GlobalFence → ⊥
fences_differ e = cc

raised : (a : Bool) (x e : ℕ) → x ≡ e → (if a then suc x else x) ≡ bit a + e
raised true x e q = omega arith
raised false x e q = omega arith

module _ (kernel : Kernel) (l : Launch) (c : Cells) (owner : (array index : ℕ) → ℕ) (body : Body) (work : Work) (h : GroupPhases kernel l c owner body work) where
  abbrev d : Device
  d = device_of kernel l c

  abbrev n : ℕ
  n = body.count

  abbrev each : ℕ
  each = each_turn body.fence body.count

  abbrev owns : ℕ → Owners
  owns = owners_in work owner h.runs_in

  abbrev known : (t q k : ℕ) → Cell → Type 0
  known = IsKnown l c work

  -- who owns a cell in an epoch

  steady : (e f : ℕ) (b : Cell) → fence_of b ≡ GlobalFence → owns e b ≡ owns f b
  steady e f b q = go b.array b.home b.index q
    where
      go : (a : Array) (hm ix : ℕ) → fence_of (record { array = a; home = hm; index = ix }) ≡ GlobalFence → owns e (record { array = a; home = hm; index = ix }) ≡ owns f (record { array = a; home = hm; index = ix })
      go (Input m) hm ix q = refl
      go (Output m) hm ix q = refl
      go (Private m) hm ix q = refl
      go (Local m) hm ix q = absurd (fences_differ q)

  abbrev ph : Phases
  ph = record { owner = owns; steady = steady }

  due_owned : (e k : ℕ) (b : Cell) → IsOwnOutput owner k b → owns e b ≡ Some k
  due_owned e k b y = ap (owns e) y.is ∙ ap Some y.owned

  target_owned : (t q k : ℕ) (b : Cell) → t < body.turns (group_of l k) → q < n → k < item_count l → work.targets t q k b → owns (epoch_in body.fence n t q) b ≡ Some k
  target_owned t q k b tl below lt x =
      ⊎_elim
      (λ y. due_owned (epoch_in body.fence n t q) k b y)
      (λ y. ap (owns (epoch_in body.fence n t q)) y.is ∙ ap (λ z. if z then Some (work.filler (local_cell (group_of l k) y.array y.index)) else None) (ap (h.runs_in (epoch_in body.fence n t q)) y.in_phase ∙ h.apart.runs (group_of l k) t q tl below) ∙ ap Some (ap work.filler (sym y.is) ∙ y.owned))
      (h.due t q k b below lt x)

  target_shared : (t q k : ℕ) (b : Cell) → q < n → k < item_count l → work.targets t q k b → IsShared b
  target_shared t q k b below lt x = ⊎_elim (λ y. ap (λ z. is_private z.array) y.is) (λ y. ap (λ z. is_private z.array) y.is) (h.due t q k b below lt x)

  target_not_input : (t q k : ℕ) (b : Cell) → q < n → k < item_count l → work.targets t q k b → is_input b.array ≡ false
  target_not_input t q k b below lt x = ⊎_elim (λ y. ap (λ z. is_input z.array) y.is) (λ y. ap (λ z. is_input z.array) y.is) (h.due t q k b below lt x)

  known_shared : (t q k : ℕ) (b : Cell) → known t q k b → IsShared b
  known_shared t q k b x = ⊎_elim (λ y. ap (λ z. is_private z.array) y.is) (λ y. ap (λ z. is_private z.array) y.is) x

  own_owned : (e k : ℕ) (b : Cell) → IsOwnPrivate k b → owns e b ≡ Some k
  own_owned e k b x = go b.array b.home b.index x
    where
      go : (a : Array) (hm ix : ℕ) → IsOwnPrivate k (record { array = a; home = hm; index = ix }) → owns e (record { array = a; home = hm; index = ix }) ≡ Some k
      go (Private m) hm ix x = ap Some x.1
      go (Input m) hm ix x = absurd (true≢false (sym x.0))
      go (Output m) hm ix x = absurd (true≢false (sym x.0))
      go (Local m) hm ix x = absurd (true≢false (sym x.0))

  -- a read of a local cell is of a cell that nobody writes in the
  -- epoch, or of the item's work.filler
  kept_may : (t q k : ℕ) (b : Cell) → t < body.turns (group_of l k) → q < n → IsFilledEarlier l work t q k b → MayRead (owns (epoch_in body.fence n t q)) k b
  kept_may t q k b tl below x = subst (MayRead (owns (epoch_in body.fence n t q)) k) (sym x.is) (by_uses (x.writer.aligned && x.reader.aligned) refl)
    where
      e : ℕ
      e = epoch_in body.fence n t q

      cell : Cell
      cell = local_cell (group_of l k) x.array x.index

      by_epoch : (z : Bool) → h.runs_in e (work.filled_in x.array) ≡ z → (z ≡ true → work.filler cell ≡ k) → MayRead (owns e) k cell
      by_epoch true y f = inr (ap (λ w. if w then Some (work.filler cell) else None) y ∙ ap Some (f refl))
      by_epoch false y f = inl (ap (λ w. if w then Some (work.filler cell) else None) y)

      conflict : (x.writer.aligned && x.reader.aligned) ≡ false → Conflict work.touches placed.Local (work.filled_in x.array) q
      conflict y = record {
        first = x.writer;
        second = x.reader;
        first_used = x.writer_told;
        second_used = x.reader_told;
        first_phase = x.writer_phase;
        second_phase = x.reader_phase;
        lies_in = ap space_of x.writer_local;
        clash = record { one_space = x.writer_local ∙ sym x.reader_local; one_buffer = x.one_buffer; one_writes = inl x.writes; not_aligned = y };
      }

      by_uses : (z : Bool) → (x.writer.aligned && x.reader.aligned) ≡ z → MayRead (owns e) k cell
      by_uses true y = by_epoch _ refl (λ w. ap work.filler (sym x.is) ∙ x.aligned y)
      by_uses false y = inl (ap (λ w. if w then Some (work.filler cell) else None) (h.apart.apart (group_of l k) t (work.filled_in x.array) q tl x.earlier below (conflict y)))

  known_may : (t q k : ℕ) (b : Cell) → t < body.turns (group_of l k) → q < n → known t q k b → MayRead (owns (epoch_in body.fence n t q)) k b
  known_may t q k b tl below x = ⊎_elim (λ y. inl (ap (owns (epoch_in body.fence n t q)) y.is)) (λ y. kept_may t q k b tl below y) x

  -- the run of a group

  abbrev G : ℕ
  G = group_count l

  -- what one item writes of the cells that all share
  abbrev DoneItem : (t q k : ℕ) → Cell → ℕ → Type 0
  DoneItem t q k b v = work.targets t q k b × (work.value (group_of l k) t b ≡ v)

  abbrev DonePhase : (g t q : ℕ) → Cell → ℕ → Type 0
  DonePhase g t q b v = (k : ℕ) × (group_of l k ≡ g) × (k < item_count l) × DoneItem t q k b v

  abbrev DoneTurn : (g t : ℕ) → Cell → ℕ → Type 0
  DoneTurn g t = DoneBy (DonePhase g t) n

  abbrev DoneGroup : ℕ → Cell → ℕ → Type 0
  DoneGroup g = DoneBy (DoneTurn g) (body.turns g)

  -- a cell that all share and that is a target is an output's
  output_of : (t q k : ℕ) (b : Cell) → q < n → k < item_count l → IsGlobal b → work.targets t q k b → IsOwnOutput owner k b
  output_of t q k b below lt gl x = ⊎_elim (λ y. y) (λ y. absurd (true≢false (sym (subst IsGlobal y.is gl)))) (h.due t q k b below lt x)

  one_item : (t q u r k j : ℕ) (b : Cell) → q < n → r < n → k < item_count l → j < item_count l → IsGlobal b → work.targets t q k b → work.targets u r j b → (t ≡ u) × (q ≡ r) × (k ≡ j)
  one_item t q u r k j b qn rn kl jl gl x y =
      let o = output_of t q k b qn kl gl x in
      let same = h.differ o.array o.index t q k u r j qn rn kl jl (subst (work.targets t q k) o.is x) (subst (work.targets u r j) o.is y) in
      (same.0, same.1, some_is k j (sym (due_owned 0 k b o) ∙ due_owned 0 j b (output_of u r j b rn jl gl y)))

  never : (i j : ℕ) → i < j → i ≡ j → ⊥
  never i j lt e = omega arith

  local_number : Array → ℕ
  local_number (Local a) = a
  local_number _ = 0

  due_global : (k : ℕ) (b : Cell) → IsOwnOutput owner k b → is_global b.array ≡ true
  due_global k b x = ap (λ z. is_global z.array) x.is

  filled_local : (q k : ℕ) (b : Cell) → IsOwnLocal l work q k b → is_global b.array ≡ false
  filled_local q k b x = ap (λ z. is_global z.array) x.is

  -- a cell is filled in one phase of a turn
  same_phase : (t w k2 q k : ℕ) (b : Cell) → w < n → k2 < item_count l → q < n → k < item_count l → work.targets t w k2 b → work.targets t q k b → w ≡ q
  unfolding local_number
  same_phase t w k2 q k b wn k2l qn kl x y =
      ⊎_elim
      (λ dx. (one_item t w t q k2 k b wn qn k2l kl (due_global k2 b dx) x y).1)
      (λ fx. ⊎_elim
      (λ dy. (one_item t w t q k2 k b wn qn k2l kl (due_global k b dy) x y).1)
      (λ fy. sym fx.in_phase ∙ ap work.filled_in (ap (λ z. local_number z.array) (sym fx.is ∙ fy.is)) ∙ fy.in_phase)
      (h.due t q k b qn kl y))
      (h.due t w k2 b wn k2l x)

  module _ (s0 : State) (begun : IsStart kernel l c s0) where
    -- the inputs are as they were
    Given : Memory → Type 0
    Given m = (b : Cell) → is_input b.array ≡ true → m b ≡ s0.memory b

    -- the earlier phases of the turn have filled their cells
    Filled : (g t q : ℕ) → Memory → Type 0
    Filled g t q m = (w k : ℕ) (b : Cell) → w < q → group_of l k ≡ g → k < item_count l → work.targets t w k b → m b ≡ work.value g t b

    holds_known : (g t q k : ℕ) (m : Memory) → group_of l k ≡ g → g < G → Given m → Filled g t q m → ((b : Cell) → known t q k b → m b ≡ work.value g t b)
    unfolding Given Filled
    holds_known g t q k m e here given filled b x =
        ⊎_elim
        (λ y. given b (ap (λ z. is_input z.array) y.is) ∙ ap s0.memory y.is ∙ begun.inputs y.array y.index y.within ∙ sym y.has ∙ ap (λ z. work.value z t b) e)
        (λ y. filled (work.filled_in y.array) y.by b y.earlier (y.by_group ∙ e) (in_launch l h.whole g y.by here (y.by_group ∙ e)) y.filled)
        x

    -- from a state on, with what is done and what then holds
    record Reaches (g : ℕ) (s : State) (Done : Cell → ℕ → Type 0) (Then : State → Type 0) : Type 0 where
      to : State
      chunks : List Chunk
      writes : Writes ph d s to chunks Done
      others : LeavesOtherGroups d g s to
      so : Then to

    reaches_here : (g : ℕ) (s : State) (Then : State → Type 0) → Then s → Reaches g s Nothing Then
    reaches_here g s Then x = record { to = s; chunks = []; writes = writes_nothing ph d s; others = record { items = λ i z. refl; epochs = λ i z. refl }; so = x }

    reaches_first : (g : ℕ) (s : State) (Done : Cell → ℕ → Type 0) (Mid Then : State → Type 0) → (a : Reaches g s Nothing Mid) → Reaches g a.to Done Then → Reaches g s Done Then
    reaches_first g s Done Mid Then a b = record { to = b.to; chunks = a.chunks ++ b.chunks; writes = writes_first ph d s a.to b.to a.chunks b.chunks Done a.writes b.writes; others = leaves_on d g s a.to b.to a.others b.others; so = b.so }

    reaches_then : (g : ℕ) (s : State) (Done : Cell → ℕ → Type 0) (Mid Then : State → Type 0) → (a : Reaches g s Done Mid) → Reaches g a.to Nothing Then → Reaches g s Done Then
    reaches_then g s Done Mid Then a b = record { to = b.to; chunks = a.chunks ++ b.chunks; writes = writes_then ph d s a.to b.to a.chunks b.chunks Done a.writes b.writes; others = leaves_on d g s a.to b.to a.others b.others; so = b.so }

    reaches_more : (g : ℕ) (s : State) (D : ℕ → Cell → ℕ → Type 0) (m : ℕ) (Mid Then : State → Type 0) → ((i : ℕ) (b : Cell) (v w : ℕ) → i < m → IsGlobal b → D i b v → D m b w → ⊥) → (a : Reaches g s (DoneBy D m) Mid) → Reaches g a.to (D m) Then → Reaches g s (DoneBy D (suc m)) Then
    reaches_more g s D m Mid Then free a b = record { to = b.to; chunks = a.chunks ++ b.chunks; writes = writes_more ph d s a.to b.to a.chunks b.chunks D m free a.writes b.writes; others = leaves_on d g s a.to b.to a.others b.others; so = b.so }

    given_on : (g : ℕ) (s t : State) (cs : List Chunk) (D : Cell → ℕ → Type 0) → Writes ph d s t cs D → Given s.memory → Given t.memory
    unfolding Given
    given_on g s t cs D w x b i = w.inputs b i ∙ x b i

    -- the items of the group stand at this body.code in turn t, body.before phase q
    record Stands (g t q : ℕ) (place : Code) (epoch_number : ℕ) (s : State) : Type 0 where
      vars : ℕ → Vars
      items : (k : ℕ) → group_of l k ≡ g → s.items k ≡ item place (body.frames t k) (vars k)
      ok : (k : ℕ) → group_of l k ≡ g → work.knows t q k (vars k)
      epoch : s.epochs g LocalFence ≡ epoch_number
      filled : Filled g t q s.memory
      given : Given s.memory

    -- past what stands body.before phase q
    past_fence : (g t q : ℕ) → g < G → (s : State) (f : Fencing) (before_it after_it : Code) (e : ℕ) → IsPast f before_it after_it → Stands g t q before_it e s → Reaches g s Nothing (Stands g t q after_it (bit (orders placed.Local f) + e))
    past_fence g t q here s Open before_it after_it e is st = reaches_here g s _ (record { vars = st.vars; items = λ k x. st.items k x ∙ ap (λ z. item z (body.frames t k) (st.vars k)) is; ok = st.ok; epoch = st.epoch ∙ (let z : e ≡ 0 + e = omega arith in z); filled = st.filled; given = st.given })
    past_fence g t q here s (Fenced a b) before_it after_it e is st =
        let r = released d h.whole s g a b after_it (body.frames t) st.vars (record { within = here; stands = λ k x. st.items k x ∙ ap (λ z. item z (body.frames t k) (st.vars k)) is; same_turns = λ k x. h.same_turns t (first_item l g) k (first_of_group l h.whole g ∙ sym x) }) in
        record {
          to = after d s (Release g);
          chunks = Rel g ∷ [];
          writes = writes_release ph d s g r.enabled;
          others = record { items = r.others; epochs = λ x z. fun_ext (λ f2. r.other_epochs x z f2) };
          so = record { vars = st.vars; items = r.past; ok = st.ok; epoch = r.epochs LocalFence ∙ raised a (s.epochs g LocalFence) e st.epoch; filled = subst (Filled g t q) (sym r.memory) st.filled; given = subst Given (sym r.memory) st.given };
        }

    -- all items of the group go on between turns
    module _ (g : ℕ) (here : g < G) (s : State) (R : ℕ → Item → Type 0) (unchanged : Given s.memory) (hops : (k : ℕ) → group_of l k ≡ g → CanHop d k c (s.items k) (R k)) where
      abbrev mm : Members l g
      mm = members l h.whole g here

      hop_step : (j : ℕ) → j < mm.size → (u : State) → u.items (mm.at j) ≡ s.items (mm.at j) → u.epochs ≡ s.epochs → Given u.memory → Step ph d g mm s (λ i. Nothing) (λ i m. Given m) (λ i. R (mm.at i)) j u
      unfolding Given
      hop_step j lt u same eps kept =
          let k = mm.at j in
          let e = mm.inside j lt in
          let ep = u.epochs (group_of l k) in
          let r : Hop d k (owners_at ph ep) u.memory (s.items k) (R k) =
          hops k e (owners_at ph ep) u.memory (record {
            inputs = λ a i within. kept (input_cell a i) refl ∙ begun.inputs a i within;
            free = λ a i. refl;
            own = λ b x. own_owned (ep (fence_of b)) k b x;
          })
          in
          record {
            deeds = r.deeds;
            end = r.after;
            writes = writes_hop ph d u k (s.items k) (R k) (in_launch l h.whole g k here e) same r;
            inv = λ b i. untouched b r.deeds u.memory (r.quiet b (input_shared b.array i)) ∙ kept b i;
            good = r.so;
          }

      record Hopped (u : State) : Type 0 where
        items : (k : ℕ) → group_of l k ≡ g → R k (u.items k)
        given : Given u.memory
        epochs : u.epochs ≡ s.epochs

      all_hop : Reaches g s Nothing Hopped
      all_hop =
          let lap : Lap ph d g mm s (λ j. Nothing) (λ j m. Given m) (λ j. R (mm.at j)) = record { begin = unchanged; step = hop_step; apart = λ i j b v w il jl gl x y. absurd x } in
          let r = lapped ph d g mm s (λ j. Nothing) (λ j m. Given m) (λ j. R (mm.at j)) lap in
          record {
            to = r.state;
            chunks = r.chunks;
            writes = writes_as ph d s r.state r.chunks (DoneBy (λ j. Nothing) mm.size) Nothing (λ b v x. absurd x.2) (λ b v x. absurd x) r.writes;
            others = record { items = r.others; epochs = λ x z. ap (λ f. f x) r.epochs };
            so = record { items = λ k e. let i = mm.every k e in subst (λ z. R z (r.state.items z)) (sym i.1) (r.done (mm.place k) i.0); given = r.inv; epochs = r.epochs };
          }

    -- the owners at a group's epochs
    owners_are : (epochs : Fence → ℕ) (e : ℕ) (b : Cell) → epochs LocalFence ≡ e → owners_at ph epochs b ≡ owns e b
    owners_are epochs e b q = go b.array b.home b.index
      where
        go : (a : Array) (hm ix : ℕ) → owns (epochs (fence_of (record { array = a; home = hm; index = ix }))) (record { array = a; home = hm; index = ix }) ≡ owns e (record { array = a; home = hm; index = ix })
        go (Input m) hm ix = refl
        go (Output m) hm ix = refl
        go (Private m) hm ix = refl
        go (Local m) hm ix = ap (λ z. owns z (local_cell hm m ix)) q

    module _ (g t q : ℕ) (here : g < G) (tl : t < body.turns g) (ql : q < n) (s : State) (st : Stands g t q (body.code q) (epoch_in body.fence n t q) s) where
      abbrev ms : Members l g
      ms = members l h.whole g here

      abbrev at : ℕ → ℕ
      at j = ms.at j

      in_turn : (k : ℕ) → group_of l k ≡ g → t < body.turns (group_of l k)
      in_turn k e = subst (λ z. t < body.turns z) (sym e) tl

      in_range : (j : ℕ) → j < ms.size → at j < item_count l
      in_range j lt = in_launch l h.whole g (at j) here (ms.inside j lt)

      -- where an item ends the phase
      abbrev EndsAt : ℕ → Item → Type 0
      EndsAt k y = (vars : Vars) × (y ≡ item (body.before (suc q)) (body.frames t k) vars) × work.knows t (suc q) k vars

      -- the first items have filled their cells
      record Filling (j : ℕ) (m : Memory) : Type 0 where
        given : Given m
        filled : Filled g t q m
        mine : (i : ℕ) (b : Cell) → i < j → work.targets t q (at i) b → m b ≡ work.value g t b

      -- another item's work.targets of this phase, and those of earlier phases,
      -- are no work.targets of this item
      other_item : (i j : ℕ) (b : Cell) → i < j → i < ms.size → j < ms.size → work.targets t q (at i) b → work.targets t q (at j) b → ⊥
      other_item i j b lt il jl x y =
          never i j lt (ms.differ i j il jl (some_is (at i) (at j) (sym (target_owned t q (at i) b (in_turn (at i) (ms.inside i il)) ql (in_range i il) x) ∙ target_owned t q (at j) b (in_turn (at j) (ms.inside j jl)) ql (in_range j jl) y)))

      phase_step : (j : ℕ) → j < ms.size → (u : State) → u.items (at j) ≡ s.items (at j) → u.epochs ≡ s.epochs → Filling j u.memory → Step ph d g ms s (λ i. DoneItem t q (at i)) Filling (λ i. EndsAt (at i)) j u
      unfolding Given Filled
      phase_step j lt u same eps inv =
          let k = at j in
          let e = ms.inside j lt in
          let tk = in_turn k e in
          let kl = in_range j lt in
          let o : owners_at ph (u.epochs (group_of l k)) ≡ owns (epoch_in body.fence n t q) = fun_ext (λ b. owners_are (u.epochs (group_of l k)) (epoch_in body.fence n t q) b (ap (λ f. f (group_of l k) LocalFence) eps ∙ ap (λ z. s.epochs z LocalFence) e ∙ st.epoch)) in
          let r : Part d k (owners_at ph (u.epochs (group_of l k))) u.memory (work.targets t q k) (work.value (group_of l k) t) (body.frames t k) (body.code q) (st.vars k) (body.before (suc q)) (work.knows t (suc q) k) =
          subst (λ z. Part d k z u.memory (work.targets t q k) (work.value (group_of l k) t) (body.frames t k) (body.code q) (st.vars k) (body.before (suc q)) (work.knows t (suc q) k)) (sym o)
          (h.does t q k tk ql kl (st.vars k) (st.ok k e) (owns (epoch_in body.fence n t q)) u.memory (record {
            holds = λ b x. holds_known g t q k u.memory e here inv.given inv.filled b x ∙ ap (λ z. work.value z t b) (sym e);
            may = λ b x. known_may t q k b tk ql x;
            mine = λ b x. target_owned t q k b tk ql kl x;
            own = λ b x. own_owned (epoch_in body.fence n t q) k b x;
          }))
          in
          let kept = λ (b : Cell) (sh : IsShared b) (n2 : work.targets t q k b → ⊥). untouched b r.deeds u.memory (r.quiet b sh n2) in
          record {
            deeds = r.deeds;
            end = item (body.before (suc q)) (body.frames t k) r.after;
            writes = writes_item ph d u k (work.targets t q k) (work.value (group_of l k) t) (body.frames t k) (body.code q) (st.vars k) (body.before (suc q)) (work.knows t (suc q) k) kl (same ∙ st.items k e) r (λ b x. target_not_input t q k b ql kl x);
            inv = record {
              given = λ b i. kept b (input_shared b.array i) (λ x. both_ways (is_input b.array) (target_not_input t q k b ql kl x) i) ∙ inv.given b i;
              filled = λ w k2 b wl e2 k2l x. kept b (target_shared t w k2 b (omega arith) k2l x) (λ y. never w q wl (same_phase t w k2 q k b (omega arith) k2l ql kl x y)) ∙ inv.filled w k2 b wl e2 k2l x;
              mine = λ i b il x. ⊎_elim
                  (λ low. kept b (target_shared t q (at i) b ql (in_range i (omega arith)) x) (λ y. other_item i j b low (omega arith) lt x y) ∙ inv.mine i b low x)
                  (λ high. let z : i ≡ j = omega arith in r.holds b (subst (λ y. work.targets t q (at y) b) z x) ∙ ap (λ y. work.value y t b) e)
                  (cases_lt i j);
            };
            good = (r.after, refl {a = item (body.before (suc q)) (body.frames t k) r.after}, r.so);
          }

      phase_lap : Lap ph d g ms s (λ j. DoneItem t q (at j)) Filling (λ j. EndsAt (at j))
      phase_lap = record {
        begin = record { given = st.given; filled = st.filled; mine = λ i b lt x. absurd (omega arith) };
        step = phase_step;
        apart = λ i j b v w il jl gl x y. ms.differ i j il jl (one_item t q t q (at i) (at j) b ql ql (in_range i il) (in_range j jl) gl x.0 y.0).2;
      }

      phase : Reaches g s (DonePhase g t q) (Stands g t (suc q) (body.before (suc q)) (epoch_in body.fence n t q))
      unfolding Given Filled
      phase =
          let r = lapped ph d g ms s (λ j. DoneItem t q (at j)) Filling (λ j. EndsAt (at j)) phase_lap in
          let ended = λ (j : ℕ) (lt : j < ms.size). r.done j lt in
          let Ended = λ (k : ℕ) (vs : Vars). (r.state.items k ≡ item (body.before (suc q)) (body.frames t k) vs) × work.knows t (suc q) k vs in
          let at_place = λ (k : ℕ). total_of (Ended (at (ms.place k))) (ms.place k) ms.size (λ lt. let x = r.done (ms.place k) lt in (x.0, (x.1, x.2))) no_vars in
          let vars2 = λ (k : ℕ). (at_place k).0 in
          let done = λ (k : ℕ) (e : group_of l k ≡ g). let i = ms.every k e in subst (λ z. Ended z (vars2 k)) (sym i.1) ((at_place k).1 i.0) in
          record {
            to = r.state;
            chunks = r.chunks;
            writes = writes_as ph d s r.state r.chunks (DoneBy (λ j. DoneItem t q (at j)) ms.size) (DonePhase g t q)
                (λ b v x. (at x.0, ms.inside x.0 x.1, in_range x.0 x.1, x.2))
                (λ b v x. let i = ms.every x.0 x.1 in (ms.place x.0, i.0, subst (λ z. DoneItem t q z b v) i.1 x.3))
                r.writes;
            others = record { items = r.others; epochs = λ x z. ap (λ f. f x) r.epochs };
            so = record {
              vars = vars2;
              items = λ k e. (done k e).0;
              ok = λ k e. (done k e).1;
              epoch = ap (λ f. f g LocalFence) r.epochs ∙ st.epoch;
              filled = λ w k b wl e kl x. ⊎_elim
                  (λ a. r.inv.filled w k b a e kl x)
                  (λ a. let i = ms.every k e in let z : w ≡ q = omega arith in r.inv.mine (ms.place k) b i.0 (subst (λ y. work.targets t q y b) i.1 (subst (λ y. work.targets t y k b) z x)))
                  (cases_lt w q);
              given = r.inv.given;
            };
          }

    reaches_as : (g : ℕ) (s : State) (A B : Cell → ℕ → Type 0) (Then : State → Type 0) → ((b : Cell) (v : ℕ) → A b v → B b v) → ((b : Cell) (v : ℕ) → B b v → A b v) → Reaches g s A Then → Reaches g s B Then
    reaches_as g s A B Then f f2 a = record { to = a.to; chunks = a.chunks; writes = writes_as ph d s a.to a.chunks A B f f2 a.writes; others = a.others; so = a.so }

    reaches_none : (g : ℕ) (s : State) (D : ℕ → Cell → ℕ → Type 0) (Then : State → Type 0) → Then s → Reaches g s (DoneBy D 0) Then
    reaches_none g s D Then x = reaches_as g s Nothing (DoneBy D 0) Then (λ b v y. absurd y) (λ b v y. let lt = y.1 in omega arith) (reaches_here g s Then x)

    reaches_so : (g : ℕ) (s : State) (Done : Cell → ℕ → Type 0) (Mid Then : State → Type 0) → ((u : State) → Mid u → Then u) → Reaches g s Done Mid → Reaches g s Done Then
    reaches_so g s Done Mid Then f a = record { to = a.to; chunks = a.chunks; writes = a.writes; others = a.others; so = f a.to a.so }

    stands_as : (g t q : ℕ) (place : Code) (e f : ℕ) (s : State) → e ≡ f → Stands g t q place e s → Stands g t q place f s
    stands_as g t q place e f s same st = record { vars = st.vars; items = st.items; ok = st.ok; epoch = st.epoch ∙ same; filled = st.filled; given = st.given }

    module _ (g : ℕ) (here : g < G) where
      -- a phase with what stands body.before it
      whole_phase : (t q : ℕ) → t < body.turns g → q < n → (s : State) → Stands g t q (body.before q) (t * each + passed body.fence q) s → Reaches g s (DonePhase g t q) (Stands g t (suc q) (body.before (suc q)) (t * each + passed body.fence (suc q)))
      whole_phase t q tl ql s st =
          let e0 = t * each + passed body.fence q in
          let b = bit (orders placed.Local (body.fence q)) in
          let a = past_fence g t q here s (body.fence q) (body.before q) (body.code q) e0 (h.past q (omega arith)) st in
          let e : b + e0 ≡ epoch_in body.fence n t q = omega arith in
          reaches_first g s (DonePhase g t q) (Stands g t q (body.code q) (b + e0)) (Stands g t (suc q) (body.before (suc q)) (t * each + passed body.fence (suc q))) a
          (phase g t q here tl ql a.to (stands_as g t q (body.code q) (b + e0) (epoch_in body.fence n t q) a.to e a.so))

      phases : (t m : ℕ) → t < body.turns g → m ≤ n → (s : State) → Stands g t 0 (body.before 0) (t * each + 0) s → Reaches g s (DoneBy (DonePhase g t) m) (Stands g t m (body.before m) (t * each + passed body.fence m))
      phases t zero tl le s st = reaches_none g s (DonePhase g t) (Stands g t 0 (body.before 0) (t * each + 0)) st
      phases t (suc m) tl le s st =
          let a = phases t m tl (omega arith) s st in
          reaches_more g s (DonePhase g t) m (Stands g t m (body.before m) (t * each + passed body.fence m)) (Stands g t (suc m) (body.before (suc m)) (t * each + passed body.fence (suc m)))
          (λ i b v w low gl x y. never i m low (one_item t i t m x.0 y.0 b (omega arith) le x.2 y.2 gl x.3.0 y.3.0).1)
          a (whole_phase t m tl le a.to a.so)

      -- a whole turn
      through : (t : ℕ) → t < body.turns g → (s : State) → Stands g t 0 (body.before 0) (t * each + 0) s → Reaches g s (DoneTurn g t) (Stands g t n (body.code n) (epoch_in body.fence n t n))
      through t tl s st =
          let e0 = t * each + passed body.fence n in
          let b = bit (orders placed.Local (body.fence n)) in
          let a = phases t n tl (omega arith) s st in
          let z = past_fence g t n here a.to (body.fence n) (body.before n) (body.code n) e0 (h.past n (omega arith)) a.so in
          let e : b + e0 ≡ epoch_in body.fence n t n = omega arith in
          reaches_then g s (DoneTurn g t) (Stands g t n (body.before n) e0) (Stands g t n (body.code n) (epoch_in body.fence n t n)) a
          (reaches_so g a.to Nothing (Stands g t n (body.code n) (b + e0)) (Stands g t n (body.code n) (epoch_in body.fence n t n)) (λ u x. stands_as g t n (body.code n) (b + e0) (epoch_in body.fence n t n) u e x) z)

      Over : State → Type 0
      Over u = (k : ℕ) → group_of l k ≡ g → next (ids_of l k) (u.items k) ≡ Ends

      -- what each group owes: from the start it goes through its body.turns
      abbrev GroupReaches : Type 0
      GroupReaches = (s : State) (vars : ℕ → Vars) → ((k : ℕ) → group_of l k ≡ g → s.items k ≡ item kernel.code [] (vars k)) → ((k : ℕ) → group_of l k ≡ g → Fits (declared kernel) (vars k)) → s.epochs g LocalFence ≡ 0 → Given s.memory → Reaches g s (DoneGroup g) Over

      module _ (m : GroupTurns kernel l c body work) where
        -- the items of the group stand before turn t
        record Before (t : ℕ) (s : State) : Type 0 where
          items : (k : ℕ) → group_of l k ≡ g → IsBefore l body work t k (s.items k)
          epoch : s.epochs g LocalFence ≡ t * each
          given : Given s.memory

        turn_stands : (t : ℕ) → t < body.turns g → (s : State) → Before t s → Stands g t 0 (body.before 0) (t * each + 0) s
        unfolding Filled
        turn_stands t tl s st =
            let at = λ (k : ℕ) (e : group_of l k ≡ g). (st.items k e).begun (subst (λ z. t < body.turns z) (sym e) tl) in
            record {
              vars = λ k. (s.items k).vars;
              items = λ k e. (at k e).0;
              ok = λ k e. (at k e).1;
              epoch = st.epoch ∙ (let z : t * each ≡ t * each + 0 = omega arith in z);
              filled = λ w k b wl e kl x. absurd (omega arith);
              given = st.given;
            }

        next_turn : (t : ℕ) → t < body.turns g → (s : State) → Stands g t n (body.code n) (epoch_in body.fence n t n) s → Reaches g s Nothing (Before (suc t))
        next_turn t tl s st =
            let a = all_hop g here s (IsBefore l body work (suc t)) st.given
            (λ k e. subst (λ z. CanHop d k c z (IsBefore l body work (suc t) k)) (sym (st.items k e)) (m.again t k (st.vars k) (subst (λ z. t < body.turns z) (sym e) tl) (in_launch l h.whole g k here e) (st.ok k e)))
            in
            record {
              to = a.to;
              chunks = a.chunks;
              writes = a.writes;
              others = a.others;
              so = record { items = a.so.items; epoch = ap (λ f. f g LocalFence) a.so.epochs ∙ st.epoch ∙ (let z : t * each + each ≡ suc t * each = omega arith in z); given = a.so.given };
            }

        turn : (t : ℕ) → t < body.turns g → (s : State) → Before t s → Reaches g s (DoneTurn g t) (Before (suc t))
        turn t tl s st =
            let a = through t tl s (turn_stands t tl s st) in
            reaches_then g s (DoneTurn g t) (Stands g t n (body.code n) (epoch_in body.fence n t n)) (Before (suc t)) a (next_turn t tl a.to a.so)

        all_turns : (i : ℕ) → i ≤ body.turns g → (s : State) → Before 0 s → Reaches g s (DoneBy (DoneTurn g) i) (Before i)
        all_turns zero le s st = reaches_none g s (DoneTurn g) (Before 0) st
        all_turns (suc i) le s st =
            let a = all_turns i (omega arith) s st in
            reaches_more g s (DoneTurn g) i (Before i) (Before (suc i))
            (λ j b v w low gl x y. never j i low (one_item j x.0 i y.0 x.2.0 y.2.0 b x.1 y.1 x.2.2 y.2.2 gl x.2.3.0 y.2.3.0).0)
            a (turn i le a.to a.so)

        -- the whole group
        group : GroupReaches
        unfolding Over
        group s vars items long ep given =
            let a = all_hop g here s (IsBefore l body work 0) given (λ k e. subst (λ z. CanHop d k c z (IsBefore l body work 0 k)) (sym (items k e)) (m.begins k (vars k) (in_launch l h.whole g k here e) (long k e))) in
            let first : Before 0 a.to = record { items = a.so.items; epoch = ap (λ f. f g LocalFence) a.so.epochs ∙ ep ∙ (let z : 0 ≡ 0 * each = omega arith in z); given = a.so.given } in
            let b = all_turns (body.turns g) (omega arith) a.to first in
            let a2 : Reaches g s Nothing (Before 0) = record { to = a.to; chunks = a.chunks; writes = a.writes; others = a.others; so = first } in
            let r = reaches_first g s (DoneGroup g) (Before 0) (Before (body.turns g)) a2 b in
            let u = r.so in
            record {
              to = r.to;
              chunks = r.chunks;
              writes = r.writes;
              others = r.others;
              so = λ k e. (u.items k e).over (let z : body.turns (group_of l k) ≡ body.turns g = ap body.turns e in omega arith);
            }

    module _ (wanted : List (List ℕ)) (outs : GroupOutputs l owner wanted body.count body.turns work) (all_reach : (g : ℕ) (here : g < G) → GroupReaches g here) where
      -- groups one after another
      record After (m : ℕ) : Type 0 where
        state : State
        chunks : List Chunk
        writes : Writes ph d s0 state chunks (DoneBy DoneGroup m)
        over : (k : ℕ) → group_of l k < m → next (ids_of l k) (state.items k) ≡ Ends
        later : (k : ℕ) → m ≤ group_of l k → state.items k ≡ s0.items k
        epochs : (g : ℕ) → m ≤ g → state.epochs g ≡ s0.epochs g

      after_groups : (m : ℕ) → m ≤ G → After m
      unfolding Over Given
      after_groups zero le = record {
        state = s0;
        chunks = [];
        writes = writes_as ph d s0 s0 [] Nothing (DoneBy DoneGroup 0) (λ b v x. absurd x) (λ b v x. let lt = x.1 in omega arith) (writes_nothing ph d s0);
        over = λ k lt. absurd (omega arith);
        later = λ k le. refl;
        epochs = λ g le. refl;
      }
      after_groups (suc m) le =
          let a = after_groups m (omega arith) in
          let in_range = λ (k : ℕ) (e : group_of l k ≡ m). in_launch l h.whole m k le e in
          let b = all_reach m le a.state begun.vars
          (λ k e. a.later k (omega arith) ∙ begun.items k (in_range k e))
          (λ k e. let words = begun.long k (in_range k e) in let fours = begun.wide k (in_range k e) in record { words = omega arith; fours = omega arith })
          (ap (λ f. f LocalFence) (a.epochs m (omega arith)) ∙ begun.epochs m LocalFence)
          (λ b i. a.writes.inputs b i)
          in
          record {
            state = b.to;
            chunks = a.chunks ++ b.chunks;
            writes = writes_more ph d s0 a.state b.to a.chunks b.chunks DoneGroup m (λ i c2 v w low gl x y. other_group i m c2 v w low gl x y) a.writes b.writes;
            over = λ k lt. ⊎_elim (λ low. ap (next (ids_of l k)) (b.others.items k (λ e. never (group_of l k) m low e)) ∙ a.over k low) (λ high. b.so k (omega arith)) (cases_lt (group_of l k) m);
            later = λ k high. b.others.items k (λ e. never m (group_of l k) high (sym e)) ∙ a.later k (omega arith);
            epochs = λ g high. b.others.epochs g (λ e. never m g high (sym e)) ∙ a.epochs g (omega arith);
          }
        where
          other_group : (i m : ℕ) (b : Cell) (v w : ℕ) → i < m → IsGlobal b → DoneGroup i b v → DoneGroup m b w → ⊥
          other_group i m b v w low gl x y =
              let z = x.2.2 in
              let w2 = y.2.2 in
              let e = (one_item x.0 x.2.0 y.0 y.2.0 z.0 w2.0 b x.2.1 y.2.1 z.2 w2.2 gl z.3.0 w2.3.0).2 in
              never i m low (sym z.1 ∙ ap (group_of l) e ∙ w2.1)

      over_all : After G
      over_all = after_groups G (omega arith)

      all_ended : AllEnded d over_all.state
      all_ended k lt = over_all.over k (group_in_launch l h.whole k lt)

      few : (a i : ℕ) → chunk_writes (output_cell a i) over_all.chunks ≤ 1
      few a i = ⊎_elim
          (λ more. absurd (none (over_all.writes.quiet (output_cell a i) refl (λ v x. two (over_all.writes.once (output_cell a i) v refl x) more)) more))
          (λ le. le)
          (cases_lt 1 (chunk_writes (output_cell a i) over_all.chunks))
        where
          two : {x : ℕ} → x ≡ 1 → 1 < x → ⊥
          two e lt = omega arith

          none : {x : ℕ} → x ≡ 0 → 1 < x → ⊥
          none e lt = omega arith

      done_cell : (a i : ℕ) → i < length (row wanted a) → DoneBy DoneGroup G (output_cell a i) (slice_index (row wanted a) i)
      done_cell a i lt =
          let x = outs.all a i lt in
          let k = owner a i in
          let kl = outs.owners_within a i in
          (group_of l k, group_in_launch l h.whole k kl, (x.0, x.2, (x.1, x.3, (k, refl, kl, (x.4, x.5)))))

      leaves : LeavesOutputs d owner wanted s0
      leaves = record {
        phases = ph;
        chunks = over_all.chunks;
        end = over_all.state;
        chunked = over_all.writes.chunked;
        ended = all_ended;
        owned = λ e a i. refl;
        at_most_once = few;
        once = λ a i lt. over_all.writes.once (output_cell a i) (slice_index (row wanted a) i) refl (done_cell a i lt);
        left = λ a i lt. over_all.writes.holds (output_cell a i) (slice_index (row wanted a) i) refl (done_cell a i lt);
      }

      -- barriers

      written_now : (b : Bool) (v w : ℕ) → (if b then Some v else None) ≡ Some w → (b ≡ true) × (v ≡ w)
      written_now true v w e = (refl, some_is v w e)
      written_now false v w e = cc

      local_case : (e a : ℕ) (b : Cell) → b.array ≡ Local a → owns e b ≡ (if h.runs_in e (work.filled_in a) then Some (work.filler b) else None)
      local_case e a b q = go b.array b.home b.index q
        where
          local_is : (m k : ℕ) → Local m ≡ Local k → m ≡ k
          local_is m k e2 = cc

          go : (arr : Array) (hm ix : ℕ) → arr ≡ Local a → owns e (record { array = arr; home = hm; index = ix }) ≡ (if h.runs_in e (work.filled_in a) then Some (work.filler (record { array = arr; home = hm; index = ix })) else None)
          go (Local m) hm ix q = ap (λ z. if h.runs_in e (work.filled_in z) then Some (work.filler (local_cell hm m ix)) else None) (local_is m a q)
          go (Input m) hm ix q = absurd (cc)
          go (Output m) hm ix q = absurd (cc)
          go (Private m) hm ix q = absurd (cc)

      told : AsChunked ph d s0 over_all.state over_all.chunks
      told = as_chunked ph d s0 over_all.state over_all.chunks h.whole over_all.writes.chunked all_ended

      serves : (es : List Event) → IsRun d s0 es → BarriersServe d work.filler s0 es
      serves es r = record {
        meet = every_run_meets d s0 (events_of over_all.chunks) told.every es r;
        same_barriers = λ k. group_tells d h.whole s0 es (group_of l k) k refl r;
        apart = λ x y ax ay a px py ep w.
            let tx = told.timely x (told.every.among es r x ax) in
            let ty = told.timely y (told.every.among es r y ay) in
            let one = written_now (h.runs_in x.epoch (work.filled_in a)) (work.filler x.cell) x.item (sym (local_case x.epoch a x.cell px) ∙ tx.writes w) in
            let two : owns y.epoch y.cell ≡ Some (work.filler y.cell) = local_case y.epoch a y.cell py ∙ ap (λ b. if b then Some (work.filler y.cell) else None) (ap (λ z. h.runs_in z (work.filled_in a)) (sym ep) ∙ one.0) in
            (sym one.1, ⊎_elim (λ z. absurd (none_is (work.filler y.cell) (sym z ∙ two))) (λ z. some_is y.item (work.filler y.cell) (sym z ∙ two)) ty.reads);
      }

-- turns of groups, however the items come to them
module _ (kernel : Kernel) (l : Launch) (c : Cells) (owner : (array index : ℕ) → ℕ) (wanted : List (List ℕ)) (body : Body) (work : Work) (h : GroupPhases kernel l c owner body work) (m : GroupTurns kernel l c body work) (outs : GroupOutputs l owner wanted body.count body.turns work) where
  reaches_in : (s : State) (begun : IsStart kernel l c s) (g : ℕ) (here : g < group_count l) → GroupReaches kernel l c owner body work h s begun g here
  reaches_in s begun g here = group kernel l c owner body work h s begun g here m

  -- from every start some run leaves what is wanted
  pub group_map_leaves : SomeRunLeaves kernel l c owner wanted
  group_map_leaves s begun = leaves kernel l c owner body work h s begun wanted outs (reaches_in s begun)

  -- and in every run barriers serve
  pub group_map_serves : BarriersServeAll kernel l c work.filler
  group_map_serves s es begun r = serves kernel l c owner body work h s begun wanted outs (reaches_in s begun) es r
