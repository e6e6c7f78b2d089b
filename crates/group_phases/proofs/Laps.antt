-- The items of one group, one after another.
use Rattle.std.proofs.Common.{◌≡◌, ℕ, zero, suc, ◌<◌, ◌≤◌, List, [], ◌∷◌, ◌++◌, refl, sym, ap, ◌∙◌, subst, ⊎_elim, arith}
use Rattle.std.proofs.lemmas.Bool.{eq-eqb, ne_eqb, cases_lt}
use Rattle.kernel_tree.specs.Launch.{Launch, IsWhole, group_of, group_count, group_size}
use Rattle.kernel_tree.specs.Item.{Item}
use Rattle.kernel_tree.specs.Device.{Device, Cell, Memory, State}
use Rattle.kernel_tree.specs.Numbering.{member_at, number_in_group}
use Rattle.kernel_tree.specs.Deeds.{Deed, written, put}
use Rattle.kernel_tree.specs.Chunks.{Chunk, By, chunk_state, Phases}
use Rattle.kernel_tree.proofs.Grouping as grouping
use Rattle.group_phases.specs.Written.{IsGlobal, Writes, Nothing, DoneBy}
use Rattle.group_phases.proofs.Written.{writes_as, writes_more, writes_nothing}

-- the items of a group, one after another
pub record Members (l : Launch) (g : ℕ) : Type 0 where
  pub size : ℕ
  pub at : ℕ → ℕ
  pub inside : (j : ℕ) → j < size → group_of l (at j) ≡ g
  pub place : ℕ → ℕ
  pub every : (i : ℕ) → group_of l i ≡ g → (place i < size) × (i ≡ at (place i))
  pub differ : (i j : ℕ) → i < size → j < size → at i ≡ at j → i ≡ j

-- row by row
pub members : (l : Launch) → IsWhole l → (g : ℕ) → g < group_count l → Members l g
members l whole g here =
    let m = grouping.members l whole g here in
    record {
      size = group_size l;
      at = member_at l g;
      inside = m.inside;
      place = number_in_group l;
      every = m.every;
      differ = m.differ;
    }

module _ (p : Phases) (d : Device) (g : ℕ) (ms : Members d.launch g) (s : State) (D : ℕ → Cell → ℕ → Type 0) (I : ℕ → Memory → Type 0) (R : ℕ → Item → Type 0) where
  -- what the j-th item does from there
  pub record Step (j : ℕ) (u : State) : Type 0 where
    pub deeds : List Deed
    pub end : Item
    pub writes : Writes p d u (chunk_state d u (By (ms.at j) deeds end)) (By (ms.at j) deeds end ∷ []) (D j)
    pub inv : I (suc j) (written deeds u.memory)
    pub good : R j end

  -- each does so in turn
  pub record Lap : Type 0 where
    pub begin : I 0 s.memory
    pub step : (j : ℕ) → j < ms.size → (u : State) → u.items (ms.at j) ≡ s.items (ms.at j) → u.epochs ≡ s.epochs → I j u.memory → Step j u
    pub apart : (i j : ℕ) (c : Cell) (v w : ℕ) → i < ms.size → j < ms.size → IsGlobal c → D i c v → D j c w → i ≡ j

  pub record Lapped (n : ℕ) : Type 0 where
    pub state : State
    pub chunks : List Chunk
    pub writes : Writes p d s state chunks (DoneBy D n)
    pub done : (j : ℕ) → j < n → R j (state.items (ms.at j))
    pub later : (j : ℕ) → n ≤ j → j < ms.size → state.items (ms.at j) ≡ s.items (ms.at j)
    pub others : (i : ℕ) → (group_of d.launch i ≡ g → ⊥) → state.items i ≡ s.items i
    pub epochs : state.epochs ≡ s.epochs
    pub inv : I n state.memory

  module _ (lap : Lap) where
    one_more : (n : ℕ) → n < ms.size → Lapped n → Lapped (suc n)
    one_more n lt h = record {
      state = chunk_state d u (By (ms.at n) x.deeds x.end);
      chunks = h.chunks ++ By (ms.at n) x.deeds x.end ∷ [];
      writes = writes_more p d s u (chunk_state d u (By (ms.at n) x.deeds x.end)) h.chunks (By (ms.at n) x.deeds x.end ∷ []) D n (λ i c v w low l y z. absurd (never i n low (lap.apart i n c v w (omega arith) lt l y z))) h.writes x.writes;
      done = λ j below. ⊎_elim (λ a. subst (R j) (sym (other (ms.at j) (λ e. never j n a (ms.differ j n (omega arith) lt e)))) (h.done j a)) (λ b. this j (omega arith)) (cases_lt j n);
      later = λ j le below. other (ms.at j) (λ e. never n j le (sym (ms.differ j n below lt e))) ∙ h.later j (omega arith) below;
      others = λ i n2. other i (λ e. n2 (ap (group_of d.launch) e ∙ ms.inside n lt)) ∙ h.others i n2;
      epochs = h.epochs;
      inv = x.inv;
    }
      where
        u : State
        u = h.state

        x : Step n u
        x = lap.step n lt u (h.later n (omega arith) lt) h.epochs h.inv

        never : (i j : ℕ) → i < j → i ≡ j → ⊥
        never i j lt e = omega arith

        other : (i : ℕ) → (i ≡ ms.at n → ⊥) → put (ms.at n) x.end u.items i ≡ u.items i
        other i free = rw (ne_eqb i (ms.at n) free) refl

        this : (j : ℕ) → j ≡ n → R j (put (ms.at n) x.end u.items (ms.at j))
        this j e = subst (R j) (sym (rw (eq-eqb (ms.at j) (ms.at n) (ap ms.at e)) refl)) (subst (λ i. R i x.end) (sym e) x.good)

    lapped_to : (n : ℕ) → n ≤ ms.size → Lapped n
    lapped_to zero le = record {
      state = s;
      chunks = [];
      writes = writes_as p d s s [] Nothing (DoneBy D 0) (λ c v x. absurd x) (λ c v x. let l = x.1 in omega arith) (writes_nothing p d s);
      done = λ j lt. absurd (omega arith);
      later = λ j le lt. refl;
      others = λ i n. refl;
      epochs = refl;
      inv = lap.begin;
    }
    lapped_to (suc n) le = one_more n le (lapped_to n (omega arith))

    pub lapped : Lapped ms.size
    lapped = lapped_to ms.size (omega arith)
