-- The cells of an event, one by one: each access is of one cell, and so is each write.
use Rattle.std.proofs.Common.{◌≡◌, ℕ, ◌+◌, ◌*◌, List, [], ◌∷◌, refl, ap, ◌∙◌, subst, sym, ⊎_elim, inl, inr, Bool, true, false}
use Rattle.kernel_tree.specs.declared.events.Event.{Event}
use Rattle.kernel_tree.specs.declared.events.Event.TheVariants.{Step, Release}
use Rattle.kernel_tree.specs.Formula.{Four}
use Rattle.kernel_tree.specs.Code.{Array}
use Rattle.kernel_tree.specs.Launch.{Launch, group_of}
use Rattle.kernel_tree.specs.Item.{Wants, Ends, Waits, Moves, Reads, Writes, ReadsFour, WritesFour, Fails}
use Rattle.kernel_tree.specs.Device.{Cell, cell_at, behind, four_cells, four_at, Device, State, Memory, Fence, wants, write, four_words, stored}
use Rattle.kernel_tree.specs.Faults.{Access, access_at, accessed, accesses_of, Among, OfOneEvent}
use Rattle.kernel_tree.specs.Deeds.{Every}

pub among_every : {A : Type 0} (P : A → Type 0) (xs : List A) → Every P xs → (x : A) → Among x xs → P x
among_every P [] all x h = absurd h
among_every P (y ∷ ys) all x h = ⊎_elim (λ e. subst P (sym e) all.0) (λ r. among_every P ys all.1 x r) h

-- what holds of an access of any cell that the item names holds of each that it makes
pub each_made : (l : Launch) (k : ℕ) (epochs : Fence → ℕ) (P : Access → Type 0) → ((a : Array) (n : ℕ) (w : Bool) → P (access_at (group_of l k) k (cell_at l k a n) w epochs)) → (w : Wants) (x : Access) → Among x (accessed l k w epochs) → P x
each_made l k ep P f (Reads a n g) x h = among_every P (accessed l k (Reads a n g) ep) (f a n false, tt) x h
each_made l k ep P f (Writes a n v y) x h = among_every P (accessed l k (Writes a n v y) ep) (f a n true, tt) x h
each_made l k ep P f (ReadsFour a n g) x h =
    among_every P (accessed l k (ReadsFour a n g) ep) (f a (4 * n) false, (f a (4 * n + 1) false, (f a (4 * n + 2) false, (f a (4 * n + 3) false, tt)))) x h
each_made l k ep P f (WritesFour a n u y) x h =
    among_every P (accessed l k (WritesFour a n u y) ep) (f a (4 * n) true, (f a (4 * n + 1) true, (f a (4 * n + 2) true, (f a (4 * n + 3) true, tt)))) x h
each_made l k ep P f Ends x h = absurd h
each_made l k ep P f (Waits a b y) x h = absurd h
each_made l k ep P f (Moves y) x h = absurd h
each_made l k ep P f (Fails g) x h = absurd h

-- the cells that an event reads, and those that it writes with their words

abbrev pub Put : Type 0
Put = Cell × ℕ

abbrev pub four_puts : Cell → Four → List Put
four_puts c u = (c, u.x) ∷ (behind 1 c, u.y) ∷ (behind 2 c, u.z) ∷ (behind 3 c, u.w) ∷ []

abbrev pub puts : Launch → ℕ → Wants → List Put
puts l k (Writes a n v x) = (cell_at l k a n, v) ∷ []
puts l k (WritesFour a n u x) = four_puts (four_at l k a n) u
puts l k _ = []

abbrev pub cell_of : Put → Cell
cell_of p = p.0

abbrev pub cells_of : List Put → List Cell
cells_of [] = []
cells_of (p ∷ ps) = p.0 ∷ cells_of ps

abbrev pub gets : Launch → ℕ → Wants → List Cell
gets l k (Reads a n f) = cell_at l k a n ∷ []
gets l k (ReadsFour a n f) = four_cells (four_at l k a n)
gets l k _ = []

-- memory with these words, one after another
abbrev pub put_all : List Put → Memory → Memory
put_all [] m = m
put_all (p ∷ ps) m = put_all ps (write p.0 p.1 m)

pub stored_is : (l : Launch) (k : ℕ) (w : Wants) (m : Memory) → stored l k w m ≡ put_all (puts l k w) m
stored_is l k (Writes a n v x) m = refl
stored_is l k (WritesFour a n u x) m = refl
stored_is l k (Reads a n f) m = refl
stored_is l k (ReadsFour a n f) m = refl
stored_is l k Ends m = refl
stored_is l k (Waits a b x) m = refl
stored_is l k (Moves x) m = refl
stored_is l k (Fails f) m = refl

four_made : (g k : ℕ) (w : Bool) (ep : Fence → ℕ) (c b : Cell) → Among b (four_cells c) → Among (access_at g k b w ep) (access_at g k c w ep ∷ access_at g k (behind 1 c) w ep ∷ access_at g k (behind 2 c) w ep ∷ access_at g k (behind 3 c) w ep ∷ [])
four_made g k w ep c b h =
    let f = λ (x : Cell). access_at g k x w ep in
    ⊎_elim (λ e. inl (ap f e)) (λ r. inr (⊎_elim (λ e. inl (ap f e)) (λ s. inr (⊎_elim (λ e. inl (ap f e)) (λ t. inr (⊎_elim (λ e. inl (ap f e)) (λ z. absurd z) t)) s)) r)) h

pub get_made : (l : Launch) (k : ℕ) (w : Wants) (ep : Fence → ℕ) (c : Cell) → Among c (gets l k w) → Among (access_at (group_of l k) k c false ep) (accessed l k w ep)
get_made l k (Reads a n f) ep c h = ⊎_elim (λ e. inl (ap (λ x. access_at (group_of l k) k x false ep) e)) (λ z. absurd z) h
get_made l k (ReadsFour a n f) ep c h = four_made (group_of l k) k false ep (four_at l k a n) c h
get_made l k _ ep c h = absurd h

pub put_made : (l : Launch) (k : ℕ) (w : Wants) (ep : Fence → ℕ) (c : Cell) → Among c (cells_of (puts l k w)) → Among (access_at (group_of l k) k c true ep) (accessed l k w ep)
put_made l k (Writes a n v x) ep c h = ⊎_elim (λ e. inl (ap (λ x. access_at (group_of l k) k x true ep) e)) (λ z. absurd z) h
put_made l k (WritesFour a n u x) ep c h = four_made (group_of l k) k true ep (four_at l k a n) c h
put_made l k _ ep c h = absurd h

pub four_words-same : (m n : Memory) (c : Cell) → ((b : Cell) → Among b (four_cells c) → m b ≡ n b) → four_words m c ≡ four_words n c
four_words-same m n c h = λ i. record {
  x = h c (inl refl) i;
  y = h (behind 1 c) (inr (inl refl)) i;
  z = h (behind 2 c) (inr (inr (inl refl))) i;
  w = h (behind 3 c) (inr (inr (inr (inl refl)))) i;
}

-- the accesses of one event are alike but for their cells

is_writing : Wants → Bool
is_writing (Writes a n v x) = true
is_writing (WritesFour a n u x) = true
is_writing _ = false

made_as : (l : Launch) (k : ℕ) (ep : Fence → ℕ) (w : Wants) (x : Access) → Among x (accessed l k w ep) → x ≡ access_at (group_of l k) k x.cell (is_writing w) ep
unfolding is_writing
made_as l k ep (Reads a n g) x h = among_every (λ y. y ≡ access_at (group_of l k) k y.cell false ep) (accessed l k (Reads a n g) ep) (refl, tt) x h
made_as l k ep (Writes a n v z) x h = among_every (λ y. y ≡ access_at (group_of l k) k y.cell true ep) (accessed l k (Writes a n v z) ep) (refl, tt) x h
made_as l k ep (ReadsFour a n g) x h =
    among_every (λ y. y ≡ access_at (group_of l k) k y.cell false ep) (accessed l k (ReadsFour a n g) ep) (refl, (refl, (refl, (refl, tt)))) x h
made_as l k ep (WritesFour a n u z) x h =
    among_every (λ y. y ≡ access_at (group_of l k) k y.cell true ep) (accessed l k (WritesFour a n u z) ep) (refl, (refl, (refl, (refl, tt)))) x h
made_as l k ep Ends x h = absurd h
made_as l k ep (Waits a b z) x h = absurd h
made_as l k ep (Moves z) x h = absurd h
made_as l k ep (Fails g) x h = absurd h

pub of_one_event : (d : Device) (s : State) (e : Event) (a b : Access) → Among a (accesses_of d s e) → Among b (accesses_of d s e) → OfOneEvent a b
unfolding accesses_of
of_one_event d s (Step k) a b i j =
    let ep = s.epochs (group_of d.launch k) in
    let p = made_as d.launch k ep (wants d s k) a i in
    let q = made_as d.launch k ep (wants d s k) b j in
    record {
      item = ap (λ (x : Access). x.item) p ∙ sym (ap (λ (x : Access). x.item) q);
      group = ap (λ (x : Access). x.group) p ∙ sym (ap (λ (x : Access). x.group) q);
      writes = ap (λ (x : Access). x.writes) p ∙ sym (ap (λ (x : Access). x.writes) q);
      same = λ c. p ∙ ap (λ x. access_at (group_of d.launch k) k x (is_writing (wants d s k)) ep) c ∙ sym q;
    }
of_one_event d s (Release g) a b i j = absurd i
