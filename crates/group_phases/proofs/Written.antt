-- Rules for chunks by the shared cells that they write.
use Rattle.std.proofs.Common.{◌≡◌, ℕ, suc, ◌+◌, ◌<◌, ◌⊎◌, List, [], ◌∷◌, ◌++◌, true, false, true≢false, refl, sym, ◌∙◌, subst, ⊎_elim, inl, inr, arith}
use Rattle.std.proofs.lemmas.Bool.{cases_lt, both_ways}
use Rattle.kernel_tree.specs.declared.events.Event.TheVariants.{Release}
use Rattle.kernel_tree.specs.Formula.{Vars}
use Rattle.kernel_tree.specs.Code.{Array, Input, Output, Local, Private, Code}
use Rattle.kernel_tree.specs.Launch.{group_of, item_count}
use Rattle.kernel_tree.specs.Item.{Item, item, Frame}
use Rattle.kernel_tree.specs.Device.{Device, Cell, Memory, State, Enabled, after, behind}
use Rattle.kernel_tree.specs.Deeds.{Deed, Moved, Got, Gave, GotFour, GaveFour, Goes, WritesTo, written}
use Rattle.kernel_tree.specs.Independent.{write_count}
use Rattle.kernel_tree.specs.Chunks.{Chunk, By, Rel, chunk_state, Phases, owners_at, chunk_writes}
use Rattle.kernel_tree.proofs.Chunks.{chunked-append}
use Rattle.kernel_tree.proofs.Independent.{written-kept}
use Rattle.printed_form.proofs.Runs.{one_here}
use Rattle.group_phases.specs.Bodies.{is_private, IsShared, Part, Hop}
use Rattle.group_phases.specs.Written.{is_global, IsGlobal, is_input, Writes, Nothing, DoneBy, LeavesOtherGroups}

global_shared : (c : Cell) → IsGlobal c → IsShared c
global_shared c h = go c.array h
  where
    go : (a : Array) → is_global a ≡ true → is_private a ≡ false
    go (Input n) e = refl
    go (Output n) e = refl
    go (Local n) e = refl
    go (Private n) e = absurd (true≢false (sym e))

pub writes_count : (c : Cell) (ds : List Deed) → WritesTo c ds → write_count c ds ≡ 0 → ⊥
writes_count c [] w e = w
writes_count c (Moved ∷ ds) w e = writes_count c ds w e
writes_count c (Got b ∷ ds) w e = writes_count c ds w e
writes_count c (Gave b v ∷ ds) w e = ⊎_elim (λ q. let n = one_here b c q in absurd (omega arith)) (λ r. writes_count c ds r (omega arith)) w
writes_count c (GotFour b ∷ ds) w e = writes_count c ds w e
writes_count c (GaveFour b u ∷ ds) w e =
    ⊎_elim
    (λ four. ⊎_elim (λ q. let n = one_here b c q in absurd (omega arith))
    (λ more. ⊎_elim (λ q. let n = one_here (behind 1 b) c q in absurd (omega arith))
    (λ more. ⊎_elim (λ q. let n = one_here (behind 2 b) c q in absurd (omega arith))
    (λ more. ⊎_elim (λ q. let n = one_here (behind 3 b) c q in absurd (omega arith)) (λ none. none)
    more) more) more) four)
    (λ r. writes_count c ds r (omega arith))
    w

pub untouched : (c : Cell) (ds : List Deed) (m : Memory) → write_count c ds ≡ 0 → written ds m c ≡ m c
untouched c ds m e = written-kept ds m c (λ w. writes_count c ds w e)

pub input_shared : (a : Array) → is_input a ≡ true → is_private a ≡ false
input_shared (Input n) e = refl
input_shared (Output n) e = refl
input_shared (Local n) e = refl
input_shared (Private n) e = absurd (true≢false (sym e))

module _ (p : Phases) (d : Device) where
  writes-append : (c : Cell) (cs ds : List Chunk) → chunk_writes c (cs ++ ds) ≡ chunk_writes c cs + chunk_writes c ds
  writes-append c [] ds = omega arith
  writes-append c (By k es y ∷ cs) ds = let e = writes-append c cs ds in omega arith
  writes-append c (Rel g ∷ cs) ds = writes-append c cs ds

  pub writes_as : (s t : State) (cs : List Chunk) (A B : Cell → ℕ → Type 0) → ((c : Cell) (v : ℕ) → A c v → B c v) → ((c : Cell) (v : ℕ) → B c v → A c v) → Writes p d s t cs A → Writes p d s t cs B
  writes_as s t cs A B f g w = record {
    chunked = w.chunked;
    quiet = λ c l n. w.quiet c l (λ v x. n v (f c v x));
    once = λ c v l x. w.once c v l (g c v x);
    holds = λ c v l x. w.holds c v l (g c v x);
    kept = w.kept;
    inputs = w.inputs;
  }

  pub writes_on : (s t u : State) (cs ds : List Chunk) (A B : Cell → ℕ → Type 0) → ((c : Cell) (v w : ℕ) → IsGlobal c → A c v → B c w → ⊥) → Writes p d s t cs A → Writes p d t u ds B → Writes p d s u (cs ++ ds) (λ c v. A c v ⊎ B c v)
  writes_on s t u cs ds A B apart a b = record {
    chunked = chunked-append p d s t u cs ds a.chunked b.chunked;
    quiet = λ c l n.
        let e = writes-append c cs ds in
        let x = a.quiet c l (λ v y. n v (inl y)) in
        let z = b.quiet c l (λ v y. n v (inr y)) in
        omega arith;
    once = λ c v l z.
        let n = writes-append c cs ds in
        ⊎_elim
        (λ x. let e = a.once c v l x in let q = quiet_b c v l x in omega arith)
        (λ y. let e = b.once c v l y in let q = quiet_a c v l y in omega arith)
        z;
    holds = λ c v l z. ⊎_elim (λ x. b.kept c l (quiet_b c v l x) ∙ a.holds c v l x) (λ y. b.holds c v l y) z;
    kept = λ c l e. let n = writes-append c cs ds in b.kept c l (let z = e in omega arith) ∙ a.kept c l (let z = e in omega arith);
    inputs = λ c i. b.inputs c i ∙ a.inputs c i;
  }
    where
      quiet_b : (c : Cell) (v : ℕ) → IsGlobal c → A c v → chunk_writes c ds ≡ 0
      quiet_b c v l x = b.quiet c l (λ w y. apart c v w l x y)

      quiet_a : (c : Cell) (v : ℕ) → IsGlobal c → B c v → chunk_writes c cs ≡ 0
      quiet_a c v l y = a.quiet c l (λ w x. apart c w v l x y)

  -- one more of several
  pub writes_more : (s t u : State) (cs ds : List Chunk) (D : ℕ → Cell → ℕ → Type 0) (n : ℕ) → ((i : ℕ) (c : Cell) (v w : ℕ) → i < n → IsGlobal c → D i c v → D n c w → ⊥) → Writes p d s t cs (DoneBy D n) → Writes p d t u ds (D n) → Writes p d s u (cs ++ ds) (DoneBy D (suc n))
  writes_more s t u cs ds D n apart a b =
      writes_as s u (cs ++ ds) (λ c v. DoneBy D n c v ⊎ D n c v) (DoneBy D (suc n))
      (λ c v x. ⊎_elim (λ y. let l = y.1 in (y.0, omega arith, y.2)) (λ y. (n, omega arith, y)) x)
      (λ c v x. ⊎_elim (λ l. inl (x.0, l, x.2)) (λ l. let m = x.1 in let e : x.0 ≡ n = omega arith in inr (subst (λ i. D i c v) e x.2)) (cases_lt x.0 n))
      (writes_on s t u cs ds (DoneBy D n) (D n) (λ c v w l x y. apart x.0 c v w x.1 l x.2 y) a b)

  -- and with what does nothing
  pub writes_then : (s t u : State) (cs ds : List Chunk) (A : Cell → ℕ → Type 0) → Writes p d s t cs A → Writes p d t u ds Nothing → Writes p d s u (cs ++ ds) A
  writes_then s t u cs ds A a b = writes_as s u (cs ++ ds) (λ c v. A c v ⊎ ⊥) A (λ c v x. ⊎_elim (λ y. y) (λ y. absurd y) x) (λ c v x. inl x) (writes_on s t u cs ds A Nothing (λ c v w l x y. y) a b)

  pub writes_first : (s t u : State) (cs ds : List Chunk) (A : Cell → ℕ → Type 0) → Writes p d s t cs Nothing → Writes p d t u ds A → Writes p d s u (cs ++ ds) A
  writes_first s t u cs ds A a b = writes_as s u (cs ++ ds) (λ c v. ⊥ ⊎ A c v) A (λ c v x. ⊎_elim (λ y. absurd y) (λ y. y) x) (λ c v x. inr x) (writes_on s t u cs ds Nothing A (λ c v w l x y. x) a b)

  pub writes_nothing : (s : State) → Writes p d s s [] Nothing
  writes_nothing s = record { chunked = refl; quiet = λ c l n. refl; once = λ c v l x. absurd x; holds = λ c v l x. absurd x; kept = λ c l e. refl; inputs = λ c i. refl }

  pub writes_release : (s : State) (g : ℕ) → Enabled d s (Release g) → Writes p d s (after d s (Release g)) (Rel g ∷ []) Nothing
  unfolding after
  writes_release s g e = record { chunked = (e, tt, refl); quiet = λ c l n. refl; once = λ c v l x. absurd x; holds = λ c v l x. absurd x; kept = λ c l q. refl; inputs = λ c i. refl }

  -- an item that goes on between turns
  pub writes_hop : (s : State) (k : ℕ) (x : Item) (Then : Item → Type 0) → k < item_count d.launch → s.items k ≡ x → (r : Hop d k (owners_at p (s.epochs (group_of d.launch k))) s.memory x Then) → Writes p d s (chunk_state d s (By k r.deeds r.after)) (By k r.deeds r.after ∷ []) Nothing
  writes_hop s k x Then lt stands r = record {
    chunked = ((lt, subst (λ z. Goes d k z s.memory r.deeds r.after) (sym stands) r.goes), r.allowed, refl);
    quiet = λ c l n. let e = r.quiet c (global_shared c l) in omega arith;
    once = λ c v l x. absurd x;
    holds = λ c v l x. absurd x;
    kept = λ c l e. untouched c r.deeds s.memory (r.quiet c (global_shared c l));
    inputs = λ c i. untouched c r.deeds s.memory (r.quiet c (input_shared c.array i));
  }

  -- an item by its part
  pub writes_item : (s : State) (k : ℕ) (target : Cell → Type 0) (value : Cell → ℕ) (fs : List Frame) (code : Code) (vars : Vars) (rest : Code) (V : Vars → Type 0) → k < item_count d.launch → s.items k ≡ item code fs vars
      → (r : Part d k (owners_at p (s.epochs (group_of d.launch k))) s.memory target value fs code vars rest V) → ((c : Cell) → target c → is_input c.array ≡ false)
      → Writes p d s (chunk_state d s (By k r.deeds (item rest fs r.after))) (By k r.deeds (item rest fs r.after) ∷ []) (λ c v. target c × (value c ≡ v))
  writes_item s k target value fs code vars rest V lt stands r output = record {
    chunked = ((lt, subst (λ x. Goes d k x s.memory r.deeds (item rest fs r.after)) (sym stands) r.goes), r.allowed, refl);
    quiet = λ c l n. let e = r.quiet c (global_shared c l) (λ x. n (value c) (x, refl)) in omega arith;
    once = λ c v l x. let e = r.once c x.0 in omega arith;
    holds = λ c v l x. r.holds c x.0 ∙ x.1;
    kept = λ c l e. untouched c r.deeds s.memory (let z = e in omega arith);
    inputs = λ c i. untouched c r.deeds s.memory (r.quiet c (input_shared c.array i) (λ x. both_ways (is_input c.array) (output c x) i));
  }

-- other groups

pub leaves_on : (d : Device) (g : ℕ) (s t u : State) → LeavesOtherGroups d g s t → LeavesOtherGroups d g t u → LeavesOtherGroups d g s u
leaves_on d g s t u a b = record { items = λ i n. b.items i n ∙ a.items i n; epochs = λ h n. b.epochs h n ∙ a.epochs h n }
