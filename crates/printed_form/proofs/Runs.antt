-- Stretches of one item, one after another.
use Rattle.std.proofs.Common.{◌≡◌, ℕ, ◌≤◌, Bool, true, List, [], ◌∷◌, ◌++◌, Option, refl, sym, ap, ◌∙◌, subst, ⊎_elim, inl, inr, arith}
use Rattle.std.specs.Prelude.{◌+◌, if◌then◌else◌}
use Rattle.std.proofs.lemmas.List.{get_or-set_other, length-set}
use Rattle.kernel_tree.specs.Formula.{Formula, Lanes, Four, Vars, set_word, set_vector, spread}
use Rattle.kernel_tree.specs.Code.{Array, Input, Output, Local, Private, Code}
use Rattle.kernel_tree.specs.Item.{Frame, item}
use Rattle.kernel_tree.specs.Device.{Cell, behind, cell_at, Memory, same_cell}
use Rattle.kernel_tree.specs.Deeds.{Deed, Moved, Got, Gave, GotFour, GaveFour, WritesTo, written}
use Rattle.kernel_tree.specs.Independent.{Owners, IsAllowed, Agrees, one_if_same, write_count}
use Rattle.kernel_tree.proofs.Confluence.{same_cell-itself}
use Rattle.kernel_tree.proofs.Deeds.{goes_on}
use Rattle.kernel_tree.proofs.Independent.{written-same, written-append, written-kept}
use Rattle.kernel_tree.proofs.Turns.{every-append, write_count-append}
use Rattle.lift_ir.specs.Types.{Ty}
use Rattle.lift_ir.specs.Scalars.{Scalars}
use Rattle.printed_form.specs.Marks.{Mark, Nowhere, Register, Lane, Spot, Marks}
use Rattle.printed_form.specs.Counts.{Count, AtMost, more, no_variables}
use Rattle.printed_form.specs.Expressions.{Expr}
use Rattle.printed_form.specs.Runs.{lane, Fits, HasValue, HasLanes, Values, Setting, Known, Kept, IsFilled, Later, HoldsAt, Holds, AllHold, Wrote, nothing, no_target, known_after, Ran, Apart}

-- counts

pub count_same : (n m : Count) → n.words ≡ m.words → n.fours ≡ m.fours → n ≡ m
count_same n m p q =
    let F : ℕ → ℕ → Count = λ a b. record { words = a; fours = b } in
    ap (λ a. F a n.fours) p ∙ ap (λ b. F m.words b) q

pub more_none : (n : Count) → n ≡ more n no_variables
more_none n = count_same n (more n no_variables) (omega arith) (omega arith)

pub more_more : (n a b : Count) → more (more n a) b ≡ more n (more a b)
more_more n a b = count_same (more (more n a) b) (more n (more a b)) (omega arith) (omega arith)

pub at_most : {n m : Count} → n.words ≤ m.words → n.fours ≤ m.fours → AtMost n m
at_most p q = record { words = p; fours = q }

pub as_many : (n : Count) → AtMost n n
as_many n = at_most (omega arith) (omega arith)

pub many_more : (n a : Count) → AtMost n (more n a)
many_more n a = at_most (omega arith) (omega arith)

pub at_most_of : {n m k : Count} → AtMost m k → n.words ≤ m.words → n.fours ≤ m.fours → AtMost n k
at_most_of h p q = let a = h.words in let b = h.fours in at_most (omega arith) (omega arith)

-- fewer are there, and as many later
pub fewer : {n m : Count} {vars : Vars} → Fits m vars → n.words ≤ m.words → n.fours ≤ m.fours → Fits n vars
fewer h p q = let a = h.words in let b = h.fours in record { words = omega arith; fours = omega arith }

pub fits_later : {n k : Count} {vars later : Vars} → Fits n vars → Kept k vars later → Fits n later
fits_later {n = n} h k = record { words = subst (λ z. n.words ≤ z) (sym k.long) h.words; fours = subst (λ z. n.fours ≤ z) (sym k.wide) h.fours }

pub fewer_later : {n m k : Count} {vars later : Vars} → Fits m vars → Kept k vars later → n.words ≤ m.words → n.fours ≤ m.fours → Fits n later
fewer_later h k p q = fits_later (fewer h p q) k

-- variables

pub kept : (n : Count) (a : Vars) → Kept n a a
kept n a = record { long = refl; wide = refl; same = λ v lt. refl; same_four = λ v lt. refl }

pub kept_on : (n k : Count) (a b c : Vars) → n.words ≤ k.words → n.fours ≤ k.fours → Kept n a b → Kept k b c → Kept n a c
kept_on n k a b c le lf x y = record {
  long = y.long ∙ x.long;
  wide = y.wide ∙ x.wide;
  same = λ v lt. y.same v (omega arith) ∙ x.same v lt;
  same_four = λ v lt. y.same_four v (omega arith) ∙ x.same_four v lt;
}

pub kept_less : (n k : Count) (a b : Vars) → n.words ≤ k.words → n.fours ≤ k.fours → Kept k a b → Kept n a b
kept_less n k a b le lf x = record { long = x.long; wide = x.wide; same = λ v lt. x.same v (omega arith); same_four = λ v lt. x.same_four v (omega arith) }

pub kept_set : (n : Count) (v x : ℕ) (a : Vars) → n.words ≤ v → Kept n a (set_word a v x)
kept_set n v x a le = record {
  long = length-set a.words v x;
  wide = refl;
  same = λ w lt. get_or-set_other a.words v w x 0 (λ e. absurd (omega arith));
  same_four = λ w lt. refl;
}

pub kept_set_four : (n : Count) (v : ℕ) (u : Four) (a : Vars) → n.fours ≤ v → Kept n a (set_vector a v u)
kept_set_four n v u a le = record {
  long = refl;
  wide = length-set a.vectors v u;
  same = λ w lt. refl;
  same_four = λ w lt. get_or-set_other a.vectors v w u (spread 0) (λ e. absurd (omega arith));
}

-- what is known

pub filled_more : (l a b : ℕ) (x : Array) → a ≤ b → IsFilled l a x → IsFilled l b x
filled_more l a b (Input n) le h = tt
filled_more l a b (Output n) le h = absurd h
filled_more l a b (Local n) le h = h
filled_more l a b (Private n) le h = omega arith

-- the same run, of which something else is told
pub ran_so : {st : Setting} {x : Known} {fs : List Frame} {code rest : Code} {n : Count} {a : ℕ} {S : Cell → Type 0} {T : Cell → ℕ → Type 0} {G H : Known → Type 0} (r : Ran st x fs code rest n a S T G) → H (known_after x r.deeds r.after n a) → Ran st x fs code rest n a S T H
ran_so r good = record { after = r.after; deeds = r.deeds; goes = r.goes; later = r.later; allowed = r.allowed; wrote = r.wrote; good = good }

module _ (st : Setting) where
  pub later_same : (x : Known) → Later st x x
  later_same x = record { more = omega arith; more_fours = omega arith; more_arrays = omega arith; kept = kept x.count x.vars; same = λ c f. refl }

  pub later_on : (x y z : Known) → Later st x y → Later st y z → Later st x z
  later_on x y z a b = record {
    more = let p = a.more in let q = b.more in omega arith;
    more_fours = let p = a.more_fours in let q = b.more_fours in omega arith;
    more_arrays = let p = a.more_arrays in let q = b.more_arrays in omega arith;
    kept = kept_on x.count y.count x.vars y.vars z.vars a.more a.more_fours a.kept b.kept;
    same = λ c f. b.same c (filled_more st.locals x.arrays y.arrays c.array a.more_arrays f) ∙ a.same c f;
  }

  pub holds_at_later : (x y : Known) (m : Mark) (v : ℕ) → Later st x y → HoldsAt st x m v → HoldsAt st y m v
  holds_at_later x y Nowhere v r h = h
  holds_at_later x y (Register w) v r h = (let p = r.more in let q = h.0 in omega arith, r.kept.same w h.0 ∙ h.1)
  holds_at_later x y (Lane w j) v r h = (let p = r.more_fours in let q = h.0 in omega arith, ap (λ u. lane u j) (r.kept.same_four w h.0) ∙ h.1)
  holds_at_later x y (Spot b i) v r h = record {
    within = h.within;
    may = h.may;
    filled = filled_more st.locals x.arrays y.arrays b r.more_arrays h.filled;
    holds = r.same (cell_at st.device.launch st.item b i) h.filled ∙ h.holds;
  }

  pub holds_later : (x y : Known) (t : Ty) (e : Marks) (s : Scalars) → Later st x y → Holds st x t e s → Holds st y t e s
  holds_later x y t e s r h cs q w = holds_at_later x y (e cs q) (s cs q) r (h cs q w)

  pub all_hold_later : (x y : Known) (g : ℕ → Ty) (env : ℕ → Marks) (sems : ℕ → Scalars) → Later st x y → AllHold st x g env sems → AllHold st y g env sems
  all_hold_later x y g env sems r h v = holds_later x y (g v) (env v) (sems v) r (h v)

  pub value_later : (ts : List ℕ) (x y : Known) (e : Formula) (n : ℕ) → Later st x y → HasValue st ts x e n → HasValue st ts y e n
  value_later ts x y e n r h later k = h later (kept_on x.count y.count x.vars y.vars later r.more r.more_fours r.kept k)

  pub lanes_later : (ts : List ℕ) (x y : Known) (e : Lanes) (s : ℕ → ℕ) → Later st x y → HasLanes st ts x e s → HasLanes st ts y e s
  lanes_later ts x y e s r h later k = h later (kept_on x.count y.count x.vars y.vars later r.more r.more_fours r.kept k)

  pub values_later : (ts : List ℕ) (x y : Known) (t : Ty) (f : List Bool → Option Expr) (s : Scalars) → Later st x y → Values st ts x t f s → Values st ts y t f s
  values_later ts x y t f s r h = (λ cs e w q. value_later ts x y e (s cs []) r (h.0 cs e w q), λ cs e w q. lanes_later ts x y e (λ j. s cs (j ∷ [])) r (h.1 cs e w q))

-- what deeds write

pub one_here : (b c : Cell) → c ≡ b → one_if_same b c ≡ 1
one_here b c e = ap (λ y. if y then 1 else 0) (subst (λ x. same_cell b x ≡ true) (sym e) (same_cell-itself b))

here_too : (b c : Cell) → one_if_same b c ≡ 0 → c ≡ b → ⊥
here_too b c h e = both (one_if_same b c) (one_here b c e) h
  where
    both : (n : ℕ) → n ≡ 1 → n ≡ 0 → ⊥
    both n p q = omega arith

all_none : (p q r s n : ℕ) → (p + (q + (r + s))) + n ≡ 0 → (p ≡ 0) × (q ≡ 0) × (r ≡ 0) × (s ≡ 0) × (n ≡ 0)
all_none p q r s n h = (omega arith, omega arith, omega arith, omega arith, omega arith)

no-writes : (ds : List Deed) (c : Cell) → write_count c ds ≡ 0 → WritesTo c ds → ⊥
no-writes [] c h w = w
no-writes (Moved ∷ ds) c h w = no-writes ds c h w
no-writes (Got b ∷ ds) c h w = no-writes ds c h w
no-writes (GotFour b ∷ ds) c h w = no-writes ds c h w
no-writes (Gave b v ∷ ds) c h w =
    let n : ℕ = if same_cell b c then 1 else 0 in
    ⊎_elim
    (λ e. here_too b c (let z : n ≡ 0 = omega arith in z) e)
    (λ r. no-writes ds c (omega arith) r)
    w
no-writes (GaveFour b u ∷ ds) c h w =
    let z = all_none (one_if_same b c) (one_if_same (behind 1 b) c) (one_if_same (behind 2 b) c) (one_if_same (behind 3 b) c) (write_count c ds) h in
    ⊎_elim
    (λ i. ⊎_elim (here_too b c z.0) (λ j. ⊎_elim (here_too (behind 1 b) c z.1) (λ m. ⊎_elim (here_too (behind 2 b) c z.2) (λ n. ⊎_elim (here_too (behind 3 b) c z.3) (λ none. none) n) m) j) i)
    (λ r. no-writes ds c z.4 r)
    w

pub count-kept : (ds : List Deed) (m : Memory) (c : Cell) → write_count c ds ≡ 0 → written ds m c ≡ m c
count-kept ds m c h = written-kept ds m c (no-writes ds c h)

pub silent : (m : Memory) (ds : List Deed) → ((c : Cell) → write_count c ds ≡ 0) → Wrote nothing no_target m ds
silent m ds h = record { once = λ c v t. absurd t; holds = λ c v t. absurd t; quiet = λ c s t. h c }

module _ {S1 : Cell → Type 0} {T1 : Cell → ℕ → Type 0} {S2 : Cell → Type 0} {T2 : Cell → ℕ → Type 0} {S : Cell → Type 0} {T : Cell → ℕ → Type 0} where
  pub wrote_on : (m : Memory) (ds es : List Deed) → Apart S1 T1 S2 T2 S T → Wrote S1 T1 m ds → Wrote S2 T2 (written ds m) es → Wrote S T m (ds ++ es)
  wrote_on m ds es p x y = record {
    once = λ c v t.
        let a = write_count-append c ds es in
        ⊎_elim
        (λ l. let b = x.once c v l in let e = y.quiet c (p.first_kept c v l) (λ u. p.targets c v u l) in omega arith)
        (λ r. let b = y.once c v r in let e = x.quiet c (p.second_free c v r) (λ u l. p.targets c u v l r) in omega arith)
        (p.parts c v t);
    holds = λ c v t.
        ap (λ f. f c) (written-append ds es m)
        ∙ ⊎_elim
        (λ l. count-kept es (written ds m) c (y.quiet c (p.first_kept c v l) (λ u. p.targets c v u l)) ∙ x.holds c v l)
        (λ r. y.holds c v r)
        (p.parts c v t);
    quiet = λ c s t.
        let a = write_count-append c ds es in
        let b = x.quiet c (λ h. s (p.scratch_first c h)) (λ v h. t v (p.target_first c v h)) in
        let e = y.quiet c (λ h. s (p.scratch_second c h)) (λ v h. t v (p.target_second c v h)) in
        omega arith;
  }

pub agrees_on : (o : Owners) (k : ℕ) (m n : Memory) (ds : List Deed) → Agrees o k m n → Agrees o k (written ds m) (written ds n)
agrees_on o k m n ds h c may = written-same ds n m c (h c may)

module _ (st : Setting) {S1 : Cell → Type 0} {T1 : Cell → ℕ → Type 0} {S2 : Cell → Type 0} {T2 : Cell → ℕ → Type 0} {S : Cell → Type 0} {T : Cell → ℕ → Type 0} {G1 : Known → Type 0} {G2 : Known → Type 0} where
  -- one stretch after another
  pub ran_on : (x : Known) (fs : List Frame) (code mid rest : Code) (n1 : Count) (a1 : ℕ) (n : Count) (a : ℕ) → Apart S1 T1 S2 T2 S T → (r : Ran st x fs code mid n1 a1 S1 T1 G1) → Ran st (known_after x r.deeds r.after n1 a1) fs mid rest n a S2 T2 G2 → Ran st x fs code rest n a S T G2
  ran_on x fs code mid rest n1 a1 n a p r r2 =
      let y = known_after x r.deeds r.after n1 a1 in
      let e = sym (written-append r.deeds r2.deeds x.memory) in
      let at = λ (m : Memory). let z : Known = record { memory = m; vars = r2.after; count = n; arrays = a } in z in
      record {
        after = r2.after;
        deeds = r.deeds ++ r2.deeds;
        goes = λ m ag. goes_on st.device st.item _ _ _ m r.deeds r2.deeds (r.goes m ag) (r2.goes (written r.deeds m) (agrees_on st.owners st.item x.memory m r.deeds ag));
        later = subst (λ m. Later st x (at m)) e (later_on st x y (known_after y r2.deeds r2.after n a) r.later r2.later);
        allowed = every-append (IsAllowed st.owners st.item) r.deeds r2.deeds r.allowed r2.allowed;
        wrote = wrote_on x.memory r.deeds r2.deeds p r.wrote r2.wrote;
        good = subst (λ m. G2 (at m)) e r2.good;
      }

-- after or before a stretch that writes nothing
pub after_silence : {S : Cell → Type 0} {T : Cell → ℕ → Type 0} → Apart nothing no_target S T S T
after_silence = record {
  targets = λ c v u a b. absurd a;
  first_kept = λ c v a b. absurd a;
  second_free = λ c v a b. absurd b;
  scratch_first = λ c a. absurd a;
  scratch_second = λ c a. a;
  target_first = λ c v a. absurd a;
  target_second = λ c v a. a;
  parts = λ c v a. inr a;
}

pub before_silence : {S : Cell → Type 0} {T : Cell → ℕ → Type 0} → Apart S T nothing no_target S T
before_silence = record {
  targets = λ c v u a b. absurd b;
  first_kept = λ c v a b. absurd b;
  second_free = λ c v a b. absurd a;
  scratch_first = λ c a. a;
  scratch_second = λ c a. absurd a;
  target_first = λ c v a. a;
  target_second = λ c v a. absurd a;
  parts = λ c v a. inl a;
}

-- at once
pub ran_at_once : (st : Setting) (x : Known) (fs : List Frame) (code rest : Code) (G : Known → Type 0) → code ≡ rest → G x → Ran st x fs code rest x.count x.arrays nothing no_target G
ran_at_once st x fs code rest G e g = record {
  after = x.vars;
  deeds = [];
  goes = λ m ag. ap (λ c. item c fs x.vars) e;
  later = later_same st x;
  allowed = tt;
  wrote = silent x.memory [] (λ c. refl);
  good = g;
}
