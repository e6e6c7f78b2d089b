-- The touches of an event: of one cell, or of four one after another.
use Rattle.std.proofs.Common.{◌≡◌, ◌<◌, ◌≤◌, ◌+◌, ◌*◌, ◌++◌, ◌∷◌, ℕ, zero, suc, Bool, true, false, List, [], map, Some, None, refl, sym, ap, ◌∙◌, subst, ⊎_elim, inl, arith, append_assoc}
use Rattle.std.specs.Prelude.{slice_get}
use Rattle.kernel_tree.specs.declared.events.Event.{Event}
use Rattle.kernel_tree.specs.declared.events.Event.TheVariants.{Step}
use Rattle.kernel_tree.specs.Code.{Array}
use Rattle.kernel_tree.specs.Device.{Device, Cell, State, behind, four_cells, run}
use Rattle.kernel_tree.specs.Faults.{Access, Among, IsRace, accesses, accesses_of}
use Rattle.kernel_tree.specs.Seen.{RacesIn}
use Rattle.race_marks.specs.declared.marks.Touch.{Touch}
use Rattle.race_marks.specs.Tells.{Epochs, RacesAmong, AreLawful}
use Rattle.race_marks.specs.Marked.{Marked, TellOf, touched_cell, touch_of, TracksCell, Touches, TracksAccess, TracksFour}
use Rattle.std.proofs.lemmas.Bool.{cases_eq}
use Rattle.std.proofs.lemmas.List.{append-nil}
use Rattle.kernel_tree.proofs.Confluence.{among-append, among-left, among-right}
use Rattle.race_marks.proofs.Runs.{lawful, told_step, accesses_with}

-- a touch of one cell
pub one_touch : (old new : Marked) (a : Array) (i : ℕ) (t : Touch) (races : Bool) → TracksCell old a i t races new → TracksAccess old a i t races new
one_touch old new a i t races told d s es marks touches lt =
    let xs = accesses d s es in
    let E = (run d s es).epochs in
    let b = touch_of t E (touched_cell a i t) in
    let lawful : AreLawful (xs ++ b ∷ []) = subst AreLawful (sym (accesses_with d s es t.item) ∙ ap (λ z. xs ++ z) touches.are) (lawful d s (es ++ Step t.item ∷ []) touches.reads) in
    let tracks = told d xs E marks lawful lt in
    record {
      exact = (
        λ q. let r = tracks.exact.0 q in (r.0, b, r.1, subst (Among b) (sym touches.are) (inl refl), r.2),
        λ q. tracks.exact.1 (q.0, q.2, subst (IsRace q.0) (only b q.1 (subst (Among q.1) touches.are q.3)) q.4),
      );
      goes_on = λ ok. told_step d s es t.item (λ ys F. TellOf d ys F new) (subst (λ z. TellOf d (xs ++ z) E new) (sym touches.are) (tracks.goes_on ok));
    }
  where
    only : (b c : Access) → Among c (b ∷ []) → c ≡ b
    only b c h = ⊎_elim (λ e. e) (λ z. absurd z) h

-- the touches of the first n cells of four
abbrev pub first_lanes : Touch → Epochs → Cell → ℕ → List Access
first_lanes t E c zero = []
first_lanes t E c (suc n) = first_lanes t E c n ++ touch_of t E (behind n c) ∷ []

behind_none : (c : Cell) → behind 0 c ≡ c
behind_none c = let e : c.index + 0 ≡ c.index = omega arith in ap (λ n. record { array = c.array; home = c.home; index = n }) e

module _ (t : Touch) (E : Epochs) (c : Cell) where
  four_lanes : map (touch_of t E) (four_cells c) ≡ first_lanes t E c 4
  four_lanes = ap (λ z. touch_of t E z ∷ touch_of t E (behind 1 c) ∷ touch_of t E (behind 2 c) ∷ touch_of t E (behind 3 c) ∷ []) (sym (behind_none c))

  lane_at : (n : ℕ) → n < 4 → slice_get (first_lanes t E c 4) n ≡ Some (touch_of t E (behind n c))
  lane_at zero lt = refl
  lane_at (suc zero) lt = refl
  lane_at (suc (suc zero)) lt = refl
  lane_at (suc (suc (suc zero))) lt = refl
  lane_at (suc (suc (suc (suc n)))) lt = absurd (omega arith)

  lane_among : (b : Access) → Among b (first_lanes t E c 4) → (n : ℕ) × (n < 4) × (b ≡ touch_of t E (behind n c))
  lane_among b h =
      ⊎_elim (λ e. (0, omega arith, e)) (λ r. ⊎_elim (λ e. (1, omega arith, e)) (λ q. ⊎_elim (λ e. (2, omega arith, e)) (λ p. ⊎_elim (λ e. (3, omega arith, e)) (λ z. absurd z) p) q) r) h

  lane_item : (n : ℕ) (a : Access) → Among a (first_lanes t E c n) → a.item ≡ t.item
  lane_item zero a h = absurd h
  lane_item (suc n) a h =
      ⊎_elim (λ r. lane_item n a r) (λ r. ⊎_elim (λ e. ap (λ (z : Access). z.item) e) (λ z. absurd z) r) (among-append a (first_lanes t E c n) (touch_of t E (behind n c) ∷ []) h)

  more_lanes : (m n : ℕ) → m ≤ n → (a : Access) → Among a (first_lanes t E c m) → Among a (first_lanes t E c n)
  more_lanes m zero le a h = let e : m ≡ 0 = omega arith in subst (λ z. Among a (first_lanes t E c z)) e h
  more_lanes m (suc n) le a h =
      ⊎_elim
      (λ e. subst (λ z. Among a (first_lanes t E c z)) e h)
      (λ ne. among-left a (first_lanes t E c n) (touch_of t E (behind n c) ∷ []) (more_lanes m n (omega arith) a h))
      (cases_eq m (suc n))

  module _ (xs : List Access) where
    -- the lanes of one event don't race with one another
    races_back : (n m : ℕ) → RacesAmong (xs ++ first_lanes t E c n) (touch_of t E (behind m c)) → RacesAmong xs (touch_of t E (behind m c))
    races_back n m r = (r.0, ⊎_elim (λ p. p) (λ p. absurd (r.2.items (lane_item n r.0 p))) (among-append r.0 xs (first_lanes t E c n) r.1), r.2)

    with_next : (n : ℕ) → (xs ++ first_lanes t E c n) ++ touch_of t E (behind n c) ∷ [] ≡ xs ++ first_lanes t E c (suc n)
    with_next n = append_assoc xs (first_lanes t E c n) (touch_of t E (behind n c) ∷ [])

    lawful_to : (n : ℕ) → n < 4 → AreLawful (xs ++ first_lanes t E c 4) → AreLawful ((xs ++ first_lanes t E c n) ++ touch_of t E (behind n c) ∷ [])
    lawful_to n lt h = subst AreLawful (sym (with_next n)) (record {
      grouped = λ a b p q e. h.grouped a b (in_all a p) (in_all b q) e;
      at_home = λ a p. h.at_home a (in_all a p);
      reads = λ a k p e. h.reads a k (in_all a p) e;
    })
      where
        in_all : (a : Access) → Among a (xs ++ first_lanes t E c (suc n)) → Among a (xs ++ first_lanes t E c 4)
        in_all a p =
            ⊎_elim
            (λ q. among-left a xs (first_lanes t E c 4) q)
            (λ q. among-right a xs (first_lanes t E c 4) (more_lanes (suc n) 4 (omega arith) a q))
            (among-append a xs (first_lanes t E c (suc n)) p)

-- the first lanes are noted, and none of them is a race
pub record Clear (d : Device) (xs : List Access) (t : Touch) (E : Epochs) (c : Cell) (n : ℕ) (m : Marked) : Type 0 where
  pub tell : TellOf d (xs ++ first_lanes t E c n) E m
  pub none : (i : ℕ) → i < n → RacesAmong xs (touch_of t E (behind i c)) → ⊥

abbrev pub ClearTo : (old : Marked) → Array → (offset : ℕ) → Touch → (n : ℕ) → (now : Marked) → Type 0
ClearTo old a k t n now = (d : Device) (xs : List Access) (E : Epochs)
    → TellOf d xs E old → AreLawful (xs ++ first_lanes t E (touched_cell a (4 * k) t) 4) → 4 * k + 3 < d.lengths a
    → Clear d xs t E (touched_cell a (4 * k) t) n now

module _ (old : Marked) (a : Array) (k : ℕ) (t : Touch) where
  abbrev first : Cell
  first = touched_cell a (4 * k) t

  pub clear_start : ClearTo old a k t 0 old
  clear_start d xs E marks lawful lt = record { tell = subst (λ z. TellOf d z E old) (sym (append-nil xs)) marks; none = λ i low r. absurd (omega arith) }

  pub clear_on : (n : ℕ) (now new : Marked) → n < 4 → ClearTo old a k t n now → TracksCell now a (4 * k + n) t false new → ClearTo old a k t (n + 1) new
  clear_on n now new low before told d xs E marks lawful lt =
      let clear = before d xs E marks lawful lt in
      let tracks = told d (xs ++ first_lanes t E first n) E clear.tell (lawful_to t E first xs n low lawful) (omega arith) in
      let next : n + 1 ≡ suc n = omega arith in
      subst (λ z. Clear d xs t E first z new) (sym next)
      (record {
        tell = subst (λ z. TellOf d z E new) (with_next t E first xs n) (tracks.goes_on refl);
        none = λ i small r. ⊎_elim
            (λ e. let both : false ≡ true = tracks.exact.1 (subst (λ z. RacesAmong (xs ++ first_lanes t E first n) (touch_of t E (behind z first))) e (r.0, among-left r.0 xs (first_lanes t E first n) r.1, r.2)) in let no : ⊥ = cc in no)
            (λ ne. clear.none i (omega arith) r)
            (cases_eq i n);
      })

  -- of a step that touches the four cells
  module _ (d : Device) (s : State) (es : List Event) (touches : Touches d s es t (four_cells (touched_cell a (4 * k) t))) where
    abbrev E : Epochs
    E = (run d s es).epochs

    made : accesses_of d (run d s es) (Step t.item) ≡ first_lanes t E first 4
    made = touches.are ∙ four_lanes t E first

    all_lawful : AreLawful (accesses d s es ++ first_lanes t E first 4)
    all_lawful = subst AreLawful (sym (accesses_with d s es t.item) ∙ ap (λ z. accesses d s es ++ z) made) (lawful d s (es ++ Step t.item ∷ []) touches.reads)

    races_in : (n : ℕ) → n < 4 → RacesAmong (accesses d s es) (touch_of t E (behind n first)) → RacesIn d s es (Step t.item) n
    races_in n low r = (r.0, touch_of t E (behind n first), r.1, ap (λ z. slice_get z n) made ∙ lane_at t E first n low, r.2)

    in_races : (n : ℕ) → n < 4 → RacesIn d s es (Step t.item) n → RacesAmong (accesses d s es) (touch_of t E (behind n first))
    in_races n low r =
        let same : Some r.1 ≡ Some (touch_of t E (behind n first)) = sym r.3 ∙ ap (λ z. slice_get z n) made ∙ lane_at t E first n low in
        let it : r.1 ≡ touch_of t E (behind n first) = cc in
        (r.0, r.2, subst (IsRace r.0) it r.4)

  pub lane_races : (n : ℕ) (now new : Marked) → n < 4 → ClearTo old a k t n now → TracksCell now a (4 * k + n) t true new → TracksFour old a k t (Some n) new
  lane_races n now new low before told d s es marks touches lt =
      let xs = accesses d s es in
      let F = (run d s es).epochs in
      let all = all_lawful d s es touches in
      let clear = before d xs F marks all lt in
      let tracks = told d (xs ++ first_lanes t F first n) F clear.tell (lawful_to t F first xs n low all) (omega arith) in (
        races_in d s es touches n low (races_back t F first xs n n (tracks.exact.0 refl)),
        λ i small r. clear.none i small (in_races d s es touches i (omega arith) r),
      )

  pub none_races : (new : Marked) → ClearTo old a k t 4 new → TracksFour old a k t None new
  none_races new told d s es marks touches lt =
      let xs = accesses d s es in
      let F = (run d s es).epochs in
      let clear = told d xs F marks (all_lawful d s es touches) lt in
      record {
        exact = (
          λ q. absurd (let both : false ≡ true = q in let n : ⊥ = cc in n),
          λ q. absurd (let lane = lane_among t F first q.1 (subst (Among q.1) (made d s es touches) q.3) in clear.none lane.0 lane.1 (q.0, q.2, subst (IsRace q.0) lane.2 q.4)),
        );
        goes_on = λ ok. told_step d s es t.item (λ ys G. TellOf d ys G new) (subst (λ z. TellOf d (xs ++ z) F new) (sym (made d s es touches)) clear.tell);
      }
