-- Marks of cells in rows along a run.
use Rattle.std.proofs.Common.{◌≡◌, ◌↔◌, ◌<◌, ◌++◌, ◌∷◌, ℕ, Bool, true, false, List, [], length, map, set, replicate, Option, Some, None, refl, sym, ap, ◌∙◌, subst, ⊎_elim, arith}
use Rattle.std.specs.Prelude.{◌&&◌, nat_lt, slice_index, slice_index_or, if◌then◌else◌, IsTrue}
use Rattle.std.proofs.Math.ListN.{length-set}
use Rattle.std.proofs.lemmas.Bool.{lt-ltb}
use Rattle.std.proofs.lemmas.List.{length-map, length-replicate}
use Rattle.kernel_tree.specs.declared.events.Event.{Event}
use Rattle.kernel_tree.specs.declared.events.Event.TheVariants.{Release}
use Rattle.kernel_tree.specs.Code.{Array, Input, Output, Local, Private}
use Rattle.kernel_tree.specs.Launch.{group_count, first_item}
use Rattle.kernel_tree.specs.Device.{Device, Cell, Fence, LocalFence, GlobalFence, fence_of, fence_of_array, home, State, has_flag, is_flagged, wants, run}
use Rattle.kernel_tree.specs.Faults.{Access, accesses}
use Rattle.race_marks.specs.Marks.{Untouched, races, noted, released}
use Rattle.race_marks.specs.Tells.{Epochs, TellsOf, TellAll, HasPlaces, MayFollow, RacesAmong, AreLawful}
use Rattle.race_marks.specs.declared.marks.Touch.{Touch}
use Rattle.race_marks.specs.Rows.{Shape, cell_count, is_placed, place_at}
use Rattle.race_marks.specs.Tracked.{Kept, mark_at, is_race, with_access, touched, after_release}
use Rattle.race_marks.specs.Laws.{MarksStay}
use Rattle.race_marks.specs.Marked.{Marked, output_row, local_row, is_known_at, place_of_row, is_known, place, Tells, TellOf, MarksTell, touched_cell, touch_of, Tracks, TracksCell}
use Rattle.race_marks.proofs.Laid.{within, apart}
use Rattle.race_marks.proofs.Lists.{is_last, told_exact}
use Rattle.race_marks.proofs.Runs.{told_step}
use Rattle.race_marks.proofs.All.{all_begin, all_access, all_elsewhere, all_release}
use Rattle.kernel_tree.proofs.Confluence.{among-left}
use Rattle.std.proofs.lemmas.List.{append-nil}

-- arrays of one kind are told apart by their rows
abbrev Distinct : (Array → Option ℕ) → Type 0
Distinct row = (a b : Array) (r : ℕ) → row a ≡ Some r → row b ≡ Some r → a ≡ b

distinct_outputs : Distinct output_row
distinct_outputs (Output a) (Output b) r p q = let e : a ≡ r = cc in let f : b ≡ r = cc in ap Output (e ∙ sym f)
distinct_outputs (Output a) (Input b) r p q = cc
distinct_outputs (Output a) (Local b) r p q = cc
distinct_outputs (Output a) (Private b) r p q = cc
distinct_outputs (Input a) b r p q = cc
distinct_outputs (Local a) b r p q = cc
distinct_outputs (Private a) b r p q = cc

distinct_locals : Distinct local_row
distinct_locals (Local a) (Local b) r p q = let e : a ≡ r = cc in let f : b ≡ r = cc in ap Local (e ∙ sym f)
distinct_locals (Local a) (Input b) r p q = cc
distinct_locals (Local a) (Output b) r p q = cc
distinct_locals (Local a) (Private b) r p q = cc
distinct_locals (Input a) b r p q = cc
distinct_locals (Output a) b r p q = cc
distinct_locals (Private a) b r p q = cc

module _ (row : Array → Option ℕ) (distinct : Distinct row) (v : Kept) where
  -- the row of a known cell
  row_of : (c : Cell) → is_known row v c ≡ true → (r : ℕ) × (row c.array ≡ Some r) × (is_placed v.shape r c.home c.index ≡ true)
  row_of c k = by_row (row c.array) refl k
    where
      by_row : (o : Option ℕ) → row c.array ≡ o → is_known_at v c o ≡ true → (r : ℕ) × (row c.array ≡ Some r) × (is_placed v.shape r c.home c.index ≡ true)
      by_row None e h = cc
      by_row (Some r) e h = (r, e, h)

  has_places : length v.marks ≡ cell_count v.shape → HasPlaces (is_known row v) (place row v) (length v.marks)
  has_places whole = record {
    within = λ c k. let r = row_of c k in let lt = within v.shape r.0 c.home c.index r.2 in let e : place row v c ≡ place_at v.shape r.0 c.home c.index = ap (place_of_row v c) r.1 in omega arith;
    apart = λ b c kb kc e.
        let r = row_of b kb in
        let q = row_of c kc in
        let same = apart v.shape r.0 b.home b.index q.0 c.home c.index r.2 q.2 (sym (ap (place_of_row v b) r.1) ∙ e ∙ ap (place_of_row v c) q.1) in
        let array : b.array ≡ c.array = distinct b.array c.array r.0 r.1 (q.1 ∙ ap Some (sym same.0)) in
        ap (λ z. record { array = z; home = b.home; index = b.index }) array
        ∙ ap (λ z. record { array = c.array; home = z; index = b.index }) same.1
        ∙ ap (λ z. record { array = c.array; home = c.home; index = z }) same.2;
  }

-- the marks of no access
tells_none : (E : Epochs) (row : Array → Option ℕ) (v : Kept) → v.marks ≡ replicate (cell_count v.shape) Untouched → Tells [] E row v
tells_none E row v e = record {
  whole = ap length e ∙ length-replicate (cell_count v.shape) Untouched;
  tell = subst (TellAll [] E (is_known row v) (place row v)) (sym e) (all_begin E (is_known row v) (place row v) (cell_count v.shape));
}

touched_shape : (v : Kept) (r h i : ℕ) (x : Touch) → (touched v r h i x).shape ≡ v.shape
touched_shape v r h i x = by_tests (is_placed v.shape r h i) (races (mark_at v r h i) x.group x.item x.writes)
  where
    by_tests : (p q : Bool) → (if p then (if q then v else with_access v r h i x) else v).shape ≡ v.shape
    by_tests true true = refl
    by_tests true false = refl
    by_tests false q = refl

-- a lawful access may come after those before it
follows : (xs : List Access) (E : Epochs) (x : Touch) (c : Cell) → AreLawful (xs ++ touch_of x E c ∷ []) → MayFollow xs E (touch_of x E c)
follows xs E x c h = record { now = refl; grouped = λ a p e. h.grouped a (touch_of x E c) (among-left a xs (touch_of x E c ∷ []) p) (is_last xs (touch_of x E c)) e }

module _ (xs : List Access) (E : Epochs) (array : Array) (h i : ℕ) (x : Touch) where
  abbrev its_cell : Cell
  its_cell = record { array = array; home = h; index = i }

  abbrev its_access : Access
  its_access = touch_of x E its_cell

  -- a touch of one of the cells
  module _ (row : Array → Option ℕ) (distinct : Distinct row) (v : Kept) (t : Tells xs E row v) (r : ℕ) (is : row array ≡ Some r) (placed : is_placed v.shape r h i ≡ true) (may : MayFollow xs E its_access) where
    known : is_known row v its_cell ≡ true
    known = ap (is_known_at v its_cell) is ∙ placed

    there : place row v its_cell ≡ place_at v.shape r h i
    there = ap (place_of_row v its_cell) is

    its_race : is_race v r h i x ≡ races (mark_at v r h i) x.group x.item x.writes
    its_race = ap (λ z. z && races (mark_at v r h i) x.group x.item x.writes) placed

    tracks_exact : IsTrue (is_race v r h i x) ↔ RacesAmong xs its_access
    tracks_exact =
        let told = told_exact xs E its_access (mark_at v r h i) may (subst (λ p. TellsOf xs E its_cell (slice_index_or v.marks p Untouched)) there (t.tell its_cell known)) in
        (λ q. told.0 (sym its_race ∙ q), λ q. its_race ∙ told.1 q)

    tracks_on : is_race v r h i x ≡ false → Tells (xs ++ its_access ∷ []) E row (touched v r h i x)
    tracks_on ok =
        let clear : races (mark_at v r h i) x.group x.item x.writes ≡ false = sym its_race ∙ ok in
        let new : touched v r h i x ≡ with_access v r h i x =
        ap (λ z. if z then (if races (mark_at v r h i) x.group x.item x.writes then v else with_access v r h i x) else v) placed
        ∙ ap (λ z. if z then v else with_access v r h i x) clear in
        subst (Tells (xs ++ its_access ∷ []) E row) (sym new)
        (record {
          whole = length-set v.marks (place_at v.shape r h i) (noted (mark_at v r h i) x.group x.item x.writes) ∙ t.whole;
          tell =
              subst (λ p. TellAll (xs ++ its_access ∷ []) E (is_known row v) (place row v) (set v.marks p (noted (slice_index_or v.marks p Untouched) x.group x.item x.writes))) there
              (all_access xs E (is_known row v) (place row v) v.marks t.tell its_access may (has_places row distinct v t.whole) known (ap (λ p. races (slice_index_or v.marks p Untouched) x.group x.item x.writes) there ∙ clear));
        })

  -- the cells of other kinds of arrays
  tracks_other : (row : Array → Option ℕ) (v : Kept) → Tells xs E row v → row array ≡ None → Tells (xs ++ its_access ∷ []) E row v
  tracks_other row v t none = record {
    whole = t.whole;
    tell = all_elsewhere xs E (is_known row v) (place row v) v.marks t.tell its_access (ap (is_known_at v its_cell) none);
  }

-- a cell within its array
is_there : (v : Shape) (r h i n : ℕ) → h < v.homes → slice_index v.lengths r ≡ n → i < n → is_placed v r h i ≡ true
is_there v r h i n low e lt = ap (λ z. z && nat_lt i (slice_index v.lengths r)) (lt-ltb h v.homes low) ∙ ap (nat_lt i) e ∙ lt-ltb i n lt

module _ (d : Device) (xs : List Access) (E : Epochs) (m : Marked) (t : TellOf d xs E m) (i : ℕ) (x : Touch) where
  tracks_output : (a : ℕ) → MayFollow xs E (touch_of x E (touched_cell (Output a) i x)) → i < d.lengths (Output a) → Tracks d xs E (touch_of x E (touched_cell (Output a) i x)) (is_race m.outputs a 0 i x) (record { groups = m.groups; outputs = touched m.outputs a 0 i x; locals = m.locals })
  tracks_output a may lt =
      let placed = is_there m.outputs.shape a 0 i (d.lengths (Output a)) (let one = t.one_output in omega arith) (t.output_lengths a) lt in
      let shape = touched_shape m.outputs a 0 i x in
      record {
        exact = tracks_exact xs E (Output a) 0 i x output_row distinct_outputs m.outputs t.outputs a refl placed may;
        goes_on = λ ok. record {
          groups = t.groups;
          one_output = ap (λ (z : Shape). z.homes) shape ∙ t.one_output;
          each_group = t.each_group;
          output_lengths = λ q. ap (λ (z : Shape). slice_index z.lengths q) shape ∙ t.output_lengths q;
          local_lengths = t.local_lengths;
          outputs = tracks_on xs E (Output a) 0 i x output_row distinct_outputs m.outputs t.outputs a refl placed may ok;
          locals = tracks_other xs E (Output a) 0 i x local_row m.locals t.locals refl;
        };
      }

  tracks_local : (a : ℕ) → x.group < m.groups → MayFollow xs E (touch_of x E (touched_cell (Local a) i x)) → i < d.lengths (Local a) → Tracks d xs E (touch_of x E (touched_cell (Local a) i x)) (is_race m.locals a x.group i x) (record { groups = m.groups; outputs = m.outputs; locals = touched m.locals a x.group i x })
  tracks_local a low may lt =
      let placed = is_there m.locals.shape a x.group i (d.lengths (Local a)) (let n = t.each_group in let g = t.groups in omega arith) (t.local_lengths a) lt in
      let shape = touched_shape m.locals a x.group i x in
      record {
        exact = tracks_exact xs E (Local a) x.group i x local_row distinct_locals m.locals t.locals a refl placed may;
        goes_on = λ ok. record {
          groups = t.groups;
          one_output = t.one_output;
          each_group = ap (λ (z : Shape). z.homes) shape ∙ t.each_group;
          output_lengths = t.output_lengths;
          local_lengths = λ q. ap (λ (z : Shape). slice_index z.lengths q) shape ∙ t.local_lengths q;
          outputs = tracks_other xs E (Local a) x.group i x output_row m.outputs t.outputs refl;
          locals = tracks_on xs E (Local a) x.group i x local_row distinct_locals m.locals t.locals a refl placed may ok;
        };
      }

  -- where no access of the cell can be a race
  tracks_none : (a : Array) → output_row a ≡ None → local_row a ≡ None → (RacesAmong xs (touch_of x E (touched_cell a i x)) → ⊥) → Tracks d xs E (touch_of x E (touched_cell a i x)) false m
  tracks_none a p q clear = record {
    exact = (λ w. absurd (let both : false ≡ true = w in let n : ⊥ = cc in n), λ w. absurd (clear w));
    goes_on = λ ok. record {
      groups = t.groups;
      one_output = t.one_output;
      each_group = t.each_group;
      output_lengths = t.output_lengths;
      local_lengths = t.local_lengths;
      outputs = tracks_other xs E a (home x.group x.item a) i x output_row m.outputs t.outputs p;
      locals = tracks_other xs E a (home x.group x.item a) i x local_row m.locals t.locals q;
    };
  }

-- reads of one cell do not race, and an item's own cells are its own
module _ (xs : List Access) (E : Epochs) (x : Touch) (n i : ℕ) where
  not_both : (b : Bool) → b ≡ true → b ≡ false → ⊥
  not_both b p q = let e : true ≡ false = sym p ∙ q in cc

  inputs_clear : AreLawful (xs ++ touch_of x E (touched_cell (Input n) i x) ∷ []) → RacesAmong xs (touch_of x E (touched_cell (Input n) i x)) → ⊥
  inputs_clear h r =
      let b = touch_of x E (touched_cell (Input n) i x) in
      ⊎_elim
      (λ w. not_both r.0.writes w (h.reads r.0 n (among-left r.0 xs (b ∷ []) r.1) (ap (λ (z : Cell). z.array) r.2.cell)))
      (λ w. not_both x.writes w (h.reads b n (is_last xs b) refl))
      r.2.write

  privates_clear : AreLawful (xs ++ touch_of x E (touched_cell (Private n) i x) ∷ []) → RacesAmong xs (touch_of x E (touched_cell (Private n) i x)) → ⊥
  privates_clear h r =
      let b = touch_of x E (touched_cell (Private n) i x) in
      let own : r.0.cell.home ≡ r.0.item = h.at_home r.0 (among-left r.0 xs (b ∷ []) r.1) ∙ ap (λ (z : Cell). home r.0.group r.0.item z.array) r.2.cell in
      r.2.items (sym own ∙ ap (λ (z : Cell). z.home) r.2.cell)

-- as the function has them
module _ (m old : Marked) (same : m ≡ old) (array : Array) (a i : ℕ) (x : Touch) where
  pub by_output : array ≡ Output a → (raced : Bool) (new : Kept) → raced ≡ is_race m.outputs a 0 i x → new ≡ touched m.outputs a 0 i x → TracksCell old array i x raced (record { groups = m.groups; outputs = new; locals = m.locals })
  by_output is raced new race marks d xs E t lawful lt =
      subst (λ z. Tracks d xs E (touch_of x E (touched_cell z i x)) raced (record { groups = m.groups; outputs = new; locals = m.locals })) (sym is)
      (subst (λ z. Tracks d xs E (touch_of x E (touched_cell (Output a) i x)) z (record { groups = m.groups; outputs = new; locals = m.locals })) (sym race)
      (subst (λ z. Tracks d xs E (touch_of x E (touched_cell (Output a) i x)) (is_race m.outputs a 0 i x) (record { groups = m.groups; outputs = z; locals = m.locals })) (sym marks)
      (tracks_output d xs E m (subst (TellOf d xs E) (sym same) t) i x a (follows xs E x (touched_cell (Output a) i x) (subst (λ z. AreLawful (xs ++ touch_of x E (touched_cell z i x) ∷ [])) is lawful)) (subst (λ z. i < d.lengths z) is lt))))

  pub by_local : array ≡ Local a → x.group < old.groups → (raced : Bool) (new : Kept) → raced ≡ is_race m.locals a x.group i x → new ≡ touched m.locals a x.group i x → TracksCell old array i x raced (record { groups = m.groups; outputs = m.outputs; locals = new })
  by_local is low raced new race marks d xs E t lawful lt =
      subst (λ z. Tracks d xs E (touch_of x E (touched_cell z i x)) raced (record { groups = m.groups; outputs = m.outputs; locals = new })) (sym is)
      (subst (λ z. Tracks d xs E (touch_of x E (touched_cell (Local a) i x)) z (record { groups = m.groups; outputs = m.outputs; locals = new })) (sym race)
      (subst (λ z. Tracks d xs E (touch_of x E (touched_cell (Local a) i x)) (is_race m.locals a x.group i x) (record { groups = m.groups; outputs = m.outputs; locals = z })) (sym marks)
      (tracks_local d xs E m (subst (TellOf d xs E) (sym same) t) i x a (subst (λ (z : Marked). x.group < z.groups) (sym same) low) (follows xs E x (touched_cell (Local a) i x) (subst (λ z. AreLawful (xs ++ touch_of x E (touched_cell z i x) ∷ [])) is lawful)) (subst (λ z. i < d.lengths z) is lt))))

  pub by_input : array ≡ Input a → TracksCell old array i x false old
  by_input is d xs E t lawful lt =
      subst (λ z. Tracks d xs E (touch_of x E (touched_cell z i x)) false old) (sym is)
      (tracks_none d xs E old t i x (Input a) refl refl (inputs_clear xs E x a i (subst (λ z. AreLawful (xs ++ touch_of x E (touched_cell z i x) ∷ [])) is lawful)))

  pub by_private : array ≡ Private a → TracksCell old array i x false old
  by_private is d xs E t lawful lt =
      subst (λ z. Tracks d xs E (touch_of x E (touched_cell z i x)) false old) (sym is)
      (tracks_none d xs E old t i x (Private a) refl refl (privates_clear xs E x a i (subst (λ z. AreLawful (xs ++ touch_of x E (touched_cell z i x) ∷ [])) is lawful)))

-- a step without an access
pub stays : MarksStay
stays d s es k m none t =
    told_step d s es k (λ xs E. TellOf d xs E m)
    (subst (λ xs. TellOf d xs (run d s es).epochs m) (sym (ap (λ z. accesses d s es ++ z) none ∙ append-nil (accesses d s es))) t)

-- a release
fenced : (row : Array → Option ℕ) (distinct : Distinct row) (v : Kept) (f : Fence) → ((a : Array) (r : ℕ) → row a ≡ Some r → fence_of_array a ≡ f) → (c : Cell) → is_known row v c ≡ true → fence_of c ≡ f
fenced row distinct v f h c k = let r = row_of row distinct v c k in h c.array r.0 r.1

output_fence : (a : Array) (r : ℕ) → output_row a ≡ Some r → fence_of_array a ≡ GlobalFence
output_fence (Output a) r e = refl
output_fence (Input a) r e = cc
output_fence (Local a) r e = cc
output_fence (Private a) r e = cc

local_fence : (a : Array) (r : ℕ) → local_row a ≡ Some r → fence_of_array a ≡ LocalFence
local_fence (Local a) r e = refl
local_fence (Input a) r e = cc
local_fence (Output a) r e = cc
local_fence (Private a) r e = cc

module _ (d : Device) (s : State) (es : List Event) (g : ℕ) where
  abbrev TellsAfter : (Array → Option ℕ) → Kept → Type 0
  TellsAfter row v = Tells (accesses d s (es ++ Release g ∷ [])) (run d s (es ++ Release g ∷ [])).epochs row v

  tells_release : (row : Array → Option ℕ) (distinct : Distinct row) (v : Kept) (f : Fence) (flagged : Bool) → Tells (accesses d s es) (run d s es).epochs row v → ((a : Array) (r : ℕ) → row a ≡ Some r → fence_of_array a ≡ f) → has_flag (wants d (run d s es) (first_item d.launch g)) f ≡ flagged → TellsAfter row (after_release v g flagged)
  tells_release row distinct v f flagged t h flag = record {
    whole = same_length flagged ∙ t.whole;
    tell =
        subst (λ z. TellAll (accesses d s (es ++ Release g ∷ [])) (run d s (es ++ Release g ∷ [])).epochs (is_known row v) (place row v) (if z then map (released g) v.marks else v.marks)) flag
        (all_release d s es (is_known row v) (place row v) v.marks g f t.tell (fenced row distinct v f h));
  }
    where
      same_length : (z : Bool) → length (if z then map (released g) v.marks else v.marks) ≡ length v.marks
      same_length true = length-map v.marks (released g)
      same_length false = refl

  pub released_to : (on_local on_global : Bool) (m old : Marked) → m ≡ old → (b k : Kept) → b ≡ after_release m.outputs g on_global → k ≡ after_release m.locals g on_local
      → MarksTell d s es old → ((f : Fence) → has_flag (wants d (run d s es) (first_item d.launch g)) f ≡ is_flagged on_local on_global f) → MarksTell d s (es ++ Release g ∷ []) (record { groups = m.groups; outputs = b; locals = k })
  released_to on_local on_global m old same b k q r told flags =
      let t = subst (MarksTell d s es) (sym same) told in
      subst (λ z. MarksTell d s (es ++ Release g ∷ []) (record { groups = m.groups; outputs = b; locals = z })) (sym r)
      (subst (λ z. MarksTell d s (es ++ Release g ∷ []) (record { groups = m.groups; outputs = z; locals = after_release m.locals g on_local })) (sym q)
      (record {
        groups = t.groups;
        one_output = t.one_output;
        each_group = t.each_group;
        output_lengths = t.output_lengths;
        local_lengths = t.local_lengths;
        outputs = tells_release output_row distinct_outputs m.outputs GlobalFence on_global t.outputs output_fence (flags GlobalFence);
        locals = tells_release local_row distinct_locals m.locals LocalFence on_local t.locals local_fence (flags LocalFence);
      }))

-- at the start
pub begun : (d : Device) (s : State) (m : Marked) → m.groups ≡ group_count d.launch → m.outputs.shape.homes ≡ 1 → m.locals.shape.homes ≡ group_count d.launch
    → ((a : ℕ) → slice_index m.outputs.shape.lengths a ≡ d.lengths (Output a)) → ((a : ℕ) → slice_index m.locals.shape.lengths a ≡ d.lengths (Local a))
    → m.outputs.marks ≡ replicate (cell_count m.outputs.shape) Untouched → m.locals.marks ≡ replicate (cell_count m.locals.shape) Untouched → MarksTell d s [] m
begun d s m groups one homes outs locals fresh_out fresh_local = record {
  groups = groups;
  one_output = one;
  each_group = homes;
  output_lengths = outs;
  local_lengths = locals;
  outputs = tells_none s.epochs output_row m.outputs fresh_out;
  locals = tells_none s.epochs local_row m.locals fresh_local;
}

pub fresh : (v w : Kept) → v ≡ w → w.marks ≡ replicate (cell_count w.shape) Untouched → v.marks ≡ replicate (cell_count v.shape) Untouched
fresh v w e h = ap (λ (z : Kept). z.marks) e ∙ h ∙ ap (λ (z : Kept). replicate (cell_count z.shape) Untouched) (sym e)
