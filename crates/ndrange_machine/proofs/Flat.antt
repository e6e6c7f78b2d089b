-- Work-items in a few lists.
use Rattle.std.proofs.Common.{◌≡◌, ◌≢◌, ℕ, ◌+◌, ◌-◌, ◌*◌, ◌<◌, ◌≤◌, zero, suc, List, [], ◌∷◌, ◌++◌, length, take, drop, set, replicate, Option, Some, None, Bool, true, false, refl, sym, ap, ◌∙◌, subst, ⊎_elim, arith, add-zero, eq-eqb}
use Rattle.std.specs.Global.{Global}
use Rattle.std.specs.Vec.{with_items}
use Rattle.std.specs.Prelude.{Vec, map, option_map, slice_get, slice_index_or, slice_set, nat_lt, ◌==◌, if◌then◌else◌}
use Rattle.std.specs.List.{enumerate_from}
use Rattle.std.proofs.Math.Nat.{mul-le-mul_right}
use Rattle.std.proofs.Math.Seq.{take-set-lt}
use Rattle.std.proofs.lemmas.Bool.{cases_lt, lt-ltb, le-ltb, ne_eqb}
use Rattle.std.proofs.lemmas.Bool.Decides.{eqb_tells}
use Rattle.std.proofs.lemmas.List.{drop-set-lt, drop-set-add, take-set-le, set_past, length-take, length-take-le, length-drop, drop-replicate, take-replicate, take-take, take_more_set, length-map, length-set, map-set, with_items_is}
use Rattle.std.proofs.lemmas.List.FromFn.{length-enumerate_from}
use Rattle.ndrange_machine.specs.declared.items.Items.TheInside.{Inside}
use Rattle.ndrange_machine.specs.declared.items.Place.{Place}
use Rattle.kernel_tree.specs.Formula.{spread}
use Rattle.ndrange_machine.specs.declared.four.Four as held
use Rattle.ndrange_machine.specs.declared.turn.Turn.{Turn}
use Rattle.ndrange_machine.specs.Changes.{changed, changed_turns, changed_vars, start_view}
use Rattle.ndrange_machine.specs.declared.change.Change.{Change}
use Rattle.ndrange_machine.specs.declared.change.Change.TheVariants.{Sets, SetsFour, Begins, Repeats, Leaves, Keeps}
use Rattle.ndrange_machine.specs.Known.{four_of, vars_of}
use Rattle.ndrange_machine.specs.ItemView.{ItemView}
use Rattle.ndrange_machine.specs.Flat.{part, with_cell, item_at, items_of, AreLaid}
use Rattle.ndrange_machine.proofs.Rows.{get_or_is, get_there, get_within, set_other, set_same, some_is}

-- Parts of a list

-- a part lies before the end of those up to it
pub part_before : (i n w : ℕ) → i < n → i * w + w ≤ n * w
part_before i n w lt = let up = mul-le-mul_right {m = suc i} {n = n} w (omega arith) in omega (arith, up)

pub length-part : {A : Type 0} (xs : List A) (w j : ℕ) → j * w + w ≤ length xs → length (part xs w j) ≡ w
length-part xs w j le = let a = length-take w (drop (j * w) xs) in let b = length-drop (j * w) xs in omega (arith, a, b)

-- a cell put in a part changes that part alone
put_own : {A : Type 0} (xs : List A) (w j at : ℕ) (x : A) → at < w → part (set xs (j * w + at) x) w j ≡ set (part xs w j) at x
put_own xs w j at x lt = ap (take w) (drop-set-add (j * w) xs at x) ∙ take-set-lt w (drop (j * w) xs) at x lt

put_other : {A : Type 0} (xs : List A) (w j at i : ℕ) (x : A) → i ≢ j → at < w → part (set xs (j * w + at) x) w i ≡ part xs w i
put_other xs w j at i x ne lt =
    ⊎_elim
    (λ less.
    let before = part_before i j w less in
    let place : i * w + (j * w + at - i * w) ≡ j * w + at = omega arith in
    ap (λ n. part (set xs n x) w i) (sym place) ∙ ap (take w) (drop-set-add (i * w) xs _ x) ∙ take-set-le w (drop (i * w) xs) _ x (omega arith))
    (λ more.
    let before = part_before j i w (omega arith) in
    ap (take w) (drop-set-lt (i * w) xs (j * w + at) x (omega arith)))
    (cases_lt i j)

pub part_with_cell : {A : Type 0} (xs : List A) (w j at : ℕ) (x : A) → j * w + w ≤ length xs → (i : ℕ) → part (with_cell xs w j at x) w i ≡ (if i == j then slice_set (part xs w j) at x else part xs w i)
part_with_cell xs w j at x room i =
    ⊎_elim
    (λ lt.
    ap (λ b. part (if b then slice_set xs (j * w + at) x else xs) w i) (lt-ltb at w lt)
    ∙ ⊎_elim
    (λ e. ap (part (set xs (j * w + at) x) w) e.1 ∙ put_own xs w j at x lt ∙ ap (λ b. if b then slice_set (part xs w j) at x else part xs w i) (sym e.0))
    (λ e. put_other xs w j at i x e.1 lt ∙ ap (λ b. if b then slice_set (part xs w j) at x else part xs w i) (sym e.0))
    (eqb_tells i j))
    (λ le.
    ap (λ b. part (if b then slice_set xs (j * w + at) x else xs) w i) (le-ltb at w le)
    ∙ ⊎_elim
    (λ e. let n = length-part xs w j room in ap (part xs w) e.1 ∙ sym (set_past (part xs w j) at x (omega arith)) ∙ ap (λ b. if b then slice_set (part xs w j) at x else part xs w i) (sym e.0))
    (λ e. ap (λ b. if b then slice_set (part xs w j) at x else part xs w i) (sym e.0))
    (eqb_tells i j))
    (cases_lt at w)

same_fours : (n : ℕ) (u : held.Four) → map four_of (replicate n u) ≡ replicate n (four_of u)
same_fours zero u = refl
same_fours (suc n) u = ap (λ z. four_of u ∷ z) (same_fours n u)

part_replicate : {A : Type 0} (m w i : ℕ) (x : A) → i * w + w ≤ m → part (replicate m x) w i ≡ replicate w x
part_replicate m w i x le = ap (take w) (drop-replicate (i * w) m x) ∙ take-replicate w (m - i * w) x (omega arith)

-- Items by their numbers

get_each : {A B : Type 0} (f : ℕ → A → B) (n : ℕ) (xs : List A) (j : ℕ) → slice_get (map (λ e. f e.0 e.1) (enumerate_from n xs)) j ≡ option_map (f (n + j)) (slice_get xs j)
get_each f n [] zero = refl
get_each f n [] (suc j) = refl
get_each f n (x ∷ xs) zero = ap (λ k. Some (f k x)) (sym (add-zero n))
get_each f n (x ∷ xs) (suc j) =
    let k : n + 1 + j ≡ n + suc j = omega arith in
    get_each f (n + 1) xs j ∙ ap (λ k. option_map (f k) (slice_get xs j)) k

pub get_item : (x : Inside) (j : ℕ) → slice_get (items_of x) j ≡ option_map (item_at x j) (slice_get x.places.items j)
get_item x j = let k : 0 + j ≡ j = omega arith in get_each (item_at x) 0 x.places.items j ∙ ap (λ k. option_map (item_at x k) (slice_get x.places.items j)) k

pub length-items : (x : Inside) → length (items_of x) ≡ length x.places.items
length-items x = length-map (enumerate_from 0 x.places.items) (λ e. item_at x e.0 e.1) ∙ length-enumerate_from 0 x.places.items

module _ (x : Inside) (now : List ItemView) (is : items_of x ≡ now) where
  pub counted : length x.places.items ≡ length now
  counted = sym (length-items x) ∙ ap length is

  pub got : (j : ℕ) → slice_get now j ≡ option_map (item_at x j) (slice_get x.places.items j)
  got j = ap (λ z. slice_get z j) (sym is) ∙ get_item x j

  -- each item has its part of a list that has as many parts
  pub has_part : {A : Type 0} (xs : List A) (w j : ℕ) → length xs ≡ length x.places.items * w → j < length now → j * w + w ≤ length xs
  has_part xs w j n lt = let m = counted in let le = part_before j (length x.places.items) w (omega arith) in omega (arith, le, n)

  -- what an item is that stands here
  pub item_here : (j : ℕ) (p : Place) → j < length now → p ≡ slice_index_or x.places.items j p → (it : ItemView) → slice_get now j ≡ Some it → it ≡ item_at x j p
  item_here j p lt read it e =
      let n = counted in
      let at : slice_get x.places.items j ≡ Some p = get_or_is x.places.items j p (omega arith) read in
      let both : Some it ≡ Some (item_at x j p) = sym e ∙ got j ∙ ap (option_map (item_at x j)) at in
      some_is it (item_at x j p) both

  pub some_item_here : (j : ℕ) (it : ItemView) → slice_get now j ≡ Some it → (p : Place) × (slice_get x.places.items j ≡ Some p) × (it ≡ item_at x j p)
  some_item_here j it e =
      let there = get_there x.places.items j (let n = counted in let lt = get_within now j it e in omega arith) in
      let both : Some it ≡ Some (item_at x j there.0) = sym e ∙ got j ∙ ap (option_map (item_at x j)) there.1 in
      (there.0, there.1, some_is it (item_at x j there.0) both)

  module _ (laid : AreLaid x) where
    -- no item is in more loops than its part has turns
    pub inside_part : (j : ℕ) (p : Place) → j < length now → p ≡ slice_index_or x.places.items j p → (turns : List Turn) → turns ≡ part x.turns.items x.depth j → p.inside ≡ length (take p.inside turns)
    inside_part j p lt read turns same =
        let n = counted in
        let at : slice_get x.places.items j ≡ Some p = get_or_is x.places.items j p (omega arith) read in
        let le = laid.inside j p at in
        let wide = length-part x.turns.items x.depth j (has_part x.turns.items x.depth j laid.turns lt) ∙ refl in
        let long = ap length same in
        sym (length-take-le p.inside turns (omega arith))

-- Items at the start

each_begun : {A B : Type 0} (f : ℕ → A → B) (n m : ℕ) (p : A) (v : B) → ((i : ℕ) → i < n + m → f i p ≡ v) → map (λ e. f e.0 e.1) (enumerate_from n (replicate m p)) ≡ replicate m v
each_begun f n zero p v h = refl
each_begun f n (suc m) p v h =
    ap (λ z. z ∷ map (λ e. f e.0 e.1) (enumerate_from (n + 1) (replicate m p))) (h n (omega arith))
    ∙ ap (λ z. v ∷ z) (each_begun f (n + 1) m p v (λ i lt. h i (omega arith)))

pub begun_items : (x : Inside) (n word : ℕ) (u : held.Four) → x.places.items ≡ replicate n (record { line = 0; inside = 0 }) → x.words.items ≡ replicate (n * x.variables) word → x.vectors.items ≡ replicate (n * x.fours) u → four_of u ≡ spread word → items_of x ≡ replicate n (start_view x.depth x.variables x.fours word)
begun_items x n word u places words vectors spreads =
    ap (λ ps. map (λ e. item_at x e.0 e.1) (enumerate_from 0 ps)) places
    ∙ each_begun (item_at x) 0 n (record { line = 0; inside = 0 }) (start_view x.depth x.variables x.fours word) each
  where
    each : (i : ℕ) → i < 0 + n → item_at x i (record { line = 0; inside = 0 }) ≡ start_view x.depth x.variables x.fours word
    each i lt =
        ap (λ z. record { line = 0; turns = []; room = x.depth; vars = vars_of z (part x.vectors.items x.fours i) })
        (ap (λ z. part z x.variables i) words ∙ part_replicate (n * x.variables) x.variables i word (part_before i n x.variables (omega arith)))
        ∙ ap (λ z. record { line = 0; turns = []; room = x.depth; vars = record { words = replicate x.variables word; vectors = z } })
        (ap (map four_of) (ap (λ z. part z x.fours i) vectors ∙ part_replicate (n * x.fours) x.fours i u (part_before i n x.fours (omega arith))) ∙ same_fours x.fours u ∙ ap (replicate x.fours) spreads)

-- Items after a change

-- what an item is that stands here, where the lists hold this
abbrev view_from : Inside → List Turn → List ℕ → List held.Four → (number : ℕ) → Place → ItemView
view_from x turns words vectors j p = record {
  line = p.line;
  turns = take p.inside (part turns x.depth j);
  room = x.depth;
  vars = vars_of (part words x.variables j) (part vectors x.fours j);
}

-- lists in which one item is changed
pub record Moves (x : Inside) (j : ℕ) (p q : Place) (ch : Change) (turns : List Turn) (words : List ℕ) (vectors : List held.Four) : Type 0 where
  pub inside : q.inside ≤ x.depth
  pub own : view_from x turns words vectors j q ≡ changed (item_at x j p) ch q.line
  pub others : (i : ℕ) (r : Place) → i ≢ j → view_from x turns words vectors i r ≡ item_at x i r
  pub turns_long : length turns ≡ length x.turns.items
  pub words_long : length words ≡ length x.words.items
  pub vectors_long : length vectors ≡ length x.vectors.items

length-with_cell : {A : Type 0} (xs : List A) (w j at : ℕ) (x : A) → length (with_cell xs w j at x) ≡ length xs
length-with_cell xs w j at x = by_test (nat_lt at w)
  where
    by_test : (b : Bool) → length (if b then slice_set xs (j * w + at) x else xs) ≡ length xs
    by_test true = length-set xs (j * w + at) x
    by_test false = refl

-- a vector whose cells are another list with a cell put in its part
pub cell_put : {A : Type 0} (v : Vec A Global) (old new : List A) (w j at : ℕ) (x : A) → old ≡ v.items → new ≡ with_cell old w j at x → with_cell v.items w j at x ≡ (with_items v new).items
cell_put v old new w j at x same put =
    let is = put ∙ ap (λ cells. with_cell cells w j at x) same in
    sym (with_items_is v new (ap length is ∙ length-with_cell v.items w j at x ∙ sym v.ok.0) ∙ is)

-- the part with the cell, and each other
cell_own : {A : Type 0} (xs : List A) (w j at : ℕ) (x : A) → j * w + w ≤ length xs → part (with_cell xs w j at x) w j ≡ slice_set (part xs w j) at x
cell_own xs w j at x room = part_with_cell xs w j at x room j ∙ ap (λ b. if b then slice_set (part xs w j) at x else part xs w j) (eq-eqb j j refl)

cell_other : {A : Type 0} (xs : List A) (w j at : ℕ) (x : A) → j * w + w ≤ length xs → (i : ℕ) → i ≢ j → part (with_cell xs w j at x) w i ≡ part xs w i
cell_other xs w j at x room i ne = part_with_cell xs w j at x room i ∙ ap (λ b. if b then slice_set (part xs w j) at x else part xs w i) (ne_eqb i j ne)

module _ (x : Inside) (j line : ℕ) (p : Place) (low : p.inside ≤ x.depth) where
  abbrev stays : Place
  stays = record { line = line; inside = p.inside }

  pub moves_word : (v word : ℕ) → j * x.variables + x.variables ≤ length x.words.items → Moves x j p stays (Sets v word) x.turns.items (with_cell x.words.items x.variables j v word) x.vectors.items
  moves_word v word room = record {
    inside = low;
    own = ap (λ z. record { line = line; turns = take p.inside (part x.turns.items x.depth j); room = x.depth; vars = vars_of z (part x.vectors.items x.fours j) }) (cell_own x.words.items x.variables j v word room);
    others = λ i r ne. ap (λ z. record { line = r.line; turns = take r.inside (part x.turns.items x.depth i); room = x.depth; vars = vars_of z (part x.vectors.items x.fours i) }) (cell_other x.words.items x.variables j v word room i ne);
    turns_long = refl;
    words_long = length-with_cell x.words.items x.variables j v word;
    vectors_long = refl;
  }

  pub moves_four : (v : ℕ) (u : held.Four) → j * x.fours + x.fours ≤ length x.vectors.items → Moves x j p stays (SetsFour v u) x.turns.items x.words.items (with_cell x.vectors.items x.fours j v u)
  moves_four v u room = record {
    inside = low;
    own = ap (λ z. record { line = line; turns = take p.inside (part x.turns.items x.depth j); room = x.depth; vars = record { words = part x.words.items x.variables j; vectors = z } })
        (ap (map four_of) (cell_own x.vectors.items x.fours j v u room) ∙ map-set four_of (part x.vectors.items x.fours j) v u);
    others = λ i r ne. ap (λ z. record { line = r.line; turns = take r.inside (part x.turns.items x.depth i); room = x.depth; vars = vars_of (part x.words.items x.variables i) z }) (cell_other x.vectors.items x.fours j v u room i ne);
    turns_long = refl;
    words_long = refl;
    vectors_long = length-with_cell x.vectors.items x.fours j v u;
  }

  module _ (room : j * x.depth + x.depth ≤ length x.turns.items) where
    abbrev own_turns : List Turn
    own_turns = part x.turns.items x.depth j

    wide : length own_turns ≡ x.depth
    wide = length-part x.turns.items x.depth j room

    pub many : length (take p.inside own_turns) ≡ p.inside
    many = let n = wide in length-take-le p.inside own_turns (omega arith)

    -- a turn put in an item's part, where it has these turns after that
    turned : (q : Place) (ch : Change) (at : ℕ) (t : Turn) → q.inside ≤ x.depth → ((it : ItemView) → changed_vars it.vars ch ≡ it.vars) → take q.inside (slice_set own_turns at t) ≡ changed_turns (take p.inside own_turns) x.depth ch → Moves x j p q ch (with_cell x.turns.items x.depth j at t) x.words.items x.vectors.items
    turned q ch at t within vars turns = record {
      inside = within;
      own = ap (λ z. record { line = q.line; turns = z; room = x.depth; vars = (item_at x j p).vars }) (ap (take q.inside) (cell_own x.turns.items x.depth j at t room) ∙ turns)
          ∙ ap (λ z. record { line = q.line; turns = changed_turns (take p.inside own_turns) x.depth ch; room = x.depth; vars = z }) (sym (vars (item_at x j p)));
      others = λ i r ne. ap (λ z. record { line = r.line; turns = take r.inside z; room = x.depth; vars = (item_at x i r).vars }) (cell_other x.turns.items x.depth j at t room i ne);
      turns_long = length-with_cell x.turns.items x.depth j at t;
      words_long = refl;
      vectors_long = refl;
    }

    -- nothing is put anywhere, where it has these turns after that
    left : (q : Place) (ch : Change) → q.inside ≤ x.depth → ((it : ItemView) → changed_vars it.vars ch ≡ it.vars) → take q.inside own_turns ≡ changed_turns (take p.inside own_turns) x.depth ch → Moves x j p q ch x.turns.items x.words.items x.vectors.items
    left q ch within vars turns = record {
      inside = within;
      own = ap (λ z. record { line = q.line; turns = z; room = x.depth; vars = (item_at x j p).vars }) turns
          ∙ ap (λ z. record { line = q.line; turns = changed_turns (take p.inside own_turns) x.depth ch; room = x.depth; vars = z }) (sym (vars (item_at x j p)));
      others = λ i r ne. refl;
      turns_long = refl;
      words_long = refl;
      vectors_long = refl;
    }

    begin_if : (t : Turn) → List Turn → Bool → List Turn
    begin_if t turns b = if b then turns ++ t ∷ [] else turns

    pub moves_begin : (t : Turn) → p.inside < x.depth → Moves x j p (record { line = line; inside = p.inside + 1 }) (Begins t) (with_cell x.turns.items x.depth j p.inside t) x.words.items x.vectors.items
    moves_begin t lt =
        let n = wide in
        turned (record { line = line; inside = p.inside + 1 }) (Begins t) p.inside t (omega arith) (λ it. refl)
        (take_more_set own_turns p.inside t (omega arith) ∙ ap (λ b. if b then take p.inside own_turns ++ t ∷ [] else take p.inside own_turns) (sym (ap (λ m. nat_lt m x.depth) many ∙ lt-ltb p.inside x.depth lt)))

    pub moves_full : (t : Turn) → x.depth ≤ p.inside → Moves x j p stays (Begins t) x.turns.items x.words.items x.vectors.items
    moves_full t le =
        left stays (Begins t) low (λ it. refl)
        (ap (λ b. if b then take p.inside own_turns ++ t ∷ [] else take p.inside own_turns) (sym (ap (λ m. nat_lt m x.depth) many ∙ le-ltb p.inside x.depth le)))

    pub moves_again : (t : Turn) → 0 < p.inside → Moves x j p stays (Repeats t) (with_cell x.turns.items x.depth j (p.inside - 1) t) x.words.items x.vectors.items
    moves_again t lt =
        turned stays (Repeats t) (p.inside - 1) t low (λ it. refl)
        (take-set-lt p.inside own_turns (p.inside - 1) t (omega arith) ∙ ap (λ m. slice_set (take p.inside own_turns) (m - 1) t) (sym many))

    pub moves_nowhere : (t : Turn) → p.inside ≤ 0 → Moves x j p stays (Repeats t) x.turns.items x.words.items x.vectors.items
    moves_nowhere t le =
        let n = many in
        left stays (Repeats t) low (λ it. refl) (sym (set_past (take p.inside own_turns) (length (take p.inside own_turns) - 1) t (omega arith)))

    pub moves_out : Moves x j p (record { line = line; inside = p.inside - 1 }) Leaves x.turns.items x.words.items x.vectors.items
    moves_out =
        left (record { line = line; inside = p.inside - 1 }) Leaves (omega arith) (λ it. refl)
        (sym (ap (λ m. take (m - 1) (take p.inside own_turns)) many ∙ take-take (p.inside - 1) p.inside own_turns (omega arith)))

    pub moves_not : Moves x j p stays Keeps x.turns.items x.words.items x.vectors.items
    moves_not = left stays Keeps low (λ it. refl) refl

-- the items that lie in the lists after that
module _ (x y : Inside) (j : ℕ) (p q : Place) (ch : Change) (at : slice_get x.places.items j ≡ Some p) (places : y.places.items ≡ slice_set x.places.items j q) (depth : y.depth ≡ x.depth) (variables : y.variables ≡ x.variables) (fours : y.fours ≡ x.fours)
    (moves : Moves x j p q ch y.turns.items y.words.items y.vectors.items) where
  from_lists : (i : ℕ) (r : Place) → item_at y i r ≡ view_from x y.turns.items y.words.items y.vectors.items i r
  from_lists i r =
      ap (λ d. record { line = r.line; turns = take r.inside (part y.turns.items d i); room = d; vars = (item_at y i r).vars }) depth
      ∙ ap (λ n. record { line = r.line; turns = take r.inside (part y.turns.items x.depth i); room = x.depth; vars = vars_of (part y.words.items n i) (part y.vectors.items y.fours i) }) variables
      ∙ ap (λ n. record { line = r.line; turns = take r.inside (part y.turns.items x.depth i); room = x.depth; vars = vars_of (part y.words.items x.variables i) (part y.vectors.items n i) }) fours

  pub items_changed : (i : ℕ) → slice_get (items_of y) i ≡ (if i == j then option_map (λ it. changed it ch q.line) (slice_get (items_of x) i) else slice_get (items_of x) i)
  items_changed i =
      ⊎_elim
      (λ e.
      ap (slice_get (items_of y)) e.1
      ∙ get_item y j
      ∙ ap (option_map (item_at y j)) (ap (λ z. slice_get z j) places ∙ set_same x.places.items j q (get_within x.places.items j p at))
      ∙ ap Some (from_lists j q ∙ moves.own)
      ∙ sym (ap (option_map (λ it. changed it ch q.line)) (ap (slice_get (items_of x)) e.1 ∙ get_item x j ∙ ap (option_map (item_at x j)) at))
      ∙ ap (λ b. if b then option_map (λ it. changed it ch q.line) (slice_get (items_of x) i) else slice_get (items_of x) i) (sym e.0))
      (λ e.
      get_item y i
      ∙ ap (option_map (item_at y i)) (ap (λ z. slice_get z i) places ∙ set_other x.places.items j q i e.1)
      ∙ same e.1 (slice_get x.places.items i)
      ∙ sym (get_item x i)
      ∙ ap (λ b. if b then option_map (λ it. changed it ch q.line) (slice_get (items_of x) i) else slice_get (items_of x) i) (sym e.0))
      (eqb_tells i j)
    where
      same : i ≢ j → (o : Option Place) → option_map (item_at y i) o ≡ option_map (item_at x i) o
      same ne (Some r) = ap Some (from_lists i r ∙ moves.others i r ne)
      same ne None = refl

  pub places_long : length y.places.items ≡ length x.places.items
  places_long = ap length places ∙ length-set x.places.items j q

  pub laid_on : AreLaid x → AreLaid y
  laid_on laid =
      let n = places_long in
      record {
        inside = λ i r e.
            ⊎_elim
            (λ h. subst (λ d. r.inside ≤ d) (sym depth) (let is : Some q ≡ Some r = sym (set_same x.places.items j q (get_within x.places.items j p at)) ∙ sym (ap (λ z. slice_get z j) places) ∙ ap (slice_get y.places.items) (sym h.1) ∙ e in subst (λ (z : Place). z.inside ≤ x.depth) (some_is q r is) moves.inside))
            (λ h. subst (λ d. r.inside ≤ d) (sym depth) (laid.inside i r (sym (set_other x.places.items j q i h.1) ∙ sym (ap (λ z. slice_get z i) places) ∙ e)))
            (eqb_tells i j);
        turns = moves.turns_long ∙ laid.turns ∙ ap (λ m. m * x.depth) (sym n) ∙ ap (λ d. length y.places.items * d) (sym depth);
        words = moves.words_long ∙ laid.words ∙ ap (λ m. m * x.variables) (sym n) ∙ ap (λ d. length y.places.items * d) (sym variables);
        vectors = moves.vectors_long ∙ laid.vectors ∙ ap (λ m. m * x.fours) (sym n) ∙ ap (λ d. length y.places.items * d) (sym fours);
      }

  pub count_on : length (items_of y) ≡ length (items_of x)
  count_on = length-items y ∙ places_long ∙ sym (length-items x)

-- what an item's place says of loops, where it is as it was and where another is put there
pub inside_still : (xs : List Place) (j : ℕ) (p r : Place) → slice_get xs j ≡ Some p → slice_get xs j ≡ Some r → r.inside ≡ p.inside
inside_still xs j p r at e = ap (λ (z : Place). z.inside) (some_is r p (sym e ∙ at))

pub inside_set : (xs : List Place) (j : ℕ) (p q r : Place) → slice_get xs j ≡ Some p → slice_get (slice_set xs j q) j ≡ Some r → r.inside ≡ q.inside
inside_set xs j p q r at e = ap (λ (z : Place). z.inside) (some_is r q (sym e ∙ set_same xs j q (get_within xs j p at)))

-- the same lists, but for what a change of one item puts in them before it goes to its line
pub record Moved (x z : Inside) (j line : ℕ) (p : Place) (ch : Change) : Type 0 where
  pub depth : z.depth ≡ x.depth
  pub variables : z.variables ≡ x.variables
  pub fours : z.fours ≡ x.fours
  pub inside : ℕ
  pub here : (r : Place) → slice_get z.places.items j ≡ Some r → r.inside ≡ inside
  pub places : (q : Place) → slice_set z.places.items j q ≡ slice_set x.places.items j q
  pub moves : Moves x j p (record { line = line; inside = inside }) ch z.turns.items z.words.items z.vectors.items

pub moved_as : {z' : Inside} {p' : Place} {ch' : Change} (x z : Inside) (j line : ℕ) (p : Place) (ch : Change) → z ≡ z' → p ≡ p' → ch ≡ ch' → Moved x z' j line p' ch' → Moved x z j line p ch
moved_as {z' = z'} {p' = p'} {ch' = ch'} x z j line p ch a b e moved =
    subst (λ v. Moved x z j line p v) (sym e)
    (subst (λ r. Moved x z j line r ch') (sym b)
    (subst (λ v. Moved x v j line p' ch') (sym a) moved))
