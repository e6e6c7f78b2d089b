-- Cells by their array, their home and their place, as they are read and written.
use Rattle.std.proofs.Common.{◌≡◌, ℕ, ◌+◌, ◌≤◌, List, length, Option, Some, None, Bool, true, false, refl, sym, ap, ◌∙◌, subst, arith}
use Rattle.std.specs.Global.{Global}
use Rattle.std.specs.Prelude.{Vec, is_some, nat_lt, ◌==◌, ◌&&◌, if◌then◌else◌}
use Rattle.std.proofs.lemmas.Bool.{ltb-false, le-ltb}
use Rattle.std.specs.Vec.{with_items}
use Rattle.std.proofs.lemmas.List.{with_items_is}
use Rattle.kernel_tree.specs.Code.{Array, Input, Output, Local, Private}
use Rattle.kernel_tree.specs.Formula.{Four, four_if}
use Rattle.kernel_tree.specs.Device.{Cell, behind, four_words, same_array, same_cell, write, write_four}
use Rattle.kernel_tree.specs.Device as kernel_memory
use Rattle.kernel_tree.proofs.Confluence.{same_cell-true}
use Rattle.ndrange_machine.specs.declared.memory.Memory.{Memory}
use Rattle.ndrange_machine.specs.Memory.{put_held, put_four, read_held, cell_in, held, held_at}
use Rattle.ndrange_machine.specs.Words.{Words, word_at}

-- the place i of the row a gets the word w
abbrev pub PutsIn : (i w : ℕ) → (old new : List (Vec ℕ Global)) → ℕ → Type 0
PutsIn i w old new a = (b j : ℕ) → cell_in new b j ≡ (if (b == a) && (j == i) && is_some (cell_in old a i) then Some w else cell_in old b j)

abbrev pub PutsAt : (i w : ℕ) → (old new : Words) → (home a : ℕ) → Type 0
PutsAt i w old new home a =
    (h b j : ℕ) → word_at new h b j ≡ (if ((b == a) && ((h == home) && (j == i))) && is_some (word_at old home a i) then Some w else word_at old h b j)

-- as vectors hold them
pub put_in : (i w a : ℕ) (v : Vec (Vec ℕ Global) Global) (old new : List (Vec ℕ Global)) → length new ≡ v.len → old ≡ v.items → PutsIn i w old new a → PutsIn i w v.items (with_items v new).items a
put_in i w a v old new len e puts = subst (λ z. PutsIn i w v.items z a) (sym (with_items_is v new len)) (subst (λ z. PutsIn i w z new a) e puts)

module _ (m n : Memory) (i w : ℕ) where
  -- the cells of the memory n are those of m but for one, which gets the word
  abbrev pub Puts : Cell → Type 0
  Puts e = (d : Cell) → held n d ≡ put_held (held m) e w d

  -- in the rows of an array that has one home
  at_home : (old new : List (Vec ℕ Global)) (a : ℕ) → PutsIn i w old new a → (h b j : ℕ) → (if h == 0 then cell_in new b j else None) ≡ (if ((b == a) && ((h == 0) && (j == i))) && is_some (cell_in old a i) then Some w else (if h == 0 then cell_in old b j else None))
  at_home old new a puts h b j = by_test (h == 0)
    where
      none : Option ℕ
      none = None

      away : (s t u : Bool) → none ≡ (if (s && (false && t)) && u then Some w else none)
      away true t u = refl
      away false t u = refl

      by_test : (t : Bool) → (if t then cell_in new b j else None) ≡ (if ((b == a) && (t && (j == i))) && is_some (cell_in old a i) then Some w else (if t then cell_in old b j else None))
      by_test true = puts b j
      by_test false = away (b == a) (j == i) (is_some (cell_in old a i))

  pub wrote_input : (a : ℕ) → n.outs ≡ m.outs → n.locals ≡ m.locals → n.privates ≡ m.privates → PutsIn i w m.ins.items n.ins.items a → Puts (record { array = Input a; home = 0; index = i })
  wrote_input a outs locals privates puts d = by_array d.array
    where
      by_array : (x : Array) → held_at n x d.home d.index ≡ (if (same_array x (Input a) && ((d.home == 0) && (d.index == i))) && is_some (cell_in m.ins.items a i) then Some w else held_at m x d.home d.index)
      by_array (Input b) = at_home m.ins.items n.ins.items a puts d.home b d.index
      by_array (Output b) = ap (λ v. if d.home == 0 then cell_in v.items b d.index else None) outs
      by_array (Local b) = ap (λ v. word_at v d.home b d.index) locals
      by_array (Private b) = ap (λ v. word_at v d.home b d.index) privates

  pub wrote_output : (a : ℕ) → n.ins ≡ m.ins → n.locals ≡ m.locals → n.privates ≡ m.privates → PutsIn i w m.outs.items n.outs.items a → Puts (record { array = Output a; home = 0; index = i })
  wrote_output a ins locals privates puts d = by_array d.array
    where
      by_array : (x : Array) → held_at n x d.home d.index ≡ (if (same_array x (Output a) && ((d.home == 0) && (d.index == i))) && is_some (cell_in m.outs.items a i) then Some w else held_at m x d.home d.index)
      by_array (Input b) = ap (λ v. if d.home == 0 then cell_in v.items b d.index else None) ins
      by_array (Output b) = at_home m.outs.items n.outs.items a puts d.home b d.index
      by_array (Local b) = ap (λ v. word_at v d.home b d.index) locals
      by_array (Private b) = ap (λ v. word_at v d.home b d.index) privates

  pub wrote_local : (home a : ℕ) → n.ins ≡ m.ins → n.outs ≡ m.outs → n.privates ≡ m.privates → PutsAt i w m.locals n.locals home a → Puts (record { array = Local a; home = home; index = i })
  wrote_local home a ins outs privates puts d = by_array d.array
    where
      by_array : (x : Array) → held_at n x d.home d.index ≡ (if (same_array x (Local a) && ((d.home == home) && (d.index == i))) && is_some (word_at m.locals home a i) then Some w else held_at m x d.home d.index)
      by_array (Input b) = ap (λ v. if d.home == 0 then cell_in v.items b d.index else None) ins
      by_array (Output b) = ap (λ v. if d.home == 0 then cell_in v.items b d.index else None) outs
      by_array (Local b) = puts d.home b d.index
      by_array (Private b) = ap (λ v. word_at v d.home b d.index) privates

  pub wrote_private : (home a : ℕ) → n.ins ≡ m.ins → n.outs ≡ m.outs → n.locals ≡ m.locals → PutsAt i w m.privates n.privates home a → Puts (record { array = Private a; home = home; index = i })
  wrote_private home a ins outs locals puts d = by_array d.array
    where
      by_array : (x : Array) → held_at n x d.home d.index ≡ (if (same_array x (Private a) && ((d.home == home) && (d.index == i))) && is_some (word_at m.privates home a i) then Some w else held_at m x d.home d.index)
      by_array (Input b) = ap (λ v. if d.home == 0 then cell_in v.items b d.index else None) ins
      by_array (Output b) = ap (λ v. if d.home == 0 then cell_in v.items b d.index else None) outs
      by_array (Local b) = ap (λ v. word_at v d.home b d.index) locals
      by_array (Private b) = puts d.home b d.index

-- four words, one after another

pub pointwise : (f g : Cell → Option ℕ) → ((d : Cell) → f d ≡ g d) → f ≡ g
pointwise f g h = λ i d. h d i

-- there are the cells that there were
pub put_there : (f : Cell → Option ℕ) (e : Cell) (w : ℕ) (d : Cell) → is_some (put_held f e w d) ≡ is_some (f d)
put_there f e w d = by_tests (same_cell d e) (is_some (f e)) refl refl
  where
    by_tests : (t u : Bool) → same_cell d e ≡ t → is_some (f e) ≡ u → is_some (if t && u then Some w else f d) ≡ is_some (f d)
    by_tests true true t u = sym (ap (λ z. is_some (f z)) (same_cell-true d e t) ∙ u)
    by_tests true false t u = refl
    by_tests false u t v = refl

-- they hold what memory with the word holds
pub put_cells : (f : Cell → Option ℕ) (m : kernel_memory.Memory) → ((d : Cell) (x : ℕ) → f d ≡ Some x → m d ≡ x) → (e : Cell) (w : ℕ) (d : Cell) (x : ℕ) → put_held f e w d ≡ Some x → write e w m d ≡ x
unfolding write
put_cells f m holds e w d x = by_tests (same_cell d e) (is_some (f e)) refl refl
  where
    by_tests : (t u : Bool) → same_cell d e ≡ t → is_some (f e) ≡ u → (if t && u then Some w else f d) ≡ Some x → (if same_cell d e then w else m d) ≡ x
    by_tests true true t u h = ap (λ z. if z then w else m d) t ∙ cc
    by_tests true false t u h = let b : false ≡ true = sym u ∙ sym (ap (λ z. is_some (f z)) (same_cell-true d e t)) ∙ ap is_some h in cc
    by_tests false u t v h = ap (λ z. if z then w else m d) t ∙ holds d x h

pub four_there : (f : Cell → Option ℕ) (e : Cell) (u : Four) (d : Cell) → is_some (put_four f e u d) ≡ is_some (f d)
four_there f e u d =
    let f1 = put_held f e u.x in
    let f2 = put_held f1 (behind 1 e) u.y in
    let f3 = put_held f2 (behind 2 e) u.z in
    put_there f3 (behind 3 e) u.w d ∙ put_there f2 (behind 2 e) u.z d ∙ put_there f1 (behind 1 e) u.y d ∙ put_there f e u.x d

pub four_put_cells : (f : Cell → Option ℕ) (m : kernel_memory.Memory) → ((d : Cell) (x : ℕ) → f d ≡ Some x → m d ≡ x) → (e : Cell) (u : Four) (d : Cell) (x : ℕ) → put_four f e u d ≡ Some x → write_four e u m d ≡ x
four_put_cells f m holds e u =
    let f1 = put_held f e u.x in
    let f2 = put_held f1 (behind 1 e) u.y in
    let f3 = put_held f2 (behind 2 e) u.z in
    let m1 = write e u.x m in
    let m2 = write (behind 1 e) u.y m1 in
    let m3 = write (behind 2 e) u.z m2 in
    put_cells f3 m3 (put_cells f2 m2 (put_cells f1 m1 (put_cells f m holds e u.x) (behind 1 e) u.y) (behind 2 e) u.z) (behind 3 e) u.w

-- the four words that are read
pub four_read : (f : Cell → Option ℕ) (m : kernel_memory.Memory) → ((d : Cell) (x : ℕ) → f d ≡ Some x → m d ≡ x) → (e : Cell) (u : Four) → read_held f e ≡ Some u → four_words m e ≡ u
four_read f m holds e u h = by_parts (f e) (f (behind 1 e)) (f (behind 2 e)) (f (behind 3 e)) refl refl refl refl h
  where
    by_parts : (a b c d : Option ℕ) → f e ≡ a → f (behind 1 e) ≡ b → f (behind 2 e) ≡ c → f (behind 3 e) ≡ d → four_if a b c d ≡ Some u → four_words m e ≡ u
    by_parts (Some a) (Some b) (Some c) (Some d) p q r s g =
        let whole : four_words m e ≡ record { x = a; y = b; z = c; w = d } = λ i. record { x = holds e a p i; y = holds (behind 1 e) b q i; z = holds (behind 2 e) c r i; w = holds (behind 3 e) d s i } in
        let same : Some (record { x = a; y = b; z = c; w = d }) ≡ Some u = g in
        let is : record { x = a; y = b; z = c; w = d } ≡ u = cc in
        whole ∙ is
    by_parts None b c d p q r s g = cc
    by_parts (Some a) None c d p q r s g = cc
    by_parts (Some a) (Some b) None d p q r s g = cc
    by_parts (Some a) (Some b) (Some c) None p q r s g = cc

-- there are four cells where there is the last, in arrays of this length
pub four_held : (f : Cell → Option ℕ) (e : Cell) (n : ℕ) → ((i : ℕ) → is_some (f (record { array = e.array; home = e.home; index = i })) ≡ nat_lt i n) → (o : Option Four) → read_held f e ≡ o → is_some o ≡ nat_lt (e.index + 3) n
four_held f e n there o h = ap is_some (sym h) ∙ by_parts (f e) (f (behind 1 e)) (f (behind 2 e)) (f (behind 3 e)) refl refl refl refl
  where
    low : (i j : ℕ) → i ≤ j → nat_lt i n ≡ false → nat_lt j n ≡ false
    low i j le off = le-ltb j n (let far = ltb-false i n off in omega arith)

    by_parts : (a b c d : Option ℕ) → f e ≡ a → f (behind 1 e) ≡ b → f (behind 2 e) ≡ c → f (behind 3 e) ≡ d → is_some (four_if a b c d) ≡ nat_lt (e.index + 3) n
    by_parts (Some a) (Some b) (Some c) (Some d) p q r s = ap is_some (sym s) ∙ there (e.index + 3)
    by_parts None b c d p q r s = sym (low e.index (e.index + 3) (omega arith) (sym (there e.index) ∙ ap is_some p))
    by_parts (Some a) None c d p q r s = sym (low (e.index + 1) (e.index + 3) (omega arith) (sym (there (e.index + 1)) ∙ ap is_some q))
    by_parts (Some a) (Some b) None d p q r s = sym (low (e.index + 2) (e.index + 3) (omega arith) (sym (there (e.index + 2)) ∙ ap is_some r))
    by_parts (Some a) (Some b) (Some c) None p q r s = sym (sym (there (e.index + 3)) ∙ ap is_some s)
