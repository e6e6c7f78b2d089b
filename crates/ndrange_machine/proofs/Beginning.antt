-- The machine at the start of a run, and what it gives out at the end.
use Rattle.std.proofs.Common.{◌≡◌, ℕ, ◌<◌, zero, suc, List, [], ◌∷◌, length, Some, None, Bool, true, false, refl, sym, ap, ◌∙◌, subst, arith, length-append}
use Rattle.std.specs.Global.{Global}
use Rattle.std.specs.Prelude.{Vec, map, is_some, nat_lt, replicate, slice_get, slice_index, ◌==◌, ◌&&◌, if◌then◌else◌}
use Rattle.std.proofs.lemmas.Bool.{lt-ltb}
use Rattle.std.proofs.lemmas.List.{append-nil, length-map, length-replicate}
use Rattle.kernel_tree.specs.Formula.{Vars}
use Rattle.kernel_tree.specs.Grammar.{is_kernel}
use Rattle.kernel_tree.specs.Code.{Array, Input, Output, Local, Private, Code, Kernel}
use Rattle.kernel_tree.specs.Launch.{Launch, Cells, IsWhole, item_count, group_count}
use Rattle.kernel_tree.specs.Item.{item}
use Rattle.kernel_tree.specs.Device.{Cell, State, row, device_of, start_state, length_in, contents}
use Rattle.race_marks.specs.Marked.{MarksTell}
use Rattle.ndrange_machine.specs.declared.machine.Machine.{Machine}
use Rattle.ndrange_machine.specs.Changes.{filled, start_view}
use Rattle.ndrange_machine.specs.ItemView.{ItemView}
use Rattle.ndrange_machine.specs.Memory.{held, held_at, homes, cell_in, rows_of}
use Rattle.ndrange_machine.specs.Words.{Words, word_at, AreFilled}
use Rattle.ndrange_machine.specs.Lines.{lines_at, size, depth, IsAt}
use Rattle.ndrange_machine.specs.Wants.{text_of}
use Rattle.ndrange_machine.specs.Stands.{HoldsItem, Holds, StandsFor, AreOutputs}
use Rattle.ndrange_machine.specs.Takes.{SameCore}
use Rattle.ndrange_machine.specs.Groups.{Begins}
use Rattle.ndrange_machine.proofs.Stepping.{same_holds}
use Rattle.ndrange_machine.proofs.Together.{alike_calm}
use Rattle.ndrange_machine.proofs.Rows.{cell_is, is_some-get, get_is, index_is, same_bound, get_replicate}

at_start : (code : Code) (vars : Vars) → IsAt (lines_at 0 code) 0 (item code [] vars)
at_start code vars = record { end = size code; counts = omega arith; from = sym (append-nil (lines_at 0 code)); loops = tt }

item_at_start : (code : Code) (variables vectors word : ℕ) → HoldsItem (lines_at 0 code) (start_view (depth code) variables vectors word) (item code [] (filled variables vectors word))
item_at_start code variables vectors word = record { place = at_start code (filled variables vectors word); turns = refl; numbered = tt; room = omega arith; rooms = tt }

-- a cell that is there where the test holds, with the word
is_some_if : (b : Bool) (w : ℕ) → is_some (if b then Some w else None) ≡ b
is_some_if true w = refl
is_some_if false w = refl

word_if : (b : Bool) (w x : ℕ) → (if b then Some w else None) ≡ Some x → w ≡ x
word_if true w x e = cc
word_if false w x e = cc

module _ (k : Kernel) (l : Launch) (c : Cells) (m : Machine) (ins : rows_of m.memory.ins.items ≡ c.ins) (outs : rows_of m.memory.outs.items ≡ c.outs)
    (locals : AreFilled m.memory.locals (group_count l) k.locals c.rest)
    (privates : AreFilled m.memory.privates (item_count l) k.privates c.rest) where
  row_there : (rows : List (Vec ℕ Global)) (cs : List (List ℕ)) → rows_of rows ≡ cs → (a i : ℕ) → is_some (cell_in rows a i) ≡ nat_lt i (length (row cs a))
  row_there rows cs e a i = ap is_some (cell_is rows a i ∙ ap (λ z. slice_get (row z a) i) e) ∙ is_some-get (row cs a) i

  row_holds : (rows : List (Vec ℕ Global)) (cs : List (List ℕ)) → rows_of rows ≡ cs → (a i x : ℕ) → cell_in rows a i ≡ Some x → slice_index (row cs a) i ≡ x
  row_holds rows cs e a i x h = index_is (row cs a) i x (sym (cell_is rows a i ∙ ap (λ z. slice_get (row z a) i) e) ∙ h)

  own_there : (v : Words) (count : ℕ) (ns : List ℕ) → AreFilled v count ns c.rest → (h a i : ℕ) → h < count → is_some (word_at v h a i) ≡ nat_lt i (slice_index ns a)
  own_there v count ns filled h a i lt =
      ap is_some (filled h a i) ∙ is_some_if (nat_lt h count && nat_lt i (slice_index ns a)) c.rest
      ∙ ap (λ b. b && nat_lt i (slice_index ns a)) (lt-ltb h count lt)

  own_word : (v : Words) (count : ℕ) (ns : List ℕ) → AreFilled v count ns c.rest → (h a i x : ℕ) → word_at v h a i ≡ Some x → c.rest ≡ x
  own_word v count ns filled h a i x e = word_if (nat_lt h count && nat_lt i (slice_index ns a)) c.rest x (sym (filled h a i) ∙ e)

  there : (a : Array) (h i : ℕ) → h < homes l a → is_some (held m.memory (record { array = a; home = h; index = i })) ≡ nat_lt i (length_in k c a)
  there (Input a) h i lt = let z : h ≡ 0 = omega arith in ap (λ n. is_some (if n == 0 then cell_in m.memory.ins.items a i else None)) z ∙ row_there m.memory.ins.items c.ins ins a i
  there (Output a) h i lt = let z : h ≡ 0 = omega arith in ap (λ n. is_some (if n == 0 then cell_in m.memory.outs.items a i else None)) z ∙ row_there m.memory.outs.items c.outs outs a i
  there (Local a) h i lt = own_there m.memory.locals (group_count l) k.locals locals h a i lt
  there (Private a) h i lt = own_there m.memory.privates (item_count l) k.privates privates h a i lt

  at_home : (rows : List (Vec ℕ Global)) (h a i x : ℕ) → (if h == 0 then cell_in rows a i else None) ≡ Some x → cell_in rows a i ≡ Some x
  at_home rows h a i x = by_test (h == 0)
    where
      by_test : (b : Bool) → (if b then cell_in rows a i else None) ≡ Some x → cell_in rows a i ≡ Some x
      by_test true q = q
      by_test false q = cc

  cells : (d : Cell) (x : ℕ) → held m.memory d ≡ Some x → contents c d ≡ x
  cells d x = by_array d.array
    where
      by_array : (a : Array) → held_at m.memory a d.home d.index ≡ Some x → contents c (record { array = a; home = d.home; index = d.index }) ≡ x
      by_array (Input a) h = row_holds m.memory.ins.items c.ins ins a d.index x (at_home m.memory.ins.items d.home a d.index x h)
      by_array (Output a) h = row_holds m.memory.outs.items c.outs outs a d.index x (at_home m.memory.outs.items d.home a d.index x h)
      by_array (Local a) h = own_word m.memory.locals (group_count l) k.locals locals d.home a d.index x h
      by_array (Private a) h = own_word m.memory.privates (item_count l) k.privates privates d.home a d.index x h

  pub begun : is_kernel k ≡ true → IsWhole l → map text_of m.lines.items ≡ lines_at 0 k.code → m.launch ≡ l → m.items ≡ replicate (item_count l) (start_view (depth k.code) k.variables k.vectors c.rest) → MarksTell (device_of k l c) (start_state k c) [] m.marks → (n : Machine) → SameCore m n → n.marks ≡ m.marks → Begins m n → StandsFor k l c n []
  begun grammar whole text launch items marks n core same begins = record {
    grammar = grammar;
    is_run = record { enabled = tt; none_after_fault = λ front last e. let n = ap length e in let a = length-append front (last ∷ []) in absurd (omega arith) };
    holds = same_holds k l c m n (start_state k c) core holds;
    flags = begins k l c (start_state k c) holds;
    vars = λ _ j it e. sym (ap (λ (v : ItemView). v.vars) (is j it (ap (λ z. slice_get z j) (sym core.items) ∙ e)));
    marks = λ _. subst (MarksTell (device_of k l c) (start_state k c) []) (sym same) marks;
    steady = λ _ v. alike_calm (device_of k l c) (start_state k c) v.0 whole (λ j q. (refl, refl)) v.1;
  }
    where
      is : (j : ℕ) (it : ItemView) → slice_get m.items j ≡ Some it → start_view (depth k.code) k.variables k.vectors c.rest ≡ it
      is j it e = get_replicate (item_count l) j (start_view (depth k.code) k.variables k.vectors c.rest) it (ap (λ z. slice_get z j) (sym items) ∙ e)

      holds : Holds k l c m (start_state k c)
      holds = record {
        text = text;
        launch = launch;
        whole = whole;
        count = ap length items ∙ length-replicate (item_count l) (start_view (depth k.code) k.variables k.vectors c.rest);
        items = λ j it e. subst (λ v. HoldsItem (lines_at 0 k.code) v (item k.code [] (filled k.variables k.vectors c.rest))) (is j it e) (item_at_start k.code k.variables k.vectors c.rest);
        there = there;
        cells = cells;
        outs = sym (length-map m.memory.outs.items (λ r. r.items)) ∙ ap length outs;
      }

-- the lengths of rows
pub lengths_are : (rows : List (Vec ℕ Global)) (cs : List (List ℕ)) → rows_of rows ≡ cs → (a : ℕ) → slice_index (map (λ (r : Vec ℕ Global). length r.items) rows) a ≡ length (row cs a)
lengths_are rows cs e a = by_row rows a ∙ ap (λ z. length (row z a)) e
  where
    by_row : (rs : List (Vec ℕ Global)) (n : ℕ) → slice_index (map (λ (r : Vec ℕ Global). length r.items) rs) n ≡ length (row (rows_of rs) n)
    by_row [] zero = refl
    by_row [] (suc n) = refl
    by_row (r ∷ rs) zero = refl
    by_row (r ∷ rs) (suc n) = by_row rs n

module _ (k : Kernel) (l : Launch) (c : Cells) (m : Machine) (s : State) (h : Holds k l c m s) where
  same_length : (a : ℕ) → length (row (rows_of m.memory.outs.items) a) ≡ length (row c.outs a)
  same_length a = same_bound _ _ (λ i. sym (ap is_some (cell_is m.memory.outs.items a i) ∙ is_some-get (row (rows_of m.memory.outs.items) a) i) ∙ h.there (Output a) 0 i (omega arith))

  pub given_out : AreOutputs k l c s (rows_of m.memory.outs.items)
  given_out = record {
    count = length-map m.memory.outs.items (λ r. r.items) ∙ h.outs;
    lengths = same_length;
    words = λ a i lt. sym (h.cells (record { array = Output a; home = 0; index = i }) _ (cell_is m.memory.outs.items a i ∙ get_is (row (rows_of m.memory.outs.items) a) i lt));
  }
