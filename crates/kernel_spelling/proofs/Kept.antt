-- Each alternative of a kernel's text keeps the meaning.
use Rattle.std.proofs.Common.{◌≡◌, ℕ, suc, ◌*◌, ◌+◌, ◌-◌, ◌^◌, ◌≤◌, ◌<◌, List, [], ◌∷◌, ◌++◌, Option, Some, None, Bool, true, false, refl, ap, sym, ◌∙◌, subst, arith, max, length}
use Rattle.std.specs.Prelude.{nat_lt, nat_le, decimal, ◌&&◌}
use Rattle.std.proofs.Math.Nat.{max-le}
use Rattle.std.proofs.lemmas.Bool.{lt-ltb, le-leb, and_from}
use Rattle.std.proofs.lemmas.List.{append_assoc, append-nil, length-append}
use Rattle.std.proofs.lemmas.Option.{same_Some}
use Rattle.readings.specs.Readings.{Token, Form, Mark}
use Rattle.readings.proofs.Meanings.{AllMean, split}
use Rattle.scalar_ops.specs.declared.op.Op.{Op}
use Rattle.scalar_ops.specs.declared.op.Op.TheVariants.{Min, Max, Shl, Shr}
use Rattle.kernel_tree.specs.declared.tree.Dimension.{Dimension}
use Rattle.kernel_tree.specs.Formula.{IdForm, GlobalId, GroupId, LocalId, GlobalSize, GroupCount, LocalSize, Comparison, Less, Equal, Formula, Number, Id, Binary, Choose, Lanes, Vector, Spread, Each}
use Rattle.kernel_tree.specs.Code.{Array, Input, Output, Local, Private, Statement as Performed, Start, FromZero, Stride, ByOne, Code, End, Performs, Assigns, Loads, Stores, AssignsFour, LoadsFour, StoresFour, Loops, Guards, Syncs, Kernel}
use Rattle.kernel_tree.specs.Grammar.{deepest, height, lanes_height, is_operator, is_constant, names_declared, is_expression, names_declared_in_lanes, are_lanes, is_readable, is_writable, is_shared, has_statement, is_statement, are_statements, are_lengths, largest_group}
use Rattle.kernel_tree.specs.KernelText.{Piece, space, line, comma, semicolon, star, equals, less, plus, bar, greater, question, colon, opens, closes, index_begins, index_ends, block_begins, block_ends, global, local, const, uint, uint4, loads_four, stores_four, for, whether, barrier, local_flag, global_flag, one, dimension, void, attribute, group_size, id_name, indent, array_name, size, variable, vector, loop_variable, literal, zero_literal, one_literal, number_limit, Part, Launching, GroupWidth, GroupHeight, Parameter, Pointer, NewInput, NewOutput, AfterOutput, OutputOrSize, NewSize, AfterSize, Locals, NewLocal, LocalLength, Privates, Declared, PrivateLength, Variables, NewVariable, Vectors, NewVector, Statement, Next, Source, SourceOfFour, LoadedFour, StoredFour, Fence, AfterLocal, Beginning, BeginningId, BeginningAlong, Step, StepId, StepAlong, Turn, Indent, Value, Opened, InLanes, LanesOpened, LanesRest, LanesAfterLess, IdName, IdAlong, Rest, AfterLess, Note, Leaf, Both, Either, SpreadOut, EachOf, Stop, Assign, Load, Store, AssignFour, LoadFour, StoreFour, Loop, Guard, Sync, Notes, counted, Item, texts, Names, a_variable, a_loop_variable, a_size, IsSign, adds, subtracts, multiplies, divides, leaves, ands, ors, xors, IsCall, takes_least, takes_greatest, start_at, stride_by, stored, another_line, loop_test, loop_body, guard_test, after_start, operated, operated_each, compared, Gives, any_group, fixed_group, group_width, group_height, an_input, pointer_to_const, pointer, new_input, new_output, last_output, more_outputs, another_output, first_size, new_size, last_size, more_sizes, a_local, no_local, new_local, local_length, a_declaration, no_declaration, new_private, first_variable, private_length, another_variable, no_variable, new_variable, a_vector, statements, new_vector, assign, store, loop, guard, meet, load, value, assign_four, load_four, loaded_four, value_of_four, store_four, stored_four, another, end, end_of_block, indented, fences_local, fences_global, local_alone, fences_both, turn, from_zero, from_id, from_this_id, from_along, by_one, by_count, by_this_count, by_along, number, named_value, call, open_value, an_id, both, this_id, id_along, sign, shift_right, equal, less_or_shift, shift_left, is_less, vector_value, lanes_call, open_lanes, spread_out, both_lanes, lanes_sign, lanes_right, lanes_less, lanes_left, noted, both_of, either_of, with_lanes, each_of, load_four_of, store_four_of, marked, kernels}
use Rattle.kernel_spelling.specs.Spelling.{spell_id, is_called, spell_sign, spell, spell_lanes, spell_start, spell_stride, loop_line, step_line, block_line, guard_line, start_line, assign_line, assign_four_line, spell_code, spell_locals, spell_privates, spell_variables, spell_vectors, spell_sizes, spell_outputs, spell_inputs, first_output, spell_launching}
use Rattle.kernel_spelling.specs.Meaning.{CountsFit, FitsAt, IsValue, Tail, Operated, Compared, with_tail, spell_tail, TailFits, IsTail, IsId, LanesFit, AreLanes, IsLanesTail, IsCode, IsStatement, IsRound, IsShared, AreVectors, AreVariables, ArePrivates, AreLocals, width_line, local_line, private_line, Means}

abbrev All : List Item → Notes → List Piece → Notes → List Piece → Type 0
All o n ts n1 back = AllMean kernels Means o n ts n1 back

abbrev pub before : List Piece → List Piece → List Piece
before [] back = back
before (p ∷ ps) back = p ∷ before ps back

pub at_tokens : (ps : List Piece) (o : List Item) (n : Notes) (ts : List Piece) (n1 : Notes) (back : List Piece) → All (texts ps ++ o) n ts n1 back → (mid : List Piece) × (ts ≡ before ps mid) × All o n mid n1 back
at_tokens [] o n ts n1 back h = (ts, refl, h)
at_tokens (p ∷ ps) o n ts n1 back h =
    let q = at_tokens ps o n h.0 n1 back h.2 in (q.0, h.1 ∙ ap (λ z. p ∷ z) q.1, q.2)

at_turn : (l : ℕ) (o : List Item) (n : Notes) (ts : List Piece) (n1 : Notes) (back : List Piece) → All (Form (Turn l) ∷ o) n ts n1 back → (mid : List Piece) × (ts ≡ loop_variable l ∷ mid) × All o n mid n1 back
at_turn l o n ts n1 back h = (h.1, h.2.0, subst (λ z. All o z h.1 n1 back) (sym h.2.1) h.3)

pub at_indent : (l : ℕ) (o : List Item) (n : Notes) (ts : List Piece) (n1 : Notes) (back : List Piece) → All (Form (Indent l) ∷ o) n ts n1 back → (mid : List Piece) × (ts ≡ indent l ∷ mid) × All o n mid n1 back
at_indent l o n ts n1 back h = (h.1, h.2.0, subst (λ z. All o z h.1 n1 back) (sym h.2.1) h.3)

at_value : (b : Bool) (l d : ℕ) (o : List Item) (n : Notes) (ts : List Piece) (n1 : Notes) (back : List Piece) → All (Form (Value b l d) ∷ o) n ts n1 back → (e : Formula) × (mid : List Piece) × FitsAt n b l d e × (ts ≡ spell e mid) × All o (noted n (e ∷ n.values) n.blocks) mid n1 back
at_value b l d o n ts n1 back h = (h.2.value, h.1, h.2.fits, h.2.spelled, subst (λ z. All o z h.1 n1 back) h.2.noted h.3)

at_next : (l nest : ℕ) (o : List Item) (n : Notes) (ts : List Piece) (n1 : Notes) (back : List Piece) → All (Form (Next l nest) ∷ o) n ts n1 back → (c : Code) × (mid : List Piece) × (are_statements (counted n) l nest c ≡ true) × (ts ≡ spell_code l nest c mid) × All o (noted n n.values (c ∷ n.blocks)) mid n1 back
at_next l nest o n ts n1 back h = (h.2.code, h.1, h.2.fits, h.2.spelled, subst (λ z. All o z h.1 n1 back) h.2.noted h.3)

at_statement : (l nest : ℕ) (o : List Item) (n : Notes) (ts : List Piece) (n1 : Notes) (back : List Piece) → All (Form (Statement l nest) ∷ o) n ts n1 back → (c : Code) × (mid : List Piece) × (are_statements (counted n) l nest c ≡ true) × (indent (suc nest) ∷ ts ≡ spell_code l nest c mid) × All o (noted n n.values (c ∷ n.blocks)) mid n1 back × (has_statement c ≡ true)
at_statement l nest o n ts n1 back h = let c = h.2.0 in (c.code, h.1, c.fits, c.spelled, subst (λ z. All o z h.1 n1 back) c.noted h.3, h.2.1)

at_lanes : (l d : ℕ) (o : List Item) (n : Notes) (ts : List Piece) (n1 : Notes) (back : List Piece) → All (Form (InLanes l d) ∷ o) n ts n1 back → (e : Lanes) × (mid : List Piece) × LanesFit n l d e × (ts ≡ spell_lanes e mid) × All o (with_lanes n n.values (e ∷ n.lanes) n.blocks) mid n1 back
at_lanes l d o n ts n1 back h = (h.2.value, h.1, h.2.fits, h.2.spelled, subst (λ z. All o z h.1 n1 back) h.2.noted h.3)

-- a mark that makes m, last in an alternative
made : (m n1 n2 : Notes) → Some m ≡ Some n2 → n2 ≡ n1 → n1 ≡ m
made m n1 n2 e k = sym (same_Some _ _ e ∙ k)

-- the end of a line, and what follows it
at_stored : (l nest : ℕ) (note : Note) (n : Notes) (ts : List Piece) (n1 : Notes) (back : List Piece) → All (stored l nest note) n ts n1 back → (c : Code) × (are_statements (counted n) l nest c ≡ true) × (ts ≡ semicolon ∷ line ∷ spell_code l nest c back) × (marked note (noted n n.values (c ∷ n.blocks)) ≡ Some n1)
at_stored l nest note n ts n1 back h =
    let a = at_tokens (semicolon ∷ line ∷ []) (Form (Next l nest) ∷ Mark note ∷ []) n ts n1 back h in
    let b = at_next l nest (Mark note ∷ []) n a.0 n1 back a.2 in
    (b.0, b.2, a.1 ∙ ap (λ z. semicolon ∷ line ∷ z) (b.3 ∙ ap (spell_code l nest b.0) b.4.2.1), b.4.1 ∙ ap Some b.4.2.0)

expression : (n : Notes) (b : Bool) (l : ℕ) (e : Formula) → FitsAt n b l 1 e → is_expression (counted n) l e ≡ true
expression n b l e f = and_from (names_declared (counted n) l e) (nat_le (height e) deepest) f.0 (le-leb (height e) deepest (let h : height e + 1 ≤ 1025 = f.2 in omega (arith, h)))

-- ---- expressions

leaf_depth : (d : ℕ) → d ≤ deepest → 1 + d ≤ 1025
leaf_depth d deep = let w : d ≤ 1024 = deep in omega (arith, w)

name : (n : Notes) (b : Bool) (l d : ℕ) (p : Piece) (e : Formula) → d ≤ deepest → Names n b l p e → FitsAt n b l d e × ((back : List Piece) → p ∷ back ≡ spell e back)
name n b l d p e deep (a_variable {k = k} small fits) = ((lt-ltb k n.variables fits, λ h. absurd (cc (h)), leaf_depth d deep), λ back. refl)
name n b l d p e deep (a_loop_variable {k = k} small fits) = ((lt-ltb k l fits, λ h. absurd (cc (h)), leaf_depth d deep), λ back. refl)
name n b l d p e deep (a_size {k = k} small fits) = ((lt-ltb k n.sizes fits, λ h. refl, leaf_depth d deep), λ back. refl)

max_plus : (x y d : ℕ) → x + suc d ≤ 1025 → y + suc d ≤ 1025 → suc (max x y) + d ≤ 1025
max_plus x y d h k =
    let m : max x y ≤ 1024 - d = max-le (omega (arith, h)) (omega (arith, k)) in
    omega (arith, m, h)

max_within : (x y d : ℕ) → x + suc d ≤ 1025 → y + suc d ≤ 1025 → max x y + suc d ≤ 1025
max_within x y d h k = let m = max_plus x y d h k in omega (arith, m)

pair : (n : Notes) (b : Bool) (l d : ℕ) (op : Op) (x y : Formula) → is_operator op ≡ true → FitsAt n b l (suc d) x → FitsAt n b l (suc d) y → FitsAt n b l d (Binary op x y)
pair n b l d op x y o f g = (
  and_from (is_operator op) _ o (and_from (names_declared (counted n) l x) (names_declared (counted n) l y) f.0 g.0),
  λ h. and_from (is_constant x) (is_constant y) (f.1 h) (g.1 h),
  max_plus (height x) (height y) d f.2 g.2,
)

four : (n : Notes) (b : Bool) (l d : ℕ) (c : Comparison) (e a x y : Formula) → FitsAt n b l (suc d) e → FitsAt n b l (suc d) a → FitsAt n b l (suc d) x → FitsAt n b l (suc d) y → FitsAt n b l d (Choose c e a x y)
four n b l d c e a x y f g h k = (
  and_from (names_declared (counted n) l e && names_declared (counted n) l a) _ (and_from (names_declared (counted n) l e) _ f.0 g.0) (and_from (names_declared (counted n) l x) _ h.0 k.0),
  λ is. and_from (is_constant e && is_constant a) _ (and_from (is_constant e) _ (f.1 is) (g.1 is)) (and_from (is_constant x) _ (h.1 is) (k.1 is)),
  max_plus (max (height e) (height a)) (max (height x) (height y)) d (max_within (height e) (height a) d f.2 g.2) (max_within (height x) (height y) d h.2 k.2),
)

tail_fits : (n : Notes) (b : Bool) (l d : ℕ) (a : Formula) (tail : Tail) → FitsAt n b l (suc d) a → TailFits n b l (suc d) tail → FitsAt n b l d (with_tail a tail)
tail_fits n b l d a (Operated op e) f t = pair n b l d op a e t.0 f t.2
tail_fits n b l d a (Compared c e x y) f t = four n b l d c a e x y f t.0 t.1 t.2

pub spelled_between : (op : Op) (a b : Formula) → is_called op ≡ false → (back : List Piece) → opens ∷ spell a (space ∷ spell_sign op (space ∷ spell b (closes ∷ back))) ≡ spell (Binary op a b) back
spelled_between Min a b h back = absurd (cc (h))
spelled_between Max a b h back = absurd (cc (h))
spelled_between _ a b h back = refl

spelled_tail : (n : Notes) (b : Bool) (l d : ℕ) (a : Formula) (tail : Tail) → TailFits n b l d tail → (back : List Piece) → opens ∷ spell a (space ∷ spell_tail tail back) ≡ spell (with_tail a tail) back
spelled_tail n b l d a (Operated op e) t back = spelled_between op a e t.1 back
spelled_tail n b l d a (Compared c e x y) t back = refl

-- an operator's right part
at_operated : (b : Bool) (l d : ℕ) (op : Op) (n : Notes) (ts : List Piece) (n1 : Notes) (back : List Piece) → All (operated b l d op) n ts n1 back → (e : Formula) × FitsAt n b l d e × (ts ≡ spell e (closes ∷ back)) × (both_of n op (e ∷ n.values) ≡ Some n1)
at_operated b l d op n ts n1 back h =
    let m : List Item = Mark (Both op) ∷ [] in
    let v = at_value b l d (Token closes ∷ m) n ts n1 back h in
    let c = at_tokens (closes ∷ []) m (noted n (v.0 ∷ n.values) n.blocks) v.1 n1 back v.4 in
    (v.0, v.2, v.3 ∙ ap (spell v.0) (c.1 ∙ ap (λ z. closes ∷ z) c.2.2.1), c.2.1 ∙ ap Some c.2.2.0)

abbrev spell_choices : Formula → Formula → Formula → List Piece → List Piece
spell_choices e x y back = spell e (space ∷ question ∷ space ∷ spell x (space ∷ colon ∷ space ∷ spell y (closes ∷ back)))

-- a comparison's right part, and the choices
at_compared : (b : Bool) (l d : ℕ) (c : Comparison) (n : Notes) (ts : List Piece) (n1 : Notes) (back : List Piece) → All (compared b l d c) n ts n1 back
    → (e : Formula) × (x : Formula) × (y : Formula) × (FitsAt n b l d e × FitsAt n b l d x × FitsAt n b l d y) × (ts ≡ spell_choices e x y back) × (either_of n c (y ∷ x ∷ e ∷ n.values) ≡ Some n1)
at_compared b l d c n ts n1 back h =
    let m : List Item = Mark (Either c) ∷ [] in
    let r : List Item = Form (Value b l d) ∷ Token closes ∷ m in
    let q : List Item = Form (Value b l d) ∷ texts (space ∷ colon ∷ space ∷ []) ++ r in
    let u = at_value b l d (texts (space ∷ question ∷ space ∷ []) ++ q) n ts n1 back h in
    let n2 = noted n (u.0 ∷ n.values) n.blocks in
    let a = at_tokens (space ∷ question ∷ space ∷ []) q n2 u.1 n1 back u.4 in
    let v = at_value b l d (texts (space ∷ colon ∷ space ∷ []) ++ r) n2 a.0 n1 back a.2 in
    let n3 = noted n (v.0 ∷ u.0 ∷ n.values) n.blocks in
    let g = at_tokens (space ∷ colon ∷ space ∷ []) r n3 v.1 n1 back v.4 in
    let w = at_value b l d (Token closes ∷ m) n3 g.0 n1 back g.2 in
    let f = at_tokens (closes ∷ []) m (noted n (w.0 ∷ v.0 ∷ u.0 ∷ n.values) n.blocks) w.1 n1 back w.4 in
    let last : g.0 ≡ spell w.0 (closes ∷ back) = w.3 ∙ ap (spell w.0) (f.1 ∙ ap (λ z. closes ∷ z) f.2.2.1) in
    let middle : a.0 ≡ spell v.0 (space ∷ colon ∷ space ∷ spell w.0 (closes ∷ back)) = v.3 ∙ ap (spell v.0) (g.1 ∙ ap (λ z. space ∷ colon ∷ space ∷ z) last) in
    (u.0, v.0, w.0, (u.2, v.2, w.2), u.3 ∙ ap (spell u.0) (a.1 ∙ ap (λ z. space ∷ question ∷ space ∷ z) middle), f.2.1 ∙ ap Some f.2.2.0)

operator_called : (p : Piece) (op : Op) → IsCall p op → is_operator op ≡ true
operator_called p op takes_least = refl
operator_called p op takes_greatest = refl

spelled_call : (p : Piece) (op : Op) → IsCall p op → (a b : Formula) (back : List Piece) → p ∷ opens ∷ spell a (comma ∷ space ∷ spell b (closes ∷ back)) ≡ spell (Binary op a b) back
spelled_call p op takes_least a b back = refl
spelled_call p op takes_greatest a b back = refl

kept_value : (n : Notes) (b : Bool) (l d : ℕ) (t : Piece) (alt : List Item) → Gives n (Value b l d) t alt → (ts : List Piece) (n1 : Notes) (back : List Piece) → All alt n ts n1 back → IsValue (λ z. z) n b l d (t ∷ ts) n1 back
kept_value n b l d t alt (number {v = v} deep small) ts n1 back h = record {
  value = Number v;
  fits = (lt-ltb v (2 ^ 32) small, λ c. refl, leaf_depth d deep);
  spelled = ap (λ z. literal v ∷ z) h.2.1;
  noted = made _ n1 h.0 h.1 h.2.0;
}
kept_value n b l d t alt (named_value {p = p} {e = e} deep known) ts n1 back h =
    let f = name n b l d p e deep known in
    record { value = e; fits = f.0; spelled = ap (λ z. p ∷ z) h.2.1 ∙ f.1 back; noted = made _ n1 h.0 h.1 h.2.0 }
kept_value n b l d t alt (call {op = op} deep is) ts n1 back h =
    let o : List Item = operated b l (suc d) op in
    let a = at_tokens (opens ∷ []) (Form (Value b l (suc d)) ∷ texts (comma ∷ space ∷ []) ++ o) n ts n1 back h in
    let v = at_value b l (suc d) (texts (comma ∷ space ∷ []) ++ o) n a.0 n1 back a.2 in
    let n2 = noted n (v.0 ∷ n.values) n.blocks in
    let c = at_tokens (comma ∷ space ∷ []) o n2 v.1 n1 back v.4 in
    let r = at_operated b l (suc d) op n2 c.0 n1 back c.2 in
    record {
      value = Binary op v.0 r.0;
      fits = pair n b l d op v.0 r.0 (operator_called t op is) v.2 r.1;
      spelled = ap (λ z. t ∷ z) (a.1 ∙ ap (λ z. opens ∷ z) (v.3 ∙ ap (spell v.0) (c.1 ∙ ap (λ z. comma ∷ space ∷ z) r.2))) ∙ spelled_call t op is v.0 r.0 back;
      noted = sym (same_Some _ _ r.3);
    }
kept_value n b l d t alt (open_value deep) ts n1 back h =
    let v = h.2 deep in
    record { value = v.value; fits = v.fits; spelled = v.spelled ∙ ap (spell v.value) h.3.1; noted = sym h.3.0 ∙ v.noted }

kept_opened : (n : Notes) (b : Bool) (l d : ℕ) (t : Piece) (alt : List Item) → Gives n (Opened b l d) t alt → (ts : List Piece) (n1 : Notes) (back : List Piece) → All alt n ts n1 back → Means n (Opened b l d) (t ∷ ts) n1 back
kept_opened n b l d t alt an_id ts n1 back h = λ deep.
    let a = at_tokens (closes ∷ []) (Form IdName ∷ []) n ts n1 back h in
    let i = a.2.2 in
    record {
      value = Id i.along i.form;
      fits = (refl, λ c. absurd (cc (c)), leaf_depth d deep);
      spelled = ap (λ z. opens ∷ uint ∷ z) (a.1 ∙ ap (λ z. closes ∷ z) (i.spelled ∙ ap (λ z. id_name i.form ∷ opens ∷ dimension i.along ∷ closes ∷ z) a.2.3.1));
      noted = sym a.2.3.0 ∙ i.noted;
    }
kept_opened n b l d t alt (both {alternative = given} g) ts n1 back h = λ deep.
    let o : List Item = Form (Rest b l (suc d)) ∷ [] in
    let q = split kernels Means given (Token space ∷ o) n ts n1 back h in
    let v = kept_value n b l (suc d) t given g ts q.0 q.1 q.2 in
    let n2 = noted n (v.value ∷ n.values) n.blocks in
    let c = at_tokens (space ∷ []) o n2 q.1 n1 back (subst (λ z. All (Token space ∷ o) z q.1 n1 back) v.noted q.3) in
    let r = c.2.2 in
    record {
      value = with_tail v.value r.tail;
      fits = tail_fits n b l d v.value r.tail v.fits r.fits;
      spelled = ap (λ z. opens ∷ z) (v.spelled ∙ ap (spell v.value) (c.1 ∙ ap (λ z. space ∷ z) (r.spelled ∙ ap (spell_tail r.tail) c.2.3.1))) ∙ spelled_tail n2 b l (suc d) v.value r.tail r.fits back;
      noted = sym c.2.3.0 ∙ r.noted v.value n.values refl;
    }

kept_id : (n : Notes) (t : Piece) (alt : List Item) → Gives n IdName t alt → (ts : List Piece) (n1 : Notes) (back : List Piece) → All alt n ts n1 back → IsId (λ z. z) n (t ∷ ts) n1 back
kept_id n t alt (this_id {form = form}) ts n1 back h =
    let a = at_tokens (opens ∷ []) (Form (IdAlong form) ∷ []) n ts n1 back h in
    let i = a.2.2 in
    record {
      along = i.along;
      form = i.form;
      spelled = ap (λ z. id_name form ∷ z) a.1 ∙ i.spelled ∙ ap (λ z. id_name i.form ∷ opens ∷ dimension i.along ∷ closes ∷ z) a.2.3.1;
      noted = sym a.2.3.0 ∙ i.noted;
    }

kept_id_along : (n : Notes) (form : IdForm) (t : Piece) (alt : List Item) → Gives n (IdAlong form) t alt → (ts : List Piece) (n1 : Notes) (back : List Piece) → All alt n ts n1 back → IsId (λ z. id_name form ∷ opens ∷ z) n (t ∷ ts) n1 back
kept_id_along n form t alt (id_along {d = d}) ts n1 back h =
    let a = at_tokens (closes ∷ []) (Mark (Leaf (Id d form)) ∷ []) n ts n1 back h in
    record {
      along = d;
      form = form;
      spelled = ap (λ z. id_name form ∷ opens ∷ dimension d ∷ z) (a.1 ∙ ap (λ z. closes ∷ z) a.2.2.1);
      noted = made _ n1 a.2.0 a.2.1 a.2.2.0;
    }

sign_fits : (p : Piece) (op : Op) → IsSign p op → (is_operator op ≡ true) × (is_called op ≡ false) × ((back : List Piece) → p ∷ back ≡ spell_sign op back)
sign_fits p op adds = (refl, refl, λ back. refl)
sign_fits p op subtracts = (refl, refl, λ back. refl)
sign_fits p op multiplies = (refl, refl, λ back. refl)
sign_fits p op divides = (refl, refl, λ back. refl)
sign_fits p op leaves = (refl, refl, λ back. refl)
sign_fits p op ands = (refl, refl, λ back. refl)
sign_fits p op ors = (refl, refl, λ back. refl)
sign_fits p op xors = (refl, refl, λ back. refl)

both_made : (n n1 : Notes) (op : Op) (x a : Formula) (values vs : List Formula) → vs ≡ a ∷ values → both_of n op (x ∷ vs) ≡ Some n1 → n1 ≡ noted n (Binary op a x ∷ values) n.blocks
both_made n n1 op x a values vs e h = sym (same_Some _ _ (sym (ap (λ z. both_of n op (x ∷ z)) e) ∙ h))

either_made : (n n1 : Notes) (c : Comparison) (e x y a : Formula) (values vs : List Formula) → vs ≡ a ∷ values → either_of n c (y ∷ x ∷ e ∷ vs) ≡ Some n1 → n1 ≡ noted n (Choose c a e x y ∷ values) n.blocks
either_made n n1 c e x y a values vs same h = sym (same_Some _ _ (sym (ap (λ z. either_of n c (y ∷ x ∷ e ∷ z)) same) ∙ h))

kept_rest : (n : Notes) (b : Bool) (l d : ℕ) (t : Piece) (alt : List Item) → Gives n (Rest b l d) t alt → (ts : List Piece) (n1 : Notes) (back : List Piece) → All alt n ts n1 back → IsTail (λ z. z) n b l d (t ∷ ts) n1 back
kept_rest n b l d t alt (sign {op = op} is) ts n1 back h =
    let a = at_tokens (space ∷ []) (operated b l d op) n ts n1 back h in
    let r = at_operated b l d op n a.0 n1 back a.2 in
    let s = sign_fits t op is in
    record {
      tail = Operated op r.0;
      fits = (s.0, s.1, r.1);
      spelled = ap (λ z. t ∷ z) (a.1 ∙ ap (λ z. space ∷ z) r.2) ∙ s.2 (space ∷ spell r.0 (closes ∷ back));
      noted = λ x values e. both_made n n1 op r.0 x values n.values e r.3;
    }
kept_rest n b l d t alt shift_right ts n1 back h =
    let a = at_tokens (greater ∷ space ∷ []) (operated b l d Shr) n ts n1 back h in
    let r = at_operated b l d Shr n a.0 n1 back a.2 in
    record {
      tail = Operated Shr r.0;
      fits = (refl, refl, r.1);
      spelled = ap (λ z. greater ∷ z) (a.1 ∙ ap (λ z. greater ∷ space ∷ z) r.2);
      noted = λ x values e. both_made n n1 Shr r.0 x values n.values e r.3;
    }
kept_rest n b l d t alt equal ts n1 back h =
    let a = at_tokens (equals ∷ space ∷ []) (compared b l d Equal) n ts n1 back h in
    let r = at_compared b l d Equal n a.0 n1 back a.2 in
    record {
      tail = Compared Equal r.0 r.1 r.2;
      fits = r.3;
      spelled = ap (λ z. equals ∷ z) (a.1 ∙ ap (λ z. equals ∷ space ∷ z) r.4);
      noted = λ x values e. either_made n n1 Equal r.0 r.1 r.2 x values n.values e r.5;
    }
kept_rest n b l d t alt less_or_shift ts n1 back h =
    let r = h.2 in
    record {
      tail = r.tail;
      fits = r.fits;
      spelled = r.spelled ∙ ap (spell_tail r.tail) h.3.1;
      noted = λ x values e. sym h.3.0 ∙ r.noted x values e;
    }

kept_after_less : (n : Notes) (b : Bool) (l d : ℕ) (t : Piece) (alt : List Item) → Gives n (AfterLess b l d) t alt → (ts : List Piece) (n1 : Notes) (back : List Piece) → All alt n ts n1 back → IsTail (λ z. less ∷ z) n b l d (t ∷ ts) n1 back
kept_after_less n b l d t alt shift_left ts n1 back h =
    let a = at_tokens (space ∷ []) (operated b l d Shl) n ts n1 back h in
    let r = at_operated b l d Shl n a.0 n1 back a.2 in
    record {
      tail = Operated Shl r.0;
      fits = (refl, refl, r.1);
      spelled = ap (λ z. less ∷ less ∷ z) (a.1 ∙ ap (λ z. space ∷ z) r.2);
      noted = λ x values e. both_made n n1 Shl r.0 x values n.values e r.3;
    }
kept_after_less n b l d t alt is_less ts n1 back h =
    let r = at_compared b l d Less n ts n1 back h in
    record {
      tail = Compared Less r.0 r.1 r.2;
      fits = r.3;
      spelled = ap (λ z. less ∷ space ∷ z) r.4;
      noted = λ x values e. either_made n n1 Less r.0 r.1 r.2 x values n.values e r.5;
    }

-- ---- expressions of four words

four_words : (n : Notes) (l : ℕ) (e : Lanes) → LanesFit n l 1 e → are_lanes (counted n) l e ≡ true
four_words n l e f = and_from (names_declared_in_lanes (counted n) l e) (nat_le (lanes_height e) deepest) f.0 (le-leb (lanes_height e) deepest (let h : lanes_height e + 1 ≤ 1025 = f.1 in omega (arith, h)))

lane_pair : (n : Notes) (l d : ℕ) (op : Op) (x y : Lanes) → is_operator op ≡ true → LanesFit n l (suc d) x → LanesFit n l (suc d) y → LanesFit n l d (Each op x y)
lane_pair n l d op x y o f g = (
  and_from (is_operator op) _ o (and_from (names_declared_in_lanes (counted n) l x) (names_declared_in_lanes (counted n) l y) f.0 g.0),
  max_plus (lanes_height x) (lanes_height y) d f.1 g.1,
)

one_deeper : (x d : ℕ) → x + suc d ≤ 1025 → suc x + d ≤ 1025
one_deeper x d h = omega (arith, h)

pub lanes_between : (op : Op) (a b : Lanes) → is_called op ≡ false → (back : List Piece) → opens ∷ spell_lanes a (space ∷ spell_sign op (space ∷ spell_lanes b (closes ∷ back))) ≡ spell_lanes (Each op a b) back
lanes_between Min a b h back = absurd (cc (h))
lanes_between Max a b h back = absurd (cc (h))
lanes_between _ a b h back = refl

lanes_called : (p : Piece) (op : Op) → IsCall p op → (a b : Lanes) (back : List Piece) → p ∷ opens ∷ spell_lanes a (comma ∷ space ∷ spell_lanes b (closes ∷ back)) ≡ spell_lanes (Each op a b) back
lanes_called p op takes_least a b back = refl
lanes_called p op takes_greatest a b back = refl

-- an operator's right part
at_operated_each : (l d : ℕ) (op : Op) (n : Notes) (ts : List Piece) (n1 : Notes) (back : List Piece) → All (operated_each l d op) n ts n1 back → (e : Lanes) × LanesFit n l d e × (ts ≡ spell_lanes e (closes ∷ back)) × (each_of n op (e ∷ n.lanes) ≡ Some n1)
at_operated_each l d op n ts n1 back h =
    let m : List Item = Mark (EachOf op) ∷ [] in
    let v = at_lanes l d (Token closes ∷ m) n ts n1 back h in
    let c = at_tokens (closes ∷ []) m (with_lanes n n.values (v.0 ∷ n.lanes) n.blocks) v.1 n1 back v.4 in
    (v.0, v.2, v.3 ∙ ap (spell_lanes v.0) (c.1 ∙ ap (λ z. closes ∷ z) c.2.2.1), c.2.1 ∙ ap Some c.2.2.0)

kept_lanes : (n : Notes) (l d : ℕ) (t : Piece) (alt : List Item) → Gives n (InLanes l d) t alt → (ts : List Piece) (n1 : Notes) (back : List Piece) → All alt n ts n1 back → AreLanes (λ z. z) n l d (t ∷ ts) n1 back
kept_lanes n l d t alt (vector_value {k = k} deep small fits) ts n1 back h = record {
  value = Vector k;
  fits = (lt-ltb k n.vectors fits, leaf_depth d deep);
  spelled = ap (λ z. vector k ∷ z) h.2.1;
  noted = made _ n1 h.0 h.1 h.2.0;
}
kept_lanes n l d t alt (lanes_call {op = op} deep is) ts n1 back h =
    let o : List Item = operated_each l (suc d) op in
    let a = at_tokens (opens ∷ []) (Form (InLanes l (suc d)) ∷ texts (comma ∷ space ∷ []) ++ o) n ts n1 back h in
    let v = at_lanes l (suc d) (texts (comma ∷ space ∷ []) ++ o) n a.0 n1 back a.2 in
    let n2 = with_lanes n n.values (v.0 ∷ n.lanes) n.blocks in
    let c = at_tokens (comma ∷ space ∷ []) o n2 v.1 n1 back v.4 in
    let r = at_operated_each l (suc d) op n2 c.0 n1 back c.2 in
    record {
      value = Each op v.0 r.0;
      fits = lane_pair n l d op v.0 r.0 (operator_called t op is) v.2 r.1;
      spelled = ap (λ z. t ∷ z) (a.1 ∙ ap (λ z. opens ∷ z) (v.3 ∙ ap (spell_lanes v.0) (c.1 ∙ ap (λ z. comma ∷ space ∷ z) r.2))) ∙ lanes_called t op is v.0 r.0 back;
      noted = sym (same_Some _ _ r.3);
    }
kept_lanes n l d t alt (open_lanes deep) ts n1 back h =
    let v = h.2 deep in
    record { value = v.value; fits = v.fits; spelled = v.spelled ∙ ap (spell_lanes v.value) h.3.1; noted = sym h.3.0 ∙ v.noted }

kept_lanes_opened : (n : Notes) (l d : ℕ) (t : Piece) (alt : List Item) → Gives n (LanesOpened l d) t alt → (ts : List Piece) (n1 : Notes) (back : List Piece) → All alt n ts n1 back → Means n (LanesOpened l d) (t ∷ ts) n1 back
kept_lanes_opened n l d t alt spread_out ts n1 back h = λ deep.
    let m : List Item = Mark SpreadOut ∷ [] in
    let a = at_tokens (closes ∷ opens ∷ []) (Form (Value false l (suc d)) ∷ Token closes ∷ m) n ts n1 back h in
    let v = at_value false l (suc d) (Token closes ∷ m) n a.0 n1 back a.2 in
    let c = at_tokens (closes ∷ []) m (noted n (v.0 ∷ n.values) n.blocks) v.1 n1 back v.4 in
    record {
      value = Spread v.0;
      fits = (v.2.0, one_deeper (height v.0) d v.2.2);
      spelled = ap (λ z. opens ∷ uint4 ∷ z) (a.1 ∙ ap (λ z. closes ∷ opens ∷ z) (v.3 ∙ ap (spell v.0) (c.1 ∙ ap (λ z. closes ∷ z) c.2.2.1)));
      noted = made _ n1 c.2.0 c.2.1 c.2.2.0;
    }
kept_lanes_opened n l d t alt (both_lanes {alternative = given} g) ts n1 back h = λ deep.
    let o : List Item = Form (LanesRest l (suc d)) ∷ [] in
    let q = split kernels Means given (Token space ∷ o) n ts n1 back h in
    let v = kept_lanes n l (suc d) t given g ts q.0 q.1 q.2 in
    let n2 = with_lanes n n.values (v.value ∷ n.lanes) n.blocks in
    let c = at_tokens (space ∷ []) o n2 q.1 n1 back (subst (λ z. All (Token space ∷ o) z q.1 n1 back) v.noted q.3) in
    let r = c.2.2 in
    record {
      value = Each r.op v.value r.right;
      fits = lane_pair n l d r.op v.value r.right r.operator v.fits r.fits;
      spelled = ap (λ z. opens ∷ z) (v.spelled ∙ ap (spell_lanes v.value) (c.1 ∙ ap (λ z. space ∷ z) (r.spelled ∙ ap (λ z. spell_sign r.op (space ∷ spell_lanes r.right (closes ∷ z))) c.2.3.1))) ∙ lanes_between r.op v.value r.right r.between back;
      noted = sym c.2.3.0 ∙ r.noted v.value n.lanes refl;
    }

each_made : (n n1 : Notes) (op : Op) (x a : Lanes) (lanes ls : List Lanes) → ls ≡ a ∷ lanes → each_of n op (x ∷ ls) ≡ Some n1 → n1 ≡ with_lanes n n.values (Each op a x ∷ lanes) n.blocks
each_made n n1 op x a lanes ls e h = sym (same_Some _ _ (sym (ap (λ z. each_of n op (x ∷ z)) e) ∙ h))

kept_lanes_rest : (n : Notes) (l d : ℕ) (t : Piece) (alt : List Item) → Gives n (LanesRest l d) t alt → (ts : List Piece) (n1 : Notes) (back : List Piece) → All alt n ts n1 back → IsLanesTail (λ z. z) n l d (t ∷ ts) n1 back
kept_lanes_rest n l d t alt (lanes_sign {op = op} is) ts n1 back h =
    let a = at_tokens (space ∷ []) (operated_each l d op) n ts n1 back h in
    let r = at_operated_each l d op n a.0 n1 back a.2 in
    let s = sign_fits t op is in
    record {
      op = op;
      right = r.0;
      operator = s.0;
      between = s.1;
      fits = r.1;
      spelled = ap (λ z. t ∷ z) (a.1 ∙ ap (λ z. space ∷ z) r.2) ∙ s.2 (space ∷ spell_lanes r.0 (closes ∷ back));
      noted = λ x lanes e. each_made n n1 op r.0 x lanes n.lanes e r.3;
    }
kept_lanes_rest n l d t alt lanes_right ts n1 back h =
    let a = at_tokens (greater ∷ space ∷ []) (operated_each l d Shr) n ts n1 back h in
    let r = at_operated_each l d Shr n a.0 n1 back a.2 in
    record {
      op = Shr;
      right = r.0;
      operator = refl;
      between = refl;
      fits = r.1;
      spelled = ap (λ z. greater ∷ z) (a.1 ∙ ap (λ z. greater ∷ space ∷ z) r.2);
      noted = λ x lanes e. each_made n n1 Shr r.0 x lanes n.lanes e r.3;
    }
kept_lanes_rest n l d t alt lanes_less ts n1 back h =
    let r = h.2 in
    record {
      op = r.op;
      right = r.right;
      operator = r.operator;
      between = r.between;
      fits = r.fits;
      spelled = r.spelled ∙ ap (λ z. spell_sign r.op (space ∷ spell_lanes r.right (closes ∷ z))) h.3.1;
      noted = λ x lanes e. sym h.3.0 ∙ r.noted x lanes e;
    }

kept_lanes_after_less : (n : Notes) (l d : ℕ) (t : Piece) (alt : List Item) → Gives n (LanesAfterLess l d) t alt → (ts : List Piece) (n1 : Notes) (back : List Piece) → All alt n ts n1 back → IsLanesTail (λ z. less ∷ z) n l d (t ∷ ts) n1 back
kept_lanes_after_less n l d t alt lanes_left ts n1 back h =
    let a = at_tokens (space ∷ []) (operated_each l d Shl) n ts n1 back h in
    let r = at_operated_each l d Shl n a.0 n1 back a.2 in
    record {
      op = Shl;
      right = r.0;
      operator = refl;
      between = refl;
      fits = r.1;
      spelled = ap (λ z. less ∷ less ∷ z) (a.1 ∙ ap (λ z. space ∷ z) r.2);
      noted = λ x lanes e. each_made n n1 Shl r.0 x lanes n.lanes e r.3;
    }

-- ---- statements

-- last in an alternative
last_statement : (first : List Piece → List Piece) (n : Notes) (l nest : ℕ) (ts : List Piece) (n1 n2 : Notes) (mid back : List Piece) → IsStatement first n l nest ts n2 mid → n2 ≡ n1 → mid ≡ back → IsStatement first n l nest ts n1 back
last_statement first n l nest ts n1 n2 mid back s e f = (
  record { code = s.0.code; fits = s.0.fits; spelled = s.0.spelled ∙ ap (spell_code l nest s.0.code) f; noted = sym e ∙ s.0.noted },
  s.1,
)

-- with other words before it
with_first : (first other : List Piece → List Piece) (n : Notes) (l nest : ℕ) (ts us : List Piece) (n1 : Notes) (back : List Piece) → IsStatement first n l nest ts n1 back → other us ≡ first ts → IsStatement other n l nest us n1 back
with_first first other n l nest ts us n1 back s e = (
  record { code = s.0.code; fits = s.0.fits; spelled = e ∙ s.0.spelled; noted = s.0.noted },
  s.1,
)

-- a statement and what follows it, last in an alternative
performed : (first : List Piece → List Piece) (n : Notes) (l nest : ℕ) (ts : List Piece) (n1 : Notes) (back : List Piece) (s : Performed) (after : Code) → is_statement (counted n) l s ≡ true → are_statements (counted n) l nest after ≡ true → first ts ≡ spell_code l nest (Performs s after) back → Some (noted n n.values (Performs s after ∷ n.blocks)) ≡ Some n1
    → IsStatement first n l nest ts n1 back
performed first n l nest ts n1 back s after f g e h = (
  record {
    code = Performs s after;
    fits = and_from (is_statement (counted n) l s) (are_statements (counted n) l nest after) f g;
    spelled = e;
    noted = sym (same_Some _ _ h);
  },
  refl,
)

kept_source : (n : Notes) (l nest k : ℕ) (t : Piece) (alt : List Item) → Gives n (Source l nest k) t alt → (ts : List Piece) (n1 : Notes) (back : List Piece) → All alt n ts n1 back → Means n (Source l nest k) (t ∷ ts) n1 back
kept_source n l nest k t alt (load {array = array} small may) ts n1 back h = λ fits.
    let a = at_tokens (index_begins ∷ []) (Form (Value false l 1) ∷ Token index_ends ∷ stored l nest (Load k array)) n ts n1 back h in
    let v = at_value false l 1 (Token index_ends ∷ stored l nest (Load k array)) n a.0 n1 back a.2 in
    let c = at_tokens (index_ends ∷ []) (stored l nest (Load k array)) (noted n (v.0 ∷ n.values) n.blocks) v.1 n1 back v.4 in
    let s = at_stored l nest (Load k array) (noted n (v.0 ∷ n.values) n.blocks) c.0 n1 back c.2 in
    performed (λ z. indent (suc nest) ∷ assign_line k z) n l nest (t ∷ ts) n1 back (Loads k array v.0) s.0
    (and_from (nat_lt k n.variables) _ fits (and_from (is_readable (counted n) array) _ may (expression n false l v.0 v.2))) s.1
    (ap (λ z. indent (suc nest) ∷ assign_line k (array_name array ∷ z)) (a.1 ∙ ap (λ z. index_begins ∷ z) (v.3 ∙ ap (spell v.0) (c.1 ∙ ap (λ z. index_ends ∷ z) s.2)))) s.3
kept_source n l nest k t alt (value {alternative = alternative} g) ts n1 back h = λ fits.
    let q = split kernels Means alternative (stored l nest (Assign k)) n ts n1 back h in
    let v = kept_value n false l 1 t alternative g ts q.0 q.1 q.2 in
    let m = noted n (v.value ∷ n.values) n.blocks in
    let s = at_stored l nest (Assign k) m q.1 n1 back (subst (λ z. All (stored l nest (Assign k)) z q.1 n1 back) v.noted q.3) in
    performed (λ z. indent (suc nest) ∷ assign_line k z) n l nest (t ∷ ts) n1 back (Assigns k v.value) s.0
    (and_from (nat_lt k n.variables) _ fits (expression n false l v.value v.fits)) s.1
    (ap (λ z. indent (suc nest) ∷ assign_line k z) (v.spelled ∙ ap (spell v.value) s.2)) s.3

-- ---- four words

-- an array of which four cells are loaded or to which four are stored, last in an alternative
last_shared : (may : Kernel → Array → Bool) (made : Array → List Code → Option Notes) (n : Notes) (l nest : ℕ) (ts : List Piece) (n1 n2 : Notes) (mid back : List Piece) → IsShared may made n l nest ts n2 mid → n2 ≡ n1 → mid ≡ back → IsShared may made n l nest ts n1 back
last_shared may made n l nest ts n1 n2 mid back r e f = record {
  array = r.array;
  after = r.after;
  shared = r.shared;
  allowed = r.allowed;
  after_fits = r.after_fits;
  spelled = r.spelled ∙ ap (λ z. array_name r.array ∷ closes ∷ semicolon ∷ line ∷ spell_code l nest r.after z) f;
  noted = r.noted ∙ ap Some e;
}

kept_loaded_four : (n : Notes) (l nest k : ℕ) (t : Piece) (alt : List Item) → Gives n (LoadedFour l nest k) t alt → (ts : List Piece) (n1 : Notes) (back : List Piece) → All alt n ts n1 back → Means n (LoadedFour l nest k) (t ∷ ts) n1 back
kept_loaded_four n l nest k t alt (loaded_four {array = array} small shared may) ts n1 back h =
    let a = at_tokens (closes ∷ []) (stored l nest (LoadFour k array)) n ts n1 back h in
    let s = at_stored l nest (LoadFour k array) n a.0 n1 back a.2 in
    record {
      array = array;
      after = s.0;
      shared = shared;
      allowed = may;
      after_fits = s.1;
      spelled = ap (λ z. array_name array ∷ z) (a.1 ∙ ap (λ z. closes ∷ z) s.2);
      noted = s.3;
    }

kept_stored_four : (n : Notes) (l nest : ℕ) (t : Piece) (alt : List Item) → Gives n (StoredFour l nest) t alt → (ts : List Piece) (n1 : Notes) (back : List Piece) → All alt n ts n1 back → Means n (StoredFour l nest) (t ∷ ts) n1 back
kept_stored_four n l nest t alt (stored_four {array = array} small shared may) ts n1 back h =
    let a = at_tokens (closes ∷ []) (stored l nest (StoreFour array)) n ts n1 back h in
    let s = at_stored l nest (StoreFour array) n a.0 n1 back a.2 in
    record {
      array = array;
      after = s.0;
      shared = shared;
      allowed = may;
      after_fits = s.1;
      spelled = ap (λ z. array_name array ∷ z) (a.1 ∙ ap (λ z. closes ∷ z) s.2);
      noted = s.3;
    }

kept_source_of_four : (n : Notes) (l nest k : ℕ) (t : Piece) (alt : List Item) → Gives n (SourceOfFour l nest k) t alt → (ts : List Piece) (n1 : Notes) (back : List Piece) → All alt n ts n1 back → Means n (SourceOfFour l nest k) (t ∷ ts) n1 back
kept_source_of_four n l nest k t alt load_four ts n1 back h = λ fits.
    let o : List Item = Form (LoadedFour l nest k) ∷ [] in
    let a = at_tokens (opens ∷ []) (Form (Value false l 1) ∷ texts (comma ∷ space ∷ []) ++ o) n ts n1 back h in
    let v = at_value false l 1 (texts (comma ∷ space ∷ []) ++ o) n a.0 n1 back a.2 in
    let m = noted n (v.0 ∷ n.values) n.blocks in
    let c = at_tokens (comma ∷ space ∷ []) o m v.1 n1 back v.4 in
    let r = last_shared is_readable (λ a blocks. load_four_of m k a m.values blocks) m l nest c.0 n1 c.2.0 c.2.1 back c.2.2 c.2.3.0 c.2.3.1 in
    performed (λ z. indent (suc nest) ∷ assign_four_line k z) n l nest (t ∷ ts) n1 back (LoadsFour k r.array v.0) r.after
    (and_from (nat_lt k n.vectors) _ fits (and_from (is_shared r.array && is_readable (counted n) r.array) _ (and_from (is_shared r.array) (is_readable (counted n) r.array) r.shared r.allowed) (expression n false l v.0 v.2))) r.after_fits
    (ap (λ z. indent (suc nest) ∷ assign_four_line k (loads_four ∷ z)) (a.1 ∙ ap (λ z. opens ∷ z) (v.3 ∙ ap (spell v.0) (c.1 ∙ ap (λ z. comma ∷ space ∷ z) r.spelled)))) r.noted
kept_source_of_four n l nest k t alt (value_of_four {alternative = alternative} g) ts n1 back h = λ fits.
    let q = split kernels Means alternative (stored l nest (AssignFour k)) n ts n1 back h in
    let v = kept_lanes n l 1 t alternative g ts q.0 q.1 q.2 in
    let m = with_lanes n n.values (v.value ∷ n.lanes) n.blocks in
    let s = at_stored l nest (AssignFour k) m q.1 n1 back (subst (λ z. All (stored l nest (AssignFour k)) z q.1 n1 back) v.noted q.3) in
    performed (λ z. indent (suc nest) ∷ assign_four_line k z) n l nest (t ∷ ts) n1 back (AssignsFour k v.value) s.0
    (and_from (nat_lt k n.vectors) _ fits (four_words n l v.value v.fits)) s.1
    (ap (λ z. indent (suc nest) ∷ assign_four_line k z) (v.spelled ∙ ap (spell_lanes v.value) s.2)) s.3

-- what follows vstore4
kept_store_four : (n : Notes) (l nest : ℕ) (ts : List Piece) (n1 : Notes) (back : List Piece) → All (Token opens ∷ Form (InLanes l 1) ∷ texts (comma ∷ space ∷ []) ++ Form (Value false l 1) ∷ texts (comma ∷ space ∷ []) ++ Form (StoredFour l nest) ∷ []) n ts n1 back → IsStatement (λ z. indent (suc nest) ∷ z) n l nest (stores_four ∷ ts) n1 back
kept_store_four n l nest ts n1 back h =
    let o : List Item = Form (StoredFour l nest) ∷ [] in
    let y : List Item = Form (Value false l 1) ∷ texts (comma ∷ space ∷ []) ++ o in
    let a = at_tokens (opens ∷ []) (Form (InLanes l 1) ∷ texts (comma ∷ space ∷ []) ++ y) n ts n1 back h in
    let w = at_lanes l 1 (texts (comma ∷ space ∷ []) ++ y) n a.0 n1 back a.2 in
    let m = with_lanes n n.values (w.0 ∷ n.lanes) n.blocks in
    let c = at_tokens (comma ∷ space ∷ []) y m w.1 n1 back w.4 in
    let v = at_value false l 1 (texts (comma ∷ space ∷ []) ++ o) m c.0 n1 back c.2 in
    let k = noted m (v.0 ∷ m.values) m.blocks in
    let d = at_tokens (comma ∷ space ∷ []) o k v.1 n1 back v.4 in
    let r = last_shared is_writable (λ a blocks. store_four_of k a k.values k.lanes blocks) k l nest d.0 n1 d.2.0 d.2.1 back d.2.2 d.2.3.0 d.2.3.1 in
    let offset = v.3 ∙ ap (spell v.0) (d.1 ∙ ap (λ z. comma ∷ space ∷ z) r.spelled) in
    performed (λ z. indent (suc nest) ∷ z) n l nest (stores_four ∷ ts) n1 back (StoresFour r.array v.0 w.0) r.after
    (and_from (is_shared r.array && is_writable (counted n) r.array) _ (and_from (is_shared r.array) (is_writable (counted n) r.array) r.shared r.allowed) (and_from (is_expression (counted n) l v.0) (are_lanes (counted n) l w.0) (expression n false l v.0 v.2) (four_words n l w.0 w.2))) r.after_fits
    (ap (λ z. indent (suc nest) ∷ stores_four ∷ z) (a.1 ∙ ap (λ z. opens ∷ z) (w.3 ∙ ap (spell_lanes w.0) (c.1 ∙ ap (λ z. comma ∷ space ∷ z) offset)))) r.noted

-- ---- the line of a loop or an if

-- a loop's body behind its step
kept_round : (n : Notes) (l nest : ℕ) (s : Start) (c : Stride) (ts : List Piece) (n1 : Notes) (back : List Piece) → All (loop_body l nest s c) n ts n1 back → IsRound (spell_stride c) n l nest s ts n1 back
kept_round n l nest s c ts n1 back h =
    let m : List Item = Mark (Loop s c) ∷ [] in
    let x : List Item = Form (Next l nest) ∷ m in
    let y : List Item = Form (Statement (suc l) (suc nest)) ∷ x in
    let a = at_tokens (closes ∷ space ∷ block_begins ∷ line ∷ []) (Form (Indent (suc (suc nest))) ∷ y) n ts n1 back h in
    let i = at_indent (suc (suc nest)) y n a.0 n1 back a.2 in
    let body = at_statement (suc l) (suc nest) x n i.0 n1 back i.2 in
    let after = at_next l nest m (noted n n.values (body.0 ∷ n.blocks)) body.1 n1 back body.4 in
    let last : body.1 ≡ spell_code l nest after.0 back = after.3 ∙ ap (spell_code l nest after.0) after.4.2.1 in
    record {
      stride = c;
      body = body.0;
      after = after.0;
      some = body.5;
      body_fits = body.2;
      after_fits = after.2;
      spelled = ap (spell_stride c) (a.1 ∙ ap block_line (i.1 ∙ body.3 ∙ ap (spell_code (suc l) (suc nest) body.0) last));
      noted = after.4.1 ∙ ap Some after.4.2.0;
    }

-- a round with other words before it, last in an alternative
last_round : (first other : List Piece → List Piece) (n : Notes) (l nest : ℕ) (s : Start) (ts us : List Piece) (n1 n2 : Notes) (mid back : List Piece) → IsRound first n l nest s ts n2 mid → other us ≡ first ts → n2 ≡ n1 → mid ≡ back → IsRound other n l nest s us n1 back
last_round first other n l nest s ts us n1 n2 mid back r w e f = record {
  stride = r.stride;
  body = r.body;
  after = r.after;
  some = r.some;
  body_fits = r.body_fits;
  after_fits = r.after_fits;
  spelled = w ∙ r.spelled ∙ ap (λ z. spell_stride r.stride (block_line (spell_code (suc l) (suc nest) r.body (spell_code l nest r.after z)))) f;
  noted = r.noted ∙ ap Some e;
}

stepped : (form : IdForm) (d : Dimension) (c : Stride) → stride_by form d ≡ Some c → (back : List Piece) → spell_id d form back ≡ spell_stride c back
stepped GlobalId d c e back = absurd (cc (e))
stepped GroupId d c e back = absurd (cc (e))
stepped LocalId d c e back = absurd (cc (e))
stepped GlobalSize d c e back = ap (λ z. spell_stride z back) (same_Some _ _ e)
stepped GroupCount d c e back = ap (λ z. spell_stride z back) (same_Some _ _ e)
stepped LocalSize d c e back = ap (λ z. spell_stride z back) (same_Some _ _ e)

started : (form : IdForm) (d : Dimension) (s : Start) → start_at form d ≡ Some s → (back : List Piece) → spell_id d form back ≡ spell_start s back
started GlobalId d s e back = ap (λ z. spell_start z back) (same_Some _ _ e)
started GroupId d s e back = ap (λ z. spell_start z back) (same_Some _ _ e)
started LocalId d s e back = ap (λ z. spell_start z back) (same_Some _ _ e)
started GlobalSize d s e back = absurd (cc (e))
started GroupCount d s e back = absurd (cc (e))
started LocalSize d s e back = absurd (cc (e))

kept_step : (n : Notes) (l nest : ℕ) (s : Start) (t : Piece) (alt : List Item) → Gives n (Step l nest s) t alt → (ts : List Piece) (n1 : Notes) (back : List Piece) → All alt n ts n1 back → IsRound (λ z. z) n l nest s (t ∷ ts) n1 back
kept_step n l nest s t alt by_one ts n1 back h = last_round (spell_stride ByOne) (λ z. z) n l nest s ts (one_literal ∷ ts) n1 n1 back back (kept_round n l nest s ByOne ts n1 back h) refl refl refl
kept_step n l nest s t alt by_count ts n1 back h =
    let a = at_tokens (uint ∷ closes ∷ []) (Form (StepId l nest s) ∷ []) n ts n1 back h in
    last_round (λ z. opens ∷ uint ∷ closes ∷ z) (λ z. z) n l nest s a.0 (opens ∷ ts) n1 a.2.0 a.2.1 back a.2.2 (ap (λ z. opens ∷ z) a.1) a.2.3.0 a.2.3.1

kept_step_id : (n : Notes) (l nest : ℕ) (s : Start) (t : Piece) (alt : List Item) → Gives n (StepId l nest s) t alt → (ts : List Piece) (n1 : Notes) (back : List Piece) → All alt n ts n1 back → IsRound (λ z. opens ∷ uint ∷ closes ∷ z) n l nest s (t ∷ ts) n1 back
kept_step_id n l nest s t alt (by_this_count {form = form} is) ts n1 back h =
    let a = at_tokens (opens ∷ []) (Form (StepAlong l nest s form) ∷ []) n ts n1 back h in
    last_round (λ z. opens ∷ uint ∷ closes ∷ id_name form ∷ opens ∷ z) (λ z. opens ∷ uint ∷ closes ∷ z) n l nest s a.0 (id_name form ∷ ts) n1 a.2.0 a.2.1 back a.2.2 (ap (λ z. opens ∷ uint ∷ closes ∷ id_name form ∷ z) a.1) a.2.3.0 a.2.3.1

kept_step_along : (n : Notes) (l nest : ℕ) (s : Start) (form : IdForm) (t : Piece) (alt : List Item) → Gives n (StepAlong l nest s form) t alt → (ts : List Piece) (n1 : Notes) (back : List Piece) → All alt n ts n1 back → IsRound (λ z. opens ∷ uint ∷ closes ∷ id_name form ∷ opens ∷ z) n l nest s (t ∷ ts) n1 back
kept_step_along n l nest s form t alt (by_along d {c = c} e) ts n1 back h =
    let a = at_tokens (closes ∷ []) (loop_body l nest s c) n ts n1 back h in
    last_round (spell_stride c) (λ z. opens ∷ uint ∷ closes ∷ id_name form ∷ opens ∷ z) n l nest s a.0 (dimension d ∷ ts) n1 n1 back back (kept_round n l nest s c a.0 n1 back a.2) (ap (λ z. opens ∷ uint ∷ closes ∷ id_name form ∷ opens ∷ dimension d ∷ z) a.1 ∙ stepped form d c e a.0) refl refl

-- a loop behind what its variable begins with
kept_test : (n : Notes) (l nest : ℕ) (s : Start) → nat_lt nest deepest ≡ true → (ts : List Piece) (n1 : Notes) (back : List Piece) → All (loop_test l nest s) n ts n1 back → IsStatement (λ z. indent (suc nest) ∷ loop_line l (spell_start s z)) n l nest ts n1 back
kept_test n l nest s deep ts n1 back h =
    let y1 : List Item = texts (space ∷ plus ∷ equals ∷ space ∷ []) ++ Form (Step l nest s) ∷ [] in
    let y2 : List Item = Form (Turn l) ∷ y1 in
    let y3 : List Item = texts (semicolon ∷ space ∷ []) ++ y2 in
    let y4 : List Item = texts (space ∷ less ∷ space ∷ []) ++ Form (Value true l 1) ∷ y3 in
    let a = at_tokens (semicolon ∷ space ∷ []) (Form (Turn l) ∷ y4) n ts n1 back h in
    let b = at_turn l y4 n a.0 n1 back a.2 in
    let c = at_tokens (space ∷ less ∷ space ∷ []) (Form (Value true l 1) ∷ y3) n b.0 n1 back b.2 in
    let v = at_value true l 1 y3 n c.0 n1 back c.2 in
    let k = noted n (v.0 ∷ n.values) n.blocks in
    let d = at_tokens (semicolon ∷ space ∷ []) y2 k v.1 n1 back v.4 in
    let e = at_turn l y1 k d.0 n1 back d.2 in
    let f = at_tokens (space ∷ plus ∷ equals ∷ space ∷ []) (Form (Step l nest s) ∷ []) k e.0 n1 back e.2 in
    let r = f.2.2 in
    let round : f.0 ≡ spell_stride r.stride (block_line (spell_code (suc l) (suc nest) r.body (spell_code l nest r.after back))) =
    r.spelled ∙ ap (λ z. spell_stride r.stride (block_line (spell_code (suc l) (suc nest) r.body (spell_code l nest r.after z)))) f.2.3.1 in
    let step : v.1 ≡ step_line l (spell_stride r.stride (block_line (spell_code (suc l) (suc nest) r.body (spell_code l nest r.after back)))) =
    d.1 ∙ ap (λ z. semicolon ∷ space ∷ z) (e.1 ∙ ap (λ z. loop_variable l ∷ z) (f.1 ∙ ap (λ z. space ∷ plus ∷ equals ∷ space ∷ z) round)) in
    let test = a.1 ∙ ap (λ z. semicolon ∷ space ∷ z) (b.1 ∙ ap (λ z. loop_variable l ∷ z) (c.1 ∙ ap (λ z. space ∷ less ∷ space ∷ z) (v.3 ∙ ap (spell v.0) step))) in (
      record {
        code = Loops s v.0 r.stride r.body r.after;
        fits = and_from (nat_lt nest deepest) _ deep (and_from (is_constant v.0) _ (v.2.1 refl) (and_from (is_expression (counted n) l v.0) _ (expression n true l v.0 v.2) (and_from (has_statement r.body) _ r.some (and_from (are_statements (counted n) (suc l) (suc nest) r.body) (are_statements (counted n) l nest r.after) r.body_fits r.after_fits))));
        spelled = ap (λ z. indent (suc nest) ∷ loop_line l (spell_start s z)) test;
        noted = sym (same_Some _ _ r.noted ∙ f.2.3.0);
      },
      refl,
    )

-- an if behind what it compares
kept_guard : (n : Notes) (l nest : ℕ) (s : Start) → nat_lt nest deepest ≡ true → (ts : List Piece) (n1 : Notes) (back : List Piece) → All (guard_test l nest s) n ts n1 back → IsStatement (λ z. indent (suc nest) ∷ guard_line (spell_start s z)) n l nest ts n1 back
kept_guard n l nest s deep ts n1 back h =
    let m : List Item = Mark (Guard s) ∷ [] in
    let x : List Item = Form (Next l nest) ∷ m in
    let y : List Item = Form (Statement l (suc nest)) ∷ x in
    let z : List Item = texts (closes ∷ space ∷ block_begins ∷ line ∷ []) ++ Form (Indent (suc (suc nest))) ∷ y in
    let a = at_tokens (space ∷ less ∷ space ∷ []) (Form (Value true l 1) ∷ z) n ts n1 back h in
    let v = at_value true l 1 z n a.0 n1 back a.2 in
    let k = noted n (v.0 ∷ n.values) n.blocks in
    let c = at_tokens (closes ∷ space ∷ block_begins ∷ line ∷ []) (Form (Indent (suc (suc nest))) ∷ y) k v.1 n1 back v.4 in
    let i = at_indent (suc (suc nest)) y k c.0 n1 back c.2 in
    let body = at_statement l (suc nest) x k i.0 n1 back i.2 in
    let after = at_next l nest m (noted k k.values (body.0 ∷ k.blocks)) body.1 n1 back body.4 in
    let last : body.1 ≡ spell_code l nest after.0 back = after.3 ∙ ap (spell_code l nest after.0) after.4.2.1 in
    let block : v.1 ≡ block_line (spell_code l (suc nest) body.0 (spell_code l nest after.0 back)) = c.1 ∙ ap block_line (i.1 ∙ body.3 ∙ ap (spell_code l (suc nest) body.0) last) in
    let test = a.1 ∙ ap (λ z. space ∷ less ∷ space ∷ z) (v.3 ∙ ap (spell v.0) block) in (
      record {
        code = Guards s v.0 body.0 after.0;
        fits = and_from (nat_lt nest deepest) _ deep (and_from (is_constant v.0) _ (v.2.1 refl) (and_from (is_expression (counted n) l v.0) _ (expression n true l v.0 v.2) (and_from (has_statement body.0) _ body.5 (and_from (are_statements (counted n) l (suc nest) body.0) (are_statements (counted n) l nest after.0) body.2 after.2))));
        spelled = ap (λ z. indent (suc nest) ∷ guard_line (spell_start s z)) test;
        noted = sym (same_Some _ _ after.4.1 ∙ after.4.2.0);
      },
      refl,
    )

-- a loop or an if behind its start
kept_start : (n : Notes) (g : Bool) (l nest : ℕ) (s : Start) → nat_lt nest deepest ≡ true → (ts : List Piece) (n1 : Notes) (back : List Piece) → All (after_start g l nest s) n ts n1 back → IsStatement (λ z. indent (suc nest) ∷ start_line g l (spell_start s z)) n l nest ts n1 back
kept_start n true l nest s deep ts n1 back h = kept_guard n l nest s deep ts n1 back h
kept_start n false l nest s deep ts n1 back h = kept_test n l nest s deep ts n1 back h

kept_beginning : (n : Notes) (g : Bool) (l nest : ℕ) (t : Piece) (alt : List Item) → Gives n (Beginning g l nest) t alt → (ts : List Piece) (n1 : Notes) (back : List Piece) → All alt n ts n1 back → Means n (Beginning g l nest) (t ∷ ts) n1 back
kept_beginning n g l nest t alt from_zero ts n1 back h = λ deep.
    with_first (λ z. indent (suc nest) ∷ start_line g l (spell_start FromZero z)) (λ z. indent (suc nest) ∷ start_line g l z) n l nest ts (zero_literal ∷ ts) n1 back (kept_start n g l nest FromZero deep ts n1 back h) refl
kept_beginning n g l nest t alt from_id ts n1 back h = λ deep.
    let a = at_tokens (uint ∷ closes ∷ []) (Form (BeginningId g l nest) ∷ []) n ts n1 back h in
    let first : List Piece → List Piece = λ z. indent (suc nest) ∷ start_line g l (opens ∷ uint ∷ closes ∷ z) in
    with_first first (λ z. indent (suc nest) ∷ start_line g l z) n l nest a.0 (opens ∷ ts) n1 back (last_statement first n l nest a.0 n1 a.2.0 a.2.1 back (a.2.2 deep) a.2.3.0 a.2.3.1) (ap (λ z. indent (suc nest) ∷ start_line g l (opens ∷ z)) a.1)

kept_beginning_id : (n : Notes) (g : Bool) (l nest : ℕ) (t : Piece) (alt : List Item) → Gives n (BeginningId g l nest) t alt → (ts : List Piece) (n1 : Notes) (back : List Piece) → All alt n ts n1 back → Means n (BeginningId g l nest) (t ∷ ts) n1 back
kept_beginning_id n g l nest t alt (from_this_id {form = form} is) ts n1 back h = λ deep.
    let a = at_tokens (opens ∷ []) (Form (BeginningAlong g l nest form) ∷ []) n ts n1 back h in
    let first : List Piece → List Piece = λ z. indent (suc nest) ∷ start_line g l (opens ∷ uint ∷ closes ∷ id_name form ∷ opens ∷ z) in
    with_first first (λ z. indent (suc nest) ∷ start_line g l (opens ∷ uint ∷ closes ∷ z)) n l nest a.0 (id_name form ∷ ts) n1 back (last_statement first n l nest a.0 n1 a.2.0 a.2.1 back (a.2.2 deep) a.2.3.0 a.2.3.1)
    (ap (λ z. indent (suc nest) ∷ start_line g l (opens ∷ uint ∷ closes ∷ id_name form ∷ z)) a.1)

kept_beginning_along : (n : Notes) (g : Bool) (l nest : ℕ) (form : IdForm) (t : Piece) (alt : List Item) → Gives n (BeginningAlong g l nest form) t alt → (ts : List Piece) (n1 : Notes) (back : List Piece) → All alt n ts n1 back → Means n (BeginningAlong g l nest form) (t ∷ ts) n1 back
kept_beginning_along n g l nest form t alt (from_along d {s = s} e) ts n1 back h = λ deep.
    let a = at_tokens (closes ∷ []) (after_start g l nest s) n ts n1 back h in
    with_first (λ z. indent (suc nest) ∷ start_line g l (spell_start s z)) (λ z. indent (suc nest) ∷ start_line g l (opens ∷ uint ∷ closes ∷ id_name form ∷ opens ∷ z)) n l nest a.0 (dimension d ∷ ts) n1 back (kept_start n g l nest s deep a.0 n1 back a.2)
    (ap (λ z. indent (suc nest) ∷ start_line g l (opens ∷ uint ∷ closes ∷ id_name form ∷ opens ∷ dimension d ∷ z)) a.1 ∙ ap (λ z. indent (suc nest) ∷ start_line g l z) (started form d s e a.0))

-- ---- a barrier

kept_after_local : (n : Notes) (l nest : ℕ) (t : Piece) (alt : List Item) → Gives n (AfterLocal l nest) t alt → (ts : List Piece) (n1 : Notes) (back : List Piece) → All alt n ts n1 back → Means n (AfterLocal l nest) (t ∷ ts) n1 back
kept_after_local n l nest t alt local_alone ts n1 back h =
    let s = at_stored l nest (Sync true false) n ts n1 back h in
    performed (λ z. indent (suc nest) ∷ barrier ∷ opens ∷ local_flag ∷ z) n l nest (t ∷ ts) n1 back (Syncs true false) s.0 refl s.1
    (ap (λ z. indent (suc nest) ∷ barrier ∷ opens ∷ local_flag ∷ closes ∷ z) s.2) s.3
kept_after_local n l nest t alt fences_both ts n1 back h =
    let a = at_tokens (bar ∷ space ∷ global_flag ∷ closes ∷ []) (stored l nest (Sync true true)) n ts n1 back h in
    let s = at_stored l nest (Sync true true) n a.0 n1 back a.2 in
    performed (λ z. indent (suc nest) ∷ barrier ∷ opens ∷ local_flag ∷ z) n l nest (t ∷ ts) n1 back (Syncs true true) s.0 refl s.1
    (ap (λ z. indent (suc nest) ∷ barrier ∷ opens ∷ local_flag ∷ space ∷ z) (a.1 ∙ ap (λ z. bar ∷ space ∷ global_flag ∷ closes ∷ z) s.2)) s.3

kept_fence : (n : Notes) (l nest : ℕ) (t : Piece) (alt : List Item) → Gives n (Fence l nest) t alt → (ts : List Piece) (n1 : Notes) (back : List Piece) → All alt n ts n1 back → Means n (Fence l nest) (t ∷ ts) n1 back
kept_fence n l nest t alt fences_local ts n1 back h =
    let first : List Piece → List Piece = λ z. indent (suc nest) ∷ barrier ∷ opens ∷ local_flag ∷ z in
    with_first first (λ z. indent (suc nest) ∷ barrier ∷ opens ∷ z) n l nest ts (local_flag ∷ ts) n1 back (last_statement first n l nest ts n1 h.0 h.1 back h.2 h.3.0 h.3.1) refl
kept_fence n l nest t alt fences_global ts n1 back h =
    let a = at_tokens (closes ∷ []) (stored l nest (Sync false true)) n ts n1 back h in
    let s = at_stored l nest (Sync false true) n a.0 n1 back a.2 in
    performed (λ z. indent (suc nest) ∷ barrier ∷ opens ∷ z) n l nest (t ∷ ts) n1 back (Syncs false true) s.0 refl s.1
    (ap (λ z. indent (suc nest) ∷ barrier ∷ opens ∷ global_flag ∷ z) (a.1 ∙ ap (λ z. closes ∷ z) s.2)) s.3

kept_statement : (n : Notes) (l nest : ℕ) (t : Piece) (alt : List Item) → Gives n (Statement l nest) t alt → (ts : List Piece) (n1 : Notes) (back : List Piece) → All alt n ts n1 back → Means n (Statement l nest) (t ∷ ts) n1 back
kept_statement n l nest t alt (assign {k = k} small below) ts n1 back h =
    let a = at_tokens (space ∷ equals ∷ space ∷ []) (Form (Source l nest k) ∷ []) n ts n1 back h in
    let first : List Piece → List Piece = λ z. indent (suc nest) ∷ assign_line k z in
    with_first first (λ z. indent (suc nest) ∷ z) n l nest a.0 (variable k ∷ ts) n1 back (last_statement first n l nest a.0 n1 a.2.0 a.2.1 back (a.2.2 (lt-ltb k n.variables below)) a.2.3.0 a.2.3.1) (ap (λ z. indent (suc nest) ∷ variable k ∷ z) a.1)
kept_statement n l nest t alt (assign_four {k = k} small below) ts n1 back h =
    let a = at_tokens (space ∷ equals ∷ space ∷ []) (Form (SourceOfFour l nest k) ∷ []) n ts n1 back h in
    let first : List Piece → List Piece = λ z. indent (suc nest) ∷ assign_four_line k z in
    with_first first (λ z. indent (suc nest) ∷ z) n l nest a.0 (vector k ∷ ts) n1 back (last_statement first n l nest a.0 n1 a.2.0 a.2.1 back (a.2.2 (lt-ltb k n.vectors below)) a.2.3.0 a.2.3.1) (ap (λ z. indent (suc nest) ∷ vector k ∷ z) a.1)
kept_statement n l nest t alt (store {array = array} small may) ts n1 back h =
    let y : List Item = Form (Value false l 1) ∷ stored l nest (Store array) in
    let x : List Item = texts (index_ends ∷ space ∷ equals ∷ space ∷ []) ++ y in
    let a = at_tokens (index_begins ∷ []) (Form (Value false l 1) ∷ x) n ts n1 back h in
    let i = at_value false l 1 x n a.0 n1 back a.2 in
    let m = noted n (i.0 ∷ n.values) n.blocks in
    let c = at_tokens (index_ends ∷ space ∷ equals ∷ space ∷ []) y m i.1 n1 back i.4 in
    let v = at_value false l 1 (stored l nest (Store array)) m c.0 n1 back c.2 in
    let s = at_stored l nest (Store array) (noted n (v.0 ∷ i.0 ∷ n.values) n.blocks) v.1 n1 back v.4 in
    performed (λ z. indent (suc nest) ∷ z) n l nest (t ∷ ts) n1 back (Stores array i.0 v.0) s.0
    (and_from (is_writable (counted n) array) _ may (and_from (is_expression (counted n) l i.0) (is_expression (counted n) l v.0) (expression n false l i.0 i.2) (expression n false l v.0 v.2))) s.1
    (ap (λ z. indent (suc nest) ∷ array_name array ∷ z) (a.1 ∙ ap (λ z. index_begins ∷ z) (i.3 ∙ ap (spell i.0) (c.1 ∙ ap (λ z. index_ends ∷ space ∷ equals ∷ space ∷ z) (v.3 ∙ ap (spell v.0) s.2))))) s.3
kept_statement n l nest t alt store_four ts n1 back h = kept_store_four n l nest ts n1 back h
kept_statement n l nest t alt (loop below) ts n1 back h =
    let y : List Item = texts (space ∷ equals ∷ space ∷ []) ++ Form (Beginning false l nest) ∷ [] in
    let a = at_tokens (space ∷ opens ∷ uint ∷ space ∷ []) (Form (Turn l) ∷ y) n ts n1 back h in
    let b = at_turn l y n a.0 n1 back a.2 in
    let c = at_tokens (space ∷ equals ∷ space ∷ []) (Form (Beginning false l nest) ∷ []) n b.0 n1 back b.2 in
    let first : List Piece → List Piece = λ z. indent (suc nest) ∷ loop_line l z in
    with_first first (λ z. indent (suc nest) ∷ z) n l nest c.0 (for ∷ ts) n1 back (last_statement first n l nest c.0 n1 c.2.0 c.2.1 back (c.2.2 (lt-ltb nest deepest below)) c.2.3.0 c.2.3.1)
    (ap (λ z. indent (suc nest) ∷ for ∷ z) (a.1 ∙ ap (λ z. space ∷ opens ∷ uint ∷ space ∷ z) (b.1 ∙ ap (λ z. loop_variable l ∷ z) c.1)))
kept_statement n l nest t alt (guard below) ts n1 back h =
    let a = at_tokens (space ∷ opens ∷ []) (Form (Beginning true l nest) ∷ []) n ts n1 back h in
    let first : List Piece → List Piece = λ z. indent (suc nest) ∷ guard_line z in
    with_first first (λ z. indent (suc nest) ∷ z) n l nest a.0 (whether ∷ ts) n1 back (last_statement first n l nest a.0 n1 a.2.0 a.2.1 back (a.2.2 (lt-ltb nest deepest below)) a.2.3.0 a.2.3.1) (ap (λ z. indent (suc nest) ∷ whether ∷ z) a.1)
kept_statement n l nest t alt meet ts n1 back h =
    let a = at_tokens (opens ∷ []) (Form (Fence l nest) ∷ []) n ts n1 back h in
    let first : List Piece → List Piece = λ z. indent (suc nest) ∷ barrier ∷ opens ∷ z in
    with_first first (λ z. indent (suc nest) ∷ z) n l nest a.0 (barrier ∷ ts) n1 back (last_statement first n l nest a.0 n1 a.2.0 a.2.1 back a.2.2 a.2.3.0 a.2.3.1) (ap (λ z. indent (suc nest) ∷ barrier ∷ z) a.1)

kept_next : (n : Notes) (l nest : ℕ) (t : Piece) (alt : List Item) → Gives n (Next l nest) t alt → (ts : List Piece) (n1 : Notes) (back : List Piece) → All alt n ts n1 back → IsCode (λ z. z) n l nest (t ∷ ts) n1 back
kept_next n l nest t alt another ts n1 back h =
    let s = at_statement l nest [] n ts n1 back h in
    record { code = s.0; fits = s.2; spelled = s.3 ∙ ap (spell_code l nest s.0) s.4.1; noted = sym s.4.0 }
kept_next n l nest t alt end ts n1 back h =
    record { code = End; fits = refl; spelled = ap (λ z. block_ends ∷ z) (h.1 ∙ ap (λ z. line ∷ z) h.2.2.1); noted = made _ n1 h.2.0 h.2.1 h.2.2.0 }
kept_next n l nest t alt (end_of_block {e = m}) ts n1 back h =
    let a = at_tokens (block_ends ∷ line ∷ []) (Mark Stop ∷ []) n ts n1 back h in
    record { code = End; fits = refl; spelled = ap (λ z. indent (suc m) ∷ z) (a.1 ∙ ap (λ z. block_ends ∷ line ∷ z) a.2.2.1); noted = made _ n1 a.2.0 a.2.1 a.2.2.0 }

-- ---- declarations

no_more : (x : ℕ) → x ≡ x + 0
no_more x = omega arith

abbrev with_variable : Notes → Notes
with_variable n = record n { variables = suc n.variables }

abbrev pub with_private : Notes → ℕ → Notes
with_private n v = record n { privates = n.privates ++ v ∷ [] }

abbrev pub with_local : Notes → ℕ → Notes
with_local n v = record n { locals = n.locals ++ v ∷ [] }

pub one_longer : (ns : List ℕ) (v : ℕ) → length (ns ++ v ∷ []) ≡ suc (length ns)
one_longer ns v = let w = length-append ns (v ∷ []) in omega (arith, w)

pub with_values : (n : Notes) (values : List Formula) (blocks : List Code) → CountsFit n → CountsFit (noted n values blocks)
with_values n values blocks c = record { inputs = c.inputs; outputs = c.outputs; sizes = c.sizes; locals = c.locals; privates = c.privates; variables = c.variables; vectors = c.vectors }

pub variables_fit : (n : Notes) → CountsFit n → suc n.variables < number_limit → CountsFit (with_variable n)
variables_fit n fit one = record { inputs = fit.inputs; outputs = fit.outputs; sizes = fit.sizes; locals = fit.locals; privates = fit.privates; variables = one; vectors = fit.vectors }

pub privates_fit : (n : Notes) (v : ℕ) → CountsFit n → suc (length n.privates) < number_limit → CountsFit (with_private n v)
privates_fit n v fit one = record { inputs = fit.inputs; outputs = fit.outputs; sizes = fit.sizes; locals = fit.locals; privates = subst (λ z. z < number_limit) (sym (one_longer n.privates v)) one; variables = fit.variables; vectors = fit.vectors }

pub locals_fit : (n : Notes) (v : ℕ) → CountsFit n → suc (length n.locals) < number_limit → CountsFit (with_local n v)
locals_fit n v fit one = record { inputs = fit.inputs; outputs = fit.outputs; sizes = fit.sizes; locals = subst (λ z. z < number_limit) (sym (one_longer n.locals v)) one; privates = fit.privates; variables = fit.variables; vectors = fit.vectors }

-- one more parameter
abbrev with_size : Notes → Notes
with_size n = record n { sizes = suc n.sizes }

abbrev with_output : Notes → Notes
with_output n = record n { outputs = suc n.outputs }

abbrev with_input : Notes → Notes
with_input n = record n { inputs = suc n.inputs }

sizes_fit : (n : Notes) → CountsFit n → suc n.sizes < number_limit → CountsFit (with_size n)
sizes_fit n fit one = record { inputs = fit.inputs; outputs = fit.outputs; sizes = one; locals = fit.locals; privates = fit.privates; variables = fit.variables; vectors = fit.vectors }

outputs_fit : (n : Notes) → CountsFit n → suc n.outputs < number_limit → CountsFit (with_output n)
outputs_fit n fit one = record { inputs = fit.inputs; outputs = one; sizes = fit.sizes; locals = fit.locals; privates = fit.privates; variables = fit.variables; vectors = fit.vectors }

inputs_fit : (n : Notes) → CountsFit n → suc n.inputs < number_limit → CountsFit (with_input n)
inputs_fit n fit one = record { inputs = one; outputs = fit.outputs; sizes = fit.sizes; locals = fit.locals; privates = fit.privates; variables = fit.variables; vectors = fit.vectors }

-- one more variable of four words
abbrev with_vector : Notes → Notes
with_vector n = record n { vectors = suc n.vectors }

pub vectors_fit : (n : Notes) → CountsFit n → suc n.vectors < number_limit → CountsFit (with_vector n)
vectors_fit n fit one = record { inputs = fit.inputs; outputs = fit.outputs; sizes = fit.sizes; locals = fit.locals; privates = fit.privates; variables = fit.variables; vectors = one }

kept_vector : (n : Notes) (t : Piece) (alt : List Item) → Gives n NewVector t alt → (ts : List Piece) (n1 : Notes) (back : List Piece) → All alt n ts n1 back → Means n NewVector (t ∷ ts) n1 back
kept_vector n t alt (new_vector small) ts n1 back h =
    let n2 = with_vector n in
    let r : List Item = Form (Indent 1) ∷ Form Vectors ∷ [] in
    let k : All (another_line Vectors) n2 ts n1 back = subst (λ z. All (another_line Vectors) z ts n1 back) (sym (same_Some _ _ h.1)) h.2 in
    let a = at_tokens (semicolon ∷ line ∷ []) r n2 ts n1 back k in
    let i = at_indent 1 (Form Vectors ∷ []) n2 a.0 n1 back a.2 in
    let b = i.2.2 in
    let e : i.2.0 ≡ n1 = i.2.3.0 in
    record {
      vectors = suc b.vectors;
      code = b.code;
      fits = subst (λ (z : Notes). are_statements (counted z) 0 0 b.code ≡ true) e b.fits;
      some = b.some;
      few = λ c. subst CountsFit e (b.few (vectors_fit n c small));
      spelled = ap (λ z. indent 1 ∷ uint4 ∷ space ∷ vector n.vectors ∷ z) (a.1 ∙ ap (λ z. semicolon ∷ line ∷ z) (i.1 ∙ b.spelled ∙ ap (λ z. spell_vectors (suc n.vectors) b.vectors (spell_code 0 0 b.code z)) i.2.3.1));
      noted = sym e ∙ b.noted ∙ ap (λ v. record n { vectors = v; blocks = b.code ∷ n.blocks }) (let w : suc n.vectors + b.vectors ≡ n.vectors + suc b.vectors = omega arith in w);
    }

kept_vectors : (n : Notes) (t : Piece) (alt : List Item) → Gives n Vectors t alt → (ts : List Piece) (n1 : Notes) (back : List Piece) → All alt n ts n1 back → Means n Vectors (t ∷ ts) n1 back
kept_vectors n t alt a_vector ts n1 back h =
    let a = at_tokens (space ∷ []) (Form NewVector ∷ []) n ts n1 back h in
    let b = a.2.2 in
    let e : a.2.0 ≡ n1 = a.2.3.0 in
    record {
      vectors = b.vectors;
      code = b.code;
      fits = subst (λ (z : Notes). are_statements (counted z) 0 0 b.code ≡ true) e b.fits;
      some = b.some;
      few = λ c. subst CountsFit e (b.few c);
      spelled = ap (λ z. indent 1 ∷ uint4 ∷ z) a.1 ∙ b.spelled ∙ ap (λ z. spell_vectors n.vectors b.vectors (spell_code 0 0 b.code z)) a.2.3.1;
      noted = sym e ∙ b.noted;
    }
kept_vectors n t alt (statements g) ts n1 back h =
    let s = kept_statement n 0 0 t alt g ts n1 back h in
    let c = s.0 in
    record {
      vectors = 0;
      code = c.code;
      fits = subst (λ (z : Notes). are_statements (counted z) 0 0 c.code ≡ true) (sym c.noted) c.fits;
      some = s.1;
      few = λ fit. subst CountsFit (sym c.noted) (with_values n n.values (c.code ∷ n.blocks) fit);
      spelled = c.spelled;
      noted = c.noted ∙ ap (λ v. record n { vectors = v; blocks = c.code ∷ n.blocks }) (no_more n.vectors);
    }

-- no variable, and then those of four words
no_variables : (first : List Piece → List Piece) (n : Notes) (ts : List Piece) (n1 : Notes) (back : List Piece) → AreVectors first n ts n1 back → AreVariables first n ts n1 back
no_variables first n ts n1 back b = record {
  more = 0;
  vectors = b.vectors;
  code = b.code;
  fits = b.fits;
  some = b.some;
  few = b.few;
  spelled = b.spelled;
  noted = b.noted ∙ ap (λ v. record n { variables = v; vectors = n.vectors + b.vectors; blocks = b.code ∷ n.blocks }) (no_more n.variables);
}

kept_variable : (n : Notes) (t : Piece) (alt : List Item) → Gives n NewVariable t alt → (ts : List Piece) (n1 : Notes) (back : List Piece) → All alt n ts n1 back → Means n NewVariable (t ∷ ts) n1 back
kept_variable n t alt (new_variable small) ts n1 back h =
    let n2 = with_variable n in
    let r : List Item = Form (Indent 1) ∷ Form Variables ∷ [] in
    let k : All (another_line Variables) n2 ts n1 back = subst (λ z. All (another_line Variables) z ts n1 back) (sym (same_Some _ _ h.1)) h.2 in
    let a = at_tokens (semicolon ∷ line ∷ []) r n2 ts n1 back k in
    let i = at_indent 1 (Form Variables ∷ []) n2 a.0 n1 back a.2 in
    let b = i.2.2 in
    let e : i.2.0 ≡ n1 = i.2.3.0 in
    record {
      more = suc b.more;
      vectors = b.vectors;
      code = b.code;
      fits = subst (λ (z : Notes). are_statements (counted z) 0 0 b.code ≡ true) e b.fits;
      some = b.some;
      few = λ c. subst CountsFit e (b.few (variables_fit n c small));
      spelled = ap (λ z. indent 1 ∷ uint ∷ space ∷ variable n.variables ∷ z) (a.1 ∙ ap (λ z. semicolon ∷ line ∷ z) (i.1 ∙ b.spelled ∙ ap (λ z. spell_variables (suc n.variables) b.more (spell_vectors n.vectors b.vectors (spell_code 0 0 b.code z))) i.2.3.1));
      noted = sym e ∙ b.noted ∙ ap (λ v. record n { variables = v; vectors = n.vectors + b.vectors; blocks = b.code ∷ n.blocks }) (let w : suc n.variables + b.more ≡ n.variables + suc b.more = omega arith in w);
    }

kept_variables : (n : Notes) (t : Piece) (alt : List Item) → Gives n Variables t alt → (ts : List Piece) (n1 : Notes) (back : List Piece) → All alt n ts n1 back → Means n Variables (t ∷ ts) n1 back
kept_variables n t alt another_variable ts n1 back h =
    let a = at_tokens (space ∷ []) (Form NewVariable ∷ []) n ts n1 back h in
    let b = a.2.2 in
    let e : a.2.0 ≡ n1 = a.2.3.0 in
    record {
      more = b.more;
      vectors = b.vectors;
      code = b.code;
      fits = subst (λ (z : Notes). are_statements (counted z) 0 0 b.code ≡ true) e b.fits;
      some = b.some;
      few = λ c. subst CountsFit e (b.few c);
      spelled = ap (λ z. indent 1 ∷ uint ∷ z) a.1 ∙ b.spelled ∙ ap (λ z. spell_variables n.variables b.more (spell_vectors n.vectors b.vectors (spell_code 0 0 b.code z))) a.2.3.1;
      noted = sym e ∙ b.noted;
    }
kept_variables n t alt (no_variable g) ts n1 back h = no_variables (λ z. indent 1 ∷ z) n (t ∷ ts) n1 back (kept_vectors n t alt g ts n1 back h)

-- no private array, and then variables
no_privates : (first : List Piece → List Piece) (n : Notes) (ts : List Piece) (n1 : Notes) (back : List Piece) → AreVariables first n ts n1 back → ArePrivates first n ts n1 back
no_privates first n ts n1 back b = record {
  privates = [];
  more = b.more;
  vectors = b.vectors;
  code = b.code;
  fits = b.fits;
  some = b.some;
  few = b.few;
  lengths = refl;
  spelled = b.spelled;
  noted = b.noted ∙ ap (λ (v : List ℕ). record n { privates = v; variables = n.variables + b.more; vectors = n.vectors + b.vectors; blocks = b.code ∷ n.blocks }) (sym (append-nil n.privates));
}

-- a body with other words before it, last in an alternative
last_privates : (first other : List Piece → List Piece) (n : Notes) (ts us : List Piece) (n1 n2 : Notes) (mid back : List Piece) → ArePrivates first n ts n2 mid → other us ≡ first ts → n2 ≡ n1 → mid ≡ back → ArePrivates other n us n1 back
last_privates first other n ts us n1 n2 mid back b w e f = record {
  privates = b.privates;
  more = b.more;
  vectors = b.vectors;
  code = b.code;
  fits = subst (λ (z : Notes). are_statements (counted z) 0 0 b.code ≡ true) e b.fits;
  some = b.some;
  few = λ c. subst CountsFit e (b.few c);
  lengths = b.lengths;
  spelled = w ∙ b.spelled ∙ ap (λ z. spell_privates (length n.privates) b.privates (spell_variables n.variables b.more (spell_vectors n.vectors b.vectors (spell_code 0 0 b.code z)))) f;
  noted = sym e ∙ b.noted;
}

kept_declared : (n : Notes) (t : Piece) (alt : List Item) → Gives n Declared t alt → (ts : List Piece) (n1 : Notes) (back : List Piece) → All alt n ts n1 back → Means n Declared (t ∷ ts) n1 back
kept_declared n t alt (new_private small) ts n1 back h =
    let a = at_tokens (index_begins ∷ []) (Form PrivateLength ∷ []) n ts n1 back h in
    last_privates (private_line n) (λ z. indent 1 ∷ uint ∷ space ∷ z) n a.0 (array_name (Private (length n.privates)) ∷ ts) n1 a.2.0 a.2.1 back (a.2.2 small) (ap (λ z. indent 1 ∷ uint ∷ space ∷ array_name (Private (length n.privates)) ∷ z) a.1) a.2.3.0 a.2.3.1
kept_declared n t alt (first_variable g) ts n1 back h = no_privates (λ z. indent 1 ∷ uint ∷ space ∷ z) n (t ∷ ts) n1 back (kept_variable n t alt g ts n1 back h)

kept_privates : (n : Notes) (t : Piece) (alt : List Item) → Gives n Privates t alt → (ts : List Piece) (n1 : Notes) (back : List Piece) → All alt n ts n1 back → Means n Privates (t ∷ ts) n1 back
kept_privates n t alt a_declaration ts n1 back h =
    let a = at_tokens (space ∷ []) (Form Declared ∷ []) n ts n1 back h in
    last_privates (λ z. indent 1 ∷ uint ∷ space ∷ z) (λ z. indent 1 ∷ z) n a.0 (uint ∷ ts) n1 a.2.0 a.2.1 back a.2.2 (ap (λ z. indent 1 ∷ uint ∷ z) a.1) a.2.3.0 a.2.3.1
kept_privates n t alt (no_declaration g) ts n1 back h = no_privates (λ z. indent 1 ∷ z) n (t ∷ ts) n1 back (no_variables (λ z. indent 1 ∷ z) n (t ∷ ts) n1 back (kept_vectors n t alt g ts n1 back h))

positive_length : (v : ℕ) (ns : List ℕ) → 0 < v → v < 2 ^ 32 → are_lengths ns ≡ true → are_lengths (v ∷ ns) ≡ true
positive_length v ns some small h = and_from (nat_lt 0 v) _ (lt-ltb 0 v some) (and_from (nat_lt v (2 ^ 32)) (are_lengths ns) (lt-ltb v (2 ^ 32) small) h)

kept_private_length : (n : Notes) (t : Piece) (alt : List Item) → Gives n PrivateLength t alt → (ts : List Piece) (n1 : Notes) (back : List Piece) → All alt n ts n1 back → Means n PrivateLength (t ∷ ts) n1 back
kept_private_length n t alt (private_length {v = v} some small) ts n1 back h = λ room.
    let n2 = with_private n v in
    let o : List Item = Token index_ends ∷ another_line Privates in
    let k : All o n2 ts n1 back = subst (λ z. All o z ts n1 back) (sym (same_Some _ _ h.1)) h.2 in
    let a = at_tokens (index_ends ∷ semicolon ∷ line ∷ []) (Form (Indent 1) ∷ Form Privates ∷ []) n2 ts n1 back k in
    let i = at_indent 1 (Form Privates ∷ []) n2 a.0 n1 back a.2 in
    let b = i.2.2 in
    let e : i.2.0 ≡ n1 = i.2.3.0 in
    record {
      privates = v ∷ b.privates;
      more = b.more;
      vectors = b.vectors;
      code = b.code;
      fits = subst (λ (z : Notes). are_statements (counted z) 0 0 b.code ≡ true) e b.fits;
      some = b.some;
      few = λ c. subst CountsFit e (b.few (privates_fit n v c room));
      lengths = positive_length v b.privates some small b.lengths;
      spelled = ap (λ z. private_line n (decimal v ∷ z)) (a.1 ∙ ap (λ z. index_ends ∷ semicolon ∷ line ∷ z) (i.1 ∙ b.spelled ∙ ap (λ m. spell_privates m b.privates (spell_variables n.variables b.more (spell_vectors n.vectors b.vectors (spell_code 0 0 b.code i.2.1)))) (one_longer n.privates v) ∙ ap (λ z. spell_privates (suc (length n.privates)) b.privates (spell_variables n.variables b.more (spell_vectors n.vectors b.vectors (spell_code 0 0 b.code z)))) i.2.3.1));
      noted = sym e ∙ b.noted ∙ ap (λ (z : List ℕ). record n { privates = z; variables = n.variables + b.more; vectors = n.vectors + b.vectors; blocks = b.code ∷ n.blocks }) (append_assoc n.privates (v ∷ []) b.privates);
    }

no_locals : (first : List Piece → List Piece) (n : Notes) (ts : List Piece) (n1 : Notes) (back : List Piece) → ArePrivates first n ts n1 back → AreLocals first n ts n1 back
no_locals first n ts n1 back b = record {
  locals = [];
  privates = b.privates;
  more = b.more;
  vectors = b.vectors;
  code = b.code;
  fits = b.fits;
  some = b.some;
  few = b.few;
  local_lengths = refl;
  private_lengths = b.lengths;
  spelled = b.spelled;
  noted = b.noted ∙ ap (λ (v : List ℕ). record n { locals = v; privates = n.privates ++ b.privates; variables = n.variables + b.more; vectors = n.vectors + b.vectors; blocks = b.code ∷ n.blocks }) (sym (append-nil n.locals));
}

last_locals : (first other : List Piece → List Piece) (n : Notes) (ts us : List Piece) (n1 n2 : Notes) (mid back : List Piece) → AreLocals first n ts n2 mid → other us ≡ first ts → n2 ≡ n1 → mid ≡ back → AreLocals other n us n1 back
last_locals first other n ts us n1 n2 mid back b w e f = record {
  locals = b.locals;
  privates = b.privates;
  more = b.more;
  vectors = b.vectors;
  code = b.code;
  fits = subst (λ (z : Notes). are_statements (counted z) 0 0 b.code ≡ true) e b.fits;
  some = b.some;
  few = λ c. subst CountsFit e (b.few c);
  local_lengths = b.local_lengths;
  private_lengths = b.private_lengths;
  spelled = w ∙ b.spelled ∙ ap (λ z. spell_locals (length n.locals) b.locals (spell_privates (length n.privates) b.privates (spell_variables n.variables b.more (spell_vectors n.vectors b.vectors (spell_code 0 0 b.code z))))) f;
  noted = sym e ∙ b.noted;
}

kept_locals : (n : Notes) (t : Piece) (alt : List Item) → Gives n Locals t alt → (ts : List Piece) (n1 : Notes) (back : List Piece) → All alt n ts n1 back → Means n Locals (t ∷ ts) n1 back
kept_locals n t alt a_local ts n1 back h =
    let a = at_tokens (space ∷ uint ∷ space ∷ []) (Form NewLocal ∷ []) n ts n1 back h in
    last_locals (λ z. indent 1 ∷ local ∷ space ∷ uint ∷ space ∷ z) (λ z. indent 1 ∷ z) n a.0 (local ∷ ts) n1 a.2.0 a.2.1 back a.2.2 (ap (λ z. indent 1 ∷ local ∷ z) a.1) a.2.3.0 a.2.3.1
kept_locals n t alt (no_local g) ts n1 back h = no_locals (λ z. indent 1 ∷ z) n (t ∷ ts) n1 back (kept_privates n t alt g ts n1 back h)

kept_new_local : (n : Notes) (t : Piece) (alt : List Item) → Gives n NewLocal t alt → (ts : List Piece) (n1 : Notes) (back : List Piece) → All alt n ts n1 back → Means n NewLocal (t ∷ ts) n1 back
kept_new_local n t alt (new_local small) ts n1 back h =
    let a = at_tokens (index_begins ∷ []) (Form LocalLength ∷ []) n ts n1 back h in
    last_locals (local_line n) (λ z. indent 1 ∷ local ∷ space ∷ uint ∷ space ∷ z) n a.0 (array_name (Local (length n.locals)) ∷ ts) n1 a.2.0 a.2.1 back (a.2.2 small) (ap (λ z. indent 1 ∷ local ∷ space ∷ uint ∷ space ∷ array_name (Local (length n.locals)) ∷ z) a.1) a.2.3.0 a.2.3.1

kept_local_length : (n : Notes) (t : Piece) (alt : List Item) → Gives n LocalLength t alt → (ts : List Piece) (n1 : Notes) (back : List Piece) → All alt n ts n1 back → Means n LocalLength (t ∷ ts) n1 back
kept_local_length n t alt (local_length {v = v} some small) ts n1 back h = λ room.
    let n2 = with_local n v in
    let o : List Item = Token index_ends ∷ another_line Locals in
    let k : All o n2 ts n1 back = subst (λ z. All o z ts n1 back) (sym (same_Some _ _ h.1)) h.2 in
    let a = at_tokens (index_ends ∷ semicolon ∷ line ∷ []) (Form (Indent 1) ∷ Form Locals ∷ []) n2 ts n1 back k in
    let i = at_indent 1 (Form Locals ∷ []) n2 a.0 n1 back a.2 in
    let b = i.2.2 in
    let e : i.2.0 ≡ n1 = i.2.3.0 in
    let body : List Piece → List Piece = λ z. spell_privates (length n.privates) b.privates (spell_variables n.variables b.more (spell_vectors n.vectors b.vectors (spell_code 0 0 b.code z))) in
    record {
      locals = v ∷ b.locals;
      privates = b.privates;
      more = b.more;
      vectors = b.vectors;
      code = b.code;
      fits = subst (λ (z : Notes). are_statements (counted z) 0 0 b.code ≡ true) e b.fits;
      some = b.some;
      few = λ c. subst CountsFit e (b.few (locals_fit n v c room));
      local_lengths = positive_length v b.locals some small b.local_lengths;
      private_lengths = b.private_lengths;
      spelled = ap (λ z. local_line n (decimal v ∷ z)) (a.1 ∙ ap (λ z. index_ends ∷ semicolon ∷ line ∷ z) (i.1 ∙ b.spelled ∙ ap (λ m. spell_locals m b.locals (body i.2.1)) (one_longer n.locals v) ∙ ap (λ z. spell_locals (suc (length n.locals)) b.locals (body z)) i.2.3.1));
      noted = sym e ∙ b.noted ∙ ap (λ (z : List ℕ). record n { locals = z; privates = n.privates ++ b.privates; variables = n.variables + b.more; vectors = n.vectors + b.vectors; blocks = b.code ∷ n.blocks }) (append_assoc n.locals (v ∷ []) b.locals);
    }

-- ---- parameters

kept_new_size : (n : Notes) (t : Piece) (alt : List Item) → Gives n NewSize t alt → (ts : List Piece) (n1 : Notes) (back : List Piece) → All alt n ts n1 back → Means n NewSize (t ∷ ts) n1 back
kept_new_size n t alt (new_size small) ts n1 back h =
    let r : List Item = Form AfterSize ∷ [] in
    let k : All r (with_size n) ts n1 back = subst (λ z. All r z ts n1 back) (sym (same_Some _ _ h.1)) h.2 in
    let b = k.2 in
    record {
      sizes = suc b.sizes;
      few = λ c. subst CountsFit k.3.0 (b.few (sizes_fit n c small));
      spelled = ap (λ z. comma ∷ space ∷ const ∷ space ∷ uint ∷ space ∷ size n.sizes ∷ z) (b.spelled ∙ ap (spell_sizes (suc n.sizes) b.sizes) k.3.1);
      noted = sym k.3.0 ∙ b.noted ∙ ap (λ v. record n { sizes = v }) (let w : suc n.sizes + b.sizes ≡ n.sizes + suc b.sizes = omega arith in w);
    }

kept_after_size : (n : Notes) (t : Piece) (alt : List Item) → Gives n AfterSize t alt → (ts : List Piece) (n1 : Notes) (back : List Piece) → All alt n ts n1 back → Means n AfterSize (t ∷ ts) n1 back
kept_after_size n t alt last_size ts n1 back h = record {
  sizes = 0;
  few = λ c. subst CountsFit h.0 c;
  spelled = ap (λ z. closes ∷ z) h.1;
  noted = sym h.0 ∙ ap (λ v. record n { sizes = v }) (no_more n.sizes);
}
kept_after_size n t alt more_sizes ts n1 back h =
    let a = at_tokens (space ∷ const ∷ space ∷ uint ∷ space ∷ []) (Form NewSize ∷ []) n ts n1 back h in
    let b = a.2.2 in
    record {
      sizes = b.sizes;
      few = λ c. subst CountsFit a.2.3.0 (b.few c);
      spelled = ap (λ z. comma ∷ z) a.1 ∙ b.spelled ∙ ap (spell_sizes n.sizes b.sizes) a.2.3.1;
      noted = sym a.2.3.0 ∙ b.noted;
    }

kept_new_output : (n : Notes) (t : Piece) (alt : List Item) → Gives n NewOutput t alt → (ts : List Piece) (n1 : Notes) (back : List Piece) → All alt n ts n1 back → Means n NewOutput (t ∷ ts) n1 back
kept_new_output n t alt (new_output small) ts n1 back h =
    let r : List Item = Form AfterOutput ∷ [] in
    let k : All r (with_output n) ts n1 back = subst (λ z. All r z ts n1 back) (sym (same_Some _ _ h.1)) h.2 in
    let b = k.2 in
    record {
      outputs = b.outputs;
      sizes = b.sizes;
      few = λ c. subst CountsFit k.3.0 (b.few (outputs_fit n c small));
      spelled = ap (λ z. array_name (Output n.outputs) ∷ z) (b.spelled ∙ ap (λ z. spell_outputs (suc n.outputs) b.outputs (spell_sizes n.sizes b.sizes z)) k.3.1);
      noted = sym k.3.0 ∙ b.noted ∙ ap (λ v. record n { outputs = v; sizes = n.sizes + b.sizes }) (let w : suc n.outputs + b.outputs ≡ n.outputs + suc b.outputs = omega arith in w);
    }

kept_after_output : (n : Notes) (t : Piece) (alt : List Item) → Gives n AfterOutput t alt → (ts : List Piece) (n1 : Notes) (back : List Piece) → All alt n ts n1 back → Means n AfterOutput (t ∷ ts) n1 back
kept_after_output n t alt last_output ts n1 back h = record {
  outputs = 0;
  sizes = 0;
  few = λ c. subst CountsFit h.0 c;
  spelled = ap (λ z. closes ∷ z) h.1;
  noted = sym h.0 ∙ ap (λ v. record n { outputs = v }) (no_more n.outputs) ∙ ap (λ v. record n { outputs = n.outputs + 0; sizes = v }) (no_more n.sizes);
}
kept_after_output n t alt more_outputs ts n1 back h =
    let a = at_tokens (space ∷ []) (Form OutputOrSize ∷ []) n ts n1 back h in
    let b = a.2.2 in
    record {
      outputs = b.outputs;
      sizes = b.sizes;
      few = λ c. subst CountsFit a.2.3.0 (b.few c);
      spelled = ap (λ z. comma ∷ z) a.1 ∙ b.spelled ∙ ap (λ z. spell_outputs n.outputs b.outputs (spell_sizes n.sizes b.sizes z)) a.2.3.1;
      noted = sym a.2.3.0 ∙ b.noted;
    }

kept_output_or_size : (n : Notes) (t : Piece) (alt : List Item) → Gives n OutputOrSize t alt → (ts : List Piece) (n1 : Notes) (back : List Piece) → All alt n ts n1 back → Means n OutputOrSize (t ∷ ts) n1 back
kept_output_or_size n t alt another_output ts n1 back h =
    let a = at_tokens (space ∷ uint ∷ space ∷ star ∷ []) (Form NewOutput ∷ []) n ts n1 back h in
    let b = a.2.2 in
    record {
      outputs = suc b.outputs;
      sizes = b.sizes;
      few = λ c. subst CountsFit a.2.3.0 (b.few c);
      spelled = ap (λ z. comma ∷ space ∷ global ∷ z) (a.1 ∙ ap (λ z. space ∷ uint ∷ space ∷ star ∷ z) (b.spelled ∙ ap (λ z. array_name (Output n.outputs) ∷ spell_outputs (suc n.outputs) b.outputs (spell_sizes n.sizes b.sizes z)) a.2.3.1));
      noted = sym a.2.3.0 ∙ b.noted;
    }
kept_output_or_size n t alt first_size ts n1 back h =
    let a = at_tokens (space ∷ uint ∷ space ∷ []) (Form NewSize ∷ []) n ts n1 back h in
    let b = a.2.2 in
    record {
      outputs = 0;
      sizes = b.sizes;
      few = λ c. subst CountsFit a.2.3.0 (b.few c);
      spelled = ap (λ z. comma ∷ space ∷ const ∷ z) a.1 ∙ b.spelled ∙ ap (spell_sizes n.sizes b.sizes) a.2.3.1;
      noted = sym a.2.3.0 ∙ b.noted ∙ ap (λ v. record n { outputs = v; sizes = n.sizes + b.sizes }) (no_more n.outputs);
    }

abbrev parameters : Notes → (inputs outputs sizes : ℕ) → List Piece → List Piece
parameters n inputs outputs sizes back = spell_inputs n.inputs inputs (first_output n.outputs (spell_outputs (suc n.outputs) outputs (spell_sizes n.sizes sizes back)))

kept_parameter : (n : Notes) (t : Piece) (alt : List Item) → Gives n Parameter t alt → (ts : List Piece) (n1 : Notes) (back : List Piece) → All alt n ts n1 back → Means n Parameter (t ∷ ts) n1 back
kept_parameter n t alt an_input ts n1 back h =
    let a = at_tokens (space ∷ []) (Form Pointer ∷ []) n ts n1 back h in
    let b = a.2.2 in
    record {
      inputs = b.inputs;
      outputs = b.outputs;
      sizes = b.sizes;
      few = λ c. subst CountsFit a.2.3.0 (b.few c);
      spelled = ap (λ z. global ∷ z) a.1 ∙ b.spelled ∙ ap (parameters n b.inputs b.outputs b.sizes) a.2.3.1;
      noted = sym a.2.3.0 ∙ b.noted;
    }

kept_pointer : (n : Notes) (t : Piece) (alt : List Item) → Gives n Pointer t alt → (ts : List Piece) (n1 : Notes) (back : List Piece) → All alt n ts n1 back → Means n Pointer (t ∷ ts) n1 back
kept_pointer n t alt pointer_to_const ts n1 back h =
    let a = at_tokens (space ∷ uint ∷ space ∷ star ∷ []) (Form NewInput ∷ []) n ts n1 back h in
    let b = a.2.2 in
    record {
      inputs = b.inputs;
      outputs = b.outputs;
      sizes = b.sizes;
      few = λ c. subst CountsFit a.2.3.0 (b.few c);
      spelled = ap (λ z. global ∷ space ∷ const ∷ z) a.1 ∙ b.spelled ∙ ap (parameters n b.inputs b.outputs b.sizes) a.2.3.1;
      noted = sym a.2.3.0 ∙ b.noted;
    }
kept_pointer n t alt pointer ts n1 back h =
    let a = at_tokens (space ∷ star ∷ []) (Form NewOutput ∷ []) n ts n1 back h in
    let b = a.2.2 in
    record {
      inputs = 0;
      outputs = b.outputs;
      sizes = b.sizes;
      few = λ c. subst CountsFit a.2.3.0 (b.few c);
      spelled = ap (λ z. global ∷ space ∷ uint ∷ z) (a.1 ∙ ap (λ z. space ∷ star ∷ z) (b.spelled ∙ ap (λ z. array_name (Output n.outputs) ∷ spell_outputs (suc n.outputs) b.outputs (spell_sizes n.sizes b.sizes z)) a.2.3.1));
      noted = sym a.2.3.0 ∙ b.noted ∙ ap (λ v. record n { inputs = v; outputs = n.outputs + suc b.outputs; sizes = n.sizes + b.sizes }) (no_more n.inputs);
    }

kept_new_input : (n : Notes) (t : Piece) (alt : List Item) → Gives n NewInput t alt → (ts : List Piece) (n1 : Notes) (back : List Piece) → All alt n ts n1 back → Means n NewInput (t ∷ ts) n1 back
kept_new_input n t alt (new_input small) ts n1 back h =
    let n2 = with_input n in
    let r : List Item = texts (comma ∷ space ∷ []) ++ Form Parameter ∷ [] in
    let k : All r n2 ts n1 back = subst (λ z. All r z ts n1 back) (sym (same_Some _ _ h.1)) h.2 in
    let a = at_tokens (comma ∷ space ∷ []) (Form Parameter ∷ []) n2 ts n1 back k in
    let b = a.2.2 in
    record {
      inputs = suc b.inputs;
      outputs = b.outputs;
      sizes = b.sizes;
      few = λ c. subst CountsFit a.2.3.0 (b.few (inputs_fit n c small));
      spelled = ap (λ z. global ∷ space ∷ const ∷ space ∷ uint ∷ space ∷ star ∷ array_name (Input n.inputs) ∷ z) (a.1 ∙ ap (λ z. comma ∷ space ∷ z) (b.spelled ∙ ap (parameters n2 b.inputs b.outputs b.sizes) a.2.3.1));
      noted = sym a.2.3.0 ∙ b.noted ∙ ap (λ v. record n { inputs = v; outputs = n.outputs + suc b.outputs; sizes = n.sizes + b.sizes }) (let w : suc n.inputs + b.inputs ≡ n.inputs + suc b.inputs = omega arith in w);
    }

-- ---- the groups' size

kept_launching : (n : Notes) (t : Piece) (alt : List Item) → Gives n Launching t alt → (ts : List Piece) (n1 : Notes) (back : List Piece) → All alt n ts n1 back → Means n Launching (t ∷ ts) n1 back
kept_launching n t alt any_group ts n1 back h = record { local = None; fits = refl; spelled = ap (λ z. void ∷ z) h.1; noted = sym h.0 }
kept_launching n t alt fixed_group ts n1 back h =
    let a = at_tokens (opens ∷ opens ∷ group_size ∷ opens ∷ []) (Form GroupWidth ∷ []) n ts n1 back h in
    let b = a.2.2 in
    record { local = b.local; fits = b.fits; spelled = ap (λ z. attribute ∷ z) a.1 ∙ b.spelled ∙ ap (spell_launching b.local) a.2.3.1; noted = sym a.2.3.0 ∙ b.noted }

kept_width : (n : Notes) (t : Piece) (alt : List Item) → Gives n GroupWidth t alt → (ts : List Piece) (n1 : Notes) (back : List Piece) → All alt n ts n1 back → Means n GroupWidth (t ∷ ts) n1 back
kept_width n t alt (group_width {v = v} some few) ts n1 back h =
    let a = at_tokens (comma ∷ space ∷ []) (Form (GroupHeight v) ∷ []) n ts n1 back h in
    let b = a.2.2 (lt-ltb 0 v some) in
    record { local = b.local; fits = b.fits; spelled = ap (λ z. width_line (decimal v ∷ z)) a.1 ∙ b.spelled ∙ ap (spell_launching b.local) a.2.3.1; noted = sym a.2.3.0 ∙ b.noted }

kept_height : (n : Notes) (v : ℕ) (t : Piece) (alt : List Item) → Gives n (GroupHeight v) t alt → (ts : List Piece) (n1 : Notes) (back : List Piece) → All alt n ts n1 back → Means n (GroupHeight v) (t ∷ ts) n1 back
kept_height n v t alt (group_height {w = w} some small few) ts n1 back h = λ positive.
    let n2 : Notes = record n { local = Some (v, w) } in
    let ps : List Piece = comma ∷ space ∷ one ∷ closes ∷ closes ∷ closes ∷ space ∷ void ∷ [] in
    let k : All (texts ps ++ []) n2 ts n1 back = subst (λ z. All (texts ps ++ []) z ts n1 back) (sym (same_Some _ _ h.1)) h.2 in
    let a = at_tokens ps [] n2 ts n1 back k in
    record {
      local = Some (v, w);
      fits = and_from (nat_lt 0 v) _ positive (and_from (nat_lt 0 w) (nat_le (v * w) largest_group) (lt-ltb 0 w some) (le-leb (v * w) largest_group few));
      spelled = ap (λ z. width_line (decimal v ∷ comma ∷ space ∷ decimal w ∷ z)) (a.1 ∙ ap (before ps) a.2.1);
      noted = sym a.2.0;
    }

kept_turn : (n : Notes) (l : ℕ) (t : Piece) (alt : List Item) → Gives n (Turn l) t alt → (ts : List Piece) (n1 : Notes) (back : List Piece) → All alt n ts n1 back → Means n (Turn l) (t ∷ ts) n1 back
kept_turn n l t alt (turn small) ts n1 back h = (ap (λ z. loop_variable l ∷ z) h.1, h.0)

kept_indent : (n : Notes) (l : ℕ) (t : Piece) (alt : List Item) → Gives n (Indent l) t alt → (ts : List Piece) (n1 : Notes) (back : List Piece) → All alt n ts n1 back → Means n (Indent l) (t ∷ ts) n1 back
kept_indent n l t alt indented ts n1 back h = (ap (λ z. indent l ∷ z) h.1, h.0)

pub kept : (n : Notes) (f : Part) (t : Piece) (alt : List Item) → Gives n f t alt → (ts : List Piece) (n1 : Notes) (back : List Piece) → All alt n ts n1 back → Means n f (t ∷ ts) n1 back
kept n Launching = kept_launching n
kept n GroupWidth = kept_width n
kept n (GroupHeight v) = kept_height n v
kept n Parameter = kept_parameter n
kept n Pointer = kept_pointer n
kept n NewInput = kept_new_input n
kept n NewOutput = kept_new_output n
kept n AfterOutput = kept_after_output n
kept n OutputOrSize = kept_output_or_size n
kept n NewSize = kept_new_size n
kept n AfterSize = kept_after_size n
kept n Locals = kept_locals n
kept n NewLocal = kept_new_local n
kept n LocalLength = kept_local_length n
kept n Privates = kept_privates n
kept n Declared = kept_declared n
kept n PrivateLength = kept_private_length n
kept n Variables = kept_variables n
kept n NewVariable = kept_variable n
kept n Vectors = kept_vectors n
kept n NewVector = kept_vector n
kept n (Statement l nest) = kept_statement n l nest
kept n (Next l nest) = kept_next n l nest
kept n (Source l nest k) = kept_source n l nest k
kept n (SourceOfFour l nest k) = kept_source_of_four n l nest k
kept n (LoadedFour l nest k) = kept_loaded_four n l nest k
kept n (StoredFour l nest) = kept_stored_four n l nest
kept n (Fence l nest) = kept_fence n l nest
kept n (AfterLocal l nest) = kept_after_local n l nest
kept n (Beginning g l nest) = kept_beginning n g l nest
kept n (BeginningId g l nest) = kept_beginning_id n g l nest
kept n (BeginningAlong g l nest form) = kept_beginning_along n g l nest form
kept n (Step l nest s) = kept_step n l nest s
kept n (StepId l nest s) = kept_step_id n l nest s
kept n (StepAlong l nest s form) = kept_step_along n l nest s form
kept n (Turn l) = kept_turn n l
kept n (Indent l) = kept_indent n l
kept n (Value b l d) = kept_value n b l d
kept n (Opened b l d) = kept_opened n b l d
kept n (InLanes l d) = kept_lanes n l d
kept n (LanesOpened l d) = kept_lanes_opened n l d
kept n (LanesRest l d) = kept_lanes_rest n l d
kept n (LanesAfterLess l d) = kept_lanes_after_less n l d
kept n IdName = kept_id n
kept n (IdAlong form) = kept_id_along n form
kept n (Rest b l d) = kept_rest n b l d
kept n (AfterLess b l d) = kept_after_less n b l d
