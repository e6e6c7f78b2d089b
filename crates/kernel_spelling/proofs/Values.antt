-- What is spelled of an expression is read.
use Rattle.std.proofs.Common.{◌≡◌, ℕ, suc, ◌+◌, ◌<◌, ◌≤◌, ◌^◌, List, [], ◌∷◌, ◌++◌, Bool, true, false, refl, sym, ◌∙◌, subst, arith, max, lit<, length}
use Rattle.std.specs.Prelude.{nat_le, ◌&&◌}
use Rattle.std.proofs.Math.Nat.{le-max_left, le-max_right}
use Rattle.std.proofs.lemmas.Bool.{ltb-true, leb-true, and_parts}
use Rattle.std.proofs.lemmas.List.{append_assoc}
use Rattle.readings.specs.Readings.{Token, Form, Mark, Reads, takes, gives, notes}
use Rattle.scalar_ops.specs.declared.op.Op.{Op}
use Rattle.scalar_ops.specs.declared.op.Op.TheVariants.{Add, Mul, Min, Max, And, Or, Xor, Sub, Shl, Shr, Div, Rem, Lt, Eq}
use Rattle.kernel_tree.specs.declared.tree.Dimension.{Dimension}
use Rattle.kernel_tree.specs.Formula.{IdForm, Comparison, Less, Equal, Formula, Number, Variable, LoopVariable, Size, Id, Binary, Choose, Lanes, Vector, Spread, Each}
use Rattle.kernel_tree.specs.Code.{Array, Input, Output, Local, Private, Code}
use Rattle.kernel_tree.specs.Grammar.{deepest, height, lanes_height, is_operator, is_constant, names_declared, is_expression, names_declared_in_lanes, are_lanes, is_readable, is_writable}
use Rattle.kernel_tree.specs.KernelText.{Piece, space, comma, question, colon, opens, closes, uint4, least, greatest, array_number, vector, literal, number_limit, Part, Value, Opened, InLanes, LanesOpened, LanesRest, Rest, Both, Either, SpreadOut, EachOf, Notes, counted, Item, texts, Names, a_variable, a_loop_variable, a_size, adds, subtracts, multiplies, divides, leaves, ands, ors, xors, takes_least, takes_greatest, operated, operated_each, compared, Gives, value, number, named_value, call, open_value, an_id, both, this_id, id_along, sign, shift_right, equal, less_or_shift, shift_left, is_less, vector_value, lanes_call, open_lanes, spread_out, both_lanes, lanes_sign, lanes_right, lanes_less, lanes_left, noted, with_lanes, kernels}
use Rattle.kernel_spelling.specs.Spelling.{spell_id, is_called, spell_sign, spell_comparison, spell, spell_lanes}
use Rattle.kernel_spelling.specs.Meaning.{CountsFit, FitsAt, LanesFit}
use Rattle.kernel_spelling.proofs.Kept.{with_values}

-- a form's alternative for the text, and its reading
pub record Begins (f : Part) (o : List Item) (n : Notes) (ts : List Piece) (n2 : Notes) : Type 0 where
  pub piece : Piece
  pub alternative : List Item
  pub behind : List Piece
  pub whole : ts ≡ piece ∷ behind
  pub has : Gives n f piece alternative
  pub reads : Reads kernels (alternative ++ o) n behind [] n2

pub begun : (f : Part) (o : List Item) (n : Notes) (ts : List Piece) (n2 : Notes) → Begins f o n ts n2 → Reads kernels (Form f ∷ o) n ts [] n2
begun f o n ts n2 b = subst (λ z. Reads kernels (Form f ∷ o) n z [] n2) (sym b.whole) (gives b.has b.reads)

-- ---- expressions

leaf_depth : (d : ℕ) → 1 + d ≤ 1025 → d ≤ 1024
leaf_depth d h = omega (arith, h)

both_depth : (x d : ℕ) → suc x + d ≤ 1025 → d ≤ 1024
both_depth x d h = omega (arith, h)

left_depth : (x y d : ℕ) → suc (max x y) + d ≤ 1025 → x + suc d ≤ 1025
left_depth x y d h = let m = le-max_left x y in omega (arith, h, m)

right_depth : (x y d : ℕ) → suc (max x y) + d ≤ 1025 → y + suc d ≤ 1025
right_depth x y d h = let m = le-max_right x y in omega (arith, h, m)

of_max : (x y d : ℕ) → max x y + suc d ≤ 1025 → suc (max x y) + d ≤ 1025
of_max x y d h = omega (arith, h)

pub smaller : (i m k : ℕ) → i < m → m < k → i < k
smaller i m k h g = omega (arith, h, g)

a_name : (b : Bool) (e : Formula) (p : Piece) (n : Notes) (l : ℕ) → (b ≡ true → is_constant e ≡ true) → is_constant e ≡ false → Names n false l p e → Names n b l p e
a_name false e p n l c other known = known
a_name true e p n l c other known = absurd (let w : true ≡ false = sym (c refl) ∙ other in cc (w))

pub loops_small : (i l : ℕ) → i < l → l ≤ 1024 → i < 2 ^ 32
loops_small i l h g = let w : 1024 < 2 ^ 32 = lit< tt in omega (arith, h, g, w)

-- the parts of an expression fit a level deeper
fits_two : (n : Notes) (b : Bool) (l d : ℕ) (op : Op) (x y : Formula) → FitsAt n b l d (Binary op x y) → (is_operator op ≡ true) × FitsAt n b l (suc d) x × FitsAt n b l (suc d) y × (d ≤ deepest)
fits_two n b l d op x y f =
    let p = and_parts (is_operator op) (names_declared (counted n) l x && names_declared (counted n) l y) f.0 in
    let names = and_parts (names_declared (counted n) l x) (names_declared (counted n) l y) p.1 in (
      p.0,
      (names.0, λ h. (and_parts (is_constant x) (is_constant y) (f.1 h)).0, left_depth (height x) (height y) d f.2),
      (names.1, λ h. (and_parts (is_constant x) (is_constant y) (f.1 h)).1, right_depth (height x) (height y) d f.2),
      both_depth (max (height x) (height y)) d f.2,
    )

record FitsFour (n : Notes) (b : Bool) (l d : ℕ) (e a x y : Formula) : Type 0 where
  left : FitsAt n b l (suc d) e
  right : FitsAt n b l (suc d) a
  yes : FitsAt n b l (suc d) x
  no : FitsAt n b l (suc d) y
  deep : d ≤ deepest

fits_four : (n : Notes) (b : Bool) (l d : ℕ) (c : Comparison) (e a x y : Formula) → FitsAt n b l d (Choose c e a x y) → FitsFour n b l d e a x y
fits_four n b l d c e a x y f =
    let p = and_parts (names_declared (counted n) l e && names_declared (counted n) l a) (names_declared (counted n) l x && names_declared (counted n) l y) f.0 in
    let q = and_parts (names_declared (counted n) l e) (names_declared (counted n) l a) p.0 in
    let r = and_parts (names_declared (counted n) l x) (names_declared (counted n) l y) p.1 in
    let constants = λ (h : b ≡ true). and_parts (is_constant e && is_constant a) (is_constant x && is_constant y) (f.1 h) in
    let m = of_max (height e) (height a) d (left_depth (max (height e) (height a)) (max (height x) (height y)) d f.2) in
    let k = of_max (height x) (height y) d (right_depth (max (height e) (height a)) (max (height x) (height y)) d f.2) in
    record {
      left = (q.0, λ h. (and_parts (is_constant e) (is_constant a) (constants h).0).0, left_depth (height e) (height a) d m);
      right = (q.1, λ h. (and_parts (is_constant e) (is_constant a) (constants h).0).1, right_depth (height e) (height a) d m);
      yes = (r.0, λ h. (and_parts (is_constant x) (is_constant y) (constants h).1).0, left_depth (height x) (height y) d k);
      no = (r.1, λ h. (and_parts (is_constant x) (is_constant y) (constants h).1).1, right_depth (height x) (height y) d k);
      deep = both_depth (max (max (height e) (height a)) (max (height x) (height y))) d f.2;
    }

-- a sign, and what follows it
reads_sign : (op : Op) → is_operator op ≡ true → is_called op ≡ false → (b : Bool) (l d : ℕ) (o : List Item) (n : Notes) (ts : List Piece) (n2 : Notes) → Reads kernels (operated b l d op ++ o) n ts [] n2 → Reads kernels (Form (Rest b l d) ∷ o) n (spell_sign op (space ∷ ts)) [] n2
reads_sign Add h g b l d o n ts n2 r = gives (sign adds) (takes r)
reads_sign Sub h g b l d o n ts n2 r = gives (sign subtracts) (takes r)
reads_sign Mul h g b l d o n ts n2 r = gives (sign multiplies) (takes r)
reads_sign Div h g b l d o n ts n2 r = gives (sign divides) (takes r)
reads_sign Rem h g b l d o n ts n2 r = gives (sign leaves) (takes r)
reads_sign And h g b l d o n ts n2 r = gives (sign ands) (takes r)
reads_sign Or h g b l d o n ts n2 r = gives (sign ors) (takes r)
reads_sign Xor h g b l d o n ts n2 r = gives (sign xors) (takes r)
reads_sign Shl h g b l d o n ts n2 r = gives less_or_shift (gives shift_left (takes r))
reads_sign Shr h g b l d o n ts n2 r = gives shift_right (takes (takes r))
reads_sign Min h g b l d o n ts n2 r = absurd (cc (g))
reads_sign Max h g b l d o n ts n2 r = absurd (cc (g))
reads_sign Lt h g b l d o n ts n2 r = absurd (cc (h))
reads_sign Eq h g b l d o n ts n2 r = absurd (cc (h))

reads_comparison : (c : Comparison) (b : Bool) (l d : ℕ) (o : List Item) (n : Notes) (ts : List Piece) (n2 : Notes) → Reads kernels (compared b l d c ++ o) n ts [] n2 → Reads kernels (Form (Rest b l d) ∷ o) n (spell_comparison c (space ∷ ts)) [] n2
reads_comparison Less b l d o n ts n2 r = gives less_or_shift (gives is_less r)
reads_comparison Equal b l d o n ts n2 r = gives equal (takes (takes r))

-- what is in parentheses, by its left part
in_parentheses : (b : Bool) (l d : ℕ) (o : List Item) (n : Notes) (ts : List Piece) (n2 : Notes) → d ≤ deepest → Begins (Value b l (suc d)) (Token space ∷ Form (Rest b l (suc d)) ∷ o) n ts n2 → Begins (Value b l d) o n (opens ∷ ts) n2
in_parentheses b l d o n ts n2 deep left =
    let inner : Begins (Opened b l d) o n ts n2 = record {
      piece = left.piece;
      alternative = left.alternative ++ Token space ∷ Form (Rest b l (suc d)) ∷ [];
      behind = left.behind;
      whole = left.whole;
      has = both left.has;
      reads = subst (λ z. Reads kernels z n left.behind [] n2) (sym (append_assoc left.alternative (Token space ∷ Form (Rest b l (suc d)) ∷ []) o)) left.reads;
    } in
    record { piece = opens; alternative = Form (Opened b l d) ∷ []; behind = ts; whole = refl; has = open_value deep; reads = begun (Opened b l d) o n ts n2 inner }

begins_id : (along : Dimension) (form : IdForm) (b : Bool) (l d : ℕ) (o : List Item) (n : Notes) (ts : List Piece) (n2 : Notes) → FitsAt n b l d (Id along form) → Reads kernels o (noted n (Id along form ∷ n.values) n.blocks) ts [] n2 → Begins (Value b l d) o n (spell_id along form ts) n2
begins_id along form false l d o n ts n2 f r = record {
  piece = opens;
  alternative = Form (Opened false l d) ∷ [];
  behind = _;
  whole = refl;
  has = open_value (leaf_depth d f.2);
  reads = gives an_id (takes (gives (this_id {form = form}) (takes (gives (id_along {form = form} {d = along}) (takes (notes refl r))))));
}
begins_id along form true l d o n ts n2 f r = absurd (let w : false ≡ true = f.1 refl in cc (w))

begins_value : (e : Formula) (b : Bool) (l d : ℕ) (o : List Item) (n : Notes) (ts : List Piece) (n2 : Notes) → CountsFit n → l ≤ deepest → FitsAt n b l d e → Reads kernels o (noted n (e ∷ n.values) n.blocks) ts [] n2 → Begins (Value b l d) o n (spell e ts) n2
begins_value (Number v) b l d o n ts n2 c deep f r = record { piece = literal v; alternative = _; behind = ts; whole = refl; has = number (leaf_depth d f.2) (ltb-true v (2 ^ 32) f.0); reads = notes refl r }
begins_value (Variable k) b l d o n ts n2 c deep f r =
    let fits = ltb-true k n.variables f.0 in
    record { piece = _; alternative = _; behind = ts; whole = refl; has = named_value (leaf_depth d f.2) (a_name b (Variable k) _ n l f.1 refl (a_variable (smaller k n.variables (2 ^ 32) fits c.variables) fits)); reads = notes refl r }
begins_value (LoopVariable k) b l d o n ts n2 c deep f r =
    let fits = ltb-true k l f.0 in
    record { piece = _; alternative = _; behind = ts; whole = refl; has = named_value (leaf_depth d f.2) (a_name b (LoopVariable k) _ n l f.1 refl (a_loop_variable (loops_small k l fits deep) fits)); reads = notes refl r }
begins_value (Size k) b l d o n ts n2 c deep f r =
    let fits = ltb-true k n.sizes f.0 in
    record { piece = _; alternative = _; behind = ts; whole = refl; has = named_value (leaf_depth d f.2) (a_size (smaller k n.sizes (2 ^ 32) fits c.sizes) fits); reads = notes refl r }
begins_value (Id along form) b l d o n ts n2 c deep f r = begins_id along form b l d o n ts n2 f r
begins_value (Binary Min x y) b l d o n ts n2 c deep f r =
    let p = fits_two n b l d Min x y f in
    let n1 = noted n (x ∷ n.values) n.blocks in
    let right = begun _ _ n1 _ n2 (begins_value y b l (suc d) _ n1 _ n2 (with_values n (x ∷ n.values) n.blocks c) deep p.2 (takes (notes refl r))) in
    let left = begun _ _ n _ n2 (begins_value x b l (suc d) _ n _ n2 c deep p.1 (takes (takes right))) in
    record { piece = least; alternative = _; behind = _; whole = refl; has = call p.3 takes_least; reads = takes left }
begins_value (Binary Max x y) b l d o n ts n2 c deep f r =
    let p = fits_two n b l d Max x y f in
    let n1 = noted n (x ∷ n.values) n.blocks in
    let right = begun _ _ n1 _ n2 (begins_value y b l (suc d) _ n1 _ n2 (with_values n (x ∷ n.values) n.blocks c) deep p.2 (takes (notes refl r))) in
    let left = begun _ _ n _ n2 (begins_value x b l (suc d) _ n _ n2 c deep p.1 (takes (takes right))) in
    record { piece = greatest; alternative = _; behind = _; whole = refl; has = call p.3 takes_greatest; reads = takes left }
begins_value (Binary op x y) b l d o n ts n2 c deep f r =
    let p = fits_two n b l d op x y f in
    let n1 = noted n (x ∷ n.values) n.blocks in
    let right = begun _ _ n1 _ n2 (begins_value y b l (suc d) (Token closes ∷ Mark (Both op) ∷ o) n1 (closes ∷ ts) n2 (with_values n (x ∷ n.values) n.blocks c) deep p.2 (takes (notes refl r))) in
    let rest = reads_sign op p.0 refl b l (suc d) o n1 (spell y (closes ∷ ts)) n2 right in
    in_parentheses b l d o n (spell x (space ∷ spell_sign op (space ∷ spell y (closes ∷ ts)))) n2 p.3 (begins_value x b l (suc d) (Token space ∷ Form (Rest b l (suc d)) ∷ o) n (space ∷ spell_sign op (space ∷ spell y (closes ∷ ts))) n2 c deep p.1 (takes rest))
begins_value (Choose k e a x y) b l d o n ts n2 c deep f r =
    let p = fits_four n b l d k e a x y f in
    let n1 = noted n (e ∷ n.values) n.blocks in
    let n3 = noted n (a ∷ e ∷ n.values) n.blocks in
    let n4 = noted n (x ∷ a ∷ e ∷ n.values) n.blocks in
    let no = begun _ _ n4 _ n2 (begins_value y b l (suc d) (Token closes ∷ Mark (Either k) ∷ o) n4 (closes ∷ ts) n2 (with_values n (x ∷ a ∷ e ∷ n.values) n.blocks c) deep p.no (takes (notes refl r))) in
    let yes = begun _ _ n3 _ n2 (begins_value x b l (suc d) _ n3 (space ∷ colon ∷ space ∷ spell y (closes ∷ ts)) n2 (with_values n (a ∷ e ∷ n.values) n.blocks c) deep p.yes (takes (takes (takes no)))) in
    let right = begun _ _ n1 _ n2 (begins_value a b l (suc d) _ n1 (space ∷ question ∷ space ∷ spell x (space ∷ colon ∷ space ∷ spell y (closes ∷ ts))) n2 (with_values n (e ∷ n.values) n.blocks c) deep p.right (takes (takes (takes yes)))) in
    let choices = spell a (space ∷ question ∷ space ∷ spell x (space ∷ colon ∷ space ∷ spell y (closes ∷ ts))) in
    let rest = reads_comparison k b l (suc d) o n1 choices n2 right in
    in_parentheses b l d o n (spell e (space ∷ spell_comparison k (space ∷ choices))) n2 p.deep (begins_value e b l (suc d) (Token space ∷ Form (Rest b l (suc d)) ∷ o) n (space ∷ spell_comparison k (space ∷ choices)) n2 c deep p.left (takes rest))

pub read_value : (e : Formula) (b : Bool) (l : ℕ) (o : List Item) (n : Notes) (ts : List Piece) (n2 : Notes) → CountsFit n → l ≤ deepest → is_expression (counted n) l e ≡ true → (b ≡ true → is_constant e ≡ true) → Reads kernels o (noted n (e ∷ n.values) n.blocks) ts [] n2 → Begins (Value b l 1) o n (spell e ts) n2
read_value e b l o n ts n2 c deep f constant r =
    let p = and_parts (names_declared (counted n) l e) (nat_le (height e) deepest) f in
    let h : height e ≤ 1024 = leb-true (height e) deepest p.1 in
    begins_value e b l 1 o n ts n2 c deep (p.0, constant, (let k : height e + 1 ≤ 1025 = omega (arith, h) in k)) r

pub any : (e : Formula) → false ≡ true → is_constant e ≡ true
any e h = absurd (cc (h))

-- ---- arrays

pub array_small : (n : Notes) (a : Array) → CountsFit n → is_readable (counted n) a ≡ true → array_number a < number_limit
array_small n (Input k) c f = smaller k n.inputs (2 ^ 32) (ltb-true k n.inputs f) c.inputs
array_small n (Output k) c f = smaller k n.outputs (2 ^ 32) (ltb-true k n.outputs f) c.outputs
array_small n (Local k) c f = smaller k (length n.locals) (2 ^ 32) (ltb-true k (length n.locals) f) c.locals
array_small n (Private k) c f = smaller k (length n.privates) (2 ^ 32) (ltb-true k (length n.privates) f) c.privates

pub writable_readable : (n : Notes) (a : Array) → is_writable (counted n) a ≡ true → is_readable (counted n) a ≡ true
writable_readable n (Input k) f = absurd (cc (f))
writable_readable n (Output k) f = f
writable_readable n (Local k) f = f
writable_readable n (Private k) f = f

-- ---- expressions of four words

pub lanes_fit : (n : Notes) (values : List Formula) (lanes : List Lanes) (blocks : List Code) → CountsFit n → CountsFit (with_lanes n values lanes blocks)
lanes_fit n values lanes blocks c = record { inputs = c.inputs; outputs = c.outputs; sizes = c.sizes; locals = c.locals; privates = c.privates; variables = c.variables; vectors = c.vectors }

-- the parts of such an expression fit a level deeper
lanes_two : (n : Notes) (l d : ℕ) (op : Op) (x y : Lanes) → LanesFit n l d (Each op x y) → (is_operator op ≡ true) × LanesFit n l (suc d) x × LanesFit n l (suc d) y × (d ≤ deepest)
lanes_two n l d op x y f =
    let p = and_parts (is_operator op) (names_declared_in_lanes (counted n) l x && names_declared_in_lanes (counted n) l y) f.0 in
    let names = and_parts (names_declared_in_lanes (counted n) l x) (names_declared_in_lanes (counted n) l y) p.1 in (
      p.0,
      (names.0, left_depth (lanes_height x) (lanes_height y) d f.1),
      (names.1, right_depth (lanes_height x) (lanes_height y) d f.1),
      both_depth (max (lanes_height x) (lanes_height y)) d f.1,
    )

part_depth : (x d : ℕ) → suc x + d ≤ 1025 → x + suc d ≤ 1025
part_depth x d h = omega (arith, h)

-- a sign, and what follows it
reads_lanes_sign : (op : Op) → is_operator op ≡ true → is_called op ≡ false → (l d : ℕ) (o : List Item) (n : Notes) (ts : List Piece) (n2 : Notes) → Reads kernels (operated_each l d op ++ o) n ts [] n2 → Reads kernels (Form (LanesRest l d) ∷ o) n (spell_sign op (space ∷ ts)) [] n2
reads_lanes_sign Add h g l d o n ts n2 r = gives (lanes_sign adds) (takes r)
reads_lanes_sign Sub h g l d o n ts n2 r = gives (lanes_sign subtracts) (takes r)
reads_lanes_sign Mul h g l d o n ts n2 r = gives (lanes_sign multiplies) (takes r)
reads_lanes_sign Div h g l d o n ts n2 r = gives (lanes_sign divides) (takes r)
reads_lanes_sign Rem h g l d o n ts n2 r = gives (lanes_sign leaves) (takes r)
reads_lanes_sign And h g l d o n ts n2 r = gives (lanes_sign ands) (takes r)
reads_lanes_sign Or h g l d o n ts n2 r = gives (lanes_sign ors) (takes r)
reads_lanes_sign Xor h g l d o n ts n2 r = gives (lanes_sign xors) (takes r)
reads_lanes_sign Shl h g l d o n ts n2 r = gives lanes_less (gives lanes_left (takes r))
reads_lanes_sign Shr h g l d o n ts n2 r = gives lanes_right (takes (takes r))
reads_lanes_sign Min h g l d o n ts n2 r = absurd (cc (g))
reads_lanes_sign Max h g l d o n ts n2 r = absurd (cc (g))
reads_lanes_sign Lt h g l d o n ts n2 r = absurd (cc (h))
reads_lanes_sign Eq h g l d o n ts n2 r = absurd (cc (h))

-- what is in parentheses, by its left part
lanes_in_parentheses : (l d : ℕ) (o : List Item) (n : Notes) (ts : List Piece) (n2 : Notes) → d ≤ deepest → Begins (InLanes l (suc d)) (Token space ∷ Form (LanesRest l (suc d)) ∷ o) n ts n2 → Begins (InLanes l d) o n (opens ∷ ts) n2
lanes_in_parentheses l d o n ts n2 deep left =
    let inner : Begins (LanesOpened l d) o n ts n2 = record {
      piece = left.piece;
      alternative = left.alternative ++ Token space ∷ Form (LanesRest l (suc d)) ∷ [];
      behind = left.behind;
      whole = left.whole;
      has = both_lanes left.has;
      reads = subst (λ z. Reads kernels z n left.behind [] n2) (sym (append_assoc left.alternative (Token space ∷ Form (LanesRest l (suc d)) ∷ []) o)) left.reads;
    } in
    record { piece = opens; alternative = Form (LanesOpened l d) ∷ []; behind = ts; whole = refl; has = open_lanes deep; reads = begun (LanesOpened l d) o n ts n2 inner }

-- four of one word
begins_spread : (e : Formula) (l d : ℕ) (o : List Item) (n : Notes) (ts : List Piece) (n2 : Notes) → CountsFit n → l ≤ deepest → LanesFit n l d (Spread e) → Reads kernels o (with_lanes n n.values (Spread e ∷ n.lanes) n.blocks) ts [] n2 → Begins (InLanes l d) o n (opens ∷ uint4 ∷ closes ∷ opens ∷ spell e (closes ∷ ts)) n2
begins_spread e l d o n ts n2 c deep f r =
    let inner = begins_value e false l (suc d) (Token closes ∷ Mark SpreadOut ∷ o) n (closes ∷ ts) n2 c deep (f.0, λ h. absurd (cc (h)), part_depth (height e) d f.1) (takes (notes refl r)) in
    let value = begun (Value false l (suc d)) (Token closes ∷ Mark SpreadOut ∷ o) n (spell e (closes ∷ ts)) n2 inner in
    let opened : Reads kernels (Form (LanesOpened l d) ∷ o) n (uint4 ∷ closes ∷ opens ∷ spell e (closes ∷ ts)) [] n2 = gives spread_out (takes (takes value)) in
    record { piece = opens; alternative = Form (LanesOpened l d) ∷ []; behind = uint4 ∷ closes ∷ opens ∷ spell e (closes ∷ ts); whole = refl; has = open_lanes (both_depth (height e) d f.1); reads = opened }

begins_lanes : (e : Lanes) (l d : ℕ) (o : List Item) (n : Notes) (ts : List Piece) (n2 : Notes) → CountsFit n → l ≤ deepest → LanesFit n l d e → Reads kernels o (with_lanes n n.values (e ∷ n.lanes) n.blocks) ts [] n2 → Begins (InLanes l d) o n (spell_lanes e ts) n2
begins_lanes (Vector k) l d o n ts n2 c deep f r =
    let fits = ltb-true k n.vectors f.0 in
    record { piece = vector k; alternative = _; behind = ts; whole = refl; has = vector_value (leaf_depth d f.1) (smaller k n.vectors (2 ^ 32) fits c.vectors) fits; reads = notes refl r }
begins_lanes (Spread e) l d o n ts n2 c deep f r = begins_spread e l d o n ts n2 c deep f r
begins_lanes (Each Min x y) l d o n ts n2 c deep f r =
    let p = lanes_two n l d Min x y f in
    let n1 = with_lanes n n.values (x ∷ n.lanes) n.blocks in
    let right = begun _ _ n1 _ n2 (begins_lanes y l (suc d) (Token closes ∷ Mark (EachOf Min) ∷ o) n1 (closes ∷ ts) n2 (lanes_fit n n.values (x ∷ n.lanes) n.blocks c) deep p.2 (takes (notes refl r))) in
    let left = begun _ _ n _ n2 (begins_lanes x l (suc d) (texts (comma ∷ space ∷ []) ++ operated_each l (suc d) Min ++ o) n (comma ∷ space ∷ spell_lanes y (closes ∷ ts)) n2 c deep p.1 (takes (takes right))) in
    record { piece = least; alternative = _; behind = _; whole = refl; has = lanes_call p.3 takes_least; reads = takes left }
begins_lanes (Each Max x y) l d o n ts n2 c deep f r =
    let p = lanes_two n l d Max x y f in
    let n1 = with_lanes n n.values (x ∷ n.lanes) n.blocks in
    let right = begun _ _ n1 _ n2 (begins_lanes y l (suc d) (Token closes ∷ Mark (EachOf Max) ∷ o) n1 (closes ∷ ts) n2 (lanes_fit n n.values (x ∷ n.lanes) n.blocks c) deep p.2 (takes (notes refl r))) in
    let left = begun _ _ n _ n2 (begins_lanes x l (suc d) (texts (comma ∷ space ∷ []) ++ operated_each l (suc d) Max ++ o) n (comma ∷ space ∷ spell_lanes y (closes ∷ ts)) n2 c deep p.1 (takes (takes right))) in
    record { piece = greatest; alternative = _; behind = _; whole = refl; has = lanes_call p.3 takes_greatest; reads = takes left }
begins_lanes (Each op x y) l d o n ts n2 c deep f r =
    let p = lanes_two n l d op x y f in
    let n1 = with_lanes n n.values (x ∷ n.lanes) n.blocks in
    let right = begun _ _ n1 _ n2 (begins_lanes y l (suc d) (Token closes ∷ Mark (EachOf op) ∷ o) n1 (closes ∷ ts) n2 (lanes_fit n n.values (x ∷ n.lanes) n.blocks c) deep p.2 (takes (notes refl r))) in
    let rest = reads_lanes_sign op p.0 refl l (suc d) o n1 (spell_lanes y (closes ∷ ts)) n2 right in
    lanes_in_parentheses l d o n (spell_lanes x (space ∷ spell_sign op (space ∷ spell_lanes y (closes ∷ ts)))) n2 p.3 (begins_lanes x l (suc d) (Token space ∷ Form (LanesRest l (suc d)) ∷ o) n (space ∷ spell_sign op (space ∷ spell_lanes y (closes ∷ ts))) n2 c deep p.1 (takes rest))

pub read_lanes : (e : Lanes) (l : ℕ) (o : List Item) (n : Notes) (ts : List Piece) (n2 : Notes) → CountsFit n → l ≤ deepest → are_lanes (counted n) l e ≡ true → Reads kernels o (with_lanes n n.values (e ∷ n.lanes) n.blocks) ts [] n2 → Begins (InLanes l 1) o n (spell_lanes e ts) n2
read_lanes e l o n ts n2 c deep f r =
    let p = and_parts (names_declared_in_lanes (counted n) l e) (nat_le (lanes_height e) deepest) f in
    let h : lanes_height e ≤ 1024 = leb-true (lanes_height e) deepest p.1 in
    begins_lanes e l 1 o n ts n2 c deep (p.0, (let k : lanes_height e + 1 ≤ 1025 = omega (arith, h) in k)) r
