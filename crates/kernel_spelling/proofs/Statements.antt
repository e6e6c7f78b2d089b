-- What is so of each statement: where its pieces end, whether it fits, how its pieces are cut, and
-- that it is read.
use Rattle.kernel_tree.specs.Code.{Statement, Code, Performs, Assigns, Loads, Stores, AssignsFour, LoadsFour, StoresFour, Syncs, Kernel, Array, Input, Output, Local, Private}
use Rattle.kernel_tree.specs.KernelText.{Statement as StatementPart, Piece, line, space, comma, semicolon, opens, closes, index_begins, index_ends, loads_four, stores_four, barrier, local_flag, global_flag, array_name, number_limit, Notes, counted, Next, Source, SourceOfFour, LoadedFour, StoredFour, Fence, Value, InLanes, Note, Assign, Load, Store, AssignFour, LoadFour, StoreFour, Sync, Item, texts, stored, assign, store, meet, load, value, assign_four, load_four, loaded_four, value_of_four, store_four, stored_four, fences_local, fences_global, local_alone, fences_both, noted, with_lanes, marked, kernels, all_of as notes_of}
use Rattle.kernel_tree.specs.Grammar.{is_statement, deepest, height, lanes_height, is_operator, names_declared, is_expression, names_declared_in_lanes, are_lanes, is_readable, is_writable, are_statements, is_shared}
use Rattle.kernel_spelling.specs.Spelling.{spell_statement, spell, spell_flags, spell_code, assign_line, assign_four_line}
use Rattle.kernel_spelling.proofs.Ended.{Ends, on2, on4, on5, more, ends_spell, ends_lanes}
use Rattle.kernel_spelling.proofs.Separate.{a_word, a_space, expression_stands, array_stands, four_words_stand}
use Rattle.kernel_spelling.proofs.Values.{Begins, begun, smaller, read_value, any, array_small, writable_readable, lanes_fit, read_lanes}
use Rattle.std.proofs.Common.{◌≡◌, ℕ, ◌<◌, List, [], ◌∷◌, ◌++◌, Bool, true, false, Some, append_assoc, refl, sym, ap, ◌∙◌, subst, ◌^◌, ◌≤◌, lit<}
use Rattle.std.specs.Prelude.{◌&&◌, ◌||◌, nat_lt, nat_le}
use Rattle.kernel_tree.specs.Formula.{Formula, Number, Variable, LoopVariable, Size, Id, Binary, Choose, Lanes, Vector, Spread, Each}
use Rattle.kernel_spelling.proofs.Cut.{Stand, single, NoWord, NoBlank, a_name}
use Rattle.std.proofs.lemmas.Bool.{ltb-true, and_parts}
use Rattle.kernel_spelling.specs.Meaning.{CountsFit}
use Rattle.readings.specs.Readings.{Token, Form, Mark, Reads, takes, gives, notes}
use Rattle.kernel_spelling.proofs.Kept.{with_values}

-- ---- a line's end behind it

ends_flags : (on_local on_global : Bool) (back : List Piece) → Ends back → Ends (spell_flags on_local on_global back)
ends_flags true true back h = on5 h
ends_flags true false back h = more h
ends_flags false true back h = more h
ends_flags false false back h = h

-- its pieces end with a line's end where one is behind them
pub ends_statement : (s : Statement) (back : List Piece) → Ends back → Ends (spell_statement s back)
ends_statement (Assigns k e) back h = on4 (ends_spell e _ h)
ends_statement (Loads k array i) back h = on4 (on2 (ends_spell i _ (more h)))
ends_statement (Stores array i e) back h = on2 (ends_spell i _ (on4 (ends_spell e _ h)))
ends_statement (AssignsFour k e) back h = on4 (ends_lanes e _ h)
ends_statement (LoadsFour k array i) back h = on4 (on2 (ends_spell i _ (on4 h)))
ends_statement (StoresFour array i e) back h = on2 (ends_lanes e _ (on2 (ends_spell i _ (on4 h))))
ends_statement (Syncs on_local on_global) back h = on2 (ends_flags on_local on_global _ (more h))

-- ---- the counts alone say whether it fits

module _ (k : Kernel) where
  abbrev bare : Kernel
  bare = counted (notes_of k)

  names_same : (l : ℕ) (e : Formula) → names_declared bare l e ≡ names_declared k l e
  names_same l (Number n) = refl
  names_same l (Variable v) = refl
  names_same l (LoopVariable i) = refl
  names_same l (Size s) = refl
  names_same l (Id d form) = refl
  names_same l (Binary o a b) = ap (λ z. is_operator o && (z && names_declared bare l b)) (names_same l a) ∙ ap (λ z. is_operator o && (names_declared k l a && z)) (names_same l b)
  names_same l (Choose c a b x y) =
      ap (λ z. (z && names_declared bare l b) && (names_declared bare l x && names_declared bare l y)) (names_same l a)
      ∙ ap (λ z. (names_declared k l a && z) && (names_declared bare l x && names_declared bare l y)) (names_same l b)
      ∙ ap (λ z. (names_declared k l a && names_declared k l b) && (z && names_declared bare l y)) (names_same l x)
      ∙ ap (λ z. (names_declared k l a && names_declared k l b) && (names_declared k l x && z)) (names_same l y)

  pub expression_same : (l : ℕ) (e : Formula) → is_expression bare l e ≡ is_expression k l e
  expression_same l e = ap (λ z. z && nat_le (height e) deepest) (names_same l e)

  lanes_names_same : (l : ℕ) (e : Lanes) → names_declared_in_lanes bare l e ≡ names_declared_in_lanes k l e
  lanes_names_same l (Vector v) = refl
  lanes_names_same l (Spread e) = names_same l e
  lanes_names_same l (Each o a b) = ap (λ z. is_operator o && (z && names_declared_in_lanes bare l b)) (lanes_names_same l a) ∙ ap (λ z. is_operator o && (names_declared_in_lanes k l a && z)) (lanes_names_same l b)

  lanes_same : (l : ℕ) (e : Lanes) → are_lanes bare l e ≡ are_lanes k l e
  lanes_same l e = ap (λ z. z && nat_le (lanes_height e) deepest) (lanes_names_same l e)

  readable_same : (a : Array) → is_readable bare a ≡ is_readable k a
  readable_same (Input a) = refl
  readable_same (Output a) = refl
  readable_same (Local a) = refl
  readable_same (Private a) = refl

  writable_same : (a : Array) → is_writable bare a ≡ is_writable k a
  writable_same (Input a) = refl
  writable_same (Output a) = refl
  writable_same (Local a) = refl
  writable_same (Private a) = refl

  -- it fits the counts alone where it fits the kernel
  pub statement_same : (l : ℕ) (s : Statement) → is_statement bare l s ≡ is_statement k l s
  statement_same l (Assigns v e) = ap (λ z. nat_lt v k.variables && z) (expression_same l e)
  statement_same l (Loads v a i) =
      ap (λ z. nat_lt v k.variables && (z && is_expression bare l i)) (readable_same a)
      ∙ ap (λ z. nat_lt v k.variables && (is_readable k a && z)) (expression_same l i)
  statement_same l (Stores a i e) =
      ap (λ z. z && (is_expression bare l i && is_expression bare l e)) (writable_same a)
      ∙ ap (λ z. is_writable k a && (z && is_expression bare l e)) (expression_same l i)
      ∙ ap (λ z. is_writable k a && (is_expression k l i && z)) (expression_same l e)
  statement_same l (AssignsFour v e) = ap (λ z. nat_lt v k.vectors && z) (lanes_same l e)
  statement_same l (LoadsFour v a i) =
      ap (λ z. nat_lt v k.vectors && ((is_shared a && z) && is_expression bare l i)) (readable_same a)
      ∙ ap (λ z. nat_lt v k.vectors && ((is_shared a && is_readable k a) && z)) (expression_same l i)
  statement_same l (StoresFour a i e) =
      ap (λ z. (is_shared a && z) && (is_expression bare l i && are_lanes bare l e)) (writable_same a)
      ∙ ap (λ z. (is_shared a && is_writable k a) && (z && are_lanes bare l e)) (expression_same l i)
      ∙ ap (λ z. (is_shared a && is_writable k a) && (is_expression k l i && z)) (lanes_same l e)
  statement_same l (Syncs on_local on_global) = refl

-- ---- the parts of one that fits

record LoadFits (k : Kernel) (l v : ℕ) (array : Array) (i : Formula) : Type 0 where
  below : v < k.variables
  allowed : is_readable k array ≡ true
  index : is_expression k l i ≡ true

load_fits : (k : Kernel) (l v : ℕ) (array : Array) (i : Formula) → is_statement k l (Loads v array i) ≡ true → LoadFits k l v array i
load_fits k l v array i f =
    let p = and_parts (nat_lt v k.variables) (is_readable k array && is_expression k l i) f in
    let q = and_parts (is_readable k array) (is_expression k l i) p.1 in
    record { below = ltb-true v k.variables p.0; allowed = q.0; index = q.1 }

record StoreFits (k : Kernel) (l : ℕ) (array : Array) (i e : Formula) : Type 0 where
  allowed : is_writable k array ≡ true
  index : is_expression k l i ≡ true
  word : is_expression k l e ≡ true

store_fits : (k : Kernel) (l : ℕ) (array : Array) (i e : Formula) → is_statement k l (Stores array i e) ≡ true → StoreFits k l array i e
store_fits k l array i e f =
    let p = and_parts (is_writable k array) (is_expression k l i && is_expression k l e) f in
    let q = and_parts (is_expression k l i) (is_expression k l e) p.1 in
    record { allowed = p.0; index = q.0; word = q.1 }

record LoadFourFits (k : Kernel) (l v : ℕ) (array : Array) (i : Formula) : Type 0 where
  below : v < k.vectors
  shared : is_shared array ≡ true
  allowed : is_readable k array ≡ true
  offset : is_expression k l i ≡ true

load_four_fits : (k : Kernel) (l v : ℕ) (array : Array) (i : Formula) → is_statement k l (LoadsFour v array i) ≡ true → LoadFourFits k l v array i
load_four_fits k l v array i f =
    let p = and_parts (nat_lt v k.vectors) ((is_shared array && is_readable k array) && is_expression k l i) f in
    let q = and_parts (is_shared array && is_readable k array) (is_expression k l i) p.1 in
    let u = and_parts (is_shared array) (is_readable k array) q.0 in
    record { below = ltb-true v k.vectors p.0; shared = u.0; allowed = u.1; offset = q.1 }

record StoreFourFits (k : Kernel) (l : ℕ) (array : Array) (i : Formula) (e : Lanes) : Type 0 where
  shared : is_shared array ≡ true
  allowed : is_writable k array ≡ true
  offset : is_expression k l i ≡ true
  words : are_lanes k l e ≡ true

store_four_fits : (k : Kernel) (l : ℕ) (array : Array) (i : Formula) (e : Lanes) → is_statement k l (StoresFour array i e) ≡ true → StoreFourFits k l array i e
store_four_fits k l array i e f =
    let p = and_parts (is_shared array && is_writable k array) (is_expression k l i && are_lanes k l e) f in
    let q = and_parts (is_expression k l i) (are_lanes k l e) p.1 in
    let u = and_parts (is_shared array) (is_writable k array) p.0 in
    record { shared = u.0; allowed = u.1; offset = q.0; words = q.1 }

-- ---- its pieces are those of its text

-- before what a variable is assigned
assign_stands : (k : ℕ) (ps : List Piece) → k < number_limit → NoBlank ps → Stand ps → Stand (assign_line k ps)
assign_stands k ps small apart stood = a_name 118 k _ small refl refl (a_space _ refl (single 61 _ refl refl (a_space _ apart stood)))

assign_four_stands : (k : ℕ) (ps : List Piece) → k < number_limit → NoBlank ps → Stand ps → Stand (assign_four_line k ps)
assign_four_stands k ps small apart stood = a_name 119 k _ small refl refl (a_space _ refl (single 61 _ refl refl (a_space _ apart stood)))

-- an array behind an offset or four words
shared_stands : (array : Array) (n : Notes) (ps : List Piece) → CountsFit n → is_readable (counted n) array ≡ true → Stand ps → Stand (comma ∷ space ∷ array_name array ∷ closes ∷ ps)
shared_stands array n ps fit f stood =
    let name = array_stands array n _ fit f refl (single 41 ps refl refl stood) in
    single 44 _ refl refl (a_space _ name.1 name.0)

flags_stand : (on_local on_global : Bool) → (on_local || on_global) ≡ true → (ps : List Piece) → NoWord ps → Stand ps → Stand (spell_flags on_local on_global ps)
flags_stand true true h ps apart stood =
    a_word local_flag _ refl (lit< tt) refl (a_space _ refl (single 124 _ refl refl (a_space _ refl (a_word global_flag ps refl (lit< tt) apart stood))))
flags_stand true false h ps apart stood = a_word local_flag ps refl (lit< tt) apart stood
flags_stand false true h ps apart stood = a_word global_flag ps refl (lit< tt) apart stood
flags_stand false false h ps apart stood = absurd (cc (h))

-- its pieces are cut by themselves, and the first is no blank
pub statement_stands : (s : Statement) (l : ℕ) (n : Notes) (back : List Piece) → CountsFit n → l ≤ deepest → is_statement (counted n) l s ≡ true → NoWord back → Stand back → Stand (spell_statement s back) × NoBlank (spell_statement s back)
statement_stands (Assigns k e) l n back fit deep f apart stood =
    let p = and_parts (nat_lt k n.variables) (is_expression (counted n) l e) f in
    let value = expression_stands e l n back fit deep p.1 apart stood in
    (assign_stands k _ (smaller k n.variables (2 ^ 32) (ltb-true k n.variables p.0) fit.variables) value.1 value.0, refl)
statement_stands (Loads k array i) l n back fit deep f apart stood =
    let p = load_fits (counted n) l k array i f in
    let index = expression_stands i l n _ fit deep p.index refl (single 93 back refl refl stood) in
    let source = array_stands array n _ fit p.allowed refl (single 91 _ refl refl index.0) in
    (assign_stands k _ (smaller k n.variables (2 ^ 32) p.below fit.variables) source.1 source.0, refl)
statement_stands (Stores array i e) l n back fit deep f apart stood =
    let p = store_fits (counted n) l array i e f in
    let value = expression_stands e l n back fit deep p.word apart stood in
    let index = expression_stands i l n _ fit deep p.index refl (single 93 _ refl refl (a_space _ refl (single 61 _ refl refl (a_space _ value.1 value.0)))) in
    array_stands array n _ fit (writable_readable n array p.allowed) refl (single 91 _ refl refl index.0)
statement_stands (AssignsFour k e) l n back fit deep f apart stood =
    let p = and_parts (nat_lt k n.vectors) (are_lanes (counted n) l e) f in
    let value = four_words_stand e l n back fit deep p.1 apart stood in
    (assign_four_stands k _ (smaller k n.vectors (2 ^ 32) (ltb-true k n.vectors p.0) fit.vectors) value.1 value.0, refl)
statement_stands (LoadsFour k array i) l n back fit deep f apart stood =
    let p = load_four_fits (counted n) l k array i f in
    let offset = expression_stands i l n _ fit deep p.offset refl (shared_stands array n back fit p.allowed stood) in
    (assign_four_stands k _ (smaller k n.vectors (2 ^ 32) p.below fit.vectors) refl (a_word loads_four _ refl (lit< tt) refl (single 40 _ refl refl offset.0)), refl)
statement_stands (StoresFour array i e) l n back fit deep f apart stood =
    let p = store_four_fits (counted n) l array i e f in
    let offset = expression_stands i l n _ fit deep p.offset refl (shared_stands array n back fit (writable_readable n array p.allowed) stood) in
    let words = four_words_stand e l n _ fit deep p.words refl (single 44 _ refl refl (a_space _ offset.1 offset.0)) in
    (a_word stores_four _ refl (lit< tt) refl (single 40 _ refl refl words.0), refl)
statement_stands (Syncs on_local on_global) l n back fit deep f apart stood =
    (a_word barrier _ refl (lit< tt) refl (single 40 _ refl refl (flags_stand on_local on_global f _ refl (single 41 back refl refl stood))), refl)

-- ---- it is read

-- few loops stand around, and no more than loops and ifs
abbrev pub Room : (loops nest : ℕ) → Type 0
Room l nest = (l ≤ nest) × (l ≤ deepest)

-- what is left of a block is read
abbrev pub NextIsRead : Code → Type 0
NextIsRead c = (l nest : ℕ) (o : List Item) (n : Notes) (ts : List Piece) (n2 : Notes) → CountsFit n → Room l nest → are_statements (counted n) l nest c ≡ true → Reads kernels o (noted n n.values (c ∷ n.blocks)) ts [] n2 → Reads kernels (Form (Next l nest) ∷ o) n (spell_code l nest c ts) [] n2

-- the end of a line, and what follows it
read_stored : (note : Note) (c : Code) (l nest : ℕ) (o : List Item) (n n3 : Notes) (ts : List Piece) (n2 : Notes) → NextIsRead c → CountsFit n → Room l nest → are_statements (counted n) l nest c ≡ true → marked note (noted n n.values (c ∷ n.blocks)) ≡ Some n3 → Reads kernels o n3 ts [] n2 → Reads kernels (stored l nest note ++ o) n (semicolon ∷ line ∷ spell_code l nest c ts) [] n2
read_stored note c l nest o n n3 ts n2 next fit deep f e r = takes (takes (next l nest (Mark note ∷ o) n ts n2 fit deep f (notes e r)))

-- a value stands in the place of what a variable is assigned
as_source : (l nest k : ℕ) (o : List Item) (n : Notes) (ts : List Piece) (n2 : Notes) → Begins (Value false l 1) (stored l nest (Assign k) ++ o) n ts n2 → Begins (Source l nest k) o n ts n2
as_source l nest k o n ts n2 b = record {
  piece = b.piece;
  alternative = b.alternative ++ stored l nest (Assign k);
  behind = b.behind;
  whole = b.whole;
  has = value b.has;
  reads = subst (λ z. Reads kernels z n b.behind [] n2) (sym (append_assoc b.alternative (stored l nest (Assign k)) o)) b.reads;
}

-- the same of four words
as_source_of_four : (l nest k : ℕ) (o : List Item) (n : Notes) (ts : List Piece) (n2 : Notes) → Begins (InLanes l 1) (stored l nest (AssignFour k) ++ o) n ts n2 → Begins (SourceOfFour l nest k) o n ts n2
as_source_of_four l nest k o n ts n2 b = record {
  piece = b.piece;
  alternative = b.alternative ++ stored l nest (AssignFour k);
  behind = b.behind;
  whole = b.whole;
  has = value_of_four b.has;
  reads = subst (λ z. Reads kernels z n b.behind [] n2) (sym (append_assoc b.alternative (stored l nest (AssignFour k)) o)) b.reads;
}

read_flags : (on_local on_global : Bool) → (on_local || on_global) ≡ true → (l nest : ℕ) (o : List Item) (n : Notes) (ts : List Piece) (n2 : Notes) → Reads kernels (stored l nest (Sync on_local on_global) ++ o) n ts [] n2 → Reads kernels (Form (Fence l nest) ∷ o) n (spell_flags on_local on_global (closes ∷ ts)) [] n2
read_flags true true h l nest o n ts n2 r = gives fences_local (gives fences_both (takes (takes (takes (takes r)))))
read_flags true false h l nest o n ts n2 r = gives fences_local (gives local_alone r)
read_flags false true h l nest o n ts n2 r = gives fences_global (takes r)
read_flags false false h l nest o n ts n2 r = absurd (cc (h))

-- what is left of its block is read behind it
pub read_performed : (s : Statement) (after : Code) → NextIsRead after → (l nest : ℕ) (o : List Item) (n : Notes) (ts : List Piece) (n2 : Notes) → CountsFit n → Room l nest → is_statement (counted n) l s ≡ true → are_statements (counted n) l nest after ≡ true → Reads kernels o (noted n n.values (Performs s after ∷ n.blocks)) ts [] n2
    → Begins (StatementPart l nest) o n (spell_statement s (semicolon ∷ line ∷ spell_code l nest after ts)) n2
read_performed (Assigns k e) after next l nest o n ts n2 fit deep f g r =
    let p = and_parts (nat_lt k n.variables) (is_expression (counted n) l e) f in
    let below = ltb-true k n.variables p.0 in
    let n1 = noted n (e ∷ n.values) n.blocks in
    let tail = read_stored (Assign k) after l nest o n1 _ ts n2 next (with_values n (e ∷ n.values) n.blocks fit) deep g refl r in
    let source = begun (Source l nest k) o n _ n2 (as_source l nest k o n _ n2 (read_value e false l (stored l nest (Assign k) ++ o) n _ n2 fit deep.1 p.1 (any e) tail)) in
    record { piece = _; alternative = _; behind = _; whole = refl; has = assign (smaller k n.variables (2 ^ 32) below fit.variables) below; reads = takes (takes (takes source)) }
read_performed (Loads k array i) after next l nest o n ts n2 fit deep f g r =
    let p = load_fits (counted n) l k array i f in
    let n1 = noted n (i ∷ n.values) n.blocks in
    let tail = read_stored (Load k array) after l nest o n1 _ ts n2 next (with_values n (i ∷ n.values) n.blocks fit) deep g refl r in
    let index = begun _ _ n _ n2 (read_value i false l (Token index_ends ∷ stored l nest (Load k array) ++ o) n _ n2 fit deep.1 p.index (any i) (takes tail)) in
    let source : Begins (Source l nest k) o n (array_name array ∷ index_begins ∷ spell i (index_ends ∷ semicolon ∷ line ∷ spell_code l nest after ts)) n2 = record { piece = array_name array; alternative = _; behind = _; whole = refl; has = load {array = array} (array_small n array fit p.allowed) p.allowed; reads = takes index } in
    record { piece = _; alternative = _; behind = _; whole = refl; has = assign (smaller k n.variables (2 ^ 32) p.below fit.variables) p.below; reads = takes (takes (takes (begun (Source l nest k) o n _ n2 source))) }
read_performed (Stores array i e) after next l nest o n ts n2 fit deep f g r =
    let p = store_fits (counted n) l array i e f in
    let n1 = noted n (i ∷ n.values) n.blocks in
    let m1 = noted n (e ∷ i ∷ n.values) n.blocks in
    let tail = read_stored (Store array) after l nest o m1 _ ts n2 next (with_values n (e ∷ i ∷ n.values) n.blocks fit) deep g refl r in
    let stored_value = begun _ _ n1 _ n2 (read_value e false l (stored l nest (Store array) ++ o) n1 _ n2 (with_values n (i ∷ n.values) n.blocks fit) deep.1 p.word (any e) tail) in
    let index = begun _ _ n _ n2 (read_value i false l _ n _ n2 fit deep.1 p.index (any i) (takes (takes (takes (takes stored_value))))) in
    record { piece = array_name array; alternative = _; behind = _; whole = refl; has = store {array = array} (array_small n array fit (writable_readable n array p.allowed)) p.allowed; reads = takes index }
read_performed (AssignsFour k e) after next l nest o n ts n2 fit deep f g r =
    let p = and_parts (nat_lt k n.vectors) (are_lanes (counted n) l e) f in
    let below = ltb-true k n.vectors p.0 in
    let n1 = with_lanes n n.values (e ∷ n.lanes) n.blocks in
    let tail = read_stored (AssignFour k) after l nest o n1 _ ts n2 next (lanes_fit n n.values (e ∷ n.lanes) n.blocks fit) deep g refl r in
    let source = begun (SourceOfFour l nest k) o n _ n2 (as_source_of_four l nest k o n _ n2 (read_lanes e l (stored l nest (AssignFour k) ++ o) n _ n2 fit deep.1 p.1 tail)) in
    record { piece = _; alternative = _; behind = _; whole = refl; has = assign_four (smaller k n.vectors (2 ^ 32) below fit.vectors) below; reads = takes (takes (takes source)) }
read_performed (LoadsFour k array i) after next l nest o n ts n2 fit deep f g r =
    let p = load_four_fits (counted n) l k array i f in
    let n1 = noted n (i ∷ n.values) n.blocks in
    let tail = read_stored (LoadFour k array) after l nest o n1 _ ts n2 next (with_values n (i ∷ n.values) n.blocks fit) deep g refl r in
    let from : Reads kernels (Form (LoadedFour l nest k) ∷ o) n1 (array_name array ∷ closes ∷ semicolon ∷ line ∷ spell_code l nest after ts) [] n2 = gives (loaded_four {array = array} (array_small n array fit p.allowed) p.shared p.allowed) (takes tail) in
    let index = begun _ _ n _ n2 (read_value i false l (texts (comma ∷ space ∷ []) ++ Form (LoadedFour l nest k) ∷ o) n _ n2 fit deep.1 p.offset (any i) (takes (takes from))) in
    let source : Begins (SourceOfFour l nest k) o n (loads_four ∷ opens ∷ spell i (comma ∷ space ∷ array_name array ∷ closes ∷ semicolon ∷ line ∷ spell_code l nest after ts)) n2 = record { piece = loads_four; alternative = _; behind = _; whole = refl; has = load_four; reads = takes index } in
    record { piece = _; alternative = _; behind = _; whole = refl; has = assign_four (smaller k n.vectors (2 ^ 32) p.below fit.vectors) p.below; reads = takes (takes (takes (begun (SourceOfFour l nest k) o n _ n2 source))) }
read_performed (StoresFour array i e) after next l nest o n ts n2 fit deep f g r =
    let p = store_four_fits (counted n) l array i e f in
    let n1 = with_lanes n n.values (e ∷ n.lanes) n.blocks in
    let n3 = noted n1 (i ∷ n1.values) n1.blocks in
    let fit1 = lanes_fit n n.values (e ∷ n.lanes) n.blocks fit in
    let behind_offset : List Item = texts (comma ∷ space ∷ []) ++ Form (StoredFour l nest) ∷ o in
    let tail = read_stored (StoreFour array) after l nest o n3 _ ts n2 next (with_values n1 (i ∷ n1.values) n1.blocks fit1) deep g refl r in
    let to : Reads kernels (Form (StoredFour l nest) ∷ o) n3 (array_name array ∷ closes ∷ semicolon ∷ line ∷ spell_code l nest after ts) [] n2 = gives (stored_four {array = array} (array_small n array fit (writable_readable n array p.allowed)) p.shared p.allowed) (takes tail) in
    let offset = begun _ _ n1 _ n2 (read_value i false l behind_offset n1 _ n2 fit1 deep.1 p.offset (any i) (takes (takes to))) in
    let words = begun _ _ n _ n2 (read_lanes e l (texts (comma ∷ space ∷ []) ++ Form (Value false l 1) ∷ behind_offset) n _ n2 fit deep.1 p.words (takes (takes offset))) in
    record { piece = stores_four; alternative = _; behind = _; whole = refl; has = store_four; reads = takes words }
read_performed (Syncs on_local on_global) after next l nest o n ts n2 fit deep f g r =
    let tail = read_stored (Sync on_local on_global) after l nest o n _ ts n2 next fit deep g refl r in
    record { piece = barrier; alternative = _; behind = _; whole = refl; has = meet; reads = takes (read_flags on_local on_global f l nest o n _ n2 tail) }
