-- What is spelled is read.
use Rattle.std.proofs.Common.{◌≡◌, ℕ, zero, suc, ◌*◌, ◌+◌, ◌<◌, ◌≤◌, ◌^◌, List, [], ◌∷◌, ◌++◌, Bool, true, false, refl, ap, sym, ◌∙◌, subst, arith, lit<, lit≤, Option, None, Some, length}
use Rattle.std.specs.Prelude.{nat_lt, nat_le, decimal, ◌&&◌}
use Rattle.std.proofs.lemmas.Bool.{ltb-true, leb-true, and_parts}
use Rattle.std.proofs.lemmas.List.{append_assoc, append-nil}
use Rattle.readings.specs.Readings.{Form, Mark, Reads, stands, takes, gives, notes}
use Rattle.kernel_tree.specs.Formula.{GlobalId, GroupId, LocalId, GlobalSize, GroupCount, LocalSize, Formula}
use Rattle.kernel_tree.specs.Code.{Start, FromZero, FromGlobalId, FromGroupId, FromLocalId, Stride, ByOne, ByGlobalSize, ByGroupCount, ByLocalSize, Code, End, Performs, Loops, Guards, Kernel}
use Rattle.kernel_tree.specs.Grammar.{deepest, is_constant, is_expression, has_statement, are_statements, are_lengths, largest_group, is_group_size, is_statement}
use Rattle.kernel_tree.specs.KernelText.{Piece, space, line, comma, semicolon, equals, plus, opens, closes, block_begins, local, uint, uint4, for, whether, one, void, indent, size, number_limit, Part, Launching, GroupHeight, Parameter, AfterOutput, AfterSize, Locals, Privates, Variables, Vectors, Statement, Next, Beginning, Step, Turn, Indent, Value, Loop, Guard, Notes, counted, Item, texts, loop_head, loop_test, loop_body, guard_test, after_start, Gives, any_group, fixed_group, group_width, group_height, an_input, pointer_to_const, pointer, new_input, new_output, last_output, more_outputs, another_output, first_size, new_size, last_size, more_sizes, a_local, no_local, new_local, local_length, a_declaration, no_declaration, new_private, first_variable, private_length, another_variable, no_variable, new_variable, a_vector, statements, new_vector, loop, guard, another, end, end_of_block, indented, turn, from_zero, from_id, from_this_id, from_along, by_one, by_count, by_this_count, by_along, noted, kernels, start, nothing, all_of}
use Rattle.kernel_spelling.specs.Spelling.{spell_start, spell_stride, loop_line, test_line, step_line, block_line, below_line, spell_code, spell_locals, spell_privates, spell_variables, spell_vectors, spell_sizes, spell_outputs, spell_inputs, first_output, spell_launching, spell_body, spelled_with, HasText}
use Rattle.kernel_spelling.specs.Meaning.{CountsFit, fixed}
use Rattle.kernel_spelling.proofs.Kept.{with_private, with_local, one_longer, with_values, variables_fit, privates_fit, locals_fit, vectors_fit}
use Rattle.kernel_spelling.proofs.Values.{Begins, begun, loops_small, read_value}
use Rattle.kernel_spelling.proofs.Statements.{Room, NextIsRead, read_performed}

-- ---- statements

pub loop_room : (l nest : ℕ) → Room l nest → nest < 1024 → (l < 1024) × Room (suc l) (suc nest)
loop_room l nest room below =
    let under = room.0 in
    let few : l < 1024 = omega (arith, under, below) in (few, (omega (arith, under), (let k : suc l ≤ 1024 = omega (arith, few) in k)))

pub guard_room : (l nest : ℕ) → Room l nest → Room l (suc nest)
guard_room l nest room = let under = room.0 in (omega (arith, under), room.1)

record ReadsStatement (c : Code) (l nest : ℕ) (o : List Item) (n : Notes) (ts : List Piece) (n2 : Notes) : Type 0 where
  mid : List Piece
  behind_indent : spell_code l nest c ts ≡ indent (suc nest) ∷ mid
  begins : Begins (Statement l nest) o n mid n2

abbrev StatementIsRead : Code → Type 0
StatementIsRead c = (l nest : ℕ) (o : List Item) (n : Notes) (ts : List Piece) (n2 : Notes) → CountsFit n → Room l nest → are_statements (counted n) l nest c ≡ true → Reads kernels o (noted n n.values (c ∷ n.blocks)) ts [] n2 → ReadsStatement c l nest o n ts n2

behind : (c : Code) (l nest : ℕ) (o : List Item) (n : Notes) (ts : List Piece) (n2 : Notes) → ReadsStatement c l nest o n ts n2 → Reads kernels (Form (Next l nest) ∷ o) n (spell_code l nest c ts) [] n2
behind c l nest o n ts n2 s = subst (λ z. Reads kernels (Form (Next l nest) ∷ o) n z [] n2) (sym s.behind_indent) (gives another (begun (Statement l nest) o n s.mid n2 s.begins))

read_next : (c : Code) → (has_statement c ≡ true → StatementIsRead c) → NextIsRead c
read_next End h l zero o n ts n2 c deep f r = gives end (takes (notes refl r))
read_next End h l (suc nest) o n ts n2 c deep f r = gives end_of_block (takes (takes (notes refl r)))
read_next (Performs s after) h l nest o n ts n2 c deep f r = behind (Performs s after) l nest o n ts n2 (h refl l nest o n ts n2 c deep f r)
read_next (Loops start b stride body after) h l nest o n ts n2 c deep f r = behind (Loops start b stride body after) l nest o n ts n2 (h refl l nest o n ts n2 c deep f r)
read_next (Guards start b body after) h l nest o n ts n2 c deep f r = behind (Guards start b body after) l nest o n ts n2 (h refl l nest o n ts n2 c deep f r)

-- ---- the line of a loop or an if

read_start : (s : Start) (g : Bool) (l nest : ℕ) (o : List Item) (n : Notes) (ts : List Piece) (n2 : Notes) → Reads kernels (after_start g l nest s ++ o) n ts [] n2 → Reads kernels (Form (Beginning g l nest) ∷ o) n (spell_start s ts) [] n2
read_start FromZero g l nest o n ts n2 r = gives from_zero r
read_start (FromGlobalId d) g l nest o n ts n2 r = gives from_id (takes (takes (gives (from_this_id {form = GlobalId} refl) (takes (gives (from_along {form = GlobalId} d refl) (takes r))))))
read_start (FromGroupId d) g l nest o n ts n2 r = gives from_id (takes (takes (gives (from_this_id {form = GroupId} refl) (takes (gives (from_along {form = GroupId} d refl) (takes r))))))
read_start (FromLocalId d) g l nest o n ts n2 r = gives from_id (takes (takes (gives (from_this_id {form = LocalId} refl) (takes (gives (from_along {form = LocalId} d refl) (takes r))))))

read_stride : (c : Stride) (s : Start) (l nest : ℕ) (o : List Item) (n : Notes) (ts : List Piece) (n2 : Notes) → Reads kernels (loop_body l nest s c ++ o) n ts [] n2 → Reads kernels (Form (Step l nest s) ∷ o) n (spell_stride c ts) [] n2
read_stride ByOne s l nest o n ts n2 r = gives by_one r
read_stride (ByGlobalSize d) s l nest o n ts n2 r = gives by_count (takes (takes (gives (by_this_count {form = GlobalSize} refl) (takes (gives (by_along {form = GlobalSize} d refl) (takes r))))))
read_stride (ByGroupCount d) s l nest o n ts n2 r = gives by_count (takes (takes (gives (by_this_count {form = GroupCount} refl) (takes (gives (by_along {form = GroupCount} d refl) (takes r))))))
read_stride (ByLocalSize d) s l nest o n ts n2 r = gives by_count (takes (takes (gives (by_this_count {form = LocalSize} refl) (takes (gives (by_along {form = LocalSize} d refl) (takes r))))))

read_loop_head : (l nest : ℕ) (o : List Item) (n : Notes) (ts : List Piece) (n2 : Notes) → l < number_limit → Reads kernels (Form (Beginning false l nest) ∷ o) n ts [] n2 → (mid : List Piece) × (loop_line l ts ≡ for ∷ mid) × Reads kernels (loop_head l nest ++ o) n mid [] n2
read_loop_head l nest o n ts n2 small r = (_, refl, takes (takes (takes (takes (gives (turn small) (takes (takes (takes r))))))))

-- between what a loop's variable begins with and its step, around the bound
read_loop_test : (l nest : ℕ) (s : Start) (o : List Item) (n : Notes) (ts : List Piece) (n2 : Notes) → l < number_limit → Reads kernels (Form (Value true l 1) ∷ texts (semicolon ∷ space ∷ []) ++ Form (Turn l) ∷ texts (space ∷ plus ∷ equals ∷ space ∷ []) ++ Form (Step l nest s) ∷ o) n ts [] n2 → Reads kernels (loop_test l nest s ++ o) n (test_line l ts) [] n2
read_loop_test l nest s o n ts n2 small r = takes (takes (gives (turn small) (takes (takes (takes r)))))

read_loop_step : (l nest : ℕ) (s : Start) (o : List Item) (n : Notes) (ts : List Piece) (n2 : Notes) → l < number_limit → Reads kernels (Form (Step l nest s) ∷ o) n ts [] n2 → Reads kernels (texts (semicolon ∷ space ∷ []) ++ Form (Turn l) ∷ texts (space ∷ plus ∷ equals ∷ space ∷ []) ++ Form (Step l nest s) ∷ o) n (step_line l ts) [] n2
read_loop_step l nest s o n ts n2 small r = takes (takes (gives (turn small) (takes (takes (takes (takes r))))))

-- an if's block, behind its bound
abbrev guard_block : (l nest : ℕ) → Start → List Item → List Item
guard_block l nest s o = Form (Indent (suc (suc nest))) ∷ Form (Statement l (suc nest)) ∷ Form (Next l nest) ∷ Mark (Guard s) ∷ o

read_guard_block : (l nest : ℕ) (s : Start) (o : List Item) (n : Notes) (ts : List Piece) (n2 : Notes) → Reads kernels (guard_block l nest s o) n ts [] n2 → Reads kernels (texts (closes ∷ space ∷ block_begins ∷ line ∷ []) ++ guard_block l nest s o) n (block_line ts) [] n2
read_guard_block l nest s o n ts n2 r = takes (takes (takes (takes r)))

read_guard_test : (l nest : ℕ) (s : Start) (o : List Item) (n : Notes) (ts : List Piece) (n2 : Notes) → Reads kernels (Form (Value true l 1) ∷ texts (closes ∷ space ∷ block_begins ∷ line ∷ []) ++ guard_block l nest s o) n ts [] n2 → Reads kernels (guard_test l nest s ++ o) n (below_line ts) [] n2
read_guard_test l nest s o n ts n2 r = takes (takes (takes r))

-- the parts of a loop or an if that fits, whose body stands within `inner` loops
pub record BlockFits (n : Notes) (l inner nest : ℕ) (b : Formula) (body after : Code) : Type 0 where
  pub below : nest < 1024
  pub constant : is_constant b ≡ true
  pub bound : is_expression (counted n) l b ≡ true
  pub some : has_statement body ≡ true
  pub body_fits : are_statements (counted n) inner (suc nest) body ≡ true
  pub after_fits : are_statements (counted n) l nest after ≡ true

block_fits : (n : Notes) (l inner nest : ℕ) (b : Formula) (body after : Code) → (nat_lt nest deepest && (is_constant b && (is_expression (counted n) l b && (has_statement body && (are_statements (counted n) inner (suc nest) body && are_statements (counted n) l nest after))))) ≡ true → BlockFits n l inner nest b body after
block_fits n l inner nest b body after f =
    let p = and_parts (nat_lt nest deepest) (is_constant b && (is_expression (counted n) l b && (has_statement body && (are_statements (counted n) inner (suc nest) body && are_statements (counted n) l nest after)))) f in
    let q = and_parts (is_constant b) (is_expression (counted n) l b && (has_statement body && (are_statements (counted n) inner (suc nest) body && are_statements (counted n) l nest after))) p.1 in
    let u = and_parts (is_expression (counted n) l b) (has_statement body && (are_statements (counted n) inner (suc nest) body && are_statements (counted n) l nest after)) q.1 in
    let t = and_parts (has_statement body) (are_statements (counted n) inner (suc nest) body && are_statements (counted n) l nest after) u.1 in
    let v = and_parts (are_statements (counted n) inner (suc nest) body) (are_statements (counted n) l nest after) t.1 in
    record { below = ltb-true nest deepest p.0; constant = q.0; bound = u.0; some = t.0; body_fits = v.0; after_fits = v.1 }

pub loop_fits : (n : Notes) (l nest : ℕ) (s : Start) (b : Formula) (c : Stride) (body after : Code) → are_statements (counted n) l nest (Loops s b c body after) ≡ true → BlockFits n l (suc l) nest b body after
loop_fits n l nest s b c body after f = block_fits n l (suc l) nest b body after f

pub guard_fits : (n : Notes) (l nest : ℕ) (s : Start) (b : Formula) (body after : Code) → are_statements (counted n) l nest (Guards s b body after) ≡ true → BlockFits n l l nest b body after
guard_fits n l nest s b body after f = block_fits n l l nest b body after f

read_statement : (c : Code) → has_statement c ≡ true → StatementIsRead c
read_statement End h = absurd (cc (h))
read_statement (Performs s after) h = λ l nest o n ts n2 fit deep f r.
    let p = and_parts (is_statement (counted n) l s) (are_statements (counted n) l nest after) f in
    record { mid = _; behind_indent = refl; begins = read_performed s after (read_next after (read_statement after)) l nest o n ts n2 fit deep p.0 p.1 r }
read_statement (Loops s b c body after) h = λ l nest o n ts n2 fit deep f r.
    let p = loop_fits n l nest s b c body after f in
    let room = loop_room l nest deep p.below in
    let small = loops_small l 1024 room.0 (let k : 1024 ≤ 1024 = lit≤ tt in k) in
    let n1 = noted n (b ∷ n.values) n.blocks in
    let m1 = noted n (b ∷ n.values) (body ∷ n.blocks) in
    let tail = read_next after (read_statement after) l nest (Mark (Loop s c) ∷ o) m1 ts n2 (with_values n (b ∷ n.values) (body ∷ n.blocks) fit) deep p.after_fits (notes refl r) in
    let inner = read_statement body p.some (suc l) (suc nest) (Form (Next l nest) ∷ Mark (Loop s c) ∷ o) n1 (spell_code l nest after ts) n2 (with_values n (b ∷ n.values) n.blocks fit) room.1 p.body_fits tail in
    let opened = gives indented (begun _ _ n1 _ n2 inner.begins) in
    let begun_body = subst (λ z. Reads kernels (Form (Indent (suc (suc nest))) ∷ Form (Statement (suc l) (suc nest)) ∷ Form (Next l nest) ∷ Mark (Loop s c) ∷ o) n1 z [] n2) (sym inner.behind_indent) opened in
    let round = read_stride c s l nest o n1 (block_line (spell_code (suc l) (suc nest) body (spell_code l nest after ts))) n2 (takes (takes (takes (takes begun_body)))) in
    let bound = begun _ _ n _ n2 (read_value b true l _ n _ n2 fit deep.1 p.bound (λ k. p.constant) (read_loop_step l nest s o n1 _ n2 small round)) in
    let head = read_loop_head l nest o n _ n2 small (read_start s false l nest o n _ n2 (read_loop_test l nest s o n _ n2 small bound)) in
    record { mid = _; behind_indent = ap (λ z. indent (suc nest) ∷ z) head.1; begins = record { piece = for; alternative = _; behind = head.0; whole = refl; has = loop p.below; reads = head.2 } }
read_statement (Guards s b body after) h = λ l nest o n ts n2 fit deep f r.
    let p = guard_fits n l nest s b body after f in
    let n1 = noted n (b ∷ n.values) n.blocks in
    let m1 = noted n (b ∷ n.values) (body ∷ n.blocks) in
    let code = spell_code l (suc nest) body (spell_code l nest after ts) in
    let tail = read_next after (read_statement after) l nest (Mark (Guard s) ∷ o) m1 ts n2 (with_values n (b ∷ n.values) (body ∷ n.blocks) fit) deep p.after_fits (notes refl r) in
    let inner = read_statement body p.some l (suc nest) (Form (Next l nest) ∷ Mark (Guard s) ∷ o) n1 (spell_code l nest after ts) n2 (with_values n (b ∷ n.values) n.blocks fit) (guard_room l nest deep) p.body_fits tail in
    let opened = gives indented (begun _ _ n1 _ n2 inner.begins) in
    let begun_body : Reads kernels (guard_block l nest s o) n1 code [] n2 = subst (λ z. Reads kernels (guard_block l nest s o) n1 z [] n2) (sym inner.behind_indent) opened in
    let bound = begun _ _ n _ n2 (read_value b true l _ n _ n2 fit deep.1 p.bound (λ k. p.constant) (read_guard_block l nest s o n1 code n2 begun_body)) in
    let head = read_start s true l nest o n _ n2 (read_guard_test l nest s o n _ n2 bound) in
    record { mid = _; behind_indent = refl; begins = record { piece = whether; alternative = _; behind = _; whole = refl; has = guard p.below; reads = takes (takes head) } }

-- ---- declarations

no_more : (x : ℕ) → x + 0 ≡ x
no_more x = omega arith

one_more : (x y : ℕ) → x + suc y ≡ suc x + y
one_more x y = omega arith

within : (x y k : ℕ) → x + suc y < k → suc x < k
within x y k h = omega (arith, h)

with_count : (x y k : ℕ) → x + suc y < k → suc x + y < k
with_count x y k h = omega (arith, h)

-- a body behind its first indent
record ReadsBody (f : Part) (n : Notes) (ts : List Piece) (n2 : Notes) : Type 0 where
  mid : List Piece
  behind_indent : ts ≡ indent 1 ∷ mid
  begins : Begins f [] n mid n2

read_body : (f : Part) (n : Notes) (ts : List Piece) (n2 : Notes) → ReadsBody f n ts n2 → Reads kernels (Form (Indent 1) ∷ Form f ∷ []) n ts [] n2
read_body f n ts n2 b = subst (λ z. Reads kernels (Form (Indent 1) ∷ Form f ∷ []) n z [] n2) (sym b.behind_indent) (gives indented (begun f [] n b.mid n2 b.begins))

-- the statements of a body
read_code : (c : Code) (n n3 : Notes) → n3 ≡ noted n n.values (c ∷ n.blocks) → CountsFit n → are_statements (counted n3) 0 0 c ≡ true → has_statement c ≡ true → ReadsStatement c 0 0 [] n [] n3
read_code c n n3 same fit f s =
    let stood : Reads kernels [] (noted n n.values (c ∷ n.blocks)) [] [] n3 = subst (λ z. Reads kernels [] z [] [] n3) same stands in
    let g : are_statements (counted n) 0 0 c ≡ true = subst (λ (z : Notes). are_statements (counted z) 0 0 c ≡ true) same f in
    read_statement c s 0 0 [] n [] n3 fit ((let k : 0 ≤ 0 = lit≤ tt in k), (let k : 0 ≤ 1024 = lit≤ tt in k)) g stood

-- a form whose alternatives are also another's
as_form : (f g : Part) (n : Notes) (ts : List Piece) (n2 : Notes) → ((p : Piece) (alternative : List Item) → Gives n f p alternative → Gives n g p alternative) → ReadsBody f n ts n2 → ReadsBody g n ts n2
as_form f g n ts n2 h b = record {
  mid = b.mid;
  behind_indent = b.behind_indent;
  begins = record { piece = b.begins.piece; alternative = b.begins.alternative; behind = b.begins.behind; whole = b.begins.whole; has = h b.begins.piece b.begins.alternative b.begins.has; reads = b.begins.reads };
}

code_body : (c : Code) (n n3 : Notes) → n3 ≡ noted n n.values (c ∷ n.blocks) → CountsFit n → are_statements (counted n3) 0 0 c ≡ true → has_statement c ≡ true → ReadsBody (Statement 0 0) n (spell_code 0 0 c []) n3
code_body c n n3 same fit f s = let q = read_code c n n3 same fit f s in record { mid = q.mid; behind_indent = q.behind_indent; begins = q.begins }

abbrev VectorsMade : ℕ → Code → Notes → Notes → Type 0
VectorsMade vectors c n n3 = n3 ≡ record n { vectors = n.vectors + vectors; blocks = c ∷ n.blocks }

no_vectors : (c : Code) (n n3 : Notes) → VectorsMade 0 c n n3 → n3 ≡ noted n n.values (c ∷ n.blocks)
no_vectors c n n3 e = e ∙ ap (λ v. record n { vectors = v; blocks = c ∷ n.blocks }) (no_more n.vectors)

read_vectors : (vectors : ℕ) (c : Code) (n n3 : Notes) → VectorsMade vectors c n n3 → CountsFit n → n.vectors + vectors < number_limit → are_statements (counted n3) 0 0 c ≡ true → has_statement c ≡ true → ReadsBody Vectors n (spell_vectors n.vectors vectors (spell_code 0 0 c [])) n3
read_vectors zero c n n3 e fit small f s = as_form (Statement 0 0) Vectors n _ n3 (λ p alternative g. statements g) (code_body c n n3 (no_vectors c n n3 e) fit f s)
read_vectors (suc more) c n n3 e fit small f s =
    let n1 : Notes = record n { vectors = suc n.vectors } in
    let e1 : VectorsMade more c n1 n3 = e ∙ ap (λ v. record n { vectors = v; blocks = c ∷ n.blocks }) (one_more n.vectors more) in
    let one = within n.vectors more number_limit small in
    let rest = read_body Vectors n1 _ n3 (read_vectors more c n1 n3 e1 (vectors_fit n fit one) (with_count n.vectors more number_limit small) f s) in
    record { mid = _; behind_indent = refl; begins = record { piece = uint4; alternative = _; behind = _; whole = refl; has = a_vector; reads = takes (gives (new_vector one) (notes refl (takes (takes rest)))) } }

abbrev VariablesMade : (more vectors : ℕ) → Code → Notes → Notes → Type 0
VariablesMade more vectors c n n3 = n3 ≡ record n { variables = n.variables + more; vectors = n.vectors + vectors; blocks = c ∷ n.blocks }

no_variables : (vectors : ℕ) (c : Code) (n n3 : Notes) → VariablesMade 0 vectors c n n3 → VectorsMade vectors c n n3
no_variables vectors c n n3 e = e ∙ ap (λ v. record n { variables = v; vectors = n.vectors + vectors; blocks = c ∷ n.blocks }) (no_more n.variables)

read_variables : (more vectors : ℕ) (c : Code) (n n3 : Notes) → VariablesMade more vectors c n n3 → CountsFit n → n.variables + more < number_limit → n.vectors + vectors < number_limit → are_statements (counted n3) 0 0 c ≡ true → has_statement c ≡ true
    → ReadsBody Variables n (spell_variables n.variables more (spell_vectors n.vectors vectors (spell_code 0 0 c []))) n3
read_variables zero vectors c n n3 e fit small wide f s = as_form Vectors Variables n _ n3 (λ p alternative g. no_variable g) (read_vectors vectors c n n3 (no_variables vectors c n n3 e) fit wide f s)
read_variables (suc more) vectors c n n3 e fit small wide f s =
    let n1 : Notes = record n { variables = suc n.variables } in
    let e1 : VariablesMade more vectors c n1 n3 = e ∙ ap (λ v. record n { variables = v; vectors = n.vectors + vectors; blocks = c ∷ n.blocks }) (one_more n.variables more) in
    let one = within n.variables more number_limit small in
    let rest = read_body Variables n1 _ n3 (read_variables more vectors c n1 n3 e1 (variables_fit n fit one) (with_count n.variables more number_limit small) wide f s) in
    record { mid = _; behind_indent = refl; begins = record { piece = uint; alternative = _; behind = _; whole = refl; has = another_variable; reads = takes (gives (new_variable one) (notes refl (takes (takes rest)))) } }

-- variables alone, where private arrays might be declared
variables_alone : (more vectors : ℕ) (c : Code) (n n3 : Notes) → VariablesMade more vectors c n n3 → CountsFit n → n.variables + more < number_limit → n.vectors + vectors < number_limit → are_statements (counted n3) 0 0 c ≡ true → has_statement c ≡ true
    → ReadsBody Privates n (spell_variables n.variables more (spell_vectors n.vectors vectors (spell_code 0 0 c []))) n3
variables_alone zero vectors c n n3 e fit small wide f s = as_form Vectors Privates n _ n3 (λ p alternative g. no_declaration g) (read_vectors vectors c n n3 (no_variables vectors c n n3 e) fit wide f s)
variables_alone (suc more) vectors c n n3 e fit small wide f s =
    let n1 : Notes = record n { variables = suc n.variables } in
    let e1 : VariablesMade more vectors c n1 n3 = e ∙ ap (λ v. record n { variables = v; vectors = n.vectors + vectors; blocks = c ∷ n.blocks }) (one_more n.variables more) in
    let one = within n.variables more number_limit small in
    let rest = read_body Variables n1 _ n3 (read_variables more vectors c n1 n3 e1 (variables_fit n fit one) (with_count n.variables more number_limit small) wide f s) in
    record { mid = _; behind_indent = refl; begins = record { piece = uint; alternative = _; behind = _; whole = refl; has = a_declaration; reads = takes (gives (first_variable (new_variable one)) (notes refl (takes (takes rest)))) } }

pub length_parts : (v : ℕ) (vs : List ℕ) → are_lengths (v ∷ vs) ≡ true → (0 < v) × (v < 2 ^ 32) × (are_lengths vs ≡ true)
length_parts v vs h =
    let p = and_parts (nat_lt 0 v) (nat_lt v (2 ^ 32) && are_lengths vs) h in
    let q = and_parts (nat_lt v (2 ^ 32)) (are_lengths vs) p.1 in
    (ltb-true 0 v p.0, ltb-true v (2 ^ 32) q.0, q.1)

abbrev PrivatesMade : List ℕ → (more vectors : ℕ) → Code → Notes → Notes → Type 0
PrivatesMade vs more vectors c n n3 = n3 ≡ record n { privates = n.privates ++ vs; variables = n.variables + more; vectors = n.vectors + vectors; blocks = c ∷ n.blocks }

read_privates : (vs : List ℕ) (more vectors : ℕ) (c : Code) (n n3 : Notes) → PrivatesMade vs more vectors c n n3 → CountsFit n → are_lengths vs ≡ true → length n.privates + length vs < number_limit → n.variables + more < number_limit → n.vectors + vectors < number_limit → are_statements (counted n3) 0 0 c ≡ true → has_statement c ≡ true
    → ReadsBody Privates n (spell_privates (length n.privates) vs (spell_variables n.variables more (spell_vectors n.vectors vectors (spell_code 0 0 c [])))) n3
read_privates [] more vectors c n n3 e fit h few small wide f s = variables_alone more vectors c n n3 (e ∙ ap (λ (z : List ℕ). record n { privates = z; variables = n.variables + more; vectors = n.vectors + vectors; blocks = c ∷ n.blocks }) (append-nil n.privates)) fit small wide f s
read_privates (v ∷ vs) more vectors c n n3 e fit h few small wide f s =
    let p = length_parts v vs h in
    let n1 = with_private n v in
    let longer = one_longer n.privates v in
    let e1 : PrivatesMade vs more vectors c n1 n3 = e ∙ ap (λ (z : List ℕ). record n { privates = z; variables = n.variables + more; vectors = n.vectors + vectors; blocks = c ∷ n.blocks }) (sym (append_assoc n.privates (v ∷ []) vs)) in
    let one = within (length n.privates) (length vs) number_limit few in
    let fewer : length n1.privates + length vs < number_limit = subst (λ z. z + length vs < number_limit) (sym longer) (with_count (length n.privates) (length vs) number_limit few) in
    let inner = read_body Privates n1 _ n3 (read_privates vs more vectors c n1 n3 e1 (privates_fit n v fit one) p.2 fewer small wide f s) in
    let rest = subst (λ z. Reads kernels (Form (Indent 1) ∷ Form Privates ∷ []) n1 (spell_privates z vs (spell_variables n.variables more (spell_vectors n.vectors vectors (spell_code 0 0 c [])))) [] n3) longer inner in
    record { mid = _; behind_indent = refl; begins = record { piece = uint; alternative = _; behind = _; whole = refl; has = a_declaration; reads = takes (gives (new_private one) (takes (gives (private_length p.0 p.1) (notes refl (takes (takes (takes rest))))))) } }

abbrev LocalsMade : (ls ps : List ℕ) → (more vectors : ℕ) → Code → Notes → Notes → Type 0
LocalsMade ls ps more vectors c n n3 = n3 ≡ record n { locals = n.locals ++ ls; privates = n.privates ++ ps; variables = n.variables + more; vectors = n.vectors + vectors; blocks = c ∷ n.blocks }

read_locals : (ls ps : List ℕ) (more vectors : ℕ) (c : Code) (n n3 : Notes) → LocalsMade ls ps more vectors c n n3 → CountsFit n → are_lengths ls ≡ true → are_lengths ps ≡ true → length n.locals + length ls < number_limit → length n.privates + length ps < number_limit → n.variables + more < number_limit → n.vectors + vectors < number_limit → are_statements (counted n3) 0 0 c ≡ true → has_statement c ≡ true
    → ReadsBody Locals n (spell_locals (length n.locals) ls (spell_privates (length n.privates) ps (spell_variables n.variables more (spell_vectors n.vectors vectors (spell_code 0 0 c []))))) n3
read_locals [] ps more vectors c n n3 e fit h g few less_few small wide f s =
    as_form Privates Locals n _ n3 (λ p alternative q. no_local q) (read_privates ps more vectors c n n3 (e ∙ ap (λ (z : List ℕ). record n { locals = z; privates = n.privates ++ ps; variables = n.variables + more; vectors = n.vectors + vectors; blocks = c ∷ n.blocks }) (append-nil n.locals)) fit g less_few small wide f s)
read_locals (v ∷ vs) ps more vectors c n n3 e fit h g few less_few small wide f s =
    let p = length_parts v vs h in
    let n1 = with_local n v in
    let longer = one_longer n.locals v in
    let e1 : LocalsMade vs ps more vectors c n1 n3 = e ∙ ap (λ (z : List ℕ). record n { locals = z; privates = n.privates ++ ps; variables = n.variables + more; vectors = n.vectors + vectors; blocks = c ∷ n.blocks }) (sym (append_assoc n.locals (v ∷ []) vs)) in
    let one = within (length n.locals) (length vs) number_limit few in
    let fewer : length n1.locals + length vs < number_limit = subst (λ z. z + length vs < number_limit) (sym longer) (with_count (length n.locals) (length vs) number_limit few) in
    let inner = read_body Locals n1 _ n3 (read_locals vs ps more vectors c n1 n3 e1 (locals_fit n v fit one) p.2 g fewer less_few small wide f s) in
    let rest = subst (λ z. Reads kernels (Form (Indent 1) ∷ Form Locals ∷ []) n1 (spell_locals z vs (spell_privates (length n.privates) ps (spell_variables n.variables more (spell_vectors n.vectors vectors (spell_code 0 0 c []))))) [] n3) longer inner in
    record { mid = _; behind_indent = refl; begins = record { piece = local; alternative = _; behind = _; whole = refl; has = a_local; reads = takes (takes (takes (gives (new_local one) (takes (gives (local_length p.0 p.1) (notes refl (takes (takes (takes rest))))))))) } }

-- ---- parameters

read_sizes : (more : ℕ) (o : List Item) (n n3 : Notes) (ts : List Piece) (n2 : Notes) → n3 ≡ record n { sizes = n.sizes + more } → n.sizes + more < number_limit → Reads kernels o n3 ts [] n2 → Reads kernels (Form AfterSize ∷ o) n (spell_sizes n.sizes more ts) [] n2
read_sizes zero o n n3 ts n2 e small r = gives last_size (subst (λ z. Reads kernels o z ts [] n2) (e ∙ ap (λ v. record n { sizes = v }) (no_more n.sizes)) r)
read_sizes (suc more) o n n3 ts n2 e small r =
    let n1 : Notes = record n { sizes = suc n.sizes } in
    let rest = read_sizes more o n1 n3 ts n2 (e ∙ ap (λ v. record n { sizes = v }) (one_more n.sizes more)) (with_count n.sizes more number_limit small) r in
    gives more_sizes (takes (takes (takes (takes (takes (gives (new_size (within n.sizes more number_limit small)) (notes refl rest)))))))

-- the first size stands in the place of another output
sizes_first : (sizes : ℕ) (o : List Item) (n n3 : Notes) (ts : List Piece) (n2 : Notes) → n3 ≡ record n { sizes = n.sizes + sizes } → n.sizes + sizes < number_limit → Reads kernels o n3 ts [] n2 → Reads kernels (Form AfterOutput ∷ o) n (spell_sizes n.sizes sizes ts) [] n2
sizes_first zero o n n3 ts n2 e small r = gives last_output (subst (λ z. Reads kernels o z ts [] n2) (e ∙ ap (λ v. record n { sizes = v }) (no_more n.sizes)) r)
sizes_first (suc more) o n n3 ts n2 e small r =
    let n1 : Notes = record n { sizes = suc n.sizes } in
    let rest = read_sizes more o n1 n3 ts n2 (e ∙ ap (λ v. record n { sizes = v }) (one_more n.sizes more)) (with_count n.sizes more number_limit small) r in
    gives more_outputs (takes (gives first_size (takes (takes (takes (gives (new_size (within n.sizes more number_limit small)) (notes refl rest)))))))

read_outputs : (more sizes : ℕ) (o : List Item) (n n3 : Notes) (ts : List Piece) (n2 : Notes) → n3 ≡ record n { outputs = n.outputs + more; sizes = n.sizes + sizes } → n.outputs + more < number_limit → n.sizes + sizes < number_limit → Reads kernels o n3 ts [] n2 → Reads kernels (Form AfterOutput ∷ o) n (spell_outputs n.outputs more (spell_sizes n.sizes sizes ts)) [] n2
read_outputs zero sizes o n n3 ts n2 e small few r = sizes_first sizes o n n3 ts n2 (e ∙ ap (λ v. record n { outputs = v; sizes = n.sizes + sizes }) (no_more n.outputs)) few r
read_outputs (suc more) sizes o n n3 ts n2 e small few r =
    let n1 : Notes = record n { outputs = suc n.outputs } in
    let rest = read_outputs more sizes o n1 n3 ts n2 (e ∙ ap (λ v. record n { outputs = v; sizes = n.sizes + sizes }) (one_more n.outputs more)) (with_count n.outputs more number_limit small) few r in
    gives more_outputs (takes (gives another_output (takes (takes (takes (takes (gives (new_output (within n.outputs more number_limit small)) (notes refl rest))))))))

read_parameters : (inputs more sizes : ℕ) (o : List Item) (n n3 : Notes) (ts : List Piece) (n2 : Notes) → n3 ≡ record n { inputs = n.inputs + inputs; outputs = n.outputs + suc more; sizes = n.sizes + sizes } → n.inputs + inputs < number_limit → n.outputs + suc more < number_limit → n.sizes + sizes < number_limit → Reads kernels o n3 ts [] n2
    → Reads kernels (Form Parameter ∷ o) n (spell_inputs n.inputs inputs (first_output n.outputs (spell_outputs (suc n.outputs) more (spell_sizes n.sizes sizes ts)))) [] n2
read_parameters zero more sizes o n n3 ts n2 e ins small few r =
    let n1 : Notes = record n { outputs = suc n.outputs } in
    let e1 = e ∙ ap (λ v. record n { inputs = v; outputs = n.outputs + suc more; sizes = n.sizes + sizes }) (no_more n.inputs) ∙ ap (λ v. record n { outputs = v; sizes = n.sizes + sizes }) (one_more n.outputs more) in
    let rest = read_outputs more sizes o n1 n3 ts n2 e1 (with_count n.outputs more number_limit small) few r in
    gives an_input (takes (gives pointer (takes (takes (gives (new_output (within n.outputs more number_limit small)) (notes refl rest))))))
read_parameters (suc inputs) more sizes o n n3 ts n2 e ins small few r =
    let n1 : Notes = record n { inputs = suc n.inputs } in
    let e1 = e ∙ ap (λ v. record n { inputs = v; outputs = n.outputs + suc more; sizes = n.sizes + sizes }) (one_more n.inputs inputs) in
    let rest = read_parameters inputs more sizes o n1 n3 ts n2 e1 (with_count n.inputs inputs number_limit ins) small few r in
    gives an_input (takes (gives pointer_to_const (takes (takes (takes (takes (gives (new_input (within n.inputs inputs number_limit ins)) (notes refl (takes (takes rest))))))))))

-- ---- the groups' size

factor_within : (a b m : ℕ) → 0 < b → a * b ≤ m → a ≤ m
factor_within a zero m some h = absurd (omega (arith, some))
factor_within a (suc b) m some h = omega (arith, h)

other_within : (a b m : ℕ) → 0 < a → a * b ≤ m → b ≤ m
other_within zero b m some h = absurd (omega (arith, some))
other_within (suc a) b m some h = omega (arith, h)

-- a size's numbers
pub record SizeFits (v w : ℕ) : Type 0 where
  pub width : 0 < v
  pub height : 0 < w
  pub few : v * w ≤ 256
  pub narrow : v ≤ 256
  pub small_width : v < 2 ^ 32
  pub small_height : w < 2 ^ 32

pub size_fits : (v w : ℕ) → is_group_size (Some (v, w)) ≡ true → SizeFits v w
size_fits v w h =
    let p = and_parts (nat_lt 0 v) (nat_lt 0 w && nat_le (v * w) largest_group) h in
    let q = and_parts (nat_lt 0 w) (nat_le (v * w) largest_group) p.1 in
    let width = ltb-true 0 v p.0 in
    let height = ltb-true 0 w q.0 in
    let few : v * w ≤ 256 = leb-true (v * w) largest_group q.1 in
    let narrow = factor_within v w 256 height few in
    let low = other_within v w 256 width few in
    let limit : 256 < 2 ^ 32 = lit< tt in
    record { width = width; height = height; few = few; narrow = narrow; small_width = omega (arith, narrow, limit); small_height = omega (arith, low, limit) }

read_launching : (size : Option (ℕ × ℕ)) (o : List Item) (n n3 : Notes) (ts : List Piece) (n2 : Notes) → is_group_size size ≡ true → n3 ≡ fixed n size → Reads kernels o n3 ts [] n2 → Reads kernels (Form Launching ∷ o) n (spell_launching size ts) [] n2
read_launching None o n n3 ts n2 h e r = gives any_group (subst (λ z. Reads kernels o z ts [] n2) e r)
read_launching (Some size) o n n3 ts n2 h e r =
    let p = size_fits size.0 size.1 h in
    let behind : Reads kernels o (record n { local = Some size }) ts [] n2 = subst (λ z. Reads kernels o z ts [] n2) e r in
    let fixed_now : Reads kernels (Form (GroupHeight size.0) ∷ o) n (decimal size.1 ∷ comma ∷ space ∷ one ∷ closes ∷ closes ∷ closes ∷ space ∷ void ∷ ts) [] n2 =
    gives (group_height {v = size.0} {w = size.1} p.height p.small_height p.few) (notes refl (takes (takes (takes (takes (takes (takes (takes (takes behind))))))))) in
    gives fixed_group (takes (takes (takes (takes (gives (group_width {v = size.0} p.width p.narrow) (takes (takes fixed_now)))))))

launched : (size : Option (ℕ × ℕ)) → record nothing { local = size } ≡ fixed nothing size
launched None = refl
launched (Some size) = refl

-- ---- the whole

zero_plus : (x : ℕ) → x ≡ 0 + x
zero_plus x = omega arith

pub reads_kernel : (name : Piece) (k : Kernel) (more : ℕ) → k.outputs ≡ suc more → are_lengths k.locals ≡ true → are_lengths k.privates ≡ true → is_group_size k.local ≡ true → are_statements (counted (all_of k)) 0 0 k.code ≡ true → has_statement k.code ≡ true → HasText k → Reads kernels (start name) nothing (spelled_with name k (suc more)) [] (all_of k)
reads_kernel name k more e locals privates group f s h =
    let n0 : Notes = record nothing { local = k.local } in
    let n1 : Notes = record { inputs = k.inputs; outputs = k.outputs; sizes = k.sizes; locals = []; privates = []; variables = 0; vectors = 0; local = k.local; values = []; lanes = []; blocks = [] } in
    let none : 0 < number_limit = lit< tt in
    let fit : CountsFit n1 = record { inputs = h.inputs; outputs = h.outputs; sizes = h.sizes; locals = none; privates = none; variables = none; vectors = none } in
    let made : LocalsMade k.locals k.privates k.variables k.vectors k.code n1 (all_of k) =
    ap (λ v. record n1 { locals = k.locals; privates = k.privates; variables = v; vectors = k.vectors; blocks = k.code ∷ [] }) (zero_plus k.variables)
    ∙ ap (λ v. record n1 { locals = k.locals; privates = k.privates; variables = 0 + k.variables; vectors = v; blocks = k.code ∷ [] }) (zero_plus k.vectors) in
    let below = λ (x : ℕ) (g : x < number_limit). subst (λ z. z < number_limit) (zero_plus x) g in
    let body = read_body Locals n1 _ (all_of k) (read_locals k.locals k.privates k.variables k.vectors k.code n1 (all_of k) made fit locals privates (below (length k.locals) h.locals) (below (length k.privates) h.privates) (below k.variables h.variables) (below k.vectors h.vectors) f s) in
    let counts : n1 ≡ record n0 { inputs = 0 + k.inputs; outputs = 0 + suc more; sizes = 0 + k.sizes } =
    ap (λ v. record n0 { inputs = v; outputs = k.outputs; sizes = k.sizes }) (zero_plus k.inputs)
    ∙ ap (λ v. record n0 { inputs = 0 + k.inputs; outputs = v; sizes = k.sizes }) (e ∙ zero_plus (suc more))
    ∙ ap (λ v. record n0 { inputs = 0 + k.inputs; outputs = 0 + suc more; sizes = v }) (zero_plus k.sizes) in
    let outputs : 0 + suc more < number_limit = subst (λ z. z < number_limit) (e ∙ zero_plus (suc more)) h.outputs in
    let behind : List Item = texts (line ∷ block_begins ∷ line ∷ []) ++ Form (Indent 1) ∷ Form Locals ∷ [] in
    let parameters = read_parameters k.inputs more k.sizes behind n0 n1 (spell_body k) (all_of k) counts (below k.inputs h.inputs) outputs (below k.sizes h.sizes) (takes (takes (takes body))) in
    let named : Reads kernels (texts (space ∷ name ∷ opens ∷ []) ++ Form Parameter ∷ behind) n0 (space ∷ name ∷ opens ∷ spell_inputs 0 k.inputs (first_output 0 (spell_outputs 1 more (spell_sizes 0 k.sizes (spell_body k))))) [] (all_of k) =
    takes (takes (takes parameters)) in
    takes (takes (read_launching k.local (texts (space ∷ name ∷ opens ∷ []) ++ Form Parameter ∷ behind) nothing n0 _ (all_of k) group (launched k.local) named))
