-- What is read is a kernel, spelled.
use Rattle.std.proofs.Common.{◌≡◌, ℕ, zero, suc, ◌+◌, List, [], ◌∷◌, ◌++◌, Option, None, Some, true, refl, ap, sym, ◌∙◌, subst, arith, length, ◌<◌, lit<}
use Rattle.std.specs.Prelude.{nat_lt, ◌&&◌, codes}
use Rattle.std.proofs.lemmas.Bool.{and_from, and_parts, lt-ltb}
use Rattle.readings.specs.Readings.{Form, Reads}
use Rattle.readings.proofs.Meanings.{read_means}
use Rattle.kernel_tree.specs.Code.{Code, End, Performs, Loops, Guards, Kernel}
use Rattle.kernel_tree.specs.Grammar.{deepest, is_constant, is_expression, has_statement, are_statements, are_lengths, is_group_size, is_kernel, is_statement}
use Rattle.kernel_tree.specs.KernelText.{Piece, space, line, opens, block_begins, local, indent, size, number_limit, Launching, Parameter, Locals, Indent, Notes, counted, Item, texts, kernels, start, nothing, all_of}
use Rattle.kernel_spelling.specs.Spelling.{spell_code, spell_locals, spell_privates, spell_variables, spell_vectors, spell_sizes, spell_outputs, spell_inputs, first_output, spell_launching, spell_head, spelled_with, spelled, HasText}
use Rattle.kernel_spelling.specs.Meaning.{CountsFit, AreLocals, AreParameters, fixed, IsLaunching, Means}
use Rattle.kernel_spelling.proofs.Kept.{at_tokens, at_indent, kept}
use Rattle.kernel_spelling.proofs.Spelled.{reads_kernel}
use Rattle.kernel_spelling.proofs.Statements.{expression_same, statement_same}

-- ---- the counts alone say what may stand in the code

module _ (k : Kernel) where
  abbrev bare : Kernel
  bare = counted (all_of k)

  pub statements_same : (l nest : ℕ) (c : Code) → are_statements bare l nest c ≡ are_statements k l nest c
  statements_same l nest End = refl
  statements_same l nest (Performs s after) =
      ap (λ z. z && are_statements bare l nest after) (statement_same k l s)
      ∙ ap (λ z. is_statement k l s && z) (statements_same l nest after)
  statements_same l nest (Loops s b c body after) =
      ap (λ z. nat_lt nest deepest && (is_constant b && (z && (has_statement body && (are_statements bare (suc l) (suc nest) body && are_statements bare l nest after))))) (expression_same k l b)
      ∙ ap (λ z. nat_lt nest deepest && (is_constant b && (is_expression k l b && (has_statement body && (z && are_statements bare l nest after))))) (statements_same (suc l) (suc nest) body)
      ∙ ap (λ z. nat_lt nest deepest && (is_constant b && (is_expression k l b && (has_statement body && (are_statements k (suc l) (suc nest) body && z))))) (statements_same l nest after)
  statements_same l nest (Guards s b body after) =
      ap (λ z. nat_lt nest deepest && (is_constant b && (z && (has_statement body && (are_statements bare l (suc nest) body && are_statements bare l nest after))))) (expression_same k l b)
      ∙ ap (λ z. nat_lt nest deepest && (is_constant b && (is_expression k l b && (has_statement body && (z && are_statements bare l nest after))))) (statements_same l (suc nest) body)
      ∙ ap (λ z. nat_lt nest deepest && (is_constant b && (is_expression k l b && (has_statement body && (are_statements k l (suc nest) body && z))))) (statements_same l nest after)

-- ---- a whole text

abbrev pub body_parts : (locals privates : List ℕ) → (variables vectors : ℕ) → Code → List Piece
body_parts locals privates variables vectors c = line ∷ block_begins ∷ line ∷ spell_locals 0 locals (spell_privates 0 privates (spell_variables 0 variables (spell_vectors 0 vectors (spell_code 0 0 c []))))

abbrev pub parts : (name : Piece) → Option (ℕ × ℕ) → (inputs more sizes : ℕ) → List Piece → List Piece
parts name local inputs more sizes body = spell_head name local (spell_inputs 0 inputs (first_output 0 (spell_outputs 1 more (spell_sizes 0 sizes body))))

pub record IsWhole (name : Piece) (ps : List Piece) (n : Notes) : Type 0 where
  pub more : ℕ
  pub code : Code
  pub outputs : n.outputs ≡ suc more
  pub locals : are_lengths n.locals ≡ true
  pub privates : are_lengths n.privates ≡ true
  pub group : is_group_size n.local ≡ true
  pub fits : are_statements (counted n) 0 0 code ≡ true
  pub some : has_statement code ≡ true
  pub few : CountsFit n
  pub values : n.values ≡ []
  pub lanes : n.lanes ≡ []
  pub blocks : n.blocks ≡ code ∷ []
  pub spelled : ps ≡ parts name n.local n.inputs more n.sizes (body_parts n.locals n.privates n.variables n.vectors code)

none_fit : (size : Option (ℕ × ℕ)) → CountsFit (record nothing { local = size })
none_fit size = let none : 0 < number_limit = lit< tt in record { inputs = none; outputs = none; sizes = none; locals = none; privates = none; variables = none; vectors = none }

zero_plus : (x : ℕ) → 0 + x ≡ x
zero_plus x = omega arith

-- the notes of the groups' size
launched : (size : Option (ℕ × ℕ)) → fixed nothing size ≡ record nothing { local = size }
launched None = refl
launched (Some size) = refl

-- the groups' size, then the name, then the parameters, and then the body
assembled : (name : Piece) (ps u v x y z w m2 : List Piece) (n n0 n1 n2 : Notes) → ps ≡ codes "__kernel" ∷ space ∷ u → IsLaunching (λ q. q) nothing u n0 v → v ≡ space ∷ name ∷ opens ∷ x → AreParameters (λ q. q) n0 x n1 y → y ≡ line ∷ block_begins ∷ line ∷ z → z ≡ indent 1 ∷ w → AreLocals (λ q. indent 1 ∷ q) n1 w n2 m2 → n2 ≡ n → m2 ≡ [] → IsWhole name ps n
assembled name ps u v x y z w m2 n n0 n1 n2 e0 g e1 p e2 e3 b e4 e5 =
    let launching : n0 ≡ record nothing { local = g.local } = g.noted ∙ launched g.local in
    let parameters : n1 ≡ record nothing { local = g.local; inputs = 0 + p.inputs; outputs = 0 + suc p.outputs; sizes = 0 + p.sizes } =
    p.noted ∙ ap (λ (q : Notes). record q { inputs = q.inputs + p.inputs; outputs = q.outputs + suc p.outputs; sizes = q.sizes + p.sizes }) launching in
    let last : n ≡ record { inputs = 0 + p.inputs; outputs = 0 + suc p.outputs; sizes = 0 + p.sizes; locals = b.locals; privates = b.privates; variables = 0 + b.more; vectors = 0 + b.vectors; local = g.local; values = []; lanes = []; blocks = b.code ∷ [] } =
    sym e4 ∙ b.noted ∙ ap (λ (q : Notes). record q { locals = q.locals ++ b.locals; privates = q.privates ++ b.privates; variables = q.variables + b.more; vectors = q.vectors + b.vectors; blocks = b.code ∷ q.blocks }) parameters in
    let inputs : p.inputs ≡ n.inputs = sym (ap (λ (q : Notes). q.inputs) last ∙ zero_plus p.inputs) in
    let sizes : p.sizes ≡ n.sizes = sym (ap (λ (q : Notes). q.sizes) last ∙ zero_plus p.sizes) in
    let locals : b.locals ≡ n.locals = sym (ap (λ (q : Notes). q.locals) last) in
    let privates : b.privates ≡ n.privates = sym (ap (λ (q : Notes). q.privates) last) in
    let variables : b.more ≡ n.variables = sym (ap (λ (q : Notes). q.variables) last ∙ zero_plus b.more) in
    let vectors : b.vectors ≡ n.vectors = sym (ap (λ (q : Notes). q.vectors) last ∙ zero_plus b.vectors) in
    let local : g.local ≡ n.local = sym (ap (λ (q : Notes). q.local) last) in
    let begun : spell_locals (length n1.locals) b.locals (spell_privates (length n1.privates) b.privates (spell_variables n1.variables b.more (spell_vectors n1.vectors b.vectors (spell_code 0 0 b.code m2)))) ≡ spell_locals 0 b.locals (spell_privates 0 b.privates (spell_variables 0 b.more (spell_vectors 0 b.vectors (spell_code 0 0 b.code [])))) =
    ap (λ (q : Notes). spell_locals (length q.locals) b.locals (spell_privates (length q.privates) b.privates (spell_variables q.variables b.more (spell_vectors q.vectors b.vectors (spell_code 0 0 b.code m2))))) parameters
    ∙ ap (λ q. spell_locals 0 b.locals (spell_privates 0 b.privates (spell_variables 0 b.more (spell_vectors 0 b.vectors (spell_code 0 0 b.code q))))) e5 in
    let body : y ≡ body_parts b.locals b.privates b.more b.vectors b.code = e2 ∙ ap (λ q. line ∷ block_begins ∷ line ∷ q) (e3 ∙ b.spelled ∙ begun) in
    let same_body : body_parts b.locals b.privates b.more b.vectors b.code ≡ body_parts n.locals n.privates n.variables n.vectors b.code =
    ap (λ (v : List ℕ). body_parts v b.privates b.more b.vectors b.code) locals ∙ ap (λ (v : List ℕ). body_parts n.locals v b.more b.vectors b.code) privates ∙ ap (λ v. body_parts n.locals n.privates v b.vectors b.code) variables ∙ ap (λ v. body_parts n.locals n.privates n.variables v b.code) vectors in
    let begun_parameters : spell_inputs n0.inputs p.inputs (first_output n0.outputs (spell_outputs (suc n0.outputs) p.outputs (spell_sizes n0.sizes p.sizes y))) ≡ spell_inputs 0 p.inputs (first_output 0 (spell_outputs 1 p.outputs (spell_sizes 0 p.sizes y))) =
    ap (λ (q : Notes). spell_inputs q.inputs p.inputs (first_output q.outputs (spell_outputs (suc q.outputs) p.outputs (spell_sizes q.sizes p.sizes y)))) launching in
    let all : ps ≡ parts name g.local p.inputs p.outputs p.sizes y =
    e0 ∙ ap (λ q. codes "__kernel" ∷ space ∷ q) (g.spelled ∙ ap (spell_launching g.local) (e1 ∙ ap (λ q. space ∷ name ∷ opens ∷ q) (p.spelled ∙ begun_parameters))) in
    let no_names : CountsFit n0 = subst CountsFit (sym launching) (none_fit g.local) in
    record {
      more = p.outputs;
      code = b.code;
      outputs = ap (λ (q : Notes). q.outputs) last ∙ zero_plus (suc p.outputs);
      locals = subst (λ z. are_lengths z ≡ true) locals b.local_lengths;
      privates = subst (λ z. are_lengths z ≡ true) privates b.private_lengths;
      group = subst (λ z. is_group_size z ≡ true) local g.fits;
      fits = subst (λ (q : Notes). are_statements (counted q) 0 0 b.code ≡ true) e4 b.fits;
      some = b.some;
      few = subst CountsFit e4 (b.few (p.few no_names));
      values = ap (λ (q : Notes). q.values) last;
      lanes = ap (λ (q : Notes). q.lanes) last;
      blocks = ap (λ (q : Notes). q.blocks) last;
      spelled = all ∙ ap (parts name g.local p.inputs p.outputs p.sizes) (body ∙ same_body) ∙ ap (λ v. parts name g.local v p.outputs p.sizes (body_parts n.locals n.privates n.variables n.vectors b.code)) inputs ∙ ap (λ v. parts name g.local n.inputs p.outputs v (body_parts n.locals n.privates n.variables n.vectors b.code)) sizes ∙ ap (λ v. parts name v n.inputs p.outputs n.sizes (body_parts n.locals n.privates n.variables n.vectors b.code)) local;
    }

pub whole : (name : Piece) (ps : List Piece) (n : Notes) → Reads kernels (start name) nothing ps [] n → IsWhole name ps n
whole name ps n r =
    let body : List Item = Form (Indent 1) ∷ Form Locals ∷ [] in
    let tail : List Item = texts (line ∷ block_begins ∷ line ∷ []) ++ body in
    let named : List Item = texts (space ∷ name ∷ opens ∷ []) ++ Form Parameter ∷ tail in
    let f = at_tokens (codes "__kernel" ∷ space ∷ []) (Form Launching ∷ named) nothing ps n [] (read_means kernels Means kept r refl) in
    let a = at_tokens (space ∷ name ∷ opens ∷ []) (Form Parameter ∷ tail) f.2.0 f.2.1 n [] f.2.3 in
    let c = at_tokens (line ∷ block_begins ∷ line ∷ []) body a.2.0 a.2.1 n [] a.2.3 in
    let i = at_indent 1 (Form Locals ∷ []) a.2.0 c.0 n [] c.2 in
    assembled name ps f.0 f.2.1 a.0 a.2.1 c.0 i.0 i.2.1 n f.2.0 a.2.0 i.2.0 f.1 f.2.2 a.1 a.2.2 c.1 i.1 i.2.2 i.2.3.0 i.2.3.1

one_block : (c d : Code) → c ∷ [] ≡ d ∷ [] → c ≡ d
one_block c d e = cc (e)

positive : (x : ℕ) → nat_lt 0 (suc x) ≡ true
positive x = lt-ltb 0 (suc x) (omega arith)

-- a kernel that is made by a reading has a text, and its pieces are its spelling
pub made_whole : (name : Piece) (ps : List Piece) (k : Kernel) → Reads kernels (start name) nothing ps [] (all_of k) → HasText k × (ps ≡ spelled name k)
made_whole name ps k r =
    let h = whole name ps (all_of k) r in
    let code : h.code ≡ k.code = sym (one_block k.code h.code h.blocks) in
    let fits : are_statements k 0 0 k.code ≡ true = sym (statements_same k 0 0 k.code) ∙ subst (λ c. are_statements (counted (all_of k)) 0 0 c ≡ true) code h.fits in
    let some : has_statement k.code ≡ true = subst (λ c. has_statement c ≡ true) code h.some in
    let inner = and_from (are_lengths k.privates) _ h.privates (and_from (is_group_size k.local) _ h.group (and_from (has_statement k.code) (are_statements k 0 0 k.code) some fits)) in
    let outputs : nat_lt 0 k.outputs ≡ true = subst (λ z. nat_lt 0 z ≡ true) (sym h.outputs) (positive h.more) in
    let few = h.few in (
      record {
        in_grammar = and_from (nat_lt 0 k.outputs) _ outputs (and_from (are_lengths k.locals) _ h.locals inner);
        inputs = few.inputs;
        outputs = few.outputs;
        sizes = few.sizes;
        locals = few.locals;
        privates = few.privates;
        variables = few.variables;
        vectors = few.vectors;
      },
      h.spelled ∙ ap (λ c. parts name k.local k.inputs h.more k.sizes (body_parts k.locals k.privates k.variables k.vectors c)) code ∙ ap (spelled_with name k) (sym h.outputs),
    )

-- the parts of a kernel of the grammar
pub record KernelFits (k : Kernel) : Type 0 where
  pub some_output : nat_lt 0 k.outputs ≡ true
  pub locals : are_lengths k.locals ≡ true
  pub privates : are_lengths k.privates ≡ true
  pub group : is_group_size k.local ≡ true
  pub some : has_statement k.code ≡ true
  pub fits : are_statements (counted (all_of k)) 0 0 k.code ≡ true

pub kernel_fits : (k : Kernel) → is_kernel k ≡ true → KernelFits k
kernel_fits k h =
    let p = and_parts (nat_lt 0 k.outputs) _ h in
    let q = and_parts (are_lengths k.locals) _ p.1 in
    let s = and_parts (are_lengths k.privates) _ q.1 in
    let g = and_parts (is_group_size k.local) _ s.1 in
    let t = and_parts (has_statement k.code) (are_statements k 0 0 k.code) g.1 in
    record { some_output = p.0; locals = q.0; privates = s.0; group = g.0; some = t.0; fits = statements_same k 0 0 k.code ∙ t.1 }

-- and what has a text is read from its spelling
pub spelled_made : (name : Piece) (k : Kernel) → HasText k → Reads kernels (start name) nothing (spelled name k) [] (all_of k)
spelled_made name k h = at_outputs k.outputs refl where
  at_outputs : (o : ℕ) → k.outputs ≡ o → Reads kernels (start name) nothing (spelled name k) [] (all_of k)
  at_outputs zero e = absurd (let w : nat_lt 0 0 ≡ true = subst (λ z. nat_lt 0 z ≡ true) e (kernel_fits k h.in_grammar).some_output in cc (w))
  at_outputs (suc more) e =
      let p = kernel_fits k h.in_grammar in
      subst (λ z. Reads kernels (start name) nothing z [] (all_of k)) (ap (spelled_with name k) (sym e)) (reads_kernel name k more e p.locals p.privates p.group p.fits p.some h)
