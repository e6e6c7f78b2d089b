-- The kernel of a whole reading.
use Rattle.std.proofs.Common.{◌≡◌, List, [], ◌∷◌, ap, sym, ◌∙◌, map}
use Rattle.std.specs.declared.collections.VecDeque.{VecDeque}
use Rattle.std.specs.Global.{Global}
use Rattle.kernel_tree.specs.declared.tree.Stmt.{Stmt}
use Rattle.kernel_tree.specs.Code.{End, Kernel}
use Rattle.kernel_tree.specs.Tree.{code_then, kernel_with}
use Rattle.kernel_tree.specs.KernelText.{Notes, all_of}
use Rattle.kernel_reader.specs.declared.made.Made.{Made}
use Rattle.kernel_reader.specs.Noted.{notes_of}

same_head : {A : Type 0} (x y : A) (xs : List A) → x ∷ xs ≡ y ∷ [] → (x ≡ y) × (xs ≡ [])
same_head x y xs e = (cc (e), cc (e))

pub some_block : (m : Made) → ((k : Kernel) × (notes_of m ≡ all_of k)) → m.blocks.items ≡ [] → ⊥
some_block m made e =
    let w : [] ≡ made.0.code ∷ [] = sym (ap (map (λ (b : VecDeque Stmt Global). code_then b.items End)) e) ∙ ap (λ (n : Notes). n.blocks) made.1 in cc (w)

pub is_made : (m : Made) (block : VecDeque Stmt Global) (rest : List (VecDeque Stmt Global)) (body : List Stmt) → ((k : Kernel) × (notes_of m ≡ all_of k)) → m.blocks.items ≡ block ∷ rest → body ≡ block.items
    → notes_of m ≡ all_of (kernel_with m.inputs m.outputs m.sizes m.locals.items m.privates.items m.variables m.vectors m.local body)
is_made m block rest body made e b =
    let values = ap (λ (n : Notes). n.values) made.1 in
    let held = ap (λ (n : Notes). n.blocks) made.1 in
    let blocks : code_then block.items End ∷ map (λ (b : VecDeque Stmt Global). code_then b.items End) rest ≡ made.0.code ∷ [] = sym (ap (map (λ (b : VecDeque Stmt Global). code_then b.items End)) e) ∙ held in
    let q = same_head (code_then block.items End) made.0.code _ blocks in
    let code : made.0.code ≡ code_then body End = sym q.0 ∙ ap (λ z. code_then z End) (sym b) in
    let lanes = ap (λ (n : Notes). n.lanes) made.1 in
    ap (λ v. record (notes_of m) { values = v }) values ∙ ap (λ v. record (notes_of m) { values = []; lanes = v }) lanes ∙ ap (λ v. record (notes_of m) { values = []; lanes = []; blocks = v }) (held ∙ ap (λ z. z ∷ []) code)
