-- A tidied kernel is of the kernel grammar.
use Rattle.std.proofs.Common.{◌≡◌, ℕ, suc, true, List, [], ◌∷◌, ◌++◌, nat_lt, refl, sym, ap, ◌∙◌, arith}
use Rattle.std.specs.Prelude.{◌&&◌, nat_le}
use Rattle.std.proofs.lemmas.Bool.{and_from, and_parts, leb-true, le-leb}
use Rattle.kernel_tree.specs.Formula.{Formula, Number, Variable, LoopVariable, Size, Id, Binary, Choose, Lanes, Vector, Spread, Each}
use Rattle.kernel_tree.specs.Code.{Array, Input, Output, Local, Private, Statement, Assigns, Loads, Stores, AssignsFour, LoadsFour, StoresFour, Code, End, Performs, Loops, Guards, Kernel}
use Rattle.kernel_tree.specs.Grammar.{deepest, height, is_constant, names_declared, is_expression, is_readable, is_writable, is_shared, lanes_height, names_declared_in_lanes, are_lanes, has_statement, is_statement, are_statements, are_lengths, is_group_size}
use Rattle.tidy_indices.specs.Around.{Around, InLoop, InIf}
use Rattle.tidy_indices.specs.Laws.{Change, KeepsSmall}
use Rattle.tidy_kernels.specs.Pass.{with_index, tidied_code, tidied_kernel}
use Rattle.tidy_kernels.specs.Laws.{TidiedKernelsAreKernels}

module _ (k m : Kernel) (sizes : k.sizes ≡ m.sizes) (variables : k.variables ≡ m.variables) (vectors : k.vectors ≡ m.vectors) where
  -- what a formula may name hangs on these counts alone
  same_names : (l : ℕ) (f : Formula) → names_declared k l f ≡ names_declared m l f
  same_names l (Number n) = refl
  same_names l (Variable v) = ap (nat_lt v) variables
  same_names l (LoopVariable i) = refl
  same_names l (Size s) = ap (nat_lt s) sizes
  same_names l (Id d form) = refl
  same_names l (Binary o a b) = let x = same_names l a in let y = same_names l b in cc
  same_names l (Choose c a b x y) =
      let p = same_names l a in let q = same_names l b in let r = same_names l x in let s = same_names l y in cc

  same_names_in_lanes : (l : ℕ) (e : Lanes) → names_declared_in_lanes k l e ≡ names_declared_in_lanes m l e
  same_names_in_lanes l (Vector v) = ap (nat_lt v) vectors
  same_names_in_lanes l (Spread e) = same_names l e
  same_names_in_lanes l (Each o a b) = let x = same_names_in_lanes l a in let y = same_names_in_lanes l b in cc

module _ (tidy : Change) (k : Kernel) (small : KeepsSmall tidy) where
  abbrev tidied : Kernel
  tidied = tidied_kernel tidy k

  kept : (l : ℕ) (f : Formula) → is_expression k l f ≡ true → is_expression tidied l f ≡ true
  kept l f h =
      let p = and_parts (names_declared k l f) (nat_le (height f) deepest) h in
      and_from (names_declared tidied l f) (nat_le (height f) deepest) (sym (same_names k tidied refl refl refl l f) ∙ p.0) p.1

  kept_lanes : (l : ℕ) (e : Lanes) → are_lanes k l e ≡ true → are_lanes tidied l e ≡ true
  kept_lanes l e h =
      let p = and_parts (names_declared_in_lanes k l e) (nat_le (lanes_height e) deepest) h in
      and_from (names_declared_in_lanes tidied l e) (nat_le (lanes_height e) deepest) (sym (same_names_in_lanes k tidied refl refl refl l e) ∙ p.0) p.1

  made : (l : ℕ) (around : List Around) (f : Formula) → is_expression k l f ≡ true → is_expression tidied l (tidy around f) ≡ true
  made l around f h =
      let p = and_parts (names_declared tidied l f) (nat_le (height f) deepest) (kept l f h) in
      let low = (small around f).low in
      let fits = leb-true (height f) deepest p.1 in
      and_from (names_declared tidied l (tidy around f)) (nat_le (height (tidy around f)) deepest) ((small around f).declared tidied l p.0) (le-leb (height (tidy around f)) deepest (omega arith))

  readable : (a : Array) → is_readable k a ≡ true → is_readable tidied a ≡ true
  readable (Input n) h = h
  readable (Output n) h = h
  readable (Local n) h = h
  readable (Private n) h = h

  writable : (a : Array) → is_writable k a ≡ true → is_writable tidied a ≡ true
  writable (Input n) h = h
  writable (Output n) h = h
  writable (Local n) h = h
  writable (Private n) h = h

  has : (around : List Around) (code : Code) → has_statement code ≡ true → has_statement (tidied_code tidy around code) ≡ true
  has around End h = h
  has around (Performs s after) h = refl
  has around (Loops s b c body after) h = refl
  has around (Guards s b body after) h = refl

  statement : (l : ℕ) (around : List Around) (s : Statement) → is_statement k l s ≡ true → is_statement tidied l (with_index (tidy around) s) ≡ true
  statement l around (Assigns v e) h =
      let p = and_parts (nat_lt v k.variables) (is_expression k l e) h in
      and_from (nat_lt v k.variables) (is_expression tidied l e) p.0 (kept l e p.1)
  statement l around (Loads v a i) h =
      let p = and_parts (nat_lt v k.variables) (is_readable k a && is_expression k l i) h in
      let q = and_parts (is_readable k a) (is_expression k l i) p.1 in
      and_from (nat_lt v k.variables) _ p.0 (and_from (is_readable tidied a) _ (readable a q.0) (made l around i q.1))
  statement l around (Stores a i e) h =
      let p = and_parts (is_writable k a) (is_expression k l i && is_expression k l e) h in
      let q = and_parts (is_expression k l i) (is_expression k l e) p.1 in
      and_from (is_writable tidied a) _ (writable a p.0) (and_from (is_expression tidied l (tidy around i)) _ (made l around i q.0) (kept l e q.1))
  statement l around (AssignsFour v e) h =
      let p = and_parts (nat_lt v k.vectors) (are_lanes k l e) h in
      and_from (nat_lt v k.vectors) (are_lanes tidied l e) p.0 (kept_lanes l e p.1)
  statement l around (LoadsFour v a i) h =
      let p = and_parts (nat_lt v k.vectors) ((is_shared a && is_readable k a) && is_expression k l i) h in
      let q = and_parts (is_shared a && is_readable k a) (is_expression k l i) p.1 in
      let r = and_parts (is_shared a) (is_readable k a) q.0 in
      and_from (nat_lt v k.vectors) _ p.0
      (and_from (is_shared a && is_readable tidied a) _ (and_from (is_shared a) (is_readable tidied a) r.0 (readable a r.1)) (made l around i q.1))
  statement l around (StoresFour a i e) h =
      let p = and_parts (is_shared a && is_writable k a) (is_expression k l i && are_lanes k l e) h in
      let q = and_parts (is_shared a) (is_writable k a) p.0 in
      let r = and_parts (is_expression k l i) (are_lanes k l e) p.1 in
      and_from (is_shared a && is_writable tidied a) _ (and_from (is_shared a) (is_writable tidied a) q.0 (writable a q.1))
      (and_from (is_expression tidied l (tidy around i)) _ (made l around i r.0) (kept_lanes l e r.1))
  -- where a statement names nothing, it stays
  statement l around _ h = h

  are : (l d : ℕ) (around : List Around) (code : Code) → are_statements k l d code ≡ true → are_statements tidied l d (tidied_code tidy around code) ≡ true
  are l d around End h = refl
  are l d around (Performs s after) h =
      let p = and_parts (is_statement k l s) _ h in
      and_from (is_statement tidied l (with_index (tidy around) s)) _ (statement l around s p.0) (are l d around after p.1)
  are l d around (Loops s b c body after) h =
      let p = and_parts (nat_lt d deepest) _ h in
      let q = and_parts (is_constant b) _ p.1 in
      let r = and_parts (is_expression k l b) _ q.1 in
      let t = and_parts (has_statement body) _ r.1 in
      let u = and_parts (are_statements k (suc l) (suc d) body) _ t.1 in
      and_from (nat_lt d deepest) _ p.0
      (and_from (is_constant (tidy [] b)) _ ((small [] b).constant q.0)
      (and_from (is_expression tidied l (tidy [] b)) _ (made l [] b r.0)
      (and_from (has_statement (tidied_code tidy (around ++ InLoop b ∷ []) body)) _ (has (around ++ InLoop b ∷ []) body t.0)
      (and_from (are_statements tidied (suc l) (suc d) (tidied_code tidy (around ++ InLoop b ∷ []) body)) _ (are (suc l) (suc d) (around ++ InLoop b ∷ []) body u.0) (are l d around after u.1)))))
  are l d around (Guards s b body after) h =
      let p = and_parts (nat_lt d deepest) _ h in
      let q = and_parts (is_constant b) _ p.1 in
      let r = and_parts (is_expression k l b) _ q.1 in
      let t = and_parts (has_statement body) _ r.1 in
      let u = and_parts (are_statements k l (suc d) body) _ t.1 in
      and_from (nat_lt d deepest) _ p.0
      (and_from (is_constant (tidy [] b)) _ ((small [] b).constant q.0)
      (and_from (is_expression tidied l (tidy [] b)) _ (made l [] b r.0)
      (and_from (has_statement (tidied_code tidy (around ++ InIf s b ∷ []) body)) _ (has (around ++ InIf s b ∷ []) body t.0)
      (and_from (are_statements tidied l (suc d) (tidied_code tidy (around ++ InIf s b ∷ []) body)) _ (are l (suc d) (around ++ InIf s b ∷ []) body u.0) (are l d around after u.1)))))

pub are_kernels : TidiedKernelsAreKernels
are_kernels tidy k small h =
    let p = and_parts (nat_lt 0 k.outputs) _ h in
    let q = and_parts (are_lengths k.locals) _ p.1 in
    let r = and_parts (are_lengths k.privates) _ q.1 in
    let g = and_parts (is_group_size k.local) _ r.1 in
    let t = and_parts (has_statement k.code) _ g.1 in
    and_from (nat_lt 0 k.outputs) _ p.0
    (and_from (are_lengths k.locals) _ q.0
    (and_from (are_lengths k.privates) _ r.0
    (and_from (is_group_size k.local) _ g.0
    (and_from (has_statement (tidied_code tidy [] k.code)) _ (has tidy k small [] k.code t.0) (are tidy k small 0 0 [] k.code t.1)))))
