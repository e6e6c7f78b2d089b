-- How many layouts stand one on another in a lowered term, by those that are counted in the term.
use Rattle.std.proofs.Common.{◌≡◌, ℕ, zero, suc, ◌+◌, ◌*◌, ◌<◌, ◌≤◌, Bool, true, false, List, ◌∷◌, get_or, refl, sym, ap, ◌∙◌, subst, arith, inl, inr}
use Rattle.std.specs.Prelude.{max, if◌then◌else◌}
use Rattle.size_arith.specs.declared.poly.Monomial.{Monomial}
use Rattle.lift_tree.specs.declared.layout.Layout as layout
use Rattle.lift_tree.specs.declared.term.UnaryForm.TheVariants as unary
use Rattle.lift_tree.specs.declared.term.BinaryForm.TheVariants as binary
use Rattle.lift_tree.specs.Tree as tree
use Rattle.lift_tree.specs.Tree.{Tree, height}
use Rattle.lift_tree.specs.Types as types
use Rattle.lift_tree.specs.Types.{PlainTy}
use Rattle.lift_tree.specs.Annotations.{Annotation, Annotates, Leaf, One, Two, Three, type_in}
use Rattle.lift_tree.specs.Typing.{Declared, LayoutRow}
use Rattle.lift_tree.proofs.Layouts.{layout_operand, layout_result}
use Rattle.lift_ir.specs.Layouts.{Layout}
use Rattle.lift_ir.specs.Terms.{Project, Reshape, push}
use Rattle.lift_ir.specs.Lowering.{Place, Written, Argument, Lowered, lower, lower_unary}
use Rattle.lift_ir.specs.Lowerable.{IsStaged}
use Rattle.lift_ir.proofs.AtLaunch.{by_reshapes}
use Rattle.lift_ir.proofs.Elements.{from_ir, left_part, right_part}
use Rattle.lift_ir.proofs.Lets.{argument_let, written_let}
use Rattle.lift_ir.proofs.Reshaped.{below_layout}
use Rattle.kernel_premises.proofs.Lets.{element_let, stored_let}
use Rattle.buffer_allocation.specs.Layouts.{raised, height_of, most}
use Rattle.buffer_allocation.specs.declared.layouts.Position.TheVariants as position
use Rattle.printed_form.specs.Sound.{stacked, IsReadWithin, IsWrittenWithin, CanBeWritten, CanBeRead}

-- binders stand no higher than is counted: a layout is lowered to at most three
abbrev pub Under : (ℕ → ℕ) → List ℕ → Type 0
Under j g = (v : ℕ) → j v ≤ 3 * get_or g v 0

pushed_under : (j : ℕ → ℕ) (g : List ℕ) (i h : ℕ) → i ≤ 3 * h → Under j g → Under (push i j) (h ∷ g)
pushed_under j g i h le u zero = le
pushed_under j g i h le u (suc v) = u v

-- what is read: its height is within the limit, and its layouts are at most three times that
pub record Reads (M : ℕ) (j : ℕ → ℕ) (h : ℕ) (t : Lowered) : Type 0 where
  pub low : h ≤ M
  pub stack : stacked j t ≤ 3 * h
  pub within : IsReadWithin (3 * M) j t

-- so many layouts on this term
record Over (M : ℕ) (j : ℕ → ℕ) (t : Lowered) (k : ℕ) (u : Lowered) : Type 0 where
  stack : stacked j u ≡ k + stacked j t
  within : IsReadWithin (3 * M) j u

module _ (d : Declared) (M : ℕ) (few : M ≤ 256) where
  -- up to three layouts on what is read
  over : (j : ℕ → ℕ) (h : ℕ) (t : Lowered) → raised h ≤ M → Reads M j h t → (k : ℕ) (y : Layout (List Monomial)) (u : Lowered) → k < 3 → Over M j t k u → Over M j t (suc k) (Reshape y u)
  over j h t le r k y u lt o =
      let a = r.stack in
      let e = o.stack in
      record { stack = omega arith; within = ((let z : raised h ≤ M = le in omega arith), o.within) }

  reads_over : (j : ℕ → ℕ) (h : ℕ) (t : Lowered) → raised h ≤ M → Reads M j h t → (k : ℕ) (u : Lowered) → k ≤ 3 → Over M j t k u → Reads M j (raised h) u
  reads_over j h t le r k u three o =
      let a = r.stack in
      let e = o.stack in
      let s : stacked j u ≤ 3 * raised h = (let z : raised h ≤ M = le in omega arith) in
      record { low = le; stack = s; within = o.within }

  itself : (j : ℕ → ℕ) (h : ℕ) (t : Lowered) → Reads M j h t → Over M j t 0 t
  itself j h t r = record { stack = omega arith; within = r.within }

  one_more : (j : ℕ → ℕ) (h : ℕ) (y : Layout (List Monomial)) (t : Lowered) → raised h ≤ M → Reads M j h t → Reads M j (raised h) (Reshape y t)
  one_more j h y t le r = reads_over j h t le r 1 (Reshape y t) (omega arith) (over j h t le r 0 y t (omega arith) (itself j h t r))

  -- a layout that is written through, on what is read
  layout_more : (j : ℕ → ℕ) (h : ℕ) (p : Place) (l : layout.Layout) (a b : PlainTy) (t : Lowered) → raised h ≤ M → Reads M j h t → Reads M j (raised h) (lower_unary d.names p (unary.Layout l) a b t)
  layout_more j h p l a b t le r =
      let x = by_reshapes (Over M j t) (λ k y u lt i o. over j h t le r k y u lt o) d.names p l a b t (itself j h t r) in
      reads_over j h t le r x.count _ x.few x.holds

  left : (a b : ℕ) → max a b ≤ M → a ≤ M
  left a b h = omega arith

  right : (a b : ℕ) → max a b ≤ M → b ≤ M
  right a b h = omega arith

  layout_read : (j : ℕ → ℕ) (g : List ℕ) (a : PlainTy) (t : Tree) (n : Annotation) (l u : Lowered) → (raised (height_of g t n) ≤ M → Reads M j (height_of g t n) l → Reads M j (raised (height_of g t n)) u) → types.is_element a ≡ false
      → max (if types.is_element a then 0 else raised (height_of g t n)) (most (if types.is_element a then position.Element else position.Argument) g t n) ≤ M
      → (most position.Argument g t n ≤ M → Reads M j (height_of g t n) l) → Reads M j (if types.is_element a then 0 else raised (height_of g t n)) u
  layout_read j g a t n l u more e h inner =
      let q = subst (λ x. max (if x then 0 else raised (height_of g t n)) (most (if x then position.Element else position.Argument) g t n) ≤ M) e h in
      let r = inner (right (raised (height_of g t n)) (most position.Argument g t n) q) in
      subst (λ x. Reads M j (if x then 0 else raised (height_of g t n)) u) (sym e) (more (left (raised (height_of g t n)) (most position.Argument g t n) q) r)

  part_read : (j : ℕ → ℕ) (g : List ℕ) (a : PlainTy) (t : Tree) (n : Annotation) (s : Bool) (l : Lowered) → types.is_element a ≡ false
      → max (if types.is_element a then 0 else (if types.is_element a then 0 else raised (height_of g t n))) (most (if types.is_element a then position.Element else position.Argument) g t n) ≤ M
      → (most position.Argument g t n ≤ M → Reads M j (height_of g t n) l) → Reads M j (if types.is_element a then 0 else raised (height_of g t n)) (Project s l)
  part_read j g a t n s l e h inner =
      let q = subst (λ x. max (if x then 0 else (if x then 0 else raised (height_of g t n))) (most (if x then position.Element else position.Argument) g t n) ≤ M) e h in
      let r = inner (right (raised (height_of g t n)) (most position.Argument g t n) q) in
      let le = left (raised (height_of g t n)) (most position.Argument g t n) q in
      let st = r.stack in
      subst (λ x. Reads M j (if x then 0 else raised (height_of g t n)) (Project s l)) (sym e) (record { low = le; stack = (let z : raised (height_of g t n) ≤ M = le in omega arith); within = r.within })

  copy_read : (j : ℕ → ℕ) (h : ℕ) (l : Lowered) → h ≡ 0 → stacked j l ≡ 0 → IsReadWithin (3 * M) j l → Reads M j h l
  copy_read j h l e s w = record { low = omega arith; stack = omega arith; within = w }

  abbrev zero_if : Bool → ℕ
  zero_if b = if b then 0 else 0

  none_zero : (b : Bool) → zero_if b ≡ 0
  none_zero true = refl
  none_zero false = refl

  thrice : {w W : ℕ} → W ≤ M → w ≤ 3 * W → w ≤ 3 * M
  thrice h le = omega arith

  upper : (W X Y : ℕ) → max (max W X) Y ≤ M → W ≤ M
  upper W X Y h = omega arith

  projected : (e : Bool) (W X Y : ℕ) → max (if e then W else max W X) Y ≤ M → W ≤ M
  projected true W X Y h = omega arith
  projected false W X Y h = omega arith

  -- writing through a layout
  through : (W : ℕ) (g : List ℕ) (a : PlainTy) (t : Tree) (n : Annotation) → W ≤ 10000 → types.is_element a ≡ false
      → max 0 (most (if types.is_element a then position.Element else position.Written (raised W)) g t n) ≤ M → most (position.Written (suc W)) g t n ≤ M
  through W g a t n le e h =
      let q = subst (λ z. max 0 (most (if z then position.Element else position.Written (raised W)) g t n) ≤ M) e h in
      let r : raised W ≡ suc W = omega arith in
      subst (λ z. most (position.Written z) g t n ≤ M) r (right 0 (most (position.Written (raised W)) g t n) q)

  -- where so many layouts more stand on what is below, this is written
  abbrev Fills : (j : ℕ → ℕ) (t : Lowered) (k : ℕ) (u : Lowered) → Type 0
  Fills j t k u = (w : ℕ) → IsWrittenWithin (3 * M) j (k + w) t → IsWrittenWithin (3 * M) j w u

  moved : (j : ℕ → ℕ) (t : Lowered) (v w : ℕ) → v ≡ w → IsWrittenWithin (3 * M) j v t → IsWrittenWithin (3 * M) j w t
  moved j t v w e h = subst (λ z. IsWrittenWithin (3 * M) j z t) e h

  layout_written : (j : ℕ → ℕ) (W w : ℕ) → w ≤ 3 * W → (l : layout.Layout) (a b : PlainTy) (t : Lowered) → ((x : ℕ) → x ≤ 3 * suc W → IsWrittenWithin (3 * M) j x t)
      → IsWrittenWithin (3 * M) j w (lower_unary d.names Written (unary.Layout l) a b t)
  layout_written j W w le l a b t below =
      let x = by_reshapes (Fills j t) (λ k y u lt i f v h. f (suc v) (moved j t (suc k + v) (k + suc v) (omega arith) h)) d.names Written l a b t (λ v h. moved j t (0 + v) v (omega arith) h) in
      let three = x.few in
      x.holds w (below (x.count + w) (omega arith))

  -- ---- layouts are arrays, of arrays
  of_layout : (l : layout.Layout) (b a : PlainTy) → LayoutRow d.names l b a → types.is_element a ≡ false
  of_layout l b a r = ap types.is_element (layout_result d.names l b a r).is

  under_layout : (l : layout.Layout) (b a : PlainTy) → LayoutRow d.names l b a → types.is_element b ≡ false
  under_layout l b a r = ap types.is_element (layout_operand d.names l b a r).is

  mutual
    read : (G : List PlainTy) (j : ℕ → ℕ) (g : List ℕ) (t : Tree) (n : Annotation) → Annotates d G t n → types.is_element (type_in n) ≡ false → IsStaged Argument t n → CanBeRead (lower d.names Argument t n) → Under j g → height t ≤ 512
        → most position.Argument g t n ≤ M → Reads M j (height_of g t n) (lower d.names Argument t n)
    read G j g (tree.Variable v) (Leaf a) ty e st can u high h = record { low = right 0 (get_or g v 0) h; stack = u v; within = tt }
    read G j g (tree.Input i) (Leaf a) ty e st can u high h = record { low = omega arith; stack = omega arith; within = tt }
    read G j g (tree.Unary unary.First t) (One a n) ty e st can u high h =
        part_read j g a t n false (lower d.names Argument t n) e h (read G j g t n ty.0 (ap types.is_element ty.1.1 ∙ left_part a ty.1.0 e) st can u (omega arith))
    read G j g (tree.Unary unary.Second t) (One a n) ty e st can u high h =
        part_read j g a t n true (lower d.names Argument t n) e h (read G j g t n ty.0 (ap types.is_element ty.1.1 ∙ right_part ty.1.0 a e) st can u (omega arith))
    read G j g (tree.Unary (unary.Layout l) t) (One a n) ty e st can u high h =
        layout_read j g a t n (lower d.names Argument t n) _ (layout_more j (height_of g t n) Argument l a (type_in n) (lower d.names Argument t n)) e h
        (read G j g t n ty.0 (under_layout l (type_in n) a ty.1) st (below_layout CanBeRead (λ y z c. c) d.names Argument l a (type_in n) _ can) u (omega arith))
    read G j g (tree.Unary (unary.Slide s k) t) (One a n) ty e st can u high h =
        layout_read j g a t n (lower d.names Argument t n) _ (one_more j (height_of g t n) _ (lower d.names Argument t n)) e h (read G j g t n ty.0 (ap types.is_element ty.1.2) st can u (omega arith))
    read G j g (tree.Unary (unary.Pad s k) t) (One a n) ty e st can u high h =
        layout_read j g a t n (lower d.names Argument t n) _ (one_more j (height_of g t n) _ (lower d.names Argument t n)) e h (read G j g t n ty.0 (ap types.is_element ty.1.2) st can u (omega arith))
    read G j g (tree.Unary unary.ToPrivate t) (One a n) ty e st can u high h =
        copy_read j _ _ (none_zero (types.is_element a)) refl (write G j g 0 0 (omega arith) t n ty.0 st.3 can u (omega arith) (omega arith) (right _ (most (position.Written 0) g t n) h))
    read G j g (tree.Unary unary.ToLocal t) (One a n) ty e st can u high h =
        copy_read j _ _ (none_zero (types.is_element a)) refl (write G j g 0 0 (omega arith) t n ty.0 st.3 can u (omega arith) (omega arith) (right _ (most (position.Written 0) g t n) h))
    read G j g (tree.Binary binary.Zip t w) (Two a n m) ty e st can u high h =
        let q = subst (λ x. max (max 0 (raised (max (height_of g t n) (height_of g w m)))) (max (most (if x then position.Element else position.Argument) g t n) (most (if x then position.Element else position.Argument) g w m)) ≤ M) e h in
        let b = right (max 0 (raised (max (height_of g t n) (height_of g w m)))) (max (most position.Argument g t n) (most position.Argument g w m)) q in
        let x = read G j g t n ty.0 (ap types.is_element ty.2.3) st.0 can.0 u (omega arith) (left (most position.Argument g t n) (most position.Argument g w m) b) in
        let y = read G j g w m ty.1 (ap types.is_element ty.2.4) st.1 can.1 u (omega arith) (right (most position.Argument g t n) (most position.Argument g w m) b) in
        let p = left (max 0 (raised (max (height_of g t n) (height_of g w m)))) (max (most position.Argument g t n) (most position.Argument g w m)) q in
        let xs = x.stack in let ys = y.stack in
        record { low = omega arith; stack = (let z : raised (max (height_of g t n) (height_of g w m)) ≤ M = omega arith in omega arith); within = (x.within, y.within) }
    read G j g (tree.Let v b) (Two a n m) ty e st can u high h =
        let shape = argument_let d.names v b a n m st.0 in
        let c = subst CanBeRead shape can in
        let q = subst (λ z. max (if z then 0 else 0) (max (most position.Argument g v n) (most (if z then position.Element else position.Argument) (height_of g v n ∷ g) b m)) ≤ M) e h in
        let k = right 0 (max (most position.Argument g v n) (most position.Argument (height_of g v n ∷ g) b m)) q in
        let x = read G j g v n ty.0 (from_ir false (type_in n) st.0) st.1 c.0 u (omega arith) (left (most position.Argument g v n) (most position.Argument (height_of g v n ∷ g) b m) k) in
        let y = read (type_in n ∷ G) (push (stacked j (lower d.names Argument v n)) j) (height_of g v n ∷ g) b m ty.1 (ap types.is_element (sym ty.2) ∙ e) st.2 c.1 (pushed_under j g (stacked j (lower d.names Argument v n)) (height_of g v n) x.stack u) (omega arith) (right (most position.Argument g v n) (most position.Argument (height_of g v n ∷ g) b m) k) in
        subst (λ z. Reads M j (height_of (height_of g v n ∷ g) b m) z) (sym shape) (record { low = y.low; stack = y.stack; within = (x.within, y.within) })
    read G j g _ _ ty e st can u high h = absurd st

    pub write : (G : List PlainTy) (j : ℕ → ℕ) (g : List ℕ) (W w : ℕ) → w ≤ 3 * W → (t : Tree) (n : Annotation) → Annotates d G t n → IsStaged Written t n → CanBeWritten (lower d.names Written t n) → Under j g → height t ≤ 512 → W + height t ≤ 10000
        → most (position.Written W) g t n ≤ M → IsWrittenWithin (3 * M) j w (lower d.names Written t n)
    write G j g W w le (tree.Variable v) (Leaf a) ty st can u high deep h = thrice (left W (get_or g v 0) h) le
    write G j g W w le (tree.Number c) (Leaf a) ty st can u high deep h = thrice h le
    write G j g W w le (tree.Unary (unary.Div k) t) (One a n) ty st can u high deep h = thrice (upper W _ _ h) le
    write G j g W w le (tree.Unary (unary.Rem k) t) (One a n) ty st can u high deep h = thrice (upper W _ _ h) le
    write G j g W w le (tree.Unary unary.First t) (One a n) ty st can u high deep h = thrice (projected (types.is_element a) W _ _ h) le
    write G j g W w le (tree.Unary unary.Second t) (One a n) ty st can u high deep h = thrice (projected (types.is_element a) W _ _ h) le
    write G j g W w le (tree.Unary (unary.Layout l) t) (One a n) ty st can u high deep h =
        layout_written j W w le l a (type_in n) (lower d.names Written t n)
        (λ x more. write G j g (suc W) x more t n ty.0 st (below_layout CanBeWritten (λ y z c. c.1) d.names Written l a (type_in n) _ can) u (omega arith) (omega arith) (through W g a t n (omega arith) (of_layout l (type_in n) a ty.1) h))
    write G j g W w le (tree.Unary (unary.Slide s k) t) (One a n) ty st can u high deep h = absurd can.0
    write G j g W w le (tree.Unary (unary.Pad s k) t) (One a n) ty st can u high deep h = absurd can.0
    write G j g W w le (tree.Binary (binary.Operator o) t x) (Two a n m) ty st can u high deep h = thrice (upper W _ _ h) le
    write G j g W w le (tree.Binary binary.Pair t x) (Two a n m) ty st can u high deep h = thrice (upper W _ _ h) le
    write G j g W w le (tree.Select t y x) (Three a n m k) ty st can u high deep h = thrice (left W _ h) le
    write G j g W w le (tree.Let v b) (Two a n m) ty (inl st) can u high deep h =
        let shape = stored_let d.names v b a n m st.0 in
        subst (λ z. IsWrittenWithin (3 * M) j w z) (sym shape)
        (thrice (left W _ (subst (λ z. max (if z then W else 0) (max (most position.Argument g v n) (most (if z then position.Element else position.Written W) (height_of g v n ∷ g) b m)) ≤ M) (from_ir true a st.0) h)) le)
    write G j g W w le (tree.Let v b) (Two a n m) ty (inr (inl st)) can u high deep h =
        let shape = element_let d.names v b a n m st.0 st.1 in
        let c = subst CanBeWritten shape can in
        let q = subst (λ z. max (if z then W else 0) (max (most position.Argument g v n) (most (if z then position.Element else position.Written W) (height_of g v n ∷ g) b m)) ≤ M) (from_ir false a st.0) h in
        subst (λ z. IsWrittenWithin (3 * M) j w z) (sym shape)
        (write (type_in n ∷ G) (push 0 j) (height_of g v n ∷ g) W w le b m ty.1 st.3 c (pushed_under j g 0 (height_of g v n) (omega arith) u) (omega arith) (omega arith)
        (right (most position.Argument g v n) (most (position.Written W) (height_of g v n ∷ g) b m) (right 0 (max (most position.Argument g v n) (most (position.Written W) (height_of g v n ∷ g) b m)) q)))
    write G j g W w le (tree.Let v b) (Two a n m) ty (inr (inr st)) can u high deep h =
        let shape = written_let d.names v b a n m st.0 st.1 in
        let c = subst CanBeWritten shape can in
        let q = subst (λ z. max (if z then W else 0) (max (most position.Argument g v n) (most (if z then position.Element else position.Written W) (height_of g v n ∷ g) b m)) ≤ M) (from_ir false a st.0) h in
        let k = right 0 (max (most position.Argument g v n) (most (position.Written W) (height_of g v n ∷ g) b m)) q in
        let x = read G j g v n ty.0 (from_ir false (type_in n) st.1) st.2 c.0 u (omega arith) (left (most position.Argument g v n) (most (position.Written W) (height_of g v n ∷ g) b m) k) in
        subst (λ z. IsWrittenWithin (3 * M) j w z) (sym shape) (
          x.within,
          write (type_in n ∷ G) (push (stacked j (lower d.names Argument v n)) j) (height_of g v n ∷ g) W w le b m ty.1 st.3 c.1 (pushed_under j g (stacked j (lower d.names Argument v n)) (height_of g v n) x.stack u) (omega arith) (omega arith)
              (right (most position.Argument g v n) (most (position.Written W) (height_of g v n ∷ g) b m) k),
        )
    write G j g W w le (tree.Map f xs b) (Two a n m) ty st can u high deep h =
        let k = right W (max (most position.Argument g xs n) (most (position.Written W) (height_of g xs n ∷ g) b m)) h in
        let x = read G j g xs n ty.2 (ap types.is_element ty.3) st.0 can.0 u (omega arith) (left (most position.Argument g xs n) (most (position.Written W) (height_of g xs n ∷ g) b m) k) in (
          (let p = x.stack in let q = x.low in omega arith),
          x.within,
          write (ty.0 ∷ G) (push (stacked j (lower d.names Argument xs n)) j) (height_of g xs n ∷ g) W w le b m ty.4 st.1 can.1 (pushed_under j g (stacked j (lower d.names Argument xs n)) (height_of g xs n) x.stack u) (omega arith) (omega arith)
              (right (most position.Argument g xs n) (most (position.Written W) (height_of g xs n ∷ g) b m) k),
        )
    write G j g W w le (tree.Fold f xs s b) (Three a n m l) ty st can u high deep h =
        let k = right W (max (most position.Argument g xs n) (max (most position.Element g s m) (most position.Element (height_of g xs n ∷ 0 ∷ g) b l))) h in
        let x = read G j g xs n ty.2 (ap types.is_element ty.3) st.0 can u (omega arith) (left (most position.Argument g xs n) (max (most position.Element g s m) (most position.Element (height_of g xs n ∷ 0 ∷ g) b l)) k) in
        (thrice (left W (max (most position.Argument g xs n) (max (most position.Element g s m) (most position.Element (height_of g xs n ∷ 0 ∷ g) b l))) h) le, (let p = x.stack in let q = x.low in omega arith), x.within)
    write G j g W w le _ _ ty st can u high deep h = absurd st
