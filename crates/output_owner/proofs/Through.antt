-- Through layouts and the bodies of lets to the map on top.
use Rattle.std.proofs.Common.{◌≡◌, ℕ, ◌+◌, ◌-◌, ◌*◌, ◌/◌, ◌%◌, ◌<◌, ◌^◌, Bool, true, false, List, [], ◌∷◌, refl, sym, ap, ap₂, ◌∙◌, subst, arith, pos, ◌≤ℤ◌, ◌⊎◌, inl, inr}
use Rattle.std.specs.Prelude.{if◌then◌else◌, IfSome, MatchOption, Option, Some, None}
use Rattle.std.proofs.Math.Nat.{mod-lt, mul-div_cancel_left}
use Rattle.std.proofs.lemmas.Nat.{div-add-mod'}
use Rattle.size_arith.specs.declared.names.Name.{Name}
use Rattle.size_arith.specs.declared.poly.Monomial.{Monomial}
use Rattle.size_arith.specs.Polynomial.{of_monomial, quotient, value_at}
use Rattle.size_arith.specs.Ranges.{Admissible, sizes_at}
use Rattle.size_arith.specs.Shown.{ShownAtLeast}
use Rattle.size_arith.proofs.Soundness.{shown_at_least}
use Rattle.lift_tree.specs.declared.length.Factor.{Factor}
use Rattle.lift_tree.specs.declared.layout.Layout as layout
use Rattle.lift_tree.specs.declared.layout.Layout.TheVariants.{Join, Transpose, Split, Reverse, Stride, AsVector, AsScalar}
use Rattle.lift_tree.specs.declared.term.UnaryForm.TheVariants.{Div, First, Layout, Pad, Rem, Second, Slide, Then, ToLocal, ToPrivate}
use Rattle.lift_tree.specs.declared.term.Dimension.{Dimension}
use Rattle.lift_tree.specs.declared.term.Dimension.TheVariants.{X, Y}
use Rattle.lift_tree.specs.declared.term.MapKind.{MapKind}
use Rattle.lift_tree.specs.declared.term.UnaryForm.{UnaryForm}
use Rattle.kernel_tree.specs.Launch.{Launch}
use Rattle.lift_tree.specs.Annotations.{Annotation, One, Two, type_in}
use Rattle.lift_tree.specs.Tree.{Tree, Unary, Let, Map, nodes, tree_of}
use Rattle.lift_tree.specs.Types.{PlainTy, ArrayOf, is_element}
use Rattle.lift_tree.specs.Meaning.{product_at}
use Rattle.lift_tree.specs.Typing.{constant}
use Rattle.lift_tree.specs.WorkedOut.{product_of}
use Rattle.lift_tree.proofs.Sizes.{product_value, value-of_monomial}
use Rattle.lift_tree.specs.declared.term.Level.TheVariants as level
use Rattle.lift_ir.specs.AtLaunch.{inner_of, length_at, natural, ty_at, outer_of}
use Rattle.lift_ir.specs.Layouts.{operand_position, Reshapes}
use Rattle.lift_ir.specs.Layouts as layouts
use Rattle.lift_ir.specs.Lowering as ir
use Rattle.lift_ir.specs.Lowering.{Lowered, Written, kind_of, lower, element_ty, value_place}
use Rattle.lift_ir.specs.Owner.{local_along, owner_along}
use Rattle.lift_ir.specs.Terms.{Kind, Over, Sequential, LoadSet, Literal, Reshape, Store, LetArray, LetElement}
use Rattle.lift_ir.specs.Terms as terms
use Rattle.lift_ir.specs.Types as shapes
use Rattle.lift_ir.specs.Types.{Ty, size, unflat}
use Rattle.lift_ir.proofs.Elements.{told_ir}
use Rattle.lift_ir.proofs.Lets.{written_let}
use Rattle.lift_ir.proofs.Positions as positions
use Rattle.lift_ir.proofs.AtLaunch.{join_reshapes, scalar_reshapes, split_reshapes, stride_lengths, Strides}
use Rattle.launch_lengths.specs.Bases.{bases_of}
use Rattle.output_owner.specs.declared.walk.OnTop.{OnTop}
use Rattle.output_owner.specs.Owners.{HaveOneOwner, IsOfNone, IsOfTop, map_over, position, written}
use Rattle.output_owner.specs.Numbers.{HasStep, IsOfComponent, IsStepOf, moved, operand_number, reversed, strided, transposed, turned}
use Rattle.output_owner.specs.Written.{IsScalarOf, IsWritten}
use Rattle.output_owner.proofs.Legal.{below_layout, below_let, below_map, no_pad, no_slide, no_vectors, operand_formed}
use Rattle.output_owner.proofs.Products.{second_below, second_some}
use Rattle.output_owner.proofs.Rows.{in_rows, moves, stride_moves, turns}

-- ---- the positions of numbers through layouts

join_position : {A : Type 0} (num : A → ℕ) (m : A) (t u : Ty) (k : ℕ) → Reshapes num (layouts.Join m) t u → 0 < size u → operand_position num (layouts.Join m) (unflat u k) ≡ unflat t k
join_position num m (shapes.ArrayOf n (shapes.ArrayOf c e)) u k h some = go c h.1
  where
    go : (d : ℕ) → d ≡ num m → operand_position num (layouts.Join m) (unflat u k) ≡ k / (d * size e) ∷ k % (d * size e) / size e ∷ unflat e (k % (d * size e) % size e)
    go d same =
        let s = size e in
        let hs : 0 < s = second_some (n * num m) s (subst (λ z. 0 < size z) h.2 some) in
        let rows = in_rows k s (num m) hs h.0 in
        subst (λ z. operand_position num (layouts.Join m) (unflat z k) ≡ k / (d * s) ∷ k % (d * s) / s ∷ unflat e (k % (d * s) % s)) (sym h.2)
        (subst (λ z. k / s / num m ∷ k / s % num m ∷ unflat e (k % s) ≡ k / (z * s) ∷ k % (z * s) / s ∷ unflat e (k % (z * s) % s)) (sym same)
        (ap (λ z. z ∷ k / s % num m ∷ unflat e (k % s)) (sym rows.row) ∙ ap (λ z. k / (num m * s) ∷ z ∷ unflat e (k % s)) (sym rows.element) ∙ ap (λ z. k / (num m * s) ∷ k % (num m * s) / s ∷ unflat e z) (sym rows.scalar)))
join_position num m _ u k h some = absurd (assumption)

split_position : {A : Type 0} (num : A → ℕ) (m : A) (t u : Ty) (k : ℕ) → Reshapes num (layouts.Split m) t u → 0 < size u → operand_position num (layouts.Split m) (unflat u k) ≡ unflat t k
split_position num m (shapes.ArrayOf n e) u k h some =
    let s = size e in
    let M = num m in
    let hs : 0 < s = second_some M s (second_some (n / M) (M * s) (subst (λ z. 0 < size z) h.2 some)) in
    let rows = in_rows k s M hs h.0 in
    subst (λ z. operand_position num (layouts.Split m) (unflat z k) ≡ k / s ∷ unflat e (k % s)) (sym h.2)
    (ap₂ (λ a b. (a * M + b) ∷ unflat e (k % (M * s) % s)) rows.row rows.element ∙ ap (λ z. z ∷ unflat e (k % (M * s) % s)) (div-add-mod' (k / s) M) ∙ ap (λ z. k / s ∷ unflat e z) rows.scalar)
split_position num m _ u k h some = absurd (assumption)

transpose_position : {A : Type 0} (num : A → ℕ) (n m : ℕ) (e u : Ty) (k : ℕ) → u ≡ shapes.ArrayOf m (shapes.ArrayOf n e) → k < n * (m * size e) → operand_position {A = A} num layouts.Transpose (unflat u k) ≡ unflat (shapes.ArrayOf n (shapes.ArrayOf m e)) (moved n m (size e) k)
transpose_position num n m e u k is low =
    let s = size e in
    let v = moves n m s k low in
    let i = k / (n * s) in
    let j = k % (n * s) / s in
    let r = k % (n * s) % s in
    let lr : r < s = mod-lt (k % (n * s)) v.scalar in
    let li = v.place in
    let x = moved n m s k in
    let rows = in_rows x s m v.scalar (omega arith) in
    let q : x / s ≡ j * m + i = positions.quotient (j * m + i) r s lr in
    let f : x % s ≡ r = positions.remainder (j * m + i) r s lr in
    let a : x / (m * s) ≡ j = rows.row ∙ ap (λ z. z / m) q ∙ positions.quotient j i m li in
    let b : x % (m * s) / s ≡ i = rows.element ∙ ap (λ z. z % m) q ∙ positions.remainder j i m li in
    let c : x % (m * s) % s ≡ r = rows.scalar ∙ f in
    subst (λ z. operand_position num layouts.Transpose (unflat z k) ≡ x / (m * s) ∷ x % (m * s) / s ∷ unflat e (x % (m * s) % s)) (sym is)
    (ap (λ z. z ∷ i ∷ unflat e r) (sym a) ∙ ap (λ z. x / (m * s) ∷ z ∷ unflat e r) (sym b) ∙ ap (λ z. x / (m * s) ∷ x % (m * s) / s ∷ unflat e z) (sym c))

reverse_position : {A : Type 0} (num : A → ℕ) (m : A) (n : ℕ) (e : Ty) (k : ℕ) → num m ≡ n → k < n * size e → operand_position num (layouts.Reverse m) (unflat (shapes.ArrayOf n e) k) ≡ unflat (shapes.ArrayOf n e) (turned n (size e) k)
reverse_position num m n e k is low =
    let s = size e in
    let v = turns n s k low in
    ap (λ z. (z - 1 - k / s) ∷ unflat e (k % s)) is ∙ ap (λ z. z ∷ unflat e (k % s)) (sym v.element) ∙ ap (λ z. turned n s k / s ∷ unflat e z) (sym v.rest)

-- the position of such an element in the rows that are joined, of their
-- transposition in those that are split
stride_position : {A : Type 0} (num : A → ℕ) (a c : A) (p r : ℕ) (e : Ty) (k : ℕ) → num a ≡ p → num c ≡ r → 0 < p → 0 < r → k < p * r * size e
    → operand_position num (layouts.Split a) (operand_position {A = A} num layouts.Transpose (operand_position num (layouts.Join c) (unflat (shapes.ArrayOf (p * r) e) k))) ≡ unflat (shapes.ArrayOf (p * r) e) (moved r p (size e) k)
stride_position num a c p r e k ea ec hp hr low =
    let s = size e in
    let hs : 0 < s = second_some (p * r) s (omega arith) in
    let i = k / s % r * p + k / s / r in
    let lr : k % s < s = mod-lt k hs in
    let j = stride_moves p r s k hs hr in
    let q : moved r p s k / s ≡ i = ap (λ z. z / s) j ∙ positions.quotient i (k % s) s lr in
    let f : moved r p s k % s ≡ k % s = ap (λ z. z % s) j ∙ positions.remainder i (k % s) s lr in
    ap (λ z. (k / s % z * num a + k / s / z) ∷ unflat e (k % s)) ec ∙ ap (λ z. (k / s % r * z + k / s / r) ∷ unflat e (k % s)) ea
    ∙ ap (λ z. z ∷ unflat e (k % s)) (sym q) ∙ ap (λ z. moved r p s k / s ∷ unflat e z) (sym f)

-- ---- of one owner

-- told in both dimensions
told : {bases : List ℕ} {t : Lowered} {q : List ℕ} {u : Lowered} {p : List ℕ} → ((l : Launch) → owner_along X (length_at bases) l t q ≡ owner_along X (length_at bases) l u p) → ((l : Launch) → owner_along Y (length_at bases) l t q ≡ owner_along Y (length_at bases) l u p)
    → ((l : Launch) → local_along X (length_at bases) l t q ≡ local_along X (length_at bases) l u p) → ((l : Launch) → local_along Y (length_at bases) l t q ≡ local_along Y (length_at bases) l u p) → HaveOneOwner bases t q u p
told {bases} {t} {q} {u} {p} column row place place_row = record { item = item; local = local }
  where
    item : (d : Dimension) (l : Launch) → owner_along d (length_at bases) l t q ≡ owner_along d (length_at bases) l u p
    item X l = column l
    item Y l = row l

    local : (d : Dimension) (l : Launch) → local_along d (length_at bases) l t q ≡ local_along d (length_at bases) l u p
    local X l = place l
    local Y l = place_row l

pub through_layout : (bases : List ℕ) (y : layouts.Layout (List Monomial)) (t : Lowered) (q p : List ℕ) → operand_position (length_at bases) y q ≡ p → HaveOneOwner bases (Reshape y t) q t p
through_layout bases y t q p e = record { item = λ d l. ap (owner_along d (length_at bases) l t) e; local = λ d l. ap (local_along d (length_at bases) l t) e }

pub after : (bases : List ℕ) (t u v : Lowered) (q p r : List ℕ) → HaveOneOwner bases t q u p → HaveOneOwner bases u p v r → HaveOneOwner bases t q v r
after bases t u v q p r h k = record { item = λ d l. h.item d l ∙ k.item d l; local = λ d l. h.local d l ∙ k.local d l }

-- a map's owner is told by its kind, its turn and its body
pub of_map : (bases : List ℕ) (k : Kind) (n : List Monomial) (loads : LoadSet) (xs b : Lowered) (i : ℕ) (q : List ℕ) → HaveOneOwner bases (terms.Map k n loads xs b) (i ∷ q) (map_over k b) (i ∷ q)
of_map bases (Over level.Launch X) n loads xs b i q = told (λ l. refl) (λ l. refl) (λ l. refl) (λ l. refl)
of_map bases (Over level.Groups X) n loads xs b i q = told (λ l. refl) (λ l. refl) (λ l. refl) (λ l. refl)
of_map bases (Over level.Items X) n loads xs b i q = told (λ l. refl) (λ l. refl) (λ l. refl) (λ l. refl)
of_map bases Sequential n loads xs b i q = told (λ l. refl) (λ l. refl) (λ l. refl) (λ l. refl)
of_map bases (Over level.Launch Y) n loads xs b i q = told (λ l. refl) (λ l. refl) (λ l. refl) (λ l. refl)
of_map bases (Over level.Groups Y) n loads xs b i q = told (λ l. refl) (λ l. refl) (λ l. refl) (λ l. refl)
of_map bases (Over level.Items Y) n loads xs b i q = told (λ l. refl) (λ l. refl) (λ l. refl) (λ l. refl)

-- a let, whose whole type and whose value's are tested so
abbrev let_tested : (names : List Name) (v b : Tree) (a : PlainTy) (n m : Annotation) (whole value : Bool) → Lowered
let_tested names v b a n m x y =
    if x then Store (element_ty a) (if y then LetElement (element_ty (type_in n)) (lower names (value_place n) v n) (lower names (if x then ir.Element else Written) b m) else LetArray (lower names (value_place n) v n) (lower names (if x then ir.Element else Written) b m))
    else (if y then LetElement (element_ty (type_in n)) (lower names (value_place n) v n) (lower names (if x then ir.Element else Written) b m) else LetArray (lower names (value_place n) v n) (lower names (if x then ir.Element else Written) b m))

pub of_let : (names : List Name) (bases : List ℕ) (v b : Tree) (a : PlainTy) (n m : Annotation) (q : List ℕ) → is_element a ≡ false → is_element (type_in n) ≡ false → HaveOneOwner bases (written names (Let v b) (Two a n m)) q (written names b m) q
of_let names bases v b a n m q e f =
    subst (λ (t : Lowered). HaveOneOwner bases t q (written names b m) q) (sym (written_let names v b a n m (told_ir false a e) (told_ir false (type_in n) f))) (record { item = λ d l. refl; local = λ d l. refl })

pub of_element : (names : List Name) (bases : List ℕ) (v b : Tree) (a : PlainTy) (n m : Annotation) (q : List ℕ) → is_element a ≡ true → HaveOneOwner bases (written names (Let v b) (Two a n m)) q (Literal 0) []
of_element names bases v b a n m q e = subst (λ (x : Bool). HaveOneOwner bases (let_tested names v b a n m x (ir.is_element (type_in n))) q (Literal 0) []) (sym (told_ir true a e)) (record { item = λ d l. refl; local = λ d l. refl })

pub of_bound_element : (names : List Name) (bases : List ℕ) (v b : Tree) (a : PlainTy) (n m : Annotation) (q : List ℕ) → is_element a ≡ false → is_element (type_in n) ≡ true → HaveOneOwner bases (written names (Let v b) (Two a n m)) q (Literal 0) []
of_bound_element names bases v b a n m q e f =
    subst (λ (x : Bool). HaveOneOwner bases (let_tested names v b a n m x (ir.is_element (type_in n))) q (Literal 0) []) (sym (told_ir false a e))
    (subst (λ (y : Bool). HaveOneOwner bases (let_tested names v b a n m false y) q (Literal 0) []) (sym (told_ir true (type_in n) f)) (record { item = λ d l. refl; local = λ d l. refl }))

-- ---- one step

module _ (names : List Name) (sizes : List ℕ) where
  abbrev bases : List ℕ
  bases = bases_of names sizes

  -- a scalar of a whole is one of a part, of one owner
  pub record Steps (t : Tree) (n : Annotation) (number : ℕ) (u : Tree) (m : Annotation) (other : ℕ) : Type 0 where
    pub scalar : IsScalarOf names sizes u m other
    pub owner : HaveOneOwner bases (written names t n) (position bases n number) (written names u m) (position bases m other)

  module _ (t : Tree) (n : Annotation) (k : ℕ) (s : IsScalarOf names sizes t n k) where
    pub shown : (j : ℕ) (p : List Monomial) → ShownAtLeast j s.term.declared.names p → pos j ≤ℤ value_at bases p
    shown = shown_at_least s.term.declared.names bases s.term.proper.names (subst (λ (ns : List Name). Admissible ns bases) (sym s.term.same) s.admissible)

    some : 0 < size (ty_at bases (type_in n))
    some = let h = s.scalar.below in omega arith

  -- a number in a part that has as many scalars
  other_number : (t : Tree) (n : Annotation) (k : ℕ) (s : IsScalarOf names sizes t n k) (u : Tree) (m : Annotation) (j : ℕ) → IsWritten names u m → size (ty_at bases (type_in n)) ≡ size (ty_at bases (type_in m)) → j < size (ty_at bases (type_in m)) → IsScalarOf names sizes u m j
  other_number t n k s u m j w e below = record {
    admissible = s.admissible;
    exact = s.exact;
    term = w;
    scalar = record { few = subst (λ (z : ℕ). z < 2 ^ 31) e s.scalar.few; below = below };
  }

  -- the number itself
  same_number : (t : Tree) (n : Annotation) (k : ℕ) (s : IsScalarOf names sizes t n k) (u : Tree) (m : Annotation) → IsWritten names u m → size (ty_at bases (type_in n)) ≡ size (ty_at bases (type_in m)) → IsScalarOf names sizes u m k
  same_number t n k s u m w e = other_number t n k s u m k w e (subst (λ (z : ℕ). k < z) e s.scalar.below)

  join_size : (m : List Monomial) (t u : Ty) → Reshapes (length_at bases) (layouts.Join m) t u → size u ≡ size t
  join_size m (shapes.ArrayOf n (shapes.ArrayOf c e)) u h =
      ap size h.2 ∙ (let z : n * length_at bases m * size e ≡ n * (length_at bases m * size e) = grind arith in z) ∙ ap (λ x. n * (x * size e)) (sym h.1)
  join_size m _ u h = absurd (assumption)

  split_size : (m : List Monomial) (t u : Ty) → Reshapes (length_at bases) (layouts.Split m) t u → size u ≡ size t
  split_size m (shapes.ArrayOf n e) u h =
      ap size h.2 ∙ (let z : n / length_at bases m * (length_at bases m * size e) ≡ n / length_at bases m * length_at bases m * size e = grind arith in z) ∙ ap (λ x. x * size e) h.1
  split_size m _ u h = absurd (assumption)

  -- ---- layouts

  module _ (l : layout.Layout) (t : Tree) (a : PlainTy) (n : Annotation) (k : ℕ) where
    abbrev IsOf : Type 0
    IsOf = IsScalarOf names sizes (Unary (Layout l) t) (One a n) k

    below : IsOf → IsWritten names t n
    below s = below_layout names l t a n s.term

    -- the layout has as many scalars as its operand
    stays : (s : IsOf) (j : ℕ) → size (ty_at bases a) ≡ size (ty_at bases (type_in n)) → j < size (ty_at bases (type_in n)) → IsScalarOf names sizes t n j
    stays s j e h = other_number (Unary (Layout l) t) (One a n) k s t n j (below s) e h

  module _ (t : Tree) (a : PlainTy) (n : Annotation) (k : ℕ) (s : IsScalarOf names sizes (Unary (Layout Join) t) (One a n) k) where
    joined : Reshapes (length_at bases) (layouts.Join (inner_of (type_in n))) (ty_at bases (type_in n)) (ty_at bases a)
    joined = join_reshapes s.term.declared bases (shown (Unary (Layout Join) t) (One a n) k s) (type_in n) a (operand_formed names (Layout Join) t a n s.term) s.term.nodes.1

    size_of_join : size (ty_at bases a) ≡ size (ty_at bases (type_in n))
    size_of_join = join_size (inner_of (type_in n)) (ty_at bases (type_in n)) (ty_at bases a) joined

    through_join : Steps (Unary (Layout Join) t) (One a n) k t n k
    through_join = record {
      scalar = same_number (Unary (Layout Join) t) (One a n) k s t n (below Join t a n k s) size_of_join;
      owner = through_layout bases (layouts.Join (inner_of (type_in n))) (written names t n) (position bases (One a n) k) (position bases n k) (join_position (length_at bases) (inner_of (type_in n)) (ty_at bases (type_in n)) (ty_at bases a) k joined (some (Unary (Layout Join) t) (One a n) k s));
    }

  -- numbers of vectors
  module _ (t : Tree) (a : PlainTy) (n : Annotation) (k : ℕ) (s : IsScalarOf names sizes (Unary (Layout AsScalar) t) (One a n) k) where
    laid : Reshapes (length_at bases) (layouts.Join (constant 4)) (ty_at bases (type_in n)) (ty_at bases a)
    laid = scalar_reshapes s.term.declared bases (shown (Unary (Layout AsScalar) t) (One a n) k s) (type_in n) a (operand_formed names (Layout AsScalar) t a n s.term) s.term.nodes.1

    size_of_numbers : size (ty_at bases a) ≡ size (ty_at bases (type_in n))
    size_of_numbers = join_size (constant 4) (ty_at bases (type_in n)) (ty_at bases a) laid

    through_numbers : Steps (Unary (Layout AsScalar) t) (One a n) k t n k
    through_numbers = record {
      scalar = same_number (Unary (Layout AsScalar) t) (One a n) k s t n (below AsScalar t a n k s) size_of_numbers;
      owner = through_layout bases (layouts.Join (constant 4)) (written names t n) (position bases (One a n) k) (position bases n k) (join_position (length_at bases) (constant 4) (ty_at bases (type_in n)) (ty_at bases a) k laid (some (Unary (Layout AsScalar) t) (One a n) k s));
    }

  module _ (fs : List Factor) (t : Tree) (a : PlainTy) (n : Annotation) (k : ℕ) (s : IsScalarOf names sizes (Unary (Layout (Split fs)) t) (One a n) k) where
    cut : Reshapes (length_at bases) (layouts.Split (inner_of a)) (ty_at bases (type_in n)) (ty_at bases a)
    cut = split_reshapes s.term.declared bases (shown (Unary (Layout (Split fs)) t) (One a n) k s) fs (type_in n) a (operand_formed names (Layout (Split fs)) t a n s.term) s.term.nodes.1

    size_of_split : size (ty_at bases a) ≡ size (ty_at bases (type_in n))
    size_of_split = split_size (inner_of a) (ty_at bases (type_in n)) (ty_at bases a) cut

    through_split : Steps (Unary (Layout (Split fs)) t) (One a n) k t n k
    through_split = record {
      scalar = same_number (Unary (Layout (Split fs)) t) (One a n) k s t n (below (Split fs) t a n k s) size_of_split;
      owner = through_layout bases (layouts.Split (inner_of a)) (written names t n) (position bases (One a n) k) (position bases n k) (split_position (length_at bases) (inner_of a) (ty_at bases (type_in n)) (ty_at bases a) k cut (some (Unary (Layout (Split fs)) t) (One a n) k s));
    }

  -- columns of rows
  module _ (t : Tree) (a : PlainTy) (n : Annotation) (k : ℕ) (s : IsScalarOf names sizes (Unary (Layout Transpose) t) (One a n) k) where
    rows_size : (x : PlainTy) (m c : List Monomial) → a ≡ ArrayOf (ArrayOf x c) m → size (ty_at bases a) ≡ length_at bases c * (length_at bases m * size (ty_at bases x))
    rows_size x m c e = ap (λ z. size (ty_at bases z)) e ∙ (let z : length_at bases m * (length_at bases c * size (ty_at bases x)) ≡ length_at bases c * (length_at bases m * size (ty_at bases x)) = grind arith in z)

    size_of_transpose : size (ty_at bases a) ≡ size (ty_at bases (type_in n))
    size_of_transpose = let r = s.term.nodes.1 in rows_size r.0 r.1 r.2 r.4 ∙ sym (ap (λ z. size (ty_at bases z)) r.3)

    through_transpose : Steps (Unary (Layout Transpose) t) (One a n) k t n (transposed bases (type_in n) k)
    through_transpose =
        let r = s.term.nodes.1 in
        let x = r.0 in
        let m = r.1 in
        let c = r.2 in
        let low : k < length_at bases c * (length_at bases m * size (ty_at bases x)) = subst (λ (z : ℕ). k < z) (rows_size x m c r.4) s.scalar.below in
        let v = moves (length_at bases c) (length_at bases m) (size (ty_at bases x)) k low in
        record {
          scalar = stays Transpose t a n k s (transposed bases (type_in n) k) size_of_transpose (subst (λ (b : PlainTy). transposed bases b k < size (ty_at bases b)) (sym r.3) v.below);
          owner = through_layout bases layouts.Transpose (written names t n) _ _
              (subst (λ (b : PlainTy). operand_position (length_at bases) layouts.Transpose (unflat (ty_at bases a) k) ≡ unflat (ty_at bases b) (transposed bases b k)) (sym r.3)
              (transpose_position (length_at bases) (length_at bases c) (length_at bases m) (ty_at bases x) (ty_at bases a) k (ap (ty_at bases) r.4) low));
        }

  -- from the last element to the first
  module _ (t : Tree) (a : PlainTy) (n : Annotation) (k : ℕ) (s : IsScalarOf names sizes (Unary (Layout Reverse) t) (One a n) k) where
    size_of_reverse : size (ty_at bases a) ≡ size (ty_at bases (type_in n))
    size_of_reverse = let r = s.term.nodes.1 in ap (λ z. size (ty_at bases z)) (r.3 ∙ sym r.2)

    through_reverse : Steps (Unary (Layout Reverse) t) (One a n) k t n (reversed bases (type_in n) k)
    through_reverse =
        let r = s.term.nodes.1 in
        let x = r.0 in
        let c = r.1 in
        let low : k < length_at bases c * size (ty_at bases x) = subst (λ (z : PlainTy). k < size (ty_at bases z)) r.3 s.scalar.below in
        let v = turns (length_at bases c) (size (ty_at bases x)) k low in
        record {
          scalar = stays Reverse t a n k s (reversed bases (type_in n) k) size_of_reverse (subst (λ (b : PlainTy). reversed bases b k < size (ty_at bases b)) (sym r.2) v.below);
          owner = through_layout bases (layouts.Reverse (outer_of (type_in n))) (written names t n) _ _
              (subst (λ (b : PlainTy). operand_position (length_at bases) (layouts.Reverse (outer_of b)) (unflat (ty_at bases a) k) ≡ unflat (ty_at bases b) (reversed bases b k)) (sym r.2)
              (subst (λ (b : PlainTy). operand_position (length_at bases) (layouts.Reverse c) (unflat (ty_at bases b) k) ≡ unflat (ty_at bases (ArrayOf x c)) (turned (length_at bases c) (size (ty_at bases x)) k)) (sym r.3)
              (reverse_position (length_at bases) c (length_at bases c) (ty_at bases x) k refl low)));
        }

  length_same : (m c : ℕ) (t u : Ty) → shapes.ArrayOf m t ≡ shapes.ArrayOf c u → m ≡ c
  length_same m c t u e = cc

  element_same : (m c : ℕ) (t u : Ty) → shapes.ArrayOf m t ≡ shapes.ArrayOf c u → t ≡ u
  element_same m c t u e = cc

  -- elements so far from one another
  module _ (fs : List Factor) (t : Tree) (a : PlainTy) (n : Annotation) (k : ℕ) (s : IsScalarOf names sizes (Unary (Layout (Stride fs)) t) (One a n) k) where
    lengths : Strides s.term.declared bases (shown (Unary (Layout (Stride fs)) t) (One a n) k s) fs (type_in n) a
    lengths = stride_lengths s.term.declared bases (shown (Unary (Layout (Stride fs)) t) (One a n) k s) fs (type_in n) a (operand_formed names (Layout (Stride fs)) t a n s.term) s.term.nodes.1

    -- the step at these sizes is that of the lengths
    step_is : product_at sizes fs ≡ lengths.step
    step_is =
        let ns = s.term.declared.names in
        let ok = subst (λ (x : List Name). Admissible x bases) (sym s.term.same) s.admissible in
        let told : product_at sizes fs ≡ product_at (sizes_at ns bases) fs = ap (λ ss. product_at ss fs) (s.exact ∙ ap (λ (x : List Name). sizes_at x bases) (sym s.term.same)) in
        told ∙ sym (ap natural (value-of_monomial bases (product_of ns fs) ∙ product_value ns bases ok s.term.proper.few fs)) ∙ lengths.step_is

    elements : shapes.ArrayOf (length_at bases s.term.nodes.1.1) (ty_at bases s.term.nodes.1.0) ≡ shapes.ArrayOf (lengths.step * lengths.rest) (ty_at bases lengths.element)
    elements = ap (ty_at bases) (sym s.term.nodes.1.2) ∙ lengths.operand

    length_is : length_at bases s.term.nodes.1.1 ≡ lengths.step * lengths.rest
    length_is = length_same _ _ _ _ elements

    divided : length_at bases s.term.nodes.1.1 / lengths.step ≡ lengths.rest
    divided = ap (λ z. z / lengths.step) length_is ∙ mul-div_cancel_left lengths.rest lengths.some_step

    size_of_stride : size (ty_at bases a) ≡ size (ty_at bases (type_in n))
    size_of_stride = let r = s.term.nodes.1 in ap (λ z. size (ty_at bases z)) (r.4 ∙ sym r.2)

    has_step : IsStepOf bases (product_at sizes fs) (type_in n)
    has_step =
        let back : lengths.rest * lengths.step ≡ lengths.step * lengths.rest = grind arith in
        subst (λ (b : PlainTy). IsStepOf bases (product_at sizes fs) b) (sym s.term.nodes.1.2)
        (subst (λ z. (0 < z) × (length_at bases s.term.nodes.1.1 / z * z ≡ length_at bases s.term.nodes.1.1)) (sym step_is) (lengths.some_step, ap (λ z. z * lengths.step) divided ∙ back ∙ sym length_is))

    number_is : strided bases (product_at sizes fs) (type_in n) k ≡ moved lengths.rest lengths.step (size (ty_at bases lengths.element)) k
    number_is =
        let c = length_at bases s.term.nodes.1.1 in
        let x = size (ty_at bases s.term.nodes.1.0) in
        ap (λ b. strided bases (product_at sizes fs) b k) s.term.nodes.1.2 ∙ ap (λ z. moved (c / z) z x k) step_is ∙ ap (λ z. moved z lengths.step x k) divided
        ∙ ap (λ e. moved lengths.rest lengths.step (size e) k) (element_same _ _ _ _ elements)

    through_stride : Steps (Unary (Layout (Stride fs)) t) (One a n) k t n (strided bases (product_at sizes fs) (type_in n) k)
    through_stride =
        let p = lengths.step in
        let q = lengths.rest in
        let e = ty_at bases lengths.element in
        let j = strided bases (product_at sizes fs) (type_in n) k in
        let m = product_of names fs in
        let low : k < p * q * size e = subst (λ (z : Ty). k < size z) lengths.result s.scalar.below in
        let all : p * q * size e ≡ q * (p * size e) = grind arith in
        let v = moves q p (size e) k (omega arith) in
        let split : length_at bases (of_monomial m) ≡ p = subst (λ (x : List Name). length_at bases (of_monomial (product_of x fs)) ≡ p) s.term.same lengths.step_is in
        let join : length_at bases (quotient m (outer_of (type_in n))) ≡ q = subst (λ (x : List Name). length_at bases (quotient (product_of x fs) (outer_of (type_in n))) ≡ q) s.term.same lengths.rest_is in
        let last : Ty → List ℕ = λ z. operand_position (length_at bases) (layouts.Split (of_monomial m)) (operand_position {A = List Monomial} (length_at bases) layouts.Transpose (operand_position (length_at bases) (layouts.Join (quotient m (outer_of (type_in n)))) (unflat z k))) in
        let is : last (ty_at bases a) ≡ unflat (ty_at bases (type_in n)) j =
        ap last lengths.result ∙ stride_position (length_at bases) (of_monomial m) (quotient m (outer_of (type_in n))) p q e k split join lengths.some_step lengths.some_rest low ∙ ap (λ z. unflat (shapes.ArrayOf (p * q) e) z) (sym number_is) ∙ ap (λ z. unflat z j) (sym lengths.operand) in
        let within : moved q p (size e) k < size (shapes.ArrayOf (p * q) e) = (let b = v.below in omega arith) in
        record {
          scalar = stays (Stride fs) t a n k s j size_of_stride (subst (λ (z : Ty). j < size z) (sym lengths.operand) (subst (λ z. z < size (shapes.ArrayOf (p * q) e)) (sym number_is) within));
          owner = record { item = λ d l. ap (owner_along d (length_at bases) l (written names t n)) is; local = λ d l. ap (local_along d (length_at bases) l (written names t n)) is };
        }

  -- any of them
  pub through : (l : layout.Layout) (t : Tree) (a : PlainTy) (n : Annotation) (k : ℕ) → IsScalarOf names sizes (Unary (Layout l) t) (One a n) k → Steps (Unary (Layout l) t) (One a n) k t n (operand_number sizes bases l (type_in n) k)
  through Join t a n k s = through_join t a n k s
  through Transpose t a n k s = through_transpose t a n k s
  through (Split fs) t a n k s = through_split fs t a n k s
  through Reverse t a n k s = through_reverse t a n k s
  through (Stride fs) t a n k s = through_stride fs t a n k s
  through AsVector t a n k s = absurd (no_vectors names t a n s.term)
  through AsScalar t a n k s = through_numbers t a n k s

  layout_size : (l : layout.Layout) (t : Tree) (a : PlainTy) (n : Annotation) (k : ℕ) → IsScalarOf names sizes (Unary (Layout l) t) (One a n) k → size (ty_at bases a) ≡ size (ty_at bases (type_in n))
  layout_size Join t a n k s = size_of_join t a n k s
  layout_size Transpose t a n k s = size_of_transpose t a n k s
  layout_size (Split fs) t a n k s = size_of_split fs t a n k s
  layout_size Reverse t a n k s = size_of_reverse t a n k s
  layout_size (Stride fs) t a n k s = size_of_stride fs t a n k s
  layout_size AsVector t a n k s = absurd (no_vectors names t a n s.term)
  layout_size AsScalar t a n k s = size_of_numbers t a n k s

  pub of_component : (l : layout.Layout) (t : Tree) (a : PlainTy) (n : Annotation) (k : ℕ) → IsScalarOf names sizes (Unary (Layout l) t) (One a n) k → IsOfComponent bases (type_in n) k
  of_component l t a n k s = let e = layout_size l t a n k s in record { few = subst (λ (z : ℕ). z < 2 ^ 31) e s.scalar.few; below = subst (λ (z : ℕ). k < z) e s.scalar.below }

  pub step_of : (l : layout.Layout) (t : Tree) (a : PlainTy) (n : Annotation) (k : ℕ) → IsScalarOf names sizes (Unary (Layout l) t) (One a n) k → HasStep sizes bases l (type_in n)
  step_of Join t a n k s = tt
  step_of Transpose t a n k s = tt
  step_of (Split fs) t a n k s = tt
  step_of Reverse t a n k s = tt
  step_of (Stride fs) t a n k s = has_step fs t a n k s
  step_of AsVector t a n k s = tt
  step_of AsScalar t a n k s = tt

  pub through_let : (v b : Tree) (a : PlainTy) (n m : Annotation) (k : ℕ) → IsScalarOf names sizes (Let v b) (Two a n m) k → is_element a ≡ false → is_element (type_in n) ≡ false → Steps (Let v b) (Two a n m) k b m k
  through_let v b a n m k s e f =
      let w = below_let names v b a n m s.term e in
      let same : a ≡ type_in m = s.term.nodes.2 in
      record {
        scalar = same_number (Let v b) (Two a n m) k s b m w (ap (λ z. size (ty_at bases z)) same);
        owner = subst (λ (z : PlainTy). HaveOneOwner bases (written names (Let v b) (Two a n m)) (unflat (ty_at bases a) k) (written names b m) (unflat (ty_at bases z) k)) same (of_let names bases v b a n m (unflat (ty_at bases a) k) e f);
      }

  -- the map on top
  module _ (h : MapKind) (xs b : Tree) (a : PlainTy) (n m : Annotation) (k : ℕ) (s : IsScalarOf names sizes (Map h xs b) (Two a n m) k) where
    whole_size : size (ty_at bases a) ≡ length_at bases (s.term.nodes.1) * size (ty_at bases (type_in m))
    whole_size = ap (λ z. size (ty_at bases z)) s.term.nodes.5

    pub row_some : 0 < size (ty_at bases (type_in m))
    row_some = let c = s.scalar.below in let e = whole_size in second_some (length_at bases (s.term.nodes.1)) (size (ty_at bases (type_in m))) (omega arith)

    row_few : size (ty_at bases (type_in m)) < 2 ^ 31
    row_few =
        let c = s.scalar.below in
        let d = s.scalar.few in
        let e = whole_size in
        second_below (length_at bases (s.term.nodes.1)) (size (ty_at bases (type_in m))) (2 ^ 31) (omega arith) (omega arith)

    pub row_word : size (ty_at bases (type_in m)) < 2 ^ 32
    row_word = let r = row_few in omega arith

    pub in_body : IsScalarOf names sizes b m (k % size (ty_at bases (type_in m)))
    in_body = record {
      admissible = s.admissible;
      exact = s.exact;
      term = below_map names h xs b a n m s.term;
      scalar = record { few = row_few; below = mod-lt k row_some };
    }

    pub on_map : HaveOneOwner bases (written names (Map h xs b) (Two a n m)) (position bases (Two a n m) k) (map_over (kind_of h) (written names b m)) (k / size (ty_at bases (type_in m)) ∷ position bases m (k % size (ty_at bases (type_in m))))
    on_map =
        subst (λ (z : PlainTy). HaveOneOwner bases (written names (Map h xs b) (Two a n m)) (unflat (ty_at bases z) k) (map_over (kind_of h) (written names b m)) (k / size (ty_at bases (type_in m)) ∷ position bases m (k % size (ty_at bases (type_in m))))) (sym s.term.nodes.5)
        (of_map bases (kind_of h) _ _ _ (written names b m) _ _)

  -- ---- what is found from the part on

  pub found_on : (t : Tree) (n : Annotation) (k : ℕ) (u : Tree) (m : Annotation) (j : ℕ) (found : Option OnTop) → (IsScalarOf names sizes t n k → Steps t n k u m j)
      → (IsScalarOf names sizes u m j → MatchOption found (IsOfNone names bases u m j) (IsOfTop names bases u m j))
      → IsScalarOf names sizes t n k → MatchOption found (IsOfNone names bases t n k) (IsOfTop names bases t n k)
  found_on t n k u m j None step is s =
      let e = step s in
      after bases _ _ _ _ _ _ e.owner (is e.scalar)
  found_on t n k u m j (Some top) step is s =
      let e = step s in
      after bases _ _ _ _ _ _ e.owner (is e.scalar)

  pub scalar_on : (t : Tree) (n : Annotation) (k : ℕ) (u : Tree) (m : Annotation) (j : ℕ) (found : Option OnTop) (P : OnTop → Type 0) → (IsScalarOf names sizes t n k → Steps t n k u m j)
      → (IsScalarOf names sizes u m j → IfSome found P) → IsScalarOf names sizes t n k → IfSome found P
  scalar_on t n k u m j found P step is s = is (step s).scalar

  -- ---- what is shown of the part is shown of the whole that it is

  abbrev pub NoneOn : ℕ → Tree → Annotation → Type 0
  NoneOn k t n = IsScalarOf names sizes t n k → IsOfNone names bases t n k

  abbrev pub FoundOn : Option OnTop → ℕ → Tree → Annotation → Type 0
  FoundOn found k t n = IsScalarOf names sizes t n k → MatchOption found (IsOfNone names bases t n k) (IsOfTop names bases t n k)

  pub of_equal : (P : Tree → Annotation → Type 0) (t u : Tree) (n m : Annotation) → t ≡ u → n ≡ m → P u m → P t n
  of_equal P t u n m e f h = subst (λ (x : Tree). P x n) (sym e) (subst (λ (y : Annotation). P u y) (sym f) h)

  -- ---- forms that are no layout

  abbrev pub IsNoLayout : UnaryForm → Type 0
  IsNoLayout (Layout l) = ⊥
  IsNoLayout _ = Unit {0}

  pub is_no_layout : (f : UnaryForm) → ((x : ℕ) × (f ≡ Div x)) ⊎ (((x : ℕ) × (f ≡ Rem x)) ⊎ ((f ≡ First) ⊎ ((f ≡ Second) ⊎ (((x : ℕ) × (y : ℕ) × (f ≡ Slide x y)) ⊎ (((x : ℕ) × (y : ℕ) × (f ≡ Pad x y)) ⊎ ((f ≡ ToLocal) ⊎ ((f ≡ ToPrivate) ⊎ (f ≡ Then)))))))) → IsNoLayout f
  is_no_layout f (inl (x, e)) = subst IsNoLayout (sym e) tt
  is_no_layout f (inr (inl (x, e))) = subst IsNoLayout (sym e) tt
  is_no_layout f (inr (inr (inl e))) = subst IsNoLayout (sym e) tt
  is_no_layout f (inr (inr (inr (inl e)))) = subst IsNoLayout (sym e) tt
  is_no_layout f (inr (inr (inr (inr (inl (x, y, e)))))) = subst IsNoLayout (sym e) tt
  is_no_layout f (inr (inr (inr (inr (inr (inl (x, y, e))))))) = subst IsNoLayout (sym e) tt
  is_no_layout f (inr (inr (inr (inr (inr (inr (inl e))))))) = subst IsNoLayout (sym e) tt
  is_no_layout f (inr (inr (inr (inr (inr (inr (inr (inl e)))))))) = subst IsNoLayout (sym e) tt
  is_no_layout f (inr (inr (inr (inr (inr (inr (inr (inr e)))))))) = subst IsNoLayout (sym e) tt

  pub of_no_layout : (f : UnaryForm) (t : Tree) (a : PlainTy) (n : Annotation) (k : ℕ) → IsNoLayout f → NoneOn k (Unary f t) (One a n)
  of_no_layout (Div x) t a n k other s = record { item = λ d l. refl; local = λ d l. refl }
  of_no_layout (Rem x) t a n k other s = record { item = λ d l. refl; local = λ d l. refl }
  of_no_layout First t a n k other s = record { item = λ d l. refl; local = λ d l. refl }
  of_no_layout Second t a n k other s = record { item = λ d l. refl; local = λ d l. refl }
  of_no_layout (Layout l) t a n k other s = absurd other
  of_no_layout (Slide x y) t a n k other s = absurd (no_slide names x y t a n s.term)
  of_no_layout (Pad x y) t a n k other s = absurd (no_pad names x y t a n s.term)
  of_no_layout ToLocal t a n k other s = record { item = λ d l. refl; local = λ d l. refl }
  of_no_layout ToPrivate t a n k other s = record { item = λ d l. refl; local = λ d l. refl }
  of_no_layout Then t a n k other s = record { item = λ d l. refl; local = λ d l. refl }

  -- ---- the map on top, whose rows have so many scalars

  module _ (h : MapKind) (xs b : Tree) (a : PlainTy) (n m : Annotation) (k row : ℕ) (told : 0 < size (ty_at bases (type_in m)) → size (ty_at bases (type_in m)) < 2 ^ 32 → row ≡ size (ty_at bases (type_in m))) where
    row_is : IsScalarOf names sizes (Map h xs b) (Two a n m) k → size (ty_at bases (type_in m)) ≡ row
    row_is s = sym (told (row_some h xs b a n m k s) (row_word h xs b a n m k s))

    pub map_found : IsScalarOf names sizes (Map h xs b) (Two a n m) k → HaveOneOwner bases (written names (Map h xs b) (Two a n m)) (position bases (Two a n m) k) (map_over (kind_of h) (written names b m)) (k / row ∷ position bases m (k % row))
    map_found s = subst (λ (r : ℕ). HaveOneOwner bases (written names (Map h xs b) (Two a n m)) (position bases (Two a n m) k) (map_over (kind_of h) (written names b m)) (k / r ∷ position bases m (k % r))) (row_is s) (on_map h xs b a n m k s)

    pub none_in_row : row ≡ 0 → IsScalarOf names sizes (Map h xs b) (Two a n m) k → HaveOneOwner bases (written names (Map h xs b) (Two a n m)) (position bases (Two a n m) k) (Literal 0) []
    none_in_row e s = let some = row_some h xs b a n m k s in let is = row_is s in absurd (omega (arith, some, is, e))

    pub map_body : IsScalarOf names sizes (Map h xs b) (Two a n m) k → IsScalarOf names sizes b m (k % row)
    map_body s = subst (λ (r : ℕ). IsScalarOf names sizes b m (k % r)) (row_is s) (in_body h xs b a n m k s)

-- a part of a term's part is smaller than the term
pub smaller : (found : Option OnTop) (n m : ℕ) → n < m → IfSome found (λ top. nodes (tree_of top.body.now) < n) → IfSome found (λ top. nodes (tree_of top.body.now) < m)
smaller None n m e h = tt
smaller (Some top) n m e h = omega arith
