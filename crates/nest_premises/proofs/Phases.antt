-- A term has no more phases than nodes.
use Rattle.std.proofs.Common.{◌+◌, ◌≤◌, ℕ, Bool, true, false, List, arith}
use Rattle.std.specs.Prelude.{if◌then◌else◌}
use Rattle.scalar_ops.specs.declared.op.Op.{Op}
use Rattle.scalar_ops.specs.declared.op.Op.TheVariants.{Div, Rem}
use Rattle.size_arith.specs.declared.names.Name.{Name}
use Rattle.size_arith.specs.declared.poly.Monomial.{Monomial}
use Rattle.lift_tree.specs.declared.term.MapKind.{MapKind}
use Rattle.lift_tree.specs.declared.term.UnaryForm.{UnaryForm}
use Rattle.lift_tree.specs.declared.term.UnaryForm.TheVariants as unary
use Rattle.lift_tree.specs.declared.term.BinaryForm.{BinaryForm}
use Rattle.lift_tree.specs.declared.term.BinaryForm.TheVariants as binary
use Rattle.lift_tree.specs.Tree as tree
use Rattle.lift_tree.specs.Tree.{Tree, nodes}
use Rattle.lift_tree.specs.Types.{PlainTy}
use Rattle.lift_tree.specs.Meaning.{scalar_op}
use Rattle.lift_tree.specs.Annotations.{Annotation, One, Two, Three, type_in}
use Rattle.lift_ir.specs.Layouts.{Layout}
use Rattle.lift_ir.specs.Terms.{Both, Reshape, LetArray, LetElement, Map, Store, Bound, Literal, Source, Select}
use Rattle.lift_ir.specs.Lowering.{Place, Written, Argument, Element, Lowered, is_element, is_vector, element_ty, placed, divided, applied, placed_element, lower, lower_unary, lower_binary, lower_let, operand_place, binary_place, value_place, body_place}
use Rattle.lift_ir.proofs.Reshaped.{through_layout}
use Rattle.group_form.specs.Uses.{phases_in, phase_count}
use Rattle.group_form.specs.GridTheorem.{phases_along, grid_phase_count}
use Rattle.nest_premises.specs.Groups.{PhasesAreFew, GridPhasesAreFew}

-- ---- of a body
placed_in : (p : Place) (a : PlainTy) (x : Lowered) → phases_in (placed p a x) ≤ phases_in x
placed_in Written a x = omega arith
placed_in Argument a x = omega arith
placed_in Element a x = omega arith

divided_in : (v : Bool) (o : Op) (k : ℕ) (x : Lowered) → phases_in (divided v o k x) ≤ 0
divided_in false o k x = omega arith
divided_in true o k x = omega arith

applied_in : (v l r : Bool) (o : Op) (x y : Lowered) → phases_in (applied v l r o x y) ≤ 0
applied_in false l r o x y = omega arith
applied_in true l r o x y = omega arith

unary_in : (names : List Name) (p : Place) (f : UnaryForm) (a b : PlainTy) (x : Lowered) → phases_in (lower_unary names p f a b x) ≤ phases_in x
unary_in names p (unary.Div k) a b x = let e = placed_in p a (divided (is_vector a) Div k x) in let r = divided_in (is_vector a) Div k x in omega arith
unary_in names p (unary.Rem k) a b x = let e = placed_in p a (divided (is_vector a) Rem k x) in let r = divided_in (is_vector a) Rem k x in omega arith
unary_in names p unary.First a b x = placed_in p a (lower_unary names Element unary.First a b x)
unary_in names p unary.Second a b x = placed_in p a (lower_unary names Element unary.Second a b x)
unary_in names p unary.ToPrivate a b x = omega arith
unary_in names p unary.ToLocal a b x = omega arith
unary_in names p unary.Then a b x = omega arith
unary_in names p (unary.Layout l) a b x = through_layout (λ u. phases_in u ≤ phases_in x) (λ y u i h. h) names p l a b x (omega arith)
unary_in names p (unary.Slide s k) a b x = omega arith
unary_in names p (unary.Pad s k) a b x = omega arith

binary_in : (p : Place) (f : BinaryForm) (a b c : PlainTy) (x y : Lowered) → phases_in (lower_binary p f a b c x y) ≤ phases_in x + phases_in y
binary_in p (binary.Operator o) a b c x y =
    let e = placed_in p a (applied (is_vector a) (is_vector b) (is_vector c) (scalar_op o) x y) in
    let r = applied_in (is_vector a) (is_vector b) (is_vector c) (scalar_op o) x y in
    omega arith
binary_in p binary.Pair a b c x y = placed_in p a (Both false x y)
binary_in p binary.Zip a b c x y = omega arith
binary_in p (binary.Reduce o) a b c x y = omega arith

let_in : (p : Place) (a c : PlainTy) (v b : Lowered) → phases_in (placed_element p a (lower_let c v b)) ≤ phases_in v + phases_in b
let_in p a c v b = go (is_element a) (is_element c)
  where
    go : (x y : Bool) → phases_in (let whole = if y then LetElement (element_ty c) v b else LetArray v b in if x then placed p a whole else whole) ≤ phases_in v + phases_in b
    go true true = let e = placed_in p a (LetElement (element_ty c) v b) in omega arith
    go true false = placed_in p a (LetArray v b)
    go false true = omega arith
    go false false = omega arith

few_in : (names : List Name) (p : Place) (t : Tree) (n : Annotation) → phases_in (lower names p t n) ≤ nodes t
few_in names p (tree.Variable v) n = let e = placed_in p (type_in n) (Bound v) in omega arith
few_in names p (tree.Number c) n = let e = placed_in p (type_in n) (Literal c) in omega arith
few_in names p (tree.Input i) n = omega arith
few_in names p (tree.Unary f t) (One a n) = let e = unary_in names p f a (type_in n) (lower names (operand_place f p) t n) in let r = few_in names (operand_place f p) t n in omega arith
few_in names p (tree.Binary f t u) (Two a n m) =
    let e = binary_in p f a (type_in n) (type_in m) (lower names (binary_place f) t n) (lower names (binary_place f) u m) in
    let r = few_in names (binary_place f) t n in
    let s = few_in names (binary_place f) u m in
    omega arith
few_in names p (tree.Select t u w) (Three a n m k) = let e = placed_in p a (Select (lower names Element t n) (lower names Element u m) (lower names Element w k)) in omega arith
few_in names p (tree.Let v b) (Two a n m) =
    let e = let_in p a (type_in n) (lower names (value_place n) v n) (lower names (body_place p a) b m) in
    let r = few_in names (value_place n) v n in
    let s = few_in names (body_place p a) b m in
    omega arith
few_in names p (tree.Map j xs b) (Two a n m) = let r = few_in names Argument xs n in omega arith
few_in names p (tree.Fold j xs s b) (Three a n m k) = omega arith
few_in names p _ n = omega arith

-- ---- of a map over work-groups, or over rows of these

-- neither a layout, nor a let of an array, nor a map
abbrev IsBare : Lowered → Type 0
IsBare (Reshape y t) = ⊥
IsBare (LetArray v b) = ⊥
IsBare (Map k n loads xs b) = ⊥
IsBare _ = Unit {0}

bare_divided : (v : Bool) (o : Op) (k : ℕ) (x : Lowered) → IsBare (divided v o k x)
bare_divided false o k x = tt
bare_divided true o k x = tt

bare_applied : (v l r : Bool) (o : Op) (x y : Lowered) → IsBare (applied v l r o x y)
bare_applied false l r o x y = tt
bare_applied true l r o x y = tt

-- What counts phases on the way down to a map: through layouts and lets, where it has no more of a
-- map than the map has nodes.
module _ (count : Lowered → ℕ) (bare : (x : Lowered) → IsBare x → count x ≤ 0) (reshaped : (y : Layout (List Monomial)) (x : Lowered) → count (Reshape y x) ≤ count x)
    (bound : (v b : Lowered) → count (LetArray v b) ≤ count b)
    (map : (names : List Name) (j : MapKind) (xs b : Tree) (a : PlainTy) (n m : Annotation) → count (lower names Written (tree.Map j xs b) (Two a n m)) ≤ nodes (tree.Map j xs b)) where
  element_of : (p : Place) (a : PlainTy) (x : Lowered) → IsBare x → count (placed p a x) ≤ 0
  element_of Written a x e = bare (Store (element_ty a) x) tt
  element_of Argument a x e = bare x e
  element_of Element a x e = bare x e

  placed_of : (p : Place) (a : PlainTy) (x : Lowered) → count (placed p a x) ≤ count x
  placed_of Written a x = let e = bare (Store (element_ty a) x) tt in omega arith
  placed_of Argument a x = omega arith
  placed_of Element a x = omega arith

  unary_of : (names : List Name) (p : Place) (f : UnaryForm) (a b : PlainTy) (x : Lowered) → count (lower_unary names p f a b x) ≤ count x
  unary_of names p (unary.Div k) a b x = let e = element_of p a (divided (is_vector a) Div k x) (bare_divided (is_vector a) Div k x) in omega arith
  unary_of names p (unary.Rem k) a b x = let e = element_of p a (divided (is_vector a) Rem k x) (bare_divided (is_vector a) Rem k x) in omega arith
  unary_of names p unary.First a b x = let e = element_of p a (lower_unary names Element unary.First a b x) tt in omega arith
  unary_of names p unary.Second a b x = let e = element_of p a (lower_unary names Element unary.Second a b x) tt in omega arith
  unary_of names p unary.ToPrivate a b x = let e = bare (lower_unary names p unary.ToPrivate a b x) tt in omega arith
  unary_of names p unary.ToLocal a b x = let e = bare (lower_unary names p unary.ToLocal a b x) tt in omega arith
  unary_of names p unary.Then a b x = let e = bare (Literal 0) tt in omega arith
  unary_of names p (unary.Layout l) a b x = through_layout (λ u. count u ≤ count x) (λ y u i h. let e = reshaped y u in omega arith) names p l a b x (omega arith)
  unary_of names p (unary.Slide s k) a b x = reshaped _ x
  unary_of names p (unary.Pad s k) a b x = reshaped _ x

  binary_of : (p : Place) (f : BinaryForm) (a b c : PlainTy) (x y : Lowered) → count (lower_binary p f a b c x y) ≤ 0
  binary_of p (binary.Operator o) a b c x y = element_of p a (applied (is_vector a) (is_vector b) (is_vector c) (scalar_op o) x y) (bare_applied (is_vector a) (is_vector b) (is_vector c) (scalar_op o) x y)
  binary_of p binary.Pair a b c x y = element_of p a (Both false x y) tt
  binary_of p binary.Zip a b c x y = bare (Both true x y) tt
  binary_of p (binary.Reduce o) a b c x y = bare (Literal 0) tt

  let_of : (p : Place) (a c : PlainTy) (v b : Lowered) → count (placed_element p a (lower_let c v b)) ≤ count b
  let_of p a c v b = go (is_element a) (is_element c)
    where
      go : (x y : Bool) → count (let whole = if y then LetElement (element_ty c) v b else LetArray v b in if x then placed p a whole else whole) ≤ count b
      go true true = let e = element_of p a (LetElement (element_ty c) v b) tt in omega arith
      go true false = let e = placed_of p a (LetArray v b) in let r = bound v b in omega arith
      go false true = let e = bare (LetElement (element_ty c) v b) tt in omega arith
      go false false = bound v b

  few_of : (names : List Name) (p : Place) (t : Tree) (n : Annotation) → count (lower names p t n) ≤ nodes t
  few_of names p (tree.Variable v) n = let e = element_of p (type_in n) (Bound v) tt in omega arith
  few_of names p (tree.Number c) n = let e = element_of p (type_in n) (Literal c) tt in omega arith
  few_of names p (tree.Input i) n = let e = bare (Source i) tt in omega arith
  few_of names p (tree.Unary f t) (One a n) = let e = unary_of names p f a (type_in n) (lower names (operand_place f p) t n) in let r = few_of names (operand_place f p) t n in omega arith
  few_of names p (tree.Binary f t u) (Two a n m) = let e = binary_of p f a (type_in n) (type_in m) (lower names (binary_place f) t n) (lower names (binary_place f) u m) in omega arith
  few_of names p (tree.Select t u w) (Three a n m k) = let e = element_of p a (Select (lower names Element t n) (lower names Element u m) (lower names Element w k)) tt in omega arith
  few_of names p (tree.Let v b) (Two a n m) =
      let e = let_of p a (type_in n) (lower names (value_place n) v n) (lower names (body_place p a) b m) in
      let s = few_of names (body_place p a) b m in
      omega arith
  few_of names p (tree.Map j xs b) (Two a n m) = map names j xs b a n m
  few_of names p (tree.Fold j xs s b) (Three a n m k) = let e = bare (lower names p (tree.Fold j xs s b) (Three a n m k)) tt in omega arith
  few_of names p _ n = let e = bare (Literal 0) tt in omega arith

bare_count : (x : Lowered) → IsBare x → phase_count x ≤ 0
bare_count (Reshape y t) e = absurd e
bare_count (LetArray v b) e = absurd e
bare_count (Map k n loads xs b) e = absurd e
bare_count _ e = omega arith

bare_along : (x : Lowered) → IsBare x → phases_along x ≤ 0
bare_along (Reshape y t) e = absurd e
bare_along (LetArray v b) e = absurd e
bare_along (Map k n loads xs b) e = absurd e
bare_along _ e = omega arith

bare_grid : (x : Lowered) → IsBare x → grid_phase_count x ≤ 0
bare_grid (Reshape y t) e = absurd e
bare_grid (LetArray v b) e = absurd e
bare_grid (Map k n loads xs b) e = absurd e
bare_grid _ e = omega arith

along : (names : List Name) (t : Tree) (n : Annotation) → phases_along (lower names Written t n) ≤ nodes t
along names t n = few_of phases_along bare_along (λ y x. omega arith) (λ v b. omega arith) (λ names j xs b a n m. let r = few_in names Written b m in omega arith) names Written t n

pub phases_are_few : PhasesAreFew
phases_are_few names t n = few_of phase_count bare_count (λ y x. omega arith) (λ v b. omega arith) (λ names j xs b a n m. let r = few_in names Written b m in omega arith) names Written t n

pub grid_phases_are_few : GridPhasesAreFew
grid_phases_are_few names t n = few_of grid_phase_count bare_grid (λ y x. omega arith) (λ v b. omega arith) (λ names j xs b a n m. let r = along names b m in omega arith) names Written t n
