use Rattle.std.proofs.Common.{◌≡◌, ◌∙◌, ◌/◌, ◌%◌, ◌∷◌, ℕ, true, false, ap, sym, subst, arith}
use Rattle.lift_tree.specs.declared.term.UnaryForm.TheVariants.{Layout}
use Rattle.lift_tree.specs.Annotations.{One, Two, annotation_of, type_in}
use Rattle.lift_tree.specs.Tree.{Let, Map, Unary, tree_of}
use Rattle.lift_tree.specs.Types.{ty_of, is_element}
use Rattle.lift_ir.specs.Lowering.{kind_of}
use Rattle.launch_lengths.specs.Bases.{bases_of}
use Rattle.output_owner.specs.Owners.{HaveOneOwner, map_over, position, written}
use Rattle.output_owner.specs.Written.{IsScalarOf}
use Rattle.output_owner.proofs.Through.{FoundOn, NoneOn, Steps, found_on, is_no_layout, map_body, map_found, none_in_row, of_bound_element, of_element, of_component, of_equal, of_no_layout, scalar_on, step_of, through, through_let}
use Rattle.output_owner.proofs.walk.+on_top.Goals as goal

pub returns-then-is_element-clause-scalar : goal.returns-then-is_element-clause-scalar
returns-then-is_element-clause-scalar t c =
    let names = c.args.names.now in
    let sizes = c.args.sizes.now in
    let v = tree_of c.in-Let.field-0.value in
    let b = tree_of c.in-Let.body.value in
    let a = ty_of c.in-Two.ty in
    let n = annotation_of c.in-Two.n.value in
    let m = annotation_of c.in-Two.m.value in
    let k = c.args.number in
    let tested = c.is_element.ensures in
    let yes = c.if-is_element.true in
    let e : is_element a ≡ true = cc in
    of_equal names sizes (NoneOn names sizes k) (tree_of c.args.term.now) (Let v b) (annotation_of c.args.types.now) (Two a n m) (ap tree_of c.in-Let.is) (ap annotation_of c.in-Two.is)
    (λ s. of_element names (bases_of names sizes) v b a n m _ e)

pub returns-then-is_element-2-clause-scalar : goal.returns-then-is_element-2-clause-scalar
returns-then-is_element-2-clause-scalar t c =
    let names = c.args.names.now in
    let sizes = c.args.sizes.now in
    let v = tree_of c.in-Let.field-0.value in
    let b = tree_of c.in-Let.body.value in
    let a = ty_of c.in-Two.ty in
    let n = annotation_of c.in-Two.n.value in
    let m = annotation_of c.in-Two.m.value in
    let k = c.args.number in
    let tested = c.is_element.ensures in
    let no = c.if-is_element.false in
    let e : is_element a ≡ false = cc in
    let value = rw (c.own_type-in-Two.ensures, c.deref-in-Two.ensures) at c.is_element-in-Two.ensures in
    let yes = c.if-is_element-2.true in
    let f : is_element (type_in n) ≡ true = cc in
    of_equal names sizes (NoneOn names sizes k) (tree_of c.args.term.now) (Let v b) (annotation_of c.args.types.now) (Two a n m) (ap tree_of c.in-Let.is) (ap annotation_of c.in-Two.is)
    (λ s. of_bound_element names (bases_of names sizes) v b a n m _ e f)

pub returns-in-Layout-clause-scalar : goal.returns-in-Layout-clause-scalar
returns-in-Layout-clause-scalar t c =
    let names = c.args.names.now in
    let sizes = c.args.sizes.now in
    let l = c.in-Layout.layout in
    let u = tree_of c.in-Unary.a.value in
    let a = ty_of c.in-One.field-0 in
    let n = annotation_of c.in-One.n.value in
    let k = c.args.number in
    let j = c.in_operand-number.result in
    let told = rw (c.own_type.ensures, c.deref.ensures) at c.in_operand-number.ensures in
    let step : IsScalarOf names sizes (Unary (Layout l) u) (One a n) k → Steps names sizes (Unary (Layout l) u) (One a n) k u n j =
    (λ s. subst (λ (i : ℕ). Steps names sizes (Unary (Layout l) u) (One a n) k u n i) (sym (told (of_component names sizes l u a n k s) (step_of names sizes l u a n k s))) (through names sizes l u a n k s)) in
    of_equal names sizes (FoundOn names sizes c.on_top.result k) (tree_of c.args.term.now) (Unary (Layout l) u) (annotation_of c.args.types.now) (One a n) (ap tree_of c.in-Unary.is ∙ ap (λ f. Unary f u) c.in-Layout.is) (ap annotation_of c.in-One.is)
    (found_on names sizes (Unary (Layout l) u) (One a n) k u n j c.on_top.result step (rw (c.deref-in-Layout.ensures, c.deref-in-Layout-2.ensures) at c.on_top.ensures.scalar))

pub returns-in-Layout-clause-body : goal.returns-in-Layout-clause-body
returns-in-Layout-clause-body t c =
    let names = c.args.names.now in
    let sizes = c.args.sizes.now in
    let l = c.in-Layout.layout in
    let u = tree_of c.in-Unary.a.value in
    let a = ty_of c.in-One.field-0 in
    let n = annotation_of c.in-One.n.value in
    let k = c.args.number in
    let j = c.in_operand-number.result in
    let told = rw (c.own_type.ensures, c.deref.ensures) at c.in_operand-number.ensures in
    let step : IsScalarOf names sizes (Unary (Layout l) u) (One a n) k → Steps names sizes (Unary (Layout l) u) (One a n) k u n j =
    (λ s. subst (λ (i : ℕ). Steps names sizes (Unary (Layout l) u) (One a n) k u n i) (sym (told (of_component names sizes l u a n k s) (step_of names sizes l u a n k s))) (through names sizes l u a n k s)) in
    rw (c.in-Unary.is, c.in-Layout.is, c.in-One.is)
    (scalar_on names sizes (Unary (Layout l) u) (One a n) k u n j c.on_top.result (λ top. IsScalarOf names sizes (tree_of top.body.now) (annotation_of top.types.now) top.number) step (rw (c.deref-in-Layout.ensures, c.deref-in-Layout-2.ensures) at c.on_top.ensures.body))

pub returns-in-Div-clause-scalar : goal.returns-in-Div-clause-scalar
returns-in-Div-clause-scalar t c =
    let names = c.args.names.now in
    let sizes = c.args.sizes.now in
    let u = tree_of c.in-Unary.a.value in
    let a = ty_of c.in-One.field-0 in
    let n = annotation_of c.in-One.n.value in
    of_equal names sizes (NoneOn names sizes c.args.number) (tree_of c.args.term.now) (Unary c.in-Unary.form u) (annotation_of c.args.types.now) (One a n) (ap tree_of c.in-Unary.is) (ap annotation_of c.in-One.is)
    (of_no_layout names sizes c.in-Unary.form u a n c.args.number (is_no_layout names sizes c.in-Unary.form c.in-Div.is))

pub returns-else-is_element-2-clause-scalar : goal.returns-else-is_element-2-clause-scalar
returns-else-is_element-2-clause-scalar t c =
    let names = c.args.names.now in
    let sizes = c.args.sizes.now in
    let v = tree_of c.in-Let.field-0.value in
    let b = tree_of c.in-Let.body.value in
    let a = ty_of c.in-Two.ty in
    let n = annotation_of c.in-Two.n.value in
    let m = annotation_of c.in-Two.m.value in
    let k = c.args.number in
    let tested = c.is_element.ensures in
    let no = c.if-is_element.false in
    let e : is_element a ≡ false = cc in
    let value = rw (c.own_type-in-Two.ensures, c.deref-in-Two.ensures) at c.is_element-in-Two.ensures in
    let neither = c.if-is_element-2.false in
    let f : is_element (type_in n) ≡ false = cc in
    of_equal names sizes (FoundOn names sizes c.on_top-in-Two.result k) (tree_of c.args.term.now) (Let v b) (annotation_of c.args.types.now) (Two a n m) (ap tree_of c.in-Let.is) (ap annotation_of c.in-Two.is)
    (found_on names sizes (Let v b) (Two a n m) k b m k c.on_top-in-Two.result (λ s. through_let names sizes v b a n m k s e f) (rw (c.deref-in-Two-2.ensures, c.deref-in-Two-3.ensures) at c.on_top-in-Two.ensures.scalar))

pub returns-else-is_element-2-clause-body : goal.returns-else-is_element-2-clause-body
returns-else-is_element-2-clause-body t c =
    let names = c.args.names.now in
    let sizes = c.args.sizes.now in
    let v = tree_of c.in-Let.field-0.value in
    let b = tree_of c.in-Let.body.value in
    let a = ty_of c.in-Two.ty in
    let n = annotation_of c.in-Two.n.value in
    let m = annotation_of c.in-Two.m.value in
    let k = c.args.number in
    let tested = c.is_element.ensures in
    let no = c.if-is_element.false in
    let e : is_element a ≡ false = cc in
    let value = rw (c.own_type-in-Two.ensures, c.deref-in-Two.ensures) at c.is_element-in-Two.ensures in
    let neither = c.if-is_element-2.false in
    let f : is_element (type_in n) ≡ false = cc in
    rw (c.in-Let.is, c.in-Two.is)
    (scalar_on names sizes (Let v b) (Two a n m) k b m k c.on_top-in-Two.result (λ top. IsScalarOf names sizes (tree_of top.body.now) (annotation_of top.types.now) top.number) (λ s. through_let names sizes v b a n m k s e f) (rw (c.deref-in-Two-2.ensures, c.deref-in-Two-3.ensures) at c.on_top-in-Two.ensures.body))

pub returns-then-row-eq0-clause-scalar : goal.returns-then-row-eq0-clause-scalar
returns-then-row-eq0-clause-scalar t c =
    let names = c.args.names.now in
    let sizes = c.args.sizes.now in
    let xs = tree_of c.in-Map.field-1.value in
    let b = tree_of c.in-Map.body.value in
    let a = ty_of c.in-Two-types.field-0 in
    let n = annotation_of c.in-Two-types.field-1.value in
    let m = annotation_of c.in-Two-types.m.value in
    let k = c.args.number in
    let row = c.scalars-row.result in
    let told = rw (c.own_type-in-Two-types.ensures, c.deref-in-Two-types.ensures) at c.scalars-row.ensures in
    let yes = c.if-row-eq0.true in
    let e : row ≡ 0 = omega (arith, yes) in
    of_equal names sizes (NoneOn names sizes k) (tree_of c.args.term.now) (Map c.in-Map.kind xs b) (annotation_of c.args.types.now) (Two a n m) (ap tree_of c.in-Map.is) (ap annotation_of c.in-Two-types.is)
    (none_in_row names sizes c.in-Map.kind xs b a n m k row told e)

pub returns-else-row-eq0-clause-scalar : goal.returns-else-row-eq0-clause-scalar
returns-else-row-eq0-clause-scalar t c =
    let names = c.args.names.now in
    let sizes = c.args.sizes.now in
    let xs = tree_of c.in-Map.field-1.value in
    let b = tree_of c.in-Map.body.value in
    let a = ty_of c.in-Two-types.field-0 in
    let n = annotation_of c.in-Two-types.field-1.value in
    let m = annotation_of c.in-Two-types.m.value in
    let k = c.args.number in
    let row = c.scalars-row.result in
    let told = rw (c.own_type-in-Two-types.ensures, c.deref-in-Two-types.ensures) at c.scalars-row.ensures in
    rw (c.deref-in-Two-types-2.ensures, c.deref-in-Two-types-3.ensures)
    (of_equal names sizes (λ x y. IsScalarOf names sizes x y k → HaveOneOwner (bases_of names sizes) (written names x y) (position (bases_of names sizes) y k) (map_over (kind_of c.in-Map.kind) (written names b m)) (k / row ∷ position (bases_of names sizes) m (k % row))) (tree_of c.args.term.now) (Map c.in-Map.kind xs b) (annotation_of c.args.types.now) (Two a n m) (ap tree_of c.in-Map.is) (ap annotation_of c.in-Two-types.is)
    (map_found names sizes c.in-Map.kind xs b a n m k row told))

pub returns-else-row-eq0-clause-body : goal.returns-else-row-eq0-clause-body
returns-else-row-eq0-clause-body t c =
    let names = c.args.names.now in
    let sizes = c.args.sizes.now in
    let xs = tree_of c.in-Map.field-1.value in
    let b = tree_of c.in-Map.body.value in
    let a = ty_of c.in-Two-types.field-0 in
    let n = annotation_of c.in-Two-types.field-1.value in
    let m = annotation_of c.in-Two-types.m.value in
    let k = c.args.number in
    let row = c.scalars-row.result in
    let told = rw (c.own_type-in-Two-types.ensures, c.deref-in-Two-types.ensures) at c.scalars-row.ensures in
    rw (c.deref-in-Two-types-2.ensures, c.deref-in-Two-types-3.ensures)
    (of_equal names sizes (λ x y. IsScalarOf names sizes x y k → IsScalarOf names sizes b m (k % row)) (tree_of c.args.term.now) (Map c.in-Map.kind xs b) (annotation_of c.args.types.now) (Two a n m) (ap tree_of c.in-Map.is) (ap annotation_of c.in-Two-types.is)
    (map_body names sizes c.in-Map.kind xs b a n m k row told))
