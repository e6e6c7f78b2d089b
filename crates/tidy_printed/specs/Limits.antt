-- How many nodes each index and each bound of a term's kernel may have: an index as many as the
-- formulas of its array and of the layouts around it put into one another, an offset of four as
-- many as the vector's index or as its first scalar's by 4, a bound as many as its length. They
-- stand in the order of the kernel's statements.
use Rattle.std.specs.Prelude.{ℕ, ◌+◌, max, Bool, true, false, List, [], ◌∷◌, Option, Some, None, option_map}
use Rattle.lift_tree.specs.Annotations.{Annotation, type_in}
use Rattle.lift_tree.specs.Tree.{Tree}
use Rattle.lift_tree.specs.Typing.{Declared}
use Rattle.lift_tree.specs.declared.term.Level.TheVariants.{Launch, Groups, Items}
use Rattle.lift_ir.specs.AtLaunch.{shape_of}
use Rattle.lift_ir.specs.Layouts.{Layout, Split, Join}
use Rattle.lift_ir.specs.Types.{Shape, Ty, Scalar, PairOf, ArrayOf}
use Rattle.lift_ir.specs.Standing.{Standing, stands_for}
use Rattle.lift_ir.specs.Terms.{LoadSet, Skip, Take, TakeFour, Each, Kind, Over, Sequential, Term, Both, Project, Reshape, LetArray, LetElement, Map, Fold, Store, Copy, push}
use Rattle.lift_ir.specs.Scalars.{by_side}
use Rattle.index_expr.specs.Expression.{Expression, Literal, short_nodes}
use Rattle.length_spelling.specs.Formulas.{spelled_length}
use Rattle.printed_form.specs.MapForms.{MapForm, Looped, Guarded, Alone, form_over_groups}
use Rattle.printed_form.specs.Programs.{input_shape, lowered_root}
use Rattle.array_views.specs.Arrays.{spelled_shape}
use Rattle.array_views.specs.Layouts.{spelled_layout}
use Rattle.array_views.specs.NodeCounts.{node_counts, operand_nodes, result_nodes, placed_nodes}
use Rattle.group_form.specs.GridChosen.{grid_forms_of}
use Rattle.group_form.specs.GridTerms.{GridForms, forms_along}

-- how many nodes the index of a scalar, or the offset of a vector, may have, by its pair choices
-- and the nodes of the indices; none where no array holds it
abbrev pub IndexNodes : Type 0
IndexNodes = List Bool → List ℕ → Option ℕ

-- no array holds any scalar
abbrev pub no_index : IndexNodes
no_index = λ cs ns. None

-- of an element whose index is a variable or a number: one node
abbrev pub at_one_node : IndexNodes → IndexNodes
at_one_node x = λ cs ns. x cs (1 ∷ ns)

-- of an element, these of whose scalars variables hold
abbrev pub after_loads : LoadSet → IndexNodes → IndexNodes
after_loads Skip x = x
after_loads Take x = no_index
after_loads TakeFour x = no_index
after_loads (Each a b) x =
    by_side (λ ns. None) (after_loads a (λ cs. x (false ∷ cs)))
    (after_loads b (λ cs. x (true ∷ cs)))

-- the limit of a load or a store, and then these
abbrev pub index_limit : Option ℕ → (after : List ℕ) → List ℕ
index_limit None after = after
index_limit (Some n) after = n ∷ after

-- one store for each component, of four words for a vector
abbrev pub store_limits : Ty → IndexNodes → (after : List ℕ) → List ℕ
store_limits Scalar to after = index_limit (to [] []) after
store_limits (PairOf a b) to after =
    store_limits a (λ cs. to (false ∷ cs)) (store_limits b (λ cs. to (true ∷ cs)) after)
store_limits (ArrayOf m t) to after = index_limit (to [] []) after

-- one load for each of these components, of four words for a vector
abbrev pub load_limits : LoadSet → IndexNodes → (after : List ℕ) → List ℕ
load_limits Skip x after = after
load_limits Take x after = index_limit (x [] []) after
load_limits TakeFour x after = index_limit (x [] []) after
load_limits (Each a b) x after =
    load_limits a (λ cs. x (false ∷ cs)) (load_limits b (λ cs. x (true ∷ cs)) after)

-- a loop and an `if` have a bound
abbrev pub bound_limit : MapForm → (length : ℕ) → (after : List ℕ) → List ℕ
bound_limit Looped n after = n ∷ after
bound_limit Guarded n after = n ∷ after
bound_limit Alone n after = after

-- of a map of a kind
abbrev pub form_of_map : {A : Type 0} → GridForms A → Kind → A → MapForm
form_of_map forms (Over Launch d) n = Looped
form_of_map forms (Over Groups d) n = form_over_groups ((forms_along forms d).once n)
form_of_map forms (Over Items d) n = (forms_along forms d).local n
form_of_map forms Sequential n = Looped

-- in arrays of this type, where lengths are spelled so
abbrev pub array_nodes : {A : Type 0} → (A → Expression) → Shape A → IndexNodes
array_nodes spell t = λ cs ns. Some (placed_nodes short_nodes (spelled_shape spell t) ns)

-- the number of the row at an index, of cells that stand so: the index, or that of the row's first
-- cell by its length
abbrev pub row_through : (length index : ℕ) → (cells : List ℕ → Option ℕ) → Option ℕ
row_through m n x =
    option_map (λ first. max n (first + m + 1)) (x (node_counts.cell n m 1 ∷ []))

-- and of a value that is read through a layout, from its result to its operand; a row is asked for
-- whole where it is a vector
abbrev pub read_through : {A : Type 0} → (A → Expression) → Layout A → IndexNodes → IndexNodes
read_through spell (Split m) x cs (n ∷ []) = row_through (short_nodes (spell m)) n (x cs)
read_through spell y x cs ns = x cs (operand_nodes short_nodes (spelled_layout spell y) ns)

-- and where it is written through one, from its operand to its result
abbrev pub written_through : {A : Type 0} → (A → Expression) → Layout A → IndexNodes → IndexNodes
written_through spell (Join m) to cs (n ∷ []) = row_through (short_nodes (spell m)) n (to cs)
written_through spell y to cs ns = to cs (result_nodes short_nodes (spelled_layout spell y) ns)

-- lengths are spelled so, maps have these forms, and inputs these types
module _ {A : Type 0} (spell : A → Expression) (forms : GridForms A) (src : ℕ → Shape A) where
  -- an input's scalars lie as its type has them, and a copy's as its own has
  abbrev pub nodes_standing : Standing A IndexNodes
  nodes_standing = record {
    source = λ input. array_nodes spell (src input);
    both = by_side (λ ns. None);
    side = λ second x cs ns. x (second ∷ cs) ns;
    through = read_through spell;
    in_let = λ x. x;
    copy = λ number space ty. array_nodes Literal ty;
    nothing = no_index;
  }

  -- what an argument's scalars may have, where the binders' have these
  abbrev pub argument_nodes : (ℕ → IndexNodes) → Term A → IndexNodes
  argument_nodes env t = stands_for nodes_standing (λ x. 0) env 0 t

  -- the element of an array at a turn of a map or a fold over it
  abbrev pub element_nodes : (ℕ → IndexNodes) → (array : Term A) → IndexNodes
  element_nodes env xs = at_one_node (argument_nodes env xs)

  abbrev mutual
    -- the limits of the statements of an argument, which are those of its copies, and then these
    pub argument_limits : (ℕ → IndexNodes) → Term A → (after : List ℕ) → List ℕ
    argument_limits env (Both zips x y) after =
        argument_limits env x (argument_limits env y after)
    argument_limits env (Project s x) after = argument_limits env x after
    argument_limits env (Reshape y x) after = argument_limits env x after
    argument_limits env (LetArray v b) after =
        argument_limits env v (argument_limits (push (argument_nodes env v) env) b after)
    argument_limits env (Copy space ty x) after =
        written_limits env x (array_nodes Literal ty) after
    argument_limits env _ after = after

    -- and of a term in writing position, whose scalars go there
    pub written_limits : (ℕ → IndexNodes) → Term A → (to : IndexNodes) → (after : List ℕ) → List ℕ
    written_limits env (Store ty x) to after = store_limits ty to after
    written_limits env (Reshape y x) to after =
        written_limits env x (written_through spell y to) after
    written_limits env (LetArray v b) to after =
        argument_limits env v (written_limits (push (argument_nodes env v) env) b to after)
    written_limits env (LetElement ty v b) to after = written_limits (push no_index env) b to after
    written_limits env (Map kind n loads xs b) to after =
        argument_limits env xs
        (bound_limit (form_of_map forms kind n) (short_nodes (spell n))
        (load_limits loads (element_nodes env xs)
        (written_limits (push (after_loads loads (element_nodes env xs)) env) b (at_one_node to)
        after)))
    written_limits env (Fold n loads ty xs s b) to after =
        argument_limits env xs
        (short_nodes (spell n)
        ∷ load_limits loads (element_nodes env xs) (store_limits ty (at_one_node to) after))
    written_limits env _ to after = after

-- of a program's typed term, where this local size is fixed
abbrev pub limits_of : Declared → (local : Option (ℕ × ℕ)) → Tree → Annotation → List ℕ
limits_of d local t a =
    written_limits (spelled_length d.names) (grid_forms_of d.names local) (input_shape d.inputs)
    (λ v. no_index) (lowered_root d.names t a)
    (array_nodes (spelled_length d.names) (shape_of (type_in a))) []
