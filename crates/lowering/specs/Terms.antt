-- What the Rust tree of the intermediate representation stands for.
use Rattle.std.specs.Prelude.{List, [], true, false}
use Rattle.size_arith.specs.declared.poly.Monomial.{Monomial}
use Rattle.lift_tree.specs.Types.{ty_of}
use Rattle.lift_ir.specs.AtLaunch.{ty_at, layout_of}
use Rattle.lift_ir.specs.Layouts as layouts
use Rattle.lift_ir.specs.Terms as terms
use Rattle.lift_ir.specs.Lowering.{Lowered, element_ty}
use Rattle.lowering.specs.declared.term.Kind.{Kind}
use Rattle.lowering.specs.declared.term.Kind.TheVariants as kind
use Rattle.lowering.specs.declared.term.Space.{Space}
use Rattle.lowering.specs.declared.term.Space.TheVariants as space
use Rattle.lowering.specs.declared.term.LoadSet.{LoadSet}
use Rattle.lowering.specs.declared.term.LoadSet as load_set
use Rattle.lowering.specs.declared.term.Layout.{Layout}
use Rattle.lowering.specs.declared.term.Map.{Map}
use Rattle.lowering.specs.declared.term.Fold.{Fold}
use Rattle.lowering.specs.declared.term.Term.{Term}
use Rattle.lowering.specs.declared.term.Term as term

-- how a map is run
abbrev pub kind_of : Kind → terms.Kind
kind_of (kind.Over l d) = terms.Over l d
kind_of kind.Sequential = terms.Sequential

-- where a copy lies
abbrev pub space_of : Space → terms.Space
space_of space.Local = terms.LocalMemory
space_of space.Private = terms.PrivateMemory

-- which scalars of a bound element are loaded
abbrev pub load_set_of : LoadSet → terms.LoadSet
load_set_of load_set.Skip = terms.Skip
load_set_of load_set.Take = terms.Take
load_set_of load_set.TakeFour = terms.TakeFour
load_set_of (load_set.Each' p a q b) = terms.Each (load_set_of a) (load_set_of b)

-- the layout of a form over an operand, its lengths polynomials
abbrev pub layout_in : Layout → layouts.Layout (List Monomial)
layout_in l = layout_of l.form (ty_of l.ty) (ty_of l.operand)

-- the term that a tree stands for
abbrev pub term_of : Term → Lowered
term_of (term.Literal n) = terms.Literal n
term_of (term.Bound v) = terms.Bound v
term_of (term.Source v) = terms.Source v
term_of (term.Apply' o p a q b) = terms.Apply o (term_of a) (term_of b)
term_of (term.ApplyNumber' o n p a) = terms.ApplyNumber o n (term_of a)
term_of (term.ApplyLanes' o l r p a q b) = terms.ApplyLanes o l r (term_of a) (term_of b)
term_of (term.DivideLanes' o n p a) = terms.DivideLanes o n (term_of a)
term_of (term.Select' p c q a r b) = terms.Select (term_of c) (term_of a) (term_of b)
term_of (term.Pair' p a q b) = terms.Both false (term_of a) (term_of b)
term_of (term.Zip' p a q b) = terms.Both true (term_of a) (term_of b)
term_of (term.First' p a) = terms.Project false (term_of a)
term_of (term.Second' p a) = terms.Project true (term_of a)
term_of (term.Reshape' l p a) = terms.Reshape (layout_in l) (term_of a)
term_of (term.LetArray' p v q b) = terms.LetArray (term_of v) (term_of b)
term_of (term.LetElement' t p v q b) =
    terms.LetElement (element_ty (ty_of t)) (term_of v) (term_of b)
term_of (term.Map' p k n loads xs b) =
    terms.Map (kind_of k) n (load_set_of loads) (term_of xs) (term_of b)
term_of (term.Fold' p n loads t xs s b) =
    terms.Fold n (load_set_of loads) (element_ty (ty_of t)) (term_of xs) (term_of s) (term_of b)
term_of (term.Store' t p a) = terms.Store (element_ty (ty_of t)) (term_of a)
term_of (term.Copy' s t p a) = terms.Copy (space_of s) (ty_at [] (ty_of t)) (term_of a)

-- a map
abbrev pub map_of : Map → Lowered
map_of m =
    terms.Map (kind_of m.kind) m.length (load_set_of m.loads) (term_of m.array) (term_of m.body)

-- a fold
abbrev pub fold_of : Fold → Lowered
fold_of f =
    terms.Fold f.length (load_set_of f.loads) (element_ty (ty_of f.accumulator)) (term_of f.array)
    (term_of f.start) (term_of f.body)
