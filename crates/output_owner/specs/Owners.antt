-- Scalars of one owner.
use Rattle.std.specs.Prelude.{◌≡◌, ℕ, List, [], ◌∷◌}
use Rattle.size_arith.specs.declared.names.Name.{Name}
use Rattle.kernel_tree.specs.Launch.{Launch}
use Rattle.lift_tree.specs.declared.term.Dimension.{Dimension}
use Rattle.lift_tree.specs.declared.term.Dimension.TheVariants.{X, Y}
use Rattle.lift_tree.specs.Annotations.{Annotation, annotation_of, type_in}
use Rattle.lift_tree.specs.Tree.{Tree, tree_of}
use Rattle.lift_ir.specs.AtLaunch.{length_at, ty_at}
use Rattle.lift_ir.specs.Lowering.{Lowered, Written, kind_of, lower}
pub use Rattle.lift_ir.specs.Owner.{local_along, owner_along}
use Rattle.lift_ir.specs.Terms.{Kind, Literal, Map, Skip}
use Rattle.lift_ir.specs.Types.{unflat}
use Rattle.output_owner.specs.declared.walk.OnTop.{OnTop}

-- of sizes along a row and from row to row, that along this dimension
abbrev pub along : Dimension → ℕ × ℕ → ℕ
along X sizes = sizes.0
along Y sizes = sizes.1

-- two scalars have one owner, and are of one item of a group, at every launch
pub record HaveOneOwner (bases : List ℕ) (t : Lowered) (q : List ℕ) (u : Lowered)
    (p : List ℕ) : Type 0 where
  pub item : (d : Dimension) (l : Launch)
      → owner_along d (length_at bases) l t q ≡ owner_along d (length_at bases) l u p
  pub local : (d : Dimension) (l : Launch)
      → local_along d (length_at bases) l t q ≡ local_along d (length_at bases) l u p

-- the position of the scalar of this number
abbrev pub position : (bases : List ℕ) → Annotation → ℕ → List ℕ
position bases n number = unflat (ty_at bases (type_in n)) number

-- what a term that is written is lowered to
abbrev pub written : List Name → Tree → Annotation → Lowered
written names t n = lower names Written t n

-- a map of this kind over anything, with this body
abbrev pub map_over : Kind → Lowered → Lowered
map_over k b = Map k [] Skip (Literal 0) b

-- the scalar is that of the map on top, at its turn
abbrev pub IsOfTop : List Name → (bases : List ℕ) → Tree → Annotation → ℕ → OnTop → Type 0
IsOfTop names bases t n number top =
    HaveOneOwner bases (written names t n) (position bases n number)
    (map_over (kind_of top.kind)
    (written names (tree_of top.body.now) (annotation_of top.types.now)))
    (top.turn ∷ position bases (annotation_of top.types.now) top.number)

-- with no map on top
abbrev pub IsOfNone : List Name → (bases : List ℕ) → Tree → Annotation → ℕ → Type 0
IsOfNone names bases t n number =
    HaveOneOwner bases (written names t n) (position bases n number) (Literal 0) []
