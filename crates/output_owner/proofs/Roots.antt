-- The owner of a scalar of a whole term.
use Rattle.std.proofs.Common.{◌≡◌, ℕ, ◌+◌, ◌*◌, ◌%◌, ◌<◌, ◌≤◌, ◌^◌, List, [], refl, sym, ap, ap₂, ◌∙◌, subst, Option, arith}
use Rattle.std.proofs.lemmas.Nat.{mul-le}
use Rattle.size_arith.specs.declared.names.Name.{Name}
use Rattle.size_arith.specs.Ranges.{Admissible, AreNames, sizes_at}
use Rattle.lift_tree.specs.Annotations.{Annotation, annotation_of, type_in}
use Rattle.lift_tree.specs.Tree.{Tree, tree_of}
use Rattle.lift_tree.specs.Typing.{Declared}
use Rattle.lift_tree.specs.declared.term.Dimension.{Dimension}
use Rattle.lift_tree.specs.declared.term.Dimension.TheVariants.{X, Y}
use Rattle.kernel_tree.specs.Launch.{Launch, IsWhole}
use Rattle.lift_ir.specs.AtLaunch.{length_at}
use Rattle.lift_ir.specs.Owner.{owner, owner_along}
use Rattle.lift_ir.specs.Types.{size}
use Rattle.lift_ir.proofs.Owner.{owner_below}
use Rattle.lift_ir.proofs.Values.{shape_is}
use Rattle.lowered_tree.specs.Around.{at_root}
use Rattle.lowered_tree.specs.Kinds.{asks_of}
use Rattle.lowered_tree.specs.declared.lowered.Lowered.{Lowered}
use Rattle.nest_premises.specs.Laws.{LegalNestsAreUnbroken, LegalTermsCanBeLowered}
use Rattle.printed_form.specs.Programs.{cell_owner, IsLaunchOf}
use Rattle.launch_lengths.specs.Bases.{bases_of}
use Rattle.launch_lengths.specs.Laws.{BasesComeBack}
use Rattle.output_owner.specs.Outputs.{IsLegalFor, cell_count}
use Rattle.output_owner.specs.Owners.{position, written}
use Rattle.output_owner.specs.Written.{IsNumber, IsScalarOf}

module _ (back : BasesComeBack) (lowered : LegalTermsCanBeLowered) (nests : LegalNestsAreUnbroken) (d : Declared) (l : Lowered) (launch : Launch) (bases : List ℕ) (cell : ℕ) (is : IsLegalFor d l) (local : Option (ℕ × ℕ)) (here : IsLaunchOf d (asks_of local (tree_of l.term)) bases (tree_of l.term) (annotation_of l.types) launch) where
  ok : Admissible l.names bases
  ok = subst (λ (ns : List Name). Admissible ns bases) is.names here.admissible.sizes

  same_bases : bases_of l.names launch.sizes ≡ bases
  same_bases =
      ap (bases_of l.names) (here.sizes ∙ ap (λ (ns : List Name). sizes_at ns bases) is.names)
      ∙ back l.names bases (subst AreNames is.names is.legal.declared.names) ok

  few : cell_count bases l < 2 ^ 31
  few = subst (λ z. size z < 2 ^ 31) (shape_is bases (type_in (annotation_of l.types))) ((lowered d (tree_of l.term) (annotation_of l.types) is.legal is.copies).fits bases here.admissible.sizes).0.small

  pub of_root : cell < cell_count bases l → IsScalarOf l.names launch.sizes (tree_of l.term) (annotation_of l.types) cell
  of_root below = record {
    admissible = subst (Admissible l.names) (sym same_bases) ok;
    exact = subst (λ (b : List ℕ). launch.sizes ≡ sizes_at l.names b) (sym same_bases) (here.sizes ∙ ap (λ (ns : List Name). sizes_at ns bases) is.names);
    term = record {
      declared = d;
      same = is.names;
      proper = is.legal.declared;
      binders = [];
      formed = tt;
      nodes = is.legal.nodes;
      around = at_root (tree_of l.term);
      written = refl;
      unbroken = nests (tree_of l.term) (annotation_of l.types) is.legal.legal;
    };
    scalar = subst (λ (b : List ℕ). IsNumber b (annotation_of l.types) cell) (sym same_bases) (record { few = few; below = below });
  }

  abbrev term : Tree
  term = tree_of l.term

  abbrev types : Annotation
  types = annotation_of l.types

  abbrev scalar : List ℕ
  scalar = position bases types cell

  -- where the item is along a dimension, as it is told for these names
  pub place : (dimension : Dimension) (names : List Name) (item : ℕ) → names ≡ l.names
      → (IsScalarOf names launch.sizes term types cell
      → item ≡ owner_along dimension (length_at (bases_of names launch.sizes)) launch (written names term types) (position (bases_of names launch.sizes) types cell))
      → cell < cell_count bases l → item ≡ owner_along dimension (length_at bases) launch (written l.names term types) scalar
  place dimension names item e told below =
      let s = of_root below in
      let h =
      subst (λ (ns : List Name). IsScalarOf ns launch.sizes term types cell → item ≡ owner_along dimension (length_at (bases_of ns launch.sizes)) launch (written ns term types) (position (bases_of ns launch.sizes) types cell)) e
      told in
      subst (λ (b : List ℕ). item ≡ owner_along dimension (length_at b) launch (written l.names term types) (position b types cell)) same_bases (h s)

  -- the item in a column and in a row, in 32 bits
  pub item_is : (column row : ℕ) → IsWhole launch → 0 < launch.global.0 → 0 < launch.global.1
      → column ≡ owner_along X (length_at bases) launch (written l.names term types) scalar → row ≡ owner_along Y (length_at bases) launch (written l.names term types) scalar
      → (column + row * launch.global.0 % 4294967296) % 4294967296 ≡ owner (length_at bases) launch (written l.names term types) scalar
  item_is column row whole some rows h k =
      let is : column + row * launch.global.0 ≡ owner (length_at bases) launch (written l.names term types) scalar = ap₂ (λ x y. x + y * launch.global.0) h k in
      let least : 1 * 1 ≤ launch.global.0 * launch.global.1 = mul-le 1 1 launch.global.0 launch.global.1 some rows in
      let low = owner_below (length_at bases) launch (written l.names term types) scalar whole (omega (arith, least)) in
      let most = here.admissible.global_most in
      in_word column (row * launch.global.0) (omega (arith, is, low, most)) ∙ is
    where
      in_word : (x y : ℕ) → x + y < 4294967296 → (x + y % 4294967296) % 4294967296 ≡ x + y
      in_word x y lt = omega arith

-- the names are those of the legal term
pub of_names : (d : Declared) (l : Lowered) (bases : List ℕ) (launch : Launch) (array cell item : ℕ) → IsLegalFor d l
    → item ≡ cell_owner l.names bases launch (tree_of l.term) (annotation_of l.types) array cell → item ≡ cell_owner d.names bases launch (tree_of l.term) (annotation_of l.types) array cell
of_names d l bases launch array cell item is h = subst (λ (ns : List Name). item ≡ cell_owner ns bases launch (tree_of l.term) (annotation_of l.types) array cell) (sym is.names) h
