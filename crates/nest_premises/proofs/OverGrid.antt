-- A term without a broken rule, with a map over rows of work-groups on top, stands over a grid.
use Rattle.std.proofs.Common.{◌≡◌, ◌∙◌, Bool, true, false, List, ◌∷◌, None, refl, sym, subst}
use Rattle.std.proofs.lemmas.Bool.{or_right, or_from}
use Rattle.std.specs.Prelude.{◌||◌, not}
use Rattle.lift_tree.specs.declared.term.UnaryForm.TheVariants as unary
use Rattle.lift_tree.specs.declared.term.Dimension.{Dimension}
use Rattle.lift_tree.specs.declared.term.Dimension.TheVariants.{X, Y}
use Rattle.lift_tree.specs.declared.term.Level.{Level}
use Rattle.lift_tree.specs.declared.term.Level.TheVariants.{Launch, Groups, Items}
use Rattle.lift_tree.specs.declared.term.MapKind.TheVariants as map_kind
use Rattle.lift_tree.specs.Tree as tree
use Rattle.lift_tree.specs.Tree.{Tree}
use Rattle.lift_tree.specs.Types.{PlainTy}
use Rattle.lift_tree.specs.Typing.{Declared}
use Rattle.lift_tree.specs.Annotations.{Annotation, Leaf, One, Two, Three, type_in, Annotates}
use Rattle.lift_ir.specs.Lowering.{Lowered, Written, lower}
use Rattle.lift_ir.specs.Terms as low
use Rattle.lift_ir.specs.Lowerable.{IsStaged}
use Rattle.lift_ir.proofs.Lets.{written_let, let_parts}
use Rattle.lift_ir.proofs.Reshaped.{through_layout}
use Rattle.lowered_tree.specs.Around.{Around, passed}
use Rattle.lowered_tree.specs.declared.rule.NestRule.TheVariants.{N14}
use Rattle.lowered_tree.specs.Kind.{nest_kind}
use Rattle.lowered_tree.specs.Kinds.{same_level, has_rows}
use Rattle.lowered_tree.specs.declared.kind.NestKind.TheVariants.{OverGrid}
use Rattle.nest_premises.specs.Unbroken.{AllUnbroken}
use Rattle.group_form.specs.GridTerms.{StandsAlongRow, StandsInGrid, StandsAlongGroups, StandsOverGrid}
use Rattle.nest_premises.proofs.Known.{Known}
use Rattle.nest_premises.proofs.Inputs.{of_inputs}
use Rattle.nest_premises.proofs.Bodies.{Forms, LocalMaps, written_in_group}
use Rattle.nest_premises.proofs.Rules.{outside, clash, not_awaited, through, is_seen, seen}
use Rattle.nest_premises.proofs.Pairs.{begins, outer, through_row}

in_grids : Forms StandsInGrid
in_grids = record { bound = λ v. tt; source = λ i. tt; both = λ t u e h. (e, h); project = λ x t e. e; viewed = λ y t e. e; reshaped = λ y t i e. (i, e); bound_to = bind; copy = λ c t e. e }
  where
    bind : (w : Bool) (v b : Lowered) → StandsInGrid false v → StandsInGrid w b → StandsInGrid w (low.LetArray v b)
    bind true v b e h = (e, h)
    bind false v b e h = (e, h)

-- in no work-item's body, and in a pair of maps over a group's items
abbrev IsInRows : Around → Type 0
IsInRows s = (s.in_item ≡ false) × (s.in_rows ≡ true)

-- outside every body of such maps and of maps over groups, in a term whose parallel maps are pairs
abbrev IsOutside : Around → Type 0
IsOutside s = (s.in_item ≡ false) × (s.in_local ≡ false) × (s.in_group ≡ false) × (s.is_paired ≡ true)

module _ (known : Known) (d : Declared) where
  -- N5, N8: a map along a row of a group, whose array copies nothing
  along_row : (k : Level) (s : Around) (g : List PlainTy) (xs b : Tree) (a : PlainTy) (n m : Annotation) → same_level k Items ≡ true
      → Annotates d g (tree.Map (map_kind.Over k X) xs b) (Two a n m) → AllUnbroken s (tree.Map (map_kind.Over k X) xs b) (Two a n m) → IsStaged Written (tree.Map (map_kind.Over k X) xs b) (Two a n m)
      → IsInRows s → StandsAlongRow (lower d.names Written (tree.Map (map_kind.Over k X) xs b) (Two a n m))
  along_row Items s g xs b a n m e y h o q = (of_inputs d _ g xs n y.2 h.1 o.0 q.0 (or_right (not s.in_group || s.in_local) s.in_rows q.1), known.bodies d g s xs b a n m y h o)
  along_row Launch s g xs b a n m e y h o q = absurd (cc)
  along_row Groups s g xs b a n m e y h o q = absurd (cc)

  -- N14: local maps are pairs
  local_maps : (k : Dimension) → LocalMaps d true StandsInGrid k
  local_maps X s g xs b a n m y h o c i p e = clash s.is_paired _ (h.0 N14) c.5 (not_awaited s.awaited (tree.Map (map_kind.Over Items X) xs b) i)
  local_maps Y s g xs b a n m y h o c i p e =
      let r = begins s Items xs b a n m h.0 c.5 in
      (e, through_row d Items IsInRows (λ s v a k. k) StandsAlongRow (λ y u i k. (i, k)) along_row _ (y.0 ∷ g) b m y.4 (outer s Items xs b a m r h.2) o.1 (c.2, or_right s.in_rows true refl) r)

  along_groups : (k : Level) (s : Around) (g : List PlainTy) (xs b : Tree) (a : PlainTy) (n m : Annotation) → same_level k Groups ≡ true
      → Annotates d g (tree.Map (map_kind.Over k X) xs b) (Two a n m) → AllUnbroken s (tree.Map (map_kind.Over k X) xs b) (Two a n m) → IsStaged Written (tree.Map (map_kind.Over k X) xs b) (Two a n m)
      → IsOutside s → StandsAlongGroups (lower d.names Written (tree.Map (map_kind.Over k X) xs b) (Two a n m))
  along_groups Groups s g xs b a n m e y h o q = (
    of_inputs d _ g xs n y.2 h.1 o.0 q.0 (outside s.in_group s.in_local s.in_rows q.2),
    written_in_group known d true StandsInGrid in_grids local_maps _ (y.0 ∷ g) b m y.4 h.2 o.1
        (or_right s.in_group true refl, or_from s.in_local false q.1 refl, or_from (s.in_item || false) false (or_from s.in_item false q.0 refl) refl, or_right s.in_parallel true refl, refl, q.3) (λ z. refl) refl refl,
  )
  along_groups Launch s g xs b a n m e y h o q = absurd (cc)
  along_groups Items s g xs b a n m e y h o q = absurd (cc)

  pub over_grid : (s : Around) (g : List PlainTy) (t : Tree) (n : Annotation) → Annotates d g t n → AllUnbroken s t n → IsStaged Written t n → s.in_item ≡ false → s.in_local ≡ false → s.in_group ≡ false → (has_rows t ≡ true → s.is_paired ≡ true) → nest_kind t ≡ OverGrid → StandsOverGrid (lower d.names Written t n)
  over_grid s g (tree.Unary (unary.Layout w) t) (One a n) y h o i l q p e =
      let r = is_seen w (nest_kind t) OverGrid (λ z. absurd (cc)) e in
      through_layout StandsOverGrid (λ y u i k. (i, k)) d.names Written w a (type_in n) _ (over_grid (passed s w a) g t n y.0 (through s w t a n r h.1) o i l q p (seen w (nest_kind t) OverGrid e r))
  over_grid s g (tree.Let v b) (Two a n m) y h o i l q p e =
      let j = known.tests (type_in n) ∙ known.lets d g s v b a n m y h (λ z. absurd (cc)) in
      let r = let_parts v b a n m o j in
      subst StandsOverGrid (sym (written_let d.names v b a n m r.0 j)) (of_inputs d _ g v n y.0 h.1 r.1 i (outside s.in_group s.in_local s.in_rows q), over_grid _ (type_in n ∷ g) b m y.1 h.2 r.2 i l q (λ z. p (or_right (has_rows v) (has_rows b) z)) e)
  over_grid s g (tree.Map (map_kind.Over Groups Y) xs b) (Two a n m) y h o i l q p e =
      let r = begins s Groups xs b a n m h.0 (p refl) in (
        of_inputs d _ g xs n y.2 h.1 o.0 i (outside s.in_group s.in_local s.in_rows q),
        through_row d Groups IsOutside (λ s v a k. k) StandsAlongGroups (λ y u i k. (i, k)) along_groups _ (y.0 ∷ g) b m y.4 (outer s Groups xs b a m r h.2) o.1 (i, l, q, p refl) r,
      )
  over_grid s g (tree.Map map_kind.Plain xs b) (Two a n m) y h o i l q p e = absurd (cc)
  over_grid s g (tree.Map (map_kind.Over Launch k) xs b) (Two a n m) y h o i l q p e = absurd (cc)
  over_grid s g (tree.Map (map_kind.Over Groups X) xs b) (Two a n m) y h o i l q p e = absurd (cc)
  over_grid s g (tree.Map (map_kind.Over Items k) xs b) (Two a n m) y h o i l q p e = absurd (cc)
  over_grid s g (tree.Map map_kind.Sequential xs b) (Two a n m) y h o i l q p e = absurd (cc)
  over_grid s g (tree.Variable v) (Leaf a) y h o i l q p e = absurd (cc)
  over_grid s g (tree.Number v) (Leaf a) y h o i l q p e = absurd (cc)
  over_grid s g (tree.Input v) (Leaf a) y h o i l q p e = absurd (cc)
  over_grid s g (tree.Unary f t) (One a n) y h o i l q p e = absurd (cc)
  over_grid s g (tree.Binary f t u) (Two a n m) y h o i l q p e = absurd (cc)
  over_grid s g (tree.Select t u x) (Three a n m k) y h o i l q p e = absurd (cc)
  over_grid s g (tree.Fold j xs x b) (Three a n m k) y h o i l q p e = absurd (cc)
  over_grid s g _ _ y h o i l q p e = absurd y
