-- A term without a broken rule, with a map or a pair of maps over all work-items
-- on top, stands over the launch.
use Rattle.std.proofs.Common.{◌≡◌, true, false, List, ◌∷◌, refl, sym, subst}
use Rattle.std.proofs.lemmas.Bool.{or_left, or_right, not_from_false}
use Rattle.std.specs.Prelude.{not, ◌||◌}
use Rattle.lift_tree.specs.declared.term.UnaryForm.TheVariants as unary
use Rattle.lift_tree.specs.declared.term.Dimension.TheVariants.{X, Y}
use Rattle.lift_tree.specs.declared.term.Level.{Level}
use Rattle.lift_tree.specs.declared.term.Level.TheVariants.{Launch, Groups, Items}
use Rattle.lift_tree.specs.declared.term.MapKind.TheVariants as map_kind
use Rattle.lift_tree.specs.Tree as tree
use Rattle.lift_tree.specs.Tree.{Tree}
use Rattle.lift_tree.specs.Types.{PlainTy, is_element}
use Rattle.lift_tree.specs.Typing.{Declared}
use Rattle.lift_tree.specs.Annotations.{Annotation, Leaf, One, Two, Three, type_in, Annotates}
use Rattle.lift_ir.specs.Forms.{StandsAlongRow, StandsOverLaunch}
use Rattle.lift_ir.specs.Lowering.{Written, lower}
use Rattle.lift_ir.specs.Lowerable.{IsStaged}
use Rattle.lift_ir.proofs.Elements.{told_ir}
use Rattle.lift_ir.proofs.Lets.{written_let, let_parts}
use Rattle.lift_ir.proofs.Reshaped.{through_layout}
use Rattle.lowered_tree.specs.Around.{Around, passed}
use Rattle.lowered_tree.specs.Kind.{nest_kind}
use Rattle.lowered_tree.specs.Kinds.{same_level, has_rows}
use Rattle.lowered_tree.specs.declared.kind.NestKind.TheVariants.{OverLaunch}
use Rattle.nest_premises.specs.Unbroken.{AllUnbroken}
use Rattle.nest_premises.proofs.Stands.{argument_stands, written_stands}
use Rattle.nest_premises.proofs.Rules.{through, is_seen, seen}
use Rattle.nest_premises.proofs.Alone.{argument_alone, body_alone}
use Rattle.nest_premises.proofs.Pairs.{begins, outer, through_row}
use Rattle.nest_premises.proofs.Top.{let_of_array}

module _ (d : Declared) where
  -- outside every work-item's and every group's body
  abbrev IsOutside : Around → Type 0
  IsOutside s = (s.in_item ≡ false) × (s.in_group ≡ false)

  -- the map along a row
  along_row : (k : Level) (s : Around) (g : List PlainTy) (xs b : Tree) (a : PlainTy) (n m : Annotation) → same_level k Launch ≡ true
      → Annotates d g (tree.Map (map_kind.Over k X) xs b) (Two a n m) → AllUnbroken s (tree.Map (map_kind.Over k X) xs b) (Two a n m) → IsStaged Written (tree.Map (map_kind.Over k X) xs b) (Two a n m)
      → IsOutside s → StandsAlongRow (lower d.names Written (tree.Map (map_kind.Over k X) xs b) (Two a n m))
  along_row Launch s g xs b a n m e y h o q = (
    argument_stands d _ g xs n y.2 h.1 o.0 (argument_alone d _ g xs n y.2 h.1 (or_right s.in_argument true refl) q.0 q.1),
    written_stands d _ (y.0 ∷ g) b m y.4 h.2 o.1 (body_alone d _ (y.0 ∷ g) b m y.4 h.2 (or_right s.in_parallel true refl) refl refl) refl,
  )
  along_row Groups s g xs b a n m e y h o q = absurd (cc)
  along_row Items s g xs b a n m e y h o q = absurd (cc)

  pub over_launch : (s : Around) (g : List PlainTy) (t : Tree) (n : Annotation) → Annotates d g t n → AllUnbroken s t n → IsStaged Written t n → s.in_item ≡ false → s.in_group ≡ false → (has_rows t ≡ true → s.is_paired ≡ true) → nest_kind t ≡ OverLaunch → StandsOverLaunch (lower d.names Written t n)
  over_launch s g (tree.Unary (unary.Layout l) t) (One a n) y h o i q p e =
      let r = is_seen l (nest_kind t) OverLaunch (λ z. absurd (cc)) e in
      through_layout StandsOverLaunch (λ y u i k. (i, k)) d.names Written l a (type_in n) _ (over_launch (passed s l a) g t n y.0 (through s l t a n r h.1) o i q p (seen l (nest_kind t) OverLaunch e r))
  over_launch s g (tree.Let v b) (Two a n m) y h o i q p e =
      let c = let_of_array d s g v b a n m y.1 h (λ z. absurd (cc)) in
      let r = let_parts v b a n m o (told_ir false (type_in n) c) in
      let alone = argument_alone d _ g v n y.0 h.1 (or_right s.in_argument (not (is_element (type_in n))) (not_from_false (is_element (type_in n)) c)) i q in
      subst StandsOverLaunch (sym (written_let d.names v b a n m r.0 (told_ir false (type_in n) c))) (argument_stands d _ g v n y.0 h.1 r.1 alone, over_launch _ (type_in n ∷ g) b m y.1 h.2 r.2 i q (λ z. p (or_right (has_rows v) (has_rows b) z)) e)
  over_launch s g (tree.Map (map_kind.Over Launch X) xs b) (Two a n m) y h o i q p e = (
    argument_stands d _ g xs n y.2 h.1 o.0 (argument_alone d _ g xs n y.2 h.1 (or_right s.in_argument true refl) i q),
    written_stands d _ (y.0 ∷ g) b m y.4 h.2 o.1 (body_alone d _ (y.0 ∷ g) b m y.4 h.2 (or_right s.in_parallel true refl) refl refl) refl,
  )
  over_launch s g (tree.Map (map_kind.Over Launch Y) xs b) (Two a n m) y h o i q p e =
      let r = begins s Launch xs b a n m h.0 (p refl) in (
        argument_stands d _ g xs n y.2 h.1 o.0 (argument_alone d _ g xs n y.2 h.1 (or_right s.in_argument true refl) i q),
        through_row d Launch IsOutside (λ s v a k. k) StandsAlongRow (λ y u i k. (i, k)) along_row _ (y.0 ∷ g) b m y.4 (outer s Launch xs b a m r h.2) o.1 (i, q) r,
      )
  over_launch s g (tree.Map map_kind.Plain xs b) (Two a n m) y h o i q p e = absurd (cc)
  over_launch s g (tree.Map (map_kind.Over Groups X) xs b) (Two a n m) y h o i q p e = absurd (cc)
  over_launch s g (tree.Map (map_kind.Over Groups Y) xs b) (Two a n m) y h o i q p e = absurd (cc)
  over_launch s g (tree.Map (map_kind.Over Items k) xs b) (Two a n m) y h o i q p e = absurd (cc)
  over_launch s g (tree.Map map_kind.Sequential xs b) (Two a n m) y h o i q p e = absurd (cc)
  over_launch s g (tree.Variable v) (Leaf a) y h o i q p e = absurd (cc)
  over_launch s g (tree.Number v) (Leaf a) y h o i q p e = absurd (cc)
  over_launch s g (tree.Input v) (Leaf a) y h o i q p e = absurd (cc)
  over_launch s g (tree.Unary f t) (One a n) y h o i q p e = absurd (cc)
  over_launch s g (tree.Binary f t u) (Two a n m) y h o i q p e = absurd (cc)
  over_launch s g (tree.Select t u x) (Three a n m l) y h o i q p e = absurd (cc)
  over_launch s g (tree.Fold j xs x b) (Three a n m l) y h o i q p e = absurd (cc)
  over_launch s g _ _ y h o i q p e = absurd y
