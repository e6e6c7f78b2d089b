-- A term without a broken rule, with a map over work-groups on top, stands over groups.
use Rattle.std.proofs.Common.{◌≡◌, ◌∙◌, Bool, true, false, List, ◌∷◌, None, refl, sym, subst}
use Rattle.std.proofs.lemmas.Bool.{or_right, or_from}
use Rattle.std.specs.Prelude.{◌||◌}
use Rattle.lift_tree.specs.declared.term.UnaryForm.TheVariants as unary
use Rattle.lift_tree.specs.declared.term.Dimension.{Dimension}
use Rattle.lift_tree.specs.declared.term.Dimension.TheVariants.{X, Y}
use Rattle.lift_tree.specs.declared.term.Level.TheVariants.{Launch, Groups, Items}
use Rattle.lift_tree.specs.declared.term.MapKind.TheVariants as map_kind
use Rattle.lift_tree.specs.Tree as tree
use Rattle.lift_tree.specs.Tree.{Tree}
use Rattle.lift_tree.specs.Types.{PlainTy}
use Rattle.lift_tree.specs.Typing.{Declared}
use Rattle.lift_tree.specs.Annotations.{Annotation, Leaf, One, Two, Three, type_in, Annotates}
use Rattle.lift_ir.specs.Lowering.{Lowered, Written, lower}
use Rattle.lift_ir.specs.Terms as low
use Rattle.lift_ir.specs.Lowerable.{IsStaged}
use Rattle.lift_ir.proofs.Lets.{written_let, let_parts}
use Rattle.lift_ir.proofs.Reshaped.{through_layout}
use Rattle.lowered_tree.specs.Around.{Around, passed}
use Rattle.lowered_tree.specs.declared.rule.NestRule.TheVariants.{N14}
use Rattle.lowered_tree.specs.Kind.{nest_kind}
use Rattle.lowered_tree.specs.Kinds.{is_over_rows, has_rows}
use Rattle.lowered_tree.specs.declared.kind.NestKind.TheVariants.{OverGroups}
use Rattle.nest_premises.specs.Unbroken.{AllUnbroken}
use Rattle.group_form.specs.Forms.{StandsInGroup, StandsOverGroups}
use Rattle.nest_premises.proofs.Known.{Known}
use Rattle.nest_premises.proofs.Inputs.{of_inputs}
use Rattle.nest_premises.proofs.Bodies.{Forms, LocalMaps, written_in_group}
use Rattle.nest_premises.proofs.Rules.{outside, still_none, not_awaited, spares, through, is_seen, seen}

in_groups : Forms StandsInGroup
in_groups = record { bound = λ v. tt; source = λ i. tt; both = λ t u e h. (e, h); project = λ x t e. e; viewed = λ y t e. e; reshaped = λ y t i e. (i, e); bound_to = bind; copy = λ c t e. e }
  where
    bind : (w : Bool) (v b : Lowered) → StandsInGroup false v → StandsInGroup w b → StandsInGroup w (low.LetArray v b)
    bind true v b e h = (e, h)
    bind false v b e h = (e, h)

module _ (known : Known) (d : Declared) where
  -- no local map is along dimension 1
  local_maps : (k : Dimension) → LocalMaps d false StandsInGroup k
  local_maps X s g xs b a n m y h o c i p e = (e, known.bodies d g s xs b a n m y h o)
  local_maps Y s g xs b a n m y h o c i p e = let no = p refl in absurd (cc)

  pub over_groups : (s : Around) (g : List PlainTy) (t : Tree) (n : Annotation) → Annotates d g t n → AllUnbroken s t n → IsStaged Written t n → s.in_item ≡ false → s.in_local ≡ false → s.in_group ≡ false → s.awaited ≡ None → (has_rows t ≡ true → s.is_paired ≡ true) → nest_kind t ≡ OverGroups → StandsOverGroups (lower d.names Written t n)
  over_groups s g (tree.Unary (unary.Layout w) t) (One a n) y h o i l q c p e =
      let r = is_seen w (nest_kind t) OverGroups (λ z. absurd (cc)) e in
      through_layout StandsOverGroups (λ y u i k. (i, k)) d.names Written w a (type_in n) _ (over_groups (passed s w a) g t n y.0 (through s w t a n r h.1) o i l q (still_none w s.awaited c) p (seen w (nest_kind t) OverGroups e r))
  over_groups s g (tree.Let v b) (Two a n m) y h o i l q c p e =
      let j = known.tests (type_in n) ∙ known.lets d g s v b a n m y h (λ z. absurd (cc)) in
      let r = let_parts v b a n m o j in
      subst StandsOverGroups (sym (written_let d.names v b a n m r.0 j)) (of_inputs d _ g v n y.0 h.1 r.1 i (outside s.in_group s.in_local s.in_rows q), over_groups _ (type_in n ∷ g) b m y.1 h.2 r.2 i l q refl (λ z. p (or_right (has_rows v) (has_rows b) z)) e)
  over_groups s g (tree.Map (map_kind.Over Groups X) xs b) (Two a n m) y h o i l q c p e =
      let lone = spares s.is_paired _ (h.0 N14) (not_awaited s.awaited (tree.Map (map_kind.Over Groups X) xs b) c) in (
        of_inputs d _ g xs n y.2 h.1 o.0 i (outside s.in_group s.in_local s.in_rows q),
        written_in_group known d false StandsInGroup in_groups local_maps _ (y.0 ∷ g) b m y.4 h.2 o.1
            (or_right s.in_group true refl, or_from s.in_local false l refl, or_from (s.in_item || false) false (or_from s.in_item false i refl) refl, or_right s.in_parallel true refl, refl, lone)
            (λ z. sym lone ∙ p (or_right (has_rows xs) (has_rows b) z)) refl refl,
      )
  over_groups s g (tree.Map map_kind.Plain xs b) (Two a n m) y h o i l q c p e = absurd (cc)
  over_groups s g (tree.Map (map_kind.Over Launch k) xs b) (Two a n m) y h o i l q c p e = absurd (cc)
  over_groups s g (tree.Map (map_kind.Over Groups Y) xs b) (Two a n m) y h o i l q c p e = absurd (cc)
  over_groups s g (tree.Map (map_kind.Over Items k) xs b) (Two a n m) y h o i l q c p e = absurd (cc)
  over_groups s g (tree.Map map_kind.Sequential xs b) (Two a n m) y h o i l q c p e = absurd (cc)
  over_groups s g (tree.Variable v) (Leaf a) y h o i l q c p e = absurd (cc)
  over_groups s g (tree.Number v) (Leaf a) y h o i l q c p e = absurd (cc)
  over_groups s g (tree.Input v) (Leaf a) y h o i l q c p e = absurd (cc)
  over_groups s g (tree.Unary f t) (One a n) y h o i l q c p e = absurd (cc)
  over_groups s g (tree.Binary f t u) (Two a n m) y h o i l q c p e = absurd (cc)
  over_groups s g (tree.Select t u x) (Three a n m k) y h o i l q c p e = absurd (cc)
  over_groups s g (tree.Fold j xs x b) (Three a n m k) y h o i l q c p e = absurd (cc)
  over_groups s g _ _ y h o i l q c p e = absurd y
