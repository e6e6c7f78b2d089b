-- Outside the bodies of maps over work-groups, and in a pair of maps over a group's items, an
-- argument is of inputs alone.
use Rattle.std.proofs.Common.{◌≡◌, Bool, true, false, List, ◌∷◌, sym, subst}
use Rattle.std.specs.Prelude.{not, ◌||◌}
use Rattle.lift_tree.specs.declared.term.UnaryForm.TheVariants as unary
use Rattle.lift_tree.specs.declared.term.BinaryForm.TheVariants as binary
use Rattle.lift_tree.specs.Tree as tree
use Rattle.lift_tree.specs.Tree.{Tree}
use Rattle.lift_tree.specs.Types.{PlainTy}
use Rattle.lift_tree.specs.Typing.{Declared}
use Rattle.lift_tree.specs.Annotations.{Annotation, Leaf, One, Two, type_in, Annotates}
use Rattle.lift_ir.specs.Lowering.{Argument, lower}
use Rattle.lift_ir.specs.Lowerable.{IsStaged}
use Rattle.lift_ir.proofs.Lets.{argument_let}
use Rattle.lift_ir.proofs.Reshaped.{through_layout}
use Rattle.lowered_tree.specs.Around.{Around, laid_out}
use Rattle.lowered_tree.specs.declared.rule.NestRule.TheVariants.{N5, N8}
use Rattle.lowered_tree.specs.Elements.{hangs_on_sizes}
use Rattle.lowered_tree.specs.Forms.{shows_local_map}
use Rattle.nest_premises.specs.Unbroken.{AllUnbroken}
use Rattle.group_form.specs.Forms.{IsOfInputs}
use Rattle.nest_premises.proofs.Rules.{forbidden, below}

-- N8: no copy to private memory is outside every work-item's body
pub no_private_copy : {A : Type 0} (in_item hangs : Bool) → (not in_item || hangs) ≡ false → in_item ≡ false → A
no_private_copy true h e i = absurd (cc)
no_private_copy false h e i = absurd (cc)

module _ (d : Declared) where
  -- N5, N8: where nothing may be copied to local or private memory
  pub of_inputs : (s : Around) (g : List PlainTy) (t : Tree) (n : Annotation) → Annotates d g t n → AllUnbroken s t n → IsStaged Argument t n → s.in_item ≡ false → (not s.in_group || s.in_local || s.in_rows) ≡ true → IsOfInputs (lower d.names Argument t n)
  of_inputs s g (tree.Variable v) (Leaf a) y h o i q = tt
  of_inputs s g (tree.Input v) (Leaf a) y h o i q = tt
  of_inputs s g (tree.Unary unary.First t) (One a n) y h o i q = of_inputs _ g t n y.0 h.1 o i q
  of_inputs s g (tree.Unary unary.Second t) (One a n) y h o i q = of_inputs _ g t n y.0 h.1 o i q
  of_inputs s g (tree.Unary (unary.Layout l) t) (One a n) y h o i q = through_layout IsOfInputs (λ y u i k. k) d.names Argument l a (type_in n) _ (of_inputs (laid_out s l a) g t n y.0 h.1 o (below (λ z. z.in_item ≡ false) s l a i i) (below (λ z. (not z.in_group || z.in_local || z.in_rows) ≡ true) s l a q q))
  of_inputs s g (tree.Unary (unary.Slide j l) t) (One a n) y h o i q = of_inputs _ g t n y.0 h.1 o i q
  of_inputs s g (tree.Unary (unary.Pad j l) t) (One a n) y h o i q = of_inputs _ g t n y.0 h.1 o i q
  of_inputs s g (tree.Unary unary.ToLocal t) (One a n) y h o i q = forbidden (not s.in_group || s.in_local || s.in_rows) (not (shows_local_map t)) (h.0 N5) q
  of_inputs s g (tree.Unary unary.ToPrivate t) (One a n) y h o i q = no_private_copy s.in_item (hangs_on_sizes a) (h.0 N8) i
  of_inputs s g (tree.Binary binary.Zip t u) (Two a n m) y h o i q = (of_inputs _ g t n y.0 h.1 o.0 i q, of_inputs _ g u m y.1 h.2 o.1 i q)
  of_inputs s g (tree.Let v b) (Two a n m) y h o i q = subst IsOfInputs (sym (argument_let d.names v b a n m o.0)) (of_inputs _ g v n y.0 h.1 o.1 i q, of_inputs _ (type_in n ∷ g) b m y.1 h.2 o.2 i q)
  of_inputs s g _ _ y h o i q = absurd o
