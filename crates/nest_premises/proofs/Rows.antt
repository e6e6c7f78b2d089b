-- Where maps along dimension 1 stand in a term without a broken rule: on top alone.
use Rattle.std.proofs.Common.{◌≡◌, ◌∙◌, Bool, true, false, List, ◌∷◌, None, refl, sym, ap, subst, inl, inr}
use Rattle.std.proofs.lemmas.Bool.{and_parts, or_parts, or_from}
use Rattle.std.specs.Prelude.{◌&&◌, ◌||◌, ◌⊎◌, not, if◌then◌else◌}
use Rattle.size_arith.specs.declared.names.Name.{Name}
use Rattle.lift_tree.specs.declared.term.UnaryForm.TheVariants as unary
use Rattle.lift_tree.specs.declared.term.BinaryForm.TheVariants as binary
use Rattle.lift_tree.specs.declared.term.Dimension.TheVariants.{X, Y}
use Rattle.lift_tree.specs.declared.term.Level.TheVariants.{Launch, Groups, Items}
use Rattle.lift_tree.specs.declared.term.MapKind.TheVariants as map_kind
use Rattle.lift_tree.specs.Tree as tree
use Rattle.lift_tree.specs.Tree.{Tree}
use Rattle.lift_tree.specs.Types.{PlainTy}
use Rattle.lift_tree.specs.Typing.{Declared}
use Rattle.lift_tree.specs.Annotations.{Annotation, Leaf, One, Two, Three, type_in, Annotates}
use Rattle.lift_ir.specs.Lowering.{Written, lower}
use Rattle.lift_ir.specs.Lowerable.{IsStaged}
use Rattle.lift_ir.specs.Owner.{is_in_rows}
use Rattle.lift_ir.proofs.Elements.{told_ir}
use Rattle.lift_ir.proofs.Lets.{written_let, let_parts}
use Rattle.lift_ir.proofs.Reshaped.{through_layout}
use Rattle.lowered_tree.specs.Around.{Around, passed}
use Rattle.lowered_tree.specs.declared.rule.NestRule.TheVariants.{N14}
use Rattle.lowered_tree.specs.Kinds.{is_task, has_rows}
use Rattle.nest_premises.specs.Unbroken.{AllUnbroken}
use Rattle.nest_premises.proofs.Rules.{clash, still_none, not_awaited, through}
use Rattle.nest_premises.proofs.Stands.{body_staged, by_lets}
use Rattle.nest_premises.proofs.Top.{IsSpread, spread_through, let_of_array}

-- in a term without parallel maps there is none
pub task_no_rows : (t : Tree) → is_task t ≡ true → has_rows t ≡ false
task_no_rows (tree.Variable v) z = refl
task_no_rows (tree.Number v) z = refl
task_no_rows (tree.Input v) z = refl
task_no_rows (tree.Unary f t) z = task_no_rows t z
task_no_rows (tree.Binary f t u) z = let r = and_parts (is_task t) (is_task u) z in or_from _ _ (task_no_rows t r.0) (task_no_rows u r.1)
task_no_rows (tree.Select t u x) z =
    let r = and_parts (is_task t && is_task u) (is_task x) z in
    let q = and_parts (is_task t) (is_task u) r.0 in
    or_from _ _ (or_from _ _ (task_no_rows t q.0) (task_no_rows u q.1)) (task_no_rows x r.1)
task_no_rows (tree.Let v b) z = let r = and_parts (is_task v) (is_task b) z in or_from _ _ (task_no_rows v r.0) (task_no_rows b r.1)
task_no_rows (tree.Map map_kind.Plain xs b) z = let r = and_parts (is_task xs) (is_task b) z in or_from _ _ (task_no_rows xs r.0) (task_no_rows b r.1)
task_no_rows (tree.Map (map_kind.Over l k) xs b) z = absurd (cc)
task_no_rows (tree.Map map_kind.Sequential xs b) z = let r = and_parts (is_task xs) (is_task b) z in or_from _ _ (task_no_rows xs r.0) (task_no_rows b r.1)
task_no_rows (tree.Fold j xs x b) z =
    let r = and_parts (is_task xs && is_task x) (is_task b) z in
    let q = and_parts (is_task xs) (is_task x) r.0 in
    or_from _ _ (or_from _ _ (task_no_rows xs q.0) (task_no_rows x q.1)) (task_no_rows b r.1)

module _ (d : Declared) where
  -- where there is none, none is on top
  pub none_on_top : (t : Tree) (n : Annotation) → IsStaged Written t n → has_rows t ≡ false → is_in_rows (lower d.names Written t n) ≡ false
  none_on_top (tree.Variable v) (Leaf a) o e = refl
  none_on_top (tree.Number v) (Leaf a) o e = refl
  none_on_top (tree.Unary (unary.Div j) t) (One a n) o e = refl
  none_on_top (tree.Unary (unary.Rem j) t) (One a n) o e = refl
  none_on_top (tree.Unary unary.First t) (One a n) o e = refl
  none_on_top (tree.Unary unary.Second t) (One a n) o e = refl
  none_on_top (tree.Unary (unary.Layout l) t) (One a n) o e = through_layout (λ u. is_in_rows u ≡ false) (λ y u i k. k) d.names Written l a (type_in n) _ (none_on_top t n o e)
  none_on_top (tree.Unary (unary.Slide j l) t) (One a n) o e = none_on_top t n o e
  none_on_top (tree.Unary (unary.Pad j l) t) (One a n) o e = none_on_top t n o e
  none_on_top (tree.Binary (binary.Operator q) t u) (Two a n m) o e = refl
  none_on_top (tree.Binary binary.Pair t u) (Two a n m) o e = refl
  none_on_top (tree.Select t u x) (Three a n m l) o e = refl
  none_on_top (tree.Let v b) (Two a n m) o e =
      by_lets d (λ u. is_in_rows u ≡ false) (λ c u. refl) v b a n m
      (λ i. none_on_top b m (body_staged v b a n m o i) (or_parts (has_rows v) (has_rows b) e).1)
      (λ c u w k. refl)
      (λ i j k. k)
  none_on_top (tree.Map map_kind.Plain xs b) (Two a n m) o e = refl
  none_on_top (tree.Map (map_kind.Over Launch X) xs b) (Two a n m) o e = refl
  none_on_top (tree.Map (map_kind.Over Groups X) xs b) (Two a n m) o e = refl
  none_on_top (tree.Map (map_kind.Over Items X) xs b) (Two a n m) o e = refl
  none_on_top (tree.Map (map_kind.Over l Y) xs b) (Two a n m) o e = absurd (cc)
  none_on_top (tree.Map map_kind.Sequential xs b) (Two a n m) o e = refl
  none_on_top (tree.Fold j xs x b) (Three a n m l) o e = refl
  none_on_top _ _ o e = absurd o

  -- N14: where the parallel maps are pairs and one is on top, one along dimension 1 is
  pub one_on_top : (s : Around) (g : List PlainTy) (t : Tree) (n : Annotation) → Annotates d g t n → AllUnbroken s t n → IsStaged Written t n → s.is_paired ≡ true → s.awaited ≡ None → IsSpread t → is_in_rows (lower d.names Written t n) ≡ true
  one_on_top s g (tree.Unary (unary.Layout l) t) (One a n) y h o p c e =
      let r = spread_through l t e in
      through_layout (λ u. is_in_rows u ≡ true) (λ y u i k. k) d.names Written l a (type_in n) _ (one_on_top (passed s l a) g t n y.0 (through s l t a n r.0 h.1) o p (still_none l s.awaited c) r.1)
  one_on_top s g (tree.Let v b) (Two a n m) y h o p c e =
      let i = told_ir false (type_in n) (let_of_array d s g v b a n m y.1 h e) in
      let r = let_parts v b a n m o i in
      ap is_in_rows (written_let d.names v b a n m r.0 i) ∙ one_on_top _ (type_in n ∷ g) b m y.1 h.2 r.2 p refl e
  one_on_top s g (tree.Map map_kind.Plain xs b) (Two a n m) y h o p c e = absurd (e refl)
  one_on_top s g (tree.Map (map_kind.Over Launch X) xs b) (Two a n m) y h o p c e = clash s.is_paired _ (h.0 N14) p (not_awaited s.awaited (tree.Map (map_kind.Over Launch X) xs b) c)
  one_on_top s g (tree.Map (map_kind.Over Launch Y) xs b) (Two a n m) y h o p c e = refl
  one_on_top s g (tree.Map (map_kind.Over Groups X) xs b) (Two a n m) y h o p c e = clash s.is_paired _ (h.0 N14) p (not_awaited s.awaited (tree.Map (map_kind.Over Groups X) xs b) c)
  one_on_top s g (tree.Map (map_kind.Over Groups Y) xs b) (Two a n m) y h o p c e = refl
  one_on_top s g (tree.Map (map_kind.Over Items k) xs b) (Two a n m) y h o p c e = absurd (e refl)
  one_on_top s g (tree.Map map_kind.Sequential xs b) (Two a n m) y h o p c e = absurd (e refl)
  one_on_top s g (tree.Variable v) (Leaf a) y h o p c e = absurd (e refl)
  one_on_top s g (tree.Number v) (Leaf a) y h o p c e = absurd (e refl)
  one_on_top s g (tree.Input v) (Leaf a) y h o p c e = absurd (e refl)
  one_on_top s g (tree.Unary f t) (One a n) y h o p c e = absurd (e refl)
  one_on_top s g (tree.Binary f t u) (Two a n m) y h o p c e = absurd (e refl)
  one_on_top s g (tree.Select t u x) (Three a n m l) y h o p c e = absurd (e refl)
  one_on_top s g (tree.Fold j xs x b) (Three a n m l) y h o p c e = absurd (e refl)
  one_on_top s g _ _ y h o p c e = absurd y
