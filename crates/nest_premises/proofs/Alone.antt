-- Where no parallel map stands in a term without a broken rule.
use Rattle.std.proofs.Common.{◌≡◌, Bool, true, false, List, ◌∷◌, None, refl}
use Rattle.std.proofs.lemmas.Bool.{and_from, or_left, not_from_false, or_parts}
use Rattle.std.specs.Prelude.{not, ◌&&◌, ◌||◌}
use Rattle.lift_tree.specs.declared.term.UnaryForm.TheVariants as unary
use Rattle.lift_tree.specs.declared.term.BinaryForm.TheVariants as binary
use Rattle.lift_tree.specs.declared.term.Level.TheVariants.{Launch, Groups, Items}
use Rattle.lift_tree.specs.declared.term.MapKind.TheVariants as map_kind
use Rattle.lift_tree.specs.Tree as tree
use Rattle.lift_tree.specs.Tree.{Tree}
use Rattle.lift_tree.specs.Types.{PlainTy, is_element}
use Rattle.lift_tree.specs.Typing.{Declared}
use Rattle.lift_tree.specs.Annotations.{Annotation, Leaf, One, Two, Three, type_in, Annotates}
use Rattle.lift_ir.specs.Lowerable.{IsElementTerm}
use Rattle.lowered_tree.specs.Around.{Around, laid_out}
use Rattle.lowered_tree.specs.declared.rule.NestRule.TheVariants.{N2, N3, N5, N8}
use Rattle.lowered_tree.specs.Elements.{hangs_on_sizes}
use Rattle.lowered_tree.specs.Forms.{shows_local_map}
use Rattle.lowered_tree.specs.Kinds.{is_task}
use Rattle.nest_premises.specs.Unbroken.{AllUnbroken}
use Rattle.nest_premises.proofs.Rules.{true_is_not_false, clash, forbidden, outside, still_none, not_awaited, below}
use Rattle.nest_premises.proofs.Staged.{no_map, no_fold}

pub three : (x y z : Bool) → x ≡ true → y ≡ true → z ≡ true → (x && y && z) ≡ true
three true true true e h k = refl
three true true false e h k = absurd (cc)
three true false z e h k = absurd (cc)
three false y z e h k = absurd (cc)

-- in an element term
pub element_alone : (t : Tree) (n : Annotation) → IsElementTerm t n → is_task t ≡ true
element_alone (tree.Variable v) (Leaf a) o = refl
element_alone (tree.Number v) (Leaf a) o = refl
element_alone (tree.Unary (unary.Div j) t) (One a n) o = element_alone t n o
element_alone (tree.Unary (unary.Rem j) t) (One a n) o = element_alone t n o
element_alone (tree.Unary unary.First t) (One a n) o = element_alone t n o
element_alone (tree.Unary unary.Second t) (One a n) o = element_alone t n o
element_alone (tree.Binary (binary.Operator q) t u) (Two a n m) o = and_from _ _ (element_alone t n o.0) (element_alone u m o.1)
element_alone (tree.Binary binary.Pair t u) (Two a n m) o = and_from _ _ (element_alone t n o.0) (element_alone u m o.1)
element_alone (tree.Select t u x) (Three a n m l) o = three _ _ _ (element_alone t n o.0) (element_alone u m o.1) (element_alone x l o.2)
element_alone (tree.Let v b) (Two a n m) o = and_from _ _ (element_alone v n o.1) (element_alone b m o.2)
element_alone _ _ o = absurd o

module _ (d : Declared) where
  -- N5, N7, N8: in an argument outside every work-item's and every mapWrg's body
  pub argument_alone : (s : Around) (g : List PlainTy) (t : Tree) (n : Annotation) → Annotates d g t n → AllUnbroken s t n → s.in_argument ≡ true → s.in_item ≡ false → s.in_group ≡ false → is_task t ≡ true
  argument_alone s g (tree.Variable v) (Leaf a) y h w i q = refl
  argument_alone s g (tree.Number v) (Leaf a) y h w i q = refl
  argument_alone s g (tree.Input v) (Leaf a) y h w i q = refl
  argument_alone s g (tree.Unary (unary.Div j) t) (One a n) y h w i q = argument_alone _ g t n y.0 h.1 w i q
  argument_alone s g (tree.Unary (unary.Rem j) t) (One a n) y h w i q = argument_alone _ g t n y.0 h.1 w i q
  argument_alone s g (tree.Unary unary.First t) (One a n) y h w i q = argument_alone _ g t n y.0 h.1 w i q
  argument_alone s g (tree.Unary unary.Second t) (One a n) y h w i q = argument_alone _ g t n y.0 h.1 w i q
  argument_alone s g (tree.Unary (unary.Layout l) t) (One a n) y h w i q =
      argument_alone (laid_out s l a) g t n y.0 h.1 (below (λ z. z.in_argument ≡ true) s l a w w) (below (λ z. z.in_item ≡ false) s l a i i) (below (λ z. z.in_group ≡ false) s l a q q)
  argument_alone s g (tree.Unary (unary.Slide j l) t) (One a n) y h w i q = argument_alone _ g t n y.0 h.1 w i q
  argument_alone s g (tree.Unary (unary.Pad j l) t) (One a n) y h w i q = argument_alone _ g t n y.0 h.1 w i q
  argument_alone s g (tree.Unary unary.ToLocal t) (One a n) y h w i q = forbidden (not s.in_group || s.in_local || s.in_rows) (not (shows_local_map t)) (h.0 N5) (outside s.in_group s.in_local s.in_rows q)
  argument_alone s g (tree.Unary unary.ToPrivate t) (One a n) y h w i q = true_is_not_false (not s.in_item) (not_from_false s.in_item i) (or_parts (not s.in_item) (hangs_on_sizes a) (h.0 N8)).0
  argument_alone s g (tree.Unary unary.Then t) (One a n) y h w i q = argument_alone _ g t n y.0 h.1 w i q
  argument_alone s g (tree.Binary f t u) (Two a n m) y h w i q = and_from _ _ (argument_alone _ g t n y.0 h.1 w i q) (argument_alone _ g u m y.1 h.2 w i q)
  argument_alone s g (tree.Select t u x) (Three a n m l) y h w i q = three _ _ _ (argument_alone _ g t n y.0 h.1 w i q) (argument_alone _ g u m y.1 h.2 w i q) (argument_alone _ g x l y.2 h.3 w i q)
  argument_alone s g (tree.Let v b) (Two a n m) y h w i q =
      and_from _ _ (argument_alone _ g v n y.0 h.1 (or_left s.in_argument (not (is_element (type_in n))) w) i q) (argument_alone _ (type_in n ∷ g) b m y.1 h.2 w i q)
  argument_alone s g (tree.Map j xs b) (Two a n m) y h w i q = no_map s j xs b a n m h.0 w
  argument_alone s g (tree.Fold j xs x b) (Three a n m l) y h w i q = no_fold s j xs x b a n m l h.0 w
  argument_alone s g _ _ y h w i q = absurd y

  -- N2, N3: in a parallel map's body that isn't a mapWrg's, where no inner map is due
  pub body_alone : (s : Around) (g : List PlainTy) (t : Tree) (n : Annotation) → Annotates d g t n → AllUnbroken s t n → s.in_parallel ≡ true → s.is_next_to_group ≡ false → s.awaited ≡ None → is_task t ≡ true
  body_alone s g (tree.Variable v) (Leaf a) y h w i e = refl
  body_alone s g (tree.Number v) (Leaf a) y h w i e = refl
  body_alone s g (tree.Input v) (Leaf a) y h w i e = refl
  body_alone s g (tree.Unary (unary.Div j) t) (One a n) y h w i e = body_alone _ g t n y.0 h.1 w i refl
  body_alone s g (tree.Unary (unary.Rem j) t) (One a n) y h w i e = body_alone _ g t n y.0 h.1 w i refl
  body_alone s g (tree.Unary unary.First t) (One a n) y h w i e = body_alone _ g t n y.0 h.1 w i refl
  body_alone s g (tree.Unary unary.Second t) (One a n) y h w i e = body_alone _ g t n y.0 h.1 w i refl
  body_alone s g (tree.Unary (unary.Layout l) t) (One a n) y h w i e =
      body_alone (laid_out s l a) g t n y.0 h.1 (below (λ z. z.in_parallel ≡ true) s l a w w) (below (λ z. z.is_next_to_group ≡ false) s l a i i) (below (λ z. z.awaited ≡ None) s l a (still_none l s.awaited e) refl)
  body_alone s g (tree.Unary (unary.Slide j l) t) (One a n) y h w i e = body_alone _ g t n y.0 h.1 w i refl
  body_alone s g (tree.Unary (unary.Pad j l) t) (One a n) y h w i e = body_alone _ g t n y.0 h.1 w i refl
  body_alone s g (tree.Unary unary.ToLocal t) (One a n) y h w i e = body_alone _ g t n y.0 h.1 w i refl
  body_alone s g (tree.Unary unary.ToPrivate t) (One a n) y h w i e = body_alone _ g t n y.0 h.1 w i refl
  body_alone s g (tree.Unary unary.Then t) (One a n) y h w i e = body_alone _ g t n y.0 h.1 w i refl
  body_alone s g (tree.Binary f t u) (Two a n m) y h w i e = and_from _ _ (body_alone _ g t n y.0 h.1 w i refl) (body_alone _ g u m y.1 h.2 w i refl)
  body_alone s g (tree.Select t u x) (Three a n m l) y h w i e = three _ _ _ (body_alone _ g t n y.0 h.1 w i refl) (body_alone _ g u m y.1 h.2 w i refl) (body_alone _ g x l y.2 h.3 w i refl)
  body_alone s g (tree.Let v b) (Two a n m) y h w i e = and_from _ _ (body_alone _ g v n y.0 h.1 w i refl) (body_alone _ (type_in n ∷ g) b m y.1 h.2 w i refl)
  body_alone s g (tree.Map map_kind.Plain xs b) (Two a n m) y h w i e = and_from _ _ (body_alone _ g xs n y.2 h.1 w i refl) (body_alone _ (y.0 ∷ g) b m y.4 h.2 (or_left s.in_parallel false w) refl refl)
  body_alone s g (tree.Map map_kind.Sequential xs b) (Two a n m) y h w i e = and_from _ _ (body_alone _ g xs n y.2 h.1 w i refl) (body_alone _ (y.0 ∷ g) b m y.4 h.2 (or_left s.in_parallel false w) refl refl)
  body_alone s g (tree.Map (map_kind.Over Launch k) xs b) (Two a n m) y h w i e = clash (s.in_parallel) _ (h.0 N3) w (not_awaited s.awaited (tree.Map (map_kind.Over Launch k) xs b) e)
  body_alone s g (tree.Map (map_kind.Over Groups k) xs b) (Two a n m) y h w i e = clash (s.in_parallel) _ (h.0 N3) w (not_awaited s.awaited (tree.Map (map_kind.Over Groups k) xs b) e)
  body_alone s g (tree.Map (map_kind.Over Items k) xs b) (Two a n m) y h w i e = clash (not s.is_next_to_group) _ (h.0 N2) (not_from_false s.is_next_to_group i) (not_awaited s.awaited (tree.Map (map_kind.Over Items k) xs b) e)
  body_alone s g (tree.Fold j xs x b) (Three a n m l) y h w i e = three _ _ _ (body_alone _ g xs n y.2 h.1 w i refl) (body_alone _ g x m y.4 h.2 w i refl) (body_alone _ (y.0 ∷ type_in m ∷ g) b l y.6 h.3 w refl refl)
  body_alone s g _ _ y h w i e = absurd y
