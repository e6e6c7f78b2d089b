-- What a term without a broken rule is lowered to, for one work-item, has the forms of their
-- places.
use Rattle.std.proofs.Common.{◌≡◌, Bool, true, false, List, ◌∷◌, refl, sym, subst, inl, inr}
use Rattle.std.proofs.lemmas.Bool.{not-false, and_parts, or_parts}
use Rattle.std.specs.Prelude.{not, ◌&&◌, ◌||◌, if◌then◌else◌}
use Rattle.lift_tree.specs.declared.term.UnaryForm.TheVariants as unary
use Rattle.lift_tree.specs.declared.term.BinaryForm.TheVariants as binary
use Rattle.lift_tree.specs.declared.term.MapKind.TheVariants as map_kind
use Rattle.lift_tree.specs.Tree as tree
use Rattle.lift_tree.specs.Tree.{Tree}
use Rattle.lift_tree.specs.Types as types
use Rattle.lift_tree.specs.Types.{PlainTy, is_element}
use Rattle.lift_tree.specs.Typing.{Declared}
use Rattle.lift_tree.specs.Annotations.{Annotation, Leaf, One, Two, Three, type_in, Annotates}
use Rattle.lift_ir.specs.Terms as low
use Rattle.lift_ir.specs.Forms.{Stands}
use Rattle.lift_ir.specs.Lowering as ir
use Rattle.lift_ir.specs.Lowering.{Written, Argument, Element, Lowered, element_ty, lower}
use Rattle.lift_ir.specs.Types.{Ty}
use Rattle.lift_ir.specs.Lowerable.{IsStaged}
use Rattle.lift_ir.proofs.Elements.{from_ir}
use Rattle.lift_ir.proofs.Lets.{argument_let, let_parts}
use Rattle.lift_ir.proofs.Reshaped.{through_layout}
use Rattle.lowered_tree.specs.Around.{Around, passed}
use Rattle.lowered_tree.specs.declared.rule.NestRule.TheVariants.{N5, N10}
use Rattle.lowered_tree.specs.Forms.{is_written_through, shows_local_map}
use Rattle.lowered_tree.specs.Kinds.{is_task}
use Rattle.nest_premises.specs.Unbroken.{AllUnbroken}
use Rattle.nest_premises.proofs.Rules.{moved, of_layout, true_is_not_false, is_through, through}
use Rattle.nest_premises.proofs.Staged.{passes, refused}

pub body_staged : (v b : Tree) (a : PlainTy) (n m : Annotation) → IsStaged Written (tree.Let v b) (Two a n m) → ir.is_element a ≡ false → IsStaged Written b m
body_staged v b a n m (inl o) e = true_is_not_false (ir.is_element a) o.0 e
body_staged v b a n m (inr (inl o)) e = o.3
body_staged v b a n m (inr (inr o)) e = o.3

-- a map over a group's items is parallel
shows_no_task : {A : Type 0} (t : Tree) → shows_local_map t ≡ true → is_task t ≡ true → A
shows_no_task (tree.Unary (unary.Layout l) t) e z = shows_no_task t (and_parts (is_written_through l) (shows_local_map t) e).1 z
shows_no_task (tree.Let v b) e z = shows_no_task b e (and_parts (is_task v) (is_task b) z).1
shows_no_task (tree.Map (map_kind.Over l k) xs b) e z = absurd (cc)
shows_no_task (tree.Map map_kind.Plain xs b) e z = absurd (cc)
shows_no_task (tree.Map map_kind.Sequential xs b) e z = absurd (cc)
shows_no_task (tree.Variable v) e z = absurd (cc)
shows_no_task (tree.Number v) e z = absurd (cc)
shows_no_task (tree.Input v) e z = absurd (cc)
shows_no_task (tree.Unary (unary.Div j) t) e z = absurd (cc)
shows_no_task (tree.Unary (unary.Rem j) t) e z = absurd (cc)
shows_no_task (tree.Unary unary.First t) e z = absurd (cc)
shows_no_task (tree.Unary unary.Second t) e z = absurd (cc)
shows_no_task (tree.Unary (unary.Slide j l) t) e z = absurd (cc)
shows_no_task (tree.Unary (unary.Pad j l) t) e z = absurd (cc)
shows_no_task (tree.Unary unary.ToLocal t) e z = absurd (cc)
shows_no_task (tree.Unary unary.ToPrivate t) e z = absurd (cc)
shows_no_task (tree.Unary unary.Then t) e z = absurd (cc)
shows_no_task (tree.Binary f t u) e z = absurd (cc)
shows_no_task (tree.Select t u x) e z = absurd (cc)
shows_no_task (tree.Fold j t u x) e z = absurd (cc)

-- what stored elements, and lets whose bodies are such, are in writing position
module _ (d : Declared) (P : Lowered → Type 0) (stored : (ty : Ty) (u : Lowered) → P (low.Store ty u)) (v b : Tree) (a : PlainTy) (n m : Annotation) where
  pub by_lets : (ir.is_element a ≡ false → P (lower d.names Written b m)) → ((ty : Ty) (u w : Lowered) → P w → P (low.LetElement ty u w)) → (ir.is_element a ≡ false → ir.is_element (type_in n) ≡ false → P (lower d.names Written b m) → P (low.LetArray (lower d.names Argument v n) (lower d.names Written b m))) → P (lower d.names Written (tree.Let v b) (Two a n m))
  by_lets f h k = go (ir.is_element a) (ir.is_element (type_in n)) f k
    where
      go : (x y : Bool) → (x ≡ false → P (lower d.names Written b m)) → (x ≡ false → y ≡ false → P (lower d.names Written b m) → P (low.LetArray (lower d.names Argument v n) (lower d.names Written b m)))
          → P (let whole = if y then low.LetElement (element_ty (type_in n)) (lower d.names (if y then Element else Argument) v n) (lower d.names (if x then Element else Written) b m) else low.LetArray (lower d.names (if y then Element else Argument) v n) (lower d.names (if x then Element else Written) b m) in if x then low.Store (element_ty a) whole else whole)
      go true y f k = stored _ _
      go false true f k = h _ _ _ (f refl)
      go false false f k = k refl refl (f refl)

module _ (d : Declared) where
  mutual
    pub argument_stands : (s : Around) (g : List PlainTy) (t : Tree) (n : Annotation) → Annotates d g t n → AllUnbroken s t n → IsStaged Argument t n → is_task t ≡ true → Stands false (lower d.names Argument t n)
    argument_stands s g (tree.Variable v) (Leaf a) y h o z = tt
    argument_stands s g (tree.Input i) (Leaf a) y h o z = tt
    argument_stands s g (tree.Unary unary.First t) (One a n) y h o z = argument_stands _ g t n y.0 h.1 o z
    argument_stands s g (tree.Unary unary.Second t) (One a n) y h o z = argument_stands _ g t n y.0 h.1 o z
    argument_stands s g (tree.Unary (unary.Layout l) t) (One a n) y h o z = through_layout (Stands false) (λ y u i k. k) d.names Argument l a (type_in n) _ (argument_stands _ g t n y.0 h.1 o z)
    argument_stands s g (tree.Unary (unary.Slide j l) t) (One a n) y h o z = argument_stands _ g t n y.0 h.1 o z
    argument_stands s g (tree.Unary (unary.Pad j l) t) (One a n) y h o z = argument_stands _ g t n y.0 h.1 o z
    argument_stands s g (tree.Unary unary.ToLocal t) (One a n) y h o z = shows_no_task t (not-false (shows_local_map t) (or_parts (not s.in_group || s.in_local || s.in_rows) (not (shows_local_map t)) (h.0 N5)).1) z
    argument_stands s g (tree.Unary unary.ToPrivate t) (One a n) y h o z = written_stands _ g t n y.0 h.1 o.3 z refl
    argument_stands s g (tree.Binary binary.Zip t u) (Two a n m) y h o z =
        (argument_stands _ g t n y.0 h.1 o.0 (and_parts (is_task t) (is_task u) z).0, argument_stands _ g u m y.1 h.2 o.1 (and_parts (is_task t) (is_task u) z).1)
    argument_stands s g (tree.Let v b) (Two a n m) y h o z =
        subst (Stands false) (sym (argument_let d.names v b a n m o.0)) (argument_stands _ g v n y.0 h.1 o.1 (and_parts (is_task v) (is_task b) z).0, argument_stands _ (type_in n ∷ g) b m y.1 h.2 o.2 (and_parts (is_task v) (is_task b) z).1)
    argument_stands s g _ _ y h o z = absurd o

    pub written_stands : (s : Around) (g : List PlainTy) (t : Tree) (n : Annotation) → Annotates d g t n → AllUnbroken s t n → IsStaged Written t n → is_task t ≡ true → s.is_written ≡ true → Stands true (lower d.names Written t n)
    written_stands s g (tree.Variable v) (Leaf a) y h o z w = tt
    written_stands s g (tree.Number v) (Leaf a) y h o z w = tt
    written_stands s g (tree.Unary (unary.Div j) t) (One a n) y h o z w = tt
    written_stands s g (tree.Unary (unary.Rem j) t) (One a n) y h o z w = tt
    written_stands s g (tree.Unary unary.First t) (One a n) y h o z w = tt
    written_stands s g (tree.Unary unary.Second t) (One a n) y h o z w = tt
    written_stands s g (tree.Unary (unary.Layout l) t) (One a n) y h o z w =
        let e = of_layout d.names l (type_in n) a y.1 in
        let k = through s l t a n (is_through s l t a n h.0 w e) h.1 in
        through_layout (Stands true) (λ y u i k. (i, k)) d.names Written l a (type_in n) _ (written_stands (passed s l a) g t n y.0 k o z (passes s.is_written (is_element a) w e))
    written_stands s g (tree.Unary (unary.Slide j l) t) (One a n) y h o z w = refused s.is_written (is_element a) (h.0 N10) w (moved is_element false a (types.ArrayOf _ _) y.1.6 refl)
    written_stands s g (tree.Unary (unary.Pad j l) t) (One a n) y h o z w = refused s.is_written (is_element a) (h.0 N10) w (moved is_element false a (types.ArrayOf _ _) y.1.3 refl)
    written_stands s g (tree.Binary (binary.Operator q) t u) (Two a n m) y h o z w = tt
    written_stands s g (tree.Binary binary.Pair t u) (Two a n m) y h o z w = tt
    written_stands s g (tree.Select t u x) (Three a n m l) y h o z w = tt
    written_stands s g (tree.Let v b) (Two a n m) y h o z w =
        by_lets d (Stands true) (λ c u. tt) v b a n m
        (λ e. written_stands _ (type_in n ∷ g) b m y.1 h.2 (body_staged v b a n m o e) (and_parts (is_task v) (is_task b) z).1 (passes s.is_written (is_element a) w (from_ir false a e)))
        (λ c u w k. k)
        (λ e i k. (argument_stands _ g v n y.0 h.1 (let_parts v b a n m o i).1 (and_parts (is_task v) (is_task b) z).0, k))
    written_stands s g (tree.Map map_kind.Plain xs b) (Two a n m) y h o z w =
        (argument_stands _ g xs n y.2 h.1 o.0 (and_parts (is_task xs) (is_task b) z).0, written_stands _ (y.0 ∷ g) b m y.4 h.2 o.1 (and_parts (is_task xs) (is_task b) z).1 refl)
    written_stands s g (tree.Map map_kind.Sequential xs b) (Two a n m) y h o z w =
        (argument_stands _ g xs n y.2 h.1 o.0 (and_parts (is_task xs) (is_task b) z).0, written_stands _ (y.0 ∷ g) b m y.4 h.2 o.1 (and_parts (is_task xs) (is_task b) z).1 refl)
    written_stands s g (tree.Map (map_kind.Over l k) xs b) (Two a n m) y h o z w = absurd (cc)
    written_stands s g (tree.Fold j xs x b) (Three a n m l) y h o z w = argument_stands _ g xs n y.2 h.1 o.0 (and_parts (is_task xs) (is_task x) (and_parts (is_task xs && is_task x) (is_task b) z).0).0
    written_stands s g _ _ y h o z w = absurd o
