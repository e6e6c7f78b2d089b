-- Where no parallel map is on top of a term without a broken rule, none is in it.
use Rattle.std.proofs.Common.{◌≡◌, Bool, true, false, List, ◌∷◌, None, refl, inl, inr}
use Rattle.std.proofs.lemmas.Bool.{and_from, and_parts, or_from, or_left, or_right, not_from_false}
use Rattle.std.specs.Prelude.{not, ◌&&◌, ◌||◌, if◌then◌else◌}
use Rattle.lift_tree.specs.declared.layout.Layout as layout
use Rattle.lift_tree.specs.declared.term.UnaryForm.TheVariants as unary
use Rattle.lift_tree.specs.declared.term.BinaryForm.TheVariants as binary
use Rattle.lift_tree.specs.declared.term.Dimension.TheVariants.{X, Y}
use Rattle.lift_tree.specs.declared.term.Level.TheVariants.{Launch, Groups, Items}
use Rattle.lift_tree.specs.declared.term.MapKind.{MapKind}
use Rattle.lift_tree.specs.declared.term.MapKind.TheVariants as map_kind
use Rattle.lift_tree.specs.Tree as tree
use Rattle.lift_tree.specs.Tree.{Tree}
use Rattle.lift_tree.specs.Types as types
use Rattle.lift_tree.specs.Types.{PlainTy, is_element}
use Rattle.lift_tree.specs.Typing.{Declared}
use Rattle.lift_tree.specs.Annotations.{Annotation, Leaf, One, Two, Three, type_in, Annotates}
use Rattle.lift_ir.specs.Lowering.{Written}
use Rattle.lift_ir.specs.Lowerable.{IsStaged}
use Rattle.lift_ir.proofs.Elements.{from_ir}
use Rattle.lowered_tree.specs.Around.{Around, laid_out, passed}
use Rattle.lowered_tree.specs.declared.rule.NestRule.TheVariants.{N1, N2, N9, N10}
use Rattle.lowered_tree.specs.Forms.{is_written_through}
use Rattle.lowered_tree.specs.Kinds.{is_parallel, is_task}
use Rattle.lowered_tree.specs.Kind.{spread_over, nest_kind}
use Rattle.lowered_tree.specs.declared.kind.NestKind.{NestKind}
use Rattle.lowered_tree.specs.declared.kind.NestKind.TheVariants.{Task, OverLaunch, OverGroups, OverGrid}
use Rattle.nest_premises.specs.Unbroken.{AllUnbroken}
use Rattle.nest_premises.proofs.Rules.{spared, true_is_not_false, clash, moved, of_layout, still_none, not_awaited, below, is_through, through, seen}
use Rattle.nest_premises.proofs.Staged.{passes, refused}
use Rattle.nest_premises.proofs.Alone.{three, element_alone, argument_alone}

-- a parallel map is on top, seen through layouts and the bodies of lets
abbrev pub IsSpread : Tree → Type 0
IsSpread t = nest_kind t ≡ Task → ⊥

spread_parallel : (k : MapKind) → (spread_over k ≡ Task → ⊥) → is_parallel k ≡ true
spread_parallel map_kind.Plain e = absurd (e refl)
spread_parallel (map_kind.Over l k) e = refl
spread_parallel map_kind.Sequential e = absurd (e refl)

-- a kind is that of one work-item or isn't
pub by_kind : {A : Type 0} (k : NestKind) → (k ≡ Task → A) → ((k ≡ Task → ⊥) → A) → A
by_kind Task f h = f refl
by_kind OverLaunch f h = h (λ e. absurd (cc))
by_kind OverGroups f h = h (λ e. absurd (cc))
by_kind OverGrid f h = h (λ e. absurd (cc))

pub kind_of_task : (t : Tree) → is_task t ≡ true → nest_kind t ≡ Task
kind_of_task (tree.Unary (unary.Layout l) t) z = go (is_written_through l) (kind_of_task t z)
  where
    go : (x : Bool) → nest_kind t ≡ Task → (if x then nest_kind t else Task) ≡ Task
    go true e = e
    go false e = refl
kind_of_task (tree.Let v b) z = kind_of_task b (and_parts (is_task v) (is_task b) z).1
kind_of_task (tree.Map map_kind.Plain xs b) z = refl
kind_of_task (tree.Map (map_kind.Over l k) xs b) z = absurd (cc)
kind_of_task (tree.Map map_kind.Sequential xs b) z = refl
kind_of_task (tree.Variable v) z = refl
kind_of_task (tree.Number v) z = refl
kind_of_task (tree.Input v) z = refl
kind_of_task (tree.Unary f t) z = refl
kind_of_task (tree.Binary f t u) z = refl
kind_of_task (tree.Select t u x) z = refl
kind_of_task (tree.Fold j t u x) z = refl

pub spread_no_task : (t : Tree) → IsSpread t → is_task t ≡ false
spread_no_task t e = go (is_task t) refl
  where
    go : (x : Bool) → is_task t ≡ x → x ≡ false
    go true z = absurd (e (kind_of_task t z))
    go false z = refl

-- through a layout that is written through
pub spread_through : (l : layout.Layout) (t : Tree) → IsSpread (tree.Unary (unary.Layout l) t) → (is_written_through l ≡ true) × IsSpread t
spread_through l t e = go (is_written_through l) e
  where
    go : (x : Bool) → ((if x then nest_kind t else Task) ≡ Task → ⊥) → (x ≡ true) × IsSpread t
    go true e = (refl, e)
    go false e = absurd (e refl)

module _ (d : Declared) where
  -- N9: where a parallel map is on top, no let of an element is above
  pub not_serial : {A : Type 0} (s : Around) (g : List PlainTy) (t : Tree) (n : Annotation) → Annotates d g t n → AllUnbroken s t n → s.in_serial ≡ true → IsSpread t → A
  not_serial s g (tree.Unary (unary.Layout l) t) (One a n) y h w e = not_serial (laid_out s l a) g t n y.0 h.1 (below (λ z. z.in_serial ≡ true) s l a w w) (spread_through l t e).1
  not_serial s g (tree.Let v b) (Two a n m) y h w e = not_serial _ (type_in n ∷ g) b m y.1 h.2 (or_left s.in_serial (is_element (type_in n)) w) e
  not_serial s g (tree.Map k xs b) (Two a n m) y h w e = true_is_not_false s.in_serial w (spared (is_parallel k) s.in_serial (h.0 N9) (spread_parallel k e))
  not_serial s g (tree.Variable v) n y h w e = absurd (e refl)
  not_serial s g (tree.Number v) n y h w e = absurd (e refl)
  not_serial s g (tree.Input v) n y h w e = absurd (e refl)
  not_serial s g (tree.Unary f t) (One a n) y h w e = absurd (e refl)
  not_serial s g (tree.Binary f t u) n y h w e = absurd (e refl)
  not_serial s g (tree.Select t u x) n y h w e = absurd (e refl)
  not_serial s g (tree.Fold j t u x) n y h w e = absurd (e refl)
  not_serial s g _ _ y h w e = absurd y

  pub let_of_array : (s : Around) (g : List PlainTy) (v b : Tree) (a : PlainTy) (n m : Annotation) → Annotates d (type_in n ∷ g) b m → AllUnbroken s (tree.Let v b) (Two a n m) → IsSpread b → is_element (type_in n) ≡ false
  let_of_array s g v b a n m y h e = go (is_element (type_in n)) refl
    where
      go : (x : Bool) → is_element (type_in n) ≡ x → x ≡ false
      go true i = not_serial _ (type_in n ∷ g) b m y h.2 (or_right s.in_serial (is_element (type_in n)) i) e
      go false i = refl

  -- N1, N2, N9, N10: where none is on top, none is in the term
  pub task_of_kind : (s : Around) (g : List PlainTy) (t : Tree) (n : Annotation) → Annotates d g t n → AllUnbroken s t n → IsStaged Written t n → s.is_written ≡ true → s.in_item ≡ false → s.in_group ≡ false → s.is_next_to_group ≡ false → s.awaited ≡ None → nest_kind t ≡ Task → is_task t ≡ true
  task_of_kind s g (tree.Variable v) (Leaf a) y h o w i q k c e = refl
  task_of_kind s g (tree.Number v) (Leaf a) y h o w i q k c e = refl
  task_of_kind s g (tree.Unary (unary.Div j) t) (One a n) y h o w i q k c e = element_alone t n o
  task_of_kind s g (tree.Unary (unary.Rem j) t) (One a n) y h o w i q k c e = element_alone t n o
  task_of_kind s g (tree.Unary unary.First t) (One a n) y h o w i q k c e = element_alone t n o
  task_of_kind s g (tree.Unary unary.Second t) (One a n) y h o w i q k c e = element_alone t n o
  task_of_kind s g (tree.Unary (unary.Layout l) t) (One a n) y h o w i q k c e =
      let v = of_layout d.names l (type_in n) a y.1 in
      let r = is_through s l t a n h.0 w v in
      task_of_kind (passed s l a) g t n y.0 (through s l t a n r h.1) o (passes s.is_written (is_element a) w v) i q k (still_none l s.awaited c) (seen l (nest_kind t) Task e r)
  task_of_kind s g (tree.Unary (unary.Slide j l) t) (One a n) y h o w i q k c e = refused s.is_written (is_element a) (h.0 N10) w (moved is_element false a (types.ArrayOf _ _) y.1.6 refl)
  task_of_kind s g (tree.Unary (unary.Pad j l) t) (One a n) y h o w i q k c e = refused s.is_written (is_element a) (h.0 N10) w (moved is_element false a (types.ArrayOf _ _) y.1.3 refl)
  task_of_kind s g (tree.Binary (binary.Operator r) t u) (Two a n m) y h o w i q k c e = and_from _ _ (element_alone t n o.0) (element_alone u m o.1)
  task_of_kind s g (tree.Binary binary.Pair t u) (Two a n m) y h o w i q k c e = and_from _ _ (element_alone t n o.0) (element_alone u m o.1)
  task_of_kind s g (tree.Select t u x) (Three a n m l) y h o w i q k c e = three _ _ _ (element_alone t n o.0) (element_alone u m o.1) (element_alone x l o.2)
  task_of_kind s g (tree.Let v b) (Two a n m) y h (inl o) w i q k c e = and_from _ _ (element_alone v n o.2) (element_alone b m o.3)
  task_of_kind s g (tree.Let v b) (Two a n m) y h (inr (inl o)) w i q k c e = and_from _ _ (element_alone v n o.2) (task_of_kind _ (type_in n ∷ g) b m y.1 h.2 o.3 (passes s.is_written (is_element a) w (from_ir false a o.0)) i q k refl e)
  task_of_kind s g (tree.Let v b) (Two a n m) y h (inr (inr o)) w i q k c e =
      and_from _ _
      (argument_alone d _ g v n y.0 h.1 (or_right s.in_argument (not (is_element (type_in n))) (not_from_false (is_element (type_in n)) (from_ir false (type_in n) o.1))) i q)
      (task_of_kind _ (type_in n ∷ g) b m y.1 h.2 o.3 (passes s.is_written (is_element a) w (from_ir false a o.0)) i q k refl e)
  task_of_kind s g (tree.Map map_kind.Plain xs b) (Two a n m) y h o w i q k c e = true_is_not_false true refl (h.0 N1)
  task_of_kind s g (tree.Map (map_kind.Over Launch r) xs b) (Two a n m) y h o w i q k c e = absurd (cc)
  task_of_kind s g (tree.Map (map_kind.Over Groups X) xs b) (Two a n m) y h o w i q k c e = absurd (cc)
  task_of_kind s g (tree.Map (map_kind.Over Groups Y) xs b) (Two a n m) y h o w i q k c e = absurd (cc)
  task_of_kind s g (tree.Map (map_kind.Over Items r) xs b) (Two a n m) y h o w i q k c e = clash (not s.is_next_to_group) _ (h.0 N2) (not_from_false s.is_next_to_group k) (not_awaited s.awaited (tree.Map (map_kind.Over Items r) xs b) c)
  task_of_kind s g (tree.Map map_kind.Sequential xs b) (Two a n m) y h o w i q k c e =
      and_from _ _
      (argument_alone d _ g xs n y.2 h.1 (or_right s.in_argument true refl) i q)
      (by_kind (nest_kind b)
      (task_of_kind _ (y.0 ∷ g) b m y.4 h.2 o.1 refl (or_from (s.in_item || false) false (or_from s.in_item false i refl) refl) (or_from s.in_group false q refl) refl refl)
      (not_serial _ (y.0 ∷ g) b m y.4 h.2 (or_right s.in_serial true refl)))
  task_of_kind s g (tree.Fold j xs x b) (Three a n m l) y h o w i q k c e = three _ _ _ (argument_alone d _ g xs n y.2 h.1 (or_right s.in_argument true refl) i q) (element_alone x m o.1) (element_alone b l o.2)
  task_of_kind s g _ _ y h o w i q k c e = absurd o
