-- Where a program's term has types, it is judged to have them, unless a limit is passed.
use Rattle.std.proofs.Common.{◌≡◌, ℕ, List, [], ◌∷◌, length, refl, sym, ap, subst, Bool, true, false}
use Rattle.std.specs.Prelude.{IsTrue, ◌≢◌, Result, Ok, Err}
use Rattle.std.proofs.lemmas.Bool.{and_from}
use Rattle.size_arith.specs.declared.names.Name.{Name}
use Rattle.size_arith.specs.declared.poly.Monomial.{Monomial}
use Rattle.lift_tree.specs.Tree.{Tree, Variable, Number, Input, Unary, Binary, Select, Let, Map, Fold}
use Rattle.lift_tree.specs.Types.{PlainTy, U32, U32x4, PairOf, ArrayOf, IsElement, AreNumbers, HoldsElements, IsOutput, IsFormed, is_element, are_numbers, holds_elements}
use Rattle.lift_tree.specs.Typing.{Declared, constant, declared_by, HasOutput}
use Rattle.lift_tree.specs.WorkedOut.{range_of, worked_out}
use Rattle.lift_tree.specs.Programs.{PlainInput, PlainProgram}
use Rattle.lift_tree.specs.Lists.{Every}
use Rattle.lift_tree.specs.Annotations.{Annotation, Leaf, One, Two, Three, type_in, Annotates}
use Rattle.lift_tree.proofs.Annotated.{annotated_is_typed}
use Rattle.lift_tree.proofs.Formed.{formed}
use Rattle.lift_tree.proofs.Members.{length-map}
use Rattle.pattern_types.specs.declared.refusal.Rule.{Rule}
use Rattle.pattern_types.specs.declared.refusal.Rule.TheVariants as rule
use Rattle.pattern_types.specs.declared.refusal.Spot.TheVariants as spot
use Rattle.pattern_types.specs.declared.refusal.TypeRefusal.{TypeRefusal}
use Rattle.pattern_types.specs.declared.refusal.TypeRefusal.TheVariants.{IllTyped, Limit, Memory}
use Rattle.pattern_types.specs.declared.fault.Fault.{Fault}
use Rattle.pattern_types.specs.declared.fault.Fault.TheVariants as fault
use Rattle.pattern_types.specs.declared.fault.NodeFault.{NodeFault}
use Rattle.lift_tree.specs.Belonging.{Belongs}
use Rattle.pattern_types.specs.Numbers.{NumbersFit}
use Rattle.pattern_types.specs.Scopes.{nth_type}
use Rattle.pattern_types.specs.Tests.{is_output, is_same_element}
use Rattle.pattern_types.specs.Judged as table
use Rattle.pattern_types.specs.Judged.{under, select_row, element_in, map_end, fold_start, fold_end, judged, at_node, refusal_at, output_judged, program_judged}
use Rattle.pattern_types.specs.Judgement.{HasTypes, IsJudgement, TypesAreJudged, OutputsHaveTypes, OutputsBelong, Explains}
use Rattle.lift_tree.specs.Limits.{OuterFits, NodesFit, IsWithinLimits}
use Rattle.pattern_types.proofs.Results.{under_ok}
use Rattle.pattern_types.proofs.Table.{IsGood, constant_low}
use Rattle.pattern_types.proofs.Inputs.{inputs_right}
use Rattle.pattern_types.proofs.Right.{judged_right, get_nth}
use Rattle.pattern_types.proofs.Whole.{every_formed}
use Rattle.pattern_types.proofs.Judging.{done, Judges, Comes, Refuses, itself, of_node, answers, judges_same, judges_then, judges_alone, judges_three, judges_demand, judges_here, judges_under}
use Rattle.pattern_types.proofs.Fitted.{judges_formed, judges_inputs, fault_in}
use Rattle.pattern_types.proofs.Unary.{judges_unary}
use Rattle.pattern_types.proofs.Forms.{judges_binary, element_is}
use Rattle.pattern_types.proofs.Typed.{named, nodes_of}

-- ---- rows with binders
judges_select : (a b c : PlainTy) → a ≡ U32 → b ≡ U32 → c ≡ U32 → Judges itself (Unit {0}) U32 (select_row a b c)
judges_select a b c e f g =
    subst (λ z. Judges itself (Unit {0}) U32 (select_row z b c)) (sym e)
    (subst (λ z. Judges itself (Unit {0}) U32 (select_row U32 z c)) (sym f) (subst (λ z. Judges itself (Unit {0}) U32 (select_row U32 U32 z)) (sym g) (answers refl)))

judges_element : (r : Rule) (a x : PlainTy) (l : List Monomial) → a ≡ ArrayOf x l → Judges itself (Unit {0}) x (element_in r a)
judges_element r a x l e = subst (λ z. Judges itself (Unit {0}) x (element_in r z)) (sym e) (answers refl)

judges_map : (names : List Name) (a b c x : PlainTy) (l : List Monomial) → a ≡ ArrayOf x l → c ≡ ArrayOf b l → IsGood names a → IsFormed names c → Judges itself (OuterFits names c) c (map_end names a b)
judges_map names a b c x l e f g o =
    subst (λ z. Judges itself (OuterFits names c) c (map_end names z b)) (sym e)
    (subst (λ z. IsFormed names z → Judges itself (OuterFits names z) z (map_end names (ArrayOf x l) b)) (sym f) (λ h. judges_formed names b l (subst (IsGood names) e g).1 h.0) o)

judges_start : (a s x : PlainTy) (l : List Monomial) → a ≡ ArrayOf x l → IsElement s → Judges itself (Unit {0}) x (fold_start a s)
judges_start a s x l e h =
    judges_same (judges_then _ (judges_element rule.Fold a x l e) (λ f w. judges_demand (is_element s) rule.Fold _ (element_is s h) (answers refl))) (λ w. tt) (λ w. (tt, tt))

same_is : (a : PlainTy) → IsElement a → IsTrue (is_same_element a a)
same_is U32 h = refl
same_is U32x4 h = refl
same_is (PairOf a b) h = and_from (is_same_element a a) (is_same_element b b) (same_is a h.0) (same_is b h.1)
same_is (ArrayOf a n) h = absurd h

judges_end : (names : List Name) (s b c : PlainTy) → b ≡ s → IsElement s → c ≡ ArrayOf s (constant 1) → IsFormed names c → Judges itself (OuterFits names c) c (fold_end names s b)
judges_end names s b c e h f o =
    subst (λ z. Judges itself (OuterFits names c) c (fold_end names s z)) (sym e)
    (subst (λ z. IsFormed names z → Judges itself (OuterFits names z) z (fold_end names s s)) (sym f) (λ k.
    judges_demand (is_same_element s s) rule.Fold _ (same_is s h) (judges_formed names s (constant 1) (constant_low 1) k.0)) o)

-- ---- terms
module _ (d : Declared) (good : Every (IsGood d.names) d.inputs) where
  formed_in : (g : List PlainTy) (t : Tree) (n : Annotation) → Every (IsGood d.names) g → Annotates d g t n → IsFormed d.names (type_in n)
  formed_in g t n e h = formed d (every_formed d.names d.inputs good) g t (type_in n) (every_formed d.names g e) (annotated_is_typed d g t n h)

  good_in : (g : List PlainTy) (t : Tree) (n : Annotation) (i : ℕ) → Every (IsGood d.names) g → NumbersFit t → Belongs (length d.names) (length d.inputs) (length g) t → under i (judged d g t) ≡ Ok n → IsGood d.names (type_in n)
  good_in g t n i e f b h = (judged_right d good g t n e f b (under_ok i (judged d g t) n h)).1

  pub judging : (g : List PlainTy) (t : Tree) (n : Annotation) → Every (IsGood d.names) g → NumbersFit t → Belongs (length d.names) (length d.inputs) (length g) t → Annotates d g t n → Judges of_node (NodesFit d.names t n) n (judged d g t)
  judging g (Variable i) (Leaf a) e f b h = answers (let k = get_nth g i b in let q : nth_type g i ≡ a = cc in ap Leaf q)
  judging g (Number i) (Leaf a) e f b h = answers (ap Leaf (sym h.1))
  judging g (Input i) (Leaf a) e f b h = answers (let k = get_nth d.inputs i b in let q : nth_type d.inputs i ≡ a = cc in ap Leaf q)
  judging g (Unary o t) (One a n) e f b h =
      judges_then _ (judges_under 0 (judging g t n e f b.1 h.0)) (λ q w.
      judges_alone (judges_then _ (judges_here (judges_unary d.names o (type_in n) a h.1 (good_in g t n 0 e f b.1 q) (formed_in g (Unary o t) (One a n) e h))) (λ r v. answers refl)))
  judging g (Binary o t u) (Two a n m) e f b h =
      judges_three
      (judges_then _ (judges_under 0 (judging g t n e f.0 b.0 h.0)) (λ q w.
      judges_then _ (judges_under 1 (judging g u m e f.1 b.1 h.1)) (λ r v.
      judges_alone (judges_then _ (judges_here (judges_binary d.names o (type_in n) (type_in m) a h.2 (good_in g t n 0 e f.0 b.0 q) (formed_in g (Binary o t u) (Two a n m) e h))) (λ s x. answers refl)))))
  judging g (Select t u v) (Three a n m k) e f b h =
      judges_three
      (judges_then _ (judges_under 0 (judging g t n e f.0 b.0 h.0)) (λ q w.
      judges_then _ (judges_under 1 (judging g u m e f.1 b.1 h.1)) (λ r x.
      judges_alone (judges_then _ (judges_under 2 (judging g v k e f.2 b.2 h.2)) (λ s y.
      judges_same (judges_then _ (judges_here (judges_select (type_in n) (type_in m) (type_in k) h.3 h.4 h.5)) (λ z c. answers (ap (λ i. Three i n m k) (sym h.6)))) (λ c. tt) (λ c. (tt, tt)))))))
  judging g (Let v t) (Two a n m) e f b h =
      judges_then _ (judges_under 0 (judging g v n e f.0 b.0 h.0)) (λ q w.
      judges_alone (judges_then _ (judges_under 1 (judging (type_in n ∷ g) t m (good_in g v n 0 e f.0 b.0 q, e) f.1 b.1 h.1)) (λ r x. answers (ap (λ i. Two i n m) (sym h.2)))))
  judging g (Map o xs t) (Two a n m) e f b h =
      judges_same
      (judges_then _ (judges_under 0 (judging g xs n e f.0 b.0 h.2)) (λ q w.
      let k = good_in g xs n 0 e f.0 b.0 q in
      judges_then _ (judges_here (judges_element rule.Map (type_in n) h.0 h.1 h.3)) (λ r x.
      judges_then _ (judges_under 1 (judging (h.0 ∷ g) t m ((subst (IsGood d.names) h.3 k).2, e) f.1 b.1 h.4)) (λ s y.
      judges_then _ (judges_here (judges_map d.names (type_in n) (type_in m) a h.0 h.1 h.3 h.5 k (formed_in g (Map o xs t) (Two a n m) e h))) (λ z c. answers refl)))))
      (λ w. (w.0, w.1.1.0, w.1.1.1.0))
      (λ w. (w.0, (tt, (w.1, (w.2, tt)))))
  judging g (Fold o xs s t) (Three a n m k) e f b h =
      judges_same
      (judges_then _ (judges_under 0 (judging g xs n e f.0 b.0 h.2)) (λ q w.
      let j = good_in g xs n 0 e f.0 b.0 q in
      judges_then _ (judges_under 1 (judging g s m e f.1 b.1 h.4)) (λ r x.
      let i = good_in g s m 1 e f.1 b.1 r in
      judges_then _ (judges_here (judges_start (type_in n) (type_in m) h.0 h.1 h.3 h.5)) (λ p y.
      judges_then _ (judges_under 2 (judging (h.0 ∷ type_in m ∷ g) t k ((subst (IsGood d.names) h.3 j).2, (i, e)) f.2 b.2 h.6)) (λ z c.
      judges_then _ (judges_here (judges_end d.names (type_in m) (type_in k) a h.7 h.5 h.8 (formed_in g (Fold o xs s t) (Three a n m k) e h))) (λ u v. answers refl))))))
      (λ w. (w.0, w.1.0, w.1.1.1.0, w.1.1.1.1.0))
      (λ w. (w.0, (w.1, (tt, (w.2, (w.3, tt))))))
  judging g _ _ e f b h = absurd h

-- ---- programs
numbers_are : (a : PlainTy) → AreNumbers a → IsTrue (are_numbers a)
numbers_are U32 h = refl
numbers_are U32x4 h = absurd h
numbers_are (PairOf a b) h = and_from (are_numbers a) (are_numbers b) (numbers_are a h.0) (numbers_are b h.1)
numbers_are (ArrayOf a n) h = absurd h

holds_is : (a : PlainTy) → HoldsElements a → IsTrue (holds_elements a)
holds_is U32 h = refl
holds_is U32x4 h = refl
holds_is (PairOf a b) h = and_from (are_numbers a) (are_numbers b) (numbers_are a h.0) (numbers_are b h.1)
holds_is (ArrayOf a n) h = holds_is a h

pub output_is : (a : PlainTy) → IsOutput a → IsTrue (is_output a)
output_is U32 h = absurd h
output_is U32x4 h = absurd h
output_is (PairOf a b) h = absurd h
output_is (ArrayOf a n) h = holds_is a h

judges_output : (n : Annotation) → IsOutput (type_in n) → Judges of_node (Unit {0}) n (output_judged n)
judges_output n h =
    judges_same (judges_then _ (judges_here (demanded (is_output (type_in n)) (output_is (type_in n) h))) (λ e w. answers refl)) (λ w. tt) (λ w. (tt, tt))
  where
    demanded : (b : Bool) → IsTrue b → Judges itself (Unit {0}) done (table.demand b rule.Output)
    demanded true e = answers refl
    demanded false e = absurd (cc)

judges_node : {w : Type 0} {a : Annotation} {r : Result Annotation NodeFault} → Judges of_node w a r → Judges fault_in w a (at_node r)
judges_node {w = w} {a = a} {r = r} h = record { comes = go r h.comes }
  where
    refused : (p : List ℕ) (f : Fault) → Refuses w f → Refuses w (fault_in (refusal_at (spot.Node p) f))
    refused p (fault.Breaks r) c = c
    refused p (fault.Passes l n) c = c
    refused p fault.Memory c = c

    go : (r : Result Annotation NodeFault) → Comes of_node w a r → Comes fault_in w a (at_node r)
    go (Ok b) c = c
    go (Err f) c = refused f.place f.fault c

all_named : (p : PlainProgram) (t : Tree) (a : PlainTy) → HasOutput p t a → Belongs (length p.sizes) (length p.inputs) 0 t × NumbersFit t
all_named p t a h =
    let d = declared_by p in
    let n = named d h.declared.inputs [] t a tt h.typed in (
      subst (λ z. Belongs z (length p.inputs) 0 t) (length-map range_of p.sizes) (subst (λ z. Belongs (length d.names) z 0 t) (length-map (λ (i : PlainInput). worked_out d.names i.ty) p.inputs) n.0),
      n.1,
    )

output_of : (p : PlainProgram) (t : Tree) (n : Annotation) → HasTypes p t n → HasOutput p t (type_in n)
output_of p t n h = record { declared = h.declared; typed = annotated_is_typed (declared_by p) [] t n h.nodes; output = h.output }

judges_program : (p : PlainProgram) (t : Tree) (n : Annotation) → HasTypes p t n → Judges fault_in (IsWithinLimits p t n) n (program_judged p t)
judges_program p t n h =
    let d = declared_by p in
    let k = named d h.declared.inputs [] t (type_in n) tt (annotated_is_typed d [] t n h.nodes) in
    judges_same
    (judges_then _ (judges_inputs d.names 0 p.inputs h.declared.inputs) (λ e w.
    let good = (inputs_right d.names 0 p.inputs d.inputs e).1 in
    judges_node (judges_then _ (judging d good [] t n tt k.1 k.0 h.nodes) (λ f v. judges_output n h.output))))
    (λ w. record { inputs = w.0; nodes = w.1.0 })
    (λ w. (w.inputs, (w.nodes, tt)))

is_judgement : (p : PlainProgram) (t : Tree) (n : Annotation) (r : Result Annotation TypeRefusal) → Comes fault_in (IsWithinLimits p t n) n r → IsJudgement p t n r
is_judgement p t n (Ok m) h = h
is_judgement p t n (Err (IllTyped s r)) h = h
is_judgement p t n (Err (Limit l s c)) h = h
is_judgement p t n (Err Memory) h = h

pub types_are_judged : TypesAreJudged
types_are_judged p t n h = is_judgement p t n (program_judged p t) (judges_program p t n h).comes

pub outputs_have_types : OutputsHaveTypes
outputs_have_types p t a h =
    let n = nodes_of (declared_by p) [] t a h.typed in
    (n.0, record { declared = h.declared; nodes = n.1; output = subst IsOutput (sym n.2) h.output }, n.2)

pub outputs_belong : OutputsBelong
outputs_belong p t a h = all_named p t a h

-- the types that are judged pass no limit
pub judged_within : (p : PlainProgram) (t : Tree) (n : Annotation) → HasTypes p t n → program_judged p t ≡ Ok n → IsWithinLimits p t n
judged_within p t n h e = (subst (IsJudgement p t n) e (types_are_judged p t n h)).1

pub refusals_explain : (p : PlainProgram) (t : Tree) (e : TypeRefusal) → program_judged p t ≡ Err e → Explains e p t
refusals_explain p t (IllTyped s r) e = λ a h. let n = outputs_have_types p t a h in subst (IsJudgement p t n.0) e (types_are_judged p t n.0 n.1)
refusals_explain p t (Limit l s c) e = λ n h. subst (IsJudgement p t n) e (types_are_judged p t n h)
refusals_explain p t Memory e = tt

pub explained : (p : PlainProgram) (t : Tree) (e : TypeRefusal) → (e ≢ Memory → program_judged p t ≡ Err e) → Explains e p t
explained p t (IllTyped s r) h = refusals_explain p t (IllTyped s r) (h (λ q. cc))
explained p t (Limit l s c) h = refusals_explain p t (Limit l s c) (h (λ q. cc))
explained p t Memory h = tt
