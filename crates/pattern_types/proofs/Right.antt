-- Where a term is judged to have types, each node has its type.
use Rattle.std.proofs.Common.{◌≡◌, ℕ, zero, suc, ◌<◌, List, [], ◌∷◌, length, refl, sym, ap, subst, arith, Some}
use Rattle.std.specs.Prelude.{Ok, slice_get}
use Rattle.size_arith.specs.declared.names.Name.{Name}
use Rattle.size_arith.specs.declared.poly.Monomial.{Monomial}
use Rattle.lift_tree.specs.Tree.{Tree, Variable, Number, Input, Unary, Binary, Select, Let, Map, Fold}
use Rattle.lift_tree.specs.Types.{PlainTy, U32, U32x4, PairOf, ArrayOf, IsElement, is_element}
use Rattle.lift_tree.specs.Typing.{Declared, constant}
use Rattle.lift_tree.specs.Lists.{Every}
use Rattle.lift_tree.specs.Annotations.{Annotation, Leaf, One, Two, Three, type_in, Annotates}
use Rattle.pattern_types.specs.declared.refusal.Rule.{Rule}
use Rattle.pattern_types.specs.declared.refusal.Rule.TheVariants as rule
use Rattle.pattern_types.specs.declared.fault.Fault.{Fault}
use Rattle.pattern_types.specs.declared.fault.NodeFault.{NodeFault}
use Rattle.lift_tree.specs.Belonging.{Belongs}
use Rattle.pattern_types.specs.Numbers.{NumbersFit}
use Rattle.pattern_types.specs.Scopes.{nth_type}
use Rattle.pattern_types.specs.Tests.{is_same_element}
use Rattle.pattern_types.specs.Judged.{and_then, demand, here, under, unary_row, binary_row, select_row, number_row, element_in, map_end, fold_start, fold_end, judged}
use Rattle.pattern_types.proofs.Results.{yes, and_ok, demand_ok, here_ok, under_ok}
use Rattle.pattern_types.proofs.Unary.{unary_right}
use Rattle.pattern_types.proofs.Table.{IsGood, formed_right, binary_right, number_right, constant_low, is_element_so, same_element}

pub get_nth : (g : List PlainTy) (n : ℕ) → n < length g → slice_get g n ≡ Some (nth_type g n)
get_nth [] n h = absurd (omega arith)
get_nth (a ∷ g) zero h = refl
get_nth (a ∷ g) (suc n) h = get_nth g n (omega arith)

good_nth : (names : List Name) (g : List PlainTy) (n : ℕ) → Every (IsGood names) g → IsGood names (nth_type g n)
good_nth names [] n h = tt
good_nth names (a ∷ g) zero h = h.0
good_nth names (a ∷ g) (suc n) h = good_nth names g n h.1

same_node : (n m : Annotation) → yes NodeFault n ≡ Ok m → n ≡ m
same_node n m h = cc

abbrev pub Right : Declared → List PlainTy → Tree → Annotation → Type 0
Right d g t n = Annotates d g t n × IsGood d.names (type_in n)

select_right : (a b c z : PlainTy) → select_row a b c ≡ Ok z → (a ≡ U32) × (b ≡ U32) × (c ≡ U32) × (z ≡ U32)
select_right a b c z h =
    let p = and_ok (number_row a) (λ _. and_then (number_row b) (λ _. number_row c)) z h in
    let q = and_ok (number_row b) (λ _. number_row c) z p.2 in
    let x = number_right a p.0 p.1 in
    let y = number_right b q.0 q.1 in
    let w = number_right c z q.2 in
    (x.0, y.0, w.0, w.1)

pub element_right : (r : Rule) (a x : PlainTy) → element_in r a ≡ Ok x → (l : List Monomial) × (a ≡ ArrayOf x l)
element_right r U32 x h = absurd (cc)
element_right r U32x4 x h = absurd (cc)
element_right r (PairOf a b) x h = absurd (cc)
element_right r (ArrayOf a n) x h = (n, let e : a ≡ x = cc in ap (λ z. ArrayOf z n) e)

pub start_right : (a s x : PlainTy) → fold_start a s ≡ Ok x → (l : List Monomial) × (a ≡ ArrayOf x l) × IsElement s
start_right a s x h =
    let p = and_ok (element_in rule.Fold a) _ x h in
    let q = and_ok (demand (is_element s) rule.Fold) _ x p.2 in
    let l = element_right rule.Fold a p.0 p.1 in
    let o : yes Fault p.0 ≡ Ok x = q.2 in
    let e : p.0 ≡ x = cc in
    (l.0, subst (λ z. a ≡ ArrayOf z l.0) e l.1, is_element_so s (demand_ok _ _ q.0 q.1))

end_right : (names : List Name) (s b a : PlainTy) → IsGood names s → fold_end names s b ≡ Ok a → (s ≡ b) × (a ≡ ArrayOf s (constant 1)) × IsGood names a
end_right names s b a g h =
    let p = and_ok (demand (is_same_element s b) rule.Fold) _ a h in
    let f = formed_right names s a (constant 1) g (constant_low 1) p.2 in
    (same_element s b (demand_ok _ _ p.0 p.1), f.0, f.1)

module _ (d : Declared) (good : Every (IsGood d.names) d.inputs) where
  pub judged_right : (g : List PlainTy) (t : Tree) (n : Annotation) → Every (IsGood d.names) g → NumbersFit t → Belongs (length d.names) (length d.inputs) (length g) t → judged d g t ≡ Ok n → Right d g t n
  judged_right g (Variable i) n e f b h = subst (Right d g (Variable i)) (same_node (Leaf (nth_type g i)) n h) (get_nth g i b, good_nth d.names g i e)
  judged_right g (Number i) n e f b h = subst (Right d g (Number i)) (same_node (Leaf U32) n h) ((f, refl), tt)
  judged_right g (Input i) n e f b h = subst (Right d g (Input i)) (same_node (Leaf (nth_type d.inputs i)) n h) (get_nth d.inputs i b, good_nth d.names d.inputs i good)
  judged_right g (Unary o t) n e f b h =
      let p = and_ok (under 0 (judged d g t)) (λ m. and_then (here (unary_row d.names o (type_in m))) (λ a. Ok (One a m))) n h in
      let r = judged_right g t p.0 e f b.1 (under_ok 0 (judged d g t) p.0 p.1) in
      let q = and_ok (here (unary_row d.names o (type_in p.0))) (λ a. Ok (One a p.0)) n p.2 in
      let s = unary_right d.names (length d.names) o (type_in p.0) q.0 b.0 r.1 (here_ok _ q.0 q.1) in
      subst (Right d g (Unary o t)) (same_node (One q.0 p.0) n q.2) ((r.0, s.0), s.1)
  judged_right g (Binary o t u) n e f b h =
      let p = and_ok (under 0 (judged d g t)) _ n h in
      let r = judged_right g t p.0 e f.0 b.0 (under_ok 0 (judged d g t) p.0 p.1) in
      let q = and_ok (under 1 (judged d g u)) _ n p.2 in
      let s = judged_right g u q.0 e f.1 b.1 (under_ok 1 (judged d g u) q.0 q.1) in
      let v = and_ok (here (binary_row d.names o (type_in p.0) (type_in q.0))) _ n q.2 in
      let w = binary_right d.names o (type_in p.0) (type_in q.0) v.0 r.1 s.1 (here_ok _ v.0 v.1) in
      subst (Right d g (Binary o t u)) (same_node (Two v.0 p.0 q.0) n v.2) ((r.0, s.0, w.0), w.1)
  judged_right g (Select t u v) n e f b h =
      let p = and_ok (under 0 (judged d g t)) _ n h in
      let r = judged_right g t p.0 e f.0 b.0 (under_ok 0 (judged d g t) p.0 p.1) in
      let q = and_ok (under 1 (judged d g u)) _ n p.2 in
      let s = judged_right g u q.0 e f.1 b.1 (under_ok 1 (judged d g u) q.0 q.1) in
      let x = and_ok (under 2 (judged d g v)) _ n q.2 in
      let y = judged_right g v x.0 e f.2 b.2 (under_ok 2 (judged d g v) x.0 x.1) in
      let z = and_ok (here (select_row (type_in p.0) (type_in q.0) (type_in x.0))) _ n x.2 in
      let w = select_right _ _ _ z.0 (here_ok _ z.0 z.1) in
      subst (Right d g (Select t u v)) (same_node (Three z.0 p.0 q.0 x.0) n z.2) ((r.0, s.0, y.0, w.0, w.1, w.2, w.3), subst (IsGood d.names) (sym w.3) tt)
  judged_right g (Let v t) n e f b h =
      let p = and_ok (under 0 (judged d g v)) _ n h in
      let r = judged_right g v p.0 e f.0 b.0 (under_ok 0 (judged d g v) p.0 p.1) in
      let q = and_ok (under 1 (judged d (type_in p.0 ∷ g) t)) _ n p.2 in
      let s = judged_right (type_in p.0 ∷ g) t q.0 (r.1, e) f.1 b.1 (under_ok 1 (judged d (type_in p.0 ∷ g) t) q.0 q.1) in
      subst (Right d g (Let v t)) (same_node (Two (type_in q.0) p.0 q.0) n q.2) ((r.0, s.0, refl), s.1)
  judged_right g (Map k xs t) n e f b h =
      let p = and_ok (under 0 (judged d g xs)) _ n h in
      let r = judged_right g xs p.0 e f.0 b.0 (under_ok 0 (judged d g xs) p.0 p.1) in
      let q = and_ok (here (element_in rule.Map (type_in p.0))) _ n p.2 in
      let l = element_right rule.Map (type_in p.0) q.0 (here_ok _ q.0 q.1) in
      let o = subst (IsGood d.names) l.1 r.1 in
      let s = and_ok (under 1 (judged d (q.0 ∷ g) t)) _ n q.2 in
      let y = judged_right (q.0 ∷ g) t s.0 (o.2, e) f.1 b.1 (under_ok 1 (judged d (q.0 ∷ g) t) s.0 s.1) in
      let v = and_ok (here (map_end d.names (type_in p.0) (type_in s.0))) _ n s.2 in
      let w = formed_right d.names (type_in s.0) v.0 l.0 y.1 o.1 (subst (λ z. map_end d.names z (type_in s.0) ≡ Ok v.0) l.1 (here_ok _ v.0 v.1)) in
      subst (Right d g (Map k xs t)) (same_node (Two v.0 p.0 s.0) n v.2) ((q.0, l.0, r.0, l.1, y.0, w.0), w.1)
  judged_right g (Fold k xs s t) n e f b h =
      let p = and_ok (under 0 (judged d g xs)) _ n h in
      let r = judged_right g xs p.0 e f.0 b.0 (under_ok 0 (judged d g xs) p.0 p.1) in
      let i = and_ok (under 1 (judged d g s)) _ n p.2 in
      let j = judged_right g s i.0 e f.1 b.1 (under_ok 1 (judged d g s) i.0 i.1) in
      let q = and_ok (here (fold_start (type_in p.0) (type_in i.0))) _ n i.2 in
      let l = start_right (type_in p.0) (type_in i.0) q.0 (here_ok _ q.0 q.1) in
      let o = subst (IsGood d.names) l.1 r.1 in
      let u = and_ok (under 2 (judged d (q.0 ∷ type_in i.0 ∷ g) t)) _ n q.2 in
      let y = judged_right (q.0 ∷ type_in i.0 ∷ g) t u.0 (o.2, (j.1, e)) f.2 b.2 (under_ok 2 (judged d (q.0 ∷ type_in i.0 ∷ g) t) u.0 u.1) in
      let v = and_ok (here (fold_end d.names (type_in i.0) (type_in u.0))) _ n u.2 in
      let w = end_right d.names (type_in i.0) (type_in u.0) v.0 j.1 (here_ok _ v.0 v.1) in
      subst (Right d g (Fold k xs s t)) (same_node (Three v.0 p.0 i.0 u.0) n v.2) ((q.0, l.0, r.0, l.1, j.0, l.2, y.0, sym w.0, w.1), w.2)
