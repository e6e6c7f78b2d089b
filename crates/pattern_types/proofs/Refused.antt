-- A refusal names the first spot that has no type within the limits, and what is wrong there.
use Rattle.std.proofs.Common.{◌≡◌, ℕ, suc, ◌<◌, List, [], ◌∷◌, ◌++◌, length, refl, sym, ◌∙◌, subst, Bool, false, inl, inr}
use Rattle.std.specs.Prelude.{IsTrue, ◌⊎◌, Result, Ok, Err, map, None}
use Rattle.size_arith.specs.declared.names.Name.{Name}
use Rattle.size_arith.specs.declared.poly.Monomial.{Monomial}
use Rattle.size_arith.specs.Polynomial.{of_monomial, AllLow}
use Rattle.lift_tree.specs.declared.length.Part.{Part}
use Rattle.lift_tree.specs.Annotations.{Annotation, type_in}
use Rattle.lift_tree.specs.Belonging.{Belongs}
use Rattle.lift_tree.specs.InputTypes as written
use Rattle.lift_tree.specs.InputTypes.{Written}
use Rattle.lift_tree.specs.Limits.{InputFits, NodesFit}
use Rattle.lift_tree.specs.Lists.{Every}
use Rattle.lift_tree.specs.Programs.{PlainInput, PlainProgram}
use Rattle.lift_tree.specs.Tree.{Tree, Variable, Number, Input, Unary, Binary, Select, Let, Map, Fold}
use Rattle.lift_tree.specs.Types.{PlainTy, U32, IsFormed, IsOutput}
use Rattle.lift_tree.specs.Typing.{Declared, IsDeclared, constant, declared_by}
use Rattle.lift_tree.specs.WorkedOut.{product_of, with_part, length_of, worked_out, range_of}
use Rattle.lift_tree.proofs.Members.{length-map}
use Rattle.pattern_types.specs.declared.refusal.Rule.TheVariants as rule
use Rattle.pattern_types.specs.declared.refusal.TypeLimit.{TypeLimit}
use Rattle.pattern_types.specs.declared.refusal.Spot.TheVariants as spot
use Rattle.pattern_types.specs.declared.refusal.TypeRefusal.{TypeRefusal}
use Rattle.pattern_types.specs.declared.refusal.TypeRefusal.TheVariants.{IllTyped, Limit, Memory}
use Rattle.pattern_types.specs.declared.fault.Fault.{Fault}
use Rattle.pattern_types.specs.declared.fault.Fault.TheVariants as fault
use Rattle.pattern_types.specs.declared.fault.NodeFault.{NodeFault}
use Rattle.pattern_types.specs.Judged as judged
use Rattle.pattern_types.specs.Judged.{and_then, demand, within, here, under, sum_judged, input_judged, at_input, refusal_at, inputs_judged, at_node, output_judged, program_judged}
use Rattle.pattern_types.specs.Numbers.{NumbersFit}
use Rattle.pattern_types.specs.Refusals.{Any, most, CountsLength, Formed, formed, IsFault, products_along, sums_along, input_formed, input_lengths, Fits, IsRefusedAt, IsInputRefused, IsNoOutput, Names, RefusalsNameTheFirst}
use Rattle.pattern_types.specs.Tests.{is_output}
use Rattle.pattern_types.proofs.Results.{here_ok, under_ok, within_ok}
use Rattle.pattern_types.proofs.Products.{product_right}
use Rattle.pattern_types.proofs.Table.{IsGood, good_formed}
use Rattle.pattern_types.proofs.Inputs.{sum_right, input_right, inputs_right, at_input_ok}
use Rattle.pattern_types.proofs.Right.{judged_right, element_right, start_right}
use Rattle.pattern_types.proofs.Judging.{Comes, itself, of_node}
use Rattle.pattern_types.proofs.Fitted.{judges_input}
use Rattle.pattern_types.proofs.Reached.{judging, output_is}
use Rattle.pattern_types.proofs.Whole.{is_declared}
use Rattle.pattern_types.proofs.Proper.{inputs_fit}
use Rattle.pattern_types.proofs.Unary.{unary_faults}
use Rattle.pattern_types.proofs.Faults.{Faults, none, one, faults_then, demand_faults, within_faults, product_faults, array_faults, binary_faults, select_faults, map_start_faults, map_end_faults, fold_start_faults, fold_end_faults}

-- ---- places
pub here_faults : {A : Type 0} {P : Fault → Type 0} {Q : NodeFault → Type 0} {r : Result A Fault} → Faults P r → ((f : Fault) → P f → Q (record { place = []; fault = f })) → Faults Q (here r)
here_faults {A = A} {P = P} {Q = Q} {r = r} h k = go r h
  where
    go : (r : Result A Fault) → Faults P r → Faults Q (here r)
    go (Ok a) h = none a
    go (Err f) h = one (record { place = []; fault = f }) (k f (h.faults f refl))

pub under_faults : {A : Type 0} {P Q : NodeFault → Type 0} {r : Result A NodeFault} (i : ℕ) → Faults P r → ((e : NodeFault) → P e → Q (record { place = i ∷ e.place; fault = e.fault })) → Faults Q (under i r)
under_faults {A = A} {P = P} {Q = Q} {r = r} i h k = go r h
  where
    go : (r : Result A NodeFault) → Faults P r → Faults Q (under i r)
    go (Ok a) h = none a
    go (Err e) h = one (record { place = i ∷ e.place; fault = e.fault }) (k e (h.faults e refl))

faults_as : {A E : Type 0} {P Q : E → Type 0} {r : Result A E} → Faults P r → ((e : E) → P e → Q e) → Faults Q r
faults_as {r = r} h k = record { faults = λ e x. k e (h.faults e x) }

-- ---- terms
abbrev IsRefusedBy : Declared → List PlainTy → Tree → NodeFault → Type 0
IsRefusedBy d g t e = IsRefusedAt d g t e.place e.fault

module _ (d : Declared) (good : Every (IsGood d.names) d.inputs) where
  fits_in : (g : List PlainTy) (t : Tree) (n : Annotation) (i : ℕ) → Every (IsGood d.names) g → NumbersFit t → Belongs (length d.names) (length d.inputs) (length g) t
      → under i (judged.judged d g t) ≡ Ok n → Fits d g t n × IsGood d.names (type_in n)
  fits_in g t n i e f b h =
      let is = under_ok i (judged.judged d g t) n h in
      let right = judged_right d good g t n e f b is in
      let comes = subst (Comes of_node (NodesFit d.names t n) n) is (judging d good g t n e f b right.0).comes in
      ((right.0, comes.1), right.1)

  pub refused : (g : List PlainTy) (t : Tree) → Every (IsGood d.names) g → NumbersFit t → Belongs (length d.names) (length d.inputs) (length g) t → Faults (IsRefusedBy d g t) (judged.judged d g t)
  refused g (Variable i) e f b = none _
  refused g (Number i) e f b = none _
  refused g (Input i) e f b = none _
  refused g (Unary o t) e f b =
      faults_then _ (under_faults 0 (refused g t e f b.1) (λ x h. h)) (λ n q.
      let k = fits_in g t n 0 e f b.1 q in
      faults_then _ (here_faults (unary_faults d.names (length d.names) o (type_in n) b.0 k.1) (λ x h. (n, k.0, h))) (λ a r. none _))
  refused g (Binary o t u) e f b =
      faults_then _ (under_faults 0 (refused g t e f.0 b.0) (λ x h. h)) (λ n q.
      let k = fits_in g t n 0 e f.0 b.0 q in
      faults_then _ (under_faults 1 (refused g u e f.1 b.1) (λ x h. (n, k.0, h))) (λ m r.
      let l = fits_in g u m 1 e f.1 b.1 r in
      faults_then _ (here_faults (binary_faults d.names o (type_in n) (type_in m) k.1) (λ x h. (n, m, k.0, l.0, h))) (λ a s. none _)))
  refused g (Select t u v) e f b =
      faults_then _ (under_faults 0 (refused g t e f.0 b.0) (λ x h. h)) (λ n q.
      let k = fits_in g t n 0 e f.0 b.0 q in
      faults_then _ (under_faults 1 (refused g u e f.1 b.1) (λ x h. (n, k.0, h))) (λ m r.
      let l = fits_in g u m 1 e f.1 b.1 r in
      faults_then _ (under_faults 2 (refused g v e f.2 b.2) (λ x h. (n, m, k.0, l.0, h))) (λ i s.
      let j = fits_in g v i 2 e f.2 b.2 s in
      faults_then _ (here_faults (select_faults d.names (type_in n) (type_in m) (type_in i)) (λ x h. (n, m, i, k.0, l.0, j.0, h))) (λ a y. none _))))
  refused g (Let v t) e f b =
      faults_then _ (under_faults 0 (refused g v e f.0 b.0) (λ x h. h)) (λ n q.
      let k = fits_in g v n 0 e f.0 b.0 q in
      faults_then _ (under_faults 1 (refused (type_in n ∷ g) t (k.1, e) f.1 b.1) (λ x h. (n, k.0, h))) (λ m r. none _))
  refused g (Map o xs t) e f b =
      faults_then _ (under_faults 0 (refused g xs e f.0 b.0) (λ x h. h)) (λ n q.
      let k = fits_in g xs n 0 e f.0 b.0 q in
      faults_then _ (here_faults (map_start_faults d.names (type_in n)) (λ x h. (n, k.0, inl h))) (λ y r.
      let is = element_right rule.Map (type_in n) y (here_ok _ y r) in
      let g' : Every (IsGood d.names) (y ∷ g) = ((subst (IsGood d.names) is.1 k.1).2, e) in
      faults_then _ (under_faults 1 (refused (y ∷ g) t g' f.1 b.1) (λ x h. (n, y, is.0, k.0, is.1, h))) (λ m s.
      let l = fits_in (y ∷ g) t m 1 g' f.1 b.1 s in
      faults_then _ (here_faults (map_end_faults d.names (type_in n) y (type_in m) is.0 is.1 k.1) (λ x h. (n, k.0, inr (y, is.0, m, is.1, l.0, h)))) (λ a z. none _))))
  refused g (Fold o xs s t) e f b =
      faults_then _ (under_faults 0 (refused g xs e f.0 b.0) (λ x h. h)) (λ n q.
      let k = fits_in g xs n 0 e f.0 b.0 q in
      faults_then _ (under_faults 1 (refused g s e f.1 b.1) (λ x h. (n, k.0, h))) (λ m r.
      let l = fits_in g s m 1 e f.1 b.1 r in
      faults_then _ (here_faults (fold_start_faults d.names (type_in n) (type_in m)) (λ x h. (n, m, k.0, l.0, inl h))) (λ y u.
      let is = start_right (type_in n) (type_in m) y (here_ok _ y u) in
      let g' : Every (IsGood d.names) (y ∷ type_in m ∷ g) = ((subst (IsGood d.names) is.1 k.1).2, (l.1, e)) in
      faults_then _ (under_faults 2 (refused (y ∷ type_in m ∷ g) t g' f.2 b.2) (λ x h. (n, m, y, is.0, k.0, l.0, is.1, is.2, h))) (λ i v.
      let j = fits_in (y ∷ type_in m ∷ g) t i 2 g' f.2 b.2 v in
      faults_then _ (here_faults (fold_end_faults d.names (type_in m) (type_in i) is.2) (λ x h. (n, m, k.0, l.0, inr (y, is.0, i, is.1, is.2, j.0, h)))) (λ a z. none _)))))

  -- the term, then the output
  whole : (t : Tree) → NumbersFit t → Belongs (length d.names) (length d.inputs) 0 t
      → Faults (λ e. IsRefusedBy d [] t e ⊎ IsNoOutput d t e.place e.fault) (and_then (judged.judged d [] t) output_judged)
  whole t f b =
      faults_then _ (faults_as (refused [] t tt f b) (λ e h. inl h)) (λ n q.
      let right = judged_right d good [] t n tt f b q in
      let comes = subst (Comes of_node (NodesFit d.names t n) n) q (judging d good [] t n tt f b right.0).comes in
      faults_then _ (here_faults (no_output n) (λ x h. inr (refl, h.0, n, (right.0, comes.1), h.1))) (λ u r. none _))
    where
      not_false : (b : Bool) → IsTrue b → b ≡ false → ⊥
      not_false b h e = let z = sym h ∙ e in absurd (cc)

      no_output : (n : Annotation) → Faults (λ f. (f ≡ fault.Breaks rule.Output) × ¬ IsOutput (type_in n)) (demand (is_output (type_in n)) rule.Output)
      no_output n = demand_faults (is_output (type_in n)) rule.Output (λ e. (refl, λ h. not_false _ (output_is (type_in n) h) e))

-- ---- inputs
any_left : {A : Type 0} (P : A → Type 0) (xs ys : List A) → Any P xs → Any P (xs ++ ys)
any_left P [] ys h = absurd h
any_left P (x ∷ xs) ys (inl h) = inl h
any_left P (x ∷ xs) ys (inr h) = inr (any_left P xs ys h)

any_right : {A : Type 0} (P : A → Type 0) (xs ys : List A) → Any P ys → Any P (xs ++ ys)
any_right P [] ys h = h
any_right P (x ∷ xs) ys h = inr (any_right P xs ys h)

sum_faults : {Q : Fault → Type 0} (names : List Name) (s : List Monomial) (ps : List Part)
    → ((l : TypeLimit) (c : ℕ) → most l < c → Any (CountsLength l c) (sums_along names s ps) → Q (fault.Passes l c)) → Faults Q (sum_judged names s ps)
sum_faults names s [] k = none s
sum_faults {Q = Q} names s (p ∷ ps) k =
    let m = of_monomial (product_of names p.product) in
    let next = with_part p.sign s m in
    let first = products_along names (constant 1) p.product in
    let rest = next ∷ sums_along names next ps in
    faults_then _ (product_faults names (constant 1) p.product (λ l c a h. k l c a (any_left (CountsLength l c) first rest h))) (λ q e.
    subst (λ z. Faults Q (and_then (within (with_part p.sign s z)) (λ r. sum_judged names r ps))) (sym (product_right names p.product q e).0)
    (faults_then _ (within_faults next (λ l c a h. k l c a (any_right (CountsLength l c) first rest (inl h)))) (λ r u.
    subst (λ z. Faults Q (sum_judged names z ps)) (within_ok next r u).0 (sum_faults names next ps (λ l c a h. k l c a (any_right (CountsLength l c) first rest (inr h)))))))

input_faults : (names : List Name) (made : List Formed) (ps : List (List Monomial)) (w : Written)
    → ((P : Formed → Type 0) → Any P (input_formed names w) → Any P made) → ((P : List Monomial → Type 0) → Any P (input_lengths names w) → Any P ps)
    → Faults (IsFault names None (Unit {0}) made ps) (input_judged names w)
input_faults names made ps written.Number a b = none U32
input_faults names made ps (written.Pair v w) a b =
    faults_then _ (input_faults names made ps v (λ P h. a P (any_left P (input_formed names v) (input_formed names w) h)) (λ P h. b P (any_left P (input_lengths names v) (input_lengths names w) h))) (λ x e.
    faults_then _ (input_faults names made ps w (λ P h. a P (any_right P (input_formed names v) (input_formed names w) h)) (λ P h. b P (any_right P (input_lengths names v) (input_lengths names w) h))) (λ y f. none _))
input_faults names made ps (written.Array w n) a b =
    let Q = IsFault names None (Unit {0}) made ps in
    let last = formed (worked_out names w) (length_of names n) ∷ [] in
    let sums = sums_along names [] n in
    faults_then _ (input_faults names made ps w (λ P h. a P (any_left P (input_formed names w) last h)) (λ P h. b P (any_left P (input_lengths names w) sums h))) (λ x e.
    faults_then _ (sum_faults names [] n (λ l c m h. (m, inr (b (CountsLength l c) (any_right (CountsLength l c) (input_lengths names w) sums h))))) (λ m f.
    let s = sum_right names n [] m tt f in
    subst (λ z. Faults Q (judged.formed names z m)) (sym (input_right names w x e).0)
    (subst (λ z. Faults Q (judged.formed names (worked_out names w) z)) (sym s.0)
    (array_faults names None (Unit {0}) made ps (worked_out names w) (length_of names n) (subst (AllLow 4) s.0 s.1) tt (λ P h. a P (any_right P (input_formed names w) last (inl h)))))))

abbrev NamesInput : List Name → ℕ → List PlainInput → TypeRefusal → Type 0
NamesInput names i xs (IllTyped (spot.Input j) r) = IsInputRefused names i xs j (fault.Breaks r)
NamesInput names i xs (IllTyped (spot.Node p) r) = ⊥
NamesInput names i xs (Limit l (spot.Input j) c) = IsInputRefused names i xs j (fault.Passes l c)
NamesInput names i xs (Limit l (spot.Node p) c) = ⊥
NamesInput names i xs Memory = ⊥

at_input_faults : {P : Fault → Type 0} {Q : TypeRefusal → Type 0} {r : Result PlainTy Fault} (i : ℕ) → Faults P r → ((f : Fault) → P f → Q (refusal_at (spot.Input i) f)) → Faults Q (at_input i r)
at_input_faults {P = P} {Q = Q} {r = r} i h k = go r h
  where
    go : (r : Result PlainTy Fault) → Faults P r → Faults Q (at_input i r)
    go (Ok a) h = none a
    go (Err f) h = one (refusal_at (spot.Input i) f) (k f (h.faults f refl))

this_input : (names : List Name) (i : ℕ) (x : PlainInput) (xs : List PlainInput) (f : Fault) → IsFault names None (Unit {0}) (input_formed names x.ty) (input_lengths names x.ty) f → NamesInput names i (x ∷ xs) (refusal_at (spot.Input i) f)
this_input names i x xs (fault.Breaks r) h = inl (refl, h)
this_input names i x xs (fault.Passes l c) h = inl (refl, h)
this_input names i x xs fault.Memory h = absurd h

later_input : (names : List Name) (i : ℕ) (x : PlainInput) (xs : List PlainInput) → IsFormed names (worked_out names x.ty) → InputFits names x.ty → (e : TypeRefusal) → NamesInput names (suc i) xs e → NamesInput names i (x ∷ xs) e
later_input names i x xs a b (IllTyped (spot.Input j) r) h = inr (a, b, h)
later_input names i x xs a b (IllTyped (spot.Node p) r) h = h
later_input names i x xs a b (Limit l (spot.Input j) c) h = inr (a, b, h)
later_input names i x xs a b (Limit l (spot.Node p) c) h = h
later_input names i x xs a b Memory h = h

inputs_faults : (names : List Name) (i : ℕ) (xs : List PlainInput) → Faults (NamesInput names i xs) (inputs_judged names i xs)
inputs_faults names i [] = none _
inputs_faults names i (x ∷ xs) =
    faults_then _ (at_input_faults i (input_faults names (input_formed names x.ty) (input_lengths names x.ty) x.ty (λ P h. h) (λ P h. h)) (this_input names i x xs)) (λ a e.
    let is = at_input_ok i (input_judged names x.ty) a e in
    let right = input_right names x.ty a is in
    let formed : IsFormed names (worked_out names x.ty) = subst (IsFormed names) right.0 (good_formed names a right.1) in
    let comes = subst (Comes itself (InputFits names x.ty) (worked_out names x.ty)) is (judges_input names x.ty formed).comes in
    faults_then _ (faults_as (inputs_faults names (suc i) xs) (later_input names i x xs formed comes.1)) (λ types f. none _))

-- ---- programs
abbrev NamesIt : PlainProgram → Tree → TypeRefusal → Type 0
NamesIt p t e = Names e p t

an_input : (p : PlainProgram) (t : Tree) (e : TypeRefusal) → NamesInput (map range_of p.sizes) 0 p.inputs e → Names e p t
an_input p t (IllTyped (spot.Input j) r) h = h
an_input p t (IllTyped (spot.Node q) r) h = absurd h
an_input p t (Limit l (spot.Input j) c) h = h
an_input p t (Limit l (spot.Node q) c) h = absurd h
an_input p t Memory h = tt

a_node : (p : PlainProgram) (t : Tree) → IsDeclared (declared_by p) → Every (λ (x : PlainInput). InputFits (map range_of p.sizes) x.ty) p.inputs → (place : List ℕ) (f : Fault)
    → IsRefusedAt (declared_by p) [] t place f ⊎ IsNoOutput (declared_by p) t place f → Names (refusal_at (spot.Node place) f) p t
a_node p t declared fit place (fault.Breaks r) h = (declared, fit, h)
a_node p t declared fit place (fault.Passes l c) h = (declared, fit, h)
a_node p t declared fit place fault.Memory h = tt

at_node_faults : {P : NodeFault → Type 0} {Q : TypeRefusal → Type 0} {r : Result Annotation NodeFault} → Faults P r → ((e : NodeFault) → P e → Q (refusal_at (spot.Node e.place) e.fault)) → Faults Q (at_node r)
at_node_faults {P = P} {Q = Q} {r = r} h k = go r h
  where
    go : (r : Result Annotation NodeFault) → Faults P r → Faults Q (at_node r)
    go (Ok a) h = none a
    go (Err e) h = one (refusal_at (spot.Node e.place) e.fault) (k e (h.faults e refl))

pub refusals_name_the_first : RefusalsNameTheFirst
refusals_name_the_first p t e few are shapes fit belongs h =
    let names = map range_of p.sizes in
    let all : Faults (NamesIt p t) (program_judged p t) =
    faults_then _ (faults_as (inputs_faults names 0 p.inputs) (an_input p t)) (λ types x.
    let right = inputs_right names 0 p.inputs types x in
    let declared = is_declared p types few are shapes x in
    let good : Every (IsGood names) (declared_by p).inputs = subst (Every (IsGood names)) right.0 right.1 in
    let b =
    subst (λ z. Belongs z (length (declared_by p).inputs) 0 t) (sym (length-map range_of p.sizes))
    (subst (λ z. Belongs (length p.sizes) z 0 t) (sym (length-map (λ (i : PlainInput). worked_out names i.ty) p.inputs)) belongs) in
    subst (λ z. Faults (NamesIt p t) (at_node (and_then (judged.judged (record { names = names; inputs = z }) [] t) output_judged))) (sym right.0)
    (at_node_faults (whole (declared_by p) good t fit b) (λ y k. a_node p t declared (inputs_fit p types declared x) y.place y.fault k))) in
    all.faults e h
