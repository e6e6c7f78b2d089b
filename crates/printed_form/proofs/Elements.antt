-- Element terms, loads and stores of one item.
use Rattle.std.proofs.Common.{◌≡◌, ℕ, zero, suc, ◌<◌, ◌≤◌, Bool, true, false, List, [], ◌∷◌, length, Option, Some, None, refl, sym, ap, ◌∙◌, subst, arith}
use Rattle.std.specs.Prelude.{if◌then◌else◌, nat_lt, nat_eq, ◌==◌, ◌&&◌}
use Rattle.std.proofs.lemmas.List.{get_or-set_same}
use Rattle.std.proofs.lemmas.Bool.{ne_eqb}
use Rattle.std.proofs.lemmas.Bool.Decides.{nat_tests}
use Rattle.scalar_ops.specs.declared.op.Op.{Op}
use Rattle.scalar_ops.specs.declared.op.Op.TheVariants as op
use Rattle.scalar_ops.specs.Operators.{apply_op, choose}
use Rattle.kernel_tree.specs.Formula.{Formula, Lanes, Four, Vector, Spread, Vars, word, set_word, vector, set_vector, spread, Number, Variable, Binary, divides, operate, operate_each, value, lanes_value}
use Rattle.kernel_tree.specs.Formula as formula
use Rattle.kernel_tree.specs.Code.{Code, Assigns, AssignsFour, Performs}
use Rattle.kernel_tree.specs.Launch.{ids_of}
use Rattle.kernel_tree.specs.Item.{Frame, item, loop_variables}
use Rattle.kernel_tree.specs.Deeds.{Moved, Goes}
use Rattle.kernel_tree.proofs.Deeds.{goes_assign, goes_assign_four}
use Rattle.lift_ir.specs.Types.{Ty, Scalar, PairOf, ArrayOf, four, IsFour, IsPosition}
use Rattle.lift_ir.specs.Scalars.{Scalars, in_lane, by_side, scalars_of}
use Rattle.lift_ir.specs.Terms.{Term, Literal, Bound, Apply, ApplyNumber, ApplyLanes, DivideLanes, Select, Both, Project, LetElement, push, lane_type, HasType}
use Rattle.printed_form.specs.Marks.{Mark, Nowhere, Register, Lane, Spot, Marks, in_lanes, held_marks, lanes_of_one}
use Rattle.printed_form.specs.Counts.{Count, more, one_word, one_four, held_count, let_variables}
use Rattle.printed_form.specs.Expressions.{Expr, OneWord, FourWords, held, held_by, of_vector, of_one, of_both, of_three, in_fours, of_lanes, operation, selection, exprs}
use Rattle.printed_form.specs.Form.{IsAssigned, IsElementWork}
use Rattle.printed_form.specs.Runs.{Setting, Known, lane, four_of, IsFourAt, Fits, Kept, HoldsAt, Holds, AllHold, HasValue, HasLanes, Values, nothing, no_target, known_after, Ran}
use Rattle.printed_form.proofs.Runs.{more_none, more_more, kept, kept_set, kept_set_four, later_on, holds_later, all_hold_later, values_later, silent, ran_on, after_silence, ran_at_once, ran_so}

some_is : {A : Type 0} (x y : A) → Some x ≡ Some y → x ≡ y
some_is x y e = cc

one_word_is : (x y : Formula) → Some (OneWord x) ≡ Some (OneWord y) → x ≡ y
one_word_is x y e = cc

four_words_is : (x y : Lanes) → Some (FourWords x) ≡ Some (FourWords y) → x ≡ y
four_words_is x y e = cc

no_word : (x : Lanes) (y : Formula) → Some (FourWords x) ≡ Some (OneWord y) → ⊥
no_word x y e = cc

no_four : (x : Formula) (y : Lanes) → Some (OneWord x) ≡ Some (FourWords y) → ⊥
no_four x y e = cc

-- ---- positions of a vector
pub by_lane : (P : ℕ → Type 0) → P 0 → P 1 → P 2 → P 3 → (j : ℕ) → j < 4 → P j
by_lane P a b c d zero lt = a
by_lane P a b c d (suc zero) lt = b
by_lane P a b c d (suc (suc zero)) lt = c
by_lane P a b c d (suc (suc (suc zero))) lt = d
by_lane P a b c d (suc (suc (suc (suc n)))) lt = absurd (omega arith)

pub lane_is : (f : ℕ → ℕ) (j : ℕ) → j < 4 → lane (four_of f) j ≡ f j
lane_is f = by_lane (λ j. lane (four_of f) j ≡ f j) refl refl refl refl

pub four_position : (P : List Bool → List ℕ → Type 0) → ((j : ℕ) → j < 4 → P [] (j ∷ [])) → (cs : List Bool) (q : List ℕ) → IsPosition four cs q → P cs q
four_position P h cs [] w = absurd w
four_position P h [] (j ∷ []) w = h j w.0
four_position P h [] (j ∷ i ∷ q) w = absurd w.1
four_position P h (c ∷ cs) (j ∷ q) w = absurd w.1

-- the positions of a component that is a vector
four_at : (ty : Ty) (cs : List Bool) (j : ℕ) → IsFourAt ty cs → j < 4 → IsPosition ty cs (j ∷ [])
four_at Scalar cs j h lt = absurd h
four_at (PairOf a b) [] j h lt = absurd h
four_at (PairOf a b) (false ∷ cs) j h lt = four_at a cs j h lt
four_at (PairOf a b) (true ∷ cs) j h lt = four_at b cs j h lt
four_at (ArrayOf n t) [] j h lt = (let e = h.0 in omega arith, subst (λ z. IsPosition z [] []) (sym h.1) tt)
four_at (ArrayOf n t) (c ∷ cs) j h lt = absurd h

pub four_type : (n : ℕ) (t : Ty) → IsFour n t → ArrayOf n t ≡ four
four_type n t h = ap (λ m. ArrayOf m t) h.0 ∙ ap (ArrayOf 4) h.1

pub fours_same : (u v : Four) → u.x ≡ v.x → u.y ≡ v.y → u.z ≡ v.z → u.w ≡ v.w → u ≡ v
fours_same u v a b c d =
    let F : ℕ → ℕ → ℕ → ℕ → Four = λ p q r t. record { x = p; y = q; z = r; w = t } in
    ap (λ y. F y u.y u.z u.w) a ∙ ap (λ y. F v.x y u.z u.w) b ∙ ap (λ y. F v.x v.y y u.w) c ∙ ap (λ y. F v.x v.y v.z y) d

-- lanes of one variable
record AreLanes (a b c d : Mark) (v : ℕ) : Type 0 where
  x : a ≡ Lane v 0
  y : b ≡ Lane v 1
  z : c ≡ Lane v 2
  w : d ≡ Lane v 3

are_lanes : (a b c d : Mark) (v : ℕ) → lanes_of_one a b c d ≡ Some v → AreLanes a b c d v
are_lanes (Lane a i) (Lane b j) (Lane c k) (Lane d l) v h = go ((a == b) && (a == c) && (a == d) && (i == 0) && (j == 1) && (k == 2) && (l == 3)) refl h
  where
    go : (t : Bool) → ((a == b) && (a == c) && (a == d) && (i == 0) && (j == 1) && (k == 2) && (l == 3)) ≡ t → (if t then Some a else None) ≡ Some v → AreLanes (Lane a i) (Lane b j) (Lane c k) (Lane d l) v
    go false e h = absurd (cc)
    go true e h =
        let f : a ≡ v = some_is a v h in
        let p : (a ≡ b) × (a ≡ c) × (a ≡ d) × (i ≡ 0) × (j ≡ 1) × (k ≡ 2) × (l ≡ 3) = all_same a b c d i j k l e in
        let q = p.0 in let r = p.1 in let s = p.2 in let t = p.3 in let u = p.4 in let m = p.5 in let n = p.6 in
        record { x = cc; y = cc; z = cc; w = cc }
      where
        all_same : (a b c d i j k l : ℕ) → ((a == b) && (a == c) && (a == d) && (i == 0) && (j == 1) && (k == 2) && (l == 3)) ≡ true → (a ≡ b) × (a ≡ c) × (a ≡ d) × (i ≡ 0) × (j ≡ 1) × (k ≡ 2) × (l ≡ 3)
        all_same a b c d i j k l e = (grind (arith, nat_tests), grind (arith, nat_tests), grind (arith, nat_tests), grind (arith, nat_tests), grind (arith, nat_tests), grind (arith, nat_tests), grind (arith, nat_tests))
are_lanes _ _ _ _ v h = absurd (cc)

module _ (st : Setting) where
  pub holds_two : (x : Known) (a b : Ty) (e f : Marks) (s : Scalars) → Holds st x a e (λ cs. s (false ∷ cs)) → Holds st x b f (λ cs. s (true ∷ cs)) → Holds st x (PairOf a b) (by_side (λ q. Nowhere) e f) s
  holds_two x a b e f s h r [] q w = absurd w
  holds_two x a b e f s h r (false ∷ cs) q w = h cs q w
  holds_two x a b e f s h r (true ∷ cs) q w = r cs q w

  pub all_hold_push : (x : Known) (t : Ty) (e : Marks) (s : Scalars) (g : ℕ → Ty) (env : ℕ → Marks) (sems : ℕ → Scalars) → Holds st x t e s → AllHold st x g env sems → AllHold st x (push t g) (push e env) (push s sems)
  all_hold_push x t e s g env sems h r zero = h
  all_hold_push x t e s g env sems h r (suc v) = r v

  held_one : (y : Known) (n : ℕ) (s : Scalars) → n < y.count.words → word y.vars n ≡ s [] [] → Holds st y Scalar (λ cs q. Register n) s
  held_one y n s lt h [] [] w = (lt, h)
  held_one y n s lt h [] (i ∷ q) w = absurd w
  held_one y n s lt h (c ∷ cs) q w = absurd w

  pub held_four : (y : Known) (n : ℕ) (s : Scalars) → n < y.count.fours → vector y.vars n ≡ four_of (λ j. s [] (j ∷ [])) → Holds st y four (λ cs q. in_lanes n q) s
  held_four y n s lt g = four_position (λ cs q. HoldsAt st y (in_lanes n q) (s cs q)) (λ j l. (lt, ap (λ u. lane u j) g ∙ lane_is (λ j. s [] (j ∷ [])) j l))

  module _ (ts : List ℕ) (fs : List Frame) (at : loop_variables fs ≡ ts) where
    -- one assignment
    assign : (x : Known) (e : Formula) (s : Scalars) (code rest : Code) → code ≡ Performs (Assigns x.count.words e) rest → x.count.words < length x.vars.words → HasValue st ts x e (s [] []) → Ran st x fs code rest (more x.count one_word) x.arrays nothing no_target (λ y. Holds st y Scalar (held_marks Scalar x.count) s)
    assign x e s code rest is room h =
        let v = s [] [] in
        let vars : Vars = set_word x.vars x.count.words v in
        record {
          after = vars;
          deeds = Moved ∷ [];
          goes = λ m ag. subst (λ c. Goes st.device st.item (item c fs x.vars) m (Moved ∷ []) (item rest fs vars)) (sym is)
              (goes_assign st.device st.item fs x.vars m x.count.words e rest v (subst (λ t. value (ids_of st.device.launch st.item) t x.vars e ≡ Some v) (sym at) (h x.vars (kept x.count x.vars))));
          later = record { more = omega arith; more_fours = omega arith; more_arrays = omega arith; kept = kept_set x.count x.count.words v x.vars (omega arith); same = λ c f. refl };
          allowed = (tt, tt);
          wrote = silent x.memory (Moved ∷ []) (λ c. refl);
          good = held_one (known_after x (Moved ∷ []) vars (more x.count one_word) x.arrays) x.count.words s (omega arith) (get_or-set_same x.vars.words x.count.words v 0 room);
        }

    -- one of four words
    assign_four : (x : Known) (e : Lanes) (s : Scalars) (code rest : Code) → code ≡ Performs (AssignsFour x.count.fours e) rest → x.count.fours < length x.vars.vectors → HasLanes st ts x e (λ j. s [] (j ∷ [])) → Ran st x fs code rest (more x.count one_four) x.arrays nothing no_target (λ y. Holds st y four (λ cs q. in_lanes x.count.fours q) s)
    assign_four x e s code rest is room h =
        let u : Four = four_of (λ j. s [] (j ∷ [])) in
        let n = x.count.fours in
        let vars : Vars = set_vector x.vars n u in
        record {
          after = vars;
          deeds = Moved ∷ [];
          goes = λ m ag. subst (λ c. Goes st.device st.item (item c fs x.vars) m (Moved ∷ []) (item rest fs vars)) (sym is)
              (goes_assign_four st.device st.item fs x.vars m n e rest u (subst (λ t. lanes_value (ids_of st.device.launch st.item) t x.vars e ≡ Some u) (sym at) (h x.vars (kept x.count x.vars))));
          later = record { more = omega arith; more_fours = omega arith; more_arrays = omega arith; kept = kept_set_four x.count n u x.vars (omega arith); same = λ c f. refl };
          allowed = (tt, tt);
          wrote = silent x.memory (Moved ∷ []) (λ c. refl);
          good = held_four (known_after x (Moved ∷ []) vars (more x.count one_four) x.arrays) n s (omega arith) (get_or-set_same x.vars.vectors n u (spread 0) room);
        }

    pub long_enough : (x : Known) (n : Count) (vars : Vars) → Kept x.count x.vars vars → Fits n x.vars → Fits n vars
    long_enough x n vars k h = record { words = subst (λ z. n.words ≤ z) (sym k.long) h.words; fours = subst (λ z. n.fours ≤ z) (sym k.wide) h.fours }

    pub fits_less : (n a b : Count) (vars : Vars) → Fits (more n (more a b)) vars → Fits (more n a) vars
    fits_less n a b vars h = let p = h.words in let q = h.fours in record { words = omega arith; fours = omega arith }

    pub fits_more : (n a b : Count) (vars : Vars) → Fits (more n (more a b)) vars → Fits (more (more n a) b) vars
    fits_more n a b vars h = let p = h.words in let q = h.fours in record { words = omega arith; fours = omega arith }

    values_left : (x : Known) (a b : Ty) (f : List Bool → Option Expr) (s : Scalars) → Values st ts x (PairOf a b) f s → Values st ts x a (λ cs. f (false ∷ cs)) (λ cs. s (false ∷ cs))
    values_left x a b f s h = (λ cs e w q. h.0 (false ∷ cs) e w q, λ cs e w q. h.1 (false ∷ cs) e w q)

    values_right : (x : Known) (a b : Ty) (f : List Bool → Option Expr) (s : Scalars) → Values st ts x (PairOf a b) f s → Values st ts x b (λ cs. f (true ∷ cs)) (λ cs. s (true ∷ cs))
    values_right x a b f s h = (λ cs e w q. h.0 (true ∷ cs) e w q, λ cs e w q. h.1 (true ∷ cs) e w q)

    -- one for each component
    pub assigned : (ty : Ty) (f : List Bool → Option Expr) (s : Scalars) (x : Known) (code rest : Code) → IsAssigned ty f x.count code rest → Fits (more x.count (held_count ty)) x.vars → Values st ts x ty f s
        → Ran st x fs code rest (more x.count (held_count ty)) x.arrays nothing no_target (λ y. Holds st y ty (held_marks ty x.count) s)
    assigned Scalar f s x code rest h room right = assign x h.0 s code rest h.2 (let p = room.words in omega arith) (right.0 [] h.0 tt h.1)
    assigned (PairOf a b) f s x code rest h room right =
        let left = λ (cs : List Bool). s (false ∷ cs) in
        let other = λ (cs : List Bool). s (true ∷ cs) in
        let na = held_count a in
        let nb = held_count b in
        let r = assigned a (λ cs. f (false ∷ cs)) left x code h.0 h.1 (fits_less x.count na nb x.vars room) (values_left x a b f s right) in
        let y = known_after x r.deeds r.after (more x.count na) x.arrays in
        let r2 = assigned b (λ cs. f (true ∷ cs)) other y h.0 rest h.2 (long_enough x (more (more x.count na) nb) r.after r.later.kept (fits_more x.count na nb x.vars room)) (values_later st ts x y b (λ cs. f (true ∷ cs)) other r.later (values_right x a b f s right)) in
        let z = known_after y r2.deeds r2.after (more (more x.count na) nb) x.arrays in
        let r3 : Ran st y fs h.0 rest (more (more x.count na) nb) x.arrays nothing no_target (λ y. Holds st y (PairOf a b) (held_marks (PairOf a b) x.count) s) = ran_so r2 (holds_two z a b _ _ s (holds_later st y z a (held_marks a x.count) left r2.later r.good) r2.good) in
        subst (λ n. Ran st x fs code rest n x.arrays nothing no_target (λ y. Holds st y (PairOf a b) (held_marks (PairOf a b) x.count) s)) (more_more x.count na nb)
        (ran_on st x fs code h.0 rest (more x.count na) x.arrays (more (more x.count na) nb) x.arrays after_silence r r3)
    assigned (ArrayOf n t) f s x code rest h room right =
        let e = four_type n t h.0 in
        subst (λ z. Ran st x fs code rest (more x.count one_four) x.arrays nothing no_target (λ y. Holds st y z (λ cs q. in_lanes x.count.fours q) s)) (sym e)
        (assign_four x h.1 s code rest h.3 (let p = room.fours in omega arith) (right.1 [] h.1 h.0 h.2))

    -- expressions

    abbrev Val : Vars → Formula → Option ℕ
    Val vars e = value (ids_of st.device.launch st.item) ts vars e

    if_some : (b : Bool) (x y : ℕ) → (if b then Some x else Some y) ≡ Some (if b then x else y)
    if_some true x y = refl
    if_some false x y = refl

    operate_is : (o : Op) (u v : ℕ) → divides o ≡ false → operate o u v ≡ Some (apply_op o u v)
    operate_is o u v h = rw h refl

    operate_by : (o : Op) (u n : ℕ) → 0 < n → operate o u n ≡ Some (apply_op o u n)
    operate_by o u n h = let e : (n == 0) ≡ false = ne_eqb n 0 (λ q. absurd (omega arith)) in rw e (go (divides o))
      where
        go : (b : Bool) → (if b && false then None else Some (apply_op o u n)) ≡ Some (apply_op o u n)
        go true = refl
        go false = refl

    value_binary : (o : Op) (x y : Formula) (vars : Vars) (u v : ℕ) → divides o ≡ false → Val vars x ≡ Some u → Val vars y ≡ Some v → Val vars (Binary o x y) ≡ Some (apply_op o u v)
    value_binary o x y vars u v h p q = rw (p, q) (operate_is o u v h)

    value_operation : (o : Op) (x y : Formula) (vars : Vars) (u v : ℕ) → divides o ≡ false → Val vars x ≡ Some u → Val vars y ≡ Some v → Val vars (operation o x y) ≡ Some (apply_op o u v)
    value_operation op.Lt x y vars u v h p q = rw (p, q) (if_some (nat_lt u v) 1 0)
    value_operation op.Eq x y vars u v h p q = rw (p, q) (if_some (nat_eq u v) 1 0)
    value_operation op.Add x y vars u v h p q = value_binary op.Add x y vars u v h p q
    value_operation op.Mul x y vars u v h p q = value_binary op.Mul x y vars u v h p q
    value_operation op.Min x y vars u v h p q = value_binary op.Min x y vars u v h p q
    value_operation op.Max x y vars u v h p q = value_binary op.Max x y vars u v h p q
    value_operation op.And x y vars u v h p q = value_binary op.And x y vars u v h p q
    value_operation op.Or x y vars u v h p q = value_binary op.Or x y vars u v h p q
    value_operation op.Xor x y vars u v h p q = value_binary op.Xor x y vars u v h p q
    value_operation op.Sub x y vars u v h p q = value_binary op.Sub x y vars u v h p q
    value_operation op.Shl x y vars u v h p q = value_binary op.Shl x y vars u v h p q
    value_operation op.Shr x y vars u v h p q = value_binary op.Shr x y vars u v h p q
    value_operation op.Div x y vars u v h p q = value_binary op.Div x y vars u v h p q
    value_operation op.Rem x y vars u v h p q = value_binary op.Rem x y vars u v h p q

    value_scale : (o : Op) (x : Formula) (n : ℕ) (vars : Vars) (u : ℕ) → 0 < n → Val vars x ≡ Some u → Val vars (Binary o x (Number n)) ≡ Some (apply_op o u n)
    value_scale o x n vars u h p = rw p (operate_by o u n h)

    value_selection : (c x y : Formula) (vars : Vars) (i u v : ℕ) → Val vars c ≡ Some i → Val vars x ≡ Some u → Val vars y ≡ Some v → Val vars (selection c x y) ≡ Some (choose i u v)
    value_selection c x y vars zero u v p q r = rw p r
    value_selection c x y vars (suc i) u v p q r = let e : nat_eq (suc i) 0 ≡ false = ne_eqb (suc i) 0 (λ z. absurd (omega arith)) in rw (p, e) q

    all_of : (o : Op) (f g : ℕ → ℕ) → ((j : ℕ) → operate o (f j) (g j) ≡ Some (apply_op o (f j) (g j))) → operate_each o (four_of f) (four_of g) ≡ Some (four_of (λ j. apply_op o (f j) (g j)))
    all_of o f g h = rw (h 0, h 1, h 2, h 3) refl

    lanes_operated : (x : Known) (o : Op) (a b : Lanes) (f g : ℕ → ℕ) → divides o ≡ false → HasLanes st ts x a f → HasLanes st ts x b g → HasLanes st ts x (formula.Each o a b) (λ j. apply_op o (f j) (g j))
    lanes_operated x o a b f g d p q later k = rw (p later k, q later k) (all_of o f g (λ j. operate_is o (f j) (g j) d))

    lanes_divided : (x : Known) (o : Op) (a : Lanes) (n : ℕ) (f : ℕ → ℕ) → 0 < n → HasLanes st ts x a f → HasLanes st ts x (formula.Each o a (Spread (Number n))) (λ j. apply_op o (f j) n)
    lanes_divided x o a n f pos p later k = rw (p later k) (all_of o f (λ j. n) (λ j. operate_by o (f j) n pos))

    lanes_spread : (x : Known) (e : Formula) (n : ℕ) → HasValue st ts x e n → HasLanes st ts x (Spread e) (λ j. n)
    lanes_spread x e n h later k = rw (h later k) refl

    -- where a combination of expressions is, so are its parts
    one_is : (f : Formula → Formula) (a : Option Expr) (e : Expr) → of_one f a ≡ Some e → (x : Formula) × (a ≡ Some (OneWord x)) × (OneWord (f x) ≡ e)
    one_is f None e h = absurd (cc)
    one_is f (Some (FourWords x)) e h = absurd (cc)
    one_is f (Some (OneWord x)) e h = (x, refl, some_is (OneWord (f x)) e h)

    both_are : (f : Formula → Formula → Formula) (a b : Option Expr) (e : Expr) → of_both f a b ≡ Some e → (x y : Formula) × (a ≡ Some (OneWord x)) × (b ≡ Some (OneWord y)) × (OneWord (f x y) ≡ e)
    both_are f None b e h = absurd (cc)
    both_are f (Some (FourWords x)) b e h = absurd (cc)
    both_are f (Some (OneWord x)) b e h = let r = one_is (f x) b e h in (x, r.0, refl, r.1, r.2)

    three_are : (f : Formula → Formula → Formula → Formula) (a b c : Option Expr) (e : Expr) → of_three f a b c ≡ Some e → (x y z : Formula) × (a ≡ Some (OneWord x)) × (b ≡ Some (OneWord y)) × (c ≡ Some (OneWord z)) × (OneWord (f x y z) ≡ e)
    three_are f None b c e h = absurd (cc)
    three_are f (Some (FourWords x)) b c e h = absurd (cc)
    three_are f (Some (OneWord x)) b c e h = let r = both_are (f x) b c e h in (x, r.0, r.1, refl, r.2, r.3, r.4)

    lanes_are : (f : Lanes → Lanes → Lanes) (a b : Option Lanes) (e : Expr) → of_lanes f a b ≡ Some e → (x y : Lanes) × (a ≡ Some x) × (b ≡ Some y) × (FourWords (f x y) ≡ e)
    lanes_are f None b e h = absurd (cc)
    lanes_are f (Some x) None e h = absurd (cc)
    lanes_are f (Some x) (Some y) e h = (x, y, refl, refl, some_is (FourWords (f x y)) e h)

    -- of words alone
    word_values : (x : Known) (ty : Ty) (f : List Bool → Option Expr) (s : Scalars) → ((cs : List Bool) (e : Expr) → f cs ≡ Some e → (y : Formula) × (OneWord y ≡ e) × (HasValue st ts x y (s cs []))) → Values st ts x ty f s
    word_values x ty f s h = (
      λ cs e w q. let r = h cs (OneWord e) q in subst (λ y. HasValue st ts x y (s cs [])) (one_word_is r.0 e (ap Some r.1)) r.2,
      λ cs e w q. let r = h cs (FourWords e) q in absurd (no_four r.0 e (ap Some r.1)),
    )

    -- of vectors alone
    four_values : (x : Known) (ty : Ty) (f : List Bool → Option Expr) (s : Scalars) → ((cs : List Bool) (e : Expr) → f cs ≡ Some e → (y : Lanes) × (FourWords y ≡ e) × (HasLanes st ts x y (λ j. s cs (j ∷ [])))) → Values st ts x ty f s
    four_values x ty f s h = (
      λ cs e w q. let r = h cs (OneWord e) q in absurd (no_word r.0 e (ap Some r.1)),
      λ cs e w q. let r = h cs (FourWords e) q in subst (λ y. HasLanes st ts x y (λ j. s cs (j ∷ []))) (four_words_is r.0 e (ap Some r.1)) r.2,
    )

    vector_is : (w : Option ℕ) (e : Lanes) → of_vector w ≡ Some (FourWords e) → (v : ℕ) × (w ≡ Some v) × (Vector v ≡ e)
    vector_is None e h = absurd (cc)
    vector_is (Some v) e h = (v, refl, four_words_is (Vector v) e h)

    no_vector_word : (w : Option ℕ) (e : Formula) → of_vector w ≡ Some (OneWord e) → ⊥
    no_vector_word None e h = cc
    no_vector_word (Some v) e h = cc

    held_word : (x : Known) (m : Mark) (w : Option ℕ) (v : ℕ) (e : Formula) → HoldsAt st x m v → held_by m w ≡ Some (OneWord e) → HasValue st ts x e v
    held_word x Nowhere w v e h q = absurd h
    held_word x (Register r) w v e h q = λ later k. subst (λ y. Val later y ≡ Some v) (one_word_is (Variable r) e q) (ap Some (k.same r h.0 ∙ h.1))
    held_word x (Lane r j) w v e h q = absurd (no_vector_word w e q)
    held_word x (Spot b i) w v e h q = absurd (no_vector_word w e q)

    by_vector : (m : Mark) (w : Option ℕ) (e : Lanes) → held_by m w ≡ Some (FourWords e) → of_vector w ≡ Some (FourWords e)
    by_vector (Register r) w e h = absurd (cc)
    by_vector Nowhere w e h = h
    by_vector (Lane r j) w e h = h
    by_vector (Spot b i) w e h = h

    at_lane : (x : Known) (m : Mark) (v j n : ℕ) → m ≡ Lane v j → HoldsAt st x m n → (v < x.count.fours) × (lane (vector x.vars v) j ≡ n)
    at_lane x m v j n e h = subst (λ z. HoldsAt st x z n) e h

    pub values_held : (x : Known) (ty : Ty) (m : Marks) (s : Scalars) → Holds st x ty m s → Values st ts x ty (λ cs. held (m cs)) s
    values_held x ty m s h = (
      λ cs e w q. held_word x (m cs []) _ (s cs []) e (h cs [] w) q,
      λ cs e w q.
          let r = vector_is _ e (by_vector (m cs []) _ e q) in
          let l = are_lanes (m cs (0 ∷ [])) (m cs (1 ∷ [])) (m cs (2 ∷ [])) (m cs (3 ∷ [])) r.0 r.1 in
          let at : (j : ℕ) → j < 4 → IsPosition ty cs (j ∷ []) = λ j lt. four_at ty cs j w lt in
          let h0 = at_lane x (m cs (0 ∷ [])) r.0 0 (s cs (0 ∷ [])) l.x (h cs (0 ∷ []) (at 0 (omega arith))) in
          let h1 = at_lane x (m cs (1 ∷ [])) r.0 1 (s cs (1 ∷ [])) l.y (h cs (1 ∷ []) (at 1 (omega arith))) in
          let h2 = at_lane x (m cs (2 ∷ [])) r.0 2 (s cs (2 ∷ [])) l.z (h cs (2 ∷ []) (at 2 (omega arith))) in
          let h3 = at_lane x (m cs (3 ∷ [])) r.0 3 (s cs (3 ∷ [])) l.w (h cs (3 ∷ []) (at 3 (omega arith))) in
          λ later k. subst (λ y. lanes_value (ids_of st.device.launch st.item) ts later y ≡ Some (four_of (λ j. s cs (j ∷ [])))) r.2
          (ap Some (k.same_four r.0 h0.0 ∙ fours_same (vector x.vars r.0) (four_of (λ j. s cs (j ∷ []))) h0.1 h1.1 h2.1 h3.1)),
    )

    -- an operand of four words
    operand_is : (x : Known) (v : Bool) (a : Option Expr) (s : Scalars) (e : Lanes) → Values st ts x (lane_type v) (λ cs. a) s → in_fours v a ≡ Some e → HasLanes st ts x e (λ j. s [] (in_lane v (j ∷ [])))
    operand_is x true (Some (FourWords y)) s e h q = subst (λ z. HasLanes st ts x z (λ j. s [] (j ∷ []))) (some_is y e q) (h.1 [] y (refl, refl) refl)
    operand_is x false (Some (OneWord y)) s e h q = subst (λ z. HasLanes st ts x z (λ j. s [] [])) (some_is (Spread y) e q) (lanes_spread x y (s [] []) (h.0 [] y tt refl))
    operand_is x true (Some (OneWord y)) s e h q = absurd (cc)
    operand_is x true None s e h q = absurd (cc)
    operand_is x false (Some (FourWords y)) s e h q = absurd (cc)
    operand_is x false None s e h q = absurd (cc)

    -- at no choices
    whole_part : (x : Known) (v : Bool) (f : List Bool → Option Expr) (s : Scalars) → Values st ts x (lane_type v) f s → Values st ts x (lane_type v) (λ cs. f []) s
    whole_part x true f s h = (λ cs e w q. absurd w, λ cs e w q. part cs e w q)
      where
        part : (cs : List Bool) (e : Lanes) → IsFourAt four cs → f [] ≡ Some (FourWords e) → HasLanes st ts x e (λ j. s cs (j ∷ []))
        part [] e w q = h.1 [] e w q
        part (c ∷ cs) e w q = absurd w
    whole_part x false f s h = (part, λ cs e w q. absurd w)
      where
        part : (cs : List Bool) (e : Formula) → IsPosition Scalar cs [] → f [] ≡ Some (OneWord e) → HasValue st ts x e (s cs [])
        part [] e w q = h.0 [] e w q
        part (c ∷ cs) e w q = absurd w

    values_sides : (x : Known) (a b : Ty) (f g : List Bool → Option Expr) (s t : Scalars) → Values st ts x a f s → Values st ts x b g t → Values st ts x (PairOf a b) (by_side None f g) (by_side (λ q. 0) s t)
    values_sides x a b f g s t h r = (words, fours)
      where
        words : (cs : List Bool) (e : Formula) → IsPosition (PairOf a b) cs [] → by_side None f g cs ≡ Some (OneWord e) → HasValue st ts x e (by_side (λ q. 0) s t cs [])
        words [] e w q = absurd w
        words (false ∷ cs) e w q = h.0 cs e w q
        words (true ∷ cs) e w q = r.0 cs e w q

        fours : (cs : List Bool) (e : Lanes) → IsFourAt (PairOf a b) cs → by_side None f g cs ≡ Some (FourWords e) → HasLanes st ts x e (λ j. by_side (λ q. 0) s t cs (j ∷ []))
        fours [] e w q = absurd w
        fours (false ∷ cs) e w q = h.1 cs e w q
        fours (true ∷ cs) e w q = r.1 cs e w q

    pair_no_scalar : (a b : Ty) → PairOf a b ≡ Scalar → ⊥
    pair_no_scalar a b e = cc

    zip_values : (x : Known) (n : ℕ) (a b : Ty) (f : List Bool → Option Expr) (s : Scalars) → Values st ts x (ArrayOf n (PairOf a b)) f s
    zip_values x n a b f s = (λ cs e w q. absurd w, none)
      where
        none : (cs : List Bool) (e : Lanes) → IsFourAt (ArrayOf n (PairOf a b)) cs → f cs ≡ Some (FourWords e) → HasLanes st ts x e (λ j. s cs (j ∷ []))
        none [] e w q = absurd (pair_no_scalar a b w.1)
        none (c ∷ cs) e w q = absurd w

    module _ {A : Type 0} (num : A → ℕ) (src : ℕ → Ty) (sources : ℕ → Scalars) where
      -- the parts of a pair, or of a zip, which has no expression
      both_types : (zips : Bool) (g : ℕ → Ty) (a b : Term A) (ty : Ty) → HasType num src g (Both zips a b) ty → (u v : Ty) × HasType num src g a u × HasType num src g b v
          × ((x : Known) (f h : List Bool → Option Expr) (s t : Scalars) → Values st ts x u f s → Values st ts x v h t → Values st ts x ty (by_side None f h) (by_side (λ q. 0) s t))
      both_types false g a b ty ok = (ok.0, ok.1, ok.5, ok.6, λ x f h s t m n. subst (λ y. Values st ts x y (by_side None f h) (by_side (λ q. 0) s t)) (sym ok.2) (values_sides x ok.0 ok.1 f h s t m n))
      both_types true g a b ty ok = (ArrayOf ok.0 ok.1, ArrayOf ok.0 ok.2, ok.4, ok.5, λ x f h s t m n. subst (λ y. Values st ts x y (by_side None f h) (by_side (λ q. 0) s t)) (sym ok.3) (zip_values x ok.0 ok.1 ok.2 (by_side None f h) (by_side (λ q. 0) s t)))

      pub elements : (t : Term A) (g : ℕ → Ty) (env : ℕ → Marks) (sems : ℕ → Scalars) (ty : Ty) (x : Known) (code rest : Code) → HasType num src g t ty → IsElementWork env x.count t code rest → Fits (more x.count (let_variables t)) x.vars → AllHold st x g env sems
          → Ran st x fs code rest (more x.count (let_variables t)) x.arrays nothing no_target (λ y. Values st ts y ty (exprs env x.count t) (scalars_of num sources sems t))
      elements (Literal c) g env sems ty x code rest ok h room es =
          subst (λ n. Ran st x fs code rest n x.arrays nothing no_target (λ y. Values st ts y ty (λ cs. Some (OneWord (Number c))) (λ cs q. c))) (more_none x.count)
          (ran_at_once st x fs code rest _ h (word_values x ty (λ cs. Some (OneWord (Number c))) (λ cs q. c) (λ cs e q. (Number c, some_is (OneWord (Number c)) e q, λ later k. refl))))
      elements (Bound v) g env sems ty x code rest ok h room es =
          subst (λ n. Ran st x fs code rest n x.arrays nothing no_target (λ y. Values st ts y ty (λ cs. held (env v cs)) (sems v))) (more_none x.count)
          (ran_at_once st x fs code rest _ h (values_held x ty (env v) (sems v) (subst (λ t. Holds st x t (env v) (sems v)) (sym ok) (es v))))
      elements (Apply o a b) g env sems ty x code rest ok h room es =
          let na = let_variables a in
          let nb = let_variables b in
          let r = elements a g env sems Scalar x code h.0 ok.2 h.1 (fits_less x.count na nb x.vars room) es in
          let y = known_after x r.deeds r.after (more x.count na) x.arrays in
          let r2 = elements b g env sems Scalar y h.0 rest ok.3 h.2 (long_enough x (more (more x.count na) nb) r.after r.later.kept (fits_more x.count na nb x.vars room)) (all_hold_later st x y g env sems r.later es) in
          let z = known_after y r2.deeds r2.after (more (more x.count na) nb) x.arrays in
          let u = scalars_of num sources sems a [] [] in
          let v = scalars_of num sources sems b [] [] in
          let va = values_later st ts y z Scalar (exprs env x.count a) (scalars_of num sources sems a) r2.later r.good in
          let r3 : Ran st y fs h.0 rest (more (more x.count na) nb) x.arrays nothing no_target (λ y. Values st ts y ty (exprs env x.count (Apply o a b)) (scalars_of num sources sems (Apply o a b))) = ran_so r2 (word_values z ty (exprs env x.count (Apply o a b)) (scalars_of num sources sems (Apply o a b)) (λ cs e q.
          let p = both_are (operation o) (exprs env x.count a []) (exprs env (more x.count na) b []) e q in
          (operation o p.0 p.1, p.4, λ later k. value_operation o p.0 p.1 later u v ok.1 (va.0 [] p.0 tt p.2 later k) (r2.good.0 [] p.1 tt p.3 later k)))) in
          subst (λ n. Ran st x fs code rest n x.arrays nothing no_target (λ y. Values st ts y ty (exprs env x.count (Apply o a b)) (scalars_of num sources sems (Apply o a b)))) (more_more x.count na nb)
          (ran_on st x fs code h.0 rest (more x.count na) x.arrays (more (more x.count na) nb) x.arrays after_silence r r3)
      elements (ApplyNumber o m a) g env sems ty x code rest ok h room es =
          let r = elements a g env sems Scalar x code rest ok.2 h room es in
          let y = known_after x r.deeds r.after (more x.count (let_variables a)) x.arrays in
          ran_so r (word_values y ty (exprs env x.count (ApplyNumber o m a)) (scalars_of num sources sems (ApplyNumber o m a)) (λ cs e q.
          let p = one_is (λ y. Binary o y (Number m)) (exprs env x.count a []) e q in
          (Binary o p.0 (Number m), p.2, λ later k. value_scale o p.0 m later (scalars_of num sources sems a [] []) ok.1 (r.good.0 [] p.0 tt p.1 later k))))
      elements (ApplyLanes o l i a b) g env sems ty x code rest ok h room es =
          let na = let_variables a in
          let nb = let_variables b in
          let r = elements a g env sems (lane_type l) x code h.0 ok.4 h.1 (fits_less x.count na nb x.vars room) es in
          let y = known_after x r.deeds r.after (more x.count na) x.arrays in
          let r2 = elements b g env sems (lane_type i) y h.0 rest ok.5 h.2 (long_enough x (more (more x.count na) nb) r.after r.later.kept (fits_more x.count na nb x.vars room)) (all_hold_later st x y g env sems r.later es) in
          let z = known_after y r2.deeds r2.after (more (more x.count na) nb) x.arrays in
          let va = values_later st ts y z (lane_type l) (exprs env x.count a) (scalars_of num sources sems a) r2.later r.good in
          let ea = exprs env x.count a [] in
          let eb = exprs env (more x.count na) b [] in
          let r3 : Ran st y fs h.0 rest (more (more x.count na) nb) x.arrays nothing no_target (λ y. Values st ts y ty (exprs env x.count (ApplyLanes o l i a b)) (scalars_of num sources sems (ApplyLanes o l i a b))) = ran_so r2 (four_values z ty (exprs env x.count (ApplyLanes o l i a b)) (scalars_of num sources sems (ApplyLanes o l i a b)) (λ cs e q.
          let p = lanes_are (formula.Each o) (in_fours l ea) (in_fours i eb) e q in
          let u = operand_is z l ea (scalars_of num sources sems a) p.0 (whole_part z l (exprs env x.count a) (scalars_of num sources sems a) va) p.2 in
          let v = operand_is z i eb (scalars_of num sources sems b) p.1 (whole_part z i (exprs env (more x.count na) b) (scalars_of num sources sems b) r2.good) p.3 in
          (formula.Each o p.0 p.1, p.4, lanes_operated z o p.0 p.1 (λ j. scalars_of num sources sems a [] (in_lane l (j ∷ []))) (λ j. scalars_of num sources sems b [] (in_lane i (j ∷ []))) ok.1 u v))) in
          subst (λ n. Ran st x fs code rest n x.arrays nothing no_target (λ y. Values st ts y ty (exprs env x.count (ApplyLanes o l i a b)) (scalars_of num sources sems (ApplyLanes o l i a b)))) (more_more x.count na nb)
          (ran_on st x fs code h.0 rest (more x.count na) x.arrays (more (more x.count na) nb) x.arrays after_silence r r3)
      elements (DivideLanes o m a) g env sems ty x code rest ok h room es =
          let r = elements a g env sems four x code rest ok.2 h room es in
          let y = known_after x r.deeds r.after (more x.count (let_variables a)) x.arrays in
          let ea = exprs env x.count a [] in
          ran_so r (four_values y ty (exprs env x.count (DivideLanes o m a)) (scalars_of num sources sems (DivideLanes o m a)) (λ cs e q.
          let p = lanes_are (formula.Each o) (in_fours true ea) (Some (Spread (Number m))) e q in
          let u = operand_is y true ea (scalars_of num sources sems a) p.0 (whole_part y true (exprs env x.count a) (scalars_of num sources sems a) r.good) p.2 in
          (formula.Each o p.0 (Spread (Number m)), ap (λ z. FourWords (formula.Each o p.0 z)) (some_is (Spread (Number m)) p.1 p.3) ∙ p.4, lanes_divided y o p.0 m (λ j. scalars_of num sources sems a [] (j ∷ [])) ok.1 u)))
      elements (Select c a b) g env sems ty x code rest ok h room es =
          let nc = let_variables c in
          let na = let_variables a in
          let nb = let_variables b in
          let r = elements c g env sems Scalar x code h.0 ok.1 h.2 (fits_less x.count nc (more na nb) x.vars room) es in
          let y = known_after x r.deeds r.after (more x.count nc) x.arrays in
          let es2 = all_hold_later st x y g env sems r.later es in
          let room1 = long_enough x (more (more x.count nc) (more na nb)) r.after r.later.kept (fits_more x.count nc (more na nb) x.vars room) in
          let r2 = elements a g env sems Scalar y h.0 h.1 ok.2 h.3 (fits_less (more x.count nc) na nb r.after room1) es2 in
          let z = known_after y r2.deeds r2.after (more (more x.count nc) na) x.arrays in
          let room2 = long_enough y (more (more (more x.count nc) na) nb) r2.after r2.later.kept (fits_more (more x.count nc) na nb r.after room1) in
          let r3 = elements b g env sems Scalar z h.1 rest ok.3 h.4 room2 (all_hold_later st y z g env sems r2.later es2) in
          let u = known_after z r3.deeds r3.after (more (more (more x.count nc) na) nb) x.arrays in
          let vc = values_later st ts y u Scalar (exprs env x.count c) (scalars_of num sources sems c) (later_on st y z u r2.later r3.later) r.good in
          let va = values_later st ts z u Scalar (exprs env (more x.count nc) a) (scalars_of num sources sems a) r3.later r2.good in
          let e : more (more (more x.count nc) na) nb ≡ more x.count (more nc (more na nb)) = more_more (more x.count nc) na nb ∙ more_more x.count nc (more na nb) in
          let r4 : Ran st z fs h.1 rest (more (more (more x.count nc) na) nb) x.arrays nothing no_target (λ y. Values st ts y ty (exprs env x.count (Select c a b)) (scalars_of num sources sems (Select c a b))) = ran_so r3 (word_values u ty (exprs env x.count (Select c a b)) (scalars_of num sources sems (Select c a b)) (λ cs e q.
          let p = three_are selection (exprs env x.count c []) (exprs env (more x.count nc) a []) (exprs env (more (more x.count nc) na) b []) e q in
          (selection p.0 p.1 p.2, p.6, λ later k. value_selection p.0 p.1 p.2 later _ _ _ (vc.0 [] p.0 tt p.3 later k) (va.0 [] p.1 tt p.4 later k) (r3.good.0 [] p.2 tt p.5 later k)))) in
          subst (λ n. Ran st x fs code rest n x.arrays nothing no_target (λ y. Values st ts y ty (exprs env x.count (Select c a b)) (scalars_of num sources sems (Select c a b)))) e
          (ran_on st x fs code h.0 rest (more x.count nc) x.arrays (more (more (more x.count nc) na) nb) x.arrays after_silence r
          (ran_on st y fs h.0 h.1 rest (more (more x.count nc) na) x.arrays (more (more (more x.count nc) na) nb) x.arrays after_silence r2 r4))
      elements (Both zips a b) g env sems ty x code rest ok h room es =
          let na = let_variables a in
          let nb = let_variables b in
          let p = both_types zips g a b ty ok in
          let r = elements a g env sems p.0 x code h.0 p.2 h.1 (fits_less x.count na nb x.vars room) es in
          let y = known_after x r.deeds r.after (more x.count na) x.arrays in
          let r2 = elements b g env sems p.1 y h.0 rest p.3 h.2 (long_enough x (more (more x.count na) nb) r.after r.later.kept (fits_more x.count na nb x.vars room)) (all_hold_later st x y g env sems r.later es) in
          let z = known_after y r2.deeds r2.after (more (more x.count na) nb) x.arrays in
          let va = values_later st ts y z p.0 (exprs env x.count a) (scalars_of num sources sems a) r2.later r.good in
          let r3 : Ran st y fs h.0 rest (more (more x.count na) nb) x.arrays nothing no_target (λ y. Values st ts y ty (exprs env x.count (Both zips a b)) (scalars_of num sources sems (Both zips a b))) = ran_so r2 (p.4 z (exprs env x.count a) (exprs env (more x.count na) b) (scalars_of num sources sems a) (scalars_of num sources sems b) va r2.good) in
          subst (λ n. Ran st x fs code rest n x.arrays nothing no_target (λ y. Values st ts y ty (exprs env x.count (Both zips a b)) (scalars_of num sources sems (Both zips a b)))) (more_more x.count na nb)
          (ran_on st x fs code h.0 rest (more x.count na) x.arrays (more (more x.count na) nb) x.arrays after_silence r r3)
      elements (Project false a) g env sems ty x code rest ok h room es =
          let r = elements a g env sems (PairOf ty ok.0) x code rest ok.1 h room es in
          ran_so r (values_left (known_after x r.deeds r.after (more x.count (let_variables a)) x.arrays) ty ok.0 (exprs env x.count a) (scalars_of num sources sems a) r.good)
      elements (Project true a) g env sems ty x code rest ok h room es =
          let r = elements a g env sems (PairOf ok.0 ty) x code rest ok.1 h room es in
          ran_so r (values_right (known_after x r.deeds r.after (more x.count (let_variables a)) x.arrays) ok.0 ty (exprs env x.count a) (scalars_of num sources sems a) r.good)
      elements (LetElement u v b) g env sems ty x code rest ok h room es =
          let nv = let_variables v in
          let nu = held_count u in
          let nb = let_variables b in
          let r = elements v g env sems u x code h.0 ok.1 h.2 (fits_less x.count nv (more nu nb) x.vars room) es in
          let y = known_after x r.deeds r.after (more x.count nv) x.arrays in
          let D = scalars_of num sources sems v in
          let room1 = long_enough x (more (more x.count nv) (more nu nb)) r.after r.later.kept (fits_more x.count nv (more nu nb) x.vars room) in
          let r2 = assigned u (exprs env x.count v) D y h.0 h.1 h.3 (fits_less (more x.count nv) nu nb r.after room1) r.good in
          let z = known_after y r2.deeds r2.after (more (more x.count nv) nu) x.arrays in
          let es3 = all_hold_push z u (held_marks u (more x.count nv)) D g env sems r2.good (all_hold_later st x z g env sems (later_on st x y z r.later r2.later) es) in
          let room2 = long_enough y (more (more (more x.count nv) nu) nb) r2.after r2.later.kept (fits_more (more x.count nv) nu nb r.after room1) in
          let r3 = elements b (push u g) (push (held_marks u (more x.count nv)) env) (push D sems) ty z h.1 rest ok.2 h.4 room2 es3 in
          let e : more (more (more x.count nv) nu) nb ≡ more x.count (more nv (more nu nb)) = more_more (more x.count nv) nu nb ∙ more_more x.count nv (more nu nb) in
          subst (λ n. Ran st x fs code rest n x.arrays nothing no_target (λ y. Values st ts y ty (exprs env x.count (LetElement u v b)) (scalars_of num sources sems (LetElement u v b)))) e
          (ran_on st x fs code h.0 rest (more x.count nv) x.arrays (more (more (more x.count nv) nu) nb) x.arrays after_silence r
          (ran_on st y fs h.0 h.1 rest (more (more x.count nv) nu) x.arrays (more (more (more x.count nv) nu) nb) x.arrays after_silence r2 r3))
      elements _ g env sems ty x code rest ok h room es = absurd h
