-- What the printer prints is printed.
use Rattle.std.proofs.Common.{◌≡◌, ℕ, suc, ◌+◌, ◌<◌, ◌^◌, Bool, true, false, List, [], ◌∷◌, ◌++◌, length, Option, Some, refl, sym, ap, ◌∙◌, subst, arith, length-append}
use Rattle.lift_tree.specs.declared.term.Level.TheVariants as level
use Rattle.lift_tree.specs.declared.term.Dimension.TheVariants.{X, Y}
use Rattle.kernel_tree.specs.Formula.{Formula, Lanes, Number, LoopVariable, Binary, Spread}
use Rattle.kernel_tree.specs.Formula as formula
use Rattle.kernel_tree.specs.Code.{Private, Code, End, Performs, Assigns, AssignsFour, Loops}
use Rattle.kernel_tree.specs.Launch.{Launch}
use Rattle.lift_ir.specs.Types.{Ty, Scalar, PairOf, ArrayOf, four, IsElement}
use Rattle.lift_ir.specs.Fours.{Lie, Loose, Whole, element_lie, bound_lie, held_lie, written_lie, Lies, LoadsFours, ReadsFours, WritesFours}
use Rattle.lift_ir.specs.Layouts.{result_position}
use Rattle.lift_ir.specs.Terms.{PrivateMemory, LoadSet, LoadsScalars, Over, Sequential, Term, Literal, Bound, Source, Apply, ApplyNumber, ApplyLanes, DivideLanes, Select, Both, Project, Reshape, LetArray, LetElement, Map, Fold, Store, Copy, push, lane_type, HasType}
use Rattle.lift_ir.specs.Scalars.{at_index}
use Rattle.printed_form.specs.Arguments.{private_arrays, argument_view}
use Rattle.printed_form.specs.Marks.{Marks, laid_in, held_marks, loaded_marks}
use Rattle.printed_form.specs.Form.{start_of, stride_of, IsAssigned, IsReassigned, IsElementWork, IsLoaded, IsFoldTurn, argument_marks, IsArgumentWork, IsWritten}
use Rattle.printed_form.specs.Counts.{Count, more, held_count, let_variables, load_count, variable_count, private_count}
use Rattle.printed_form.specs.Expressions.{Expr, OneWord, FourWords, held, of_one, of_both, of_three, in_fours, of_lanes, operation, selection, exprs}
use Rattle.printed_form.specs.Whole.{IsAlongRow, IsOverLaunch}
use Rattle.printed_form.specs.Views.{View, held_sign, held_view, loaded_view, view_at, rewritten_view, laid_view}
use Rattle.printed_form.specs.Printer.{or_number, or_lanes, sign_exprs, print_assigned, print_reassigned, print_element, print_stored, print_loaded, print_fold_turn, print_argument, print_written}
use Rattle.lift_ir.specs.Loads.{covers, all, held_scalars, IsHeld, AllHeld, AreLetsHeld, LoadsSuffice}
use Rattle.lift_ir.specs.Forms.{Stands, StandsAlongRow, StandsOverLaunch}
use Rattle.printed_form.specs.Means.{IsSpelled, HasCells, Shows, LiesAs, AllShow}
use Rattle.printed_form.proofs.Indices.{laid_cells}
use Rattle.printed_form.proofs.Lies.{all_within, showing, turned_lies, first_lies, written_lies, lie_serves}
use Rattle.printed_form.proofs.Held.{IsComponent, component_part, part_component, IsExprOf, IsExpr, AreExprs, one_word, four_words, exprs_left, exprs_right, held_exprs, loaded_exprs, HeldIn, held_push, all_push, held_shows, loaded_shows, loaded_is, stored_is}
use Rattle.printed_form.proofs.Shown.{turned_cells, first_cells, back_cells}
use Rattle.printed_form.proofs.Arguments.{kept_is, argument_shows, stands_argument}

-- ---- expressions

-- a component of a word
word_part : (ty : Ty) (cs : List Bool) (s m : Option Expr) → ty ≡ Scalar → IsComponent ty cs → IsExpr Scalar [] s m → IsExpr ty cs s m
word_part ty cs s m e w h = subst (λ z. IsExpr z cs s m) (sym e) (go cs (subst (λ z. IsComponent z cs) e w))
  where
    go : (cs : List Bool) → IsComponent Scalar cs → IsExpr Scalar cs s m
    go [] w = h
    go (c ∷ cs) w = absurd w

-- and of four
four_part : (ty : Ty) (cs : List Bool) (s m : Option Expr) → ty ≡ four → IsComponent ty cs → IsExpr four [] s m → IsExpr ty cs s m
four_part ty cs s m e w h = subst (λ z. IsExpr z cs s m) (sym e) (go cs (subst (λ z. IsComponent z cs) e w))
  where
    go : (cs : List Bool) → IsComponent four cs → IsExpr four cs s m
    go [] w = h
    go (c ∷ cs) w = absurd w

of_one_is : (f : Formula → Formula) (s m : Option Expr) → IsExpr Scalar [] s m → IsExpr Scalar [] (of_one f s) (of_one f m)
of_one_is f s m h =
    let a = one_word s m h in
    record { expr = OneWord (f a.0); kind = tt; by_signs = ap (of_one f) a.1; by_marks = ap (of_one f) a.2 }

of_both_is : (f : Formula → Formula → Formula) (s m s2 m2 : Option Expr) → IsExpr Scalar [] s m → IsExpr Scalar [] s2 m2 → IsExpr Scalar [] (of_both f s s2) (of_both f m m2)
of_both_is f s m s2 m2 h k =
    let a = one_word s m h in
    let r = of_one_is (f a.0) s2 m2 k in
    record { expr = r.expr; kind = r.kind; by_signs = ap (λ z. of_both f z s2) a.1 ∙ r.by_signs; by_marks = ap (λ z. of_both f z m2) a.2 ∙ r.by_marks }

of_three_is : (f : Formula → Formula → Formula → Formula) (s m s2 m2 s3 m3 : Option Expr) → IsExpr Scalar [] s m → IsExpr Scalar [] s2 m2 → IsExpr Scalar [] s3 m3 → IsExpr Scalar [] (of_three f s s2 s3) (of_three f m m2 m3)
of_three_is f s m s2 m2 s3 m3 h k r =
    let a = one_word s m h in
    let b = of_both_is (f a.0) s2 m2 s3 m3 k r in
    record { expr = b.expr; kind = b.kind; by_signs = ap (λ z. of_three f z s2 s3) a.1 ∙ b.by_signs; by_marks = ap (λ z. of_three f z m2 m3) a.2 ∙ b.by_marks }

lane_part : (v : Bool) → IsComponent (lane_type v) []
lane_part true = (refl, refl)
lane_part false = tt

in_fours_is : (v : Bool) (s m : Option Expr) → IsExpr (lane_type v) [] s m → (e : Lanes) × (in_fours v s ≡ Some e) × (in_fours v m ≡ Some e)
in_fours_is true s m h = let a = four_words 4 Scalar s m h in (a.0, ap (in_fours true) a.1, ap (in_fours true) a.2)
in_fours_is false s m h = let a = one_word s m h in (Spread a.0, ap (in_fours false) a.1, ap (in_fours false) a.2)

of_lanes_is : (f : Lanes → Lanes → Lanes) (s m s2 m2 : Option Lanes) → (e : Lanes) × (s ≡ Some e) × (m ≡ Some e) → (e : Lanes) × (s2 ≡ Some e) × (m2 ≡ Some e) → IsExpr four [] (of_lanes f s s2) (of_lanes f m m2)
of_lanes_is f s m s2 m2 a b = record {
  expr = FourWords (f a.0 b.0);
  kind = tt;
  by_signs = ap (λ z. of_lanes f z s2) a.1 ∙ ap (λ z. of_lanes f (Some a.0) z) b.1;
  by_marks = ap (λ z. of_lanes f z m2) a.2 ∙ ap (λ z. of_lanes f (Some a.0) z) b.2;
}

module _ {A : Type 0} (num : A → ℕ) (src : ℕ → Ty) where
  -- a component that hangs on variables has one expression, by views and by marks
  pub expressed : (t : Term A) (g : ℕ → Ty) (views : ℕ → View) (env : ℕ → Marks) (h : ℕ → List Bool → Bool) (n : Count) (ty : Ty) (cs : List Bool) → HasType num src g t ty → IsComponent ty cs → IsHeld h t cs → HeldIn g views env h → IsExpr ty cs (sign_exprs views n t cs) (exprs env n t cs)
  expressed (Literal c) g views env h n ty cs ok w nm r = word_part ty cs _ _ ok w (record { expr = OneWord (Number c); kind = tt; by_signs = refl; by_marks = refl })
  expressed (Bound v) g views env h n ty cs ok w nm r = subst (λ z. IsExpr z cs (held_sign (views v cs [])) (held (env v cs))) (sym ok) (r v cs (component_part (g v) cs (subst (λ z. IsComponent z cs) ok w)) nm)
  expressed (Apply o a b) g views env h n ty cs ok w nm r =
      word_part ty cs _ _ ok.0 w (of_both_is (operation o) _ _ _ _ (expressed a g views env h n Scalar [] ok.2 tt nm.0 r) (expressed b g views env h (more n (let_variables a)) Scalar [] ok.3 tt nm.1 r))
  expressed (ApplyNumber o m a) g views env h n ty cs ok w nm r = word_part ty cs _ _ ok.0 w (of_one_is (λ x. Binary o x (Number m)) _ _ (expressed a g views env h n Scalar [] ok.2 tt nm r))
  expressed (ApplyLanes o x y a b) g views env h n ty cs ok w nm r =
      four_part ty cs _ _ ok.0 w
      (of_lanes_is (formula.Each o) _ _ _ _ (in_fours_is x _ _ (expressed a g views env h n (lane_type x) [] ok.4 (lane_part x) nm.0 r)) (in_fours_is y _ _ (expressed b g views env h (more n (let_variables a)) (lane_type y) [] ok.5 (lane_part y) nm.1 r)))
  expressed (DivideLanes o m a) g views env h n ty cs ok w nm r =
      four_part ty cs _ _ ok.0 w (of_lanes_is (formula.Each o) _ _ _ _ (in_fours_is true _ _ (expressed a g views env h n four [] ok.2 (refl, refl) nm r)) (Spread (Number m), refl, refl))
  expressed (Select c a b) g views env h n ty cs ok w nm r =
      word_part ty cs _ _ ok.0 w
      (of_three_is selection _ _ _ _ _ _ (expressed c g views env h n Scalar [] ok.1 tt nm.0 r) (expressed a g views env h (more n (let_variables c)) Scalar [] ok.2 tt nm.1 r) (expressed b g views env h (more (more n (let_variables c)) (let_variables a)) Scalar [] ok.3 tt nm.2 r))
  expressed (Both false a b) g views env h n ty [] ok w nm r = absurd (subst (λ z. IsComponent z []) ok.2 w)
  expressed (Both false a b) g views env h n ty (false ∷ cs) ok w nm r =
      let e = expressed a g views env h n ok.0 cs ok.5 (subst (λ z. IsComponent z (false ∷ cs)) ok.2 w) nm r in
      record { expr = e.expr; kind = subst (λ z. IsExprOf z (false ∷ cs) e.expr) (sym ok.2) e.kind; by_signs = e.by_signs; by_marks = e.by_marks }
  expressed (Both false a b) g views env h n ty (true ∷ cs) ok w nm r =
      let e = expressed b g views env h (more n (let_variables a)) ok.1 cs ok.6 (subst (λ z. IsComponent z (true ∷ cs)) ok.2 w) nm r in
      record { expr = e.expr; kind = subst (λ z. IsExprOf z (true ∷ cs) e.expr) (sym ok.2) e.kind; by_signs = e.by_signs; by_marks = e.by_marks }
  expressed (Both true a b) g views env h n ty [] ok w nm r = absurd (no_pair ok.0 ok.1 ok.2 (subst (λ z. IsComponent z []) ok.3 w).1)
    where
      no_pair : (n : ℕ) (x y : Ty) → PairOf x y ≡ Scalar → ⊥
      no_pair n x y e = cc
  expressed (Both true a b) g views env h n ty (c ∷ cs) ok w nm r = absurd (subst (λ z. IsComponent z (c ∷ cs)) ok.3 w)
  expressed (Project false a) g views env h n ty cs ok w nm r =
      let e = expressed a g views env h n (PairOf ty ok.0) (false ∷ cs) ok.1 w nm r in
      record { expr = e.expr; kind = e.kind; by_signs = e.by_signs; by_marks = e.by_marks }
  expressed (Project true a) g views env h n ty cs ok w nm r =
      let e = expressed a g views env h n (PairOf ok.0 ty) (true ∷ cs) ok.1 w nm r in
      record { expr = e.expr; kind = e.kind; by_signs = e.by_signs; by_marks = e.by_marks }
  expressed (LetElement u v b) g views env h n ty cs ok w nm r =
      let n1 = more n (let_variables v) in
      expressed b (push u g) (push (held_view u n1) views) (push (held_marks u n1) env) (push all h) (more n1 (held_count u)) ty cs ok.2 w nm (held_push u (held_view u n1) (held_marks u n1) all g views env h (λ ds z q. held_exprs u n1 ok.0 ds z) r)
  expressed _ g views env h n ty cs ok w nm r = absurd nm

  -- so has each of an element
  pub exprs_of : (t : Term A) (g : ℕ → Ty) (views : ℕ → View) (env : ℕ → Marks) (h : ℕ → List Bool → Bool) (n : Count) (ty : Ty) → IsElement ty → HasType num src g t ty → AllHeld h ty t → HeldIn g views env h → AreExprs ty (sign_exprs views n t) (exprs env n t)
  exprs_of t g views env h n ty el ok nm r cs w = expressed t g views env h n ty cs ok (part_component ty cs el w) (nm cs w) r

-- ---- statements

pub assigned_is : (ty : Ty) (k f : List Bool → Option Expr) (n : Count) (rest : Code) → IsElement ty → AreExprs ty k f → IsAssigned ty f n (print_assigned ty k n rest) rest
assigned_is Scalar k f n rest el s = let e = one_word (k []) (f []) (s [] tt) in (e.0, e.2, ap (λ z. Performs (Assigns n.words (or_number z)) rest) e.1)
assigned_is (PairOf a b) k f n rest el s = (
  print_assigned b (λ cs. k (true ∷ cs)) (more n (held_count a)) rest,
  assigned_is a (λ cs. k (false ∷ cs)) (λ cs. f (false ∷ cs)) n _ el.0 (exprs_left a b k f s),
  assigned_is b (λ cs. k (true ∷ cs)) (λ cs. f (true ∷ cs)) (more n (held_count a)) rest el.1 (exprs_right a b k f s),
)
assigned_is (ArrayOf m t) k f n rest el s = let e = four_words m t (k []) (f []) (s [] tt) in (el, e.0, e.2, ap (λ z. Performs (AssignsFour n.fours (or_lanes z)) rest) e.1)

pub again_is : (ty : Ty) (k f : List Bool → Option Expr) (acc n : Count) (rest : Code) → IsElement ty → AreExprs ty k f → IsReassigned ty f acc n (print_reassigned ty k acc n rest) rest
again_is Scalar k f acc n rest el s = assigned_is Scalar k f acc rest el s
again_is (PairOf a b) k f acc n rest el s = (
  print_assigned (PairOf a b) (λ cs. held_sign (held_view (PairOf a b) n cs [])) acc rest,
  assigned_is (PairOf a b) k f n _ el s,
  assigned_is (PairOf a b) (λ cs. held_sign (held_view (PairOf a b) n cs [])) (λ cs. held (held_marks (PairOf a b) n cs)) acc rest el (held_exprs (PairOf a b) n el),
)
again_is (ArrayOf m t) k f acc n rest el s = assigned_is (ArrayOf m t) k f acc rest el s

module _ {A : Type 0} (num : A → ℕ) (src : ℕ → Ty) where
  pub element_is : (t : Term A) (g : ℕ → Ty) (views : ℕ → View) (env : ℕ → Marks) (h : ℕ → List Bool → Bool) (n : Count) (ty : Ty) (rest : Code) → HasType num src g t ty → AreLetsHeld h t → HeldIn g views env h → IsElementWork env n t (print_element views n t rest) rest
  element_is (Literal c) g views env h n ty rest ok nm r = refl
  element_is (Bound v) g views env h n ty rest ok nm r = refl
  element_is (Apply o a b) g views env h n ty rest ok nm r =
      (print_element views (more n (let_variables a)) b rest, element_is a g views env h n Scalar _ ok.2 nm.0 r, element_is b g views env h (more n (let_variables a)) Scalar rest ok.3 nm.1 r)
  element_is (ApplyNumber o m a) g views env h n ty rest ok nm r = element_is a g views env h n Scalar rest ok.2 nm r
  element_is (ApplyLanes o x y a b) g views env h n ty rest ok nm r =
      (print_element views (more n (let_variables a)) b rest, element_is a g views env h n (lane_type x) _ ok.4 nm.0 r, element_is b g views env h (more n (let_variables a)) (lane_type y) rest ok.5 nm.1 r)
  element_is (DivideLanes o m a) g views env h n ty rest ok nm r = element_is a g views env h n four rest ok.2 nm r
  element_is (Select c a b) g views env h n ty rest ok nm r =
      let n1 = more n (let_variables c) in
      let n2 = more n1 (let_variables a) in (
        print_element views n1 a (print_element views n2 b rest),
        print_element views n2 b rest,
        element_is c g views env h n Scalar _ ok.1 nm.0 r,
        element_is a g views env h n1 Scalar _ ok.2 nm.1 r,
        element_is b g views env h n2 Scalar rest ok.3 nm.2 r,
      )
  element_is (Both false a b) g views env h n ty rest ok nm r =
      (print_element views (more n (let_variables a)) b rest, element_is a g views env h n ok.0 _ ok.5 nm.0 r, element_is b g views env h (more n (let_variables a)) ok.1 rest ok.6 nm.1 r)
  element_is (Both true a b) g views env h n ty rest ok nm r =
      (print_element views (more n (let_variables a)) b rest, element_is a g views env h n (ArrayOf ok.0 ok.1) _ ok.4 nm.0 r, element_is b g views env h (more n (let_variables a)) (ArrayOf ok.0 ok.2) rest ok.5 nm.1 r)
  element_is (Project false a) g views env h n ty rest ok nm r = element_is a g views env h n (PairOf ty ok.0) rest ok.1 nm r
  element_is (Project true a) g views env h n ty rest ok nm r = element_is a g views env h n (PairOf ok.0 ty) rest ok.1 nm r
  element_is (LetElement u v b) g views env h n ty rest ok nm r =
      let n1 = more n (let_variables v) in
      let r2 = held_push u (held_view u n1) (held_marks u n1) all g views env h (λ ds z q. held_exprs u n1 ok.0 ds z) r in
      let last = print_element (push (held_view u n1) views) (more n1 (held_count u)) b rest in (
        print_assigned u (sign_exprs views n v) n1 last,
        last,
        element_is v g views env h n u (print_assigned u (sign_exprs views n v) n1 last) ok.1 nm.1 r,
        assigned_is u (sign_exprs views n v) (exprs env n v) n1 last ok.0 (exprs_of num src v g views env h n u ok.0 ok.1 nm.0 r),
        element_is b (push u g) (push (held_view u n1) views) (push (held_marks u n1) env) (push all h) (more n1 (held_count u)) ty rest ok.2 nm.2 r2,
      )
  element_is _ g views env h n ty rest ok nm r = absurd nm

module _ (l : Launch) (item : ℕ) {A : Type 0} (num : A → ℕ) (spell : A → Formula) (spelled : (n : A) → num n < 2 ^ 31 → IsSpelled l (spell n) (num n)) where
  module _ (src : ℕ → Ty) (ins : ℕ → Marks) (sins : ℕ → View) where
    -- a fold's turn
    turn_is : (ts : List ℕ) (g : ℕ → Ty) (views : ℕ → View) (env : ℕ → Marks) (h : ℕ → List Bool → Bool) (z : Lie) (loads : LoadSet) (xt ty : Ty) (x : View) (y : Marks) (acc : Count) (b : Term A) → LoadsScalars loads xt → LoadsFours z loads → IsElement ty → HasType num src (push xt (push ty g)) b ty
        → AllHeld (push (covers loads) (push all h)) ty b → AreLetsHeld (push (covers loads) (push all h)) b → HasCells l item ts xt x y → LiesAs l item z ts xt x y → HeldIn g views env h → IsFoldTurn l item ins ts env loads ty y acc b (print_fold_turn views loads ty x acc b)
    turn_is ts g views env h z loads xt ty x y acc b suits four el ok nm lets cells lie r =
        let n1 = more acc (held_count ty) in
        let n2 = more n1 (load_count loads) in
        let g2 = push xt (push ty g) in
        let views2 = push (loaded_view loads x n1) (push (held_view ty acc) views) in
        let env2 = push (loaded_marks loads y n1) (push (held_marks ty acc) env) in
        let h2 = push (covers loads) (push all h) in
        let r2 = held_push xt (loaded_view loads x n1) (loaded_marks loads y n1) (covers loads) (push ty g) (push (held_view ty acc) views) (push (held_marks ty acc) env) (push all h) (λ cs w q. loaded_exprs loads xt x y n1 cs suits w q)
        (held_push ty (held_view ty acc) (held_marks ty acc) all g views env h (λ cs w q. held_exprs ty acc el cs w) r) in
        let last = print_reassigned ty (sign_exprs views2 n2 b) acc (more n2 (let_variables b)) End in (
          print_element views2 n2 b last,
          last,
          loaded_is l item ins ts z loads xt x y n1 _ suits four cells lie,
          element_is num src b g2 views2 env2 h2 n2 ty last ok lets r2,
          again_is ty (sign_exprs views2 n2 b) (exprs env2 n2 b) acc (more n2 (let_variables b)) End el (exprs_of num src b g2 views2 env2 h2 n2 ty el ok nm r2),
        )

    -- what stands for an argument shows it
    shown : (t : Term A) (ts : List ℕ) (lies : ℕ → Lie) (g : ℕ → Ty) (views : ℕ → View) (env : ℕ → Marks) (h : ℕ → List Bool → Bool) (a : ℕ) (ty : Ty) (z : Lie) → HasType num src g t ty → LoadsSuffice h t → Stands false t → AllShow l item ts lies g views env → AllShow l item ts (λ v. Whole) src sins ins → Lies lies t z
        → Shows l item ts ty (argument_view private_arrays spell sins views a t) (argument_marks l ins num env a t) × LiesAs l item z ts ty (argument_view private_arrays spell sins views a t) (argument_marks l ins num env a t)
    shown t ts lies g views env h a ty z ok nm sd es gs s = argument_shows private_arrays l item num spell spelled src ins sins ts gs t lies g views env h a ty z (stands_argument t sd) ok nm es s

    -- what is pushed for it
    shown_push : (t : Term A) (ts : List ℕ) (lies : ℕ → Lie) (g : ℕ → Ty) (views : ℕ → View) (env : ℕ → Marks) (h : ℕ → List Bool → Bool) (a : ℕ) (ty : Ty) (z : Lie) → HasType num src g t ty → LoadsSuffice h t → Stands false t → AllShow l item ts lies g views env → AllShow l item ts (λ v. Whole) src sins ins → Lies lies t z
        → AllShow l item ts (push z lies) (push ty g) (push (argument_view private_arrays spell sins views a t) views) (push (argument_marks l ins num env a t) env)
    shown_push t ts lies g views env h a ty z ok nm sd es gs s =
        let p = shown t ts lies g views env h a ty z ok nm sd es gs s in
        let x = argument_view private_arrays spell sins views a t in
        let y = argument_marks l ins num env a t in
        all_push l item ts z ty x y lies g views env (showing l item z ts ty x y p.0 p.1) es

    kept_push : (t : Term A) (g : ℕ → Ty) (views : ℕ → View) (env : ℕ → Marks) (h : ℕ → List Bool → Bool) (a : ℕ) (ty : Ty) → HasType num src g t ty → HeldIn g views env h → HeldIn (push ty g) (push (argument_view private_arrays spell sins views a t) views) (push (argument_marks l ins num env a t) env) (push (held_scalars h t) h)
    kept_push t g views env h a ty ok r = held_push ty (argument_view private_arrays spell sins views a t) (argument_marks l ins num env a t) (held_scalars h t) g views env h (λ cs w k. kept_is private_arrays num spell src ins sins t g views env h a ty cs ok w k r) r

    -- the body of a map at a turn: what is loaded and what is bound
    record AtTurn (ts2 : List ℕ) (lies : ℕ → Lie) (g : ℕ → Ty) (views : ℕ → View) (env : ℕ → Marks) (h : ℕ → List Bool → Bool) (z : Lie) (loads : LoadSet) (t : Ty) (x : View) (y : Marks) (n1 : Count) : Type 0 where
      shows : AllShow l item ts2 (push (bound_lie loads z) lies) (push t g) (push (loaded_view loads x n1) views) (push (loaded_marks loads y n1) env)
      held : HeldIn (push t g) (push (loaded_view loads x n1) views) (push (loaded_marks loads y n1) env) (push (covers loads) h)
      work : (rest : Code) → IsLoaded l item ins ts2 loads y n1 (print_loaded loads x n1 rest) rest

    at_turn : (ts2 : List ℕ) (lies : ℕ → Lie) (g : ℕ → Ty) (views : ℕ → View) (env : ℕ → Marks) (h : ℕ → List Bool → Bool) (z : Lie) (loads : LoadSet) (t : Ty) (x : View) (y : Marks) (n1 : Count) → LoadsScalars loads t → LoadsFours z loads → HasCells l item ts2 t x y → LiesAs l item z ts2 t x y
        → AllShow l item ts2 lies g views env → HeldIn g views env h → AtTurn ts2 lies g views env h z loads t x y n1
    at_turn ts2 lies g views env h z loads t x y n1 suits fours cells lie es r = record {
      shows = all_push l item ts2 (bound_lie loads z) t (loaded_view loads x n1) (loaded_marks loads y n1) lies g views env (loaded_shows l item ts2 z loads t x y n1 suits fours cells lie) es;
      held = held_push t (loaded_view loads x n1) (loaded_marks loads y n1) (covers loads) g views env h (λ cs w q. loaded_exprs loads t x y n1 cs suits w q) r;
      work = λ rest. loaded_is l item ins ts2 z loads t x y n1 rest suits fours cells lie;
    }

    mutual
      gathered_is : (t : Term A) (ts : List ℕ) (depth : ℕ) (lies : ℕ → Lie) (g : ℕ → Ty) (views : ℕ → View) (env : ℕ → Marks) (h : ℕ → List Bool → Bool) (a : ℕ) (n : Count) (ty : Ty) (rest : Code) → length ts ≡ depth → HasType num src g t ty → LoadsSuffice h t → Stands false t → ReadsFours lies t → AllShow l item ts lies g views env → AllShow l item ts (λ v. Whole) src sins ins → HeldIn g views env h
          → IsArgumentWork l item ins num ts env a n t (print_argument spell sins depth views a n t rest) rest
      gathered_is (Bound v) ts depth lies g views env h a n ty rest d ok nm sd fs es gs r = refl
      gathered_is (Source v) ts depth lies g views env h a n ty rest d ok nm sd fs es gs r = refl
      gathered_is (Both false x y) ts depth lies g views env h a n ty rest d ok nm sd fs es gs r =
          let next = print_argument spell sins depth views (a + private_count x) (more n (variable_count x)) y rest in
          (next, gathered_is x ts depth lies g views env h a n ok.0 next d ok.5 nm.0 sd.0 fs.0 es gs r, gathered_is y ts depth lies g views env h (a + private_count x) (more n (variable_count x)) ok.1 rest d ok.6 nm.1 sd.1 fs.1 es gs r)
      gathered_is (Both true x y) ts depth lies g views env h a n ty rest d ok nm sd fs es gs r =
          let next = print_argument spell sins depth views (a + private_count x) (more n (variable_count x)) y rest in
          (next, gathered_is x ts depth lies g views env h a n (ArrayOf ok.0 ok.1) next d ok.4 nm.0 sd.0 fs.0 es gs r, gathered_is y ts depth lies g views env h (a + private_count x) (more n (variable_count x)) (ArrayOf ok.0 ok.2) rest d ok.5 nm.1 sd.1 fs.1 es gs r)
      gathered_is (Project false x) ts depth lies g views env h a n ty rest d ok nm sd fs es gs r = gathered_is x ts depth lies g views env h a n (PairOf ty ok.0) rest d ok.1 nm sd fs es gs r
      gathered_is (Project true x) ts depth lies g views env h a n ty rest d ok nm sd fs es gs r = gathered_is x ts depth lies g views env h a n (PairOf ok.0 ty) rest d ok.1 nm sd fs es gs r
      gathered_is (Reshape y x) ts depth lies g views env h a n ty rest d ok nm sd fs es gs r = gathered_is x ts depth lies g views env h a n ok.0 rest d ok.1 nm sd fs es gs r
      gathered_is (LetArray v b) ts depth lies g views env h a n ty rest d ok nm sd fs es gs r =
          let x = argument_view private_arrays spell sins views a v in
          let y = argument_marks l ins num env a v in
          let next = print_argument spell sins depth (push x views) (a + private_count v) (more n (variable_count v)) b rest in (
            next,
            gathered_is v ts depth lies g views env h a n ok.0 next d ok.1 nm.0 sd.0 fs.2 es gs r,
            gathered_is b ts depth (push fs.0 lies) (push ok.0 g) (push x views) (push y env) (push (held_scalars h v) h) (a + private_count v) (more n (variable_count v)) ty rest d ok.2 nm.1 sd.1 fs.3 (shown_push v ts lies g views env h a ok.0 fs.0 ok.1 nm.0 sd.0 es gs fs.1) gs
                (kept_push v g views env h a ok.0 ok.1 r),
          )
      gathered_is (Copy PrivateMemory u x) ts depth lies g views env h a n ty rest d ok nm sd fs es gs r =
          let first = a + private_count x in
          written_is x ts depth lies g views env h a n u Loose (laid_view Private first u) (laid_in Private first u) rest d (subst (HasType num src g x) ok.0 ok.2) nm.2 sd fs es gs r (laid_cells l item num spell spelled ts Private first u ok.1 nm.1 nm.0) tt
      gathered_is _ ts depth lies g views env h a n ty rest d ok nm sd fs es gs r = absurd sd

      pub written_is : (t : Term A) (ts : List ℕ) (depth : ℕ) (lies : ℕ → Lie) (g : ℕ → Ty) (views : ℕ → View) (env : ℕ → Marks) (h : ℕ → List Bool → Bool) (a : ℕ) (n : Count) (ty : Ty) (z : Lie) (v : View) (w : Marks) (rest : Code) → length ts ≡ depth → HasType num src g t ty → LoadsSuffice h t → Stands true t → WritesFours lies z t → AllShow l item ts lies g views env → AllShow l item ts (λ v. Whole) src sins ins → HeldIn g views env h → HasCells l item ts ty v w → LiesAs l item z ts ty v w
          → IsWritten l item ins num ts env a n t w (print_written spell sins depth views a n t v rest) rest
      written_is (Store u t) ts depth lies g views env h a n ty z v w rest d ok nm sd fs es gs r cells lie =
          let last = print_stored u (sign_exprs views n t) v rest in (
            last,
            element_is num src t g views env h n ty last ok.2 nm.1 r,
            stored_is l item ins ts z u (sign_exprs views n t) (exprs env n t) v w rest ok.1 (exprs_of num src t g views env h n u ok.1 (subst (HasType num src g t) ok.0 ok.2) nm.0 r) fs (subst (λ q. HasCells l item ts q v w) ok.0 cells) (subst (λ q. LiesAs l item z ts q v w) ok.0 lie),
          )
      written_is (Reshape y t) ts depth lies g views env h a n ty z v w rest d ok nm sd fs es gs r cells lie = (
        sd.0,
        written_is t ts depth lies g views env h a n ok.0 (written_lie y fs.0) (rewritten_view spell y v) (λ cs q. w cs (result_position num y q)) rest d ok.1 nm sd.1 fs.2 es gs r (back_cells l item num spell spelled ts y ok.0 ty v w sd.0 ok.2 ok.3 ok.4 cells)
            (written_lies l item num spell spelled y fs.0 ts ok.0 ty v w sd.0 ok.2 ok.3 ok.4 (lie_serves l item z fs.0 ts ty v w fs.1 lie)),
      )
      written_is (LetArray x b) ts depth lies g views env h a n ty z v w rest d ok nm sd fs es gs r cells lie =
          let e = argument_view private_arrays spell sins views a x in
          let f = argument_marks l ins num env a x in
          let next = print_written spell sins depth (push e views) (a + private_count x) (more n (variable_count x)) b v rest in (
            next,
            gathered_is x ts depth lies g views env h a n ok.0 next d ok.1 nm.0 sd.0 fs.2 es gs r,
            written_is b ts depth (push fs.0 lies) (push ok.0 g) (push e views) (push f env) (push (held_scalars h x) h) (a + private_count x) (more n (variable_count x)) ty z v w rest d ok.2 nm.1 sd.1 fs.3 (shown_push x ts lies g views env h a ok.0 fs.0 ok.1 nm.0 sd.0 es gs fs.1) gs (kept_push x g views env h a ok.0 ok.1 r) cells lie,
          )
      written_is (LetElement u x b) ts depth lies g views env h a n ty z v w rest d ok nm sd fs es gs r cells lie =
          let n1 = more n (let_variables x) in
          let n2 = more n1 (held_count u) in
          let views2 = push (held_view u n1) views in
          let env2 = push (held_marks u n1) env in
          let last = print_written spell sins depth views2 a n2 b v rest in (
            print_assigned u (sign_exprs views n x) n1 last,
            last,
            element_is num src x g views env h n u _ ok.1 nm.1 r,
            assigned_is u (sign_exprs views n x) (exprs env n x) n1 last ok.0 (exprs_of num src x g views env h n u ok.0 ok.1 nm.0 r),
            written_is b ts depth (push (held_lie u) lies) (push u g) views2 env2 (push all h) a n2 ty z v w rest d ok.2 nm.2 sd fs (all_push l item ts (held_lie u) u (held_view u n1) (held_marks u n1) lies g views env (held_shows l item ts u (held_view u n1) (held_marks u n1)) es) gs
                (held_push u (held_view u n1) (held_marks u n1) all g views env h (λ cs q k. held_exprs u n1 ok.0 cs q) r) cells lie,
          )
      written_is (Map Sequential z0 loads xs b) ts depth lies g views env h a n ty z v w rest d ok nm sd fs es gs r cells lie =
          let len = num z0 in
          let e = argument_view private_arrays spell sins views a xs in
          let f = argument_marks l ins num env a xs in
          let n1 = more n (variable_count xs) in
          let x = view_at (LoopVariable depth) e in
          let views2 = push (loaded_view loads x n1) views in
          let inner = print_written spell sins (suc depth) views2 (a + private_count xs) (more n1 (load_count loads)) b (view_at (LoopVariable depth) v) End in
          let body = print_loaded loads x n1 inner in
          let loop = Loops (start_of Sequential) (spell z0) (stride_of Sequential) body rest in
          let p = shown xs ts lies g views env h a (ArrayOf len ok.0) fs.0 ok.4 nm.0 sd.0 es gs fs.1 in
          let cells2 = subst (λ q. HasCells l item ts q v w) ok.6 cells in
          let lie2 = subst (λ q. LiesAs l item z ts q v w) ok.6 lie in (
            loop,
            gathered_is xs ts depth lies g views env h a n (ArrayOf len ok.0) loop d ok.4 nm.0 sd.0 fs.2 es gs r,
            (
              spell z0,
              body,
              refl,
              (spelled z0 ok.2).0,
              λ i lt own.
                  let ts2 = ts ++ i ∷ [] in
                  let y = loaded_marks loads (at_index i f) n1 in
                  let d2 : length ts2 ≡ suc depth = (let q = length-append ts (i ∷ []) in omega arith) in
                  let turn = at_turn ts2 lies g views env h (element_lie fs.0) loads ok.0 x (at_index i f) n1 ok.3 fs.3 (turned_cells l item ts depth i len ok.0 e f d lt ok.2 p.0) (turned_lies l item fs.0 ts depth i len ok.0 e f d lt ok.2 p.1) (all_within l item ts i lies g views env es) r in (
                    inner,
                    turn.work inner,
                    written_is b ts2 (suc depth) (push (bound_lie loads (element_lie fs.0)) lies) (push ok.0 g) views2 (push y env) (push (covers loads) h) (a + private_count xs) (more n1 (load_count loads)) ok.1 (element_lie z) (view_at (LoopVariable depth) v) (at_index i w) End d2 ok.5 nm.1 sd.1 fs.4 turn.shows (all_within l item ts i (λ v. Whole) src sins ins gs) turn.held
                        (turned_cells l item ts depth i len ok.1 v w d lt ok.2 cells2) (turned_lies l item z ts depth i len ok.1 v w d lt ok.2 lie2),
                  ),
            ),
          )
      written_is (Fold z0 loads yt xs s b) ts depth lies g views env h a n ty z v w rest d ok nm sd fs es gs r cells lie =
          let len = num z0 in
          let e = argument_view private_arrays spell sins views a xs in
          let f = argument_marks l ins num env a xs in
          let n1 = more n (variable_count xs) in
          let n2 = more n1 (let_variables s) in
          let last = print_stored yt (λ cs. held_sign (held_view yt n2 cs [])) (view_at (Number 0) v) rest in
          let body = print_fold_turn views loads yt (view_at (LoopVariable depth) e) n2 b in
          let loop = Loops (start_of Sequential) (spell z0) (stride_of Sequential) body last in
          let assign = print_assigned yt (sign_exprs views n1 s) n2 loop in
          let start = print_element views n1 s assign in
          let p = shown xs ts lies g views env h a (ArrayOf len ok.0) fs.0 ok.4 nm.0 sd es gs fs.1 in
          let cells2 = subst (λ q. HasCells l item ts q v w) ok.7 cells in
          let lie2 = subst (λ q. LiesAs l item z ts q v w) ok.7 lie in (
            start,
            assign,
            loop,
            last,
            gathered_is xs ts depth lies g views env h a n (ArrayOf len ok.0) start d ok.4 nm.0 sd fs.2 es gs r,
            element_is num src s g views env h n1 yt assign ok.5 nm.2 r,
            assigned_is yt (sign_exprs views n1 s) (exprs env n1 s) n2 loop ok.3 (exprs_of num src s g views env h n1 yt ok.3 ok.5 nm.1 r),
            (
              spell z0,
              body,
              refl,
              (spelled z0 ok.1).0,
              λ i lt own. turn_is (ts ++ i ∷ []) g views env h (element_lie fs.0) loads ok.0 yt (view_at (LoopVariable depth) e) (at_index i f) n2 b ok.2 fs.3 ok.3 ok.6 nm.3 nm.4 (turned_cells l item ts depth i len ok.0 e f d lt ok.1 p.0) (turned_lies l item fs.0 ts depth i len ok.0 e f d lt ok.1 p.1) r,
            ),
            stored_is l item ins ts (element_lie z) yt (λ cs. held_sign (held_view yt n2 cs [])) (λ cs. held (held_marks yt n2 cs)) (view_at (Number 0) v) (at_index 0 w) rest ok.3 (held_exprs yt n2 ok.3) fs.4 (first_cells l item ts yt v w cells2) (first_lies l item z ts yt v w lie2),
          )
      written_is _ ts depth lies g views env h a n ty z v w rest d ok nm sd fs es gs r cells lie = absurd sd

    along_is : (t : Term A) (ts : List ℕ) (depth : ℕ) (lies : ℕ → Lie) (g : ℕ → Ty) (views : ℕ → View) (env : ℕ → Marks) (h : ℕ → List Bool → Bool) (a : ℕ) (n : Count) (ty : Ty) (z : Lie) (v : View) (w : Marks) (rest : Code) → length ts ≡ depth → HasType num src g t ty → LoadsSuffice h t → StandsAlongRow t → WritesFours lies z t → AllShow l item ts lies g views env → AllShow l item ts (λ v. Whole) src sins ins → HeldIn g views env h → HasCells l item ts ty v w → LiesAs l item z ts ty v w
        → IsAlongRow l item ins num ts env a n t w (print_written spell sins depth views a n t v rest) rest
    along_is (Reshape y t) ts depth lies g views env h a n ty z v w rest d ok nm sd fs es gs r cells lie = (
      sd.0,
      along_is t ts depth lies g views env h a n ok.0 (written_lie y fs.0) (rewritten_view spell y v) (λ cs q. w cs (result_position num y q)) rest d ok.1 nm sd.1 fs.2 es gs r (back_cells l item num spell spelled ts y ok.0 ty v w sd.0 ok.2 ok.3 ok.4 cells)
          (written_lies l item num spell spelled y fs.0 ts ok.0 ty v w sd.0 ok.2 ok.3 ok.4 (lie_serves l item z fs.0 ts ty v w fs.1 lie)),
    )
    along_is (Map (Over level.Launch X) z0 loads xs b) ts depth lies g views env h a n ty z v w rest d ok nm sd fs es gs r cells lie =
        let len = num z0 in
        let e = argument_view private_arrays spell sins views a xs in
        let f = argument_marks l ins num env a xs in
        let n1 = more n (variable_count xs) in
        let x = view_at (LoopVariable depth) e in
        let views2 = push (loaded_view loads x n1) views in
        let inner = print_written spell sins (suc depth) views2 (a + private_count xs) (more n1 (load_count loads)) b (view_at (LoopVariable depth) v) End in
        let body = print_loaded loads x n1 inner in
        let loop = Loops (start_of (Over level.Launch X)) (spell z0) (stride_of (Over level.Launch X)) body rest in
        let p = shown xs ts lies g views env h a (ArrayOf len ok.0) fs.0 ok.4 nm.0 sd.0 es gs fs.1 in
        let cells2 = subst (λ q. HasCells l item ts q v w) ok.6 cells in
        let lie2 = subst (λ q. LiesAs l item z ts q v w) ok.6 lie in (
          loop,
          gathered_is xs ts depth lies g views env h a n (ArrayOf len ok.0) loop d ok.4 nm.0 sd.0 fs.2 es gs r,
          (
            spell z0,
            body,
            refl,
            (spelled z0 ok.2).0,
            λ i lt own.
                let ts2 = ts ++ i ∷ [] in
                let y = loaded_marks loads (at_index i f) n1 in
                let d2 : length ts2 ≡ suc depth = (let q = length-append ts (i ∷ []) in omega arith) in
                let turn = at_turn ts2 lies g views env h (element_lie fs.0) loads ok.0 x (at_index i f) n1 ok.3 fs.3 (turned_cells l item ts depth i len ok.0 e f d lt ok.2 p.0) (turned_lies l item fs.0 ts depth i len ok.0 e f d lt ok.2 p.1) (all_within l item ts i lies g views env es) r in (
                  inner,
                  turn.work inner,
                  written_is b ts2 (suc depth) (push (bound_lie loads (element_lie fs.0)) lies) (push ok.0 g) views2 (push y env) (push (covers loads) h) (a + private_count xs) (more n1 (load_count loads)) ok.1 (element_lie z) (view_at (LoopVariable depth) v) (at_index i w) End d2 ok.5 nm.1 sd.1 fs.4 turn.shows (all_within l item ts i (λ v. Whole) src sins ins gs) turn.held
                      (turned_cells l item ts depth i len ok.1 v w d lt ok.2 cells2) (turned_lies l item z ts depth i len ok.1 v w d lt ok.2 lie2),
                ),
          ),
        )
    along_is _ ts depth lies g views env h a n ty z v w rest d ok nm sd fs es gs r cells lie = absurd sd

    pub over_launch_is : (t : Term A) (lies : ℕ → Lie) (g : ℕ → Ty) (views : ℕ → View) (env : ℕ → Marks) (h : ℕ → List Bool → Bool) (a : ℕ) (n : Count) (ty : Ty) (z : Lie) (v : View) (w : Marks) (rest : Code) → HasType num src g t ty → LoadsSuffice h t → StandsOverLaunch t → WritesFours lies z t → AllShow l item [] lies g views env → AllShow l item [] (λ v. Whole) src sins ins → HeldIn g views env h → HasCells l item [] ty v w → LiesAs l item z [] ty v w
        → IsOverLaunch l item ins num env a n t w (print_written spell sins 0 views a n t v rest) rest
    over_launch_is (Reshape y t) lies g views env h a n ty z v w rest ok nm sd fs es gs r cells lie = (
      sd.0,
      over_launch_is t lies g views env h a n ok.0 (written_lie y fs.0) (rewritten_view spell y v) (λ cs q. w cs (result_position num y q)) rest ok.1 nm sd.1 fs.2 es gs r (back_cells l item num spell spelled [] y ok.0 ty v w sd.0 ok.2 ok.3 ok.4 cells)
          (written_lies l item num spell spelled y fs.0 [] ok.0 ty v w sd.0 ok.2 ok.3 ok.4 (lie_serves l item z fs.0 [] ty v w fs.1 lie)),
    )
    over_launch_is (LetArray x b) lies g views env h a n ty z v w rest ok nm sd fs es gs r cells lie =
        let e = argument_view private_arrays spell sins views a x in
        let f = argument_marks l ins num env a x in
        let next = print_written spell sins 0 (push e views) (a + private_count x) (more n (variable_count x)) b v rest in (
          next,
          gathered_is x [] 0 lies g views env h a n ok.0 next refl ok.1 nm.0 sd.0 fs.2 es gs r,
          over_launch_is b (push fs.0 lies) (push ok.0 g) (push e views) (push f env) (push (held_scalars h x) h) (a + private_count x) (more n (variable_count x)) ty z v w rest ok.2 nm.1 sd.1 fs.3 (shown_push x [] lies g views env h a ok.0 fs.0 ok.1 nm.0 sd.0 es gs fs.1) gs (kept_push x g views env h a ok.0 ok.1 r) cells lie,
        )
    over_launch_is (Map (Over level.Launch X) z0 loads xs b) lies g views env h a n ty z v w rest ok nm sd fs es gs r cells lie = along_is (Map (Over level.Launch X) z0 loads xs b) [] 0 lies g views env h a n ty z v w rest refl ok nm sd fs es gs r cells lie
    over_launch_is (Map (Over level.Launch Y) z0 loads xs b) lies g views env h a n ty z v w rest ok nm sd fs es gs r cells lie =
        let len = num z0 in
        let e = argument_view private_arrays spell sins views a xs in
        let f = argument_marks l ins num env a xs in
        let n1 = more n (variable_count xs) in
        let x = view_at (LoopVariable 0) e in
        let views2 = push (loaded_view loads x n1) views in
        let inner = print_written spell sins 1 views2 (a + private_count xs) (more n1 (load_count loads)) b (view_at (LoopVariable 0) v) End in
        let body = print_loaded loads x n1 inner in
        let loop = Loops (start_of (Over level.Launch Y)) (spell z0) (stride_of (Over level.Launch Y)) body rest in
        let p = shown xs [] lies g views env h a (ArrayOf len ok.0) fs.0 ok.4 nm.0 sd.0 es gs fs.1 in
        let cells2 = subst (λ q. HasCells l item [] q v w) ok.6 cells in
        let lie2 = subst (λ q. LiesAs l item z [] q v w) ok.6 lie in (
          loop,
          gathered_is xs [] 0 lies g views env h a n (ArrayOf len ok.0) loop refl ok.4 nm.0 sd.0 fs.2 es gs r,
          (
            spell z0,
            body,
            refl,
            (spelled z0 ok.2).0,
            λ i lt own.
                let ts2 = [] ++ i ∷ [] in
                let y = loaded_marks loads (at_index i f) n1 in
                let turn = at_turn ts2 lies g views env h (element_lie fs.0) loads ok.0 x (at_index i f) n1 ok.3 fs.3 (turned_cells l item [] 0 i len ok.0 e f refl lt ok.2 p.0) (turned_lies l item fs.0 [] 0 i len ok.0 e f refl lt ok.2 p.1) (all_within l item [] i lies g views env es) r in (
                  inner,
                  turn.work inner,
                  along_is b ts2 1 (push (bound_lie loads (element_lie fs.0)) lies) (push ok.0 g) views2 (push y env) (push (covers loads) h) (a + private_count xs) (more n1 (load_count loads)) ok.1 (element_lie z) (view_at (LoopVariable 0) v) (at_index i w) End refl ok.5 nm.1 sd.1 fs.4 turn.shows (all_within l item [] i (λ v. Whole) src sins ins gs) turn.held
                      (turned_cells l item [] 0 i len ok.1 v w refl lt ok.2 cells2) (turned_lies l item z [] 0 i len ok.1 v w refl lt ok.2 lie2),
                ),
          ),
        )
    over_launch_is _ lies g views env h a n ty z v w rest ok nm sd fs es gs r cells lie = absurd sd
