-- The printer's code is of the kernel grammar.
use Rattle.std.proofs.Common.{◌≡◌, ℕ, zero, suc, ◌+◌, ◌*◌, ◌<◌, ◌≤◌, Bool, true, false, List, [], ◌∷◌, nat_lt, refl, subst, arith}
use Rattle.std.specs.Prelude.{max, ◌&&◌, Option, Some}
use Rattle.std.proofs.lemmas.Bool.{lt-ltb, and_from}
use Rattle.kernel_tree.specs.Formula.{Formula, Number, Lanes, Spread}
use Rattle.kernel_tree.specs.Code.{Assigns, Loads, Stores, AssignsFour, LoadsFour, StoresFour, Code, End, Performs, Loops, Guards, Kernel}
use Rattle.kernel_tree.specs.Grammar.{is_constant, is_expression, is_readable, is_writable, is_shared, has_statement, is_statement, are_statements, deepest}
use Rattle.lift_ir.specs.Types.{Ty, Scalar, PairOf, ArrayOf, IsElement}
use Rattle.lift_ir.specs.Fours as fours
use Rattle.lift_ir.specs.Fours.{Lie, Loose, Whole, InFours, Serves, LoadsFours, StoresFours}
use Rattle.lift_ir.specs.Terms.{LoadSet, Skip, Take, TakeFour, Each, Kind, Term, Literal, Bound, Source, Apply, ApplyNumber, ApplyLanes, DivideLanes, Select, Both, Project, Reshape, LetArray, LetElement, Map, Fold, Store, Copy, push}
use Rattle.printed_form.specs.Counts.{Count, AtMost, more, held_count, let_variables, load_count, temporaries}
use Rattle.printed_form.specs.Expressions.{Expr, in_fours}
use Rattle.printed_form.specs.Form.{start_of, stride_of}
use Rattle.printed_form.specs.Views.{Sign, Blank, Held, HeldFour, Read, View, held_sign, held_view, loaded_view}
use Rattle.printed_form.specs.Printer.{or_number, or_lanes, sign_exprs, print_assigned, print_reassigned, print_element, print_store, print_load, print_store_four, print_load_four, print_stored, print_loaded, print_fold_turn}
use Rattle.printed_form.specs.Sound.{variables_of, IsGood, IsSpelledIn, IsSound, expression_height}
use Rattle.printed_form.specs.GrammarViews.{IsSharedSign, LiesShared, IsGoodSign, IsTargetSign, IsGoodView, IsTarget, AllReadWithin}
use Rattle.printed_form.proofs.GrammarExpressions.{as_expression, good_higher, good_number, IsGoodLanes, lanes_expression, or_good, or_lanes_good, some_higher, good_both, good_one, good_three, good_operand, good_literal, good_lanes, IsGoodSome}
use Rattle.printed_form.proofs.Runs.{at_most_of, as_many}
use Rattle.printed_form.proofs.GrammarViews.{view_more, part_good, part_target, held_good, loaded_good}

module _ (k : Kernel) (S : ℕ) (one : 1 ≤ S) (small : S ≤ 1024) (ifs : ℕ) where
  -- statements within so many loops, and these `if`s
  abbrev pub Fine : (l : ℕ) → Code → Type 0
  Fine l c = are_statements k l (ifs + l) c ≡ true

  abbrev pub Does : Code → Type 0
  Does c = has_statement c ≡ true

  -- ---- single statements
  assign_fine : (l v : ℕ) (e : Formula) (rest : Code) → v < k.variables → IsGood k l 1024 e → Fine l rest → Fine l (Performs (Assigns v e) rest)
  assign_fine l v e rest lt g f = and_from (is_statement k l (Assigns v e)) _ (and_from (nat_lt v k.variables) _ (lt-ltb v k.variables lt) (as_expression k l 1024 e (omega arith) g)) f

  load_fine : (l v : ℕ) (s : Sign) (rest : Code) (n : Count) (h : ℕ) → v < k.variables → h ≤ 1024 → IsGoodSign k n l h s → Fine l rest → Fine l (print_load s v rest)
  load_fine l v Blank rest n h lt le g f = f
  load_fine l v (Held u) rest n h lt le g f = f
  load_fine l v (HeldFour u) rest n h lt le g f = f
  load_fine l v (Read a i) rest n h lt le g f = and_from (is_statement k l (Loads v a i)) _ (and_from (nat_lt v k.variables) _ (lt-ltb v k.variables lt) (and_from (is_readable k a) _ g.0 (as_expression k l h i le g.1))) f

  store_fine : (l : ℕ) (s : Sign) (e : Formula) (rest : Code) (h : ℕ) → h ≤ 1024 → IsTargetSign k l h s → IsGood k l 1024 e → Fine l rest → Fine l (print_store s e rest)
  store_fine l Blank e rest h le g x f = absurd g
  store_fine l (Held u) e rest h le g x f = absurd g
  store_fine l (HeldFour u) e rest h le g x f = absurd g
  store_fine l (Read a i) e rest h le g x f = and_from (is_statement k l (Stores a i e)) _ (and_from (is_writable k a) _ g.0 (and_from (is_expression k l i) _ (as_expression k l h i le g.1) (as_expression k l 1024 e (omega arith) x))) f

  store_does : (l : ℕ) (s : Sign) (e : Formula) (rest : Code) (h : ℕ) → IsTargetSign k l h s → Does (print_store s e rest)
  store_does l Blank e rest h g = absurd g
  store_does l (Held u) e rest h g = absurd g
  store_does l (HeldFour u) e rest h g = absurd g
  store_does l (Read a i) e rest h g = refl

  load_does : (s : Sign) (v : ℕ) (rest : Code) → Does rest → Does (print_load s v rest)
  load_does Blank v rest d = d
  load_does (Held u) v rest d = d
  load_does (HeldFour u) v rest d = d
  load_does (Read a i) v rest d = refl

  -- ---- and of four words
  assign_four_fine : (l v : ℕ) (e : Lanes) (rest : Code) → v < k.vectors → IsGoodLanes k l 1024 e → Fine l rest → Fine l (Performs (AssignsFour v e) rest)
  assign_four_fine l v e rest lt g f = and_from (is_statement k l (AssignsFour v e)) _ (and_from (nat_lt v k.vectors) _ (lt-ltb v k.vectors lt) (lanes_expression k l 1024 e (omega arith) g)) f

  load_four_fine : (l v : ℕ) (s : Sign) (rest : Code) (n : Count) (h : ℕ) → v < k.vectors → h ≤ 1024 → IsGoodSign k n l h s → IsSharedSign s → Fine l rest → Fine l (print_load_four s v rest)
  load_four_fine l v Blank rest n h lt le g z f = f
  load_four_fine l v (Held u) rest n h lt le g z f = f
  load_four_fine l v (HeldFour u) rest n h lt le g z f = f
  load_four_fine l v (Read a i) rest n h lt le g z f =
      and_from (is_statement k l (LoadsFour v a i)) _ (and_from (nat_lt v k.vectors) _ (lt-ltb v k.vectors lt) (and_from (is_shared a && is_readable k a) _ (and_from (is_shared a) (is_readable k a) z g.0) (as_expression k l h i le g.1))) f

  store_four_fine : (l : ℕ) (s : Sign) (e : Lanes) (rest : Code) (h : ℕ) → h ≤ 1024 → IsTargetSign k l h s → IsSharedSign s → IsGoodLanes k l 1024 e → Fine l rest → Fine l (print_store_four s e rest)
  store_four_fine l Blank e rest h le g z x f = absurd g
  store_four_fine l (Held u) e rest h le g z x f = absurd g
  store_four_fine l (HeldFour u) e rest h le g z x f = absurd g
  store_four_fine l (Read a i) e rest h le g z x f =
      and_from (is_statement k l (StoresFour a i e)) _ (and_from (is_shared a && is_writable k a) _ (and_from (is_shared a) (is_writable k a) z g.0) (and_from (is_expression k l i) _ (as_expression k l h i le g.1) (lanes_expression k l 1024 e (omega arith) x))) f

  store_four_does : (l : ℕ) (s : Sign) (e : Lanes) (rest : Code) (h : ℕ) → IsTargetSign k l h s → Does (print_store_four s e rest)
  store_four_does l Blank e rest h g = absurd g
  store_four_does l (Held u) e rest h g = absurd g
  store_four_does l (HeldFour u) e rest h g = absurd g
  store_four_does l (Read a i) e rest h g = refl

  load_four_does : (s : Sign) (v : ℕ) (rest : Code) → Does rest → Does (print_load_four s v rest)
  load_four_does Blank v rest d = d
  load_four_does (Held u) v rest d = d
  load_four_does (HeldFour u) v rest d = d
  load_four_does (Read a i) v rest d = refl

  -- what lies in fours at all is in no private array
  fours_shared : (y : Lie) (x : View) → Serves y (InFours 0) → LiesShared y x → IsSharedSign (x [] [])
  fours_shared fours.Held x s h = absurd s
  fours_shared Loose x s h = absurd s
  fours_shared Whole x s h = h [] []
  fours_shared (InFours j) x s h = h [] []

  -- ---- expressions by component
  abbrev pub AllSome : (l h : ℕ) → (List Bool → Option Expr) → Type 0
  AllSome l h f = (cs : List Bool) → IsGoodSome k l h (f cs)

  pub assigned_fine : (l : ℕ) (ty : Ty) (f : List Bool → Option Expr) (n : Count) (rest : Code) → AtMost (more n (held_count ty)) (variables_of k) → AllSome l 1023 f → Fine l rest → Fine l (print_assigned ty f n rest)
  assigned_fine l Scalar f n rest le g r = let w = le.words in assign_fine l n.words (or_number (f [])) rest (omega arith) (good_higher k l 1023 1024 (or_number (f [])) (omega arith) (or_good k l 1023 (f []) (omega arith) (g []))) r
  assigned_fine l (PairOf a b) f n rest le g r =
      assigned_fine l a (λ cs. f (false ∷ cs)) n (print_assigned b (λ cs. f (true ∷ cs)) (more n (held_count a)) rest) (at_most_of le (omega arith) (omega arith)) (λ cs. g (false ∷ cs))
      (assigned_fine l b (λ cs. f (true ∷ cs)) (more n (held_count a)) rest (at_most_of le (omega arith) (omega arith)) (λ cs. g (true ∷ cs)) r)
  assigned_fine l (ArrayOf m t) f n rest le g r = let w = le.fours in assign_four_fine l n.fours (or_lanes (f [])) rest (omega arith) (or_lanes_good k l 1023 (f []) (omega arith) (g [])) r

  assigned_does : (ty : Ty) (f : List Bool → Option Expr) (n : Count) (rest : Code) → IsElement ty → Does (print_assigned ty f n rest)
  assigned_does Scalar f n rest e = refl
  assigned_does (PairOf a b) f n rest e = assigned_does a (λ cs. f (false ∷ cs)) n (print_assigned b (λ cs. f (true ∷ cs)) (more n (held_count a)) rest) e.0
  assigned_does (ArrayOf m t) f n rest e = refl

  pub assigned_kept : (ty : Ty) (f : List Bool → Option Expr) (n : Count) (rest : Code) → Does rest → Does (print_assigned ty f n rest)
  assigned_kept Scalar f n rest d = refl
  assigned_kept (PairOf a b) f n rest d = assigned_kept a (λ cs. f (false ∷ cs)) n (print_assigned b (λ cs. f (true ∷ cs)) (more n (held_count a)) rest) (assigned_kept b (λ cs. f (true ∷ cs)) (more n (held_count a)) rest d)
  assigned_kept (ArrayOf m t) f n rest d = refl

  held_low : (l h : ℕ) (s : Sign) → IsGoodSign k (variables_of k) l h s → IsGoodSome k l 1 (held_sign s)
  held_low l h Blank g = tt
  held_low l h (Held v) g = (lt-ltb v k.variables g, omega arith)
  held_low l h (HeldFour v) g = (lt-ltb v k.vectors g, omega arith)
  held_low l h (Read a i) g = tt

  pub held_all : (l : ℕ) (ty : Ty) (n : Count) → AtMost (more n (held_count ty)) (variables_of k) → AllSome l 1023 (λ cs. held_sign (held_view ty n cs []))
  held_all l ty n le = λ cs. some_higher k l 1 1023 (held_sign (held_view ty n cs [])) (omega arith) (held_low l (S + 0) (held_view ty n cs []) (held_good k S one ty n (variables_of k) 0 0 le l S cs [] (omega arith) (omega arith) tt))

  pub reassigned_fine : (l : ℕ) (ty : Ty) (f : List Bool → Option Expr) (acc n : Count) → AtMost (more acc (held_count ty)) (variables_of k) → AtMost (more n (temporaries ty)) (variables_of k) → AllSome l 1023 f → Fine l (print_reassigned ty f acc n End)
  reassigned_fine l Scalar f acc n le lt g = assigned_fine l Scalar f acc End le g refl
  reassigned_fine l (PairOf a b) f acc n le lt g =
      assigned_fine l (PairOf a b) f n (print_assigned (PairOf a b) (λ cs. held_sign (held_view (PairOf a b) n cs [])) acc End) lt g
      (assigned_fine l (PairOf a b) (λ cs. held_sign (held_view (PairOf a b) n cs [])) acc End le (held_all l (PairOf a b) n lt) refl)
  reassigned_fine l (ArrayOf m t) f acc n le lt g = assigned_fine l (ArrayOf m t) f acc End le g refl

  reassigned_does : (ty : Ty) (f : List Bool → Option Expr) (acc n : Count) → IsElement ty → Does (print_reassigned ty f acc n End)
  reassigned_does Scalar f acc n e = refl
  reassigned_does (PairOf a b) f acc n e = assigned_does (PairOf a b) f n (print_assigned (PairOf a b) (λ cs. held_sign (held_view (PairOf a b) n cs [])) acc End) e
  reassigned_does (ArrayOf m t) f acc n e = refl

  pub stored_fine : (l : ℕ) (ty : Ty) (f : List Bool → Option Expr) (w : View) (H : ℕ) (y : Lie) (rest : Code) → S + H ≤ 1024 → IsTarget k S l H w → LiesShared y w → StoresFours y ty → AllSome l 1023 f → Fine l rest → Fine l (print_stored ty f w rest)
  stored_fine l Scalar f w H y rest le t sh fo g r = store_fine l (w [] []) (or_number (f [])) rest (S + H) le (t l S [] [] (omega arith) (omega arith) tt) (good_higher k l 1023 1024 (or_number (f [])) (omega arith) (or_good k l 1023 (f []) (omega arith) (g []))) r
  stored_fine l (PairOf a b) f w H y rest le t sh fo g r =
      stored_fine l a (λ cs. f (false ∷ cs)) (λ cs. w (false ∷ cs)) H Loose (print_stored b (λ cs. f (true ∷ cs)) (λ cs. w (true ∷ cs)) rest) le (part_target k S one l H w false t) tt fo.0 (λ cs. g (false ∷ cs))
      (stored_fine l b (λ cs. f (true ∷ cs)) (λ cs. w (true ∷ cs)) H Loose rest le (part_target k S one l H w true t) tt fo.1 (λ cs. g (true ∷ cs)) r)
  stored_fine l (ArrayOf m t1) f w H y rest le t sh fo g r = store_four_fine l (w [] []) (or_lanes (f [])) rest (S + H) le (t l S [] [] (omega arith) (omega arith) tt) (fours_shared y w fo sh) (or_lanes_good k l 1023 (f []) (omega arith) (g [])) r

  pub stored_does : (l : ℕ) (ty : Ty) (f : List Bool → Option Expr) (w : View) (H : ℕ) (rest : Code) → IsElement ty → IsTarget k S l H w → Does (print_stored ty f w rest)
  stored_does l Scalar f w H rest e t = store_does l (w [] []) (or_number (f [])) rest (S + H) (t l S [] [] (omega arith) (omega arith) tt)
  stored_does l (PairOf a b) f w H rest e t = stored_does l a (λ cs. f (false ∷ cs)) (λ cs. w (false ∷ cs)) H (print_stored b (λ cs. f (true ∷ cs)) (λ cs. w (true ∷ cs)) rest) e.0 (part_target k S one l H w false t)
  stored_does l (ArrayOf m t1) f w H rest e t = store_four_does l (w [] []) (or_lanes (f [])) rest (S + H) (t l S [] [] (omega arith) (omega arith) tt)

  store_kept : (s : Sign) (e : Formula) (rest : Code) → Does rest → Does (print_store s e rest)
  store_kept Blank e rest d = d
  store_kept (Held u) e rest d = d
  store_kept (HeldFour u) e rest d = d
  store_kept (Read a i) e rest d = refl

  store_four_kept : (s : Sign) (e : Lanes) (rest : Code) → Does rest → Does (print_store_four s e rest)
  store_four_kept Blank e rest d = d
  store_four_kept (Held u) e rest d = d
  store_four_kept (HeldFour u) e rest d = d
  store_four_kept (Read a i) e rest d = refl

  pub stored_kept : (ty : Ty) (f : List Bool → Option Expr) (w : View) (rest : Code) → Does rest → Does (print_stored ty f w rest)
  stored_kept Scalar f w rest d = store_kept (w [] []) (or_number (f [])) rest d
  stored_kept (PairOf a b) f w rest d = stored_kept a (λ cs. f (false ∷ cs)) (λ cs. w (false ∷ cs)) (print_stored b (λ cs. f (true ∷ cs)) (λ cs. w (true ∷ cs)) rest) (stored_kept b (λ cs. f (true ∷ cs)) (λ cs. w (true ∷ cs)) rest d)
  stored_kept (ArrayOf m t) f w rest d = store_four_kept (w [] []) (or_lanes (f [])) rest d

  pub loads_fine : (l : ℕ) (ls : LoadSet) (x : View) (n p : Count) (H : ℕ) (y : Lie) (rest : Code) → S + H ≤ 1024 → AtMost (more n (load_count ls)) (variables_of k) → IsGoodView k S p l H x → LiesShared y x → LoadsFours y ls → Fine l rest → Fine l (print_loaded ls x n rest)
  loads_fine l Skip x n p H y rest le lt g sh fo f = f
  loads_fine l Take x n p H y rest le lt g sh fo f = let w = lt.words in load_fine l n.words (x [] []) rest p (S + H) (omega arith) le (g l S [] [] (omega arith) (omega arith) tt) f
  loads_fine l TakeFour x n p H y rest le lt g sh fo f = let w = lt.fours in load_four_fine l n.fours (x [] []) rest p (S + H) (omega arith) le (g l S [] [] (omega arith) (omega arith) tt) (fours_shared y x fo sh) f
  loads_fine l (Each a b) x n p H y rest le lt g sh fo f =
      loads_fine l a (λ cs. x (false ∷ cs)) n p H Loose (print_loaded b (λ cs. x (true ∷ cs)) (more n (load_count a)) rest) le (at_most_of lt (omega arith) (omega arith)) (part_good k S one p l H x false g) tt fo.0
      (loads_fine l b (λ cs. x (true ∷ cs)) (more n (load_count a)) p H Loose rest le (at_most_of lt (omega arith) (omega arith)) (part_good k S one p l H x true g) tt fo.1 f)

  pub loads_does : (ls : LoadSet) (x : View) (n : Count) (rest : Code) → Does rest → Does (print_loaded ls x n rest)
  loads_does Skip x n rest d = d
  loads_does Take x n rest d = load_does (x [] []) n.words rest d
  loads_does TakeFour x n rest d = load_four_does (x [] []) n.fours rest d
  loads_does (Each a b) x n rest d = loads_does a (λ cs. x (false ∷ cs)) n (print_loaded b (λ cs. x (true ∷ cs)) (more n (load_count a)) rest) (loads_does b (λ cs. x (true ∷ cs)) (more n (load_count a)) rest d)

  -- ---- what stands for binders
  pub views_deeper : (l m : ℕ) (g : ℕ → ℕ) (env : ℕ → View) → l ≤ m → AllReadWithin k S l g env → AllReadWithin k S m g env
  views_deeper l m g env le h = λ v. view_more k S one (variables_of k) (variables_of k) l m (10 + 3 * g v) (10 + 3 * g v) (env v) (as_many (variables_of k)) le (omega arith) (h v)

  pub pushed : (l : ℕ) (g : ℕ → ℕ) (env : ℕ → View) (j : ℕ) (x : View) → IsGoodView k S (variables_of k) l (10 + 3 * j) x → AllReadWithin k S l g env → AllReadWithin k S l (push j g) (push x env)
  pushed l g env j x h all zero = h
  pushed l g env j x h all (suc v) = all v

  pub held_pushed : (l : ℕ) (g : ℕ → ℕ) (env : ℕ → View) (ty : Ty) (n : Count) → AtMost (more n (held_count ty)) (variables_of k) → AllReadWithin k S l g env → AllReadWithin k S l (push 0 g) (push (held_view ty n) env)
  held_pushed l g env ty n le all = pushed l g env 0 (held_view ty n) (held_good k S one ty n (variables_of k) l (10 + 3 * 0) le) all

  -- ---- loops
  pub loop_fine : (l : ℕ) (kind : Kind) (b : Formula) (body rest : Code) → ifs + l < 1024 → IsSpelledIn k S b → Does body → Fine (suc l) body → Fine l rest → Fine l (Loops (start_of kind) b (stride_of kind) body rest)
  loop_fine l kind b body rest lt s d f r =
      let e : ifs + suc l ≡ suc (ifs + l) = omega arith in
      and_from (nat_lt (ifs + l) deepest) _ (lt-ltb (ifs + l) 1024 lt)
      (and_from (is_constant b) _ s.constant
      (and_from (is_expression k l b) _ (as_expression k l S b small (s.declared l, s.low))
      (and_from (has_statement body) _ d (and_from (are_statements k (suc l) (suc (ifs + l)) body) _ (subst (λ z. are_statements k (suc l) z body ≡ true) e f) r))))

  pub guard_fine : (l : ℕ) (kind : Kind) (b : Formula) (body rest : Code) → ifs + l < 1024 → IsSpelledIn k S b → Does body → are_statements k l (suc ifs + l) body ≡ true → Fine l rest → Fine l (Guards (start_of kind) b body rest)
  guard_fine l kind b body rest lt s d f r =
      let e : suc ifs + l ≡ suc (ifs + l) = omega arith in
      and_from (nat_lt (ifs + l) deepest) _ (lt-ltb (ifs + l) 1024 lt)
      (and_from (is_constant b) _ s.constant
      (and_from (is_expression k l b) _ (as_expression k l S b small (s.declared l, s.low))
      (and_from (has_statement body) _ d (and_from (are_statements k l (suc (ifs + l)) body) _ (subst (λ z. are_statements k l z body ≡ true) e f) r))))

  module _ {A : Type 0} (P : A → Type 0) (Q : ℕ → Type 0) where
    high_some : (t : Term A) → 1 ≤ expression_height t
    high_some (Literal c) = omega arith
    high_some (Bound v) = omega arith
    high_some (Source s) = omega arith
    high_some (Apply o a b) = omega arith
    high_some (ApplyNumber o m a) = omega arith
    high_some (ApplyLanes o l r a b) = omega arith
    high_some (DivideLanes o n a) = omega arith
    high_some (Select c a b) = omega arith
    high_some (Both zips a b) = let x = high_some a in omega arith
    high_some (Project s a) = high_some a
    high_some (Reshape l a) = omega arith
    high_some (LetArray v b) = omega arith
    high_some (LetElement ty v b) = let x = high_some v in omega arith
    high_some (Map kind n loads xs b) = omega arith
    high_some (Fold n loads ty xs s b) = omega arith
    high_some (Store ty t) = omega arith
    high_some (Copy space ty a) = omega arith

    exprs_good : (l : ℕ) (n : Count) (g : ℕ → ℕ) (env : ℕ → View) (t : Term A) → AllReadWithin k S l g env → AtMost (more n (let_variables t)) (variables_of k) → IsSound P Q t → (cs : List Bool) → IsGoodSome k l (expression_height t) (sign_exprs env n t cs)
    exprs_good l n g env (Literal c) all le s cs = good_number k l 1 c s (omega arith)
    exprs_good l n g env (Bound v) all le s cs = held_low l (S + (10 + 3 * g v)) (env v cs []) (all v l S cs [] (omega arith) (omega arith) tt)
    exprs_good l n g env (Source v) all le s cs = tt
    exprs_good l n g env (Apply o a b) all le s cs =
        good_both k l (max (expression_height a) (expression_height b)) o (sign_exprs env n a []) (sign_exprs env (more n (let_variables a)) b []) (let x = high_some a in omega arith)
        (some_higher k l (expression_height a) (max (expression_height a) (expression_height b)) (sign_exprs env n a []) (omega arith) (exprs_good l n g env a all (at_most_of le (omega arith) (omega arith)) s.0 []))
        (some_higher k l (expression_height b) (max (expression_height a) (expression_height b)) (sign_exprs env (more n (let_variables a)) b []) (omega arith) (exprs_good l (more n (let_variables a)) g env b all (at_most_of le (omega arith) (omega arith)) s.1 []))
    exprs_good l n g env (ApplyNumber o m a) all le s cs =
        good_one k l (expression_height a) o m (sign_exprs env n a []) s.0 s.1 (high_some a) (exprs_good l n g env a all le s.2 [])
    exprs_good l n g env (ApplyLanes o v w a b) all le s cs =
        let h = max (expression_height a) (expression_height b) in
        let x = sign_exprs env n a [] in
        let y = sign_exprs env (more n (let_variables a)) b [] in
        good_lanes k l h o (in_fours v x) (in_fours w y) s.0
        (good_operand k l h v x (some_higher k l (expression_height a) h x (omega arith) (exprs_good l n g env a all (at_most_of le (omega arith) (omega arith)) s.1 [])))
        (good_operand k l h w y (some_higher k l (expression_height b) h y (omega arith) (exprs_good l (more n (let_variables a)) g env b all (at_most_of le (omega arith) (omega arith)) s.2 [])))
    exprs_good l n g env (DivideLanes o m a) all le s cs =
        let h = expression_height a in
        let x = sign_exprs env n a [] in
        good_lanes k l h o (in_fours true x) (Some (Spread (Number m))) s.0 (good_operand k l h true x (exprs_good l n g env a all le s.2 [])) (good_literal k l h m s.1 (high_some a))
    exprs_good l n g env (Select c a b) all le s cs =
        good_three k l (max (expression_height c) (max (expression_height a) (expression_height b))) (sign_exprs env n c []) (sign_exprs env (more n (let_variables c)) a []) (sign_exprs env (more (more n (let_variables c)) (let_variables a)) b []) (let x = high_some c in omega arith)
        (some_higher k l (expression_height c) (max (expression_height c) (max (expression_height a) (expression_height b))) (sign_exprs env n c []) (omega arith) (exprs_good l n g env c all (at_most_of le (omega arith) (omega arith)) s.0 []))
        (some_higher k l (expression_height a) (max (expression_height c) (max (expression_height a) (expression_height b))) (sign_exprs env (more n (let_variables c)) a []) (omega arith) (exprs_good l (more n (let_variables c)) g env a all (at_most_of le (omega arith) (omega arith)) s.1 []))
        (some_higher k l (expression_height b) (max (expression_height c) (max (expression_height a) (expression_height b))) (sign_exprs env (more (more n (let_variables c)) (let_variables a)) b []) (omega arith) (exprs_good l (more (more n (let_variables c)) (let_variables a)) g env b all (at_most_of le (omega arith) (omega arith)) s.2 []))
    exprs_good l n g env (Both zips a b) all le s [] = tt
    exprs_good l n g env (Both zips a b) all le s (false ∷ cs) = some_higher k l (expression_height a) (max (expression_height a) (expression_height b)) (sign_exprs env n a cs) (omega arith) (exprs_good l n g env a all (at_most_of le (omega arith) (omega arith)) s.0 cs)
    exprs_good l n g env (Both zips a b) all le s (true ∷ cs) = some_higher k l (expression_height b) (max (expression_height a) (expression_height b)) (sign_exprs env (more n (let_variables a)) b cs) (omega arith) (exprs_good l (more n (let_variables a)) g env b all (at_most_of le (omega arith) (omega arith)) s.1 cs)
    exprs_good l n g env (Project s1 a) all le s cs = exprs_good l n g env a all le s (s1 ∷ cs)
    exprs_good l n g env (Reshape y a) all le s cs = tt
    exprs_good l n g env (LetArray v b) all le s cs = tt
    exprs_good l n g env (LetElement ty v b) all le s cs =
        some_higher k l (expression_height b) (max (expression_height v) (expression_height b)) (sign_exprs (push (held_view ty (more n (let_variables v))) env) (more (more n (let_variables v)) (held_count ty)) b cs) (omega arith)
        (exprs_good l (more (more n (let_variables v)) (held_count ty)) (push 0 g) (push (held_view ty (more n (let_variables v))) env) b (held_pushed l g env ty (more n (let_variables v)) (at_most_of le (omega arith) (omega arith)) all) (at_most_of le (omega arith) (omega arith)) s.1 cs)
    exprs_good l n g env (Map kind m loads xs b) all le s cs = tt
    exprs_good l n g env (Fold m loads ty xs s1 b) all le s cs = tt
    exprs_good l n g env (Store ty t) all le s cs = tt
    exprs_good l n g env (Copy space ty a) all le s cs = tt

    pub all_exprs : (l : ℕ) (n : Count) (g : ℕ → ℕ) (env : ℕ → View) (t : Term A) → AllReadWithin k S l g env → AtMost (more n (let_variables t)) (variables_of k) → IsSound P Q t → expression_height t ≤ 1023 → AllSome l 1023 (sign_exprs env n t)
    all_exprs l n g env t all le s low = λ cs. some_higher k l (expression_height t) 1023 (sign_exprs env n t cs) low (exprs_good l n g env t all le s cs)

    pub element_fine : (l : ℕ) (n : Count) (g : ℕ → ℕ) (env : ℕ → View) (t : Term A) (rest : Code) → AllReadWithin k S l g env → AtMost (more n (let_variables t)) (variables_of k) → IsSound P Q t → expression_height t ≤ 1023 → Fine l rest → Fine l (print_element env n t rest)
    element_fine l n g env (Literal c) rest all le s low f = f
    element_fine l n g env (Bound v) rest all le s low f = f
    element_fine l n g env (Source v) rest all le s low f = f
    element_fine l n g env (Apply o a b) rest all le s low f =
        element_fine l n g env a (print_element env (more n (let_variables a)) b rest) all (at_most_of le (omega arith) (omega arith)) s.0 (omega arith) (element_fine l (more n (let_variables a)) g env b rest all (at_most_of le (omega arith) (omega arith)) s.1 (omega arith) f)
    element_fine l n g env (ApplyNumber o m a) rest all le s low f = element_fine l n g env a rest all le s.2 (omega arith) f
    element_fine l n g env (ApplyLanes o v w a b) rest all le s low f =
        element_fine l n g env a (print_element env (more n (let_variables a)) b rest) all (at_most_of le (omega arith) (omega arith)) s.1 (omega arith) (element_fine l (more n (let_variables a)) g env b rest all (at_most_of le (omega arith) (omega arith)) s.2 (omega arith) f)
    element_fine l n g env (DivideLanes o m a) rest all le s low f = element_fine l n g env a rest all le s.2 (omega arith) f
    element_fine l n g env (Select c a b) rest all le s low f =
        element_fine l n g env c (print_element env (more n (let_variables c)) a (print_element env (more (more n (let_variables c)) (let_variables a)) b rest)) all (at_most_of le (omega arith) (omega arith)) s.0 (omega arith)
        (element_fine l (more n (let_variables c)) g env a (print_element env (more (more n (let_variables c)) (let_variables a)) b rest) all (at_most_of le (omega arith) (omega arith)) s.1 (omega arith)
        (element_fine l (more (more n (let_variables c)) (let_variables a)) g env b rest all (at_most_of le (omega arith) (omega arith)) s.2 (omega arith) f))
    element_fine l n g env (Both zips a b) rest all le s low f =
        element_fine l n g env a (print_element env (more n (let_variables a)) b rest) all (at_most_of le (omega arith) (omega arith)) s.0 (omega arith) (element_fine l (more n (let_variables a)) g env b rest all (at_most_of le (omega arith) (omega arith)) s.1 (omega arith) f)
    element_fine l n g env (Project s1 a) rest all le s low f = element_fine l n g env a rest all le s low f
    element_fine l n g env (Reshape y a) rest all le s low f = f
    element_fine l n g env (LetArray v b) rest all le s low f = f
    element_fine l n g env (LetElement ty v b) rest all le s low f =
        element_fine l n g env v (print_assigned ty (sign_exprs env n v) (more n (let_variables v)) (print_element (push (held_view ty (more n (let_variables v))) env) (more (more n (let_variables v)) (held_count ty)) b rest)) all (at_most_of le (omega arith) (omega arith)) s.0 (omega arith)
        (assigned_fine l ty (sign_exprs env n v) (more n (let_variables v)) (print_element (push (held_view ty (more n (let_variables v))) env) (more (more n (let_variables v)) (held_count ty)) b rest) (at_most_of le (omega arith) (omega arith)) (all_exprs l n g env v all (at_most_of le (omega arith) (omega arith)) s.0 (omega arith))
        (element_fine l (more (more n (let_variables v)) (held_count ty)) (push 0 g) (push (held_view ty (more n (let_variables v))) env) b rest (held_pushed l g env ty (more n (let_variables v)) (at_most_of le (omega arith) (omega arith)) all) (at_most_of le (omega arith) (omega arith)) s.1 (omega arith) f))
    element_fine l n g env (Map kind m loads xs b) rest all le s low f = f
    element_fine l n g env (Fold m loads ty xs s1 b) rest all le s low f = f
    element_fine l n g env (Store ty t) rest all le s low f = f
    element_fine l n g env (Copy space ty a) rest all le s low f = f

    pub element_kept : (n : Count) (env : ℕ → View) (t : Term A) (rest : Code) → Does rest → Does (print_element env n t rest)
    element_kept n env (Literal c) rest d = d
    element_kept n env (Bound v) rest d = d
    element_kept n env (Source v) rest d = d
    element_kept n env (Apply o a b) rest d = element_kept n env a (print_element env (more n (let_variables a)) b rest) (element_kept (more n (let_variables a)) env b rest d)
    element_kept n env (ApplyNumber o m a) rest d = element_kept n env a rest d
    element_kept n env (ApplyLanes o v w a b) rest d = element_kept n env a (print_element env (more n (let_variables a)) b rest) (element_kept (more n (let_variables a)) env b rest d)
    element_kept n env (DivideLanes o m a) rest d = element_kept n env a rest d
    element_kept n env (Select c a b) rest d =
        element_kept n env c (print_element env (more n (let_variables c)) a (print_element env (more (more n (let_variables c)) (let_variables a)) b rest))
        (element_kept (more n (let_variables c)) env a (print_element env (more (more n (let_variables c)) (let_variables a)) b rest) (element_kept (more (more n (let_variables c)) (let_variables a)) env b rest d))
    element_kept n env (Both zips a b) rest d = element_kept n env a (print_element env (more n (let_variables a)) b rest) (element_kept (more n (let_variables a)) env b rest d)
    element_kept n env (Project s a) rest d = element_kept n env a rest d
    element_kept n env (Reshape y a) rest d = d
    element_kept n env (LetArray v b) rest d = d
    element_kept n env (LetElement ty v b) rest d =
        element_kept n env v (print_assigned ty (sign_exprs env n v) (more n (let_variables v)) (print_element (push (held_view ty (more n (let_variables v))) env) (more (more n (let_variables v)) (held_count ty)) b rest))
        (assigned_kept ty (sign_exprs env n v) (more n (let_variables v)) (print_element (push (held_view ty (more n (let_variables v))) env) (more (more n (let_variables v)) (held_count ty)) b rest)
        (element_kept (more (more n (let_variables v)) (held_count ty)) (push (held_view ty (more n (let_variables v))) env) b rest d))
    element_kept n env (Map kind m loads xs b) rest d = d
    element_kept n env (Fold m loads ty xs s b) rest d = d
    element_kept n env (Store ty t) rest d = d
    element_kept n env (Copy space ty a) rest d = d

    -- ---- a fold's turns
    pub turn_fine : (l : ℕ) (g : ℕ → ℕ) (env : ℕ → View) (ls : LoadSet) (ty : Ty) (x : View) (H : ℕ) (acc : Count) (y : Lie) (b : Term A) → S + (10 + 3 * H) ≤ 1024 → AllReadWithin k S l g env → IsGoodView k S (variables_of k) l (10 + 3 * H) x
        → AtMost (more acc (more (held_count ty) (more (load_count ls) (more (let_variables b) (temporaries ty))))) (variables_of k) → LiesShared y x → LoadsFours y ls → IsSound P Q b → expression_height b ≤ 1023 → Fine l (print_fold_turn env ls ty x acc b)
    turn_fine l g env ls ty x H acc y b low all good le sh fo s high =
        let accumulated = held_pushed l g env ty acc (at_most_of le (omega arith) (omega arith)) all in
        let n = more (more acc (held_count ty)) (load_count ls) in
        let bound = pushed l (push 0 g) (push (held_view ty acc) env) H (loaded_view ls x (more acc (held_count ty))) (loaded_good k S one ls x (more acc (held_count ty)) (variables_of k) (variables_of k) l (10 + 3 * H) (as_many (variables_of k)) (at_most_of le (omega arith) (omega arith)) good) accumulated in
        let inner = push (loaded_view ls x (more acc (held_count ty))) (push (held_view ty acc) env) in
        loads_fine l ls x (more acc (held_count ty)) (variables_of k) (10 + 3 * H) y (print_element inner n b (print_reassigned ty (sign_exprs inner n b) acc (more n (let_variables b)) End)) low (at_most_of le (omega arith) (omega arith)) good sh fo
        (element_fine l n (push H (push 0 g)) inner b (print_reassigned ty (sign_exprs inner n b) acc (more n (let_variables b)) End) bound (at_most_of le (omega arith) (omega arith)) s high
        (reassigned_fine l ty (sign_exprs inner n b) acc (more n (let_variables b)) (at_most_of le (omega arith) (omega arith)) (at_most_of le (omega arith) (omega arith)) (all_exprs l n (push H (push 0 g)) inner b bound (at_most_of le (omega arith) (omega arith)) s high)))

    pub turn_does : (env : ℕ → View) (ls : LoadSet) (ty : Ty) (x : View) (acc : Count) (b : Term A) → IsElement ty → Does (print_fold_turn env ls ty x acc b)
    turn_does env ls ty x acc b e =
        let n = more (more acc (held_count ty)) (load_count ls) in
        let inner = push (loaded_view ls x (more acc (held_count ty))) (push (held_view ty acc) env) in
        loads_does ls x (more acc (held_count ty)) (print_element inner n b (print_reassigned ty (sign_exprs inner n b) acc (more n (let_variables b)) End))
        (element_kept n inner b (print_reassigned ty (sign_exprs inner n b) acc (more n (let_variables b)) End) (reassigned_does ty (sign_exprs inner n b) acc (more n (let_variables b)) e))
