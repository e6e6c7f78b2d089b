-- Any two codes printed for one term are alike.
use Rattle.std.proofs.Common.{◌≡◌, ℕ, ◌+◌, ◌*◌, ◌<◌, Bool, true, false, List, [], ◌∷◌, ◌++◌, Option, Some, refl, sym, ap, ◌∙◌, subst, arith}
use Rattle.lift_tree.specs.declared.term.Level.TheVariants as level
use Rattle.lift_tree.specs.declared.term.Dimension.TheVariants.{X, Y}
use Rattle.kernel_tree.specs.Formula.{Formula, Lanes}
use Rattle.kernel_tree.specs.Code.{Array, Private, Code, End, Performs, Assigns, Loads, Stores, AssignsFour, LoadsFour, StoresFour, Loops}
use Rattle.kernel_tree.specs.Launch.{Launch}
use Rattle.lift_ir.specs.Types.{Ty, Scalar, PairOf, ArrayOf}
use Rattle.lift_ir.specs.Terms.{PrivateMemory, LoadSet, Skip, Take, TakeFour, Each, Kind, Over, Sequential, Term, Literal, Bound, Source, Apply, ApplyNumber, ApplyLanes, DivideLanes, Select, Both, Project, Reshape, LetArray, LetElement, Map, Fold, Store, Copy, push}
use Rattle.lift_ir.specs.Scalars.{at_index}
use Rattle.printed_form.specs.Marks.{Mark, Nowhere, Register, Lane, Spot, Marks, laid_in, held_marks, loaded_marks}
use Rattle.lift_ir.specs.Layouts.{result_position}
use Rattle.printed_form.specs.Form.{start_of, stride_of, IsAssigned, IsReassigned, IsElementWork, IsTurnOf, IsSpot, IsFourSpot, IsStored, IsLoaded, IsLoop, IsFoldTurn, argument_marks, IsArgumentWork, IsWritten}
use Rattle.printed_form.specs.Counts.{Count, more, held_count, let_variables, load_count, variable_count, private_count}
use Rattle.printed_form.specs.Expressions.{Expr, OneWord, FourWords, held, exprs}
use Rattle.printed_form.specs.Whole.{IsAlongRow, IsOverLaunch}
use Rattle.printed_form.specs.Alike.{SameIndex, Alike}

same_word : (f : Option Expr) (x y : Formula) → f ≡ Some (OneWord x) → f ≡ Some (OneWord y) → x ≡ y
same_word f x y p q = let e : Some (OneWord x) ≡ Some (OneWord y) = sym p ∙ q in cc

same_lanes : (f : Option Expr) (x y : Lanes) → f ≡ Some (FourWords x) → f ≡ Some (FourWords y) → x ≡ y
same_lanes f x y p q = let e : Some (FourWords x) ≡ Some (FourWords y) = sym p ∙ q in cc

-- a cell has one array and one index
same_array : (a b : Array) (i j : ℕ) → Spot a i ≡ Spot b j → a ≡ b
same_array a b i j e = cc

same_place : (a b : Array) (i j : ℕ) → Spot a i ≡ Spot b j → i ≡ j
same_place a b i j e = cc

pub alike_by : (grouped : Bool) (l : Launch) (item : ℕ) (ts : List ℕ) (a b c d : Code) → a ≡ c → b ≡ d → Alike grouped l item ts c d → Alike grouped l item ts a b
alike_by grouped l item ts a b c d p q h = subst (λ x. Alike grouped l item ts x b) (sym p) (subst (λ x. Alike grouped l item ts c x) (sym q) h)

module _ (grouped : Bool) (l : Launch) (item : ℕ) (ins : ℕ → Marks) where
  alike_assigned : (ts : List ℕ) (ty : Ty) (f : List Bool → Option Expr) (n : Count) (a b c d : Code) → IsAssigned ty f n a c → IsAssigned ty f n b d → Alike grouped l item ts c d → Alike grouped l item ts a b
  alike_assigned ts Scalar f n a b c d x y h = alike_by grouped l item ts a b (Performs (Assigns n.words x.0) c) (Performs (Assigns n.words y.0) d) x.2 y.2 ((refl, same_word (f []) x.0 y.0 x.1 y.1), h)
  alike_assigned ts (PairOf t u) f n a b c d x y h =
      alike_assigned ts t (λ cs. f (false ∷ cs)) n a b x.0 y.0 x.1 y.1 (alike_assigned ts u (λ cs. f (true ∷ cs)) (more n (held_count t)) x.0 y.0 c d x.2 y.2 h)
  alike_assigned ts (ArrayOf m t) f n a b c d x y h = alike_by grouped l item ts a b (Performs (AssignsFour n.fours x.1) c) (Performs (AssignsFour n.fours y.1) d) x.3 y.3 ((refl, same_lanes (f []) x.1 y.1 x.2 y.2), h)

  alike_again : (ts : List ℕ) (ty : Ty) (f : List Bool → Option Expr) (acc n : Count) (a b c d : Code) → IsReassigned ty f acc n a c → IsReassigned ty f acc n b d → Alike grouped l item ts c d → Alike grouped l item ts a b
  alike_again ts Scalar f acc n a b c d x y h = alike_assigned ts Scalar f acc a b c d x y h
  alike_again ts (PairOf t u) f acc n a b c d x y h =
      alike_assigned ts (PairOf t u) f n a b x.0 y.0 x.1 y.1 (alike_assigned ts (PairOf t u) (λ cs. held (held_marks (PairOf t u) n cs)) acc x.0 y.0 c d x.2 y.2 h)
  alike_again ts (ArrayOf m t) f acc n a b c d x y h = alike_assigned ts (ArrayOf m t) f acc a b c d x y h

  alike_element : {A : Type 0} (ts : List ℕ) (t : Term A) (env : ℕ → Marks) (n : Count) (a b c d : Code) → IsElementWork env n t a c → IsElementWork env n t b d → Alike grouped l item ts c d → Alike grouped l item ts a b
  alike_element ts (Literal k) env n a b c d x y h = alike_by grouped l item ts a b c d x y h
  alike_element ts (Bound v) env n a b c d x y h = alike_by grouped l item ts a b c d x y h
  alike_element ts (Apply o t u) env n a b c d x y h = alike_element ts t env n a b x.0 y.0 x.1 y.1 (alike_element ts u env (more n (let_variables t)) x.0 y.0 c d x.2 y.2 h)
  alike_element ts (ApplyNumber o m t) env n a b c d x y h = alike_element ts t env n a b c d x y h
  alike_element ts (ApplyLanes o s v t u) env n a b c d x y h = alike_element ts t env n a b x.0 y.0 x.1 y.1 (alike_element ts u env (more n (let_variables t)) x.0 y.0 c d x.2 y.2 h)
  alike_element ts (DivideLanes o m t) env n a b c d x y h = alike_element ts t env n a b c d x y h
  alike_element ts (Select t u v) env n a b c d x y h =
      alike_element ts t env n a b x.0 y.0 x.2 y.2 (alike_element ts u env (more n (let_variables t)) x.0 y.0 x.1 y.1 x.3 y.3 (alike_element ts v env (more (more n (let_variables t)) (let_variables u)) x.1 y.1 c d x.4 y.4 h))
  alike_element ts (Both zips t u) env n a b c d x y h = alike_element ts t env n a b x.0 y.0 x.1 y.1 (alike_element ts u env (more n (let_variables t)) x.0 y.0 c d x.2 y.2 h)
  alike_element ts (Project s t) env n a b c d x y h = alike_element ts t env n a b c d x y h
  alike_element ts (LetElement ty v t) env n a b c d x y h =
      alike_element ts v env n a b x.0 y.0 x.2 y.2 (alike_assigned ts ty (exprs env n v) (more n (let_variables v)) x.0 y.0 x.1 y.1 x.3 y.3
      (alike_element ts t (push (held_marks ty (more n (let_variables v))) env) (more (more n (let_variables v)) (held_count ty)) x.1 y.1 c d x.4 y.4 h))
  alike_element ts _ env n a b c d x y h = absurd x

  spots_alike : (ts : List ℕ) (m : Mark) (a b : Array) (i j : Formula) → IsSpot l item ins ts m a i → IsSpot l item ins ts m b j → (a ≡ b) × SameIndex l item ts i j
  spots_alike ts (Spot e n) a b i j x y = (x.0 ∙ sym y.0, λ vs. x.1 vs ∙ sym (y.1 vs))
  spots_alike ts (Register r) a b i j x y = absurd x
  spots_alike ts (Lane r k) a b i j x y = absurd x
  spots_alike ts Nowhere a b i j x y = absurd x

  fours_alike : (ts : List ℕ) (e : List ℕ → Mark) (a b : Array) (i j : Formula) → IsFourSpot l item ins ts e a i → IsFourSpot l item ins ts e b j → (a ≡ b) × SameIndex l item ts i j
  fours_alike ts e a b i j x y =
      let same : Spot a (4 * x.0 + 0) ≡ Spot b (4 * y.0 + 0) = sym (x.1.at 0 (omega arith)) ∙ y.1.at 0 (omega arith) in
      let place = same_place a b (4 * x.0 + 0) (4 * y.0 + 0) same in
      let offset : x.0 ≡ y.0 = omega arith in
      (same_array a b (4 * x.0 + 0) (4 * y.0 + 0) same, λ vs. x.2 vs ∙ ap Some offset ∙ sym (y.2 vs))

  alike_stored : (ts : List ℕ) (ty : Ty) (f : List Bool → Option Expr) (w : Marks) (a b c d : Code) → IsStored l item ins ts ty f w a c → IsStored l item ins ts ty f w b d → Alike grouped l item ts c d → Alike grouped l item ts a b
  alike_stored ts Scalar f w a b c d x y h =
      let s = spots_alike ts (w [] []) x.0 y.0 x.1 y.1 x.4 y.4 in
      alike_by grouped l item ts a b (Performs (Stores x.0 x.1 x.2) c) (Performs (Stores y.0 y.1 y.2) d) x.5 y.5 ((s.0, s.1, same_word (f []) x.2 y.2 x.3 y.3), h)
  alike_stored ts (PairOf t u) f w a b c d x y h =
      alike_stored ts t (λ cs. f (false ∷ cs)) (λ cs. w (false ∷ cs)) a b x.0 y.0 x.1 y.1 (alike_stored ts u (λ cs. f (true ∷ cs)) (λ cs. w (true ∷ cs)) x.0 y.0 c d x.2 y.2 h)
  alike_stored ts (ArrayOf m t) f w a b c d x y h =
      let s = fours_alike ts (w []) x.1 y.1 x.2 y.2 x.5 y.5 in
      alike_by grouped l item ts a b (Performs (StoresFour x.1 x.2 x.3) c) (Performs (StoresFour y.1 y.2 y.3) d) x.6 y.6 ((s.0, s.1, same_lanes (f []) x.3 y.3 x.4 y.4), h)

  pub alike_loaded : (ts : List ℕ) (loads : LoadSet) (e : Marks) (n : Count) (a b c d : Code) → IsLoaded l item ins ts loads e n a c → IsLoaded l item ins ts loads e n b d → Alike grouped l item ts c d → Alike grouped l item ts a b
  alike_loaded ts Skip e n a b c d x y h = alike_by grouped l item ts a b c d x y h
  alike_loaded ts Take e n a b c d x y h =
      let s = spots_alike ts (e [] []) x.0 y.0 x.1 y.1 x.2 y.2 in
      alike_by grouped l item ts a b (Performs (Loads n.words x.0 x.1) c) (Performs (Loads n.words y.0 y.1) d) x.3 y.3 ((refl, s.0, s.1), h)
  alike_loaded ts TakeFour e n a b c d x y h =
      let s = fours_alike ts (e []) x.0 y.0 x.1 y.1 x.2 y.2 in
      alike_by grouped l item ts a b (Performs (LoadsFour n.fours x.0 x.1) c) (Performs (LoadsFour n.fours y.0 y.1) d) x.3 y.3 ((refl, s.0, s.1), h)
  alike_loaded ts (Each p q) e n a b c d x y h =
      alike_loaded ts p (λ cs. e (false ∷ cs)) n a b x.0 y.0 x.1 y.1 (alike_loaded ts q (λ cs. e (true ∷ cs)) (more n (load_count p)) x.0 y.0 c d x.2 y.2 h)

  alike_loop : (ts : List ℕ) (k : Kind) (len : ℕ) (B : ℕ → Code → Type 0) (a b c d : Code) → IsLoop l item ins k len B a c → IsLoop l item ins k len B b d → ((i : ℕ) → i < len → IsTurnOf l item k i → (x y : Code) → B i x → B i y → Alike grouped l item (ts ++ i ∷ []) x y) → Alike grouped l item ts c d → Alike grouped l item ts a b
  alike_loop ts k len B a b c d x y rec h =
      alike_by grouped l item ts a b (Loops (start_of k) x.0 (stride_of k) x.1 c) (Loops (start_of k) y.0 (stride_of k) y.1 d) x.2 y.2
      (refl, refl, len, x.3, y.3, (λ i lt own. rec i lt own x.1 y.1 (x.4 i lt own) (y.4 i lt own)), h)

  alike_fold_turn : {A : Type 0} (ts : List ℕ) (env : ℕ → Marks) (loads : LoadSet) (ty : Ty) (e : Marks) (acc : Count) (t : Term A) (a b : Code) → IsFoldTurn l item ins ts env loads ty e acc t a → IsFoldTurn l item ins ts env loads ty e acc t b → Alike grouped l item ts a b
  alike_fold_turn ts env loads ty e acc t a b x y =
      let n = more acc (held_count ty) in
      let env2 = push (loaded_marks loads e n) (push (held_marks ty acc) env) in
      alike_loaded ts loads e n a b x.0 y.0 x.2 y.2
      (alike_element ts t env2 (more n (load_count loads)) x.0 y.0 x.1 y.1 x.3 y.3
      (alike_again ts ty (exprs env2 (more n (load_count loads)) t) acc (more (more n (load_count loads)) (let_variables t)) x.1 y.1 End End x.4 y.4 tt))

  mutual
    pub alike_gathered : {A : Type 0} (num : A → ℕ) (t : Term A) (ts : List ℕ) (env : ℕ → Marks) (p : ℕ) (n : Count) (a b c d : Code) → IsArgumentWork l item ins num ts env p n t a c → IsArgumentWork l item ins num ts env p n t b d → Alike grouped l item ts c d → Alike grouped l item ts a b
    alike_gathered num (Bound v) ts env p n a b c d x y h = alike_by grouped l item ts a b c d x y h
    alike_gathered num (Source v) ts env p n a b c d x y h = alike_by grouped l item ts a b c d x y h
    alike_gathered num (Both zips t u) ts env p n a b c d x y h = alike_gathered num t ts env p n a b x.0 y.0 x.1 y.1 (alike_gathered num u ts env (p + private_count t) (more n (variable_count t)) x.0 y.0 c d x.2 y.2 h)
    alike_gathered num (Project s t) ts env p n a b c d x y h = alike_gathered num t ts env p n a b c d x y h
    alike_gathered num (Reshape m t) ts env p n a b c d x y h = alike_gathered num t ts env p n a b c d x y h
    alike_gathered num (LetArray v t) ts env p n a b c d x y h = alike_gathered num v ts env p n a b x.0 y.0 x.1 y.1 (alike_gathered num t ts (push (argument_marks l ins num env p v) env) (p + private_count v) (more n (variable_count v)) x.0 y.0 c d x.2 y.2 h)
    alike_gathered num (Copy PrivateMemory ty t) ts env p n a b c d x y h = alike_written num t ts env p n (laid_in Private (p + private_count t) ty) a b c d x y h
    alike_gathered num _ ts env p n a b c d x y h = absurd x

    pub alike_written : {A : Type 0} (num : A → ℕ) (t : Term A) (ts : List ℕ) (env : ℕ → Marks) (p : ℕ) (n : Count) (w : Marks) (a b c d : Code) → IsWritten l item ins num ts env p n t w a c → IsWritten l item ins num ts env p n t w b d → Alike grouped l item ts c d → Alike grouped l item ts a b
    alike_written num (Store ty t) ts env p n w a b c d x y h = alike_element ts t env n a b x.0 y.0 x.1 y.1 (alike_stored ts ty (exprs env n t) w x.0 y.0 c d x.2 y.2 h)
    alike_written num (Reshape m t) ts env p n w a b c d x y h = alike_written num t ts env p n (λ cs q. w cs (result_position num m q)) a b c d x.1 y.1 h
    alike_written num (LetArray v t) ts env p n w a b c d x y h = alike_gathered num v ts env p n a b x.0 y.0 x.1 y.1 (alike_written num t ts (push (argument_marks l ins num env p v) env) (p + private_count v) (more n (variable_count v)) w x.0 y.0 c d x.2 y.2 h)
    alike_written num (LetElement ty v t) ts env p n w a b c d x y h =
        alike_element ts v env n a b x.0 y.0 x.2 y.2 (alike_assigned ts ty (exprs env n v) (more n (let_variables v)) x.0 y.0 x.1 y.1 x.3 y.3
        (alike_written num t ts (push (held_marks ty (more n (let_variables v))) env) p (more (more n (let_variables v)) (held_count ty)) w x.1 y.1 c d x.4 y.4 h))
    alike_written num (Map Sequential len loads xs t) ts env p n w a b c d x y h =
        let e = argument_marks l ins num env p xs in
        alike_gathered num xs ts env p n a b x.0 y.0 x.1 y.1
        (alike_loop ts Sequential (num len) _ x.0 y.0 c d x.2 y.2
        (λ i lt own u v r s. alike_loaded (ts ++ i ∷ []) loads (at_index i e) (more n (variable_count xs)) u v r.0 s.0 r.1 s.1
        (alike_written num t (ts ++ i ∷ []) (push (loaded_marks loads (at_index i e) (more n (variable_count xs))) env) (p + private_count xs) (more (more n (variable_count xs)) (load_count loads)) (at_index i w) r.0 s.0 End End r.2 s.2 tt)) h)
    alike_written num (Fold len loads ty xs s t) ts env p n w a b c d x y h =
        let e = argument_marks l ins num env p xs in
        let n1 = more n (variable_count xs) in
        alike_gathered num xs ts env p n a b x.0 y.0 x.4 y.4
        (alike_element ts s env n1 x.0 y.0 x.1 y.1 x.5 y.5
        (alike_assigned ts ty (exprs env n1 s) (more n1 (let_variables s)) x.1 y.1 x.2 y.2 x.6 y.6
        (alike_loop ts Sequential (num len) _ x.2 y.2 x.3 y.3 x.7 y.7 (λ i lt own u v r q. alike_fold_turn (ts ++ i ∷ []) env loads ty (at_index i e) (more n1 (let_variables s)) t u v r q)
        (alike_stored ts ty (λ cs. held (held_marks ty (more n1 (let_variables s)) cs)) (at_index 0 w) x.3 y.3 c d x.8 y.8 h))))
    alike_written num _ ts env p n w a b c d x y h = absurd x

  alike_along : {A : Type 0} (num : A → ℕ) (t : Term A) (ts : List ℕ) (env : ℕ → Marks) (p : ℕ) (n : Count) (w : Marks) (a b c d : Code) → IsAlongRow l item ins num ts env p n t w a c → IsAlongRow l item ins num ts env p n t w b d → Alike grouped l item ts c d → Alike grouped l item ts a b
  alike_along num (Reshape m t) ts env p n w a b c d x y h = alike_along num t ts env p n (λ cs q. w cs (result_position num m q)) a b c d x.1 y.1 h
  alike_along num (Map (Over level.Launch X) len loads xs t) ts env p n w a b c d x y h =
      let e = argument_marks l ins num env p xs in
      alike_gathered num xs ts env p n a b x.0 y.0 x.1 y.1
      (alike_loop ts (Over level.Launch X) (num len) _ x.0 y.0 c d x.2 y.2
      (λ i lt own u v r s. alike_loaded (ts ++ i ∷ []) loads (at_index i e) (more n (variable_count xs)) u v r.0 s.0 r.1 s.1
      (alike_written num t (ts ++ i ∷ []) (push (loaded_marks loads (at_index i e) (more n (variable_count xs))) env) (p + private_count xs) (more (more n (variable_count xs)) (load_count loads)) (at_index i w) r.0 s.0 End End r.2 s.2 tt)) h)
  alike_along num _ ts env p n w a b c d x y h = absurd x

  pub alike_over_launch : {A : Type 0} (num : A → ℕ) (t : Term A) (env : ℕ → Marks) (p : ℕ) (n : Count) (w : Marks) (a b c d : Code) → IsOverLaunch l item ins num env p n t w a c → IsOverLaunch l item ins num env p n t w b d → Alike grouped l item [] c d → Alike grouped l item [] a b
  alike_over_launch num (Reshape m t) env p n w a b c d x y h = alike_over_launch num t env p n (λ cs q. w cs (result_position num m q)) a b c d x.1 y.1 h
  alike_over_launch num (LetArray v t) env p n w a b c d x y h = alike_gathered num v [] env p n a b x.0 y.0 x.1 y.1 (alike_over_launch num t (push (argument_marks l ins num env p v) env) (p + private_count v) (more n (variable_count v)) w x.0 y.0 c d x.2 y.2 h)
  alike_over_launch num (Map (Over level.Launch X) len loads xs t) env p n w a b c d x y h = alike_along num (Map (Over level.Launch X) len loads xs t) [] env p n w a b c d x y h
  alike_over_launch num (Map (Over level.Launch Y) len loads xs t) env p n w a b c d x y h =
      let e = argument_marks l ins num env p xs in
      alike_gathered num xs [] env p n a b x.0 y.0 x.1 y.1
      (alike_loop [] (Over level.Launch Y) (num len) _ x.0 y.0 c d x.2 y.2
      (λ i lt own u v r s. alike_loaded ([] ++ i ∷ []) loads (at_index i e) (more n (variable_count xs)) u v r.0 s.0 r.1 s.1
      (alike_along num t ([] ++ i ∷ []) (push (loaded_marks loads (at_index i e) (more n (variable_count xs))) env) (p + private_count xs) (more (more n (variable_count xs)) (load_count loads)) (at_index i w) r.0 s.0 End End r.2 s.2 tt)) h)
  alike_over_launch num _ env p n w a b c d x y h = absurd x
