-- The printer's code of a whole term is of the kernel grammar.
use Rattle.std.proofs.Common.{◌≡◌, ℕ, suc, ◌+◌, ◌*◌, ◌<◌, ◌≤◌, ◌^◌, Bool, true, false, [], length, refl, arith}
use Rattle.std.specs.Prelude.{max, if◌then◌else◌}
use Rattle.std.proofs.lemmas.Bool.{lt-ltb}
use Rattle.kernel_tree.specs.Formula.{Formula, Number, LoopVariable}
use Rattle.kernel_tree.specs.Code.{Private, Code, End, Loops, Kernel}
use Rattle.kernel_tree.specs.Grammar.{is_readable}
use Rattle.lift_ir.specs.Types.{Ty, width}
use Rattle.lift_ir.specs.Fours.{Lie, Loose, held_lie, element_lie, written_lie, bound_lie, ReadsFours, WritesFours}
use Rattle.lift_ir.specs.Terms.{Sequential, Space, LocalMemory, PrivateMemory, Term, Literal, Bound, Source, Apply, ApplyNumber, ApplyLanes, DivideLanes, Select, Both, Project, Reshape, LetArray, LetElement, Map, Fold, Store, Copy, push}
use Rattle.printed_form.specs.Arguments.{CopyArrays, private_arrays, arrays_of, argument_view}
use Rattle.printed_form.specs.Counts.{Count, AtMost, more, held_count, let_variables, load_count, variable_count, private_count}
use Rattle.printed_form.specs.Form.{start_of, stride_of}
use Rattle.printed_form.specs.Views.{View, Blank, held_sign, held_view, loaded_view, view_at, reshaped_view, rewritten_view, laid_view}
use Rattle.printed_form.specs.Printer.{sign_exprs, print_assigned, print_element, print_stored, print_loaded, print_fold_turn, print_argument, print_written}
use Rattle.printed_form.specs.Sound.{variables_of, IsSpelledIn, AllLengths, IsSound, dimensions, stacked, IsReadWithin, IsWrittenWithin, loop_depth, AreLow, CanBeWritten, CanBeRead}
use Rattle.printed_form.specs.GrammarViews.{IsGoodView, IsTarget, AllReadWithin, LiesShared, AllLieShared}
use Rattle.printed_form.specs.GrammarPieces.{arrays_in}
use Rattle.printed_form.proofs.Runs.{at_most_of, as_many}
use Rattle.printed_form.proofs.GrammarLies.{AllShared, lies_served, lies_at_turn, lies_bound, lies_held, lies_pushed, lies_written, argument_lies}
use Rattle.printed_form.proofs.Arguments.{CountsParts, counts_parts}
use Rattle.printed_form.proofs.GrammarViews.{view_more, target_within, blank_good, sides_good, part_good, turned_good, turned_target, first_target, loaded_good, reshaped_good, reshaped_target, laid_reads, laid_fills}
use Rattle.printed_form.proofs.GrammarCodes.{Fine, Does, views_deeper, pushed, held_pushed, assigned_fine, assigned_kept, held_all, stored_fine, stored_does, stored_kept, loads_fine, loads_does, all_exprs, element_fine, element_kept, loop_fine, turn_fine, turn_does}

module _ (k : Kernel) (S : ℕ) (one : 1 ≤ S) (small : S ≤ 1024) (ifs : ℕ) {A : Type 0} (spell : A → Formula) (ins : ℕ → View) (Q : ℕ → Type 0) (inputs : (s : ℕ) → Q s → IsGoodView k S (variables_of k) 0 10 (ins s)) (M : ℕ) (low : S + (10 + 3 * M) ≤ 1024) (shared : (s : ℕ) → AllShared (ins s)) where
  abbrev Sp : A → Type 0
  Sp n = IsSpelledIn k S (spell n)

  abbrev Views : ℕ → (ℕ → ℕ) → (ℕ → View) → Type 0
  Views l g env = AllReadWithin k S l g env

  abbrev viewed : (ℕ → View) → ℕ → Term A → View
  viewed env a t = argument_view private_arrays spell ins env a t

  laid_target : (p : ℕ) (ty : Ty) (l : ℕ) → p + width ty ≤ length k.privates → AllLengths (λ n. n < 2 ^ 32) ty → dimensions ty ≤ 5 → IsTarget k S l (10 + 3 * 0) (laid_view Private p ty)
  laid_target p ty l le h d = laid_fills k S one Private p ty l (λ c lt. lt-ltb (p + c) (length k.privates) (omega arith)) h d

  higher : (l H I : ℕ) (v : View) → H ≤ I → IsGoodView k S (variables_of k) l H v → IsGoodView k S (variables_of k) l I v
  higher l H I v le g = view_more k S one (variables_of k) (variables_of k) l l H I v (as_many (variables_of k)) (omega arith) le g

  -- where copies lie in these arrays, of which the kernel has so many
  module _ (arrays : CopyArrays A) (counts : CountsParts arrays) (long : ℕ) (readable : (p : ℕ) → p < long → is_readable k (arrays.array p) ≡ true) where
    laid_good : (held : Bool) (p : ℕ) (ty : Ty) (l : ℕ) → (held ≡ true → p + width ty ≤ long) → AllLengths (λ n. n < 2 ^ 32) ty → dimensions ty ≤ 5 → IsGoodView k S (variables_of k) l (10 + 3 * 0) (if held then laid_view arrays.array p ty else λ cs is. Blank)
    laid_good true p ty l le h d = let fits = le refl in laid_reads k S one arrays.array p ty l (λ c lt. readable (p + c) (omega arith)) h d
    laid_good false p ty l le h d = blank_good k S one (variables_of k) l (10 + 3 * 0)

    -- what stands for an argument
    shown_good : (l : ℕ) (g : ℕ → ℕ) (env : ℕ → View) (a : ℕ) (t : Term A) → Views l g env → a + arrays.count t ≤ long → IsSound Sp Q t → IsGoodView k S (variables_of k) l (10 + 3 * stacked g t) (argument_view arrays spell ins env a t)
    shown_good l g env a (Bound v) all le s = all v
    shown_good l g env a (Source v) all le s = view_more k S one (variables_of k) (variables_of k) 0 l 10 (10 + 3 * 0) (ins v) (as_many (variables_of k)) (omega arith) (omega arith) (inputs v s)
    shown_good l g env a (Both zips x y) all le s =
        let sum = counts.both zips x y in
        let e = argument_view arrays spell ins env a x in
        let f = argument_view arrays spell ins env (a + arrays.count x) y in
        sides_good k S one (variables_of k) l (10 + 3 * max (stacked g x) (stacked g y)) e f
        (higher l (10 + 3 * stacked g x) (10 + 3 * max (stacked g x) (stacked g y)) e (omega arith) (shown_good l g env a x all (omega arith) s.0))
        (higher l (10 + 3 * stacked g y) (10 + 3 * max (stacked g x) (stacked g y)) f (omega arith) (shown_good l g env (a + arrays.count x) y all (omega arith) s.1))
    shown_good l g env a (Project d x) all le s = let same = counts.part d x in part_good k S one (variables_of k) l (10 + 3 * stacked g x) (argument_view arrays spell ins env a x) d (shown_good l g env a x all (omega arith) s)
    shown_good l g env a (Reshape y x) all le s =
        let same = counts.layout y x in
        higher l (10 + 3 * stacked g x + 3) (10 + 3 * suc (stacked g x)) (reshaped_view spell y (argument_view arrays spell ins env a x)) (omega arith)
        (reshaped_good k S one spell y (variables_of k) l (10 + 3 * stacked g x) (argument_view arrays spell ins env a x) s.0 (shown_good l g env a x all (omega arith) s.1))
    shown_good l g env a (LetArray v b) all le s =
        let sum = counts.bound v b in
        let e = argument_view arrays spell ins env a v in
        shown_good l (push (stacked g v) g) (push e env) (a + arrays.count v) b (pushed k S one small ifs l g env (stacked g v) e (shown_good l g env a v all (omega arith) s.0) all) (omega arith) s.1
    shown_good l g env a (Copy space ty x) all le s = laid_good (arrays.holds space) (a + arrays.count x) ty l (λ held. let sum = counts.copy space ty x held in omega arith) s.0 s.1
    shown_good l g env a _ all le s = blank_good k S one (variables_of k) l (10 + 3 * 0)

  readable_in : (s : Space) (p : ℕ) → p < length (arrays_in k s) → is_readable k ((arrays_of {A = A} s).array p) ≡ true
  readable_in LocalMemory p lt = lt-ltb p (length k.locals) lt
  readable_in PrivateMemory p lt = lt-ltb p (length k.privates) lt

  -- where they lie in the kernel's arrays of a space
  pub argument_good : (s : Space) (l : ℕ) (g : ℕ → ℕ) (env : ℕ → View) (a : ℕ) (t : Term A) → Views l g env → a + (arrays_of s).count t ≤ length (arrays_in k s) → IsSound Sp Q t → IsGoodView k S (variables_of k) l (10 + 3 * stacked g t) (argument_view (arrays_of s) spell ins env a t)
  argument_good s l g env a t all le sound = shown_good (arrays_of s) (counts_parts s) (length (arrays_in k s)) (readable_in s) l g env a t all le sound

  -- and for one work-item
  viewed_good : (l : ℕ) (g : ℕ → ℕ) (env : ℕ → View) (a : ℕ) (t : Term A) → Views l g env → a + private_count t ≤ length k.privates → IsSound Sp Q t → IsGoodView k S (variables_of k) l (10 + 3 * stacked g t) (viewed env a t)
  viewed_good l g env a t all le s = argument_good PrivateMemory l g env a t all le s

  -- ---- statements come
  mutual
    argument_kept : (d : ℕ) (env : ℕ → View) (a : ℕ) (n : Count) (t : Term A) (rest : Code) → Does k S one small ifs rest → Does k S one small ifs (print_argument spell ins d env a n t rest)
    argument_kept d env a n (Literal c) rest r = r
    argument_kept d env a n (Bound v) rest r = r
    argument_kept d env a n (Source v) rest r = r
    argument_kept d env a n (Apply o x y) rest r = r
    argument_kept d env a n (ApplyNumber o m x) rest r = r
    argument_kept d env a n (ApplyLanes o i j x y) rest r = r
    argument_kept d env a n (DivideLanes o m x) rest r = r
    argument_kept d env a n (Select c x y) rest r = r
    argument_kept d env a n (Both zips x y) rest r = argument_kept d env a n x (print_argument spell ins d env (a + private_count x) (more n (variable_count x)) y rest) (argument_kept d env (a + private_count x) (more n (variable_count x)) y rest r)
    argument_kept d env a n (Project s x) rest r = argument_kept d env a n x rest r
    argument_kept d env a n (Reshape y x) rest r = argument_kept d env a n x rest r
    argument_kept d env a n (LetArray v b) rest r =
        argument_kept d env a n v (print_argument spell ins d (push (viewed env a v) env) (a + private_count v) (more n (variable_count v)) b rest) (argument_kept d (push (viewed env a v) env) (a + private_count v) (more n (variable_count v)) b rest r)
    argument_kept d env a n (LetElement ty v b) rest r = r
    argument_kept d env a n (Map kind m ls x b) rest r = r
    argument_kept d env a n (Fold m ls ty x s b) rest r = r
    argument_kept d env a n (Store ty x) rest r = r
    argument_kept d env a n (Copy LocalMemory ty x) rest r = r
    argument_kept d env a n (Copy PrivateMemory ty x) rest r = written_kept d env a n x (laid_view Private (a + private_count x) ty) rest r

    pub written_kept : (d : ℕ) (env : ℕ → View) (a : ℕ) (n : Count) (t : Term A) (w : View) (rest : Code) → Does k S one small ifs rest → Does k S one small ifs (print_written spell ins d env a n t w rest)
    written_kept d env a n (Literal c) w rest r = r
    written_kept d env a n (Bound v) w rest r = r
    written_kept d env a n (Source v) w rest r = r
    written_kept d env a n (Apply o x y) w rest r = r
    written_kept d env a n (ApplyNumber o m x) w rest r = r
    written_kept d env a n (ApplyLanes o i j x y) w rest r = r
    written_kept d env a n (DivideLanes o m x) w rest r = r
    written_kept d env a n (Select c x y) w rest r = r
    written_kept d env a n (Both zips x y) w rest r = r
    written_kept d env a n (Project s x) w rest r = r
    written_kept d env a n (Reshape y x) w rest r = written_kept d env a n x (rewritten_view spell y w) rest r
    written_kept d env a n (LetArray v b) w rest r =
        argument_kept d env a n v (print_written spell ins d (push (viewed env a v) env) (a + private_count v) (more n (variable_count v)) b w rest) (written_kept d (push (viewed env a v) env) (a + private_count v) (more n (variable_count v)) b w rest r)
    written_kept d env a n (LetElement ty v b) w rest r =
        element_kept k S one small ifs Sp Q n env v (print_assigned ty (sign_exprs env n v) (more n (let_variables v)) (print_written spell ins d (push (held_view ty (more n (let_variables v))) env) a (more (more n (let_variables v)) (held_count ty)) b w rest))
        (assigned_kept k S one small ifs ty (sign_exprs env n v) (more n (let_variables v)) (print_written spell ins d (push (held_view ty (more n (let_variables v))) env) a (more (more n (let_variables v)) (held_count ty)) b w rest)
        (written_kept d (push (held_view ty (more n (let_variables v))) env) a (more (more n (let_variables v)) (held_count ty)) b w rest r))
    written_kept d env a n (Map kind m ls x b) w rest r =
        argument_kept d env a n x
        (Loops (start_of kind) (spell m) (stride_of kind) (print_loaded ls (view_at (LoopVariable d) (viewed env a x)) (more n (variable_count x)) (print_written spell ins (suc d) (push (loaded_view ls (view_at (LoopVariable d) (viewed env a x)) (more n (variable_count x))) env) (a + private_count x) (more (more n (variable_count x)) (load_count ls)) b (view_at (LoopVariable d) w) End)) rest) refl
    written_kept d env a n (Fold m ls ty x s b) w rest r =
        argument_kept d env a n x
        (print_element env (more n (variable_count x)) s
        (print_assigned ty (sign_exprs env (more n (variable_count x)) s) (more (more n (variable_count x)) (let_variables s))
        (Loops (start_of Sequential) (spell m) (stride_of Sequential)
        (print_fold_turn env ls ty (view_at (LoopVariable d) (viewed env a x)) (more (more n (variable_count x)) (let_variables s)) b)
        (print_stored ty (λ cs. held_sign (held_view ty (more (more n (variable_count x)) (let_variables s)) cs [])) (view_at (Number 0) w) rest))))
        (element_kept k S one small ifs Sp Q (more n (variable_count x)) env s
        (print_assigned ty (sign_exprs env (more n (variable_count x)) s) (more (more n (variable_count x)) (let_variables s))
        (Loops (start_of Sequential) (spell m) (stride_of Sequential)
        (print_fold_turn env ls ty (view_at (LoopVariable d) (viewed env a x)) (more (more n (variable_count x)) (let_variables s)) b)
        (print_stored ty (λ cs. held_sign (held_view ty (more (more n (variable_count x)) (let_variables s)) cs [])) (view_at (Number 0) w) rest)))
        (assigned_kept k S one small ifs ty (sign_exprs env (more n (variable_count x)) s) (more (more n (variable_count x)) (let_variables s))
        (Loops (start_of Sequential) (spell m) (stride_of Sequential)
        (print_fold_turn env ls ty (view_at (LoopVariable d) (viewed env a x)) (more (more n (variable_count x)) (let_variables s)) b)
        (print_stored ty (λ cs. held_sign (held_view ty (more (more n (variable_count x)) (let_variables s)) cs [])) (view_at (Number 0) w) rest)) refl))
    written_kept d env a n (Store ty x) w rest r = element_kept k S one small ifs Sp Q n env x (print_stored ty (sign_exprs env n x) w rest) (stored_kept k S one small ifs ty (sign_exprs env n x) w rest r)
    written_kept d env a n (Copy space ty x) w rest r = r

  -- a term that can be written has a statement
  pub written_does : (d : ℕ) (env : ℕ → View) (a : ℕ) (n : Count) (t : Term A) (w : View) (W : ℕ) (rest : Code) → CanBeWritten t → IsSound Sp Q t → IsTarget k S d W w → Does k S one small ifs (print_written spell ins d env a n t w rest)
  written_does d env a n (Literal c) w W rest can s g = absurd can
  written_does d env a n (Bound v) w W rest can s g = absurd can
  written_does d env a n (Source v) w W rest can s g = absurd can
  written_does d env a n (Apply o x y) w W rest can s g = absurd can
  written_does d env a n (ApplyNumber o m x) w W rest can s g = absurd can
  written_does d env a n (ApplyLanes o i j x y) w W rest can s g = absurd can
  written_does d env a n (DivideLanes o m x) w W rest can s g = absurd can
  written_does d env a n (Select c x y) w W rest can s g = absurd can
  written_does d env a n (Both zips x y) w W rest can s g = absurd can
  written_does d env a n (Project s1 x) w W rest can s g = absurd can
  written_does d env a n (Copy space ty x) w W rest can s g = absurd can
  written_does d env a n (Store ty x) w W rest can s g =
      element_kept k S one small ifs Sp Q n env x (print_stored ty (sign_exprs env n x) w rest) (stored_does k S one small ifs d ty (sign_exprs env n x) w W rest s.0 g)
  written_does d env a n (Reshape y x) w W rest can s g =
      written_does d env a n x (rewritten_view spell y w) (W + 3) rest can.1 s.1 (reshaped_target k S one spell y d W w s.0 g)
  written_does d env a n (LetArray v b) w W rest can s g =
      argument_kept d env a n v (print_written spell ins d (push (viewed env a v) env) (a + private_count v) (more n (variable_count v)) b w rest)
      (written_does d (push (viewed env a v) env) (a + private_count v) (more n (variable_count v)) b w W rest can.1 s.1 g)
  written_does d env a n (LetElement ty v b) w W rest can s g =
      element_kept k S one small ifs Sp Q n env v (print_assigned ty (sign_exprs env n v) (more n (let_variables v)) (print_written spell ins d (push (held_view ty (more n (let_variables v))) env) a (more (more n (let_variables v)) (held_count ty)) b w rest))
      (assigned_kept k S one small ifs ty (sign_exprs env n v) (more n (let_variables v)) (print_written spell ins d (push (held_view ty (more n (let_variables v))) env) a (more (more n (let_variables v)) (held_count ty)) b w rest)
      (written_does d (push (held_view ty (more n (let_variables v))) env) a (more (more n (let_variables v)) (held_count ty)) b w W rest can s.1 g))
  written_does d env a n (Map kind m ls x b) w W rest can s g =
      argument_kept d env a n x
      (Loops (start_of kind) (spell m) (stride_of kind) (print_loaded ls (view_at (LoopVariable d) (viewed env a x)) (more n (variable_count x)) (print_written spell ins (suc d) (push (loaded_view ls (view_at (LoopVariable d) (viewed env a x)) (more n (variable_count x))) env) (a + private_count x) (more (more n (variable_count x)) (load_count ls)) b (view_at (LoopVariable d) w) End)) rest) refl
  written_does d env a n (Fold m ls ty x s1 b) w W rest can s g =
      argument_kept d env a n x
      (print_element env (more n (variable_count x)) s1
      (print_assigned ty (sign_exprs env (more n (variable_count x)) s1) (more (more n (variable_count x)) (let_variables s1))
      (Loops (start_of Sequential) (spell m) (stride_of Sequential)
      (print_fold_turn env ls ty (view_at (LoopVariable d) (viewed env a x)) (more (more n (variable_count x)) (let_variables s1)) b)
      (print_stored ty (λ cs. held_sign (held_view ty (more (more n (variable_count x)) (let_variables s1)) cs [])) (view_at (Number 0) w) rest))))
      (element_kept k S one small ifs Sp Q (more n (variable_count x)) env s1
      (print_assigned ty (sign_exprs env (more n (variable_count x)) s1) (more (more n (variable_count x)) (let_variables s1))
      (Loops (start_of Sequential) (spell m) (stride_of Sequential)
      (print_fold_turn env ls ty (view_at (LoopVariable d) (viewed env a x)) (more (more n (variable_count x)) (let_variables s1)) b)
      (print_stored ty (λ cs. held_sign (held_view ty (more (more n (variable_count x)) (let_variables s1)) cs [])) (view_at (Number 0) w) rest)))
      (assigned_kept k S one small ifs ty (sign_exprs env (more n (variable_count x)) s1) (more (more n (variable_count x)) (let_variables s1))
      (Loops (start_of Sequential) (spell m) (stride_of Sequential)
      (print_fold_turn env ls ty (view_at (LoopVariable d) (viewed env a x)) (more (more n (variable_count x)) (let_variables s1)) b)
      (print_stored ty (λ cs. held_sign (held_view ty (more (more n (variable_count x)) (let_variables s1)) cs [])) (view_at (Number 0) w) rest)) refl))

  abbrev Right : ℕ → Code → Type 0
  Right l c = Fine k S one small ifs l c

  -- ---- all of it is of the grammar
  mutual
    argument_fine : (d : ℕ) (g : ℕ → ℕ) (lies : ℕ → Lie) (env : ℕ → View) (a : ℕ) (n : Count) (t : Term A) (rest : Code) → Views d g env → AllLieShared lies env → CanBeRead t → IsSound Sp Q t → IsReadWithin M g t → AreLow 1023 t → ReadsFours lies t → ifs + d + loop_depth t ≤ 1024
        → AtMost (more n (variable_count t)) (variables_of k) → a + private_count t ≤ length k.privates → Right d rest → Right d (print_argument spell ins d env a n t rest)
    argument_fine d g lies env a n (Literal c) rest all sh can s most low fo deep vars priv f = f
    argument_fine d g lies env a n (Bound v) rest all sh can s most low fo deep vars priv f = f
    argument_fine d g lies env a n (Source v) rest all sh can s most low fo deep vars priv f = f
    argument_fine d g lies env a n (Apply o x y) rest all sh can s most low fo deep vars priv f = f
    argument_fine d g lies env a n (ApplyNumber o m x) rest all sh can s most low fo deep vars priv f = f
    argument_fine d g lies env a n (ApplyLanes o i j x y) rest all sh can s most low fo deep vars priv f = f
    argument_fine d g lies env a n (DivideLanes o m x) rest all sh can s most low fo deep vars priv f = f
    argument_fine d g lies env a n (Select c x y) rest all sh can s most low fo deep vars priv f = f
    argument_fine d g lies env a n (Both zips x y) rest all sh can s most low fo deep vars priv f =
        argument_fine d g lies env a n x (print_argument spell ins d env (a + private_count x) (more n (variable_count x)) y rest) all sh can.0 s.0 most.0 low.0 fo.0 (omega arith) (at_most_of vars (omega arith) (omega arith)) (omega arith)
        (argument_fine d g lies env (a + private_count x) (more n (variable_count x)) y rest all sh can.1 s.1 most.1 low.1 fo.1 (omega arith) (at_most_of vars (omega arith) (omega arith)) (omega arith) f)
    argument_fine d g lies env a n (Project s1 x) rest all sh can s most low fo deep vars priv f = argument_fine d g lies env a n x rest all sh can s most low fo deep vars priv f
    argument_fine d g lies env a n (Reshape y x) rest all sh can s most low fo deep vars priv f = argument_fine d g lies env a n x rest all sh can s.1 most.1 low fo deep vars priv f
    argument_fine d g lies env a n (LetArray v b) rest all sh can s most low fo deep vars priv f =
        argument_fine d g lies env a n v (print_argument spell ins d (push (viewed env a v) env) (a + private_count v) (more n (variable_count v)) b rest) all sh can.0 s.0 most.0 low.0 fo.2 (omega arith) (at_most_of vars (omega arith) (omega arith)) (omega arith)
        (argument_fine d (push (stacked g v) g) (push fo.0 lies) (push (viewed env a v) env) (a + private_count v) (more n (variable_count v)) b rest (pushed k S one small ifs d g env (stacked g v) (viewed env a v) (viewed_good d g env a v all (omega arith) s.0) all) (lies_pushed lies env fo.0 (viewed env a v) (argument_lies spell ins shared PrivateMemory a lies env v fo.0 sh fo.1) sh) can.1 s.1 most.1 low.1 fo.3 (omega arith) (at_most_of vars (omega arith) (omega arith)) (omega arith) f)
    argument_fine d g lies env a n (LetElement ty v b) rest all sh can s most low fo deep vars priv f = f
    argument_fine d g lies env a n (Map kind m ls x b) rest all sh can s most low fo deep vars priv f = f
    argument_fine d g lies env a n (Fold m ls ty x s1 b) rest all sh can s most low fo deep vars priv f = f
    argument_fine d g lies env a n (Store ty x) rest all sh can s most low fo deep vars priv f = f
    argument_fine d g lies env a n (Copy LocalMemory ty x) rest all sh can s most low fo deep vars priv f = f
    argument_fine d g lies env a n (Copy PrivateMemory ty x) rest all sh can s most low fo deep vars priv f =
        written_fine d g lies env a n x (laid_view Private (a + private_count x) ty) Loose 0 rest all (laid_target (a + private_count x) ty d (omega arith) s.0 s.1) sh tt can s.2 most low fo deep vars (omega arith) f

    pub written_fine : (d : ℕ) (g : ℕ → ℕ) (lies : ℕ → Lie) (env : ℕ → View) (a : ℕ) (n : Count) (t : Term A) (w : View) (lie : Lie) (W : ℕ) (rest : Code) → Views d g env → IsTarget k S d (10 + 3 * W) w → AllLieShared lies env → LiesShared lie w → CanBeWritten t → IsSound Sp Q t → IsWrittenWithin M g W t → AreLow 1023 t → WritesFours lies lie t → ifs + d + loop_depth t ≤ 1024
        → AtMost (more n (variable_count t)) (variables_of k) → a + private_count t ≤ length k.privates → Right d rest → Right d (print_written spell ins d env a n t w rest)
    written_fine d g lies env a n (Literal c) w lie W rest all tg sh ys can s most low fo deep vars priv f = absurd can
    written_fine d g lies env a n (Bound v) w lie W rest all tg sh ys can s most low fo deep vars priv f = absurd can
    written_fine d g lies env a n (Source v) w lie W rest all tg sh ys can s most low fo deep vars priv f = absurd can
    written_fine d g lies env a n (Apply o x y) w lie W rest all tg sh ys can s most low fo deep vars priv f = absurd can
    written_fine d g lies env a n (ApplyNumber o m x) w lie W rest all tg sh ys can s most low fo deep vars priv f = absurd can
    written_fine d g lies env a n (ApplyLanes o i j x y) w lie W rest all tg sh ys can s most low fo deep vars priv f = absurd can
    written_fine d g lies env a n (DivideLanes o m x) w lie W rest all tg sh ys can s most low fo deep vars priv f = absurd can
    written_fine d g lies env a n (Select c x y) w lie W rest all tg sh ys can s most low fo deep vars priv f = absurd can
    written_fine d g lies env a n (Both zips x y) w lie W rest all tg sh ys can s most low fo deep vars priv f = absurd can
    written_fine d g lies env a n (Project s1 x) w lie W rest all tg sh ys can s most low fo deep vars priv f = absurd can
    written_fine d g lies env a n (Copy space ty x) w lie W rest all tg sh ys can s most low fo deep vars priv f = absurd can
    written_fine d g lies env a n (Store ty x) w lie W rest all tg sh ys can s most high fo deep vars priv f =
        element_fine k S one small ifs Sp Q d n g env x (print_stored ty (sign_exprs env n x) w rest) all vars s.1 high
        (stored_fine k S one small ifs d ty (sign_exprs env n x) w (10 + 3 * W) lie rest (omega arith) tg ys fo (all_exprs k S one small ifs Sp Q d n g env x all vars s.1 high) f)
    written_fine d g lies env a n (Reshape y x) w lie W rest all tg sh ys can s most high fo deep vars priv f =
        written_fine d g lies env a n x (rewritten_view spell y w) (written_lie y fo.0) (suc W) rest all
        (target_within k S one d d (10 + 3 * W + 3) (10 + 3 * suc W) (rewritten_view spell y w) (omega arith) (omega arith) (reshaped_target k S one spell y d (10 + 3 * W) w s.0 tg)) sh
        (lies_written spell y fo.0 w (lies_served lie fo.0 w fo.1 ys)) can.1 s.1 most high fo.2 deep vars priv f
    written_fine d g lies env a n (LetArray v b) w lie W rest all tg sh ys can s most high fo deep vars priv f =
        argument_fine d g lies env a n v (print_written spell ins d (push (viewed env a v) env) (a + private_count v) (more n (variable_count v)) b w rest) all sh can.0 s.0 most.0 high.0 fo.2 (omega arith) (at_most_of vars (omega arith) (omega arith)) (omega arith)
        (written_fine d (push (stacked g v) g) (push fo.0 lies) (push (viewed env a v) env) (a + private_count v) (more n (variable_count v)) b w lie W rest (pushed k S one small ifs d g env (stacked g v) (viewed env a v) (viewed_good d g env a v all (omega arith) s.0) all) tg (lies_pushed lies env fo.0 (viewed env a v) (argument_lies spell ins shared PrivateMemory a lies env v fo.0 sh fo.1) sh) ys can.1 s.1 most.1 high.1 fo.3 (omega arith) (at_most_of vars (omega arith) (omega arith)) (omega arith) f)
    written_fine d g lies env a n (LetElement ty v b) w lie W rest all tg sh ys can s most high fo deep vars priv f =
        element_fine k S one small ifs Sp Q d n g env v (print_assigned ty (sign_exprs env n v) (more n (let_variables v)) (print_written spell ins d (push (held_view ty (more n (let_variables v))) env) a (more (more n (let_variables v)) (held_count ty)) b w rest)) all (at_most_of vars (omega arith) (omega arith)) s.0 high.0
        (assigned_fine k S one small ifs d ty (sign_exprs env n v) (more n (let_variables v)) (print_written spell ins d (push (held_view ty (more n (let_variables v))) env) a (more (more n (let_variables v)) (held_count ty)) b w rest) (at_most_of vars (omega arith) (omega arith)) (all_exprs k S one small ifs Sp Q d n g env v all (at_most_of vars (omega arith) (omega arith)) s.0 high.0)
        (written_fine d (push 0 g) (push (held_lie ty) lies) (push (held_view ty (more n (let_variables v))) env) a (more (more n (let_variables v)) (held_count ty)) b w lie W rest (held_pushed k S one small ifs d g env ty (more n (let_variables v)) (at_most_of vars (omega arith) (omega arith)) all) tg (lies_pushed lies env (held_lie ty) (held_view ty (more n (let_variables v))) (lies_held ty (more n (let_variables v))) sh) ys can s.1 most high.1 fo deep (at_most_of vars (omega arith) (omega arith)) priv f))
    written_fine d g lies env a n (Map kind m ls x b) w lie W rest all tg sh ys can s most high fo deep vars priv f =
        argument_fine d g lies env a n x
        (Loops (start_of kind) (spell m) (stride_of kind) (print_loaded ls (view_at (LoopVariable d) (viewed env a x)) (more n (variable_count x)) (print_written spell ins (suc d) (push (loaded_view ls (view_at (LoopVariable d) (viewed env a x)) (more n (variable_count x))) env) (a + private_count x) (more (more n (variable_count x)) (load_count ls)) b (view_at (LoopVariable d) w) End)) rest)
        all sh can.0 s.1 most.1 high.0 fo.2 (omega arith) (at_most_of vars (omega arith) (omega arith)) (omega arith)
        (let x1 = view_at (LoopVariable d) (viewed env a x) in
        let N = more n (variable_count x) in
        let fits : S + (10 + 3 * stacked g x) ≤ 1024 = (let e = most.0 in omega arith) in
        let good = turned_good k S one (variables_of k) d (10 + 3 * stacked g x) (viewed env a x) (viewed_good d g env a x all (omega arith) s.1) in
        let inner = pushed k S one small ifs (suc d) g env (stacked g x) (loaded_view ls x1 N) (loaded_good k S one ls x1 N (variables_of k) (variables_of k) (suc d) (10 + 3 * stacked g x) (as_many (variables_of k)) (at_most_of vars (omega arith) (omega arith)) good) (views_deeper k S one small ifs d (suc d) g env (omega arith) all) in
        let turned = turned_target k S one d (10 + 3 * W) w tg in
        let lies1 = lies_at_turn (LoopVariable d) fo.0 (viewed env a x) (argument_lies spell ins shared PrivateMemory a lies env x fo.0 sh fo.1) in
        loop_fine k S one small ifs d kind (spell m) (print_loaded ls x1 N (print_written spell ins (suc d) (push (loaded_view ls x1 N) env) (a + private_count x) (more N (load_count ls)) b (view_at (LoopVariable d) w) End)) rest (omega arith) s.0
        (loads_does k S one small ifs ls x1 N (print_written spell ins (suc d) (push (loaded_view ls x1 N) env) (a + private_count x) (more N (load_count ls)) b (view_at (LoopVariable d) w) End)
        (written_does (suc d) (push (loaded_view ls x1 N) env) (a + private_count x) (more N (load_count ls)) b (view_at (LoopVariable d) w) (10 + 3 * W) End can.1 s.2 turned))
        (loads_fine k S one small ifs (suc d) ls x1 N (variables_of k) (10 + 3 * stacked g x) (element_lie fo.0) (print_written spell ins (suc d) (push (loaded_view ls x1 N) env) (a + private_count x) (more N (load_count ls)) b (view_at (LoopVariable d) w) End) fits (at_most_of vars (omega arith) (omega arith)) good lies1 fo.3
        (written_fine (suc d) (push (stacked g x) g) (push (bound_lie ls (element_lie fo.0)) lies) (push (loaded_view ls x1 N) env) (a + private_count x) (more N (load_count ls)) b (view_at (LoopVariable d) w) (element_lie lie) W End inner turned
        (lies_pushed lies env (bound_lie ls (element_lie fo.0)) (loaded_view ls x1 N) (lies_bound ls (element_lie fo.0) N x1 lies1) sh) (lies_at_turn (LoopVariable d) lie w ys) can.1 s.2 most.2 high.1 fo.4 (omega arith) (at_most_of vars (omega arith) (omega arith)) (omega arith) refl)) f)
    written_fine d g lies env a n (Fold m ls ty x s1 b) w lie W rest all tg sh ys can s most high fo deep vars priv f =
        let N = more n (variable_count x) in
        let acc = more (more n (variable_count x)) (let_variables s1) in
        let x1 = view_at (LoopVariable d) (viewed env a x) in
        let fits : S + (10 + 3 * stacked g x) ≤ 1024 = (let e = most.1 in omega arith) in
        let stored = print_stored ty (λ cs. held_sign (held_view ty acc cs [])) (view_at (Number 0) w) rest in
        let loop = Loops (start_of Sequential) (spell m) (stride_of Sequential) (print_fold_turn env ls ty x1 acc b) stored in
        let good = turned_good k S one (variables_of k) d (10 + 3 * stacked g x) (viewed env a x) (viewed_good d g env a x all (omega arith) s.2) in
        argument_fine d g lies env a n x (print_element env N s1 (print_assigned ty (sign_exprs env N s1) acc loop)) all sh can s.2 most.2 high.0 fo.2 (omega arith) (at_most_of vars (omega arith) (omega arith)) (omega arith)
        (element_fine k S one small ifs Sp Q d N g env s1 (print_assigned ty (sign_exprs env N s1) acc loop) all (at_most_of vars (omega arith) (omega arith)) s.3 high.1
        (assigned_fine k S one small ifs d ty (sign_exprs env N s1) acc loop (at_most_of vars (omega arith) (omega arith)) (all_exprs k S one small ifs Sp Q d N g env s1 all (at_most_of vars (omega arith) (omega arith)) s.3 high.1)
        (loop_fine k S one small ifs d Sequential (spell m) (print_fold_turn env ls ty x1 acc b) stored (omega arith) s.0
        (turn_does k S one small ifs Sp Q env ls ty x1 acc b s.1)
        (turn_fine k S one small ifs Sp Q (suc d) g env ls ty x1 (stacked g x) acc (element_lie fo.0) b fits (views_deeper k S one small ifs d (suc d) g env (omega arith) all) good (at_most_of vars (omega arith) (omega arith))
        (lies_at_turn (LoopVariable d) fo.0 (viewed env a x) (argument_lies spell ins shared PrivateMemory a lies env x fo.0 sh fo.1)) fo.3 s.4 high.2)
        (stored_fine k S one small ifs d ty (λ cs. held_sign (held_view ty acc cs [])) (view_at (Number 0) w) (10 + 3 * W) (element_lie lie) rest (let e = most.0 in omega arith) (first_target k S one d (10 + 3 * W) w tg) (lies_at_turn (Number 0) lie w ys) fo.4 (held_all k S one small ifs d ty acc (at_most_of vars (omega arith) (omega arith))) f))))
