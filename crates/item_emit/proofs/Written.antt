-- The printed code of a term, of that of its parts.
use Rattle.std.proofs.Common.{◌≡◌, ℕ, suc, ◌+◌, ◌^◌, Bool, true, false, Some, None, [], refl}
use Rattle.std.specs.Prelude.{nat_lt, if◌then◌else◌}
use Rattle.kernel_tree.specs.Formula.{Formula, LoopVariable, Number}
use Rattle.kernel_tree.specs.Code.{Code, End, Loops, Start, Stride, FromZero, ByOne}
use Rattle.length_spelling.specs.Turns.{as_number}
use Rattle.lift_ir.specs.Types.{Ty}
use Rattle.lift_ir.specs.Terms.{Kind, LoadSet, Term, Both, LetArray, Map, Fold, push}
use Rattle.printed_form.specs.Arguments.{argument_view, private_arrays}
use Rattle.printed_form.specs.Counts.{Count, more, held_count, let_variables, load_count, private_count, variable_count}
use Rattle.printed_form.specs.Form.{start_of, stride_of}
use Rattle.printed_form.specs.Printer.{print_argument, print_assigned, print_element, print_fold_turn, print_loaded, print_reassigned, print_stored, print_written, sign_exprs}
use Rattle.printed_form.specs.Views.{View, held_sign, held_view, loaded_view, view_at}

-- a number is a turn's own
pub numbered : (n number : ℕ) → as_number n ≡ Some number → number ≡ n
numbered n number h = go (nat_lt n (2 ^ 32)) h
  where
    go : (b : Bool) → (if b then Some n else None) ≡ Some number → number ≡ n
    go true h = cc h
    go false h = absurd (cc h)

pub fold_turn : {A : Type 0} (env : ℕ → View) (loads : LoadSet) (ty : Ty) (x : View) (acc : Count) (b : Term A) (start reassigned code : Code) (held bound : View) (g first_load h first_let v temporary : Count) → start ≡ End → g ≡ held_count ty → first_load ≡ more acc g → h ≡ load_count loads → first_let ≡ more first_load h → v ≡ let_variables b → temporary ≡ more first_let v
    → held ≡ held_view ty acc → bound ≡ loaded_view loads x first_load → reassigned ≡ print_reassigned ty (sign_exprs (push bound (push held env)) first_let b) acc temporary start
    → code ≡ print_element (push bound (push held env)) first_let b reassigned → print_loaded loads x first_load code ≡ print_fold_turn env loads ty x acc b
fold_turn env loads ty x acc b start reassigned code held bound g first_load h first_let v temporary es eg ef eh el ev et ehe ebo er ec = rw (ec, er, es, ebo, ehe, et, ev, el, eh, ef, eg) refl

pub fold_loop : {A : Type 0} (env : ℕ → View) (n : Count) (ty : Ty) (len : Formula) (s : Term A) (w : View) (loads : LoadSet) (x : View) (b : Term A) (rest : Code) (lets m : Count) (turned stored looped : Code) → lets ≡ let_variables s → m ≡ more n lets → turned ≡ print_fold_turn env loads ty x m b
    → stored ≡ print_stored ty (λ cs. held_sign (held_view ty m cs [])) (view_at (Number 0) w) rest → looped ≡ Loops FromZero len ByOne turned stored
    → print_element env n s (print_assigned ty (sign_exprs env n s) m looped) ≡ print_element env n s (print_assigned ty (sign_exprs env n s) (more n (let_variables s)) (Loops FromZero len ByOne (print_fold_turn env loads ty x (more n (let_variables s)) b) (print_stored ty (λ cs. held_sign (held_view ty (more n (let_variables s)) cs [])) (view_at (Number 0) w) rest)))
fold_loop env n ty len s w loads x b rest lets m turned stored looped es em et eo el = rw (el, eo, et, em, es) refl

module _ {A : Type 0} (spell : A → Formula) (ins : ℕ → View) (depth : ℕ) (env : ℕ → View) (a : ℕ) (n : Count) where
  pub argument_let : (v b : Term A) (rest code : Code) (bound : View) (d p : ℕ) (q : Count) → bound ≡ argument_view private_arrays spell ins env a v → d ≡ depth → p ≡ a + private_count v → q ≡ more n (variable_count v)
      → code ≡ print_argument spell ins d (push bound env) p q b rest → print_argument spell ins depth env a n v code ≡ print_argument spell ins depth env a n (LetArray v b) rest
  argument_let v b rest code bound d p q eb ed ep eq ec = rw (ec, eb, ed, ep, eq) refl

  pub argument_both : (zips : Bool) (x y x1 y2 x3 : Term A) (rest code : Code) (inner : ℕ → View) (d p : ℕ) (q : Count) → x1 ≡ x → y2 ≡ y → x3 ≡ x → inner ≡ env → d ≡ depth → p ≡ a + private_count x1 → q ≡ more n (variable_count x1)
      → code ≡ print_argument spell ins d inner p q y2 rest → print_argument spell ins depth env a n x3 code ≡ print_argument spell ins depth env a n (Both zips x y) rest
  argument_both zips x y x1 y2 x3 rest code inner d p q e1 e2 e3 ei ed ep eq ec = rw (ec, ei, ed, ep, eq, e1, e2, e3) refl

  pub written_let : (v b : Term A) (w : View) (rest code : Code) (bound : View) (d p : ℕ) (q : Count) → bound ≡ argument_view private_arrays spell ins env a v → d ≡ depth → p ≡ a + private_count v → q ≡ more n (variable_count v)
      → code ≡ print_written spell ins d (push bound env) p q b w rest → print_argument spell ins depth env a n v code ≡ print_written spell ins depth env a n (LetArray v b) w rest
  written_let v b w rest code bound d p q eb ed ep eq ec = rw (ec, eb, ed, ep, eq) refl

  pub written_map : (k : Kind) (len : A) (loads : LoadSet) (xs b : Term A) (w : View) (rest turn code : Code) (element to : View) (length : Formula) (start : Start) (stride : Stride) (inner : ℕ → View) (d p : ℕ) (q : Count)
      → element ≡ view_at (LoopVariable depth) (argument_view private_arrays spell ins env a xs) → to ≡ view_at (LoopVariable depth) w → inner ≡ env → d ≡ depth → p ≡ a + private_count xs → q ≡ more n (variable_count xs)
      → turn ≡ print_loaded loads element q (print_written spell ins (suc d) (push (loaded_view loads element q) inner) p (more q (load_count loads)) b to End) → length ≡ spell len → start ≡ start_of k → stride ≡ stride_of k → code ≡ Loops start length stride turn rest
      → print_argument spell ins depth env a n xs code ≡ print_written spell ins depth env a n (Map k len loads xs b) w rest
  written_map k len loads xs b w rest turn code element to length start stride inner d p q ee eo ei ed ep eq et el es er ec = rw (ec, el, es, er, et, ei, eo, ed, ep, eq, ee) refl

  pub written_fold : (len : A) (loads : LoadSet) (ty : Ty) (xs s b : Term A) (w : View) (rest code : Code) (element : View) (bound : Formula) (f p : Count)
      → element ≡ view_at (LoopVariable depth) (argument_view private_arrays spell ins env a xs) → f ≡ variable_count xs → p ≡ more n f → bound ≡ spell len
      → code ≡ print_element env p s (print_assigned ty (sign_exprs env p s) (more p (let_variables s)) (Loops FromZero bound ByOne (print_fold_turn env loads ty element (more p (let_variables s)) b) (print_stored ty (λ cs. held_sign (held_view ty (more p (let_variables s)) cs [])) (view_at (Number 0) w) rest)))
      → print_argument spell ins depth env a n xs code ≡ print_written spell ins depth env a n (Fold len loads ty xs s b) w rest
  written_fold len loads ty xs s b w rest code element bound f p ee ef ep eb ec = rw (ec, ee, ep, ef, eb) refl
