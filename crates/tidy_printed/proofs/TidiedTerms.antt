-- Tidied, a term's code is printed for the term.
use Rattle.std.proofs.Common.{ℕ, ◌+◌, ◌<◌, List, [], ◌∷◌, ◌++◌, ap}
use Rattle.kernel_tree.specs.Code.{Private, Start, Stride, Code, End}
use Rattle.kernel_tree.specs.Launch.{Launch, item_count, ids_of}
use Rattle.lift_ir.specs.Layouts.{result_position}
use Rattle.lift_ir.specs.Terms.{LoadSet, Kind, Sequential, PrivateMemory, Term, Bound, Source, Both, Project, Reshape, LetArray, LetElement, Map, Fold, Store, Copy, push}
use Rattle.lift_ir.specs.Scalars.{at_index}
use Rattle.printed_form.specs.Counts.{Count, more, held_count, let_variables, load_count, variable_count, private_count}
use Rattle.printed_form.specs.Marks.{Marks, laid_in, held_marks, loaded_marks}
use Rattle.printed_form.specs.Expressions.{held, exprs}
use Rattle.printed_form.specs.Form.{argument_marks, start_of, stride_of, IsLoop, IsFoldTurn, IsArgumentWork, IsWritten}
use Rattle.printed_form.specs.MapForms.{MapForm, Looped, Guarded, Alone, AreTurnsFrom}
use Rattle.tidy_indices.specs.Around.{Around, InLoop, StandsIn}
use Rattle.tidy_indices.specs.Laws.{Change, KeepsValues}
use Rattle.tidy_kernels.specs.Pass.{tidied_code}
use Rattle.tidy_printed.specs.Terms.{IsMapTurn, TidiedMapsArePrinted}
use Rattle.tidy_printed.proofs.Elements.{assigned, element}
use Rattle.tidy_printed.proofs.Statements.{stored, loaded, loop, turns, fold_turn}

module _ {A : Type 0} (l : Launch) (item : ℕ) (ins : ℕ → Marks) (num : A → ℕ) (tidy : Change) (keeps : KeepsValues tidy l) (in_launch : item < item_count l) where
  -- what is written for a term, tidied, is written for it, in whatever loops
  abbrev Stays : Term A → Type 0
  Stays b = (around : List Around) (ts : List ℕ) → StandsIn (ids_of l item) around ts → (env : ℕ → Marks) (a : ℕ) (n : Count) (w : Marks) (code rest : Code)
      → IsWritten l item ins num ts env a n b w code rest → IsWritten l item ins num ts env a n b w (tidied_code tidy around code) (tidied_code tidy around rest)

  -- a turn of a map whose body stays
  map_turn : (around : List Around) (ts : List ℕ) → StandsIn (ids_of l item) around ts → (env : ℕ → Marks) (a : ℕ) (n : Count) (loads : LoadSet) (x w : Marks) (b : Term A) (i : ℕ) (body last : Code)
      → Stays b → IsMapTurn l item ins num env a n loads x w b ts i body last → IsMapTurn l item ins num env a n loads x w b ts i (tidied_code tidy around body) (tidied_code tidy around last)
  map_turn around ts stands env a n loads x w b i body last stays turn = (
    tidied_code tidy around turn.0,
    loaded l item ins tidy keeps in_launch around ts stands loads (at_index i x) n body turn.0 turn.1,
    stays around ts stands (push (loaded_marks loads (at_index i x) n) env) a (more n (load_count loads)) (at_index i w) turn.0 last turn.2,
  )

  -- its loop
  map_loop : (around : List Around) (ts : List ℕ) → StandsIn (ids_of l item) around ts → (kind : Kind) (len : ℕ) (env : ℕ → Marks) (a : ℕ) (n : Count) (loads : LoadSet) (x w : Marks) (b : Term A) (code rest : Code)
      → Stays b → IsLoop l item ins kind len (λ i body. IsMapTurn l item ins num env a n loads x w b (ts ++ i ∷ []) i body End) code rest
      → IsLoop l item ins kind len (λ i body. IsMapTurn l item ins num env a n loads x w b (ts ++ i ∷ []) i body End) (tidied_code tidy around code) (tidied_code tidy around rest)
  map_loop around ts stands kind len env a n loads x w b code rest stays h =
      loop l item ins tidy keeps in_launch around ts stands kind len (λ i body. IsMapTurn l item ins num env a n loads x w b (ts ++ i ∷ []) i body End)
      code rest
      (λ bound i body at turn. map_turn (around ++ InLoop bound ∷ []) (ts ++ i ∷ []) at env a n loads x w b i body End stays turn)
      h

  -- and all its turns in a form
  pub map_turns : (around : List Around) (ts : List ℕ) → StandsIn (ids_of l item) around ts → (form : MapForm) (s : Start) (c : Stride) (len : ℕ) (env : ℕ → Marks) (a : ℕ) (n : Count) (loads : LoadSet) (x w : Marks) (b : Term A) (code rest : Code)
      → Stays b → AreTurnsFrom l item form s c ts len (IsMapTurn l item ins num env a n loads x w b) code rest
      → AreTurnsFrom l item form s c ts len (IsMapTurn l item ins num env a n loads x w b) (tidied_code tidy around code) (tidied_code tidy around rest)
  map_turns around ts stands form s c len env a n loads x w b code rest stays h =
      turns l item ins tidy keeps in_launch around ts stands form s c len (IsMapTurn l item ins num env a n loads x w b) code rest
      (λ around ts stands i body last turn. map_turn around ts stands env a n loads x w b i body last stays turn) h

  mutual
    pub argument : (around : List Around) (ts : List ℕ) → StandsIn (ids_of l item) around ts → (env : ℕ → Marks) (a : ℕ) (n : Count) (t : Term A) (code rest : Code)
        → IsArgumentWork l item ins num ts env a n t code rest → IsArgumentWork l item ins num ts env a n t (tidied_code tidy around code) (tidied_code tidy around rest)
    argument around ts stands env a n (Bound v) code rest h = ap (tidied_code tidy around) h
    argument around ts stands env a n (Source s) code rest h = ap (tidied_code tidy around) h
    argument around ts stands env a n (Both zips x y) code rest h =
        (tidied_code tidy around h.0, argument around ts stands env a n x code h.0 h.1, argument around ts stands env (a + private_count x) (more n (variable_count x)) y h.0 rest h.2)
    argument around ts stands env a n (Project s x) code rest h = argument around ts stands env a n x code rest h
    argument around ts stands env a n (Reshape y x) code rest h = argument around ts stands env a n x code rest h
    argument around ts stands env a n (LetArray v b) code rest h = (
      tidied_code tidy around h.0,
      argument around ts stands env a n v code h.0 h.1,
      argument around ts stands (push (argument_marks l ins num env a v) env) (a + private_count v) (more n (variable_count v)) b h.0 rest h.2,
    )
    argument around ts stands env a n (Copy PrivateMemory ty x) code rest h = written around ts stands env a n x (laid_in Private (a + private_count x) ty) code rest h
    argument around ts stands env a n _ code rest h = absurd h

    pub written : (around : List Around) (ts : List ℕ) → StandsIn (ids_of l item) around ts → (env : ℕ → Marks) (a : ℕ) (n : Count) (t : Term A) (w : Marks) (code rest : Code)
        → IsWritten l item ins num ts env a n t w code rest → IsWritten l item ins num ts env a n t w (tidied_code tidy around code) (tidied_code tidy around rest)
    written around ts stands env a n (Store ty t) w code rest h =
        (tidied_code tidy around h.0, element tidy around env n t code h.0 h.1, stored l item ins tidy keeps in_launch around ts stands ty (exprs env n t) w h.0 rest h.2)
    written around ts stands env a n (Reshape y t) w code rest h = (h.0, written around ts stands env a n t (λ cs q. w cs (result_position num y q)) code rest h.1)
    written around ts stands env a n (LetArray v b) w code rest h = (
      tidied_code tidy around h.0,
      argument around ts stands env a n v code h.0 h.1,
      written around ts stands (push (argument_marks l ins num env a v) env) (a + private_count v) (more n (variable_count v)) b w h.0 rest h.2,
    )
    written around ts stands env a n (LetElement ty v b) w code rest h = (
      tidied_code tidy around h.0,
      tidied_code tidy around h.1,
      element tidy around env n v code h.0 h.2,
      assigned tidy around ty (exprs env n v) (more n (let_variables v)) h.0 h.1 h.3,
      written around ts stands (push (held_marks ty (more n (let_variables v))) env) a (more (more n (let_variables v)) (held_count ty)) b w h.1 rest h.4,
    )
    written around ts stands env a n (Map Sequential len loads xs b) w code rest h = (
      tidied_code tidy around h.0,
      argument around ts stands env a n xs code h.0 h.1,
      map_loop around ts stands Sequential (num len) env (a + private_count xs) (more n (variable_count xs)) loads (argument_marks l ins num env a xs) w b h.0 rest
          (λ around ts stands env a n w code rest h. written around ts stands env a n b w code rest h) h.2,
    )
    written around ts stands env a n (Fold len loads ty xs s b) w code rest h =
        let x = argument_marks l ins num env a xs in
        let acc = more (more n (variable_count xs)) (let_variables s) in (
          tidied_code tidy around h.0,
          tidied_code tidy around h.1,
          tidied_code tidy around h.2,
          tidied_code tidy around h.3,
          argument around ts stands env a n xs code h.0 h.4,
          element tidy around env (more n (variable_count xs)) s h.0 h.1 h.5,
          assigned tidy around ty (exprs env (more n (variable_count xs)) s) acc h.1 h.2 h.6,
          loop l item ins tidy keeps in_launch around ts stands Sequential (num len) (λ i body. IsFoldTurn l item ins (ts ++ i ∷ []) env loads ty (at_index i x) acc b body) h.2 h.3
              (λ bound i body at turn. fold_turn l item ins tidy keeps in_launch (around ++ InLoop bound ∷ []) (ts ++ i ∷ []) at env loads ty (at_index i x) acc b body turn)
              h.7,
          stored l item ins tidy keeps in_launch around ts stands ty (λ cs. held (held_marks ty acc cs)) (at_index 0 w) h.3 rest h.8,
        )
    written around ts stands env a n _ w code rest h = absurd h

-- and any body stays
pub body_stays : {A : Type 0} (l : Launch) (item : ℕ) (ins : ℕ → Marks) (num : A → ℕ) (tidy : Change) (keeps : KeepsValues tidy l) (in_launch : item < item_count l) (b : Term A) → Stays l item ins num tidy keeps in_launch b
body_stays l item ins num tidy keeps in_launch b around ts stands env a n w code rest h = written l item ins num tidy keeps in_launch around ts stands env a n b w code rest h

pub maps_are : {A : Type 0} → TidiedMapsArePrinted A
maps_are l item ins num tidy around ts Looped kind len env a n loads x w b code rest keeps in_launch stands h =
    map_turns l item ins num tidy keeps in_launch around ts stands Looped (start_of kind) (stride_of kind) len env a n loads x w b code rest (body_stays l item ins num tidy keeps in_launch b) h
maps_are l item ins num tidy around ts Guarded kind len env a n loads x w b code rest keeps in_launch stands h =
    map_turns l item ins num tidy keeps in_launch around ts stands Guarded (start_of kind) (stride_of kind) len env a n loads x w b code rest (body_stays l item ins num tidy keeps in_launch b) h
maps_are l item ins num tidy around ts Alone kind len env a n loads x w b code rest keeps in_launch stands h =
    map_turns l item ins num tidy keeps in_launch around ts stands Alone (start_of kind) (stride_of kind) len env a n loads x w b code rest (body_stays l item ins num tidy keeps in_launch b) h
