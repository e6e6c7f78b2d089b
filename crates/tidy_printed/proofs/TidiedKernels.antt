-- Tidied, a whole kernel is printed for its term, by whichever printer.
use Rattle.std.proofs.Common.{ℕ, ◌+◌, ◌<◌, List, [], ◌∷◌, ◌++◌, inl, inr, arith}
use Rattle.size_arith.specs.declared.poly.Monomial.{Monomial}
use Rattle.kernel_tree.specs.Code.{Code, End}
use Rattle.kernel_tree.specs.Launch.{Launch, item_count, ids_of}
use Rattle.lift_tree.specs.Annotations.{type_in}
use Rattle.lift_tree.specs.declared.term.Level.TheVariants as level
use Rattle.lift_tree.specs.declared.term.Dimension.TheVariants.{X, Y}
use Rattle.lift_ir.specs.AtLaunch.{length_at, ty_at}
use Rattle.lift_ir.specs.Layouts.{result_position}
use Rattle.lift_ir.specs.Terms.{Over, Term, Reshape, LetArray, Map, push}
use Rattle.lift_ir.specs.Scalars.{at_index}
use Rattle.printed_form.specs.Counts.{Count, more, no_variables, load_count, variable_count, private_count}
use Rattle.printed_form.specs.MapForms.{Looped}
use Rattle.printed_form.specs.Marks.{Marks, loaded_marks}
use Rattle.printed_form.specs.Form.{argument_marks, IsLoaded}
use Rattle.printed_form.specs.Whole.{IsAlongRow, IsOverLaunch, no_marks, output_marks}
use Rattle.printed_form.specs.Printer.{input_marks}
use Rattle.printed_form.specs.Programs.{input_shape, first_buffer, lowered_root}
use Rattle.printed_form.proofs.Programs.{declares_too}
use Rattle.group_form.specs.ChosenForms.{forms_of}
use Rattle.group_form.specs.GridChosen.{grid_forms_of}
use Rattle.group_form.specs.Kernels.{OfItems, OfGroups, OfGrids}
use Rattle.tidy_indices.specs.Around.{Around, InLoop, StandsIn}
use Rattle.tidy_indices.specs.Laws.{Change, KeepsValues}
use Rattle.tidy_kernels.specs.Pass.{tidied_code}
use Rattle.tidy_printed.specs.Terms.{TidiedCodesArePrinted, TidiedGroupCodesArePrinted, TidiedGridCodesArePrinted, TidiedKernelsArePrinted}
use Rattle.tidy_printed.proofs.Statements.{loaded, loop}
use Rattle.tidy_printed.proofs.TidiedTerms.{argument, written, maps_are}

module _ {A : Type 0} (l : Launch) (item : ℕ) (ins : ℕ → Marks) (num : A → ℕ) (tidy : Change) (keeps : KeepsValues tidy l) (in_launch : item < item_count l) where
  along_row : (around : List Around) (ts : List ℕ) → StandsIn (ids_of l item) around ts → (env : ℕ → Marks) (a : ℕ) (n : Count) (t : Term A) (w : Marks) (code rest : Code)
      → IsAlongRow l item ins num ts env a n t w code rest → IsAlongRow l item ins num ts env a n t w (tidied_code tidy around code) (tidied_code tidy around rest)
  along_row around ts stands env a n (Reshape y t) w code rest h = (h.0, along_row around ts stands env a n t (λ cs q. w cs (result_position num y q)) code rest h.1)
  along_row around ts stands env a n (Map (Over level.Launch X) len loads xs b) w code rest h = (
    tidied_code tidy around h.0,
    argument l item ins num tidy keeps in_launch around ts stands env a n xs code h.0 h.1,
    maps_are l item ins num tidy around ts Looped (Over level.Launch X) (num len) env (a + private_count xs) (more n (variable_count xs)) loads (argument_marks l ins num env a xs) w b h.0 rest keeps in_launch stands h.2,
  )
  along_row around ts stands env a n _ w code rest h = absurd h

  over_launch : (env : ℕ → Marks) (a : ℕ) (n : Count) (t : Term A) (w : Marks) (code rest : Code)
      → IsOverLaunch l item ins num env a n t w code rest → IsOverLaunch l item ins num env a n t w (tidied_code tidy [] code) (tidied_code tidy [] rest)
  over_launch env a n (Reshape y t) w code rest h = (h.0, over_launch env a n t (λ cs q. w cs (result_position num y q)) code rest h.1)
  over_launch env a n (LetArray v b) w code rest h = (
    tidied_code tidy [] h.0,
    argument l item ins num tidy keeps in_launch [] [] tt env a n v code h.0 h.1,
    over_launch (push (argument_marks l ins num env a v) env) (a + private_count v) (more n (variable_count v)) b w h.0 rest h.2,
  )
  over_launch env a n (Map (Over level.Launch X) len loads xs b) w code rest h = along_row [] [] tt env a n (Map (Over level.Launch X) len loads xs b) w code rest h
  over_launch env a n (Map (Over level.Launch Y) len loads xs b) w code rest h =
      let x = argument_marks l ins num env a xs in
      let m = more n (variable_count xs) in
      let inner_env : ℕ → ℕ → Marks = λ i. push (loaded_marks loads (at_index i x) m) env in (
        tidied_code tidy [] h.0,
        argument l item ins num tidy keeps in_launch [] [] tt env a n xs code h.0 h.1,
        loop l item ins tidy keeps in_launch [] [] tt (Over level.Launch Y) (num len)
            (λ i body. (inner : Code) × IsLoaded l item ins ([] ++ i ∷ []) loads (at_index i x) m body inner
            × IsAlongRow l item ins num ([] ++ i ∷ []) (inner_env i) (a + private_count xs) (more m (load_count loads)) b (at_index i w) inner End)
            h.0 rest
            (λ bound i body at turn. (
              tidied_code tidy (InLoop bound ∷ []) turn.0,
              loaded l item ins tidy keeps in_launch (InLoop bound ∷ []) (i ∷ []) at loads (at_index i x) m body turn.0 turn.1,
              along_row (InLoop bound ∷ []) (i ∷ []) at (inner_env i) (a + private_count xs) (more m (load_count loads)) b (at_index i w) turn.0 End turn.2,
            ))
            h.2,
      )
  over_launch env a n _ w code rest h = absurd h

pub code_is : TidiedCodesArePrinted (List Monomial)
code_is l ins num tidy t ty code keeps (inl h) = inl (h.0, written l 0 ins num tidy keeps (let one = h.0 in omega arith) [] [] tt no_marks 0 no_variables t (output_marks ty) code End h.1)
code_is l ins num tidy t ty code keeps (inr h) = inr (λ item lt. over_launch l item ins num tidy keeps lt no_marks 0 no_variables t (output_marks ty) code End (h item lt))

pub kernel_is : TidiedCodesArePrinted (List Monomial) → TidiedGroupCodesArePrinted (List Monomial) → TidiedGridCodesArePrinted (List Monomial) → TidiedKernelsArePrinted
kernel_is codes group_codes grid_codes OfItems d size bases t a l tidy k keeps h = record {
  declares = declares_too d size t a k (tidied_code tidy [] k.code) h.declares;
  code = codes l (input_marks (length_at bases) (first_buffer d.inputs) (input_shape d.inputs)) (length_at bases) tidy (lowered_root d.names t a) (ty_at bases (type_in a)) k.code keeps h.code;
}
kernel_is codes group_codes grid_codes OfGroups d size bases t a l tidy k keeps h = record {
  declares = declares_too d size t a k (tidied_code tidy [] k.code) h.declares;
  fence = h.fence;
  needed = h.needed;
  code = group_codes (length_at bases) (forms_of d.names size) l (input_marks (length_at bases) (first_buffer d.inputs) (input_shape d.inputs)) h.fence no_marks tidy (lowered_root d.names t a) (output_marks (ty_at bases (type_in a))) k.code keeps h.code;
}
kernel_is codes group_codes grid_codes OfGrids d size bases t a l tidy k keeps h = record {
  declares = declares_too d size t a k (tidied_code tidy [] k.code) h.declares;
  fence = h.fence;
  needed = h.needed;
  code = grid_codes (length_at bases) (grid_forms_of d.names size) l (input_marks (length_at bases) (first_buffer d.inputs) (input_shape d.inputs)) h.fence no_marks tidy (lowered_root d.names t a) (output_marks (ty_at bases (type_in a))) k.code keeps h.code;
}
