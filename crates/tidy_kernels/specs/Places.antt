-- The pass with what is known at each place, which hangs on the loops and ifs around.
use Rattle.kernel_tree.specs.Code.{Code, End, Performs, Loops, Guards}
use Rattle.tidy_indices.specs.Places.{PlainPlace, inside, guarded}
use Rattle.tidy_indices.specs.Tidy.{tidied_at}
use Rattle.tidy_kernels.specs.Pass.{with_index}

-- `outermost` is outside of all loops and ifs
abbrev pub tidied_in : (outermost here : PlainPlace) → Code → Code
tidied_in outermost here End = End
tidied_in outermost here (Performs s after) =
    Performs (with_index (tidied_at here) s) (tidied_in outermost here after)
tidied_in outermost here (Loops s b c body after) =
    Loops s (tidied_at outermost b) c (tidied_in outermost (inside here b) body)
    (tidied_in outermost here after)
tidied_in outermost here (Guards s b body after) =
    Guards s (tidied_at outermost b) (tidied_in outermost (guarded here s b) body)
    (tidied_in outermost here after)
