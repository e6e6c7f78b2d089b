-- The worked runs, computed.
use Rattle.std.proofs.Common.{◌≡◌, zero, suc, [], ◌∷◌, refl, arith}
use Rattle.kernel_tree.specs.Device.{after, write, run, IsRun, AllEnded}
use Rattle.kernel_tree.specs.Item.{next}
use Rattle.kernel_tree.specs.Launch.{MayStart}
use Rattle.worked_kernels.specs.DeviceRuns.{if_kernel, four_in_a_group, four_words_in, if_device, if_start, if_events, row_device, row_start, row_events, row_writes, vector_device, vector_start, vector_events, cells_after}

pub rows_run : IsRun row_device row_start row_events
unfolding next after
rows_run = ((omega arith, tt), ((omega arith, tt), ((omega arith, tt), ((omega arith, tt), ((omega arith, tt), ((omega arith, tt), ((omega arith, tt), ((omega arith, tt), ((omega arith, tt), ((omega arith, tt), ((omega arith, tt), ((omega arith, tt), ((omega arith, tt), ((omega arith, tt), ((omega arith, tt), ((omega arith, tt), ((omega arith, tt), ((omega arith, tt), ((omega arith, tt), ((omega arith, tt), ((omega arith, tt), ((omega arith, tt), ((omega arith, tt), ((omega arith, tt), ((omega arith, tt), ((omega arith, tt), ((omega arith, tt), ((omega arith, tt), ((omega arith, tt), ((omega arith, tt), tt))))))))))))))))))))))))))))))

pub rows_end : AllEnded row_device (run row_device row_start row_events)
unfolding next after write
rows_end zero h = refl
rows_end (suc zero) h = refl
rows_end (suc (suc zero)) h = refl
rows_end (suc (suc (suc zero))) h = refl
rows_end (suc (suc (suc (suc k)))) h = absurd (omega arith)

pub rows_left : cells_after row_device row_start row_events (0 ∷ 1 ∷ 2 ∷ 3 ∷ 4 ∷ 5 ∷ []) ≡ 2 ∷ 3 ∷ 4 ∷ 5 ∷ 6 ∷ 7 ∷ []
unfolding next after write
rows_left = refl

pub rows_written : row_writes 2 ≡ 3 ∷ 5 ∷ []
unfolding next after
rows_written = refl

pub ifs_run : IsRun if_device if_start if_events
unfolding next after
ifs_run = ((omega arith, tt), ((omega arith, tt), ((omega arith, tt), ((omega arith, tt), ((omega arith, tt), ((omega arith, tt), ((omega arith, tt), ((omega arith, tt), ((omega arith, tt), ((omega arith, tt), ((omega arith, tt), ((omega arith, tt), ((omega arith, tt), ((omega arith, tt), ((omega arith, tt), ((omega arith, tt), ((omega arith, tt), ((omega arith, tt), ((omega arith, tt), ((omega arith, tt), ((omega arith, tt), ((omega arith, tt), ((omega arith, tt), ((omega arith, tt), ((omega arith, tt), ((omega arith, tt), ((omega arith, tt), ((omega arith, tt), ((omega arith, tt), ((omega arith, tt), ((omega arith, tt), ((omega arith, tt), ((omega arith, tt), ((omega arith, tt), ((omega arith, tt), ((omega arith, tt), ((omega arith, tt), ((omega arith, tt), ((omega arith, tt), ((omega arith, tt), ((omega arith, tt), ((omega arith, tt), ((omega arith, tt), ((omega arith, tt), tt))))))))))))))))))))))))))))))))))))))))))))

pub ifs_end : AllEnded if_device (run if_device if_start if_events)
unfolding next after write
ifs_end zero h = refl
ifs_end (suc zero) h = refl
ifs_end (suc (suc zero)) h = refl
ifs_end (suc (suc (suc zero))) h = refl
ifs_end (suc (suc (suc (suc k)))) h = absurd (omega arith)

pub ifs_left : cells_after if_device if_start if_events (0 ∷ 1 ∷ 2 ∷ 3 ∷ []) ≡ 2 ∷ 3 ∷ 4 ∷ 5 ∷ []
unfolding next after write
ifs_left = refl

pub ifs_may_start : MayStart if_kernel four_in_a_group four_words_in
ifs_may_start = record {
  whole = record { x = record { positive = omega arith; divides = refl }; y = record { positive = omega arith; divides = refl } };
  small_groups = omega arith;
  few_items = omega arith;
  local = refl;
  sizes = refl;
  ins = refl;
  outs = refl;
}

pub vectors_run : IsRun vector_device vector_start vector_events
unfolding next after
vectors_run = ((omega arith, tt), ((omega arith, tt), ((omega arith, tt), ((omega arith, tt), ((omega arith, tt), ((omega arith, tt), ((omega arith, tt), ((omega arith, tt), tt))))))))

pub vectors_end : AllEnded vector_device (run vector_device vector_start vector_events)
unfolding next after write
vectors_end zero h = refl
vectors_end (suc zero) h = refl
vectors_end (suc (suc k)) h = absurd (omega arith)

pub vectors_left : cells_after vector_device vector_start vector_events (0 ∷ 1 ∷ 2 ∷ 3 ∷ 4 ∷ 5 ∷ 6 ∷ 7 ∷ []) ≡ 2 ∷ 3 ∷ 4 ∷ 5 ∷ 6 ∷ 7 ∷ 8 ∷ 9 ∷ []
unfolding next after write
vectors_left = refl
