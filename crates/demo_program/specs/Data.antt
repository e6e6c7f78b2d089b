-- The demo's launch, and its data.
use Rattle.std.specs.Prelude.{ℕ, zero, suc, List, [], ◌∷◌}
use Rattle.kernel_tree.specs.Launch.{in_a_row}
use Rattle.kernel_tree.specs.Schedule.{Seed, generated}
use Rattle.lift_tree.specs.Values.{Value, Word, array}
use Rattle.launch_file.specs.LaunchFile.{Given}

-- the states of the generator begun at the seed, in turn: so many of
-- them, from the one behind these on
unfoldable pub words_from : (seed behind count : ℕ) → List Value
words_from seed n zero = []
words_from seed n (suc count) = Word (generated seed (suc n)) ∷ words_from seed (suc n) count

-- 4096 numbers, by 256 work-items in groups of 32, under the schedule of the seed
abbrev pub demo_given : ℕ → Given
demo_given seed = record {
  launch = in_a_row 256 32 (4096 ∷ []);
  bases = 64 ∷ [];
  inputs = array (words_from seed 0 4096) ∷ [];
  schedule = Seed seed;
}
