-- The demo's launch is admissible.
use Rattle.std.proofs.Common.{ℕ, zero, suc, [], ◌∷◌, refl, ap, arith, subst, pos}
use Rattle.std.proofs.lemmas.Option.{same_Some}
use Rattle.size_arith.specs.Ranges.{Admissible}
use Rattle.lift_tree.specs.Types.{HasType, HaveTypes}
use Rattle.lift_tree.specs.Typing.{declared_by}
use Rattle.lift_tree.specs.Values.{array}
use Rattle.demo_program.specs.Accepted.{demo_program}
use Rattle.demo_program.specs.Admitted.{MayRun}
use Rattle.demo_program.specs.Data.{demo_given, words_from}
use Rattle.demo_program.proofs.Words.{length_words, words_fit}

bases_are : Admissible (declared_by demo_program).names (64 ∷ [])
bases_are = ((omega arith, omega arith), tt)

words_have_their_type : (seed : ℕ) → HaveTypes (64 ∷ []) (declared_by demo_program).inputs (array (words_from seed 0 4096) ∷ [])
words_have_their_type seed zero a is =
    subst (λ b. HasType (64 ∷ []) b (array (words_from seed 0 4096))) (same_Some _ _ is)
    (words_from seed 0 4096, refl, ap pos (length_words seed 0 4096), words_fit (64 ∷ []) seed 0 4096)
words_have_their_type seed (suc n) a is = absurd (cc (is))

pub may_run : (seed : ℕ) → MayRun (demo_given seed)
may_run seed = record {
  world = record { bases = bases_are; sizes = refl; inputs = words_have_their_type seed };
  launch = record {
    sizes = bases_are;
    local_least = (omega arith, omega arith);
    local_most = omega arith;
    global_least = (omega arith, omega arith);
    global_most = omega arith;
    divides = (refl, refl);
    fixed = tt;
    alone = λ task. absurd (cc (task));
    flat = λ row. refl;
  };
}
