-- The uses of a term can be placed.
use Rattle.std.proofs.Common.{◌≡◌, ℕ, zero, suc, ◌+◌, ◌<◌, ◌≤◌, List, [], ◌∷◌, ◌++◌, length, Bool, true, false, refl, arith}
use Rattle.std.specs.Prelude.{All}
use Rattle.lift_tree.specs.declared.term.Level.TheVariants.{Groups, Items}
use Rattle.lift_tree.specs.declared.term.Dimension.TheVariants as dimension
use Rattle.barrier_placement.specs.declared.touches.Touch.{Touch}
use Rattle.lift_ir.specs.Terms.{Over, LocalMemory, Term, Bound, Source, Both, Project, Reshape, LetArray, Map, Copy, push}
use Rattle.printed_form.specs.Counts.{local_count}
use Rattle.group_form.specs.Forms.{StandsInGroup, StandsOverGroups}
use Rattle.group_form.specs.Origins.{Origin, Elsewhere, origin_of}
use Rattle.group_form.specs.Theorem.{GroupUsesCanBePlaced}
use Rattle.group_form.specs.Uses.{Use, Destination, Locals, Outputs, argument_uses, written_uses, loop_uses, phases_in, phase_count, group_uses, touches_in, numbered}
use Rattle.group_form.proofs.Lists.{long_append}
use Rattle.group_form.proofs.Theorem.{some_phase}
use Rattle.group_form.proofs.Uses.{all_local}

pub joined : {X : Type 0} (n m : ℕ) (xs ys : List X) → length xs ≡ n → length ys ≡ m → length (xs ++ ys) ≡ n + m
joined n m xs ys e f = let a = long_append xs ys in omega arith

module _ {A : Type 0} where
  -- each phase has its uses told
  mutual
    argument_long : (t : Term A) (env : ℕ → Origin) (k : ℕ) → StandsInGroup false t → length (argument_uses env k t) ≡ phases_in t
    argument_long (Bound v) env k f = refl
    argument_long (Source a) env k f = refl
    argument_long (Both true a b) env k f = joined (phases_in a) (phases_in b) (argument_uses env k a) (argument_uses env (k + local_count a) b) (argument_long a env k f.0) (argument_long b env (k + local_count a) f.1)
    argument_long (Project s a) env k f = argument_long a env k f
    argument_long (Reshape y a) env k f = argument_long a env k f
    argument_long (LetArray v b) env k f =
        joined (phases_in v) (phases_in b) (argument_uses env k v) (argument_uses (push (origin_of env k v) env) (k + local_count v) b) (argument_long v env k f.0) (argument_long b (push (origin_of env k v) env) (k + local_count v) f.1)
    argument_long (Copy LocalMemory ty a) env k f = written_long a env k (Locals (k + local_count a) ty) true f
    argument_long _ env k f = absurd (assumption)

    written_long : (t : Term A) (env : ℕ → Origin) (k : ℕ) (d : Destination) (direct : Bool) → StandsInGroup true t → length (written_uses env k t d direct) ≡ phases_in t
    written_long (Reshape y a) env k d direct f = written_long a env k d false f.1
    written_long (LetArray v b) env k d direct f =
        joined (phases_in v) (phases_in b) (argument_uses env k v) (written_uses (push (origin_of env k v) env) (k + local_count v) b d direct) (argument_long v env k f.0) (written_long b (push (origin_of env k v) env) (k + local_count v) d direct f.1)
    written_long (Map (Over Items dimension.X) n loads xs b) env k d direct f = joined (phases_in xs) 1 (argument_uses env k xs) (loop_uses env (origin_of env k xs) loads b d direct ∷ []) (argument_long xs env k f.0) refl
    written_long _ env k d direct f = absurd (assumption)

  uses_long : (t : Term A) → StandsOverGroups t → length (group_uses t) ≡ phase_count t
  uses_long (Reshape y t) f = uses_long t f.1
  uses_long (LetArray v b) f = uses_long b f.1
  uses_long (Map (Over Groups dimension.X) n loads xs b) f = written_long b (λ v. Elsewhere) 0 Outputs false f.1
  uses_long _ f = absurd (assumption)

abbrev pub Below : ℕ → List Touch → Type 0
Below n ts = All (λ x. x.phase < n) ts

below_before : (q n : ℕ) (us : List Use) (ts : List Touch) → q < n → Below n ts → Below n (touches_in q us ++ ts)
below_before q n [] ts lt h k d kl = h k d kl
below_before q n (u ∷ us) ts lt h zero d kl = lt
below_before q n (u ∷ us) ts lt h (suc k) d kl = below_before q n us ts lt h k d (omega arith)

pub numbered_below : (q n : ℕ) (uss : List (List Use)) → q + length uss ≤ n → Below n (numbered q uss)
numbered_below q n [] le k d kl = absurd (omega arith)
numbered_below q n (us ∷ uss) le k d kl = below_before q n us (numbered (suc q) uss) (omega arith) (numbered_below (suc q) n uss (omega arith)) k d kl

pub group_uses_can_be_placed : (A : Type 0) → GroupUsesCanBePlaced A
group_uses_can_be_placed A t stands = record {
  some = some_phase t stands;
  within = numbered_below 0 (phase_count t) (group_uses t) (let e = uses_long t stands in omega arith);
  local = all_local 0 (group_uses t);
}
