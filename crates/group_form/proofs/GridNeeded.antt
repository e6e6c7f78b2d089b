-- Every run of a kernel that is printed for a map over rows of work-groups with the needed barriers
-- leaves the source value.
use Rattle.std.proofs.Common.{◌≡◌, ℕ, ◌+◌, ◌<◌, [], ◌∷◌, length, true, false, refl, sym, ◌∙◌, arith}
use Rattle.barrier_placement.specs.Conflicts as placed
use Rattle.barrier_placement.specs.Laws.{NeededBarriersSeparate}
use Rattle.lift_tree.specs.Meaning.{meaning}
use Rattle.lift_tree.specs.declared.term.Level.TheVariants.{Groups, Items}
use Rattle.lift_tree.specs.declared.term.Dimension.TheVariants.{X, Y}
use Rattle.lift_ir.specs.Scalars.{scalars_of, no_scalars, lists_of}
use Rattle.lift_ir.specs.Terms.{Over, LocalMemory, Term, Bound, Source, Both, Project, Reshape, LetArray, Map, Copy, push, no_type}
use Rattle.lift_ir.proofs.Meaning.{means}
use Rattle.lift_ir.proofs.Lists.{are_lists, lists_long}
use Rattle.printed_form.specs.Counts.{local_count}
use Rattle.group_form.specs.GridTerms.{StandsInGrid, StandsAlongGroups, StandsOverGrid, argument_uses, written_uses, row_uses, grid_uses, grid_touches}
use Rattle.group_form.specs.GridTheorem.{is_once_over, phases_along, grid_phase_count, SeparatedGridsKeep, NeededGridsKeep, NeededKeepGridsApart, GridUsesCanBePlaced}
use Rattle.group_form.specs.Origins.{Origin, Elsewhere, bent, origin_of}
use Rattle.group_form.specs.Uses.{Destination, Locals, Outputs, loop_uses, phases_in}
use Rattle.group_form.proofs.Form.{open_first}
use Rattle.group_form.proofs.Placed.{joined, numbered_below}
use Rattle.group_form.proofs.Uses.{all_local}

-- there is a phase
some_phases : {A : Type 0} (t : Term A) → StandsInGrid true t → 0 < phases_in t
some_phases (Reshape y t) f = some_phases t f.1
some_phases (LetArray v b) f = let e = some_phases b f.1 in omega arith
some_phases (Map (Over Items Y) n loads xs b) f = omega arith
some_phases _ f = absurd (assumption)

some_along : {A : Type 0} (t : Term A) → StandsAlongGroups t → 0 < phases_along t
some_along (Reshape y t) f = some_along t f.1
some_along (Map (Over Groups X) n loads xs b) f = some_phases b f.1
some_along _ f = absurd (assumption)

some_phase : {A : Type 0} (t : Term A) → StandsOverGrid t → 0 < grid_phase_count t
some_phase (Reshape y t) f = some_phase t f.1
some_phase (LetArray v b) f = some_phase b f.1
some_phase (Map (Over Groups Y) n loads xs b) f = some_along b f.1
some_phase _ f = absurd (assumption)

module _ {A : Type 0} where
  -- each phase has its uses told
  mutual
    argument_long : (t : Term A) (env : ℕ → Origin) (k : ℕ) → StandsInGrid false t → length (argument_uses env k t) ≡ phases_in t
    argument_long (Bound v) env k f = refl
    argument_long (Source a) env k f = refl
    argument_long (Both true a b) env k f = joined (phases_in a) (phases_in b) (argument_uses env k a) (argument_uses env (k + local_count a) b) (argument_long a env k f.0) (argument_long b env (k + local_count a) f.1)
    argument_long (Project s a) env k f = argument_long a env k f
    argument_long (Reshape y a) env k f = argument_long a env k f
    argument_long (LetArray v b) env k f =
        joined (phases_in v) (phases_in b) (argument_uses env k v) (argument_uses (push (origin_of env k v) env) (k + local_count v) b) (argument_long v env k f.0) (argument_long b (push (origin_of env k v) env) (k + local_count v) f.1)
    argument_long (Copy LocalMemory ty a) env k f = written_long a env k (Locals (k + local_count a) ty) f
    argument_long _ env k f = absurd (assumption)

    written_long : (t : Term A) (env : ℕ → Origin) (k : ℕ) (d : Destination) → StandsInGrid true t → length (written_uses env k t d) ≡ phases_in t
    written_long (Reshape y a) env k d f = written_long a env k d f.1
    written_long (LetArray v b) env k d f =
        joined (phases_in v) (phases_in b) (argument_uses env k v) (written_uses (push (origin_of env k v) env) (k + local_count v) b d) (argument_long v env k f.0) (written_long b (push (origin_of env k v) env) (k + local_count v) d f.1)
    written_long (Map (Over Items Y) n loads xs b) env k d f = joined (phases_in xs) 1 (argument_uses env k xs) (loop_uses env (bent (origin_of env k xs)) loads b d false ∷ []) (argument_long xs env k f.0) refl
    written_long _ env k d f = absurd (assumption)

  row_long : (t : Term A) → StandsAlongGroups t → length (row_uses t) ≡ phases_along t
  row_long (Reshape y t) f = row_long t f.1
  row_long (Map (Over Groups X) n loads xs b) f = written_long b (λ v. Elsewhere) 0 Outputs f.1
  row_long _ f = absurd (assumption)

  uses_long : (t : Term A) → StandsOverGrid t → length (grid_uses t) ≡ grid_phase_count t
  uses_long (Reshape y t) f = uses_long t f.1
  uses_long (LetArray v b) f = uses_long b f.1
  uses_long (Map (Over Groups Y) n loads xs b) f = row_long b f.1
  uses_long _ f = absurd (assumption)

pub grid_uses_can_be_placed : (A : Type 0) → GridUsesCanBePlaced A
grid_uses_can_be_placed A t stands = record {
  some = some_phase t stands;
  within = numbered_below 0 (grid_phase_count t) (grid_uses t) (let e = uses_long t stands in omega arith);
  local = all_local 0 (grid_uses t);
}

pub needed_keep_apart : NeededBarriersSeparate → (A : Type 0) → NeededKeepGridsApart A
needed_keep_apart separate A forms t fence stands needed = record {
  separates = separate (grid_touches t) placed.Local (is_once_over forms t) (grid_phase_count t) fence (all_local 0 (grid_uses t)) needed;
  opens = open_first (grid_touches t) (is_once_over forms t) (grid_phase_count t) fence (some_phase t stands) needed;
}

pub needed_grids_keep : (A : Type 0) → SeparatedGridsKeep A → NeededKeepGridsApart A → NeededGridsKeep A
needed_grids_keep A keep apart num forms l w source inputs src ins sources fence t ty k c lowers given printed needed =
    let v = meaning w [] source in
    let h = means num w src sources inputs given t 0 source no_type [] no_scalars ty lowers printed.made.typed (λ i lt. absurd (omega arith)) in
    keep num forms l src ins sources fence t ty k c (lists_of ty v) printed (apart forms t fence printed.stands needed) (lists_long ty v (scalars_of num sources no_scalars t) printed.made.flat_type h ∙ sym printed.made.outputs) (are_lists ty v (scalars_of num sources no_scalars t) printed.made.flat_type h)
