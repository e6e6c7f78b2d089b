-- Legal terms can be lowered and printed.
use Rattle.std.proofs.Common.{◌≡◌, ℕ, ◌<◌, ◌^◌, Bool, true, false, List, [], ◌∷◌, refl, sym, ◌∙◌, subst, inl, inr}
use Rattle.std.specs.Prelude.{◌↔◌, ◌⊎◌, ◌&&◌, not}
use Rattle.size_arith.specs.Ranges.{Admissible, leasts}
use Rattle.size_arith.proofs.LeastSizes.{leasts_are_admissible}
use Rattle.lift_tree.specs.Tree.{Tree}
use Rattle.lift_tree.specs.Types.{PlainTy, IsInput, IsOutput, is_element}
use Rattle.lift_tree.specs.Lists.{Every}
use Rattle.lift_tree.specs.Limits.{HasFewScalars}
use Rattle.lift_tree.specs.Typing.{Declared}
use Rattle.lift_tree.specs.Annotations.{Annotation, type_in}
use Rattle.lift_tree.proofs.WithinLimits.{all_few}
use Rattle.lift_ir.specs.Types.{IsFlat, IsShort, IsPlaced, size}
use Rattle.lift_ir.specs.AtLaunch.{length_at, shape_of}
use Rattle.lift_ir.specs.Forms.{Stands, StandsOverLaunch}
use Rattle.lift_ir.specs.Fours.{KeepsFours}
use Rattle.lift_ir.specs.Lowering as ir
use Rattle.lift_ir.specs.Lowerable.{IsStaged}
use Rattle.lift_ir.specs.Owner.{is_in_rows}
use Rattle.lift_ir.proofs.Typed.{output_flat}
use Rattle.lift_ir.proofs.Values.{shape_is}
use Rattle.printed_form.specs.Programs.{lowered_root}
use Rattle.group_form.specs.Kernels.{OfItems}
use Rattle.lowered_tree.specs.Around.{at_root}
use Rattle.lowered_tree.specs.Kinds.{is_task, has_rows}
use Rattle.lowered_tree.specs.Copies.{CopiesArrays}
use Rattle.nest_premises.specs.Legal.{IsLegalTerm}
use Rattle.lowered_tree.specs.Kind.{nest_kind}
use Rattle.lowered_tree.specs.declared.kind.NestKind.{NestKind}
use Rattle.lowered_tree.specs.declared.kind.NestKind.TheVariants.{Task, OverLaunch, OverGroups, OverGrid}
use Rattle.nest_premises.specs.Printable.{CanBeLowered, IsPrintable, printer_of, printer_for}
use Rattle.nest_premises.specs.Laws.{LegalTermsCanBeLowered, LegalTermsKeepFours, KindsTellTasks, UngroupedTermsArePrintable, TasksArePrintable, LaunchesArePrintable, LegalNestsAreUnbroken, TasksStand, LaunchesStand, RowsAreOnTop, TermsAskForRows}
use Rattle.nest_premises.specs.Unbroken.{AllUnbroken}
use Rattle.nest_premises.proofs.Fits.{Fits}
use Rattle.nest_premises.proofs.Fours.{keeps_fours}
use Rattle.nest_premises.proofs.Paired.{inputs_paired}
use Rattle.nest_premises.proofs.Rules.{all_unbroken}
use Rattle.nest_premises.proofs.Staged.{written}
use Rattle.nest_premises.proofs.Lowerable.{written_lowerable}
use Rattle.nest_premises.proofs.Stands.{written_stands}
use Rattle.nest_premises.proofs.Top.{IsSpread, kind_of_task, spread_no_task, task_of_kind}
use Rattle.nest_premises.proofs.Rows.{task_no_rows, none_on_top, one_on_top}
use Rattle.nest_premises.proofs.Launches.{over_launch}
use Rattle.nest_premises.proofs.Limited.{IsFew, few_all, short, small, fits_in}

-- ---- a legal term

module _ (d : Declared) (t : Tree) (n : Annotation) (r : IsLegalTerm d t n) (copies : CopiesArrays t n) where
  unbroken : AllUnbroken (at_root t) t n
  unbroken = all_unbroken (at_root t) t n r.legal

  scalars : Every (HasFewScalars d.names) d.inputs
  scalars = all_few d.names d.inputs r.within.inputs

  limited : (bases : List ℕ) (ok : Admissible d.names bases) → Fits bases t n × IsFew d r.declared scalars bases ok (type_in n)
  limited bases ok = fits_in d r.declared scalars bases ok [] t n tt tt r.nodes r.within.nodes r.words

  -- at the least sizes, and so at all
  staged : IsStaged ir.Written t n
  staged = written d r.declared.arrays (leasts d.names) (is_element (type_in n)) (at_root t) [] t n r.nodes unbroken copies (limited (leasts d.names) (leasts_are_admissible d.names r.declared.names)).0 refl refl

  placed : (bases : List ℕ) (ok : Admissible d.names bases) (a : PlainTy) → IsOutput a → IsFew d r.declared scalars bases ok a → IsPlaced (length_at bases) (shape_of a)
  placed bases ok a o h =
      let e = sym (shape_is bases a) in
      record {
        flat = subst IsFlat e (output_flat bases a o);
        short = subst IsShort e (short d r.declared scalars bases ok a h);
        small = subst (λ z. size z < 2 ^ 31) e (small d r.declared scalars bases ok a h);
      }

  all_placed : (bases : List ℕ) (ok : Admissible d.names bases) (tys : List PlainTy) → Every IsInput tys → Every (IsFew d r.declared scalars bases ok) tys → Every (λ b. IsPlaced (length_at bases) (shape_of b)) tys
  all_placed bases ok [] o h = tt
  all_placed bases ok (a ∷ tys) o h = (placed bases ok a o.0 h.0, all_placed bases ok tys o.1 h.1)

  lowered : CanBeLowered d t n
  lowered = record {
    staged = staged;
    lowerable = λ bases ok. record { declared = r.declared; nodes = r.nodes; output = r.output; lowerable = written_lowerable d bases (at_root t) [] t n r.nodes unbroken (limited bases ok).0 staged refl };
    fits = λ bases ok. (placed bases ok (type_in n) r.output (limited bases ok).1, all_placed bases ok d.inputs r.declared.arrays (few_all d r.declared scalars bases ok d.inputs r.declared.inputs scalars));
  }

  -- its vectors are loaded and stored as such
  fours : KeepsFours (lowered_root d.names t n)
  fours = keeps_fours d (inputs_paired d.inputs r.declared.arrays) t n r.nodes unbroken copies staged

  one_item : is_task t ≡ true → Stands true (lowered_root d.names t n)
  one_item z = written_stands d (at_root t) [] t n r.nodes unbroken staged z refl

  all_items : nest_kind t ≡ OverLaunch → StandsOverLaunch (lowered_root d.names t n)
  all_items e = over_launch d (at_root t) [] t n r.nodes unbroken staged (spread_no_task t (λ z. absurd (cc))) refl (λ p. p) e

  -- what is lowered can be printed, where it has the forms of their places
  task : is_task t ≡ true → IsPrintable OfItems d t n
  task z = record { can = lowered; stands = inl (one_item z); at_launch = λ local bases l k. inl (k.admissible.alone z, one_item z); fours = fours }

  launch : nest_kind t ≡ OverLaunch → IsPrintable OfItems d t n
  launch e = record { can = lowered; stands = inr (all_items e); at_launch = λ local bases l k. inr (all_items e); fours = fours }

  -- at the root
  kind : (nest_kind t ≡ Task) ↔ (is_task t ≡ true)
  kind = (λ e. go (is_task t) refl e, kind_of_task t)
    where
      go : (x : Bool) → is_task t ≡ x → nest_kind t ≡ Task → is_task t ≡ true
      go true z e = z
      go false z e = task_of_kind d (at_root t) [] t n r.nodes unbroken staged refl z refl refl refl e

  -- by no groups
  for_items : printer_for t ≡ OfItems → IsPrintable OfItems d t n
  for_items e = go (nest_kind t) refl e
    where
      go : (k : NestKind) → nest_kind t ≡ k → printer_of k ≡ OfItems → IsPrintable OfItems d t n
      go Task i e = task (kind.0 i)
      go OverLaunch i e = launch i
      go OverGroups i e = absurd (cc)
      go OverGrid i e = absurd (cc)

  -- rows
  told : is_in_rows (lowered_root d.names t n) ≡ has_rows t
  told = go (has_rows t) refl
    where
      spread : has_rows t ≡ true → IsSpread t
      spread e i = let no = task_no_rows t (kind.0 i) in absurd (cc)

      go : (x : Bool) → has_rows t ≡ x → is_in_rows (lowered_root d.names t n) ≡ has_rows t
      go true e = one_on_top d (at_root t) [] t n r.nodes unbroken staged e refl (spread e) ∙ sym e
      go false e = none_on_top d t n staged e ∙ sym e

  asked : is_in_rows (lowered_root d.names t n) ≡ false → (is_task t ≡ true) ⊎ ((not (is_task t) && not (has_rows t)) ≡ true)
  asked e = go (is_task t) (has_rows t) (sym told ∙ e)
    where
      go : (x y : Bool) → y ≡ false → (x ≡ true) ⊎ ((not x && not y) ≡ true)
      go true y e = inl refl
      go false true e = absurd (cc)
      go false false e = inr refl

pub legal_terms_can_be_lowered : LegalTermsCanBeLowered
legal_terms_can_be_lowered d t n r copies = lowered d t n r copies

pub legal_terms_keep_fours : LegalTermsKeepFours
legal_terms_keep_fours d t n r copies = fours d t n r copies

pub kinds_tell_tasks : KindsTellTasks
kinds_tell_tasks d t n r copies = kind d t n r copies

pub ungrouped_terms_are_printable : UngroupedTermsArePrintable
ungrouped_terms_are_printable d t n r copies e = for_items d t n r copies e

pub tasks_are_printable : TasksArePrintable
tasks_are_printable d t n r copies z = task d t n r copies z

pub launches_are_printable : LaunchesArePrintable
launches_are_printable d t n r copies e = launch d t n r copies e

pub legal_nests_are_unbroken : LegalNestsAreUnbroken
legal_nests_are_unbroken t n h = all_unbroken (at_root t) t n h

pub tasks_stand : TasksStand
tasks_stand d t n r copies e = one_item d t n r copies ((kind d t n r copies).0 e)

pub launches_stand : LaunchesStand
launches_stand d t n r copies e = all_items d t n r copies e

pub rows_are_on_top : RowsAreOnTop
rows_are_on_top d t n r copies = told d t n r copies

pub terms_ask_for_rows : TermsAskForRows
terms_ask_for_rows d t n local r copies e = asked d t n r copies e
