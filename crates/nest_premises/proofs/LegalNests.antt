-- Each legal nest is for one work-item, over all of them, over work-groups, or over rows of these.
use Rattle.std.proofs.Common.{◌≡◌, Bool, true, false, [], refl, ap, subst}
use Rattle.lift_tree.specs.Tree.{Tree}
use Rattle.lift_tree.specs.Typing.{Declared}
use Rattle.lift_tree.specs.Annotations.{Annotation}
use Rattle.printed_form.specs.Programs.{lowered_root}
use Rattle.lowered_tree.specs.Around.{at_root}
use Rattle.lowered_tree.specs.Kinds.{is_task}
use Rattle.lowered_tree.specs.Copies.{CopiesArrays}
use Rattle.nest_premises.specs.Legal.{IsLegalTerm}
use Rattle.lowered_tree.specs.Kind.{nest_kind}
use Rattle.nest_premises.specs.Laws.{LegalTermsCanBeLowered, LegalTermsKeepFours, UngroupedTermsArePrintable}
use Rattle.lowered_tree.specs.declared.kind.NestKind.{NestKind}
use Rattle.lowered_tree.specs.declared.kind.NestKind.TheVariants.{Task, OverLaunch, OverGroups, OverGrid}
use Rattle.group_form.specs.Forms.{StandsOverGroups}
use Rattle.group_form.specs.GridTerms.{StandsOverGrid}
use Rattle.nest_premises.specs.Printable.{IsPrintable, printer_of}
use Rattle.nest_premises.specs.Stands.{StandsAs}
use Rattle.nest_premises.specs.Groups.{LegalNestsStand, LegalGroupsStandOverGroups, LegalGridsStandOverGrids, LegalTermsArePrintable}
use Rattle.nest_premises.proofs.Known.{Known}
use Rattle.nest_premises.proofs.OverGroups.{over_groups}
use Rattle.nest_premises.proofs.OverGrid.{over_grid}

module _ (known : Known) (d : Declared) (t : Tree) (n : Annotation) (r : IsLegalTerm d t n) (copies : CopiesArrays t n) where
  no_task : (nest_kind t ≡ Task → ⊥) → is_task t ≡ false
  no_task e = go (is_task t) refl
    where
      go : (x : Bool) → is_task t ≡ x → x ≡ false
      go true z = absurd (e ((known.kinds d t n r copies).1 z))
      go false z = refl

  groups : nest_kind t ≡ OverGroups → StandsOverGroups (lowered_root d.names t n)
  groups e = over_groups known d (at_root t) [] t n r.nodes (known.unbroken t n r.legal) (known.lowerable d t n r copies).staged (no_task (λ z. absurd (cc))) refl refl refl (λ p. p) e

  grid : nest_kind t ≡ OverGrid → StandsOverGrid (lowered_root d.names t n)
  grid e = over_grid known d (at_root t) [] t n r.nodes (known.unbroken t n r.legal) (known.lowerable d t n r copies).staged (no_task (λ z. absurd (cc))) refl refl (λ p. p) e

  stand : StandsAs (nest_kind t) (lowered_root d.names t n)
  stand = go (nest_kind t) refl
    where
      go : (k : NestKind) → nest_kind t ≡ k → StandsAs k (lowered_root d.names t n)
      go Task e = known.tasks d t n r copies e
      go OverLaunch e = known.launches d t n r copies e
      go OverGroups e = groups e
      go OverGrid e = grid e

pub legal_nests_stand : Known → LegalNestsStand
legal_nests_stand known d t n r copies = stand known d t n r copies

pub legal_groups_stand_over_groups : LegalTermsCanBeLowered → LegalTermsKeepFours → LegalNestsStand → LegalGroupsStandOverGroups
legal_groups_stand_over_groups lowerable fours nests d t n r copies e =
    let stands : StandsOverGroups (lowered_root d.names t n) = subst (λ k. StandsAs k (lowered_root d.names t n)) e (nests d t n r copies) in
    record { can = lowerable d t n r copies; stands = stands; at_launch = λ local bases l launch. stands; fours = fours d t n r copies }

pub legal_grids_stand_over_grids : LegalTermsCanBeLowered → LegalTermsKeepFours → LegalNestsStand → LegalGridsStandOverGrids
legal_grids_stand_over_grids lowerable fours nests d t n r copies e =
    let stands : StandsOverGrid (lowered_root d.names t n) = subst (λ k. StandsAs k (lowered_root d.names t n)) e (nests d t n r copies) in
    record { can = lowerable d t n r copies; stands = stands; at_launch = λ local bases l launch. stands; fours = fours d t n r copies }

pub legal_terms_are_printable : UngroupedTermsArePrintable → LegalGroupsStandOverGroups → LegalGridsStandOverGrids → LegalTermsArePrintable
legal_terms_are_printable ungrouped grouped over_rows d t n r copies = go (nest_kind t) refl
  where
    go : (k : NestKind) → nest_kind t ≡ k → IsPrintable (printer_of k) d t n
    go Task e = ungrouped d t n r copies (ap printer_of e)
    go OverLaunch e = ungrouped d t n r copies (ap printer_of e)
    go OverGroups e = grouped d t n r copies e
    go OverGrid e = over_rows d t n r copies e
