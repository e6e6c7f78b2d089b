-- What a legal term is lowered to stands as its kind says.
use Rattle.std.proofs.Common.{◌≡◌, subst₂, sym}
use Rattle.lift_tree.specs.Annotations.{Annotation}
use Rattle.lift_tree.specs.Tree.{Tree}
use Rattle.lift_tree.specs.Typing.{Declared}
use Rattle.lift_ir.specs.Lowering.{Lowered}
use Rattle.lowered_tree.specs.Kind.{nest_kind}
use Rattle.lowered_tree.specs.Nest.{IsLegalNest}
use Rattle.lowered_tree.specs.Whole.{IsSoundTerm}
use Rattle.lowered_tree.specs.declared.kind.NestKind.{NestKind}
use Rattle.nest_premises.specs.Groups.{LegalNestsStand}
use Rattle.nest_premises.specs.Legal.{IsLegalTerm}
use Rattle.nest_premises.specs.Stands.{StandsAs}
use Rattle.printed_form.specs.Programs.{lowered_root}

pub stands : LegalNestsStand → (d : Declared) (t : Tree) (n : Annotation) (root : Lowered) → IsSoundTerm d t n → IsLegalNest t n → (kind : NestKind) → nest_kind t ≡ kind → root ≡ lowered_root d.names t n → StandsAs kind root
stands law d t n root is nest kind told lowered =
    let legal : IsLegalTerm d t n = record {
      declared = is.declared;
      nodes = is.nodes;
      output = is.output;
      within = is.within;
      words = is.words;
      legal = nest;
    } in
    subst₂ StandsAs told (sym lowered) (law d t n legal is.copies)
