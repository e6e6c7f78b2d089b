use Rattle.std.proofs.Common.{◌≡◌, ◌∙◌, ◌≤◌, Ok, refl, subst, sym}
use Rattle.lift_tree.specs.Annotations.{Annotation}
use Rattle.lift_tree.specs.Belonging.{IsProper, IsTermOf}
use Rattle.lift_tree.specs.Programs.{program_of}
use Rattle.lift_tree.specs.Tree.{Tree, nodes, tree_of}
use Rattle.lift_tree.specs.declared.program.Program.{Program}
use Rattle.lift_tree.specs.declared.term.Term.{Term}
use Rattle.pattern_types.specs.Judged.{program_judged}
use Rattle.program_source.specs.Program.{OnProgram, StopsFor, TypesOf}
use Rattle.program_source.proofs.FewNodes.{few_nodes}
use Rattle.stages.proofs.HandedOn.{handed_on}
use Rattle.program_source.proofs.Stages.{on_program, types_stop}
use Rattle.program_source.proofs.source.typed_source.Goals as goal

pub type_of-requires-clause-term : goal.type_of-requires-clause-term
type_of-requires-clause-term c =
    subst (IsTermOf (program_of c.in_ok-program.program)) (sym c.in_ok-term.ensures) c.in_ok-program.ensures.body

-- the types are those that the program is judged to have
judged : (p q : Program) (b t : Tree) (types : Annotation) → q ≡ p → t ≡ b → b ≡ tree_of p.body → program_judged (program_of p) t ≡ Ok types → program_judged (program_of q) (tree_of q.body) ≡ Ok types
judged p q b t types program term body is =
    subst (λ (r : Program). program_judged (program_of r) (tree_of r.body) ≡ Ok types) (sym program)
    (subst (λ (u : Tree). program_judged (program_of p) u ≡ Ok types) (term ∙ body) is)

pub returns-clause-judged : goal.returns-clause-judged
returns-clause-judged c =
    judged _ _ _ _ _ c.in_ok-type_of.ensures.program.0 refl c.in_ok-term.ensures c.in_ok-type_of.ensures.types

pub returns-in_err-type_of-clause-refused : goal.returns-in_err-type_of-clause-refused
returns-in_err-type_of-clause-refused c =
    let p = program_of c.in_ok-program.program in
    handed_on (StopsFor (OnProgram c.args.text.now TypesOf)) _ _ c.from_residual-in_err-type_of.ensures.1
    (on_program c.args.text.now p TypesOf _ c.in_ok-program.ensures.found (types_stop p _ _ c.in_ok-term.ensures c.in_err-type_of.ensures.refused))

pub returns-clause-ready : goal.returns-clause-ready
returns-clause-ready c =
    let few = subst (λ (t : Tree). nodes t ≤ 4096) (sym c.in_ok-term.ensures) (few_nodes (program_of c.in_ok-program.program) c.in_ok-program.ensures.found.within) in
    c.few_nodes_are_ready.ensures c.in_ok-type_of.field-0 (subst (λ (p : Program). IsProper (program_of p)) (sym c.in_ok-type_of.ensures.program.0) c.in_ok-program.ensures.proper) c.in_ok-type_of.ensures.typed
    (subst (λ (t : Term). nodes (tree_of t) ≤ 4096) (sym c.in_ok-type_of.ensures.program.1) few)
