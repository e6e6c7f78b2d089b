-- The last term of a script is typed within the limits, and copies nothing but arrays.
use Rattle.std.proofs.Common.{List, ℕ, [], length}
use Rattle.lift_tree.specs.Annotations.{annotation_of, type_in}
use Rattle.lift_tree.specs.Copies.{CopiesArrays}
use Rattle.lift_tree.specs.Programs.{program_of}
use Rattle.lift_tree.specs.Tree.{tree_of}
use Rattle.lift_tree.specs.Typing.{declared_by}
use Rattle.lift_tree.specs.declared.typed.Typed.{Typed}
use Rattle.lift_tree.proofs.Copies.{copies_arrays_however_typed, copying}
use Rattle.lift_reader.specs.TextTerms.{BodiesAreTextTerms}
use Rattle.lowered_tree.specs.Whole.{IsTypedWithin}
use Rattle.program_source.specs.SourceTerms.{IsLastTerm}
use Rattle.program_source.proofs.NoVectors.{inputs_have_none}
use Rattle.program_source.proofs.Sources.{text_copies}

last_copies : BodiesAreTextTerms → (program script : List ℕ) (t : Typed) → IsLastTerm program script t → CopiesArrays (tree_of t.term) (annotation_of t.types)
last_copies law program script t last =
    let p = program_of t.program in
    let d = declared_by p in
    let source = text_copies d (inputs_have_none d p.inputs) (length p.sizes) (length p.inputs) 0 1 [] tt p.body (type_in (annotation_of t.types)) (law program p last.read.is) last.output.typed in
    copies_arrays_however_typed d [] (tree_of t.term) (annotation_of t.types) (last.term.keeps.copies (copying d [] p.body (type_in (annotation_of t.types)) source)) last.term.typed.nodes

pub typed_within : BodiesAreTextTerms → (program script : List ℕ) (t : Typed) → IsLastTerm program script t → IsTypedWithin (program_of t.program) (tree_of t.term) (annotation_of t.types)
typed_within law program script t last = record {
  proper = last.proper;
  few = last.few;
  declared = last.term.typed.declared;
  nodes = last.term.typed.nodes;
  output = last.term.typed.output;
  within = last.within;
  low = last.low;
  copies = last_copies law program script t last;
}
