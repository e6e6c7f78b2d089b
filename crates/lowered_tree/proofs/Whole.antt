-- What is known of a typed term is known of it as it is lowered.
use Rattle.std.proofs.Common.{◌≡◌, List, subst, sym, arith}
use Rattle.std.proofs.lemmas.List.{length-map}
use Rattle.size_arith.specs.declared.names.Name.{Name}
use Rattle.lift_tree.specs.Annotations.{Annotation}
use Rattle.lift_tree.specs.Programs.{PlainInput, PlainProgram}
use Rattle.lift_tree.specs.Tree.{Tree}
use Rattle.lift_tree.specs.Types.{PlainTy}
use Rattle.lift_tree.specs.Typing.{Declared, declared_by}
use Rattle.lift_tree.specs.WorkedOut.{worked_out}
use Rattle.lift_tree.proofs.Fitting.{limits_fit}
use Rattle.lowered_tree.specs.Whole.{IsSoundTerm, IsTypedWithin}
use Rattle.lowered_tree.specs.Words.{FormsHaveWords}

-- a program's term is sound over what the program declares
pub sound : (p : PlainProgram) (t : Tree) (n : Annotation) → IsTypedWithin p t n → FormsHaveWords t → IsSoundTerm (declared_by p) t n
sound p t n typed words =
    let few = typed.few in
    let same = length-map p.inputs (λ (i : PlainInput). worked_out (declared_by p).names i.ty) in
    record {
      few = omega (arith, few, same);
      first = λ h. omega (arith, few, same);
      declared = typed.declared;
      nodes = typed.nodes;
      output = typed.output;
      within = limits_fit p t n typed.within;
      low = typed.low;
      copies = typed.copies;
      words = words;
    }

pub sound_as_lowered : (p : PlainProgram) (t u : Tree) (n m : Annotation) (names : List Name) (inputs : List PlainTy) → IsTypedWithin p t n → FormsHaveWords t → names ≡ (declared_by p).names → inputs ≡ (declared_by p).inputs → u ≡ t → m ≡ n
    → IsSoundTerm (record { names = names; inputs = inputs }) u m
sound_as_lowered p t u n m names inputs typed words own_names own_inputs own_term own_types =
    let as_declared : declared_by p ≡ record { names = names; inputs = inputs } = λ i. record { names = sym own_names i; inputs = sym own_inputs i } in
    subst (λ (d : Declared). IsSoundTerm d u m) as_declared
    (subst (λ (v : Tree). IsSoundTerm (declared_by p) v m) (sym own_term) (subst (λ (a : Annotation). IsSoundTerm (declared_by p) t a) (sym own_types) (sound p t n typed words)))
