-- The types that a program's term is judged to have are its types.
use Rattle.std.proofs.Common.{◌≡◌, ◌≤◌, List, [], ◌∷◌, length, sym, ap, ◌∙◌, subst}
use Rattle.std.specs.Prelude.{IsTrue, Result, Ok, Err, map}
use Rattle.std.proofs.lemmas.Bool.{and_parts}
use Rattle.size_arith.specs.declared.names.Name.{Name}
use Rattle.size_arith.specs.Ranges.{AreNames}
use Rattle.lift_tree.specs.InputTypes as written
use Rattle.lift_tree.specs.InputTypes.{Written}
use Rattle.lift_tree.specs.Types.{PlainTy, U32, U32x4, PairOf, ArrayOf, AreNumbers, HoldsElements, IsInput, IsOutput, IsFormed, are_numbers, holds_elements}
use Rattle.lift_tree.specs.Typing.{Declared, declared_by, IsDeclared}
use Rattle.lift_tree.specs.WorkedOut.{range_of, worked_out}
use Rattle.lift_tree.specs.Programs.{PlainInput, PlainProgram}
use Rattle.lift_tree.specs.Lists.{Every}
use Rattle.lift_tree.specs.Annotations.{Annotation, Annotates, type_in}
use Rattle.lift_tree.proofs.Members.{length-map}
use Rattle.pattern_types.specs.declared.refusal.Rule.TheVariants as rule
use Rattle.pattern_types.specs.declared.fault.NodeFault.{NodeFault}
use Rattle.lift_tree.specs.Belonging.{Belongs, IsElementType, HoldsElementTypes, IsInputType}
use Rattle.pattern_types.specs.Tests.{is_output}
use Rattle.pattern_types.specs.Judged.{demand, here, at_node, judged, inputs_judged, output_judged}
use Rattle.pattern_types.specs.Judgement.{JudgedTypesAreRight}
use Rattle.pattern_types.proofs.Results.{yes, and_ok, demand_ok, here_ok}
use Rattle.pattern_types.proofs.Table.{IsGood, good_formed}
use Rattle.pattern_types.proofs.Right.{judged_right}
use Rattle.pattern_types.proofs.Inputs.{inputs_right}

at_node_ok : (r : Result Annotation NodeFault) (a : Annotation) → at_node r ≡ Ok a → r ≡ Ok a
at_node_ok (Ok b) a h = let e : b ≡ a = cc in ap Ok e
at_node_ok (Err e) a h = absurd (cc)

same_node : (n m : Annotation) → yes NodeFault n ≡ Ok m → n ≡ m
same_node n m h = cc

numbers_so : (a : PlainTy) → IsTrue (are_numbers a) → AreNumbers a
numbers_so U32 h = tt
numbers_so U32x4 h = absurd (cc)
numbers_so (PairOf a b) h = let p = and_parts (are_numbers a) (are_numbers b) h in (numbers_so a p.0, numbers_so b p.1)
numbers_so (ArrayOf a n) h = absurd (cc)

holds_so : (a : PlainTy) → IsTrue (holds_elements a) → HoldsElements a
holds_so U32 h = tt
holds_so U32x4 h = tt
holds_so (PairOf a b) h = let p = and_parts (are_numbers a) (are_numbers b) h in (numbers_so a p.0, numbers_so b p.1)
holds_so (ArrayOf a n) h = holds_so a h

output_so : (a : PlainTy) → IsTrue (is_output a) → IsOutput a
output_so U32 h = absurd (cc)
output_so U32x4 h = absurd (cc)
output_so (PairOf a b) h = absurd (cc)
output_so (ArrayOf a n) h = holds_so a h

pub every_formed : (names : List Name) (types : List PlainTy) → Every (IsGood names) types → Every (IsFormed names) types
every_formed names [] h = tt
every_formed names (a ∷ types) h = (good_formed names a h.0, every_formed names types h.1)

-- an input's type, worked out
element_type : (names : List Name) (w : Written) → IsElementType w → AreNumbers (worked_out names w)
element_type names written.Number h = tt
element_type names (written.Pair v w) h = (element_type names v h.0, element_type names w h.1)
element_type names (written.Array w n) h = absurd h

holds_types : (names : List Name) (w : Written) → HoldsElementTypes w → HoldsElements (worked_out names w)
holds_types names written.Number h = tt
holds_types names (written.Pair v w) h = (element_type names v h.0, element_type names w h.1)
holds_types names (written.Array w n) h = holds_types names w h

input_type : (names : List Name) (w : Written) → IsInputType w → IsInput (worked_out names w)
input_type names written.Number h = absurd h
input_type names (written.Pair v w) h = absurd h
input_type names (written.Array w n) h = holds_types names w h

all_inputs : (names : List Name) (is : List PlainInput) → Every (λ (i : PlainInput). IsInputType i.ty) is
    → Every IsInput (map (λ (i : PlainInput). worked_out names i.ty) is)
all_inputs names [] h = tt
all_inputs names (i ∷ is) h = (input_type names i.ty h.0, all_inputs names is h.1)

-- the sizes are proper, and the inputs judged to have types
pub is_declared : (p : PlainProgram) (types : List PlainTy) → length p.sizes ≤ 8 → AreNames (map range_of p.sizes)
    → Every (λ (i : PlainInput). IsInputType i.ty) p.inputs → inputs_judged (map range_of p.sizes) 0 p.inputs ≡ Ok types → IsDeclared (declared_by p)
is_declared p types few are shapes h =
    let names = map range_of p.sizes in
    let r = inputs_right names 0 p.inputs types h in
    record {
      few = subst (λ z. z ≤ 8) (sym (length-map range_of p.sizes)) few;
      names = are;
      arrays = all_inputs names p.inputs shapes;
      inputs = subst (Every (IsFormed names)) r.0 (every_formed names types r.1);
    }

pub judged_types_are_right : JudgedTypesAreRight
judged_types_are_right p t n few are shapes fit belongs h =
    let names = map range_of p.sizes in
    let a = and_ok (inputs_judged names 0 p.inputs) _ n h in
    let r = inputs_right names 0 p.inputs a.0 a.1 in
    let d : Declared = record { names = names; inputs = a.0 } in
    let c = and_ok (judged d [] t) output_judged n (at_node_ok _ n a.2) in
    let o = and_ok (here (demand (is_output (type_in c.0)) rule.Output)) _ n c.2 in
    let e = same_node c.0 n o.2 in
    let i : length a.0 ≡ length p.inputs = ap length r.0 ∙ length-map (λ (x : PlainInput). worked_out names x.ty) p.inputs in
    let b = subst (λ z. Belongs z (length a.0) 0 t) (sym (length-map range_of p.sizes)) (subst (λ z. Belongs (length p.sizes) z 0 t) (sym i) belongs) in
    let j = judged_right d r.1 [] t c.0 tt fit b c.1 in
    let m = subst (λ z. Annotates d [] t z) e j.0 in
    record {
      declared = is_declared p a.0 few are shapes a.1;
      nodes = subst (λ z. Annotates (record { names = names; inputs = z }) [] t n) r.0 m;
      output = subst (λ z. IsOutput (type_in z)) e (output_so (type_in c.0) (demand_ok _ _ o.0 (here_ok _ o.0 o.1)));
    }
