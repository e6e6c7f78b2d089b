-- Inputs that are judged to have types are proper: their scalars are few.
use Rattle.std.proofs.Common.{◌≡◌, ◌∙◌, List, [], ◌∷◌, ap, subst}
use Rattle.std.specs.Prelude.{map, Err, Ok}
use Rattle.size_arith.specs.declared.names.Name.{Name}
use Rattle.lift_tree.specs.InputTypes.{Written, Number, Pair, Array}
use Rattle.lift_tree.specs.Limits.{InputFits, HasFewScalars, HasProperInputs}
use Rattle.lift_tree.specs.Lists.{Every}
use Rattle.lift_tree.specs.Programs.{PlainInput, PlainProgram}
use Rattle.lift_tree.specs.Types.{PlainTy}
use Rattle.lift_tree.specs.Typing.{declared_by, IsDeclared}
use Rattle.lift_tree.specs.WorkedOut.{range_of, worked_out}
use Rattle.pattern_types.specs.declared.refusal.TypeRefusal.{TypeRefusal}
use Rattle.pattern_types.specs.declared.refusal.TypeRefusal.TheVariants.{IllTyped, Limit, Memory}
use Rattle.pattern_types.specs.Judged.{inputs_judged}
use Rattle.pattern_types.specs.Judgement.{JudgedInputsAreProper}
use Rattle.pattern_types.proofs.Fitted.{fault_in, judges_inputs}
use Rattle.pattern_types.proofs.Inputs.{inputs_right}
use Rattle.pattern_types.proofs.Judging.{Comes}
use Rattle.pattern_types.proofs.Results.{and_ok}
use Rattle.pattern_types.proofs.Whole.{is_declared}

few_scalars : (names : List Name) (ty : Written) → InputFits names ty → HasFewScalars names (worked_out names ty)
few_scalars names Number h = tt
few_scalars names (Pair a b) h = (few_scalars names a h.0, few_scalars names b h.1)
few_scalars names (Array a parts) h = h.2.scalars

all_few : (names : List Name) (is : List PlainInput) → Every (λ (i : PlainInput). InputFits names i.ty) is
    → Every (HasFewScalars names) (map (λ (i : PlainInput). worked_out names i.ty) is)
all_few names [] h = tt
all_few names (i ∷ is) h = (few_scalars names i.ty h.0, all_few names is h.1)

pub within_limits_is_proper : (p : PlainProgram) → IsDeclared (declared_by p)
    → Every (λ (i : PlainInput). InputFits (map range_of p.sizes) i.ty) p.inputs → HasProperInputs p
within_limits_is_proper p declared h =
    record { declared = declared; scalars = all_few (declared_by p).names p.inputs h }

pub inputs_fit : (p : PlainProgram) (types : List PlainTy) → IsDeclared (declared_by p) → inputs_judged (map range_of p.sizes) 0 p.inputs ≡ Ok types
    → Every (λ (i : PlainInput). InputFits (map range_of p.sizes) i.ty) p.inputs
inputs_fit p types declared is =
    let names = map range_of p.sizes in
    let comes =
    subst (Comes fault_in (Every (λ (x : PlainInput). InputFits names x.ty) p.inputs) (map (λ (x : PlainInput). worked_out names x.ty) p.inputs)) is
    (judges_inputs names 0 p.inputs declared.inputs).comes in
    comes.1

pub judged_inputs_are_proper : JudgedInputsAreProper
judged_inputs_are_proper p t n few are shapes h =
    let judged = and_ok (inputs_judged (map range_of p.sizes) 0 p.inputs) _ n h in
    let declared = is_declared p judged.0 few are shapes judged.1 in
    within_limits_is_proper p declared (inputs_fit p judged.0 declared judged.1)

-- ---- the inputs of a program, judged alone
module _ (p : PlainProgram) (names : List Name) (is : List PlainInput) (same : names ≡ (declared_by p).names) (all : is ≡ p.inputs) where
  -- they are those that it declares
  pub as_declared : (types : List PlainTy) → inputs_judged names 0 is ≡ Ok types → types ≡ (declared_by p).inputs
  as_declared types judged =
      (inputs_right names 0 is types judged).0
      ∙ ap (λ (ns : List Name). map (λ (i : PlainInput). worked_out ns i.ty) is) same ∙ ap (map (λ (i : PlainInput). worked_out (declared_by p).names i.ty)) all

  -- and where they have types within the limits, they aren't refused
  pub not_refused : (e : TypeRefusal) → IsDeclared (declared_by p) → Every (λ (i : PlainInput). InputFits (declared_by p).names i.ty) p.inputs → inputs_judged names 0 is ≡ Err e → ⊥
  not_refused e declared within judged =
      let same_judged : inputs_judged (declared_by p).names 0 p.inputs ≡ Err e = subst (λ (ns : List Name). inputs_judged ns 0 p.inputs ≡ Err e) same (subst (λ (js : List PlainInput). inputs_judged names 0 js ≡ Err e) all judged) in
      go e (subst (Comes fault_in (Every (λ (x : PlainInput). InputFits (declared_by p).names x.ty) p.inputs) (declared_by p).inputs) same_judged (judges_inputs (declared_by p).names 0 p.inputs declared.inputs).comes)
    where
      go : (e : TypeRefusal) → Comes fault_in (Every (λ (x : PlainInput). InputFits (declared_by p).names x.ty) p.inputs) (declared_by p).inputs (Err e) → ⊥
      go (IllTyped s r) c = c
      go (Limit l s n) c = c within
      go Memory c = c
