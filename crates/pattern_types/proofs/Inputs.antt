-- Where inputs are judged to have types, these are their types, and formed.
use Rattle.std.proofs.Common.{◌≡◌, ℕ, suc, List, [], ◌∷◌, sym, ap, ◌∙◌, subst}
use Rattle.std.specs.Prelude.{Result, Ok, Err, map}
use Rattle.size_arith.specs.declared.names.Name.{Name}
use Rattle.size_arith.specs.declared.poly.Monomial.{Monomial}
use Rattle.size_arith.specs.Polynomial.{AllLow}
use Rattle.lift_tree.specs.declared.length.Part.{Part}
use Rattle.lift_tree.specs.InputTypes as written
use Rattle.lift_tree.specs.InputTypes.{Written}
use Rattle.lift_tree.specs.Programs.{PlainInput}
use Rattle.lift_tree.specs.Types.{PlainTy, U32, PairOf, ArrayOf}
use Rattle.lift_tree.specs.Typing.{constant}
use Rattle.lift_tree.specs.WorkedOut.{sum_of, with_part, worked_out}
use Rattle.lift_tree.specs.Lists.{Every}
use Rattle.pattern_types.specs.declared.fault.Fault.{Fault}
use Rattle.pattern_types.specs.declared.refusal.TypeRefusal.{TypeRefusal}
use Rattle.pattern_types.specs.Judged.{within, product_judged, sum_judged, input_judged, at_input, inputs_judged}
use Rattle.pattern_types.proofs.Results.{yes, and_ok, within_ok}
use Rattle.pattern_types.proofs.Products.{product_right}
use Rattle.pattern_types.proofs.Table.{IsGood, formed_right}

same_list : (p q : List Monomial) → yes Fault p ≡ Ok q → p ≡ q
same_list p q h = cc

same_type : (a c : PlainTy) → yes Fault a ≡ Ok c → a ≡ c
same_type a c h = cc

same_types : (a c : List PlainTy) → yes TypeRefusal a ≡ Ok c → a ≡ c
same_types a c h = cc

pub at_input_ok : (i : ℕ) (r : Result PlainTy Fault) (a : PlainTy) → at_input i r ≡ Ok a → r ≡ Ok a
at_input_ok i (Ok b) a h = let e : b ≡ a = cc in ap Ok e
at_input_ok i (Err e) a h = absurd (cc)

pub sum_right : (names : List Name) (ps : List Part) (s q : List Monomial) → AllLow 4 s → sum_judged names s ps ≡ Ok q → (q ≡ sum_of names s ps) × AllLow 4 q
sum_right names [] s q l h = let e = same_list s q h in (sym e, subst (AllLow 4) e l)
sum_right names (p ∷ ps) s q l h =
    let m = and_ok (product_judged names (constant 1) p.product) _ q h in
    let w = product_right names p.product m.0 m.1 in
    let n = and_ok (within (with_part p.sign s m.0)) _ q m.2 in
    let v = within_ok (with_part p.sign s m.0) n.0 n.1 in
    let r = sum_right names ps n.0 q v.1 n.2 in
    (r.0 ∙ ap (λ z. sum_of names z ps) (sym v.0 ∙ ap (with_part p.sign s) w.0), r.1)

pub input_right : (names : List Name) (w : Written) (a : PlainTy) → input_judged names w ≡ Ok a → (a ≡ worked_out names w) × IsGood names a
input_right names written.Number a h = let e = same_type U32 a h in (sym e, subst (IsGood names) e tt)
input_right names (written.Pair v w) a h =
    let p = and_ok (input_judged names v) _ a h in
    let x = input_right names v p.0 p.1 in
    let q = and_ok (input_judged names w) _ a p.2 in
    let y = input_right names w q.0 q.1 in
    let e = same_type (PairOf p.0 q.0) a q.2 in
    (sym e ∙ ap (λ z. PairOf z q.0) x.0 ∙ ap (λ z. PairOf (worked_out names v) z) y.0, subst (IsGood names) e (x.1, y.1))
input_right names (written.Array w n) a h =
    let p = and_ok (input_judged names w) _ a h in
    let x = input_right names w p.0 p.1 in
    let q = and_ok (sum_judged names [] n) _ a p.2 in
    let y = sum_right names n [] q.0 tt q.1 in
    let f = formed_right names p.0 a q.0 x.1 y.1 q.2 in
    (f.0 ∙ ap (λ z. ArrayOf z q.0) x.0 ∙ ap (λ z. ArrayOf (worked_out names w) z) y.0, f.1)

pub inputs_right : (names : List Name) (i : ℕ) (xs : List PlainInput) (types : List PlainTy) → inputs_judged names i xs ≡ Ok types → (types ≡ map (λ (x : PlainInput). worked_out names x.ty) xs) × Every (IsGood names) types
inputs_right names i [] types h = let e = same_types [] types h in (sym e, subst (Every (IsGood names)) e tt)
inputs_right names i (x ∷ xs) types h =
    let p = and_ok (at_input i (input_judged names x.ty)) _ types h in
    let a = input_right names x.ty p.0 (at_input_ok i (input_judged names x.ty) p.0 p.1) in
    let q = and_ok (inputs_judged names (suc i) xs) _ types p.2 in
    let r = inputs_right names (suc i) xs q.0 q.1 in
    let e = same_types (p.0 ∷ q.0) types q.2 in
    (sym e ∙ ap (λ z. z ∷ q.0) a.0 ∙ ap (λ z. worked_out names x.ty ∷ z) r.0, subst (Every (IsGood names)) e (a.1, r.1))
