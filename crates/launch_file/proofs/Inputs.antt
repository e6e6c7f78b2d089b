-- Inputs by their numbers.
use Rattle.std.proofs.Common.{◌≡◌, ◌∙◌, ℕ, zero, suc, ◌+◌, ◌<◌, List, [], ◌∷◌, ◌++◌, length, get_or, drop, refl, sym, ap, arith, append_assoc}
use Rattle.std.specs.Prelude.{map, Result, Ok, Err}
use Rattle.std.proofs.lemmas.List.{drop_more, map-append}
use Rattle.serde_json.specs.Data.{Data}
use Rattle.lift_tree.specs.declared.value.Val.{Val}
use Rattle.lift_tree.specs.Values.{Value, value_of}
use Rattle.launch_file.specs.declared.refusal.LaunchNo.{LaunchNo}
use Rattle.launch_file.specs.Judged.{and_then, input_judged, inputs_judged}
use Rattle.launch_file.proofs.Options.{yes}
use Rattle.lift_tree.specs.declared.program.Input.{Input}
use Rattle.lift_tree.specs.InputTypes.{written_of}
use Rattle.lift_tree.specs.Programs.{input_of}
use Rattle.launch_file.specs.Inputs.{InputsFit, TypeFits}

pub fits_at : (sizes : List ℕ) (is : List Input) (i : ℕ) (d : Input) → InputsFit sizes (map input_of is) → i < length is → TypeFits sizes (written_of (get_or is i d).ty)
fits_at sizes [] i d h l = absurd (omega arith)
fits_at sizes (x ∷ is) zero d h l = h.0
fits_at sizes (x ∷ is) (suc i) d h l = fits_at sizes is i d h.1 (omega arith)

pub input_next : (is : List Input) (i : ℕ) (d : Input) → i < length is → map input_of (drop i is) ≡ input_of (get_or is i d) ∷ map input_of (drop (i + 1) is)
input_next is i d l = ap (map input_of) (drop_more is i d l)

behind : (r : Result (List Value) LaunchNo) (w : Value) (old : List Value) → and_then (and_then r (λ vs. yes (w ∷ vs))) (λ vs. yes (old ++ vs)) ≡ and_then r (λ vs. yes ((old ++ w ∷ []) ++ vs))
behind (Ok vs) w old = ap yes (sym (append_assoc old (w ∷ []) vs))
behind (Err e) w old = refl

-- one more input is read
pub inputs_step : (sizes : List ℕ) (is : List Input) (i : ℕ) (d : Data) (old new : List Val) (x : Input) (v : Val)
    → i < length is → x ≡ get_or is i x → input_judged sizes i (input_of x) d ≡ Ok (value_of v) → new ≡ old ++ v ∷ []
    → and_then (inputs_judged sizes i (map input_of (drop i is)) d) (λ vs. yes (map value_of old ++ vs))
    ≡ and_then (inputs_judged sizes (i + 1) (map input_of (drop (i + 1) is)) d) (λ vs. yes (map value_of new ++ vs))
inputs_step sizes is i d old new x v l e h n =
    let rest = map input_of (drop (i + 1) is) in
    let here : map input_of (drop i is) ≡ input_of x ∷ rest = input_next is i x l ∙ ap (λ y. input_of y ∷ rest) (sym e) in
    let more : map value_of new ≡ map value_of old ++ value_of v ∷ [] = ap (map value_of) n ∙ map-append value_of old (v ∷ []) in
    let next : suc i ≡ i + 1 = omega arith in
    ap (λ xs. and_then (inputs_judged sizes i xs d) (λ vs. yes (map value_of old ++ vs))) here
    ∙ ap (λ r. and_then (and_then r (λ w. and_then (inputs_judged sizes (suc i) rest d) (λ vs. yes (w ∷ vs)))) (λ vs. yes (map value_of old ++ vs))) h
    ∙ behind (inputs_judged sizes (suc i) rest d) (value_of v) (map value_of old)
    ∙ ap (λ ws. and_then (inputs_judged sizes (suc i) rest d) (λ vs. yes (ws ++ vs))) (sym more)
    ∙ ap (λ k. and_then (inputs_judged sizes k rest d) (λ vs. yes (map value_of new ++ vs))) next
