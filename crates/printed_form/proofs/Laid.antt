-- Values laid in arrays: each scalar has a cell of its own.
use Rattle.std.proofs.Common.{◌≡◌, ℕ, ◌+◌, ◌<◌, ◌≤◌, Some, ap, arith}
use Rattle.kernel_tree.specs.Code.{Array, Output, Private}
use Rattle.kernel_tree.specs.Device.{Cell}
use Rattle.lift_ir.specs.Types.{Ty, IsFlat, width, component, size, flat}
use Rattle.printed_form.specs.Marks.{laid_in}
use Rattle.printed_form.specs.Runs.{Setting, spot_cell, IsOpen, Due}
use Rattle.lift_ir.proofs.Numbers.{component_below, flat_below, component_same, flat_same}

pub private_same : (m n : ℕ) → Private m ≡ Private n → m ≡ n
private_same m n e = ap number e
  where
    number : Array → ℕ
    number (Private i) = i
    number _ = 0

pub output_same : (m n : ℕ) → Output m ≡ Output n → m ≡ n
output_same m n e = ap number e
  where
    number : Array → ℕ
    number (Output i) = i
    number _ = 0

module _ (st : Setting) (form : ℕ → Array) (form_same : (m n : ℕ) → form m ≡ form n → m ≡ n) where
  -- arrays that are long enough, own and open
  pub laid_due : (a first : ℕ) (t : Ty) → IsFlat t → ((c : ℕ) → c < width t → size t ≤ st.device.lengths (form (first + c))) → ((c i : ℕ) → c < width t → i < size t → st.owners (spot_cell st (form (first + c)) i) ≡ Some st.item) → ((c : ℕ) → c < width t → IsOpen st.locals a (form (first + c))) → Due st a t (laid_in form first t)
  laid_due a first t f long own open_ = record {
    at = λ cs q w.
        let c = component_below t cs q w in
        let i = flat_below t cs q f w in
        let l = long (component t cs) c in
        (omega arith, own (component t cs) (flat t q) c i, open_ (component t cs) c);
    choices = λ cs ds q p w z e. let x = form_same (first + component t cs) (first + component t ds) (ap Cell.array e) in component_same t cs ds q p w z (omega arith);
    places = λ cs ds q p w z e. flat_same t cs ds q p f w z (ap Cell.index e);
  }
