-- Which maps of a map over work-groups need no loop, where the script fixes a local size.
use Rattle.std.specs.Prelude.{ℕ, pos, Bool, false, List, [], ◌∷◌, Option, Some, None, if◌then◌else◌, ◌&&◌, ◌==◌, nat_le}
use Rattle.std.specs.List.{list_all}
use Rattle.std.specs.Ordering.{int_eq}
use Rattle.size_arith.specs.declared.names.Name.{Name}
use Rattle.size_arith.specs.declared.poly.Monomial.{Monomial}
use Rattle.size_arith.specs.Shown.{largest}
use Rattle.group_form.specs.declared.chosen.MapForm as chosen
use Rattle.group_form.specs.declared.chosen.MapForm.TheVariants as forms
use Rattle.printed_form.specs.MapForms.{MapForm, Looped, Guarded, Alone, MapForms, all_loops}

-- the polynomial is this number, whatever the sizes
abbrev pub is_literal : ℕ → List Monomial → Bool
is_literal k (m ∷ []) = int_eq m.coefficient (pos k) && list_all (λ power. power == 0) m.powers
is_literal k _ = false

-- a local map of just the size is its turn alone, and one that is shown no longer is an `if`
abbrev pub local_form : List Name → (size : ℕ) → List Monomial → MapForm
local_form names size n =
    if is_literal size n then Alone else (if nat_le (largest names n) size then Guarded else Looped)

-- by the local size, where one is fixed: a map over one work-group is an `if`
abbrev pub forms_by : List Name → Option ℕ → MapForms (List Monomial)
forms_by names None = all_loops
forms_by names (Some size) = record { local = local_form names size; once = is_literal 1 }

-- the maps along a row by its first number, the maps over rows by its second
abbrev pub forms_of : List Name → Option (ℕ × ℕ) → MapForms (List Monomial)
forms_of names None = forms_by names None
forms_of names (Some size) = forms_by names (Some size.0)

abbrev pub row_forms_of : List Name → Option (ℕ × ℕ) → MapForms (List Monomial)
row_forms_of names None = forms_by names None
row_forms_of names (Some size) = forms_by names (Some size.1)

-- a form, as the code holds it
abbrev pub form_of : chosen.MapForm → MapForm
form_of forms.Looped = Looped
form_of forms.Guarded = Guarded
form_of forms.Alone = Alone
