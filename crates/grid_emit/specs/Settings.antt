-- The forms of the maps of a kernel, as the Rust code holds what it is printed with.
use Rattle.std.specs.Prelude.{List}
use Rattle.size_arith.specs.declared.poly.Monomial.{Monomial}
use Rattle.group_form.specs.GridChosen.{grid_forms_of}
use Rattle.group_form.specs.GridTerms.{GridForms}
use Rattle.group_emit.specs.declared.setting.Setting.{Setting}

abbrev pub grid_forms_in : Setting → GridForms (List Monomial)
grid_forms_in s = grid_forms_of s.declared.names.now s.local
