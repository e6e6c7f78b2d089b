-- What stands for the binders in scope.
use Rattle.std.specs.Prelude.{ℕ}
use Rattle.lift_ir.specs.Terms.{push}
use Rattle.printed_form.specs.Views.{View}
use Rattle.printed_form.specs.Printer.{no_view}
use Rattle.array_views.specs.Views.{view_in}
use Rattle.item_emit.specs.declared.scope.Scope.{Scope}
use Rattle.item_emit.specs.declared.scope.Scope as scope

-- the view of each binder, counted from the nearest
abbrev pub scope_of : Scope → ℕ → View
scope_of scope.Empty = no_view
scope_of (scope.Bound' x p outer) = push (view_in x.now) (scope_of outer)
