-- Tidy expressions of a kernel.
use Rattle.std.specs.Prelude.{ℕ, if◌then◌else◌, List, Option, Some, None}
use Rattle.size_arith.specs.declared.names.Name.{Name}
use Rattle.index_expr.specs.Expression.{Expression}
use Rattle.kernel_tree.specs.Formula.{Formula}
use Rattle.tidy_indices.specs.Formulas.{simple_formula}
use Rattle.tidy_indices.specs.declared.spans.Span.{Span}
use Rattle.tidy_indices.specs.Reading.{reading}
use Rattle.tidy_indices.specs.Spans.{span_of, narrowed}
use Rattle.tidy_indices.specs.Around.{Around}
use Rattle.tidy_indices.specs.Places.{PlainPlace, without_turns, place_of}

-- what is known of turns is of use where nothing wraps: what each is below, and how great at most
abbrev pub tidied_by : PlainPlace → Option Span → Expression → Formula
tidied_by p (Some s) e = simple_formula p.around (narrowed p.lasts e)
tidied_by p None e = simple_formula (without_turns p.around) e

-- by its reading; what spells no index expression stays
abbrev pub tidied_reading : PlainPlace → Formula → Option Expression → Formula
tidied_reading p f (Some e) = tidied_by p (span_of p.sizes p.lasts e) e
tidied_reading p f None = f

-- at a place; where a bound around spells no index expression, all stays
abbrev pub tidied_at : PlainPlace → Formula → Formula
tidied_at p f = if p.is_known then tidied_reading p f (reading f) else f

-- an index or a bound, in a kernel that asks for groups of this size, in these loops and ifs, the
-- outermost first
abbrev pub tidy_formula :
    List Name → (local : Option (ℕ × ℕ)) → List Around → Formula → Formula
tidy_formula names local around f = tidied_at (place_of names local around) f
