-- A tidy expression has the value of the expression, and is no larger.
use Rattle.std.proofs.Common.{◌≡◌, ℕ, Bool, true, false, Option, Some, None, List, [], refl, sym, ap, ◌∙◌, subst, arith}
use Rattle.std.specs.Prelude.{◌∷◌, if◌then◌else◌}
use Rattle.size_arith.specs.declared.names.Name.{Name}
use Rattle.size_arith.specs.Ranges.{AreNames, Admissible, sizes_at}
use Rattle.index_expr.specs.Expression.{Expression, short_nodes}
use Rattle.kernel_tree.specs.Formula.{Formula, Ids, Vars, no_vars, value, sizes_alone}
use Rattle.kernel_tree.specs.Launch.{ids_of}
use Rattle.length_spelling.specs.Turns.{turns_of}
use Rattle.length_spelling.specs.Formulas.{index_formula}
use Rattle.length_spelling.specs.Laws.{AreWords}
use Rattle.index_simplify.specs.PlainRanges.{PlainRanges}
use Rattle.index_simplify.specs.Operations.{simple}
use Rattle.index_simplify.specs.Ranges.{AreMultiples, ArePositive}
use Rattle.index_simplify.specs.Simplified.{HasWordLiterals, AreDeclared}
use Rattle.index_simplify.specs.Promises.{ExpressionsAreSimplified}
use Rattle.tidy_indices.specs.Formulas.{formula_nodes, simple_formula}
use Rattle.tidy_indices.specs.Redundant.{IsIrredundant}
use Rattle.tidy_indices.specs.Spelling.{IsNoLarger, SimpleFormulasAreIrredundant, SimpleFormulasAreNoLarger}
use Rattle.tidy_indices.specs.declared.spans.Span.{Span}
use Rattle.tidy_indices.specs.Reading.{reading, IsIndexFormula}
use Rattle.tidy_indices.specs.Spans.{span_of, narrowed}
use Rattle.tidy_indices.specs.Around.{Around, InLoop, InIf, StandsIn}
use Rattle.tidy_indices.specs.Places.{PlainPlace, ranges_outside, without_turns, in_loop_of, in_loop, inside, asked_turn, with_turn_within, in_if, within, within_all, place_of}
use Rattle.tidy_indices.specs.Tidy.{tidied_by, tidied_reading, tidied_at, tidy_formula}
use Rattle.tidy_indices.specs.Laws.{HaveIndexBounds, TidyFormulasKeepValues, TidyFormulasAreNoLarger, TidyFormulasAreIrredundant, TidyFormulasAreShort}
use Rattle.tidy_indices.proofs.Known.{Known}
use Rattle.tidy_indices.proofs.Sizes.{same_nodes}
use Rattle.tidy_indices.proofs.Items.{AreIds, of_item, of_none}
use Rattle.tidy_indices.proofs.Readings.{is_read, index_reads}
use Rattle.tidy_indices.proofs.Worths.{simple_worth}
use Rattle.tidy_indices.proofs.Intervals.{AreSizesOf, is_shown, is_ranged}
use Rattle.tidy_indices.proofs.Narrowed.{same_spelled, same_span, same_literals, are_within, same_short, are_declared}
use Rattle.tidy_indices.proofs.Turns.{Holds, place_is_of, place_holds, turns_fit, turns_up_to, are_below_lengths, multiples_at, positive_at, sizes_fit, sizes_within, sizes_divide, sizes_positive, shown_value}

-- ---- values
module _ (facts : Known) (names : List Name) (ids : Ids) (fit : AreWords ids.sizes) (sizes_are : AreSizesOf names ids.sizes) (all : AreMultiples (ranges_outside names) ids.sizes) (some : ArePositive (ranges_outside names) ids.sizes) (loops : List ℕ) (variables : Vars) (p : PlainPlace) (h : Holds names ids.sizes fit sizes_are all some p (turns_of ids loops)) (f : Formula) (n : ℕ) (is : value ids loops variables f ≡ Some n) where
  module _ (known : p.is_known ≡ true) (e : Expression) (read : reading f ≡ Some e) where
    words : AreWords (turns_of ids loops)
    words = turns_fit names ids.sizes fit sizes_are all some p.around.lengths p.lasts (turns_of ids loops) (h.known known)

    worth : value ids loops variables (index_formula e) ≡ Some n
    worth = ap (value ids loops variables) (is_read f e read).same ∙ is

    ranged_value : (s : Span) → span_of p.sizes p.lasts e ≡ Some s → value ids loops variables (simple_formula p.around (narrowed p.lasts e)) ≡ Some n
    ranged_value s span =
        let turns = turns_of ids loops in
        let it = is_read f e read in
        let up_to = turns_up_to names ids.sizes fit sizes_are all some p.around.lengths p.lasts turns (h.known known) in
        let index : Expression = narrowed p.lasts e in
        let literals : HasWordLiterals index = same_literals p.lasts e it.literals in
        let shown = is_shown names ids.sizes p.lasts turns sizes_are up_to index s literals (same_span p.lasts names e ∙ ap (λ z. span_of z p.lasts e) (sym h.is_of.sizes) ∙ span) in
        let twice : Some n ≡ Some shown.at = sym worth ∙ ap (value ids loops variables) (sym (same_spelled p.lasts e)) ∙ shown_value facts names ids p.lasts loops variables sizes_are up_to index s fit words literals shown in
        facts.simple p.around ids loops variables index shown.at fit words literals
        (record { loops = are_below_lengths names ids.sizes fit sizes_are all some p turns (h.known known); multiples = multiples_at names ids.sizes fit sizes_are all some p h.is_of; positive = positive_at names ids.sizes fit sizes_are all some p h.is_of; own = are_within p.lasts turns up_to e (it.wide turns words) })
        (is_ranged names ids.sizes p.lasts turns sizes_are up_to index s shown) shown.divisors shown.exact_is
        ∙ sym twice

    by_span : (s : Option Span) → span_of p.sizes p.lasts e ≡ s → value ids loops variables (tidied_by p s e) ≡ Some n
    by_span (Some s) span = ranged_value s span
    by_span None span = let it = is_read f e read in simple_worth facts p.around.multiples ids loops variables fit words (multiples_at names ids.sizes fit sizes_are all some p h.is_of) (positive_at names ids.sizes fit sizes_are all some p h.is_of) e n it.literals it.wide worth

  by_reading : (known : p.is_known ≡ true) (e : Option Expression) → reading f ≡ e → value ids loops variables (tidied_reading p f e) ≡ Some n
  by_reading known (Some e) read = by_span known e read (span_of p.sizes p.lasts e) refl
  by_reading known None read = is

  by_known : (b : Bool) → p.is_known ≡ b → value ids loops variables (if b then tidied_reading p f (reading f) else f) ≡ Some n
  by_known true known = by_reading known (reading f) refl
  by_known false known = is

module _ (facts : Known) (names : List Name) (bases : List ℕ) (are : AreNames names) (ok : Admissible names bases) (local : Option (ℕ × ℕ)) where
  kept : (ids : Ids) (around : List Around) (loops : List ℕ) (variables : Vars) (f : Formula) (n : ℕ) → ids.sizes ≡ sizes_at names bases → AreIds local ids → StandsIn ids around loops
      → value ids loops variables f ≡ Some n → value ids loops variables (tidy_formula names local around f) ≡ Some n
  kept ids around loops variables f n same own stands is =
      let fit = subst AreWords (sym same) (sizes_fit names bases are ok) in
      let sizes = subst (AreSizesOf names) (sym same) (sizes_within names bases are ok) in
      let divide = subst (AreMultiples (ranges_outside names)) (sym same) (sizes_divide names bases ok) in
      let positive = subst (ArePositive (ranges_outside names)) (sym same) (sizes_positive names bases are ok) in
      let p : PlainPlace = place_of names local around in
      by_known facts names ids fit sizes divide positive loops variables p (place_holds names ids.sizes fit sizes divide positive facts ids refl local around loops own stands) f n is p.is_known refl

pub keep_values : Known → TidyFormulasKeepValues
keep_values facts names bases local l are ok same at = record {
  index = λ item around loops variables f n in_launch stands is. kept facts names bases are ok local (ids_of l item) around loops variables f n same (of_item local l at item in_launch) stands is;
  bound = λ b n is. kept facts names bases are ok local (sizes_alone l.sizes) [] [] no_vars b n same (of_none local l at l.sizes) tt is;
}

-- ---- sizes
itself : (f : Formula) → IsNoLarger f f
itself f = record { declared = λ k loops h. h; constant = λ h. h; low = omega arith; nodes = omega arith }

no_larger_span : SimpleFormulasAreNoLarger → (p : PlainPlace) (e : Expression) (s : Option Span) → IsNoLarger (index_formula e) (tidied_by p s e)
no_larger_span small p e (Some s) = subst (λ z. IsNoLarger z (simple_formula p.around (narrowed p.lasts e))) (same_spelled p.lasts e) (small p.around (narrowed p.lasts e))
no_larger_span small p e None = small (without_turns p.around) e

no_larger_by : SimpleFormulasAreNoLarger → (p : PlainPlace) (f : Formula) (e : Option Expression) → reading f ≡ e → IsNoLarger f (tidied_reading p f e)
no_larger_by small p f (Some e) read = let s = span_of p.sizes p.lasts e in subst (λ z. IsNoLarger z (tidied_by p s e)) (is_read f e read).same (no_larger_span small p e s)
no_larger_by small p f None read = itself f

no_larger_at : SimpleFormulasAreNoLarger → (p : PlainPlace) (f : Formula) (b : Bool) → IsNoLarger f (if b then tidied_reading p f (reading f) else f)
no_larger_at small p f true = no_larger_by small p f (reading f) refl
no_larger_at small p f false = itself f

pub no_larger : SimpleFormulasAreNoLarger → TidyFormulasAreNoLarger
no_larger small names local around f = let p : PlainPlace = place_of names local around in no_larger_at small p f p.is_known

-- ---- in loops whose bounds are read
loop_known : (p : PlainPlace) (e : Expression) (s : Option Span) → p.is_known ≡ true → (in_loop_of p e s).is_known ≡ true
loop_known p e (Some s) h = h
loop_known p e None h = h

in_known : (p : PlainPlace) (b : Formula) → IsIndexFormula b → p.is_known ≡ true → (inside p b).is_known ≡ true
in_known p b is h =
    let read = index_reads b is in
    subst (λ z. (in_loop p z).is_known ≡ true) (sym read.1) (loop_known p read.0 (span_of p.sizes [] read.0) h)

turn_known : (p : PlainPlace) (k : ℕ) (e : Expression) (s : Option Span) → p.is_known ≡ true → (with_turn_within p k e s).is_known ≡ true
turn_known p k e (Some s) h = h
turn_known p k e None h = h

if_known : (p : PlainPlace) (k : Option ℕ) (e : Option Expression) → p.is_known ≡ true → (in_if p k e).is_known ≡ true
if_known p (Some k) (Some e) h = turn_known p k e (span_of p.sizes [] e) h
if_known p (Some k) None h = h
if_known p None e h = h

all_known : (p : PlainPlace) (around : List Around) → HaveIndexBounds around → p.is_known ≡ true → (within_all p around).is_known ≡ true
all_known p [] each h = h
all_known p (InLoop b ∷ around) each h = all_known (within p (InLoop b)) around each.1 (in_known p b each.0 h)
all_known p (InIf s b ∷ around) each h = all_known (within p (InIf s b)) around each (if_known p (asked_turn s) (reading b) h)

-- there an index is simplified, with narrower ranges or without
record IsSimplifiedHere (p : PlainPlace) (f : Formula) (e : Expression) : Type 0 where
  ranges : PlainRanges
  index : Expression
  multiples : ranges.multiples ≡ p.around.multiples
  short : short_nodes index ≡ short_nodes e
  declared : AreDeclared ranges e → AreDeclared ranges index
  same : tidied_at p f ≡ simple_formula ranges index

tidied_of : (p : PlainPlace) (f : Formula) (e : Expression) → p.is_known ≡ true → reading f ≡ Some e → (s : Option Span) → span_of p.sizes p.lasts e ≡ s → tidied_at p f ≡ tidied_by p s e
tidied_of p f e known read s span =
    ap (λ (b : Bool). if b then tidied_reading p f (reading f) else f) known ∙ ap (tidied_reading p f) read ∙ ap (λ s. tidied_by p s e) span

by_knowing : (p : PlainPlace) (f : Formula) (e : Expression) → p.is_known ≡ true → reading f ≡ Some e → (s : Option Span) → span_of p.sizes p.lasts e ≡ s → IsSimplifiedHere p f e
by_knowing p f e known read (Some s) span = record {
  ranges = p.around;
  index = narrowed p.lasts e;
  multiples = refl;
  short = same_short p.lasts e;
  declared = are_declared p.lasts p.around e;
  same = tidied_of p f e known read (Some s) span;
}
by_knowing p f e known read None span = record {
  ranges = without_turns p.around;
  index = e;
  multiples = refl;
  short = refl;
  declared = λ h. h;
  same = tidied_of p f e known read None span;
}

simplified_here : (p : PlainPlace) (f : Formula) (e : Expression) → p.is_known ≡ true → reading f ≡ Some e → IsSimplifiedHere p f e
simplified_here p f e known read = by_knowing p f e known read (span_of p.sizes p.lasts e) refl

pub irredundant : SimpleFormulasAreIrredundant → TidyFormulasAreIrredundant
irredundant plain names local around f each is =
    let read = index_reads f is in
    let here = simplified_here (place_of names local around) f read.0 (all_known _ around each refl) read.1 in
    subst IsIrredundant (sym here.same) (plain here.ranges here.index)

-- what is declared depends on what sizes are multiples of alone
declared_by : (r q : PlainRanges) (e : Expression) → r.multiples ≡ q.multiples → AreDeclared r e → AreDeclared q e
declared_by r q e same h = subst (λ ms. AreDeclared (record { lengths = q.lengths; multiples = ms }) e) same h

pub short : ExpressionsAreSimplified → TidyFormulasAreShort
short simplified names local around f e each read declared =
    let here = simplified_here (place_of names local around) f e (all_known _ around each refl) read in
    let of = place_is_of names local around in
    let fine = declared_by (ranges_outside names) here.ranges e (sym (here.multiples ∙ of.multiples)) declared in
    let few = (simplified here.ranges here.index).short (here.declared fine) in
    let count = same_nodes (simple here.ranges here.index) in
    let same = ap formula_nodes here.same in
    let short = here.short in
    omega arith
