use Rattle.std.proofs.Common.{◌≡◌, IfOk, Some, Bool, ap, sym, ◌∙◌, subst, option_map}
use Rattle.index_expr.specs.declared.operation.Operation.TheVariants.{Difference, Greatest}
use Rattle.index_expr.specs.Expression.{Expression, Binary, expression_of}
use Rattle.index_simplify.specs.Below.{is_passed, length_before, stays_below}
use Rattle.index_simplify.specs.PlainRanges.{PlainRanges, ranges_of}
use Rattle.index_simplify.proofs.below.+stays_below.Goals as goal

pub returns-in-Some : goal.returns-in-Some
returns-in-Some t c =
    let r : PlainRanges = ranges_of c.args.ranges.now in
    let n : Expression = expression_of c.args.length.now in
    let e : Expression = expression_of c.in-Binary-Greatest-default-default.e.value in
    let least : Expression = expression_of c.in-Binary-Greatest-default-default.least.value in
    let taken : Expression = expression_of c.in-Binary-Difference-default-default.taken.value in
    let first : c.in-Binary-Difference-default-default.field-0 ≡ Difference = rw c.in-Binary-Difference-default-default.is at c.in-Binary-Difference-default-default.field-0-is in
    let second : c.in-Binary-Greatest-default-default.field-0 ≡ Greatest = rw c.in-Binary-Greatest-default-default.is at c.in-Binary-Greatest-default-default.field-0-is in
    let past_is = sym c.deref-in-Binary-Difference-default-default.ensures ∙ c.in-Binary-Greatest-default-default.is in
    let whole : expression_of c.args.e.now ≡ Binary Difference (Binary Greatest e least) taken =
    ap expression_of c.in-Binary-Difference-default-default.is
    ∙ ap (λ o. Binary o (expression_of c.in-Binary-Difference-default-default.past.value) taken) first
    ∙ ap (λ x. Binary Difference (expression_of x) taken) past_is
    ∙ ap (λ o. Binary Difference (Binary o e least) taken) second in
    let before : option_map expression_of (Some c.in-Some.before) ≡ length_before r least taken n =
    ap (option_map expression_of) (sym c.in-Some.is) ∙ c.in_ok-before-in-Binary-Greatest-default-default.ensures
    ∙ ap (λ x. length_before r (expression_of x) (expression_of c.deref-in-Binary-Greatest-default-default-2.result.now) n) c.deref-in-Binary-Greatest-default-default.ensures
    ∙ ap (λ x. length_before r least (expression_of x) n) c.deref-in-Binary-Greatest-default-default-2.ensures in
    let same : stays_below r (expression_of c.deref-in-Some.result.now) (expression_of c.in-Some.before) ≡ stays_below r (expression_of c.args.e.now) n =
    ap (λ x. stays_below r (expression_of x) (expression_of c.in-Some.before)) c.deref-in-Some.ensures
    ∙ ap (is_passed (λ q. stays_below r e q)) before ∙ sym (ap (λ x. stays_below r x n) whole) in
    subst (λ (z : Bool). IfOk c.stays_below.result (λ b. b ≡ z)) same c.stays_below.ensures
