use Rattle.std.proofs.Common.{rules, ◌≡◌, sym, ap, ◌∙◌, subst, true, false}
use Rattle.std.specs.Prelude.{bytes_eq, decimal}
use Rattle.std.specs.Str.{IsAscii}
use Rattle.std.proofs.lemmas.Fmt.{parse-decimal, IsAscii-decimal}
use Rattle.std.proofs.lemmas.Str.{IsUtf8-from_ascii}
use Rattle.kernel_spelling.specs.Numbers.{small, itself}
use Rattle.kernel_spelling.proofs.Numbers.{none_at, some_at}
use Rattle.kernel_spelling.proofs.kinds.number.Goals as goal

pub returns-in_default : goal.returns-in_default
returns-in_default c = none_at c.args.digits.now (λ n h e. c.in_default.ensures.cases.0 (IsUtf8-from_ascii c.args.digits.now (subst IsAscii (sym e) (IsAscii-decimal n (small n h)))))

pub returns-in_default-parse : goal.returns-in_default-parse
returns-in_default-parse c = none_at c.args.digits.now (λ n h e.
    let p = parse-decimal 32 n c.in-Ok.text.now c.parse.result h (small n h) (c.in-Ok.ensures.cases.0 ∙ e) c.parse.ensures.value.0 in
    let w = sym c.in_default-parse.is ∙ p in cc (w))

pub returns-then-eq : goal.returns-then-eq
returns-then-eq c =
    let written = c.as_bytes.ensures.value ∙ c.format.ensures.text in
    some_at c.args.digits.now c.in-Ok-parse.number (search rules) (sym (ap (λ z. bytes_eq z c.args.digits.now) written) ∙ sym c.eq.ensures ∙ c.if-eq.true)

pub returns-else-eq : goal.returns-else-eq
returns-else-eq c = none_at c.args.digits.now (λ n h e.
    let p = parse-decimal 32 n c.in-Ok.text.now c.parse.result h (small n h) (c.in-Ok.ensures.cases.0 ∙ e) c.parse.ensures.value.0 in
    let number : c.in-Ok-parse.number ≡ n = let w = sym c.in-Ok-parse.is ∙ p in cc (w) in
    let written : c.as_bytes.result.now ≡ c.args.digits.now = c.as_bytes.ensures.value ∙ c.format.ensures.text ∙ ap decimal number ∙ sym e in
    let equal : c.eq.result ≡ true = c.eq.ensures ∙ ap (λ z. bytes_eq z c.args.digits.now) written ∙ itself c.args.digits.now in
    let w : true ≡ false = sym equal ∙ c.if-eq.false in cc (w))
