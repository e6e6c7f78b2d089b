use Rattle.std.proofs.Common.{◌≡◌, ◌+◌, ◌<◌, ◌∷◌, map, length, arith, subst, sym, ◌∙◌, [], List, ℕ}
use Rattle.std.proofs.lemmas.List.{append-nil}
use Rattle.std.proofs.lemmas.Bool.{eqb-true}
use Rattle.lift_reader.specs.Tokens.{AreTokens, Lexeme, gap_len}
use Rattle.lift_reader.specs.Shown.{placed, lexeme}
use Rattle.lift_reader.proofs.Cut.{one_more, pushed, some_left}
use Rattle.lift_reader.proofs.token.tokens.Goals as goal

pub returns-then-is_empty : goal.returns-then-is_empty
returns-then-is_empty c =
    let none : length c.split_at.result.1.now ≡ 0 = eqb-true (length c.split_at.result.1.now) 0 (sym c.is_empty.ensures ∙ c.if-is_empty.true) in
    let all : length c.loop-after.rest.now ≡ gap_len c.loop-after.rest.now = omega (arith, none, c.split_at.ensures.back_len, c.gap_len-gap.ensures.is, c.gap_len-gap.ensures.within) in
    subst (λ (z : List (ℕ × Lexeme)). AreTokens 0 c.args.text.now z) (append-nil (map placed c.loop-after.tokens.items)) (c.loop-after.invariant.cut [] all)

pub loop-after-preserved : goal.loop-after-preserved
loop-after-preserved c = record {
  cut = λ more h.
      let gap = c.gap_len-gap.result in
      let rest = c.split_at.result.1.now in
      let run = c.split_at-in-loop-after.result.0.now in
      let back = c.split_at-in-loop-after.result.1.now in
      let some : 0 < length rest = some_left (length rest) (sym c.is_empty.ensures ∙ c.if-is_empty.false) in
      let long : length run ≡ c.run_len.result = c.split_at-in-loop-after.ensures.front_len in
      let token = one_more c.loop-after.at gap c.run_len.result c.loop-after.rest.now rest run back (lexeme c.kind_of.result) more c.gap_len-gap.ensures.is c.split_at.ensures.back some c.run_len.ensures.is c.split_at-in-loop-after.ensures.front c.split_at-in-loop-after.ensures.back c.kind_of.ensures (subst (λ n. AreTokens (c.loop-after.at + (gap + n)) back more) long h) in
      subst (λ z. AreTokens 0 c.args.text.now z) (pushed c.loop-after.tokens.items (record { offset = c.loop-after.at + gap; kind = c.kind_of.result }) c.push.new.self.items more c.in_ok-push.ensures.items) (c.loop-after.invariant.cut ((c.loop-after.at + gap, lexeme c.kind_of.result) ∷ more) token);
  inside = omega (arith, c.loop-after.invariant.inside, c.split_at.ensures.back_len, c.split_at-in-loop-after.ensures.back_len, c.split_at-in-loop-after.ensures.front_len);
}
