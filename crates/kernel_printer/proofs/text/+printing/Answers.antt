use Rattle.std.proofs.Common.{◌≡◌, ◌∙◌, ap, sym, subst, take, drop, true, ◌+◌, suc, ◌++◌, ◌∷◌, [], arith, ◌<◌}
use Rattle.std.proofs.lemmas.List.{take_all, take_more}
use Rattle.kernel_tree.specs.Code.{End, Loops, Guards}
use Rattle.kernel_tree.specs.Grammar.{are_statements}
use Rattle.kernel_printer.proofs.Blocks.{statement_at, loop_body_of, if_body_of}
use Rattle.kernel_tree.specs.Tree.{formula_of, start_of, stride_of, before, code_then}
use Rattle.kernel_tree.specs.Pieces.{joined}
use Rattle.kernel_spelling.specs.Spelling.{spell_code}
use Rattle.kernel_printer.proofs.Written.{end_written, loop_written, guard_written}
use Rattle.kernel_printer.proofs.text.+printing.Goals as goal

pub print_block-print_statement-requires : goal.print_block-print_statement-requires
print_block-print_statement-requires t c =
    let block = c.args.block.now in
    let i = c.loop-statement.statement-index in
    let h = c.requires in
    (omega (arith, c.decreases, c.args.place.few), (code_then (drop (suc i) block) End, (h.0, statement_at h.0 c.args.place.loops c.args.place.nest block i c.statement-item.result c.loop-statement-test.true c.statement-item.is h.1)))

pub print_block-loop-statement-preserved : goal.print_block-loop-statement-preserved
print_block-loop-statement-preserved t c = λ after back.
    let block = c.args.block.now in
    let i = c.loop-statement.statement-index in
    let s = c.statement-item.result in
    let l = c.args.place.loops in
    let nest = c.args.place.nest in
    let old = c.args.text.now.items in
    ap (λ ys. old ++ joined (spell_code l nest (code_then ys after) back)) (take_more block i s c.loop-statement-test.true ∙ ap (λ x. take i block ++ x ∷ []) (sym c.statement-item.is))
    ∙ ap (λ z. old ++ joined (spell_code l nest z back)) (c.blocks-2.ensures.behind (take i block) (s ∷ []) after)
    ∙ c.loop-statement.invariant (before s after) back
    ∙ c.in_ok-print_statement.ensures after back

pub print_block-returns : goal.print_block-returns
print_block-returns t c = λ after back.
    let block = c.args.block.now in
    let whole : take c.loop-statement.statement-index block ≡ block = take_all c.loop-statement.statement-index block (omega arith) in
    ap (λ z. c.args.text.now.items ++ joined (spell_code c.args.place.loops c.args.place.nest (code_then z after) back)) (sym whole)
    ∙ c.loop-statement.invariant after back

pub print_statement-print_block-requires : goal.print_statement-print_block-requires
print_statement-print_block-requires t c =
    let l = c.args.place.loops in
    let nest = c.args.place.nest in
    let q = c.in-Loop in
    let h = c.requires in
    let k = h.1.0 in
    let inside = c.in_loop-inside.result in
    let whole : before c.args.statement.now h.0 ≡ Loops (start_of q.start) (formula_of q.bound) (stride_of q.stride) (code_then q.body.items End) h.0 =
    ap (λ z. before z h.0) q.is ∙ c.blocks-in-Loop.ensures.loops q.start q.bound q.stride q.body h.0 in
    let body = loop_body_of k l nest (start_of q.start) (formula_of q.bound) (stride_of q.stride) (code_then q.body.items End) h.0 (subst (λ z. are_statements k l nest z ≡ true) whole h.1.1) in
    let more : suc l ≡ l + 1 = omega arith in
    let further : suc nest ≡ nest + 1 = omega arith in
    let loops : suc l ≡ inside.loops = more ∙ sym c.in_loop-inside.ensures.loops in
    let deeper : suc nest ≡ inside.nest = further ∙ sym c.in_loop-inside.ensures.nest in
    let less : nest < 1024 = body.0 in
    (omega (arith, c.decreases, less, c.in_loop-inside.ensures.nest), (k, subst (λ z. are_statements k inside.loops inside.nest (code_then z End) ≡ true) (sym c.deref.ensures.value) (subst (λ m. are_statements k inside.loops m (code_then q.body.items End) ≡ true) deeper (subst (λ m. are_statements k m (suc nest) (code_then q.body.items End) ≡ true) loops body.1))))

pub print_statement-print_block-requires-in-If : goal.print_statement-print_block-requires-in-If
print_statement-print_block-requires-in-If t c =
    let l = c.args.place.loops in
    let nest = c.args.place.nest in
    let q = c.in-If in
    let h = c.requires in
    let k = h.1.0 in
    let inside = c.in_if-inside.result in
    let whole : before c.args.statement.now h.0 ≡ Guards (start_of q.start) (formula_of q.bound) (code_then q.body.items End) h.0 =
    ap (λ z. before z h.0) q.is ∙ c.blocks-in-If.ensures.ifs q.start q.bound q.body h.0 in
    let body = if_body_of k l nest (start_of q.start) (formula_of q.bound) (code_then q.body.items End) h.0 (subst (λ z. are_statements k l nest z ≡ true) whole h.1.1) in
    let further : suc nest ≡ nest + 1 = omega arith in
    let loops : l ≡ inside.loops = sym c.in_if-inside.ensures.loops in
    let deeper : suc nest ≡ inside.nest = further ∙ sym c.in_if-inside.ensures.nest in
    let less : nest < 1024 = body.0 in
    (omega (arith, c.decreases, less, c.in_if-inside.ensures.nest), (k, subst (λ z. are_statements k inside.loops inside.nest (code_then z End) ≡ true) (sym c.deref-in-If.ensures.value) (subst (λ m. are_statements k inside.loops m (code_then q.body.items End) ≡ true) deeper (subst (λ m. are_statements k m (suc nest) (code_then q.body.items End) ≡ true) loops body.1))))

pub print_statement-returns-in_ok-print_end-in-Loop : goal.print_statement-returns-in_ok-print_end-in-Loop
print_statement-returns-in_ok-print_end-in-Loop t c = λ after back.
    let l = c.args.place.loops in
    let nest = c.args.place.nest in
    let q = c.in-Loop in
    let inside = c.in_loop-inside.result in
    let old = c.args.text.now.items in
    let body = q.body.items in
    let headed = c.print_loop.new.text.items in
    let rest = spell_code l nest after back in
    let more : suc l ≡ l + 1 = omega arith in
    let further : suc nest ≡ nest + 1 = omega arith in
    ap (λ z. old ++ joined (spell_code l nest (before z after) back)) q.is
    ∙ ap (λ z. old ++ joined (spell_code l nest z back)) (c.blocks-in-Loop.ensures.loops q.start q.bound q.stride q.body after)
    ∙ sym (loop_written l nest old (start_of q.start) (formula_of q.bound) (stride_of q.stride) (spell_code (suc l) (suc nest) (code_then body End) rest))
    ∙ ap (λ z. z ++ joined (spell_code (suc l) (suc nest) (code_then body End) rest)) (sym c.in_ok-print_loop-in-Loop.ensures)
    ∙ ap (λ m. headed ++ joined (spell_code m (suc nest) (code_then body End) rest)) (more ∙ sym c.in_loop-inside.ensures.loops)
    ∙ ap (λ m. headed ++ joined (spell_code inside.loops m (code_then body End) rest)) (further ∙ sym c.in_loop-inside.ensures.nest)
    ∙ ap (λ z. headed ++ joined (spell_code inside.loops inside.nest (code_then z End) rest)) (sym c.deref.ensures.value)
    ∙ c.in_ok-print_block-in-Loop.ensures End rest
    ∙ sym (end_written inside.nest c.print_block.new.text.items rest)
    ∙ ap (λ z. z ++ joined rest) (sym c.in_ok-print_end-in-Loop.ensures)

pub print_statement-returns-in_ok-print_end-in-If : goal.print_statement-returns-in_ok-print_end-in-If
print_statement-returns-in_ok-print_end-in-If t c = λ after back.
    let l = c.args.place.loops in
    let nest = c.args.place.nest in
    let q = c.in-If in
    let inside = c.in_if-inside.result in
    let old = c.args.text.now.items in
    let body = q.body.items in
    let headed = c.print_if.new.text.items in
    let rest = spell_code l nest after back in
    let further : suc nest ≡ nest + 1 = omega arith in
    ap (λ z. old ++ joined (spell_code l nest (before z after) back)) q.is
    ∙ ap (λ z. old ++ joined (spell_code l nest z back)) (c.blocks-in-If.ensures.ifs q.start q.bound q.body after)
    ∙ sym (guard_written nest old (start_of q.start) (formula_of q.bound) (spell_code l (suc nest) (code_then body End) rest))
    ∙ ap (λ z. z ++ joined (spell_code l (suc nest) (code_then body End) rest)) (sym c.in_ok-print_if-in-If.ensures)
    ∙ ap (λ m. headed ++ joined (spell_code m (suc nest) (code_then body End) rest)) (sym c.in_if-inside.ensures.loops)
    ∙ ap (λ m. headed ++ joined (spell_code inside.loops m (code_then body End) rest)) (further ∙ sym c.in_if-inside.ensures.nest)
    ∙ ap (λ z. headed ++ joined (spell_code inside.loops inside.nest (code_then z End) rest)) (sym c.deref-in-If.ensures.value)
    ∙ c.in_ok-print_block-in-If.ensures End rest
    ∙ sym (end_written inside.nest c.print_block-in-If.new.text.items rest)
    ∙ ap (λ z. z ++ joined rest) (sym c.in_ok-print_end-in-If.ensures)
