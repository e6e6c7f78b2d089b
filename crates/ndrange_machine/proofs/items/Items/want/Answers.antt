use Rattle.std.proofs.Common.{◌∙◌, ap}
use Rattle.ndrange_machine.specs.Known.{known, vars_of}
use Rattle.ndrange_machine.specs.Wants.{want_line}
use Rattle.ndrange_machine.proofs.items.Items.want.Goals as goal

pub returns : goal.returns
returns c = λ it e.
    let lines = c.args.lines.now in
    let ids = known c.args.ids c.args.sizes.now in
    let turns = c.turns.result.now in
    let words = c.words.result.now in
    let vectors = c.vectors.result.now in
    c.want_at.ensures
    ∙ ap (λ n. want_line lines ids n turns (vars_of words vectors)) (c.line_of.ensures it e)
    ∙ ap (λ z. want_line lines ids it.line z (vars_of words vectors)) (c.turns.ensures it e)
    ∙ ap (λ z. want_line lines ids it.line it.turns (vars_of z vectors)) (c.words.ensures it e)
    ∙ ap (λ z. want_line lines ids it.line it.turns (record { words = it.vars.words; vectors = z })) (c.vectors.ensures it e)
