use Rattle.std.proofs.Common.{◌≡◌, ◌∙◌, ◌<◌, length, set, sym, ap, subst, arith}
use Rattle.race_marks.specs.Filled.{filled}
use Rattle.race_marks.proofs.Filling.{set_written}
use Rattle.race_marks.proofs.filled.Filled.set.Goals as goal
use Rattle.race_marks.proofs.filled.Filled.set.Goals.{then-place-len, else-place-len}

pub returns : goal.returns
returns g c =
    let i = c.if-place-len.self-inside in
    let p = c.args.place in
    let reached : p < length i.written.items =
    elim c.if-place-len.branch [
      | then-place-len w ↦ subst (λ z. p < length z.written.items) (sym w.self-inside-is) w.write_to.ensures.reaches
      | else-place-len w ↦ subst (λ z. p < length z.written.items) (sym w.self-inside-is) (let t = w.if-place-len.false in let e = c.len.ensures in let v = c.self.inside.written.ok.0 in omega arith)
    ] in
    let same : filled i.written.items i.count i.first ≡ c.args.self.now =
    elim c.if-place-len.branch [
      | then-place-len w ↦ ap (λ z. filled z.written.items z.count z.first) w.self-inside-is ∙ w.write_to.ensures.same ∙ c.self.view_is
      | else-place-len w ↦ ap (λ z. filled z.written.items z.count z.first) w.self-inside-is ∙ c.self.view_is
    ] in
    set_written i.written.items i.count i.first p c.args.item reached ∙ ap (λ zs. set zs p c.args.item) same
