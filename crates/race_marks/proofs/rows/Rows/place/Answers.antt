use Rattle.std.proofs.Common.{◌∙◌, sym, ap, arith}
use Rattle.std.specs.Prelude.{slice_get}
use Rattle.std.proofs.lemmas.Bool.{ltb-true}
use Rattle.race_marks.proofs.Laid.{get_or_is, place_fits, place_is}
use Rattle.race_marks.proofs.rows.Rows.place.Goals as goal

pub overflow_mul-result : goal.overflow_mul-result
overflow_mul-result c =
    let r = c.self.inside in
    let said = c.in_ok-row.ensures.lookup in
    let got = ap (λ z. slice_get z c.args.row) (sym c.deref.ensures.value) ∙ get_or_is c.deref.result.now c.args.row c.in_ok-row.row.now (ltb-true c.args.row _ (sym said.0)) said.1 in
    let lt = place_fits r.homes r.rows.items r.width c.self.invariant c.args.row c.in_ok-row.row.now got c.args.home c.args.index c.if-home-self.true c.if-index-row.true in
    let fits = c.self.invariant.fits in
    omega arith

pub overflow_add-result : goal.overflow_add-result
overflow_add-result c =
    let r = c.self.inside in
    let said = c.in_ok-row.ensures.lookup in
    let got = ap (λ z. slice_get z c.args.row) (sym c.deref.ensures.value) ∙ get_or_is c.deref.result.now c.args.row c.in_ok-row.row.now (ltb-true c.args.row _ (sym said.0)) said.1 in
    let lt = place_fits r.homes r.rows.items r.width c.self.invariant c.args.row c.in_ok-row.row.now got c.args.home c.args.index c.if-home-self.true c.if-index-row.true in
    let fits = c.self.invariant.fits in
    omega arith

pub overflow_add-result-then-index-row : goal.overflow_add-result-then-index-row
overflow_add-result-then-index-row c =
    let r = c.self.inside in
    let said = c.in_ok-row.ensures.lookup in
    let got = ap (λ z. slice_get z c.args.row) (sym c.deref.ensures.value) ∙ get_or_is c.deref.result.now c.args.row c.in_ok-row.row.now (ltb-true c.args.row _ (sym said.0)) said.1 in
    let lt = place_fits r.homes r.rows.items r.width c.self.invariant c.args.row c.in_ok-row.row.now got c.args.home c.args.index c.if-home-self.true c.if-index-row.true in
    let fits = c.self.invariant.fits in
    omega arith

pub returns-then-index-row : goal.returns-then-index-row
returns-then-index-row c =
    let r = c.self.inside in
    let said = c.in_ok-row.ensures.lookup in
    let got = ap (λ z. slice_get z c.args.row) (sym c.deref.ensures.value) ∙ get_or_is c.deref.result.now c.args.row c.in_ok-row.row.now (ltb-true c.args.row _ (sym said.0)) said.1 in
    place_is r.homes r.rows.items r.width c.self.invariant c.args.row c.in_ok-row.row.now got c.args.home c.args.index c.if-home-self.true c.if-index-row.true c.args.self.now c.self.view_is
