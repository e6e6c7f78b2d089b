use Rattle.std.proofs.Common.{◌∙◌, ◌<◌, length, sym, ap, subst, arith}
use Rattle.std.specs.List.{All}
use Rattle.std.proofs.lemmas.List.{get_or_read}
use Rattle.std.proofs.lemmas.List.Elements.{All-set, All-get_or}
use Rattle.race_marks.specs.Held.{IsKept}
use Rattle.race_marks.specs.Marks as told
use Rattle.race_marks.proofs.Kept.{noted_view, read_mark, length_marks, group_count}
use Rattle.race_marks.proofs.marks.Marks.touch.Goals as goal

pub invariant_of-self : goal.invariant_of-self
invariant_of-self c =
    let ms = c.self.inside.marks in
    let es = c.self.inside.epochs.items in
    let now = c.args.self.now in
    let within : c.args.touch.group < length es = let e = group_count es ms now c.self.view_is in let lt = c.requires.group in omega arith in
    let epoch = get_or_read es c.args.touch.group _ within c.index.ensures 0 in
    let there : c.args.cell < length ms = let e = length_marks es ms now c.self.view_is in let lt = c.requires.cell in omega arith in
    let old = subst (IsKept es) (sym c.get.ensures) (All-get_or (IsKept es) ms c.args.cell c.get.result there c.self.invariant) in
    subst (All (IsKept es)) (sym c.set.ensures) (All-set (IsKept es) ms c.args.cell c.in-Some.mark ((c.in-Some.ensures es (sym epoch)).kept old) c.self.invariant)

pub returns-in-Some-clause-race : goal.returns-in-Some-clause-race
returns-in-Some-clause-race c =
    let ms = c.self.inside.marks in
    let es = c.self.inside.epochs.items in
    let t = c.args.touch in
    let now = c.args.self.now in
    let within : t.group < length es = let e = group_count es ms now c.self.view_is in let lt = c.requires.group in omega arith in
    let epoch = get_or_read es t.group _ within c.index.ensures 0 in
    let there : c.args.cell < length ms = let e = length_marks es ms now c.self.view_is in let lt = c.requires.cell in omega arith in
    sym (ap (λ m. told.races m t.group t.item t.writes) (read_mark es ms c.args.cell c.get.result now c.self.view_is there c.get.ensures) ∙ (c.in-Some.ensures es (sym epoch)).clear)

pub returns-in-None-clause-race : goal.returns-in-None-clause-race
returns-in-None-clause-race c =
    let ms = c.self.inside.marks in
    let es = c.self.inside.epochs.items in
    let t = c.args.touch in
    let now = c.args.self.now in
    let within : t.group < length es = let e = group_count es ms now c.self.view_is in let lt = c.requires.group in omega arith in
    let epoch = get_or_read es t.group _ within c.index.ensures 0 in
    let there : c.args.cell < length ms = let e = length_marks es ms now c.self.view_is in let lt = c.requires.cell in omega arith in
    sym (ap (λ m. told.races m t.group t.item t.writes) (read_mark es ms c.args.cell c.get.result now c.self.view_is there c.get.ensures) ∙ c.in-None.ensures es (sym epoch))

pub returns-in-Some-clause-marks : goal.returns-in-Some-clause-marks
returns-in-Some-clause-marks c =
    let ms = c.self.inside.marks in
    let es = c.self.inside.epochs.items in
    let t = c.args.touch in
    let now = c.args.self.now in
    let within : t.group < length es = let e = group_count es ms now c.self.view_is in let lt = c.requires.group in omega arith in
    let epoch = get_or_read es t.group _ within c.index.ensures 0 in
    let there : c.args.cell < length ms = let e = length_marks es ms now c.self.view_is in let lt = c.requires.cell in omega arith in
    noted_view es ms c.args.cell c.get.result c.in-Some.mark (λ m. told.noted m t.group t.item t.writes) now c.set.new.self c.self.view_is
    there c.get.ensures c.set.ensures (c.in-Some.ensures es (sym epoch)).noted
