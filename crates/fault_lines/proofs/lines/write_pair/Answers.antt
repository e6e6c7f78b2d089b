use Rattle.std.proofs.Common.{sym, subst}
use Rattle.std.specs.Io.KnownBytes.{Appends}
use Rattle.fault_lines.specs.Lines.{TakesPrefix}
use Rattle.fault_lines.proofs.Taken.{appends_both, both_numbers, on_ok, prefix_of_both, prefix_of_first}
use Rattle.fault_lines.proofs.lines.write_pair.Goals as goal

pub returns-in_err-write_number-clause-prefix : goal.returns-in_err-write_number-clause-prefix
returns-in_err-write_number-clause-prefix g c =
    subst (TakesPrefix _ _) (sym (both_numbers c.args.first c.args.second c.if-second-eq1.false))
    (prefix_of_both _ _ _ _ _ c.in_ok-write_whole.ensures.all (prefix_of_first _ _ _ _ c.in_err-write_number.ensures.prefix))

pub returns-in_err-write_whole-2-clause-prefix : goal.returns-in_err-write_whole-2-clause-prefix
returns-in_err-write_whole-2-clause-prefix g c =
    subst (TakesPrefix _ _) (sym (both_numbers c.args.first c.args.second c.if-second-eq1.false))
    (prefix_of_both _ _ _ _ _ c.in_ok-write_whole.ensures.all
    (prefix_of_both _ _ _ _ _ c.in_ok-write_number.ensures.all (prefix_of_first _ _ _ _ c.in_err-write_whole-2.ensures.prefix)))

pub returns-in_err-write_number-2-clause-prefix : goal.returns-in_err-write_number-2-clause-prefix
returns-in_err-write_number-2-clause-prefix g c =
    subst (TakesPrefix _ _) (sym (both_numbers c.args.first c.args.second c.if-second-eq1.false))
    (prefix_of_both _ _ _ _ _ c.in_ok-write_whole.ensures.all
    (prefix_of_both _ _ _ _ _ c.in_ok-write_number.ensures.all
    (prefix_of_both _ _ _ _ _ c.in_ok-write_whole-2.ensures.all (prefix_of_first _ _ _ _ c.in_err-write_number-2.ensures.prefix))))

pub returns-clause-all : goal.returns-clause-all
returns-clause-all g c =
    on_ok c.write_whole-3.result _ _
    (λ last. subst (Appends _ _) (sym (both_numbers c.args.first c.args.second c.if-second-eq1.false))
    (appends_both _ _ _ _ _ c.in_ok-write_whole.ensures.all
    (appends_both _ _ _ _ _ c.in_ok-write_number.ensures.all
    (appends_both _ _ _ _ _ c.in_ok-write_whole-2.ensures.all
    (appends_both _ _ _ _ _ c.in_ok-write_number-2.ensures.all last)))))
    c.write_whole-3.ensures.all

pub returns-clause-prefix : goal.returns-clause-prefix
returns-clause-prefix g c =
    subst (TakesPrefix _ _) (sym (both_numbers c.args.first c.args.second c.if-second-eq1.false))
    (prefix_of_both _ _ _ _ _ c.in_ok-write_whole.ensures.all
    (prefix_of_both _ _ _ _ _ c.in_ok-write_number.ensures.all
    (prefix_of_both _ _ _ _ _ c.in_ok-write_whole-2.ensures.all
    (prefix_of_both _ _ _ _ _ c.in_ok-write_number-2.ensures.all c.write_whole-3.ensures.prefix))))
