use Rattle.std.proofs.Common.{◌∙◌, ap, subst}
use Rattle.kernel_tree.specs.Launch.{first_item}
use Rattle.enabled_events.specs.Grids.{laid}
use Rattle.ndrange_machine.specs.Takes.{IsWanted}
use Rattle.ndrange_machine.proofs.Releasing.{took_release}
use Rattle.ndrange_machine.proofs.machine.Machine.release.Goals as goal

pub returns : goal.returns
returns c = λ k l d es st clean en.
    let m = c.args.self.now in
    took_release k l d m es st clean c.args.group en c.pass_group.new.self c.pass_group.ensures c.flags_follow.ensures c.want-want.result (subst (λ j. IsWanted m j c.want-want.result) (c.first_of.ensures ∙ ap (λ z. first_item (laid z) c.args.group) c.grid.ensures) c.want-want.ensures)
    c.release_marks.new.self c.refresh.new.self c.release_marks.ensures.core c.release_marks.ensures.ready c.release_marks.ensures.marks c.refresh.ensures.core c.refresh.ensures.marks c.refresh.ensures.flags
