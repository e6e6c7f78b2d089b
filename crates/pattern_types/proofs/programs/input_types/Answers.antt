use Rattle.std.proofs.Common.{◌≡◌, ◌∙◌, ap, map}
use Rattle.lift_tree.specs.Programs.{input_of, program_of}
use Rattle.lift_tree.specs.Types.{ty_of}
use Rattle.pattern_types.specs.declared.refusal.TypeRefusal.TheVariants.{Memory}
use Rattle.pattern_types.proofs.Proper.{as_declared, not_refused}
use Rattle.pattern_types.proofs.programs.input_types.Goals as goal

pub returns-in-Ok : goal.returns-in-Ok
returns-in-Ok c =
    ap (map ty_of) c.from.ensures.0
    ∙ as_declared (program_of c.args.program.now) _ _ c.in_ok-names.ensures (ap (map input_of) c.deref.ensures.value) (map ty_of c.in-Ok.types.items) c.in-Ok.ensures.ok

pub unreachable-requires : goal.unreachable-requires
unreachable-requires c =
    let is = c.in-Err-IllTyped.field-0-is in
    not_refused (program_of c.args.program.now) _ _ c.in_ok-names.ensures (ap (map input_of) c.deref.ensures.value) c.in-Err-IllTyped.field-0 c.requires.declared c.requires.within
    (c.in-Err-IllTyped.ensures.refused (λ (e : c.in-Err-IllTyped.field-0 ≡ Memory). cc))

pub unreachable-requires-in-Err-Limit : goal.unreachable-requires-in-Err-Limit
unreachable-requires-in-Err-Limit c =
    let is = c.in-Err-Limit.field-0-is in
    not_refused (program_of c.args.program.now) _ _ c.in_ok-names.ensures (ap (map input_of) c.deref.ensures.value) c.in-Err-Limit.field-0 c.requires.declared c.requires.within
    (c.in-Err-Limit.ensures.refused (λ (e : c.in-Err-Limit.field-0 ≡ Memory). cc))
