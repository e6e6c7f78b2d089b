use Rattle.std.proofs.Common.{◌^◌, ◌-◌, length, take, refl, arith}
use Rattle.size_arith.proofs.Limits.{small_of, low_of}
use Rattle.size_arith.proofs.Ranges.{small-leasts}
use Rattle.size_arith.proofs.Soundness.{tried_all, shown_all}
use Rattle.size_arith.proofs.shown.is_at_least.Goals as goal

pub never_negative-requires-clause-small : goal.never_negative-requires-clause-small
never_negative-requires-clause-small c = small_of (2 ^ 32) c.args.monomials.now c.args.monomials.now (omega arith) refl c.requires.poly

pub never_negative-requires-clause-low : goal.never_negative-requires-clause-low
never_negative-requires-clause-low c = low_of c.args.monomials.now c.args.monomials.now refl c.requires.poly

pub never_negative-requires-clause-leasts : goal.never_negative-requires-clause-leasts
never_negative-requires-clause-leasts c = rw c.leasts_of-leasts.ensures (small-leasts c.args.names.now c.requires.declared)

pub returns : goal.returns
returns c =
    let l = low_of c.args.monomials.now c.args.monomials.now refl c.requires.poly in
    let e = c.leasts_of-leasts.ensures in
    let ls = take (length c.args.names.now) c.leasts_of-leasts.result in (
      λ h. tried_all c.args.k c.args.names.now ls c.args.monomials.now (length ls - 0) e (omega arith) l (c.never_negative.ensures.0 h),
      λ h. c.never_negative.ensures.1 (shown_all c.args.k c.args.names.now ls c.args.monomials.now (length ls - 0) e (omega arith) h),
    )
