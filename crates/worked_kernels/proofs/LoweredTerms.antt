-- Worked terms are lowered as is told, and the laws' premises hold of them.
use Rattle.std.proofs.Common.{◌≡◌, ℕ, ◌+◌, ◌*◌, ◌<◌, ◌≤◌, ◌^◌, List, [], ◌∷◌, pos, ◌+ℤ◌, ◌≤ℤ◌, refl, sym, ap, subst, arith}
use Rattle.std.specs.Prelude.{neg_ℤ}
use Rattle.std.proofs.lemmas.Int.{ints}
use Rattle.std.proofs.Math.Nat.{mul-le-mul_right}
use Rattle.size_arith.specs.Polynomial.{no_powers, AtMost}
use Rattle.size_arith.specs.Ranges.{leasts}
use Rattle.size_arith.specs.Shown.{part}
use Rattle.lift_tree.specs.Typing.{constant}
use Rattle.lift_tree.proofs.Sizes.{value-constant}
use Rattle.lift_ir.specs.Types.{Scalar, ArrayOf}
use Rattle.lift_ir.specs.AtLaunch.{natural, length_at}
use Rattle.lift_tree.specs.Types as types
use Rattle.worked_kernels.specs.Terms.{five, FourIncrementsAreLowered, IncrementsAreLowered, RowIncrementsAreLowered, SumsAreLowered}

pub increments_are_lowered : IncrementsAreLowered
increments_are_lowered d bases n e small = record {
  same = refl;
  nodes = (types.U32, n, e, refl, (refl, (omega arith, refl), refl), refl);
  lowerable = (small, tt, (tt, tt, tt));
  staged = (tt, (tt, tt));
}

pub row_increments_are_lowered : RowIncrementsAreLowered
row_increments_are_lowered d bases n m e rows columns = record {
  same = refl;
  nodes = (types.ArrayOf types.U32 m, n, e, refl, (types.U32, m, refl, refl, (refl, (omega arith, refl), refl), refl), refl);
  lowerable = (rows, tt, (columns, tt, (tt, tt, tt)));
  staged = (tt, (tt, (tt, tt)));
}

pub sums_are_lowered : SumsAreLowered
sums_are_lowered d bases k e =
    let long : length_at bases five ≡ 5 = ap natural (value-constant bases 5) in
    let low : length_at bases five < 2 ^ 31 = subst (λ z. z < 2 ^ 31) (sym long) (omega arith) in
    let nodes = (increments_are_lowered d bases five e low).nodes in
    record {
      same = refl;
      nodes = (types.U32, five, (nodes, refl), refl, (omega arith, refl), tt, (refl, refl, refl), refl, refl);
      lowerable = (low, ((low, tt), (low, tt), (tt, ap (λ z. ArrayOf z Scalar) long), (low, tt, (tt, tt, tt))), tt, (tt, tt, tt));
      staged = ((tt, omega arith, (omega arith, tt), (tt, (tt, tt))), tt, (tt, tt));
    }

pub four_increments_are_lowered : FourIncrementsAreLowered
four_increments_are_lowered d bases e =
    let two : length_at bases (constant 2) ≡ 2 = ap natural (value-constant bases 2) in
    let eight : length_at bases (constant 8) ≡ 8 = ap natural (value-constant bases 8) in
    let some = subst (λ z. z < 2 ^ 31) (sym two) (omega arith) in
    let all = subst (λ z. z < 2 ^ 31) (sym eight) (omega arith) in
    let four_low : 4 < 2 ^ 31 = omega arith in
    record {
      same = refl;
      nodes = (
        (
          types.U32x4,
          constant 2,
          (e, (constant 8, refl, (record { divisor = refl; coefficient = refl; powers = none_more no_powers }, tt), refl, (λ js n. shown 2 (part (leasts d.names) no_powers js) (omega arith), tt))),
          refl,
          (refl, (omega arith, refl), (refl, refl)),
          refl,
        ),
        (constant 2, refl, refl, (λ js n. shown 8 (part (leasts d.names) no_powers js) (omega arith), tt)),
      );
      lowerable = ((all, tt), (some, (four_low, tt)), tt, (some, ((some, (four_low, tt)), (all, tt), tt, tt), (tt, tt, tt)));
      staged = (tt, (tt, tt));
    }
  where
    none_more : (ms : List ℕ) → AtMost ms ms
    none_more [] = tt
    none_more (m ∷ ms) = (omega arith, none_more ms)

    shown : (k b : ℕ) → 1 ≤ k → pos 0 ≤ℤ (neg_ℤ (pos (1 * b)) +ℤ pos (k * b + 0))
    shown k b h = let more = mul-le-mul_right {m = 1} {n = k} b h in omega (arith, ints)
