-- The counts where the first so many flags are set.
use Rattle.std.proofs.Common.{◌≡◌, ◌+◌, ◌-◌, ◌*◌, ◌/◌, ◌^◌, ◌<◌, ◌≤◌, ℕ, zero, suc, List, length, min, refl, sym, ap, ◌∙◌, ⊎_elim, arith}
use Rattle.std.specs.Prelude.{slice_index}
use Rattle.std.proofs.Math.Nat.{pow-suc, pow-le-pow_right}
use Rattle.std.proofs.lemmas.Nat.{pow_pos, pow-add}
use Rattle.std.proofs.lemmas.Bool.{cases_lt}
use Rattle.count_tree.specs.Nodes.{AreCounts, IsNode, IsPower}
use Rattle.count_tree.proofs.Sums.{ones, ones_bits, ones_length, among_ones}
use Rattle.count_tree.proofs.Levels.{from, high, order}

-- the levels above this one, of so many nodes with so many leaves each, are counted
pub record Fills (lefts : List ℕ) (flagged level width : ℕ) : Type 0 where
  pub height : ℕ
  pub up : ℕ
  pub down : ℕ
  pub levels : up + down ≡ height
  pub nodes : level ≡ 2 ^ up
  pub leaves : width ≡ 2 ^ down
  pub long : length lefts ≡ 2 ^ height
  pub done : (l h j i : ℕ) → IsNode height l (suc h) j i → l < up → slice_index lefts i ≡ min (flagged - from (suc h) j) (2 ^ h)

pub fills_start : (lefts : List ℕ) (flagged : ℕ) → IsPower (length lefts) → Fills lefts flagged 1 (length lefts)
fills_start lefts flagged p = record { height = p.height; up = 0; down = p.height; levels = omega arith; nodes = refl; leaves = p.power; long = p.power; done = λ l h j i n lt. absurd (omega arith) }

module _ (lefts : List ℕ) (flagged level width : ℕ) (f : Fills lefts flagged level width) where
  abbrev height : ℕ
  height = f.height

  pub some_nodes : 0 < level
  some_nodes = let n = f.nodes in let p : 0 < 2 ^ f.up = pow_pos f.up in omega arith

  -- above the leaves
  deep : level < length lefts → (d : ℕ) × (f.down ≡ suc d)
  deep lt = by f.down f.levels
    where
      by : (d : ℕ) → f.up + d ≡ height → (e : ℕ) × (d ≡ suc e)
      by zero e = absurd (let top : f.up ≡ height = omega arith in let same : 2 ^ f.up ≡ 2 ^ height = ap (λ x. 2 ^ x) top in let n = f.nodes in let m = f.long in omega arith)
      by (suc d) e = (d, refl)

  half : (lt : level < length lefts) → width / 2 ≡ 2 ^ (deep lt).0
  half lt =
      let d = deep lt in
      let a : 2 ^ f.down ≡ 2 ^ d.0 * 2 = ap (λ x. 2 ^ x) d.1 ∙ pow-suc 2 d.0 in
      let b = f.leaves in
      omega arith

  pub some : level < length lefts → 0 < width / 2
  some lt = let a = half lt in let p : 0 < 2 ^ (deep lt).0 = pow_pos (deep lt).0 in omega arith

  pub whole : level < length lefts → level * (2 * (width / 2)) ≡ length lefts
  whole lt =
      let d = deep lt in
      let a = half lt in
      let b : 2 ^ f.down ≡ 2 ^ d.0 * 2 = ap (λ x. 2 ^ x) d.1 ∙ pow-suc 2 d.0 in
      let c : 2 * (width / 2) ≡ 2 ^ f.down = omega arith in
      let e : 2 ^ (f.up + f.down) ≡ 2 ^ f.up * 2 ^ f.down = pow-add 2 f.up f.down in
      let g : 2 ^ (f.up + f.down) ≡ 2 ^ height = ap (λ x. 2 ^ x) f.levels in
      ap (λ x. level * x) c ∙ ap (λ x. x * 2 ^ f.down) f.nodes ∙ sym e ∙ g ∙ sym f.long

  pub fills_on : (lt : level < length lefts) (new : List ℕ) (twice : ℕ) → twice ≡ level * 2 → length new ≡ length lefts
      → ((j : ℕ) → j < level → slice_index new (2 * level - 1 - j) ≡ min (flagged - j * (2 * (width / 2))) (width / 2))
      → ((i : ℕ) → i < level → slice_index new i ≡ slice_index lefts i)
      → Fills new flagged twice (width / 2)
  fills_on lt new twice double long each kept =
      let d = deep lt in
      let a = f.levels in
      let n = f.nodes in
      let e = d.1 in
      record {
        height = f.height;
        up = suc f.up;
        down = d.0;
        levels = omega arith;
        nodes = let p : 2 ^ suc f.up ≡ 2 ^ f.up * 2 = pow-suc 2 f.up in omega arith;
        leaves = half lt;
        long = long ∙ f.long;
        done = λ l h j i m lower. ⊎_elim (λ lo. kept i (let b = high height l (suc h) j i m in let p : 2 ^ suc l ≡ 2 ^ l * 2 = pow-suc 2 l in let q : 2 ^ suc l ≤ 2 ^ f.up = pow-le-pow_right (omega arith) (omega arith) in omega arith) ∙ f.done l h j i m lo) (λ hi. on_level l h j i m (omega arith)) (cases_lt l f.up);
      }
    where
      on_level : (l h j i : ℕ) → IsNode height l (suc h) j i → l ≡ f.up → slice_index new i ≡ min (flagged - from (suc h) j) (2 ^ h)
      on_level l h j i m at =
          let d = deep lt in
          let n = f.nodes in
          let e = d.1 in
          let a = f.levels in
          let b = m.levels in
          let c = m.number in
          let k = m.among in
          let same : 2 ^ l ≡ 2 ^ f.up = ap (λ x. 2 ^ x) at in
          let h_is : d.0 ≡ h = omega arith in
          let number : i ≡ 2 * level - 1 - j = omega arith in
          let w : width / 2 ≡ 2 ^ h = half lt ∙ ap (λ x. 2 ^ x) h_is in
          let two : 2 * (width / 2) ≡ 2 ^ suc h = let p : 2 ^ suc h ≡ 2 ^ h * 2 = pow-suc 2 h in omega arith in
          ap (slice_index new) number ∙ each j (omega arith)
          ∙ ap (λ x. min (flagged - j * x) (width / 2)) two ∙ ap (λ x. min (flagged - j * 2 ^ suc h) x) w

  pub filled : length lefts ≤ level → flagged ≤ length lefts → AreCounts (ones flagged (length lefts - flagged)) lefts
  filled le few = record {
    height = f.height;
    power = same ∙ f.long;
    bits = ones_bits flagged (length lefts - flagged);
    long = sym same;
    each = λ l h j i m. f.done l h j i m (let a = m.levels in let b = top in omega arith) ∙ sym (among_ones (from (suc h) j) (2 ^ h) flagged (length lefts - flagged));
  }
    where
      same : length (ones flagged (length lefts - flagged)) ≡ length lefts
      same = let n = ones_length flagged (length lefts - flagged) in omega arith

      top : height ≤ f.up
      top = ⊎_elim (λ a. a) (λ lt. absurd (let p : 2 ^ suc f.up ≡ 2 ^ f.up * 2 = pow-suc 2 f.up in let q : 2 ^ suc f.up ≤ 2 ^ height = pow-le-pow_right (omega arith) (omega arith) in let r : 0 < 2 ^ f.up = pow_pos f.up in let n = f.nodes in let m = f.long in omega arith)) (order f.up height)

-- a level, as far as it is counted
pub record Counted (old lefts : List ℕ) (flagged level width number : ℕ) : Type 0 where
  pub long : length lefts ≡ length old
  pub each : (j : ℕ) → j < number → slice_index lefts (2 * level - 1 - j) ≡ min (flagged - j * (2 * width)) width
  pub kept : (i : ℕ) → i < level → slice_index lefts i ≡ slice_index old i
