-- What a map's turns count, from any start by any stride, in whatever form.
use Rattle.std.proofs.Common.{◌≡◌, ℕ, suc, ◌+◌, ◌*◌, ◌<◌, ◌≤◌, Bool, true, false, List, Some, refl, sym, ap, ◌∙◌, subst, ⊎_elim, arith}
use Rattle.std.specs.Prelude.{nat_lt}
use Rattle.std.proofs.lemmas.Bool.{cases_lt, lt-ltb, ltb-true, cases_Bool}
use Rattle.kernel_tree.specs.Bound.{or_zero}
use Rattle.kernel_tree.specs.Formula.{Formula, bound_value}
use Rattle.kernel_tree.specs.Code.{Start, Stride, Statement, Code, End, start_value, stride_value}
use Rattle.kernel_tree.specs.Launch.{Launch, ids_of}
use Rattle.barrier_placement.specs.Fencing.{Fencing, Open, Fenced, stands}
use Rattle.barrier_placement.specs.Separates.{bit}
use Rattle.printed_form.specs.Form.{IsTurn}
use Rattle.printed_form.specs.MapForms.{MapForm, Looped, Guarded, Alone, form_over_groups, TurnCode, AreTurnsFrom, statement_of}
use Rattle.group_phases.specs.Epochs.{IsPast}
use Rattle.group_phases.specs.Strides.{MakesTurnsBy}
use Rattle.kernel_traffic.specs.Traffic.{turns_below, once}
use Rattle.kernel_traffic.specs.Laws.{TurnsGoOneByOne}
use Rattle.term_traffic.specs.Regions.{Region}
use Rattle.term_traffic.proofs.Codes.{Counts, total}

not_below : (m n : ℕ) → n ≤ m → nat_lt m n ≡ false
not_below m n h = ⊎_elim (λ e. absurd (let lt = ltb-true m n e in omega arith)) (λ e. e) (cases_Bool (nat_lt m n))

module _ (weight : Statement → ℕ) (load store : Region → ℕ) (sync : ℕ) (counts : Counts weight load store sync) (l : Launch) (item : ℕ) where
  -- what stands before a phase
  pub past : (f : Fencing) (code rest : Code) → IsPast f code rest → total weight load store sync counts l item code ≡ sync * bit (stands f) + total weight load store sync counts l item rest
  past Open code rest h = ap (total weight load store sync counts l item) h ∙ (let m = total weight load store sync counts l item rest in omega arith)
  past (Fenced a b) code rest h = ap (total weight load store sync counts l item) h ∙ ap (λ z. z + total weight load store sync counts l item rest) (counts.syncs a b ∙ (let e : sync ≡ sync * 1 = omega arith in e))

  module _ (turning : TurnsGoOneByOne) (s : Start) (c : Stride) where
    abbrev pub start : ℕ
    start = start_value (ids_of l item) s

    abbrev pub stride : ℕ
    stride = stride_value (ids_of l item) c

    -- its first turn
    pub first : IsTurn l item s c (start_value (ids_of l item) s)
    first = (0, (let e : start_value (ids_of l item) s ≡ start_value (ids_of l item) s + 0 * stride_value (ids_of l item) c = omega arith in e))

    -- where there is no more than one for each id, an item whose id is below has just one
    one_turn : (n : ℕ) → 0 < stride → n ≤ start + stride → start < n → turns_below start n stride ≡ 1
    one_turn n some low lt = turning.before start n stride some lt ∙ ap suc (turning.past (start + stride) n stride low)

    -- the turns of a map in a form
    module _ (inside : start < stride) (n : ℕ) (B : TurnCode) (m : ℕ) (ts : List ℕ) (each : (vs : List ℕ) (i : ℕ) → i < n → (code rest : Code) → B vs i code rest → total weight load store sync counts l item code ≡ m + total weight load store sync counts l item rest) where
      pub turned : (f : MapForm) → MakesTurnsBy f n stride → (code rest : Code) → AreTurnsFrom l item f s c ts n B code rest → total weight load store sync counts l item code ≡ turns_below start n stride * m + total weight load store sync counts l item rest
      turned Looped makes code rest h =
          ap (total weight load store sync counts l item) h.2 ∙ ap (λ z. turns_below start (or_zero z) stride * total weight load store sync counts l item h.1 + total weight load store sync counts l item rest) h.3
          ∙ ap (λ z. z + total weight load store sync counts l item rest) (⊎_elim some none (cases_lt start n))
        where
          some : start < n → turns_below start n stride * total weight load store sync counts l item h.1 ≡ turns_below start n stride * m
          some lt = ap (λ z. turns_below start n stride * z) (each _ start lt h.1 End (h.4 start lt first) ∙ (let e : m + 0 ≡ m = omega arith in e))

          none : n ≤ start → turns_below start n stride * total weight load store sync counts l item h.1 ≡ turns_below start n stride * m
          none le = ap (λ z. z * total weight load store sync counts l item h.1) (turning.past start n stride le) ∙ (let a = total weight load store sync counts l item h.1 in let z : 0 * a ≡ 0 * m = omega arith in z) ∙ ap (λ z. z * m) (sym (turning.past start n stride le))
      turned Guarded makes code rest h =
          ap (total weight load store sync counts l item) h.2 ∙ ap (λ z. once (nat_lt start (or_zero z)) * total weight load store sync counts l item h.1 + total weight load store sync counts l item rest) h.3
          ∙ ap (λ z. z + total weight load store sync counts l item rest) (⊎_elim some none (cases_lt start n))
        where
          some : start < n → once (nat_lt start n) * total weight load store sync counts l item h.1 ≡ turns_below start n stride * m
          some lt =
              let one = one_turn n (omega arith) (omega arith) lt in
              let body = each _ start lt h.1 End (h.4 start lt refl) in
              let is = lt-ltb start n lt in
              ap (λ z. once z * total weight load store sync counts l item h.1) is ∙ (let a = total weight load store sync counts l item h.1 in let e : 1 * a ≡ 1 * m = omega arith in e) ∙ ap (λ z. z * m) (sym one)

          none : n ≤ start → once (nat_lt start n) * total weight load store sync counts l item h.1 ≡ turns_below start n stride * m
          none le = ap (λ z. once z * total weight load store sync counts l item h.1) (not_below start n le) ∙ (let a = total weight load store sync counts l item h.1 in let z : 0 * a ≡ 0 * m = omega arith in z) ∙ ap (λ z. z * m) (sym (turning.past start n stride le))
      turned Alone makes code rest h =
          let lt : start < n = subst (λ z. start < z) (sym makes) inside in
          each ts start lt code rest (h start lt refl) ∙ ap (λ z. z + total weight load store sync counts l item rest) ((let e : m ≡ 1 * m = omega arith in e) ∙ ap (λ z. z * m) (sym (one_turn n (omega arith) (omega arith) lt)))

    -- the statement of a map over groups counts its turns times what its body counts at one
    pub over_form : (some : 0 < stride) (once_only : Bool) (n : ℕ) → (once_only ≡ true → n ≡ 1) → (bound : Formula) (body : Code) (m : ℕ) → bound_value l.sizes bound ≡ Some n → ((i : ℕ) → i < n → IsTurn l item s c i → total weight load store sync counts l item body ≡ m)
        → total weight load store sync counts l item (statement_of (form_over_groups once_only) s c bound body) ≡ turns_below start n stride * m
    over_form some false n makes bound body m is each =
        ap (λ z. turns_below start (or_zero z) stride * total weight load store sync counts l item body + 0) is ∙ (let a = turns_below start n stride * total weight load store sync counts l item body in let e : a + 0 ≡ a = omega arith in e)
        ∙ ⊎_elim
        (λ lt. ap (λ z. turns_below start n stride * z) (each start lt first))
        (λ le. ap (λ z. z * total weight load store sync counts l item body) (turning.past start n stride le) ∙ (let a = total weight load store sync counts l item body in let z : 0 * a ≡ 0 * m = omega arith in z) ∙ ap (λ z. z * m) (sym (turning.past start n stride le)))
        (cases_lt start n)
    over_form some true n makes bound body m is each =
        ap (λ z. once (nat_lt start (or_zero z)) * total weight load store sync counts l item body + 0) is ∙ (let a = once (nat_lt start n) * total weight load store sync counts l item body in let e : a + 0 ≡ a = omega arith in e)
        ∙ ⊎_elim
        (λ lt. ap (λ z. once z * total weight load store sync counts l item body) (lt-ltb start n lt) ∙ (let a = total weight load store sync counts l item body in let b = each start lt first in let e : 1 * a ≡ 1 * m = omega arith in e)
        ∙ ap (λ z. z * m) (sym (one_turn n some (let one = makes refl in omega arith) lt)))
        (λ le. ap (λ z. once z * total weight load store sync counts l item body) (not_below start n le) ∙ (let a = total weight load store sync counts l item body in let z : 0 * a ≡ 0 * m = omega arith in z) ∙ ap (λ z. z * m) (sym (turning.past start n stride le)))
        (cases_lt start n)
