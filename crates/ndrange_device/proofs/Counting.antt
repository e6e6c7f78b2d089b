-- Counts that stay at the greatest value of 64 bits.
use Rattle.std.proofs.Common.{◌≡◌, ℕ, ◌+◌, ◌-◌, ◌*◌, ◌%◌, ◌<◌, ◌^◌, suc, min, List, [], ◌∷◌, ◌++◌, length, take, get_or, Bool, true, false, refl, sym, ap, ◌∙◌, ⊎_elim, arith, length-append}
use Rattle.std.specs.Prelude.{count_by, slice_index, if◌then◌else◌}
use Rattle.std.proofs.lemmas.List.{take_all, take_at, get_or_at, get_or_past}
use Rattle.std.proofs.lemmas.List.Sums.{count_by_more_yes, count_by_more_no}
use Rattle.std.proofs.lemmas.Bool.{cases_lt}
use Rattle.kernel_tree.specs.declared.events.Event.{Event}
use Rattle.ndrange_device.specs.Outcomes.{capped, is_release}
use Rattle.kernel_tree.specs.Schedule.{Schedule, generated}
use Rattle.ndrange_device.specs.declared.progress.Progress.{Progress}
use Rattle.ndrange_device.specs.Progress.{HasCome, seed_of}

pub length_push : (es : List Event) (e : Event) → length (es ++ e ∷ []) ≡ suc (length es)
length_push es e = length-append es (e ∷ []) ∙ (let q : length es + 1 ≡ suc (length es) = omega arith in q)

pub count_push : (p : Event → Bool) (es : List Event) (e : Event) → count_by p (es ++ e ∷ []) ≡ count_by p es + (if p e then 1 else 0)
count_push p es e = by_test (p e) refl
  where
    n : ℕ
    n = length es

    all : List Event
    all = es ++ e ∷ []

    len : length (es ++ e ∷ []) ≡ length es + 1
    len = length-append es (e ∷ [])

    at : get_or (es ++ e ∷ []) (length es) e ≡ e
    at = get_or_at es e [] e (length es) refl

    whole : take (length es + 1) (es ++ e ∷ []) ≡ es ++ e ∷ []
    whole = take_all (length es + 1) (es ++ e ∷ []) (let l = len in omega arith)

    front : take (length es) (es ++ e ∷ []) ≡ es
    front = take_at es (e ∷ []) (length es) refl

    by_test : (b : Bool) → p e ≡ b → count_by p (es ++ e ∷ []) ≡ count_by p es + (if b then 1 else 0)
    by_test true h =
        ap (count_by p) (sym whole) ∙ count_by_more_yes p (es ++ e ∷ []) (length es) e (let l = len in omega arith) (ap p at ∙ h) ∙ ap (λ xs. count_by p xs + 1) front
    by_test false h =
        ap (count_by p) (sym whole) ∙ count_by_more_no p (es ++ e ∷ []) (length es) e (let l = len in omega arith) (ap p at ∙ h) ∙ ap (count_by p) front ∙ (let z : count_by p es ≡ count_by p es + 0 = omega arith in z)

-- a list that memory holds ends before the greatest value
pub index_capped : (ns : List ℕ) (n : ℕ) → length ns < 2 ^ 64 → slice_index ns (capped n) ≡ slice_index ns n
index_capped ns n short =
    ⊎_elim
    (λ lt. let same : capped n ≡ n = omega arith in ap (slice_index ns) same)
    (λ le. get_or_past ns (capped n) 0 (omega arith) ∙ sym (get_or_past ns n 0 (omega arith)))
    (cases_lt n (2 ^ 64 - 1))

capped_on : (n m b : ℕ) → m ≡ capped n → min (m + b) (2 ^ 64 - 1) ≡ capped (n + b)
capped_on n m b e = omega arith

-- one event more
pub come_on : (schedule : Schedule) (es : List Event) (e : Event) (p q : Progress) → HasCome schedule es p → q.events ≡ min (p.events + 1) (2 ^ 64 - 1) → q.releases ≡ min (p.releases + (if is_release e then 1 else 0)) (2 ^ 64 - 1) → q.generator ≡ (1664525 * p.generator + 1013904223) % 2 ^ 32 → HasCome schedule (es ++ e ∷ []) q
come_on schedule es e p q h events releases generator =
    let x = seed_of schedule in
    let one : length es + 1 ≡ suc (length es) = omega arith in
    record {
      events = events ∙ capped_on (length es) p.events 1 h.events ∙ ap capped (one ∙ sym (length_push es e));
      releases = releases ∙ capped_on (count_by is_release es) p.releases (if is_release e then 1 else 0) h.releases ∙ ap capped (sym (count_push is_release es e));
      generator = generator ∙ ap (λ s. (1664525 * s + 1013904223) % 2 ^ 32) h.generator ∙ ap (generated x) (sym (length_push es e));
    }
