-- What stands at the keys, and how many work-items there are.
use Rattle.std.proofs.Common.{◌≡◌, ◌∙◌, ℕ, ◌≤◌, ◌<◌, ◌^◌, ◌*◌, ◌%◌, arith, Bool, List, refl, sym, ap, subst, Option, Some, None, true, false}
use Rattle.std.specs.Prelude.{◌&&◌, ◌||◌, ◌==◌, not, IsTrue, Ok, codes, nat_le, option_map, option_and_then}
use Rattle.std.specs.Option.{ok_or}
use Rattle.std.proofs.lemmas.Nat.{mul-le}
use Rattle.serde_json.specs.Data.{Data, array, Items}
use Rattle.serde_json.specs.Find.{get, as_array}
use Rattle.kernel_tree.specs.Launch.{Launch}
use Rattle.kernel_tree.specs.Schedule.{Schedule, Numbers, Seed, in_order}
use Rattle.lift_tree.specs.Launches.{Asks, IsFixedSize}
use Rattle.launch_file.specs.declared.refusal.Key.TheVariants as key
use Rattle.launch_file.specs.declared.refusal.LaunchNo.{LaunchNo}
use Rattle.launch_file.specs.declared.refusal.LaunchNo.TheVariants as no
use Rattle.launch_file.specs.Json.{is_object, pair_at, object_at, word_in, words_in, number_data}
use Rattle.launch_file.specs.LaunchFile.{PlainAsk, Run, Eval, Cost, HoldsInputs, PairAt, IsScheduleData, IsSchedule, GivesSchedule, GivesItems}
use Rattle.launch_file.specs.Judged.{holder_judged, demand, schedule_from, schedule_in, schedule_at, schedule_judged, count_judged, Keyed, keys_judged, is_size, is_asked_size, is_grouped, is_enough, is_flat, items_judged}
use Rattle.launch_file.proofs.Options.{and_ok, then_ok, ok_or_is, demand_is, demand_gives, yes, same_ok, and_some, map_some, and_parts, and_both, le_of, le_to, eq_of, eq_to}
use Rattle.launch_file.proofs.WrittenData.{pair_at_is, pair_at_gives, object_at_is, object_at_gives, word_in_is, word_in_gives, words_in_is, words_in_gives, as_array_is, no_list}

from_is : (d : Data) (o : Option Items) (seed : Option ℕ) (s : Schedule) → as_array d ≡ o → option_and_then word_in (get (codes "seed") d) ≡ seed → schedule_from o seed ≡ Some s → IsScheduleData d s
from_is d (Some ds) seed s e f h =
    let m = map_some Numbers (words_in ds) s h in
    let w = words_in_is ds m.0 m.1 in
    subst (IsScheduleData d) m.2 (as_array_is d ds e ∙ ap array w.0, w.1)
from_is d None seed s e f h =
    let m = map_some Seed seed s h in
    let a = and_some word_in (get (codes "seed") d) m.0 (f ∙ m.1) in
    let w = word_in_is a.0 m.0 a.2 in
    subst (IsScheduleData d) m.2 (a.1 ∙ ap Some w.0, w.1)

schedule_in_is : (d : Data) (s : Schedule) → schedule_in d ≡ Some s → IsScheduleData d s
schedule_in_is d s h = from_is d (as_array d) (option_and_then word_in (get (codes "seed") d)) s refl refl h

schedule_in_gives : (d : Data) (s : Schedule) → IsScheduleData d s → schedule_in d ≡ Some s
schedule_in_gives d (Numbers ns) h = subst (λ e. schedule_in e ≡ Some (Numbers ns)) (sym h.0) (ap (option_map Numbers) (words_in_gives ns h.1))
schedule_in_gives d (Seed x) h =
    ap (λ o. schedule_from o (option_and_then word_in (get (codes "seed") d))) (no_list (codes "seed") d (number_data x) h.0)
    ∙ ap (option_map Seed) (ap (option_and_then word_in) h.0 ∙ word_in_gives x h.1)

pub schedule_at_is : (o : Option Data) (s : Schedule) → schedule_at o ≡ Ok s → IsSchedule o s
schedule_at_is None s h = sym (same_ok in_order s h)
schedule_at_is (Some d) s h = schedule_in_is d s (ok_or_is (schedule_in d) (no.Missing key.Schedule) s h)

pub schedule_at_gives : (o : Option Data) (s : Schedule) → IsSchedule o s → schedule_at o ≡ Ok s
schedule_at_gives None s h = ap yes (sym h)
schedule_at_gives (Some d) s h = ap (λ p. ok_or p (no.Missing key.Schedule)) (schedule_in_gives d s h)

schedule_is : (ask : PlainAsk) (d : Data) (s : Schedule) → schedule_judged ask d ≡ Ok s → GivesSchedule ask d s
schedule_is (Run asks) d s h = schedule_at_is (get (codes "schedule") d) s h
schedule_is (Cost asks) d s h = sym (same_ok in_order s h)
schedule_is Eval d s h = sym (same_ok in_order s h)

schedule_gives : (ask : PlainAsk) (d : Data) (s : Schedule) → GivesSchedule ask d s → schedule_judged ask d ≡ Ok s
schedule_gives (Run asks) d s h = schedule_at_gives (get (codes "schedule") d) s h
schedule_gives (Cost asks) d s h = ap yes (sym h)
schedule_gives Eval d s h = ap yes (sym h)

-- ---- the work-items
abbrev IsCount : PlainAsk → List ℕ → Data → ℕ × ℕ → Type 0
IsCount (Run asks) name d n = PairAt name d n
IsCount (Cost asks) name d n = PairAt name d n
IsCount Eval name d n = n ≡ (1, 1)

count_is : (ask : PlainAsk) (name : List ℕ) (missing : LaunchNo) (d : Data) (n : ℕ × ℕ) → count_judged ask name missing d ≡ Ok n → IsCount ask name d n
count_is (Run asks) name missing d n h = pair_at_is name d n (ok_or_is (pair_at name d) missing n h)
count_is (Cost asks) name missing d n h = pair_at_is name d n (ok_or_is (pair_at name d) missing n h)
count_is Eval name missing d n h = sym (same_ok (1, 1) n h)

count_gives : (ask : PlainAsk) (name : List ℕ) (missing : LaunchNo) (d : Data) (n : ℕ × ℕ) → IsCount ask name d n → count_judged ask name missing d ≡ Ok n
count_gives (Run asks) name missing d n h = ap (λ o. ok_or o missing) (pair_at_gives name d n h)
count_gives (Cost asks) name missing d n h = ap (λ o. ok_or o missing) (pair_at_gives name d n h)
count_gives Eval name missing d n h = ap yes (sym h)

counts_are : (ask : PlainAsk) (d : Data) (l : Launch) → IsCount ask (codes "global") d l.global → IsCount ask (codes "local") d l.local → GivesItems ask d l
counts_are (Run asks) d l g h = (g, h)
counts_are (Cost asks) d l g h = (g, h)
counts_are Eval d l g h = (g, h)

global_is : (ask : PlainAsk) (d : Data) (l : Launch) → GivesItems ask d l → IsCount ask (codes "global") d l.global
global_is (Run asks) d l h = h.0
global_is (Cost asks) d l h = h.0
global_is Eval d l h = h.0

local_is : (ask : PlainAsk) (d : Data) (l : Launch) → GivesItems ask d l → IsCount ask (codes "local") d l.local
local_is (Run asks) d l h = h.1
local_is (Cost asks) d l h = h.1
local_is Eval d l h = h.1

-- the object of the inputs
holder_is : (ask : PlainAsk) (d e : Data) → holder_judged ask d ≡ Ok e → HoldsInputs ask d e
holder_is (Run asks) d e h = object_at_is (codes "inputs") d e (ok_or_is (object_at (codes "inputs") d) (no.Missing key.Inputs) e h)
holder_is Eval d e h = object_at_is (codes "inputs") d e (ok_or_is (object_at (codes "inputs") d) (no.Missing key.Inputs) e h)
holder_is (Cost asks) d e h = same_ok d e h

holder_gives : (ask : PlainAsk) (d e : Data) → HoldsInputs ask d e → holder_judged ask d ≡ Ok e
holder_gives (Run asks) d e h = ap (λ o. ok_or o (no.Missing key.Inputs)) (object_at_gives (codes "inputs") d e h.0 h.1)
holder_gives Eval d e h = ap (λ o. ok_or o (no.Missing key.Inputs)) (object_at_gives (codes "inputs") d e h.0 h.1)
holder_gives (Cost asks) d e h = ap yes h

-- ---- the keys
pub record AreKeyed (ask : PlainAsk) (d : Data) (k : Keyed) (given : List ℕ) : Type 0 where
  pub items : GivesItems ask d (record { global = k.global; local = k.local; sizes = given })
  pub sizes : (get (codes "sizes") d ≡ Some k.sizes) × IsTrue (is_object k.sizes)
  pub inputs : HoldsInputs ask d k.inputs
  pub schedule : GivesSchedule ask d k.schedule

pub keys_are : (ask : PlainAsk) (d : Data) (k : Keyed) (sizes : List ℕ) → keys_judged ask d ≡ Ok k → AreKeyed ask d k sizes
keys_are ask d k sizes h =
    let g = and_ok (count_judged ask (codes "global") (no.Missing key.Global) d) _ k h in
    let l = and_ok (count_judged ask (codes "local") (no.Missing key.Local) d) _ k g.2 in
    let s = and_ok (ok_or (object_at (codes "sizes") d) (no.Missing key.Sizes)) _ k l.2 in
    let i = and_ok (holder_judged ask d) _ k s.2 in
    let t = and_ok (schedule_judged ask d) _ k i.2 in
    let whole : Keyed = record { global = g.0; local = l.0; sizes = s.0; inputs = i.0; schedule = t.0 } in
    let found : AreKeyed ask d whole sizes = record {
      items = counts_are ask d (record { global = g.0; local = l.0; sizes = sizes }) (count_is ask (codes "global") (no.Missing key.Global) d g.0 g.1) (count_is ask (codes "local") (no.Missing key.Local) d l.0 l.1);
      sizes = object_at_is (codes "sizes") d s.0 (ok_or_is (object_at (codes "sizes") d) (no.Missing key.Sizes) s.0 s.1);
      inputs = holder_is ask d i.0 i.1;
      schedule = schedule_is ask d t.0 t.1;
    } in
    subst (λ x. AreKeyed ask d x sizes) (same_ok whole k t.2) found

pub keys_give : (ask : PlainAsk) (d : Data) (k : Keyed) (sizes : List ℕ) → AreKeyed ask d k sizes → keys_judged ask d ≡ Ok k
keys_give ask d k sizes h =
    let launch : Launch = record { global = k.global; local = k.local; sizes = sizes } in
    then_ok _ _ k.global k (count_gives ask (codes "global") (no.Missing key.Global) d k.global (global_is ask d launch h.items))
    (then_ok _ _ k.local k (count_gives ask (codes "local") (no.Missing key.Local) d k.local (local_is ask d launch h.items))
    (then_ok _ _ k.sizes k (ap (λ o. ok_or o (no.Missing key.Sizes)) (object_at_gives (codes "sizes") d k.sizes h.sizes.0 h.sizes.1))
    (then_ok _ _ k.inputs k (holder_gives ask d k.inputs h.inputs)
    (then_ok _ _ k.schedule k (schedule_gives ask d k.schedule h.schedule) refl))))

-- ---- how many work-items there are
pub record AreGrouped (asks : Asks) (global local : ℕ × ℕ) : Type 0 where
  pub local_least : (1 ≤ local.0) × (1 ≤ local.1)
  pub local_most : local.0 * local.1 ≤ 256
  pub global_least : (1 ≤ global.0) × (1 ≤ global.1)
  pub global_most : global.0 * global.1 ≤ 65536
  pub divides : (global.0 % local.0 ≡ 0) × (global.1 % local.1 ≡ 0)
  pub fixed : IsFixedSize asks.local local
  pub alone : asks.alone ≡ true → global.0 * global.1 ≡ 1
  pub flat : asks.flat ≡ true → global.1 ≡ 1

abbrev IsSize : (most : ℕ) → ℕ × ℕ → Type 0
IsSize most s = ((1 ≤ s.0) × (1 ≤ s.1)) × (s.0 * s.1 ≤ most)

size_is : (most : ℕ) (s : ℕ × ℕ) → IsTrue (is_size most s) → IsSize most s
size_is most s h =
    let p = and_parts (nat_le 1 s.0) _ h in
    let q = and_parts (nat_le 1 s.1) _ p.1 in
    ((le_of 1 s.0 p.0, le_of 1 s.1 q.0), le_of (s.0 * s.1) most q.1)

size_gives : (most : ℕ) (s : ℕ × ℕ) → IsSize most s → IsTrue (is_size most s)
size_gives most s h = and_both (nat_le 1 s.0) _ (le_to 1 s.0 h.0.0) (and_both (nat_le 1 s.1) _ (le_to 1 s.1 h.0.1) (le_to (s.0 * s.1) most h.1))

few_along : (most : ℕ) (s : ℕ × ℕ) → most < 2 ^ 32 → IsTrue (is_size most s) → (s.0 < 2 ^ 32) × (s.1 < 2 ^ 32)
few_along most s few h =
    let z = size_is most s h in
    let across : s.0 * 1 ≤ s.0 * s.1 = mul-le s.0 1 s.0 s.1 (omega arith) z.0.1 in
    let down : 1 * s.1 ≤ s.0 * s.1 = mul-le 1 s.1 s.0 s.1 z.0.0 (omega arith) in
    let all = z.1 in
    (omega arith, omega arith)

-- along each dimension the work-items are few
pub are_few : (global local : ℕ × ℕ) → IsTrue (is_grouped global local) → ((global.0 < 2 ^ 32) × (global.1 < 2 ^ 32)) × ((local.0 < 2 ^ 32) × (local.1 < 2 ^ 32))
are_few global local h =
    let p = and_parts (is_size 256 local) _ h in
    let q = and_parts (is_size 65536 global) _ p.1 in
    (few_along 65536 global (omega arith) q.0, few_along 256 local (omega arith) p.0)

asked_is : (fixed : Option (ℕ × ℕ)) (local : ℕ × ℕ) → IsTrue (is_asked_size fixed local) → IsFixedSize fixed local
asked_is (Some size) local h =
    let b = and_parts (local.0 == size.0) _ h in
    ap (λ k. (k, local.1)) (eq_of local.0 size.0 b.0) ∙ ap (λ m. (size.0, m)) (eq_of local.1 size.1 b.1)
asked_is None local h = tt

asked_gives : (fixed : Option (ℕ × ℕ)) (local : ℕ × ℕ) → IsFixedSize fixed local → IsTrue (is_asked_size fixed local)
asked_gives (Some size) local h =
    and_both (local.0 == size.0) _ (eq_to local.0 size.0 (ap (λ (s : ℕ × ℕ). s.0) h)) (eq_to local.1 size.1 (ap (λ (s : ℕ × ℕ). s.1) h))
asked_gives None local h = refl

where_asked : (asked b : Bool) → IsTrue (not asked || b) → asked ≡ true → IsTrue b
where_asked true b h t = h
where_asked false b h t = absurd (cc)

if_asked : (asked b : Bool) → (asked ≡ true → IsTrue b) → IsTrue (not asked || b)
if_asked true b h = h refl
if_asked false b h = refl

pub items_are : (asks : Asks) (global local : ℕ × ℕ) (u : Unit {0}) → items_judged asks global local ≡ Ok u → AreGrouped asks global local
items_are asks global local u h =
    let a = and_ok (demand (is_grouped global local && is_asked_size asks.local local) _) _ u h in
    let e = and_ok (demand (is_enough asks global) _) _ u a.2 in
    let t = and_parts (is_grouped global local) _ (demand_is (is_grouped global local && is_asked_size asks.local local) _ a.0 a.1) in
    let p = and_parts (is_size 256 local) _ t.0 in
    let q = and_parts (is_size 65536 global) _ p.1 in
    let r = and_parts (global.0 % local.0 == 0) _ q.1 in
    let l = size_is 256 local p.0 in
    let g = size_is 65536 global q.0 in
    record {
      local_least = l.0;
      local_most = l.1;
      global_least = g.0;
      global_most = g.1;
      divides = (eq_of (global.0 % local.0) 0 r.0, eq_of (global.1 % local.1) 0 r.1);
      fixed = asked_is asks.local local t.1;
      alone = λ w. eq_of (global.0 * global.1) 1 (where_asked asks.alone _ (demand_is (is_enough asks global) _ e.0 e.1) w);
      flat = λ w. eq_of global.1 1 (where_asked asks.flat _ (demand_is (is_flat asks global) _ u e.2) w);
    }

pub items_give : (asks : Asks) (global local : ℕ × ℕ) → AreGrouped asks global local → items_judged asks global local ≡ Ok tt
items_give asks global local h =
    let whole = and_both (global.0 % local.0 == 0) _ (eq_to (global.0 % local.0) 0 h.divides.0) (eq_to (global.1 % local.1) 0 h.divides.1) in
    let t = and_both (is_size 256 local) _ (size_gives 256 local (h.local_least, h.local_most)) (and_both (is_size 65536 global) _ (size_gives 65536 global (h.global_least, h.global_most)) whole) in
    then_ok _ _ tt tt (demand_gives (is_grouped global local && is_asked_size asks.local local) _ (and_both (is_grouped global local) _ t (asked_gives asks.local local h.fixed)))
    (then_ok _ _ tt tt (demand_gives (is_enough asks global) _ (if_asked asks.alone _ (λ w. eq_to (global.0 * global.1) 1 (h.alone w))))
    (demand_gives (is_flat asks global) _ (if_asked asks.flat _ (λ w. eq_to global.1 1 (h.flat w)))))
