-- The checks of a launch file of kernels in order give what it gives.
use Rattle.std.proofs.Common.{◌≡◌, ◌≢◌, ◌∙◌, ℕ, suc, ◌+◌, ◌<◌, List, [], ◌∷◌, ◌++◌, length, drop, get_or, refl, sym, ap, subst, arith, append_assoc, Some, None, Bool, true, false}
use Rattle.std.specs.Prelude.{◌==◌, ◌&&◌, IsTrue, IsUtf8, Result, Ok, Err, IfErr, codes, map, option_and_then, if◌then◌else◌}
use Rattle.std.specs.Option.{ok_or}
use Rattle.std.specs.Result.{IsErrAnd}
use Rattle.std.proofs.lemmas.List.{drop_more, get_or-map}
use Rattle.serde_json.specs.Data.{Data, Items, array}
use Rattle.serde_json.specs.Find.{get, as_array}
use Rattle.serde_json.specs.Read.{read}
use Rattle.serde_json.specs.View.{view, items_of, items_view}
use Rattle.serde_json.specs.declared.value.Value as json
use Rattle.size_arith.specs.Ranges.{Admissible, sizes_at}
use Rattle.lift_tree.specs.Limits.{HasProperInputs}
use Rattle.lift_tree.specs.Programs.{PlainProgram}
use Rattle.lift_tree.specs.Typing.{declared_by}
use Rattle.launch_file.specs.declared.file.Ask.{Ask}
use Rattle.launch_file.specs.declared.refusal.Key.TheVariants as key
use Rattle.launch_file.specs.declared.refusal.LaunchNo.{LaunchNo}
use Rattle.launch_file.specs.declared.refusal.LaunchNo.TheVariants as no
use Rattle.launch_file.specs.Json.{is_object, object_at, pair_at}
use Rattle.launch_file.specs.LaunchFile.{IsSchedule, PlainAsk, ask_of, asks_in}
use Rattle.launch_file.specs.Judged.{and_then, bases_of, demand, inputs_judged, items_judged, schedule_at, sizes_judged}
use Rattle.launch_file.specs.Stages.{Shared, Count, GivenInOrder, GivesCount, GiveCounts, GivesAll, IsStagesFile, members, all_objects, objects_in, launches_at, StageKeys, stage_keys_judged, stage_judged, stages_judged_from, shared_given, stages_judged}
use Rattle.launch_file.proofs.Options.{and_ok, ok_or_is, demand_is, yes, same_ok, and_some, tested, passed, and_parts, and_both, eq_of, eq_to}
use Rattle.launch_file.proofs.WrittenData.{pair_at_is, object_at_is, as_array_is}
use Rattle.launch_file.proofs.AtKeys.{schedule_at_is, items_are}
use Rattle.launch_file.proofs.Ranges.{admissible_bases, sizes-bases}
use Rattle.launch_file.proofs.Whole.{sizes_are, inputs_are}

-- ---- the keys

pub record AreStageKeys (count : ℕ) (d : Data) (k : StageKeys) : Type 0 where
  pub launches : (ds : Items) × (get (codes "launches") d ≡ Some (array ds)) × (members ds ≡ k.launches)
  pub as_many : length k.launches ≡ count
  pub objects : IsTrue (all_objects k.launches)
  pub sizes : (get (codes "sizes") d ≡ Some k.sizes) × IsTrue (is_object k.sizes)
  pub inputs : (get (codes "inputs") d ≡ Some k.inputs) × IsTrue (is_object k.inputs)
  pub schedule : IsSchedule (get (codes "schedule") d) k.schedule

stage_keys_are : (count : ℕ) (d : Data) (k : StageKeys) → stage_keys_judged count d ≡ Ok k → AreStageKeys count d k
stage_keys_are count d k h =
    let m = and_ok (ok_or (launches_at count d) (no.Missing key.Launches)) _ k h in
    let s = and_ok (ok_or (object_at (codes "sizes") d) (no.Missing key.Sizes)) _ k m.2 in
    let i = and_ok (ok_or (object_at (codes "inputs") d) (no.Missing key.Inputs)) _ k s.2 in
    let t = and_ok (schedule_at (get (codes "schedule") d)) _ k i.2 in
    let list = and_some (λ (ds : Items). objects_in count (members ds)) _ m.0 (ok_or_is (launches_at count d) (no.Missing key.Launches) m.0 m.1) in
    let there = and_some as_array (get (codes "launches") d) list.0 list.1 in
    let o = tested ((length (members list.0) == count) && all_objects (members list.0)) (members list.0) m.0 list.2 in
    let both = and_parts (length (members list.0) == count) _ o.0 in
    let whole : StageKeys = record { launches = m.0; sizes = s.0; inputs = i.0; schedule = t.0 } in
    let found : AreStageKeys count d whole = record {
      launches = (list.0, there.1 ∙ ap Some (as_array_is there.0 list.0 there.2), o.1);
      as_many = ap length (sym o.1) ∙ eq_of (length (members list.0)) count both.0;
      objects = subst (λ ds. IsTrue (all_objects ds)) o.1 both.1;
      sizes = object_at_is (codes "sizes") d s.0 (ok_or_is (object_at (codes "sizes") d) (no.Missing key.Sizes) s.0 s.1);
      inputs = object_at_is (codes "inputs") d i.0 (ok_or_is (object_at (codes "inputs") d) (no.Missing key.Inputs) i.0 i.1);
      schedule = schedule_at_is (get (codes "schedule") d) t.0 t.1;
    } in
    subst (AreStageKeys count d) (same_ok whole k t.2) found

-- ---- the kernels

module _ (p : PlainProgram) (s : Shared) (adm : Admissible (declared_by p).names s.bases) where
  stage_is : (k : ℕ) (ask : PlainAsk) (own : Data) (c : Count) → IsTrue (is_object own) → stage_judged k ask own ≡ Ok c → GivesCount p s ask own c
  stage_is k ask own c object h =
      let g = and_ok (ok_or (pair_at (codes "global") own) (no.Missing (key.GlobalOf k))) _ c h in
      let l = and_ok (ok_or (pair_at (codes "local") own) (no.Missing (key.LocalOf k))) _ c g.2 in
      let i = and_ok (items_judged (asks_in ask) g.0 l.0) _ c l.2 in
      let grouped = items_are (asks_in ask) g.0 l.0 i.0 i.1 in
      let whole : Count = record { global = g.0; local = l.0 } in
      let found : GivesCount p s ask own whole = record {
        object = object;
        global = pair_at_is (codes "global") own g.0 (ok_or_is (pair_at (codes "global") own) (no.Missing (key.GlobalOf k)) g.0 g.1);
        local = pair_at_is (codes "local") own l.0 (ok_or_is (pair_at (codes "local") own) (no.Missing (key.LocalOf k)) l.0 l.1);
        admissible = record {
          sizes = adm;
          local_least = grouped.local_least;
          local_most = grouped.local_most;
          global_least = grouped.global_least;
          global_most = grouped.global_most;
          divides = grouped.divides;
          fixed = grouped.fixed;
          alone = grouped.alone;
          flat = grouped.flat;
        };
      } in
      subst (GivesCount p s ask own) (same_ok whole c i.2) found

  stages_are : (k : ℕ) (asks : List PlainAsk) (owns : List Data) (cs : List Count) → length owns ≡ length asks → IsTrue (all_objects owns) → stages_judged_from k asks owns ≡ Ok cs → GiveCounts p s asks owns cs
  stages_are k [] [] cs n o h = subst (GiveCounts p s [] []) (same_ok [] cs h) tt
  stages_are k [] (own ∷ owns) cs n o h = absurd (omega (arith, n))
  stages_are k (ask ∷ asks) [] cs n o h = absurd (omega (arith, n))
  stages_are k (ask ∷ asks) (own ∷ owns) cs n o h =
      let a = and_ok (stage_judged k ask own) _ cs h in
      let b = and_ok (stages_judged_from (suc k) asks owns) _ cs a.2 in
      let both = and_parts (is_object own) (all_objects owns) o in
      let m : length owns ≡ length asks = omega (arith, n) in
      subst (GiveCounts p s (ask ∷ asks) (own ∷ owns)) (same_ok (a.0 ∷ b.0) cs b.2)
      (stage_is k ask own a.0 both.0 a.1, stages_are (suc k) asks owns b.0 m both.1 b.1)

pub all_given : (p : PlainProgram) (asks : List PlainAsk) (d : Data) (g : GivenInOrder) → HasProperInputs p → stages_judged p asks d ≡ Ok g → GivesAll p asks d g
all_given p asks d g proper h =
    let names = (declared_by p).names in
    let a = and_ok (demand (is_object d) no.NotJson) _ g h in
    let k = and_ok (stage_keys_judged (length asks) d) _ g a.2 in
    let s = and_ok (sizes_judged 0 p.sizes k.0.sizes) _ g k.2 in
    let c = and_ok (stages_judged_from 0 asks k.0.launches) _ g s.2 in
    let v = and_ok (inputs_judged s.0 0 p.inputs k.0.inputs) _ g c.2 in
    let at = stage_keys_are (length asks) d k.0 k.1 in
    let r = sizes_are 0 p.sizes k.0.sizes s.0 s.1 in
    let ys = bases_of p.sizes s.0 in
    let adm : Admissible names ys = admissible_bases p.sizes s.0 r.0 in
    let e : s.0 ≡ sizes_at names ys = sizes-bases p.sizes s.0 r.0 in
    let w = inputs_are names ys proper.declared.few proper.declared.names adm 0 p.inputs proper.declared.inputs k.0.inputs v.0 (subst (λ ns. inputs_judged ns 0 p.inputs k.0.inputs ≡ Ok v.0) e v.1) in
    let all : Shared = shared_given p s.0 k.0.schedule v.0 in
    let each = stages_are p all adm 0 asks k.0.launches c.0 at.as_many at.objects c.1 in
    let own = at.launches in
    let whole : GivenInOrder = record { shared = all; counts = c.0 } in
    let found : GivesAll p asks d whole = record {
      object = demand_is (is_object d) no.NotJson a.0 a.1;
      shared = record {
        sizes = (k.0.sizes, at.sizes.0, at.sizes.1, r.1);
        inputs = (k.0.inputs, at.inputs.0, at.inputs.1, w.0);
        schedule = at.schedule;
        bases = e;
        admissible = adm;
        typed = w.1;
      };
      launches = (own.0, own.1, subst (λ xs. GiveCounts p all asks xs c.0) (sym own.2) each);
    } in
    subst (GivesAll p asks d) (same_ok whole g v.2) found

pub stages_file_is : (p : PlainProgram) (asks : List PlainAsk) (bytes : List ℕ) (d : Data) (g : GivenInOrder) → HasProperInputs p → IsUtf8 bytes → read bytes ≡ Some d → stages_judged p asks d ≡ Ok g → IsStagesFile p asks bytes g
stages_file_is p asks bytes d g proper text e h = (d, (text, e), all_given p asks d g proper h)

-- ---- what the code owes

members_of : (ds : List Data) → members (items_of ds) ≡ ds
members_of [] = refl
members_of (d ∷ ds) = ap (λ xs. d ∷ xs) (members_of ds)

-- a list's members, as the code holds them
pub are_members : (vs : List json.Value) → members (items_view vs) ≡ map view vs
are_members vs = members_of (map view vs)

behind : (r : Result (List Count) LaunchNo) (w : Count) (old : List Count) → and_then (and_then r (λ vs. yes (w ∷ vs))) (λ vs. yes (old ++ vs)) ≡ and_then r (λ vs. yes ((old ++ w ∷ []) ++ vs))
behind (Ok vs) w old = ap yes (sym (append_assoc old (w ∷ []) vs))
behind (Err e) w old = refl

-- the work-items of one more kernel
pub stages_step : (asks : List PlainAsk) (ds : List Data) (i : ℕ) (old new : List Count) (ask : PlainAsk) (d : Data) (c : Count)
    → i < length asks → i < length ds → d ≡ get_or ds i d → stage_judged i (get_or asks i ask) d ≡ Ok c → new ≡ old ++ c ∷ []
    → and_then (stages_judged_from i (drop i asks) (drop i ds)) (λ cs. yes (old ++ cs))
    ≡ and_then (stages_judged_from (i + 1) (drop (i + 1) asks) (drop (i + 1) ds)) (λ cs. yes (new ++ cs))
stages_step asks ds i old new ask d c l m f h n =
    let owns = drop (i + 1) ds in
    let more = drop (i + 1) asks in
    let there : drop i ds ≡ d ∷ owns = drop_more ds i d m ∙ ap (λ x. x ∷ owns) (sym f) in
    let next : suc i ≡ i + 1 = omega arith in
    ap (λ xs. and_then (stages_judged_from i xs (drop i ds)) (λ cs. yes (old ++ cs))) (drop_more asks i ask l)
    ∙ ap (λ xs. and_then (stages_judged_from i (get_or asks i ask ∷ more) xs) (λ cs. yes (old ++ cs))) there
    ∙ ap (λ r. and_then (and_then r (λ w. and_then (stages_judged_from (suc i) more owns) (λ cs. yes (w ∷ cs)))) (λ cs. yes (old ++ cs))) h
    ∙ behind (stages_judged_from (suc i) more owns) c old
    ∙ ap (λ ws. and_then (stages_judged_from (suc i) more owns) (λ cs. yes (ws ++ cs))) (sym n)
    ∙ ap (λ k. and_then (stages_judged_from k more owns) (λ cs. yes (new ++ cs))) next

-- a kernel that is refused is the first of all that are
pub stages_refused : (asks : List PlainAsk) (ds : List Data) (i : ℕ) (old : List Count) (ask : PlainAsk) (d : Data) (e : LaunchNo)
    → i < length asks → i < length ds → d ≡ get_or ds i d → stage_judged i (get_or asks i ask) d ≡ Err e
    → and_then (stages_judged_from i (drop i asks) (drop i ds)) (λ cs. yes (old ++ cs)) ≡ Err e
stages_refused asks ds i old ask d e l m f h =
    let owns = drop (i + 1) ds in
    let more = drop (i + 1) asks in
    let there : drop i ds ≡ d ∷ owns = drop_more ds i d m ∙ ap (λ x. x ∷ owns) (sym f) in
    ap (λ xs. and_then (stages_judged_from i xs (drop i ds)) (λ cs. yes (old ++ cs))) (drop_more asks i ask l)
    ∙ ap (λ xs. and_then (stages_judged_from i (get_or asks i ask ∷ more) xs) (λ cs. yes (old ++ cs))) there
    ∙ ap (λ r. and_then (and_then r (λ w. and_then (stages_judged_from (suc i) more owns) (λ cs. yes (w ∷ cs)))) (λ cs. yes (old ++ cs))) h

-- its cause is handed on
pub handed_on : {V : Type 0} (judged : Result (List Count) LaunchNo) (r : Result V LaunchNo) (e : LaunchNo) → IsErrAnd r (λ x. x ≡ e) → judged ≡ Err e → IfErr r (λ x. x ≢ no.Memory → judged ≡ Err x)
handed_on judged (Ok v) e same h = tt
handed_on judged (Err x) e same h = λ _. subst (λ y. judged ≡ Err y) (sym same) h

-- what is asked of the kernel of this number
pub asked_at : (asks : List Ask) (i : ℕ) (a : Ask) → i < length asks → ask_of (get_or asks i a) ≡ get_or (map ask_of asks) i (ask_of a)
asked_at asks i a l = sym (get_or-map ask_of asks i a (ask_of a) l)

-- the object of this number
pub own_at : (vs : List json.Value) (i : ℕ) (v : json.Value) → i < length vs → v ≡ get_or vs i v → view v ≡ get_or (map view vs) i (view v)
own_at vs i v l e = ap view e ∙ sym (get_or-map view vs i v (view v) l)

-- ---- the kernels' own objects

pub launches_are : (count : ℕ) (d v : Data) (vs xs : List json.Value) → Some v ≡ get (codes "launches") d → Some (items_view vs) ≡ as_array v → xs ≡ vs
    → launches_at count d ≡ objects_in count (map view xs)
launches_are count d v vs xs e f x =
    ap (λ o. option_and_then (λ (ds : Items). objects_in count (members ds)) (option_and_then as_array o)) (sym e)
    ∙ ap (λ o. option_and_then (λ (ds : Items). objects_in count (members ds)) o) (sym f)
    ∙ ap (objects_in count) (are_members vs ∙ ap (map view) (sym x))

-- so many, each an object
pub objects_found : (count : ℕ) (ds : List Data) → length ds ≡ count → IsTrue (all_objects ds) → objects_in count ds ≡ Some ds
objects_found count ds n o = passed ((length ds == count) && all_objects ds) ds (and_both (length ds == count) (all_objects ds) (eq_to (length ds) count n) o)

lost : (b : Bool) (ds : List Data) → (IsTrue b → ⊥) → (if b then Some ds else None) ≡ None
lost true ds h = absurd (h refl)
lost false ds h = refl

-- not so many, or one that is no object
pub objects_lost : (count : ℕ) (ds : List Data) → (length ds ≡ count → IsTrue (all_objects ds) → ⊥) → objects_in count ds ≡ None
objects_lost count ds h =
    lost ((length ds == count) && all_objects ds) ds (λ t. let both = and_parts (length ds == count) (all_objects ds) t in h (eq_of (length ds) count both.0) both.1)
