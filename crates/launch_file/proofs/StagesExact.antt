-- A launch file of kernels in order is refused for nothing, and gives one thing alone.
use Rattle.std.proofs.Common.{◌≡◌, ◌∙◌, ℕ, suc, List, [], ◌∷◌, length, refl, sym, ap, subst, Some, inl, inr}
use Rattle.std.specs.Prelude.{IsTrue, Result, Ok, Err, codes, option_and_then}
use Rattle.std.specs.Option.{ok_or}
use Rattle.serde_json.specs.Data.{Data, Items, array}
use Rattle.serde_json.specs.Find.{get, as_array}
use Rattle.lift_tree.specs.Limits.{HasProperInputs}
use Rattle.lift_tree.specs.Programs.{PlainProgram}
use Rattle.lift_tree.specs.Typing.{declared_by}
use Rattle.launch_file.specs.declared.refusal.Key.TheVariants as key
use Rattle.launch_file.specs.declared.refusal.LaunchNo.{LaunchNo}
use Rattle.launch_file.specs.declared.refusal.LaunchNo.TheVariants as no
use Rattle.launch_file.specs.Json.{is_object}
use Rattle.launch_file.specs.LaunchFile.{PlainAsk, asks_in}
use Rattle.launch_file.specs.Judged.{AreInRange, bases_of, inputs_judged}
use Rattle.launch_file.specs.Laws.{StagesChecksAreExact, StagesFilesAreNotRefused, StagesFilesGiveOneThing}
use Rattle.launch_file.specs.Stages.{Shared, Count, GivenInOrder, GivesCount, GiveCounts, GivesAll, RefusesStages, members, all_objects, objects_in, launches_at, StageKeys, stage_keys_judged, stage_judged, stages_judged_from, shared_given, stages_judged}
use Rattle.launch_file.proofs.Options.{then_ok, demand_gives, yes, same_ok, same_some, and_both}
use Rattle.launch_file.proofs.WrittenData.{pair_at_gives, object_at_gives}
use Rattle.launch_file.proofs.AtKeys.{AreGrouped, schedule_at_gives, items_give}
use Rattle.launch_file.proofs.Ranges.{bases-sizes, sizes_in_range}
use Rattle.launch_file.proofs.Whole.{sizes_give, inputs_give}
use Rattle.launch_file.proofs.InOrder.{AreStageKeys, all_given, objects_found}

launches_give : (count : ℕ) (d : Data) (ds : Items) → get (codes "launches") d ≡ Some (array ds) → length (members ds) ≡ count → IsTrue (all_objects (members ds)) → launches_at count d ≡ Some (members ds)
launches_give count d ds h n o =
    ap (λ x. option_and_then (λ (es : Items). objects_in count (members es)) (option_and_then as_array x)) h ∙ objects_found count (members ds) n o

stage_keys_give : (count : ℕ) (d : Data) (k : StageKeys) → AreStageKeys count d k → stage_keys_judged count d ≡ Ok k
stage_keys_give count d k h =
    let own = h.launches in
    let there : launches_at count d ≡ Some k.launches =
    subst (λ xs. launches_at count d ≡ Some xs) own.2
    (launches_give count d own.0 own.1 (ap length own.2 ∙ h.as_many) (subst (λ xs. IsTrue (all_objects xs)) (sym own.2) h.objects)) in
    then_ok _ _ k.launches k (ap (λ o. ok_or o (no.Missing key.Launches)) there)
    (then_ok _ _ k.sizes k (ap (λ o. ok_or o (no.Missing key.Sizes)) (object_at_gives (codes "sizes") d k.sizes h.sizes.0 h.sizes.1))
    (then_ok _ _ k.inputs k (ap (λ o. ok_or o (no.Missing key.Inputs)) (object_at_gives (codes "inputs") d k.inputs h.inputs.0 h.inputs.1))
    (then_ok _ _ k.schedule k (schedule_at_gives (get (codes "schedule") d) k.schedule h.schedule) refl)))

stage_gives : (p : PlainProgram) (s : Shared) (k : ℕ) (ask : PlainAsk) (own : Data) (c : Count) → GivesCount p s ask own c → stage_judged k ask own ≡ Ok c
stage_gives p s k ask own c h =
    let grouped : AreGrouped (asks_in ask) c.global c.local = record {
      local_least = h.admissible.local_least;
      local_most = h.admissible.local_most;
      global_least = h.admissible.global_least;
      global_most = h.admissible.global_most;
      divides = h.admissible.divides;
      fixed = h.admissible.fixed;
      alone = h.admissible.alone;
      flat = h.admissible.flat;
    } in
    then_ok _ _ c.global c (ap (λ o. ok_or o (no.Missing (key.GlobalOf k))) (pair_at_gives (codes "global") own c.global h.global))
    (then_ok _ _ c.local c (ap (λ o. ok_or o (no.Missing (key.LocalOf k))) (pair_at_gives (codes "local") own c.local h.local))
    (then_ok _ _ tt c (items_give (asks_in ask) c.global c.local grouped) refl))

-- the work-items that the objects give pass their checks
record AreCounted (k : ℕ) (asks : List PlainAsk) (owns : List Data) (cs : List Count) : Type 0 where
  pub judged : stages_judged_from k asks owns ≡ Ok cs
  pub as_many : length owns ≡ length asks
  pub objects : IsTrue (all_objects owns)

stages_give : (p : PlainProgram) (s : Shared) (k : ℕ) (asks : List PlainAsk) (owns : List Data) (cs : List Count) → GiveCounts p s asks owns cs → AreCounted k asks owns cs
stages_give p s k [] [] [] h = record { judged = refl; as_many = refl; objects = refl }
stages_give p s k [] [] (c ∷ cs) h = absurd h
stages_give p s k [] (own ∷ owns) cs h = absurd h
stages_give p s k (ask ∷ asks) [] cs h = absurd h
stages_give p s k (ask ∷ asks) (own ∷ owns) [] h = absurd h
stages_give p s k (ask ∷ asks) (own ∷ owns) (c ∷ cs) h =
    let r = stages_give p s (suc k) asks owns cs h.1 in
    record {
      judged = then_ok _ _ c (c ∷ cs) (stage_gives p s k ask own c h.0) (then_ok _ _ cs (c ∷ cs) r.judged refl);
      as_many = ap suc r.as_many;
      objects = and_both (is_object own) (all_objects owns) h.0.object r.objects;
    }

all_gives : (p : PlainProgram) (asks : List PlainAsk) (d : Data) (g : GivenInOrder) → HasProperInputs p → GivesAll p asks d g → stages_judged p asks d ≡ Ok g
all_gives p asks d g proper h =
    let names = (declared_by p).names in
    let are = proper.declared.names in
    let s = g.shared in
    let gives = h.shared in
    let adm = gives.admissible in
    let own = h.launches in
    let r = stages_give p s 0 asks (members own.0) g.counts own.2 in
    let at : StageKeys = record { launches = members own.0; sizes = gives.sizes.0; inputs = gives.inputs.0; schedule = s.schedule } in
    let keyed : AreStageKeys (length asks) d at = record {
      launches = (own.0, own.1, refl);
      as_many = r.as_many;
      objects = r.objects;
      sizes = (gives.sizes.1, gives.sizes.2);
      inputs = (gives.inputs.1, gives.inputs.2);
      schedule = gives.schedule;
    } in
    let in_range : AreInRange p.sizes s.sizes = subst (AreInRange p.sizes) (sym gives.bases) (sizes_in_range p.sizes s.bases are adm) in
    let bases_are : bases_of p.sizes s.sizes ≡ s.bases = ap (bases_of p.sizes) gives.bases ∙ bases-sizes p.sizes s.bases are adm in
    let inputs_ok : inputs_judged s.sizes 0 p.inputs at.inputs ≡ Ok s.inputs =
    subst (λ ns. inputs_judged ns 0 p.inputs at.inputs ≡ Ok s.inputs) (sym gives.bases) (inputs_give names s.bases proper.declared.few are adm 0 p.inputs proper.declared.inputs at.inputs s.inputs gives.inputs.3 gives.typed) in
    let same : shared_given p s.sizes s.schedule s.inputs ≡ s =
    ap (λ ys. record { sizes = s.sizes; bases = ys; inputs = s.inputs; schedule = s.schedule }) bases_are in
    let end : yes (record { shared = shared_given p s.sizes s.schedule s.inputs; counts = g.counts }) ≡ Ok g =
    ap (λ x. yes (record { shared = x; counts = g.counts })) same in
    then_ok _ _ tt g (demand_gives (is_object d) no.NotJson h.object)
    (then_ok _ _ at g (stage_keys_give (length asks) d at keyed)
    (then_ok _ _ s.sizes g (sizes_give 0 p.sizes at.sizes s.sizes in_range gives.sizes.3)
    (then_ok _ _ g.counts g r.judged
    (then_ok _ _ s.inputs g inputs_ok end))))

pub checks_are_exact : StagesChecksAreExact
checks_are_exact p asks d g proper = (all_given p asks d g proper, all_gives p asks d g proper)

ok_no_err : (r : Result GivenInOrder LaunchNo) (g : GivenInOrder) (e : LaunchNo) → r ≡ Ok g → r ≡ Err e → ⊥
ok_no_err r g e h k = cc

pub files_are_not_refused : StagesFilesAreNotRefused
files_are_not_refused p asks bytes g e proper h refused = go refused
  where
    go : RefusesStages p asks bytes e → ⊥
    go (inl r) = r.0 h.0 h.1
    go (inr r) =
        let same : h.0 ≡ r.0 = same_some h.0 r.0 (sym h.1.1 ∙ r.1.1) in
        ok_no_err (stages_judged p asks r.0) g e (subst (λ d. stages_judged p asks d ≡ Ok g) same (all_gives p asks h.0 g proper h.2)) r.2

pub files_give_one_thing : StagesFilesGiveOneThing
files_give_one_thing p asks bytes g k proper h j =
    let same : h.0 ≡ j.0 = same_some h.0 j.0 (sym h.1.1 ∙ j.1.1) in
    same_ok g k (sym (all_gives p asks h.0 g proper h.2) ∙ ap (stages_judged p asks) same ∙ all_gives p asks j.0 k proper j.2)
