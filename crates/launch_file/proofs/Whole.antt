-- The checks give just what a launch file gives.
use Rattle.std.proofs.Common.{◌≡◌, ◌∙◌, ℕ, zero, suc, ◌≤◌, List, [], ◌∷◌, length, refl, sym, ap, subst, Some, inl, inr}
use Rattle.std.specs.Prelude.{IsTrue, IsUtf8, Result, Ok, Err, map}
use Rattle.std.specs.Option.{ok_or}
use Rattle.serde_json.specs.Data.{Data}
use Rattle.serde_json.specs.Find.{get}
use Rattle.serde_json.specs.Read.{read}
use Rattle.size_arith.specs.declared.names.Name.{Name}
use Rattle.size_arith.specs.Ranges.{AreNames, Admissible, sizes_at}
use Rattle.lift_tree.specs.declared.program.Size.{Size}
use Rattle.lift_tree.specs.Lists.{Every}
use Rattle.lift_tree.specs.Programs.{PlainInput, PlainProgram}
use Rattle.lift_tree.specs.Types.{PlainTy, IsFormed, HasType, HaveTypes}
use Rattle.lift_tree.specs.Typing.{declared_by}
use Rattle.lift_tree.specs.Values.{Value}
use Rattle.lift_tree.specs.WorkedOut.{worked_out}
use Rattle.lift_tree.proofs.Sound.{have_more}
use Rattle.launch_file.specs.declared.refusal.Key.TheVariants as key
use Rattle.launch_file.specs.declared.refusal.LaunchNo.{LaunchNo}
use Rattle.launch_file.specs.declared.refusal.LaunchNo.TheVariants as no
use Rattle.launch_file.specs.Json.{is_object, whole_at, data_of}
use Rattle.lift_tree.specs.Limits.{HasProperInputs}
use Rattle.launch_file.specs.Inputs.{InputsFit, read_value}
use Rattle.launch_file.specs.LaunchFile.{PlainAsk, Run, Eval, Cost, asks_in, Given, Gives, asked_inputs, StandsAt, GivesSizes, GivesInputs, IsLaunchFile}
use Rattle.launch_file.specs.Judged.{demand, is_in_range, size_judged, sizes_judged, AreInRange, AllInRange, bases_of, Keyed, keys_judged, items_judged, input_judged, inputs_judged, judged, Refuses}
use Rattle.launch_file.proofs.Options.{and_ok, then_ok, ok_or_is, demand_is, demand_gives, yes, same_ok, same_some}
use Rattle.launch_file.proofs.WrittenData.{whole_at_is, whole_at_gives}
use Rattle.launch_file.proofs.Ranges.{admissible_bases, sizes-bases, bases-sizes, sizes_in_range}
use Rattle.launch_file.proofs.Proper.{inputs_fit}
use Rattle.launch_file.proofs.TypedValues.{value_is, value_gives}
use Rattle.launch_file.proofs.AtKeys.{AreKeyed, keys_are, keys_give, AreGrouped, items_are, items_give}

-- ---- the sizes
size_is : (i : ℕ) (s : Size) (d : Data) (n : ℕ) → size_judged i s d ≡ Ok n → StandsAt s.name d n × IsTrue (is_in_range s n)
size_is i s d n h =
    let a = and_ok (ok_or (whole_at s.name d) (no.Missing (key.SizeAt i))) _ n h in
    let b = and_ok (demand (is_in_range s a.0) (no.Size i a.0)) _ n a.2 in
    subst (λ k. StandsAt s.name d k × IsTrue (is_in_range s k)) (same_ok a.0 n b.2)
    (whole_at_is s.name d a.0 (ok_or_is (whole_at s.name d) (no.Missing (key.SizeAt i)) a.0 a.1), demand_is (is_in_range s a.0) (no.Size i a.0) b.0 b.1)

size_gives : (i : ℕ) (s : Size) (d : Data) (n : ℕ) → StandsAt s.name d n → IsTrue (is_in_range s n) → size_judged i s d ≡ Ok n
size_gives i s d n h t =
    then_ok _ _ n n (ap (λ o. ok_or o (no.Missing (key.SizeAt i))) (whole_at_gives s.name d n h)) (then_ok _ _ tt n (demand_gives (is_in_range s n) (no.Size i n) t) refl)

pub sizes_are : (i : ℕ) (ss : List Size) (d : Data) (ns : List ℕ) → sizes_judged i ss d ≡ Ok ns → AreInRange ss ns × GivesSizes ss d ns
sizes_are i [] d ns h = subst (λ ms. AreInRange [] ms × GivesSizes [] d ms) (same_ok [] ns h) (tt, tt)
sizes_are i (s ∷ ss) d ns h =
    let a = and_ok (size_judged i s d) _ ns h in
    let b = and_ok (sizes_judged (suc i) ss d) _ ns a.2 in
    let w = size_is i s d a.0 a.1 in
    let r = sizes_are (suc i) ss d b.0 b.1 in
    subst (λ ms. AreInRange (s ∷ ss) ms × GivesSizes (s ∷ ss) d ms) (same_ok (a.0 ∷ b.0) ns b.2) ((w.1, r.0), (w.0, r.1))

pub sizes_give : (i : ℕ) (ss : List Size) (d : Data) (ns : List ℕ) → AreInRange ss ns → GivesSizes ss d ns → sizes_judged i ss d ≡ Ok ns
sizes_give i [] d [] t h = refl
sizes_give i [] d (n ∷ ns) t h = absurd h
sizes_give i (s ∷ ss) d [] t h = absurd h
sizes_give i (s ∷ ss) d (n ∷ ns) t h = then_ok _ _ n (n ∷ ns) (size_gives i s d n h.0 t.0) (then_ok _ _ ns (n ∷ ns) (sizes_give (suc i) ss d ns t.1 h.1) refl)

-- ---- the inputs
abbrev types_of : List Name → List PlainInput → List PlainTy
types_of names xs = map (λ (x : PlainInput). worked_out names x.ty) xs

module _ (names : List Name) (ys : List ℕ) (few : length names ≤ 8) (are : AreNames names) (ok : Admissible names ys) where
  abbrev here : List ℕ
  here = sizes_at names ys

  input_is : (i : ℕ) (x : PlainInput) → IsFormed names (worked_out names x.ty) → (d : Data) (v : Value) → input_judged here i x d ≡ Ok v → (get x.name d ≡ Some (data_of v)) × HasType ys (worked_out names x.ty) v
  input_is i x formed d v h =
      let a = and_ok (ok_or (get x.name d) (no.Missing (key.InputAt i))) _ v h in
      let r = value_is names ys few are ok x.ty formed a.0 v (ok_or_is (read_value here x.ty a.0) (no.Shape i) v a.2) in
      (ok_or_is (get x.name d) (no.Missing (key.InputAt i)) a.0 a.1 ∙ ap Some r.1, r.0)

  pub inputs_are : (i : ℕ) (xs : List PlainInput) → Every (IsFormed names) (types_of names xs) → (d : Data) (vs : List Value) → inputs_judged here i xs d ≡ Ok vs → GivesInputs xs d vs × HaveTypes ys (types_of names xs) vs
  inputs_are i [] formed d vs h = subst (λ us. GivesInputs [] d us × HaveTypes ys [] us) (same_ok [] vs h) (tt, λ n a e. absurd (cc))
  inputs_are i (x ∷ xs) formed d vs h =
      let a = and_ok (input_judged here i x d) _ vs h in
      let b = and_ok (inputs_judged here (suc i) xs d) _ vs a.2 in
      let w = input_is i x formed.0 d a.0 a.1 in
      let r = inputs_are (suc i) xs formed.1 d b.0 b.1 in
      subst (λ us. GivesInputs (x ∷ xs) d us × HaveTypes ys (types_of names (x ∷ xs)) us) (same_ok (a.0 ∷ b.0) vs b.2)
      ((w.0, r.0), have_more ys (worked_out names x.ty) a.0 (types_of names xs) b.0 w.1 r.1)

  pub inputs_give : (i : ℕ) (xs : List PlainInput) → Every (IsFormed names) (types_of names xs) → (d : Data) (vs : List Value) → GivesInputs xs d vs → HaveTypes ys (types_of names xs) vs → inputs_judged here i xs d ≡ Ok vs
  inputs_give i [] formed d [] h t = refl
  inputs_give i [] formed d (v ∷ vs) h t = absurd h
  inputs_give i (x ∷ xs) formed d [] h t = absurd h
  inputs_give i (x ∷ xs) formed d (v ∷ vs) h t =
      let one : input_judged here i x d ≡ Ok v =
      then_ok _ _ (data_of v) v (ap (λ o. ok_or o (no.Missing (key.InputAt i))) h.0) (ap (λ o. ok_or o (no.Shape i)) (value_gives names ys few are ok x.ty formed.0 v (t zero (worked_out names x.ty) refl))) in
      then_ok _ _ v (v ∷ vs) one (then_ok _ _ vs (v ∷ vs) (inputs_give (suc i) xs formed.1 d vs h.1 (λ n a e. t (suc n) a e)) refl)

-- ---- the whole
-- those that are read are formed as all are
asked_formed : (names : List Name) (ask : PlainAsk) (xs : List PlainInput) → Every (IsFormed names) (types_of names xs) → Every (IsFormed names) (types_of names (asked_inputs ask xs))
asked_formed names (Run asks) xs h = h
asked_formed names Eval xs h = h
asked_formed names (Cost asks) xs h = tt

pub given_is : (p : PlainProgram) (ask : PlainAsk) (d : Data) (g : Given) → HasProperInputs p → judged p ask d ≡ Ok g → Gives p ask d g
given_is p ask d g proper h =
    let names = (declared_by p).names in
    let few = proper.declared.few in
    let are = proper.declared.names in
    let a = and_ok (demand (is_object d) no.NotJson) _ g h in
    let k = and_ok (keys_judged ask d) _ g a.2 in
    let s = and_ok (sizes_judged 0 p.sizes k.0.sizes) _ g k.2 in
    let i = and_ok (items_judged (asks_in ask) k.0.global k.0.local) _ g s.2 in
    let v = and_ok (inputs_judged s.0 0 (asked_inputs ask p.inputs) k.0.inputs) _ g i.2 in
    let r = sizes_are 0 p.sizes k.0.sizes s.0 s.1 in
    let ys = bases_of p.sizes s.0 in
    let adm : Admissible names ys = admissible_bases p.sizes s.0 r.0 in
    let e : s.0 ≡ sizes_at names ys = sizes-bases p.sizes s.0 r.0 in
    let w = inputs_are names ys few are adm 0 (asked_inputs ask p.inputs) (asked_formed names ask p.inputs proper.declared.inputs) k.0.inputs v.0 (subst (λ ns. inputs_judged ns 0 (asked_inputs ask p.inputs) k.0.inputs ≡ Ok v.0) e v.1) in
    let keyed = keys_are ask d k.0 s.0 k.1 in
    let grouped = items_are (asks_in ask) k.0.global k.0.local i.0 i.1 in
    let whole : Given = record { launch = record { global = k.0.global; local = k.0.local; sizes = s.0 }; bases = ys; inputs = v.0; schedule = k.0.schedule } in
    let found : Gives p ask d whole = record {
      object = demand_is (is_object d) no.NotJson a.0 a.1;
      items = keyed.items;
      sizes = (k.0.sizes, keyed.sizes.0, keyed.sizes.1, r.1);
      inputs = (k.0.inputs, keyed.inputs, w.0);
      schedule = keyed.schedule;
      bases = e;
      admissible = record {
        sizes = adm;
        local_least = grouped.local_least;
        local_most = grouped.local_most;
        global_least = grouped.global_least;
        global_most = grouped.global_most;
        divides = grouped.divides;
        fixed = grouped.fixed;
        alone = grouped.alone;
        flat = grouped.flat;
      };
      typed = w.1;
    } in
    subst (Gives p ask d) (same_ok whole g v.2) found

pub given_gives : (p : PlainProgram) (ask : PlainAsk) (d : Data) (g : Given) → HasProperInputs p → Gives p ask d g → judged p ask d ≡ Ok g
given_gives p ask d g proper h =
    let names = (declared_by p).names in
    let are = proper.declared.names in
    let adm = h.admissible.sizes in
    let k : Keyed = record { global = g.launch.global; local = g.launch.local; sizes = h.sizes.0; inputs = h.inputs.0; schedule = g.schedule } in
    let keyed : AreKeyed ask d k g.launch.sizes = record { items = h.items; sizes = (h.sizes.1, h.sizes.2); inputs = h.inputs.1; schedule = h.schedule } in
    let in_range : AreInRange p.sizes g.launch.sizes = subst (AreInRange p.sizes) (sym h.bases) (sizes_in_range p.sizes g.bases are adm) in
    let bases_are : bases_of p.sizes g.launch.sizes ≡ g.bases = ap (bases_of p.sizes) h.bases ∙ bases-sizes p.sizes g.bases are adm in
    let inputs_ok : inputs_judged g.launch.sizes 0 (asked_inputs ask p.inputs) k.inputs ≡ Ok g.inputs =
    subst (λ ns. inputs_judged ns 0 (asked_inputs ask p.inputs) k.inputs ≡ Ok g.inputs) (sym h.bases) (inputs_give names g.bases proper.declared.few are adm 0 (asked_inputs ask p.inputs) (asked_formed names ask p.inputs proper.declared.inputs) k.inputs g.inputs h.inputs.2 h.typed) in
    let grouped : AreGrouped (asks_in ask) g.launch.global g.launch.local = record {
      local_least = h.admissible.local_least;
      local_most = h.admissible.local_most;
      global_least = h.admissible.global_least;
      global_most = h.admissible.global_most;
      divides = h.admissible.divides;
      fixed = h.admissible.fixed;
      alone = h.admissible.alone;
      flat = h.admissible.flat;
    } in
    let end : yes (record { launch = g.launch; bases = bases_of p.sizes g.launch.sizes; inputs = g.inputs; schedule = g.schedule }) ≡ Ok g =
    ap (λ ys. yes (record { launch = g.launch; bases = ys; inputs = g.inputs; schedule = g.schedule })) bases_are in
    then_ok _ _ tt g (demand_gives (is_object d) no.NotJson h.object)
    (then_ok _ _ k g (keys_give ask d k g.launch.sizes keyed)
    (then_ok _ _ g.launch.sizes g (sizes_give 0 p.sizes k.sizes g.launch.sizes in_range h.sizes.3)
    (then_ok _ _ tt g (items_give (asks_in ask) g.launch.global g.launch.local grouped)
    (then_ok _ _ g.inputs g inputs_ok end))))

-- ---- files
pub launch_file_is : (p : PlainProgram) (ask : PlainAsk) (bytes : List ℕ) (d : Data) (g : Given) → HasProperInputs p → IsUtf8 bytes → read bytes ≡ Some d → judged p ask d ≡ Ok g → IsLaunchFile p ask bytes g
launch_file_is p ask bytes d g proper text e h = (d, (text, e), given_is p ask d g proper h)

ok_no_err : (r : Result Given LaunchNo) (g : Given) (e : LaunchNo) → r ≡ Ok g → r ≡ Err e → ⊥
ok_no_err r g e h k = cc

pub not_refused : (p : PlainProgram) (ask : PlainAsk) (bytes : List ℕ) (g : Given) (e : LaunchNo) → HasProperInputs p → IsLaunchFile p ask bytes g → Refuses p ask bytes e → ⊥
not_refused p ask bytes g e proper h (inl r) = r.0 h.0 h.1
not_refused p ask bytes g e proper h (inr r) =
    let same : h.0 ≡ r.0 = same_some h.0 r.0 (sym h.1.1 ∙ r.1.1) in
    ok_no_err (judged p ask r.0) g e (subst (λ d. judged p ask d ≡ Ok g) same (given_gives p ask h.0 g proper h.2)) r.2

pub one_given : (p : PlainProgram) (ask : PlainAsk) (bytes : List ℕ) (g k : Given) → HasProperInputs p → IsLaunchFile p ask bytes g → IsLaunchFile p ask bytes k → g ≡ k
one_given p ask bytes g k proper h j =
    let same : h.0 ≡ j.0 = same_some h.0 j.0 (sym h.1.1 ∙ j.1.1) in
    same_ok g k (sym (given_gives p ask h.0 g proper h.2) ∙ ap (judged p ask) same ∙ given_gives p ask j.0 k proper j.2)

-- ---- what the code owes
pub ranges_are : (ss : List Size) (d : Data) (ns : List ℕ) → sizes_judged 0 ss d ≡ Ok ns → AllInRange ss ns
ranges_are ss d ns h = record { each = (sizes_are 0 ss d ns h).0 }

pub lengths_fit : (p : PlainProgram) (d : Data) (ns : List ℕ) → HasProperInputs p → sizes_judged 0 p.sizes d ≡ Ok ns → InputsFit ns p.inputs
lengths_fit p d ns proper h =
    let r = (sizes_are 0 p.sizes d ns h).0 in
    subst (λ ms. InputsFit ms p.inputs) (sym (sizes-bases p.sizes ns r))
    (inputs_fit (declared_by p).names (bases_of p.sizes ns) proper.declared.few proper.declared.names (admissible_bases p.sizes ns r) p.inputs proper.declared.inputs proper.scalars)
