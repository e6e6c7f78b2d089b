-- Nests of forms with more than moves between their turns.
use Rattle.std.proofs.Common.{◌≡◌, ℕ, zero, suc, ◌+◌, ◌*◌, ◌/◌, ◌%◌, ◌-◌, ◌<◌, ◌≤◌, List, [], ◌++◌, refl, sym, ap, ◌∙◌, subst, ⊎_elim, arith}
use Rattle.std.proofs.lemmas.Bool.{cases_lt}
use Rattle.std.proofs.lemmas.Nat.{div-mul-add, mod-mul-add, div-add-mod'}
use Rattle.std.proofs.Math.Nat.{mod-lt, mul-le-mul_right}
use Rattle.kernel_tree.specs.Formula.{Vars}
use Rattle.kernel_tree.specs.Code.{Code, End, Kernel}
use Rattle.kernel_tree.specs.Launch.{Launch, Cells, ids_of, group_of, item_count}
use Rattle.kernel_tree.specs.Item.{Item, item, Frame, next}
use Rattle.kernel_tree.specs.Device.{Device, device_of}
use Rattle.kernel_tree.specs.Deeds.{written}
use Rattle.kernel_tree.specs.Independent.{IsAllowed}
use Rattle.kernel_tree.proofs.Deeds.{goes_on}
use Rattle.kernel_tree.proofs.Turns.{every-append, write_count-append}
use Rattle.printed_form.specs.Runs.{Fits}
use Rattle.group_phases.specs.Bodies.{Hop, CanHop}
use Rattle.group_phases.specs.Cells.{input_cell}
use Rattle.group_phases.specs.Groups.{Body, declared, IsBefore, GroupTurns}
use Rattle.group_phases.specs.Hops.{IsAtTurn, Hops}
use Rattle.group_phases.specs.TurnForms.{Form, TakesTurns, place, nest_form}
use Rattle.group_phases.specs.Work.{Work}
use Rattle.group_phases.proofs.GroupForms.{hop_of}
use Rattle.group_phases.proofs.TurnForms.{below, place_in, place_past}
use Rattle.group_phases.proofs.Written.{untouched}

module _ (d : Device) (k : ℕ) (c : Cells) where
  pub hop_here : (y : Item) (Then : Item → Type 0) → Then y → CanHop d k c y Then
  hop_here y Then so o m ready = record { after = y; deeds = []; goes = refl; so = so; allowed = tt; quiet = λ b s. refl }

  pub hop_then : (x : Item) (Mid Then : Item → Type 0) → CanHop d k c x Mid → ((y : Item) → Mid y → CanHop d k c y Then) → CanHop d k c x Then
  hop_then x Mid Then first more o m ready = record {
    after = b.after;
    deeds = a.deeds ++ b.deeds;
    goes = goes_on d k _ _ _ m a.deeds b.deeds a.goes b.goes;
    so = b.so;
    allowed = every-append (IsAllowed o k) a.deeds b.deeds a.allowed b.allowed;
    quiet = λ z s. let e = write_count-append z a.deeds b.deeds in let p = a.quiet z s in let q = b.quiet z s in omega arith;
  }
    where
      a : Hop d k o m x Mid
      a = first o m ready

      b : Hop d k o (written a.deeds m) a.after Then
      b = more a.after a.so o (written a.deeds m) (record { inputs = λ r i lt. untouched (input_cell r i) a.deeds m (a.quiet (input_cell r i) refl) ∙ ready.inputs r i lt; free = ready.free; own = ready.own })

  pub hop_from : (x y : Item) (Then : Item → Type 0) → x ≡ y → CanHop d k c y Then → CanHop d k c x Then
  hop_from x y Then e a = subst (λ z. CanHop d k c z Then) (sym e) a

  -- a form of turns whose turns keep what is known
  pub hops_of_form : (fs : List Frame) (code rest : Code) (f : Form) (Pre Post : Vars → Type 0) (Begin Done : ℕ → Vars → Type 0) → TakesTurns d k fs code rest f
      → ((vars : Vars) → Pre vars → Begin 0 vars × Post vars) → ((t : ℕ) (vars : Vars) → Done t vars → Begin (suc t) vars × Post vars) → Hops d k c fs code rest f Pre Begin Done Post
  hops_of_form fs code rest f Pre Post Begin Done takes before between = record {
    enters = λ vars p. let q = before vars p in hop_of d k c _ _ (IsAtTurn f fs rest Begin Post 0) (takes.enters vars) (at 0 vars q.0 q.1);
    again = λ t vars lt p. let q = between t vars p in hop_of d k c _ _ (IsAtTurn f fs rest Begin Post (suc t)) (takes.again t vars lt) (at (suc t) vars q.0 q.1);
  }
    where
      at : (t : ℕ) (vars : Vars) → Begin t vars → Post vars → IsAtTurn f fs rest Begin Post t (place f fs rest t vars)
      at t vars b p = record {
        begun = λ lt. subst (λ y. (y ≡ item f.first (f.frames t) y.vars) × Begin t y.vars) (sym (place_in d k fs rest f t vars lt)) (refl, b);
        past = λ le. subst (λ y. (y ≡ item rest fs y.vars) × Post y.vars) (sym (place_past d k fs rest f t vars le)) (refl, p);
      }

  -- more before the first turn, as the loads of an outer turn's scalars
  pub hops_after : (fs : List Frame) (code mid rest : Code) (f : Form) (Pre Pre2 Post : Vars → Type 0) (Begin Done : ℕ → Vars → Type 0)
      → ((vars : Vars) → Pre vars → CanHop d k c (item code fs vars) (λ y. (y ≡ item mid fs y.vars) × Pre2 y.vars)) → Hops d k c fs mid rest f Pre2 Begin Done Post → Hops d k c fs code rest f Pre Begin Done Post
  hops_after fs code mid rest f Pre Pre2 Post Begin Done loads h = record {
    enters = λ vars p. hop_then _ (λ y. (y ≡ item mid fs y.vars) × Pre2 y.vars) (IsAtTurn f fs rest Begin Post 0) (loads vars p) (λ y q. hop_from y (item mid fs y.vars) (IsAtTurn f fs rest Begin Post 0) q.0 (h.enters y.vars q.1));
    again = h.again;
  }

  -- a nest: in each turn of the outer form the item takes an inner one, of `width` turns
  module _ (fs : List Frame) (code rest : Code) (f : Form) (Pre Post : Vars → Type 0) (Begin Done : ℕ → Vars → Type 0) (outer : Hops d k c fs code rest f Pre Begin Done Post)
      (width : ℕ) (first last : Code) (inner : (u v : ℕ) → List Frame) (B E : (u v : ℕ) → Vars → Type 0)
      (takes : (u : ℕ) → u < f.count → Hops d k c (f.frames u) f.first f.last (record { count = width; first = first; last = last; frames = inner u }) (Begin u) (B u) (E u) (Done u)) where
    abbrev in_turn : ℕ → Form
    in_turn u = record { count = width; first = first; last = last; frames = inner u }

    abbrev nest : Form
    nest = nest_form f width first last inner

    abbrev Nested : ℕ → Item → Type 0
    Nested = IsAtTurn nest fs rest (λ t. B (t / width) (t % width)) Post

    at_pair : (u v : ℕ) (y : Item) → u < f.count → v < width → (y ≡ item first (inner u v) y.vars) × B u v y.vars → Nested (u * width + v) y
    at_pair u v y ul vl x =
        let more = mul-le-mul_right {m = suc u} {n = f.count} width ul in
        let P = λ (a b : ℕ). (y ≡ item first (inner a b) y.vars) × B a b y.vars in
        record {
          begun = λ lt. subst (λ a. P a ((u * width + v) % width)) (sym (div-mul-add u width v vl)) (subst (λ b. P u b) (sym (mod-mul-add u width v vl)) x);
          past = λ le. absurd (omega arith);
        }

    nested_as : (t u : ℕ) (y : Item) → t ≡ u → Nested t y → Nested u y
    nested_as t u y e x = subst (λ z. Nested z y) e x

    rows : (left u : ℕ) (y : Item) → left + u ≡ f.count → IsAtTurn f fs rest Begin Post u y → CanHop d k c y (Nested (u * width))
    rows zero u y e x =
        let last_one : f.count ≡ u = omega arith in
        let all : f.count * width ≡ u * width = ap (λ z. z * width) last_one in
        hop_here y (Nested (u * width)) (record { begun = λ lt. absurd (omega arith); past = λ le. x.past (omega arith) })
    rows (suc left) u y e x =
        let ul : u < f.count = omega arith in
        let b = x.begun ul in
        let Mid = IsAtTurn (in_turn u) (f.frames u) f.last (B u) (Done u) 0 in
        hop_from y (item f.first (f.frames u) y.vars) (Nested (u * width)) b.0
        (hop_then (item f.first (f.frames u) y.vars) Mid (Nested (u * width)) ((takes u ul).enters y.vars b.1)
        (λ z q. ⊎_elim
        (λ some. hop_here z (Nested (u * width)) (nested_as (u * width + 0) (u * width) z (omega arith) (at_pair u 0 z ul some (q.begun some))))
        (λ none.
        let p = q.past none in
        let w0 : width ≡ 0 = omega arith in
        let same : suc u * width ≡ u * width = omega arith in
        hop_from z (item f.last (f.frames u) z.vars) (Nested (u * width)) p.0
        (hop_then (item f.last (f.frames u) z.vars) (IsAtTurn f fs rest Begin Post (suc u)) (Nested (u * width)) (outer.again u z.vars ul p.1)
        (λ y2 x2. subst (λ t. CanHop d k c y2 (Nested t)) same (rows left (suc u) y2 (omega arith) x2))))
        (cases_lt 0 width)))

    pub nest_hops : Hops d k c fs code rest nest Pre (λ t. B (t / width) (t % width)) (λ t. E (t / width) (t % width)) Post
    nest_hops = record {
      enters = λ vars p. hop_then (item code fs vars) (IsAtTurn f fs rest Begin Post 0) (Nested 0) (outer.enters vars p) (λ y x. let z : 0 * width ≡ 0 = omega arith in subst (λ t. CanHop d k c y (Nested t)) z (rows f.count 0 y (omega arith) x));
      again = λ t vars lt q.
          let u = t / width in
          let v = t % width in
          let e : u * width + v ≡ t = div-add-mod' t width in
          let vl : v < width = mod-lt t (positive t width lt) in
          let ul : u < f.count = below t u v f.count width e lt in
          let Mid = IsAtTurn (in_turn u) (f.frames u) f.last (B u) (Done u) (suc v) in
          hop_then (item last (inner u v) vars) Mid (Nested (suc t)) ((takes u ul).again v vars vl q)
          (λ y x. ⊎_elim
          (λ more. hop_here y (Nested (suc t)) (nested_as (u * width + suc v) (suc t) y (omega arith) (at_pair u (suc v) y ul more (x.begun more))))
          (λ end.
          let p = x.past end in
          let full : suc v ≡ width = omega arith in
          let same : suc u * width ≡ suc t = omega arith in
          hop_from y (item f.last (f.frames u) y.vars) (Nested (suc t)) p.0
          (hop_then (item f.last (f.frames u) y.vars) (IsAtTurn f fs rest Begin Post (suc u)) (Nested (suc t)) (outer.again u y.vars ul p.1)
          (λ y2 x2. subst (λ z. CanHop d k c y2 (Nested z)) same (rows (f.count - suc u) (suc u) y2 (omega arith) x2))))
          (cases_lt (suc v) width));
    }
      where
        positive : (t w : ℕ) → t < f.count * w → 0 < w
        positive t zero lt = absurd (omega arith)
        positive t (suc w) lt = omega arith

-- around a body of phases
module _ (kernel : Kernel) (l : Launch) (c : Cells) (body : Body) (work : Work) (form : ℕ → Form) (Pre Post : ℕ → Vars → Type 0)
    (hops : (k : ℕ) → k < item_count l → Hops (device_of kernel l c) k c [] kernel.code End (form k) (Pre k) (λ t. work.knows t 0 k) (λ t. work.knows t body.count k) (Post k))
    (count : (k : ℕ) → (form k).count ≡ body.turns (group_of l k)) (first : (k : ℕ) → (form k).first ≡ body.before 0) (last : (k : ℕ) → (form k).last ≡ body.code body.count) (frames : (t k : ℕ) → (form k).frames t ≡ body.frames t k)
    (begins : (k : ℕ) (vars : Vars) → k < item_count l → Fits (declared kernel) vars → Pre k vars) where
  before : (t k : ℕ) (y : Item) → IsAtTurn (form k) [] End (λ t. work.knows t 0 k) (Post k) t y → IsBefore l body work t k y
  unfolding next
  before t k y x = record {
    begun = λ lt. let b = x.begun (subst (λ z. t < z) (sym (count k)) lt) in (b.0 ∙ ap (λ z. item z ((form k).frames t) y.vars) (first k) ∙ ap (λ z. item (body.before 0) z y.vars) (frames t k), b.1);
    over = λ le. ap (next (ids_of l k)) (x.past (subst (λ z. z ≤ t) (sym (count k)) le)).0;
  }

  weaker : (t k : ℕ) (x : Item) → CanHop (device_of kernel l c) k c x (IsAtTurn (form k) [] End (λ t. work.knows t 0 k) (Post k) t) → CanHop (device_of kernel l c) k c x (IsBefore l body work t k)
  weaker t k x h = hop_then (device_of kernel l c) k c x _ (IsBefore l body work t k) h (λ y q. hop_here (device_of kernel l c) k c y (IsBefore l body work t k) (before t k y q))

  pub hops_turns : GroupTurns kernel l c body work
  hops_turns = record {
    begins = λ k vars lt long. weaker 0 k _ ((hops k lt).enters vars (begins k vars lt long));
    again = λ t k vars tl lt knows.
        subst (λ z. CanHop (device_of kernel l c) k c z (IsBefore l body work (suc t) k)) (ap (λ z. item z ((form k).frames t) vars) (last k) ∙ ap (λ z. item (body.code body.count) z vars) (frames t k))
        (weaker (suc t) k _ ((hops k lt).again t vars (subst (λ z. t < z) (sym (count k)) tl) knows));
  }
