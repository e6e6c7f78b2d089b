-- Loops, the turn alone, tests and nests as forms of turns.
use Rattle.std.proofs.Common.{◌≡◌, ℕ, zero, suc, ◌+◌, ◌*◌, ◌/◌, ◌%◌, ◌-◌, ◌<◌, ◌≤◌, List, [], ◌∷◌, ◌++◌, length, Some, refl, sym, ap, ◌∙◌, subst, ⊎_elim, arith}
use Rattle.std.specs.Prelude.{slice_index}
use Rattle.std.proofs.lemmas.Bool.{cases_lt, lt-ltb, le-ltb}
use Rattle.std.proofs.lemmas.List.{append-nil, append_assoc}
use Rattle.std.proofs.lemmas.Nat.{div-mul-add, mod-mul-add, div-add-mod'}
use Rattle.std.proofs.Math.Nat.{mod-lt, mul-le-mul_right}
use Rattle.std.proofs.Math.Seq.{get_or-append_seam}
use Rattle.kernel_tree.specs.declared.tree.Dimension.{Dimension}
use Rattle.kernel_tree.specs.Formula.{Formula, LoopVariable, Id, LocalId, GroupId, value, bound_value, along, Vars}
use Rattle.kernel_tree.specs.Code.{Start, start_value, Code, End, Guards, then_rest}
use Rattle.kernel_tree.specs.Launch.{ids_of}
use Rattle.kernel_tree.specs.Item.{Item, item, Frame, loop_variables, Moves}
use Rattle.kernel_tree.specs.Device.{Device, Memory}
use Rattle.kernel_tree.specs.Deeds.{Moved, Goes, written}
use Rattle.kernel_tree.specs.Rounds.{Loop, loop_code, variable_at, frame_of, Counts}
use Rattle.kernel_tree.proofs.Deeds.{goes_on, goes_moved, goes_in, goes_past, tested_at, next_enter, next_again, inside, outside}
use Rattle.group_phases.specs.TurnForms.{moves, Leads, Form, place, TakesTurns, IsIndex, loop_form, alone_form, test_form, Tests, nest_form}

moves-append : (a b : ℕ) → moves a ++ moves b ≡ moves (a + b)
moves-append zero b = ap moves (let e : b ≡ 0 + b = omega arith in e)
moves-append (suc a) b = ap (λ ds. Moved ∷ ds) (moves-append a b) ∙ ap moves (let e : suc (a + b) ≡ suc a + b = omega arith in e)

pub written-moves : (n : ℕ) (m : Memory) → written (moves n) m ≡ m
written-moves zero m = refl
written-moves (suc n) m = written-moves n m

-- a turn of pairs within so many has its row within so many
pub below : (t u v n w : ℕ) → u * w + v ≡ t → t < n * w → u < n
below t u v n w e lt = ⊎_elim (λ a. a) (λ b. absurd (let more = mul-le-mul_right {m = n} {n = u} w b in omega arith)) (cases_lt u n)

module _ (d : Device) (k : ℕ) where
  pub leads_here : (x y : Item) → x ≡ y → Leads d k x y
  leads_here x y e = (0, λ m. e)

  pub leads_then : (x y z : Item) → Leads d k x y → Leads d k y z → Leads d k x z
  leads_then x y z a b = (
    a.0 + b.0,
    λ m. subst (λ ds. Goes d k x m ds z) (moves-append a.0 b.0) (goes_on d k x y z m (moves a.0) (moves b.0) (a.1 m) (subst (λ w. Goes d k y w (moves b.0) z) (sym (written-moves a.0 m)) (b.1 m))),
  )

  pub leads_to : (x y z : Item) → Leads d k x y → y ≡ z → Leads d k x z
  leads_to x y z a e = subst (Leads d k x) e a

  pub leads_from : (x y z : Item) → x ≡ y → Leads d k y z → Leads d k x z
  leads_from x y z e a = subst (λ w. Leads d k w z) (sym e) a

  module _ (fs : List Frame) (rest : Code) (f : Form) where
    pub place_in : (t : ℕ) (vars : Vars) → t < f.count → place f fs rest t vars ≡ item f.first (f.frames t) vars
    place_in t vars lt = rw (lt-ltb t f.count lt) refl

    pub place_past : (t : ℕ) (vars : Vars) → f.count ≤ t → place f fs rest t vars ≡ item rest fs vars
    place_past t vars le = rw (le-ltb t f.count le) refl

  -- a loop
  module _ (fs : List Frame) (p : Loop) (count : ℕ) (c : Counts d k p count) where
    stands : (t : ℕ) (vars : Vars) → t ≤ count → tested_at d k fs c.bound p.start p.bound p.stride p.body p.after t vars ≡ place (loop_form d k fs p count) fs p.after t vars
    stands t vars le =
        ⊎_elim
        (λ lt. inside d k fs c.bound p.start p.bound p.stride p.body p.after t vars (c.below t lt) ∙ sym (place_in fs p.after (loop_form d k fs p count) t vars lt))
        (λ ge. let e : t ≡ count = omega arith in outside d k fs c.bound p.start p.bound p.stride p.body p.after t vars (subst (λ z. c.bound ≤ variable_at d k p z) (sym e) c.past) ∙ sym (place_past fs p.after (loop_form d k fs p count) t vars ge))
        (cases_lt t count)

    pub loop_takes : TakesTurns d k fs (loop_code p) p.after (loop_form d k fs p count)
    loop_takes = record {
      enters = λ vars. (1, λ m. goes_moved d k _ _ m (next_enter d k fs c.bound p.start p.bound p.stride p.body p.after vars c.bound_is ∙ ap Moves (stands 0 vars (omega arith))));
      again = λ t vars lt. (1, λ m. goes_moved d k _ _ m (next_again d k fs c.bound p.start p.bound p.stride p.body p.after t vars c.bound_is (c.fits t lt) ∙ ap Moves (stands (suc t) vars (omega arith))));
      around = λ t lt. (variable_at d k p t ∷ [], refl);
    }

    -- its index is its variable
    pub loop_index : IsIndex d k (loop_form d k fs p count) (LoopVariable (length (loop_variables fs))) (variable_at d k p)
    loop_index t more vars lt = ap Some (ap (λ xs. slice_index xs (length (loop_variables fs))) (append_assoc (loop_variables fs) (variable_at d k p t ∷ []) more) ∙ get_or-append_seam (loop_variables fs) (variable_at d k p t) more 0)

  -- a statement that tests
  module _ (fs : List Frame) (code inner rest : Code) (count : ℕ) (h : Tests d k fs code inner rest count) where
    pub test_takes : TakesTurns d k fs code rest (test_form fs inner rest count)
    test_takes = record {
      enters = λ vars. ⊎_elim
          (λ lt. leads_to _ _ _ (h.enters vars lt) (sym (place_in fs rest (test_form fs inner rest count) 0 vars lt)))
          (λ ge. leads_to _ _ _ (h.passes vars (omega arith)) (sym (place_past fs rest (test_form fs inner rest count) 0 vars ge)))
          (cases_lt 0 count);
      again = λ t vars lt. let few = h.at_most_one in leads_here _ _ (sym (place_past fs rest (test_form fs inner rest count) (suc t) vars (omega arith)));
      around = λ t lt. ([], sym (append-nil (loop_variables fs)));
    }

  -- an `if`
  pub guard_tests : (fs : List Frame) (s : Start) (b : Formula) (body rest : Code) (bound count : ℕ) → bound_value d.launch.sizes b ≡ Some bound → count < 2
      → (0 < count → start_value (ids_of d.launch k) s < bound) → (count ≡ 0 → bound ≤ start_value (ids_of d.launch k) s) → Tests d k fs (Guards s b body rest) (then_rest body rest) rest count
  guard_tests fs s b body rest bound count is few low high = record {
    at_most_one = few;
    enters = λ vars some. (1, λ m. goes_in d k fs vars m s b body rest bound is (low some));
    passes = λ vars none. (1, λ m. goes_past d k fs vars m s b body rest bound is (high none));
  }

  -- the turn alone
  pub alone_takes : (fs : List Frame) (code rest : Code) → TakesTurns d k fs code rest (alone_form fs code rest)
  alone_takes fs code rest = record {
    enters = λ vars. leads_here _ _ refl;
    again = λ t vars lt. leads_here _ _ (sym (place_past fs rest (alone_form fs code rest) (suc t) vars (omega arith)));
    around = λ t lt. ([], sym (append-nil (loop_variables fs)));
  }

  -- the index of a test and of a turn alone is an id
  pub local_index : (f : Form) (dim : Dimension) → IsIndex d k f (Id dim LocalId) (λ t. (along (ids_of d.launch k) dim).local_id)
  local_index f dim t more vars lt = refl

  pub group_index : (f : Form) (dim : Dimension) → IsIndex d k f (Id dim GroupId) (λ t. (along (ids_of d.launch k) dim).group_id)
  group_index f dim t more vars lt = refl

  -- a nest: in each turn of the outer form the item takes an inner form
  module _ (fs : List Frame) (code rest : Code) (f : Form) (outer : TakesTurns d k fs code rest f) (width : ℕ) (first last : Code) (inner : (u v : ℕ) → List Frame) where
    abbrev pub in_turn : ℕ → Form
    in_turn u = record { count = width; first = first; last = last; frames = inner u }

    abbrev pub nest : Form
    nest = nest_form f width first last inner

    module _ (takes : (u : ℕ) → u < f.count → TakesTurns d k (f.frames u) f.first f.last (in_turn u)) where
      -- the pair of a turn
      pair_is : (t : ℕ) → t < f.count * width → (t / width < f.count) × (t % width < width)
      pair_is t lt = (below t (t / width) (t % width) f.count width (div-add-mod' t width) lt, mod-lt t (positive t width lt))
        where
          positive : (t w : ℕ) → t < f.count * w → 0 < w
          positive t zero lt = absurd (omega arith)
          positive t (suc w) lt = omega arith

      pair_below : (u v : ℕ) → u < f.count → v < width → u * width + v < f.count * width
      pair_below u v ul vl = let more = mul-le-mul_right {m = suc u} {n = f.count} width ul in omega arith

      at_pair : (u v : ℕ) (vars : Vars) → u < f.count → v < width → place nest fs rest (u * width + v) vars ≡ item first (inner u v) vars
      at_pair u v vars ul vl =
          place_in fs rest nest (u * width + v) vars (pair_below u v ul vl)
          ∙ ap (λ z. item first (inner z ((u * width + v) % width)) vars) (div-mul-add u width v vl)
          ∙ ap (λ z. item first (inner u z) vars) (mod-mul-add u width v vl)

      -- from before the outer form's turn u, of which `left` are left
      rows : (left u : ℕ) (vars : Vars) → left + u ≡ f.count → Leads d k (place f fs rest u vars) (place nest fs rest (u * width) vars)
      rows zero u vars e =
          let last_one : f.count ≡ u = omega arith in
          let all : f.count * width ≡ u * width = ap (λ z. z * width) last_one in
          leads_here _ _ (place_past fs rest f u vars (omega arith) ∙ sym (place_past fs rest nest (u * width) vars (omega arith)))
      rows (suc left) u vars e =
          let ul : u < f.count = omega arith in
          let a = leads_from _ _ _ (place_in fs rest f u vars ul) ((takes u ul).enters vars) in
          ⊎_elim
          (λ some. leads_to _ _ _ a (place_in (f.frames u) f.last (in_turn u) 0 vars some ∙ sym (at_pair u 0 vars ul some) ∙ (let z : u * width + 0 ≡ u * width = omega arith in ap (λ x. place nest fs rest x vars) z)))
          (λ none.
          let z : width ≡ 0 = omega arith in
          let same : suc u * width ≡ u * width = omega arith in
          leads_then _ _ _ (leads_to _ _ _ a (place_past (f.frames u) f.last (in_turn u) 0 vars none))
          (leads_then _ _ _ (outer.again u vars ul) (leads_to _ _ _ (rows left (suc u) vars (omega arith)) (ap (λ x. place nest fs rest x vars) same))))
          (cases_lt 0 width)

      pub nest_takes : TakesTurns d k fs code rest nest
      nest_takes = record {
        enters = λ vars. leads_then _ _ _ (outer.enters vars) (leads_to _ _ _ (rows f.count 0 vars (omega arith)) (let z : 0 * width ≡ 0 = omega arith in ap (λ x. place nest fs rest x vars) z));
        again = λ t vars lt.
            let u = t / width in
            let v = t % width in
            let e : u * width + v ≡ t = div-add-mod' t width in
            let ul = (pair_is t lt).0 in
            let vl = (pair_is t lt).1 in
            let a = (takes u ul).again v vars vl in
            ⊎_elim
            (λ more. leads_to _ _ _ a (place_in (f.frames u) f.last (in_turn u) (suc v) vars more ∙ sym (at_pair u (suc v) vars ul more) ∙ (let z : u * width + suc v ≡ suc t = omega arith in ap (λ x. place nest fs rest x vars) z)))
            (λ end.
            let z : suc v ≡ width = omega arith in
            let same : suc u * width ≡ suc t = omega arith in
            leads_then _ _ _ (leads_to _ _ _ a (place_past (f.frames u) f.last (in_turn u) (suc v) vars end))
            (leads_then _ _ _ (outer.again u vars ul) (leads_to _ _ _ (rows (f.count - suc u) (suc u) vars (omega arith)) (ap (λ x. place nest fs rest x vars) same))))
            (cases_lt (suc v) width);
        around = λ t lt.
            let p = pair_is t lt in
            let a = outer.around (t / width) p.0 in
            let b = (takes (t / width) p.0).around (t % width) p.1 in
            (a.0 ++ b.0, b.1 ∙ ap (λ xs. xs ++ b.0) a.1 ∙ append_assoc (loop_variables fs) a.0 b.0);
      }

      -- the outer form's index, and the inner one's
      pub nest_outer_index : (e : Formula) (index : ℕ → ℕ) → IsIndex d k f e index → IsIndex d k nest e (λ t. index (t / width))
      nest_outer_index e index is t more vars lt =
          let p = pair_is t lt in
          let b = (takes (t / width) p.0).around (t % width) p.1 in
          ap (λ xs. value (ids_of d.launch k) xs vars e) (ap (λ xs. xs ++ more) b.1 ∙ append_assoc (loop_variables (f.frames (t / width))) b.0 more) ∙ is (t / width) (b.0 ++ more) vars p.0

      pub nest_inner_index : (e : Formula) (index : (u v : ℕ) → ℕ) → ((u : ℕ) → u < f.count → IsIndex d k (in_turn u) e (index u)) → IsIndex d k nest e (λ t. index (t / width) (t % width))
      nest_inner_index e index is t more vars lt = let p = pair_is t lt in is (t / width) p.0 (t % width) more vars p.1

  -- a loop whose body is a loop alone
  module _ (fs : List Frame) (p q : Loop) (n m : ℕ) (a : Counts d k p n) (b : Counts d k q m) (body : p.body ≡ loop_code q) (alone : q.after ≡ End) where
    pub loops_takes : TakesTurns d k fs (loop_code p) p.after (nest_form (loop_form d k fs p n) m q.body End (λ u v. frame_of d k q v ∷ (frame_of d k p u ∷ fs)))
    loops_takes =
        nest_takes fs (loop_code p) p.after (loop_form d k fs p n) (loop_takes fs p n a) m q.body End (λ u v. frame_of d k q v ∷ (frame_of d k p u ∷ fs))
        (λ u ul.
        let inner = loop_form d k (frame_of d k p u ∷ fs) q m in
        subst (λ z. TakesTurns d k (frame_of d k p u ∷ fs) z End inner) (sym body) (subst (λ z. TakesTurns d k (frame_of d k p u ∷ fs) (loop_code q) z inner) alone (loop_takes (frame_of d k p u ∷ fs) q m b)))
