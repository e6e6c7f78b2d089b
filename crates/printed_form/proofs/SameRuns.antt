-- Alike kernels have the same runs.
use Rattle.std.proofs.Common.{◌≡◌, ℕ, suc, ◌+◌, ◌*◌, ◌<◌, ◌^◌, Bool, true, false, List, [], ◌∷◌, ◌++◌, Option, Some, None, refl, sym, ap, ◌∙◌, subst, ⊎_elim, arith}
use Rattle.std.specs.Prelude.{if◌then◌else◌, nat_lt, ◌==◌, ◌&&◌, slice_index}
use Rattle.std.proofs.lemmas.Bool.{ltb-true}
use Rattle.std.proofs.Math.Path.{fun_ext}
use Rattle.lift_tree.specs.declared.term.Level.TheVariants as level
use Rattle.kernel_tree.specs.declared.events.Event.{Event}
use Rattle.kernel_tree.specs.declared.events.Event.TheVariants.{Step, Release}
use Rattle.kernel_tree.specs.declared.events.FaultKind.{FaultKind}
use Rattle.kernel_tree.specs.declared.events.FaultKind.TheVariants.{LoopWrap, OutOfRange}
use Rattle.kernel_tree.specs.Formula.{Vars, set_word, set_vector, value, lanes_value, bound_value}
use Rattle.kernel_tree.specs.Code.{Array, Input, Output, Local, Private, Start, Statement, Assigns, Loads, Stores, AssignsFour, LoadsFour, StoresFour, Syncs, Code, End, Performs, Loops, Guards, Kernel, start_value, stride_value, then_rest}
use Rattle.kernel_tree.specs.Launch.{Launch, Cells, IsWhole, item_count, ids_of, group_of, first_item}
use Rattle.kernel_tree.specs.Item.{Frame, Item, item, loop_variables, Wants, Ends, Waits, Moves, Reads, Writes, ReadsFour, WritesFour, Fails, with_value, tested, next_turn, perform, next_at, next}
use Rattle.kernel_tree.specs.Device.{Device, State, Memory, Fence, device_of, length_in, cell_at, four_at, four_words, fence_of, wants, CanStep, StandTogether, Enabled, moves, taken, stored, memory_after, has_flag, releases, after, run, IsRun}
use Rattle.kernel_tree.specs.Faults.{Access, Among, IsRace, access_four, accessed, accesses_of, accesses, failure, failure_of}
use Rattle.kernel_tree.specs.Deeds.{Got, Gave, GotFour, GaveFour}
use Rattle.kernel_tree.specs.Histories.{Did, Past, act_of, acts_of, history}
use Rattle.kernel_tree.specs.EveryRun.{Completes}
use Rattle.kernel_tree.specs.Meets.{IsWaiting, MeetTogether}
use Rattle.kernel_tree.proofs.Grouping.{first_of_group, first_in_launch, in_launch}
use Rattle.lift_ir.specs.Types.{Ty}
use Rattle.lift_ir.specs.Terms.{Over, Term, Reshape, LetArray, Map}
use Rattle.printed_form.specs.Counts.{Count, no_variables}
use Rattle.printed_form.specs.Marks.{Marks}
use Rattle.printed_form.specs.Form.{IsWritten}
use Rattle.printed_form.specs.Whole.{no_marks, output_marks, IsOverLaunch, IsCode}
use Rattle.printed_form.specs.Alike.{AlikeStatement, Alike, AlikeFrames, AlikeItems, AlikeWants, AlikeStates, SameRun, PrintedKernelsAreAlike}
use Rattle.printed_form.proofs.Alike.{alike_written, alike_over_launch}

pub waits_too : (w v : Wants) → StandTogether w v → IsWaiting v
waits_too (Waits a b x) (Waits c d y) s = tt
waits_too (Waits a b x) Ends s = absurd s
waits_too (Waits a b x) (Moves y) s = absurd s
waits_too (Waits a b x) (Reads c n f) s = absurd s
waits_too (Waits a b x) (Writes c n v y) s = absurd s
waits_too (Waits a b x) (ReadsFour c n f) s = absurd s
waits_too (Waits a b x) (WritesFour c n u y) s = absurd s
waits_too (Waits a b x) (Fails f) s = absurd s
waits_too _ v s = absurd s

module _ (grouped : Bool) (l : Launch) (k : ℕ) where
  same_loops : (fs hs : List Frame) → AlikeFrames grouped l k fs hs → loop_variables fs ≡ loop_variables hs
  same_loops [] [] a = refl
  same_loops [] (h ∷ hs) a = absurd a
  same_loops (f ∷ fs) [] a = absurd a
  same_loops (f ∷ fs) (h ∷ hs) a = ap (λ v. loop_variables fs ++ v ∷ []) a.1 ∙ ap (λ vs. vs ++ h.variable ∷ []) (same_loops fs hs a.8)

  with_value_alike : {V : Type 0} (o p : Option V) (g h : V → Wants) → o ≡ p → ((x : V) → AlikeWants grouped l k (g x) (h x)) → AlikeWants grouped l k (with_value o g) (with_value p h)
  with_value_alike {V = V} o p g h e r = subst (λ q. AlikeWants grouped l k (with_value o g) (with_value q h)) e (go o)
    where
      go : (o : Option V) → AlikeWants grouped l k (with_value o g) (with_value o h)
      go None = refl
      go (Some x) = r x

  moved_alike : (c d : Code) (fs hs : List Frame) (vars : Vars) → Alike grouped l k (loop_variables fs) c d → AlikeFrames grouped l k fs hs → AlikeItems grouped l k (item c fs vars) (item d hs vars)
  moved_alike c d fs hs vars a b = record { code = a; frames = b; vars = refl }

  -- code before whatever follows
  before_rest : (ts : List ℕ) (a b r q : Code) → Alike grouped l k ts a b → Alike grouped l k ts r q → Alike grouped l k ts (then_rest a r) (then_rest b q)
  before_rest ts End End r q a h = h
  before_rest ts (Performs s x) (Performs t y) r q a h = (a.0, before_rest ts x y r q a.1 h)
  before_rest ts (Loops s b c body x) (Loops t d e other y) r q a h = (a.0, a.1, a.2, a.3, a.4, a.5, before_rest ts x y r q a.6 h)
  before_rest ts (Guards s b body x) (Guards t d other y) r q a h = (a.0, a.1, a.2, a.3, a.4, a.5, before_rest ts x y r q a.6 h)
  before_rest ts _ _ r q a h = absurd a

  -- an `if` is entered in both, or in neither
  guarded_alike : (n : ℕ) (s : Start) (body r other q : Code) (fs hs : List Frame) (vars : Vars) → (start_value (ids_of l k) s < n → Alike grouped l k (loop_variables fs) body other) → Alike grouped l k (loop_variables fs) r q → AlikeFrames grouped l k fs hs
      → AlikeItems grouped l k (if nat_lt (start_value (ids_of l k) s) n then item (then_rest body r) fs vars else item r fs vars) (if nat_lt (start_value (ids_of l k) s) n then item (then_rest other q) hs vars else item q hs vars)
  guarded_alike n s body r other q fs hs vars within after b = go (nat_lt (start_value (ids_of l k) s) n) refl
    where
      go : (t : Bool) → nat_lt (start_value (ids_of l k) s) n ≡ t → AlikeItems grouped l k (if t then item (then_rest body r) fs vars else item r fs vars) (if t then item (then_rest other q) hs vars else item q hs vars)
      go true e = moved_alike (then_rest body r) (then_rest other q) fs hs vars (before_rest (loop_variables fs) body other r q (within (ltb-true (start_value (ids_of l k) s) n e)) after) b
      go false e = moved_alike r q fs hs vars after b

  -- a loop goes on in both, or ends in both
  tested_alike : (n : ℕ) (f h : Frame) (fs hs : List Frame) (vars : Vars) → bound_value l.sizes f.bound ≡ Some n → AlikeFrames grouped l k (f ∷ fs) (h ∷ hs) → AlikeWants grouped l k (tested n f fs vars) (tested n h hs vars)
  tested_alike n f h fs hs vars b a =
      let e : nat_lt f.variable n ≡ nat_lt h.variable n = ap (λ v. nat_lt v n) a.1 in
      subst (λ t. AlikeItems grouped l k (if nat_lt f.variable n then item f.body (f ∷ fs) vars else item f.after fs vars) (if t then item h.body (h ∷ hs) vars else item h.after hs vars)) e (go (nat_lt f.variable n) refl)
    where
      some_is : (x y : ℕ) → Some x ≡ Some y → x ≡ y
      some_is x y e = cc

      go : (t : Bool) → nat_lt f.variable n ≡ t → AlikeItems grouped l k (if t then item f.body (f ∷ fs) vars else item f.after fs vars) (if t then item h.body (h ∷ hs) vars else item h.after hs vars)
      go true q =
          let same : n ≡ a.3 = some_is n a.3 (sym b ∙ a.4) in
          let lt : f.variable < a.3 = subst (λ m. f.variable < m) same (ltb-true f.variable n q) in
          moved_alike f.body h.body (f ∷ fs) (h ∷ hs) vars (a.6 f.variable lt (0, omega arith)) a
      go false q = moved_alike f.after h.after fs hs vars a.7 a.8

  same_stride : (f h : Frame) (fs hs : List Frame) → AlikeFrames grouped l k (f ∷ fs) (h ∷ hs) → f.variable + stride_value (ids_of l k) f.stride ≡ h.variable + stride_value (ids_of l k) h.stride
  same_stride f h fs hs a = ap (λ v. v + stride_value (ids_of l k) f.stride) a.1 ∙ ap (λ s. h.variable + stride_value (ids_of l k) s) a.2

  one_more : (v t s : ℕ) → v + s + t * s ≡ v + suc t * s
  one_more v t s = omega arith

  next_frame : (f h : Frame) (fs hs : List Frame) → AlikeFrames grouped l k (f ∷ fs) (h ∷ hs) → AlikeFrames grouped l k (next_turn (ids_of l k) f ∷ fs) (next_turn (ids_of l k) h ∷ hs)
  next_frame f h fs hs a = (ap suc a.0, same_stride f h fs hs a, a.2, a.3, a.4, a.5, (λ i lt z. a.6 i lt (suc z.0, z.1 ∙ one_more f.variable z.0 (stride_value (ids_of l k) f.stride))), a.7, a.8)

  if_alike : (b c : Bool) (x y : Wants) (f : FaultKind) → b ≡ c → AlikeWants grouped l k x y → AlikeWants grouped l k (if b then x else Fails f) (if c then y else Fails f)
  if_alike b c x y f e h = subst (λ t. AlikeWants grouped l k (if b then x else Fails f) (if t then y else Fails f)) e (go b)
    where
      go : (b : Bool) → AlikeWants grouped l k (if b then x else Fails f) (if b then y else Fails f)
      go true = h
      go false = refl

  -- what is performed is alike, where what comes after it is
  perform_alike : (ts : List ℕ) (s t : Statement) (vars : Vars) (on go : Vars → Item) → AlikeStatement grouped l k ts s t → ((vs : Vars) → AlikeItems grouped l k (on vs) (go vs)) → AlikeWants grouped l k (perform (ids_of l k) ts vars s on) (perform (ids_of l k) ts vars t go)
  perform_alike ts (Assigns v e) (Assigns u f) vars on go a h =
      with_value_alike _ _ _ _ (ap (value (ids_of l k) ts vars) a.1)
      (λ x. subst (λ z. AlikeItems grouped l k (on (set_word vars v x)) (go (set_word vars z x))) a.0 (h (set_word vars v x)))
  perform_alike ts (Loads v p i) (Loads u p2 j) vars on go a h =
      with_value_alike _ _ _ _ (a.2 vars)
      (λ n. (a.1, refl, λ x. subst (λ z. AlikeItems grouped l k (on (set_word vars v x)) (go (set_word vars z x))) a.0 (h (set_word vars v x))))
  perform_alike ts (Stores p i e) (Stores p2 j f) vars on go a h =
      with_value_alike _ _ _ _ (a.1 vars)
      (λ n. with_value_alike _ _ _ _ (ap (value (ids_of l k) ts vars) a.2) (λ x. (a.0, refl, refl, h vars)))
  perform_alike ts (AssignsFour v e) (AssignsFour u f) vars on go a h =
      with_value_alike _ _ _ _ (ap (lanes_value (ids_of l k) ts vars) a.1)
      (λ x. subst (λ z. AlikeItems grouped l k (on (set_vector vars v x)) (go (set_vector vars z x))) a.0 (h (set_vector vars v x)))
  perform_alike ts (LoadsFour v p i) (LoadsFour u p2 j) vars on go a h =
      with_value_alike _ _ _ _ (a.2 vars)
      (λ n. (a.1, refl, λ x. subst (λ z. AlikeItems grouped l k (on (set_vector vars v x)) (go (set_vector vars z x))) a.0 (h (set_vector vars v x))))
  perform_alike ts (StoresFour p i e) (StoresFour p2 j f) vars on go a h =
      with_value_alike _ _ _ _ (a.1 vars)
      (λ n. with_value_alike _ _ _ _ (ap (lanes_value (ids_of l k) ts vars) a.2) (λ x. (a.0, refl, refl, h vars)))
  perform_alike ts (Syncs b c) (Syncs d e) vars on go a h = (a.0, a.1, a.2, h vars)
  perform_alike ts _ _ vars on go a h = absurd a

  next_at_alike : (c d : Code) (fs hs : List Frame) (vars : Vars) → Alike grouped l k (loop_variables fs) c d → AlikeFrames grouped l k fs hs → AlikeWants grouped l k (next_at (ids_of l k) c fs vars) (next_at (ids_of l k) d hs vars)
  next_at_alike End End [] [] vars a b = tt
  next_at_alike End End [] (h ∷ hs) vars a b = absurd b
  next_at_alike End End (f ∷ fs) [] vars a b = absurd b
  next_at_alike End End (f ∷ fs) (h ∷ hs) vars a b =
      let ids = ids_of l k in
      let after_test = if_alike (nat_lt (f.variable + stride_value ids f.stride) (2 ^ 32)) (nat_lt (h.variable + stride_value ids h.stride) (2 ^ 32)) (tested b.3 (next_turn ids f) fs vars) (tested b.3 (next_turn ids h) hs vars) LoopWrap
      (ap (λ v. nat_lt v (2 ^ 32)) (same_stride f h fs hs b)) (tested_alike b.3 (next_turn ids f) (next_turn ids h) fs hs vars b.4 (next_frame f h fs hs b)) in
      let go = λ (g : Frame) (gs : List Frame) (n : ℕ). if nat_lt (g.variable + stride_value ids g.stride) (2 ^ 32) then tested n (next_turn ids g) gs vars else Fails LoopWrap in
      subst (λ o. AlikeWants grouped l k (with_value o (go f fs)) (with_value (bound_value l.sizes h.bound) (go h hs))) (sym b.4)
      (subst (λ o. AlikeWants grouped l k (go f fs b.3) (with_value o (go h hs))) (sym b.5) after_test)
  next_at_alike (Performs s r) (Performs t q) fs hs vars a b =
      subst (λ ts. AlikeWants grouped l k (perform (ids_of l k) (loop_variables fs) vars s (λ vs. item r fs vs)) (perform (ids_of l k) ts vars t (λ vs. item q hs vs))) (same_loops fs hs b)
      (perform_alike (loop_variables fs) s t vars (λ vs. item r fs vs) (λ vs. item q hs vs) a.0 (λ vs. moved_alike r q fs hs vs a.1 b))
  next_at_alike (Loops s c e body r) (Loops t c2 e2 other q) fs hs vars a b =
      let ids = ids_of l k in
      let f : Frame = record { turn = 0; variable = start_value ids s; bound = c; stride = e; body = body; after = r } in
      let h : Frame = record { turn = 0; variable = start_value ids t; bound = c2; stride = e2; body = other; after = q } in
      let frames : AlikeFrames grouped l k (f ∷ fs) (h ∷ hs) = (refl, ap (start_value ids) a.0, a.1, a.2, a.3, a.4, a.5, a.6, b) in
      let go = λ (g : Frame) (gs : List Frame) (n : ℕ). tested n g gs vars in
      subst (λ o. AlikeWants grouped l k (with_value o (go f fs)) (with_value (bound_value l.sizes c2) (go h hs))) (sym a.3)
      (subst (λ o. AlikeWants grouped l k (go f fs a.2) (with_value o (go h hs))) (sym a.4) (tested_alike a.2 f h fs hs vars a.3 frames))
  next_at_alike (Guards s c body r) (Guards t c2 other q) fs hs vars a b =
      let ids = ids_of l k in
      let go = λ (u : Start) (x y : Code) (gs : List Frame) (n : ℕ). Moves (if nat_lt (start_value ids u) n then item (then_rest x y) gs vars else item y gs vars) in
      subst (λ o. AlikeWants grouped l k (with_value o (go s body r fs)) (with_value (bound_value l.sizes c2) (go t other q hs))) (sym a.3)
      (subst (λ o. AlikeWants grouped l k (go s body r fs a.2) (with_value o (go t other q hs))) (sym a.4)
      (subst (λ u. AlikeWants grouped l k (go s body r fs a.2) (go u other q hs a.2)) a.1 (guarded_alike a.2 s body r other q fs hs vars a.5 a.6 b)))
  next_at_alike _ _ fs hs vars a b = absurd a

  pub next_alike : (x y : Item) → AlikeItems grouped l k x y → AlikeWants grouped l k (next (ids_of l k) x) (next (ids_of l k) y)
  unfolding next
  next_alike x y a = subst (λ vs. AlikeWants grouped l k (next_at (ids_of l k) x.code x.frames x.vars) (next_at (ids_of l k) y.code y.frames vs)) a.vars (next_at_alike x.code y.code x.frames y.frames x.vars a.code a.frames)

  can_alike : (w v : Wants) → AlikeWants grouped l k w v → CanStep w → CanStep v
  can_alike Ends Ends a c = c
  can_alike (Waits b d x) (Waits e f y) a c = c
  can_alike (Moves x) (Moves y) a c = tt
  can_alike (Reads b n f) (Reads e m g) a c = tt
  can_alike (Writes b n x y) (Writes e m z u) a c = tt
  can_alike (ReadsFour b n f) (ReadsFour e m g) a c = tt
  can_alike (WritesFour b n x y) (WritesFour e m z u) a c = tt
  can_alike (Fails f) (Fails g) a c = tt
  can_alike _ _ a c = absurd a

  -- where one waits at a barrier there may be barriers, and the other waits too
  pub waits_alike : (w v : Wants) → AlikeWants grouped l k w v → IsWaiting w → (grouped ≡ true) × IsWaiting v
  waits_alike (Waits b d x) (Waits e f y) a c = (a.0, tt)
  waits_alike Ends v a c = absurd c
  waits_alike (Moves x) v a c = absurd c
  waits_alike (Reads b n f) v a c = absurd c
  waits_alike (Writes b n x y) v a c = absurd c
  waits_alike (ReadsFour b n f) v a c = absurd c
  waits_alike (WritesFour b n u y) v a c = absurd c
  waits_alike (Fails f) v a c = absurd c
  waits_alike _ _ a c = absurd a

  taken_alike : (w v : Wants) (m : Memory) (x y : Item) → AlikeWants grouped l k w v → AlikeItems grouped l k x y → AlikeItems grouped l k (taken l k w m x) (taken l k v m y)
  taken_alike Ends Ends m x y a h = h
  taken_alike (Waits b d x2) (Waits e f y2) m x y a h = a.3
  taken_alike (Moves x2) (Moves y2) m x y a h = a
  taken_alike (Reads b n f) (Reads e i g) m x y a h =
      subst (λ z. AlikeItems grouped l k (f (m (cell_at l k b n))) (g (m z))) (ap (λ c. cell_at l k c n) a.0 ∙ ap (cell_at l k e) a.1) (a.2 (m (cell_at l k b n)))
  taken_alike (Writes b n x2 y2) (Writes e i z u) m x y a h = a.3
  taken_alike (ReadsFour b n f) (ReadsFour e i g) m x y a h =
      subst (λ z. AlikeItems grouped l k (f (four_words m (four_at l k b n))) (g (four_words m z))) (ap (λ c. four_at l k c n) a.0 ∙ ap (four_at l k e) a.1) (a.2 (four_words m (four_at l k b n)))
  taken_alike (WritesFour b n x2 y2) (WritesFour e i z u) m x y a h = a.3
  taken_alike (Fails f) (Fails g) m x y a h = h
  taken_alike _ _ m x y a h = absurd a

  stored_alike : (w v : Wants) (m : Memory) → AlikeWants grouped l k w v → stored l k w m ≡ stored l k v m
  stored_alike Ends Ends m a = refl
  stored_alike (Waits b d x) (Waits e f y) m a = refl
  stored_alike (Moves x) (Moves y) m a = refl
  stored_alike (Reads b n f) (Reads e i g) m a = refl
  stored_alike (Writes b n x y) (Writes e i z u) m a = ap (λ c. stored l k (Writes c n x y) m) a.0 ∙ ap (λ j. stored l k (Writes e j x y) m) a.1 ∙ ap (λ q. stored l k (Writes e i q y) m) a.2
  stored_alike (ReadsFour b n f) (ReadsFour e i g) m a = refl
  stored_alike (WritesFour b n x y) (WritesFour e i z u) m a = ap (λ c. stored l k (WritesFour c n x y) m) a.0 ∙ ap (λ j. stored l k (WritesFour e j x y) m) a.1 ∙ ap (λ q. stored l k (WritesFour e i q y) m) a.2
  stored_alike (Fails f) (Fails g) m a = refl
  stored_alike _ _ m a = absurd a

  flags_alike : (w v : Wants) (f : Fence) → AlikeWants grouped l k w v → has_flag w f ≡ has_flag v f
  flags_alike Ends Ends f a = refl
  flags_alike (Waits b d x) (Waits e h y) f a = ap (λ z. has_flag (Waits z d x) f) a.1 ∙ ap (λ z. has_flag (Waits e z x) f) a.2
  flags_alike (Moves x) (Moves y) f a = refl
  flags_alike (Reads b n g) (Reads e i h) f a = refl
  flags_alike (Writes b n x y) (Writes e i z u) f a = refl
  flags_alike (ReadsFour b n g) (ReadsFour e i h) f a = refl
  flags_alike (WritesFour b n x y) (WritesFour e i z u) f a = refl
  flags_alike (Fails p) (Fails q) f a = refl
  flags_alike _ _ f a = absurd a

  access_alike : (w v : Wants) (p q : Fence → ℕ) → AlikeWants grouped l k w v → ((f : Fence) → p f ≡ q f) → accessed l k w p ≡ accessed l k v q
  access_alike Ends Ends p q a e = refl
  access_alike (Waits b d x) (Waits c f y) p q a e = refl
  access_alike (Moves x) (Moves y) p q a e = refl
  access_alike (Fails f) (Fails g) p q a e = refl
  access_alike (Reads b n f) (Reads c i g) p q a e =
      let at = λ (z : Array) (j x : ℕ). let r : Access = record { item = k; group = group_of l k; cell = cell_at l k z j; writes = false; epoch = x } in r ∷ [] in
      ap (at b n) (e (fence_of (cell_at l k b n))) ∙ ap (λ z. at z n (q (fence_of (cell_at l k z n)))) a.0 ∙ ap (λ j. at c j (q (fence_of (cell_at l k c j)))) a.1
  access_alike (Writes b n x y) (Writes c i z u) p q a e =
      let at = λ (z : Array) (j x : ℕ). let r : Access = record { item = k; group = group_of l k; cell = cell_at l k z j; writes = true; epoch = x } in r ∷ [] in
      ap (at b n) (e (fence_of (cell_at l k b n))) ∙ ap (λ z. at z n (q (fence_of (cell_at l k z n)))) a.0 ∙ ap (λ j. at c j (q (fence_of (cell_at l k c j)))) a.1
  access_alike (ReadsFour b n f) (ReadsFour c i g) p q a e = ap (access_four (group_of l k) k (four_at l k b n) false) (fun_ext e) ∙ ap (λ z. access_four (group_of l k) k (four_at l k z n) false q) a.0 ∙ ap (λ j. access_four (group_of l k) k (four_at l k c j) false q) a.1
  access_alike (WritesFour b n x y) (WritesFour c i z u) p q a e = ap (access_four (group_of l k) k (four_at l k b n) true) (fun_ext e) ∙ ap (λ z. access_four (group_of l k) k (four_at l k z n) true q) a.0 ∙ ap (λ j. access_four (group_of l k) k (four_at l k c j) true q) a.1
  access_alike _ _ p q a e = absurd a

  act_alike : (w v : Wants) → AlikeWants grouped l k w v → act_of l k w ≡ act_of l k v
  act_alike Ends Ends a = refl
  act_alike (Waits b d x) (Waits e f y) a = ap (λ z. Past z d) a.1 ∙ ap (λ z. Past e z) a.2
  act_alike (Moves x) (Moves y) a = refl
  act_alike (Fails f) (Fails g) a = refl
  act_alike (Reads b n f) (Reads c i g) a = ap (λ z. Did (Got (cell_at l k z n))) a.0 ∙ ap (λ j. Did (Got (cell_at l k c j))) a.1
  act_alike (Writes b n x y) (Writes c i z u) a = ap (λ q. Did (Gave (cell_at l k q n) x)) a.0 ∙ ap (λ j. Did (Gave (cell_at l k c j) x)) a.1 ∙ ap (λ q. Did (Gave (cell_at l k c i) q)) a.2
  act_alike (ReadsFour b n f) (ReadsFour c i g) a = ap (λ z. Did (GotFour (four_at l k z n))) a.0 ∙ ap (λ j. Did (GotFour (four_at l k c j))) a.1
  act_alike (WritesFour b n x y) (WritesFour c i z u) a = ap (λ q. Did (GaveFour (four_at l k q n) x)) a.0 ∙ ap (λ j. Did (GaveFour (four_at l k c j) x)) a.1 ∙ ap (λ q. Did (GaveFour (four_at l k c i) q)) a.2
  act_alike _ _ a = absurd a

  ends_alike : (w v : Wants) → AlikeWants grouped l k w v → w ≡ Ends → v ≡ Ends
  ends_alike w v a e = end_of v (subst (λ z. AlikeWants grouped l k z v) e a)
    where
      end_of : (v : Wants) → AlikeWants grouped l k Ends v → v ≡ Ends
      end_of Ends a = refl
      end_of _ a = absurd a

-- where there may be barriers, the items of a group meet in each run
abbrev pub MeetsAt : (grouped : Bool) → Device → State → Type 0
MeetsAt grouped d s = grouped ≡ true → (es : List Event) → IsRun d s es → MeetTogether d (run d s es)

-- and where there are none, there is nothing to meet at
pub nothing_to_meet : (d : Device) (s : State) → MeetsAt false d s
nothing_to_meet d s may es r = absurd (cc)

module _ (grouped : Bool) (d : Device) (lengths : Array → ℕ) (same : (a : Array) → d.lengths a ≡ lengths a) (whole : IsWhole d.launch) where
  other : Device
  other = record { launch = d.launch; lengths = lengths }

  failure_alike : (k : ℕ) (w v : Wants) → AlikeWants grouped d.launch k w v → failure d w ≡ failure other v
  unfolding other
  failure_alike k Ends Ends a = refl
  failure_alike k (Waits b c x) (Waits e f y) a = refl
  failure_alike k (Moves x) (Moves y) a = refl
  failure_alike k (Reads b n f) (Reads c i g) a = ap (λ z. if nat_lt n z then None else Some OutOfRange) (same b ∙ ap lengths a.0) ∙ ap (λ j. if nat_lt j (lengths c) then None else Some OutOfRange) a.1
  failure_alike k (Writes b n x y) (Writes c i z u) a = ap (λ z. if nat_lt n z then None else Some OutOfRange) (same b ∙ ap lengths a.0) ∙ ap (λ j. if nat_lt j (lengths c) then None else Some OutOfRange) a.1
  failure_alike k (ReadsFour b n f) (ReadsFour c i g) a = ap (λ z. if nat_lt (4 * n + 3) z then None else Some OutOfRange) (same b ∙ ap lengths a.0) ∙ ap (λ j. if nat_lt (4 * j + 3) (lengths c) then None else Some OutOfRange) a.1
  failure_alike k (WritesFour b n x y) (WritesFour c i z u) a = ap (λ z. if nat_lt (4 * n + 3) z then None else Some OutOfRange) (same b ∙ ap lengths a.0) ∙ ap (λ j. if nat_lt (4 * j + 3) (lengths c) then None else Some OutOfRange) a.1
  failure_alike k (Fails f) (Fails g) a = ap (λ h. Some h) a
  failure_alike k _ _ a = absurd a

  wants_alike : (s t : State) → AlikeStates grouped d.launch s t → (j : ℕ) → j < item_count d.launch → AlikeWants grouped d.launch j (wants d s j) (wants other t j)
  unfolding other
  wants_alike s t a j lt = next_alike grouped d.launch j (s.items j) (t.items j) (a.items j lt)

  first_here : (s : State) (g : ℕ) → Enabled d s (Release g) → first_item d.launch g < item_count d.launch
  first_here s g en = first_in_launch d.launch whole g en.0

  enabled_alike : (s t : State) (e : Event) → AlikeStates grouped d.launch s t → (grouped ≡ true → MeetTogether other t) → Enabled d s e → Enabled other t e
  unfolding other
  enabled_alike s t (Step k) a meet en = (en.0, can_alike grouped d.launch k (wants d s k) (wants other t k) (wants_alike s t a k en.0) en.1)
  enabled_alike s t (Release g) a meet en = (en.0, λ j of. (meet first_waits.0).together (first_item d.launch g) j (first_here s g en) (within j of) (in_group ∙ sym of) first_waits.1 (waiting j (within j of) of).1)
    where
      in_group : group_of d.launch (first_item d.launch g) ≡ g
      in_group = first_of_group d.launch whole g

      within : (j : ℕ) → group_of d.launch j ≡ g → j < item_count d.launch
      within j of = in_launch d.launch whole g j en.0 of

      waiting : (j : ℕ) → j < item_count d.launch → group_of d.launch j ≡ g → (grouped ≡ true) × IsWaiting (wants other t j)
      waiting j lt of = waits_alike grouped d.launch j (wants d s j) (wants other t j) (wants_alike s t a j lt) (waits_too (wants d s (first_item d.launch g)) (wants d s j) (en.1 j of))

      first_waits : (grouped ≡ true) × IsWaiting (wants other t (first_item d.launch g))
      first_waits = waiting (first_item d.launch g) (first_here s g en) in_group

  after_alike : (s t : State) (e : Event) → Enabled d s e → AlikeStates grouped d.launch s t → AlikeStates grouped d.launch (after d s e) (after other t e)
  unfolding other after
  after_alike s t e en a = record {
    items = λ j lt. go j (moves d.launch e j) lt;
    memory = memories e en;
    epochs = λ g f. ap (λ b. if b then suc (s.epochs g f) else s.epochs g f) (flags e g f en) ∙ ap (λ n. if releases other t e g f then suc n else n) (a.epochs g f);
  }
    where
      go : (j : ℕ) (b : Bool) → j < item_count d.launch → AlikeItems grouped d.launch j (if b then taken d.launch j (wants d s j) s.memory (s.items j) else s.items j) (if b then taken d.launch j (wants other t j) t.memory (t.items j) else t.items j)
      go j true lt = subst (λ m. AlikeItems grouped d.launch j (taken d.launch j (wants d s j) s.memory (s.items j)) (taken d.launch j (wants other t j) m (t.items j))) a.memory (taken_alike grouped d.launch j (wants d s j) (wants other t j) s.memory (s.items j) (t.items j) (wants_alike s t a j lt) (a.items j lt))
      go j false lt = a.items j lt

      memories : (e : Event) → Enabled d s e → memory_after d s e ≡ memory_after other t e
      memories (Step k) en = stored_alike grouped d.launch k (wants d s k) (wants other t k) s.memory (wants_alike s t a k en.0) ∙ ap (stored d.launch k (wants other t k)) a.memory
      memories (Release g) en = a.memory

      flags : (e : Event) (g : ℕ) (f : Fence) → Enabled d s e → releases d s e g f ≡ releases other t e g f
      flags (Step k) g f en = refl
      flags (Release h) g f en = ap (λ b. (g == h) && b) (flags_alike grouped d.launch (first_item d.launch h) (wants d s (first_item d.launch h)) (wants other t (first_item d.launch h)) f (wants_alike s t a (first_item d.launch h) (first_here s h en)))

  accesses_alike : (s t : State) (e : Event) → Enabled d s e → AlikeStates grouped d.launch s t → accesses_of d s e ≡ accesses_of other t e
  unfolding other accesses_of
  accesses_alike s t (Step k) en a = access_alike grouped d.launch k (wants d s k) (wants other t k) _ _ (wants_alike s t a k en.0) (a.epochs (group_of d.launch k))
  accesses_alike s t (Release g) en a = refl

  failures_alike : (s t : State) (e : Event) → Enabled d s e → AlikeStates grouped d.launch s t → failure_of d s e ≡ failure_of other t e
  unfolding other failure_of
  failures_alike s t (Step k) en a = failure_alike k (wants d s k) (wants other t k) (wants_alike s t a k en.0)
  failures_alike s t (Release g) en a = refl

  acts_alike : (s t : State) (e : Event) (j : ℕ) → j < item_count d.launch → AlikeStates grouped d.launch s t → acts_of d s e j ≡ acts_of other t e j
  unfolding other
  acts_alike s t e j lt a = ap (λ x. if moves d.launch e j then x ∷ [] else []) (act_alike grouped d.launch j (wants d s j) (wants other t j) (wants_alike s t a j lt))

  pub same_runs : (s t : State) (es : List Event) → AlikeStates grouped d.launch s t → MeetsAt grouped (record { launch = d.launch; lengths = lengths }) t → IsRun d s es → SameRun grouped d (record { launch = d.launch; lengths = lengths }) s t es
  unfolding other
  same_runs s t [] a meet r = record { is_run = tt; accesses = refl; histories = λ j lt. refl; no_failure = λ h. tt; ends = a }
  same_runs s t (e ∷ es) a meet r =
      let b = after_alike s t e r.0 a in
      let en = enabled_alike s t e a (λ may. meet may [] tt) r.0 in
      let h = same_runs (after d s e) (after other t e) es b (λ may fs q. meet may (e ∷ fs) (en, q)) r.1 in
      record {
        is_run = (en, h.is_run);
        accesses = ap (λ x. x ++ accesses d (after d s e) es) (accesses_alike s t e r.0 a) ∙ ap (λ x. accesses_of other t e ++ x) h.accesses;
        histories = λ j lt. ap (λ x. x ++ history d (after d s e) es j) (acts_alike s t e j lt a) ∙ ap (λ x. acts_of other t e j ++ x) (h.histories j lt);
        no_failure = λ f. (sym (failures_alike s t e r.0 a) ∙ f.0, h.no_failure f.1);
        ends = h.ends;
      }

  -- what completes one completes the other, with the same histories
  pub completes_alike : (s t : State) (es : List Event) → AlikeStates grouped d.launch s t → MeetsAt grouped (record { launch = d.launch; lengths = lengths }) t → Completes d s es → Completes (record { launch = d.launch; lengths = lengths }) t es
  unfolding other
  completes_alike s t es a meet c =
      let h = same_runs s t es a meet c.is_run in
      record {
        is_run = h.is_run;
        no_failure = h.no_failure c.no_failure;
        no_race = subst (λ xs. (x y : Access) → Among x xs → Among y xs → IsRace x y → ⊥) h.accesses c.no_race;
        ended = λ j lt. ends_alike grouped d.launch j _ _ (wants_alike (run d s es) (run other t es) h.ends j lt) (c.ended j lt);
      }

-- items begin alike at alike codes, with the same variables
pub start_alike : (grouped : Bool) (l : Launch) (j : ℕ) (a b : Code) (vars : Vars) (x y : Item) → Alike grouped l j [] a b → x ≡ item a [] vars → y ≡ item b [] vars → AlikeItems grouped l j x y
start_alike grouped l j a b vars x y code first second =
    subst (λ z. AlikeItems grouped l j z y) (sym first) (subst (AlikeItems grouped l j (item a [] vars)) (sym second) (record { code = code; frames = tt; vars = refl }))

-- kernels with the same local and private arrays have arrays of the same lengths
pub same_lengths : (k m : Kernel) (c : Cells) → k.locals ≡ m.locals → k.privates ≡ m.privates → (b : Array) → length_in k c b ≡ length_in m c b
same_lengths k m c locals privates (Input n) = refl
same_lengths k m c locals privates (Output n) = refl
same_lengths k m c locals privates (Local n) = ap (λ ns. slice_index ns n) locals
same_lengths k m c locals privates (Private n) = ap (λ ns. slice_index ns n) privates

-- the codes of one term

never_both : {A : Type 0} (num : A → ℕ) (l : Launch) (item : ℕ) (ins : ℕ → Marks) (t : Term A) (ts : List ℕ) (env env2 : ℕ → Marks) (p p2 : ℕ) (n n2 : Count) (w w2 : Marks) (a b c e : Code) → IsWritten l item ins num ts env p n t w a b → IsOverLaunch l item ins num env2 p2 n2 t w2 c e → ⊥
never_both num l item ins (Reshape y t) ts env env2 p p2 n n2 w w2 a b c e x z = never_both num l item ins t ts env env2 p p2 n n2 _ _ a b c e x.1 z.1
never_both num l item ins (LetArray v t) ts env env2 p p2 n n2 w w2 a b c e x z = never_both num l item ins t ts _ _ _ _ _ _ w w2 x.0 b z.0 e x.2 z.2
never_both num l item ins (Map (Over level.Launch _) len loads xs t) ts env env2 p p2 n n2 w w2 a b c e x z = x
never_both num l item ins _ ts env env2 p p2 n n2 w w2 a b c e x z = z

pub codes_alike : {A : Type 0} (num : A → ℕ) (l : Launch) (ins : ℕ → Marks) (t : Term A) (ty : Ty) (a b : Code) → IsCode l ins num t ty a → IsCode l ins num t ty b → (item : ℕ) → item < item_count l → Alike false l item [] a b
codes_alike num l ins t ty a b x y item lt =
    ⊎_elim
    (λ p. ⊎_elim
    (λ q. subst (λ i. Alike false l i [] a b) (let e = p.0 in let z : 0 ≡ item = omega arith in z) (alike_written false l 0 ins num t [] no_marks 0 no_variables (output_marks ty) a b End End p.1 q.1 tt))
    (λ q. absurd (never_both num l 0 ins t [] no_marks no_marks 0 0 no_variables no_variables (output_marks ty) (output_marks ty) a End b End p.1 (q 0 (let e = p.0 in omega arith)))) y)
    (λ p. ⊎_elim
    (λ q. absurd (never_both num l 0 ins t [] no_marks no_marks 0 0 no_variables no_variables (output_marks ty) (output_marks ty) b End a End q.1 (p 0 (let e = q.0 in omega arith))))
    (λ q. alike_over_launch false l item ins num t no_marks 0 no_variables (output_marks ty) a b End End (p item lt) (q item lt) tt) y)
    x

pub printed_kernels_are_alike : (A : Type 0) → PrintedKernelsAreAlike A
printed_kernels_are_alike A num l ins t ty k k2 c s s2 es whole x y same begin r =
    let h = codes_alike num l ins t ty k.code k2.code x y in
    same_runs false (device_of k l c) (length_in k2 c) same whole s s2 es (record {
      items = λ j lt. start_alike false l j k.code k2.code (begin.vars j) (s.items j) (s2.items j) (h j lt) (begin.first j lt) (begin.second j lt);
      memory = begin.memory;
      epochs = begin.epochs;
    }) (nothing_to_meet (device_of k2 l c) s2) r
