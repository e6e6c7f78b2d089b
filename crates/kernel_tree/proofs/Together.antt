-- Items that stand together are at one place and at the same turns.
use Rattle.std.proofs.Common.{◌≡◌, ℕ, ◌+◌, ◌^◌, List, [], ◌∷◌, Option, Some, None, Bool, true, false, refl, ap, sym, ◌∙◌, subst}
use Rattle.std.specs.Prelude.{◌↔◌, if◌then◌else◌, nat_lt, map}
use Rattle.kernel_tree.specs.declared.events.FaultKind.TheVariants.{LoopWrap}
use Rattle.kernel_tree.specs.Formula.{Ids, Vars, value, lanes_value, bound_value}
use Rattle.kernel_tree.specs.Code.{stride_value, Code, End, Performs, Assigns, Loads, Stores, AssignsFour, LoadsFour, StoresFour, Loops, Guards, Syncs}
use Rattle.kernel_tree.specs.Item.{Frame, loop_variables, Wants, Waits, Fails, with_value, tested, next_turn, next_at, next}
use Rattle.kernel_tree.specs.Device.{still, StandTogether}
use Rattle.kernel_tree.specs.Meets.{IsWaiting}
use Rattle.kernel_tree.specs.Places.{Place, place, untimed, TogetherIsOnePlace}

not_waiting : {A : Type 0} (o : Option A) (go : A → Wants) → ((v : A) → IsWaiting (go v) → ⊥) → IsWaiting (with_value o go) → ⊥
not_waiting None go h w = w
not_waiting (Some v) go h w = h v w

-- an item that waits stands at a barrier

pub record AtSyncs (c : Code) : Type 0 where
  on_local : Bool
  on_global : Bool
  rest : Code
  is : c ≡ Performs (Syncs on_local on_global) rest

waits_at : (ids : Ids) (c : Code) (fs : List Frame) (vars : Vars) → IsWaiting (next_at ids c fs vars) → AtSyncs c
waits_at ids End [] vars w = absurd w
waits_at ids End (f ∷ fs) vars w = absurd (not_waiting (bound_value ids.sizes f.bound) _ (λ b. again b (nat_lt (f.variable + stride_value ids f.stride) (2 ^ 32))) w)
  where
    again : (b : ℕ) (t : Bool) → IsWaiting (if t then tested b (next_turn ids f) fs vars else Fails LoopWrap) → ⊥
    again b true x = x
    again b false x = x
waits_at ids (Performs (Assigns v e) after) fs vars w = absurd (not_waiting (value ids (loop_variables fs) vars e) _ (λ x z. z) w)
waits_at ids (Performs (Loads v a i) after) fs vars w = absurd (not_waiting (value ids (loop_variables fs) vars i) _ (λ x z. z) w)
waits_at ids (Performs (Stores a i e) after) fs vars w =
    absurd (not_waiting (value ids (loop_variables fs) vars i) _ (λ n. not_waiting (value ids (loop_variables fs) vars e) _ (λ x z. z)) w)
waits_at ids (Performs (AssignsFour v e) after) fs vars w = absurd (not_waiting (lanes_value ids (loop_variables fs) vars e) _ (λ x z. z) w)
waits_at ids (Performs (LoadsFour v a i) after) fs vars w = absurd (not_waiting (value ids (loop_variables fs) vars i) _ (λ x z. z) w)
waits_at ids (Performs (StoresFour a i e) after) fs vars w =
    absurd (not_waiting (value ids (loop_variables fs) vars i) _ (λ n. not_waiting (lanes_value ids (loop_variables fs) vars e) _ (λ x z. z)) w)
waits_at ids (Loops s b c body after) fs vars w = absurd (not_waiting (bound_value ids.sizes b) _ (λ x z. z) w)
waits_at ids (Guards s b body after) fs vars w = absurd (not_waiting (bound_value ids.sizes b) _ (λ x z. z) w)
waits_at ids (Performs (Syncs p q) after) fs vars w = record { on_local = p; on_global = q; rest = after; is = refl }

stand_waiting : (v w : Wants) → StandTogether v w → IsWaiting v × IsWaiting w
stand_waiting (Waits a b x) (Waits c d y) h = (tt, tt)
stand_waiting (Waits a b x) _ h = absurd h
stand_waiting _ _ h = absurd h

-- loops but for their variables are their places and their turns

untimed-still : (fs : List Frame) → map untimed (map still fs) ≡ map untimed fs
untimed-still [] = refl
untimed-still (f ∷ fs) = ap (λ gs. untimed f ∷ gs) (untimed-still fs)

turns-still : (fs : List Frame) → map (λ f. f.turn) (map still fs) ≡ map (λ f. f.turn) fs
turns-still [] = refl
turns-still (f ∷ fs) = ap (λ gs. f.turn ∷ gs) (turns-still fs)

timed : ℕ → Frame → Frame
timed n f = record { turn = n; variable = 0; bound = f.bound; stride = f.stride; body = f.body; after = f.after }

all_timed : List ℕ → List Frame → List Frame
all_timed [] fs = []
all_timed (n ∷ ns) [] = []
all_timed (n ∷ ns) (f ∷ fs) = timed n f ∷ all_timed ns fs

still-timed : (fs : List Frame) → all_timed (map (λ f. f.turn) fs) (map untimed fs) ≡ map still fs
unfolding timed all_timed
still-timed [] = refl
still-timed (f ∷ fs) = ap (λ gs. still f ∷ gs) (still-timed fs)

module _ (p q : Bool) (after : Code) (fs : List Frame) (a b : Bool) (rest : Code) (gs : List Frame) where
  abbrev Alike : Type 0
  Alike = (p ≡ a) × (q ≡ b) × (after ≡ rest) × (map still fs ≡ map still gs)

  abbrev AtOnePlace : Type 0
  AtOnePlace = (place (Performs (Syncs p q) after) (map untimed fs) ≡ place (Performs (Syncs a b) rest) (map untimed gs)) × (map (λ f. f.turn) fs ≡ map (λ f. f.turn) gs)

  to_place : Alike → AtOnePlace
  to_place h = (
    λ i. place (Performs (Syncs (h.0 i) (h.1 i)) (h.2 i)) ((sym (untimed-still fs) ∙ ap (map untimed) h.3 ∙ untimed-still gs) i),
    sym (turns-still fs) ∙ ap (map (λ f. f.turn)) h.3 ∙ turns-still gs,
  )

  from_place : AtOnePlace → Alike
  from_place h =
      let e : Performs (Syncs p q) after ≡ Performs (Syncs a b) rest = ap (λ (x : Place). x.code) h.0 in
      let l : map untimed fs ≡ map untimed gs = ap (λ (x : Place). x.loops) h.0 in (
        cc,
        cc,
        cc,
        sym (still-timed fs) ∙ ap (λ ns. all_timed ns (map untimed fs)) h.1 ∙ ap (all_timed (map (λ f. f.turn) gs)) l ∙ still-timed gs,
      )

module _ (i j : Ids) (c e : Code) (fs gs : List Frame) (u v : Vars) where
  abbrev Same : Code → Code → Type 0
  Same a b = StandTogether (next_at i a fs u) (next_at j b gs v) ↔ ((place a (map untimed fs) ≡ place b (map untimed gs)) × (map (λ f. f.turn) fs ≡ map (λ f. f.turn) gs))

  at_barriers : AtSyncs c → AtSyncs e → Same c e
  at_barriers a b =
      subst (λ x. Same x e) (sym a.is)
      (subst (λ y. Same (Performs (Syncs a.on_local a.on_global) a.rest) y) (sym b.is)
      (to_place a.on_local a.on_global a.rest fs b.on_local b.on_global b.rest gs, from_place a.on_local a.on_global a.rest fs b.on_local b.on_global b.rest gs))

pub together_at_one_place : TogetherIsOnePlace
unfolding next
together_at_one_place i j x y = (
  λ h.
      let w = stand_waiting (next i x) (next j y) h in
      let a = waits_at i x.code x.frames x.vars w.0 in
      let b = waits_at j y.code y.frames y.vars w.1 in
      let r = (at_barriers i j x.code y.code x.frames y.frames x.vars y.vars a b).0 h in
      (w.0, r.0, r.1),
  λ h.
      let a = waits_at i x.code x.frames x.vars h.0 in
      let b = subst AtSyncs (ap (λ (p : Place). p.code) h.1) a in
      (at_barriers i j x.code y.code x.frames y.frames x.vars y.vars a b).1 (h.1, h.2),
)
