-- What is seen of an event is one.
use Rattle.std.proofs.Common.{◌≡◌, ℕ, List, Option, Some, None, refl, ap, sym, ◌∙◌, subst, ⊎_elim, arith}
use Rattle.std.proofs.lemmas.Bool.{cases_lt}
use Rattle.kernel_tree.specs.declared.events.Event.{Event}
use Rattle.kernel_tree.specs.declared.events.FaultKind.{FaultKind}
use Rattle.kernel_tree.specs.declared.events.FaultKind.TheVariants.{Race, OutOfRange, ZeroDivisor, Divergent, LoopWrap}
use Rattle.kernel_tree.specs.declared.events.Seen.{Seen}
use Rattle.kernel_tree.specs.Device.{Device, State, run}
use Rattle.kernel_tree.specs.Faults.{failure_of, FaultIs}
use Rattle.kernel_tree.specs.Seen.{seen_of, LaneIs, IsSeen}

-- the failure that a fault tells, if it is one
told : Option FaultKind → Option FaultKind
told None = None
told (Some Race) = None
told (Some Divergent) = None
told (Some OutOfRange) = Some OutOfRange
told (Some ZeroDivisor) = Some ZeroDivisor
told (Some LoopWrap) = Some LoopWrap

module _ (d : Device) (s : State) (es : List Event) (e : Event) where
  failure_told : (f : Option FaultKind) → FaultIs d s es e f → failure_of d (run d s es) e ≡ told f
  unfolding told
  failure_told None h = h.0
  failure_told (Some Race) h = h.0
  failure_told (Some Divergent) h = h.0
  failure_told (Some OutOfRange) h = h
  failure_told (Some ZeroDivisor) h = h
  failure_told (Some LoopWrap) h = h

  -- where no failure is told, a race or none and then a divergence or none
  same_untold : (f g : Option FaultKind) → told f ≡ told g → FaultIs d s es e f → FaultIs d s es e g → f ≡ g
  unfolding told
  same_untold None None q h i = refl
  same_untold None (Some Race) q h i = absurd (h.1 i.1)
  same_untold None (Some Divergent) q h i = absurd (h.2 i.2)
  same_untold None (Some OutOfRange) q h i = cc
  same_untold None (Some ZeroDivisor) q h i = cc
  same_untold None (Some LoopWrap) q h i = cc
  same_untold (Some Race) None q h i = absurd (i.1 h.1)
  same_untold (Some Race) (Some Race) q h i = refl
  same_untold (Some Race) (Some Divergent) q h i = absurd (i.1 h.1)
  same_untold (Some Race) (Some OutOfRange) q h i = cc
  same_untold (Some Race) (Some ZeroDivisor) q h i = cc
  same_untold (Some Race) (Some LoopWrap) q h i = cc
  same_untold (Some Divergent) None q h i = absurd (i.2 h.2)
  same_untold (Some Divergent) (Some Race) q h i = absurd (h.1 i.1)
  same_untold (Some Divergent) (Some Divergent) q h i = refl
  same_untold (Some Divergent) (Some OutOfRange) q h i = cc
  same_untold (Some Divergent) (Some ZeroDivisor) q h i = cc
  same_untold (Some Divergent) (Some LoopWrap) q h i = cc
  same_untold (Some OutOfRange) (Some OutOfRange) q h i = refl
  same_untold (Some OutOfRange) _ q h i = cc
  same_untold (Some ZeroDivisor) (Some ZeroDivisor) q h i = refl
  same_untold (Some ZeroDivisor) _ q h i = cc
  same_untold (Some LoopWrap) (Some LoopWrap) q h i = refl
  same_untold (Some LoopWrap) _ q h i = cc

  pub one_fault : (f g : Option FaultKind) → FaultIs d s es e f → FaultIs d s es e g → f ≡ g
  one_fault f g h i = same_untold f g (sym (failure_told f h) ∙ failure_told g i) h i

  one_lane : (f : Option FaultKind) (m n : ℕ) → LaneIs d s es e f m → LaneIs d s es e f n → m ≡ n
  one_lane (Some Race) m n h i =
      ⊎_elim
      (λ lt. absurd (i.1 m lt h.0))
      (λ le. ⊎_elim (λ lt. absurd (h.1 n lt i.0)) (λ ge. omega (arith, le, ge)) (cases_lt n m))
      (cases_lt m n)
  one_lane None m n h i = h ∙ sym i
  one_lane (Some OutOfRange) m n h i = h ∙ sym i
  one_lane (Some ZeroDivisor) m n h i = h ∙ sym i
  one_lane (Some Divergent) m n h i = h ∙ sym i
  one_lane (Some LoopWrap) m n h i = h ∙ sym i

  pub one_sight : (x y : Seen) → IsSeen d s es e x → IsSeen d s es e y → x ≡ y
  one_sight x y h i =
      let q = one_fault h.kind i.kind h.fault i.fault in
      let l = one_lane i.kind h.lane i.lane (subst (λ f. LaneIs d s es e f h.lane) q h.in_lane) i.in_lane in
      h.is ∙ ap (λ f. seen_of d (run d s es) e h.lane f) q ∙ ap (λ n. seen_of d (run d s es) e n i.kind) l ∙ sym i.is
