-- Where every run goes on to a state in which all items have ended, the items of
-- a group meet the same barriers.
use Rattle.std.proofs.Common.{◌≡◌, ℕ, List, [], ◌∷◌, sym, ◌∙◌, subst, ⊎_elim}
use Rattle.std.proofs.lemmas.Bool.{cases_eq, ne_eqb}
use Rattle.kernel_tree.specs.declared.events.Event.{Event}
use Rattle.kernel_tree.specs.declared.events.Event.TheVariants.{Step, Release}
use Rattle.kernel_tree.specs.Launch.{group_of, first_item}
use Rattle.kernel_tree.specs.Item.{Wants, Ends, Waits}
use Rattle.kernel_tree.specs.Device.{Device, State, wants, CanStep, StandTogether, Enabled, after, run, IsRun, AllEnded}
use Rattle.kernel_tree.specs.EveryRun.{EveryRun}
use Rattle.kernel_tree.proofs.Confluence.{wants_kept}
use Rattle.kernel_tree.proofs.EveryRun.{run-append, is_run-back}
use Rattle.kernel_tree.specs.Meets.{IsWaiting, MeetTogether}

stand_both : (v w u : Wants) → StandTogether v w → StandTogether v u → StandTogether w u
stand_both (Waits a b x) (Waits c e y) (Waits f g z) p q = (sym p.0 ∙ q.0, sym p.1 ∙ q.1, sym p.2 ∙ q.2, sym p.3 ∙ q.3)
stand_both (Waits a b x) (Waits c e y) _ p q = q
stand_both (Waits a b x) _ u p q = absurd p
stand_both _ w u p q = absurd p

stand_ended : (v : Wants) → StandTogether v Ends → ⊥
stand_ended (Waits a b x) p = p
stand_ended _ p = p

waits_still : (w : Wants) → IsWaiting w → CanStep w → ⊥
waits_still (Waits a b x) p c = c
waits_still _ p c = p

waits_open : (w : Wants) → IsWaiting w → w ≡ Ends → ⊥
waits_open w p e = subst IsWaiting e p

module _ (d : Device) where
  -- an event leaves an item that cannot step, but for a release of its group
  same_step : (s : State) (k i : ℕ) → Enabled d s (Step k) → (CanStep (wants d s i) → ⊥) → wants d (after d s (Step k)) i ≡ wants d s i
  same_step s k i en not = wants_kept d s (Step k) i (ne_eqb i k (λ e. not (subst (λ x. CanStep (wants d s x)) (sym e) en.1)))

  same_release : (s : State) (g i : ℕ) → (group_of d.launch i ≡ g → ⊥) → wants d (after d s (Release g)) i ≡ wants d s i
  same_release s g i not = wants_kept d s (Release g) i (ne_eqb (group_of d.launch i) g not)

  pub meets : (s : State) (es : List Event) → IsRun d s es → AllEnded d (run d s es) → MeetTogether d s
  meets s [] r over = record {
    together = λ i j il jl e w v. absurd (waits_open (wants d s i) w (over i il));
    none_ended = λ i j il jl e w v. waits_open (wants d s i) w (over i il);
  }
  meets s (Step k ∷ es) r over =
      let m = meets (after d s (Step k)) es r.1 over in
      record {
        together = λ i j il jl e w v.
            let a = same_step s k i r.0 (waits_still (wants d s i) w) in
            let b = same_step s k j r.0 (waits_still (wants d s j) v) in
            subst (λ x. StandTogether x (wants d s j)) a (subst (λ y. StandTogether (wants d (after d s (Step k)) i) y) b (m.together i j il jl e (subst IsWaiting (sym a) w) (subst IsWaiting (sym b) v)));
        none_ended = λ i j il jl e w v.
            let a = same_step s k i r.0 (waits_still (wants d s i) w) in
            let b = same_step s k j r.0 (λ c. subst CanStep v c) in
            m.none_ended i j il jl e (subst IsWaiting (sym a) w) (b ∙ v);
      }
  meets s (Release g ∷ es) r over =
      let m = meets (after d s (Release g)) es r.1 over in
      record {
        together = λ i j il jl e w v.
            ⊎_elim
            (λ q. stand_both (wants d s (first_item d.launch g)) (wants d s i) (wants d s j) (r.0.1 i q) (r.0.1 j (sym e ∙ q)))
            (λ n.
            let a = same_release s g i n in
            let b = same_release s g j (λ q. n (e ∙ q)) in
            subst (λ x. StandTogether x (wants d s j)) a (subst (λ y. StandTogether (wants d (after d s (Release g)) i) y) b (m.together i j il jl e (subst IsWaiting (sym a) w) (subst IsWaiting (sym b) v))))
            (cases_eq (group_of d.launch i) g);
        none_ended = λ i j il jl e w v.
            ⊎_elim
            (λ q. stand_ended (wants d s (first_item d.launch g)) (subst (λ x. StandTogether (wants d s (first_item d.launch g)) x) v (r.0.1 j (sym e ∙ q))))
            (λ n.
            let a = same_release s g i n in
            let b = same_release s g j (λ q. n (e ∙ q)) in
            m.none_ended i j il jl e (subst IsWaiting (sym a) w) (b ∙ v))
            (cases_eq (group_of d.launch i) g);
      }

  -- so do they in every run, where one run tells of every run
  pub every_run_meets : (s : State) (es : List Event) → EveryRun d s es → (fs : List Event) → IsRun d s fs → MeetTogether d (run d s fs)
  every_run_meets s es every fs r =
      let a = every.goes_on fs r in
      meets (run d s fs) a.0 (is_run-back d s fs a.0 a.1) (subst (AllEnded d) (sym (sym (run-append d s fs a.0) ∙ a.2)) every.ended)
