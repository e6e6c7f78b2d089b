-- Forms of turns around a body of phases.
use Rattle.std.proofs.Common.{◌≡◌, ℕ, suc, ◌<◌, ◌≤◌, [], refl, sym, ap, ◌∙◌, subst}
use Rattle.kernel_tree.specs.Formula.{Vars}
use Rattle.kernel_tree.specs.Code.{End, Kernel}
use Rattle.kernel_tree.specs.Launch.{Launch, Cells, ids_of}
use Rattle.kernel_tree.specs.Item.{Item, item, next}
use Rattle.kernel_tree.specs.Device.{Device, device_of}
use Rattle.group_phases.specs.Bodies.{CanHop}
use Rattle.group_phases.specs.Groups.{Body, IsBefore, GroupTurns, GroupForm}
use Rattle.group_phases.specs.TurnForms.{Leads, Form, place, moves}
use Rattle.group_phases.specs.Work.{Work}
use Rattle.group_phases.proofs.TurnForms.{place_in, place_past}
use Rattle.group_phases.proofs.TurnRuns.{moves_allowed, moves_quiet}

-- moves are a hop
pub hop_of : (d : Device) (k : ℕ) (c : Cells) (x y : Item) (Then : Item → Type 0) → Leads d k x y → Then y → CanHop d k c x Then
hop_of d k c x y Then a so o m ready = record {
  after = y;
  deeds = moves a.0;
  goes = a.1 m;
  so = so;
  allowed = moves_allowed o k a.0;
  quiet = λ b s. moves_quiet b a.0;
}

module _ (kernel : Kernel) (l : Launch) (c : Cells) (body : Body) (work : Work) where
  abbrev d : Device
  d = device_of kernel l c

  module _ (form : ℕ → Form) (h : GroupForm kernel l c form body work) where
    stands : (t k : ℕ) (vars : Vars) → work.knows t 0 k vars → IsBefore l body work t k (place (form k) [] End t vars)
    unfolding next
    stands t k vars knows = record {
      begun = λ lt.
          let e = place_in d k [] End (form k) t vars (subst (λ z. t < z) (sym (h.count k)) lt) ∙ ap (λ z. item z ((form k).frames t) vars) (h.first k) ∙ ap (λ z. item (body.before 0) z vars) (h.frames t k) in
          subst (λ y. (y ≡ item (body.before 0) (body.frames t k) y.vars) × work.knows t 0 k y.vars) (sym e) (refl, knows);
      over = λ le. ap (next (ids_of l k)) (place_past d k [] End (form k) t vars (subst (λ z. z ≤ t) (sym (h.count k)) le));
    }

    pub form_turns : GroupTurns kernel l c body work
    form_turns = record {
      begins = λ k vars lt long. hop_of d k c _ _ (IsBefore l body work 0 k) ((h.takes k lt).enters vars) (stands 0 k vars (h.begins k vars lt long));
      again = λ t k vars tl lt knows.
          subst (λ z. CanHop d k c z (IsBefore l body work (suc t) k)) (ap (λ z. item z ((form k).frames t) vars) (h.last k) ∙ ap (λ z. item (body.code body.count) z vars) (h.frames t k))
          (hop_of d k c _ _ (IsBefore l body work (suc t) k) ((h.takes k lt).again t vars (subst (λ z. t < z) (sym (h.count k)) tl)) (stands (suc t) k vars (h.again t k vars lt knows)));
    }
