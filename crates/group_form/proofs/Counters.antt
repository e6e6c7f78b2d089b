-- Local arrays are numbered in the order in which phases fill them.
use Rattle.std.proofs.Common.{◌≡◌, ℕ, zero, suc, ◌+◌, ◌<◌, ◌≤◌, List, [], ◌∷◌, ◌++◌, length, Bool, true, false, refl, sym, ap, ◌∙◌, subst, arith}
use Rattle.std.proofs.lemmas.Bool.{lt-ltb, le-ltb}
use Rattle.lift_tree.specs.declared.term.Level.TheVariants.{Items}
use Rattle.lift_tree.specs.declared.term.Dimension.TheVariants.{X}
use Rattle.lift_ir.specs.Types.{Ty, PairOf, ArrayOf, width}
use Rattle.lift_ir.specs.Layouts.{operand_position, result_position}
use Rattle.lift_ir.specs.Terms.{Over, LocalMemory, Term, Bound, Source, Both, Project, Reshape, LetArray, Map, Copy, HasType}
use Rattle.lift_ir.specs.Scalars.{Scalars}
use Rattle.printed_form.specs.Counts.{local_count}
use Rattle.printed_form.specs.MapForms.{MapForms}
use Rattle.printed_form.specs.Marks.{Marks}
use Rattle.group_form.specs.Forms.{StandsInGroup}
use Rattle.group_form.specs.Uses.{Destination, Locals, Outputs}
use Rattle.group_form.specs.Stages as stages
use Rattle.group_form.specs.Stages.{Stage, Scope, later, stage_at}
use Rattle.group_form.specs.Body.{locals_end, home_in}

-- how many local arrays there are after a phase
abbrev pub next : ℕ → Destination → ℕ
next k (Locals f ty) = f + width ty
next k Outputs = k

abbrev pub FirstIs : ℕ → Destination → Type 0
FirstIs k (Locals f ty) = f ≡ k
FirstIs k Outputs = Unit {0}

-- each phase's local arrays come after those of the phases before, of which there are k at first
abbrev pub Chained : {A : Type 0} → ℕ → List (Stage A) → Type 0
Chained k [] = Unit {0}
Chained k (s ∷ ss) = (s.phase.locals ≡ k) × FirstIs k s.destination × Chained (next k s.destination) ss

abbrev pub chain_end : {A : Type 0} → ℕ → List (Stage A) → ℕ
chain_end k [] = k
chain_end k (s ∷ ss) = chain_end (next k s.destination) ss

next_above : (k : ℕ) (d : Destination) → FirstIs k d → k ≤ next k d
next_above k (Locals f ty) e = omega arith
next_above k Outputs e = omega arith

end_below : (k : ℕ) (d : Destination) → locals_end d ≤ next k d
end_below k (Locals f ty) = omega arith
end_below k Outputs = omega arith

module _ {A : Type 0} where
  chain_append : (k : ℕ) (xs ys : List (Stage A)) → Chained k xs → Chained (chain_end k xs) ys → Chained k (xs ++ ys)
  chain_append k [] ys a b = b
  chain_append k (x ∷ xs) ys a b = (a.0, a.1, chain_append (next k x.destination) xs ys a.2 b)

  chain_end_append : (k : ℕ) (xs ys : List (Stage A)) → chain_end k (xs ++ ys) ≡ chain_end (chain_end k xs) ys
  chain_end_append k [] ys = refl
  chain_end_append k (x ∷ xs) ys = chain_end_append (next k x.destination) xs ys

  lower : (k i : ℕ) (xs : List (Stage A)) → Chained k xs → i < length xs → k ≤ (stage_at xs i).phase.locals
  lower k i [] a lt = absurd (omega arith)
  lower k zero (x ∷ xs) a lt = let e = a.0 in omega arith
  lower k (suc i) (x ∷ xs) a lt = let n = next_above k x.destination a.1 in let r = lower (next k x.destination) i xs a.2 (omega arith) in omega arith

  pub first_is : (k i f : ℕ) (ty : Ty) (xs : List (Stage A)) → Chained k xs → i < length xs → (stage_at xs i).destination ≡ Locals f ty → (stage_at xs i).phase.locals ≡ f
  first_is k i f ty [] a lt e = absurd (omega arith)
  first_is k zero f ty (x ∷ xs) a lt e = a.0 ∙ sym (subst (FirstIs k) e a.1)
  first_is k (suc i) f ty (x ∷ xs) a lt e = first_is (next k x.destination) i f ty xs a.2 (omega arith) e

  pub home_at : (k i f b : ℕ) (ty : Ty) (xs : List (Stage A)) → Chained k xs → i < length xs → (stage_at xs i).destination ≡ Locals f ty → b < width ty → home_in xs (f + b) ≡ i
  home_at k i f b ty [] a lt e bl = absurd (omega arith)
  home_at k zero f b ty (x ∷ xs) a lt e bl =
      let z : locals_end x.destination ≡ f + width ty = ap locals_end e in
      rw (lt-ltb (f + b) (locals_end x.destination) (omega arith)) refl
  home_at k (suc i) f b ty (x ∷ xs) a lt e bl =
      let low = lower (next k x.destination) i xs a.2 (omega arith) in
      let first = first_is (next k x.destination) i f ty xs a.2 (omega arith) e in
      let under = end_below k x.destination in
      rw (le-ltb (f + b) (locals_end x.destination) (omega arith)) (ap suc (home_at (next k x.destination) i f b ty xs a.2 (omega arith) e bl))

  pub in_order : (k h q : ℕ) (xs : List (Stage A)) → Chained k xs → h < q → q < length xs → locals_end (stage_at xs h).destination ≤ (stage_at xs q).phase.locals
  in_order k h q [] a lt ql = absurd (omega arith)
  in_order k h zero (x ∷ xs) a lt ql = absurd (omega arith)
  in_order k zero (suc q) (x ∷ xs) a lt ql = let low = lower (next k x.destination) q xs a.2 (omega arith) in let under = end_below k x.destination in omega arith
  in_order k (suc h) (suc q) (x ∷ xs) a lt ql = in_order (next k x.destination) h q xs a.2 (omega arith) (omega arith)

  join_chains : (k m e : ℕ) (xs ys : List (Stage A)) → Chained k xs → chain_end k xs ≡ m → Chained m ys → chain_end m ys ≡ e → Chained k (xs ++ ys) × (chain_end k (xs ++ ys) ≡ e)
  join_chains k m e xs ys a b c d = (chain_append k xs ys a (subst (λ z. Chained z ys) (sym b) c), chain_end_append k xs ys ∙ ap (λ z. chain_end z ys) b ∙ d)

module _ {A : Type 0} (num : A → ℕ) (forms : MapForms A) (ins : ℕ → Marks) (src : ℕ → Ty) (sources : ℕ → Scalars) where
  abbrev argument_stages : (s : Scope) (t : Term A) (ty : Ty) → HasType num src s.types t ty → List (Stage A)
  argument_stages = stages.argument_stages num forms ins src sources

  abbrev written_stages : (s : Scope) (t : Term A) (ty : Ty) → HasType num src s.types t ty → Destination → (outer path : List ℕ → List ℕ) → Bool → List (Stage A)
  written_stages = stages.written_stages num forms ins src sources

  abbrev bind : Scope → Term A → Ty → Scope
  bind = stages.bind num ins src sources

  mutual
    pub argument_chain : (t : Term A) (s : Scope) (ty : Ty) (h : HasType num src s.types t ty) → StandsInGroup false t → Chained s.locals (argument_stages s t ty h) × (chain_end s.locals (argument_stages s t ty h) ≡ s.locals + local_count t)
    argument_chain (Bound v) s ty h f = (tt, omega arith)
    argument_chain (Source a) s ty h f = (tt, omega arith)
    argument_chain (Both true a b) s ty h f =
        let one = argument_chain a s (ArrayOf h.0 h.1) h.4 f.0 in
        let two = argument_chain b (later s a) (ArrayOf h.0 h.2) h.5 f.1 in
        join_chains s.locals (s.locals + local_count a) (s.locals + (local_count a + local_count b)) (argument_stages s a (ArrayOf h.0 h.1) h.4) (argument_stages (later s a) b (ArrayOf h.0 h.2) h.5) one.0 one.1 two.0 (let e = two.1 in omega arith)
    argument_chain (Project false a) s ty h f = argument_chain a s (PairOf ty h.0) h.1 f
    argument_chain (Project true a) s ty h f = argument_chain a s (PairOf h.0 ty) h.1 f
    argument_chain (Reshape l a) s ty h f = argument_chain a s h.0 h.1 f
    argument_chain (LetArray v b) s ty h f =
        let one = argument_chain v s h.0 h.1 f.0 in
        let two = argument_chain b (bind s v h.0) ty h.2 f.1 in
        join_chains s.locals (s.locals + local_count v) (s.locals + (local_count v + local_count b)) (argument_stages s v h.0 h.1) (argument_stages (bind s v h.0) b ty h.2) one.0 one.1 two.0 (let e = two.1 in omega arith)
    argument_chain (Copy LocalMemory u x) s ty h f = let r = written_chain x s ty h.2 (Locals (s.locals + local_count x) u) (λ p. p) (λ p. p) true f refl in (r.0, let e = r.1 in omega arith)
    argument_chain _ s ty h f = absurd (assumption)

    pub written_chain : (t : Term A) (s : Scope) (ty : Ty) (h : HasType num src s.types t ty) (d : Destination) (outer path : List ℕ → List ℕ) (direct : Bool) → StandsInGroup true t → FirstIs (s.locals + local_count t) d
        → Chained s.locals (written_stages s t ty h d outer path direct) × (chain_end s.locals (written_stages s t ty h d outer path direct) ≡ next (s.locals + local_count t) d)
    written_chain (Reshape y a) s ty h d outer path direct f first = written_chain a s h.0 h.1 d (λ p. outer (result_position num y p)) (λ p. operand_position num y (path p)) false f.1 first
    written_chain (LetArray v b) s ty h d outer path direct f first =
        let sum : s.locals + (local_count v + local_count b) ≡ s.locals + local_count v + local_count b = omega arith in
        let one = argument_chain v s h.0 h.1 f.0 in
        let two = written_chain b (bind s v h.0) ty h.2 d outer path direct f.1 (subst (λ z. FirstIs z d) sum first) in
        join_chains s.locals (s.locals + local_count v) (next (s.locals + (local_count v + local_count b)) d) (argument_stages s v h.0 h.1) (written_stages (bind s v h.0) b ty h.2 d outer path direct) one.0 one.1 two.0 (two.1 ∙ ap (λ z. next z d) (sym sum))
    written_chain (Map (Over Items X) n loads xs b) s ty h d outer path direct f first =
        let one = argument_chain xs s (ArrayOf (num n) h.0) h.4 f.0 in
        join_chains s.locals (s.locals + local_count xs) (next (s.locals + local_count xs) d) (argument_stages s xs (ArrayOf (num n) h.0) h.4) (stages.stage_of num forms ins src sources s n loads xs b h.0 h.1 d outer path direct ∷ []) one.0 one.1 (refl, first, tt) refl
    written_chain _ s ty h d outer path direct f first = absurd (assumption)
