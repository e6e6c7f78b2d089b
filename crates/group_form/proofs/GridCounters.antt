-- Local arrays are numbered in the order in which phases of two dimensions fill them.
use Rattle.std.proofs.Common.{◌≡◌, ℕ, zero, suc, ◌+◌, ◌<◌, ◌≤◌, List, [], ◌∷◌, ◌++◌, length, true, false, refl, sym, ap, ◌∙◌, subst, ⊎_elim, inl, inr, arith}
use Rattle.std.proofs.lemmas.Bool.{lt-ltb, le-ltb}
use Rattle.lift_tree.specs.declared.term.Level.TheVariants.{Items}
use Rattle.lift_tree.specs.declared.term.Dimension.TheVariants.{X, Y}
use Rattle.kernel_tree.specs.Faults.{Among}
use Rattle.lift_ir.specs.Types.{Ty, PairOf, ArrayOf, width}
use Rattle.lift_ir.specs.Layouts.{operand_position, result_position}
use Rattle.lift_ir.specs.Terms.{LoadSet, Over, LocalMemory, Term, Bound, Source, Both, Project, Reshape, LetArray, Map, Copy, push, HasType}
use Rattle.lift_ir.specs.Scalars.{Scalars, at_index, scalars_of}
use Rattle.printed_form.specs.Counts.{Count, more, variable_count, private_count, local_count}
use Rattle.printed_form.specs.Marks.{Marks, loaded_marks}
use Rattle.group_form.specs.GridTerms.{GridForms, StandsAlongRow, StandsInGrid, argument_uses, written_uses}
use Rattle.group_form.specs.Uses.{Use, Destination, Locals, Outputs, loop_uses, touch_of, touches_in, numbered}
use Rattle.group_form.specs.Body.{locals_end}
use Rattle.group_form.specs.Named.{cut, ways, element_ways, named_outside}
use Rattle.group_form.specs.Origins.{bent, origin_of}
use Rattle.group_form.specs.Stages.{Scope, later, bind, marks_of}
use Rattle.group_form.proofs.GridStages as stages
use Rattle.group_form.proofs.GridStages.{Stage, stage_at, home_in, under}
use Rattle.group_form.proofs.Named.{body_typed}
use Rattle.group_form.proofs.Lists.{among_left, among_right, map_append}

-- how many local arrays there are after a phase
abbrev pub next : ℕ → Destination → ℕ
next k (Locals f ty) = f + width ty
next k Outputs = k

abbrev pub FirstIs : ℕ → Destination → Type 0
FirstIs k (Locals f ty) = f ≡ k
FirstIs k Outputs = Unit {0}

-- each phase's local arrays come after those of the phases before, of which there are k at first
abbrev pub Chained : {A : Type 0} → ℕ → List (Stage A) → Type 0
Chained k [] = Unit {0}
Chained k (s ∷ ss) = (s.locals ≡ k) × FirstIs k s.destination × Chained (next k s.destination) ss

abbrev pub chain_end : {A : Type 0} → ℕ → List (Stage A) → ℕ
chain_end k [] = k
chain_end k (s ∷ ss) = chain_end (next k s.destination) ss

next_above : (k : ℕ) (d : Destination) → FirstIs k d → k ≤ next k d
next_above k (Locals f ty) e = omega arith
next_above k Outputs e = omega arith

end_below : (k : ℕ) (d : Destination) → locals_end d ≤ next k d
end_below k (Locals f ty) = omega arith
end_below k Outputs = omega arith

module _ {A : Type 0} where
  chain_append : (k : ℕ) (xs ys : List (Stage A)) → Chained k xs → Chained (chain_end k xs) ys → Chained k (xs ++ ys)
  chain_append k [] ys a b = b
  chain_append k (x ∷ xs) ys a b = (a.0, a.1, chain_append (next k x.destination) xs ys a.2 b)

  chain_end_append : (k : ℕ) (xs ys : List (Stage A)) → chain_end k (xs ++ ys) ≡ chain_end (chain_end k xs) ys
  chain_end_append k [] ys = refl
  chain_end_append k (x ∷ xs) ys = chain_end_append (next k x.destination) xs ys

  lower : (k i : ℕ) (xs : List (Stage A)) → Chained k xs → i < length xs → k ≤ (stage_at xs i).locals
  lower k i [] a lt = absurd (omega arith)
  lower k zero (x ∷ xs) a lt = let e = a.0 in omega arith
  lower k (suc i) (x ∷ xs) a lt = let n = next_above k x.destination a.1 in let r = lower (next k x.destination) i xs a.2 (omega arith) in omega arith

  pub first_is : (k i f : ℕ) (ty : Ty) (xs : List (Stage A)) → Chained k xs → i < length xs → (stage_at xs i).destination ≡ Locals f ty → (stage_at xs i).locals ≡ f
  first_is k i f ty [] a lt e = absurd (omega arith)
  first_is k zero f ty (x ∷ xs) a lt e = a.0 ∙ sym (subst (FirstIs k) e a.1)
  first_is k (suc i) f ty (x ∷ xs) a lt e = first_is (next k x.destination) i f ty xs a.2 (omega arith) e

  pub home_at : (k i f b : ℕ) (ty : Ty) (xs : List (Stage A)) → Chained k xs → i < length xs → (stage_at xs i).destination ≡ Locals f ty → b < width ty → home_in xs (f + b) ≡ i
  home_at k i f b ty [] a lt e bl = absurd (omega arith)
  home_at k zero f b ty (x ∷ xs) a lt e bl =
      let z : locals_end x.destination ≡ f + width ty = ap locals_end e in
      rw (lt-ltb (f + b) (locals_end x.destination) (omega arith)) refl
  home_at k (suc i) f b ty (x ∷ xs) a lt e bl =
      let low = lower (next k x.destination) i xs a.2 (omega arith) in
      let first = first_is (next k x.destination) i f ty xs a.2 (omega arith) e in
      let under = end_below k x.destination in
      rw (le-ltb (f + b) (locals_end x.destination) (omega arith)) (ap suc (home_at (next k x.destination) i f b ty xs a.2 (omega arith) e bl))

  pub in_order : (k h q : ℕ) (xs : List (Stage A)) → Chained k xs → h < q → q < length xs → locals_end (stage_at xs h).destination ≤ (stage_at xs q).locals
  in_order k h q [] a lt ql = absurd (omega arith)
  in_order k h zero (x ∷ xs) a lt ql = absurd (omega arith)
  in_order k zero (suc q) (x ∷ xs) a lt ql = let low = lower (next k x.destination) q xs a.2 (omega arith) in let under = end_below k x.destination in omega arith
  in_order k (suc h) (suc q) (x ∷ xs) a lt ql = in_order (next k x.destination) h q xs a.2 (omega arith) (omega arith)

  join_chains : (k m e : ℕ) (xs ys : List (Stage A)) → Chained k xs → chain_end k xs ≡ m → Chained m ys → chain_end m ys ≡ e → Chained k (xs ++ ys) × (chain_end k (xs ++ ys) ≡ e)
  join_chains k m e xs ys a b c d = (chain_append k xs ys a (subst (λ z. Chained z ys) (sym b) c), chain_end_append k xs ys ∙ ap (λ z. chain_end z ys) b ∙ d)

module _ {A : Type 0} (num : A → ℕ) (forms : GridForms A) (ins : ℕ → Marks) (src : ℕ → Ty) (sources : ℕ → Scalars) where
  abbrev argument_stages : (s : Scope) (t : Term A) (ty : Ty) → HasType num src s.types t ty → List (Stage A)
  argument_stages = stages.argument_stages num forms ins src sources

  abbrev written_stages : (s : Scope) (t : Term A) (ty : Ty) → HasType num src s.types t ty → Destination → (outer path : List ℕ → List ℕ) → List (Stage A)
  written_stages = stages.written_stages num forms ins src sources

  abbrev bound_to : Scope → Term A → Ty → Scope
  bound_to = bind num ins src sources

  abbrev pub last_stage : (n : A) (s : Scope) (loads : LoadSet) (xs body : Term A) (x y : Ty) (d : Destination) (outer path : List ℕ → List ℕ) → HasType num src (push x s.types) body y → Stage A
  last_stage n s loads xs body x y d outer path typed =
      stages.along_stage num forms ins src sources n loads (cut x (element_ways loads body)) (push (cut x (element_ways loads body)) (λ v. cut (s.types v) (ways v (named_outside body)))) (marks_of num ins s.env s.locals xs) (λ i. scalars_of num sources (s.sems i) xs)
      (λ i j. push (loaded_marks loads (at_index j (marks_of num ins s.env s.locals xs i)) (more s.variables (variable_count xs))) (s.env i)) (λ i j. push (at_index j (scalars_of num sources (s.sems i) xs)) (s.sems i)) (s.locals + local_count xs) (s.privates + private_count xs) (more s.variables (variable_count xs))
      (loop_uses s.origins (bent (origin_of s.origins s.locals xs)) loads body d false) d body y (body_typed num src s.types loads body x y typed) outer path

  along_is : (n : A) (loads : LoadSet) (x : Ty) (types : ℕ → Ty) (rm : ℕ → Marks) (rs : ℕ → Scalars) (env : (turn row var : ℕ) → Marks) (sems : (turn row var : ℕ) → Scalars) (k a : ℕ) (m : Count) (us : List Use) (d : Destination) (t : Term A) (ty : Ty) (h : HasType num src types t ty) (outer path : List ℕ → List ℕ) → StandsAlongRow t
      → let s = stages.along_stage num forms ins src sources n loads x types rm rs env sems k a m us d t ty h outer path in (s.locals ≡ k) × (s.destination ≡ d) × (s.uses ≡ us)
  along_is n loads x types rm rs env sems k a m us d (Reshape y t) ty h outer path f = along_is n loads x types rm rs env sems k a m us d t h.0 h.1 (λ p. outer (under (result_position num y) p)) (λ p. under (operand_position num y) (path p)) f.1
  along_is n loads x types rm rs env sems k a m us d (Map (Over Items X) n2 loads2 ys body) ty h outer path f = (refl, refl, refl)
  along_is n loads x types rm rs env sems k a m us d _ ty h outer path f = absurd (assumption)

  pub last_is : (n : A) (s : Scope) (loads : LoadSet) (xs body : Term A) (x y : Ty) (d : Destination) (outer path : List ℕ → List ℕ) (typed : HasType num src (push x s.types) body y) → StandsAlongRow body
      → let t = last_stage n s loads xs body x y d outer path typed in (t.locals ≡ s.locals + local_count xs) × (t.destination ≡ d) × (t.uses ≡ loop_uses s.origins (bent (origin_of s.origins s.locals xs)) loads body d false)
  last_is n s loads xs body x y d outer path typed f =
      along_is n loads (cut x (element_ways loads body)) (push (cut x (element_ways loads body)) (λ v. cut (s.types v) (ways v (named_outside body)))) (marks_of num ins s.env s.locals xs) (λ i. scalars_of num sources (s.sems i) xs)
      (λ i j. push (loaded_marks loads (at_index j (marks_of num ins s.env s.locals xs i)) (more s.variables (variable_count xs))) (s.env i)) (λ i j. push (at_index j (scalars_of num sources (s.sems i) xs)) (s.sems i)) (s.locals + local_count xs) (s.privates + private_count xs) (more s.variables (variable_count xs))
      (loop_uses s.origins (bent (origin_of s.origins s.locals xs)) loads body d false) d body y (body_typed num src s.types loads body x y typed) outer path f

  mutual
    pub argument_chain : (t : Term A) (s : Scope) (ty : Ty) (h : HasType num src s.types t ty) → StandsInGrid false t → Chained s.locals (argument_stages s t ty h) × (chain_end s.locals (argument_stages s t ty h) ≡ s.locals + local_count t)
    argument_chain (Bound v) s ty h f = (tt, omega arith)
    argument_chain (Source a) s ty h f = (tt, omega arith)
    argument_chain (Both true a b) s ty h f =
        let one = argument_chain a s (ArrayOf h.0 h.1) h.4 f.0 in
        let two = argument_chain b (later s a) (ArrayOf h.0 h.2) h.5 f.1 in
        join_chains s.locals (s.locals + local_count a) (s.locals + (local_count a + local_count b)) (argument_stages s a (ArrayOf h.0 h.1) h.4) (argument_stages (later s a) b (ArrayOf h.0 h.2) h.5) one.0 one.1 two.0 (let e = two.1 in omega arith)
    argument_chain (Project false a) s ty h f = argument_chain a s (PairOf ty h.0) h.1 f
    argument_chain (Project true a) s ty h f = argument_chain a s (PairOf h.0 ty) h.1 f
    argument_chain (Reshape l a) s ty h f = argument_chain a s h.0 h.1 f
    argument_chain (LetArray v b) s ty h f =
        let one = argument_chain v s h.0 h.1 f.0 in
        let two = argument_chain b (bound_to s v h.0) ty h.2 f.1 in
        join_chains s.locals (s.locals + local_count v) (s.locals + (local_count v + local_count b)) (argument_stages s v h.0 h.1) (argument_stages (bound_to s v h.0) b ty h.2) one.0 one.1 two.0 (let e = two.1 in omega arith)
    argument_chain (Copy LocalMemory u x) s ty h f = let r = written_chain x s ty h.2 (Locals (s.locals + local_count x) u) (λ p. p) (λ p. p) f refl in (r.0, let e = r.1 in omega arith)
    argument_chain _ s ty h f = absurd (assumption)

    pub written_chain : (t : Term A) (s : Scope) (ty : Ty) (h : HasType num src s.types t ty) (d : Destination) (outer path : List ℕ → List ℕ) → StandsInGrid true t → FirstIs (s.locals + local_count t) d
        → Chained s.locals (written_stages s t ty h d outer path) × (chain_end s.locals (written_stages s t ty h d outer path) ≡ next (s.locals + local_count t) d)
    written_chain (Reshape y a) s ty h d outer path f first = written_chain a s h.0 h.1 d (λ p. outer (result_position num y p)) (λ p. operand_position num y (path p)) f.1 first
    written_chain (LetArray v b) s ty h d outer path f first =
        let sum : s.locals + (local_count v + local_count b) ≡ s.locals + local_count v + local_count b = omega arith in
        let one = argument_chain v s h.0 h.1 f.0 in
        let two = written_chain b (bound_to s v h.0) ty h.2 d outer path f.1 (subst (λ z. FirstIs z d) sum first) in
        join_chains s.locals (s.locals + local_count v) (next (s.locals + (local_count v + local_count b)) d) (argument_stages s v h.0 h.1) (written_stages (bound_to s v h.0) b ty h.2 d outer path) one.0 one.1 two.0 (two.1 ∙ ap (λ z. next z d) (sym sum))
    written_chain (Map (Over Items Y) n loads xs b) s ty h d outer path f first =
        let one = argument_chain xs s (ArrayOf (num n) h.0) h.4 f.0 in
        let t = last_stage n s loads xs b h.0 h.1 d outer path h.5 in
        let is = last_is n s loads xs b h.0 h.1 d outer path h.5 f.1 in
        join_chains s.locals (s.locals + local_count xs) (next (s.locals + local_count xs) d) (argument_stages s xs (ArrayOf (num n) h.0) h.4) (t ∷ []) one.0 one.1 (is.0, subst (FirstIs (s.locals + local_count xs)) (sym is.1) first, tt) (ap (next (s.locals + local_count xs)) is.1)
    written_chain _ s ty h d outer path f first = absurd (assumption)

  both : (xs ys : List (Stage A)) (us vs : List (List Use)) → stages.uses_of xs ≡ us → stages.uses_of ys ≡ vs → stages.uses_of (xs ++ ys) ≡ us ++ vs
  both xs ys us vs d e = map_append Stage.uses xs ys ∙ ap (λ z. z ++ stages.uses_of ys) d ∙ ap (λ z. us ++ z) e

  mutual
    pub argument_uses_are : (t : Term A) (s : Scope) (ty : Ty) (h : HasType num src s.types t ty) → StandsInGrid false t → stages.uses_of (argument_stages s t ty h) ≡ argument_uses s.origins s.locals t
    argument_uses_are (Bound v) s ty h f = refl
    argument_uses_are (Source a) s ty h f = refl
    argument_uses_are (Both true a b) s ty h f =
        both (argument_stages s a (ArrayOf h.0 h.1) h.4) (argument_stages (later s a) b (ArrayOf h.0 h.2) h.5) (argument_uses s.origins s.locals a) (argument_uses s.origins (s.locals + local_count a) b) (argument_uses_are a s (ArrayOf h.0 h.1) h.4 f.0) (argument_uses_are b (later s a) (ArrayOf h.0 h.2) h.5 f.1)
    argument_uses_are (Project false a) s ty h f = argument_uses_are a s (PairOf ty h.0) h.1 f
    argument_uses_are (Project true a) s ty h f = argument_uses_are a s (PairOf h.0 ty) h.1 f
    argument_uses_are (Reshape l a) s ty h f = argument_uses_are a s h.0 h.1 f
    argument_uses_are (LetArray v b) s ty h f =
        both (argument_stages s v h.0 h.1) (argument_stages (bound_to s v h.0) b ty h.2) (argument_uses s.origins s.locals v) (argument_uses (bound_to s v h.0).origins (s.locals + local_count v) b) (argument_uses_are v s h.0 h.1 f.0) (argument_uses_are b (bound_to s v h.0) ty h.2 f.1)
    argument_uses_are (Copy LocalMemory u x) s ty h f = written_uses_are x s ty h.2 (Locals (s.locals + local_count x) u) (λ p. p) (λ p. p) f
    argument_uses_are _ s ty h f = absurd (assumption)

    pub written_uses_are : (t : Term A) (s : Scope) (ty : Ty) (h : HasType num src s.types t ty) (d : Destination) (outer path : List ℕ → List ℕ) → StandsInGrid true t → stages.uses_of (written_stages s t ty h d outer path) ≡ written_uses s.origins s.locals t d
    written_uses_are (Reshape y a) s ty h d outer path f = written_uses_are a s h.0 h.1 d (λ p. outer (result_position num y p)) (λ p. operand_position num y (path p)) f.1
    written_uses_are (LetArray v b) s ty h d outer path f =
        both (argument_stages s v h.0 h.1) (written_stages (bound_to s v h.0) b ty h.2 d outer path) (argument_uses s.origins s.locals v) (written_uses (bound_to s v h.0).origins (s.locals + local_count v) b d) (argument_uses_are v s h.0 h.1 f.0) (written_uses_are b (bound_to s v h.0) ty h.2 d outer path f.1)
    written_uses_are (Map (Over Items Y) n loads xs b) s ty h d outer path f =
        let t = last_stage n s loads xs b h.0 h.1 d outer path h.5 in
        let us = loop_uses s.origins (bent (origin_of s.origins s.locals xs)) loads b d false in
        both (argument_stages s xs (ArrayOf (num n) h.0) h.4) (t ∷ []) (argument_uses s.origins s.locals xs) (us ∷ []) (argument_uses_are xs s (ArrayOf (num n) h.0) h.4 f.0) (ap (λ z. z ∷ []) (last_is n s loads xs b h.0 h.1 d outer path h.5 f.1).2)
    written_uses_are _ s ty h d outer path f = absurd (assumption)

-- numbered

among_touches : (q : ℕ) (u : Use) (us : List Use) → Among u us → Among (touch_of q u) (touches_in q us)
among_touches q u [] h = absurd h
among_touches q u (x ∷ us) h = ⊎_elim (λ e. inl (ap (touch_of q) e)) (λ r. inr (among_touches q u us r)) h

pub among_numbered : {A : Type 0} (q i : ℕ) (ss : List (Stage A)) (u : Use) → i < length ss → Among u (stage_at ss i).uses → Among (touch_of (q + i) u) (numbered q (stages.uses_of ss))
among_numbered q i [] u lt h = absurd (omega arith)
among_numbered q zero (s ∷ ss) u lt h =
    let e : q ≡ q + 0 = omega arith in
    subst (λ z. Among (touch_of z u) (touches_in q s.uses ++ numbered (suc q) (stages.uses_of ss))) e (among_left (touch_of q u) (touches_in q s.uses) (numbered (suc q) (stages.uses_of ss)) (among_touches q u s.uses h))
among_numbered q (suc i) (s ∷ ss) u lt h =
    let e : suc q + i ≡ q + suc i = omega arith in
    among_right (touch_of (q + suc i) u) (touches_in q s.uses) (numbered (suc q) (stages.uses_of ss)) (subst (λ z. Among (touch_of z u) (numbered (suc q) (stages.uses_of ss))) e (among_numbered (suc q) i ss u (omega arith) h))
