-- The uses in rows of groups are those of the same term otherwise, of which none is aligned.
use Rattle.std.proofs.Common.{◌≡◌, ℕ, zero, suc, ◌+◌, Bool, true, false, List, [], ◌∷◌, ◌++◌, refl, ap, sym, ◌∙◌}
use Rattle.std.specs.Prelude.{map}
use Rattle.barrier_placement.specs.declared.touches.Touch.{Touch}
use Rattle.lift_ir.specs.Terms.{LoadSet, Term, Literal, Bound, Source, Apply, ApplyNumber, ApplyLanes, DivideLanes, Select, Both, Project, Reshape, LetArray, LetElement, Map, Fold, Store, Copy, push}
use Rattle.lift_ir.specs.Types.{width}
use Rattle.printed_form.specs.Counts.{local_count}
use Rattle.group_form.specs.Named.{Component, element_ways, named_outside}
use Rattle.group_form.specs.Origins.{Origin, Elsewhere, Within, BySide, at_way, bent, origin_of}
use Rattle.group_form.specs.Uses as flat
use Rattle.group_form.specs.Uses.{Use, Destination, Locals, Outputs, reads_of, element_reads, variable_reads, writes_from, writes_to, loop_uses, touch_of, touches_in, numbered, body_uses}
use Rattle.group_form.specs.GridTerms as grid
use Rattle.phase_plan.specs.Bodies.{unaligned}

abbrev anywhere : Use → Use
anywhere u = record { array = u.array; writes = u.writes; aligned = false }

map_append : {A B : Type 0} (f : A → B) (xs ys : List A) → map f (xs ++ ys) ≡ map f xs ++ map f ys
map_append f [] ys = refl
map_append f (x ∷ xs) ys = ap (λ zs. f x ∷ zs) (map_append f xs ys)

reads_bent : (o : Origin) → reads_of (bent o) ≡ map anywhere (reads_of o)
reads_bent Elsewhere = refl
reads_bent (Within a plainly) = refl
reads_bent (BySide a b) = ap (λ us. us ++ reads_of (bent b)) (reads_bent a) ∙ ap (λ us. map anywhere (reads_of a) ++ us) (reads_bent b) ∙ sym (map_append anywhere (reads_of a) (reads_of b))

bent_at : (o : Origin) (w : List Bool) → at_way (bent o) w ≡ bent (at_way o w)
bent_at o [] = refl
bent_at Elsewhere (false ∷ w) = bent_at Elsewhere w
bent_at Elsewhere (true ∷ w) = bent_at Elsewhere w
bent_at (Within a plainly) (false ∷ w) = bent_at Elsewhere w
bent_at (Within a plainly) (true ∷ w) = bent_at Elsewhere w
bent_at (BySide a b) (false ∷ w) = bent_at a w
bent_at (BySide a b) (true ∷ w) = bent_at b w

bent_twice : (o : Origin) → bent (bent o) ≡ bent o
bent_twice Elsewhere = refl
bent_twice (Within a plainly) = refl
bent_twice (BySide a b) = ap (λ o. BySide o (bent (bent b))) (bent_twice a) ∙ ap (λ o. BySide (bent a) o) (bent_twice b)

element_bent : (o : Origin) (ws : List (List Bool)) → element_reads (bent o) ws ≡ map anywhere (element_reads o ws)
element_bent o [] = refl
element_bent o (w ∷ ws) =
    ap (λ p. reads_of p ++ element_reads (bent o) ws) (bent_at o w) ∙ ap (λ us. us ++ element_reads (bent o) ws) (reads_bent (at_way o w))
    ∙ ap (λ us. map anywhere (reads_of (at_way o w)) ++ us) (element_bent o ws) ∙ sym (map_append anywhere (reads_of (at_way o w)) (element_reads o ws))

-- a bent origin's reads
reads_anywhere : (o : Origin) (w : List Bool) → reads_of (at_way (bent o) w) ≡ map anywhere (reads_of (at_way (bent o) w))
reads_anywhere o w = ap (λ p. reads_of (at_way p w)) (sym (bent_twice o)) ∙ ap reads_of (bent_at (bent o) w) ∙ reads_bent (at_way (bent o) w)

variables_anywhere : (env : ℕ → Origin) (cs : List Component) → variable_reads env cs ≡ map anywhere (variable_reads env cs)
variables_anywhere env [] = refl
variables_anywhere env (c ∷ cs) =
    let here = reads_of (at_way (bent (env c.var)) c.way) in
    ap (λ us. us ++ variable_reads env cs) (reads_anywhere (env c.var) c.way) ∙ ap (λ us. map anywhere here ++ us) (variables_anywhere env cs) ∙ sym (map_append anywhere here (variable_reads env cs))

writes_anywhere : (f : ℕ) (direct : Bool) (n : ℕ) → writes_from f false n ≡ map anywhere (writes_from f direct n)
writes_anywhere f direct zero = refl
writes_anywhere f direct (suc n) = ap (λ us. record { array = f + n; writes = true; aligned = false } ∷ us) (writes_anywhere f direct n)

written_anywhere : (d : Destination) (direct : Bool) → writes_to d false ≡ map anywhere (writes_to d direct)
written_anywhere (Locals f ty) direct = writes_anywhere f direct (width ty)
written_anywhere Outputs direct = refl

loop_anywhere : {A : Type 0} (env : ℕ → Origin) (o : Origin) (loads : LoadSet) (b : Term A) (d : Destination) (direct : Bool)
    → loop_uses env (bent o) loads b d false ≡ map anywhere (loop_uses env o loads b d direct)
loop_anywhere env o loads b d direct =
    let ws = writes_to d direct in
    let es = element_reads o (element_ways loads b) in
    let vs = variable_reads env (named_outside b) in
    let es' = element_reads (bent o) (element_ways loads b) in
    ap (λ us. us ++ (es' ++ vs)) (written_anywhere d direct) ∙ ap (λ us. map anywhere ws ++ (us ++ vs)) (element_bent o (element_ways loads b))
    ∙ ap (λ us. map anywhere ws ++ (map anywhere es ++ us)) (variables_anywhere env (named_outside b))
    ∙ ap (λ us. map anywhere ws ++ us) (sym (map_append anywhere es vs)) ∙ sym (map_append anywhere ws (es ++ vs))

abbrev all_anywhere : List (List Use) → List (List Use)
all_anywhere = map (map anywhere)

joined : (us vs ps qs : List (List Use)) → us ≡ all_anywhere ps → vs ≡ all_anywhere qs → us ++ vs ≡ all_anywhere (ps ++ qs)
joined us vs ps qs e f = ap (λ xs. xs ++ vs) e ∙ ap (λ xs. all_anywhere ps ++ xs) f ∙ sym (map_append (map anywhere) ps qs)

mutual
  of_argument : {A : Type 0} (env : ℕ → Origin) (k : ℕ) (t : Term A) → grid.argument_uses env k t ≡ all_anywhere (flat.argument_uses env k t)
  of_argument env k (Both zips a b) = joined _ _ _ _ (of_argument env k a) (of_argument env (k + local_count a) b)
  of_argument env k (Project s a) = of_argument env k a
  of_argument env k (Reshape l a) = of_argument env k a
  of_argument env k (LetArray v b) = joined _ _ _ _ (of_argument env k v) (of_argument (push (origin_of env k v) env) (k + local_count v) b)
  of_argument env k (Copy space ty a) = of_written env k a (Locals (k + local_count a) ty) true
  of_argument env k (Literal c) = refl
  of_argument env k (Bound v) = refl
  of_argument env k (Source v) = refl
  of_argument env k (Apply o a b) = refl
  of_argument env k (ApplyNumber o n a) = refl
  of_argument env k (ApplyLanes o l r a b) = refl
  of_argument env k (DivideLanes o n a) = refl
  of_argument env k (Select c a b) = refl
  of_argument env k (LetElement ty v b) = refl
  of_argument env k (Map kind n loads xs b) = refl
  of_argument env k (Fold n loads ty xs s b) = refl
  of_argument env k (Store ty a) = refl

  of_written : {A : Type 0} (env : ℕ → Origin) (k : ℕ) (t : Term A) (d : Destination) (direct : Bool) → grid.written_uses env k t d ≡ all_anywhere (flat.written_uses env k t d direct)
  of_written env k (Reshape l a) d direct = of_written env k a d false
  of_written env k (LetArray v b) d direct = joined _ _ _ _ (of_argument env k v) (of_written (push (origin_of env k v) env) (k + local_count v) b d direct)
  of_written env k (Map kind n loads xs b) d direct = joined _ _ _ _ (of_argument env k xs) (ap (λ us. us ∷ []) (loop_anywhere env (origin_of env k xs) loads b d direct))
  of_written env k (Both zips a b) d direct = refl
  of_written env k (Project s a) d direct = refl
  of_written env k (Copy space ty a) d direct = refl
  of_written env k (Literal c) d direct = refl
  of_written env k (Bound v) d direct = refl
  of_written env k (Source v) d direct = refl
  of_written env k (Apply o a b) d direct = refl
  of_written env k (ApplyNumber o n a) d direct = refl
  of_written env k (ApplyLanes o l r a b) d direct = refl
  of_written env k (DivideLanes o n a) d direct = refl
  of_written env k (Select c a b) d direct = refl
  of_written env k (LetElement ty v b) d direct = refl
  of_written env k (Fold n loads ty xs s b) d direct = refl
  of_written env k (Store ty a) d direct = refl

touched_anywhere : (q : ℕ) (us : List Use) → touches_in q (map anywhere us) ≡ map unaligned (touches_in q us)
touched_anywhere q [] = refl
touched_anywhere q (u ∷ us) = ap (λ xs. touch_of q (anywhere u) ∷ xs) (touched_anywhere q us)

numbered_anywhere : (q : ℕ) (uss : List (List Use)) → numbered q (all_anywhere uss) ≡ map unaligned (numbered q uss)
numbered_anywhere q [] = refl
numbered_anywhere q (us ∷ uss) = ap (λ xs. xs ++ numbered (suc q) (all_anywhere uss)) (touched_anywhere q us) ∙ ap (λ xs. map unaligned (touches_in q us) ++ xs) (numbered_anywhere (suc q) uss) ∙ sym (map_append unaligned (touches_in q us) (numbered (suc q) uss))

-- those of a body
pub body_unaligned : {A : Type 0} (b : Term A) → map unaligned (numbered 0 (body_uses b)) ≡ numbered 0 (grid.written_uses (λ v. Elsewhere) 0 b Outputs)
body_unaligned b = sym (ap (numbered 0) (of_written (λ v. Elsewhere) 0 b Outputs false) ∙ numbered_anywhere 0 (body_uses b))
