-- The uses of a term's phases are those that its phases have, and all reads and writes are among
-- them.
use Rattle.std.proofs.Common.{◌≡◌, ℕ, zero, suc, ◌+◌, ◌<◌, ◌⊎◌, ⊎_elim, inl, inr, List, [], ◌∷◌, ◌++◌, length, Bool, true, false, refl, sym, ap, ◌∙◌, subst, arith}
use Rattle.std.specs.Prelude.{All}
use Rattle.lift_tree.specs.declared.term.Level.TheVariants.{Items}
use Rattle.lift_tree.specs.declared.term.Dimension.TheVariants.{X}
use Rattle.kernel_tree.specs.Faults.{Among}
use Rattle.barrier_placement.specs.declared.touches.Touch.{Touch}
use Rattle.barrier_placement.specs.Conflicts as placed
use Rattle.barrier_placement.specs.Conflicts.{space_of}
use Rattle.lift_ir.specs.Types.{Ty, PairOf, ArrayOf, width}
use Rattle.lift_ir.specs.Layouts.{operand_position, result_position}
use Rattle.lift_ir.specs.Terms.{Over, LocalMemory, Term, Bound, Source, Both, Project, Reshape, LetArray, Map, Copy, HasType}
use Rattle.lift_ir.specs.Scalars.{Scalars}
use Rattle.printed_form.specs.Counts.{local_count}
use Rattle.printed_form.specs.MapForms.{MapForms}
use Rattle.printed_form.specs.Marks.{Marks}
use Rattle.group_form.specs.Named.{Component, ways}
use Rattle.group_form.specs.Origins.{Origin, Elsewhere, Within, BySide, at_way, bent}
use Rattle.group_form.specs.Forms.{StandsInGroup}
use Rattle.group_form.specs.Uses.{Use, Destination, Locals, reads_of, element_reads, variable_reads, writes_from, writes_to, argument_uses, written_uses, touch_of, touches_in, numbered}
use Rattle.group_form.specs.Stages as stages
use Rattle.group_form.specs.Stages.{Stage, Scope, later, stage_at, uses_in, uses_of}
use Rattle.group_form.proofs.Lists.{among_left, among_right, map_append}
use Rattle.group_form.proofs.Named.{IsUnder, ways_from}
use Rattle.group_form.proofs.Seen.{way_bent, way_on}

abbrev pub reading : (array : ℕ) → (aligned : Bool) → Use
reading a aligned = record { array = a; writes = false; aligned = aligned }

abbrev pub writing : (array : ℕ) → (aligned : Bool) → Use
writing a aligned = record { array = a; writes = true; aligned = aligned }

-- reads

elsewhere_at : (w : List Bool) → at_way Elsewhere w ≡ Elsewhere
elsewhere_at [] = refl
elsewhere_at (false ∷ w) = elsewhere_at w
elsewhere_at (true ∷ w) = elsewhere_at w

within_at : (a : ℕ) (p s : Bool) (w : List Bool) → at_way (Within a p) (s ∷ w) ≡ Elsewhere
within_at a p false w = elsewhere_at w
within_at a p true w = elsewhere_at w

elsewhere_within : {P : Type 0} → (a : ℕ) (p : Bool) → Elsewhere ≡ Within a p → P
elsewhere_within a p e = absurd (cc)

reads_under : (o : Origin) (w : List Bool) (a : ℕ) (p : Bool) → at_way o w ≡ Within a p → Among (reading a p) (reads_of o)
reads_under Elsewhere w a p e = elsewhere_within a p (sym (elsewhere_at w) ∙ e)
reads_under (Within b q) [] a p e = inl (sym (ap (λ z. same z) e))
  where
    same : Origin → Use
    same (Within c r) = reading c r
    same _ = reading 0 false
reads_under (Within b q) (s ∷ w) a p e = elsewhere_within a p (sym (within_at b q s w) ∙ e)
reads_under (BySide x y) [] a p e = absurd (cc)
reads_under (BySide x y) (false ∷ w) a p e = among_left (reading a p) (reads_of x) (reads_of y) (reads_under x w a p e)
reads_under (BySide x y) (true ∷ w) a p e = among_right (reading a p) (reads_of x) (reads_of y) (reads_under y w a p e)

reads_from : (o : Origin) (cs w ds : List Bool) (a : ℕ) (p : Bool) → cs ≡ w ++ ds → at_way o cs ≡ Within a p → Among (reading a p) (reads_of (at_way o w))
reads_from o cs w ds a p is e = reads_under (at_way o w) ds a p (sym (way_on o w ds) ∙ ap (at_way o) (sym is) ∙ e)

-- a read of the element is told
pub element_told : (o : Origin) (ws : List (List Bool)) (cs : List Bool) (a : ℕ) (p : Bool) → IsUnder cs ws → at_way o cs ≡ Within a p → Among (reading a p) (element_reads o ws)
element_told o ws cs a p u e = go ws u.2
  where
    go : (vs : List (List Bool)) → Among u.0 vs → Among (reading a p) (element_reads o vs)
    go [] x = absurd x
    go (v ∷ vs) x =
        ⊎_elim
        (λ q. among_left (reading a p) (reads_of (at_way o v)) (element_reads o vs) (subst (λ z. Among (reading a p) (reads_of (at_way o z))) q (reads_from o cs u.0 u.1 a p u.3 e)))
        (λ r. among_right (reading a p) (reads_of (at_way o v)) (element_reads o vs) (go vs r))
        x

-- and so is one of a variable
pub variable_told : (env : ℕ → Origin) (cs : List Component) (v : ℕ) (ds : List Bool) (a : ℕ) (p : Bool) → IsUnder ds (ways v cs) → at_way (bent (env v)) ds ≡ Within a p → Among (reading a p) (variable_reads env cs)
variable_told env cs v ds a p u e = go cs (ways_from v u.0 cs u.2)
  where
    go : (ns : List Component) → Among (record { var = v; way = u.0 }) ns → Among (reading a p) (variable_reads env ns)
    go [] x = absurd x
    go (n ∷ ns) x =
        ⊎_elim
        (λ q. among_left (reading a p) (reads_of (at_way (bent (env n.var)) n.way)) (variable_reads env ns) (subst (λ z. Among (reading a p) (reads_of (at_way (bent (env z.var)) z.way))) q (reads_from (bent (env v)) ds u.0 u.1 a p u.3 e)))
        (λ r. among_right (reading a p) (reads_of (at_way (bent (env n.var)) n.way)) (variable_reads env ns) (go ns r))
        x

pub bent_not_plain : {P : Type 0} → (o : Origin) (w : List Bool) (a : ℕ) → at_way (bent o) w ≡ Within a true → P
bent_not_plain o w a e = go (at_way o w) (sym (way_bent o w) ∙ e)
  where
    go : {P : Type 0} → (o : Origin) → bent o ≡ Within a true → P
    go Elsewhere e = absurd (cc)
    go (Within b p) e = absurd (cc)
    go (BySide x y) e = absurd (cc)

-- writes

among_writes : (f : ℕ) (d : Bool) (m b : ℕ) → b < m → Among (writing (f + b) d) (writes_from f d m)
among_writes f d zero b lt = absurd (omega arith)
among_writes f d (suc m) b lt = ⊎_elim (λ e. inl (ap (λ z. writing (f + z) d) e)) (λ l. inr (among_writes f d m b l)) (top m b lt)
  where
    top : (m b : ℕ) → b < suc m → (b ≡ m) ⊎ (b < m)
    top zero zero lt = inl refl
    top zero (suc b) lt = absurd (omega arith)
    top (suc m) zero lt = inr (omega arith)
    top (suc m) (suc b) lt = ⊎_elim (λ e. inl (ap suc e)) (λ l. inr (omega arith)) (top m b (omega arith))

pub write_told : (d : Destination) (direct : Bool) (f : ℕ) (ty : Ty) (b : ℕ) → d ≡ Locals f ty → b < width ty → Among (writing (f + b) direct) (writes_to d direct)
write_told d direct f ty b e lt = subst (λ z. Among (writing (f + b) direct) (writes_to z direct)) (sym e) (among_writes f direct (width ty) b lt)

-- numbered

among_touches : (q : ℕ) (u : Use) (us : List Use) → Among u us → Among (touch_of q u) (touches_in q us)
among_touches q u [] h = absurd h
among_touches q u (x ∷ us) h = ⊎_elim (λ e. inl (ap (touch_of q) e)) (λ r. inr (among_touches q u us r)) h

pub among_numbered : {A : Type 0} (q i : ℕ) (ss : List (Stage A)) (u : Use) → i < length ss → Among u (uses_in (stage_at ss i)) → Among (touch_of (q + i) u) (numbered q (uses_of ss))
among_numbered q i [] u lt h = absurd (omega arith)
among_numbered q zero (s ∷ ss) u lt h =
    let e : q ≡ q + 0 = omega arith in
    subst (λ z. Among (touch_of z u) (touches_in q (uses_in s) ++ numbered (suc q) (uses_of ss))) e (among_left (touch_of q u) (touches_in q (uses_in s)) (numbered (suc q) (uses_of ss)) (among_touches q u (uses_in s) h))
among_numbered q (suc i) (s ∷ ss) u lt h =
    let e : suc q + i ≡ q + suc i = omega arith in
    among_right (touch_of (q + suc i) u) (touches_in q (uses_in s)) (numbered (suc q) (uses_of ss)) (subst (λ z. Among (touch_of z u) (numbered (suc q) (uses_of ss))) e (among_numbered (suc q) i ss u (omega arith) h))

-- all are local
abbrev AllLocal : List Touch → Type 0
AllLocal ts = All (λ x. space_of x.local ≡ placed.Local) ts

local_before : (q : ℕ) (us : List Use) (ts : List Touch) → AllLocal ts → AllLocal (touches_in q us ++ ts)
local_before q [] ts h k d lt = h k d lt
local_before q (u ∷ us) ts h zero d lt = refl
local_before q (u ∷ us) ts h (suc k) d lt = local_before q us ts h k d (omega arith)

pub all_local : (q : ℕ) (uss : List (List Use)) → AllLocal (numbered q uss)
all_local q [] k d lt = absurd (omega arith)
all_local q (us ∷ uss) k d lt = local_before q us (numbered (suc q) uss) (all_local (suc q) uss) k d lt

-- as functions of the term

module _ {A : Type 0} (num : A → ℕ) (forms : MapForms A) (ins : ℕ → Marks) (src : ℕ → Ty) (sources : ℕ → Scalars) where
  abbrev argument_stages : (s : Scope) (t : Term A) (ty : Ty) → HasType num src s.types t ty → List (Stage A)
  argument_stages = stages.argument_stages num forms ins src sources

  abbrev written_stages : (s : Scope) (t : Term A) (ty : Ty) → HasType num src s.types t ty → Destination → (outer path : List ℕ → List ℕ) → Bool → List (Stage A)
  written_stages = stages.written_stages num forms ins src sources

  abbrev bind : Scope → Term A → Ty → Scope
  bind = stages.bind num ins src sources

  both : (xs ys : List (Stage A)) (us vs : List (List Use)) → uses_of xs ≡ us → uses_of ys ≡ vs → uses_of (xs ++ ys) ≡ us ++ vs
  both xs ys us vs d e = map_append uses_in xs ys ∙ ap (λ z. z ++ uses_of ys) d ∙ ap (λ z. us ++ z) e

  mutual
    pub argument_uses_are : (t : Term A) (s : Scope) (ty : Ty) (h : HasType num src s.types t ty) → StandsInGroup false t → uses_of (argument_stages s t ty h) ≡ argument_uses s.origins s.locals t
    argument_uses_are (Bound v) s ty h f = refl
    argument_uses_are (Source a) s ty h f = refl
    argument_uses_are (Both true a b) s ty h f =
        both (argument_stages s a (ArrayOf h.0 h.1) h.4) (argument_stages (later s a) b (ArrayOf h.0 h.2) h.5) (argument_uses s.origins s.locals a) (argument_uses s.origins (s.locals + local_count a) b) (argument_uses_are a s (ArrayOf h.0 h.1) h.4 f.0) (argument_uses_are b (later s a) (ArrayOf h.0 h.2) h.5 f.1)
    argument_uses_are (Project false a) s ty h f = argument_uses_are a s (PairOf ty h.0) h.1 f
    argument_uses_are (Project true a) s ty h f = argument_uses_are a s (PairOf h.0 ty) h.1 f
    argument_uses_are (Reshape l a) s ty h f = argument_uses_are a s h.0 h.1 f
    argument_uses_are (LetArray v b) s ty h f =
        both (argument_stages s v h.0 h.1) (argument_stages (bind s v h.0) b ty h.2) (argument_uses s.origins s.locals v) (argument_uses (bind s v h.0).origins (s.locals + local_count v) b) (argument_uses_are v s h.0 h.1 f.0) (argument_uses_are b (bind s v h.0) ty h.2 f.1)
    argument_uses_are (Copy LocalMemory u x) s ty h f = written_uses_are x s ty h.2 (Locals (s.locals + local_count x) u) (λ p. p) (λ p. p) true f
    argument_uses_are _ s ty h f = absurd (assumption)

    pub written_uses_are : (t : Term A) (s : Scope) (ty : Ty) (h : HasType num src s.types t ty) (d : Destination) (outer path : List ℕ → List ℕ) (direct : Bool) → StandsInGroup true t → uses_of (written_stages s t ty h d outer path direct) ≡ written_uses s.origins s.locals t d direct
    written_uses_are (Reshape y a) s ty h d outer path direct f = written_uses_are a s h.0 h.1 d (λ p. outer (result_position num y p)) (λ p. operand_position num y (path p)) false f.1
    written_uses_are (LetArray v b) s ty h d outer path direct f =
        both (argument_stages s v h.0 h.1) (written_stages (bind s v h.0) b ty h.2 d outer path direct) (argument_uses s.origins s.locals v) (written_uses (bind s v h.0).origins (s.locals + local_count v) b d direct) (argument_uses_are v s h.0 h.1 f.0) (written_uses_are b (bind s v h.0) ty h.2 d outer path direct f.1)
    written_uses_are (Map (Over Items X) n loads xs b) s ty h d outer path direct f =
        let t = stages.stage_of num forms ins src sources s n loads xs b h.0 h.1 d outer path direct in
        both (argument_stages s xs (ArrayOf (num n) h.0) h.4) (t ∷ []) (argument_uses s.origins s.locals xs) (uses_in t ∷ []) (argument_uses_are xs s (ArrayOf (num n) h.0) h.4 f.0) refl
    written_uses_are _ s ty h d outer path direct f = absurd (assumption)
