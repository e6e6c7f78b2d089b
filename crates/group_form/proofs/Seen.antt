-- What stands for a scalar that a phase reads.
use Rattle.std.proofs.Common.{◌≡◌, ℕ, ◌+◌, ◌<◌, ◌≤◌, List, [], ◌∷◌, ◌++◌, length, Bool, true, false, true≢false, refl, sym, ap, ◌∙◌, subst, arith}
use Rattle.std.specs.Prelude.{slice_index}
use Rattle.kernel_tree.specs.Code.{Input, Output, Local as LocalArray, Private}
use Rattle.kernel_tree.specs.Launch.{Cells}
use Rattle.kernel_tree.specs.Device.{row}
use Rattle.lift_ir.specs.Types.{Ty, Scalar, PairOf, ArrayOf, IsPosition, width, component}
use Rattle.lift_ir.specs.Scalars.{Scalars}
use Rattle.printed_form.specs.Counts.{no_variables}
use Rattle.printed_form.specs.Marks.{Mark, Nowhere, Register, Lane, Spot, Marks, loaded_marks}
use Rattle.printed_form.specs.Whole.{IsGiven}
use Rattle.group_phases.specs.Phases.{TurnElement}
use Rattle.group_phases.proofs.Held.{IsVariable}
use Rattle.group_form.specs.Origins.{Origin, Elsewhere, Within, BySide, on_side, at_way, bent, laid_from}
use Rattle.group_form.specs.Uses.{Locals}
use Rattle.group_form.specs.Stages.{stage_at, result_type, value_in}
use Rattle.group_form.specs.Body.{GroupBody, goes_to, first_index}

-- origins

side_bent : (s : Bool) (o : Origin) → on_side s (bent o) ≡ bent (on_side s o)
side_bent false Elsewhere = refl
side_bent true Elsewhere = refl
side_bent false (Within a p) = refl
side_bent true (Within a p) = refl
side_bent false (BySide a b) = refl
side_bent true (BySide a b) = refl

pub way_bent : (o : Origin) (w : List Bool) → at_way (bent o) w ≡ bent (at_way o w)
way_bent o [] = refl
way_bent o (s ∷ w) = ap (λ z. at_way z w) (side_bent s o) ∙ way_bent (on_side s o) w

pub way_on : (o : Origin) (v w : List Bool) → at_way o (v ++ w) ≡ at_way (at_way o v) w
way_on o [] w = refl
way_on o (s ∷ v) w = way_on (on_side s o) v w

pub laid_at : (n : ℕ) (t : Ty) (cs : List Bool) (p : List ℕ) → IsPosition t cs p → at_way (laid_from n t) cs ≡ Within (n + component t cs) true
laid_at n Scalar [] p x = ap (λ z. Within z true) (let e : n ≡ n + 0 = omega arith in e)
laid_at n Scalar (c ∷ cs) p x = absurd x
laid_at n (PairOf a b) [] p x = absurd x
laid_at n (PairOf a b) (false ∷ cs) p x = laid_at n a cs p x
laid_at n (PairOf a b) (true ∷ cs) p x = laid_at (n + width a) b cs p x ∙ ap (λ z. Within z true) (let e : n + width a + component b cs ≡ n + (width a + component b cs) = omega arith in e)
laid_at n (ArrayOf m t) cs [] x = absurd x
laid_at n (ArrayOf m t) cs (i ∷ p) x = laid_at n t cs p x.1

-- this stands for a scalar that the map over groups binds at a turn, which is this
abbrev pub IsTurnScalar : TurnElement → (turn : ℕ) → Mark → (value : ℕ) → Type 0
IsTurnScalar top i m v = (cs : List Bool) × (p : List ℕ) × IsPosition top.type cs p × (loaded_marks top.loads (top.marks i) no_variables cs p ≡ m) × (top.scalars i cs p ≡ v)

module _ {A : Type 0} (num : A → ℕ) (c : Cells) (b : GroupBody A) where
  -- a cell of a local array that an earlier phase fills, from this origin. Where it is reached
  -- plainly and the copy directly, it is of the row that is read
  pub record IsSeen (origin : Origin) (q i : ℕ) (p : List ℕ) (a n v : ℕ) : Type 0 where
    pub plainly : Bool
    pub reached : origin ≡ Within a plainly
    pub phase : ℕ
    pub earlier : phase < q
    pub first : ℕ
    pub ty : Ty
    pub destination : (stage_at b.stages phase).destination ≡ Locals first ty
    pub choices : List Bool
    pub position : List ℕ
    pub inside : IsPosition (result_type (stage_at b.stages phase)) choices position
    pub is : Spot (LocalArray a) n ≡ goes_to b.out i (stage_at b.stages phase) choices position
    pub has : v ≡ value_in num b.sources i (stage_at b.stages phase) choices position
    pub rows : plainly ≡ true → (stage_at b.stages phase).direct ≡ true → first_index position ≡ first_index p

  -- at turn i before phase q: an input's cell, such a cell of a local array, or a scalar of the
  -- turn in a variable
  abbrev pub SeenAt : Origin → (q i : ℕ) → List ℕ → Mark → ℕ → Type 0
  SeenAt o q i p (Spot (Input a) n) v = (n < length (row c.ins a)) × (slice_index (row c.ins a) n ≡ v)
  SeenAt o q i p (Spot (LocalArray a) n) v = IsSeen o q i p a n v
  SeenAt o q i p (Register r) v = IsTurnScalar b.top i (Register r) v
  SeenAt o q i p (Lane r j) v = IsTurnScalar b.top i (Lane r j) v
  SeenAt o q i p _ v = ⊥

  -- what stands for a value at each turn
  abbrev pub Sees : Origin → (q : ℕ) → Ty → (marks : (turn : ℕ) → Marks) → (scalars : (turn : ℕ) → Scalars) → Type 0
  Sees o q ty e s = (i : ℕ) → i < b.turns → (cs : List Bool) (p : List ℕ) → IsPosition ty cs p → SeenAt (at_way o cs) q i p (e i cs p) (s i cs p)

  pub seen_later : (o : Origin) (q r i : ℕ) (p : List ℕ) (m : Mark) (v : ℕ) → q ≤ r → SeenAt o q i p m v → SeenAt o r i p m v
  seen_later o q r i p (Spot (Input a) n) v le x = x
  seen_later o q r i p (Spot (LocalArray a) n) v le x = let e = x.earlier in record { plainly = x.plainly; reached = x.reached; phase = x.phase; earlier = omega arith; first = x.first; ty = x.ty; destination = x.destination; choices = x.choices; position = x.position; inside = x.inside; is = x.is; has = x.has; rows = x.rows }
  seen_later o q r i p (Spot (Output a) n) v le x = absurd x
  seen_later o q r i p (Spot (Private a) n) v le x = absurd x
  seen_later o q r i p (Register a) v le x = x
  seen_later o q r i p (Lane a j) v le x = x
  seen_later o q r i p Nowhere v le x = absurd x

  -- at another position
  pub seen_bent : (o : Origin) (q i : ℕ) (p r : List ℕ) (m : Mark) (v : ℕ) → SeenAt o q i p m v → SeenAt (bent o) q i r m v
  seen_bent o q i p r (Spot (Input a) n) v x = x
  seen_bent o q i p r (Spot (LocalArray a) n) v x = record { plainly = false; reached = ap bent x.reached; phase = x.phase; earlier = x.earlier; first = x.first; ty = x.ty; destination = x.destination; choices = x.choices; position = x.position; inside = x.inside; is = x.is; has = x.has; rows = λ z. absurd (true≢false (sym z)) }
  seen_bent o q i p r (Spot (Output a) n) v x = absurd x
  seen_bent o q i p r (Spot (Private a) n) v x = absurd x
  seen_bent o q i p r (Register a) v x = x
  seen_bent o q i p r (Lane a j) v x = x
  seen_bent o q i p r Nowhere v x = absurd x

  pub seen_input : (o : Origin) (q i : ℕ) (p : List ℕ) (m : Mark) (v : ℕ) → IsGiven c m v → SeenAt o q i p m v
  seen_input o q i p (Spot (Input a) n) v x = x
  seen_input o q i p (Spot (LocalArray a) n) v x = absurd x
  seen_input o q i p (Spot (Output a) n) v x = absurd x
  seen_input o q i p (Spot (Private a) n) v x = absurd x
  seen_input o q i p (Register a) v x = absurd x
  seen_input o q i p (Lane a j) v x = absurd x
  seen_input o q i p Nowhere v x = absurd x

  -- a variable that the map over groups binds
  pub seen_top : (o : Origin) (q i : ℕ) (p : List ℕ) (m : Mark) (v : ℕ) → IsVariable m → IsTurnScalar b.top i m v → SeenAt o q i p m v
  seen_top o q i p (Register a) v is x = x
  seen_top o q i p (Lane a j) v is x = x
  seen_top o q i p (Spot a n) v is x = absurd is
  seen_top o q i p Nowhere v is x = absurd is

  -- at the same position of a value by another expression of its origin
  pub seen_from : (o u : Origin) (q i : ℕ) (p : List ℕ) (m : Mark) (v : ℕ) → o ≡ u → SeenAt o q i p m v → SeenAt u q i p m v
  seen_from o u q i p m v e x = subst (λ z. SeenAt z q i p m v) e x
