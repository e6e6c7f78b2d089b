-- What variables hold, of a word and of four.
use Rattle.std.proofs.Common.{◌≡◌, ℕ, Bool, true, false, List, [], ◌∷◌, ◌⊎◌, refl, ap, ◌∙◌, subst, inl, inr, arith}
use Rattle.kernel_tree.specs.Formula.{Vars}
use Rattle.lift_ir.specs.Types.{Ty, Scalar, PairOf, ArrayOf, IsPosition}
use Rattle.lift_ir.specs.Terms.{LoadSet, Skip, Take, TakeFour, Each, LoadsScalars}
use Rattle.printed_form.specs.Counts.{Count, more, AtMost, load_count}
use Rattle.printed_form.specs.Marks.{Mark, Nowhere, Register, Lane, Spot, Marks, in_lanes, loaded_marks}
use Rattle.printed_form.specs.Runs.{Setting, Known, Kept, lane, HoldsAt}
use Rattle.printed_form.proofs.Elements.{four_type, four_position}
use Rattle.group_phases.specs.Phases.{HeldBelow}

-- a variable, or a lane of one
abbrev pub IsVariable : Mark → Type 0
IsVariable (Register r) = Unit {0}
IsVariable (Lane r j) = Unit {0}
IsVariable (Spot b i) = ⊥
IsVariable Nowhere = ⊥

-- once scalars and vectors are loaded, each is in a variable, and all else stands as it did
pub loaded_or : (loads : LoadSet) (ty : Ty) (e : Marks) (n : Count) (cs : List Bool) (p : List ℕ) → LoadsScalars loads ty → IsPosition ty cs p → IsVariable (loaded_marks loads e n cs p) ⊎ (loaded_marks loads e n cs p ≡ e cs p)
loaded_or Skip ty e n cs p ok x = inr refl
loaded_or Take ty e n cs p ok x = inl tt
loaded_or TakeFour Scalar e n cs p ok x = absurd ok
loaded_or TakeFour (PairOf t u) e n cs p ok x = absurd ok
loaded_or TakeFour (ArrayOf m t) e n cs p ok x = inl (four_position (λ ds q. IsVariable (in_lanes n.fours q)) (λ j lt. tt) cs p (subst (λ z. IsPosition z cs p) (four_type m t ok) x))
loaded_or (Each a b) Scalar e n cs p ok x = absurd ok
loaded_or (Each a b) (ArrayOf m t) e n cs p ok x = absurd ok
loaded_or (Each a b) (PairOf t u) e n [] p ok x = absurd x
loaded_or (Each a b) (PairOf t u) e n (false ∷ cs) p ok x = loaded_or a t (λ ds. e (false ∷ ds)) n cs p ok.0 x
loaded_or (Each a b) (PairOf t u) e n (true ∷ cs) p ok x = loaded_or b u (λ ds. e (true ∷ ds)) (more n (load_count a)) cs p ok.1 x

-- what an item knows of a variable
pub held_here : (st : Setting) (x : Known) (n : Count) (m : Mark) (v : ℕ) → AtMost x.count n → HoldsAt st x m v → HeldBelow n x.vars m v
held_here st x n (Register r) v most h = (let le = most.words in let lt = h.0 in omega arith, h.1)
held_here st x n (Lane r j) v most h = (let le = most.fours in let lt = h.0 in omega arith, h.1)
held_here st x n (Spot b i) v most h = tt
held_here st x n Nowhere v most h = tt

-- and later, where these variables are kept
pub held_kept : (n k : Count) (vars later : Vars) (m : Mark) (v : ℕ) → AtMost n k → Kept k vars later → HeldBelow n vars m v → HeldBelow n later m v
held_kept n k vars later (Register r) v most kept h = (h.0, kept.same r (let le = most.words in let lt = h.0 in omega arith) ∙ h.1)
held_kept n k vars later (Lane r j) v most kept h = (h.0, ap (λ u. lane u j) (kept.same_four r (let le = most.fours in let lt = h.0 in omega arith)) ∙ h.1)
held_kept n k vars later (Spot b i) v most kept h = tt
held_kept n k vars later Nowhere v most kept h = tt

-- it is what an item knows of a variable
pub knows_held : (st : Setting) (x : Known) (n : Count) (m : Mark) (v : ℕ) → AtMost n x.count → IsVariable m → HeldBelow n x.vars m v → HoldsAt st x m v
knows_held st x n (Register r) v most is h = (let le = most.words in let lt = h.0 in omega arith, h.1)
knows_held st x n (Lane r j) v most is h = (let le = most.fours in let lt = h.0 in omega arith, h.1)
knows_held st x n (Spot b i) v most is h = absurd is
knows_held st x n Nowhere v most is h = absurd is
