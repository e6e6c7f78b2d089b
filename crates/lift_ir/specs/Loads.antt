-- Which scalars are in private variables, and that those which element terms name are.
use Rattle.std.specs.Prelude.{◌≡◌, ◌<◌, ◌^◌, ℕ, Bool, true, false, List, [], ◌∷◌}
use Rattle.lift_ir.specs.Types.{Ty, IsPart, size, IsShort}
use Rattle.lift_ir.specs.Terms.{LoadSet, Skip, Take, TakeFour, Each, Term, Literal, Bound, Apply, ApplyNumber, ApplyLanes, DivideLanes, Select, Both, Project, Reshape, LetArray, LetElement, Map, Fold, Store, Copy, push}
use Rattle.lift_ir.specs.Scalars.{by_side}
use Rattle.lift_ir.specs.Standing.{Standing, stands_for}

-- the scalar at these pair choices is loaded
abbrev pub covers : LoadSet → List Bool → Bool
covers Skip cs = false
covers Take cs = true
covers TakeFour cs = true
covers (Each a b) [] = false
covers (Each a b) (false ∷ cs) = covers a cs
covers (Each a b) (true ∷ cs) = covers b cs

-- each scalar is in a variable
abbrev pub all : List Bool → Bool
all cs = true

-- no scalar is in a variable
abbrev pub none : List Bool → Bool
none cs = false

-- a component of an element term hangs on variables alone
abbrev pub IsHeld : {A : Type 0} → (ℕ → List Bool → Bool) → Term A → List Bool → Type 0
IsHeld h (Literal c) cs = Unit {0}
IsHeld h (Bound v) cs = h v cs ≡ true
IsHeld h (Apply o a b) cs = IsHeld h a [] × IsHeld h b []
IsHeld h (ApplyNumber o n a) cs = IsHeld h a []
IsHeld h (ApplyLanes o l r a b) cs = IsHeld h a [] × IsHeld h b []
IsHeld h (DivideLanes o n a) cs = IsHeld h a []
IsHeld h (Select c a b) cs = IsHeld h c [] × IsHeld h a [] × IsHeld h b []
IsHeld h (Both zips a b) [] = Unit {0}
IsHeld h (Both zips a b) (false ∷ cs) = IsHeld h a cs
IsHeld h (Both zips a b) (true ∷ cs) = IsHeld h b cs
IsHeld h (Project s a) cs = IsHeld h a (s ∷ cs)
IsHeld h (LetElement ty v b) cs = IsHeld (push all h) b cs
IsHeld h _ cs = ⊥

-- each component of an element term of this type hangs on variables alone
abbrev pub AllHeld : {A : Type 0} → (ℕ → List Bool → Bool) → Ty → Term A → Type 0
AllHeld h ty t = (cs : List Bool) → IsPart ty cs → IsHeld h t cs

-- and so do the lets in it
abbrev pub AreLetsHeld : {A : Type 0} → (ℕ → List Bool → Bool) → Term A → Type 0
AreLetsHeld h (Literal c) = Unit {0}
AreLetsHeld h (Bound v) = Unit {0}
AreLetsHeld h (Apply o a b) = AreLetsHeld h a × AreLetsHeld h b
AreLetsHeld h (ApplyNumber o n a) = AreLetsHeld h a
AreLetsHeld h (ApplyLanes o l r a b) = AreLetsHeld h a × AreLetsHeld h b
AreLetsHeld h (DivideLanes o n a) = AreLetsHeld h a
AreLetsHeld h (Select c a b) = AreLetsHeld h c × AreLetsHeld h a × AreLetsHeld h b
AreLetsHeld h (Both zips a b) = AreLetsHeld h a × AreLetsHeld h b
AreLetsHeld h (Project s a) = AreLetsHeld h a
AreLetsHeld h (LetElement ty v b) = AllHeld h ty v × AreLetsHeld h v × AreLetsHeld (push all h) b
AreLetsHeld h _ = ⊥

-- in variables are those that bodies name of an element; none of an input, behind a layout, or of a
-- copy
abbrev pub held_standing : {A : Type 0} → Standing A (List Bool → Bool)
held_standing = record {
  source = λ input. none;
  both = by_side false;
  side = λ second x cs. x (second ∷ cs);
  through = λ y x. none;
  in_let = λ x. x;
  copy = λ number space ty. none;
  nothing = none;
}

-- which scalars of an argument are in variables
abbrev pub held_scalars : {A : Type 0} → (ℕ → List Bool → Bool) → Term A → List Bool → Bool
held_scalars h t = stands_for held_standing (λ x. 0) h 0 t

-- what is loaded is what the bodies name
abbrev pub LoadsSuffice : {A : Type 0} → (ℕ → List Bool → Bool) → Term A → Type 0
LoadsSuffice h (Both zips a b) = LoadsSuffice h a × LoadsSuffice h b
LoadsSuffice h (Project s a) = LoadsSuffice h a
LoadsSuffice h (Reshape l a) = LoadsSuffice h a
LoadsSuffice h (LetArray v b) = LoadsSuffice h v × LoadsSuffice (push (held_scalars h v) h) b
LoadsSuffice h (LetElement ty v b) = AllHeld h ty v × AreLetsHeld h v × LoadsSuffice (push all h) b
LoadsSuffice h (Map k n loads xs b) = LoadsSuffice h xs × LoadsSuffice (push (covers loads) h) b
LoadsSuffice h (Fold n loads ty xs s b) =
    LoadsSuffice h xs × AllHeld h ty s × AreLetsHeld h s
    × AllHeld (push (covers loads) (push all h)) ty b
    × AreLetsHeld (push (covers loads) (push all h)) b
LoadsSuffice h (Store ty a) = AllHeld h ty a × AreLetsHeld h a
LoadsSuffice h (Copy space ty a) = (size ty < 2 ^ 31) × IsShort ty × LoadsSuffice h a
LoadsSuffice h _ = Unit {0}
