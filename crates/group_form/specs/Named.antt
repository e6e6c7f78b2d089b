-- Which components of its variables a term names: those that its element terms look at, and those
-- that are loaded.
use Rattle.std.specs.Prelude.{ℕ, zero, suc, ◌==◌, Bool, true, false, List, [], ◌∷◌, ◌++◌, map, if◌then◌else◌}
use Rattle.lift_ir.specs.Types.{Ty, Scalar, PairOf, ArrayOf}
use Rattle.lift_ir.specs.Terms.{LoadSet, Skip, Take, TakeFour, Each, Term, Literal, Bound, Source, Apply, ApplyNumber, ApplyLanes, DivideLanes, Select, Both, Project, Reshape, LetArray, LetElement, Map, Fold, Store, Copy}

-- a variable, and the pair choices that lead to a component of it; whatever lies under the last of
-- these is meant
pub record Component : Type 0 where
  pub var : ℕ
  pub way : List Bool

-- the whole
abbrev pub whole : List (List Bool)
whole = [] ∷ []

-- components of a variable, by the ways to them
abbrev pub components_of : ℕ → List (List Bool) → List Component
components_of v [] = []
components_of v (w ∷ ws) = record { var = v; way = w } ∷ components_of v ws

-- a component outside a binder; none of the binder's own
abbrev pub beneath : ℕ → List Bool → List Component
beneath zero w = []
beneath (suc v) w = record { var = v; way = w } ∷ []

-- the same outside a binder
abbrev pub outside : List Component → List Component
outside [] = []
outside (c ∷ cs) = beneath c.var c.way ++ outside cs

-- the ways of one variable
abbrev pub ways : ℕ → List Component → List (List Bool)
ways v [] = []
ways v (c ∷ cs) = if v == c.var then c.way ∷ ways v cs else ways v cs

-- ways that go on to a side of a pair
abbrev pub onward : Bool → List (List Bool) → List (List Bool)
onward s [] = []
onward s ([] ∷ ws) = [] ∷ onward s ws
onward true ((true ∷ w) ∷ ws) = w ∷ onward true ws
onward true ((false ∷ w) ∷ ws) = onward true ws
onward false ((true ∷ w) ∷ ws) = onward false ws
onward false ((false ∷ w) ∷ ws) = w ∷ onward false ws

-- the ways to the scalars that are loaded
abbrev pub taken : LoadSet → List (List Bool)
taken Skip = []
taken Take = whole
taken TakeFour = whole
taken (Each a b) = map (λ w. false ∷ w) (taken a) ++ map (λ w. true ∷ w) (taken b)

-- what a term names, where these ways of its own value are wanted. Of a pair under first and second
-- only the side reached is named; of a let's value what the body names of it
abbrev pub named : {A : Type 0} → Term A → List (List Bool) → List Component
named (Literal n) ws = []
named (Bound v) ws = components_of v ws
named (Source a) ws = []
named (Apply o a b) ws = named a whole ++ named b whole
named (ApplyNumber o n a) ws = named a whole
named (ApplyLanes o l r a b) ws = named a whole ++ named b whole
named (DivideLanes o n a) ws = named a whole
named (Select c a b) ws = named c whole ++ (named a whole ++ named b whole)
named (Both false a b) ws = named a whole ++ named b whole
named (Both true a b) ws = named a (onward false ws) ++ named b (onward true ws)
named (Project s a) ws = named a (map (λ w. s ∷ w) ws)
named (Reshape l a) ws = named a ws
named (LetArray v b) ws = named v (ways 0 (named b ws)) ++ outside (named b ws)
named (LetElement ty v b) ws = named v whole ++ outside (named b ws)
named (Map k n loads xs b) ws =
    named xs (taken loads ++ ways 0 (named b ws)) ++ outside (named b ws)
named (Fold n loads ty xs s b) ws =
    named xs (taken loads ++ ways 0 (named b whole))
    ++ (named s whole ++ outside (outside (named b whole)))
named (Store ty a) ws = named a whole
named (Copy space ty a) ws = named a whole

-- of a local map's element: what is loaded, and what the body names
abbrev pub element_ways : {A : Type 0} → LoadSet → (body : Term A) → List (List Bool)
element_ways loads b = taken loads ++ ways 0 (named b whole)

-- and of the variables outside it
abbrev pub named_outside : {A : Type 0} → (body : Term A) → List Component
named_outside b = outside (named b whole)

-- one of the ways ends here
abbrev pub ends : List (List Bool) → Bool
ends [] = false
ends ([] ∷ ws) = true
ends ((s ∷ w) ∷ ws) = ends ws

-- a type with the components alone to which these ways lead
abbrev pub cut : Ty → List (List Bool) → Ty
cut Scalar ws = if ends ws then Scalar else ArrayOf 0 Scalar
cut (PairOf a b) ws = PairOf (cut a (onward false ws)) (cut b (onward true ws))
cut (ArrayOf n t) ws = ArrayOf n (cut t ws)
