-- Where scalars lie, as the Rust code holds it.
use Rattle.std.specs.Prelude.{ℕ, suc, ◌+◌, Bool, true, false, List, [], ◌∷◌}
use Rattle.lift_ir.specs.Terms as terms
use Rattle.lift_ir.specs.Terms.{push}
use Rattle.lowering.specs.Terms.{load_set_of, term_of}
use Rattle.term_traffic.specs.Regions as regions
use Rattle.term_traffic.specs.Regions.{Regions, all_in, regions_of, regions_left}
use Rattle.item_traffic.specs.declared.region.Region.{Region}
use Rattle.item_traffic.specs.declared.region.Region.TheVariants as region
use Rattle.item_traffic.specs.declared.region.Way.{Way}
use Rattle.item_traffic.specs.declared.region.Way as way
use Rattle.item_traffic.specs.declared.region.Scope.{Scope}
use Rattle.item_traffic.specs.declared.region.Scope as scope
use Rattle.item_traffic.specs.declared.region.Part.{Part}
use Rattle.item_traffic.specs.declared.region.Part as part

-- a memory
abbrev pub region_in : Region → regions.Region
region_in region.Nowhere = regions.NoMemory
region_in region.Global = regions.InGlobal
region_in region.Local = regions.InLocal
region_in region.Private = regions.InPrivate

-- the pair choices of a way
abbrev pub choices_in : Way → List Bool
choices_in way.Whole = []
choices_in (way.Side' second p rest) = second ∷ choices_in rest

-- where what each binder stands for lies, counted from the nearest
abbrev pub regions_in : Scope → ℕ → Regions
regions_in scope.Empty = λ v. all_in regions.NoMemory
regions_in (scope.Value' t p outer) =
    push (regions_of (regions_in outer) (term_of t.now)) (regions_in outer)
regions_in (scope.Element' l t p outer) =
    push (regions_left (load_set_of l.now) (regions_of (regions_in outer) (term_of t.now)))
    (regions_in outer)
regions_in (scope.Held' p outer) = push (all_in regions.NoMemory) (regions_in outer)

-- where the components of a part of an argument lie
abbrev pub regions_at : Part → Regions
regions_at (part.Whole s t) = regions_of (regions_in s.now) (term_of t.now)
regions_at (part.First' p whole) = λ cs. regions_at whole (false ∷ cs)
regions_at (part.Second' p whole) = λ cs. regions_at whole (true ∷ cs)

-- how many nodes of a term an argument's region may be sought in
abbrev pub span : {A : Type 0} → terms.Term A → ℕ
span (terms.Both zips a b) = suc (span a + span b)
span (terms.Project s a) = suc (span a)
span (terms.Reshape l a) = suc (span a)
span (terms.LetArray v b) = suc (suc (span v + span b))
span _ = 1

-- and of what the binders stand for
abbrev pub span_of : Scope → ℕ
span_of scope.Empty = 0
span_of (scope.Value' t p outer) = suc (span (term_of t.now) + span_of outer)
span_of (scope.Element' l t p outer) = suc (span (term_of t.now) + span_of outer)
span_of (scope.Held' p outer) = suc (span_of outer)
