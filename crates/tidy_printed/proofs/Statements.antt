-- Tidied, loads, stores and loops are what they were printed for: indices and bounds keep their
-- values.
use Rattle.std.proofs.Common.{◌≡◌, ℕ, ◌<◌, Bool, true, false, List, [], ◌∷◌, ◌++◌, Option, Some, refl, ap, subst, arith}
use Rattle.kernel_tree.specs.Formula.{Formula, Ids, bound_value}
use Rattle.kernel_tree.specs.Code.{Array, Start, Stride, start_value, Code, End}
use Rattle.kernel_tree.specs.Launch.{Launch, item_count, ids_of}
use Rattle.lift_ir.specs.Types.{Ty, Scalar, PairOf, ArrayOf}
use Rattle.lift_ir.specs.Terms.{LoadSet, Skip, Take, TakeFour, Each, Kind, Term, push}
use Rattle.printed_form.specs.Counts.{Count, more, held_count, let_variables, load_count}
use Rattle.printed_form.specs.Marks.{Mark, Nowhere, Register, Lane, Spot, Marks, held_marks, loaded_marks}
use Rattle.printed_form.specs.Expressions.{Expr, exprs}
use Rattle.printed_form.specs.Form.{IsTurn, IsSpot, IsFourSpot, IsStored, IsLoaded, IsLoop, IsFoldTurn}
use Rattle.printed_form.specs.MapForms.{MapForm, Looped, Guarded, Alone, TurnCode, form_over_groups, variables_in, AreTurnsFrom, statement_of}
use Rattle.tidy_indices.specs.Around.{Around, InLoop, InIf, StandsIn}
use Rattle.tidy_indices.specs.Laws.{Change, KeepsValues}
use Rattle.tidy_kernels.specs.Pass.{tidied_code}
use Rattle.tidy_printed.specs.Terms.{TidiedLoadsArePrinted}
use Rattle.tidy_printed.proofs.Elements.{reassigned, element}

-- one loop more
in_loop : (ids : Ids) (around : List Around) (turns : List ℕ) (b : Formula) (n t : ℕ) → StandsIn ids around turns → bound_value ids.sizes b ≡ Some n → t < n → StandsIn ids (around ++ InLoop b ∷ []) (turns ++ t ∷ [])
in_loop ids [] [] b n t h e lt = (n, e, lt, tt)
in_loop ids [] (u ∷ turns) b n t h e lt = absurd h
in_loop ids (InLoop c ∷ around) [] b n t h e lt = absurd h
in_loop ids (InLoop c ∷ around) (u ∷ turns) b n t h e lt = (h.0, h.1, h.2, in_loop ids around turns b n t h.3 e lt)
in_loop ids (InIf s c ∷ around) turns b n t h e lt = (h.0, h.1, h.2, in_loop ids around turns b n t h.3 e lt)

-- and one `if`
in_if : (ids : Ids) (around : List Around) (turns : List ℕ) (s : Start) (b : Formula) (n : ℕ) → StandsIn ids around turns → bound_value ids.sizes b ≡ Some n → start_value ids s < n → StandsIn ids (around ++ InIf s b ∷ []) turns
in_if ids [] [] s b n h e lt = (n, e, lt, tt)
in_if ids [] (u ∷ turns) s b n h e lt = absurd h
in_if ids (InLoop c ∷ around) [] s b n h e lt = absurd h
in_if ids (InLoop c ∷ around) (u ∷ turns) s b n h e lt = (h.0, h.1, h.2, in_if ids around turns s b n h.3 e lt)
in_if ids (InIf r c ∷ around) turns s b n h e lt = (h.0, h.1, h.2, in_if ids around turns s b n h.3 e lt)

-- the statement around a turn of a map over groups
abbrev pub statement_in : (once : Bool) → Start → Formula → Around
statement_in false s b = InLoop b
statement_in true s b = InIf s b

pub tidied_statement : (tidy : Change) (around : List Around) (once : Bool) (s : Start) (c : Stride) (b : Formula) (body : Code)
    → tidied_code tidy around (statement_of (form_over_groups once) s c b body) ≡ statement_of (form_over_groups once) s c (tidy [] b) (tidied_code tidy (around ++ statement_in once s b ∷ []) body)
tidied_statement tidy around false s c b body = refl
tidied_statement tidy around true s c b body = refl

-- an item that takes a turn of a loop or an `if` is in it
pub entered : (l : Launch) (item : ℕ) (around : List Around) (ts : List ℕ) (once : Bool) (s : Start) (c : Stride) (b : Formula) (n i : ℕ) → StandsIn (ids_of l item) around ts → bound_value l.sizes b ≡ Some n → i < n → IsTurn l item s c i
    → StandsIn (ids_of l item) (around ++ statement_in once s b ∷ []) (variables_in (form_over_groups once) ts i)
entered l item around ts false s c b n i stands is lt own = in_loop (ids_of l item) around ts b n i stands is lt
entered l item around ts true s c b n i stands is lt own = in_if (ids_of l item) around ts s b n stands is (let from = own.1 in omega arith)

module _ (l : Launch) (item : ℕ) (ins : ℕ → Marks) (tidy : Change) (keeps : KeepsValues tidy l) (in_launch : item < item_count l) (around : List Around) (ts : List ℕ) (stands : StandsIn (ids_of l item) around ts) where
  abbrev tidied : Code → Code
  tidied = tidied_code tidy around

  spot : (m : Mark) (a : Array) (i : Formula) → IsSpot l item ins ts m a i → IsSpot l item ins ts m a (tidy around i)
  spot (Spot b n) a i h = (h.0, λ vs. keeps.index item around ts vs i n in_launch stands (h.1 vs))
  spot Nowhere a i h = absurd h
  spot (Register v) a i h = absurd h
  spot (Lane v j) a i h = absurd h

  four_spot : (x : List ℕ → Mark) (a : Array) (i : Formula) → IsFourSpot l item ins ts x a i → IsFourSpot l item ins ts x a (tidy around i)
  four_spot x a i h = (h.0, h.1, λ vs. keeps.index item around ts vs i h.0 in_launch stands (h.2 vs))

  pub stored : (ty : Ty) (f : List Bool → Option Expr) (w : Marks) (code rest : Code) → IsStored l item ins ts ty f w code rest → IsStored l item ins ts ty f w (tidied code) (tidied rest)
  stored Scalar f w code rest h = (h.0, tidy around h.1, h.2, h.3, spot (w [] []) h.0 h.1 h.4, ap tidied h.5)
  stored (PairOf a b) f w code rest h =
      (tidied h.0, stored a (λ cs. f (false ∷ cs)) (λ cs. w (false ∷ cs)) code h.0 h.1, stored b (λ cs. f (true ∷ cs)) (λ cs. w (true ∷ cs)) h.0 rest h.2)
  stored (ArrayOf m t) f w code rest h = (h.0, h.1, tidy around h.2, h.3, h.4, four_spot (w []) h.1 h.2 h.5, ap tidied h.6)

  pub loaded : (loads : LoadSet) (x : Marks) (n : Count) (code rest : Code) → IsLoaded l item ins ts loads x n code rest → IsLoaded l item ins ts loads x n (tidied code) (tidied rest)
  loaded Skip x n code rest h = ap tidied h
  loaded Take x n code rest h = (h.0, tidy around h.1, spot (x [] []) h.0 h.1 h.2, ap tidied h.3)
  loaded TakeFour x n code rest h = (h.0, tidy around h.1, four_spot (x []) h.0 h.1 h.2, ap tidied h.3)
  loaded (Each a b) x n code rest h = (tidied h.0, loaded a (λ cs. x (false ∷ cs)) n code h.0 h.1, loaded b (λ cs. x (true ∷ cs)) (more n (load_count a)) h.0 rest h.2)

  -- a loop whose tidied body is what it was printed for at each turn
  pub loop : (kind : Kind) (n : ℕ) (B : ℕ → Code → Type 0) (code rest : Code)
      → ((b : Formula) (i : ℕ) (body : Code) → StandsIn (ids_of l item) (around ++ InLoop b ∷ []) (ts ++ i ∷ []) → B i body → B i (tidied_code tidy (around ++ InLoop b ∷ []) body))
      → IsLoop l item ins kind n B code rest → IsLoop l item ins kind n B (tidied code) (tidied rest)
  loop kind n B code rest turn h = (
    tidy [] h.0,
    tidied_code tidy (around ++ InLoop h.0 ∷ []) h.1,
    ap tidied h.2,
    keeps.bound h.0 n h.3,
    λ i lt own. turn h.0 i h.1 (in_loop (ids_of l item) around ts h.0 n i stands h.3 lt) (h.4 i lt own),
  )

  -- and all turns of a map, in a form
  pub turns : (form : MapForm) (s : Start) (c : Stride) (n : ℕ) (B : TurnCode) (code rest : Code)
      → ((around : List Around) (ts : List ℕ) → StandsIn (ids_of l item) around ts → (i : ℕ) (body last : Code) → B ts i body last → B ts i (tidied_code tidy around body) (tidied_code tidy around last))
      → AreTurnsFrom l item form s c ts n B code rest → AreTurnsFrom l item form s c ts n B (tidied code) (tidied rest)
  turns Looped s c n B code rest turn h = (
    tidy [] h.0,
    tidied_code tidy (around ++ InLoop h.0 ∷ []) h.1,
    ap tidied h.2,
    keeps.bound h.0 n h.3,
    λ i lt own. turn (around ++ InLoop h.0 ∷ []) (ts ++ i ∷ []) (in_loop (ids_of l item) around ts h.0 n i stands h.3 lt) i h.1 End (h.4 i lt own),
  )
  turns Guarded s c n B code rest turn h = (
    tidy [] h.0,
    tidied_code tidy (around ++ InIf s h.0 ∷ []) h.1,
    ap tidied h.2,
    keeps.bound h.0 n h.3,
    λ i lt own. turn (around ++ InIf s h.0 ∷ []) ts (in_if (ids_of l item) around ts s h.0 n stands h.3 (subst (λ k. k < n) own lt)) i h.1 End (h.4 i lt own),
  )
  turns Alone s c n B code rest turn h = λ i lt own. turn around ts stands i code rest (h i lt own)

  pub fold_turn : {A : Type 0} → (env : ℕ → Marks) (loads : LoadSet) (ty : Ty) (x : Marks) (acc : Count) (b : Term A) (body : Code) → IsFoldTurn l item ins ts env loads ty x acc b body → IsFoldTurn l item ins ts env loads ty x acc b (tidied body)
  fold_turn env loads ty x acc b body h =
      let inside = push (loaded_marks loads x (more acc (held_count ty))) (push (held_marks ty acc) env) in
      let n = more (more acc (held_count ty)) (load_count loads) in (
        tidied h.0,
        tidied h.1,
        loaded loads x (more acc (held_count ty)) body h.0 h.2,
        element tidy around inside n b h.0 h.1 h.3,
        reassigned tidy around ty (exprs inside n b) acc (more n (let_variables b)) h.1 End h.4,
      )

pub loads_are : TidiedLoadsArePrinted
loads_are l item ins tidy around ts loads x n code rest keeps in_launch stands h = loaded l item ins tidy keeps in_launch around ts stands loads x n code rest h
