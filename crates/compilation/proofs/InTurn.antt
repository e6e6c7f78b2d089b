-- Kernels that are compiled one after another.
use Rattle.std.proofs.Common.{◌≡◌, ◌∙◌, ◌<◌, arith, get_or, length, take, ℕ, List, [], ◌∷◌, ◌++◌, Option, Result, Ok, Err, ap, ap₂, inl, inr, map, refl, subst, sym}
use Rattle.std.proofs.lemmas.List.{map-append, map-id}
use Rattle.kernel_tree.specs.Code.{Kernel}
use Rattle.lift_tree.specs.Lists.{Every}
use Rattle.lift_tree.proofs.EveryAt.{every_more}
use Rattle.lowered_tree.specs.declared.lowered.Lowered.{Lowered}
use Rattle.kernel_sequence.specs.Cut.{Part}
use Rattle.kernel_sequence.specs.Parts.{term_part}
use Rattle.sequence_runs.specs.Stages.{AreKernelsOfEach, IsKernelOf}
use Rattle.fault_lines.specs.declared.refusal.Refusal.{Refusal}
use Rattle.program_source.specs.Program.{StopsFor}
use Rattle.compilation.specs.Legal.{CompilesTerm, lowered_state}
use Rattle.compilation.specs.Sequence.{AreMadeOf, CompilesInTurn, IsLaidOut, Outline, outline_in, state_in}

-- ---- where an item of a list stands

-- behind these of the list, and before the rest
pub record Turned {A : Type 0} (all xs : List A) (x : A) : Type 0 where
  pub rest : List A
  pub are : all ≡ xs ++ x ∷ rest

pub turned : {A : Type 0} (all xs : List A) (x : A) → map (λ (y : A). y) xs ≡ take (length xs) all → length xs < length all → x ≡ get_or all (length xs) x → Turned all xs x
turned [] xs x same less next = absurd (omega (arith, less))
turned (z ∷ all) [] x same less next = record { rest = all; are = ap (λ w. w ∷ all) (sym next) }
turned (z ∷ all) (y ∷ xs) x same less next =
    let front : y ≡ z = cc in
    let behind : map (λ y. y) xs ≡ take (length xs) all = cc in
    let r = turned all xs x behind (omega (arith, less)) next in
    record { rest = r.rest; are = (let e = r.are in cc) }

-- ---- the stages of each in turn

in_turn_more : (local : Option (ℕ × ℕ)) (xs ys : List Part) (r : Result (Unit {0}) Refusal) → CompilesInTurn local xs (Ok tt) → CompilesInTurn local ys r → CompilesInTurn local (xs ++ ys) r
in_turn_more local [] ys r h k = k
in_turn_more local (x ∷ xs) ys (Ok u) h k = (h.0, h.1, in_turn_more local xs ys (Ok u) h.2 k)
in_turn_more local (x ∷ xs) ys (Err e) h k = inr (h.0, h.1, in_turn_more local xs ys (Err e) h.2 k)

stops_in_turn : (local : Option (ℕ × ℕ)) (xs : List Part) (x : Part) (rest : List Part) (why : Refusal) → CompilesInTurn local xs (Ok tt) → StopsFor (CompilesTerm local (state_in x)) why → StopsFor (CompilesInTurn local (xs ++ x ∷ rest)) why
stops_in_turn local xs x rest why done (inl memory) = inl memory
stops_in_turn local xs x rest why done (inr h) = inr (in_turn_more local xs (x ∷ rest) (Err why) done (inl h))

pub stops_among : (local : Option (ℕ × ℕ)) (all ls : List Lowered) (l : Lowered) (why : Refusal) → Turned all ls l → CompilesInTurn local (map term_part ls) (Ok tt) → StopsFor (CompilesTerm local (lowered_state l)) why
    → StopsFor (CompilesInTurn local (map term_part all)) why
stops_among local all ls l why at done h =
    subst (λ (xs : List Part). StopsFor (CompilesInTurn local xs) why) (sym (ap (map term_part) at.are ∙ map-append term_part ls (l ∷ at.rest)))
    (stops_in_turn local (map term_part ls) (term_part l) (map term_part at.rest) why done h)

-- ---- the kernels so far

every_in : {A : Type 0} (P : A → Type 0) (xs rest : List A) (x : A) → Every P (xs ++ x ∷ rest) → P x
every_in P [] rest x all = all.0
every_in P (y ∷ xs) rest x all = every_in P xs rest x all.1

pub every_at : {A : Type 0} (P : A → Type 0) (all xs : List A) (x : A) → Turned all xs x → Every P all → P x
every_at P all xs x at h = every_in P xs at.rest x (subst (λ ys. Every P ys) at.are h)

each_more : (local : Option (ℕ × ℕ)) (ls : List Lowered) (ks : List Kernel) (l : Lowered) (k : Kernel) → AreKernelsOfEach local ls ks → IsKernelOf local l k → AreKernelsOfEach local (ls ++ l ∷ []) (ks ++ k ∷ [])
each_more local [] [] l k each h = (h, tt)
each_more local [] (j ∷ ks) l k each h = absurd each
each_more local (m ∷ ls) [] l k each h = absurd each
each_more local (m ∷ ls) (j ∷ ks) l k each h = (each.0, each_more local ls ks l k each.1 h)

pub none_made : (local : Option (ℕ × ℕ)) (ks : List Kernel) (os : List Outline) → ks ≡ [] → os ≡ [] → AreMadeOf local [] ks os
none_made local ks os no_kernels no_outlines =
    record { each = subst (AreKernelsOfEach local []) (sym no_kernels) tt; outlined = no_outlines; laid_out = tt; compiled = refl }

pub one_made : (local : Option (ℕ × ℕ)) (ls : List Lowered) (ks kss : List Kernel) (os oss : List Outline) (l : Lowered) (k : Kernel) (o : Outline) → AreMadeOf local ls ks os → IsKernelOf local l k → o ≡ outline_in local (term_part l) → IsLaidOut l
    → CompilesTerm local (lowered_state l) (Ok (lowered_state l)) → kss ≡ ks ++ k ∷ [] → oss ≡ os ++ o ∷ [] → AreMadeOf local (ls ++ l ∷ []) kss oss
one_made local ls ks kss os oss l k o made kernel outline laid compiled more_kernels more_outlines =
    let more = map-append term_part ls (l ∷ []) in
    record {
      each = subst (AreKernelsOfEach local (ls ++ l ∷ [])) (sym more_kernels) (each_more local ls ks l k made.each kernel);
      outlined =
          more_outlines ∙ ap₂ (λ xs x. xs ++ x ∷ []) made.outlined outline
          ∙ sym (ap (map (outline_in local)) more ∙ map-append (outline_in local) (map term_part ls) (term_part l ∷ []));
      laid_out = every_more IsLaidOut ls l made.laid_out laid;
      compiled =
          subst (λ (xs : List Part). CompilesInTurn local xs (Ok tt)) (sym more)
          (in_turn_more local (map term_part ls) (term_part l ∷ []) (Ok tt) made.compiled (lowered_state l, compiled, refl));
    }

pub all_made : (local : Option (ℕ × ℕ)) (ls all : List Lowered) (ks : List Kernel) (os : List Outline) → map (λ (l : Lowered). l) ls ≡ all → AreMadeOf local ls ks os → AreMadeOf local all ks os
all_made local ls all ks os end made = subst (λ (xs : List Lowered). AreMadeOf local xs ks os) (sym (map-id ls) ∙ end) made
