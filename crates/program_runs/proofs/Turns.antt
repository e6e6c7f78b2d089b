-- The runs of a sequence so far, and what is known of the next.
use Rattle.std.proofs.Common.{◌≡◌, ◌∙◌, ◌+◌, ◌<◌, ◌≤◌, ℕ, zero, suc, true, List, [], ◌∷◌, ◌++◌, length, map, drop, take, Option, Some, refl, sym, ap, arith, subst, append-nil}
use Rattle.std.specs.Prelude.{get_or, slice_get, sum_by}
use Rattle.std.specs.List.{enumerate_from}
use Rattle.std.proofs.lemmas.List.{drop_all, length-map, map-append, take_all}
use Rattle.std.proofs.lemmas.Option.{same_Some}
use Rattle.std.proofs.lemmas.List.Sums.{sum_by-append}
use Rattle.std.proofs.Props.{props}
use Rattle.std.proofs.Math.Logic.{∥∥₁_elim}
use Rattle.kernel_spelling.specs.SequenceText.{IsSequenceText, TextsAreOfOneSequence}
use Rattle.kernel_tree.specs.declared.events.FaultKind.{FaultKind}
use Rattle.kernel_tree.specs.declared.events.Cell as shown
use Rattle.kernel_tree.specs.Code.{Kernel}
use Rattle.kernel_tree.specs.Grammar.{is_kernel}
use Rattle.kernel_tree.specs.Launch.{Cells, Launch, MayStart}
use Rattle.kernel_tree.specs.Schedule.{Schedule}
use Rattle.lift_tree.specs.Annotations.{type_in}
use Rattle.lift_tree.specs.Launches.{IsAdmissibleLaunch, buffers_of, lists_of}
use Rattle.lift_tree.specs.Lists.{Every}
use Rattle.lift_tree.specs.Meaning.{World}
use Rattle.lift_tree.proofs.EveryAt.{every_at}
use Rattle.lift_tree.specs.Programs.{PlainProgram}
use Rattle.lift_tree.specs.Types.{HasType, PlainTy}
use Rattle.lift_tree.specs.Values.{Value}
use Rattle.lift_tree.specs.Typing.{ValuesHaveTypes, declared_by}
use Rattle.size_arith.specs.declared.names.Name.{Name}
use Rattle.size_arith.specs.Ranges.{sizes_at}
use Rattle.lowered_tree.specs.Kinds.{asks_of}
use Rattle.ndrange_device.specs.Outcomes.{EndsUnder, FaultsUnder, capped}
use Rattle.sequence_runs.specs.Runs.{Stage}
use Rattle.value_lists.specs.Laws.{ListsHoldOneValue}
use Rattle.value_lists.specs.Lists.{IsSmall, value_in}
use Rattle.program_runs.proofs.LaidOut.{small_once}
use Rattle.launch_file.specs.ResultLine.{result_line}
use Rattle.launch_file.specs.Stages.{Count, GivenInOrder}
use Rattle.program_source.specs.Program.{source_value}
use Rattle.compilation.specs.Meets.{CanBeLaidOut}
use Rattle.compilation.specs.Sequence.{IsSequenceFor, Outline, outline_in, part_of}
use Rattle.program_runs.specs.Sequences.{AreAdmissibleFor, AreAdmissibleLaunches, AreRunInTurn, KernelRun, RunInTurn, begun_from, launch_at, world_in}
use Rattle.program_runs.proofs.Running.{start_once}
use Rattle.program_runs.proofs.InOrder.{InputsStay, KeepOn, clean_next, keeps_next, left_at_last, starts_next}

-- ---- members of lists

-- a member of a list, of those that are made of the others
made_at : {A B : Type 0} (f : A → B) (xs : List A) (ys : List B) (n : ℕ) (y : B) → map f xs ≡ ys → slice_get ys n ≡ Some y → (x : A) × (slice_get xs n ≡ Some x) × (f x ≡ y)
made_at f [] [] n y e at = absurd (cc)
made_at f [] (z ∷ ys) n y e at = absurd (cc)
made_at f (x ∷ xs) [] n y e at = absurd (cc)
made_at f (x ∷ xs) (z ∷ ys) zero y e at = (x, refl, cc)
made_at f (x ∷ xs) (z ∷ ys) (suc n) y e at = made_at f xs ys n y (cc) at

pub mapped_at : {A B : Type 0} (f : A → B) (xs : List A) (ys : List B) (n : ℕ) (x : A) → map f xs ≡ ys → slice_get xs n ≡ Some x → slice_get ys n ≡ Some (f x)
mapped_at f [] ys n x e at = absurd (cc)
mapped_at f (z ∷ xs) [] n x e at = absurd (cc)
mapped_at f (z ∷ xs) (y ∷ ys) zero x e at = let same : z ≡ x = cc in let here : f z ≡ y = cc in ap Some (sym here ∙ ap f same)
mapped_at f (z ∷ xs) (y ∷ ys) (suc n) x e at = mapped_at f xs ys n x (cc) at

dropped_at : {A : Type 0} (xs : List A) (n : ℕ) (x : A) → slice_get xs n ≡ Some x → drop n xs ≡ x ∷ drop (suc n) xs
dropped_at [] n x at = absurd (cc)
dropped_at (y ∷ xs) zero x at = ap (λ z. z ∷ xs) (cc)
dropped_at (y ∷ xs) (suc n) x at = dropped_at xs n x at

taken_at : {A : Type 0} (xs : List A) (n : ℕ) (x : A) → slice_get xs n ≡ Some x → take (suc n) xs ≡ take n xs ++ x ∷ []
taken_at [] n x at = absurd (cc)
taken_at (y ∷ xs) zero x at = ap (λ z. z ∷ []) (cc)
taken_at (y ∷ xs) (suc n) x at = ap (λ zs. y ∷ zs) (taken_at xs n x at)

launched_at : (p : PlainProgram) (bases : List ℕ) (os : List Outline) (cs : List Count) (n : ℕ) (o : Outline) (c : Count) → AreAdmissibleLaunches p bases os cs → slice_get os n ≡ Some o → slice_get cs n ≡ Some c → IsAdmissibleLaunch (declared_by p).names o.asks bases c.global c.local
launched_at p bases [] cs n o c h at with = absurd (cc)
launched_at p bases (x ∷ os) [] n o c h at with = absurd h
launched_at p bases (x ∷ os) (y ∷ cs) zero o c h at with =
    let same : x ≡ o = cc in
    let given : y ≡ c = cc in
    subst (λ (z : Count). IsAdmissibleLaunch (declared_by p).names o.asks bases z.global z.local) given (subst (λ (z : Outline). IsAdmissibleLaunch (declared_by p).names z.asks bases y.global y.local) same h.0)
launched_at p bases (x ∷ os) (y ∷ cs) (suc n) o c h at with = launched_at p bases os cs n o c h.1 at with

pub got : {A : Type 0} (xs : List A) (i n : ℕ) (x : A) → i ≡ n → n < length xs → x ≡ get_or xs i x → slice_get xs n ≡ Some x
got xs i n x same lt is = there xs n lt (is ∙ ap (λ (k : ℕ). get_or xs k x) same)
  where
    there : {A : Type 0} (ys : List A) (k : ℕ) {y : A} → k < length ys → y ≡ get_or ys k y → slice_get ys k ≡ Some y
    there [] k lt is = absurd (omega (arith, lt))
    there (y ∷ ys) zero lt is = ap Some (sym is)
    there (y ∷ ys) (suc k) lt is = there ys k (omega (arith, lt)) is

-- what an iteration over numbered members is at
pub numbered_at : {A : Type 0} (xs : List A) (m n i : ℕ) (x : A) → n < length (enumerate_from m xs) → (i, x) ≡ get_or (enumerate_from m xs) n (i, x) → (i ≡ m + n) × (n < length xs) × (slice_get xs n ≡ Some x)
numbered_at [] m n i x lt is = absurd (omega (arith, lt))
numbered_at (y ∷ xs) m zero i x lt is =
    let number : i ≡ m = ap (λ q. q.0) is in
    let member : x ≡ y = ap (λ q. q.1) is in
    (omega (arith, number), omega arith, ap Some (sym member))
numbered_at (y ∷ xs) m (suc n) i x lt is =
    let rest = numbered_at xs (m + 1) n i x (omega (arith, lt)) is in
    let number = rest.0 in
    let less = rest.1 in
    (omega (arith, number), omega (arith, less), rest.2)

pub numbered_length : {A : Type 0} (m : ℕ) (xs : List A) → length (enumerate_from m xs) ≡ length xs
numbered_length m [] = refl
numbered_length m (x ∷ xs) = let e = numbered_length (m + 1) xs in omega (arith, e)

-- ---- the runs so far

-- what buffers hold behind the runs
abbrev behind : List (List ℕ) → List KernelRun → List (List ℕ)
behind ins [] = ins
behind ins (r ∷ rs) = behind (ins ++ r.left) rs

behind_more : (ins : List (List ℕ)) (rs : List KernelRun) (r : KernelRun) → behind ins (rs ++ r ∷ []) ≡ behind ins rs ++ r.left
behind_more ins [] r = refl
behind_more ins (x ∷ rs) r = behind_more (ins ++ x.left) rs r

runs_more : (schedule : Schedule) (bases : List ℕ) (ins : List (List ℕ)) (rs : List KernelRun) (r : KernelRun) → RunInTurn schedule bases ins rs → EndsUnder schedule r.kernel r.launch (begun_from (behind ins rs) bases r.output) r.left r.events r.releases → RunInTurn schedule bases ins (rs ++ r ∷ [])
runs_more schedule bases ins [] r h e = (e, tt)
runs_more schedule bases ins (x ∷ rs) r h e = (h.0, runs_more schedule bases (ins ++ x.left) rs r h.1 e)

sum_more : (f : KernelRun → ℕ) (rs : List KernelRun) (r : KernelRun) → sum_by f (rs ++ r ∷ []) ≡ sum_by f rs + f r
sum_more f rs r = let e = sum_by-append f rs (r ∷ []) in let one : sum_by f (r ∷ []) ≡ f r = omega arith in omega (arith, e, one)

capped_more : (a b c s : ℕ) → a ≡ capped b → s ≡ b + c → capped (a + c) ≡ capped s
capped_more a b c s first all = omega (arith, first, all)

module _ (p : PlainProgram) (output : PlainTy) (outlines : List Outline) (text : List ℕ) (g : GivenInOrder) (xs : List Kernel) (first : List (List ℕ)) where
  -- the world of all
  abbrev w : World
  w = world_in g.shared

  -- so many kernels were run; the last of them left this behind what was there before it
  pub record SoFar (n : ℕ) (ins left : List (List ℕ)) (events releases : ℕ) : Type 0 where
    pub run : AreRunInTurn g.shared first (take n xs) (take n outlines) (take n g.counts) events releases
    pub there : behind first run.runs ≡ ins ++ left
    pub keep : (t : IsSequenceFor p output outlines text) → KeepOn t.local g.shared.bases output (source_value p w) (drop n t.kernels) (ins ++ left)
    pub last : 0 < n → length xs ≤ n → left ≡ lists_of output (source_value p w)

  -- the same at equal things
  pub so_far_as : (n m : ℕ) (a b u v : List (List ℕ)) (e f r q : ℕ) → n ≡ m → a ≡ b → u ≡ v → e ≡ f → r ≡ q → SoFar n a u e r → SoFar m b v f q
  so_far_as n m a b u v e f r q number ins left events releases s =
      subst (λ (z : ℕ). SoFar m b v f z) releases (subst (λ (z : ℕ). SoFar m b v z r) events (subst (λ (z : List (List ℕ)). SoFar m b z e r) left (subst (λ (z : List (List ℕ)). SoFar m z u e r) ins (subst (λ (z : ℕ). SoFar z a u e r) number s))))

  -- what is known of the next
  pub record Next (n : ℕ) (x : Kernel) (o : Outline) (c : Count) (ins left : List (List ℕ)) (events releases : ℕ) : Type 0 where
    pub small : IsSmall g.shared.bases 1 o.output
    pub starts : MayStart x (launch_at g.shared.sizes c) (begun_from (ins ++ left) g.shared.bases o.output)
    pub clean : (kind : FaultKind) (event item : ℕ) (cell : Option shown.Cell) → FaultsUnder g.shared.schedule x (launch_at g.shared.sizes c) (begun_from (ins ++ left) g.shared.bases o.output) kind event item cell → ⊥
    pub then : InputsStay → is_kernel x ≡ true → (rows : List (List ℕ)) (more freed : ℕ) → EndsUnder g.shared.schedule x (launch_at g.shared.sizes c) (begun_from (ins ++ left) g.shared.bases o.output) rows more freed
        → SoFar (suc n) (ins ++ left) rows (capped (events + more)) (capped (releases + freed))

  -- ---- counts of kernels

  as_many_launches : (bases : List ℕ) (os : List Outline) (cs : List Count) → AreAdmissibleLaunches p bases os cs → length cs ≡ length os
  as_many_launches bases [] [] h = refl
  as_many_launches bases [] (c ∷ cs) h = absurd h
  as_many_launches bases (o ∷ os) [] h = absurd h
  as_many_launches bases (o ∷ os) (c ∷ cs) h = let e = as_many_launches bases os cs h.1 in omega (arith, e)

  module _ (one : TextsAreOfOneSequence) (read : IsSequenceText text xs) (ok : AreAdmissibleFor p outlines g) where
    module _ (t : IsSequenceFor p output outlines text) where
      kernels_are : map (λ (k : Stage). k.kernel) t.kernels ≡ xs
      kernels_are = one text (map (λ (k : Stage). k.kernel) t.kernels) xs t.written read

      as_many_kernels : length t.kernels ≡ length xs
      as_many_kernels = sym (length-map t.kernels (λ (k : Stage). k.kernel)) ∙ ap length kernels_are

      as_many_outlines : length outlines ≡ length xs
      as_many_outlines = sym (ap length t.outlined) ∙ length-map t.kernels (λ (k : Stage). outline_in t.local (part_of k)) ∙ as_many_kernels

    module _ (bars : ∥ IsSequenceFor p output outlines text ∥₁) where
      pub outlines_count : length outlines ≡ length xs
      outlines_count = ∥∥₁_elim bars (Prim.hlevel props) as_many_outlines

      pub launches_count : length g.counts ≡ length xs
      launches_count = as_many_launches g.shared.bases outlines g.counts ok.launches ∙ outlines_count

      -- before the first
      pub none_so_far : first ≡ buffers_of (declared_by p).inputs g.shared.inputs → SoFar 0 first [] 0 0
      none_so_far is = record {
        run = record { runs = []; of_kernels = refl; of_outputs = refl; of_launches = refl; run = tt; counted = refl; released = refl };
        there = sym (append-nil first);
        keep = λ t. subst (KeepOn t.local g.shared.bases output (source_value p w) t.kernels) (sym is ∙ sym (append-nil first)) (λ rs begins runs. t.keep w rs ok.world begins runs);
        last = λ some. absurd (omega (arith, some));
      }

      -- after the last
      pub all_so_far : (n : ℕ) (ins left : List (List ℕ)) (events releases : ℕ) → n ≡ length xs → SoFar n ins left events releases → AreRunInTurn g.shared first xs outlines g.counts events releases
      all_so_far n ins left events releases all s =
          let a = outlines_count in
          let b = launches_count in
          let x : take n xs ≡ xs = take_all n xs (omega (arith, all)) in
          let o : take n outlines ≡ outlines = take_all n outlines (omega (arith, all, a)) in
          let l : take n g.counts ≡ g.counts = take_all n g.counts (omega (arith, all, b)) in
          subst (λ z. AreRunInTurn g.shared first xs outlines z events releases) l (subst (λ z. AreRunInTurn g.shared first xs z (take n g.counts) events releases) o (subst (λ z. AreRunInTurn g.shared first z (take n outlines) (take n g.counts) events releases) x s.run))

      -- the next
      module _ (n : ℕ) (x : Kernel) (o : Outline) (c : Count) (at_x : slice_get xs n ≡ Some x) (at_o : slice_get outlines n ≡ Some o) (at_c : slice_get g.counts n ≡ Some c) (ins left : List (List ℕ)) (events releases : ℕ) (s : SoFar n ins left events releases) where
        abbrev l : Launch
        l = launch_at g.shared.sizes c

        its : IsAdmissibleLaunch (declared_by p).names o.asks g.shared.bases c.global c.local
        its = launched_at p g.shared.bases outlines g.counts n o c ok.launches at_o at_c

        module _ (t : IsSequenceFor p output outlines text) where
          own : (k : Stage) × (slice_get t.kernels n ≡ Some k) × (k.kernel ≡ x)
          own = made_at (λ (k : Stage). k.kernel) t.kernels xs n x (kernels_are t) at_x

          outline_is : outline_in t.local (part_of own.0) ≡ o
          outline_is =
              let here = mapped_at (λ (k : Stage). outline_in t.local (part_of k)) t.kernels outlines n own.0 t.outlined own.1 in
              same_Some (outline_in t.local (part_of own.0)) o (sym here ∙ at_o)

          names_are : own.0.declared.names ≡ (declared_by p).names
          names_are = every_at (λ (k : Stage). k.declared.names ≡ (declared_by p).names) t.kernels n own.0 t.names own.1

          launch_is : IsAdmissibleLaunch own.0.declared.names (asks_of t.local own.0.tree) g.shared.bases c.global c.local
          launch_is =
              subst (λ (z : Outline). IsAdmissibleLaunch own.0.declared.names z.asks g.shared.bases c.global c.local) (sym outline_is)
              (subst (λ (z : List Name). IsAdmissibleLaunch z o.asks g.shared.bases c.global c.local) (sym names_are) its)

          sizes_are : g.shared.sizes ≡ sizes_at own.0.declared.names g.shared.bases
          sizes_are = ok.world.sizes ∙ ap (λ (z : List Name). sizes_at z g.shared.bases) (sym names_are)

          keep_here : KeepOn t.local g.shared.bases output (source_value p w) (own.0 ∷ drop (suc n) t.kernels) (ins ++ left)
          keep_here = subst (λ (z : List Stage). KeepOn t.local g.shared.bases output (source_value p w) z (ins ++ left)) (dropped_at t.kernels n own.0 own.1) (s.keep t)

          cells_are : begun_from (ins ++ left) g.shared.bases (type_in own.0.types) ≡ begun_from (ins ++ left) g.shared.bases o.output
          cells_are = ap (λ (z : Outline). begun_from (ins ++ left) g.shared.bases z.output) outline_is

          starts_so : MayStart x l (begun_from (ins ++ left) g.shared.bases o.output)
          starts_so = subst (λ (z : Cells). MayStart x l z) cells_are
              (subst (λ (k : Kernel). MayStart k l (begun_from (ins ++ left) g.shared.bases (type_in own.0.types))) own.2
              (starts_next t.local g.shared.bases output (source_value p w) own.0 (drop (suc n) t.kernels) (ins ++ left) keep_here l launch_is sizes_are))

          clean_so : (schedule : Schedule) (kind : FaultKind) (event item : ℕ) (cell : Option shown.Cell) → FaultsUnder schedule x l (begun_from (ins ++ left) g.shared.bases o.output) kind event item cell → ⊥
          clean_so = subst (λ (z : Cells). (schedule : Schedule) (kind : FaultKind) (event item : ℕ) (cell : Option shown.Cell) → FaultsUnder schedule x l z kind event item cell → ⊥) cells_are
              (subst (λ (k : Kernel). (schedule : Schedule) (kind : FaultKind) (event item : ℕ) (cell : Option shown.Cell) → FaultsUnder schedule k l (begun_from (ins ++ left) g.shared.bases (type_in own.0.types)) kind event item cell → ⊥) own.2
              (clean_next t.local g.shared.bases output (source_value p w) own.0 (drop (suc n) t.kernels) (ins ++ left) keep_here l launch_is sizes_are))

          module _ (rows : List (List ℕ)) (more freed : ℕ) (e : EndsUnder g.shared.schedule x l (begun_from (ins ++ left) g.shared.bases o.output) rows more freed) where
            ends : EndsUnder g.shared.schedule own.0.kernel l (begun_from (ins ++ left) g.shared.bases (type_in own.0.types)) rows more freed
            ends = subst (λ (k : Kernel). EndsUnder g.shared.schedule k l (begun_from (ins ++ left) g.shared.bases (type_in own.0.types)) rows more freed) (sym own.2)
                (subst (λ (z : Cells). EndsUnder g.shared.schedule x l z rows more freed) (sym cells_are) e)

            keep_then : InputsStay → is_kernel x ≡ true → KeepOn t.local g.shared.bases output (source_value p w) (drop (suc n) t.kernels) ((ins ++ left) ++ rows)
            keep_then stay grammar =
                keeps_next t.local g.shared.bases output (source_value p w) own.0 (drop (suc n) t.kernels) (ins ++ left) keep_here l launch_is sizes_are g.shared.schedule rows more freed ends stay
                (ap is_kernel own.2 ∙ grammar)

            last_then : length xs ≤ suc n → rows ≡ lists_of output (source_value p w)
            last_then whole =
                let e = as_many_kernels t in
                left_at_last t.local g.shared.bases output (source_value p w) own.0 (drop (suc n) t.kernels) (ins ++ left) keep_here l launch_is sizes_are g.shared.schedule rows more freed ends
                (drop_all (suc n) t.kernels (omega (arith, e, whole)))

        next_starts : MayStart x l (begun_from (ins ++ left) g.shared.bases o.output)
        next_starts = ∥∥₁_elim bars (start_once x l (begun_from (ins ++ left) g.shared.bases o.output)) starts_so

        next_is_clean : (kind : FaultKind) (event item : ℕ) (cell : Option shown.Cell) → FaultsUnder g.shared.schedule x l (begun_from (ins ++ left) g.shared.bases o.output) kind event item cell → ⊥
        next_is_clean kind event item cell f = ∥∥₁_elim bars (Prim.hlevel props) (λ t. clean_so t g.shared.schedule kind event item cell f)

        next_so_far : InputsStay → is_kernel x ≡ true → (rows : List (List ℕ)) (more freed : ℕ) → EndsUnder g.shared.schedule x l (begun_from (ins ++ left) g.shared.bases o.output) rows more freed
            → SoFar (suc n) (ins ++ left) rows (capped (events + more)) (capped (releases + freed))
        next_so_far stay grammar rows more freed e =
            let r : KernelRun = record { kernel = x; output = o.output; launch = l; left = rows; events = more; releases = freed } in
            let runs = s.run.runs in
            let here : EndsUnder g.shared.schedule x l (begun_from (behind first runs) g.shared.bases o.output) rows more freed = subst (λ (z : List (List ℕ)). EndsUnder g.shared.schedule x l (begun_from z g.shared.bases o.output) rows more freed) (sym s.there) e in
            record {
              run = record {
                runs = runs ++ r ∷ [];
                of_kernels = map-append (λ (q : KernelRun). q.kernel) runs (r ∷ []) ∙ ap (λ (z : List Kernel). z ++ x ∷ []) s.run.of_kernels ∙ sym (taken_at xs n x at_x);
                of_outputs =
                    map-append (λ (q : KernelRun). q.output) runs (r ∷ []) ∙ ap (λ (z : List PlainTy). z ++ o.output ∷ []) s.run.of_outputs
                    ∙ sym (map-append (λ (z : Outline). z.output) (take n outlines) (o ∷ [])) ∙ ap (map (λ (z : Outline). z.output)) (sym (taken_at outlines n o at_o));
                of_launches =
                    map-append (λ (q : KernelRun). q.launch) runs (r ∷ []) ∙ ap (λ (z : List Launch). z ++ l ∷ []) s.run.of_launches
                    ∙ sym (map-append (launch_at g.shared.sizes) (take n g.counts) (c ∷ [])) ∙ ap (map (launch_at g.shared.sizes)) (sym (taken_at g.counts n c at_c));
                run = runs_more g.shared.schedule g.shared.bases first runs r s.run.run here;
                counted = capped_more events (sum_by (λ (q : KernelRun). q.events) runs) more _ s.run.counted (sum_more (λ (q : KernelRun). q.events) runs r);
                released = capped_more releases (sum_by (λ (q : KernelRun). q.releases) runs) freed _ s.run.released (sum_more (λ (q : KernelRun). q.releases) runs r);
              };
              there = behind_more first runs r ∙ ap (λ (z : List (List ℕ)). z ++ rows) s.there;
              keep = λ t. keep_then t rows more freed e stay grammar;
              last = λ some whole. ∥∥₁_elim bars (Prim.hlevel props) (λ t. last_then t rows more freed e whole);
            }

        laid_out : IsSequenceFor p output outlines text → CanBeLaidOut (declared_by p).names o.output
        laid_out t = every_at (λ (z : Outline). CanBeLaidOut (declared_by p).names z.output) outlines n o t.laid_out at_o

        pub next : Next n x o c ins left events releases
        next = record {
          small = ∥∥₁_elim bars (small_once g.shared.bases 1 o.output) (λ t. (laid_out t).small g.shared.bases its.sizes);
          starts = next_starts;
          clean = next_is_clean;
          then = next_so_far;
        }

      -- ---- the value that the last leaves

      every_last : (P : Outline → Type 0) (front : List Outline) (o : Outline) → Every P (front ++ o ∷ []) → P o
      every_last P [] o h = h.0
      every_last P (z ∷ front) o h = every_last P front o h.1

      output_laid_out : IsSequenceFor p output outlines text → CanBeLaidOut (declared_by p).names output
      output_laid_out t =
          subst (λ (a : PlainTy). CanBeLaidOut (declared_by p).names a) t.last.3
          (every_last (λ (z : Outline). CanBeLaidOut (declared_by p).names z.output) t.last.0 t.last.1 (subst (Every (λ (z : Outline). CanBeLaidOut (declared_by p).names z.output)) t.last.2 t.laid_out))

      pub output_small : IsSmall g.shared.bases 1 output
      output_small = ∥∥₁_elim bars (small_once g.shared.bases 1 output) (λ t. (output_laid_out t).small g.shared.bases ok.world.bases)

      -- the line of what is read from these lists is the value's
      pub value_told : ListsHoldOneValue → ValuesHaveTypes → (rows : List (List ℕ)) (counts : Option (ℕ × ℕ)) → rows ≡ lists_of output (source_value p w)
          → result_line (value_in g.shared.bases output rows 0 0) counts ≡ result_line (source_value p w) counts
      value_told law types rows counts left = ∥∥₁_elim bars (Prim.hlevel props) (λ t.
          let typed : HasType g.shared.bases output (source_value p w) = types (declared_by p) w [] [] p.body output t.typed.declared ok.world tt (λ n a e. absurd (cc (e))) t.typed.typed in
          let same : value_in g.shared.bases output rows 0 0 ≡ source_value p w =
          ap (λ (ls : List (List ℕ)). value_in g.shared.bases output ls 0 0) left ∙ law g.shared.bases output (source_value p w) (output_laid_out t).elements typed in
          ap (λ (z : Value). result_line z counts) same)
