-- The next of the kernels that are read back, with its outline and its launch, where the runs so far
-- are those of the kernels before it.
use Rattle.std.proofs.Common.{◌≡◌, ◌+◌, ◌<◌, ℕ, zero, suc, List, [], ◌∷◌, Some, arith, length, map, refl, subst}
use Rattle.std.specs.Prelude.{get_or, slice_get}
use Rattle.std.specs.List.{enumerate_from}
use Rattle.std.proofs.lemmas.List.{length-map}
use Rattle.kernel_spelling.specs.SequenceText.{IsSequenceText, TextsAreOfOneSequence}
use Rattle.kernel_tree.specs.Kernels.{kernel_of}
use Rattle.kernel_tree.specs.declared.tree.Kernel.{Kernel}
use Rattle.lift_tree.specs.Programs.{PlainProgram}
use Rattle.lift_tree.specs.Types.{PlainTy}
use Rattle.launch_file.specs.Stages.{GivenInOrder, Shared}
use Rattle.launch_file.specs.StagesShown.{count_of}
use Rattle.launch_file.specs.declared.stages.Count as held
use Rattle.compilation.specs.Sequence.{IsSequenceFor, outline_of}
use Rattle.compilation.specs.declared.sequence.KernelOutline.{KernelOutline}
use Rattle.program_runs.specs.Sequences.{AreAdmissibleFor}
use Rattle.program_runs.proofs.Turns.{Next, SoFar, got, launches_count, mapped_at, next, numbered_at, outlines_count}

-- what is read where a list has no such number
abbrev pub none : held.Count
none = record { global = (0, 0); local = (0, 0) }

-- the count of this number, as it is read
abbrev pub count_at : List held.Count → ℕ → held.Count
count_at counts i = get_or counts i none

read_again : (counts : List held.Count) (i : ℕ) (d : held.Count) → get_or counts i d ≡ get_or counts i (get_or counts i d)
read_again [] i d = refl
read_again (c ∷ cs) zero d = refl
read_again (c ∷ cs) (suc i) d = read_again cs i d

module _ (p : PlainProgram) (output : PlainTy) (outlines : List KernelOutline) (text : List ℕ) (s : Shared) (counts : List held.Count) (kernels : List Kernel) (first : List (List ℕ))
    (one : TextsAreOfOneSequence) (read : IsSequenceText text (map kernel_of kernels)) (ok : AreAdmissibleFor p (map outline_of outlines) (record { shared = s; counts = map count_of counts })) (bars : ∥ IsSequenceFor p output (map outline_of outlines) text ∥₁) where
  abbrev given : GivenInOrder
  given = record { shared = s; counts = map count_of counts }

  -- it is the n-th, and its number is i
  module _ (n i : ℕ) (x : Kernel) (more : n < length (enumerate_from 0 kernels)) (at : (i, x) ≡ get_or (enumerate_from 0 kernels) n (i, x)) where
    here : (i ≡ 0 + n) × (n < length kernels) × (slice_get kernels n ≡ Some x)
    here = numbered_at kernels 0 n i x more at

    same : i ≡ n
    same = let number = here.0 in omega (arith, number)

    pub has_count : i < length counts
    has_count =
        let number = here.0 in
        let less = here.1 in
        let many = launches_count p output (map outline_of outlines) text given (map kernel_of kernels) first one read ok bars in
        let a = length-map counts count_of in
        let b = length-map kernels kernel_of in
        omega (arith, number, less, many, a, b)

    pub has_outline : i < length outlines
    has_outline =
        let number = here.0 in
        let less = here.1 in
        let many = outlines_count p output (map outline_of outlines) text given (map kernel_of kernels) first one read ok bars in
        let a = length-map outlines outline_of in
        let b = length-map kernels kernel_of in
        omega (arith, number, less, many, a, b)

    pub next_kernel : (o : KernelOutline) → o ≡ get_or outlines i o → (ins left : List (List ℕ)) (events releases : ℕ)
        → SoFar p output (map outline_of outlines) text given (map kernel_of kernels) first n ins left events releases
        → Next p output (map outline_of outlines) text given (map kernel_of kernels) first n (kernel_of x) (outline_of o) (count_of (count_at counts i)) ins left events releases
    next_kernel o at_o =
        let c = count_at counts i in
        let at_c = read_again counts i none in
        next p output (map outline_of outlines) text given (map kernel_of kernels) first one read ok bars n (kernel_of x) (outline_of o) (count_of c)
        (mapped_at kernel_of kernels (map kernel_of kernels) n x refl here.2)
        (mapped_at outline_of outlines (map outline_of outlines) n o refl (got outlines i n o same (subst (λ k. k < length outlines) same has_outline) at_o))
        (mapped_at count_of counts (map count_of counts) n c refl (got counts i n c same (subst (λ k. k < length counts) same has_count) at_c))
