-- The text of several kernels in order: their texts, one after another, by
-- the names lift0, lift1 and so on.
use Rattle.std.specs.Prelude.{◌≡◌, ℕ, zero, suc, ◌+◌, ◌<◌, ◌⊎◌, ◌↔◌, List, [], ◌∷◌, ◌++◌, decimal, length}
use Rattle.readings.specs.Readings.{Reads}
use Rattle.readings.specs.Exactly.{StopsAt}
use Rattle.kernel_tree.specs.Code.{Kernel}
use Rattle.kernel_tree.specs.Pieces.{ArePieces}
use Rattle.kernel_tree.specs.KernelText.{Piece, IsKernelText, all_of, kernels, lift, nothing, start}
use Rattle.kernel_spelling.specs.Spelling.{text_of}

-- the name of the k-th kernel of a sequence
abbrev pub name_of : ℕ → Piece
name_of k = lift ++ decimal k

-- the bytes are the texts of these kernels, the first of which is the k-th
abbrev pub AreTexts : (k : ℕ) → List ℕ → List Kernel → Type 0
AreTexts k bytes [] = bytes ≡ []
AreTexts k bytes (x ∷ xs) =
    (own rest : List ℕ) × (bytes ≡ own ++ rest) × IsKernelText (name_of k) own x
    × AreTexts (suc k) rest xs

-- the bytes are the text of these kernels in order, of which there is at least one
pub record IsSequenceText (bytes : List ℕ) (ks : List Kernel) : Type 0 where
  pub some : 0 < length ks
  pub texts : AreTexts 0 bytes ks

-- the one text of these kernels, the first of which is the k-th
abbrev pub texts_of : (k : ℕ) → List Kernel → List ℕ
texts_of k [] = []
texts_of k (x ∷ xs) = text_of (name_of k) x ++ texts_of (suc k) xs

-- ---- by pieces

-- these pieces are those of the k-th kernel, whole
abbrev pub IsWhole : (k : ℕ) → List Piece → Kernel → Type 0
IsWhole k own x = Reads kernels (start (name_of k)) nothing own [] (all_of x)

-- these pieces are those of the kernels one after another, the first of which is the k-th
abbrev pub AreWhole : (k : ℕ) → List Piece → List Kernel → Type 0
AreWhole k pieces [] = pieces ≡ []
AreWhole k pieces (x ∷ xs) =
    (own rest : List Piece) × (pieces ≡ own ++ rest) × IsWhole k own x × AreWhole (suc k) rest xs

-- ---- refusals

-- the text of the k-th kernel doesn't go on at the i-th of these pieces, and no kernel ends before
pub record StopsIn (k : ℕ) (pieces : List Piece) (i : ℕ) : Type 0 where
  -- behind a whole kernel a text may end
  pub comes : (k ≡ 0) ⊎ (0 < length pieces)
  pub stops : StopsAt kernels (start (name_of k)) nothing pieces i
  pub unended : (own rest : List Piece) (x : Kernel) → pieces ≡ own ++ rest → IsWhole k own x → ⊥

-- it doesn't behind so many whole kernels, of which the first is the k-th
abbrev pub StopsAfter : (whole k : ℕ) → List Piece → ℕ → Type 0
StopsAfter zero k pieces i = StopsIn k pieces i
StopsAfter (suc n) k pieces i =
    (own rest : List Piece) × (x : Kernel) × (j : ℕ) × (pieces ≡ own ++ rest) × IsWhole k own x
    × StopsAfter n (suc k) rest j × (i ≡ length own + j)

-- ---- laws

-- kernels in order have one text
abbrev pub SequencesHaveOneText : Type 0
SequencesHaveOneText =
    (bytes : List ℕ) (ks : List Kernel) → AreTexts 0 bytes ks → bytes ≡ texts_of 0 ks

-- a text is of one list of kernels
abbrev pub TextsAreOfOneSequence : Type 0
TextsAreOfOneSequence =
    (bytes : List ℕ) (ks ls : List Kernel) → IsSequenceText bytes ks → IsSequenceText bytes ls
    → ks ≡ ls

-- a text is of kernels exactly where its pieces are theirs, one kernel after another
abbrev pub TextsAreWhole : Type 0
TextsAreWhole =
    (bytes : List ℕ) (pieces : List Piece) (ks : List Kernel) → ArePieces bytes pieces
    → AreTexts 0 bytes ks ↔ AreWhole 0 pieces ks

-- pieces behind all those of a kernel are refused at the first of them, and nowhere else
abbrev pub FrontsAreRefusedBehind : Type 0
FrontsAreRefusedBehind =
    (name : Piece) (own rest : List Piece) (x : Kernel) (i : ℕ)
    → Reads kernels (start name) nothing own [] (all_of x) → 0 < length rest
    → StopsAt kernels (start name) nothing (own ++ rest) i → i ≡ length own

-- at the front of the same pieces stand those of one kernel of a name at most
abbrev pub FrontsAreOfOneKernel : Type 0
FrontsAreOfOneKernel =
    (name : Piece) (own other rest back : List Piece) (x y : Kernel)
    → Reads kernels (start name) nothing own [] (all_of x)
    → Reads kernels (start name) nothing other [] (all_of y)
    → own ++ rest ≡ other ++ back → (own ≡ other) × (x ≡ y)
