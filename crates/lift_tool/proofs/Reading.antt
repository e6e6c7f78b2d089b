-- Files that are read one after another.
use Rattle.std.proofs.Common.{◌≡◌, ◌∙◌, ◌<◌, ◌≤◌, ℕ, List, [], ◌∷◌, ◌++◌, ◌+◌, append-nil, arith, inl, inr, length, refl, subst, sym, Option, Some, None, Result, Ok, Err}
use Rattle.std.specs.Prelude.{IfErr, IfSome}
use Rattle.std.specs.Result.{IsErrAnd}
use Rattle.std.proofs.Math.Seq.{take-append-add}
use Rattle.lift_io.specs.Asked.{Asks, asks-append}
use Rattle.lift_io.specs.Causes.{Rose}
use Rattle.fault_lines.specs.Failure.{Failure, Read, TooLong}
use Rattle.fault_lines.specs.Shown.{failure_of}
use Rattle.fault_lines.specs.declared.failure.Failure as code
use Rattle.lift_tool.specs.Files.{AreTexts, AreUnreadFor, AsksFirst, File, HasText, IsUnread, Told}

-- a count that rose later rose
rose_before : (a b c : ℕ) → a ≤ b → Rose b c → Rose a c
rose_before a b c less rose = grind (arith, less, rose)

-- between two moments the count of a name rose
abbrev pub rose_between : (before after : List ℕ → ℕ) → List ℕ → Type 0
rose_between before after name = Rose (before name) (after name)

-- nothing was asked
pub asks_none : (a : Option (List File)) → Asks a a []
asks_none None = tt
asks_none (Some files) = sym (append-nil files)

-- what holds of a failure that is handed on
pub handed_on : {V : Type 0} (P : Failure → Type 0) (r : Result V code.Failure) (e : code.Failure) → IsErrAnd r (λ x. x ≡ e) → P (failure_of e) → IfErr r (λ x. P (failure_of x))
handed_on P (Ok v) e same h = tt
handed_on P (Err x) e same h = subst (λ y. P (failure_of y)) (sym same) h

-- ---- one file

-- what was told later was told
text_before : (told later : Told) (file : File) (text : List ℕ) → ((n : List ℕ) → later n ≡ told n) → HasText later file text → HasText told file text
text_before told later file text same has = (subst (λ (o : Option (List ℕ)). IfSome o (λ t. text ≡ t)) (same file.0) has.0, has.1)

unread_before : (told later : Told) (rose rose_later : List ℕ → Type 0) (file : File) (f : Failure) → ((n : List ℕ) → later n ≡ told n) → ((n : List ℕ) → rose_later n → rose n)
    → IsUnread later rose_later file f → IsUnread told rose file f
unread_before told later rose rose_later file (Read n) same more h = (h.0, more file.0 h.1)
unread_before told later rose rose_later file (TooLong n) same more h = (h.0, subst (λ (o : Option (List ℕ)). IfSome o (λ t. file.1 < length t)) (same file.0) h.1)
unread_before told later rose rose_later file _ same more h = h

-- the first of files isn't read, in a read that began later
began_later : (told later : Told) (rose rose_later : List ℕ → Type 0) (file : File) (rest : List File) (f : Failure) → ((n : List ℕ) → later n ≡ told n) → ((n : List ℕ) → rose_later n → rose n)
    → AreUnreadFor later rose_later (file ∷ []) f → AreUnreadFor told rose (file ∷ rest) f
began_later told later rose rose_later file rest f same more (inl memory) = inl memory
began_later told later rose rose_later file rest f same more (inr (inl h)) = inr (inl (unread_before told later rose rose_later file f same more h))
began_later told later rose rose_later file rest f same more (inr (inr (text, has, h))) = absurd h

-- ---- files in order

-- between two moments these files were read: they may have these texts, and no others were asked
-- for
pub record AreRead (told told_now : Told) (faults faults_now : List ℕ → ℕ) (asked asked_now : Option (List File)) (files : List File) (texts : List (List ℕ)) : Type 0 where
  pub held : AreTexts told files texts
  pub same : (n : List ℕ) → told_now n ≡ told n
  pub later : (n : List ℕ) → faults n ≤ faults_now n
  pub asks : Asks asked asked_now files

pub none_read : (told : Told) (faults : List ℕ → ℕ) (asked : Option (List File)) → AreRead told told faults faults asked asked [] []
none_read told faults asked = record { held = tt; same = λ n. refl; later = λ n. omega arith; asks = asks_none asked }

one_more : (told : Told) (files : List File) (texts : List (List ℕ)) (file : File) (text : List ℕ) → AreTexts told files texts → HasText told file text → AreTexts told (files ++ file ∷ []) (texts ++ text ∷ [])
one_more told [] [] file text are has = (has, tt)
one_more told [] (t ∷ ts) file text are has = absurd are
one_more told (f ∷ fs) [] file text are has = absurd are
one_more told (f ∷ fs) (t ∷ ts) file text are has = (are.0, one_more told fs ts file text are.1 has)

-- those before were read, and a later one isn't
unread_behind : (told : Told) (rose : List ℕ → Type 0) (files rest : List File) (texts : List (List ℕ)) (f : Failure) → AreTexts told files texts → AreUnreadFor told rose rest f → AreUnreadFor told rose (files ++ rest) f
unread_behind told rose files rest texts f are (inl memory) = inl memory
unread_behind told rose [] rest [] f are (inr h) = inr h
unread_behind told rose [] rest (t ∷ ts) f are (inr h) = absurd are
unread_behind told rose (file ∷ files) rest [] f are (inr h) = absurd are
unread_behind told rose (file ∷ files) rest (t ∷ ts) f are (inr h) = elim (unread_behind told rose files rest ts f are.1 (inr h)) [
  | inl memory ↦ inl memory
  | inr stops ↦ inr (inr (t, are.0, stops))
]

module _ (told middle told_now : Told) (faults count faults_now : List ℕ → ℕ) (asked between asked_now : Option (List File)) (files : List File) (texts : List (List ℕ)) (file : File)
    (read : AreRead told middle faults count asked between files texts) (asks : Asks between asked_now (file ∷ [])) where
  -- the next one was read
  pub more_read : (text : List ℕ) → HasText middle file text → ((n : List ℕ) → told_now n ≡ middle n) → ((n : List ℕ) → count n ≤ faults_now n)
      → AreRead told told_now faults faults_now asked asked_now (files ++ file ∷ []) (texts ++ text ∷ [])
  more_read text has same later = record {
    held = one_more told files texts file text read.held (text_before told middle file text read.same has);
    same = λ n. same n ∙ read.same n;
    later = λ n. let a = read.later n in let b = later n in omega (arith, a, b);
    asks = asks-append _ _ _ _ _ read.asks asks;
  }

  -- the next one isn't read
  pub next_unread : (rest : List File) (f : Failure) → AreUnreadFor middle (rose_between count faults_now) (file ∷ []) f → AreUnreadFor told (rose_between faults faults_now) (files ++ file ∷ rest) f
  next_unread rest f h =
      let more : (n : List ℕ) → rose_between count faults_now n → rose_between faults faults_now n = λ n. rose_before _ _ _ (read.later n) in
      unread_behind told (rose_between faults faults_now) files (file ∷ rest) texts f read.held (began_later told middle (rose_between faults faults_now) (rose_between count faults_now) file rest f read.same more h)

  -- no others were asked for
  pub next_asked : (rest : List File) → AsksFirst asked asked_now (files ++ file ∷ rest)
  next_asked rest =
      (length files + 1, subst (λ (fs : List File). Asks asked asked_now fs) (sym (take-append-add files (file ∷ rest) 1)) (asks-append _ _ _ _ _ read.asks asks))
