-- Expressions of the kernel grammar.
use Rattle.std.proofs.Common.{◌≡◌, ℕ, suc, ◌<◌, ◌≤◌, ◌^◌, Bool, true, false, refl, arith}
use Rattle.std.specs.Prelude.{◌&&◌, nat_le, Option, Some, None}
use Rattle.std.proofs.lemmas.Bool.{ltb-true, lt-ltb, le-leb, and_from}
use Rattle.scalar_ops.specs.declared.op.Op.{Op}
use Rattle.scalar_ops.specs.declared.op.Op.TheVariants as op
use Rattle.kernel_tree.specs.Formula.{Formula, Number, Variable, LoopVariable, Size, Id, Binary, Choose, Comparison, Less, Equal, Lanes, Spread}
use Rattle.kernel_tree.specs.Formula as formula
use Rattle.kernel_tree.specs.Code.{Kernel}
use Rattle.kernel_tree.specs.Grammar.{height, lanes_height, is_operator, is_expression, are_lanes, names_declared, names_declared_in_lanes, deepest}
use Rattle.printed_form.specs.Expressions.{Expr, OneWord, FourWords, operation, selection, of_one, of_both, of_three, in_fours, of_lanes}
use Rattle.printed_form.specs.Printer.{or_number, or_lanes}
use Rattle.printed_form.specs.Sound.{IsGood}

pub first_of : (a b : Bool) → (a && b) ≡ true → a ≡ true
first_of true b h = refl
first_of false b h = absurd (cc)

pub second_of : (a b : Bool) → (a && b) ≡ true → b ≡ true
second_of true b h = h
second_of false b h = absurd (cc)

module _ (k : Kernel) where
  -- within more loops
  pub deeper : (l m : ℕ) (e : Formula) → l ≤ m → names_declared k l e ≡ true → names_declared k m e ≡ true
  deeper l m (Number n) le h = h
  deeper l m (Variable v) le h = h
  deeper l m (LoopVariable i) le h = let b = ltb-true i l h in lt-ltb i m (omega arith)
  deeper l m (Size s) le h = h
  deeper l m (Id d form) le h = h
  deeper l m (Binary o a b) le h =
      let r = second_of (is_operator o) (names_declared k l a && names_declared k l b) h in
      and_from (is_operator o) (names_declared k m a && names_declared k m b) (first_of (is_operator o) (names_declared k l a && names_declared k l b) h)
      (and_from (names_declared k m a) (names_declared k m b) (deeper l m a le (first_of (names_declared k l a) (names_declared k l b) r)) (deeper l m b le (second_of (names_declared k l a) (names_declared k l b) r)))
  deeper l m (Choose c a b x y) le h =
      let p = first_of (names_declared k l a && names_declared k l b) (names_declared k l x && names_declared k l y) h in
      let q = second_of (names_declared k l a && names_declared k l b) (names_declared k l x && names_declared k l y) h in
      and_from (names_declared k m a && names_declared k m b) (names_declared k m x && names_declared k m y)
      (and_from (names_declared k m a) (names_declared k m b) (deeper l m a le (first_of (names_declared k l a) (names_declared k l b) p)) (deeper l m b le (second_of (names_declared k l a) (names_declared k l b) p)))
      (and_from (names_declared k m x) (names_declared k m y) (deeper l m x le (first_of (names_declared k l x) (names_declared k l y) q)) (deeper l m y le (second_of (names_declared k l x) (names_declared k l y) q)))

  pub good_deeper : (l m h : ℕ) (e : Formula) → l ≤ m → IsGood k l h e → IsGood k m h e
  good_deeper l m h e le g = (deeper l m e le g.0, g.1)

  pub good_higher : (l h i : ℕ) (e : Formula) → h ≤ i → IsGood k l h e → IsGood k l i e
  good_higher l h i e le g = (g.0, (let x = g.1 in omega arith))

  pub good_number : (l h n : ℕ) → n < 2 ^ 32 → 1 ≤ h → IsGood k l h (Number n)
  good_number l h n lt one = (lt-ltb n (2 ^ 32) lt, one)

  pub good_binary : (l h : ℕ) (o : Op) (a b : Formula) → is_operator o ≡ true → IsGood k l h a → IsGood k l h b → IsGood k l (suc h) (Binary o a b)
  good_binary l h o a b e x y =
      let p = x.1 in let q = y.1 in
      (and_from (is_operator o) (names_declared k l a && names_declared k l b) e (and_from (names_declared k l a) (names_declared k l b) x.0 y.0), omega arith)

  pub good_choose : (l h : ℕ) (c : Comparison) (a b x y : Formula) → IsGood k l h a → IsGood k l h b → IsGood k l h x → IsGood k l h y → IsGood k l (suc h) (Choose c a b x y)
  good_choose l h c a b x y p q r s =
      let p1 = p.1 in let q1 = q.1 in let r1 = r.1 in let s1 = s.1 in
      (and_from (names_declared k l a && names_declared k l b) (names_declared k l x && names_declared k l y) (and_from (names_declared k l a) (names_declared k l b) p.0 q.0) (and_from (names_declared k l x) (names_declared k l y) r.0 s.0), omega arith)

  pub as_expression : (l h : ℕ) (e : Formula) → h ≤ 1024 → IsGood k l h e → is_expression k l e ≡ true
  as_expression l h e le g = and_from (names_declared k l e) (nat_le (height e) deepest) g.0 (let x = g.1 in le-leb (height e) 1024 (omega arith))

  -- ---- expressions of four words
  abbrev pub IsGoodLanes : (l h : ℕ) → Lanes → Type 0
  IsGoodLanes l h e = (names_declared_in_lanes k l e ≡ true) × (lanes_height e ≤ h)

  pub lanes_expression : (l h : ℕ) (e : Lanes) → h ≤ 1024 → IsGoodLanes l h e → are_lanes k l e ≡ true
  lanes_expression l h e le g = and_from (names_declared_in_lanes k l e) (nat_le (lanes_height e) deepest) g.0 (let x = g.1 in le-leb (lanes_height e) 1024 (omega arith))

  good_spread : (l h : ℕ) (e : Formula) → IsGood k l h e → IsGoodLanes l (suc h) (Spread e)
  good_spread l h e g = (g.0, let x = g.1 in omega arith)

  -- ---- expressions of element terms: those of four words are one higher at most
  abbrev pub IsGoodSome : (l h : ℕ) → Option Expr → Type 0
  IsGoodSome l h (Some (OneWord e)) = IsGood k l h e
  IsGoodSome l h (Some (FourWords e)) = IsGoodLanes l (suc h) e
  IsGoodSome l h None = Unit {0}

  pub some_higher : (l h i : ℕ) (o : Option Expr) → h ≤ i → IsGoodSome l h o → IsGoodSome l i o
  some_higher l h i (Some (OneWord e)) le g = good_higher l h i e le g
  some_higher l h i (Some (FourWords e)) le g = (g.0, let x = g.1 in omega arith)
  some_higher l h i None le g = tt

  pub or_good : (l h : ℕ) (o : Option Expr) → 1 ≤ h → IsGoodSome l h o → IsGood k l h (or_number o)
  or_good l h (Some (OneWord e)) one g = g
  or_good l h (Some (FourWords e)) one g = good_number l h 0 (omega arith) one
  or_good l h None one g = good_number l h 0 (omega arith) one

  pub or_lanes_good : (l h : ℕ) (o : Option Expr) → 1 ≤ h → IsGoodSome l h o → IsGoodLanes l (suc h) (or_lanes o)
  or_lanes_good l h (Some (OneWord e)) one g = good_spread l h (Number 0) (good_number l h 0 (omega arith) one)
  or_lanes_good l h (Some (FourWords e)) one g = g
  or_lanes_good l h None one g = good_spread l h (Number 0) (good_number l h 0 (omega arith) one)

  good_operation : (l h : ℕ) (o : Op) (a b : Formula) → 1 ≤ h → IsGood k l h a → IsGood k l h b → IsGood k l (suc h) (operation o a b)
  good_operation l h op.Lt a b one x y = good_choose l h Less a b (Number 1) (Number 0) x y (good_number l h 1 (omega arith) one) (good_number l h 0 (omega arith) one)
  good_operation l h op.Eq a b one x y = good_choose l h Equal a b (Number 1) (Number 0) x y (good_number l h 1 (omega arith) one) (good_number l h 0 (omega arith) one)
  good_operation l h op.Add a b one x y = good_binary l h op.Add a b refl x y
  good_operation l h op.Mul a b one x y = good_binary l h op.Mul a b refl x y
  good_operation l h op.Min a b one x y = good_binary l h op.Min a b refl x y
  good_operation l h op.Max a b one x y = good_binary l h op.Max a b refl x y
  good_operation l h op.And a b one x y = good_binary l h op.And a b refl x y
  good_operation l h op.Or a b one x y = good_binary l h op.Or a b refl x y
  good_operation l h op.Xor a b one x y = good_binary l h op.Xor a b refl x y
  good_operation l h op.Sub a b one x y = good_binary l h op.Sub a b refl x y
  good_operation l h op.Shl a b one x y = good_binary l h op.Shl a b refl x y
  good_operation l h op.Shr a b one x y = good_binary l h op.Shr a b refl x y
  good_operation l h op.Div a b one x y = good_binary l h op.Div a b refl x y
  good_operation l h op.Rem a b one x y = good_binary l h op.Rem a b refl x y

  pub good_both : (l h : ℕ) (o : Op) (a b : Option Expr) → 1 ≤ h → IsGoodSome l h a → IsGoodSome l h b → IsGoodSome l (suc h) (of_both (operation o) a b)
  good_both l h o (Some (OneWord a)) (Some (OneWord b)) one x y = good_operation l h o a b one x y
  good_both l h o (Some (OneWord a)) (Some (FourWords b)) one x y = tt
  good_both l h o (Some (OneWord a)) None one x y = tt
  good_both l h o (Some (FourWords a)) b one x y = tt
  good_both l h o None b one x y = tt

  pub good_one : (l h : ℕ) (o : Op) (m : ℕ) (a : Option Expr) → is_operator o ≡ true → m < 2 ^ 32 → 1 ≤ h → IsGoodSome l h a → IsGoodSome l (suc h) (of_one (λ x. Binary o x (Number m)) a)
  good_one l h o m (Some (FourWords a)) e lt one x = tt
  good_one l h o m (Some (OneWord a)) e lt one x = good_binary l h o a (Number m) e x (good_number l h m lt one)
  good_one l h o m None e lt one x = tt

  pub good_three : (l h : ℕ) (c a b : Option Expr) → 1 ≤ h → IsGoodSome l h c → IsGoodSome l h a → IsGoodSome l h b → IsGoodSome l (suc h) (of_three selection c a b)
  good_three l h (Some (OneWord c)) (Some (OneWord a)) (Some (OneWord b)) one x y z = good_choose l h Equal c (Number 0) b a x (good_number l h 0 (omega arith) one) z y
  good_three l h (Some (OneWord c)) (Some (OneWord a)) (Some (FourWords b)) one x y z = tt
  good_three l h (Some (OneWord c)) (Some (OneWord a)) None one x y z = tt
  good_three l h (Some (OneWord c)) (Some (FourWords a)) b one x y z = tt
  good_three l h (Some (OneWord c)) None b one x y z = tt
  good_three l h (Some (FourWords c)) a b one x y z = tt
  good_three l h None a b one x y z = tt

  -- operands of four words
  abbrev pub IsGoodFour : (l h : ℕ) → Option Lanes → Type 0
  IsGoodFour l h (Some e) = IsGoodLanes l h e
  IsGoodFour l h None = Unit {0}

  pub good_operand : (l h : ℕ) (vector : Bool) (o : Option Expr) → IsGoodSome l h o → IsGoodFour l (suc h) (in_fours vector o)
  good_operand l h true (Some (FourWords e)) g = g
  good_operand l h true (Some (OneWord e)) g = tt
  good_operand l h true None g = tt
  good_operand l h false (Some (OneWord e)) g = good_spread l h e g
  good_operand l h false (Some (FourWords e)) g = tt
  good_operand l h false None g = tt

  pub good_literal : (l h m : ℕ) → m < 2 ^ 32 → 1 ≤ h → IsGoodFour l (suc h) (Some (Spread (Number m)))
  good_literal l h m lt one = good_spread l h (Number m) (good_number l h m lt one)

  pub good_lanes : (l h : ℕ) (o : Op) (a b : Option Lanes) → is_operator o ≡ true → IsGoodFour l (suc h) a → IsGoodFour l (suc h) b → IsGoodSome l (suc h) (of_lanes (formula.Each o) a b)
  good_lanes l h o (Some a) (Some b) e x y =
      let p = x.1 in let q = y.1 in
      (and_from (is_operator o) (names_declared_in_lanes k l a && names_declared_in_lanes k l b) e (and_from (names_declared_in_lanes k l a) (names_declared_in_lanes k l b) x.0 y.0), omega arith)
  good_lanes l h o (Some a) None e x y = tt
  good_lanes l h o None b e x y = tt
