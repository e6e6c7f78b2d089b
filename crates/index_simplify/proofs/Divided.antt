-- What a length is over another: the value, and that it is no larger.
use Rattle.std.proofs.Common.{◌≡◌, ℕ, ℤ, pos, ◌+◌, ◌*◌, ◌/◌, ◌%◌, ◌≤◌, ◌*ℤ◌, Bool, true, false, Option, Some, None, List, refl, sym, ap, ◌∙◌, subst, arith}
use Rattle.std.specs.Prelude.{◌==◌, ◌&&◌, nat_lt, if◌then◌else◌, option_and_then}
use Rattle.std.proofs.lemmas.Bool.{and_parts, eqb-true}
use Rattle.std.proofs.lemmas.Int.{ints}
use Rattle.std.proofs.lemmas.Nat.{div-add-mod'}
use Rattle.std.proofs.Math.IntN.{*ℤ_comm}
use borrow.Author.Differences.{up, down, same_in, product_is}
use Rattle.index_expr.specs.declared.operation.Operation.TheVariants.{Product}
use Rattle.index_expr.specs.Expression.{Expression, Literal, Binary, nodes}
use Rattle.index_expr.specs.Values.{exact}
use Rattle.index_simplify.specs.Tests.{is_number, same}
use Rattle.index_simplify.specs.Factors.{times, number_over, one_where, in_product, without, over}
use Rattle.index_simplify.specs.Simplified.{height}
use Rattle.index_simplify.proofs.Tests.{number_value, same_value}
use Rattle.index_simplify.proofs.Parts.{some_node, some_height}

-- ---- products of three
products_associate : (a b c : ℤ) → (a *ℤ b) *ℤ c ≡ a *ℤ (b *ℤ c)
products_associate a b c =
    let ab = product_is a b in
    let bc = product_is b c in
    let by = λ (k : ℕ) (m n : ℕ) (e : m ≡ n). ap (λ x. x * k) e in
    let left = product_is (a *ℤ b) c in
    let right = product_is a (b *ℤ c) in
    let ups : up ((a *ℤ b) *ℤ c) ≡ up (a *ℤ (b *ℤ c)) =
    omega (arith, by (up c) _ _ ab.0, by (down c) _ _ ab.1, by (up a) _ _ bc.0, by (down a) _ _ bc.1) in
    let downs : down ((a *ℤ b) *ℤ c) ≡ down (a *ℤ (b *ℤ c)) =
    omega (arith, by (down c) _ _ ab.0, by (up c) _ _ ab.1, by (down a) _ _ bc.0, by (up a) _ _ bc.1) in
    same_in _ _ (λ i. ups i + sym downs i)

last_two_turned : (a b c : ℤ) → (a *ℤ b) *ℤ c ≡ (a *ℤ c) *ℤ b
last_two_turned a b c = products_associate a b c ∙ ap (λ z. a *ℤ z) (*ℤ_comm b c) ∙ sym (products_associate a c b)

one_times : (z : ℤ) → z ≡ pos 1 *ℤ z
one_times z = omega (arith, ints)

times_one : (z : ℤ) → z ≡ z *ℤ pos 1
times_one z = omega (arith, ints)

-- ---- values
module _ (sizes variables : List ℕ) where
  -- the first is what is left times the factor
  abbrev pub IfLeft : (e factor : Expression) → Option Expression → Type 0
  IfLeft e f None = Unit {0}
  IfLeft e f (Some q) = exact sizes variables e ≡ exact sizes variables q *ℤ exact sizes variables f

  times_value : (a b : Expression) → exact sizes variables (times a b) ≡ exact sizes variables a *ℤ exact sizes variables b
  times_value a b = go (is_number 1 a) refl (is_number 1 b) refl
    where
      go : (s : Bool) → is_number 1 a ≡ s → (t : Bool) → is_number 1 b ≡ t → exact sizes variables (if s then b else (if t then a else Binary Product a b)) ≡ exact sizes variables a *ℤ exact sizes variables b
      go true p t q = one_times (exact sizes variables b) ∙ ap (λ z. z *ℤ exact sizes variables b) (number_value sizes variables 1 a p)
      go false p true q = times_one (exact sizes variables a) ∙ ap (λ z. exact sizes variables a *ℤ z) (number_value sizes variables 1 b q)
      go false p false q = refl

  number_left : (c : ℕ) (f : Expression) → IfLeft (Literal c) f (number_over c f)
  number_left c (Literal d) = go (nat_lt 0 d && (c % d == 0)) refl
    where
      go : (b : Bool) → (nat_lt 0 d && (c % d == 0)) ≡ b → IfLeft (Literal c) (Literal d) (if b then Some (Literal (c / d)) else None)
      go true e = let rest = eqb-true (c % d) 0 (and_parts (nat_lt 0 d) (c % d == 0) e).1 in let whole = div-add-mod' c d in ap pos (omega arith)
      go false e = tt
  number_left c _ = tt

  one_left : (e f : Expression) (b : Bool) → same e f ≡ b → IfLeft e f (one_where b)
  one_left e f true h = one_times (exact sizes variables e) ∙ ap (λ z. pos 1 *ℤ z) (same_value sizes variables e f h)
  one_left e f false h = tt

  product_left : (a b f : Expression) (p q : Option Expression) → IfLeft a f p → IfLeft b f q → IfLeft (Binary Product a b) f (in_product a b p q)
  product_left a b f (Some x) q h k =
      ap (λ z. z *ℤ exact sizes variables b) h ∙ last_two_turned (exact sizes variables x) (exact sizes variables f) (exact sizes variables b)
      ∙ ap (λ z. z *ℤ exact sizes variables f) (sym (times_value x b))
  product_left a b f None (Some y) h k =
      ap (λ z. exact sizes variables a *ℤ z) k ∙ sym (products_associate (exact sizes variables a) (exact sizes variables y) (exact sizes variables f))
      ∙ ap (λ z. z *ℤ exact sizes variables f) (sym (times_value a y))
  product_left a b f None None h k = tt

  without_left : (e f : Expression) → IfLeft e f (without e f)
  without_left (Literal c) f = number_left c f
  without_left (Binary Product a b) f = product_left a b f (without a f) (without b f) (without_left a f) (without_left b f)
  without_left e f = one_left e f (same e f) refl

  then_left : (m q a b : Expression) (p : Option Expression) → exact sizes variables m ≡ exact sizes variables q *ℤ exact sizes variables a → IfLeft q b p → IfLeft m (Binary Product a b) p
  then_left m q a b None h k = tt
  then_left m q a b (Some s) h k =
      h ∙ ap (λ z. z *ℤ exact sizes variables a) k ∙ last_two_turned (exact sizes variables s) (exact sizes variables b) (exact sizes variables a)
      ∙ products_associate (exact sizes variables s) (exact sizes variables a) (exact sizes variables b)

  rest_left : (m a b : Expression) (p : Option Expression) → IfLeft m a p → ((q : Expression) → IfLeft q b (over q b)) → IfLeft m (Binary Product a b) (option_and_then (λ q. over q b) p)
  rest_left m a b None h each = tt
  rest_left m a b (Some q) h each = then_left m q a b (over q b) h (each q)

  pub over_left : (m n : Expression) → IfLeft m n (over m n)
  over_left m (Binary Product a b) = rest_left m a b (over m a) (over_left m a) (λ q. over_left q b)
  over_left m n = without_left m n

  pub over_value : (m n q : Expression) → over m n ≡ Some q → exact sizes variables m ≡ exact sizes variables q *ℤ exact sizes variables n
  over_value m n q e = subst (IfLeft m n) e (over_left m n)

-- ---- what holds of the length, of 1, and of products just where it does of both factors
module _ (P : Expression → Type 0) (one : P (Literal 1)) (less : (c d : ℕ) → P (Literal c) → P (Literal (c / d))) (apart : (a b : Expression) → P (Binary Product a b) → P a × P b) (together : (a b : Expression) → P a → P b → P (Binary Product a b)) where
  abbrev IfSome : Option Expression → Type 0
  IfSome None = Unit {0}
  IfSome (Some q) = P q

  times_has : (a b : Expression) → P a → P b → P (times a b)
  times_has a b x y = go (is_number 1 a) (is_number 1 b)
    where
      go : (s t : Bool) → P (if s then b else (if t then a else Binary Product a b))
      go true t = y
      go false true = x
      go false false = together a b x y

  number_has : (c : ℕ) (f : Expression) → P (Literal c) → IfSome (number_over c f)
  number_has c (Literal d) h = go (nat_lt 0 d && (c % d == 0))
    where
      go : (b : Bool) → IfSome (if b then Some (Literal (c / d)) else None)
      go true = less c d h
      go false = tt
  number_has c _ h = tt

  one_has : (b : Bool) → IfSome (one_where b)
  one_has true = one
  one_has false = tt

  product_has : (a b : Expression) (p q : Option Expression) → P (Binary Product a b) → IfSome p → IfSome q → IfSome (in_product a b p q)
  product_has a b (Some x) q h y z = times_has x b y (apart a b h).1
  product_has a b None (Some x) h y z = times_has a x (apart a b h).0 z
  product_has a b None None h y z = tt

  without_has : (e f : Expression) → P e → IfSome (without e f)
  without_has (Literal c) f h = number_has c f h
  without_has (Binary Product a b) f h = product_has a b (without a f) (without b f) h (without_has a f (apart a b h).0) (without_has b f (apart a b h).1)
  without_has e f h = one_has (same e f)

  rest_has : (b : Expression) (p : Option Expression) → IfSome p → ((q : Expression) → P q → IfSome (over q b)) → IfSome (option_and_then (λ q. over q b) p)
  rest_has b None h each = tt
  rest_has b (Some q) h each = each q h

  over_each : (m n : Expression) → P m → IfSome (over m n)
  over_each m (Binary Product a b) h = rest_has b (over m a) (over_each m a h) (λ q x. over_each q b x)
  over_each m n h = without_has m n h

  pub over_has : (m n q : Expression) → P m → over m n ≡ Some q → P q
  over_has m n q h e = subst IfSome e (over_each m n h)

-- ---- sizes
pub record IsLess (e q : Expression) : Type 0 where
  pub nodes : nodes q ≤ nodes e
  pub height : height q ≤ height e

abbrev IfLess : Expression → Option Expression → Type 0
IfLess e None = Unit {0}
IfLess e (Some q) = IsLess e q

leaf_less : (e : Expression) (n : ℕ) → IsLess e (Literal n)
leaf_less e n = record { nodes = some_node e; height = some_height e }

times_less : (a b c d : Expression) → IsLess a c → IsLess b d → IsLess (Binary Product a b) (times c d)
times_less a b c d x y = go (is_number 1 c) (is_number 1 d)
  where
    go : (s t : Bool) → IsLess (Binary Product a b) (if s then d else (if t then c else Binary Product c d))
    go true t = record { nodes = (let p = y.nodes in omega arith); height = (let p = y.height in omega arith) }
    go false true = record { nodes = (let p = x.nodes in omega arith); height = (let p = x.height in omega arith) }
    go false false = record { nodes = (let p = x.nodes in let q = y.nodes in omega arith); height = (let p = x.height in let q = y.height in omega arith) }

itself_less : (e : Expression) → IsLess e e
itself_less e = record { nodes = omega arith; height = omega arith }

number_less : (c : ℕ) (f : Expression) → IfLess (Literal c) (number_over c f)
number_less c (Literal d) = go (nat_lt 0 d && (c % d == 0))
  where
    go : (b : Bool) → IfLess (Literal c) (if b then Some (Literal (c / d)) else None)
    go true = leaf_less (Literal c) (c / d)
    go false = tt
number_less c _ = tt

one_less : (e : Expression) (b : Bool) → IfLess e (one_where b)
one_less e true = leaf_less e 1
one_less e false = tt

product_less : (a b : Expression) (p q : Option Expression) → IfLess a p → IfLess b q → IfLess (Binary Product a b) (in_product a b p q)
product_less a b (Some x) q y z = times_less a b x b y (itself_less b)
product_less a b None (Some x) y z = times_less a b a x (itself_less a) z
product_less a b None None y z = tt

without_less : (e f : Expression) → IfLess e (without e f)
without_less (Literal c) f = number_less c f
without_less (Binary Product a b) f = product_less a b (without a f) (without b f) (without_less a f) (without_less b f)
without_less e f = one_less e (same e f)

then_less : (m q : Expression) (p : Option Expression) → IsLess m q → IfLess q p → IfLess m p
then_less m q None h k = tt
then_less m q (Some s) h k = record { nodes = (let x = h.nodes in let y = k.nodes in omega arith); height = (let x = h.height in let y = k.height in omega arith) }

rest_less : (m b : Expression) (p : Option Expression) → IfLess m p → ((q : Expression) → IfLess q (over q b)) → IfLess m (option_and_then (λ q. over q b) p)
rest_less m b None h each = tt
rest_less m b (Some q) h each = then_less m q (over q b) h (each q)

over_each_less : (m n : Expression) → IfLess m (over m n)
over_each_less m (Binary Product a b) = rest_less m b (over m a) (over_each_less m a) (λ q. over_each_less q b)
over_each_less m n = without_less m n

pub over_less : (m n q : Expression) → over m n ≡ Some q → IsLess m q
over_less m n q e = subst (IfLess m) e (over_each_less m n)
