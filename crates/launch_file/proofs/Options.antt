-- What an answer says of the steps that it comes from.
use Rattle.std.proofs.Common.{◌≡◌, ℕ, ◌<◌, ◌≤◌, ◌∙◌, refl, ap, arith, Bool, true, false, Option, Some, None}
use Rattle.std.specs.Prelude.{IsTrue, Result, Ok, Err, ◌&&◌, ◌==◌, if◌then◌else◌, nat_lt, nat_le, option_map, option_and_then}
use Rattle.std.specs.Option.{ok_or}
use Rattle.std.proofs.lemmas.Bool.Decides.{nat_tests}
use Rattle.launch_file.specs.declared.refusal.LaunchNo.{LaunchNo}
use Rattle.launch_file.specs.Judged.{and_then, demand}

abbrev pub yes : {A : Type 0} → A → Result A LaunchNo
yes a = Ok a

pub same_ok : {A : Type 0} (a b : A) → yes a ≡ Ok b → a ≡ b
same_ok a b h = cc

pub and_ok : {A B : Type 0} (r : Result A LaunchNo) (f : A → Result B LaunchNo) (b : B) → and_then r f ≡ Ok b → (a : A) × (r ≡ Ok a) × (f a ≡ Ok b)
and_ok (Ok a) f b h = (a, refl, h)
and_ok (Err e) f b h = absurd (cc)

pub then_ok : {A B : Type 0} (r : Result A LaunchNo) (f : A → Result B LaunchNo) (a : A) (b : B) → r ≡ Ok a → f a ≡ Ok b → and_then r f ≡ Ok b
then_ok (Ok c) f a b e h = let s : c ≡ a = same_ok c a e in ap f s ∙ h
then_ok (Err x) f a b e h = absurd (cc)

pub ok_or_is : {A : Type 0} (o : Option A) (e : LaunchNo) (a : A) → ok_or o e ≡ Ok a → o ≡ Some a
ok_or_is (Some b) e a h = let s : b ≡ a = cc in ap Some s
ok_or_is None e a h = absurd (cc)

pub demand_is : (b : Bool) (e : LaunchNo) (u : Unit {0}) → demand b e ≡ Ok u → IsTrue b
demand_is true e u h = refl
demand_is false e u h = absurd (cc)

pub demand_gives : (b : Bool) (e : LaunchNo) → IsTrue b → demand b e ≡ Ok tt
demand_gives true e h = refl
demand_gives false e h = absurd (cc)

pub same_some : {A : Type 0} (a b : A) → Some a ≡ Some b → a ≡ b
same_some a b h = cc

pub and_some : {A B : Type 0} (f : A → Option B) (o : Option A) (b : B) → option_and_then f o ≡ Some b → (a : A) × (o ≡ Some a) × (f a ≡ Some b)
and_some f (Some a) b h = (a, refl, h)
and_some f None b h = absurd (cc)

pub map_some : {A B : Type 0} (f : A → B) (o : Option A) (b : B) → option_map f o ≡ Some b → (a : A) × (o ≡ Some a) × (f a ≡ b)
map_some f (Some a) b h = (a, refl, same_some (f a) b h)
map_some f None b h = absurd (cc)

pub tested : {A : Type 0} (b : Bool) (x y : A) → (if b then Some x else None) ≡ Some y → IsTrue b × (x ≡ y)
tested true x y h = (refl, same_some x y h)
tested false x y h = absurd (cc)

pub passed : {A : Type 0} (b : Bool) (x : A) → IsTrue b → (if b then Some x else None) ≡ Some x
passed true x h = refl
passed false x h = absurd (cc)

-- ---- tests
pub and_parts : (a b : Bool) → IsTrue (a && b) → IsTrue a × IsTrue b
and_parts true b h = (refl, h)
and_parts false b h = absurd (cc)

pub and_both : (a b : Bool) → IsTrue a → IsTrue b → IsTrue (a && b)
and_both true b h k = k
and_both false b h k = absurd (cc)

pub le_of : (m n : ℕ) → IsTrue (nat_le m n) → m ≤ n
le_of m n h = grind (arith, nat_tests)

pub le_to : (m n : ℕ) → m ≤ n → IsTrue (nat_le m n)
le_to m n h = grind (arith, nat_tests)

pub lt_of : (m n : ℕ) → IsTrue (nat_lt m n) → m < n
lt_of m n h = grind (arith, nat_tests)

pub lt_to : (m n : ℕ) → m < n → IsTrue (nat_lt m n)
lt_to m n h = grind (arith, nat_tests)

pub eq_of : (m n : ℕ) → IsTrue (m == n) → m ≡ n
eq_of m n h = grind (arith, nat_tests)

pub eq_to : (m n : ℕ) → m ≡ n → IsTrue (m == n)
eq_to m n h = grind (arith, nat_tests)
