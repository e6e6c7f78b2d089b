-- Pieces written behind a text, one after another.
use Rattle.std.proofs.Common.{◌≡◌, ℕ, List, ◌++◌, append_assoc}

pub two_behind : (o a b : List ℕ) → o ++ a ++ b ≡ o ++ (a ++ b)
two_behind o a b = append_assoc o a b

pub three_behind : (o a b c : List ℕ) → o ++ a ++ b ++ c ≡ o ++ (a ++ b ++ c)
three_behind o a b c = simp append_assoc

pub four_behind : (o a b c d : List ℕ) → o ++ a ++ b ++ c ++ d ≡ o ++ (a ++ b ++ c ++ d)
four_behind o a b c d = simp append_assoc

pub five_behind : (o a b c d e : List ℕ) → o ++ a ++ b ++ c ++ d ++ e ≡ o ++ (a ++ b ++ c ++ d ++ e)
five_behind o a b c d e = simp append_assoc

pub seven_behind : (o a b c d e f g : List ℕ) → o ++ a ++ b ++ c ++ d ++ e ++ f ++ g ≡ o ++ (a ++ b ++ c ++ d ++ e ++ f ++ g)
seven_behind o a b c d e f g = simp append_assoc
