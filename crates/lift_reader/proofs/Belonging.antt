-- What reading a program does to the notes, so: a program that is read has proper sizes and arrays
-- as inputs, and its term is one that a text may have.
use Rattle.std.proofs.Common.{rules, ◌≡◌, ◌∙◌, ◌+◌, ◌<◌, ◌≤◌, ◌%◌, ℕ, suc, List, [], ◌∷◌, ◌++◌, ap, sym, subst, refl, length, map, Option, Some, None, Bool, true, false, cond, arith}
use Rattle.std.specs.Prelude.{position, ◌==◌, nat_lt}
use Rattle.std.proofs.lemmas.Option.{same_Some}
use Rattle.std.proofs.lemmas.Bool.{and_parts, eqb-true, ltb-false}
use Rattle.std.proofs.lemmas.List.Quantifiers.{position-Some}
use Rattle.readings.proofs.Meanings.{AllMean, read_means}
use Rattle.size_arith.specs.Ranges.{IsName, AreNames}
use Rattle.lift_tree.specs.declared.length.Factor.{Factor}
use Rattle.lift_tree.specs.declared.length.Factor.TheVariants as factor
use Rattle.lift_tree.specs.declared.length.Part.{Part}
use Rattle.lift_tree.specs.declared.length.Sign.{Sign}
use Rattle.lift_tree.specs.declared.program.Size.{Size}
use Rattle.lift_tree.specs.declared.term.UnaryForm.{UnaryForm}
use Rattle.lift_tree.specs.declared.term.MapKind.TheVariants as maps
use Rattle.lift_tree.specs.declared.term.FoldKind.TheVariants as folds
use Rattle.lift_tree.specs.declared.term.BinaryForm.TheVariants as binaries
use Rattle.lift_tree.specs.InputTypes as written
use Rattle.lift_tree.specs.InputTypes.{Written}
use Rattle.lift_tree.specs.Programs.{PlainInput, PlainProgram}
use Rattle.lift_tree.specs.Tree as trees
use Rattle.lift_tree.specs.Tree.{Tree}
use Rattle.lift_tree.specs.Lists.{Every}
use Rattle.lift_tree.specs.WorkedOut.{range_of}
use Rattle.lift_reader.specs.declared.word.Word.{Word}
use Rattle.lift_reader.specs.Meant.{unary_of, split_by, stride_by}
use Rattle.lift_reader.specs.Tokens.{Lexeme}
use Rattle.lift_reader.specs.Grammar as grammar
use Rattle.lift_reader.specs.Grammar.{Nonterminal, Noted, Item, Gives, marked, programs, divides, IsProgram}
use Rattle.lift_reader.specs.ProgramText.{ProgramsMayBeTyped, first_limit, lexemes}
use Rattle.lift_reader.specs.TextTerms.{IsTextForm, IsTextTerm, BodiesAreTextTerms}
use Rattle.lift_tree.specs.Belonging.{IsNamed, AreNamed, PartsAreNamed, TypeIsNamed, InputsAreNamed, IsElementType, HoldsElementTypes, IsInputType, Belongs, IsProper, IsTermOf}

-- ---- what each form makes of the notes

-- a text may have the tree, with so many terms open: it names what is noted and in scope
abbrev Fits : (depth : ℕ) → Noted → Tree → Type 0
Fits d n t = IsTextTerm (length n.sizes) (length n.inputs) (length n.scope) d t

-- the same where its parts have this depth
abbrev FitsAround : (parts : ℕ) → Noted → Tree → Type 0
FitsAround c n t = (d : ℕ) → c ≡ d + 1 → d < 256 → Fits d n t

-- such a term is made
abbrev MakesSuch : (Tree → Type 0) → Noted → Noted → Type 0
MakesSuch Such n m = (t : Tree) × (m ≡ record n { made = t ∷ n.made }) × Such t

abbrev Makes : (depth : ℕ) → Noted → Noted → Type 0
Makes d n m = MakesSuch (Fits d n) n m

abbrev MakesAround : (parts : ℕ) → Noted → Noted → Type 0
MakesAround c n m = MakesSuch (FitsAround c n) n m

-- a term is made in which one binder more is in scope
abbrev Binds : (depth : ℕ) → Noted → Noted → Type 0
Binds d n m = MakesSuch (IsTextTerm (length n.sizes) (length n.inputs) (suc (length n.scope)) d) n m

abbrev BindsTwo : (depth : ℕ) → Noted → Noted → Type 0
BindsTwo d n m = MakesSuch (IsTextTerm (length n.sizes) (length n.inputs) (suc (suc (length n.scope))) d) n m

-- the last term made is put into another
abbrev Wraps : Noted → Noted → Type 0
Wraps n m =
    (d : ℕ) (t : Tree) (rest : List Tree) → n.made ≡ t ∷ rest → d < 256 → Fits (d + 1) n t
    → (u : Tree) × (m ≡ record n { made = u ∷ rest }) × Fits d n u

-- such a type is made
abbrev MakesType : (Written → Type 0) → Noted → Noted → Type 0
MakesType such n m = n.parts ≡ [] → (t : Written) × (m ≡ record n { types = t ∷ n.types }) × TypeIsNamed (length n.sizes) t × such t

-- the product is multiplied once more
abbrev Multiplies : ℕ → Noted → Noted → Type 0
Multiplies least n m = (p : List Factor) (rest : List (List Factor)) → n.products ≡ p ∷ rest → (f : Factor) × (m ≡ record n { products = (p ++ f ∷ []) ∷ rest }) × IsNamed (length n.sizes) least f

-- the array's length is read to its end
abbrev EndsLength : Noted → Noted → Type 0
EndsLength n m =
    (p : List Factor) (rest : List (List Factor)) (t : Written) (types : List Written) → n.products ≡ p ∷ rest → n.types ≡ t ∷ types
    → AreNamed (length n.sizes) 0 p → PartsAreNamed (length n.sizes) n.parts
    → (parts : List Part) × (m ≡ record n { products = rest; types = written.Array t parts ∷ types; parts = [] }) × PartsAreNamed (length n.sizes) parts

-- whatever product the form is given, a text may have it
abbrev Suits : (List Factor → UnaryForm) → Noted → Type 0
Suits f n = (p : List Factor) → AreNamed (length n.sizes) 1 p → IsTextForm (length n.sizes) (f p)

-- the split or stride is read to its end
abbrev EndsSplit : (parts : ℕ) → Noted → Noted → Type 0
EndsSplit c n m = (p : List Factor) (rest : List (List Factor)) → n.products ≡ p ∷ rest → AreNamed (length n.sizes) 1 p → (t : Tree) × (m ≡ record n { products = rest; made = t ∷ n.made }) × FitsAround c n t

abbrev HaveInputTypes : List PlainInput → Type 0
HaveInputTypes inputs = Every (λ (i : PlainInput). IsInputType i.ty) inputs

-- what was declared is proper, and nothing else is noted
record Clean (n : Noted) : Type 0 where
  sizes : AreNames (map range_of n.sizes)
  inputs : InputsAreNamed (length n.sizes) n.inputs
  types : HaveInputTypes n.inputs
  parts : n.parts ≡ []
  scope : n.scope ≡ []
  made : n.made ≡ []

-- the program is read
record Done (n : Noted) : Type 0 where
  sizes : AreNames (map range_of n.sizes)
  inputs : InputsAreNamed (length n.sizes) n.inputs
  types : HaveInputTypes n.inputs
  term : Tree
  made : n.made ≡ term ∷ []
  fits : IsTextTerm (length n.sizes) (length n.inputs) 0 1 term

abbrev Declares : Noted → Noted → Type 0
Declares n m = Clean n → n.inputs ≡ [] → Done m

abbrev means : Noted → Nonterminal → List Lexeme → Noted → List Lexeme → Type 0
means n grammar.Sizes ts m back = Declares n m
means n grammar.Inputs ts m back = Clean n → Done m
means n grammar.SizeName ts m back = Declares n m
means n (grammar.SizeRange x) ts m back = Declares n m
means n (grammar.Multiple x) ts m back = Declares n m
means n (grammar.From x k) ts m back = 1 ≤ k → k ≤ 1048576 → Declares n m
means n (grammar.To x k a) ts m back = 1 ≤ k → k ≤ 1048576 → 1 ≤ a → a % k ≡ 0 → Declares n m
means n grammar.InputName ts m back = Clean n → Done m
means n (grammar.ArrayType d) ts m back = MakesType IsInputType n m
means n (grammar.ElementType d) ts m back = MakesType IsElementType n m
means n (grammar.AnyType d) ts m back = MakesType HoldsElementTypes n m
means n (grammar.LengthFactor least) ts m back = Multiplies least n m
means n (grammar.LengthRest s) ts m back = EndsLength n m
means n (grammar.Term d) ts m back = Makes d n m
means n (grammar.Divisor f) ts m back = ((v : ℕ) → 1 ≤ v → IsTextForm (length n.sizes) (f v)) → Wraps n m
means n (grammar.First least f c) ts m back = ((v w : ℕ) → least ≤ v → least ≤ w → IsTextForm (length n.sizes) (f v w)) → MakesAround c n m
means n (grammar.Second least f c) ts m back = ((v : ℕ) → least ≤ v → IsTextForm (length n.sizes) (f v)) → MakesAround c n m
means n (grammar.LetName c) ts m back = MakesAround c n m
means n (grammar.MapName c) ts m back = MakesAround c n m
means n (grammar.FoldName c) ts m back = MakesAround c n m
means n (grammar.FoldSecondName c x) ts m back = MakesAround c n m
means n (grammar.ReduceOperator c) ts m back = MakesAround c n m
means n (grammar.ProductRest f c) ts m back = Suits f n → EndsSplit c n m

-- ---- what is added at the end of a list

names_more : (xs : List Size) (s : Size) → AreNames (map range_of xs) → IsName (range_of s) → AreNames (map range_of (xs ++ s ∷ []))
names_more [] s are is = (is, tt)
names_more (x ∷ xs) s are is = (are.0, names_more xs s are.1 is)

inputs_more : (k : ℕ) (xs : List PlainInput) (i : PlainInput) → InputsAreNamed k xs → TypeIsNamed k i.ty → InputsAreNamed k (xs ++ i ∷ [])
inputs_more k [] i are is = (is, tt)
inputs_more k (x ∷ xs) i are is = (are.0, inputs_more k xs i are.1 is)

types_more : (xs : List PlainInput) (i : PlainInput) → HaveInputTypes xs → IsInputType i.ty → HaveInputTypes (xs ++ i ∷ [])
types_more [] i are is = (is, tt)
types_more (x ∷ xs) i are is = (are.0, types_more xs i are.1 is)

factors_more : (k least : ℕ) (fs : List Factor) (f : Factor) → AreNamed k least fs → IsNamed k least f → AreNamed k least (fs ++ f ∷ [])
factors_more k least [] f are is = (is, tt)
factors_more k least (g ∷ fs) f are is = (are.0, factors_more k least fs f are.1 is)

parts_more : (k : ℕ) (ps : List Part) (p : Part) → PartsAreNamed k ps → AreNamed k 0 p.product → PartsAreNamed k (ps ++ p ∷ [])
parts_more k [] p are is = (is, tt)
parts_more k (q ∷ ps) p are is = (are.0, parts_more k ps p are.1 is)

-- ---- conditions

inside : {A : Type 0} (p : A → Bool) (xs : List A) (i : ℕ) → position p xs ≡ Some i → i < length xs
inside p [] i e = absurd (cc (e))
inside p (x ∷ xs) i e = (position-Some p (x ∷ xs) i x e).0

divides_is : (k n : ℕ) → divides k n ≡ true → n % k ≡ 0
divides_is k n e = eqb-true (n % k) 0 (and_parts (nat_lt 0 k) (n % k == 0) e).1

is_name : (x : List ℕ) (k a b : ℕ) → 1 ≤ k → k ≤ 1048576 → 1 ≤ a → a % k ≡ 0 → a ≤ b → b ≤ 1048576 → divides k b ≡ true → IsName (range_of (record { name = x; multiple = k; from = a; to = b }))
is_name x k a b one most least div ordered limit to = record {
  positive = one;
  multiple_limit = most;
  from_positive = least;
  ordered = ordered;
  limit = limit;
  from_divides = div;
  to_divides = divides_is k b to;
}

-- ---- terms

makes_to : (Such : Tree → Type 0) (n k m : Noted) → MakesSuch Such n k → k ≡ m → MakesSuch Such n m
makes_to Such n k m h e = (h.0, sym e ∙ h.1, h.2)

-- a term is made around parts that are one term deeper
around : (d : ℕ) (n k m : Noted) → d < 256 → MakesAround (d + 1) n k → k ≡ m → Makes d n m
around d n k m deep h e = (h.0, sym e ∙ h.1, h.2 d refl deep)

-- a part of this depth, where it is one deeper
part_at : (s i b c d : ℕ) (t : Tree) → c ≡ d + 1 → IsTextTerm s i b c t → IsTextTerm s i b (d + 1) t
part_at s i b c d t is h = subst (λ k. IsTextTerm s i b k t) is h

one : (P Q : Tree → Type 0) (g : Tree → Tree) (n a b m : Noted) → MakesSuch P n a → marked (grammar.Make1 g) a ≡ Some b → b ≡ m → ((t : Tree) → P t → Q (g t)) → MakesSuch Q n m
one P Q g n a b m first h e fits =
    let is = subst (λ (k : Noted). marked (grammar.Make1 g) k ≡ Some b) first.1 h in
    (g first.0, sym e ∙ sym (same_Some _ _ is), fits first.0 first.2)

two : (Q : Tree → Type 0) (g : Tree → Tree → Tree) (n a b c m : Noted) (t u : Tree) → a ≡ record n { made = t ∷ n.made } → b ≡ record a { made = u ∷ a.made } → marked (grammar.Make2 g) b ≡ Some c → c ≡ m
    → Q (g t u) → MakesSuch Q n m
two Q g n a b c m t u first second h e fits =
    let both : b ≡ record n { made = u ∷ t ∷ n.made } = second ∙ ap (λ (k : Noted). record k { made = u ∷ k.made }) first in
    let is = subst (λ (k : Noted). marked (grammar.Make2 g) k ≡ Some c) both h in
    (g t u, sym e ∙ sym (same_Some _ _ is), fits)

three : (Q : Tree → Type 0) (g : Tree → Tree → Tree → Tree) (n a b c d m : Noted) (t u v : Tree) → a ≡ record n { made = t ∷ n.made } → b ≡ record a { made = u ∷ a.made } → c ≡ record b { made = v ∷ b.made }
    → marked (grammar.Make3 g) c ≡ Some d → d ≡ m → Q (g t u v) → MakesSuch Q n m
three Q g n a b c d m t u v first second third h e fits =
    let both : b ≡ record n { made = u ∷ t ∷ n.made } = second ∙ ap (λ (k : Noted). record k { made = u ∷ k.made }) first in
    let all : c ≡ record n { made = v ∷ u ∷ t ∷ n.made } = third ∙ ap (λ (k : Noted). record k { made = v ∷ k.made }) both in
    let is = subst (λ (k : Noted). marked (grammar.Make3 g) k ≡ Some d) all h in
    (g t u v, sym e ∙ sym (same_Some _ _ is), fits)

wrapped : (d : ℕ) (n a b m : Noted) → d < 256 → Makes (d + 1) n a → Wraps a b → b ≡ m → Makes d n m
wrapped d n a b m deep made wraps e =
    let u = subst (λ (k : Noted). Wraps k b) made.1 wraps d made.0 n.made refl deep made.2 in
    (u.0, sym e ∙ u.1, u.2)

-- what is made after another is of the same notes
after : (d : ℕ) (n a : Noted) (made : List Tree) → a ≡ record n { made = made } → (t : Tree) → Fits d a t → Fits d n t
after d n a made e t h = subst (λ (k : Noted). Fits d k t) e h

under : (x : List ℕ) (d : ℕ) (n a b c : Noted) → marked (grammar.Bind x) n ≡ Some a → Makes d a b → marked grammar.Unbind b ≡ Some c → Binds d n c
under x d n a b c bound made unbound =
    let first : a ≡ record n { scope = x ∷ n.scope } = sym (same_Some _ _ bound) in
    let inner = subst (λ (k : Noted). Makes d k b) first made in
    let is = subst (λ (k : Noted). marked grammar.Unbind k ≡ Some c) inner.1 unbound in
    (inner.0, sym (same_Some _ _ is), inner.2)

under_two : (x y : List ℕ) (l : ℕ) (n a b c d e : Noted) → marked (grammar.Bind x) n ≡ Some a → marked (grammar.Bind y) a ≡ Some b → Makes l b c → marked grammar.Unbind c ≡ Some d → marked grammar.Unbind d ≡ Some e → BindsTwo l n e
under_two x y l n a b c d e bound bound_too made unbound unbound_too =
    let first : a ≡ record n { scope = x ∷ n.scope } = sym (same_Some _ _ bound) in
    let inner = under y l a b c d bound_too made unbound in
    let inner_too = subst (λ (k : Noted). Binds l k d) first inner in
    let is = subst (λ (k : Noted). marked grammar.Unbind k ≡ Some e) inner_too.1 unbound_too in
    (inner_too.0, sym (same_Some _ _ is), inner_too.2)

abbrev AreTextForms : ℕ → Option UnaryForm → Type 0
AreTextForms k None = Unit {0}
AreTextForms k (Some f) = IsTextForm k f

of_a_word : (k : ℕ) (w : Word) → AreTextForms k (unary_of w)
of_a_word k _ = search rules

unary_fits : (k : ℕ) (w : Word) (f : UnaryForm) → unary_of w ≡ Some f → IsTextForm k f
unary_fits k w f e = subst (AreTextForms k) e (of_a_word k w)

-- ---- types

element_made : (such : Written → Type 0) (n a m : Noted) → such written.Number → marked grammar.NumberType n ≡ Some a → a ≡ m → MakesType such n m
element_made such n a m is h e parts = (written.Number, sym e ∙ sym (same_Some _ _ h), tt, is)

pair_made : (such : Written → Type 0) (n a b c m : Noted) → ((t u : Written) → IsElementType t → IsElementType u → such (written.Pair t u)) → MakesType IsElementType n a → MakesType IsElementType a b → marked grammar.PairType b ≡ Some c → c ≡ m
    → MakesType such n m
pair_made such n a b c m is first second h e parts =
    let t = first parts in
    let u = subst (λ (k : Noted). MakesType IsElementType k b) t.1 second parts in
    let pair = subst (λ (k : Noted). marked grammar.PairType k ≡ Some c) u.1 h in
    (written.Pair t.0 u.0, sym e ∙ sym (same_Some _ _ pair), (t.2, u.2), is t.0 u.0 t.3 u.3)

array_made : (such : Written → Type 0) (n a b c d m : Noted) → ((t : Written) (k : List Part) → HoldsElementTypes t → such (written.Array t k)) → MakesType HoldsElementTypes n a → marked grammar.BeginProduct a ≡ Some b → Multiplies 0 b c
    → EndsLength c d → d ≡ m → MakesType such n m
array_made such n a b c d m is first begun multiplied ended e parts =
    let t = first parts in
    let begin = subst (λ (k : Noted). marked grammar.BeginProduct k ≡ Some b) t.1 begun in
    let f = subst (λ (k : Noted). Multiplies 0 k c) (sym (same_Some _ _ begin)) multiplied [] n.products refl in
    let r = subst (λ (k : Noted). EndsLength k d) f.1 ended (f.0 ∷ []) n.products t.0 n.types refl refl (f.2, tt) (subst (PartsAreNamed (length n.sizes)) (sym parts) tt) in
    (written.Array t.0 r.0, sym e ∙ r.1 ∙ ap (λ (ps : List Part). record n { types = written.Array t.0 r.0 ∷ n.types; parts = ps }) (sym parts), (t.2, r.2), is t.0 r.0 t.3)

-- the notes with this product begun
begun_with : (n : Noted) (p : List Factor) (rest : List (List Factor)) → n.products ≡ p ∷ rest → n ≡ record n { products = p ∷ rest }
begun_with n p rest e = ap (λ (q : List (List Factor)). record n { products = q }) e

multiplied_by : (f : Factor) (least : ℕ) (n a m : Noted) → marked (grammar.Multiply f) n ≡ Some a → a ≡ m → IsNamed (length n.sizes) least f → Multiplies least n m
multiplied_by f least n a m h e named p rest products =
    let is = subst (λ (k : Noted). marked (grammar.Multiply f) k ≡ Some a) (begun_with n p rest products) h in
    (f, sym e ∙ sym (same_Some _ _ is), named)

length_times : (n a b m : Noted) → Multiplies 0 n a → EndsLength a b → b ≡ m → EndsLength n m
length_times n a b m multiplied ended e p rest t types products made named parts =
    let f = multiplied p rest products in
    let r = subst (λ (k : Noted). EndsLength k b) f.1 ended (p ++ f.0 ∷ []) rest t types refl made (factors_more (length n.sizes) 0 p f.0 named f.2) parts in
    (r.0, sym e ∙ r.1, r.2)

length_part : (s : Sign) (n a b c d m : Noted) → marked (grammar.EndPart s) n ≡ Some a → marked grammar.BeginProduct a ≡ Some b → Multiplies 0 b c → EndsLength c d → d ≡ m → EndsLength n m
length_part s n a b c d m part begun multiplied ended e p rest t types products made named parts =
    let is = subst (λ (k : Noted). marked (grammar.EndPart s) k ≡ Some a) (begun_with n p rest products) part in
    let begin = subst (λ (k : Noted). marked grammar.BeginProduct k ≡ Some b) (sym (same_Some _ _ is)) begun in
    let f = subst (λ (k : Noted). Multiplies 0 k c) (sym (same_Some _ _ begin)) multiplied [] rest refl in
    let r = subst (λ (k : Noted). EndsLength k d) f.1 ended (f.0 ∷ []) rest t types refl made (f.2, tt) (parts_more (length n.sizes) n.parts (record { sign = s; product = p }) parts named) in
    (r.0, sym e ∙ r.1, r.2)

length_ends : (s : Sign) (n a b m : Noted) → marked (grammar.EndPart s) n ≡ Some a → marked grammar.ArrayOf a ≡ Some b → b ≡ m → EndsLength n m
length_ends s n a b m part array e p rest t types products made named parts =
    let shape : n ≡ record n { products = p ∷ rest; types = t ∷ types } =
    begun_with n p rest products ∙ ap (λ (q : List Written). record n { products = p ∷ rest; types = q }) made in
    let is = subst (λ (k : Noted). marked (grammar.EndPart s) k ≡ Some a) shape part in
    let done = subst (λ (k : Noted). marked grammar.ArrayOf k ≡ Some b) (sym (same_Some _ _ is)) array in
    (n.parts ++ record { sign = s; product = p } ∷ [], sym e ∙ sym (same_Some _ _ done), parts_more (length n.sizes) n.parts (record { sign = s; product = p }) parts named)

product_times : (g : List Factor → UnaryForm) (c : ℕ) (n a b m : Noted) → Multiplies 1 n a → (Suits g a → EndsSplit c a b) → b ≡ m → Suits g n → EndsSplit c n m
product_times g c n a b m multiplied ended e suits p rest products named =
    let f = multiplied p rest products in
    let r = subst (λ (k : Noted). Suits g k → EndsSplit c k b) f.1 ended suits (p ++ f.0 ∷ []) rest refl (factors_more (length n.sizes) 1 p f.0 named f.2) in
    (r.0, sym e ∙ r.1, r.2)

product_ends : (g : List Factor → UnaryForm) (c : ℕ) (n a b m : Noted) → Makes c n a → marked (grammar.MakeByProduct g) a ≡ Some b → b ≡ m → Suits g n → EndsSplit c n m
product_ends g c n a b m made h e suits p rest products named =
    let shape : a ≡ record n { products = p ∷ rest; made = made.0 ∷ n.made } =
    made.1 ∙ ap (λ (q : List (List Factor)). record n { products = q; made = made.0 ∷ n.made }) products in
    let is = subst (λ (k : Noted). marked (grammar.MakeByProduct g) k ≡ Some b) shape h in
    (trees.Unary (g p) made.0, sym e ∙ sym (same_Some _ _ is), λ d under deep. (deep, suits p named, part_at _ _ _ c d made.0 under made.2))

product_made : (g : List Factor → UnaryForm) (d : ℕ) (n a b c m : Noted) → d < 256 → marked grammar.BeginProduct n ≡ Some a → Multiplies 1 a b → (Suits g b → EndsSplit (d + 1) b c) → c ≡ m → Suits g n → Makes d n m
product_made g d n a b c m deep begun multiplied ended e suits =
    let f = subst (λ (k : Noted). Multiplies 1 k b) (sym (same_Some _ _ begun)) multiplied [] n.products refl in
    let r = subst (λ (k : Noted). Suits g k → EndsSplit (d + 1) k c) f.1 ended suits (f.0 ∷ []) n.products refl (f.2, tt) in
    (r.0, sym e ∙ r.1, r.2 d refl deep)

-- ---- declarations

done_to : (n m : Noted) → n ≡ m → Done n → Done m
done_to n m e h = subst Done e h

term_done : (n a m : Noted) → Makes 1 n a → a ≡ m → Clean n → Done m
term_done n a m made e clean = subst Done (sym made.1 ∙ e) (record {
  sizes = clean.sizes;
  inputs = clean.inputs;
  types = clean.types;
  term = made.0;
  made = ap (λ (q : List Tree). made.0 ∷ q) clean.made;
  fits = subst (λ (s : List (List ℕ)). IsTextTerm (length n.sizes) (length n.inputs) (length s) 1 made.0) clean.scope made.2;
})

size_done : (s : Size) (n a b m : Noted) → marked (grammar.DeclareSize s) n ≡ Some a → Declares a b → b ≡ m → IsName (range_of s) → Declares n m
size_done s n a b m h rest e name clean none =
    let there = sym (same_Some _ _ h) in
    subst Done e (subst (λ (k : Noted). Declares k b) there rest (record {
      sizes = names_more n.sizes s clean.sizes name;
      inputs = subst (InputsAreNamed (length (n.sizes ++ s ∷ []))) (sym none) tt;
      types = clean.types;
      parts = clean.parts;
      scope = clean.scope;
      made = clean.made;
    }) none)

input_done : (x : List ℕ) (n a b c m : Noted) → MakesType IsInputType n a → marked (grammar.DeclareInput x) a ≡ Some b → (Clean b → Done c) → c ≡ m → Clean n → Done m
input_done x n a b c m made h rest e clean =
    let t = made clean.parts in
    let is = subst (λ (k : Noted). marked (grammar.DeclareInput x) k ≡ Some b) t.1 h in
    subst Done e (subst (λ (k : Noted). Clean k → Done c) (sym (same_Some _ _ is)) rest (record {
      sizes = clean.sizes;
      inputs = inputs_more (length n.sizes) n.inputs (record { name = x; ty = t.0 }) clean.inputs t.2;
      types = types_more n.inputs (record { name = x; ty = t.0 }) clean.types t.3;
      parts = clean.parts;
      scope = clean.scope;
      made = clean.made;
    }))

-- ---- each alternative

kept : (n : Noted) (f : Nonterminal) (t : Lexeme) (alt : List Item) → Gives n f t alt → (ts : List Lexeme) (m : Noted) (back : List Lexeme) → AllMean programs means alt n ts m back → means n f (t ∷ ts) m back
kept n f t alt grammar.size ts m back h = λ clean none. done_to _ _ h.3.0 (h.2 clean none)
kept n f t alt grammar.first_input ts m back h = λ clean none. done_to _ _ h.3.0 (h.2 clean)
kept n f t alt grammar.no_input ts m back h = λ clean none. term_done n _ m h.2 h.3.0 clean
kept n f t alt grammar.input ts m back h = λ clean. done_to _ _ h.3.0 (h.2 clean)
kept n f t alt grammar.output ts m back h = λ clean. term_done n _ m h.2 h.3.0 clean
kept n f t alt (grammar.size_name new) ts m back h = λ clean none. done_to _ _ h.3.0 (h.2 clean none)
kept n f t alt grammar.multiple ts m back h = λ clean none. done_to _ _ h.3.0 (h.2 clean none)
kept n f t alt grammar.no_multiple ts m back h = λ clean none. done_to _ _ h.3.0 (h.2 (omega arith) (omega arith) clean none)
kept n f t alt (grammar.multiple_number least most) ts m back h = λ clean none. done_to _ _ h.2.3.0 (h.2.2 least most clean none)
kept n f t alt (grammar.from {m = k} {a = a} least div) ts m back h = λ one most clean none. done_to _ _ h.2.3.0 (h.2.2 one most least (divides_is k a div) clean none)
kept n f t alt (grammar.to {x = x} {m = k} {a = a} {b = b} ordered limit div) ts m back h = λ one most least from clean none.
    size_done _ n _ _ m h.2.1 h.2.2.2 h.2.2.3.0 (is_name x k a b one most least from ordered limit div) clean none
kept n f t alt (grammar.input_name {x = x} new) ts m back h = λ clean. input_done x n _ _ _ m h.2.2 h.2.3.2.1 h.2.3.2.2.2 h.2.3.2.2.3.0 clean
kept n f t alt (grammar.array_type few) ts m back h = array_made IsInputType n _ _ _ _ m (λ a k h. h) h.2 h.3.2.1 h.3.2.2.2 h.3.2.2.3.2 h.3.2.2.3.3.0
kept n f t alt grammar.element ts m back h = element_made IsElementType n _ m tt h.1 h.2.0
kept n f t alt (grammar.element_pair few) ts m back h = pair_made IsElementType n _ _ _ m (λ a b h k. (h, k)) h.2 h.3.2.2 h.3.2.3.2.1 h.3.2.3.2.2.0
kept n f t alt grammar.any_element ts m back h = element_made HoldsElementTypes n _ m tt h.1 h.2.0
kept n f t alt (grammar.any_array few) ts m back h = array_made HoldsElementTypes n _ _ _ _ m (λ a k h. h) h.2 h.3.2.1 h.3.2.2.2 h.3.2.2.3.2 h.3.2.2.3.3.0
kept n f t alt (grammar.any_pair few) ts m back h = pair_made HoldsElementTypes n _ _ _ m (λ a b h k. (h, k)) h.2 h.3.2.2 h.3.2.3.2.1 h.3.2.3.2.2.0
kept n f t alt (grammar.factor_number {least = least} {v = v} most) ts m back h = multiplied_by (factor.Number v) least n _ m h.1 h.2.0 most
kept n f t alt (grammar.factor_size {least = least} {i = i} {x = x} is) ts m back h = multiplied_by (factor.Size i) least n _ m h.1 h.2.0 (inside _ n.sizes i is)
kept n f t alt grammar.length_times ts m back h = length_times n _ _ m h.2 h.3.2 h.3.3.0
kept n f t alt (grammar.length_plus {s = s}) ts m back h = length_part s n _ _ _ _ m h.1 h.2.1 h.2.2.2 h.2.2.3.2 h.2.2.3.3.0
kept n f t alt (grammar.length_minus {s = s}) ts m back h = length_part s n _ _ _ _ m h.1 h.2.1 h.2.2.2 h.2.2.3.2 h.2.2.3.3.0
kept n f t alt (grammar.length_end {s = s}) ts m back h = length_ends s n _ _ m h.1 h.2.1 h.2.2.0
kept n f t alt (grammar.number {v = v}) ts m back h = (trees.Number v, sym h.2.0 ∙ sym (same_Some _ _ h.1), tt)
kept n f t alt (grammar.variable {i = i} is) ts m back h = (trees.Variable i, sym h.2.0 ∙ sym (same_Some _ _ h.1), inside _ n.scope i is)
kept n f t alt (grammar.an_input {i = i} hidden is) ts m back h = (trees.Input i, sym h.2.0 ∙ sym (same_Some _ _ h.1), inside _ n.inputs i is)
kept n f t alt (grammar.binary {d = d} {f = g} is deep) ts m back h =
    let a = h.2.2 in
    let b = h.2.3.2.2 in
    two (Fits d n) (trees.Binary g) n _ _ _ m a.0 b.0 a.1 b.1 h.2.3.2.3.2.1 h.2.3.2.3.2.2.0 (deep, a.2, after (d + 1) n _ _ a.1 b.0 b.2)
kept n f t alt (grammar.unary {d = d} {w = w} {f = g} is deep) ts m back h =
    one (Fits (d + 1) n) (Fits d n) (trees.Unary g) n _ _ m h.2.2 h.2.3.2.1 h.2.3.2.2.0 (λ u fits. (deep, unary_fits (length n.sizes) w g is, fits))
kept n f t alt (grammar.div {d = d} deep) ts m back h = wrapped d n _ _ m deep h.2.2 (h.2.3.2.2 (λ v least. (least, tt))) h.2.3.2.3.0
kept n f t alt (grammar.rem {d = d} deep) ts m back h = wrapped d n _ _ m deep h.2.2 (h.2.3.2.2 (λ v least. (least, tt))) h.2.3.2.3.0
kept n f t alt (grammar.divisor {f = g} {v = v} least) ts m back h = λ suits d u rest made deep fits.
    let is = subst (λ (k : Noted). marked (grammar.Make1 (trees.Unary (g v))) k ≡ Some h.2.0) (ap (λ (q : List Tree). record n { made = q }) made) h.2.1 in
    (trees.Unary (g v) u, sym h.2.2.0 ∙ sym (same_Some _ _ is), (deep, suits v least, fits))
kept n f t alt (grammar.select {d = d} deep) ts m back h =
    let a = h.2.2 in
    let b = h.2.3.2.2 in
    let c = h.2.3.2.3.2.2 in
    let last = h.2.3.2.3.2.3.2 in
    three (Fits d n) trees.Select n _ _ _ _ m a.0 b.0 c.0 a.1 b.1 c.1 last.1 last.2.0
    (deep, a.2, after (d + 1) n _ _ a.1 b.0 b.2, after (d + 1) n _ _ a.1 c.0 (after (d + 1) h.2.0 _ _ b.1 c.0 c.2))
kept n f t alt (grammar.let_in {d = d} deep) ts m back h = around d n _ m deep h.2 h.3.0
kept n f t alt (grammar.let_name {d = c} {x = x}) ts m back h =
    let a = h.2.2 in
    let w = h.2.3.2 in
    let body = under x c _ _ _ _ w.1 w.2.2 w.2.3.1 in
    let bound = subst (λ (k : Noted). IsTextTerm (length k.sizes) (length k.inputs) (suc (length k.scope)) c body.0) a.1 body.2 in
    two (FitsAround c n) trees.Let n _ _ _ m a.0 body.0 a.1 body.1 w.2.3.2.1 w.2.3.2.2.0 (λ d is deep. (deep, part_at _ _ _ c d a.0 is a.2, part_at _ _ _ c d body.0 is bound))
kept n f t alt (grammar.map {d = d} deep) ts m back h = around d n _ m deep h.2.2.2 h.2.2.3.0
kept n f t alt (grammar.map_name {d = c} {x = x}) ts m back h =
    let w = h.2 in
    let body = under x c n _ _ _ w.1 w.2.2 w.2.3.1 in
    let array = w.2.3.2.2 in
    let elements = after c n _ _ body.1 array.2.0 array.2.2 in
    two (FitsAround c n) (λ b a. trees.Map maps.Plain a b) n _ _ _ m body.0 array.2.0 body.1 array.2.1 array.3.2.1 array.3.2.2.0
    (λ d is deep. (deep, part_at _ _ _ c d array.2.0 is elements, part_at _ _ _ c d body.0 is body.2))
kept n f t alt (grammar.reduce {d = d} deep) ts m back h = around d n _ m deep h.2.2 h.2.3.0
kept n f t alt (grammar.reduce_operator {d = c} {r = r} is) ts m back h =
    let a = h.2.2 in
    let b = h.2.3.2.2 in
    let elements = after c n _ _ a.1 b.0 b.2 in
    two (FitsAround c n) (λ s xs. trees.Binary (binaries.Reduce r) xs s) n _ _ _ m a.0 b.0 a.1 b.1 h.2.3.2.3.2.1 h.2.3.2.3.2.2.0
    (λ d under deep. (deep, part_at _ _ _ c d b.0 under elements, part_at _ _ _ c d a.0 under a.2))
kept n f t alt (grammar.fold {d = d} deep) ts m back h = around d n _ m deep h.2.2.2 h.2.2.3.0
kept n f t alt (grammar.fold_name {d = c}) ts m back h = makes_to (FitsAround c n) n _ m h.2 h.3.0
kept n f t alt (grammar.fold_second_name {d = c} {x = x} {y = y}) ts m back h =
    let w = h.2 in
    let q = w.2.2.3 in
    let body = under_two x y c n _ _ _ _ _ w.1 w.2.1 w.2.2.2 q.1 q.2.1 in
    let a = q.2.2.2.2 in
    let last = q.2.2.2.3.2 in
    let b = last.2 in
    let start = after c n _ _ body.1 a.0 a.2 in
    let elements = after c n _ _ body.1 b.0 (after c q.2.0 _ _ a.1 b.0 b.2) in
    three (FitsAround c n) (λ b s xs. trees.Fold folds.Plain xs s b) n _ _ _ _ m body.0 a.0 b.0 body.1 a.1 b.1 last.3.2.1 last.3.2.2.0
    (λ d is deep. (deep, part_at _ _ _ c d b.0 is elements, part_at _ _ _ c d a.0 is start, part_at _ _ _ c d body.0 is body.2))
kept n f t alt (grammar.split {d = d} deep) ts m back h = product_made split_by d n _ _ _ m deep h.2.1 h.2.2.2 h.2.2.3.2 h.2.2.3.3.0 (λ p q. (q, tt))
kept n f t alt (grammar.stride {d = d} deep) ts m back h = product_made stride_by d n _ _ _ m deep h.2.1 h.2.2.2 h.2.2.3.2 h.2.2.3.3.0 (λ p q. (q, tt))
kept n f t alt (grammar.product_times {d = c} {f = g}) ts m back h = product_times g c n _ _ m h.2 h.3.2 h.3.3.0
kept n f t alt (grammar.product_end {d = c} {f = g}) ts m back h = product_ends g c n _ _ m h.2 h.3.2.1 h.3.2.2.0
kept n f t alt (grammar.slide {d = d} deep) ts m back h = around d n _ m deep (h.2.2 (λ v w p q. ((p, q), tt))) h.2.3.0
kept n f t alt (grammar.pad {d = d} deep) ts m back h = around d n _ m deep (h.2.2 (λ v w p q. (tt, tt))) h.2.3.0
kept n f t alt (grammar.first_number {d = c} {v = v} least) ts m back h = λ suits. makes_to (FitsAround c n) n _ m (h.2.2 (λ w q. suits v w least q)) h.2.3.0
kept n f t alt (grammar.second_number {d = c} {v = v} {f = g} least) ts m back h = λ suits.
    one (Fits c n) (FitsAround c n) (trees.Unary (g v)) n _ _ m h.2.2 h.2.3.2.1 h.2.3.2.2.0 (λ u fits d is deep. (deep, suits v least, part_at _ _ _ c d u is fits))

-- ---- the program

finished_is : (n k : Noted) (t : Tree) → n.made ≡ t ∷ [] → marked grammar.Finish n ≡ Some k → n ≡ k
finished_is n k t made h =
    let is = subst (λ (q : Noted). marked grammar.Finish q ≡ Some k) (ap (λ (q : List Tree). record n { made = q }) made) h in
    ap (λ (q : List Tree). record n { made = q }) made ∙ same_Some _ _ is

not_chosen : {A : Type 0} (b : Bool) (x : A) (rest : Option A) → cond b (Some x) rest ≡ None → b ≡ false
not_chosen true x rest h = absurd (cc (h))
not_chosen false x rest h = refl

few_sizes : (p : PlainProgram) → first_limit p ≡ None → length p.sizes ≤ 8
few_sizes p within = ltb-false 8 (length p.sizes) (not_chosen (nat_lt 8 (length p.sizes)) _ _ within)

noted_done : (tokens : List Lexeme) (p : PlainProgram) (h : IsProgram tokens p) → Done h.noted
noted_done tokens p h =
    let all = read_means programs means kept h.reads refl in
    let done : Done all.0 = all.2 (record { sizes = tt; inputs = tt; types = tt; parts = refl; scope = refl; made = refl }) refl in
    subst Done (finished_is all.0 all.3.0 done.term done.made all.3.1 ∙ all.3.2.0) done

text_term : (tokens : List Lexeme) (p : PlainProgram) → IsProgram tokens p → IsTextTerm (length p.sizes) (length p.inputs) 0 1 p.body
text_term tokens p h =
    let done = noted_done tokens p h in
    let term : done.term ≡ p.body = let e : done.term ∷ [] ≡ p.body ∷ [] = sym done.made ∙ h.body in cc (e) in
    let sized = subst (λ (ss : List Size). IsTextTerm (length ss) (length h.noted.inputs) 0 1 done.term) h.sizes done.fits in
    let named = subst (λ (is : List PlainInput). IsTextTerm (length p.sizes) (length is) 0 1 done.term) h.inputs sized in
    subst (IsTextTerm (length p.sizes) (length p.inputs) 0 1) term named

proper : (tokens : List Lexeme) (p : PlainProgram) → IsProgram tokens p → first_limit p ≡ None → IsProper p
proper tokens p h within =
    let done = noted_done tokens p h in
    let inputs = subst (λ (ss : List Size). InputsAreNamed (length ss) h.noted.inputs) h.sizes done.inputs in
    record {
      few = few_sizes p within;
      sizes = subst (λ (ss : List Size). AreNames (map range_of ss)) h.sizes done.sizes;
      inputs = subst (InputsAreNamed (length p.sizes)) h.inputs inputs;
      types = subst HaveInputTypes h.inputs done.types;
    }

-- what a text may have names its own binders, and sizes and inputs of so many
belongs : (s i b d : ℕ) (t : Tree) → IsTextTerm s i b d t → Belongs s i b t
belongs s i b d (trees.Variable n) h = h
belongs s i b d (trees.Number n) h = h
belongs s i b d (trees.Input n) h = h
belongs s i b d (trees.Unary f t) h = (h.1.0, belongs s i b (d + 1) t h.2)
belongs s i b d (trees.Binary f t u) h = (belongs s i b (d + 1) t h.1, belongs s i b (d + 1) u h.2)
belongs s i b d (trees.Select t u v) h = (belongs s i b (d + 1) t h.1, belongs s i b (d + 1) u h.2, belongs s i b (d + 1) v h.3)
belongs s i b d (trees.Let v e) h = (belongs s i b (d + 1) v h.1, belongs s i (suc b) (d + 1) e h.2)
belongs s i b d (trees.Map k xs e) h = (belongs s i b (d + 1) xs h.1, belongs s i (suc b) (d + 1) e h.2)
belongs s i b d (trees.Fold k xs u e) h = (belongs s i b (d + 1) xs h.1, belongs s i b (d + 1) u h.2, belongs s i (suc (suc b)) (d + 1) e h.3)

pub bodies_are_text_terms : BodiesAreTextTerms
bodies_are_text_terms text p is = text_term (lexemes is.tokens) p is.program

pub texts_belong : ProgramsMayBeTyped
texts_belong text p is within =
    (proper (lexemes is.tokens) p is.program within, belongs (length p.sizes) (length p.inputs) 0 1 p.body (bodies_are_text_terms text p is))
