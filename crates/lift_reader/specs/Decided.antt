-- The rows are the grammar's: at each token a form has at most one alternative. The reader gives
-- this proof as its law `decides`, and a law's proof has to stand among the definitions.
use Rattle.std.proofs.Common.{◌≡◌, ℕ, ◌<◌, List, [], ◌∷◌, Option, Some, None, Bool, true, false, cond, refl, ap, sym, ◌∙◌, subst, inl, inr, ◌⊎◌}
use Rattle.std.specs.Prelude.{nat_le, nat_lt, nat_eq, option_map, ◌&&◌}
use Rattle.std.proofs.lemmas.Option.{same_Some, cond_some}
use Rattle.std.proofs.lemmas.Bool.{ltb-true, leb-true, le-leb, and_from, and_parts, eqb-true, eq-eqb, cond_below}
use Rattle.std.specs.Cmp.Lexicographic.{same_text}
use Rattle.readings.specs.Readings.{Form, Mark}
use Rattle.readings.specs.Running.{Decides}
use Rattle.lift_tree.specs.declared.length.Factor.{Factor}
use Rattle.lift_tree.specs.declared.length.Sign.{Sign}
use Rattle.lift_tree.specs.declared.length.Sign.TheVariants as sign
use Rattle.lift_tree.specs.declared.term.UnaryForm.{UnaryForm}
use Rattle.lift_tree.specs.declared.term.BinaryForm.{BinaryForm}
use Rattle.lift_tree.specs.Tree as trees
use Rattle.lift_reader.specs.declared.word.Word.{Word}
use Rattle.lift_reader.specs.declared.word.Word.TheVariants as word
use Rattle.lift_reader.specs.Words.{spelling}
use Rattle.lift_reader.specs.Meant.{reducer_of, binary_of, unary_of}
use Rattle.lift_reader.specs.Tokens.{Lexeme, AWord, AName, ANumber, ASymbol, Wrong}
use Rattle.lift_reader.specs.Grammar.{Nonterminal, Sizes, Inputs, SizeName, SizeRange, Multiple, From, To, InputName, ArrayType, ElementType, AnyType, LengthFactor, LengthRest, Term, Divisor, First, Second, LetName, MapName, FoldName, FoldSecondName, ReduceOperator, ProductRest, Leaf, EndPart, ArrayOf, MakeByProduct, Noted, Item, closes, term, is_new, size_named, input_named, binder_named, divides, array, pair, part, Gives, size, first_input, no_input, input, output, size_name, multiple, no_multiple, multiple_number, from, to, input_name, array_type, element, element_pair, any_element, any_array, any_pair, factor_number, factor_size, length_times, length_plus, length_minus, length_end, number, variable, an_input, binary, unary, div, rem, divisor, select, let_in, let_name, map, map_name, reduce, reduce_operator, fold, fold_name, fold_second_name, split, stride, product_times, product_end, slide, pad, first_number, second_number, programs}
use Rattle.lift_reader.specs.Rows.{same, or_else, sizes_row, inputs_row, range_row, element_row, array_row, type_row, rest_row, product_row, named, two_terms, one_term, special, compound, term_row, name_row, number_row, operator_row, other_row, row, table}
use Rattle.lift_reader.specs.Spelled.{itself, same_word}

same-same : (a b : Lexeme) → same a b ≡ true → a ≡ b
same-same (AWord a) (AWord b) e = ap AWord (same_word a b e)
same-same (AName x) (AName y) e = ap AName (same_text x y (sym e))
same-same (ANumber m) (ANumber n) e = ap ANumber (eqb-true m n e)
same-same (ASymbol m) (ASymbol n) e = ap ASymbol (eqb-true m n e)
same-same Wrong Wrong e = refl
same-same _ _ e = absurd (cc)

same-itself : (a : Lexeme) → same a a ≡ true
same-itself (AWord a) = itself (spelling a)
same-itself (AName x) = itself x
same-itself (ANumber n) = eq-eqb n n refl
same-itself (ASymbol s) = eq-eqb s s refl
same-itself Wrong = refl

-- which of two a condition chose
either : {A : Type 0} (b : Bool) (p q r : A) → cond b p q ≡ r
    → ((b ≡ true) × (p ≡ r)) ⊎ ((b ≡ false) × (q ≡ r))
either true p q r e = inl (refl, e)
either false p q r e = inr (refl, e)

map_some : {A B : Type 0} (f : A → B) (o : Option A) (y : B) → option_map f o ≡ Some y
    → (x : A) × (o ≡ Some x) × (f x ≡ y)
map_some f None y e = absurd (cc)
map_some f (Some x) y e = (x, refl, same_Some _ _ e)

or_some : {A : Type 0} (o p : Option A) (y : A) → or_else o p ≡ Some y
    → (o ≡ Some y) ⊎ ((o ≡ None) × (p ≡ Some y))
or_some None p y e = inr (refl, e)
or_some (Some x) p y e = inl e

none_map : {A B : Type 0} (f : A → B) (o : Option A) → option_map f o ≡ None → o ≡ None
none_map f None e = refl
none_map f (Some x) e = absurd (cc)

guard : {A : Type 0} (b : Bool) (x y : A) → b ≡ true → cond b x y ≡ x
guard b x y e = ap (λ v. cond v x y) e

-- a symbol by its byte
at_symbol : (n : Noted) (f : Nonterminal) (b k : ℕ) (given alt : List Item) → nat_eq b k ≡ true
    → given ≡ alt → Gives n f (ASymbol k) given → Gives n f (ASymbol b) alt
at_symbol n f b k given alt e same g =
    subst (λ z. Gives n f (ASymbol z) alt) (sym (eqb-true b k e))
    (subst (Gives n f (ASymbol k)) same g)

-- ---- what a row has is in the grammar

found_sizes : (n : Noted) (t : Lexeme) (alt : List Item) → sizes_row t ≡ Some alt
    → Gives n Sizes t alt
found_sizes n (AWord word.Size) alt e =
    subst (Gives n Sizes (AWord word.Size)) (same_Some _ _ e) size
found_sizes n (AWord word.Input) alt e =
    subst (Gives n Sizes (AWord word.Input)) (same_Some _ _ e) first_input
found_sizes n (AWord word.Output) alt e =
    subst (Gives n Sizes (AWord word.Output)) (same_Some _ _ e) no_input
found_sizes n _ alt e = absurd (cc)

found_inputs : (n : Noted) (t : Lexeme) (alt : List Item) → inputs_row t ≡ Some alt
    → Gives n Inputs t alt
found_inputs n (AWord word.Input) alt e =
    subst (Gives n Inputs (AWord word.Input)) (same_Some _ _ e) input
found_inputs n (AWord word.Output) alt e =
    subst (Gives n Inputs (AWord word.Output)) (same_Some _ _ e) output
found_inputs n _ alt e = absurd (cc)

found_range : (n : Noted) (x : List ℕ) (t : Lexeme) (alt : List Item) → range_row x t ≡ Some alt
    → Gives n (SizeRange x) t alt
found_range n x (AWord word.Multiple) alt e =
    subst (Gives n (SizeRange x) (AWord word.Multiple)) (same_Some _ _ e) multiple
found_range n x (AWord word.From) alt e =
    subst (Gives n (SizeRange x) (AWord word.From)) (same_Some _ _ e) no_multiple
found_range n x _ alt e = absurd (cc)

found_element : (n : Noted) (d : ℕ) (t : Lexeme) (alt : List Item) → element_row d t ≡ Some alt
    → Gives n (ElementType d) t alt
found_element n d (AWord word.U32) alt e =
    subst (Gives n (ElementType d) (AWord word.U32)) (same_Some _ _ e) element
found_element n d (ASymbol b) alt e =
    let h = cond_some (nat_eq b 40 && nat_le d 64) (pair d) alt e in
    let k = and_parts (nat_eq b 40) (nat_le d 64) h.0 in
    at_symbol n (ElementType d) b 40 (pair d) alt k.0 h.1 (element_pair (leb-true d 64 k.1))
found_element n d _ alt e = absurd (cc)

found_array : (n : Noted) (d : ℕ) (t : Lexeme) (alt : List Item) → array_row d t ≡ Some alt
    → Gives n (ArrayType d) t alt
found_array n d (ASymbol b) alt e =
    let h = cond_some (nat_eq b 91 && nat_le d 64) (array d) alt e in
    let k = and_parts (nat_eq b 91) (nat_le d 64) h.0 in
    at_symbol n (ArrayType d) b 91 (array d) alt k.0 h.1 (array_type (leb-true d 64 k.1))
found_array n d _ alt e = absurd (cc)

found_type : (n : Noted) (d : ℕ) (t : Lexeme) (alt : List Item) → type_row d t ≡ Some alt
    → Gives n (AnyType d) t alt
found_type n d (AWord word.U32) alt e =
    subst (Gives n (AnyType d) (AWord word.U32)) (same_Some _ _ e) any_element
found_type n d (ASymbol b) alt e =
    let h =
    cond_some_of (nat_le d 64)
    (cond (nat_eq b 91) (Some (array d)) (cond (nat_eq b 40) (Some (pair d)) None)) alt e in
    elim
    (either (nat_eq b 91) (Some (array d)) (cond (nat_eq b 40) (Some (pair d)) None)
    (Some alt) h.1) [
      | inl k ↦ at_symbol n (AnyType d) b 91 (array d) alt k.0 (same_Some _ _ k.1)
          (any_array (leb-true d 64 h.0))
      | inr k ↦ let j =
          cond_some (nat_eq b 40) (pair d) alt k.1 in at_symbol n (AnyType d) b 40
          (pair d) alt j.0 j.1 (any_pair (leb-true d 64 h.0))
    ]
  where
    cond_some_of : (c : Bool) (o : Option (List Item)) (y : List Item) → cond c o None ≡ Some y
        → (c ≡ true) × (o ≡ Some y)
    cond_some_of true o y e = (refl, e)
    cond_some_of false o y e = absurd (cc)
found_type n d _ alt e = absurd (cc)

found_rest : (n : Noted) (s : Sign) (t : Lexeme) (alt : List Item) → rest_row s t ≡ Some alt
    → Gives n (LengthRest s) t alt
found_rest n s (ASymbol b) alt e =
    let ended : Option (List Item) =
    cond (nat_eq b 93) (Some (Mark (EndPart s) ∷ Mark ArrayOf ∷ [])) None in
    let less : Option (List Item) = cond (nat_eq b 45) (Some (part s sign.Minus)) ended in
    let more : Option (List Item) = cond (nat_eq b 43) (Some (part s sign.Plus)) less in
    elim
    (either (nat_eq b 42) (Some (Form (LengthFactor 0) ∷ Form (LengthRest s) ∷ [])) more
    (Some alt) e) [
      | inl k ↦ at_symbol n (LengthRest s) b 42 _ alt k.0 (same_Some _ _ k.1) length_times
      | inr k ↦ elim (either (nat_eq b 43) (Some (part s sign.Plus)) less (Some alt) k.1) [
        | inl k ↦ at_symbol n (LengthRest s) b 43 _ alt k.0 (same_Some _ _ k.1) length_plus
        | inr k ↦ elim (either (nat_eq b 45) (Some (part s sign.Minus)) ended (Some alt) k.1) [
          | inl k ↦ at_symbol n (LengthRest s) b 45 _ alt k.0 (same_Some _ _ k.1) length_minus
          | inr k ↦ let j =
              cond_some (nat_eq b 93) _ alt k.1 in at_symbol n
              (LengthRest s) b 93 _ alt j.0 j.1 length_end
        ]
      ]
    ]
found_rest n s _ alt e = absurd (cc)

found_product : (n : Noted) (f : List Factor → UnaryForm) (d : ℕ) (t : Lexeme) (alt : List Item)
    → product_row f d t ≡ Some alt → Gives n (ProductRest f d) t alt
found_product n f d (ASymbol b) alt e =
    elim
    (either (nat_eq b 42) (Some (Form (LengthFactor 1) ∷ Form (ProductRest f d) ∷ []))
    (cond (nat_eq b 44) (Some (term d ∷ closes ∷ Mark (MakeByProduct f) ∷ [])) None)
    (Some alt) e) [
      | inl k ↦ at_symbol n (ProductRest f d) b 42 _ alt k.0 (same_Some _ _ k.1) product_times
      | inr k ↦ let j =
          cond_some (nat_eq b 44) _ alt k.1 in at_symbol n
          (ProductRest f d) b 44 _ alt j.0 j.1 product_end
    ]
found_product n f d _ alt e = absurd (cc)

found_special : (n : Noted) (d : ℕ) → d < 256 → (w : Word) (alt : List Item)
    → special d w ≡ Some alt → Gives n (Term d) (AWord w) alt
found_special n d less word.Div alt e =
    subst (Gives n (Term d) (AWord word.Div)) (same_Some _ _ e) (div less)
found_special n d less word.Rem alt e =
    subst (Gives n (Term d) (AWord word.Rem)) (same_Some _ _ e) (rem less)
found_special n d less word.Select alt e =
    subst (Gives n (Term d) (AWord word.Select)) (same_Some _ _ e) (select less)
found_special n d less word.Let alt e =
    subst (Gives n (Term d) (AWord word.Let)) (same_Some _ _ e) (let_in less)
found_special n d less word.Map alt e =
    subst (Gives n (Term d) (AWord word.Map)) (same_Some _ _ e) (map less)
found_special n d less word.Reduce alt e =
    subst (Gives n (Term d) (AWord word.Reduce)) (same_Some _ _ e) (reduce less)
found_special n d less word.Fold alt e =
    subst (Gives n (Term d) (AWord word.Fold)) (same_Some _ _ e) (fold less)
found_special n d less word.Split alt e =
    subst (Gives n (Term d) (AWord word.Split)) (same_Some _ _ e) (split less)
found_special n d less word.Stride alt e =
    subst (Gives n (Term d) (AWord word.Stride)) (same_Some _ _ e) (stride less)
found_special n d less word.Slide alt e =
    subst (Gives n (Term d) (AWord word.Slide)) (same_Some _ _ e) (slide less)
found_special n d less word.Pad alt e =
    subst (Gives n (Term d) (AWord word.Pad)) (same_Some _ _ e) (pad less)
found_special n d less _ alt e = absurd (cc)

found_compound : (n : Noted) (d : ℕ) → d < 256 → (w : Word) (alt : List Item)
    → compound d w ≡ Some alt → Gives n (Term d) (AWord w) alt
found_compound n d less w alt e = elim (or_some (option_map (two_terms d) (binary_of w)) _ alt e) [
  | inl h ↦ let k =
      map_some (two_terms d) (binary_of w) alt h in subst (Gives n (Term d) (AWord w)) k.2
      (binary k.1 less)
  | inr h ↦ elim (or_some (option_map (one_term d) (unary_of w)) (special d w) alt h.1) [
    | inl h ↦ let k =
        map_some (one_term d) (unary_of w) alt h in subst (Gives n (Term d) (AWord w)) k.2
        (unary k.1 less)
    | inr h ↦ found_special n d less w alt h.1
  ]
]

found_named : (n : Noted) (d : ℕ) (x : List ℕ) (t : trees.Tree) → named n x ≡ Some t
    → Gives n (Term d) (AName x) (Mark (Leaf t) ∷ [])
found_named n d x t e =
    elim
    (or_some (option_map trees.Variable (binder_named n x))
    (option_map trees.Input (input_named n x)) t e) [
      | inl h ↦ let k =
          map_some trees.Variable (binder_named n x) t h in subst
          (λ z. Gives n (Term d) (AName x) (Mark (Leaf z) ∷ [])) k.2 (variable k.1)
      | inr h ↦ let k =
          map_some trees.Input (input_named n x) t h.1 in subst
          (λ z. Gives n (Term d) (AName x) (Mark (Leaf z) ∷ [])) k.2
          (an_input (none_map trees.Variable (binder_named n x) h.0) k.1)
    ]

found_term : (n : Noted) (d : ℕ) (t : Lexeme) (alt : List Item) → term_row n d t ≡ Some alt
    → Gives n (Term d) t alt
found_term n d (ANumber v) alt e = subst (Gives n (Term d) (ANumber v)) (same_Some _ _ e) number
found_term n d (AName x) alt e =
    let h = map_some _ (named n x) alt e in subst (Gives n (Term d) (AName x)) h.2
    (found_named n d x h.0 h.1)
found_term n d (AWord w) alt e = at_depth (nat_lt d 256) refl e where
  at_depth : (b : Bool) → nat_lt d 256 ≡ b → cond b (compound d w) None ≡ Some alt
      → Gives n (Term d) (AWord w) alt
  at_depth true h e = found_compound n d (ltb-true d 256 h) w alt e
  at_depth false h e = absurd (cc (e))
found_term n d _ alt e = absurd (cc)

found_name : (n : Noted) (f : Nonterminal) (x : List ℕ) (alt : List Item)
    → name_row n f x ≡ Some alt → Gives n f (AName x) alt
found_name n SizeName x alt e =
    let h = cond_some (is_new n x) _ alt e in subst (Gives n SizeName (AName x)) h.1 (size_name h.0)
found_name n InputName x alt e =
    let h = cond_some (is_new n x) _ alt e in subst (Gives n InputName (AName x)) h.1
    (input_name h.0)
found_name n (LetName d) x alt e = subst (Gives n (LetName d) (AName x)) (same_Some _ _ e) let_name
found_name n (MapName d) x alt e = subst (Gives n (MapName d) (AName x)) (same_Some _ _ e) map_name
found_name n (FoldName d) x alt e =
    subst (Gives n (FoldName d) (AName x)) (same_Some _ _ e) fold_name
found_name n (FoldSecondName d y) x alt e =
    subst (Gives n (FoldSecondName d y) (AName x)) (same_Some _ _ e) fold_second_name
found_name n (LengthFactor least) x alt e =
    let h = map_some _ (size_named n x) alt e in subst (Gives n (LengthFactor least) (AName x)) h.2
    (factor_size h.1)
found_name n _ x alt e = absurd (cc)

found_number : (n : Noted) (f : Nonterminal) (v : ℕ) (alt : List Item) → number_row f v ≡ Some alt
    → Gives n f (ANumber v) alt
found_number n (Multiple x) v alt e =
    let h = cond_some (nat_le 1 v && nat_le v 1048576) _ alt e in
    let k = and_parts (nat_le 1 v) (nat_le v 1048576) h.0 in
    subst (Gives n (Multiple x) (ANumber v)) h.1
    (multiple_number (leb-true 1 v k.0) (leb-true v 1048576 k.1))
found_number n (From x m) v alt e =
    let h = cond_some (nat_le 1 v && divides m v) _ alt e in
    let k = and_parts (nat_le 1 v) (divides m v) h.0 in
    subst (Gives n (From x m) (ANumber v)) h.1 (from (leb-true 1 v k.0) k.1)
found_number n (To x m a) v alt e =
    let h = cond_some (nat_le a v && (nat_le v 1048576 && divides m v)) _ alt e in
    let k = and_parts (nat_le a v) (nat_le v 1048576 && divides m v) h.0 in
    let j = and_parts (nat_le v 1048576) (divides m v) k.1 in
    subst (Gives n (To x m a) (ANumber v)) h.1 (to (leb-true a v k.0) (leb-true v 1048576 j.0) j.1)
found_number n (LengthFactor least) v alt e =
    let h = cond_some (nat_le least v) _ alt e in subst
    (Gives n (LengthFactor least) (ANumber v)) h.1 (factor_number (leb-true least v h.0))
found_number n (Divisor f) v alt e =
    let h = cond_some (nat_le 1 v) _ alt e in subst (Gives n (Divisor f) (ANumber v)) h.1
    (divisor (leb-true 1 v h.0))
found_number n (First least f d) v alt e =
    let h = cond_some (nat_le least v) _ alt e in subst (Gives n (First least f d) (ANumber v)) h.1
    (first_number (leb-true least v h.0))
found_number n (Second least f d) v alt e =
    let h = cond_some (nat_le least v) _ alt e in subst (Gives n (Second least f d) (ANumber v)) h.1
    (second_number (leb-true least v h.0))
found_number n _ v alt e = absurd (cc)

found_operator : (n : Noted) (d : ℕ) (t : Lexeme) (alt : List Item) → operator_row d t ≡ Some alt
    → Gives n (ReduceOperator d) t alt
found_operator n d (AWord w) alt e =
    let h = map_some _ (reducer_of w) alt e in subst (Gives n (ReduceOperator d) (AWord w)) h.2
    (reduce_operator h.1)
found_operator n d _ alt e = absurd (cc)

found_other : (n : Noted) (f : Nonterminal) (t : Lexeme) (alt : List Item)
    → other_row n f t ≡ Some alt → Gives n f t alt
found_other n f (AName x) alt e = found_name n f x alt e
found_other n f (ANumber v) alt e = found_number n f v alt e
found_other n f _ alt e = absurd (cc)

found : (n : Noted) (f : Nonterminal) (t : Lexeme) (alt : List Item) → row n f t ≡ Some alt
    → Gives n f t alt
found n Sizes t alt e = found_sizes n t alt e
found n Inputs t alt e = found_inputs n t alt e
found n (SizeRange x) t alt e = found_range n x t alt e
found n (ArrayType d) t alt e = found_array n d t alt e
found n (ElementType d) t alt e = found_element n d t alt e
found n (AnyType d) t alt e = found_type n d t alt e
found n (LengthRest s) t alt e = found_rest n s t alt e
found n (ProductRest f d) t alt e = found_product n f d t alt e
found n (Term d) t alt e = found_term n d t alt e
found n (ReduceOperator d) t alt e = found_operator n d t alt e
found n f t alt e = found_other n f t alt e

-- ---- what is in the grammar, its row has

only_word : (n : Noted) (d : ℕ) (w : Word) → d < 256 → row n (Term d) (AWord w) ≡ compound d w
only_word n d w less = sym (cond_below d 256 (compound d w) None less)

only_binary : (d : ℕ) (w : Word) (f : BinaryForm) → binary_of w ≡ Some f
    → compound d w ≡ Some (two_terms d f)
only_binary d w f h =
    ap
    (λ o. or_else (option_map (two_terms d) o)
    (or_else (option_map (one_term d) (unary_of w)) (special d w))) h

no_binary : (w : Word) (f : UnaryForm) → unary_of w ≡ Some f → binary_of w ≡ None
no_binary word.First f e = refl
no_binary _ f e = cc

only_unary : (d : ℕ) (w : Word) (f : UnaryForm) → unary_of w ≡ Some f
    → compound d w ≡ Some (one_term d f)
only_unary d w f h =
    ap
    (λ o. or_else (option_map (two_terms d) o)
    (or_else (option_map (one_term d) (unary_of w)) (special d w)))
    (no_binary w f h)
    ∙ ap (λ o. or_else (option_map (one_term d) o) (special d w)) h

only : (n : Noted) (f : Nonterminal) (t : Lexeme) (alt : List Item) → Gives n f t alt
    → row n f t ≡ Some alt
only n f t alt size = refl
only n f t alt first_input = refl
only n f t alt no_input = refl
only n f t alt input = refl
only n f t alt output = refl
only n f t alt (size_name h) = guard (is_new n _) _ None h
only n f t alt multiple = refl
only n f t alt no_multiple = refl
only n f t alt (multiple_number {m = m} p q) =
    guard (nat_le 1 m && nat_le m 1048576) _ None
    (and_from (nat_le 1 m) (nat_le m 1048576) (le-leb 1 m p) (le-leb m 1048576 q))
only n f t alt (from {m = m} {a = a} p q) =
    guard (nat_le 1 a && divides m a) _ None (and_from (nat_le 1 a) (divides m a) (le-leb 1 a p) q)
only n f t alt (to {m = m} {a = a} {b = b} p q r) =
    guard (nat_le a b && (nat_le b 1048576 && divides m b)) _ None
    (and_from (nat_le a b) (nat_le b 1048576 && divides m b) (le-leb a b p)
    (and_from (nat_le b 1048576) (divides m b) (le-leb b 1048576 q) r))
only n f t alt (input_name h) = guard (is_new n _) _ None h
only n f t alt (array_type {d = d} h) = guard (nat_le d 64) _ None (le-leb d 64 h)
only n f t alt element = refl
only n f t alt (element_pair {d = d} h) = guard (nat_le d 64) _ None (le-leb d 64 h)
only n f t alt any_element = refl
only n f t alt (any_array {d = d} h) = guard (nat_le d 64) _ None (le-leb d 64 h)
only n f t alt (any_pair {d = d} h) = guard (nat_le d 64) _ None (le-leb d 64 h)
only n f t alt (factor_number {least = least} {v = v} h) =
    guard (nat_le least v) _ None (le-leb least v h)
only n f t alt (factor_size h) = ap (option_map _) h
only n f t alt length_times = refl
only n f t alt length_plus = refl
only n f t alt length_minus = refl
only n f t alt length_end = refl
only n f t alt number = refl
only n f t alt (variable {x = x} h) =
    ap
    (λ o. option_map (λ t. Mark (Leaf t) ∷ [])
    (or_else (option_map trees.Variable o) (option_map trees.Input (input_named n x)))) h
only n f t alt (an_input {x = x} h k) =
    ap
    (λ o. option_map (λ t. Mark (Leaf t) ∷ [])
    (or_else (option_map trees.Variable o) (option_map trees.Input (input_named n x)))) h
    ∙ ap (λ o. option_map (λ t. Mark (Leaf t) ∷ []) (option_map trees.Input o)) k
only n f t alt (binary {d = d} {w = w} {f = g} h less) = only_word n d w less ∙ only_binary d w g h
only n f t alt (unary {d = d} {w = w} {f = g} h less) = only_word n d w less ∙ only_unary d w g h
only n f t alt (div {d = d} less) = only_word n d word.Div less
only n f t alt (rem {d = d} less) = only_word n d word.Rem less
only n f t alt (divisor {v = v} h) = guard (nat_le 1 v) _ None (le-leb 1 v h)
only n f t alt (select {d = d} less) = only_word n d word.Select less
only n f t alt (let_in {d = d} less) = only_word n d word.Let less
only n f t alt let_name = refl
only n f t alt (map {d = d} less) = only_word n d word.Map less
only n f t alt map_name = refl
only n f t alt (reduce {d = d} less) = only_word n d word.Reduce less
only n f t alt (reduce_operator h) = ap (option_map _) h
only n f t alt (fold {d = d} less) = only_word n d word.Fold less
only n f t alt fold_name = refl
only n f t alt fold_second_name = refl
only n f t alt (split {d = d} less) = only_word n d word.Split less
only n f t alt (stride {d = d} less) = only_word n d word.Stride less
only n f t alt product_times = refl
only n f t alt product_end = refl
only n f t alt (slide {d = d} less) = only_word n d word.Slide less
only n f t alt (pad {d = d} less) = only_word n d word.Pad less
only n f t alt (first_number {least = least} {v = v} h) =
    guard (nat_le least v) _ None (le-leb least v h)
only n f t alt (second_number {least = least} {v = v} h) =
    guard (nat_le least v) _ None (le-leb least v h)

-- the table is the program grammar's
pub decided : Decides programs table
decided =
    record {
      same = same-same;
      itself = same-itself;
      found = found;
      only = only;
      marked = λ m n. refl;
    }
