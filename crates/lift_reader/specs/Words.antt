-- The reserved words.
use Rattle.std.specs.Prelude.{List, [], ◌∷◌, Option, bytes_eq, codes, find, ℕ}
use Rattle.lift_reader.specs.declared.word.Word.{Word}
use Rattle.lift_reader.specs.declared.word.Word.TheVariants.{Size, Multiple, From, To, Input, Output, U32, Add, Mul, Min, Max, And, Or, Xor, Sub, Shl, Shr, Lt, Eq, Div, Rem, Select, Pair, First, Second, Let, In, Map, Reduce, Fold, Zip, Join, Transpose, Split, Reverse, Stride, Slide, Pad, MapGlb, MapWrg, MapLcl, MapSeq, FoldSeq, ToLocal, ToPrivate}

-- the bytes by which a text writes a word
abbrev pub spelling : Word → List ℕ
spelling Size = codes "size"
spelling Multiple = codes "multiple"
spelling From = codes "from"
spelling To = codes "to"
spelling Input = codes "input"
spelling Output = codes "output"
spelling U32 = codes "u32"
spelling Add = codes "add"
spelling Mul = codes "mul"
spelling Min = codes "min"
spelling Max = codes "max"
spelling And = codes "and"
spelling Or = codes "or"
spelling Xor = codes "xor"
spelling Sub = codes "sub"
spelling Shl = codes "shl"
spelling Shr = codes "shr"
spelling Lt = codes "lt"
spelling Eq = codes "eq"
spelling Div = codes "div"
spelling Rem = codes "rem"
spelling Select = codes "select"
spelling Pair = codes "pair"
spelling First = codes "first"
spelling Second = codes "second"
spelling Let = codes "let"
spelling In = codes "in"
spelling Map = codes "map"
spelling Reduce = codes "reduce"
spelling Fold = codes "fold"
spelling Zip = codes "zip"
spelling Join = codes "join"
spelling Transpose = codes "transpose"
spelling Split = codes "split"
spelling Reverse = codes "reverse"
spelling Stride = codes "stride"
spelling Slide = codes "slide"
spelling Pad = codes "pad"
spelling MapGlb = codes "mapGlb"
spelling MapWrg = codes "mapWrg"
spelling MapLcl = codes "mapLcl"
spelling MapSeq = codes "mapSeq"
spelling FoldSeq = codes "foldSeq"
spelling ToLocal = codes "toLocal"
spelling ToPrivate = codes "toPrivate"

-- all reserved words
abbrev pub words : List Word
words =
    Size ∷ Multiple ∷ From ∷ To ∷ Input ∷ Output ∷ U32 ∷ Add ∷ Mul ∷ Min ∷ Max ∷ And ∷ Or ∷ Xor
    ∷ Sub ∷ Shl ∷ Shr ∷ Lt ∷ Eq ∷ Div ∷ Rem ∷ Select ∷ Pair ∷ First ∷ Second ∷ Let ∷ In ∷ Map
    ∷ Reduce ∷ Fold ∷ Zip ∷ Join ∷ Transpose ∷ Split ∷ Reverse ∷ Stride ∷ Slide ∷ Pad ∷ MapGlb
    ∷ MapWrg ∷ MapLcl ∷ MapSeq ∷ FoldSeq ∷ ToLocal ∷ ToPrivate ∷ []

-- the word that a text writes by these bytes
unfoldable pub word_of : List ℕ → Option Word
word_of bytes = find (λ word. bytes_eq (spelling word) bytes) words
