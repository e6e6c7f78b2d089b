-- What the code's tokens show, without where their names lie in memory.
use Rattle.std.specs.Prelude.{ℕ}
use Rattle.lift_reader.specs.declared.token.Kind.{Kind}
use Rattle.lift_reader.specs.declared.token.Kind.TheVariants as kinds
use Rattle.lift_reader.specs.declared.token.Token.{Token}
use Rattle.lift_reader.specs.Tokens.{Lexeme, AWord, AName, ANumber, ASymbol, Wrong}

-- the token that a kind of token shows
abbrev pub lexeme : Kind → Lexeme
lexeme (kinds.Word w) = AWord w
lexeme (kinds.Name x) = AName x.now
lexeme (kinds.Number n) = ANumber n
lexeme (kinds.Symbol b) = ASymbol b
lexeme kinds.Wrong = Wrong

-- a token, with the byte at which it begins
abbrev pub placed : Token → ℕ × Lexeme
placed t = (t.offset, lexeme t.kind)
