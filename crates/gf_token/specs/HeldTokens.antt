-- Tokens as the code has them, and what is taken of those to come.
use Rattle.std.specs.Prelude.{◌≡◌, List, [], ◌∷◌, Option, Some, None, Result, Ok, Err}
use Rattle.gf_token.specs.Token.{Token, Lexeme, lexeme}
use Rattle.gf_token.specs.Token.Token.{Opening, Closing, Comma, Text, Bare, Broken}
use Rattle.gf_token.specs.Label.{label_of}
use Rattle.gf_token.specs.declared.fault.Fault.{Fault}
use Rattle.gf_token.specs.declared.fault.Why.{Why}
use Rattle.gf_token.specs.declared.token.Kind.{Kind}
use Rattle.gf_token.specs.declared.token.Token as code

-- the token that a kind is
abbrev pub token_of : Kind → Token
token_of Kind.Opening = Opening
token_of Kind.Closing = Closing
token_of Kind.Comma = Comma
token_of (Kind.Text label) = Text (label_of label)
token_of (Kind.Bare bytes) = Bare bytes.now

-- a token of the code with its span
abbrev pub lexeme_of : code.Token → Lexeme
lexeme_of t = lexeme t.span.start t.span.end (token_of t.kind)

-- what the next of these tokens is, and which are left
abbrev pub Nexts : List Lexeme → Result (Option code.Token) Fault → List Lexeme → Type 0
Nexts before (Ok (Some t)) now = before ≡ lexeme_of t ∷ now
Nexts before (Ok None) now = (before ≡ []) × (now ≡ [])
Nexts before (Err f) now =
    (before ≡ lexeme f.span.start f.span.end Broken ∷ []) × (f.why ≡ Why.Unterminated)
    × (now ≡ before)
