-- Where the profiles of a strategic file pass their limit.
use Rattle.std.specs.Prelude.{◌≡◌, ℕ, ◌<◌, ◌≤◌, List, [], ◌∷◌, ◌++◌}
use Rattle.gf_token.specs.Place.{tokens_of}
use Rattle.gf_token.specs.Token.{Token, Lexeme}
use Rattle.gf_token.specs.TokenSpelling.{Spells}
use Rattle.gf_token.specs.declared.fault.Span.{Span}
use Rattle.gf_nfg.specs.Limit.{profile_limit}
use Rattle.gf_nfg.specs.Place.{Place}
use Rattle.gf_nfg.specs.Rows.{StandsAt}

-- the tokens stand at a place within the limit, and with one more at a place past it
abbrev pub PassesLimit : List Token → Token → Type 0
PassesLimit tokens token = (here next : Place) × StandsAt tokens here
    × StandsAt (tokens ++ token ∷ []) next
    × (here.known.profiles ≤ profile_limit) × (profile_limit < next.known.profiles)

-- The span is that of the token with which the profiles pass their limit: a player's count, or the
-- brace that closes a player's list of labels.
pub record IsLimitPlace (bytes : List ℕ) (span : Span) : Type 0 where
  pub before : List Lexeme
  pub lexeme : Lexeme
  pub after : List Lexeme
  pub spelled : Spells 0 bytes (before ++ lexeme ∷ after)
  pub place : (span.start ≡ lexeme.start) × (span.end ≡ lexeme.end)
  pub passes : PassesLimit (tokens_of before) lexeme.token
