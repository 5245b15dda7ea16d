-- The canonical text of a table.
use Rattle.std.specs.Prelude.{ℕ, List, [], ◌∷◌, map, codes}
pub use Rattle.gf_token.specs.TextLayout.{lines_text, list_text, quoted, spaced}
use Rattle.gf_token.specs.Token.{Lexeme}
use Rattle.gf_token.specs.TokenSpelling.{Spells}
use Rattle.gf_fraction.specs.NumberText.{number_text}
use Rattle.gf_nfg.specs.Table.{Table, rows}
use Rattle.gf_nfg.specs.Sentence.{Sentence}

-- format, title and players; the strategies; the comment; an empty line; the payoffs at each
-- profile
abbrev pub table_text : Table → List ℕ
table_text t = lines_text
    (spaced (codes "NFG" ∷ codes "1" ∷ codes "R" ∷ quoted t.title ∷ list_text (map quoted t.players)
    ∷ [])
    ∷ list_text (map (λ labels. list_text (map quoted labels)) t.strategies)
    ∷ quoted t.comment
    ∷ []
    ∷ map (λ row. spaced (map number_text row)) (rows t))

-- the bytes of a strategic file that means this table
abbrev pub SpellsTable : List ℕ → Table → Type 0
SpellsTable bytes t =
    (lexemes : List Lexeme) × Spells 0 bytes lexemes × Sentence (map (λ l. l.token) lexemes) t
