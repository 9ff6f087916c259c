-- Lines and what each is read as: whole ones, and columns of malformed ones.
use Rattle.std.specs.Prelude.{◌≡◌, ℕ, List, [], ◌∷◌}
use Rattle.text.specs.Grammar.{to_add, to_ask, to_drop}
use Rattle.text.specs.Reader.{Line, form, formed, read_line, totalled}

-- a line and what it is read as
abbrev pub Sample : Type 0
Sample = List ℕ × Line

-- "" | "(add" | "(ask (1)" | "(ask (1)))" | "(ask (01))" | "(ask (65536))" | "(drop (0))" | "(add (1 (1) (2)))"
unfoldable pub samples : List Sample
samples =
    ([], form 1) ∷ (40 ∷ 97 ∷ 100 ∷ 100 ∷ [], form 5) ∷
    (40 ∷ 97 ∷ 115 ∷ 107 ∷ 32 ∷ 40 ∷ 49 ∷ 41 ∷ [], form 9) ∷
    (40 ∷ 97 ∷ 115 ∷ 107 ∷ 32 ∷ 40 ∷ 49 ∷ 41 ∷ 41 ∷ 41 ∷ [], form 10) ∷
    (40 ∷ 97 ∷ 115 ∷ 107 ∷ 32 ∷ 40 ∷ 48 ∷ 49 ∷ 41 ∷ 41 ∷ [], form 8) ∷
    (40 ∷ 97 ∷ 115 ∷ 107 ∷ 32 ∷ 40 ∷ 54 ∷ 53 ∷ 53 ∷ 51 ∷ 54 ∷ 41 ∷ 41 ∷ [], form 11) ∷
    (40 ∷ 100 ∷ 114 ∷ 111 ∷ 112 ∷ 32 ∷ 40 ∷ 48 ∷ 41 ∷ 41 ∷ [], formed to_drop (0 ∷ 0 ∷ 0 ∷ [])) ∷ (
      40 ∷ 97 ∷ 100 ∷ 100 ∷ 32 ∷ 40 ∷ 49 ∷ 32 ∷ 40 ∷ 49 ∷ 41 ∷ 32 ∷ 40 ∷ 50 ∷ 41 ∷ 41 ∷ 41 ∷ [],
      formed to_add (0 ∷ 1 ∷ 2 ∷ 0 ∷ 1 ∷ 0 ∷ 0 ∷ 2 ∷ 0 ∷ []),
    ) ∷ []

-- of order 2: "(total)" | "(t" | "(tadd" | "(tota" | "(total" | "(total )" | "(totals)" | "(total))"
unfoldable pub total_samples : List Sample
total_samples =
    (40 ∷ 116 ∷ 111 ∷ 116 ∷ 97 ∷ 108 ∷ 41 ∷ [], totalled) ∷ (40 ∷ 116 ∷ [], form 3) ∷
    (40 ∷ 116 ∷ 97 ∷ 100 ∷ 100 ∷ [], form 3) ∷ (40 ∷ 116 ∷ 111 ∷ 116 ∷ 97 ∷ [], form 6) ∷
    (40 ∷ 116 ∷ 111 ∷ 116 ∷ 97 ∷ 108 ∷ [], form 7) ∷ (40 ∷ 116 ∷ 111 ∷ 116 ∷ 97 ∷ 108 ∷ 32 ∷ 41 ∷ [], form 7) ∷
    (40 ∷ 116 ∷ 111 ∷ 116 ∷ 97 ∷ 108 ∷ 115 ∷ 41 ∷ [], form 7) ∷
    (40 ∷ 116 ∷ 111 ∷ 116 ∷ 97 ∷ 108 ∷ 41 ∷ 41 ∷ [], form 8) ∷ []

-- of order 5: "(ask (256))" | "(ask (65535))" | "(ask (65540))" | "(ask (65600))" | "(ask (7000))" | "(ask (70000))"
unfoldable pub label_samples : List Sample
label_samples =
    (40 ∷ 97 ∷ 115 ∷ 107 ∷ 32 ∷ 40 ∷ 50 ∷ 53 ∷ 54 ∷ 41 ∷ 41 ∷ [], formed to_ask (1 ∷ 0 ∷ 0 ∷ [])) ∷
    (40 ∷ 97 ∷ 115 ∷ 107 ∷ 32 ∷ 40 ∷ 54 ∷ 53 ∷ 53 ∷ 51 ∷ 53 ∷ 41 ∷ 41 ∷ [], formed to_ask (255 ∷ 255 ∷ 0 ∷ [])) ∷
    (40 ∷ 97 ∷ 115 ∷ 107 ∷ 32 ∷ 40 ∷ 54 ∷ 53 ∷ 53 ∷ 52 ∷ 48 ∷ 41 ∷ 41 ∷ [], form 11) ∷ (
      40 ∷ 97 ∷ 115 ∷ 107 ∷ 32 ∷ 40
          ∷ 54 ∷ 53 ∷ 54 ∷ 48 ∷ 48 ∷ 41 ∷ 41 ∷ [],
      form 11,
    ) ∷ (
      40 ∷ 97 ∷ 115 ∷ 107 ∷ 32 ∷ 40 ∷ 55 ∷ 48 ∷ 48 ∷ 48 ∷ 41 ∷ 41 ∷
          [],
      formed to_ask (27 ∷ 88 ∷ 0 ∷ []),
    ) ∷ (
      40 ∷ 97 ∷ 115 ∷ 107 ∷ 32 ∷ 40 ∷ 55 ∷ 48 ∷ 48 ∷ 48 ∷ 48 ∷ 41 ∷ 41 ∷ [],
      form 11,
    ) ∷ []

-- every line of a table is read as it says
unfoldable pub AllRead : List Sample → Type 0
AllRead [] = Unit {0}
AllRead (x ∷ xs) = (read_line x.0 ≡ x.1) × AllRead xs
