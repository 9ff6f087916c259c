-- A console fed byte by byte prints what its input's lines print: bytes of a line beyond those held change nothing.
use mathlib.Core.Bool.{Bool, cond, false, true}
use mathlib.Core.List.{List, [], ◌++◌, ◌∷◌, append_assoc}
use mathlib.Core.Path.{◌∙◌, ◌≡◌, ap, refl, sym}
use Prim.Native.Nat.{◌≤◌, ◌<◌, suc, ℕ}
use native.Mathlib.Omega.{arith}
use lib.Dec.{eqb, leb, ltb}
use lib.ListN.{length, length-append, length-take, replicate, take}
use lib.Seq.{take_all, take-append-le}
use borrow.Author.Tests.{le-ltb, leb-false, leb-true, ltb-false, ltb-true}
use Rattle.format.specs.Format.{max_line, scratch_bytes, table_bytes}
use Rattle.serving.specs.Serving.{closing, handled, reported, served}
use Rattle.text.proofs.LineMeaning.{line-long}
use Rattle.text.specs.Reader.{Line, read_line}
use Rattle.console.specs.Input.{lines_from, lines_of, newline}
use Rattle.console.specs.Console.{Console, after, closed, fed, held_bytes, holding, input_ended, kept, line_ended}
use Rattle.console.specs.Console.{printed, printed_from, start, stepped}

-- a console that has met these bytes of a line
abbrev pub midway : List ℕ → ℕ → List ℕ → List ℕ → List ℕ → Console
midway line n b w t = record { held = take held_bytes line; lines = n; table = b; scratch = w; text = t }

holding-take : (line : List ℕ) (b : ℕ) → holding (take held_bytes line) b ≡ take held_bytes (line ++ (b ∷ []))
unfolding holding
holding-take line b = go (ltb (length line) held_bytes) refl
  where
    go : (t : Bool) → ltb (length line) held_bytes ≡ t →
        cond (ltb (length (take held_bytes line)) held_bytes) (take held_bytes line ++ (b ∷ [])) (take held_bytes line) ≡
        take held_bytes (line ++ (b ∷ []))
    go true e =
        let h = ltb-true (length line) held_bytes e in
        let f : length (line ++ (b ∷ [])) ≤ held_bytes = simp length-append (omega arith) in
        rw (take_all held_bytes line (omega arith), e, take_all held_bytes (line ++ (b ∷ [])) f)
    go false e =
        let h = ltb-false (length line) held_bytes e in
        let f : length (take held_bytes line) ≡ held_bytes = simp length-take (omega arith) in
        rw (le-ltb (length (take held_bytes line)) held_bytes (omega arith), take-append-le held_bytes line (b ∷ []) h)

-- a line cut to the bytes that are held reads as it does whole
read_take : (line : List ℕ) → read_line (take held_bytes line) ≡ read_line line
read_take line = go (leb (length line) max_line) refl
  where
    go : (t : Bool) → leb (length line) max_line ≡ t → read_line (take held_bytes line) ≡ read_line line
    go true e =
        let h = leb-true (length line) max_line e in ap read_line (take_all held_bytes line (omega arith))
    go false e =
        let h = leb-false (length line) max_line e in
        let f : max_line < length (take held_bytes line) = simp length-take (omega arith) in
        (line-long (take held_bytes line)).1 f ∙ sym ((line-long line).1 h)

served-take : (n : ℕ) (line b w : List ℕ) → served n (take held_bytes line) b w ≡ served n line b w
unfolding served
served-take n line b w = ap (λ (r : Line). reported n (handled r b w)) (read_take line)

-- a line that ends midway
ended-midway : (line : List ℕ) (n : ℕ) (b w t : List ℕ) →
    line_ended (midway line n b w t) ≡ after (midway line n b w t) (served (suc n) line b w)
unfolding line_ended
ended-midway line n b w t = ap (after (midway line n b w t)) (served-take (suc n) line b w)

-- the input ends midway
closed-midway : (line : List ℕ) (n : ℕ) (b w t : List ℕ) →
    closed (midway line n b w t) ≡ t ++ printed_from (lines_from [] line) n b w
unfolding closed input_ended
closed-midway [] n b w t = refl
closed-midway (c ∷ l) n b w t =
    let r = served (suc n) (c ∷ l) b w in
    ap (λ (y : Console). y.text ++ closing y.lines y.table) (ended-midway (c ∷ l) n b w t) ∙
    append_assoc t r.text (closing (suc n) r.table)

-- one byte more, if what is after it prints as it must from anywhere
byte-midway : (c : ℕ) (s line : List ℕ) (n : ℕ) (b w t : List ℕ) →
    ((l : List ℕ) (m : ℕ) (b' w' t' : List ℕ) →
    closed (fed (midway l m b' w' t') s) ≡ t' ++ printed_from (lines_from s l) m b' w') →
    closed (fed (midway line n b w t) (c ∷ s)) ≡ t ++ printed_from (lines_from (c ∷ s) line) n b w
unfolding stepped
byte-midway c s line n b w t rest = go (eqb c newline)
  where
    go : (z : Bool) → closed (fed (cond z (line_ended (midway line n b w t)) (kept (midway line n b w t) c)) s) ≡
        t ++ printed_from (cond z (line ∷ lines_from s []) (lines_from s (line ++ (c ∷ [])))) n b w
    go true =
        let r = served (suc n) line b w in
        ap (λ (y : Console). closed (fed y s)) (ended-midway line n b w t) ∙
        (rest [] (suc n) r.table r.scratch (t ++ r.text) ∙
        append_assoc t r.text (printed_from (lines_from s []) (suc n) r.table r.scratch))
    go false =
        ap (λ (l : List ℕ). closed (fed (record { held = l; lines = n; table = b; scratch = w; text = t }) s))
        (holding-take line c) ∙ rest (line ++ (c ∷ [])) n b w t

pub fed-midway : (s line : List ℕ) (n : ℕ) (b w t : List ℕ) →
    closed (fed (midway line n b w t) s) ≡ t ++ printed_from (lines_from s line) n b w
fed-midway [] line n b w t = closed-midway line n b w t
fed-midway (c ∷ s) line n b w t =
    byte-midway c s line n b w t (λ l m b' w' t'. fed-midway s l m b' w' t')

-- a whole input, fed from the start in parts of any lengths, prints what its lines print
pub fed-printed : (input : List ℕ) → closed (fed start input) ≡ printed input
unfolding start printed lines_of
fed-printed input = fed-midway input [] 0 (replicate table_bytes 0) (replicate scratch_bytes 0) []
