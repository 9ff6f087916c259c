-- An input in parts of any lengths, each part's text written before the next, prints what its lines print.
use mathlib.Core.Bool.{Bool, cond, false, true}
use mathlib.Core.List.{List, [], ◌++◌, ◌∷◌, append_assoc, append-nil}
use mathlib.Core.Path.{◌∙◌, ◌≡◌, ap, refl, sym}
use Prim.Native.Nat.{ℕ}
use lib.Dec.{eqb}
use Rattle.console.specs.Input.{is_empty, newline}
use Rattle.console.specs.Console.{Console, closed, fed, input_ended, joined, kept, line_ended, printed, start}
use Rattle.console.specs.Console.{stepped, written, written_for}
use Rattle.serving.specs.Serving.{closing, served}
use Rattle.console.proofs.Feeding.{fed-append}
use Rattle.console.proofs.Printed.{fed-printed}

-- a console that printed t before all that it has printed
abbrev pub behind : List ℕ → Console → Console
behind t x = record { held = x.held; lines = x.lines; table = x.table; scratch = x.scratch; text = t ++ x.text }

ended-behind : (t : List ℕ) (x : Console) → line_ended (behind t x) ≡ behind t (line_ended x)
unfolding line_ended
ended-behind t x = λ i. record {
  held = [];
  lines = (line_ended x).lines;
  table = (line_ended x).table;
  scratch = (line_ended x).scratch;
  text = append_assoc t x.text (served (line_ended x).lines x.held x.table x.scratch).text i;
}

stepped-behind : (t : List ℕ) (x : Console) (b : ℕ) → stepped (behind t x) b ≡ behind t (stepped x b)
unfolding stepped
stepped-behind t x b = go (eqb b newline)
  where
    go : (z : Bool) → cond z (line_ended (behind t x)) (kept (behind t x) b) ≡ behind t (cond z (line_ended x) (kept x b))
    go true = ended-behind t x
    go false = refl

pub fed-behind : (s t : List ℕ) (x : Console) → fed (behind t x) s ≡ behind t (fed x s)
fed-behind [] t x = refl
fed-behind (b ∷ s) t x =
    ap (λ (y : Console). fed y s) (stepped-behind t x b) ∙ fed-behind s t (stepped x b)

closed-behind : (t : List ℕ) (x : Console) → closed (behind t x) ≡ t ++ closed x
unfolding closed input_ended
closed-behind t x = go (is_empty x.held)
  where
    go : (z : Bool) →
        (cond z (behind t x) (line_ended (behind t x))).text ++
        closing (cond z (behind t x) (line_ended (behind t x))).lines
        (cond z (behind t x) (line_ended (behind t x))).table ≡
        t ++ ((cond z x (line_ended x)).text ++ closing (cond z x (line_ended x)).lines (cond z x (line_ended x)).table)
    go true = append_assoc t x.text (closing x.lines x.table)
    go false =
        ap (λ (y : Console). y.text ++ closing y.lines y.table) (ended-behind t x) ∙
        append_assoc t (line_ended x).text (closing (line_ended x).lines (line_ended x).table)

-- what was written and is no longer held comes first all the same
behind-written : (x : Console) → behind x.text (written x) ≡ x
behind-written x = λ i. record {
  held = x.held;
  lines = x.lines;
  table = x.table;
  scratch = x.scratch;
  text = append-nil x.text i;
}

pub written-closed : (ss : List (List ℕ)) (x : Console) → written_for x ss ≡ closed (fed x (joined ss))
written-closed [] x = refl
written-closed (s ∷ ss) x =
    let y = fed x s in
    ap (λ (l : List ℕ). y.text ++ l) (written-closed ss (written y)) ∙
    (sym (closed-behind y.text (fed (written y) (joined ss))) ∙
    (ap closed (sym (fed-behind (joined ss) y.text (written y)) ∙
    ap (λ (z : Console). fed z (joined ss)) (behind-written y)) ∙
    ap closed (sym (fed-append s (joined ss) x))))

-- what is written for an input, in whatever parts it comes
pub written-printed : (ss : List (List ℕ)) → written_for start ss ≡ printed (joined ss)
written-printed ss = written-closed ss start ∙ fed-printed (joined ss)

-- a console whose text was written goes on as it did
pub fed-written : (s : List ℕ) (x : Console) → written (fed (written x) s) ≡ written (fed x s)
fed-written s x =
    ap written (sym (fed-behind s x.text (written x)) ∙ ap (λ (y : Console). fed y s) (behind-written x))
