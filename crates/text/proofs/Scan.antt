-- Scanning in parts: the first byte that is not allowed splits a line, and every other place can be brought to an
-- end.
use Rattle.std.proofs.Common.{◌≡◌, ℕ, suc, ◌+◌, ◌<◌, Bool, true, false, cond, eqb, ◌⊎◌, List, [], ◌∷◌, ◌++◌, length, get_or, drop, sym, refl, ap, ◌∙◌, inl, inr, add-zero, arith, drop-cons}
use Rattle.lists.specs.Decimal.{digit}
use Rattle.text.specs.Grammar.{close_bracket, space}
use Rattle.text.specs.Reader.{Open, Place, among, bad, after_tree, ending, expecting, extends, is_digit, line_read}
use Rattle.text.specs.Reader.{naming, next, onward, scan, stuck, tree_read}
use Rattle.trees.specs.Tree.{Forest, Tree, ◌⧺◌, cons, nil, node}
use Rattle.lists.proofs.Tests.{eqb_same}

pub scan-append : (s r : List ℕ) (n : ℕ) (p : Place) → scan (s ++ r) n p ≡ scan r (n + length s) (scan s n p)
unfolding scan
scan-append [] r n p = rw (add-zero n)
scan-append (b ∷ s) r n p =
    let e : suc n + length s ≡ n + suc (length s) = omega arith in
    rw (← e) (scan-append s r (suc n) (next n p b))

pub scan-stuck : (s : List ℕ) (n m : ℕ) → scan s n (stuck m) ≡ stuck m
unfolding scan next
scan-stuck [] n m = refl
scan-stuck (b ∷ s) n m = scan-stuck s (suc n) m

-- one byte further, at any place of a line
pub scan-from : (s : List ℕ) (e n : ℕ) (p : Place) → e < length s →
    scan (drop e s) n p ≡ scan (drop (suc e) s) (suc n) (next n p (get_or s e 0))
unfolding scan
scan-from s e n p h = rw (drop-cons s e 0 h)

pub ending-stuck : (k : ℕ) (s : List ℕ) (n m : ℕ) → ending k (scan s n (stuck m)) ≡ bad m
unfolding ending
ending-stuck k s n m = rw (scan-stuck s n m)

-- no byte was refused on the way to the place
abbrev pub Live : Place → Type 0
Live (expecting w os) = Unit {0}
Live (naming a os) = Unit {0}
Live (among a f os) = Unit {0}
Live (tree_read t) = Unit {0}
Live (line_read t) = Unit {0}
Live (stuck m) = ⊥

-- p is live, or stuck in column n
StuckAt : ℕ → Place → Type 0
StuckAt n p = Live p ⊎ (p ≡ stuck n)

cond-stuck : (b : Bool) (n : ℕ) (p q : Place) → StuckAt n p → StuckAt n q → StuckAt n (cond b p q)
cond-stuck true n p q h k = h
cond-stuck false n p q h k = k

after-live : (t : Tree) (os : List Open) → Live (after_tree t os)
after-live t [] = tt
after-live t (o ∷ os) = tt

onward-stuck : (n a : ℕ) (f : Forest) (os : List Open) (b : ℕ) → StuckAt n (onward n a f os b)
unfolding onward StuckAt
onward-stuck n a f os b =
    cond-stuck (eqb b close_bracket) n _ _ (inl (after-live (node a f) os))
    (cond-stuck (eqb b space) n _ _ (inl tt) (inr refl))

next-stuck : (n : ℕ) (p : Place) (b : ℕ) → Live p → StuckAt n (next n p b)
unfolding next StuckAt
next-stuck n (expecting [] os) b h = cond-stuck (is_digit b) n _ _ (inl tt) (inr refl)
next-stuck n (expecting (w ∷ ws) os) b h = cond-stuck (eqb b w) n _ _ (inl tt) (inr refl)
next-stuck n (naming a os) b h = cond-stuck (extends a b) n _ _ (inl tt) (onward-stuck n a nil os b)
next-stuck n (among a f os) b h = onward-stuck n a f os b
next-stuck n (tree_read t) b h = cond-stuck (eqb b close_bracket) n _ _ (inl tt) (inr refl)
next-stuck n (line_read t) b h = inr refl
next-stuck n (stuck m) b h = absurd h

-- the first byte of s that is not allowed is in column m
pub record Stop (s : List ℕ) (n : ℕ) (p : Place) (m : ℕ) : Type 0 where
  pub first : List ℕ
  pub byte : ℕ
  pub rest : List ℕ
  pub text : s ≡ first ++ (byte ∷ rest)
  pub column : m ≡ n + length first
  pub live : Live (scan first n p)
  pub stops : next m (scan first n p) byte ≡ stuck m

pub first-stuck : (s : List ℕ) (n : ℕ) (p : Place) (m : ℕ) → Live p → scan s n p ≡ stuck m → Stop s n p m
unfolding scan StuckAt
first-stuck [] n p m h e = absurd (rw e at h)
first-stuck (b ∷ s) n p m h e = go (next-stuck n p b h) (λ k. first-stuck s (suc n) (next n p b) m k e)
  where
    go : Live (next n p b) ⊎ (next n p b ≡ stuck n) → (Live (next n p b) → Stop s (suc n) (next n p b) m) →
        Stop (b ∷ s) n p m
    go (inl k) ih =
        let r = ih k in
        record {
          first = b ∷ r.first;
          byte = r.byte;
          rest = r.rest;
          text = ap (λ x. b ∷ x) r.text;
          column = omega (arith, r.column);
          live = r.live;
          stops = r.stops;
        }
    go (inr q) ih =
        let c : stuck n ≡ stuck m = sym (scan-stuck s (suc n) n) ∙ (rw q at e) in
        let d : n ≡ m = cc in
        record {
          first = [];
          byte = b;
          rest = s;
          text = refl;
          column = omega arith;
          live = h;
          stops = rw (← d) q;
        }

-- bytes that bring a place to the end of a line
pub record Completion (p : Place) : Type 0 where
  pub rest : List ℕ
  pub tree : Tree
  pub ends : (n : ℕ) → scan rest n p ≡ line_read tree

-- b, and then what completes the place after it
before : (p q : Place) (b : ℕ) → ((n : ℕ) → next n p b ≡ q) → Completion q → Completion p
unfolding scan
before p q b e c = record { rest = b ∷ c.rest; tree = c.tree; ends = λ n. rw (e n) (c.ends (suc n)) }

complete-after : (os : List Open) (t : Tree) → Completion (after_tree t os)
unfolding scan next onward
complete-after [] t = record { rest = close_bracket ∷ []; tree = t; ends = λ n. refl }
complete-after (o ∷ os) t =
    let u = node o.label (o.children ⧺ cons t nil) in
    before (after_tree t (o ∷ os)) (after_tree u os) close_bracket (λ n. refl) (complete-after os u)

complete-naming : (a : ℕ) (os : List Open) → Completion (naming a os)
unfolding next onward
complete-naming a os =
    before (naming a os) (after_tree (node a nil) os) close_bracket (λ n. refl) (complete-after os (node a nil))

complete-expecting : (w : List ℕ) (os : List Open) → Completion (expecting w os)
unfolding next
complete-expecting [] os = before (expecting [] os) (naming 0 os) (digit 0) (λ n. refl) (complete-naming 0 os)
complete-expecting (b ∷ w) os =
    before (expecting (b ∷ w) os) (expecting w os) b (λ n. rw (eqb_same b)) (complete-expecting w os)

pub complete : (p : Place) → Live p → Completion p
unfolding scan next onward
complete (expecting w os) h = complete-expecting w os
complete (naming a os) h = complete-naming a os
complete (among a f os) h =
    before (among a f os) (after_tree (node a f) os) close_bracket (λ n. refl) (complete-after os (node a f))
complete (tree_read t) h = record { rest = close_bracket ∷ []; tree = t; ends = λ n. refl }
complete (line_read t) h = record { rest = []; tree = t; ends = λ n. refl }
complete (stuck m) h = absurd h
