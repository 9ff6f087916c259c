-- One form of a line, with the bytes w before its tree: what is read is the tree, or the first byte that no such line
-- has there.
use Rattle.std.proofs.Common.{◌≡◌, ℕ, suc, ◌+◌, ◌-◌, ◌⊎◌, List, [], ◌∷◌, ◌++◌, length, take, sym, ap, ◌∙◌, subst, inl, inr, append_assoc, add-zero, arith, length-append, take_all, take_at}
use Rattle.text.specs.Grammar.{Begins, FirstBad, Labelled, close_bracket, open_bracket, tree_text}
use Rattle.text.specs.Reader.{Open, Place, among, bad, ending, expecting, line_read, naming, next, read_form}
use Rattle.text.specs.Reader.{scan, stuck, tree_read, whole}
use Rattle.trees.specs.Tree.{Tree}
use Rattle.lists.proofs.Tests.{eqb_same}
use Rattle.text.proofs.Places.{scan-sound}
use Rattle.text.proofs.Scan.{Live, Stop, complete, first-stuck, scan-append, scan-stuck}
use Rattle.text.proofs.Text.{scan-tree}

-- a whole form, and the place before it
abbrev form_text : List ℕ → Tree → List ℕ
form_text w t = w ++ (tree_text t ++ (close_bracket ∷ []))

abbrev pub form_start : List ℕ → Place
form_start w = expecting (w ++ (open_bracket ∷ [])) []

pub scan-expected : (v u s : List ℕ) (n : ℕ) (os : List Open) →
    scan (v ++ s) n (expecting (v ++ u) os) ≡ scan s (n + length v) (expecting u os)
unfolding scan next
scan-expected [] u s n os = rw (add-zero n)
scan-expected (b ∷ v) u s n os =
    let e : suc n + length v ≡ n + suc (length v) = omega arith in
    let p : next n (expecting (b ∷ (v ++ u)) os) b ≡ expecting (v ++ u) os = rw (eqb_same b) in
    rw (← e) (ap (scan (v ++ s) (suc n)) p ∙ scan-expected v u s (suc n) os)

pub form-whole : (w : List ℕ) (t : Tree) → Labelled t → read_form w (form_text w t) ≡ whole t
unfolding read_form scan next ending
form-whole w t h =
    ap (ending (suc (length (form_text w t))))
    (scan-expected w (open_bracket ∷ []) (tree_text t ++ (close_bracket ∷ [])) 1 [] ∙
    scan-tree t (close_bracket ∷ []) (1 + length w) [] h)

ending-whole : (n : ℕ) (p : Place) (t : Tree) → ending n p ≡ whole t → p ≡ line_read t
unfolding ending
ending-whole n (expecting w os) t e = let z : ◌≡◌ {A = ℕ} 0 1 = cc in absurd (omega arith)
ending-whole n (naming a os) t e = let z : ◌≡◌ {A = ℕ} 0 1 = cc in absurd (omega arith)
ending-whole n (among a f os) t e = let z : ◌≡◌ {A = ℕ} 0 1 = cc in absurd (omega arith)
ending-whole n (tree_read u) t e = let z : ◌≡◌ {A = ℕ} 0 1 = cc in absurd (omega arith)
ending-whole n (line_read u) t e = cc
ending-whole n (stuck m) t e = let z : ◌≡◌ {A = ℕ} 0 1 = cc in absurd (omega arith)

pub whole-form : (w s : List ℕ) (t : Tree) → read_form w s ≡ whole t → (s ≡ form_text w t) × Labelled t
unfolding read_form
whole-form w s t e = scan-sound w s 1 t (ending-whole _ _ t e)

ending-bad : (n : ℕ) (p : Place) (m : ℕ) → ending n p ≡ bad m → (Live p × (m ≡ n)) ⊎ (p ≡ stuck m)
unfolding ending
ending-bad n (expecting w os) m e = inl (tt, cc)
ending-bad n (naming a os) m e = inl (tt, cc)
ending-bad n (among a f os) m e = inl (tt, cc)
ending-bad n (tree_read u) m e = inl (tt, cc)
ending-bad n (line_read u) m e = let z : ◌≡◌ {A = ℕ} 0 1 = cc in absurd (omega arith)
ending-bad n (stuck k) m e = inr cc

-- s is a form with a tree whose labels fit
pub record FormOf (w s : List ℕ) : Type 0 where
  pub tree : Tree
  pub labels : Labelled tree
  pub text : s ≡ form_text w tree

live-begins : (w s : List ℕ) → Live (scan s 1 (form_start w)) → Begins (FormOf w) s
live-begins w s h =
    let c = complete (scan s 1 (form_start w)) h in
    let (e, l) = scan-sound w (s ++ c.rest) 1 c.tree
    (scan-append s c.rest 1 (form_start w) ∙ c.ends (1 + length s)) in
    record { rest = c.rest; line = record { tree = c.tree; labels = l; text = e } }

-- what is malformed is no form
bad-no-form : (w s : List ℕ) (m : ℕ) → read_form w s ≡ bad m → FormOf w s → ⊥
bad-no-form w s m e x =
    let r = ap (read_form w) x.text ∙ form-whole w x.tree x.labels in
    let z : ◌≡◌ {A = ℕ} 0 1 = cc in
    omega arith

stop-form : (w s : List ℕ) (m : ℕ) → read_form w s ≡ bad m → Stop s 1 (form_start w) m → FirstBad (FormOf w) s m
unfolding read_form scan ending
stop-form w s m q x =
    let f = x.first in
    let b = x.byte ∷ [] in
    let d : m - 1 ≡ length f = omega (arith, x.column) in
    let e : m ≡ length f + 1 = omega (arith, x.column) in
    let before-byte : take (m - 1) s ≡ f = ap (λ y. take (m - 1) y) x.text ∙
    take_at f (x.byte ∷ x.rest) (m - 1) (sym d) in
    let past-byte : take m s ≡ f ++ b =
    ap (λ y. take m y) (x.text ∙ sym (append_assoc f b x.rest)) ∙
    take_at (f ++ b) x.rest m (length-append f b ∙ sym e) in
    let size : length s ≡ length f + suc (length x.rest) = ap length x.text ∙
    length-append f (x.byte ∷ x.rest) in
    record {
      within = (omega (arith, x.column), omega (arith, x.column));
      before = subst (Begins (FormOf w)) (sym before-byte) (live-begins w f x.live);
      there = λ h g. refused (subst (Begins (FormOf w)) past-byte g);
      malformed = bad-no-form w s m q;
    }
  where
    refused : Begins (FormOf w) (x.first ++ (x.byte ∷ [])) → ⊥
    refused g =
        let f = x.first in
        let b = x.byte ∷ [] in
        let p : scan ((f ++ b) ++ g.rest) 1 (form_start w) ≡ stuck m =
        ap (λ y. scan y 1 (form_start w)) (append_assoc f b g.rest) ∙
        scan-append f (x.byte ∷ g.rest) 1 (form_start w) ∙
        ap (λ (k : ℕ). scan g.rest (suc k) (next k (scan f 1 (form_start w)) x.byte)) (sym x.column) ∙
        ap (scan g.rest (suc m)) x.stops ∙ scan-stuck g.rest (suc m) m in
        bad-no-form w ((f ++ b) ++ g.rest) m (ap (ending (suc (length ((f ++ b) ++ g.rest)))) p) g.line

pub bad-form : (w s : List ℕ) (m : ℕ) → read_form w s ≡ bad m → FirstBad (FormOf w) s m
unfolding read_form
bad-form w s m e = go (ending-bad _ _ m e)
  where
    go : (Live (scan s 1 (form_start w)) × (m ≡ suc (length s))) ⊎ (scan s 1 (form_start w) ≡ stuck m) →
        FirstBad (FormOf w) s m
    go (inl (l, q)) =
        let all : take (m - 1) s ≡ s = take_all (m - 1) s (omega arith) in
        record {
          within = (omega arith, omega arith);
          before = subst (Begins (FormOf w)) (sym all) (live-begins w s l);
          there = λ h g. absurd (omega arith);
          malformed = bad-no-form w s m e;
        }
    go (inr q) = stop-form w s m e (first-stuck s 1 (form_start w) m tt q)
