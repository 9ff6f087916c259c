-- What `read_line` says of a line: a command and the listing of its tree exactly if the line is their text, the total
-- exactly if it is (total), else the column of the first byte that no well-formed line has there; and which lines are
-- long.
use Rattle.std.proofs.Common.{◌≡◌, ℕ, ◌<◌, ◌≤◌, true, false, leb, ◌⊎◌, ◌↔◌, List, ◌++◌, length, get_or, sym, refl, ap, ◌∙◌, subst, inl, inr, arith, leb-false}
use borrow.Author.Tests.{lt-leb}
use Rattle.format.specs.Format.{max_line}
use Rattle.lists.specs.Tests.{same_list}
use Rattle.text.specs.Grammar.{Command, CommandLine, FirstBad, WellFormed, head, on_tree, to_add, to_ask, to_drop}
use Rattle.text.specs.Grammar.{total, total_text}
use Rattle.text.specs.Reader.{Line, Reading, as_line, bad, ending, form, formed, further, long, next, read_as}
use Rattle.text.specs.Reader.{read_form, read_line, read_total, scan, totalled, whole}
use Rattle.trees.specs.Listing.{listing}
use Rattle.lists.proofs.Tests.{same_list-refl, same_list-true, test}
use Rattle.text.proofs.Agreement.{agreed-bad}
use Rattle.text.proofs.Forms.{FormOf, bad-form, form-whole, whole-form}
use Rattle.text.proofs.Languages.{Either, either-bad, same-bad}

-- ---- one way to read a line

-- what a way to read the line s says of it, if it looks for the lines of P
abbrev Says : (List ℕ → Type 0) → List ℕ → Line → Type 0
Says P s (formed c l) = CommandLine s c l
Says P s totalled = s ≡ total_text
Says P s (form m) = FirstBad P s m
Says P s long = max_line < length s

says-command : (s : List ℕ) (c : Command) → Says (FormOf (head c)) s (read_as c s)
says-command s c = go (read_form (head c) s) refl
  where
    go : (r : Reading) → read_form (head c) s ≡ r → Says (FormOf (head c)) s (as_line c r)
    go (whole t) e =
        let (x, f) = whole-form (head c) s t e in
        record { tree = t; labels = f; text = x; bytes = refl }
    go (bad m) e = bad-form (head c) s m e

abbrev IsTotal : List ℕ → Type 0
IsTotal s = s ≡ total_text

says-total : (s : List ℕ) → Says IsTotal s (read_total s)
unfolding read_total
says-total s = go (test (same_list s total_text))
  where
    go : (same_list s total_text ≡ true) ⊎ (same_list s total_text ≡ false) → Says IsTotal s (read_total s)
    go (inl e) = rw e (same_list-true s total_text e)
    go (inr e) = rw e (agreed-bad s total_text other)
      where
        other : s ≡ total_text → ⊥
        other d =
            let q = ap (λ x. same_list x total_text) d ∙ same_list-refl total_text in
            let z : ◌≡◌ {A = ℕ} 0 1 = cc in
            omega arith

-- ---- all of them

module _ (P Q : List ℕ → Type 0) (s : List ℕ) where
  says-further : (r q : Line) → Says P s r → Says Q s q → Says (Either P Q) s (further r q)
  says-further (formed c l) q x y = x
  says-further totalled q x y = x
  says-further long q x y = x
  says-further (form m) (formed c l) x y = y
  says-further (form m) totalled x y = y
  says-further (form m) (form n) x y = either-bad x y
  says-further (form m) long x y = y

  -- the same language in other words
  says_same : ((x : List ℕ) → P x → Q x) → ((x : List ℕ) → Q x → P x) → (r : Line) → Says P s r → Says Q s r
  says_same f g (formed c l) x = x
  says_same f g totalled x = x
  says_same f g (form m) x = same-bad f g x
  says_same f g long x = x

-- the lines of the four ways
abbrev Ways : List ℕ → Type 0
Ways = Either (FormOf (head to_add)) (Either (FormOf (head to_drop)) (Either (FormOf (head to_ask)) IsTotal))

well-formed : (c : Command) (s : List ℕ) → FormOf (head c) s → WellFormed s
well-formed c s x =
    on_tree c (listing x.tree) (record { tree = x.tree; labels = x.labels; text = x.text; bytes = refl })

way-formed : (s : List ℕ) → Ways s → WellFormed s
way-formed s (inl x) = well-formed to_add s x
way-formed s (inr (inl x)) = well-formed to_drop s x
way-formed s (inr (inr (inl x))) = well-formed to_ask s x
way-formed s (inr (inr (inr e))) = total e

form_of : {c : Command} {s l : List ℕ} → CommandLine s c l → FormOf (head c) s
form_of x = record { tree = x.tree; labels = x.labels; text = x.text }

formed-way : (s : List ℕ) → WellFormed s → Ways s
formed-way s (on_tree to_add l x) = inl (form_of x)
formed-way s (on_tree to_drop l x) = inr (inl (form_of x))
formed-way s (on_tree to_ask l x) = inr (inr (inl (form_of x)))
formed-way s (total e) = inr (inr (inr e))

-- the furthest of the four ways
abbrev furthest : List ℕ → Line
furthest s = further (read_as to_add s) (further (read_as to_drop s) (further (read_as to_ask s) (read_total s)))

says-furthest : (s : List ℕ) → Says WellFormed s (furthest s)
says-furthest s =
    says_same Ways WellFormed s way-formed formed-way (furthest s)
    (says-further _ _ s (read_as to_add s) _ (says-command s to_add)
    (says-further _ _ s (read_as to_drop s) _ (says-command s to_drop)
    (says-further _ _ s (read_as to_ask s) (read_total s) (says-command s to_ask) (says-total s))))

says-line : (s : List ℕ) → Says WellFormed s (read_line s)
unfolding read_line
says-line s = go (test (leb (length s) max_line))
  where
    go : (leb (length s) max_line ≡ true) ⊎ (leb (length s) max_line ≡ false) → Says WellFormed s (read_line s)
    go (inl h) = rw h (says-furthest s)
    go (inr h) = rw h (leb-false (length s) max_line h)

says : (s : List ℕ) (r : Line) → read_line s ≡ r → Says WellFormed s r
says s r e = subst (Says WellFormed s) e (says-line s)

-- ---- a line is read in one way only

-- the third byte distinguishes the commands
head_apart : (c d : Command) (s r : List ℕ) → head c ++ s ≡ head d ++ r → c ≡ d
head_apart to_add to_add s r e = refl
head_apart to_add to_drop s r e = absurd (omega (arith, ap (λ (l : List ℕ). get_or l 2 0) e))
head_apart to_add to_ask s r e = absurd (omega (arith, ap (λ (l : List ℕ). get_or l 2 0) e))
head_apart to_drop to_add s r e = absurd (omega (arith, ap (λ (l : List ℕ). get_or l 2 0) e))
head_apart to_drop to_drop s r e = refl
head_apart to_drop to_ask s r e = absurd (omega (arith, ap (λ (l : List ℕ). get_or l 2 0) e))
head_apart to_ask to_add s r e = absurd (omega (arith, ap (λ (l : List ℕ). get_or l 2 0) e))
head_apart to_ask to_drop s r e = absurd (omega (arith, ap (λ (l : List ℕ). get_or l 2 0) e))
head_apart to_ask to_ask s r e = refl

-- the second byte distinguishes them from (total)
head-not-total : (c : Command) (s : List ℕ) → head c ++ s ≡ total_text → ⊥
head-not-total to_add s e = omega (arith, ap (λ (l : List ℕ). get_or l 1 0) e)
head-not-total to_drop s e = omega (arith, ap (λ (l : List ℕ). get_or l 1 0) e)
head-not-total to_ask s e = omega (arith, ap (λ (l : List ℕ). get_or l 1 0) e)

command-once : (s : List ℕ) (c d : Command) (l m : List ℕ) → CommandLine s c l → CommandLine s d m →
    formed c l ≡ formed d m
command-once s c d l m x y =
    let p : c ≡ d = head_apart c d _ _ (sym x.text ∙ y.text) in
    let q = ap (read_form (head c)) x.text ∙ form-whole (head c) x.tree x.labels in
    let r = ap (read_form (head d)) y.text ∙ form-whole (head d) y.tree y.labels in
    let t : x.tree ≡ y.tree = cc in
    cc

-- ---- the laws

pub line-formed : (s : List ℕ) (c : Command) (l : List ℕ) → length s ≤ max_line →
    read_line s ≡ formed c l ↔ CommandLine s c l
line-formed s c l h = (λ e. says s (formed c l) e, λ x. go x (read_line s) refl)
  where
    go : CommandLine s c l → (r : Line) → read_line s ≡ r → read_line s ≡ formed c l
    go x (formed d m) e = e ∙ command-once s d c m l (says s (formed d m) e) x
    go x totalled e = absurd (head-not-total c _ (sym x.text ∙ says s totalled e))
    go x (form m) e = absurd ((says s (form m) e).malformed (on_tree c l x))
    go x long e = let k : max_line < length s = says s long e in absurd (omega arith)

pub line-total : (s : List ℕ) → read_line s ≡ totalled ↔ s ≡ total_text
unfolding read_line read_form read_total scan next ending
line-total s = (λ e. says s totalled e, λ e. ap read_line e)

pub line-form : (s : List ℕ) (m : ℕ) → read_line s ≡ form m → FirstBad WellFormed s m
line-form s m e = says s (form m) e

pub line-long : (s : List ℕ) → read_line s ≡ long ↔ max_line < length s
unfolding read_line
line-long s = (λ e. says s long e, λ h. rw (lt-leb (length s) max_line h))
