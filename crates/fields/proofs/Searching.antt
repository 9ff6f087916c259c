-- Loops over a run of transitions: two lists of arguments compared, neighbours compared, a transition
-- searched. The answer of the whole is the answer of what is left.
use mathlib.Core.Bool.{Bool, ◌&&◌, and-false, false, or-false, true}
use mathlib.Core.List.{List, ◌∷◌, map}
use mathlib.Core.Path.{◌∙◌, ◌≡◌, ap, ap₂, refl, sym}
use Prim.Native.Nat.{◌*◌, ◌+◌, ◌-◌, ◌<◌, ◌≤◌, suc, zero, ℕ}
use native.Mathlib.Nat.{sub-zero}
use native.Mathlib.Numerals.{add-one}
use native.Mathlib.Omega.{arith}
use lib.Dec.{eqb, ltb}
use lib.ListN.{get_or, length, take}
use lib.Seq.{ext_get_or, get_or-take, length-take-le}
use borrow.Author.Count.{below_more}
use borrow.Author.Tests.{eq-eqb, le-ltb, ne_eqb}
use Rattle.automata.specs.Automaton.{lookup, matches}
use Rattle.automata.specs.Order.{lex, precedes, rising, rising_from}
use Rattle.fields.specs.Fields.{first_args}
use Rattle.format.specs.Format.{transition_bytes}
use Rattle.lists.specs.Positions.{up_from}
use Rattle.lists.specs.Tests.{any, every, same_list}
use Rattle.table.specs.Layout.{arg_of, arity_of, label_of, nth_transition, out_of, transition_at, transitions_in}
use Rattle.fields.proofs.Transitions.{arg-at, args-length, transitions_from}
use Rattle.lists.proofs.Loops.{up_from-next, up_from-none}
use Rattle.lists.proofs.Tests.{and_both, same_list-refl, same_list-true}

-- ---- order

-- what differs decides; what agrees leaves it to the rest
pub lex-differs : (x y : ℕ) (xs ys : List ℕ) → (x ≡ y → ⊥) → lex (x ∷ xs) (y ∷ ys) ≡ ltb x y
lex-differs x y xs ys h = rw (ne_eqb x y h) (or-false (ltb x y))

pub lex-agrees : (x y : ℕ) (xs ys : List ℕ) → x ≡ y → lex (x ∷ xs) (y ∷ ys) ≡ lex xs ys
lex-agrees x y xs ys h = rw (le-ltb x y (omega arith), eq-eqb x y h)

-- a loop at i that compares the numbers of f and g up to n: s is the answer for the numbers left
pub record LexFrom (s : Bool) (f g : ℕ → ℕ) (n i : ℕ) : Type 0 where
  pub within : i ≤ n
  pub left : s ≡ lex (map f (up_from i (n - i))) (map g (up_from i (n - i)))

module _ {f g : ℕ → ℕ} {n : ℕ} where
  pub lex-start : LexFrom (lex (map f (up_from 0 n)) (map g (up_from 0 n))) f g n 0
  lex-start = record { within = omega arith; left = rw (sub-zero n) }

  pub lex-next : {s : Bool} {i : ℕ} → LexFrom s f g n i → i < n → f i ≡ g i → LexFrom s f g n (i + 1)
  lex-next {s} {i} inv h e = let rest = up_from (i + 1) (n - (i + 1)) in
      record {
        within = omega arith;
        left = inv.left ∙ rw (up_from-next i n h) (lex-agrees (f i) (g i) (map f rest) (map g rest) e);
      }

  pub lex-decided : {s : Bool} {i : ℕ} → LexFrom s f g n i → i < n → (f i ≡ g i → ⊥) → ltb (f i) (g i) ≡ s
  lex-decided {s} {i} inv h e = let rest = up_from (i + 1) (n - (i + 1)) in
      sym (inv.left ∙ rw (up_from-next i n h) (lex-differs (f i) (g i) (map f rest) (map g rest) e))

  pub lex-end : {s : Bool} {i : ℕ} → LexFrom s f g n i → n ≤ i → false ≡ s
  lex-end {s} {i} inv h = sym (inv.left ∙ rw (up_from-none i n h))

-- the transitions at two bytes, by what was read of them: their arities n and m, their labels x and y
module _ (s : List ℕ) (a b : ℕ) {n m : ℕ} (arity : n ≡ arity_of s a) (arity' : m ≡ arity_of s b) where
  length-read : length (transition_at s a).args ≡ n
  length-read = args-length s a ∙ sym arity

  length-read' : length (transition_at s b).args ≡ m
  length-read' = args-length s b ∙ sym arity'

  pub precedes-arity : (n ≡ m → ⊥) → ltb n m ≡ precedes (transition_at s a) (transition_at s b)
  precedes-arity h =
      sym (lex-differs (length (transition_at s a).args) (length (transition_at s b).args)
      (label_of s a ∷ (transition_at s a).args) (label_of s b ∷ (transition_at s b).args)
      (λ e. h (sym length-read ∙ e ∙ length-read')) ∙ ap₂ ltb length-read length-read')

  module _ (same : n ≡ m) {x y : ℕ} (label : x ≡ label_of s a) (label' : y ≡ label_of s b) where
    precedes-rest :
        precedes (transition_at s a) (transition_at s b) ≡
        lex (label_of s a ∷ (transition_at s a).args) (label_of s b ∷ (transition_at s b).args)
    precedes-rest =
        lex-agrees (length (transition_at s a).args) (length (transition_at s b).args)
        (label_of s a ∷ (transition_at s a).args) (label_of s b ∷ (transition_at s b).args)
        (length-read ∙ same ∙ sym length-read')

    pub precedes-label : (x ≡ y → ⊥) → ltb x y ≡ precedes (transition_at s a) (transition_at s b)
    precedes-label h =
        ap₂ ltb label label' ∙
        sym (precedes-rest ∙
        lex-differs (label_of s a) (label_of s b) (transition_at s a).args (transition_at s b).args
        (λ e. h (label ∙ e ∙ sym label')))

    pub precedes-args : {r : Bool} → x ≡ y →
        r ≡ lex (first_args s a n) (first_args s b n) →
        r ≡ precedes (transition_at s a) (transition_at s b)
    precedes-args h e =
        e ∙
        ap₂ (λ i j. lex (first_args s a i) (first_args s b j)) arity (same ∙ arity') ∙
        sym (precedes-rest ∙
        lex-agrees (label_of s a) (label_of s b) (transition_at s a).args (transition_at s b).args
        (sym label ∙ h ∙ label'))

-- transition i comes before the next
abbrev pub precedes_next : List ℕ → ℕ → Bool
precedes_next s i = precedes (nth_transition s i) (nth_transition s (i + 1))

rising_from-next : (s : List ℕ) (k n : ℕ) →
    rising_from (nth_transition s k) (map (nth_transition s) (up_from (suc k) n)) ≡ every (precedes_next s) (up_from k n)
rising_from-next s k zero = refl
rising_from-next s k (suc n) =
    ap₂ (λ i b. precedes (nth_transition s k) (nth_transition s i) && b) (sym (add-one k)) (rising_from-next s (suc k) n)

-- a run rises if each transition but the last comes before the next
pub rising-next : (s : List ℕ) (n : ℕ) → rising (transitions_in s n) ≡ every (precedes_next s) (up_from 0 (n - 1))
unfolding transitions_in
rising-next s zero = refl
rising-next s (suc n) = let z : suc n - 1 ≡ n = omega arith in rw z (rising_from-next s 0 n)

-- ---- search

-- a search at transition i of n: q is the state that it finds among those left, f whether it finds one
pub record SearchFrom (q : ℕ) (f : Bool) (a : ℕ) (qs : List ℕ) (s : List ℕ) (n i : ℕ) : Type 0 where
  pub within : i ≤ n
  pub state : q ≡ lookup a qs (transitions_from s i (n - i))
  pub known : f ≡ any (matches a qs) (transitions_from s i (n - i))

pub search-start : (a : ℕ) (qs s : List ℕ) (n : ℕ) →
    SearchFrom (lookup a qs (transitions_in s n)) (any (matches a qs) (transitions_in s n)) a qs s n 0
unfolding transitions_in
search-start a qs s n = record { within = omega arith; state = rw (sub-zero n); known = rw (sub-zero n) }

module _ {q : ℕ} {f : Bool} {a : ℕ} {qs : List ℕ} {s : List ℕ} {n i : ℕ} (inv : SearchFrom q f a qs s n i) where
  pub search-passed : i < n → matches a qs (nth_transition s i) ≡ false → SearchFrom q f a qs s n (i + 1)
  search-passed h e = record {
    within = omega arith;
    state = inv.state ∙ rw (up_from-next i n h, e);
    known = inv.known ∙ rw (up_from-next i n h, e);
  }

  pub search-hit : i < n → matches a qs (nth_transition s i) ≡ true →
      (out_of s (transition_bytes * i) ≡ q) × (true ≡ f)
  search-hit h e = (sym (inv.state ∙ rw (up_from-next i n h, e)), sym (inv.known ∙ rw (up_from-next i n h, e)))

  pub search-end : n ≤ i → (0 ≡ q) × (false ≡ f)
  search-end h = (sym (inv.state ∙ rw (up_from-none i n h)), sym (inv.known ∙ rw (up_from-none i n h)))

same_list-false : (xs ys : List ℕ) → (xs ≡ ys → ⊥) → same_list xs ys ≡ false
same_list-false xs ys h = go (same_list xs ys) refl
  where
    go : (b : Bool) → same_list xs ys ≡ b → b ≡ false
    go true e = absurd (h (same_list-true xs ys e))
    go false e = refl

-- the first k arguments of the transition at a byte, m of which are compared, are those of args
pub record AgreeTo (s : List ℕ) (at m : ℕ) (args : List ℕ) (k : ℕ) : Type 0 where
  pub within : k ≤ m
  pub same : (j : ℕ) → j < k → arg_of s at j ≡ get_or args j 0

pub agree-start : (s : List ℕ) (at m : ℕ) (args : List ℕ) → AgreeTo s at m args 0
agree-start s at m args = record { within = omega arith; same = λ j h. absurd (omega arith) }

module _ {s : List ℕ} {at m : ℕ} {args : List ℕ} {k : ℕ} (inv : AgreeTo s at m args k) where
  pub agree-next : k < m → arg_of s at k ≡ get_or args k 0 → AgreeTo s at m args (k + 1)
  agree-next h e =
      record { within = omega arith; same = below_more (λ j. arg_of s at j ≡ get_or args j 0) k inv.same e }

-- the transition that starts at a byte, compared with a label and m arguments
module _ (s : List ℕ) (at a m : ℕ) (args : List ℕ) (enough : m ≤ length args) where
  pub unlike-label : (label_of s at ≡ a → ⊥) → matches a (take m args) (transition_at s at) ≡ false
  unlike-label h = rw (ne_eqb a (label_of s at) (λ e. h (sym e)))

  unlike-args : (take m args ≡ (transition_at s at).args → ⊥) → matches a (take m args) (transition_at s at) ≡ false
  unlike-args h = rw (same_list-false (take m args) (transition_at s at).args h) (and-false (eqb a (label_of s at)))

  pub unlike-arity : (arity_of s at ≡ m → ⊥) → matches a (take m args) (transition_at s at) ≡ false
  unlike-arity h =
      unlike-args (λ e. h (sym (args-length s at) ∙ sym (ap length e) ∙ length-take-le m args enough))

  pub unlike-arg : (k : ℕ) → arity_of s at ≡ m → k < m → (arg_of s at k ≡ get_or args k 0 → ⊥) →
      matches a (take m args) (transition_at s at) ≡ false
  unlike-arg k e l h =
      unlike-args (λ d.
      h (sym (arg-at s at k (omega arith)) ∙ sym (ap (λ xs. get_or xs k 0) d) ∙ get_or-take m args k 0 l))

  pub alike : label_of s at ≡ a → arity_of s at ≡ m → ((k : ℕ) → k < m → arg_of s at k ≡ get_or args k 0) →
      matches a (take m args) (transition_at s at) ≡ true
  alike d e h = and_both (eq-eqb a (label_of s at) (sym d)) (rw same (same_list-refl (transition_at s at).args))
    where
      same : take m args ≡ (transition_at s at).args
      same =
          ext_get_or 0 (take m args) (transition_at s at).args
          (length-take-le m args enough ∙ sym (args-length s at ∙ e))
          (λ k l.
          let i : k < m = omega (arith, length-take-le m args enough) in
          get_or-take m args k 0 i ∙ sym (h k i) ∙ sym (arg-at s at k (omega arith)))
