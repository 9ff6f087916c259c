-- Marks that spread until nothing changes are the theory's sets: accessible, coaccessible, and not returning.
use Rattle.std.proofs.Common.{◌≡◌, ℕ, zero, suc, ◌+◌, ◌*◌, ◌<◌, ◌≤◌, Bool, true, false, ◌&&◌, eqb, ◌⊎◌, List, [], sym, ap, ◌∙◌, subst, inl, inr, add-one, arith, eqb-true}
use Rattle.automata.specs.Accessible.{accessible, accessible_rule, all_accessible}
use Rattle.automata.specs.Acyclic.{acyclic}
use Rattle.automata.specs.Automaton.{Automaton, Transition, accepting, states}
use Rattle.automata.specs.Coaccessible.{all_coaccessible, coaccessible, coaccessible_rule}
use Rattle.fields.specs.Fields.{HoldsTransitionsOver}
use Rattle.fields.specs.View.{viewed}
use Rattle.format.specs.Format.{byte_values, transition_bytes}
use Rattle.lists.specs.Closure.{elem}
use Rattle.lists.specs.Positions.{up_from}
use Rattle.lists.specs.Tests.{◌∈◌, any, every}
use Rattle.marking.specs.Marks.{marked}
use Rattle.table.specs.Layout.{arg_of, arity_of, nth_transition, out_of, transitions_in}
use Rattle.validity.specs.Rules.{Clear, Ground, nth_down, nth_up}
use Rattle.marking.specs.Spread.{Spread, UpTo}
use Rattle.validity.specs.Spread.{Exactly}
use Rattle.automata.proofs.Grounded.{Grounded, grounded-acyclic, grounded-returnless, returnless}
use Rattle.fields.proofs.Transitions.{in-args}
use Rattle.lists.proofs.Closure.{closed, closure-all, elem_in, in-elem}
use Rattle.lists.proofs.Positions.{in-up_from}
use Rattle.lists.proofs.Tests.{and_both, and_left, and_right, any-in, eqb_same, every-same-in, in-any, in_map}
use Rattle.lists.proofs.Tests.{or_cases, or_left, or_right, same_test}
use Rattle.marking.proofs.Spreading.{Growing, growing-closed, growing-more}
use Rattle.validity.proofs.Sweeping.{every-implied}
use Rattle.fields.proofs.Views.{viewed-accepting, viewed-classes, viewed-ranged, viewed-states}
use Rattle.table.proofs.Decoded.{in-transitions_in, transitions_in-in}

-- marks that begin with the accepting states, and grow
pub record Using (A : Automaton) (m : List ℕ) : Type 0 where
  pub growing : Growing byte_values (coaccessible A) m
  pub started : (q : ℕ) → accepting A q ≡ true → marked m q ≡ true

module _ (cl s : List ℕ) (n c : ℕ) (over : HoldsTransitionsOver s c n) where
  abbrev A : Automaton
  A = viewed cl s n c

  in-states : (q : ℕ) → 1 ≤ q → q ≤ n → q ∈ up_from 1 (states A)
  in-states q h l = in-up_from 1 (states A) q h (omega (arith, viewed-states cl s n c))

  out-in-states : (i : ℕ) → i < c → out_of s (transition_bytes * i) ∈ up_from 1 (states A)
  out-in-states i h = in-states (out_of s (transition_bytes * i)) (over.out_some i h) (over.out-state i h)

  -- ---- accessible

  pub accessible-up : UpTo (nth_up s) c (accessible A)
  accessible-up i h e =
      closed eqb eqb-true eqb_same (accessible_rule A) (up_from 1 (states A)) (out_of s (transition_bytes * i))
      (out-in-states i h)
      (in-any (λ τ. every (accessible A) τ.args && eqb (out_of s (transition_bytes * i)) τ.out)
      (transitions_in s c) (nth_transition s i) (in-transitions_in s c i h)
      (and_both e (eqb_same (out_of s (transition_bytes * i)))))

  accessible-marked : (m : ℕ → Bool) → UpTo (nth_up s) c m → (q : ℕ) → accessible A q ≡ true → m q ≡ true
  accessible-marked m up =
      closure-all eqb eqb-true eqb_same (accessible_rule A) (up_from 1 (states A)) (λ q. m q ≡ true) made
    where
      made : (p : ℕ → Bool) → ((j : ℕ) → p j ≡ true → m j ≡ true) → (k : ℕ) → k ∈ up_from 1 (states A) →
          accessible_rule A p k ≡ true → m k ≡ true
      made p ih k _ e =
          let (τ, j, d) = any-in (λ τ. every p τ.args && eqb k τ.out) (transitions_in s c) e in
          let (i, h, f) = transitions_in-in s c τ j in
          let o : k ≡ τ.out = eqb-true k τ.out (and_right (every p τ.args) _ d) in
          let v : every m τ.args ≡ true = every-implied p m τ.args ih (and_left _ _ d) in
          subst (λ (x : ℕ). m x ≡ true) (sym (o ∙ ap (λ (υ : Transition). υ.out) f))
          (up i h (subst (λ (υ : Transition). every m υ.args ≡ true) f v))

  pub all-accessible-end : {m m' : List ℕ} {r : Bool} → Growing byte_values (accessible A) m →
      Spread (UpTo (nth_up s) c) m m' r →
      r ≡ false → every (marked m') (up_from 1 n) ≡ all_accessible A
  all-accessible-end {m' = m'} g t e =
      every-same-in (marked m') (accessible A) (up_from 1 n)
      (λ q _. same_test _ _ ((growing-more accessible-up g t).within q)
      (accessible-marked (marked m') (growing-closed t e) q))
      ∙ ap (λ k. every (accessible A) (up_from 1 k)) (sym (viewed-states cl s n c))

  -- ---- coaccessible

  accepting-coaccessible : (q : ℕ) → accepting A q ≡ true → coaccessible A q ≡ true
  accepting-coaccessible q e = let r = viewed-accepting cl s n c q e in
      closed eqb eqb-true eqb_same (coaccessible_rule A) (up_from 1 (states A)) q (in-states q r.0 r.1)
      (or_left (accepting A q) _ e)

  coaccessible-down : UpTo (nth_down s) c (coaccessible A)
  coaccessible-down i h k l e =
      closed eqb eqb-true eqb_same (coaccessible_rule A) (up_from 1 (states A)) q
      (in-states q (over.arg-some i k h l) (over.arg-state i k h l))
      (or_right (accepting A q) _
      (in-any (λ τ. coaccessible A τ.out && elem eqb q τ.args) (transitions_in s c) (nth_transition s i)
      (in-transitions_in s c i h)
      (and_both e (in-elem eqb eqb-true eqb_same q (nth_transition s i).args
      (in_map (arg_of s (transition_bytes * i)) (up_from 0 (arity_of s (transition_bytes * i))) k
      (in-up_from 0 (arity_of s (transition_bytes * i)) k (omega arith) (omega arith)))))))
    where
      q : ℕ
      q = arg_of s (transition_bytes * i) k

  pub using-start : {m : List ℕ} → Exactly (accepting (viewed cl [] n 0)) m → Using A m
  using-start x = record {
    growing = record {
      size = x.size;
      within = λ q e. accepting-coaccessible q (sym (x.each q ∙ viewed-classes cl s n c q) ∙ e);
    };
    started = λ q e. x.each q ∙ viewed-classes cl s n c q ∙ e;
  }

  pub using-more : {m m' : List ℕ} {r : Bool} → Using A m → Spread (UpTo (nth_down s) c) m m' r → Using A m'
  using-more u t = record {
    growing = growing-more coaccessible-down u.growing t;
    started = λ q e. t.swept.kept q (u.started q e);
  }

  coaccessible-marked : (m : ℕ → Bool) → ((q : ℕ) → accepting A q ≡ true → m q ≡ true) → UpTo (nth_down s) c m →
      (q : ℕ) → coaccessible A q ≡ true → m q ≡ true
  coaccessible-marked m start down =
      closure-all eqb eqb-true eqb_same (coaccessible_rule A) (up_from 1 (states A)) (λ q. m q ≡ true) made
    where
      made : (p : ℕ → Bool) → ((j : ℕ) → p j ≡ true → m j ≡ true) → (k : ℕ) → k ∈ up_from 1 (states A) →
          coaccessible_rule A p k ≡ true → m k ≡ true
      made p ih k _ e = go (or_cases (accepting A k) _ e)
        where
          used : (τ : Transition) × (τ ∈ transitions_in s c) × ((p τ.out && elem eqb k τ.args) ≡ true) →
              m k ≡ true
          used (τ, j, d) =
              let (i, h, f) = transitions_in-in s c τ j in
              let v : m (out_of s (transition_bytes * i)) ≡ true =
              subst (λ (υ : Transition). m υ.out ≡ true) f (ih τ.out (and_left _ _ d)) in
              let w : k ∈ (nth_transition s i).args = subst (λ (υ : Transition). k ∈ υ.args) f
              (elem_in eqb eqb-true eqb_same k τ.args (and_right (p τ.out) _ d)) in
              let (x, l, u) = in-args s (transition_bytes * i) k w in
              subst (λ (y : ℕ). m y ≡ true) (sym u) (down i h x l v)

          go : (accepting A k ≡ true) ⊎ (any (λ τ. p τ.out && elem eqb k τ.args) (transitions_in s c) ≡ true) →
              m k ≡ true
          go (inl d) = start k d
          go (inr d) = used (any-in (λ τ. p τ.out && elem eqb k τ.args) (transitions_in s c) d)

  pub using-end : {m m' : List ℕ} {r : Bool} → Using A m → Spread (UpTo (nth_down s) c) m m' r → r ≡ false →
      Exactly (coaccessible A) m'
  using-end {m' = m'} u t e = let v = using-more u t in
      record {
        size = v.growing.size;
        each = λ q. same_test _ _ (v.growing.within q)
            (coaccessible-marked (marked m') v.started (growing-closed t e) q);
      }

  pub all-coaccessible-end : {m : List ℕ} → Exactly (coaccessible A) m →
      every (marked m) (up_from 1 n) ≡ all_coaccessible A
  all-coaccessible-end {m} x =
      every-same-in (marked m) (coaccessible A) (up_from 1 n) (λ q _. x.each q)
      ∙ ap (λ k. every (coaccessible A) (up_from 1 k)) (sym (viewed-states cl s n c))

  -- marks that are not closed are all there are if every state has one
  pub all-coaccessible-early : {m : List ℕ} {r : Bool} → Using A m → r ≡ every (marked m) (up_from 1 n) → r ≡ true →
      true ≡ all_coaccessible A
  all-coaccessible-early {m} u e h =
      sym (ap (λ k. every (coaccessible A) (up_from 1 k)) (viewed-states cl s n c)
      ∙ every-implied (marked m) (coaccessible A) (up_from 1 n) u.growing.within (sym e ∙ h))

  -- ---- acyclic

  -- the transitions of the automaton into q, by index
  clear-grounded : (p : ℕ → Bool) (q : ℕ) → Clear s c p q → Grounded A p q
  clear-grounded p q f τ j o =
      let (i, h, e) = transitions_in-in s c τ j in
      subst (λ (υ : Transition). every p υ.args ≡ true) (sym e)
      (f i h (ap (λ (υ : Transition). υ.out) (sym e) ∙ o))

  grounded-clear : (p : ℕ → Bool) (q : ℕ) → Grounded A p q → Clear s c p q
  grounded-clear p q g i h o = g (nth_transition s i) (in-transitions_in s c i h) o

  pub returnless-ground : UpTo (Ground s c) n (returnless A)
  returnless-ground k h f =
      grounded-returnless A (viewed-ranged cl s n c over) (k + 1) (clear-grounded (returnless A) (k + 1) f)

  pub acyclic-end : {m m' : List ℕ} {r : Bool} → Growing byte_values (returnless A) m →
      Spread (UpTo (Ground s c) n) m m' r →
      r ≡ false → every (marked m') (up_from 1 n) ≡ acyclic A
  acyclic-end {m' = m'} g t e =
      ap (λ k. every (marked m') (up_from 1 k)) (sym (viewed-states cl s n c))
      ∙ grounded-acyclic A (viewed-ranged cl s n c over) (marked m') follows
      (growing-more returnless-ground g t).within
    where
      follows : (q : ℕ) → 1 ≤ q → q ≤ states A → Grounded A (marked m') q → marked m' q ≡ true
      follows zero h l f = absurd (omega arith)
      follows (suc k) h l f =
          subst (λ (q : ℕ). Clear s c (marked m') q → marked m' q ≡ true) (add-one k)
          (growing-closed t e k (omega (arith, viewed-states cl s n c))) (grounded-clear (marked m') (suc k) f)
