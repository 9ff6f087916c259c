-- A canonical automaton is valid, and a change of its set by one tree keeps it canonical.
use mathlib.Core.Bool.{Bool, ◌&&◌, ◌||◌, false, not, true, true≢false}
use mathlib.Core.Logic.{◌↔◌}
use mathlib.Core.Path.{◌∙◌, ◌≡◌, ap, fun_ext, refl, subst, sym}
use Prim.Native.Nat.{ℕ}
use native.Mathlib.Omega.{arith}
use lib.Dec.{eqb}
use borrow.Author.Tests.{eq-eqb}
use Rattle.automata.specs.Accessible.{accessible, all_accessible}
use Rattle.automata.specs.Automaton.{Automaton, Fits, Transition, accepting, accepts, run, states}
use Rattle.automata.specs.Canonical.{Canonical, Equivalent, Occurs, Subtree, each_tree}
use Rattle.automata.specs.Change.{delete_tree, insert_tree}
use Rattle.automata.specs.Coaccessible.{all_coaccessible, coaccessible}
use Rattle.automata.specs.ContextRun.{run_context}
use Rattle.automata.specs.Distinguishable.{distinguishable}
use Rattle.automata.specs.Valid.{Valid, in_range, states_in_range}
use Rattle.lists.specs.Positions.{up_from}
use Rattle.lists.specs.Tests.{◌∈◌, every}
use Rattle.trees.specs.Context.{Context, plug}
use Rattle.trees.specs.Tree.{AllTrees, Forest, Tree, cons, eq_tree, nil, node}
use Rattle.automata.proofs.Accessible.{tree-accessible}
use Rattle.automata.proofs.CanonicalRun.{canonical-accepts, run-group}
use Rattle.automata.proofs.Change.{delete-canonical, insert-canonical}
use Rattle.automata.proofs.Coaccessible.{useful-coaccessible}
use Rattle.automata.proofs.Distinguishable.{separated-distinguishable}
use Rattle.automata.proofs.Minimal.{bool_cases}
use Rattle.automata.proofs.Steps.{accepts-plug}
use Rattle.automata.proofs.Unique.{children}
use Rattle.automata.proofs.Valid.{range-in, ranged-fits, valid-canonical}
use Rattle.lists.proofs.Positions.{up_from-in}
use Rattle.lists.proofs.Tests.{and_both, in-every, or_left, or_right}

module _ (S : Tree → Bool) (A : Automaton) (X : Canonical S A) where
  ranged : (t : Tree) → Subtree S t → in_range (states A) (X.group t) ≡ true
  ranged t p = let r = X.range t p in range-in (states A) (X.group t) r.0 r.1

  each-ranged : (f : Forest) → AllTrees (Subtree S) f → every (in_range (states A)) (each_tree X.group f) ≡ true
  each-ranged nil p = refl
  each-ranged (cons t f) p = and_both (ranged t p.0) (each-ranged f p.1)

  pub canonical-ranged : states_in_range A ≡ true
  canonical-ranged =
      in-every (λ τ. every (in_range (states A)) τ.args && in_range (states A) τ.out) A.transitions
      (λ τ i. good τ (X.only τ i))
    where
      good : (τ : Transition) → Occurs S X.group τ →
          (every (in_range (states A)) τ.args && in_range (states A) τ.out) ≡ true
      good τ (a, f, p, e) =
          subst (λ (υ : Transition). (every (in_range (states A)) υ.args && in_range (states A) υ.out) ≡ true)
          (sym e) (and_both (each-ranged f (children S a f p)) (ranged (node a f) p))

  pub canonical-fits : Fits A
  canonical-fits = ranged-fits A canonical-ranged

  -- a subtree for a state
  Witness : ℕ → Type 0
  Witness q = (t : Tree) × Subtree S t × (run A t ≡ q)

  witness : (q : ℕ) → q ∈ up_from 1 (states A) → Witness q
  unfolding Witness
  witness q i =
      let r = up_from-in 1 (states A) q i in
      let (t, p, g) = X.onto q r.0 (omega arith) in
      (t, p, run-group S A X t p ∙ g)

  reached : all_accessible A ≡ true
  unfolding Witness
  reached =
      in-every (accessible A) (up_from 1 (states A))
      (λ q i. let (t, p, e) = witness q i in tree-accessible A canonical-fits q (up_from-in 1 (states A) q i).0 t e)

  used : all_coaccessible A ≡ true
  unfolding Witness
  used = in-every (coaccessible A) (up_from 1 (states A)) (λ q i. go q i (witness q i))
    where
      go : (q : ℕ) → q ∈ up_from 1 (states A) → Witness q → coaccessible A q ≡ true
      go q i (t, (c, h), e) =
          let r = up_from-in 1 (states A) q i in
          useful-coaccessible A canonical-fits c q r.0 (omega arith)
          (sym (accepts-plug A c t e) ∙ canonical-accepts S A X (plug c t) ∙ h)

  -- states that no context separates have equivalent subtrees
  pub alike : (p q : ℕ) (t u : Tree) → run A t ≡ p → run A u ≡ q →
      ((c : Context) → accepting A (run_context A c p) ≡ accepting A (run_context A c q)) → Equivalent S t u
  alike p q t u e d h c =
      sym (canonical-accepts S A X (plug c t)) ∙ accepts-plug A c t e ∙ h c ∙ sym (accepts-plug A c u d)
      ∙ canonical-accepts S A X (plug c u)

  differ : (p q : ℕ) → p ∈ up_from 1 (states A) → q ∈ up_from 1 (states A) → (eqb p q || distinguishable A p q) ≡ true
  unfolding Witness
  differ p q i j = go (witness p i) (witness q j) (distinguishable A p q) refl
    where
      go : Witness p → Witness q → (b : Bool) → distinguishable A p q ≡ b → (eqb p q || distinguishable A p q) ≡ true
      go x y true e = or_right (eqb p q) (distinguishable A p q) e
      go (t, r, u) (t', r', u') false e =
          let h : (c : Context) → accepting A (run_context A c p) ≡ accepting A (run_context A c q) =
          λ c. bool_cases (accepting A (run_context A c p)) (accepting A (run_context A c q))
          (λ d. true≢false (sym (separated-distinguishable A canonical-fits c p q
          (omega (arith, up_from-in 1 (states A) p i)) (omega (arith, up_from-in 1 (states A) q j)) d) ∙ e)) in
          or_left (eqb p q) (distinguishable A p q) (eq-eqb p q
          (sym u ∙ run-group S A X t r ∙ X.joins t t' r r' (alike p q t t' u u' h)
          ∙ sym (run-group S A X t' r') ∙ u'))

  pub canonical-valid : Valid A
  canonical-valid = record {
    ranged = canonical-ranged;
    rises = X.sorted;
    reached = reached;
    used = used;
    apart =
        in-every (λ p. every (λ q. eqb p q || distinguishable A p q) (up_from 1 (states A))) (up_from 1 (states A))
        (λ p i. in-every (λ q. eqb p q || distinguishable A p q) (up_from 1 (states A)) (λ q j. differ p q i j));
    ruled = X.ruled;
  }

-- conditions 7 (range), 8 to 10, 12 and 13 hold exactly of the canonical automata
pub valid-iff : (A : Automaton) → Valid A ↔ Canonical (accepts A) A
valid-iff A = (valid-canonical A, canonical-valid (accepts A) A)

pub insert-kept : (S : Tree → Bool) (A : Automaton) → Canonical S A → (t : Tree) →
    Canonical (λ v. S v || eq_tree v t) (insert_tree t A)
insert-kept S A X t =
    subst (λ (T : Tree → Bool). Canonical T (insert_tree t A))
    (fun_ext (λ v. ap (λ (b : Bool). b || eq_tree v t) (canonical-accepts S A X v)))
    (insert-canonical t A (canonical-fits S A X))

pub delete-kept : (S : Tree → Bool) (A : Automaton) → Canonical S A → (t : Tree) →
    Canonical (λ v. S v && not (eq_tree v t)) (delete_tree t A)
delete-kept S A X t =
    subst (λ (T : Tree → Bool). Canonical T (delete_tree t A))
    (fun_ext (λ v. ap (λ (b : Bool). b && not (eq_tree v t)) (canonical-accepts S A X v)))
    (delete-canonical t A (canonical-fits S A X))
