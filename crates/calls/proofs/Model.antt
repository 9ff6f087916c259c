-- The model: its automaton stays canonical for its set, and its answers are determined by the set alone.
use mathlib.Core.Bool.{Bool, true}
use mathlib.Core.List.{List}
use mathlib.Core.Logic.{◌⊎◌, inl, inr}
use mathlib.Core.Path.{◌≡◌, ap, fun_ext, subst, sym}
use Prim.Native.Nat.{ℕ}
use Rattle.automata.specs.Acyclic.{Bounded}
use Rattle.automata.specs.Automaton.{Automaton, accepts}
use Rattle.automata.specs.Canonical.{Canonical}
use Rattle.calls.specs.Calls.{Change, changed, changed_tree, delete, insert}
use Rattle.calls.specs.Series.{Call, Model, add, canonical_of, changed_set, member, model_conditions}
use Rattle.calls.specs.Series.{model_refusal, query, remove, respond, with_change}
use Rattle.trees.specs.Legal.{Legal}
use Rattle.trees.specs.Tree.{Tree, eq_tree}
use Rattle.automata.proofs.BoundedChange.{delete-bounded, insert-bounded}
use Rattle.automata.proofs.CanonicalChange.{delete-kept, insert-kept}
use Rattle.automata.proofs.CanonicalRun.{canonical-accepts}
use Rattle.automata.proofs.Unique.{unique}
use Rattle.lists.proofs.Tests.{and_left, or_cases}
use Rattle.trees.proofs.Trees.{eq_tree-true}

pub changed-canonical : (c : Change) (S : Tree → Bool) (A : Automaton) → Canonical S A →
    Canonical (changed_set c S) (changed c A)
changed-canonical (insert t) S A X = insert-kept S A X t
changed-canonical (delete t) S A X = delete-kept S A X t

pub changed-bounded : (c : Change) (S : Tree → Bool) → Bounded S → Bounded (changed_set c S)
changed-bounded (insert t) S b = insert-bounded S t b
changed-bounded (delete t) S b = delete-bounded S t b

-- a change by a legal tree keeps a set of legal trees so
pub changed-legal : (c : Change) (S : Tree → Bool) → Legal (changed_tree c) → ((u : Tree) → S u ≡ true → Legal u) →
    (u : Tree) → changed_set c S u ≡ true → Legal u
changed-legal (insert t) S l h u e = go (or_cases (S u) (eq_tree u t) e)
  where
    go : (S u ≡ true) ⊎ (eq_tree u t ≡ true) → Legal u
    go (inl p) = h u p
    go (inr p) = subst Legal (sym (eq_tree-true u t p)) l
changed-legal (delete t) S l h u e = h u (and_left (S u) _ e)

-- the automaton that 17 looks at is that of the changed set
pub change-canonical : (m : Model) → Canonical (member m) (canonical_of m) → (c : Change) →
    Canonical (changed_set c (member m)) (canonical_of (with_change c m))
unfolding canonical_of
change-canonical m X c = changed-canonical c (member m) (canonical_of m) X

-- the model's automaton accepts what is in its set
pub model-accepts : (m : Model) → Canonical (member m) (canonical_of m) → accepts (canonical_of m) ≡ member m
model-accepts m X = fun_ext (canonical-accepts (member m) (canonical_of m) X)

module _ (m n : Model) (X : Canonical (member m) (canonical_of m)) (Y : Canonical (member n) (canonical_of n))
    (e : (t : Tree) → member m t ≡ member n t) where
  -- two models with the same members have the same automaton
  pub same-canonical : canonical_of m ≡ canonical_of n
  same-canonical =
      unique (member m) (canonical_of m) (canonical_of n) X
      (subst (λ (S : Tree → Bool). Canonical S (canonical_of n)) (sym (fun_ext e)) Y)

  same-changed : (c : Change) → canonical_of (with_change c m) ≡ canonical_of (with_change c n)
  unfolding canonical_of
  same-changed c = ap (changed c) same-canonical

  same-refusal : (c : Change) (s w : List ℕ) → model_refusal m c s w ≡ model_refusal n c s w
  unfolding model_refusal model_conditions
  same-refusal c s w = rw (e (changed_tree c), same-canonical, same-changed c)

  -- what a model gives back is determined by its set alone
  pub response-determined : (c : Call) → (respond m c).response ≡ (respond n c).response
  unfolding respond
  response-determined (query x) = rw same-canonical
  response-determined (add s w) = rw (same-refusal (insert _) s w, same-changed (insert _))
  response-determined (remove s w) = rw (same-refusal (delete _) s w, same-changed (delete _))
