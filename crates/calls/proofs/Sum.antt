-- SUM (order 10): two done changes of different trees leave the same bytes in either order, and a done change followed
-- by its opposite gives the first bytes back. Nothing here says that the set is finite.
use mathlib.Core.Bool.{Bool, ◌&&◌, ◌||◌, cond, false, not, true}
use mathlib.Core.List.{List}
use mathlib.Core.Path.{◌∙◌, ◌≡◌, ap, refl, subst, sym}
use Prim.Native.Nat.{ℕ}
use Rattle.calls.specs.Calls.{Change, Result, add_result, change_result, changed_tree, delete, insert, presence}
use Rattle.calls.specs.Calls.{remove_result}
use Rattle.calls.specs.Claim.{InStep}
use Rattle.calls.specs.Series.{Model, changed_set, member, model_conditions, model_of, model_refusal}
use Rattle.calls.specs.Series.{with_change}
use Rattle.calls.specs.Sum.{Different, Fulfilled, Request, Kind, addition, call_result, request_tree, opposite}
use Rattle.calls.specs.Sum.{withdrawal}
use Rattle.calls.specs.declared.Answer.TheVariants.{Done}
use Rattle.format.specs.Format.{AllBytes}
use Rattle.table.specs.Intake.{table_refusal}
use Rattle.table.specs.Layout.{encode}
use Rattle.trees.specs.Listing.{listing_conditions, read_tree}
use Rattle.trees.specs.Tree.{Tree, eq_tree}
use Rattle.calls.proofs.Changes.{done-in-step, done-unrefused}
use Rattle.calls.proofs.Conditions.{model-from-one}
use Rattle.calls.proofs.Model.{same-canonical}
use Rattle.calls.proofs.Series.{passed-in-step}
use Rattle.lists.proofs.Conditions.{hold-append, unbroken-hold}
use Rattle.trees.proofs.Trees.{eq_tree-same, eq_tree-true}

-- ---- sets

-- whether a change leaves its tree in the set
abbrev puts : Change → Bool
puts (insert t) = true
puts (delete t) = false

put_in : (present own : Bool) → (present || own) ≡ cond own true present
put_in true true = refl
put_in true false = refl
put_in false true = refl
put_in false false = refl

taken_out : (present own : Bool) → (present && not own) ≡ cond own false present
taken_out true true = refl
taken_out true false = refl
taken_out false true = refl
taken_out false false = refl

-- a change decides about its own tree, and about no other
decided : (c : Change) (S : Tree → Bool) (u : Tree) →
    changed_set c S u ≡ cond (eq_tree u (changed_tree c)) (puts c) (S u)
decided (insert t) S u = put_in (S u) (eq_tree u t)
decided (delete t) S u = taken_out (S u) (eq_tree u t)

decided-twice : (c d : Change) (S : Tree → Bool) (u : Tree) → changed_set d (changed_set c S) u ≡
    cond (eq_tree u (changed_tree d)) (puts d) (cond (eq_tree u (changed_tree c)) (puts c) (S u))
decided-twice c d S u =
    decided d (changed_set c S) u ∙ ap (cond (eq_tree u (changed_tree d)) (puts d)) (decided c S u)

-- changes of a set by different trees commute
pub sets-commute : (c d : Change) → Different (changed_tree c) (changed_tree d) → (S : Tree → Bool) (u : Tree) →
    changed_set d (changed_set c S) u ≡ changed_set c (changed_set d S) u
sets-commute c d different S u =
    decided-twice c d S u ∙ go (eq_tree u (changed_tree c)) (eq_tree u (changed_tree d)) refl refl
    ∙ sym (decided-twice d c S u)
  where
    go : (p q : Bool) → eq_tree u (changed_tree c) ≡ p → eq_tree u (changed_tree d) ≡ q →
        cond q (puts d) (cond p (puts c) (S u)) ≡ cond p (puts c) (cond q (puts d) (S u))
    go true true e f = absurd (different (sym (eq_tree-true u (changed_tree c) e) ∙ eq_tree-true u (changed_tree d) f))
    go true false e f = refl
    go false true e f = refl
    go false false e f = refl

-- those by one tree do not: the last one decides
pub inserted-last : (t : Tree) (S : Tree → Bool) → changed_set (insert t) (changed_set (delete t) S) t ≡ true
inserted-last t S = decided (insert t) (changed_set (delete t) S) t ∙ rw (eq_tree-same t)

pub deleted-last : (t : Tree) (S : Tree → Bool) → changed_set (delete t) (changed_set (insert t) S) t ≡ false
deleted-last t S = decided (delete t) (changed_set (insert t) S) t ∙ rw (eq_tree-same t)

-- a second change of the same tree that restores what was there undoes the first
sets-undone : (c d : Change) → changed_tree d ≡ changed_tree c → (S : Tree → Bool) → S (changed_tree c) ≡ puts d →
    (u : Tree) → changed_set d (changed_set c S) u ≡ S u
sets-undone c d tree S h u = decided-twice c d S u ∙ rw tree (go (eq_tree u (changed_tree c)) refl)
  where
    go : (p : Bool) → eq_tree u (changed_tree c) ≡ p → cond p (puts d) (cond p (puts c) (S u)) ≡ S u
    go true e = sym h ∙ ap S (sym (eq_tree-true u (changed_tree c) e))
    go false e = refl

-- ---- tables

-- the change that a request makes
abbrev change_of : Kind → Tree → Change
change_of addition t = insert t
change_of withdrawal t = delete t

abbrev change_by : Request → Change
change_by x = change_of x.kind (request_tree x)

change-tree : (k : Kind) (t : Tree) → changed_tree (change_of k t) ≡ t
change-tree addition t = refl
change-tree withdrawal t = refl

call-change : (k : Kind) (s b w : List ℕ) → call_result k s b w ≡ change_result (change_of k (read_tree s)) s b w
unfolding add_result remove_result
call-change addition s b w = refl
call-change withdrawal s b w = refl

-- 14 and 15: the opposite change restores what was there
before : (k : Kind) (t u : Tree) (present : Bool) → (presence (change_of k t) present).holds ≡ true →
    present ≡ puts (change_of (opposite k) u)
before addition t u true e = sym e
before addition t u false e = refl
before withdrawal t u present e = e

-- a request whose call says done, on a table in step with a model
module _ (m : Model) (x : Request) (b b' : List ℕ) (X : InStep b m) (E : Fulfilled x b b') where
  abbrev w : List ℕ
  w = E.scratch

  answered : (change_result (change_by x) x.listing b w).answer ≡ Done E.states E.transitions
  answered = ap (λ (r : Result). r.answer) (sym (call-change x.kind x.listing b w)) ∙ E.answer

  entered-in-step : InStep b' (with_change (change_by x) m)
  entered-in-step =
      subst (λ (l : List ℕ). InStep l (with_change (change_by x) m))
      (ap (λ (r : Result). r.table) (sym (call-change x.kind x.listing b w)) ∙ E.table)
      (done-in-step (change_by x) x.listing b w m X x.bytes (change-tree x.kind (request_tree x))
      E.states E.transitions answered)

  -- no condition was broken, 14 or 15 among them
  entered-presence : (presence (change_by x) (member m (changed_tree (change_by x)))).holds ≡ true
  unfolding model_refusal model_conditions
  entered-presence =
      let (p, q) = hold-append (listing_conditions x.listing) _
      (unbroken-hold (model_conditions m (change_by x) x.listing w) (model-from-one m (change_by x) x.listing w)
      (done-unrefused (change_by x) x.listing b w m X E.states E.transitions answered)) in
      q.1.0

-- tables in step with models of the same members are equal in every byte
in-step-same : (b b' : List ℕ) (m n : Model) → InStep b m → InStep b' n → ((u : Tree) → member m u ≡ member n u) →
    b ≡ b'
in-step-same b b' m n X Y e =
    X.table ∙ ap encode (same-canonical m n X.canonical Y.canonical e) ∙ sym Y.table

-- on a table that passed intake
module _ (b : List ℕ) (bytes : AllBytes b) (passed : table_refusal b ≡ 0) where
  -- if all four calls say done, x then y leaves the same bytes as y then x
  pub changes-commute : (x y : Request) (bx by bxy byx : List ℕ) → Different (request_tree x) (request_tree y) →
      Fulfilled x b bx → Fulfilled y bx bxy → Fulfilled y b by → Fulfilled x by byx → bxy ≡ byx
  unfolding member
  changes-commute x y bx by bxy byx different ex exy ey eyx =
      let X = passed-in-step b bytes passed in
      let XY = entered-in-step _ y bx bxy (entered-in-step _ x b bx X ex) exy in
      let YX = entered-in-step _ x by byx (entered-in-step _ y b by X ey) eyx in
      in-step-same bxy byx _ _ XY YX
      (sets-commute (change_by x) (change_by y) (rw (change-tree x.kind, change-tree y.kind) different)
      (member (model_of b)))

  -- an addition followed by the withdrawal of that tree gives the first bytes back, and so does the other way round
  pub change-undone : (x y : Request) (b₁ b₂ : List ℕ) → y.kind ≡ opposite x.kind → request_tree y ≡ request_tree x →
      Fulfilled x b b₁ → Fulfilled y b₁ b₂ → b₂ ≡ b
  unfolding member
  change-undone x y b₁ b₂ kinds trees ex ey =
      let X = passed-in-step b bytes passed in
      let Y = entered-in-step _ y b₁ b₂ (entered-in-step _ x b b₁ X ex) ey in
      in-step-same b₂ b _ _ Y X
      (sets-undone (change_by x) (change_by y)
      (change-tree y.kind (request_tree y) ∙ trees ∙ sym (change-tree x.kind (request_tree x))) (member (model_of b))
      (before x.kind (request_tree x) (request_tree y) _ (entered-presence _ x b b₁ X ex)
      ∙ ap (λ (k : Kind). puts (change_of k (request_tree y))) (sym kinds)))

  -- the same, written out for an addition and a withdrawal of one listing
  pub added-removed : (s w w' : List ℕ) → AllBytes s → (n m n' m' : ℕ) → (add_result s b w).answer ≡ Done n m →
      (remove_result s (add_result s b w).table w').answer ≡ Done n' m' →
      (remove_result s (add_result s b w).table w').table ≡ b
  added-removed s w w' h n m n' m' e f =
      change-undone (record { kind = addition; listing = s; bytes = h })
      (record { kind = withdrawal; listing = s; bytes = h }) (add_result s b w).table _ refl refl
      (record { scratch = w; states = n; transitions = m; answer = e; table = refl })
      (record { scratch = w'; states = n'; transitions = m'; answer = f; table = refl })
