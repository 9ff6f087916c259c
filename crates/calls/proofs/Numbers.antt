-- What tree to number and number to tree answer, in words of the set: how many of its trees come before one, and which
-- tree has so many before it. A set and its automaton have one such answer.
use mathlib.Core.Bool.{Bool, cond, false, true, true≢false}
use mathlib.Core.List.{List, [], ◌∷◌}
use mathlib.Core.Path.{◌∙◌, ◌≡◌, ap, ap₂, refl, subst, sym}
use Prim.Native.Nat.{◌<◌, ℕ}
use native.Mathlib.Omega.{arith}
use lib.Dec.{eqb, ltb}
use borrow.Author.Tests.{ltb-false, ltb-true}
use Rattle.automata.specs.Acyclic.{Bounded, acyclic}
use Rattle.automata.specs.Automaton.{Automaton, accepts, run}
use Rattle.automata.specs.Canonical.{Canonical}
use Rattle.automata.specs.Ranks.{Before, rank, unrank}
use Rattle.automata.specs.Stops.{stop_place}
use Rattle.automata.specs.Totals.{total}
use Rattle.calls.specs.Calls.{Response, asked, buffer_condition, number_conditions, ranked, refused_or, written}
use Rattle.calls.specs.Claim.{NumberReports, Numbers, Ranked, Reports, Unranked}
use Rattle.calls.specs.Series.{only_answer}
use Rattle.calls.specs.declared.Answer.{Answer}
use Rattle.calls.specs.declared.Answer.TheVariants.{Total, Over, Finished, Done, Accepted, Approved, NotAt, NotPart, Refused, Serial}
use Rattle.format.specs.Format.{number_limit}
use Rattle.lists.specs.Conditions.{first_broken}
use Rattle.table.specs.Intake.{table_refusal}
use Rattle.table.specs.Layout.{decode}
use Rattle.trees.specs.Listing.{listing_refusal, read_tree}
use Rattle.trees.specs.Tree.{Tree}
use Rattle.automata.proofs.Bounded.{bounded-acyclic}
use Rattle.automata.proofs.CanonicalChange.{canonical-ranged}
use Rattle.automata.proofs.CanonicalRun.{canonical-accepts}
use Rattle.automata.proofs.RankOrder.{acyclic-rank-counted}
use Rattle.automata.proofs.Ranks.{acyclic-rank-less, acyclic-rank-unrank, acyclic-unrank-accepted, acyclic-unrank-rank}
use Rattle.automata.proofs.Stops.{first-stop-none}
use Rattle.calls.proofs.Reports.{asked-reports, reports-same}
use Rattle.lists.proofs.Counts.{counts_same, counts-unique}
use Rattle.table.proofs.Intake.{unrefused-passes}

-- a tree that is not accepted is not approved
pub unapproved : (A : Automaton) (t : Tree) → accepts A t ≡ false → asked A t ≡ Approved → ⊥
unfolding asked
unapproved A t e = rw e (go (eqb (run A t) 0))
  where
    go : (c : Bool) → cond c (NotAt (stop_place A t)) NotPart ≡ Approved → ⊥
    go true z = let y : ◌≡◌ {A = ℕ} 0 1 = cc in absurd (omega arith)
    go false z = let y : ◌≡◌ {A = ℕ} 0 1 = cc in absurd (omega arith)

-- up to 19 a refusal does not depend on the tree
written-aside : (x y : Bool) (t u : Tree) (l : List ℕ) →
    written (cond x (cond y 19 18) 6) t l ≡ written (cond x (cond y 19 18) 6) u l
unfolding written
written-aside true true t u l = refl
written-aside true false t u l = refl
written-aside false y t u l = refl

-- a table that is not refused numbers its trees below the total
pub passed-rank-less : (b : List ℕ) → table_refusal b ≡ 0 → (t : Tree) → accepts (decode b) t ≡ true →
    rank (decode b) t < total (decode b)
passed-rank-less b z =
    let p = unrefused-passes b z in acyclic-rank-less (decode b) p.valid.ranged p.valid.rises p.acyclic

module _ (S : Tree → Bool) (A : Automaton) (X : Canonical S A) (bounded : Bounded S) where
  ranged-acyclic : acyclic A ≡ true
  ranged-acyclic = bounded-acyclic S A X bounded

  -- the number of a tree of the set counts the trees of the set before it
  pub rank-numbers : (t : Tree) → accepts A t ≡ true → Numbers S A t (rank A t)
  rank-numbers t e = record {
    member = sym (canonical-accepts S A X t) ∙ e;
    before =
        counts_same (λ u. (accepts A u ≡ true) × Before A u t) (λ u. (S u ≡ true) × Before A u t) (rank A t)
        (λ u. (
          λ h. (sym (canonical-accepts S A X u) ∙ h.0, h.1),
          λ h. (canonical-accepts S A X u ∙ h.0, h.1),
        ))
        (acyclic-rank-counted A (canonical-ranged S A X) X.sorted ranged-acyclic t e);
  }

  pub unrank-numbers : (k : ℕ) → k < total A → Numbers S A (unrank A k) k
  unrank-numbers k h =
      subst (Numbers S A (unrank A k))
      (acyclic-rank-unrank A (canonical-ranged S A X) X.sorted ranged-acyclic k h)
      (rank-numbers (unrank A k) (acyclic-unrank-accepted A (canonical-ranged S A X) X.sorted ranged-acyclic k h))

  pub ranked-reports : (t : Tree) → NumberReports S A (total A) t (ranked A t)
  unfolding ranked
  ranked-reports t = go (accepts A t) refl (ltb (total A) number_limit) refl
    where
      other : (a : Answer) → Reports S t a → (a ≡ Approved → ⊥) → NumberReports S A (total A) t a
      other Approved r n = absurd (n refl)
      other NotPart r n = r
      other (NotAt k) r n = r
      other (Accepted _ _) r n = elim r [ ]
      other (Done _ _) r n = elim r [ ]
      other (Total _) r n = elim r [ ]
      other Over r n = elim r [ ]
      other (Serial _) r n = elim r [ ]
      other Finished r n = elim r [ ]
      other (Refused _) r n = elim r [ ]

      go : (x : Bool) → accepts A t ≡ x → (y : Bool) → ltb (total A) number_limit ≡ y →
          NumberReports S A (total A) t (cond x (cond y (Serial (rank A t)) (Refused 18)) (asked A t))
      go true e true l = (ltb-true (total A) number_limit l, rank-numbers t e)
      go true e false l =
          (refl, omega (arith, ltb-false (total A) number_limit l), sym (canonical-accepts S A X t) ∙ e)
      go false e y l = other (asked A t) (asked-reports S A X t) (unapproved A t e)

  -- ---- a set and its automaton have one answer

  -- a tree has one number
  pub numbers-rank : (t : Tree) (k : ℕ) → Numbers S A t k → k ≡ rank A t
  numbers-rank t k N =
      counts-unique (λ u. (S u ≡ true) × Before A u t) k (rank A t) N.before
      (rank-numbers t (canonical-accepts S A X t ∙ N.member)).before

  -- a number has one tree
  pub numbers-tree : (t u : Tree) (k : ℕ) → Numbers S A t k → Numbers S A u k → t ≡ u
  numbers-tree t u k N M =
      sym (from t N) ∙ ap (unrank A) (sym (numbers-rank t k N) ∙ numbers-rank u k M) ∙ from u M
    where
      from : (v : Tree) → Numbers S A v k → unrank A (rank A v) ≡ v
      from v W =
          acyclic-unrank-rank A (canonical-ranged S A X) X.sorted ranged-acyclic v (canonical-accepts S A X v ∙ W.member)

  reports-one : (n : ℕ) (t : Tree) (a b : Answer) → NumberReports S A n t a → NumberReports S A n t b → a ≡ b
  reports-one n t NotPart NotPart p q = refl
  reports-one n t NotPart (NotAt k) p q = reports-same S t NotPart (NotAt k) p q
  reports-one n t NotPart (Serial k) p q = absurd (true≢false (sym q.1.member ∙ p.0))
  reports-one n t NotPart (Refused k) p q = absurd (true≢false (sym q.2 ∙ p.0))
  reports-one n t (NotAt j) NotPart p q = reports-same S t (NotAt j) NotPart p q
  reports-one n t (NotAt j) (NotAt k) p q = reports-same S t (NotAt j) (NotAt k) p q
  reports-one n t (NotAt j) (Serial k) p q = absurd (first-stop-none S t j p ([], q.1.member))
  reports-one n t (NotAt j) (Refused k) p q = absurd (first-stop-none S t j p ([], q.2))
  reports-one n t (Serial j) NotPart p q = absurd (true≢false (sym p.1.member ∙ q.0))
  reports-one n t (Serial j) (NotAt k) p q = absurd (first-stop-none S t k q ([], p.1.member))
  reports-one n t (Serial j) (Serial k) p q = ap Serial (numbers-rank t j p.1 ∙ sym (numbers-rank t k q.1))
  reports-one n t (Serial j) (Refused k) p q = absurd (omega (arith, p.0, q.1))
  reports-one n t (Refused j) NotPart p q = absurd (true≢false (sym p.2 ∙ q.0))
  reports-one n t (Refused j) (NotAt k) p q = absurd (first-stop-none S t k q ([], p.2))
  reports-one n t (Refused j) (Serial k) p q = absurd (omega (arith, q.0, p.1))
  reports-one n t (Refused j) (Refused k) p q = ap Refused (p.0 ∙ sym q.0)
  reports-one n t Approved b p q = elim p [ ]
  reports-one n t NotPart Approved p q = elim q [ ]
  reports-one n t NotPart (Accepted _ _) p q = elim q [ ]
  reports-one n t NotPart (Done _ _) p q = elim q [ ]
  reports-one n t NotPart (Total _) p q = elim q [ ]
  reports-one n t NotPart Over p q = elim q [ ]
  reports-one n t NotPart Finished p q = elim q [ ]
  reports-one n t (NotAt j) Approved p q = elim q [ ]
  reports-one n t (NotAt j) (Accepted _ _) p q = elim q [ ]
  reports-one n t (NotAt j) (Done _ _) p q = elim q [ ]
  reports-one n t (NotAt j) (Total _) p q = elim q [ ]
  reports-one n t (NotAt j) Over p q = elim q [ ]
  reports-one n t (NotAt j) Finished p q = elim q [ ]
  reports-one n t (Accepted _ _) b p q = elim p [ ]
  reports-one n t (Done _ _) b p q = elim p [ ]
  reports-one n t (Total _) b p q = elim p [ ]
  reports-one n t Over b p q = elim p [ ]
  reports-one n t (Serial j) Approved p q = elim q [ ]
  reports-one n t (Serial j) (Accepted _ _) p q = elim q [ ]
  reports-one n t (Serial j) (Done _ _) p q = elim q [ ]
  reports-one n t (Serial j) (Total _) p q = elim q [ ]
  reports-one n t (Serial j) Over p q = elim q [ ]
  reports-one n t (Serial j) Finished p q = elim q [ ]
  reports-one n t Finished b p q = elim p [ ]
  reports-one n t (Refused j) Approved p q = elim q [ ]
  reports-one n t (Refused j) (Accepted _ _) p q = elim q [ ]
  reports-one n t (Refused j) (Done _ _) p q = elim q [ ]
  reports-one n t (Refused j) (Total _) p q = elim q [ ]
  reports-one n t (Refused j) Over p q = elim q [ ]
  reports-one n t (Refused j) Finished p q = elim q [ ]

  pub ranked-same : (s : List ℕ) (r q : Response) → Ranked S A s r → Ranked S A s q → r ≡ q
  ranked-same s r q R Q =
      R.response
      ∙ ap (λ (a : Answer). only_answer (refused_or (listing_refusal s) a))
      (reports-one R.number (read_tree s) R.answer Q.answer R.reports
      (rw (counts-unique (λ t. S t ≡ true) R.number Q.number R.counts Q.counts) Q.reports))
      ∙ sym Q.response

  pub unranked-same : (k : ℕ) (l : List ℕ) (r q : Response) → Unranked S A k l r → Unranked S A k l q → r ≡ q
  unranked-same k l r q R Q =
      R.response ∙ go (ltb k R.number) refl ∙ sym Q.response
    where
      same : R.number ≡ Q.number
      same = counts-unique (λ t. S t ≡ true) R.number Q.number R.counts Q.counts

      answered : ℕ → Tree → Response
      answered n t = written (first_broken (buffer_condition l ∷ number_conditions n k t)) t l

      aside : (n : ℕ) (t u : Tree) → ltb k n ≡ false → answered n t ≡ answered n u
      aside n t u e = rw e (written-aside (buffer_condition l).holds (ltb n number_limit) t u l)

      go : (b : Bool) → ltb k R.number ≡ b → answered R.number R.tree ≡ answered Q.number Q.tree
      go true e =
          let h = ltb-true k R.number e in
          ap₂ answered same (numbers-tree R.tree Q.tree k (R.numbers h) (Q.numbers (omega (arith, h, same))))
      go false e = aside R.number R.tree Q.tree e ∙ ap (λ (n : ℕ). answered n Q.tree) same
