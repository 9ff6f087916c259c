-- What ask answers, in words of the set: the answer by the canonical automaton reports on the tree, and a set and a
-- tree have one such answer.
use mathlib.Core.Bool.{Bool, cond, false, true, true≢false}
use mathlib.Core.List.{List, []}
use mathlib.Core.Logic.{◌⊎◌, inl, inr}
use mathlib.Core.Path.{◌∙◌, ◌≡◌, ap, refl, sym}
use Prim.Native.Nat.{ℕ}
use lib.Dec.{eqb}
use borrow.Author.Tests.{eqb-false, eqb-true}
use Rattle.automata.specs.Automaton.{Automaton, accepts, run}
use Rattle.automata.specs.Canonical.{Canonical, Subtree}
use Rattle.automata.specs.Stops.{stop_place}
use Rattle.calls.specs.Calls.{Response, asked, refused_or}
use Rattle.calls.specs.Claim.{Reported, Reports}
use Rattle.calls.specs.Series.{only_answer}
use Rattle.calls.specs.declared.Answer.{Answer}
use Rattle.calls.specs.declared.Answer.TheVariants.{Total, Serial, Refused, Over, Finished, Done, Accepted, Approved, NotAt, NotPart}
use Rattle.trees.specs.Listing.{listing_refusal, read_tree}
use Rattle.trees.specs.Tree.{Tree}
use Rattle.automata.proofs.CanonicalRun.{canonical-accepts, run-or-subtree}
use Rattle.automata.proofs.Stops.{first-stop-none, first-stop-same, stop-first}

pub asked-reports : (S : Tree → Bool) (A : Automaton) → Canonical S A → (t : Tree) → Reports S t (asked A t)
unfolding asked
asked-reports S A X t = go (accepts A t) refl (eqb (run A t) 0) refl
  where
    part : eqb (run A t) 0 ≡ false → (run A t ≡ 0) ⊎ Subtree S t → Subtree S t
    part z (inl n) = absurd (eqb-false (run A t) 0 z n)
    part z (inr p) = p

    go : (b : Bool) → accepts A t ≡ b → (c : Bool) → eqb (run A t) 0 ≡ c →
        Reports S t (cond b Approved (cond c (NotAt (stop_place A t)) NotPart))
    go true e c z = sym (canonical-accepts S A X t) ∙ e
    go false e true z = stop-first S A X t (eqb-true (run A t) 0 z)
    go false e false z = (sym (canonical-accepts S A X t) ∙ e, part z (run-or-subtree S A X t))

-- a set and a tree have one answer
pub reports-same : (S : Tree → Bool) (t : Tree) (a b : Answer) → Reports S t a → Reports S t b → a ≡ b
reports-same S t Approved Approved p q = refl
reports-same S t Approved NotPart p q = absurd (true≢false (sym p ∙ q.0))
reports-same S t Approved (NotAt k) p q = absurd (first-stop-none S t k q ([], p))
reports-same S t NotPart Approved p q = absurd (true≢false (sym q ∙ p.0))
reports-same S t NotPart NotPart p q = refl
reports-same S t NotPart (NotAt k) p q = absurd (first-stop-none S t k q p.1)
reports-same S t (NotAt j) Approved p q = absurd (first-stop-none S t j p ([], q))
reports-same S t (NotAt j) NotPart p q = absurd (first-stop-none S t j p q.1)
reports-same S t (NotAt j) (NotAt k) p q = ap NotAt (first-stop-same S t j k p q)
reports-same S t Approved (Accepted _ _) p q = elim q [ ]
reports-same S t Approved (Done _ _) p q = elim q [ ]
reports-same S t Approved (Total _) p q = elim q [ ]
reports-same S t Approved Over p q = elim q [ ]
reports-same S t Approved (Serial _) p q = elim q [ ]
reports-same S t Approved Finished p q = elim q [ ]
reports-same S t Approved (Refused _) p q = elim q [ ]
reports-same S t NotPart (Accepted _ _) p q = elim q [ ]
reports-same S t NotPart (Done _ _) p q = elim q [ ]
reports-same S t NotPart (Total _) p q = elim q [ ]
reports-same S t NotPart Over p q = elim q [ ]
reports-same S t NotPart (Serial _) p q = elim q [ ]
reports-same S t NotPart Finished p q = elim q [ ]
reports-same S t NotPart (Refused _) p q = elim q [ ]
reports-same S t (NotAt j) (Accepted _ _) p q = elim q [ ]
reports-same S t (NotAt j) (Done _ _) p q = elim q [ ]
reports-same S t (NotAt j) (Total _) p q = elim q [ ]
reports-same S t (NotAt j) Over p q = elim q [ ]
reports-same S t (NotAt j) (Serial _) p q = elim q [ ]
reports-same S t (NotAt j) Finished p q = elim q [ ]
reports-same S t (NotAt j) (Refused _) p q = elim q [ ]
reports-same S t (Accepted _ _) b p q = elim p [ ]
reports-same S t (Done _ _) b p q = elim p [ ]
reports-same S t (Total _) b p q = elim p [ ]
reports-same S t Over b p q = elim p [ ]
reports-same S t (Serial _) b p q = elim p [ ]
reports-same S t Finished b p q = elim p [ ]
reports-same S t (Refused _) b p q = elim p [ ]

-- so what ask gives back follows from the set and the bytes
pub reported-same : (S : Tree → Bool) (s : List ℕ) (r q : Response) → Reported S s r → Reported S s q → r ≡ q
reported-same S s r q R Q =
    R.response
    ∙ ap (λ (a : Answer). only_answer (refused_or (listing_refusal s) a))
    (reports-same S (read_tree s) R.answer Q.answer R.reports Q.reports)
    ∙ sym Q.response
