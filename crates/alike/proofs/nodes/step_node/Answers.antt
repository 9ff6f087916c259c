-- `alike::nodes::step_node` meets its contract: 0 if a child has no state, else the transition is searched for.
use mathlib.Core.Path.{◌∙◌, ap, sym}
use lib.ListN.{take}
use Rattle.automata.specs.Automaton.{lookup}
use Rattle.alike.proofs.NodeNames.{step-found, step-lost}
use Rattle.alike.proofs.nodes.step_node.Goals as goal

pub returns-then-some_zero : goal.returns-then-some_zero
returns-then-some_zero c =
    λ A e. step-lost A c.args.label (take c.args.arity c.args.qs) (sym c.if-some_zero.true ∙ c.some_zero.ensures)

pub returns : goal.returns
returns c =
    λ A e. step-found A c.args.label (take c.args.arity c.args.qs) (sym c.if-some_zero.false ∙ c.some_zero.ensures) (c.output.ensures ∙ ap (lookup c.args.label (take c.args.arity c.args.qs)) (sym e))
