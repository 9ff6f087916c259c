-- `quotient::plain::unmark` meets its contract: a state without its mark keeps its name and has no other.
use mathlib.Core.Path.{◌∙◌, sym}
use native.Mathlib.Omega.{arith}
use lib.ListN.{length-set}
use Rattle.quotient.proofs.PlainChoice.{odd-next}
use Rattle.quotient.proofs.plain.unmark.Goals as goal

pub returns : goal.returns
returns c =
    record {
      odd_len_2 = simp length-set c.requires.odd_len;
      odd_marked_2 = odd-next c.args.odd.now c.requires.odd_marked record {
        some = c.requires.le_q;
        state = c.requires.q_le_n;
        first = sym c.from.ensures ∙ c.if-from-q.false;
        last = omega arith;
      };
    }
