-- `put_number` meets its contract, and ends since a tenth of the number is less: the digits before the last are those
-- of the tenth.
use Rattle.report.proofs.+put_number.Given as goal

abbrev pub decreases-put_number : goal.decreases-put_number
decreases-put_number l = l.n
